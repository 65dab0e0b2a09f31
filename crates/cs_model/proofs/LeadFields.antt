-- Writes into contexts: what becomes of a state.
use Rattle.std.proofs.Common.{◌≡◌, ℕ, ◌-◌, ◌==◌, ◌&&◌, not, Bool, true, false, refl, sym, ap, subst, ◌∙◌, Option, Some, None, IsSome, is_some, unwrap_or, if◌then◌else◌}
use Rattle.cs_model.specs.Ref.{Ref, Small, Char, small_index, same_ref}
use Rattle.cs_model.specs.Ref as ref
use Rattle.cs_model.specs.Obj.{Obj, Context, Ctx, context_fields, edit_context, is_method, lies_in, stored, with_pc}
use Rattle.cs_model.specs.State.{Kept, object_at, object_of, PcLies, is_nil}
use Rattle.cs_model.specs.Operation.{edit_found, nil_of}
use Rattle.cs_model.specs.Context.{lies_if_live, lies_if_index, accepts, to_depth, with_field, context_put}
use Rattle.cs_model.proofs.Leading.{Sound, like_context, Leads, pc_in, put_leads}
use Rattle.cs_model.proofs.LeadCombining.{Ready, Goes, goes_by}
use Rattle.cs_model.proofs.LeadOperation.{context_lies, edit_found-rest}
use Rattle.cs_model.proofs.LeadEntering.{and_right, index_lies, index_there}

-- a context as it may be written where c stood: its pc lies, and it is live if c must stay so
pub record Written (k : Kept) (active : Bool) (c d : Context) : Type 0 where
  pub lies : PcLies k c → PcLies k d
  pub live : active ≡ true → IsSome c.pc → IsSome d.pc

written_same : (k : Kept) (active : Bool) (c d : Context) → d.pc ≡ c.pc → d.method ≡ c.method → Written k active c d
written_same k active c d e m = record {
  lies = λ h pc g. ap (λ x. lies_in (object_of k x) pc) m ∙ h pc (sym e ∙ g);
  live = λ a h. ap is_some e ∙ h;
}

-- a pc
written_pc : (k : Kept) (active : Bool) (c : Context) (v : Ref) (b : Bool) → is_nil k v ≡ b → (if b then not active else lies_if_index (object_of k c.method) (small_index v)) ≡ true → Written k active c (with_pc (small_index v) c)
written_pc k active c v true n h = record {
  lies = λ g pc e. absurd (nil_pc v n pc e);
  live = λ a g. absurd (not_both (sym (ap not a) ∙ h));
} where
  not_both : false ≡ true → ⊥
  not_both e = cc

  nil_pc : (v : Ref) → is_nil k v ≡ true → (pc : ℕ) → small_index v ≡ Some pc → ⊥
  nil_pc (Small a) n pc e = absurd (cc)
  nil_pc (Char a) n pc e = absurd (cc)
  nil_pc (ref.Obj i) n pc e = absurd (cc)
written_pc k active c v false n h = record {
  lies = λ g pc e. index_lies (object_of k c.method) (small_index v) h pc e;
  live = λ a g. index_there (object_of k c.method) (small_index v) h;
}

written_method : (k : Kept) (active : Bool) (c : Context) (v : Ref) → (not active && is_method (object_of k v) && lies_if_live (object_of k v) c.pc) ≡ true → Written k active c (record c { method = v })
written_method k active c v h = record {
  lies = λ g pc e. live_lies (object_of k v) c.pc (and_right _ _ h) pc e;
  live = λ a g. g;
} where
  live_lies : (m : Option Obj) (o : Option ℕ) → lies_if_live m o ≡ true → (pc : ℕ) → o ≡ Some pc → lies_in m pc ≡ true
  live_lies m None h pc e = absurd (cc)
  live_lies m (Some n) h pc e = ap (lies_in m) (ap (λ o. unwrap_or o 0) (sym e)) ∙ h

written_depth : (k : Kept) (active : Bool) (c : Context) (nil : Ref) (n : Option ℕ) → Written k active c (to_depth nil n c)
written_depth k active c nil None = written_same k active c c refl refl
written_depth k active c nil (Some n) = written_same k active c (to_depth nil (Some n) c) refl refl

-- one case of the two chains of tests
written_if : (k : Kept) (active b : Bool) (c d e : Context) (x y : Bool) → (x ≡ true → Written k active c d) → (y ≡ true → Written k active c e) → (if b then x else y) ≡ true → Written k active c (if b then d else e)
written_if k active true c d e x y f g h = f h
written_if k active false c d e x y f g h = g h

field_written : (k : Kept) (active : Bool) (c : Context) (i : ℕ) (v : Ref) → accepts k active c i v ≡ true → Written k active c (with_field k i v c)
unfolding accepts with_field
field_written k active c i v h =
    written_if k active (i == 0) c _ _ _ _ (λ e. written_same k active c (record c { sender = v }) refl refl)
    (written_if k active (i == 1) c _ _ _ _ (written_pc k active c v (is_nil k v) refl)
    (written_if k active (i == 2) c _ _ _ _ (λ e. written_depth k active c (nil_of k) (small_index v))
    (written_if k active (i == 3) c _ _ _ _ (written_method k active c v)
    (written_if k active (i == 4) c _ _ _ _ (λ e. written_same k active c (record c { closure = v }) refl refl)
    (λ e. plain (i == 5)))))) h where
      plain : (b : Bool) → Written k active c (if b then record c { receiver = v } else stored (i - context_fields) v c)
      plain true = written_same k active c (record c { receiver = v }) refl refl
      plain false = written_same k active c (stored (i - context_fields) v c) refl refl

-- a field of a context is written, where it accepts the value
pub context_put_leads : {k : Kept} (birth : ℕ) (active : Bool) (c : Context) (i : ℕ) (v : Ref) → Sound k → object_at k birth ≡ Some (Ctx c) → (k.rest.active ≡ Some birth → active ≡ true) → accepts k active c i v ≡ true → Leads k (context_put k birth i v)
unfolding context_put
context_put_leads {k} birth active c i v s e is h =
    let w = field_written k active c i v h in
    let d = with_field k i v c in
    subst (λ o. Leads k (edit_found (edit_context (with_field k i v)) birth o k)) (sym e)
    (put_leads birth (Ctx c) (Ctx d) s e (like_context c d) (context_lies d (w.lies (s.pcs birth c e)))
    (λ a. w.live (is a) (ap (λ o. is_some (pc_in o)) (sym e) ∙ s.live birth a)))

pub context_put-rest : (k : Kept) (birth i : ℕ) (v : Ref) → (context_put k birth i v).rest ≡ k.rest
unfolding context_put
context_put-rest k birth i v = edit_found-rest (edit_context (with_field k i v)) birth (object_at k birth) k

pub context_put_goes : {k : Kept} (birth : ℕ) (active : Bool) (c : Context) (i : ℕ) (v : Ref) → Ready k → object_at k birth ≡ Some (Ctx c) → (k.rest.active ≡ Some birth → active ≡ true) → accepts k active c i v ≡ true → Goes k (context_put k birth i v)
context_put_goes {k} birth active c i v r e is h = goes_by (context_put_leads birth active c i v r.sound e is h) r.runs (ap (λ s. s.active) (context_put-rest k birth i v))
