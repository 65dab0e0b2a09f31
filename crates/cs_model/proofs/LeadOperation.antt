-- What becomes of a state by each operation.
use Rattle.std.proofs.Common.{◌≡◌, ℕ, zero, suc, ◌+◌, ◌-◌, ◌*◌, ◌<◌, Bool, true, false, refl, sym, ap, subst, ◌∙◌, Option, Some, None, IsSome, is_some, List, [], ◌∷◌, length, inl, inr, arith, unwrap_or}
use Rattle.std.specs.Prelude.{slice_set}
use Rattle.std.proofs.lemmas.Bool.Decides.{eqb_tells}
use Rattle.cs_model.specs.Ref.{Ref, Small, Char, named_object}
use Rattle.cs_model.specs.Ref as ref
use Rattle.cs_model.specs.Obj.{Obj, Context, Ptr, Raw, Method, Ctx, is_context, class_index_in, lies_in, lies_between, first_pc, slots_in, context_in, with_pc, pushed, popped, stored, edit_context}
use Rattle.cs_model.specs.State.{Kept, object_at, object_of, put, PcLies, is_class_index, IsLive}
use Rattle.cs_model.specs.Read.{blank_context, active_birth, active_context, method_of}
use Rattle.cs_model.specs.Operation.{put_active, edit_active, set_pc_of, push_of, drop_of, set_stack_of, edit_found, edit_object, with_slot, with_byte, with_hash, with_fixed, store_of, store_byte_of, set_fixed_of, add_of, activate, resume_of, suspend_of}
use Rattle.cs_model.proofs.Objects.{object_at-put_same, object_at-put_other, at_put, rest-put}
use Rattle.cs_model.proofs.Leading.{Sound, Becomes, becomes_by, becomes_new, Like, like_itself, like_context, Stays, Leads, leads_itself, pc_lies_on, plain_on, PcsLie, pc_in, put_leads, rest_leads}
use Rattle.cs_model.proofs.LeadCombining.{Ready, Goes, goes_by, active_found, active_live}

-- ---- the active context

context_inj : {c d : Context} → Ctx c ≡ Ctx d → c ≡ d
context_inj e = ap (λ o. unwrap_or (context_in (Some o)) blank_context) e

pub context_lies : {k : Kept} (d : Context) → PcLies k d → PcsLie k (Ctx d)
context_lies {k} d h = record { lies = λ c e. subst (λ x. PcLies k x) (context_inj e) h }

pub no_context_lies : {k : Kept} {o : Obj} → is_context o ≡ false → PcsLie k o
no_context_lies {k} {o} h = record { lies = λ c e. absurd (not_both (sym h ∙ ap is_context e)) } where
  not_both : false ≡ true → ⊥
  not_both e = cc

pub put_active_goes : {k : Kept} (d : Context) → Ready k → PcLies k d → IsSome d.pc → Goes k (put_active k d)
put_active_goes {k} d r lies live =
    goes_by (put_leads (active_birth k) (Ctx (active_context k)) (Ctx d) r.sound (active_found r) (like_context (active_context k) d) (context_lies d lies) (λ e. live)) r.runs
    (ap (λ s. s.active) (rest-put k (active_birth k) (Ctx d)))

pub active_lies : {k : Kept} → Ready k → PcLies k (active_context k)
active_lies {k} r = r.sound.pcs (active_birth k) (active_context k) (active_found r)

-- the pc and the method stay
pub record KeepsPlace (f : Context → Context) : Type 0 where
  pub pc : (c : Context) → (f c).pc ≡ c.pc
  pub method : (c : Context) → (f c).method ≡ c.method

place_lies : (k : Kept) (f : Context → Context) → KeepsPlace f → (c : Context) → PcLies k c → PcLies k (f c)
place_lies k f p c lies pc e = ap (λ m. lies_in (object_of k m) pc) (p.method c) ∙ lies pc (sym (p.pc c) ∙ e)

pub edit_active_goes : {k : Kept} (f : Context → Context) → KeepsPlace f → Ready k → Goes k (edit_active k f)
edit_active_goes {k} f p r = put_active_goes (f (active_context k)) r (place_lies k f p (active_context k) (active_lies r)) (ap is_some (p.pc (active_context k)) ∙ active_live r)

pub set_pc_goes : {k : Kept} (pc : ℕ) → Ready k → lies_in (method_of k) pc ≡ true → Goes k (set_pc_of k pc)
unfolding set_pc_of method_of
set_pc_goes {k} pc r lies = put_active_goes (with_pc (Some pc) (active_context k)) r (λ qc e. ap (λ n. lies_in (object_of k (active_context k).method) n) (ap (λ o. unwrap_or o 0) (sym e)) ∙ lies) refl

pub push_goes : {k : Kept} (x : Ref) → Ready k → Goes k (push_of k x)
unfolding push_of
push_goes x r = edit_active_goes (pushed x) (record { pc = λ c. refl; method = λ c. refl }) r

pub drop_goes : {k : Kept} (n : ℕ) → Ready k → Goes k (drop_of k n)
unfolding drop_of
drop_goes n r = edit_active_goes (popped n) (record { pc = λ c. refl; method = λ c. refl }) r

pub set_stack_goes : {k : Kept} (i : ℕ) (x : Ref) → Ready k → Goes k (set_stack_of k i x)
unfolding set_stack_of
set_stack_goes i x r = edit_active_goes (stored i x) (record { pc = λ c. refl; method = λ c. refl }) r

-- ---- objects

-- a change of an object that keeps its kind, and, of a context, its pc and its method
pub record Mild (f : Obj → Obj) (o : Obj) : Type 0 where
  pub like : Like o (f o)
  pub pc : pc_in (Some (f o)) ≡ pc_in (Some o)
  pub lies : (k : Kept) → PcsLie k o → PcsLie k (f o)

pub mild_itself : (f : Obj → Obj) (o : Obj) → f o ≡ o → Mild f o
mild_itself f o e = record {
  like = subst (λ p. Like o p) (sym e) (like_itself o);
  pc = ap (λ p. pc_in (Some p)) e;
  lies = λ k h. subst (λ p. PcsLie k p) (sym e) h;
}

pub slice_set-empty : {A : Type 0} (xs : List A) (i : ℕ) (x : A) → xs ≡ [] → slice_set xs i x ≡ []
slice_set-empty [] i x e = refl
slice_set-empty (y ∷ xs) i x e = absurd (cc)

pub length-slice_set : {A : Type 0} (xs : List A) (i : ℕ) (x : A) → length (slice_set xs i x) ≡ length xs
length-slice_set [] i x = refl
length-slice_set (y ∷ xs) zero x = refl
length-slice_set (y ∷ xs) (suc i) x = ap suc (length-slice_set xs i x)

some_inj : {A : Type 0} (x y : A) → Some x ≡ Some y → x ≡ y
some_inj x y e = ap (λ o. unwrap_or o x) e

pub with_slot_mild : (i : ℕ) (x : Ref) (o : Obj) → Mild (with_slot i x) o
with_slot_mild i x (Ptr head slots) = record {
  like = record {
    becomes = record { held = λ h. refl; plain = λ h e. refl; lies = λ pc h. h; method = λ h. h };
    index = λ h. h;
    bare = λ h. ap (λ xs. Some xs) (slice_set-empty slots i x (some_inj slots [] h));
  };
  pc = refl;
  lies = λ k h. no_context_lies refl;
}
with_slot_mild i x (Raw head bytes) = mild_itself (with_slot i x) (Raw head bytes) refl
with_slot_mild i x (Method head header literals bytecodes) = record {
  like = record {
    becomes = record { held = λ h. refl; plain = λ h e. refl; lies = λ pc h. ap (λ n. lies_between (4 * (n + 1) + 1) (length bytecodes) pc) (length-slice_set literals (i - 1) x) ∙ h; method = λ h. h };
    index = λ h. h;
    bare = λ h. absurd (cc);
  };
  pc = refl;
  lies = λ k h. no_context_lies refl;
}
with_slot_mild i x (Ctx c) = mild_itself (with_slot i x) (Ctx c) refl

pub with_byte_mild : (i b : ℕ) (o : Obj) → Mild (with_byte i b) o
with_byte_mild i b (Ptr head slots) = mild_itself (with_byte i b) (Ptr head slots) refl
with_byte_mild i b (Raw head bytes) = record {
  like = record {
    becomes = record { held = λ h. refl; plain = λ h e. refl; lies = λ pc h. h; method = λ h. h };
    index = λ h. h;
    bare = λ h. absurd (cc);
  };
  pc = refl;
  lies = λ k h. no_context_lies refl;
}
with_byte_mild i b (Method head header literals bytecodes) = record {
  like = record {
    becomes = record { held = λ h. refl; plain = λ h e. refl; lies = λ pc h. ap (λ n. lies_between (first_pc literals) n pc) (length-slice_set bytecodes i b) ∙ h; method = λ h. h };
    index = λ h. h;
    bare = λ h. absurd (cc);
  };
  pc = refl;
  lies = λ k h. no_context_lies refl;
}
with_byte_mild i b (Ctx c) = mild_itself (with_byte i b) (Ctx c) refl

pub with_hash_mild : (n : ℕ) (o : Obj) → Mild (with_hash n) o
with_hash_mild n (Ptr head slots) = record {
  like = record { becomes = record { held = λ h. refl; plain = λ h e. refl; lies = λ pc h. h; method = λ h. h }; index = λ h. h; bare = λ h. h };
  pc = refl;
  lies = λ k h. no_context_lies refl;
}
with_hash_mild n (Raw head bytes) = record {
  like = record { becomes = record { held = λ h. refl; plain = λ h e. refl; lies = λ pc h. h; method = λ h. h }; index = λ h. h; bare = λ h. h };
  pc = refl;
  lies = λ k h. no_context_lies refl;
}
with_hash_mild n (Method head header literals bytecodes) = record {
  like = record { becomes = record { held = λ h. refl; plain = λ h e. refl; lies = λ pc h. h; method = λ h. h }; index = λ h. h; bare = λ h. h };
  pc = refl;
  lies = λ k h. no_context_lies refl;
}
with_hash_mild n (Ctx c) = record {
  like = like_context c (record c { hash = n });
  pc = refl;
  lies = λ k h. context_lies (record c { hash = n }) (h.lies c refl);
}

pub with_fixed_mild : (on : Bool) (o : Obj) → Mild (with_fixed on) o
with_fixed_mild on (Ptr head slots) = record {
  like = record { becomes = record { held = λ h. refl; plain = λ h e. refl; lies = λ pc h. h; method = λ h. h }; index = λ h. h; bare = λ h. h };
  pc = refl;
  lies = λ k h. no_context_lies refl;
}
with_fixed_mild on (Raw head bytes) = record {
  like = record { becomes = record { held = λ h. refl; plain = λ h e. refl; lies = λ pc h. h; method = λ h. h }; index = λ h. h; bare = λ h. h };
  pc = refl;
  lies = λ k h. no_context_lies refl;
}
with_fixed_mild on (Method head header literals bytecodes) = record {
  like = record { becomes = record { held = λ h. refl; plain = λ h e. refl; lies = λ pc h. h; method = λ h. h }; index = λ h. h; bare = λ h. h };
  pc = refl;
  lies = λ k h. no_context_lies refl;
}
with_fixed_mild on (Ctx c) = mild_itself (with_fixed on) (Ctx c) refl

pub edit_context_mild : (f : Context → Context) → KeepsPlace f → (o : Obj) → Mild (edit_context f) o
edit_context_mild f p (Ptr head slots) = mild_itself (edit_context f) (Ptr head slots) refl
edit_context_mild f p (Raw head bytes) = mild_itself (edit_context f) (Raw head bytes) refl
edit_context_mild f p (Method head header literals bytecodes) = mild_itself (edit_context f) (Method head header literals bytecodes) refl
edit_context_mild f p (Ctx c) = record {
  like = like_context c (f c);
  pc = p.pc c;
  lies = λ k h. context_lies (f c) (place_lies k f p c (h.lies c refl));
}

-- an object that isn't there doesn't change
edit_found_case : {k : Kept} (f : Obj → Obj) (i : ℕ) (o : Option Obj) → object_at k i ≡ o → Sound k → ((p : Obj) → object_at k i ≡ Some p → Mild f p) → Leads k (edit_found f i o k)
edit_found_case f i None e s mild = leads_itself s
edit_found_case {k} f i (Some p) e s mild =
    let m = mild p e in
    put_leads i p (f p) s e m.like (m.lies k (record { lies = λ c g. s.pcs i c (e ∙ ap (λ q. Some q) g) }))
    (λ a. ap is_some m.pc ∙ ap (λ q. is_some (pc_in q)) (sym e) ∙ s.live i a)

pub edit_found_leads : {k : Kept} (f : Obj → Obj) (i : ℕ) → Sound k → ((p : Obj) → object_at k i ≡ Some p → Mild f p) → Leads k (edit_found f i (object_at k i) k)
edit_found_leads {k} f i s mild = edit_found_case f i (object_at k i) refl s mild

pub edit_object_leads : {k : Kept} (x : Ref) (f : Obj → Obj) → Sound k → ((p : Obj) → object_of k x ≡ Some p → Mild f p) → Leads k (edit_object k x f)
edit_object_leads (Small a) f s mild = leads_itself s
edit_object_leads (Char c) f s mild = leads_itself s
edit_object_leads (ref.Obj i) f s mild = edit_found_leads f i s mild

pub edit_found-rest : (f : Obj → Obj) (i : ℕ) (o : Option Obj) (k : Kept) → (edit_found f i o k).rest ≡ k.rest
edit_found-rest f i None k = refl
edit_found-rest f i (Some o) k = rest-put k i (f o)

pub edit_object-rest : (k : Kept) (x : Ref) (f : Obj → Obj) → (edit_object k x f).rest ≡ k.rest
edit_object-rest k (Small a) f = refl
edit_object-rest k (Char c) f = refl
edit_object-rest k (ref.Obj i) f = edit_found-rest f i (object_at k i) k

edit_found_pc : (f : Obj → Obj) (k : Kept) (i : ℕ) (o : Option Obj) → object_at k i ≡ o → ((p : Obj) → Mild f p) → (j : ℕ) → pc_in (object_at (edit_found f i o k) j) ≡ pc_in (object_at k j)
edit_found_pc f k i None e mild j = refl
edit_found_pc f k i (Some p) e mild j = elim (eqb_tells j i) [
  | inl g ↦ ap pc_in (ap (object_at (put k i (f p))) g.1 ∙ object_at-put_same k i (f p)) ∙ (mild p).pc ∙ ap pc_in (sym e ∙ ap (object_at k) (sym g.1))
  | inr g ↦ ap pc_in (object_at-put_other k i j (f p) g.1)
]

-- each context has the pc that it had
pub edit_object-pc : (k : Kept) (x : Ref) (f : Obj → Obj) → ((p : Obj) → Mild f p) → (j : ℕ) → pc_in (object_at (edit_object k x f) j) ≡ pc_in (object_at k j)
edit_object-pc k (Small a) f mild j = refl
edit_object-pc k (Char c) f mild j = refl
edit_object-pc k (ref.Obj i) f mild j = edit_found_pc f k i (object_at k i) refl mild j

pub store_leads : {k : Kept} (x : Ref) (i : ℕ) (v : Ref) → Sound k → Leads k (store_of k x i v)
unfolding store_of
store_leads x i v s = edit_object_leads x (with_slot i v) s (λ p e. with_slot_mild i v p)

pub store-rest : (k : Kept) (x : Ref) (i : ℕ) (v : Ref) → (store_of k x i v).rest ≡ k.rest
unfolding store_of
store-rest k x i v = edit_object-rest k x (with_slot i v)

pub store-pc : (k : Kept) (x : Ref) (i : ℕ) (v : Ref) (j : ℕ) → pc_in (object_at (store_of k x i v) j) ≡ pc_in (object_at k j)
unfolding store_of
store-pc k x i v j = edit_object-pc k x (with_slot i v) (with_slot_mild i v) j

pub store-live : (k : Kept) (x : Ref) (i : ℕ) (v : Ref) (j : ℕ) → IsLive k j → IsLive (store_of k x i v) j
store-live k x i v j h = ap is_some (store-pc k x i v j) ∙ h

pub store_goes : {k : Kept} (x : Ref) (i : ℕ) (v : Ref) → Ready k → Goes k (store_of k x i v)
store_goes {k} x i v r = goes_by (store_leads x i v r.sound) r.runs (ap (λ s. s.active) (store-rest k x i v))

pub store_byte_leads : {k : Kept} (x : Ref) (i b : ℕ) → Sound k → Leads k (store_byte_of k x i b)
unfolding store_byte_of
store_byte_leads x i b s = edit_object_leads x (with_byte i b) s (λ p e. with_byte_mild i b p)

pub store_byte-rest : (k : Kept) (x : Ref) (i b : ℕ) → (store_byte_of k x i b).rest ≡ k.rest
unfolding store_byte_of
store_byte-rest k x i b = edit_object-rest k x (with_byte i b)

pub store_byte_goes : {k : Kept} (x : Ref) (i b : ℕ) → Ready k → Goes k (store_byte_of k x i b)
store_byte_goes {k} x i b r = goes_by (store_byte_leads x i b r.sound) r.runs (ap (λ s. s.active) (store_byte-rest k x i b))

pub set_fixed_leads : {k : Kept} (x : Ref) (on : Bool) → Sound k → Leads k (set_fixed_of k x on)
unfolding set_fixed_of
set_fixed_leads x on s = edit_object_leads x (with_fixed on) s (λ p e. with_fixed_mild on p)

pub set_fixed-rest : (k : Kept) (x : Ref) (on : Bool) → (set_fixed_of k x on).rest ≡ k.rest
unfolding set_fixed_of
set_fixed-rest k x on = edit_object-rest k x (with_fixed on)

pub set_fixed_goes : {k : Kept} (x : Ref) (on : Bool) → Ready k → Goes k (set_fixed_of k x on)
set_fixed_goes {k} x on r = goes_by (set_fixed_leads x on r.sound) r.runs (ap (λ s. s.active) (set_fixed-rest k x on))

-- ---- a new object

-- nothing is at the next birth
pub next_free : {k : Kept} → Sound k → object_at k k.rest.next ≡ None
next_free {k} s = go (object_at k k.rest.next) refl where
  go : (o : Option Obj) → object_at k k.rest.next ≡ o → o ≡ None
  go None e = refl
  go (Some o) e = absurd (omega (arith, s.below k.rest.next o e))

held_some : {A : Type 0} (o : Option A) → IsSome o → (x : A) × (o ≡ Some x)
held_some None h = absurd (cc)
held_some (Some x) h = (x, refl)

pub held_below : {k : Kept} → Sound k → (i : ℕ) → IsSome (object_at k i) → i < k.rest.next
held_below {k} s i h = let o = held_some (object_at k i) h in s.below i o.0 o.1

add_stays : {k : Kept} (o : Obj) → Sound k → Stays k (add_of k o)
unfolding add_of
add_stays {k} o s = record {
  at = λ j. elim (eqb_tells j k.rest.next) [
    | inl e ↦ subst (λ q. Becomes q (object_at (put k k.rest.next o) j)) (sym (ap (object_at k) e.1 ∙ next_free s)) (becomes_new (object_at (put k k.rest.next o) j))
    | inr e ↦ becomes_by (object_at-put_other k k.rest.next j o e.1)
  ];
}

-- what is below the next birth is as it was
pub add_below : (k : Kept) (o : Obj) (j : ℕ) → j < k.rest.next → object_at (add_of k o) j ≡ object_at k j
unfolding add_of
add_below k o j h = object_at-put_other k k.rest.next j o (λ e. absurd (omega (arith, h, e)))

pub add_there : (k : Kept) (o : Obj) → object_at (add_of k o) k.rest.next ≡ Some o
unfolding add_of
add_there k o = object_at-put_same k k.rest.next o

pub add-next : (k : Kept) (o : Obj) → (add_of k o).rest.next ≡ k.rest.next + 1
unfolding add_of
add-next k o = refl

pub add-active : (k : Kept) (o : Obj) → (add_of k o).rest.active ≡ k.rest.active
unfolding add_of
add-active k o = refl

live_held : (o : Option Obj) → IsSome (pc_in o) → IsSome o
live_held None h = absurd (cc)
live_held (Some o) h = refl

bare_held : (o : Option Obj) → slots_in o ≡ Some [] → IsSome o
bare_held None h = absurd (cc)
bare_held (Some o) h = refl

pub nil_held : {k : Kept} → Sound k → IsSome (object_at k k.rest.nil)
nil_held {k} s = bare_held (object_at k k.rest.nil) s.bare

add_sound : {k : Kept} (o : Obj) → Sound k → is_class_index (class_index_in o) ≡ true → PcsLie k o → Sound (add_of k o)
unfolding add_of
add_sound {k} o s index lies = record {
  below = λ j q h. elim (at_put k k.rest.next j o q h) [
    | inl e ↦ omega (arith, e.0)
    | inr e ↦ omega (arith, s.below j q e.1)
  ];
  pcs = λ j c h. pc_lies_on (add_stays o s) c (elim (at_put k k.rest.next j o (Ctx c) h) [
    | inl e ↦ lies.lies c (sym e.1)
    | inr e ↦ s.pcs j c e.1
  ]);
  indices = λ j q h. elim (at_put k k.rest.next j o q h) [
    | inl e ↦ subst (λ x. is_class_index (class_index_in x) ≡ true) (sym e.1) index
    | inr e ↦ s.indices j q e.1
  ];
  table = λ i j h. plain_on (add_stays o s) j (s.table i j h);
  hidden = s.hidden;
  bare = ap slots_in (add_below k o k.rest.nil (held_below s k.rest.nil (nil_held s))) ∙ s.bare;
  live = λ j h. ap (λ q. is_some (pc_in q)) (add_below k o j (held_below s j (live_held (object_at k j) (s.live j h)))) ∙ s.live j h;
}

pub add_leads : {k : Kept} (o : Obj) → Sound k → is_class_index (class_index_in o) ≡ true → PcsLie k o → Leads k (add_of k o)
unfolding add_of
add_leads {k} o s index lies = record {
  next = omega arith;
  stays = add_stays o s;
  fresh = λ j h e. add_below k o j h ∙ e;
  nil = refl;
  sound = add_sound o s index lies;
}

pub add_goes : {k : Kept} (o : Obj) → Ready k → is_class_index (class_index_in o) ≡ true → PcsLie k o → Goes k (add_of k o)
add_goes {k} o r index lies = goes_by (add_leads o r.sound index lies) r.runs (add-active k o)

-- ---- another context is active

pub resume_leads : {k : Kept} (i : ℕ) → Sound k → IsLive k i → Leads k (resume_of k i)
unfolding resume_of
resume_leads {k} i s live = rest_leads (activate (Some i) k.rest) s (omega arith) refl s.table s.hidden (λ j e. subst (λ n. IsLive k n) (some_inj i j e) live)

pub resume_goes : {k : Kept} (i : ℕ) → Sound k → IsLive k i → Goes k (resume_of k i)
unfolding resume_of
resume_goes i s live = record { leads = resume_leads i s live; runs = record { active = refl } }

pub suspend_leads : {k : Kept} → Sound k → Leads k (suspend_of k)
unfolding suspend_of
suspend_leads {k} s = rest_leads (activate None k.rest) s (omega arith) refl s.table s.hidden (λ j e. absurd (cc))
