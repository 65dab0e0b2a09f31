-- What holds of a state at every moment, also within a step, and what becomes of a state on the way.
use Rattle.std.proofs.Common.{◌≡◌, ℕ, ◌<◌, ◌≤◌, true, refl, sym, ap, subst, ◌∙◌, Option, Some, None, IsSome, is_some, [], inl, inr, arith, option_and_then}
use Rattle.std.specs.FinMap.{get}
use Rattle.std.proofs.lemmas.Bool.Decides.{eqb_tells}
use Rattle.cs_model.specs.Ref.{Ref, Small, Char}
use Rattle.cs_model.specs.Ref as ref
use Rattle.cs_model.specs.Obj.{Obj, Context, Ctx, class_index_in, lies_in, slots_in, context_in, is_method}
use Rattle.cs_model.specs.State.{Kept, Rest, object_at, object_of, put, with_rest, PcLies, is_class_index, IsLive}
use Rattle.cs_model.proofs.Objects.{object_at-put_same, object_at-put_other, at_put}

-- ---- what holds at every moment

-- an object that is there, and is no context
pub record Plain (k : Kept) (i : ℕ) : Type 0 where
  pub there : IsSome (object_at k i)
  pub plain : context_in (object_at k i) ≡ None

-- What is there is below the next birth; contexts keep their pcs; class indices and the class table are sound; nil has no slots;
-- and an active context is live.
pub record Sound (k : Kept) : Type 0 where
  pub below : (i : ℕ) (o : Obj) → object_at k i ≡ Some o → i < k.rest.next
  pub pcs : (i : ℕ) (c : Context) → object_at k i ≡ Some (Ctx c) → PcLies k c
  pub indices : (i : ℕ) (o : Obj) → object_at k i ≡ Some o → is_class_index (class_index_in o) ≡ true
  pub table : (index i : ℕ) → get k.rest.classes index ≡ Some i → Plain k i
  pub hidden : get k.rest.classes 16 ≡ None
  pub bare : slots_in (object_at k k.rest.nil) ≡ Some []
  pub live : (i : ℕ) → k.rest.active ≡ Some i → IsLive k i

-- ---- what becomes of an object

-- it stays there, a context stays one and nothing else becomes one, and in a method the same pcs lie
pub record Becomes (o p : Option Obj) : Type 0 where
  pub held : IsSome o → IsSome p
  pub plain : IsSome o → context_in o ≡ None → context_in p ≡ None
  pub lies : (pc : ℕ) → lies_in o pc ≡ true → lies_in p pc ≡ true
  pub method : is_method o ≡ true → is_method p ≡ true

pub becomes_itself : (o : Option Obj) → Becomes o o
becomes_itself o = record { held = λ h. h; plain = λ h e. e; lies = λ pc h. h; method = λ h. h }

pub becomes_by : {o p : Option Obj} → p ≡ o → Becomes o p
becomes_by {o} {p} e = subst (λ q. Becomes o q) (sym e) (becomes_itself o)

pub becomes_trans : {o p q : Option Obj} → Becomes o p → Becomes p q → Becomes o q
becomes_trans a b = record {
  held = λ h. b.held (a.held h);
  plain = λ h e. b.plain (a.held h) (a.plain h e);
  lies = λ pc h. b.lies pc (a.lies pc h);
  method = λ h. b.method (a.method h);
}

-- where nothing was, anything may be
pub becomes_new : (p : Option Obj) → Becomes None p
becomes_new p = record { held = λ h. absurd (cc); plain = λ h e. absurd (cc); lies = λ pc h. absurd (cc); method = λ h. absurd (cc) }

-- a change that leaves the kind of an object as it was
pub record Like (o p : Obj) : Type 0 where
  pub becomes : Becomes (Some o) (Some p)
  pub index : is_class_index (class_index_in o) ≡ true → is_class_index (class_index_in p) ≡ true
  pub bare : slots_in (Some o) ≡ Some [] → slots_in (Some p) ≡ Some []

pub like_itself : (o : Obj) → Like o o
like_itself o = record { becomes = becomes_itself (Some o); index = λ h. h; bare = λ h. h }

-- any change of a context
pub like_context : (c d : Context) → Like (Ctx c) (Ctx d)
like_context c d = record {
  becomes = record { held = λ h. refl; plain = λ h e. absurd (cc); lies = λ pc h. h; method = λ h. h };
  index = λ h. h;
  bare = λ h. absurd (cc);
}

-- ---- what becomes of a state

pub record Stays (k t : Kept) : Type 0 where
  pub at : (i : ℕ) → Becomes (object_at k i) (object_at t i)

-- Births don't fall; each object stays; where nothing was below the next birth, nothing is; nil is the same; and all is sound.
pub record Leads (k t : Kept) : Type 0 where
  pub next : k.rest.next ≤ t.rest.next
  pub stays : Stays k t
  pub fresh : (i : ℕ) → i < k.rest.next → object_at k i ≡ None → object_at t i ≡ None
  pub nil : t.rest.nil ≡ k.rest.nil
  pub sound : Sound t

pub leads_itself : {k : Kept} → Sound k → Leads k k
leads_itself {k} s = record { next = omega arith; stays = record { at = λ i. becomes_itself (object_at k i) }; fresh = λ i h e. e; nil = refl; sound = s }

pub leads_trans : {k t u : Kept} → Leads k t → Leads t u → Leads k u
leads_trans a b = record {
  next = omega (arith, a.next, b.next);
  stays = record { at = λ i. becomes_trans (a.stays.at i) (b.stays.at i) };
  fresh = λ i h e. b.fresh i (omega (arith, h, a.next)) (a.fresh i h e);
  nil = b.nil ∙ a.nil;
  sound = b.sound;
}

-- what a reference names
pub becomes_of : {k t : Kept} → Stays k t → (x : Ref) → Becomes (object_of k x) (object_of t x)
becomes_of h (Small a) = becomes_itself None
becomes_of h (Char c) = becomes_itself None
becomes_of h (ref.Obj i) = h.at i

pub pc_lies_on : {k t : Kept} → Stays k t → (c : Context) → PcLies k c → PcLies t c
pc_lies_on h c lies pc e = (becomes_of h c.method).lies pc (lies pc e)

pub plain_on : {k t : Kept} → Stays k t → (i : ℕ) → Plain k i → Plain t i
plain_on h i p = record { there = (h.at i).held p.there; plain = (h.at i).plain p.there p.plain }

-- ---- an object that is there changes

-- what a pc of an object is in, if that is a context
pub record PcsLie (k : Kept) (o : Obj) : Type 0 where
  pub lies : (c : Context) → o ≡ Ctx c → PcLies k c

abbrev pub pc_in : Option Obj → Option ℕ
pc_in o = option_and_then (λ c. c.pc) (context_in o)

none_some : {A : Type 0} (x : A) → None ≡ Some x → ⊥
none_some x e = cc

put_becomes : (k : Kept) (i : ℕ) (o p : Obj) → object_at k i ≡ Some o → Becomes (Some o) (Some p) → Stays k (put k i p)
put_becomes k i o p e b = record {
  at = λ j. elim (eqb_tells j i) [
    | inl f ↦ subst (λ n. Becomes (object_at k n) (object_at (put k i p) n)) (sym f.1) (subst (λ q. Becomes q (object_at (put k i p) i)) (sym e) (subst (λ q. Becomes (Some o) q) (sym (object_at-put_same k i p)) b))
    | inr f ↦ becomes_by (object_at-put_other k i j p f.1)
  ];
}

put_fresh : (k : Kept) (i : ℕ) (o p : Obj) → object_at k i ≡ Some o → (j : ℕ) → object_at k j ≡ None → object_at (put k i p) j ≡ None
put_fresh k i o p e j h = object_at-put_other k i j p (λ f. none_some o (sym h ∙ ap (object_at k) f ∙ e)) ∙ h

put_sound : {k : Kept} (i : ℕ) (o p : Obj) → Sound k → object_at k i ≡ Some o → Like o p → PcsLie k p → (k.rest.active ≡ Some i → IsSome (pc_in (Some p))) → Sound (put k i p)
unfolding put
put_sound {k} i o p s e like lies live = record {
  below = λ j q h. elim (at_put k i j p q h) [
    | inl f ↦ s.below j o (ap (object_at k) f.0 ∙ e)
    | inr f ↦ s.below j q f.1
  ];
  pcs = λ j c h. pc_lies_on (put_becomes k i o p e like.becomes) c (elim (at_put k i j p (Ctx c) h) [
    | inl f ↦ lies.lies c (sym f.1)
    | inr f ↦ s.pcs j c f.1
  ]);
  indices = λ j q h. elim (at_put k i j p q h) [
    | inl f ↦ subst (λ x. is_class_index (class_index_in x) ≡ true) (sym f.1) (like.index (s.indices i o e))
    | inr f ↦ s.indices j q f.1
  ];
  table = λ index j h. plain_on (put_becomes k i o p e like.becomes) j (s.table index j h);
  hidden = s.hidden;
  bare = elim (eqb_tells k.rest.nil i) [
    | inl f ↦ ap slots_in (ap (object_at (put k i p)) f.1 ∙ object_at-put_same k i p) ∙ like.bare (ap slots_in (sym e ∙ ap (object_at k) (sym f.1)) ∙ s.bare)
    | inr f ↦ ap slots_in (object_at-put_other k i k.rest.nil p f.1) ∙ s.bare
  ];
  live = λ j h. elim (eqb_tells j i) [
    | inl f ↦ ap (λ q. is_some (pc_in q)) (ap (object_at (put k i p)) f.1 ∙ object_at-put_same k i p) ∙ live (h ∙ ap (λ n. Some n) f.1)
    | inr f ↦ ap (λ q. is_some (pc_in q)) (object_at-put_other k i j p f.1) ∙ s.live j h
  ];
}

pub put_leads : {k : Kept} (i : ℕ) (o p : Obj) → Sound k → object_at k i ≡ Some o → Like o p → PcsLie k p → (k.rest.active ≡ Some i → IsSome (pc_in (Some p))) → Leads k (put k i p)
unfolding put
put_leads {k} i o p s e like lies live = record {
  next = omega arith;
  stays = put_becomes k i o p e like.becomes;
  fresh = λ j h f. put_fresh k i o p e j f;
  nil = refl;
  sound = put_sound i o p s e like lies live;
}

-- ---- the rest changes

pub rest_leads : {k : Kept} (r : Rest) → Sound k → k.rest.next ≤ r.next → r.nil ≡ k.rest.nil → ((index i : ℕ) → get r.classes index ≡ Some i → Plain k i) → get r.classes 16 ≡ None → ((i : ℕ) → r.active ≡ Some i → IsLive k i) → Leads k (with_rest r k)
rest_leads {k} r s next nil table hidden live =
    let stays : Stays k (with_rest r k) = record { at = λ i. becomes_itself (object_at k i) } in
    record {
      next = next;
      stays = stays;
      fresh = λ i h e. e;
      nil = nil;
      sound = record {
        below = λ i o e. omega (arith, s.below i o e, next);
        pcs = λ i c e. pc_lies_on stays c (s.pcs i c e);
        indices = s.indices;
        table = λ index i e. plain_on stays i (table index i e);
        hidden = hidden;
        bare = ap (λ n. slots_in (object_at k n)) nil ∙ s.bare;
        live = live;
      };
    }
