-- Contexts that die, by states alone: a state that lacks them keeps all that a return past a home keeps.
use Rattle.std.proofs.Common.{◌≡◌, ◌≢◌, ℕ, Bool, true, false, refl, sym, ap, ◌∙◌, Option, Some, None, IsSome, List, [], ◌∷◌, ◌++◌, inl, inr}
use Rattle.std.specs.Prelude.{◌==◌, ◌||◌}
use Rattle.std.proofs.lemmas.Bool.Decides.{eqb_tells}
use Rattle.std.proofs.lemmas.List.Folds.{list_any-append}
use Rattle.std.proofs.lemmas.Bool.{or_right}
use Rattle.cs_model.specs.Ref.{Ref}
use Rattle.cs_model.specs.Obj.{Obj, Context, Ctx, dead, is_context}
use Rattle.cs_model.specs.State.{IsHeld, Kept, Rest, object_at, put}
use Rattle.cs_model.specs.Keeps.{Keeps}
use Rattle.cs_model.specs.Operation.{activate, cut_to_of, dead_object, edit_found, kill_all, kill_of, push_of, resume_of}
use Rattle.cs_model.specs.Return.{is_among}
use Rattle.cs_model.proofs.Keeping.{Keeps-lost, Keeps-trans}
use Rattle.cs_model.proofs.Objects.{object_at-put_other, object_at-put_same}
use Rattle.cs_model.proofs.Operating.{kill_all_moved, push_moved, resume_moved}
use Rattle.cs_model.proofs.Same.{same}
use Rattle.cs_stack.specs.Cuts.{Cuts, Dies, IsDead}
use Rattle.cs_stack.proofs.CutWays.{among_not}

none_some : {A : Type 0} (x : A) → ◌≡◌ {A = Option A} None (Some x) → ⊥
none_some x e = cc

-- ---- more die

pub dies_none : (k : Kept) → Dies k k []
dies_none k = record { died = λ i h. absurd (cc); other = λ i h. refl }

either : (i a : ℕ) (dead : List ℕ) → is_among i (dead ++ a ∷ []) ≡ (is_among i dead || is_among i (a ∷ []))
either i a dead = list_any-append (λ j. i == j) dead (a ∷ [])

module _ {k v u : Kept} {gone : List ℕ} {a : ℕ} (before : Dies k v gone) (now : Dies v u (a ∷ [])) (same_nil : v.rest.nil ≡ k.rest.nil) where
  dead_again : (i : ℕ) (c d : Context) → object_at v i ≡ Some (Ctx c) → IsDead k v i d → IsDead v u i c → IsDead k u i d
  dead_again i c d there old new = elim old [
    | inl none ↦ absurd (none_some (Ctx c) (sym none ∙ there))
    | inr is ↦
        let both : Some (Ctx c) ≡ Some (Ctx (dead k.rest.nil d)) = sym there ∙ is in
        let c_is : c ≡ dead k.rest.nil d = cc in
        elim new [
          | inl none ↦ inl none
          | inr h ↦ inr (h ∙ ap (λ n. Some (Ctx (dead n c))) same_nil ∙ ap (λ e. Some (Ctx (dead k.rest.nil e))) c_is)
        ]
  ]

  fresh_dead : (i : ℕ) (c : Context) → IsDead v u i c → IsDead k u i c
  fresh_dead i c new = elim new [
    | inl none ↦ inl none
    | inr h ↦ inr (h ∙ ap (λ n. Some (Ctx (dead n c))) same_nil)
  ]

  died_at : (i : ℕ) → (p q : Bool) → is_among i gone ≡ p → is_among i (a ∷ []) ≡ q → (p || q) ≡ true → (c : Context) × (object_at k i ≡ Some (Ctx c)) × IsDead k u i c
  died_at i true true e f h =
      let old = before.died i e in
      let new = now.died i f in
      (old.0, old.1, dead_again i new.0 old.0 new.1 old.2 new.2)
  died_at i true false e f h =
      let old = before.died i e in
      let still = now.other i f in
      (old.0, old.1, elim old.2 [ inl none ↦ inl (still ∙ none) | inr is ↦ inr (still ∙ is) ])
  died_at i false true e f h =
      let new = now.died i f in
      (new.0, sym (before.other i e) ∙ new.1, fresh_dead i new.0 new.2)
  died_at i false false e f h = absurd (cc)

  other_at : (i : ℕ) → (p q : Bool) → is_among i gone ≡ p → is_among i (a ∷ []) ≡ q → (p || q) ≡ false → object_at u i ≡ object_at k i
  other_at i true q e f h = absurd (cc)
  other_at i false true e f h = absurd (cc)
  other_at i false false e f h = now.other i f ∙ before.other i e

  pub dies_more : Dies k u (gone ++ a ∷ [])
  dies_more = record {
    died = λ i h. died_at i (is_among i gone) (is_among i (a ∷ [])) refl refl (sym (either i a gone) ∙ h);
    other = λ i h. other_at i (is_among i gone) (is_among i (a ∷ [])) refl refl (sym (either i a gone) ∙ h);
  }

-- ---- contexts that are killed

record Killed (k u : Kept) (dying : List ℕ) : Type 0 where
  rest : u.rest ≡ k.rest
  died : (i : ℕ) → is_among i dying ≡ true → (c : Context) → object_at k i ≡ Some (Ctx c) → object_at u i ≡ Some (Ctx (dead k.rest.nil c))
  other : (i : ℕ) → is_among i dying ≡ false → object_at u i ≡ object_at k i

kills_one : (k : Kept) (a : ℕ) (c : Context) → object_at k a ≡ Some (Ctx c) → kill_of k a ≡ put k a (Ctx (dead k.rest.nil c))
unfolding kill_of
kills_one k a c there = ap (λ o. edit_found (dead_object k.rest.nil) a o k) there

put_rest : (k : Kept) (a : ℕ) (o : Obj) → (put k a o).rest ≡ k.rest
unfolding put
put_rest k a o = refl

killed_more : (k v u : Kept) (a : ℕ) (dying : List ℕ) (d : Context) → object_at k a ≡ Some (Ctx d) → v ≡ put k a (Ctx (dead k.rest.nil d)) → Killed v u dying → Killed k u (a ∷ dying)
killed_more k v u a dying d there is killed = record {
  rest = killed.rest ∙ kept;
  died = λ i h c e. elim (eqb_tells i a) [
    | inl s ↦
        let both : Some (Ctx c) ≡ Some (Ctx d) = sym e ∙ ap (object_at k) s.1 ∙ there in
        let c_is : c ≡ d = cc in
        (here i (is_among i dying) refl s.1 ∙ ap (λ e. Some (Ctx (dead k.rest.nil e))) (sym c_is))
    | inr s ↦ killed.died i (sym (ap (λ b. b || is_among i dying) s.0) ∙ h) c (far i s.1 ∙ e) ∙ ap (λ (r : Rest). Some (Ctx (dead r.nil c))) kept
  ];
  other = λ i h. let off = among_not i a dying h in killed.other i off.1 ∙ far i off.0;
}
  where
    kept : v.rest ≡ k.rest
    kept = ap (λ (n : Kept). n.rest) is ∙ put_rest k a (Ctx (dead k.rest.nil d))

    far : (i : ℕ) → i ≢ a → object_at v i ≡ object_at k i
    far i ne = ap (λ n. object_at n i) is ∙ object_at-put_other k a i (Ctx (dead k.rest.nil d)) ne

    at_a : (i : ℕ) → i ≡ a → object_at v i ≡ Some (Ctx (dead k.rest.nil d))
    at_a i e = ap (object_at v) e ∙ ap (λ n. object_at n a) is ∙ object_at-put_same k a (Ctx (dead k.rest.nil d))

    here : (i : ℕ) → (b : Bool) → is_among i dying ≡ b → i ≡ a → object_at u i ≡ Some (Ctx (dead k.rest.nil d))
    here i true h e = killed.died i h (dead k.rest.nil d) (at_a i e) ∙ ap (λ (r : Rest). Some (Ctx (dead r.nil (dead k.rest.nil d)))) kept
    here i false h e = killed.other i h ∙ at_a i e

killed_all : (k : Kept) (dying : List ℕ) → ((i : ℕ) → is_among i dying ≡ true → (c : Context) × (object_at k i ≡ Some (Ctx c))) → Killed k (kill_all dying k) dying
unfolding kill_all
killed_all k [] there = record { rest = refl; died = λ i h c e. absurd (cc); other = λ i h. refl }
killed_all k (a ∷ dying) there =
    let first = there a (ap (λ b. b || is_among a dying) (here a)) in
    let v = kill_of k a in
    let is : kill_of k a ≡ put k a (Ctx (dead k.rest.nil first.0)) = kills_one k a first.0 first.1 in
    killed_more k (kill_of k a) (kill_all dying (kill_of k a)) a dying first.0 first.1 is (killed_all (kill_of k a) dying (λ i h. still first.0 is i h))
  where
    here : (n : ℕ) → (n == n) ≡ true
    here n = elim (eqb_tells n n) [ inl e ↦ e.0 | inr e ↦ absurd (e.1 refl) ]

    still : (d : Context) → kill_of k a ≡ put k a (Ctx (dead k.rest.nil d)) → (i : ℕ) → is_among i dying ≡ true → (c : Context) × (object_at (kill_of k a) i ≡ Some (Ctx c))
    still d is i h = elim (eqb_tells i a) [
      | inl e ↦ (dead k.rest.nil d, ap (object_at (kill_of k a)) e.1 ∙ ap (λ n. object_at n a) is ∙ object_at-put_same k a (Ctx (dead k.rest.nil d)))
      | inr e ↦
          let old = there i (ap (λ b. (i == a) || b) h ∙ or_right (i == a) true refl) in
          (old.0, ap (λ n. object_at n i) is ∙ object_at-put_other k a i (Ctx (dead k.rest.nil d)) e.1 ∙ old.1)
    ]

-- ---- a state that lacks the contexts that died

resumed_at : (n : Kept) (t i : ℕ) → object_at (resume_of n t) i ≡ object_at n i
unfolding resume_of
resumed_at n t i = refl

resumed_rest : (n : Kept) (t : ℕ) → (resume_of n t).rest ≡ activate (Some t) n.rest
unfolding resume_of
resumed_rest n t = refl

no_context : (d : Context) (o : Obj) → Some (Ctx d) ≡ Some o → is_context o ≡ false → ⊥
no_context d o e h = let is : Ctx d ≡ o = cc in let no : true ≡ false = ap is_context is ∙ h in cc

pub keeps-cut : (k u m : Kept) (x : Ref) (dying : List ℕ) (t : ℕ) → Cuts k u dying t → Keeps u u → IsHeld u x → IsSome (object_at k t) → Keeps k m → Keeps (push_of u x) (cut_to_of m dying t x)
unfolding cut_to_of
keeps-cut k u m x dying t cuts closed held target keeps =
    let killed = kill_all_moved dying keeps in
    let moved = resume_moved killed.keeps (same t (killed.grows.held t target)) in
    (push_moved (Keeps-trans lost moved.keeps) (same x held)).keeps
  where
    all : Killed k (kill_all dying k) dying
    all = killed_all k dying (λ i h. let d = cuts.dies.died i h in (d.0, d.1))

    same_at : (i : ℕ) (o : Obj) (b : Bool) → is_among i dying ≡ b → object_at u i ≡ Some o → object_at (resume_of (kill_all dying k) t) i ≡ Some o
    same_at i o true e h =
        let d = cuts.dies.died i e in
        elim d.2 [
          | inl none ↦ absurd (none_some o (sym none ∙ h))
          | inr is ↦ resumed_at (kill_all dying k) t i ∙ all.died i e d.0 d.1 ∙ sym is ∙ h
        ]
    same_at i o false e h = resumed_at (kill_all dying k) t i ∙ all.other i e ∙ sym (cuts.dies.other i e) ∙ h

    whole_at : (i : ℕ) (o : Obj) (b : Bool) → is_among i dying ≡ b → object_at (resume_of (kill_all dying k) t) i ≡ Some o → is_context o ≡ false → object_at u i ≡ Some o
    whole_at i o true e h plain =
        let d = cuts.dies.died i e in
        absurd (no_context (dead k.rest.nil d.0) o (sym (resumed_at (kill_all dying k) t i ∙ all.died i e d.0 d.1) ∙ h) plain)
    whole_at i o false e h plain = cuts.dies.other i e ∙ sym (all.other i e) ∙ sym (resumed_at (kill_all dying k) t i) ∙ h

    lost : Keeps u (resume_of (kill_all dying k) t)
    lost = Keeps-lost closed (λ i o h. same_at i o (is_among i dying) refl h) (λ i o h plain. whole_at i o (is_among i dying) refl h plain)
        (cuts.rest ∙ sym (resumed_rest (kill_all dying k) t ∙ ap (activate (Some t)) all.rest))
