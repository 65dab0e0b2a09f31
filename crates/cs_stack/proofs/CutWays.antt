-- The way along the senders: what a search passes, and that no context is passed twice.
use Rattle.std.proofs.Common.{◌≡◌, ◌≢◌, ◌⊎◌, ℕ, zero, suc, ◌<◌, ◌≤◌, Bool, true, false, refl, sym, ap, subst, ◌∙◌, arith, Option, Some, None, option_and_then, List, [], ◌∷◌, ◌++◌, length, inl, inr}
use Rattle.std.specs.Prelude.{◌==◌, ◌||◌, if◌then◌else◌}
use Rattle.std.proofs.lemmas.Bool.{eq-eqb, or_right}
use Rattle.std.proofs.lemmas.Bool.Decides.{eqb_tells}
use Rattle.cs_model.specs.Obj.{Context, context_in}
use Rattle.cs_model.specs.State.{Kept, object_at}
use Rattle.cs_model.specs.Return.{Search, Met, Ended, TooLong, context_birth, is_among, links, passing, search_senders, sender_birth, senders_to}
use Rattle.cs_stack.specs.Cuts.{IsWay, ahead}
use Rattle.cs_stack.proofs.Returning.{sends}

-- ---- among

pub among_not : (t i : ℕ) (is : List ℕ) → is_among t (i ∷ is) ≡ false → (t ≢ i) × (is_among t is ≡ false)
among_not t i is h = elim (eqb_tells t i) [
  | inl e ↦ absurd (let no : true ≡ false = sym (ap (λ b. b || is_among t is) e.0) ∙ h in cc)
  | inr e ↦ (e.1, sym (ap (λ b. b || is_among t is) e.0) ∙ h)
]

pub among_here : (i : ℕ) (is : List ℕ) → is_among i (i ∷ is) ≡ true
among_here i is = ap (λ b. b || is_among i is) (eq-eqb i i refl)

-- ---- what is found

pub and_found : {A B : Type 0} (f : A → Option B) (o : Option A) (b : B) → option_and_then f o ≡ Some b → (a : A) × (o ≡ Some a) × (f a ≡ Some b)
and_found f None b e = absurd (cc)
and_found f (Some a) b e = (a, refl, e)

-- a sender is still that where the context and the sender are as they were
pub sender_kept : (k u : Kept) (i h : ℕ) → sender_birth k i ≡ Some h → object_at u i ≡ object_at k i → object_at u h ≡ object_at k h → sender_birth u i ≡ Some h
sender_kept k u i h e own next =
    let found = and_found (λ (c : Context). context_birth k c.sender) (context_in (object_at k i)) h e in
    let s = sends k found.0.sender h found.2 in
    ap (λ o. option_and_then (λ c. context_birth u c.sender) (context_in o)) own
    ∙ ap (option_and_then (λ (c : Context). context_birth u c.sender)) found.1
    ∙ ap (context_birth u) s.1.is
    ∙ ap (λ o. option_and_then (λ c. Some h) (context_in o)) (next ∙ s.1.there)

-- ---- a search

none_ended : (n : ℕ) (k : Kept) (goal : ℕ) → search_senders n k goal None ≡ Ended []
unfolding search_senders
none_ended zero k goal = refl
none_ended (suc n) k goal = refl

-- what a search passed to a home is the way to the home's sender
pub record Passes (k : Kept) (n home t i : ℕ) (passed : List ℕ) : Type 0 where
  pub way : IsWay k t (passed ++ home ∷ [])
  pub from : ahead t (passed ++ home ∷ []) ≡ i
  pub few : length passed < n

met_way : (n : ℕ) (k : Kept) (home t i : ℕ) (passed : List ℕ) → search_senders n k home (Some i) ≡ Met passed → sender_birth k home ≡ Some t → is_among t (passed ++ home ∷ []) ≡ false
    → Passes k n home t i passed
unfolding search_senders
met_way zero k home t i passed e s apart = absurd (cc)
met_way (suc n) k home t i passed e s apart = elim (eqb_tells i home) [
  | inl b ↦
      let m : Met [] ≡ Met passed = sym (ap (λ c. if c then Met [] else passing i (search_senders n k home (sender_birth k i))) b.0) ∙ e in
      let none : [] ≡ passed = cc in
      let far : is_among t (home ∷ []) ≡ false = ap (λ ps. is_among t (ps ++ home ∷ [])) none ∙ apart in
      subst (Passes k (suc n) home t i) none (record { way = ((λ h. (among_not t home [] far).0 (sym h)), s, tt); from = sym b.1; few = omega arith })
  | inr b ↦
      let m : passing i (search_senders n k home (sender_birth k i)) ≡ Met passed = sym (ap (λ c. if c then Met [] else passing i (search_senders n k home (sender_birth k i))) b.0) ∙ e in
      step (sender_birth k i) refl (search_senders n k home (sender_birth k i)) refl m (λ j ps found far. met_way n k home t j ps found s far)
]
  where
    step : (o : Option ℕ) → sender_birth k i ≡ o → (r : Search) → search_senders n k home (sender_birth k i) ≡ r → passing i r ≡ Met passed
        → ((j : ℕ) (ps : List ℕ) → search_senders n k home (Some j) ≡ Met ps → is_among t (ps ++ home ∷ []) ≡ false → Passes k n home t j ps) → Passes k (suc n) home t i passed
    step o is (Ended ps) found m rest = absurd (cc)
    step o is TooLong found m rest = absurd (cc)
    step None is (Met ps) found m rest = absurd (let no : Ended [] ≡ Met ps = sym (none_ended n k home) ∙ ap (search_senders n k home) (sym is) ∙ found in cc)
    step (Some j) is (Met ps) found m rest =
        let same : i ∷ ps ≡ passed = cc in
        let far = among_not t i (ps ++ home ∷ []) (ap (λ qs. is_among t (qs ++ home ∷ [])) same ∙ apart) in
        let r = rest j ps (ap (search_senders n k home) (sym is) ∙ found) far.1 in
        subst (Passes k (suc n) home t i) same (record { way = ((λ h. far.0 (sym h)), is ∙ ap (λ n. Some n) (sym r.from), r.way); from = refl; few = omega (arith, r.few) })

links_is : links ≡ 1048576
unfolding links
links_is = refl

-- the contexts that die where a return goes past a home
pub record GoesPast (k : Kept) (active t : ℕ) (dying : List ℕ) : Type 0 where
  pub way : IsWay k t dying
  pub from : ahead t dying ≡ active
  pub few : length dying ≤ 1048577

longer : (xs : List ℕ) (i : ℕ) → length (xs ++ i ∷ []) ≡ suc (length xs)
longer [] i = refl
longer (x ∷ xs) i = ap suc (longer xs i)

search_past : (n : ℕ) → n ≡ 1048576 → (k : Kept) (active home t : ℕ) (passed : List ℕ) → search_senders n k home (sender_birth k active) ≡ Met passed → sender_birth k home ≡ Some t
    → is_among t (active ∷ passed ++ home ∷ []) ≡ false → GoesPast k active t (active ∷ passed ++ home ∷ [])
search_past n n_is k active home t passed met s apart = go (sender_birth k active) refl
  where
    go : (o : Option ℕ) → sender_birth k active ≡ o → GoesPast k active t (active ∷ passed ++ home ∷ [])
    go None is = absurd (let no : Ended [] ≡ Met passed = sym (none_ended n k home) ∙ ap (search_senders n k home) (sym is) ∙ met in cc)
    go (Some i) is =
        let far = among_not t active (passed ++ home ∷ []) apart in
        let p = met_way n k home t i passed (ap (search_senders n k home) (sym is) ∙ met) s far.1 in
        record {
          way = ((λ h. far.0 (sym h)), is ∙ ap (λ n. Some n) (sym p.from), p.way);
          from = refl;
          few = omega (arith, p.few, n_is, longer passed home);
        }

pub goes_past : (k : Kept) (active home t : ℕ) (passed : List ℕ) → senders_to k active home ≡ Met passed → sender_birth k home ≡ Some t
    → is_among t (active ∷ passed ++ home ∷ []) ≡ false → GoesPast k active t (active ∷ passed ++ home ∷ [])
unfolding senders_to
goes_past k active home t passed met s apart = search_past links links_is k active home t passed met s apart

-- ---- no context is passed twice

same_way : (k : Kept) (t : ℕ) (is js : List ℕ) → IsWay k t is → IsWay k t js → ahead t is ≡ ahead t js → length is ≡ length js
same_way k t [] [] a b e = refl
same_way k t [] (j ∷ js) a b e = absurd (b.0 (sym e))
same_way k t (i ∷ is) [] a b e = absurd (a.0 e)
same_way k t (i ∷ is) (j ∷ js) a b e =
    let next : Some (ahead t is) ≡ Some (ahead t js) = sym a.1 ∙ ap (sender_birth k) e ∙ b.1 in
    ap suc (same_way k t is js a.2 b.2 (cc))

record FromThere (k : Kept) (t a n : ℕ) : Type 0 where
  rest : List ℕ
  way : IsWay k t (a ∷ rest)
  few : suc (length rest) ≤ n

from_there : (k : Kept) (t a : ℕ) (is : List ℕ) → IsWay k t is → is_among a is ≡ true → FromThere k t a (length is)
from_there k t a [] way h = absurd (cc)
from_there k t a (i ∷ is) way h = elim (eqb_tells a i) [
  | inl e ↦ record { rest = is; way = subst (λ n. IsWay k t (n ∷ is)) (sym e.1) way; few = omega arith }
  | inr e ↦ let r = from_there k t a is way.2 (sym (ap (λ b. b || is_among a is) e.0) ∙ h) in record { rest = r.rest; way = r.way; few = omega (arith, r.few) }
]

pub passed_once : (k : Kept) (t i : ℕ) (is : List ℕ) → IsWay k t (i ∷ is) → is_among i is ≡ false
passed_once k t i is way = go (is_among i is) refl
  where
    go : (b : Bool) → is_among i is ≡ b → is_among i is ≡ false
    go false e = e
    go true e = absurd (
        let r = from_there k t i is way.2 e in
        let same : suc (length is) ≡ suc (length r.rest) = same_way k t (i ∷ is) (i ∷ r.rest) way r.way refl in
        omega (arith, same, r.few))

-- ---- the rest of the way, where the first context has died

way_kept : (k u : Kept) (t : ℕ) (is : List ℕ) → IsWay k t is → ((j : ℕ) → (is_among j is ≡ true) ⊎ (j ≡ t) → object_at u j ≡ object_at k j) → IsWay u t is
way_kept k u t [] way same = tt
way_kept k u t (i ∷ is) way same = (
  way.0,
  sender_kept k u i (ahead t is) way.1 (same i (inl (among_here i is))) (same (ahead t is) (next is)),
  way_kept k u t is way.2 (λ j h. same j (elim h [ inl e ↦ inl (later j e) | inr e ↦ inr e ])),
)
  where
    later : (j : ℕ) → is_among j is ≡ true → is_among j (i ∷ is) ≡ true
    later j e = ap (λ b. (j == i) || b) e ∙ or_right (j == i) true refl

    next : (js : List ℕ) → (is_among (ahead t js) (i ∷ js) ≡ true) ⊎ (ahead t js ≡ t)
    next [] = inr refl
    next (j ∷ js) = inl (ap (λ b. (j == i) || b) (among_here j js) ∙ or_right (j == i) true refl)

pub way_on : (k u : Kept) (t i : ℕ) (is : List ℕ) → IsWay k t (i ∷ is) → ((j : ℕ) → i ≢ j → object_at u j ≡ object_at k j) → IsWay u t is
way_on k u t i is way same = way_kept k u t is way.2 (λ j h. same j (λ e. elim h [
  | inl a ↦ (let no : true ≡ false = sym a ∙ ap (λ n. is_among n is) (sym e) ∙ passed_once k t i is way in absurd (cc))
  | inr a ↦ way.0 (e ∙ a)
]))
