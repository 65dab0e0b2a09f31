-- The way along the senders, from a context to a home that is met there; and what stays of a state where a context dies.
use Rattle.std.proofs.Common.{◌≡◌, ◌≢◌, inl, inr, ℕ, zero, suc, ◌<◌, Bool, true, false, refl, sym, ap, subst, ◌∙◌, Option, Some, None, List, [], ◌∷◌, ◌++◌, length, option_and_then, arith}
use Rattle.std.specs.Prelude.{◌==◌, ◌||◌, if◌then◌else◌}
use Rattle.std.proofs.lemmas.Bool.{eqb-true, eq-eqb, false≢true}
use Rattle.std.proofs.lemmas.Bool.Decides.{eqb_tells}
use Rattle.cs_model.specs.Ref.{Ref, Small, Char, named_object}
use Rattle.cs_model.specs.Ref as ref
use Rattle.cs_model.specs.Obj.{Context, Ctx, context_in, dead}
use Rattle.cs_model.specs.State.{Kept, object_at, put}
use Rattle.cs_model.specs.Operation.{dead_object, edit_found, kill_of}
use Rattle.cs_model.specs.Return.{Search, Met, Ended, TooLong, context_birth, is_among, links, passing, search_senders, sender_birth}
use Rattle.cs_model.proofs.Objects.{object_at-put_other, object_at-put_same}

-- each context is the sender of the one before, and the last one alone is the home
abbrev pub IsWay : Kept → ℕ → ℕ → List ℕ → Type 0
IsWay k home i [] = i ≡ home
IsWay k home i (j ∷ js) = ((i == home) ≡ false) × (sender_birth k i ≡ Some j) × IsWay k home j js

-- ---- lists

pub first_apart : (i j : ℕ) (js : List ℕ) → is_among i (j ∷ js) ≡ false → j ≢ i
first_apart i j js h e = go (i == j) refl h
  where
    go : (b : Bool) → (i == j) ≡ b → (b || is_among i js) ≡ false → ⊥
    go true e h = absurd (false≢true (sym h))
    go false f h = false≢true (sym f ∙ eq-eqb i j (sym e))

pub rest_apart : (i j : ℕ) (js : List ℕ) → is_among i (j ∷ js) ≡ false → is_among i js ≡ false
rest_apart i j js h = go (i == j) h
  where
    go : (b : Bool) → (b || is_among i js) ≡ false → is_among i js ≡ false
    go true e = absurd (false≢true (sym e))
    go false e = e

-- ---- no context is passed twice

same_length : (k : Kept) (home i : ℕ) (js ks : List ℕ) → IsWay k home i js → IsWay k home i ks → length js ≡ length ks
same_length k home i [] [] a b = refl
same_length k home i [] (x ∷ ks) a b = absurd (false≢true (sym b.0 ∙ eq-eqb i home a))
same_length k home i (j ∷ js) [] a b = absurd (false≢true (sym a.0 ∙ eq-eqb i home b))
same_length k home i (j ∷ js) (x ∷ ks) a b =
    let is : x ≡ j = some_same x j (sym b.1 ∙ a.1) in
    ap suc (same_length k home j js ks a.2 (subst (λ n. IsWay k home n ks) is b.2))
  where
    some_same : (m n : ℕ) → ◌≡◌ {A = Option ℕ} (Some m) (Some n) → m ≡ n
    some_same m n h = cc

record Tail (k : Kept) (home c : ℕ) (bound : ℕ) : Type 0 where
  rest : List ℕ
  way : IsWay k home c rest
  less : length rest < bound

tail_at : (k : Kept) (home i c : ℕ) (js : List ℕ) → IsWay k home i js → is_among c js ≡ true → Tail k home c (length js)
tail_at k home i c [] way h = absurd (false≢true h)
tail_at k home i c (j ∷ js) way h = go (c == j) refl h (λ later. tail_at k home j c js way.2 later)
  where
    go : (b : Bool) → (c == j) ≡ b → (b || is_among c js) ≡ true → (is_among c js ≡ true → Tail k home c (length js)) → Tail k home c (length (j ∷ js))
    go true e h further = record { rest = js; way = subst (λ n. IsWay k home n js) (sym (eqb-true c j e)) way.2; less = omega arith }
    go false e h further = let t = further h in record { rest = t.rest; way = t.way; less = omega (arith, t.less) }

pub way_apart : (k : Kept) (home i : ℕ) (js : List ℕ) → IsWay k home i js → is_among i js ≡ false
way_apart k home i js way = go (is_among i js) refl
  where
    go : (b : Bool) → is_among i js ≡ b → b ≡ false
    go false e = refl
    go true e = let t = tail_at k home i i js way e in absurd (omega (arith, t.less, same_length k home i js t.rest way t.way))

-- ---- a search that meets the home tells the way

pub record Way (k : Kept) (home j : ℕ) (passed : List ℕ) (n : ℕ) : Type 0 where
  pub rest : List ℕ
  pub is : ◌≡◌ {A = List ℕ} (j ∷ rest) (passed ++ home ∷ [])
  pub way : IsWay k home j rest
  pub few : length rest < n

met_passing : (i : ℕ) (s : Search) (passed : List ℕ) → passing i s ≡ Met passed → (rest : List ℕ) × ((s ≡ Met rest) × (passed ≡ i ∷ rest))
met_passing i (Met rest) passed h = (rest, (refl, cc))
met_passing i (Ended rest) passed h = absurd (cc)
met_passing i TooLong passed h = absurd (cc)

none_met : (n : ℕ) (k : Kept) (home : ℕ) (passed : List ℕ) → search_senders n k home None ≡ Met passed → ⊥
unfolding search_senders
none_met zero k home passed h = absurd (cc)
none_met (suc n) k home passed h = absurd (cc)

met_here : (passed : List ℕ) → Met [] ≡ Met passed → [] ≡ passed
met_here passed h = cc

pub search_way : (n : ℕ) (k : Kept) (home j : ℕ) (passed : List ℕ) → search_senders n k home (Some j) ≡ Met passed → Way k home j passed n
unfolding search_senders
search_way zero k home j passed h = absurd (cc)
search_way (suc n) k home j passed h = go (j == home) refl h (λ i p s. search_way n k home i p s)
  where
    further : (o : Option ℕ) → sender_birth k j ≡ o → (j == home) ≡ false → (p : List ℕ) → search_senders n k home o ≡ Met p → passed ≡ j ∷ p
        → ((i : ℕ) (p : List ℕ) → search_senders n k home (Some i) ≡ Met p → Way k home i p n) → Way k home j passed (suc n)
    further None e other p s is later = absurd (none_met n k home p s)
    further (Some i) e other p s is later =
        let t = later i p s in
        record { rest = i ∷ t.rest; is = ap (λ us. j ∷ us) t.is ∙ sym (ap (λ us. us ++ home ∷ []) is); way = (other, e, t.way); few = omega (arith, t.few) }

    go : (b : Bool) → (j == home) ≡ b → (if b then Met [] else passing j (search_senders n k home (sender_birth k j))) ≡ Met passed
        → ((i : ℕ) (p : List ℕ) → search_senders n k home (Some i) ≡ Met p → Way k home i p n) → Way k home j passed (suc n)
    go true e h later =
        let is = eqb-true j home e in
        record { rest = []; is = ap (λ n. n ∷ []) is ∙ ap (λ us. us ++ home ∷ []) (met_here passed h); way = is; few = omega arith }
    go false e h later = let p = met_passing j (search_senders n k home (sender_birth k j)) passed h in further (sender_birth k j) refl e p.0 p.1.0 p.1.1 later

pub search_first : (n : ℕ) (k : Kept) (home : ℕ) (o : Option ℕ) (passed : List ℕ) → search_senders n k home o ≡ Met passed → (j : ℕ) × ((o ≡ Some j) × Way k home j passed n)
search_first n k home None passed h = absurd (none_met n k home passed h)
search_first n k home (Some j) passed h = (j, (refl, search_way n k home j passed h))

pub links_is : links ≡ 1048576
unfolding links
links_is = refl

-- ---- a context dies

module _ (k : Kept) (i : ℕ) (c : Context) (there : object_at k i ≡ Some (Ctx c)) where
  pub kill-put : kill_of k i ≡ put k i (Ctx (dead k.rest.nil c))
  unfolding kill_of
  kill-put = ap (λ o. edit_found (dead_object k.rest.nil) i o k) there

  pub killed_same : object_at (kill_of k i) i ≡ Some (Ctx (dead k.rest.nil c))
  killed_same = ap (λ m. object_at m i) kill-put ∙ object_at-put_same k i (Ctx (dead k.rest.nil c))

  pub killed_other : (j : ℕ) → j ≢ i → object_at (kill_of k i) j ≡ object_at k j
  killed_other j other = ap (λ m. object_at m j) kill-put ∙ object_at-put_other k i j (Ctx (dead k.rest.nil c)) other

  killed_birth : (r : Ref) → context_birth (kill_of k i) r ≡ context_birth k r
  killed_birth (Small z) = refl
  killed_birth (Char code) = refl
  killed_birth (ref.Obj j) = elim (eqb_tells j i) [
    | inl e ↦ ap (λ n. option_and_then (λ (d : Context). Some j) (context_in (object_at (kill_of k i) n))) e.1 ∙ ap (λ o. option_and_then (λ (d : Context). Some j) (context_in o)) killed_same
        ∙ sym (ap (λ o. option_and_then (λ (d : Context). Some j) (context_in o)) there) ∙ ap (λ n. option_and_then (λ (d : Context). Some j) (context_in (object_at k n))) (sym e.1)
    | inr e ↦ ap (λ o. option_and_then (λ (d : Context). Some j) (context_in o)) (killed_other j e.1)
  ]

  pub killed_sender : (j : ℕ) → j ≢ i → sender_birth (kill_of k i) j ≡ sender_birth k j
  killed_sender j other = ap (λ o. option_and_then (λ (d : Context). context_birth (kill_of k i) d.sender) (context_in o)) (killed_other j other) ∙ go (context_in (object_at k j))
    where
      go : (o : Option Context) → option_and_then (λ (d : Context). context_birth (kill_of k i) d.sender) o ≡ option_and_then (λ (d : Context). context_birth k d.sender) o
      go None = refl
      go (Some d) = killed_birth d.sender

  pub killed_way : (home j : ℕ) (js : List ℕ) → is_among i (j ∷ js) ≡ false → IsWay k home j js → IsWay (kill_of k i) home j js
  killed_way home j [] apart way = way
  killed_way home j (x ∷ js) apart way = (way.0, killed_sender j (first_apart i j (x ∷ js) apart) ∙ way.1, killed_way home x js (rest_apart i j (x ∷ js) apart) way.2)
