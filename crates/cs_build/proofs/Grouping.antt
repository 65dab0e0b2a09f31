-- The methods of each class.
use Rattle.std.proofs.Common.{◌≡◌, ℕ, suc, ◌+◌, ◌≤◌, Bool, true, false, cond, List, [], ◌∷◌, ◌++◌, length, Some, None, Option, append-nil, refl, ap, sym, ◌∙◌, arith, if◌then◌else◌}
use Rattle.std.specs.Prelude.{flat_map}
use Rattle.std.specs.List.{enumerate_from}
use Rattle.std.specs.Option.{option_map_or}
use Rattle.std.proofs.lemmas.Slice.Eq.{bytes_eq-Decides}
use Rattle.std.specs.Str.{bytes_eq}
use Rattle.cs_model.specs.BuilderText as text
use Rattle.cs_model.specs.Builder.{methods_of}

pub methods_cons : (form : text.Form) (forms : List text.Form) (q : List ℕ) → methods_of (form ∷ forms) q ≡ methods_of (form ∷ []) q ++ methods_of forms q
methods_cons (text.Method line) forms q = go (bytes_eq line.class q)
  where
    go : (b : Bool) → (if b then line ∷ methods_of forms q else methods_of forms q) ≡ (if b then line ∷ [] else []) ++ methods_of forms q
    go true = refl
    go false = refl
methods_cons form forms q = refl

pub methods_few : (forms : List text.Form) (q : List ℕ) → length (methods_of forms q) ≤ length forms
methods_few [] q = omega arith
methods_few (text.Method line ∷ forms) q = go (bytes_eq line.class q) (methods_few forms q)
  where
    go : (b : Bool) → length (methods_of forms q) ≤ length forms → length (if b then line ∷ methods_of forms q else methods_of forms q) ≤ suc (length forms)
    go true h = omega (arith, h)
    go false h = omega (arith, h)
methods_few (form ∷ forms) q = omega (arith, methods_few forms q)

-- the methods of a class, once one is put behind the others
pub regroup : {V L : Type 0} (g : V → List L) (old : List ℕ → Option V) (class : List ℕ) (v : V) (line : L) (q : List ℕ) (new mid : Option V)
    → new ≡ cond (bytes_eq class q) (Some v) mid → mid ≡ cond (bytes_eq class q) None (old q) → g v ≡ option_map_or g (old class) [] ++ line ∷ []
    → option_map_or g new [] ≡ option_map_or g (old q) [] ++ cond (bytes_eq class q) (line ∷ []) []
regroup g old class v line q new mid one two is = go (bytes_eq class q) refl one two
  where
    go : (b : Bool) → bytes_eq class q ≡ b → new ≡ cond b (Some v) mid → mid ≡ cond b None (old q)
        → option_map_or g new [] ≡ option_map_or g (old q) [] ++ cond b (line ∷ []) []
    go true e one two = ap (λ o. option_map_or g o []) one ∙ is ∙ ap (λ d. option_map_or g (old d) [] ++ line ∷ []) ((bytes_eq-Decides class q).0 e)
    go false e one two = ap (λ o. option_map_or g o []) (one ∙ two) ∙ sym (append-nil (option_map_or g (old q) []))

pub pairs_cons : {X Y : Type 0} (f : ℕ → X → List Y) (n : ℕ) (x : X) (xs : List X)
    → flat_map (λ e. f e.0 e.1) (enumerate_from n (x ∷ xs)) ≡ f n x ++ flat_map (λ e. f e.0 e.1) (enumerate_from (n + 1) xs)
pairs_cons f n x xs = refl
