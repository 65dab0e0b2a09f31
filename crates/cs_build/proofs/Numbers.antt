-- The numbers that the lines of a text have, one line more.
use Rattle.std.proofs.Common.{◌≡◌, ℕ, ◌+◌, ◌*◌, ◌≤◌, Bool, true, false, cond, List, [], ◌∷◌, length, Some, None, Option, refl, ap, ap₂, sym, ◌∙◌, arith, if◌then◌else◌}
use Rattle.std.specs.Prelude.{option_map, sum_by, ◌||◌, ◌&&◌, IfSome, is_some}
use Rattle.std.specs.Option.{option_or}
use Rattle.std.specs.Str.{bytes_eq}
use Rattle.std.proofs.lemmas.Slice.Eq.{bytes_eq-Decides}
use Rattle.std.proofs.lemmas.List.Sums.{sum_by-cons}
use Rattle.cs_model.specs.BuilderText as text
use Rattle.cs_model.specs.BuilderFault.{place_where}
use Rattle.cs_model.specs.Builder.{object_count}
use Rattle.cs_build.specs.Numbered.{noted, method_begun, method_found}
use Rattle.cs_build.proofs.Noting.{or_noted, or_none}

or_false : (b : Bool) → b || false ≡ b
or_false true = refl
or_false false = refl

-- what one name adds, by its test
pub noted_named : (old : Option ℕ) (q name : List ℕ) (n : ℕ) → option_or old (noted name n q) ≡ option_or old (if bytes_eq q name || false then Some n else None)
noted_named old q name n = ap (λ b. option_or old (if b then Some n else None)) (sym (or_false (bytes_eq q name)))

-- a line more has its number
pub place_more : (passes : text.Form → Bool) (new old : Option ℕ) (n : ℕ) (form : text.Form) (rest : List text.Form)
    → new ≡ option_or old (if passes form then Some n else None)
    → option_or new (place_where object_count passes (n + object_count form) rest) ≡ option_or old (place_where object_count passes n (form ∷ rest))
place_more passes new old n form rest e = ap (λ o. option_or o (place_where object_count passes (n + object_count form) rest)) e
    ∙ or_noted old (passes form) n (place_where object_count passes (n + object_count form) rest)

or_assoc : {X : Type 0} (a b c : Option X) → option_or (option_or a b) c ≡ option_or a (option_or b c)
or_assoc (Some x) b c = refl
or_assoc None b c = refl

pub body_more : (c s : List ℕ) (new old : Option (text.MethodLine × List text.Form)) (form : text.Form) (rest : List text.Form)
    → new ≡ option_or old (method_begun c s form rest) → option_or new (method_found c s rest) ≡ option_or old (method_found c s (form ∷ rest))
body_more c s new old form rest e = ap (λ o. option_or o (method_found c s rest)) e ∙ or_assoc old (method_begun c s form rest) (method_found c s rest)

pub count_more : (form : text.Form) (rest : List text.Form) (n m total : ℕ) → m ≡ n + object_count form
    → n + sum_by object_count (form ∷ rest) ≡ total → m + sum_by object_count rest ≡ total
count_more form rest n m total e h = omega (arith, e, h, sum_by-cons object_count form rest)

few_one : (form : text.Form) → object_count form ≤ 2
few_one form = search arith

-- a line makes two objects at most
pub few_objects : (forms : List text.Form) → sum_by object_count forms ≤ 2 * length forms
few_objects [] = omega arith
few_objects (form ∷ forms) = omega (arith, sum_by-cons object_count form forms, few_one form, few_objects forms)

-- ---- a method that wasn't there

-- what a table of pairs has, after one was noted
pub method_new : {V : Type 0} (f : List ℕ → List ℕ → Option V) (class selector : List ℕ) (v : V) (c s : List ℕ) → f class selector ≡ None
    → cond (bytes_eq class c && bytes_eq selector s) (Some v) (f c s) ≡ option_or (f c s) (if bytes_eq class c && bytes_eq selector s then Some v else None)
method_new f class selector v c s none = go (bytes_eq class c) (bytes_eq selector s) refl refl
  where
    go : (a b : Bool) → bytes_eq class c ≡ a → bytes_eq selector s ≡ b
        → cond (a && b) (Some v) (f c s) ≡ option_or (f c s) (if a && b then Some v else None)
    go true true e h =
        let here : f c s ≡ None = ap₂ f (sym ((bytes_eq-Decides class c).0 e)) (sym ((bytes_eq-Decides selector s).0 h)) ∙ none in
        sym (ap (λ o. option_or o (Some v)) here)
    go true false e h = sym (or_none (f c s))
    go false b e h = sym (or_none (f c s))

-- what a table of pairs had, where one is there already
pub method_old : {V W : Type 0} (f : List ℕ → List ℕ → Option V) (class selector : List ℕ) (w : W) (g : V → W) (v : V) (c s : List ℕ) → f class selector ≡ Some v
    → option_map g (f c s) ≡ option_or (option_map g (f c s)) (if bytes_eq class c && bytes_eq selector s then Some w else None)
method_old f class selector w g v c s some = go (bytes_eq class c) (bytes_eq selector s) refl refl
  where
    go : (a b : Bool) → bytes_eq class c ≡ a → bytes_eq selector s ≡ b
        → option_map g (f c s) ≡ option_or (option_map g (f c s)) (if a && b then Some w else None)
    go true true e h =
        let here : f c s ≡ Some v = ap₂ f (sym ((bytes_eq-Decides class c).0 e)) (sym ((bytes_eq-Decides selector s).0 h)) ∙ some in
        ap (option_map g) here ∙ sym (ap (λ o. option_or (option_map g o) (Some w)) here)
    go true false e h = sym (or_none (option_map g (f c s)))
    go false b e h = sym (or_none (option_map g (f c s)))

pub map_or : {V W : Type 0} (g : V → W) (a b : Option V) → option_map g (option_or a b) ≡ option_or (option_map g a) (option_map g b)
map_or g (Some x) b = refl
map_or g None b = refl

pub map_if : {V W : Type 0} (g : V → W) (b : Bool) (v : V) → option_map g (if b then Some v else None) ≡ (if b then Some (g v) else None)
map_if g true v = refl
map_if g false v = refl

pub counted_or : {V : Type 0} (P : V → Type 0) (a : Option V) (b : Bool) (v : V) → IfSome a P → P v → IfSome (option_or a (if b then Some v else None)) P
counted_or P (Some x) b v h p = h
counted_or P None true v h p = p
counted_or P None false v h p = h

pub none_from : {V : Type 0} (o : Option V) → is_some o ≡ false → o ≡ None
none_from None h = refl
none_from (Some v) h = absurd (cc)

pub some_from : {V : Type 0} (o : Option V) → is_some o ≡ true → (v : V) × (o ≡ Some v)
some_from None h = absurd (cc)
some_from (Some v) h = (v, refl)

pub noted_new : {V : Type 0} (f g : List ℕ → List ℕ → Option V) (class selector : List ℕ) (v : V) → f class selector ≡ None
    → ((c s : List ℕ) → g c s ≡ cond (bytes_eq class c && bytes_eq selector s) (Some v) (f c s))
    → (c s : List ℕ) → g c s ≡ option_or (f c s) (if bytes_eq class c && bytes_eq selector s then Some v else None)
noted_new f g class selector v none update c s = update c s ∙ method_new f class selector v c s none

-- the same of a part of what is noted
pub noted_part : {V W : Type 0} (h : V → W) (old new : Option V) (b : Bool) (v : V) (w : W) → h v ≡ w → new ≡ option_or old (if b then Some v else None)
    → option_map h new ≡ option_or (option_map h old) (if b then Some w else None)
noted_part h old new b v w same e = ap (option_map h) e ∙ map_or h old (if b then Some v else None)
    ∙ ap (option_or (option_map h old)) (map_if h b v ∙ ap (λ x. if b then Some x else None) same)
