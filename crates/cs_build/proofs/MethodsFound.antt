-- The methods of a text.
use Rattle.std.proofs.Common.{◌≡◌, ℕ, zero, suc, ◌+◌, ◌≤◌, ◌<◌, ◌^◌, Bool, true, false, List, [], ◌∷◌, ◌++◌, length, take, Some, None, Option, ap, ap₂, append_assoc, sym, ◌∙◌, refl, arith, if◌then◌else◌}
use Rattle.std.specs.Prelude.{find, is_some, option_map, ◌&&◌, IfSome, count_by, unwrap_or}
use Rattle.std.specs.Option.{option_or}
use Rattle.std.specs.List.{list_all, before_first, position_or_len}
use Rattle.std.specs.Str.{bytes_eq}
use Rattle.std.proofs.lemmas.List.{length-map, length-take}
use Rattle.std.proofs.lemmas.Slice.Eq.{bytes_eq-Decides}
use Rattle.cs_model.specs.BuilderText as text
use Rattle.cs_model.specs.BuilderFault.{is_end_line, is_literal, method_fits, place_where}
use Rattle.cs_model.specs.Builder.{all_forms, body_behind, first_class, is_method_of, methods_of, object_count}
use Rattle.cs_build.specs.declared.numbering.Numbered.{Numbered}
use Rattle.cs_build.specs.Counted.{body_in}
use Rattle.cs_build.specs.Made.{IsMethodMade}
use Rattle.cs_build.specs.Meaning.{form_by}
use Rattle.cs_build.specs.Numbered.{method_found}
use Rattle.cs_build.specs.Sound.{is_sound}
use Rattle.cs_build.specs.Standing.{has_number}
use Rattle.cs_build.proofs.Noting.{bytes_eq_self}
use Rattle.cs_build.proofs.Sounding.{and_true}

find_if : (p : text.MethodLine → Bool) (a : Bool) (line : text.MethodLine) (rest : List text.MethodLine)
    → find p (if a then line ∷ rest else rest) ≡ (if a then (if p line then Some line else find p rest) else find p rest)
find_if p true line rest = refl
find_if p false line rest = refl

-- ---- what is found

pub record IsFound (c s : List ℕ) (forms : List text.Form) (m : text.MethodLine) (body : List text.Form) : Type 0 where
  pub class : m.class ≡ c
  pub selector : m.selector ≡ s
  pub first : find (λ n. bytes_eq n.selector s) (methods_of forms c) ≡ Some m
  pub behind : body_behind c s forms ≡ body

pub found : (c s : List ℕ) (forms : List text.Form) (m : text.MethodLine) (body : List text.Form) → method_found c s forms ≡ Some (m, body) → IsFound c s forms m body
found c s [] m body e = absurd (cc)
found c s (text.Method line ∷ forms) m body e =
    let all : (m.class ≡ c) × (m.selector ≡ s)
    × ((if bytes_eq line.class c then (if bytes_eq line.selector s then Some line else find (λ n. bytes_eq n.selector s) (methods_of forms c)) else find (λ n. bytes_eq n.selector s) (methods_of forms c)) ≡ Some m)
    × ((if bytes_eq line.class c && bytes_eq line.selector s then before_first is_end_line forms else body_behind c s forms) ≡ body) =
    go (bytes_eq line.class c) (bytes_eq line.selector s) refl refl e (found c s forms m body) in
    record { class = all.0; selector = all.1; first = find_if (λ n. bytes_eq n.selector s) (bytes_eq line.class c) line (methods_of forms c) ∙ all.2; behind = all.3 }
  where
    go : (a b : Bool) → bytes_eq line.class c ≡ a → bytes_eq line.selector s ≡ b
        → option_or (if a && b then Some (line, before_first is_end_line forms) else None) (method_found c s forms) ≡ Some (m, body)
        → (method_found c s forms ≡ Some (m, body) → IsFound c s forms m body)
        → (m.class ≡ c) × (m.selector ≡ s)
        × ((if a then (if b then Some line else find (λ n. bytes_eq n.selector s) (methods_of forms c)) else find (λ n. bytes_eq n.selector s) (methods_of forms c)) ≡ Some m)
        × ((if a && b then before_first is_end_line forms else body_behind c s forms) ≡ body)
    go true true ea eb e h =
        let pair : (let p : text.MethodLine × List text.Form = (line, before_first is_end_line forms) in let q : text.MethodLine × List text.Form = (m, body) in p ≡ q) =
        ap (λ (o : Option (text.MethodLine × List text.Form)). unwrap_or o (line, before_first is_end_line forms)) e in
        let is : line ≡ m = ap (λ (p : text.MethodLine × List text.Form). p.0) pair in (
          ap (λ (l : text.MethodLine). l.class) (sym is) ∙ (bytes_eq-Decides line.class c).0 ea,
          ap (λ (l : text.MethodLine). l.selector) (sym is) ∙ (bytes_eq-Decides line.selector s).0 eb,
          ap Some is,
          ap (λ (p : text.MethodLine × List text.Form). p.1) pair,
        )
    go true false ea eb e h = let r : IsFound c s forms m body = h e in (r.class, r.selector, r.first, r.behind)
    go false b ea eb e h = let r : IsFound c s forms m body = h e in (r.class, r.selector, r.first, r.behind)
found c s (form ∷ forms) m body e =
    let rest : IsFound c s forms m body = found c s forms m body e in
    record { class = rest.class; selector = rest.selector; first = rest.first; behind = rest.behind }

pub not_found : (c s : List ℕ) (forms : List text.Form) → method_found c s forms ≡ None → find (λ n. bytes_eq n.selector s) (methods_of forms c) ≡ None
not_found c s [] e = refl
not_found c s (text.Method line ∷ forms) e = find_if (λ n. bytes_eq n.selector s) (bytes_eq line.class c) line (methods_of forms c)
    ∙ go (bytes_eq line.class c) (bytes_eq line.selector s) e (not_found c s forms)
  where
    go : (a b : Bool) → option_or (if a && b then Some (line, before_first is_end_line forms) else None) (method_found c s forms) ≡ None
        → (method_found c s forms ≡ None → find (λ n. bytes_eq n.selector s) (methods_of forms c) ≡ None)
        → (if a then (if b then Some line else find (λ n. bytes_eq n.selector s) (methods_of forms c)) else find (λ n. bytes_eq n.selector s) (methods_of forms c)) ≡ None
    go true true e h = absurd (cc)
    go true false e h = h e
    go false b e h = h e
not_found c s (form ∷ forms) e = not_found c s forms e

-- ---- what is sound

take_sound : (n : ℕ) (forms : List text.Form) → list_all is_sound forms ≡ true → list_all is_sound (take n forms) ≡ true
take_sound zero forms e = refl
take_sound (suc n) [] e = refl
take_sound (suc n) (form ∷ forms) e =
    let both : (is_sound form ≡ true) × (list_all is_sound forms ≡ true) = and_true (is_sound form) (list_all is_sound forms) e in
    ap (λ b. b && list_all is_sound (take n forms)) both.0 ∙ take_sound n forms both.1

before_sound : (forms : List text.Form) → list_all is_sound forms ≡ true → list_all is_sound (before_first is_end_line forms) ≡ true
before_sound forms e = take_sound _ forms e

before_few : (forms : List text.Form) → length (before_first is_end_line forms) ≤ length forms
before_few forms = omega (arith, length-take (position_or_len is_end_line forms) forms)

pub sound_found : (c s : List ℕ) (forms : List text.Form) (m : text.MethodLine) (body : List text.Form) → method_found c s forms ≡ Some (m, body) → list_all is_sound forms ≡ true
    → (method_fits m ≡ true) × (list_all is_sound body ≡ true) × (length body ≤ length forms)
sound_found c s [] m body e h = absurd (cc)
sound_found c s (text.Method line ∷ forms) m body e h =
    let both : (method_fits line ≡ true) × (list_all is_sound forms ≡ true) = and_true (method_fits line) (list_all is_sound forms) h in
    go (bytes_eq line.class c && bytes_eq line.selector s) e both.0 both.1 (sound_found c s forms m body)
  where
    go : (a : Bool) → option_or (if a then Some (line, before_first is_end_line forms) else None) (method_found c s forms) ≡ Some (m, body)
        → method_fits line ≡ true → list_all is_sound forms ≡ true
        → (method_found c s forms ≡ Some (m, body) → list_all is_sound forms ≡ true → (method_fits m ≡ true) × (list_all is_sound body ≡ true) × (length body ≤ length forms))
        → (method_fits m ≡ true) × (list_all is_sound body ≡ true) × (length body ≤ suc (length forms))
    go true e fits rest h =
        let pair : (let p : text.MethodLine × List text.Form = (line, before_first is_end_line forms) in let q : text.MethodLine × List text.Form = (m, body) in p ≡ q) =
        ap (λ (o : Option (text.MethodLine × List text.Form)). unwrap_or o (line, before_first is_end_line forms)) e in
        let is : before_first is_end_line forms ≡ body = ap (λ (p : text.MethodLine × List text.Form). p.1) pair in
        (ap method_fits (sym (ap (λ (p : text.MethodLine × List text.Form). p.0) pair)) ∙ fits, ap (list_all is_sound) (sym is) ∙ before_sound forms rest, omega (arith, before_few forms, ap length is))
    go false e fits rest h =
        let all : (method_fits m ≡ true) × (list_all is_sound body ≡ true) × (length body ≤ length forms) = h e rest in
        (all.0, all.1, omega (arith, all.2))
sound_found c s (form ∷ forms) m body e h =
    let rest : (method_fits m ≡ true) × (list_all is_sound body ≡ true) × (length body ≤ length forms) = sound_found c s forms m body e (and_true (is_sound form) (list_all is_sound forms) h).1 in
    (rest.0, rest.1, omega (arith, rest.2))

pub made_from : (c s : List ℕ) (forms : List text.Form) (o : Option Numbered) → option_map body_in o ≡ method_found c s forms → list_all is_sound forms ≡ true
    → length forms < 2 ^ 26 → IfSome o (λ m. m.literals ≡ count_by (λ form. is_literal (form_by form)) m.body.now) → IfSome o IsMethodMade
made_from c s forms None e h few counted = tt
made_from c s forms (Some m) e h few counted =
    let all : (method_fits (body_in m).0 ≡ true) × (list_all is_sound (body_in m).1 ≡ true) × (length (body_in m).1 ≤ length forms) = sound_found c s forms (body_in m).0 (body_in m).1 (sym e) h in
    record { fits = all.0; few = omega (arith, all.2, few, length-map m.body.now form_by); sound = all.1; counted = counted }

pub own_sound : (forms : List text.Form) → list_all is_sound (all_forms forms) ≡ true → list_all is_sound forms ≡ true
own_sound forms e = e

pub own_few : (forms : List text.Form) → length forms ≤ length (all_forms forms)
own_few forms = omega arith

-- ---- that there is a number

place_there : (w : text.Form → ℕ) (p : text.Form → Bool) (at : ℕ) (front : List text.Form) (form : text.Form) (rest : List text.Form) → p form ≡ true
    → is_some (place_where w p at (front ++ form ∷ rest)) ≡ true
place_there w p at [] form rest e = ap (λ b. is_some (if b then Some at else place_where w p (at + w form) rest)) e
place_there w p at (x ∷ front) form rest e = go (p x) (place_there w p (at + w x) front form rest e)
  where
    go : (b : Bool) → is_some (place_where w p (at + w x) (front ++ form ∷ rest)) ≡ true
        → is_some (if b then Some at else place_where w p (at + w x) (front ++ form ∷ rest)) ≡ true
    go true h = refl
    go false h = h

numbered_from : (forms front rest : List text.Form) → all_forms forms ≡ front ++ rest → list_all (has_number forms) rest ≡ true
numbered_from forms front [] e = refl
numbered_from forms front (form ∷ rest) e = ap₂ (λ a b. a && b) (one form e)
    (numbered_from forms (front ++ form ∷ []) rest (e ∙ sym (append_assoc front (form ∷ []) rest)))
  where
    one : (x : text.Form) → all_forms forms ≡ front ++ x ∷ rest → has_number forms x ≡ true
    one (text.Method line) e = ap (λ all. is_some (place_where object_count (is_method_of line.class line.selector) first_class all)) e
        ∙ place_there object_count (is_method_of line.class line.selector) first_class front (text.Method line) rest
        (ap₂ (λ a b. a && b) (bytes_eq_self line.class) (bytes_eq_self line.selector))
    one x e = refl

pub all_numbered : (forms all : List text.Form) → all ≡ all_forms forms → list_all (has_number forms) all ≡ true
all_numbered forms all e = ap (list_all (has_number forms)) e ∙ numbered_from forms [] (all_forms forms) refl
