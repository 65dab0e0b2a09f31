-- How many objects a text makes.
use Rattle.std.proofs.Common.{◌≡◌, ℕ, ◌+◌, ◌*◌, Bool, true, false, List, [], ◌∷◌, ◌++◌, length, map, Some, None, Option, refl, ap, ap₂, sym, subst, ◌∙◌, arith, if◌then◌else◌, length-append}
use Rattle.std.specs.Prelude.{find, flat_map, sum_by, ◌&&◌}
use Rattle.std.specs.Option.{option_map_or}
use Rattle.std.specs.List.{AllByRecursion, enumerate_from}
use Rattle.std.specs.Str.{bytes_eq}
use Rattle.std.proofs.lemmas.List.{append_assoc, length-map}
use Rattle.std.proofs.lemmas.List.Sums.{sum_by-cons}
use Rattle.cs_model.specs.Obj.{Obj}
use Rattle.cs_model.specs.BuilderText as text
use Rattle.cs_model.specs.BuilderText.{Form, ClassLine, MethodLine, ProcessLine}
use Rattle.cs_model.specs.BuilderFault.{all_classes, known_classes, method_named, begins_process}
use Rattle.cs_model.specs.Builder.{all_forms, dictionary_objects, first_dictionary, first_symbol, method_for, methods_of, object_count, objects_in, symbols_of, text_objects}
use Rattle.cs_model.proofs.Same.{all-append}
use Rattle.cs_build.specs.Judged.{IsJudged}
use Rattle.cs_build.specs.Firsts.{first_made}
use Rattle.cs_build.specs.Grouped.{all_dictionaries, symbol_objects}
use Rattle.cs_build.specs.Standing.{symbol_names}

-- ---- what holds of each element, by those in front of it

all_from : {X : Type 0} (P : X → Type 0) (all front rest : List X) → ((above : List X) (x : X) (below : List X) → all ≡ above ++ (x ∷ below) → P x)
    → all ≡ front ++ rest → AllByRecursion P rest
all_from P all front [] h e = tt
all_from P all front (x ∷ rest) h e =
    (h front x rest e, all_from P all (front ++ x ∷ []) rest h (e ∙ sym (append_assoc front (x ∷ []) rest)))

pub all_by_place : {X : Type 0} (P : X → Type 0) (all : List X) → ((above : List X) (x : X) (below : List X) → all ≡ above ++ (x ∷ below) → P x) → AllByRecursion P all
all_by_place P all h = all_from P all [] all h refl

-- ---- a method that a line above begins

found_if : (p : MethodLine → Bool) (a : Bool) (line : MethodLine) (rest : List MethodLine)
    → find p (if a then line ∷ rest else rest) ≡ (if a then (if p line then Some line else find p rest) else find p rest)
found_if p true line rest = refl
found_if p false line rest = refl

-- the first method of a class and a selector is the first of that selector among those of the class
pub method_grouped : (above : List Form) (c s : List ℕ) (m : MethodLine) → method_named above c s ≡ Some m → find (λ l. bytes_eq l.selector s) (methods_of above c) ≡ Some m
method_grouped [] c s m e = absurd (cc)
method_grouped (text.Method line ∷ above) c s m e =
    found_if (λ l. bytes_eq l.selector s) (bytes_eq line.class c) line (methods_of above c)
    ∙ go (bytes_eq line.class c) (bytes_eq line.selector s) e (method_grouped above c s m)
  where
    go : (a b : Bool) → (if a && b then Some line else method_named above c s) ≡ Some m
        → (method_named above c s ≡ Some m → find (λ l. bytes_eq l.selector s) (methods_of above c) ≡ Some m)
        → (if a then (if b then Some line else find (λ l. bytes_eq l.selector s) (methods_of above c)) else find (λ l. bytes_eq l.selector s) (methods_of above c)) ≡ Some m
    go true true e h = e
    go true false e h = h e
    go false b e h = h e
method_grouped (form ∷ above) c s m e = method_grouped above c s m e

methods_append : (above rest : List Form) (c : List ℕ) → methods_of (above ++ rest) c ≡ methods_of above c ++ methods_of rest c
methods_append [] rest c = refl
methods_append (text.Method line ∷ above) rest c = go (bytes_eq line.class c) (methods_append above rest c)
  where
    go : (a : Bool) → methods_of (above ++ rest) c ≡ methods_of above c ++ methods_of rest c
        → (if a then line ∷ methods_of (above ++ rest) c else methods_of (above ++ rest) c) ≡ (if a then line ∷ methods_of above c else methods_of above c) ++ methods_of rest c
    go true e = ap (λ ms. line ∷ ms) e
    go false e = e
methods_append (form ∷ above) rest c = methods_append above rest c

pub found_first : {X : Type 0} (p : X → Bool) (xs ys : List X) (x : X) → find p xs ≡ Some x → find p (xs ++ ys) ≡ Some x
found_first p [] ys x e = absurd (cc)
found_first p (y ∷ xs) ys x e = go (p y) e (found_first p xs ys x)
  where
    go : (b : Bool) → (if b then Some y else find p xs) ≡ Some x → (find p xs ≡ Some x → find p (xs ++ ys) ≡ Some x) → (if b then Some y else find p (xs ++ ys)) ≡ Some x
    go true e h = e
    go false e h = h e

-- A process has a method, which a line above it begins.
pub record HasMethod (forms : List Form) (p : ProcessLine) : Type 0 where
  pub line : MethodLine
  pub found : method_for forms p ≡ Some line
  pub begins : begins_process line ≡ true
  pub above : List Form
  pub rest : List Form
  pub whole : forms ≡ above ++ rest
  pub named : method_named above p.class p.selector ≡ Some line

method_from : (above rest : List Form) (p : ProcessLine) (o : Option MethodLine) → method_named above p.class p.selector ≡ o
    → option_map_or begins_process o false ≡ true → HasMethod (above ++ rest) p
method_from above rest p None e h = absurd (cc)
method_from above rest p (Some m) e h = record {
  line = m;
  found = ap (find (λ l. bytes_eq l.selector p.selector)) (methods_append above rest p.class)
      ∙ found_first (λ l. bytes_eq l.selector p.selector) (methods_of above p.class) (methods_of rest p.class) m (method_grouped above p.class p.selector m e);
  begins = h;
  above = above;
  rest = rest;
  whole = refl;
  named = e;
}

pub method_of_process : (forms above : List Form) (p : ProcessLine) (below : List Form) → IsJudged forms → forms ≡ above ++ (text.Process p ∷ below) → HasMethod forms p
method_of_process forms above p below judged e =
    subst (λ fs. HasMethod fs p) (sym e)
    (method_from above (text.Process p ∷ below) p (method_named above p.class p.selector) refl (judged.lines above (text.Process p) below e).names)

-- ---- the objects of each line

abbrev pub IsCounted : List Form → Form → Type 0
IsCounted forms form = length (objects_in forms form) ≡ object_count form

two_made : (forms : List Form) (p : ProcessLine) (o : Option MethodLine) (m : MethodLine) (f : MethodLine → Obj) (last : Obj) → o ≡ Some m
    → length (option_map_or (λ m. f m ∷ []) o [] ++ last ∷ []) ≡ 2
two_made forms p o m f last e = ap (λ (x : Option MethodLine). length (option_map_or (λ m. f m ∷ []) x [] ++ last ∷ [])) e

line_counted : (forms above : List Form) (form : Form) (below : List Form) → IsJudged forms → forms ≡ above ++ (form ∷ below) → IsCounted forms form
line_counted forms above (text.Process p) below judged e =
    let has : HasMethod forms p = method_of_process forms above p below judged e in
    two_made forms p (method_for forms p) has.line _ _ has.found
line_counted forms above (text.Class line) below judged e = refl
line_counted forms above (text.Object name class slots) below judged e = refl
line_counted forms above (text.Bytes name class bytes) below judged e = refl
line_counted forms above (text.Method line) below judged e = refl
line_counted forms above form below judged e = refl

known_counted : (forms : List Form) (lines : List ClassLine) → AllByRecursion (IsCounted forms) (map (λ c. text.Class c) lines)
known_counted forms [] = tt
known_counted forms (line ∷ lines) = (refl, known_counted forms lines)

pub all_counted : (forms : List Form) → IsJudged forms → AllByRecursion (IsCounted forms) (all_forms forms)
all_counted forms judged = all-append (IsCounted forms) (map (λ c. text.Class c) known_classes) forms (known_counted forms known_classes)
    (all_by_place (IsCounted forms) forms (λ above form below e. line_counted forms above form below judged e))

-- ---- how many there are

pub made_counted : (f : Form → List Obj) (all : List Form) → AllByRecursion (λ form. length (f form) ≡ object_count form) all → length (flat_map f all) ≡ sum_by object_count all
made_counted f [] h = refl
made_counted f (form ∷ all) h = length-append (f form) (flat_map f all) ∙ ap₂ (λ a b. a + b) h.0 (made_counted f all h.1) ∙ sym (sum_by-cons object_count form all)

pub pairs_counted : (f : ℕ → ClassLine → List Obj) → ((k : ℕ) (line : ClassLine) → length (f k line) ≡ 2) → (at : ℕ) (lines : List ClassLine)
    → length (flat_map (λ e. f e.0 e.1) (enumerate_from at lines)) ≡ 2 * length lines
pairs_counted f h at [] = refl
pairs_counted f h at (line ∷ lines) = length-append (f at line) (flat_map (λ e. f e.0 e.1) (enumerate_from (at + 1) lines))
    ∙ ap₂ (λ a b. a + b) (h at line) (pairs_counted f h (at + 1) lines) ∙ omega arith

pub first_counted : (forms : List Form) → length (first_made forms) ≡ 16
unfolding first_made
first_counted forms = refl

-- what the lines make
unfoldable pub lines_made : List Form → List Obj
lines_made forms = flat_map (objects_in forms) (all_forms forms)

pub made_in_parts : (forms : List Form) → text_objects forms ≡ ((first_made forms ++ lines_made forms) ++ all_dictionaries forms) ++ symbol_objects forms
unfolding first_made lines_made all_dictionaries symbol_names
made_in_parts forms = refl

pub lines_counted : (forms : List Form) → IsJudged forms → first_dictionary forms ≡ 16 + length (lines_made forms)
unfolding lines_made
lines_counted forms judged = ap (λ n. 16 + n) (sym (made_counted (objects_in forms) (all_forms forms) (all_counted forms judged)))

pub dictionaries_counted : (forms : List Form) → length (all_dictionaries forms) ≡ 2 * length (all_classes forms)
unfolding all_dictionaries
dictionaries_counted forms = pairs_counted (dictionary_objects forms) (λ k line. refl) 0 (all_classes forms)

pub symbols_counted : (forms : List Form) → length (symbol_objects forms) ≡ length (symbols_of forms)
unfolding symbol_names
symbols_counted forms = length-map (symbols_of forms) _

pub total_made : (forms : List Form) → IsJudged forms → length (text_objects forms) ≡ first_symbol forms + length (symbols_of forms)
total_made forms judged = ap length (made_in_parts forms)
    ∙ parts (first_made forms) (lines_made forms) (all_dictionaries forms) (symbol_objects forms) (first_dictionary forms) (length (all_classes forms)) (length (symbols_of forms))
    (first_counted forms) (lines_counted forms judged) (dictionaries_counted forms) (symbols_counted forms)
  where
    parts : (a b c d : List Obj) (first classes symbols : ℕ) → length a ≡ 16 → first ≡ 16 + length b → length c ≡ 2 * classes → length d ≡ symbols
        → length (((a ++ b) ++ c) ++ d) ≡ first + 2 * classes + symbols
    parts a b c d first classes symbols ea eb ec ed =
        omega (arith, ea, eb, ec, ed, length-append ((a ++ b) ++ c) d, length-append (a ++ b) c, length-append a b)
