-- Which object stands at which number, among the objects of a text.
use Rattle.std.proofs.Common.{◌≡◌, ℕ, ◌+◌, Bool, true, false, List, [], ◌∷◌, ◌++◌, length, map, Some, None, Option, refl, ap, ap₂, sym, subst, ◌∙◌, arith, if◌then◌else◌, slice_get}
use Rattle.std.specs.Prelude.{flat_map, sum_by, ◌||◌, ◌&&◌, not}
use Rattle.std.specs.List.{AllByRecursion, list_any}
use Rattle.std.specs.Str.{bytes_eq}
use Rattle.std.proofs.lemmas.Bool.{false≢true}
use Rattle.std.proofs.lemmas.Slice.Eq.{bytes_eq-Decides}
use Rattle.std.proofs.lemmas.List.{append-nil, append_assoc, map_push}
use Rattle.std.proofs.lemmas.List.Concat.{flat_map-append}
use Rattle.std.proofs.lemmas.List.Sums.{sum_by-cons}
use Rattle.cs_model.specs.Obj.{Obj}
use Rattle.cs_model.specs.BuilderText as text
use Rattle.cs_model.specs.BuilderText.{Form, ClassLine}
use Rattle.cs_model.specs.BuilderFault.{is_named, is_taken, known_classes, place_where}
use Rattle.cs_model.specs.Builder.{all_forms, birth_where, is_process_named, object_count, objects_in, text_objects}
use Rattle.cs_model.proofs.SavedPlacing.{get_append, get_behind}
use Rattle.cs_build.specs.Judged.{IsJudged}
use Rattle.cs_build.specs.Firsts.{first_made}
use Rattle.cs_build.specs.Grouped.{all_dictionaries, symbol_objects}
use Rattle.cs_build.proofs.Noting.{bytes_eq_turned}
use Rattle.cs_build.proofs.Queueing.{or_nothing}
use Rattle.cs_build.proofs.Sounding.{and_true}
use Rattle.cs_build.proofs.Totalling.{IsCounted, all_counted, first_counted, lines_made, made_counted, made_in_parts}

-- ---- the first objects

pub first_there : (forms : List Form) (k : ℕ) (o : Obj) → slice_get (first_made forms) k ≡ Some o → slice_get (text_objects forms) k ≡ Some o
first_there forms k o e = ap (λ os. slice_get os k) (made_in_parts forms)
    ∙ get_append ((first_made forms ++ lines_made forms) ++ all_dictionaries forms) (symbol_objects forms) k o
    (get_append (first_made forms ++ lines_made forms) (all_dictionaries forms) k o (get_append (first_made forms) (lines_made forms) k o e))

-- ---- the objects of a line

counted_append : (P : Form → Type 0) (xs ys : List Form) → AllByRecursion P (xs ++ ys) → AllByRecursion P xs × AllByRecursion P ys
counted_append P [] ys h = (tt, h)
counted_append P (x ∷ xs) ys h = let rest = counted_append P xs ys h.1 in ((h.0, rest.0), rest.1)

get_within : (f : Form → List Obj) (above : List Form) (form : Form) (below : List Form) (n k : ℕ) (o : Obj) → length (flat_map f above) ≡ n → slice_get (f form) k ≡ Some o
    → slice_get (flat_map f (above ++ form ∷ below)) (n + k) ≡ Some o
get_within f above form below n k o long e = ap₂ slice_get (flat_map-append f above (form ∷ below)) (ap (λ m. m + k) (sym long))
    ∙ get_behind (flat_map f above) (f form ++ flat_map f below) k ∙ get_append (f form) (flat_map f below) k o e

get_middle : (a b c d : List Obj) (n k : ℕ) (o : Obj) → length a ≡ n → slice_get b k ≡ Some o → slice_get (((a ++ b) ++ c) ++ d) (n + k) ≡ Some o
get_middle a b c d n k o long e = get_append ((a ++ b) ++ c) d (n + k) o (get_append (a ++ b) c (n + k) o
    (ap (λ m. slice_get (a ++ b) (m + k)) (sym long) ∙ get_behind a b k ∙ e))

line_there : (forms above : List Form) (form : Form) (below : List Form) (k : ℕ) (o : Obj) → IsJudged forms → all_forms forms ≡ above ++ form ∷ below
    → slice_get (objects_in forms form) k ≡ Some o → slice_get (lines_made forms) (sum_by object_count above + k) ≡ Some o
unfolding lines_made
line_there forms above form below k o judged e there =
    let counted : AllByRecursion (IsCounted forms) (above ++ form ∷ below) = subst (AllByRecursion (IsCounted forms)) e (all_counted forms judged) in
    let long : length (flat_map (objects_in forms) above) ≡ sum_by object_count above =
    made_counted (objects_in forms) above (counted_append (IsCounted forms) above (form ∷ below) counted).0 in
    ap (λ fs. slice_get (flat_map (objects_in forms) fs) (sum_by object_count above + k)) e ∙ get_within (objects_in forms) above form below (sum_by object_count above) k o long there

-- those of a line stand behind those of all lines above it, and of the first sixteen
pub object_there : (forms above : List Form) (form : Form) (below : List Form) (k : ℕ) (o : Obj) → IsJudged forms → all_forms forms ≡ above ++ form ∷ below
    → slice_get (objects_in forms form) k ≡ Some o → slice_get (text_objects forms) (16 + (sum_by object_count above + k)) ≡ Some o
object_there forms above form below k o judged e there =
    ap (λ os. slice_get os (16 + (sum_by object_count above + k))) (made_in_parts forms)
    ∙ get_middle (first_made forms) (lines_made forms) (all_dictionaries forms) (symbol_objects forms) 16 (sum_by object_count above + k) o (first_counted forms)
    (line_there forms above form below k o judged e there)

-- ---- the first line that passes

pub record IsPlaced (all : List Form) (passes : Form → Bool) (n : ℕ) : Type 0 where
  pub above : List Form
  pub form : Form
  pub below : List Form
  pub whole : all ≡ above ++ form ∷ below
  pub yes : passes form ≡ true
  pub none : list_any passes above ≡ false
  pub place : n ≡ 16 + sum_by object_count above

record PlacedFrom (all : List Form) (passes : Form → Bool) (at n : ℕ) : Type 0 where
  above : List Form
  form : Form
  below : List Form
  whole : all ≡ above ++ form ∷ below
  yes : passes form ≡ true
  none : list_any passes above ≡ false
  place : n ≡ at + sum_by object_count above

placed_from : (all : List Form) (passes : Form → Bool) (at n : ℕ) → place_where object_count passes at all ≡ Some n → PlacedFrom all passes at n
placed_from [] passes at n e = absurd (cc)
placed_from (form ∷ all) passes at n e = go (passes form) refl e (placed_from all passes (at + object_count form) n)
  where
    go : (b : Bool) → passes form ≡ b → (if b then Some at else place_where object_count passes (at + object_count form) all) ≡ Some n
        → (place_where object_count passes (at + object_count form) all ≡ Some n → PlacedFrom all passes (at + object_count form) n) → PlacedFrom (form ∷ all) passes at n
    go true is e h =
        let same : at ≡ n = cc in
        record { above = []; form = form; below = all; whole = refl; yes = is; none = refl; place = omega (arith, same) }
    go false is e h =
        let r : PlacedFrom all passes (at + object_count form) n = h e in record {
          above = form ∷ r.above;
          form = r.form;
          below = r.below;
          whole = ap (λ fs. form ∷ fs) r.whole;
          yes = r.yes;
          none = ap (λ b. b || list_any passes r.above) is ∙ r.none;
          place = omega (arith, r.place, sum_by-cons object_count form r.above);
        }

pub placed : (forms : List Form) (passes : Form → Bool) (n : ℕ) → birth_where forms passes ≡ Some n → IsPlaced (all_forms forms) passes n
placed forms passes n e =
    let r : PlacedFrom (all_forms forms) passes 16 n = placed_from (all_forms forms) passes 16 n e in
    record { above = r.above; form = r.form; below = r.below; whole = r.whole; yes = r.yes; none = r.none; place = r.place }

place_none : (passes : Form → Bool) (at : ℕ) (all : List Form) → list_any passes all ≡ false → place_where object_count passes at all ≡ None
place_none passes at [] e = refl
place_none passes at (form ∷ all) e = go (passes form) refl (place_none passes (at + object_count form) all)
  where
    go : (b : Bool) → passes form ≡ b → (list_any passes all ≡ false → place_where object_count passes (at + object_count form) all ≡ None)
        → (if b then Some at else place_where object_count passes (at + object_count form) all) ≡ None
    go true is h = absurd (false≢true (sym e ∙ ap (λ b. b || list_any passes all) is))
    go false is h = h (sym (ap (λ b. b || list_any passes all) is) ∙ e)

pub place_behind : (passes : Form → Bool) (at : ℕ) (above rest : List Form) → list_any passes above ≡ false
    → place_where object_count passes at (above ++ rest) ≡ place_where object_count passes (at + sum_by object_count above) rest
place_behind passes at [] rest e = ap (λ n. place_where object_count passes n rest) (omega arith)
place_behind passes at (form ∷ above) rest e = go (passes form) refl (place_behind passes (at + object_count form) above rest)
  where
    go : (b : Bool) → passes form ≡ b → (list_any passes above ≡ false → place_where object_count passes (at + object_count form) (above ++ rest)
        ≡ place_where object_count passes (at + object_count form + sum_by object_count above) rest) → (if b then Some at else place_where object_count passes (at + object_count form) (above ++ rest))
        ≡ place_where object_count passes (at + sum_by object_count (form ∷ above)) rest
    go true is h = absurd (false≢true (sym e ∙ ap (λ b. b || list_any passes above) is))
    go false is h = h (sym (ap (λ b. b || list_any passes above) is) ∙ e)
        ∙ ap (λ n. place_where object_count passes n rest) (omega (arith, sum_by-cons object_count form above))

-- ---- names that are apart

-- no line has a name that stands in front of it
abbrev ApartFrom : List Form → List Form → Type 0
ApartFrom front [] = Unit {0}
ApartFrom front (form ∷ rest) = ((name : List ℕ) → is_named name form ≡ true → list_any (is_named name) front ≡ false) × ApartFrom (front ++ form ∷ []) rest

any_append : (p : Form → Bool) (xs ys : List Form) → list_any p (xs ++ ys) ≡ list_any p xs || list_any p ys
any_append p [] ys = refl
any_append p (x ∷ xs) ys = ap (λ b. p x || b) (any_append p xs ys) ∙ go (p x) (list_any p xs) (list_any p ys)
  where
    go : (a b c : Bool) → a || (b || c) ≡ (a || b) || c
    go true b c = refl
    go false b c = refl

or_true : (b : Bool) → b || true ≡ true
or_true true = refl
or_true false = refl

apart_behind : (name : List ℕ) (front rest : List Form) → ApartFrom front rest → list_any (is_named name) front ≡ true → list_any (is_named name) rest ≡ false
apart_behind name front [] h e = refl
apart_behind name front (form ∷ rest) h e = go (is_named name form) refl (apart_behind name (front ++ form ∷ []) rest h.1
    (any_append (is_named name) front (form ∷ []) ∙ ap (λ b. b || list_any (is_named name) (form ∷ [])) e))
  where
    go : (b : Bool) → is_named name form ≡ b → list_any (is_named name) rest ≡ false → b || list_any (is_named name) rest ≡ false
    go true is r = absurd (false≢true (sym (h.0 name is) ∙ e))
    go false is r = r

apart_at : (front above : List Form) (form : Form) (below : List Form) → ApartFrom front (above ++ form ∷ below) → (name : List ℕ) → is_named name form ≡ true
    → (list_any (is_named name) above ≡ false) × (list_any (is_named name) below ≡ false)
apart_at front [] form below h name e =
    (refl, apart_behind name (front ++ form ∷ []) below h.1 (any_append (is_named name) front (form ∷ []) ∙ ap (λ b. list_any (is_named name) front || (b || false)) e ∙ or_true (list_any (is_named name) front)))
apart_at front (x ∷ above) form below h name e = go (is_named name x) refl (apart_at (front ++ x ∷ []) above form below h.1 name e)
  where
    go : (b : Bool) → is_named name x ≡ b → (list_any (is_named name) above ≡ false) × (list_any (is_named name) below ≡ false)
        → ((b || list_any (is_named name) above) ≡ false) × (list_any (is_named name) below ≡ false)
    go true is r = absurd (false≢true (sym (apart_behind name (front ++ x ∷ []) (above ++ form ∷ below) h.1
        (any_append (is_named name) front (x ∷ []) ∙ ap (λ b. list_any (is_named name) front || (b || false)) is ∙ or_true (list_any (is_named name) front)))
        ∙ any_append (is_named name) above (form ∷ below) ∙ ap (λ b. list_any (is_named name) above || (b || list_any (is_named name) below)) e ∙ or_true (list_any (is_named name) above)))
    go false is r = r

-- the classes above every text

abbrev is_apart : List ClassLine → List ClassLine → Bool
is_apart front [] = true
is_apart front (line ∷ rest) = not (list_any (is_named line.name) (map (λ c. text.Class c) front)) && is_apart (front ++ line ∷ []) rest

not_true : (b : Bool) → not b ≡ true → b ≡ false
not_true true e = absurd (cc)
not_true false e = refl

lines_apart : (front lines : List ClassLine) (rest : List Form) → is_apart front lines ≡ true → ApartFrom (map (λ c. text.Class c) (front ++ lines)) rest
    → ApartFrom (map (λ c. text.Class c) front) (map (λ c. text.Class c) lines ++ rest)
lines_apart front [] rest e h = subst (λ ls. ApartFrom (map (λ c. text.Class c) ls) rest) (append-nil front) h
lines_apart front (line ∷ lines) rest e h =
    let both : (not (list_any (is_named line.name) (map (λ c. text.Class c) front)) ≡ true) × (is_apart (front ++ line ∷ []) lines ≡ true) = and_true _ _ e in (
      (λ name is. ap (λ q. list_any (is_named q) (map (λ c. text.Class c) front)) ((bytes_eq-Decides name line.name).0 (sym (or_nothing (bytes_eq name line.name)) ∙ is)) ∙ not_true _ both.0),
      subst (λ fs. ApartFrom fs (map (λ c. text.Class c) lines ++ rest)) (map_push (λ c. text.Class c) front line)
          (lines_apart (front ++ line ∷ []) lines rest both.1 (subst (λ ls. ApartFrom (map (λ c. text.Class c) ls) rest) (sym (append_assoc front (line ∷ []) lines)) h)),
    )

-- the lines of the text

known_named : (name : List ℕ) (lines : List ClassLine) → list_any (is_named name) (map (λ c. text.Class c) lines) ≡ list_any (λ c. bytes_eq c.name name) lines
known_named name [] = refl
known_named name (line ∷ lines) = ap₂ (λ a b. a || b) (or_nothing (bytes_eq name line.name) ∙ bytes_eq_turned name line.name) (known_named name lines)

abbrev pub names_free : List Form → Form → Type 0
names_free above form = (name : List ℕ) → is_named name form ≡ true → is_taken above name ≡ false

one_free : (above : List Form) (name : List ℕ) (own : List ℕ) → list_any (is_taken above) (own ∷ []) ≡ false → list_any (bytes_eq name) (own ∷ []) ≡ true → is_taken above name ≡ false
one_free above name own e is =
    ap (is_taken above) ((bytes_eq-Decides name own).0 (sym (or_nothing (bytes_eq name own)) ∙ is)) ∙ sym (or_nothing (is_taken above own)) ∙ e

free : (forms above : List Form) (form : Form) (below : List Form) → IsJudged forms → forms ≡ above ++ form ∷ below → names_free above form
free forms above (text.Class line) below judged e name is = one_free above name line.name (judged.lines above (text.Class line) below e).new is
free forms above (text.Object own class slots) below judged e name is = one_free above name own (judged.lines above (text.Object own class slots) below e).new is
free forms above (text.Bytes own class bytes) below judged e name is = one_free above name own (judged.lines above (text.Bytes own class bytes) below e).new is
free forms above (text.Process line) below judged e name is = one_free above name line.name (judged.lines above (text.Process line) below e).new is
free forms above form below judged e name is = absurd (false≢true is)

own_apart : (known : List ClassLine) (forms front rest : List Form) → ((above : List Form) (form : Form) (below : List Form) → forms ≡ above ++ form ∷ below
    → (name : List ℕ) → is_named name form ≡ true → (list_any (λ c. bytes_eq c.name name) known || list_any (is_named name) above) ≡ false)
    → forms ≡ front ++ rest → ApartFrom (map (λ c. text.Class c) known ++ front) rest
own_apart known forms front [] h e = tt
own_apart known forms front (form ∷ rest) h e = (
  (λ name is. any_append (is_named name) (map (λ c. text.Class c) known) front ∙ ap (λ b. b || list_any (is_named name) front) (known_named name known) ∙ h front form rest e name is),
  subst (λ fs. ApartFrom fs rest) (sym (append_assoc (map (λ c. text.Class c) known) front (form ∷ [])))
      (own_apart known forms (front ++ form ∷ []) rest h (e ∙ sym (append_assoc front (form ∷ []) rest))),
)

known_check : is_apart [] known_classes ≡ true
known_check = refl

all_apart : (forms : List Form) → IsJudged forms → ApartFrom [] (all_forms forms)
all_apart forms judged = lines_apart [] known_classes forms known_check
    (subst (λ fs. ApartFrom fs forms) (append-nil (map (λ c. text.Class c) known_classes))
    (own_apart known_classes forms [] forms (λ above form below e. free forms above form below judged e) refl))

-- ---- the numbers of named things

named_in_name : (name : List ℕ) (form : Form) → is_process_named name form ≡ true → is_named name form ≡ true
named_in_name name (text.Process line) e = or_nothing (bytes_eq name line.name) ∙ bytes_eq_turned name line.name ∙ e
named_in_name name form e = absurd (false≢true e)

any_less : (p q : Form → Bool) → ((form : Form) → p form ≡ true → q form ≡ true) → (xs : List Form) → list_any q xs ≡ false → list_any p xs ≡ false
any_less p q h [] e = refl
any_less p q h (x ∷ xs) e = go (p x) (q x) refl refl e (any_less p q h xs)
  where
    go : (a b : Bool) → p x ≡ a → q x ≡ b → (b || list_any q xs) ≡ false → (list_any q xs ≡ false → list_any p xs ≡ false) → (a || list_any p xs) ≡ false
    go true true ea eb e r = absurd (false≢true (sym e))
    go true false ea eb e r = absurd (false≢true (sym eb ∙ h x ea))
    go false true ea eb e r = absurd (false≢true (sym e))
    go false false ea eb e r = r e

pub birth_named : (forms above : List Form) (form : Form) (below : List Form) (name : List ℕ) → IsJudged forms → all_forms forms ≡ above ++ form ∷ below → is_named name form ≡ true
    → birth_where forms (is_named name) ≡ Some (16 + sum_by object_count above)
birth_named forms above form below name judged e is =
    let none = apart_at [] above form below (subst (ApartFrom []) e (all_apart forms judged)) name is in
    ap (place_where object_count (is_named name) 16) e ∙ place_behind (is_named name) 16 above (form ∷ below) none.0
    ∙ ap (λ b. if b then Some (16 + sum_by object_count above) else place_where object_count (is_named name) (16 + sum_by object_count above + object_count form) below) is

-- what has a name is a process by the only line with that name
pub process_named : (forms above : List Form) (form : Form) (below : List Form) (name : List ℕ) → IsJudged forms → all_forms forms ≡ above ++ form ∷ below → is_named name form ≡ true
    → birth_where forms (is_process_named name) ≡ (if is_process_named name form then Some (16 + sum_by object_count above) else None)
process_named forms above form below name judged e is =
    let none = apart_at [] above form below (subst (ApartFrom []) e (all_apart forms judged)) name is in
    ap (place_where object_count (is_process_named name) 16) e
    ∙ place_behind (is_process_named name) 16 above (form ∷ below) (any_less (is_process_named name) (is_named name) (named_in_name name) above none.0)
    ∙ ap (λ (o : Option ℕ). if is_process_named name form then Some (16 + sum_by object_count above) else o)
    (place_none (is_process_named name) (16 + sum_by object_count above + object_count form) below (any_less (is_process_named name) (is_named name) (named_in_name name) below none.1))
