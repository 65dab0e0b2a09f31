-- The roots of a text's objects: the special objects, the scheduler and the active process.
use Rattle.std.proofs.Common.{◌≡◌, ◌≢◌, ℕ, ◌+◌, ◌≤◌, true, List, [], ◌∷◌, ◌++◌, length, map, replicate, Some, None, Option, refl, ap, subst, ◌∙◌, arith, slice_get}
use Rattle.std.specs.Prelude.{filter_map, slice_set, sum_by, option_and_then, option_map, unwrap_or}
use Rattle.std.specs.Option.{option_map_or}
use Rattle.std.specs.List.{AllByRecursion}
use Rattle.std.proofs.lemmas.Bool.{false≢true}
use Rattle.std.proofs.lemmas.Slice.Eq.{bytes_eq-Decides}
use Rattle.cs_model.specs.Obj.{Obj, Ctx, new_head}
use Rattle.cs_model.specs.Ref.{Ref}
use Rattle.cs_model.specs.Ref as ref
use Rattle.cs_model.specs.Text.{first_that}
use Rattle.cs_model.specs.BuilderText as text
use Rattle.cs_model.specs.BuilderText.{Form, ClassLine, MethodLine, ProcessLine}
use Rattle.cs_model.specs.BuilderFault.{known_classes}
use Rattle.cs_model.specs.Builder.{active_name, active_ref, all_forms, birth_where, built_process, first_context, is_process_named, method_for, nil_ref, obj_or_nil, object_count, process_birth, special_slots, text_objects}
use Rattle.cs_model.proofs.Same.{all-append}
use Rattle.cs_build.specs.Firsts.{first_made}
use Rattle.cs_build.specs.Formed.{IsFormedProcess, IsFormedRoots}
use Rattle.cs_build.specs.Judged.{IsJudged}
use Rattle.cs_build.proofs.FirstShapes.{all_special, other_specials, specials_are, specials_length, third_stays}
use Rattle.cs_build.proofs.LineShapes.{Refers}
use Rattle.cs_build.proofs.ObjectsThere.{IsPlaced, first_there, object_there, placed}
use Rattle.cs_build.proofs.Totalling.{HasMethod, all_by_place, method_of_process}

-- ---- each process has its method

abbrev HasMethodIf : List Form → Form → Type 0
HasMethodIf forms (text.Process p) = HasMethod forms p
HasMethodIf forms form = Unit {0}

line_has : (forms above : List Form) (form : Form) (below : List Form) → IsJudged forms → forms ≡ above ++ form ∷ below → HasMethodIf forms form
line_has forms above (text.Process p) below judged e = method_of_process forms above p below judged e
line_has forms above form below judged e = tt

known_has : (forms : List Form) (lines : List ClassLine) → AllByRecursion (HasMethodIf forms) (map (λ c. text.Class c) lines)
known_has forms [] = tt
known_has forms (line ∷ lines) = (tt, known_has forms lines)

all_has : (forms : List Form) → IsJudged forms → AllByRecursion (HasMethodIf forms) (all_forms forms)
all_has forms judged = all-append (HasMethodIf forms) (map (λ c. text.Class c) known_classes) forms (known_has forms known_classes)
    (all_by_place (HasMethodIf forms) forms (λ above form below e. line_has forms above form below judged e))

pub at_split : (P : Form → Type 0) (above : List Form) (form : Form) (below : List Form) → AllByRecursion P (above ++ form ∷ below) → P form
at_split P [] form below h = h.0
at_split P (x ∷ above) form below h = at_split P above form below h.1

-- ---- the objects of a process

context_first : (f : MethodLine → Obj) (o : Option MethodLine) (m : MethodLine) (last : Obj) → o ≡ Some m → slice_get (option_map_or (λ m. f m ∷ []) o [] ++ last ∷ []) 0 ≡ Some (f m)
context_first f o m last e = ap (λ (x : Option MethodLine). slice_get (option_map_or (λ m. f m ∷ []) x [] ++ last ∷ []) 0) e

process_second : (f : MethodLine → Obj) (o : Option MethodLine) (m : MethodLine) (last : Obj) → o ≡ Some m → slice_get (option_map_or (λ m. f m ∷ []) o [] ++ last ∷ []) 1 ≡ Some last
process_second f o m last e = ap (λ (x : Option MethodLine). slice_get (option_map_or (λ m. f m ∷ []) x [] ++ last ∷ []) 1) e

formed_process : (forms above : List Form) (p : ProcessLine) (below : List Form) (k : ℕ) → IsJudged forms → all_forms forms ≡ above ++ text.Process p ∷ below
    → birth_where forms (is_process_named p.name) ≡ Some k → k ≡ 16 + sum_by object_count above → IsFormedProcess (text_objects forms) (k + 1)
formed_process forms above p below k judged e born place =
    let has : HasMethod forms p = at_split (HasMethodIf forms) above (text.Process p) below (subst (AllByRecursion (HasMethodIf forms)) e (all_has forms judged)) in record {
      head = new_head 45 1;
      slots = built_process forms p (obj_or_nil (birth_where forms (is_process_named p.name)));
      has = record {
        there = ap (slice_get (text_objects forms)) (second k (sum_by object_count above) place)
            ∙ object_there forms above (text.Process p) below 1 _ judged e
            (process_second (λ m. Ctx (first_context forms m p.receiver)) (method_for forms p) has.line _ has.found);
        pointers = refl;
        shown = refl;
        other = refl;
        long = le 4;
      };
      context = k;
      names = ap (λ o. Some (obj_or_nil o)) born;
      frame = first_context forms has.line p.receiver;
      there = ap (slice_get (text_objects forms)) (first k (sum_by object_count above) place)
          ∙ object_there forms above (text.Process p) below 0 _ judged e
          (context_first (λ m. Ctx (first_context forms m p.receiver)) (method_for forms p) has.line _ has.found);
    }
  where
    first : (k n : ℕ) → k ≡ 16 + n → k ≡ 16 + (n + 0)
    first k n e = omega (arith, e)

    second : (k n : ℕ) → k ≡ 16 + n → k + 1 ≡ 16 + (n + 1)
    second k n e = omega (arith, e)

    le : (n : ℕ) → n ≤ n
    le n = omega arith

-- ---- the active process

process_placed : (forms : List Form) (name : List ℕ) (k : ℕ) (form : Form) (above below : List Form) → IsJudged forms → all_forms forms ≡ above ++ form ∷ below
    → birth_where forms (is_process_named name) ≡ Some k → k ≡ 16 + sum_by object_count above → is_process_named name form ≡ true → IsFormedProcess (text_objects forms) (k + 1)
process_placed forms name k (text.Process p) above below judged e born place is =
    formed_process forms above p below k judged e (ap (λ q. birth_where forms (is_process_named q)) ((bytes_eq-Decides p.name name).0 is) ∙ born) place
process_placed forms name k form above below judged e born place is = absurd (false≢true is)

live_process : (forms : List Form) (name : List ℕ) (o : Option ℕ) → IsJudged forms → birth_where forms (is_process_named name) ≡ o
    → unwrap_or (option_map (λ i. i + 1) o) 0 ≢ 0 → IsFormedProcess (text_objects forms) (unwrap_or (option_map (λ i. i + 1) o) 0)
live_process forms name None judged e some = absurd (some refl)
live_process forms name (Some k) judged e some =
    let r : IsPlaced (all_forms forms) (is_process_named name) k = placed forms (is_process_named name) k e in
    process_placed forms name k r.form r.above r.below judged r.whole e r.place r.yes

live_named : (forms : List Form) (name : Option (List ℕ)) → IsJudged forms → unwrap_or (option_and_then (process_birth forms) name) 0 ≢ 0
    → IsFormedProcess (text_objects forms) (unwrap_or (option_and_then (process_birth forms) name) 0)
live_named forms None judged some = absurd (some refl)
live_named forms (Some name) judged some = live_process forms name (birth_where forms (is_process_named name)) judged refl some

or_nil : (o : Option ℕ) → obj_or_nil o ≡ ref.Obj (unwrap_or o 0)
or_nil None = refl
or_nil (Some n) = refl

-- ---- the roots

unfoldable the_active : List Form → Option (List ℕ)
the_active forms = first_that (filter_map active_name forms)

active_is : (forms : List Form) → active_ref forms ≡ ref.Obj (unwrap_or (option_and_then (process_birth forms) (the_active forms)) 0)
unfolding the_active
active_is forms = or_nil (option_and_then (process_birth forms) (first_that (filter_map active_name forms)))

special_length : (forms : List Form) → length (special_slots forms) ≡ 51
special_length forms = ap length (specials_are forms) ∙ specials_length (slice_set (replicate 51 nil_ref) 3 (ref.Obj 5)) (other_specials forms)

pub text_roots : (forms : List Form) → IsJudged forms → Refers forms → IsFormedRoots (text_objects forms)
unfolding first_made
text_roots forms judged refers = record {
  array = new_head 39 2;
  special = special_slots forms;
  specials = record { there = first_there forms 3 _ refl; pointers = refl; shown = refl; other = refl; long = long (length (special_slots forms)) (special_length forms) };
  format = refl;
  link = 5;
  third = ap (λ slots. slice_get slots 3) (specials_are forms)
      ∙ third_stays (length (text_objects forms)) (slice_set (replicate 51 nil_ref) 3 (ref.Obj 5)) (other_specials forms) (ref.Obj 5) (all_special forms judged refers) refl;
  link_head = new_head 49 1;
  link_slots = nil_ref ∷ ref.Obj 6 ∷ [];
  linked = record { there = first_there forms 5 _ refl; pointers = refl; shown = refl; other = refl; long = omega arith };
  scheduler = 6;
  first = refl;
  scheduler_head = new_head 48 1;
  scheduler_slots = ref.Obj 7 ∷ active_ref forms ∷ [];
  scheduled = record { there = first_there forms 6 _ refl; pointers = refl; shown = refl; other = refl; long = le 2 };
  process = unwrap_or (option_and_then (process_birth forms) (the_active forms)) 0;
  active = ap Some (active_is forms);
  live = λ some. live_named forms (the_active forms) judged some;
}
  where
    long : (n : ℕ) → n ≡ 51 → 51 ≤ n
    long n e = omega (arith, e)

    le : (n : ℕ) → n ≤ n
    le n = omega arith
