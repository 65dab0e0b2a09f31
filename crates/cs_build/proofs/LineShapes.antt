-- The objects of a text's lines, as an image may hold them.
use Rattle.std.proofs.Common.{◌≡◌, ◌≢◌, ℕ, zero, suc, ◌+◌, ◌*◌, ◌^◌, ◌<◌, ◌≤◌, ◌==◌, Bool, true, false, nat_lt, List, [], ◌∷◌, ◌++◌, length, map, Some, None, Option, refl, ap, sym, subst, ◌∙◌, arith, if◌then◌else◌}
use Rattle.std.specs.Prelude.{ℤ, pos, negsuc, codes, find, flat_map, int_lt, option_map, ◌||◌, ◌&&◌, not, ◌*ℤ◌, ◌+ℤ◌}
use Rattle.std.specs.Option.{option_map_or}
use Rattle.std.specs.List.{AllByRecursion, list_all, list_any}
use Rattle.std.specs.Str.{bytes_eq}
use Rattle.std.proofs.lemmas.Bool.{false≢true}
use Rattle.std.proofs.lemmas.Bool.Decides.{nat_tests}
use Rattle.std.proofs.lemmas.Int.{ints}
use Rattle.std.proofs.lemmas.List.{append_assoc}
use Rattle.std.proofs.lemmas.List.Concat.{flat_map-append}
use Rattle.cs_word.specs.Word.{IsSmall}
use Rattle.cs_model.specs.Obj.{Obj, Ptr, given_hash, is_header, literal_count, new_head}
use Rattle.cs_model.specs.Ref.{Ref}
use Rattle.cs_model.specs.Words.{plain_format}
use Rattle.cs_model.specs.BuilderText as text
use Rattle.cs_model.specs.BuilderText.{Form, ClassLine, MethodLine, ProcessLine, Mention}
use Rattle.cs_model.specs.BuilderFault.{all_classes, class_named, class_lines_in, fits, has_pointers, is_between, is_bytes_class, is_class_format, is_object_class, known_classes, may_have, method_fits, slots_fit}
use Rattle.cs_model.specs.Builder.{birth_where, built_bytecodes, built_header, built_literals, class_format, class_index, class_object, class_place, class_ref, dictionary_birth, is_process_named, mention_ref, method_birth, method_object, natural, nil_ref, obj_or_nil, pointer_object, process_ref, raw_object, symbol_ref, text_objects, values_birth}
use Rattle.cs_build.specs.Judged.{IsJudged, IsJudgedLine}
use Rattle.cs_build.specs.Laid.{FitsRef}
use Rattle.cs_build.specs.Stored.{IsByte}
use Rattle.cs_build.specs.Wholes.{table_made}
use Rattle.cs_build.proofs.Kinding.{HasClass, HasKinds, IsKind, IsShaped, all_kinds, class_of_index, has_class, index_few, kind_of_class, pointers_shaped, raw_shaped}
use Rattle.cs_build.proofs.Sounding.{and_true, natural_between, natural_least}
use Rattle.cs_build.proofs.Totalling.{found_first}

-- ---- what references of a text name

-- What lines refer to is among so many objects, and code is of bytes.
pub record AreReferred (forms : List Form) (total : ℕ) : Type 0 where
  pub numbers : (n : ℕ) → n ≤ 16 → n < total
  pub mentions : (m : Mention) → fits m ≡ true → FitsRef total (mention_ref forms m)
  pub symbols : (name : List ℕ) → FitsRef total (symbol_ref forms name)
  pub classes : (name : List ℕ) → FitsRef total (class_ref forms name)
  pub methods : (class selector : List ℕ) → FitsRef total (obj_or_nil (method_birth forms class selector))
  pub dictionaries : (class : List ℕ) → FitsRef total (obj_or_nil (option_map (dictionary_birth forms) (class_place forms class)))
  pub values : (place : ℕ) → place < length (all_classes forms) → values_birth forms place < total
  pub processes : (name : Option (List ℕ)) → FitsRef total (process_ref forms name)
  pub contexts : (name : List ℕ) → FitsRef total (obj_or_nil (birth_where forms (is_process_named name)))
  pub literals : (line : MethodLine) → AllByRecursion (FitsRef total) (built_literals forms line)
  pub literals_few : (line : MethodLine) → length (built_literals forms line) < 32768
  pub bytecodes : (line : MethodLine) → method_fits line ≡ true → AllByRecursion IsByte (built_bytecodes forms line)
  pub headers_small : (line : MethodLine) (n : ℕ) → method_fits line ≡ true → n < 32768 → built_header line n < 2 ^ 30
  pub headers_counted : (line : MethodLine) (n : ℕ) → method_fits line ≡ true → n < 32768 → literal_count (built_header line n) ≡ n
  pub headers : (line : MethodLine) (n : ℕ) → method_fits line ≡ true → n < 32768 → is_header (built_header line n) ≡ true

abbrev pub Shaped : List Form → Obj → Type 0
Shaped forms o = IsShaped (text_objects forms) (table_made forms) (length (text_objects forms)) o

abbrev pub Refers : List Form → Type 0
Refers forms = AreReferred forms (length (text_objects forms))

-- ---- small numbers

pub count_small : (n : ℕ) → n < 2 ^ 30 → IsSmall (pos n)
count_small n h = (first_of (omega (arith, ints), grind (arith, nat_tests)), first_of (omega (arith, ints, h), grind (arith, nat_tests, h)))

layout_small : (format fields : ℤ) → is_between 0 31 format ≡ true → is_between 0 65535 fields ≡ true → IsSmall (format *ℤ pos 65536 +ℤ fields)
layout_small format fields e h = go format fields (natural_between 0 31 format e) (natural_between 0 65535 fields h) e h
  where
    go : (a b : ℤ) → natural a ≤ 31 → natural b ≤ 65535 → is_between 0 31 a ≡ true → is_between 0 65535 b ≡ true → IsSmall (a *ℤ pos 65536 +ℤ b)
    go (pos a) (pos b) few less e h = let small : a * 65536 + b < 2 ^ 30 = omega (arith, few, less) in count_small (a * 65536 + b) small
    go (negsuc a) b few less e h = absurd (cc)
    go (pos a) (negsuc b) few less e h = absurd (cc)

-- ---- classes

format_small : (n : ℕ) (known : List ℕ) → list_all (λ m. nat_lt m 32) known ≡ true → list_any (λ m. m == n) known ≡ true → nat_lt n 32 ≡ true
format_small n [] all e = absurd (cc)
format_small n (m ∷ known) all e = go (m == n) refl e (format_small n known (and_true (nat_lt m 32) _ all).1)
  where
    go : (b : Bool) → (m == n) ≡ b → b || list_any (λ k. k == n) known ≡ true → (list_any (λ k. k == n) known ≡ true → nat_lt n 32 ≡ true) → nat_lt n 32 ≡ true
    go true is e r = let same : m ≡ n = grind (arith, nat_tests, is) in ap (λ k. nat_lt k 32) (sym same) ∙ (and_true (nat_lt m 32) _ all).0
    go false is e r = r e

pub format_between : (z : ℤ) → is_class_format z ≡ true → is_between 0 31 z ≡ true
format_between (pos n) e =
    let less : nat_lt n 32 ≡ true = format_small n (0 ∷ 1 ∷ 2 ∷ 3 ∷ 4 ∷ 5 ∷ 9 ∷ 10 ∷ 12 ∷ 16 ∷ 24 ∷ []) refl e in
    let few : n < 32 = grind (arith, nat_tests, less) in grind (arith, ints, nat_tests, few)
format_between (negsuc n) e = absurd (cc)

abbrev pub is_sized : ClassLine → Bool
is_sized c = is_between 0 31 c.format && is_between 0 65535 c.fields

pub class_shaped : (forms : List Form) (line : ClassLine) → IsJudged forms → Refers forms → is_sized line ≡ true → Shaped forms (class_object forms line)
class_shaped forms line judged refers e =
    let sized = and_true (is_between 0 31 line.format) (is_between 0 65535 line.fields) e in
    let kinds : HasKinds (table_made forms) = all_kinds forms judged in
    shaped (length (text_objects forms)) (class_index forms line.name) _ _ _ _ (super line.super) (refers.dictionaries line.name)
    (layout_small line.format line.fields sized.0 sized.1) (refers.symbols line.name) (index_few forms line.name judged) kinds.class
  where
    super : (o : Option (List ℕ)) → FitsRef (length (text_objects forms)) (option_map_or (class_ref forms) o nil_ref)
    super None = refers.numbers 0 (omega arith)
    super (Some name) = refers.classes name

    shaped : (total index : ℕ) (a b c d : Ref) → FitsRef total a → FitsRef total b → FitsRef total c → FitsRef total d → index < 2 ^ 22 → IsKind (table_made forms) 33
        → IsShaped (text_objects forms) (table_made forms) total (Ptr (given_hash index (new_head 33 1)) (a ∷ b ∷ c ∷ d ∷ []))
    shaped total index a b c d fa fb fc fd few kind = pointers_shaped (text_objects forms) (table_made forms) total 33 1 index (a ∷ b ∷ c ∷ d ∷ []) kind (λ e. omega (arith, e)) (omega arith) refl
        (fa, (fb, (fc, (fd, tt)))) (λ e. absurd (omega (arith, e))) few

-- ---- objects and bytes

-- a class above is the text's class of its name
classes_front : (known : List ClassLine) (above rest : List Form) (p : ClassLine → Bool) (c : ClassLine) → find p (known ++ flat_map class_lines_in above) ≡ Some c
    → find p (known ++ flat_map class_lines_in (above ++ rest)) ≡ Some c
classes_front known above rest p c e = ap (λ ls. find p (known ++ ls)) (flat_map-append class_lines_in above rest)
    ∙ ap (find p) (sym (append_assoc known (flat_map class_lines_in above) (flat_map class_lines_in rest))) ∙ found_first p (known ++ flat_map class_lines_in above) (flat_map class_lines_in rest) c e

class_above : (above rest : List Form) (name : List ℕ) (c : ClassLine) → class_named above name ≡ Some c → class_named (above ++ rest) name ≡ Some c
class_above above rest name c e = classes_front known_classes above rest (λ l. bytes_eq l.name name) c e

record IsOfClass (forms above : List Form) (name : List ℕ) (test : ClassLine → Bool) : Type 0 where
  line : ClassLine
  above_is : class_named above name ≡ Some line
  is : class_named forms name ≡ Some line
  passes : test line ≡ true

of_class : (forms above rest : List Form) (name : List ℕ) (test : ClassLine → Bool) → forms ≡ above ++ rest → option_map_or test (class_named above name) false ≡ true → IsOfClass forms above name test
of_class forms above rest name test e h = go (class_named above name) refl h
  where
    go : (o : Option ClassLine) → class_named above name ≡ o → option_map_or test o false ≡ true → IsOfClass forms above name test
    go None is t = absurd (cc)
    go (Some c) is t = record { line = c; above_is = is; is = ap (λ fs. class_named fs name) e ∙ class_above above rest name c is; passes = t }

not_seven : (z : ℤ) → is_between 0 5 z ≡ true → natural z ≢ 7
not_seven z e = let few : natural z ≤ 5 = natural_between 0 5 z e in λ same. omega (arith, few, same)

plain_twice : (n : ℕ) → n ≤ 5 → (plain_format n < 6) × (plain_format (plain_format n) ≡ plain_format n) × (plain_format n ≡ 0 → n ≡ 0)
plain_twice zero h = (omega arith, refl, λ e. refl)
plain_twice (suc zero) h = (omega arith, refl, λ e. absurd (omega (arith, e)))
plain_twice (suc (suc zero)) h = (omega arith, refl, λ e. absurd (omega (arith, e)))
plain_twice (suc (suc (suc zero))) h = (omega arith, refl, λ e. absurd (omega (arith, e)))
plain_twice (suc (suc (suc (suc zero)))) h = (omega arith, refl, λ e. absurd (omega (arith, e)))
plain_twice (suc (suc (suc (suc (suc zero))))) h = (omega arith, refl, λ e. absurd (omega (arith, e)))
plain_twice (suc (suc (suc (suc (suc (suc n)))))) h = absurd (omega (arith, h))

mentions_fit : (forms : List Form) (total : ℕ) (slots : List Mention) → ((m : Mention) → fits m ≡ true → FitsRef total (mention_ref forms m)) → list_all fits slots ≡ true
    → AllByRecursion (FitsRef total) (map (mention_ref forms) slots)
mentions_fit forms total [] each e = tt
mentions_fit forms total (m ∷ slots) each e = let both = and_true (fits m) (list_all fits slots) e in (each m both.0, mentions_fit forms total slots each both.1)

no_slots : (c : ClassLine) (slots : List Mention) → natural c.format ≡ 0 → has_pointers c ≡ true → not (has_pointers c) || may_have (length slots) c ≡ true → slots ≡ []
no_slots c slots zero_format pointers e = empty slots (told (sym (ap (λ b. not b || may_have (length slots) c) pointers) ∙ e))
  where
    zero_between : (z : ℤ) → natural z ≡ 0 → is_between 0 5 z ≡ true → is_between 0 0 z ≡ true
    zero_between (pos n) same e = ap (λ k. is_between 0 0 (pos k)) same
    zero_between (negsuc n) same e = absurd (cc)

    told : may_have (length slots) c ≡ true → (length slots == 0) ≡ true
    told h = sym (ap (λ b. if b then length slots == 0 else not (int_lt (pos (length slots)) c.fields)) (zero_between c.format zero_format pointers)) ∙ h

    empty : (xs : List Mention) → (length xs == 0) ≡ true → xs ≡ []
    empty [] h = refl
    empty (x ∷ xs) h = let none : suc (length xs) ≡ 0 = grind (arith, nat_tests, h) in absurd (omega (arith, none))

pub object_shaped : (forms above : List Form) (name class : List ℕ) (slots : List Mention) (below : List Form) → IsJudged forms → Refers forms
    → forms ≡ above ++ text.Object name class slots ∷ below → Shaped forms (pointer_object forms class slots)
object_shaped forms above name class slots below judged refers e =
    pointers_shaped (text_objects forms) (table_made forms) (length (text_objects forms)) (class_index forms class) (plain_format (class_format forms class)) 0 (map (mention_ref forms) slots)
    (kind_of_class forms class c judged has (not_seven c.format (and_true (has_pointers c) _ of.passes).0)) no_context
    plain.0 plain.1 (mentions_fit forms (length (text_objects forms)) slots (λ m f. refers.mentions m f) ranges.0) bare (omega arith)
  where
    line : IsJudgedLine above (text.Object name class slots)
    line = judged.lines above (text.Object name class slots) below e

    ranges : (list_all fits slots ≡ true) × (slots_fit above class (length slots) ≡ true)
    ranges = and_true (list_all fits slots) (slots_fit above class (length slots)) line.fits

    of : IsOfClass forms above class is_object_class
    of = of_class forms above (text.Object name class slots ∷ below) class is_object_class e line.names

    c : ClassLine
    c = of.line

    has : HasClass forms class of.line
    has = has_class forms class of.line of.is

    format_is : class_format forms class ≡ natural of.line.format
    format_is = ap (λ o. option_map_or (λ (l : ClassLine). natural l.format) o 0) of.is

    five : natural of.line.format ≤ 5
    five = natural_between 0 5 of.line.format (and_true (has_pointers of.line) _ of.passes).0

    plain : (plain_format (class_format forms class) < 6) × (plain_format (plain_format (class_format forms class)) ≡ plain_format (class_format forms class)) × (plain_format (class_format forms class) ≡ 0 → class_format forms class ≡ 0)
    plain = plain_twice (class_format forms class) (subst (λ n. n ≤ 5) (sym format_is) five)

    no_context : class_index forms class ≢ 36
    no_context = λ same.
        let is : bytes_eq of.line.name (codes "Context") ≡ true = ap (λ (l : ClassLine). bytes_eq l.name (codes "Context")) (sym (class_of_index forms class of.line has 36 4 refl same)) in
        false≢true (sym (ap not is) ∙ (and_true (has_pointers of.line) (not (bytes_eq of.line.name (codes "Context"))) of.passes).1)

    bare : plain_format (class_format forms class) ≡ 0 → map (mention_ref forms) slots ≡ []
    bare zero_format = ap (map (mention_ref forms)) (no_slots of.line slots (sym format_is ∙ plain.2 zero_format) (and_true (has_pointers of.line) _ of.passes).0
        (sym (ap (λ o. option_map_or (λ l. not (has_pointers l) || may_have (length slots) l) o true) of.above_is) ∙ ranges.1))

pub bytes_shaped : (forms above : List Form) (name class bytes : List ℕ) (below : List Form) → IsJudged forms → AllByRecursion IsByte bytes
    → forms ≡ above ++ text.Bytes name class bytes ∷ below → Shaped forms (raw_object (class_index forms class) bytes)
bytes_shaped forms above name class bytes below judged units e =
    raw_shaped (text_objects forms) (table_made forms) (length (text_objects forms)) (class_index forms class) bytes
    (kind_of_class forms class of.line judged has (λ same. omega (arith, same, least))) no_context units
  where
    of : IsOfClass forms above class is_bytes_class
    of = of_class forms above (text.Bytes name class bytes ∷ below) class is_bytes_class e (judged.lines above (text.Bytes name class bytes) below e).names

    has : HasClass forms class of.line
    has = has_class forms class of.line of.is

    least : 16 ≤ natural of.line.format
    least = natural_least 16 16 of.line.format of.passes

    no_context : class_index forms class ≢ 36
    no_context = λ same.
        let is : natural of.line.format ≡ 3 = ap (λ (l : ClassLine). natural l.format) (sym (class_of_index forms class of.line has 36 4 refl same)) in
        omega (arith, is, least)

-- ---- methods

pub method_shaped : (forms : List Form) (line : MethodLine) → IsJudged forms → Refers forms → method_fits line ≡ true → Shaped forms (method_object forms line)
method_shaped forms line judged refers fit = record {
  stored = record {
    is_head = refl;
    small = refers.headers_small line (length (built_literals forms line)) fit (refers.literals_few line);
    counted = refers.headers_counted line (length (built_literals forms line)) fit (refers.literals_few line);
    refs = refers.literals line;
    units = refers.bytecodes line fit;
  };
  formed = refers.headers line (length (built_literals forms line)) fit (refers.literals_few line);
  kind = let kind : IsKind (table_made forms) 43 = (all_kinds forms judged).method in record { large = kind.large; shown = kind.shown; entry = kind.filled };
  context = tt;
  class = omega arith;
  hash = omega arith;
}
