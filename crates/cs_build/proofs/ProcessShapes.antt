-- The processes of a text and the contexts in which they begin, as an image may hold them.
use Rattle.std.proofs.Common.{◌≡◌, ℕ, suc, ◌+◌, ◌*◌, ◌^◌, ◌<◌, ◌≤◌, ◌==◌, Bool, true, false, List, [], ◌∷◌, ◌++◌, length, map, replicate, Some, None, Option, refl, ap, ap₂, sym, subst, ◌∙◌, arith, if◌then◌else◌, slice_get}
use Rattle.std.specs.Prelude.{ℤ, pos, negsuc, find, flat_map, sum_by, is_some, ◌||◌, ◌&&◌, nat_le}
use Rattle.std.specs.Option.{option_map_or}
use Rattle.std.specs.List.{AllByRecursion, list_any}
use Rattle.std.specs.Str.{bytes_eq}
use Rattle.std.proofs.lemmas.Bool.Decides.{nat_tests}
use Rattle.std.proofs.lemmas.List.{append_assoc, length-replicate}
use Rattle.std.proofs.lemmas.List.Concat.{flat_map-append}
use Rattle.std.proofs.lemmas.Slice.Eq.{bytes_eq-Decides}
use Rattle.cs_word.specs.Word.{IsSmall}
use Rattle.cs_model.specs.Obj.{Obj, Ctx, Ptr, context_size, first_pc, new_head}
use Rattle.cs_model.specs.Ref.{Ref, Small}
use Rattle.cs_model.specs.Ref as ref
use Rattle.cs_model.specs.BuilderText as text
use Rattle.cs_model.specs.BuilderText.{Form, MethodLine, ProcessLine}
use Rattle.cs_model.specs.BuilderFault.{fits, is_between, known_classes, method_fits, method_named, methods_in, most_temporaries, place_where}
use Rattle.cs_model.specs.Builder.{all_forms, begin_pc, birth_where, bit_of, built_bytecodes, built_header, built_literals, built_process, first_context, is_method_of, is_process_named, list_birth, method_birth, method_object, natural, nil_ref, obj_or_nil, object_count, primitive_bytes, process_objects, ready_in, text_objects}
use Rattle.cs_model.proofs.Same.{all-append, all-replicate}
use Rattle.cs_build.specs.Formed.{FormedContext}
use Rattle.cs_build.specs.Judged.{IsJudged}
use Rattle.cs_build.specs.Laid.{FitsRef}
use Rattle.cs_build.specs.Wholes.{table_made}
use Rattle.cs_build.proofs.Contexts.{size_is, temporaries_fit}
use Rattle.cs_build.proofs.Kinding.{IsKind, all_kinds, pointers_shaped}
use Rattle.cs_build.proofs.LineShapes.{Refers, Shaped, count_small}
use Rattle.cs_build.proofs.ObjectsThere.{object_there, place_behind}
use Rattle.cs_build.proofs.Sounding.{and_true, natural_between}
use Rattle.cs_build.proofs.Totalling.{HasMethod, found_first, method_of_process}

-- ---- the line of a method

record IsLineOf (c s : List ℕ) (forms : List Form) (m : MethodLine) : Type 0 where
  above : List Form
  below : List Form
  whole : forms ≡ above ++ text.Method m ∷ below
  none : list_any (is_method_of c s) above ≡ false
  class : m.class ≡ c
  selector : m.selector ≡ s

line_cons : (c s : List ℕ) (form : Form) (forms : List Form) (m : MethodLine) → is_method_of c s form ≡ false → IsLineOf c s forms m → IsLineOf c s (form ∷ forms) m
line_cons c s form forms m e r = record {
  above = form ∷ r.above;
  below = r.below;
  whole = ap (λ fs. form ∷ fs) r.whole;
  none = ap (λ b. b || list_any (is_method_of c s) r.above) e ∙ r.none;
  class = r.class;
  selector = r.selector;
}

line_of : (c s : List ℕ) (forms : List Form) (m : MethodLine) → method_named forms c s ≡ Some m → IsLineOf c s forms m
line_of c s [] m e = absurd (cc)
line_of c s (text.Method line ∷ forms) m e = go (bytes_eq line.class c) (bytes_eq line.selector s) refl refl e (line_of c s forms m)
  where
    go : (a b : Bool) → bytes_eq line.class c ≡ a → bytes_eq line.selector s ≡ b → (if a && b then Some line else method_named forms c s) ≡ Some m
        → (method_named forms c s ≡ Some m → IsLineOf c s forms m) → IsLineOf c s (text.Method line ∷ forms) m
    go true true ea eb e r =
        let same : line ≡ m = cc in record {
          above = [];
          below = forms;
          whole = ap (λ l. text.Method l ∷ forms) same;
          none = refl;
          class = ap (λ (l : MethodLine). l.class) (sym same) ∙ (bytes_eq-Decides line.class c).0 ea;
          selector = ap (λ (l : MethodLine). l.selector) (sym same) ∙ (bytes_eq-Decides line.selector s).0 eb;
        }
    go true false ea eb e r = line_cons c s (text.Method line) forms m (ap₂ (λ x y. x && y) ea eb) (r e)
    go false b ea eb e r = line_cons c s (text.Method line) forms m (ap (λ x. x && bytes_eq line.selector s) ea) (r e)
line_of c s (form ∷ forms) m e = line_cons c s form forms m refl (line_of c s forms m e)

named_front : (above rest : List Form) (c s : List ℕ) (m : MethodLine) → method_named above c s ≡ Some m → method_named (above ++ rest) c s ≡ Some m
named_front above rest c s m e = ap (find (λ l. bytes_eq l.class c && bytes_eq l.selector s)) (flat_map-append methods_in above rest)
    ∙ found_first (λ l. bytes_eq l.class c && bytes_eq l.selector s) (flat_map methods_in above) (flat_map methods_in rest) m e

-- ---- its object

pub record IsMethodThere (forms : List Form) (m : MethodLine) : Type 0 where
  pub number : ℕ
  pub born : method_birth forms m.class m.selector ≡ Some number
  pub there : slice_get (text_objects forms) number ≡ Some (method_object forms m)
  pub fit : method_fits m ≡ true

itself : (m : MethodLine) → is_method_of m.class m.selector (text.Method m) ≡ true
itself m = ap₂ (λ x y. x && y) ((bytes_eq-Decides m.class m.class).1 refl) ((bytes_eq-Decides m.selector m.selector).1 refl)

place_of_line : (passes : Form → Bool) (front above : List Form) (form : Form) (below : List Form) → list_any passes (front ++ above) ≡ false → passes form ≡ true
    → place_where object_count passes 16 ((front ++ above) ++ form ∷ below) ≡ Some (16 + sum_by object_count (front ++ above))
place_of_line passes front above form below absent e = place_behind passes 16 (front ++ above) (form ∷ below) absent
    ∙ ap (λ b. if b then Some (16 + sum_by object_count (front ++ above)) else place_where object_count passes (16 + sum_by object_count (front ++ above) + object_count form) below) e

any_known : (c s : List ℕ) (above : List Form) → list_any (is_method_of c s) (map (λ l. text.Class l) known_classes ++ above) ≡ list_any (is_method_of c s) above
any_known c s above = refl

method_of_line : (forms above : List Form) (m : MethodLine) (below : List Form) → IsJudged forms → forms ≡ above ++ text.Method m ∷ below
    → list_any (is_method_of m.class m.selector) above ≡ false → IsMethodThere forms m
method_of_line forms above m below judged e absent = record {
  number = 16 + (sum_by object_count (map (λ l. text.Class l) known_classes ++ above) + 0);
  born = ap (place_where object_count (is_method_of m.class m.selector) 16) whole
      ∙ place_of_line (is_method_of m.class m.selector) (map (λ l. text.Class l) known_classes) above (text.Method m) below (any_known m.class m.selector above ∙ absent) (itself m)
      ∙ ap Some (nothing (sum_by object_count (map (λ l. text.Class l) known_classes ++ above)));
  there = object_there forms (map (λ l. text.Class l) known_classes ++ above) (text.Method m) below 0 (method_object forms m) judged whole refl;
  fit = (judged.lines above (text.Method m) below e).fits;
}
  where
    nothing : (n : ℕ) → 16 + n ≡ 16 + (n + 0)
    nothing n = omega arith

    whole : all_forms forms ≡ (map (λ l. text.Class l) known_classes ++ above) ++ text.Method m ∷ below
    whole = ap (λ fs. map (λ l. text.Class l) known_classes ++ fs) e ∙ sym (append_assoc (map (λ l. text.Class l) known_classes) above (text.Method m ∷ below))

pub method_there : (forms : List Form) (p : ProcessLine) → IsJudged forms → (has : HasMethod forms p) → IsMethodThere forms has.line
method_there forms p judged has =
    let named : method_named forms p.class p.selector ≡ Some has.line = ap (λ fs. method_named fs p.class p.selector) has.whole ∙ named_front has.above has.rest p.class p.selector has.line has.named in
    let l : IsLineOf p.class p.selector forms has.line = line_of p.class p.selector forms has.line named in
    method_of_line forms l.above has.line l.below judged l.whole (ap₂ (λ c s. list_any (is_method_of c s) l.above) l.class l.selector ∙ l.none)

-- ---- the context

pc_lies : (first : ℕ) (primitive : Option ℤ) (code : List ℕ)
    → nat_le first (first + 3 * bit_of (is_some primitive)) && nat_le (first + 3 * bit_of (is_some primitive)) (first + length (primitive_bytes primitive ++ code)) ≡ true
pc_lies first None code = both (first + 3 * 0) (first + length code) (omega arith) (omega arith)
  where
    both : (a b : ℕ) → first ≤ a → a ≤ b → nat_le first a && nat_le a b ≡ true
    both a b h k = grind (arith, nat_tests, h, k)
pc_lies first (Some n) code = both (first + 3 * 1) (first + suc (suc (suc (length code)))) (omega arith) (omega arith)
  where
    both : (a b : ℕ) → first ≤ a → a ≤ b → nat_le first a && nat_le a b ≡ true
    both a b h k = grind (arith, nat_tests, h, k)

one_size : (n : ℕ) (large : Bool) → n ≡ (if large then 56 else 16) → (n == 16 || n == 56) ≡ true
one_size n true e = ap (λ k. k == 16 || k == 56) e
one_size n false e = ap (λ k. k == 16 || k == 56) e

size_small : (n : ℕ) (large : Bool) → n ≡ (if large then 56 else 16) → n < 2 ^ 30
size_small n true e = omega (arith, e)
size_small n false e = omega (arith, e)

pub context_formed : (forms : List Form) (m : MethodLine) (receiver : text.Mention) → IsMethodThere forms m → FormedContext (text_objects forms) (first_context forms m receiver)
context_formed forms m receiver there = record {
  size = one_size (context_size (built_header m 0)) m.large (size_is m);
  sender = refl;
  closure = refl;
  at = begin_pc forms m;
  pc = refl;
  method = record {
    number = there.number;
    head = _;
    header = _;
    literals = built_literals forms m;
    bytecodes = built_bytecodes forms m;
    named = ap obj_or_nil there.born;
    there = there.there;
    lies = pc_lies (first_pc (built_literals forms m)) m.primitive _;
  };
}

context_shaped : (forms : List Form) (m : MethodLine) (receiver : text.Mention) → IsJudged forms → Refers forms → IsMethodThere forms m → fits receiver ≡ true
    → Shaped forms (Ctx (first_context forms m receiver))
context_shaped forms m receiver judged refers there fit = record {
  stored = record {
    at = begin_pc forms m;
    pc = refl;
    fits = low (is_some m.primitive) (length (built_literals forms m)) (refers.literals_few m);
    sender = refers.numbers 0 (omega arith);
    method = refers.methods m.class m.selector;
    closure = refers.numbers 0 (omega arith);
    receiver = refers.mentions receiver fit;
    stack = all-replicate (FitsRef (length (text_objects forms))) (natural m.temporaries) nil_ref (refers.numbers 0 (omega arith));
    depth = deep (natural m.temporaries) (context_size (built_header m 0)) (most_temporaries m) (temporaries_fit m there.fit) (size_is m);
    size = size_small (context_size (built_header m 0)) m.large (size_is m);
  };
  formed = tt;
  kind = let kind : IsKind (table_made forms) 36 = (all_kinds forms judged).context in record { large = kind.large; shown = kind.shown; entry = kind.filled };
  context = context_formed forms m receiver there;
  class = omega arith;
  hash = omega arith;
}
  where
    low : (b : Bool) (n : ℕ) → n < 32768 → 4 * (n + 1) + 1 + 3 * bit_of b < 2 ^ 30
    low true n h = omega (arith, h)
    low false n h = omega (arith, h)

    deep : (t size most : ℕ) → t ≤ most → size ≡ most → length (replicate t nil_ref) ≤ size
    deep t size most h e = let n : length (replicate t nil_ref) ≡ t = length-replicate t nil_ref in omega (arith, h, e, n)

-- ---- the process

priority_small : (z : ℤ) → is_between 1 8 z ≡ true → IsSmall z
priority_small (pos n) e = let few : n ≤ 8 = natural_between 1 8 (pos n) e in count_small n (omega (arith, few))
priority_small (negsuc n) e = absurd (cc)

process_shaped : (forms : List Form) (p : ProcessLine) → IsJudged forms → Refers forms → is_between 1 8 p.priority ≡ true
    → Shaped forms (Ptr (new_head 45 1) (built_process forms p (obj_or_nil (birth_where forms (is_process_named p.name)))))
process_shaped forms p judged refers priority =
    pointers_shaped (text_objects forms) (table_made forms) (length (text_objects forms)) 45 1 0 _ (all_kinds forms judged).process (λ e. omega (arith, e)) (omega arith) refl
    (refers.processes _, (refers.contexts p.name, (priority_small p.priority priority, (in_list (list_any (bytes_eq p.name) (ready_in forms)), tt)))) (λ e. absurd (omega (arith, e))) (omega arith)
  where
    in_list : (b : Bool) → FitsRef (length (text_objects forms)) (if b then ref.Obj (list_birth (natural p.priority)) else nil_ref)
    in_list true =
        let few : natural p.priority ≤ 8 = natural_between 1 8 p.priority priority in
        refers.numbers (list_birth (natural p.priority)) (omega (arith, few))
    in_list false = refers.numbers 0 (omega arith)

pub process_objects_shaped : (forms above : List Form) (p : ProcessLine) (below : List Form) → IsJudged forms → Refers forms → forms ≡ above ++ text.Process p ∷ below
    → AllByRecursion (Shaped forms) (process_objects forms p)
process_objects_shaped forms above p below judged refers e =
    let ranges = and_true (is_between 1 8 p.priority) (fits p.receiver) (judged.lines above (text.Process p) below e).fits in
    let has : HasMethod forms p = method_of_process forms above p below judged e in
    both _ _ (subst (λ o. AllByRecursion (Shaped forms) (option_map_or (λ m. Ctx (first_context forms m p.receiver) ∷ []) o [])) (sym has.found)
    (context_shaped forms has.line p.receiver judged refers (method_there forms p judged has) ranges.1, tt))
    (process_shaped forms p judged refers ranges.0)
  where
    both : (os : List Obj) (o : Obj) → AllByRecursion (Shaped forms) os → Shaped forms o → AllByRecursion (Shaped forms) (os ++ o ∷ [])
    both os o all one = all-append (Shaped forms) os (o ∷ []) all (one, tt)
