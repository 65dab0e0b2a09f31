-- The objects of a text without fault are those of an image that can be opened.
use Rattle.std.proofs.Common.{◌≡◌, ℕ, zero, suc, ◌+◌, ◌*◌, ◌/◌, ◌^◌, ◌<◌, ◌≤◌, true, List, [], ◌∷◌, ◌++◌, length, map, take, replicate, Option, refl, ap, ap₂, sym, subst, ◌∙◌, arith}
use Rattle.std.specs.Prelude.{pos, ◌&&◌, Ok}
use Rattle.std.specs.Option.{option_map_or}
use Rattle.std.specs.List.{AllByRecursion}
use Rattle.cs_model.specs.Obj.{Obj, Ptr, Raw, Method, Ctx, new_head}
use Rattle.cs_model.specs.Ref.{Small}
use Rattle.cs_model.specs.Image.{image_of}
use Rattle.cs_model.specs.SavedFile.{page_place, saved_base, saved_bytes, saved_size}
use Rattle.cs_model.specs.BuilderText as text
use Rattle.cs_model.specs.BuilderText.{Form, ClassLine}
use Rattle.cs_model.specs.BuilderFault.{is_between, is_class_format, known_classes}
use Rattle.cs_model.specs.Builder.{all_forms, class_table, nil_ref, objects_in, text_objects, text_state}
use Rattle.cs_model.proofs.Same.{all-append}
use Rattle.cs_model.proofs.SavedSeen.{all_each}
use Rattle.cs_build.specs.Firsts.{first_made}
use Rattle.cs_build.specs.Formed.{HasKind, HasRoom, IsFormed, IsFormedContext, IsFormedImage}
use Rattle.cs_build.specs.Grouped.{all_dictionaries, symbol_objects}
use Rattle.cs_build.specs.Judged.{HasBytes, IsJudged}
use Rattle.cs_build.specs.Laid.{FitsLaid, FitsLayout, FitsRef, Laid, file_for, laid, laid_size, laid_slots}
use Rattle.cs_build.specs.Stored.{IsStored}
use Rattle.cs_build.specs.Wholes.{objects_made, table_made}
use Rattle.cs_build.proofs.Filing.{size_of_file}
use Rattle.cs_build.proofs.FirstShapes.{dictionaries_shaped, first_shaped, symbols_shaped}
use Rattle.cs_build.proofs.Kinding.{IsShaped, stored_format}
use Rattle.cs_build.proofs.LineShapes.{Refers, Shaped, bytes_shaped, class_shaped, count_small, format_between, is_sized, method_shaped, object_shaped}
use Rattle.cs_build.proofs.ProcessShapes.{process_objects_shaped}
use Rattle.cs_build.proofs.Putting.{length-map, map_take, size_cons}
use Rattle.cs_build.proofs.Gathering.{all_flat}
use Rattle.cs_build.proofs.Imaging.{image_is}
use Rattle.cs_build.proofs.Referred.{referred}
use Rattle.cs_build.proofs.Rooting.{at_split, text_roots}
use Rattle.cs_build.proofs.Sounding.{and_true}
use Rattle.cs_build.proofs.Tabling.{text_table_entries, text_table_few, text_table_formed, text_table_is, text_table_pages}
use Rattle.cs_build.proofs.Totalling.{all_by_place, lines_made, made_in_parts}

-- ---- the objects of all lines

line_shaped : (forms above : List Form) (form : Form) (below : List Form) → IsJudged forms → Refers forms → forms ≡ above ++ form ∷ below → AllByRecursion (Shaped forms) (objects_in forms form)
line_shaped forms above (text.Class line) below judged refers e =
    let ranges = and_true (is_class_format line.format) (is_between 0 65535 line.fields) (judged.lines above (text.Class line) below e).fits in
    (class_shaped forms line judged refers (ap₂ (λ x y. x && y) (format_between line.format ranges.0) ranges.1), tt)
line_shaped forms above (text.Object name class slots) below judged refers e = (object_shaped forms above name class slots below judged refers e, tt)
line_shaped forms above (text.Bytes name class bytes) below judged refers e =
    (bytes_shaped forms above name class bytes below judged (at_split HasBytes above (text.Bytes name class bytes) below (subst (AllByRecursion HasBytes) e judged.bytes)) e, tt)
line_shaped forms above (text.Method line) below judged refers e = (method_shaped forms line judged refers (judged.lines above (text.Method line) below e).fits, tt)
line_shaped forms above (text.Process p) below judged refers e = process_objects_shaped forms above p below judged refers e
line_shaped forms above form below judged refers e = tt

known_shaped : (forms : List Form) (lines : List ClassLine) → IsJudged forms → Refers forms → AllByRecursion (λ line. is_sized line ≡ true) lines
    → AllByRecursion (λ form. AllByRecursion (Shaped forms) (objects_in forms form)) (map (λ c. text.Class c) lines)
known_shaped forms [] judged refers sized = tt
known_shaped forms (line ∷ lines) judged refers sized = ((class_shaped forms line judged refers sized.0, tt), known_shaped forms lines judged refers sized.1)

known_sized : AllByRecursion (λ line. is_sized line ≡ true) known_classes
known_sized = (refl, (refl, (refl, (refl, (refl, (refl, (refl, (refl, (refl, (refl, (refl, (refl, (refl, (refl, (refl, (refl, (refl, (refl, (refl, (refl, (refl, (refl, tt))))))))))))))))))))))

lines_shaped : (forms : List Form) → IsJudged forms → Refers forms → AllByRecursion (Shaped forms) (lines_made forms)
unfolding lines_made
lines_shaped forms judged refers = all_flat (λ form. AllByRecursion (Shaped forms) (objects_in forms form)) (Shaped forms) (objects_in forms) (all_forms forms) (λ form h. h)
    (all-append (λ form. AllByRecursion (Shaped forms) (objects_in forms form)) (map (λ c. text.Class c) known_classes) forms (known_shaped forms known_classes judged refers known_sized)
    (all_by_place (λ form. AllByRecursion (Shaped forms) (objects_in forms form)) forms (λ above form below e. line_shaped forms above form below judged refers e)))

pub text_shaped : (forms : List Form) → IsJudged forms → Refers forms → AllByRecursion (Shaped forms) (text_objects forms)
text_shaped forms judged refers = subst (AllByRecursion (Shaped forms)) (sym (made_in_parts forms))
    (parts (Shaped forms) (first_made forms) (lines_made forms) (all_dictionaries forms) (symbol_objects forms) (first_shaped forms judged refers)
    (lines_shaped forms judged refers) (dictionaries_shaped forms judged refers) (symbols_shaped forms judged))
  where
    parts : (P : Obj → Type 0) (a b c d : List Obj) → AllByRecursion P a → AllByRecursion P b → AllByRecursion P c → AllByRecursion P d → AllByRecursion P (((a ++ b) ++ c) ++ d)
    parts P a b c d pa pb pc pd = all-append P ((a ++ b) ++ c) d (all-append P (a ++ b) c (all-append P a b pa pb) pc) pd

-- ---- room in a file

stored_refs : (total : ℕ) (o : Obj) → 0 < total → IsStored total o → AllByRecursion (FitsRef total) (laid o).refs
stored_refs total (Ptr head slots) h s = s.refs
stored_refs total (Raw head bytes) h s = tt
stored_refs total (Method head header literals bytecodes) h s = (count_small header s.small, s.refs)
stored_refs total (Ctx c) h s = (
  s.sender,
  (
    pc,
    (
      count_small (length c.stack) deep,
      (
        s.method,
        (
          s.closure,
          (
            s.receiver,
            all-append (FitsRef total) c.stack (replicate _ nil_ref) s.stack (nils _),
          ),
        ),
      ),
    ),
  ),
)
  where
    pc : FitsRef total (option_map_or (λ pc. Small (pos pc)) c.pc nil_ref)
    pc = subst (λ (o : Option ℕ). FitsRef total (option_map_or (λ pc. Small (pos pc)) o nil_ref)) (sym s.pc) (count_small s.at s.fits)

    deep : length c.stack < 2 ^ 30
    deep = let low : length c.stack ≤ c.size = s.depth in
        let few : c.size < 2 ^ 30 = s.size in omega (arith, low, few)

    nils : (n : ℕ) → AllByRecursion (FitsRef total) (replicate n nil_ref)
    nils zero = tt
    nils (suc n) = (h, nils n)

stored_bytes : (total : ℕ) (o : Obj) → IsStored total o → AllByRecursion (λ b. b < 256) (laid o).bytes
stored_bytes total (Ptr head slots) s = tt
stored_bytes total (Raw head bytes) s = s.units
stored_bytes total (Method head header literals bytecodes) s = s.units
stored_bytes total (Ctx c) s = tt

object_fits : (os : List Obj) (table : List ℕ) (total : ℕ) (o : Obj) → 0 < total → IsShaped os table total o → laid_slots (laid o) < 2 ^ 28 → FitsLaid total (laid o)
object_fits os table total o h s few = record {
  class = s.class;
  format = stored_format total o s.stored;
  hash = s.hash;
  refs = stored_refs total o h s.stored;
  slots = few;
  bytes = stored_bytes total o s.stored;
}

objects_fit : (os all : List Obj) (table : List ℕ) (total n : ℕ) → 0 < total → n < 2 ^ 28 → AllByRecursion (IsShaped all table total) os → laid_size (map laid os) ≤ n → AllByRecursion (FitsLaid total) (map laid os)
objects_fit [] all table total n h few shaped size = tt
objects_fit (o ∷ os) all table total n h few shaped size =
    let cons : laid_size (laid o ∷ map laid os) ≡ saved_size (laid_slots (laid o)) + laid_size (map laid os) = size_cons (laid o) (map laid os) in
    let one : laid_slots (laid o) ≤ saved_size (laid_slots (laid o)) = slots_within (laid_slots (laid o)) in (
      object_fits all table total o h shaped.0 (below (laid_slots (laid o)) (saved_size (laid_slots (laid o))) (laid_size (map laid os)) (laid_size (laid o ∷ map laid os)) cons one size few),
      objects_fit os all table total n h few shaped.1 (rest (saved_size (laid_slots (laid o))) (laid_size (map laid os)) (laid_size (laid o ∷ map laid os)) cons size),
    )
  where
    slots_within : (slots : ℕ) → slots ≤ saved_size slots
    slots_within slots = omega arith

    below : (slots size more whole : ℕ) → whole ≡ size + more → slots ≤ size → whole ≤ n → n < 2 ^ 28 → slots < 2 ^ 28
    below slots size more whole e h k few = omega (arith, e, h, k, few)

    rest : (size more whole : ℕ) → whole ≡ size + more → whole ≤ n → more ≤ n
    rest size more whole e k = omega (arith, e, k)

-- ---- the whole

first_three : (forms : List Form) → take 3 (text_objects forms) ≡ Ptr (new_head 34 0) [] ∷ Ptr (new_head 35 0) [] ∷ Ptr (new_head 38 0) [] ∷ []
unfolding first_made
first_three forms = ap (take 3) (made_in_parts forms)

record IsSmallFile (ls : List Laid) (table : List ℕ) : Type 0 where
  size : saved_base + 4 * page_place (file_for ls table).objects (length table / 1024) ≤ 2 ^ 31
  words : laid_size ls < 2 ^ 28

-- a file of 536,870,912 bytes has room for these objects and a class table
abbrev pub HasFile : List Obj → List ℕ → Type 0
HasFile os table = 64 + 4 * (laid_size (map laid os) + 22 + 1028 * (length table / 1024)) ≤ 536870912

small_file : (os : List Obj) (table : List ℕ) → HasFile os table → IsSmallFile (map laid os) table
small_file os table file = record {
  size = omega (arith, file, size_of_file (map laid os) table);
  words = omega (arith, file);
}

layout : (forms : List Form) → IsJudged forms → Refers forms → HasFile (text_objects forms) (table_made forms) → FitsLayout (map laid (text_objects forms)) (table_made forms)
layout forms judged refers room =
    let small : IsSmallFile (map laid (text_objects forms)) (table_made forms) = small_file (text_objects forms) (table_made forms) room in
    let long : length (map laid (text_objects forms)) ≡ length (text_objects forms) = length-map laid (text_objects forms) in record {
      four = many (length (text_objects forms)) (length (map laid (text_objects forms))) long (refers.numbers 16 (omega arith));
      first = subst (AllByRecursion (λ l. laid_slots l ≡ 0)) (sym (sym (map_take laid 3 (text_objects forms)) ∙ ap (map laid) (first_three forms))) (refl, (refl, (refl, tt)));
      objects = subst (λ n. AllByRecursion (FitsLaid n) (map laid (text_objects forms))) (sym long)
          (objects_fit (text_objects forms) (text_objects forms) (table_made forms) (length (text_objects forms)) (laid_size (map laid (text_objects forms))) (refers.numbers 0 (omega arith))
          small.words (text_shaped forms judged refers) (le (laid_size (map laid (text_objects forms)))));
      pages = text_table_pages forms;
      few = text_table_few forms judged;
      entries = subst (λ n. AllByRecursion (λ number. number < n) (table_made forms)) (sym long) (text_table_entries forms judged);
      size = small.size;
    }
  where
    many : (n m : ℕ) → m ≡ n → 16 < n → 4 ≤ m
    many n m e h = omega (arith, e, h)

    le : (n : ℕ) → n ≤ n
    le n = omega arith

text_formed : (forms : List Form) → IsJudged forms → Refers forms → HasFile (text_objects forms) (table_made forms) → IsFormedImage (text_objects forms) (table_made forms)
text_formed forms judged refers room =
    let shaped : AllByRecursion (Shaped forms) (text_objects forms) = text_shaped forms judged refers in record {
      layout = layout forms judged refers room;
      stored = all_each (Shaped forms) (IsStored (length (text_objects forms))) (λ o s. s.stored) (text_objects forms) shaped;
      first = subst (AllByRecursion (λ o. (laid o).format ≡ 0)) (sym (first_three forms)) (refl, (refl, (refl, tt)));
      bodies = all_each (Shaped forms) IsFormed (λ o s. s.formed) (text_objects forms) shaped;
      kinds = all_each (Shaped forms) (HasKind (table_made forms)) (λ o s. s.kind) (text_objects forms) shaped;
      contexts = all_each (Shaped forms) (IsFormedContext (text_objects forms)) (λ o s. s.context) (text_objects forms) shaped;
      entries = text_table_formed forms judged;
      roots = text_roots forms judged refers;
    }

pub judged_formed : (forms : List Form) → IsJudged forms → HasFile (objects_made forms) (table_made forms) → IsFormedImage (objects_made forms) (table_made forms)
unfolding objects_made
judged_formed forms judged room = text_formed forms judged (referred forms judged) room

room_file : (os : List Obj) (table : List ℕ) (limit : ℕ) → HasRoom os table limit → HasFile os table
room_file os table limit room =
    let file : 64 + 4 * page_place (file_for (map laid os) table).objects (length table / 1024) ≤ 536870912 = room.file in
    omega (arith, file, size_of_file (map laid os) table)

-- the image of the file of judged lines is their state
pub judged_image : (forms : List Form) (limit : ℕ) → IsJudged forms → HasRoom (objects_made forms) (table_made forms) limit
    → image_of (saved_bytes (file_for (map laid (objects_made forms)) (table_made forms))) limit ≡ Ok (text_state forms)
unfolding objects_made
judged_image forms limit judged room = image_is (text_objects forms) (table_made forms) (class_table forms) limit
    (judged_formed forms judged (room_file (text_objects forms) (table_made forms) limit room)) room (text_table_is forms judged)
