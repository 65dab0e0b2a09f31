-- A method is made: its header stands in its first slot, its literals are nil, and its bytecodes are 0.
use Rattle.std.proofs.Common.{None, ◌≢◌, ◌≡◌, ℕ, zero, suc, pos, ◌+◌, ◌-◌, ◌*◌, ◌/◌, ◌%◌, ◌^◌, ◌<◌, ◌≤◌, Bool, true, false, refl, sym, ap, ap₂, subst, ◌∙◌, Option, Some, List, [], ◌∷◌, ◌++◌, length, map, take, drop, replicate, set, is_some, unwrap_or, arith, get_or, length-append}
use Rattle.std.specs.Prelude.{◌==◌, ◌&&◌, ◌||◌, if◌then◌else◌, nat_lt, nat_le, IsTrue, slice_index}
use Rattle.std.specs.List.{AllPass}
use Rattle.std.specs.FinMap.{FinMap, get}
use Rattle.std.specs.Ordering.{nat_cmp}
use Rattle.std.proofs.lemmas.Bool.{false≢true}
use Rattle.std.proofs.lemmas.Bool.Decides.{nat_tests}
use Rattle.std.proofs.lemmas.List.{get_or-replicate, length-replicate, take-replicate}
use Rattle.cs_model.specs.Words.{bytes_of_words, unused_bytes}
use Rattle.cs_word.specs.declared.Oop.{Oop}
use Rattle.cs_word.specs.Word.{natural_of_word, small_word}
use Rattle.cs_heap.specs.Format.{format_allows, is_code, is_pointers}
use Rattle.cs_heap.specs.Object.{Memory, Object, base, new_object, new_slot, next_address, size, slot_count_of, used, with_object}
use Rattle.cs_heap.specs.Writes.{object_added}
use Rattle.cs_heap.proofs.Laws.{field_of-new, next_address-new, with_object-new}
use Rattle.cs_classes.specs.Meaning.{code_in, head_of, is_heap_context, kept_of, literal_words, method_header, nth_birth, ref_of, used_bytes}
use Rattle.cs_classes.specs.Sound.{IsSoundMethod, IsWhole, is_reference}
use Rattle.cs_classes.proofs.Makings.{Makes, makes-method, nil_is_object, ref_of-nil, zero_bytes}
use Rattle.cs_classes.proofs.Refs.{count_of-small, is_reference-object}
use Rattle.cs_classes.proofs.Wholes.{after_birth, kind_of-entry}
use Rattle.cs_frame.specs.Frame.{nil}
use Rattle.cs_marriage.proofs.Clearing.{filled, filled-none}
use Rattle.cs_model.specs.Ref.{Ref}
use Rattle.cs_model.specs.Ref as ref
use Rattle.cs_model.specs.Obj.{Method, Obj, is_header, literal_count, new_head, words_of}
use Rattle.cs_model.specs.Demand.{words_held}
use Rattle.cs_model.specs.Operation.{add_of, next_ref, nil_of}
use Rattle.cs_model.specs.PrimObject.{blank_method}
use Rattle.cs_model.specs.State.{IsHeld, Kept, NamesHeld, is_class_index}
use Rattle.cs_model.specs.Keeps.{Keeps}
use Rattle.cs_model.proofs.Operating.{add_moved}
use Rattle.cs_model.proofs.Reading.{nil_same}
use Rattle.cs_model.proofs.Same.{Same, all-replicate, of}
use Rattle.cs_acts.specs.Full.{IsFullHeap}
use Rattle.cs_acts.specs.Made.{CanMakeMethod, code_words, contexts_in}
use Rattle.cs_acts.specs.Names.{KeepsNames, Names}
use Rattle.cs_acts.specs.Ready.{IsReady, IsSound}
use Rattle.cs_acts.proofs.Allocating.{class_below, entry_in}
use Rattle.cs_stack.specs.declared.parts.Parts.{Parts}
use Rattle.cs_stack.specs.View.{bare, layout_of, stored_of, view_of}
use Rattle.cs_stack.specs.Good.{IsGood}
use Rattle.cs_stack.specs.Moved.{headed}
use Rattle.cs_stack.proofs.Allocating.{rest-add, with_made, words-add}
use Rattle.cs_stack.proofs.Closed.{good_sound}
use Rattle.cs_stack.proofs.Tops.{ready_again}
use Rattle.cs_stack.proofs.Counting.{words_heap}
use Rattle.cs_stack.proofs.Pushing.{pushed_contexts, pushed_good, pushed_names, pushed_value, pushed_view}

-- ---- lists

pub header_small : (header : ℕ) → is_header header ≡ true → header < 2 ^ 30
header_small header h = grind (arith, nat_tests, h)

-- the first n words are nil, the others stay
filled_front : (n : ℕ) (ws : List ℕ) → n ≤ length ws → filled 0 n ws ≡ replicate n nil ++ drop n ws
filled_front zero ws l = filled-none 0 ws
filled_front (suc n) [] l = absurd (omega (arith, l))
filled_front (suc n) (w ∷ ws) l = ap (λ (vs : List ℕ). nil ∷ vs) (filled_front n ws (omega (arith, l)))

pub headed_is : (n v : ℕ) (ws : List ℕ) → n < length ws → set (filled 1 n ws) 0 v ≡ v ∷ (replicate n nil ++ drop (1 + n) ws)
headed_is n v [] l = absurd (omega (arith, l))
headed_is n v (w ∷ ws) l = ap (λ (vs : List ℕ). v ∷ vs) (filled_front n ws (omega (arith, l)) ∙ ap (λ k. replicate n nil ++ drop k (w ∷ ws)) one)
  where
    one : suc n ≡ 1 + n
    one = omega arith

take_front : {X : Type 0} (xs ys : List X) (n : ℕ) → length xs ≡ n → take n (xs ++ ys) ≡ xs
take_front [] ys zero e = refl
take_front [] ys (suc n) e = absurd (omega (arith, e))
take_front (x ∷ xs) ys zero e = absurd (omega (arith, e))
take_front (x ∷ xs) ys (suc n) e = ap (λ zs. x ∷ zs) (take_front xs ys n (omega (arith, e)))

drop_front : {X : Type 0} (xs ys : List X) (n : ℕ) → length xs ≡ n → drop n (xs ++ ys) ≡ ys
drop_front [] ys zero e = refl
drop_front [] ys (suc n) e = absurd (omega (arith, e))
drop_front (x ∷ xs) ys zero e = absurd (omega (arith, e))
drop_front (x ∷ xs) ys (suc n) e = drop_front xs ys n (omega (arith, e))

drop_replicate : (k n v : ℕ) → drop k (replicate n v) ≡ replicate (n - k) v
drop_replicate zero n v = ap (λ m. replicate m v) (omega arith)
drop_replicate (suc k) zero v = sym (ap (λ m. replicate m v) (none k))
  where
    none : (k : ℕ) → 0 - suc k ≡ 0
    none k = omega arith
drop_replicate (suc k) (suc n) v = drop_replicate k n v ∙ ap (λ m. replicate m v) (less k n)
  where
    less : (k n : ℕ) → n - k ≡ suc n - suc k
    less k n = omega arith

-- ---- the words of a new method

-- the format of a method with so many bytecode bytes
abbrev pub method_format : ℕ → ℕ
method_format count = 24 + (3 - (count + 3) % 4)

abbrev pub new_headed : ℕ → ℕ → ℕ → ℕ → Object
new_headed class header count birth = headed header (new_object class (method_format count) (code_words header count) birth)

module _ (class header count birth : ℕ) (valid : is_header header ≡ true) where
  abbrev y : Object
  y = new_headed class header count birth

  abbrev lits : ℕ
  lits = literal_count header

  abbrev tail : List ℕ
  tail = replicate lits nil ++ replicate ((count + 3) / 4) 0

  pub no_pointers : is_pointers (method_format count) ≡ false
  no_pointers = grind (arith, nat_tests)

  pub code_format : is_code (method_format count) ≡ true
  code_format = grind (arith, nat_tests)

  pub words_is : y.words ≡ small_word (pos header) ∷ tail
  words_is =
      let left : code_words header count - (1 + lits) ≡ (count + 3) / 4 = omega arith in
      ap (λ b. small_word (pos header) ∷ (replicate lits nil ++ drop (1 + lits) (replicate (code_words header count) (if b then base else 0)))) no_pointers
      ∙ ap (λ ws. small_word (pos header) ∷ (replicate lits nil ++ ws)) (drop_replicate (1 + lits) (code_words header count) 0 ∙ ap (λ n. replicate n 0) left)

  header_reads : natural_of_word (slice_index y.words 0) ≡ Some header
  header_reads = count_of-small header (header_small header valid)

  pub header_is : method_header y.words ≡ header
  header_is = ap (λ o. unwrap_or o 0) header_reads

  behind : drop 1 y.words ≡ tail
  behind = ap (drop 1) words_is

  pub literals_are : literal_words y.words ≡ replicate lits nil
  literals_are =
      ap (λ n. take (literal_count n) (drop 1 y.words)) header_is ∙ ap (take lits) behind
      ∙ take_front (replicate lits nil) (replicate ((count + 3) / 4) 0) lits (length-replicate lits nil)

  pub code_is : code_in y.words ≡ replicate ((count + 3) / 4) 0
  code_is =
      let one : 1 + lits ≡ suc lits = omega arith in
      ap (λ n. drop (1 + literal_count n) y.words) header_is ∙ ap (drop (1 + lits)) words_is ∙ ap (λ n. drop n (small_word (pos header) ∷ tail)) one
      ∙ drop_front (replicate lits nil) (replicate ((count + 3) / 4) 0) lits (length-replicate lits nil)

  pub long : length y.words ≡ code_words header count
  long = ap length words_is ∙ omega (arith, length-append (replicate lits nil) (replicate ((count + 3) / 4) 0), length-replicate {A = ℕ} lits nil, length-replicate {A = ℕ} ((count + 3) / 4) 0)

  pub unused_is : unused_bytes (method_format count) ≡ 3 - (count + 3) % 4
  unused_is = grind (arith, nat_tests)

  pub shape : IsTrue (format_allows (method_format count) (code_words header count))
  shape = grind (arith, nat_tests)

  pub sound_method : IsSoundMethod y
  sound_method = record {
    header = header_reads ∙ ap Some (sym header_is);
    valid = ap is_header header_is ∙ valid;
    literals = fits (nat_lt 0 (unused_bytes (method_format count))) refl;
  }
    where
      fits : (b : Bool) → nat_lt 0 (unused_bytes (method_format count)) ≡ b → literal_count (method_header y.words) + (if b then 1 else 0) < length y.words
      fits true e = let some : 0 < unused_bytes (method_format count) = grind (arith, nat_tests, e) in omega (arith, some, unused_is, long, ap literal_count header_is)
      fits false e = omega (arith, long, ap literal_count header_is)

  pub nils_named : (os : List Object) → is_reference os nil ≡ true → (n : ℕ) → AllPass (is_reference os) (replicate n nil)
  nils_named os h n = λ k d l. subst (λ (v : ℕ). is_reference os v ≡ true) (sym (get_or-replicate n k nil d (omega (arith, l, length-replicate n nil)))) h

  pub nils_are : (r : ℕ → Ref) (x : Ref) (n : ℕ) → r nil ≡ x → map r (replicate n nil) ≡ replicate n x
  nils_are r x zero e = refl
  nils_are r x (suc n) e = ap₂ (λ (a : Ref) (xs : List Ref). a ∷ xs) e (nils_are r x n e)

-- ---- the world

-- a world that has the method
pub record MadeMethod (class header count : ℕ) (w v : Parts) (o : Oop) : Type 0 where
  pub good : IsGood v
  pub view : view_of v ≡ add_of (view_of w) (blank_method (view_of w) class count header)
  pub value : Names (stored_of v) o (next_ref (view_of w))
  pub contexts : contexts_in v.heap.objects ≡ contexts_in w.heap.objects
  pub names : KeepsNames (stored_of w) (stored_of v)

apart_index : (n : ℕ) → (n == 1 || n == 2 || n == 3 || n == 36) ≡ false → (n ≢ 1) × ((n ≢ 2) × ((n ≢ 3) × ((n == 36) ≡ false)))
apart_index n h = (grind (arith, nat_tests, h), (grind (arith, nat_tests, h), (grind (arith, nat_tests, h), grind (arith, nat_tests, h))))

module _ (w : Parts) (good : IsGood w) (class header count : ℕ) (fits : CanMakeMethod (view_of w) class header count) where
  abbrev made_method : Object
  made_method = new_headed class header count w.roots.next_birth

  entry : is_some (get w.classes class) ≡ true
  entry = entry_in (bare w.heap.objects) w.classes class fits.entry

  pub index_below : ((index : ℕ) → 16384 ≤ index → get w.classes index ≡ None) → class < 2 ^ 22
  index_below = class_below w.classes class entry

  pub other : (class == 36) ≡ false
  other = (apart_index class fits.common).1.1.1

  kind : (xs : List Object) → IsWhole xs w.classes w.roots → is_class_index class ≡ true
  kind xs whole = let a = apart_index class fits.common in kind_of-entry xs w.classes w.roots class whole entry a.0 a.1.0 a.1.1.0

  zeros : (xs : List Object) → IsWhole xs w.classes w.roots → used_bytes (method_format count) (code_in made_method.words) ≡ replicate count 0
  zeros xs whole =
      let m : ℕ = (count + 3) / 4 in
      let unused = unused_is class header count w.roots.next_birth fits.valid in
      let left : 4 * m - unused_bytes (method_format count) ≡ count = omega (arith, unused) in
      ap (used_bytes (method_format count)) (code_is class header count w.roots.next_birth fits.valid)
      ∙ ap (λ n. take (4 * n - unused_bytes (method_format count)) (bytes_of_words (replicate m 0))) (length-replicate m 0)
      ∙ ap (take (4 * m - unused_bytes (method_format count))) (zero_bytes whole m)
      ∙ take-replicate (4 * m - unused_bytes (method_format count)) (4 * m) 0 (omega arith) ∙ ap (λ n. replicate n 0) left

  pub makes : (xs : List Object) → IsWhole xs w.classes w.roots → Makes xs (new_headed class header count w.roots.next_birth) w.classes w.roots (λ k. blank_method k class count header)
  makes xs whole =
      let birth = w.roots.next_birth in
      let lits : ℕ = literal_count header in
      let named = is_reference-object xs nil (nil_is_object xs w.classes w.roots whole) in
      let literals = literals_are class header count birth fits.valid in
      let made = makes-method whole made_method refl entry (kind xs whole) (omega arith) other (code_format class header count birth fits.valid)
      (subst (λ n. IsTrue (format_allows (method_format count) n)) (sym (long class header count birth fits.valid)) (shape class header count birth fits.valid))
      (sound_method class header count birth fits.valid)
      (subst (AllPass (is_reference xs)) (sym literals) (nils_named class header count birth fits.valid xs named lits)) in
      let at : ℕ → List Ref → List ℕ → Obj = λ h ls bs. Method (new_head class (method_format count)) h ls bs in
      record {
        whole = made.whole;
        kept = λ active. made.kept active ∙ ap (add_of (kept_of xs w.classes w.roots active))
            (ap (λ h. at h (map (ref_of xs) (literal_words made_method.words)) (used_bytes (method_format count) (code_in made_method.words))) (header_is class header count birth fits.valid)
            ∙ ap (λ ls. at header ls (used_bytes (method_format count) (code_in made_method.words)))
            (ap (map (ref_of xs)) literals ∙ nils_are class header count birth fits.valid (ref_of xs) (ref.Obj (nth_birth xs 0)) lits (ref_of-nil xs w.classes w.roots whole))
            ∙ ap (at header (replicate lits (ref.Obj (nth_birth xs 0)))) (zeros xs whole));
      }

  -- ---- where the heap is full

  method_words : words_of (blank_method (view_of w) class count header) ≡ size (code_words header count)
  method_words = ap size (ap₂ (λ (n m : ℕ). 1 + n + (m + 3) / 4) (length-replicate (literal_count header) (nil_of (view_of w))) (length-replicate count 0))

  pub full_method : (h : Memory) → h ≡ w.heap → w.heap.limit < used w.heap.objects + size (code_words header count)
      → IsFullHeap (stored_of (record w { heap = h })) (layout_of w) (size (code_words header count)) (add_of (view_of w) (blank_method (view_of w) class count header))
  full_method h unchanged over =
      let made_words : used w.heap.objects + size (code_words header count) ≤ words_held (add_of (view_of w) (blank_method (view_of w) class count header)) =
      omega (arith, words-add (view_of w) (blank_method (view_of w) class count header), words_heap w good, method_words) in
      record {
        words = omega (arith, ap (λ (g : Memory). g.limit) unchanged, over, made_words);
        room = omega (arith, ap (λ (g : Memory). g.limit) unchanged, ap (λ (g : Memory). used g.objects) unchanged, over, made_words);
      }

  -- ---- behind the call

  pub method_made : (o : Oop) → used w.heap.objects + size (code_words header count) ≤ w.heap.limit → o.0 ≡ next_address w.heap.objects (code_words header count)
      → MadeMethod class header count w (with_made w (w.heap.objects ++ new_headed class header count w.roots.next_birth ∷ [])) o
  method_made o room at =
      let birth = w.roots.next_birth in
      let size_is = long class header count birth fits.valid in
      record {
        good = pushed_good w good made_method (λ k. blank_method k class count header) other refl makes fits.births (omega (arith, room, ap size size_is));
        view = pushed_view w good made_method (λ k. blank_method k class count header) other refl makes refl;
        value = pushed_value w good made_method (λ k. blank_method k class count header) other refl makes o (at ∙ ap (next_address w.heap.objects) (sym size_is));
        contexts = pushed_contexts w good made_method (λ k. blank_method k class count header) other refl makes;
        names = pushed_names w good made_method (λ k. blank_method k class count header) other refl makes;
      }

  -- by the heap that stands behind the two calls
  pub method_by : (o : Oop) (g h : Memory) (format slots birth : ℕ) → format ≡ method_format count → slots ≡ code_words header count → birth ≡ w.roots.next_birth
      → g ≡ object_added w.heap class format slots birth → h ≡ record g { objects = with_object g.objects o.0 (headed header) } → used w.heap.objects + size slots ≤ w.heap.limit → o.0 ≡ next_address w.heap.objects slots
      → MadeMethod class header count w (record w { heap = h; roots = after_birth w.roots }) o
  method_by o g h format slots birth ef es eb added written room at =
      let blank : ℕ → ℕ → ℕ → Object = new_object class in
      let count_is : length (replicate slots (new_slot format)) ≡ slots = length-replicate slots (new_slot format) in
      let objects : h ≡ record w.heap { objects = w.heap.objects ++ made_method ∷ [] } =
      written ∙ ap (λ (k : Memory). record k { objects = with_object k.objects o.0 (headed header) }) added
      ∙ ap (λ (xs : List Object). record w.heap { objects = xs }) (with_object-new w.heap.objects (new_object class format slots birth) o.0 (headed header) (at ∙ ap (next_address w.heap.objects) (sym count_is)))
      ∙ ap (λ n. record w.heap { objects = w.heap.objects ++ headed header (new_object class n slots birth) ∷ [] }) ef
      ∙ ap (λ n. record w.heap { objects = w.heap.objects ++ headed header (new_object class (method_format count) n birth) ∷ [] }) es
      ∙ ap (λ n. record w.heap { objects = w.heap.objects ++ headed header (new_object class (method_format count) (code_words header count) n) ∷ [] }) eb in
      subst (λ (m : Memory). MadeMethod class header count w (record w { heap = m; roots = after_birth w.roots }) o) (sym objects)
      (method_made o (omega (arith, room, ap size es)) (at ∙ ap (next_address w.heap.objects) es))

  pub full_by : (h : Memory) (slots : ℕ) → h ≡ w.heap → w.heap.limit < used w.heap.objects + size slots → slots ≡ code_words header count
      → IsFullHeap (stored_of (record w { heap = h })) (layout_of w) (size (code_words header count)) (add_of (view_of w) (blank_method (view_of w) class count header))
  full_by h slots unchanged over es = full_method h unchanged (subst (λ n. w.heap.limit < used w.heap.objects + size n) es over)

-- the new object has its slots
pub slots_there : (m g : Memory) (a class format slots birth : ℕ) → g ≡ object_added m class format slots birth → a ≡ next_address m.objects slots → slot_count_of g.objects a ≡ slots
slots_there m g a class format slots birth added at =
    ap (λ (h : Memory). slot_count_of h.objects a) added
    ∙ field_of-new (λ (x : Object). length x.words) m.objects (new_object class format slots birth) a (next_address-new m.objects a class format slots birth at)
    ∙ length-replicate slots (new_slot format)

-- ---- what a call of it does

-- a state that keeps another one makes the same method
method_same : (k m : Kept) (class count header : ℕ) → Keeps k m → Same (NamesHeld k) (blank_method k class count header) (blank_method m class count header)
method_same k m class count header keeps =
    of (NamesHeld k) (λ nil. Method (new_head class (24 + (3 - (count + 3) % 4))) header (replicate (literal_count header) nil) (replicate count 0)) (nil_same keeps) (λ nil h. all-replicate (IsHeld k) (literal_count header) nil h)

pub record MadeBy (class header count : ℕ) (w v : Parts) : Type 0 where
  pub state : (m : Kept) → Keeps (view_of w) m → Keeps (view_of v) (add_of m (blank_method m class count header))
  pub sound : IsSound (stored_of v) (view_of v)
  pub ready : IsReady (stored_of w) (view_of w) → IsReady (stored_of v) (view_of v)

-- behind a call, whose world u before it is w
pub call-method : (u w v : Parts) (class header count : ℕ) → u ≡ w → IsGood v → view_of v ≡ add_of (view_of u) (blank_method (view_of u) class count header) → MadeBy class header count w v
call-method u w v class header count e good is =
    let view : view_of v ≡ add_of (view_of w) (blank_method (view_of w) class count header) = subst (λ x. view_of v ≡ add_of (view_of x) (blank_method (view_of x) class count header)) e is in
    record {
      state = λ m keeps. subst (λ k. Keeps k (add_of m (blank_method m class count header))) (sym view) (add_moved keeps (method_same (view_of w) m class count header keeps)).keeps;
      sound = good_sound v good;
      ready = λ ready. ready_again w v good ready (ap (λ (k : Kept). k.rest.active) view ∙ rest-add (view_of w) (blank_method (view_of w) class count header));
    }
