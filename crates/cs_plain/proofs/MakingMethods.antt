-- A method is made: its header stands in its first slot, its literals are nil, and its bytecodes are 0.
use Rattle.std.proofs.Common.{◌≡◌, ◌∙◌, inl, inr, ℕ, ◌+◌, ◌*◌, ◌-◌, ◌<◌, ◌≤◌, ◌^◌, Bool, true, false, refl, sym, ap, subst, Option, Some, None, is_some, List, [], ◌∷◌, ◌++◌, replicate, arith, ◌≢◌, zero, suc, pos, ◌/◌, ◌%◌, ap₂, length, map, take, drop, set, unwrap_or, get_or, length-append}
use Rattle.std.specs.Prelude.{◌==◌, if◌then◌else◌, option_and_then, slice_get, ◌&&◌, ◌||◌, nat_lt, nat_le, IsTrue, slice_index}
use Rattle.std.specs.FinMap.{get, FinMap}
use Rattle.std.proofs.lemmas.Bool.{false≢true}
use Rattle.cs_model.specs.Words.{unused_bytes, bytes_of_words}
use Rattle.cs_word.specs.declared.Oop.{Oop}
use Rattle.cs_heap.specs.Format.{is_code, is_pointers, format_allows}
use Rattle.cs_heap.specs.Object.{Memory, Object, is_object, new_object, next_address, heap_object, object_place, size, used, base, new_slot, slot_count_of, with_object}
use Rattle.cs_heap.proofs.Laws.{is_object-new, is_object-pushed, length-new_words, next_address-new, object_at-new, object_at-old, used-pushed, field_of-new, with_object-new}
use Rattle.cs_classes.specs.Kinds.{KindsStand}
use Rattle.cs_classes.specs.Meaning.{kept_of, code_in, head_of, is_heap_context, literal_words, method_header, nth_birth, ref_of, used_bytes}
use Rattle.cs_classes.specs.Sound.{is_weak, IsSoundMethod, IsWhole, is_reference}
use Rattle.cs_classes.proofs.Heaps.{birth_of-object_at}
use Rattle.cs_classes.proofs.Makings.{Makes, makes-bytes, makes-pointers, makes-method, nil_is_object, ref_of-nil}
use Rattle.cs_classes.proofs.Objects.{get-objects_of-fresh}
use Rattle.cs_classes.proofs.Refs.{is_reference-object, is_reference-push, ref_of-object, ref_of-push, count_of-small}
use Rattle.cs_classes.proofs.Wholes.{after_birth, kind_of-entry, next_is_fresh}
use Rattle.cs_model.specs.Obj.{Context, Ctx, Obj, Raw, lies_in, new_head, Method, is_header, literal_count, words_of}
use Rattle.cs_model.specs.State.{Kept, NamesHeld, is_class_index, put, IsHeld}
use Rattle.cs_model.specs.Keeps.{Keeps}
use Rattle.cs_model.specs.Demand.{words_held}
use Rattle.cs_model.specs.Read.{IsRunning, active_birth, active_context, pc_of}
use Rattle.cs_model.specs.Operation.{add_of, new_pointers, next_ref, nil_of}
use Rattle.cs_model.proofs.Objects.{object_at-put_other}
use Rattle.cs_model.proofs.Operating.{add_moved, new_pointers_same}
use Rattle.cs_model.proofs.Same.{Same, same, all-replicate, of}
use Rattle.cs_acts.specs.Full.{IsFullHeap}
use Rattle.cs_acts.specs.Made.{CanAllocate, blank_of, CanMakeMethod, code_words, contexts_in}
use Rattle.cs_acts.specs.Names.{KeepsNames, Names}
use Rattle.cs_acts.specs.Ready.{IsReady, IsSound}
use Rattle.cs_acts.proofs.ContextKinds.{kinds-add}
use Rattle.cs_acts.proofs.Allocating.{class_below, entry_in, no_context_class, no_immediate_class, no_method_format, no_weak_format}
use Rattle.cs_plain.specs.declared.PlainWorld.{PlainWorld}
use Rattle.cs_plain.specs.View.{plain_active, oop_birth, plain_birth, plain_stored, plain_view}
use Rattle.cs_plain.proofs.Active.{sound_world}
use Rattle.cs_plain.proofs.Pcs.{KeepsPcs, pcs-put, pcs-rest, running}
use Rattle.cs_plain.proofs.Words.{words_of-kept}
use Rattle.std.specs.List.{AllPass}
use Rattle.std.specs.Ordering.{nat_cmp}
use Rattle.std.proofs.lemmas.Bool.Decides.{nat_tests}
use Rattle.std.proofs.lemmas.List.{get_or-replicate, length-replicate, take-replicate}
use Rattle.cs_word.specs.Word.{natural_of_word, small_word}
use Rattle.cs_heap.specs.Writes.{object_added}
use Rattle.cs_model.specs.Ref.{Ref}
use Rattle.cs_model.specs.PrimObject.{blank_method}
use Rattle.cs_model.proofs.Reading.{nil_same}
use Rattle.cs_classes.specs.Methods.{coded_method}
use Rattle.cs_plain.proofs.Allocating.{with_made}
use Rattle.cs_model.specs.Ref as ref
use Rattle.cs_model.specs.State as state

pub header_small : (header : ℕ) → is_header header ≡ true → header < 2 ^ 30
header_small header h = grind (arith, nat_tests, h)

take_front : {X : Type 0} (xs ys : List X) (n : ℕ) → length xs ≡ n → take n (xs ++ ys) ≡ xs
take_front [] ys zero e = refl
take_front [] ys (suc n) e = absurd (omega (arith, e))
take_front (x ∷ xs) ys zero e = absurd (omega (arith, e))
take_front (x ∷ xs) ys (suc n) e = ap (λ zs. x ∷ zs) (take_front xs ys n (omega (arith, e)))

drop_front : {X : Type 0} (xs ys : List X) (n : ℕ) → length xs ≡ n → drop n (xs ++ ys) ≡ ys
drop_front [] ys zero e = refl
drop_front [] ys (suc n) e = absurd (omega (arith, e))
drop_front (x ∷ xs) ys zero e = absurd (omega (arith, e))
drop_front (x ∷ xs) ys (suc n) e = drop_front xs ys n (omega (arith, e))

abbrev method_format : ℕ → ℕ
method_format count = 24 + (3 - (count + 3) % 4)

zero_bytes : (n : ℕ) → bytes_of_words (replicate n 0) ≡ replicate (4 * n) 0
unfolding bytes_of_words
zero_bytes zero = refl
zero_bytes (suc n) = ap (λ (rest : List ℕ). 0 ∷ 0 ∷ 0 ∷ 0 ∷ rest) (zero_bytes n) ∙ ap (λ (m : ℕ). replicate m 0) (later n)
  where
    later : (n : ℕ) → suc (suc (suc (suc (4 * n)))) ≡ 4 * suc n
    later n = omega arith

module _ (class header count birth : ℕ) (valid : is_header header ≡ true) where
  abbrev y : Object
  y = coded_method class header count birth

  abbrev lits : ℕ
  lits = literal_count header

  abbrev tail : List ℕ
  tail = replicate lits base ++ replicate ((count + 3) / 4) 0

  pub no_pointers : is_pointers (method_format count) ≡ false
  no_pointers = grind (arith, nat_tests)

  pub code_format : is_code (method_format count) ≡ true
  code_format = grind (arith, nat_tests)

  words_is : y.words ≡ small_word (pos header) ∷ tail
  words_is = refl

  header_reads : natural_of_word (slice_index y.words 0) ≡ Some header
  header_reads = count_of-small header (header_small header valid)

  pub header_is : method_header y.words ≡ header
  header_is = ap (λ o. unwrap_or o 0) header_reads

  behind : drop 1 y.words ≡ tail
  behind = ap (drop 1) words_is

  pub literals_are : literal_words y.words ≡ replicate lits base
  literals_are =
      ap (λ n. take (literal_count n) (drop 1 y.words)) header_is ∙ ap (take lits) behind
      ∙ take_front (replicate lits base) (replicate ((count + 3) / 4) 0) lits (length-replicate lits base)

  pub code_is : code_in y.words ≡ replicate ((count + 3) / 4) 0
  code_is =
      let one : 1 + lits ≡ suc lits = omega arith in
      ap (λ n. drop (1 + literal_count n) y.words) header_is ∙ ap (drop (1 + lits)) words_is ∙ ap (λ n. drop n (small_word (pos header) ∷ tail)) one
      ∙ drop_front (replicate lits base) (replicate ((count + 3) / 4) 0) lits (length-replicate lits base)

  pub long : length y.words ≡ code_words header count
  long = ap length words_is ∙ omega (arith, length-append (replicate lits base) (replicate ((count + 3) / 4) 0), length-replicate {A = ℕ} lits base, length-replicate {A = ℕ} ((count + 3) / 4) 0)

  pub unused_is : unused_bytes (method_format count) ≡ 3 - (count + 3) % 4
  unused_is = grind (arith, nat_tests)

  pub shape : IsTrue (format_allows (method_format count) (code_words header count))
  shape = grind (arith, nat_tests)

  pub sound_method : IsSoundMethod y
  sound_method = record {
    header = header_reads ∙ ap Some (sym header_is);
    valid = ap is_header header_is ∙ valid;
    literals = fits (nat_lt 0 (unused_bytes (method_format count))) refl;
  }
    where
      fits : (b : Bool) → nat_lt 0 (unused_bytes (method_format count)) ≡ b → literal_count (method_header y.words) + (if b then 1 else 0) < length y.words
      fits true e = let some : 0 < unused_bytes (method_format count) = grind (arith, nat_tests, e) in omega (arith, some, unused_is, long, ap literal_count header_is)
      fits false e = omega (arith, long, ap literal_count header_is)

  pub nils_named : (os : List Object) → is_reference os base ≡ true → (n : ℕ) → AllPass (is_reference os) (replicate n base)
  nils_named os h n = λ k d l. subst (λ (v : ℕ). is_reference os v ≡ true) (sym (get_or-replicate n k base d (omega (arith, l, length-replicate n base)))) h

  pub nils_are : (r : ℕ → Ref) (x : Ref) (n : ℕ) → r base ≡ x → map r (replicate n base) ≡ replicate n x
  nils_are r x zero e = refl
  nils_are r x (suc n) e = ap₂ (λ (a : Ref) (xs : List Ref). a ∷ xs) e (nils_are r x n e)

apart_index : (n : ℕ) → (n == 1 || n == 2 || n == 3 || n == 36) ≡ false → (n ≢ 1) × ((n ≢ 2) × ((n ≢ 3) × ((n == 36) ≡ false)))
apart_index n h = (grind (arith, nat_tests, h), (grind (arith, nat_tests, h), (grind (arith, nat_tests, h), grind (arith, nat_tests, h))))

module _ (w : PlainWorld) (class header count : ℕ) (sound : IsSound (plain_stored w) (plain_view w)) (fits : CanMakeMethod (plain_view w) class header count) where
  abbrev os : List Object
  os = w.heap.objects

  abbrev new : Object
  new = coded_method class header count w.roots.next_birth

  abbrev all : List Object
  all = os ++ new ∷ []

  abbrev k : Kept
  k = plain_view w

  abbrev made : Kept
  made = add_of k (blank_method k class count header)

  entry : is_some (get w.classes class) ≡ true
  entry = entry_in os w.classes class fits.entry

  pub method_below : ((index : ℕ) → 16384 ≤ index → get w.classes index ≡ None) → class < 2 ^ 22
  method_below = class_below w.classes class entry

  other : (class == 36) ≡ false
  other = (apart_index class fits.common).1.1.1

  kind : (xs : List Object) → IsWhole xs w.classes w.roots → is_class_index class ≡ true
  kind xs whole = let a = apart_index class fits.common in kind_of-entry xs w.classes w.roots class whole entry a.0 a.1.0 a.1.1.0

  zeros : (xs : List Object) → IsWhole xs w.classes w.roots → used_bytes (method_format count) (code_in new.words) ≡ replicate count 0
  zeros xs whole =
      let m : ℕ = (count + 3) / 4 in
      let unused = unused_is class header count w.roots.next_birth fits.valid in
      let left : 4 * m - unused_bytes (method_format count) ≡ count = omega (arith, unused) in
      ap (used_bytes (method_format count)) (code_is class header count w.roots.next_birth fits.valid)
      ∙ ap (λ n. take (4 * n - unused_bytes (method_format count)) (bytes_of_words (replicate m 0))) (length-replicate m 0)
      ∙ ap (take (4 * m - unused_bytes (method_format count))) (zero_bytes m)
      ∙ take-replicate (4 * m - unused_bytes (method_format count)) (4 * m) 0 (omega arith) ∙ ap (λ n. replicate n 0) left

  makes_in : (xs : List Object) → IsWhole xs w.classes w.roots → Makes xs ((coded_method class header count w.roots.next_birth)) w.classes w.roots (λ k. blank_method k class count header)
  makes_in xs whole =
      let birth = w.roots.next_birth in
      let lits : ℕ = literal_count header in
      let named = is_reference-object xs base (nil_is_object xs w.classes w.roots whole) in
      let literals = literals_are class header count birth fits.valid in
      let made = makes-method whole new refl entry (kind xs whole) (omega arith) other (code_format class header count birth fits.valid)
      (subst (λ n. IsTrue (format_allows (method_format count) n)) (sym (long class header count birth fits.valid)) (shape class header count birth fits.valid))
      (sound_method class header count birth fits.valid)
      (subst (AllPass (is_reference xs)) (sym literals) (nils_named class header count birth fits.valid xs named lits)) in
      let at : ℕ → List Ref → List ℕ → Obj = λ h ls bs. Method (new_head class (method_format count)) h ls bs in
      record {
        whole = made.whole;
        kept = λ active. made.kept active ∙ ap (add_of (kept_of xs w.classes w.roots active))
            (ap (λ h. at h (map (ref_of xs) (literal_words new.words)) (used_bytes (method_format count) (code_in new.words))) (header_is class header count birth fits.valid)
            ∙ ap (λ ls. at header ls (used_bytes (method_format count) (code_in new.words)))
            (ap (map (ref_of xs)) literals ∙ nils_are class header count birth fits.valid (ref_of xs) (ref.Obj (nth_birth xs 0)) lits (ref_of-nil xs w.classes w.roots whole))
            ∙ ap (at header (replicate lits (ref.Obj (nth_birth xs 0)))) (zeros xs whole));
      }

  makes : Makes os new w.classes w.roots (λ m. blank_method m class count header)
  makes = makes_in os sound.holds.whole

  long_is : length new.words ≡ code_words header count
  long_is = long class header count w.roots.next_birth fits.valid

  -- ---- the active context is the same

  no_birth : plain_birth (Some new) ≡ None
  no_birth = ap (λ c. if c then Some w.roots.next_birth else None) other

  nothing : (us : List Object) (a : ℕ) → is_object us a ≡ false → heap_object us a ≡ None
  nothing us a h = go (object_place us a) h
    where
      go : (o : Option ℕ) → is_some o ≡ false → option_and_then (slice_get us) o ≡ None
      go None e = refl
      go (Some i) e = absurd (cc)

  births : (a : Oop) → oop_birth all a ≡ oop_birth os a
  births a = go (is_object os a.0) refl
    where
      fresh : (b : Bool) → is_object all a.0 ≡ b → is_object os a.0 ≡ false → oop_birth all a ≡ None
      fresh false e none = ap plain_birth (nothing all a.0 e)
      fresh true e none = elim (is_object-pushed os new a.0 e) [
        | inl there ↦ absurd (false≢true (sym none ∙ there))
        | inr next ↦ ap plain_birth (object_at-new os new a.0 next) ∙ no_birth
      ]

      go : (b : Bool) → is_object os a.0 ≡ b → oop_birth all a ≡ oop_birth os a
      go true e = ap plain_birth (object_at-old os new a.0 e)
      go false e = fresh (is_object all a.0) refl e ∙ sym (ap plain_birth (nothing os a.0 e))

  active_same : (o : Option Oop) → plain_active all o ≡ plain_active os o
  active_same None = refl
  active_same (Some a) = births a

  pub method_view : plain_view (with_made w all) ≡ made
  method_view = ap (kept_of all w.classes (after_birth w.roots)) (active_same w.active) ∙ makes.kept (plain_active os w.active)

  -- ---- pcs

  fresh : state.object_at k k.rest.next ≡ None
  fresh = get-objects_of-fresh os w.roots.next_birth (next_is_fresh os w.classes w.roots sound.holds.whole)

  no_blank : (c : Context) → blank_method k class count header ≡ Ctx c → ⊥
  no_blank c e = absurd (cc)

  made_pcs : KeepsPcs made
  unfolding add_of
  made_pcs = pcs-rest made.rest (put k k.rest.next (blank_method k class count header)) (pcs-put k k.rest.next (blank_method k class count header) sound.pcs
      (λ pc l. absurd (let no : lies_in None pc ≡ true = ap (λ o. lies_in o pc) (sym fresh) ∙ l in cc)) (λ c e. absurd (no_blank c e)))

  runs : IsRunning k → IsRunning made
  unfolding add_of
  runs r = running made (active_birth k) (active_context k) (pc_of k) r.known
      (object_at-put_other k k.rest.next (active_birth k) (blank_method k class count header)
      (λ e. let no : ◌≡◌ {A = Option Obj} None (Some (Ctx (active_context k))) = sym fresh ∙ ap (state.object_at k) (sym e) ∙ r.found in absurd (cc)) ∙ r.found)
      r.live made_pcs

  -- ---- words

  made_words : words_held made ≡ used os + size (code_words header count)
  made_words =
      ap words_held (sym (makes.kept (plain_active os w.active))) ∙ words_of-kept all w (after_birth w.roots) (plain_active os w.active) makes.whole
      ∙ used-pushed os new ∙ ap (λ n. used os + size n) (long_is)

  pub method_full : (h : Memory) → h ≡ w.heap → w.heap.limit < used os + size (code_words header count) → IsFullHeap (plain_stored (record w { heap = h })) None (size (code_words header count)) made
  method_full h unchanged over = record { words = omega (arith, ap (λ (g : Memory). g.limit) unchanged, over, made_words); room = tt }

  -- ---- what a call of it does

  blank_same : (m : Kept) → Keeps k m → Same (NamesHeld k) (blank_method k class count header) (blank_method m class count header)
  blank_same m keeps =
      of (NamesHeld k) (λ nil. Method (new_head class (method_format count)) header (replicate (literal_count header) nil) (replicate count 0)) (nil_same keeps) (λ nil h. all-replicate (IsHeld k) (literal_count header) nil h)

  pub method_state : (m : Kept) → Keeps k m → Keeps (plain_view (with_made w all)) (add_of m (blank_method m class count header))
  method_state m keeps = subst (λ v. Keeps v (add_of m (blank_method m class count header))) (sym method_view) (add_moved keeps (blank_same m keeps)).keeps

  pub method_sound : used os + size (code_words header count) ≤ w.heap.limit → IsSound (plain_stored (with_made w all)) (plain_view (with_made w all))
  method_sound room =
      sound_world (with_made w all) makes.whole (omega (arith, room, used-pushed os new, ap size (long_is))) sound.holds.most (subst KindsStand (sym method_view) (kinds-add k (blank_method k class count header) sound.births sound.kinds (λ c e. absurd (no_blank c e)))) (subst KeepsPcs (sym method_view) made_pcs)

  pub method_ready : used os + size (code_words header count) ≤ w.heap.limit → IsReady (plain_stored w) (plain_view w) → IsReady (plain_stored (with_made w all)) (plain_view (with_made w all))
  method_ready room ready = record { sound = method_sound room; running = subst IsRunning (sym method_view) (runs ready.running) }

  pub method_names : KeepsNames (plain_stored w) (plain_stored (with_made w all))
  method_names = λ o h. record { sound = is_reference-push os new o.0 h; is = ref_of-push os new o.0 h }

  pub method_value : (o : Oop) → o.0 ≡ next_address os (code_words header count) → Names (plain_stored (with_made w all)) o (next_ref k)
  method_value o e =
      let next = e ∙ ap (next_address os) (sym long_is) in
      let there = is_object-new os new o.0 next in
      record {
        sound = is_reference-object all o.0 there;
        is = ref_of-object all o.0 there ∙ ap (λ n. ref.Obj n) (birth_of-object_at all o.0 new (object_at-new os new o.0 next));
      }
