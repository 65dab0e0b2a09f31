-- The file that is saved of a settled memory has no fault.
use Rattle.std.proofs.Common.{◌≡◌, ◌≢◌, ℕ, suc, ◌+◌, ◌-◌, ◌*◌, ◌%◌, ◌^◌, ◌<◌, ◌≤◌, ◌==◌, Bool, true, false, nat_lt, not, List, [], ◌∷◌, length, map, take, drop, Option, Some, None, is_some, refl, ap, ap₂, sym, ◌∙◌, arith, slice_get, slice_index, option_map, subst, length-drop}
use Rattle.std.specs.Option.{option_map_or, option_and_then}
use Rattle.std.specs.List.{AllByRecursion, list_any}
use Rattle.std.specs.Ordering.{nat_cmp}
use Rattle.std.specs.FinMap.{FinMap, get}
use Rattle.std.proofs.lemmas.List.{length-map, length-take}
use Rattle.std.proofs.lemmas.List.FromFn.{length-map-range_with_len}
use Rattle.std.proofs.lemmas.List.Sums.{sum_by-cons}
use Rattle.std.proofs.lemmas.Option.{slice_get-map, slice_get-get_or}
use Rattle.std.proofs.lemmas.Bool.Decides.{nat_tests}
use Rattle.cs_heap.specs.Object.{Object, is_object, heap_object, size, slot_counts, used}
use Rattle.cs_heap.specs.Format.{is_pointers, is_code}
use Rattle.cs_model.specs.Ref.{Ref, natural_of}
use Rattle.cs_model.specs.Ref as ref
use Rattle.cs_model.specs.Obj.{Obj, Ctx, context_class, first_pc, lies_between, lies_in, literal_count, slots_in}
use Rattle.cs_model.specs.State.{Kept, IsLive, active_process, is_nil, is_class_index, object_at, object_of, scheduler_of, slots_of, special_at}
use Rattle.cs_model.specs.Settle.{context_kept}
use Rattle.cs_model.specs.Words.{natural_in_word, header_in_words, bytecode_count, bytes_of_words, unused_bytes}
use Rattle.cs_model.specs.ImageFault.{fields_of, has_repeats, is_body, is_live_context, is_pc_of}
use Rattle.cs_model.specs.SavedFile.{SavedObject, SavedBirths, SavedFile, placed_at, saved_base}
use Rattle.cs_model.specs.SoundFile.{IsActive, IsFound, IsReference, IsRooted, IsSavedContext, IsSoundFile, IsSoundSection, NamesSaved, saved_entry, saved_references}
use Rattle.cs_model.proofs.SavedNumbers.{length-bytes_of_words, length-halves}
use Rattle.cs_model.proofs.SavedDescribing.{no_fault}
use Rattle.cs_classes.specs.declared.Roots.{Roots}
use Rattle.cs_classes.specs.Meaning.{code_in, context_of, is_heap_context, kept_of, literal_words, method_header, obj_of, ref_of, used_bytes}
use Rattle.cs_word.specs.Word.{natural_of_word}
use Rattle.cs_classes.specs.Sound.{IsImageHeader, IsSoundContext, IsSoundHeader, IsSoundObject, IsWhole, is_reference, nil_word}
use Rattle.cs_classes.proofs.Heaps.{is_object-object_at}
use Rattle.cs_classes.proofs.Heaps.{object_there as object_of_address}
use Rattle.cs_classes.proofs.Objects.{get-objects_of-element}
use Rattle.cs_classes.proofs.Sorts.{Sort, sort_of, obj_of-context, obj_of-bytes, obj_of-method, obj_of-pointers}
use Rattle.cs_save.specs.Filed.{filed, filed_words, file_word, page_entries, saved_file}
use Rattle.cs_save.specs.Storable.{IsSettled, IsStorableImage}
use Rattle.cs_save.proofs.Addresses.{object_there}
use Rattle.cs_save.proofs.Elements.{IsFine, words_method}
use Rattle.cs_save.proofs.Files.{sizes_filed}
use Rattle.cs_save.proofs.Headers.{length-filed}
use Rattle.cs_save.proofs.Meanings.{IsFiled, count_same, reference_object}
use Rattle.cs_save.proofs.Rooted.{Has, IsFields, address_object, and_then_some, fields_kept, no_address, fields_found, fields_word, live_context, next_word, nil_ref, no_object, word_object}
use Rattle.cs_save.proofs.Sounding.{nil_stays, format_kept, body_formed, both_true, context_again, context_slot, entry_filled, found_word, object_references, or_second, table_again, test_apart, test_same, told_same}
use Rattle.cs_save.proofs.Storing.{all_by_get, all_mapped, all_taken, filed_from, fine_from}

-- ---- pcs

-- what is asked of a method
pub record IsCode (xs : List Object) (x : Object) (n : ℕ) : Type 0 where
  pub other : is_heap_context x ≡ false
  pub bits : is_pointers x.format ≡ false
  pub method : is_code x.format ≡ true
  pub lies : lies_between (first_pc (map (ref_of xs) (literal_words x.words))) (length (used_bytes x.format (code_in x.words))) n ≡ true

code_sort : (xs : List Object) (x : Object) (n : ℕ) → lies_in (Some (obj_of (ref_of xs) x)) n ≡ true → IsCode xs x n
code_sort xs x n h = go (sort_of x)
  where
    told : (o : Obj) → obj_of (ref_of xs) x ≡ o → lies_in (Some o) n ≡ true
    told o e = ap (λ (p : Obj). lies_in (Some p) n) (sym e) ∙ h

    go : Sort x → IsCode xs x n
    go (Sort.AContext c) = absurd (cc (told _ (obj_of-context (ref_of xs) x c)))
    go (Sort.Pointers c p) = absurd (cc (told _ (obj_of-pointers (ref_of xs) x c p)))
    go (Sort.AMethod c p m) = record { other = c; bits = p; method = m; lies = told _ (obj_of-method (ref_of xs) x c p m) }
    go (Sort.Bytes c p m) = absurd (cc (told _ (obj_of-bytes (ref_of xs) x c p m)))

pc_kept : (xs : List Object) (x : Object) (n v first : ℕ) → IsSoundObject xs x → IsFine xs x → IsCode xs x n → natural_in_word v ≡ Some n → is_pc_of v (placed_at first (filed x)) ≡ true
unfolding filed
pc_kept xs x n v first s fine c e =
    let fm = words_method x.format x.words c.bits c.method (fine.method c.method) in
    let long = fine.method c.method in
    let m : ℕ = literal_count (method_header x.words) in
    let count : bytecode_count x.format (filed_words x.format x.words) ≡ length (used_bytes x.format (code_in x.words))
    = ap₂ (λ (a b : ℕ). 4 * (a - (1 + literal_count b)) - unused_bytes x.format) (length-filed x.format x.words) fm.header
    ∙ code_long (length x.words) (unused_bytes x.format) (1 + m) (code_in x.words) (length-drop (1 + m) x.words) in
    let start : 4 * (1 + literal_count (header_in_words (filed_words x.format x.words))) + 1 ≡ first_pc (map (ref_of xs) (literal_words x.words))
    = omega (arith, ap literal_count fm.header, length-map (literal_words x.words) (ref_of xs), length-take m (drop 1 x.words), length-drop 1 x.words, long) in
    rw c.method (ap (λ (r : Option ℕ). option_map_or (lies_between (4 * (1 + literal_count (header_in_words (filed_words x.format x.words))) + 1) (bytecode_count x.format (filed_words x.format x.words))) r false) e
    ∙ ap₂ (λ (a b : ℕ). lies_between a b n) start count ∙ c.lies)
  where
    code_long : (l unused m : ℕ) (code : List ℕ) → length code ≡ l - m → 4 * (l - m) - unused ≡ length (take (4 * length code - unused) (bytes_of_words code))
    code_long l unused m code h = omega (arith, h, length-take (4 * length code - unused) (bytes_of_words code), length-bytes_of_words code)

pub pc_again : (xs : List Object) (table : FinMap nat_cmp ℕ) (roots : Roots) → IsFiled xs table roots → (k : Kept) → Has xs k → ((x : Object) (w : ℕ) → heap_object xs w ≡ Some x → IsFine xs x) → (w v n : ℕ) → is_reference xs w ≡ true
    → natural_in_word v ≡ Some n → lies_in (object_of k (ref_of xs w)) n ≡ true → NamesSaved (saved_file xs table roots) (is_pc_of v) (file_word w)
pc_again xs table roots f k has fine w v n r e h = go (w % 4 == 0) refl
  where
    go : (b : Bool) → (w % 4 == 0) ≡ b → NamesSaved (saved_file xs table roots) (is_pc_of v) (file_word w)
    go false t = absurd (cc (sym h ∙ ap (λ (o : Option Obj). lies_in o n) (no_object xs k w (λ z. absurd (cc (sym t ∙ test_same (w % 4) 0 z))))))
    go true t =
        let object = reference_object xs w r (told_same (w % 4) 0 t) in
        let y = object_of_address xs w object in
        let c = code_sort xs y.0 n (ap (λ (o : Option Obj). lies_in o n) (sym (word_object xs k has w y.0 object y.1)) ∙ h) in
        let o = object_there xs w f.bare f.few object in
        let sound : IsSoundObject xs y.0 = let same : o.object ≡ y.0 = let a = o.found in let b = y.1 in cc in subst (IsSoundObject xs) same (has.sound.each o.number o.object o.there) in
        found_word xs table roots f (λ q. is_pc_of v q ≡ true) w object
        (λ x here first. let same : y.0 ≡ x = let b = y.1 in cc in
        subst (λ (z : Object). is_pc_of v (placed_at first (filed z)) ≡ true) same (pc_kept xs y.0 n v first sound (fine y.0 w y.1) c e))

-- ---- births

apart_any : (b : ℕ) (xs : List Object) → ((k : ℕ) (x : Object) → slice_get xs k ≡ Some x → x.birth ≢ b) → list_any (λ y. y == b) (map (λ (x : Object). x.birth) xs) ≡ false
apart_any b [] h = refl
apart_any b (x ∷ xs) h = rw (test_apart x.birth b (h 0 x refl)) (apart_any b xs (λ k y e. h (suc k) y e))

no_repeats : (xs : List Object) → ((j k : ℕ) (x y : Object) → slice_get xs j ≡ Some x → slice_get xs k ≡ Some y → x.birth ≡ y.birth → j ≡ k) → has_repeats (map (λ (x : Object). x.birth) xs) ≡ false
no_repeats [] h = refl
no_repeats (x ∷ xs) h =
    rw (apart_any x.birth xs (λ k y e same. let z = h (suc k) 0 y x e refl same in omega (arith, z)))
    (no_repeats xs (λ j k a b ea eb same. let z = h (suc j) (suc k) a b ea eb same in omega (arith, z)))

pub section_again : (xs : List Object) (table : FinMap nat_cmp ℕ) (roots : Roots) → IsWhole xs table roots → roots.next_birth ≤ 2 ^ 62
    → IsSoundSection (length (map filed xs)) (record { next = roots.next_birth; births = map (λ (x : Object). x.birth) xs })
section_again xs table roots w next = record {
  count = length-map xs (λ (x : Object). x.birth) ∙ sym (length-map xs filed);
  apart = no_repeats xs w.heap.apart;
  below = all_mapped (λ b. b < roots.next_birth) (λ (x : Object). x.birth) xs (all_by_get (λ x. x.birth < roots.next_birth) xs w.births);
  most = next;
}

-- ---- roots

settled_filed : (xs : List Object) (table : FinMap nat_cmp ℕ) (roots : Roots) (limit : ℕ) → IsSettled xs table roots limit → IsFiled xs table roots
settled_filed xs table roots limit s = filed_from xs table roots s.whole (omega (arith, s.room, s.most)) s.header s.next s.words

object_sound : (xs : List Object) (table : FinMap nat_cmp ℕ) (roots : Roots) (limit : ℕ) → IsSettled xs table roots limit → (w : ℕ) (x : Object) → heap_object xs w ≡ Some x → is_object xs w ≡ true
    → IsSoundObject xs x × IsFine xs x
object_sound xs table roots limit s w x there object =
    let f = settled_filed xs table roots limit s in
    let o = object_there xs w f.bare f.few object in
    let same : o.object ≡ x = let a = o.found in cc in
    let sound = s.whole.heap.each o.number o.object o.there in
    (subst (IsSoundObject xs) same sound, subst (IsFine xs) same (fine_from xs o.object sound (s.single o.number o.object o.there)))

not_hidden : (class : ℕ) → is_class_index class ≡ true → (class == 16) ≡ false
not_hidden class h = go (class == 16) (both_true (nat_lt 3 class) (not (class == 16)) h).1
  where
    go : (b : Bool) → not b ≡ true → b ≡ false
    go true e = absurd (cc)
    go false e = refl

-- a step from a word to slot 1 of what it names
record Step (xs : List Object) (f : SavedFile) (n w : ℕ) (r : Ref) : Type 0 where
  object : Object
  slots : List Ref
  fields : IsFields xs n w slots object
  next : r ≡ ref_of xs (slice_index object.words 1)
  reference : is_reference xs (slice_index object.words 1) ≡ true
  found : IsFound f (λ o. fields_of n o ≡ Some (filed object).words) (file_word w)
  slot : slice_index (filed object).words 1 ≡ file_word (slice_index object.words 1)

step_from : (xs : List Object) (table : FinMap nat_cmp ℕ) (roots : Roots) (limit : ℕ) → IsSettled xs table roots limit → (n w : ℕ) (r : Ref) → 2 ≤ n → is_reference xs w ≡ true
    → option_and_then (λ slots. slice_get slots 1) (slots_of (kept_of xs table roots None) n (ref_of xs w)) ≡ Some r → Step xs (saved_file xs table roots) n w r
step_from xs table roots limit s n w r few reference h =
    let f = settled_filed xs table roots limit s in
    let a = and_then_some (λ (slots : List Ref). slice_get slots 1) (slots_of (kept_of xs table roots None) n (ref_of xs w)) r h in
    let x = fields_word xs (kept_of xs table roots None) (record { sound = s.whole.heap; objects = refl }) n w a.0 reference a.1 in
    let sound = object_sound xs table roots limit s w x.0 x.1.found x.1.is in
    let long = x.1.long in
    record {
      object = x.0;
      slots = a.0;
      fields = x.1;
      next = next_word xs n w a.0 x.0 r x.1 few a.2;
      reference = sound.1.pointers x.1.pointers 1 (omega (arith, long, few));
      found = fields_found xs table roots f n w a.0 x.0 x.1 (not_hidden x.0.class sound.0.kind);
      slot = context_slot x.0 x.1.pointers 1 (omega (arith, long, few));
    }

active_again : (xs : List Object) (table : FinMap nat_cmp ℕ) (roots : Roots) (limit : ℕ) → IsSettled xs table roots limit → (w : ℕ) → is_reference xs w ≡ true
    → (is_nil (kept_of xs table roots None) (ref_of xs w) ≡ false → (i : ℕ) × (context_kept (kept_of xs table roots None) (ref_of xs w) ≡ Some (ref.Obj i)) × IsLive (kept_of xs table roots None) i)
    → file_word w ≢ saved_base → IsActive (saved_file xs table roots) (file_word w)
active_again xs table roots limit s w reference live there =
    let f = settled_filed xs table roots limit s in
    let k : Kept = kept_of xs table roots None in
    let l = live (other (is_nil k (ref_of xs w)) refl) in
    let t = step_from xs table roots limit s 4 w (ref.Obj l.0) (omega arith) reference l.1 in
    record {
      fields = (filed t.object).words;
      process = t.found;
      context = subst (NamesSaved (saved_file xs table roots) is_live_context) (sym t.slot)
          (live_context xs table roots f k (record { sound = s.whole.heap; objects = refl }) (slice_index t.object.words 1) l.0 t.reference
          (λ x here c. let object = reference_is xs (slice_index t.object.words 1) l.0 (sym t.next) t.reference in
          let o = object_sound xs table roots limit s (slice_index t.object.words 1) x here object in
          let d = o.1.context c in
          let six = d.1 in
          (ap is_pointers d.0, omega (arith, six)))
          (sym t.next) l.2);
    }
  where
    other : (b : Bool) → is_nil (kept_of xs table roots None) (ref_of xs w) ≡ b → b ≡ false
    other false e = refl
    other true e = let f = settled_filed xs table roots limit s in absurd (there (nil_stays w (nil_ref xs table roots f s.whole.heap s.whole.nil w reference e)))

    reference_is : (xs : List Object) (v i : ℕ) → ref_of xs v ≡ ref.Obj i → is_reference xs v ≡ true → is_object xs v ≡ true
    reference_is xs v i e r = go (v % 4 == 0) refl
      where
        go : (b : Bool) → (v % 4 == 0) ≡ b → is_object xs v ≡ true
        go true t = reference_object xs v r (told_same (v % 4) 0 t)
        go false t = absurd (no_address xs v i (λ z. absurd (cc (sym t ∙ test_same (v % 4) 0 z))) e)

pub roots_again : (xs : List Object) (table : FinMap nat_cmp ℕ) (roots : Roots) (limit : ℕ) → IsSettled xs table roots limit → IsRooted (saved_file xs table roots)
unfolding active_process scheduler_of special_at
roots_again xs table roots limit s =
    let f = settled_filed xs table roots limit s in
    let k : Kept = kept_of xs table roots None in
    let has : Has xs k = record { sound = s.whole.heap; objects = refl } in
    let a = roots.special.0 in
    let y = object_of_address xs a s.whole.special in
    let sound = object_sound xs table roots limit s a y.0 y.1 s.whole.special in
    let two : y.0.format ≡ 2 = sym (ap (λ (r : Option Object). option_map_or (λ x. x.format) r 0) y.1) ∙ s.whole.array.format in
    let many = s.whole.array.slots in
    let long : 51 ≤ length y.0.words = let is = ap (λ (r : Option Object). option_map_or (λ x. length x.words) r 0) y.1 in omega (arith, many, is) in
    let pointers : is_pointers y.0.format ≡ true = ap is_pointers two in
    let plain = no_context y.0 sound.1 two in
    let special : special_at k 3 ≡ Some (ref_of xs (slice_index y.0.words 3))
    = ap (λ (o : Option Obj). option_and_then (λ slots. slice_get slots 3) (slots_in o)) (address_object xs k has a y.0 s.whole.special y.1 ∙ ap Some (obj_of-pointers (ref_of xs) y.0 plain pointers))
    ∙ slice_get-map (ref_of xs) y.0.words 3 ∙ ap (option_map (ref_of xs)) (slice_get-get_or y.0.words 3 0 (omega (arith, long))) in
    let active = and_then_some (λ (r : Ref). option_and_then (λ slots. slice_get slots 1) (slots_of k 2 r)) (scheduler_of k) s.process.process s.process.active in
    let scheduler = and_then_some (λ (r : Ref). option_and_then (λ slots. slice_get slots 1) (slots_of k 2 r)) (special_at k 3) active.0 active.1 in
    let link : scheduler.0 ≡ ref_of xs (slice_index y.0.words 3) = let e = scheduler.1 in cc in
    let t = step_from xs table roots limit s 2 (slice_index y.0.words 3) active.0 (omega arith) (sound.1.pointers pointers 3 (omega (arith, long)))
    (ap (λ (r : Ref). option_and_then (λ slots. slice_get slots 1) (slots_of k 2 r)) (sym link) ∙ scheduler.2) in
    let u = step_from xs table roots limit s 2 (slice_index t.object.words 1) s.process.process (omega arith) t.reference
    (ap (λ (r : Ref). option_and_then (λ slots. slice_get slots 1) (slots_of k 2 r)) (sym t.next) ∙ active.2) in
    let wp = slice_index u.object.words 1 in
    record {
      special = (filed y.0).words;
      link = (filed t.object).words;
      scheduler = (filed u.object).words;
      array = found_word xs table roots f (λ o. (o.format ≡ 2) × (fields_of 51 o ≡ Some (filed y.0).words)) a s.whole.special
          (λ x here first. let same : y.0 ≡ x = let b = y.1 in cc in
          subst (λ (z : Object). ((placed_at first (filed z)).format ≡ 2) × (fields_of 51 (placed_at first (filed z)) ≡ Some (filed y.0).words)) same
          (format_kept y.0 first ∙ two, fields_kept y.0 51 first (not_hidden y.0.class sound.0.kind) plain pointers long));
      linked = subst (IsFound (saved_file xs table roots) (λ o. fields_of 2 o ≡ Some (filed t.object).words)) (sym (context_slot y.0 pointers 3 (omega (arith, long)))) t.found;
      scheduled = subst (IsFound (saved_file xs table roots) (λ o. fields_of 2 o ≡ Some (filed u.object).words)) (sym t.slot) u.found;
      active = λ h. subst (IsActive (saved_file xs table roots)) (sym u.slot)
          (active_again xs table roots limit s wp u.reference
          (λ filled. subst (λ (r : Ref). (i : ℕ) × (context_kept k r ≡ Some (ref.Obj i)) × IsLive k i) u.next
          (s.process.live (ap (is_nil k) u.next ∙ filled)))
          (λ e. h (u.slot ∙ e)));
    }
  where
    no_context : (x : Object) → IsFine xs x → x.format ≡ 2 → is_heap_context x ≡ false
    no_context x fine two = go (is_heap_context x) refl
      where
        go : (b : Bool) → is_heap_context x ≡ b → b ≡ false
        go false e = refl
        go true e = let three = (fine.context e).0 in absurd (omega (arith, two, three))

-- ---- the whole

sizes_long : (xs : List Object) → 4 * length xs ≤ used xs
sizes_long [] = omega arith
sizes_long (x ∷ xs) = omega (arith, sizes_long xs, sum_by-cons size (length x.words) (slot_counts xs))

header_parts : (header : List ℕ) → IsSoundHeader header → IsImageHeader header
unfolding IsSoundHeader
header_parts header h = h

at_least_four : (class : ℕ) → is_class_index class ≡ true → 4 ≤ class
at_least_four class h = let low = (both_true (nat_lt 3 class) (not (class == 16)) h).0 in more class low
  where
    more : (n : ℕ) → nat_lt 3 n ≡ true → 4 ≤ n
    more n e = grind (arith, nat_tests, e)

kind_again : (xs : List Object) (table : FinMap nat_cmp ℕ) (roots : Roots) → IsFiled xs table roots → IsWhole xs table roots → (x : Object) → is_class_index x.class ≡ true → is_some (get table x.class) ≡ true
    → (4 ≤ (filed x).class) × (saved_entry (saved_file xs table roots) (filed x).class ≢ saved_base)
unfolding filed
kind_again xs table roots f w x kind entry = (at_least_four x.class kind, entry_filled xs table roots f w x.class entry)

class_of_filed : (x : Object) → (filed x).class ≡ x.class
unfolding filed
class_of_filed x = refl

format_of_filed : (x : Object) → (filed x).format ≡ x.format
unfolding filed
format_of_filed x = refl

-- the pc of a context that isn't nil lies in its method
context_pc : (xs : List Object) (table : FinMap nat_cmp ℕ) (roots : Roots) (limit : ℕ) → IsSettled xs table roots limit → (j : ℕ) (x : Object) → slice_get xs j ≡ Some x → is_heap_context x ≡ true
    → (slice_index x.words 1 == nil_word xs) ≡ false → NamesSaved (saved_file xs table roots) (is_pc_of (file_word (slice_index x.words 1))) (file_word (slice_index x.words 3))
unfolding context_of
context_pc xs table roots limit s j x e c other = go (natural_of_word (slice_index x.words 1)) refl (or_second _ _ sound.pc other)
  where
    f : IsFiled xs table roots
    f = settled_filed xs table roots limit s

    sound : IsSoundContext xs x
    sound = (s.whole.heap.each j x e).context c

    fine : IsFine xs x
    fine = fine_from xs x (s.whole.heap.each j x e) (s.single j x e)

    there : object_at (kept_of xs table roots None) x.birth ≡ Some (Ctx (context_of (ref_of xs) x.hash x.words))
    there = get-objects_of-element xs j x s.whole.heap.apart e ∙ ap Some (obj_of-context (ref_of xs) x c)

    long : 3 < length x.words
    long = let six = (fine.context c).1 in omega (arith, six)

    go : (r : Option ℕ) → natural_of_word (slice_index x.words 1) ≡ r → is_some r ≡ true
        → NamesSaved (saved_file xs table roots) (is_pc_of (file_word (slice_index x.words 1))) (file_word (slice_index x.words 3))
    go None h t = absurd (cc)
    go (Some n) h t =
        pc_again xs table roots f (kept_of xs table roots None) (record { sound = s.whole.heap; objects = refl })
        (λ y w here. (object_sound xs table roots limit s w y here (is_object-object_at xs w y here)).1)
        (slice_index x.words 3) (file_word (slice_index x.words 1)) n (fine.pointers (ap is_pointers sound.format) 3 long)
        (count_same (slice_index x.words 1) ∙ h) (s.pcs x.birth (context_of (ref_of xs) x.hash x.words) there n h)

pub sound_file : (xs : List Object) (table : FinMap nat_cmp ℕ) (roots : Roots) (limit : ℕ) → IsSettled xs table roots limit → IsSoundFile (saved_file xs table roots) limit
sound_file xs table roots limit s = record {
  fits = f.fits;
  size = omega (
    arith,
    length-map-range_with_len (page_entries table) 0 16,
    sizes_filed xs,
    sizes_long xs,
    s.room,
    s.most,
    length-map xs (λ (x : Object). x.birth),
    length-halves (roots.next_birth ∷ length (map (λ (x : Object). x.birth) xs) ∷ map (λ (x : Object). x.birth) xs),
  );
  number = header.format;
  header_size = header.size;
  profile = header.profile;
  room = omega (arith, sizes_filed xs, s.room);
  first = all_taken (λ (o : SavedObject). o.format ≡ 0) 3 (map filed xs) first;
  bodies = all_mapped (λ o. is_body o.format o.words ≡ true) filed xs (all_by_get (λ x. is_body (filed x).format (filed x).words ≡ true) xs
      (λ k x e. body_formed xs x (s.whole.heap.each k x e) (fine k x e)));
  kinds = all_mapped (λ o. (4 ≤ o.class) × (saved_entry F o.class ≢ saved_base)) filed xs (all_by_get (λ x. (4 ≤ (filed x).class) × (saved_entry F (filed x).class ≢ saved_base)) xs
      (λ k x e. kind_again xs table roots f s.whole x (s.whole.heap.each k x e).kind (s.whole.indices k x e)));
  references = all_mapped (λ o. AllByRecursion (IsReference F) (saved_references o)) filed xs (all_by_get (λ x. AllByRecursion (IsReference F) (saved_references (filed x))) xs
      (λ k x e. object_references xs table roots f x (fine k x e)));
  contexts = all_mapped (λ o. o.class ≡ context_class → IsSavedContext F o) filed xs (all_by_get (λ x. (filed x).class ≡ context_class → IsSavedContext F (filed x)) xs context);
  table = table_again xs table roots f s.whole;
  roots = roots_again xs table roots limit s;
  births = λ b e. subst (IsSoundSection (length (map filed xs))) (some_same _ b e) (section_again xs table roots s.whole s.next);
}
  where
    f : IsFiled xs table roots
    f = settled_filed xs table roots limit s

    F : SavedFile
    F = saved_file xs table roots

    header : IsImageHeader roots.header
    header = header_parts roots.header s.whole.header

    fine : (k : ℕ) (x : Object) → slice_get xs k ≡ Some x → IsFine xs x
    fine k x e = fine_from xs x (s.whole.heap.each k x e) (s.single k x e)

    some_same : (a b : SavedBirths) → Some a ≡ Some b → a ≡ b
    some_same a b e = cc

    first : (k : ℕ) (o : SavedObject) → slice_get (map filed xs) k ≡ Some o → k < 3 → o.format ≡ 0
    first k o e l = go (slice_get xs k) refl
      where
        go : (r : Option Object) → slice_get xs k ≡ r → o.format ≡ 0
        go None h = absurd (cc (sym e ∙ slice_get-map filed xs k ∙ ap (option_map filed) h))
        go (Some x) h =
            let same : o ≡ filed x = let there : slice_get (map filed xs) k ≡ Some (filed x) = slice_get-map filed xs k ∙ ap (option_map filed) h in cc in
            ap (λ (y : SavedObject). y.format) same ∙ format_of_filed x ∙ s.whole.singles k x h l

    context : (k : ℕ) (x : Object) → slice_get xs k ≡ Some x → (filed x).class ≡ context_class → IsSavedContext F (filed x)
    context k x e h =
        let c : is_heap_context x ≡ true = test_same x.class context_class (sym (class_of_filed x) ∙ h) in
        context_again xs table roots f s.whole.nil x ((s.whole.heap.each k x e).context c) ((fine k x e).context c).1 (s.single k x e c) (context_pc xs table roots limit s k x e c)

pub settled_storable : (xs : List Object) (table : FinMap nat_cmp ℕ) (roots : Roots) (limit : ℕ) → IsSettled xs table roots limit → IsStorableImage xs table roots limit
settled_storable xs table roots limit s = record {
  whole = s.whole;
  single = s.single;
  words = s.words;
  header = s.header;
  next = s.next;
  fault = no_fault (saved_file xs table roots) limit (sound_file xs table roots limit s);
}
