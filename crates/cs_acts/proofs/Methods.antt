-- The active method as it lies in the heap.
use Rattle.std.proofs.Common.{◌≡◌, ◌⊎◌, inl, inr, ℕ, zero, suc, ◌+◌, ◌-◌, ◌*◌, ◌/◌, ◌<◌, ◌≤◌, ◌%◌, Bool, true, false, refl, sym, ap, ap₂, subst, ◌∙◌, arith, Option, Some, None, List, [], ◌∷◌, length, map, drop, get_or}
use Rattle.std.specs.Prelude.{slice_get, slice_index, unwrap_or, option_map, ◌==◌, ◌&&◌, if◌then◌else◌, nat_lt, nat_le}
use Rattle.std.specs.Option.{option_map_or}
use Rattle.std.proofs.lemmas.Bool.Decides.{nat_tests}
use Rattle.std.proofs.lemmas.List.{get_or-drop, get_or-take, get_or_past, length-drop, length-map, length-take}
use Rattle.std.proofs.lemmas.Option.{slice_get-get_or, slice_get-map, slice_get_past}
use Rattle.cs_word.specs.Word.{natural_of_word}
use Rattle.cs_model.specs.Words.{byte_in, bytes_of_words, small_value, unused_bytes}
use Rattle.cs_word.specs.declared.Oop.{Oop}
use Rattle.cs_word.specs.declared.Kind.TheVariants as kind
use Rattle.cs_heap.specs.Format.{is_code}
use Rattle.cs_heap.specs.Object.{Memory, Object, byte_of, part_at, format_at, is_object, heap_object, slot_count_of, slot_of}
use Rattle.cs_classes.specs.Meaning.{ref_of, obj_of, is_heap_context, method_header, literal_words, used_bytes, code_in, head_of}
use Rattle.cs_classes.specs.Sound.{IsSoundMethod, IsSoundObject, is_reference}
pub use Rattle.cs_classes.proofs.Counting.{length-bytes_of}
use Rattle.cs_classes.proofs.Heaps.{is_object-object_at}
use Rattle.cs_classes.proofs.Sorts.{AContext, AMethod, Bytes, Pointers, Sort, sort_of, obj_of-pointers, obj_of-method, obj_of-bytes, references-method}
use Rattle.cs_classes.proofs.Sounds.{sound_at}
use Rattle.cs_model.specs.Ref.{Ref}
use Rattle.cs_model.specs.Obj as obj
use Rattle.cs_model.specs.Obj.{Obj, Ptr, Raw, Method, Ctx, is_context_at, first_pc, lies_in, literal_count}
use Rattle.cs_model.specs.State.{Kept, object_of}
use Rattle.cs_model.specs.Read.{active_context, bytecodes_of, method_of, pc_of, literals_of}
use Rattle.cs_acts.specs.Names.{Store, Names, NamesOption}
use Rattle.cs_acts.specs.Ready.{IsReady}
use Rattle.cs_acts.specs.Reading.{byte_before, object_of_kind, object_named}
use Rattle.cs_acts.proofs.Held.{Says, says}

-- the object that a word names is at the address that the word is
pub at_word : (os : List Object) (w : ℕ) (o : Option Object) (x : Object) → object_named os w ≡ o → o ≡ Some x → heap_object os w ≡ Some x
at_word os w o x e is = go (w % 2 == 1) (w % 4 == 2) (w % 8 == 0) (e ∙ is)
  where
    go : (a b c : Bool) → object_of_kind os (if a then kind.Small (small_value w) else (if b then kind.Character (w / 4) else (if c then kind.Object w else kind.Link w))) ≡ Some x → heap_object os w ≡ Some x
    go true b c h = absurd (cc)
    go false true c h = absurd (cc)
    go false false true h = h
    go false false false h = absurd (cc)

-- the object of the heap that a method of the state is
pub record IsMethodAt (os : List Object) (o : Option Obj) (w : ℕ) : Type 0 where
  pub object : Object
  pub there : heap_object os w ≡ Some object
  pub sound : IsSoundObject os object
  pub format : is_code object.format ≡ true
  pub means : o ≡ Some (Method (head_of object) (method_header object.words) (map (ref_of os) (literal_words object.words)) (used_bytes object.format (code_in object.words)))

-- only a method has a place where a pc lies
no_context : (o : Option Obj) (pc : ℕ) → is_context_at o ≡ true → lies_in o pc ≡ true → ⊥
no_context None pc h i = absurd (cc)
no_context (Some (Ptr head slots)) pc h i = absurd (cc)
no_context (Some (Raw head bytes)) pc h i = absurd (cc)
no_context (Some (Method head header literals bytecodes)) pc h i = absurd (cc)
no_context (Some (Ctx c)) pc h i = absurd (cc)

found_method : (os : List Object) (o : Option Obj) (w pc : ℕ) (x : Object) → heap_object os w ≡ Some x → IsSoundObject os x → Says (ref_of os) (Some x) o → lies_in o pc ≡ true → IsMethodAt os o w
found_method os o w pc x there sound said lies = go (sort_of x)
  where
    means : is_heap_context x ≡ false → lies_in (Some (obj_of (ref_of os) x)) pc ≡ true
    means other = subst (λ p. lies_in p pc ≡ true) (said.0 other) lies

    go : Sort x → IsMethodAt os o w
    go (AContext c) = absurd (no_context o pc (said.1 c) lies)
    go (Pointers other p) = absurd (let l = subst (λ p. lies_in (Some p) pc ≡ true) (obj_of-pointers (ref_of os) x other p) (means other) in cc)
    go (AMethod other b m) = record { object = x; there = there; sound = sound; format = m; means = said.0 other ∙ ap Some (obj_of-method (ref_of os) x other b m) }
    go (Bytes other b m) = absurd (let l = subst (λ p. lies_in (Some p) pc ≡ true) (obj_of-bytes (ref_of os) x other b m) (means other) in cc)

pub method_there : (s : Store) (k : Kept) (o : Oop) → IsReady s k → Names s o (active_context k).method → IsMethodAt s.memory.objects (method_of k) o.0
unfolding method_of
method_there s k o ready names =
    let h = ready.sound.holds in
    let lies : lies_in (object_of k (active_context k).method) (pc_of k) ≡ true = ready.running.method in
    let said = subst (λ r. Says (ref_of s.memory.objects) (object_named s.memory.objects o.0) (object_of k r)) names.is (says s k o h names.sound) in
    go (object_named s.memory.objects o.0) refl said lies
  where
    none : (q : Option Obj) → q ≡ None → lies_in q (pc_of k) ≡ true → ⊥
    none q e l = let m = subst (λ p. lies_in p (pc_of k) ≡ true) e l in absurd (cc)

    go : (p : Option Object) → object_named s.memory.objects o.0 ≡ p → Says (ref_of s.memory.objects) p (object_of k (active_context k).method) → lies_in (object_of k (active_context k).method) (pc_of k) ≡ true
        → IsMethodAt s.memory.objects (object_of k (active_context k).method) o.0
    go None e said l = absurd (none _ said l)
    go (Some x) e said l =
        let there = at_word s.memory.objects o.0 (Some x) x e refl in
        found_method s.memory.objects _ o.0 (pc_of k) x there (sound_at s.memory.objects o.0 x ready.sound.holds.whole.heap there) said l

-- ---- what is read of it

module _ (os : List Object) (o : Option Obj) (w : ℕ) (m : IsMethodAt os o w) where
  abbrev pub words : List ℕ
  words = m.object.words

  pub field_is : (g : Object → ℕ) → part_at g os w ≡ g m.object
  field_is g = ap (λ (p : Option Object). option_map_or g p 0) m.there

  pub is_there : is_object os w ≡ true
  is_there = is_object-object_at os w m.object m.there

  pub parts : IsSoundMethod m.object
  parts = m.sound.method m.format

  -- the literals and the header have slots
  pub literals_fit : literal_count (method_header words) < length words
  literals_fit = omega (arith, parts.literals)

  pub slots_fit : literal_count (method_header words) < slot_count_of os w
  slots_fit = omega (arith, literals_fit, field_is (λ x. length x.words))

  pub header_is : unwrap_or (natural_of_word (slot_of os w 0)) 0 ≡ method_header words
  header_is = ap (λ n. unwrap_or (natural_of_word n) 0) (field_is (λ x. slice_index x.words 0))

  pub length-literals : length (literal_words words) ≡ literal_count (method_header words)
  length-literals = omega (arith, literals_fit, length-take (literal_count (method_header words)) (drop 1 words), length-drop 1 words)

  literal_word : (i : ℕ) → i < literal_count (method_header words) → slice_get (literal_words words) i ≡ Some (slot_of os w (i + 1))
  literal_word i h =
      slice_get-get_or (literal_words words) i 0 (omega (arith, h, length-literals))
      ∙ ap Some (get_or-take (literal_count (method_header words)) (drop 1 words) i 0 h ∙ get_or-drop 1 words i 0 ∙ ap (λ n. get_or words n 0) (omega arith) ∙ sym (field_is (λ x. slice_index x.words (i + 1))))

  pub literal_is : (i : ℕ) → i < literal_count (method_header words) → slice_get (map (ref_of os) (literal_words words)) i ≡ Some (ref_of os (slot_of os w (i + 1)))
  literal_is i h = slice_get-map (ref_of os) (literal_words words) i ∙ ap (option_map (ref_of os)) (literal_word i h)

  pub no_literal : (i : ℕ) → literal_count (method_header words) ≤ i → slice_get (map (ref_of os) (literal_words words)) i ≡ None
  no_literal i h = slice_get_past (map (ref_of os) (literal_words words)) i (omega (arith, h, length-literals, length-map (literal_words words) (ref_of os)))

  pub literal_named : (i : ℕ) → i < literal_count (method_header words) → is_reference os (slot_of os w (i + 1)) ≡ true
  literal_named i h =
      let all = subst (λ ls. (j d : ℕ) → j < length ls → is_reference os (get_or ls j d) ≡ true) (references-method m.object m.format) m.sound.references in
      let word = slice_get-get_or (literal_words words) i 0 (omega (arith, h, length-literals)) in
      let same : get_or (literal_words words) i 0 ≡ slot_of os w (i + 1) = let e = literal_word i h in cc in
      subst (λ v. is_reference os v ≡ true) same (all i 0 (omega (arith, h, length-literals)))

-- ---- and of the heap that the code reads

pub active_method : (s : Store) (k : Kept) (h : Memory) (o : Oop) → h ≡ s.memory → IsReady s k → Names s o (active_context k).method → IsMethodAt h.objects (method_of k) o.0
active_method s k h o e ready names = subst (λ m. IsMethodAt m.objects (method_of k) o.0) (sym e) (method_there s k o ready names)

-- the count that the code reads
pub count_read : (os : List Object) (k : Kept) (w n : ℕ) → IsMethodAt os (method_of k) w → n ≡ literal_count (unwrap_or (natural_of_word (slot_of os w 0)) 0) → n ≡ length (literals_of k)
count_read os k w n m e =
    e ∙ ap literal_count (header_is os (method_of k) w m) ∙ sym (length-literals os (method_of k) w m)
    ∙ sym (length-map (literal_words m.object.words) (ref_of os)) ∙ sym (ap (λ o. length (obj.literals_in o)) m.means)

pub slots_below : (os : List Object) (k : Kept) (w i : ℕ) → IsMethodAt os (method_of k) w → i < length (literals_of k) → i + 1 < slot_count_of os w
slots_below os k w i m h =
    let n = count_read os k w (literal_count (unwrap_or (natural_of_word (slot_of os w 0)) 0)) m refl in
    omega (arith, h, n, ap literal_count (header_is os (method_of k) w m), slots_fit os (method_of k) w m)

pub literal_names : (s : Store) (k : Kept) (w i : ℕ) (o : Oop) → IsMethodAt s.memory.objects (method_of k) w → i < length (literals_of k) → o.0 ≡ slot_of s.memory.objects w (i + 1)
    → NamesOption s (Some o) (slice_get (literals_of k) i)
literal_names s k w i o m h is =
    let os = s.memory.objects in
    let n = count_read os k w (literal_count (unwrap_or (natural_of_word (slot_of os w 0)) 0)) m refl in
    let less : i < literal_count (method_header m.object.words) = omega (arith, h, n, ap literal_count (header_is os (method_of k) w m)) in
    record {
      sound = subst (λ v. is_reference os v ≡ true) (sym is) (literal_named os (method_of k) w m i less);
      is = ap (λ v. Some (ref_of os v)) is ∙ sym (ap (λ p. slice_get (obj.literals_in p) i) m.means ∙ literal_is os (method_of k) w m i less);
    }

pub no_literal_names : (s : Store) (k : Kept) (i : ℕ) → length (literals_of k) ≤ i → NamesOption s None (slice_get (literals_of k) i)
no_literal_names s k i h = record { sound = tt; is = sym (slice_get_past (literals_of k) i h) }

-- ---- bytes

-- byte i is in word i / 4
pub get_or-bytes_of : (ws : List ℕ) (i : ℕ) → i < 4 * length ws → get_or (bytes_of_words ws) i 0 ≡ byte_in (get_or ws (i / 4) 0) (i % 4)
unfolding bytes_of_words
get_or-bytes_of [] i h = absurd (omega (arith, h))
get_or-bytes_of (w ∷ ws) zero h = refl
get_or-bytes_of (w ∷ ws) (suc zero) h = refl
get_or-bytes_of (w ∷ ws) (suc (suc zero)) h = refl
get_or-bytes_of (w ∷ ws) (suc (suc (suc zero))) h = refl
get_or-bytes_of (w ∷ ws) (suc (suc (suc (suc i)))) h =
    get_or-bytes_of ws i (omega (arith, h)) ∙ ap (λ n. byte_in (get_or ws (i / 4) 0) n) rest ∙ ap (λ n. byte_in (get_or (w ∷ ws) n 0) ((suc (suc (suc (suc i)))) % 4)) word
  where
    word : suc (i / 4) ≡ suc (suc (suc (suc i))) / 4
    word = omega arith

    rest : i % 4 ≡ suc (suc (suc (suc i))) % 4
    rest = omega arith

module _ (os : List Object) (o : Option Obj) (w : ℕ) (m : IsMethodAt os o w) where
  abbrev code : List ℕ
  code = code_in (words os o w m)

  length-code : 1 + literal_count (method_header m.object.words) + length code ≡ length m.object.words
  length-code = omega (arith, literals_fit os o w m, length-drop (1 + literal_count (method_header m.object.words)) m.object.words)

  -- the format says how many bytes at the end are unused: fewer than the bytecodes have
  unused : unused_bytes m.object.format ≤ 4 * length code
  unused = omega (arith, length-code, unused_few m.object.format m.format, needed (nat_lt 0 (unused_bytes m.object.format)) refl (parts os o w m).literals)
    where
      unused_few : (f : ℕ) → is_code f ≡ true → unused_bytes f < 4
      unused_few f h = grind (arith, nat_tests)

      none : (u : ℕ) → nat_lt 0 u ≡ false → u ≡ 0
      none u e = grind (arith, nat_tests)

      needed : (b : Bool) → nat_lt 0 (unused_bytes m.object.format) ≡ b → literal_count (method_header m.object.words) + (if b then 1 else 0) < length m.object.words
          → (unused_bytes m.object.format ≡ 0) ⊎ (literal_count (method_header m.object.words) + 1 < length m.object.words)
      needed true e h = inr h
      needed false e h = inl (none (unused_bytes m.object.format) e)

  pub length-bytecodes : length (used_bytes m.object.format code) ≡ 4 * length code - unused_bytes m.object.format
  length-bytecodes = omega (arith, length-take (4 * length code - unused_bytes m.object.format) (bytes_of_words code), length-bytes_of code)

  slots_are : slot_count_of os w ≡ length m.object.words
  slots_are = field_is os o w m (λ x. length x.words)

  pub format_is : is_code (format_at os w) ≡ true
  format_is = ap is_code (field_is os o w m (λ x. x.format)) ∙ m.format

  -- the byte behind the last bytecode, counted from the header on
  pub end_is : 4 * (literal_count (method_header m.object.words) + 1) + length (used_bytes m.object.format code) ≡ 4 * slot_count_of os w - unused_bytes (format_at os w)
  end_is =
      let format : unused_bytes (format_at os w) ≡ unused_bytes m.object.format = ap unused_bytes (field_is os o w m (λ x. x.format)) in
      omega (arith, length-bytecodes, length-code, unused, slots_are, format)

-- where a pc lies, as the code reads it
pub lies_read : (os : List Object) (o : Option Obj) (w n end pc : ℕ) → IsMethodAt os o w → n ≡ literal_count (unwrap_or (natural_of_word (slot_of os w 0)) 0) → end ≡ 4 * slot_count_of os w - unused_bytes (format_at os w)
    → (nat_le (4 * (n + 1) + 1) pc && nat_le pc (end + 1)) ≡ lies_in o pc
lies_read os o w n end pc m count is =
    let ls : List Ref = map (ref_of os) (literal_words m.object.words) in
    let literals : n ≡ length ls = count ∙ ap literal_count (header_is os o w m) ∙ sym (length-literals os o w m) ∙ sym (length-map (literal_words m.object.words) (ref_of os)) in
    let last : end + 1 ≡ first_pc ls + length (used_bytes m.object.format (code_in m.object.words)) = omega (arith, is, end_is os o w m, literals, length-literals os o w m, length-map (literal_words m.object.words) (ref_of os)) in
    ap₂ (λ (a b : ℕ). nat_le (4 * (a + 1) + 1) pc && nat_le pc b) literals last ∙ sym (ap (λ p. lies_in p pc) m.means)

-- ---- the bytecodes, as the code reads them

module _ (os : List Object) (o : Option Obj) (w : ℕ) (m : IsMethodAt os o w) where
  abbrev count : ℕ
  count = literal_count (method_header m.object.words)

  abbrev codes : List ℕ
  codes = used_bytes m.object.format (code_in m.object.words)

  first_is : first_pc (map (ref_of os) (literal_words m.object.words)) ≡ 4 * (count + 1) + 1
  first_is = omega (arith, length-literals os o w m, length-map (literal_words m.object.words) (ref_of os))

  pub code_byte : (j : ℕ) → j < length codes → get_or codes j 0 ≡ byte_of os w (4 * (count + 1) + j)
  code_byte j h =
      let within : j < 4 * length (code_in m.object.words) - unused_bytes m.object.format = omega (arith, h, length-bytecodes os o w m) in
      get_or-take (4 * length (code_in m.object.words) - unused_bytes m.object.format) (bytes_of_words (code_in m.object.words)) j 0 within
      ∙ get_or-bytes_of (code_in m.object.words) j (omega (arith, within))
      ∙ ap (λ v. byte_in v (j % 4)) (get_or-drop (1 + count) m.object.words (j / 4) 0)
      ∙ ap₂ (λ i r. byte_in (get_or m.object.words i 0) r) (word count j) (rest count j)
      ∙ ap (λ v. byte_in v ((4 * (count + 1) + j) % 4)) (sym (field_is os o w m (λ x. slice_index x.words ((4 * (count + 1) + j) / 4))))
    where
      word : (n j : ℕ) → 1 + n + j / 4 ≡ (4 * (n + 1) + j) / 4
      word n j = omega arith

      rest : (n j : ℕ) → j % 4 ≡ (4 * (n + 1) + j) % 4
      rest n j = omega arith

between : (a b c : ℕ) → (nat_le a c && nat_le c b) ≡ true → (a ≤ c) × (c ≤ b)
between a b c h = go (nat_le a c) (nat_le c b) refl refl h
  where
    go : (x y : Bool) → nat_le a c ≡ x → nat_le c b ≡ y → (x && y) ≡ true → (a ≤ c) × (c ≤ b)
    go true true p q h = (grind (arith, nat_tests), grind (arith, nat_tests))
    go true false p q h = absurd (cc)
    go false y p q h = absurd (cc)

-- where a pc that lies in the method is, and what is there
pub record IsPlaceOf (os : List Object) (k : Kept) (w pc : ℕ) : Type 0 where
  pub first : first_pc (literals_of k) ≤ pc
  pub last : pc ≤ 4 * slot_count_of os w - unused_bytes (format_at os w) + 1
  pub above : 5 ≤ first_pc (literals_of k)

module _ (os : List Object) (k : Kept) (w : ℕ) (m : IsMethodAt os (method_of k) w) where
  first_of : first_pc (literals_of k) ≡ 4 * (literal_count (method_header m.object.words) + 1) + 1
  first_of = ap (λ o. first_pc (obj.literals_in o)) m.means ∙ first_is os (method_of k) w m

  codes_of : bytecodes_of k ≡ used_bytes m.object.format (code_in m.object.words)
  codes_of = ap obj.bytecodes_in m.means

  pub end_of : first_pc (literals_of k) + length (bytecodes_of k) ≡ 4 * slot_count_of os w - unused_bytes (format_at os w) + 1
  end_of = omega (arith, first_of, ap length codes_of, end_is os (method_of k) w m)

  pub place_of : (pc : ℕ) → lies_in (method_of k) pc ≡ true → IsPlaceOf os k w pc
  place_of pc h =
      let l = between (first_pc (map (ref_of os) (literal_words m.object.words))) (first_pc (map (ref_of os) (literal_words m.object.words)) + length (used_bytes m.object.format (code_in m.object.words))) pc
      (sym (ap (λ o. lies_in o pc) m.means) ∙ h) in
      record {
        first = omega (arith, l.0, first_of, first_is os (method_of k) w m);
        last = omega (arith, l.1, end_is os (method_of k) w m, first_is os (method_of k) w m);
        above = omega (arith, first_of);
      }

  pub byte_there : (pc : ℕ) → first_pc (literals_of k) ≤ pc → pc ≤ 4 * slot_count_of os w - unused_bytes (format_at os w) → slice_get (bytecodes_of k) (pc - first_pc (literals_of k)) ≡ Some (byte_of os w (pc - 1))
  byte_there pc from to =
      slice_get-get_or (bytecodes_of k) (pc - first_pc (literals_of k)) 0 (omega (arith, from, to, end_of))
      ∙ ap Some (ap (λ bs. get_or bs (pc - first_pc (literals_of k)) 0) codes_of
      ∙ code_byte os (method_of k) w m (pc - first_pc (literals_of k)) (omega (arith, from, to, end_of, ap length codes_of))
      ∙ ap (byte_of os w) (omega (arith, from, first_of)))

  pub byte_past : (pc : ℕ) → first_pc (literals_of k) ≤ pc → 4 * slot_count_of os w - unused_bytes (format_at os w) < pc → slice_get (bytecodes_of k) (pc - first_pc (literals_of k)) ≡ None
  byte_past pc from past = slice_get_past (bytecodes_of k) (pc - first_pc (literals_of k)) (omega (arith, from, past, end_of))

  -- byte i of the object, counted from the header, as it is before the end
  pub byte_ahead : (i end at : ℕ) → end ≡ 4 * slot_count_of os w - unused_bytes (format_at os w) → first_pc (literals_of k) + at ≡ i + 1 → byte_before os w i end ≡ get_or (bytecodes_of k) at 0
  byte_ahead i end at e place = go (nat_lt i end) refl
    where
      go : (b : Bool) → nat_lt i end ≡ b → (if b then byte_of os w i else 0) ≡ get_or (bytecodes_of k) at 0
      go true h =
          let less : i < end = grind (arith, nat_tests) in
          sym (ap (λ bs. get_or bs at 0) codes_of ∙ code_byte os (method_of k) w m at (omega (arith, less, e, place, end_of, ap length codes_of)) ∙ ap (byte_of os w) (omega (arith, place, first_of)))
      go false h =
          let past : end ≤ i = grind (arith, nat_tests) in
          sym (get_or_past (bytecodes_of k) at 0 (omega (arith, past, e, place, end_of)))
