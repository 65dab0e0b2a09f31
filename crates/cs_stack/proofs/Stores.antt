-- A store into an object that is no context.
use Rattle.std.proofs.Common.{◌≡◌, ◌≢◌, ℕ, ◌+◌, ◌*◌, ◌-◌, ◌/◌, ◌%◌, ◌<◌, ◌≤◌, Bool, true, false, refl, sym, ap, subst, ◌∙◌, Option, Some, None, option_map, List, [], ◌∷◌, zero, suc, length, map, drop, length-take, length-drop, length-set, arith, inl, inr, unwrap_or}
use Rattle.std.specs.Prelude.{◌&&◌, ◌==◌, if◌then◌else◌, nat_lt, nat_le, slice_get, slice_index}
use Rattle.std.specs.List.{AllPass}
use Rattle.std.specs.Option.{option_map_or}
use Rattle.std.specs.FinMap.{get, insert}
use Rattle.std.proofs.lemmas.List.{length-map}
use Rattle.std.proofs.lemmas.Bool.Decides.{eqb_tells, nat_tests}
use Rattle.cs_model.specs.Words.{small_value}
use Rattle.cs_word.specs.declared.Oop.{Oop}
use Rattle.cs_word.specs.declared.Kind.{Kind}
use Rattle.cs_word.specs.declared.Kind.TheVariants as kind
use Rattle.cs_word.specs.Word.{kind_of, natural_of_word}
use Rattle.cs_heap.specs.Format.{is_code}
use Rattle.cs_heap.specs.Object.{Memory, Object, at_index, birth_at, class_at, format_at, object_place, is_object, heap_object, set_word, slot_count_of, slot_set}
use Rattle.cs_heap.specs.Writes.{slot_stored, slots_stored}
use Rattle.cs_heap.proofs.Laws.{hash_of-with_slot, object_at-with_object_other, object_at-with_object_same, slot_count_of-with_slot, slot_of-with_slot_other_object, slot_of-with_slot_other_slot, used-with_slot}
use Rattle.cs_classes.specs.Meaning.{code_in, method_header, is_heap_context, kept_of, literal_words, meaning_at, method_meaning, obj_of, objects_of, ref_of, ref_of_kind, used_bytes}
use Rattle.cs_classes.specs.Sound.{IsWhole, is_reference, is_reference_kind}
use Rattle.cs_classes.proofs.Edits.{obj_of-set_literal, obj_of-set_word}
use Rattle.cs_classes.proofs.Heaps.{birth_of-object_at, is_object-object_at, object_there, set_word-IsEdit, slice_get-at_index_other, slice_get-at_index_same, stands, with_object-stands}
use Rattle.cs_classes.proofs.Objects.{objects_of-with_object}
use Rattle.cs_classes.proofs.Refs.{is_reference-with_object, ref_of-object, ref_of-with_object}
use Rattle.cs_classes.proofs.Sorts.{AContext, AMethod, Bytes, Pointers, Sort, not_pointers, obj_of-bytes, obj_of-context, obj_of-method, obj_of-pointers, sort_of}
use Rattle.cs_classes.proofs.Writes.{Does, does-set_literal, does-set_slot}
use Rattle.cs_model.specs.Ref.{Ref}
use Rattle.cs_model.specs.Ref as ref
use Rattle.cs_model.specs.Obj.{Context, Ctx, Method, Obj, Ptr, Raw, context_class, first_pc, is_context_at, lies_in, literal_count}
use Rattle.cs_model.specs.Obj as obj
use Rattle.cs_model.specs.Context.{closure_class, lies_if_index, lies_if_live}
use Rattle.cs_model.specs.State as state
use Rattle.cs_model.specs.State.{Kept, object_of, put}
use Rattle.cs_model.specs.Operation.{edit_found, edit_object, store_of}
use Rattle.cs_model.specs.Operation as operation
use Rattle.cs_acts.specs.Names.{IsNamed, KeepsNames, Store, name_of}
use Rattle.cs_acts.specs.Ready.{Holds, is_storable}
use Rattle.cs_frame.specs.Frame.{Frame, nil}
use Rattle.cs_frame.specs.Page.{frames_of}
use Rattle.cs_marriage.specs.Agree.{Agree, frame_size, header_at}
use Rattle.cs_marriage.specs.Place.{names_place}
use Rattle.cs_marriage.proofs.Laws.{agree_stored}
use Rattle.cs_acts.specs.Made.{contexts_in}
use Rattle.cs_stack.specs.declared.parts.Parts.{Parts}
use Rattle.cs_stack.specs.View.{active_in, active_page, bare, frame_context, frame_hash, frame_sender, frames_onto, is_linked, pages_onto, stored_of, unframed, view_of}
use Rattle.cs_stack.specs.Good.{FrameFits, FramesFit, HasSender, IsGood, Lacks, LinkFits, PcFits, SenderFits}
use Rattle.cs_stack.proofs.Maps.{Objects, get_apart}
use Rattle.cs_stack.proofs.Bare.{bare_apart, bare_at, bare_ref, bare_rest, bare_with_object, meaning_there, no_context, plain_unlinked, unlinked}
use Rattle.cs_stack.proofs.Framed.{insert_below}
use Rattle.cs_stack.proofs.Places.{plain_lacks}
use Rattle.cs_stack.proofs.Lives.{Lives, lives}
use Rattle.cs_stack.proofs.Closed.{good_sound, plain_there}
use Rattle.cs_stack.proofs.Writing.{rest-store}
use Rattle.cs_stack.proofs.Addresses.{nil_or-with_object, sender_fits-with_object}

-- an object that may be stored into, where it stands, and what the store does
pub record Storable (s : Store) (o : ℕ) (i v : ℕ) : Type 0 where
  pub x : Object
  pub there : heap_object s.memory.objects o ≡ Some x
  pub other : is_heap_context x ≡ false
  pub within : i < length x.words
  pub does : is_reference s.memory.objects v ≡ true → Does s.memory.objects (slot_set s.memory.objects o i v) s.table s.roots (λ k. store_of k (ref_of s.memory.objects o) i (ref_of s.memory.objects v))
  pub means : obj_of (ref_of s.memory.objects) (set_word i v x) ≡ operation.with_slot i (ref_of s.memory.objects v) (obj_of (ref_of s.memory.objects) x)
  pub lies : (pc : ℕ) → lies_in (Some (obj_of (ref_of s.memory.objects) (set_word i v x))) pc ≡ lies_in (Some (obj_of (ref_of s.memory.objects) x)) pc
  pub header : is_code x.format ≡ true → 0 < i

-- an address is the word itself
kind_address : (word a : ℕ) → kind_of word ≡ kind.Object a → a ≡ word
kind_address word a h = go (word % 2 == 1) (word % 4 == 2) (word % 8 == 0) h
  where
    go : (b c d : Bool) → (if b then kind.Small (small_value word) else (if c then kind.Character (word / 4) else (if d then kind.Object word else kind.Link word))) ≡ kind.Object a → a ≡ word
    go true c d e = absurd (cc)
    go false true d e = absurd (cc)
    go false false true e = sym (cc)
    go false false false e = absurd (cc)

-- a context has no slot that may be stored into
no_slots : (o : Option Obj) (i : ℕ) → is_context_at o ≡ true → is_storable o i ≡ true → ⊥
no_slots None i c s = absurd (cc)
no_slots (Some (Ptr head slots)) i c s = absurd (cc)
no_slots (Some (Raw head bytes)) i c s = absurd (cc)
no_slots (Some (Method head header literals bytecodes)) i c s = absurd (cc)
no_slots (Some (Ctx d)) i c s = absurd (cc)

module _ (s : Store) (k : Kept) (holds : Holds s k) (i v : ℕ) where
  abbrev os : List Object
  os = s.memory.objects

  by_sort : (o : ℕ) (x : Object) → heap_object os o ≡ Some x → Sort x → is_storable (Some (obj_of (ref_of os) x)) i ≡ true → Storable s o i v
  unfolding method_meaning
  by_sort o x there (AContext c) h = absurd (let e : is_storable (Some (obj_of (ref_of os) x)) i ≡ false = ap (λ y. is_storable (Some y) i) (obj_of-context (ref_of os) x c) in cc)
  by_sort o x there (Bytes a p m) h = absurd (let e : is_storable (Some (obj_of (ref_of os) x)) i ≡ false = ap (λ y. is_storable (Some y) i) (obj_of-bytes (ref_of os) x a p m) in cc)
  by_sort o x there (Pointers a p) h =
      let is = obj_of-pointers (ref_of os) x a p in
      let fits : nat_lt i (length (map (ref_of os) x.words)) ≡ true = ap (λ y. is_storable (Some y) i) (sym is) ∙ h in
      let means = obj_of-set_word (ref_of os) x i v a p in
      record {
        x = x;
        there = there;
        other = a;
        within = grind (arith, nat_tests, fits, length-map x.words (ref_of os));
        does = λ r. does-set_slot (record { whole = holds.whole; there = there }) i v a p r;
        means = means;
        lies = λ pc. ap (λ y. lies_in (Some y) pc) means ∙ ap (λ y. lies_in (Some (operation.with_slot i (ref_of os v) y)) pc) is ∙ sym (ap (λ y. lies_in (Some y) pc) is);
        header = λ m. absurd (let no = not_pointers x.format m in cc);
      }
  by_sort o x there (AMethod a p m) h =
      let is = obj_of-method (ref_of os) x a p m in
      let lits : List Ref = map (ref_of os) (literal_words x.words) in
      let fits : (nat_lt 0 i && nat_le i (length lits)) ≡ true = ap (λ y. is_storable (Some y) i) (sym is) ∙ h in
      let few = length-take (literal_count (method_header x.words)) (drop 1 x.words) in
      let long = length-map (literal_words x.words) (ref_of os) in
      let rest = length-drop 1 x.words in
      let low : 0 < i = grind (arith, nat_tests, fits) in
      let high : i ≤ literal_count (method_header x.words) = grind (arith, nat_tests, fits, few, long) in
      let means = obj_of-set_literal (ref_of os) x i v a m low high in
      record {
        x = x;
        there = there;
        other = a;
        within = grind (arith, nat_tests, fits, few, long, rest);
        does = λ r. does-set_literal (record { whole = holds.whole; there = there }) i v m low high r;
        means = means;
        lies = λ pc. ap (λ y. lies_in (Some y) pc) means ∙ ap (λ y. lies_in (Some (operation.with_slot i (ref_of os v) y)) pc) is
            ∙ ap (λ n. obj.lies_between (4 * (n + 1) + 1) (length (used_bytes x.format (code_in x.words))) pc) (length-set lits (i - 1) (ref_of os v))
            ∙ sym (ap (λ y. lies_in (Some y) pc) is);
        header = λ m. low;
      }

  at_address : (o : ℕ) → is_object os o ≡ true → is_storable (state.object_at k (birth_at os o)) i ≡ true → Storable s o i v
  at_address o there h =
      let x = object_there os o there in
      let at = stands os o x.0 x.1 in
      let birth = birth_of-object_at os o x.0 x.1 in
      go x.0 x.1 at.0 at.1.element (is_heap_context x.0) refl (subst (λ b. is_storable (state.object_at k b) i ≡ true) birth h)
    where
      go : (x : Object) → heap_object os o ≡ Some x → (j : ℕ) → slice_get os j ≡ Some x → (c : Bool) → is_heap_context x ≡ c → is_storable (state.object_at k x.birth) i ≡ true → Storable s o i v
      go x e j at true c h = absurd (no_slots _ i (holds.context j x at c) h)
      go x e j at false c h = by_sort o x e (sort_of x) (ap (λ y. is_storable y i) (sym (holds.object j x at c)) ∙ h)

  by_kind : (o : ℕ) (q : Kind) → kind_of o ≡ q → is_reference_kind os q ≡ true → is_storable (object_of k (ref_of_kind os q)) i ≡ true → Storable s o i v
  by_kind o (kind.Small z) e n h = absurd (cc)
  by_kind o (kind.Character c) e n h = absurd (cc)
  by_kind o (kind.Link l) e n h = absurd (cc)
  by_kind o (kind.Object a) e n h =
      let is : a ≡ o = kind_address o a e in
      at_address o (subst (λ b. is_object os b ≡ true) is n) (subst (λ b. is_storable (state.object_at k (birth_at os b)) i ≡ true) is h)

  pub storable : (o : Oop) → IsNamed s o → is_storable (object_of k (name_of s o)) i ≡ true → Storable s o.0 i v
  unfolding ref_of is_reference
  storable o named h = by_kind o.0 (kind_of o.0) refl named h

-- what is linked is a context
linked_context : (x : Object) → is_linked x ≡ true → is_heap_context x ≡ true
linked_context x h = go (is_heap_context x) refl h
  where
    go : (b : Bool) → is_heap_context x ≡ b → (b && names_place (slice_index x.words 0)) ≡ true → is_heap_context x ≡ true
    go true e h = e
    go false e h = absurd (cc)

-- ---- what stays

module _ (s : Store) (o i v : ℕ) (can : Storable s o i v) (whole : IsWhole s.memory.objects s.table s.roots) where
  abbrev old : List Object
  old = s.memory.objects

  abbrev pub new : List Object
  new = slot_set s.memory.objects o i v

  pub refers : ref_of new ≡ ref_of old
  refers = ref_of-with_object old o (set_word i v) (set_word-IsEdit i v)

  pub sound : is_reference new ≡ is_reference old
  sound = is_reference-with_object old o (set_word i v) (set_word-IsEdit i v)

  here : heap_object new o ≡ Some (set_word i v can.x)
  here = object_at-with_object_same old o (set_word i v) (set_word-IsEdit i v).slots ∙ ap (option_map (set_word i v)) can.there

  elsewhere : (m : ℕ) → m ≢ o → heap_object new m ≡ heap_object old m
  elsewhere m apart = object_at-with_object_other old o m (set_word i v) (set_word-IsEdit i v).slots (λ e. apart (sym e))

  -- a pc lies where it lay
  pub lies_kept : (m pc : ℕ) → lies_in (meaning_at new m) pc ≡ lies_in (meaning_at old m) pc
  lies_kept m pc = ap (λ r. lies_in (option_map (obj_of r) (heap_object new m)) pc) refers ∙ elim (eqb_tells m o) [
    | inl e ↦ ap (λ n. lies_in (option_map (obj_of (ref_of old)) (heap_object new n)) pc) e.1 ∙ ap (λ y. lies_in (option_map (obj_of (ref_of old)) y) pc) here
        ∙ can.lies pc ∙ sym (ap (λ y. lies_in (option_map (obj_of (ref_of old)) y) pc) can.there) ∙ ap (λ n. lies_in (meaning_at old n) pc) (sym e.1)
    | inr e ↦ ap (λ y. lies_in (option_map (obj_of (ref_of old)) y) pc) (elsewhere m e.1)
  ]

  pub index_kept : (m : ℕ) (at : Option ℕ) → lies_if_index (meaning_at new m) at ≡ lies_if_index (meaning_at old m) at
  index_kept m None = refl
  index_kept m (Some pc) = lies_kept m pc

  pub live_kept : (m : ℕ) (at : Option ℕ) → lies_if_live (meaning_at new m) at ≡ lies_if_live (meaning_at old m) at
  live_kept m None = refl
  live_kept m (Some pc) = lies_kept m pc

  -- the header of a method stays
  pub header_kept : (m : ℕ) (at : Option ℕ) → Lives old m at → header_at new m ≡ header_at old m
  header_kept m at l = ap (λ n. unwrap_or (natural_of_word n) 0) (elim (eqb_tells m o) [
    | inl e ↦
        let is : Some l.object ≡ Some can.x = sym l.there ∙ ap (heap_object old) e.1 ∙ can.there in
        let same : l.object ≡ can.x = cc in
        let low : 0 < i = can.header (ap (λ (y : Object). is_code y.format) (sym same) ∙ l.format) in
        slot_of-with_slot_other_slot old o i v m 0 (λ e. omega (arith, low, e))
    | inr e ↦ slot_of-with_slot_other_object old o i v m 0 (λ s. e.1 (sym s))
  ])

  pub size_kept : (next : ℕ) (f : Frame) (fs : List Frame) → FrameFits old next f fs → frame_size new f ≡ frame_size old f
  size_kept next f fs fits =
      ap (λ n. if f.context == nil then obj.context_size n else slot_count_of new f.context - 6) (header_kept f.method (natural_of_word f.saved_pc) (lives old f.method (natural_of_word f.saved_pc) fits.lies))
      ∙ ap (λ n. if f.context == nil then obj.context_size (header_at old f.method) else n - 6) (slot_count_of-with_slot old o i v f.context)

  hash_kept : (f : Frame) → frame_hash new f ≡ frame_hash old f
  hash_kept f = ap (λ n. if f.context == nil then 0 else n) (hash_of-with_slot old o i v f.context)

  sender_kept : (f : Frame) (fs : List Frame) → frame_sender new f fs ≡ frame_sender old f fs
  sender_kept f [] = ap (λ (r : ℕ → Ref). r f.caller) refers
  sender_kept f (g ∷ gs) = refl

  pub context_kept : (next : ℕ) (f : Frame) (fs : List Frame) → FrameFits old next f fs → frame_context new f fs ≡ frame_context old f fs
  unfolding frame_context
  context_kept next f fs fits =
      let at : ℕ → Ref → (ℕ → Ref) → ℕ → Context = λ hash sender r size. record { hash = hash; sender = sender; pc = natural_of_word f.saved_pc; method = r f.method; closure = r f.closure; receiver = r f.receiver; stack = map r f.stack; size = size } in
      ap (λ h. at h (frame_sender new f fs) (ref_of new) (frame_size new f)) (hash_kept f)
      ∙ ap (λ s. at (frame_hash old f) s (ref_of new) (frame_size new f)) (sender_kept f fs)
      ∙ ap (λ r. at (frame_hash old f) (frame_sender old f fs) r (frame_size new f)) refers
      ∙ ap (λ n. at (frame_hash old f) (frame_sender old f fs) (ref_of old) n) (size_kept next f fs fits)

  onto_kept : (next : ℕ) (fs : List Frame) (m : Objects) → FramesFit old next fs → frames_onto new fs m ≡ frames_onto old fs m
  unfolding frames_onto
  onto_kept next [] m fit = refl
  onto_kept next (f ∷ fs) m fit =
      ap (λ c. insert (frames_onto new fs m) f.birth (Ctx c)) (context_kept next f fs fit.0) ∙ ap (λ n. insert n f.birth (Ctx (frame_context old f fs))) (onto_kept next fs m fit.1)

  pub pages_kept : (next : ℕ) (ps : List (List Frame)) (m : Objects) → ((p : ℕ) → FramesFit old next (frames_of ps p)) → pages_onto new ps m ≡ pages_onto old ps m
  unfolding pages_onto
  pages_kept next [] m fit = refl
  pages_kept next (q ∷ qs) m fit = onto_kept next q (pages_onto new qs m) (fit 0) ∙ ap (frames_onto old q) (pages_kept next qs m (λ p. fit (suc p)))

  -- the heap without frames is written alike
  bare_new : bare new ≡ slot_set (bare old) o i v
  bare_new = bare_with_object old o can.x (set_word i v) (set_word i v) can.there
      (unlinked (set_word i v can.x) (plain_unlinked (set_word i v can.x) can.other) ∙ ap (set_word i v) (sym (unlinked can.x (plain_unlinked can.x can.other))))

  bare_there : heap_object (bare old) o ≡ Some can.x
  bare_there = bare_at old o ∙ ap (option_map unframed) can.there ∙ ap (λ y. Some y) (unlinked can.x (plain_unlinked can.x can.other))

  pub bare_objects : objects_of (bare new) ≡ insert (objects_of (bare old)) can.x.birth (obj_of (ref_of old) (set_word i v can.x))
  bare_objects = ap objects_of bare_new
      ∙ objects_of-with_object (bare old) o can.x (set_word i v) (set_word-IsEdit i v) (bare_apart old whole.heap.apart) bare_there
      ∙ ap (λ r. insert (objects_of (bare old)) can.x.birth (obj_of r (set_word i v can.x))) (bare_ref old)

  pub objects_new : objects_of new ≡ insert (objects_of old) can.x.birth (obj_of (ref_of old) (set_word i v can.x))
  objects_new = objects_of-with_object old o can.x (set_word i v) (set_word-IsEdit i v) whole.heap.apart can.there

  alone_kept : (birth : ℕ) → get (objects_of old) birth ≡ None → get (objects_of new) birth ≡ None
  alone_kept birth h =
      let apart : birth ≢ can.x.birth = λ e. let no : ◌≡◌ {A = Option Obj} None (Some (obj_of (ref_of old) can.x)) = sym h ∙ ap (get (objects_of old)) e ∙ meaning_there old o can.x whole.heap can.there in absurd (cc) in
      ap (λ (m : Objects). get m birth) objects_new ∙ get_apart (objects_of old) can.x.birth birth _ apart ∙ h

  has_sender : (f : Frame) (fs : List Frame) → HasSender old f fs → HasSender new f fs
  has_sender f [] h = ap (λ p. p f.caller) (nil_or-with_object context_class old o (set_word i v) (set_word-IsEdit i v)) ∙ h
  has_sender f (g ∷ gs) h = tt

  pub fits_kept : (next : ℕ) (fs : List Frame) → FramesFit old next fs → FramesFit new next fs
  fits_kept next [] fit = tt
  fits_kept next (f ∷ fs) fit =
      let h = fit.0 in (
        record {
          names = record {
            closure = ap (λ p. p f.closure) (nil_or-with_object closure_class old o (set_word i v) (set_word-IsEdit i v)) ∙ h.names.closure;
            receiver = ap (λ p. p f.receiver) sound ∙ h.names.receiver;
            stack = subst (λ p. AllPass p f.stack) (sym sound) h.names.stack;
          };
          lies = index_kept f.method (natural_of_word f.saved_pc) ∙ h.lies;
          fits = subst (λ n. length f.stack ≤ n) (sym (size_kept next f fs h)) h.fits;
          stands = h.stands;
          room = h.room;
          birth = h.birth;
          apart = h.apart;
          sender = has_sender f fs h.sender;
          alone = λ none. alone_kept f.birth (h.alone none);
        },
        fits_kept next fs fit.1,
      )

  -- each context was one before
  context_old : (j : ℕ) (y : Object) → slice_get new j ≡ Some y → is_heap_context y ≡ true → slice_get old j ≡ Some y
  context_old j y e c =
      let at = stands old o can.x can.there in
      let is : slice_get new j ≡ slice_get (at_index at.0 (set_word i v) old) j = ap (λ xs. slice_get xs j) (with_object-stands old o can.x at.0 (set_word i v) at.1) in
      elim (eqb_tells j at.0) [
        | inl h ↦
            let found : Some (set_word i v can.x) ≡ Some y =
            sym (slice_get-at_index_same at.0 (set_word i v) old ∙ ap (option_map (set_word i v)) at.1.element) ∙ ap (slice_get (at_index at.0 (set_word i v) old)) (sym h.1) ∙ sym is ∙ e in
            let same : set_word i v can.x ≡ y = cc in
            absurd (let no : true ≡ false = sym c ∙ ap is_heap_context (sym same) ∙ can.other in cc)
        | inr h ↦ sym (slice_get-at_index_other at.0 j (set_word i v) old (λ s. h.1 (sym s))) ∙ sym is ∙ e
      ]

  pub pcs_kept : ((j : ℕ) (y : Object) → slice_get old j ≡ Some y → is_heap_context y ≡ true → PcFits old y) → (j : ℕ) (y : Object) → slice_get new j ≡ Some y → is_heap_context y ≡ true → PcFits new y
  pcs_kept pcs j y e c = live_kept (slice_index y.words 3) (natural_of_word (slice_index y.words 1)) ∙ pcs j y (context_old j y e c) c

  pub senders_kept : ((j : ℕ) (y : Object) → slice_get old j ≡ Some y → is_heap_context y ≡ true → SenderFits old y) → (j : ℕ) (y : Object) → slice_get new j ≡ Some y → is_heap_context y ≡ true → SenderFits new y
  senders_kept senders j y e c = sender_fits-with_object old o (set_word i v) y (set_word-IsEdit i v) (senders j y (context_old j y e c) c)

  pub links_kept : ((j : ℕ) (y : Object) → slice_get old j ≡ Some y → is_linked y ≡ true → LinkFits y) → (j : ℕ) (y : Object) → slice_get new j ≡ Some y → is_linked y ≡ true → LinkFits y
  links_kept links j y e l = links j y (context_old j y e (linked_context y l)) l

  pub agree_kept : (ps : List (List Frame)) → Agree old ps → Agree new ps
  agree_kept ps agree =
      let class : class_at old o ≡ can.x.class = ap (λ (y : Option Object). option_map_or (λ (z : Object). z.class) y 0) can.there in
      let format : format_at old o ≡ can.x.format = ap (λ (y : Option Object). option_map_or (λ (z : Object). z.format) y 0) can.there in
      agree_stored old ps o i v agree
      (λ e. let is : (can.x.class == 36) ≡ true = grind (arith, nat_tests, class, e) in absurd (let no : true ≡ false = sym is ∙ can.other in cc))
      (λ m z. omega (arith, z, can.header (ap is_code (sym format) ∙ m.format)))

-- ---- the map behind a store of something that no frame hides

pub pages_insert : (xs : List Object) (ps : List (List Frame)) (m : Objects) (b : ℕ) (y : Obj) → ((p : ℕ) → Lacks b (frames_of ps p)) → pages_onto xs ps (insert m b y) ≡ insert (pages_onto xs ps m) b y
unfolding pages_onto
pages_insert xs [] m b y l = refl
pages_insert xs (q ∷ qs) m b y l = ap (frames_onto xs q) (pages_insert xs qs m b y (λ p. l (suc p))) ∙ sym (insert_below xs q (pages_onto xs qs m) b y (l 0))

-- ---- the world

abbrev pub with_heap : Parts → Memory → Parts
with_heap w h = record w { heap = h }

pub record StoredInto (w v : Parts) (o i x : ℕ) : Type 0 where
  pub good : IsGood v
  pub view : view_of v ≡ store_of (view_of w) (ref_of w.heap.objects o) i (ref_of w.heap.objects x)
  pub names : KeepsNames (stored_of w) (stored_of v)
  pub contexts : contexts_in v.heap.objects ≡ contexts_in w.heap.objects

-- a store makes no context
contexts_at_index : (k i v : ℕ) (os : List Object) → contexts_in (at_index k (set_word i v) os) ≡ contexts_in os
unfolding contexts_in at_index
contexts_at_index k i v [] = refl
contexts_at_index zero i v (x ∷ xs) = refl
contexts_at_index (suc k) i v (x ∷ xs) = ap (λ n. n + (if is_heap_context x then 1 else 0)) (contexts_at_index k i v xs)

contexts_with_slot : (os : List Object) (a i v : ℕ) → contexts_in (slot_set os a i v) ≡ contexts_in os
contexts_with_slot os a i v = go (object_place os a)
  where
    go : (k : Option ℕ) → contexts_in (option_map_or (λ k. at_index k (set_word i v) os) k os) ≡ contexts_in os
    go None = refl
    go (Some k) = contexts_at_index k i v os

module _ (w : Parts) (good : IsGood w) (o i x : ℕ) (can : Storable (stored_of w) o i x) (value : is_reference w.heap.objects x ≡ true) where
  abbrev us : List Object
  us = new (stored_of w) o i x can good.whole

  abbrev ps : List (List Frame)
  ps = w.frames

  abbrev active : Option ℕ
  active = active_in (active_page w)

  abbrev changed : Obj → Obj
  changed = operation.with_slot i (ref_of w.heap.objects x)

  abbrev was : Obj
  was = obj_of (ref_of w.heap.objects) can.x

  found : state.object_at (view_of w) can.x.birth ≡ Some was
  found = plain_there w good can.x.birth was (meaning_there w.heap.objects o can.x good.whole.heap can.there) (no_context (ref_of w.heap.objects) can.x can.other)

  store_is : store_of (view_of w) (ref_of w.heap.objects o) i (ref_of w.heap.objects x) ≡ put (view_of w) can.x.birth (changed was)
  unfolding store_of
  store_is =
      let name : ref_of w.heap.objects o ≡ ref.Obj can.x.birth = ref_of-object w.heap.objects o (is_object-object_at w.heap.objects o can.x can.there) ∙ ap (λ b. ref.Obj b) (birth_of-object_at w.heap.objects o can.x can.there) in
      ap (λ r. edit_object (view_of w) r changed) name ∙ ap (λ y. edit_found changed can.x.birth y (view_of w)) found

  map_is : pages_onto us ps (objects_of (bare us)) ≡ insert (pages_onto w.heap.objects ps (objects_of (bare w.heap.objects))) can.x.birth (changed was)
  map_is =
      pages_kept (stored_of w) o i x can good.whole w.roots.next_birth ps (objects_of (bare us)) good.frames
      ∙ ap (pages_onto w.heap.objects ps) (bare_objects (stored_of w) o i x can good.whole ∙ ap (insert (objects_of (bare w.heap.objects)) can.x.birth) can.means)
      ∙ pages_insert w.heap.objects ps (objects_of (bare w.heap.objects)) can.x.birth (changed was)
      (plain_lacks w good can.x.birth was (meaning_there w.heap.objects o can.x good.whole.heap can.there) (no_context (ref_of w.heap.objects) can.x can.other))

  pub stored_into : StoredInto w (with_heap w (slots_stored w.heap o us)) o i x
  unfolding put
  stored_into =
      let does = can.does value in
      let rest : (kept_of (bare us) w.classes w.roots active).rest ≡ (view_of w).rest =
      bare_rest us w.classes w.roots active
      ∙ ap (λ (k : Kept). k.rest) (does.kept active) ∙ rest-store (kept_of w.heap.objects w.classes w.roots active) (ref_of w.heap.objects o) i (ref_of w.heap.objects x)
      ∙ sym (bare_rest w.heap.objects w.classes w.roots active) in
      let at : Objects → state.Rest → Kept = λ m r. record { objects = m; rest = r } in
      record {
        good = record {
          whole = does.whole;
          within = subst (λ n. n ≤ w.heap.limit) (sym (used-with_slot w.heap.objects o i x)) good.within;
          most = good.most;
          births = good.births;
          pcs = pcs_kept (stored_of w) o i x can good.whole good.pcs;
          senders = senders_kept (stored_of w) o i x can good.whole good.senders;
          links = links_kept (stored_of w) o i x can good.whole good.links;
          agree = agree_kept (stored_of w) o i x can good.whole ps good.agree;
          frames = λ p. fits_kept (stored_of w) o i x can good.whole w.roots.next_birth (frames_of ps p) (good.frames p);
          apart = good.apart;
          total = good.total;
          order = good.order;
          used_pages = good.used_pages;
          chain = good.chain;
        };
        view = ap (λ m. at m (kept_of (bare us) w.classes w.roots active).rest) map_is
            ∙ ap (at (insert (pages_onto w.heap.objects ps (objects_of (bare w.heap.objects))) can.x.birth (changed was))) rest ∙ sym store_is;
        contexts = contexts_with_slot w.heap.objects o i x;
        names = λ p named. record {
          sound = ap (λ q. q p.0) (sound (stored_of w) o i x can good.whole) ∙ named;
          is = ap (λ r. r p.0) (refers (stored_of w) o i x can good.whole);
        };
      }

pub stored_by : (w : Parts) (good : IsGood w) (o v : Oop) (i : ℕ) (h : Memory) → IsNamed (stored_of w) o → IsNamed (stored_of w) v → is_storable (object_of (view_of w) (name_of (stored_of w) o)) i ≡ true
    → h ≡ slot_stored w.heap o.0 i v.0 → StoredInto w (with_heap w h) o.0 i v.0
stored_by w good o v i h object value there e =
    let can = storable (stored_of w) (view_of w) (good_sound w good).holds i v.0 o object there in
    subst (λ g. StoredInto w (with_heap w g) o.0 i v.0) (sym e) (stored_into w good o.0 i v.0 can value)

pub store_fits : (w : Parts) (good : IsGood w) (o : Oop) (v i : ℕ) → IsNamed (stored_of w) o → is_storable (object_of (view_of w) (name_of (stored_of w) o)) i ≡ true → i < slot_count_of w.heap.objects o.0
store_fits w good o v i object there =
    let can = storable (stored_of w) (view_of w) (good_sound w good).holds i v o object there in
    omega (arith, can.within, ap (λ (y : Option Object). option_map_or (λ (z : Object). length z.words) y 0) can.there)
