-- One object of the heap is edited, and keeps its class, its slots' count, and where it is a context its words: all frames are as they
-- were, but for the hash of its own, and the state is edited alike.
use Rattle.std.proofs.Common.{◌≡◌, ◌≢◌, ℕ, zero, suc, ◌+◌, ◌-◌, ◌<◌, ◌≤◌, Bool, true, false, refl, sym, ap, ap₂, subst, ◌∙◌, Option, Some, None, option_map, List, [], ◌∷◌, length, map, arith, inl, inr, unwrap_or}
use Rattle.std.specs.Prelude.{◌&&◌, ◌==◌, if◌then◌else◌, slice_get, slice_index}
use Rattle.std.specs.List.{AllPass}
use Rattle.std.specs.Option.{option_map_or}
use Rattle.std.specs.FinMap.{get, insert}
use Rattle.std.proofs.lemmas.Bool.{eq-eqb, ne_eqb}
use Rattle.std.proofs.lemmas.Bool.Decides.{eqb_tells}
use Rattle.cs_word.specs.Word.{natural_of_word}
use Rattle.cs_heap.specs.Format.{is_code}
use Rattle.cs_heap.specs.Object.{Memory, Object, at_index, birth_at, class_at, format_at, hash_at, heap_object, object_place, part_at, slot_count_of, slot_of, with_object}
use Rattle.cs_heap.proofs.Laws.{field_of-with_object_other, is_object-with_object, object_at-with_object_other, object_at-with_object_same, used-with_object}
use Rattle.cs_classes.specs.Meaning.{is_heap_context, kept_of, meaning_at, obj_of, objects_of, ref_of}
use Rattle.cs_classes.specs.Sound.{IsWhole, is_reference}
use Rattle.cs_classes.proofs.Heaps.{IsEdit, birth_of-object_at, birth_of-with_object, is_object-object_at, slice_get-at_index_other, slice_get-at_index_same, stands, with_object-stands}
use Rattle.cs_classes.proofs.Objects.{objects_of-with_object}
use Rattle.cs_classes.proofs.Refs.{class_of-with_object, format_of-with_object, is_reference-with_object, ref_of-object, ref_of-with_object, slot_count_of-with_object}
use Rattle.cs_classes.proofs.Wholes.{kept_of-with_object}
use Rattle.cs_frame.specs.Frame.{Frame, nil}
use Rattle.cs_frame.specs.Page.{frames_of}
use Rattle.cs_marriage.specs.Agree.{Agree, IsContextAt, IsMethodAt, frame_size, header_at}
use Rattle.cs_marriage.specs.Place.{names_place}
use Rattle.cs_marriage.proofs.Laws.{agree_like}
use Rattle.cs_marriage.proofs.Objects.{LikeContext, LikeMethod}
use Rattle.cs_model.specs.Ref.{Ref}
use Rattle.cs_model.specs.Ref as ref
use Rattle.cs_model.specs.Obj.{Context, Ctx, Obj, context_class, lies_in}
use Rattle.cs_model.specs.Obj as obj
use Rattle.cs_model.specs.Context.{closure_class, lies_if_index, lies_if_live}
use Rattle.cs_model.specs.State as state
use Rattle.cs_model.specs.State.{Kept, put}
use Rattle.cs_model.specs.Operation.{edit_found, edit_object}
use Rattle.cs_acts.specs.Made.{contexts_in}
use Rattle.cs_acts.specs.Names.{KeepsNames}
use Rattle.cs_stack.specs.declared.parts.Parts.{Parts}
use Rattle.cs_stack.specs.View.{active_in, active_page, bare, frame_context, frame_hash, frame_sender, is_linked, pages_onto, stored_of, unframed, view_of}
use Rattle.cs_stack.specs.Good.{FrameFits, FramesFit, HasSender, IsGood, LinkFits, PcFits, SenderFits}
use Rattle.cs_stack.proofs.Maps.{Objects, get_apart, get_here, same_at}
use Rattle.cs_stack.proofs.Addresses.{nil_or-with_object, sender_fits-with_object}
use Rattle.cs_stack.proofs.Bare.{bare_apart, bare_at, bare_element, bare_ref, bare_rest, bare_whole, bare_with_object, linked_context, meaning_there, unframed_birth}
use Rattle.cs_stack.proofs.Framed.{AllFit, Bare, Framed, IsOn, Which, all_fit, fits_on, onto_bare, onto_frame, which}
use Rattle.cs_stack.proofs.Places.{married_on}
use Rattle.cs_stack.proofs.Lives.{Lives, lives}
use Rattle.cs_stack.proofs.Acts.{body_by_birth}
use Rattle.cs_model.proofs.LeadOperation.{edit_object-rest}

-- The object x at an address is edited by f, and what it means by g: also where it is a context that had a frame, and counts as dead, and
-- where a frame is its body, which then has its hash.
pub record Alters (os : List Object) (a : ℕ) (f : Object → Object) (g : Obj → Obj) : Type 0 where
  pub x : Object
  pub there : heap_object os a ≡ Some x
  pub edit : IsEdit f
  pub context : is_heap_context x ≡ true → (f x).words ≡ x.words
  pub dead : unframed (f x) ≡ f (unframed x)
  pub means : obj_of (ref_of os) (f (unframed x)) ≡ g (obj_of (ref_of os) (unframed x))
  pub lies : (pc : ℕ) → lies_in (Some (obj_of (ref_of os) (f x))) pc ≡ lies_in (Some (obj_of (ref_of os) x)) pc
  pub header : is_code x.format ≡ true → slice_index (f x).words 0 ≡ slice_index x.words 0
  pub framed : is_heap_context x ≡ true → (c : Context) → g (Ctx c) ≡ Ctx (record c { hash = (f x).hash })

-- a context that was there before, with the same words
record Stood (os : List Object) (j : ℕ) (y : Object) : Type 0 where
  object : Object
  element : slice_get os j ≡ Some object
  context : is_heap_context object ≡ true
  words : y.words ≡ object.words

-- ---- the heap

module _ {os : List Object} {a : ℕ} {f : Object → Object} {g : Obj → Obj} (can : Alters os a f g) where
  abbrev us : List Object
  us = with_object os a f

  pub refers : ref_of (with_object os a f) ≡ ref_of os
  refers = ref_of-with_object os a f can.edit

  pub sound : is_reference (with_object os a f) ≡ is_reference os
  sound = is_reference-with_object os a f can.edit

  changed_here : heap_object us a ≡ Some (f can.x)
  changed_here = object_at-with_object_same os a f can.edit.slots ∙ ap (option_map f) can.there

  elsewhere : (m : ℕ) → m ≢ a → heap_object us m ≡ heap_object os m
  elsewhere m apart = object_at-with_object_other os a m f can.edit.slots (λ e. apart (sym e))

  part_here : (part : Object → ℕ) → part_at part os a ≡ part can.x
  part_here part = ap (λ (o : Option Object). option_map_or part o 0) can.there

  part_changed : (part : Object → ℕ) → part_at part us a ≡ part (f can.x)
  part_changed part = ap (λ (o : Option Object). option_map_or part o 0) changed_here

  -- ---- what frames read of it

  lies_kept : (m pc : ℕ) → lies_in (meaning_at us m) pc ≡ lies_in (meaning_at os m) pc
  lies_kept m pc = ap (λ r. lies_in (option_map (obj_of r) (heap_object us m)) pc) refers ∙ elim (eqb_tells m a) [
    | inl e ↦ ap (λ n. lies_in (option_map (obj_of (ref_of os)) (heap_object us n)) pc) e.1 ∙ ap (λ y. lies_in (option_map (obj_of (ref_of os)) y) pc) changed_here
        ∙ can.lies pc ∙ sym (ap (λ y. lies_in (option_map (obj_of (ref_of os)) y) pc) can.there) ∙ ap (λ n. lies_in (meaning_at os n) pc) (sym e.1)
    | inr e ↦ ap (λ y. lies_in (option_map (obj_of (ref_of os)) y) pc) (elsewhere m e.1)
  ]

  index_kept : (m : ℕ) (at : Option ℕ) → lies_if_index (meaning_at us m) at ≡ lies_if_index (meaning_at os m) at
  index_kept m None = refl
  index_kept m (Some pc) = lies_kept m pc

  live_kept : (m : ℕ) (at : Option ℕ) → lies_if_live (meaning_at us m) at ≡ lies_if_live (meaning_at os m) at
  live_kept m None = refl
  live_kept m (Some pc) = lies_kept m pc

  slot_kept : (m i : ℕ) → (m ≡ a → slice_index (f can.x).words i ≡ slice_index can.x.words i) → slot_of us m i ≡ slot_of os m i
  slot_kept m i same = elim (eqb_tells m a) [
    | inl e ↦ ap (λ n. slot_of us n i) e.1 ∙ part_changed (λ y. slice_index y.words i) ∙ same e.1 ∙ sym (ap (λ n. slot_of os n i) e.1 ∙ part_here (λ y. slice_index y.words i))
    | inr e ↦ field_of-with_object_other (λ y. slice_index y.words i) os a m f can.edit.slots (λ s. e.1 (sym s))
  ]

  header_word : (m : ℕ) → is_code (format_at os m) ≡ true → slot_of us m 0 ≡ slot_of os m 0
  header_word m code = slot_kept m 0 (λ e. can.header (ap is_code (sym (part_here (λ y. y.format)) ∙ ap (format_at os) (sym e)) ∙ code))

  context_word : (m i : ℕ) → class_at os m ≡ 36 → slot_of us m i ≡ slot_of os m i
  context_word m i class = slot_kept m i (λ e. ap (λ ws. slice_index ws i) (can.context (eq-eqb can.x.class 36 (sym (part_here (λ y. y.class)) ∙ ap (class_at os) (sym e) ∙ class))))

  pub agree_kept : (ps : List (List Frame)) → Agree os ps → Agree (with_object os a f) ps
  agree_kept ps agree =
      agree_like os us ps agree (is_object-with_object os a nil f can.edit.slots ∙ agree.nil_there) (class_of-with_object os a nil f can.edit)
      (λ m is. record {
        format = format_of-with_object os a m f can.edit;
        count = slot_count_of-with_object os a m f can.edit;
        header = header_word m is.format;
      })
      (λ c at. record {
        class = class_of-with_object os a c f can.edit;
        format = format_of-with_object os a c f can.edit;
        birth = birth_of-with_object os a c f can.edit;
        count = slot_count_of-with_object os a c f can.edit;
        place = context_word c 0 at.class;
        method = context_word c 3 at.class;
        closure = context_word c 4 at.class;
        receiver = context_word c 5 at.class;
      })

  header_kept : (m : ℕ) (at : Option ℕ) → Lives os m at → header_at us m ≡ header_at os m
  header_kept m at l =
      ap (λ n. unwrap_or (natural_of_word n) 0) (header_word m (ap is_code (ap (λ (o : Option Object). option_map_or (λ (y : Object). y.format) o 0) l.there) ∙ l.format))

  size_kept : (next : ℕ) (fr : Frame) (fs : List Frame) → FrameFits os next fr fs → frame_size us fr ≡ frame_size os fr
  size_kept next fr fs fits =
      ap (λ n. if fr.context == nil then obj.context_size n else slot_count_of us fr.context - 6) (header_kept fr.method (natural_of_word fr.saved_pc) (lives os fr.method (natural_of_word fr.saved_pc) fits.lies))
      ∙ ap (λ n. if fr.context == nil then obj.context_size (header_at os fr.method) else n - 6) (slot_count_of-with_object os a fr.context f can.edit)

  sender_kept : (fr : Frame) (fs : List Frame) → frame_sender us fr fs ≡ frame_sender os fr fs
  sender_kept fr [] = ap (λ (r : ℕ → Ref). r fr.caller) refers
  sender_kept fr (h ∷ hs) = refl

  -- the context that a frame is changes in its hash alone
  context_alike : (next : ℕ) (fr : Frame) (fs : List Frame) → FrameFits os next fr fs → frame_context us fr fs ≡ record (frame_context os fr fs) { hash = frame_hash us fr }
  unfolding frame_context
  context_alike next fr fs fits =
      let at : Ref → (ℕ → Ref) → ℕ → Context = λ sender r size. record { hash = frame_hash us fr; sender = sender; pc = natural_of_word fr.saved_pc; method = r fr.method; closure = r fr.closure; receiver = r fr.receiver; stack = map r fr.stack; size = size } in
      ap (λ s. at s (ref_of us) (frame_size us fr)) (sender_kept fr fs)
      ∙ ap (λ r. at (frame_sender os fr fs) r (frame_size us fr)) refers
      ∙ ap (λ n. at (frame_sender os fr fs) (ref_of os) n) (size_kept next fr fs fits)

  hash_apart : (fr : Frame) → (fr.context ≢ nil → fr.context ≢ a) → frame_hash us fr ≡ frame_hash os fr
  hash_apart fr apart = elim (eqb_tells fr.context nil) [
    | inl e ↦ ap (λ b. if b then 0 else hash_at us fr.context) e.0 ∙ sym (ap (λ b. if b then 0 else hash_at os fr.context) e.0)
    | inr e ↦ ap (λ n. if fr.context == nil then 0 else n) (field_of-with_object_other (λ y. y.hash) os a fr.context f can.edit.slots (λ s. apart e.1 (sym s)))
  ]

  -- that of any other context stays
  pub context_apart : (next : ℕ) (fr : Frame) (fs : List Frame) → FrameFits os next fr fs → (fr.context ≢ nil → fr.context ≢ a) → frame_context (with_object os a f) fr fs ≡ frame_context os fr fs
  unfolding frame_context
  context_apart next fr fs fits apart = context_alike next fr fs fits ∙ ap (λ h. record (frame_context os fr fs) { hash = h }) (hash_apart fr apart)

  -- and that of its own is edited as it is
  pub context_edited : (next : ℕ) (fr : Frame) (fs : List Frame) → FrameFits os next fr fs → fr.context ≢ nil → fr.context ≡ a → is_heap_context can.x ≡ true
      → Ctx (frame_context (with_object os a f) fr fs) ≡ g (Ctx (frame_context os fr fs))
  context_edited next fr fs fits some is context =
      let hash : frame_hash us fr ≡ (f can.x).hash = ap (λ b. if b then 0 else hash_at us fr.context) (ne_eqb fr.context nil some) ∙ ap (hash_at us) is ∙ part_changed (λ y. y.hash) in
      ap (λ c. Ctx c) (context_alike next fr fs fits ∙ ap (λ h. record (frame_context os fr fs) { hash = h }) hash) ∙ sym (can.framed context (frame_context os fr fs))

  -- ---- what holds of contexts

  stood : (j : ℕ) (y : Object) → slice_get us j ≡ Some y → is_heap_context y ≡ true → Stood os j y
  stood j y e c =
      let at = stands os a can.x can.there in
      let is : slice_get us j ≡ slice_get (at_index at.0 f os) j = ap (λ xs. slice_get xs j) (with_object-stands os a can.x at.0 f at.1) in
      elim (eqb_tells j at.0) [
        | inl h ↦
            let found : Some (f can.x) ≡ Some y = sym (slice_get-at_index_same at.0 f os ∙ ap (option_map f) at.1.element) ∙ ap (slice_get (at_index at.0 f os)) (sym h.1) ∙ sym is ∙ e in
            let same : f can.x ≡ y = cc in
            let context : is_heap_context can.x ≡ true = ap (λ n. n == 36) (sym (can.edit.class can.x) ∙ ap (λ (z : Object). z.class) same) ∙ c in
            record { object = can.x; element = ap (slice_get os) h.1 ∙ at.1.element; context = context; words = ap (λ (z : Object). z.words) (sym same) ∙ can.context context }
        | inr h ↦ record { object = y; element = sym (slice_get-at_index_other at.0 j f os (λ s. h.1 (sym s))) ∙ sym is ∙ e; context = c; words = refl }
      ]

  pub pcs_kept : ((j : ℕ) (y : Object) → slice_get os j ≡ Some y → is_heap_context y ≡ true → PcFits os y)
      → (j : ℕ) (y : Object) → slice_get (with_object os a f) j ≡ Some y → is_heap_context y ≡ true → PcFits (with_object os a f) y
  pcs_kept pcs j y e c =
      let was = stood j y e c in
      subst (λ ws. lies_if_live (meaning_at us (slice_index ws 3)) (natural_of_word (slice_index ws 1)) ≡ true) (sym was.words)
      (live_kept (slice_index was.object.words 3) (natural_of_word (slice_index was.object.words 1)) ∙ pcs j was.object was.element was.context)

  pub senders_kept : ((j : ℕ) (y : Object) → slice_get os j ≡ Some y → is_heap_context y ≡ true → SenderFits os y)
      → (j : ℕ) (y : Object) → slice_get (with_object os a f) j ≡ Some y → is_heap_context y ≡ true → SenderFits (with_object os a f) y
  senders_kept senders j y e c =
      let was = stood j y e c in
      subst (λ ws. SenderFits us (record y { words = ws })) (sym was.words) (sender_fits-with_object os a f was.object can.edit (senders j was.object was.element was.context))

  pub links_kept : ((j : ℕ) (y : Object) → slice_get os j ≡ Some y → is_linked y ≡ true → LinkFits y)
      → (j : ℕ) (y : Object) → slice_get (with_object os a f) j ≡ Some y → is_linked y ≡ true → LinkFits y
  links_kept links j y e l =
      let c = linked_context y l in
      let was = stood j y e c in
      let linked : is_linked was.object ≡ true = ap₂ (λ (b : Bool) (ws : List ℕ). b && names_place (slice_index ws 0)) (was.context ∙ sym c) (sym was.words) ∙ l in
      subst (λ ws. (slice_index ws 1 ≡ nil) × (slice_index ws 2 ≡ nil)) (sym was.words) (links j was.object was.element linked)

-- ---- contexts

contexts_at_index : (k : ℕ) (f : Object → Object) (os : List Object) → IsEdit f → contexts_in (at_index k f os) ≡ contexts_in os
unfolding contexts_in at_index
contexts_at_index k f [] edit = refl
contexts_at_index zero f (x ∷ xs) edit = ap (λ n. contexts_in xs + (if n == 36 then 1 else 0)) (edit.class x)
contexts_at_index (suc k) f (x ∷ xs) edit = ap (λ n. n + (if is_heap_context x then 1 else 0)) (contexts_at_index k f xs edit)

pub contexts_with_object : (os : List Object) (a : ℕ) (f : Object → Object) → IsEdit f → contexts_in (with_object os a f) ≡ contexts_in os
contexts_with_object os a f edit = go (object_place os a)
  where
    go : (k : Option ℕ) → contexts_in (option_map_or (λ k. at_index k f os) k os) ≡ contexts_in os
    go None = refl
    go (Some k) = contexts_at_index k f os edit

-- ---- the world

-- a frame of the birth of an object is the body of that
pub record IsBody (w : Parts) (a : ℕ) (x : Object) (fr : Frame) : Type 0 where
  pub some : fr.context ≢ nil
  pub is : fr.context ≡ a
  pub context : is_heap_context x ≡ true

pub body : (w : Parts) → IsGood w → (a : ℕ) (x : Object) → heap_object w.heap.objects a ≡ Some x → (p : ℕ) (fr : Frame) (gs : List Frame) → IsOn fr gs (frames_of w.frames p) → x.birth ≡ fr.birth → IsBody w a x fr
body w good a x there p fr gs on same =
    let os = w.heap.objects in
    let fits = fits_on os w.roots.next_birth on (good.frames p) in
    let some : fr.context ≢ nil = λ e. let no : ◌≡◌ {A = Option Obj} None (Some (obj_of (ref_of os) x)) = sym (fits.alone e) ∙ ap (get (objects_of os)) (sym same) ∙ meaning_there os a x good.whole.heap there in absurd (cc) in
    let is = body_by_birth w a p x good there on same in
    let married = married_on w good p on some in
    record {
      some = some;
      is = is;
      context = eq-eqb x.class 36 (sym (ap (λ (o : Option Object). option_map_or (λ (y : Object). y.class) o 0) there) ∙ ap (class_at os) (sym is) ∙ married.context.class);
    }

-- an object of a world is edited by f, and g is what the model does
pub record Altered (w v : Parts) (a : ℕ) (g : Obj → Obj) : Type 0 where
  pub good : IsGood v
  pub view : view_of v ≡ edit_object (view_of w) (ref_of w.heap.objects a) g
  pub names : KeepsNames (stored_of w) (stored_of v)
  pub contexts : contexts_in v.heap.objects ≡ contexts_in w.heap.objects

abbrev pub edited : Parts → ℕ → (Object → Object) → Parts
edited w a f = record w { heap = record w.heap { objects = with_object w.heap.objects a f } }

module _ (w : Parts) (good : IsGood w) (a : ℕ) (f : Object → Object) (g : Obj → Obj) (can : Alters w.heap.objects a f g)
    (whole : IsWhole (with_object w.heap.objects a f) w.classes w.roots) where
  abbrev os : List Object
  os = w.heap.objects

  abbrev new : List Object
  new = with_object w.heap.objects a f

  abbrev ps : List (List Frame)
  ps = w.frames

  abbrev next : ℕ
  next = w.roots.next_birth

  abbrev active : Option ℕ
  active = active_in (active_page w)

  alone_kept : (birth : ℕ) → get (objects_of os) birth ≡ None → get (objects_of new) birth ≡ None
  alone_kept birth h =
      let apart : birth ≢ can.x.birth = λ e. let no : ◌≡◌ {A = Option Obj} None (Some (obj_of (ref_of os) can.x)) = sym h ∙ ap (get (objects_of os)) e ∙ meaning_there os a can.x good.whole.heap can.there in absurd (cc) in
      ap (λ (m : Objects). get m birth) (objects_of-with_object os a can.x f can.edit good.whole.heap.apart can.there) ∙ get_apart (objects_of os) can.x.birth birth _ apart ∙ h

  has_sender : (fr : Frame) (fs : List Frame) → HasSender os fr fs → HasSender new fr fs
  has_sender fr [] h = ap (λ p. p fr.caller) (nil_or-with_object context_class os a f can.edit) ∙ h
  has_sender fr (e ∷ es) h = tt

  fits_kept : (fs : List Frame) → FramesFit os next fs → FramesFit new next fs
  fits_kept [] fit = tt
  fits_kept (fr ∷ fs) fit =
      let h = fit.0 in (
        record {
          names = record {
            closure = ap (λ p. p fr.closure) (nil_or-with_object closure_class os a f can.edit) ∙ h.names.closure;
            receiver = ap (λ p. p fr.receiver) (sound can) ∙ h.names.receiver;
            stack = subst (λ p. AllPass p fr.stack) (sym (sound can)) h.names.stack;
          };
          lies = index_kept can fr.method (natural_of_word fr.saved_pc) ∙ h.lies;
          fits = subst (λ n. length fr.stack ≤ n) (sym (size_kept can next fr fs h)) h.fits;
          stands = h.stands;
          room = h.room;
          birth = h.birth;
          apart = h.apart;
          sender = has_sender fr fs h.sender;
          alone = λ none. alone_kept fr.birth (h.alone none);
        },
        fits_kept fs fit.1,
      )

  all_kept : AllFit new next ps
  all_kept = record { frames = λ p. fits_kept (frames_of ps p) (good.frames p); apart = good.apart }

  -- ---- the map

  abbrev before : Objects
  before = pages_onto os ps (objects_of (bare os))

  abbrev after : Objects
  after = pages_onto new ps (objects_of (bare new))

  bare_there : heap_object (bare os) a ≡ Some (unframed can.x)
  bare_there = bare_at os a ∙ ap (option_map unframed) can.there

  bare_new : bare new ≡ with_object (bare os) a f
  bare_new = bare_with_object os a can.x f f can.there can.dead

  bare_means : obj_of (ref_of (bare os)) (f (unframed can.x)) ≡ g (obj_of (ref_of (bare os)) (unframed can.x))
  bare_means = subst (λ r. obj_of r (f (unframed can.x)) ≡ g (obj_of r (unframed can.x))) (sym (bare_ref os)) can.means

  bare_objects : objects_of (bare new) ≡ insert (objects_of (bare os)) can.x.birth (g (obj_of (ref_of os) (unframed can.x)))
  bare_objects = ap objects_of bare_new
      ∙ objects_of-with_object (bare os) a (unframed can.x) f can.edit (bare_apart os good.whole.heap.apart) bare_there
      ∙ ap₂ (insert (objects_of (bare os))) (unframed_birth can.x) (ap (λ r. obj_of r (f (unframed can.x))) (bare_ref os) ∙ can.means)

  -- what stood at its birth, and what does now
  record Found : Type 0 where
    was : Obj
    old : get before can.x.birth ≡ Some was
    new : get after can.x.birth ≡ Some (g was)

  found : Found
  found = go (which can.x.birth ps)
    where
      go : Which can.x.birth ps → Found
      go (Bare l) =
          let s = stands os a can.x can.there in
          record {
            was = obj_of (ref_of os) (unframed can.x);
            old = onto_bare os ps (objects_of (bare os)) can.x.birth l ∙ bare_element os s.0 can.x good.whole.heap s.1.element;
            new = onto_bare new ps (objects_of (bare new)) can.x.birth l ∙ ap (λ (m : Objects). get m can.x.birth) bare_objects ∙ get_here (objects_of (bare os)) can.x.birth _;
          }
      go (Framed p fr gs on same) =
          let b = body w good a can.x can.there p fr gs on same in
          record {
            was = Ctx (frame_context os fr gs);
            old = ap (get before) same ∙ onto_frame os next ps (objects_of (bare os)) p (all_fit w good) on;
            new = ap (get after) same ∙ onto_frame new next ps (objects_of (bare new)) p all_kept on
                ∙ ap (λ y. Some y) (context_edited can next fr gs (fits_on os next on (good.frames p)) b.some b.is b.context);
          }

  elsewhere_kept : (q : ℕ) → q ≢ can.x.birth → get after q ≡ get before q
  elsewhere_kept q off = go (which q ps)
    where
      go : Which q ps → get after q ≡ get before q
      go (Bare l) = onto_bare new ps (objects_of (bare new)) q l ∙ ap (λ (m : Objects). get m q) bare_objects ∙ get_apart (objects_of (bare os)) can.x.birth q _ off
          ∙ sym (onto_bare os ps (objects_of (bare os)) q l)
      go (Framed p fr gs on same) =
          let apart : fr.context ≢ nil → fr.context ≢ a = λ some e. off (same ∙ sym (married_on w good p on some).birth ∙ ap (birth_at os) e ∙ birth_of-object_at os a can.x can.there) in
          ap (get after) same ∙ onto_frame new next ps (objects_of (bare new)) p all_kept on
          ∙ ap (λ c. Some (Ctx c)) (context_apart can next fr gs (fits_on os next on (good.frames p)) apart)
          ∙ sym (ap (get before) same ∙ onto_frame os next ps (objects_of (bare os)) p (all_fit w good) on)

  map_is : after ≡ insert before can.x.birth (g found.was)
  map_is = same_at after (insert before can.x.birth (g found.was)) can.x.birth (found.new ∙ sym (get_here before can.x.birth _))
      (λ q off. elsewhere_kept q off ∙ sym (get_apart before can.x.birth q _ off))

  edit_is : edit_object (view_of w) (ref_of os a) g ≡ put (view_of w) can.x.birth (g found.was)
  edit_is =
      let name : ref_of os a ≡ ref.Obj can.x.birth = ref_of-object os a (is_object-object_at os a can.x can.there) ∙ ap (λ b. ref.Obj b) (birth_of-object_at os a can.x can.there) in
      ap (λ r. edit_object (view_of w) r g) name ∙ ap (λ y. edit_found g can.x.birth y (view_of w)) found.old

  rest_is : (kept_of (bare new) w.classes w.roots active).rest ≡ (view_of w).rest
  rest_is =
      ap (λ (xs : List Object). (kept_of xs w.classes w.roots active).rest) bare_new
      ∙ ap (λ (k : Kept). k.rest) (kept_of-with_object (bare os) w.classes w.roots active a (unframed can.x) f g can.edit (bare_whole os w.classes w.roots good.whole).heap bare_there bare_means)
      ∙ edit_object-rest (kept_of (bare os) w.classes w.roots active) (ref.Obj (birth_at (bare os) a)) g

  pub altered : Altered w (edited w a f) a g
  unfolding put
  altered =
      let at : Objects → state.Rest → Kept = λ m r. record { objects = m; rest = r } in
      record {
        good = record {
          whole = whole;
          within = subst (λ n. n ≤ w.heap.limit) (sym (used-with_object os a f can.edit.slots)) good.within;
          most = good.most;
          births = good.births;
          pcs = pcs_kept can good.pcs;
          senders = senders_kept can good.senders;
          links = links_kept can good.links;
          agree = agree_kept can ps good.agree;
          frames = all_kept.frames;
          apart = good.apart;
          total = good.total;
          order = good.order;
          used_pages = good.used_pages;
          chain = good.chain;
        };
        view = ap (λ m. at m (kept_of (bare new) w.classes w.roots active).rest) map_is
            ∙ ap (at (insert before can.x.birth (g found.was))) rest_is ∙ sym edit_is;
        contexts = contexts_with_object os a f can.edit;
        names = λ p named. record { sound = ap (λ q. q p.0) (sound can) ∙ named; is = ap (λ r. r p.0) (refers can) };
      }
