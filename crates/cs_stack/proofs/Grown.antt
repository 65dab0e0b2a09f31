-- One object more stands in the heap: what frames and contexts say of it stays.
use Rattle.std.proofs.Common.{◌≡◌, ◌≢◌, ℕ, suc, ◌+◌, ◌*◌, ◌-◌, ◌<◌, ◌⊎◌, true, false, refl, sym, ap, subst, ◌∙◌, Option, Some, None, option_map, List, [], ◌∷◌, ◌++◌, length, arith, inl, inr, get_or}
use Rattle.std.specs.Prelude.{◌==◌, if◌then◌else◌, slice_get, slice_index}
use Rattle.std.specs.List.{AllPass}
use Rattle.std.specs.FinMap.{get, insert}
use Rattle.std.proofs.lemmas.Bool.{cases_eq, eq-eqb}
use Rattle.std.proofs.lemmas.List.{length-map}
use Rattle.cs_word.specs.Word.{natural_of_word}
use Rattle.cs_heap.specs.Object.{Object, heap_object, hash_at}
use Rattle.cs_heap.proofs.Laws.{field_of-old, object_at-old}
use Rattle.cs_classes.specs.Meaning.{code_in, is_heap_context, literal_words, meaning_at, obj_of, objects_of, ref_of, used_bytes}
use Rattle.cs_classes.specs.Sound.{is_reference}
use Rattle.cs_classes.proofs.Heaps.{is_object-object_at, object_at-push, slice_get-push}
use Rattle.cs_classes.proofs.Objects.{objects_of-push}
use Rattle.cs_classes.proofs.Refs.{is_reference-object, is_reference-push, ref_of-push}
use Rattle.cs_classes.proofs.Sorts.{AContext, AMethod, Bytes, Pointers, Sort, map_alike, obj_of-bytes, obj_of-context, obj_of-method, obj_of-pointers, sort_of}
use Rattle.cs_classes.proofs.Wholes.{next_is_fresh, obj_of-push}
use Rattle.cs_frame.specs.Frame.{Frame, nil}
use Rattle.cs_frame.specs.Page.{frames_of}
use Rattle.cs_marriage.specs.Agree.{frame_size}
use Rattle.cs_marriage.proofs.Agreeing.{size_none, size_some}
use Rattle.cs_marriage.proofs.Objects.{context_like, context_there, header_same, method_like, method_there}
use Rattle.cs_model.specs.Ref.{Ref}
use Rattle.cs_model.specs.Obj.{Ctx, context_class, context_size, lies_between, lies_in}
use Rattle.cs_model.specs.Context.{closure_class, lies_if_index, lies_if_live}
use Rattle.cs_stack.specs.declared.parts.Parts.{Parts}
use Rattle.cs_stack.specs.View.{frame_context, frame_hash, frame_sender, frames_onto, is_linked, pages_onto}
use Rattle.cs_stack.specs.Good.{FrameFits, FramesFit, HasSender, IsGood, Lacks, LinkFits, PcFits, SenderFits}
use Rattle.cs_stack.proofs.Maps.{Objects, get_apart}
use Rattle.cs_stack.proofs.Lives.{Lives, lives, lives_if_live}
use Rattle.cs_stack.proofs.Framed.{IsOn, above, fits_on, here}
use Rattle.cs_stack.proofs.Places.{agreed}
use Rattle.cs_stack.proofs.Addresses.{nil_or-push, nil_or_named, sender_fits-push}

-- ---- the map of frames that are the same contexts

onto_same : (os us : List Object) (fs : List Frame) (m : Objects) → ((f : Frame) (gs : List Frame) → IsOn f gs fs → frame_context us f gs ≡ frame_context os f gs)
    → frames_onto us fs m ≡ frames_onto os fs m
unfolding frames_onto
onto_same os us [] m same = refl
onto_same os us (f ∷ fs) m same =
    ap (λ c. insert (frames_onto us fs m) f.birth (Ctx c)) (same f fs here)
    ∙ ap (λ n. insert n f.birth (Ctx (frame_context os f fs))) (onto_same os us fs m (λ g gs on. same g gs (above f fs on)))

pub pages_same : (os us : List Object) (ps : List (List Frame)) (m : Objects)
    → ((p : ℕ) (f : Frame) (gs : List Frame) → IsOn f gs (frames_of ps p) → frame_context us f gs ≡ frame_context os f gs)
    → pages_onto us ps m ≡ pages_onto os ps m
unfolding pages_onto
pages_same os us [] m same = refl
pages_same os us (q ∷ qs) m same = onto_same os us q (pages_onto us qs m) (same 0) ∙ ap (frames_onto os q) (pages_same os us qs m (λ p. same (suc p)))

-- ---- places in methods

-- where a pc lies doesn't depend on what the literals mean
lies_alike : (r s : ℕ → Ref) (x : Object) (pc : ℕ) → lies_in (Some (obj_of r x)) pc ≡ lies_in (Some (obj_of s x)) pc
lies_alike r s x pc = go (sort_of x)
  where
    go : Sort x → lies_in (Some (obj_of r x)) pc ≡ lies_in (Some (obj_of s x)) pc
    go (AContext c) = ap (λ o. lies_in (Some o) pc) (obj_of-context r x c) ∙ sym (ap (λ o. lies_in (Some o) pc) (obj_of-context s x c))
    go (Pointers a p) = ap (λ o. lies_in (Some o) pc) (obj_of-pointers r x a p) ∙ sym (ap (λ o. lies_in (Some o) pc) (obj_of-pointers s x a p))
    go (Bytes a p m) = ap (λ o. lies_in (Some o) pc) (obj_of-bytes r x a p m) ∙ sym (ap (λ o. lies_in (Some o) pc) (obj_of-bytes s x a p m))
    go (AMethod a p m) =
        ap (λ o. lies_in (Some o) pc) (obj_of-method r x a p m)
        ∙ ap (λ n. lies_between (4 * (n + 1) + 1) (length (used_bytes x.format (code_in x.words))) pc) (length-map (literal_words x.words) r ∙ sym (length-map (literal_words x.words) s))
        ∙ sym (ap (λ o. lies_in (Some o) pc) (obj_of-method s x a p m))

module _ (os : List Object) (y : Object) where
  abbrev grown : List Object
  grown = os ++ y ∷ []

  pub lies_grown : (m : ℕ) (at : Option ℕ) (l : Lives os m at) → lies_in (meaning_at (os ++ y ∷ []) m) l.pc ≡ true
  lies_grown m at l =
      ap (λ o. lies_in (option_map (obj_of (ref_of grown)) o) l.pc) (object_at-push os y m l.object l.there)
      ∙ lies_alike (ref_of grown) (ref_of os) l.object l.pc
      ∙ sym (ap (λ o. lies_in (option_map (obj_of (ref_of os)) o) l.pc) l.there) ∙ l.lies

  pub index_grown : (m : ℕ) (at : Option ℕ) → lies_if_index (meaning_at os m) at ≡ true → lies_if_index (meaning_at (os ++ y ∷ []) m) at ≡ true
  index_grown m at h = let l = lives os m at h in ap (lies_if_index (meaning_at grown m)) l.at_is ∙ lies_grown m at l

  pub live_grown : (m : ℕ) (at : Option ℕ) → lies_if_live (meaning_at os m) at ≡ true → lies_if_live (meaning_at (os ++ y ∷ []) m) at ≡ true
  live_grown m None h = refl
  live_grown m (Some pc) h = let l = lives_if_live os m (Some pc) pc h refl in ap (lies_if_live (meaning_at grown m)) l.at_is ∙ lies_grown m (Some pc) l

  -- ---- contexts of the heap

  pub pcs_grown : PcFits (os ++ y ∷ []) y ⊎ (is_heap_context y ≡ false) → ((j : ℕ) (x : Object) → slice_get os j ≡ Some x → is_heap_context x ≡ true → PcFits os x)
      → (j : ℕ) (x : Object) → slice_get (os ++ y ∷ []) j ≡ Some x → is_heap_context x ≡ true → PcFits (os ++ y ∷ []) x
  pcs_grown new pcs j x e c = elim (slice_get-push os y j x e) [
    | inl old ↦ live_grown (slice_index x.words 3) (natural_of_word (slice_index x.words 1)) (pcs j x old c)
    | inr last ↦ elim new [
      | inl fits ↦ subst (PcFits grown) last.1 fits
      | inr other ↦ absurd (let no : true ≡ false = sym c ∙ ap is_heap_context (sym last.1) ∙ other in cc)
    ]
  ]

  pub senders_grown : SenderFits (os ++ y ∷ []) y ⊎ (is_heap_context y ≡ false) → ((j : ℕ) (x : Object) → slice_get os j ≡ Some x → is_heap_context x ≡ true → SenderFits os x)
      → (j : ℕ) (x : Object) → slice_get (os ++ y ∷ []) j ≡ Some x → is_heap_context x ≡ true → SenderFits (os ++ y ∷ []) x
  senders_grown new senders j x e c = elim (slice_get-push os y j x e) [
    | inl old ↦ sender_fits-push os y x (senders j x old c)
    | inr last ↦ elim new [
      | inl fits ↦ subst (SenderFits grown) last.1 fits
      | inr other ↦ absurd (let no : true ≡ false = sym c ∙ ap is_heap_context (sym last.1) ∙ other in cc)
    ]
  ]

  pub links_grown : (is_linked y ≡ true → LinkFits y) → ((j : ℕ) (x : Object) → slice_get os j ≡ Some x → is_linked x ≡ true → LinkFits x)
      → (j : ℕ) (x : Object) → slice_get (os ++ y ∷ []) j ≡ Some x → is_linked x ≡ true → LinkFits x
  links_grown new links j x e l = elim (slice_get-push os y j x e) [
    | inl old ↦ links j x old l
    | inr last ↦ subst (λ (z : Object). is_linked z ≡ true → LinkFits z) last.1 new l
  ]

-- ---- frames

module _ (w : Parts) (good : IsGood w) (y : Object) where
  abbrev old : List Object
  old = w.heap.objects

  abbrev new : List Object
  new = w.heap.objects ++ y ∷ []

  pub method_grown : {f : Frame} {gs : List Frame} (p : ℕ) → IsOn f gs (frames_of w.frames p) → heap_object (w.heap.objects ++ y ∷ []) f.method ≡ heap_object w.heap.objects f.method
  method_grown {f = f} p on = object_at-old old y f.method (method_there old f.method (agreed w good p on).method)

  pub spouse_grown : {f : Frame} {gs : List Frame} (p : ℕ) → IsOn f gs (frames_of w.frames p) → f.context ≢ nil
      → heap_object (w.heap.objects ++ y ∷ []) f.context ≡ heap_object w.heap.objects f.context
  spouse_grown {f = f} p on some = object_at-old old y f.context (context_there old f.context ((agreed w good p on).married some).context)

  pub size_grown : {f : Frame} {gs : List Frame} (p : ℕ) → IsOn f gs (frames_of w.frames p) → frame_size (w.heap.objects ++ y ∷ []) f ≡ frame_size w.heap.objects f
  size_grown {f = f} p on = elim (cases_eq f.context nil) [
    | inl e ↦ size_none new f e ∙ ap context_size (header_same old new f.method (method_like old new f.method (method_grown p on))) ∙ sym (size_none old f e)
    | inr ne ↦ size_some new f ne ∙ ap (λ n. n - 6) (context_like old new f.context (spouse_grown p on ne)).count ∙ sym (size_some old f ne)
  ]

  pub hash_grown : {f : Frame} {gs : List Frame} (p : ℕ) → IsOn f gs (frames_of w.frames p) → frame_hash (w.heap.objects ++ y ∷ []) f ≡ frame_hash w.heap.objects f
  hash_grown {f = f} p on = elim (cases_eq f.context nil) [
    | inl e ↦
        ap (λ b. if b then 0 else hash_at new f.context) (eq-eqb f.context nil e) ∙ sym (ap (λ b. if b then 0 else hash_at old f.context) (eq-eqb f.context nil e))
    | inr ne ↦ ap (λ n. if f.context == nil then 0 else n)
        (field_of-old (λ x. x.hash) old y f.context (context_there old f.context ((agreed w good p on).married ne).context))
  ]

  fits : {f : Frame} {gs : List Frame} (p : ℕ) → IsOn f gs (frames_of w.frames p) → FrameFits w.heap.objects w.roots.next_birth f gs
  fits p on = fits_on old w.roots.next_birth on (good.frames p)

  sender_grown : (f : Frame) (gs : List Frame) → HasSender old f gs → frame_sender new f gs ≡ frame_sender old f gs
  sender_grown f [] h = ref_of-push old y f.caller (nil_or_named context_class old f.caller h)
  sender_grown f (g ∷ gs) h = refl

  method_named : {f : Frame} {gs : List Frame} → FrameFits old w.roots.next_birth f gs → is_reference old f.method ≡ true
  method_named {f = f} h = let l = lives old f.method (natural_of_word f.saved_pc) h.lies in is_reference-object old f.method (is_object-object_at old f.method l.object l.there)

  -- a frame is the same context
  pub context_grown : {f : Frame} {gs : List Frame} (p : ℕ) → IsOn f gs (frames_of w.frames p) → frame_context (w.heap.objects ++ y ∷ []) f gs ≡ frame_context w.heap.objects f gs
  unfolding frame_context
  context_grown {f = f} {gs = gs} p on =
      let h = fits p on in
      let hash = hash_grown p on in
      let sender = sender_grown f gs h.sender in
      let method = ref_of-push old y f.method (method_named h) in
      let closure = ref_of-push old y f.closure (nil_or_named closure_class old f.closure h.names.closure) in
      let receiver = ref_of-push old y f.receiver h.names.receiver in
      let stack = map_alike (is_reference old) (ref_of new) (ref_of old) (ref_of-push old y) f.stack h.names.stack in
      let size = size_grown p on in
      λ i. record {
        hash = hash i;
        sender = sender i;
        pc = natural_of_word f.saved_pc;
        method = method i;
        closure = closure i;
        receiver = receiver i;
        stack = stack i;
        size = size i;
      }

  pub pages_grown : (m : Objects) → pages_onto (w.heap.objects ++ y ∷ []) w.frames m ≡ pages_onto w.heap.objects w.frames m
  pages_grown m = pages_same old new w.frames m (λ p f gs on. context_grown p on)

  -- what the frames name is there
  stack_grown : (ws : List ℕ) → AllPass (is_reference old) ws → AllPass (is_reference new) ws
  stack_grown ws all = λ k d l. is_reference-push old y (get_or ws k d) (all k d l)

  caller_grown : (f : Frame) (gs : List Frame) → HasSender old f gs → HasSender new f gs
  caller_grown f [] h = nil_or-push context_class old y f.caller h
  caller_grown f (g ∷ gs) h = tt

  -- the new object has the next birth, which no frame has
  module _ (next : y.birth ≡ w.roots.next_birth) where
    objects_grown : objects_of new ≡ insert (objects_of old) y.birth (obj_of (ref_of new) y)
    objects_grown = objects_of-push old y (λ k x e b. next_is_fresh old w.classes w.roots good.whole k x e (b ∙ next)) (λ k x e. obj_of-push old y x (good.whole.heap.each k x e))

    alone_grown : (birth : ℕ) → birth < w.roots.next_birth → get (objects_of old) birth ≡ None → get (objects_of new) birth ≡ None
    alone_grown birth below none = ap (λ (m : Objects). get m birth) objects_grown ∙ get_apart (objects_of old) y.birth birth _ (λ e. omega (arith, e, next, below)) ∙ none

    within_grown : (p : ℕ) (fs : List Frame) → ((f : Frame) (gs : List Frame) → IsOn f gs fs → IsOn f gs (frames_of w.frames p)) → FramesFit old w.roots.next_birth fs → FramesFit new (w.roots.next_birth + 1) fs
    within_grown p [] on fit = tt
    within_grown p (f ∷ fs) on fit =
        let h = fit.0 in (
          record {
            names = record {
              closure = nil_or-push closure_class old y f.closure h.names.closure;
              receiver = is_reference-push old y f.receiver h.names.receiver;
              stack = stack_grown f.stack h.names.stack;
            };
            lies = index_grown old y f.method (natural_of_word f.saved_pc) h.lies;
            fits = omega (arith, h.fits, size_grown p (on f fs here));
            stands = h.stands;
            room = h.room;
            birth = omega (arith, h.birth);
            apart = h.apart;
            sender = caller_grown f fs h.sender;
            alone = λ none. alone_grown f.birth h.birth (h.alone none);
          },
          within_grown p fs (λ g gs o. on g gs (above f fs o)) fit.1,
        )

    pub frames_grown : (p : ℕ) → FramesFit (w.heap.objects ++ y ∷ []) (w.roots.next_birth + 1) (frames_of w.frames p)
    frames_grown p = within_grown p (frames_of w.frames p) (λ f gs on. on) (good.frames p)

-- no frame has the next birth
pub lacks_next : (os : List Object) (next : ℕ) (fs : List Frame) → FramesFit os next fs → Lacks next fs
lacks_next os next [] fit = tt
lacks_next os next (f ∷ fs) fit = (λ e. omega (arith, e, fit.0.birth), lacks_next os next fs fit.1)
