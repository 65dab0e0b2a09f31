-- A good world names only what it has, and its heap has what it must.
use Rattle.std.proofs.Common.{◌≡◌, ℕ, suc, pos, ◌<◌, ◌≤◌, Bool, true, false, refl, sym, ap, ap₂, cond, subst, ◌∙◌, ◌⊎◌, inl, inr, Option, Some, None, IsSome, is_some, List, [], ◌∷◌, length, map, option_map, arith, set, get_or-set_other, get_or-set_same}
use Rattle.std.specs.Prelude.{◌==◌, ◌&&◌, ◌||◌, slice_get, slice_index}
use Rattle.std.specs.Option.{option_map_or}
use Rattle.std.proofs.lemmas.Bool.{eq-eqb, eqb-true, or_left, or_right}
use Rattle.std.specs.List.{AllByRecursion, AllPass}
use Rattle.std.specs.FinMap.{get}
use Rattle.std.proofs.lemmas.List.{length-set}
use Rattle.cs_word.specs.Word.{small_word, natural_of_word}
use Rattle.cs_heap.specs.Object.{Object, class_at, is_object}
use Rattle.cs_classes.specs.Meaning.{context_of, is_heap_context, kept_of, meaning_at, obj_of, objects_of, ref_of}
use Rattle.cs_classes.specs.Kinds.{ContextKinds, KindsStand}
use Rattle.cs_classes.specs.Senders.{SenderStands}
use Rattle.cs_classes.specs.Sound.{is_method_address, is_reference, nil_word}
use Rattle.cs_classes.proofs.Fields.{nil_or_closure_named, nil_or_method_named}
use Rattle.cs_classes.proofs.Makings.{ref_of-nil}
use Rattle.cs_classes.proofs.Objects.{get-objects_of-element, objects_of-comes}
use Rattle.cs_classes.proofs.Sorts.{context_is}
use Rattle.cs_classes.proofs.Sounds.{whole_context}
use Rattle.cs_classes.proofs.Heaps.{birth_of-object_at, is_object-object_at, object_there, stands}
use Rattle.cs_classes.proofs.Refs.{is_nil_or_closure, is_nil_or_method, is_reference-object, ref_of-object}
use Rattle.cs_classes.proofs.Wholes.{kept_of-closed, kept_of-roots, ref_of-held}
use Rattle.cs_frame.specs.Frame.{Frame, nil}
use Rattle.cs_frame.specs.Page.{frames_of}
use Rattle.cs_model.specs.Ref.{Ref}
use Rattle.cs_model.specs.Ref as ref
use Rattle.cs_model.specs.Context.{closure_class, has_class_index}
use Rattle.cs_model.specs.Obj.{Context, Ctx, Obj, context_class, is_context_at, lies_in}
use Rattle.cs_model.specs.Obj as obj
use Rattle.cs_model.specs.State.{ContextHeld, IsHeld, Kept, NamesHeld, PcLies, Rest, RestHeld, is_nil, object_at, object_of}
use Rattle.cs_model.specs.Keeps.{Grows, Keeps}
use Rattle.cs_model.proofs.Keeping.{IsHeld-grows, NamesHeld-grows}
use Rattle.cs_acts.specs.Ready.{IsSound}
use Rattle.cs_acts.proofs.ContextKinds.{KindsGrow, context_kinds-grow}
use Rattle.cs_marriage.specs.Place.{names_place}
use Rattle.cs_marriage.proofs.Objects.{method_there as method_there_at}
use Rattle.cs_stack.specs.declared.parts.Parts.{Parts}
use Rattle.cs_stack.specs.View.{active_in, active_page, bare, dead_words, first_frames, frame_context, is_linked, stored_of, unframed, view_of}
use Rattle.cs_stack.specs.Good.{FrameFits, HasSender, IsGood, PcFits, is_nil_or}
use Rattle.cs_stack.proofs.Addresses.{closure_sound, nil_or_named, nil_or_nil, nil_or_there, nil_or_which, sender_single}
use Rattle.cs_stack.proofs.Lives.{Lives, lives, lives_if_live}
use Rattle.cs_stack.proofs.Bare.{a_context, bare_element, bare_plain, bare_ref, bare_reference, bare_rest, bare_whole, comes_bare, meaning_there, no_context, plain_bare, unframed_context}
use Rattle.cs_stack.proofs.Framed.{Bare, Framed, IsOn, Which, all_fit, below_on, fits_on, here, onto_bare, onto_frame, onto_some, which}
use Rattle.cs_stack.proofs.Places.{agreed, plain_lacks}

-- a linked context reads as dead
pub linked_dead : (os : List Object) (x : Object) → 6 ≤ length x.words → is_linked x ≡ true → natural_of_word (slice_index (unframed x).words 1) ≡ None
unfolding natural_of_word
linked_dead os x enough h =
    let zeroth : List ℕ = set x.words 0 nil in
    ap (λ b. natural_of_word (slice_index (cond b (record x { words = dead_words x.words }) x).words 1)) h
    ∙ ap natural_of_word (get_or-set_other (set zeroth 1 nil) 2 1 (small_word (pos 0)) 0 (λ e. omega (arith, e)) ∙ get_or-set_same zeroth 1 nil 0 (omega (arith, enough, length-set x.words 0 nil)))

-- the sender of a dead context is nil
sender_dead : (ws : List ℕ) → 6 ≤ length ws → slice_index (dead_words ws) 0 ≡ nil
sender_dead [] h = absurd (omega (arith, h))
sender_dead (x ∷ []) h = absurd (omega (arith, h))
sender_dead (x ∷ y ∷ []) h = absurd (omega (arith, h))
sender_dead (x ∷ y ∷ z ∷ ws) h = refl

-- all words of a context but the first three are as they were
unframed_word : (x : Object) (i : ℕ) → 3 ≤ i → slice_index (unframed x).words i ≡ slice_index x.words i
unframed_word x i h = go (is_linked x)
  where
    go : (b : Bool) → slice_index (cond b (record x { words = dead_words x.words }) x).words i ≡ slice_index x.words i
    go true =
        get_or-set_other (set (set x.words 0 nil) 1 nil) 2 i (small_word (pos 0)) 0 (λ e. omega (arith, e, h))
        ∙ get_or-set_other (set x.words 0 nil) 1 i nil 0 (λ e. omega (arith, e, h)) ∙ get_or-set_other x.words 0 i nil 0 (λ e. omega (arith, e, h))
    go false = refl

module _ (w : Parts) (good : IsGood w) where
  abbrev os : List Object
  os = w.heap.objects

  -- the state of the heap alone
  abbrev heap : Kept
  heap = kept_of (bare os) w.classes w.roots None

  abbrev view : Kept
  view = view_of w

  grows : Grows heap view
  grows = record { held = λ i h. onto_some os w.frames (objects_of (bare os)) i h }

  -- what a word names is there
  pub view_held : (word : ℕ) → is_reference w.heap.objects word ≡ true → IsHeld (view_of w) (ref_of w.heap.objects word)
  view_held word named = IsHeld-grows grows (ref_of os word)
      (subst (λ (r : ℕ → Ref). IsHeld heap (r word)) (bare_ref os)
      (ref_of-held (bare os) w.classes w.roots None word (bare_whole os w.classes w.roots good.whole).heap (ap (λ (p : ℕ → Bool). p word) (bare_reference os) ∙ named)))

  stack_held : (ws : List ℕ) → AllPass (is_reference os) ws → AllByRecursion (IsHeld view) (map (ref_of os) ws)
  stack_held [] all = tt
  stack_held (word ∷ ws) all = (view_held word (all 0 0 (omega arith)), stack_held ws (λ k d l. all (suc k) d (omega (arith, l))))

  method_held : (m : ℕ) (at : Option ℕ) → Lives os m at → IsHeld view (ref_of os m)
  method_held m at l = view_held m (is_reference-object os m (is_object-object_at os m l.object l.there))

  found : (f : Frame) (gs : List Frame) (p : ℕ) → IsOn f gs (frames_of w.frames p) → object_at view f.birth ≡ Some (Ctx (frame_context os f gs))
  found f gs p on = onto_frame os w.roots.next_birth w.frames (objects_of (bare os)) p (all_fit w good) on

  fits : (f : Frame) (gs : List Frame) (p : ℕ) → IsOn f gs (frames_of w.frames p) → FrameFits os w.roots.next_birth f gs
  fits f gs p on = fits_on os w.roots.next_birth on (good.frames p)

  -- what a frame names is there
  frame_held : (f : Frame) (gs : List Frame) (p : ℕ) → IsOn f gs (frames_of w.frames p) → ContextHeld view (frame_context os f gs)
  unfolding frame_context
  frame_held f [] p on = let h = fits f [] p on in record {
    sender = view_held f.caller (nil_or_named context_class os f.caller h.sender);
    method = method_held f.method (natural_of_word f.saved_pc) (lives os f.method (natural_of_word f.saved_pc) h.lies);
    closure = view_held f.closure (nil_or_named closure_class os f.closure h.names.closure);
    receiver = view_held f.receiver h.names.receiver;
    stack = stack_held f.stack h.names.stack;
  }
  frame_held f (g ∷ gs) p on = let h = fits f (g ∷ gs) p on in record {
    sender = ap is_some (found g gs p (below_on on));
    method = method_held f.method (natural_of_word f.saved_pc) (lives os f.method (natural_of_word f.saved_pc) h.lies);
    closure = view_held f.closure (nil_or_named closure_class os f.closure h.names.closure);
    receiver = view_held f.receiver h.names.receiver;
    stack = stack_held f.stack h.names.stack;
  }

  -- what is a frame, and what stands in the heap
  framed_is : (i : ℕ) (o : Obj) (p : ℕ) (f : Frame) (gs : List Frame) → object_at view i ≡ Some o → IsOn f gs (frames_of w.frames p) → i ≡ f.birth → Ctx (frame_context os f gs) ≡ o
  framed_is i o p f gs h on is = let e : Some (Ctx (frame_context os f gs)) ≡ Some o = sym (found f gs p on) ∙ ap (object_at view) (sym is) ∙ h in cc

  closed : (i : ℕ) (o : Obj) → object_at view i ≡ Some o → NamesHeld view o
  closed i o h = go (which i w.frames)
    where
      go : Which i w.frames → NamesHeld view o
      go (Framed p f gs on is) = subst (NamesHeld view) (framed_is i o p f gs h on is) (frame_held f gs p on)
      go (Bare l) = NamesHeld-grows grows o
          (kept_of-closed (bare os) w.classes w.roots None i o (bare_whole os w.classes w.roots good.whole).heap (sym (onto_bare os w.frames (objects_of (bare os)) i l) ∙ h))

  active_held : (i : ℕ) → active_in (active_page w) ≡ Some i → IsSome (object_at view i)
  active_held i h = go w.pages.recent h
    where
      top_held : (p : ℕ) (fs : List Frame) → frames_of w.frames p ≡ fs → active_in fs ≡ Some i → IsSome (object_at view i)
      top_held p [] e h = absurd (cc)
      top_held p (f ∷ gs) e h =
          let is : f.birth ≡ i = cc in
          ap is_some (ap (object_at view) (sym is) ∙ found f gs p (subst (IsOn f gs) (sym e) here))

      go : (recent : List ℕ) → active_in (first_frames w.frames recent) ≡ Some i → IsSome (object_at view i)
      go [] h = absurd (cc)
      go (p ∷ qs) h = top_held p (frames_of w.frames p) refl h

  roots_held : RestHeld view
  roots_held =
      let h = kept_of-roots (bare os) w.classes w.roots None (bare_whole os w.classes w.roots good.whole) (λ i e. absurd (cc)) in
      record {
        nil = grows.held _ h.nil;
        false_ = grows.held _ h.false_;
        true_ = grows.held _ h.true_;
        special = grows.held _ h.special;
        classes = λ index i e. grows.held i (h.classes index i e);
        active = active_held;
      }

  view_closed : Keeps view view
  view_closed = record { same = λ i o h. h; whole = λ i o h other. h; closed = closed; roots = roots_held; rest = refl }

  -- ---- what the heap has beside contexts

  -- what is no context stands in the state as in the heap
  pub plain_there : (i : ℕ) (o : Obj) → get (objects_of w.heap.objects) i ≡ Some o → obj.is_context o ≡ false → object_at (view_of w) i ≡ Some o
  plain_there i o e other = onto_bare os w.frames (objects_of (bare os)) i (plain_lacks w good i o e other) ∙ bare_plain os i o good.whole.heap e other

  pub plain_back : (i : ℕ) (o : Obj) → object_at (view_of w) i ≡ Some o → obj.is_context o ≡ false → get (objects_of w.heap.objects) i ≡ Some o
  plain_back i o h other = go (which i w.frames)
    where
      go : Which i w.frames → get (objects_of os) i ≡ Some o
      go (Framed p f gs on is) = absurd (let no : true ≡ false = ap obj.is_context (framed_is i o p f gs h on is) ∙ other in cc)
      go (Bare l) = plain_bare os i o good.whole.heap (sym (onto_bare os w.frames (objects_of (bare os)) i l) ∙ h) other

  context_there : (j : ℕ) (x : Object) → slice_get os j ≡ Some x → is_heap_context x ≡ true → is_context_at (object_at view x.birth) ≡ true
  context_there j x e is = go (which x.birth w.frames)
    where
      go : Which x.birth w.frames → is_context_at (object_at view x.birth) ≡ true
      go (Framed p f gs on same) = ap is_context_at (ap (object_at view) same ∙ found f gs p on)
      go (Bare l) =
          ap is_context_at (onto_bare os w.frames (objects_of (bare os)) x.birth l ∙ bare_element os j x good.whole.heap e)
          ∙ a_context (ref_of os) (unframed x) (unframed_context x ∙ is)

  -- the method that a word names
  pub method_there : (m : ℕ) (at : Option ℕ) → Lives w.heap.objects m at → object_of (view_of w) (ref_of w.heap.objects m) ≡ meaning_at w.heap.objects m
  method_there m at l =
      ap (object_of view) (ref_of-object os m (is_object-object_at os m l.object l.there) ∙ ap (λ b. ref.Obj b) (birth_of-object_at os m l.object l.there))
      ∙ plain_there l.object.birth (obj_of (ref_of os) l.object) (meaning_there os m l.object good.whole.heap l.there) (no_context (ref_of os) l.object l.other)
      ∙ sym (ap (option_map (obj_of (ref_of os))) l.there)

  -- contexts keep their pcs
  lies_there : (m : ℕ) (at : Option ℕ) (pc : ℕ) → Lives os m at → at ≡ Some pc → lies_in (object_of view (ref_of os m)) pc ≡ true
  lies_there m at pc l e =
      let same : Some l.pc ≡ Some pc = sym l.at_is ∙ e in
      let is : l.pc ≡ pc = cc in
      ap (λ o. lies_in o pc) (method_there m at l) ∙ subst (λ n. lies_in (meaning_at os m) n ≡ true) is l.lies

  frame_lies : (f : Frame) (gs : List Frame) → FrameFits os w.roots.next_birth f gs → PcLies view (frame_context os f gs)
  unfolding frame_context
  frame_lies f gs fit pc e = lies_there f.method (natural_of_word f.saved_pc) pc (lives os f.method (natural_of_word f.saved_pc) fit.lies) e

  context_lies : (x : Object) → PcFits os x → PcLies view (context_of (ref_of os) x.hash x.words)
  unfolding context_of
  context_lies x fit pc e = lies_there (slice_index x.words 3) (natural_of_word (slice_index x.words 1)) pc (lives_if_live os (slice_index x.words 3) (natural_of_word (slice_index x.words 1)) pc fit e) e

  unframed_lies : (j : ℕ) (x : Object) → slice_get os j ≡ Some x → is_heap_context x ≡ true → PcLies view (context_of (ref_of os) (unframed x).hash (unframed x).words)
  unfolding context_of
  unframed_lies j x element is pc e = go (is_linked x) refl
    where
      go : (b : Bool) → is_linked x ≡ b → lies_in (object_of view (context_of (ref_of os) (unframed x).hash (unframed x).words).method) pc ≡ true
      go true l = absurd (let none = linked_dead os x (whole_context os x (good.whole.heap.each j x element) is).fields l in cc)
      go false l =
          let same : unframed x ≡ x = ap (λ b. cond b (record x { words = dead_words x.words }) x) l in
          subst (λ (y : Object). PcLies view (context_of (ref_of os) y.hash y.words)) (sym same) (context_lies x (good.pcs j x element is)) pc e

  view_pcs : (i : ℕ) (c : Context) → object_at view i ≡ Some (Ctx c) → PcLies view c
  view_pcs i c h = go (which i w.frames)
    where
      go : Which i w.frames → PcLies view c
      go (Framed p f gs on is) =
          let e = framed_is i (Ctx c) p f gs h on is in
          let same : frame_context os f gs ≡ c = cc in
          subst (PcLies view) same (frame_lies f gs (fits f gs p on))
      go (Bare l) =
          let from = comes_bare os i (Ctx c) good.whole.heap (sym (onto_bare os w.frames (objects_of (bare os)) i l) ∙ h) in
          let is = context_is (ref_of os) (unframed from.object) c from.meaning in
          subst (PcLies view) is.value (unframed_lies from.place from.object from.element (sym (unframed_context from.object) ∙ is.context))

  -- ---- what the fields of contexts name

  -- the state of the heap as it is
  abbrev whole_heap : Kept
  whole_heap = kept_of os w.classes w.roots None

  same_nil : whole_heap.rest.nil ≡ view.rest.nil
  same_nil = ap (λ (r : Rest). r.nil) (sym (bare_rest os w.classes w.roots None))

  -- what is no context stands in the state
  still_plain : (p : Option Obj → Bool) → p None ≡ false → ((c : Context) → p (Some (Ctx c)) ≡ false) → (i : ℕ) → p (object_at whole_heap i) ≡ true → p (object_at view i) ≡ true
  still_plain p none other i h = go (object_at whole_heap i) refl h
    where
      plain : (o : Obj) → p (Some o) ≡ true → obj.is_context o ≡ false
      plain (obj.Ptr head slots) h = refl
      plain (obj.Raw head bytes) h = refl
      plain (obj.Method head header literals bytecodes) h = refl
      plain (Ctx c) h = absurd (let no : false ≡ true = sym (other c) ∙ h in cc)

      go : (o : Option Obj) → object_at whole_heap i ≡ o → p o ≡ true → p (object_at view i) ≡ true
      go None e h = absurd (let no : false ≡ true = sym none ∙ h in cc)
      go (Some o) e h = ap p (plain_there i o e (plain o h)) ∙ h

  still_context : (i : ℕ) → is_context_at (object_at whole_heap i) ≡ true → is_context_at (object_at view i) ≡ true
  still_context i h = go (object_at whole_heap i) refl h
    where
      go : (o : Option Obj) → object_at whole_heap i ≡ o → is_context_at o ≡ true → is_context_at (object_at view i) ≡ true
      go None e h = absurd (cc)
      go (Some o) e h =
          let from = objects_of-comes os i o good.whole.heap.apart e in
          let is : is_heap_context from.object ≡ true = context_back from.object (ap obj.is_context from.meaning ∙ h) in
          subst (λ n. is_context_at (object_at view n) ≡ true) from.birth (context_there from.place from.object from.element is)
        where
          context_back : (x : Object) → obj.is_context (obj_of (ref_of os) x) ≡ true → is_heap_context x ≡ true
          context_back x h = both (is_heap_context x) refl
            where
              both : (b : Bool) → is_heap_context x ≡ b → is_heap_context x ≡ true
              both true e = e
              both false e = absurd (let no : false ≡ true = sym (no_context (ref_of os) x e) ∙ h in cc)

  kinds_grow : KindsGrow whole_heap view
  kinds_grow = record {
    nil = same_nil;
    contexts = still_context;
    methods = still_plain obj.is_method refl (λ c. refl);
    closures = still_plain (has_class_index closure_class) refl (λ c. refl);
  }

  sender_stands : (v : ℕ) → is_nil_or context_class os v ≡ true → (is_nil view (ref_of os v) || is_context_at (object_of view (ref_of os v))) ≡ true
  sender_stands v h = go (nil_or_which context_class os v h)
    where
      there : is_object os v ≡ true
      there = nil_or_there context_class os v h

      go : ((v == nil) ≡ true) ⊎ ((class_at os v == context_class) ≡ true) → (is_nil view (ref_of os v) || is_context_at (object_of view (ref_of os v))) ≡ true
      go (inl e) = or_left (is_nil view (ref_of os v)) (is_context_at (object_of view (ref_of os v)))
          (ap (λ n. is_nil view (ref_of os n)) (eqb-true v nil e) ∙ ap (is_nil view) (ref_of-nil os w.classes w.roots good.whole)
          ∙ eq-eqb whole_heap.rest.nil view.rest.nil same_nil)
      go (inr e) = or_right (is_nil view (ref_of os v)) (is_context_at (object_of view (ref_of os v)))
          (let x = object_there os v there in
          let s = stands os v x.0 x.1 in
          let is : is_heap_context x.0 ≡ true = sym (ap (λ (o : Option Object). option_map_or (λ (y : Object). y.class) o 0 == context_class) x.1) ∙ e in
          ap (λ r. is_context_at (object_of view r)) (ref_of-object os v there ∙ ap (λ n. ref.Obj n) (birth_of-object_at os v x.0 x.1)) ∙ context_there s.0 x.0 s.1.element is)

  -- a context with these fields
  fields_stand : (c : Context) (m e : ℕ) → c.method ≡ ref_of os m → c.closure ≡ ref_of os e → is_nil_or_method os m ≡ true → is_nil_or_closure os e ≡ true → SenderStands view c → ContextKinds view c
  fields_stand c m e method_is closure_is method closure sender =
      let d : Context = record c { sender = ref.Obj whole_heap.rest.nil } in
      let stand : ContextKinds whole_heap d = record {
        sender = or_left (whole_heap.rest.nil == whole_heap.rest.nil) (is_context_at (object_at whole_heap whole_heap.rest.nil)) (eq-eqb whole_heap.rest.nil whole_heap.rest.nil refl);
        method = ap (λ r. is_nil whole_heap r || obj.is_method (object_of whole_heap r)) method_is ∙ nil_or_method_named os w.classes w.roots None good.whole m method;
        closure = ap (λ r. is_nil whole_heap r || has_class_index closure_class (object_of whole_heap r)) closure_is ∙ nil_or_closure_named os w.classes w.roots None good.whole e closure;
      } in
      let there = context_kinds-grow whole_heap view d kinds_grow stand in
      record { sender = sender; method = there.method; closure = there.closure }

  frame_kinds : (f : Frame) (gs : List Frame) (p : ℕ) → IsOn f gs (frames_of w.frames p) → ContextKinds view (frame_context os f gs)
  unfolding frame_context
  frame_kinds f gs p on =
      let h = fits f gs p on in
      let m = (agreed w good p on).method in
      let address : is_method_address os f.method ≡ true = ap₂ (λ a b. a && b) (method_there_at os f.method m) m.format in
      fields_stand (frame_context os f gs) f.method f.closure refl refl (or_right (f.method == nil_word os) (is_method_address os f.method) address)
      (closure_sound os f.closure good.whole.nil h.names.closure) (sender gs on h.sender)
    where
      sender : (hs : List Frame) → IsOn f hs (frames_of w.frames p) → HasSender os f hs → SenderStands view (frame_context os f hs)
      sender [] on h = sender_stands f.caller h
      sender (g ∷ hs) on h = or_right (is_nil view (ref.Obj g.birth)) (is_context_at (object_at view g.birth)) (ap is_context_at (found g hs p (below_on on)))

  unframed_kinds : (j : ℕ) (x : Object) → slice_get os j ≡ Some x → is_heap_context x ≡ true → ContextKinds view (context_of (ref_of os) (unframed x).hash (unframed x).words)
  unfolding context_of
  unframed_kinds j x element is =
      let sound = (good.whole.heap.each j x element).context is in
      fields_stand (context_of (ref_of os) (unframed x).hash (unframed x).words) (slice_index x.words 3) (slice_index x.words 4) (ap (ref_of os) (unframed_word x 3 (omega arith))) (ap (ref_of os) (unframed_word x 4 (omega arith)))
      sound.method sound.closure (sender_stands (slice_index (unframed x).words 0) (sender (is_linked x) refl))
    where
      sender : (b : Bool) → is_linked x ≡ b → is_nil_or context_class os (slice_index (unframed x).words 0) ≡ true
      sender true l =
          let dead : slice_index (unframed x).words 0 ≡ nil =
          ap (λ b. slice_index (cond b (record x { words = dead_words x.words }) x).words 0) l ∙ sender_dead x.words (whole_context os x (good.whole.heap.each j x element) is).fields in
          ap (is_nil_or context_class os) dead ∙ nil_or_nil context_class os good.agree.nil_there
      sender false l =
          let same : unframed x ≡ x = ap (λ b. cond b (record x { words = dead_words x.words }) x) l in
          let single : names_place (slice_index x.words 0) ≡ false = sym (ap (λ b. b && names_place (slice_index x.words 0)) is) ∙ l in
          ap (λ (y : Object). is_nil_or context_class os (slice_index y.words 0)) same ∙ sender_single os x (good.senders j x element is) single

  view_kinds : KindsStand view
  view_kinds i c h = go (which i w.frames)
    where
      go : Which i w.frames → ContextKinds view c
      go (Framed p f gs on is) =
          let e = framed_is i (Ctx c) p f gs h on is in
          let same : frame_context os f gs ≡ c = cc in
          subst (ContextKinds view) same (frame_kinds f gs p on)
      go (Bare l) =
          let from = comes_bare os i (Ctx c) good.whole.heap (sym (onto_bare os w.frames (objects_of (bare os)) i l) ∙ h) in
          let is = context_is (ref_of os) (unframed from.object) c from.meaning in
          subst (ContextKinds view) is.value (unframed_kinds from.place from.object from.element (sym (unframed_context from.object) ∙ is.context))

  -- births are below the next one
  view_births : (i : ℕ) (o : Obj) → object_at view i ≡ Some o → i < w.roots.next_birth
  view_births i o h = go (which i w.frames)
    where
      go : Which i w.frames → i < w.roots.next_birth
      go (Framed p f gs on is) = subst (λ n. n < w.roots.next_birth) (sym is) (fits f gs p on).birth
      go (Bare l) =
          let from = comes_bare os i o good.whole.heap (sym (onto_bare os w.frames (objects_of (bare os)) i l) ∙ h) in
          subst (λ n. n < w.roots.next_birth) from.birth (good.whole.births from.place from.object from.element)

-- ---- the world

pub good_sound : (w : Parts) → IsGood w → IsSound (stored_of w) (view_of w)
good_sound w good =
    let os = w.heap.objects in
    record {
      closed = view_closed w good;
      pcs = view_pcs w good;
      kinds = view_kinds w good;
      births = view_births w good;
      holds = record {
        whole = good.whole;
        object = λ j x e other. plain_there w good x.birth (obj_of (ref_of os) x) (get-objects_of-element os j x good.whole.heap.apart e) (no_context (ref_of os) x other);
        context = context_there w good;
        back = plain_back w good;
        within = good.within;
        most = good.most;
        rest = sym (bare_rest os w.classes w.roots (active_in (active_page w)));
      };
    }
