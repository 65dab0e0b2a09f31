-- A new frame is made: its receiver and arguments leave the active frame, and it has the context of the model.
use Rattle.std.proofs.Common.{◌≡◌, ℕ, ◌+◌, ◌-◌, ◌<◌, ◌≤◌, true, false, refl, sym, ap, ap₂, subst, ◌∙◌, arith, Option, Some, None, IsSome, List, [], ◌∷◌, ◌++◌, length, length-take, length-drop, map, take, drop, zero, suc, replicate, unwrap_or, option_map}
use Rattle.std.specs.Prelude.{slice_get, slice_index}
use Rattle.std.specs.FinMap.{get}
use Rattle.std.specs.List.{take-map}
use Rattle.std.proofs.lemmas.List.{drop-map, length-append, length-map, length-replicate, map-append}
use Rattle.std.proofs.lemmas.List.Elements.{All-append, All-drop, All-get_or, All-replicate, All-take}
use Rattle.std.proofs.lemmas.Option.{slice_get-get_or, slice_get-map}
use Rattle.cs_word.specs.declared.Oop.{Oop}
use Rattle.cs_word.specs.Word.{kind_of, natural_of_word}
use Rattle.cs_word.proofs.Words.{kind_of-link}
use Rattle.cs_heap.specs.Object.{Object, slot_of}
use Rattle.cs_classes.specs.Meaning.{objects_of, ref_of}
use Rattle.cs_classes.specs.Sound.{is_reference, is_reference_kind}
use Rattle.cs_classes.proofs.Objects.{get-objects_of-fresh}
use Rattle.cs_classes.proofs.Wholes.{next_is_fresh}
use Rattle.cs_frame.specs.declared.NewFrame.{NewFrame}
use Rattle.cs_frame.specs.Frame.{Frame, IsPc, IsValue, call_cut, nil}
use Rattle.cs_frame.specs.Page.{HoldsValues, AreStacked, frames_of, on_page, frames_used}
use Rattle.cs_marriage.specs.Agree as marriage
use Rattle.cs_marriage.specs.Agree.{header_at}
use Rattle.cs_marriage.proofs.Based.{number_pc}
use Rattle.cs_marriage.proofs.Laws.{PageFits, agree_on_page, fits_above, fits_below, fits_stack, fits_top, page_fits}
use Rattle.cs_model.specs.Ref.{Ref}
use Rattle.cs_model.specs.Ref as ref
use Rattle.cs_model.specs.Obj.{Context, Obj, context_size}
use Rattle.cs_model.specs.Obj as obj
use Rattle.cs_model.specs.Context.{lies_if_index}
use Rattle.cs_model.specs.State.{Kept, object_of, put}
use Rattle.cs_model.specs.Read.{active_birth, depth_of, stack_of}
use Rattle.cs_model.specs.Operation.{drop_of, enter_with, last_values, nil_of}
use Rattle.cs_model.specs.Enter.{copied_values}
use Rattle.cs_acts.specs.Layout.{page_words}
use Rattle.cs_acts.specs.Names.{name_of}
use Rattle.cs_acts.specs.Ready.{IsReady}
use Rattle.cs_acts.proofs.Firsts.{nil_names}
use Rattle.cs_pages.specs.Order.{Order}
use Rattle.cs_stack.specs.declared.parts.Parts.{Parts}
use Rattle.cs_stack.specs.View.{births_of, frame_context, frame_sender, laid_pages, stored_of, view_of}
use Rattle.cs_stack.specs.Good.{FrameFits, HasSender, IsGood, Lacks}
use Rattle.cs_stack.specs.Moved.{CanBegin, begun_context, begun_stack, begun_state, callee, copied_at}
use Rattle.cs_stack.proofs.Tops.{Edited, Opened, edited, with_frames}
use Rattle.cs_stack.proofs.Laid as laid
use Rattle.cs_stack.proofs.Places.{stacked}
use Rattle.cs_stack.proofs.Adding.{CanAdd, added_parts, added_view, begun_kept}
use Rattle.cs_stack.proofs.Entries.{IsCode, code_there, size_most}
use Rattle.cs_stack.proofs.Copies.{Copied, copied_there}
use Rattle.cs_stack.proofs.Entries.{closure_word}

map-replicate : (r : ℕ → Ref) (n w : ℕ) → map r (replicate n w) ≡ replicate n (r w)
map-replicate r zero w = refl
map-replicate r (suc n) w = ap (λ xs. r w ∷ xs) (map-replicate r n w)

-- a reference is no link
pub reference_value : (os : List Object) (w : ℕ) → is_reference os w ≡ true → IsValue w
unfolding is_reference
reference_value os w named link = let no : is_reference_kind os (kind_of w) ≡ false = ap (is_reference_kind os) (kind_of-link w link) in absurd (cc)

-- ---- the caller, once receiver and arguments have left it

cut_context : (os : List Object) (n : ℕ) (f : Frame) (fs : List Frame) → frame_context os (call_cut n f) fs ≡ obj.popped (n + 1) (frame_context os f fs)
unfolding frame_context
cut_context os n f fs = context fs ∙ ap (λ zs. obj.with_stack zs (frame_context os f fs)) taken
  where
    taken : map (ref_of os) (take (length f.stack - (n + 1)) f.stack) ≡ take (length (map (ref_of os) f.stack) - (n + 1)) (map (ref_of os) f.stack)
    taken = sym (take-map (ref_of os) (length f.stack - (n + 1)) f.stack) ∙ ap (λ m. take (m - (n + 1)) (map (ref_of os) f.stack)) (sym (length-map f.stack (ref_of os)))

    context : (gs : List Frame) → frame_context os (call_cut n f) gs ≡ obj.with_stack (map (ref_of os) (take (length f.stack - (n + 1)) f.stack)) (frame_context os f gs)
    context [] = refl
    context (g ∷ gs) = refl

cut_sender : (os : List Object) (n : ℕ) (f : Frame) (fs : List Frame) → HasSender os f fs → HasSender os (call_cut n f) fs
cut_sender os n f [] h = h
cut_sender os n f (g ∷ gs) h = tt

pub cut_fits : (os : List Object) (next n : ℕ) (f : Frame) (fs : List Frame) → FrameFits os next f fs → FrameFits os next (call_cut n f) fs
cut_fits os next n f fs fits = record {
  names = record {
    closure = fits.names.closure;
    receiver = fits.names.receiver;
    stack = All-take (λ (u : ℕ). is_reference os u ≡ true) (length f.stack - (n + 1)) f.stack fits.names.stack;
  };
  lies = fits.lies;
  fits = omega (arith, fits.fits, length-take (length f.stack - (n + 1)) f.stack);
  stands = fits.stands;
  room = fits.room;
  birth = fits.birth;
  apart = fits.apart;
  sender = cut_sender os n f fs fits.sender;
  alone = fits.alone;
}

cut_page : (os : List Object) (p n : ℕ) (f : Frame) (fs : List Frame) → AreStacked (f ∷ fs) → PageFits os p (f ∷ fs) → PageFits os p (call_cut n f ∷ fs)
cut_page os p n f fs stand fits =
    let top = fits_top os p f fs fits in
    fits_above os p (call_cut n f) fs
    (fits_stack os (record { page = p; at = f.at }) f (take (length f.stack - (n + 1)) f.stack) (omega (arith, top.stack, length-take (length f.stack - (n + 1)) f.stack)) top)
    (fits_below os p f fs stand fits)

-- the world in which they have left it
abbrev pub cut_frames : (w : Parts) → Opened w → ℕ → List (List Frame)
cut_frames w o args = on_page w.frames o.p (λ _. call_cut args o.f ∷ o.fs)

abbrev pub cut_parts : (w : Parts) → Opened w → ℕ → Parts
cut_parts w o args = with_frames w (cut_frames w o args)

pub cut_edited : (w : Parts) (good : IsGood w) (o : Opened w) (args : ℕ) → Edited w (cut_parts w o args) (obj.popped (args + 1))
cut_edited w good o args =
    let os = w.heap.objects in
    let next = w.roots.next_birth in
    edited w good o (call_cut args o.f) (obj.popped (args + 1)) (cut_frames w o args) refl refl refl refl refl
    (agree_on_page os w.frames o.p (λ _. call_cut args o.f ∷ o.fs) good.agree o.within
    (cut_page os o.p args o.f o.fs (stacked os next (o.f ∷ o.fs) (o.fits, o.rest)) (subst (PageFits os o.p) o.is (page_fits os w.frames o.p good.agree))))
    (cut_fits os next args o.f o.fs o.fits) (cut_context os args o.f o.fs)

-- ---- what is read of the caller

module _ {w : Parts} (o : Opened w) where
  pub stack_read : stack_of (view_of w) ≡ map (ref_of w.heap.objects) o.f.stack
  unfolding frame_context
  stack_read = ap (λ (c : Context). c.stack) o.context

  pub depth_read : depth_of (view_of w) ≡ length o.f.stack
  depth_read = ap length stack_read ∙ length-map o.f.stack (ref_of w.heap.objects)

  pub value_named : (i : ℕ) → i < length o.f.stack → is_reference w.heap.objects (slice_index o.f.stack i) ≡ true
  value_named i there = All-get_or (λ (u : ℕ). is_reference w.heap.objects u ≡ true) o.f.stack i 0 there o.fits.names.stack

  pub value_name : (i : ℕ) (d : Ref) → i < length o.f.stack → ref_of w.heap.objects (slice_index o.f.stack i) ≡ unwrap_or (slice_get (stack_of (view_of w)) i) d
  value_name i d there =
      let got : slice_get o.f.stack i ≡ Some (slice_index o.f.stack i) = slice_get-get_or o.f.stack i 0 there in
      sym (ap (λ (xs : List Ref). unwrap_or (slice_get xs i) d) stack_read
      ∙ ap (λ x. unwrap_or x d) (slice_get-map (ref_of w.heap.objects) o.f.stack i ∙ ap (option_map (ref_of w.heap.objects)) got))

pub words_used : (w : Parts) → IsGood w → (o : Opened w) → page_words (view_of w) (births_of (o.f ∷ o.fs)) ≡ frames_used (o.f ∷ o.fs)
words_used w good o = ap (λ (fs : List Frame). page_words (view_of w) (births_of fs)) (sym o.is) ∙ laid.words_used w good o.p ∙ ap frames_used o.is

pub pages_are : (w : Parts) (o : Opened w) → laid_pages w.frames w.pages.recent ≡ births_of (o.f ∷ o.fs) ∷ laid_pages w.frames o.qs
pages_are w o = ap (laid_pages w.frames) o.recent ∙ ap (λ (fs : List Frame). births_of fs ∷ laid_pages w.frames o.qs) o.is

-- ---- the context that is entered

some_pc : (m : Option Obj) (at : Option ℕ) → lies_if_index m at ≡ true → IsSome at
some_pc m None h = absurd (cc)
some_pc m (Some pc) h = refl

module _ {w : Parts} (good : IsGood w) (ready : IsReady (stored_of w) (view_of w)) (o : Opened w) {new : NewFrame} {pc : Oop} {copies : ℕ}
    (can : CanBegin (stored_of w) (view_of w) new pc copies) where
  abbrev os : List Object
  os = w.heap.objects

  abbrev k : Kept
  k = view_of w

  abbrev entered : ℕ → ℕ → Frame
  entered at sender = callee os new pc.0 copies at sender o.f

  code : IsCode os (object_of k (name_of (stored_of w) new.method)) new.method.0
  code = code_there (stored_of w) k new.method ready.sound.holds can.method can.code

  pub copied : Copied os new.closure.0 copies (copied_values k (name_of (stored_of w) new.closure))
  copied = copied_there (stored_of w) k new.closure copies ready.sound.holds can.closure can.copied

  pub there : new.args < length o.f.stack
  there = omega (arith, can.there, depth_read o)

  -- few enough for a page
  pub few : new.args + (new.fill + copies) ≤ 56
  few = omega (arith, can.fits, size_most (obj.header_in (object_of k (name_of (stored_of w) new.method))))

  nil_name : ref_of os nil ≡ nil_of k
  nil_name = (nil_names (stored_of w) k (record { 0 = nil }) ready.sound refl).is

  nil_named : is_reference os nil ≡ true
  nil_named = (nil_names (stored_of w) k (record { 0 = nil }) ready.sound refl).sound

  abbrev values : List ℕ
  values = drop (length o.f.stack - new.args) o.f.stack ++ (replicate new.fill nil ++ copied_at os new.closure.0 copies)

  stack_moves : map (ref_of os) values ≡ last_values new.args (stack_of k) ++ begun_stack (stored_of w) k new copies
  stack_moves =
      map-append (ref_of os) (drop (length o.f.stack - new.args) o.f.stack) (replicate new.fill nil ++ copied_at os new.closure.0 copies)
      ∙ ap₂ (λ (ys zs : List Ref). ys ++ zs)
      (sym (drop-map (ref_of os) (length o.f.stack - new.args) o.f.stack) ∙ ap (λ ys. drop (length o.f.stack - new.args) ys) (sym (stack_read o)) ∙ ap (λ n. drop (n - new.args) (stack_of k)) (sym (depth_read o)))
      (map-append (ref_of os) (replicate new.fill nil) (copied_at os new.closure.0 copies)
      ∙ ap₂ (λ (ys zs : List Ref). ys ++ zs) (map-replicate (ref_of os) new.fill nil ∙ ap (replicate new.fill) nil_name) copied.refer)

  new_context : (at sender : ℕ) (gs : List Frame) → frame_sender os (entered at sender) gs ≡ ref.Obj (active_birth k) → frame_context os (entered at sender) gs ≡ begun_context (stored_of w) k new pc copies
  unfolding frame_context
  new_context at sender gs from = λ i. record {
    hash = 0;
    sender = from i;
    pc = natural_of_word pc.0;
    method = name_of (stored_of w) new.method;
    closure = name_of (stored_of w) new.closure;
    receiver = name_of (stored_of w) new.receiver;
    stack = stack_moves i;
    size = ap context_size code.header_is i;
  }

  -- ---- its frame

  pub long : length values ≡ new.args + (new.fill + copies)
  long =
      let drops = length-drop (length o.f.stack - new.args) o.f.stack in
      let nils = length-replicate new.fill nil in
      let behind = length-append (replicate new.fill nil) (copied_at os new.closure.0 copies) in
      let all = length-append (drop (length o.f.stack - new.args) o.f.stack) (replicate new.fill nil ++ copied_at os new.closure.0 copies) in
      omega (arith, drops, nils, behind, all, there, copied.long)

  size_fits : length values ≤ context_size (header_at os new.method.0)
  size_fits = subst (λ h. length values ≤ context_size h) (sym code.header_is) (omega (arith, long, can.fits))

  pub new_fits : (at sender : ℕ) (gs : List Frame) → at ≡ frames_used gs → at + 66 ≤ 4096 → Lacks w.roots.next_birth gs → HasSender os (entered at sender) gs
      → FrameFits os (w.roots.next_birth + 1) (entered at sender) gs
  new_fits at sender gs stands room apart from = record {
    names = record {
      closure = closure_word (stored_of w) k new.closure ready.sound can.closure can.kind;
      receiver = can.receiver;
      stack = All-append (λ (u : ℕ). is_reference os u ≡ true) (drop (length o.f.stack - new.args) o.f.stack) (replicate new.fill nil ++ copied_at os new.closure.0 copies)
          (All-drop (λ (u : ℕ). is_reference os u ≡ true) (length o.f.stack - new.args) o.f.stack o.fits.names.stack)
          (All-append (λ (u : ℕ). is_reference os u ≡ true) (replicate new.fill nil) (copied_at os new.closure.0 copies)
          (All-replicate (λ (u : ℕ). is_reference os u ≡ true) new.fill nil nil_named) copied.named);
    };
    lies = ap (λ p. lies_if_index p (natural_of_word pc.0)) code.means ∙ can.lies;
    fits = size_fits;
    stands = stands;
    room = room;
    birth = omega (arith, can.birth);
    apart = subst (λ n. Lacks n gs) (sym can.birth) apart;
    sender = from;
    alone = λ _. ap (get (objects_of os)) can.birth ∙ get-objects_of-fresh os w.roots.next_birth (next_is_fresh os w.classes w.roots good.whole);
  }

  pub new_married : (p at sender : ℕ) → at < 4096 → marriage.FrameAgrees os (record { page = p; at = at }) (entered at sender)
  new_married p at sender within = record {
    within = within;
    method = code.method;
    stack = size_fits;
    married = λ some. absurd (some refl);
  }

  -- its pc is a number
  pub new_pc : IsPc pc.0
  new_pc = number_pc pc.0 (some_pc (object_of k (name_of (stored_of w) new.method)) (natural_of_word pc.0) can.lies)

  -- what it is given to hold is no link
  pub new_values : HoldsValues new
  new_values = record {
    method = reference_value os new.method.0 can.method;
    closure = reference_value os new.closure.0 can.closure;
    receiver = reference_value os new.receiver.0 can.receiver;
  }

  pub copied_values_hold : (i : ℕ) → i < copies → IsValue (slot_of os new.closure.0 (3 + i))
  copied_values_hold i h = reference_value os (slot_of os new.closure.0 (3 + i)) (copied.each i h)

  -- ---- the state

  abbrev w1 : Parts
  w1 = cut_parts w o new.args

  pub entered_state : (m at sender : ℕ) (order : Order) (fit : CanAdd w1 m (entered at sender) order) → frame_sender os (entered at sender) (frames_of w1.frames m) ≡ ref.Obj (active_birth k)
      → view_of (added_parts w1 m (entered at sender) order) ≡ begun_state (stored_of w) k new pc copies
  unfolding enter_with drop_of put
  entered_state m at sender order fit from =
      let cut_done = cut_edited w good o new.args in
      added_view w1 cut_done.good m (entered at sender) order fit
      ∙ ap₂ begun_kept cut_done.view (new_context at sender (frames_of w1.frames m) from)
