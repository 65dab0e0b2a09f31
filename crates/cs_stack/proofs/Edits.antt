-- What each write to the last frame does to the world, and what is read of that frame.
use Rattle.std.proofs.Common.{◌≡◌, ℕ, pos, ◌-◌, ◌<◌, ◌^◌, true, refl, sym, ap, ap₂, subst, ◌∙◌, Some, List, [], ◌∷◌, ◌++◌, length, length-take, map, take, arith, option_map, unwrap_or, suc, inl, inr}
use Rattle.std.specs.Prelude.{slice_get, slice_index, slice_set, if◌then◌else◌}
use Rattle.std.proofs.lemmas.List.{length-append, length-map, length-set}
use Rattle.std.proofs.lemmas.List.Elements.{All-get_or, All-push, All-set, All-take}
use Rattle.std.proofs.lemmas.Option.{slice_get-get_or, slice_get-map}
use Rattle.std.proofs.lemmas.Bool.Decides.{eqb_tells}
use Rattle.cs_word.specs.declared.Oop.{Oop}
use Rattle.cs_word.specs.Word.{small_word, natural_of_word}
use Rattle.cs_classes.specs.Meaning.{meaning_at, ref_of}
use Rattle.cs_classes.specs.Sound.{is_reference}
use Rattle.cs_classes.proofs.Heaps.{is_object-object_at}
use Rattle.cs_classes.proofs.Refs.{count_of-small, is_reference-object}
use Rattle.cs_frame.specs.declared.FrameRef.{FrameRef}
use Rattle.cs_frame.specs.Frame.{Frame}
use Rattle.cs_frame.specs.Frame as frames
use Rattle.cs_frame.specs.Page as page
use Rattle.cs_frame.specs.Page.{IsFrame, frames_of, on_frame, on_page, on_top, frames_used}
use Rattle.cs_marriage.specs.Agree.{Agree, frame_size}
use Rattle.cs_marriage.proofs.Laws.{KeepsTies, agree_on_frame, agree_popped, agree_pushed, ties_saved_pc, ties_slot}
use Rattle.cs_model.specs.Ref.{Ref}
use Rattle.cs_model.specs.Obj.{Context, lies_in}
use Rattle.cs_model.specs.Obj as obj
use Rattle.cs_model.specs.State.{object_of}
use Rattle.cs_model.specs.Context.{lies_if_index}
use Rattle.cs_model.specs.Read.{active_context, depth_of, method_of, pc_of, size_of, stack_of}
use Rattle.cs_model.specs.Operation.{nil_of}
use Rattle.cs_acts.specs.Names.{IsNamed, Names, name_of}
use Rattle.cs_acts.proofs.Sizes.{pc_small}
use Rattle.cs_stack.specs.declared.parts.Parts.{Parts}
use Rattle.cs_stack.specs.View.{active_page, frame_context, stored_of, view_of}
use Rattle.cs_stack.specs.Good.{IsGood}
use Rattle.cs_stack.specs.Moved.{active_number}
use Rattle.cs_stack.proofs.Lives.{Lives, lives}
use Rattle.cs_stack.proofs.Closed.{good_sound, method_there}
use Rattle.cs_stack.proofs.Framed.{IsOn}
use Rattle.cs_stack.proofs.Framed as framed
use Rattle.cs_stack.proofs.Places.{good_stacked, room_free}
use Rattle.cs_stack.proofs.Tops.{Edited, Opened, edited, with_frames}
use Rattle.cs_stack.proofs.Changes.{context_pc, context_popped, context_pushed, context_stored, fits_pc, fits_stack, stack_is}

-- the reference to the last frame of the most recent page
abbrev pub active_ref : Parts → FrameRef
active_ref w = page.frame_ref (active_number w) (page.top (active_page w))

module _ {w : Parts} (good : IsGood w) (o : Opened w) where
  -- ---- the last frame by its place

  pub top_ref : (r : FrameRef) → r ≡ active_ref w → r ≡ page.frame_ref o.p o.f
  top_ref r is = is ∙ ap₂ (λ rs fs. page.frame_ref (slice_index rs 0) (page.top fs)) o.recent o.page_is

  here : page.index_in w.frames (page.frame_ref o.p o.f) ≡ 0
  here = ap (λ fs. page.frame_index fs o.f.at) o.is ∙ elim (eqb_tells o.f.at o.f.at) [
    | inl e ↦ ap (λ b. if b then 0 else suc (page.frame_index o.fs o.f.at)) e.0
    | inr e ↦ absurd (e.1 refl)
  ]

  pub top_on : IsOn o.f o.fs (frames_of w.frames o.p)
  top_on = subst (IsOn o.f o.fs) (sym o.is) framed.here

  pub top_frame : (r : FrameRef) → r ≡ active_ref w → page.frame w.frames r ≡ o.f
  top_frame r is =
      ap (λ q. page.frame w.frames q) (top_ref r is) ∙ ap (page.nth (frames_of w.frames o.p)) here ∙ ap (λ fs. page.nth fs 0) o.is

  pub top_is_frame : (r : FrameRef) → r ≡ active_ref w → IsFrame w.frames r
  top_is_frame r is = subst (λ q. IsFrame w.frames q) (sym (top_ref r is)) (omega (arith, here, ap length o.is))

  pub top_changed : (r : FrameRef) (g : Frame → Frame) → r ≡ active_ref w → on_frame w.frames r g ≡ on_page w.frames o.p (λ _. g o.f ∷ o.fs)
  top_changed r g is =
      ap (λ q. on_frame w.frames q g) (top_ref r is) ∙ ap (λ k. on_page w.frames o.p (page.on_nth k g)) here
      ∙ ap (λ fs. slice_set w.frames o.p (page.on_nth 0 g fs)) o.is

  pub page_changed : (r : FrameRef) (g : Frame → Frame) → r ≡ active_ref w → on_page w.frames r.page (on_top g) ≡ on_page w.frames o.p (λ _. g o.f ∷ o.fs)
  page_changed r g is = ap (λ q. on_page w.frames q.page (on_top g)) (top_ref r is) ∙ ap (λ fs. slice_set w.frames o.p (on_top g fs)) o.is

  pub page_top : (r : FrameRef) → r ≡ active_ref w → frames_of w.frames r.page ≡ o.f ∷ o.fs
  page_top r is = ap (λ q. frames_of w.frames q.page) (top_ref r is) ∙ o.is

  -- ---- what is read

  pub stack_read : stack_of (view_of w) ≡ map (ref_of w.heap.objects) o.f.stack
  stack_read = ap (λ (c : Context). c.stack) o.context ∙ stack_is w.heap.objects w.roots.next_birth o.f o.fs

  pub depth_read : depth_of (view_of w) ≡ length o.f.stack
  depth_read = ap length stack_read ∙ length-map o.f.stack (ref_of w.heap.objects)

  pub size_read : size_of (view_of w) ≡ frame_size w.heap.objects o.f
  unfolding frame_context
  size_read = ap (λ (c : Context). c.size) o.context

  live : Lives w.heap.objects o.f.method (natural_of_word o.f.saved_pc)
  live = lives w.heap.objects o.f.method (natural_of_word o.f.saved_pc) o.fits.lies

  pub pc_read : unwrap_or (natural_of_word o.f.saved_pc) 0 ≡ pc_of (view_of w)
  unfolding frame_context
  pc_read = sym (ap (λ (c : Context). unwrap_or c.pc 0) o.context)

  pub method_named : is_reference w.heap.objects o.f.method ≡ true
  method_named = is_reference-object w.heap.objects o.f.method (is_object-object_at w.heap.objects o.f.method live.object live.there)

  pub method_name : ref_of w.heap.objects o.f.method ≡ (active_context (view_of w)).method
  unfolding frame_context
  method_name = sym (ap (λ (c : Context). c.method) o.context)

  pub receiver_name : ref_of w.heap.objects o.f.receiver ≡ (active_context (view_of w)).receiver
  unfolding frame_context
  receiver_name = sym (ap (λ (c : Context). c.receiver) o.context)

  -- a word that is read names what the state has there
  pub names_word : (v : Oop) (word : ℕ) (y : Ref) → v.0 ≡ word → is_reference w.heap.objects word ≡ true → ref_of w.heap.objects word ≡ y → Names (stored_of w) v y
  names_word v word y is named means = record { sound = ap (is_reference w.heap.objects) is ∙ named; is = ap (ref_of w.heap.objects) is ∙ means }

  pub value_named : (i : ℕ) → i < length o.f.stack → is_reference w.heap.objects (slice_index o.f.stack i) ≡ true
  value_named i there = All-get_or (λ (u : ℕ). is_reference w.heap.objects u ≡ true) o.f.stack i 0 there o.fits.names.stack

  pub value_name : (i : ℕ) (d : Ref) → i < length o.f.stack → ref_of w.heap.objects (slice_index o.f.stack i) ≡ unwrap_or (slice_get (stack_of (view_of w)) i) d
  value_name i d there =
      let got : slice_get o.f.stack i ≡ Some (slice_index o.f.stack i) = slice_get-get_or o.f.stack i 0 there in
      sym (ap (λ (xs : List Ref). unwrap_or (slice_get xs i) d) stack_read
      ∙ ap (λ x. unwrap_or x d) (slice_get-map (ref_of w.heap.objects) o.f.stack i ∙ ap (option_map (ref_of w.heap.objects)) got))

  -- ---- what is written

  method_is : method_of (view_of w) ≡ meaning_at w.heap.objects o.f.method
  unfolding method_of
  method_is = ap (object_of (view_of w)) (sym method_name) ∙ method_there w good o.f.method (natural_of_word o.f.saved_pc) live

  pub pc_fits : (pc : ℕ) → lies_in (method_of (view_of w)) pc ≡ true → pc < 2 ^ 29
  unfolding method_of
  pc_fits pc lies = pc_small (stored_of w) (view_of w) (record { 0 = o.f.method }) pc (good_sound w good).holds method_named
      (ap (λ m. lies_in (object_of (view_of w) m) pc) method_name ∙ lies)

  -- heap and frames agree where the last frame keeps what ties it to the heap
  agree_changed : (r : FrameRef) (g : Frame → Frame) (ps : List (List Frame)) → KeepsTies g → r ≡ active_ref w → ps ≡ on_frame w.frames r g → Agree w.heap.objects ps
  agree_changed r g ps ties is new = subst (Agree w.heap.objects) (sym new) (agree_on_frame w.heap.objects w.frames r g ties good.agree (top_is_frame r is))

  pub pc_edited : (pc : ℕ) (v : ℕ) (r : FrameRef) (ps : List (List Frame)) → lies_in (method_of (view_of w)) pc ≡ true → v ≡ small_word (pos pc)
      → r ≡ active_ref w → ps ≡ on_frame w.frames r (frames.with_saved_pc v) → Edited w (with_frames w ps) (obj.with_pc (Some pc))
  pc_edited pc v r ps lies word is new =
      let count : natural_of_word v ≡ Some pc = ap natural_of_word word ∙ count_of-small pc (omega (arith, pc_fits pc lies)) in
      let there : lies_if_index (meaning_at w.heap.objects o.f.method) (natural_of_word v) ≡ true =
      ap (lies_if_index (meaning_at w.heap.objects o.f.method)) count ∙ ap (λ m. lies_in m pc) (sym method_is) ∙ lies in
      edited w good o (frames.with_saved_pc v o.f) (obj.with_pc (Some pc)) ps (new ∙ top_changed r (frames.with_saved_pc v) is) refl refl refl refl
      (agree_changed r (frames.with_saved_pc v) ps (ties_saved_pc v) is new)
      (fits_pc w.heap.objects w.roots.next_birth o.f v o.fs o.fits there)
      (context_pc w.heap.objects w.roots.next_birth o.f v o.fs ∙ ap (λ p. obj.with_pc p (frame_context w.heap.objects o.f o.fs)) count)

  push_agree : (v : Oop) (r : FrameRef) (ps : List (List Frame)) → depth_of (view_of w) < size_of (view_of w) → r ≡ active_ref w → ps ≡ on_page w.frames r.page (on_top (frames.value_pushed v.0)) → Agree w.heap.objects ps
  push_agree v r ps room is new =
      let at : r.page ≡ o.p = ap (λ (q : FrameRef). q.page) (top_ref r is) in
      subst (Agree w.heap.objects) (ap (λ n. on_page w.frames n (on_top (frames.value_pushed v.0))) (sym at) ∙ sym new)
      (agree_pushed w.heap.objects w.frames o.p v.0 good.agree o.within (good_stacked w good o.p)
      (subst (λ fs. length (page.top fs).stack < frame_size w.heap.objects (page.top fs)) (sym o.is) (omega (arith, depth_read, size_read, room))))

  pop_agree : (r : FrameRef) (ps : List (List Frame)) → r ≡ active_ref w → ps ≡ on_page w.frames r.page (on_top frames.top_popped) → Agree w.heap.objects ps
  pop_agree r ps is new =
      let at : r.page ≡ o.p = ap (λ (q : FrameRef). q.page) (top_ref r is) in
      subst (Agree w.heap.objects) (ap (λ n. on_page w.frames n (on_top frames.top_popped)) (sym at) ∙ sym new)
      (agree_popped w.heap.objects w.frames o.p good.agree o.within (good_stacked w good o.p))

  pub push_edited : (v : Oop) (r : FrameRef) (ps : List (List Frame)) → IsNamed (stored_of w) v → depth_of (view_of w) < size_of (view_of w)
      → r ≡ active_ref w → ps ≡ on_page w.frames r.page (on_top (frames.value_pushed v.0)) → Edited w (with_frames w ps) (obj.pushed (name_of (stored_of w) v))
  push_edited v r ps named room is new =
      edited w good o (frames.value_pushed v.0 o.f) (obj.pushed (name_of (stored_of w) v)) ps (new ∙ page_changed r (frames.value_pushed v.0) is) refl refl refl refl
      (push_agree v r ps room is new)
      (fits_stack w.heap.objects w.roots.next_birth o.f (o.f.stack ++ v.0 ∷ []) o.fs o.fits
      (All-push (λ (u : ℕ). is_reference w.heap.objects u ≡ true) o.f.stack v.0 o.fits.names.stack named)
      (omega (arith, length-append o.f.stack (v.0 ∷ []), depth_read, size_read, room)))
      (context_pushed w.heap.objects w.roots.next_birth o.f v.0 o.fs)

  pub push_room : (r : FrameRef) → r ≡ active_ref w → depth_of (view_of w) < size_of (view_of w) → frames_used (frames_of w.frames r.page) < 4096
  push_room r is room = subst (λ p. frames_used p < 4096) (sym (page_top r is))
      (room_free w good o.p top_on (omega (arith, depth_read, size_read, room)))

  pub pop_edited : (r : FrameRef) (ps : List (List Frame)) → r ≡ active_ref w → ps ≡ on_page w.frames r.page (on_top frames.top_popped) → Edited w (with_frames w ps) (obj.popped 1)
  pop_edited r ps is new =
      edited w good o (frames.top_popped o.f) (obj.popped 1) ps (new ∙ page_changed r frames.top_popped is) refl refl refl refl
      (pop_agree r ps is new)
      (fits_stack w.heap.objects w.roots.next_birth o.f (take (length o.f.stack - 1) o.f.stack) o.fs o.fits
      (All-take (λ (u : ℕ). is_reference w.heap.objects u ≡ true) (length o.f.stack - 1) o.f.stack o.fits.names.stack)
      (omega (arith, length-take (length o.f.stack - 1) o.f.stack, o.fits.fits)))
      (context_popped w.heap.objects w.roots.next_birth o.f o.fs)

  pub stack_edited : (i : ℕ) (v : Oop) (r : FrameRef) (ps : List (List Frame)) → IsNamed (stored_of w) v
      → r ≡ active_ref w → ps ≡ on_frame w.frames r (frames.with_value i v.0) → Edited w (with_frames w ps) (obj.stored i (name_of (stored_of w) v))
  stack_edited i v r ps named is new =
      edited w good o (frames.with_value i v.0 o.f) (obj.stored i (name_of (stored_of w) v)) ps (new ∙ top_changed r (frames.with_value i v.0) is) refl refl refl refl
      (agree_changed r (frames.with_value i v.0) ps (ties_slot i v.0) is new)
      (fits_stack w.heap.objects w.roots.next_birth o.f (slice_set o.f.stack i v.0) o.fs o.fits
      (All-set (λ (u : ℕ). is_reference w.heap.objects u ≡ true) o.f.stack i v.0 named o.fits.names.stack)
      (omega (arith, length-set o.f.stack i v.0, o.fits.fits)))
      (context_stored w.heap.objects w.roots.next_birth o.f i v.0 o.fs)

  -- the value that leaves a stack was the topmost one
  last_value : (xs ys : List ℕ) (x : ℕ) → xs ≡ ys ++ x ∷ [] → x ≡ slice_index xs (length xs - 1)
  last_value xs ys x e = at ys ∙ sym (ap (λ zs. slice_index zs (length zs - 1)) e ∙ ap (λ n. slice_index (ys ++ x ∷ []) (n - 1)) (length-append ys (x ∷ [])) ∙ ap (λ n. slice_index (ys ++ x ∷ []) n) (omega arith))
    where
      at : (zs : List ℕ) → x ≡ slice_index (zs ++ x ∷ []) (length zs)
      at [] = refl
      at (z ∷ zs) = at zs

  pub pop_names : (v : Oop) (xs ys : List ℕ) → 0 < depth_of (view_of w) → xs ≡ o.f.stack → xs ≡ ys ++ v.0 ∷ []
      → Names (stored_of w) v (unwrap_or (slice_get (stack_of (view_of w)) (depth_of (view_of w) - 1)) (nil_of (view_of w)))
  pop_names v xs ys some is last =
      let there : length o.f.stack - 1 < length o.f.stack = omega (arith, depth_read, some) in
      names_word v (slice_index o.f.stack (length o.f.stack - 1)) _ (last_value xs ys v.0 last ∙ ap (λ zs. slice_index zs (length zs - 1)) is) (value_named (length o.f.stack - 1) there)
      (value_name (length o.f.stack - 1) (nil_of (view_of w)) there ∙ ap (λ n. unwrap_or (slice_get (stack_of (view_of w)) (n - 1)) (nil_of (view_of w))) (sym depth_read))
