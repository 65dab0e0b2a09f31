-- The words of the state are at least those of the heap: each object is there, a frame that is married counts as its context, and a frame
-- without a context counts beside the heap.
use Rattle.std.proofs.Common.{◌≡◌, ◌≢◌, inl, inr, ℕ, ◌+◌, ◌-◌, ◌≤◌, sym, ap, subst, ◌∙◌, Option, None, List, [], length, arith}
use Rattle.std.specs.Option.{option_map_or}
use Rattle.std.specs.FinMap.{get}
use Rattle.std.proofs.lemmas.Bool.{cases_eq}
use Rattle.cs_heap.specs.Object.{Object, size, used}
use Rattle.cs_frame.specs.Frame.{Frame, nil}
use Rattle.cs_frame.specs.Page as page
use Rattle.cs_frame.specs.Page.{frames_of}
use Rattle.cs_marriage.specs.Agree.{frame_size}
use Rattle.cs_marriage.proofs.Agreeing.{size_some}
use Rattle.cs_model.specs.Obj.{words_of}
use Rattle.cs_model.specs.State.{object_at}
use Rattle.cs_classes.specs.Meaning.{objects_of, ref_of}
use Rattle.cs_classes.proofs.Sounds.{whole_context}
use Rattle.cs_model.specs.Demand.{words_taken, words_held}
use Rattle.cs_stack.specs.declared.parts.Parts.{Parts}
use Rattle.cs_stack.specs.View.{bare, frame_context, unframed, view_of}
use Rattle.cs_stack.specs.Good.{IsGood}
use Rattle.cs_stack.proofs.Bare.{bare_element, bare_none, bare_used, bare_whole, unframed_length, unframed_sound}
use Rattle.cs_stack.proofs.Framed.{Bare, Framed, IsOn, Which, all_fit, fits_on, onto_bare, onto_frame, which}
use Rattle.cs_stack.proofs.Places.{married_on, spouse}
use Rattle.cs_classes.proofs.Counting.{heap_words, words_by, words_by-gap, words_by-less, words_by-state, words_of-sound}

module _ (w : Parts) (good : IsGood w) where
  abbrev os : List Object
  os = w.heap.objects

  bare_words : words_by w.roots.next_birth (λ i. get (objects_of (bare os)) i) ≡ used os
  bare_words =
      let whole = bare_whole os w.classes w.roots good.whole in
      heap_words (bare os) w.roots.next_birth whole.heap.apart whole.births whole.heap.each ∙ bare_used os

  -- a frame counts as a context of its size
  frame_words : {f : Frame} {gs : List Frame} (p : ℕ) → IsOn f gs (frames_of w.frames p) → words_taken (object_at (view_of w) f.birth) ≡ size (6 + frame_size os f)
  unfolding frame_context
  frame_words p on = ap words_taken (onto_frame os w.roots.next_birth w.frames (objects_of (bare os)) p (all_fit w good) on)

  -- where it has none in the heap, nothing stands there
  none_there : {f : Frame} {gs : List Frame} (p : ℕ) → IsOn f gs (frames_of w.frames p) → f.context ≡ nil → get (objects_of (bare os)) f.birth ≡ None
  none_there {f = f} p on none = bare_none os f.birth good.whole.heap ((fits_on os w.roots.next_birth on (good.frames p)).alone none)

  married_words : {f : Frame} {gs : List Frame} (p : ℕ) → IsOn f gs (frames_of w.frames p) → f.context ≢ nil → words_taken (get (objects_of (bare os)) f.birth) ≡ size (6 + frame_size os f)
  married_words {f = f} p on some =
      let s = spouse os (page.frame_ref p f) f (married_on w good p on some) in
      let sound = good.whole.heap.each s.place s.object s.element in
      let fields = (whole_context os s.object sound s.context).fields in
      let slots = ap (λ (o : Option Object). option_map_or (λ (y : Object). length y.words) o 0) s.there in
      ap (λ b. words_taken (get (objects_of (bare os)) b)) (sym s.birth)
      ∙ ap words_taken (bare_element os s.place s.object good.whole.heap s.element)
      ∙ words_of-sound os (unframed s.object) (unframed_sound os s.object good.whole.first good.whole.nil sound)
      ∙ ap size (omega (arith, unframed_length s.object, fields, slots, size_some os f some))

  less : (i : ℕ) → words_taken (get (objects_of (bare os)) i) ≤ words_taken (object_at (view_of w) i)
  less i = go (which i w.frames)
    where
      framed : (p : ℕ) (f : Frame) (gs : List Frame) → IsOn f gs (frames_of w.frames p) → words_taken (get (objects_of (bare os)) f.birth) ≤ words_taken (object_at (view_of w) f.birth)
      framed p f gs on = elim (cases_eq f.context nil) [
        | inl none ↦ omega (arith, ap words_taken (none_there p on none))
        | inr some ↦ omega (arith, married_words p on some, frame_words p on)
      ]

      go : Which i w.frames → words_taken (get (objects_of (bare os)) i) ≤ words_taken (object_at (view_of w) i)
      go (Framed p f gs on is) = subst (λ b. words_taken (get (objects_of (bare os)) b) ≤ words_taken (object_at (view_of w) b)) (sym is) (framed p f gs on)
      go (Bare l) = omega (arith, ap words_taken (onto_bare os w.frames (objects_of (bare os)) i l))

  pub words_heap : used w.heap.objects ≤ words_held (view_of w)
  words_heap = omega (
    arith,
    bare_words,
    words_by-less w.roots.next_birth (λ i. get (objects_of (bare os)) i) (object_at (view_of w)) less,
    words_by-state w.roots.next_birth (view_of w),
  )

  pub words_frame : {f : Frame} {gs : List Frame} (p : ℕ) → IsOn f gs (frames_of w.frames p) → f.context ≡ nil → used w.heap.objects + size (6 + frame_size w.heap.objects f) ≤ words_held (view_of w)
  words_frame {f = f} p on none = omega (
    arith,
    bare_words,
    words_by-gap w.roots.next_birth f.birth (size (6 + frame_size os f)) (λ i. get (objects_of (bare os)) i) (object_at (view_of w))
        (fits_on os w.roots.next_birth on (good.frames p)).birth (omega (arith, ap words_taken (none_there p on none), frame_words p on)) less,
    words_by-state w.roots.next_birth (view_of w),
  )
