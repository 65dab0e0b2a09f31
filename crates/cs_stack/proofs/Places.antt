-- Frames by the places where they begin, and the contexts to which they are married.
use Rattle.std.proofs.Common.{◌≡◌, ◌≢◌, ℕ, suc, ◌<◌, ◌≤◌, ◌^◌, Bool, true, false, refl, sym, ap, subst, ◌∙◌, Option, Some, List, [], ◌∷◌, length, inl, inr, arith}
use Rattle.std.specs.Prelude.{◌==◌, ◌/◌, ◌%◌, if◌then◌else◌, slice_get}
use Rattle.std.specs.Option.{option_map_or}
use Rattle.std.specs.FinMap.{get}
use Rattle.std.proofs.lemmas.Bool.{cases_eq, eq-eqb}
use Rattle.cs_heap.specs.Object.{Object, heap_object}
use Rattle.cs_classes.specs.Meaning.{is_heap_context, obj_of, objects_of, ref_of}
use Rattle.cs_classes.proofs.Heaps.{birth_of-object_at, object_there, stands}
use Rattle.cs_frame.specs.declared.FrameRef.{FrameRef}
use Rattle.cs_frame.specs.Frame.{Frame, nil}
use Rattle.cs_frame.specs.Page as page
use Rattle.cs_frame.specs.Page.{IsFrame, AreStacked, frame, frames_of, index_in, frame_index, nth}
use Rattle.cs_frame.proofs.PageLaws.{index_of-nth}
use Rattle.cs_marriage.specs.Agree as agree
use Rattle.cs_marriage.specs.Agree.{AreMarried}
use Rattle.cs_marriage.proofs.Agreeing.{size_none, size_some}
use Rattle.cs_marriage.proofs.Objects.{context_there}
use Rattle.cs_model.specs.Obj.{Obj, context_size}
use Rattle.cs_model.specs.Obj as obj
use Rattle.cs_stack.specs.declared.parts.Parts.{Parts}
use Rattle.cs_stack.specs.Good.{FramesFit, IsGood, Lacks}
use Rattle.cs_stack.proofs.Framed.{IsOn, above, fits_on, here}
use Rattle.cs_stack.proofs.Bare.{a_context, meaning_there}

-- frames that fit lie on each other
pub stacked : (os : List Object) (next : ℕ) (fs : List Frame) → FramesFit os next fs → AreStacked fs
stacked os next [] fit = tt
stacked os next (f ∷ fs) fit = (fit.0.stands, stacked os next fs fit.1)

pub good_stacked : (w : Parts) → IsGood w → (p : ℕ) → AreStacked (frames_of w.frames p)
good_stacked w good p = stacked w.heap.objects w.roots.next_birth (frames_of w.frames p) (good.frames p)

-- how many frames stand above this one
pub record Above (f : Frame) (fs : List Frame) : Type 0 where
  pub count : ℕ
  pub within : count < length fs
  pub is : nth fs count ≡ f

pub above_on : {f : Frame} {gs fs : List Frame} → IsOn f gs fs → Above f fs
above_on here = record { count = 0; within = omega arith; is = refl }
above_on (above e es on) = let a = above_on on in record { count = suc a.count; within = omega (arith, a.within); is = a.is }

-- the frame begins where it says
pub record BeginsAt (ps : List (List Frame)) (p : ℕ) (f : Frame) : Type 0 where
  pub there : IsFrame ps (page.frame_ref p f)
  pub is : frame ps (page.frame_ref p f) ≡ f

pub begins_on : {f : Frame} {gs : List Frame} (ps : List (List Frame)) (p : ℕ) → AreStacked (frames_of ps p) → IsOn f gs (frames_of ps p) → BeginsAt ps p f
begins_on {f = f} ps p st on =
    let a = above_on on in
    let index : frame_index (frames_of ps p) f.at ≡ a.count =
    ap (λ (g : Frame). frame_index (frames_of ps p) g.at) (sym a.is) ∙ index_of-nth (frames_of ps p) a.count st a.within in
    record { there = omega (arith, index, a.within); is = ap (nth (frames_of ps p)) index ∙ a.is }

-- what heap and frames agree on for a frame
pub agreed : {f : Frame} {gs : List Frame} (w : Parts) → IsGood w → (p : ℕ) → IsOn f gs (frames_of w.frames p) → agree.FrameAgrees w.heap.objects (page.frame_ref p f) f
agreed {f = f} w good p on =
    let b = begins_on w.frames p (good_stacked w good p) on in
    subst (agree.FrameAgrees w.heap.objects (page.frame_ref p f)) b.is (good.agree.frames (page.frame_ref p f) b.there)

pub married_on : {f : Frame} {gs : List Frame} (w : Parts) → IsGood w → (p : ℕ) → IsOn f gs (frames_of w.frames p) → f.context ≢ nil → AreMarried w.heap.objects (page.frame_ref p f) f
married_on w good p on some = (agreed w good p on).married some

-- the object of a context that has a frame
pub record SpouseOf (os : List Object) (f : Frame) : Type 0 where
  pub place : ℕ
  pub object : Object
  pub there : heap_object os f.context ≡ Some object
  pub element : slice_get os place ≡ Some object
  pub context : is_heap_context object ≡ true
  pub birth : object.birth ≡ f.birth

pub spouse : (os : List Object) (r : FrameRef) (f : Frame) → AreMarried os r f → SpouseOf os f
spouse os r f m =
    let x = object_there os f.context (context_there os f.context m.context) in
    let s = stands os f.context x.0 x.1 in
    record {
      place = s.0;
      object = x.0;
      there = x.1;
      element = s.1.element;
      context = eq-eqb x.0.class 36 (ap (λ (o : Option Object). option_map_or (λ (y : Object). y.class) o 0) (sym x.1) ∙ m.context.class);
      birth = sym (birth_of-object_at os f.context x.0 x.1) ∙ m.birth;
    }

-- ---- what is no context of the heap is hidden by no frame

-- at a frame's birth the heap has a context, if anything
pub hidden : {f : Frame} {gs : List Frame} (w : Parts) → IsGood w → (p : ℕ) → IsOn f gs (frames_of w.frames p) → (o : Obj) → get (objects_of w.heap.objects) f.birth ≡ Some o → obj.is_context o ≡ true
hidden {f = f} w good p on o e = elim (cases_eq f.context nil) [
  | inl none ↦ absurd (let no = (fits_on w.heap.objects w.roots.next_birth on (good.frames p)).alone none in cc)
  | inr some ↦
      let s = spouse w.heap.objects (page.frame_ref p f) f (married_on w good p on some) in
      let means : Some (obj_of (ref_of w.heap.objects) s.object) ≡ Some o =
      sym (meaning_there w.heap.objects f.context s.object good.whole.heap s.there) ∙ ap (get (objects_of w.heap.objects)) s.birth ∙ e in
      let is : obj_of (ref_of w.heap.objects) s.object ≡ o = cc in
      ap obj.is_context (sym is) ∙ a_context (ref_of w.heap.objects) s.object s.context
]

pub plain_lacks : (w : Parts) → IsGood w → (i : ℕ) (o : Obj) → get (objects_of w.heap.objects) i ≡ Some o → obj.is_context o ≡ false → (p : ℕ) → Lacks i (frames_of w.frames p)
plain_lacks w good i o e other p = go (frames_of w.frames p) (λ f gs on. on)
  where
    go : (fs : List Frame) → ((f : Frame) (gs : List Frame) → IsOn f gs fs → IsOn f gs (frames_of w.frames p)) → Lacks i fs
    go [] within = tt
    go (f ∷ fs) within = (
      λ s. absurd (let is = hidden w good p (within f fs here) o (ap (get (objects_of w.heap.objects)) (sym s) ∙ e) in cc),
      go fs (λ g gs on. within g gs (above f fs on)),
    )

-- ---- sizes

size_at_most : (header : ℕ) → context_size header ≤ 56
size_at_most header = go (header / 2 ^ 17 % 2 == 1)
  where
    go : (b : Bool) → (if b then 56 else 16) ≤ 56
    go true = omega arith
    go false = omega arith

-- a stack has room for 56 values at most
pub size_few : {f : Frame} {gs : List Frame} (w : Parts) → IsGood w → (p : ℕ) → IsOn f gs (frames_of w.frames p) → agree.frame_size w.heap.objects f ≤ 56
size_few {f = f} w good p on = elim (cases_eq f.context nil) [
  | inl none ↦ omega (arith, size_none w.heap.objects f none, size_at_most (agree.header_at w.heap.objects f.method))
  | inr some ↦ omega (arith, size_some w.heap.objects f some, (married_on w good p on some).context.slots)
]

-- a stack that isn't full leaves a word free, and the frames of a page have at most its words
pub room_free : {f : Frame} {gs : List Frame} (w : Parts) → IsGood w → (p : ℕ) → IsOn f gs (frames_of w.frames p) → length f.stack < agree.frame_size w.heap.objects f → page.frames_used (f ∷ gs) < 4096
room_free w good p on short =
    let fits = fits_on w.heap.objects w.roots.next_birth on (good.frames p) in omega (arith, short, size_few w good p on, fits.stands, fits.room)

pub page_few : {f : Frame} {gs : List Frame} (w : Parts) → IsGood w → (p : ℕ) → IsOn f gs (frames_of w.frames p) → page.frames_used (f ∷ gs) ≤ 4096
page_few w good p on =
    let fits = fits_on w.heap.objects w.roots.next_birth on (good.frames p) in omega (arith, fits.fits, size_few w good p on, fits.stands, fits.room)
