-- When heap, frames and the order of the pages agree.
use Rattle.std.specs.Prelude.{◌≡◌, ◌≢◌, ◌↔◌, ℕ, ◌+◌, ◌<◌, ◌≤◌, ◌==◌, ◌&&◌, ◌||◌, Bool, true, List, [], ◌∷◌, length, slice_index, slice_get, Some, None, Contains}
use Rattle.std.specs.List.{AllPass}
use Rattle.std.specs.FinMap.{get}
use Rattle.cs_word.specs.Word.{natural_of_word}
use Rattle.cs_heap.specs.Object.{Object, class_at, is_object, used}
use Rattle.cs_classes.specs.Meaning.{is_heap_context, meaning_at, objects_of}
use Rattle.cs_classes.specs.Sound.{IsWhole, is_reference}
use Rattle.cs_frame.specs.Frame.{Frame, blank_frame, nil}
use Rattle.cs_frame.specs.Page as page
use Rattle.cs_frame.specs.Page.{frames_of, top}
use Rattle.cs_marriage.specs.Agree.{Agree, frame_size}
use Rattle.cs_marriage.specs.Place.{names_place}
use Rattle.cs_model.specs.Obj.{context_class}
use Rattle.cs_model.specs.Context.{closure_class, lies_if_index, lies_if_live}
use Rattle.cs_pages.specs.Order.{IsSoundOrder}
use Rattle.cs_stack.specs.declared.parts.Parts.{Parts}
use Rattle.cs_stack.specs.View.{is_linked}

-- no frame has this birth
abbrev pub Lacks : ℕ → List Frame → Type 0
Lacks i [] = Unit {0}
Lacks i (f ∷ fs) = (i ≢ f.birth) × Lacks i fs

-- no frame of the one page has the birth of a frame of the other
abbrev pub AreApart : List Frame → List Frame → Type 0
AreApart [] gs = Unit {0}
AreApart (f ∷ fs) gs = Lacks f.birth gs × AreApart fs gs

-- a word is the address of nil, or of an object of this class
abbrev pub is_nil_or : ℕ → List Object → ℕ → Bool
is_nil_or class os word = is_object os word && (word == nil || class_at os word == class)

-- what the frame names is there, and its closure is nil or a closure
pub record FrameNames (os : List Object) (f : Frame) : Type 0 where
  pub closure : is_nil_or closure_class os f.closure ≡ true
  pub receiver : is_reference os f.receiver ≡ true
  pub stack : AllPass (is_reference os) f.stack

-- the base frame of a page has a sender of its own, nil or a context; that of any other is the frame below
abbrev pub HasSender : List Object → Frame → List Frame → Type 0
HasSender os f [] = is_nil_or context_class os f.caller ≡ true
HasSender os f (g ∷ gs) = Unit {0}

-- A frame above these: it is live in a method of the heap, its stack fits, and it began where 66 words were free. While it has no
-- context, no object of the heap has its birth.
pub record FrameFits (os : List Object) (next : ℕ) (f : Frame) (fs : List Frame) : Type 0 where
  pub names : FrameNames os f
  pub lies : lies_if_index (meaning_at os f.method) (natural_of_word f.saved_pc) ≡ true
  pub fits : length f.stack ≤ frame_size os f
  pub stands : f.at ≡ page.frames_used fs
  pub room : f.at + 66 ≤ 4096
  pub birth : f.birth < next
  pub apart : Lacks f.birth fs
  pub sender : HasSender os f fs
  pub alone : f.context ≡ nil → get (objects_of os) f.birth ≡ None

abbrev pub FramesFit : List Object → ℕ → List Frame → Type 0
FramesFit os next [] = Unit {0}
FramesFit os next (f ∷ fs) = FrameFits os next f fs × FramesFit os next fs

-- a live context of the heap has a pc that lies in its method
abbrev pub PcFits : List Object → Object → Type 0
PcFits os x = lies_if_live (meaning_at os (slice_index x.words 3)) (natural_of_word (slice_index x.words 1)) ≡ true

-- the sender of a context is nil or a context, where its word names no place
abbrev pub SenderFits : List Object → Object → Type 0
SenderFits os x = (names_place (slice_index x.words 0) || is_nil_or context_class os (slice_index x.words 0)) ≡ true

-- The words of a context that is married or widowed say nothing of its pc and its stack.
abbrev pub LinkFits : Object → Type 0
LinkFits x = (slice_index x.words 1 ≡ nil) × (slice_index x.words 2 ≡ nil)

-- ---- the pages in order

abbrev pub base_of : List Frame → Frame
base_of [] = blank_frame
base_of (f ∷ []) = f
base_of (f ∷ g ∷ gs) = base_of (g ∷ gs)

-- The activations of all pages are one chain: the sender of each page's base frame, but that of the last page, is the context of the
-- last frame of the page behind it.
abbrev pub IsChain : List (List Frame) → List ℕ → Type 0
IsChain ps [] = Unit {0}
IsChain ps (p ∷ []) = Unit {0}
IsChain ps (p ∷ q ∷ qs) = ((base_of (frames_of ps p)).caller ≡ (top (frames_of ps q)).context) × ((top (frames_of ps q)).context ≢ nil) × IsChain ps (q ∷ qs)

pub record IsGood (w : Parts) : Type 0 where
  pub whole : IsWhole w.heap.objects w.classes w.roots
  pub within : used w.heap.objects ≤ w.heap.limit
  pub most : w.heap.limit ≤ 67108864
  pub births : w.roots.next_birth ≤ 4611686018427387904
  pub pcs : (j : ℕ) (x : Object) → slice_get w.heap.objects j ≡ Some x → is_heap_context x ≡ true → PcFits w.heap.objects x
  pub senders : (j : ℕ) (x : Object) → slice_get w.heap.objects j ≡ Some x → is_heap_context x ≡ true → SenderFits w.heap.objects x
  pub links : (j : ℕ) (x : Object) → slice_get w.heap.objects j ≡ Some x → is_linked x ≡ true → LinkFits x
  pub agree : Agree w.heap.objects w.frames
  pub frames : (p : ℕ) → FramesFit w.heap.objects w.roots.next_birth (frames_of w.frames p)
  pub apart : (p q : ℕ) → p ≢ q → AreApart (frames_of w.frames p) (frames_of w.frames q)
  pub total : w.pages.total ≡ length w.frames
  pub order : IsSoundOrder w.pages
  pub used_pages : (p : ℕ) → Contains w.pages.recent p ↔ (0 < length (frames_of w.frames p))
  pub chain : IsChain w.frames w.pages.recent
