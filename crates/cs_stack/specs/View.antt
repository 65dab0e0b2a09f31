-- The state that a world of frames keeps: the objects of the heap, among which a context that has or had a frame counts as dead, and
-- over them the frames of all pages.
use Rattle.std.specs.Prelude.{ℕ, pos, ◌==◌, ◌&&◌, Bool, List, [], ◌∷◌, map, slice_index, slice_set, if◌then◌else◌, Option, Some, None}
use Rattle.std.specs.List.{list_any}
use Rattle.std.specs.Ordering.{nat_cmp}
use Rattle.std.specs.FinMap.{FinMap, insert}
use Rattle.cs_word.specs.Word.{small_word, natural_of_word}
use Rattle.cs_heap.specs.Object.{Object, hash_at, heap_object}
use Rattle.cs_classes.specs.Meaning.{is_heap_context, kept_of, ref_of}
use Rattle.cs_classes.specs.declared.Loaded.{Loaded}
use Rattle.cs_frame.specs.Frame.{Frame, nil}
use Rattle.cs_frame.specs.Page.{frames_of}
use Rattle.cs_marriage.specs.Agree.{frame_size}
use Rattle.cs_marriage.specs.Place.{names_place}
use Rattle.cs_model.specs.Ref.{Ref}
use Rattle.cs_model.specs.Ref as ref
use Rattle.cs_model.specs.Obj.{Obj, Context, Ctx}
use Rattle.cs_model.specs.State.{Kept}
use Rattle.cs_acts.specs.declared.act.Act.{Act}
use Rattle.cs_acts.specs.declared.act.Act.TheVariants as act
use Rattle.cs_acts.specs.Layout.{Layout}
use Rattle.cs_acts.specs.Names.{Store}
use Rattle.cs_stack.specs.declared.parts.Parts.{Parts}

-- ---- the heap without frames

-- A context whose sender slot names a place is married or widowed: sender, pc and stack don't stand in its words.
abbrev pub is_linked : Object → Bool
is_linked x = is_heap_context x && names_place (slice_index x.words 0)

-- the words of a dead context: sender and pc are nil, and the stack is empty
abbrev pub dead_words : List ℕ → List ℕ
dead_words ws = slice_set (slice_set (slice_set ws 0 nil) 1 nil) 2 (small_word (pos 0))

abbrev pub unframed : Object → Object
unframed x = if is_linked x then record x { words = dead_words x.words } else x

-- the objects as they are where no frame stands
unfoldable pub bare : List Object → List Object
bare os = map unframed os

-- ---- a frame as a context

-- without a context it has no hash
abbrev pub frame_hash : List Object → Frame → ℕ
frame_hash os f = if f.context == nil then 0 else hash_at os f.context

-- the base frame keeps its sender; any other frame's is the one below
abbrev pub frame_sender : List Object → Frame → List Frame → Ref
frame_sender os f [] = ref_of os f.caller
frame_sender os f (g ∷ gs) = ref.Obj g.birth

-- the context that a frame is, above these
unfoldable pub frame_context : List Object → Frame → List Frame → Context
frame_context os f fs = record {
  hash = frame_hash os f;
  sender = frame_sender os f fs;
  pc = natural_of_word f.saved_pc;
  method = ref_of os f.method;
  closure = ref_of os f.closure;
  receiver = ref_of os f.receiver;
  stack = map (ref_of os) f.stack;
  size = frame_size os f;
}

-- the frames of a page hide what has their births
unfoldable pub frames_onto : List Object → List Frame → FinMap nat_cmp Obj → FinMap nat_cmp Obj
frames_onto os [] m = m
frames_onto os (f ∷ fs) m = insert (frames_onto os fs m) f.birth (Ctx (frame_context os f fs))

-- and so do those of all pages
unfoldable pub pages_onto : List Object → List (List Frame) → FinMap nat_cmp Obj → FinMap nat_cmp Obj
pages_onto os [] m = m
pages_onto os (p ∷ ps) m = frames_onto os p (pages_onto os ps m)

-- ---- the state

-- the frames of the first of these pages
abbrev pub first_frames : List (List Frame) → List ℕ → List Frame
first_frames ps [] = []
first_frames ps (p ∷ qs) = frames_of ps p

-- the frames of the most recent page
abbrev pub active_page : Parts → List Frame
active_page w = first_frames w.frames w.pages.recent

-- its last frame is active
abbrev pub active_in : List Frame → Option ℕ
active_in [] = None
active_in (f ∷ fs) = Some f.birth

abbrev pub over : List Object → List (List Frame) → Kept → Kept
over os ps k = record k { objects = pages_onto os ps k.objects }

abbrev pub view_of : Parts → Kept
view_of w = over w.heap.objects w.frames (kept_of (bare w.heap.objects) w.classes w.roots (active_in (active_page w)))

abbrev pub stored_of : Parts → Store
stored_of w = record { memory = w.heap; table = w.classes; roots = w.roots }

-- ---- acts

abbrev pub object_birth : Option Object → Option ℕ
object_birth None = None
object_birth (Some x) = if is_heap_context x then Some x.birth else None

-- whether a frame is the body of the context at this address
abbrev pub has_context : ℕ → List Frame → Bool
has_context a fs = list_any (λ f. f.context == a) fs

abbrev pub is_married : ℕ → List (List Frame) → Bool
is_married a ps = list_any (has_context a) ps

-- the frame that begins at this place
abbrev pub birth_from : List Frame → ℕ → Option ℕ
birth_from [] at = None
birth_from (f ∷ fs) at = if f.at == at then Some f.birth else birth_from fs at

-- an act is a frame of a page, or the context at an address that has no frame
abbrev pub act_of : Parts → Act → Option ℕ
act_of w (act.Frame page at) = birth_from (frames_of w.frames page) at
act_of w (act.Context o) = if is_married o.0 w.frames then None else object_birth (heap_object w.heap.objects o.0)
act_of w act.Gone = None

-- ---- the layout

abbrev pub births_of : List Frame → List ℕ
births_of fs = map (λ f. f.birth) fs

abbrev pub laid_pages : List (List Frame) → List ℕ → List (List ℕ)
laid_pages ps [] = []
laid_pages ps (p ∷ qs) = births_of (frames_of ps p) ∷ laid_pages ps qs

abbrev pub layout_of : Parts → Option Layout
layout_of w = Some (record { most = w.pages.total; pages = laid_pages w.frames w.pages.recent })
