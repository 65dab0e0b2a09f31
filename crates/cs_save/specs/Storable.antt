-- When an image in memory can be saved.
use Rattle.std.specs.Prelude.{◌≡◌, ℕ, ◌^◌, ◌<◌, ◌≤◌, true, false, length, List, Some, None, slice_index, slice_get}
use Rattle.std.specs.Ordering.{nat_cmp}
use Rattle.std.specs.FinMap.{FinMap}
use Rattle.std.specs.List.{AllByRecursion}
use Rattle.cs_heap.specs.Object.{Object, is_object, used}
use Rattle.cs_classes.specs.declared.Roots.{Roots}
use Rattle.cs_classes.specs.Meaning.{is_heap_context, kept_of}
use Rattle.cs_classes.specs.Sound.{IsWhole}
use Rattle.cs_model.specs.Ref.{Ref}
use Rattle.cs_model.specs.Ref as ref
use Rattle.cs_model.specs.Obj.{Context, Ctx}
use Rattle.cs_model.specs.State.{Kept, IsLive, PcLies, active_process, is_nil, object_at}
use Rattle.cs_model.specs.Settle.{context_kept}
use Rattle.cs_model.specs.Image.{image_fault}
use Rattle.cs_model.specs.SavedFile.{IsWordValue}
use Rattle.cs_save.specs.Filed.{saved_of}

-- what any memory holds: identity hashes of 22 bits, and words of 32
pub record FitsWords (x : Object) : Type 0 where
  pub hash : x.hash < 2 ^ 22
  pub words : AllByRecursion IsWordValue x.words

-- the sender of each context is an object, nil or a context, and no frame
abbrev pub AreSingle : List Object → Type 0
AreSingle objects = (k : ℕ) (x : Object) → slice_get objects k ≡ Some x → is_heap_context x ≡ true
    → is_object objects (slice_index x.words 0) ≡ true

-- A heap with its class table and roots is storable where it is whole, each context is single, and the file that is saved
-- of it has no fault for a heap of this limit.
pub record IsStorableImage (objects : List Object) (table : FinMap nat_cmp ℕ) (roots : Roots) (limit : ℕ) : Type 0 where
  pub whole : IsWhole objects table roots
  pub single : AreSingle objects
  pub words : AllByRecursion FitsWords objects
  pub header : length roots.header ≡ 64
  pub next : roots.next_birth ≤ 2 ^ 62
  pub fault : image_fault (saved_of objects table roots) limit ≡ None

-- the pc of each context is nil or lies in its method
abbrev pub PcsLie : Kept → Type 0
PcsLie k = (i : ℕ) (c : Context) → object_at k i ≡ Some (Ctx c) → PcLies k c

-- there is an active process, nil or one that keeps a live context
pub record HasProcess (k : Kept) : Type 0 where
  pub process : Ref
  pub active : active_process k ≡ Some process
  pub live : is_nil k process ≡ false → (i : ℕ) × (context_kept k process ≡ Some (ref.Obj i)) × IsLive k i

-- A whole memory within its limit, in which each context is single, and which can be opened: what is left of storable
-- once it is told by the memory and by the state that it means, and not by its file.
pub record IsSettled (objects : List Object) (table : FinMap nat_cmp ℕ) (roots : Roots) (limit : ℕ) : Type 0 where
  pub whole : IsWhole objects table roots
  pub single : AreSingle objects
  pub words : AllByRecursion FitsWords objects
  pub header : length roots.header ≡ 64
  pub next : roots.next_birth ≤ 2 ^ 62
  pub room : used objects ≤ limit
  pub most : limit ≤ 67108864
  pub pcs : PcsLie (kept_of objects table roots None)
  pub process : HasProcess (kept_of objects table roots None)
