-- When a world can be asked for something.
use Rattle.std.specs.Prelude.{◌≡◌, ℕ, ◌<◌, ◌≤◌, Bool, true, false, ◌&&◌, nat_lt, nat_le, length, slice_get, Option, Some, None}
use Rattle.std.specs.FinMap.{get}
use Rattle.cs_heap.specs.Object.{Object, used}
use Rattle.cs_classes.specs.Meaning.{obj_of, objects_of, ref_of, is_heap_context, kept_of}
use Rattle.cs_classes.specs.Kinds.{KindsStand}
use Rattle.cs_classes.specs.Sound.{IsWhole}
use Rattle.cs_model.specs.Obj.{Obj, Context, Ptr, Raw, Method, Ctx, is_context_at}
use Rattle.cs_model.specs.State.{Kept, PcLies, object_at}
use Rattle.cs_model.specs.Keeps.{Keeps}
use Rattle.cs_model.specs.Read.{IsRunning}
use Rattle.cs_acts.specs.Names.{Store}

-- The heap of a world has all objects of its state but contexts, which may also be elsewhere, and no more words than its limit.
-- The class table and the roots are those of the state.
pub record Holds (s : Store) (k : Kept) : Type 0 where
  pub whole : IsWhole s.memory.objects s.table s.roots
  pub object : (j : ℕ) (x : Object) → slice_get s.memory.objects j ≡ Some x → is_heap_context x ≡ false → object_at k x.birth ≡ Some (obj_of (ref_of s.memory.objects) x)
  pub context : (j : ℕ) (x : Object) → slice_get s.memory.objects j ≡ Some x → is_heap_context x ≡ true → is_context_at (object_at k x.birth) ≡ true
  pub back : (i : ℕ) (o : Obj) → object_at k i ≡ Some o → is_context_at (Some o) ≡ false → get (objects_of s.memory.objects) i ≡ Some o
  pub within : used s.memory.objects ≤ s.memory.limit
  pub most : s.memory.limit ≤ 67108864
  pub rest : (kept_of s.memory.objects s.table s.roots k.rest.active).rest ≡ k.rest

-- all that the state names is there, contexts keep their pcs, and their fields name what they must; births are below the next one; and
-- the heap holds what it must
pub record IsSound (s : Store) (k : Kept) : Type 0 where
  pub closed : Keeps k k
  pub pcs : (i : ℕ) (c : Context) → object_at k i ≡ Some (Ctx c) → PcLies k c
  pub kinds : KindsStand k
  pub births : (i : ℕ) (o : Obj) → object_at k i ≡ Some o → i < k.rest.next
  pub holds : Holds s k

-- and a context is active
pub record IsReady (s : Store) (k : Kept) : Type 0 where
  pub sound : IsSound s k
  pub running : IsRunning k

-- the slots that may be written: those of a pointer object, and the literals of a method behind its header
abbrev pub is_storable : Option Obj → ℕ → Bool
is_storable None i = false
is_storable (Some (Ptr head slots)) i = nat_lt i (length slots)
is_storable (Some (Raw head bytes)) i = false
is_storable (Some (Method head header literals bytecodes)) i = nat_lt 0 i && nat_le i (length literals)
is_storable (Some (Ctx c)) i = false

-- how many bytes of an object may be written: those of raw bytes, and the bytecodes of a method
abbrev pub writable_bytes : Option Obj → ℕ
writable_bytes None = 0
writable_bytes (Some (Ptr head slots)) = 0
writable_bytes (Some (Raw head bytes)) = length bytes
writable_bytes (Some (Method head header literals bytecodes)) = length bytecodes
writable_bytes (Some (Ctx c)) = 0
