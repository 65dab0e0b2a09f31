-- Why a world refuses a call.
use Rattle.std.specs.Prelude.{◌≡◌, ℕ, ◌+◌, ◌*◌, ◌<◌, length, Option, Some, None, IfSome}
use Rattle.cs_heap.specs.Object.{used}
use Rattle.cs_model.specs.State.{Kept}
use Rattle.cs_model.specs.Demand.{words_held}
use Rattle.cs_acts.specs.declared.act.Full.{Full}
use Rattle.cs_acts.specs.declared.act.Full.TheVariants.{Heap, Stack}
use Rattle.cs_acts.specs.Names.{Store}
use Rattle.cs_acts.specs.Layout.{Layout, first_page, new_frame_words, page_words}

-- The words of the state that the call leads to exceed the limit. With pages the heap has besides no room for what the call makes of
-- objects and for a context of each frame that they may hold: 409 to a page and two more, of 64 words each.
pub record IsFullHeap (s : Store) (l : Option Layout) (made : ℕ) (t : Kept) : Type 0 where
  pub words : s.memory.limit < words_held t
  pub room : IfSome l (λ laid. s.memory.limit < used s.memory.objects + made + 26304 * laid.most)

-- every page is used, and a new frame doesn't fit on the active one
abbrev pub IsFullStack : Kept → Option Layout → Type 0
IsFullStack k None = ⊥
IsFullStack k (Some l) = (length l.pages ≡ l.most) × (4096 < page_words k (first_page l.pages) + new_frame_words)

-- The cause of a refused call: k is the state before it, made the words of the objects that it makes, and t the state to which it
-- leads.
abbrev pub CausesFull : Store → Option Layout → Kept → ℕ → Kept → Full → Type 0
CausesFull s l k made t Heap = IsFullHeap s l made t
CausesFull s l k made t Stack = IsFullStack k l
