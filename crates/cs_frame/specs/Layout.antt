-- How the words of the zone are read as frames: down the saved frame pointers from the last frame of a page.
use Rattle.std.specs.Prelude.{◌≡◌, ◌≢◌, ℕ, zero, suc, ◌+◌, ◌-◌, ◌*◌, ◌/◌, ◌%◌, ◌^◌, ◌<◌, ◌≤◌, List, [], ◌∷◌, length, slice_index}
use Rattle.cs_frame.specs.declared.PageHead.{PageHead}
use Rattle.cs_frame.specs.declared.Part.{Part}
use Rattle.cs_frame.specs.declared.Part.TheVariants as part
use Rattle.cs_frame.specs.Frame.{Frame, IsLink, IsPc, IsValue, with_caller, with_saved_pc, with_method, with_closure, with_context, with_receiver}

-- n words from i on
abbrev pub words_from : List ℕ → ℕ → ℕ → List ℕ
words_from w i zero = []
words_from w i (suc n) = slice_index w i ∷ words_from w (i + 1) n

-- the number that two SmallIntegers of 31 bits keep
abbrev pub joined : ℕ → ℕ → ℕ
joined low high = low / 2 + high / 2 * 2 ^ 31

-- the frame at fp whose stack ends at sp, on the page that begins at base
abbrev pub frame_at : List ℕ → ℕ → ℕ → ℕ → Frame
frame_at w base fp sp = record {
  at = fp - base;
  caller = slice_index w (fp + 1);
  saved_pc = slice_index w (fp + 2);
  method = slice_index w (fp + 3);
  closure = slice_index w (fp + 4);
  context = slice_index w (fp + 5);
  birth = joined (slice_index w (fp + 6)) (slice_index w (fp + 7));
  receiver = slice_index w (fp + 8);
  stack = words_from w (fp + 10) (sp - (fp + 10));
}

-- where the caller of the frame at fp begins
abbrev pub below : List ℕ → ℕ → ℕ
below w fp = slice_index w fp / 8

-- n frames, of which the last stands at fp and ends at sp
abbrev pub frames_down : ℕ → List ℕ → ℕ → ℕ → ℕ → List Frame
frames_down zero w base fp sp = []
frames_down (suc n) w base fp sp = frame_at w base fp sp ∷ frames_down n w base (below w fp) fp

-- no word from i up to j is a link
abbrev pub NoLink : List ℕ → ℕ → ℕ → Type 0
NoLink w i j = (k : ℕ) → i ≤ k → k < j → slice_index w k % 8 ≢ 4

-- the words from fp up to sp are a frame's: the first is the saved frame pointer, a link, and no other is one
pub record IsWholeFrame (w : List ℕ) (fp sp : ℕ) : Type 0 where
  pub overhead : fp + 10 ≤ sp
  pub link : IsLink (slice_index w fp)
  pub values : NoLink w (fp + 1) sp
  pub pc : IsPc (slice_index w (fp + 2))

-- the frames lie on each other without a gap, the base frame at base
abbrev pub Stands : ℕ → List ℕ → ℕ → ℕ → ℕ → Type 0
Stands zero w base fp sp = sp ≡ base
Stands (suc n) w base fp sp = IsWholeFrame w fp sp × Stands n w base (below w fp) fp

-- the page that begins at base has the head h: no word above its frames is a link
pub record IsPageOfWords (w : List ℕ) (base : ℕ) (h : PageHead) : Type 0 where
  pub stands : Stands h.count w base h.frame h.end
  pub within : h.end ≤ base + 4096
  pub free : NoLink w h.end (base + 4096)

abbrev pub ArePages : List ℕ → ℕ → List PageHead → Type 0
ArePages w base [] = Unit {0}
ArePages w base (h ∷ hs) = IsPageOfWords w base h × ArePages w (base + 4096) hs

-- the zone is 1 to 64 pages
pub record AreFramesLaid (w : List ℕ) (hs : List PageHead) : Type 0 where
  pub few : length hs ≤ 64
  pub len : length w ≡ length hs * 4096
  pub pages : ArePages w 0 hs

-- what the words mean
abbrev pub pages_of : List ℕ → ℕ → List PageHead → List (List Frame)
pages_of w base [] = []
pages_of w base (h ∷ hs) = frames_down h.count w base h.frame h.end ∷ pages_of w (base + 4096) hs

-- the parts of a frame that are one word of its overhead, and the place of each behind the frame's beginning

abbrev pub offset_of : Part → ℕ
offset_of part.Caller = 1
offset_of part.SavedPc = 2
offset_of part.Method = 3
offset_of part.Closure = 4
offset_of part.Context = 5
offset_of part.Receiver = 8

abbrev pub part_of : Part → Frame → ℕ
part_of part.Caller f = f.caller
part_of part.SavedPc f = f.saved_pc
part_of part.Method f = f.method
part_of part.Closure f = f.closure
part_of part.Context f = f.context
part_of part.Receiver f = f.receiver

abbrev pub with_part : Part → ℕ → Frame → Frame
with_part part.Caller v f = with_caller v f
with_part part.SavedPc v f = with_saved_pc v f
with_part part.Method v f = with_method v f
with_part part.Closure v f = with_closure v f
with_part part.Context v f = with_context v f
with_part part.Receiver v f = with_receiver v f

-- what the part may hold
abbrev pub CanHold : Part → ℕ → Type 0
CanHold part.Caller v = IsValue v
CanHold part.SavedPc v = IsPc v
CanHold part.Method v = IsValue v
CanHold part.Closure v = IsValue v
CanHold part.Context v = IsValue v
CanHold part.Receiver v = IsValue v
