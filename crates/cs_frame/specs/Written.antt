-- What the steps of making a frame leave in the zone.
use Rattle.std.specs.Prelude.{◌≡◌, ℕ, zero, suc, ◌+◌, ◌*◌, ◌/◌, ◌%◌, ◌^◌, ◌<◌, ◌≤◌, List, [], ◌∷◌, length, slice_index}
use Rattle.cs_frame.specs.declared.PageHead.{PageHead}
use Rattle.cs_frame.specs.declared.NewFrame.{NewFrame}

-- the words outside i up to j are the same
pub record SameOutside (old new : List ℕ) (i j : ℕ) : Type 0 where
  pub len : length new ≡ length old
  pub below : (k : ℕ) → k < i → slice_index new k ≡ slice_index old k
  pub above : (k : ℕ) → j ≤ k → slice_index new k ≡ slice_index old k

-- the words from i up to j are x
abbrev pub AllAre : List ℕ → ℕ → ℕ → ℕ → Type 0
AllAre w i j x = (k : ℕ) → i ≤ k → k < j → slice_index w k ≡ x

-- a half of a birth, of 31 bits, as a SmallInteger
abbrev pub half_word : ℕ → ℕ
half_word half = half * 2 + 1

-- the overhead of a new frame stands at fp
pub record HasOverhead (w : List ℕ) (fp link sender : ℕ) (new : NewFrame) : Type 0 where
  pub link_is : slice_index w fp ≡ link
  pub sender_is : slice_index w (fp + 1) ≡ sender
  pub pc_is : slice_index w (fp + 2) ≡ 65536
  pub method_is : slice_index w (fp + 3) ≡ new.method.0
  pub closure_is : slice_index w (fp + 4) ≡ new.closure.0
  pub context_is : slice_index w (fp + 5) ≡ 65536
  pub low_is : slice_index w (fp + 6) ≡ half_word (new.birth % 2 ^ 31)
  pub high_is : slice_index w (fp + 7) ≡ half_word (new.birth / 2 ^ 31)
  pub receiver_is : slice_index w (fp + 8) ≡ new.receiver.0
  pub spare_is : slice_index w (fp + 9) ≡ 65536

-- n pages without a frame, the first of which begins at base
abbrev pub empty_heads : ℕ → ℕ → List PageHead
empty_heads base zero = []
empty_heads base (suc n) = record { frame = base; end = base; count = 0 } ∷ empty_heads (base + 4096) n
