-- The word by which a context names the place of its frame: a SmallInteger in its sender slot, which else holds nil or a context.
use Rattle.std.specs.Prelude.{ℕ, ◌+◌, ◌*◌, ◌/◌, ◌%◌, ◌==◌, Bool}
use Rattle.cs_frame.specs.declared.FrameRef.{FrameRef}

abbrev pub link_word : FrameRef → ℕ
link_word r = 2 * (r.page * 4096 + r.at) + 1

abbrev pub names_place : ℕ → Bool
names_place word = word % 2 == 1

-- the page of the place that a word names
abbrev pub page_named : ℕ → ℕ
page_named word = word / 2 / 4096
