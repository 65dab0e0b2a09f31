-- What the header of an image says of the machine that runs it (this machine's own). Profile 1 says nothing. In profile 2 the header
-- says how many stack pages there are, and whether a process that is preempted goes to the front of its list.
use Rattle.std.specs.Prelude.{ℕ, ◌/◌, ◌%◌, ◌^◌, ◌==◌, ◌&&◌, ◌||◌, Bool, nat_le, List}
use Rattle.cs_model.specs.ImageFile.{number_at, u32_at}

abbrev pub flags_in : List ℕ → ℕ
flags_in header = u32_at header 28

-- bit 31 of the flags
abbrev pub is_second_profile : List ℕ → Bool
is_second_profile header = flags_in header / 2 ^ 31 % 2 == 1

-- the default number of stack pages, of 16 bits; 0 leaves it to the machine
abbrev pub pages_in : List ℕ → ℕ
pages_in header = number_at 2 header 36

abbrev pub is_page_count : ℕ → Bool
is_page_count pages = pages == 0 || nat_le 2 pages && nat_le pages 64

-- bit 5 of the flags: the front
unfoldable pub puts_in_front : List ℕ → Bool
puts_in_front header = is_second_profile header && flags_in header / 2 ^ 5 % 2 == 1
