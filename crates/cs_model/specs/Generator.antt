-- The generator: the text of a large image for each number. It has many arrays of one slot, and a process that
-- recurs to a depth, over and over.
use Rattle.std.specs.Prelude.{ℕ, ◌+◌, ◌*◌, ◌%◌, List, ◌++◌, flat_map, codes, decimal}
use Rattle.std.specs.List.{range_with_len}

-- how many arrays there are
abbrev pub array_count : ℕ → ℕ
array_count k = 1000 * (1 + k % 16)

-- how deep the process recurs
abbrev pub depth_for : ℕ → ℕ
depth_for k = 100 + k % 4000

-- an Array with one slot, which holds its own number
abbrev pub array_line : ℕ → List ℕ
array_line i = codes "object o" ++ decimal i ++ codes " Array " ++ decimal i ++ codes "\n"

abbrev pub down_text : List ℕ
down_text =
    codes "method Object down: 1 1\nlit #down:\npushTemp 0\nint 0\nop 6\njumpFalse d\nint 0\nreturnTop\n"
    ++ codes ":d\nself\npushTemp 0\nint 1\nop 1\nsend 0 1\nint 1\nop 0\nreturnTop\nend\n"

abbrev pub run_text : ℕ → List ℕ
run_text depth =
    codes "method Object run 0 0\nlit #down:\nlit " ++ decimal depth
    ++ codes "\n:l\nself\npushLit 1\nsend 0 1\npop\njump l\nend\n"

abbrev pub process_text : List ℕ
process_text = codes "process p 4 Object run nil\nactive p\n"

unfoldable pub generated : ℕ → List ℕ
generated k = flat_map array_line (range_with_len 1 (array_count k)) ++ down_text ++ run_text (depth_for k) ++ process_text
