use Rattle.std.proofs.Common.{sym, ◌∙◌}
use Rattle.cs_build.proofs.HexLemmas.{bytes_in-none}
use Rattle.cs_build.proofs.outer.read_hex.Goals as goal

pub returns-in_ok-memory_of-in-Err : goal.returns-in_ok-memory_of-in-Err
returns-in_ok-memory_of-in-Err c = bytes_in-none _ _ (sym c.is_word.ensures ∙ c.if-is_word.false) c.in-Err.ensures.err c.in_ok-memory_of-in-Err.ensures
