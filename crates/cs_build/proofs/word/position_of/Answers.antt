use Rattle.std.proofs.Common.{rules, ◌==◌, length}
use Rattle.std.specs.List.{position_or_len}
use Rattle.std.proofs.lemmas.Iterator.{YieldsList-from_slice}
use Rattle.std.proofs.lemmas.Iterator.Search.{position_from_yields_List}
use borrow.Author.Tests.{tests}
use Rattle.cs_build.proofs.LineLemmas.{place-some, place-none}
use Rattle.cs_build.proofs.word.position_of.Goals as goal

pub returns : goal.returns
returns c =
    let at = position_from_yields_List (λ b. b == c.args.wanted) _ _ c.position.result c.position.ensures.ran (YieldsList-from_slice c.args.text.now cc) (λ x b q k. search (rules, tests)) in
    record {
      some = place-some _ (position_or_len (λ b. b == c.args.wanted) c.args.text.now) (length c.args.text.now) at;
      none = place-none _ (position_or_len (λ b. b == c.args.wanted) c.args.text.now) (length c.args.text.now) at;
    }
