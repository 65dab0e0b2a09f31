use Rattle.std.proofs.Common.{rules, ◌∙◌}
use Rattle.std.proofs.lemmas.Iterator.{YieldsList-from_map_by}
use Rattle.std.proofs.lemmas.Iterator.Adapters.{YieldsList-from_vec}
use Rattle.std.proofs.lemmas.Iterator.Consumers.{map_from_collect, YieldsList-at}
use borrow.Author.Tests.{tests}
use Rattle.cs_build.specs.Meaning.{form_by}
use Rattle.cs_build.proofs.text.forms_of.Goals as goal

pub returns : goal.returns
returns c = map_from_collect _ c.collect.ensures.ran
    (YieldsList-from_map_by _ form_by (λ line. form_by line.form)
    (YieldsList-at c.map.ensures.source (YieldsList-from_vec c.args.lines.items c.into_iter.ensures.rest (c.into_iter.ensures.len ∙ c.args.lines.ok.0)))
    c.map.ensures.closure (λ x r q k. search (rules, tests)))
