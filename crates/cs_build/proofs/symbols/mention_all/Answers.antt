use Rattle.std.proofs.Common.{◌+◌, map, drop, get_or, sym, ◌∙◌}
use Rattle.std.specs.Prelude.{flat_map, pos}
use Rattle.cs_model.specs.Builder.{symbol_in}
use Rattle.cs_build.specs.declared.form.Mention.TheVariants.{Number}
use Rattle.cs_build.specs.Meaning.{mention_by}
use Rattle.cs_build.specs.Numbered.{plain_names, mentioned}
use Rattle.cs_build.proofs.Walking.{walk_at, walk_all}
use Rattle.cs_build.proofs.Noting.{mentioned_more, mentioned_none}
use Rattle.cs_build.proofs.symbols.mention_all.Goals as goal

pub loop-value-preserved : goal.loop-value-preserved
loop-value-preserved c =
    walk_at (λ names values. mentioned names (flat_map symbol_in (map mention_by values)))
    (plain_names c.loop-value.symbols.keys) (plain_names c.mention_in.new.symbols.keys) c.args.values.now c.loop-value.value-index (Number (pos 0)) _
    c.loop-value-test.true
    (mentioned_more (plain_names c.mention_in.new.symbols.keys) (plain_names c.loop-value.symbols.keys)
    (symbol_in (mention_by (get_or c.args.values.now c.loop-value.value-index (Number (pos 0)))))
    (flat_map symbol_in (map mention_by (drop (c.loop-value.value-index + 1) c.args.values.now))) c.in_ok-mention_in.ensures)
    c.loop-value.invariant

pub returns : goal.returns
returns c = sym (mentioned_none (plain_names c.loop-value.symbols.keys))
    ∙ walk_all (λ values. mentioned (plain_names c.loop-value.symbols.keys) (flat_map symbol_in (map mention_by values)))
    c.args.values.now c.loop-value.value-index _ c.loop-value-test.false c.loop-value.invariant
