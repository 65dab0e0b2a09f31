use Rattle.std.proofs.Common.{◌+◌, map, drop, ap, sym, ◌∙◌}
use Rattle.std.specs.Prelude.{flat_map}
use Rattle.cs_model.specs.Builder.{symbols_in}
use Rattle.cs_build.specs.Meaning.{form_by}
use Rattle.cs_build.specs.Numbered.{plain_names, mentioned, selector_words, special_names_of}
use Rattle.cs_build.proofs.Walking.{walk_more, walk_all}
use Rattle.cs_build.proofs.Noting.{mentioned_more, mentioned_none}
use Rattle.cs_build.proofs.symbols.symbols_of.Goals as goal

pub loop-form-init : goal.loop-form-init
loop-form-init c =
    ap (λ names. mentioned names (flat_map symbols_in (map form_by c.args.forms.now)))
    (c.in_ok-mention_specials.ensures ∙ ap (λ names. mentioned names special_names_of)
    (c.in_ok-mention_selectors.ensures ∙ ap (λ keys. mentioned (plain_names keys) selector_words) c.new-symbols.ensures.empty))

pub loop-form-preserved : goal.loop-form-preserved
loop-form-preserved c =
    walk_more (λ names forms. mentioned names (flat_map symbols_in (map form_by forms)))
    (plain_names c.loop-form.symbols.keys) (plain_names c.mention_form.new.symbols.keys) c.args.forms.now c.loop-form.form-index c.form-item.result _
    c.form-item.is c.loop-form-test.true
    (mentioned_more (plain_names c.mention_form.new.symbols.keys) (plain_names c.loop-form.symbols.keys) (symbols_in (form_by c.form-item.result))
    (flat_map symbols_in (map form_by (drop (c.loop-form.form-index + 1) c.args.forms.now))) c.in_ok-mention_form.ensures)
    c.loop-form.invariant

pub returns : goal.returns
returns c = sym (mentioned_none (plain_names c.loop-form.symbols.keys))
    ∙ walk_all (λ forms. mentioned (plain_names c.loop-form.symbols.keys) (flat_map symbols_in (map form_by forms)))
    c.args.forms.now c.loop-form.form-index _ c.loop-form-test.false c.loop-form.invariant
