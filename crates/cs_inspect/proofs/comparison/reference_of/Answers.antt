use Rattle.std.proofs.Common.{ap, ◌∙◌, rules, w32, FitsSigned}
use Rattle.std.proofs.lemmas.Int.{to_z-of_z}
use Rattle.cs_model.specs.Ref as ref
use Rattle.cs_inspect.specs.Comparing.{place_number, numbered_word, numbered_kind}
use Rattle.cs_inspect.proofs.comparison.reference_of.Goals as goal

pub returns-in-Small : goal.returns-in-Small
unfolding numbered_word
returns-in-Small c =
    let fits : FitsSigned w32 c.in-Small.value = search rules in
    ap ref.Small (to_z-of_z w32 c.in-Small.value fits) ∙ ap (numbered_kind c.args.addresses.now.keys) c.in-Small.ensures.kind

pub returns-in-Character : goal.returns-in-Character
unfolding numbered_word
returns-in-Character c = ap (numbered_kind c.args.addresses.now.keys) c.in-Character.ensures.kind

pub returns-in-Object : goal.returns-in-Object
unfolding numbered_word
returns-in-Object c = ap (λ o. ref.Obj (place_number o)) c.get_index_of.ensures.index ∙ ap (numbered_kind c.args.addresses.now.keys) c.in-Object.ensures.kind

pub returns-in-Link : goal.returns-in-Link
unfolding numbered_word
returns-in-Link c = ap (numbered_kind c.args.addresses.now.keys) c.in-Link.ensures.kind
