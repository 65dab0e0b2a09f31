use Rattle.cs_prim_obj.proofs.Naming.{natural_names}
use Rattle.cs_prim_obj.proofs.words.count_word.Goals as goal

pub returns : goal.returns
returns c =
    λ s. natural_names s c.args.count _ c.requires c.from_natural.ensures
