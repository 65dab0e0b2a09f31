use Rattle.std.proofs.Common.{◌≡◌, pos, arith, to_z, w32, subst}
use Rattle.std.proofs.lemmas.Int.{ints}
use Rattle.cs_model.specs.Read.{pc_of}
use Rattle.cs_model.specs.Ref as ref
use Rattle.cs_acts.specs.Names.{Names}
use Rattle.cs_code.proofs.Closing.{pc-fits}
use Rattle.cs_code.proofs.closures.pc_word.Goals as goal

pub overflow_cast-pc : goal.overflow_cast-pc
overflow_cast-pc g c =
    let few = pc-fits _ _ c.method-method.result c.requires c.method-method.ensures in
    omega (arith, ints, few, c.pc.ensures)

pub small_word-requires : goal.small_word-requires
small_word-requires g c =
    let few = pc-fits _ _ c.method-method.result c.requires c.method-method.ensures in
    omega (arith, ints, few, c.pc.ensures)

pub returns : goal.returns
returns g c =
    let few = pc-fits _ _ c.method-method.result c.requires c.method-method.ensures in
    let value : to_z w32 c.pc.result ≡ pos (pc_of (g.W.World.view c.args.w.now)) = omega (arith, ints, few, c.pc.ensures) in
    subst (λ z. Names (g.W.World.stored c.args.w.now) c.small_word.result (ref.Small z)) value (c.small_word.ensures (g.W.World.stored c.args.w.now))
