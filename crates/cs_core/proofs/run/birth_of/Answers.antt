use Rattle.cs_core.proofs.Places.{object_is, object_birth, no_birth}
use Rattle.cs_core.proofs.run.birth_of.Goals as goal

pub birth-requires : goal.birth-requires
birth-requires g c =
    object_is (g.W.World.stored c.args.w.now) c.heap.result.now c.args.o c.in-Object.field-0 c.kind.result c.heap.ensures c.requires.named c.kind.ensures.kind c.kind.ensures.word c.in-Object.is

pub returns-in-Object : goal.returns-in-Object
returns-in-Object g c =
    object_birth (g.W.World.stored c.args.w.now) c.heap.result.now c.args.o c.in-Object.field-0 c.birth.result c.kind.result c.heap.ensures c.kind.ensures.kind c.kind.ensures.word c.in-Object.is c.birth.ensures

pub returns-in_default : goal.returns-in_default
returns-in_default g c = no_birth (g.W.World.stored c.args.w.now) c.args.o c.kind.result c.kind.ensures.kind c.in_default.not-Object
