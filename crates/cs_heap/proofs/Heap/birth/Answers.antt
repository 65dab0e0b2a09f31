use Rattle.std.proofs.Common.{sym, ◌∙◌, arith}
use Rattle.cs_heap.specs.Object.{Object}
use Rattle.cs_heap.proofs.Seen.{field_is, read_is, seen, there_is}
use Rattle.cs_heap.proofs.Standing.{unit_of}
use Rattle.cs_heap.proofs.Heap.birth.Goals as goal

pub unit_of-requires : goal.unit_of-requires
unit_of-requires c = (seen c.self.inside c.args.self.now c.self.invariant c.self.view_is c.args.o.0 c.requires).known_there.above

pub index-requires : goal.index-requires
index-requires c = let s = seen c.self.inside c.args.self.now c.self.invariant c.self.view_is c.args.o.0 c.requires in
    omega (arith, (there_is c.self.inside c.args.self.now.objects c.args.o.0 s).births_within, c.unit_of.ensures, c.self.inside.births.ok.0)

pub returns : goal.returns
returns c =
    let s = seen c.self.inside c.args.self.now c.self.invariant c.self.view_is c.args.o.0 c.requires in
    let t = there_is c.self.inside c.args.self.now.objects c.args.o.0 s in
    read_is c.self.inside.births.items c.unit_of.result (unit_of c.args.o.0) c.index.result.now c.unit_of.ensures t.births_within c.index.ensures
    ∙ t.birth_is ∙ sym (field_is c.self.inside c.args.self.now.objects c.args.o.0 s (λ (x : Object). x.birth))
