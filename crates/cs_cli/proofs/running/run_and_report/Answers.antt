use Rattle.std.proofs.Common.{◌∙◌, ap, subst}
use Rattle.cs_core.specs.Deep.{most_of}
use Rattle.cs_core.specs.VmParts.{Seen, seen_through}
use Rattle.cs_cli.specs.Answer.{Reported}
use Rattle.cs_cli.proofs.Breaking.{end_reported, fault_reported, heap_reported, stack_reported}
use Rattle.cs_cli.proofs.Within.{has_ended}
use Rattle.cs_cli.proofs.Writings.{writing}
use Rattle.cs_cli.proofs.running.run_and_report.Goals as goal

pub returns-in-Heap : goal.returns-in-Heap
returns-in-Heap g c =
    let a : Seen = seen_through g.W.World.stored g.W.World.view g.W.World.layout c.new-machine.result in
    let b : Seen = seen_through g.W.World.stored g.W.World.view g.W.World.layout c.run.new.self in
    let k = g.W.World.view c.args.world in
    let gives = c.run.ensures.gives k 0 c.new-machine.ensures.phase (c.new-machine.ensures.stands k c.requires.sound.closed) in
    let limit = (g.W.World.stored c.args.world).memory.limit in
    let within = c.run.ensures.limit ∙ ap (λ w. (g.W.World.stored w).memory.limit) c.new-machine.ensures.world in
    let most = most_of (g.W.World.layout c.args.world) in
    heap_reported k a b most (g.K.Sink.taken c.args.out.now) (g.K.Sink.taken c.run.new.out) (g.K.Sink.fault_count c.args.out.now) (g.K.Sink.fault_count c.run.new.out) c.args.steps limit c.run.result c.in-Full.why c.in-Full.is c.in-Heap.is within gives

pub returns-in-Full : goal.returns-in-Full
returns-in-Full g c =
    let a : Seen = seen_through g.W.World.stored g.W.World.view g.W.World.layout c.new-machine.result in
    let b : Seen = seen_through g.W.World.stored g.W.World.view g.W.World.layout c.run.new.self in
    let k = g.W.World.view c.args.world in
    let gives = c.run.ensures.gives k 0 c.new-machine.ensures.phase (c.new-machine.ensures.stands k c.requires.sound.closed) in
    let limit = (g.W.World.stored c.args.world).memory.limit in
    subst (λ w. Reported k c.args.steps (most_of (g.W.World.layout w)) limit (writing (g.K.Sink.taken c.args.out.now) (g.K.Sink.taken c.print.new.out) (g.K.Sink.fault_count c.args.out.now) (g.K.Sink.fault_count c.print.new.out)) c.print.result) c.new-machine.ensures.world
    (stack_reported k a b (g.K.Sink.taken c.args.out.now) (g.K.Sink.taken c.run.new.out) (g.K.Sink.taken c.print.new.out) (g.K.Sink.fault_count c.args.out.now) (g.K.Sink.fault_count c.run.new.out) (g.K.Sink.fault_count c.print.new.out) c.args.steps limit c.run.result c.in-Full.why c.print.result c.in-Full.is c.in-Stack.is
    (c.new-machine.ensures.stack k c.requires.sound.closed c.requires.fresh) gives c.run.ensures.never_falls c.print.ensures.printed)

pub returns-in-WriteFault : goal.returns-in-WriteFault
returns-in-WriteFault g c =
    let a : Seen = seen_through g.W.World.stored g.W.World.view g.W.World.layout c.new-machine.result in
    let b : Seen = seen_through g.W.World.stored g.W.World.view g.W.World.layout c.run.new.self in
    let k = g.W.World.view c.args.world in
    let gives = c.run.ensures.gives k 0 c.new-machine.ensures.phase (c.new-machine.ensures.stands k c.requires.sound.closed) in
    let most = most_of (g.W.World.layout c.args.world) in
    fault_reported k a b most (g.K.Sink.taken c.args.out.now) (g.K.Sink.taken c.run.new.out) (g.K.Sink.fault_count c.args.out.now) (g.K.Sink.fault_count c.run.new.out) c.args.steps (g.W.World.stored c.args.world).memory.limit c.run.result c.in-WriteFault.is gives (c.run.ensures.cause c.new-machine.ensures.phase)

pub returns : goal.returns
returns g c =
    let a : Seen = seen_through g.W.World.stored g.W.World.view g.W.World.layout c.new-machine.result in
    let b : Seen = seen_through g.W.World.stored g.W.World.view g.W.World.layout c.run.new.self in
    let k = g.W.World.view c.args.world in
    let gives = c.run.ensures.gives k 0 c.new-machine.ensures.phase (c.new-machine.ensures.stands k c.requires.sound.closed) in
    let limit = (g.W.World.stored c.args.world).memory.limit in
    let within = c.run.ensures.limit ∙ ap (λ w. (g.W.World.stored w).memory.limit) c.new-machine.ensures.world in
    let most = most_of (g.W.World.layout c.args.world) in
    let ended = has_ended k c.args.steps (g.K.Sink.taken c.args.out.now) (g.K.Sink.taken c.run.new.out) a b c.run.result c.in_default.not-Full c.in_default.not-WriteFault gives c.run.ensures.sound in
    end_reported k b most (g.K.Sink.taken c.args.out.now) (g.K.Sink.taken c.run.new.out) (g.K.Sink.taken c.print_report.new.out) (g.K.Sink.fault_count c.args.out.now) (g.K.Sink.fault_count c.run.new.out) (g.K.Sink.fault_count c.print_report.new.out) c.args.steps limit c.run.result c.steps.result c.place.result c.print_report.result ended within c.steps.ensures c.place.ensures
    c.run.ensures.never_falls c.print_report.ensures
