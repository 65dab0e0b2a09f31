use Rattle.std.proofs.Common.{arith}
use Rattle.cs_plain.proofs.Cutting.{cuts_first, cutting, is_there, met_home, met_last, next, six_there}
use Rattle.cs_plain.proofs.Ways.{links_is}
use Rattle.cs_plain.proofs.PlainWorld.bury_to.Goals as goal

pub loop-init : goal.loop-init
loop-init c = cuts_first c.args.self.now c.args.home c.active_context-context.result c.requires.ready c.active_context-context.ensures c.requires.target

pub birth-requires : goal.birth-requires
birth-requires c = is_there c.args.self.now c.loop.self c.args.home c.loop.context c.loop.counter (cutting c.args.self.now c.loop.self c.args.home c.loop.context c.loop.counter c.requires.target c.loop.invariant)

pub returns-then-birth-home : goal.returns-then-birth-home
returns-then-birth-home c = met_home c.args.self.now c.loop.self c.args.home c.loop.context c.loop.counter (cutting c.args.self.now c.loop.self c.args.home c.loop.context c.loop.counter c.requires.target c.loop.invariant) c.birth.result c.birth.ensures c.if-birth-home.true

pub slot-sender-requires : goal.slot-sender-requires
slot-sender-requires c = omega (arith, six_there c.args.self.now c.loop.self c.args.home c.loop.context c.loop.counter (cutting c.args.self.now c.loop.self c.args.home c.loop.context c.loop.counter c.requires.target c.loop.invariant))

pub bury-requires : goal.bury-requires
bury-requires c = omega (arith, six_there c.args.self.now c.loop.self c.args.home c.loop.context c.loop.counter (cutting c.args.self.now c.loop.self c.args.home c.loop.context c.loop.counter c.requires.target c.loop.invariant))

pub loop-preserved : goal.loop-preserved
loop-preserved c = next c.args.self.now c.loop.self c.args.home c.loop.context c.loop.counter (cutting c.args.self.now c.loop.self c.args.home c.loop.context c.loop.counter c.requires.target c.loop.invariant) c.slot-sender.result c.bury.new.heap c.slot-sender.ensures c.bury.ensures c.birth.result c.birth.ensures c.if-birth-home.false

pub returns : goal.returns
returns c = met_last c.args.self.now c.loop.self c.args.home c.loop.context c.loop.counter (cutting c.args.self.now c.loop.self c.args.home c.loop.context c.loop.counter c.requires.target c.loop.invariant) (omega (arith, links_is, c.loop-test.false))
