use Rattle.std.proofs.Common.{arith, refl, Some}
use Rattle.cs_plain.proofs.Leaving.{landed_view, landing, names_both, six_slots, target_of}
use Rattle.cs_plain.proofs.PlainWorld.land.Goals as goal

pub slot-sender-requires : goal.slot-sender-requires
slot-sender-requires c = omega (arith, six_slots c.args.self.now c.args.dying c.requires.sound (target_of c.args.self.now c.args.dying c.requires.target))

pub bury-requires : goal.bury-requires
bury-requires c = omega (arith, six_slots c.args.self.now c.args.dying c.requires.sound (target_of c.args.self.now c.args.dying c.requires.target))

pub push-requires-clause-ready : goal.push-requires-clause-ready
push-requires-clause-ready c = (landing c.args.self.now c.args.dying c.slot-sender.result c.bury.new.heap c.requires.sound (target_of c.args.self.now c.args.dying c.requires.target) c.slot-sender.ensures c.bury.ensures).ready

pub push-requires-clause-fits : goal.push-requires-clause-fits
push-requires-clause-fits c = (landing c.args.self.now c.args.dying c.slot-sender.result c.bury.new.heap c.requires.sound (target_of c.args.self.now c.args.dying c.requires.target) c.slot-sender.ensures c.bury.ensures).fits

pub push-requires-clause-named : goal.push-requires-clause-named
push-requires-clause-named c = ((landing c.args.self.now c.args.dying c.slot-sender.result c.bury.new.heap c.requires.sound (target_of c.args.self.now c.args.dying c.requires.target) c.slot-sender.ensures c.bury.ensures).names c.args.v c.requires.named).sound

pub returns-clause-view : goal.returns-clause-view
returns-clause-view c =
    landed_view c.args.self.now _ c.push.new.self c.args.dying c.args.v (target_of c.args.self.now c.args.dying c.requires.target) (landing c.args.self.now c.args.dying c.slot-sender.result c.bury.new.heap c.requires.sound (target_of c.args.self.now c.args.dying c.requires.target) c.slot-sender.ensures c.bury.ensures) c.requires.named (c.push.ensures.exact refl)

pub returns-clause-names : goal.returns-clause-names
returns-clause-names c = names_both c.args.self.now (record c.args.self.now { heap = c.bury.new.heap; active = Some c.slot-sender.result }) c.push.new.self (landing c.args.self.now c.args.dying c.slot-sender.result c.bury.new.heap c.requires.sound (target_of c.args.self.now c.args.dying c.requires.target) c.slot-sender.ensures c.bury.ensures).names c.push.ensures.names
