use Rattle.std.proofs.Common.{ap, arith, length, Option}
use Rattle.std.specs.Option.{option_map_or}
use Rattle.cs_heap.specs.Object.{Object}
use Rattle.cs_model.specs.Operation.{store_of}
use Rattle.cs_acts.specs.Names.{name_of}
use Rattle.cs_plain.specs.View.{plain_stored}
use Rattle.cs_plain.proofs.Writing.{anyway_along}
use Rattle.cs_plain.proofs.Storing.{storable, writes-store}
use Rattle.cs_plain.proofs.PlainWorldWorld.store.Goals as goal

pub set_slot-requires : goal.set_slot-requires
set_slot-requires c =
    let s = storable c.requires.sound c.args.i c.args.v.0 c.args.o c.requires.object c.requires.there in
    omega (arith, s.1.within, ap (λ (o : Option Object). option_map_or (λ (y : Object). length y.words) o 0) s.1.there)

pub returns-clause-state : goal.returns-clause-state
returns-clause-state c m k = (anyway_along c.args.self.now c.set_slot.new.self _ (λ m. store_of m (name_of (plain_stored c.args.self.now) c.args.o) c.args.i (name_of (plain_stored c.args.self.now) c.args.v)) c.set_slot.ensures (writes-store c.args.self.now c.args.o c.args.v c.args.i (storable c.requires.sound c.args.i c.args.v.0 c.args.o c.requires.object c.requires.there).0 c.requires.sound c.requires.object c.requires.named (storable c.requires.sound c.args.i c.args.v.0 c.args.o c.requires.object c.requires.there).1)).state m k

pub returns-clause-exact : goal.returns-clause-exact
returns-clause-exact c none = (anyway_along c.args.self.now c.set_slot.new.self _ (λ m. store_of m (name_of (plain_stored c.args.self.now) c.args.o) c.args.i (name_of (plain_stored c.args.self.now) c.args.v)) c.set_slot.ensures (writes-store c.args.self.now c.args.o c.args.v c.args.i (storable c.requires.sound c.args.i c.args.v.0 c.args.o c.requires.object c.requires.there).0 c.requires.sound c.requires.object c.requires.named (storable c.requires.sound c.args.i c.args.v.0 c.args.o c.requires.object c.requires.there).1)).exact

pub returns-clause-sound : goal.returns-clause-sound
returns-clause-sound c = (anyway_along c.args.self.now c.set_slot.new.self _ (λ m. store_of m (name_of (plain_stored c.args.self.now) c.args.o) c.args.i (name_of (plain_stored c.args.self.now) c.args.v)) c.set_slot.ensures (writes-store c.args.self.now c.args.o c.args.v c.args.i (storable c.requires.sound c.args.i c.args.v.0 c.args.o c.requires.object c.requires.there).0 c.requires.sound c.requires.object c.requires.named (storable c.requires.sound c.args.i c.args.v.0 c.args.o c.requires.object c.requires.there).1)).sound

pub returns-clause-ready : goal.returns-clause-ready
returns-clause-ready c ready = (anyway_along c.args.self.now c.set_slot.new.self _ (λ m. store_of m (name_of (plain_stored c.args.self.now) c.args.o) c.args.i (name_of (plain_stored c.args.self.now) c.args.v)) c.set_slot.ensures (writes-store c.args.self.now c.args.o c.args.v c.args.i (storable c.requires.sound c.args.i c.args.v.0 c.args.o c.requires.object c.requires.there).0 c.requires.sound c.requires.object c.requires.named (storable c.requires.sound c.args.i c.args.v.0 c.args.o c.requires.object c.requires.there).1)).ready ready

pub returns-clause-names : goal.returns-clause-names
returns-clause-names c = (anyway_along c.args.self.now c.set_slot.new.self _ (λ m. store_of m (name_of (plain_stored c.args.self.now) c.args.o) c.args.i (name_of (plain_stored c.args.self.now) c.args.v)) c.set_slot.ensures (writes-store c.args.self.now c.args.o c.args.v c.args.i (storable c.requires.sound c.args.i c.args.v.0 c.args.o c.requires.object c.requires.there).0 c.requires.sound c.requires.object c.requires.named (storable c.requires.sound c.args.i c.args.v.0 c.args.o c.requires.object c.requires.there).1)).names
