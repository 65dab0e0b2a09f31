use Rattle.std.proofs.Common.{◌≡◌, ◌+◌, ◌<◌, ◌^◌, ap, arith, sym, ◌∙◌, is_some, Option, Some, None, IsSome, ℕ}
use Rattle.std.proofs.lemmas.Bool.{false≢true}
use Rattle.cs_model.specs.Obj.{Obj}
use Rattle.cs_model.specs.State.{object_of}
use Rattle.cs_acts.specs.Names.{name_of}
use Rattle.cs_classes.specs.Meaning.{first_byte_at}
use Rattle.cs_plain.specs.View.{plain_stored, plain_view}
use Rattle.cs_plain.proofs.Writing.{anyway_along}
use Rattle.cs_model.specs.Operation.{store_byte_of}
use Rattle.cs_plain.proofs.Heads.{NamedObject, Writable, byte_few, counted_object, named_object, writable, writes-store_byte}
use Rattle.cs_plain.proofs.PlainWorldWorld.store_byte.Goals as goal

pub overflow_add-first : goal.overflow_add-first
overflow_add-first c =
    let few : first_byte_at c.args.self.now.heap.objects c.args.o.0 + c.args.i < 2 ^ 32 = byte_few c.requires.sound c.requires.object (named_object c.args.self.now c.args.o c.requires.sound c.requires.object (counted_object _ c.args.i c.requires.there)).1 _ (writable c.requires.sound c.requires.object (named_object c.args.self.now c.args.o c.requires.sound c.requires.object (counted_object _ c.args.i c.requires.there)).1 c.args.i c.args.b c.ranges.b.fits c.requires.there).within in
    omega (arith, few, c.first_byte-first.ensures)

pub first_byte-first-requires-clause-object : goal.first_byte-first-requires-clause-object
first_byte-first-requires-clause-object c = (named_object c.args.self.now c.args.o c.requires.sound c.requires.object (counted_object _ c.args.i c.requires.there)).1.object

pub first_byte-first-requires-clause-header : goal.first_byte-first-requires-clause-header
first_byte-first-requires-clause-header c = (writable c.requires.sound c.requires.object (named_object c.args.self.now c.args.o c.requires.sound c.requires.object (counted_object _ c.args.i c.requires.there)).1 c.args.i c.args.b c.ranges.b.fits c.requires.there).header

pub set_byte-requires : goal.set_byte-requires
set_byte-requires c = omega (arith, (writable c.requires.sound c.requires.object (named_object c.args.self.now c.args.o c.requires.sound c.requires.object (counted_object _ c.args.i c.requires.there)).1 c.args.i c.args.b c.ranges.b.fits c.requires.there).within, c.first_byte-first.ensures)

pub returns-clause-state : goal.returns-clause-state
returns-clause-state c m k = (anyway_along c.args.self.now c.set_byte.new.self _ (λ m. store_byte_of m (name_of (plain_stored c.args.self.now) c.args.o) c.args.i c.args.b) c.set_byte.ensures (writes-store_byte c.requires.sound c.requires.object (named_object c.args.self.now c.args.o c.requires.sound c.requires.object (counted_object _ c.args.i c.requires.there)).1 c.args.i c.args.b c.first_byte-first.result c.first_byte-first.ensures (writable c.requires.sound c.requires.object (named_object c.args.self.now c.args.o c.requires.sound c.requires.object (counted_object _ c.args.i c.requires.there)).1 c.args.i c.args.b c.ranges.b.fits c.requires.there))).state m k

pub returns-clause-exact : goal.returns-clause-exact
returns-clause-exact c none = (anyway_along c.args.self.now c.set_byte.new.self _ (λ m. store_byte_of m (name_of (plain_stored c.args.self.now) c.args.o) c.args.i c.args.b) c.set_byte.ensures (writes-store_byte c.requires.sound c.requires.object (named_object c.args.self.now c.args.o c.requires.sound c.requires.object (counted_object _ c.args.i c.requires.there)).1 c.args.i c.args.b c.first_byte-first.result c.first_byte-first.ensures (writable c.requires.sound c.requires.object (named_object c.args.self.now c.args.o c.requires.sound c.requires.object (counted_object _ c.args.i c.requires.there)).1 c.args.i c.args.b c.ranges.b.fits c.requires.there))).exact

pub returns-clause-sound : goal.returns-clause-sound
returns-clause-sound c = (anyway_along c.args.self.now c.set_byte.new.self _ (λ m. store_byte_of m (name_of (plain_stored c.args.self.now) c.args.o) c.args.i c.args.b) c.set_byte.ensures (writes-store_byte c.requires.sound c.requires.object (named_object c.args.self.now c.args.o c.requires.sound c.requires.object (counted_object _ c.args.i c.requires.there)).1 c.args.i c.args.b c.first_byte-first.result c.first_byte-first.ensures (writable c.requires.sound c.requires.object (named_object c.args.self.now c.args.o c.requires.sound c.requires.object (counted_object _ c.args.i c.requires.there)).1 c.args.i c.args.b c.ranges.b.fits c.requires.there))).sound

pub returns-clause-ready : goal.returns-clause-ready
returns-clause-ready c ready = (anyway_along c.args.self.now c.set_byte.new.self _ (λ m. store_byte_of m (name_of (plain_stored c.args.self.now) c.args.o) c.args.i c.args.b) c.set_byte.ensures (writes-store_byte c.requires.sound c.requires.object (named_object c.args.self.now c.args.o c.requires.sound c.requires.object (counted_object _ c.args.i c.requires.there)).1 c.args.i c.args.b c.first_byte-first.result c.first_byte-first.ensures (writable c.requires.sound c.requires.object (named_object c.args.self.now c.args.o c.requires.sound c.requires.object (counted_object _ c.args.i c.requires.there)).1 c.args.i c.args.b c.ranges.b.fits c.requires.there))).ready ready

pub returns-clause-names : goal.returns-clause-names
returns-clause-names c = (anyway_along c.args.self.now c.set_byte.new.self _ (λ m. store_byte_of m (name_of (plain_stored c.args.self.now) c.args.o) c.args.i c.args.b) c.set_byte.ensures (writes-store_byte c.requires.sound c.requires.object (named_object c.args.self.now c.args.o c.requires.sound c.requires.object (counted_object _ c.args.i c.requires.there)).1 c.args.i c.args.b c.first_byte-first.result c.first_byte-first.ensures (writable c.requires.sound c.requires.object (named_object c.args.self.now c.args.o c.requires.sound c.requires.object (counted_object _ c.args.i c.requires.there)).1 c.args.i c.args.b c.ranges.b.fits c.requires.there))).names
