use Rattle.std.proofs.Common.{◌≡◌, ◌+◌, ap, arith, sym, ◌∙◌, is_some, Option, Some, None, IsSome, ℕ}
use Rattle.std.proofs.lemmas.Bool.{false≢true}
use Rattle.cs_model.specs.Obj.{Obj}
use Rattle.cs_model.specs.State.{object_of}
use Rattle.cs_acts.specs.Names.{name_of}
use Rattle.cs_plain.specs.View.{plain_stored, plain_view}
use Rattle.cs_plain.proofs.Writing.{anyway_along}
use Rattle.cs_model.specs.Operation.{set_fixed_of}
use Rattle.cs_model.specs.PrimObject.{can_be_fixed}
use Rattle.cs_plain.proofs.Heads.{NamedObject, fixable, named_object, writes-set_fixed}
use Rattle.cs_plain.proofs.PlainWorldWorld.set_fixed.Goals as goal

pub set_fixed-requires : goal.set_fixed-requires
set_fixed-requires c = (named_object c.args.self.now c.args.o c.requires.sound c.requires.named (fixable _ c.requires.object)).1.object

pub returns-clause-state : goal.returns-clause-state
returns-clause-state c m k = (anyway_along c.args.self.now c.set_fixed.new.self _ (λ m. set_fixed_of m (name_of (plain_stored c.args.self.now) c.args.o) c.args.on) c.set_fixed.ensures (writes-set_fixed c.requires.sound c.requires.named (named_object c.args.self.now c.args.o c.requires.sound c.requires.named (fixable _ c.requires.object)).1 c.args.on c.requires.object)).state m k

pub returns-clause-exact : goal.returns-clause-exact
returns-clause-exact c none = (anyway_along c.args.self.now c.set_fixed.new.self _ (λ m. set_fixed_of m (name_of (plain_stored c.args.self.now) c.args.o) c.args.on) c.set_fixed.ensures (writes-set_fixed c.requires.sound c.requires.named (named_object c.args.self.now c.args.o c.requires.sound c.requires.named (fixable _ c.requires.object)).1 c.args.on c.requires.object)).exact

pub returns-clause-sound : goal.returns-clause-sound
returns-clause-sound c = (anyway_along c.args.self.now c.set_fixed.new.self _ (λ m. set_fixed_of m (name_of (plain_stored c.args.self.now) c.args.o) c.args.on) c.set_fixed.ensures (writes-set_fixed c.requires.sound c.requires.named (named_object c.args.self.now c.args.o c.requires.sound c.requires.named (fixable _ c.requires.object)).1 c.args.on c.requires.object)).sound

pub returns-clause-ready : goal.returns-clause-ready
returns-clause-ready c ready = (anyway_along c.args.self.now c.set_fixed.new.self _ (λ m. set_fixed_of m (name_of (plain_stored c.args.self.now) c.args.o) c.args.on) c.set_fixed.ensures (writes-set_fixed c.requires.sound c.requires.named (named_object c.args.self.now c.args.o c.requires.sound c.requires.named (fixable _ c.requires.object)).1 c.args.on c.requires.object)).ready ready

pub returns-clause-names : goal.returns-clause-names
returns-clause-names c = (anyway_along c.args.self.now c.set_fixed.new.self _ (λ m. set_fixed_of m (name_of (plain_stored c.args.self.now) c.args.o) c.args.on) c.set_fixed.ensures (writes-set_fixed c.requires.sound c.requires.named (named_object c.args.self.now c.args.o c.requires.sound c.requires.named (fixable _ c.requires.object)).1 c.args.on c.requires.object)).names
