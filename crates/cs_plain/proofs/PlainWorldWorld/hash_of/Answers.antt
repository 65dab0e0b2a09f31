use Rattle.std.proofs.Common.{◌≡◌, ap, sym, ◌∙◌, subst}
use Rattle.cs_heap.specs.Object.{Memory}
use Rattle.cs_model.specs.Keeps.{Keeps, SameKept}
use Rattle.cs_model.specs.Instance.{hash_given}
use Rattle.cs_model.specs.State.{Kept}
use Rattle.cs_acts.specs.Names.{KeepsNames, name_of}
use Rattle.cs_acts.specs.Ready.{IsReady, IsSound}
use Rattle.cs_plain.specs.View.{plain_stored, plain_view}
use Rattle.cs_plain.proofs.Heads.{NamedObject, hash_fresh, hash_along, hash_stays, hash_told, named_object, writes-hash_given}
use Rattle.cs_plain.proofs.PlainWorldWorld.hash_of.Goals as goal

pub hash-hash-requires : goal.hash-hash-requires
hash-hash-requires c = (named_object c.args.self.now c.args.o c.requires.sound c.requires.named c.requires.object).1.object

pub next_hash-given-requires : goal.next_hash-given-requires
next_hash-given-requires c = c.requires.sound.holds.whole.last_hash

pub set_hash-requires-clause-object : goal.set_hash-requires-clause-object
set_hash-requires-clause-object c = (named_object c.args.self.now c.args.o c.requires.sound c.requires.named c.requires.object).1.object

pub returns-then-hash-ne0-clause-value : goal.returns-then-hash-ne0-clause-value
returns-then-hash-ne0-clause-value c = c.hash-hash.ensures.value ∙ hash_told c.requires.sound c.requires.named (named_object c.args.self.now c.args.o c.requires.sound c.requires.named c.requires.object).1 (λ e. c.if-hash-ne0.true (c.hash-hash.ensures.value ∙ e))

pub returns-then-hash-ne0-clause-state : goal.returns-then-hash-ne0-clause-state
returns-then-hash-ne0-clause-state c m k = (hash_stays c.requires.sound c.requires.named (named_object c.args.self.now c.args.o c.requires.sound c.requires.named c.requires.object).1 (λ e. c.if-hash-ne0.true (c.hash-hash.ensures.value ∙ e))).state m k

pub returns-then-hash-ne0-clause-exact : goal.returns-then-hash-ne0-clause-exact
returns-then-hash-ne0-clause-exact c none = (hash_stays c.requires.sound c.requires.named (named_object c.args.self.now c.args.o c.requires.sound c.requires.named c.requires.object).1 (λ e. c.if-hash-ne0.true (c.hash-hash.ensures.value ∙ e))).exact

pub returns-then-hash-ne0-clause-sound : goal.returns-then-hash-ne0-clause-sound
returns-then-hash-ne0-clause-sound c = (hash_stays c.requires.sound c.requires.named (named_object c.args.self.now c.args.o c.requires.sound c.requires.named c.requires.object).1 (λ e. c.if-hash-ne0.true (c.hash-hash.ensures.value ∙ e))).sound

pub returns-then-hash-ne0-clause-ready : goal.returns-then-hash-ne0-clause-ready
returns-then-hash-ne0-clause-ready c ready = (hash_stays c.requires.sound c.requires.named (named_object c.args.self.now c.args.o c.requires.sound c.requires.named c.requires.object).1 (λ e. c.if-hash-ne0.true (c.hash-hash.ensures.value ∙ e))).ready ready

pub returns-then-hash-ne0-clause-names : goal.returns-then-hash-ne0-clause-names
returns-then-hash-ne0-clause-names c = (hash_stays c.requires.sound c.requires.named (named_object c.args.self.now c.args.o c.requires.sound c.requires.named c.requires.object).1 (λ e. c.if-hash-ne0.true (c.hash-hash.ensures.value ∙ e))).names

pub returns-clause-value : goal.returns-clause-value
returns-clause-value c = c.next_hash-given.ensures.value ∙ hash_fresh c.requires.sound c.requires.named (named_object c.args.self.now c.args.o c.requires.sound c.requires.named c.requires.object).1 (sym c.hash-hash.ensures.value ∙ c.if-hash-ne0.false)

pub returns-clause-state : goal.returns-clause-state
returns-clause-state c m k = (hash_along c.requires.sound c.requires.named (named_object c.args.self.now c.args.o c.requires.sound c.requires.named c.requires.object).1 c.set_hash.new.self c.next_hash-given.result c.set_hash.ensures c.next_hash-given.ensures.value c.next_hash-given.ensures.below (sym c.hash-hash.ensures.value ∙ c.if-hash-ne0.false)).state m k

pub returns-clause-exact : goal.returns-clause-exact
returns-clause-exact c none = (hash_along c.requires.sound c.requires.named (named_object c.args.self.now c.args.o c.requires.sound c.requires.named c.requires.object).1 c.set_hash.new.self c.next_hash-given.result c.set_hash.ensures c.next_hash-given.ensures.value c.next_hash-given.ensures.below (sym c.hash-hash.ensures.value ∙ c.if-hash-ne0.false)).exact

pub returns-clause-sound : goal.returns-clause-sound
returns-clause-sound c = (hash_along c.requires.sound c.requires.named (named_object c.args.self.now c.args.o c.requires.sound c.requires.named c.requires.object).1 c.set_hash.new.self c.next_hash-given.result c.set_hash.ensures c.next_hash-given.ensures.value c.next_hash-given.ensures.below (sym c.hash-hash.ensures.value ∙ c.if-hash-ne0.false)).sound

pub returns-clause-ready : goal.returns-clause-ready
returns-clause-ready c ready = (hash_along c.requires.sound c.requires.named (named_object c.args.self.now c.args.o c.requires.sound c.requires.named c.requires.object).1 c.set_hash.new.self c.next_hash-given.result c.set_hash.ensures c.next_hash-given.ensures.value c.next_hash-given.ensures.below (sym c.hash-hash.ensures.value ∙ c.if-hash-ne0.false)).ready ready

pub returns-clause-names : goal.returns-clause-names
returns-clause-names c = (hash_along c.requires.sound c.requires.named (named_object c.args.self.now c.args.o c.requires.sound c.requires.named c.requires.object).1 c.set_hash.new.self c.next_hash-given.result c.set_hash.ensures c.next_hash-given.ensures.value c.next_hash-given.ensures.below (sym c.hash-hash.ensures.value ∙ c.if-hash-ne0.false)).names
