use Rattle.std.proofs.Common.{refl, arith}
use Rattle.std.proofs.lemmas.Bool.{false≢true}
use Rattle.cs_acts.proofs.Allocating.{within}
use Rattle.cs_stack.proofs.NewMethods.{full_by, index_below, method_by, slots_there}
use Rattle.cs_stack.proofs.parts.Parts.new_method.Goals as goal

pub allocate-requires-clause-class : goal.allocate-requires-clause-class
allocate-requires-clause-class c = index_below c.args.self.now c.requires.good c.args.class c.args.header.0 c.args.count c.requires.fits c.len-entries.ensures.beyond

pub write_header-requires-clause-slots : goal.write_header-requires-clause-slots
write_header-requires-clause-slots c =
    omega (arith, slots_there c.args.self.now.heap c.allocate.new.self c.in-Ok.method.0 _ _ _ _ c.in-Ok.ensures.added c.in-Ok.ensures.address, c.literals.ensures.value)

pub returns-in-Ok-clause-good : goal.returns-in-Ok-clause-good
returns-in-Ok-clause-good c =
    (method_by c.args.self.now c.requires.good c.args.class c.args.header.0 c.args.count c.requires.fits c.in-Ok.method c.allocate.new.self c.write_header.new.heap _ _ _
    (omega (arith, c.from-end.ensures)) (omega (arith, c.from-end.ensures, c.literals.ensures.value)) refl c.in-Ok.ensures.added c.write_header.ensures.heap
    (within _ _ (λ over. false≢true (c.in-Ok.ensures.full.1 over))) c.in-Ok.ensures.address).good

pub returns-in-Ok-clause-view : goal.returns-in-Ok-clause-view
returns-in-Ok-clause-view c =
    (method_by c.args.self.now c.requires.good c.args.class c.args.header.0 c.args.count c.requires.fits c.in-Ok.method c.allocate.new.self c.write_header.new.heap _ _ _
    (omega (arith, c.from-end.ensures)) (omega (arith, c.from-end.ensures, c.literals.ensures.value)) refl c.in-Ok.ensures.added c.write_header.ensures.heap
    (within _ _ (λ over. false≢true (c.in-Ok.ensures.full.1 over))) c.in-Ok.ensures.address).view

pub returns-in-Ok-clause-value : goal.returns-in-Ok-clause-value
returns-in-Ok-clause-value c =
    (method_by c.args.self.now c.requires.good c.args.class c.args.header.0 c.args.count c.requires.fits c.in-Ok.method c.allocate.new.self c.write_header.new.heap _ _ _
    (omega (arith, c.from-end.ensures)) (omega (arith, c.from-end.ensures, c.literals.ensures.value)) refl c.in-Ok.ensures.added c.write_header.ensures.heap
    (within _ _ (λ over. false≢true (c.in-Ok.ensures.full.1 over))) c.in-Ok.ensures.address).value

pub returns-in-Ok-clause-names : goal.returns-in-Ok-clause-names
returns-in-Ok-clause-names c =
    (method_by c.args.self.now c.requires.good c.args.class c.args.header.0 c.args.count c.requires.fits c.in-Ok.method c.allocate.new.self c.write_header.new.heap _ _ _
    (omega (arith, c.from-end.ensures)) (omega (arith, c.from-end.ensures, c.literals.ensures.value)) refl c.in-Ok.ensures.added c.write_header.ensures.heap
    (within _ _ (λ over. false≢true (c.in-Ok.ensures.full.1 over))) c.in-Ok.ensures.address).names

pub returns-in-Ok-clause-contexts : goal.returns-in-Ok-clause-contexts
returns-in-Ok-clause-contexts c =
    omega (
      arith,
      (method_by c.args.self.now c.requires.good c.args.class c.args.header.0 c.args.count c.requires.fits c.in-Ok.method c.allocate.new.self c.write_header.new.heap _ _ _
          (omega (arith, c.from-end.ensures)) (omega (arith, c.from-end.ensures, c.literals.ensures.value)) refl c.in-Ok.ensures.added c.write_header.ensures.heap
          (within _ _ (λ over. false≢true (c.in-Ok.ensures.full.1 over))) c.in-Ok.ensures.address).contexts,
    )

pub returns-in-Err-clause-full : goal.returns-in-Err-clause-full
returns-in-Err-clause-full c = (
  refl,
  full_by c.args.self.now c.requires.good c.args.class c.args.header.0 c.args.count c.requires.fits c.allocate.new.self _ c.in-Err.ensures.unchanged_if_full (c.in-Err.ensures.full.0 refl)
      (omega (arith, c.from-end.ensures, c.literals.ensures.value)),
)
