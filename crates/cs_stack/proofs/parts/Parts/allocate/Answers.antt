use Rattle.std.proofs.Common.{subst, sym, ◌+◌, ◌≡◌, refl, ap, arith}
use Rattle.std.proofs.lemmas.Bool.{false≢true}
use Rattle.cs_heap.specs.Object.{Memory, size, used}
use Rattle.cs_classes.proofs.Wholes.{after_birth}
use Rattle.cs_model.specs.Operation.{add_of, next_ref}
use Rattle.cs_acts.specs.Made.{blank_of, contexts_in}
use Rattle.cs_acts.specs.Names.{KeepsNames, Names}
use Rattle.cs_stack.specs.View.{stored_of, view_of}
use Rattle.cs_stack.specs.Good.{IsGood}
use Rattle.cs_acts.proofs.Allocating.{within}
use Rattle.cs_stack.proofs.Allocating.{full_made, index_below, made_contexts, made_good, made_names, made_value, made_view}
use Rattle.cs_stack.proofs.parts.Parts.allocate.Goals as goal

pub allocate-requires-clause-class : goal.allocate-requires-clause-class
allocate-requires-clause-class c = index_below c.args.self.now c.requires.good c.args.class c.args.format c.args.slots c.requires.fits c.len-entries.ensures.beyond

pub returns-in-Ok-clause-good : goal.returns-in-Ok-clause-good
returns-in-Ok-clause-good c =
    let w = c.args.self.now in
    subst (λ (h : Memory). IsGood (record w { heap = h; roots = after_birth w.roots })) (sym c.in-Ok.ensures.added)
    (made_good w c.requires.good c.args.class c.args.format c.args.slots c.requires.fits (within w.heap.limit (used w.heap.objects + size c.args.slots) (λ over. false≢true (c.in-Ok.ensures.full.1 over))))

pub returns-in-Ok-clause-view : goal.returns-in-Ok-clause-view
returns-in-Ok-clause-view c =
    let w = c.args.self.now in
    subst (λ (h : Memory). view_of (record w { heap = h; roots = after_birth w.roots }) ≡ add_of (view_of w) (blank_of (view_of w) c.args.class c.args.format c.args.slots)) (sym c.in-Ok.ensures.added)
    (made_view w c.requires.good c.args.class c.args.format c.args.slots c.requires.fits)

pub returns-in-Ok-clause-value : goal.returns-in-Ok-clause-value
returns-in-Ok-clause-value c =
    let w = c.args.self.now in
    subst (λ (h : Memory). Names (stored_of (record w { heap = h; roots = after_birth w.roots })) c.in-Ok.made (next_ref (view_of w))) (sym c.in-Ok.ensures.added)
    (made_value w c.requires.good c.args.class c.args.format c.args.slots c.requires.fits c.in-Ok.made c.in-Ok.ensures.address)

pub returns-in-Ok-clause-contexts : goal.returns-in-Ok-clause-contexts
returns-in-Ok-clause-contexts c =
    let w = c.args.self.now in
    omega (arith, ap (λ (h : Memory). contexts_in h.objects) c.in-Ok.ensures.added, made_contexts w c.requires.good c.args.class c.args.format c.args.slots c.requires.fits)

pub returns-in-Ok-clause-names : goal.returns-in-Ok-clause-names
returns-in-Ok-clause-names c =
    let w = c.args.self.now in
    subst (λ (h : Memory). KeepsNames (stored_of w) (stored_of (record w { heap = h; roots = after_birth w.roots }))) (sym c.in-Ok.ensures.added)
    (made_names w c.requires.good c.args.class c.args.format c.args.slots c.requires.fits)

pub returns-in-Err-clause-good : goal.returns-in-Err-clause-good
returns-in-Err-clause-good c =
    let w = c.args.self.now in
    subst (λ (h : Memory). IsGood (record w { heap = h })) (sym c.in-Err.ensures.unchanged_if_full) c.requires.good

pub returns-in-Err-clause-full : goal.returns-in-Err-clause-full
returns-in-Err-clause-full c =
    (refl, full_made c.args.self.now c.requires.good c.args.class c.args.format c.args.slots c.requires.fits c.allocate.new.self c.in-Err.ensures.unchanged_if_full (c.in-Err.ensures.full.0 refl))
