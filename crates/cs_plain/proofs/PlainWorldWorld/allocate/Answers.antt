use Rattle.std.proofs.Common.{subst, sym, ◌+◌, refl}
use Rattle.std.proofs.lemmas.Bool.{false≢true}
use Rattle.cs_heap.specs.Object.{Memory, size, used}
use Rattle.cs_classes.proofs.Wholes.{after_birth}
use Rattle.cs_model.specs.Keeps.{Keeps, SameKept}
use Rattle.cs_model.specs.Operation.{add_of, next_ref}
use Rattle.cs_acts.specs.Made.{blank_of}
use Rattle.cs_acts.specs.Names.{KeepsNames, Names}
use Rattle.cs_acts.specs.Ready.{IsReady, IsSound}
use Rattle.cs_plain.specs.View.{plain_stored, plain_view}
use Rattle.cs_acts.proofs.Allocating.{within}
use Rattle.cs_plain.proofs.Allocating.{below, full_made, made_names, made_ready, made_sound, made_state, made_value, made_view}
use Rattle.cs_plain.proofs.Writing.{same_kept}
use Rattle.cs_plain.proofs.PlainWorldWorld.allocate.Goals as goal

pub allocate-requires-clause-class : goal.allocate-requires-clause-class
allocate-requires-clause-class c = below c.args.self.now c.args.class c.args.format c.args.slots c.requires.sound c.requires.fits c.len-entries.ensures.beyond

pub returns-in-Err-clause-full : goal.returns-in-Err-clause-full
returns-in-Err-clause-full c =
    full_made c.args.self.now c.args.class c.args.format c.args.slots c.requires.sound c.requires.fits c.allocate.new.self c.in-Err.ensures.unchanged_if_full (c.in-Err.ensures.full.0 refl)

pub returns-in-Ok-clause-state : goal.returns-in-Ok-clause-state
returns-in-Ok-clause-state c m k =
    let w = c.args.self.now in
    subst (λ (h : Memory). Keeps (plain_view (record w { heap = h; roots = after_birth w.roots })) (add_of m (blank_of m c.args.class c.args.format c.args.slots))) (sym c.in-Ok.ensures.added)
    (made_state w c.args.class c.args.format c.args.slots c.requires.sound c.requires.fits m k)

pub returns-in-Ok-clause-exact : goal.returns-in-Ok-clause-exact
returns-in-Ok-clause-exact c none =
    let w = c.args.self.now in
    subst (λ (h : Memory). SameKept (plain_view (record w { heap = h; roots = after_birth w.roots })) (add_of (plain_view w) (blank_of (plain_view w) c.args.class c.args.format c.args.slots))) (sym c.in-Ok.ensures.added)
    (same_kept _ _ (made_view w c.args.class c.args.format c.args.slots c.requires.sound c.requires.fits))

pub returns-in-Ok-clause-value : goal.returns-in-Ok-clause-value
returns-in-Ok-clause-value c =
    let w = c.args.self.now in
    subst (λ (h : Memory). Names (plain_stored (record w { heap = h; roots = after_birth w.roots })) c.in-Ok.object (next_ref (plain_view w))) (sym c.in-Ok.ensures.added)
    (made_value w c.args.class c.args.format c.args.slots c.requires.sound c.requires.fits c.in-Ok.object c.in-Ok.ensures.address)

pub returns-in-Ok-clause-sound : goal.returns-in-Ok-clause-sound
returns-in-Ok-clause-sound c =
    let w = c.args.self.now in
    subst (λ (h : Memory). IsSound (plain_stored (record w { heap = h; roots = after_birth w.roots })) (plain_view (record w { heap = h; roots = after_birth w.roots }))) (sym c.in-Ok.ensures.added)
    (made_sound w c.args.class c.args.format c.args.slots c.requires.sound c.requires.fits (within w.heap.limit (used w.heap.objects + size c.args.slots) (λ over. false≢true (c.in-Ok.ensures.full.1 over))))

pub returns-in-Ok-clause-ready : goal.returns-in-Ok-clause-ready
returns-in-Ok-clause-ready c ready =
    let w = c.args.self.now in
    subst (λ (h : Memory). IsReady (plain_stored (record w { heap = h; roots = after_birth w.roots })) (plain_view (record w { heap = h; roots = after_birth w.roots }))) (sym c.in-Ok.ensures.added)
    (made_ready w c.args.class c.args.format c.args.slots c.requires.sound c.requires.fits (within w.heap.limit (used w.heap.objects + size c.args.slots) (λ over. false≢true (c.in-Ok.ensures.full.1 over))) ready)

pub returns-in-Ok-clause-names : goal.returns-in-Ok-clause-names
returns-in-Ok-clause-names c =
    let w = c.args.self.now in
    subst (λ (h : Memory). KeepsNames (plain_stored w) (plain_stored (record w { heap = h; roots = after_birth w.roots }))) (sym c.in-Ok.ensures.added)
    (made_names w c.args.class c.args.format c.args.slots c.requires.sound c.requires.fits)
