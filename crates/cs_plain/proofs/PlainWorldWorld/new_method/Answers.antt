use Rattle.std.proofs.Common.{subst, sym, ◌+◌, refl}
use Rattle.std.proofs.lemmas.Bool.{false≢true}
use Rattle.cs_heap.specs.Object.{Memory, size, used}
use Rattle.cs_classes.proofs.Wholes.{after_birth}
use Rattle.cs_model.specs.Keeps.{Keeps, SameKept}
use Rattle.cs_model.specs.Operation.{add_of, next_ref}
use Rattle.cs_acts.specs.Made.{code_words}
use Rattle.cs_model.specs.PrimObject.{blank_method}
use Rattle.cs_acts.specs.Names.{KeepsNames, Names}
use Rattle.cs_acts.specs.Ready.{IsReady, IsSound}
use Rattle.cs_plain.specs.View.{plain_stored, plain_view}
use Rattle.cs_acts.proofs.Allocating.{within}
use Rattle.cs_plain.proofs.MakingMethods.{header_small, method_below, method_full, method_names, method_ready, method_sound, method_state, method_value, method_view}
use Rattle.cs_plain.proofs.Writing.{same_kept}
use Rattle.cs_plain.proofs.PlainWorldWorld.new_method.Goals as goal

pub add_method-requires-clause-header : goal.add_method-requires-clause-header
add_method-requires-clause-header c = header_small c.args.header.0 c.requires.fits.valid

pub add_method-requires-clause-class : goal.add_method-requires-clause-class
add_method-requires-clause-class c = method_below c.args.self.now c.args.class c.args.header.0 c.args.count c.requires.sound c.requires.fits c.len-entries.ensures.beyond

pub returns-in-Err-clause-full : goal.returns-in-Err-clause-full
returns-in-Err-clause-full c =
    method_full c.args.self.now c.args.class c.args.header.0 c.args.count c.requires.sound c.requires.fits c.add_method.new.heap c.in-Err.ensures.unchanged_if_full (c.in-Err.ensures.full.0 refl)

pub returns-in-Ok-clause-state : goal.returns-in-Ok-clause-state
returns-in-Ok-clause-state c m k =
    let w = c.args.self.now in
    subst (λ (h : Memory). Keeps (plain_view (record w { heap = h; roots = after_birth w.roots })) (add_of m (blank_method m c.args.class c.args.count c.args.header.0))) (sym c.in-Ok.ensures.added)
    (method_state w c.args.class c.args.header.0 c.args.count c.requires.sound c.requires.fits m k)

pub returns-in-Ok-clause-exact : goal.returns-in-Ok-clause-exact
returns-in-Ok-clause-exact c none =
    let w = c.args.self.now in
    subst (λ (h : Memory). SameKept (plain_view (record w { heap = h; roots = after_birth w.roots })) (add_of (plain_view w) (blank_method (plain_view w) c.args.class c.args.count c.args.header.0))) (sym c.in-Ok.ensures.added)
    (same_kept _ _ (method_view w c.args.class c.args.header.0 c.args.count c.requires.sound c.requires.fits))

pub returns-in-Ok-clause-value : goal.returns-in-Ok-clause-value
returns-in-Ok-clause-value c =
    let w = c.args.self.now in
    subst (λ (h : Memory). Names (plain_stored (record w { heap = h; roots = after_birth w.roots })) c.in-Ok.method (next_ref (plain_view w))) (sym c.in-Ok.ensures.added)
    (method_value w c.args.class c.args.header.0 c.args.count c.requires.sound c.requires.fits c.in-Ok.method c.in-Ok.ensures.address)

pub returns-in-Ok-clause-sound : goal.returns-in-Ok-clause-sound
returns-in-Ok-clause-sound c =
    let w = c.args.self.now in
    subst (λ (h : Memory). IsSound (plain_stored (record w { heap = h; roots = after_birth w.roots })) (plain_view (record w { heap = h; roots = after_birth w.roots }))) (sym c.in-Ok.ensures.added)
    (method_sound w c.args.class c.args.header.0 c.args.count c.requires.sound c.requires.fits (within w.heap.limit (used w.heap.objects + size (code_words c.args.header.0 c.args.count)) (λ over. false≢true (c.in-Ok.ensures.full.1 over))))

pub returns-in-Ok-clause-ready : goal.returns-in-Ok-clause-ready
returns-in-Ok-clause-ready c ready =
    let w = c.args.self.now in
    subst (λ (h : Memory). IsReady (plain_stored (record w { heap = h; roots = after_birth w.roots })) (plain_view (record w { heap = h; roots = after_birth w.roots }))) (sym c.in-Ok.ensures.added)
    (method_ready w c.args.class c.args.header.0 c.args.count c.requires.sound c.requires.fits (within w.heap.limit (used w.heap.objects + size (code_words c.args.header.0 c.args.count)) (λ over. false≢true (c.in-Ok.ensures.full.1 over))) ready)

pub returns-in-Ok-clause-names : goal.returns-in-Ok-clause-names
returns-in-Ok-clause-names c =
    let w = c.args.self.now in
    subst (λ (h : Memory). KeepsNames (plain_stored w) (plain_stored (record w { heap = h; roots = after_birth w.roots }))) (sym c.in-Ok.ensures.added)
    (method_names w c.args.class c.args.header.0 c.args.count c.requires.sound c.requires.fits)
