use Rattle.std.proofs.Common.{◌≤◌, ◌∙◌, None, ap, refl, subst, sym}
use Rattle.cs_classes.specs.Meaning.{loaded_kept}
use Rattle.cs_classes.proofs.Fields.{kept_of-kinds}
use Rattle.cs_model.specs.Due.{is_idle}
use Rattle.cs_model.specs.Read.{IsRunning}
use Rattle.cs_model.specs.Step.{shape_fault}
use Rattle.cs_plain.specs.declared.PlainWorld.{PlainWorld}
use Rattle.cs_plain.proofs.Active.{sound_world}
use Rattle.cs_model.proofs.Opening.{scheduled}
use Rattle.cs_plain.proofs.PlainWorld.new.Goals as goal

pub open-requires-clause-sound : goal.open-requires-clause-sound
open-requires-clause-sound c =
    let w : PlainWorld = record { heap = c.args.loaded.heap; classes = c.args.loaded.classes; roots = c.args.loaded.roots; active = None } in
    sound_world w c.requires.whole
    (subst (λ n. n ≤ w.heap.limit) c.used_words-used.ensures.value c.used_words-used.ensures.within)
    (subst (λ n. n ≤ 67108864) c.limit_words-limit.ensures.value c.limit_words-limit.ensures.most)
    (kept_of-kinds w.heap.objects w.classes w.roots None c.requires.whole c.requires.senders)
    c.requires.pcs

pub returns-clause-idle : goal.returns-clause-idle
returns-clause-idle c = ap is_idle c.open.ensures.view ∙ (scheduled (loaded_kept c.args.loaded) refl c.requires.running).idle

pub returns-clause-shape : goal.returns-clause-shape
returns-clause-shape c = ap shape_fault c.open.ensures.view ∙ (scheduled (loaded_kept c.args.loaded) refl c.requires.running).shape

pub returns-clause-ready : goal.returns-clause-ready
returns-clause-ready c active =
    let idle = ap is_idle c.open.ensures.view ∙ (scheduled (loaded_kept c.args.loaded) refl c.requires.running).idle in
    record { sound = c.open.ensures.sound; running = subst IsRunning (sym c.open.ensures.view) (c.requires.running (sym idle ∙ active)) }
