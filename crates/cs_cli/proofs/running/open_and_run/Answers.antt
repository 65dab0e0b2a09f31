use Rattle.std.proofs.Common.{ℕ, Option, Some, subst}
use Rattle.cs_model.specs.State.{Kept}
use Rattle.cs_stack.specs.View.{layout_of, view_of}
use Rattle.cs_core.specs.Deep.{most_of}
use Rattle.cs_cli.specs.Answer.{BegunBehind, Writing}
use Rattle.cs_cli.proofs.Writings.{writing}
use Rattle.cs_cli.proofs.running.open_and_run.Goals as goal

pub begin-requires : goal.begin-requires
begin-requires g c = record {
  sound = c.in-Ok.ensures.sound;
  running = λ active. (c.in-Ok.ensures.ready active).running;
  fresh = c.in-Ok.ensures.fresh;
}

pub returns-in-Ok : goal.returns-in-Ok
returns-in-Ok g c =
    let out : Writing = writing (g.K.Sink.taken c.args.out.now) (g.K.Sink.taken c.begin.new.out)
    (g.K.Sink.fault_count c.args.out.now) (g.K.Sink.fault_count c.begin.new.out) in
    let status = c.begin.result in
    let world = c.in-Ok.world in
    let limit = c.args.loaded.heap.limit in
    let P : Kept → Type 0 = λ k. BegunBehind c.args.first.now k c.args.steps (Some c.args.pages) limit out status in
    let Q : Option ℕ → Type 0 = λ most. BegunBehind c.args.first.now (view_of world) c.args.steps most limit out status in
    let R : ℕ → Type 0 = λ l. BegunBehind c.args.first.now (view_of world) c.args.steps (most_of (layout_of world)) l out status in
    subst P c.in-Ok.ensures.view (subst Q c.in-Ok.ensures.most (subst R c.in-Ok.ensures.limit c.begin.ensures))
