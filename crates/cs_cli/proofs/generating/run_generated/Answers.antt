use Rattle.std.proofs.Common.{◌≡◌, ◌∙◌, ℕ, List, Some, Ok, ap, subst, sym, length}
use Rattle.cs_classes.specs.declared.Loaded.{Loaded}
use Rattle.cs_classes.specs.Meaning.{loaded_kept}
use Rattle.cs_model.specs.Builder.{text_objects}
use Rattle.cs_model.specs.BuilderFault.{forms_of}
use Rattle.cs_model.specs.Generator.{generated}
use Rattle.cs_model.specs.Image.{image_of}
use Rattle.cs_model.specs.Settle.{open_kept}
use Rattle.cs_cli.specs.Answer as answer
use Rattle.cs_cli.specs.Answer.{BegunBehind, IsBuilt, Writing, generated_line}
use Rattle.cs_cli.specs.Meaning.{options_by}
use Rattle.cs_cli.proofs.Generated.{image_refuses}
use Rattle.cs_cli.proofs.Writings.{writing}
use Rattle.cs_cli.proofs.generating.run_generated.Goals as goal

pub open_and_run-requires-clause-openable : goal.open_and_run-requires-clause-openable
open_and_run-requires-clause-openable g c = record {
  whole = c.in-Ok.ensures.sound;
  births = c.in-Ok.ensures.next;
  pcs = c.in-Ok.ensures.pcs;
  senders = c.in-Ok.ensures.senders;
  nil = c.in-Ok.ensures.nil;
  running = c.in-Ok.ensures.opens;
}

pub returns-in-Ok : goal.returns-in-Ok
returns-in-Ok g c =
    let out : Writing = writing (g.K.Sink.taken c.args.out.now) (g.K.Sink.taken c.open_and_run.new.out) (g.K.Sink.fault_count c.args.out.now) (g.K.Sink.fault_count c.open_and_run.new.out) in
    let bytes = c.args.image.now.bytes.items in
    let s = loaded_kept c.in-Ok.loaded in
    let P : List ℕ → Type 0 = λ b. image_of b c.args.line.now.options.heap ≡ Ok s in
    let Q : ℕ → Type 0 = λ pages. BegunBehind (generated_line c.args.k (length (text_objects (forms_of (generated c.args.k))))) (open_kept s) 1000000 (Some pages) c.args.line.now.options.heap out c.open_and_run.result in
    let R : ℕ → Type 0 = λ limit. BegunBehind (generated_line c.args.k (length (text_objects (forms_of (generated c.args.k))))) (open_kept s) 1000000 (Some c.page_count.result) limit out c.open_and_run.result in
    let T : List ℕ → Type 0 = λ first. BegunBehind first (open_kept s) 1000000 (Some c.page_count.result) c.in-Ok.loaded.heap.limit out c.open_and_run.result in
    let same = c.as_str.ensures.value ∙ c.first_line-first.ensures ∙ ap (generated_line c.args.k) c.requires.count in
    answer.gen_ran bytes s c.requires.built (subst P c.as_slice.ensures.value c.in-Ok.ensures.state)
    (subst Q c.page_count.ensures (subst R c.in-Ok.ensures.limit (subst T same c.open_and_run.ensures)))

pub returns-in-Err : goal.returns-in-Err
returns-in-Err g c =
    let out : Writing = writing (g.K.Sink.taken c.args.out.now) (g.K.Sink.taken c.refuse_image.new.out) (g.K.Sink.fault_count c.args.out.now) (g.K.Sink.fault_count c.refuse_image.new.out) in
    let N : Loaded → Type 0 = λ _. Unit {0} in
    let P : List ℕ → Type 0 = λ b. IsBuilt (generated c.args.k) b in
    image_refuses N c.args.k (options_by c.args.line.now.options) out c.refuse_image.result c.as_slice.result.now (subst P (sym c.as_slice.ensures.value) c.requires.built) c.in-Err.error c.in-Err.ensures.fault c.refuse_image.ensures
