use Rattle.std.proofs.Common.{◌≡◌, ℕ, ap, sym, ◌∙◌, arith, nat_cmp}
use Rattle.std.specs.FinMap.{FinMap, insert}
use Rattle.cs_model.specs.ImageFile.{is_nil_word}
use Rattle.cs_model.specs.ImageFault.{entry_in, table_size}
use Rattle.cs_image.specs.Loading.{address_named, classes_at}
use Rattle.cs_image.proofs.Below.{classes_at-empty, classes_at-filled, table_size_is}
use Rattle.cs_image.proofs.memory.load_classes.Goals as goal
use Rattle.cs_image.proofs.memory.load_classes.Goals.{then-not-is_nil, else-not-is_nil}

pub loop-index-preserved : goal.loop-index-preserved
loop-index-preserved c = elim c.if-not-is_nil.branch [
  | then-not-is_nil w ↦
      w.classes-is ∙ w.set_entry.ensures
      ∙ ap (λ a. insert c.loop-index.classes c.loop-index.index a) (w.address.ensures ∙ ap (address_named c.args.file.now) c.entry-word.ensures)
      ∙ ap (λ (m : FinMap nat_cmp ℕ). insert m c.loop-index.index (address_named c.args.file.now (entry_in c.args.file.now c.loop-index.index))) c.loop-index.invariant
      ∙ sym (classes_at-filled c.args.file.now c.loop-index.index (ap (is_nil_word c.args.file.now) (sym c.entry-word.ensures) ∙ sym c.is_nil.ensures ∙ w.if-not-is_nil.true))
  | else-not-is_nil w ↦
      w.classes-is ∙ c.loop-index.invariant
      ∙ sym (classes_at-empty c.args.file.now c.loop-index.index (ap (is_nil_word c.args.file.now) (sym c.entry-word.ensures) ∙ sym c.is_nil.ensures ∙ w.if-not-is_nil.false))
]

pub returns : goal.returns
returns c =
    let all : c.loop-index.index ≡ table_size = omega (arith, table_size_is) in
    c.loop-index.invariant ∙ ap (classes_at c.args.file.now) all
