use Rattle.std.proofs.Common.{◌≡◌, ap, sym, ◌∙◌, ap₂, refl, ℕ, ◌<◌, ◌≤◌, true, false, inl, inr}
use Rattle.std.proofs.lemmas.Bool.{false≢true}
use Rattle.std.proofs.lemmas.Bool.Decides.{leb_tells}
use Rattle.std.specs.Prelude.{Err}
use Rattle.cs_heap.specs.Format.{format_allows}
use Rattle.cs_heap.specs.Object.{Memory, is_object}
use Rattle.cs_heap.proofs.Laws.{is_object-old}
use Rattle.cs_heap.specs.Writes.{hash_stored}
use Rattle.cs_classes.specs.Instances.{Make, index_in_table, plan_at}
use Rattle.cs_classes.specs.declared.NewError.TheVariants as refused
use Rattle.cs_classes.proofs.Plans.{allows_planned, handed, index_is, index-pushed, is_made, plan-index, plan-no_index, plan-shaped, plan-unshaped, refuses, refuses-full, shaped_object}
use Rattle.cs_classes.proofs.Classes.instantiate.Goals as goal

-- what doesn't lead to a refusal is within the limit
within : {x y : ℕ} → (x < y → false ≡ true) → y ≤ x
within {x} {y} h = elim (leb_tells y x) [ inl e ↦ e.1 | inr e ↦ absurd (false≢true (h e.1)) ]

pub returns-in_default-clause-value : goal.returns-in_default-clause-value
returns-in_default-clause-value c = (refuses c.args.heap.now c.args.self.now c.args.class.0 c.args.birth _ refused.NotInstantiable (plan-unshaped c.args.heap.now.objects c.args.self.now c.args.class.0 c.args.size (sym c.in_default.ensures.shape))).value

pub returns-in_default-clause-memory : goal.returns-in_default-clause-memory
returns-in_default-clause-memory c = (refuses c.args.heap.now c.args.self.now c.args.class.0 c.args.birth _ refused.NotInstantiable (plan-unshaped c.args.heap.now.objects c.args.self.now c.args.class.0 c.args.size (sym c.in_default.ensures.shape))).memory

pub returns-in_default-clause-table : goal.returns-in_default-clause-table
returns-in_default-clause-table c = (refuses c.args.heap.now c.args.self.now c.args.class.0 c.args.birth _ refused.NotInstantiable (plan-unshaped c.args.heap.now.objects c.args.self.now c.args.class.0 c.args.size (sym c.in_default.ensures.shape))).table

pub returns-then-not-allows-clause-value : goal.returns-then-not-allows-clause-value
returns-then-not-allows-clause-value c = (refuses c.args.heap.now c.args.self.now c.args.class.0 c.args.birth _ refused.NotInstantiable (plan-shaped c.args.heap.now.objects c.args.self.now c.args.class.0 c.args.size c.in-Some.shape.format c.in-Some.shape.fields false c.in-Some.ensures.shape c.in-Some.ensures.fields (sym c.if-not-allows.ensures))).value

pub returns-then-not-allows-clause-memory : goal.returns-then-not-allows-clause-memory
returns-then-not-allows-clause-memory c = (refuses c.args.heap.now c.args.self.now c.args.class.0 c.args.birth _ refused.NotInstantiable (plan-shaped c.args.heap.now.objects c.args.self.now c.args.class.0 c.args.size c.in-Some.shape.format c.in-Some.shape.fields false c.in-Some.ensures.shape c.in-Some.ensures.fields (sym c.if-not-allows.ensures))).memory

pub returns-then-not-allows-clause-table : goal.returns-then-not-allows-clause-table
returns-then-not-allows-clause-table c = (refuses c.args.heap.now c.args.self.now c.args.class.0 c.args.birth _ refused.NotInstantiable (plan-shaped c.args.heap.now.objects c.args.self.now c.args.class.0 c.args.size c.in-Some.shape.format c.in-Some.shape.fields false c.in-Some.ensures.shape c.in-Some.ensures.fields (sym c.if-not-allows.ensures))).table

pub returns-in_err-index-clause-value : goal.returns-in_err-index-clause-value
returns-in_err-index-clause-value c = handed c.from_residual.result c.in_err-index.field-0.0 c.from_residual.ensures.0 c.from_residual.ensures.1 ∙ (refuses c.args.heap.now c.args.self.now c.args.class.0 c.args.birth _ c.in_err-index.field-0.0 (plan-shaped c.args.heap.now.objects c.args.self.now c.args.class.0 c.args.size c.in-Some.shape.format c.in-Some.shape.fields true c.in-Some.ensures.shape c.in-Some.ensures.fields (sym c.if-not-allows.ensures) ∙ plan-no_index c.in-Some.shape.format c.in-Some.shape.fields c.args.size _ c.in_err-index.field-0.0 c.in_err-index.ensures.value)).value

pub returns-in_err-index-clause-memory : goal.returns-in_err-index-clause-memory
returns-in_err-index-clause-memory c = (refuses c.args.heap.now c.args.self.now c.args.class.0 c.args.birth _ c.in_err-index.field-0.0 (plan-shaped c.args.heap.now.objects c.args.self.now c.args.class.0 c.args.size c.in-Some.shape.format c.in-Some.shape.fields true c.in-Some.ensures.shape c.in-Some.ensures.fields (sym c.if-not-allows.ensures) ∙ plan-no_index c.in-Some.shape.format c.in-Some.shape.fields c.args.size _ c.in_err-index.field-0.0 c.in_err-index.ensures.value)).memory

pub returns-in_err-index-clause-table : goal.returns-in_err-index-clause-table
returns-in_err-index-clause-table c = (refuses c.args.heap.now c.args.self.now c.args.class.0 c.args.birth _ c.in_err-index.field-0.0 (plan-shaped c.args.heap.now.objects c.args.self.now c.args.class.0 c.args.size c.in-Some.shape.format c.in-Some.shape.fields true c.in-Some.ensures.shape c.in-Some.ensures.fields (sym c.if-not-allows.ensures) ∙ plan-no_index c.in-Some.shape.format c.in-Some.shape.fields c.args.size _ c.in_err-index.field-0.0 c.in_err-index.ensures.value)).table

pub returns-then-not-is_instance_index-clause-value : goal.returns-then-not-is_instance_index-clause-value
returns-then-not-is_instance_index-clause-value c = (refuses c.args.heap.now c.args.self.now c.args.class.0 c.args.birth _ refused.NotInstantiable (plan-shaped c.args.heap.now.objects c.args.self.now c.args.class.0 c.args.size c.in-Some.shape.format c.in-Some.shape.fields true c.in-Some.ensures.shape c.in-Some.ensures.fields (sym c.if-not-allows.ensures) ∙ ap (plan_at c.in-Some.shape.format c.in-Some.shape.fields c.args.size) (index_is _ c.in_ok-index.index c.in_ok-index.ensures.value) ∙ plan-index c.in-Some.shape.format c.in-Some.shape.fields c.args.size c.in_ok-index.index false (sym c.if-not-is_instance_index.ensures))).value

pub returns-then-not-is_instance_index-clause-memory : goal.returns-then-not-is_instance_index-clause-memory
returns-then-not-is_instance_index-clause-memory c = (refuses c.args.heap.now c.args.self.now c.args.class.0 c.args.birth _ refused.NotInstantiable (plan-shaped c.args.heap.now.objects c.args.self.now c.args.class.0 c.args.size c.in-Some.shape.format c.in-Some.shape.fields true c.in-Some.ensures.shape c.in-Some.ensures.fields (sym c.if-not-allows.ensures) ∙ ap (plan_at c.in-Some.shape.format c.in-Some.shape.fields c.args.size) (index_is _ c.in_ok-index.index c.in_ok-index.ensures.value) ∙ plan-index c.in-Some.shape.format c.in-Some.shape.fields c.args.size c.in_ok-index.index false (sym c.if-not-is_instance_index.ensures))).memory

pub returns-then-not-is_instance_index-clause-table : goal.returns-then-not-is_instance_index-clause-table
returns-then-not-is_instance_index-clause-table c = (refuses c.args.heap.now c.args.self.now c.args.class.0 c.args.birth _ refused.NotInstantiable (plan-shaped c.args.heap.now.objects c.args.self.now c.args.class.0 c.args.size c.in-Some.shape.format c.in-Some.shape.fields true c.in-Some.ensures.shape c.in-Some.ensures.fields (sym c.if-not-allows.ensures) ∙ ap (plan_at c.in-Some.shape.format c.in-Some.shape.fields c.args.size) (index_is _ c.in_ok-index.index c.in_ok-index.ensures.value) ∙ plan-index c.in-Some.shape.format c.in-Some.shape.fields c.args.size c.in_ok-index.index false (sym c.if-not-is_instance_index.ensures))).table

pub allocate-requires-clause-shape : goal.allocate-requires-clause-shape
allocate-requires-clause-shape c =
    ap₂ format_allows c.body.ensures.format c.body.ensures.slots ∙ allows_planned c.in_ok-index.index c.in-Some.shape.format c.in-Some.shape.fields c.args.size (sym c.if-not-allows.ensures)

pub returns-in_err-object-clause-value : goal.returns-in_err-object-clause-value
returns-in_err-object-clause-value c = handed c.from_residual-in_err-object.result c.in_err-object.field-0.0 c.from_residual-in_err-object.ensures.0 c.from_residual-in_err-object.ensures.1 ∙ ap Err c.in_err-object.ensures.heap_alone ∙ (refuses-full c.args.heap.now c.args.self.now c.args.class.0 c.args.birth _ c.in_ok-index.index c.body.result.format c.body.result.slots (plan-shaped c.args.heap.now.objects c.args.self.now c.args.class.0 c.args.size c.in-Some.shape.format c.in-Some.shape.fields true c.in-Some.ensures.shape c.in-Some.ensures.fields (sym c.if-not-allows.ensures) ∙ ap (plan_at c.in-Some.shape.format c.in-Some.shape.fields c.args.size) (index_is _ c.in_ok-index.index c.in_ok-index.ensures.value) ∙ plan-index c.in-Some.shape.format c.in-Some.shape.fields c.args.size c.in_ok-index.index true (sym c.if-not-is_instance_index.ensures) ∙ ap₂ (λ (f s : ℕ). Make c.in_ok-index.index f s) (sym c.body.ensures.format) (sym c.body.ensures.slots)) (c.in_err-object.ensures.full.0 refl)).value

pub returns-in_err-object-clause-memory : goal.returns-in_err-object-clause-memory
returns-in_err-object-clause-memory c = c.in_err-object.ensures.unchanged_if_full ∙ (refuses-full c.args.heap.now c.args.self.now c.args.class.0 c.args.birth _ c.in_ok-index.index c.body.result.format c.body.result.slots (plan-shaped c.args.heap.now.objects c.args.self.now c.args.class.0 c.args.size c.in-Some.shape.format c.in-Some.shape.fields true c.in-Some.ensures.shape c.in-Some.ensures.fields (sym c.if-not-allows.ensures) ∙ ap (plan_at c.in-Some.shape.format c.in-Some.shape.fields c.args.size) (index_is _ c.in_ok-index.index c.in_ok-index.ensures.value) ∙ plan-index c.in-Some.shape.format c.in-Some.shape.fields c.args.size c.in_ok-index.index true (sym c.if-not-is_instance_index.ensures) ∙ ap₂ (λ (f s : ℕ). Make c.in_ok-index.index f s) (sym c.body.ensures.format) (sym c.body.ensures.slots)) (c.in_err-object.ensures.full.0 refl)).memory

pub returns-in_err-object-clause-table : goal.returns-in_err-object-clause-table
returns-in_err-object-clause-table c = (refuses-full c.args.heap.now c.args.self.now c.args.class.0 c.args.birth _ c.in_ok-index.index c.body.result.format c.body.result.slots (plan-shaped c.args.heap.now.objects c.args.self.now c.args.class.0 c.args.size c.in-Some.shape.format c.in-Some.shape.fields true c.in-Some.ensures.shape c.in-Some.ensures.fields (sym c.if-not-allows.ensures) ∙ ap (plan_at c.in-Some.shape.format c.in-Some.shape.fields c.args.size) (index_is _ c.in_ok-index.index c.in_ok-index.ensures.value) ∙ plan-index c.in-Some.shape.format c.in-Some.shape.fields c.args.size c.in_ok-index.index true (sym c.if-not-is_instance_index.ensures) ∙ ap₂ (λ (f s : ℕ). Make c.in_ok-index.index f s) (sym c.body.ensures.format) (sym c.body.ensures.slots)) (c.in_err-object.ensures.full.0 refl)).table

pub take-requires-clause-object : goal.take-requires-clause-object
take-requires-clause-object c =
    ap (λ (m : Memory). is_object m.objects c.args.class.0) c.in_ok-object.ensures.added
    ∙ is_object-old c.args.heap.now.objects _ c.args.class.0 (shaped_object c.args.heap.now.objects c.args.class.0 _ c.in-Some.ensures.shape)

pub take-requires-clause-index : goal.take-requires-clause-index
take-requires-clause-index c =
    ap (λ (m : Memory). index_in_table m.objects c.args.self.now c.args.class.0) c.in_ok-object.ensures.added
    ∙ index-pushed c.args.heap.now.objects _ c.args.self.now c.args.class.0 (shaped_object c.args.heap.now.objects c.args.class.0 _ c.in-Some.ensures.shape) ∙ index_is _ c.in_ok-index.index c.in_ok-index.ensures.value

pub returns-clause-value : goal.returns-clause-value
returns-clause-value c = (is_made c.args.heap.now c.args.self.now c.args.class.0 c.args.birth _ c.in_ok-index.index c.body.result.format c.body.result.slots c.in_ok-object.object (plan-shaped c.args.heap.now.objects c.args.self.now c.args.class.0 c.args.size c.in-Some.shape.format c.in-Some.shape.fields true c.in-Some.ensures.shape c.in-Some.ensures.fields (sym c.if-not-allows.ensures) ∙ ap (plan_at c.in-Some.shape.format c.in-Some.shape.fields c.args.size) (index_is _ c.in_ok-index.index c.in_ok-index.ensures.value) ∙ plan-index c.in-Some.shape.format c.in-Some.shape.fields c.args.size c.in_ok-index.index true (sym c.if-not-is_instance_index.ensures) ∙ ap₂ (λ (f s : ℕ). Make c.in_ok-index.index f s) (sym c.body.ensures.format) (sym c.body.ensures.slots)) (within (c.in_ok-object.ensures.full.1)) (shaped_object c.args.heap.now.objects c.args.class.0 _ c.in-Some.ensures.shape) c.in_ok-object.ensures.address).value

pub returns-clause-memory : goal.returns-clause-memory
returns-clause-memory c = c.take.ensures.memory ∙ ap (λ (m : Memory). hash_stored m c.args.class.0 c.in_ok-index.index) c.in_ok-object.ensures.added ∙ (is_made c.args.heap.now c.args.self.now c.args.class.0 c.args.birth _ c.in_ok-index.index c.body.result.format c.body.result.slots c.in_ok-object.object (plan-shaped c.args.heap.now.objects c.args.self.now c.args.class.0 c.args.size c.in-Some.shape.format c.in-Some.shape.fields true c.in-Some.ensures.shape c.in-Some.ensures.fields (sym c.if-not-allows.ensures) ∙ ap (plan_at c.in-Some.shape.format c.in-Some.shape.fields c.args.size) (index_is _ c.in_ok-index.index c.in_ok-index.ensures.value) ∙ plan-index c.in-Some.shape.format c.in-Some.shape.fields c.args.size c.in_ok-index.index true (sym c.if-not-is_instance_index.ensures) ∙ ap₂ (λ (f s : ℕ). Make c.in_ok-index.index f s) (sym c.body.ensures.format) (sym c.body.ensures.slots)) (within (c.in_ok-object.ensures.full.1)) (shaped_object c.args.heap.now.objects c.args.class.0 _ c.in-Some.ensures.shape) c.in_ok-object.ensures.address).memory

pub returns-clause-table : goal.returns-clause-table
returns-clause-table c = c.take.ensures.table ∙ (is_made c.args.heap.now c.args.self.now c.args.class.0 c.args.birth _ c.in_ok-index.index c.body.result.format c.body.result.slots c.in_ok-object.object (plan-shaped c.args.heap.now.objects c.args.self.now c.args.class.0 c.args.size c.in-Some.shape.format c.in-Some.shape.fields true c.in-Some.ensures.shape c.in-Some.ensures.fields (sym c.if-not-allows.ensures) ∙ ap (plan_at c.in-Some.shape.format c.in-Some.shape.fields c.args.size) (index_is _ c.in_ok-index.index c.in_ok-index.ensures.value) ∙ plan-index c.in-Some.shape.format c.in-Some.shape.fields c.args.size c.in_ok-index.index true (sym c.if-not-is_instance_index.ensures) ∙ ap₂ (λ (f s : ℕ). Make c.in_ok-index.index f s) (sym c.body.ensures.format) (sym c.body.ensures.slots)) (within (c.in_ok-object.ensures.full.1)) (shaped_object c.args.heap.now.objects c.args.class.0 _ c.in-Some.ensures.shape) c.in_ok-object.ensures.address).table
