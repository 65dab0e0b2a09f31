use Rattle.std.proofs.Common.{◌≡◌, ℕ, ◌+◌, ◌-◌, ◌<◌, ◌≤◌, List, Bor, length, ap, ◌∙◌, arith}
use Rattle.std.specs.Prelude.{option_map}
use Rattle.cs_model.specs.Ref.{Ref}
use Rattle.cs_model.specs.Obj.{Ptr, new_head}
use Rattle.cs_model.specs.BuilderText as text
use Rattle.cs_model.specs.Builder.{natural, obj_or_nil, process_ref, ready_behind, last_ready, list_if_ready}
use Rattle.cs_build.specs.declared.ready.Queue.{Queue}
use Rattle.cs_build.specs.Laid.{laid}
use Rattle.cs_build.specs.Queued.{link_at}
use Rattle.cs_build.specs.Standing.{forms_in}
use Rattle.cs_build.proofs.Sounding.{natural_between, natural_least}
use Rattle.cs_build.proofs.Contexts.{four}
use Rattle.cs_build.proofs.objects.process_object.Goals as goal

pub index-requires : goal.index-requires
index-requires c = omega (
  arith,
  c.priority_in-priority.ensures,
  natural_between 1 8 c.args.line.now.priority c.requires.priority,
  natural_least 1 8 c.args.line.now.priority c.requires.priority,
  c.requires.ready.eight,
  c.args.ready.now.queues.ok.0,
)

pub returns : goal.returns
returns c =
    let forms : List text.Form = forms_in c.args.numbering.now in
    let name : List ℕ = c.args.line.now.name.now in
    let p : ℕ = c.priority_in-priority.result in
    let low : 1 ≤ c.priority_in-priority.result = omega (arith, c.priority_in-priority.ensures, natural_least 1 8 c.args.line.now.priority c.requires.priority) in
    let high : c.priority_in-priority.result - 1 < length c.args.ready.now.queues.items =
    omega (arith, c.priority_in-priority.ensures, natural_between 1 8 c.args.line.now.priority c.requires.priority, c.requires.ready.eight) in
    let same : c.priority_in-priority.result - 1 + 1 ≡ natural c.args.line.now.priority = omega (arith, low, c.priority_in-priority.ensures) in
    let behind : option_map (λ (n : Bor (List ℕ)). n.now) c.behind-behind.result ≡ ready_behind name (last_ready forms (natural c.args.line.now.priority)) =
    c.behind-behind.ensures ∙ ap (λ (q : Queue). link_at q.links name) c.index.ensures
    ∙ (c.requires.ready.queues (p - 1) c.index.result.now high).links name
    ∙ ap (λ (k : ℕ). ready_behind name (last_ready forms k)) same in
    c.in_ok-object.ensures ∙ ap (λ (refs : List Ref). laid (Ptr (new_head 45 1) refs))
    (four (c.process_or_nil.ensures ∙ ap (process_ref forms) behind)
    (c.object_or_nil.ensures ∙ ap obj_or_nil c.context.ensures.value)
    c.priority_slot.ensures
    (c.list_if_ready.ensures forms c.requires.ready low ∙ ap (λ (k : ℕ). list_if_ready forms k name) c.priority_in-priority.ensures))
