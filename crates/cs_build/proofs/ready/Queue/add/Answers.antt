use Rattle.std.proofs.Common.{ℕ, List, Option, refl, ap₂, sym, ◌∙◌}
use Rattle.cs_build.specs.Queued.{linked_behind}
use Rattle.cs_build.proofs.Queueing.{first_new, behind_more}
use Rattle.cs_build.proofs.ready.Queue.add.Goals as goal

pub returns : goal.returns
returns c = λ names queue. record {
  first = first_new c.args.self.now.first c.unwrap_or.result c.args.name names c.unwrap_or.ensures queue.first;
  last = refl;
  links = λ q. c.in_ok-link.ensures q
      ∙ ap₂ (λ (l : Option (List ℕ)) (o : Option (List ℕ)). linked_behind l c.args.name.now q o) queue.last (queue.links q)
      ∙ sym (behind_more q c.args.name.now names);
}
