use Rattle.std.proofs.Common.{◌≡◌, ℕ, ◌+◌, Bool, cond, List, [], ◌∷◌, ◌++◌, length, map, get_or, reverse, ap, sym, subst, refl, ◌∙◌, arith, inl, inr}
use Rattle.std.specs.Prelude.{filter}
use Rattle.std.proofs.lemmas.Bool.{cases_lt}
use Rattle.std.proofs.lemmas.List.{get_or_append_left, get_or_push, length_push}
use Rattle.cs_model.specs.BuilderText as text
use Rattle.cs_model.specs.Builder.{has_priority, last_ready, ready_in}
use Rattle.cs_build.specs.declared.ready.Queue.{Queue}
use Rattle.cs_build.specs.Meaning.{form_by}
use Rattle.cs_build.specs.Queued.{IsQueue, has_in}
use Rattle.cs_build.specs.Readied.{AreQueues}
use Rattle.cs_build.proofs.ready.ready_of.Goals as goal

filter_same : (p q : List ℕ → Bool) (xs : List (List ℕ)) → ((x : List ℕ) → p x ≡ q x) → filter p xs ≡ filter q xs
filter_same p q [] h = refl
filter_same p q (x ∷ xs) h = ap (λ (ys : List (List ℕ)). cond (p x) (x ∷ ys) ys) (filter_same p q xs h) ∙ ap (λ (b : Bool). cond b (x ∷ filter q xs) (filter q xs)) (h x)

queues_more : (forms : List text.Form) (old new : List Queue) (q : Queue) → new ≡ old ++ q ∷ [] → AreQueues forms old
    → IsQueue q (last_ready forms (length old + 1)) → AreQueues forms new
queues_more forms old new q e was one = λ k d h.
    elim (cases_lt k (length old)) [
      | inl l ↦ subst (λ (x : Queue). IsQueue x (last_ready forms (k + 1))) (sym (ap (λ (xs : List Queue). get_or xs k d) e ∙ get_or_append_left old (q ∷ []) d k l)) (was k d l)
      | inr g ↦ let same : length old ≡ k = omega (arith, g, h, ap length e, length_push old q) in
          subst (λ (x : Queue). IsQueue x (last_ready forms (k + 1))) (sym (ap (λ (xs : List Queue). get_or xs k d) e ∙ get_or_push old q d k same))
          (subst (λ (n : ℕ). IsQueue q (last_ready forms (n + 1))) same one)
    ]

pub loop-priority-init : goal.loop-priority-init
loop-priority-init c = record {
  count = omega (arith, ap length c.new-queues.ensures.items);
  queues = λ k d h. absurd (omega (arith, h, ap length c.new-queues.ensures.items));
}

pub loop-priority-preserved : goal.loop-priority-preserved
loop-priority-preserved c =
    let forms : List text.Form = map form_by c.args.forms.now in
    let old : List Queue = c.loop-priority.queues.items in
    let named : reverse (filter (has_in c.in_ok-priorities.priorities c.loop-priority.priority) (ready_in forms)) ≡ last_ready forms c.loop-priority.priority =
    ap reverse (filter_same (has_in c.in_ok-priorities.priorities c.loop-priority.priority) (has_priority forms c.loop-priority.priority) (ready_in forms)
    (λ n. c.in_ok-priorities.ensures c.loop-priority.priority n)) in
    let count : c.loop-priority.priority ≡ length c.loop-priority.queues.items + 1 = omega (arith, c.loop-priority.invariant.count) in
    record {
      count = omega (arith, ap length c.in_ok-push.ensures.items, length_push c.loop-priority.queues.items c.in_ok-queue.queue, c.loop-priority.invariant.count);
      queues = queues_more forms old c.push.new.self.items c.in_ok-queue.queue c.in_ok-push.ensures.items c.loop-priority.invariant.queues
          (subst (λ (n : ℕ). IsQueue c.in_ok-queue.queue (last_ready forms n)) count
          (subst (λ (names : List (List ℕ)). IsQueue c.in_ok-queue.queue names) named c.in_ok-queue.ensures));
    }

pub returns : goal.returns
returns c = record {
  eight = omega arith;
  queues = c.loop-priority.invariant.queues;
  names = c.in_ok-names.ensures;
}
