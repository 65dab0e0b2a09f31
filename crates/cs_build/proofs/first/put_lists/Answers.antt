use Rattle.std.proofs.Common.{◌≡◌, ℕ, ◌+◌, ◌∷◌, ◌++◌, ◌<◌, List, [], length, map, ap, sym, subst, ◌∙◌, arith, append-nil, append_assoc}
use Rattle.std.specs.List.{range_with_len}
use Rattle.std.proofs.lemmas.List.{map-append}
use Rattle.cs_model.specs.Obj.{Obj}
use Rattle.cs_model.specs.BuilderText as text
use Rattle.cs_model.specs.Builder.{last_ready, list_object}
use Rattle.cs_build.specs.declared.ready.Queue.{Queue}
use Rattle.cs_build.specs.Firsts.{all_lists}
use Rattle.cs_build.specs.Laid.{Laid, laid, laid_by}
use Rattle.cs_build.specs.Queued.{IsQueue}
use Rattle.cs_build.specs.Standing.{forms_in}
use Rattle.cs_build.proofs.Walking.{pushed_one}
use Rattle.cs_build.proofs.Firsting.{range_more}
use Rattle.cs_build.proofs.first.put_lists.Goals as goal

pub loop-k-init : goal.loop-k-init
loop-k-init c = sym (append-nil (map laid_by c.args.objects.now.items))

pub loop-k-preserved : goal.loop-k-preserved
loop-k-preserved c =
    let forms : List text.Form = forms_in c.args.numbering.now in
    let k : ℕ = c.loop-k.k in
    let inside : c.loop-k.k < length c.args.ready.now.queues.items = omega (arith, c.loop-k-test.true, c.len-k-end.ensures, c.args.ready.now.queues.ok.0) in
    let queue : IsQueue c.index.result.now (last_ready forms (k + 1)) =
    subst (λ (q : Queue). IsQueue q (last_ready forms (k + 1))) (sym c.index.ensures) (c.requires.ready.queues k c.index.result.now inside) in
    let old : List Laid = map laid_by c.args.objects.now.items in
    let before : List Obj = map (list_object forms) (range_with_len 1 k) in
    pushed_one laid_by c.loop-k.objects.items c.push.new.self.items c.in_ok-object.object (laid (list_object forms (k + 1))) c.in_ok-push.ensures.items (c.in_ok-object.ensures (k + 1) queue)
    ∙ ap (λ (l : List Laid). l ++ laid (list_object forms (k + 1)) ∷ []) c.loop-k.invariant
    ∙ append_assoc old (map laid before) (laid (list_object forms (k + 1)) ∷ [])
    ∙ ap (λ (l : List Laid). old ++ l) (sym (ap (λ (ns : List ℕ). map laid (map (list_object forms) ns)) (range_more k)
    ∙ ap (map laid) (map-append (list_object forms) (range_with_len 1 k) ((k + 1) ∷ []))
    ∙ map-append laid before (list_object forms (k + 1) ∷ [])))

pub returns : goal.returns
unfolding all_lists
returns c =
    let end : c.loop-k.k ≡ 8 = omega (arith, c.loop-k-test.false, c.len-k-end.ensures, c.args.ready.now.queues.ok.0, c.requires.ready.eight, c.loop-k.auto) in
    c.loop-k.invariant ∙ ap (λ (n : ℕ). map laid_by c.args.objects.now.items ++ map laid (map (list_object (forms_in c.args.numbering.now)) (range_with_len 1 n))) end
