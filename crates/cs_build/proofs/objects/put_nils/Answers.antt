use Rattle.std.proofs.Common.{◌∷◌, ◌++◌, List, [], map, replicate, ap, sym, ◌∙◌, append-nil, append_assoc}
use Rattle.std.proofs.lemmas.List.{map_push, replicate_more}
use Rattle.cs_model.specs.Ref.{Ref}
use Rattle.cs_model.specs.Builder.{nil_ref}
use Rattle.cs_build.specs.Laid.{reference_by}
use Rattle.cs_build.proofs.objects.put_nils.Goals as goal

pub loop-init : goal.loop-init
loop-init c = sym (append-nil (map reference_by c.args.slots.now.items))

pub loop-preserved : goal.loop-preserved
loop-preserved c = ap (map reference_by) c.in_ok-push.ensures.items ∙ map_push reference_by c.loop.slots.items _
    ∙ ap (λ (l : List Ref). l ++ nil_ref ∷ []) c.loop.invariant
    ∙ append_assoc (map reference_by c.args.slots.now.items) (replicate c.loop.counter nil_ref) (nil_ref ∷ [])
    ∙ ap (λ (l : List Ref). map reference_by c.args.slots.now.items ++ l) (replicate_more c.loop.counter nil_ref)
