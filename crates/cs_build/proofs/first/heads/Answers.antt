use Rattle.std.proofs.Common.{[], ◌∷◌, map, ap, ◌∙◌}
use Rattle.cs_model.specs.Ref.{Ref}
use Rattle.cs_model.specs.Ref as ref
use Rattle.cs_model.specs.Obj.{Ptr, new_head}
use Rattle.cs_build.specs.Firsts.{heads_made}
use Rattle.cs_build.specs.Laid.{laid, laid_by}
use Rattle.cs_build.proofs.first.heads.Goals as goal

pub returns : goal.returns
unfolding heads_made
returns c = ap (map laid_by) c.in_ok-objects.ensures.items
    ∙ (λ i. c.in_ok-nil.ensures i ∷ c.in_ok-no.ensures i ∷ c.in_ok-yes.ensures i ∷ c.in_ok-specials.ensures i ∷ c.in_ok-selectors.ensures i ∷ c.in_ok-association.ensures i
    ∷ (c.in_ok-scheduler.ensures ∙ ap (λ (r : Ref). laid (Ptr (new_head 48 1) (ref.Obj 7 ∷ r ∷ []))) c.active.ensures) i ∷ c.in_ok-lists.ensures i ∷ [])
