use Rattle.std.proofs.Common.{◌≡◌, ◌∷◌, List, ℕ, Contains, ◌↔◌, ◌∙◌, sym, ap, subst}
use Rattle.cs_pages.specs.Order.{Order, without}
use Rattle.cs_pages.proofs.Lists.{front-same}
use Rattle.cs_pages.proofs.Pages.touch.Goals as goal

pub returns-clause-same_pages : goal.returns-clause-same_pages
returns-clause-same_pages c = λ q.
    let page = c.args.page in let old = c.args.self.now.recent in
    let now : c.put_first.new.self.recent ≡ page ∷ without page old =
    ap (λ (o : Order). o.recent) c.put_first.ensures.first ∙ ap (λ (o : Order). page ∷ o.recent) c.free.ensures.freed in
    subst (λ (xs : List ℕ). Contains xs q ↔ Contains old q) (sym now) (front-same page old q c.requires.used)
