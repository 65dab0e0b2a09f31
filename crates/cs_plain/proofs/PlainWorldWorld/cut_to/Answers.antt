use Rattle.std.proofs.Common.{◌∙◌}
use Rattle.cs_plain.specs.View.{plain_act}
use Rattle.cs_plain.proofs.Cutting.{can_land, cut, cut_exact, cut_state, of_some, told}
use Rattle.cs_plain.proofs.Leaving.{names_both}
use Rattle.cs_plain.proofs.Writing.{same_kept}
use Rattle.cs_plain.proofs.PlainWorldWorld.cut_to.Goals as goal

pub land-requires-clause-sound : goal.land-requires-clause-sound
land-requires-clause-sound c = (cut c.args.self.now c.bury_to-context.new.self c.act_birth-birth.result c.bury_to-context.result (of_some _ _ _ c.act_birth-birth.ensures c.requires.target) c.bury_to-context.ensures).at.sound

pub land-requires-clause-target : goal.land-requires-clause-target
land-requires-clause-target c = can_land c.args.self.now c.bury_to-context.new.self c.act_birth-birth.result c.bury_to-context.result (cut c.args.self.now c.bury_to-context.new.self c.act_birth-birth.result c.bury_to-context.result (of_some _ _ _ c.act_birth-birth.ensures c.requires.target) c.bury_to-context.ensures)

pub returns-clause-state : goal.returns-clause-state
returns-clause-state c =
    let t = cut c.args.self.now c.bury_to-context.new.self c.act_birth-birth.result c.bury_to-context.result (of_some _ _ _ c.act_birth-birth.ensures c.requires.target) c.bury_to-context.ensures in
    let exact = cut_exact c.args.self.now c.bury_to-context.new.self c.land.new.self c.act_birth-birth.result c.bury_to-context.result c.args.v t c.requires.named c.land.ensures.view in
    told (plain_act c.args.self.now c.args.home) c.act_birth-birth.result _ c.act_birth-birth.ensures (told _ t.target _ t.is (λ m k.
    cut_state c.args.self.now c.land.new.self c.args.v c.act_birth-birth.result t.target c.requires.ready c.requires.named t.can exact m k))

pub returns-clause-exact : goal.returns-clause-exact
returns-clause-exact c none =
    let t = cut c.args.self.now c.bury_to-context.new.self c.act_birth-birth.result c.bury_to-context.result (of_some _ _ _ c.act_birth-birth.ensures c.requires.target) c.bury_to-context.ensures in
    let exact = cut_exact c.args.self.now c.bury_to-context.new.self c.land.new.self c.act_birth-birth.result c.bury_to-context.result c.args.v t c.requires.named c.land.ensures.view in
    told (plain_act c.args.self.now c.args.home) c.act_birth-birth.result _ c.act_birth-birth.ensures (told _ t.target _ t.is (same_kept _ _ exact))

pub returns-clause-limit : goal.returns-clause-limit
returns-clause-limit c = c.land.ensures.limit ∙ (cut c.args.self.now c.bury_to-context.new.self c.act_birth-birth.result c.bury_to-context.result (of_some _ _ _ c.act_birth-birth.ensures c.requires.target) c.bury_to-context.ensures).at.limit

pub returns-clause-names : goal.returns-clause-names
returns-clause-names c = names_both c.args.self.now c.bury_to-context.new.self c.land.new.self (cut c.args.self.now c.bury_to-context.new.self c.act_birth-birth.result c.bury_to-context.result (of_some _ _ _ c.act_birth-birth.ensures c.requires.target) c.bury_to-context.ensures).at.names c.land.ensures.names
