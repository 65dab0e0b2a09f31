-- In which phase a machine runs.
use Rattle.std.proofs.Common.{◌≡◌, ℕ, List, Option, ap, refl, subst, sym}
use Rattle.cs_model.specs.State.{Kept}
use Rattle.cs_acts.specs.declared.run.Phase.{Phase}
use Rattle.cs_acts.specs.declared.run.Phase.TheVariants as phase
use Rattle.cs_acts.specs.declared.run.RunEnd.{RunEnd}
use Rattle.cs_acts.specs.Layout.{Layout}
use Rattle.cs_acts.specs.Names.{Store}
use Rattle.cs_core.specs.Running.{CanRun, InPhase, RunGives, StandsAt}
use Rattle.cs_core.specs.VmParts.{Seen, VmParts, seen_through}

-- where it may be asked to, and isn't at rest
pub is_ready : (p : Phase) (s : Store) (v : Kept) → CanRun p → InPhase p s v → (p ≡ phase.Idle → ⊥) → p ≡ phase.Ready
is_ready phase.Ready s v may holds other = refl
is_ready phase.Quit s v may holds other = absurd holds
is_ready phase.Idle s v may holds other = absurd (other refl)
is_ready phase.Snapped s v may holds other = absurd may
is_ready phase.Over s v may holds other = absurd may

-- ---- two names of one machine

module _ {W : Type 0} (m n : VmParts W) (is : m ≡ n) where
  pub phase_same : m.phase ≡ n.phase
  phase_same = ap (λ (x : VmParts W). x.phase) is

  pub limit_same : (stored : W → Store) → (stored m.world).memory.limit ≡ (stored n.world).memory.limit
  limit_same stored = ap (λ (x : VmParts W). (stored x.world).memory.limit) is

  pub seen_same : (stored : W → Store) (view : W → Kept) (layout : W → Option Layout) → seen_through stored view layout m ≡ seen_through stored view layout n
  seen_same stored view layout = ap (λ (x : VmParts W). seen_through stored view layout x) is

pub gives_same : (k : Kept) (j n : ℕ) (old new : Option (List ℕ)) (a first b last : Seen) (end : RunEnd) → first ≡ a → last ≡ b → StandsAt k j a → (StandsAt k j first → RunGives k j n old new first last end) → RunGives k j n old new a b end
gives_same k j n old new a first b last end before behind h gives =
    subst (λ (x : Seen). RunGives k j n old new x b end) before
    (subst (λ (y : Seen). RunGives k j n old new first y end) behind (gives (subst (λ (x : Seen). StandsAt k j x) (sym before) h)))
