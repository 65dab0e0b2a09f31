-- What the answers of primitives lead to.
use Rattle.std.proofs.Common.{◌≡◌, ℕ, ◌+◌, ◌==◌, refl, Option, Some, None, option_and_then}
use Rattle.cs_model.specs.Ref.{Ref}
use Rattle.cs_model.specs.State.{Kept, is_read_only}
use Rattle.cs_model.specs.PrimAnswer.{answer, answer_if, with_count}
use Rattle.cs_model.specs.PrimNumber.{number_prim}
use Rattle.cs_model.specs.PrimObject.{answer_in, unless_read_only}
use Rattle.cs_model.specs.End.{Out}
use Rattle.cs_model.proofs.LeadCombining.{Ready, Goes, goes_trans, ready_behind, runs_settled, Leading, fail_leading, behind, given_leading, if_leading}
use Rattle.cs_model.proofs.LeadOperation.{push_goes, drop_goes}

-- the state behind an answer, in which a primitive may go on
pub answer_goes : {k : Kept} (args : ℕ) (x : Ref) → Ready k → Goes k (answer k args x).state
unfolding answer
answer_goes args x r = let d = drop_goes (args + 1) r in goes_trans d (push_goes x (ready_behind d))

pub answer_leading : {P : Kept → Type 0} {k : Kept} (args : ℕ) (x : Ref) → Ready k → Leading P k (answer k args x)
unfolding answer
answer_leading args x r = let g = answer_goes args x r in record { leads = g.leads; fits = runs_settled g.runs }

-- an answer behind something else
pub answer_behind : {P : Kept → Type 0} {k t : Kept} (args : ℕ) (x : Ref) → Goes k t → Leading P k (answer t args x)
answer_behind args x g = behind g.leads (answer_leading args x (ready_behind g))

pub with_count_leading : {P : Kept → Type 0} {k : Kept} {o : Out} (wanted args : ℕ) → Ready k → Leading P k o → Leading P k (with_count k wanted args o)
with_count_leading wanted args r h = if_leading (wanted == args) (λ e. h) (λ e. fail_leading r)

pub unless_read_only_leading : {P : Kept → Type 0} {k : Kept} {o : Out} (x : Ref) → Ready k → Leading P k o → Leading P k (unless_read_only k x o)
unless_read_only_leading {k = k} x r h = if_leading (is_read_only k x) (λ e. fail_leading r) (λ e. h)

pub answer_if_leading : {P : Kept → Type 0} {k : Kept} (args : ℕ) (value : Option Ref) → Ready k → Leading P k (answer_if k args value)
answer_if_leading {k = k} args value r = given_leading value (λ x. answer k args x) (fail_leading r) (λ x e. answer_leading args x r)

pub answer_in_leading : {P : Kept → Type 0} {k : Kept} (o : Option Kept) (args : ℕ) (x : Ref) → Ready k → ((t : Kept) → o ≡ Some t → Goes k t) → Leading P k (answer_in o k args x)
answer_in_leading None args x r h = fail_leading r
answer_in_leading (Some t) args x r h = answer_behind args x (h t refl)

-- ---- what an optional state is

pub and_then_some : {A B : Type 0} (f : A → Option B) (o : Option A) (y : B) → option_and_then f o ≡ Some y → (x : A) × (o ≡ Some x) × (f x ≡ Some y)
and_then_some f None y e = absurd (cc)
and_then_some f (Some x) y e = (x, refl, e)

-- ---- numbers

pub number_leading : {P : Kept → Type 0} {k : Kept} (number args : ℕ) → Ready k → Leading P k (number_prim k number args)
unfolding number_prim
number_leading number args r = with_count_leading 1 args r (answer_if_leading 1 _ r)
