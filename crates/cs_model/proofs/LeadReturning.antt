-- What becomes of a state by a return: the target is live, and doesn't die.
use Rattle.std.proofs.Common.{◌≡◌, ℕ, ◌&&◌, not, Bool, true, false, refl, Option, Some, None, List, [], ◌∷◌, ◌++◌}
use Rattle.cs_model.specs.declared.stop.Stop.TheVariants as why
use Rattle.cs_model.specs.Ref.{Ref}
use Rattle.cs_model.specs.Ref as ref
use Rattle.cs_model.specs.Obj.{context_in}
use Rattle.cs_model.specs.State.{Kept, object_at}
use Rattle.cs_model.specs.Read.{active_birth}
use Rattle.cs_model.specs.Return.{Search, Met, Ended, TooLong, sender_birth, senders_to, Home, HomeAt, NoHome, HomeTooFar, home, first_marked, unwind_mark, cannot_return, about_to_return, is_live, call_with, cannot_return_out, unwind_out, is_among, has_room, arrive, local_out, past_marks, from_home, to_home, nonlocal_out, back}
use Rattle.cs_model.specs.End.{out, looked}
use Rattle.cs_model.specs.End as ends
use Rattle.cs_model.proofs.Leading.{leads_itself}
use Rattle.cs_model.proofs.LeadCombining.{Runs, Ready, Leading, out_leading, done_goes, stop_leading, looked_leading, given_leading, if_leading, and_then_goes}
use Rattle.cs_model.proofs.LeadEntering.{and_left, and_right, cut_to_goes}
use Rattle.cs_model.proofs.LeadExecuting.{push_all_leading}

pub call_with_leading : {P : Kept → Type 0} {k : Kept} (special args : ℕ) (values : List Ref) → Ready k → Leading P k (call_with k special args values)
call_with_leading {P} {k} special args values r =
    and_then_goes (λ t. looked (out (ends.Call special args) t)) (push_all_leading (ref.Obj (active_birth k) ∷ values) r)
    (λ t s l. looked_leading (out_leading (ends.Call special args) (leads_itself s.sound) s.runs))

pub cannot_return_leading : {P : Kept → Type 0} {k : Kept} (value : Ref) → Ready k → Leading P k (cannot_return_out k value)
cannot_return_leading value r = call_with_leading cannot_return 1 (value ∷ []) r

pub unwind_leading : {P : Kept → Type 0} {k : Kept} (value : Ref) (mark : ℕ) → Ready k → Leading P k (unwind_out k value mark)
unwind_leading value mark r = call_with_leading about_to_return 2 (value ∷ ref.Obj mark ∷ []) r

not_true : (b : Bool) → not b ≡ true → b ≡ false
not_true true h = absurd (cc)
not_true false h = refl

arrive_leading : {k : Kept} (value : Ref) (dying : List ℕ) (target : Option ℕ) → Ready k → Leading Runs k (arrive k value dying target)
arrive_leading value dying None r = cannot_return_leading value r
arrive_leading {k} value dying (Some target) r =
    if_leading (is_live k target && not (is_among target dying))
    (λ e. if_leading (has_room (context_in (object_at k target)))
    (λ f. done_goes (cut_to_goes dying target value r.sound (and_left _ _ e) (not_true (is_among target dying) (and_right _ _ e))))
    (λ f. stop_leading r.sound why.StackOver))
    (λ e. cannot_return_leading value r)

pub local_leading : {k : Kept} (value : Ref) → Ready k → Leading Runs k (local_out k value)
unfolding local_out
local_leading {k} value r = arrive_leading value (active_birth k ∷ []) (sender_birth k (active_birth k)) r

past_marks_leading : {k : Kept} (value : Ref) (home : ℕ) (passed : List ℕ) → Ready k → Leading Runs k (past_marks k value home passed)
past_marks_leading {k} value home passed r =
    given_leading (first_marked k unwind_mark passed) (λ mark. unwind_out k value mark) (arrive_leading value (active_birth k ∷ passed ++ home ∷ []) (sender_birth k home) r) (λ mark e. unwind_leading value mark r)

from_home_leading : {k : Kept} (value : Ref) (home : ℕ) (s : Search) → Ready k → Leading Runs k (from_home k value home s)
from_home_leading value home (Met passed) r = past_marks_leading value home passed r
from_home_leading value home (Ended passed) r = cannot_return_leading value r
from_home_leading value home TooLong r = stop_leading r.sound why.ChainTooLong

to_home_leading : {k : Kept} (value : Ref) (h : Home) → Ready k → Leading Runs k (to_home k value h)
to_home_leading {k} value (HomeAt i) r = from_home_leading value i (senders_to k (active_birth k) i) r
to_home_leading value NoHome r = cannot_return_leading value r
to_home_leading value HomeTooFar r = stop_leading r.sound why.ChainTooLong

pub nonlocal_leading : {k : Kept} (value : Ref) → Ready k → Leading Runs k (nonlocal_out k value)
unfolding nonlocal_out
nonlocal_leading {k} value r = to_home_leading value (home k (active_birth k)) r

pub back_leading : {k : Kept} (value : Ref) (local : Bool) → Ready k → Leading Runs k (back k value local)
unfolding back
back_leading {k} value local r = if_leading local (λ e. local_leading value r) (λ e. nonlocal_leading value r)
