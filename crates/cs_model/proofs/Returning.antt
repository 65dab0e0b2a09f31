-- Returns are alike.
use Rattle.std.proofs.Common.{ℕ, ◌&&◌, not, Bool, Option, List, [], ◌∷◌, ◌++◌}
use Rattle.std.specs.List.{AllByRecursion}
use Rattle.cs_model.specs.Ref.{Ref}
use Rattle.cs_model.specs.Ref as ref
use Rattle.cs_model.specs.State.{Kept, IsHeld}
use Rattle.cs_model.specs.Return.{Search, Met, Ended, TooLong, Home, HomeAt, NoHome, HomeTooFar, home, unwind_mark, cannot_return, about_to_return, call_with, cannot_return_out, unwind_out, is_among, has_room, arrive, local_out, past_marks, from_home, to_home, nonlocal_out, back}
use Rattle.cs_model.specs.End.{Out}
use Rattle.cs_model.specs.End as ends
use Rattle.cs_model.specs.Keeps.{Keeps}
use Rattle.cs_model.specs.Alike.{Alike}
use Rattle.cs_model.proofs.Same.{Same, same, SameOption, none, some, Any, is, value, of_option}
use Rattle.cs_model.proofs.Reading.{AllHeld, Has, listed, object_at_same, context_in_same, active_birth_same, active_ref_same}
use Rattle.cs_model.proofs.Operating.{cons_same, empty_same, cut_to_moved}
use Rattle.cs_model.proofs.Combining.{out_alike, done_alike, stop_alike, looked_alike, given_alike, if_alike, and_then_alike}
use Rattle.cs_model.proofs.Executing.{push_all_alike}
use Rattle.cs_model.proofs.Searching.{SearchHeld, HomeHeld, senders_to_same, home_same, sender_birth_same, first_marked_same, is_live_same}

pub call_with_alike : {v m : Kept} {xs ys : List Ref} → Keeps v m → (special args : ℕ) → Same (AllHeld v) xs ys → Alike v (call_with v special args xs) (call_with m special args ys)
call_with_alike k special args s = and_then_alike _ _ (push_all_alike k (cons_same (active_ref_same k) s)) (λ t u s. looked_alike (out_alike s.keeps (same (ends.Call special args) tt)))

pub cannot_return_alike : {v m : Kept} {x y : Ref} → Keeps v m → Same (IsHeld v) x y → Alike v (cannot_return_out v x) (cannot_return_out m y)
cannot_return_alike {v} k s = call_with_alike k cannot_return 1 (cons_same s (empty_same v))

pub unwind_alike : {v m : Kept} {x y : Ref} → Keeps v m → Same (IsHeld v) x y → (mark : ℕ) → Has v mark → Alike v (unwind_out v x mark) (unwind_out m y mark)
unwind_alike {v} k s mark h = call_with_alike k about_to_return 2 (cons_same s (listed v (ref.Obj mark ∷ []) (h, tt)))

arrive_alike : {v m : Kept} {x y : Ref} {dying dying' : List ℕ} {o p : Option ℕ} → Keeps v m → Same (IsHeld v) x y → Same Any dying dying' → SameOption (Has v) o p → Alike v (arrive v x dying o) (arrive m y dying' p)
arrive_alike k s (same dying a) none = cannot_return_alike k s
arrive_alike k s (same dying a) (some target h) =
    if_alike (value (λ b. b && not (is_among target dying)) (is_live_same k (same target h)))
    (if_alike (of_option has_room (context_in_same (object_at_same k (same target h)))) (done_alike (cut_to_moved k dying (same target h) s)) (stop_alike k _))
    (cannot_return_alike k s)

pub local_alike : {v m : Kept} {x y : Ref} → Keeps v m → Same (IsHeld v) x y → Alike v (local_out v x) (local_out m y)
unfolding local_out
local_alike k s = arrive_alike k s (value (λ i. i ∷ []) (active_birth_same k)) (sender_birth_same k (active_birth_same k))

past_marks_alike : {v m : Kept} {x y : Ref} → Keeps v m → Same (IsHeld v) x y → (home : ℕ) → Has v home → (passed : List ℕ) → AllByRecursion (Has v) passed → Alike v (past_marks v x home passed) (past_marks m y home passed)
past_marks_alike k s home h passed all =
    given_alike _ _ (first_marked_same k unwind_mark passed all)
    (arrive_alike k s (value (λ i. i ∷ passed ++ home ∷ []) (active_birth_same k)) (sender_birth_same k (same home h)))
    (λ mark g. unwind_alike k s mark g)

from_home_alike : {v m : Kept} {x y : Ref} {a b : Search} → Keeps v m → Same (IsHeld v) x y → (home : ℕ) → Has v home → Same (SearchHeld v) a b → Alike v (from_home v x home a) (from_home m y home b)
from_home_alike k s home h (same (Met passed) all) = past_marks_alike k s home h passed all
from_home_alike k s home h (same (Ended passed) all) = cannot_return_alike k s
from_home_alike k s home h (same TooLong all) = stop_alike k _

to_home_alike : {v m : Kept} {x y : Ref} {a b : Home} → Keeps v m → Same (IsHeld v) x y → Same (HomeHeld v) a b → Alike v (to_home v x a) (to_home m y b)
to_home_alike k s (same (HomeAt i) h) = from_home_alike k s i h (senders_to_same k (active_birth_same k) i)
to_home_alike k s (same NoHome h) = cannot_return_alike k s
to_home_alike k s (same HomeTooFar h) = stop_alike k _

pub nonlocal_alike : {v m : Kept} {x y : Ref} → Keeps v m → Same (IsHeld v) x y → Alike v (nonlocal_out v x) (nonlocal_out m y)
unfolding nonlocal_out
nonlocal_alike k s = to_home_alike k s (home_same k (active_birth_same k))

pub back_alike : {v m : Kept} {x y : Ref} → Keeps v m → Same (IsHeld v) x y → (local : Bool) → Alike v (back v x local) (back m y local)
unfolding back
back_alike k s local = if_alike (is local) (local_alike k s) (nonlocal_alike k s)
