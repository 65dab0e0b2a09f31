-- One lemma for each way in which definitions are composed: what is composed of what is alike is alike.
use Rattle.std.proofs.Common.{ℕ, Bool, true, false, refl, sym, ap, Option, if◌then◌else◌}
use Rattle.cs_model.specs.declared.stop.Stop.{Stop}
use Rattle.cs_model.specs.State.{Kept}
use Rattle.cs_model.specs.Keeps.{Keeps}
use Rattle.cs_model.specs.Alike.{Alike, EndHeld}
use Rattle.cs_model.specs.End.{End, Out, Count, out, done, stop, plus, counting, made, made_context, looked, given, is_done, and_then}
use Rattle.cs_model.specs.End as ends
use Rattle.cs_model.proofs.Same.{Same, same, SameOption, none, some, Any, is, value, same_by}
use Rattle.cs_model.proofs.Keeping.{Moved, unmoved, grows-trans}

-- the same end behind a move
pub moved_alike : {v t u : Kept} {e f : End} → Moved v t u → Same (EndHeld t) e f → Alike v (out e t) (out f u)
moved_alike s (same e h) = record { end = refl; count = refl; keeps = s.keeps; grows = s.grows; held = h }

pub out_alike : {v m : Kept} {e f : End} → Keeps v m → Same (EndHeld v) e f → Alike v (out e v) (out f m)
out_alike k s = moved_alike (unmoved k) s

pub done_alike : {v t u : Kept} → Moved v t u → Alike v (done t) (done u)
done_alike s = record { end = refl; count = refl; keeps = s.keeps; grows = s.grows; held = tt }

pub stop_alike : {v m : Kept} → Keeps v m → (reason : Stop) → Alike v (stop reason v) (stop reason m)
stop_alike k reason = record { end = refl; count = refl; keeps = k; grows = (unmoved k).grows; held = tt }

pub stop_behind : {v t u : Kept} → Moved v t u → (reason : Stop) → Alike v (stop reason t) (stop reason u)
stop_behind s reason = record { end = refl; count = refl; keeps = s.keeps; grows = s.grows; held = tt }

-- what is alike from behind a move on is alike from before it on
pub behind : {v t u : Kept} {a b : Out} → Moved v t u → Alike t a b → Alike v a b
behind s h = record { end = h.end; count = h.count; keeps = h.keeps; grows = grows-trans s.grows h.grows; held = h.held }

pub left : {v : Kept} {a b : Out} → Alike v a b → Moved v a.state b.state
left h = record { keeps = h.keeps; grows = h.grows }

pub end_same : {v : Kept} {a b : Out} → Alike v a b → Same (EndHeld a.state) a.end b.end
end_same {a = a} {b = b} h = same_by (EndHeld a.state) a.end b.end (sym h.end) h.held

pub count_same : {v : Kept} {a b : Out} → Alike v a b → Same Any a.count b.count
count_same {a = a} {b = b} h = same_by Any a.count b.count (sym h.count) tt

pub counting_alike : {v : Kept} {n l : Count} {a b : Out} → Same Any n l → Alike v a b → Alike v (counting n a) (counting l b)
counting_alike (same n s) h = record { end = h.end; count = ap (plus n) h.count; keeps = h.keeps; grows = h.grows; held = h.held }

pub made_alike : {v : Kept} {n l : ℕ} {a b : Out} → Same Any n l → Alike v a b → Alike v (made n a) (made l b)
unfolding made
made_alike (same n s) h = counting_alike (is _) h

pub made_context_alike : {v : Kept} {n l : ℕ} {a b : Out} → Same Any n l → Alike v a b → Alike v (made_context n a) (made_context l b)
unfolding made_context
made_context_alike (same n s) h = counting_alike (is _) h

pub looked_alike : {v : Kept} {a b : Out} → Alike v a b → Alike v (looked a) (looked b)
unfolding looked
looked_alike h = counting_alike (is _) h

pub given_alike : {v : Kept} {A : Type 0} {P : A → Type 0} {o p : Option A} {a b : Out} (f g : A → Out) → SameOption P o p → Alike v a b → ((x : A) → P x → Alike v (f x) (g x)) → Alike v (given o a f) (given p b g)
given_alike f g none n s = n
given_alike f g (some x h) n s = s x h

pub if_alike : {v : Kept} {P : Bool → Type 0} {c d : Bool} {a b x y : Out} → Same P c d → Alike v a b → Alike v x y → Alike v (if c then a else x) (if d then b else y)
if_alike (same true h) s t = s
if_alike (same false h) s t = t

pub and_then_alike : {v : Kept} {a b : Out} (f g : Kept → Out) → Alike v a b → ((t u : Kept) → Moved v t u → Alike t (f t) (g u)) → Alike v (and_then a f) (and_then b g)
unfolding and_then
and_then_alike {v} {a} {b} f g h next = if_alike (value is_done (end_same h)) (counting_alike (count_same h) (behind (left h) (next a.state b.state (left h)))) h

pub fail_alike : {v m : Kept} → Keeps v m → Alike v (out ends.Fail v) (out ends.Fail m)
fail_alike k = out_alike k (same ends.Fail tt)
