-- States of which one keeps the other have one form to be compared by: it doesn't see contexts that nothing names.
use Rattle.std.proofs.Common.{◌≡◌, ℕ, zero, suc, ◌+◌, ◌≤◌, ◌==◌, ◌&&◌, ◌||◌, Bool, true, false, not, cond, T, refl, sym, ap, subst, ◌∙◌, arith, List, [], ◌∷◌, ◌++◌, length, map, Option, Some, None, IsSome, is_some, option_map}
use Rattle.std.specs.Prelude.{filter, filter_map, flat_map, slice_get}
use Rattle.std.specs.Option.{option_map_or}
use Rattle.std.specs.List.{AllByRecursion, IsDistinct, cons_option, list_any}
use Rattle.std.specs.Ordering.{nat_cmp, eq_by_cmp, is_lt}
use Rattle.std.specs.Cmp.{nat_cmp_total, nat_eq_equiv}
use Rattle.std.specs.Set.{is_member}
use Rattle.std.specs.FinMap.{entries, entries_sorted, find, get-entries, is_sorted, nat_cmp-IsAntisymmetric}
use Rattle.std.specs.FinMap.Entries.{below_all, where_key, is_sorted-where_key, find-where_key, same_entries, is_some-find}
use Rattle.std.proofs.lemmas.Bool.Decides.{nat_tests}
use Rattle.std.proofs.lemmas.Option.{slice_get_past}
use Rattle.std.proofs.lemmas.Map.Made.{length-le_from_is_member}
use Rattle.cs_model.specs.Ref.{Ref, Small, Char, named_object}
use Rattle.cs_model.specs.Ref as ref
use Rattle.cs_model.specs.Obj.{Obj, Ptr, Raw, Method, Ctx, is_context, is_context_at}
use Rattle.cs_model.specs.State.{Kept, Rest, object_at, IsHeld, NamesHeld}
use Rattle.cs_model.specs.Keeps.{Keeps}
use Rattle.cs_model.specs.Canon.{Canon, plain_births, leads_to, contexts_from, queued, all_queued, turned, reached_births, order_of, canon_number, canon_object, canon, canon_by}

-- ---- lists

left : (a b : Bool) → T (a && b) → T a
left true b p = tt
left false b p = p

right : (a b : Bool) → T (a && b) → T b
right true b p = p
right false b p = absurd p

-- what passes a narrower test passes it also behind a wider one
filter_wider : {A : Type 0} (narrow wide : A → Bool) (xs : List A) → AllByRecursion (λ x. narrow x ≡ true → wide x ≡ true) xs
    → filter narrow (filter wide xs) ≡ filter narrow xs
filter_wider narrow wide [] h = refl
filter_wider narrow wide (x ∷ xs) h = go (narrow x) (wide x) refl refl (filter_wider narrow wide xs h.1)
  where
    go : (a b : Bool) → narrow x ≡ a → wide x ≡ b → filter narrow (filter wide xs) ≡ filter narrow xs
        → filter narrow (cond b (x ∷ filter wide xs) (filter wide xs)) ≡ cond a (x ∷ filter narrow xs) (filter narrow xs)
    go true true e f rest = rw e (ap (λ ys. x ∷ ys) rest)
    go true false e f rest = absurd (subst (λ b. T b) (sym (h.0 e) ∙ f) tt)
    go false true e f rest = rw e rest
    go false false e f rest = rest

shorter : {A : Type 0} (p : A → Bool) (xs : List A) → length (filter p xs) ≤ length xs
shorter p [] = omega arith
shorter p (x ∷ xs) = elim (p x) as (λ b. length (cond b (x ∷ filter p xs) (filter p xs)) ≤ suc (length xs)) [
  | true ↦ omega (arith, shorter p xs)
  | false ↦ omega (arith, shorter p xs)
]

every : {A : Type 0} {P Q : A → Type 0} → ((x : A) → P x → Q x) → (xs : List A) → AllByRecursion P xs → AllByRecursion Q xs
every f [] h = tt
every f (x ∷ xs) h = (f x h.0, every f xs h.1)

every_joined : {A : Type 0} (P : A → Type 0) (xs ys : List A) → AllByRecursion P xs → AllByRecursion P ys → AllByRecursion P (xs ++ ys)
every_joined P [] ys h g = g
every_joined P (x ∷ xs) ys h g = (h.0, every_joined P xs ys h.1 g)

every_passed : {A : Type 0} (P : A → Type 0) (p : A → Bool) (xs : List A) → AllByRecursion P xs → AllByRecursion P (filter p xs)
every_passed P p [] h = tt
every_passed P p (x ∷ xs) h = elim (p x) as (λ b. AllByRecursion P (cond b (x ∷ filter p xs) (filter p xs))) [
  | true ↦ (h.0, every_passed P p xs h.1)
  | false ↦ every_passed P p xs h.1
]

every_mapped : {A B : Type 0} (P : B → Type 0) (f : A → B) (xs : List A) → AllByRecursion (λ x. P (f x)) xs → AllByRecursion P (map f xs)
every_mapped P f [] h = tt
every_mapped P f (x ∷ xs) h = (h.0, every_mapped P f xs h.1)

every_flat : {A B : Type 0} (P : B → Type 0) (f : A → List B) (xs : List A) → AllByRecursion (λ x. AllByRecursion P (f x)) xs → AllByRecursion P (flat_map f xs)
every_flat P f [] h = tt
every_flat P f (x ∷ xs) h = every_joined P (f x) (flat_map f xs) h.0 (every_flat P f xs h.1)

every_got : {A : Type 0} (P : A → Type 0) (xs : List A) (i : ℕ) (x : A) → AllByRecursion P xs → slice_get xs i ≡ Some x → P x
every_got P [] i x h e = absurd (subst (λ o. T (is_some o)) (sym e) tt)
every_got P (y ∷ ys) zero x h e = subst P (ap (λ o. option_map_or (λ z. z) o y) e) h.0
every_got P (y ∷ ys) (suc i) x h e = every_got P ys i x h.1 e

same_flat : {A B : Type 0} (f g : A → List B) (xs : List A) → AllByRecursion (λ x. f x ≡ g x) xs → flat_map f xs ≡ flat_map g xs
same_flat f g [] h = refl
same_flat f g (x ∷ xs) h = ap (λ ys. ys ++ flat_map f xs) h.0 ∙ ap (λ ys. g x ++ ys) (same_flat f g xs h.1)

same_filter_map : {A B : Type 0} (f g : A → Option B) (xs : List A) → AllByRecursion (λ x. f x ≡ g x) xs → filter_map f xs ≡ filter_map g xs
same_filter_map f g [] h = refl
same_filter_map f g (x ∷ xs) h = ap (λ o. cons_option o (filter_map f xs)) h.0 ∙ ap (cons_option (g x)) (same_filter_map f g xs h.1)

-- ---- entries in order

ties_other : (a b : ℕ) → T (is_lt (nat_cmp a b)) → eq_by_cmp nat_cmp b a ≡ false
ties_other a b h = grind (arith, nat_tests)

ties_same : (a : ℕ) → eq_by_cmp nat_cmp a a ≡ true
ties_same a = grind (arith, nat_tests)

same_test : (a b : ℕ) → eq_by_cmp nat_cmp a b ≡ (a == b)
same_test a b = grind (arith, nat_tests)

behind_first : (e : ℕ × Obj) (es fs : List (ℕ × Obj)) → T (below_all nat_cmp e.0 fs)
    → AllByRecursion (λ f. find nat_cmp f.0 es ≡ Some f.1) fs → AllByRecursion (λ f. find nat_cmp f.0 (e ∷ es) ≡ Some f.1) fs
behind_first e es [] b h = tt
behind_first e es (f ∷ fs) b h =
    (rw (ties_other e.0 f.0 (left _ _ b)) h.0, behind_first e es fs (right (is_lt (nat_cmp e.0 f.0)) _ b) h.1)

-- each entry is found by its key
each_found : (es : List (ℕ × Obj)) → T (is_sorted nat_cmp es) → AllByRecursion (λ e. find nat_cmp e.0 es ≡ Some e.1) es
each_found [] h = tt
each_found (e ∷ es) h = (rw (ties_same e.0) refl, behind_first e es es (left _ _ h) (each_found es (right (below_all nat_cmp e.0 es) _ h)))

each_at : (k : Kept) → AllByRecursion (λ e. object_at k e.0 ≡ Some e.1) (entries k.objects)
each_at k = every (λ e h. get-entries k.objects e.0 ∙ h) (entries k.objects) (each_found (entries k.objects) (entries_sorted k.objects))

-- what v has is what m has, where v has it
entries-kept : (v m : Kept) → Keeps v m → entries v.objects ≡ filter (λ e. is_some (object_at v e.0)) (entries m.objects)
entries-kept v m k = same_entries nat_cmp nat_cmp_total nat_cmp-IsAntisymmetric (entries v.objects) (where_key nat_cmp is_there (entries m.objects))
    (entries_sorted v.objects) (is_sorted-where_key nat_cmp is_there (entries m.objects) (entries_sorted m.objects)) alike
  where
    is_there : ℕ → Bool
    is_there i = is_some (object_at v i)

    narrowed : (q : ℕ) (o : Option Obj) → object_at v q ≡ o → o ≡ cond (is_some o) (object_at m q) None
    narrowed q None e = refl
    narrowed q (Some o) e = sym (k.same q o e)

    alike : (q : ℕ) → find nat_cmp q (entries v.objects) ≡ find nat_cmp q (where_key nat_cmp is_there (entries m.objects))
    alike q = sym (get-entries v.objects q) ∙ narrowed q (object_at v q) refl ∙ ap (cond (is_there q) (object_at m q)) refl
        ∙ ap (λ o. cond (is_there q) o None) (get-entries m.objects q)
        ∙ sym (find-where_key nat_cmp is_there q (λ x e. ap is_there (sym (nat_cmp-IsAntisymmetric q x e))) (entries m.objects))

-- ---- the order of objects

abbrev is_plain : ℕ × Obj → Bool
is_plain e = not (is_context e.1)

no_context : (b : Bool) → not b ≡ true → b ≡ false
no_context true h = sym h
no_context false h = refl

plain-kept : (v m : Kept) → Keeps v m → plain_births v ≡ plain_births m
plain-kept v m k = ap (λ es. map (λ (e : ℕ × Obj). e.0) (filter is_plain es)) (entries-kept v m k)
    ∙ ap (map (λ (e : ℕ × Obj). e.0)) (filter_wider is_plain (λ e. is_some (object_at v e.0)) (entries m.objects)
    (every (λ e at plain. ap is_some (k.whole e.0 e.1 at (no_context (is_context e.1) plain))) (entries m.objects) (each_at m)))

-- a birth of v
abbrev IsThere : Kept → ℕ → Type 0
IsThere v i = IsSome (object_at v i)

plain-there : (v : Kept) → AllByRecursion (IsThere v) (plain_births v)
plain-there v = every_mapped (IsThere v) (λ (e : ℕ × Obj). e.0) (filter is_plain (entries v.objects))
    (every_passed (λ e. IsThere v e.0) is_plain (entries v.objects) (every (λ e at. ap is_some at) (entries v.objects) (each_at v)))

same_there : (v m : Kept) → Keeps v m → (i : ℕ) → IsThere v i → object_at v i ≡ object_at m i
same_there v m k i h = go (object_at v i) refl h
  where
    go : (o : Option Obj) → object_at v i ≡ o → IsSome o → object_at v i ≡ object_at m i
    go None e h = absurd (subst T (sym h) tt)
    go (Some o) e h = e ∙ sym (k.same i o e)

-- what an object leads to is there
leads-held : (v : Kept) (o : Obj) → NamesHeld v o → AllByRecursion (IsHeld v) (leads_to (Some o))
leads-held v (Ptr head slots) h = h
leads-held v (Raw head bytes) h = tt
leads-held v (Method head header literals bytecodes) h = h
leads-held v (Ctx c) h = (h.sender, (h.closure, (h.receiver, h.stack)))

abbrev contexts_among : Kept → List Ref → List ℕ
contexts_among k xs = filter (λ i. is_context_at (object_at k i)) (filter_map named_object xs)

among-kept : (v m : Kept) → Keeps v m → (xs : List Ref) → AllByRecursion (IsHeld v) xs → contexts_among v xs ≡ contexts_among m xs
among-kept v m k [] h = refl
among-kept v m k (Small a ∷ xs) h = among-kept v m k xs h.1
among-kept v m k (Char c ∷ xs) h = among-kept v m k xs h.1
among-kept v m k (ref.Obj i ∷ xs) h =
    ap (λ o. cond (is_context_at o) (i ∷ contexts_among v xs) (contexts_among v xs)) (same_there v m k i h.0)
    ∙ ap (λ ys. cond (is_context_at (object_at m i)) (i ∷ ys) ys) (among-kept v m k xs h.1)

among-there : (v : Kept) (xs : List Ref) → AllByRecursion (IsHeld v) xs → AllByRecursion (IsThere v) (contexts_among v xs)
among-there v [] h = tt
among-there v (Small a ∷ xs) h = among-there v xs h.1
among-there v (Char c ∷ xs) h = among-there v xs h.1
among-there v (ref.Obj i ∷ xs) h = elim (is_context_at (object_at v i)) as (λ b. AllByRecursion (IsThere v) (cond b (i ∷ contexts_among v xs) (contexts_among v xs))) [
  | true ↦ (h.0, among-there v xs h.1)
  | false ↦ among-there v xs h.1
]

from-kept : (v m : Kept) → Keeps v m → (i : ℕ) → IsThere v i → contexts_from v i ≡ contexts_from m i
from-kept v m k i h = go (object_at v i) refl h
  where
    go : (o : Option Obj) → object_at v i ≡ o → IsSome o → contexts_from v i ≡ contexts_from m i
    go None e h = absurd (subst T (sym h) tt)
    go (Some o) e h = ap (λ x. contexts_among v (leads_to x)) e
        ∙ among-kept v m k (leads_to (Some o)) (leads-held v o (k.closed i o e))
        ∙ ap (λ x. contexts_among m (leads_to x)) (sym (k.same i o e))

from-there : (v m : Kept) → Keeps v m → (i : ℕ) → IsThere v i → AllByRecursion (IsThere v) (contexts_from v i)
from-there v m k i h = go (object_at v i) refl h
  where
    go : (o : Option Obj) → object_at v i ≡ o → IsSome o → AllByRecursion (IsThere v) (contexts_from v i)
    go None e h = absurd (subst T (sym h) tt)
    go (Some o) e h = subst (λ x. AllByRecursion (IsThere v) (contexts_among v (leads_to x))) (sym e)
        (among-there v (leads_to (Some o)) (leads-held v o (k.closed i o e)))

-- ---- the queue

neither : (a b : Bool) → (a || b) ≡ false → (a ≡ false) × (b ≡ false)
neither true b h = absurd (subst T h tt)
neither false b h = (refl, h)

-- a queue has births of v, each once
record IsQueue (v : Kept) (queue : List ℕ) : Type 0 where
  there : AllByRecursion (IsThere v) queue
  apart : IsDistinct (λ i j. i == j) queue

apart_behind : (queue : List ℕ) (i : ℕ) → IsDistinct (λ a b. a == b) queue → list_any (λ j. j == i) queue ≡ false → IsDistinct (λ a b. a == b) (queue ++ i ∷ [])
unfolding IsDistinct
apart_behind [] i d h = (tt, tt)
apart_behind (q ∷ queue) i d h =
    let both = neither (q == i) (list_any (λ j. j == i) queue) h in
    (every_joined (λ y. (q == y) ≡ false) queue (i ∷ []) d.0 (both.0, tt), apart_behind queue i d.1 both.1)

queued-is : (v : Kept) (queue : List ℕ) (i : ℕ) → IsQueue v queue → IsThere v i → IsQueue v (queued queue i)
queued-is v queue i is h = go (list_any (λ j. j == i) queue) refl
  where
    go : (b : Bool) → list_any (λ j. j == i) queue ≡ b → IsQueue v (cond b queue (queue ++ i ∷ []))
    go true e = is
    go false e = record { there = every_joined (IsThere v) queue (i ∷ []) is.there (h, tt); apart = apart_behind queue i is.apart e }

all_queued-is : (v : Kept) (births queue : List ℕ) → IsQueue v queue → AllByRecursion (IsThere v) births → IsQueue v (all_queued queue births)
all_queued-is v [] queue is h = is
all_queued-is v (i ∷ births) queue is h = all_queued-is v births (queued queue i) (queued-is v queue i is h.0) h.1

same_member : (q : ℕ) (xs : List ℕ) → list_any (eq_by_cmp nat_cmp q) xs ≡ list_any (λ x. q == x) xs
same_member q [] = refl
same_member q (x ∷ xs) = ap (λ b. b || list_any (eq_by_cmp nat_cmp q) xs) (same_test q x) ∙ ap (λ b. (q == x) || b) (same_member q xs)

tied : (q x : ℕ) → (q == x) ≡ true → q ≡ x
tied q x h = grind (arith, nat_tests, h)

member-there : (v : Kept) (queue : List ℕ) (q : ℕ) → AllByRecursion (IsThere v) queue → list_any (λ x. q == x) queue ≡ true → IsThere v q
member-there v [] q h e = absurd (subst T (sym e) tt)
member-there v (x ∷ queue) q h e = go (q == x) refl e (member-there v queue q h.1)
  where
    go : (b : Bool) → (q == x) ≡ b → (b || list_any (λ y. q == y) queue) ≡ true → (list_any (λ y. q == y) queue ≡ true → IsThere v q) → IsThere v q
    go true is e later = subst (IsThere v) (sym (tied q x is)) h.0
    go false is e later = later e

abbrev keys_of : Kept → List ℕ
keys_of v = map (λ (e : ℕ × Obj). e.0) (entries v.objects)

-- a queue is no longer than there are objects
within : (v : Kept) (queue : List ℕ) → IsQueue v queue → length queue ≤ length (entries v.objects)
within v queue is = subst (λ n. length queue ≤ n) (mapped (entries v.objects))
    (length-le_from_is_member nat_eq_equiv queue (keys_of v) is.apart each)
  where
    mapped : (es : List (ℕ × Obj)) → length (map (λ (e : ℕ × Obj). e.0) es) ≡ length es
    mapped [] = refl
    mapped (e ∷ es) = ap suc (mapped es)

    each : (q : ℕ) → is_member (λ a b. a == b) queue q ≡ true → is_member (λ a b. a == b) (keys_of v) q ≡ true
    each q e = sym (same_member q (keys_of v)) ∙ sym (is_some-find nat_cmp q (entries v.objects)) ∙ ap is_some (sym (get-entries v.objects q))
        ∙ member-there v queue q is.there e

-- what comes into the queue at a place
abbrev arrivals : Kept → List ℕ → ℕ → List ℕ
arrivals k queue place = option_map_or (contexts_from k) (slice_get queue place) []

arrivals-kept : (v m : Kept) → Keeps v m → (queue : List ℕ) (place : ℕ) → IsQueue v queue → arrivals v queue place ≡ arrivals m queue place
arrivals-kept v m k queue place is = go (slice_get queue place) refl
  where
    go : (x : Option ℕ) → slice_get queue place ≡ x → option_map_or (contexts_from v) x [] ≡ option_map_or (contexts_from m) x []
    go None e = refl
    go (Some i) e = from-kept v m k i (every_got (IsThere v) queue place i is.there e)

arrivals-there : (v m : Kept) → Keeps v m → (queue : List ℕ) (place : ℕ) → IsQueue v queue → AllByRecursion (IsThere v) (arrivals v queue place)
arrivals-there v m k queue place is = go (slice_get queue place) refl
  where
    go : (x : Option ℕ) → slice_get queue place ≡ x → AllByRecursion (IsThere v) (option_map_or (contexts_from v) x [])
    go None e = tt
    go (Some i) e = from-there v m k i (every_got (IsThere v) queue place i is.there e)

arrived : (v m : Kept) → Keeps v m → (queue : List ℕ) (place : ℕ) → IsQueue v queue → IsQueue v (all_queued queue (arrivals v queue place))
arrived v m k queue place is = all_queued-is v (arrivals v queue place) queue is (arrivals-there v m k queue place is)

-- as many turns of both
turned-kept : (v m : Kept) → Keeps v m → (n place : ℕ) (queue : List ℕ) → IsQueue v queue → turned n v place queue ≡ turned n m place queue
turned-kept v m k zero place queue is = refl
turned-kept v m k (suc n) place queue is = turned-kept v m k n (place + 1) (all_queued queue (arrivals v queue place)) (arrived v m k queue place is)
    ∙ ap (λ xs. turned n m (place + 1) (all_queued queue xs)) (arrivals-kept v m k queue place is)

-- behind its end a queue has no turns
at_end : (v : Kept) (n place : ℕ) (queue : List ℕ) → length queue ≤ place → turned n v place queue ≡ queue
at_end v zero place queue h = refl
at_end v (suc n) place queue h =
    ap (λ x. turned n v (place + 1) (all_queued queue (option_map_or (contexts_from v) x []))) (slice_get_past queue place h)
    ∙ at_end v n (place + 1) queue (omega (arith, h))

-- turns beyond the number of objects change nothing
more_turns : (v m : Kept) → Keeps v m → (n more place : ℕ) (queue : List ℕ) → IsQueue v queue → length (entries v.objects) ≤ place + n → n ≤ more
    → turned more v place queue ≡ turned n v place queue
more_turns v m k zero more place queue is h le = at_end v more place queue (omega (arith, h, within v queue is))
more_turns v m k (suc n) zero place queue is h le = absurd (omega (arith, le))
more_turns v m k (suc n) (suc more) place queue is h le =
    more_turns v m k n more (place + 1) (all_queued queue (arrivals v queue place)) (arrived v m k queue place is) (omega (arith, h)) (omega (arith, le))

abbrev first_queue : Kept → List ℕ
first_queue k = all_queued [] (flat_map (contexts_from k) (plain_births k))

first-kept : (v m : Kept) → Keeps v m → first_queue v ≡ first_queue m
first-kept v m k = ap (all_queued []) (same_flat (contexts_from v) (contexts_from m) (plain_births v)
    (every (from-kept v m k) (plain_births v) (plain-there v)) ∙ ap (flat_map (contexts_from m)) (plain-kept v m k))

nothing : (v : Kept) → IsQueue v []
unfolding IsDistinct
nothing v = record { there = tt; apart = tt }

first-is : (v m : Kept) → Keeps v m → IsQueue v (first_queue v)
first-is v m k = all_queued-is v (flat_map (contexts_from v) (plain_births v)) [] (nothing v)
    (every_flat (IsThere v) (contexts_from v) (plain_births v) (every (from-there v m k) (plain_births v) (plain-there v)))

fewer : (v m : Kept) → Keeps v m → length (entries v.objects) ≤ length (entries m.objects)
fewer v m k = subst (λ es. length es ≤ length (entries m.objects)) (sym (entries-kept v m k)) (shorter (λ e. is_some (object_at v e.0)) (entries m.objects))

reached-kept : (v m : Kept) → Keeps v m → reached_births v ≡ reached_births m
reached-kept v m k = sym (more_turns v m k (length (entries v.objects)) (length (entries m.objects)) 0 (first_queue v) (first-is v m k) (omega arith) (fewer v m k))
    ∙ turned-kept v m k (length (entries m.objects)) 0 (first_queue v) (first-is v m k)
    ∙ ap (turned (length (entries m.objects)) m 0) (first-kept v m k)

turned-is : (v m : Kept) → Keeps v m → (n place : ℕ) (queue : List ℕ) → IsQueue v queue → IsQueue v (turned n v place queue)
turned-is v m k zero place queue is = is
turned-is v m k (suc n) place queue is = turned-is v m k n (place + 1) (all_queued queue (arrivals v queue place)) (arrived v m k queue place is)

order-kept : (v m : Kept) → Keeps v m → order_of v ≡ order_of m
order-kept v m k = ap (λ xs. xs ++ reached_births v) (plain-kept v m k) ∙ ap (λ xs. plain_births m ++ xs) (reached-kept v m k)

order-there : (v m : Kept) → Keeps v m → AllByRecursion (IsThere v) (order_of v)
order-there v m k = every_joined (IsThere v) (plain_births v) (reached_births v) (plain-there v)
    (turned-is v m k (length (entries v.objects)) 0 (first_queue v) (first-is v m k)).there

-- ---- the form

abbrev form : List ℕ → Rest → List Obj → Canon
form order r objects = record {
  last_hash = r.last_hash;
  special = canon_number order r.special;
  classes = map (λ e. (e.0, canon_number order e.1)) (entries r.classes);
  objects = objects;
}

abbrev objects_by : List ℕ → Kept → List Obj
objects_by order k = filter_map (λ birth. option_map (canon_object order) (object_at k birth)) order

pub canon-keeps : (v m : Kept) → Keeps v m → canon v ≡ canon m
unfolding canon
canon-keeps v m k = ap (λ r. form (order_of v) r (objects_by (order_of v) v)) k.rest
    ∙ ap (form (order_of v) m.rest) (same_filter_map (λ birth. option_map (canon_object (order_of v)) (object_at v birth))
    (λ birth. option_map (canon_object (order_of v)) (object_at m birth)) (order_of v)
    (every (λ i h. ap (option_map (canon_object (order_of v))) (same_there v m k i h)) (order_of v) (order-there v m k)))
    ∙ ap (λ order. canon_by order m) (order-kept v m k)
