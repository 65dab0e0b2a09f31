-- Searches go alike: of methods along superclasses, and of contexts along senders and homes.
use Rattle.std.proofs.Common.{ℕ, zero, suc, ◌==◌, ◌&&◌, false, Option, is_some, List, [], ◌∷◌, drop, option_and_then, pos}
use Rattle.std.specs.List.{AllByRecursion}
use Rattle.cs_model.specs.Ref.{Ref, Small, Char, named_object, same_ref}
use Rattle.cs_model.specs.Ref as ref
use Rattle.cs_model.specs.Obj.{Context, is_method}
use Rattle.cs_model.specs.State.{Kept, IsHeld, ContextHeld}
use Rattle.cs_model.specs.Lookup.{Sought, Missing, Loop, class_limit, if_method, or_else, find_among, list_or_empty, find_in, find_in_dictionary, slot_in, or_above, in_class, lookup_within, lookup}
use Rattle.cs_model.specs.Lookup as sought
use Rattle.cs_model.specs.Return.{links, Search, Met, Ended, TooLong, passing, context_at, context_birth, sender_birth, search_senders, senders_to, Home, HomeAt, NoHome, HomeTooFar, outer_birth, closure_in, closure_at, search_home, home, is_number, method_primitive, is_marked_context, is_marked, first_marked, is_live}
use Rattle.cs_model.specs.End.{given}
use Rattle.cs_model.specs.Keeps.{Keeps}
use Rattle.cs_model.specs.Alike.{SoughtHeld}
use Rattle.cs_model.proofs.Same.{Same, same, SameOption, none, some, Any, is, of_option, two, and_then_same, or_same, if_same, if_option}
use Rattle.cs_model.proofs.Reading.{AllHeld, listed, Has, nil_same, is_nil_same, object_at_same, object_of_same, slots_in_same, slots_of_same, context_in_same, slice_same}

pub given_same : {A B : Type 0} {P : A → Type 0} {Q : B → Type 0} {o p : Option A} {x y : B} (f g : A → B) → SameOption P o p → Same Q x y → ((a : A) → P a → Same Q (f a) (g a)) → Same Q (given o x f) (given p y g)
given_same f g none n s = n
given_same f g (some a h) n s = s a h

-- ---- methods

if_method_same : {v m : Kept} {o p : Option Ref} → Keeps v m → SameOption (IsHeld v) o p → SameOption (IsHeld v) (if_method v o) (if_method m p)
if_method_same k none = none
if_method_same k (some x h) = if_option (of_option is_method (object_of_same k (same x h))) (some x h) none

or_else_same : {v m : Kept} {o p q r : Option Ref} → Keeps v m → SameOption (IsHeld v) o p → SameOption (IsHeld v) q r → SameOption (IsHeld v) (or_else o q) (or_else p r)
or_else_same k none t = t
or_else_same k (some x h) t = some x h

find_among_same : {v m : Kept} → Keeps v m → (values : List Ref) → AllHeld v values → (selector : Ref) (i : ℕ) (xs : List Ref) → SameOption (IsHeld v) (find_among v values selector i xs) (find_among m values selector i xs)
unfolding find_among
find_among_same k values h selector i [] = none
find_among_same k values h selector i (x ∷ xs) =
    if_option (is (same_ref x selector)) (or_else_same k (if_method_same k (slice_same i (same values h))) (find_among_same k values h selector (suc i) xs)) (find_among_same k values h selector (suc i) xs)

list_or_empty_same : {v : Kept} {o p : Option (List Ref)} → SameOption (AllHeld v) o p → Same (AllHeld v) (list_or_empty o) (list_or_empty p)
list_or_empty_same {v} none = listed v [] tt
list_or_empty_same (some xs h) = same xs h

found_same : {v m : Kept} {xs ys : List Ref} → Keeps v m → Same (AllHeld v) xs ys → (selector : Ref) (zs : List Ref) → SameOption (IsHeld v) (find_among v xs selector 0 zs) (find_among m ys selector 0 zs)
found_same k (same xs h) selector zs = find_among_same k xs h selector 0 zs

find_in_same : {v m : Kept} {o p : Option (List Ref)} → Keeps v m → (selector : Ref) → SameOption (AllHeld v) o p → SameOption (IsHeld v) (find_in v selector o) (find_in m selector p)
find_in_same k selector none = none
find_in_same k selector (some slots h) = found_same k (list_or_empty_same (and_then_same (slice_same 1 (same slots h)) (λ x g. slots_in_same (object_of_same k (same x g))))) selector (drop 2 slots)

pub find_in_dictionary_same : {v m : Kept} {x y : Ref} → Keeps v m → (selector : Ref) → Same (IsHeld v) x y → SameOption (IsHeld v) (find_in_dictionary v selector x) (find_in_dictionary m selector y)
unfolding find_in_dictionary
find_in_dictionary_same k selector s = find_in_same k selector (slots_of_same k 2 s)

slot_in_same : {v : Kept} {xs ys : List Ref} → (i : ℕ) → Same (AllHeld v) xs ys → Same (IsHeld v) (slot_in xs i) (slot_in ys i)
slot_in_same i s = or_same (slice_same i s) (same (Small (pos 0)) tt)

or_above_same : {v m : Kept} {o p : Option Ref} {a b : Sought} → Keeps v m → SameOption (IsHeld v) o p → Same (SoughtHeld v) a b → Same (SoughtHeld v) (or_above o a) (or_above p b)
or_above_same k none t = t
or_above_same k (some x h) t = same (sought.Method x) h

in_class_same : {v m : Kept} {o p : Option (List Ref)} (f g : Ref → Sought) → Keeps v m → (selector : Ref) → SameOption (AllHeld v) o p → ((x : Ref) → IsHeld v x → Same (SoughtHeld v) (f x) (g x)) → Same (SoughtHeld v) (in_class v selector o f) (in_class m selector p g)
in_class_same f g k selector none next = same Missing tt
in_class_same {v} f g k selector (some slots h) next = or_above_same k (find_in_dictionary_same k selector (slot_in_same 1 (same slots h))) (above (slot_in_same 0 (same slots h))) where
  above : {x y : Ref} → Same (IsHeld v) x y → Same (SoughtHeld v) (f x) (g y)
  above (same x h) = next x h

lookup_within_same : {v m : Kept} → Keeps v m → (selector : Ref) (n : ℕ) (class : Ref) → IsHeld v class → Same (SoughtHeld v) (lookup_within n v selector class) (lookup_within n m selector class)
unfolding lookup_within
lookup_within_same k selector zero class h = if_same (of_option is_some (slots_of_same k 3 (same class h))) (same Loop tt) (same Missing tt)
lookup_within_same k selector (suc n) class h = in_class_same _ _ k selector (slots_of_same k 3 (same class h)) (λ above g. lookup_within_same k selector n above g)

pub lookup_same : {v m : Kept} {c d x y : Ref} {P : Ref → Type 0} → Keeps v m → Same (IsHeld v) c d → Same P x y → Same (SoughtHeld v) (lookup v c x) (lookup m d y)
unfolding lookup
lookup_same k (same class h) (same selector g) = lookup_within_same k selector class_limit class h

-- ---- contexts

pub birth_of_same : {v m : Kept} {x y : Ref} → Keeps v m → Same (IsHeld v) x y → SameOption (Has v) (named_object x) (named_object y)
birth_of_same k (same (Small a) h) = none
birth_of_same k (same (Char c) h) = none
birth_of_same k (same (ref.Obj i) h) = some i h

pub context_at_same : {v m : Kept} {x y : Ref} → Keeps v m → Same (IsHeld v) x y → SameOption (ContextHeld v) (context_at v x) (context_at m y)
context_at_same k s = context_in_same (object_of_same k s)

pub context_birth_same : {v m : Kept} {x y : Ref} → Keeps v m → Same (IsHeld v) x y → SameOption (Has v) (context_birth v x) (context_birth m y)
context_birth_same k s = and_then_same (context_at_same k s) (λ c h. birth_of_same k s)

pub sender_birth_same : {v m : Kept} {i j : ℕ} → Keeps v m → Same (Has v) i j → SameOption (Has v) (sender_birth v i) (sender_birth m j)
sender_birth_same k s = and_then_same (context_in_same (object_at_same k s)) (λ c h. context_birth_same k (same c.sender h.sender))

-- the contexts that a search passed are there
abbrev pub SearchHeld : Kept → Search → Type 0
SearchHeld v (Met passed) = AllByRecursion (Has v) passed
SearchHeld v (Ended passed) = AllByRecursion (Has v) passed
SearchHeld v TooLong = Unit {0}

passing_same : {v m : Kept} {a b : Search} → Keeps v m → (i : ℕ) → Has v i → Same (SearchHeld v) a b → Same (SearchHeld v) (passing i a) (passing i b)
passing_same k i g (same (Met passed) h) = same (Met (i ∷ passed)) (g, h)
passing_same k i g (same (Ended passed) h) = same (Ended (i ∷ passed)) (g, h)
passing_same k i g (same TooLong h) = same TooLong tt

search_senders_same : {v m : Kept} → Keeps v m → (goal n : ℕ) {o p : Option ℕ} → SameOption (Has v) o p → Same (SearchHeld v) (search_senders n v goal o) (search_senders n m goal p)
unfolding search_senders
search_senders_same k goal zero none = same (Ended []) tt
search_senders_same k goal zero (some i h) = same TooLong tt
search_senders_same k goal (suc n) none = same (Ended []) tt
search_senders_same k goal (suc n) (some i h) = if_same (is (i == goal)) (same (Met []) tt) (passing_same k i h (search_senders_same k goal n (sender_birth_same k (same i h))))

pub senders_to_same : {v m : Kept} {i j : ℕ} → Keeps v m → Same (Has v) i j → (goal : ℕ) → Same (SearchHeld v) (senders_to v i goal) (senders_to m j goal)
unfolding senders_to
senders_to_same k s goal = search_senders_same k goal links (sender_birth_same k s)

-- ---- homes

abbrev pub HomeHeld : Kept → Home → Type 0
HomeHeld v (HomeAt i) = Has v i
HomeHeld v NoHome = Unit {0}
HomeHeld v HomeTooFar = Unit {0}

outer_birth_same : {v m : Kept} {x y : Ref} → Keeps v m → Same (IsHeld v) x y → SameOption (Has v) (outer_birth v x) (outer_birth m y)
outer_birth_same k s = and_then_same (and_then_same (slots_in_same (object_of_same k s)) (λ slots h. slice_same 0 (same slots h))) (λ x h. context_birth_same k (same x h))

closure_in_same : {v m : Kept} {c d : Option Context} → Keeps v m → SameOption (ContextHeld v) c d → Same (IsHeld v) (closure_in (ref.Obj v.rest.nil) c) (closure_in (ref.Obj m.rest.nil) d)
closure_in_same k none = nil_same k
closure_in_same k (some c h) = same c.closure h.closure

closure_at_same : {v m : Kept} {i j : ℕ} → Keeps v m → Same (Has v) i j → Same (IsHeld v) (closure_at v i) (closure_at m j)
closure_at_same k s = closure_in_same k (context_in_same (object_at_same k s))

search_home_same : {v m : Kept} → Keeps v m → (n i : ℕ) → Has v i → Same (HomeHeld v) (search_home n v i) (search_home n m i)
unfolding search_home
search_home_same k zero i h =
    if_same (is_nil_same k (closure_at_same k (same i h))) (same (HomeAt i) h)
    (if_same (of_option is_some (outer_birth_same k (closure_at_same k (same i h)))) (same HomeTooFar tt) (same NoHome tt))
search_home_same k (suc n) i h =
    if_same (is_nil_same k (closure_at_same k (same i h))) (same (HomeAt i) h)
    (given_same _ _ (outer_birth_same k (closure_at_same k (same i h))) (same NoHome tt) (λ outer g. search_home_same k n outer g))

pub home_same : {v m : Kept} {i j : ℕ} → Keeps v m → Same (Has v) i j → Same (HomeHeld v) (home v i) (home m j)
unfolding home
home_same k (same i h) = search_home_same k links i h

-- ---- marks

is_marked_context_same : {v m : Kept} {c d : Option Context} → Keeps v m → (number : ℕ) → SameOption (ContextHeld v) c d → Same Any (is_marked_context v number c) (is_marked_context m number d)
is_marked_context_same k number none = same false tt
is_marked_context_same k number (some c h) =
    two (λ a b. a && b) (is_nil_same k (is c.closure)) (of_option (λ o. is_number number (method_primitive o)) (object_of_same k (same c.method h.method)))

pub is_marked_same : {v m : Kept} {i j : ℕ} → Keeps v m → (number : ℕ) → Same (Has v) i j → Same Any (is_marked v number i) (is_marked m number j)
unfolding is_marked
is_marked_same k number s = is_marked_context_same k number (context_in_same (object_at_same k s))

pub first_marked_same : {v m : Kept} → Keeps v m → (number : ℕ) (births : List ℕ) → AllByRecursion (Has v) births → SameOption (Has v) (first_marked v number births) (first_marked m number births)
unfolding first_marked
first_marked_same k number [] h = none
first_marked_same k number (i ∷ births) h = if_option (is_marked_same k number (same i h.0)) (some i h.0) (first_marked_same k number births h.1)

pub is_live_same : {v m : Kept} {i j : ℕ} → Keeps v m → Same (Has v) i j → Same Any (is_live v i) (is_live m j)
is_live_same k s = of_option (λ c. is_some (option_and_then (λ c. c.pc) c)) (context_in_same (object_at_same k s))
