-- Pairs of equal values of which something holds: what is read of a state and of one that it keeps.
use Rattle.std.proofs.Common.{◌≡◌, ℕ, zero, suc, refl, sym, subst, Bool, true, false, Option, Some, None, List, [], ◌∷◌, ◌++◌, take, drop, replicate, unwrap_or, option_map, option_and_then, if◌then◌else◌}
use Rattle.std.specs.Prelude.{slice_get, slice_set}
use Rattle.std.specs.List.{AllByRecursion}

-- the same value twice, of which P holds
pub data Same {A : Type 0} (P : A → Type 0) : A → A → Type 0 where
  same : (x : A) → P x → Same P x x

-- the same option twice; P holds of its value
pub data SameOption {A : Type 0} (P : A → Type 0) : Option A → Option A → Type 0 where
  none : SameOption P None None
  some : (x : A) → P x → SameOption P (Some x) (Some x)

-- holds of every value
abbrev pub Any : {A : Type 0} → A → Type 0
Any x = Unit {0}

pub equal : {A : Type 0} {P : A → Type 0} {x y : A} → Same P x y → y ≡ x
equal (same x p) = refl

pub holds : {A : Type 0} {P : A → Type 0} {x y : A} → Same P x y → P x
holds (same x p) = p

pub option_equal : {A : Type 0} {P : A → Type 0} {o p : Option A} → SameOption P o p → p ≡ o
option_equal none = refl
option_equal (some x p) = refl

pub option_holds : {A : Type 0} {P : A → Type 0} {o p : Option A} → SameOption P o p → (x : A) → o ≡ Some x → P x
option_holds none x e = absurd (cc)
option_holds {P = P} (some y p) x e = subst P (cc) p

-- from an equation
pub same_by : {A : Type 0} (P : A → Type 0) (x y : A) → y ≡ x → P x → Same P x y
same_by P x y e p = subst (λ z. Same P x z) (sym e) (same x p)

pub some_by : {A : Type 0} (P : A → Type 0) (o p : Option A) → p ≡ o → ((x : A) → o ≡ Some x → P x) → SameOption P o p
some_by P o p e h = subst (λ q. SameOption P o q) (sym e) (elim o as (λ q. ((x : _) → q ≡ Some x → P x) → SameOption P q q) [ None ↦ λ _. none | Some x ↦ λ g. some x (g x refl) ] h)

pub is : {A : Type 0} (x : A) → Same Any x x
is x = same x tt

-- a function of one of them
pub of : {A B : Type 0} {P : A → Type 0} {x y : A} (Q : B → Type 0) (f : A → B) → Same P x y → ((a : A) → P a → Q (f a)) → Same Q (f x) (f y)
of Q f (same x p) h = same (f x) (h x p)

pub value : {A B : Type 0} {P : A → Type 0} {x y : A} (f : A → B) → Same P x y → Same Any (f x) (f y)
value f (same x p) = same (f x) tt

pub of_option : {A B : Type 0} {P : A → Type 0} {o p : Option A} (f : Option A → B) → SameOption P o p → Same Any (f o) (f p)
of_option f none = same (f None) tt
of_option f (some x p) = same (f (Some x)) tt

pub two : {A B C : Type 0} {P : A → Type 0} {Q : B → Type 0} {x y : A} {u v : B} (f : A → B → C) → Same P x y → Same Q u v → Same Any (f x u) (f y v)
two f (same x p) (same u q) = same (f x u) tt

pub and_then_same : {A B : Type 0} {P : A → Type 0} {Q : B → Type 0} {o p : Option A} {f g : A → Option B} → SameOption P o p → ((x : A) → P x → SameOption Q (f x) (g x)) → SameOption Q (option_and_then f o) (option_and_then g p)
and_then_same none h = none
and_then_same (some x p) h = h x p

pub map_same : {A B : Type 0} {P : A → Type 0} {o p : Option A} (Q : B → Type 0) (f : A → B) → SameOption P o p → ((x : A) → P x → Q (f x)) → SameOption Q (option_map f o) (option_map f p)
map_same Q f none h = none
map_same Q f (some x p) h = some (f x) (h x p)

pub or_same : {A : Type 0} {P : A → Type 0} {o p : Option A} {x y : A} → SameOption P o p → Same P x y → Same P (unwrap_or o x) (unwrap_or p y)
or_same none d = d
or_same (some x p) d = same x p

-- lists

pub all-append : {A : Type 0} (P : A → Type 0) (xs ys : List A) → AllByRecursion P xs → AllByRecursion P ys → AllByRecursion P (xs ++ ys)
all-append P [] ys h k = k
all-append P (x ∷ xs) ys h k = (h.0, all-append P xs ys h.1 k)

pub all-take : {A : Type 0} (P : A → Type 0) (n : ℕ) (xs : List A) → AllByRecursion P xs → AllByRecursion P (take n xs)
all-take P zero xs h = tt
all-take P (suc n) [] h = tt
all-take P (suc n) (x ∷ xs) h = (h.0, all-take P n xs h.1)

pub all-drop : {A : Type 0} (P : A → Type 0) (n : ℕ) (xs : List A) → AllByRecursion P xs → AllByRecursion P (drop n xs)
all-drop P zero xs h = h
all-drop P (suc n) [] h = tt
all-drop P (suc n) (x ∷ xs) h = all-drop P n xs h.1

pub all-replicate : {A : Type 0} (P : A → Type 0) (n : ℕ) (x : A) → P x → AllByRecursion P (replicate n x)
all-replicate P zero x h = tt
all-replicate P (suc n) x h = (h, all-replicate P n x h)

pub all-slice_set : {A : Type 0} (P : A → Type 0) (xs : List A) (i : ℕ) (y : A) → AllByRecursion P xs → P y → AllByRecursion P (slice_set xs i y)
all-slice_set P [] i y h p = tt
all-slice_set P (x ∷ xs) zero y h p = (p, h.1)
all-slice_set P (x ∷ xs) (suc i) y h p = (h.0, all-slice_set P xs i y h.1 p)

-- what stands in a list at an index
pub at_index : {A : Type 0} (P : A → Type 0) (xs : List A) (i : ℕ) → AllByRecursion P xs → SameOption P (slice_get xs i) (slice_get xs i)
at_index P [] i h = none
at_index P (x ∷ xs) zero h = some x h.0
at_index P (x ∷ xs) (suc i) h = at_index P xs i h.1

-- choices

pub if_same : {A : Type 0} {P : A → Type 0} {b c : Bool} {x y z w : A} → Same Any b c → Same P x y → Same P z w → Same P (if b then x else z) (if c then y else w)
if_same (same true a) s t = s
if_same (same false a) s t = t

pub if_option : {A : Type 0} {P : A → Type 0} {b c : Bool} {o p q r : Option A} → Same Any b c → SameOption P o p → SameOption P q r → SameOption P (if b then o else q) (if c then p else r)
if_option (same true a) s t = s
if_option (same false a) s t = t

-- without what is known of them

pub plain : {A : Type 0} {P : Option A → Type 0} {o p : Option A} → Same P o p → SameOption Any o p
plain (same None h) = none
plain (same (Some x) h) = some x tt

pub any_option : {A : Type 0} (o : Option A) → SameOption Any o o
any_option None = none
any_option (Some x) = some x tt

pub option_is : {A : Type 0} {P : A → Type 0} {o p : Option A} → SameOption P o p → Same Any o p
option_is none = same None tt
option_is (some x h) = same (Some x) tt

pub some_same : {A : Type 0} {P : A → Type 0} {x y : A} → Same P x y → SameOption P (Some x) (Some y)
some_same (same x h) = some x h
