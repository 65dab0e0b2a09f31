-- The elements of an Array are pushed one by one, in the place of the argument.
use Rattle.std.proofs.Common.{◌≡◌, ◌≢◌, ◌∙◌, ℕ, zero, suc, ◌+◌, ◌-◌, ◌<◌, ◌≤◌, Bool, true, false, refl, sym, ap, subst, arith, Option, Some, None, IfSome, is_some, length, nat_le, option_and_then, List, [], ◌∷◌, ◌++◌, take, length-take}
use Rattle.std.specs.Prelude.{if◌then◌else◌, slice_get, unwrap_or}
use Rattle.std.proofs.lemmas.Bool.Decides.{nat_tests}
use Rattle.cs_word.specs.declared.Oop.{Oop}
use Rattle.cs_model.specs.Ref.{Ref, Small, Char}
use Rattle.cs_model.specs.Ref as ref
use Rattle.cs_model.specs.Obj.{Obj, Context, Ptr, Raw, Method, Ctx, pushed, slots_in, with_stack, Head}
use Rattle.cs_model.specs.State.{Kept, object_at, object_of}
use Rattle.cs_model.specs.Keeps.{Keeps, SameKept}
use Rattle.cs_model.specs.Operation.{drop_of, push_of, put_active}
use Rattle.cs_model.specs.Read.{IsRunning, active_birth, active_context, depth_of, size_of, stack_of}
use Rattle.cs_model.specs.Send.{array_elements, elements_fitting, spread_of}
use Rattle.cs_model.proofs.Objects.{object_at-put_other}
use Rattle.cs_model.proofs.Reading.{depth_same, size_same}
use Rattle.cs_model.proofs.Same.{equal}
use Rattle.cs_acts.specs.Layout.{Layout}
use Rattle.cs_acts.specs.Led.{Leads}
use Rattle.cs_acts.specs.Made.{MakesAtMost}
use Rattle.cs_acts.specs.Names.{KeepsNames, NamesOption, Store, name_of}
use Rattle.cs_acts.specs.Ready.{IsReady}
use Rattle.cs_acts.proofs.Dropping.{edit-twice}
use Rattle.cs_acts.proofs.Running.{active_context-put_active}
use Rattle.cs_unwind.specs.Blocks.{Spreads}
use Rattle.cs_unwind.proofs.BlockRows.{HasElements}
use Rattle.cs_unwind.proofs.Pointers.{array_slots}

-- ---- the elements

-- what fits, and none where nothing does
abbrev pub elements : Kept → Ref → List Ref
elements k x = unwrap_or (elements_fitting k 1 x) []

record Fitting (k : Kept) (x : Ref) (values : List Ref) : Type 0 where
  array : array_elements (object_of k x) ≡ Some values
  room : depth_of k - 1 + length values ≤ size_of k

fitting : (k : Kept) (x : Ref) (values : List Ref) → elements_fitting k 1 x ≡ Some values → Fitting k x values
unfolding elements_fitting
fitting k x values e = go (array_elements (object_of k x)) refl e
  where
    room : (xs : List Ref) → nat_le (depth_of k - 1 + length xs) (size_of k) ≡ true → depth_of k - 1 + length xs ≤ size_of k
    room xs h = grind (arith, nat_tests, h)

    by : (xs : List Ref) → array_elements (object_of k x) ≡ Some xs → (b : Bool) → nat_le (depth_of k - 1 + length xs) (size_of k) ≡ b → (if b then Some xs else None) ≡ Some values → Fitting k x values
    by xs f true h e = let same : xs ≡ values = cc in record { array = f ∙ ap Some same; room = subst (λ ys. depth_of k - 1 + length ys ≤ size_of k) same (room xs h) }
    by xs f false h e = absurd (cc)

    go : (o : Option (List Ref)) → array_elements (object_of k x) ≡ o → option_and_then (λ values. if nat_le (depth_of k - 1 + length values) (size_of k) then Some values else None) o ≡ Some values → Fitting k x values
    go None f e = absurd (cc)
    go (Some xs) f e = by xs f (nat_le (depth_of k - 1 + length xs) (size_of k)) refl e

elements_are : (k : Kept) (x : Ref) (n : ℕ) (h : HasElements k x n) → elements k x ≡ h.values
elements_are k x n h = ap (λ o. unwrap_or o []) h.fitting

pub so_many : (k : Kept) (x : Ref) (n : ℕ) → HasElements k x n → length (elements k x) ≡ n
so_many k x n h = ap (λ (xs : List Ref). length xs) (elements_are k x n h) ∙ h.count

pub room_for : (k : Kept) (x : Ref) (n : ℕ) → HasElements k x n → depth_of k - 1 + n ≤ size_of k
room_for k x n h = subst (λ m. depth_of k - 1 + m ≤ size_of k) h.count (fitting k x h.values h.fitting).room

-- ---- an Array stays where the stack changes

apart : (k : Kept) (j : ℕ) (head : Head) (slots : List Ref) → IsRunning k → object_at k j ≡ Some (Ptr head slots) → j ≢ active_birth k
apart k j head slots running there = λ e.
    let is : Some (Ptr head slots) ≡ Some (Ctx (active_context k)) = sym there ∙ ap (object_at k) e ∙ running.found in
    absurd (cc)

array_stays : (k v : Kept) (j : ℕ) (xs values : List Ref) → IsRunning k → Keeps v (spread_of k 1 xs) → (o : Option Obj) → object_at k j ≡ o → array_elements o ≡ Some values → slots_in (object_at v j) ≡ Some values
array_stays k v j xs values running keeps None f e = absurd (cc)
array_stays k v j xs values running keeps (Some (Ptr head slots)) f e =
    let there : object_at (spread_of k 1 xs) j ≡ Some (Ptr head slots) = object_at-put_other k (active_birth k) j _ (apart k j head slots running f) ∙ f in
    ap slots_in (keeps.whole j (Ptr head slots) there refl) ∙ array_slots (Some (Ptr head slots)) values e
array_stays k v j xs values running keeps (Some (Raw head bytes)) f e = absurd (cc)
array_stays k v j xs values running keeps (Some (Method head header literals bytecodes)) f e = absurd (cc)
array_stays k v j xs values running keeps (Some (Ctx c)) f e = absurd (cc)

pub array_kept : (k v : Kept) (x : Ref) (xs : List Ref) (n : ℕ) → IsRunning k → Keeps v (spread_of k 1 xs) → HasElements k x n → slots_in (object_of v x) ≡ Some (elements k x)
array_kept k v x xs n running keeps h = go x (fitting k x h.values h.fitting).array ∙ ap Some (sym (elements_are k x n h))
  where
    go : (y : Ref) → array_elements (object_of k y) ≡ Some h.values → slots_in (object_of v y) ≡ Some h.values
    go (Small a) e = absurd (cc)
    go (Char a) e = absurd (cc)
    go (ref.Obj j) e = array_stays k v j xs h.values running keeps (object_at k j) refl e

get_below : (xs : List Ref) (i : ℕ) → i < length xs → is_some (slice_get xs i) ≡ true
get_below [] i less = absurd (omega (arith, less))
get_below (x ∷ xs) zero less = refl
get_below (x ∷ xs) (suc i) less = get_below xs i (omega (arith, less))

-- each of them is there
pub element_is_there : (s : Store) (v : Kept) (x : Ref) (xs : List Ref) (i : ℕ) → slots_in (object_of v x) ≡ Some xs → i < length xs → NamesOption s None (option_and_then (λ (slots : List Ref). slice_get slots i) (slots_in (object_of v x))) → ⊥
element_is_there s v x xs i e less names =
    let none : None ≡ slice_get xs i = names.is ∙ ap (option_and_then (λ (slots : List Ref). slice_get slots i)) e in
    let some = get_below xs i less in
    cc

pub element_is : (s : Store) (v : Kept) (x : Ref) (xs : List Ref) (i : ℕ) (value : Oop) → slots_in (object_of v x) ≡ Some xs → NamesOption s (Some value) (option_and_then (λ (slots : List Ref). slice_get slots i) (slots_in (object_of v x))) → slice_get xs i ≡ Some (name_of s value)
element_is s v x xs i value e names = sym (names.is ∙ ap (option_and_then (λ (slots : List Ref). slice_get slots i)) e)

-- ---- one by one

taken : (xs : List Ref) (i : ℕ) (y : Ref) → slice_get xs i ≡ Some y → take i xs ++ y ∷ [] ≡ take (suc i) xs
taken [] i y e = absurd (cc)
taken (x ∷ xs) zero y e = let same : x ≡ y = cc in ap (λ (z : Ref). z ∷ []) (sym same)
taken (x ∷ xs) (suc i) y e = ap (λ (zs : List Ref). x ∷ zs) (taken xs i y e)

append-none : (xs : List Ref) → xs ++ [] ≡ xs
append-none [] = refl
append-none (x ∷ xs) = ap (λ (ys : List Ref). x ∷ ys) (append-none xs)

append-more : (xs ys zs : List Ref) → (xs ++ ys) ++ zs ≡ xs ++ (ys ++ zs)
append-more [] ys zs = refl
append-more (x ∷ xs) ys zs = ap (λ (ws : List Ref). x ∷ ws) (append-more xs ys zs)

pub spread_none : (k : Kept) (xs : List Ref) → drop_of k 1 ≡ spread_of k 1 (take 0 xs)
unfolding drop_of
spread_none k xs = ap (λ (ys : List Ref). put_active k (with_stack ys (active_context k))) (sym (append-none (take (length (stack_of k) - 1) (stack_of k))))

pub spread_more : (k : Kept) (xs : List Ref) (i : ℕ) (y : Ref) → slice_get xs i ≡ Some y → push_of (spread_of k 1 (take i xs)) y ≡ spread_of k 1 (take (i + 1) xs)
unfolding push_of
spread_more k xs i y e =
    let next : suc i ≡ i + 1 = omega arith in
    edit-twice k (λ c. with_stack (take (length c.stack - 1) c.stack ++ take i xs) c) (pushed y)
    ∙ ap (λ (ys : List Ref). put_active k (with_stack ys (active_context k)))
    (append-more (take (length (stack_of k) - 1) (stack_of k)) (take i xs) (y ∷ []) ∙ ap (λ (zs : List Ref). take (length (stack_of k) - 1) (stack_of k) ++ zs) (taken xs i y e ∙ ap (λ n. take n xs) next))

depth_length : (a b : List Ref) → length (a ++ b) ≡ length a + length b
depth_length [] b = omega arith
depth_length (x ∷ a) b = omega (arith, depth_length a b)

pub depth_spread : (v k : Kept) (ys : List Ref) → Keeps v (spread_of k 1 ys) → depth_of v ≡ depth_of k - 1 + length ys
depth_spread v k ys keeps =
    sym (equal (depth_same keeps)) ∙ ap (λ (c : Context). length c.stack) (active_context-put_active k (with_stack (take (length (stack_of k) - 1) (stack_of k) ++ ys) (active_context k)))
    ∙ omega (arith, depth_length (take (length (stack_of k) - 1) (stack_of k)) ys, length-take (length (stack_of k) - 1) (stack_of k))

size_spread : (v k : Kept) (ys : List Ref) → Keeps v (spread_of k 1 ys) → size_of v ≡ size_of k
size_spread v k ys keeps =
    sym (equal (size_same keeps)) ∙ ap (λ (c : Context). c.size) (active_context-put_active k (with_stack (take (length (stack_of k) - 1) (stack_of k) ++ ys) (active_context k)))

-- there is room for the next one
pub room_left : (v k : Kept) (x : Ref) (n i : ℕ) → HasElements k x n → i < n → Keeps v (spread_of k 1 (take i (elements k x))) → depth_of v < size_of v
room_left v k x n i h less keeps =
    omega (arith, depth_spread v k (take i (elements k x)) keeps, size_spread v k (take i (elements k x)) keeps, length-take i (elements k x), so_many k x n h, room_for k x n h, less)

take-all : (xs : List Ref) (n : ℕ) → length xs ≡ n → take n xs ≡ xs
take-all [] zero e = refl
take-all [] (suc n) e = absurd (cc)
take-all (x ∷ xs) zero e = absurd (cc)
take-all (x ∷ xs) (suc n) e = ap (λ (ys : List Ref). x ∷ ys) (take-all xs n (omega (arith, e)))

pub all_spread : (a b : Store) (l m : Option Layout) (k v : Kept) (x : Ref) (n i : ℕ) → HasElements k x n → i ≡ n → Leads a b l m v (spread_of k 1 (take i (elements k x))) 0 → Spreads a b l m k v x
all_spread a b l m k v x n i h all led =
    let whole : take i (elements k x) ≡ h.values = ap (λ j. take j (elements k x)) all ∙ take-all (elements k x) n (so_many k x n h) ∙ elements_are k x n h in
    subst (λ o. IfSome o (λ values. Leads a b l m v (spread_of k 1 values) 0)) (sym h.fitting) (subst (λ ys. Leads a b l m v (spread_of k 1 ys) 0) whole led)

-- ---- what it begins with

pub popped_first : (a b : Store) (l m : Option Layout) (k v : Kept) (xs : List Ref) → Keeps v (drop_of k 1) → (l ≡ None → SameKept v (drop_of k 1)) → m ≡ l → b.memory.limit ≡ a.memory.limit → MakesAtMost 0 l a b → IsReady b v → KeepsNames a b
    → Leads a b l m v (spread_of k 1 (take 0 xs)) 0
popped_first a b l m k v xs state exact layout limit made ready names = subst (λ t. Leads a b l m v t 0) (spread_none k xs) (record { state = state; exact = exact; layout = layout; limit = limit; contexts = made; ready = ready; names = names })
