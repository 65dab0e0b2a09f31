-- Where an object stands: its address and its index lead to one another.
use Rattle.std.proofs.Common.{◌≡◌, ℕ, zero, suc, ◌+◌, ◌*◌, ◌<◌, ◌≤◌, Bool, true, false, cond, List, [], ◌∷◌, ◌++◌, length, Option, Some, None, option_map, option_and_then, is_some, refl, ap, sym, ◌∙◌, arith, eqb}
use Rattle.std.proofs.lemmas.List.Sums.{sum_by-cons}
use Rattle.std.proofs.lemmas.Bool.Decides.{nat_tests}
use Rattle.std.specs.Prelude.{slice_get}
use Rattle.std.specs.Option.{option_map_or}
use Rattle.cs_heap.specs.Object.{Object, address_among, address_of, at_index, base, header_address, index_among, object_place, next_of, heap_object, size, slot_counts, units, used, with_object}

-- The objects fall into those before, object x, which is the k-th and has the address, and those behind it. The first
-- word of the first one is at `at`.
pub record Split (xs : List Object) (at address k : ℕ) : Type 0 where
  pub before : List Object
  pub x : Object
  pub after : List Object
  pub list : xs ≡ before ++ x ∷ after
  pub place : address ≡ header_address (at + 4 * used before) (length x.words)
  pub count : length before ≡ k

pub used-cons : (x : Object) (xs : List Object) → used (x ∷ xs) ≡ size (length x.words) + used xs
used-cons x xs = sum_by-cons size (length x.words) (slot_counts xs)

pub used-push : (xs : List Object) (y : Object) → used (xs ++ y ∷ []) ≡ used xs + size (length y.words)
used-push [] y = omega (arith, used-cons y [])
used-push (x ∷ xs) y = omega (arith, used-cons x (xs ++ y ∷ []), used-cons x xs, used-push xs y)

pub used-append : (xs ys : List Object) → used (xs ++ ys) ≡ used xs + used ys
used-append [] ys = omega arith
used-append (x ∷ xs) ys = omega (arith, used-cons x (xs ++ ys), used-cons x xs, used-append xs ys)

-- ---- from an address or an index to the parts

same_number : (a b : ℕ) → eqb a b ≡ true → a ≡ b
same_number a b h = grind (arith, nat_tests)

pub split_next : (x : Object) (xs : List Object) (at address k : ℕ) → Split xs (at + 8 * units (length x.words)) address k → Split (x ∷ xs) at address (suc k)
split_next x xs at address k s = record {
  before = x ∷ s.before;
  x = s.x;
  after = s.after;
  list = ap (λ (ys : List Object). x ∷ ys) s.list;
  place = s.place ∙ omega (arith, used-cons x s.before);
  count = omega (arith, s.count);
}

pub split_here : (x : Object) (xs : List Object) (at address : ℕ) → address ≡ header_address at (length x.words) → Split (x ∷ xs) at address 0
split_here x xs at address h = record { before = []; x = x; after = xs; list = refl; place = omega (arith, h); count = refl }

from_suc : (xs : List Object) (at address k : ℕ) (o : Option ℕ) → option_map suc o ≡ Some k → ((j : ℕ) → o ≡ Some j → Split xs at address j) → (j : ℕ) × (suc j ≡ k) × Split xs at address j
from_suc xs at address k None h rec = absurd (cc)
from_suc xs at address k (Some j) h rec = let next : suc j ≡ k = cc in (j, next, rec j refl)

along : (xs : List Object) (at address j k : ℕ) → j ≡ k → Split xs at address j → Split xs at address k
along xs at address j k e s = record { before = s.before; x = s.x; after = s.after; list = s.list; place = s.place; count = s.count ∙ e }

pub split_by_address : (xs : List Object) (at address k : ℕ) → index_among (slot_counts xs) at address ≡ Some k → Split xs at address k
unfolding index_among
split_by_address [] at address k h = absurd (cc)
split_by_address (x ∷ xs) at address k h =
    go (eqb address (header_address at (length x.words))) (λ j f. split_by_address xs (at + 8 * units (length x.words)) address j f) refl h
  where
    next : ℕ
    next = at + 8 * units (length x.words)

    go : (b : Bool) → ((j : ℕ) → index_among (slot_counts xs) next address ≡ Some j → Split xs next address j) → eqb address (header_address at (length x.words)) ≡ b
        → cond b (Some 0) (option_map suc (index_among (slot_counts xs) next address)) ≡ Some k → Split (x ∷ xs) at address k
    go true rec e h = let zero_is : 0 ≡ k = cc in
        along (x ∷ xs) at address 0 k zero_is (split_here x xs at address (same_number address (header_address at (length x.words)) e))
    go false rec e h =
        let s = from_suc xs next address k (index_among (slot_counts xs) next address) h rec in
        along (x ∷ xs) at address (suc s.0) k s.1 (split_next x xs at address s.0 s.2)

pub split_by_index : (xs : List Object) (at address k : ℕ) → address_among (slot_counts xs) at k ≡ Some address → Split xs at address k
unfolding address_among
split_by_index [] at address k h = absurd (cc)
split_by_index (x ∷ xs) at address zero h = let here : header_address at (length x.words) ≡ address = cc in split_here x xs at address (sym here)
split_by_index (x ∷ xs) at address (suc k) h = split_next x xs at address k (split_by_index xs (at + 8 * units (length x.words)) address k h)

-- ---- and back

pub index_split : (before after : List Object) (x : Object) (at address : ℕ) → address ≡ header_address (at + 4 * used before) (length x.words)
    → index_among (slot_counts (before ++ x ∷ after)) at address ≡ Some (length before)
unfolding index_among
index_split [] after x at address h =
    let here : eqb address (header_address at (length x.words)) ≡ true = equal address (header_address at (length x.words)) (omega (arith, h)) in
    rw here refl
  where
    equal : (a b : ℕ) → a ≡ b → eqb a b ≡ true
    equal a b h = grind (arith, nat_tests)
index_split (y ∷ ys) after x at address h =
    let there : address ≡ header_address (at + 8 * units (length y.words) + 4 * used ys) (length x.words) = omega (arith, h, used-cons y ys) in
    let past : header_address at (length y.words) < address = omega (arith, there) in
    let other : eqb address (header_address at (length y.words)) ≡ false = above address (header_address at (length y.words)) past in
    rw other (ap (option_map suc) (index_split ys after x (at + 8 * units (length y.words)) address there))
  where
    above : (a b : ℕ) → b < a → eqb a b ≡ false
    above a b h = grind (arith, nat_tests)

pub address_split : (before after : List Object) (x : Object) (at : ℕ)
    → address_among (slot_counts (before ++ x ∷ after)) at (length before) ≡ Some (header_address (at + 4 * used before) (length x.words))
unfolding address_among
address_split [] after x at = ap Some (omega arith)
address_split (y ∷ ys) after x at =
    address_split ys after x (at + 8 * units (length y.words)) ∙ ap Some (omega (arith, used-cons y ys))

pub address_past : (xs : List Object) (at k : ℕ) → length xs ≤ k → address_among (slot_counts xs) at k ≡ None
unfolding address_among
address_past [] at k h = refl
address_past (x ∷ xs) at zero h = absurd (omega (arith, h))
address_past (x ∷ xs) at (suc k) h = address_past xs (at + 8 * units (length x.words)) k (omega (arith, h))

-- the object of this index has this address, and it has this index
pub record Found (xs : List Object) (address k : ℕ) : Type 0 where
  pub split : Split xs base address k
  pub index_is : object_place xs address ≡ Some k
  pub address_is : address_of xs k ≡ Some address

pub found_is : (xs : List Object) (address k : ℕ) → Split xs base address k → Found xs address k
found_is xs address k s = record {
  split = s;
  index_is = ap (λ (ys : List Object). object_place ys address) s.list ∙ index_split s.before s.after s.x base address s.place ∙ ap Some s.count;
  address_is = ap (address_of xs) (sym s.count) ∙ ap (λ (ys : List Object). address_of ys (length s.before)) s.list
      ∙ address_split s.before s.after s.x base ∙ ap Some (sym s.place);
}

pub found_by_address : (xs : List Object) (address k : ℕ) → object_place xs address ≡ Some k → Found xs address k
found_by_address xs address k h = found_is xs address k (split_by_address xs base address k h)

pub found_by_index : (xs : List Object) (address k : ℕ) → address_of xs k ≡ Some address → Found xs address k
found_by_index xs address k h = found_is xs address k (split_by_index xs base address k h)

-- ---- what is there

slice_get-middle : (before after : List Object) (x : Object) → slice_get (before ++ x ∷ after) (length before) ≡ Some x
slice_get-middle [] after x = refl
slice_get-middle (y ∷ ys) after x = slice_get-middle ys after x

at_index-middle : (before after : List Object) (x : Object) (f : Object → Object) → at_index (length before) f (before ++ x ∷ after) ≡ before ++ f x ∷ after
unfolding at_index
at_index-middle [] after x f = refl
at_index-middle (y ∷ ys) after x f = ap (λ (zs : List Object). y ∷ zs) (at_index-middle ys after x f)

pub object_at-found : (xs : List Object) (address k : ℕ) → (f : Found xs address k) → heap_object xs address ≡ Some f.split.x
object_at-found xs address k f =
    ap (option_and_then (slice_get xs)) f.index_is
    ∙ ap (slice_get xs) (sym f.split.count) ∙ ap (λ (ys : List Object). slice_get ys (length f.split.before)) f.split.list
    ∙ slice_get-middle f.split.before f.split.after f.split.x

pub with_object-found : (xs : List Object) (address k : ℕ) (g : Object → Object) → (f : Found xs address k) → with_object xs address g ≡ f.split.before ++ g f.split.x ∷ f.split.after
with_object-found xs address k g f =
    ap (λ (o : Option ℕ). option_map_or (λ (j : ℕ). at_index j g xs) o xs) f.index_is
    ∙ ap (λ (j : ℕ). at_index j g xs) (sym f.split.count) ∙ ap (at_index (length f.split.before) g) f.split.list
    ∙ at_index-middle f.split.before f.split.after f.split.x g

pub next_of-found : (xs : List Object) (address k : ℕ) → Found xs address k → next_of xs address ≡ address_of xs (k + 1)
next_of-found xs address k f = ap (option_and_then (λ (j : ℕ). address_of xs (j + 1))) f.index_is

-- whatever tells something of an object at an address finds one there
pub has_index : (xs : List Object) (address : ℕ) → is_some (object_place xs address) ≡ true → (k : ℕ) × Found xs address k
has_index xs address h = go (object_place xs address) refl h
  where
    go : (o : Option ℕ) → object_place xs address ≡ o → is_some o ≡ true → (k : ℕ) × Found xs address k
    go None e h = absurd (cc)
    go (Some k) e h = (k, found_by_address xs address k e)

pub has_number : (xs : List Object) (address i : ℕ) (g : Object → ℕ) → i < option_map_or g (heap_object xs address) 0 → (k : ℕ) × Found xs address k
has_number xs address i g h = go (object_place xs address) refl h
  where
    go : (o : Option ℕ) → object_place xs address ≡ o → i < option_map_or g (option_and_then (slice_get xs) o) 0 → (k : ℕ) × Found xs address k
    go None e h = absurd (omega (arith, h))
    go (Some k) e h = (k, found_by_address xs address k e)

-- an object's address is not below the first
pub object_above : (xs : List Object) (address : ℕ) → is_some (object_place xs address) ≡ true → base ≤ address
object_above xs address h = let f = has_index xs address h in omega (arith, f.1.split.place)
