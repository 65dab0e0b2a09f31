-- The list of a heap's objects when one of them changes, or one more comes.
use Rattle.std.proofs.Common.{◌≡◌, ◌≢◌, ℕ, zero, suc, ◌⊎◌, inl, inr, ◌<◌, true, List, [], ◌∷◌, ◌++◌, length, Option, Some, None, option_map, option_and_then, is_some, refl, ap, ◌∙◌, arith}
use Rattle.std.specs.Prelude.{slice_get}
use Rattle.std.specs.Option.{option_map_or}
use Rattle.std.proofs.lemmas.List.{length-set}
use Rattle.cs_heap.specs.Object.{Object, at_index, birth_at, object_place, is_object, heap_object, set_word, with_object}
use Rattle.cs_heap.proofs.Laws.{field_of-old, field_of-with_object_kept, index_of-with_object, object_at-old}
use Rattle.cs_heap.proofs.Places.{has_index, object_at-found}

-- an edit that keeps what an object is known by: how many slots it has, its birth, its class and its format
pub record IsEdit (f : Object → Object) : Type 0 where
  pub slots : (x : Object) → length (f x).words ≡ length x.words
  pub birth : (x : Object) → (f x).birth ≡ x.birth
  pub class : (x : Object) → (f x).class ≡ x.class
  pub format : (x : Object) → (f x).format ≡ x.format

pub set_word-IsEdit : (i v : ℕ) → IsEdit (set_word i v)
set_word-IsEdit i v = record { slots = λ (x : Object). length-set x.words i v; birth = λ (x : Object). refl; class = λ (x : Object). refl; format = λ (x : Object). refl }

-- ---- what is at an address

pub record Stands (os : List Object) (a : ℕ) (x : Object) (k : ℕ) : Type 0 where
  pub index : object_place os a ≡ Some k
  pub element : slice_get os k ≡ Some x

pub stands : (os : List Object) (a : ℕ) (x : Object) → heap_object os a ≡ Some x → (k : ℕ) × Stands os a x k
stands os a x h = go (object_place os a) refl h
  where
    go : (o : Option ℕ) → object_place os a ≡ o → option_and_then (slice_get os) o ≡ Some x → (k : ℕ) × Stands os a x k
    go None e h = absurd (cc)
    go (Some k) e h = (k, record { index = e; element = h })

pub is_object-object_at : (os : List Object) (a : ℕ) (x : Object) → heap_object os a ≡ Some x → is_object os a ≡ true
is_object-object_at os a x h = ap is_some (stands os a x h).1.index

pub birth_of-object_at : (os : List Object) (a : ℕ) (x : Object) → heap_object os a ≡ Some x → birth_at os a ≡ x.birth
birth_of-object_at os a x h = ap (λ (o : Option Object). option_map_or (λ (y : Object). y.birth) o 0) h

pub object_there : (os : List Object) (a : ℕ) → is_object os a ≡ true → (x : Object) × (heap_object os a ≡ Some x)
object_there os a h = let f = has_index os a h in (f.1.split.x, object_at-found os a f.0 f.1)

pub element_within : {X : Type 0} (xs : List X) (k : ℕ) → k < length xs → (x : X) × (slice_get xs k ≡ Some x)
element_within [] k h = absurd (omega (arith, h))
element_within (x ∷ xs) zero h = (x, refl)
element_within (x ∷ xs) (suc k) h = element_within xs k (omega (arith, h))

-- ---- one object changes

pub slice_get-at_index_same : (k : ℕ) (f : Object → Object) (xs : List Object) → slice_get (at_index k f xs) k ≡ option_map f (slice_get xs k)
unfolding at_index
slice_get-at_index_same k f [] = refl
slice_get-at_index_same zero f (x ∷ xs) = refl
slice_get-at_index_same (suc k) f (x ∷ xs) = slice_get-at_index_same k f xs

pub slice_get-at_index_other : (k j : ℕ) (f : Object → Object) (xs : List Object) → k ≢ j → slice_get (at_index k f xs) j ≡ slice_get xs j
unfolding at_index
slice_get-at_index_other k j f [] h = refl
slice_get-at_index_other zero zero f (x ∷ xs) h = absurd (h refl)
slice_get-at_index_other zero (suc j) f (x ∷ xs) h = refl
slice_get-at_index_other (suc k) zero f (x ∷ xs) h = refl
slice_get-at_index_other (suc k) (suc j) f (x ∷ xs) h = slice_get-at_index_other k j f xs (λ e. h (ap suc e))

-- the objects with the k-th changed, where that is the one at the address
pub with_object-stands : (os : List Object) (a : ℕ) (x : Object) (k : ℕ) (f : Object → Object) → Stands os a x k → with_object os a f ≡ at_index k f os
with_object-stands os a x k f s = ap (λ (o : Option ℕ). option_map_or (λ (j : ℕ). at_index j f os) o os) s.index

-- one change after another is one change
pub with_object-twice : (os : List Object) (a : ℕ) (f g : Object → Object) → IsEdit f → with_object (with_object os a f) a g ≡ with_object os a (λ x. g (f x))
unfolding at_index
with_object-twice os a f g edit =
    ap (λ (o : Option ℕ). option_map_or (λ (k : ℕ). at_index k g (with_object os a f)) o (with_object os a f)) (index_of-with_object os a a f edit.slots) ∙ go (object_place os a)
  where
    twice : (k : ℕ) (xs : List Object) → at_index k g (at_index k f xs) ≡ at_index k (λ x. g (f x)) xs
    twice k [] = refl
    twice zero (x ∷ xs) = refl
    twice (suc k) (x ∷ xs) = ap (λ (ys : List Object). x ∷ ys) (twice k xs)

    go : (o : Option ℕ) → option_map_or (λ (k : ℕ). at_index k g (option_map_or (λ (j : ℕ). at_index j f os) o os)) o (option_map_or (λ (j : ℕ). at_index j f os) o os)
        ≡ option_map_or (λ (k : ℕ). at_index k (λ x. g (f x)) os) o os
    go None = refl
    go (Some k) = twice k os

-- births stay, of the object at an address and of the k-th
pub birth_of-with_object : (os : List Object) (a b : ℕ) (f : Object → Object) → IsEdit f → birth_at (with_object os a f) b ≡ birth_at os b
birth_of-with_object os a b f edit = field_of-with_object_kept (λ (x : Object). x.birth) os a b f edit.slots edit.birth

pub birth_at-with_object : (os : List Object) (a j : ℕ) (f : Object → Object) → IsEdit f
    → option_map_or (λ (y : Object). y.birth) (slice_get (with_object os a f) j) 0 ≡ option_map_or (λ (y : Object). y.birth) (slice_get os j) 0
unfolding at_index
birth_at-with_object os a j f edit = go (object_place os a)
  where
    at : (k j : ℕ) (xs : List Object) → option_map_or (λ (y : Object). y.birth) (slice_get (at_index k f xs) j) 0 ≡ option_map_or (λ (y : Object). y.birth) (slice_get xs j) 0
    at k j [] = refl
    at zero zero (x ∷ xs) = edit.birth x
    at zero (suc j) (x ∷ xs) = refl
    at (suc k) zero (x ∷ xs) = refl
    at (suc k) (suc j) (x ∷ xs) = at k j xs

    go : (o : Option ℕ) → option_map_or (λ (y : Object). y.birth) (slice_get (option_map_or (λ (k : ℕ). at_index k f os) o os) j) 0 ≡ option_map_or (λ (y : Object). y.birth) (slice_get os j) 0
    go None = refl
    go (Some k) = at k j os

-- ---- one object more

pub object_at-push : (os : List Object) (y : Object) (a : ℕ) (x : Object) → heap_object os a ≡ Some x → heap_object (os ++ y ∷ []) a ≡ Some x
object_at-push os y a x h = object_at-old os y a (is_object-object_at os a x h) ∙ h

pub birth_of-push : (os : List Object) (y : Object) (a : ℕ) → is_object os a ≡ true → birth_at (os ++ y ∷ []) a ≡ birth_at os a
birth_of-push os y a h = field_of-old (λ (x : Object). x.birth) os y a h

-- an element is one of those that were there, or the new one
pub slice_get-push : {X : Type 0} (xs : List X) (y : X) (k : ℕ) (x : X) → slice_get (xs ++ y ∷ []) k ≡ Some x → (slice_get xs k ≡ Some x) ⊎ ((k ≡ length xs) × (y ≡ x))
slice_get-push [] y zero x h = let is : y ≡ x = cc in inr (refl, is)
slice_get-push [] y (suc k) x h = absurd (cc)
slice_get-push (z ∷ xs) y zero x h = inl h
slice_get-push (z ∷ xs) y (suc k) x h = elim (slice_get-push xs y k x h) [ inl e ↦ inl e | inr e ↦ inr (ap suc e.0, e.1) ]
