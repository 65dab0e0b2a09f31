-- What a context or a method is read as, while objects are added or others change.
use Rattle.std.proofs.Common.{◌≡◌, ◌≢◌, inl, inr, ℕ, zero, suc, ◌<◌, ◌≤◌, true, List, [], ◌∷◌, length, Option, Some, None, option_and_then, is_some, refl, ap, sym, ◌∙◌, arith}
use Rattle.std.specs.Prelude.{slice_get, slice_index, unwrap_or}
use Rattle.std.specs.Option.{option_map_or}
use Rattle.cs_word.specs.Word.{natural_of_word}
use Rattle.cs_heap.specs.Object.{Object, at_index, birth_at, class_at, part_at, format_at, object_place, is_object, heap_object, slot_count_of, slot_of, with_object}
use Rattle.cs_heap.specs.Format.{is_code}
use Rattle.cs_heap.proofs.Places.{has_number}
use Rattle.cs_heap.proofs.Laws.{KeepsCount, index_of-with_object}
use Rattle.cs_marriage.specs.Agree.{IsContextAt, IsMethodAt, header_at}

-- ---- two changes of one object

at_index_twice : (k : ℕ) (f g : Object → Object) (xs : List Object) → at_index k g (at_index k f xs) ≡ at_index k (λ x. g (f x)) xs
unfolding at_index
at_index_twice k f g [] = refl
at_index_twice zero f g (x ∷ xs) = refl
at_index_twice (suc k) f g (x ∷ xs) = ap (λ (ys : List Object). x ∷ ys) (at_index_twice k f g xs)

pub with_object_twice : (xs : List Object) (a : ℕ) (f g : Object → Object) → KeepsCount f → with_object (with_object xs a f) a g ≡ with_object xs a (λ x. g (f x))
with_object_twice xs a f g keeps =
    ap (λ (o : Option ℕ). option_map_or (λ k. at_index k g (with_object xs a f)) o (with_object xs a f)) (index_of-with_object xs a a f keeps)
    ∙ go (object_place xs a)
  where
    go : (o : Option ℕ)
        → option_map_or (λ k. at_index k g (option_map_or (λ k. at_index k f xs) o xs)) o (option_map_or (λ k. at_index k f xs) o xs)
        ≡ option_map_or (λ k. at_index k (λ x. g (f x)) xs) o xs
    go None = refl
    go (Some k) = at_index_twice k f g xs

-- changes that agree at the object
pub with_object_alike : (xs : List Object) (a : ℕ) (f g : Object → Object) → ((x : Object) → heap_object xs a ≡ Some x → f x ≡ g x)
    → with_object xs a f ≡ with_object xs a g
unfolding at_index
with_object_alike xs a f g h = go (object_place xs a) h
  where
    at : (k : ℕ) (ys : List Object) → ((x : Object) → slice_get ys k ≡ Some x → f x ≡ g x) → at_index k f ys ≡ at_index k g ys
    at k [] h = refl
    at zero (y ∷ ys) h = ap (λ (z : Object). z ∷ ys) (h y refl)
    at (suc k) (y ∷ ys) h = ap (λ (zs : List Object). y ∷ zs) (at k ys h)

    go : (o : Option ℕ) → ((x : Object) → option_and_then (slice_get xs) o ≡ Some x → f x ≡ g x)
        → option_map_or (λ k. at_index k f xs) o xs ≡ option_map_or (λ k. at_index k g xs) o xs
    go None h = refl
    go (Some k) h = at k xs h

-- a change of nothing
pub with_object_none : (xs : List Object) (a : ℕ) (f : Object → Object) → ((x : Object) → f x ≡ x) → with_object xs a f ≡ xs
unfolding at_index
with_object_none xs a f h = go (object_place xs a)
  where
    at : (k : ℕ) (ys : List Object) → at_index k f ys ≡ ys
    at k [] = refl
    at zero (y ∷ ys) = ap (λ (z : Object). z ∷ ys) (h y)
    at (suc k) (y ∷ ys) = ap (λ (zs : List Object). y ∷ zs) (at k ys)

    go : (o : Option ℕ) → option_map_or (λ k. at_index k f xs) o xs ≡ xs
    go None = refl
    go (Some k) = at k xs

-- ---- what has slots is there

pub counted_there : (os : List Object) (a : ℕ) → 0 < slot_count_of os a → is_object os a ≡ true
counted_there os a h = let f = has_number os a 0 (λ (x : Object). length x.words) h in ap is_some f.1.index_is

pub context_long : (os : List Object) (a : ℕ) → IsContextAt os a → 22 ≤ slot_count_of os a
context_long os a at = elim at.slots [
  | inl e ↦ omega (arith, e)
  | inr e ↦ omega (arith, e)
]

pub context_there : (os : List Object) (a : ℕ) → IsContextAt os a → is_object os a ≡ true
context_there os a at = counted_there os a (omega (arith, context_long os a at))

pub method_there : (os : List Object) (a : ℕ) → IsMethodAt os a → is_object os a ≡ true
method_there os a is = counted_there os a is.header

-- a method is no context
pub method_apart : (os : List Object) (m a : ℕ) → IsMethodAt os m → format_at os a ≡ 3 → m ≢ a
method_apart os m a is three e =
    let no : is_code 3 ≡ true = ap is_code (sym three ∙ ap (format_at os) (sym e)) ∙ is.format in absurd (cc)

-- ---- what is read of a method or a context is the same

-- what counts of a method
pub record LikeMethod (os ws : List Object) (m : ℕ) : Type 0 where
  pub format : format_at ws m ≡ format_at os m
  pub count : slot_count_of ws m ≡ slot_count_of os m
  pub header : slot_of ws m 0 ≡ slot_of os m 0

-- what counts of a context that has a frame
pub record LikeContext (os ws : List Object) (a : ℕ) : Type 0 where
  pub class : class_at ws a ≡ class_at os a
  pub format : format_at ws a ≡ format_at os a
  pub birth : birth_at ws a ≡ birth_at os a
  pub count : slot_count_of ws a ≡ slot_count_of os a
  pub place : slot_of ws a 0 ≡ slot_of os a 0
  pub method : slot_of ws a 3 ≡ slot_of os a 3
  pub closure : slot_of ws a 4 ≡ slot_of os a 4
  pub receiver : slot_of ws a 5 ≡ slot_of os a 5

module _ (os ws : List Object) (a : ℕ) (same : heap_object ws a ≡ heap_object os a) where
  pub field_same : (g : Object → ℕ) → part_at g ws a ≡ part_at g os a
  field_same g = ap (λ (o : Option Object). option_map_or g o 0) same

  pub method_like : LikeMethod os ws a
  method_like = record {
    format = field_same (λ x. x.format);
    count = field_same (λ x. length x.words);
    header = field_same (λ x. slice_index x.words 0);
  }

  pub context_like : LikeContext os ws a
  context_like = record {
    class = field_same (λ x. x.class);
    format = field_same (λ x. x.format);
    birth = field_same (λ x. x.birth);
    count = field_same (λ x. length x.words);
    place = field_same (λ x. slice_index x.words 0);
    method = field_same (λ x. slice_index x.words 3);
    closure = field_same (λ x. slice_index x.words 4);
    receiver = field_same (λ x. slice_index x.words 5);
  }

pub context_same : (os ws : List Object) (a : ℕ) → LikeContext os ws a → IsContextAt os a → IsContextAt ws a
context_same os ws a like at = record {
  class = like.class ∙ at.class;
  format = like.format ∙ at.format;
  slots = elim at.slots [
    | inl e ↦ inl (like.count ∙ e)
    | inr e ↦ inr (like.count ∙ e)
  ];
}

pub method_same : (os ws : List Object) (m : ℕ) → LikeMethod os ws m → IsMethodAt os m → IsMethodAt ws m
method_same os ws m like is = record {
  format = ap is_code like.format ∙ is.format;
  header = omega (arith, like.count, is.header);
}

pub header_same : (os ws : List Object) (m : ℕ) → LikeMethod os ws m → header_at ws m ≡ header_at os m
header_same os ws m like = ap (λ n. unwrap_or (natural_of_word n) 0) like.header
