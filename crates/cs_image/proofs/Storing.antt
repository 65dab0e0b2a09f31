-- Storing an object's hash and slots behind all others.
use Rattle.std.proofs.Common.{◌≡◌, ℕ, zero, suc, ◌+◌, ◌<◌, ◌==◌, ◌&&◌, ◌||◌, not, Bool, true, false, inl, inr, List, [], ◌∷◌, ◌++◌, length, map, set, get_or, replicate, refl, ap, sym, ◌∙◌, arith, length-set, nat_cmp}
use Rattle.std.proofs.lemmas.List.{length-replicate, get_or-set_same, get_or-set_other, ext_get_or}
use Rattle.std.proofs.lemmas.Bool.Decides.{eqb_tells}
use Rattle.std.specs.List.{range_with_len}
use Rattle.std.proofs.lemmas.List.FromFn.{get_or-map-range_with_len, length-map-range_with_len}
use Rattle.cs_model.specs.Obj.{context_class}
use Rattle.cs_word.specs.Header.{with_immutable}
use Rattle.cs_model.specs.Words.{plain_format}
use Rattle.cs_model.specs.ImageFile.{FileObject, File}
use Rattle.std.specs.FinSet.{FinSet, contains, contains-empty, empty}
use Rattle.cs_heap.specs.Object.{Memory, is_watched, Object, is_object, new_object, new_slot, next_address, no_flags, slot_count_of, fixed_set, hash_set, slot_set}
use Rattle.cs_heap.proofs.Laws.{give_fixed, give_hash, is_object-new, is_object-with_hash, next_address-new, with_hash-new, with_object-new, with_slot-new, field_of-new}
use Rattle.cs_image.specs.Loading.{values_written, loaded, loaded_word}

pub length-written : (n : ℕ) (value : ℕ → ℕ) (xs : List ℕ) → length (values_written n value xs) ≡ length xs
length-written zero value xs = refl
length-written (suc n) value xs = length-set (values_written n value xs) n (value n) ∙ length-written n value xs

get_or-written : (n : ℕ) (value : ℕ → ℕ) (xs : List ℕ) (k : ℕ) → k < n → k < length xs → get_or (values_written n value xs) k 0 ≡ value k
get_or-written zero value xs k h g = absurd (omega (arith, h))
get_or-written (suc n) value xs k h g = elim (eqb_tells k n) as (λ _. get_or (set (values_written n value xs) n (value n)) k 0 ≡ value k) [
  | inl same ↦
      let inside : n < length (values_written n value xs) = omega (arith, length-written n value xs, same.1, g) in
      ap (λ i. get_or (set (values_written n value xs) n (value n)) i 0) same.1 ∙ get_or-set_same (values_written n value xs) n (value n) 0 inside ∙ ap value (sym same.1)
  | inr other ↦ get_or-set_other (values_written n value xs) n k (value n) 0 other.1 ∙ get_or-written n value xs k (omega (arith, h, other.1)) g
]

-- all are written
pub written_all : (n : ℕ) (value : ℕ → ℕ) (xs : List ℕ) → length xs ≡ n → values_written n value xs ≡ map value (range_with_len 0 n)
written_all n value xs e = ext_get_or 0 (values_written n value xs) (map value (range_with_len 0 n)) (length-written n value xs ∙ e ∙ sym (length-map-range_with_len value 0 n))
    (λ k h. let inside : k < n = omega (arith, h, length-written n value xs, e) in
    get_or-written n value xs k inside (omega (arith, inside, e)) ∙ sym (read k inside))
  where
    read : (k : ℕ) → k < n → get_or (map value (range_with_len 0 n)) k 0 ≡ value k
    read k h = get_or-map-range_with_len value 0 n k k 0 h (omega arith)

-- an object of a file whose first i slots are stored
abbrev pub begun : File → ℕ → FileObject → ℕ → Object
begun f birth o i = record (new_object o.class (plain_format o.format) (length o.words) birth) {
  hash = o.hash;
  flags = with_immutable (o.fixed && not (o.class == context_class)) no_flags;
  words = values_written i (loaded_word f o.format o.words) (replicate (length o.words) (new_slot (plain_format o.format)));
}

pub begun_all : (f : File) (birth : ℕ) (o : FileObject) → begun f birth o (length o.words) ≡ loaded f birth o
begun_all f birth o = ap (λ (ws : List ℕ). record (loaded f birth o) { words = ws })
    (written_all (length o.words) (loaded_word f o.format o.words) (replicate (length o.words) (new_slot (plain_format o.format)))
    (length-replicate (length o.words) (new_slot (plain_format o.format))))

pub length-begun : (f : File) (birth : ℕ) (o : FileObject) (i : ℕ) → length (begun f birth o i).words ≡ length o.words
length-begun f birth o i = length-written i (loaded_word f o.format o.words) (replicate (length o.words) (new_slot (plain_format o.format)))
    ∙ length-replicate (length o.words) (new_slot (plain_format o.format))

-- ---- behind all others

abbrev pub fresh : ℕ → FileObject → Object
fresh birth o = new_object o.class (plain_format o.format) (length o.words) birth

pub fresh_there : (xs : List Object) (birth : ℕ) (o : FileObject) (a : ℕ) → a ≡ next_address xs (length o.words) → is_object (xs ++ fresh birth o ∷ []) a ≡ true
fresh_there xs birth o a at = is_object-new xs (fresh birth o) a (next_address-new xs a o.class (plain_format o.format) (length o.words) birth at)

-- it is there still once it has its hash
pub hashed_there : (xs : List Object) (birth : ℕ) (o : FileObject) (a : ℕ) → a ≡ next_address xs (length o.words)
    → is_object (hash_set (xs ++ fresh birth o ∷ []) a o.hash) a ≡ true
hashed_there xs birth o a at = is_object-with_hash (xs ++ fresh birth o ∷ []) a o.hash a ∙ fresh_there xs birth o a at

pub fresh_begun : (f : File) (xs : List Object) (birth : ℕ) (o : FileObject) (a : ℕ) → a ≡ next_address xs (length o.words)
    → fixed_set (hash_set (xs ++ fresh birth o ∷ []) a o.hash) a (o.fixed && not (o.class == context_class)) ≡ xs ++ begun f birth o 0 ∷ []
fresh_begun f xs birth o a at =
    let here = next_address-new xs a o.class (plain_format o.format) (length o.words) birth at in
    ap (λ (ys : List Object). fixed_set ys a (o.fixed && not (o.class == context_class))) (with_hash-new xs (fresh birth o) a o.hash here)
    ∙ with_object-new xs (give_hash o.hash (fresh birth o)) a (give_fixed (o.fixed && not (o.class == context_class))) here

-- where nothing is watched, a store leaves the memory as clean as it was
pub still_clean : (m : Memory) (a : ℕ) → m.watched ≡ empty → (m.dirty || is_watched m a) ≡ m.dirty
still_clean m a e = ap (λ (watched : FinSet nat_cmp). m.dirty || contains watched a) e ∙ ap (λ b. m.dirty || b) (contains-empty nat_cmp a) ∙ none m.dirty
  where
    none : (b : Bool) → (b || false) ≡ b
    none true = refl
    none false = refl

begun_at : (f : File) (xs : List Object) (birth : ℕ) (o : FileObject) (i a : ℕ) → a ≡ next_address xs (length o.words) → a ≡ next_address xs (length (begun f birth o i).words)
begun_at f xs birth o i a at = at ∙ ap (next_address xs) (sym (length-begun f birth o i))

pub begun_slots : (f : File) (xs : List Object) (birth : ℕ) (o : FileObject) (i a : ℕ) → a ≡ next_address xs (length o.words)
    → slot_count_of (xs ++ begun f birth o i ∷ []) a ≡ length o.words
begun_slots f xs birth o i a at = field_of-new (λ (x : Object). length x.words) xs (begun f birth o i) a (begun_at f xs birth o i a at) ∙ length-begun f birth o i

pub begun_more : (f : File) (xs : List Object) (birth : ℕ) (o : FileObject) (i a : ℕ) → a ≡ next_address xs (length o.words)
    → slot_set (xs ++ begun f birth o i ∷ []) a i (loaded_word f o.format o.words i) ≡ xs ++ begun f birth o (i + 1) ∷ []
begun_more f xs birth o i a at =
    let next : suc i ≡ i + 1 = omega arith in
    with_slot-new xs (begun f birth o i) a i (loaded_word f o.format o.words i) (begun_at f xs birth o i a at)
    ∙ ap (λ n. xs ++ begun f birth o n ∷ []) next
