-- The bytes of an object, portion by portion.
use Rattle.std.proofs.Common.{◌≡◌, ℕ, suc, ◌+◌, ◌-◌, ◌*◌, ◌/◌, ◌%◌, ◌<◌, ◌≤◌, refl, sym, ap, subst, ◌∙◌, arith, Option, Some, None, List, [], ◌∷◌, ◌++◌, length, take, drop, get_or, take-suc, take-take, get_or-drop, length-take, length-drop, Result, Ok, Err, OnErr}
use Rattle.std.specs.Option.{option_map_or}
use Rattle.std.specs.Prelude.{slice_index}
use Rattle.std.proofs.Math.Seq.{take-add}
use Rattle.cs_model.specs.Words.{byte_in, bytes_of_words, unused_bytes}
use Rattle.cs_heap.specs.Object.{Object, byte_of, format_at, heap_object, slot_count_of}
use Rattle.cs_classes.specs.Meaning.{used_bytes}
use Rattle.cs_shelf.specs.Outside.{Appends, AppendsPart}
use Rattle.cs_shelf.proofs.Appending.{appends_then}
use Rattle.cs_acts.proofs.Methods.{get_or-bytes_of, length-bytes_of}
use Rattle.cs_core.specs.Pieces.{all_bytes_at, bytes_at}

-- the used bytes are the first of all
pub used_first : (os : List Object) (a : ℕ) → bytes_at os a ≡ take (4 * slot_count_of os a - unused_bytes (format_at os a)) (all_bytes_at os a)
used_first os a = go (heap_object os a)
  where
    go : (o : Option Object) → option_map_or (λ (x : Object). used_bytes x.format x.words) o []
        ≡ take (4 * option_map_or (λ (x : Object). length x.words) o 0 - unused_bytes (option_map_or (λ (x : Object). x.format) o 0)) (option_map_or (λ (x : Object). bytes_of_words x.words) o [])
    go None = refl
    go (Some x) = refl

length-all : (os : List Object) (a : ℕ) → length (all_bytes_at os a) ≡ 4 * slot_count_of os a
length-all os a = go (heap_object os a)
  where
    go : (o : Option Object) → length (option_map_or (λ (x : Object). bytes_of_words x.words) o []) ≡ 4 * option_map_or (λ (x : Object). length x.words) o 0
    go None = refl
    go (Some x) = length-bytes_of x.words

byte_is : (os : List Object) (a i : ℕ) → i < 4 * slot_count_of os a → get_or (all_bytes_at os a) i 0 ≡ byte_of os a i
byte_is os a i h = go (heap_object os a) h
  where
    go : (o : Option Object) → i < 4 * option_map_or (λ (x : Object). length x.words) o 0
        → get_or (option_map_or (λ (x : Object). bytes_of_words x.words) o []) i 0 ≡ byte_in (option_map_or (λ (x : Object). slice_index x.words (i / 4)) o 0) (i % 4)
    go None h = absurd (omega (arith, h))
    go (Some x) h = get_or-bytes_of x.words i h

-- one byte more
pub more_bytes : (os : List Object) (a at i b : ℕ) (bytes : List ℕ) → at ≤ i → i < 4 * slot_count_of os a → b ≡ byte_of os a i → bytes ≡ take (i - at) (drop at (all_bytes_at os a))
    → bytes ++ b ∷ [] ≡ take (i + 1 - at) (drop at (all_bytes_at os a))
more_bytes os a at i b bytes begun within is before =
    let all : List ℕ = all_bytes_at os a in
    let there : i - at < length (drop at all) = omega (arith, begun, within, length-all os a, length-drop at all) in
    let byte : get_or (drop at all) (i - at) 0 ≡ b = get_or-drop at all (i - at) 0 ∙ ap (λ n. get_or all n 0) (omega (arith, begun)) ∙ byte_is os a i within ∙ sym is in
    let next : i + 1 - at ≡ suc (i - at) = omega (arith, begun) in
    ap (λ bs. bs ++ b ∷ []) before ∙ ap (λ c. take (i - at) (drop at all) ++ c ∷ []) (sym byte) ∙ sym (take-suc (drop at all) (i - at) 0 there) ∙ sym (ap (λ n. take n (drop at all)) next)

-- a portion was taken
pub taken_more : (old mid new : Option (List ℕ)) (all piece : List ℕ) (at n : ℕ) → Appends old mid (take at all) → piece ≡ take n (drop at all) → Appends mid new piece → Appends old new (take (at + n) all)
taken_more old mid new all piece at n before is now = rw take-add (appends_then old mid new (take at all) (take n (drop at all)) before (subst (Appends mid new) is now))

-- the first bytes of one were
pub taken_part : (old mid new : Option (List ℕ)) (all piece : List ℕ) (at n end : ℕ) → Appends old mid (take at all) → piece ≡ take n (drop at all) → at + n ≤ end → AppendsPart mid new piece → AppendsPart old new (take end all)
taken_part old mid new all piece at n end before is within part =
    let m : ℕ = part.0 in
    let size : length piece ≡ length (take n (drop at all)) = ap length is in
    let less : m < n = omega (arith, part.1, size, length-take n (drop at all)) in
    let first : take m piece ≡ take m (drop at all) = ap (take m) is ∙ take-take m n (drop at all) (omega (arith, less)) in
    let whole : take (at + m) (take end all) ≡ take (at + m) all = take-take (at + m) end all (omega (arith, less, within)) in (
      at + m,
      omega (arith, part.1, size, less, within, length-take n (drop at all), length-drop at all, length-take end all),
      subst (Appends old new) (sym whole) (taken_more old mid new all (take m piece) at m before first part.2),
    )

pub on_err : {T E : Type 0} (r : Result T E) (P : Type 0) → P → OnErr r P
on_err (Ok x) P p = tt
on_err (Err e) P p = p
