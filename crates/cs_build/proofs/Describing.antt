-- The objects that the file of some objects describes.
use Rattle.std.proofs.Common.{◌≡◌, ℕ, ◌+◌, ◌≤◌, List, [], ◌∷◌, ◌++◌, length, map, take, drop, refl, ap, sym, ◌∙◌, arith}
use Rattle.std.specs.Prelude.{zip, None}
use Rattle.std.specs.List.{AllByRecursion, range_with_len, enumerate_from}
use Rattle.std.specs.FinMap.{from_entries}
use Rattle.cs_model.specs.Obj.{Obj}
use Rattle.cs_model.specs.Image.{described, object_in}
use Rattle.cs_model.specs.ImageFile.{file_of, File, visible, births_in}
use Rattle.cs_model.specs.SavedFile.{SavedObject, IsSeen, saved_bytes, saved_size, saved_base, placed_from}
use Rattle.cs_model.proofs.SavedFiles.{read_again, seen_again}
use Rattle.cs_build.specs.Laid.{Laid, FitsLayout, laid, laid_slots, laid_size, saved_by, laid_addresses, file_for}
use Rattle.cs_build.specs.Stored.{IsStored}
use Rattle.cs_build.proofs.Putting.{size_cons, length-map}
use Rattle.cs_build.proofs.Filing.{objects_are}
use Rattle.cs_build.proofs.Fitting.{file_fits}
use Rattle.cs_build.proofs.Storing.{objects_back}

zip_count : {A : Type 0} (at : ℕ) (xs : List A) → zip (range_with_len at (length xs)) xs ≡ enumerate_from at xs
zip_count at [] = refl
zip_count at (x ∷ xs) = ap (λ (ps : List _). (at, x) ∷ ps) (zip_count (at + 1) xs)

front_size : (ls : List Laid) → 3 ≤ length ls → AllByRecursion (λ l. laid_slots l ≡ 0) (take 3 ls) → laid_size (take 3 ls) ≤ 34
front_size [] h all = absurd (omega (arith, h))
front_size (a ∷ []) h all = absurd (omega (arith, h))
front_size (a ∷ b ∷ []) h all = absurd (omega (arith, h))
front_size (a ∷ b ∷ c ∷ ls) h all = omega (
  arith,
  size_cons a (b ∷ c ∷ []),
  size_cons b (c ∷ []),
  size_cons c [],
  ap saved_size all.0,
  ap saved_size all.1.0,
  ap saved_size all.1.1.0,
)

births_none : (ls : List Laid) (table : List ℕ) → (file_for ls table).births ≡ None
unfolding file_for
births_none ls table = refl

pub kept_objects : (os : List Obj) (table : List ℕ) → FitsLayout (map laid os) table → AllByRecursion (IsStored (length os)) os
    → AllByRecursion IsSeen (file_for (map laid os) table).objects
    → (described (saved_bytes (file_for (map laid os) table))).objects ≡ from_entries (enumerate_from 0 os)
unfolding described
kept_objects os table fits stored seen =
    let ls : List Laid = map laid os in
    let bytes : List ℕ = saved_bytes (file_for (map laid os) table) in
    let f : File = file_of (saved_bytes (file_for (map laid os) table)) in
    let again = seen_again (file_for (map laid os) table) (file_fits (map laid os) table fits) seen in
    let read = read_again (file_for (map laid os) table) (file_fits (map laid os) table fits) in
    let base : f.base ≡ saved_base = ap (λ (x : File). x.base) again.file in
    let there : visible f ≡ placed_from 0 (take 3 (map (saved_by (laid_addresses (map laid os))) (map laid os))) ++ placed_from 34 (drop 3 (map (saved_by (laid_addresses (map laid os))) (map laid os))) =
    again.visible ∙ ap (λ (xs : List SavedObject). placed_from 0 (take 3 xs) ++ placed_from 34 (drop 3 xs)) (objects_are (map laid os) table) in
    let back : map (object_in f (range_with_len 0 (length os))) (visible f) ≡ os =
    objects_back f os base (front_size (map laid os) (omega (arith, fits.four)) fits.first) stored there in
    let count : length (visible f) ≡ length os = sym (length-map (object_in f (range_with_len 0 (length os))) (visible f)) ∙ ap length back in
    let births : births_in bytes (length (visible f)) ≡ range_with_len 0 (length os) =
    read.by_place (length (visible f)) (births_none (map laid os) table) ∙ ap (range_with_len 0) count in
    ap (λ (bs : List ℕ). from_entries (zip bs (map (object_in f bs) (visible f)))) births
    ∙ ap (λ (xs : List Obj). from_entries (zip (range_with_len 0 (length os)) xs)) back
    ∙ ap from_entries (zip_count 0 os)
