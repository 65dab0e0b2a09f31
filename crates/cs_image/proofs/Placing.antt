-- Giving addresses to the objects of a file, one after another.
use Rattle.std.proofs.Common.{◌≡◌, ℕ, ◌+◌, ◌*◌, ◌<◌, ◌≤◌, true, false, List, [], ◌∷◌, ◌++◌, length, drop, filter, Some, None, refl, ap, sym, ◌∙◌, arith, slice_get, append_assoc, sum_by, ltb}
use Rattle.std.proofs.lemmas.List.{append-nil}
use Rattle.std.proofs.lemmas.List.Sums.{sum_by-cons}
use Rattle.std.proofs.lemmas.Bool.Decides.{nat_tests}
use Rattle.std.proofs.Math.ListN.{drop_of_length-le}
use Rattle.cs_model.specs.Obj.{words_of_slots}
use Rattle.cs_model.specs.ImageFile.{FileObject, File, is_visible, visible}
use Rattle.cs_model.specs.ImageFault as fault
use Rattle.cs_model.specs.ImageFault.{ImageFault, is_over}
use Rattle.cs_model.specs.Image.{when}
use Rattle.cs_heap.specs.Object.{base, header_address, size}
use Rattle.cs_image.specs.Loading.{addresses_of}
use Rattle.cs_image.proofs.Scanning.{drop_here}

-- the words that the visible ones of these objects take
abbrev pub total : List FileObject → ℕ
total objects = sum_by (λ o. words_of_slots (length o.words)) (filter is_visible objects)

filter_in : (x : FileObject) (xs : List FileObject) → is_visible x ≡ true → filter is_visible (x ∷ xs) ≡ x ∷ filter is_visible xs
filter_in x xs v = rw v refl

pub total_visible : (objects : List FileObject) (k : ℕ) (x : FileObject) → slice_get objects k ≡ Some x → is_visible x ≡ true
    → total (drop k objects) ≡ size (length x.words) + total (drop (k + 1) objects)
total_visible objects k x e v =
    ap total (drop_here objects k x e) ∙ ap (sum_by words) (filter_in x (drop (k + 1) objects) v) ∙ sum_by-cons words x (filter is_visible (drop (k + 1) objects))
  where
    words : FileObject → ℕ
    words o = words_of_slots (length o.words)

pub total_hidden : (objects : List FileObject) (k : ℕ) (x : FileObject) → slice_get objects k ≡ Some x → is_visible x ≡ false
    → total (drop k objects) ≡ total (drop (k + 1) objects)
total_hidden objects k x e v = ap total (drop_here objects k x e) ∙ rw v refl

pub total_end : (objects : List FileObject) (k : ℕ) → length objects ≤ k → total (drop k objects) ≡ 0
total_end objects k h = ap total (drop_of_length-le objects h)

-- what the loop that gives addresses has given so far
pub record IsPlacedTo (objects : List FileObject) (addresses : List ℕ) (used k limit : ℕ) : Type 0 where
  pub given_so : addresses ++ addresses_of (drop k objects) used ≡ addresses_of objects 0
  pub counted : used + total (drop k objects) ≡ total objects
  pub within : used ≤ limit

pub none_placed : (objects : List FileObject) (limit : ℕ) → IsPlacedTo objects [] 0 0 limit
none_placed objects limit = record { given_so = refl; counted = omega arith; within = omega arith }

pub placed_hidden : (objects : List FileObject) (addresses : List ℕ) (used k limit : ℕ) (x : FileObject) → IsPlacedTo objects addresses used k limit
    → slice_get objects k ≡ Some x → is_visible x ≡ false → IsPlacedTo objects (addresses ++ 0 ∷ []) used (k + 1) limit
unfolding addresses_of
placed_hidden objects addresses used k limit x p e v =
    let next : addresses_of (drop k objects) used ≡ 0 ∷ addresses_of (drop (k + 1) objects) used = ap (λ (xs : List FileObject). addresses_of xs used) (drop_here objects k x e) ∙ rw v refl in
    record {
      given_so = append_assoc addresses (0 ∷ []) (addresses_of (drop (k + 1) objects) used) ∙ ap (λ (r : List ℕ). addresses ++ r) (sym next) ∙ p.given_so;
      counted = ap (λ n. used + n) (sym (total_hidden objects k x e v)) ∙ p.counted;
      within = p.within;
    }

pub placed_visible : (objects : List FileObject) (addresses : List ℕ) (used k limit : ℕ) (x : FileObject) → IsPlacedTo objects addresses used k limit
    → slice_get objects k ≡ Some x → is_visible x ≡ true → used + size (length x.words) ≤ limit
    → IsPlacedTo objects (addresses ++ header_address (base + 4 * used) (length x.words) ∷ []) (used + size (length x.words)) (k + 1) limit
unfolding addresses_of
placed_visible objects addresses used k limit x p e v fits =
    let at : ℕ = header_address (base + 4 * used) (length x.words) in
    let next : addresses_of (drop k objects) used ≡ at ∷ addresses_of (drop (k + 1) objects) (used + size (length x.words)) =
    ap (λ (xs : List FileObject). addresses_of xs used) (drop_here objects k x e) ∙ rw v refl in
    let more = total_visible objects k x e v in
    record {
      given_so = append_assoc addresses (at ∷ []) (addresses_of (drop (k + 1) objects) (used + size (length x.words))) ∙ ap (λ (r : List ℕ). addresses ++ r) (sym next) ∙ p.given_so;
      counted = counted_on used (size (length x.words)) (total (drop k objects)) (total (drop (k + 1) objects)) (total objects) more p.counted;
      within = fits;
    }
  where
    counted_on : (a b c d t : ℕ) → c ≡ b + d → a + c ≡ t → a + b + d ≡ t
    counted_on a b c d t h g = omega (arith, h, g)

-- there is no room
pub over : (f : File) (used k limit : ℕ) (x : FileObject) (addresses : List ℕ) → IsPlacedTo f.objects addresses used k limit
    → slice_get f.objects k ≡ Some x → is_visible x ≡ true → limit < used + size (length x.words) → when (is_over f limit) fault.OverLimit ≡ Some fault.OverLimit
unfolding is_over visible
over f used k limit x addresses p e v full =
    let more = total_visible f.objects k x e v in
    let above : limit < total f.objects = above_all used (size (length x.words)) (total (drop k f.objects)) (total (drop (k + 1) f.objects)) (total f.objects) limit more p.counted full in
    let yes_over : ltb limit (total f.objects) ≡ true = grind (arith, nat_tests, above) in
    rw yes_over refl
  where
    above_all : (a b c d t l : ℕ) → c ≡ b + d → a + c ≡ t → l < a + b → l < t
    above_all a b c d t l h g m = omega (arith, h, g, m)

-- all have their addresses
pub all_placed : (f : File) (used k limit : ℕ) (addresses : List ℕ) → IsPlacedTo f.objects addresses used k limit → length f.objects ≤ k
    → (when (is_over f limit) fault.OverLimit ≡ None) × (addresses ≡ addresses_of f.objects 0)
unfolding is_over visible addresses_of
all_placed f used k limit addresses p h =
    let none = total_end f.objects k h in
    let below : total f.objects ≤ limit = omega (arith, p.counted, none, p.within) in
    let fits : ltb limit (total f.objects) ≡ false = grind (arith, nat_tests, below) in
    (rw fits refl, sym (append-nil addresses) ∙ ap (λ (xs : List FileObject). addresses ++ addresses_of xs used) (sym (drop_of_length-le f.objects h)) ∙ p.given_so)
