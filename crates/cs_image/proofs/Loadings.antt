-- Loading the visible objects of a file, one after another.
use Rattle.std.proofs.Common.{◌≡◌, ℕ, suc, ◌+◌, ◌<◌, ◌≤◌, true, false, List, [], ◌∷◌, ◌++◌, length, drop, filter, Some, refl, ap, sym, ◌∙◌, arith, slice_get, slice_index, append_assoc, ltb}
use Rattle.std.proofs.lemmas.List.{append-nil}
use Rattle.std.proofs.lemmas.List.FromFn.{length-map-range_with_len}
use Rattle.std.proofs.lemmas.Bool.Decides.{nat_tests}
use Rattle.std.proofs.Math.ListN.{drop_of_length-le}
use Rattle.cs_model.specs.ImageFile.{FileObject, File, is_visible, visible}
use Rattle.cs_model.specs.ImageFault.{is_over}
use Rattle.cs_heap.specs.Object.{Object, size, used}
use Rattle.cs_heap.proofs.Laws.{used-pushed}
use Rattle.cs_image.specs.Loading.{loaded, loaded_from, loaded_word}
use Rattle.cs_image.proofs.Scanning.{drop_here}
use Rattle.cs_image.proofs.Placing.{total, total_visible, total_hidden}

-- what the loop that loads has loaded so far
pub record IsLoadedTo (births : List ℕ) (f : File) (objects : List Object) (count k : ℕ) : Type 0 where
  pub given_so : objects ++ loaded_from f births count (filter is_visible (drop k f.objects)) ≡ loaded_from f births 0 (visible f)
  pub counted : used objects + total (drop k f.objects) ≡ total f.objects
  pub few : count ≤ k
  pub next : count + length (filter is_visible (drop k f.objects)) ≡ length (visible f)

pub none_loaded : (births : List ℕ) (f : File) → IsLoadedTo births f [] 0 0
unfolding visible
none_loaded births f = record { given_so = refl; counted = omega arith; few = omega arith; next = omega arith }

pub length-loaded : (f : File) (birth : ℕ) (o : FileObject) → length (loaded f birth o).words ≡ length o.words
length-loaded f birth o = length-map-range_with_len (loaded_word f o.format o.words) 0 (length o.words)

pub loaded_hidden : (births : List ℕ) (f : File) (objects : List Object) (count k : ℕ) (x : FileObject) → IsLoadedTo births f objects count k
    → slice_get f.objects k ≡ Some x → is_visible x ≡ false → IsLoadedTo births f objects count (k + 1)
loaded_hidden births f objects count k x p e v = record {
  given_so = ap (λ (xs : List FileObject). objects ++ loaded_from f births count xs) (sym next) ∙ p.given_so;
  counted = ap (λ n. used objects + n) (sym (total_hidden f.objects k x e v)) ∙ p.counted;
  few = omega (arith, p.few);
  next = ap (λ (xs : List FileObject). count + length xs) (sym next) ∙ p.next;
}
  where
    next : filter is_visible (drop k f.objects) ≡ filter is_visible (drop (k + 1) f.objects)
    next = ap (filter is_visible) (drop_here f.objects k x e) ∙ rw v refl

pub loaded_visible : (births : List ℕ) (f : File) (objects : List Object) (count k : ℕ) (x : FileObject) → IsLoadedTo births f objects count k
    → slice_get f.objects k ≡ Some x → is_visible x ≡ true → IsLoadedTo births f (objects ++ loaded f (slice_index births count) x ∷ []) (count + 1) (k + 1)
loaded_visible births f objects count k x p e v = record {
  given_so = append_assoc objects (loaded f (slice_index births count) x ∷ []) (loaded_from f births (count + 1) (filter is_visible (drop (k + 1) f.objects)))
      ∙ ap (λ (xs : List FileObject). objects ++ loaded_from f births count xs) (sym next) ∙ p.given_so;
  counted = counted_on (used objects) (size (length x.words)) (total (drop k f.objects)) (total (drop (k + 1) f.objects)) (total f.objects)
      (used (objects ++ loaded f (slice_index births count) x ∷ [])) (total_visible f.objects k x e v) p.counted
      (used-pushed objects (loaded f (slice_index births count) x) ∙ ap (λ n. used objects + size n) (length-loaded f (slice_index births count) x));
  few = omega (arith, p.few);
  next = let one : length (filter is_visible (drop k f.objects)) ≡ suc (length (filter is_visible (drop (k + 1) f.objects))) = ap length next in omega (arith, p.next, one);
}
  where
    next : filter is_visible (drop k f.objects) ≡ x ∷ filter is_visible (drop (k + 1) f.objects)
    next = ap (filter is_visible) (drop_here f.objects k x e) ∙ rw v refl

    counted_on : (a b c d t u : ℕ) → c ≡ b + d → a + c ≡ t → u ≡ a + b → u + d ≡ t
    counted_on a b c d t u h g m = omega (arith, h, g, m)

-- there is room for the next one
pub room_left : (births : List ℕ) (f : File) (objects : List Object) (count k limit : ℕ) (x : FileObject) → IsLoadedTo births f objects count k
    → slice_get f.objects k ≡ Some x → is_visible x ≡ true → is_over f limit ≡ false → used objects + size (length x.words) ≤ limit
unfolding is_over visible
room_left births f objects count k limit x p e v over =
    fits (used objects) (size (length x.words)) (total (drop k f.objects)) (total (drop (k + 1) f.objects)) (total f.objects) limit
    (total_visible f.objects k x e v) p.counted (below (total f.objects) over)
  where
    below : (t : ℕ) → ltb limit t ≡ false → t ≤ limit
    below t h = grind (arith, nat_tests, h)

    fits : (a b c d t l : ℕ) → c ≡ b + d → a + c ≡ t → t ≤ l → a + b ≤ l
    fits a b c d t l h g m = omega (arith, h, g, m)

pub all_loaded : (births : List ℕ) (f : File) (objects : List Object) (count k : ℕ) → IsLoadedTo births f objects count k → length f.objects ≤ k → objects ≡ loaded_from f births 0 (visible f)
all_loaded births f objects count k p h =
    sym (append-nil objects) ∙ ap (λ (xs : List FileObject). objects ++ loaded_from f births count (filter is_visible xs)) (sym (drop_of_length-le f.objects h)) ∙ p.given_so

pub next_loaded : (births : List ℕ) (f : File) (objects : List Object) (count k : ℕ) → IsLoadedTo births f objects count k → length f.objects ≤ k → count ≡ length (visible f)
next_loaded births f objects count k p h =
    let none : length (filter is_visible (drop k f.objects)) ≡ 0 = ap (λ (xs : List FileObject). length (filter is_visible xs)) (drop_of_length-le f.objects h) in
    omega (arith, p.next, none)

-- a visible object has a birth
pub birth_left : (births : List ℕ) (f : File) (objects : List Object) (count k : ℕ) (x : FileObject) → IsLoadedTo births f objects count k
    → slice_get f.objects k ≡ Some x → is_visible x ≡ true → count < length (visible f)
birth_left births f objects count k x p e v =
    let next : filter is_visible (drop k f.objects) ≡ x ∷ filter is_visible (drop (k + 1) f.objects) = ap (filter is_visible) (drop_here f.objects k x e) ∙ rw v refl in
    let one = ap length next in
    omega (arith, p.next, one)

-- how many visible objects are left
pub next_counted : (objects : List FileObject) (k : ℕ) (x : FileObject) → slice_get objects k ≡ Some x → is_visible x ≡ true
    → length (filter is_visible (drop k objects)) ≡ suc (length (filter is_visible (drop (k + 1) objects)))
next_counted objects k x e v = ap (λ (xs : List FileObject). length (filter is_visible xs)) (drop_here objects k x e) ∙ rw v refl

pub next_hidden : (objects : List FileObject) (k : ℕ) (x : FileObject) → slice_get objects k ≡ Some x → is_visible x ≡ false
    → length (filter is_visible (drop k objects)) ≡ length (filter is_visible (drop (k + 1) objects))
next_hidden objects k x e v = ap (λ (xs : List FileObject). length (filter is_visible xs)) (drop_here objects k x e) ∙ rw v refl
