-- What the words of a file name in memory.
use Rattle.std.proofs.Common.{◌≡◌, ℕ, zero, suc, ◌+◌, ◌*◌, ◌<◌, ◌==◌, Bool, true, false, cond, List, [], ◌∷◌, length, map, filter, Option, Some, None, refl, ap, sym, ◌∙◌, arith, slice_get, slice_index, option_map, is_some}
use Rattle.std.specs.Option.{option_map_or}
use Rattle.std.specs.List.{find, zip}
use Rattle.cs_model.specs.ImageFile.{FileObject, File, is_visible, visible, named, address_in}
use Rattle.cs_model.specs.Image.{birth_in}
use Rattle.cs_heap.specs.Object.{Object, address_among, address_of, base, birth_at, header_address, is_object, size, slot_counts, units}
use Rattle.cs_heap.proofs.Laws.{index_of-address, object_at-address}
use Rattle.cs_image.specs.Loading.{number_that, addresses_of, address_named, loaded, loaded_from}
use Rattle.cs_image.proofs.Loadings.{length-loaded}

-- ---- the loaded objects by index

pub slice_get-loaded_from : (births : List ℕ) (f : File) (k : ℕ) (os : List FileObject) (j : ℕ)
    → slice_get (loaded_from f births k os) j ≡ option_map (λ o. loaded f (slice_index births (k + j)) o) (slice_get os j)
slice_get-loaded_from births f k [] j = refl
slice_get-loaded_from births f k (o ∷ os) zero =
    let same : k ≡ k + 0 = omega arith in
    ap (λ n. Some (loaded f (slice_index births n) o)) same
slice_get-loaded_from births f k (o ∷ os) (suc j) =
    let same : k + 1 + j ≡ k + suc j = omega arith in
    slice_get-loaded_from births f (k + 1) os j ∙ ap (λ n. option_map (λ o. loaded f (slice_index births n) o) (slice_get os j)) same

pub slot_counts-loaded_from : (births : List ℕ) (f : File) (b : ℕ) (os : List FileObject) → slot_counts (loaded_from f births b os) ≡ map (λ o. length o.words) os
slot_counts-loaded_from births f b [] = refl
slot_counts-loaded_from births f b (o ∷ os) = ap (λ n. n ∷ slot_counts (loaded_from f births (b + 1) os)) (length-loaded f (slice_index births b) o)
    ∙ ap (λ (ns : List ℕ). length o.words ∷ ns) (slot_counts-loaded_from births f (b + 1) os)

pub length-loaded_from : (births : List ℕ) (f : File) (b : ℕ) (os : List FileObject) → length (loaded_from f births b os) ≡ length os
length-loaded_from births f b [] = refl
length-loaded_from births f b (o ∷ os) = ap suc (length-loaded_from births f (b + 1) os)

-- ---- the address of what a word names

-- it is that of the j-th visible object
pub record Placed (p : FileObject → Bool) (os : List FileObject) (used : ℕ) : Type 0 where
  j : ℕ
  number : number_that p (filter is_visible os) ≡ Some j
  at : address_among (map (λ o. length o.words) (filter is_visible os)) (base + 4 * used) j ≡ Some (option_map_or (λ k. slice_index (addresses_of os used) k) (number_that p os) 0)

shifted : (value : ℕ) (values : List ℕ) (r : Option ℕ) → is_some r ≡ true → option_map_or (λ k. slice_index (value ∷ values) k) (option_map suc r) 0 ≡ option_map_or (λ k. slice_index values k) r 0
shifted value values None h = absurd (cc)
shifted value values (Some k) h = refl

lift : (r : Option ℕ) → is_some r ≡ true → is_some (option_map suc r) ≡ true
lift None h = absurd (cc)
lift (Some k) h = refl

found_some : (p : FileObject → Bool) (os : List FileObject) (x : FileObject) → find p os ≡ Some x → is_some (number_that p os) ≡ true
found_some p [] x e = absurd (cc)
found_some p (o ∷ os) x e = go (p o) (found_some p os x) e
  where
    go : (b : Bool) → (find p os ≡ Some x → is_some (number_that p os) ≡ true) → cond b (Some o) (find p os) ≡ Some x → is_some (cond b (Some 0) (option_map suc (number_that p os))) ≡ true
    go true later e = refl
    go false later e = lift (number_that p os) (later e)

pub place_named : (p : FileObject → Bool) (os : List FileObject) (used : ℕ) (x : FileObject) → find p os ≡ Some x → is_visible x ≡ true → Placed p os used
unfolding address_among addresses_of
place_named p [] used x e v = absurd (cc)
place_named p (o ∷ os) used x e v = go (p o) (is_visible o) refl refl (place_named p os (used + size (length o.words)) x) (place_named p os used x) (found_some p os x) e
  where
    counts : List ℕ
    counts = map (λ o. length o.words) (filter is_visible os)

    here : ℕ
    here = header_address (base + 4 * used) (length o.words)

    go : (b w : Bool) → p o ≡ b → is_visible o ≡ w
        → (find p os ≡ Some x → is_visible x ≡ true → Placed p os (used + size (length o.words)))
        → (find p os ≡ Some x → is_visible x ≡ true → Placed p os used)
        → (find p os ≡ Some x → is_some (number_that p os) ≡ true)
        → cond b (Some o) (find p os) ≡ Some x → Placed p (o ∷ os) used
    go true true pb vb later later_hidden some e = record { j = 0; number = rw (vb, pb) refl; at = rw (vb, pb) refl }
    go true false pb vb later later_hidden some e = let same : o ≡ x = cc in absurd (cc (sym vb ∙ ap is_visible same ∙ v))
    go false true pb vb later later_hidden some e =
        let r = later e v in
        let next : base + 4 * (used + size (length o.words)) ≡ base + 4 * used + 8 * units (length o.words) = omega arith in
        record {
          j = suc r.j;
          number = rw (vb, pb) (ap (option_map suc) r.number);
          at = rw (vb, pb) (ap (λ n. address_among counts n r.j) (sym next) ∙ r.at
              ∙ ap Some (sym (shifted here (addresses_of os (used + size (length o.words))) (number_that p os) (some e))));
        }
    go false false pb vb later later_hidden some e =
        let r = later_hidden e v in
        record {
          j = r.j;
          number = rw vb r.number;
          at = rw (vb, pb) (r.at ∙ ap Some (sym (shifted 0 (addresses_of os used) (number_that p os) (some e))));
        }

-- a word names a visible object, which is the j-th in memory
pub record Stands (births : List ℕ) (f : File) (word : ℕ) : Type 0 where
  pub j : ℕ
  pub number : number_that (λ o. address_in f o == word) (visible f) ≡ Some j
  pub at : address_of (loaded_from f births 0 (visible f)) j ≡ Some (address_named f word)

pub stands_named : (births : List ℕ) (f : File) (word : ℕ) (x : FileObject) → named f word ≡ Some x → is_visible x ≡ true → Stands births f word
unfolding named visible address_named
stands_named births f word x e v =
    let r = place_named (λ o. address_in f o == word) f.objects 0 x e v in
    let first : base + 4 * 0 ≡ base = omega arith in
    record {
      j = r.j;
      number = r.number;
      at = ap (λ (ns : List ℕ). address_among ns base r.j) (slot_counts-loaded_from births f 0 (filter is_visible f.objects))
          ∙ ap (λ n. address_among (map (λ o. length o.words) (filter is_visible f.objects)) n r.j) (sym first) ∙ r.at;
    }

pub stands_there : (births : List ℕ) (f : File) (word : ℕ) → Stands births f word → is_object (loaded_from f births 0 (visible f)) (address_named f word) ≡ true
stands_there births f word s = ap is_some (index_of-address (loaded_from f births 0 (visible f)) (address_named f word) s.j s.at)

number_below : {X : Type 0} (p : X → Bool) (xs : List X) (j : ℕ) → number_that p xs ≡ Some j → j < length xs
number_below p [] j e = absurd (cc)
number_below p (x ∷ xs) j e = go (p x) (number_that p xs) (number_below p xs) e
  where
    go : (b : Bool) (r : Option ℕ) → ((i : ℕ) → r ≡ Some i → i < length xs) → cond b (Some 0) (option_map suc r) ≡ Some j → j < suc (length xs)
    go true r below e = let zero_it : 0 ≡ j = cc in omega (arith, zero_it)
    go false None below e = absurd (cc)
    go false (Some i) below e = let more : suc i ≡ j = cc in omega (arith, more, below i refl)

-- its birth in memory is that of its number
pub birth_is_place : (births : List ℕ) (f : File) (os : List FileObject) (j : ℕ) → j < length os
    → option_map_or (λ x. x.birth) (slice_get (loaded_from f births 0 os) j) 0 ≡ slice_index births j
birth_is_place births f os j h =
    ap (λ (o : Option Object). option_map_or (λ x. x.birth) o 0) (slice_get-loaded_from births f 0 os j) ∙ go (slice_get os j) (slice_get-some os j h)
  where
    slice_get-some : (os : List FileObject) (j : ℕ) → j < length os → is_some (slice_get os j) ≡ true
    slice_get-some [] j h = absurd (omega (arith, h))
    slice_get-some (o ∷ os) zero h = refl
    slice_get-some (o ∷ os) (suc j) h = slice_get-some os j (omega (arith, h))

    go : (r : Option FileObject) → is_some r ≡ true
        → option_map_or (λ x. x.birth) (option_map (λ o. loaded f (slice_index births (0 + j)) o) r) 0 ≡ slice_index births j
    go None h = absurd (cc)
    go (Some o) h = let same : 0 + j ≡ j = omega arith in ap (slice_index births) same

pub birth_of-stands : (births : List ℕ) (f : File) (word : ℕ) (s : Stands births f word)
    → birth_at (loaded_from f births 0 (visible f)) (address_named f word) ≡ slice_index births s.j
birth_of-stands births f word s =
    ap (λ (o : Option Object). option_map_or (λ x. x.birth) o 0) (object_at-address (loaded_from f births 0 (visible f)) (address_named f word) s.j s.at)
    ∙ birth_is_place births f (visible f) s.j (number_below (λ o. address_in f o == word) (visible f) s.j s.number)

-- of what births are given with, the first that passes has the birth of its number, and where none passes or none is given, 0
find-zip : (p : FileObject → Bool) (births : List ℕ) (xs : List FileObject)
    → option_map_or (λ e. e.0) (find (λ e. p e.1) (zip births xs)) 0 ≡ option_map_or (slice_index births) (number_that p xs) 0
find-zip p [] [] = refl
find-zip p (b ∷ births) [] = refl
find-zip p [] (x ∷ xs) = none (number_that p (x ∷ xs))
  where
    none : (r : Option ℕ) → 0 ≡ option_map_or (slice_index []) r 0
    none None = refl
    none (Some j) = refl
find-zip p (b ∷ births) (x ∷ xs) = go (p x) (number_that p xs) (find-zip p births xs)
  where
    rest : Option (ℕ × FileObject)
    rest = find (λ e. p e.1) (zip births xs)

    go : (c : Bool) (r : Option ℕ) → option_map_or (λ e. e.0) rest 0 ≡ option_map_or (slice_index births) r 0
        → option_map_or (λ e. e.0) (cond c (Some (b, x)) rest) 0 ≡ option_map_or (slice_index (b ∷ births)) (cond c (Some 0) (option_map suc r)) 0
    go true r h = refl
    go false None h = h
    go false (Some j) h = h

-- and so it is in the state
pub birth_in-stands : (births : List ℕ) (f : File) (word : ℕ) (s : Stands births f word) → birth_in f births word ≡ slice_index births s.j
birth_in-stands births f word s = find-zip (λ o. address_in f o == word) births (visible f) ∙ ap (λ (r : Option ℕ). option_map_or (slice_index births) r 0) s.number

pub birth_of-named : (births : List ℕ) (f : File) (word : ℕ) → Stands births f word
    → birth_at (loaded_from f births 0 (visible f)) (address_named f word) ≡ birth_in f births word
birth_of-named births f word s = birth_of-stands births f word s ∙ sym (birth_in-stands births f word s)
