-- What the marks tell: which addresses are objects, and where the next object is.
use Rattle.std.proofs.Common.{◌≡◌, ◌≢◌, ℕ, zero, suc, ◌+◌, ◌*◌, ◌/◌, ◌%◌, ◌-◌, ◌<◌, ◌≤◌, Bool, true, false, cond, List, [], ◌∷◌, ◌++◌, length, get_or, replicate, Some, None, is_some, refl, ap, sym, ◌∙◌, subst, arith, eqb, leb, not, min, ◌&&◌, length-append}
use Rattle.std.proofs.lemmas.List.{get_or-append-add, get_or-append_right, get_or_append_left}
use Rattle.std.proofs.lemmas.Grind.{flat_map-append}
use Rattle.std.proofs.lemmas.Bool.Decides.{nat_tests}
use Rattle.std.specs.Prelude.{flat_map}
use Rattle.cs_heap.specs.Object.{Object, address_of, base, body_units, header_address, object_place, units, units_before, used}
use Rattle.cs_heap.specs.Layout.{AreObjectsLaid, address_from, headers_in, marked, marks_of, unit_in}
use Rattle.cs_heap.specs.declared.Heap.TheInside.{Inside}
use Rattle.cs_heap.proofs.OneObject.{length-marked, marks_of_is}
use Rattle.cs_heap.proofs.Places.{Split, address_past, address_split, found_is, split_here, split_next, used-append}
use Rattle.cs_heap.proofs.Standing.{length-all_marks, length-marks}
use Rattle.cs_heap.proofs.Watching.{headers_in-at, length-headers_in}

blank : (n u : ℕ) → get_or {A = ℕ} (replicate n 0) u 0 ≡ 0
blank zero u = refl
blank (suc n) zero = refl
blank (suc n) (suc u) = blank n u

-- a unit of an object that is marked is its header
marked_at : (n u : ℕ) → get_or (marked {X = ℕ} 0 1 n) u 0 ≢ 0 → u ≡ units_before n
marked_at n u h = go (leb 255 n) u h
  where
    go : (b : Bool) (u : ℕ) → get_or {A = ℕ} (replicate (cond b 1 0) 0 ++ 1 ∷ replicate (body_units n) 0) u 0 ≢ 0 → u ≡ cond b 1 0
    go true zero h = absurd (h refl)
    go true (suc zero) h = refl
    go true (suc (suc u)) h = absurd (h (blank (body_units n) u))
    go false zero h = refl
    go false (suc u) h = absurd (h (blank (body_units n) u))

long_marks : (x : Object) → length (marks_of x) ≡ units (length x.words)
long_marks x = ap length (marks_of_is x) ∙ length-marked 1 (length x.words)

-- a unit that is marked is the header of an object
marked_split : (xs : List Object) (at u : ℕ) → get_or (flat_map marks_of xs) u 0 ≢ 0 → (k : ℕ) × Split xs at (at + 8 * u) k
marked_split [] at u h = absurd (h refl)
marked_split (x ∷ xs) at u h =
    go (leb (units (length x.words)) u) refl (λ f. marked_split xs (at + 8 * units (length x.words)) (u - units (length x.words)) f)
  where
    n : ℕ
    n = units (length x.words)

    all : List ℕ
    all = flat_map marks_of xs

    go : (b : Bool) → leb n u ≡ b → (get_or all (u - n) 0 ≢ 0 → (k : ℕ) × Split xs (at + 8 * n) (at + 8 * n + 8 * (u - n)) k) → (k : ℕ) × Split (x ∷ xs) at (at + 8 * u) k
    go true e rec =
        let past : n ≤ u = grind (arith, nat_tests) in
        let there : get_or (marks_of x ++ all) u 0 ≡ get_or all (u - n) 0 = get_or-append_right (marks_of x) all n u 0 (long_marks x) past in
        let s = rec (λ z. h (there ∙ z)) in
        (suc s.0, split_next x xs at (at + 8 * u) s.0 (subst (λ (a : ℕ). Split xs (at + 8 * n) a s.0) (omega (arith, past)) s.1))
    go false e rec =
        let within : u < n = grind (arith, nat_tests) in
        let here : get_or (marks_of x ++ all) u 0 ≡ get_or (marked 0 1 (length x.words)) u 0 =
        get_or_append_left (marks_of x) all 0 u (omega (arith, within, long_marks x)) ∙ ap (λ (zs : List ℕ). get_or zs u 0) (marks_of_is x) in
        (0, split_here x xs at (at + 8 * u) (ap (λ (v : ℕ). at + 8 * v) (marked_at (length x.words) u (λ z. h (here ∙ z)))))

pub marked_found : (h : Inside) (xs : List Object) → AreObjectsLaid h xs → (u : ℕ) → get_or h.marks.items u 0 ≢ 0 → is_some (object_place xs (base + 8 * u)) ≡ true
marked_found h xs laid u m =
    let s = marked_split xs base u (λ z. m (none (get_or h.marks.items u 0) (sym (headers_in-at h.marks.items u) ∙ ap (λ (zs : List ℕ). get_or zs u 0) laid.marks ∙ z))) in
    ap is_some (found_is xs (base + 8 * u) s.0 s.1).index_is
  where
    none : (n : ℕ) → min n 1 ≡ 0 → n ≡ 0
    none n e = omega (arith, e)

-- the object behind those before, if there is one
pub walk : (h : Inside) (before after : List Object) → AreObjectsLaid h (before ++ after) → (u : ℕ) → 2 * u ≡ used before → address_from h.marks.items u ≡ address_of (before ++ after) (length before)
walk h before [] laid u e =
    let last : length h.marks.items ≤ u = omega (arith, length-marks h (before ++ []) laid, used-append before [], e) in
    let test : leb (length h.marks.items) u ≡ true = grind (arith, nat_tests) in
    rw test (sym (address_past (before ++ []) base (length before) (omega (arith, length-append before []))))
walk h before (y ∷ ys) laid u e =
    let size_is : length (flat_map marks_of before) ≡ u = omega (arith, length-all_marks before, e) in
    let marks_are : headers_in h.marks.items ≡ flat_map marks_of before ++ (marks_of y ++ flat_map marks_of ys) = laid.marks ∙ flat_map-append marks_of before (y ∷ ys) in
    let here : get_or (headers_in h.marks.items) u 0 ≡ get_or (marks_of y ++ flat_map marks_of ys) 0 0 =
    ap (λ (zs : List ℕ). get_or zs u 0) marks_are ∙ ap (λ (v : ℕ). get_or (flat_map marks_of before ++ (marks_of y ++ flat_map marks_of ys)) v 0) (sym size_is ∙ omega arith)
    ∙ get_or-append-add (flat_map marks_of before) (marks_of y ++ flat_map marks_of ys) 0 0 in
    let first : get_or (marks_of y ++ flat_map marks_of ys) 0 0 ≡ get_or (marked 0 1 (length y.words)) 0 0 =
    get_or_append_left (marks_of y) (flat_map marks_of ys) 0 0 (omega (arith, long_marks y)) ∙ ap (λ (zs : List ℕ). get_or zs 0 0) (marks_of_is y) in
    let inside : u < length h.marks.items = omega (arith, length-headers_in h.marks.items, ap length marks_are, length-append (flat_map marks_of before) (marks_of y ++ flat_map marks_of ys), length-append (marks_of y) (flat_map marks_of ys), long_marks y, size_is) in
    let test : leb (length h.marks.items) u ≡ false = grind (arith, nat_tests) in
    rw test (ap (λ t. cond t (Some (base + 8 * (u + 1))) (Some (base + 8 * u))) (same_zero (get_or h.marks.items u 0) (get_or (marked 0 1 (length y.words)) 0 0) (sym (headers_in-at h.marks.items u) ∙ here ∙ first))
    ∙ header_first (length y.words) (used before) u e) ∙ sym (address_split before ys y base)
  where
    same_zero : (m n : ℕ) → min m 1 ≡ n → eqb m 0 ≡ eqb n 0
    same_zero m n e = grind (arith, nat_tests)

    header_first : (n b u : ℕ) → 2 * u ≡ b → cond (eqb (get_or (marked 0 1 n) 0 0) 0) (Some (base + 8 * (u + 1))) (Some (base + 8 * u)) ≡ Some (header_address (base + 4 * b) n)
    header_first n b u e = go (leb 255 n)
      where
        go : (t : Bool) → cond (eqb (get_or (replicate (cond t 1 0) 0 ++ 1 ∷ replicate (body_units n) 0) 0 0) 0) (Some (base + 8 * (u + 1))) (Some (base + 8 * u)) ≡ Some (base + 4 * b + 8 * cond t 1 0)
        go true = ap Some (omega (arith, e))
        go false = ap Some (omega (arith, e))

-- ---- tests

pub same_test : (a b : Bool) → (a ≡ true → b ≡ true) → (b ≡ true → a ≡ true) → a ≡ b
same_test true b f g = sym (f refl)
same_test false true f g = absurd (let e : false ≡ true = g refl in cc)
same_test false false f g = refl

pub unit_in_is : (address u : ℕ) → unit_in address ≡ Some u → address ≡ base + 8 * u
unit_in_is address u h = go (leb base address) refl (eqb (address % 8) 0) refl h
  where
    go : (s : Bool) → leb base address ≡ s → (t : Bool) → eqb (address % 8) 0 ≡ t → cond (s && t) (Some ((address - base) / 8)) None ≡ Some u → address ≡ base + 8 * u
    go true e true f h =
        let above : base ≤ address = grind (arith, nat_tests) in
        let even : address % 8 ≡ 0 = grind (arith, nat_tests) in
        let at : (address - base) / 8 ≡ u = cc in
        omega (arith, above, even, at)
    go true e false f h = absurd (cc)
    go false e t f h = absurd (cc)

pub unit_in_of : (address : ℕ) → base ≤ address → address ≡ base + 8 * ((address - base) / 8) → unit_in address ≡ Some ((address - base) / 8)
unit_in_of address above aligned =
    let one : leb base address ≡ true = grind (arith, nat_tests) in
    let even : address % 8 ≡ 0 = omega (arith, aligned) in
    let two : eqb (address % 8) 0 ≡ true = grind (arith, nat_tests) in
    rw (one, two) refl

pub nonzero : (n : ℕ) → not (eqb n 0) ≡ true → n ≢ 0
nonzero n h e = let zero_is : eqb n 0 ≡ true = grind (arith, nat_tests) in cc

pub is_marked : (n : ℕ) → 0 < n → not (eqb n 0) ≡ true
is_marked n e = let other : eqb n 0 ≡ false = grind (arith, nat_tests) in rw other refl
