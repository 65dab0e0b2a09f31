-- The objects of a formed image are sound in its file.
use Rattle.std.proofs.Common.{◌≡◌, ℕ, zero, suc, ◌+◌, ◌-◌, ◌*◌, ◌/◌, ◌%◌, ◌^◌, ◌<◌, ◌==◌, ◌&&◌, ◌||◌, Bool, true, false, cond, nat_lt, List, [], ◌∷◌, ◌++◌, length, map, take, Option, Some, unwrap_or, refl, ap, ap₂, sym, subst, ◌∙◌, arith, slice_get, slice_index, append-nil}
use Rattle.std.proofs.lemmas.Int.{ints}
use Rattle.std.proofs.lemmas.Bool.Decides.{nat_tests}
use Rattle.std.proofs.Math.Seq.{take-append_seam}
use Rattle.std.specs.Prelude.{ℤ, pos, negsuc, nat_le}
use Rattle.std.specs.Option.{option_map_or}
use Rattle.std.specs.List.{AllByRecursion}
use Rattle.cs_word.specs.Word.{IsSmall, small_word}
use Rattle.cs_model.specs.Ref.{Ref, natural_of}
use Rattle.cs_model.specs.Ref as ref
use Rattle.cs_model.specs.Obj.{Obj, Head, Ptr, Raw, Method, Ctx, new_head, is_header, literal_count}
use Rattle.cs_model.specs.Words.{small_value, natural_in_word, header_in_words, literals_in_words, is_pointer_format, is_method_format}
use Rattle.cs_model.specs.Builder.{spare}
use Rattle.cs_model.specs.ImageFault.{is_body}
use Rattle.cs_model.specs.SoundFile.{IsReference, saved_references}
use Rattle.cs_build.specs.Laid.{FitsRef, laid, laid_slots, laid_words, ref_word, byte_words, saved_by, laid_addresses, context_refs, file_for}
use Rattle.cs_build.specs.Stored.{StoredMethod, IsStored}
use Rattle.cs_build.specs.Formed.{IsFormed}
use Rattle.cs_build.proofs.Putting.{slots_of_laid, length-map}
use Rattle.cs_build.proofs.Locating.{IsBare, found_at}

-- ---- numbers in words

pub natural_back : (k : ℕ) → k < 2 ^ 30 → natural_in_word (2 * k + 1) ≡ Some k
natural_back k h =
    let odd : ((2 * k + 1) % 2 == 1) ≡ true = grind (arith, nat_tests) in
    let low : nat_lt (2 * k + 1) (2 ^ 31) ≡ true = grind (arith, nat_tests, limit) in
    let half : (2 * k + 1) / 2 ≡ k = omega arith in
    rw odd (ap natural_of value)
  where
    limit : 2 * k + 1 < 2147483648
    limit = omega (arith, h)

    value : small_value (2 * k + 1) ≡ pos k
    value =
        let low : nat_lt (2 * k + 1) 2147483648 ≡ true = grind (arith, nat_tests, limit) in
        let half : (2 * k + 1) / 2 ≡ k = omega arith in
        rw low (ap pos half)

take_front : (xs ys : List ℕ) (n : ℕ) → n ≡ length xs → take n (xs ++ ys) ≡ xs
take_front xs ys n e = ap (λ (k : ℕ). take k (xs ++ ys)) e ∙ take-append_seam xs ys

-- ---- references

small_odd : (z : ℤ) → IsSmall z → small_word z % 2 ≡ 1
small_odd (pos k) h = omega arith
small_odd (negsuc k) h = let bound : k < 1073741824 = omega (arith, ints, h.0) in omega (arith, bound)

pub get_there : {A : Type 0} (xs : List A) (k : ℕ) → k < length xs → (x : A) × (slice_get xs k ≡ Some x)
get_there [] k h = absurd (omega (arith, h))
get_there (x ∷ xs) zero h = (x, refl)
get_there (x ∷ xs) (suc k) h = get_there xs k (omega (arith, h))

reference_again : (os : List Obj) (table : List ℕ) (r : Ref) → IsBare (map laid os) → FitsRef (length os) r
    → IsReference (file_for (map laid os) table) (ref_word (laid_addresses (map laid os)) r)
reference_again os table (ref.Small z) bare h = λ e. absurd (omega (arith, e, small_odd z h))
reference_again os table (ref.Char code) bare h = λ e. absurd (omega (arith, e))
reference_again os table (ref.Obj k) bare h = λ e.
    let o = get_there os k h in
    found_at os table (λ x. true ≡ true) k o.0 bare o.1 (λ first. refl)

references_again : (os : List Obj) (table : List ℕ) (rs : List Ref) → IsBare (map laid os) → AllByRecursion (FitsRef (length os)) rs
    → AllByRecursion (IsReference (file_for (map laid os) table)) (map (ref_word (laid_addresses (map laid os))) rs)
references_again os table [] bare all = tt
references_again os table (r ∷ rs) bare all = (reference_again os table r bare all.0, references_again os table rs bare all.1)

-- a method's words
pub record MethodWords (words : List ℕ) (header : ℕ) (literals : List ℕ) : Type 0 where
  pub first : natural_in_word (slice_index words 0) ≡ Some header
  pub header_is : header_in_words words ≡ header
  pub literals_are : literals_in_words words ≡ literals

pub method_words : (a : List ℕ) (n : ℕ) (head : Head) (header : ℕ) (literals : List Ref) (bytes : List ℕ) → StoredMethod n head header literals bytes
    → MethodWords (laid_words a (laid (Method head header literals bytes))) header (map (ref_word a) literals)
method_words a n head header literals bytes s =
    let first : natural_in_word (2 * header + 1) ≡ Some header = natural_back header s.small in
    let header_is : unwrap_or (natural_in_word (2 * header + 1)) 0 ≡ header = ap (λ (o : Option ℕ). unwrap_or o 0) first in
    record {
      first = first;
      header_is = header_is;
      literals_are = take_front (map (ref_word a) literals) (byte_words bytes) (literal_count (unwrap_or (natural_in_word (2 * header + 1)) 0))
          (ap literal_count header_is ∙ s.counted ∙ sym (length-map (ref_word a) literals));
    }

pub object_references : (os : List Obj) (table : List ℕ) (o : Obj) → IsBare (map laid os) → IsStored (length os) o → AllByRecursion (FitsRef (length os)) (laid o).refs
    → AllByRecursion (IsReference (file_for (map laid os) table)) (saved_references (saved_by (laid_addresses (map laid os)) (laid o)))
object_references os table (Ptr head slots) bare s all =
    let a : List ℕ = laid_addresses (map laid os) in
    rw s.pointers (subst (AllByRecursion (IsReference (file_for (map laid os) table))) (sym (append-nil (map (ref_word a) slots))) (references_again os table slots bare all))
object_references os table (Raw head bytes) bare s all =
    subst (λ (h : Head). AllByRecursion (IsReference (file_for (map laid os) table)) (saved_references (saved_by (laid_addresses (map laid os)) (laid (Raw h bytes))))) (sym s.is_head) here
  where
    here : AllByRecursion (IsReference (file_for (map laid os) table)) (saved_references (saved_by (laid_addresses (map laid os)) (laid (Raw (new_head head.class (16 + spare (length bytes))) bytes))))
    here =
        let pointers : is_pointer_format (16 + spare (length bytes)) ≡ false = grind (arith, nat_tests) in
        let short : nat_le 24 (16 + spare (length bytes)) ≡ false = grind (arith, nat_tests) in
        let methods : is_method_format (16 + spare (length bytes)) ≡ false = rw short refl in
        rw (pointers, methods) tt
object_references os table (Method head header literals bytes) bare s all =
    subst (λ (h : Head). AllByRecursion (IsReference (file_for (map laid os) table)) (saved_references (saved_by (laid_addresses (map laid os)) (laid (Method h header literals bytes))))) (sym s.is_head) here
  where
    here : AllByRecursion (IsReference (file_for (map laid os) table)) (saved_references (saved_by (laid_addresses (map laid os)) (laid (Method (new_head 43 (24 + spare (length bytes))) header literals bytes))))
    here =
        let a : List ℕ = laid_addresses (map laid os) in
        let pointers : is_pointer_format (24 + spare (length bytes)) ≡ false = grind (arith, nat_tests) in
        let low : nat_le 24 (24 + spare (length bytes)) ≡ true = grind (arith, nat_tests) in
        let high : nat_lt (24 + spare (length bytes)) 28 ≡ true = grind (arith, nat_tests) in
        let methods : is_method_format (24 + spare (length bytes)) ≡ true = rw (low, high) refl in
        let m = method_words a (length os) head header literals bytes s in
        rw (pointers, methods) (subst (AllByRecursion (IsReference (file_for (map laid os) table))) (sym m.literals_are) (references_again os table literals bare all.1))
object_references os table (Ctx c) bare s all =
    let a : List ℕ = laid_addresses (map laid os) in
    subst (AllByRecursion (IsReference (file_for (map laid os) table))) (sym (append-nil (map (ref_word a) (context_refs c)))) (references_again os table (context_refs c) bare all)

-- ---- bodies

pub body_formed : (a : List ℕ) (n : ℕ) (o : Obj) → IsStored n o → IsFormed o → is_body (laid o).format (laid_words a (laid o)) ≡ true
body_formed a n (Ptr head slots) s f = pointer_body head.format (laid_words a (laid (Ptr head slots))) s.pointers (λ e. slots_of_laid a (laid (Ptr head slots)) ∙ go e)
  where
    go : head.format ≡ 0 → laid_slots (laid (Ptr head slots)) ≡ 0
    go e = ap (λ (xs : List Ref). laid_slots (laid (Ptr head xs))) (f e)

    pointer_body : (format : ℕ) (words : List ℕ) → is_pointer_format format ≡ true → (format ≡ 0 → length words ≡ 0) → is_body format words ≡ true
    pointer_body format words p h =
        let few : format < 6 = grind (arith, nat_tests, p) in
        let nine : (format == 9) ≡ false = grind (arith, nat_tests, few) in
        let low : nat_le 24 format ≡ false = grind (arith, nat_tests, few) in
        let mid : nat_le 16 format ≡ false = grind (arith, nat_tests, few) in
        let none : (format - 12 == 0) ≡ true = grind (arith, nat_tests, few) in
        rw (p, nine, low, mid, none) (zero_case (format == 0) refl)
      where
        zero_case : (b : Bool) → (format == 0) ≡ b → (cond b (length words == 0) true && true) ≡ true
        zero_case false e = refl
        zero_case true e =
            let is : format ≡ 0 = grind (arith, nat_tests, e) in
            let empty : (length words == 0) ≡ true = grind (arith, nat_tests, h is) in
            rw empty refl
body_formed a n (Raw head bytes) s f = ap (λ (h : Head). is_body h.format (laid_words a (laid (Raw h bytes)))) s.is_head ∙ here
  where
    room : (k n words : ℕ) → k ≡ spare n → words ≡ (n + 3) / 4 → (16 + k - 16 == 0 || nat_lt 0 words) ≡ true
    room k zero words e w = let none : (16 + k - 16 == 0) ≡ true = grind (arith, nat_tests, e) in rw none refl
    room k (suc n) words e w =
        let some : nat_lt 0 words ≡ true = grind (arith, nat_tests, w) in
        either (16 + k - 16 == 0) (nat_lt 0 words) some
      where
        either : (b c : Bool) → c ≡ true → (b || c) ≡ true
        either true c h = refl
        either false c h = h

    here : is_body (16 + spare (length bytes)) (laid_words a (laid (Raw head bytes))) ≡ true
    here =
        let k : ℕ = 16 + spare (length bytes) in
        let long : length (laid_words a (laid (Raw head bytes))) ≡ (length bytes + 3) / 4 = slots_of_laid a (laid (Raw head bytes)) ∙ omega arith in
        let pointers : is_pointer_format (16 + spare (length bytes)) ≡ false = grind (arith, nat_tests) in
        let low : nat_le 24 (16 + spare (length bytes)) ≡ false = grind (arith, nat_tests) in
        let mid : nat_le 16 (16 + spare (length bytes)) ≡ true = grind (arith, nat_tests) in
        let top : nat_lt (16 + spare (length bytes)) 20 ≡ true = grind (arith, nat_tests) in
        let n0 : (16 + spare (length bytes) == 0) ≡ false = grind (arith, nat_tests) in
        let n9 : (16 + spare (length bytes) == 9) ≡ false = grind (arith, nat_tests) in
        let n10 : (16 + spare (length bytes) == 10) ≡ false = grind (arith, nat_tests) in
        let n12 : (16 + spare (length bytes) == 12) ≡ false = grind (arith, nat_tests) in
        let n13 : (16 + spare (length bytes) == 13) ≡ false = grind (arith, nat_tests) in
        let fits : (16 + spare (length bytes) - 16 == 0 || nat_lt 0 (length (laid_words a (laid (Raw head bytes))))) ≡ true = room (spare (length bytes)) (length bytes) _ refl long in
        rw (pointers, low, mid, top, n0, n9, n10, n12, n13) (rw fits refl)
body_formed a n (Method head header literals bytes) s f = ap (λ (h : Head). is_body h.format (laid_words a (laid (Method h header literals bytes)))) s.is_head ∙ here
  where
    last : (b : Bool) → ((b || true) && true) ≡ true
    last true = refl
    last false = refl

    room : (l n : ℕ) → nat_lt (l + cond (nat_lt 0 (24 + spare n - 24)) 1 0) (suc l + (n + 3) / 4) ≡ true
    room l zero = grind (arith, nat_tests)
    room l (suc n) = go (nat_lt 0 (24 + spare (suc n) - 24))
      where
        go : (b : Bool) → nat_lt (l + cond b 1 0) (suc l + (suc n + 3) / 4) ≡ true
        go true = grind (arith, nat_tests)
        go false = grind (arith, nat_tests)

    here : is_body (24 + spare (length bytes)) (laid_words a (laid (Method head header literals bytes))) ≡ true
    here =
        let long : length (laid_words a (laid (Method head header literals bytes))) ≡ suc (length literals) + (length bytes + 3) / 4 = slots_of_laid a (laid (Method head header literals bytes)) in
        let m = method_words a n head header literals bytes s in
        let pointers : is_pointer_format (24 + spare (length bytes)) ≡ false = grind (arith, nat_tests) in
        let low : nat_le 24 (24 + spare (length bytes)) ≡ true = grind (arith, nat_tests) in
        let mid : nat_le 16 (24 + spare (length bytes)) ≡ true = grind (arith, nat_tests) in
        let high : nat_lt (24 + spare (length bytes)) 28 ≡ true = grind (arith, nat_tests) in
        let top : nat_lt (24 + spare (length bytes)) 20 ≡ false = grind (arith, nat_tests) in
        let n0 : (24 + spare (length bytes) == 0) ≡ false = grind (arith, nat_tests) in
        let n9 : (24 + spare (length bytes) == 9) ≡ false = grind (arith, nat_tests) in
        let n10 : (24 + spare (length bytes) == 10) ≡ false = grind (arith, nat_tests) in
        let n12 : (24 + spare (length bytes) == 12) ≡ false = grind (arith, nat_tests) in
        let n13 : (24 + spare (length bytes) == 13) ≡ false = grind (arith, nat_tests) in
        let some : nat_lt 0 (length (laid_words a (laid (Method head header literals bytes)))) ≡ true = grind (arith, nat_tests, long) in
        let valid : option_map_or is_header (natural_in_word (2 * header + 1)) false ≡ true = ap (λ (r : Option ℕ). option_map_or is_header r false) m.first ∙ f in
        let fits : nat_lt (literal_count (header_in_words (laid_words a (laid (Method head header literals bytes)))) + cond (nat_lt 0 (24 + spare (length bytes) - 24)) 1 0) (length (laid_words a (laid (Method head header literals bytes)))) ≡ true =
        ap₂ (λ (x y : ℕ). nat_lt (x + cond (nat_lt 0 (24 + spare (length bytes) - 24)) 1 0) y) (ap literal_count m.header_is ∙ s.counted) long
        ∙ room (length literals) (length bytes) in
        rw (pointers, low, mid, high, top, n0, n9, n10, n12, n13) (rw (some, valid, fits) (last (24 + spare (length bytes) - 24 == 0)))
body_formed a n (Ctx c) s f = refl
