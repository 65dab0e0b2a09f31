-- What was written of references and bytes is read again.
use Rattle.std.proofs.Common.{◌≡◌, ℕ, zero, suc, ◌+◌, ◌-◌, ◌*◌, ◌/◌, ◌%◌, ◌^◌, ◌<◌, ◌≤◌, ◌==◌, true, false, List, [], ◌∷◌, ◌++◌, length, map, take, drop, replicate, refl, ap, ap₂, sym, ◌∙◌, arith, append-nil, length-append, slice_index}
use Rattle.std.proofs.lemmas.Int.{ints}
use Rattle.std.proofs.lemmas.Bool.Decides.{nat_tests}
use Rattle.std.specs.Prelude.{ℤ, pos, negsuc, nat_lt, nat_le, Option, Some, unwrap_or}
use Rattle.std.specs.List.{AllByRecursion, range_with_len}
use Rattle.cs_word.specs.Word.{IsSmall, small_word}
use Rattle.cs_model.specs.Ref.{Ref, natural_of}
use Rattle.cs_model.specs.Ref as ref
use Rattle.cs_model.specs.Words.{ref_by, small_value, byte_in, bytes_of_words}
use Rattle.cs_model.specs.Builder.{spare}
use Rattle.cs_model.specs.ImageFile.{u32_at}
use Rattle.std.proofs.lemmas.List.{length-replicate, map-append}
use Rattle.std.proofs.lemmas.List.FromFn.{length-range_with_len}
use Rattle.std.proofs.Math.Seq.{take-append_seam, drop-append-add}
use Rattle.cs_model.specs.Obj as obj
use Rattle.cs_model.specs.Obj.{Head, Obj, Ptr, Raw, Ctx, Context, new_head, context_class, literal_count}
use Rattle.cs_model.specs.Words.{obj_by, plain, is_pointer_format, is_method_format, unused_bytes, natural_in_word, bytecode_count, bytecodes_in_words}
use Rattle.cs_model.specs.Builder.{raw_object, method_by, nil_ref}
use Rattle.cs_model.proofs.SavedNumbers.{number_behind}
use Rattle.cs_build.specs.Laid.{FitsRef, ref_word, byte_words, laid, laid_words}
use Rattle.cs_build.proofs.Putting.{length-map}

-- ---- references

value_back : (z : ℤ) → IsSmall z → small_value (small_word z) ≡ z
value_back (pos k) h =
    let low : nat_lt (2 * k + 1) (2 ^ 31) ≡ true = grind (arith, nat_tests, limit k h) in
    let half : (2 * k + 1) / 2 ≡ k = omega arith in
    rw low (ap pos half)
  where
    limit : (k : ℕ) → IsSmall (pos k) → 2 * k + 1 < 2147483648
    limit k h = omega (arith, ints, h.1)
value_back (negsuc k) h =
    let bound : k < 1073741824 = omega (arith, ints, h.0) in
    let high : nat_lt (2 ^ 32 - 2 * k - 1) (2 ^ 31) ≡ false = grind (arith, nat_tests, bound) in
    rw high (omega (arith, ints, bound))

small_odd : (z : ℤ) → IsSmall z → small_word z % 2 ≡ 1
small_odd (pos k) h = omega arith
small_odd (negsuc k) h = let bound : k < 1073741824 = omega (arith, ints, h.0) in omega (arith, bound)

-- the addresses of n objects, which are of whole units, by which each is found
pub record AreAddresses (a : List ℕ) (named : ℕ → Ref) (n : ℕ) : Type 0 where
  pub units : (i : ℕ) → i < n → slice_index a i % 8 ≡ 0
  pub found : (i : ℕ) → i < n → named (slice_index a i) ≡ ref.Obj i

pub ref_back : (a : List ℕ) (named : ℕ → Ref) (n : ℕ) (r : Ref) → AreAddresses a named n → FitsRef n r → ref_by named (ref_word a r) ≡ r
ref_back a named n (ref.Small z) are h =
    let odd : (small_word z % 2 == 1) ≡ true = grind (arith, nat_tests, small_odd z h) in
    rw odd (ap ref.Small (value_back z h))
ref_back a named n (ref.Char code) are h =
    let even : ((4 * code + 2) % 2 == 1) ≡ false = grind (arith, nat_tests) in
    let mark : ((4 * code + 2) % 4 == 2) ≡ true = grind (arith, nat_tests) in
    let quarter : (4 * code + 2) / 4 ≡ code = omega arith in
    rw (even, mark) (ap ref.Char quarter)
ref_back a named n (ref.Obj i) are h =
    let unit = are.units i h in
    let even : (slice_index a i % 2 == 1) ≡ false = grind (arith, nat_tests, are.units i h) in
    let mark : (slice_index a i % 4 == 2) ≡ false = grind (arith, nat_tests, are.units i h) in
    rw (even, mark) (are.found i h)

pub refs_back : (a : List ℕ) (named : ℕ → Ref) (n : ℕ) (rs : List Ref) → AreAddresses a named n → AllByRecursion (FitsRef n) rs
    → map (ref_by named) (map (ref_word a) rs) ≡ rs
refs_back a named n [] are all = refl
refs_back a named n (r ∷ rs) are all = ap₂ (λ (x : Ref) (xs : List Ref). x ∷ xs) (ref_back a named n r are all.0) (refs_back a named n rs are all.1)

-- ---- bytes

shifted : (f g : ℕ → ℕ) (at n : ℕ) → ((i : ℕ) → f (i + 1) ≡ g i) → map f (range_with_len (at + 1) n) ≡ map g (range_with_len at n)
shifted f g at zero same = refl
shifted f g at (suc n) same = ap₂ (λ (x : ℕ) (xs : List ℕ). x ∷ xs) (same at) (shifted f g (at + 1) n same)

word_behind : (a b c d : ℕ) (bytes : List ℕ) (i : ℕ) → u32_at (a ∷ b ∷ c ∷ d ∷ bytes) (4 * (i + 1)) ≡ u32_at bytes (4 * i)
unfolding u32_at
word_behind a b c d bytes i = number_behind 4 (a ∷ b ∷ c ∷ d ∷ []) bytes (4 * i) (4 * (i + 1)) (omega arith)

four_more : (a b c d : ℕ) (bytes : List ℕ) → byte_words (a ∷ b ∷ c ∷ d ∷ bytes) ≡ u32_at (a ∷ b ∷ c ∷ d ∷ bytes) 0 ∷ byte_words bytes
four_more a b c d bytes =
    let count : (suc (suc (suc (suc (length bytes)))) + 3) / 4 ≡ suc ((length bytes + 3) / 4) = omega arith in
    let f : ℕ → ℕ = λ i. u32_at (a ∷ b ∷ c ∷ d ∷ bytes) (4 * i) in
    ap (λ (n : ℕ). map f (range_with_len 0 n)) count
    ∙ ap (λ (ws : List ℕ). u32_at (a ∷ b ∷ c ∷ d ∷ bytes) 0 ∷ ws) (shifted f (λ i. u32_at bytes (4 * i)) 0 ((length bytes + 3) / 4) (word_behind a b c d bytes))

digits_are : (w a b c d : ℕ) (xs ys : List ℕ) → w ≡ a + 256 * (b + 256 * (c + 256 * d)) → a < 256 → b < 256 → c < 256 → d < 256 → xs ≡ ys
    → byte_in w 0 ∷ byte_in w 1 ∷ byte_in w 2 ∷ byte_in w 3 ∷ xs ≡ a ∷ b ∷ c ∷ d ∷ ys
digits_are w a b c d xs ys e ha hb hc hd same =
    let zeroth : byte_in w 0 ≡ a = omega (arith, e, ha, hb, hc, hd) in
    let first : byte_in w 1 ≡ b = omega (arith, e, ha, hb, hc, hd) in
    let second : byte_in w 2 ≡ c = omega (arith, e, ha, hb, hc, hd) in
    let third : byte_in w 3 ≡ d = omega (arith, e, ha, hb, hc, hd) in
    cc

pub bytes_back : (bytes : List ℕ) → AllByRecursion (λ (b : ℕ). b < 256) bytes → bytes_of_words (byte_words bytes) ≡ bytes ++ replicate (spare (length bytes)) 0
unfolding bytes_of_words u32_at
bytes_back [] all = refl
bytes_back (a ∷ []) all = digits_are (a + 0) a 0 0 0 [] [] (omega arith) all.0 (omega arith) (omega arith) (omega arith) refl
bytes_back (a ∷ b ∷ []) all = digits_are (a + 256 * (b + 0)) a b 0 0 [] [] (omega arith) all.0 all.1.0 (omega arith) (omega arith) refl
bytes_back (a ∷ b ∷ c ∷ []) all = digits_are (a + 256 * (b + 256 * (c + 0))) a b c 0 [] [] (omega arith) all.0 all.1.0 all.1.1.0 (omega arith) refl
bytes_back (a ∷ b ∷ c ∷ d ∷ bytes) all =
    let same : spare (length bytes) ≡ spare (suc (suc (suc (suc (length bytes))))) = omega arith in
    ap bytes_of_words (four_more a b c d bytes)
    ∙ digits_are (a + 256 * (b + 256 * (c + 256 * (d + 0)))) a b c d (bytes_of_words (byte_words bytes)) (bytes ++ replicate (spare (suc (suc (suc (suc (length bytes)))))) 0)
    (omega arith) all.0 all.1.0 all.1.1.0 all.1.1.1.0
    (bytes_back bytes all.1.1.1.1 ∙ ap (λ (k : ℕ). bytes ++ replicate k 0) same)

length-byte_words : (bytes : List ℕ) → length (byte_words bytes) ≡ (length bytes + 3) / 4
length-byte_words bytes = length-map (λ i. u32_at bytes (4 * i)) (range_with_len 0 ((length bytes + 3) / 4)) ∙ length-range_with_len 0 ((length bytes + 3) / 4)

take_front : (xs ys : List ℕ) (n : ℕ) → n ≡ length xs → take n (xs ++ ys) ≡ xs
take_front xs ys n e = ap (λ (k : ℕ). take k (xs ++ ys)) e ∙ take-append_seam xs ys

-- ---- objects

-- an object of pointers that is no context
pub pointers_back : (a : List ℕ) (named : ℕ → Ref) (n : ℕ) (head : Head) (slots : List Ref) → AreAddresses a named n → AllByRecursion (FitsRef n) slots
    → (head.class == context_class) ≡ false → is_pointer_format head.format ≡ true → plain head ≡ head
    → obj_by named head (laid_words a (laid (Ptr head slots))) ≡ Ptr head slots
unfolding obj_by
pointers_back a named n head slots are all other pointers same =
    rw (other, pointers) (ap₂ (λ (h : Head) (xs : List Ref). Ptr h xs) same
    (ap (map (ref_by named)) (append-nil (map (ref_word a) slots)) ∙ refs_back a named n slots are all))

-- an object of bytes
pub raw_back : (a : List ℕ) (named : ℕ → Ref) (class : ℕ) (bytes : List ℕ) → AllByRecursion (λ (b : ℕ). b < 256) bytes → (class == context_class) ≡ false
    → obj_by named (new_head class (16 + spare (length bytes))) (laid_words a (laid (raw_object class bytes))) ≡ raw_object class bytes
unfolding obj_by
raw_back a named class bytes all other =
    let pointers : is_pointer_format (16 + spare (length bytes)) ≡ false = grind (arith, nat_tests) in
    let short : nat_le 24 (16 + spare (length bytes)) ≡ false = grind (arith, nat_tests) in
    let long : nat_le 16 (16 + spare (length bytes)) ≡ true = grind (arith, nat_tests) in
    let methods : is_method_format (16 + spare (length bytes)) ≡ false = rw short refl in
    let rest : 16 + spare (length bytes) - 16 ≡ spare (length bytes) = omega arith in
    let unused : unused_bytes (16 + spare (length bytes)) ≡ spare (length bytes) = rw (long, short) rest in
    rw (other, pointers, methods) (ap (Raw (new_head class (16 + spare (length bytes))))
    (ap₂ (λ (k : ℕ) (xs : List ℕ). take k xs) (omega (arith, unused, length-byte_words bytes)) (bytes_back bytes all)
    ∙ take_front bytes (replicate (spare (length bytes)) 0) (length bytes) refl))

natural_back : (k : ℕ) → k < 2 ^ 30 → natural_in_word (2 * k + 1) ≡ Some k
natural_back k h =
    let odd : ((2 * k + 1) % 2 == 1) ≡ true = grind (arith, nat_tests) in
    rw odd (ap natural_of (value_back (pos k) (omega (arith, ints), omega (arith, ints, h))))

drop_front : (xs ys : List ℕ) (n : ℕ) → n ≡ length xs → drop n (xs ++ ys) ≡ ys
drop_front xs ys n e = let on : n ≡ length xs + 0 = omega (arith, e) in ap (λ (k : ℕ). drop k (xs ++ ys)) on ∙ drop-append-add xs ys 0

-- a method, whose header counts its literals
pub method_back : (a : List ℕ) (named : ℕ → Ref) (n header : ℕ) (literals : List Ref) (bytes : List ℕ) → AreAddresses a named n → AllByRecursion (FitsRef n) literals
    → header < 2 ^ 30 → literal_count header ≡ length literals → AllByRecursion (λ (b : ℕ). b < 256) bytes
    → obj_by named (new_head 43 (24 + spare (length bytes))) (laid_words a (laid (method_by header literals bytes))) ≡ method_by header literals bytes
unfolding obj_by
method_back a named n header literals bytes are all fits count bytes_fit =
    let pointers : is_pointer_format (24 + spare (length bytes)) ≡ false = grind (arith, nat_tests) in
    let low : nat_le 24 (24 + spare (length bytes)) ≡ true = grind (arith, nat_tests) in
    let high : nat_lt (24 + spare (length bytes)) 28 ≡ true = grind (arith, nat_tests) in
    let long : nat_le 16 (24 + spare (length bytes)) ≡ true = grind (arith, nat_tests) in
    let methods : is_method_format (24 + spare (length bytes)) ≡ true = rw (low, high) refl in
    let rest : 24 + spare (length bytes) - 24 ≡ spare (length bytes) = omega arith in
    let unused : unused_bytes (24 + spare (length bytes)) ≡ spare (length bytes) = rw (long, low) rest in
    let header_is : unwrap_or (natural_in_word (2 * header + 1)) 0 ≡ header = ap (λ (o : Option ℕ). unwrap_or o 0) (natural_back header fits) in
    let counted : literal_count (unwrap_or (natural_in_word (2 * header + 1)) 0) ≡ length (map (ref_word a) literals) = ap literal_count header_is ∙ count ∙ sym (length-map (ref_word a) literals) in
    let taken : take (literal_count (unwrap_or (natural_in_word (2 * header + 1)) 0)) (map (ref_word a) literals ++ byte_words bytes) ≡ map (ref_word a) literals =
    take_front (map (ref_word a) literals) (byte_words bytes) (literal_count (unwrap_or (natural_in_word (2 * header + 1)) 0)) counted in
    let behind : drop (1 + literal_count (unwrap_or (natural_in_word (2 * header + 1)) 0)) ((2 * header + 1) ∷ (map (ref_word a) literals ++ byte_words bytes)) ≡ byte_words bytes =
    drop_front ((2 * header + 1) ∷ map (ref_word a) literals) (byte_words bytes) (1 + literal_count (unwrap_or (natural_in_word (2 * header + 1)) 0)) (omega (arith, counted)) in
    let all_words : List ℕ = (2 * header + 1) ∷ (map (ref_word a) literals ++ byte_words bytes) in
    let count_is : bytecode_count (24 + spare (length bytes)) ((2 * header + 1) ∷ (map (ref_word a) literals ++ byte_words bytes)) ≡ length bytes =
    omega (arith, unused, counted, length-append (map (ref_word a) literals) (byte_words bytes), length-byte_words bytes) in
    let codes : bytecodes_in_words (24 + spare (length bytes)) ((2 * header + 1) ∷ (map (ref_word a) literals ++ byte_words bytes)) ≡ bytes =
    ap₂ (λ (k : ℕ) (xs : List ℕ). take k (bytes_of_words xs)) count_is behind ∙ ap (take (length bytes)) (bytes_back bytes bytes_fit)
    ∙ take_front bytes (replicate (spare (length bytes)) 0) (length bytes) refl in
    let head : Head = new_head 43 (24 + spare (length bytes)) in
    rw (pointers, methods)
    (ap₂ (λ (h : ℕ) (ls : List Ref). obj.Method head h ls (bytecodes_in_words (24 + spare (length bytes)) all_words)) header_is
    (ap (map (ref_by named)) taken ∙ refs_back a named n literals are all)
    ∙ ap (obj.Method head header literals) codes)

-- a context with a pc
abbrev pub context_by : (hash : ℕ) (sender : Ref) (pc : Option ℕ) (method closure receiver : Ref) (stack : List Ref) (size : ℕ) → Obj
context_by hash sender pc method closure receiver stack size = Ctx (record {
  hash = hash;
  sender = sender;
  pc = pc;
  method = method;
  closure = closure;
  receiver = receiver;
  stack = stack;
  size = size;
})

pub context_back : (a : List ℕ) (named : ℕ → Ref) (n hash pc size : ℕ) (sender method closure receiver : Ref) (stack : List Ref)
    → AreAddresses a named n → FitsRef n sender → FitsRef n method → FitsRef n closure → FitsRef n receiver → AllByRecursion (FitsRef n) stack
    → pc < 2 ^ 30 → length stack ≤ size → size < 2 ^ 30
    → obj_by named (record { class = 36; format = 3; hash = hash; fixed = false }) (laid_words a (laid (context_by hash sender (Some pc) method closure receiver stack size)))
    ≡ context_by hash sender (Some pc) method closure receiver stack size
unfolding obj_by
context_back a named n hash pc size sender method closure receiver stack are hs hm hc hr all fits small big =
    let tail : List ℕ = map (ref_word a) (stack ++ replicate (size - length stack) nil_ref) ++ [] in
    let words : List ℕ = ref_word a sender ∷ (2 * pc + 1) ∷ (2 * length stack + 1) ∷ ref_word a method ∷ ref_word a closure ∷ ref_word a receiver ∷ tail in
    let pc_is : natural_in_word (2 * pc + 1) ≡ Some pc = natural_back pc fits in
    let depth : unwrap_or (natural_in_word (2 * length stack + 1)) 0 ≡ length stack = ap (λ (o : Option ℕ). unwrap_or o 0) (natural_back (length stack) (omega (arith, small, big))) in
    let front : take (length stack) (map (ref_word a) (stack ++ replicate (size - length stack) nil_ref) ++ []) ≡ map (ref_word a) stack =
    ap (take (length stack)) (append-nil (map (ref_word a) (stack ++ replicate (size - length stack) nil_ref)) ∙ map-append (ref_word a) stack (replicate (size - length stack) nil_ref))
    ∙ take_front (map (ref_word a) stack) (map (ref_word a) (replicate (size - length stack) nil_ref)) (length stack) (sym (length-map (ref_word a) stack)) in
    let stack_is : map (ref_by named) (take (unwrap_or (natural_in_word (2 * length stack + 1)) 0) tail) ≡ stack =
    ap (λ (k : ℕ). map (ref_by named) (take k tail)) depth ∙ ap (map (ref_by named)) front ∙ refs_back a named n stack are all in
    let size_is : suc (suc (suc (suc (suc (suc (length (map (ref_word a) (stack ++ replicate (size - length stack) nil_ref) ++ []))))))) - 6 ≡ size =
    omega (
      arith,
      small,
      length-append (map (ref_word a) (stack ++ replicate (size - length stack) nil_ref)) [],
      length-map (ref_word a) (stack ++ replicate (size - length stack) nil_ref),
      length-append stack (replicate (size - length stack) nil_ref),
      length-replicate {A = Ref} (size - length stack) nil_ref,
    ) in
    let back : (r : Ref) → FitsRef n r → ref_by named (ref_word a r) ≡ r = λ r h. ref_back a named n r are h in
    ap (λ (x : Ref). context_by hash x (natural_in_word (2 * pc + 1)) (ref_by named (ref_word a method)) (ref_by named (ref_word a closure)) (ref_by named (ref_word a receiver))
    (map (ref_by named) (take (unwrap_or (natural_in_word (2 * length stack + 1)) 0) tail)) (length words - 6)) (back sender hs)
    ∙ ap (λ (x : Option ℕ). context_by hash sender x (ref_by named (ref_word a method)) (ref_by named (ref_word a closure)) (ref_by named (ref_word a receiver))
    (map (ref_by named) (take (unwrap_or (natural_in_word (2 * length stack + 1)) 0) tail)) (length words - 6)) pc_is
    ∙ ap (λ (x : Ref). context_by hash sender (Some pc) x (ref_by named (ref_word a closure)) (ref_by named (ref_word a receiver))
    (map (ref_by named) (take (unwrap_or (natural_in_word (2 * length stack + 1)) 0) tail)) (length words - 6)) (back method hm)
    ∙ ap₂ (λ (x y : Ref). context_by hash sender (Some pc) method x y
    (map (ref_by named) (take (unwrap_or (natural_in_word (2 * length stack + 1)) 0) tail)) (length words - 6)) (back closure hc) (back receiver hr)
    ∙ ap₂ (λ (xs : List Ref) (k : ℕ). context_by hash sender (Some pc) method closure receiver xs k) stack_is size_is
