-- What making a method leaves in the heap.
use Rattle.std.proofs.Common.{◌≡◌, ℕ, zero, suc, pos, ◌+◌, ◌-◌, ◌*◌, ◌/◌, ◌%◌, ◌<◌, ◌≤◌, false, refl, ap, sym, ◌∙◌, List, [], ◌∷◌, ◌++◌, length, replicate, set, arith}
use Rattle.std.proofs.lemmas.Bool.Decides.{nat_tests}
use Rattle.std.proofs.lemmas.List.{length-replicate, length-set}
use Rattle.cs_word.specs.Word.{small_word}
use Rattle.cs_heap.specs.Object.{Memory, Object, base, is_watched, new_object, new_slot, next_address, set_word, slot_count_of, slot_set}
use Rattle.cs_heap.specs.Writes.{object_added, slot_stored}
use Rattle.cs_heap.proofs.Writes.{slot_stored-unwatched}
use Rattle.cs_heap.proofs.Laws.{field_of-new, length-new_words, next_address-new, next_address-set_word, slot_count_of-with_slot, with_slot-new}
use Rattle.cs_model.specs.Obj.{literal_count}
use Rattle.cs_classes.specs.Methods.{method_added, coded_method, method_slots, nil_literals}

count-nil : (os : List Object) (a n b : ℕ) → slot_count_of (nil_literals os a n) b ≡ slot_count_of os b
unfolding nil_literals
count-nil os a zero b = refl
count-nil os a (suc n) b = slot_count_of-with_slot (nil_literals os a n) a (1 + n) base b ∙ count-nil os a n b

pub count-in_nil : (g h : Memory) (a n b : ℕ) → g ≡ record h { objects = nil_literals h.objects a n } → slot_count_of g.objects b ≡ slot_count_of h.objects b
count-in_nil g h a n b e = ap (λ (m : Memory). slot_count_of m.objects b) e ∙ count-nil h.objects a n b

-- one more literal of an object that isn't watched
pub nil-more : (h g k : Memory) (a n : ℕ) → g ≡ record h { objects = nil_literals h.objects a n } → is_watched h a ≡ false → k ≡ slot_stored g a (1 + n) base
    → k ≡ record h { objects = nil_literals h.objects a (n + 1) }
unfolding nil_literals
nil-more h g k a n before unwatched stored =
    stored ∙ ap (λ (m : Memory). slot_stored m a (1 + n) base) before
    ∙ slot_stored-unwatched (record h { objects = nil_literals h.objects a n }) a (1 + n) base unwatched
    ∙ ap (λ (j : ℕ). record h { objects = nil_literals h.objects a j }) (later n)
  where
    later : (n : ℕ) → suc n ≡ n + 1
    later n = omega arith

-- so many words behind the first are nil
nil_words : List ℕ → ℕ → List ℕ
nil_words ws zero = ws
nil_words ws (suc n) = set (nil_words ws n) (suc n) base

length-nil : (ws : List ℕ) (n : ℕ) → length (nil_words ws n) ≡ length ws
unfolding nil_words
length-nil ws zero = refl
length-nil ws (suc n) = length-set (nil_words ws n) (suc n) base ∙ length-nil ws n

-- which are those of a method
nil-words : (w n m : ℕ) → nil_words (w ∷ replicate (n + m) 0) n ≡ w ∷ replicate n base ++ replicate m 0
unfolding nil_words
nil-words w zero m = ap (λ (k : ℕ). w ∷ replicate k 0) (none m)
  where
    none : (m : ℕ) → zero + m ≡ m
    none m = omega arith
nil-words w (suc n) m =
    ap (λ (k : ℕ). set (nil_words (w ∷ replicate k 0) n) (suc n) base) (more n m) ∙ ap (λ (ws : List ℕ). set ws (suc n) base) (nil-words w n (suc m))
    ∙ ap (λ (ws : List ℕ). w ∷ ws) (at n m)
  where
    more : (n m : ℕ) → suc n + m ≡ n + suc m
    more n m = omega arith

    at : (n m : ℕ) → set (replicate n base ++ replicate (suc m) 0) n base ≡ replicate (suc n) base ++ replicate m 0
    at zero m = refl
    at (suc n) m = ap (λ (ws : List ℕ). base ∷ ws) (at n m)

-- the literals of a new object at the end
nil-new : (os : List Object) (y : Object) (a n : ℕ) → a ≡ next_address os (length y.words) → nil_literals (os ++ y ∷ []) a n ≡ os ++ record y { words = nil_words y.words n } ∷ []
unfolding nil_literals nil_words
nil-new os y a zero e = refl
nil-new os y a (suc n) e =
    ap (λ (us : List Object). slot_set us a (1 + n) base) (nil-new os y a n e)
    ∙ ap (λ (i : ℕ). slot_set (os ++ record y { words = nil_words y.words n } ∷ []) a i base) (next n)
    ∙ with_slot-new os (record y { words = nil_words y.words n }) a (suc n) base (e ∙ ap (next_address os) (sym (length-nil y.words n)))
  where
    next : (n : ℕ) → 1 + n ≡ suc n
    next n = omega arith

-- the header is written, and the literals are nil
pub method-made : (m k : Memory) (a class format header count slots birth : ℕ) → a ≡ next_address m.objects slots → slots ≡ method_slots header count → format ≡ 24 + (3 - (count + 3) % 4)
    → k ≡ record m { objects = nil_literals (slot_set (m.objects ++ record (new_object class format slots birth) { words = replicate slots 0 } ∷ []) a 0 (small_word (pos header))) a (literal_count header) }
    → k ≡ method_added m class header count birth
method-made m k a class format header count slots birth at long form made =
    let y : Object = record (new_object class format slots birth) { words = replicate slots 0 } in
    let next : a ≡ next_address m.objects (length y.words) = at ∙ ap (next_address m.objects) (sym (length-replicate slots 0)) in
    let n : ℕ = literal_count header in
    let c : ℕ = (count + 3) / 4 in
    let many : slots ≡ suc (n + c) = long ∙ sum n c in
    made
    ∙ ap (λ (us : List Object). record m { objects = nil_literals us a n }) (with_slot-new m.objects y a 0 (small_word (pos header)) next)
    ∙ ap (λ (us : List Object). record m { objects = us }) (nil-new m.objects (set_word 0 (small_word (pos header)) y) a n (next_address-set_word m.objects y a 0 (small_word (pos header)) next))
    ∙ ap (λ (ws : List ℕ). record m { objects = m.objects ++ record y { words = nil_words ws n } ∷ [] }) (ap (λ (k : ℕ). set (replicate k 0) 0 (small_word (pos header))) many)
    ∙ ap (λ (ws : List ℕ). record m { objects = m.objects ++ record y { words = ws } ∷ [] }) (nil-words (small_word (pos header)) n c)
    ∙ ap (λ (f : ℕ). record m { objects = m.objects ++ record (coded_method class header count birth) { format = f } ∷ [] }) form
  where
    sum : (n c : ℕ) → 1 + n + c ≡ suc (n + c)
    sum n c = omega arith

-- how many slots the new object has
pub new_count : (m k : Memory) (a class format slots birth : ℕ) → k ≡ object_added m class format slots birth → a ≡ next_address m.objects slots → slot_count_of k.objects a ≡ slots
new_count m k a class format slots birth e at =
    ap (λ (n : Memory). slot_count_of n.objects a) e
    ∙ field_of-new (λ (x : Object). length x.words) m.objects (new_object class format slots birth) a (next_address-new m.objects a class format slots birth at)
    ∙ length-new_words class format slots birth

pub stored_count : (m k : Memory) (a i v : ℕ) → k ≡ slot_stored m a i v → slot_count_of k.objects a ≡ slot_count_of m.objects a
stored_count m k a i v e = ap (λ (n : Memory). slot_count_of n.objects a) e ∙ slot_count_of-with_slot m.objects a i v a

-- the calls one behind the other
pub method-chain : (m h j k : Memory) (a class format header count slots birth : ℕ) → a ≡ next_address m.objects slots → slots ≡ method_slots header count → format ≡ 24 + (3 - (count + 3) % 4)
    → h ≡ object_added m class format slots birth → is_watched h a ≡ false → j ≡ slot_stored h a 0 (small_word (pos header))
    → k ≡ record j { objects = nil_literals j.objects a (literal_count header) } → k ≡ method_added m class header count birth
method-chain m h j k a class format header count slots birth at long form added unwatched stored filled =
    method-made m k a class format header count slots birth at long form
    (filled ∙ ap (λ (n : Memory). record n { objects = nil_literals n.objects a (literal_count header) }) (stored ∙ slot_stored-unwatched h a 0 (small_word (pos header)) unwatched)
    ∙ ap (λ (n : Memory). record n { objects = nil_literals (slot_set n.objects a 0 (small_word (pos header))) a (literal_count header) }) added
    ∙ ap (λ (v : ℕ). record m { objects = nil_literals (slot_set (m.objects ++ record (new_object class format slots birth) { words = replicate slots v } ∷ []) a 0 (small_word (pos header))) a (literal_count header) }) (zeros format form))
  where
    zeros : (f : ℕ) → f ≡ 24 + (3 - (count + 3) % 4) → new_slot f ≡ 0
    zeros f e = grind (arith, nat_tests, e)
