-- The heap behind the writes that make a context: one object more at its end, and the words of that object.
use Rattle.std.proofs.Common.{◌≡◌, ℕ, zero, suc, ◌+◌, ◌-◌, ◌<◌, ◌≤◌, true, refl, sym, ap, ◌∙◌, Option, Some, List, [], ◌∷◌, ◌++◌, length, take, drop, replicate, get_or, set, length-take, length-drop, arith}
use Rattle.std.specs.Prelude.{slice_index}
use Rattle.std.specs.Option.{option_map_or}
use Rattle.std.proofs.lemmas.List.{append_assoc, drop-replicate, get_or-drop, length-append, length-replicate, length-set, set-append_right, take_more}
use Rattle.cs_heap.specs.Object.{Object, at_index, base, is_object, new_object, next_address, heap_object, set_word, slot_of, with_object, slot_set}
use Rattle.cs_heap.proofs.Laws.{field_of-old, index_of-below, index_of-old, next_address-set_word, with_object-index, with_slot-new}
use Rattle.cs_heap.proofs.Places.{has_index}
use Rattle.cs_classes.proofs.Heaps.{is_object-object_at}
use Rattle.cs_plain.specs.declared.Fields.{Fields}
use Rattle.cs_plain.specs.Storing.{values_copied, with_fields}

-- ---- lists

pub drop-drop : (n m : ℕ) (xs : List ℕ) → drop n (drop m xs) ≡ drop (m + n) xs
drop-drop n zero xs = ap (λ i. drop i xs) (none n)
  where
    none : (n : ℕ) → n ≡ 0 + n
    none n = omega arith
drop-drop n (suc m) [] = nothing n ∙ sym (nothing (suc m + n))
  where
    nothing : (n : ℕ) → drop {A = ℕ} n [] ≡ []
    nothing zero = refl
    nothing (suc n) = refl
drop-drop n (suc m) (x ∷ xs) = drop-drop n m xs ∙ ap (λ i. drop i (x ∷ xs)) (later m n)
  where
    later : (m n : ℕ) → suc (m + n) ≡ suc m + n
    later m n = omega arith

set_first : (n : ℕ) (rest : List ℕ) (v : ℕ) → n < length rest → set (drop n rest) 0 v ≡ v ∷ drop (suc n) rest
set_first n [] v h = absurd (omega (arith, h))
set_first zero (r ∷ rest) v h = refl
set_first (suc n) (r ∷ rest) v h = set_first n rest v (omega (arith, h))

-- so many words, from this place on, written over the first ones of others
unfoldable words_over : List ℕ → ℕ → ℕ → List ℕ → List ℕ
words_over from at zero rest = rest
words_over from at (suc n) rest = set (words_over from at n rest) n (get_or from (at + n) 0)

words_over-is : (from : List ℕ) (at n : ℕ) (rest : List ℕ) → at + n ≤ length from → n ≤ length rest → words_over from at n rest ≡ take n (drop at from) ++ drop n rest
unfolding words_over
words_over-is from at zero rest h l = refl
words_over-is from at (suc n) rest h l =
    let v : ℕ = get_or from (at + n) 0 in
    let part : List ℕ = take n (drop at from) in
    let within : n < length (drop at from) = omega (arith, h, length-drop at from) in
    let more : take (n + 1) (drop at from) ≡ part ++ v ∷ [] = take_more (drop at from) n 0 within ∙ ap (λ w. part ++ w ∷ []) (get_or-drop at from n 0) in
    ap (λ us. set us n v) (words_over-is from at n rest (omega (arith, h)) (omega (arith, l)))
    ∙ set-append_right part (drop n rest) n n v (omega (arith, within, length-take n (drop at from))) (omega arith)
    ∙ ap (λ i. part ++ set (drop n rest) i v) (nothing n)
    ∙ ap (λ us. part ++ us) (set_first n rest v (omega (arith, l)))
    ∙ sym (append_assoc part (v ∷ []) (drop (suc n) rest))
    ∙ ap (λ us. us ++ drop (suc n) rest) (sym more ∙ ap (λ i. take i (drop at from)) (later n))
  where
    nothing : (n : ℕ) → n - n ≡ 0
    nothing n = omega arith

    later : (n : ℕ) → n + 1 ≡ suc n
    later n = omega arith

-- ---- the new object

unfoldable pub fielded : Fields → Object → Object
fielded f y = set_word 5 f.receiver.0 (set_word 4 f.closure.0 (set_word 3 f.method.0 (set_word 2 f.stackp.0 (set_word 1 f.pc.0 (set_word 0 f.sender.0 y)))))

unfoldable pub stacked : List ℕ → ℕ → ℕ → ℕ → Object → Object
stacked from at start zero y = y
stacked from at start (suc n) y = set_word (start + n) (get_or from (at + n) 0) (stacked from at start n y)

length-stacked : (from : List ℕ) (at start n : ℕ) (y : Object) → length (stacked from at start n y).words ≡ length y.words
unfolding stacked
length-stacked from at start zero y = refl
length-stacked from at start (suc n) y = length-set (stacked from at start n y).words (start + n) (get_or from (at + n) 0) ∙ length-stacked from at start n y

-- all but its words stays
stacked-is : (from : List ℕ) (at start n : ℕ) (y : Object) → stacked from at start n y ≡ record y { words = (stacked from at start n y).words }
unfolding stacked
stacked-is from at start zero y = refl
stacked-is from at start (suc n) y = ap (λ (z : Object). record z { words = set (stacked from at start n y).words (start + n) (get_or from (at + n) 0) }) (stacked-is from at start n y)

stacked-over : (from : List ℕ) (at n : ℕ) (y : Object) (first rest : List ℕ) → n ≤ length rest → y.words ≡ first ++ rest
    → (stacked from at (length first) n y).words ≡ first ++ words_over from at n rest
unfolding stacked words_over
stacked-over from at zero y first rest few h = h
stacked-over from at (suc n) y first rest few h =
    let over : List ℕ = words_over from at n rest in
    ap (λ us. set us (length first + n) (get_or from (at + n) 0)) (stacked-over from at n y first rest (omega (arith, few)) h)
    ∙ set-append_right first over (length first) (length first + n) (get_or from (at + n) 0) refl (omega arith)
    ∙ ap (λ i. first ++ set over i (get_or from (at + n) 0)) (behind (length first) n)
  where
    behind : (m n : ℕ) → m + n - m ≡ n
    behind m n = omega arith

-- so many words of another list, behind the first ones
stacked-words : (from : List ℕ) (at start n : ℕ) (y : Object) (first rest : List ℕ) → start ≡ length first → at + n ≤ length from → n ≤ length rest → y.words ≡ first ++ rest
    → (stacked from at start n y).words ≡ first ++ (take n (drop at from) ++ drop n rest)
stacked-words from at start n y first rest place h few words =
    ap (λ i. (stacked from at i n y).words) place ∙ stacked-over from at n y first rest few words ∙ ap (λ us. first ++ us) (words_over-is from at n rest h few)

-- the object of a context that is made: its fields, values of a stack, copied values, and nil
unfoldable pub context_object : Fields → List ℕ → List ℕ → ℕ → ℕ → ℕ → ℕ → ℕ → Object
context_object f from more at args copied size birth = stacked more 3 (6 + args) copied (stacked from at 6 args (fielded f (new_object 36 3 (6 + size) birth)))

abbrev pub context_words : Fields → List ℕ → List ℕ → ℕ → List ℕ
context_words f values more left = f.sender.0 ∷ f.pc.0 ∷ f.stackp.0 ∷ f.method.0 ∷ f.closure.0 ∷ f.receiver.0 ∷ (values ++ (more ++ replicate left base))

-- a closure has its copied values
abbrev pub HasCopied : List ℕ → ℕ → Type 0
HasCopied more copied = length (take copied (drop 3 more)) ≡ copied

pub context_object-is : (f : Fields) (from more : List ℕ) (at args copied size birth : ℕ) → at + args ≤ length from → HasCopied more copied → args + copied ≤ size
    → context_object f from more at args copied size birth
    ≡ record (new_object 36 3 (6 + size) birth) { words = context_words f (take args (drop at from)) (take copied (drop 3 more)) (size - (args + copied)) }
unfolding fielded context_object stacked
context_object-is f from more at args copied size birth h long l =
    let y : Object = new_object 36 3 (6 + size) birth in
    let six : 6 + size ≡ suc (suc (suc (suc (suc (suc size))))) = omega arith in
    let first : List ℕ = f.sender.0 ∷ f.pc.0 ∷ f.stackp.0 ∷ f.method.0 ∷ f.closure.0 ∷ f.receiver.0 ∷ [] in
    let values : List ℕ = take args (drop at from) in
    let fields : (fielded f y).words ≡ first ++ replicate size base =
    ap (λ n. set (set (set (set (set (set (replicate n base) 0 f.sender.0) 1 f.pc.0) 2 f.stackp.0) 3 f.method.0) 4 f.closure.0) 5 f.receiver.0) six in
    let one : (stacked from at 6 args (fielded f y)).words ≡ (first ++ values) ++ replicate (size - args) base =
    stacked-words from at 6 args (fielded f y) first (replicate size base) refl h (omega (arith, l, length-replicate size base)) fields
    ∙ ap (λ us. first ++ (values ++ us)) (drop-replicate args size base) ∙ sym (append_assoc first values (replicate (size - args) base)) in
    let values_long : length (first ++ values) ≡ 6 + args = omega (arith, h, length-append first values, length-take args (drop at from), length-drop at from) in
    let two = second (stacked from at 6 args (fielded f y)) (first ++ values) (size - args) (sym values_long) one (omega (arith, l)) in
    let all = two ∙ ap (λ n. (first ++ values) ++ (take copied (drop 3 more) ++ replicate n base)) (omega (arith, l)) ∙ append_assoc first values (take copied (drop 3 more) ++ replicate (size - (args + copied)) base) in
    stacked-is more 3 (6 + args) copied (stacked from at 6 args (fielded f y))
    ∙ ap (λ (z : Object). record z { words = (stacked more 3 (6 + args) copied (stacked from at 6 args (fielded f y))).words }) (stacked-is from at 6 args (fielded f y))
    ∙ ap (λ us. record y { words = us }) all
  where
    second : (z : Object) (first : List ℕ) (left : ℕ) → 6 + args ≡ length first → z.words ≡ first ++ replicate left base → copied ≤ left
        → (stacked more 3 (6 + args) copied z).words ≡ first ++ (take copied (drop 3 more) ++ replicate (left - copied) base)
    second z first left place words few = go copied long few
      where
        minus : (n : ℕ) → n ≡ n - 0
        minus n = omega arith

        go : (n : ℕ) → HasCopied more n → n ≤ left → (stacked more 3 (6 + args) n z).words ≡ first ++ (take n (drop 3 more) ++ replicate (left - n) base)
        go zero long few = words ∙ ap (λ n. first ++ replicate n base) (minus left)
        go (suc n) long few =
            stacked-words more 3 (6 + args) (suc n) z first (replicate left base) place (omega (arith, long, length-take (suc n) (drop 3 more), length-drop 3 more)) (omega (arith, few, length-replicate left base)) words
            ∙ ap (λ us. first ++ (take (suc n) (drop 3 more) ++ us)) (drop-replicate (suc n) left base)

-- ---- the heap

with_fields-new : (os : List Object) (y : Object) (a : ℕ) (f : Fields) → a ≡ next_address os (length y.words) → with_fields (os ++ y ∷ []) a f ≡ os ++ fielded f y ∷ []
unfolding fielded
with_fields-new os y a f h =
    let y0 : Object = set_word 0 f.sender.0 y in
    let y1 : Object = set_word 1 f.pc.0 y0 in
    let y2 : Object = set_word 2 f.stackp.0 y1 in
    let y3 : Object = set_word 3 f.method.0 y2 in
    let y4 : Object = set_word 4 f.closure.0 y3 in
    let h0 = next_address-set_word os y a 0 f.sender.0 h in
    let h1 = next_address-set_word os y0 a 1 f.pc.0 h0 in
    let h2 = next_address-set_word os y1 a 2 f.stackp.0 h1 in
    let h3 = next_address-set_word os y2 a 3 f.method.0 h2 in
    let h4 = next_address-set_word os y3 a 4 f.closure.0 h3 in
    ap (λ us. slot_set (slot_set (slot_set (slot_set (slot_set us a 1 f.pc.0) a 2 f.stackp.0) a 3 f.method.0) a 4 f.closure.0) a 5 f.receiver.0) (with_slot-new os y a 0 f.sender.0 h)
    ∙ ap (λ us. slot_set (slot_set (slot_set (slot_set us a 2 f.stackp.0) a 3 f.method.0) a 4 f.closure.0) a 5 f.receiver.0) (with_slot-new os y0 a 1 f.pc.0 h0)
    ∙ ap (λ us. slot_set (slot_set (slot_set us a 3 f.method.0) a 4 f.closure.0) a 5 f.receiver.0) (with_slot-new os y1 a 2 f.stackp.0 h1)
    ∙ ap (λ us. slot_set (slot_set us a 4 f.closure.0) a 5 f.receiver.0) (with_slot-new os y2 a 3 f.method.0 h2)
    ∙ ap (λ us. slot_set us a 5 f.receiver.0) (with_slot-new os y3 a 4 f.closure.0 h3)
    ∙ with_slot-new os y4 a 5 f.receiver.0 h4

copied-new : (os : List Object) (y x : Object) (a b at start n : ℕ) → heap_object os b ≡ Some x → a ≡ next_address os (length y.words)
    → values_copied (os ++ y ∷ []) b at a start n ≡ os ++ stacked x.words at start n y ∷ []
unfolding values_copied stacked
copied-new os y x a b at start zero there h = refl
copied-new os y x a b at start (suc n) there h =
    let z : Object = stacked x.words at start n y in
    let us : List Object = os ++ z ∷ [] in
    let read : slot_of us b (at + n) ≡ get_or x.words (at + n) 0 =
    field_of-old (λ (o : Object). slice_index o.words (at + n)) os z b (is_object-object_at os b x there)
    ∙ ap (λ (o : Option Object). option_map_or (λ (v : Object). slice_index v.words (at + n)) o 0) there in
    ap (λ ts. slot_set ts a (start + n) (slot_of ts b (at + n))) (copied-new os y x a b at start n there h)
    ∙ ap (slot_set us a (start + n)) read
    ∙ with_slot-new os z a (start + n) (get_or x.words (at + n) 0) (h ∙ ap (next_address os) (sym (length-stacked x.words at start n y)))

-- a write to an object that stands, before the new one or behind it
with_object-old : (os : List Object) (y : Object) (a : ℕ) (g : Object → Object) → is_object os a ≡ true → with_object (os ++ y ∷ []) a g ≡ with_object os a g ++ y ∷ []
unfolding at_index
with_object-old os y a g h =
    let f = has_index os a h in
    with_object-index (os ++ y ∷ []) a f.0 g (index_of-old os y a f.0 f.1.index_is)
    ∙ within f.0 os (index_of-below os a f.0 f.1.index_is)
    ∙ sym (ap (λ us. us ++ y ∷ []) (with_object-index os a f.0 g f.1.index_is))
  where
    within : (k : ℕ) (os : List Object) → k < length os → at_index k g (os ++ y ∷ []) ≡ at_index k g os ++ y ∷ []
    within k [] l = absurd (omega (arith, l))
    within zero (x ∷ os) l = refl
    within (suc k) (x ∷ os) l = ap (λ us. x ∷ us) (within k os (omega (arith, l)))

pub context_added : (os : List Object) (x y : Object) (f : Fields) (a b c at args copies size birth v : ℕ) → heap_object os b ≡ Some x → heap_object os c ≡ Some y → a ≡ next_address os (6 + size)
    → slot_set (values_copied (values_copied (with_fields (os ++ new_object 36 3 (6 + size) birth ∷ []) a f) b at a 6 args) c 3 a (6 + args) copies) b 2 v
    ≡ slot_set os b 2 v ++ context_object f x.words y.words at args copies size birth ∷ []
unfolding fielded context_object
context_added os x y f a b c at args copies size birth v there copied_there h =
    let z : Object = new_object 36 3 (6 + size) birth in
    let long : length z.words ≡ 6 + size = length-replicate (6 + size) base in
    let first : a ≡ next_address os (length z.words) = h ∙ ap (next_address os) (sym long) in
    let later : a ≡ next_address os (length (fielded f z).words) = first ∙ ap (next_address os) (sym (six z)) in
    ap (λ us. slot_set (values_copied (values_copied us b at a 6 args) c 3 a (6 + args) copies) b 2 v) (with_fields-new os z a f first)
    ∙ ap (λ us. slot_set (values_copied us c 3 a (6 + args) copies) b 2 v) (copied-new os (fielded f z) x a b at 6 args there later)
    ∙ ap (λ us. slot_set us b 2 v) (copied-new os (stacked x.words at 6 args (fielded f z)) y a c 3 (6 + args) copies copied_there (later ∙ ap (next_address os) (sym (length-stacked x.words at 6 args (fielded f z)))))
    ∙ with_object-old os (context_object f x.words y.words at args copies size birth) b (set_word 2 v) (is_object-object_at os b x there)
  where
    six : (y : Object) → length (fielded f y).words ≡ length y.words
    six y =
        let w0 : List ℕ = set y.words 0 f.sender.0 in
        let w1 : List ℕ = set w0 1 f.pc.0 in
        let w2 : List ℕ = set w1 2 f.stackp.0 in
        let w3 : List ℕ = set w2 3 f.method.0 in
        let w4 : List ℕ = set w3 4 f.closure.0 in
        length-set w4 5 f.receiver.0 ∙ length-set w3 4 f.closure.0 ∙ length-set w2 3 f.method.0 ∙ length-set w1 2 f.stackp.0 ∙ length-set w0 1 f.pc.0 ∙ length-set y.words 0 f.sender.0
