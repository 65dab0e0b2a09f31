-- What an object of the heap is as an object of the model: one of four sorts by its class and format.
use Rattle.std.proofs.Common.{◌≡◌, ℕ, zero, suc, ◌<◌, ◌≤◌, Bool, true, false, List, [], ◌∷◌, length, map, take, drop, refl, ap, sym, ◌∙◌, arith, get_or, ap₂, subst}
use Rattle.std.specs.List.{AllPass}
use Rattle.std.specs.Prelude.{slice_index}
use Rattle.std.proofs.lemmas.Bool.Decides.{nat_tests}
use Rattle.std.proofs.lemmas.List.Elements.{All-drop, All-take}
use Rattle.cs_heap.specs.Format.{is_code, is_pointers}
use Rattle.cs_heap.specs.Object.{Object}
use Rattle.cs_model.specs.Ref.{Ref}
use Rattle.cs_model.specs.Obj.{Context, Ctx, Method, Ptr, Raw, Head}
use Rattle.cs_classes.specs.Meaning.{code_in, context_of, depth_in, method_header, is_heap_context, literal_words, method_meaning, obj_of, used_bytes, head_of}
use Rattle.cs_classes.specs.Sound.{references_in}

pub data Sort (x : Object) : Type 0 where
  AContext : (context : is_heap_context x ≡ true) → Sort x
  Pointers : (other : is_heap_context x ≡ false) (pointers : is_pointers x.format ≡ true) → Sort x
  AMethod : (other : is_heap_context x ≡ false) (bits : is_pointers x.format ≡ false) (method : is_code x.format ≡ true) → Sort x
  Bytes : (other : is_heap_context x ≡ false) (bits : is_pointers x.format ≡ false) (bytes : is_code x.format ≡ false) → Sort x

pub sort_of : (x : Object) → Sort x
sort_of x = go (is_heap_context x) (is_pointers x.format) (is_code x.format) refl refl refl
  where
    go : (a b c : Bool) → is_heap_context x ≡ a → is_pointers x.format ≡ b → is_code x.format ≡ c → Sort x
    go true b c p q r = AContext p
    go false true c p q r = Pointers p q
    go false false true p q r = AMethod p q r
    go false false false p q r = Bytes p q r

pub obj_of-context : (refer : ℕ → Ref) (x : Object) → is_heap_context x ≡ true → obj_of refer x ≡ Ctx (context_of refer x.hash x.words)
unfolding obj_of
obj_of-context refer x h = rw h refl

pub obj_of-pointers : (refer : ℕ → Ref) (x : Object) → is_heap_context x ≡ false → is_pointers x.format ≡ true → obj_of refer x ≡ Ptr (head_of x) (map refer x.words)
unfolding obj_of
obj_of-pointers refer x h i = rw (h, i) refl

pub obj_of-method : (refer : ℕ → Ref) (x : Object) → is_heap_context x ≡ false → is_pointers x.format ≡ false → is_code x.format ≡ true
    → obj_of refer x ≡ Method (head_of x) (method_header x.words) (map refer (literal_words x.words)) (used_bytes x.format (code_in x.words))
unfolding obj_of method_meaning
obj_of-method refer x h i j = rw (h, i, j) refl

pub obj_of-bytes : (refer : ℕ → Ref) (x : Object) → is_heap_context x ≡ false → is_pointers x.format ≡ false → is_code x.format ≡ false
    → obj_of refer x ≡ Raw (head_of x) (used_bytes x.format x.words)
unfolding obj_of
obj_of-bytes refer x h i j = rw (h, i, j) refl

-- ---- and from what it is to its sort

pub record IsPointersOf (refer : ℕ → Ref) (x : Object) (head : Head) (refs : List Ref) : Type 0 where
  pub other : is_heap_context x ≡ false
  pub pointers : is_pointers x.format ≡ true
  pub head_is : head_of x ≡ head
  pub slots : map refer x.words ≡ refs

pub pointers_of : (refer : ℕ → Ref) (x : Object) (head : Head) (slots : List Ref) → obj_of refer x ≡ Ptr head slots → IsPointersOf refer x head slots
pointers_of refer x head slots h = go (sort_of x)
  where
    go : Sort x → IsPointersOf refer x head slots
    go (AContext p) = absurd (let e = sym (obj_of-context refer x p) ∙ h in cc)
    go (Pointers p q) = let e = sym (obj_of-pointers refer x p q) ∙ h in record { other = p; pointers = q; head_is = cc; slots = cc }
    go (AMethod p q r) = absurd (let e = sym (obj_of-method refer x p q r) ∙ h in cc)
    go (Bytes p q r) = absurd (let e = sym (obj_of-bytes refer x p q r) ∙ h in cc)

pub record IsContextOf (refer : ℕ → Ref) (x : Object) (c : Context) : Type 0 where
  pub context : is_heap_context x ≡ true
  pub value : context_of refer x.hash x.words ≡ c

pub context_is : (refer : ℕ → Ref) (x : Object) (c : Context) → obj_of refer x ≡ Ctx c → IsContextOf refer x c
context_is refer x c h = go (sort_of x)
  where
    go : Sort x → IsContextOf refer x c
    go (AContext p) = let e = sym (obj_of-context refer x p) ∙ h in record { context = p; value = cc }
    go (Pointers p q) = absurd (let e = sym (obj_of-pointers refer x p q) ∙ h in cc)
    go (AMethod p q r) = absurd (let e = sym (obj_of-method refer x p q r) ∙ h in cc)
    go (Bytes p q r) = absurd (let e = sym (obj_of-bytes refer x p q r) ∙ h in cc)

-- ---- what an object's references refer to decides what it is

pub map_alike : (p : ℕ → Bool) (r s : ℕ → Ref) → ((w : ℕ) → p w ≡ true → r w ≡ s w) → (ws : List ℕ) → AllPass p ws → map r ws ≡ map s ws
map_alike p r s h [] all = refl
map_alike p r s h (w ∷ ws) all = ap₂ (λ (a : Ref) (rest : List Ref). a ∷ rest) (h w (all 0 0 (omega arith))) (map_alike p r s h ws (λ k d l. all (suc k) d (omega (arith, l))))

-- what holds of all words behind the first one
pub behind_first : (P : ℕ → Type 0) (ws : List ℕ) → ((k d : ℕ) → k < length (drop 1 ws) → P (get_or (drop 1 ws) k d)) → (i : ℕ) → 0 < i → i < length ws → P (get_or ws i 0)
behind_first P [] all i some l = absurd (omega (arith, l))
behind_first P (w ∷ ws) all zero some l = absurd (omega (arith, some))
behind_first P (w ∷ ws) all (suc i) some l = all i 0 (omega (arith, l))

pub drop_six : {X : Type 0} (xs : List X) → drop 6 xs ≡ drop 5 (drop 1 xs)
drop_six [] = refl
drop_six (x ∷ xs) = refl

-- the values of a context, where all words behind its sender are alike, and what its sender refers to is equal
pub context_alike : (p : ℕ → Bool) (r s : ℕ → Ref) → ((w : ℕ) → p w ≡ true → r w ≡ s w) → (hash : ℕ) (ws : List ℕ) → 6 ≤ length ws
    → r (slice_index ws 0) ≡ s (slice_index ws 0) → AllPass p (drop 1 ws) → context_of r hash ws ≡ context_of s hash ws
unfolding context_of
context_alike p r s h hash ws enough sender all =
    let word : (i : ℕ) → 0 < i → i < 6 → p (get_or ws i 0) ≡ true = λ i some l. behind_first (λ w. p w ≡ true) ws all i some (omega (arith, l, enough)) in
    let stack : AllPass p (drop 6 ws) = subst (AllPass p) (sym (drop_six ws)) (All-drop (λ (w : ℕ). p w ≡ true) 5 (drop 1 ws) all) in
    λ i. record {
      hash = hash;
      sender = sender i;
      pc = (context_of r hash ws).pc;
      method = h (get_or ws 3 0) (word 3 (omega arith) (omega arith)) i;
      closure = h (get_or ws 4 0) (word 4 (omega arith) (omega arith)) i;
      receiver = h (get_or ws 5 0) (word 5 (omega arith) (omega arith)) i;
      stack = map_alike p r s h (take (depth_in ws) (drop 6 ws)) (All-take (λ (w : ℕ). p w ≡ true) (depth_in ws) (drop 6 ws) stack) i;
      size = (context_of r hash ws).size;
    }

pub not_pointers : (format : ℕ) → is_code format ≡ true → is_pointers format ≡ false
not_pointers format h = grind (arith, nat_tests)

pub references-pointers : (x : Object) → is_heap_context x ≡ false → is_pointers x.format ≡ true → references_in x ≡ x.words
references-pointers x other h = rw (h, other) refl

pub references-context : (x : Object) → is_heap_context x ≡ true → x.format ≡ 3 → references_in x ≡ drop 1 x.words
references-context x c f = let h : is_pointers x.format ≡ true = ap is_pointers f in rw (h, c) refl

pub references-method : (x : Object) → is_code x.format ≡ true → references_in x ≡ literal_words x.words
references-method x h = rw (not_pointers x.format h, h) refl

pub obj_of-alike : (p : ℕ → Bool) (r s : ℕ → Ref) → ((w : ℕ) → p w ≡ true → r w ≡ s w) → (x : Object) → AllPass p (references_in x)
    → (is_heap_context x ≡ true → (x.format ≡ 3) × ((6 ≤ length x.words) × (r (slice_index x.words 0) ≡ s (slice_index x.words 0)))) → obj_of r x ≡ obj_of s x
obj_of-alike p r s h x all context = go (sort_of x)
  where
    go : Sort x → obj_of r x ≡ obj_of s x
    go (AContext c) =
        let shape = context c in
        let words = subst (AllPass p) (references-context x c shape.0) all in
        obj_of-context r x c ∙ ap Ctx (context_alike p r s h x.hash x.words shape.1.0 shape.1.1 words) ∙ sym (obj_of-context s x c)
    go (Pointers o q) =
        let words = subst (AllPass p) (references-pointers x o q) all in
        obj_of-pointers r x o q ∙ ap (Ptr (head_of x)) (map_alike p r s h x.words words) ∙ sym (obj_of-pointers s x o q)
    go (AMethod o b m) =
        let words = subst (AllPass p) (references-method x m) all in
        obj_of-method r x o b m ∙ ap (λ (ls : List Ref). Method (head_of x) (method_header x.words) ls (used_bytes x.format (code_in x.words))) (map_alike p r s h (literal_words x.words) words) ∙ sym (obj_of-method s x o b m)
    go (Bytes o b m) = obj_of-bytes r x o b m ∙ sym (obj_of-bytes s x o b m)
