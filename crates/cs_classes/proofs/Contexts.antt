-- What a context means when one of its words is written.
use Rattle.std.proofs.Common.{◌≡◌, ℕ, zero, suc, ◌+◌, ◌-◌, ◌<◌, ◌≤◌, true, List, [], ◌∷◌, ◌++◌, length, map, take, drop, Option, Some, refl, ap, ap₂, sym, ◌∙◌, arith, get_or, set}
use Rattle.std.specs.Prelude.{slice_index, unwrap_or}
use Rattle.std.proofs.lemmas.List.{get_or-drop, get_or-set_other, get_or-set_same, length-drop, length-map, length-set, length-take, map-append, map-set, set_past, take-map, take_more}
use Rattle.cs_word.specs.Word.{natural_of_word}
use Rattle.cs_heap.specs.Object.{Object}
use Rattle.cs_model.specs.Ref.{Ref}
use Rattle.cs_model.specs.Obj.{edit_context, Context, Ctx, pushed, stored, with_pc, with_stack}
use Rattle.cs_classes.specs.Meaning.{context_of, depth_in, is_heap_context, obj_of}
use Rattle.cs_classes.proofs.Edits.{take_set}
use Rattle.cs_classes.proofs.Sorts.{obj_of-context}

-- a list of at least six words, one by one
pub by_six : (P : List ℕ → Type 0) → ((a b c d e f : ℕ) (rest : List ℕ) → P (a ∷ b ∷ c ∷ d ∷ e ∷ f ∷ rest)) → (ws : List ℕ) → 6 ≤ length ws → P ws
by_six P all [] h = absurd (omega (arith, h))
by_six P all (a ∷ []) h = absurd (omega (arith, h))
by_six P all (a ∷ b ∷ []) h = absurd (omega (arith, h))
by_six P all (a ∷ b ∷ c ∷ []) h = absurd (omega (arith, h))
by_six P all (a ∷ b ∷ c ∷ d ∷ []) h = absurd (omega (arith, h))
by_six P all (a ∷ b ∷ c ∷ d ∷ e ∷ []) h = absurd (omega (arith, h))
by_six P all (a ∷ b ∷ c ∷ d ∷ e ∷ f ∷ rest) h = all a b c d e f rest

-- ---- the six fields

pub context_of-sender : (refer : ℕ → Ref) (hash : ℕ) (ws : List ℕ) (v : ℕ) → 6 ≤ length ws → context_of refer hash (set ws 0 v) ≡ record (context_of refer hash ws) { sender = refer v }
unfolding context_of
context_of-sender refer hash ws v h = by_six (λ us. context_of refer hash (set us 0 v) ≡ record (context_of refer hash us) { sender = refer v }) (λ a b c d e f rest. refl) ws h

pub context_of-pc : (refer : ℕ → Ref) (hash : ℕ) (ws : List ℕ) (v : ℕ) → 6 ≤ length ws → context_of refer hash (set ws 1 v) ≡ with_pc (natural_of_word v) (context_of refer hash ws)
unfolding context_of
context_of-pc refer hash ws v h = by_six (λ us. context_of refer hash (set us 1 v) ≡ with_pc (natural_of_word v) (context_of refer hash us)) (λ a b c d e f rest. refl) ws h

pub context_of-method : (refer : ℕ → Ref) (hash : ℕ) (ws : List ℕ) (v : ℕ) → 6 ≤ length ws → context_of refer hash (set ws 3 v) ≡ record (context_of refer hash ws) { method = refer v }
unfolding context_of
context_of-method refer hash ws v h = by_six (λ us. context_of refer hash (set us 3 v) ≡ record (context_of refer hash us) { method = refer v }) (λ a b c d e f rest. refl) ws h

pub context_of-closure : (refer : ℕ → Ref) (hash : ℕ) (ws : List ℕ) (v : ℕ) → 6 ≤ length ws → context_of refer hash (set ws 4 v) ≡ record (context_of refer hash ws) { closure = refer v }
unfolding context_of
context_of-closure refer hash ws v h = by_six (λ us. context_of refer hash (set us 4 v) ≡ record (context_of refer hash us) { closure = refer v }) (λ a b c d e f rest. refl) ws h

pub context_of-receiver : (refer : ℕ → Ref) (hash : ℕ) (ws : List ℕ) (v : ℕ) → 6 ≤ length ws → context_of refer hash (set ws 5 v) ≡ record (context_of refer hash ws) { receiver = refer v }
unfolding context_of
context_of-receiver refer hash ws v h = by_six (λ us. context_of refer hash (set us 5 v) ≡ record (context_of refer hash us) { receiver = refer v }) (λ a b c d e f rest. refl) ws h

-- stackp says how much of the words behind the fields is the stack
pub context_of-stackp : (refer : ℕ → Ref) (hash : ℕ) (ws : List ℕ) (v : ℕ) → 6 ≤ length ws
    → context_of refer hash (set ws 2 v) ≡ with_stack (map refer (take (unwrap_or (natural_of_word v) 0) (drop 6 ws))) (context_of refer hash ws)
unfolding context_of
context_of-stackp refer hash ws v h =
    by_six (λ us. context_of refer hash (set us 2 v) ≡ with_stack (map refer (take (unwrap_or (natural_of_word v) 0) (drop 6 us))) (context_of refer hash us)) (λ a b c d e f rest. refl) ws h

-- ---- the stack

-- a value of the stack; a word beyond it means nothing
pub context_of-stack : (refer : ℕ → Ref) (hash : ℕ) (ws : List ℕ) (i v : ℕ) → 6 ≤ length ws → context_of refer hash (set ws (6 + i) v) ≡ stored i (refer v) (context_of refer hash ws)
unfolding context_of
context_of-stack refer hash ws i v h = along (6 + i) (omega arith) ∙ by_six (λ us. context_of refer hash (set us (suc (suc (suc (suc (suc (suc i)))))) v) ≡ stored i (refer v) (context_of refer hash us)) go ws h
  where
    along : (n : ℕ) → n ≡ suc (suc (suc (suc (suc (suc i))))) → context_of refer hash (set ws n v) ≡ context_of refer hash (set ws (suc (suc (suc (suc (suc (suc i)))))) v)
    along n e = ap (λ (k : ℕ). context_of refer hash (set ws k v)) e

    go : (a b c d e f : ℕ) (rest : List ℕ) → context_of refer hash (set (a ∷ b ∷ c ∷ d ∷ e ∷ f ∷ rest) (suc (suc (suc (suc (suc (suc i)))))) v) ≡ stored i (refer v) (context_of refer hash (a ∷ b ∷ c ∷ d ∷ e ∷ f ∷ rest))
    go a b c d e f rest =
        let depth : ℕ = unwrap_or (natural_of_word c) 0 in
        let stack : map refer (take depth (set rest i v)) ≡ set (map refer (take depth rest)) i (refer v) = ap (map refer) (take_set depth rest i v) ∙ map-set refer (take depth rest) i v in
        let size = ap (λ (n : ℕ). suc (suc (suc (suc (suc (suc n))))) - 6) (length-set rest i v) in
        λ k. record {
          hash = hash;
          sender = refer a;
          pc = natural_of_word b;
          method = refer d;
          closure = refer e;
          receiver = refer f;
          stack = stack k;
          size = size k;
        }

-- a stackp that fits makes the stack as deep as it says
pub depth_is : (refer : ℕ → Ref) (hash : ℕ) (ws : List ℕ) → depth_in ws ≤ length ws - 6 → length (context_of refer hash ws).stack ≡ depth_in ws
unfolding context_of
depth_is refer hash ws h = length-map (take (depth_in ws) (drop 6 ws)) refer ∙ omega (arith, h, length-take (depth_in ws) (drop 6 ws), length-drop 6 ws)

take_take : {X : Type 0} (m n : ℕ) (xs : List X) → m ≤ length (take n xs) → take m (take n xs) ≡ take m xs
take_take zero n xs h = refl
take_take (suc m) zero xs h = absurd (omega (arith, h))
take_take (suc m) (suc n) [] h = refl
take_take {X = X} (suc m) (suc n) (x ∷ xs) h = ap (λ (zs : List X). x ∷ zs) (take_take m n xs (omega (arith, h)))

-- a lower stackp: the topmost values are gone
pub context_of-lower : (refer : ℕ → Ref) (hash : ℕ) (ws : List ℕ) (v d : ℕ) → 6 ≤ length ws → natural_of_word v ≡ Some d → d ≤ length (context_of refer hash ws).stack
    → context_of refer hash (set ws 2 v) ≡ with_stack (take d (context_of refer hash ws).stack) (context_of refer hash ws)
unfolding context_of
context_of-lower refer hash ws v d h e l =
    context_of-stackp refer hash ws v h
    ∙ ap (λ (xs : List Ref). with_stack xs (context_of refer hash ws))
    (ap (λ (o : Option ℕ). map refer (take (unwrap_or o 0) (drop 6 ws))) e
    ∙ ap (map refer) (sym (take_take d (depth_in ws) (drop 6 ws) (omega (arith, l, length-map (take (depth_in ws) (drop 6 ws)) refer))))
    ∙ sym (take-map refer d (take (depth_in ws) (drop 6 ws))))

-- a stackp that is one higher: the word that was next is the top
pub context_of-higher : (refer : ℕ → Ref) (hash : ℕ) (ws : List ℕ) (v : ℕ) → 6 ≤ length ws → depth_in ws < length ws - 6 → natural_of_word v ≡ Some (depth_in ws + 1)
    → context_of refer hash (set ws 2 v) ≡ pushed (refer (slice_index ws (6 + depth_in ws))) (context_of refer hash ws)
unfolding context_of
context_of-higher refer hash ws v h l e =
    let within : depth_in ws < length (drop 6 ws) = omega (arith, l, length-drop 6 ws) in
    context_of-stackp refer hash ws v h
    ∙ ap (λ (xs : List Ref). with_stack xs (context_of refer hash ws))
    (ap (λ (o : Option ℕ). map refer (take (unwrap_or o 0) (drop 6 ws))) e
    ∙ ap (map refer) (take_more (drop 6 ws) (depth_in ws) 0 within)
    ∙ map-append refer (take (depth_in ws) (drop 6 ws)) (get_or (drop 6 ws) (depth_in ws) 0 ∷ [])
    ∙ ap (λ (w : ℕ). map refer (take (depth_in ws) (drop 6 ws)) ++ refer w ∷ []) (get_or-drop 6 ws (depth_in ws) 0))

-- a word behind the stack means nothing
pub context_of-behind : (refer : ℕ → Ref) (hash : ℕ) (ws : List ℕ) (i v : ℕ) → 6 ≤ length ws → length (context_of refer hash ws).stack ≤ i → context_of refer hash (set ws (6 + i) v) ≡ context_of refer hash ws
context_of-behind refer hash ws i v h l =
    context_of-stack refer hash ws i v h ∙ ap (λ (xs : List Ref). with_stack xs (context_of refer hash ws)) (set_past (context_of refer hash ws).stack i (refer v) l)

-- a push: the word behind the stack, and then stackp
pub context_of-push : (refer : ℕ → Ref) (hash : ℕ) (ws : List ℕ) (v w : ℕ) → 6 ≤ length ws → depth_in ws < length ws - 6 → natural_of_word w ≡ Some (depth_in ws + 1)
    → context_of refer hash (set (set ws (6 + depth_in ws) v) 2 w) ≡ pushed (refer v) (context_of refer hash ws)
context_of-push refer hash ws v w h l e =
    let d : ℕ = depth_in ws in
    let us : List ℕ = set ws (6 + d) v in
    let long : length us ≡ length ws = length-set ws (6 + d) v in
    let deep : depth_in us ≡ d = ap (λ (u : ℕ). unwrap_or (natural_of_word u) 0) (get_or-set_other ws (6 + d) 2 v 0 (λ same. omega (arith, same))) in
    let top : slice_index us (6 + depth_in us) ≡ v = ap (λ (n : ℕ). slice_index us (6 + n)) deep ∙ get_or-set_same ws (6 + d) v 0 (omega (arith, l)) in
    let same = context_of-behind refer hash ws d v h (omega (arith, depth_is refer hash ws (omega (arith, l)))) in
    context_of-higher refer hash us w (omega (arith, long, h)) (omega (arith, long, deep, l)) (e ∙ ap (λ (n : ℕ). Some (n + 1)) (sym deep))
    ∙ ap₂ (λ (u : ℕ) (c : Context). pushed (refer u) c) top same

-- ---- the context as an object

pub obj_of-edit_context : (refer : ℕ → Ref) (x y : Object) (f : Context → Context) → is_heap_context x ≡ true → is_heap_context y ≡ true
    → context_of refer y.hash y.words ≡ f (context_of refer x.hash x.words) → obj_of refer y ≡ edit_context f (obj_of refer x)
obj_of-edit_context refer x y f is also e = obj_of-context refer y also ∙ ap Ctx e ∙ sym (ap (edit_context f) (obj_of-context refer x is))
