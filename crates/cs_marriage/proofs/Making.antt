-- A new context is written.
use Rattle.std.proofs.Common.{◌≡◌, ℕ, ◌+◌, Bool, true, false, List, ◌∷◌, length, replicate, refl, ap, ◌∙◌}
use Rattle.std.specs.Prelude.{slice_set, if◌then◌else◌, ◌==◌, ◌/◌, ◌%◌, ◌^◌}
use Rattle.cs_heap.specs.Object.{Object, new_object, next_address, no_flags, set_word, slot_count_of, slot_set}
use Rattle.cs_heap.proofs.Laws.{field_of-new, length-new_words, next_address-new, next_address-set_word, pushed, with_slot-new}
use Rattle.cs_model.specs.Obj.{context_size}
use Rattle.cs_frame.specs.declared.FrameRef.{FrameRef}
use Rattle.cs_frame.specs.Frame.{Frame, nil}
use Rattle.cs_marriage.specs.Place.{link_word}
use Rattle.cs_marriage.specs.Agree.{header_at}
use Rattle.cs_marriage.specs.Marriage.{new_size, new_spouse}

-- how many slots a new context has
pub new_count : (os : List Object) (size birth a : ℕ) → a ≡ next_address os (6 + size) → slot_count_of (pushed os (new_object 36 3 (6 + size) birth)) a ≡ 6 + size
new_count os size birth a at =
    field_of-new (λ x. length x.words) os (new_object 36 3 (6 + size) birth) a (next_address-new os a 36 3 (6 + size) birth at) ∙ length-new_words 36 3 (6 + size) birth

module _ (os : List Object) (size birth a : ℕ) (at : a ≡ next_address os (6 + size)) where
  abbrev pub blank : Object
  blank = new_object 36 3 (6 + size) birth

  at_blank : a ≡ next_address os (length blank.words)
  at_blank = next_address-new os a 36 3 (6 + size) birth at

  pub written : (l m c r : ℕ) → slot_set (slot_set (slot_set (slot_set (pushed os blank) a 0 l) a 3 m) a 4 c) a 5 r
      ≡ pushed os (set_word 5 r (set_word 4 c (set_word 3 m (set_word 0 l blank))))
  written l m c r =
      let x = set_word 0 l blank in let y = set_word 3 m x in let z = set_word 4 c y in
      let ax = next_address-set_word os blank a 0 l at_blank in
      let ay = next_address-set_word os x a 3 m ax in
      let az = next_address-set_word os y a 4 c ay in
      ap (λ (ws : List Object). slot_set (slot_set (slot_set ws a 3 m) a 4 c) a 5 r) (with_slot-new os blank a 0 l at_blank)
      ∙ (ap (λ (ws : List Object). slot_set (slot_set ws a 4 c) a 5 r) (with_slot-new os x a 3 m ax)
      ∙ (ap (λ (ws : List Object). slot_set ws a 5 r) (with_slot-new os y a 4 c ay)
      ∙ with_slot-new os z a 5 r az))

abbrev pub spouse_with : ℕ → List ℕ → Object
spouse_with birth ws = record { class = 36; flags = no_flags; format = 3; hash = 0; birth = birth; words = ws }

-- the words are those of a context
pub words_written : (header birth l m c r : ℕ) → set_word 5 r (set_word 4 c (set_word 3 m (set_word 0 l (new_object 36 3 (6 + context_size header) birth))))
    ≡ spouse_with birth (l ∷ nil ∷ nil ∷ m ∷ c ∷ r ∷ replicate (context_size header) nil)
words_written header birth l m c r = ap (spouse_with birth) (go (header / 2 ^ 17 % 2 == 1))
  where
    go : (b : Bool) → slice_set (slice_set (slice_set (slice_set (replicate (6 + (if b then 56 else 16)) nil) 0 l) 3 m) 4 c) 5 r
        ≡ l ∷ nil ∷ nil ∷ m ∷ c ∷ r ∷ replicate (if b then 56 else 16) nil
    go true = refl
    go false = refl

pub spouse_written : (os : List Object) (q : FrameRef) (f : Frame) (size birth l m c r : ℕ) → size ≡ new_size os f → birth ≡ f.birth → l ≡ link_word q → m ≡ f.method
    → c ≡ f.closure → r ≡ f.receiver
    → set_word 5 r (set_word 4 c (set_word 3 m (set_word 0 l (new_object 36 3 (6 + size) birth)))) ≡ new_spouse q (new_size os f) f
spouse_written os q f size birth l m c r es eb el em ec er =
    let tail = replicate (new_size os f) nil in
    ap (λ n. set_word 5 r (set_word 4 c (set_word 3 m (set_word 0 l (new_object 36 3 (6 + n) birth))))) es
    ∙ (words_written (header_at os f.method) birth l m c r
    ∙ (ap (λ n. spouse_with n (l ∷ nil ∷ nil ∷ m ∷ c ∷ r ∷ tail)) eb
    ∙ (ap (λ n. spouse_with f.birth (n ∷ nil ∷ nil ∷ m ∷ c ∷ r ∷ tail)) el
    ∙ (ap (λ n. spouse_with f.birth (link_word q ∷ nil ∷ nil ∷ n ∷ c ∷ r ∷ tail)) em
    ∙ (ap (λ n. spouse_with f.birth (link_word q ∷ nil ∷ nil ∷ f.method ∷ n ∷ r ∷ tail)) ec
    ∙ ap (λ n. spouse_with f.birth (link_word q ∷ nil ∷ nil ∷ f.method ∷ f.closure ∷ n ∷ tail)) er)))))
