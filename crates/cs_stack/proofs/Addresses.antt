-- Words that name nil, or an object of one class: senders and closures.
use Rattle.std.proofs.Common.{◌≡◌, ℕ, ◌<◌, Bool, true, false, refl, sym, ap, ap₂, subst, ◌∙◌, List, [], ◌∷◌, ◌++◌, length, ◌⊎◌, inl, inr, zero, suc, arith}
use Rattle.std.specs.Prelude.{◌&&◌, ◌==◌, ◌||◌, ◌≤◌, ◌-◌, IsTrue, drop, is_some, slice_index, unwrap_or}
use Rattle.std.specs.List.{AllPass}
use Rattle.std.proofs.lemmas.List.Elements.{All-cons}
use Rattle.std.proofs.lemmas.Bool.{eq-eqb, eqb-true, or_left, or_right}
use Rattle.cs_word.specs.Word.{natural_of_word}
use Rattle.cs_heap.specs.Object.{Object, class_at, is_object, with_object}
use Rattle.cs_heap.proofs.Laws.{field_of-old, is_object-old, is_object-with_object}
use Rattle.cs_classes.specs.Sound.{is_closure_address, is_reference, is_reference_kind, is_sender, is_sender_kind, nil_word}
use Rattle.cs_classes.proofs.Heaps.{IsEdit}
use Rattle.cs_classes.proofs.Refs.{both_true, either_true, is_nil_or_closure, is_reference-object, is_sender-context, is_sender-nil, class_of-with_object}
use Rattle.cs_classes.proofs.Sounds.{IsContextWrite, IsWholeContext}
use Rattle.cs_frame.specs.Frame.{nil}
use Rattle.cs_marriage.specs.Place.{names_place}
use Rattle.cs_marriage.proofs.Places.{place_small}
use Rattle.cs_model.specs.Context.{closure_class}
use Rattle.cs_model.specs.Obj.{context_class}
use Rattle.cs_stack.specs.Good.{SenderFits, is_nil_or}

-- ---- what it names

pub nil_or_there : (class : ℕ) (os : List Object) (v : ℕ) → is_nil_or class os v ≡ true → is_object os v ≡ true
nil_or_there class os v h = (both_true (is_object os v) (v == nil || class_at os v == class) h).0

pub nil_or_named : (class : ℕ) (os : List Object) (v : ℕ) → is_nil_or class os v ≡ true → is_reference os v ≡ true
nil_or_named class os v h = is_reference-object os v (nil_or_there class os v h)

pub nil_or_which : (class : ℕ) (os : List Object) (v : ℕ) → is_nil_or class os v ≡ true → ((v == nil) ≡ true) ⊎ ((class_at os v == class) ≡ true)
nil_or_which class os v h = either_true (v == nil) (class_at os v == class) (both_true (is_object os v) (v == nil || class_at os v == class) h).1

pub nil_or_nil : (class : ℕ) (os : List Object) → is_object os nil ≡ true → is_nil_or class os nil ≡ true
nil_or_nil class os there = ap (λ b. b && (nil == nil || class_at os nil == class)) there ∙ or_left (nil == nil) (class_at os nil == class) (eq-eqb nil nil refl)

pub nil_or_of : (class : ℕ) (os : List Object) (v : ℕ) → is_object os v ≡ true → class_at os v ≡ class → is_nil_or class os v ≡ true
nil_or_of class os v there e = ap (λ b. b && (v == nil || class_at os v == class)) there ∙ or_right (v == nil) (class_at os v == class) (eq-eqb (class_at os v) class e)

-- a closure, as a sound context has it
pub closure_sound : (os : List Object) (v : ℕ) → nil_word os ≡ nil → is_nil_or closure_class os v ≡ true → is_nil_or_closure os v ≡ true
closure_sound os v e h =
    let s = both_true (is_object os v) (v == nil || class_at os v == closure_class) h in
    go s.0 (either_true (v == nil) (class_at os v == closure_class) s.1)
  where
    go : is_object os v ≡ true → ((v == nil) ≡ true) ⊎ ((class_at os v == closure_class) ≡ true) → is_nil_or_closure os v ≡ true
    go there (inl is) = or_left (v == nil_word os) (is_closure_address os v) (ap (λ n. v == n) e ∙ is)
    go there (inr is) = or_right (v == nil_word os) (is_closure_address os v) (ap₂ (λ a b. a && b) there is)

pub closure_from : (os : List Object) (v : ℕ) → nil_word os ≡ nil → is_object os nil ≡ true → is_nil_or_closure os v ≡ true → is_nil_or closure_class os v ≡ true
closure_from os v e there h = go (either_true (v == nil_word os) (is_closure_address os v) h)
  where
    both : is_object os v ≡ true → (v == nil || class_at os v == closure_class) ≡ true → is_nil_or closure_class os v ≡ true
    both a b = ap₂ (λ c d. c && d) a b

    go : ((v == nil_word os) ≡ true) ⊎ (is_closure_address os v ≡ true) → is_nil_or closure_class os v ≡ true
    go (inl is) =
        let same : (v == nil) ≡ true = ap (λ n. v == n) (sym e) ∙ is in
        both (ap (is_object os) (eqb-true v nil same) ∙ there) (or_left (v == nil) (class_at os v == closure_class) same)
    go (inr is) =
        let s = both_true (is_object os v) (class_at os v == closure_class) is in
        both s.0 (or_right (v == nil) (class_at os v == closure_class) s.1)

-- a sender, as a sound context has it
pub sender_sound : (os : List Object) (v : ℕ) → nil_word os ≡ nil → is_nil_or context_class os v ≡ true → is_sender os v ≡ true
sender_sound os v e h =
    let s = both_true (is_object os v) (v == nil || class_at os v == context_class) h in
    go s.0 (either_true (v == nil) (class_at os v == context_class) s.1)
  where
    go : is_object os v ≡ true → ((v == nil) ≡ true) ⊎ ((class_at os v == context_class) ≡ true) → is_sender os v ≡ true
    go there (inl is) =
        let same : nil_word os ≡ v = e ∙ sym (eqb-true v nil is) in
        subst (λ n. is_sender os n ≡ true) same (is_sender-nil os (ap (is_object os) same ∙ there))
    go there (inr is) = is_sender-context os v there (eqb-true (class_at os v) context_class is)

-- ---- a word of a context

-- a word that names a place is a SmallInteger, so it is a reference, and may stand for a sender
pub place_reference : (os : List Object) (w : ℕ) → names_place w ≡ true → is_reference os w ≡ true
unfolding is_reference
place_reference os w named = ap (is_reference_kind os) (place_small w named)

pub place_sender : (os : List Object) (w : ℕ) → names_place w ≡ true → is_sender os w ≡ true
unfolding is_sender
place_sender os w named = ap (is_sender_kind os) (place_small w named)

pub sender_there : (os : List Object) (x : Object) → SenderFits os x → is_reference os (slice_index x.words 0) ≡ true
sender_there os x h = go (either_true (names_place (slice_index x.words 0)) (is_nil_or context_class os (slice_index x.words 0)) h)
  where
    go : (names_place (slice_index x.words 0) ≡ true) ⊎ (is_nil_or context_class os (slice_index x.words 0) ≡ true) → is_reference os (slice_index x.words 0) ≡ true
    go (inl e) = place_reference os (slice_index x.words 0) e
    go (inr e) = nil_or_named context_class os (slice_index x.words 0) e

-- where it names no place
pub sender_single : (os : List Object) (x : Object) → SenderFits os x → names_place (slice_index x.words 0) ≡ false → is_nil_or context_class os (slice_index x.words 0) ≡ true
sender_single os x h single = ap (λ b. b || is_nil_or context_class os (slice_index x.words 0)) (sym single) ∙ h

pub word_there : (os : List Object) (x : Object) → IsWholeContext os x → SenderFits os x → (i : ℕ) → i < length x.words → is_reference os (slice_index x.words i) ≡ true
word_there os x whole sender zero l = sender_there os x sender
word_there os x whole sender (suc i) l = whole.references (suc i) (omega arith) l

-- ---- the heap changes

pub nil_or-push : (class : ℕ) (os : List Object) (y : Object) (v : ℕ) → is_nil_or class os v ≡ true → is_nil_or class (os ++ y ∷ []) v ≡ true
nil_or-push class os y v h =
    let there = nil_or_there class os v h in
    ap₂ (λ (b : Bool) (n : ℕ). b && (v == nil || n == class)) (is_object-old os y v there ∙ sym there) (field_of-old (λ x. x.class) os y v there) ∙ h

pub nil_or-with_object : (class : ℕ) (os : List Object) (a : ℕ) (f : Object → Object) → IsEdit f → is_nil_or class (with_object os a f) ≡ is_nil_or class os
nil_or-with_object class os a f edit = λ i v. is_object-with_object os a v f edit.slots i && (v == nil || class_of-with_object os a v f edit i == class)

pub sender_fits-push : (os : List Object) (y x : Object) → SenderFits os x → SenderFits (os ++ y ∷ []) x
sender_fits-push os y x h = go (either_true (names_place (slice_index x.words 0)) (is_nil_or context_class os (slice_index x.words 0)) h)
  where
    go : (names_place (slice_index x.words 0) ≡ true) ⊎ (is_nil_or context_class os (slice_index x.words 0) ≡ true) → SenderFits (os ++ y ∷ []) x
    go (inl e) = or_left (names_place (slice_index x.words 0)) (is_nil_or context_class (os ++ y ∷ []) (slice_index x.words 0)) e
    go (inr e) = or_right (names_place (slice_index x.words 0)) (is_nil_or context_class (os ++ y ∷ []) (slice_index x.words 0)) (nil_or-push context_class os y (slice_index x.words 0) e)

pub sender_fits-with_object : (os : List Object) (a : ℕ) (f : Object → Object) (x : Object) → IsEdit f → SenderFits os x → SenderFits (with_object os a f) x
sender_fits-with_object os a f x edit h = ap (λ (p : ℕ → Bool). names_place (slice_index x.words 0) || p (slice_index x.words 0)) (nil_or-with_object context_class os a f edit) ∙ h

-- nil for a sender
pub sender_fits-nil : (os : List Object) (x : Object) → is_object os nil ≡ true → slice_index x.words 0 ≡ nil → SenderFits os x
sender_fits-nil os x there e = ap (λ v. names_place v || is_nil_or context_class os v) e ∙ or_right (names_place nil) (is_nil_or context_class os nil) (nil_or_nil context_class os there)

-- the place of a frame for a sender
pub sender_fits-place : (os : List Object) (x : Object) → names_place (slice_index x.words 0) ≡ true → SenderFits os x
sender_fits-place os x e = or_left (names_place (slice_index x.words 0)) (is_nil_or context_class os (slice_index x.words 0)) e

-- ---- writes to a context

-- what all words but the first have, and the first has, all have
pub all_words : (p : ℕ → Bool) (ws : List ℕ) → p (slice_index ws 0) ≡ true → AllPass p (drop 1 ws) → AllPass p ws
all_words p [] h all = λ k d l. absurd (omega (arith, l))
all_words p (v ∷ ws) h all = All-cons (λ u. p u ≡ true) v ws h all

pub write_sender : (os : List Object) (x : Object) (v : ℕ) → is_sender os v ≡ true → IsContextWrite os x 0 v
write_sender os x v h = record {
  reference = λ e. absurd (omega (arith, e));
  sender = λ e. h;
  pc = λ e. absurd (omega (arith, e));
  stackp = λ e. absurd (omega (arith, e));
  depth = λ e. absurd (omega (arith, e));
  method = λ e. absurd (omega (arith, e));
  closure = λ e. absurd (omega (arith, e));
}

pub write_pc : (os : List Object) (x : Object) (v : ℕ) → is_reference os v ≡ true → IsTrue (v == nil_word os || is_some (natural_of_word v)) → IsContextWrite os x 1 v
write_pc os x v named h = record {
  reference = λ e. named;
  sender = λ e. absurd (omega (arith, e));
  pc = λ e. h;
  stackp = λ e. absurd (omega (arith, e));
  depth = λ e. absurd (omega (arith, e));
  method = λ e. absurd (omega (arith, e));
  closure = λ e. absurd (omega (arith, e));
}

pub write_stackp : (os : List Object) (x : Object) (v : ℕ) → is_reference os v ≡ true → IsTrue (v == nil_word os || is_some (natural_of_word v))
    → unwrap_or (natural_of_word v) 0 ≤ length x.words - 6 → IsContextWrite os x 2 v
write_stackp os x v named h few = record {
  reference = λ e. named;
  sender = λ e. absurd (omega (arith, e));
  pc = λ e. absurd (omega (arith, e));
  stackp = λ e. h;
  depth = λ e. few;
  method = λ e. absurd (omega (arith, e));
  closure = λ e. absurd (omega (arith, e));
}
