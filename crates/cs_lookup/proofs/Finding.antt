-- The steps of a search through a dictionary and through the superclasses.
use Rattle.std.proofs.Common.{◌≡◌, ℕ, zero, suc, ◌+◌, ◌-◌, ◌^◌, ◌<◌, ◌≤◌, Bool, true, false, cond, List, ◌∷◌, length, map, drop, Option, Some, None, option_map, option_and_then, is_some, refl, ap, ap₂, sym, ◌∙◌, arith, pos}
use Rattle.std.specs.Prelude.{slice_get, nat_le, ◌==◌, unwrap_or}
use Rattle.std.proofs.lemmas.Bool.{false≢true, leb-false}
use Rattle.std.proofs.lemmas.List.{drop_all, drop-map, length-map}
use Rattle.std.proofs.lemmas.Option.{slice_get-get_or, slice_get-map, slice_get_past}
use Rattle.std.proofs.Math.Seq.{drop-cons}
use Rattle.cs_word.specs.declared.Oop.{Oop}
use Rattle.cs_heap.specs.Object.{Object, slot_count_of, slot_of}
use Rattle.cs_model.specs.Ref.{Ref, Small}
use Rattle.cs_model.specs.Obj.{at_least, slots_in}
use Rattle.cs_model.specs.State.{Kept, object_of, slots_of}
use Rattle.cs_model.specs.Lookup.{Sought, class_limit, find_among, find_in, find_in_dictionary, if_method, in_class, list_or_empty, lookup, lookup_within, or_above, or_else, slot_in}
use Rattle.cs_model.specs.Lookup as sought
use Rattle.cs_classes.specs.Meaning.{ref_of}
use Rattle.cs_classes.specs.Sound.{AreSoundObjects, is_method_address, is_reference, has_slots}
use Rattle.cs_classes.proofs.Refs.{same_ref-ref_of}
use Rattle.cs_lookup.specs.Found.{HasObjects, refs_option}
use Rattle.cs_lookup.proofs.Reading.{HasWords, has_words, is_method-at, refs_at, slots_in-words, slots_of-none, slots_of-words, words_at}

-- ---- a value of an array of values

abbrev pub values_of : Kept → Ref → List Ref
values_of k x = list_or_empty (slots_in (object_of k x))

pub value_there : (os : List Object) (n w i : ℕ) (h : HasWords os n w) → i < length (words_at os w) → slice_get (refs_at os w) i ≡ Some (ref_of os (slot_of os w i))
value_there os n w i h l = slice_get-map (ref_of os) (words_at os w) i ∙ ap (option_map (ref_of os)) (slice_get-get_or (words_at os w) i 0 l ∙ ap Some (sym (h.slot i)))

value_at : (os : List Object) (k : Kept) (w i : ℕ) → AreSoundObjects os → HasObjects os k → has_slots os (i + 1) w ≡ true → slice_get (values_of k (ref_of os w)) i ≡ Some (ref_of os (slot_of os w i))
value_at os k w i sound has h =
    let words = has_words os (i + 1) w sound h in
    ap (λ (o : Option (List Ref)). slice_get (list_or_empty o) i) (slots_in-words os k (i + 1) w sound has h) ∙ value_there os (i + 1) w i words (omega (arith, words.enough))

no_value_at : (os : List Object) (k : Kept) (w i : ℕ) → AreSoundObjects os → HasObjects os k → is_reference os w ≡ true → has_slots os (i + 1) w ≡ false → slice_get (values_of k (ref_of os w)) i ≡ None
unfolding slots_of
no_value_at os k w i sound has r h = go (slots_in (object_of k (ref_of os w))) (slots_of-none os k (i + 1) w sound has r h)
  where
    few : (xs : List Ref) (b : Bool) → nat_le (i + 1) (length xs) ≡ b → cond b (Some xs) None ≡ None → slice_get xs i ≡ None
    few xs true e h = absurd (cc)
    few xs false e h = slice_get_past xs i (omega (arith, leb-false (i + 1) (length xs) e))

    go : (o : Option (List Ref)) → at_least (i + 1) o ≡ None → slice_get (list_or_empty o) i ≡ None
    go None h = refl
    go (Some xs) h = few xs (nat_le (i + 1) (length xs)) refl h

if_method-at : (os : List Object) (k : Kept) (v : ℕ) (b : Bool) → AreSoundObjects os → HasObjects os k → is_reference os v ≡ true → is_method_address os v ≡ b → if_method k (Some (ref_of os v)) ≡ cond b (Some (ref_of os v)) None
if_method-at os k v b sound has r h = ap (λ (t : Bool). cond t (Some (ref_of os v)) None) (is_method-at os k v sound has r ∙ h)

-- the value v at a position, where it is a method
pub method_there : (os : List Object) (k : Kept) (w i v : ℕ) (b : Bool) → AreSoundObjects os → HasObjects os k → has_slots os (i + 1) w ≡ true → v ≡ slot_of os w i → is_method_address os v ≡ b
    → if_method k (slice_get (values_of k (ref_of os w)) i) ≡ cond b (Some (ref_of os v)) None
method_there os k w i v b sound has h is m =
    let words = has_words os (i + 1) w sound h in
    let named : is_reference os v ≡ true = ap (is_reference os) is ∙ words.reference i (omega (arith, words.enough)) in
    ap (if_method k) (value_at os k w i sound has h ∙ ap (λ (u : ℕ). Some (ref_of os u)) (sym is)) ∙ if_method-at os k v b sound has named m

pub no_method_there : (os : List Object) (k : Kept) (w i : ℕ) → AreSoundObjects os → HasObjects os k → is_reference os w ≡ true → has_slots os (i + 1) w ≡ false → if_method k (slice_get (values_of k (ref_of os w)) i) ≡ None
no_method_there os k w i sound has r h = ap (if_method k) (no_value_at os k w i sound has r h)

-- ---- a dictionary

pub no_dictionary : (os : List Object) (k : Kept) (selector : Ref) (w : ℕ) → AreSoundObjects os → HasObjects os k → is_reference os w ≡ true → has_slots os 2 w ≡ false → find_in_dictionary k selector (ref_of os w) ≡ None
unfolding find_in_dictionary
no_dictionary os k selector w sound has r h = ap (find_in k selector) (slots_of-none os k 2 w sound has r h)

-- from position i on
abbrev pub from_position : List Object → Kept → Ref → ℕ → ℕ → Option Ref
from_position os k selector w i = find_among k (values_of k (ref_of os (slot_of os w 1))) selector i (drop (i + 2) (refs_at os w))

pub dictionary_begins : (os : List Object) (k : Kept) (selector : Ref) (w : ℕ) → AreSoundObjects os → HasObjects os k → has_slots os 2 w ≡ true → find_in_dictionary k selector (ref_of os w) ≡ from_position os k selector w 0
unfolding find_in_dictionary
dictionary_begins os k selector w sound has h =
    let words = has_words os 2 w sound h in
    ap (find_in k selector) (slots_of-words os k 2 w sound has h)
    ∙ ap (λ (o : Option Ref). find_among k (list_or_empty (option_and_then (λ (x : Ref). slots_in (object_of k x)) o)) selector 0 (drop 2 (refs_at os w)))
    (value_there os 2 w 1 words (omega (arith, words.enough)))

rest_of : (os : List Object) (w i : ℕ) → HasWords os 2 w → i + 2 < slot_count_of os w → drop (i + 2) (refs_at os w) ≡ ref_of os (slot_of os w (i + 2)) ∷ drop (suc i + 2) (refs_at os w)
rest_of os w i h l =
    let next : suc (i + 2) ≡ suc i + 2 = omega arith in
    drop-map (ref_of os) (i + 2) (words_at os w)
    ∙ ap (map (ref_of os)) (drop-cons (words_at os w) (i + 2) 0 (omega (arith, l, h.count)))
    ∙ ap₂ (λ (v n : ℕ). ref_of os v ∷ map (ref_of os) (drop n (words_at os w))) (sym (h.slot (i + 2))) next
    ∙ ap (λ (rest : List Ref). ref_of os (slot_of os w (i + 2)) ∷ rest) (sym (drop-map (ref_of os) (suc i + 2) (words_at os w)))

-- what the search does with the selector at position i
step : (os : List Object) (k : Kept) (w s i : ℕ) (b : Bool) → AreSoundObjects os → HasWords os 2 w → is_reference os s ≡ true → s < 2 ^ 32 → slot_of os w (i + 2) < 2 ^ 32 → i + 2 < slot_count_of os w
    → (slot_of os w (i + 2) == s) ≡ b
    → from_position os k (ref_of os s) w i ≡ cond b (or_else (if_method k (slice_get (values_of k (ref_of os (slot_of os w 1))) i)) (from_position os k (ref_of os s) w (suc i))) (from_position os k (ref_of os s) w (suc i))
unfolding find_among
step os k w s i b sound h r fits slot_fits l e =
    let vs : List Ref = values_of k (ref_of os (slot_of os w 1)) in
    let same = same_ref-ref_of os (slot_of os w (i + 2)) s sound (h.reference (i + 2) (omega (arith, l, h.count))) r slot_fits fits in
    ap (find_among k vs (ref_of os s) i) (rest_of os w i h l)
    ∙ ap (λ (t : Bool). cond t (or_else (if_method k (slice_get vs i)) (from_position os k (ref_of os s) w (suc i))) (from_position os k (ref_of os s) w (suc i))) (same ∙ e)

pub next_other : (os : List Object) (k : Kept) (w s i : ℕ) → AreSoundObjects os → HasWords os 2 w → is_reference os s ≡ true → s < 2 ^ 32 → slot_of os w (i + 2) < 2 ^ 32 → i + 2 < slot_count_of os w
    → (slot_of os w (i + 2) == s) ≡ false → from_position os k (ref_of os s) w i ≡ from_position os k (ref_of os s) w (suc i)
next_other os k w s i sound h r fits slot_fits l e = step os k w s i false sound h r fits slot_fits l e

pub next_same : (os : List Object) (k : Kept) (w s i : ℕ) → AreSoundObjects os → HasWords os 2 w → is_reference os s ≡ true → s < 2 ^ 32 → slot_of os w (i + 2) < 2 ^ 32 → i + 2 < slot_count_of os w
    → (slot_of os w (i + 2) == s) ≡ true → (o : Option Ref) → o ≡ if_method k (slice_get (values_of k (ref_of os (slot_of os w 1))) i)
    → from_position os k (ref_of os s) w i ≡ or_else o (from_position os k (ref_of os s) w (suc i))
next_same os k w s i sound h r fits slot_fits l e o is = step os k w s i true sound h r fits slot_fits l e ∙ ap (λ (p : Option Ref). or_else p (from_position os k (ref_of os s) w (suc i))) (sym is)

-- a method is found, or none is
pub some_found : (os : List Object) (o : Option Oop) (rest : Option Ref) → is_some o ≡ true → refs_option os o ≡ or_else (refs_option os o) rest
some_found os None rest h = absurd (false≢true h)
some_found os (Some m) rest h = refl

pub none_found : (os : List Object) (o : Option Oop) (rest : Option Ref) → is_some o ≡ false → or_else (refs_option os o) rest ≡ rest
none_found os None rest h = refl
none_found os (Some m) rest h = absurd (false≢true (sym h))

-- behind the last selector
pub dictionary_ends : (os : List Object) (k : Kept) (selector : Ref) (w i : ℕ) → HasWords os 2 w → slot_count_of os w ≤ i + 2 → from_position os k selector w i ≡ None
unfolding find_among
dictionary_ends os k selector w i h l = ap (find_among k (values_of k (ref_of os (slot_of os w 1))) selector i) (drop_all (i + 2) (refs_at os w) (omega (arith, l, h.count, length-map (words_at os w) (ref_of os))))

-- ---- the superclasses

not_a_class : (os : List Object) (k : Kept) (n w : ℕ) (selector : Ref) → AreSoundObjects os → HasObjects os k → is_reference os w ≡ true → has_slots os 3 w ≡ false → lookup_within n k selector (ref_of os w) ≡ sought.Missing
unfolding lookup_within
not_a_class os k zero w selector sound has r h = ap (λ (o : Option (List Ref)). cond (is_some o) sought.Loop sought.Missing) (slots_of-none os k 3 w sound has r h)
not_a_class os k (suc n) w selector sound has r h = ap (λ (o : Option (List Ref)). in_class k selector o (λ above. lookup_within n k selector above)) (slots_of-none os k 3 w sound has r h)

too_many_classes : (os : List Object) (k : Kept) (w : ℕ) (selector : Ref) → AreSoundObjects os → HasObjects os k → has_slots os 3 w ≡ true → lookup_within 0 k selector (ref_of os w) ≡ sought.Loop
unfolding lookup_within
too_many_classes os k w selector sound has h = ap (λ (o : Option (List Ref)). cond (is_some o) sought.Loop sought.Missing) (slots_of-words os k 3 w sound has h)

slot_in-refs : (os : List Object) (n w i : ℕ) (h : HasWords os n w) → i < length (words_at os w) → slot_in (refs_at os w) i ≡ ref_of os (slot_of os w i)
slot_in-refs os n w i h l = ap (λ (o : Option Ref). unwrap_or o (Small (pos 0))) (value_there os n w i h l)

class_searched : (os : List Object) (k : Kept) (n w : ℕ) (selector : Ref) → AreSoundObjects os → HasObjects os k → has_slots os 3 w ≡ true
    → lookup_within (suc n) k selector (ref_of os w) ≡ or_above (find_in_dictionary k selector (ref_of os (slot_of os w 1))) (lookup_within n k selector (ref_of os (slot_of os w 0)))
unfolding lookup_within
class_searched os k n w selector sound has h =
    let words = has_words os 3 w sound h in
    ap (λ (o : Option (List Ref)). in_class k selector o (λ above. lookup_within n k selector above)) (slots_of-words os k 3 w sound has h)
    ∙ ap₂ (λ (dictionary above : Ref). or_above (find_in_dictionary k selector dictionary) (lookup_within n k selector above))
    (slot_in-refs os 3 w 1 words (omega (arith, words.enough))) (slot_in-refs os 3 w 0 words (omega (arith, words.enough)))

class_limit_is : class_limit ≡ 65536
unfolding class_limit
class_limit_is = refl

-- Where n classes have been searched, a class is next from which the rest of the lookup goes on.
pub record Searched (os : List Object) (class selector : ℕ) (n next : ℕ) : Type 0 where
  pub named : is_reference os next ≡ true
  pub rest : (k : Kept) → HasObjects os k → lookup k (ref_of os class) (ref_of os selector) ≡ lookup_within (class_limit - n) k (ref_of os selector) (ref_of os next)

pub lookup_begins : (os : List Object) (class selector : ℕ) → is_reference os class ≡ true → Searched os class selector 0 class
unfolding lookup
lookup_begins os class selector h = record { named = h; rest = λ k has. ap (λ (n : ℕ). lookup_within n k (ref_of os selector) (ref_of os class)) (omega arith) }

-- what is no class ends the search
pub lookup_missing : (os : List Object) (k : Kept) (class selector n next : ℕ) → AreSoundObjects os → HasObjects os k → Searched os class selector n next → has_slots os 3 next ≡ false
    → sought.Missing ≡ lookup k (ref_of os class) (ref_of os selector)
lookup_missing os k class selector n next sound has s h = sym (s.rest k has ∙ not_a_class os k (class_limit - n) next (ref_of os selector) sound has s.named h)

pub lookup_loops : (os : List Object) (k : Kept) (class selector n next : ℕ) → AreSoundObjects os → HasObjects os k → Searched os class selector n next → 65536 ≤ n → has_slots os 3 next ≡ true
    → sought.Loop ≡ lookup k (ref_of os class) (ref_of os selector)
lookup_loops os k class selector n next sound has s l h =
    let none : class_limit - n ≡ 0 = omega (arith, class_limit_is, l) in
    sym (s.rest k has ∙ ap (λ (m : ℕ). lookup_within m k (ref_of os selector) (ref_of os next)) none ∙ too_many_classes os k next (ref_of os selector) sound has h)

-- the next class is searched, and gives a method or doesn't
lookup_next : (os : List Object) (k : Kept) (class selector n next dictionary above : ℕ) → AreSoundObjects os → HasObjects os k → Searched os class selector n next → n < 65536 → has_slots os 3 next ≡ true
    → dictionary ≡ slot_of os next 1 → above ≡ slot_of os next 0 → (o : Option Ref) → o ≡ find_in_dictionary k (ref_of os selector) (ref_of os dictionary)
    → lookup k (ref_of os class) (ref_of os selector) ≡ or_above o (lookup_within (class_limit - (n + 1)) k (ref_of os selector) (ref_of os above))
lookup_next os k class selector n next dictionary above sound has s l h d a o e =
    let one : class_limit - n ≡ suc (class_limit - (n + 1)) = omega (arith, class_limit_is, l) in
    let rest : ℕ → Sought = λ u. lookup_within (class_limit - (n + 1)) k (ref_of os selector) (ref_of os u) in
    s.rest k has
    ∙ ap (λ (m : ℕ). lookup_within m k (ref_of os selector) (ref_of os next)) one
    ∙ class_searched os k (class_limit - (n + 1)) next (ref_of os selector) sound has h
    ∙ ap₂ (λ (u v : ℕ). or_above (find_in_dictionary k (ref_of os selector) (ref_of os u)) (rest v)) (sym d) (sym a)
    ∙ ap (λ (p : Option Ref). or_above p (rest above)) (sym e)

pub lookup_finds : (os : List Object) (k : Kept) (class selector n next dictionary : ℕ) (method : Oop) → AreSoundObjects os → HasObjects os k → Searched os class selector n next → n < 65536 → has_slots os 3 next ≡ true
    → dictionary ≡ slot_of os next 1 → refs_option os (Some method) ≡ find_in_dictionary k (ref_of os selector) (ref_of os dictionary)
    → sought.Method (ref_of os method.0) ≡ lookup k (ref_of os class) (ref_of os selector)
lookup_finds os k class selector n next dictionary method sound has s l h d e =
    sym (lookup_next os k class selector n next dictionary (slot_of os next 0) sound has s l h d refl (Some (ref_of os method.0)) e)

pub lookup_goes_on : (os : List Object) (class selector n next dictionary above : ℕ) → AreSoundObjects os → Searched os class selector n next → n < 65536 → has_slots os 3 next ≡ true
    → dictionary ≡ slot_of os next 1 → above ≡ slot_of os next 0 → ((k : Kept) → HasObjects os k → None ≡ find_in_dictionary k (ref_of os selector) (ref_of os dictionary))
    → Searched os class selector (n + 1) above
lookup_goes_on os class selector n next dictionary above sound s l h d a none =
    let words = has_words os 3 next sound h in
    record {
      named = ap (is_reference os) a ∙ words.reference 0 (omega (arith, words.enough));
      rest = λ k has. lookup_next os k class selector n next dictionary above sound has s l h d a None (none k has);
    }

-- the dictionary of a class is a reference
pub dictionary_named : (os : List Object) (next dictionary : ℕ) → AreSoundObjects os → has_slots os 3 next ≡ true → dictionary ≡ slot_of os next 1 → is_reference os dictionary ≡ true
dictionary_named os next dictionary sound h d =
    let words = has_words os 3 next sound h in
    ap (is_reference os) d ∙ words.reference 1 (omega (arith, words.enough))
