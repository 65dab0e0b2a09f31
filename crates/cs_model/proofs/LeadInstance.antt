-- Where classes get indices and instances are made: no index is that of a hidden class, and no context becomes a class.
use Rattle.std.proofs.Common.{◌≡◌, ◌≢◌, ℕ, zero, suc, ◌+◌, ◌≤◌, ◌/◌, ◌%◌, ◌==◌, ◌&&◌, Bool, true, false, refl, sym, ap, subst, ◌∙◌, Option, Some, None, IsSome, is_some, List, nat_lt, option_and_then, if◌then◌else◌, inl, inr, arith, rules}
use Rattle.std.specs.FinMap.{FinMap, get, gets}
use Rattle.std.specs.Prelude.{slice_get}
use Rattle.std.specs.Ordering.{nat_cmp}
use Rattle.std.proofs.lemmas.Bool.Decides.{eqb_tells, nat_tests}
use Rattle.cs_model.specs.Ref.{Ref, Small, Char, named_object, small_index}
use Rattle.cs_model.specs.Ref as ref
use Rattle.cs_model.specs.Obj.{Obj, Ptr, Raw, Method, Ctx, hash_in, class_index_in, context_class, slots_in, context_in, at_least}
use Rattle.cs_model.specs.State.{Kept, Rest, object_at, slots_of, with_rest, is_class_index}
use Rattle.cs_model.specs.Operation.{edit_object, with_hash, nil_of}
use Rattle.cs_model.specs.Instance.{Index, IndexAt, NoIndex, NoneFree, taken, lowest_free, first_free_index, free_indices, is_entry, index_by_hash, index_of_object, class_index_for, with_class, enter_class, take_index, Made, New, NotInstantiable, TableFull, is_instance_index, is_instance_shape, new_context, new_instance, make_with, make_shaped, shape_of, instantiate, Hashed, Hash, NotAClass, NoneLeft, hashed, behavior_hash, next_hash, with_last_hash, hash_given}
use Rattle.cs_model.proofs.Leading.{Plain, plain_on, PcsLie, rest_leads}
use Rattle.cs_model.proofs.LeadCombining.{Ready, Goes, goes_itself, goes_trans, goes_by, ready_behind}
use Rattle.cs_model.proofs.LeadOperation.{context_lies, no_context_lies, with_hash_mild, edit_object_leads, edit_object-rest, add_goes}

-- ---- indices

abbrev pub NotHidden : Index → Type 0
NotHidden (IndexAt index) = index ≢ 16
NotHidden NoIndex = Unit {0}
NotHidden NoneFree = Unit {0}

lowest_free-from : (n from : ℕ) (table : FinMap nat_cmp ℕ) (i : ℕ) → lowest_free n from table ≡ Some i → from ≤ i
unfolding lowest_free
lowest_free-from zero from table i e = absurd (cc)
lowest_free-from (suc n) from table i e = tested (is_some (get table from)) (lowest_free-from n (from + 1) table i) e where
  tested : (b : Bool) → (lowest_free n (from + 1) table ≡ Some i → from + 1 ≤ i) → (if b then lowest_free n (from + 1) table else Some from) ≡ Some i → from ≤ i
  tested true g f = let h = g f in omega (arith, h)
  tested false g f = let h : from ≡ i = cc in omega (arith, h)

taken_not_hidden : (o : Option ℕ) → ((i : ℕ) → o ≡ Some i → 32 ≤ i) → NotHidden (taken o)
taken_not_hidden None h = tt
taken_not_hidden (Some i) h = let g = h i refl in λ e. omega (arith, g, e)

if_not_hidden : (a c : Index) (b : Bool) → NotHidden a → NotHidden c → NotHidden (if b then a else c)
if_not_hidden a c true h g = h
if_not_hidden a c false h g = g

by_hash_not_hidden : (k : Kept) (birth hash : ℕ) → get k.rest.classes 16 ≡ None → NotHidden (index_by_hash k birth hash)
by_hash_not_hidden k birth hash hidden =
    if_not_hidden _ _ (hash == 0) (taken_not_hidden (lowest_free free_indices first_free_index k.rest.classes) (λ i e. lowest_free-from free_indices first_free_index k.rest.classes i e))
    (entry (get k.rest.classes hash) refl)
  where
    entry : (o : Option ℕ) → get k.rest.classes hash ≡ o → NotHidden (if is_entry o birth then IndexAt hash else NoIndex)
    entry None e = tt
    entry (Some i) e = if_not_hidden (IndexAt hash) NoIndex (i == birth) (λ f. some_none (sym e ∙ ap (get k.rest.classes) f ∙ hidden)) tt where
      some_none : Some i ≡ None → ⊥
      some_none g = cc

pub class_index_for-not_hidden : (k : Kept) (x : Ref) → get k.rest.classes 16 ≡ None → NotHidden (class_index_for k x)
unfolding class_index_for
class_index_for-not_hidden k (Small a) hidden = tt
class_index_for-not_hidden k (Char c) hidden = tt
class_index_for-not_hidden k (ref.Obj i) hidden = of_object (object_at k i) where
  of_object : (o : Option Obj) → NotHidden (index_of_object k i o)
  of_object None = tt
  of_object (Some o) = by_hash_not_hidden k i (hash_in o) hidden

-- ---- classes

-- what has slots is there, and is no context
plain_slots : (k : Kept) (n i : ℕ) → IsSome (slots_of k n (ref.Obj i)) → Plain k i
unfolding slots_of
plain_slots k n i h = plain_if (object_at k i) refl h where
  plain_if : (o : Option Obj) → object_at k i ≡ o → IsSome (at_least n (slots_in o)) → Plain k i
  plain_if None e g = absurd (cc)
  plain_if (Some (Ptr head slots)) e g = record { there = ap is_some e; plain = ap context_in e }
  plain_if (Some (Raw head bytes)) e g = absurd (cc)
  plain_if (Some (Method head header literals bytecodes)) e g = absurd (cc)
  plain_if (Some (Ctx c)) e g = absurd (cc)

enter_class_goes : {k : Kept} (index birth : ℕ) → Ready k → Plain k birth → index ≢ 16 → Goes k (enter_class k index (Some birth))
enter_class_goes {k} index birth r plain seen =
    goes_by (rest_leads (with_class index birth k.rest) r.sound (omega arith) refl
    (λ n i e. elim (eqb_tells n index) [
      | inl q ↦ subst (Plain k) (grind (gets, rules, arith, q.1, e)) plain
      | inr q ↦ r.sound.table n i (grind (gets, rules, q.1, e))
    ])
    (grind (gets, rules, seen, r.sound.hidden)) r.sound.live) r.runs refl

-- a change of one object leaves the rest
hash_goes : {k : Kept} (x : Ref) (hash : ℕ) → Ready k → Goes k (edit_object k x (with_hash hash))
hash_goes {k} x hash r = goes_by (edit_object_leads x (with_hash hash) r.sound (λ p e. with_hash_mild hash p)) r.runs (ap (λ s. s.active) (edit_object-rest k x (with_hash hash)))

pub take_index_goes : {k : Kept} (n : ℕ) (class : Ref) (index : ℕ) → Ready k → IsSome (slots_of k n class) → index ≢ 16 → Goes k (take_index k class index)
unfolding take_index slots_of
take_index_goes n (Small a) index r h seen = absurd (cc)
take_index_goes n (Char c) index r h seen = absurd (cc)
take_index_goes {k} n (ref.Obj i) index r h seen =
    let a = hash_goes (ref.Obj i) index r in
    goes_trans a (enter_class_goes index i (ready_behind a) (plain_on a.leads.stays i (plain_slots k n i h)) seen)

-- ---- instances

pub and_true : (a b : Bool) → (a && b) ≡ true → (a ≡ true) × (b ≡ true)
and_true true true e = (refl, refl)
and_true true false e = absurd (cc)
and_true false b e = absurd (cc)

pub shown_index : (index : ℕ) → nat_lt 3 index ≡ true → index ≢ 16 → is_class_index index ≡ true
shown_index index h seen = grind (arith, nat_tests, h, seen)

if_index : (b : Bool) (o p : Obj) → is_class_index (class_index_in o) ≡ true → is_class_index (class_index_in p) ≡ true → is_class_index (class_index_in (if b then o else p)) ≡ true
if_index true o p h g = h
if_index false o p h g = g

if_lies : {k : Kept} (b : Bool) (o p : Obj) → PcsLie k o → PcsLie k p → PcsLie k (if b then o else p)
if_lies true o p h g = h
if_lies false o p h g = g

new_instance_index : (nil : Ref) (index format fields size : ℕ) → is_class_index index ≡ true → is_class_index (class_index_in (new_instance nil index format fields size)) ≡ true
unfolding new_instance
new_instance_index nil index format fields size h =
    if_index (index == context_class) _ _ refl (if_index (nat_lt format 6) _ _ h h)

new_instance_lies : (k : Kept) (nil : Ref) (index format fields size : ℕ) → PcsLie k (new_instance nil index format fields size)
unfolding new_instance
new_instance_lies k nil index format fields size =
    if_lies (index == context_class) _ _ (context_lies (new_context nil size) (λ pc e. absurd (cc))) (if_lies (nat_lt format 6) _ _ (no_context_lies refl) (no_context_lies refl))

abbrev pub MadeGoes : Kept → Made → Type 0
MadeGoes k (New t x words) = Goes k t
MadeGoes k NotInstantiable = Unit {0}
MadeGoes k TableFull = Unit {0}

if_made : (k : Kept) (a : Made) (b : Bool) → (b ≡ true → MadeGoes k a) → MadeGoes k (if b then a else NotInstantiable)
if_made k a true h = h refl
if_made k a false h = tt

make_with_goes : {k : Kept} (class : Ref) (shape size : ℕ) (index : Index) → Ready k → IsSome (slots_of k 3 class) → NotHidden index → MadeGoes k (make_with k class shape size index)
make_with_goes class shape size NoIndex r h seen = tt
make_with_goes class shape size NoneFree r h seen = tt
make_with_goes {k} class shape size (IndexAt index) r h seen =
    if_made k _ (is_instance_index index size) (λ e.
    let a = take_index_goes 3 class index r h seen in
    goes_trans a (add_goes (new_instance (nil_of k) index (shape / 65536) (shape % 65536) size) (ready_behind a)
    (new_instance_index (nil_of k) index (shape / 65536) (shape % 65536) size (shown_index index (and_true (nat_lt 3 index) _ e).0 seen))
    (new_instance_lies _ (nil_of k) index (shape / 65536) (shape % 65536) size)))

pub shape_slots : (k : Kept) (class : Ref) (shape : ℕ) → shape_of k class ≡ Some shape → IsSome (slots_of k 3 class)
shape_slots k class shape e = go (slots_of k 3 class) e where
  go : (o : Option (List Ref)) → option_and_then (λ slots. option_and_then (λ x. small_index x) (slice_get slots 2)) o ≡ Some shape → IsSome o
  go None f = absurd (cc)
  go (Some slots) f = refl

make_shaped_goes : {k : Kept} (class : Ref) (size : ℕ) (shape : Option ℕ) → shape_of k class ≡ shape → Ready k → MadeGoes k (make_shaped k class size shape)
make_shaped_goes class size None e r = tt
make_shaped_goes {k} class size (Some shape) e r =
    if_made k _ (is_instance_shape (shape / 65536) (shape % 65536) size) (λ f. make_with_goes class shape size (class_index_for k class) r (shape_slots k class shape e) (class_index_for-not_hidden k class r.sound.hidden))

pub instantiate_goes : {k : Kept} (class : Ref) (size : ℕ) → Ready k → MadeGoes k (instantiate k class size)
unfolding instantiate
instantiate_goes {k} class size r = make_shaped_goes class size (shape_of k class) refl r

-- ---- the index alone

abbrev pub HashedGoes : Kept → Hashed → Type 0
HashedGoes k (Hash t index) = Goes k t
HashedGoes k NotAClass = Unit {0}
HashedGoes k NoneLeft = Unit {0}

hashed_goes : {k : Kept} (class : Ref) (index : Index) → Ready k → IsSome (slots_of k 3 class) → NotHidden index → HashedGoes k (hashed k class index)
hashed_goes class NoIndex r h seen = tt
hashed_goes class NoneFree r h seen = tt
hashed_goes class (IndexAt index) r h seen = take_index_goes 3 class index r h seen

if_hashed : (k : Kept) (a : Hashed) (b : Bool) → (b ≡ true → HashedGoes k a) → HashedGoes k (if b then a else NotAClass)
if_hashed k a true h = h refl
if_hashed k a false h = tt

pub behavior_hash_goes : {k : Kept} (class : Ref) → Ready k → HashedGoes k (behavior_hash k class)
unfolding behavior_hash
behavior_hash_goes {k} class r = if_hashed k _ (is_some (slots_of k 3 class)) (λ e. hashed_goes class (class_index_for k class) r e (class_index_for-not_hidden k class r.sound.hidden))

-- ---- identity hashes

last_hash_goes : {t : Kept} (hash : ℕ) (r : Rest) → Ready t → t.rest ≡ r → Goes t (with_rest (with_last_hash hash r) t)
last_hash_goes {t} hash r ready e = subst (λ q. Goes t (with_rest (with_last_hash hash q) t)) e (goes_by (rest_leads (with_last_hash hash t.rest) ready.sound (omega arith) refl ready.sound.table ready.sound.hidden ready.sound.live) ready.runs refl)

if_goes : {k t u : Kept} (b : Bool) → Goes k t → Goes k u → Goes k (if b then t else u)
if_goes true a c = a
if_goes false a c = c

pub hash_given_goes : {k : Kept} (x : Ref) → Ready k → Goes k (hash_given k x)
unfolding hash_given
hash_given_goes {k} x r =
    if_goes _
    (let a = hash_goes x (next_hash k.rest.last_hash) r in goes_trans a (last_hash_goes (next_hash k.rest.last_hash) k.rest (ready_behind a) (edit_object-rest k x (with_hash (next_hash k.rest.last_hash)))))
    (goes_itself r)
