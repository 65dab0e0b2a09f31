-- The primitives on instances, copies and classes, quick answers, and those on the stacks of contexts are alike.
use Rattle.std.proofs.Common.{◌≡◌, ℕ, zero, suc, ◌+◌, ◌-◌, ◌%◌, ◌==◌, ◌&&◌, not, pos, negsuc, Bool, true, false, refl, sym, ap, subst, ◌∙◌, Option, Some, None, is_some, length, replicate, nat_lt, if◌then◌else◌}
use Rattle.cs_model.specs.Ref.{Ref, Small, Char, named_object, small_index, same_ref}
use Rattle.cs_model.specs.Ref as ref
use Rattle.cs_model.specs.Obj.{Obj, Context, Ptr, Raw, Method, Ctx, new_head, class_index_in, context_class, hash_in, is_context, is_header, literal_count, words_of, stored}
use Rattle.cs_model.specs.State.{Kept, object_at, IsHeld, NamesHeld}
use Rattle.cs_model.specs.Operation.{add_of}
use Rattle.cs_model.specs.Instance.{Index, IndexAt, NoIndex, NoneFree, Hashed}
use Rattle.cs_model.specs.PrimObject.{small_count, hash_prim, has_index, first_instance, instance_from, entry_index, table_index, some_instance_prim, index_but_context, next_instance_prim, blank_method, is_method_index, make_method, is_method_shape, new_method_prim, copy_kinds, copy_fits, range_count, copy_to, replace_prim, identical_prim, class_prim, copied, look_if, copy_object, copy_prim, answer_hashed, behavior_hash_prim, is_unwritable, read_only_prim, can_be_fixed, boolean_in, set_read_only_prim, quick_prim}
use Rattle.cs_model.specs.PrimContext.{stack_at_prim, stack_put, stack_at_put_prim, stackp_prim}
use Rattle.cs_model.specs.End.{Out}
use Rattle.cs_model.specs.Keeps.{Keeps}
use Rattle.cs_model.specs.Alike.{Alike}
use Rattle.cs_model.proofs.Same.{Same, same, SameOption, none, some, Any, is, of, value, of_option, two, same_by, and_then_same, map_same, or_same, if_option, plain, any_option, option_is, all-replicate, all-slice_set}
use Rattle.cs_model.proofs.Keeping.{kept_context, edit_found_moved}
use Rattle.cs_model.proofs.Reading.{listed, Has, up, nil_same, boolean_same, same_ref_same, next_same, object_at_same, object_of_same, is_read_only_same, context_in_same, class_at_same, class_of_same, slice_same}
use Rattle.cs_model.proofs.Operating.{set_fixed_moved, add_moved, next_held, next_ref_same, stack_held}
use Rattle.cs_model.proofs.Fields.{edit_context_edit}
use Rattle.cs_model.proofs.Making.{new_made, shape_of_same, class_index_for_same, take_index_moved, take_index_next, SameHashed, hashes, no_class, none_left, behavior_hash_same, hash_of_same, hash_given_moved}
use Rattle.cs_model.proofs.Combining.{fail_alike, behind, made_alike, looked_alike, given_alike, if_alike}
use Rattle.cs_model.proofs.Searching.{birth_of_same}
use Rattle.cs_model.proofs.Answering.{answer_alike, prim_receiver_same, argument_same, answer_if_alike, with_count_alike, MovedOption, nothing, gives, and_then_moved, if_moved, answer_in_alike, unless_read_only_alike}
use Rattle.cs_model.proofs.Elements.{range_of_same, front_same, copy_elements_moved}
use Rattle.cs_model.proofs.Objecting.{slot_index_same, slot_at_case, answer_made_alike}

-- ---- the identity hash

pub hash_alike : {v m : Kept} → Keeps v m → (args : ℕ) → Alike v (hash_prim v args) (hash_prim m args)
unfolding hash_prim
hash_alike {v} k args =
    with_count_alike k 0 args (if_alike (of_option is_some (object_of_same k (prim_receiver_same k 0)))
    (let s = hash_given_moved k (prim_receiver_same k 0) in
    behind s (answer_alike s.keeps 0 (up s.grows (of (IsHeld v) small_count (hash_of_same k (prim_receiver_same k 0)) (λ n a. tt)))))
    (fail_alike k))

-- ---- the instances of a class

-- v lacks contexts alone, and a search of instances passes them over
and_not : (a b : Bool) → b ≡ true → (a && not b) ≡ false
and_not true true e = refl
and_not true false e = absurd (cc)
and_not false b e = refl

has_case : {v m : Kept} → Keeps v m → (index i : ℕ) (o p : Option Obj) → object_at v i ≡ o → object_at m i ≡ p → Same (λ b. b ≡ true → Has v i) (has_index index o) (has_index index p)
has_case k index i None None e f = same false (λ g. absurd (cc))
has_case {v} k index i None (Some p) e f =
    same_by (λ b. b ≡ true → Has v i) false (has_index index (Some p)) (and_not (class_index_in p == index) (is_context p) (kept_context k i p e f)) (λ g. absurd (cc))
has_case k index i (Some o) None e f = absurd (none_some (sym f ∙ k.same i o e)) where
  none_some : None ≡ Some o → ⊥
  none_some g = cc
has_case {v} k index i (Some o) (Some p) e f =
    subst (λ q. Same (λ b. b ≡ true → Has v i) (has_index index (Some o)) (has_index index q)) (sym (k.same i o e) ∙ f) (same (has_index index (Some o)) (λ g. ap is_some e))

has_index_same : {v m : Kept} → Keeps v m → (index i : ℕ) → Same (λ b. b ≡ true → Has v i) (has_index index (object_at v i)) (has_index index (object_at m i))
has_index_same {v} {m} k index i = has_case k index i (object_at v i) (object_at m i) refl refl

-- where the test holds, more is known
if_known : {A : Type 0} {P : A → Type 0} {Q : Type 0} {b c : Bool} {o p q r : Option A} → Same (λ b. b ≡ true → Q) b c → (Q → SameOption P o p) → SameOption P q r → SameOption P (if b then o else q) (if c then p else r)
if_known (same true h) s t = s (h refl)
if_known (same false h) s t = t

first_instance_same : {v m : Kept} → Keeps v m → (index n i : ℕ) → SameOption (IsHeld v) (first_instance n v index i) (first_instance n m index i)
unfolding first_instance
first_instance_same k index zero i = none
first_instance_same k index (suc n) i = if_known (has_index_same k index i) (λ h. some (ref.Obj i) h) (first_instance_same k index n (i + 1))

instance_from_same : {v m : Kept} → Keeps v m → (index from : ℕ) → SameOption (IsHeld v) (instance_from v index from) (instance_from m index from)
unfolding instance_from
instance_from_same {v} {m} k index from = within (next_same k) where
  within : {n l : ℕ} → Same Any n l → SameOption (IsHeld v) (first_instance (n - from) v index from) (first_instance (l - from) m index from)
  within (same n a) = first_instance_same k index (n - from) from

entry_index_same : {v m : Kept} {o p : Option Obj} → Keeps v m → (birth : ℕ) → SameOption (NamesHeld v) o p → SameOption Any (entry_index v birth o) (entry_index m birth p)
entry_index_same k birth none = none
entry_index_same k birth (some o h) = and_then_same (class_at_same k (is (hash_in o))) (λ i g. any_option (if i == birth then Some (hash_in o) else None))

table_index_same : {v m : Kept} {x y : Ref} → Keeps v m → Same (IsHeld v) x y → SameOption Any (table_index v x) (table_index m y)
table_index_same k s = and_then_same (birth_of_same k s) (λ i h. entry_index_same k i (object_at_same k (same i h)))

pub some_instance_alike : {v m : Kept} → Keeps v m → (args : ℕ) → Alike v (some_instance_prim v args) (some_instance_prim m args)
unfolding some_instance_prim
some_instance_alike k args =
    with_count_alike k 0 args (answer_if_alike k 0 (and_then_same (table_index_same k (prim_receiver_same k 0)) (λ index a. if_option (is (index == context_class)) none (instance_from_same k index 0))))

pub next_instance_alike : {v m : Kept} → Keeps v m → (args : ℕ) → Alike v (next_instance_prim v args) (next_instance_prim m args)
unfolding next_instance_prim
next_instance_alike k args =
    with_count_alike k 0 args (answer_if_alike k 0 (and_then_same (birth_of_same k (prim_receiver_same k 0)) (λ i h.
    and_then_same (plain (of_option index_but_context (object_at_same k (same i h)))) (λ index a. instance_from_same k index (i + 1)))))

-- ---- a new method

method_made_same : {v m : Kept} → Keeps v m → (index count header : ℕ) → Same (NamesHeld v) (blank_method v index count header) (blank_method m index count header)
method_made_same {v} k index count header =
    of (NamesHeld v) (λ nil. Method (new_head index (24 + (3 - (count + 3) % 4))) header (replicate (literal_count header) nil) (replicate count 0)) (nil_same k) (λ nil h. all-replicate (IsHeld v) (literal_count header) nil h)

make_method_alike : {v m : Kept} {x y : Ref} {i j : Index} → Keeps v m → Same (IsHeld v) x y → (count header : ℕ) → Same Any i j → Alike v (make_method v x count header i) (make_method m y count header j)
make_method_alike k s count header (same NoIndex a) = fail_alike k
make_method_alike k s count header (same NoneFree a) = fail_alike k
make_method_alike {v} {m} {x} k s count header (same (IndexAt index) a) =
    let made = new_made k (take_index_moved k s index) (take_index_next v x index) (method_made_same k index count header) in
    if_alike (is (is_method_index index)) (answer_made_alike k 2 made) (fail_alike k)

pub new_method_alike : {v m : Kept} → Keeps v m → (args : ℕ) → Alike v (new_method_prim v args) (new_method_prim m args)
unfolding new_method_prim
new_method_alike k args =
    with_count_alike k 2 args (given_alike _ _ (plain (value small_index (argument_same k 2 0))) (fail_alike k) (λ count a.
    given_alike _ _ (plain (value small_index (argument_same k 2 1))) (fail_alike k) (λ header b.
    if_alike (of_option (λ o. is_method_shape o && is_header header) (shape_of_same k (prim_receiver_same k 2)))
    (make_method_alike k (prim_receiver_same k 2) count header (class_index_for_same k (prim_receiver_same k 2)))
    (fail_alike k))))

-- ---- copying

copy_to_alike : {v m : Kept} {x y z w : Ref} → Keeps v m → Same (IsHeld v) x y → Same (IsHeld v) z w → (start stop from : ℕ) → Alike v (copy_to v x z start stop from) (copy_to m y w start stop from)
copy_to_alike k s t start stop from =
    given_alike _ _ (plain (of_option range_count (range_of_same k s))) (fail_alike k) (λ mine a.
    given_alike _ _ (plain (of_option range_count (range_of_same k t))) (fail_alike k) (λ its b.
    if_alike (is (copy_fits start stop from mine its))
    (let c = copy_elements_moved k (stop + 1 - start) s (value (λ n. n + (start - 1)) (front_same k s)) t (value (λ n. n + (from - 1)) (front_same k t)) in
    behind c (answer_alike c.keeps 4 (up c.grows s)))
    (fail_alike k)))

pub replace_alike : {v m : Kept} → Keeps v m → (args : ℕ) → Alike v (replace_prim v args) (replace_prim m args)
unfolding replace_prim
replace_alike k args =
    with_count_alike k 4 args (unless_read_only_alike k (prim_receiver_same k 4)
    (given_alike _ _ (plain (value small_index (argument_same k 4 0))) (fail_alike k) (λ start a.
    given_alike _ _ (plain (value small_index (argument_same k 4 1))) (fail_alike k) (λ stop b.
    given_alike _ _ (plain (value small_index (argument_same k 4 3))) (fail_alike k) (λ from c.
    if_alike (two copy_kinds (option_is (object_of_same k (prim_receiver_same k 4))) (option_is (object_of_same k (argument_same k 4 2))))
    (copy_to_alike k (prim_receiver_same k 4) (argument_same k 4 2) start stop from) (fail_alike k))))))

-- ---- identity, class, copy and hash

pub identical_alike : {v m : Kept} → Keeps v m → (args : ℕ) → Alike v (identical_prim v args) (identical_prim m args)
unfolding identical_prim
identical_alike k args = with_count_alike k 1 args (answer_alike k 1 (boolean_same k (same_ref_same (prim_receiver_same k 1) (argument_same k 1 0))))

pub class_prim_alike : {v m : Kept} → Keeps v m → (args : ℕ) → Alike v (class_prim v args) (class_prim m args)
unfolding class_prim
class_prim_alike k args = with_count_alike k 0 args (answer_alike k 0 (or_same (class_of_same k (prim_receiver_same k 0)) (nil_same k)))

copied_held : (v : Kept) (o : Obj) → NamesHeld v o → NamesHeld v (copied o)
copied_held v (Ptr head slots) h = h
copied_held v (Raw head bytes) h = tt
copied_held v (Method head header literals bytecodes) h = h
copied_held v (Ctx c) h = record { sender = h.sender; method = h.method; closure = h.closure; receiver = h.receiver; stack = h.stack }

look_if_alike : {v : Kept} {a b : Out} → (x : Bool) → Alike v a b → Alike v (look_if x a) (look_if x b)
look_if_alike x h = if_alike (is x) (looked_alike h) h

copy_object_alike : {v m : Kept} → Keeps v m → (o : Obj) → NamesHeld v o → Alike v (copy_object v o) (copy_object m o)
copy_object_alike {v} k o h =
    let a = add_moved k (same (copied o) (copied_held v o h)) in
    look_if_alike (is_context o) (made_alike (is (words_of o)) (behind a (answer_alike a.keeps 0 (next_ref_same (add_of v (copied o)) k (next_held v (copied o))))))

pub copy_alike : {v m : Kept} → Keeps v m → (args : ℕ) → Alike v (copy_prim v args) (copy_prim m args)
unfolding copy_prim
copy_alike k args = with_count_alike k 0 args (given_alike _ _ (object_of_same k (prim_receiver_same k 0)) (answer_alike k 0 (prim_receiver_same k 0)) (λ o h. copy_object_alike k o h))

answer_hashed_alike : {v m : Kept} {a b : Hashed} → Keeps v m → SameHashed v a b → Alike v (answer_hashed v a) (answer_hashed m b)
answer_hashed_alike k no_class = fail_alike k
answer_hashed_alike k none_left = fail_alike k
answer_hashed_alike k (hashes index s) = behind s (answer_alike s.keeps 0 (same (small_count index) tt))

pub behavior_hash_alike : {v m : Kept} → Keeps v m → (args : ℕ) → Alike v (behavior_hash_prim v args) (behavior_hash_prim m args)
unfolding behavior_hash_prim
behavior_hash_alike k args = with_count_alike k 0 args (answer_hashed_alike k (behavior_hash_same k (prim_receiver_same k 0)))

-- ---- objects that may not be stored into

pub read_only_alike : {v m : Kept} → Keeps v m → (args : ℕ) → Alike v (read_only_prim v args) (read_only_prim m args)
unfolding read_only_prim
read_only_alike k args = with_count_alike k 0 args (answer_alike k 0 (boolean_same k (of_option is_unwritable (object_of_same k (prim_receiver_same k 0)))))

boolean_in_same : {v m : Kept} {P : Ref → Type 0} {x y : Ref} → Keeps v m → Same P x y → SameOption Any (boolean_in v x) (boolean_in m y)
boolean_in_same k s =
    if_option (same_ref_same s (boolean_same k (is true))) (some true tt)
    (if_option (same_ref_same s (boolean_same k (is false))) (some false tt) none)

pub set_read_only_alike : {v m : Kept} → Keeps v m → (args : ℕ) → Alike v (set_read_only_prim v args) (set_read_only_prim m args)
unfolding set_read_only_prim
set_read_only_alike k args =
    with_count_alike k 1 args (if_alike (of_option can_be_fixed (object_of_same k (prim_receiver_same k 1)))
    (given_alike _ _ (boolean_in_same k (argument_same k 1 0)) (fail_alike k) (λ on a.
    let s = set_fixed_moved k (prim_receiver_same k 1) on in
    behind s (answer_alike s.keeps 1 (up s.grows (boolean_same k (is_read_only_same k (prim_receiver_same k 1)))))))
    (fail_alike k))

-- ---- quick answers

pub quick_alike : {v m : Kept} → Keeps v m → (number args : ℕ) → Alike v (quick_prim v number args) (quick_prim m number args)
unfolding quick_prim
quick_alike k number args =
    if_alike (is (number == 256)) (answer_alike k args (prim_receiver_same k args))
    (if_alike (is (number == 257)) (answer_alike k args (boolean_same k (is true)))
    (if_alike (is (number == 258)) (answer_alike k args (boolean_same k (is false)))
    (if_alike (is (number == 259)) (answer_alike k args (nil_same k))
    (if_alike (is (number == 260)) (answer_alike k args (same (Small (negsuc 0)) tt))
    (if_alike (is (nat_lt number 264)) (answer_alike k args (same (Small (pos (number - 261))) tt))
    (slot_at_case k args (number - 264) (object_of_same k (prim_receiver_same k args))))))))

-- ---- the stacks of contexts

pub stack_at_alike : {v m : Kept} → Keeps v m → (args : ℕ) → Alike v (stack_at_prim v args) (stack_at_prim m args)
unfolding stack_at_prim
stack_at_alike {v} k args =
    with_count_alike k 1 args (answer_if_alike k 1 (and_then_same (context_in_same (object_of_same k (prim_receiver_same k 1))) (λ c h.
    and_then_same (slot_index_same (argument_same k 1 0)) (λ i a. slice_same i (listed v c.stack h.stack)))))

stack_put_moved : {v m : Kept} {x y : Ref} → Keeps v m → (birth i : ℕ) → Same (IsHeld v) x y → (c : Context) → MovedOption v (stack_put v birth i x c) (stack_put m birth i y c)
stack_put_moved {v} k birth i (same x g) c =
    if_moved (is (nat_lt i (length c.stack)))
    (gives (edit_found_moved k (edit_context_edit v (same (stored i x) (λ c h. stack_held c _ h (all-slice_set (IsHeld v) c.stack i x h.stack g)))) (is birth))) nothing

pub stack_at_put_alike : {v m : Kept} → Keeps v m → (args : ℕ) → Alike v (stack_at_put_prim v args) (stack_at_put_prim m args)
unfolding stack_at_put_prim
stack_at_put_alike k args =
    with_count_alike k 2 args (answer_in_alike (and_then_moved _ _ (birth_of_same k (prim_receiver_same k 2)) (λ birth h.
    and_then_moved _ _ (context_in_same (object_at_same k (same birth h))) (λ c g.
    and_then_moved _ _ (slot_index_same (argument_same k 2 0)) (λ i a. stack_put_moved k birth i (argument_same k 2 1) c)))) k 2 (argument_same k 2 1))

pub stackp_alike : {v m : Kept} → Keeps v m → (args : ℕ) → Alike v (stackp_prim v args) (stackp_prim m args)
unfolding stackp_prim
stackp_alike {v} k args = with_count_alike k 0 args (answer_if_alike k 0 (map_same (IsHeld v) (λ c. small_count (length c.stack)) (context_in_same (object_of_same k (prim_receiver_same k 0))) (λ c h. tt)))
