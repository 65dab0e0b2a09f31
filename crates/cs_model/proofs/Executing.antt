-- Each instruction is alike.
use Rattle.std.proofs.Common.{◌≡◌, ℕ, ◌+◌, ◌-◌, ◌*◌, ◌==◌, ◌&&◌, ℤ, pos, ◌+ℤ◌, Bool, true, false, Option, Some, None, List, [], ◌∷◌, length, option_and_then, nat_lt, nat_le}
use Rattle.std.specs.Prelude.{slice_get}
use Rattle.std.specs.List.{AllByRecursion}
use Rattle.cs_model.specs.declared.stop.Stop.TheVariants as why
use Rattle.cs_model.specs.declared.instruction.Op.{Op}
use Rattle.cs_model.specs.declared.instruction.Op.TheVariants as op
use Rattle.cs_model.specs.Ref.{Ref, Small, same_ref, small_of}
use Rattle.cs_model.specs.Obj.{Obj, Context, Ptr, Raw, Method, Ctx, new_head, is_context}
use Rattle.cs_model.specs.State.{Kept, IsHeld, ContextHeld, NamesHeld}
use Rattle.cs_model.specs.Read.{literals_of, from_top}
use Rattle.cs_model.specs.Operation.{push_of, drop_of, add_of}
use Rattle.cs_model.specs.Context.{closure_class}
use Rattle.cs_model.specs.Number.{comparison, computation, number_result, selector_primitive}
use Rattle.cs_model.specs.Instance.{Made}
use Rattle.cs_model.specs.Exec.{push_out, top_of, with_top, pop_out, dup_out, push_all, special_send_out, attempt_to_assign, refuse_store, store_slot, push_field, push_receiver_out, birth_or_zero, is_active, store_in_context, store_field, store_receiver_out, push_temp_out, store_temp_out, literal_at, push_literal_out, variable_at, variable_value, push_variable_out, store_variable_out, vector_at, vector_slot, push_vector_out, store_vector_out, pop_into, store_into, pc_of_sum, if_lies, pc_after, jump_out, must_be_boolean, jump_if_out, is_local, return_out, send_literal_out, send_super_out, special_selectors, argument_count_in, selector_pair, send_selector_out, two_smalls, small_operands, at_once, special_out, same_out, class_out, common_out, array_class, slots_equal, array_made, with_array, with_slots, fill_of, new_array_out, pop_array_out, new_closure, closure_out, this_context_out, exec}
use Rattle.cs_model.specs.End.{Out, out, stop, done, given, made, looked, and_then}
use Rattle.cs_model.specs.End as ends
use Rattle.cs_model.specs.Keeps.{Keeps}
use Rattle.cs_model.specs.Alike.{Alike}
use Rattle.cs_model.proofs.Same.{Same, same, SameOption, none, some, Any, is, value, of_option, two, and_then_same, map_same, or_same, if_option, plain, any_option, option_is, some_same}
use Rattle.cs_model.proofs.Keeping.{Moved, unmoved, moved, all-grows}
use Rattle.cs_model.proofs.Reading.{listed, AllHeld, up, up_all, nil_same, true_same, false_same, boolean_same, is_nil_same, same_ref_same, object_of_same, is_read_only_same, slots_in_same, slots_of_same, special_at_same, class_of_same, active_ref_same, active_context_same, context_closure, stack_same, depth_same, pc_same, receiver_same, method_same, literals_same, slice_same, from_top_same}
use Rattle.cs_model.proofs.Operating.{set_pc_moved, push_moved, drop_moved, set_stack_moved, edit_object_moved, store_moved, add_moved, next_held, next_ref_same, cons_same, last_values_same}
use Rattle.cs_model.proofs.Fields.{context_get_same, accepts_same, context_put_moved}
use Rattle.cs_model.proofs.Making.{SameMade, makes, refused, full, instantiate_same}
use Rattle.cs_model.proofs.Combining.{out_alike, done_alike, stop_alike, behind, made_alike, looked_alike, given_alike, if_alike, and_then_alike}

-- ---- the stack

pub push_alike : {v m : Kept} {x y : Ref} → Keeps v m → Same (IsHeld v) x y → Alike v (push_out v x) (push_out m y)
unfolding push_out
push_alike k s = if_alike (value (λ c. nat_lt (length c.stack) c.size) (active_context_same k)) (done_alike (push_moved k s)) (stop_alike k _)

pub top_same : {v m : Kept} → Keeps v m → SameOption (IsHeld v) (top_of v) (top_of m)
top_same k = from_top_same 0 (stack_same k)

pub with_top_alike : {v m : Kept} (f g : Ref → Out) → Keeps v m → ((x : Ref) → IsHeld v x → Alike v (f x) (g x)) → Alike v (with_top v f) (with_top m g)
with_top_alike f g k next = given_alike f g (top_same k) (stop_alike k why.StackUnder) next

pub pop_alike : {v m : Kept} → Keeps v m → Alike v (pop_out v) (pop_out m)
unfolding pop_out
pop_alike k = with_top_alike _ _ k (λ x h. done_alike (drop_moved k 1))

pub dup_alike : {v m : Kept} → Keeps v m → Alike v (dup_out v) (dup_out m)
unfolding dup_out
dup_alike k = with_top_alike _ _ k (λ x h. push_alike k (same x h))

push_each_alike : (xs : List Ref) {v m : Kept} → Keeps v m → AllByRecursion (IsHeld v) xs → Alike v (push_all xs v) (push_all xs m)
unfolding push_all
push_each_alike [] k h = out_alike k (same ends.Done tt)
push_each_alike (x ∷ xs) k h = and_then_alike _ _ (push_alike k (same x h.0)) (λ t u s. push_each_alike xs s.keeps (all-grows s.grows xs h.1))

pub push_all_alike : {v m : Kept} {xs ys : List Ref} → Keeps v m → Same (AllHeld v) xs ys → Alike v (push_all xs v) (push_all ys m)
push_all_alike k (same xs h) = push_each_alike xs k h.all

pub special_send_alike : {v m : Kept} → Keeps v m → (special args : ℕ) → Alike v (special_send_out v special args) (special_send_out m special args)
unfolding special_send_out
special_send_alike k special args = given_alike _ _ (special_at_same k special) (stop_alike k why.BadSpecial) (λ x h. out_alike k (same (ends.Send x args None) (h, tt)))

-- ---- stores into slots

pub refuse_store_alike : {v m : Kept} {o p x y : Ref} → Keeps v m → Same (IsHeld v) o p → (i : ℕ) → Same (IsHeld v) x y → Alike v (refuse_store v o i x) (refuse_store m p i y)
unfolding refuse_store
refuse_store_alike {v} k target i t =
    and_then_alike _ _ (push_all_alike k (cons_same target (cons_same t (listed v (Small (pos (i + 1)) ∷ []) (tt, tt))))) (λ u w s. special_send_alike s.keeps attempt_to_assign 2)

-- the states without the value are behind a move
pub store_slot_alike : {v m b c : Kept} {o p x y : Ref} → Keeps v m → Moved v b c → Same (IsHeld v) o p → (i : ℕ) → Same (IsHeld v) x y → Alike v (store_slot v b o i x) (store_slot m c p i y)
unfolding store_slot
store_slot_alike k bare target i t =
    if_alike (is_read_only_same k target) (behind bare (refuse_store_alike bare.keeps (up bare.grows target) i (up bare.grows t))) (done_alike (store_moved k target i t))

-- ---- receiver fields

push_field_alike : {v m : Kept} {o p : Option Obj} → Keeps v m → (i : ℕ) → SameOption (NamesHeld v) o p → Alike v (push_field v i o) (push_field m i p)
push_field_alike k i none = stop_alike k _
push_field_alike {v} k i (some (Ptr head slots) h) = given_alike _ _ (slice_same i (listed v slots h)) (stop_alike k why.BadField) (λ x g. push_alike k (same x g))
push_field_alike k i (some (Raw head bytes) h) = stop_alike k _
push_field_alike k i (some (Method head header literals bytecodes) h) = stop_alike k _
push_field_alike k i (some (Ctx c) h) =
    given_alike _ _ (context_get_same k (same c h) i) (stop_alike k why.BadField) (λ x g. if_alike (is (i == 0)) (looked_alike (push_alike k (same x g))) (push_alike k (same x g)))

pub push_receiver_alike : {v m : Kept} → Keeps v m → (i : ℕ) → Alike v (push_receiver_out v i) (push_receiver_out m i)
unfolding push_receiver_out
push_receiver_alike k i = push_field_alike k i (object_of_same k (receiver_same k))

pub is_active_same : {v m : Kept} {P : Ref → Type 0} {x y : Ref} → Keeps v m → Same P x y → Same Any (is_active v x) (is_active m y)
is_active_same k s = same_ref_same s (active_ref_same k)

store_in_context_alike : {v m : Kept} {x y : Ref} {c d : Context} → Keeps v m → (i : ℕ) → Same (IsHeld v) x y → Same (ContextHeld v) c d → Alike v (store_in_context v i x c) (store_in_context m i y d)
store_in_context_alike k i t s =
    if_alike (value (λ c. nat_lt i (6 + length c.stack)) s)
    (if_alike (accepts_same k (is_active_same k (receiver_same k)) s i t) (done_alike (context_put_moved k (value birth_or_zero (receiver_same k)) i t)) (stop_alike k _))
    (stop_alike k _)

store_field_alike : {v m b c : Kept} {x y : Ref} {o p : Option Obj} → Keeps v m → Moved v b c → (i : ℕ) → Same (IsHeld v) x y → SameOption (NamesHeld v) o p → Alike v (store_field v b i x o) (store_field m c i y p)
store_field_alike k bare i t none = stop_alike k _
store_field_alike k bare i t (some (Ptr head slots) h) = if_alike (is (nat_lt i (length slots))) (store_slot_alike k bare (receiver_same k) i t) (stop_alike k _)
store_field_alike k bare i t (some (Raw head bytes) h) = stop_alike k _
store_field_alike k bare i t (some (Method head header literals bytecodes) h) = stop_alike k _
store_field_alike k bare i t (some (Ctx c) h) = store_in_context_alike k i t (same c h)

pub store_receiver_alike : {v m b c : Kept} {x y : Ref} → Keeps v m → Moved v b c → (i : ℕ) → Same (IsHeld v) x y → Alike v (store_receiver_out v b i x) (store_receiver_out m c i y)
unfolding store_receiver_out
store_receiver_alike k bare i t = store_field_alike k bare i t (object_of_same k (receiver_same k))

-- ---- temporaries, literals and literal variables

pub push_temp_alike : {v m : Kept} → Keeps v m → (i : ℕ) → Alike v (push_temp_out v i) (push_temp_out m i)
unfolding push_temp_out
push_temp_alike k i = given_alike _ _ (slice_same i (stack_same k)) (stop_alike k why.BadField) (λ x h. push_alike k (same x h))

pub store_temp_alike : {v m : Kept} {x y : Ref} → Keeps v m → (i : ℕ) → Same (IsHeld v) x y → Alike v (store_temp_out v i x) (store_temp_out m i y)
unfolding store_temp_out
store_temp_alike k i t = if_alike (value (nat_lt i) (depth_same k)) (done_alike (set_stack_moved k i t)) (stop_alike k _)

pub literal_at_same : {v m : Kept} → Keeps v m → (i : ℕ) → SameOption (IsHeld v) (literal_at v i) (literal_at m i)
literal_at_same k i = slice_same i (literals_same k)

pub push_literal_alike : {v m : Kept} → Keeps v m → (i : ℕ) → Alike v (push_literal_out v i) (push_literal_out m i)
unfolding push_literal_out
push_literal_alike k i = given_alike _ _ (literal_at_same k i) (stop_alike k why.BadLiteral) (λ x h. push_alike k (same x h))

pub variable_at_same : {v m : Kept} → Keeps v m → (i : ℕ) → SameOption (AllHeld v) (variable_at v i) (variable_at m i)
unfolding variable_at
variable_at_same k i = and_then_same (literal_at_same k i) (λ x h. slots_of_same k 2 (same x h))

pub variable_value_same : {v m : Kept} → Keeps v m → (i : ℕ) → SameOption (IsHeld v) (variable_value v i) (variable_value m i)
variable_value_same k i = and_then_same (variable_at_same k i) (λ slots h. slice_same 1 (same slots h))

pub push_variable_alike : {v m : Kept} → Keeps v m → (i : ℕ) → Alike v (push_variable_out v i) (push_variable_out m i)
unfolding push_variable_out
push_variable_alike k i = given_alike _ _ (variable_value_same k i) (stop_alike k why.BadLiteral) (λ x h. push_alike k (same x h))

pub store_variable_alike : {v m b c : Kept} {x y : Ref} → Keeps v m → Moved v b c → (i : ℕ) → Same (IsHeld v) x y → Alike v (store_variable_out v b i x) (store_variable_out m c i y)
unfolding store_variable_out
store_variable_alike k bare i t =
    given_alike _ _ (variable_value_same k i) (stop_alike k why.BadLiteral) (λ old h. store_slot_alike k bare (or_same (literal_at_same k i) (nil_same k)) 1 t)

-- ---- vectors

vector_at_same : {v m : Kept} → Keeps v m → (j : ℕ) → Same (IsHeld v) (vector_at v j) (vector_at m j)
vector_at_same k j = or_same (slice_same j (stack_same k)) (same (Small (pos 0)) tt)

vector_slot_same : {v m : Kept} → Keeps v m → (i j : ℕ) → SameOption (IsHeld v) (vector_slot v i j) (vector_slot m i j)
vector_slot_same k i j = and_then_same (slots_in_same (object_of_same k (vector_at_same k j))) (λ slots h. slice_same i (same slots h))

pub push_vector_alike : {v m : Kept} → Keeps v m → (i j : ℕ) → Alike v (push_vector_out v i j) (push_vector_out m i j)
unfolding push_vector_out
push_vector_alike k i j = given_alike _ _ (vector_slot_same k i j) (stop_alike k why.BadField) (λ x h. push_alike k (same x h))

pub store_vector_alike : {v m b c : Kept} {x y : Ref} → Keeps v m → Moved v b c → (i j : ℕ) → Same (IsHeld v) x y → Alike v (store_vector_out v b i j x) (store_vector_out m c i j y)
unfolding store_vector_out
store_vector_alike k bare i j t = given_alike _ _ (vector_slot_same k i j) (stop_alike k why.BadField) (λ old h. store_slot_alike k bare (vector_at_same k j) i t)

-- ---- pop and store forms

-- a store is alike from any two states on, and from those without the value
abbrev StoresAlike : (Kept → Kept → Ref → Out) → (Kept → Kept → Ref → Out) → Type 0
StoresAlike f g = (t u b c : Kept) (x : Ref) → Keeps t u → Moved t b c → Same (IsHeld t) x x → Alike t (f t b x) (g u c x)

pub pop_into_alike : {v m : Kept} (f g : Kept → Kept → Ref → Out) → Keeps v m → StoresAlike f g → Alike v (pop_into v f) (pop_into m g)
unfolding pop_into
pop_into_alike f g k next = with_top_alike _ _ k (λ x h. let d = drop_moved k 1 in behind d (next _ _ _ _ x d.keeps (unmoved d.keeps) (up d.grows (same x h))))

pub store_into_alike : {v m : Kept} (f g : Kept → Kept → Ref → Out) → Keeps v m → StoresAlike f g → Alike v (store_into v f) (store_into m g)
unfolding store_into
store_into_alike f g k next = with_top_alike _ _ k (λ x h. next _ _ _ _ x k (drop_moved k 1) (same x h))

-- ---- jumps

pub pc_after_same : {v m : Kept} → Keeps v m → (offset : ℤ) → SameOption Any (pc_after v offset) (pc_after m offset)
unfolding pc_after
pc_after_same k offset = plain (two (λ o pc. if_lies o (pc_of_sum (pos pc +ℤ offset))) (option_is (method_same k)) (pc_same k))

pub jump_alike : {v m : Kept} → Keeps v m → (offset : ℤ) → Alike v (jump_out v offset) (jump_out m offset)
unfolding jump_out
jump_alike k offset = given_alike _ _ (pc_after_same k offset) (stop_alike k why.BadCode) (λ pc h. done_alike (set_pc_moved k (is pc)))

pub jump_if_alike : {v m : Kept} → Keeps v m → (wanted : Bool) (offset : ℕ) → Alike v (jump_if_out v wanted offset) (jump_if_out m wanted offset)
unfolding jump_if_out
jump_if_alike k wanted offset = with_top_alike _ _ k (λ x h. let d = drop_moved k 1 in
    if_alike (same_ref_same (is x) (boolean_same k (is wanted))) (behind d (jump_alike d.keeps (pos offset)))
    (if_alike (same_ref_same (is x) (true_same k)) (done_alike d)
    (if_alike (same_ref_same (is x) (false_same k)) (done_alike d)
    (special_send_alike k must_be_boolean 0))))

-- ---- returns

pub is_local_same : {v m : Kept} → Keeps v m → Same Any (is_local v) (is_local m)
is_local_same k = is_nil_same k (context_closure (active_context_same k))

pub return_alike : {v m : Kept} {x y : Ref} {b c : Bool} → Keeps v m → Same (IsHeld v) x y → Same Any b c → Alike v (return_out v x b) (return_out m y c)
return_alike k (same x h) (same b a) = out_alike k (same (ends.Return x b) h)

-- ---- sends

pub send_literal_alike : {v m : Kept} → Keeps v m → (lit args : ℕ) → Alike v (send_literal_out v lit args) (send_literal_out m lit args)
unfolding send_literal_out
send_literal_alike k lit args = given_alike _ _ (literal_at_same k lit) (stop_alike k why.BadLiteral) (λ x h. out_alike k (same (ends.Send x args None) (h, tt)))

above_same : {v m : Kept} → Keeps v m → SameOption (IsHeld v) (variable_value v (length (literals_of v) - 1)) (variable_value m (length (literals_of m) - 1))
above_same {v} {m} k = at (value (λ xs. length xs - 1) (literals_same k)) where
  at : {i j : ℕ} → Same Any i j → SameOption (IsHeld v) (variable_value v i) (variable_value m j)
  at (same i a) = variable_value_same k i

pub send_super_alike : {v m : Kept} → Keeps v m → (lit args : ℕ) → Alike v (send_super_out v lit args) (send_super_out m lit args)
unfolding send_super_out
send_super_alike k lit args =
    given_alike _ _ (literal_at_same k lit) (stop_alike k why.BadLiteral) (λ x h.
    given_alike _ _ (above_same k) (stop_alike k why.BadLiteral) (λ above g.
    out_alike k (same (ends.Send x args (Some above)) (h, g))))

selector_pair_same : {v m : Kept} → Keeps v m → (i : ℕ) → SameOption (AllHeld v) (selector_pair v i) (selector_pair m i)
selector_pair_same k i = and_then_same (special_at_same k special_selectors) (λ x h. slots_of_same k (2 * i + 2) (same x h))

pub send_selector_alike : {v m : Kept} → Keeps v m → (i : ℕ) → Alike v (send_selector_out v i) (send_selector_out m i)
unfolding send_selector_out
send_selector_alike k i =
    given_alike _ _ (selector_pair_same k i) (stop_alike k why.BadSpecial) (λ slots h.
    given_alike _ _ (slice_same (2 * i) (same slots h)) (stop_alike k why.BadSpecial) (λ x g.
    given_alike _ _ (any_option (option_and_then (λ x. argument_count_in x) (slice_get slots (2 * i + 1)))) (stop_alike k why.BadSpecial) (λ args f.
    out_alike k (same (ends.Send x args None) (g, tt)))))

pub small_operands_same : {v m : Kept} → Keeps v m → SameOption Any (small_operands v) (small_operands m)
small_operands_same k = plain (value (λ xs. two_smalls (option_and_then (λ x. small_of x) (from_top 1 xs)) (option_and_then (λ x. small_of x) (from_top 0 xs))) (stack_same k))

pub number_result_same : {v m : Kept} → Keeps v m → (number : ℕ) (a b : ℤ) → SameOption (IsHeld v) (number_result v number a b) (number_result m number a b)
unfolding number_result
number_result_same {v} k number a b =
    if_option (is (nat_le 3 number && nat_le number 8)) (some_same (boolean_same k (is (comparison number a b)))) (map_same (IsHeld v) _ (any_option (computation number a b)) (λ z h. tt))

at_once_same : {v m : Kept} → Keeps v m → (i : ℕ) → SameOption (IsHeld v) (at_once v i) (at_once m i)
at_once_same k i = and_then_same (small_operands_same k) (λ p h. number_result_same k (selector_primitive i) p.0 p.1)

-- a value in the place of so many
pub instead_moved : {v m : Kept} {x y : Ref} → Keeps v m → (n : ℕ) → Same (IsHeld v) x y → Moved v (push_of (drop_of v n) x) (push_of (drop_of m n) y)
instead_moved k n s = let d = drop_moved k n in moved d (push_moved d.keeps (up d.grows s))

pub special_alike : {v m : Kept} → Keeps v m → (i : ℕ) → Alike v (special_out v i) (special_out m i)
unfolding special_out
special_alike k i = given_alike _ _ (at_once_same k i) (send_selector_alike k i) (λ x h. done_alike (instead_moved k 2 (same x h)))

pub same_alike : {v m : Kept} → Keeps v m → Alike v (same_out v) (same_out m)
unfolding same_out
same_alike k =
    given_alike _ _ (from_top_same 1 (stack_same k)) (stop_alike k why.StackUnder) (λ a h.
    with_top_alike _ _ k (λ b g. done_alike (instead_moved k 2 (boolean_same k (is (same_ref a b))))))

pub class_alike : {v m : Kept} → Keeps v m → Alike v (class_out v) (class_out m)
unfolding class_out
class_alike k = with_top_alike _ _ k (λ x h. done_alike (instead_moved k 1 (or_same (class_of_same k (same x h)) (nil_same k))))

pub common_alike : {v m : Kept} → Keeps v m → (i : ℕ) → Alike v (common_out v i) (common_out m i)
unfolding common_out
common_alike k i = if_alike (is (i == 6)) (same_alike k) (if_alike (is (i == 7)) (class_alike k) (send_selector_alike k (16 + i)))

-- ---- arrays

array_made_alike : {v m : Kept} {a b : Made} (f g : Kept → Ref → Out) → Keeps v m → (n : ℕ) → SameMade v a b → ((t u : Kept) (x y : Ref) → Moved v t u → Same (IsHeld t) x y → Alike t (f t x) (g u y)) → Alike v (array_made v n f a) (array_made m n g b)
array_made_alike f g k n refused next = stop_alike k _
array_made_alike f g k n full next = stop_alike k _
array_made_alike f g k n (makes x y words s h) next =
    made_alike (is words) (behind s (if_alike (of_option (slots_equal n) (slots_in_same (object_of_same s.keeps h))) (next _ _ x y s h) (stop_alike s.keeps _)))

pub with_array_alike : {v m : Kept} (f g : Kept → Ref → Out) → Keeps v m → (n : ℕ) → ((t u : Kept) (x y : Ref) → Moved v t u → Same (IsHeld t) x y → Alike t (f t x) (g u y)) → Alike v (with_array v n f) (with_array m n g)
unfolding with_array
with_array_alike f g k n next = given_alike _ _ (special_at_same k array_class) (stop_alike k why.BadSpecial) (λ class h. array_made_alike f g k n (instantiate_same k (same class h) n) next)

with_slots_held : (v : Kept) (xs : List Ref) → AllHeld v xs → (o : Obj) → NamesHeld v o → NamesHeld v (with_slots xs o)
with_slots_held v xs g (Ptr head slots) h = g.all
with_slots_held v xs g (Raw head bytes) h = tt
with_slots_held v xs g (Method head header literals bytecodes) h = h
with_slots_held v xs g (Ctx c) h = h

with_slots_context : (xs : List Ref) (o : Obj) → is_context o ≡ true → is_context (with_slots xs o) ≡ true
with_slots_context xs (Ptr head slots) h = h
with_slots_context xs (Raw head bytes) h = h
with_slots_context xs (Method head header literals bytecodes) h = h
with_slots_context xs (Ctx c) h = h

pub fill_moved : {v m : Kept} {P : Ref → Type 0} {x y : Ref} {xs ys : List Ref} → Keeps v m → Same P x y → Same (AllHeld v) xs ys → Moved v (fill_of v x xs) (fill_of m y ys)
unfolding fill_of
fill_moved {v} k s (same xs g) = edit_object_moved k s (same (with_slots xs) (record { context = with_slots_context xs; held = with_slots_held v xs g }))

pub new_array_alike : {v m : Kept} → Keeps v m → (n : ℕ) → Alike v (new_array_out v n) (new_array_out m n)
unfolding new_array_out
new_array_alike k n = with_array_alike _ _ k n (λ t u x y s h. push_alike s.keeps h)

pub pop_array_alike : {v m : Kept} → Keeps v m → (n : ℕ) → Alike v (pop_array_out v n) (pop_array_out m n)
unfolding pop_array_out
pop_array_alike k n =
    if_alike (value (nat_le n) (depth_same k))
    (with_array_alike _ _ k n (λ t u x y s h.
    let f = fill_moved s.keeps h (up_all s.grows (last_values_same n (stack_same k))) in
    let d = moved f (drop_moved f.keeps n) in
    behind d (push_alike d.keeps (up d.grows h))))
    (stop_alike k _)

-- ---- closures

new_closure_same : {v m : Kept} → Keeps v m → (copied args : ℕ) → Same (NamesHeld v) (new_closure v copied args) (new_closure m copied args)
new_closure_same {v} {m} k copied args = closed (active_ref_same k) (pc_same k) (last_values_same copied (stack_same k)) where
  closed : {a b : Ref} {pc qc : ℕ} {xs ys : List Ref} → Same (IsHeld v) a b → Same Any pc qc → Same (AllHeld v) xs ys →
      Same (NamesHeld v) (Ptr (new_head closure_class 3) (a ∷ Small (pos pc) ∷ Small (pos args) ∷ xs)) (Ptr (new_head closure_class 3) (b ∷ Small (pos qc) ∷ Small (pos args) ∷ ys))
  closed (same a h) (same pc i) (same xs g) = same _ (h, (tt, (tt, g.all)))

pub closure_alike : {v m : Kept} → Keeps v m → (copied args size : ℕ) → Alike v (closure_out v copied args size) (closure_out m copied args size)
unfolding closure_out
closure_alike {v} k copied args size =
    given_alike _ _ (pc_after_same k (pos size)) (stop_alike k why.BadCode) (λ pc h.
    if_alike (value (nat_le copied) (depth_same k))
    (let a = add_moved k (new_closure_same k copied args) in
    let d = drop_moved a.keeps copied in
    let n = next_ref_same (add_of v (new_closure v copied args)) k (next_held v (new_closure v copied args)) in
    looked_alike (made_alike (is _) (and_then_alike _ _ (behind (moved a d) (push_alike d.keeps (up d.grows n))) (λ t u s. done_alike (set_pc_moved s.keeps (is pc))))))
    (stop_alike k _))

-- ---- the table

pub this_context_alike : {v m : Kept} → Keeps v m → Alike v (this_context_out v) (this_context_out m)
unfolding this_context_out
this_context_alike k = if_alike (value (λ c. nat_lt (length c.stack) c.size) (active_context_same k)) (looked_alike (done_alike (push_moved k (active_ref_same k)))) (stop_alike k _)

unmoved_alike : {v m : Kept} → Keeps v m → Alike v (done v) (done m)
unmoved_alike k = out_alike k (same ends.Done tt)

pub exec_alike : {v m : Kept} (i : Op) → Keeps v m → Alike v (exec i v) (exec i m)
unfolding exec
exec_alike (op.PushRcvr i) k = push_receiver_alike k i
exec_alike (op.PushTemp i) k = push_temp_alike k i
exec_alike (op.PushLit i) k = push_literal_alike k i
exec_alike (op.PushLitVar i) k = push_variable_alike k i
exec_alike (op.PopRcvr i) k = pop_into_alike _ _ k (λ t u b c x l bare s. store_receiver_alike l bare i s)
exec_alike (op.PopTemp i) k = pop_into_alike _ _ k (λ t u b c x l bare s. store_temp_alike l i s)
exec_alike (op.PopLitVar i) k = pop_into_alike _ _ k (λ t u b c x l bare s. store_variable_alike l bare i s)
exec_alike (op.StoreRcvr i) k = store_into_alike _ _ k (λ t u b c x l bare s. store_receiver_alike l bare i s)
exec_alike (op.StoreTemp i) k = store_into_alike _ _ k (λ t u b c x l bare s. store_temp_alike l i s)
exec_alike (op.StoreLitVar i) k = store_into_alike _ _ k (λ t u b c x l bare s. store_variable_alike l bare i s)
exec_alike op.PushSelf k = push_alike k (receiver_same k)
exec_alike op.PushTrue k = push_alike k (true_same k)
exec_alike op.PushFalse k = push_alike k (false_same k)
exec_alike op.PushNil k = push_alike k (nil_same k)
exec_alike (op.PushInt z) k = push_alike k (same (Small z) tt)
exec_alike op.ReturnSelf k = return_alike k (receiver_same k) (is_local_same k)
exec_alike op.ReturnTrue k = return_alike k (true_same k) (is_local_same k)
exec_alike op.ReturnFalse k = return_alike k (false_same k) (is_local_same k)
exec_alike op.ReturnNil k = return_alike k (nil_same k) (is_local_same k)
exec_alike op.ReturnTop k = with_top_alike _ _ k (λ x h. let d = drop_moved k 1 in behind d (return_alike d.keeps (up d.grows (same x h)) (is_local_same k)))
exec_alike op.BlockReturn k = with_top_alike _ _ k (λ x h. let d = drop_moved k 1 in behind d (return_alike d.keeps (up d.grows (same x h)) (is true)))
exec_alike (op.Send lit args) k = send_literal_alike k lit args
exec_alike (op.SendSuper lit args) k = send_super_alike k lit args
exec_alike op.Pop k = pop_alike k
exec_alike op.Dup k = dup_alike k
exec_alike op.ThisContext k = this_context_alike k
exec_alike (op.NewArray n) k = new_array_alike k n
exec_alike (op.PopArray n) k = pop_array_alike k n
exec_alike (op.Prim i j) k = unmoved_alike k
exec_alike (op.PushVec i j) k = push_vector_alike k i j
exec_alike (op.StoreVec i j) k = store_into_alike _ _ k (λ t u b c x l bare s. store_vector_alike l bare i j s)
exec_alike (op.PopVec i j) k = pop_into_alike _ _ k (λ t u b c x l bare s. store_vector_alike l bare i j s)
exec_alike (op.Closure copied args size) k = closure_alike k copied args size
exec_alike (op.Jump offset) k = jump_alike k offset
exec_alike (op.JumpTrue offset) k = jump_if_alike k true offset
exec_alike (op.JumpFalse offset) k = jump_if_alike k false offset
exec_alike (op.Special i) k = special_alike k i
exec_alike (op.Common i) k = common_alike k i
