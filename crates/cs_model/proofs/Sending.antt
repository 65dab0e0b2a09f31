-- Sends are alike: what is found is invoked, what isn't understood is told, and performs.
use Rattle.std.proofs.Common.{ℕ, ◌+◌, ◌-◌, ◌==◌, ◌&&◌, Bool, true, false, Option, Some, None, List, [], ◌∷◌, ◌++◌, length, take, nat_lt, nat_le, if◌then◌else◌}
use Rattle.std.specs.List.{AllByRecursion}
use Rattle.cs_model.specs.declared.stop.Stop.TheVariants as why
use Rattle.cs_model.specs.Ref.{Ref}
use Rattle.cs_model.specs.Obj.{Obj, Ptr, Raw, Method, Ctx, is_method, header_in, bytecodes_in, primitive_number, argument_count, with_stack}
use Rattle.cs_model.specs.State.{Kept, IsHeld, ContextHeld, NamesHeld}
use Rattle.cs_model.specs.Operation.{last_values}
use Rattle.cs_model.specs.Lookup.{Sought, Missing, Loop, lookup}
use Rattle.cs_model.specs.Lookup as sought
use Rattle.cs_model.specs.Instance.{Made}
use Rattle.cs_model.specs.Send.{receiver_at, activation_words, enter_out, offer, invoke, message_class, does_not_understand, message_slots, message_made, with_message, class_or_nil, not_understood_by, send_message, not_understood, send_found, superclass_of, begins_at, look_from, send, array_elements, spread_of, elements_fitting, without_selector, perform_found, perform, perform_with_arguments, execute_method}
use Rattle.cs_model.specs.End.{Out, out, stop}
use Rattle.cs_model.specs.End as ends
use Rattle.cs_model.specs.Keeps.{Keeps}
use Rattle.cs_model.specs.Alike.{SoughtHeld, Alike}
use Rattle.cs_model.proofs.Same.{Same, same, SameOption, none, some, Any, is, of, value, of_option, and_then_same, or_same, if_option, all-append, all-take, all-drop}
use Rattle.cs_model.proofs.Keeping.{Moved, moved}
use Rattle.cs_model.proofs.Reading.{AllHeld, listed, up, nil_same, object_of_same, slots_of_same, special_at_same, class_of_same, active_context_same, stack_same, depth_same, from_top_same, slice_same}
use Rattle.cs_model.proofs.Operating.{drop_moved, enter_moved, put_active_moved, stack_held, receiver_below_same, last_values_same}
use Rattle.cs_model.proofs.Making.{SameMade, makes, refused, full, instantiate_same}
use Rattle.cs_model.proofs.Combining.{fail_alike, moved_alike, out_alike, stop_alike, behind, made_alike, made_context_alike, given_alike, if_alike, and_then_alike}
use Rattle.cs_model.proofs.Executing.{push_alike, with_array_alike, fill_moved}
use Rattle.cs_model.proofs.Searching.{lookup_same}

pub receiver_at_same : {v m : Kept} → Keeps v m → (args : ℕ) → Same (IsHeld v) (receiver_at v args) (receiver_at m args)
receiver_at_same k args = receiver_below_same k args (nil_same k) (stack_same k)

-- ---- a method that was found

pub enter_alike : {v m : Kept} {x y : Ref} → Keeps v m → Same (IsHeld v) x y → (args : ℕ) (skip : Bool) → Alike v (enter_out v x args skip) (enter_out m y args skip)
unfolding enter_out
enter_alike k s args skip = made_context_alike (of_option activation_words (object_of_same k s)) (moved_alike (enter_moved k s args skip) (same ends.Entered tt))

offer_alike : {v m : Kept} {x y : Ref} {o p : Option ℕ} → Keeps v m → Same (IsHeld v) x y → (args : ℕ) → Same Any o p → Alike v (offer v x args o) (offer m y args p)
offer_alike k s args (same None a) = enter_alike k s args false
offer_alike k (same x h) args (same (Some number) a) = out_alike k (same (ends.Primitive x number) h)

pub invoke_alike : {v m : Kept} {x y : Ref} → Keeps v m → Same (IsHeld v) x y → (args : ℕ) → Alike v (invoke v x args) (invoke m y args)
unfolding invoke
invoke_alike k s args =
    if_alike (of_option (λ o. argument_count (header_in o) == args) (object_of_same k s))
    (offer_alike k s args (of_option (λ o. primitive_number (header_in o) (bytecodes_in o)) (object_of_same k s)))
    (stop_alike k _)

-- ---- what isn't understood

message_slots_same : {v : Kept} {a b c d e f : Ref} {xs ys : List Ref} → Same (IsHeld v) a b → Same (IsHeld v) c d → Same (IsHeld v) e f → Same (AllHeld v) xs ys → Same (AllHeld v) (message_slots a c e xs) (message_slots b d f ys)
message_slots_same {v} (same a g) (same c h) (same e i) (same [] l) = listed v [] tt
message_slots_same (same a g) (same c h) (same e i) (same (x ∷ []) l) = same (x ∷ []) l
message_slots_same {v} (same a g) (same c h) (same e i) (same (x ∷ y ∷ []) l) = listed v (a ∷ c ∷ []) (g, (h, tt))
message_slots_same {v} (same a g) (same c h) (same e i) (same (x ∷ y ∷ z ∷ zs) l) = listed v (a ∷ c ∷ e ∷ zs) (g, (h, (i, l.all.1.1.1)))

message_made_alike : {v m : Kept} {a b c d e f : Ref} {x y : Made} (next next' : Kept → Ref → Out) → Keeps v m → Same (IsHeld v) a b → Same (IsHeld v) c d → Same (IsHeld v) e f → SameMade v x y →
    ((t u : Kept) (p q : Ref) → Moved v t u → Same (IsHeld t) p q → Alike t (next t p) (next' u q)) → Alike v (message_made v a c e next x) (message_made m b d f next' y)
message_made_alike next next' k selector array class refused go_on = stop_alike k _
message_made_alike next next' k selector array class full go_on = stop_alike k _
message_made_alike next next' k selector array class (makes p q words s h) go_on =
    made_alike (is words) (behind s (given_alike _ _ (slots_of_same s.keeps 2 h) (stop_alike s.keeps why.BadSpecial) (λ slots g.
    let f = fill_moved s.keeps h (message_slots_same (up s.grows selector) (up s.grows array) (up s.grows class) (same slots g)) in
    behind f (go_on _ _ p q (moved s f) (up f.grows h)))))

with_message_alike : {v m : Kept} {a b c d e f : Ref} (next next' : Kept → Ref → Out) → Keeps v m → Same (IsHeld v) a b → Same (IsHeld v) c d → Same (IsHeld v) e f →
    ((t u : Kept) (p q : Ref) → Moved v t u → Same (IsHeld t) p q → Alike t (next t p) (next' u q)) → Alike v (with_message v a c e next) (with_message m b d f next')
with_message_alike next next' k selector array class go_on =
    given_alike _ _ (special_at_same k message_class) (stop_alike k why.BadSpecial) (λ messages h. message_made_alike next next' k selector array class (instantiate_same k (same messages h) 0) go_on)

pub class_or_nil_same : {v m : Kept} {x y : Ref} → Keeps v m → Same (IsHeld v) x y → Same (IsHeld v) (class_or_nil v x) (class_or_nil m y)
class_or_nil_same k s = or_same (class_of_same k s) (nil_same k)

not_understood_by_alike : {v m : Kept} {a b : Sought} → Keeps v m → Same (SoughtHeld v) a b → Alike v (not_understood_by v a) (not_understood_by m b)
not_understood_by_alike k (same (sought.Method x) h) = invoke_alike k (same x h) 1
not_understood_by_alike k (same Missing h) = stop_alike k _
not_understood_by_alike k (same Loop h) = stop_alike k _

send_message_alike : {v m : Kept} {c d x y : Ref} → Keeps v m → Same (IsHeld v) c d → (args : ℕ) → Same (IsHeld v) x y → Alike v (send_message v c args x) (send_message m d args y)
send_message_alike k class args message =
    let d = drop_moved k args in
    and_then_alike _ _ (behind d (push_alike d.keeps (up d.grows message))) (λ t u s.
    given_alike _ _ (special_at_same s.keeps does_not_understand) (stop_alike s.keeps why.BadSpecial) (λ selector h.
    not_understood_by_alike s.keeps (lookup_same s.keeps (up s.grows class) (is selector))))

pub not_understood_alike : {v m : Kept} {x y : Ref} → Keeps v m → Same (IsHeld v) x y → (args : ℕ) → Alike v (not_understood v x args) (not_understood m y args)
unfolding not_understood
not_understood_alike k selector args =
    let class = class_or_nil_same k (receiver_at_same k args) in
    with_array_alike _ _ k args (λ t u a b s array.
    let f = fill_moved s.keeps array (last_values_same args (stack_same s.keeps)) in
    let s' = moved s f in
    behind f (with_message_alike _ _ f.keeps (up s'.grows selector) (up f.grows array) (up s'.grows class) (λ w z p q r message.
    send_message_alike r.keeps (up r.grows (up s'.grows class)) args message)))

-- ---- the send

send_found_alike : {v m : Kept} {x y : Ref} {a b : Sought} → Keeps v m → Same (IsHeld v) x y → (args : ℕ) → Same (SoughtHeld v) a b → Alike v (send_found v x args a) (send_found m y args b)
send_found_alike k s args (same (sought.Method x) h) = invoke_alike k (same x h) args
send_found_alike k s args (same Missing h) = not_understood_alike k s args
send_found_alike k s args (same Loop h) = stop_alike k _

superclass_same : {v : Kept} {o p : Option (List Ref)} → SameOption (AllHeld v) o p → SameOption (IsHeld v) (superclass_of o) (superclass_of p)
superclass_same none = none
superclass_same (some slots h) = slice_same 0 (same slots h)

pub begins_at_same : {v m : Kept} {o p : Option Ref} → Keeps v m → (args : ℕ) → SameOption (IsHeld v) o p → SameOption (IsHeld v) (begins_at v args o) (begins_at m args p)
begins_at_same k args none = class_of_same k (receiver_at_same k args)
begins_at_same k args (some above h) = superclass_same (slots_of_same k 3 (same above h))

pub look_from_same : {v m : Kept} {P : Ref → Type 0} {x y : Ref} {o p : Option Ref} → Keeps v m → Same P x y → SameOption (IsHeld v) o p → Same (SoughtHeld v) (look_from v x o) (look_from m y p)
look_from_same k s none = same Missing tt
look_from_same k s (some class h) = lookup_same k (same class h) s

pub send_alike : {v m : Kept} {x y : Ref} {o p : Option Ref} → Keeps v m → Same (IsHeld v) x y → (args : ℕ) → SameOption (IsHeld v) o p → Alike v (send v x args o) (send m y args p)
unfolding send
send_alike k s args above =
    if_alike (value (nat_lt args) (depth_same k)) (send_found_alike k s args (look_from_same k s (begins_at_same k args above))) (stop_alike k _)

-- ---- perform

elements_if : {v : Kept} (b : Bool) (slots : List Ref) → AllByRecursion (IsHeld v) slots → SameOption (AllHeld v) (if b then Some slots else None) (if b then Some slots else None)
elements_if true slots h = some slots (record { all = h })
elements_if false slots h = none

array_elements_same : {v : Kept} {o p : Option Obj} → SameOption (NamesHeld v) o p → SameOption (AllHeld v) (array_elements o) (array_elements p)
array_elements_same none = none
array_elements_same (some (Ptr head slots) h) = elements_if (head.format == 2) slots h
array_elements_same (some (Raw head bytes) h) = none
array_elements_same (some (Method head header literals bytecodes) h) = none
array_elements_same (some (Ctx c) h) = none

pub spread_moved : {v m : Kept} {xs ys : List Ref} → Keeps v m → (args : ℕ) → Same (AllHeld v) xs ys → Moved v (spread_of v args xs) (spread_of m args ys)
spread_moved {v} k args (same xs g) =
    put_active_moved k (of (ContextHeld v) (λ c. with_stack (take (length c.stack - args) c.stack ++ xs) c) (active_context_same k)
    (λ c h. stack_held c _ h (all-append (IsHeld v) (take (length c.stack - args) c.stack) xs (all-take (IsHeld v) (length c.stack - args) c.stack h.stack) g.all)))

pub elements_fitting_same : {v m : Kept} {x y : Ref} → Keeps v m → (args : ℕ) → Same (IsHeld v) x y → SameOption (AllHeld v) (elements_fitting v args x) (elements_fitting m args y)
unfolding elements_fitting
elements_fitting_same k args s =
    and_then_same (array_elements_same (object_of_same k s)) (λ values h. if_option (value (λ c. nat_le (length c.stack - args + length values) c.size) (active_context_same k)) (some values h) none)

without_selector_moved : {v m : Kept} → Keeps v m → (args : ℕ) → Moved v (without_selector v args) (without_selector m args)
without_selector_moved {v} k args =
    put_active_moved k (of (ContextHeld v) (λ c. with_stack (take (length c.stack - args) c.stack ++ last_values (args - 1) c.stack) c) (active_context_same k)
    (λ c h. stack_held c _ h (all-append (IsHeld v) (take (length c.stack - args) c.stack) (last_values (args - 1) c.stack)
    (all-take (IsHeld v) (length c.stack - args) c.stack h.stack) (all-drop (IsHeld v) (length c.stack - (args - 1)) c.stack h.stack))))

perform_found_alike : {v m t u : Kept} {x y : Ref} {a b : Sought} → Keeps v m → Moved v t u → Same (IsHeld v) x y → (args : ℕ) → Same (SoughtHeld v) a b → Alike v (perform_found v t x args a) (perform_found m u y args b)
perform_found_alike k s selector args (same (sought.Method x) h) =
    if_alike (of_option (λ o. argument_count (header_in o) == args) (object_of_same k (same x h))) (behind s (invoke_alike s.keeps (up s.grows (same x h)) args)) (out_alike k (same ends.Fail tt))
perform_found_alike k s selector args (same Missing h) = behind s (not_understood_alike s.keeps (up s.grows selector) args)
perform_found_alike k s selector args (same Loop h) = stop_alike k _

pub perform_alike : {v m : Kept} → Keeps v m → (args : ℕ) → Alike v (perform v args) (perform m args)
unfolding perform
perform_alike k args =
    if_alike (is (args == 0)) (fail_alike k)
    (given_alike _ _ (from_top_same (args - 1) (stack_same k)) (fail_alike k) (λ selector h.
    perform_found_alike k (without_selector_moved k args) (same selector h) (args - 1) (look_from_same k (is selector) (class_of_same k (receiver_at_same k args)))))

pub perform_with_arguments_alike : {v m : Kept} → Keeps v m → Alike v (perform_with_arguments v) (perform_with_arguments m)
unfolding perform_with_arguments
perform_with_arguments_alike k =
    given_alike _ _ (from_top_same 1 (stack_same k)) (fail_alike k) (λ selector h.
    given_alike _ _ (from_top_same 0 (stack_same k)) (fail_alike k) (λ array g.
    given_alike _ _ (elements_fitting_same k 2 (same array g)) (fail_alike k) (λ values f.
    perform_found_alike k (spread_moved k 2 (same values f)) (same selector h) (length values) (look_from_same k (is selector) (class_of_same k (receiver_at_same k 2))))))

pub execute_method_alike : {v m : Kept} → Keeps v m → Alike v (execute_method v) (execute_method m)
unfolding execute_method
execute_method_alike k =
    given_alike _ _ (from_top_same 1 (stack_same k)) (fail_alike k) (λ array h.
    given_alike _ _ (from_top_same 0 (stack_same k)) (fail_alike k) (λ method g.
    given_alike _ _ (elements_fitting_same k 2 (same array h)) (fail_alike k) (λ values f.
    let s = spread_moved k 2 (same values f) in
    if_alike (of_option (λ o. is_method o && argument_count (header_in o) == length values) (object_of_same k (same method g)))
    (behind s (invoke_alike s.keeps (up s.grows (same method g)) (length values))) (fail_alike k))))
