-- What becomes of a state by a send: what a lookup finds is a method, so it may be entered.
use Rattle.std.proofs.Common.{◌≡◌, ℕ, zero, suc, ◌-◌, ◌==◌, ◌&&◌, Bool, true, false, refl, sym, ap, ◌∙◌, Option, Some, None, is_some, List, [], ◌∷◌, ◌++◌, length, take, drop, option_and_then, nat_lt, if◌then◌else◌}
use Rattle.std.specs.Prelude.{slice_get}
use Rattle.cs_model.specs.declared.stop.Stop.TheVariants as why
use Rattle.cs_model.specs.Ref.{Ref, same_ref}
use Rattle.cs_model.specs.Obj.{header_in, bytecodes_in, primitive_number, argument_count, slots_in, at_least, is_method, with_stack}
use Rattle.cs_model.specs.State.{Kept, object_of, slots_of, special_at}
use Rattle.cs_model.specs.Read.{stack_of, depth_of, from_top, class_of}
use Rattle.cs_model.specs.Operation.{last_values}
use Rattle.cs_model.specs.Lookup.{Sought, Missing, Loop, class_limit, if_method, or_else, find_among, list_or_empty, find_in, find_in_dictionary, slot_in, or_above, in_class, lookup_within, lookup}
use Rattle.cs_model.specs.Lookup as sought
use Rattle.cs_model.specs.Instance.{Made, New, NotInstantiable, TableFull, instantiate}
use Rattle.cs_model.specs.Exec.{fill_of}
use Rattle.cs_model.specs.Send.{receiver_at, activation_words, enter_out, offer, invoke, message_class, does_not_understand, message_slots, message_made, with_message, class_or_nil, not_understood_by, send_message, not_understood, send_found, begins_at, look_from, send, elements_fitting, spread_of, without_selector, perform_found, perform, perform_with_arguments, execute_method}
use Rattle.cs_model.specs.End.{Out, out, stop, given}
use Rattle.cs_model.specs.End as ends
use Rattle.cs_model.proofs.Leading.{becomes_of, leads_itself}
use Rattle.cs_model.proofs.LeadCombining.{Ready, Goes, goes_trans, ready_behind, runs_settled, Leading, out_leading, stop_leading, stop_behind, fail_leading, behind, made_leading, made_context_leading, given_leading, if_leading, and_then_goes}
use Rattle.cs_model.proofs.LeadOperation.{edit_active_goes, drop_goes}
use Rattle.cs_model.proofs.LeadEntering.{and_left, IsEntry, method_entry, enter_goes}
use Rattle.cs_model.proofs.LeadExecuting.{push_behind, with_array_leading, Fills, fill_goes, last_fills}
use Rattle.cs_model.proofs.LeadInstance.{MadeGoes, instantiate_goes}

-- ---- what a lookup finds

abbrev MethodIf : Kept → Option Ref → Type 0
MethodIf k None = Unit {0}
MethodIf k (Some x) = is_method (object_of k x) ≡ true

abbrev pub MethodSought : Kept → Sought → Type 0
MethodSought k (sought.Method x) = is_method (object_of k x) ≡ true
MethodSought k Missing = Unit {0}
MethodSought k Loop = Unit {0}

if_method-is : (k : Kept) (o : Option Ref) → MethodIf k (if_method k o)
if_method-is k None = tt
if_method-is k (Some x) = go (is_method (object_of k x)) refl where
  go : (b : Bool) → is_method (object_of k x) ≡ b → MethodIf k (if b then Some x else None)
  go true e = e
  go false e = tt

or_else-is : (k : Kept) (o p : Option Ref) → MethodIf k o → MethodIf k p → MethodIf k (or_else o p)
or_else-is k None p h g = g
or_else-is k (Some x) p h g = h

if_is : (k : Kept) (b : Bool) (o p : Option Ref) → MethodIf k o → MethodIf k p → MethodIf k (if b then o else p)
if_is k true o p h g = h
if_is k false o p h g = g

find_among-is : (k : Kept) (values : List Ref) (selector : Ref) (i : ℕ) (xs : List Ref) → MethodIf k (find_among k values selector i xs)
unfolding find_among
find_among-is k values selector i [] = tt
find_among-is k values selector i (x ∷ xs) =
    let later = find_among-is k values selector (suc i) xs in
    if_is k (same_ref x selector) _ _ (or_else-is k (if_method k (slice_get values i)) _ (if_method-is k (slice_get values i)) later) later

find_in-is : (k : Kept) (selector : Ref) (o : Option (List Ref)) → MethodIf k (find_in k selector o)
find_in-is k selector None = tt
find_in-is k selector (Some slots) = find_among-is k (list_or_empty (option_and_then (λ x. slots_in (object_of k x)) (slice_get slots 1))) selector 0 (drop 2 slots)

find_in_dictionary-is : (k : Kept) (selector dictionary : Ref) → MethodIf k (find_in_dictionary k selector dictionary)
unfolding find_in_dictionary
find_in_dictionary-is k selector dictionary = find_in-is k selector (slots_of k 2 dictionary)

or_above-is : (k : Kept) (o : Option Ref) (above : Sought) → MethodIf k o → MethodSought k above → MethodSought k (or_above o above)
or_above-is k None above h g = g
or_above-is k (Some x) above h g = h

in_class-is : (k : Kept) (selector : Ref) (o : Option (List Ref)) (above : Ref → Sought) → ((x : Ref) → MethodSought k (above x)) → MethodSought k (in_class k selector o above)
in_class-is k selector None above h = tt
in_class-is k selector (Some slots) above h = or_above-is k (find_in_dictionary k selector (slot_in slots 1)) (above (slot_in slots 0)) (find_in_dictionary-is k selector (slot_in slots 1)) (h (slot_in slots 0))

lookup_within-is : (n : ℕ) (k : Kept) (selector class : Ref) → MethodSought k (lookup_within n k selector class)
unfolding lookup_within
lookup_within-is zero k selector class = go (is_some (slots_of k 3 class)) where
  go : (b : Bool) → MethodSought k (if b then Loop else Missing)
  go true = tt
  go false = tt
lookup_within-is (suc n) k selector class = in_class-is k selector (slots_of k 3 class) (λ above. lookup_within n k selector above) (λ above. lookup_within-is n k selector above)

pub lookup-is : (k : Kept) (class selector : Ref) → MethodSought k (lookup k class selector)
unfolding lookup
lookup-is k class selector = lookup_within-is class_limit k selector class

look_from-is : (k : Kept) (selector : Ref) (o : Option Ref) → MethodSought k (look_from k selector o)
look_from-is k selector None = tt
look_from-is k selector (Some class) = lookup-is k class selector

-- ---- a method that was found

pub enter_leading : {P : Kept → Type 0} {k : Kept} (method : Ref) (args : ℕ) (skip : Bool) → Ready k → IsEntry (object_of k method) skip → Leading P k (enter_out k method args skip)
unfolding enter_out
enter_leading {P} {k} method args skip r entry =
    let g = enter_goes method args skip r entry in
    made_context_leading (activation_words (object_of k method)) (out_leading ends.Entered g.leads (runs_settled g.runs))

offer_leading : {P : Kept → Type 0} {k : Kept} (method : Ref) (args : ℕ) (o : Option ℕ) → Ready k → is_method (object_of k method) ≡ true → primitive_number (header_in (object_of k method)) (bytecodes_in (object_of k method)) ≡ o → Leading P k (offer k method args o)
offer_leading {P} {k} method args None r h e = enter_leading method args false r (method_entry (object_of k method) h)
offer_leading method args (Some number) r h e = out_leading (ends.Primitive method number) (leads_itself r.sound) (r.runs, record { number = number; is = e })

pub invoke_leading : {P : Kept → Type 0} {k : Kept} (method : Ref) (args : ℕ) → Ready k → is_method (object_of k method) ≡ true → Leading P k (invoke k method args)
unfolding invoke
invoke_leading {P} {k} method args r h =
    if_leading (argument_count (header_in (object_of k method)) == args) (λ e. offer_leading method args _ r h refl) (λ e. stop_leading r.sound why.BadArgs)

-- ---- what isn't understood

-- what has two slots isn't without any
two_fill : (k : Kept) (x : Ref) (slots values : List Ref) → slots_of k 2 x ≡ Some slots → Fills (object_of k x) values
unfolding slots_of
two_fill k x slots values e = record { none = λ h. absurd (none_some (ap (at_least 2) (sym h) ∙ e)) } where
  none_some : None ≡ Some slots → ⊥
  none_some f = cc

message_made_leading : {P : Kept → Type 0} {k : Kept} (selector array class : Ref) (next : Kept → Ref → Out) (m : Made) → Ready k → MadeGoes k m → ((t : Kept) (message : Ref) → Goes k t → Leading P k (next t message)) → Leading P k (message_made k selector array class next m)
message_made_leading selector array class next NotInstantiable r h f = stop_leading r.sound why.BadSpecial
message_made_leading selector array class next TableFull r h f = stop_leading r.sound why.BadSpecial
message_made_leading selector array class next (New t message words) r h f =
    made_leading words (given_leading (slots_of t 2 message) (λ slots. next (fill_of t message (message_slots selector array class slots)) message) (stop_behind h.leads why.BadSpecial)
    (λ slots e. f (fill_of t message (message_slots selector array class slots)) message (goes_trans h (fill_goes message (message_slots selector array class slots) (ready_behind h) (two_fill t message slots (message_slots selector array class slots) e)))))

with_message_leading : {P : Kept → Type 0} {k : Kept} (selector array class : Ref) (next : Kept → Ref → Out) → Ready k → ((t : Kept) (message : Ref) → Goes k t → Leading P k (next t message)) → Leading P k (with_message k selector array class next)
with_message_leading {P} {k} selector array class next r f =
    given_leading (special_at k message_class) (λ messages. message_made k selector array class next (instantiate k messages 0)) (stop_leading r.sound why.BadSpecial)
    (λ messages e. message_made_leading selector array class next (instantiate k messages 0) r (instantiate_goes messages 0 r) f)

not_understood_by_leading : {P : Kept → Type 0} {k : Kept} (s : Sought) → Ready k → MethodSought k s → Leading P k (not_understood_by k s)
not_understood_by_leading (sought.Method method) r h = invoke_leading method 1 r h
not_understood_by_leading Missing r h = stop_leading r.sound why.NotUnderstood
not_understood_by_leading Loop r h = stop_leading r.sound why.ClassLoop

send_message_leading : {P : Kept → Type 0} {k : Kept} (class : Ref) (args : ℕ) (message : Ref) → Ready k → Leading P k (send_message k class args message)
send_message_leading class args message r =
    and_then_goes (λ t. given (special_at t does_not_understand) (stop why.BadSpecial t) (λ selector. not_understood_by t (lookup t class selector))) (push_behind message (drop_goes args r)) (λ t s l.
    given_leading (special_at t does_not_understand) (λ selector. not_understood_by t (lookup t class selector)) (stop_leading s.sound why.BadSpecial)
    (λ selector e. not_understood_by_leading (lookup t class selector) s (lookup-is t class selector)))

pub not_understood_leading : {P : Kept → Type 0} {k : Kept} (selector : Ref) (args : ℕ) → Ready k → Leading P k (not_understood k selector args)
unfolding not_understood
not_understood_leading {P} {k} selector args r =
    let class = class_or_nil k (receiver_at k args) in
    with_array_leading args (λ t array. with_message (fill_of t array (last_values args (stack_of t))) selector array class (λ u message. send_message u class args message)) r (λ t array g e.
    let f = goes_trans g (fill_goes array (last_values args (stack_of t)) (ready_behind g) (last_fills args (stack_of t) (object_of t array) e)) in
    behind f.leads (with_message_leading selector array class (λ u message. send_message u class args message) (ready_behind f) (λ u message h.
    behind h.leads (send_message_leading class args message (ready_behind h)))))

-- ---- the send

send_found_leading : {P : Kept → Type 0} {k : Kept} (selector : Ref) (args : ℕ) (s : Sought) → Ready k → MethodSought k s → Leading P k (send_found k selector args s)
send_found_leading selector args (sought.Method method) r h = invoke_leading method args r h
send_found_leading selector args Missing r h = not_understood_leading selector args r
send_found_leading selector args Loop r h = stop_leading r.sound why.ClassLoop

pub message_leading : {P : Kept → Type 0} {k : Kept} (selector : Ref) (args : ℕ) (above : Option Ref) → Ready k → Leading P k (send k selector args above)
unfolding send
message_leading {P} {k} selector args above r =
    if_leading (nat_lt args (depth_of k)) (λ e. send_found_leading selector args _ r (look_from-is k selector (begins_at k args above))) (λ e. stop_leading r.sound why.StackUnder)

-- ---- perform

pub spread_goes : {k : Kept} (args : ℕ) (values : List Ref) → Ready k → Goes k (spread_of k args values)
spread_goes args values r = edit_active_goes (λ c. with_stack (take (length c.stack - args) c.stack ++ values) c) (record { pc = λ c. refl; method = λ c. refl }) r

without_selector_goes : {k : Kept} (args : ℕ) → Ready k → Goes k (without_selector k args)
without_selector_goes args r = edit_active_goes (λ c. with_stack (take (length c.stack - args) c.stack ++ last_values (args - 1) c.stack) c) (record { pc = λ c. refl; method = λ c. refl }) r

perform_found_leading : {P : Kept → Type 0} {k t : Kept} (selector : Ref) (args : ℕ) (s : Sought) → Ready k → Goes k t → MethodSought k s → Leading P k (perform_found k t selector args s)
perform_found_leading {P} {k} {t} selector args (sought.Method method) r g h =
    if_leading (argument_count (header_in (object_of k method)) == args) (λ e. behind g.leads (invoke_leading method args (ready_behind g) ((becomes_of g.leads.stays method).method h))) (λ e. fail_leading r)
perform_found_leading selector args Missing r g h = behind g.leads (not_understood_leading selector args (ready_behind g))
perform_found_leading selector args Loop r g h = stop_leading r.sound why.ClassLoop

pub perform_leading : {P : Kept → Type 0} {k : Kept} (args : ℕ) → Ready k → Leading P k (perform k args)
unfolding perform
perform_leading {P} {k} args r =
    if_leading (args == 0) (λ e. fail_leading r) (λ e.
    given_leading (from_top (args - 1) (stack_of k)) _ (fail_leading r) (λ selector f.
    perform_found_leading selector (args - 1) (look_from k selector (class_of k (receiver_at k args))) r (without_selector_goes args r) (look_from-is k selector (class_of k (receiver_at k args)))))

pub perform_with_arguments_leading : {P : Kept → Type 0} {k : Kept} → Ready k → Leading P k (perform_with_arguments k)
unfolding perform_with_arguments
perform_with_arguments_leading {P} {k} r =
    given_leading (from_top 1 (stack_of k)) _ (fail_leading r) (λ selector e.
    given_leading (from_top 0 (stack_of k)) _ (fail_leading r) (λ array f.
    given_leading (elements_fitting k 2 array) _ (fail_leading r) (λ values g.
    perform_found_leading selector (length values) (look_from k selector (class_of k (receiver_at k 2))) r (spread_goes 2 values r) (look_from-is k selector (class_of k (receiver_at k 2))))))

pub execute_method_leading : {P : Kept → Type 0} {k : Kept} → Ready k → Leading P k (execute_method k)
unfolding execute_method
execute_method_leading {P} {k} r =
    given_leading (from_top 1 (stack_of k)) _ (fail_leading r) (λ array e.
    given_leading (from_top 0 (stack_of k)) _ (fail_leading r) (λ method f.
    given_leading (elements_fitting k 2 array) _ (fail_leading r) (λ values g.
    if_leading (is_method (object_of k method) && argument_count (header_in (object_of k method)) == length values)
    (λ h. let s = spread_goes 2 values r in behind s.leads (invoke_leading method (length values) (ready_behind s) ((becomes_of s.leads.stays method).method (and_left _ _ h))))
    (λ h. fail_leading r))))
