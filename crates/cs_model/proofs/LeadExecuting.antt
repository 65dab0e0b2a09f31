-- What becomes of a state by each instruction: a context stays active, and an object that an instruction makes is sound.
use Rattle.std.proofs.Common.{◌≡◌, ℕ, ◌+◌, ◌-◌, ◌*◌, ◌==◌, ℤ, pos, ◌+ℤ◌, Bool, true, false, refl, sym, ap, subst, ◌∙◌, Option, Some, None, is_some, List, [], ◌∷◌, length, arith, option_and_then, nat_lt, nat_le, unwrap_or, length-drop, if◌then◌else◌}
use Rattle.std.specs.Prelude.{slice_get}
use Rattle.std.proofs.lemmas.Bool.Decides.{nat_tests}
use Rattle.cs_model.specs.declared.stop.Stop.TheVariants as why
use Rattle.cs_model.specs.declared.instruction.Op.{Op}
use Rattle.cs_model.specs.declared.instruction.Op.TheVariants as op
use Rattle.cs_model.specs.Ref.{Ref, Small, Char, same_ref}
use Rattle.cs_model.specs.Ref as ref
use Rattle.cs_model.specs.Obj.{Obj, Context, Ptr, Raw, Method, Ctx, slots_in, context_in, lies_in, words_of_slots, pushed, popped}
use Rattle.cs_model.specs.State.{Kept, object_at, object_of, is_read_only, special_at}
use Rattle.cs_model.specs.Read.{blank_context, active_birth, active_context, stack_of, depth_of, size_of, pc_of, receiver_of, method_of, literals_of, from_top, class_of}
use Rattle.cs_model.specs.Operation.{edit_active, push_of, drop_of, pop_of, set_pc_of, add_of, next_ref, nil_of, last_values}
use Rattle.cs_model.specs.Context.{context_get, accepts, context_put}
use Rattle.cs_model.specs.Number.{boolean}
use Rattle.cs_model.specs.Instance.{Made, New, NotInstantiable, TableFull, instantiate}
use Rattle.cs_model.specs.Exec.{push_out, top_of, with_top, pop_out, dup_out, push_all, special_send_out, attempt_to_assign, refuse_store, store_slot, push_field, push_receiver_out, birth_or_zero, is_active, store_in_context, store_field, store_receiver_out, push_temp_out, store_temp_out, literal_at, push_literal_out, variable_value, push_variable_out, store_variable_out, vector_at, vector_slot, push_vector_out, store_vector_out, pop_into, store_into, pc_of_sum, if_lies, pc_after, jump_out, must_be_boolean, jump_if_out, is_local, return_out, send_literal_out, send_super_out, argument_count_in, selector_pair, send_selector_out, at_once, special_out, same_out, class_out, common_out, array_class, slots_equal, array_made, with_array, with_slots, fill_of, new_array_out, pop_array_out, new_closure, closure_out, this_context_out, exec}
use Rattle.cs_model.specs.End.{Out, out, stop, done, given, made, looked, and_then}
use Rattle.cs_model.specs.End as ends
use Rattle.cs_model.proofs.Editing.{active_context-put}
use Rattle.cs_model.proofs.Leading.{becomes_of, Leads, leads_itself, leads_trans}
use Rattle.cs_model.proofs.LeadCombining.{Runs, Ready, Goes, goes_itself, goes_trans, goes_by, ready_behind, active_found, Leading, out_leading, done_leading, done_goes, stop_leading, stop_behind, behind, made_leading, looked_leading, given_leading, if_leading, and_then_leading, and_then_goes}
use Rattle.cs_model.proofs.LeadOperation.{KeepsPlace, edit_active_goes, set_pc_goes, push_goes, drop_goes, set_stack_goes, store_goes, Mild, mild_itself, no_context_lies, edit_object_leads, edit_object-rest, add_goes, add_below, held_below}
use Rattle.cs_model.proofs.LeadFields.{context_put_goes}
use Rattle.cs_model.proofs.LeadInstance.{MadeGoes, instantiate_goes}

-- ---- the stack

pub push_leading : {k : Kept} (x : Ref) → Ready k → Leading Runs k (push_out k x)
unfolding push_out
push_leading {k} x r = if_leading (nat_lt (depth_of k) (size_of k)) (λ e. done_goes (push_goes x r)) (λ e. stop_leading r.sound why.StackOver)

-- a value is pushed behind what went before
pub push_behind : {k t : Kept} (x : Ref) → Goes k t → Leading Runs k (push_out t x)
push_behind x g = behind g.leads (push_leading x (ready_behind g))

pub with_top_leading : {P : Kept → Type 0} {k : Kept} (f : Ref → Out) → Ready k → ((x : Ref) → Leading P k (f x)) → Leading P k (with_top k f)
with_top_leading {k = k} f r next = given_leading (top_of k) f (stop_leading r.sound why.StackUnder) (λ x e. next x)

pub pop_leading : {k : Kept} → Ready k → Leading Runs k (pop_out k)
unfolding pop_out
pop_leading {k} r = with_top_leading (λ x. done (pop_of k)) r (λ x. done_goes (drop_goes 1 r))

pub dup_leading : {k : Kept} → Ready k → Leading Runs k (dup_out k)
unfolding dup_out
dup_leading {k} r = with_top_leading (λ x. push_out k x) r (λ x. push_leading x r)

pub push_all_leading : (xs : List Ref) {k : Kept} → Ready k → Leading Runs k (push_all xs k)
unfolding push_all
push_all_leading [] r = done_goes (goes_itself r)
push_all_leading (x ∷ xs) r = and_then_goes (λ t. push_all xs t) (push_leading x r) (λ t s l. push_all_leading xs s)

pub send_leading : {P : Kept → Type 0} {k : Kept} (selector : Ref) (args : ℕ) (above : Option Ref) → Ready k → Leading P k (out (ends.Send selector args above) k)
send_leading selector args above r = out_leading (ends.Send selector args above) (leads_itself r.sound) r.runs

pub special_send_leading : {P : Kept → Type 0} {k : Kept} (special args : ℕ) → Ready k → Leading P k (special_send_out k special args)
unfolding special_send_out
special_send_leading {P} {k} special args r = given_leading (special_at k special) (λ selector. out (ends.Send selector args None) k) (stop_leading r.sound why.BadSpecial) (λ x e. send_leading x args None r)

-- ---- stores into slots

refuse_leading : {P : Kept → Type 0} {bare : Kept} (target : Ref) (i : ℕ) (v : Ref) → Ready bare → Leading P bare (refuse_store bare target i v)
unfolding refuse_store
refuse_leading target i v r =
    and_then_goes (λ t. special_send_out t attempt_to_assign 2) (push_all_leading (target ∷ v ∷ Small (pos (i + 1)) ∷ []) r) (λ t s l. special_send_leading attempt_to_assign 2 s)

store_slot_leading : {k bare : Kept} (target : Ref) (i : ℕ) (v : Ref) → Ready k → Goes k bare → Leading Runs k (store_slot k bare target i v)
unfolding store_slot
store_slot_leading {k} target i v r g =
    if_leading (is_read_only k target) (λ e. behind g.leads (refuse_leading target i v (ready_behind g))) (λ e. done_goes (store_goes target i v r))

-- ---- receiver fields

push_field_leading : {k : Kept} (i : ℕ) (o : Option Obj) → Ready k → Leading Runs k (push_field k i o)
push_field_leading i None r = stop_leading r.sound why.BadField
push_field_leading {k} i (Some (Ptr head slots)) r = given_leading (slice_get slots i) (λ x. push_out k x) (stop_leading r.sound why.BadField) (λ x e. push_leading x r)
push_field_leading i (Some (Raw head bytes)) r = stop_leading r.sound why.BadField
push_field_leading i (Some (Method head header literals bytecodes)) r = stop_leading r.sound why.BadField
push_field_leading {k} i (Some (Ctx c)) r =
    given_leading (context_get k c i) (λ x. if i == 0 then looked (push_out k x) else push_out k x) (stop_leading r.sound why.BadField)
    (λ x e. if_leading (i == 0) (λ f. looked_leading (push_leading x r)) (λ f. push_leading x r))

pub push_receiver_leading : {k : Kept} (i : ℕ) → Ready k → Leading Runs k (push_receiver_out k i)
unfolding push_receiver_out
push_receiver_leading {k} i r = push_field_leading i (object_of k (receiver_of k)) r

-- a field of the context that a reference names is written
pub context_written : {k : Kept} (x : Ref) (c : Context) (i : ℕ) (v : Ref) → Ready k → object_of k x ≡ Some (Ctx c) → accepts k (is_active k x) c i v ≡ true → Goes k (context_put k (birth_or_zero x) i v)
context_written (Small a) c i v r e h = absurd (cc)
context_written (Char a) c i v r e h = absurd (cc)
context_written {k} (ref.Obj n) c i v r e h = context_put_goes n (is_active k (ref.Obj n)) c i v r e active h where
  same_birth : (a : Option ℕ) → a ≡ Some n → (n == unwrap_or a k.rest.nil) ≡ true
  same_birth a f = ap (λ o. n == unwrap_or o k.rest.nil) f ∙ grind (arith, nat_tests)

  active : k.rest.active ≡ Some n → is_active k (ref.Obj n) ≡ true
  active f = same_birth k.rest.active f

store_in_context_leading : {k : Kept} (i : ℕ) (v : Ref) (c : Context) → Ready k → object_of k (receiver_of k) ≡ Some (Ctx c) → Leading Runs k (store_in_context k i v c)
store_in_context_leading {k} i v c r e =
    if_leading (nat_lt i (6 + length c.stack))
    (λ f. if_leading (accepts k (is_active k (receiver_of k)) c i v) (λ h. done_goes (context_written (receiver_of k) c i v r e h)) (λ h. stop_leading r.sound why.BadStore))
    (λ f. stop_leading r.sound why.BadField)

store_field_leading : {k bare : Kept} (i : ℕ) (v : Ref) (o : Option Obj) → Ready k → Goes k bare → object_of k (receiver_of k) ≡ o → Leading Runs k (store_field k bare i v o)
store_field_leading i v None r g e = stop_leading r.sound why.BadField
store_field_leading {k} i v (Some (Ptr head slots)) r g e = if_leading (nat_lt i (length slots)) (λ f. store_slot_leading (receiver_of k) i v r g) (λ f. stop_leading r.sound why.BadField)
store_field_leading i v (Some (Raw head bytes)) r g e = stop_leading r.sound why.BadField
store_field_leading i v (Some (Method head header literals bytecodes)) r g e = stop_leading r.sound why.BadField
store_field_leading i v (Some (Ctx c)) r g e = store_in_context_leading i v c r e

pub store_receiver_leading : {k bare : Kept} (i : ℕ) (v : Ref) → Ready k → Goes k bare → Leading Runs k (store_receiver_out k bare i v)
unfolding store_receiver_out
store_receiver_leading {k} i v r g = store_field_leading i v (object_of k (receiver_of k)) r g refl

-- ---- temporaries, literals and literal variables

pub push_temp_leading : {k : Kept} (i : ℕ) → Ready k → Leading Runs k (push_temp_out k i)
unfolding push_temp_out
push_temp_leading {k} i r = given_leading (slice_get (stack_of k) i) (λ x. push_out k x) (stop_leading r.sound why.BadField) (λ x e. push_leading x r)

pub store_temp_leading : {k : Kept} (i : ℕ) (v : Ref) → Ready k → Leading Runs k (store_temp_out k i v)
unfolding store_temp_out
store_temp_leading {k} i v r = if_leading (nat_lt i (depth_of k)) (λ e. done_goes (set_stack_goes i v r)) (λ e. stop_leading r.sound why.BadField)

pub push_literal_leading : {k : Kept} (i : ℕ) → Ready k → Leading Runs k (push_literal_out k i)
unfolding push_literal_out
push_literal_leading {k} i r = given_leading (literal_at k i) (λ x. push_out k x) (stop_leading r.sound why.BadLiteral) (λ x e. push_leading x r)

pub push_variable_leading : {k : Kept} (i : ℕ) → Ready k → Leading Runs k (push_variable_out k i)
unfolding push_variable_out
push_variable_leading {k} i r = given_leading (variable_value k i) (λ x. push_out k x) (stop_leading r.sound why.BadLiteral) (λ x e. push_leading x r)

pub store_variable_leading : {k bare : Kept} (i : ℕ) (v : Ref) → Ready k → Goes k bare → Leading Runs k (store_variable_out k bare i v)
unfolding store_variable_out
store_variable_leading {k} {bare} i v r g =
    given_leading (variable_value k i) (λ old. store_slot k bare (unwrap_or (literal_at k i) (nil_of k)) 1 v) (stop_leading r.sound why.BadLiteral)
    (λ old e. store_slot_leading (unwrap_or (literal_at k i) (nil_of k)) 1 v r g)

-- ---- vectors

pub push_vector_leading : {k : Kept} (i j : ℕ) → Ready k → Leading Runs k (push_vector_out k i j)
unfolding push_vector_out
push_vector_leading {k} i j r = given_leading (vector_slot k i j) (λ x. push_out k x) (stop_leading r.sound why.BadField) (λ x e. push_leading x r)

pub store_vector_leading : {k bare : Kept} (i j : ℕ) (v : Ref) → Ready k → Goes k bare → Leading Runs k (store_vector_out k bare i j v)
unfolding store_vector_out
store_vector_leading {k} {bare} i j v r g =
    given_leading (vector_slot k i j) (λ old. store_slot k bare (vector_at k j) i v) (stop_leading r.sound why.BadField) (λ old e. store_slot_leading (vector_at k j) i v r g)

-- ---- pop and store forms

-- a store, where the state without the value can be reached
abbrev pub Stores : (Kept → Kept → Ref → Out) → Type 0
Stores f = (t bare : Kept) (x : Ref) → Ready t → Goes t bare → Leading Runs t (f t bare x)

pub pop_into_leading : {k : Kept} (f : Kept → Kept → Ref → Out) → Ready k → Stores f → Leading Runs k (pop_into k f)
unfolding pop_into
pop_into_leading {k} f r next =
    with_top_leading (λ x. f (pop_of k) (pop_of k) x) r
    (λ x. let d = drop_goes 1 r in behind d.leads (next (pop_of k) (pop_of k) x (ready_behind d) (goes_itself (ready_behind d))))

pub store_into_leading : {k : Kept} (f : Kept → Kept → Ref → Out) → Ready k → Stores f → Leading Runs k (store_into k f)
unfolding store_into
store_into_leading {k} f r next = with_top_leading (λ x. f k (pop_of k) x) r (λ x. next k (pop_of k) x r (drop_goes 1 r))

-- ---- jumps

if_lies-lies : (method : Option Obj) (o : Option ℕ) (pc : ℕ) → if_lies method o ≡ Some pc → lies_in method pc ≡ true
if_lies-lies method None pc e = absurd (cc)
if_lies-lies method (Some n) pc e = go (lies_in method n) refl e where
  go : (b : Bool) → lies_in method n ≡ b → (if b then Some n else None) ≡ Some pc → lies_in method pc ≡ true
  go true h f = ap (lies_in method) (ap (λ q. unwrap_or q 0) (sym f)) ∙ h
  go false h f = absurd (cc)

pub pc_after-lies : (k : Kept) (offset : ℤ) (pc : ℕ) → pc_after k offset ≡ Some pc → lies_in (method_of k) pc ≡ true
unfolding pc_after
pc_after-lies k offset pc e = if_lies-lies (method_of k) (pc_of_sum (pos (pc_of k) +ℤ offset)) pc e

pub jump_leading : {k : Kept} (offset : ℤ) → Ready k → Leading Runs k (jump_out k offset)
unfolding jump_out
jump_leading {k} offset r = given_leading (pc_after k offset) (λ pc. done (set_pc_of k pc)) (stop_leading r.sound why.BadCode) (λ pc e. done_goes (set_pc_goes pc r (pc_after-lies k offset pc e)))

pub jump_if_leading : {k : Kept} (wanted : Bool) (offset : ℕ) → Ready k → Leading Runs k (jump_if_out k wanted offset)
unfolding jump_if_out
jump_if_leading {k} wanted offset r = with_top_leading _ r (λ x. let d = drop_goes 1 r in
    if_leading (same_ref x (boolean k wanted)) (λ e. behind d.leads (jump_leading (pos offset) (ready_behind d)))
    (λ e. if_leading (same_ref x (ref.Obj k.rest.true_)) (λ f. done_goes d)
    (λ f. if_leading (same_ref x (ref.Obj k.rest.false_)) (λ g. done_goes d)
    (λ g. special_send_leading must_be_boolean 0 r))))

-- ---- returns

pub return_leading : {P : Kept → Type 0} {k : Kept} (x : Ref) (local : Bool) → Ready k → Leading P k (return_out k x local)
return_leading x local r = out_leading (ends.Return x local) (leads_itself r.sound) r.runs

pub return_behind : {P : Kept → Type 0} {k t : Kept} (x : Ref) (local : Bool) → Goes k t → Leading P k (return_out t x local)
return_behind x local g = behind g.leads (return_leading x local (ready_behind g))

-- ---- sends

pub send_literal_leading : {P : Kept → Type 0} {k : Kept} (lit args : ℕ) → Ready k → Leading P k (send_literal_out k lit args)
unfolding send_literal_out
send_literal_leading {P} {k} lit args r = given_leading (literal_at k lit) (λ selector. out (ends.Send selector args None) k) (stop_leading r.sound why.BadLiteral) (λ x e. send_leading x args None r)

pub send_super_leading : {P : Kept → Type 0} {k : Kept} (lit args : ℕ) → Ready k → Leading P k (send_super_out k lit args)
unfolding send_super_out
send_super_leading {P} {k} lit args r =
    given_leading (literal_at k lit) _ (stop_leading r.sound why.BadLiteral) (λ x e.
    given_leading (variable_value k (length (literals_of k) - 1)) (λ above. out (ends.Send x args (Some above)) k) (stop_leading r.sound why.BadLiteral) (λ above f.
    send_leading x args (Some above) r))

pub send_selector_leading : {P : Kept → Type 0} {k : Kept} (i : ℕ) → Ready k → Leading P k (send_selector_out k i)
unfolding send_selector_out
send_selector_leading {P} {k} i r =
    given_leading (selector_pair k i) _ (stop_leading r.sound why.BadSpecial) (λ slots e.
    given_leading (slice_get slots (2 * i)) _ (stop_leading r.sound why.BadSpecial) (λ x f.
    given_leading (option_and_then (λ x. argument_count_in x) (slice_get slots (2 * i + 1))) (λ args. out (ends.Send x args None) k) (stop_leading r.sound why.BadSpecial) (λ args g.
    send_leading x args None r)))

-- values leave the stack, and one is pushed
pub replaced_goes : {k : Kept} (n : ℕ) (x : Ref) → Ready k → Goes k (push_of (drop_of k n) x)
replaced_goes n x r = let d = drop_goes n r in goes_trans d (push_goes x (ready_behind d))

pub special_leading : {k : Kept} (i : ℕ) → Ready k → Leading Runs k (special_out k i)
unfolding special_out
special_leading {k} i r = given_leading (at_once k i) (λ x. done (push_of (drop_of k 2) x)) (send_selector_leading i r) (λ x e. done_goes (replaced_goes 2 x r))

same_leading : {k : Kept} → Ready k → Leading Runs k (same_out k)
unfolding same_out
same_leading {k} r = given_leading (from_top 1 (stack_of k)) _ (stop_leading r.sound why.StackUnder) (λ a e. with_top_leading _ r (λ b. done_goes (replaced_goes 2 (boolean k (same_ref a b)) r)))

class_leading : {k : Kept} → Ready k → Leading Runs k (class_out k)
unfolding class_out
class_leading {k} r = with_top_leading _ r (λ x. done_goes (replaced_goes 1 (unwrap_or (class_of k x) (nil_of k)) r))

pub common_leading : {k : Kept} (i : ℕ) → Ready k → Leading Runs k (common_out k i)
unfolding common_out
common_leading i r = if_leading (i == 6) (λ e. same_leading r) (λ e. if_leading (i == 7) (λ f. class_leading r) (λ f. send_selector_leading (16 + i) r))

-- ---- arrays

array_made_leading : {P : Kept → Type 0} {k : Kept} (n : ℕ) (next : Kept → Ref → Out) (m : Made) → Ready k → MadeGoes k m → ((t : Kept) (array : Ref) → Goes k t → slots_equal n (slots_in (object_of t array)) ≡ true → Leading P k (next t array)) → Leading P k (array_made k n next m)
array_made_leading n next NotInstantiable r h f = stop_leading r.sound why.BadSpecial
array_made_leading n next TableFull r h f = stop_leading r.sound why.BadSpecial
array_made_leading n next (New t array words) r h f =
    made_leading words (if_leading (slots_equal n (slots_in (object_of t array))) (λ e. f t array h e) (λ e. stop_behind h.leads why.BadSpecial))

pub with_array_leading : {P : Kept → Type 0} {k : Kept} (n : ℕ) (next : Kept → Ref → Out) → Ready k → ((t : Kept) (array : Ref) → Goes k t → slots_equal n (slots_in (object_of t array)) ≡ true → Leading P k (next t array)) → Leading P k (with_array k n next)
unfolding with_array
with_array_leading {P} {k} n next r f =
    given_leading (special_at k array_class) _ (stop_leading r.sound why.BadSpecial) (λ class e. array_made_leading n next (instantiate k class n) r (instantiate_goes class n r) f)

-- an object without slots gets none
pub record Fills (o : Option Obj) (values : List Ref) : Type 0 where
  pub none : slots_in o ≡ Some [] → values ≡ []

with_slots_mild : (values : List Ref) (o : Obj) → Fills (Some o) values → Mild (with_slots values) o
with_slots_mild values (Ptr head slots) h = record {
  like = record {
    becomes = record { held = λ g. refl; plain = λ g e. refl; lies = λ pc g. g; method = λ g. g };
    index = λ g. g;
    bare = λ g. ap (λ xs. Some xs) (h.none g);
  };
  pc = refl;
  lies = λ k g. no_context_lies refl;
}
with_slots_mild values (Raw head bytes) h = mild_itself (with_slots values) (Raw head bytes) refl
with_slots_mild values (Method head header literals bytecodes) h = mild_itself (with_slots values) (Method head header literals bytecodes) refl
with_slots_mild values (Ctx c) h = mild_itself (with_slots values) (Ctx c) refl

pub fill_goes : {k : Kept} (x : Ref) (values : List Ref) → Ready k → Fills (object_of k x) values → Goes k (fill_of k x values)
unfolding fill_of
fill_goes {k} x values r h =
    goes_by (edit_object_leads x (with_slots values) r.sound (λ p e. with_slots_mild values p (subst (λ o. Fills o values) e h))) r.runs
    (ap (λ s. s.active) (edit_object-rest k x (with_slots values)))

no_length : (xs : List Ref) → length xs ≡ 0 → xs ≡ []
no_length [] e = refl
no_length (x ∷ xs) e = absurd (omega (arith, e))

-- an array of n slots is filled with the n topmost values
pub last_fills : (n : ℕ) (xs : List Ref) (o : Option Obj) → slots_equal n (slots_in o) ≡ true → Fills o (last_values n xs)
last_fills n xs o e = record { none = λ h. no_length (last_values n xs) (few (ap (slots_equal n) (sym h) ∙ e)) } where
  few : (0 == n) ≡ true → length (last_values n xs) ≡ 0
  few f = let none : n ≡ 0 = grind (arith, nat_tests, f) in omega (arith, length-drop (length xs - n) xs, none)

pub new_array_leading : {k : Kept} (n : ℕ) → Ready k → Leading Runs k (new_array_out k n)
unfolding new_array_out
new_array_leading n r = with_array_leading n (λ t array. push_out t array) r (λ t array g e. push_behind array g)

pub pop_array_leading : {k : Kept} (n : ℕ) → Ready k → Leading Runs k (pop_array_out k n)
unfolding pop_array_out
pop_array_leading {k} n r =
    if_leading (nat_le n (depth_of k))
    (λ b. with_array_leading n (λ t array. push_out (drop_of (fill_of t array (last_values n (stack_of k))) n) array) r (λ t array g e.
    let f = fill_goes array (last_values n (stack_of k)) (ready_behind g) (last_fills n (stack_of k) (object_of t array) e) in
    let d = goes_trans g (goes_trans f (drop_goes n (ready_behind f))) in
    push_behind array d))
    (λ b. stop_leading r.sound why.StackUnder)

-- ---- closures

-- a context is active, and the pc lies in its method
record At (pc : ℕ) (k : Kept) : Type 0 where
  runs : Runs k
  lies : lies_in (method_of k) pc ≡ true

edit_active_lies : {k : Kept} (pc : ℕ) (f : Context → Context) → KeepsPlace f → Ready k → lies_in (method_of k) pc ≡ true → lies_in (method_of (edit_active k f)) pc ≡ true
unfolding method_of
edit_active_lies {k} pc f p r h =
    let t = edit_active k f in
    ap (λ c. lies_in (object_of t c.method) pc) (active_context-put k (f (active_context k)))
    ∙ ap (λ m. lies_in (object_of t m) pc) (p.method (active_context k))
    ∙ (becomes_of (edit_active_goes f p r).leads.stays (active_context k).method).lies pc h

push_lies : {k : Kept} (pc : ℕ) (x : Ref) → Ready k → lies_in (method_of k) pc ≡ true → lies_in (method_of (push_of k x)) pc ≡ true
unfolding push_of
push_lies pc x r h = edit_active_lies pc (pushed x) (record { pc = λ c. refl; method = λ c. refl }) r h

drop_lies : {k : Kept} (pc n : ℕ) → Ready k → lies_in (method_of k) pc ≡ true → lies_in (method_of (drop_of k n)) pc ≡ true
unfolding drop_of
drop_lies pc n r h = edit_active_lies pc (popped n) (record { pc = λ c. refl; method = λ c. refl }) r h

add_lies : {k : Kept} (pc : ℕ) (o : Obj) → Ready k → Leads k (add_of k o) → lies_in (method_of k) pc ≡ true → lies_in (method_of (add_of k o)) pc ≡ true
unfolding method_of active_context add_of
add_lies {k} pc o r l h =
    let t = add_of k o in
    let found : object_at t (active_birth k) ≡ object_at k (active_birth k) = add_below k o (active_birth k) (held_below r.sound (active_birth k) (ap is_some (active_found r))) in
    ap (λ p. lies_in (object_of t (unwrap_or (context_in p) blank_context).method) pc) found
    ∙ (becomes_of l.stays (active_context k).method).lies pc h

-- where there is room, and behind it the pc still lies in the method
push_at : {k t : Kept} (pc : ℕ) (x : Ref) → Goes k t → lies_in (method_of t) pc ≡ true → Leading (At pc) k (push_out t x)
unfolding push_out
push_at {k} {t} pc x g h =
    if_leading (nat_lt (depth_of t) (size_of t))
    (λ e. let p = push_goes x (ready_behind g) in done_leading (leads_trans g.leads p.leads) (record { runs = p.runs; lies = push_lies pc x (ready_behind g) h }))
    (λ e. stop_behind g.leads why.StackOver)

pub closure_leading : {k : Kept} (copied args size : ℕ) → Ready k → Leading Runs k (closure_out k copied args size)
unfolding closure_out
closure_leading {k} copied args size r =
    given_leading (pc_after k (pos size)) _ (stop_leading r.sound why.BadCode) (λ pc e.
    if_leading (nat_le copied (depth_of k))
    (λ f.
    let o = new_closure k copied args in
    let a = add_goes o r refl (no_context_lies refl) in
    let d = drop_goes copied (ready_behind a) in
    let h = drop_lies pc copied (ready_behind a) (add_lies pc o r a.leads (pc_after-lies k (pos size) pc e)) in
    looked_leading (made_leading (words_of_slots (3 + copied))
    (and_then_leading (λ t. done (set_pc_of t pc)) (push_at pc (next_ref k) (goes_trans a d) h) (λ t l g. done_goes (set_pc_goes pc (record { sound = l.sound; runs = g.runs }) g.lies)))))
    (λ f. stop_leading r.sound why.StackUnder))

-- ---- the table

this_context_leading : {k : Kept} → Ready k → Leading Runs k (this_context_out k)
unfolding this_context_out
this_context_leading {k} r = if_leading (nat_lt (depth_of k) (size_of k)) (λ e. looked_leading (done_goes (push_goes (ref.Obj (active_birth k)) r))) (λ e. stop_leading r.sound why.StackOver)

-- each instruction
pub exec_leading : {k : Kept} (i : Op) → Ready k → Leading Runs k (exec i k)
unfolding exec
exec_leading (op.PushRcvr i) r = push_receiver_leading i r
exec_leading (op.PushTemp i) r = push_temp_leading i r
exec_leading (op.PushLit i) r = push_literal_leading i r
exec_leading (op.PushLitVar i) r = push_variable_leading i r
exec_leading (op.PopRcvr i) r = pop_into_leading _ r (λ t bare x s g. store_receiver_leading i x s g)
exec_leading (op.PopTemp i) r = pop_into_leading _ r (λ t bare x s g. store_temp_leading i x s)
exec_leading (op.PopLitVar i) r = pop_into_leading _ r (λ t bare x s g. store_variable_leading i x s g)
exec_leading (op.StoreRcvr i) r = store_into_leading _ r (λ t bare x s g. store_receiver_leading i x s g)
exec_leading (op.StoreTemp i) r = store_into_leading _ r (λ t bare x s g. store_temp_leading i x s)
exec_leading (op.StoreLitVar i) r = store_into_leading _ r (λ t bare x s g. store_variable_leading i x s g)
exec_leading {k} op.PushSelf r = push_leading (receiver_of k) r
exec_leading {k} op.PushTrue r = push_leading (boolean k true) r
exec_leading {k} op.PushFalse r = push_leading (boolean k false) r
exec_leading {k} op.PushNil r = push_leading (nil_of k) r
exec_leading (op.PushInt z) r = push_leading (Small z) r
exec_leading {k} op.ReturnSelf r = return_leading (receiver_of k) (is_local k) r
exec_leading {k} op.ReturnTrue r = return_leading (boolean k true) (is_local k) r
exec_leading {k} op.ReturnFalse r = return_leading (boolean k false) (is_local k) r
exec_leading {k} op.ReturnNil r = return_leading (nil_of k) (is_local k) r
exec_leading {k} op.ReturnTop r = with_top_leading _ r (λ x. return_behind x (is_local k) (drop_goes 1 r))
exec_leading op.BlockReturn r = with_top_leading _ r (λ x. return_behind x true (drop_goes 1 r))
exec_leading (op.Send lit args) r = send_literal_leading lit args r
exec_leading (op.SendSuper lit args) r = send_super_leading lit args r
exec_leading op.Pop r = pop_leading r
exec_leading op.Dup r = dup_leading r
exec_leading op.ThisContext r = this_context_leading r
exec_leading (op.NewArray n) r = new_array_leading n r
exec_leading (op.PopArray n) r = pop_array_leading n r
exec_leading (op.Prim i j) r = done_goes (goes_itself r)
exec_leading (op.PushVec i j) r = push_vector_leading i j r
exec_leading (op.StoreVec i j) r = store_into_leading _ r (λ t bare x s g. store_vector_leading i j x s g)
exec_leading (op.PopVec i j) r = pop_into_leading _ r (λ t bare x s g. store_vector_leading i j x s g)
exec_leading (op.Closure copied args size) r = closure_leading copied args size r
exec_leading (op.Jump offset) r = jump_leading offset r
exec_leading (op.JumpTrue offset) r = jump_if_leading true offset r
exec_leading (op.JumpFalse offset) r = jump_if_leading false offset r
exec_leading (op.Special i) r = special_leading i r
exec_leading (op.Common i) r = common_leading i r
