-- An instruction leaves the senders of all contexts as they are, and the stacks of all but the active one.
use Rattle.std.proofs.Common.{◌≡◌, ℕ, ◌+◌, ◌<◌, ◌≤◌, arith, nat_le, Bool, true, false, refl, sym, ap, ◌∙◌, Option, Some, None, List, [], ◌∷◌, length, nat_lt, is_some, option_map, option_and_then, unwrap_or, inl, inr}
use Rattle.std.specs.Prelude.{ℤ, pos, ◌==◌, ◌*◌, ◌-◌, not, if◌then◌else◌, slice_get}
use Rattle.std.proofs.lemmas.Bool.Decides.{eqb_tells}
use Rattle.cs_model.specs.declared.instruction.Op.{Op}
use Rattle.cs_model.specs.declared.instruction.Op.TheVariants as op
use Rattle.cs_model.specs.Ref.{Ref, Small, Char, same_ref}
use Rattle.cs_model.specs.Ref as ref
use Rattle.cs_model.specs.Obj.{Obj, Context, Ptr, Raw, Method, Ctx, context_in, popped, pushed, stored, with_pc}
use Rattle.cs_model.specs.State.{Kept, Rest, is_read_only, put, object_at, object_of, special_at}
use Rattle.cs_model.specs.Read.{active_birth, active_context, blank_context, depth_of, from_top, literals_of, receiver_of, size_of, stack_of}
use Rattle.cs_model.specs.Operation.{add_of, next_ref, drop_of, edit_active, edit_found, nil_of, pop_of, push_of, set_pc_of, set_stack_of, store_of, with_slot, with_next}
use Rattle.cs_model.specs.Context.{context_get, is_context_ref}
use Rattle.cs_model.specs.Number.{boolean}
use Rattle.cs_model.specs.End as ends
use Rattle.cs_model.specs.End.{End, Out, given, done, looked, made, and_then, is_done}
use Rattle.cs_model.specs.Exec.{attempt_to_assign, push_all, refuse_store, store_slot, closure_out, new_closure, argument_count_in, literal_at, selector_pair, top_of, variable_value, vector_at, vector_slot, at_once, pc_after, class_out, common_out, dup_out, exec, jump_if_out, jump_out, pop_into, pop_out, push_field, push_literal_out, push_out, push_receiver_out, push_temp_out, push_variable_out, push_vector_out, same_out, send_literal_out, send_selector_out, send_super_out, special_out, special_send_out, store_field, store_into, store_receiver_out, store_temp_out, store_variable_out, store_vector_out, this_context_out}
use Rattle.cs_model.specs.Built.{is_built_op}
use Rattle.cs_model.proofs.Editing.{active_context-put}
use Rattle.cs_model.proofs.Objects.{object_at-put_other, object_at-put_same, rest-put}
use Rattle.cs_acts.specs.Layout.{depth_if}
use Rattle.cs_acts.specs.Names.{Store}
use Rattle.cs_acts.specs.Ready.{IsSound}
use Rattle.cs_core.proofs.Chaining.{sender_in}

-- ---- what stays

-- of the rest nothing changes but the next birth, which doesn't fall
pub record Stays (k t : Kept) : Type 0 where
  pub rest : with_next 0 t.rest ≡ with_next 0 k.rest
  pub next : k.rest.next ≤ t.rest.next
  pub sender : (i : ℕ) → sender_in (object_at t i) ≡ sender_in (object_at k i)
  pub depth : (i : ℕ) → (i ≡ active_birth k → ⊥) → depth_if (context_in (object_at t i)) ≡ depth_if (context_in (object_at k i))

-- a context is active
abbrev pub Runs : Kept → Type 0
Runs k = context_in (object_at k (active_birth k)) ≡ Some (active_context k)

-- no context has the next birth
abbrev pub IsFree : Kept → Type 0
IsFree k = context_in (object_at k k.rest.next) ≡ None

pub stays_itself : (k : Kept) → Stays k k
stays_itself k = record { rest = refl; next = omega arith; sender = λ i. refl; depth = λ i h. refl }

active_stays : (k t : Kept) → Stays k t → active_birth t ≡ active_birth k
active_stays k t s = ap (λ (r : Rest). unwrap_or r.active r.nil) s.rest

pub stays_on : (k t u : Kept) → Stays k t → Stays t u → Stays k u
stays_on k t u a b = record {
  rest = b.rest ∙ a.rest;
  next = omega (arith, a.next, b.next);
  sender = λ i. b.sender i ∙ a.sender i;
  depth = λ i h. b.depth i (λ e. h (e ∙ active_stays k t a)) ∙ a.depth i h;
}

-- what has a sender is a context
context_there : (k : Kept) (i : ℕ) (x : Ref) → sender_in (object_at k i) ≡ Some x → context_in (object_at k i) ≡ Some (unwrap_or (context_in (object_at k i)) blank_context)
context_there k i x h = go (context_in (object_at k i)) h
  where
    go : (o : Option Context) → option_map (λ (c : Context). c.sender) o ≡ Some x → o ≡ Some (unwrap_or o blank_context)
    go None e = absurd (cc)
    go (Some c) e = refl

pub runs_on : (k t : Kept) → Stays k t → Runs k → Runs t
unfolding active_context
runs_on k t s r =
    let is : sender_in (object_at t (active_birth t)) ≡ Some (active_context k).sender =
    ap (λ n. sender_in (object_at t n)) (active_stays k t s) ∙ s.sender (active_birth k) ∙ ap (option_map (λ (c : Context). c.sender)) r in
    context_there t (active_birth t) (active_context k).sender is

-- births are below the next one
pub free_next : (s : Store) (k : Kept) → IsSound s k → IsFree k
free_next s k h = go (object_at k k.rest.next) refl
  where
    go : (o : Option Obj) → object_at k k.rest.next ≡ o → context_in o ≡ None
    go None e = refl
    go (Some o) e = let below : k.rest.next < k.rest.next = h.births k.rest.next o e in absurd (omega (arith, below))

pub free_on : (k t : Kept) → Stays k t → t.rest.next ≡ k.rest.next → IsFree k → IsFree t
free_on k t s same free = none (context_in (object_at t t.rest.next)) (ap (λ n. sender_in (object_at t n)) same ∙ s.sender k.rest.next ∙ ap (option_map (λ (c : Context). c.sender)) free)
  where
    none : (c : Option Context) → option_map (λ (c : Context). c.sender) c ≡ None → c ≡ None
    none None e = refl
    none (Some c) e = absurd (cc)

-- ---- the writes

next_put : (k : Kept) (i : ℕ) (o : Obj) → k.rest.next ≤ (put k i o).rest.next
next_put k i o = omega (arith, ap (λ (r : Rest). r.next) (rest-put k i o))

pub edit_stays : (k : Kept) (f : Context → Context) → Runs k → (f (active_context k)).sender ≡ (active_context k).sender → Stays k (edit_active k f)
edit_stays k f runs same = record {
  rest = ap (with_next 0) (rest-put k (active_birth k) (Ctx (f (active_context k))));
  next = next_put k (active_birth k) (Ctx (f (active_context k)));
  sender = λ i. elim (eqb_tells i (active_birth k)) [
    | inl e ↦ ap (λ n. sender_in (object_at (edit_active k f) n)) e.1 ∙ ap sender_in (object_at-put_same k (active_birth k) (Ctx (f (active_context k)))) ∙ ap Some same
        ∙ sym (ap (λ n. sender_in (object_at k n)) e.1 ∙ ap (option_map (λ (c : Context). c.sender)) runs)
    | inr e ↦ ap sender_in (object_at-put_other k (active_birth k) i (Ctx (f (active_context k))) e.1)
  ];
  depth = λ i h. ap (λ o. depth_if (context_in o)) (object_at-put_other k (active_birth k) i (Ctx (f (active_context k))) h);
}

pub push_stays : (k : Kept) (x : Ref) → Runs k → Stays k (push_of k x)
unfolding push_of
push_stays k x runs = edit_stays k (pushed x) runs refl

pub drop_stays : (k : Kept) (n : ℕ) → Runs k → Stays k (drop_of k n)
unfolding drop_of
drop_stays k n runs = edit_stays k (popped n) runs refl

pub set_pc_stays : (k : Kept) (pc : ℕ) → Runs k → Stays k (set_pc_of k pc)
unfolding set_pc_of
set_pc_stays k pc runs = edit_stays k (with_pc (Some pc)) runs refl

set_stack_stays : (k : Kept) (i : ℕ) (x : Ref) → Runs k → Stays k (set_stack_of k i x)
unfolding set_stack_of
set_stack_stays k i x runs = edit_stays k (stored i x) runs refl

-- a slot of an object is no part of a context
slot_alone : (i : ℕ) (v : Ref) (o : Obj) → context_in (Some (with_slot i v o)) ≡ context_in (Some o)
slot_alone i v (Ptr head slots) = refl
slot_alone i v (Raw head bytes) = refl
slot_alone i v (Method head header literals bytecodes) = refl
slot_alone i v (Ctx c) = refl

found_stays : (k : Kept) (i j : ℕ) (v : Ref) (o : Option Obj) → object_at k j ≡ o → Stays k (edit_found (with_slot i v) j o k)
found_stays k i j v None e = stays_itself k
found_stays k i j v (Some o) e = record {
  rest = ap (with_next 0) (rest-put k j (with_slot i v o));
  next = next_put k j (with_slot i v o);
  sender = λ n. ap (option_map (λ (c : Context). c.sender)) (same n);
  depth = λ n h. ap depth_if (same n);
}
  where
    same : (n : ℕ) → context_in (object_at (edit_found (with_slot i v) j (Some o) k) n) ≡ context_in (object_at k n)
    same n = elim (eqb_tells n j) [
      | inl q ↦ ap (λ m. context_in (object_at (edit_found (with_slot i v) j (Some o) k) m)) q.1 ∙ ap context_in (object_at-put_same k j (with_slot i v o)) ∙ slot_alone i v o
          ∙ sym (ap (λ m. context_in (object_at k m)) q.1 ∙ ap context_in e)
      | inr q ↦ ap context_in (object_at-put_other k j n (with_slot i v o) q.1)
    ]

store_stays : (k : Kept) (x : Ref) (i : ℕ) (v : Ref) → Stays k (store_of k x i v)
unfolding store_of
store_stays k (Small a) i v = stays_itself k
store_stays k (Char c) i v = stays_itself k
store_stays k (ref.Obj j) i v = found_stays k i j v (object_at k j) refl

-- what is new and no context stands where no context stood
pub add_stays : (k : Kept) (o : Obj) → context_in (Some o) ≡ None → IsFree k → Stays k (add_of k o)
unfolding add_of
add_stays k o none free = record {
  rest = refl;
  next = omega arith;
  sender = λ i. ap (option_map (λ (c : Context). c.sender)) (same i);
  depth = λ i h. ap depth_if (same i);
}
  where
    same : (i : ℕ) → context_in (object_at (put k k.rest.next o) i) ≡ context_in (object_at k i)
    same i = elim (eqb_tells i k.rest.next) [
      | inl e ↦ ap (λ n. context_in (object_at (put k k.rest.next o) n)) e.1 ∙ ap context_in (object_at-put_same k k.rest.next o) ∙ none ∙ sym (ap (λ n. context_in (object_at k n)) e.1 ∙ free)
      | inr e ↦ ap context_in (object_at-put_other k k.rest.next i o e.1)
    ]

-- ---- what instructions lead to

pub record Settles (k : Kept) (o : Out) : Type 0 where
  pub stays : Runs k → Stays k o.state

still : {k : Kept} {e : End} → Settles k (ends.out e k)
still {k = k} = record { stays = λ runs. stays_itself k }

to : {k t : Kept} {e : End} → (Runs k → Stays k t) → Settles k (ends.out e t)
to s = record { stays = s }

behind : (k t : Kept) (o : Out) → (Runs k → Stays k t) → Settles t o → Settles k o
behind k t o s h = record { stays = λ runs. stays_on k t o.state (s runs) (h.stays (runs_on k t (s runs) runs)) }

given_settles : {A : Type 0} (k : Kept) (o : Option A) (none : Out) (some : A → Out) → Settles k none → ((x : A) → Settles k (some x)) → Settles k (given o none some)
given_settles k None none some n s = n
given_settles k (Some x) none some n s = s x

if_settles : (k : Kept) (b : Bool) (x y : Out) → Settles k x → Settles k y → Settles k (if b then x else y)
if_settles k true x y s t = s
if_settles k false x y s t = t

looked_settles : (k : Kept) (o : Out) → Settles k o → Settles k (looked o)
unfolding looked
looked_settles k o h = record { stays = h.stays }

made_settles : (k : Kept) (words : ℕ) (o : Out) → Settles k o → Settles k (made words o)
unfolding made
made_settles k words o h = record { stays = h.stays }

then_settles : (k : Kept) (o : Out) (next : Kept → Out) → Settles k o → ((t : Kept) → Settles t (next t)) → Settles k (and_then o next)
unfolding and_then
then_settles k o next h n = if_settles k (is_done o.end) _ _ (record { stays = (behind k o.state (next o.state) h.stays (n o.state)).stays }) h

push_settles : (k : Kept) (x : Ref) → Settles k (push_out k x)
unfolding push_out
push_settles k x = if_settles k (nat_lt (depth_of k) (size_of k)) _ _ (to (push_stays k x)) still

field_settles : (k : Kept) (i : ℕ) (o : Option Obj) → Settles k (push_field k i o)
field_settles k i None = still
field_settles k i (Some (Ptr head slots)) = given_settles k (slice_get slots i) _ _ still (λ x. push_settles k x)
field_settles k i (Some (Raw head bytes)) = still
field_settles k i (Some (Method head header literals bytecodes)) = still
field_settles k i (Some (Ctx c)) = given_settles k (context_get k c i) _ _ still (λ x. if_settles k (i == 0) _ _ (looked_settles k (push_out k x) (push_settles k x)) (push_settles k x))

special_send_settles : (k : Kept) (special args : ℕ) → Settles k (special_send_out k special args)
unfolding special_send_out
special_send_settles k special args = given_settles k (special_at k special) _ _ still (λ x. still)

push_all_settles : (xs : List Ref) (k : Kept) → Settles k (push_all xs k)
unfolding push_all
push_all_settles [] k = still
push_all_settles (x ∷ xs) k = then_settles k (push_out k x) (λ t. push_all xs t) (push_settles k x) (λ t. push_all_settles xs t)

refuse_settles : (k : Kept) (target : Ref) (i : ℕ) (v : Ref) → Settles k (refuse_store k target i v)
unfolding refuse_store
refuse_settles k target i v = then_settles k _ _ (push_all_settles (target ∷ v ∷ Small (pos (i + 1)) ∷ []) k) (λ t. special_send_settles t attempt_to_assign 2)

slot_settles : (t bare : Kept) → (Runs t → Stays t bare) → (target : Ref) (i : ℕ) (v : Ref) → Settles t (store_slot t bare target i v)
unfolding store_slot
slot_settles t bare s target i v = if_settles t (is_read_only t target) _ _ (behind t bare _ s (refuse_settles bare target i v)) (to (λ _. store_stays t target i v))

store_field_settles : (t bare : Kept) → (Runs t → Stays t bare) → (i : ℕ) (v : Ref) (o : Option Obj) → is_some (context_in o) ≡ false → Settles t (store_field t bare i v o)
store_field_settles t bare s i v None h = still
store_field_settles t bare s i v (Some (Ptr head slots)) h = if_settles t (nat_lt i (length slots)) _ _ (slot_settles t bare s (receiver_of t) i v) still
store_field_settles t bare s i v (Some (Raw head bytes)) h = still
store_field_settles t bare s i v (Some (Method head header literals bytecodes)) h = still
store_field_settles t bare s i v (Some (Ctx c)) h = absurd (cc)

receiver_settles : (k : Kept) (i : ℕ) → Settles k (push_receiver_out k i)
unfolding push_receiver_out
receiver_settles k i = field_settles k i (object_of k (receiver_of k))

store_receiver_settles : (t bare : Kept) → (Runs t → Stays t bare) → (i : ℕ) (v : Ref) → is_context_ref t (receiver_of t) ≡ false → Settles t (store_receiver_out t bare i v)
unfolding store_receiver_out
store_receiver_settles t bare s i v h = store_field_settles t bare s i v (object_of t (receiver_of t)) h

temp_settles : (k : Kept) (i : ℕ) → Settles k (push_temp_out k i)
unfolding push_temp_out
temp_settles k i = given_settles k (slice_get (stack_of k) i) _ _ still (λ x. push_settles k x)

store_temp_settles : (t : Kept) (i : ℕ) (v : Ref) → Settles t (store_temp_out t i v)
unfolding store_temp_out
store_temp_settles t i v = if_settles t (nat_lt i (depth_of t)) _ _ (to (set_stack_stays t i v)) still

literal_settles : (k : Kept) (i : ℕ) → Settles k (push_literal_out k i)
unfolding push_literal_out
literal_settles k i = given_settles k (literal_at k i) _ _ still (λ x. push_settles k x)

variable_settles : (k : Kept) (i : ℕ) → Settles k (push_variable_out k i)
unfolding push_variable_out
variable_settles k i = given_settles k (variable_value k i) _ _ still (λ x. push_settles k x)

store_variable_settles : (t bare : Kept) → (Runs t → Stays t bare) → (i : ℕ) (v : Ref) → Settles t (store_variable_out t bare i v)
unfolding store_variable_out
store_variable_settles t bare s i v = given_settles t (variable_value t i) _ _ still (λ x. slot_settles t bare s (unwrap_or (literal_at t i) (nil_of t)) 1 v)

vector_settles : (k : Kept) (i j : ℕ) → Settles k (push_vector_out k i j)
unfolding push_vector_out
vector_settles k i j = given_settles k (vector_slot k i j) _ _ still (λ x. push_settles k x)

store_vector_settles : (t bare : Kept) → (Runs t → Stays t bare) → (i j : ℕ) (v : Ref) → Settles t (store_vector_out t bare i j v)
unfolding store_vector_out
store_vector_settles t bare s i j v = given_settles t (vector_slot t i j) _ _ still (λ x. slot_settles t bare s (vector_at t j) i v)

pop_into_settles : (k : Kept) (f : Kept → Kept → Ref → Out) → ((x : Ref) → Settles (pop_of k) (f (pop_of k) (pop_of k) x)) → Settles k (pop_into k f)
unfolding pop_into
pop_into_settles k f h = given_settles k (top_of k) _ _ still (λ x. behind k (pop_of k) (f (pop_of k) (pop_of k) x) (drop_stays k 1) (h x))

store_into_settles : (k : Kept) (f : Kept → Kept → Ref → Out) → ((x : Ref) → Settles k (f k (pop_of k) x)) → Settles k (store_into k f)
unfolding store_into
store_into_settles k f h = given_settles k (top_of k) _ _ still (λ x. h x)

pop_settles : (k : Kept) → Settles k (pop_out k)
unfolding pop_out
pop_settles k = given_settles k (top_of k) _ _ still (λ x. to (drop_stays k 1))

dup_settles : (k : Kept) → Settles k (dup_out k)
unfolding dup_out
dup_settles k = given_settles k (top_of k) _ _ still (λ x. push_settles k x)

this_settles : (k : Kept) → Settles k (this_context_out k)
unfolding this_context_out
this_settles k = if_settles k (nat_lt (depth_of k) (size_of k)) _ _ (looked_settles k (done (push_of k (ref.Obj (active_birth k)))) (to (push_stays k (ref.Obj (active_birth k))))) still

jump_settles : (k : Kept) (offset : ℤ) → Settles k (jump_out k offset)
unfolding jump_out
jump_settles k offset = given_settles k (pc_after k offset) _ _ still (λ x. to (set_pc_stays k x))

jump_if_settles : (k : Kept) (wanted : Bool) (offset : ℕ) → Settles k (jump_if_out k wanted offset)
unfolding jump_if_out
jump_if_settles k wanted offset =
    given_settles k (top_of k) _ _ still (λ x. if_settles k (same_ref x (boolean k wanted)) _ _ (behind k (pop_of k) _ (drop_stays k 1) (jump_settles (pop_of k) (pos offset)))
    (if_settles k (same_ref x (ref.Obj k.rest.true_)) _ _ (to (drop_stays k 1)) (if_settles k (same_ref x (ref.Obj k.rest.false_)) _ _ (to (drop_stays k 1)) (special_send_settles k 25 0))))

send_literal_settles : (k : Kept) (lit args : ℕ) → Settles k (send_literal_out k lit args)
unfolding send_literal_out
send_literal_settles k lit args = given_settles k (literal_at k lit) _ _ still (λ x. still)

send_super_settles : (k : Kept) (lit args : ℕ) → Settles k (send_super_out k lit args)
unfolding send_super_out
send_super_settles k lit args = given_settles k (literal_at k lit) _ _ still (λ x. given_settles k (variable_value k (length (literals_of k) - 1)) _ _ still (λ y. still))

selector_settles : (k : Kept) (i : ℕ) → Settles k (send_selector_out k i)
unfolding send_selector_out
selector_settles k i =
    given_settles k (selector_pair k i) _ _ still (λ slots. given_settles k (slice_get slots (2 * i)) _ _ still (λ x. given_settles k (option_and_then (λ x. argument_count_in x) (slice_get slots (2 * i + 1))) _ _ still (λ z. still)))

-- values leave, and one takes their place
pub answer_stays : (k : Kept) (n : ℕ) (x : Ref) → Runs k → Stays k (push_of (drop_of k n) x)
answer_stays k n x runs = stays_on k (drop_of k n) (push_of (drop_of k n) x) (drop_stays k n runs) (push_stays (drop_of k n) x (runs_on k (drop_of k n) (drop_stays k n runs) runs))

special_settles : (k : Kept) (i : ℕ) → Settles k (special_out k i)
unfolding special_out
special_settles k i = given_settles k (at_once k i) _ _ (selector_settles k i) (λ x. to (answer_stays k 2 x))

same_settles : (k : Kept) → Settles k (same_out k)
unfolding same_out
same_settles k = given_settles k (from_top 1 (stack_of k)) _ _ still (λ x. given_settles k (top_of k) _ _ still (λ y. to (answer_stays k 2 _)))

class_settles : (k : Kept) → Settles k (class_out k)
unfolding class_out
class_settles k = given_settles k (top_of k) _ _ still (λ x. to (answer_stays k 1 _))

common_settles : (k : Kept) (i : ℕ) → Settles k (common_out k i)
unfolding common_out
common_settles k i = if_settles k (i == 6) _ _ (same_settles k) (if_settles k (i == 7) _ _ (class_settles k) (selector_settles k (16 + i)))

closure_settles : (k : Kept) (copied args size : ℕ) → IsFree k → Settles k (closure_out k copied args size)
unfolding closure_out
closure_settles k copied args size free =
    given_settles k (pc_after k (pos size)) _ _ still (λ pc. if_settles k (nat_le copied (depth_of k)) _ _
    (looked_settles k _ (made_settles k _ _ (then_settles k _ _ (behind k (drop_of added copied) _ copied_out (push_settles (drop_of added copied) (next_ref k))) (λ t. to (set_pc_stays t pc))))) still)
  where
    added : Kept
    added = add_of k (new_closure k copied args)

    is_added : Stays k added
    is_added = add_stays k (new_closure k copied args) refl free

    copied_out : Runs k → Stays k (drop_of added copied)
    copied_out runs = stays_on k added (drop_of added copied) is_added (drop_stays added copied (runs_on k added is_added runs))

-- ---- all of them

no_context : (k : Kept) → not (is_context_ref k (receiver_of k)) ≡ true → is_context_ref k (receiver_of k) ≡ false
no_context k h = go (is_context_ref k (receiver_of k)) h
  where
    go : (b : Bool) → not b ≡ true → b ≡ false
    go true e = absurd (cc)
    go false e = refl

-- the receiver is the same behind a pop, and so is whether it is a context
some_sender : (o : Option Obj) → is_some (context_in o) ≡ is_some (sender_in o)
some_sender o = go (context_in o)
  where
    go : (c : Option Context) → is_some c ≡ is_some (option_map (λ (c : Context). c.sender) c)
    go None = refl
    go (Some c) = refl

context_same : (k t : Kept) → Stays k t → (x : Ref) → is_context_ref t x ≡ is_context_ref k x
context_same k t s (Small a) = refl
context_same k t s (Char c) = refl
context_same k t s (ref.Obj i) = some_sender (object_at t i) ∙ ap is_some (s.sender i) ∙ sym (some_sender (object_at k i))

receiver_popped : (k : Kept) → receiver_of (pop_of k) ≡ receiver_of k
unfolding drop_of
receiver_popped k = ap (λ (c : Context). c.receiver) (active_context-put k (popped 1 (active_context k)))

popped_no_context : (k : Kept) → Runs k → not (is_context_ref k (receiver_of k)) ≡ true → is_context_ref (pop_of k) (receiver_of (pop_of k)) ≡ false
popped_no_context k runs h = context_same k (pop_of k) (drop_stays k 1 runs) (receiver_of (pop_of k)) ∙ ap (is_context_ref k) (receiver_popped k) ∙ no_context k h

-- for a state in which a context is active
running : (k : Kept) (o : Out) → (Runs k → Settles k o) → Settles k o
running k o h = record { stays = λ runs. (h runs).stays runs }

pub exec_settles : (o : Op) (k : Kept) → is_built_op o k ≡ true → IsFree k → Settles k (exec o k)
unfolding exec
exec_settles (op.PushRcvr i) k h free = receiver_settles k i
exec_settles (op.PushTemp i) k h free = temp_settles k i
exec_settles (op.PushLit i) k h free = literal_settles k i
exec_settles (op.PushLitVar i) k h free = variable_settles k i
exec_settles (op.PopRcvr i) k h free = running k _ (λ runs. pop_into_settles k _ (λ x. store_receiver_settles (pop_of k) (pop_of k) (λ _. stays_itself (pop_of k)) i x (popped_no_context k runs h)))
exec_settles (op.PopTemp i) k h free = pop_into_settles k _ (λ x. store_temp_settles (pop_of k) i x)
exec_settles (op.PopLitVar i) k h free = pop_into_settles k _ (λ x. store_variable_settles (pop_of k) (pop_of k) (λ _. stays_itself (pop_of k)) i x)
exec_settles (op.StoreRcvr i) k h free = store_into_settles k _ (λ x. store_receiver_settles k (pop_of k) (drop_stays k 1) i x (no_context k h))
exec_settles (op.StoreTemp i) k h free = store_into_settles k _ (λ x. store_temp_settles k i x)
exec_settles (op.StoreLitVar i) k h free = store_into_settles k _ (λ x. store_variable_settles k (pop_of k) (drop_stays k 1) i x)
exec_settles op.PushSelf k h free = push_settles k _
exec_settles op.PushTrue k h free = push_settles k _
exec_settles op.PushFalse k h free = push_settles k _
exec_settles op.PushNil k h free = push_settles k _
exec_settles (op.PushInt z) k h free = push_settles k _
exec_settles op.ReturnSelf k h free = still
exec_settles op.ReturnTrue k h free = still
exec_settles op.ReturnFalse k h free = still
exec_settles op.ReturnNil k h free = still
exec_settles op.ReturnTop k h free = given_settles k (top_of k) _ _ still (λ x. to (drop_stays k 1))
exec_settles op.BlockReturn k h free = given_settles k (top_of k) _ _ still (λ x. to (drop_stays k 1))
exec_settles (op.Send lit args) k h free = send_literal_settles k lit args
exec_settles (op.SendSuper lit args) k h free = send_super_settles k lit args
exec_settles op.Pop k h free = pop_settles k
exec_settles op.Dup k h free = dup_settles k
exec_settles op.ThisContext k h free = this_settles k
exec_settles (op.NewArray n) k h free = absurd (cc)
exec_settles (op.PopArray n) k h free = absurd (cc)
exec_settles (op.Prim i j) k h free = still
exec_settles (op.PushVec i j) k h free = vector_settles k i j
exec_settles (op.StoreVec i j) k h free = store_into_settles k _ (λ x. store_vector_settles k (pop_of k) (drop_stays k 1) i j x)
exec_settles (op.PopVec i j) k h free = pop_into_settles k _ (λ x. store_vector_settles (pop_of k) (pop_of k) (λ _. stays_itself (pop_of k)) i j x)
exec_settles (op.Closure copied args size) k h free = closure_settles k copied args size free
exec_settles (op.Jump offset) k h free = jump_settles k offset
exec_settles (op.JumpTrue offset) k h free = jump_if_settles k true offset
exec_settles (op.JumpFalse offset) k h free = jump_if_settles k false offset
exec_settles (op.Special i) k h free = special_settles k i
exec_settles (op.Common i) k h free = common_settles k i
