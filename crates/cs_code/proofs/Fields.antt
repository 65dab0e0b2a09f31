-- What the stores and pushes of variables give, where the variable is there and where it isn't.
use Rattle.std.proofs.Common.{◌≡◌, ◌∙◌, ℕ, pos, zero, suc, Bool, true, false, refl, sym, ap, ap₂, arith, inl, inr, Option, Some, None, is_some, option_and_then, List, [], ◌∷◌, length, nat_lt}
use Rattle.std.specs.Prelude.{slice_get, unwrap_or, if◌then◌else◌}
use Rattle.std.proofs.lemmas.Bool.Decides.{nat_tests}
use Rattle.std.proofs.lemmas.Option.{slice_get_within}
use Rattle.cs_model.specs.declared.stop.Stop.{Stop}
use Rattle.cs_model.specs.declared.stop.Stop.TheVariants as why
use Rattle.cs_model.specs.declared.instruction.Op.TheVariants as op
use Rattle.std.proofs.lemmas.Bool.Decides.{eqb_tells}
use Rattle.cs_model.specs.Ref.{Ref, Small, Char}
use Rattle.cs_model.specs.Ref as ref
use Rattle.cs_model.specs.Obj.{Obj, Context, Ptr, Raw, Method, Ctx, context_in, popped, slots_in}
use Rattle.cs_model.specs.State.{Kept, is_read_only, object_at, object_of, put, slots_of}
use Rattle.cs_model.specs.Context.{is_context_ref}
use Rattle.cs_model.specs.Read.{IsRunning, active_birth, active_context, receiver_of, stack_of}
use Rattle.cs_model.specs.Operation.{drop_of, nil_of, pop_of, store_of}
use Rattle.cs_model.specs.End.{done, given, stop}
use Rattle.cs_model.specs.Exec.{exec, literal_at, pop_into, push_field, push_out, push_receiver_out, refuse_store, store_field, store_into, store_slot, store_receiver_out, store_variable_out, store_vector_out, variable_at, variable_value}
use Rattle.cs_model.specs.Keeps.{Keeps}
use Rattle.cs_model.proofs.Objects.{object_at-put_same, object_at-put_other}
use Rattle.cs_model.proofs.Reading.{object_of_same, receiver_same}
use Rattle.cs_model.proofs.Same.{Any, Same, of_option, same}
use Rattle.cs_acts.proofs.Running.{active_context-put_active}
use Rattle.cs_acts.specs.Ready.{is_storable}
use Rattle.cs_acts.specs.Storing.{slot_at, target_of}
use Rattle.cs_acts.specs.declared.store.StoreTarget.TheVariants.{Missing, ReadOnly, Writable}
use Rattle.cs_acts.proofs.Storing.{slot_missing, slot_of_least, slot_read_only, slot_writable}
use Rattle.cs_code.specs.Bare.{store_or_stop}
use Rattle.cs_code.specs.Built.{built_exec}

within : (slots : List Ref) (i : ℕ) (y : Ref) → Some y ≡ slice_get slots i → nat_lt i (length slots) ≡ true
within slots i y h = let less = slice_get_within slots i y (sym h) in grind (arith, nat_tests)

beyond : (slots : List Ref) (i : ℕ) → None ≡ slice_get slots i → nat_lt i (length slots) ≡ false
beyond [] i h = grind (arith, nat_tests)
beyond (x ∷ xs) zero h = absurd (cc)
beyond (x ∷ xs) (suc i) h = let rest = beyond xs i h in grind (arith, nat_tests)

-- a slot that is there can be stored into
storable : (o : Option Obj) (i : ℕ) (y : Ref) → Some y ≡ option_and_then (λ slots. slice_get slots i) (slots_in o) → is_storable o i ≡ true
storable None i y h = absurd (cc)
storable (Some (Ptr head slots)) i y h = within slots i y h
storable (Some (Raw head bytes)) i y h = absurd (cc)
storable (Some (Method head header literals bytecodes)) i y h = absurd (cc)
storable (Some (Ctx c)) i y h = absurd (cc)

-- ---- what a store into a slot meets

pub slot-missing : (k bare : Kept) (x v : Ref) (i : ℕ) (missing : Stop) → target_of k x i ≡ Missing → store_or_stop missing k bare x i v ≡ stop missing k
slot-missing k bare x v i missing h = ap (λ o. given o (stop missing k) (λ (old : Ref). store_slot k bare x i v)) (slot_missing (slot_at k x i) (is_read_only k x) h)

slot-met : (k bare : Kept) (x v y : Ref) (i : ℕ) (missing : Stop) (fixed : Bool) → slot_at k x i ≡ Some y → is_read_only k x ≡ fixed
    → store_or_stop missing k bare x i v ≡ (if fixed then refuse_store bare x i v else done (store_of k x i v))
unfolding store_slot
slot-met k bare x v y i missing fixed there is =
    ap (λ o. given o (stop missing k) (λ (old : Ref). store_slot k bare x i v)) there
    ∙ ap (λ b. if b then refuse_store bare x i v else done (store_of k x i v)) is

pub slot-refused : (k bare : Kept) (x v : Ref) (i : ℕ) (missing : Stop) → target_of k x i ≡ ReadOnly → store_or_stop missing k bare x i v ≡ refuse_store bare x i v
slot-refused k bare x v i missing h =
    let met = slot_read_only (slot_at k x i) (is_read_only k x) h in
    slot-met k bare x v met.0 i missing true met.1.0 met.1.1

pub slot-written : (k bare : Kept) (x v : Ref) (i : ℕ) (missing : Stop) → target_of k x i ≡ Writable → store_or_stop missing k bare x i v ≡ done (store_of k x i v)
slot-written k bare x v i missing h =
    let met = slot_writable (slot_at k x i) (is_read_only k x) h in
    slot-met k bare x v met.0 i missing false met.1.0 met.1.1

pub storable_target : (k : Kept) (x : Ref) (i : ℕ) → target_of k x i ≡ Writable → is_storable (object_of k x) i ≡ true
storable_target k x i h =
    let met = slot_writable (slot_at k x i) (is_read_only k x) h in
    storable (object_of k x) i met.0 (sym met.1.0)

-- ---- literal variables and vectors

pub variable-stored : (k bare : Kept) (i : ℕ) (v x : Ref) → Some x ≡ literal_at k i → store_variable_out k bare i v ≡ store_or_stop why.BadLiteral k bare x 1 v
unfolding store_variable_out variable_at
variable-stored k bare i v x literal =
    let value : variable_value k i ≡ slot_at k x 1 = ap (λ o. option_and_then (λ (slots : List Ref). slice_get slots 1) (option_and_then (λ l. slots_of k 2 l) o)) (sym literal) ∙ slot_of_least k x 2 1 refl in
    ap (λ o. given o (stop why.BadLiteral k) (λ (old : Ref). store_slot k bare (unwrap_or (literal_at k i) (nil_of k)) 1 v)) value
    ∙ ap (λ o. given (slot_at k x 1) (stop why.BadLiteral k) (λ (old : Ref). store_slot k bare (unwrap_or o (nil_of k)) 1 v)) (sym literal)

pub vector-stored : (k bare : Kept) (i j : ℕ) (v x : Ref) → Some x ≡ slice_get (stack_of k) j → store_vector_out k bare i j v ≡ store_or_stop why.BadField k bare x i v
unfolding store_vector_out
vector-stored k bare i j v x vector = ap (λ o. store_or_stop why.BadField k bare (unwrap_or o (Small (pos 0))) i v) (sym vector)

-- ---- fields of a receiver that is no context

pub field-pushed : (k : Kept) (i : ℕ) (o : Option Obj) → is_some (context_in o) ≡ false → push_field k i o ≡ given (option_and_then (λ slots. slice_get slots i) (slots_in o)) (stop why.BadField k) (λ x. push_out k x)
field-pushed k i None h = refl
field-pushed k i (Some (Ptr head slots)) h = refl
field-pushed k i (Some (Raw head bytes)) h = refl
field-pushed k i (Some (Method head header literals bytecodes)) h = refl
field-pushed k i (Some (Ctx c)) h = absurd (cc)

stored_if : (k bare : Kept) (i : ℕ) (v : Ref) (slots : List Ref) (o : Option Ref) → o ≡ slice_get slots i
    → (if nat_lt i (length slots) then store_slot k bare (receiver_of k) i v else stop why.BadField k) ≡ given o (stop why.BadField k) (λ old. store_slot k bare (receiver_of k) i v)
stored_if k bare i v slots None h = ap (λ b. if b then store_slot k bare (receiver_of k) i v else stop why.BadField k) (beyond slots i h)
stored_if k bare i v slots (Some y) h = ap (λ b. if b then store_slot k bare (receiver_of k) i v else stop why.BadField k) (within slots i y h)

pub field-stored : (k bare : Kept) (i : ℕ) (v : Ref) (o : Option Obj) → is_some (context_in o) ≡ false
    → store_field k bare i v o ≡ given (option_and_then (λ slots. slice_get slots i) (slots_in o)) (stop why.BadField k) (λ old. store_slot k bare (receiver_of k) i v)
field-stored k bare i v None h = refl
field-stored k bare i v (Some (Ptr head slots)) h = stored_if k bare i v slots (slice_get slots i) refl
field-stored k bare i v (Some (Raw head bytes)) h = refl
field-stored k bare i v (Some (Method head header literals bytecodes)) h = refl
field-stored k bare i v (Some (Ctx c)) h = absurd (cc)

pub receiver-pushed : (k : Kept) (i : ℕ) → is_context_ref k (receiver_of k) ≡ false
    → push_receiver_out k i ≡ given (option_and_then (λ slots. slice_get slots i) (slots_in (object_of k (receiver_of k)))) (stop why.BadField k) (λ x. push_out k x)
unfolding push_receiver_out
receiver-pushed k i other = field-pushed k i (object_of k (receiver_of k)) other

pub receiver-stored : (k bare : Kept) (i : ℕ) (v r : Ref) → is_context_ref k (receiver_of k) ≡ false → r ≡ receiver_of k → store_receiver_out k bare i v ≡ store_or_stop why.BadField k bare r i v
unfolding store_receiver_out
receiver-stored k bare i v r other is =
    field-stored k bare i v (object_of k (receiver_of k)) other
    ∙ ap (λ (x : Ref). store_or_stop why.BadField k bare x i v) (sym is)

pub receiver-kept : (k : Kept) (i : ℕ) → is_context_ref k (receiver_of k) ≡ false → built_exec (op.StoreRcvr i) k ≡ store_into k (λ t bare x. store_receiver_out t bare i x)
unfolding built_exec exec
receiver-kept k i other = rw other refl

pub receiver-popped : (k : Kept) (i : ℕ) → is_context_ref k (receiver_of k) ≡ false → built_exec (op.PopRcvr i) k ≡ pop_into k (λ t bare x. store_receiver_out t bare i x)
unfolding built_exec exec
receiver-popped k i other = rw other refl

-- the same as the code reads it: by the word of the receiver, and by widened indices
pub receiver-pushed-there : (k : Kept) (i j : ℕ) (r y : Ref) → is_context_ref k (receiver_of k) ≡ false → r ≡ receiver_of k → j ≡ i → Some y ≡ option_and_then (λ slots. slice_get slots j) (slots_in (object_of k r))
    → push_receiver_out k i ≡ push_out k y
receiver-pushed-there k i j r y other is same_index there =
    receiver-pushed k i other
    ∙ ap (λ o. given o (stop why.BadField k) (λ x. push_out k x)) (sym (there ∙ ap₂ (λ (x : Ref) (n : ℕ). option_and_then (λ (slots : List Ref). slice_get slots n) (slots_in (object_of k x))) is same_index))

-- ---- a pop leaves contexts contexts, and the receiver as it is

put-context : (k : Kept) (i : ℕ) (c d : Context) (r : Ref) → object_at k i ≡ Some (Ctx c) → is_context_ref (put k i (Ctx d)) r ≡ is_context_ref k r
put-context k i c d (Small z) there = refl
put-context k i c d (Char code) there = refl
put-context k i c d (ref.Obj j) there = elim (eqb_tells j i) [
  | inl e ↦ ap (λ n. is_some (context_in (object_at (put k i (Ctx d)) n))) e.1 ∙ ap (λ o. is_some (context_in o)) (object_at-put_same k i (Ctx d))
      ∙ sym (ap (λ n. is_some (context_in (object_at k n))) e.1 ∙ ap (λ o. is_some (context_in o)) there)
  | inr e ↦ ap (λ o. is_some (context_in o)) (object_at-put_other k i j (Ctx d) e.1)
]

pub context-behind-pop : (v0 v1 : Kept) → IsRunning v0 → Keeps v1 (pop_of v0) → is_context_ref v1 (receiver_of v1) ≡ is_context_ref v0 (receiver_of v0)
unfolding drop_of
context-behind-pop v0 v1 running keeps =
    equal (of_option (λ o. is_some (context_in o)) (object_of_same keeps (receiver_same keeps)))
    ∙ put-context v0 (active_birth v0) (active_context v0) (popped 1 (active_context v0)) (receiver_of (pop_of v0)) running.found
    ∙ ap (λ (c : Context). is_context_ref v0 c.receiver) (active_context-put_active v0 (popped 1 (active_context v0)))
  where
    equal : {x y : Bool} → Same Any x y → x ≡ y
    equal (same x p) = refl
