-- What the primitives on contexts and on numbers come to in the model: an answer in the place of receiver and arguments, or a failure.
use Rattle.std.proofs.Common.{◌≡◌, ◌∙◌, ℕ, ◌+◌, Bool, true, false, refl, sym, ap, arith, Option, Some, None, nat_le, slice_get}
use Rattle.std.specs.Prelude.{◌==◌, if◌then◌else◌, length, option_and_then, option_map}
use Rattle.std.proofs.lemmas.Bool.Decides.{nat_tests}
use Rattle.cs_model.specs.Ref.{Ref}
use Rattle.cs_model.specs.Obj.{Obj, Ptr, Raw, Method, Ctx, context_in}
use Rattle.cs_model.specs.State.{Kept, State, object_of}
use Rattle.cs_model.specs.Operation.{drop_of, push_of}
use Rattle.cs_model.specs.Context.{context_get}
use Rattle.cs_model.specs.End as ends
use Rattle.cs_model.specs.End.{Out, given, looked}
use Rattle.cs_model.specs.PrimAnswer.{answer, argument, fail, receiver}
use Rattle.cs_model.specs.PrimContext.{stack_at_prim, stackp_prim}
use Rattle.cs_model.specs.PrimObject.{answer_field, read_slot, slot_at_prim, slot_index, small_count}
use Rattle.cs_model.specs.PrimRun.{result}
use Rattle.cs_model.specs.PrimNumber.{number_prim}
use Rattle.cs_model.specs.PrimTable.{is_listed, is_run_number, kept_prim, prim}
use Rattle.cs_model.specs.Exec.{small_operands}
use Rattle.cs_model.specs.Number.{number_result}
use Rattle.cs_model.proofs.Listing.{other, unlisted_fails, unlisted_kept}
use Rattle.cs_prim_num.specs.Numbers.{computes, is_on_numbers}
use Rattle.cs_prim_num.proofs.Rows.{failing_row}
use Rattle.cs_model.specs.Step.{primitive_in}

pub data Replies (k : Kept) (o : Out) : Type 0 where
  answers : (n : ℕ) (x : Ref) → o.end ≡ ends.Answer → o.state ≡ push_of (drop_of k n) x → Replies k o
  fails : o.end ≡ ends.Fail → o.state ≡ k → Replies k o

pub reply_last : {k : Kept} {o : Out} → Replies k o → primitive_in o.end ≡ None
reply_last (answers n x e s) = ap primitive_in e
reply_last (fails e s) = ap primitive_in e

failing : (k : Kept) → Replies k (fail k)
failing k = fails refl refl

answering : (k : Kept) (args : ℕ) (x : Ref) → Replies k (answer k args x)
unfolding answer
answering k args x = answers (args + 1) x refl refl

looking : (k : Kept) (o : Out) → Replies k o → Replies k (looked o)
unfolding looked
looking k o (answers n x e s) = answers n x e s
looking k o (fails e s) = fails e s

given_replies : {A : Type 0} (k : Kept) (o : Option A) (some : A → Out) → ((x : A) → Replies k (some x)) → Replies k (given o (fail k) some)
given_replies k None some h = failing k
given_replies k (Some x) some h = h x

if_replies : (k : Kept) (b : Bool) (x y : Out) → Replies k x → Replies k y → Replies k (if b then x else y)
if_replies k true x y s t = s
if_replies k false x y s t = t

field_replies : (k : Kept) (args i : ℕ) (value : Option Ref) → Replies k (answer_field k args i value)
field_replies k args i value = given_replies k value _ (λ x. if_replies k (i == 0) _ _ (looking k (answer k args x) (answering k args x)) (answering k args x))

slot_replies : (k : Kept) (args i : ℕ) (o : Option Obj) → Replies k (read_slot k args i o)
slot_replies k args i None = failing k
slot_replies k args i (Some (Ptr head slots)) = given_replies k (slice_get slots i) _ (λ x. answering k args x)
slot_replies k args i (Some (Raw head bytes)) = failing k
slot_replies k args i (Some (Method head header literals bytecodes)) = failing k
slot_replies k args i (Some (Ctx c)) = field_replies k args i (context_get k c i)

slot_at_replies : (k : Kept) (args : ℕ) → Replies k (slot_at_prim k args)
unfolding slot_at_prim
slot_at_replies k args = if_replies k (1 == args) _ _ (given_replies k (slot_index (argument k 1 0)) _ (λ i. slot_replies k 1 i (object_of k (receiver k 1)))) (failing k)

stack_at_replies : (k : Kept) (args : ℕ) → Replies k (stack_at_prim k args)
unfolding stack_at_prim
stack_at_replies k args =
    if_replies k (1 == args) _ _
    (given_replies k (option_and_then (λ c. option_and_then (λ i. slice_get c.stack i) (slot_index (argument k 1 0))) (context_in (object_of k (receiver k 1)))) _ (λ x. answering k 1 x)) (failing k)

stackp_replies : (k : Kept) (args : ℕ) → Replies k (stackp_prim k args)
unfolding stackp_prim
stackp_replies k args = if_replies k (0 == args) _ _ (given_replies k (option_map (λ c. small_count (length c.stack)) (context_in (object_of k (receiver k 0)))) _ (λ x. answering k 0 x)) (failing k)

number_replies : (k : Kept) (number args : ℕ) → Replies k (number_prim k number args)
unfolding number_prim
number_replies k number args =
    if_replies k (1 == args) _ _ (given_replies k (option_and_then (λ p. number_result k number p.0 p.1) (small_operands k)) _ (λ x. answering k 1 x)) (failing k)

-- ---- by their numbers

-- it changes nothing of the run, and replies
pub record RepliesBy (s : State) (args number : ℕ) : Type 0 where
  pub is : prim number args s ≡ result (kept_prim number args s.kept) s.run
  pub reply : Replies s.kept (kept_prim number args s.kept)

pub reads_73 : (s : State) (args : ℕ) → RepliesBy s args 73
unfolding prim kept_prim
reads_73 s args = record { is = refl; reply = slot_at_replies s.kept args }

pub reads_210 : (s : State) (args : ℕ) → RepliesBy s args 210
unfolding prim kept_prim
reads_210 s args = record { is = refl; reply = stack_at_replies s.kept args }

pub reads_212 : (s : State) (args : ℕ) → RepliesBy s args 212
unfolding prim kept_prim
reads_212 s args = record { is = refl; reply = stackp_replies s.kept args }

-- all but those on the run see the kept parts alone
kept_alone : (s : State) (number args : ℕ) → is_run_number number ≡ false → prim number args s ≡ result (kept_prim number args s.kept) s.run
unfolding prim
kept_alone s number args h = rw (not_ 97 refl, not_ 113 refl, not_ 135 refl, not_ 136 refl, not_ 900 refl, not_ 901 refl) refl
  where
    not_ : (n : ℕ) → is_run_number n ≡ true → (number == n) ≡ false
    not_ n e = other is_run_number number n h e

no_run_number : (number : ℕ) → is_on_numbers number ≡ true → is_run_number number ≡ false
no_run_number number h = rw (above 97 refl, above 113 refl, above 135 refl, above 136 refl, above 900 refl, above 901 refl) refl
  where
    high : nat_le 60 number ≡ false
    high = grind (arith, nat_tests, h)

    above : (n : ℕ) → nat_le 60 n ≡ true → (number == n) ≡ false
    above n e = other (λ m. nat_le 60 m) number n high e

computes_replies : (k : Kept) (number args : ℕ) → computes number ≡ true → Replies k (kept_prim number args k)
unfolding kept_prim
computes_replies k number args h = rw h (number_replies k number args)

numbers_reply : (k : Kept) (number args : ℕ) → is_on_numbers number ≡ true → Replies k (kept_prim number args k)
numbers_reply k number args h = go (computes number) refl
  where
    go : (b : Bool) → computes number ≡ b → Replies k (kept_prim number args k)
    go true e = computes_replies k number args e
    go false e = let failed = failing_row k number args e h in fails (ap (λ (o : Out). o.end) failed) (ap (λ (o : Out). o.state) failed)

pub on_numbers_by : (s : State) (args number : ℕ) → is_on_numbers number ≡ true → RepliesBy s args number
on_numbers_by s args number h = record { is = kept_alone s number args (no_run_number number h); reply = numbers_reply s.kept number args h }

pub unlisted_by : (s : State) (args number : ℕ) → is_listed number ≡ false → RepliesBy s args number
unlisted_by s args number h =
    let failed = unlisted_kept number args s.kept h in
    record {
      is = unlisted_fails number args s h ∙ sym (ap (λ o. result o s.run) failed);
      reply = fails (ap (λ (o : Out). o.end) failed) (ap (λ (o : Out). o.state) failed);
    }
