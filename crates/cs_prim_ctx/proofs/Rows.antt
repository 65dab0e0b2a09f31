-- The rows of the table, by what is read for them.
use Rattle.std.proofs.Common.{◌≡◌, ◌≢◌, ◌∙◌, ℕ, ◌+◌, Bool, true, false, refl, sym, ap, ap₂, subst, arith, Option, Some, None, is_some, option_map, option_and_then, length}
use Rattle.std.specs.Prelude.{◌==◌, ◌||◌, ◌&&◌, if◌then◌else◌, slice_get}
use Rattle.std.proofs.lemmas.Bool.{eqb-true, false≢true}
use Rattle.std.proofs.lemmas.Bool.Decides.{nat_tests}
use Rattle.cs_model.specs.Ref.{Ref}
use Rattle.cs_model.specs.Obj.{Obj, Context, Ptr, Raw, Method, Ctx, context_in}
use Rattle.cs_model.specs.State.{Kept, object_of}
use Rattle.cs_model.specs.Context.{context_get, is_context_ref}
use Rattle.cs_model.specs.End.{Out, given, looked}
use Rattle.cs_model.specs.PrimAnswer.{answer, answer_if, argument, fail, receiver, with_count}
use Rattle.cs_model.specs.PrimContext.{stack_at_prim, stackp_prim}
use Rattle.cs_model.specs.PrimObject.{answer_field, read_slot, slot_at_prim, slot_index, small_count}
use Rattle.cs_model.specs.PrimTable.{kept_prim}
use Rattle.cs_acts.specs.Targets.{field_of}
use Rattle.cs_prim_ctx.specs.Numbers.{reads_context}
use Rattle.cs_prim_ctx.proofs.Fields.{field_in, value_is}

other : (m n : ℕ) → n ≢ m → (n == m) ≡ false
other m n h = grind (arith, nat_tests, h)

-- ---- the numbers

pub prim-73 : (k : Kept) (args : ℕ) → slot_at_prim k args ≡ kept_prim 73 args k
unfolding kept_prim
prim-73 k args = refl

pub prim-210 : (k : Kept) (args : ℕ) → stack_at_prim k args ≡ kept_prim 210 args k
unfolding kept_prim
prim-210 k args = refl

pub prim-212 : (k : Kept) (args : ℕ) → stackp_prim k args ≡ kept_prim 212 args k
unfolding kept_prim
prim-212 k args = refl

pub of_context : (k : Kept) (args : ℕ) → reads_context k 73 args ≡ true → is_context_ref k (receiver k args) ≡ true
of_context k args h = h

pub is_212 : (k : Kept) (number args : ℕ) → reads_context k number args ≡ true → number ≢ 73 → number ≢ 210 → number ≡ 212
is_212 k number args h a b = go (number == 212) refl
  where
    go : (c : Bool) → (number == 212) ≡ c → number ≡ 212
    go true e = eqb-true number 212 e
    go false e =
        let first = other 73 number a in
        let second = other 210 number b in
        absurd (false≢true (sym (ap₂ (λ (x y : Bool). x || y || ((number == 73) && is_context_ref k (receiver k args))) second e ∙ ap (λ (x : Bool). x && is_context_ref k (receiver k args)) first) ∙ h))

-- ---- another number of arguments

counted : (k : Kept) (wanted args : ℕ) (body : Out) → args ≢ wanted → with_count k wanted args body ≡ fail k
counted k wanted args body h = ap (λ (b : Bool). if b then body else fail k) (other args wanted (λ e. h (sym e)))

pub slot_at-count : (k : Kept) (args : ℕ) → args ≢ 1 → slot_at_prim k args ≡ fail k
unfolding slot_at_prim
slot_at-count k args h = counted k 1 args _ h

pub stack_at-count : (k : Kept) (args : ℕ) → args ≢ 1 → stack_at_prim k args ≡ fail k
unfolding stack_at_prim
stack_at-count k args h = counted k 1 args _ h

pub stackp-count : (k : Kept) (args : ℕ) → args ≢ 0 → stackp_prim k args ≡ fail k
unfolding stackp_prim
stackp-count k args h = counted k 0 args _ h

-- ---- 73

slot_at-none : (k : Kept) (x : Ref) → argument k 1 0 ≡ x → slot_index x ≡ None → slot_at_prim k 1 ≡ fail k
unfolding slot_at_prim
slot_at-none k x is e = ap (λ o. given o (fail k) (λ i. read_slot k 1 i (object_of k (receiver k 1)))) (ap slot_index is ∙ e)

pub slot_at-no_index : (k : Kept) (args : ℕ) (x : Ref) → args ≡ 1 → x ≡ argument k 1 0 → None ≡ slot_index x → slot_at_prim k args ≡ fail k
slot_at-no_index k args x one is e = ap (slot_at_prim k) one ∙ slot_at-none k x (sym is) (sym e)

context_slot : (k : Kept) (i : ℕ) (o : Option Obj) → is_some (context_in o) ≡ true → read_slot k 1 i o ≡ answer_field k 1 i (field_in k (context_in o) i)
context_slot k i None e = absurd (cc)
context_slot k i (Some (Ptr head slots)) e = absurd (cc)
context_slot k i (Some (Raw head bytes)) e = absurd (cc)
context_slot k i (Some (Method head header literals bytecodes)) e = absurd (cc)
context_slot k i (Some (Ctx c)) e = refl

slot_at-some : (k : Kept) (x : Ref) (i : ℕ) → argument k 1 0 ≡ x → slot_index x ≡ Some i → is_context_ref k (receiver k 1) ≡ true → slot_at_prim k 1 ≡ answer_field k 1 i (field_of k (receiver k 1) i)
unfolding slot_at_prim
slot_at-some k x i is e context =
    ap (λ o. given o (fail k) (λ i. read_slot k 1 i (object_of k (receiver k 1)))) (ap slot_index is ∙ e) ∙ context_slot k i (object_of k (receiver k 1)) context

pub slot_at-index : (k : Kept) (args : ℕ) (x y : Ref) (i : ℕ) → args ≡ 1 → x ≡ argument k 1 0 → Some i ≡ slot_index x → y ≡ receiver k 1 → is_context_ref k (receiver k args) ≡ true
    → answer_field k 1 i (field_of k y i) ≡ slot_at_prim k args
slot_at-index k args x y i one is e ctx context =
    ap (λ r. answer_field k 1 i (field_of k r i)) ctx
    ∙ sym (ap (slot_at_prim k) one ∙ slot_at-some k x i (sym is) (sym e) (subst (λ n. is_context_ref k (receiver k n) ≡ true) one context))

-- ---- 210 and 212

not_sender : (k : Kept) (args i : ℕ) (o : Option Ref) → (i == 0) ≡ false → answer_field k args i o ≡ answer_if k args o
not_sender k args i None e = refl
not_sender k args i (Some x) e = ap (λ (b : Bool). if b then looked (answer k args x) else answer k args x) e

abbrev value_at : Option ℕ → Option Context → Option Ref
value_at index o = option_and_then (λ (c : Context). option_and_then (λ i. slice_get c.stack i) index) o

no_value : (o : Option Context) → value_at None o ≡ None
no_value None = refl
no_value (Some c) = refl

none_in : (o : Option Context) → is_some o ≡ false → o ≡ None
none_in None e = refl
none_in (Some c) e = absurd (cc)

stack_at-none : (k : Kept) (x : Ref) → argument k 1 0 ≡ x → slot_index x ≡ None → stack_at_prim k 1 ≡ fail k
unfolding stack_at_prim
stack_at-none k x is e =
    ap (λ o. answer_if k 1 (value_at o (context_in (object_of k (receiver k 1))))) (ap slot_index is ∙ e) ∙ ap (answer_if k 1) (no_value (context_in (object_of k (receiver k 1))))

pub stack_at-no_index : (k : Kept) (args : ℕ) (x : Ref) → args ≡ 1 → x ≡ argument k 1 0 → None ≡ slot_index x → stack_at_prim k args ≡ fail k
stack_at-no_index k args x one is e = ap (stack_at_prim k) one ∙ stack_at-none k x (sym is) (sym e)

stack_at-other : (k : Kept) → is_context_ref k (receiver k 1) ≡ false → stack_at_prim k 1 ≡ fail k
unfolding stack_at_prim
stack_at-other k e = ap (λ o. answer_if k 1 (value_at (slot_index (argument k 1 0)) o)) (none_in (context_in (object_of k (receiver k 1))) e)

pub stack_at-no_context : (k : Kept) (args : ℕ) (y : Ref) → args ≡ 1 → y ≡ receiver k 1 → is_context_ref k y ≡ false → stack_at_prim k args ≡ fail k
stack_at-no_context k args y one ctx e = ap (stack_at_prim k) one ∙ stack_at-other k (ap (is_context_ref k) (sym ctx) ∙ e)

value_in : (k : Kept) (i : ℕ) (o : Option Context) → field_in k o (6 + i) ≡ value_at (Some i) o
value_in k i None = refl
value_in k i (Some c) = value_is k c (6 + i) (omega arith) ∙ ap (slice_get c.stack) (omega arith)

stack_at-some : (k : Kept) (x : Ref) (i : ℕ) → argument k 1 0 ≡ x → slot_index x ≡ Some i → stack_at_prim k 1 ≡ answer_field k 1 (6 + i) (field_of k (receiver k 1) (6 + i))
unfolding stack_at_prim
stack_at-some k x i is e =
    ap (λ o. answer_if k 1 (value_at o (context_in (object_of k (receiver k 1))))) (ap slot_index is ∙ e)
    ∙ ap (answer_if k 1) (sym (value_in k i (context_in (object_of k (receiver k 1))))) ∙ sym (not_sender k 1 (6 + i) (field_of k (receiver k 1) (6 + i)) (grind (arith, nat_tests)))

pub stack_at-index : (k : Kept) (args : ℕ) (x y : Ref) (i : ℕ) → args ≡ 1 → x ≡ argument k 1 0 → Some i ≡ slot_index x → y ≡ receiver k 1
    → answer_field k 1 (6 + i) (field_of k y (6 + i)) ≡ stack_at_prim k args
stack_at-index k args x y i one is e ctx =
    ap (λ r. answer_field k 1 (6 + i) (field_of k r (6 + i))) ctx ∙ sym (ap (stack_at_prim k) one ∙ stack_at-some k x i (sym is) (sym e))

depth_in : (k : Kept) (o : Option Context) → field_in k o 2 ≡ option_map (λ (c : Context). small_count (length c.stack)) o
unfolding context_get
depth_in k None = refl
depth_in k (Some c) = refl

stackp-some : (k : Kept) → stackp_prim k 0 ≡ answer_field k 0 2 (field_of k (receiver k 0) 2)
unfolding stackp_prim
stackp-some k = ap (answer_if k 0) (sym (depth_in k (context_in (object_of k (receiver k 0))))) ∙ sym (not_sender k 0 2 (field_of k (receiver k 0) 2) refl)

pub stackp-context : (k : Kept) (args : ℕ) (y : Ref) → args ≡ 0 → y ≡ receiver k 0 → answer_field k 0 2 (field_of k y 2) ≡ stackp_prim k args
stackp-context k args y none ctx = ap (λ r. answer_field k 0 2 (field_of k r 2)) ctx ∙ sym (ap (stackp_prim k) none ∙ stackp-some k)

stackp-other : (k : Kept) → is_context_ref k (receiver k 0) ≡ false → stackp_prim k 0 ≡ fail k
unfolding stackp_prim
stackp-other k e = ap (λ o. answer_if k 0 (option_map (λ (c : Context). small_count (length c.stack)) o)) (none_in (context_in (object_of k (receiver k 0))) e)

pub stackp-no_context : (k : Kept) (args : ℕ) (y : Ref) → args ≡ 0 → y ≡ receiver k 0 → is_context_ref k y ≡ false → stackp_prim k args ≡ fail k
stackp-no_context k args y none ctx e = ap (stackp_prim k) none ∙ stackp-other k (ap (is_context_ref k) (sym ctx) ∙ e)
