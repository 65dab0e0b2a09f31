-- A closure that can be evaluated, by what is read of it.
use Rattle.std.proofs.Common.{◌≡◌, ◌∙◌, ℕ, Bool, true, false, refl, sym, ap, ap₂, subst, Option, Some, None, IfSome, is_some, option_and_then}
use Rattle.std.specs.Prelude.{◌&&◌}
use Rattle.std.proofs.lemmas.Bool.{false≢true}
use Rattle.cs_word.specs.declared.Oop.{Oop}
use Rattle.cs_model.specs.Ref.{Ref, Small, Char, small_index}
use Rattle.cs_model.specs.Ref as ref
use Rattle.cs_model.specs.Obj.{Context, context_in, is_method}
use Rattle.cs_model.specs.State.{Kept, object_at, object_of}
use Rattle.cs_model.specs.Context.{is_context_ref, lies_if_index}
use Rattle.cs_model.specs.Enter.{can_evaluate, closure_method, closure_slot, is_count, method_in_context, outer_context}
use Rattle.cs_model.specs.Operation.{nil_of}
use Rattle.cs_model.specs.Return.{context_at, context_birth}
use Rattle.cs_acts.specs.Names.{Names, Store, name_of}
use Rattle.cs_acts.specs.Targets.{method_in}
use Rattle.cs_unwind.specs.Blocks.{IsMethodOf, is_closure}

-- ---- the outer context

pub no_outer : (k : Kept) (x y : Ref) → y ≡ closure_slot k x 0 → is_context_ref k y ≡ false → (is_some (outer_context k x) && is_method (object_of k (closure_method k x))) ≡ false
unfolding outer_context
no_outer k x y is e = ap (λ b. b && is_method (object_of k (closure_method k x))) (ap (is_context_ref k) (sym is) ∙ e)

same_method : (nil : Ref) (o : Option Context) → method_in nil o ≡ method_in_context nil o
same_method nil None = refl
same_method nil (Some c) = refl

-- the context to which a reference leads is that of its birth
context_there : (k : Kept) (y : Ref) (i : ℕ) → Some i ≡ context_birth k y → context_in (object_at k i) ≡ context_at k y
context_there k (Small a) i e = absurd (cc)
context_there k (Char a) i e = absurd (cc)
context_there k (ref.Obj j) i e = go (context_at k (ref.Obj j)) e
  where
    go : (o : Option Context) → Some i ≡ option_and_then (λ (c : Context). ref.named_object (ref.Obj j)) o → context_in (object_at k i) ≡ context_in (object_at k j)
    go None e = absurd (cc)
    go (Some c) e = let same : i ≡ j = cc in ap (λ n. context_in (object_at k n)) same

birth_there : (k : Kept) (y : Ref) → is_context_ref k y ≡ true → is_some (context_birth k y) ≡ true
birth_there k (Small a) e = absurd (cc)
birth_there k (Char a) e = absurd (cc)
birth_there k (ref.Obj i) e = go (context_at k (ref.Obj i)) e
  where
    go : (o : Option Context) → is_some o ≡ true → is_some (option_and_then (λ (c : Context). ref.named_object (ref.Obj i)) o) ≡ true
    go None e = absurd (cc)
    go (Some c) e = refl

-- the method that is read of what stands for it
record ReadsMethod (s : Store) (k : Kept) (x : Ref) (m : Oop) : Type 0 where
  named : Names s m (closure_method k x)
  outer : is_some (outer_context k x) ≡ true

reads : (s : Store) (k : Kept) (x y : Ref) (o : Option ℕ) (m : Oop) → y ≡ closure_slot k x 0 → is_context_ref k y ≡ true → o ≡ context_birth k y → IfSome o (λ i. Names s m (method_in (nil_of k) (context_in (object_at k i)))) → ReadsMethod s k x m
unfolding outer_context
reads s k x y None m is e at names = absurd (false≢true (ap is_some at ∙ birth_there k y e))
reads s k x y (Some i) m is e at names =
    record {
      named = subst (Names s m) (ap (method_in (nil_of k)) (context_there k y i at ∙ ap (context_at k) is) ∙ same_method (nil_of k) (context_at k (closure_slot k x 0))) names;
      outer = ap (is_context_ref k) (sym is) ∙ e;
    }

pub finds_outer : (s : Store) (k : Kept) (x y : Ref) (o : Option ℕ) (m : Oop) → y ≡ closure_slot k x 0 → is_context_ref k y ≡ true → o ≡ context_birth k y → IfSome o (λ i. Names s m (method_in (nil_of k) (context_in (object_at k i))))
    → is_method (object_of k (name_of s m)) ≡ true → IsMethodOf s k x m
finds_outer s k x y o m is e at names method =
    let r = reads s k x y o m is e at names in
    record { method = record { named = r.named.sound; method = method }; is = r.named.is; outer = r.outer }

pub no_method : (s : Store) (k : Kept) (x y : Ref) (o : Option ℕ) (m : Oop) → y ≡ closure_slot k x 0 → is_context_ref k y ≡ true → o ≡ context_birth k y → IfSome o (λ i. Names s m (method_in (nil_of k) (context_in (object_at k i))))
    → is_method (object_of k (name_of s m)) ≡ false → (is_some (outer_context k x) && is_method (object_of k (closure_method k x))) ≡ false
no_method s k x y o m is e at names method =
    let r = reads s k x y o m is e at names in
    ap₂ (λ (a b : Bool). a && b) r.outer (ap (λ z. is_method (object_of k z)) (sym r.named.is) ∙ method)

-- ---- the whole test

evaluates_by : (k : Kept) (x : Ref) (args : ℕ) → can_evaluate k x args
    ≡ (is_closure k x && is_some (outer_context k x) && is_method (object_of k (closure_method k x)) && lies_if_index (object_of k (closure_method k x)) (small_index (closure_slot k x 1)) && is_count args (small_index (closure_slot k x 2)))
unfolding can_evaluate
evaluates_by k x args = refl

pub no_closure_no_block : (k : Kept) (x : Ref) (args : ℕ) → is_closure k x ≡ false → can_evaluate k x args ≡ false
no_closure_no_block k x args e =
    evaluates_by k x args
    ∙ ap (λ a. a && is_some (outer_context k x) && is_method (object_of k (closure_method k x)) && lies_if_index (object_of k (closure_method k x)) (small_index (closure_slot k x 1)) && is_count args (small_index (closure_slot k x 2))) e

either_not : (a b c d e : Bool) → (b && c) ≡ false → (a && b && c && d && e) ≡ false
either_not true true c d e h = ap (λ q. q && d && e) h
either_not true false c d e h = refl
either_not false b c d e h = refl

pub no_outer_no_block : (k : Kept) (x : Ref) (args : ℕ) → (is_some (outer_context k x) && is_method (object_of k (closure_method k x))) ≡ false → can_evaluate k x args ≡ false
no_outer_no_block k x args h =
    evaluates_by k x args
    ∙ either_not (is_closure k x) (is_some (outer_context k x)) (is_method (object_of k (closure_method k x))) (lies_if_index (object_of k (closure_method k x)) (small_index (closure_slot k x 1))) (is_count args (small_index (closure_slot k x 2))) h

all_but : (a b c d e : Bool) → a ≡ true → b ≡ true → c ≡ true → (a && b && c && d && e) ≡ (d && e)
all_but a b c d e p q r = rw (p, q, r) refl

-- what is left to be told: where it begins, and how many arguments it takes
pub rest_of : (s : Store) (k : Kept) (x : Ref) (args : ℕ) (m start count : Oop) (lies counts : Bool) → is_closure k x ≡ true → IsMethodOf s k x m → name_of s start ≡ closure_slot k x 1 → name_of s count ≡ closure_slot k x 2
    → lies ≡ lies_if_index (object_of k (name_of s m)) (small_index (name_of s start)) → counts ≡ is_count args (small_index (name_of s count)) → (lies && counts) ≡ can_evaluate k x args
rest_of s k x args m start count lies counts closure method at takes p q =
    ap₂ (λ (a b : Bool). a && b) (p ∙ ap₂ (λ o i. lies_if_index (object_of k o) (small_index i)) method.is at) (q ∙ ap (λ i. is_count args (small_index i)) takes)
    ∙ sym (evaluates_by k x args
    ∙ all_but (is_closure k x) (is_some (outer_context k x)) (is_method (object_of k (closure_method k x))) (lies_if_index (object_of k (closure_method k x)) (small_index (closure_slot k x 1))) (is_count args (small_index (closure_slot k x 2)))
    closure method.outer (ap (λ z. is_method (object_of k z)) (sym method.is) ∙ method.method.method))

-- a closure that can be evaluated is one
pub evaluated_closure : (k : Kept) (x : Ref) (args : ℕ) → can_evaluate k x args ≡ true → is_closure k x ≡ true
evaluated_closure k x args e = go (is_closure k x) refl
  where
    go : (b : Bool) → is_closure k x ≡ b → b ≡ true
    go true f = refl
    go false f = absurd (false≢true (sym (no_closure_no_block k x args f) ∙ e))

unless_lies : (a b c d e : Bool) → d ≡ false → (a && b && c && d && e) ≡ false
unless_lies true true true d e h = ap (λ q. q && e) h
unless_lies true true false d e h = refl
unless_lies true false c d e h = refl
unless_lies false b c d e h = refl

pub no_start_no_block : (s : Store) (k : Kept) (x : Ref) (args : ℕ) (m start : Oop) (lies : Bool) → IsMethodOf s k x m → name_of s start ≡ closure_slot k x 1 → lies ≡ lies_if_index (object_of k (name_of s m)) (small_index (name_of s start)) → lies ≡ false
    → can_evaluate k x args ≡ false
no_start_no_block s k x args m start lies method at p e =
    evaluates_by k x args
    ∙ unless_lies (is_closure k x) (is_some (outer_context k x)) (is_method (object_of k (closure_method k x))) (lies_if_index (object_of k (closure_method k x)) (small_index (closure_slot k x 1))) (is_count args (small_index (closure_slot k x 2)))
    (sym (sym e ∙ p ∙ ap₂ (λ o i. lies_if_index (object_of k o) (small_index i)) method.is at))
