-- Marks, as the code reads them, and what is known of a birth to which senders led.
use Rattle.std.proofs.Common.{◌≡◌, ◌∙◌, ℕ, Bool, true, false, refl, sym, ap, Option, Some, None, IfSome, option_and_then}
use Rattle.std.specs.Prelude.{◌&&◌}
use Rattle.cs_model.specs.Ref.{Ref, Small, Char, named_object}
use Rattle.cs_model.specs.Ref as ref
use Rattle.cs_model.specs.Obj.{Obj, Context, Ptr, Raw, Method, Ctx, context_in, is_context_at, is_method}
use Rattle.cs_model.specs.State.{Kept, is_nil, object_at, object_of}
use Rattle.cs_model.specs.Operation.{nil_of}
use Rattle.cs_model.specs.Read.{IsRunning, active_birth}
use Rattle.cs_model.specs.Return.{closure_at, closure_in, context_birth, is_marked, is_marked_context, is_number, method_primitive, sender_birth}
use Rattle.cs_word.specs.declared.Oop.{Oop}
use Rattle.cs_acts.specs.Names.{Names, Store, name_of}
use Rattle.cs_acts.specs.Targets.{method_in}

-- ---- contexts

-- a context to which a reference leads is one
pub context_named : (k : Kept) (x : Ref) (i : ℕ) → context_birth k x ≡ Some i → is_context_at (object_at k i) ≡ true
context_named k (Small a) i e = absurd (cc)
context_named k (Char a) i e = absurd (cc)
context_named k (ref.Obj j) i e = go (object_at k j) refl e
  where
    go : (o : Option Obj) → object_at k j ≡ o → option_and_then (λ (c : Context). named_object (ref.Obj j)) (context_in o) ≡ Some i → is_context_at (object_at k i) ≡ true
    go None f e = absurd (cc)
    go (Some (Ptr head slots)) f e = absurd (cc)
    go (Some (Raw head bytes)) f e = absurd (cc)
    go (Some (Method head header literals bytecodes)) f e = absurd (cc)
    go (Some (Ctx c)) f e = let same : j ≡ i = cc in ap (λ n. is_context_at (object_at k n)) (sym same) ∙ ap is_context_at f

-- and so is a sender
pub sender_context : (k : Kept) (i j : ℕ) → sender_birth k i ≡ Some j → is_context_at (object_at k j) ≡ true
sender_context k i j e = go (context_in (object_at k i)) e
  where
    go : (o : Option Context) → option_and_then (λ (c : Context). context_birth k c.sender) o ≡ Some j → is_context_at (object_at k j) ≡ true
    go None e = absurd (cc)
    go (Some c) e = context_named k c.sender j e

pub active_is_context : (k : Kept) → IsRunning k → is_context_at (object_at k (active_birth k)) ≡ true
active_is_context k running = ap is_context_at running.found

-- for what an act stands for
pub if_context : (k : Kept) (o : Option ℕ) → ((i : ℕ) → o ≡ Some i → is_context_at (object_at k i) ≡ true) → IfSome o (λ i. is_context_at (object_at k i) ≡ true)
if_context k None h = tt
if_context k (Some i) h = h i refl

-- ---- marks

marked_by : (k : Kept) (number : ℕ) (o : Option Obj) (closed found : Bool) → is_context_at o ≡ true → closed ≡ is_nil k (closure_in (nil_of k) (context_in o))
    → found ≡ is_number number (method_primitive (object_of k (method_in (nil_of k) (context_in o)))) → (closed && found) ≡ is_marked_context k number (context_in o)
marked_by k number None closed found is c f = absurd (cc)
marked_by k number (Some (Ptr head slots)) closed found is c f = absurd (cc)
marked_by k number (Some (Raw head bytes)) closed found is c f = absurd (cc)
marked_by k number (Some (Method head header literals bytecodes)) closed found is c f = absurd (cc)
marked_by k number (Some (Ctx x)) closed found is c f = rw (c, f) refl

-- closed tells whether the closure that was read is nil, and found whether the method has the primitive
pub marked : (k : Kept) (s : Store) (number : ℕ) (o : Option ℕ) (closure method : Oop) (closed : Bool) → IfSome o (λ i. is_context_at (object_at k i) ≡ true)
    → IfSome o (λ i. Names s closure (closure_at k i)) → IfSome o (λ i. Names s method (method_in (nil_of k) (context_in (object_at k i))))
    → closed ≡ is_nil k (name_of s closure) → (found : Bool) → found ≡ is_number number (method_primitive (object_of k (name_of s method)))
    → IfSome o (λ i. (closed && found) ≡ is_marked k number i)
unfolding is_marked
marked k s number None closure method closed context a b c found f = tt
marked k s number (Some i) closure method closed context a b c found f =
    marked_by k number (object_at k i) closed found context (c ∙ ap (is_nil k) a.is) (f ∙ ap (λ x. is_number number (method_primitive (object_of k x))) b.is)

pub unmarked : (k : Kept) (s : Store) (number : ℕ) (o : Option ℕ) (closure : Oop) (closed : Bool) → IfSome o (λ i. is_context_at (object_at k i) ≡ true)
    → IfSome o (λ i. Names s closure (closure_at k i)) → closed ≡ is_nil k (name_of s closure) → closed ≡ false
    → IfSome o (λ i. closed ≡ is_marked k number i)
unfolding is_marked
unmarked k s number None closure closed context a c other = tt
unmarked k s number (Some i) closure closed context a c other =
    other ∙ marked_by k number (object_at k i) false _ context (sym other ∙ c ∙ ap (is_nil k) a.is) refl

-- what is no method has no primitive
pub without_primitive : (number : ℕ) (o : Option Obj) → is_method o ≡ false → false ≡ is_number number (method_primitive o)
without_primitive number None e = refl
without_primitive number (Some (Ptr head slots)) e = refl
without_primitive number (Some (Raw head bytes)) e = refl
without_primitive number (Some (Method head header literals bytecodes)) e = absurd (cc)
without_primitive number (Some (Ctx c)) e = refl
