-- What the fields of contexts name stays a context, a method or a closure by each operation: the laws for the worlds.
use Rattle.std.proofs.Common.{◌≡◌, ◌≢◌, ◌⊎◌, inl, inr, ℕ, ◌+◌, ◌-◌, ◌*◌, ◌<◌, Bool, true, false, refl, sym, ap, ap₂, subst, ◌∙◌, arith, List, [], ◌∷◌, Option, Some, None, is_some, length, replicate, unwrap_or, option_and_then, if◌then◌else◌}
use Rattle.std.specs.Prelude.{◌==◌, ◌&&◌, ◌||◌, nat_le}
use Rattle.std.specs.FinMap.{get}
use Rattle.std.proofs.lemmas.Bool.{eq-eqb, false≢true, or_left, or_right}
use Rattle.std.proofs.lemmas.Bool.Decides.{eqb_tells}
use Rattle.cs_model.specs.Words.{unused_bytes}
use Rattle.cs_heap.specs.Format.{is_pointers}
use Rattle.cs_model.specs.Ref.{Ref, Small, Char, named_object, small_index, same_ref}
use Rattle.cs_model.specs.Ref as ref
use Rattle.cs_model.specs.Obj.{Obj, Context, Head, Ptr, Raw, Method, Ctx, class_index_in, context_in, dead, is_context, is_context_at, is_method, new_head, popped, pushed, stored, with_pc}
use Rattle.cs_model.specs.State.{Kept, Rest, ContextHeld, IsHeld, is_nil, object_at, object_of, put, with_rest}
use Rattle.cs_model.specs.Read.{IsRunning, active_birth, active_context, blank_context}
use Rattle.cs_model.specs.Context.{closure_class, has_class_index, lies_if_index}
use Rattle.cs_model.specs.Enter.{block_context, can_evaluate, closure_method, closure_slot, closure_slots, enter_block_of, is_count, outer_context}
use Rattle.cs_model.specs.Instance.{new_context}
use Rattle.cs_model.specs.Keeps.{Keeps, SameKept}
use Rattle.cs_model.specs.Operation.{activate, add_of, cut_to_of, dead_object, drop_of, edit_active, edit_found, edit_object, enter_of, enter_with, kill_all, kill_of, leave_of, method_context, new_pointers, nil_of, push_of, resume_of, set_fixed_of, set_pc_of, set_stack_of, store_byte_of, store_of, suspend_of, with_byte, with_fixed, with_hash, with_next, with_slot}
use Rattle.cs_model.specs.Return.{context_at, context_birth, is_live, sender_birth}
use Rattle.cs_model.proofs.Objects.{at_put, object_at-put_other, object_at-put_same}
use Rattle.cs_classes.specs.Kinds.{ContextKinds, KindsStand}
use Rattle.cs_classes.proofs.Refs.{either_still}
use Rattle.cs_acts.specs.Made.{blank_of}
use Rattle.cs_acts.specs.Ready.{IsSound}
use Rattle.cs_acts.specs.Names.{Store}

-- closures have a class
pub closures_there : (s : Store) (k : Kept) → IsSound s k → is_some (get s.table closure_class) ≡ true
closures_there s k sound = sound.holds.whole.entries.closures

-- ---- what a field names, in a state that has more

-- what is a context in the one state is one in the other, and so with methods and closures; nil is the same
pub record KindsGrow (k t : Kept) : Type 0 where
  pub nil : k.rest.nil ≡ t.rest.nil
  pub contexts : (i : ℕ) → is_context_at (object_at k i) ≡ true → is_context_at (object_at t i) ≡ true
  pub methods : (i : ℕ) → is_method (object_at k i) ≡ true → is_method (object_at t i) ≡ true
  pub closures : (i : ℕ) → has_class_index closure_class (object_at k i) ≡ true → has_class_index closure_class (object_at t i) ≡ true

named_grows : (k t : Kept) (p : Option Obj → Bool) → p None ≡ false → ((i : ℕ) → p (object_at k i) ≡ true → p (object_at t i) ≡ true) → (x : Ref) → p (object_of k x) ≡ true → p (object_of t x) ≡ true
named_grows k t p none grows (Small z) h = h
named_grows k t p none grows (Char c) h = h
named_grows k t p none grows (ref.Obj i) h = grows i h

pub context_kinds-grow : (k t : Kept) (c : Context) → KindsGrow k t → ContextKinds k c → ContextKinds t c
context_kinds-grow k t c g kinds = record {
  sender = either_still (is_nil k c.sender) (is_context_at (object_of k c.sender)) (is_nil t c.sender) (is_context_at (object_of t c.sender))
      (same c.sender) (named_grows k t is_context_at refl g.contexts c.sender) kinds.sender;
  method = either_still (is_nil k c.method) (is_method (object_of k c.method)) (is_nil t c.method) (is_method (object_of t c.method))
      (same c.method) (named_grows k t is_method refl g.methods c.method) kinds.method;
  closure = either_still (is_nil k c.closure) (has_class_index closure_class (object_of k c.closure)) (is_nil t c.closure) (has_class_index closure_class (object_of t c.closure))
      (same c.closure) (named_grows k t (has_class_index closure_class) refl g.closures c.closure) kinds.closure;
}
  where
    same : (x : Ref) → is_nil k x ≡ is_nil t x
    same x = ap (λ n. same_ref x (ref.Obj n)) g.nil

-- ---- one object is put

-- an object stays a context, a method, or a closure, where it was one
pub record KeepsKind (o : Option Obj) (new : Obj) : Type 0 where
  pub contexts : is_context_at o ≡ true → is_context new ≡ true
  pub methods : is_method o ≡ true → is_method (Some new) ≡ true
  pub closures : has_class_index closure_class o ≡ true → has_class_index closure_class (Some new) ≡ true

put_grows : (k : Kept) (i : ℕ) (new : Obj) → KeepsKind (object_at k i) new → KindsGrow k (put k i new)
unfolding put
put_grows k i new keeps = record {
  nil = refl;
  contexts = one is_context_at keeps.contexts;
  methods = one is_method keeps.methods;
  closures = one (has_class_index closure_class) keeps.closures;
}
  where
    one : (p : Option Obj → Bool) → (p (object_at k i) ≡ true → p (Some new) ≡ true) → (j : ℕ) → p (object_at k j) ≡ true → p (object_at (put k i new) j) ≡ true
    one p stays j h = elim (eqb_tells j i) [
      | inl e ↦ ap p (ap (object_at (put k i new)) e.1 ∙ object_at-put_same k i new) ∙ stays (subst (λ n. p (object_at k n) ≡ true) e.1 h)
      | inr e ↦ ap p (object_at-put_other k i j new e.1) ∙ h
    ]

pub kinds-put : (k : Kept) (i : ℕ) (new : Obj) → KindsStand k → KeepsKind (object_at k i) new → ((c : Context) → new ≡ Ctx c → ContextKinds k c) → KindsStand (put k i new)
kinds-put k i new kinds keeps own j c there = context_kinds-grow k (put k i new) c (put_grows k i new keeps) (go (at_put k i j new (Ctx c) there))
  where
    go : ((j ≡ i) × (Ctx c ≡ new)) ⊎ ((j ≢ i) × (object_at k j ≡ Some (Ctx c))) → ContextKinds k c
    go (inl e) = own c (sym e.1)
    go (inr e) = kinds j c e.1

-- a context in the place of a context, or where nothing was
pub context_keeps : (o : Option Obj) (c d : Context) → o ≡ Some (Ctx c) → KeepsKind o (Ctx d)
context_keeps o c d e = subst (λ p. KeepsKind p (Ctx d)) (sym e) (record { contexts = λ h. refl; methods = λ h. absurd (false≢true h); closures = λ h. absurd (false≢true h) })

pub none_keeps : (o : Option Obj) (new : Obj) → o ≡ None → KeepsKind o new
none_keeps o new e = subst (λ p. KeepsKind p new) (sym e) (record { contexts = λ h. absurd (false≢true h); methods = λ h. absurd (false≢true h); closures = λ h. absurd (false≢true h) })

-- ---- the rest is another one

rest_grows : (r : Rest) (k : Kept) → k.rest.nil ≡ r.nil → KindsGrow k (with_rest r k)
rest_grows r k nil = record { nil = nil; contexts = λ i h. h; methods = λ i h. h; closures = λ i h. h }

pub kinds-rest : (r : Rest) (k : Kept) → k.rest.nil ≡ r.nil → KindsStand k → KindsStand (with_rest r k)
kinds-rest r k nil kinds i c there = context_kinds-grow k (with_rest r k) c (rest_grows r k nil) (kinds i c there)

pub kinds-resume : (k : Kept) (i : ℕ) → KindsStand k → KindsStand (resume_of k i)
unfolding resume_of
kinds-resume k i = kinds-rest (activate (Some i) k.rest) k refl

pub kinds-suspend : (k : Kept) → KindsStand k → KindsStand (suspend_of k)
unfolding suspend_of
kinds-suspend k = kinds-rest (activate None k.rest) k refl

-- ---- states that keep one another

-- what a state names is the same in each that it keeps
pub kinds-keeps : (v m : Kept) → Keeps v m → KindsStand m → KindsStand v
kinds-keeps v m k kinds i c there =
    let held : ContextHeld v c = k.closed i (Ctx c) there in
    let at = kinds i c (k.same i (Ctx c) there) in
    record {
      sender = ap₂ (λ a o. a || is_context_at o) (nil c.sender) (found c.sender held.sender) ∙ at.sender;
      method = ap₂ (λ a o. a || is_method o) (nil c.method) (found c.method held.method) ∙ at.method;
      closure = ap₂ (λ a o. a || has_class_index closure_class o) (nil c.closure) (found c.closure held.closure) ∙ at.closure;
    }
  where
    nil : (x : Ref) → is_nil v x ≡ is_nil m x
    nil x = ap (λ (r : Rest). same_ref x (ref.Obj r.nil)) k.rest

    at_birth : (j : ℕ) (o : Option Obj) → object_at v j ≡ o → is_some o ≡ true → object_at v j ≡ object_at m j
    at_birth j None e h = absurd (false≢true h)
    at_birth j (Some o) e h = e ∙ sym (k.same j o e)

    found : (x : Ref) → IsHeld v x → object_of v x ≡ object_of m x
    found (Small z) h = refl
    found (Char code) h = refl
    found (ref.Obj j) h = at_birth j (object_at v j) refl h

pub kinds-same : (a b : Kept) → SameKept a b → KindsStand b → KindsStand a
kinds-same a b s kinds i c there = context_kinds-grow b a c grows (kinds i c (sym (s.objects i) ∙ there))
  where
    grows : KindsGrow b a
    grows = record {
      nil = ap (λ (r : Rest). r.nil) (sym s.rest);
      contexts = λ j h. ap is_context_at (s.objects j) ∙ h;
      methods = λ j h. ap is_method (s.objects j) ∙ h;
      closures = λ j h. ap (has_class_index closure_class) (s.objects j) ∙ h;
    }

-- ---- the active context

pub kinds-edit_active : (k : Kept) (f : Context → Context) → object_at k (active_birth k) ≡ Some (Ctx (active_context k)) → KindsStand k → ContextKinds k (f (active_context k)) → KindsStand (edit_active k f)
kinds-edit_active k f found kinds new = kinds-put k (active_birth k) (Ctx (f (active_context k))) kinds
    (context_keeps (object_at k (active_birth k)) (active_context k) (f (active_context k)) found)
    (λ c e. let is : f (active_context k) ≡ c = cc in subst (ContextKinds k) is new)

active_kinds : (k : Kept) → IsRunning k → KindsStand k → ContextKinds k (active_context k)
active_kinds k running kinds = kinds (active_birth k) (active_context k) running.found

pub kinds-set_pc : (k : Kept) (pc : ℕ) → IsRunning k → KindsStand k → KindsStand (set_pc_of k pc)
unfolding set_pc_of
kinds-set_pc k pc running kinds = let a = active_kinds k running kinds in kinds-edit_active k (with_pc (Some pc)) running.found kinds (record { sender = a.sender; method = a.method; closure = a.closure })

pub kinds-push : (k : Kept) (x : Ref) → IsRunning k → KindsStand k → KindsStand (push_of k x)
unfolding push_of
kinds-push k x running kinds = let a = active_kinds k running kinds in kinds-edit_active k (pushed x) running.found kinds (record { sender = a.sender; method = a.method; closure = a.closure })

pub kinds-drop : (k : Kept) (n : ℕ) → IsRunning k → KindsStand k → KindsStand (drop_of k n)
unfolding drop_of
kinds-drop k n running kinds = let a = active_kinds k running kinds in kinds-edit_active k (popped n) running.found kinds (record { sender = a.sender; method = a.method; closure = a.closure })

pub kinds-set_stack : (k : Kept) (i : ℕ) (x : Ref) → IsRunning k → KindsStand k → KindsStand (set_stack_of k i x)
unfolding set_stack_of
kinds-set_stack k i x running kinds = let a = active_kinds k running kinds in kinds-edit_active k (stored i x) running.found kinds (record { sender = a.sender; method = a.method; closure = a.closure })

-- ---- an object is edited

context_is : (o : Option Obj) → is_context_at o ≡ true → (c : Context) × (o ≡ Some (Ctx c))
context_is None h = absurd (false≢true h)
context_is (Some (Ptr head slots)) h = absurd (false≢true h)
context_is (Some (Raw head bytes)) h = absurd (false≢true h)
context_is (Some (Method head header literals bytecodes)) h = absurd (false≢true h)
context_is (Some (Ctx c)) h = (c, refl)

-- an edit that leaves contexts, methods and closures what they are, and the fields of contexts what they name
pub record EditKeeps (k : Kept) (f : Obj → Obj) : Type 0 where
  pub kind : (o : Obj) → KeepsKind (Some o) (f o)
  pub fields : (o : Obj) (c : Context) → f o ≡ Ctx c → (d : Context) × ((o ≡ Ctx d) × (ContextKinds k d → ContextKinds k c))

pub kinds-edit_found : (k : Kept) (f : Obj → Obj) (i : ℕ) → EditKeeps k f → KindsStand k → KindsStand (edit_found f i (object_at k i) k)
kinds-edit_found k f i keeps kinds = go (object_at k i) refl
  where
    go : (o : Option Obj) → object_at k i ≡ o → KindsStand (edit_found f i o k)
    go None e = kinds
    go (Some o) e = kinds-put k i (f o) kinds (subst (λ p. KeepsKind p (f o)) (sym e) (keeps.kind o))
        (λ c is. let d = keeps.fields o c is in d.1.1 (kinds i d.0 (e ∙ ap Some d.1.0)))

pub kinds-edit_object : (k : Kept) (x : Ref) (f : Obj → Obj) → EditKeeps k f → KindsStand k → KindsStand (edit_object k x f)
kinds-edit_object k (Small z) f keeps kinds = kinds
kinds-edit_object k (Char code) f keeps kinds = kinds
kinds-edit_object k (ref.Obj i) f keeps kinds = kinds-edit_found k f i keeps kinds

-- an object and its edited form are both contexts or neither, and so with methods; and they have one class index
record IsAlike (o new : Obj) : Type 0 where
  contexts : is_context o ≡ is_context new
  methods : is_method (Some o) ≡ is_method (Some new)
  classes : class_index_in o ≡ class_index_in new

-- an edit of this kind, which edits contexts by g
edit_keeps : (k : Kept) (f : Obj → Obj) (g : Context → Context) → ((o : Obj) → IsAlike o (f o)) → ((c : Context) → f (Ctx c) ≡ Ctx (g c)) → ((c : Context) → ContextKinds k c → ContextKinds k (g c)) → EditKeeps k f
edit_keeps k f g alike context still = record {
  kind = λ o. let a = alike o in record { contexts = λ h. sym a.contexts ∙ h; methods = λ h. sym a.methods ∙ h; closures = λ h. ap (λ n. n == closure_class) (sym a.classes) ∙ h };
  fields = λ o c e.
      let d = context_is (Some o) ((alike o).contexts ∙ ap is_context e) in
      let is : o ≡ Ctx d.0 = let some = d.1 in cc in
      let edited : Ctx (g d.0) ≡ Ctx c = sym (context d.0) ∙ ap f (sym is) ∙ e in
      let same : g d.0 ≡ c = cc in
      (d.0, (is, λ h. subst (ContextKinds k) same (still d.0 h)));
}

slot_alike : (i : ℕ) (v : Ref) (o : Obj) → IsAlike o (with_slot i v o)
slot_alike i v (Ptr head slots) = record { contexts = refl; methods = refl; classes = refl }
slot_alike i v (Raw head bytes) = record { contexts = refl; methods = refl; classes = refl }
slot_alike i v (Method head header literals bytecodes) = record { contexts = refl; methods = refl; classes = refl }
slot_alike i v (Ctx c) = record { contexts = refl; methods = refl; classes = refl }

pub kinds-store : (k : Kept) (o : Ref) (i : ℕ) (v : Ref) → KindsStand k → KindsStand (store_of k o i v)
unfolding store_of
kinds-store k o i v = kinds-edit_object k o (with_slot i v) (edit_keeps k (with_slot i v) (λ c. c) (slot_alike i v) (λ c. refl) (λ c h. h))

byte_alike : (i b : ℕ) (o : Obj) → IsAlike o (with_byte i b o)
byte_alike i b (Ptr head slots) = record { contexts = refl; methods = refl; classes = refl }
byte_alike i b (Raw head bytes) = record { contexts = refl; methods = refl; classes = refl }
byte_alike i b (Method head header literals bytecodes) = record { contexts = refl; methods = refl; classes = refl }
byte_alike i b (Ctx c) = record { contexts = refl; methods = refl; classes = refl }

pub kinds-store_byte : (k : Kept) (o : Ref) (i b : ℕ) → KindsStand k → KindsStand (store_byte_of k o i b)
unfolding store_byte_of
kinds-store_byte k o i b = kinds-edit_object k o (with_byte i b) (edit_keeps k (with_byte i b) (λ c. c) (byte_alike i b) (λ c. refl) (λ c h. h))

fixed_alike : (on : Bool) (o : Obj) → IsAlike o (with_fixed on o)
fixed_alike on (Ptr head slots) = record { contexts = refl; methods = refl; classes = refl }
fixed_alike on (Raw head bytes) = record { contexts = refl; methods = refl; classes = refl }
fixed_alike on (Method head header literals bytecodes) = record { contexts = refl; methods = refl; classes = refl }
fixed_alike on (Ctx c) = record { contexts = refl; methods = refl; classes = refl }

pub kinds-set_fixed : (k : Kept) (o : Ref) (on : Bool) → KindsStand k → KindsStand (set_fixed_of k o on)
unfolding set_fixed_of
kinds-set_fixed k o on = kinds-edit_object k o (with_fixed on) (edit_keeps k (with_fixed on) (λ c. c) (fixed_alike on) (λ c. refl) (λ c h. h))

hash_alike : (hash : ℕ) (o : Obj) → IsAlike o (with_hash hash o)
hash_alike hash (Ptr head slots) = record { contexts = refl; methods = refl; classes = refl }
hash_alike hash (Raw head bytes) = record { contexts = refl; methods = refl; classes = refl }
hash_alike hash (Method head header literals bytecodes) = record { contexts = refl; methods = refl; classes = refl }
hash_alike hash (Ctx c) = record { contexts = refl; methods = refl; classes = refl }

pub kinds-set_hash : (k : Kept) (o : Ref) (hash : ℕ) → KindsStand k → KindsStand (edit_object k o (with_hash hash))
kinds-set_hash k o hash = kinds-edit_object k o (with_hash hash) (edit_keeps k (with_hash hash) (λ c. record c { hash = hash }) (hash_alike hash) (λ c. refl)
    (λ c h. record { sender = h.sender; method = h.method; closure = h.closure }))

-- ---- an object is made

-- no object has the next birth
next_free : (k : Kept) → ((i : ℕ) (o : Obj) → object_at k i ≡ Some o → i < k.rest.next) → object_at k k.rest.next ≡ None
next_free k below = go (object_at k k.rest.next) refl
  where
    go : (o : Option Obj) → object_at k k.rest.next ≡ o → object_at k k.rest.next ≡ None
    go None e = e
    go (Some o) e = absurd (omega (arith, below k.rest.next o e))

pub kinds-add : (k : Kept) (o : Obj) → ((i : ℕ) (p : Obj) → object_at k i ≡ Some p → i < k.rest.next) → KindsStand k → ((c : Context) → o ≡ Ctx c → ContextKinds k c) → KindsStand (add_of k o)
unfolding add_of put
kinds-add k o below kinds own =
    kinds-rest (with_next (k.rest.next + 1) k.rest) (put k k.rest.next o) refl (kinds-put k k.rest.next o kinds (none_keeps (object_at k k.rest.next) o (next_free k below)) own)

pub kinds-allocate : (k : Kept) (class format slots : ℕ) → ((i : ℕ) (p : Obj) → object_at k i ≡ Some p → i < k.rest.next) → KindsStand k → KindsStand (add_of k (blank_of k class format slots))
kinds-allocate k class format slots below kinds = kinds-add k (blank_of k class format slots) below kinds (λ c e. absurd (go (is_pointers format) c e))
  where
    go : (b : Bool) (c : Context) → (if b then new_pointers k class format slots else Raw (new_head class format) (replicate (4 * slots - unused_bytes format) 0)) ≡ Ctx c → ⊥
    go true c e = absurd (cc)
    go false c e = absurd (cc)

-- a new context names nil alone
pub kinds-new_context : (k : Kept) (size : ℕ) → ContextKinds k (new_context (nil_of k) size)
kinds-new_context k size =
    let nil : ℕ = k.rest.nil in
    let same : (nil == nil) ≡ true = eq-eqb nil nil refl in
    record {
      sender = or_left (nil == nil) (is_context_at (object_at k nil)) same;
      method = or_left (nil == nil) (is_method (object_at k nil)) same;
      closure = or_left (nil == nil) (has_class_index closure_class (object_at k nil)) same;
    }

-- ---- entering

drop_grows : (k : Kept) (n : ℕ) → IsRunning k → KindsGrow k (drop_of k n)
unfolding drop_of
drop_grows k n running = put_grows k (active_birth k) (Ctx (popped n (active_context k))) (context_keeps (object_at k (active_birth k)) (active_context k) (popped n (active_context k)) running.found)

drop_free : (k : Kept) (n : ℕ) → IsRunning k → object_at k k.rest.next ≡ None → object_at (drop_of k n) k.rest.next ≡ None
unfolding drop_of
drop_free k n running none =
    object_at-put_other k (active_birth k) k.rest.next (Ctx (popped n (active_context k)))
    (λ e. let found : object_at k k.rest.next ≡ Some (Ctx (active_context k)) = ap (object_at k) e ∙ running.found in absurd (cc))
    ∙ none

pub kinds-enter_with : (k : Kept) (args : ℕ) (new : Context → Context) → IsRunning k → ((i : ℕ) (o : Obj) → object_at k i ≡ Some o → i < k.rest.next) → KindsStand k
    → ContextKinds k (new (active_context k)) → KindsStand (enter_with k args new)
unfolding enter_with drop_of put
kinds-enter_with k args new running below kinds own =
    let d : Kept = drop_of k (args + 1) in
    let c : Context = new (active_context k) in
    kinds-rest (activate (Some k.rest.next) (with_next (k.rest.next + 1) k.rest)) (put d k.rest.next (Ctx c)) refl
    (kinds-put d k.rest.next (Ctx c) (kinds-drop k (args + 1) running kinds)
    (none_keeps (object_at d k.rest.next) (Ctx c) (drop_free k (args + 1) running (next_free k below)))
    (λ b e. let is : c ≡ b = cc in subst (ContextKinds d) is (context_kinds-grow k d c (drop_grows k (args + 1) running) own)))

sender_active : (k : Kept) → IsRunning k → (is_nil k (ref.Obj (active_birth k)) || is_context_at (object_at k (active_birth k))) ≡ true
sender_active k running = or_right (is_nil k (ref.Obj (active_birth k))) (is_context_at (object_at k (active_birth k))) (ap is_context_at running.found)

pub kinds-enter : (k : Kept) (x : Ref) (args : ℕ) (skip : Bool) → IsRunning k → ((i : ℕ) (o : Obj) → object_at k i ≡ Some o → i < k.rest.next) → KindsStand k
    → is_method (object_of k x) ≡ true → KindsStand (enter_of k x args skip)
unfolding enter_of
kinds-enter k x args skip running below kinds method =
    let nil : ℕ = k.rest.nil in
    kinds-enter_with k args (method_context k x args skip) running below kinds (record {
      sender = sender_active k running;
      method = or_right (is_nil k x) (is_method (object_of k x)) method;
      closure = or_left (nil == nil) (has_class_index closure_class (object_at k nil)) (eq-eqb nil nil refl);
    })

-- a closure that can be evaluated is one, and its outer context has a method
pub record IsEvaluated (k : Kept) (x : Ref) : Type 0 where
  pub closure : has_class_index closure_class (object_of k x) ≡ true
  pub method : is_method (object_of k (closure_method k x)) ≡ true

pub evaluated : (k : Kept) (x : Ref) (args : ℕ) → can_evaluate k x args ≡ true → IsEvaluated k x
unfolding can_evaluate
evaluated k x args h =
    let p = parts (nat_le 3 (length (closure_slots (object_of k x)))) (is_some (outer_context k x)) (is_method (object_of k (closure_method k x)))
    (lies_if_index (object_of k (closure_method k x)) (small_index (closure_slot k x 1))) (is_count args (small_index (closure_slot k x 2))) h in
    record { closure = slots_there (object_of k x) p.0; method = p.1 }
  where
    parts : (a b c d e : Bool) → (a && b && c && d && e) ≡ true → (a ≡ true) × (c ≡ true)
    parts false b c d e h = absurd (cc)
    parts true false c d e h = absurd (cc)
    parts true true false d e h = absurd (cc)
    parts true true true d e h = (refl, refl)

    in_class : (head : Head) (slots : List Ref) (a b : Bool) → (head.class == closure_class) ≡ a → nat_le 3 (length (if a && b then slots else [])) ≡ true → (head.class == closure_class) ≡ true
    in_class head slots true b e h = e
    in_class head slots false b e h = absurd (false≢true h)

    slots_there : (o : Option Obj) → nat_le 3 (length (closure_slots o)) ≡ true → has_class_index closure_class o ≡ true
    slots_there None h = absurd (false≢true h)
    slots_there (Some (Ptr head slots)) h = in_class head slots (head.class == closure_class) (head.format == 3) refl h
    slots_there (Some (Raw head bytes)) h = absurd (false≢true h)
    slots_there (Some (Method head header literals bytecodes)) h = absurd (false≢true h)
    slots_there (Some (Ctx c)) h = absurd (false≢true h)

pub kinds-enter_block : (k : Kept) (x : Ref) (args : ℕ) → IsRunning k → ((i : ℕ) (o : Obj) → object_at k i ≡ Some o → i < k.rest.next) → KindsStand k
    → can_evaluate k x args ≡ true → KindsStand (enter_block_of k x args)
unfolding enter_block_of
kinds-enter_block k x args running below kinds can =
    let is = evaluated k x args can in
    kinds-enter_with k args (block_context k x args) running below kinds (record {
      sender = sender_active k running;
      method = or_right (is_nil k (closure_method k x)) (is_method (object_of k (closure_method k x))) is.method;
      closure = or_right (is_nil k x) (has_class_index closure_class (object_of k x)) is.closure;
    })

-- ---- leaving

-- a context dies: its method and its closure stay, and its sender is nil
dead_alike : (nil : ℕ) (o : Obj) → IsAlike o (dead_object nil o)
dead_alike nil (Ptr head slots) = record { contexts = refl; methods = refl; classes = refl }
dead_alike nil (Raw head bytes) = record { contexts = refl; methods = refl; classes = refl }
dead_alike nil (Method head header literals bytecodes) = record { contexts = refl; methods = refl; classes = refl }
dead_alike nil (Ctx c) = record { contexts = refl; methods = refl; classes = refl }

dead_keeps : (k : Kept) → EditKeeps k (dead_object k.rest.nil)
dead_keeps k = edit_keeps k (dead_object k.rest.nil) (dead k.rest.nil) (dead_alike k.rest.nil) (λ c. refl)
    (λ c h. record { sender = or_left (k.rest.nil == k.rest.nil) (is_context_at (object_at k k.rest.nil)) (eq-eqb k.rest.nil k.rest.nil refl); method = h.method; closure = h.closure })

edit_found_grows : (k : Kept) (f : Obj → Obj) (i : ℕ) → ((o : Obj) → KeepsKind (Some o) (f o)) → KindsGrow k (edit_found f i (object_at k i) k)
edit_found_grows k f i keeps = go (object_at k i) refl
  where
    go : (o : Option Obj) → object_at k i ≡ o → KindsGrow k (edit_found f i o k)
    go None e = record { nil = refl; contexts = λ j h. h; methods = λ j h. h; closures = λ j h. h }
    go (Some o) e = put_grows k i (f o) (subst (λ p. KeepsKind p (f o)) (sym e) (keeps o))

pub kinds-kill : (k : Kept) (i : ℕ) → KindsStand k → KindsStand (kill_of k i)
unfolding kill_of
kinds-kill k i = kinds-edit_found k (dead_object k.rest.nil) i (dead_keeps k)

pub kill_grows : (k : Kept) (i : ℕ) → KindsGrow k (kill_of k i)
unfolding kill_of
kill_grows k i = edit_found_grows k (dead_object k.rest.nil) i (dead_keeps k).kind

pub kinds-kill_all : (dying : List ℕ) (k : Kept) → KindsStand k → KindsStand (kill_all dying k)
unfolding kill_all
kinds-kill_all [] k kinds = kinds
kinds-kill_all (i ∷ dying) k kinds = kinds-kill_all dying (kill_of k i) (kinds-kill k i kinds)

-- a context is still one behind these deaths
still_context : (dying : List ℕ) (k : Kept) (i : ℕ) → is_context_at (object_at k i) ≡ true → is_context_at (object_at (kill_all dying k) i) ≡ true
unfolding kill_all
still_context [] k i h = h
still_context (j ∷ dying) k i h = still_context dying (kill_of k j) i ((kill_grows k j).contexts i h)

pub live_context : (k : Kept) (i : ℕ) → is_live k i ≡ true → is_context_at (object_at k i) ≡ true
live_context k i h = go (object_at k i) h
  where
    go : (o : Option Obj) → is_some (option_and_then (λ c. c.pc) (context_in o)) ≡ true → is_context_at o ≡ true
    go None h = absurd (false≢true h)
    go (Some (Ptr head slots)) h = absurd (false≢true h)
    go (Some (Raw head bytes)) h = absurd (false≢true h)
    go (Some (Method head header literals bytecodes)) h = absurd (false≢true h)
    go (Some (Ctx c)) h = refl

-- a value is pushed where a context has become active
pub kinds-arrive : (k : Kept) (target : ℕ) (x : Ref) → is_context_at (object_at k target) ≡ true → KindsStand k → KindsStand (push_of (resume_of k target) x)
unfolding push_of resume_of active_context
kinds-arrive k target x h kinds =
    let t : Kept = resume_of k target in
    let c = context_is (object_at k target) h in
    let active : active_context t ≡ c.0 = ap (λ o. unwrap_or (context_in o) blank_context) c.1 in
    let all : KindsStand t = kinds-resume k target kinds in
    let found : object_at t (active_birth t) ≡ Some (Ctx (active_context t)) = c.1 ∙ ap (λ d. Some (Ctx d)) (sym active) in
    let own : ContextKinds t (active_context t) = all target (active_context t) found in
    kinds-edit_active t (pushed x) found all (record { sender = own.sender; method = own.method; closure = own.closure })

pub kinds-cut_to : (k : Kept) (dying : List ℕ) (target : ℕ) (x : Ref) → is_live k target ≡ true → KindsStand k → KindsStand (cut_to_of k dying target x)
unfolding cut_to_of
kinds-cut_to k dying target x live kinds =
    kinds-arrive (kill_all dying k) target x (still_context dying k target (live_context k target live)) (kinds-kill_all dying k kinds)

-- the context to which a return goes is the sender of the active one
pub sender_is : (k : Kept) (target : ℕ) → IsRunning k → sender_birth k (active_birth k) ≡ Some target → named_object (active_context k).sender ≡ Some target
sender_is k target running e =
    go (context_at k (active_context k).sender) (sym (ap (λ o. option_and_then (λ c. context_birth k c.sender) (context_in o)) running.found) ∙ e)
  where
    go : (o : Option Context) → option_and_then (λ c. named_object (active_context k).sender) o ≡ Some target → named_object (active_context k).sender ≡ Some target
    go None h = absurd (cc)
    go (Some c) h = h

pub kinds-leave : (k : Kept) (target : ℕ) (x : Ref) → IsRunning k → sender_birth k (active_birth k) ≡ Some target → is_live k target ≡ true → KindsStand k → KindsStand (leave_of k x)
unfolding leave_of
kinds-leave k target x running sender live kinds =
    let killed : Kept = kill_of k (active_birth k) in
    subst (λ n. KindsStand (push_of (resume_of killed n) x)) (sym (ap (λ o. unwrap_or o k.rest.nil) (sender_is k target running sender)))
    (kinds-arrive killed target x ((kill_grows k (active_birth k)).contexts target (live_context k target live)) (kinds-kill k (active_birth k) kinds))
