-- The writes of a world, each as its operation on every state that the world keeps.
use Rattle.std.proofs.Common.{◌≡◌, ℕ, Bool, true, false, refl, sym, ap, subst, ◌∙◌, Option, Some, None}
use Rattle.std.specs.Prelude.{◌==◌, if◌then◌else◌}
use Rattle.cs_word.specs.declared.Oop.{Oop}
use Rattle.cs_model.specs.Ref.{Ref}
use Rattle.cs_model.specs.Obj.{Obj}
use Rattle.cs_model.specs.Operation.{drop_of, edit_at, edit_found, edit_object, push_of, set_fixed_of, set_pc_of, set_stack_of, store_byte_of, store_of, with_hash}
use Rattle.cs_model.specs.Instance.{hash_given, hash_or_zero, next_hash, with_last_hash}
use Rattle.cs_model.specs.State.{IsHeld, Kept, object_at, object_of, put, with_rest}
use Rattle.cs_model.specs.Keeps.{Keeps}
use Rattle.cs_model.proofs.Same.{Same, is, same}
use Rattle.cs_model.proofs.Operating.{drop_moved, push_moved, set_fixed_moved, set_pc_moved, set_stack_moved, store_byte_moved, store_moved}
use Rattle.cs_model.proofs.LeadOperation.{edit_object-rest}
use Rattle.cs_model.proofs.Making.{hash_given_moved}
use Rattle.cs_model.specs.Operation as operation
use Rattle.cs_acts.specs.Names.{IsNamed, name_of}
use Rattle.cs_acts.specs.Ready.{IsReady, IsSound}
use Rattle.cs_acts.proofs.Held.{named_held}
use Rattle.cs_stack.specs.declared.parts.Parts.{Parts}
use Rattle.cs_stack.specs.View.{stored_of, view_of}
use Rattle.cs_stack.specs.Good.{IsGood}
use Rattle.cs_stack.proofs.Closed.{good_sound}
use Rattle.cs_stack.proofs.Tops.{ready_again}

-- the operation on every state that is kept; then the world is ready
pub record Writes (w v : Parts) (op : Kept → Kept) : Type 0 where
  pub state : (m : Kept) → Keeps (view_of w) m → Keeps (view_of v) (op m)
  pub ready : IsReady (stored_of v) (view_of v)

pub held_in : (w : Parts) (o : Oop) → IsSound (stored_of w) (view_of w) → IsNamed (stored_of w) o → Same (IsHeld (view_of w)) (name_of (stored_of w) o) (name_of (stored_of w) o)
held_in w o sound named = same (name_of (stored_of w) o) (named_held (stored_of w) (view_of w) o sound.holds named)

pub held_by : (w : Parts) (o : Oop) → IsReady (stored_of w) (view_of w) → IsNamed (stored_of w) o → Same (IsHeld (view_of w)) (name_of (stored_of w) o) (name_of (stored_of w) o)
held_by w o ready named = held_in w o ready.sound named

-- an edit of an object leaves the rest
rest-found : (f : Obj → Obj) (i : ℕ) (o : Option Obj) (k : Kept) → (edit_found f i o k).rest ≡ k.rest
unfolding put
rest-found f i None k = refl
rest-found f i (Some x) k = refl

rest-edit : (f : Obj → Obj) (o : Option ℕ) (k : Kept) → (edit_at f o k).rest ≡ k.rest
rest-edit f None k = refl
rest-edit f (Some i) k = rest-found f i (object_at k i) k

pub rest-store : (k : Kept) (o : Ref) (i : ℕ) (x : Ref) → (store_of k o i x).rest ≡ k.rest
unfolding store_of
rest-store k o i x = rest-edit (operation.with_slot i x) _ k

module _ (w v : Parts) (good : IsGood v) (ready : IsReady (stored_of w) (view_of w)) where
  along : (op : Kept → Kept) → view_of v ≡ op (view_of w) → (op (view_of w)).rest.active ≡ (view_of w).rest.active
      → ((m : Kept) → Keeps (view_of w) m → Keeps (op (view_of w)) (op m)) → Writes w v op
  along op view active moved = record {
    state = λ m k. subst (λ u. Keeps u (op m)) (sym view) (moved m k);
    ready = ready_again w v good ready (ap (λ (k : Kept). k.rest.active) view ∙ active);
  }

  pub writes-set_pc : (pc : ℕ) → view_of v ≡ set_pc_of (view_of w) pc → Writes w v (λ m. set_pc_of m pc)
  unfolding set_pc_of put
  writes-set_pc pc view = along (λ m. set_pc_of m pc) view refl (λ m k. (set_pc_moved k (is pc)).keeps)

  pub writes-set_stack : (i : ℕ) (x : Oop) → IsNamed (stored_of w) x → view_of v ≡ set_stack_of (view_of w) i (name_of (stored_of w) x)
      → Writes w v (λ m. set_stack_of m i (name_of (stored_of w) x))
  unfolding set_stack_of put
  writes-set_stack i x named view = along (λ m. set_stack_of m i (name_of (stored_of w) x)) view refl (λ m k. (set_stack_moved k i (held_by w x ready named)).keeps)

  pub writes-push : (x : Oop) → IsNamed (stored_of w) x → view_of v ≡ push_of (view_of w) (name_of (stored_of w) x) → Writes w v (λ m. push_of m (name_of (stored_of w) x))
  unfolding push_of put
  writes-push x named view = along (λ m. push_of m (name_of (stored_of w) x)) view refl (λ m k. (push_moved k (held_by w x ready named)).keeps)

  pub writes-pop : view_of v ≡ drop_of (view_of w) 1 → Writes w v (λ m. drop_of m 1)
  unfolding drop_of put
  writes-pop view = along (λ m. drop_of m 1) view refl (λ m k. (drop_moved k 1).keeps)

-- ---- behind a call, whose world u before it is w

pub call-set_pc : (u w v : Parts) (pc : ℕ) → u ≡ w → IsGood v → IsReady (stored_of w) (view_of w) → view_of v ≡ set_pc_of (view_of u) pc → Writes w v (λ m. set_pc_of m pc)
call-set_pc u w v pc e good ready view = writes-set_pc w v good ready pc (subst (λ u. view_of v ≡ set_pc_of (view_of u) pc) e view)

pub call-set_stack : (u w v : Parts) (i : ℕ) (x : Oop) → u ≡ w → IsGood v → IsReady (stored_of w) (view_of w) → IsNamed (stored_of w) x
    → view_of v ≡ set_stack_of (view_of u) i (name_of (stored_of u) x) → Writes w v (λ m. set_stack_of m i (name_of (stored_of w) x))
call-set_stack u w v i x e good ready named view = writes-set_stack w v good ready i x named (subst (λ u. view_of v ≡ set_stack_of (view_of u) i (name_of (stored_of u) x)) e view)

pub call-push : (u w v : Parts) (x : Oop) → u ≡ w → IsGood v → IsReady (stored_of w) (view_of w) → IsNamed (stored_of w) x
    → view_of v ≡ push_of (view_of u) (name_of (stored_of u) x) → Writes w v (λ m. push_of m (name_of (stored_of w) x))
call-push u w v x e good ready named view = writes-push w v good ready x named (subst (λ u. view_of v ≡ push_of (view_of u) (name_of (stored_of u) x)) e view)

pub call-pop : (u w v : Parts) → u ≡ w → IsGood v → IsReady (stored_of w) (view_of w) → view_of v ≡ drop_of (view_of u) 1 → Writes w v (λ m. drop_of m 1)
call-pop u w v e good ready view = writes-pop w v good ready (subst (λ u. view_of v ≡ drop_of (view_of u) 1) e view)

-- a store asks for no active context: a world that was ready is so still
pub record Stores (w v : Parts) (op : Kept → Kept) : Type 0 where
  pub state : (m : Kept) → Keeps (view_of w) m → Keeps (view_of v) (op m)
  pub sound : IsSound (stored_of v) (view_of v)
  pub ready : IsReady (stored_of w) (view_of w) → IsReady (stored_of v) (view_of v)

pub call-store : (u w v : Parts) (o x : Oop) (i : ℕ) → u ≡ w → IsGood v → IsSound (stored_of w) (view_of w) → IsNamed (stored_of w) o → IsNamed (stored_of w) x
    → view_of v ≡ store_of (view_of u) (name_of (stored_of u) o) i (name_of (stored_of u) x) → Stores w v (λ m. store_of m (name_of (stored_of w) o) i (name_of (stored_of w) x))
call-store u w v o x i e good sound object named is =
    let view : view_of v ≡ store_of (view_of w) (name_of (stored_of w) o) i (name_of (stored_of w) x) = subst (λ u. view_of v ≡ store_of (view_of u) (name_of (stored_of u) o) i (name_of (stored_of u) x)) e is in
    record {
      state = λ m k. subst (λ u. Keeps u (store_of m (name_of (stored_of w) o) i (name_of (stored_of w) x))) (sym view) (store_moved k (held_in w o sound object) i (held_in w x sound named)).keeps;
      sound = good_sound v good;
      ready = λ ready. ready_again w v good ready (ap (λ (k : Kept). k.rest.active) view ∙ ap (λ r. r.active) (rest-store (view_of w) (name_of (stored_of w) o) i (name_of (stored_of w) x)));
    }

stores-by : (w v : Parts) (op : Kept → Kept) → IsGood v → view_of v ≡ op (view_of w) → (op (view_of w)).rest.active ≡ (view_of w).rest.active
    → ((m : Kept) → Keeps (view_of w) m → Keeps (op (view_of w)) (op m)) → Stores w v op
stores-by w v op good view active moved = record {
  state = λ m k. subst (λ u. Keeps u (op m)) (sym view) (moved m k);
  sound = good_sound v good;
  ready = λ ready. ready_again w v good ready (ap (λ (k : Kept). k.rest.active) view ∙ active);
}

pub call-byte : (u w v : Parts) (o : Oop) (i b : ℕ) → u ≡ w → IsGood v → IsSound (stored_of w) (view_of w) → IsNamed (stored_of w) o
    → view_of v ≡ store_byte_of (view_of u) (name_of (stored_of u) o) i b → Stores w v (λ m. store_byte_of m (name_of (stored_of w) o) i b)
unfolding store_byte_of
call-byte u w v o i b e good sound named is =
    stores-by w v (λ m. store_byte_of m (name_of (stored_of w) o) i b) good (subst (λ u. view_of v ≡ store_byte_of (view_of u) (name_of (stored_of u) o) i b) e is)
    (ap (λ r. r.active) (edit_object-rest (view_of w) (name_of (stored_of w) o) (operation.with_byte i b))) (λ m k. (store_byte_moved k (held_in w o sound named) i b).keeps)

pub call-fixed : (u w v : Parts) (o : Oop) (on : Bool) → u ≡ w → IsGood v → IsSound (stored_of w) (view_of w) → IsNamed (stored_of w) o
    → view_of v ≡ set_fixed_of (view_of u) (name_of (stored_of u) o) on → Stores w v (λ m. set_fixed_of m (name_of (stored_of w) o) on)
unfolding set_fixed_of
call-fixed u w v o on e good sound named is =
    stores-by w v (λ m. set_fixed_of m (name_of (stored_of w) o) on) good (subst (λ u. view_of v ≡ set_fixed_of (view_of u) (name_of (stored_of u) o) on) e is)
    (ap (λ r. r.active) (edit_object-rest (view_of w) (name_of (stored_of w) o) (operation.with_fixed on))) (λ m k. (set_fixed_moved k (held_in w o sound named) on).keeps)

-- a hash that is given leaves what is active
active-hash : (k : Kept) (x : Ref) → (hash_given k x).rest.active ≡ k.rest.active
unfolding hash_given
active-hash k x = go (hash_or_zero (object_of k x) == 0)
  where
    go : (b : Bool) → (if b then with_rest (with_last_hash (next_hash k.rest.last_hash) k.rest) (edit_object k x (with_hash (next_hash k.rest.last_hash))) else k).rest.active ≡ k.rest.active
    go true = refl
    go false = refl

pub call-hash : (u w v : Parts) (o : Oop) → u ≡ w → IsGood v → IsSound (stored_of w) (view_of w) → IsNamed (stored_of w) o
    → view_of v ≡ hash_given (view_of u) (name_of (stored_of u) o) → Stores w v (λ m. hash_given m (name_of (stored_of w) o))
call-hash u w v o e good sound named is =
    stores-by w v (λ m. hash_given m (name_of (stored_of w) o)) good (subst (λ u. view_of v ≡ hash_given (view_of u) (name_of (stored_of u) o)) e is)
    (active-hash (view_of w) (name_of (stored_of w) o)) (λ m k. (hash_given_moved k (held_in w o sound named)).keeps)
