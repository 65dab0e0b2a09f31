-- A return: the active context dies, and its sender gets the value.
use Rattle.std.proofs.Common.{◌≡◌, ℕ, ◌<◌, true, refl, sym, ap, subst, ◌∙◌, arith, Option, Some, None, IsSome, length, unwrap_or}
use Rattle.std.specs.Prelude.{IfSome, IsSomeAnd, nat_lt}
use Rattle.std.proofs.lemmas.Bool.Decides.{nat_tests}
use Rattle.cs_word.specs.declared.Oop.{Oop}
use Rattle.cs_model.specs.Ref.{Ref}
use Rattle.cs_model.specs.Obj.{Context, Ctx, context_in}
use Rattle.cs_model.specs.Keeps.{Keeps}
use Rattle.cs_model.specs.State.{Kept, Rest, IsHeld, object_at, put}
use Rattle.cs_model.specs.Read.{active_birth, active_context, blank_context, depth_of, size_of}
use Rattle.cs_model.specs.Operation.{leave_of, push_of}
use Rattle.cs_model.specs.Return.{has_room, sender_birth}
use Rattle.cs_acts.specs.Names.{IsNamed, name_of}
use Rattle.cs_acts.specs.Ready.{IsReady}
use Rattle.cs_acts.specs.Targets.{CanArrive}
use Rattle.cs_acts.proofs.Held.{named_held}
use Rattle.cs_stack.specs.declared.parts.Parts.{Parts}
use Rattle.cs_stack.specs.View.{stored_of, view_of}
use Rattle.cs_stack.specs.Good.{IsGood}
use Rattle.cs_stack.specs.Moved.{Unwound}
use Rattle.cs_stack.proofs.Closed.{good_sound}
use Rattle.cs_stack.proofs.Tops.{good_ready, opened_at, ready_again}
use Rattle.cs_stack.proofs.Returning.{Sends, keeps-left, sender_found}

-- the sender of the active context, into which it returns
pub record Target (w : Parts) : Type 0 where
  pub t : ℕ
  pub c : Context
  pub is : sender_birth (view_of w) (active_birth (view_of w)) ≡ Some t
  pub arrives : CanArrive (view_of w) t
  pub sends : Sends (view_of w) (active_context (view_of w)).sender t c

-- the same of one that need not take a value
pub record Next (w : Parts) : Type 0 where
  pub t : ℕ
  pub is : sender_birth (view_of w) (active_birth (view_of w)) ≡ Some t
  pub c : Context
  pub sends : Sends (view_of w) (active_context (view_of w)).sender t c

abbrev pub next_of : {w : Parts} → Target w → Next w
next_of g = record { t = g.t; is = g.is; c = g.c; sends = g.sends }

pub next_at : (w : Parts) (t : ℕ) → IsReady (stored_of w) (view_of w) → sender_birth (view_of w) (active_birth (view_of w)) ≡ Some t → Next w
next_at w t ready e =
    let found = sender_found (view_of w) t ready.running e in
    record { t = t; is = e; c = found.0; sends = found.1 }

pub next_some : (w : Parts) → IsReady (stored_of w) (view_of w) → IsSome (sender_birth (view_of w) (active_birth (view_of w))) → Next w
next_some w ready some = go (sender_birth (view_of w) (active_birth (view_of w))) refl some
  where
    go : (o : Option ℕ) → sender_birth (view_of w) (active_birth (view_of w)) ≡ o → IsSome o → Next w
    go None e some = absurd (cc)
    go (Some t) e some = next_at w t ready e

pub target : (w : Parts) → IsReady (stored_of w) (view_of w) → IsSomeAnd (sender_birth (view_of w) (active_birth (view_of w))) (CanArrive (view_of w)) → Target w
target w ready can = go (sender_birth (view_of w) (active_birth (view_of w))) refl can
  where
    go : (o : Option ℕ) → sender_birth (view_of w) (active_birth (view_of w)) ≡ o → IsSomeAnd o (CanArrive (view_of w)) → Target w
    go None e can = absurd can
    go (Some t) e can =
        let found = sender_found (view_of w) t ready.running e in
        record { t = t; c = found.0; is = e; arrives = can; sends = found.1 }

-- what is told of it
pub told : {w : Parts} (g : Target w) (P : ℕ → Type 0) → IfSome (sender_birth (view_of w) (active_birth (view_of w))) P → P g.t
told g P h = subst (λ o. IfSome o P) g.is h

pub tell : {w : Parts} (g : Target w) (P : ℕ → Type 0) → P g.t → IfSome (sender_birth (view_of w) (active_birth (view_of w))) P
tell g P h = subst (λ o. IfSome o P) (sym g.is) h

pub less : (a b : ℕ) → nat_lt a b ≡ true → a < b
less a b h = grind (arith, nat_tests, h)

pub push_active : (k : Kept) (x : Ref) → (push_of k x).rest.active ≡ k.rest.active
unfolding push_of put
push_active k x = refl

-- ---- behind the unwinding

module _ {w v : Parts} (ready : IsReady (stored_of w) (view_of w)) (g : Target w) (u : Unwound w v g.t) where
  active_is : (view_of v).rest.active ≡ Some g.t
  active_is = ap (λ (r : Rest). r.active) u.state.rest

  pub unwound_ready : IsReady (stored_of v) (view_of v)
  unwound_ready = good_ready v u.good (opened_at v g.t u.good active_is)

  there : object_at (view_of v) g.t ≡ Some (Ctx g.c)
  there = u.state.other g.t g.arrives.other ∙ g.sends.there

  context_is : active_context (view_of v) ≡ g.c
  unfolding active_context
  context_is = ap (λ o. unwrap_or (context_in (object_at (view_of v) (unwrap_or o (view_of v).rest.nil))) blank_context) active_is ∙ ap (λ o. unwrap_or (context_in o) blank_context) there

  pub unwound_fits : depth_of (view_of v) < size_of (view_of v)
  unwound_fits =
      let room : nat_lt (length g.c.stack) g.c.size ≡ true = sym (ap (λ o. has_room (context_in o)) g.sends.there) ∙ g.arrives.room in
      subst (λ (c : Context). length c.stack < c.size) (sym context_is) (less _ _ room)

  pub left_state : (x : Oop) (n : Kept) → IsNamed (stored_of w) x → n ≡ push_of (view_of v) (name_of (stored_of v) x)
      → (m : Kept) → Keeps (view_of w) m → Keeps n (leave_of m (name_of (stored_of w) x))
  left_state x n named pushed m keeps =
      let names = u.names x named in
      let held : IsHeld (view_of v) (name_of (stored_of w) x) = subst (IsHeld (view_of v)) names.is (named_held (stored_of v) (view_of v) x (good_sound v u.good).holds names.sound) in
      subst (λ k. Keeps k (leave_of m (name_of (stored_of w) x))) (sym (pushed ∙ ap (push_of (view_of v)) names.is))
      (keeps-left (view_of w) (view_of v) m (name_of (stored_of w) x) g.t g.c ready.running g.sends u.state (good_sound v u.good).closed held keeps)

  pub left_ready : (z : Parts) (x : Ref) → IsGood z → view_of z ≡ push_of (view_of v) x → IsReady (stored_of z) (view_of z)
  left_ready z x good pushed = ready_again v z good unwound_ready (ap (λ (k : Kept). k.rest.active) pushed ∙ push_active (view_of v) x)
