-- A return to a sender, by states alone: a state that lacks the context that died keeps all that the return keeps.
use Rattle.std.proofs.Common.{◌≡◌, ◌≢◌, ℕ, true, false, refl, sym, ap, subst, ◌∙◌, Option, Some, None, IsSome, is_some, unwrap_or, option_and_then, inl, inr}
use Rattle.std.proofs.lemmas.Bool.Decides.{eqb_tells}
use Rattle.cs_model.specs.Ref.{Ref, Small, Char, named_object}
use Rattle.cs_model.specs.Ref as ref
use Rattle.cs_model.specs.Obj.{Obj, Context, Ctx, Ptr, Raw, Method, context_in, dead, is_context}
use Rattle.cs_model.specs.State.{IsHeld, Kept, object_at, put}
use Rattle.cs_model.specs.Keeps.{Keeps}
use Rattle.cs_model.specs.Read.{IsRunning, active_birth, active_context}
use Rattle.cs_model.specs.Operation.{activate, dead_object, edit_found, kill_of, leave_of, push_of, resume_of}
use Rattle.cs_stack.specs.Moved.{Unwinds}
use Rattle.cs_model.specs.Return.{context_birth, sender_birth}
use Rattle.cs_model.proofs.Keeping.{Keeps-lost, Keeps-trans}
use Rattle.cs_model.proofs.Objects.{object_at-put_other, object_at-put_same}
use Rattle.cs_model.proofs.Operating.{kill_moved, push_moved, resume_moved}
use Rattle.cs_model.proofs.Reading.{active_birth_same}
use Rattle.cs_model.proofs.Agreeing.{active_context-kept}
use Rattle.cs_model.proofs.Same.{same, value}

-- ---- the sender

-- a context's sender is the context c of this birth
pub record Sends (k : Kept) (s : Ref) (t : ℕ) (c : Context) : Type 0 where
  pub is : s ≡ ref.Obj t
  pub there : object_at k t ≡ Some (Ctx c)

context_found : (o : Option Obj) (t u : ℕ) → option_and_then (λ c. Some u) (context_in o) ≡ Some t → (c : Context) × (o ≡ Some (Ctx c)) × (u ≡ t)
context_found None t u e = absurd (cc)
context_found (Some (Ptr head slots)) t u e = absurd (cc)
context_found (Some (Raw head bytes)) t u e = absurd (cc)
context_found (Some (Method head header literals bytecodes)) t u e = absurd (cc)
context_found (Some (Ctx c)) t u e = (c, refl, cc)

pub sends : (k : Kept) (s : Ref) (t : ℕ) → context_birth k s ≡ Some t → (c : Context) × Sends k s t c
sends k (Small a) t e = absurd (cc)
sends k (Char a) t e = absurd (cc)
sends k (ref.Obj u) t e =
    let found = context_found (object_at k u) t u e in
    (found.0, record { is = ap (λ n. ref.Obj n) found.2; there = ap (object_at k) (sym found.2) ∙ found.1 })

pub sender_found : (k : Kept) (t : ℕ) → IsRunning k → sender_birth k (active_birth k) ≡ Some t → (c : Context) × Sends k (active_context k).sender t c
sender_found k t running e =
    sends k (active_context k).sender t (sym (ap (λ o. option_and_then (λ c. context_birth k c.sender) (context_in o)) running.found) ∙ e)

-- ---- what stands where

-- the active context dies, and its sender is active
abbrev pub back_of : Kept → Kept
back_of k = resume_of (kill_of k (active_birth k)) (unwrap_or (named_object (active_context k).sender) k.rest.nil)

-- behind that, where the sender has birth t
pub record Back (k n : Kept) (t : ℕ) : Type 0 where
  pub rest : n.rest ≡ activate (Some t) k.rest
  pub died : object_at n (active_birth k) ≡ Some (Ctx (dead k.rest.nil (active_context k)))
  pub other : (i : ℕ) → i ≢ active_birth k → object_at n i ≡ object_at k i

kills : (k : Kept) → IsRunning k → kill_of k (active_birth k) ≡ put k (active_birth k) (Ctx (dead k.rest.nil (active_context k)))
unfolding kill_of
kills k running = ap (λ o. edit_found (dead_object k.rest.nil) (active_birth k) o k) running.found

goes_back : (k : Kept) (t : ℕ) (c : Context) → Sends k (active_context k).sender t c → back_of k ≡ resume_of (kill_of k (active_birth k)) t
goes_back k t c s = ap (λ r. resume_of (kill_of k (active_birth k)) (unwrap_or (named_object r) k.rest.nil)) s.is

pub back : (k : Kept) (t : ℕ) (c : Context) → IsRunning k → Sends k (active_context k).sender t c → Back k (back_of k) t
unfolding resume_of put
back k t c running s = subst (λ n. Back k n t) (sym (goes_back k t c s ∙ ap (λ n. resume_of n t) (kills k running))) (record {
  rest = refl;
  died = object_at-put_same k (active_birth k) (Ctx (dead k.rest.nil (active_context k)));
  other = λ i active. object_at-put_other k (active_birth k) i (Ctx (dead k.rest.nil (active_context k))) active;
})

-- it leaves a state and one that it keeps so that the first still keeps the second
pub back_moved : (k m : Kept) (t : ℕ) (c : Context) → Sends k (active_context k).sender t c → Keeps k m → Keeps (back_of k) (back_of m)
back_moved k m t c s keeps =
    let killed = kill_moved keeps (value (λ i. i) (active_birth_same keeps)) in
    let there : IsSome (object_at k t) = ap is_some s.there in
    let done = resume_moved killed.keeps (same t (killed.grows.held t there)) in
    let sender : (active_context m).sender ≡ ref.Obj t = ap (λ (d : Context). d.sender) (active_context-kept k m keeps) ∙ s.is in
    let also : back_of m ≡ resume_of (kill_of m (active_birth m)) t = ap (λ r. resume_of (kill_of m (active_birth m)) (unwrap_or (named_object r) m.rest.nil)) sender in
    subst (λ n. Keeps (back_of k) n) (sym also) (subst (λ n. Keeps n (resume_of (kill_of m (active_birth m)) t)) (sym (goes_back k t c s)) done.keeps)

-- ---- a state that lacks the context that died

pub keeps-back : (k u m : Kept) (t : ℕ) (c : Context) → IsRunning k → Sends k (active_context k).sender t c → Unwinds k u t → Keeps u u → Keeps k m → Keeps u (back_of m)
keeps-back k u m t c running s r closed keeps = Keeps-trans lost (back_moved k m t c s keeps)
  where
    b : Back k (back_of k) t
    b = back k t c running s

    none_some : (o : Obj) → ◌≡◌ {A = Option Obj} None (Some o) → ⊥
    none_some o e = cc

    same_at : (i : ℕ) (o : Obj) → object_at u i ≡ Some o → object_at (back_of k) i ≡ Some o
    same_at i o h = elim (eqb_tells i (active_birth k)) [
      | inl a ↦ elim r.died [
        | inl none ↦ absurd (none_some o (sym none ∙ ap (object_at u) (sym a.1) ∙ h))
        | inr there ↦ ap (object_at (back_of k)) a.1 ∙ b.died ∙ sym there ∙ ap (object_at u) (sym a.1) ∙ h
      ]
      | inr a ↦ b.other i a.1 ∙ sym (r.other i a.1) ∙ h
    ]

    no_context : (d : Context) (o : Obj) → Some (Ctx d) ≡ Some o → is_context o ≡ false → ⊥
    no_context d o e h = let is : Ctx d ≡ o = cc in let no : true ≡ false = ap is_context is ∙ h in cc

    whole_at : (i : ℕ) (o : Obj) → object_at (back_of k) i ≡ Some o → is_context o ≡ false → object_at u i ≡ Some o
    whole_at i o h other = elim (eqb_tells i (active_birth k)) [
      | inl a ↦ absurd (no_context (dead k.rest.nil (active_context k)) o (sym b.died ∙ ap (object_at (back_of k)) (sym a.1) ∙ h) other)
      | inr a ↦ r.other i a.1 ∙ sym (b.other i a.1) ∙ h
    ]

    lost : Keeps u (back_of k)
    lost = Keeps-lost closed same_at whole_at (r.rest ∙ sym b.rest)

-- and behind a push of what it holds
pub keeps-left : (k u m : Kept) (x : Ref) (t : ℕ) (c : Context) → IsRunning k → Sends k (active_context k).sender t c → Unwinds k u t → Keeps u u → IsHeld u x → Keeps k m → Keeps (push_of u x) (leave_of m x)
unfolding leave_of
keeps-left k u m x t c running s r closed held keeps = (push_moved (keeps-back k u m t c running s r closed keeps) (same x held)).keeps
