-- The active stack behind a write: it is what it was before.
use Rattle.std.proofs.Common.{◌≡◌, ◌∙◌, ℕ, Bool, refl, sym, ap, inl, inr, Option, Some, None, length, unwrap_or}
use Rattle.std.proofs.lemmas.Bool.Decides.{eqb_tells}
use Rattle.cs_model.specs.Ref.{Ref, named_object}
use Rattle.cs_model.specs.Obj.{Obj, Context, Ctx, context_in}
use Rattle.cs_model.specs.State.{Kept, object_at, put}
use Rattle.cs_model.specs.Keeps.{Keeps}
use Rattle.cs_model.specs.Operation.{edit_at, edit_found, edit_object, set_fixed_of, store_byte_of, store_of, with_byte, with_fixed, with_slot}
use Rattle.cs_model.specs.Read.{IsRunning, active_birth, active_context, blank_context, depth_of}
use Rattle.cs_model.proofs.Objects.{object_at-put_other, object_at-put_same}
use Rattle.cs_model.proofs.Reading.{depth_same}
use Rattle.cs_model.proofs.Same.{equal}

module _ (k : Kept) (running : IsRunning k) (f : Obj → Obj) (same : (c : Context) → f (Ctx c) ≡ Ctx c) where
  put_stays : (j : ℕ) (p : Obj) → object_at k j ≡ Some p → active_context (put k j (f p)) ≡ active_context k
  unfolding active_context put
  put_stays j p there = ap (λ o. unwrap_or (context_in o) blank_context) (elim (eqb_tells (active_birth k) j) [
    | inl e ↦ let is : p ≡ Ctx (active_context k) = let h = sym running.found ∙ ap (object_at k) e.1 ∙ there in cc in
        ap (object_at (put k j (f p))) e.1 ∙ object_at-put_same k j (f p) ∙ ap Some (ap f is ∙ same (active_context k)) ∙ sym running.found
    | inr e ↦ object_at-put_other k j (active_birth k) (f p) e.1
  ])

  found_stays : (j : ℕ) (o : Option Obj) → object_at k j ≡ o → active_context (edit_found f j o k) ≡ active_context k
  found_stays j None there = refl
  found_stays j (Some p) there = put_stays j p there

  at_stays : (o : Option ℕ) → active_context (edit_at f o k) ≡ active_context k
  at_stays None = refl
  at_stays (Some j) = found_stays j (object_at k j) refl

  depth_behind : (v : Kept) (x : Ref) → Keeps v (edit_object k x f) → depth_of v ≡ depth_of k
  depth_behind v x keeps = sym (equal (depth_same keeps)) ∙ ap (λ (c : Context). length c.stack) (at_stays (named_object x))

pub depth_store : (v k : Kept) (x : Ref) (i : ℕ) (y : Ref) → IsRunning k → Keeps v (store_of k x i y) → depth_of v ≡ depth_of k
unfolding store_of
depth_store v k x i y running keeps = depth_behind k running (with_slot i y) (λ c. refl) v x keeps

pub depth_store_byte : (v k : Kept) (x : Ref) (i b : ℕ) → IsRunning k → Keeps v (store_byte_of k x i b) → depth_of v ≡ depth_of k
unfolding store_byte_of
depth_store_byte v k x i b running keeps = depth_behind k running (with_byte i b) (λ c. refl) v x keeps

pub depth_set_fixed : (v k : Kept) (x : Ref) (on : Bool) → IsRunning k → Keeps v (set_fixed_of k x on) → depth_of v ≡ depth_of k
unfolding set_fixed_of
depth_set_fixed v k x on running keeps = depth_behind k running (with_fixed on) (λ c. refl) v x keeps
