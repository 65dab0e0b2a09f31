-- What opening an image leaves of nil, for the crates above.
use Rattle.std.proofs.Common.{◌≡◌, ℕ, Bool, true, false, refl, sym, ap, subst, ◌∙◌, Option, Some, None, List, [], option_and_then, inl, inr}
use Rattle.std.specs.Prelude.{if◌then◌else◌}
use Rattle.std.proofs.lemmas.Bool.Decides.{eqb_tells}
use Rattle.cs_model.specs.declared.event.Event.{Event}
use Rattle.cs_model.specs.Ref.{Ref, Small, Char, named_object}
use Rattle.cs_model.specs.Ref as ref
use Rattle.cs_model.specs.Obj.{Ctx, Method, Obj, Ptr, Raw, is_context_at, slots_in}
use Rattle.cs_model.specs.State.{IsValid, Kept, active_process, is_nil, object_at, put}
use Rattle.cs_model.specs.Operation.{edit_found, nil_of, resume_of, store_of, with_slot}
use Rattle.cs_model.specs.Settle.{context_kept, open_at, open_if, open_kept, opened}
use Rattle.cs_model.proofs.Objects.{object_at-put_other, object_at-put_same}

-- behind a store into slot 1 of what p names
store_rest : (k : Kept) (p x : Ref) → (store_of k p 1 x).rest ≡ k.rest
unfolding store_of put
store_rest k (Small z) x = refl
store_rest k (Char c) x = refl
store_rest k (ref.Obj j) x = go (object_at k j)
  where
    go : (o : Option Obj) → (edit_found (with_slot 1 x) j o k).rest ≡ k.rest
    go None = refl
    go (Some o) = refl

plain : (o : Option Obj) → slots_in o ≡ Some [] → is_context_at o ≡ false
plain None h = refl
plain (Some (Ptr head slots)) h = refl
plain (Some (Raw head bytes)) h = refl
plain (Some (Method head header literals bytecodes)) h = refl
plain (Some (Ctx c)) h = absurd (cc)

plain_slot : (x : Ref) (o : Obj) → slots_in (Some (with_slot 1 x o)) ≡ Some [] → is_context_at (Some o) ≡ false
plain_slot x (Ptr head slots) h = refl
plain_slot x (Raw head bytes) h = refl
plain_slot x (Method head header literals bytecodes) h = refl
plain_slot x (Ctx c) h = absurd (cc)

plain_edit : (k : Kept) (x : Ref) (j n : ℕ) (o : Option Obj) → object_at k j ≡ o → slots_in (object_at (edit_found (with_slot 1 x) j o k) n) ≡ Some [] → is_context_at (object_at k n) ≡ false
plain_edit k x j n None e h = plain (object_at k n) h
plain_edit k x j n (Some o) e h = elim (eqb_tells n j) [
  | inl same ↦ ap is_context_at (ap (object_at k) same.1 ∙ e)
      ∙ plain_slot x o (sym (ap slots_in (ap (object_at (put k j (with_slot 1 x o))) same.1 ∙ object_at-put_same k j (with_slot 1 x o))) ∙ h)
  | inr apart ↦ plain (object_at k n) (sym (ap slots_in (object_at-put_other k j n (with_slot 1 x o) apart.1)) ∙ h)
]

plain_store : (k : Kept) (x p : Ref) (n : ℕ) → slots_in (object_at (store_of k p 1 x) n) ≡ Some [] → is_context_at (object_at k n) ≡ false
unfolding store_of
plain_store k x (Small z) n h = plain (object_at k n) h
plain_store k x (Char c) n h = plain (object_at k n) h
plain_store k x (ref.Obj j) n h = plain_edit k x j n (object_at k j) refl h

plain_open : (k : Kept) (p : Ref) (o : Option ℕ) → slots_in (object_at (open_at k p o) (open_at k p o).rest.nil) ≡ Some [] → is_context_at (object_at k k.rest.nil) ≡ false
unfolding resume_of
plain_open k p None h = plain (object_at k k.rest.nil) h
plain_open k p (Some i) h = plain_store k (nil_of k) p k.rest.nil (subst (λ r. slots_in (object_at (store_of k p 1 (nil_of k)) r) ≡ Some []) (ap (λ r. r.nil) (store_rest k p (nil_of k))) h)

-- where nil is a pointer object behind the opening, it was no context before
nil_before : (k : Kept) → slots_in (object_at (open_kept k) (open_kept k).rest.nil) ≡ Some [] → is_context_at (object_at k k.rest.nil) ≡ false
unfolding open_kept
nil_before k bare = go (active_process k) bare
  where
    by_nil : (p : Ref) (b : Bool) (o : Option ℕ) → slots_in (object_at (if b then k else open_at k p o) (if b then k else open_at k p o).rest.nil) ≡ Some [] → is_context_at (object_at k k.rest.nil) ≡ false
    by_nil p true o h = plain (object_at k k.rest.nil) h
    by_nil p false o h = plain_open k p o h

    go : (o : Option Ref) → slots_in (object_at (open_if k o) (open_if k o).rest.nil) ≡ Some [] → is_context_at (object_at k k.rest.nil) ≡ false
    go None h = plain (object_at k k.rest.nil) h
    go (Some p) h = by_nil p (is_nil k p) (option_and_then (λ x. named_object x) (context_kept k p)) h

-- in a state that opens to a valid one nil is no context
pub nil_is_plain : (k : Kept) (events : List Event) (snapping : Bool) → IsValid (opened k events snapping) → is_context_at (object_at k k.rest.nil) ≡ false
unfolding opened
nil_is_plain k events snapping valid = nil_before k valid.bare
