-- The active process gives its context to the machine: that becomes the base frame.
use Rattle.std.proofs.Common.{◌≡◌, ℕ, Bool, true, false, refl, sym, ap, subst, ◌∙◌, arith, Option, Some, None, is_some, List, [], length, option_and_then}
use Rattle.std.specs.Prelude.{slice_get, nat_le, nat_lt, if◌then◌else◌}
use Rattle.std.specs.FinMap.{get}
use Rattle.std.proofs.lemmas.Bool.Decides.{nat_tests}
use Rattle.cs_word.specs.declared.Oop.{Oop}
use Rattle.cs_heap.specs.Object.{Object, birth_at, is_object}
use Rattle.cs_classes.specs.Meaning.{objects_of}
use Rattle.cs_classes.specs.Sound.{is_reference}
use Rattle.cs_classes.proofs.Refs.{is_reference-object}
use Rattle.cs_frame.specs.Frame.{nil as nil_word}
use Rattle.cs_marriage.specs.Marriage.{CanBase}
use Rattle.cs_model.specs.Ref.{Ref, Small, Char}
use Rattle.cs_model.specs.Ref as ref
use Rattle.cs_model.specs.Obj.{Ctx, Method, Obj, Ptr, Raw, at_least, slots_in}
use Rattle.cs_model.specs.State.{Kept, object_of, slots_of}
use Rattle.cs_model.specs.Read.{IsRunning, active_birth, active_context}
use Rattle.cs_model.specs.Operation.{nil_of, resume_of, store_of}
use Rattle.cs_model.specs.Settle.{context_kept, open_at}
use Rattle.cs_acts.specs.Names.{KeepsNames, Names, NamesOption, name_of}
use Rattle.cs_acts.specs.Ready.{is_storable}
use Rattle.cs_stack.specs.declared.parts.Parts.{Parts}
use Rattle.cs_stack.specs.View.{active_in, bare, first_frames, stored_of, view_of}
use Rattle.cs_stack.specs.Good.{IsGood}
use Rattle.cs_acts.specs.Opened.{taken_of}
use Rattle.cs_stack.specs.Moved.{Takes, based_parts}
use Rattle.cs_stack.proofs.Based.{based_good, based_view}
use Rattle.cs_stack.proofs.Rebasing.{IsLive, bare_objects, can_base, live_at}
use Rattle.cs_stack.proofs.Unwinding.{address_of-object}

-- ---- the process

-- the process has a slot for its context
pub process_stores : (k : Kept) (p c : Ref) → Some c ≡ context_kept k p → is_storable (object_of k p) 1 ≡ true
unfolding slots_of
process_stores k p c kept = go (object_of k p) kept
  where
    wide : (n : ℕ) → nat_le 4 n ≡ true → nat_lt 1 n ≡ true
    wide n h = grind (arith, nat_tests, h)

    by_width : (slots : List Ref) (b : Bool) → nat_le 4 (length slots) ≡ b → Some c ≡ option_and_then (λ s. slice_get s 1) (if b then Some slots else None) → nat_lt 1 (length slots) ≡ true
    by_width slots false e h = absurd (cc)
    by_width slots true e h = wide (length slots) e

    go : (o : Option Obj) → Some c ≡ option_and_then (λ s. slice_get s 1) (at_least 4 (slots_in o)) → is_storable o 1 ≡ true
    go None h = absurd (cc)
    go (Some (Ptr head slots)) h = by_width slots (nat_le 4 (length slots)) refl h
    go (Some (Raw head bytes)) h = absurd (cc)
    go (Some (Method head header literals bytecodes)) h = absurd (cc)
    go (Some (Ctx d)) h = absurd (cc)

-- ---- the context

-- the process names a context that runs
record Gives (k : Kept) (p c : Ref) : Type 0 where
  i : ℕ
  is : c ≡ ref.Obj i
  taken : taken_of k p ≡ resume_of (store_of k p 1 (nil_of k)) i

gives : (k : Kept) (p c : Ref) → k.rest.active ≡ None → Some c ≡ context_kept k p → IsRunning (taken_of k p) → Gives k p c
gives k p c closed kept running = go c refl
  where
    at : taken_of k p ≡ open_at k p (ref.named_object c)
    at = ap (λ o. open_at k p (option_and_then (λ x. ref.named_object x) o)) (sym kept)

    idle : taken_of k p ≡ k → ⊥
    idle same = let e : ◌≡◌ {A = Option ℕ} None (Some (active_birth k)) = sym closed ∙ (subst IsRunning same running).known in cc

    go : (d : Ref) → c ≡ d → Gives k p c
    go (Small z) e = absurd (idle (at ∙ ap (λ x. open_at k p (ref.named_object x)) e))
    go (Char code) e = absurd (idle (at ∙ ap (λ x. open_at k p (ref.named_object x)) e))
    go (ref.Obj i) e = record { i = i; is = e; taken = at ∙ ap (λ x. open_at k p (ref.named_object x)) e }

-- ---- the world behind it

module _ (w v : Parts) (closed : w.pages.recent ≡ []) (process nil context : Oop) (none : Names (stored_of w) nil (nil_of (view_of w)))
    (kept : NamesOption (stored_of w) (Some context) (context_kept (view_of w) (name_of (stored_of w) process)))
    (running : IsRunning (taken_of (view_of w) (name_of (stored_of w) process)))
    (good : IsGood v) (stored : view_of v ≡ store_of (view_of w) (name_of (stored_of w) process) 1 (name_of (stored_of w) nil))
    (names : KeepsNames (stored_of w) (stored_of v)) (same : v ≡ record w { heap = v.heap }) where
  abbrev os : List Object
  os = v.heap.objects

  bare_pages : v.pages.recent ≡ []
  bare_pages = ap (λ (n : Parts). n.pages.recent) same ∙ closed

  given : Gives (view_of w) (name_of (stored_of w) process) (name_of (stored_of w) context)
  given = gives (view_of w) (name_of (stored_of w) process) (name_of (stored_of w) context) (ap (λ ns. active_in (first_frames w.frames ns)) closed) kept.is running

  taken_is : taken_of (view_of w) (name_of (stored_of w) process) ≡ record (view_of v) { rest = record (view_of v).rest { active = Some given.i } }
  unfolding resume_of
  taken_is = given.taken ∙ ap (λ x. resume_of (store_of (view_of w) (name_of (stored_of w) process) 1 x) given.i) (sym none.is) ∙ ap (λ k. resume_of k given.i) (sym stored)

  abbrev k : Kept
  k = record (view_of v) { rest = record (view_of v).rest { active = Some given.i } }

  runs : IsRunning k
  runs = subst IsRunning taken_is running

  address : (is_object os context.0 ≡ true) × (birth_at os context.0 ≡ given.i)
  address = let still = names context kept.sound in address_of-object os context.0 given.i still.sound (still.is ∙ given.is)

  found : get (objects_of (bare os)) given.i ≡ Some (Ctx (active_context k))
  found = sym (ap (λ m. get m given.i) (bare_objects good bare_pages)) ∙ runs.found

  live : IsLive os context.0
  live = live_at os v.classes v.roots context.0 given.i (active_context k) good.whole good.senders address.0 address.1 found (ap is_some runs.live)

  pub can_take : CanBase os context.0
  can_take = can_base good.whole live good.pcs good.births

  nil_named : is_reference os nil_word ≡ true
  nil_named = is_reference-object os nil_word good.agree.nil_there

  module _ (z : Parts) (takes : Takes v.pages z (λ page. based_parts page context.0 v)) where
    pub taken_good : IsGood z
    taken_good = subst IsGood (sym takes.is) (based_good good bare_pages context.0 live takes.page takes.free nil_named)

    pub taken_view : view_of z ≡ taken_of (view_of w) (name_of (stored_of w) process)
    taken_view = ap view_of takes.is ∙ based_view good bare_pages context.0 live takes.page takes.free nil_named
        ∙ ap (λ n. record (view_of v) { rest = record (view_of v).rest { active = Some n } }) address.1 ∙ sym taken_is
