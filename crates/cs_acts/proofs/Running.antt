-- A context that is active stays so where it is edited, and where another object is written.
use Rattle.std.proofs.Common.{◌≡◌, ◌≢◌, ℕ, true, false, refl, sym, ap, subst, ◌∙◌, Some, unwrap_or, inl, inr}
use Rattle.std.proofs.lemmas.Bool.Decides.{eqb_tells}
use Rattle.cs_model.specs.Ref.{Ref, Small, Char}
use Rattle.cs_model.specs.Ref as ref
use Rattle.cs_model.specs.Obj.{Obj, Context, Ctx, is_context, context_in, lies_in}
use Rattle.cs_model.specs.State.{Kept, object_at, object_of, put}
use Rattle.cs_model.specs.Read.{IsRunning, active_birth, active_context, blank_context, method_of, pc_of}
use Rattle.cs_model.specs.Operation.{edit_active, put_active}
use Rattle.cs_model.proofs.Objects.{object_at-put_same, object_at-put_other}

-- what is written to the active context is there
pub active_context-put_active : (k : Kept) (c : Context) → active_context (put_active k c) ≡ c
unfolding active_context put
active_context-put_active k c = ap (λ o. unwrap_or (context_in o) blank_context) (object_at-put_same k (active_birth k) (Ctx c))

-- a pc lies in no context
lies_outside : (k : Kept) (i : ℕ) (pc : ℕ) (c : Context) → object_at k i ≡ Some (Ctx c) → lies_in (object_at k i) pc ≡ true → ⊥
lies_outside k i pc c there lies = let e : lies_in (Some (Ctx c)) pc ≡ true = ap (λ o. lies_in o pc) (sym there) ∙ lies in cc

-- a method stays where a context is written
lies-put : (k : Kept) (i : ℕ) (c d : Context) (m : Ref) (pc : ℕ) → object_at k i ≡ Some (Ctx c) → lies_in (object_of k m) pc ≡ true → lies_in (object_of (put k i (Ctx d)) m) pc ≡ true
lies-put k i c d (Small z) pc there lies = lies
lies-put k i c d (Char code) pc there lies = lies
lies-put k i c d (ref.Obj j) pc there lies = elim (eqb_tells j i) [
  | inl e ↦ absurd (lies_outside k i pc c there (subst (λ n. lies_in (object_at k n) pc ≡ true) e.1 lies))
  | inr e ↦ ap (λ o. lies_in o pc) (object_at-put_other k i j (Ctx d) e.1) ∙ lies
]

-- the active context is edited: it is active still, at a pc that lies in its method
pub running-edit : (k : Kept) (f : Context → Context) (pc : ℕ) → IsRunning k → (f (active_context k)).pc ≡ Some pc
    → (f (active_context k)).method ≡ (active_context k).method → lies_in (method_of k) pc ≡ true → IsRunning (edit_active k f)
unfolding put method_of
running-edit k f pc running at same lies =
    let new = active_context-put_active k (f (active_context k)) in
    let now : (active_context (edit_active k f)).pc ≡ Some pc = ap (λ c. c.pc) new ∙ at in
    let pc_is : pc_of (edit_active k f) ≡ pc = ap (λ p. unwrap_or p 0) now in
    let method : (active_context (edit_active k f)).method ≡ (active_context k).method = ap (λ c. c.method) new ∙ same in
    record {
      known = running.known;
      found = object_at-put_same k (active_birth k) (Ctx (f (active_context k))) ∙ ap (λ c. Some (Ctx c)) (sym new);
      live = now ∙ ap (λ p. Some p) (sym pc_is);
      method = ap (lies_in (method_of (edit_active k f))) pc_is ∙ ap (λ m. lies_in (object_of (edit_active k f) m) pc) method
          ∙ lies-put k (active_birth k) (active_context k) (f (active_context k)) (active_context k).method pc running.found lies;
    }

-- an object that is no context is written, and no pc leaves it
pub running-put : (k : Kept) (i : ℕ) (old new : Obj) → IsRunning k → object_at k i ≡ Some old → is_context old ≡ false
    → ((pc : ℕ) → lies_in (Some new) pc ≡ lies_in (Some old) pc) → IsRunning (put k i new)
unfolding active_context method_of put
running-put k i old new running there other lies =
    let apart : active_birth k ≢ i = λ e.
    let is : Some (Ctx (active_context k)) ≡ Some old = sym running.found ∙ ap (object_at k) e ∙ there in
    let also : is_context (Ctx (active_context k)) ≡ is_context old = ap (λ o. is_context (unwrap_or o (Ctx blank_context))) is in
    absurd (cc) in
    let stays : object_at (put k i new) (active_birth k) ≡ object_at k (active_birth k) = object_at-put_other k i (active_birth k) new apart in
    let context : active_context (put k i new) ≡ active_context k = ap (λ o. unwrap_or (context_in o) blank_context) stays in
    let pc_is : pc_of (put k i new) ≡ pc_of k = ap (λ c. unwrap_or c.pc 0) context in
    record {
      known = running.known;
      found = stays ∙ running.found ∙ ap (λ c. Some (Ctx c)) (sym context);
      live = ap (λ c. c.pc) context ∙ running.live ∙ ap (λ p. Some p) (sym pc_is);
      method = ap (lies_in (method_of (put k i new))) pc_is ∙ ap (λ c. lies_in (object_of (put k i new) c.method) (pc_of k)) context
          ∙ reads (active_context k).method ∙ running.method;
    }
  where
    reads : (m : Ref) → lies_in (object_of (put k i new) m) (pc_of k) ≡ lies_in (object_of k m) (pc_of k)
    reads (Small z) = refl
    reads (Char c) = refl
    reads (ref.Obj j) = elim (eqb_tells j i) [
      | inl e ↦ ap (λ n. lies_in (object_at (put k i new) n) (pc_of k)) e.1 ∙ ap (λ o. lies_in o (pc_of k)) (object_at-put_same k i new) ∙ lies (pc_of k)
          ∙ ap (λ o. lies_in o (pc_of k)) (sym there) ∙ ap (λ n. lies_in (object_at k n) (pc_of k)) (sym e.1)
      | inr e ↦ ap (λ o. lies_in o (pc_of k)) (object_at-put_other k i j new e.1)
    ]
