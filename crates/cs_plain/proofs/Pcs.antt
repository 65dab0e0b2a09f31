-- The contexts of a state keep their pcs where objects are written or made; and a context that keeps its pc runs.
use Rattle.std.proofs.Common.{◌≡◌, ◌≢◌, ◌⊎◌, inl, inr, ℕ, ◌+◌, ◌*◌, ◌-◌, true, refl, sym, ap, subst, ◌∙◌, Option, Some, None, unwrap_or, length}
use Rattle.std.proofs.lemmas.Bool.Decides.{eqb_tells}
use Rattle.std.proofs.lemmas.List.{length-set}
use Rattle.cs_model.specs.Ref.{Ref, Small, Char}
use Rattle.cs_model.specs.Ref as ref
use Rattle.cs_model.specs.Obj.{Obj, Context, Ptr, Raw, Method, Ctx, context_in, lies_between, lies_in}
use Rattle.cs_model.specs.State.{Kept, PcLies, Rest, object_at, object_of, put, with_rest}
use Rattle.cs_model.specs.Read.{IsRunning, active_birth, active_context, blank_context, method_of, pc_of}
use Rattle.cs_model.specs.Operation.{edit_active, edit_found, store_of, with_slot}
use Rattle.cs_model.proofs.Objects.{at_put, object_at-put_other, object_at-put_same}

abbrev pub KeepsPcs : Kept → Type 0
KeepsPcs k = (i : ℕ) (c : Context) → object_at k i ≡ Some (Ctx c) → PcLies k c

-- a pc still lies in its method where no place in a method is lost
pub lies_still : (k : Kept) (i : ℕ) (new : Obj) → ((pc : ℕ) → lies_in (object_at k i) pc ≡ true → lies_in (Some new) pc ≡ true) → (m : Ref) (pc : ℕ)
    → lies_in (object_of k m) pc ≡ true → lies_in (object_of (put k i new) m) pc ≡ true
lies_still k i new places (Small z) pc lies = lies
lies_still k i new places (Char code) pc lies = lies
lies_still k i new places (ref.Obj j) pc lies = elim (eqb_tells j i) [
  | inl e ↦ ap (λ n. lies_in (object_at (put k i new) n) pc) e.1 ∙ ap (λ o. lies_in o pc) (object_at-put_same k i new) ∙ places pc (subst (λ n. lies_in (object_at k n) pc ≡ true) e.1 lies)
  | inr e ↦ ap (λ o. lies_in o pc) (object_at-put_other k i j new e.1) ∙ lies
]

pub pcs-put : (k : Kept) (i : ℕ) (new : Obj) → KeepsPcs k → ((pc : ℕ) → lies_in (object_at k i) pc ≡ true → lies_in (Some new) pc ≡ true)
    → ((c : Context) → new ≡ Ctx c → PcLies k c) → KeepsPcs (put k i new)
pcs-put k i new pcs places own j c there pc live = lies_still k i new places c.method pc (go (at_put k i j new (Ctx c) there))
  where
    go : ((j ≡ i) × (Ctx c ≡ new)) ⊎ ((j ≢ i) × (object_at k j ≡ Some (Ctx c))) → lies_in (object_of k c.method) pc ≡ true
    go (inl e) = own c (sym e.1) pc live
    go (inr e) = pcs j c e.1 pc live

-- no pc lies where a context is
pub no_place : (o : Option Obj) (c : Context) (new : Obj) → o ≡ Some (Ctx c) → (pc : ℕ) → lies_in o pc ≡ true → lies_in (Some new) pc ≡ true
no_place o c new there pc lies = absurd (let no : lies_in (Some (Ctx c)) pc ≡ true = ap (λ p. lies_in p pc) (sym there) ∙ lies in cc)

-- the rest is another one
pub pcs-rest : (r : Rest) (k : Kept) → KeepsPcs k → KeepsPcs (with_rest r k)
pcs-rest r k pcs i c there pc live = still c.method (pcs i c there pc live)
  where
    still : (m : Ref) → lies_in (object_of k m) pc ≡ true → lies_in (object_of (with_rest r k) m) pc ≡ true
    still (Small z) lies = lies
    still (Char code) lies = lies
    still (ref.Obj j) lies = lies

-- the active context is edited
pub pcs-edit_active : (k : Kept) (f : Context → Context) → IsRunning k → KeepsPcs k → PcLies k (f (active_context k)) → KeepsPcs (edit_active k f)
pcs-edit_active k f running pcs new = pcs-put k (active_birth k) (Ctx (f (active_context k))) pcs
    (no_place (object_at k (active_birth k)) (active_context k) (Ctx (f (active_context k))) running.found)
    (λ c e. let is : f (active_context k) ≡ c = cc in subst (PcLies k) is new)

-- ---- a store

stored_lies : (i : ℕ) (v : Ref) (o : Obj) (pc : ℕ) → lies_in (Some o) pc ≡ true → lies_in (Some (with_slot i v o)) pc ≡ true
stored_lies i v (Ptr head slots) pc lies = lies
stored_lies i v (Raw head bytes) pc lies = lies
stored_lies i v (Method head header literals bytecodes) pc lies = ap (λ n. lies_between (4 * (n + 1) + 1) (length bytecodes) pc) (length-set literals (i - 1) v) ∙ lies
stored_lies i v (Ctx c) pc lies = lies

stored_context : (i : ℕ) (v : Ref) (o : Obj) (c : Context) → with_slot i v o ≡ Ctx c → o ≡ Ctx c
stored_context i v (Ptr head slots) c e = absurd (cc)
stored_context i v (Raw head bytes) c e = absurd (cc)
stored_context i v (Method head header literals bytecodes) c e = absurd (cc)
stored_context i v (Ctx d) c e = e

pub pcs-store : (k : Kept) (o : Ref) (i : ℕ) (v : Ref) → KeepsPcs k → KeepsPcs (store_of k o i v)
unfolding store_of
pcs-store k (Small z) i v pcs = pcs
pcs-store k (Char code) i v pcs = pcs
pcs-store k (ref.Obj j) i v pcs = go (object_at k j) refl
  where
    go : (o : Option Obj) → object_at k j ≡ o → KeepsPcs (edit_found (with_slot i v) j o k)
    go None e = pcs
    go (Some o) e = pcs-put k j (with_slot i v o) pcs (λ pc lies. stored_lies i v o pc (ap (λ p. lies_in p pc) (sym e) ∙ lies))
        (λ c is. pcs j c (e ∙ ap (λ p. Some p) (stored_context i v o c is)))

-- ---- a context runs

pub running : (k : Kept) (i : ℕ) (c : Context) (pc : ℕ) → k.rest.active ≡ Some i → object_at k i ≡ Some (Ctx c) → c.pc ≡ Some pc → KeepsPcs k → IsRunning k
unfolding active_context method_of
running k i c pc active there live pcs =
    let birth : active_birth k ≡ i = ap (λ o. unwrap_or o k.rest.nil) active in
    let found : object_at k (active_birth k) ≡ Some (Ctx c) = ap (object_at k) birth ∙ there in
    let context : active_context k ≡ c = ap (λ o. unwrap_or (context_in o) blank_context) found in
    let pc_is : pc_of k ≡ pc = ap (λ d. unwrap_or d.pc 0) context ∙ ap (λ o. unwrap_or o 0) live in
    record {
      known = active ∙ ap (λ n. Some n) (sym birth);
      found = found ∙ ap (λ d. Some (Ctx d)) (sym context);
      live = ap (λ d. d.pc) context ∙ live ∙ ap (λ n. Some n) (sym pc_is);
      method = ap (λ d. lies_in (object_of k d.method) (pc_of k)) context ∙ ap (lies_in (object_of k c.method)) pc_is ∙ pcs i c there pc live;
    }
