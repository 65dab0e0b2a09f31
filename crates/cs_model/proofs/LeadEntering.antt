-- Entering methods and blocks, and leaving them: what becomes of a state.
use Rattle.std.proofs.Common.{◌≡◌, ℕ, ◌+◌, ◌==◌, ◌&&◌, ◌||◌, Bool, true, false, refl, sym, ap, subst, ◌∙◌, Option, Some, None, IsSome, is_some, List, [], ◌∷◌, length, arith, nat_le, unwrap_or, inl, inr, ap₂, ◌≤◌, if◌then◌else◌}
use Rattle.std.specs.Prelude.{slice_get}
use Rattle.std.proofs.lemmas.Bool.{le-leb}
use Rattle.std.proofs.lemmas.Bool.Decides.{eqb_tells, nat_tests}
use Rattle.cs_model.specs.declared.stop.Stop.TheVariants as why
use Rattle.cs_model.specs.Ref.{Ref, Small, Char, small_index}
use Rattle.cs_model.specs.Ref as ref
use Rattle.cs_model.specs.Obj.{Obj, Context, Ptr, Raw, Method, Ctx, lies_in, lies_between, first_pc, context_in, is_method, header_in, bytecodes_in, has_primitive, number_in, primitive_number, dead}
use Rattle.cs_model.specs.State.{Kept, object_at, object_of, put, PcLies, IsLive}
use Rattle.cs_model.specs.Read.{active_birth, active_context}
use Rattle.cs_model.specs.Operation.{put_active, edit_active, nil_of, drop_of, enter_with, add_of, resume_of, entry_pc, method_context, enter_of, dead_object, kill_of, kill_all, cut_to_of, edit_found}
use Rattle.cs_model.specs.Context.{lies_if_index}
use Rattle.cs_model.specs.Enter.{closure_slots, closure_slot, copied_values, outer_context, closure_method, method_in_context, can_evaluate, block_size, block_context, enter_block_of, context_words, enter_block_out}
use Rattle.cs_model.specs.Return.{is_among}
use Rattle.cs_model.specs.End.{out, stop, made_context}
use Rattle.cs_model.specs.End as ends
use Rattle.cs_model.proofs.Objects.{object_at-put_same, object_at-put_other}
use Rattle.cs_model.proofs.Leading.{Sound, Becomes, like_context, like_itself, Leads, leads_itself, leads_trans, pc_lies_on, becomes_of, pc_in, put_leads}
use Rattle.cs_model.proofs.LeadCombining.{Ready, Goes, goes_trans, goes_by, ready_behind, active_found, runs_settled, HasPrimitive, Leading, out_leading, stop_leading, made_context_leading, if_leading}
use Rattle.cs_model.proofs.LeadOperation.{KeepsPlace, edit_active_goes, context_lies, no_context_lies, push_goes, drop_goes, add_goes, add_there, resume_goes, edit_found-rest}

-- ---- entering

-- the new context, with the old one as its sender
pub enter_with_goes : {k : Kept} (args : ℕ) (new : Context → Context) → Ready k → PcLies k (new (active_context k)) → IsSome (new (active_context k)).pc → Goes k (enter_with k args new)
unfolding enter_with resume_of add_of drop_of put
enter_with_goes {k} args new r lies live =
    let c = new (active_context k) in
    let d = drop_goes (args + 1) r in
    let a = add_goes (Ctx c) (ready_behind d) refl (context_lies c (pc_lies_on d.leads.stays c lies)) in
    goes_trans (goes_trans d a) (resume_goes k.rest.next a.leads.sound (ap (λ o. is_some (pc_in o)) (add_there (drop_of k (args + 1)) (Ctx c)) ∙ live))

-- where a method may be entered: at its first pc, or past its primitive
pub record IsEntry (method : Option Obj) (skip : Bool) : Type 0 where
  pub lies : lies_in method (entry_pc method skip) ≡ true

pub and_left : (a b : Bool) → (a && b) ≡ true → a ≡ true
and_left true b h = refl
and_left false b h = absurd (cc)

pub and_right : (a b : Bool) → (a && b) ≡ true → b ≡ true
and_right true b h = h
and_right false b h = absurd (cc)

pub lies_between_by : (first count pc : ℕ) → first ≤ pc → pc ≤ first + count → lies_between first count pc ≡ true
lies_between_by first count pc h g = ap₂ (λ a b. a && b) (le-leb first pc h) (le-leb pc (first + count) g)

pub method_entry : (method : Option Obj) → is_method method ≡ true → IsEntry method false
method_entry None h = absurd (cc)
method_entry (Some (Ptr head slots)) h = absurd (cc)
method_entry (Some (Raw head bytes)) h = absurd (cc)
method_entry (Some (Method head header literals bytecodes)) h = record { lies = lies_between_by (first_pc literals) (length bytecodes) (first_pc literals + 0) (omega arith) (omega arith) }
method_entry (Some (Ctx c)) h = absurd (cc)

three_bytes : (bytes : List ℕ) (n : ℕ) → number_in bytes ≡ Some n → 3 ≤ length bytes
three_bytes [] n h = absurd (cc)
three_bytes (a ∷ []) n h = absurd (cc)
three_bytes (a ∷ b ∷ []) n h = absurd (cc)
three_bytes (a ∷ b ∷ c ∷ bytes) n h = omega arith

primitive_bytes : (header : ℕ) (bytes : List ℕ) (n : ℕ) → primitive_number header bytes ≡ Some n → 3 ≤ length bytes
primitive_bytes header bytes n h = go (has_primitive header) h where
  go : (b : Bool) → (if b then number_in bytes else None) ≡ Some n → 3 ≤ length bytes
  go true e = three_bytes bytes n e
  go false e = absurd (cc)

no_primitive : (header n : ℕ) → primitive_number header [] ≡ Some n → ⊥
no_primitive header n h = absurd (omega (arith, primitive_bytes header [] n h))

primitive_entry_at : (method : Option Obj) (n : ℕ) → primitive_number (header_in method) (bytecodes_in method) ≡ Some n → IsEntry method true
primitive_entry_at None n h = absurd (no_primitive 0 n h)
primitive_entry_at (Some (Ptr head slots)) n h = absurd (no_primitive 0 n h)
primitive_entry_at (Some (Raw head bytes)) n h = absurd (no_primitive 0 n h)
primitive_entry_at (Some (Method head header literals bytecodes)) n h =
    record { lies = lies_between_by (first_pc literals) (length bytecodes) (first_pc literals + 3) (omega arith) (omega (arith, primitive_bytes header bytecodes n h)) }
primitive_entry_at (Some (Ctx c)) n h = absurd (no_primitive 0 n h)

pub primitive_entry : {k : Kept} {method : Ref} → HasPrimitive k method → IsEntry (object_of k method) true
primitive_entry {k} {method} h = primitive_entry_at (object_of k method) h.number h.is

pub enter_goes : {k : Kept} (method : Ref) (args : ℕ) (skip : Bool) → Ready k → IsEntry (object_of k method) skip → Goes k (enter_of k method args skip)
unfolding enter_of
enter_goes {k} method args skip r entry =
    enter_with_goes args (method_context k method args skip) r
    (λ pc e. ap (λ n. lies_in (object_of k method) n) (ap (λ o. unwrap_or o 0) (sym e)) ∙ entry.lies) refl

-- ---- blocks

-- a closure that may be entered: its startpc lies in its method
pub record IsBlock (k : Kept) (closure : Ref) : Type 0 where
  pub lies : lies_if_index (object_of k (closure_method k closure)) (small_index (closure_slot k closure 1)) ≡ true

pub index_lies : (method : Option Obj) (o : Option ℕ) → lies_if_index method o ≡ true → (pc : ℕ) → o ≡ Some pc → lies_in method pc ≡ true
index_lies method None h pc e = absurd (cc)
index_lies method (Some n) h pc e = ap (lies_in method) (ap (λ o. unwrap_or o 0) (sym e)) ∙ h

pub index_there : (method : Option Obj) (o : Option ℕ) → lies_if_index method o ≡ true → IsSome o
index_there method None h = absurd (cc)
index_there method (Some n) h = refl

pub enter_block_goes : {k : Kept} (closure : Ref) (args : ℕ) → Ready k → IsBlock k closure → Goes k (enter_block_of k closure args)
unfolding enter_block_of
enter_block_goes {k} closure args r block =
    let method = object_of k (closure_method k closure) in
    let start = small_index (closure_slot k closure 1) in
    enter_with_goes args (block_context k closure args) r (index_lies method start block.lies) (index_there method start block.lies)

pub enter_block_leading : {P : Kept → Type 0} {k : Kept} (closure : Ref) (args : ℕ) → Ready k → IsBlock k closure → Leading P k (enter_block_out k closure args)
unfolding enter_block_out
enter_block_leading {P} {k} closure args r block =
    if_leading (nat_le (args + length (copied_values k closure)) (block_size k closure))
    (λ e. let g = enter_block_goes closure args r block in made_context_leading (context_words (block_size k closure)) (out_leading ends.Entered g.leads (runs_settled g.runs)))
    (λ e. stop_leading r.sound why.StackOver)

pub can_evaluate_block : (k : Kept) (closure : Ref) (args : ℕ) → can_evaluate k closure args ≡ true → IsBlock k closure
unfolding can_evaluate
can_evaluate_block k closure args h = record { lies = and_right _ _ (and_left _ _ h) }

-- what is read of an object stays where the active context changes in other parts
pub read_beside : {A : Type 0} {k : Kept} (d : Context) (read : Option Obj → A) → Ready k → read (Some (Ctx d)) ≡ read (Some (Ctx (active_context k))) → (x : Ref) → read (object_of (put_active k d) x) ≡ read (object_of k x)
read_beside d read r e (Small a) = refl
read_beside d read r e (Char c) = refl
read_beside {A} {k} d read r e (ref.Obj i) = elim (eqb_tells i (active_birth k)) [
  | inl f ↦ ap read (ap (object_at (put_active k d)) f.1 ∙ object_at-put_same k (active_birth k) (Ctx d)) ∙ e ∙ ap read (sym (active_found r) ∙ ap (object_at k) (sym f.1))
  | inr f ↦ ap read (object_at-put_other k (active_birth k) i (Ctx d) f.1)
]

-- a block may be entered behind a change of the active stack
pub block_beside : {k : Kept} (f : Context → Context) (closure : Ref) → KeepsPlace f → Ready k → IsBlock k closure → IsBlock (edit_active k f) closure
unfolding outer_context put
block_beside {k} f closure p r block =
    let c = active_context k in
    let t = edit_active k f in
    let slots : closure_slots (object_of t closure) ≡ closure_slots (object_of k closure) = read_beside (f c) closure_slots r refl closure in
    let slot = λ (i : ℕ). ap (λ xs. unwrap_or (slice_get xs i) (nil_of k)) slots in
    let method : closure_method t closure ≡ closure_method k closure =
    ap (λ x. method_in_context (nil_of k) (context_in (object_of t x))) (slot 0)
    ∙ read_beside (f c) (λ o. method_in_context (nil_of k) (context_in o)) r (p.method c) (closure_slot k closure 0) in
    record {
      lies = ap (λ m. lies_if_index (object_of t m) (small_index (closure_slot t closure 1))) method
          ∙ ap (λ x. lies_if_index (object_of t (closure_method k closure)) (small_index x)) (slot 1)
          ∙ index_lies_on (object_of k (closure_method k closure)) (object_of t (closure_method k closure)) (becomes_of (edit_active_goes f p r).leads.stays (closure_method k closure)) (small_index (closure_slot k closure 1)) block.lies;
    } where
      index_lies_on : (m n : Option Obj) → Becomes m n → (o : Option ℕ) → lies_if_index m o ≡ true → lies_if_index n o ≡ true
      index_lies_on m n b None h = h
      index_lies_on m n b (Some pc) h = b.lies pc h

-- ---- leaving

kill_case : {k : Kept} (i : ℕ) (o : Option Obj) → object_at k i ≡ o → Sound k → (k.rest.active ≡ Some i → ⊥) → Leads k (edit_found (dead_object k.rest.nil) i o k)
kill_case i None e s apart = leads_itself s
kill_case {k} i (Some (Ptr head slots)) e s apart = put_leads i (Ptr head slots) (Ptr head slots) s e (like_itself (Ptr head slots)) (no_context_lies refl) (λ a. absurd (apart a))
kill_case {k} i (Some (Raw head bytes)) e s apart = put_leads i (Raw head bytes) (Raw head bytes) s e (like_itself (Raw head bytes)) (no_context_lies refl) (λ a. absurd (apart a))
kill_case {k} i (Some (Method head header literals bytecodes)) e s apart = put_leads i (Method head header literals bytecodes) (Method head header literals bytecodes) s e (like_itself (Method head header literals bytecodes)) (no_context_lies refl) (λ a. absurd (apart a))
kill_case {k} i (Some (Ctx c)) e s apart = put_leads i (Ctx c) (Ctx (dead k.rest.nil c)) s e (like_context c (dead k.rest.nil c)) (context_lies (dead k.rest.nil c) (λ pc h. absurd (cc))) (λ a. absurd (apart a))

-- a context that isn't active dies
pub kill_leads : {k : Kept} (i : ℕ) → Sound k → (k.rest.active ≡ Some i → ⊥) → Leads k (kill_of k i)
unfolding kill_of
kill_leads {k} i s apart = kill_case i (object_at k i) refl s apart

pub kill-rest : (k : Kept) (i : ℕ) → (kill_of k i).rest ≡ k.rest
unfolding kill_of
kill-rest k i = edit_found-rest (dead_object k.rest.nil) i (object_at k i) k

pub kill_all-rest : (dying : List ℕ) (k : Kept) → (kill_all dying k).rest ≡ k.rest
unfolding kill_all
kill_all-rest [] k = refl
kill_all-rest (i ∷ is) k = kill_all-rest is (kill_of k i) ∙ kill-rest k i

-- the active one is not among them
pub record Survives (k : Kept) (dying : List ℕ) : Type 0 where
  pub apart : (i : ℕ) → k.rest.active ≡ Some i → is_among i dying ≡ false

among_first : (i j : ℕ) (js : List ℕ) → is_among i (j ∷ js) ≡ false → i ≡ j → ⊥
among_first i j js h e = absurd (grind (arith, nat_tests, h, e))

among_rest : (i j : ℕ) (js : List ℕ) → is_among i (j ∷ js) ≡ false → is_among i js ≡ false
among_rest i j js h = go (i == j) h where
  go : (b : Bool) → (b || is_among i js) ≡ false → is_among i js ≡ false
  go true e = absurd (cc)
  go false e = e

pub kill_all_leads : (dying : List ℕ) {k : Kept} → Sound k → Survives k dying → Leads k (kill_all dying k)
unfolding kill_all
kill_all_leads [] s h = leads_itself s
kill_all_leads (i ∷ is) {k} s h =
    let first = kill_leads i s (λ e. among_first i i is (h.apart i e) refl) in
    leads_trans first (kill_all_leads is first.sound (record { apart = λ j e. among_rest j i is (h.apart j (sym (ap (λ r. r.active) (kill-rest k i)) ∙ e)) }))

kill_behind : (k : Kept) (target i : ℕ) → kill_of (resume_of k target) i ≡ resume_of (kill_of k i) target
unfolding kill_of resume_of put
kill_behind k target i = go (object_at k i) where
  go : (o : Option Obj) → edit_found (dead_object k.rest.nil) i o (resume_of k target) ≡ resume_of (edit_found (dead_object k.rest.nil) i o k) target
  go None = refl
  go (Some o) = refl

kill_all_behind : (dying : List ℕ) (k : Kept) (target : ℕ) → kill_all dying (resume_of k target) ≡ resume_of (kill_all dying k) target
unfolding kill_all
kill_all_behind [] k target = refl
kill_all_behind (i ∷ is) k target = ap (kill_all is) (kill_behind k target i) ∙ kill_all_behind is (kill_of k i) target

-- the target is live, and doesn't die
pub cut_to_goes : {k : Kept} (dying : List ℕ) (target : ℕ) (x : Ref) → Sound k → IsLive k target → is_among target dying ≡ false → Goes k (cut_to_of k dying target x)
unfolding cut_to_of resume_of
cut_to_goes {k} dying target x s live apart =
    let a = resume_goes target s live in
    let b = kill_all_leads dying a.leads.sound (record { apart = λ i e. subst (λ n. is_among n dying ≡ false) (ap (λ o. unwrap_or o target) e) apart }) in
    let c : Goes k (kill_all dying (resume_of k target)) = goes_trans a (goes_by b a.runs (ap (λ r. r.active) (kill_all-rest dying (resume_of k target)))) in
    let d : Goes k (resume_of (kill_all dying k) target) = subst (λ t. Goes k t) (kill_all_behind dying k target) c in
    goes_trans d (push_goes x (ready_behind d))
