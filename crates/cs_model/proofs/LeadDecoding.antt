-- The pc behind an instruction lies in the method, since an instruction is there only with all its bytes.
use Rattle.std.proofs.Common.{◌≡◌, ℕ, ◌+◌, ◌-◌, ◌≤◌, ◌==◌, Bool, true, false, refl, sym, ap, ◌∙◌, Option, Some, None, IsSome, is_some, List, [], length, arith, nat_lt, nat_le, unwrap_or, option_map, if◌then◌else◌}
use Rattle.std.specs.Prelude.{slice_index}
use Rattle.std.proofs.lemmas.Bool.{leb-true}
use Rattle.cs_model.specs.declared.instruction.Instr.{Instr}
use Rattle.cs_model.specs.declared.instruction.Op.{Op}
use Rattle.cs_model.specs.Obj.{Obj, Context, Ptr, Raw, Method, Ctx, first_pc, literals_in, bytecodes_in, lies_in, slots_in, context_in}
use Rattle.cs_model.specs.State.{Kept, object_at, object_of}
use Rattle.cs_model.specs.Read.{blank_context, active_context, pc_of, method_of, literals_of, bytecodes_of}
use Rattle.cs_model.specs.Operation.{set_pc_of}
use Rattle.cs_model.specs.Decode.{decode_at, len_of, op_of}
use Rattle.cs_model.specs.Exec.{exec}
use Rattle.cs_model.specs.Step.{instruction_at}
use Rattle.cs_model.proofs.Leading.{Sound}
use Rattle.cs_model.proofs.LeadCombining.{Runs, Ready, ready_behind, active_live, Leading, behind}
use Rattle.cs_model.proofs.LeadOperation.{active_lies, set_pc_goes}
use Rattle.cs_model.proofs.LeadEntering.{and_left, lies_between_by}
use Rattle.cs_model.proofs.LeadExecuting.{exec_leading}

-- an instruction has a byte
len_one : (code : ℕ) → 1 ≤ len_of code
len_one code = go (nat_lt code 128) (nat_lt code 132) (code == 132) (nat_lt code 135) (nat_lt code 138) (code == 138) (nat_lt code 143) (code == 143) (nat_lt code 160) (nat_lt code 176)
  where
    go : (a b c d e f g h i j : Bool)
        → 1 ≤ (if a then 1 else (if b then 2 else (if c then 3 else (if d then 2 else (if e then 1 else (if f then 2 else (if g then 3 else (if h then 4 else (if i then 1 else (if j then 2 else 1))))))))))
    go true b c d e f g h i j = omega arith
    go false true c d e f g h i j = omega arith
    go false false true d e f g h i j = omega arith
    go false false false true e f g h i j = omega arith
    go false false false false true f g h i j = omega arith
    go false false false false false true g h i j = omega arith
    go false false false false false false true h i j = omega arith
    go false false false false false false false true i j = omega arith
    go false false false false false false false false true j = omega arith
    go false false false false false false false false false true = omega arith
    go false false false false false false false false false false = omega arith

record Fits (bytes : List ℕ) (at : ℕ) (i : Instr) : Type 0 where
  all : at + i.len ≤ length bytes
  one : 1 ≤ i.len

abbrev instr_of : ℕ → Op → Instr
instr_of len op = record { op = op; len = len }

decoded_fits : (bytes : List ℕ) (at len : ℕ) (o : Option Op) (i : Instr) → 1 ≤ len → (if nat_le (at + len) (length bytes) then option_map (instr_of len) o else None) ≡ Some i → Fits bytes at i
decoded_fits bytes at len o i one e = go (nat_le (at + len) (length bytes)) refl e where
  mapped : (o : Option Op) → option_map (instr_of len) o ≡ Some i → i.len ≡ len
  mapped None f = absurd (cc)
  mapped (Some op) f = ap (λ (q : Option Instr). (unwrap_or q i).len) (sym f)

  go : (b : Bool) → nat_le (at + len) (length bytes) ≡ b → (if b then option_map (instr_of len) o else None) ≡ Some i → Fits bytes at i
  go true h f =
      let same : i.len ≡ len = mapped o f in
      let fits : at + len ≤ length bytes = leb-true (at + len) (length bytes) h in
      record { all = omega (arith, same, fits); one = omega (arith, same, one) }
  go false h f = absurd (cc)

decode_fits : (bytes : List ℕ) (at : ℕ) (i : Instr) → decode_at bytes at ≡ Some i → Fits bytes at i
unfolding decode_at
decode_fits bytes at i e = decoded_fits bytes at (len_of (slice_index bytes at)) (op_of (slice_index bytes at) (slice_index bytes (at + 1)) (slice_index bytes (at + 2)) (slice_index bytes (at + 3))) i (len_one (slice_index bytes at)) e

-- ---- the pc

lies_further : (m : Option Obj) (pc len : ℕ) → lies_in m pc ≡ true → (pc - first_pc (literals_in m)) + len ≤ length (bytecodes_in m) → lies_in m (pc + len) ≡ true
lies_further None pc len h fits = absurd (cc)
lies_further (Some (Ptr head slots)) pc len h fits = absurd (cc)
lies_further (Some (Raw head bytes)) pc len h fits = absurd (cc)
lies_further (Some (Method head header literals bytecodes)) pc len h fits =
    let low : first_pc literals ≤ pc = leb-true (first_pc literals) pc (and_left _ _ h) in
    lies_between_by (first_pc literals) (length bytecodes) (pc + len) (omega (arith, low)) (omega (arith, low, fits))
lies_further (Some (Ctx c)) pc len h fits = absurd (cc)

pc_there : (o : Option ℕ) → IsSome o → o ≡ Some (unwrap_or o 0)
pc_there None h = absurd (cc)
pc_there (Some pc) h = refl

pub next_pc_lies : {k : Kept} (i : Instr) → Ready k → instruction_at k ≡ Some i → lies_in (method_of k) (pc_of k + i.len) ≡ true
unfolding instruction_at method_of
next_pc_lies {k} i r e =
    lies_further (method_of k) (pc_of k) i.len (active_lies r (pc_of k) (pc_there (active_context k).pc (active_live r)))
    (decode_fits (bytecodes_of k) (pc_of k - first_pc (literals_of k)) i e).all

-- the instruction has its effect behind the move of the pc
pub obey_leading : {k : Kept} (i : Instr) → Ready k → instruction_at k ≡ Some i → Leading Runs k (exec i.op (set_pc_of k (pc_of k + i.len)))
obey_leading {k} i r e =
    let g = set_pc_goes (pc_of k + i.len) r (next_pc_lies i r e) in
    behind g.leads (exec_leading i.op (ready_behind g))

-- ---- an instruction is there only where a context is active

bare_context : (o : Option Obj) → slots_in o ≡ Some [] → context_in o ≡ None
bare_context None e = refl
bare_context (Some (Ptr head slots)) e = refl
bare_context (Some (Raw head bytes)) e = refl
bare_context (Some (Method head header literals bytecodes)) e = refl
bare_context (Some (Ctx c)) e = absurd (cc)

no_bytes : (at : ℕ) (i : Instr) → decode_at [] at ≡ Some i → ⊥
no_bytes at i e = let f = decode_fits [] at i e in omega (arith, f.all, f.one)

pub instruction_runs : {k : Kept} (i : Instr) → Sound k → instruction_at k ≡ Some i → Runs k
unfolding instruction_at method_of active_context
instruction_runs {k} i s e = go k.rest.active refl where
  blank_there : k.rest.active ≡ None → active_context k ≡ blank_context
  blank_there h = ap (λ a. unwrap_or (context_in (object_at k (unwrap_or a k.rest.nil))) blank_context) h ∙ ap (λ c. unwrap_or c blank_context) (bare_context (object_at k k.rest.nil) s.bare)

  nothing : k.rest.active ≡ None → ⊥
  nothing h = no_bytes (pc_of k - first_pc (literals_of k)) i (ap (λ (c : Context). decode_at (bytecodes_in (object_of k c.method)) (pc_of k - first_pc (literals_of k))) (sym (blank_there h)) ∙ e)

  go : (o : Option ℕ) → k.rest.active ≡ o → Runs k
  go None h = absurd (nothing h)
  go (Some n) h = record { active = ap is_some h }
