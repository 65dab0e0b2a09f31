-- The turn that is next is that of a state that is kept.
use Rattle.std.proofs.Common.{◌≡◌, ◌+◌, ◌&&◌, not, Bool, sym, ap, ap₂, ◌∙◌, nat_lt, Option, None, is_some, option_map}
use Rattle.cs_model.specs.declared.instruction.Instr.{Instr}
use Rattle.cs_model.specs.Ref.{Ref}
use Rattle.cs_model.specs.State.{IsHeld, Kept, Rest, Run}
use Rattle.cs_model.specs.Keeps.{Keeps}
use Rattle.cs_model.specs.Alike.{Alike}
use Rattle.cs_model.specs.End.{Out, given}
use Rattle.cs_model.specs.Exec.{exec}
use Rattle.cs_model.specs.Operation.{set_pc_of}
use Rattle.cs_model.specs.Read.{pc_of}
use Rattle.cs_model.specs.Return.{back}
use Rattle.cs_model.specs.Step.{birth_limit, instruction_at, with_kept}
use Rattle.cs_model.proofs.Agreeing.{instruction_at-kept, is_idle-kept}
use Rattle.cs_model.proofs.Building.{is_built_bytecode_same}
use Rattle.cs_model.proofs.Combining.{end_same}
use Rattle.cs_model.proofs.Executing.{exec_alike}
use Rattle.cs_model.proofs.Operating.{set_pc_moved}
use Rattle.cs_model.proofs.Reading.{pc_same}
use Rattle.cs_model.proofs.Same.{Any, SameOption, none, some, equal, value}
use Rattle.cs_model.proofs.Stepping.{bytecode_alike, instruction_at_same, return_in_same}
use Rattle.cs_core.specs.Stepped.{IsNext, can_begin, next_turn, told_by}
use Rattle.cs_core.proofs.Carrying.{IsSame, TellsToo, alike_turns, tells_nothing, tells_return}

pub next_kept : (v m : Kept) → Keeps v m → IsNext v → IsNext m
next_kept v m k h = record { births = ap (λ (r : Rest). nat_lt birth_limit r.next) (sym k.rest) ∙ h.births; active = is_idle-kept v m k ∙ h.active }

pub begin_kept : (v m : Kept) → Keeps v m → can_begin m ≡ can_begin v
begin_kept v m k = ap₂ (λ (r : Rest) (o : Option Instr). not (nat_lt birth_limit r.next) && is_some o) (sym k.rest) (instruction_at-kept v m k)

-- ---- the return that it makes

tells_alike : {v : Kept} {a b : Out} → Alike v a b → TellsToo (told_by a) (told_by b)
tells_alike {a = a} {b = b} h = go (return_in_same a.state (end_same h))
  where
    go : {o p : Option (Ref × Bool)} → SameOption (λ (p : Ref × Bool). IsHeld a.state p.0) o p → TellsToo (option_map (λ p. back a.state p.0 p.1) o) (option_map (λ p. back b.state p.0 p.1) p)
    go none = tells_nothing None
    go (some p g) = tells_return h.keeps p.0 p.1 g

next_tells : {v m : Kept} → Keeps v m
    → TellsToo (given (instruction_at v) None (λ i. told_by (exec i.op (set_pc_of v (pc_of v + i.len))))) (given (instruction_at m) None (λ i. told_by (exec i.op (set_pc_of m (pc_of m + i.len)))))
next_tells {v} {m} k = go (instruction_at_same k)
  where
    go : {o p : Option Instr} → SameOption Any o p → TellsToo (given o None (λ i. told_by (exec i.op (set_pc_of v (pc_of v + i.len))))) (given p None (λ i. told_by (exec i.op (set_pc_of m (pc_of m + i.len)))))
    go none = tells_nothing None
    go (some i g) = tells_alike (exec_alike i.op (set_pc_moved k (value (λ pc. pc + i.len) (pc_same k))).keeps)

pub next_same : (v m : Kept) (r : Run) → Keeps v m → IsSame (next_turn (with_kept v r)) (next_turn (with_kept m r))
next_same v m r k = alike_turns v (next_turn (with_kept v r)) (next_turn (with_kept m r)) (equal (is_built_bytecode_same k)) (bytecode_alike k r) (next_tells k)
