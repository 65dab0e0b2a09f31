-- Primitives on the run: snapshots, the end, the clock, the timer, output and input. They see the whole state.
use Rattle.std.specs.Prelude.{ℕ, ℤ, ◌==◌, ◌||◌, true, false, int_lt, nat_lt, if◌then◌else◌, List, [], ◌∷◌, ◌++◌, Option, Some, None}
use Rattle.cs_model.specs.Ref.{Ref, Small, small_of, small_index}
use Rattle.cs_model.specs.State.{Kept, Run, State, Timer, object_of, is_nil, active_process}
use Rattle.cs_model.specs.Operation.{store_of, nil_of}
use Rattle.cs_model.specs.Number.{boolean}
use Rattle.cs_model.specs.Process.{signal}
use Rattle.cs_model.specs.PrimAnswer.{answer, receiver, argument}
use Rattle.cs_model.specs.PrimObject.{byte_string, small_count}
use Rattle.cs_model.specs.PrimProcess.{is_semaphore, answered}
use Rattle.cs_model.specs.Settle.{settle_kept}
use Rattle.cs_model.specs.End.{End, Out, Count, out, no_count, given}
use Rattle.cs_model.specs.End as ends

-- What a primitive gives that sees the whole state: an end, the kept parts and the run parts that are left, the count, and the
-- state that is to be saved, if there is one.
pub record Result : Type 0 where
  pub out : Out
  pub run : Run
  pub snapshot : Option Kept

abbrev pub result : Out → Run → Result
result o r = record { out = o; run = r; snapshot = None }

abbrev pub fails : State → Result
fails s = result (out ends.Fail s.kept) s.run

abbrev pub counted : State → ℕ → ℕ → Result → Result
counted s wanted args body = if wanted == args then body else fails s

-- ---- 97: the saved state has true as the answer, and the run goes on with false; the active process's suspendedContext
-- becomes nil

abbrev pub forget : Kept → Option Ref → Kept
forget k None = k
forget k (Some p) = if is_nil k p then k else store_of k p 1 (nil_of k)

-- the active process keeps no context while it runs on
unfoldable pub forgotten : Kept → Kept
forgotten k = forget k (active_process k)

abbrev pub with_end : End → Out → Out
with_end e o = record o { end = e }

unfoldable pub snapshot_prim : State → ℕ → Result
snapshot_prim s args = counted s 0 args
    (if s.run.snapping then
    record {
      out = with_end ends.Snapshot (answer (forgotten s.kept) 0 (boolean s.kept false));
      run = s.run;
      snapshot = Some (settle_kept (answer s.kept 0 (boolean s.kept true)).state);
    }
    else fails s)

-- ---- 113: the run ends, and the receiver is answered

unfoldable pub quit_prim : State → ℕ → Result
quit_prim s args = counted s 0 args (result (with_end ends.Quit (answer s.kept 0 (receiver s.kept 0))) s.run)

-- ---- 135: the clock; 136: the timer

unfoldable pub clock_prim : State → ℕ → Result
clock_prim s args = counted s 0 args (result (answer s.kept 0 (Small s.run.clock)) s.run)

abbrev pub with_timer : Option Timer → Run → Run
with_timer timer r = record r { timer = timer }

-- a semaphore is signalled at once where the clock isn't below the moment, and then the timer is off
abbrev pub arm : State → Kept → Ref → ℤ → Result
arm s k semaphore moment =
    if is_nil s.kept semaphore then result (out ends.Answer k) (with_timer None s.run) else
    if int_lt s.run.clock moment then result (out ends.Answer k) (with_timer (Some (record { semaphore = semaphore; moment = moment })) s.run) else
    result (answered (signal k semaphore)) (with_timer None s.run)

unfoldable pub timer_prim : State → ℕ → Result
timer_prim s args = counted s 2 args
    (given (small_of (argument s.kept 2 1)) (fails s) (λ moment.
    if is_nil s.kept (argument s.kept 2 0) || is_semaphore s.kept (argument s.kept 2 0) then
    arm s (answer s.kept 2 (receiver s.kept 2)).state (argument s.kept 2 0) moment
    else fails s))

-- ---- 900: output; 901: input

abbrev pub small_byte : Option ℕ → Option (List ℕ)
small_byte None = None
small_byte (Some n) = if nat_lt n 256 then Some (n ∷ []) else None

abbrev pub or_bytes : Option (List ℕ) → Option (List ℕ) → Option (List ℕ)
or_bytes None other = other
or_bytes (Some bytes) other = Some bytes

-- the bytes of a byte object, or the byte that a SmallInteger from 0 to 255 is
unfoldable pub bytes_to_write : Kept → Ref → Option (List ℕ)
bytes_to_write k x = or_bytes (byte_string (object_of k x)) (small_byte (small_index x))

abbrev pub written : List ℕ → Run → Run
written bytes r = record r { output = r.output ++ bytes }

unfoldable pub write_prim : State → ℕ → Result
write_prim s args = counted s 1 args
    (given (bytes_to_write s.kept (argument s.kept 1 0)) (fails s) (λ bytes. result (answer s.kept 1 (receiver s.kept 1)) (written bytes s.run)))

abbrev pub with_input : List ℕ → Run → Run
with_input input r = record r { input = input }

abbrev pub read_from : State → List ℕ → Result
read_from s [] = result (answer s.kept 0 (nil_of s.kept)) s.run
read_from s (b ∷ input) = result (answer s.kept 0 (small_count b)) (with_input input s.run)

unfoldable pub read_prim : State → ℕ → Result
read_prim s args = counted s 0 args (read_from s s.run.input)
