-- The report of a run: one line feed and one line.
use Rattle.std.specs.Prelude.{ℕ, if◌then◌else◌, List, ◌++◌, Option, Some, None, codes, decimal}
use Rattle.cs_model.specs.declared.stop.Stop.{Stop}
use Rattle.cs_model.specs.declared.stop.Stop.TheVariants as why
use Rattle.cs_model.specs.Ref.{Ref, named_object}
use Rattle.cs_model.specs.State.{Kept, State, is_nil, active_process}
use Rattle.cs_model.specs.Read.{active_context}
use Rattle.cs_model.specs.Step.{Ending, Steps, Quit, Idle, Stopped}

abbrev pub reason_text : Stop → List ℕ
reason_text why.BadCode = codes "BadCode"
reason_text why.BadLiteral = codes "BadLiteral"
reason_text why.BadField = codes "BadField"
reason_text why.BadStore = codes "BadStore"
reason_text why.StackUnder = codes "StackUnder"
reason_text why.StackOver = codes "StackOver"
reason_text why.BadArgs = codes "BadArgs"
reason_text why.BadSpecial = codes "BadSpecial"
reason_text why.BadProcess = codes "BadProcess"
reason_text why.NotUnderstood = codes "NotUnderstood"
reason_text why.ClassLoop = codes "ClassLoop"
reason_text why.ChainTooLong = codes "ChainTooLong"
reason_text why.BirthLimit = codes "BirthLimit"
reason_text why.NotBuilt = codes "NotBuilt"

abbrev pub ending_text : Ending → List ℕ
ending_text Steps = codes "Steps"
ending_text Quit = codes "Quit"
ending_text Idle = codes "Idle"
ending_text (Stopped reason) = codes "Stopped " ++ reason_text reason

-- where a run stands: the births of the active process and context, and the pc; none where no process is active
pub record Place : Type 0 where
  pub process : Option ℕ
  pub context : Option ℕ
  pub pc : Option ℕ

abbrev pub no_place : Place
no_place = record { process = None; context = None; pc = None }

abbrev pub place_at : Kept → Option Ref → Place
place_at k None = no_place
place_at k (Some p) = if is_nil k p then no_place else record { process = named_object p; context = k.rest.active; pc = (active_context k).pc }

unfoldable pub place_of : Kept → Place
place_of k = place_at k (active_process k)

abbrev pub number_text : Option ℕ → List ℕ
number_text None = codes "-"
number_text (Some n) = decimal n

abbrev pub place_text : Place → List ℕ
place_text p = codes " process=" ++ number_text p.process ++ codes " context=" ++ number_text p.context ++ codes " pc=" ++ number_text p.pc

-- the line of an ending, the completed bytecodes and the place
abbrev pub report_line : Ending → ℕ → Place → List ℕ
report_line e steps p = ending_text e ++ codes " steps=" ++ decimal steps ++ place_text p ++ codes "\n"

-- a line feed ends what the image wrote, and the line comes behind it
unfoldable pub report_of : State → Ending → List ℕ
report_of s e = codes "\n" ++ report_line e s.run.steps (place_of s.kept)
