-- What the program answers to the words behind its name, and what it prints.
use Rattle.std.specs.Prelude.{◌≡◌, ◌⊎◌, ℕ, zero, suc, ◌+◌, ◌<◌, ◌≤◌, ◌==◌, ◌||◌, true, if◌then◌else◌, List, ◌++◌, codes, decimal, length, take, sum_by, Option, Some, None, option_map, Ok, Err, IfSome, IsSomeAnd, unwrap_or}
use Rattle.cs_shelf.specs.Outside.{Appends, AppendsPart, Fault, Rose, read_fault, save_fault}
use Rattle.cs_build.specs.Wholes.{file_bytes}
use Rattle.cs_model.specs.Builder.{text_objects, text_state}
use Rattle.cs_model.specs.BuilderFault.{BuildFault, forms_of, text_fault, text_fault_name}
use Rattle.cs_model.specs.Obj.{Obj, is_context, words_of}
use Rattle.cs_model.specs.State.{Kept, object_at}
use Rattle.cs_model.specs.Image.{image_of}
use Rattle.cs_model.specs.ImageFault.{ImageFault, image_fault_name}
use Rattle.cs_model.specs.Settle.{open_kept}
use Rattle.cs_model.specs.CommandLine.{Command, Run, Build, Inspect, Same, Gen, CommandLine, Options, run_pages, steps_of}
use Rattle.cs_model.specs.Generator.{generated}
use Rattle.cs_model.specs.Demand.{words_held, words_taken}
use Rattle.cs_model.specs.End as ends
use Rattle.cs_model.specs.End.{Out}
use Rattle.cs_model.specs.Built.{is_built_bytecode}
use Rattle.cs_model.specs.Canon.{canon, difference}
use Rattle.cs_model.specs.Print.{print_of}
use Rattle.cs_model.specs.Step as model
use Rattle.cs_model.specs.Step.{bytecode}
use Rattle.cs_model.specs.Report.{Place, report_line, report_of}
use Rattle.cs_acts.specs.declared.run.RunEnd.{RunEnd}
use Rattle.cs_core.specs.Deep.{IsDeep, run_of, state_of}
use Rattle.cs_core.specs.Running.{ending_of}
use Rattle.cs_core.specs.Stepped.{IsNext, Needs, next_turn}
use Rattle.cs_acts.specs.declared.act.Full.TheVariants.{Heap}

-- ---- the outside, before the call and behind it

-- what a shelf tells: the contents at entry, its counts of faults before and behind, and the fault that came last
pub record Reading : Type 0 where
  pub content : List ℕ → Option (List ℕ)
  pub before : ℕ
  pub behind : ℕ
  pub last : Fault

-- a read of this name failed
pub record ReadFailed (shelf : Reading) (name : List ℕ) : Type 0 where
  pub rose : Rose shelf.before shelf.behind
  pub last : shelf.last ≡ read_fault name

-- what a shelf tells of a save: what it had taken since the last start before the call, where it tells that, and what it has taken
-- behind it; and what each name holds then
pub record Saving : Type 0 where
  pub old : Option (List ℕ)
  pub new : Option (List ℕ)
  pub held : List ℕ → Option (List ℕ)

-- what a sink tells: what it had taken and what it has taken behind, and its counts of faults before and behind
pub record Writing : Type 0 where
  pub old : Option (List ℕ)
  pub new : Option (List ℕ)
  pub before : ℕ
  pub behind : ℕ

-- ---- answers

-- a status, and all that is printed
pub record Answer : Type 0 where
  pub status : ℕ
  pub text : List ℕ

abbrev pub answering : ℕ → List ℕ → Answer
answering status text = record { status = status; text = text }

abbrev pub refused_line : Answer
refused_line = answering 2 (codes "cogstack: line\n")

-- with the fault, and its place where it has one
abbrev pub image_text : ImageFault → List ℕ
image_text fault = codes "cogstack: image " ++ image_fault_name fault ++ codes "\n"

abbrev pub refused_image : ImageFault → Answer
refused_image fault = answering 3 (image_text fault)

-- with the fault of a text, and its line where it has one
abbrev pub fault_text : BuildFault → List ℕ
fault_text fault = codes "cogstack: text " ++ text_fault_name fault ++ codes "\n"

abbrev pub refused_text : BuildFault → Answer
refused_text fault = answering 4 (fault_text fault)

abbrev pub read_text : List ℕ → List ℕ
read_text name = codes "cogstack: read " ++ name ++ codes "\n"

abbrev pub failed_read : List ℕ → Answer
failed_read name = answering 6 (read_text name)

abbrev pub no_memory : Answer
no_memory = answering 8 (codes "cogstack: memory\n")

abbrev pub run_status : model.Ending → ℕ
run_status model.Steps = 0
run_status model.Quit = 0
run_status model.Idle = 0
run_status (model.Stopped reason) = 1

-- the ending that is reported, where the model has it
abbrev pub reported_ending : RunEnd → model.Ending
reported_ending end = unwrap_or (ending_of end) model.Steps

-- the report of a run that ended so behind so many steps
abbrev pub report_answer : model.Ending → ℕ → Place → Answer
report_answer e steps place = answering (run_status e) (codes "\n" ++ report_line e steps place)

-- the answer of a run: what it wrote, and the report right behind that
abbrev pub run_answer : model.Ran → Answer
run_answer m = answering (run_status m.ending) (m.state.run.output ++ report_of m.state m.ending)

-- the printed image
abbrev pub inspect_answer : Kept → Answer
inspect_answer k = answering 0 (print_of k)

-- two images are the same, or differ first at a place
abbrev pub sameness_answer : Option ℕ → Answer
sameness_answer None = answering 0 (codes "same\n")
sameness_answer (Some place) = answering 9 (codes "differ " ++ decimal place ++ codes "\n")

abbrev pub same_answer : Kept → Kept → Answer
same_answer k l = sameness_answer (difference (canon k) (canon l))

-- an image of so many objects is built and saved
abbrev pub built_answer : ℕ → Answer
built_answer objects = answering 0 (codes "built objects=" ++ decimal objects ++ codes "\n")

-- ---- what is printed

-- the status of a failed write
abbrev pub write_failed : ℕ
write_failed = 7

-- All of an answer is printed, and nothing else, and its status is given; or the sink failed, and took a first part of it.
abbrev pub Printed : Answer → Writing → ℕ → Type 0
Printed a out status =
    ((status ≡ a.status) × Appends out.old out.new a.text)
    ⊎ ((status ≡ write_failed) × Rose out.before out.behind × AppendsPart out.old out.new a.text)

-- memory is wanted in place of an answer
abbrev pub OrMemory : Writing → ℕ → Type 0 → Type 0
OrMemory out status Other = Printed no_memory out status ⊎ Other

-- ---- images

-- These bytes have the fault. Where the shelf tells a content, it is these bytes.
pub record HasFault (content : Option (List ℕ)) (limit : ℕ) (fault : ImageFault) : Type 0 where
  pub bytes : List ℕ
  pub told : IfSome content (λ held. bytes ≡ held)
  pub is : image_of bytes limit ≡ Err fault

-- An image is read: these bytes describe the state k, before it is opened. Where the shelf tells a content, it is these bytes.
pub record IsImage (content : Option (List ℕ)) (limit : ℕ) (k : Kept) : Type 0 where
  pub bytes : List ℕ
  pub told : IfSome content (λ held. bytes ≡ held)
  pub state : image_of bytes limit ≡ Ok k

-- the file of a line can't be read, or isn't the image of a heap of so many words, or memory is wanted
pub data Refused (file : List ℕ) (limit : ℕ) (shelf : Reading) (out : Writing) (status : ℕ) : Type 0 where
  read : ReadFailed shelf file → Printed (failed_read file) out status → Refused file limit shelf out status
  image : (fault : ImageFault) → HasFault (shelf.content file) limit fault → Printed (refused_image fault) out status → Refused file limit shelf out status
  memory : Printed no_memory out status → Refused file limit shelf out status

-- ---- a run

-- so many of n bytecodes from k are done, and another one is to be done
pub record IsUnderWay (k : Kept) (n done : ℕ) : Type 0 where
  pub fewer : done < n
  pub ending : (run_of k done).ending ≡ model.Steps
  pub next : IsNext (state_of k done)

-- the answers of a run that finds no room then: what it wrote, and for a full stack a line right behind that
abbrev pub full_heap : Kept → ℕ → Answer
full_heap k done = answering 5 (run_of k done).state.run.output

abbrev pub full_stack : Kept → ℕ → Answer
full_stack k done = answering 10 ((run_of k done).state.run.output ++ codes "cogstack: stack\n")

-- what is no context
abbrev pub unless_context : Option Obj → Option Obj
unless_context None = None
unless_context (Some o) = if is_context o then None else Some o

-- the words of the objects that have births below n, without contexts
unfoldable pub object_words_below : ℕ → Kept → ℕ
object_words_below zero k = 0
object_words_below (suc n) k = object_words_below n k + words_taken (unless_context (object_at k n))

abbrev pub object_words_held : Kept → ℕ
object_words_held k = object_words_below k.rest.next k

-- n bytecodes from k are run and reported, and where the status is 0 the objects of the state have no more words than the heap may have,
-- contexts aside; or the state to which the next one leads has more words than the heap's limit, or one on its
-- way has; or it enters a method or block, and the contexts that have begun in the run and await a return need more than 3,900 words for
-- each of the stack pages
pub data Reported (k : Kept) (n : ℕ) (pages : Option ℕ) (limit : ℕ) (out : Writing) (status : ℕ) : Type 0 where
  ended : (status ≡ 0 → object_words_held (state_of k n) ≤ limit) → Printed (run_answer (run_of k n)) out status → Reported k n pages limit out status
  heap : (done : ℕ) (o : Out) → IsUnderWay k n done → Needs (next_turn (run_of k done).state) Heap o → limit < words_held o.state → Printed (full_heap k done) out status → Reported k n pages limit out status
  stack : (done : ℕ) → IsUnderWay k n done → is_built_bytecode (state_of k done) ≡ true → (bytecode (run_of k done).state).out.end ≡ ends.Entered → IsSomeAnd pages (λ most. IsDeep most k done) → Printed (full_stack k done) out status → Reported k n pages limit out status

-- or memory is wanted before the run begins
abbrev pub Begun : Kept → ℕ → Option ℕ → ℕ → Writing → ℕ → Type 0
Begun k n pages limit out status = OrMemory out status (Reported k n pages limit out status)

-- ---- commands

-- an image is run
pub data RunAnswered (file : List ℕ) (o : Options) (shelf : Reading) (out : Writing) (status : ℕ) : Type 0 where
  run_refused : Refused file o.heap shelf out status → RunAnswered file o shelf out status
  ran : (k : Kept) → IsImage (shelf.content file) o.heap k → Begun (open_kept k) o.steps (Some (run_pages o)) o.heap out status → RunAnswered file o shelf out status

-- an image is printed
abbrev pub Inspected : Kept → Writing → ℕ → Type 0
Inspected k out status = OrMemory out status (Printed (inspect_answer k) out status)

pub data InspectAnswered (file : List ℕ) (o : Options) (shelf : Reading) (out : Writing) (status : ℕ) : Type 0 where
  inspect_refused : Refused file o.heap shelf out status → InspectAnswered file o shelf out status
  printed : (k : Kept) → IsImage (shelf.content file) o.heap k → Inspected k out status → InspectAnswered file o shelf out status

-- two images are compared
abbrev pub Compared : Kept → Kept → Writing → ℕ → Type 0
Compared k l out status = OrMemory out status (Printed (same_answer k l) out status)

-- the image of a state is compared with that of another file, which is read and loaded only then
pub data OtherAnswered (k : Kept) (other : List ℕ) (limit : ℕ) (shelf : Reading) (out : Writing) (status : ℕ) : Type 0 where
  other_refused : Refused other limit shelf out status → OtherAnswered k other limit shelf out status
  compared : (l : Kept) → IsImage (shelf.content other) limit l → Compared k l out status → OtherAnswered k other limit shelf out status

pub data SameAnswered (file : List ℕ) (o : Options) (shelf : Reading) (out : Writing) (status : ℕ) : Type 0 where
  same_refused : Refused file o.heap shelf out status → SameAnswered file o shelf out status
  first_loaded : (k : Kept) → IsImage (shelf.content file) o.heap k → IsSomeAnd o.other (λ other. OtherAnswered k other o.heap shelf out status)
      → SameAnswered file o shelf out status

-- ---- building

-- These bytes are a text with the fault. Where the shelf tells a content, it is these bytes.
pub record HasTextFault (content : Option (List ℕ)) (fault : BuildFault) : Type 0 where
  pub bytes : List ℕ
  pub told : IfSome content (λ held. bytes ≡ held)
  pub is : text_fault bytes ≡ Some fault

-- A text without faults is read. Where the shelf tells a content, it is this text.
pub record IsText (content : Option (List ℕ)) (text : List ℕ) : Type 0 where
  pub told : IfSome content (λ held. text ≡ held)
  pub none : text_fault text ≡ None

-- The file that is built of a text: in each heap with room for the text's objects its image is the state that the text describes.
pub record IsBuilt (text bytes : List ℕ) : Type 0 where
  pub file : bytes ≡ file_bytes (forms_of text)
  pub image : (limit : ℕ) → sum_by words_of (text_objects (forms_of text)) ≤ limit → image_of bytes limit ≡ Ok (text_state (forms_of text))

-- A call of the shelf failed while bytes were saved under a name: it took the first of them, and nothing is printed.
pub record SaveFailed (name bytes : List ℕ) (shelf : Reading) (saving : Saving) (out : Writing) (status : ℕ) : Type 0 where
  pub status_is : status ≡ write_failed
  pub rose : Rose shelf.before shelf.behind
  pub last : shelf.last ≡ save_fault name
  pub count : ℕ
  pub part : saving.new ≡ option_map (λ (taken : List ℕ). take count bytes) saving.old
  pub nothing : out.new ≡ out.old

-- bytes are saved under a name before the answer is printed
pub data Saved (name bytes : List ℕ) (a : Answer) (shelf : Reading) (saving : Saving) (out : Writing) (status : ℕ) : Type 0 where
  held : saving.held name ≡ option_map (λ (taken : List ℕ). bytes) saving.old → Printed a out status → Saved name bytes a shelf saving out status
  unsaved : SaveFailed name bytes shelf saving out status → Saved name bytes a shelf saving out status

abbrev pub BuildSaved : Option (List ℕ) → List ℕ → List ℕ → Reading → Saving → Writing → ℕ → Type 0
BuildSaved save text bytes shelf saving out status =
    IsSomeAnd save (λ name. Saved name bytes (built_answer (length (text_objects (forms_of text)))) shelf saving out status)

-- an image is built of a text
pub data BuildAnswered (file : List ℕ) (o : Options) (shelf : Reading) (saving : Saving) (out : Writing) (status : ℕ) : Type 0 where
  text_unread : ReadFailed shelf file → Printed (failed_read file) out status → BuildAnswered file o shelf saving out status
  text_refused : (fault : BuildFault) → HasTextFault (shelf.content file) fault → Printed (refused_text fault) out status → BuildAnswered file o shelf saving out status
  build_memory : Printed no_memory out status → BuildAnswered file o shelf saving out status
  image_built : (text bytes : List ℕ) → IsText (shelf.content file) text → IsBuilt text bytes → BuildSaved o.save text bytes shelf saving out status
      → BuildAnswered file o shelf saving out status

-- ---- generated images

-- the first line of what is printed of a generated image of so many objects
abbrev pub generated_line : ℕ → ℕ → List ℕ
generated_line k objects = codes "gen " ++ decimal k ++ codes " objects=" ++ decimal objects ++ codes "\n"

-- a first line is printed, and behind it a run is reported; or the sink failed before that, and took a first part of the line
pub data Headed (line : List ℕ) (k : Kept) (n : ℕ) (pages : Option ℕ) (limit : ℕ) (out : Writing) (status : ℕ) : Type 0 where
  headed : (written : Option (List ℕ)) (faults : ℕ) → Appends out.old written line → out.before ≤ faults
      → Reported k n pages limit (record { old = written; new = out.new; before = faults; behind = out.behind }) status → Headed line k n pages limit out status
  headless : status ≡ write_failed → Rose out.before out.behind → AppendsPart out.old out.new line → Headed line k n pages limit out status

-- or memory is wanted before anything is printed
abbrev pub BegunBehind : List ℕ → Kept → ℕ → Option ℕ → ℕ → Writing → ℕ → Type 0
BegunBehind line k n pages limit out status = OrMemory out status (Headed line k n pages limit out status)

-- The image of a generated text is run. Where the text has a fault, or the image is none of a heap of so many words, that is told.
pub data GenAnswered (k : ℕ) (o : Options) (out : Writing) (status : ℕ) : Type 0 where
  gen_memory : Printed no_memory out status → GenAnswered k o out status
  gen_text_refused : (fault : BuildFault) → text_fault (generated k) ≡ Some fault → Printed (refused_text fault) out status → GenAnswered k o out status
  gen_refused : (bytes : List ℕ) (fault : ImageFault) → IsBuilt (generated k) bytes → image_of bytes o.heap ≡ Err fault → Printed (refused_image fault) out status
      → GenAnswered k o out status
  gen_ran : (bytes : List ℕ) (s : Kept) → IsBuilt (generated k) bytes → image_of bytes o.heap ≡ Ok s
      → BegunBehind (generated_line k (length (text_objects (forms_of (generated k))))) (open_kept s) (steps_of (Gen k) o) (Some (run_pages o)) o.heap out status
      → GenAnswered k o out status

-- what is answered to each command
abbrev pub CommandAnswered : Command → List ℕ → Options → Reading → Saving → Writing → ℕ → Type 0
CommandAnswered Run file o shelf saving out status = RunAnswered file o shelf out status
CommandAnswered Build file o shelf saving out status = BuildAnswered file o shelf saving out status
CommandAnswered Inspect file o shelf saving out status = InspectAnswered file o shelf out status
CommandAnswered Same file o shelf saving out status = SameAnswered file o shelf out status
CommandAnswered (Gen k) file o shelf saving out status = GenAnswered k o out status

-- the name under which a command saves, if it comes to that: its status is then 0, or that of a failed write
abbrev pub saves_as : Command → Options → Option (List ℕ)
saves_as Run o = None
saves_as Build o = o.save
saves_as Inspect o = None
saves_as Same o = None
saves_as (Gen k) o = None

abbrev pub saved_name : Command → Options → ℕ → Option (List ℕ)
saved_name command o status = if status == 0 || status == write_failed then saves_as command o else None

abbrev pub name_saved : Option CommandLine → ℕ → Option (List ℕ)
name_saved None status = None
name_saved (Some line) status = saved_name line.command line.options status

-- ---- the call

-- a line that isn't taken is refused
abbrev pub LineAnswered : Option CommandLine → Reading → Saving → Writing → ℕ → Type 0
LineAnswered None shelf saving out status = Printed refused_line out status
LineAnswered (Some line) shelf saving out status = CommandAnswered line.command line.file line.options shelf saving out status

-- What the call answers to its words. Memory may be wanted while the line is read; all else is as said.
abbrev pub Answered : Option CommandLine → Reading → Saving → Writing → ℕ → Type 0
Answered line shelf saving out status = OrMemory out status (LineAnswered line shelf saving out status)
