-- What a run from the start on reports: its end, that there is no room, or that its sink failed.
use Rattle.std.proofs.Common.{◌≡◌, inl, inr, refl, arith, ap, subst, sym, ◌∙◌, ℕ, ◌<◌, ◌≤◌, List, ◌++◌, Option, Some, None, IsSomeAnd, codes}
use Rattle.cs_shelf.specs.Outside.{Appends, AppendsPart, Rose}
use Rattle.cs_model.specs.State.{Kept}
use Rattle.cs_model.specs.Demand.{words_held}
use Rattle.cs_model.specs.Step as model
use Rattle.cs_acts.specs.declared.act.Full.{Full as Why}
use Rattle.cs_acts.specs.declared.act.Full.TheVariants.{Heap, Stack}
use Rattle.cs_acts.specs.declared.run.Place.{Place}
use Rattle.cs_acts.specs.declared.run.RunEnd.{RunEnd}
use Rattle.cs_acts.specs.declared.run.RunEnd.TheVariants.{Full, WriteFault}
use Rattle.cs_acts.specs.Layout.{Layout}
use Rattle.cs_core.specs.Deep.{IsDeep, most_of, run_of, state_of}
use Rattle.cs_core.specs.Stepped.{IsNext}
use Rattle.cs_model.specs.Report.{report_line, report_of}
use Rattle.cs_core.specs.Running.{IsStackOf, RunCausedByFault, RunFills, RunGives, WritesPart, WritesSince, output_of, place_by}
use Rattle.cs_core.specs.VmParts.{Seen}
use Rattle.cs_cli.specs.Answer.{IsUnderWay, Printed, Reported, answering, report_answer, reported_ending, run_status}
use Rattle.cs_cli.specs.Answer as answer
use Rattle.cs_cli.proofs.Within.{HasEnded, IsWithin, zero_within}
use Rattle.cs_cli.proofs.Writings.{part_of, printed_behind, run_printed, writing}

-- all that was written since the start is the output
all_written : (k : Kept) (n : ℕ) (a b : Option (List ℕ)) → WritesSince (output_of k 0) (output_of k n) a b → Appends a b (output_of k n)
unfolding model.run_by
all_written k n a b w = subst (Appends a b) (sym w.more) w.written

part_written : (k : Kept) (n : ℕ) (a b : Option (List ℕ)) → WritesPart (output_of k 0) (output_of k n) a b → AppendsPart a b (output_of k n)
unfolding model.run_by
part_written k n a b w = subst (AppendsPart a b) (sym w.more) w.written

fills : (k : Kept) (x y : Seen) (a b : Option (List ℕ)) (n : ℕ) (end : RunEnd) (why kind : Why) → end ≡ Full why → why ≡ kind → RunGives k 0 n a b x y end → RunFills k 0 n a b x y kind
fills k x y a b n end why kind is same h = subst (RunGives k 0 n a b x y) (is ∙ ap Full same) h

under_way : (k : Kept) (x y : Seen) (a b : Option (List ℕ)) (n : ℕ) (kind : Why) → RunFills k 0 n a b x y kind → IsNext (state_of k y.steps) → IsUnderWay k n y.steps
under_way k x y a b n kind f next = record { fewer = f.short.fewer; ending = f.short.ending; next = next }

pub heap_reported : (k : Kept) (x y : Seen) (m : Option ℕ) (a b : Option (List ℕ)) (i j n limit : ℕ) (end : RunEnd) (why : Why) → end ≡ Full why → why ≡ Heap → y.stored.memory.limit ≡ limit → RunGives k 0 n a b x y end → Reported k n m limit (writing a b i j) 5
heap_reported k x y m a b i j n limit end why is same within h =
    let f = fills k x y a b n end why Heap is same h in
    answer.heap y.steps f.room.out (under_way k x y a b n Heap f f.room.next) f.room.needs (subst (λ l. l < words_held f.room.out.state) within f.room.words) (inl (refl, all_written k y.steps a b f.written))

-- the pages that the machine has
deep_pages : (k : Kept) (n : ℕ) (m : Option Layout) → IsSomeAnd m (λ laid. IsDeep laid.most k n) → IsSomeAnd (most_of m) (λ most. IsDeep most k n)
deep_pages k n None h = absurd h
deep_pages k n (Some l) h = h

pub stack_reported : (k : Kept) (x y : Seen) (a b c : Option (List ℕ)) (i j l n limit : ℕ) (end : RunEnd) (why : Why) (status : ℕ) → end ≡ Full why → why ≡ Stack → IsStackOf k 0 x → RunGives k 0 n a b x y end → i ≤ j
    → Printed (answering 10 (codes "cogstack: stack\n")) (writing b c j l) status → Reported k n (most_of x.layout) limit (writing a c i l) status
stack_reported k x y a b c i j l n limit end why status is same stack h le printed =
    let f = fills k x y a b n end why Stack is same h in
    let room = f.room stack in
    answer.stack y.steps (under_way k x y a b n Stack f room.next) room.built room.entered (deep_pages k y.steps x.layout room.deep)
    (printed_behind a b c i j l (output_of k y.steps) (codes "cogstack: stack\n") 10 status (all_written k y.steps a b f.written) le printed)

pub fault_reported : (k : Kept) (x y : Seen) (m : Option ℕ) (a b : Option (List ℕ)) (i j n limit : ℕ) (end : RunEnd) → end ≡ WriteFault → RunGives k 0 n a b x y end → RunCausedByFault i j end → Reported k n m limit (writing a b i j) 7
fault_reported k x y m a b i j n limit end is h cause =
    let ran = run_of k n in
    let broken = subst (RunGives k 0 n a b x y) is h in
    answer.ended (λ none. absurd (omega (arith, none)))
    (inr (refl, subst (RunCausedByFault i j) is cause, part_of a b ran.state.run.output (report_of ran.state ran.ending) (part_written k n a b broken.1)))

-- the report of a run that isn't broken off
pub end_reported : (k : Kept) (y : Seen) (m : Option ℕ) (a b c : Option (List ℕ)) (i j l n limit : ℕ) (end : RunEnd) (steps : ℕ) (place : Place) (status : ℕ) → HasEnded k n a b y end → y.stored.memory.limit ≡ limit → steps ≡ y.steps → place ≡ y.place → i ≤ j
    → Printed (report_answer (reported_ending end) steps (place_by place)) (writing b c j l) status → Reported k n m limit (writing a c i l) status
end_reported k y m a b c i j l n limit end steps place status h words count stands le shown =
    let e = reported_ending end in
    let text = codes "\n" ++ report_line e steps (place_by place) in
    answer.ended (zero_within limit e (state_of k n) (writing b c j l) text status (subst (λ w. IsWithin w e (state_of k n)) words h.within) shown)
    (run_printed (run_of k n) e steps (place_by place) a b c i j l (run_status e) text status h.reaches.ended (h.reaches.steps ∙ sym count) (h.reaches.place ∙ sym (ap place_by stands))
    (all_written k n a b h.reaches.written) le refl refl shown)
