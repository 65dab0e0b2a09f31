-- Texts that are written one behind another, and the answer of a run.
use Rattle.std.proofs.Common.{◌≡◌, inl, inr, ℕ, ◌+◌, ◌≤◌, List, ◌++◌, take, length, length-append, Option, Result, Ok, Err, OnOk, OnErr, sym, ap, ◌∙◌, subst, arith, codes}
use Rattle.std.proofs.Math.Seq.{take-append-add}
use Rattle.std.proofs.lemmas.List.{take-append-le}
use Rattle.cs_shelf.specs.Outside.{Appends, AppendsPart, Rose}
use Rattle.cs_shelf.proofs.Appending.{appends_then}
use Rattle.cs_model.specs.Step.{Ending, Ran}
use Rattle.cs_model.specs.Report.{Place, report_line, place_of, report_of}
use Rattle.cs_cli.specs.Answer.{Answer, Printed, Writing, answering, run_answer, run_status}

pub rose_from : (a b c : ℕ) → a ≤ b → Rose b c → Rose a c
rose_from a b c h rose = omega (arith, h, rose)

-- a first part of the text that comes behind another one, written whole
pub part_then : (a b c : Option (List ℕ)) (xs ys : List ℕ) → Appends a b xs → AppendsPart b c ys → AppendsPart a c (xs ++ ys)
part_then a b c xs ys h (n, short, k) =
    let P : List ℕ → Type 0 = λ zs. Appends a c zs in
    (length xs + n, omega (arith, length-append xs ys, short), subst P (sym (take-append-add xs ys n)) (appends_then a b c xs (take n ys) h k))

-- a first part of a text is one of a longer text
pub part_of : (a b : Option (List ℕ)) (xs ys : List ℕ) → AppendsPart a b xs → AppendsPart a b (xs ++ ys)
part_of a b xs ys (n, short, h) =
    let P : List ℕ → Type 0 = λ zs. Appends a b zs in
    (n, omega (arith, length-append xs ys, short), subst P (sym (take-append-le n xs ys (omega (arith, short)))) h)

abbrev pub writing : Option (List ℕ) → Option (List ℕ) → ℕ → ℕ → Writing
writing old new before behind = record { old = old; new = new; before = before; behind = behind }

-- an answer that is printed behind a text
pub printed_behind : (a b c : Option (List ℕ)) (i j k : ℕ) (xs ys : List ℕ) (answer status : ℕ) → Appends a b xs → i ≤ j
    → Printed (answering answer ys) (writing b c j k) status → Printed (answering answer (xs ++ ys)) (writing a c i k) status
printed_behind a b c i j k xs ys answer status h le (inl (e, t)) = inl (e, appends_then a b c xs ys h t)
printed_behind a b c i j k xs ys answer status h le (inr (e, rose, part)) = inr (e, rose_from i j k le rose, part_then a b c xs ys h part)

-- the answer of a run by its ending, its steps and its place
pub run_answer-by : (m : Ran) (e : Ending) (steps : ℕ) (p : Place) → m.ending ≡ e → m.state.run.steps ≡ steps → place_of m.state.kept ≡ p
    → answering (run_status e) (m.state.run.output ++ (codes "\n" ++ report_line e steps p)) ≡ run_answer m
unfolding report_of
run_answer-by m e steps p he hs hp =
    let f : Ending → ℕ → Place → Answer = λ e s q. answering (run_status e) (m.state.run.output ++ (codes "\n" ++ report_line e s q)) in
    sym (ap (λ x. f x m.state.run.steps (place_of m.state.kept)) he ∙ ap (λ s. f e s (place_of m.state.kept)) hs ∙ ap (λ q. f e steps q) hp)

-- a run whose report is printed behind what it wrote
pub run_printed : (m : Ran) (e : Ending) (steps : ℕ) (p : Place) (a b c : Option (List ℕ)) (i j k : ℕ) (answer : ℕ) (text : List ℕ) (status : ℕ)
    → m.ending ≡ e → m.state.run.steps ≡ steps → place_of m.state.kept ≡ p → Appends a b m.state.run.output → i ≤ j
    → answer ≡ run_status e → text ≡ codes "\n" ++ report_line e steps p → Printed (answering answer text) (writing b c j k) status
    → Printed (run_answer m) (writing a c i k) status
run_printed m e steps p a b c i j k answer text status he hs hp h le same_status same_text printed =
    let P : Answer → Type 0 = λ x. Printed x (writing a c i k) status in
    let Q : ℕ → Type 0 = λ s. Printed (answering s text) (writing b c j k) status in
    let R : List ℕ → Type 0 = λ t. Printed (answering (run_status e) t) (writing b c j k) status in
    subst P (run_answer-by m e steps p he hs hp)
    (printed_behind a b c i j k m.state.run.output (codes "\n" ++ report_line e steps p) (run_status e) status h le (subst R same_text (subst Q same_status printed)))

-- what holds where a result is Ok, or an Err
pub on_err : {X E : Type 0} {P : Type 0} (r : Result X E) → P → OnErr r P
on_err (Ok x) h = tt
on_err (Err e) h = h

pub on_ok-map : {X E : Type 0} {P Q : Type 0} (r : Result X E) → (P → Q) → OnOk r P → OnOk r Q
on_ok-map (Ok x) f h = f h
on_ok-map (Err e) f h = tt

pub on_err-map : {X E : Type 0} {P Q : Type 0} (r : Result X E) → (P → Q) → OnErr r P → OnErr r Q
on_err-map (Ok x) f h = tt
on_err-map (Err e) f h = f h
