use Rattle.std.proofs.Common.{◌≡◌, ◌≤◌, ◌+◌, true, false, [], length, ap, sym, ◌∙◌, arith}
use Rattle.std.specs.Prelude.{None, Some}
use Rattle.std.proofs.lemmas.Result.{err_from_is_err_and}
use Rattle.cs_model.specs.BuilderText.{forms_from}
use Rattle.cs_model.specs.BuilderFault as fault
use Rattle.cs_model.specs.BuilderFault.{is_open, lines_fault, mention_fault, text_fault}
use Rattle.cs_build.specs.Lines.{IsRead, forms_by, lines_by}
use Rattle.cs_build.specs.Narrow.{word_texts}
use Rattle.cs_build.proofs.TextLemmas.{all-said, allowed, fault-bad, fault-judged, fault-mention, fault-open, tells-as, tells-judged, too-long, too-many-classes, too-many-lines}
use Rattle.cs_build.proofs.text.read_text.Goals as goal
use Rattle.cs_build.proofs.text.read_text.Goals.{then-len-gt-MOST_LINES-via-then-len-gt-MOST_LINES, then-len-gt-MOST_LINES-via-else-len-gt-MOST_LINES+then-class_lines-gt-MOST_CLASSES}

pub returns-then-text-gt-MOST_BYTES-clause-fault : goal.returns-then-text-gt-MOST_BYTES-clause-fault
returns-then-text-gt-MOST_BYTES-clause-fault c = too-long c.args.text.now (omega (arith, c.if-text-gt-MOST_BYTES.true))

pub returns-then-len-gt-MOST_LINES-clause-fault : goal.returns-then-len-gt-MOST_LINES-clause-fault
returns-then-len-gt-MOST_LINES-clause-fault c = elim c.then-len-gt-MOST_LINES.branch [
  | then-len-gt-MOST_LINES-via-then-len-gt-MOST_LINES w ↦
      too-many-lines c.args.text.now c.in_ok-lines.lines.items c.in_ok-lines.ensures
      (omega (arith, w.if-len-gt-MOST_LINES.true, c.len.ensures, c.in_ok-lines.lines.ok.0))
  | then-len-gt-MOST_LINES-via-else-len-gt-MOST_LINES+then-class_lines-gt-MOST_CLASSES w ↦
      too-many-classes c.args.text.now c.in_ok-lines.lines.items w.class_lines.result c.in_ok-lines.ensures
      (rw w.deref.ensures.value at w.class_lines.ensures) (omega (arith, w.if-class_lines-gt-MOST_CLASSES.true))
]

pub returns-in_err-tables-clause-fault : goal.returns-in_err-tables-clause-fault
returns-in_err-tables-clause-fault c =
    let few : length c.in_ok-lines.lines.items ≤ 262144 = omega (arith, c.if-len-gt-MOST_LINES.false, c.len.ensures, c.in_ok-lines.lines.ok.0) in
    let sized = allowed c.args.text.now c.in_ok-lines.lines.items c.class_lines.result (omega (arith, c.if-text-gt-MOST_BYTES.false)) c.in_ok-lines.ensures few
    (rw c.deref.ensures.value at c.class_lines.ensures) (omega (arith, c.if-class_lines-gt-MOST_CLASSES.false)) in
    let read : IsRead (forms_from false 1 (word_texts c.in_ok-lines.lines.items)) c.in_ok-reading.reading = rw c.deref-2.ensures.value at c.in_ok-reading.ensures.read in
    let p = err_from_is_err_and c.from_residual-in_err-tables.result c.from_residual-in_err-tables.ensures.1 in
    rw (p.1, p.2) (tells-as (lines_fault [] (lines_by c.in_ok-reading.reading.lines.items)) (text_fault c.args.text.now) _
    (λ x found. sized ∙ fault-judged c.args.text.now c.in_ok-lines.lines.items c.in_ok-reading.reading x c.in_ok-lines.ensures read found)
    (rw c.deref-3.ensures.value at c.in_err-tables.ensures.fault))

pub returns-in-Some-clause-fault : goal.returns-in-Some-clause-fault
returns-in-Some-clause-fault c =
    let few : length c.in_ok-lines.lines.items ≤ 262144 = omega (arith, c.if-len-gt-MOST_LINES.false, c.len.ensures, c.in_ok-lines.lines.ok.0) in
    let sized = allowed c.args.text.now c.in_ok-lines.lines.items c.class_lines.result (omega (arith, c.if-text-gt-MOST_BYTES.false)) c.in_ok-lines.ensures few
    (rw c.deref.ensures.value at c.class_lines.ensures) (omega (arith, c.if-class_lines-gt-MOST_CLASSES.false)) in
    let read : IsRead (forms_from false 1 (word_texts c.in_ok-lines.lines.items)) c.in_ok-reading.reading = rw c.deref-2.ensures.value at c.in_ok-reading.ensures.read in
    sized ∙ fault-bad c.args.text.now c.in_ok-lines.lines.items c.in_ok-reading.reading c.in-Some.line c.in_ok-lines.ensures read c.in-Some.is
    (rw c.deref-3.ensures.value at c.in_ok-tables.ensures.none)

pub returns-then-tables-clause-fault : goal.returns-then-tables-clause-fault
returns-then-tables-clause-fault c =
    let few : length c.in_ok-lines.lines.items ≤ 262144 = omega (arith, c.if-len-gt-MOST_LINES.false, c.len.ensures, c.in_ok-lines.lines.ok.0) in
    let sized = allowed c.args.text.now c.in_ok-lines.lines.items c.class_lines.result (omega (arith, c.if-text-gt-MOST_BYTES.false)) c.in_ok-lines.ensures few
    (rw c.deref.ensures.value at c.class_lines.ensures) (omega (arith, c.if-class_lines-gt-MOST_CLASSES.false)) in
    let read : IsRead (forms_from false 1 (word_texts c.in_ok-lines.lines.items)) c.in_ok-reading.reading = rw c.deref-2.ensures.value at c.in_ok-reading.ensures.read in
    let said = all-said c.args.text.now c.in_ok-lines.lines.items c.in_ok-reading.reading c.in_ok-lines.ensures read c.in_default.is
    (rw c.deref-3.ensures.value at c.in_ok-tables.ensures.none) in
    let open_end : is_open (forms_by c.in_ok-reading.reading.lines.items) ≡ true =
    ap (λ ls. is_open (forms_by ls)) (sym c.deref-3.ensures.value) ∙ sym c.in_ok-tables.ensures.tables.open_end ∙ c.if-tables.true in
    let count : length c.in_ok-lines.lines.items ≡ c.len-then-tables.result = omega (arith, c.len-then-tables.ensures, c.in_ok-lines.lines.ok.0) in
    sized ∙ fault-open c.args.text.now c.in_ok-lines.lines.items c.in_ok-reading.reading.lines.items c.in_ok-lines.ensures said open_end
    ∙ ap (λ n. Some (fault.BadLine (n + 1))) count

pub returns-in_err-judge_mentions-clause-fault : goal.returns-in_err-judge_mentions-clause-fault
returns-in_err-judge_mentions-clause-fault c =
    let few : length c.in_ok-lines.lines.items ≤ 262144 = omega (arith, c.if-len-gt-MOST_LINES.false, c.len.ensures, c.in_ok-lines.lines.ok.0) in
    let sized = allowed c.args.text.now c.in_ok-lines.lines.items c.class_lines.result (omega (arith, c.if-text-gt-MOST_BYTES.false)) c.in_ok-lines.ensures few
    (rw c.deref.ensures.value at c.class_lines.ensures) (omega (arith, c.if-class_lines-gt-MOST_CLASSES.false)) in
    let read : IsRead (forms_from false 1 (word_texts c.in_ok-lines.lines.items)) c.in_ok-reading.reading = rw c.deref-2.ensures.value at c.in_ok-reading.ensures.read in
    let said = all-said c.args.text.now c.in_ok-lines.lines.items c.in_ok-reading.reading c.in_ok-lines.ensures read c.in_default.is
    (rw c.deref-3.ensures.value at c.in_ok-tables.ensures.none) in
    let closed : is_open (forms_by c.in_ok-reading.reading.lines.items) ≡ false =
    ap (λ ls. is_open (forms_by ls)) (sym c.deref-3.ensures.value) ∙ sym c.in_ok-tables.ensures.tables.open_end ∙ c.if-tables.false in
    let p = err_from_is_err_and c.from_residual-in_err-judge_mentions.result c.from_residual-in_err-judge_mentions.ensures.1 in
    rw (p.1, p.2) (tells-judged (mention_fault (forms_by c.deref-4.result.now) (lines_by c.deref-4.result.now)) (text_fault c.args.text.now) _
    (sized ∙ fault-mention c.args.text.now c.in_ok-reading.reading.lines.items said closed
    ∙ ap (λ ls. mention_fault (forms_by ls) (lines_by ls)) (sym c.deref-4.ensures.value))
    c.in_err-judge_mentions.ensures)

pub returns-clause-none : goal.returns-clause-none
returns-clause-none c =
    let few : length c.in_ok-lines.lines.items ≤ 262144 = omega (arith, c.if-len-gt-MOST_LINES.false, c.len.ensures, c.in_ok-lines.lines.ok.0) in
    let sized = allowed c.args.text.now c.in_ok-lines.lines.items c.class_lines.result (omega (arith, c.if-text-gt-MOST_BYTES.false)) c.in_ok-lines.ensures few
    (rw c.deref.ensures.value at c.class_lines.ensures) (omega (arith, c.if-class_lines-gt-MOST_CLASSES.false)) in
    let read : IsRead (forms_from false 1 (word_texts c.in_ok-lines.lines.items)) c.in_ok-reading.reading = rw c.deref-2.ensures.value at c.in_ok-reading.ensures.read in
    let said = all-said c.args.text.now c.in_ok-lines.lines.items c.in_ok-reading.reading c.in_ok-lines.ensures read c.in_default.is
    (rw c.deref-3.ensures.value at c.in_ok-tables.ensures.none) in
    let closed : is_open (forms_by c.in_ok-reading.reading.lines.items) ≡ false =
    ap (λ ls. is_open (forms_by ls)) (sym c.deref-3.ensures.value) ∙ sym c.in_ok-tables.ensures.tables.open_end ∙ c.if-tables.false in
    let known : mention_fault (forms_by c.in_ok-reading.reading.lines.items) (lines_by c.in_ok-reading.reading.lines.items) ≡ None =
    rw c.deref-4.ensures.value at c.in_ok-judge_mentions.ensures in
    sized ∙ fault-mention c.args.text.now c.in_ok-reading.reading.lines.items said closed ∙ known

pub returns-clause-forms : goal.returns-clause-forms
returns-clause-forms c =
    let read : IsRead (forms_from false 1 (word_texts c.in_ok-lines.lines.items)) c.in_ok-reading.reading = rw c.deref-2.ensures.value at c.in_ok-reading.ensures.read in
    let said = all-said c.args.text.now c.in_ok-lines.lines.items c.in_ok-reading.reading c.in_ok-lines.ensures read c.in_default.is
    (rw c.deref-3.ensures.value at c.in_ok-tables.ensures.none) in
    c.in_ok-forms.ensures ∙ sym said.forms
