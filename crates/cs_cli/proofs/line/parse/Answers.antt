use Rattle.std.proofs.Common.{◌≡◌, ◌∙◌, inl, inr, ℕ, List, Option, None, Result, IfOk, [], map, option_map, string_bytes, ap, sym, subst}
use Rattle.std.proofs.lemmas.Result.{IfOk-weaker}
use Rattle.clap.specs.Words.{found_of, kind_of, is_simple, matches_of}
use Rattle.clap.specs.Faults.{fault_of, is_simple_and_free}
use Rattle.clap.specs.Kinds.{HasKind}
use Rattle.clap.specs.declared.error.Error.{Error}
use Rattle.clap.specs.declared.error.kind.ErrorKind.TheVariants as kind
use Rattle.cs_cli.specs.Possible.{line_of}
use Rattle.cs_cli.specs.LineApp.{line_app}
use Rattle.cs_cli.specs.Meaning.{line_by}
use Rattle.cs_cli.specs.declared.line.Line.{Line}
use Rattle.cs_cli.proofs.Rules.{free, simple}
use Rattle.cs_cli.proofs.Reading.{among_faults, line_by_parts, refused_line, told_by, utf8_of}
use Rattle.cs_cli.proofs.Telling.{AllUtf8}
use Rattle.cs_cli.proofs.line.parse.Goals as goal

pub returns-in-Ok-clause-value : goal.returns-in-Ok-clause-value
returns-in-Ok-clause-value c =
    let words = map string_bytes c.args.words.now in
    let app = c.in_ok-command.ensures in
    let rows = c.in-Ok.ensures.matches (ap is_simple app ∙ simple) in
    let fault : fault_of line_app words ≡ [] = sym (ap (λ a. fault_of a words) app) ∙ c.in-Ok.ensures.kinds (ap is_simple_and_free app ∙ free) in
    let told = told_by words (found_of c.in-Ok.matches) (utf8_of c.args.words.now) fault (rows.0 ∙ ap (λ a. matches_of a words) app) in
    c.line_in.ensures.value told.0 told.2 ∙ sym (line_by_parts words told.0 told.1)

-- an error that isn't want of memory is a refusal of the line
no_line : {E : Type 0} (words : List (List ℕ)) (e : Error) (r : Result (Option Line) E) → AllUtf8 words → HasKind (fault_of line_app words) e
    → IfOk r (λ line. line ≡ None) → IfOk r (λ _. kind_of e ≡ kind.OutOfMemory → ⊥) → IfOk r (λ line. option_map line_by line ≡ line_of words)
no_line words e r utf8 (inl memory) none other = IfOk-weaker r _ _ (λ line h. absurd (h memory)) other
no_line words e r utf8 (inr among) none other =
    IfOk-weaker r _ _ (λ line h. ap (option_map line_by) h ∙ sym (refused_line words utf8 (among_faults (kind_of e) (fault_of line_app words) among))) none

pub returns-in-Err-clause-value : goal.returns-in-Err-clause-value
returns-in-Err-clause-value c =
    let words = map string_bytes c.args.words.now in
    let app = c.in_ok-command.ensures in
    let kinds = c.in-Err.ensures.kinds (ap is_simple_and_free app ∙ free) in
    no_line words c.in-Err.error c.refused.result (utf8_of c.args.words.now)
    (subst (λ a. HasKind (fault_of a words) c.in-Err.error) app kinds) c.refused.ensures.none c.refused.ensures.fault
