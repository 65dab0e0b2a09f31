use Rattle.std.proofs.Common.{◌≡◌, ℕ, List, ◌++◌, codes, Option, subst}
use Rattle.cs_shelf.specs.Outside.{Appends, AppendsPart}
use Rattle.cs_shelf.proofs.Appending.{appends_then}
use Rattle.cs_cli.proofs.Writings.{on_err, on_err-map, on_ok-map, part_of, part_then}
use Rattle.cs_cli.proofs.printing.write_read.Goals as goal

head : List ℕ
head = codes "cogstack: read "

pub returns-in_err-write_whole-clause-err : goal.returns-in_err-write_whole-clause-err
unfolding head
returns-in_err-write_whole-clause-err g c = on_err c.from_residual.result (part_of _ _ head (c.args.name.now ++ codes "\n") c.in_err-write_whole.ensures.err)

-- the name behind the first words
named : (a b d : Option (List ℕ)) (name bytes : List ℕ) → bytes ≡ name → Appends a b head → Appends b d bytes → Appends a d (head ++ name)
named a b d name bytes same h k = let P : List ℕ → Type 0 = λ x. Appends b d x in appends_then a b d head name h (subst P same k)

named_part : (a b d : Option (List ℕ)) (name bytes : List ℕ) → bytes ≡ name → Appends a b head → AppendsPart b d bytes → AppendsPart a d (head ++ name)
named_part a b d name bytes same h k = let P : List ℕ → Type 0 = λ x. AppendsPart b d x in part_then a b d head name h (subst P same k)

pub returns-in_err-write_whole-2-clause-err : goal.returns-in_err-write_whole-2-clause-err
unfolding head
returns-in_err-write_whole-2-clause-err g c =
    let name = c.args.name.now in
    let part = named_part _ _ _ name c.as_bytes.result.now c.as_bytes.ensures.value c.in_ok-write_whole.ensures.ok c.in_err-write_whole-2.ensures.err in
    on_err c.from_residual-in_err-write_whole-2.result (part_of _ _ (head ++ name) (codes "\n") part)

pub returns-clause-ok : goal.returns-clause-ok
unfolding head
returns-clause-ok g c =
    let name = c.args.name.now in
    let written = named _ _ _ name c.as_bytes.result.now c.as_bytes.ensures.value c.in_ok-write_whole.ensures.ok c.in_ok-write_whole-2.ensures.ok in
    on_ok-map c.write_whole-3.result (λ h. appends_then _ _ _ (head ++ name) (codes "\n") written h) c.write_whole-3.ensures.ok

pub returns-clause-err : goal.returns-clause-err
unfolding head
returns-clause-err g c =
    let name = c.args.name.now in
    let written = named _ _ _ name c.as_bytes.result.now c.as_bytes.ensures.value c.in_ok-write_whole.ensures.ok c.in_ok-write_whole-2.ensures.ok in
    on_err-map c.write_whole-3.result (λ h. part_then _ _ _ (head ++ name) (codes "\n") written h) c.write_whole-3.ensures.err
