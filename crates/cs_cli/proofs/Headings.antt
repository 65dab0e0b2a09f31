-- A run behind a first line.
use Rattle.std.proofs.Common.{◌≡◌, inl, inr, ℕ, ◌≤◌, List, [], Option, arith}
use Rattle.cs_model.specs.State.{Kept}
use Rattle.cs_shelf.specs.Outside.{Appends}
use Rattle.cs_cli.specs.Answer as answer
use Rattle.cs_cli.specs.Answer.{Answer, Begun, BegunBehind, Headed, Printed, Reported, Writing}
use Rattle.cs_cli.proofs.Writings.{printed_behind, writing}

-- nothing was printed before
printed_from : (a b c : Option (List ℕ)) (i j l : ℕ) (x : Answer) (status : ℕ) → Appends a b [] → i ≤ j → Printed x (writing b c j l) status → Printed x (writing a c i l) status
printed_from a b c i j l x status none le h = printed_behind a b c i j l [] x.text x.status status none le h

reported_from : (k : Kept) (n : ℕ) (pages : Option ℕ) (limit : ℕ) (a b c : Option (List ℕ)) (i j l status : ℕ) → Appends a b [] → i ≤ j
    → Reported k n pages limit (writing b c j l) status → Reported k n pages limit (writing a c i l) status
reported_from k n pages limit a b c i j l status none le (answer.ended h printed) = answer.ended h (printed_from a b c i j l _ status none le printed)
reported_from k n pages limit a b c i j l status none le (answer.heap done o way needs words printed) = answer.heap done o way needs words (printed_from a b c i j l _ status none le printed)
reported_from k n pages limit a b c i j l status none le (answer.stack done way built entered deep printed) = answer.stack done way built entered deep (printed_from a b c i j l _ status none le printed)

headed_none : (k : Kept) (n : ℕ) (pages : Option ℕ) (limit : ℕ) (a c : Option (List ℕ)) (i l status : ℕ) → Headed [] k n pages limit (writing a c i l) status
    → Reported k n pages limit (writing a c i l) status
headed_none k n pages limit a c i l status (answer.headed b j none le h) = reported_from k n pages limit a b c i j l status none le h
headed_none k n pages limit a c i l status (answer.headless same rose (m, short, part)) = absurd (omega (arith, short))

-- a run behind an empty line is a run
pub begun_alone : (k : Kept) (n : ℕ) (pages : Option ℕ) (limit : ℕ) (a c : Option (List ℕ)) (i l status : ℕ) → BegunBehind [] k n pages limit (writing a c i l) status
    → Begun k n pages limit (writing a c i l) status
begun_alone k n pages limit a c i l status (inl h) = inl h
begun_alone k n pages limit a c i l status (inr h) = inr (headed_none k n pages limit a c i l status h)
