-- The law keeping agrees in reports.
use Rattle.cs_model.proofs.Agreeing.{place_of-kept}
use Rattle.cs_model.proofs.Whole.{report_of-kept}
use Rattle.cs_model.proofs.laws.keeping_agrees_in_reports.Goals as goal

pub returns-clause-place : goal.returns-clause-place
returns-clause-place c = place_of-kept

pub returns-clause-report : goal.returns-clause-report
returns-clause-report c = report_of-kept
