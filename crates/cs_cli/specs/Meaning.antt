-- What a line of the code means in the model.
use Rattle.std.specs.Prelude.{ℕ, List, Option, option_map}
use Rattle.std.specs.Borrow.{Bor}
use Rattle.cs_model.specs.CommandLine as model
use Rattle.cs_cli.specs.declared.line.Command.{Command}
use Rattle.cs_cli.specs.declared.line.Command.TheVariants as command
use Rattle.cs_cli.specs.declared.line.Line.{Line}
use Rattle.cs_cli.specs.declared.line.Options.{Options}

abbrev pub command_by : Command → model.Command
command_by command.Run = model.Run
command_by command.Build = model.Build
command_by command.Inspect = model.Inspect
command_by command.Same = model.Same
command_by (command.Gen k) = model.Gen k

abbrev pub name_by : Option (Bor (List ℕ)) → Option (List ℕ)
name_by = option_map (λ s. s.now)

abbrev pub options_by : Options → model.Options
options_by o = record {
  events = name_by o.events;
  pages = o.pages;
  steps = o.steps;
  heap = o.heap;
  save = name_by o.save;
  snapshot = name_by o.snapshot;
  other = name_by o.other;
  stats = o.stats;
}

-- the line without where its names lie
abbrev pub line_by : Line → model.CommandLine
line_by line = record { command = command_by line.command; file = line.file.now; options = options_by line.options }
