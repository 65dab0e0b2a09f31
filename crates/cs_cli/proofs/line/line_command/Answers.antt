use Rattle.std.proofs.Common.{◌≡◌, ◌∙◌, true, codes, ap, ℕ, List}
use Rattle.std.proofs.lemmas.Result.{IfOk-weaker}
use Rattle.clap.specs.Words.{App, app_of, new_app, with_rule}
use Rattle.clap.specs.Simple.{Shape, app_of_fields}
use Rattle.clap.specs.declared.builder.command.Command.{Command}
use Rattle.clap.specs.declared.builder.command.Command.TheOpen.{Command-F}
use Rattle.cs_cli.specs.LineApp.{flag_rule, line_app, option_rule, place_rule}
use Rattle.cs_cli.proofs.line.line_command.Goals as goal

-- without a word for the program itself, and without flags for help and the version
abbrev bare_shape : Shape → Shape
bare_shape s = record s { no_binary_name = true; disable_help_flag = true; disable_version_flag = true }

abbrev bare : App → App
bare a = record a { top = bare_shape a.top }

pub returns : goal.returns
unfolding line_app
returns c =
    let help : Command-F Command → Command-F Command = λ x. record x { disable_help_flag = true } in
    let version : Command-F Command → Command-F Command = λ x. record x { disable_version_flag = true } in
    let start : app_of c.disable_version_flag-command.result ≡ bare (new_app (codes "cogstack")) =
    ap app_of_fields (c.disable_version_flag-command.ensures ∙ ap version (c.disable_help_flag.ensures
    ∙ ap help c.no_binary_name.ensures)) ∙ ap bare c.new.ensures.app in
    let place : List ℕ → App → App = λ id a. with_rule a (place_rule id) in
    let option : List ℕ → List ℕ → App → App = λ id name a. with_rule a (option_rule id name) in
    let all = c.in_ok-command-9.ensures ∙ ap (option (codes "--other") (codes "other")) (c.in_ok-command-8.ensures
    ∙ ap (option (codes "--snapshot") (codes "snapshot")) (c.in_ok-command-7.ensures
    ∙ ap (option (codes "--save") (codes "save")) (c.in_ok-command-6.ensures
    ∙ ap (option (codes "--heap") (codes "heap")) (c.in_ok-command-5.ensures
    ∙ ap (option (codes "--steps") (codes "steps")) (c.in_ok-command-4.ensures
    ∙ ap (option (codes "--pages") (codes "pages")) (c.in_ok-command-3.ensures
    ∙ ap (option (codes "--events") (codes "events")) (c.in_ok-command-2.ensures
    ∙ ap (place (codes "FILE")) (c.in_ok-command.ensures
    ∙ ap (place (codes "COMMAND")) start)))))))) in
    IfOk-weaker c.with_flag.result _ _ (λ m h. h ∙ ap (λ a. with_rule a (flag_rule (codes "--stats") (codes "stats"))) all) c.with_flag.ensures
