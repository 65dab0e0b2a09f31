use Rattle.std.proofs.Common.{◌≡◌, ◌&&◌, ap, ◌∙◌, if◌then◌else◌, rules, to_z, of_z, w32, nat_eq}
use Rattle.std.specs.Prelude.{Some}
use Rattle.std.specs.Cmp.Lexicographic.{pointwise}
use Rattle.cs_build.specs.Tabled.{entry_at_two}
use Rattle.cs_build.proofs.tables.put_method.Goals as goal

pub returns-in-Ok : goal.returns-in-Ok
returns-in-Ok c = λ k s.
    let same : to_z w32 (of_z w32 c.args.line.now.arguments) ≡ c.args.line.now.arguments = search rules in
    c.in-Ok.ensures.updates.0 (record c.args.line.now.class { now = k }, record c.args.line.now.selector { now = s })
    ∙ ap (λ z. if pointwise nat_eq c.args.line.now.class.now k && pointwise nat_eq c.args.line.now.selector.now s then Some z else entry_at_two c.args.methods.now k s) same
