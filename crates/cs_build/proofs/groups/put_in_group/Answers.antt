use Rattle.std.proofs.Common.{◌≡◌, ◌∷◌, ◌++◌, cond, List, [], Some, Vec, Global, map, ap, ◌∙◌}
use Rattle.std.specs.Str.{bytes_eq}
use Rattle.std.proofs.lemmas.List.{map_push}
use Rattle.cs_model.specs.BuilderText as text
use Rattle.cs_build.specs.declared.form.MethodLine.{MethodLine}
use Rattle.cs_build.specs.Meaning.{method_line_by}
use Rattle.cs_build.specs.Numbered.{name_number}
use Rattle.cs_build.proofs.Grouping.{regroup}
use Rattle.cs_build.proofs.groups.put_in_group.Goals as goal

pub returns : goal.returns
returns c = λ q.
    let line : text.MethodLine = method_line_by c.args.line.now in
    let one : name_number c.insert.new.self q ≡ cond (bytes_eq c.args.line.now.class.now q) (Some c.push.new.self) (name_number c.take_group-group.new.groups q) =
    c.in_ok-insert.ensures.updates.0 (record { ref_ptr = (0, 0); now = q }) in
    regroup (λ (v : Vec MethodLine Global). map method_line_by v.items) (name_number c.args.groups.now) c.args.line.now.class.now c.push.new.self line q
    (name_number c.insert.new.self q) (name_number c.take_group-group.new.groups q) one (c.take_group-group.ensures.rest q)
    (ap (map method_line_by) c.in_ok-push.ensures.items ∙ map_push method_line_by c.take_group-group.result.items c.args.line.now
    ∙ ap (λ (ms : List text.MethodLine). ms ++ line ∷ []) c.take_group-group.ensures.group)
