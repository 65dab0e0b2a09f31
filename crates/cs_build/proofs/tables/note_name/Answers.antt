use Rattle.std.proofs.Common.{ap, refl, rules}
use Rattle.cs_model.specs.BuilderText as text
use Rattle.cs_build.specs.declared.tables.Named.TheVariants as named
use Rattle.cs_build.specs.Meaning.{class_by, form_by, mention_by, process_by}
use Rattle.std.specs.Prelude.{map}
use Rattle.std.proofs.lemmas.Result.{on_ok_weaker}
use Rattle.cs_build.proofs.TableLemmas.{class-names, names-keep, noted, other-names, process-names}
use Rattle.cs_build.proofs.tables.note_name.Goals as goal

pub returns-in-Class : goal.returns-in-Class
returns-in-Class c = on_ok_weaker c.put.result (noted c.args.names.now c.put.new.table c.args.form.now (text.Class (class_by c.in-Class.line))
    c.in-Class.line.name.now (named.Class c.in-Class.line) (ap form_by c.in-Class.is) refl (λ above. refl)
    (class-names (class_by c.in-Class.line) (named.Class c.in-Class.line) refl refl)) c.put.ensures

pub returns-in-Process : goal.returns-in-Process
returns-in-Process c = on_ok_weaker c.put-in-Process.result (noted c.args.names.now c.put-in-Process.new.table c.args.form.now (text.Process (process_by c.in-Process.line))
    c.in-Process.line.name.now named.Process (ap form_by c.in-Process.is) refl (λ above. refl)
    (process-names (process_by c.in-Process.line) named.Process refl refl)) c.put-in-Process.ensures

pub returns-in-Object : goal.returns-in-Object
returns-in-Object c = on_ok_weaker c.put-in-Object.result (noted c.args.names.now c.put-in-Object.new.table c.args.form.now
    (text.Object c.in-Object.name.now c.in-Object.class.now (map mention_by c.in-Object.slots.items))
    c.in-Object.name.now named.Object (ap form_by c.in-Object.is) refl (λ above. refl)
    (other-names (text.Object c.in-Object.name.now c.in-Object.class.now (map mention_by c.in-Object.slots.items)) c.in-Object.name.now named.Object refl refl refl refl refl))
    c.put-in-Object.ensures

pub returns-in-Bytes : goal.returns-in-Bytes
returns-in-Bytes c = on_ok_weaker c.put-in-Bytes.result (noted c.args.names.now c.put-in-Bytes.new.table c.args.form.now
    (text.Bytes c.in-Bytes.name.now c.in-Bytes.class.now c.in-Bytes.bytes.items)
    c.in-Bytes.name.now named.Object (ap form_by c.in-Bytes.is) refl (λ above. refl)
    (other-names (text.Bytes c.in-Bytes.name.now c.in-Bytes.class.now c.in-Bytes.bytes.items) c.in-Bytes.name.now named.Object refl refl refl refl refl))
    c.put-in-Bytes.ensures

pub returns-in_default : goal.returns-in_default
returns-in_default c = λ above were fresh. names-keep c.args.names.now above (form_by c.args.form.now) were (search rules)
