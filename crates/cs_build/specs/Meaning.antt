-- What the lines of the code mean in the model.
use Rattle.std.specs.Prelude.{ℕ, List, codes, map, option_map}
use Rattle.cs_model.specs.BuilderText as text
use Rattle.cs_build.specs.declared.form.Mention.{Mention}
use Rattle.cs_build.specs.declared.form.Mention.TheVariants as mention
use Rattle.cs_build.specs.declared.form.ClassLine.{ClassLine}
use Rattle.cs_build.specs.declared.form.MethodLine.{MethodLine}
use Rattle.cs_build.specs.declared.form.ProcessLine.{ProcessLine}
use Rattle.cs_build.specs.declared.form.Jump.{Jump}
use Rattle.cs_build.specs.declared.form.Jump.TheVariants.{Always, IfTrue, IfFalse}
use Rattle.cs_build.specs.declared.form.Form.{Form}
use Rattle.cs_build.specs.declared.form.Form.TheVariants as form

abbrev pub mention_by : Mention → text.Mention
mention_by (mention.Number value) = text.Number value
mention_by (mention.Code value) = text.Code value
mention_by mention.Nil = text.Nil
mention_by mention.True = text.True
mention_by mention.False = text.False
mention_by (mention.Symbol name) = text.Symbol name.now
mention_by (mention.Named name) = text.Named name.now
mention_by (mention.Dictionary class) = text.Dictionary class.now
mention_by (mention.Values class) = text.Values class.now
mention_by (mention.MethodOf class selector) = text.MethodOf class.now selector.now

abbrev pub class_by : ClassLine → text.ClassLine
class_by line = record {
  name = line.name.now;
  super = option_map (λ name. name.now) line.superclass;
  format = line.format;
  fields = line.fields;
}

abbrev pub method_line_by : MethodLine → text.MethodLine
method_line_by line = record {
  class = line.class.now;
  selector = line.selector.now;
  arguments = line.arguments;
  temporaries = line.temporaries;
  large = line.large;
  primitive = line.primitive;
}

abbrev pub process_by : ProcessLine → text.ProcessLine
process_by line = record {
  name = line.name.now;
  priority = line.priority;
  class = line.class.now;
  selector = line.selector.now;
  receiver = mention_by line.receiver;
}

abbrev pub jump_by : Jump → List ℕ
jump_by Always = codes "jump"
jump_by IfTrue = codes "jumpTrue"
jump_by IfFalse = codes "jumpFalse"

abbrev pub form_by : Form → text.Form
form_by (form.Class line) = text.Class (class_by line)
form_by (form.Object name class slots) = text.Object name.now class.now (map mention_by slots.items)
form_by (form.Bytes name class bytes) = text.Bytes name.now class.now bytes.items
form_by (form.Method line) = text.Method (method_line_by line)
form_by (form.Process line) = text.Process (process_by line)
form_by (form.Special place value) = text.Special place (mention_by value)
form_by (form.Active name) = text.Active name.now
form_by (form.Ready name) = text.Ready name.now
form_by (form.Literal value) = text.Literal (mention_by value)
form_by (form.Byte value) = text.Byte value
form_by (form.Label name) = text.Label name.now
form_by (form.Plain op) = text.Plain op
form_by (form.JumpTo jump label) = text.JumpTo (jump_by jump) label.now
form_by (form.ClosureTo copied args label) = text.ClosureTo copied args label.now
form_by form.End = text.End
