use Rattle.std.proofs.Common.{◌+◌, ◌++◌, false, List, [], None, map, drop, ap, sym, ◌∙◌, append-nil}
use Rattle.std.specs.Prelude.{pos}
use Rattle.cs_model.specs.BuilderText as text
use Rattle.cs_model.specs.Builder.{method_birth, obj_or_nil}
use Rattle.cs_build.specs.declared.form.MethodLine.{MethodLine}
use Rattle.cs_build.specs.declared.object.Reference.{Reference}
use Rattle.cs_build.specs.Laid.{reference_by}
use Rattle.cs_build.specs.Meaning.{method_line_by}
use Rattle.cs_build.specs.Standing.{forms_in}
use Rattle.cs_build.proofs.Walking.{walk_at, walk_all, pushed}
use Rattle.cs_build.proofs.objects.put_methods.Goals as goal

no_line : MethodLine
no_line = record {
  class = record { ref_ptr = (0, 0); now = [] };
  selector = record { ref_ptr = (0, 0); now = [] };
  arguments = pos 0;
  temporaries = pos 0;
  large = false;
  primitive = None;
}

pub loop-method-preserved : goal.loop-method-preserved
unfolding no_line
loop-method-preserved c =
    walk_at (λ (slots : List Reference) (methods : List MethodLine). map reference_by slots ++ map (λ (m : text.MethodLine). obj_or_nil (method_birth (forms_in c.args.numbering.now) m.class m.selector)) (map method_line_by methods))
    c.loop-method.slots.items c.push.new.self.items c.args.methods.now c.loop-method.method-index no_line _ c.loop-method-test.true
    (pushed reference_by c.loop-method.slots.items c.push.new.self.items c.object_or_nil.result _
    (map (λ (m : text.MethodLine). obj_or_nil (method_birth (forms_in c.args.numbering.now) m.class m.selector)) (map method_line_by (drop (c.loop-method.method-index + 1) c.args.methods.now))) c.in_ok-push.ensures.items (c.object_or_nil.ensures ∙ ap obj_or_nil c.method_number-number.ensures))
    c.loop-method.invariant

pub returns : goal.returns
returns c = sym (append-nil (map reference_by c.loop-method.slots.items))
    ∙ walk_all (λ (methods : List MethodLine). map reference_by c.loop-method.slots.items ++ map (λ (m : text.MethodLine). obj_or_nil (method_birth (forms_in c.args.numbering.now) m.class m.selector)) (map method_line_by methods))
    c.args.methods.now c.loop-method.method-index _ c.loop-method-test.false c.loop-method.invariant
