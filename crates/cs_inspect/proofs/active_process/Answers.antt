use Rattle.std.proofs.Common.{sym, ◌∙◌}
use Rattle.cs_inspect.proofs.Finding.{field_none, no_link, no_scheduler, process_is}
use Rattle.cs_inspect.proofs.active_process.Goals as goal

pub returns-in_default-clause-value : goal.returns-in_default-clause-value
returns-in_default-clause-value c = sym (no_link c.args.l.now.heap.objects c.args.l.now.classes c.args.l.now.roots c.requires (field_none c.args.l.now.heap.objects c.field.result _ c.in_default.is c.field.ensures.value))

pub returns-in_default-field-clause-value : goal.returns-in_default-field-clause-value
returns-in_default-field-clause-value c =
    sym (no_scheduler c.args.l.now.heap.objects c.args.l.now.classes c.args.l.now.roots c.requires c.in-Some.link.0 (sym c.in-Some.ensures.value) c.in-Some.ensures.reference
    (field_none c.args.l.now.heap.objects c.field-2.result _ c.in_default-field.is c.field-2.ensures.value))

pub returns-clause-value : goal.returns-clause-value
returns-clause-value c =
    c.field-3.ensures.value
    ∙ sym (process_is c.args.l.now.heap.objects c.args.l.now.classes c.args.l.now.roots c.requires c.in-Some.link.0 c.in-Some-field.scheduler.0 (sym c.in-Some.ensures.value) c.in-Some.ensures.reference
    (sym c.in-Some-field.ensures.value) c.in-Some-field.ensures.reference)
