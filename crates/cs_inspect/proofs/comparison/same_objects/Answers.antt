use Rattle.std.proofs.Common.{◌∙◌, sym}
use Rattle.cs_inspect.proofs.Sides.{contexts_found, kinds_differ, methods_found, pointers_found, raw_found}
use Rattle.cs_inspect.proofs.comparison.same_objects.Goals as goal

pub returns-then-not-same : goal.returns-then-not-same
returns-then-not-same c =
    kinds_differ c.args.a.now.addresses.now.keys c.args.a.now.image.now.heap.objects c.args.o.0 c.args.b.now.addresses.now.keys c.args.b.now.image.now.heap.objects c.args.p.0 c.requires.first c.requires.second c.requires.object_first c.requires.object_second (λ e. c.same_sort-same.ensures.differs c.if-not-same.true (c.sort_of-kind.ensures ∙ e ∙ sym c.sort_of.ensures))

pub returns-in-Context : goal.returns-in-Context
returns-in-Context c =
    c.same_contexts.ensures ∙ contexts_found c.args.a.now.addresses.now.keys c.args.a.now.image.now.heap.objects c.args.o.0 c.args.b.now.addresses.now.keys c.args.b.now.image.now.heap.objects c.args.p.0 c.requires.first c.requires.second c.requires.object_first c.requires.object_second (sym c.sort_of-kind.ensures ∙ c.in-Context.is) (sym c.sort_of.ensures ∙ sym (c.same_sort-same.ensures.same c.if-not-same.false) ∙ c.in-Context.is)

pub returns-in-Pointers : goal.returns-in-Pointers
returns-in-Pointers c =
    c.same_pointers.ensures ∙ pointers_found c.args.a.now.addresses.now.keys c.args.a.now.image.now.heap.objects c.args.o.0 c.args.b.now.addresses.now.keys c.args.b.now.image.now.heap.objects c.args.p.0 c.requires.first c.requires.second c.requires.object_first c.requires.object_second (sym c.sort_of-kind.ensures ∙ c.in-Pointers.is) (sym c.sort_of.ensures ∙ sym (c.same_sort-same.ensures.same c.if-not-same.false) ∙ c.in-Pointers.is)

pub returns-in-Raw : goal.returns-in-Raw
returns-in-Raw c =
    c.same_raw.ensures ∙ raw_found c.args.a.now.addresses.now.keys c.args.a.now.image.now.heap.objects c.args.o.0 c.args.b.now.addresses.now.keys c.args.b.now.image.now.heap.objects c.args.p.0 c.requires.first c.requires.second c.requires.object_first c.requires.object_second (sym c.sort_of-kind.ensures ∙ c.in-Raw.is) (sym c.sort_of.ensures ∙ sym (c.same_sort-same.ensures.same c.if-not-same.false) ∙ c.in-Raw.is)

pub returns-in-Method : goal.returns-in-Method
returns-in-Method c =
    c.same_methods.ensures ∙ methods_found c.args.a.now.addresses.now.keys c.args.a.now.image.now.heap.objects c.args.o.0 c.args.b.now.addresses.now.keys c.args.b.now.image.now.heap.objects c.args.p.0 c.requires.first c.requires.second c.requires.object_first c.requires.object_second (sym c.sort_of-kind.ensures ∙ c.in-Method.is) (sym c.sort_of.ensures ∙ sym (c.same_sort-same.ensures.same c.if-not-same.false) ∙ c.in-Method.is)
