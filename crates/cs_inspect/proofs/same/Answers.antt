use Rattle.std.proofs.Common.{◌∙◌, sym, ap, Some}
use Rattle.std.specs.Prelude.{◌==◌, ◌&&◌}
use Rattle.cs_inspect.specs.Comparing.{address_number, class_numbers, same_class_numbers}
use Rattle.cs_inspect.proofs.Canonical.{differs}
use Rattle.cs_inspect.proofs.Sides.{told_within}
use Rattle.cs_inspect.proofs.same.Goals as goal

pub told-requires : goal.told-requires
told-requires c =
    told_within c.in_ok-first.first.keys c.in_ok-second.second.keys c.args.a.now.heap.objects c.args.b.now.heap.objects
    (c.args.a.now.roots.last_hash == c.args.b.now.roots.last_hash && address_number c.in_ok-first.first.keys c.args.a.now.roots.special.0 == address_number c.in_ok-second.second.keys c.args.b.now.roots.special.0 && same_class_numbers (class_numbers c.in_ok-first.first.keys c.args.a.now.classes) (class_numbers c.in_ok-second.second.keys c.args.b.now.classes))
    c.in-Some.place c.requires.first.heap c.in_ok-first.ensures.objects_are c.in_ok-first.ensures.few (sym c.in-Some.ensures)

pub returns-in-Some : goal.returns-in-Some
returns-in-Some c =
    ap Some c.told.ensures ∙ c.in-Some.ensures
    ∙ differs c.args.a.now.heap.objects c.args.a.now.classes c.args.a.now.roots c.in_ok-first.first.keys c.args.b.now.heap.objects c.args.b.now.classes c.args.b.now.roots c.in_ok-second.second.keys c.requires.first c.requires.second c.in_ok-first.ensures c.in_ok-second.ensures

pub returns : goal.returns
returns c =
    c.in-None.ensures
    ∙ differs c.args.a.now.heap.objects c.args.a.now.classes c.args.a.now.roots c.in_ok-first.first.keys c.args.b.now.heap.objects c.args.b.now.classes c.args.b.now.roots c.in_ok-second.second.keys c.requires.first c.requires.second c.in_ok-first.ensures c.in_ok-second.ensures
