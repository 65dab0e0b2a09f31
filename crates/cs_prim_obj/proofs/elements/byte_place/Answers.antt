use Rattle.std.proofs.Common.{None, sym, ap, ◌∙◌}
use Rattle.cs_acts.specs.Names.{name_of}
use Rattle.cs_prim_obj.specs.Elements.{elements_of}
use Rattle.cs_prim_obj.proofs.Indexing.{bytes_place, no_bytes_place, placed, unplaced}
use Rattle.cs_prim_obj.proofs.elements.byte_place.Goals as goal

pub returns-then-not-is_bytes-clause-place : goal.returns-then-not-is_bytes-clause-place
returns-then-not-is_bytes-clause-place g c =
    let s = g.W.World.stored c.args.w.now in
    let k = g.W.World.view c.args.w.now in
    let x = name_of s c.args.o in
    no_bytes_place k x (name_of s c.args.index) c.held_by-held.result c.held_by-held.ensures.value (sym c.is_bytes.ensures ∙ c.if-not-is_bytes.true)

pub returns-in-None-clause-place : goal.returns-in-None-clause-place
returns-in-None-clause-place g c =
    let s = g.W.World.stored c.args.w.now in
    let k = g.W.World.view c.args.w.now in
    let x = name_of s c.args.o in
    bytes_place k x (name_of s c.args.index) c.held_by-held.result None c.held_by-held.ensures.value (sym c.is_bytes.ensures ∙ c.if-not-is_bytes.false) (unplaced k x (name_of s c.args.index) (sym c.in-None.is ∙ c.elements_of.ensures.value ∙ ap (elements_of k x) c.held_by-held.ensures.value))

pub returns-in-Some-clause-place : goal.returns-in-Some-clause-place
returns-in-Some-clause-place g c =
    let s = g.W.World.stored c.args.w.now in
    let k = g.W.World.view c.args.w.now in
    let x = name_of s c.args.o in
    bytes_place k x (name_of s c.args.index) c.held_by-held.result c.place.result c.held_by-held.ensures.value (sym c.is_bytes.ensures ∙ c.if-not-is_bytes.false) (placed k x (name_of s c.args.index) c.in-Some.elements c.place.result (sym c.in-Some.is ∙ c.elements_of.ensures.value ∙ ap (elements_of k x) c.held_by-held.ensures.value) (c.place.ensures.place s c.requires.index))
