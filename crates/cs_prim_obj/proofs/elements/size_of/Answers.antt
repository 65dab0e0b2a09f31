use Rattle.std.proofs.Common.{refl, sym, ap, ◌∙◌, Some, None}
use Rattle.cs_acts.specs.Names.{name_of}
use Rattle.cs_prim_obj.specs.Elements.{elements_of}
use Rattle.cs_prim_obj.proofs.Indexing.{no_size, sized}
use Rattle.cs_prim_obj.proofs.elements.size_of.Goals as goal

pub returns-then-not-has_size : goal.returns-then-not-has_size
returns-then-not-has_size g c =
    let s = g.W.World.stored c.args.w.now in
    let k = g.W.World.view c.args.w.now in
    let x = name_of s c.args.o in
    no_size s k x c.held_by-held.result c.held_by-held.ensures.value (sym c.has_size.ensures ∙ c.if-not-has_size.true)

pub returns-in-Some : goal.returns-in-Some
returns-in-Some g c =
    let s = g.W.World.stored c.args.w.now in
    let k = g.W.World.view c.args.w.now in
    let x = name_of s c.args.o in
    sized s k x c.held_by-held.result (Some c.in-Some.elements) _ c.held_by-held.ensures.value (sym c.has_size.ensures ∙ c.if-not-has_size.false) (sym c.in-Some.is ∙ c.elements_of.ensures.value ∙ ap (elements_of k x) c.held_by-held.ensures.value) (let n = c.count_word.ensures s in record { sound = n.sound; is = ap Some n.is })

pub returns-in-None : goal.returns-in-None
returns-in-None g c =
    let s = g.W.World.stored c.args.w.now in
    let k = g.W.World.view c.args.w.now in
    let x = name_of s c.args.o in
    sized s k x c.held_by-held.result None _ c.held_by-held.ensures.value (sym c.has_size.ensures ∙ c.if-not-has_size.false) (sym c.in-None.is ∙ c.elements_of.ensures.value ∙ ap (elements_of k x) c.held_by-held.ensures.value) (record { sound = tt; is = refl })
