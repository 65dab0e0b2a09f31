use Rattle.std.proofs.Common.{sym, ap, subst, arith, ◌∙◌, pos}
use Rattle.cs_acts.specs.Names.{name_of}
use Rattle.cs_acts.specs.Names.{NamesOption}
use Rattle.cs_model.specs.Arithmetic.{if_small}
use Rattle.cs_model.specs.Element.{small_ref}
use Rattle.cs_prim_obj.specs.Contents.{amount_in}
use Rattle.cs_prim_obj.specs.Elements.{elements_of}
use Rattle.cs_prim_obj.proofs.Indexing.{in_bytes, in_slot, no_element, placed, some_element, unit_bound, unplaced}
use Rattle.cs_prim_obj.proofs.Standing.{amount_read, byte_small, stand_by}
use Rattle.cs_prim_obj.proofs.elements.element.Goals as goal

pub returns-in_default : goal.returns-in_default
returns-in_default g c =
    let s = g.W.World.stored c.args.w.now in
    let k = g.W.World.view c.args.w.now in
    let x = name_of s c.args.o in
    no_element s k x (name_of s c.args.index) (unplaced k x (name_of s c.args.index) (sym c.in_default.is ∙ c.elements_of.ensures.value ∙ ap (elements_of k x) c.held_by.ensures.value))

pub returns-in_default-place : goal.returns-in_default-place
returns-in_default-place g c =
    let s = g.W.World.stored c.args.w.now in
    let k = g.W.World.view c.args.w.now in
    let x = name_of s c.args.o in
    no_element s k x (name_of s c.args.index) (placed k x (name_of s c.args.index) c.in-Some.elements _ (sym c.in-Some.is ∙ c.elements_of.ensures.value ∙ ap (elements_of k x) c.held_by.ensures.value) (sym c.in_default-place.is ∙ c.place.ensures.place s c.requires.index))

pub returns-in-Slot : goal.returns-in-Slot
returns-in-Slot g c =
    let s = g.W.World.stored c.args.w.now in
    let k = g.W.World.view c.args.w.now in
    let x = name_of s c.args.o in
    some_element s k x (name_of s c.args.index) c.in-Some-place.place _ (placed k x (name_of s c.args.index) c.in-Some.elements _ (sym c.in-Some.is ∙ c.elements_of.ensures.value ∙ ap (elements_of k x) c.held_by.ensures.value) (sym c.in-Some-place.is ∙ c.place.ensures.place s c.requires.index)) (subst (NamesOption s c.slot_if_any.result) (in_slot k x c.in-Some.elements c.in-Slot.fields c.in-Some-place.place (sym c.in-Some.is ∙ c.elements_of.ensures.value ∙ ap (elements_of k x) c.held_by.ensures.value) c.in-Slot.is) c.slot_if_any.ensures)

pub returns-in-Bytes : goal.returns-in-Bytes
returns-in-Bytes g c =
    let s = g.W.World.stored c.args.w.now in
    let k = g.W.World.view c.args.w.now in
    let x = name_of s c.args.o in
    some_element s k x (name_of s c.args.index) c.in-Some-place.place _ (placed k x (name_of s c.args.index) c.in-Some.elements _ (sym c.in-Some.is ∙ c.elements_of.ensures.value ∙ ap (elements_of k x) c.held_by.ensures.value) (sym c.in-Some-place.is ∙ c.place.ensures.place s c.requires.index)) (subst (NamesOption s c.number_word.result) (ap (λ n. small_ref (if_small (pos n))) c.number.ensures ∙ in_bytes k x c.heap.result.now.objects c.args.o.0 c.in-Some.elements c.in-Bytes.size c.in-Bytes.from c.in-Some-place.place (sym c.in-Some.is ∙ c.elements_of.ensures.value ∙ ap (elements_of k x) c.held_by.ensures.value) c.in-Bytes.is c.in-Some-place.ensures.within (stand_by s k c.heap.result.now c.args.o c.heap.ensures c.requires.sound.holds c.requires.named) (byte_small c.heap.result.now.objects c.args.o.0)) (c.number_word.ensures s))

pub number-requires-clause-there : goal.number-requires-clause-there
number-requires-clause-there g c =
    let s = g.W.World.stored c.args.w.now in
    let k = g.W.World.view c.args.w.now in
    let within = unit_bound c.in-Some.elements c.in-Bytes.size c.in-Bytes.from c.in-Some-place.place (amount_in c.held_by.result) c.in-Some.ensures.within c.in-Bytes.is c.in-Some-place.ensures.within in
    let held = ap amount_in c.held_by.ensures.value in
    omega (arith, within, held, amount_read s k c.heap.result.now c.args.o c.heap.ensures c.requires.sound.holds c.requires.named)

pub number-requires-clause-fits : goal.number-requires-clause-fits
number-requires-clause-fits g c =
    let within = unit_bound c.in-Some.elements c.in-Bytes.size c.in-Bytes.from c.in-Some-place.place (amount_in c.held_by.result) c.in-Some.ensures.within c.in-Bytes.is c.in-Some-place.ensures.within in
    omega (arith, within, c.held_by.ensures.most)
