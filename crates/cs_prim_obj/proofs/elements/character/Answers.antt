use Rattle.std.proofs.Common.{arith, Some, sym, ap, ◌∙◌, option_map}
use Rattle.cs_acts.specs.Names.{name_of}
use Rattle.cs_model.specs.Ref as ref
use Rattle.cs_model.specs.State.{object_of}
use Rattle.cs_prim_obj.proofs.Indexing.{byte_found, no_byte}
use Rattle.cs_prim_obj.proofs.Standing.{amount_read, bytes_stand, bytes_within}
use Rattle.cs_prim_obj.proofs.elements.character.Goals as goal

pub returns-in-None : goal.returns-in-None
returns-in-None g c =
    let s = g.W.World.stored c.args.w.now in
    let k = g.W.World.view c.args.w.now in
    let x = name_of s c.args.o in
    record { sound = tt; is = sym (ap (option_map (λ b. ref.Char b)) (no_byte k x (name_of s c.args.index) (sym c.in-None.is ∙ c.byte_place.ensures.place))) }

pub returns-in-Some : goal.returns-in-Some
returns-in-Some g c =
    let s = g.W.World.stored c.args.w.now in
    let k = g.W.World.view c.args.w.now in
    let x = name_of s c.args.o in
    let n = c.character_word.ensures s in
    let at = byte_found k x (name_of s c.args.index) c.heap.result.now.objects c.args.o.0 c.in-Some.place (sym c.in-Some.is ∙ c.byte_place.ensures.place) c.in-Some.ensures.within (bytes_stand s k c.heap.result.now c.args.o c.heap.ensures c.requires.sound.holds c.requires.named) in
    record { sound = n.sound; is = ap Some (n.is ∙ ap ref.Char c.byte.ensures) ∙ sym (ap (option_map (λ b. ref.Char b)) at) }

pub byte-requires : goal.byte-requires
byte-requires g c =
    let s = g.W.World.stored c.args.w.now in
    let k = g.W.World.view c.args.w.now in
    let x = name_of s c.args.o in
    omega (arith, c.in-Some.ensures.within, bytes_within (object_of k x), amount_read s k c.heap.result.now c.args.o c.heap.ensures c.requires.sound.holds c.requires.named)
