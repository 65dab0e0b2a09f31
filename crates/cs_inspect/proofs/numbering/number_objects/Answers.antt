use Rattle.std.proofs.Common.{ap, ap₂, sym, subst, ◌∙◌, ◌+◌, ◌-◌, ℕ}
use Rattle.cs_inspect.specs.Numbering.{plain_among, turns}
use Rattle.cs_inspect.specs.Reading.{IsInOrder}
use Rattle.cs_inspect.proofs.Orders.{numbered_whole, plain_lined}
use Rattle.cs_inspect.proofs.Reaching.{Lined, turn_lined, turns_begin, turns_more, turns_none}
use Rattle.cs_inspect.proofs.numbering.number_objects.Goals as goal

pub loop-place-init : goal.loop-place-init
loop-place-init c = record {
  lined = plain_lined c.args.image.now.heap.objects c.deref.result.now c.in_ok-addresses.addresses.keys (subst (IsInOrder c.args.image.now.heap.objects) (sym c.deref.ensures.value) c.in_ok-order.ensures) c.in_ok-addresses.ensures;
  left = turns_begin c.args.image.now.heap.objects (c.len.result + c.len-2.result) c.in_ok-addresses.addresses.keys;
}

pub loop-place-preserved : goal.loop-place-preserved
loop-place-preserved c = record {
  lined = subst (λ ks. Lined c.args.image.now.heap.objects ks) (sym c.in_ok-reach_from_place.ensures) (turn_lined c.args.image.now.heap.objects c.loop-place.place c.loop-place.addresses.keys c.loop-place.invariant.lined);
  left =
      ap (λ ks. turns (c.len.result + c.len-2.result - (c.loop-place.place + 1)) c.args.image.now.heap.objects (c.loop-place.place + 1) ks) c.in_ok-reach_from_place.ensures
      ∙ sym (turns_more c.args.image.now.heap.objects (c.len.result + c.len-2.result) c.loop-place.place c.loop-place.addresses.keys c.loop-place-test.true)
      ∙ c.loop-place.invariant.left;
}

pub returns : goal.returns
returns c =
    numbered_whole c.args.image.now.heap.objects c.args.image.now.classes c.args.image.now.roots c.in_ok-order.order.items c.in_ok-addresses.addresses.keys c.loop-place.addresses.keys (c.len.result + c.len-2.result)
    c.requires c.in_ok-order.ensures
    (c.in_ok-addresses.ensures ∙ ap (plain_among c.args.image.now.heap.objects) c.deref.ensures.value)
    (ap₂ (λ (x y : ℕ). x + y) c.len.ensures.len (c.len-2.ensures ∙ c.in_ok-order.order.ok.0))
    (sym (turns_none c.args.image.now.heap.objects (c.len.result + c.len-2.result) c.loop-place.place c.loop-place.addresses.keys c.loop-place-test.false) ∙ c.loop-place.invariant.left)
    c.loop-place.invariant.lined
