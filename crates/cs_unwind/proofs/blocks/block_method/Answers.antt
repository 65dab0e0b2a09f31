use Rattle.std.proofs.Common.{◌∙◌, Bool, ap₂, sym, subst}
use Rattle.std.specs.Prelude.{◌&&◌}
use Rattle.cs_acts.specs.Names.{name_of}
use Rattle.cs_unwind.specs.Blocks.{FindsOuter}
use Rattle.cs_unwind.proofs.Closures.{no_closure_no_block, no_outer_no_block, no_start_no_block, rest_of}
use Rattle.cs_unwind.proofs.blocks.block_method.Goals as goal
use Rattle.cs_unwind.proofs.blocks.block_method.Goals.{else-lies_at-via-then-lies_at+else-is_count, else-lies_at-via-else-lies_at}

pub returns-then-not-is_closure : goal.returns-then-not-is_closure
returns-then-not-is_closure g c =
    let s = g.W.World.stored c.args.w.now in
    no_closure_no_block (g.W.World.view c.args.w.now) (name_of s c.args.closure) c.args.args (sym c.is_closure.ensures ∙ c.if-not-is_closure.true)

pub returns-in_default : goal.returns-in_default
returns-in_default g c =
    let s = g.W.World.stored c.args.w.now in
    let k = g.W.World.view c.args.w.now in
    no_outer_no_block k (name_of s c.args.closure) c.args.args (subst (FindsOuter s k (name_of s c.args.closure)) c.in_default.is c.outer_method.ensures)

pub returns-then-is_count : goal.returns-then-is_count
returns-then-is_count g c =
    let s = g.W.World.stored c.args.w.now in
    let k = g.W.World.view c.args.w.now in
    let x = name_of s c.args.closure in
    let method = subst (FindsOuter s k x) c.in-Some.is c.outer_method.ensures in
    record {
      can = sym (rest_of s k x c.args.args c.in-Some.method c.closure_slot-start.result c.closure_slot.result c.lies_at.result c.is_count.result (sym c.is_closure.ensures ∙ c.if-not-is_closure.false) method
          c.closure_slot-start.ensures.is c.closure_slot.ensures.is c.lies_at.ensures (c.is_count.ensures s c.closure_slot.ensures.sound)) ∙ ap₂ (λ (a b : Bool). a && b) c.if-lies_at.true c.if-is_count.true;
      method = method;
    }

pub returns-else-lies_at : goal.returns-else-lies_at
returns-else-lies_at g c =
    let s = g.W.World.stored c.args.w.now in
    let k = g.W.World.view c.args.w.now in
    let x = name_of s c.args.closure in
    let method = subst (FindsOuter s k x) c.in-Some.is c.outer_method.ensures in
    elim c.else-lies_at.branch [
      | else-lies_at-via-then-lies_at+else-is_count w ↦ sym (rest_of s k x c.args.args c.in-Some.method c.closure_slot-start.result w.closure_slot.result c.lies_at.result w.is_count.result (sym c.is_closure.ensures ∙ c.if-not-is_closure.false) method
          c.closure_slot-start.ensures.is w.closure_slot.ensures.is c.lies_at.ensures (w.is_count.ensures s w.closure_slot.ensures.sound)) ∙ ap₂ (λ (a b : Bool). a && b) w.if-lies_at.true w.if-is_count.false
      | else-lies_at-via-else-lies_at w ↦ no_start_no_block s k x c.args.args c.in-Some.method c.closure_slot-start.result c.lies_at.result method c.closure_slot-start.ensures.is c.lies_at.ensures w.if-lies_at.false
    ]
