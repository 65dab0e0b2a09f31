use Rattle.std.proofs.Common.{◌≡◌, ◌∙◌, ◌+◌, ◌-◌, ◌<◌, refl, sym, ap, subst, arith, List, length, unwrap_or}
use Rattle.std.specs.Prelude.{slice_get}
use Rattle.cs_model.specs.Ref.{Ref}
use Rattle.cs_model.specs.Obj.{new_head, words_of_slots}
use Rattle.cs_model.specs.Exec.{new_closure}
use Rattle.cs_model.specs.Read.{depth_of, stack_of}
use Rattle.cs_model.specs.Operation.{add_of, nil_of}
use Rattle.cs_acts.specs.Names.{name_of}
use Rattle.cs_acts.specs.Led.{Leads}
use Rattle.cs_code.specs.Closures.{bare_closure, closure_with, copied_so_far, slots_with}
use Rattle.cs_code.proofs.Adding.{cause-weighed, depth-over, stack-over, storable-added}
use Rattle.cs_code.proofs.Closing.{all-copied, copied-more, length-so_far, none-copied, set-copied, words-alike, written}
use Rattle.cs_code.proofs.closures.make.Goals as goal

pub returns-in-Err-clause-full : goal.returns-in-Err-clause-full
returns-in-Err-clause-full g c =
    let k = g.W.World.view c.args.w.now in
    cause-weighed (g.W.World.stored c.begin.new.w) (g.W.World.layout c.args.w.now) k _ (add_of k (new_closure k c.args.copied c.args.args)) (words_of_slots (3 + c.args.copied)) c.in-Err.why (words-alike k c.args.copied c.args.args c.requires.there) c.in-Err.ensures.full

pub overflow_sub-first : goal.overflow_sub-first
overflow_sub-first g c =
    let k = g.W.World.view c.args.w.now in
    let first = depth-over (g.W.World.view c.begin.new.w) k (bare_closure k c.args.copied c.args.args) c.requires.ready.running c.requires.ready.sound.births c.in-Ok.ensures.leads.state in
    omega (arith, first, c.depth.ensures.value, c.from.ensures, c.requires.there)

pub loop-i-init : goal.loop-i-init
loop-i-init g c =
    let k = g.W.World.view c.args.w.now in
    (subst (λ (values : List Ref). Leads (g.W.World.stored c.args.w.now) (g.W.World.stored c.begin.new.w) (g.W.World.layout c.args.w.now) (g.W.World.layout c.begin.new.w) (g.W.World.view c.begin.new.w) (add_of k (closure_with k c.args.args values)) 1) (sym (none-copied k c.args.copied)) c.in-Ok.ensures.leads, c.in-Ok.ensures.value)

pub stack_at-value-requires-clause-ready : goal.stack_at-value-requires-clause-ready
stack_at-value-requires-clause-ready g c = c.loop-i.invariant.0.ready

pub stack_at-value-requires-clause-there : goal.stack_at-value-requires-clause-there
stack_at-value-requires-clause-there g c =
    let k = g.W.World.view c.args.w.now in
    let n = c.args.copied in
    let few : c.loop-i.i < n = omega (arith, c.loop-i-test.true, c.from-i-end.ensures) in
    let first : depth_of (g.W.World.view c.begin.new.w) ≡ depth_of k = depth-over (g.W.World.view c.begin.new.w) k (bare_closure k n c.args.args) c.requires.ready.running c.requires.ready.sound.births c.in-Ok.ensures.leads.state in
    let led = c.loop-i.invariant.0 in
    let all = copied_so_far k n c.loop-i.i in
    let place : c.depth.result - c.from.result + c.loop-i.i ≡ depth_of k - n + c.loop-i.i = omega (arith, first, c.depth.ensures.value, c.from.ensures) in
    let now : depth_of (g.W.World.view c.loop-i.w) ≡ depth_of k = depth-over (g.W.World.view c.loop-i.w) k (closure_with k c.args.args all) c.requires.ready.running c.requires.ready.sound.births led.state in
    omega (arith, place, now, few, c.requires.there)

pub store-requires-clause-sound : goal.store-requires-clause-sound
store-requires-clause-sound g c = c.loop-i.invariant.0.ready.sound

pub store-requires-clause-there : goal.store-requires-clause-there
store-requires-clause-there g c =
    let k = g.W.World.view c.args.w.now in
    let n = c.args.copied in
    let few : c.loop-i.i < n = omega (arith, c.loop-i-test.true, c.from-i-end.ensures) in
    let first : depth_of (g.W.World.view c.begin.new.w) ≡ depth_of k = depth-over (g.W.World.view c.begin.new.w) k (bare_closure k n c.args.args) c.requires.ready.running c.requires.ready.sound.births c.in-Ok.ensures.leads.state in
    let led = c.loop-i.invariant.0 in
    let all = copied_so_far k n c.loop-i.i in
    let place : c.depth.result - c.from.result + c.loop-i.i ≡ depth_of k - n + c.loop-i.i = omega (arith, first, c.depth.ensures.value, c.from.ensures) in
    let size : length all ≡ n = length-so_far k n c.loop-i.i c.requires.there (omega (arith, few)) in
    storable-added (g.W.World.view c.loop-i.w) k (new_head 37 3) (3 + c.loop-i.i) (slots_with k c.args.args all) (name_of (g.W.World.stored c.loop-i.w) c.in-Ok.closure) led.state c.loop-i.invariant.1.is (omega (arith, size, few))

pub store-requires-clause-object : goal.store-requires-clause-object
store-requires-clause-object g c = c.loop-i.invariant.1.sound

pub loop-i-preserved : goal.loop-i-preserved
loop-i-preserved g c =
    let k = g.W.World.view c.args.w.now in
    let n = c.args.copied in
    let few : c.loop-i.i < n = omega (arith, c.loop-i-test.true, c.from-i-end.ensures) in
    let first : depth_of (g.W.World.view c.begin.new.w) ≡ depth_of k = depth-over (g.W.World.view c.begin.new.w) k (bare_closure k n c.args.args) c.requires.ready.running c.requires.ready.sound.births c.in-Ok.ensures.leads.state in
    let led = c.loop-i.invariant.0 in
    let all = copied_so_far k n c.loop-i.i in
    let place : c.depth.result - c.from.result + c.loop-i.i ≡ depth_of k - n + c.loop-i.i = omega (arith, first, c.depth.ensures.value, c.from.ensures) in
    let x : Ref = name_of (g.W.World.stored c.loop-i.w) c.stack_at-value.result in
    let stack = stack-over (g.W.World.view c.loop-i.w) k (closure_with k c.args.args all) c.requires.ready.running c.requires.ready.sound.births led.state in
    let value : x ≡ unwrap_or (slice_get (stack_of k) (c.depth.result - c.from.result + c.loop-i.i)) (nil_of (g.W.World.view c.loop-i.w)) =
    c.stack_at-value.ensures.is ∙ ap (λ (xs : List Ref). unwrap_or (slice_get xs (c.depth.result - c.from.result + c.loop-i.i)) (nil_of (g.W.World.view c.loop-i.w))) stack in
    let e = c.store.ensures in
    let named = e.names c.in-Ok.closure c.loop-i.invariant.1.sound in
    let more = copied-more k n c.loop-i.i (c.depth.result - c.from.result + c.loop-i.i) x (nil_of (g.W.World.view c.loop-i.w)) c.requires.there few place value in
    let next = written (g.W.World.stored c.args.w.now) (g.W.World.stored c.loop-i.w) (g.W.World.stored c.store.new.self) (g.W.World.layout c.args.w.now) (g.W.World.layout c.loop-i.w) (g.W.World.layout c.store.new.self) (g.W.World.view c.loop-i.w) (g.W.World.view c.store.new.self) k (new_head 37 3) (3 + c.loop-i.i) (slots_with k c.args.args all) c.in-Ok.closure c.stack_at-value.result x led c.loop-i.invariant.1.is refl
    e.state e.exact e.layout e.limit e.contexts (e.ready led.ready) e.names in (
      subst (λ (o : _). Leads (g.W.World.stored c.args.w.now) (g.W.World.stored c.store.new.self) (g.W.World.layout c.args.w.now) (g.W.World.layout c.store.new.self) (g.W.World.view c.store.new.self) (add_of k o) 1) (set-copied k c.args.args c.loop-i.i x all (copied_so_far k n (c.loop-i.i + 1)) more) next,
      record { sound = named.sound; is = named.is ∙ c.loop-i.invariant.1.is },
    )

pub returns-clause-value : goal.returns-clause-value
returns-clause-value g c = c.loop-i.invariant.1

pub returns-clause-leads : goal.returns-clause-leads
returns-clause-leads g c =
    let k = g.W.World.view c.args.w.now in
    let end : c.loop-i.i ≡ c.args.copied = omega (arith, c.loop-i-test.false, c.loop-i.auto.i-end, c.from-i-end.ensures) in
    subst (λ (values : List Ref). Leads (g.W.World.stored c.args.w.now) (g.W.World.stored c.loop-i.w) (g.W.World.layout c.args.w.now) (g.W.World.layout c.loop-i.w) (g.W.World.view c.loop-i.w) (add_of k (closure_with k c.args.args values)) 1) (all-copied k c.args.copied c.loop-i.i c.requires.there end) c.loop-i.invariant.0

pub returns-clause-limit : goal.returns-clause-limit
returns-clause-limit g c = c.loop-i.invariant.0.limit
