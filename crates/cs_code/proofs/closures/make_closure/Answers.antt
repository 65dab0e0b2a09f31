use Rattle.std.proofs.Common.{◌≡◌, ◌∙◌, ◌≤◌, ℕ, true, false, refl, sym, ap, subst, arith, Some, pos, nat_lt, to_z, of_z, w32}
use Rattle.std.proofs.lemmas.Int.{ints}
use Rattle.cs_model.specs.declared.stop.Stop.TheVariants as why
use Rattle.cs_model.specs.Exec.{new_closure, pc_after}
use Rattle.cs_model.specs.Read.{depth_of, size_of}
use Rattle.cs_model.specs.Operation.{add_of, next_ref, push_of, set_pc_of}
use Rattle.cs_acts.specs.Led.{Leads}
use Rattle.cs_acts.specs.Made.{MakesAtMost}
use Rattle.cs_acts.specs.Names.{name_of}
use Rattle.cs_acts.proofs.Leading.{then}
use Rattle.cs_code.specs.declared.end.CodeEnd.TheVariants as ends
use Rattle.cs_code.proofs.Adding.{depth-over}
use Rattle.cs_code.proofs.Through.{gives_stop}
use Rattle.cs_code.proofs.Closing.{dropped, made-none}
use Rattle.cs_code.proofs.Enclosing.{closure-over, closure-pushed, closure-refused, enclosed, led-given, no-code, pc-stands, room-alike, too-few}
use Rattle.cs_code.proofs.closures.make_closure.Goals as goal

pub returns-in_default-clause-gives : goal.returns-in_default-clause-gives
returns-in_default-clause-gives g c = λ _.
    let k = g.W.World.view c.args.w.now in
    let offset : to_z w32 (of_z w32 c.from.result) ≡ pos c.args.size = omega (arith, ints, c.from.ensures, c.ranges.size) in
    gives_stop (g.W.World.stored c.args.w.now) (g.W.World.layout c.args.w.now) k why.BadCode _ (no-code k c.args.copied c.args.args c.args.size (ap (pc_after k) (sym offset) ∙ sym c.pc_after.ensures.value ∙ c.in_default.is)) c.requires.ready

pub returns-then-depth-from-clause-gives : goal.returns-then-depth-from-clause-gives
returns-then-depth-from-clause-gives g c = λ _.
    let k = g.W.World.view c.args.w.now in
    let running = c.requires.ready.running in
    let below = c.requires.ready.sound.births in
    let offset : to_z w32 (of_z w32 c.from.result) ≡ pos c.args.size = omega (arith, ints, c.from.ensures, c.ranges.size) in
    let lies : pc_after k (pos c.args.size) ≡ Some c.in-Some.pc = ap (pc_after k) (sym offset) ∙ sym c.pc_after.ensures.value ∙ c.in-Some.is in
    gives_stop (g.W.World.stored c.args.w.now) (g.W.World.layout c.args.w.now) k why.StackUnder _ (too-few k c.args.copied c.args.args c.args.size c.in-Some.pc lies (omega (arith, c.depth.ensures.value, c.from-2.ensures, c.if-depth-from.true))) c.requires.ready

pub returns-in-Err-clause-full : goal.returns-in-Err-clause-full
returns-in-Err-clause-full g c why is =
    let k = g.W.World.view c.args.w.now in
    let running = c.requires.ready.running in
    let below = c.requires.ready.sound.births in
    let offset : to_z w32 (of_z w32 c.from.result) ≡ pos c.args.size = omega (arith, ints, c.from.ensures, c.ranges.size) in
    let lies : pc_after k (pos c.args.size) ≡ Some c.in-Some.pc = ap (pc_after k) (sym offset) ∙ sym c.pc_after.ensures.value ∙ c.in-Some.is in
    let enough : c.args.copied ≤ depth_of k = omega (arith, c.depth.ensures.value, c.from-2.ensures, c.if-depth-from.false) in
    closure-refused (g.W.World.stored c.make.new.w) (g.W.World.layout c.args.w.now) k c.args.copied c.args.args c.args.size c.in-Some.pc c.in-Err.why why is c.in-Err.ensures.heap_alone running below lies enough c.in-Err.ensures.full

pub drop_values-requires-clause-there : goal.drop_values-requires-clause-there
drop_values-requires-clause-there g c =
    let k = g.W.World.view c.args.w.now in
    let enough : c.args.copied ≤ depth_of k = omega (arith, c.depth.ensures.value, c.from-2.ensures, c.if-depth-from.false) in
    omega (arith, depth-over (g.W.World.view c.make.new.w) k (new_closure k c.args.copied c.args.args) c.requires.ready.running c.requires.ready.sound.births c.in-Ok.ensures.leads.state, enough)

pub returns-then-not-has_room-clause-gives : goal.returns-then-not-has_room-clause-gives
returns-then-not-has_room-clause-gives g c = λ _.
    let k = g.W.World.view c.args.w.now in
    let running = c.requires.ready.running in
    let below = c.requires.ready.sound.births in
    let offset : to_z w32 (of_z w32 c.from.result) ≡ pos c.args.size = omega (arith, ints, c.from.ensures, c.ranges.size) in
    let lies : pc_after k (pos c.args.size) ≡ Some c.in-Some.pc = ap (pc_after k) (sym offset) ∙ sym c.pc_after.ensures.value ∙ c.in-Some.is in
    let enough : c.args.copied ≤ depth_of k = omega (arith, c.depth.ensures.value, c.from-2.ensures, c.if-depth-from.false) in
    let t = enclosed k c.args.copied c.args.args in
    let led = dropped (g.W.World.stored c.args.w.now) (g.W.World.stored c.make.new.w) (g.W.World.stored c.drop_values.new.w) (g.W.World.layout c.args.w.now) (g.W.World.layout c.make.new.w) (g.W.World.layout c.drop_values.new.w) (g.W.World.view c.make.new.w) (g.W.World.view c.drop_values.new.w) (add_of k (new_closure k c.args.copied c.args.args)) c.args.copied 1 0 c.in-Ok.ensures.leads c.drop_values.ensures in
    let here : nat_lt (depth_of (g.W.World.view c.drop_values.new.w)) (size_of (g.W.World.view c.drop_values.new.w)) ≡ false = grind (arith) in
    let room = room-alike (g.W.World.view c.drop_values.new.w) t false led.state (sym here) in
    led-given (g.W.World.stored c.args.w.now) (g.W.World.stored c.drop_values.new.w) (g.W.World.layout c.args.w.now) (g.W.World.layout c.drop_values.new.w) (g.W.World.view c.drop_values.new.w) t _ (ends.Stop why.StackOver) _ _ refl tt (closure-over k c.args.copied c.args.args c.args.size c.in-Some.pc lies enough room) led

pub set_pc-requires-clause-lies : goal.set_pc-requires-clause-lies
set_pc-requires-clause-lies g c =
    let k = g.W.World.view c.args.w.now in
    let t = enclosed k c.args.copied c.args.args in
    let led = dropped (g.W.World.stored c.args.w.now) (g.W.World.stored c.make.new.w) (g.W.World.stored c.drop_values.new.w) (g.W.World.layout c.args.w.now) (g.W.World.layout c.make.new.w) (g.W.World.layout c.drop_values.new.w) (g.W.World.view c.make.new.w) (g.W.World.view c.drop_values.new.w) (add_of k (new_closure k c.args.copied c.args.args)) c.args.copied 1 0 c.in-Ok.ensures.leads c.drop_values.ensures in
    let named = c.drop_values.ensures.names c.in-Ok.closure c.in-Ok.ensures.value.sound in
    let is : name_of (g.W.World.stored c.drop_values.new.w) c.in-Ok.closure ≡ next_ref k = named.is ∙ c.in-Ok.ensures.value.is in
    let e = c.push.ensures in
    let pushed_led = subst (λ x. Leads (g.W.World.stored c.args.w.now) (g.W.World.stored c.push.new.self) (g.W.World.layout c.args.w.now) (g.W.World.layout c.push.new.self) (g.W.World.view c.push.new.self) (push_of t x) 1) is
    (then (g.W.World.stored c.args.w.now) (g.W.World.stored c.drop_values.new.w) (g.W.World.stored c.push.new.self) (g.W.World.layout c.args.w.now) (g.W.World.layout c.drop_values.new.w) (g.W.World.layout c.push.new.self) (g.W.World.view c.drop_values.new.w) (g.W.World.view c.push.new.self) t 1 0 (λ u. push_of u (name_of (g.W.World.stored c.drop_values.new.w) c.in-Ok.closure)) led e.state e.exact e.layout e.limit e.contexts e.ready e.names) in
    pc-stands (g.W.World.view c.push.new.self) k c.args.copied c.args.args c.in-Some.pc (next_ref k) c.requires.ready.running c.requires.ready.sound.births pushed_led.state c.in-Some.ensures.lies

pub returns-clause-gives : goal.returns-clause-gives
returns-clause-gives g c = λ _.
    let k = g.W.World.view c.args.w.now in
    let running = c.requires.ready.running in
    let below = c.requires.ready.sound.births in
    let offset : to_z w32 (of_z w32 c.from.result) ≡ pos c.args.size = omega (arith, ints, c.from.ensures, c.ranges.size) in
    let lies : pc_after k (pos c.args.size) ≡ Some c.in-Some.pc = ap (pc_after k) (sym offset) ∙ sym c.pc_after.ensures.value ∙ c.in-Some.is in
    let enough : c.args.copied ≤ depth_of k = omega (arith, c.depth.ensures.value, c.from-2.ensures, c.if-depth-from.false) in
    let t = enclosed k c.args.copied c.args.args in
    let led = dropped (g.W.World.stored c.args.w.now) (g.W.World.stored c.make.new.w) (g.W.World.stored c.drop_values.new.w) (g.W.World.layout c.args.w.now) (g.W.World.layout c.make.new.w) (g.W.World.layout c.drop_values.new.w) (g.W.World.view c.make.new.w) (g.W.World.view c.drop_values.new.w) (add_of k (new_closure k c.args.copied c.args.args)) c.args.copied 1 0 c.in-Ok.ensures.leads c.drop_values.ensures in
    let here : nat_lt (depth_of (g.W.World.view c.drop_values.new.w)) (size_of (g.W.World.view c.drop_values.new.w)) ≡ true = grind (arith) in
    let room = room-alike (g.W.World.view c.drop_values.new.w) t true led.state (sym here) in
    let named = c.drop_values.ensures.names c.in-Ok.closure c.in-Ok.ensures.value.sound in
    let is : name_of (g.W.World.stored c.drop_values.new.w) c.in-Ok.closure ≡ next_ref k = named.is ∙ c.in-Ok.ensures.value.is in
    let e = c.push.ensures in
    let pushed_led = subst (λ x. Leads (g.W.World.stored c.args.w.now) (g.W.World.stored c.push.new.self) (g.W.World.layout c.args.w.now) (g.W.World.layout c.push.new.self) (g.W.World.view c.push.new.self) (push_of t x) 1) is
    (then (g.W.World.stored c.args.w.now) (g.W.World.stored c.drop_values.new.w) (g.W.World.stored c.push.new.self) (g.W.World.layout c.args.w.now) (g.W.World.layout c.drop_values.new.w) (g.W.World.layout c.push.new.self) (g.W.World.view c.drop_values.new.w) (g.W.World.view c.push.new.self) t 1 0 (λ u. push_of u (name_of (g.W.World.stored c.drop_values.new.w) c.in-Ok.closure)) led e.state e.exact e.layout e.limit e.contexts e.ready e.names) in
    let f = c.set_pc.ensures in
    let all = then (g.W.World.stored c.args.w.now) (g.W.World.stored c.push.new.self) (g.W.World.stored c.set_pc.new.self) (g.W.World.layout c.args.w.now) (g.W.World.layout c.push.new.self) (g.W.World.layout c.set_pc.new.self) (g.W.World.view c.push.new.self) (g.W.World.view c.set_pc.new.self) (push_of t (next_ref k)) 1 0 (λ u. set_pc_of u c.in-Some.pc) pushed_led f.state f.exact f.layout f.limit f.contexts f.ready f.names in
    led-given (g.W.World.stored c.args.w.now) (g.W.World.stored c.set_pc.new.self) (g.W.World.layout c.args.w.now) (g.W.World.layout c.set_pc.new.self) (g.W.World.view c.set_pc.new.self) (set_pc_of (push_of t (next_ref k)) c.in-Some.pc) _ ends.Done _ _ refl tt (closure-pushed k c.args.copied c.args.args c.args.size c.in-Some.pc lies enough room) all

pub returns-in_default-clause-contexts : goal.returns-in_default-clause-contexts
returns-in_default-clause-contexts g c = λ _. made-none (g.W.World.layout c.args.w.now) _ (g.W.World.stored c.args.w.now)

pub returns-then-depth-from-clause-contexts : goal.returns-then-depth-from-clause-contexts
returns-then-depth-from-clause-contexts g c = λ _. made-none (g.W.World.layout c.args.w.now) _ (g.W.World.stored c.args.w.now)

pub returns-then-not-has_room-clause-contexts : goal.returns-then-not-has_room-clause-contexts
returns-then-not-has_room-clause-contexts g c = λ _.
    let k = g.W.World.view c.args.w.now in
    let running = c.requires.ready.running in
    let below = c.requires.ready.sound.births in
    let offset : to_z w32 (of_z w32 c.from.result) ≡ pos c.args.size = omega (arith, ints, c.from.ensures, c.ranges.size) in
    let lies : pc_after k (pos c.args.size) ≡ Some c.in-Some.pc = ap (pc_after k) (sym offset) ∙ sym c.pc_after.ensures.value ∙ c.in-Some.is in
    let enough : c.args.copied ≤ depth_of k = omega (arith, c.depth.ensures.value, c.from-2.ensures, c.if-depth-from.false) in
    let t = enclosed k c.args.copied c.args.args in
    let led = dropped (g.W.World.stored c.args.w.now) (g.W.World.stored c.make.new.w) (g.W.World.stored c.drop_values.new.w) (g.W.World.layout c.args.w.now) (g.W.World.layout c.make.new.w) (g.W.World.layout c.drop_values.new.w) (g.W.World.view c.make.new.w) (g.W.World.view c.drop_values.new.w) (add_of k (new_closure k c.args.copied c.args.args)) c.args.copied 1 0 c.in-Ok.ensures.leads c.drop_values.ensures in
    let here : nat_lt (depth_of (g.W.World.view c.drop_values.new.w)) (size_of (g.W.World.view c.drop_values.new.w)) ≡ false = grind (arith) in
    let room = room-alike (g.W.World.view c.drop_values.new.w) t false led.state (sym here) in
    subst (λ (n : ℕ). MakesAtMost n (g.W.World.layout c.args.w.now) (g.W.World.stored c.args.w.now) (g.W.World.stored c.drop_values.new.w)) (sym (closure-over k c.args.copied c.args.args c.args.size c.in-Some.pc lies enough room).looks) led.contexts

pub returns-clause-contexts : goal.returns-clause-contexts
returns-clause-contexts g c = λ _.
    let k = g.W.World.view c.args.w.now in
    let running = c.requires.ready.running in
    let below = c.requires.ready.sound.births in
    let offset : to_z w32 (of_z w32 c.from.result) ≡ pos c.args.size = omega (arith, ints, c.from.ensures, c.ranges.size) in
    let lies : pc_after k (pos c.args.size) ≡ Some c.in-Some.pc = ap (pc_after k) (sym offset) ∙ sym c.pc_after.ensures.value ∙ c.in-Some.is in
    let enough : c.args.copied ≤ depth_of k = omega (arith, c.depth.ensures.value, c.from-2.ensures, c.if-depth-from.false) in
    let t = enclosed k c.args.copied c.args.args in
    let led = dropped (g.W.World.stored c.args.w.now) (g.W.World.stored c.make.new.w) (g.W.World.stored c.drop_values.new.w) (g.W.World.layout c.args.w.now) (g.W.World.layout c.make.new.w) (g.W.World.layout c.drop_values.new.w) (g.W.World.view c.make.new.w) (g.W.World.view c.drop_values.new.w) (add_of k (new_closure k c.args.copied c.args.args)) c.args.copied 1 0 c.in-Ok.ensures.leads c.drop_values.ensures in
    let here : nat_lt (depth_of (g.W.World.view c.drop_values.new.w)) (size_of (g.W.World.view c.drop_values.new.w)) ≡ true = grind (arith) in
    let room = room-alike (g.W.World.view c.drop_values.new.w) t true led.state (sym here) in
    let named = c.drop_values.ensures.names c.in-Ok.closure c.in-Ok.ensures.value.sound in
    let is : name_of (g.W.World.stored c.drop_values.new.w) c.in-Ok.closure ≡ next_ref k = named.is ∙ c.in-Ok.ensures.value.is in
    let e = c.push.ensures in
    let pushed_led = subst (λ x. Leads (g.W.World.stored c.args.w.now) (g.W.World.stored c.push.new.self) (g.W.World.layout c.args.w.now) (g.W.World.layout c.push.new.self) (g.W.World.view c.push.new.self) (push_of t x) 1) is
    (then (g.W.World.stored c.args.w.now) (g.W.World.stored c.drop_values.new.w) (g.W.World.stored c.push.new.self) (g.W.World.layout c.args.w.now) (g.W.World.layout c.drop_values.new.w) (g.W.World.layout c.push.new.self) (g.W.World.view c.drop_values.new.w) (g.W.World.view c.push.new.self) t 1 0 (λ u. push_of u (name_of (g.W.World.stored c.drop_values.new.w) c.in-Ok.closure)) led e.state e.exact e.layout e.limit e.contexts e.ready e.names) in
    let f = c.set_pc.ensures in
    let all = then (g.W.World.stored c.args.w.now) (g.W.World.stored c.push.new.self) (g.W.World.stored c.set_pc.new.self) (g.W.World.layout c.args.w.now) (g.W.World.layout c.push.new.self) (g.W.World.layout c.set_pc.new.self) (g.W.World.view c.push.new.self) (g.W.World.view c.set_pc.new.self) (push_of t (next_ref k)) 1 0 (λ u. set_pc_of u c.in-Some.pc) pushed_led f.state f.exact f.layout f.limit f.contexts f.ready f.names in
    subst (λ (n : ℕ). MakesAtMost n (g.W.World.layout c.args.w.now) (g.W.World.stored c.args.w.now) (g.W.World.stored c.set_pc.new.self)) (sym (closure-pushed k c.args.copied c.args.args c.args.size c.in-Some.pc lies enough room).looks) all.contexts
