use Rattle.std.proofs.Common.{◌≡◌, ◌∙◌, ◌+◌, ℕ, refl, ap, subst, true, false, nat_lt, arith, is_some}
use Rattle.cs_model.specs.declared.stop.Stop.TheVariants as why
use Rattle.cs_model.specs.State.{Kept, object_of}
use Rattle.cs_model.specs.Exec.{push_field}
use Rattle.cs_model.specs.Read.{depth_of, size_of}
use Rattle.cs_acts.specs.Full.{CausesFull}
use Rattle.cs_acts.specs.Made.{MakesAtMost, made_by_reading}
use Rattle.cs_acts.specs.Names.{name_of}
use Rattle.cs_acts.specs.Targets.{field_of}
use Rattle.cs_code.proofs.Looking.{field-looks, field-over-as, field-pushed-as, field-refused, pushed-given, stopped-given}
use Rattle.cs_acts.proofs.Leading.{made-trans, names-trans}
use Rattle.cs_code.proofs.contexts.push_context_field.Goals as goal

pub returns-then-not-has_room-clause-gives : goal.returns-then-not-has_room-clause-gives
returns-then-not-has_room-clause-gives g c = λ _.
    let k = g.W.World.view c.args.w.now in
    let r = name_of (g.W.World.stored c.args.w.now) c.args.context in
    let there : is_some (field_of k r c.args.i) ≡ true = grind (arith) in
    let here : nat_lt (depth_of (g.W.World.view c.has_field.new.w)) (size_of (g.W.World.view c.has_field.new.w)) ≡ false = grind (arith) in
    let room : nat_lt (depth_of k) (size_of k) ≡ false = subst (λ (v : Kept). nat_lt (depth_of v) (size_of v) ≡ false) c.has_field.ensures.view here in
    stopped-given (g.W.World.stored c.args.w.now) (g.W.World.stored c.has_field.new.w) (g.W.World.layout c.args.w.now) k (g.W.World.view c.has_field.new.w) _ why.StackOver (field-over-as k c.args.i r c.requires.context there room)
    c.has_field.ensures.view c.has_field.ensures.ready c.has_field.ensures.names

pub returns-in-Ok-clause-gives : goal.returns-in-Ok-clause-gives
returns-in-Ok-clause-gives g c = λ _.
    let k = g.W.World.view c.args.w.now in
    let s = g.W.World.stored c.args.w.now in
    let t = g.W.World.stored c.context_get.new.self in
    let r = name_of s c.args.context in
    let v = g.W.World.view c.has_field.new.w in
    let here : nat_lt (depth_of v) (size_of v) ≡ true = grind (arith) in
    let room : nat_lt (depth_of k) (size_of k) ≡ true = subst (λ (v : Kept). nat_lt (depth_of v) (size_of v) ≡ true) c.has_field.ensures.view here in
    let is = c.in-Ok.ensures.value.is ∙ ap (λ (x : _). field_of v x c.args.i) (c.has_field.ensures.names c.args.context c.requires.named).is ∙ ap (λ (u : Kept). field_of u r c.args.i) c.has_field.ensures.view in
    pushed-given s t (g.W.World.stored c.push.new.self) (g.W.World.layout c.args.w.now) (g.W.World.layout c.context_get.new.self) k (g.W.World.view c.context_get.new.self) (g.W.World.view c.push.new.self) _
    c.in-Ok.x (name_of t c.in-Ok.x) (field-pushed-as k c.args.i r (name_of t c.in-Ok.x) c.requires.context is room) (c.in-Ok.ensures.view ∙ c.has_field.ensures.view) (c.in-Ok.ensures.layout ∙ c.has_field.ensures.layout) refl c.in-Ok.ensures.sound.closed c.push.ensures.state c.push.ensures.exact
    (names-trans s (g.W.World.stored c.has_field.new.w) t c.has_field.ensures.names c.in-Ok.ensures.names) c.push.ensures.ready c.push.ensures.names

pub returns-in-Err-clause-full : goal.returns-in-Err-clause-full
returns-in-Err-clause-full g c why is =
    let k = g.W.World.view c.args.w.now in
    let t = g.W.World.stored c.context_get.new.self in
    let r = name_of (g.W.World.stored c.args.w.now) c.args.context in
    let v = g.W.World.view c.has_field.new.w in
    let there : is_some (field_of k r c.args.i) ≡ true = grind (arith) in
    let here : nat_lt (depth_of v) (size_of v) ≡ true = grind (arith) in
    let room : nat_lt (depth_of k) (size_of k) ≡ true = subst (λ (v : Kept). nat_lt (depth_of v) (size_of v) ≡ true) c.has_field.ensures.view here in
    field-refused t (g.W.World.layout c.args.w.now) k v c.args.i r c.in-Err.why why is c.in-Err.ensures.heap_alone c.requires.ready.running c.requires.context there room c.has_field.ensures.view
    (subst (λ l. CausesFull t l v 0 v c.in-Err.why) c.has_field.ensures.layout c.in-Err.ensures.full)

pub returns-in-Ok-clause-contexts : goal.returns-in-Ok-clause-contexts
returns-in-Ok-clause-contexts g c = λ _.
    let k = g.W.World.view c.args.w.now in
    let l = g.W.World.layout c.args.w.now in
    let s = g.W.World.stored c.args.w.now in
    let mid = g.W.World.stored c.has_field.new.w in
    let t = g.W.World.stored c.context_get.new.self in
    let u = g.W.World.stored c.push.new.self in
    let r = name_of s c.args.context in
    let v = g.W.World.view c.has_field.new.w in
    let is = c.in-Ok.ensures.value.is ∙ ap (λ (x : _). field_of v x c.args.i) (c.has_field.ensures.names c.args.context c.requires.named).is ∙ ap (λ (u : Kept). field_of u r c.args.i) c.has_field.ensures.view in
    let looks : 0 + made_by_reading c.args.i + 0 ≡ (push_field k c.args.i (object_of k r)).count.looks = omega (arith, field-looks k c.args.i r (name_of t c.in-Ok.x) c.requires.context is) in
    subst (λ (n : ℕ). MakesAtMost n l s u) looks
    (made-trans l (g.W.World.layout c.context_get.new.self) s t u (0 + made_by_reading c.args.i) 0 (c.in-Ok.ensures.layout ∙ c.has_field.ensures.layout)
    (made-trans l (g.W.World.layout c.has_field.new.w) s mid t 0 (made_by_reading c.args.i) c.has_field.ensures.layout c.has_field.ensures.contexts c.in-Ok.ensures.contexts) c.push.ensures.contexts)
