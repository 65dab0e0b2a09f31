use Rattle.std.proofs.Common.{◌≡◌, ◌∙◌, ◌+◌, ◌<◌, pos, sym, ap, subst, arith, to_z, of_z, w32, List, ◌∷◌, replicate}
use Rattle.std.proofs.lemmas.Int.{ints}
use Rattle.cs_heap.specs.Object.{size}
use Rattle.cs_acts.specs.Made.{blank_of}
use Rattle.cs_model.specs.Ref.{Ref, Small}
use Rattle.cs_model.specs.Ref as ref
use Rattle.cs_model.specs.State.{Kept}
use Rattle.cs_model.specs.Read.{active_birth, pc_of}
use Rattle.cs_model.specs.Operation.{add_of, next_ref, nil_of}
use Rattle.cs_acts.specs.Full.{CausesFull}
use Rattle.cs_acts.specs.Names.{name_of}
use Rattle.cs_model.specs.Obj.{new_head}
use Rattle.cs_code.specs.Closures.{bare_closure}
use Rattle.cs_code.proofs.Adding.{cause-added, storable-added}
use Rattle.cs_code.proofs.Closing.{bare-refused, can-make, made-bare, written}
use Rattle.cs_code.proofs.closures.begin.Goals as goal

pub returns-in-Err-clause-full : goal.returns-in-Err-clause-full
returns-in-Err-clause-full g c =
    let k = g.W.World.view c.args.w.now in
    cause-added (g.W.World.stored c.this_context.new.self) (g.W.World.layout c.args.w.now) k (bare_closure k c.args.copied c.args.args) _ c.in-Err.why c.in-Err.ensures.full

pub allocate-requires-clause-fits : goal.allocate-requires-clause-fits
allocate-requires-clause-fits g c =
    can-make (g.W.World.stored c.this_context.new.self) (g.W.World.view c.this_context.new.self) _ c.in-Ok.ensures.sound (subst (λ (t : Kept). t.rest.next < 4611686018427387904) (sym c.in-Ok.ensures.view) c.requires.births)

pub returns-in-Err-allocate-clause-full : goal.returns-in-Err-allocate-clause-full
returns-in-Err-allocate-clause-full g c =
    let k = g.W.World.view c.args.w.now in
    bare-refused (g.W.World.stored c.allocate.new.self) (g.W.World.layout c.args.w.now) k (g.W.World.view c.this_context.new.self) c.args.copied c.args.args c.from.result c.in-Err-allocate.why c.from.ensures c.in-Ok.ensures.view
    (subst (λ l. CausesFull (g.W.World.stored c.allocate.new.self) l (g.W.World.view c.this_context.new.self) (size (3 + c.from.result)) (add_of (g.W.World.view c.this_context.new.self) (blank_of (g.W.World.view c.this_context.new.self) 37 3 (3 + c.from.result))) c.in-Err-allocate.why) c.in-Ok.ensures.layout c.in-Err-allocate.ensures.full)

pub store-requires-clause-there : goal.store-requires-clause-there
store-requires-clause-there g c =
    let k = g.W.World.view c.args.w.now in
    let same = c.in-Ok.ensures.view in
    let a = c.in-Ok-allocate.ensures in
    let made = made-bare (g.W.World.stored c.args.w.now) (g.W.World.stored c.this_context.new.self) (g.W.World.stored c.allocate.new.self) (g.W.World.layout c.args.w.now) (g.W.World.layout c.this_context.new.self) (g.W.World.layout c.allocate.new.self) k (g.W.World.view c.this_context.new.self) (g.W.World.view c.allocate.new.self) c.args.copied c.from.result c.from.ensures c.requires.ready same c.in-Ok.ensures.layout c.in-Ok.ensures.limit c.in-Ok.ensures.contexts c.in-Ok.ensures.sound c.in-Ok.ensures.names
    a.state a.exact a.layout a.limit a.contexts a.ready a.names in
    let rest : List Ref = replicate c.args.copied (nil_of k) in
    let n : Ref = nil_of k in
    let at_made = a.value.is ∙ ap (λ (t : Kept). next_ref t) same in
    storable-added (g.W.World.view c.allocate.new.self) k (new_head 37 3) 0 (n ∷ n ∷ n ∷ rest) (name_of (g.W.World.stored c.allocate.new.self) c.in-Ok-allocate.closure) made.state at_made (omega arith)

pub store-requires-2-clause-there : goal.store-requires-2-clause-there
store-requires-2-clause-there g c =
    let k = g.W.World.view c.args.w.now in
    let same = c.in-Ok.ensures.view in
    let a = c.in-Ok-allocate.ensures in
    let made = made-bare (g.W.World.stored c.args.w.now) (g.W.World.stored c.this_context.new.self) (g.W.World.stored c.allocate.new.self) (g.W.World.layout c.args.w.now) (g.W.World.layout c.this_context.new.self) (g.W.World.layout c.allocate.new.self) k (g.W.World.view c.this_context.new.self) (g.W.World.view c.allocate.new.self) c.args.copied c.from.result c.from.ensures c.requires.ready same c.in-Ok.ensures.layout c.in-Ok.ensures.limit c.in-Ok.ensures.contexts c.in-Ok.ensures.sound c.in-Ok.ensures.names
    a.state a.exact a.layout a.limit a.contexts a.ready a.names in
    let rest : List Ref = replicate c.args.copied (nil_of k) in
    let n : Ref = nil_of k in
    let at_made = a.value.is ∙ ap (λ (t : Kept). next_ref t) same in
    let first = c.store.ensures in
    let x_first : name_of (g.W.World.stored c.allocate.new.self) c.in-Ok.context ≡ ref.Obj (active_birth k) = (a.names c.in-Ok.context c.in-Ok.ensures.value.sound).is ∙ c.in-Ok.ensures.value.is in
    let with_first = written (g.W.World.stored c.args.w.now) (g.W.World.stored c.allocate.new.self) (g.W.World.stored c.store.new.self) (g.W.World.layout c.args.w.now) (g.W.World.layout c.allocate.new.self) (g.W.World.layout c.store.new.self) (g.W.World.view c.allocate.new.self) (g.W.World.view c.store.new.self) k (new_head 37 3) 0 (n ∷ n ∷ n ∷ rest) c.in-Ok-allocate.closure c.in-Ok.context (ref.Obj (active_birth k)) made at_made x_first
    first.state first.exact first.layout first.limit first.contexts (first.ready made.ready) first.names in
    let named_first = first.names c.in-Ok-allocate.closure a.value.sound in
    let at_first = named_first.is ∙ at_made in
    storable-added (g.W.World.view c.store.new.self) k (new_head 37 3) 1 (ref.Obj (active_birth k) ∷ n ∷ n ∷ rest) (name_of (g.W.World.stored c.store.new.self) c.in-Ok-allocate.closure) with_first.state at_first (omega arith)

pub store-requires-3-clause-there : goal.store-requires-3-clause-there
store-requires-3-clause-there g c =
    let k = g.W.World.view c.args.w.now in
    let same = c.in-Ok.ensures.view in
    let a = c.in-Ok-allocate.ensures in
    let made = made-bare (g.W.World.stored c.args.w.now) (g.W.World.stored c.this_context.new.self) (g.W.World.stored c.allocate.new.self) (g.W.World.layout c.args.w.now) (g.W.World.layout c.this_context.new.self) (g.W.World.layout c.allocate.new.self) k (g.W.World.view c.this_context.new.self) (g.W.World.view c.allocate.new.self) c.args.copied c.from.result c.from.ensures c.requires.ready same c.in-Ok.ensures.layout c.in-Ok.ensures.limit c.in-Ok.ensures.contexts c.in-Ok.ensures.sound c.in-Ok.ensures.names
    a.state a.exact a.layout a.limit a.contexts a.ready a.names in
    let rest : List Ref = replicate c.args.copied (nil_of k) in
    let n : Ref = nil_of k in
    let at_made = a.value.is ∙ ap (λ (t : Kept). next_ref t) same in
    let first = c.store.ensures in
    let x_first : name_of (g.W.World.stored c.allocate.new.self) c.in-Ok.context ≡ ref.Obj (active_birth k) = (a.names c.in-Ok.context c.in-Ok.ensures.value.sound).is ∙ c.in-Ok.ensures.value.is in
    let with_first = written (g.W.World.stored c.args.w.now) (g.W.World.stored c.allocate.new.self) (g.W.World.stored c.store.new.self) (g.W.World.layout c.args.w.now) (g.W.World.layout c.allocate.new.self) (g.W.World.layout c.store.new.self) (g.W.World.view c.allocate.new.self) (g.W.World.view c.store.new.self) k (new_head 37 3) 0 (n ∷ n ∷ n ∷ rest) c.in-Ok-allocate.closure c.in-Ok.context (ref.Obj (active_birth k)) made at_made x_first
    first.state first.exact first.layout first.limit first.contexts (first.ready made.ready) first.names in
    let named_first = first.names c.in-Ok-allocate.closure a.value.sound in
    let at_first = named_first.is ∙ at_made in
    let second = c.store-2.ensures in
    let pc_made = a.names c.pc_word-pc.result c.pc_word-pc.ensures.sound in
    let x_second : name_of (g.W.World.stored c.store.new.self) c.pc_word-pc.result ≡ Small (pos (pc_of k)) = (first.names c.pc_word-pc.result pc_made.sound).is ∙ pc_made.is ∙ c.pc_word-pc.ensures.is ∙ ap (λ (t : Kept). Small (pos (pc_of t))) same in
    let with_second = written (g.W.World.stored c.args.w.now) (g.W.World.stored c.store.new.self) (g.W.World.stored c.store-2.new.self) (g.W.World.layout c.args.w.now) (g.W.World.layout c.store.new.self) (g.W.World.layout c.store-2.new.self) (g.W.World.view c.store.new.self) (g.W.World.view c.store-2.new.self) k (new_head 37 3) 1 (ref.Obj (active_birth k) ∷ n ∷ n ∷ rest) c.in-Ok-allocate.closure c.pc_word-pc.result (Small (pos (pc_of k))) with_first at_first x_second
    second.state second.exact second.layout second.limit second.contexts (second.ready with_first.ready) second.names in
    let at_second = (second.names c.in-Ok-allocate.closure named_first.sound).is ∙ at_first in
    storable-added (g.W.World.view c.store-2.new.self) k (new_head 37 3) 2 (ref.Obj (active_birth k) ∷ Small (pos (pc_of k)) ∷ n ∷ rest) (name_of (g.W.World.stored c.store-2.new.self) c.in-Ok-allocate.closure) with_second.state at_second (omega arith)

pub returns-clause-leads : goal.returns-clause-leads
returns-clause-leads g c =
    let k = g.W.World.view c.args.w.now in
    let same = c.in-Ok.ensures.view in
    let a = c.in-Ok-allocate.ensures in
    let made = made-bare (g.W.World.stored c.args.w.now) (g.W.World.stored c.this_context.new.self) (g.W.World.stored c.allocate.new.self) (g.W.World.layout c.args.w.now) (g.W.World.layout c.this_context.new.self) (g.W.World.layout c.allocate.new.self) k (g.W.World.view c.this_context.new.self) (g.W.World.view c.allocate.new.self) c.args.copied c.from.result c.from.ensures c.requires.ready same c.in-Ok.ensures.layout c.in-Ok.ensures.limit c.in-Ok.ensures.contexts c.in-Ok.ensures.sound c.in-Ok.ensures.names
    a.state a.exact a.layout a.limit a.contexts a.ready a.names in
    let rest : List Ref = replicate c.args.copied (nil_of k) in
    let n : Ref = nil_of k in
    let at_made = a.value.is ∙ ap (λ (t : Kept). next_ref t) same in
    let first = c.store.ensures in
    let x_first : name_of (g.W.World.stored c.allocate.new.self) c.in-Ok.context ≡ ref.Obj (active_birth k) = (a.names c.in-Ok.context c.in-Ok.ensures.value.sound).is ∙ c.in-Ok.ensures.value.is in
    let with_first = written (g.W.World.stored c.args.w.now) (g.W.World.stored c.allocate.new.self) (g.W.World.stored c.store.new.self) (g.W.World.layout c.args.w.now) (g.W.World.layout c.allocate.new.self) (g.W.World.layout c.store.new.self) (g.W.World.view c.allocate.new.self) (g.W.World.view c.store.new.self) k (new_head 37 3) 0 (n ∷ n ∷ n ∷ rest) c.in-Ok-allocate.closure c.in-Ok.context (ref.Obj (active_birth k)) made at_made x_first
    first.state first.exact first.layout first.limit first.contexts (first.ready made.ready) first.names in
    let named_first = first.names c.in-Ok-allocate.closure a.value.sound in
    let at_first = named_first.is ∙ at_made in
    let second = c.store-2.ensures in
    let pc_made = a.names c.pc_word-pc.result c.pc_word-pc.ensures.sound in
    let x_second : name_of (g.W.World.stored c.store.new.self) c.pc_word-pc.result ≡ Small (pos (pc_of k)) = (first.names c.pc_word-pc.result pc_made.sound).is ∙ pc_made.is ∙ c.pc_word-pc.ensures.is ∙ ap (λ (t : Kept). Small (pos (pc_of t))) same in
    let with_second = written (g.W.World.stored c.args.w.now) (g.W.World.stored c.store.new.self) (g.W.World.stored c.store-2.new.self) (g.W.World.layout c.args.w.now) (g.W.World.layout c.store.new.self) (g.W.World.layout c.store-2.new.self) (g.W.World.view c.store.new.self) (g.W.World.view c.store-2.new.self) k (new_head 37 3) 1 (ref.Obj (active_birth k) ∷ n ∷ n ∷ rest) c.in-Ok-allocate.closure c.pc_word-pc.result (Small (pos (pc_of k))) with_first at_first x_second
    second.state second.exact second.layout second.limit second.contexts (second.ready with_first.ready) second.names in
    let at_second = (second.names c.in-Ok-allocate.closure named_first.sound).is ∙ at_first in
    let third = c.store-3.ensures in
    let value : to_z w32 (of_z w32 c.from-2.result) ≡ pos c.args.args = omega (arith, ints, c.from-2.ensures, c.ranges.args) in
    let x_third : name_of (g.W.World.stored c.store-2.new.self) c.small_word.result ≡ Small (pos c.args.args) = (c.small_word.ensures (g.W.World.stored c.store-2.new.self)).is ∙ ap (λ z. Small z) value in
    written (g.W.World.stored c.args.w.now) (g.W.World.stored c.store-2.new.self) (g.W.World.stored c.store-3.new.self) (g.W.World.layout c.args.w.now) (g.W.World.layout c.store-2.new.self) (g.W.World.layout c.store-3.new.self) (g.W.World.view c.store-2.new.self) (g.W.World.view c.store-3.new.self) k (new_head 37 3) 2 (ref.Obj (active_birth k) ∷ Small (pos (pc_of k)) ∷ n ∷ rest) c.in-Ok-allocate.closure c.small_word.result (Small (pos c.args.args)) with_second at_second x_third
    third.state third.exact third.layout third.limit third.contexts (third.ready with_second.ready) third.names
