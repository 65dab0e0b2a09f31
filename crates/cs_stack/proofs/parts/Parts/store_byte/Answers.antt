use Rattle.std.proofs.Common.{ℕ, ◌<◌, ◌+◌, ◌≡◌, ◌^◌, arith, ap, sym, ◌∙◌}
use Rattle.cs_classes.proofs.Heaps.{is_object-object_at}
use Rattle.cs_stack.specs.Moved.{first_byte}
use Rattle.cs_stack.proofs.Bytes.{Writable, byte_few, byte_view, byte_written, writable}
use Rattle.cs_stack.proofs.parts.Parts.store_byte.Goals as goal

pub first_byte-first-requires-clause-object : goal.first_byte-first-requires-clause-object
first_byte-first-requires-clause-object c =
    let can = writable c.args.self.now c.requires.good c.args.o c.args.i c.args.b (omega arith) c.requires.object c.requires.there in
    is_object-object_at c.args.self.now.heap.objects c.args.o.0 can.alters.x can.alters.there

pub overflow_add-first : goal.overflow_add-first
overflow_add-first c =
    let w = c.args.self.now in
    let can = writable w c.requires.good c.args.o c.args.i c.args.b (omega arith) c.requires.object c.requires.there in
    let few : first_byte w.heap.objects c.args.o.0 + c.args.i < 2 ^ 32 =
    byte_few w c.requires.good c.args.o.0 _ (is_object-object_at w.heap.objects c.args.o.0 can.alters.x can.alters.there) can.within in
    omega (arith, few, c.first_byte-first.ensures)

pub set_byte-requires : goal.set_byte-requires
set_byte-requires c =
    let can = writable c.args.self.now c.requires.good c.args.o c.args.i c.args.b (omega arith) c.requires.object c.requires.there in
    omega (arith, can.within, c.first_byte-first.ensures)

pub returns-clause-good : goal.returns-clause-good
returns-clause-good c =
    (byte_written c.args.self.now c.requires.good c.args.o c.args.i c.args.b _ _ (omega arith) c.requires.object c.requires.there (ap (λ n. n + c.args.i) c.first_byte-first.ensures) c.set_byte.ensures).good

pub returns-clause-view : goal.returns-clause-view
returns-clause-view c =
    byte_view c.args.self.now _ c.args.o c.args.i c.args.b
    (byte_written c.args.self.now c.requires.good c.args.o c.args.i c.args.b _ _ (omega arith) c.requires.object c.requires.there (ap (λ n. n + c.args.i) c.first_byte-first.ensures) c.set_byte.ensures)

pub returns-clause-names : goal.returns-clause-names
returns-clause-names c =
    (byte_written c.args.self.now c.requires.good c.args.o c.args.i c.args.b _ _ (omega arith) c.requires.object c.requires.there (ap (λ n. n + c.args.i) c.first_byte-first.ensures) c.set_byte.ensures).names

pub returns-clause-contexts : goal.returns-clause-contexts
returns-clause-contexts c =
    omega (arith, (byte_written c.args.self.now c.requires.good c.args.o c.args.i c.args.b _ _ (omega arith) c.requires.object c.requires.there (ap (λ n. n + c.args.i) c.first_byte-first.ensures) c.set_byte.ensures).contexts)
