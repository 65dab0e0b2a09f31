use Rattle.std.proofs.Common.{ℕ, ◌≡◌, ◌≢◌, arith, ap, subst, sym, ◌∙◌, rules}
use Rattle.std.proofs.lemmas.Bool.Decides.{nat_tests}
use Rattle.cs_heap.specs.Object.{hash_at}
use Rattle.cs_stack.proofs.Hashes.{fixed_object, has_hash_by, hash_has, hash_new, hash_stays}
use Rattle.cs_stack.proofs.parts.Parts.hash_of.Goals as goal

pub hash-hash-requires : goal.hash-hash-requires
hash-hash-requires c = fixed_object c.args.self.now c.requires.good c.args.o c.requires.named c.requires.object

pub set_hash-requires-clause-object : goal.set_hash-requires-clause-object
set_hash-requires-clause-object c = fixed_object c.args.self.now c.requires.good c.args.o c.requires.named c.requires.object

pub returns-then-hash-ne0-clause-value : goal.returns-then-hash-ne0-clause-value
returns-then-hash-ne0-clause-value c =
    let ne : hash_at c.args.self.now.heap.objects c.args.o.0 ≢ 0 = λ e. grind (arith, nat_tests, e, c.hash-hash.ensures.value, c.if-hash-ne0.true) in
    c.hash-hash.ensures.value ∙ hash_has c.args.self.now c.requires.good c.args.o c.requires.named c.requires.object ne

pub returns-then-hash-ne0-clause-view : goal.returns-then-hash-ne0-clause-view
returns-then-hash-ne0-clause-view c =
    let ne : hash_at c.args.self.now.heap.objects c.args.o.0 ≢ 0 = λ e. grind (arith, nat_tests, e, c.hash-hash.ensures.value, c.if-hash-ne0.true) in
    hash_stays c.args.self.now c.requires.good c.args.o c.requires.named c.requires.object ne

pub returns-clause-good : goal.returns-clause-good
returns-clause-good c =
    let none : hash_at c.args.self.now.heap.objects c.args.o.0 ≡ 0 = grind (arith, nat_tests, c.hash-hash.ensures.value, c.if-hash-ne0.false) in
    (has_hash_by c.args.self.now c.requires.good c.args.o c.requires.named c.requires.object none c.next_hash-hash.result _ c.next_hash-hash.ensures c.set_hash.ensures).good

pub returns-clause-value : goal.returns-clause-value
returns-clause-value c =
    let none : hash_at c.args.self.now.heap.objects c.args.o.0 ≡ 0 = grind (arith, nat_tests, c.hash-hash.ensures.value, c.if-hash-ne0.false) in
    c.next_hash-hash.ensures ∙ hash_new c.args.self.now c.requires.good c.args.o c.requires.named c.requires.object none

pub returns-clause-view : goal.returns-clause-view
returns-clause-view c =
    let none : hash_at c.args.self.now.heap.objects c.args.o.0 ≡ 0 = grind (arith, nat_tests, c.hash-hash.ensures.value, c.if-hash-ne0.false) in
    (has_hash_by c.args.self.now c.requires.good c.args.o c.requires.named c.requires.object none c.next_hash-hash.result _ c.next_hash-hash.ensures c.set_hash.ensures).view

pub returns-clause-names : goal.returns-clause-names
returns-clause-names c =
    let none : hash_at c.args.self.now.heap.objects c.args.o.0 ≡ 0 = grind (arith, nat_tests, c.hash-hash.ensures.value, c.if-hash-ne0.false) in
    (has_hash_by c.args.self.now c.requires.good c.args.o c.requires.named c.requires.object none c.next_hash-hash.result _ c.next_hash-hash.ensures c.set_hash.ensures).names

pub returns-clause-contexts : goal.returns-clause-contexts
returns-clause-contexts c =
    let none : hash_at c.args.self.now.heap.objects c.args.o.0 ≡ 0 = grind (arith, nat_tests, c.hash-hash.ensures.value, c.if-hash-ne0.false) in
    omega (arith, (has_hash_by c.args.self.now c.requires.good c.args.o c.requires.named c.requires.object none c.next_hash-hash.result _ c.next_hash-hash.ensures c.set_hash.ensures).contexts)
