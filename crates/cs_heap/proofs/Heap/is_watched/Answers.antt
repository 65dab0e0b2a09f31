use Rattle.std.proofs.Common.{◌≡◌, ℕ, ◌+◌, ◌*◌, eqb, ap, refl, sym, ◌∙◌, arith}
use Rattle.std.specs.Ordering.{nat_cmp}
use Rattle.std.specs.FinSet.{FinSet, contains}
use Rattle.cs_heap.specs.Object.{base}
use Rattle.cs_heap.proofs.Seen.{read_is, seen, there_is, watched_seen}
use Rattle.cs_heap.proofs.Watching.{watched_in-at}
use Rattle.cs_heap.proofs.Heap.is_watched.Goals as goal

pub unit_of-requires : goal.unit_of-requires
unit_of-requires c = (seen c.self.inside c.args.self.now c.self.invariant c.self.view_is c.args.o.0 c.requires).known_there.above

pub index-requires : goal.index-requires
index-requires c = let s = seen c.self.inside c.args.self.now c.self.invariant c.self.view_is c.args.o.0 c.requires in
    omega (arith, (there_is c.self.inside c.args.self.now.objects c.args.o.0 s).marks_within, c.unit_of.ensures, c.self.inside.marks.ok.0)

pub returns : goal.returns
returns c =
    let s = seen c.self.inside c.args.self.now c.self.invariant c.self.view_is c.args.o.0 c.requires in
    let t = there_is c.self.inside c.args.self.now.objects c.args.o.0 s in
    let u : ℕ = c.unit_of.result in
    let place : c.args.o.0 ≡ base + 8 * u = omega (arith, c.unit_of.ensures, s.known_there.aligned) in
    ap (λ (n : ℕ). eqb n 2) (read_is c.self.inside.marks.items u u c.index.result.now refl (omega (arith, t.marks_within, c.unit_of.ensures)) c.index.ensures)
    ∙ sym (watched_in-at c.self.inside.marks.items base u c.args.o.0 place)
    ∙ ap (λ (w : FinSet nat_cmp). contains w c.args.o.0) (watched_seen c.self.inside c.args.self.now c.self.view_is)
