use Rattle.std.proofs.Common.{◌≡◌, ℕ, ◌+◌, ◌*◌, ◌<◌, ◌≤◌, true, false, [], ◌∷◌, ◌++◌, length, subst, arith, rules}
use Rattle.cs_model.specs.ImageFile.{is_visible}
use Rattle.cs_heap.specs.Object.{base, header_address, size}
use Rattle.cs_image.specs.Heap.{seen}
use Rattle.cs_image.proofs.Placing.{none_placed, placed_hidden, placed_visible, over, all_placed}
use Rattle.std.proofs.lemmas.Bool.Decides.{nat_tests}
use Rattle.cs_image.proofs.memory.addresses.Goals as goal
use Rattle.cs_image.proofs.memory.addresses.Goals.{then-o-eq16+in_ok-push, else-o-eq16+in_ok-push-2+else-used-from}

pub loop-number-init : goal.loop-number-init
loop-number-init c = rw (c.new-addresses.ensures.items) (none_placed c.args.file.now.objects c.args.limit_words)

pub loop-number-preserved : goal.loop-number-preserved
loop-number-preserved c = elim c.if-o-eq16.branch [
  | then-o-eq16+in_ok-push w ↦
      let addresses : c.if-o-eq16.addresses.items ≡ c.loop-number.addresses.items ++ 0 ∷ [] = search rules in
      let hidden : is_visible (seen c.object-o.result) ≡ false = grind (arith, nat_tests, w.if-o-eq16.true) in
      rw (addresses, w.used-is) (placed_hidden c.args.file.now.objects c.loop-number.addresses.items c.loop-number.used c.loop-number.number c.args.limit_words
      (seen c.object-o.result) c.loop-number.invariant c.object-o.ensures.value hidden)
  | else-o-eq16+in_ok-push-2+else-used-from w ↦
      let addresses : c.if-o-eq16.addresses.items ≡ c.loop-number.addresses.items ++ header_address (base + 4 * c.loop-number.used) (length c.object-o.result.words.now) ∷ [] = search rules in
      let used : c.if-o-eq16.used ≡ c.loop-number.used + size (length c.object-o.result.words.now) = search rules in
      let visible_one : is_visible (seen c.object-o.result) ≡ true = grind (arith, nat_tests, w.if-o-eq16.false) in
      let fits : c.loop-number.used + size (length c.object-o.result.words.now) ≤ c.args.limit_words =
      (let P : ℕ → Type 0 = λ n. c.loop-number.used + n ≤ c.args.limit_words in
      let Q : ℕ → Type 0 = λ m. c.loop-number.used + w.size-used.result ≤ m in
      subst P w.size-used.ensures (subst Q w.from.ensures w.if-used-from.false)) in
      rw (addresses, used) (placed_visible c.args.file.now.objects c.loop-number.addresses.items c.loop-number.used c.loop-number.number c.args.limit_words
      (seen c.object-o.result) c.loop-number.invariant c.object-o.ensures.value visible_one fits)
]

pub returns-then-used-from : goal.returns-then-used-from
returns-then-used-from c =
    let visible_one : is_visible (seen c.object-o.result) ≡ true = grind (arith, nat_tests, c.if-o-eq16.false) in
    over c.args.file.now c.loop-number.used c.loop-number.number c.args.limit_words (seen c.object-o.result) c.loop-number.addresses.items c.loop-number.invariant
    c.object-o.ensures.value visible_one
    (let P : ℕ → Type 0 = λ n. c.args.limit_words < c.loop-number.used + n in
    let Q : ℕ → Type 0 = λ m. m < c.loop-number.used + c.size-used.result in
    subst P c.size-used.ensures (subst Q c.from.ensures c.if-used-from.true))

pub returns : goal.returns
returns c = all_placed c.args.file.now c.loop-number.used c.loop-number.number c.args.limit_words c.loop-number.addresses.items c.loop-number.invariant (omega arith)
