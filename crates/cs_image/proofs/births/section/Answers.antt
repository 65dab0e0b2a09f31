use Rattle.std.proofs.Common.{◌≡◌, ℕ, ◌+◌, ◌-◌, ◌*◌, ◌/◌, length, take, drop, length-drop, ap, ◌∙◌, arith, rules}
use Rattle.std.proofs.lemmas.List.{length-take-le}
use Rattle.cs_model.specs.ImageFile.{birth_count, heap_size}
use Rattle.cs_image.proofs.Bytes.{length-u64s_at, numbers_read, whole_written}
use Rattle.cs_image.proofs.Faults.{header_is}
use Rattle.cs_image.proofs.births.section.Goals as goal

pub read_u64_into-requires : goal.read_u64_into-requires
read_u64_into-requires c =
    let at : ℕ = 64 + c.u32_at.result + 16 in
    let ends = (header_is c.args.bytes.now c.requires.header).section c.requires.stands in
    let behind = length-drop at c.args.bytes.now in
    let long : length (take (length c.args.bytes.now - at) (drop at c.args.bytes.now)) ≡ 8 * birth_count c.args.bytes.now =
    length-take-le (length c.args.bytes.now - at) (drop at c.args.bytes.now) (omega (arith, behind)) ∙ omega (arith, ends, c.u32_at.ensures) in
    let size : length c.deref_mut.result.now ≡ length (take (length c.args.bytes.now - at) (drop at c.args.bytes.now)) / 8 = search rules in
    omega (arith, size, long)

pub returns-clause-births : goal.returns-clause-births
returns-clause-births c =
    let at : ℕ = 64 + c.u32_at.result + 16 in
    let place : at ≡ 80 + heap_size c.args.bytes.now = omega (arith, c.u32_at.ensures) in
    let ends = (header_is c.args.bytes.now c.requires.header).section c.requires.stands in
    let behind = length-drop at c.args.bytes.now in
    let left : length c.args.bytes.now - at ≡ 8 * birth_count c.args.bytes.now = omega (arith, ends, c.u32_at.ensures) in
    let long : length (take (length c.args.bytes.now - at) (drop at c.args.bytes.now)) ≡ 8 * birth_count c.args.bytes.now =
    length-take-le (length c.args.bytes.now - at) (drop at c.args.bytes.now) (omega (arith, behind)) ∙ left in
    let size : length c.deref_mut.result.now ≡ length (take (length c.args.bytes.now - at) (drop at c.args.bytes.now)) / 8 = search rules in
    let same : length c.read_u64_into.new.dst ≡ length c.deref_mut.result.now = c.read_u64_into.auto.dst in
    let n : length c.read_u64_into.new.dst ≡ birth_count c.args.bytes.now = omega (arith, same, size, long) in
    let total : length c.in_ok-births.births.items ≡ c.in_ok-births.births.len = search rules in
    let all : length c.read_u64_into.new.dst ≡ c.in_ok-births.births.len = search rules in
    whole_written c.read_u64_into.new.dst c.in_ok-births.births.items c.in_ok-births.births.len all total
    ∙ numbers_read c.args.bytes.now _ (80 + heap_size c.args.bytes.now) (birth_count c.args.bytes.now) (length c.args.bytes.now - at) c.read_u64_into.new.dst
    (ap (λ p. take (length c.args.bytes.now - at) (drop p c.args.bytes.now)) place) (omega (arith, left)) n c.read_u64_into.ensures

pub returns-clause-count : goal.returns-clause-count
returns-clause-count c = ap length (returns-clause-births c) ∙ length-u64s_at (birth_count c.args.bytes.now) c.args.bytes.now (80 + heap_size c.args.bytes.now)
