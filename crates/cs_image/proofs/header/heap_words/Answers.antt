use Rattle.std.proofs.Common.{◌≡◌, ◌+◌, ◌-◌, ◌*◌, ◌/◌, ◌≤◌, length, take, drop, length-drop, refl, ap, ◌∙◌, arith, rules}
use Rattle.std.proofs.lemmas.List.{length-take-le}
use Rattle.cs_model.specs.ImageFile.{words_in, heap_size}
use Rattle.cs_image.proofs.Bytes.{words_read, whole_written}
use Rattle.cs_image.proofs.header.heap_words.Goals as goal

pub read_u32_into-requires : goal.read_u32_into-requires
read_u32_into-requires c =
    let behind = length-drop 64 c.args.bytes.now in
    let taken : 64 + c.u32_at.result - 64 ≡ heap_size c.args.bytes.now = omega (arith, c.u32_at.ensures) in
    let long : length (take (64 + c.u32_at.result - 64) (drop 64 c.args.bytes.now)) ≡ heap_size c.args.bytes.now =
    length-take-le (64 + c.u32_at.result - 64) (drop 64 c.args.bytes.now) (omega (arith, behind, taken, c.requires.long)) ∙ taken in
    let size : length c.deref_mut.result.now ≡ length (take (64 + c.u32_at.result - 64) (drop 64 c.args.bytes.now)) / 4 = search rules in
    omega (arith, size, long, c.requires.whole)

pub returns : goal.returns
unfolding words_in
returns c =
    let behind = length-drop 64 c.args.bytes.now in
    let taken : 64 + c.u32_at.result - 64 ≡ heap_size c.args.bytes.now = omega (arith, c.u32_at.ensures) in
    let long : length (take (64 + c.u32_at.result - 64) (drop 64 c.args.bytes.now)) ≡ heap_size c.args.bytes.now =
    length-take-le (64 + c.u32_at.result - 64) (drop 64 c.args.bytes.now) (omega (arith, behind, taken, c.requires.long)) ∙ taken in
    let size : length c.deref_mut.result.now ≡ length (take (64 + c.u32_at.result - 64) (drop 64 c.args.bytes.now)) / 4 = search rules in
    let n : length c.read_u32_into.new.dst ≡ heap_size c.args.bytes.now / 4 = c.read_u32_into.auto.dst ∙ size ∙ ap (λ n. n / 4) long in
    let total : length c.in_ok-words.words.items ≡ c.in_ok-words.words.len = search rules in
    let all : length c.read_u32_into.new.dst ≡ c.in_ok-words.words.len = search rules in
    let fits : 4 * (heap_size c.args.bytes.now / 4) ≤ 64 + c.u32_at.result - 64 = omega (arith, taken) in
    whole_written c.read_u32_into.new.dst c.in_ok-words.words.items c.in_ok-words.words.len all total
    ∙ words_read c.args.bytes.now _ 64 (heap_size c.args.bytes.now / 4) (64 + c.u32_at.result - 64) c.read_u32_into.new.dst refl fits n c.read_u32_into.ensures
