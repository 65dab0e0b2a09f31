use Rattle.std.proofs.Common.{true, ap, arith, rules, sym, ◌≡◌, ◌∙◌}
use Rattle.std.proofs.lemmas.Bool.Decides.{nat_tests}
use Rattle.cs_heap.specs.Format.{is_code}
use Rattle.cs_stack.proofs.Bytes.{header_there}
use Rattle.cs_stack.proofs.parts.Parts.first_byte.Goals as goal

pub method_header-requires : goal.method_header-requires
method_header-requires c =
    let code : is_code c.format.result ≡ true = grind (arith, nat_tests, rules, c.contains.ensures.value, c.if-contains.true) in
    header_there c.args.self.now c.requires.good c.args.o.0 c.requires.object (ap is_code (sym c.format.ensures.value) ∙ code)
