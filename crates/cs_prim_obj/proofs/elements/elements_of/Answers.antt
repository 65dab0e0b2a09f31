use Rattle.std.proofs.Common.{arith}
use Rattle.cs_prim_obj.proofs.Indexing.{code_bound}
use Rattle.cs_prim_obj.proofs.elements.elements_of.Goals as goal

pub overflow_add-from : goal.overflow_add-from
overflow_add-from g c =
    omega (arith, code_bound c.args.held c.in-Code.literals c.in-Code.count c.requires.most c.in-Code.is)

pub overflow_mul-from : goal.overflow_mul-from
overflow_mul-from g c =
    omega (arith, code_bound c.args.held c.in-Code.literals c.in-Code.count c.requires.most c.in-Code.is)

pub overflow_add-result : goal.overflow_add-result
overflow_add-result g c =
    omega (arith, code_bound c.args.held c.in-Code.literals c.in-Code.count c.requires.most c.in-Code.is)
