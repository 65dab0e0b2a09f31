use Rattle.std.proofs.Common.{◌≡◌, drop}
use Rattle.cs_model.specs.BuilderText.{op_named}
use Rattle.cs_build.proofs.code.op_named.Given as goal

abbrev pub invariant-loop-op : goal.invariant-loop-op
invariant-loop-op l = op_named l.word l.ops ≡ op_named l.word (drop l.op-index l.ops)
