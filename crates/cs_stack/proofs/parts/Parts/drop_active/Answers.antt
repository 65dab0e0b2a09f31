use Rattle.std.proofs.Common.{refl}
use Rattle.cs_stack.proofs.CutFrames.{drop_alone, drop_below}
use Rattle.cs_stack.proofs.Leaving.{next_some}
use Rattle.cs_stack.proofs.Tops.{opened}
use Rattle.cs_stack.proofs.parts.Parts.drop_active.Goals as goal

pub returns-in-Some : goal.returns-in-Some
returns-in-Some c =
    let w = c.args.self.now in
    let o = opened w c.requires.good c.requires.ready in
    record {
      fades = drop_below c.requires.good c.requires.ready o (next_some w c.requires.ready c.requires.sender) c.top-top.result c.top-top.ensures.is c.drop_top.new.self c.drop_top.ensures.rest
          (λ b. let no = c.in-Some.ensures.none.1 b in absurd (cc));
    }

pub returns-in-None : goal.returns-in-None
returns-in-None c =
    let w = c.args.self.now in
    let o = opened w c.requires.good c.requires.ready in
    record {
      fades = drop_alone c.requires.good c.requires.ready o (next_some w c.requires.ready c.requires.sender) c.top-top.result c.top-top.ensures.is c.drop_top-in-None.new.self c.drop_top-in-None.ensures.rest
          (c.in-None.ensures.none.0 refl) c.free.new.self (record { freed = c.free.ensures.freed; free = c.free.ensures.is_free; others = c.free.ensures.others; sound = c.free.ensures.sound });
    }
