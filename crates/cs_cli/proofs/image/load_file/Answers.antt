use Rattle.std.proofs.Common.{◌≡◌, ℕ, List, IfSome, Err, ap, subst, sym}
use Rattle.cs_classes.specs.declared.Loaded.{Loaded}
use Rattle.cs_cli.proofs.Images.{faulty, too_long}
use Rattle.cs_cli.proofs.image.load_file.Goals as goal

pub returns-in-Ok-load-clause-loads : goal.returns-in-Ok-load-clause-loads
returns-in-Ok-load-clause-loads g c =
    let P : List ℕ → Type 0 = λ b. IfSome (g.S.Shelf.content c.args.shelf.now c.args.name.now) (λ held. b ≡ held) in
    record {
      image = record {
        bytes = c.as_slice.result.now;
        told = subst P (sym c.as_slice.ensures.value) c.in-Ok.ensures.whole;
        state = c.in-Ok-load.ensures.state;
      };
      openable = record {
        whole = c.in-Ok-load.ensures.sound;
        births = c.in-Ok-load.ensures.next;
        pcs = c.in-Ok-load.ensures.pcs;
        senders = c.in-Ok-load.ensures.senders;
        nil = c.in-Ok-load.ensures.nil;
        running = c.in-Ok-load.ensures.opens;
      };
      words = c.in-Ok-load.ensures.limit;
    }

pub returns-in-Err-TooLong-clause-loads : goal.returns-in-Err-TooLong-clause-loads
returns-in-Err-TooLong-clause-loads g c = too_long _ c.args.limit (c.in-Err-TooLong.ensures.too_long (ap Err c.in-Err-TooLong.field-0-is))

pub returns-clause-loads : goal.returns-clause-loads
returns-clause-loads g c =
    let content = g.S.Shelf.content c.args.shelf.now c.args.name.now in
    let P : List ℕ → Type 0 = λ b. IfSome content (λ held. b ≡ held) in
    let Q : Loaded → Type 0 = λ _. Unit {0} in
    faulty Q content c.args.limit c.as_slice.result.now c.in-Err.error (subst P (sym c.as_slice.ensures.value) c.in-Ok.ensures.whole) c.in-Err.ensures.fault
