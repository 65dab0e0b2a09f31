use Rattle.std.proofs.Common.{◌≡◌, ℕ, List, IfSome, Err, ap, subst, sym}
use Rattle.cs_cli.proofs.Texts.{text_faulty, text_too_long}
use Rattle.cs_cli.proofs.building.image_of_file.Goals as goal

pub returns-in-Ok-build-clause-builds : goal.returns-in-Ok-build-clause-builds
returns-in-Ok-build-clause-builds g c =
    let P : List ℕ → Type 0 = λ b. IfSome (g.S.Shelf.content c.args.shelf.now c.args.name.now) (λ held. b ≡ held) in
    record {
      text = c.as_slice.result.now;
      read = record { told = subst P (sym c.as_slice.ensures.value) c.in-Ok.ensures.whole; none = c.in-Ok-build.ensures.none };
      built = record { file = c.in-Ok-build.ensures.bytes; image = c.in-Ok-build.ensures.image };
      count = c.in-Ok-build.ensures.objects;
    }

pub returns-in-Err-TooLong-clause-builds : goal.returns-in-Err-TooLong-clause-builds
returns-in-Err-TooLong-clause-builds g c = text_too_long _ (c.in-Err-TooLong.ensures.too_long (ap Err c.in-Err-TooLong.field-0-is))

pub returns-clause-builds : goal.returns-clause-builds
returns-clause-builds g c =
    let content = g.S.Shelf.content c.args.shelf.now c.args.name.now in
    let P : List ℕ → Type 0 = λ b. IfSome content (λ held. b ≡ held) in
    text_faulty content c.as_slice.result.now c.in-Err.error (subst P (sym c.as_slice.ensures.value) c.in-Ok.ensures.whole) c.in-Err.ensures.fault
