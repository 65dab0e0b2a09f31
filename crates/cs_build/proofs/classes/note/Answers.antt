use Rattle.std.proofs.Common.{◌≡◌, Some, None, ℕ, refl, ◌∙◌, rules, Option, false, is_some}
use Rattle.std.proofs.lemmas.Map.Text.{hash_map_updates_str}
use Rattle.cs_build.specs.Numbered.{name_number}
use Rattle.cs_build.proofs.Noting.{note_new}
use Rattle.cs_build.proofs.classes.note.Goals as goal

none_from : (o : Option ℕ) → is_some o ≡ false → o ≡ None
none_from None h = refl
none_from (Some n) h = absurd (cc)

pub returns-in_ok-insert : goal.returns-in_ok-insert
returns-in_ok-insert c =
    let none : name_number c.args.numbers.now c.args.name.now ≡ None = none_from (name_number c.args.numbers.now c.args.name.now) (search (rules, c.contains_key.ensures, c.if-not-contains_key.true)) in
    λ q. hash_map_updates_str c.args.name.now c.args.numbers.now c.insert.new.self (Some c.args.number) c.in_ok-insert.ensures.updates q
    ∙ note_new (name_number c.args.numbers.now) c.args.name.now c.args.number q none
