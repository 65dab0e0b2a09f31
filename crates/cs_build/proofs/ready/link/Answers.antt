use Rattle.std.proofs.Common.{◌≡◌, ℕ, cond, List, Some, None, Option, Bor, ap, sym, ◌∙◌, if◌then◌else◌}
use Rattle.std.specs.Prelude.{option_map, option_and_then}
use Rattle.std.specs.Str.{bytes_eq}
use Rattle.cs_build.specs.Numbered.{name_number}
use Rattle.cs_build.specs.Queued.{link_at, linked_behind}
use Rattle.cs_build.proofs.Queueing.{link_none, link_some}
use Rattle.cs_build.proofs.ready.link.Goals as goal

L : Option (Option (Bor (List ℕ))) → Option (List ℕ)
L o = option_and_then (λ (p : Option (Bor (List ℕ))). option_map (λ (n : Bor (List ℕ)). n.now) p) o

pub returns-in_ok-insert-2 : goal.returns-in_ok-insert-2
unfolding L
returns-in_ok-insert-2 c = λ q.
    let one : name_number c.insert.new.self q ≡ cond (bytes_eq c.args.name.now q) (Some None) (name_number c.args.links.now q) =
    c.in_ok-insert.ensures.updates.0 (record { ref_ptr = (0, 0); now = q }) in
    let two : name_number c.insert-in-Some.new.self q ≡ cond (bytes_eq c.in-Some.last.now q) (Some (Some c.args.name)) (name_number c.insert.new.self q) =
    c.in_ok-insert-2.ensures.updates.0 (record { ref_ptr = (0, 0); now = q }) in
    ap L two ∙ link_some (bytes_eq c.in-Some.last.now q) c.args.name (name_number c.insert.new.self q)
    ∙ ap (λ (o : Option (List ℕ)). if bytes_eq c.in-Some.last.now q then Some c.args.name.now else o)
    (ap L one ∙ link_none (bytes_eq c.args.name.now q) (name_number c.args.links.now q))
    ∙ ap (λ (l : Option (Bor (List ℕ))). linked_behind (option_map (λ (n : Bor (List ℕ)). n.now) l) c.args.name.now q (link_at c.args.links.now q)) (sym c.in-Some.is)

pub returns-in_default : goal.returns-in_default
unfolding L
returns-in_default c = λ q.
    let one : name_number c.insert.new.self q ≡ cond (bytes_eq c.args.name.now q) (Some None) (name_number c.args.links.now q) =
    c.in_ok-insert.ensures.updates.0 (record { ref_ptr = (0, 0); now = q }) in
    ap L one ∙ link_none (bytes_eq c.args.name.now q) (name_number c.args.links.now q)
    ∙ ap (λ (l : Option (Bor (List ℕ))). linked_behind (option_map (λ (n : Bor (List ℕ)). n.now) l) c.args.name.now q (link_at c.args.links.now q)) (sym c.in_default.is)
