use Rattle.std.proofs.Common.{◌++◌, [], ℕ, List}
use Rattle.std.specs.Prelude.{None, codes, decimal}
use Rattle.std.specs.Option.{option_map_or}
use Rattle.cs_model.specs.Print.{ref_text}
use Rattle.cs_model.specs.State.{active_process}
use Rattle.cs_classes.specs.Meaning.{kept_of}
use Rattle.cs_inspect.proofs.Texts.{ends, joins}
use Rattle.cs_inspect.proofs.Meanings.{head_whole}
use Rattle.cs_inspect.proofs.push_head_line.Goals as goal

pub returns : goal.returns
returns c =
    let next : List ℕ = decimal c.args.l.now.roots.next_birth in
    let last : List ℕ = decimal c.args.l.now.roots.last_hash in
    let process : List ℕ = option_map_or ref_text (active_process (kept_of c.args.l.now.heap.objects c.args.l.now.classes c.args.l.now.roots None)) [] in
    let a : List ℕ = codes "image next=" ++ next in
    let b : List ℕ = codes " last=" ++ last in
    let d : List ℕ = codes " active=" in
    ends c.push_text-2.result c.push_text-2.new.text.items c.push_process.new.text.items c.args.text.now.items (a ++ b ++ d ++ process) _ _ c.push_text-2.ensures
    (joins c.args.text.now.items (a ++ b ++ d) process c.push_text.new.text.items c.push_process.new.text.items
    (joins c.args.text.now.items (a ++ b) d c.push_field-2.new.text.items c.push_text.new.text.items
    (joins c.args.text.now.items a b c.push_field.new.text.items c.push_field-2.new.text.items c.in_ok-push_field.ensures c.in_ok-push_field-2.ensures)
    c.in_ok-push_text.ensures)
    c.in_ok-push_process.ensures)
    (head_whole (codes "image next=") next (codes " last=") last (codes " active=") process (codes "\n"))
