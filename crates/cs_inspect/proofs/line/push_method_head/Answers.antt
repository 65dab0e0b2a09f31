use Rattle.std.proofs.Common.{◌++◌, ℕ, List}
use Rattle.std.specs.Prelude.{codes, decimal}
use Rattle.cs_inspect.proofs.Texts.{ends, joins}
use Rattle.cs_inspect.proofs.Meanings.{method_head_whole}
use Rattle.cs_inspect.proofs.line.push_method_head.Goals as goal

pub returns : goal.returns
returns c =
    let a : List ℕ = codes " method class=" ++ decimal c.class_index.result in
    let b : List ℕ = codes " hash=" ++ decimal c.hash.result in
    let d : List ℕ = codes " header=" ++ decimal c.args.header.0 in
    ends c.push_text.result c.push_text.new.text.items c.push_field-3.new.text.items c.args.text.now.items (a ++ b ++ d) _ _ c.push_text.ensures
    (joins c.args.text.now.items (a ++ b) d c.push_field-2.new.text.items c.push_field-3.new.text.items
    (joins c.args.text.now.items a b c.push_field.new.text.items c.push_field-2.new.text.items c.in_ok-push_field.ensures c.in_ok-push_field-2.ensures)
    c.in_ok-push_field-3.ensures)
    (method_head_whole c.args.heap.now.objects c.args.o.0 c.class_index.result c.hash.result c.args.header.0 c.class_index.ensures.value c.hash.ensures.value)
