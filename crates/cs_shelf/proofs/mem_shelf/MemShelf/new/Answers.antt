use Rattle.std.proofs.Common.{◌≤◌, ℕ, List, arith, ap, sym, subst, map, length, slice_index_or, string_bytes}
use Rattle.std.proofs.lemmas.List.Elements.{All-map}
use Rattle.cs_shelf.specs.Memory.{AreKept, TakenView}
use Rattle.cs_shelf.proofs.Entries.{kept_new}
use Rattle.cs_shelf.proofs.mem_shelf.MemShelf.new.Goals as goal

pub invariant_of-result : goal.invariant_of-result
invariant_of-result c =
    let Short : List ℕ → Type 0 = λ name. length name ≤ 4096 in
    let short = All-map Short string_bytes c.args.names.items (λ k d h.
    omega (arith, (slice_index_or c.args.names.items k d).bytes.ok.0, c.requires.short k d h)) in
    let Kept : ℕ → Type 0 = λ room. AreKept room c.in_ok-new_entries.field-0.items in
    subst Kept (sym (ap (λ (t : TakenView). t.room) c.in_ok-new.ensures))
    (kept_new c.args.room (map string_bytes c.args.names.items) _ c.in_ok-new_entries.ensures c.requires.differ short)
