use Rattle.std.proofs.Common.{◌≡◌, ◌≤◌, ◌+◌, length, drop, filter}
use Rattle.cs_model.specs.ImageFile.{is_visible, visible}
use Rattle.cs_image.proofs.births.visible_count.Given as goal

abbrev pub invariant-loop-number : goal.invariant-loop-number
invariant-loop-number l = record {
  counted : l.count + length (filter is_visible (drop l.number l.file.objects)) ≡ length (visible l.file);
  few : l.count ≤ l.number;
}
