use Rattle.std.proofs.Common.{◌≡◌, ◌||◌, not, nat_lt, option_map}
use Rattle.cs_model.specs.ImageFault.{bad_class, has_entry}
use Rattle.cs_image.proofs.Scanning.{first_from}
use Rattle.cs_image.proofs.reference.bad_class_place.Given as goal

abbrev pub invariant-loop-number : goal.invariant-loop-number
invariant-loop-number l =
    option_map (λ o. o.place) (first_from (λ o. nat_lt o.class 4 || not (has_entry l.file o.class)) l.file.objects l.number) ≡ bad_class l.file
