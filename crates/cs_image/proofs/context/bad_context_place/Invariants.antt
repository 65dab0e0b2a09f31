use Rattle.std.proofs.Common.{◌≡◌, ◌&&◌, not, option_map}
use Rattle.cs_model.specs.ImageFault.{bad_context, is_file_context, is_sound_context}
use Rattle.cs_image.proofs.Scanning.{first_from}
use Rattle.cs_image.proofs.context.bad_context_place.Given as goal

abbrev pub invariant-loop-number : goal.invariant-loop-number
invariant-loop-number l =
    option_map (λ o. o.place) (first_from (λ o. is_file_context o && not (is_sound_context l.file o)) l.file.objects l.number) ≡ bad_context l.file
