use Rattle.std.proofs.Common.{◌≡◌, ◌+◌, List, [], ◌∷◌, ◌++◌, length, map, take, ap, sym, ◌∙◌, subst}
use Rattle.std.proofs.lemmas.List.{map-append}
use Rattle.cs_build.specs.declared.object.Object.{Object}
use Rattle.std.specs.Prelude.{flat_map}
use Rattle.cs_model.specs.SavedFile.{SavedObject, saved_words}
use Rattle.cs_build.specs.Laid.{Laid, laid_by, saved_by, FitsLaid}
use Rattle.cs_build.proofs.Putting.{put_nothing, put_next, flat_map_last, all_mapped, map_last}
use Rattle.cs_build.proofs.image.put_objects.Goals as goal

pub loop-object-init : goal.loop-object-init
loop-object-init c = put_nothing c.args.out.now.items

pub put_object-requires : goal.put_object-requires
put_object-requires c = subst (λ (o : Object). FitsLaid (length c.args.addresses.now) (laid_by o)) (sym c.object-item.is)
    (all_mapped (FitsLaid (length c.args.addresses.now)) laid_by c.args.objects.now c.loop-object.object-index c.object-item.result c.requires c.loop-object-test.true)

pub loop-object-preserved : goal.loop-object-preserved
loop-object-preserved c =
    let f : Laid → SavedObject = saved_by c.args.addresses.now in
    let before : List Laid = map laid_by (take c.loop-object.object-index c.args.objects.now) in
    let more : map laid_by (take (c.loop-object.object-index + 1) c.args.objects.now) ≡ map laid_by (take c.loop-object.object-index c.args.objects.now) ++ laid_by c.object-item.result ∷ [] =
    map_last laid_by c.args.objects.now c.loop-object.object-index c.object-item.result c.object-item.is c.loop-object-test.true in
    put_next c.args.out.now.items c.loop-object.out.items c.put_object.new.out.items (flat_map saved_words (map f before)) (saved_words (f (laid_by c.object-item.result)))
    (flat_map saved_words (map f (map laid_by (take (c.loop-object.object-index + 1) c.args.objects.now))))
    c.loop-object.invariant c.in_ok-put_object.ensures
    (ap (λ (ls : List Laid). flat_map saved_words (map f ls)) more ∙ ap (flat_map saved_words) (map-append f before (laid_by c.object-item.result ∷ []))
    ∙ flat_map_last saved_words (map f before) (f (laid_by c.object-item.result)))
