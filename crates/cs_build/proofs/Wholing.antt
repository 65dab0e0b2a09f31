-- All objects of a text.
use Rattle.std.proofs.Common.{◌≡◌, ℕ, ◌++◌, List, Bor, Vec, map, ap, sym, ◌∙◌, refl}
use Rattle.std.specs.Prelude.{flat_map}
use Rattle.std.proofs.lemmas.List.{map-append}
use Rattle.indexmap.specs.IndexMap.{IndexMap}
use Rattle.cs_model.specs.Obj.{Obj}
use Rattle.cs_model.specs.BuilderText as text
use Rattle.cs_model.specs.Builder.{all_forms, objects_in}
use Rattle.cs_build.specs.declared.form.MethodLine.{MethodLine}
use Rattle.cs_build.specs.declared.ready.Ready.{Ready}
use Rattle.cs_build.specs.Firsts.{first_made}
use Rattle.cs_build.specs.Grouped.{AreGroups, all_dictionaries, symbol_objects}
use Rattle.cs_build.specs.Laid.{Laid, laid}
use Rattle.cs_build.specs.Readied.{AreReadied}
use Rattle.cs_build.specs.Standing.{symbol_names}
use Rattle.cs_build.specs.Wholes.{objects_made}

pub own_ready : (forms : List text.Form) (r : Ready) → AreReadied (all_forms forms) r → AreReadied forms r
own_ready forms r ready = record { eight = ready.eight; queues = λ k d h. ready.queues k d h; names = ready.names }

pub own_groups : {Z S : Type 0} (forms : List text.Form) (groups : IndexMap (Bor (List ℕ)) (Vec MethodLine Z) S) → AreGroups groups (all_forms forms) → AreGroups groups forms
own_groups forms groups are = record { at = λ q. are.at q }

join : (first : List Obj) (forms : List Obj) (dictionaries : List Obj) (symbols : List Obj)
    → ((map laid first ++ map laid forms) ++ map laid dictionaries) ++ map laid symbols ≡ map laid (((first ++ forms) ++ dictionaries) ++ symbols)
join first forms dictionaries symbols = ap (λ l. (l ++ map laid dictionaries) ++ map laid symbols) (sym (map-append laid first forms))
    ∙ ap (λ l. l ++ map laid symbols) (sym (map-append laid (first ++ forms) dictionaries)) ∙ sym (map-append laid ((first ++ forms) ++ dictionaries) symbols)

made_is : (forms : List text.Form) → ((first_made forms ++ flat_map (objects_in forms) (all_forms forms)) ++ all_dictionaries forms) ++ symbol_objects forms ≡ objects_made forms
unfolding first_made all_dictionaries symbol_names objects_made
made_is forms = refl

pub whole_is : (forms all : List text.Form) (a b d e : List Laid) → all ≡ all_forms forms → a ≡ map laid (first_made forms) → b ≡ a ++ map laid (flat_map (objects_in forms) all)
    → d ≡ b ++ map laid (all_dictionaries forms) → e ≡ d ++ map laid (symbol_objects forms) → e ≡ map laid (objects_made forms)
whole_is forms all a b d e whole ea eb ed ee =
    ee ∙ ap (λ l. l ++ map laid (symbol_objects forms)) (ed ∙ ap (λ l. l ++ map laid (all_dictionaries forms))
    (eb ∙ ap (λ l. l ++ map laid (flat_map (objects_in forms) all)) ea ∙ ap (λ fs. map laid (first_made forms) ++ map laid (flat_map (objects_in forms) fs)) whole))
    ∙ join (first_made forms) (flat_map (objects_in forms) (all_forms forms)) (all_dictionaries forms) (symbol_objects forms)
    ∙ ap (map laid) (made_is forms)
