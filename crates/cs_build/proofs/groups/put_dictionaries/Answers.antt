use Rattle.std.proofs.Common.{ℕ, ◌+◌, ◌++◌, ◌<◌, ◌≤◌, List, length, map, drop, refl, ap, sym, ◌∙◌, arith, append-nil}
use Rattle.std.specs.Prelude.{flat_map}
use Rattle.std.specs.List.{enumerate_from}
use Rattle.std.proofs.lemmas.List.{map-append, drop_all}
use Rattle.cs_model.specs.BuilderText as text
use Rattle.cs_model.specs.Builder.{dictionary_objects}
use Rattle.cs_build.specs.declared.form.ClassLine.{ClassLine}
use Rattle.cs_build.specs.Grouped.{all_dictionaries}
use Rattle.cs_build.specs.Laid.{Laid, laid, laid_by}
use Rattle.cs_build.specs.Meaning.{class_by}
use Rattle.cs_build.specs.Standing.{forms_in}
use Rattle.cs_build.proofs.Walking.{drop_read, put_more}
use Rattle.cs_build.proofs.Grouping.{pairs_cons}
use Rattle.cs_build.proofs.groups.put_dictionaries.Goals as goal

pub loop-place-init : goal.loop-place-init
loop-place-init c = refl

pub loop-place-preserved : goal.loop-place-preserved
loop-place-preserved c =
    let forms : List text.Form = forms_in c.args.numbering.now in
    let lines : List ClassLine = c.args.numbering.now.classes.lines.items in
    let place : ℕ = c.loop-place.place in
    let x : ClassLine = c.index.result.now in
    let inside : c.loop-place.place < length c.args.numbering.now.classes.lines.items = omega (arith, c.loop-place-test.true, c.len-place-end.ensures, c.args.numbering.now.classes.lines.ok.0) in
    put_more (map laid_by c.loop-place.objects.items) (map laid_by c.put_class_dictionary.new.objects.items) (map laid (dictionary_objects forms place (class_by x)))
    (map laid (flat_map (λ (e : ℕ × text.ClassLine). dictionary_objects forms e.0 e.1) (enumerate_from (place + 1) (map class_by (drop (place + 1) lines))))) c.in_ok-put_class_dictionary.ensures
    ∙ ap (λ (l : List Laid). map laid_by c.loop-place.objects.items ++ l)
    (sym (map-append laid (dictionary_objects forms place (class_by x)) (flat_map (λ (e : ℕ × text.ClassLine). dictionary_objects forms e.0 e.1) (enumerate_from (place + 1) (map class_by (drop (place + 1) lines)))))
    ∙ ap (map laid) (sym (pairs_cons (λ (n : ℕ) (l : text.ClassLine). dictionary_objects forms n l) place (class_by x) (map class_by (drop (place + 1) lines))))
    ∙ ap (λ (ls : List ClassLine). map laid (flat_map (λ (e : ℕ × text.ClassLine). dictionary_objects forms e.0 e.1) (enumerate_from place (map class_by ls)))) (sym (drop_read lines place x c.index.ensures inside)))
    ∙ c.loop-place.invariant

pub returns : goal.returns
unfolding all_dictionaries
returns c =
    let forms : List text.Form = forms_in c.args.numbering.now in
    let lines : List ClassLine = c.args.numbering.now.classes.lines.items in
    let all : length c.args.numbering.now.classes.lines.items ≤ c.loop-place.place = omega (arith, c.loop-place-test.false, c.len-place-end.ensures, c.args.numbering.now.classes.lines.ok.0) in
    sym (append-nil (map laid_by c.loop-place.objects.items))
    ∙ ap (λ (ls : List ClassLine). map laid_by c.loop-place.objects.items ++ map laid (flat_map (λ (e : ℕ × text.ClassLine). dictionary_objects forms e.0 e.1) (enumerate_from c.loop-place.place (map class_by ls)))) (sym (drop_all c.loop-place.place lines all))
    ∙ c.loop-place.invariant
    ∙ ap (λ (ls : List text.ClassLine). map laid_by c.args.objects.now.items ++ map laid (flat_map (λ (e : ℕ × text.ClassLine). dictionary_objects forms e.0 e.1) (enumerate_from 0 ls))) c.requires.stands.lines
