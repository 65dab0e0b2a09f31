use Rattle.std.proofs.Common.{◌≡◌, ℕ, ◌+◌, ◌*◌, ◌/◌, ◌%◌, List, length, map, replicate, Option, sym, ap, ap₂, ◌∙◌, arith}
use Rattle.std.specs.Prelude.{codes, fold, min, slice_set, unwrap_or}
use Rattle.std.proofs.lemmas.List.{length-map}
use Rattle.cs_model.specs.BuilderText as text
use Rattle.cs_build.specs.declared.form.ClassLine.{ClassLine}
use Rattle.cs_model.specs.BuilderFault.{all_classes}
use Rattle.cs_model.specs.Builder.{named_birth}
use Rattle.cs_build.specs.Meaning.{class_by}
use Rattle.cs_build.specs.Standing.{forms_in}
use Rattle.cs_build.specs.Wholes.{class_entered, table_by, table_made}
use Rattle.cs_build.proofs.class_table.class_table.Goals as goal

whole_pages : (n : ℕ) → 1024 * ((n + 30) / 1024 + min 1 ((n + 30) % 1024)) ≡ 1024 * ((n + 1053) / 1024)
whole_pages n = omega arith

as_table : (forms : List text.Form) (count : ℕ) (lines : List text.ClassLine) → count ≡ length lines → lines ≡ all_classes forms
    → slice_set (fold (class_entered forms) (replicate (1024 * ((count + 30) / 1024 + min 1 ((count + 30) % 1024))) 0) lines) 3 (unwrap_or (named_birth forms (codes "SmallInteger")) 0)
    ≡ table_made forms
unfolding table_made
as_table forms count lines long same =
    ap (λ (n : ℕ). slice_set (fold (class_entered forms) (replicate n 0) lines) 3 (unwrap_or (named_birth forms (codes "SmallInteger")) 0))
    (whole_pages count ∙ ap (λ (n : ℕ). 1024 * ((n + 1053) / 1024)) long)
    ∙ ap (table_by forms) same

pub returns : goal.returns
returns c =
    let forms : List text.Form = forms_in c.args.numbering.now in
    let lines : List text.ClassLine = map class_by c.args.numbering.now.classes.lines.items in
    let zeros = c.in_ok-table.ensures.items_if_clones_equal (λ y e. e) in
    let size : 1024 * c.div_ceil-pages.result ≡ 1024 * ((c.len.result + 30) / 1024 + min 1 ((c.len.result + 30) % 1024)) = ap (λ n. 1024 * n) c.div_ceil-pages.ensures in
    let filled : c.enter_classes.new.table.items ≡ fold (class_entered forms) (replicate (1024 * ((c.len.result + 30) / 1024 + min 1 ((c.len.result + 30) % 1024))) 0) lines =
    c.enter_classes.ensures ∙ ap₂ (λ (t : List ℕ) (ls : List ClassLine). fold (class_entered forms) t (map class_by ls)) (zeros ∙ ap (λ (n : ℕ). replicate n 0) size) c.deref.ensures.value in
    let long : c.len.result ≡ length lines = c.len.ensures ∙ c.args.numbering.now.classes.lines.ok.0 ∙ sym (length-map c.args.numbering.now.classes.lines.items class_by) in
    c.set_entry.ensures ∙ ap₂ (λ (t : List ℕ) (o : Option ℕ). slice_set t 3 (unwrap_or o 0)) filled c.named.ensures
    ∙ as_table forms c.len.result lines long c.requires.lines
