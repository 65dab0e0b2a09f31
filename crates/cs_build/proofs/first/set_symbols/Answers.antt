use Rattle.std.proofs.Common.{ℕ, ◌+◌, List, [], Bor, map, drop, get_or, ap, ◌∙◌, arith}
use Rattle.std.specs.Prelude.{fold, slice_set}
use Rattle.cs_model.specs.Ref.{Ref}
use Rattle.cs_model.specs.BuilderText as text
use Rattle.cs_model.specs.Builder.{special_symbols, symbol_ref, with_special}
use Rattle.cs_build.specs.Firsts.{symbol_specials}
use Rattle.cs_build.specs.Laid.{reference_by}
use Rattle.cs_build.specs.Numbered.{special_names_of, special_places}
use Rattle.cs_build.specs.Standing.{forms_in}
use Rattle.cs_build.proofs.Walking.{walk_at, walk_all}
use Rattle.cs_build.proofs.Firsting.{pairs_map}
use Rattle.cs_build.proofs.first.set_symbols.Goals as goal

no_special : ℕ × Bor (List ℕ)
no_special = (0, record { ref_ptr = (0, 0); now = [] })

pub loop-special-preserved : goal.loop-special-preserved
unfolding no_special
loop-special-preserved c =
    let forms : List text.Form = forms_in c.args.numbering.now in
    let old : List Ref = map reference_by c.loop-special.slots in
    let place : ℕ = (get_or c.special_names.result c.loop-special.special-index no_special).0 in
    walk_at (λ (refs : List Ref) (es : List (ℕ × Bor (List ℕ))). fold with_special refs (map (λ (e : ℕ × Bor (List ℕ)). let p : ℕ × Ref = (e.0, symbol_ref (forms_in c.args.numbering.now) e.1.now) in p) es))
    (map reference_by c.loop-special.slots) (map reference_by c.set_slot.new.slots) c.special_names.result c.loop-special.special-index no_special _ (omega arith)
    (ap (λ (s : List Ref). fold with_special s (map (λ (e : ℕ × Bor (List ℕ)). let p : ℕ × Ref = (e.0, symbol_ref (forms_in c.args.numbering.now) e.1.now) in p) (drop (c.loop-special.special-index + 1) c.special_names.result)))
    (c.set_slot.ensures ∙ ap (λ (r : Ref). slice_set old place r) (c.symbol.ensures ∙ ap (symbol_ref forms) c.as_bytes.ensures.value)))
    c.loop-special.invariant

pub returns : goal.returns
unfolding symbol_specials special_names_of special_places
returns c =
    walk_all (λ (es : List (ℕ × Bor (List ℕ))). fold with_special (map reference_by c.loop-special.slots) (map (λ (e : ℕ × Bor (List ℕ)). let p : ℕ × Ref = (e.0, symbol_ref (forms_in c.args.numbering.now) e.1.now) in p) es))
    c.special_names.result c.loop-special.special-index _ (omega arith) c.loop-special.invariant
    ∙ ap (fold with_special (map reference_by c.args.slots.now))
    (pairs_map (λ (k : ℕ) (n : List ℕ). let p : ℕ × Ref = (k, symbol_ref (forms_in c.args.numbering.now) n) in p) c.special_names.result special_symbols c.special_names.ensures.places c.special_names.ensures.names)
