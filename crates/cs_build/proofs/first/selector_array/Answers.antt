use Rattle.std.proofs.Common.{ℕ, ◌+◌, ◌∷◌, ◌++◌, List, [], Bor, map, drop, get_or, ap, sym, ◌∙◌, arith, append-nil}
use Rattle.std.specs.Prelude.{ℤ, pos, flat_map}
use Rattle.cs_model.specs.Ref.{Ref, Small}
use Rattle.cs_model.specs.Obj.{Ptr, new_head}
use Rattle.cs_model.specs.BuilderText as text
use Rattle.cs_model.specs.Builder.{selector_names, symbol_ref}
use Rattle.cs_build.specs.declared.object.Reference.{Reference}
use Rattle.cs_build.specs.Firsts.{selector_array_of}
use Rattle.cs_build.specs.Laid.{laid, reference_by}
use Rattle.cs_build.specs.Numbered.{selector_words, selector_arguments}
use Rattle.cs_build.specs.Standing.{forms_in}
use Rattle.cs_build.proofs.Walking.{walk_at, walk_all, put_more}
use Rattle.cs_build.proofs.Firsting.{pairs_flat}
use Rattle.cs_build.proofs.first.selector_array.Goals as goal

no_selector : Bor (List ℕ) × ℤ
no_selector = (record { ref_ptr = (0, 0); now = [] }, pos 0)

pub loop-selector-init : goal.loop-selector-init
loop-selector-init c = ap (λ (s : List Reference). map reference_by s ++ flat_map (λ (e : Bor (List ℕ) × ℤ). symbol_ref (forms_in c.args.numbering.now) e.0.now ∷ Small e.1 ∷ []) c.selectors.result) c.new-slots.ensures.items

pub loop-selector-preserved : goal.loop-selector-preserved
unfolding no_selector
loop-selector-preserved c =
    let forms : List text.Form = forms_in c.args.numbering.now in
    let x : Bor (List ℕ) × ℤ = get_or c.selectors.result c.loop-selector.selector-index no_selector in
    walk_at (λ (refs : List Ref) (es : List (Bor (List ℕ) × ℤ)). refs ++ flat_map (λ (e : Bor (List ℕ) × ℤ). symbol_ref (forms_in c.args.numbering.now) e.0.now ∷ Small e.1 ∷ []) es)
    (map reference_by c.loop-selector.slots.items) (map reference_by c.put_selector.new.slots.items) c.selectors.result c.loop-selector.selector-index no_selector _ (omega arith)
    (put_more (map reference_by c.loop-selector.slots.items) (map reference_by c.put_selector.new.slots.items) (symbol_ref forms x.0.now ∷ Small x.1 ∷ [])
    (flat_map (λ (e : Bor (List ℕ) × ℤ). symbol_ref (forms_in c.args.numbering.now) e.0.now ∷ Small e.1 ∷ []) (drop (c.loop-selector.selector-index + 1) c.selectors.result)) c.in_ok-put_selector.ensures)
    c.loop-selector.invariant

pub returns : goal.returns
unfolding selector_array_of selector_words selector_arguments
returns c =
    let forms : List text.Form = forms_in c.args.numbering.now in
    c.in_ok-object.ensures ∙ ap (λ (s : List Reference). laid (Ptr (new_head 39 2) (map reference_by s))) c.deref.ensures.value
    ∙ ap (λ (refs : List Ref). laid (Ptr (new_head 39 2) refs))
    (sym (append-nil (map reference_by c.loop-selector.slots.items))
    ∙ walk_all (λ (es : List (Bor (List ℕ) × ℤ)). map reference_by c.loop-selector.slots.items ++ flat_map (λ (e : Bor (List ℕ) × ℤ). symbol_ref (forms_in c.args.numbering.now) e.0.now ∷ Small e.1 ∷ []) es)
    c.selectors.result c.loop-selector.selector-index _ (omega arith) c.loop-selector.invariant
    ∙ pairs_flat (λ (n : List ℕ) (z : ℤ). symbol_ref (forms_in c.args.numbering.now) n ∷ Small z ∷ []) (λ (k : ℕ). pos k) c.selectors.result selector_names c.selectors.ensures.names c.selectors.ensures.arguments)
