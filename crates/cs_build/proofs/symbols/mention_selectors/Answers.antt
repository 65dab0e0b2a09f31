use Rattle.std.proofs.Common.{ℕ, ◌+◌, List, [], map, drop, get_or, Bor, ap, sym, ◌∙◌, arith}
use Rattle.std.specs.Prelude.{ℤ, pos}
use Rattle.cs_model.specs.Builder.{with_new}
use Rattle.cs_build.specs.Numbered.{plain_names, mentioned}
use Rattle.cs_build.proofs.Walking.{walk_at, walk_all}
use Rattle.cs_build.proofs.Noting.{mentioned_cons, mentioned_none}
use Rattle.cs_build.proofs.symbols.mention_selectors.Goals as goal

no_name : Bor (List ℕ) × ℤ
no_name = (record { ref_ptr = (0, 0); now = [] }, pos 0)

pub loop-selector-preserved : goal.loop-selector-preserved
unfolding no_name
loop-selector-preserved c =
    walk_at (λ (names : List (List ℕ)) (es : List (Bor (List ℕ) × ℤ)). mentioned names (map (λ (e : Bor (List ℕ) × ℤ). e.0.now) es))
    (plain_names c.loop-selector.symbols.keys) (plain_names c.mention_symbol.new.symbols.keys) c.selectors.result c.loop-selector.selector-index no_name _
    (omega arith)
    (mentioned_cons (plain_names c.mention_symbol.new.symbols.keys) (plain_names c.loop-selector.symbols.keys) (get_or c.selectors.result c.loop-selector.selector-index no_name).0.now
    (map (λ (e : Bor (List ℕ) × ℤ). e.0.now) (drop (c.loop-selector.selector-index + 1) c.selectors.result))
    (c.in_ok-mention_symbol.ensures ∙ ap (with_new (plain_names c.loop-selector.symbols.keys)) c.as_bytes.ensures.value))
    c.loop-selector.invariant

pub returns : goal.returns
returns c = sym (mentioned_none (plain_names c.loop-selector.symbols.keys))
    ∙ walk_all (λ (es : List (Bor (List ℕ) × ℤ)). mentioned (plain_names c.loop-selector.symbols.keys) (map (λ (e : Bor (List ℕ) × ℤ). e.0.now) es))
    c.selectors.result c.loop-selector.selector-index _ (omega arith) c.loop-selector.invariant
    ∙ ap (mentioned (plain_names c.args.symbols.now.keys)) c.selectors.ensures.names
