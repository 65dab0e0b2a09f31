use Rattle.std.proofs.Common.{ℕ, ◌+◌, List, [], map, drop, get_or, Bor, ap, sym, ◌∙◌, arith}
use Rattle.cs_model.specs.Builder.{with_new}
use Rattle.cs_build.specs.Numbered.{plain_names, mentioned}
use Rattle.cs_build.proofs.Walking.{walk_at, walk_all}
use Rattle.cs_build.proofs.Noting.{mentioned_cons, mentioned_none}
use Rattle.cs_build.proofs.symbols.mention_specials.Goals as goal

no_name : ℕ × Bor (List ℕ)
no_name = (0, record { ref_ptr = (0, 0); now = [] })

pub loop-special-preserved : goal.loop-special-preserved
unfolding no_name
loop-special-preserved c =
    walk_at (λ (names : List (List ℕ)) (es : List (ℕ × Bor (List ℕ))). mentioned names (map (λ (e : ℕ × Bor (List ℕ)). e.1.now) es))
    (plain_names c.loop-special.symbols.keys) (plain_names c.mention_symbol.new.symbols.keys) c.special_names.result c.loop-special.special-index no_name _
    (omega arith)
    (mentioned_cons (plain_names c.mention_symbol.new.symbols.keys) (plain_names c.loop-special.symbols.keys) (get_or c.special_names.result c.loop-special.special-index no_name).1.now
    (map (λ (e : ℕ × Bor (List ℕ)). e.1.now) (drop (c.loop-special.special-index + 1) c.special_names.result))
    (c.in_ok-mention_symbol.ensures ∙ ap (with_new (plain_names c.loop-special.symbols.keys)) c.as_bytes.ensures.value))
    c.loop-special.invariant

pub returns : goal.returns
returns c = sym (mentioned_none (plain_names c.loop-special.symbols.keys))
    ∙ walk_all (λ (es : List (ℕ × Bor (List ℕ))). mentioned (plain_names c.loop-special.symbols.keys) (map (λ (e : ℕ × Bor (List ℕ)). e.1.now) es))
    c.special_names.result c.loop-special.special-index _ (omega arith) c.loop-special.invariant
    ∙ ap (mentioned (plain_names c.args.symbols.now.keys)) c.special_names.ensures.names
