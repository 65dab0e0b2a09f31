use Rattle.cs_save.specs.Filed.{file_word}
use Rattle.std.proofs.Common.{ℕ, ◌+◌, ◌*◌, [], ◌∷◌, refl, ap, sym}
use Rattle.cs_save.proofs.Written.{on_err, breaks_first, breaks_then, goes_then}
use Rattle.cs_save.proofs.put_places.Goals as goal

pub returns-in_err-put_pair-clause-err : goal.returns-in_err-put_pair-clause-err
returns-in_err-put_pair-clause-err g c = on_err c.from_residual.result _ (breaks_first _ _ (4 * (c.args.used + 16470) ∷ 65536 ∷ []) (file_word c.args.roots.now.special.0 ∷ c.args.roots.now.last_hash ∷ []) _ refl c.in_err-put_pair.ensures.err)

pub returns-in_err-put_pair-2-clause-err : goal.returns-in_err-put_pair-2-clause-err
returns-in_err-put_pair-2-clause-err g c = on_err c.from_residual-in_err-put_pair-2.result _ (breaks_then _ _ _ (4 * (c.args.used + 16470) ∷ 65536 ∷ []) (c.file_word.result ∷ c.args.roots.now.last_hash ∷ []) _ (ap (λ (w : ℕ). 4 * (c.args.used + 16470) ∷ 65536 ∷ w ∷ c.args.roots.now.last_hash ∷ []) (sym c.file_word.ensures)) c.in_ok-put_pair.ensures.ok c.in_err-put_pair-2.ensures.err)

pub returns-clause-ok : goal.returns-clause-ok
returns-clause-ok g c = goes_then _ _ _ (4 * (c.args.used + 16470) ∷ 65536 ∷ []) (c.file_word.result ∷ c.args.roots.now.last_hash ∷ []) _ (ap (λ (w : ℕ). 4 * (c.args.used + 16470) ∷ 65536 ∷ w ∷ c.args.roots.now.last_hash ∷ []) (sym c.file_word.ensures)) c.in_ok-put_pair.ensures.ok c.in_ok-put_pair-2.ensures.ok
