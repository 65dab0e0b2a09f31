use Rattle.std.proofs.lemmas.List.{take_all}
use Rattle.cs_model.specs.Words.{bytes_of_words}
use Rattle.cs_save.specs.Filed.{places_of}
use Rattle.std.proofs.Common.{◌++◌, take, drop, sym, arith, append_assoc, length-drop}
use Rattle.cs_save.proofs.Written.{on_err, broke_same, broke_first, broke_then, went_same, went_then}
use Rattle.cs_save.proofs.put_header.Goals as goal

pub returns-in_err-put_bytes-clause-err : goal.returns-in_err-put_bytes-clause-err
returns-in_err-put_bytes-clause-err g c = on_err c.from_residual.result _ (broke_same _ _ _ _ (sym (append_assoc (take 8 c.args.roots.now.header) (bytes_of_words (places_of c.args.used c.args.roots.now)) (drop 24 c.args.roots.now.header))) (broke_first _ _ (take 8 c.args.roots.now.header) ((bytes_of_words (places_of c.args.used c.args.roots.now)) ++ (drop 24 c.args.roots.now.header)) c.in_err-put_bytes.ensures.err))

pub returns-in_err-put_places-clause-err : goal.returns-in_err-put_places-clause-err
returns-in_err-put_places-clause-err g c = on_err c.from_residual-in_err-put_places.result _ (broke_first _ _ ((take 8 c.args.roots.now.header) ++ (bytes_of_words (places_of c.args.used c.args.roots.now))) (drop 24 c.args.roots.now.header) (broke_then _ _ _ (take 8 c.args.roots.now.header) (bytes_of_words (places_of c.args.used c.args.roots.now)) c.in_ok-put_bytes.ensures.ok c.in_err-put_places.ensures.err))

pub returns-in_err-put_bytes-2-clause-err : goal.returns-in_err-put_bytes-2-clause-err
returns-in_err-put_bytes-2-clause-err g c = on_err c.from_residual-in_err-put_bytes-2.result _ (broke_then _ _ _ ((take 8 c.args.roots.now.header) ++ (bytes_of_words (places_of c.args.used c.args.roots.now))) (drop 24 c.args.roots.now.header) (went_then _ _ _ (take 8 c.args.roots.now.header) (bytes_of_words (places_of c.args.used c.args.roots.now)) c.in_ok-put_bytes.ensures.ok c.in_ok-put_places.ensures.ok)
    (broke_same _ _ _ _ (take_all 40 (drop 24 c.args.roots.now.header) (omega (arith, length-drop 24 c.args.roots.now.header, c.requires.header))) c.in_err-put_bytes-2.ensures.err))

pub returns-clause-ok : goal.returns-clause-ok
returns-clause-ok g c = went_then _ _ _ ((take 8 c.args.roots.now.header) ++ (bytes_of_words (places_of c.args.used c.args.roots.now))) (drop 24 c.args.roots.now.header) (went_then _ _ _ (take 8 c.args.roots.now.header) (bytes_of_words (places_of c.args.used c.args.roots.now)) c.in_ok-put_bytes.ensures.ok c.in_ok-put_places.ensures.ok)
    (went_same _ _ _ _ (take_all 40 (drop 24 c.args.roots.now.header) (omega (arith, length-drop 24 c.args.roots.now.header, c.requires.header))) c.in_ok-put_bytes-2.ensures.ok)
