use Rattle.std.proofs.Common.{ℕ, ◌+◌, ◌++◌, List, [], Bor, map, drop, ap, sym, ◌∙◌, append-nil}
use Rattle.cs_model.specs.Builder.{raw_object}
use Rattle.cs_build.specs.declared.object.Object.{Object}
use Rattle.cs_build.specs.Laid.{laid, laid_by}
use Rattle.cs_build.specs.Numbered.{plain_names}
use Rattle.cs_build.proofs.Walking.{walk_at, walk_all, pushed}
use Rattle.cs_build.proofs.groups.put_symbols.Goals as goal

pub loop-name-preserved : goal.loop-name-preserved
loop-name-preserved c =
    walk_at (λ (objects : List Object) (names : List (Bor (List ℕ))). map laid_by objects ++ map laid (map (raw_object 41) (plain_names names)))
    c.loop-name.objects.items c.push.new.self.items c.as_slice-name-items.result.now c.loop-name.name-index (record { ref_ptr = (0, 0); now = [] }) _ c.loop-name-test.true
    (pushed laid_by c.loop-name.objects.items c.push.new.self.items c.in_ok-symbol.symbol _
    (map laid (map (raw_object 41) (plain_names (drop (c.loop-name.name-index + 1) c.as_slice-name-items.result.now)))) c.in_ok-push.ensures.items c.in_ok-symbol.ensures)
    c.loop-name.invariant

pub returns : goal.returns
returns c = sym (append-nil (map laid_by c.loop-name.objects.items))
    ∙ walk_all (λ (names : List (Bor (List ℕ))). map laid_by c.loop-name.objects.items ++ map laid (map (raw_object 41) (plain_names names)))
    c.as_slice-name-items.result.now c.loop-name.name-index _ c.loop-name-test.false c.loop-name.invariant
    ∙ ap (λ (names : List (List ℕ)). map laid_by c.args.objects.now.items ++ map laid (map (raw_object 41) names)) (ap plain_names c.as_slice-name-items.ensures.keys ∙ c.requires.symbols)
