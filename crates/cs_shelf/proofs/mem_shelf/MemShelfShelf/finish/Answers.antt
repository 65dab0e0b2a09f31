use Rattle.std.proofs.Common.{◌≡◌, ◌≤◌, arith, ap, sym, ◌∙◌, slice_get, length}
use Rattle.std.proofs.lemmas.Option.{IfSome_then}
use Rattle.cs_shelf.specs.Memory.{EntryView, ShelfView, content_of, name_at, names_of, put_at}
use Rattle.cs_shelf.proofs.Entries.{kept_after, named_holds, named_others, named_within, roomy_at}
use Rattle.cs_shelf.proofs.mem_shelf.MemShelfShelf.finish.Goals as goal

pub put_content-requires-clause-fits : goal.put_content-requires-clause-fits
put_content-requires-clause-fits c =
    let Fits : EntryView → Type 0 = λ e. length c.bytes.result.now ≤ e.room in
    IfSome_then _ {Q = Fits}
    (roomy_at c.self.inside.taken.room c.self.inside.entries.items _ c.self.invariant)
    (λ e roomy. omega (arith, c.bytes.ensures.within))

pub invariant_of-self : goal.invariant_of-self
invariant_of-self c = kept_after _ _ _ _ _ c.put_content.ensures c.self.invariant

pub returns-clause-holds : goal.returns-clause-holds
returns-clause-holds c =
    let es = c.self.inside.entries.items in
    let begun : name_at c.args.self.now.entries c.args.self.now.begun ≡ slice_get (names_of es) c.in-Some.k =
    ap (λ (v : ShelfView). name_at v.entries v.begun) (sym c.self.view_is) ∙ ap (name_at es) (sym c.take.ensures.value ∙ c.in-Some.is) in
    let told = c.bytes.ensures.value ∙ ap (λ (v : ShelfView). v.taken.bytes) c.self.view_is in
    rw begun (named_holds es _ c.in-Some.k _ (c.put_content.ensures ∙ ap (put_at es c.in-Some.k) told) c.self.invariant.differ)

pub returns-clause-contents : goal.returns-clause-contents
returns-clause-contents c other differs =
    let es = c.self.inside.entries.items in
    let begun : name_at c.args.self.now.entries c.args.self.now.begun ≡ slice_get (names_of es) c.in-Some.k =
    ap (λ (v : ShelfView). name_at v.entries v.begun) (sym c.self.view_is) ∙ ap (name_at es) (sym c.take.ensures.value ∙ c.in-Some.is) in
    let within = named_within es c.in-Some.k (rw begun at c.requires.begun) in
    named_others es _ c.in-Some.k _ c.put_content.ensures within other (λ same. differs (begun ∙ same))
    ∙ ap (λ (v : ShelfView). content_of v.entries other) c.self.view_is
