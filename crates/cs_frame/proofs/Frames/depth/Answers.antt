use Rattle.std.proofs.Common.{◌≡◌, ℕ, ◌+◌, ◌*◌, ◌/◌, ◌<◌, ◌≤◌, length, sym, ◌∙◌, subst, arith}
use Rattle.std.proofs.lemmas.List.{get_or_default}
use Rattle.cs_frame.specs.declared.PageHead.{PageHead}
use Rattle.cs_frame.specs.Page.{frame, index_in}
use Rattle.cs_frame.proofs.PageLaws.{page_in}
use Rattle.cs_frame.proofs.Pages.{found, page_count}
use Rattle.cs_frame.proofs.Calls.{depth_is}
use Rattle.cs_frame.proofs.Walks.{Walk, walk_step, walk_end}
use Rattle.cs_frame.proofs.Frames.depth.Goals as goal

pub index-head-requires : goal.index-head-requires
index-head-requires c =
    let some = c.requires.frame in
    let lt = page_count c.self.invariant c.self.view_is c.args.f.page (page_in c.args.self.now c.args.f.page (omega arith)) in
    search (lt, arith)

pub place-at-requires-clause-page : goal.place-at-requires-clause-page
place-at-requires-clause-page c =
    let f = found c.self.invariant c.self.view_is c.args.f c.requires.frame in omega (arith, f.few)

pub place-at-requires-clause-word : goal.place-at-requires-clause-word
place-at-requires-clause-word c =
    let f = found c.self.invariant c.self.view_is c.args.f c.requires.frame in omega (arith, f.overhead, f.high)

pub loop-frame-init : goal.loop-frame-init
loop-frame-init c =
    let s = c.self.inside in let h = c.index-head.result.now in
    let f = found c.self.invariant c.self.view_is c.args.f c.requires.frame in
    let same : f.head ≡ h = f.head_is ∙ (get_or_default s.heads.items c.args.f.page f.head h f.open'.page_in ∙ sym c.index-head.ensures) in
    let a = c.args.f.page * 4096 + c.args.f.at in
    let at : a ≡ c.place-at.result = (let z : a ≡ a + 0 = omega arith in z) ∙ sym c.place-at.ensures.place in
    let d = depth_is f in
    let over = f.overhead in
    let end : f.end ≡ c.place-at.result + 10 + length (frame c.args.self.now c.args.f).stack = omega arith in
    let W : PageHead → Type 0 = λ k. Walk s.zone (c.args.f.page * 4096) c.place-at.result (c.place-at.result + 10 + length (frame c.args.self.now c.args.f).stack) k.frame k.end in
    let H : PageHead → Type 0 = λ k. k.end ≤ length s.zone in
    let top = f.open'.high in let fits = f.fits in
    record {
      walk = subst W same (record {
        count = f.head.count;
        index = index_in c.args.self.now c.args.f;
        stands = f.open'.page.stands;
        inside = f.index_in';
        begin_is = f.begin_is ∙ at;
        end_is = sym f.end_is ∙ end;
      });
      within = subst H same (omega arith);
    }

pub loop-frame-smaller : goal.loop-frame-smaller
loop-frame-smaller c =
    let s = c.self.inside in
    let i = c.loop-frame.invariant in
    let w = walk_step s.zone _ _ _ c.loop-frame.frame c.loop-frame.end i.walk c.loop-frame-test.true in
    let G : ℕ → Type 0 = λ l. l / 8 < c.loop-frame.frame in
    subst G (sym c.get-frame.ensures.word) w.1

pub loop-frame-preserved : goal.loop-frame-preserved
loop-frame-preserved c =
    let s = c.self.inside in
    let i = c.loop-frame.invariant in
    let w = walk_step s.zone _ _ _ c.loop-frame.frame c.loop-frame.end i.walk c.loop-frame-test.true in
    let within = i.within in let lt = w.2 in
    let G : ℕ → Type 0 = λ l. Walk s.zone (c.args.f.page * 4096) c.place-at.result (c.place-at.result + 10 + length (frame c.args.self.now c.args.f).stack) (l / 8) c.loop-frame.frame in
    record { walk = subst G (sym c.get-frame.ensures.word) w.0; within = omega arith }

pub get-frame-requires : goal.get-frame-requires
get-frame-requires c =
    let s = c.self.inside in
    let i = c.loop-frame.invariant in
    let w = walk_step s.zone _ _ _ c.loop-frame.frame c.loop-frame.end i.walk c.loop-frame-test.true in
    let within = i.within in let lt = w.2 in omega arith

pub returns : goal.returns
returns c =
    let s = c.self.inside in
    let i = c.loop-frame.invariant in
    let w = walk_end s.zone _ _ _ c.loop-frame.frame c.loop-frame.end i.walk c.loop-frame-test.false in
    let e = w.0 in let at = c.loop-frame-test.false in
    record { depth = omega arith }
