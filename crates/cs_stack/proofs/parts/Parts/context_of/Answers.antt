use Rattle.std.proofs.Common.{Some, ap, inl, inr, refl, subst, sym, ◌≡◌, ◌∙◌, ◌+◌, ◌≤◌}
use Rattle.std.proofs.lemmas.Bool.{cases_lt}
use Rattle.cs_heap.specs.Object.{size, used}
use Rattle.cs_frame.specs.Frame.{nil}
use Rattle.cs_frame.specs.Page.{frame}
use Rattle.cs_marriage.specs.Marriage.{new_size}
use Rattle.cs_acts.specs.Full.{IsFullHeap}
use Rattle.cs_stack.specs.View.{layout_of, stored_of, view_of}
use Rattle.cs_stack.proofs.Acts.{frame_at, if_some}
use Rattle.cs_stack.proofs.Marrying.{Looks, looks, no_room}
use Rattle.cs_stack.proofs.parts.Parts.context_of.Goals as goal

-- the frame had a context, or there was room for it
room : (c : goal.In-Ok) → (frame c.args.self.now.frames c.args.f).context ≡ nil
    → used c.args.self.now.heap.objects + size (6 + new_size c.args.self.now.heap.objects (frame c.args.self.now.frames c.args.f)) ≤ c.args.self.now.heap.limit
room c none = elim (cases_lt c.args.self.now.heap.limit (used c.args.self.now.heap.objects + size (6 + new_size c.args.self.now.heap.objects (frame c.args.self.now.frames c.args.f)))) [
  | inl lt ↦ absurd (let no = c.in-Ok.ensures.full.1 (none, lt) in cc)
  | inr le ↦ le
]

looked : (c : goal.In-Ok) → Looks c.args.self.now (record c.args.self.now { heap = c.marry.new.heap; frames = c.marry.new.frames }) c.args.f c.in-Ok.context
looked c =
    looks c.args.self.now c.requires.good c.args.f c.requires.frame c.in-Ok.context c.marry.new.heap c.marry.new.frames (room c) c.in-Ok.ensures.context c.in-Ok.ensures.heap c.in-Ok.ensures.frames

pub returns-in-Ok-clause-good : goal.returns-in-Ok-clause-good
returns-in-Ok-clause-good c = (looked c).good

pub returns-in-Ok-clause-view : goal.returns-in-Ok-clause-view
returns-in-Ok-clause-view c = (looked c).view

pub returns-in-Ok-clause-value : goal.returns-in-Ok-clause-value
returns-in-Ok-clause-value c =
    let a = frame_at c.args.self.now c.args.f c.requires.good c.requires.frame in
    if_some _ _ _ (a.answers ∙ ap (λ g. Some g.birth) (sym a.is)) (looked c).value

pub returns-in-Ok-clause-acts : goal.returns-in-Ok-clause-acts
returns-in-Ok-clause-acts c = (looked c).acts

pub returns-in-Ok-clause-layout : goal.returns-in-Ok-clause-layout
returns-in-Ok-clause-layout c = (looked c).layout

pub returns-in-Ok-clause-contexts : goal.returns-in-Ok-clause-contexts
returns-in-Ok-clause-contexts c = (looked c).contexts

pub returns-in-Ok-clause-names : goal.returns-in-Ok-clause-names
returns-in-Ok-clause-names c = (looked c).names

pub returns-in-Err-clause-full : goal.returns-in-Err-clause-full
returns-in-Err-clause-full c =
    let w = c.args.self.now in
    let why = c.in-Err.ensures.full.0 refl in
    (refl, subst (λ h. IsFullHeap (record (stored_of w) { memory = h }) (layout_of w) 0 (view_of w)) (sym c.in-Err.ensures.unchanged_if_full) (no_room w c.requires.good c.args.f c.requires.frame why.0 why.1))
