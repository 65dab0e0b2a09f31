-- The pc of an act, and its stack.
use Rattle.std.proofs.Common.{◌≡◌, ℕ, true, ◌+◌, ◌-◌, ◌<◌, ◌≤◌, ◌^◌, refl, sym, ap, ◌∙◌, length, unwrap_or, arith}
use Rattle.std.specs.Prelude.{slice_get, slice_index}
use Rattle.std.proofs.lemmas.List.{length-map}
use Rattle.std.proofs.lemmas.List.Elements.{All-get_or}
use Rattle.cs_word.specs.declared.Oop.{Oop}
use Rattle.cs_word.specs.Word.{natural_of_word}
use Rattle.cs_heap.specs.Object.{slot_count_of, slot_of}
use Rattle.cs_classes.specs.Meaning.{context_of, ref_of}
use Rattle.cs_classes.specs.Sound.{is_reference}
use Rattle.cs_frame.specs.Frame.{Frame}
use Rattle.cs_frame.specs.Page.{frame}
use Rattle.cs_model.specs.Obj.{context_in}
use Rattle.cs_model.specs.State as state
use Rattle.cs_model.specs.Operation.{nil_of}
use Rattle.cs_acts.specs.Layout.{depth_if}
use Rattle.cs_acts.specs.Names.{Names}
use Rattle.cs_acts.specs.Targets.{pc_in, stack_in}
use Rattle.cs_stack.specs.declared.parts.Parts.{Parts}
use Rattle.cs_stack.specs.View.{frame_context, stored_of, unframed, view_of}
use Rattle.cs_stack.specs.Good.{IsGood}
use Rattle.cs_stack.proofs.Acts.{ContextAct, FrameAct, Reads, context_reads, depth_kept, frame_reads, kept_depth, kept_pc, kept_word, slot_named, slots_are, stack_counted}
use Rattle.cs_stack.proofs.Fields.{depth_few, mapped_at, stack_at}

module _ {w : Parts} {birth : ℕ} (r : Reads w birth) where
  pub reads_pc : pc_in (context_in (state.object_at (view_of w) birth)) ≡ r.context.pc
  reads_pc = ap (λ y. pc_in (context_in y)) r.found

  pub reads_depth : depth_if (context_in (state.object_at (view_of w) birth)) ≡ length r.context.stack
  reads_depth = ap (λ y. depth_if (context_in y)) r.found

  pub reads_value : (i : ℕ) → unwrap_or (slice_get (stack_in (context_in (state.object_at (view_of w) birth))) i) (nil_of (view_of w)) ≡ unwrap_or (slice_get r.context.stack i) (nil_of (view_of w))
  reads_value i = ap (λ y. unwrap_or (slice_get (stack_in (context_in y)) i) (nil_of (view_of w))) r.found

-- ---- of a frame

module _ {w : Parts} {p at : ℕ} (good : IsGood w) (a : FrameAct w p at) where
  abbrev f : Frame
  f = a.begins_at.f

  pub frame_pc : (v : ℕ) → v ≡ (frame w.frames (record { page = p; at = at })).saved_pc → natural_of_word v ≡ pc_in (context_in (state.object_at (view_of w) a.begins_at.f.birth))
  unfolding frame_context
  frame_pc v e = ap natural_of_word (e ∙ ap (λ (g : Frame). g.saved_pc) a.is) ∙ sym (reads_pc (frame_reads good a))

  pub frame_depth : length (frame w.frames (record { page = p; at = at })).stack ≡ depth_if (context_in (state.object_at (view_of w) a.begins_at.f.birth))
  unfolding frame_context
  frame_depth = ap (λ (g : Frame). length g.stack) a.is ∙ sym (reads_depth (frame_reads good a) ∙ length-map f.stack (ref_of w.heap.objects))

  pub frame_value : (v : Oop) (i : ℕ) → i < length (frame w.frames (record { page = p; at = at })).stack → v.0 ≡ slice_index (frame w.frames (record { page = p; at = at })).stack i
      → Names (stored_of w) v (unwrap_or (slice_get (stack_in (context_in (state.object_at (view_of w) a.begins_at.f.birth))) i) (nil_of (view_of w)))
  unfolding frame_context
  frame_value v i l e =
      let word : v.0 ≡ slice_index f.stack i = e ∙ ap (λ (g : Frame). slice_index g.stack i) a.is in
      let within : i < length f.stack = omega (arith, l, ap (λ (g : Frame). length g.stack) a.is) in
      record {
        sound = ap (is_reference w.heap.objects) word ∙ All-get_or (λ (u : ℕ). is_reference w.heap.objects u ≡ true) f.stack i 0 within a.fits.names.stack;
        is = ap (ref_of w.heap.objects) word
            ∙ sym (reads_value (frame_reads good a) i ∙ ap (λ q. unwrap_or q (nil_of (view_of w))) (mapped_at (ref_of w.heap.objects) f.stack i within));
      }

-- ---- of a context that has no frame

module _ {w : Parts} {a : ℕ} (good : IsGood w) (c : ContextAct w a) where
  pub context_pc : (v : ℕ) → v ≡ slot_of w.heap.objects a 1 → natural_of_word v ≡ pc_in (context_in (state.object_at (view_of w) c.x.birth))
  unfolding context_of
  context_pc v e = ap natural_of_word (kept_pc c v e) ∙ sym (reads_pc (context_reads c))

  pub context_depth : (v : ℕ) → v ≡ slot_of w.heap.objects a 2 → unwrap_or (natural_of_word v) 0 ≡ depth_if (context_in (state.object_at (view_of w) c.x.birth))
  context_depth v e = kept_depth c v e ∙ sym (reads_depth (context_reads c) ∙ stack_counted c)

  -- a value of its stack stands in its words
  pub context_within : (i : ℕ) → i < depth_if (context_in (state.object_at (view_of w) c.x.birth)) → 6 + i < slot_count_of w.heap.objects a
  context_within i l = omega (arith, l, reads_depth (context_reads c), stack_counted c, depth_kept c.x c.whole.fields c.links, c.whole.depth, c.whole.fields, slots_are c)

  pub context_few : (i : ℕ) → i < depth_if (context_in (state.object_at (view_of w) c.x.birth)) → i < 2 ^ 30
  context_few i l = omega (arith, l, context_depth (slot_of w.heap.objects a 2) refl, depth_few good c (record { 0 = a }) refl (slot_of w.heap.objects a 2) refl)

  pub context_value : (v : Oop) (i : ℕ) → i < depth_if (context_in (state.object_at (view_of w) c.x.birth)) → v.0 ≡ slot_of w.heap.objects a (6 + i)
      → Names (stored_of w) v (unwrap_or (slice_get (stack_in (context_in (state.object_at (view_of w) c.x.birth))) i) (nil_of (view_of w)))
  context_value v i l e =
      let same : 6 + i - 6 ≡ i = omega arith in
      let within : 6 + i - 6 < length (context_of (ref_of w.heap.objects) (unframed c.x).hash (unframed c.x).words).stack = omega (arith, l, reads_depth (context_reads c)) in
      record {
        sound = slot_named c (6 + i) v.0 (omega (arith, context_within i l, slots_are c)) e;
        is = ap (ref_of w.heap.objects) (kept_word c (6 + i) v.0 (omega arith) e)
            ∙ sym (reads_value (context_reads c) i ∙ ap (λ n. unwrap_or (slice_get (context_of (ref_of w.heap.objects) (unframed c.x).hash (unframed c.x).words).stack n) (nil_of (view_of w))) (sym same)
            ∙ ap (λ q. unwrap_or q (nil_of (view_of w))) (stack_at good c (record { 0 = a }) refl (6 + i) (omega arith) within));
      }
