-- The writes of a world, each as its operation on every state that the world keeps.
use Rattle.std.proofs.Common.{◌≡◌, ℕ, pos, ◌+◌, ◌-◌, ◌<◌, ◌^◌, Bool, true, false, refl, sym, ap, subst, ◌∙◌, Some, List, length, arith}
use Rattle.std.specs.Prelude.{◌==◌, ◌||◌, is_some}
use Rattle.cs_word.specs.declared.Oop.{Oop}
use Rattle.cs_word.specs.Word.{small_word, natural_of_word}
use Rattle.cs_heap.specs.Writes.{slot_stored}
use Rattle.cs_acts.proofs.Dirty.{names-dirtied, ready-dirtied, sound-dirtied}
use Rattle.cs_heap.specs.Object.{Memory, Object, set_word, slot_set}
use Rattle.cs_classes.specs.Meaning.{depth_in, ref_of}
use Rattle.cs_classes.specs.Sound.{nil_word}
use Rattle.cs_classes.proofs.Heaps.{set_word-IsEdit, with_object-twice}
use Rattle.cs_classes.proofs.Refs.{count_of-small, is_reference-small, small_natural}
use Rattle.cs_classes.proofs.Wholes.{ref_of-held}
use Rattle.cs_classes.proofs.Writes.{Does, Holds, does-pop, does-push, does-set_pc, does-set_stack}
use Rattle.cs_model.specs.Obj.{edit_context, lies_in, popped, pushed, stored, with_pc}
use Rattle.cs_model.specs.State.{IsHeld, Kept, object_at}
use Rattle.cs_model.specs.Keeps.{Keeps, SameKept}
use Rattle.cs_model.specs.Read.{depth_of, method_of, pc_of, size_of}
use Rattle.cs_model.specs.Operation.{drop_of, edit_active, edit_object, push_of, set_pc_of, set_stack_of}
use Rattle.cs_model.proofs.Same.{Same, is, same}
use Rattle.cs_model.proofs.Operating.{drop_moved, push_moved, set_pc_moved, set_stack_moved}
use Rattle.cs_acts.specs.Names.{IsNamed, KeepsNames, name_of}
use Rattle.cs_acts.specs.Ready.{IsReady, IsSound}
use Rattle.cs_plain.specs.declared.PlainWorld.{PlainWorld}
use Rattle.cs_plain.specs.View.{plain_stored, plain_view, plain_active}
use Rattle.cs_plain.proofs.Active.{Active}
use Rattle.cs_plain.proofs.Edits.{Edited, edited}
use Rattle.cs_plain.proofs.Slots.{depth_is_read, size_is_read}
use Rattle.cs_plain.proofs.Written.{dirtied, with_objects, written}

-- the operation on every state that is kept; then the world is ready, and words mean what they meant
pub record Writes (w v : PlainWorld) (op : Kept → Kept) : Type 0 where
  pub state : (m : Kept) → Keeps (plain_view w) m → Keeps (plain_view v) (op m)
  pub exact : SameKept (plain_view v) (op (plain_view w))
  pub ready : IsReady (plain_stored v) (plain_view v)
  pub names : KeepsNames (plain_stored w) (plain_stored v)

pub same_kept : (a b : Kept) → a ≡ b → SameKept a b
same_kept a b e = record { objects = λ i. ap (λ k. object_at k i) e; rest = ap (λ k. k.rest) e }

-- the same where the heap is dirty or not
writes-dirtied : {w v : PlainWorld} {op : Kept → Kept} (d : Bool) → Writes w v op → Writes w (dirtied v d) op
writes-dirtied {w = w} {v = v} d done = record { state = done.state; exact = done.exact; ready = ready-dirtied d done.ready; names = names-dirtied (plain_stored w) (plain_stored v) d done.names }

-- the same where the heap is told by an equation
pub along : (w : PlainWorld) (h : Memory) (us : List Object) {d : Bool} (op : Kept → Kept) → h ≡ record w.heap { objects = us; dirty = d } → Writes w (with_objects w us) op → Writes w (record w { heap = h }) op
along w h us {d = d} op e done = subst (λ g. Writes w (record w { heap = g }) op) (sym e) (writes-dirtied d done)

-- the same where no context need be active: a world that was ready is so still
pub record WritesAnyway (w v : PlainWorld) (op : Kept → Kept) : Type 0 where
  pub state : (m : Kept) → Keeps (plain_view w) m → Keeps (plain_view v) (op m)
  pub exact : SameKept (plain_view v) (op (plain_view w))
  pub sound : IsSound (plain_stored v) (plain_view v)
  pub ready : IsReady (plain_stored w) (plain_view w) → IsReady (plain_stored v) (plain_view v)
  pub names : KeepsNames (plain_stored w) (plain_stored v)

anyway-dirtied : {w v : PlainWorld} {op : Kept → Kept} (d : Bool) → WritesAnyway w v op → WritesAnyway w (dirtied v d) op
anyway-dirtied {w = w} {v = v} d done = record {
  state = done.state;
  exact = done.exact;
  sound = sound-dirtied d done.sound;
  ready = λ ready. ready-dirtied d (done.ready ready);
  names = names-dirtied (plain_stored w) (plain_stored v) d done.names;
}

pub anyway_along : (w : PlainWorld) (h : Memory) (us : List Object) {d : Bool} (op : Kept → Kept) → h ≡ record w.heap { objects = us; dirty = d } → WritesAnyway w (with_objects w us) op → WritesAnyway w (record w { heap = h }) op
anyway_along w h us {d = d} op e done = subst (λ g. WritesAnyway w (record w { heap = g }) op) (sym e) (anyway-dirtied d done)

-- the heap behind two stores into one object
pub twice : (h g k : Memory) (a i v j w z : ℕ) → g ≡ slot_stored h a i v → k ≡ slot_stored g a j w → w ≡ z → k ≡ slot_stored (slot_stored h a i v) a j z
twice h g k a i v j w z first second word = second ∙ ap (λ (m : Memory). slot_stored m a j w) first ∙ ap (slot_stored (slot_stored h a i v) a j) word

pub held_in : (w : PlainWorld) (o : Oop) → IsSound (plain_stored w) (plain_view w) → IsNamed (plain_stored w) o → Same (IsHeld (plain_view w)) (name_of (plain_stored w) o) (name_of (plain_stored w) o)
held_in w o sound named = same (name_of (plain_stored w) o) (ref_of-held w.heap.objects w.classes w.roots (plain_active w.heap.objects w.active) o.0 sound.holds.whole.heap named)

pub held_by : (w : PlainWorld) (o : Oop) → IsReady (plain_stored w) (plain_view w) → IsNamed (plain_stored w) o → Same (IsHeld (plain_view w)) (name_of (plain_stored w) o) (name_of (plain_stored w) o)
held_by w o ready named = held_in w o ready.sound named

module _ {w : PlainWorld} {a : Oop} {x : Object} (ready : IsReady (plain_stored w) (plain_view w)) (active : Active w a x) where
  known : Holds w.heap.objects w.classes w.roots a.0 x
  known = record { whole = ready.sound.holds.whole; there = active.there }

  slot_edited : (i v : ℕ) → Edited w.heap.objects (slot_set w.heap.objects a.0 i v)
  slot_edited i v = edited w.heap.objects a.0 x (set_word i v) (set_word-IsEdit i v) active.there

  pub writes-set_pc : (pc : ℕ) → pc < 2 ^ 30 → lies_in (method_of (plain_view w)) pc ≡ true
      → Writes w (with_objects w (slot_set w.heap.objects a.0 1 (small_word (pos pc)))) (λ m. set_pc_of m pc)
  unfolding set_pc_of
  writes-set_pc pc small lies =
      let count : natural_of_word (small_word (pos pc)) ≡ Some pc = count_of-small pc small in
      let does = does-set_pc known active.context (small_word (pos pc)) (is_reference-small w.heap.objects (pos pc) (small_natural pc small))
      (or_right (small_word (pos pc) == nil_word w.heap.objects) (is_some (natural_of_word (small_word (pos pc)))) (ap is_some count)) in
      let done = written w a x _ (with_pc (natural_of_word (small_word (pos pc)))) pc ready active does (slot_edited 1 (small_word (pos pc))) count refl refl refl lies in
      record {
        state = λ m k. subst (λ v. Keeps v (set_pc_of m pc)) (sym (done.view ∙ ap (λ p. edit_active (plain_view w) (with_pc p)) count)) (set_pc_moved k (is pc)).keeps;
        exact = same_kept _ _ (done.view ∙ ap (λ p. edit_active (plain_view w) (with_pc p)) count);
        ready = done.ready;
        names = done.names;
      }
    where
      or_right : (b c : Bool) → c ≡ true → (b || c) ≡ true
      or_right true c h = refl
      or_right false c h = h

  pub writes-set_stack : (i : ℕ) (v : Oop) → IsNamed (plain_stored w) v
      → Writes w (with_objects w (slot_set w.heap.objects a.0 (6 + i) v.0)) (λ m. set_stack_of m i (name_of (plain_stored w) v))
  unfolding set_stack_of
  writes-set_stack i v named =
      let done = written w a x _ (stored i (name_of (plain_stored w) v)) (pc_of (plain_view w)) ready active (does-set_stack known active.context i v.0 named) (slot_edited (6 + i) v.0)
      ready.running.live refl refl refl ready.running.method in
      record {
        state = λ m k. subst (λ u. Keeps u (set_stack_of m i (name_of (plain_stored w) v))) (sym done.view) (set_stack_moved k i (held_by w v ready named)).keeps;
        exact = same_kept _ _ done.view;
        ready = done.ready;
        names = done.names;
      }

  pub writes-push : (v : Oop) (d : ℕ) → d ≡ depth_of (plain_view w) → depth_of (plain_view w) < size_of (plain_view w) → IsNamed (plain_stored w) v
      → Writes w (with_objects w (slot_set (slot_set w.heap.objects a.0 (6 + d) v.0) a.0 2 (small_word (pos (d + 1))))) (λ m. push_of m (name_of (plain_stored w) v))
  unfolding push_of
  writes-push v d deep room named =
      let os = w.heap.objects in
      let depth : depth_in x.words ≡ d = depth_is_read ready active ∙ sym deep in
      let fits : depth_in x.words < length x.words - 6 = omega (arith, room, depth_is_read ready active, size_is_read ready active) in
      let does = subst (λ n. Does os (slot_set (slot_set os a.0 (6 + n) v.0) a.0 2 (small_word (pos (n + 1)))) w.classes w.roots (λ k. edit_object k (ref_of os a.0) (edit_context (pushed (ref_of os v.0))))) depth (does-push known active.context v.0 fits named) in
      let twice = with_object-twice os a.0 (set_word (6 + d) v.0) (set_word 2 (small_word (pos (d + 1)))) (set_word-IsEdit (6 + d) v.0) in
      let edit = edited os a.0 x (λ y. set_word 2 (small_word (pos (d + 1))) (set_word (6 + d) v.0 y)) (record {
        slots = λ y. (set_word-IsEdit 2 (small_word (pos (d + 1)))).slots (set_word (6 + d) v.0 y) ∙ (set_word-IsEdit (6 + d) v.0).slots y;
        birth = λ y. refl;
        class = λ y. refl;
        format = λ y. refl;
      }) active.there in
      let done = written w a x _ (pushed (name_of (plain_stored w) v)) (pc_of (plain_view w)) ready active does (subst (Edited os) (sym twice) edit) ready.running.live refl refl refl ready.running.method in
      record {
        state = λ m k. subst (λ u. Keeps u (push_of m (name_of (plain_stored w) v))) (sym done.view) (push_moved k (held_by w v ready named)).keeps;
        exact = same_kept _ _ done.view;
        ready = done.ready;
        names = done.names;
      }

  pub writes-pop : (d : ℕ) → d ≡ depth_of (plain_view w) → Writes w (with_objects w (slot_set w.heap.objects a.0 2 (small_word (pos (d - 1))))) (λ m. drop_of m 1)
  unfolding drop_of
  writes-pop d deep =
      let os = w.heap.objects in
      let depth : depth_in x.words ≡ d = depth_is_read ready active ∙ sym deep in
      let does = subst (λ n. Does os (slot_set os a.0 2 (small_word (pos (n - 1)))) w.classes w.roots (λ k. edit_object k (ref_of os a.0) (edit_context (popped 1)))) depth (does-pop known active.context 1) in
      let done = written w a x _ (popped 1) (pc_of (plain_view w)) ready active does (slot_edited 2 (small_word (pos (d - 1)))) ready.running.live refl refl refl ready.running.method in
      record {
        state = λ m k. subst (λ u. Keeps u (drop_of m 1)) (sym done.view) (drop_moved k 1).keeps;
        exact = same_kept _ _ done.view;
        ready = done.ready;
        names = done.names;
      }
