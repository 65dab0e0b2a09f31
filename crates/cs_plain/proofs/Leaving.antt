-- A context dies, and its sender is active.
use Rattle.std.proofs.Common.{Bool, ◌≡◌, ℕ, pos, ◌<◌, ◌≤◌, ◌^◌, true, refl, sym, ap, subst, ◌∙◌, Option, Some, None, is_some, unwrap_or, List, [], length, set, option_and_then, arith, IsSomeAnd}
use Rattle.std.specs.Prelude.{◌==◌, nat_lt}
use Rattle.std.specs.FinMap.{nat_cmp-IsAntisymmetric, same_map}
use Rattle.std.specs.Cmp.{nat_cmp_total}
use Rattle.std.proofs.lemmas.Bool.{eq-eqb, or_left, or_right}
use Rattle.std.proofs.lemmas.Bool.Decides.{nat_tests}
use Rattle.cs_word.specs.declared.Oop.{Oop}
use Rattle.cs_word.specs.Word.{small_word, natural_of_word}
use Rattle.cs_heap.specs.Object.{Memory, Object, base, set_word, slot_of, with_object, slot_set}
use Rattle.cs_classes.specs.Meaning.{context_of, depth_in, is_heap_context, kept_of, ref_of}
use Rattle.cs_classes.specs.Meaning as meaning
use Rattle.cs_classes.specs.Kinds.{KindsStand}
use Rattle.cs_classes.specs.Sound.{IsSoundObject, is_reference, nil_word}
use Rattle.cs_classes.proofs.Contexts.{by_six, obj_of-edit_context}
use Rattle.cs_classes.proofs.Heaps.{IsEdit, set_word-IsEdit, with_object-twice}
use Rattle.cs_classes.proofs.Makings.{is_sender-base, nil_is_object, ref_of-nil}
use Rattle.cs_classes.proofs.Refs.{count_of-small, is_reference-object, is_reference-small, small_natural}
use Rattle.cs_classes.proofs.Sounds.{sound-set_context}
use Rattle.cs_classes.proofs.Writes.{Does, does-edit}
use Rattle.cs_model.specs.Ref.{Ref, named_object}
use Rattle.cs_model.specs.Obj.{Context, Ctx, Method, Obj, Ptr, Raw, context_in, dead, edit_context}
use Rattle.cs_model.specs.State.{Kept, object_at}
use Rattle.cs_model.specs.Keeps.{Keeps, SameKept}
use Rattle.cs_model.specs.Read.{IsRunning, active_birth, active_context, blank_context, depth_of, size_of}
use Rattle.cs_model.specs.Return.{context_at, context_birth, has_room, sender_birth}
use Rattle.cs_model.specs.Operation.{dead_object, edit_found, edit_object, kill_of, leave_of, push_of, resume_of}
use Rattle.cs_model.proofs.Operating.{leave_moved}
use Rattle.cs_acts.specs.Names.{IsNamed, KeepsNames, name_of}
use Rattle.cs_acts.specs.Ready.{IsReady}
use Rattle.cs_acts.specs.Targets.{CanArrive}
use Rattle.cs_plain.specs.declared.PlainWorld.{PlainWorld}
use Rattle.cs_plain.specs.Storing.{plain_buried}
use Rattle.cs_plain.specs.View.{oop_birth, plain_stored, plain_view}
use Rattle.cs_plain.proofs.Active.{sound_world}
use Rattle.cs_plain.proofs.Acts.{context_named}
use Rattle.cs_plain.proofs.Edits.{Edited, edited}
use Rattle.cs_plain.proofs.Pcs.{KeepsPcs, pcs-rest, running}
use Rattle.cs_plain.proofs.Writing.{held_by}
use Rattle.cs_heap.specs.Writes.{slots_stored}
use Rattle.cs_acts.proofs.ContextKinds.{kinds-kill, kinds-resume}
use Rattle.cs_acts.proofs.Dirty.{names-dirtied, ready-dirtied}
use Rattle.cs_plain.proofs.Written.{dirtied, keeps_names, with_objects}
use Rattle.std.specs.Prelude.{IfSome}
use Rattle.cs_heap.specs.Object.{slot_count_of}
use Rattle.cs_classes.proofs.Heaps.{birth_of-object_at, is_object-object_at}
use Rattle.cs_classes.proofs.Refs.{ref_of-object}
use Rattle.cs_classes.proofs.Sounds.{sound_at}
use Rattle.cs_model.specs.Ref as ref
use Rattle.cs_acts.specs.Ready.{IsSound}
use Rattle.cs_plain.specs.Cutting.{CanLand, landed_of}
use Rattle.cs_plain.specs.View.{plain_active}
use Rattle.cs_plain.proofs.Acts.{ContextAt, sender_read}
use Rattle.cs_plain.proofs.Acts as acts
use Rattle.cs_plain.proofs.Pcs.{no_place, pcs-put}
use Rattle.cs_plain.proofs.Ways.{kill-put, killed_other}
use Rattle.cs_plain.proofs.Written.{active-same}

-- ---- a context dies

buried_words : List ℕ → List ℕ
buried_words ws = set (set (set ws 0 base) 1 base) 2 (small_word (pos 0))

buried_context : (refer : ℕ → Ref) (hash : ℕ) (ws : List ℕ) → 6 ≤ length ws → context_of refer hash (buried_words ws) ≡ record (context_of refer hash ws) { sender = refer base; pc = None; stack = [] }
unfolding context_of natural_of_word buried_words
buried_context refer hash ws h =
    by_six (λ us. context_of refer hash (buried_words us) ≡ record (context_of refer hash us) { sender = refer base; pc = None; stack = [] }) (λ a b c d e f rest. refl) ws h

pub both-IsEdit : (f g : Object → Object) → IsEdit f → IsEdit g → IsEdit (λ x. g (f x))
both-IsEdit f g first second = record {
  slots = λ x. second.slots (f x) ∙ first.slots x;
  birth = λ x. second.birth (f x) ∙ first.birth x;
  class = λ x. second.class (f x) ∙ first.class x;
  format = λ x. second.format (f x) ∙ first.format x;
}

bury : Object → Object
bury x = set_word 2 (small_word (pos 0)) (set_word 1 base (set_word 0 base x))

bury-IsEdit : IsEdit bury
unfolding bury
bury-IsEdit = both-IsEdit (λ x. set_word 1 base (set_word 0 base x)) (set_word 2 (small_word (pos 0))) (both-IsEdit (set_word 0 base) (set_word 1 base) (set_word-IsEdit 0 base) (set_word-IsEdit 1 base)) (set_word-IsEdit 2 (small_word (pos 0)))

bury_hash : (x : Object) → (bury x).hash ≡ x.hash
unfolding bury
bury_hash x = refl

buried-one : (os : List Object) (a : ℕ) → plain_buried os a ≡ with_object os a bury
unfolding bury
buried-one os a =
    ap (λ us. slot_set us a 2 (small_word (pos 0))) (with_object-twice os a (set_word 0 base) (set_word 1 base) (set_word-IsEdit 0 base))
    ∙ with_object-twice os a (λ x. set_word 1 base (set_word 0 base x)) (set_word 2 (small_word (pos 0))) (both-IsEdit (set_word 0 base) (set_word 1 base) (set_word-IsEdit 0 base) (set_word-IsEdit 1 base))

module _ {w : PlainWorld} {a : Oop} {x : Object} (sound : IsSound (plain_stored w) (plain_view w)) (at : ContextAt w a x) where
  abbrev nil : ℕ
  nil = meaning.nth_birth w.heap.objects 0

  abbrev c : Context
  c = context_of (ref_of w.heap.objects) x.hash x.words

  base_named : is_reference w.heap.objects base ≡ true
  base_named = is_reference-object w.heap.objects base (nil_is_object w.heap.objects w.classes w.roots sound.holds.whole)

  sound_buried : IsSoundObject w.heap.objects (bury x)
  unfolding bury
  sound_buried =
      let os = w.heap.objects in
      let zero_word : ℕ = small_word (pos 0) in
      let small : 0 < 2 ^ 30 = omega arith in
      let count = count_of-small 0 small in
      let is_nil : (base == nil_word os) ≡ true = eq-eqb base (nil_word os) (sym sound.holds.whole.nil) in
      let first = sound-set_context os x 0 base (sound_at os a.0 x sound.holds.whole.heap at.there) at.context
      (record {
        reference = λ some. base_named;
        sender = λ e. is_sender-base os w.classes w.roots sound.holds.whole;
        pc = λ e. absurd (omega (arith, e));
        stackp = λ e. absurd (omega (arith, e));
        depth = λ e. absurd (omega (arith, e));
        method = λ e. absurd (omega (arith, e));
        closure = λ e. absurd (omega (arith, e));
      }) in
      let second = sound-set_context os (set_word 0 base x) 1 base first at.context
      (record {
        reference = λ some. base_named;
        sender = λ e. absurd (omega (arith, e));
        pc = λ e. or_left (base == nil_word os) (is_some (natural_of_word base)) is_nil;
        stackp = λ e. absurd (omega (arith, e));
        depth = λ e. absurd (omega (arith, e));
        method = λ e. absurd (omega (arith, e));
        closure = λ e. absurd (omega (arith, e));
      }) in
      sound-set_context os (set_word 1 base (set_word 0 base x)) 2 zero_word second at.context
      (record {
        reference = λ some. is_reference-small os (pos 0) (small_natural 0 small);
        sender = λ e. absurd (omega (arith, e));
        pc = λ e. absurd (omega (arith, e));
        stackp = λ e. or_right (zero_word == nil_word os) (is_some (natural_of_word zero_word)) (ap is_some count);
        depth = λ e. omega (arith, ap (λ (o : Option ℕ). unwrap_or o 0) count);
        method = λ e. absurd (omega (arith, e));
        closure = λ e. absurd (omega (arith, e));
      })

  does-bury : Does w.heap.objects (plain_buried w.heap.objects a.0) w.classes w.roots (λ k. edit_object k (ref_of w.heap.objects a.0) (edit_context (dead nil)))
  unfolding bury buried_words
  does-bury =
      let os = w.heap.objects in
      let refer = ref_of os in
      subst (λ us. Does os us w.classes w.roots (λ k. edit_object k (refer a.0) (edit_context (dead nil)))) (sym (buried-one os a.0))
      (does-edit (record { whole = sound.holds.whole; there = at.there }) bury (edit_context (dead nil)) bury-IsEdit (bury_hash x) sound_buried
      (obj_of-edit_context refer x (bury x) (dead nil) at.context at.context
      (buried_context refer x.hash x.words at.whole.fields
      ∙ ap (λ r. record (context_of refer x.hash x.words) { sender = r; pc = None; stack = [] }) (ref_of-nil os w.classes w.roots sound.holds.whole))))

  pub buried_edited : Edited w.heap.objects (plain_buried w.heap.objects a.0)
  buried_edited = subst (Edited w.heap.objects) (sym (buried-one w.heap.objects a.0)) (edited w.heap.objects a.0 x bury bury-IsEdit at.there)

  pub killed : plain_view (with_objects w (plain_buried w.heap.objects a.0)) ≡ kill_of (plain_view w) x.birth
  unfolding kill_of
  killed =
      let os = w.heap.objects in
      let us = plain_buried os a.0 in
      let k = plain_view w in
      let name : ref_of os a.0 ≡ ref.Obj x.birth = ref_of-object os a.0 (is_object-object_at os a.0 x at.there) ∙ ap (λ n. ref.Obj n) (birth_of-object_at os a.0 x at.there) in
      ap (kept_of us w.classes w.roots) (active-same os us w.active buried_edited) ∙ does-bury.kept (plain_active os w.active)
      ∙ ap (λ r. edit_object k r (edit_context (dead nil))) name
      ∙ ap (λ o. edit_found (edit_context (dead nil)) x.birth o k) at.means ∙ sym (ap (λ o. edit_found (dead_object nil) x.birth o k) at.means)

  killed_pcs : KeepsPcs (kill_of (plain_view w) x.birth)
  killed_pcs = subst KeepsPcs (sym (kill-put (plain_view w) x.birth c at.means))
      (pcs-put (plain_view w) x.birth (Ctx (dead nil c)) sound.pcs (no_place (object_at (plain_view w) x.birth) c (Ctx (dead nil c)) at.means) (λ d e pc l. absurd (dead_pc d e pc l)))
    where
      dead_pc : (d : Context) → Ctx (dead nil c) ≡ Ctx d → (pc : ℕ) → d.pc ≡ Some pc → ⊥
      dead_pc d e pc l = let same : dead nil c ≡ d = cc in let no : ◌≡◌ {A = Option ℕ} None (Some pc) = ap (λ (f : Context). f.pc) same ∙ l in absurd (cc)

  -- a context dies
  pub buried_sound : IsSound (plain_stored (with_objects w (plain_buried w.heap.objects a.0))) (plain_view (with_objects w (plain_buried w.heap.objects a.0)))
  buried_sound = sound_world (with_objects w (plain_buried w.heap.objects a.0)) does-bury.whole (subst (λ n. n ≤ w.heap.limit) (sym buried_edited.words) sound.holds.within) sound.holds.most
      (subst KindsStand (sym killed) (kinds-kill (plain_view w) x.birth sound.kinds)) (subst KeepsPcs (sym killed) killed_pcs)

-- ---- its sender is active

-- a live context
record Live (o : Option Obj) : Type 0 where
  context : Context
  pc : ℕ
  is : o ≡ Some (Ctx context)
  live : context.pc ≡ Some pc

live_context : (o : Option Obj) → is_some (option_and_then (λ (c : Context). c.pc) (context_in o)) ≡ true → Live o
live_context None h = absurd (cc)
live_context (Some (Ptr head slots)) h = absurd (cc)
live_context (Some (Raw head bytes)) h = absurd (cc)
live_context (Some (Method head header literals bytecodes)) h = absurd (cc)
live_context (Some (Ctx c)) h = go c.pc refl h
  where
    go : (o : Option ℕ) → c.pc ≡ o → is_some o ≡ true → Live (Some (Ctx c))
    go None e s = absurd (cc)
    go (Some pc) e s = record { context = c; pc = pc; is = refl; live = e }

-- the world in which a context died and another one is active
abbrev pub with_left : PlainWorld → Oop → Oop → PlainWorld
with_left w a sender = record w { heap = record w.heap { objects = plain_buried w.heap.objects a.0 }; active = Some sender }

pub record Landed (w v : PlainWorld) (home target : ℕ) : Type 0 where
  pub view : plain_view v ≡ resume_of (kill_of (plain_view w) home) target
  pub ready : IsReady (plain_stored v) (plain_view v)
  pub names : KeepsNames (plain_stored w) (plain_stored v)
  pub fits : depth_of (plain_view v) < size_of (plain_view v)

landed-dirtied : {w v : PlainWorld} {home target : ℕ} (d : Bool) → Landed w v home target → Landed w (dirtied v d) home target
landed-dirtied {w = w} {v = v} d h = record { view = h.view; ready = ready-dirtied d h.ready; names = names-dirtied (plain_stored w) (plain_stored v) d h.names; fits = h.fits }

module _ {w : PlainWorld} {a : Oop} {x : Object} (sound : IsSound (plain_stored w) (plain_view w)) (at : ContextAt w a x) (sender : Oop) (read : sender.0 ≡ slot_of w.heap.objects a.0 0) where
  landed_at : (target : ℕ) → sender_birth (plain_view w) x.birth ≡ Some target → CanLand (plain_view w) x.birth target → Landed w (with_left w a sender) x.birth target
  unfolding resume_of active_context
  landed_at target is can =
      let os = w.heap.objects in
      let us = plain_buried os a.0 in
      let k = plain_view w in
      let d : Kept = kill_of k x.birth in
      let edit = buried_edited sound at in
      let birth : oop_birth us sender ≡ Some target = edit.births sender ∙ sender_read sound at sender read ∙ is in
      let view : plain_view (with_left w a sender) ≡ resume_of d target = ap (kept_of us w.classes w.roots) birth ∙ ap (λ m. resume_of m target) (killed sound at) in
      let t = live_context (object_at k target) can.live in
      let stays : object_at d target ≡ Some (Ctx t.context) = killed_other k x.birth (c sound at) at.means target can.other ∙ t.is in
      let pcs : KeepsPcs (resume_of d target) = pcs-rest (resume_of d target).rest d (killed_pcs sound at) in
      let context : active_context (resume_of d target) ≡ t.context = ap (λ o. unwrap_or (context_in o) blank_context) stays in
      let room : nat_lt (length t.context.stack) t.context.size ≡ true = ap (λ o. has_room (context_in o)) (sym t.is) ∙ can.room in
      record {
        view = view;
        ready = record {
          sound = sound_world (with_left w a sender) (does-bury sound at).whole (subst (λ n. n ≤ w.heap.limit) (sym edit.words) sound.holds.within) sound.holds.most
              (subst KindsStand (sym view) (kinds-resume d target (kinds-kill k x.birth sound.kinds))) (subst KeepsPcs (sym view) pcs);
          running = subst IsRunning (sym view) (running (resume_of d target) target t.context t.pc refl stays t.live pcs);
        };
        names = keeps_names w us edit;
        fits = subst (λ m. depth_of m < size_of m) (sym view) (subst (λ (c : Context). length c.stack < c.size) (sym context) (below (length t.context.stack) t.context.size room));
      }
    where
      below : (m n : ℕ) → nat_lt m n ≡ true → m < n
      below m n h = grind (arith, nat_tests, h)

-- what is asked of a context that dies and of its sender, with both of them
pub record Target (w : PlainWorld) (a : Oop) : Type 0 where
  pub home : ℕ
  pub target : ℕ
  pub birth : oop_birth w.heap.objects a ≡ Some home
  pub sender : sender_birth (plain_view w) home ≡ Some target
  pub can : CanLand (plain_view w) home target

pub target_of : (w : PlainWorld) (a : Oop) → IsSomeAnd (oop_birth w.heap.objects a) (λ home. IsSomeAnd (sender_birth (plain_view w) home) (CanLand (plain_view w) home)) → Target w a
target_of w a h = go (oop_birth w.heap.objects a) refl h
  where
    then : (home : ℕ) → oop_birth w.heap.objects a ≡ Some home → (o : Option ℕ) → sender_birth (plain_view w) home ≡ o → IsSomeAnd o (CanLand (plain_view w) home) → Target w a
    then home e None f h = absurd h
    then home e (Some target) f h = record { home = home; target = target; birth = e; sender = f; can = h }

    go : (o : Option ℕ) → oop_birth w.heap.objects a ≡ o → IsSomeAnd o (λ home. IsSomeAnd (sender_birth (plain_view w) home) (CanLand (plain_view w) home)) → Target w a
    go None e h = absurd h
    go (Some home) e h = then home e (sender_birth (plain_view w) home) refl h

-- the slots of its fields are there
pub six_slots : (w : PlainWorld) (a : Oop) → IsSound (plain_stored w) (plain_view w) → Target w a → 6 ≤ slot_count_of w.heap.objects a.0
six_slots w a sound t = let x = acts.context_at w a sound (ap is_some t.birth) in omega (arith, x.1.whole.fields, x.1.count)

pub some_same : (m n : ℕ) → ◌≡◌ {A = Option ℕ} (Some m) (Some n) → m ≡ n
some_same m n h = cc

-- the heap that the code has
pub landing : (w : PlainWorld) (a sender : Oop) (h : Memory) → IsSound (plain_stored w) (plain_view w) → (t : Target w a) → sender.0 ≡ slot_of w.heap.objects a.0 0
    → h ≡ slots_stored w.heap a.0 (plain_buried w.heap.objects a.0) → Landed w (record w { heap = h; active = Some sender }) t.home t.target
landing w a sender h sound t read e =
    let x = acts.context_at w a sound (ap is_some t.birth) in
    let is : x.0.birth ≡ t.home = some_same x.0.birth t.home (sym x.1.birth ∙ t.birth) in
    let done = landed_at sound x.1 sender read t.target (ap (sender_birth (plain_view w)) is ∙ t.sender) (subst (λ n. CanLand (plain_view w) n t.target) (sym is) t.can) in
    subst (λ (g : Memory). Landed w (record w { heap = g; active = Some sender }) t.home t.target) (sym e) (landed-dirtied (slots_stored w.heap a.0 (plain_buried w.heap.objects a.0)).dirty (subst (λ n. Landed w (with_left w a sender) n t.target) is done))

-- ---- and the value is pushed

pub equal_kept : (a b : Kept) → SameKept a b → a ≡ b
equal_kept a b s =
    let objects = same_map nat_cmp_total nat_cmp-IsAntisymmetric a.objects b.objects s.objects in
    λ i. record { objects = objects i; rest = s.rest i }

-- the world behind the push
pub landed_view : (w v u : PlainWorld) (a x : Oop) (t : Target w a) → Landed w v t.home t.target → IsNamed (plain_stored w) x → SameKept (plain_view u) (push_of (plain_view v) (name_of (plain_stored v) x))
    → IfSome (oop_birth w.heap.objects a) (λ home. IfSome (sender_birth (plain_view w) home) (λ target. plain_view u ≡ landed_of (plain_view w) home target (name_of (plain_stored w) x)))
landed_view w v u a x t done named same =
    let exact : plain_view u ≡ landed_of (plain_view w) t.home t.target (name_of (plain_stored w) x) =
    equal_kept (plain_view u) (push_of (plain_view v) (name_of (plain_stored v) x)) same ∙ ap (push_of (plain_view v)) (done.names x named).is ∙ ap (λ m. push_of m (name_of (plain_stored w) x)) done.view in
    subst (λ o. IfSome o (λ home. IfSome (sender_birth (plain_view w) home) (λ target. plain_view u ≡ landed_of (plain_view w) home target (name_of (plain_stored w) x)))) (sym t.birth)
    (subst (λ o. IfSome o (λ target. plain_view u ≡ landed_of (plain_view w) t.home target (name_of (plain_stored w) x))) (sym t.sender) exact)

-- ---- the active context

birth_of_context : (k : Kept) (r : Ref) (i : ℕ) → context_birth k r ≡ Some i → named_object r ≡ Some i
birth_of_context k r i h = go (context_at k r) h
  where
    go : (o : Option Context) → option_and_then (λ c. named_object r) o ≡ Some i → named_object r ≡ Some i
    go None e = absurd (cc)
    go (Some c) e = e

module _ (w u : PlainWorld) (a v : Oop) (ready : IsReady (plain_stored w) (plain_view w)) (known : w.active ≡ Some a) (target : IsSomeAnd (sender_birth (plain_view w) (active_birth (plain_view w))) (CanArrive (plain_view w))) where
  active_at : oop_birth w.heap.objects a ≡ Some (active_birth (plain_view w))
  active_at = sym (ap (plain_active w.heap.objects) known) ∙ ready.running.known

  -- it can die
  pub can_land : IsSomeAnd (oop_birth w.heap.objects a) (λ home. IsSomeAnd (sender_birth (plain_view w) home) (CanLand (plain_view w) home))
  can_land = subst (λ o. IsSomeAnd o (λ home. IsSomeAnd (sender_birth (plain_view w) home) (CanLand (plain_view w) home))) (sym active_at) (go (sender_birth (plain_view w) (active_birth (plain_view w))) target)
    where
      go : (o : Option ℕ) → IsSomeAnd o (CanArrive (plain_view w)) → IsSomeAnd o (CanLand (plain_view w) (active_birth (plain_view w)))
      go None h = h
      go (Some i) h = record { live = h.live; other = h.other; room = h.room }

  sender_birth_is : sender_birth (plain_view w) (active_birth (plain_view w)) ≡ context_birth (plain_view w) (active_context (plain_view w)).sender
  sender_birth_is = ap (λ o. option_and_then (λ (c : Context). context_birth (plain_view w) c.sender) (context_in o)) ready.running.found

  pub left_exact : IfSome (oop_birth w.heap.objects a) (λ home. IfSome (sender_birth (plain_view w) home) (λ target. plain_view u ≡ landed_of (plain_view w) home target (name_of (plain_stored w) v)))
      → plain_view u ≡ leave_of (plain_view w) (name_of (plain_stored w) v)
  unfolding leave_of
  left_exact h =
      let k = plain_view w in
      let at = subst (λ o. IfSome o (λ home. IfSome (sender_birth k home) (λ target. plain_view u ≡ landed_of k home target (name_of (plain_stored w) v)))) active_at h in
      go (sender_birth k (active_birth k)) refl target at
    where
      go : (o : Option ℕ) → sender_birth (plain_view w) (active_birth (plain_view w)) ≡ o → IsSomeAnd o (CanArrive (plain_view w))
          → IfSome o (λ target. plain_view u ≡ landed_of (plain_view w) (active_birth (plain_view w)) target (name_of (plain_stored w) v)) → plain_view u ≡ leave_of (plain_view w) (name_of (plain_stored w) v)
      go None e t h = absurd t
      go (Some i) e t h =
          h ∙ ap (λ n. landed_of (plain_view w) (active_birth (plain_view w)) n (name_of (plain_stored w) v))
          (sym (ap (λ o. unwrap_or o (plain_view w).rest.nil) (birth_of_context (plain_view w) (active_context (plain_view w)).sender i (sym sender_birth_is ∙ e))))

pub left_state : (w u : PlainWorld) (x : Oop) → IsReady (plain_stored w) (plain_view w) → IsNamed (plain_stored w) x → plain_view u ≡ leave_of (plain_view w) (name_of (plain_stored w) x) → (m : Kept) → Keeps (plain_view w) m
    → Keeps (plain_view u) (leave_of m (name_of (plain_stored w) x))
left_state w u x ready named view m k = subst (λ v. Keeps v (leave_of m (name_of (plain_stored w) x))) (sym view) (leave_moved k (held_by w x ready named)).keeps

pub names_both : (w v u : PlainWorld) → KeepsNames (plain_stored w) (plain_stored v) → KeepsNames (plain_stored v) (plain_stored u) → KeepsNames (plain_stored w) (plain_stored u)
names_both w v u first second = λ o named.
    let a = first o named in
    let b = second o a.sound in
    record { sound = b.sound; is = b.is ∙ a.is }
