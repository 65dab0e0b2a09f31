-- What a write to the active context, or to another object, does to the state.
use Rattle.std.proofs.Common.{◌≡◌, ℕ, Bool, true, refl, sym, ap, subst, ◌∙◌, Option, Some, None, List}
use Rattle.std.specs.Prelude.{◌≤◌, ◌||◌}
use Rattle.cs_word.specs.declared.Oop.{Oop}
use Rattle.cs_heap.specs.Object.{Object}
use Rattle.cs_classes.specs.Kinds.{ContextKinds, KindsStand}
use Rattle.cs_classes.specs.Meaning.{kept_of, ref_of}
use Rattle.cs_classes.proofs.Heaps.{is_object-object_at}
use Rattle.cs_classes.proofs.Refs.{ref_of-object}
use Rattle.cs_classes.proofs.Writes.{Does}
use Rattle.cs_model.specs.Ref.{Ref}
use Rattle.cs_model.specs.Ref as ref
use Rattle.cs_model.specs.Context.{closure_class, has_class_index}
use Rattle.cs_model.specs.Obj.{Context, edit_context, is_context_at, is_method, lies_in}
use Rattle.cs_model.specs.State.{Kept, PcLies, is_nil, object_of}
use Rattle.cs_model.specs.Read.{IsRunning, active_birth, active_context, method_of}
use Rattle.cs_model.specs.Operation.{edit_active, edit_found, edit_object}
use Rattle.cs_acts.specs.Names.{KeepsNames}
use Rattle.cs_acts.specs.Ready.{IsReady}
use Rattle.cs_acts.proofs.ContextKinds.{kinds-edit_active}
use Rattle.cs_acts.proofs.Running.{running-edit}
use Rattle.cs_plain.specs.declared.PlainWorld.{PlainWorld}
use Rattle.cs_plain.specs.View.{plain_active, plain_stored, plain_view}
use Rattle.cs_plain.proofs.Active.{Active, sound_world}
use Rattle.cs_plain.proofs.Edits.{Edited}
use Rattle.cs_plain.proofs.Pcs.{KeepsPcs, pcs-edit_active}

-- the world with other objects in its heap
abbrev pub with_objects : PlainWorld → List Object → PlainWorld
with_objects w us = record w { heap = record w.heap { objects = us } }

-- the world with a heap that is dirty or not
abbrev pub dirtied : PlainWorld → Bool → PlainWorld
dirtied v d = record v { heap = record v.heap { dirty = d } }

-- an edit of the active context by its reference
edit_object-active : (k : Kept) (g : Context → Context) → IsRunning k → edit_object k (ref.Obj (active_birth k)) (edit_context g) ≡ edit_active k g
edit_object-active k g running = ap (λ o. edit_found (edit_context g) (active_birth k) o k) running.found

-- the active context was written: the state is edited, the world is ready, and words mean what they meant
pub record Written (w v : PlainWorld) (g : Context → Context) : Type 0 where
  pub view : plain_view v ≡ edit_active (plain_view w) g
  pub ready : IsReady (plain_stored v) (plain_view v)
  pub names : KeepsNames (plain_stored w) (plain_stored v)

pub keeps_names : (w : PlainWorld) (us : List Object) → Edited w.heap.objects us → KeepsNames (plain_stored w) (plain_stored (with_objects w us))
keeps_names w us same = λ o named. record { sound = ap (λ p. p o.0) same.sound ∙ named; is = ap (λ r. r o.0) same.refers }

pub active-same : (os us : List Object) (active : Option Oop) → Edited os us → plain_active us active ≡ plain_active os active
active-same os us None same = refl
active-same os us (Some a) same = same.births a

pub written_view : (w : PlainWorld) (a : Oop) (x : Object) (us : List Object) (g : Context → Context) → IsReady (plain_stored w) (plain_view w) → Active w a x
    → Does w.heap.objects us w.classes w.roots (λ k. edit_object k (ref_of w.heap.objects a.0) (edit_context g))
    → Edited w.heap.objects us → plain_view (with_objects w us) ≡ edit_active (plain_view w) g
written_view w a x us g ready active does same =
    let os = w.heap.objects in
    let name : ref_of os a.0 ≡ ref.Obj (active_birth (plain_view w)) = ref_of-object os a.0 (is_object-object_at os a.0 x active.there) ∙ ap (λ b. ref.Obj b) (sym active.birth) in
    ap (kept_of us w.classes w.roots) (active-same os us w.active same) ∙ does.kept (plain_active os w.active)
    ∙ ap (λ r. edit_object (plain_view w) r (edit_context g)) name ∙ edit_object-active (plain_view w) g ready.running

-- contexts whose fields name the same name what they must, both or neither
same_kinds : (k : Kept) (c d : Context) → d.sender ≡ c.sender → d.method ≡ c.method → d.closure ≡ c.closure → ContextKinds k c → ContextKinds k d
same_kinds k c d sender method closure kinds = record {
  sender = subst (λ r. (is_nil k r || is_context_at (object_of k r)) ≡ true) (sym sender) kinds.sender;
  method = subst (λ r. (is_nil k r || is_method (object_of k r)) ≡ true) (sym method) kinds.method;
  closure = subst (λ r. (is_nil k r || has_class_index closure_class (object_of k r)) ≡ true) (sym closure) kinds.closure;
}

pub written : (w : PlainWorld) (a : Oop) (x : Object) (us : List Object) (g : Context → Context) (pc : ℕ)
    → IsReady (plain_stored w) (plain_view w) → Active w a x
    → Does w.heap.objects us w.classes w.roots (λ k. edit_object k (ref_of w.heap.objects a.0) (edit_context g))
    → Edited w.heap.objects us
    → (g (active_context (plain_view w))).pc ≡ Some pc → (g (active_context (plain_view w))).method ≡ (active_context (plain_view w)).method
    → (g (active_context (plain_view w))).sender ≡ (active_context (plain_view w)).sender → (g (active_context (plain_view w))).closure ≡ (active_context (plain_view w)).closure
    → lies_in (method_of (plain_view w)) pc ≡ true
    → Written w (with_objects w us) g
unfolding method_of
written w a x us g pc ready active does same at method sender closure lies =
    let view = written_view w a x us g ready active does same in
    let kept : KeepsPcs (edit_active (plain_view w) g) = pcs-edit_active (plain_view w) g ready.running ready.sound.pcs (lies_there (g (active_context (plain_view w))) at method) in
    let old : Context = active_context (plain_view w) in
    let kinds : KindsStand (edit_active (plain_view w) g) =
    kinds-edit_active (plain_view w) g ready.running.found ready.sound.kinds
    (same_kinds (plain_view w) old (g old) sender method closure (ready.sound.kinds (active_birth (plain_view w)) old ready.running.found)) in
    record {
      view = view;
      ready = record {
        sound = sound_world (with_objects w us) does.whole (subst (λ n. n ≤ w.heap.limit) (sym same.words) ready.sound.holds.within) ready.sound.holds.most (subst KindsStand (sym view) kinds) (subst KeepsPcs (sym view) kept);
        running = subst IsRunning (sym view) (running-edit (plain_view w) g pc ready.running at method lies);
      };
      names = keeps_names w us same;
    }
  where
    lies_there : (c : Context) → c.pc ≡ Some pc → c.method ≡ (active_context (plain_view w)).method → PcLies (plain_view w) c
    lies_there c live same p e =
        let is : pc ≡ p = cc in
        ap (λ m. lies_in (object_of (plain_view w) m) p) same ∙ ap (lies_in (object_of (plain_view w) (active_context (plain_view w)).method)) (sym is) ∙ lies
