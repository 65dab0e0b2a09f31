-- An object that is no context is added to the heap: the state has it too.
use Rattle.std.proofs.Common.{◌≡◌, ◌∙◌, inr, ℕ, ◌+◌, ◌<◌, ◌≤◌, Bool, true, false, refl, sym, ap, subst, Option, List, [], ◌∷◌, ◌++◌, length, arith}
use Rattle.std.specs.Prelude.{◌==◌}
use Rattle.cs_word.specs.declared.Oop.{Oop}
use Rattle.cs_heap.specs.Object.{Memory, Object, next_address, size, used}
use Rattle.cs_heap.proofs.Laws.{is_object-new, object_at-new, used-pushed}
use Rattle.cs_classes.specs.Meaning.{is_heap_context, kept_of, objects_of}
use Rattle.cs_classes.specs.Sound.{IsWhole}
use Rattle.cs_classes.proofs.Heaps.{birth_of-object_at}
use Rattle.cs_classes.proofs.Makings.{Makes}
use Rattle.cs_classes.proofs.Refs.{is_reference-object, is_reference-push, ref_of-object, ref_of-push}
use Rattle.cs_classes.proofs.Wholes.{after_birth}
use Rattle.cs_frame.specs.Page.{frames_of}
use Rattle.cs_marriage.proofs.Laws.{agree_grown}
use Rattle.cs_model.specs.Ref as ref
use Rattle.cs_model.specs.Obj.{Obj}
use Rattle.cs_model.specs.State.{Kept, put}
use Rattle.cs_model.specs.Operation.{add_of, next_ref}
use Rattle.cs_acts.specs.Made.{contexts_in}
use Rattle.cs_acts.specs.Names.{KeepsNames, Names}
use Rattle.cs_stack.specs.declared.parts.Parts.{Parts}
use Rattle.cs_stack.specs.View.{active_in, active_page, bare, over, stored_of, view_of}
use Rattle.cs_stack.specs.Good.{IsGood}
use Rattle.cs_stack.proofs.Maps.{Objects}
use Rattle.cs_stack.proofs.Allocating.{contexts_push, with_made}
use Rattle.cs_stack.proofs.Bare.{bare_push, bare_whole, plain_unlinked, unlinked}
use Rattle.cs_stack.proofs.Grown.{frames_grown, lacks_next, links_grown, pages_grown, pcs_grown, senders_grown}
use Rattle.cs_stack.proofs.Stores.{pages_insert}

module _ (w : Parts) (good : IsGood w) (y : Object) (blank : Kept → Obj) (other : is_heap_context y ≡ false) (born : y.birth ≡ w.roots.next_birth)
    (makes : (xs : List Object) → IsWhole xs w.classes w.roots → Makes xs y w.classes w.roots blank) where
  abbrev os : List Object
  os = w.heap.objects

  abbrev all : List Object
  all = w.heap.objects ++ y ∷ []

  abbrev active : Option ℕ
  active = active_in (active_page w)

  abbrev below : Kept
  below = kept_of (bare os) w.classes w.roots active

  bare_all : bare all ≡ bare os ++ y ∷ []
  bare_all = bare_push os y ∙ ap (λ (z : Object). bare os ++ z ∷ []) (unlinked y (plain_unlinked y other))

  heap_view : kept_of (bare all) w.classes (after_birth w.roots) active ≡ add_of below (blank below)
  heap_view = ap (λ (xs : List Object). kept_of xs w.classes (after_birth w.roots) active) bare_all ∙ (makes (bare os) (bare_whole os w.classes w.roots good.whole)).kept active

  over_add : over os w.frames (add_of below (blank below)) ≡ add_of (view_of w) (blank below)
  unfolding add_of put
  over_add =
      let objects = pages_insert os w.frames (objects_of (bare os)) w.roots.next_birth (blank below) (λ p. lacks_next os w.roots.next_birth (frames_of w.frames p) (good.frames p)) in
      ap (λ (m : Objects). record (add_of (view_of w) (blank below)) { objects = m }) objects

  -- what is made depends on no object
  pub pushed_view : blank (kept_of (bare w.heap.objects) w.classes w.roots (active_in (active_page w))) ≡ blank (view_of w) → view_of (with_made w (w.heap.objects ++ y ∷ [])) ≡ add_of (view_of w) (blank (view_of w))
  pushed_view same =
      ap (over all w.frames) heap_view
      ∙ ap (λ (m : Objects). record (add_of below (blank below)) { objects = m }) (pages_grown w good y (add_of below (blank below)).objects)
      ∙ over_add ∙ ap (add_of (view_of w)) same

  pub pushed_good : w.roots.next_birth < 4611686018427387904 → used w.heap.objects + size (length y.words) ≤ w.heap.limit → IsGood (with_made w (w.heap.objects ++ y ∷ []))
  pushed_good births room = record {
    whole = (makes os good.whole).whole;
    within = omega (arith, room, used-pushed os y);
    most = good.most;
    births = omega (arith, births);
    pcs = pcs_grown os y (inr other) good.pcs;
    senders = senders_grown os y (inr other) good.senders;
    links = links_grown os y (λ l. absurd (let no = plain_unlinked y other in cc)) good.links;
    agree = agree_grown os w.frames y good.agree;
    frames = frames_grown w good y born;
    apart = good.apart;
    total = good.total;
    order = good.order;
    used_pages = good.used_pages;
    chain = good.chain;
  }

  pub pushed_contexts : contexts_in (w.heap.objects ++ y ∷ []) ≡ contexts_in w.heap.objects
  pushed_contexts = contexts_push os y other

  pub pushed_names : KeepsNames (stored_of w) (stored_of (with_made w (w.heap.objects ++ y ∷ [])))
  pushed_names = λ o h. record { sound = is_reference-push os y o.0 h; is = ref_of-push os y o.0 h }

  pub pushed_value : (o : Oop) → o.0 ≡ next_address w.heap.objects (length y.words) → Names (stored_of (with_made w (w.heap.objects ++ y ∷ []))) o (next_ref (view_of w))
  pushed_value o next =
      let there = is_object-new os y o.0 next in
      record {
        sound = is_reference-object all o.0 there;
        is = ref_of-object all o.0 there ∙ ap (λ n. ref.Obj n) (birth_of-object_at all o.0 y (object_at-new os y o.0 next) ∙ born);
      }
