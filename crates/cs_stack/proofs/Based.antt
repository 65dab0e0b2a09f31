-- A world without frames in which a live context of the heap becomes a base frame: it is good, and the context is active.
use Rattle.std.proofs.Common.{◌≡◌, ◌≢◌, ◌↔◌, ℕ, pos, set, ◌-◌, ◌<◌, ◌≤◌, true, refl, sym, ap, subst, ◌∙◌, arith, Option, Some, None, IsSome, List, [], ◌∷◌, length, length-set, map, option_map, take, drop, zero, suc, inl, inr}
use Rattle.std.specs.Prelude.{Contains, nat_eq, slice_index, if◌then◌else◌}
use Rattle.std.specs.List.{AllPass, IsDistinct}
use Rattle.std.specs.Option.{option_map_or}
use Rattle.std.specs.FinMap.{get, same_map, nat_cmp-IsAntisymmetric}
use Rattle.std.specs.Cmp.{nat_cmp_total}
use Rattle.std.proofs.lemmas.Bool.{cases_eq, ne_eqb}
use Rattle.std.proofs.lemmas.List.Elements.{All-cons, All-take}
use Rattle.std.proofs.lemmas.Map.Keys.{IsDistinct-cons}
use Rattle.cs_heap.specs.Object.{Object, birth_at, class_at, hash_at, heap_object, slot_count_of, slot_of, with_object, words_at}
use Rattle.cs_heap.proofs.Laws.{field_of-with_object_kept}
use Rattle.cs_word.specs.Word.{small_word, natural_of_word}
use Rattle.cs_classes.specs.Meaning.{context_of, depth_in, kept_of, meaning_at, obj_of, objects_of, ref_of}
use Rattle.cs_classes.specs.Sound.{IsWhole, is_reference}
use Rattle.cs_classes.proofs.Heaps.{IsEdit, stands}
use Rattle.cs_classes.proofs.Sorts.{obj_of-context}
use Rattle.cs_classes.proofs.Sounds.{sound_at}
use Rattle.cs_classes.proofs.Wholes.{kept_of-with_object}
use Rattle.cs_frame.specs.declared.FrameRef.{FrameRef}
use Rattle.cs_frame.specs.Frame.{Frame, nil}
use Rattle.cs_frame.specs.Page.{frames_of, on_page}
use Rattle.cs_frame.proofs.PageLaws.{frames_of-on_page, frames_of-on_page_other, length-on_page}
use Rattle.cs_marriage.specs.Marriage.{base_frame, linked, stack_words}
use Rattle.cs_marriage.specs.Place.{names_place}
use Rattle.cs_marriage.proofs.Agreeing.{size_some}
use Rattle.cs_marriage.proofs.Based.{agree_based, deep, stack_long}
use Rattle.cs_marriage.proofs.Places.{link_names}
use Rattle.cs_model.specs.Ref as ref
use Rattle.cs_model.specs.Obj.{Ctx, Obj, context_class}
use Rattle.cs_model.specs.Context.{closure_class, lies_if_index, lies_if_live}
use Rattle.cs_model.specs.State as state
use Rattle.cs_model.specs.State.{Kept, put}
use Rattle.cs_model.specs.Operation.{edit_found, edit_object}
use Rattle.cs_model.proofs.Objects.{object_at-put_other}
use Rattle.cs_acts.specs.Made.{contexts_in}
use Rattle.cs_acts.specs.Names.{KeepsNames}
use Rattle.cs_pages.specs.Order.{IsFree, IsSoundOrder}
use Rattle.cs_stack.specs.declared.parts.Parts.{Parts}
use Rattle.cs_stack.specs.View.{active_in, active_page, bare, births_of, dead_words, frame_context, is_linked, laid_pages, layout_of, pages_onto, stored_of, unframed, view_of}
use Rattle.cs_stack.specs.Good.{AreApart, FramesFit, IsChain, IsGood, Lacks, is_nil_or}
use Rattle.cs_stack.specs.Moved.{based_parts}
use Rattle.cs_stack.proofs.Bare.{bare_at, bare_birth, bare_element, bare_whole, bare_with_object, unlinked}
use Rattle.cs_stack.proofs.Dying.{linked_is, unframed_linked}
use Rattle.cs_stack.proofs.Framed.{AllFit, IsOn, here, onto_bare, onto_frame}
use Rattle.cs_stack.proofs.Linking.{contexts_kept, linked_edit, linked_links, linked_pcs, linked_place, linked_references, linked_refers, linked_senders, linked_whole, linked_words, live_kept}
use Rattle.cs_stack.proofs.Rebasing.{IsLive, bare_objects, can_base, live_below, live_birth, live_context, live_count, live_lies, live_named, live_sender, live_slot, live_whole, no_frames}
use Rattle.cs_stack.proofs.Addresses.{closure_from, nil_or-with_object}

live_index : (m : Option Obj) (at : Option ℕ) → IsSome at → lies_if_live m at ≡ true → lies_if_index m at ≡ true
live_index m None some h = absurd (cc)
live_index m (Some pc) some h = h

apart_none : (gs : List Frame) → AreApart gs []
apart_none [] = tt
apart_none (g ∷ gs) = (tt, apart_none gs)

pub edit_rest : (k : Kept) (b : ℕ) (g : Obj → Obj) → (edit_object k (ref.Obj b) g).rest ≡ k.rest
unfolding put
edit_rest k b g = go (state.object_at k b)
  where
    go : (o : Option Obj) → (edit_found g b o k).rest ≡ k.rest
    go None = refl
    go (Some o) = refl

pub edit_other : (k : Kept) (b i : ℕ) (g : Obj → Obj) → i ≢ b → state.object_at (edit_object k (ref.Obj b) g) i ≡ state.object_at k i
edit_other k b i g ne = go (state.object_at k b)
  where
    go : (o : Option Obj) → state.object_at (edit_found g b o k) i ≡ state.object_at k i
    go None = refl
    go (Some o) = object_at-put_other k b i (g o) ne

module _ {u : Parts} (good : IsGood u) (closed : u.pages.recent ≡ []) (s : ℕ) (at : IsLive u.heap.objects s) (page : ℕ) (free : IsFree u.pages page) (named : is_reference u.heap.objects nil ≡ true) where
  abbrev os : List Object
  os = u.heap.objects

  abbrev r : FrameRef
  r = record { page = page; at = 0 }

  abbrev us : List Object
  us = with_object os s (linked r)

  abbrev f : Frame
  f = base_frame os s

  abbrev ps : List (List Frame)
  ps = on_page u.frames page (λ _. base_frame os s ∷ [])

  abbrev x : Object
  x = at.object

  within : page < length u.frames
  within = omega (arith, good.total, free.0)

  page_here : frames_of ps page ≡ f ∷ []
  page_here = frames_of-on_page u.frames page (λ _. base_frame os s ∷ []) within

  page_other : (q : ℕ) → q ≢ page → frames_of ps q ≡ []
  page_other q ne = frames_of-on_page_other u.frames page q (λ _. base_frame os s ∷ []) ne ∙ no_frames good closed q

  whole : IsWhole us u.classes u.roots
  whole = linked_whole s x r good.whole at.there at.context named

  refers : ref_of us ≡ ref_of os
  refers = linked_refers s x r good.whole at.there at.context named

  references : is_reference us ≡ is_reference os
  references = linked_references s x r good.whole at.there at.context named

  six : 6 ≤ slot_count_of os s
  six = let w = live_whole good.whole at good.pcs good.births in omega (arith, w.fields, live_count good.whole at good.pcs good.births)

  slot_named : (i : ℕ) → i < 6 → is_reference us (slot_of os s i) ≡ true
  slot_named i h = ap (λ q. q (slot_of os s i)) references ∙ live_named good.whole at good.pcs good.births i (omega (arith, h, six))

  words_are : words_at os s ≡ x.words
  words_are = ap (λ (o : Option Object). option_map_or (λ (x : Object). x.words) o []) at.there

  not_nil : s ≢ nil
  not_nil e = good.agree.nil_class (ap (class_at os) (sym e) ∙ (live_context good.whole at good.pcs good.births).class)

  kept_count : slot_count_of us s ≡ slot_count_of os s
  kept_count = field_of-with_object_kept (λ y. length y.words) os s s (linked r) (linked_edit r).slots (linked_edit r).slots

  stack_named : AllPass (is_reference us) (stack_words os s)
  stack_named = subst (λ q. AllPass q (stack_words os s)) (sym references) (subst (λ ws. AllPass (is_reference os) (take (depth_in ws) (drop 6 ws))) (sym words_are)
      (All-take (λ (v : ℕ). is_reference os v ≡ true) (depth_in x.words) (drop 6 x.words) (live_whole good.whole at good.pcs good.births).stack))

  closure_fits : is_nil_or closure_class us (slot_of os s 4) ≡ true
  closure_fits =
      ap (λ q. q (slot_of os s 4)) (nil_or-with_object closure_class os s (linked r) (linked_edit r))
      ∙ ap (is_nil_or closure_class os) (live_slot good.whole at good.pcs good.births 4)
      ∙ closure_from os (slice_index x.words 4) good.whole.nil good.agree.nil_there ((sound_at os s x good.whole.heap at.there).context at.context).closure

  base_fits : FramesFit us u.roots.next_birth (f ∷ [])
  base_fits = let can = can_base good.whole at good.pcs good.births in (
    record {
      names = record { closure = closure_fits; receiver = slot_named 5 (omega arith); stack = stack_named };
      lies = live_index (meaning_at us (slot_of os s 3)) (natural_of_word (slot_of os s 1)) can.live
          (live_kept s x r good.whole at.there at.context named (slot_of os s 3) (natural_of_word (slot_of os s 1)) ∙ live_lies good.whole at good.pcs good.births);
      fits = omega (arith, stack_long os s can, deep os s can, size_some us f not_nil, kept_count);
      stands = refl;
      room = omega arith;
      birth = live_below good.whole at good.pcs good.births;
      apart = tt;
      sender = ap (λ q. q (slot_of os s 0)) (nil_or-with_object context_class os s (linked r) (linked_edit r)) ∙ live_sender good.whole at good.pcs good.births;
      alone = λ e. absurd (not_nil e);
    },
    tt,
  )

  fits : (q : ℕ) → FramesFit us u.roots.next_birth (frames_of ps q)
  fits q = elim (cases_eq q page) [
    | inl e ↦ subst (λ n. FramesFit us u.roots.next_birth (frames_of ps n)) (sym e) (subst (FramesFit us u.roots.next_birth) (sym page_here) base_fits)
    | inr ne ↦ subst (FramesFit us u.roots.next_birth) (sym (page_other q ne)) tt
  ]

  apart : (p q : ℕ) → p ≢ q → AreApart (frames_of ps p) (frames_of ps q)
  apart p q ne = elim (cases_eq p page) [
    | inl e ↦ subst (AreApart (frames_of ps p)) (sym (page_other q (λ h. ne (e ∙ sym h)))) (apart_none (frames_of ps p))
    | inr off ↦ subst (λ fs. AreApart fs (frames_of ps q)) (sym (page_other p off)) tt
  ]

  all : AllFit us u.roots.next_birth ps
  all = record { frames = fits; apart = apart }

  recent_is : page ∷ u.pages.recent ≡ page ∷ []
  recent_is = ap (λ ns. page ∷ ns) closed

  order : IsSoundOrder (record u.pages { recent = page ∷ u.pages.recent })
  order = record {
    distinct = subst (λ ns. IsDistinct nat_eq (page ∷ ns)) (sym closed) (IsDistinct-cons nat_eq page [] tt (subst (λ ns. IsDistinct nat_eq ns) closed good.order.distinct));
    in_range = All-cons (λ p. p < u.pages.total) page u.pages.recent free.0 good.order.in_range;
  }

  only : (q : ℕ) → Contains (page ∷ []) q ↔ (0 < length (frames_of ps q))
  only q = elim (cases_eq q page) [
    | inl e ↦ (
      λ _. subst (λ n. 0 < length (frames_of ps n)) (sym e) (omega (arith, ap length page_here)),
      λ _. (0, omega arith, sym e),
    )
    | inr ne ↦ (λ h. absurd (none q ne h), λ h. absurd (omega (arith, h, ap length (page_other q ne))))
  ]
    where
      none : (q : ℕ) → q ≢ page → Contains (page ∷ []) q → ⊥
      none q ne (zero, less, same) = ne (sym same)
      none q ne (suc k, less, same) = omega (arith, less)

  pub based_good : IsGood (based_parts page s u)
  based_good = record {
    whole = whole;
    within = subst (λ n. n ≤ u.heap.limit) (sym (linked_words s x r good.whole at.there at.context named)) good.within;
    most = good.most;
    births = good.births;
    pcs = linked_pcs s x r good.whole at.there at.context named good.pcs;
    senders = linked_senders s x r good.whole at.there at.context named good.senders;
    links = linked_links s x r good.whole at.there at.context named good.links;
    agree = agree_based os u.frames s page good.agree (can_base good.whole at good.pcs good.births) within (no_frames good closed page);
    frames = fits;
    apart = apart;
    total = good.total ∙ sym (length-on_page u.frames page (λ _. base_frame os s ∷ []));
    order = order;
    used_pages = λ q. subst (λ ns. Contains ns q ↔ (0 < length (frames_of ps q))) (sym recent_is) (only q);
    chain = subst (λ ns. IsChain ps ns) (sym recent_is) tt;
  }

  -- ---- the state

  linked_now : is_linked (linked r x) ≡ true
  linked_now = linked_is (linked r x) at.context (ap names_place (linked_place r x (live_whole good.whole at good.pcs good.births).fields) ∙ link_names r)

  abbrev widowed : Object → Object
  widowed y = record y { words = dead_words (linked r y).words }

  widowed_edit : IsEdit widowed
  widowed_edit = record {
    slots = λ y. length-set (set (set (linked r y).words 0 nil) 1 nil) 2 (small_word (pos 0)) ∙ length-set (set (linked r y).words 0 nil) 1 nil ∙ length-set (linked r y).words 0 nil ∙ (linked_edit r).slots y;
    birth = λ y. refl;
    class = λ y. refl;
    format = λ y. refl;
  }

  bare_is : bare us ≡ with_object (bare os) s widowed
  bare_is = bare_with_object os s x (linked r) widowed at.there (unframed_linked (linked r x) linked_now ∙ sym (ap widowed (unlinked x at.single)))

  bare_there : heap_object (bare os) s ≡ Some (unframed x)
  bare_there = bare_at os s ∙ ap (option_map unframed) at.there

  abbrev ghost_of : Obj → Obj
  ghost_of o = obj_of (ref_of (bare os)) (widowed (unframed x))

  kept_is : (active : Option ℕ) → kept_of (bare us) u.classes u.roots active ≡ edit_object (kept_of (bare os) u.classes u.roots active) (ref.Obj (birth_at (bare os) s)) ghost_of
  kept_is active = ap (λ ys. kept_of ys u.classes u.roots active) bare_is
      ∙ kept_of-with_object (bare os) u.classes u.roots active s (unframed x) widowed ghost_of widowed_edit (bare_whole os u.classes u.roots good.whole).heap bare_there refl

  rest_is : (active : Option ℕ) → (kept_of (bare us) u.classes u.roots active).rest ≡ (kept_of (bare os) u.classes u.roots active).rest
  rest_is active = ap (λ (k : Kept). k.rest) (kept_is active) ∙ edit_rest (kept_of (bare os) u.classes u.roots active) (birth_at (bare os) s) ghost_of

  other_is : (i : ℕ) → i ≢ birth_at os s → get (objects_of (bare us)) i ≡ get (objects_of (bare os)) i
  other_is i ne = ap (λ (k : Kept). state.object_at k i) (kept_is None) ∙ edit_other (kept_of (bare os) u.classes u.roots None) (birth_at (bare os) s) i ghost_of (λ e. ne (e ∙ bare_birth os s))

  base_context : frame_context us f [] ≡ context_of (ref_of os) x.hash x.words
  unfolding frame_context context_of
  base_context =
      let slot = live_slot good.whole at good.pcs good.births in
      λ i. record {
        hash = (ap (λ b. if b then 0 else hash_at us s) (ne_eqb s nil not_nil) ∙ field_of-with_object_kept (λ y. y.hash) os s s (linked r) (linked_edit r).slots (λ y. refl)
            ∙ ap (λ (o : Option Object). option_map_or (λ (y : Object). y.hash) o 0) at.there) i;
        sender = (ap (λ q. q (slot_of os s 0)) refers ∙ ap (ref_of os) (slot 0)) i;
        pc = ap natural_of_word (slot 1) i;
        method = (ap (λ q. q (slot_of os s 3)) refers ∙ ap (ref_of os) (slot 3)) i;
        closure = (ap (λ q. q (slot_of os s 4)) refers ∙ ap (ref_of os) (slot 4)) i;
        receiver = (ap (λ q. q (slot_of os s 5)) refers ∙ ap (ref_of os) (slot 5)) i;
        stack = (ap (λ q. map q (stack_words os s)) refers ∙ ap (λ ws. map (ref_of os) (take (depth_in ws) (drop 6 ws))) words_are) i;
        size = (size_some us f not_nil ∙ ap (λ n. n - 6) (kept_count ∙ live_count good.whole at good.pcs good.births)) i;
      }

  found : get (objects_of (bare os)) (birth_at os s) ≡ Some (Ctx (context_of (ref_of os) x.hash x.words))
  found =
      let k = stands os s x at.there in
      ap (get (objects_of (bare os))) (live_birth good.whole at good.pcs good.births) ∙ bare_element os k.0 x good.whole.heap k.1.element
      ∙ ap (λ y. Some (obj_of (ref_of os) y)) (unlinked x at.single) ∙ ap (λ o. Some o) (obj_of-context (ref_of os) x at.context)

  base_here : get (pages_onto us ps (objects_of (bare us))) (birth_at os s) ≡ get (objects_of (bare os)) (birth_at os s)
  base_here = onto_frame us u.roots.next_birth ps (objects_of (bare us)) page all (subst (IsOn f []) (sym page_here) here) ∙ ap (λ c. Some (Ctx c)) base_context ∙ sym found

  lacking : (i : ℕ) → i ≢ birth_at os s → (q : ℕ) → Lacks i (frames_of ps q)
  lacking i ne q = elim (cases_eq q page) [
    | inl e ↦ subst (λ n. Lacks i (frames_of ps n)) (sym e) (subst (Lacks i) (sym page_here) (ne, tt))
    | inr off ↦ subst (Lacks i) (sym (page_other q off)) tt
  ]

  objects_are : pages_onto us ps (objects_of (bare us)) ≡ (view_of u).objects
  objects_are = same_map nat_cmp_total nat_cmp-IsAntisymmetric _ _ (λ i. elim (cases_eq i (birth_at os s)) [
    | inl e ↦ ap (get (pages_onto us ps (objects_of (bare us)))) e ∙ base_here ∙ ap (get (objects_of (bare os))) (sym e)
    | inr ne ↦ onto_bare us ps (objects_of (bare us)) i (lacking i ne) ∙ other_is i ne
  ]) ∙ sym (bare_objects good closed)

  page_is : active_page (based_parts page s u) ≡ f ∷ []
  page_is = page_here

  -- nothing changes but that the context is active
  pub based_view : view_of (based_parts page s u) ≡ record (view_of u) { rest = record (view_of u).rest { active = Some (birth_at os s) } }
  based_view =
      ap (λ a. record (kept_of (bare us) u.classes u.roots a) { objects = pages_onto us ps (objects_of (bare us)) }) (ap active_in page_is)
      ∙ ap (λ m. record (kept_of (bare us) u.classes u.roots (Some (birth_at os s))) { objects = m }) objects_are
      ∙ ap (λ q. record (view_of u) { rest = q }) (rest_is (Some (birth_at os s)))

  pub based_names : KeepsNames (stored_of u) (stored_of (based_parts page s u))
  based_names = λ o h. record { sound = ap (λ q. q o.0) references ∙ h; is = ap (λ q. q o.0) refers }

  pub based_contexts : contexts_in (based_parts page s u).heap.objects ≡ contexts_in u.heap.objects
  based_contexts = contexts_kept os s (linked r) (linked_edit r)

  pub based_layout : layout_of (based_parts page s u) ≡ Some (record { most = u.pages.total; pages = (birth_at os s ∷ []) ∷ [] })
  based_layout = ap (λ ns. Some (record { most = u.pages.total; pages = laid_pages ps ns })) recent_is
      ∙ ap (λ fs. Some (record { most = u.pages.total; pages = births_of fs ∷ [] })) page_here
