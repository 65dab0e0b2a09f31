-- An object is made: the heap has one more, and so has the state.
use Rattle.std.proofs.Common.{◌≡◌, ◌∙◌, inr, ℕ, zero, suc, ◌+◌, ◌*◌, ◌-◌, ◌<◌, ◌≤◌, ◌^◌, Bool, true, false, refl, sym, ap, ap₂, subst, Option, None, is_some, List, [], ◌∷◌, ◌++◌, replicate, arith}
use Rattle.std.specs.Prelude.{◌==◌, if◌then◌else◌}
use Rattle.std.specs.FinMap.{get}
use Rattle.std.proofs.lemmas.List.{length-replicate}
use Rattle.cs_model.specs.Words.{unused_bytes}
use Rattle.cs_word.specs.declared.Oop.{Oop}
use Rattle.cs_heap.specs.Format.{is_code, is_pointers}
use Rattle.cs_heap.specs.Object.{Memory, Object, new_object, next_address, size, used}
use Rattle.cs_heap.proofs.Laws.{is_object-new, length-new_words, next_address-new, object_at-new, used-pushed}
use Rattle.cs_classes.specs.Meaning.{is_heap_context, kept_of, objects_of}
use Rattle.cs_classes.specs.Sound.{IsWhole, is_weak}
use Rattle.cs_classes.proofs.Heaps.{birth_of-object_at}
use Rattle.cs_classes.proofs.Makings.{Makes, makes-bytes, makes-pointers}
use Rattle.cs_classes.proofs.Refs.{is_reference-object, is_reference-push, ref_of-object, ref_of-push}
use Rattle.cs_classes.proofs.Wholes.{after_birth, kind_of-entry}
use Rattle.cs_frame.specs.Page.{frames_of}
use Rattle.cs_marriage.proofs.Laws.{agree_grown}
use Rattle.cs_model.specs.Ref as ref
use Rattle.cs_model.specs.Obj.{Obj, Raw, words_of, new_head}
use Rattle.cs_model.specs.State.{Kept, NamesHeld, is_class_index, object_at, put}
use Rattle.cs_model.specs.Demand.{words_taken, words_below, words_held}
use Rattle.cs_model.specs.Keeps.{Keeps}
use Rattle.cs_model.specs.Operation.{add_of, new_pointers, next_ref}
use Rattle.cs_model.proofs.Objects.{object_at-put_other, object_at-put_same}
use Rattle.cs_model.proofs.Operating.{add_moved, new_pointers_same}
use Rattle.cs_model.proofs.Same.{Same, same}
use Rattle.cs_acts.specs.Full.{IsFullHeap}
use Rattle.cs_acts.specs.Made.{CanAllocate, blank_of, contexts_in}
use Rattle.cs_acts.specs.Names.{KeepsNames, Names}
use Rattle.cs_acts.specs.Ready.{IsReady, IsSound}
use Rattle.cs_acts.proofs.Allocating.{class_below, entry_in, no_context_class, no_immediate_class, no_method_format, no_weak_format}
use Rattle.cs_stack.specs.declared.parts.Parts.{Parts}
use Rattle.cs_stack.specs.View.{active_in, active_page, bare, layout_of, over, stored_of, view_of}
use Rattle.cs_stack.specs.Good.{IsGood}
use Rattle.cs_stack.proofs.Maps.{Objects}
use Rattle.cs_stack.proofs.Bare.{bare_push, bare_whole, plain_unlinked, unlinked}
use Rattle.cs_classes.proofs.Counting.{few_unused, raw_slots, some_slot}
use Rattle.cs_stack.proofs.Counting.{words_heap}
use Rattle.cs_stack.proofs.Grown.{frames_grown, lacks_next, links_grown, pages_grown, pcs_grown, senders_grown}
use Rattle.cs_stack.proofs.Closed.{good_sound}
use Rattle.cs_stack.proofs.Tops.{ready_again}
use Rattle.cs_stack.proofs.Stores.{pages_insert}

-- the world with an object more
abbrev pub with_made : Parts → List Object → Parts
with_made w us = record w { heap = record w.heap { objects = us }; roots = after_birth w.roots }

-- ---- words

words_below-add : (k : Kept) (o : Obj) (n : ℕ) → n ≤ k.rest.next → words_below n (add_of k o) ≡ words_below n k
unfolding words_below add_of
words_below-add k o zero below = refl
words_below-add k o (suc n) below =
    ap₂ (λ (a b : ℕ). a + b) (words_below-add k o n (omega (arith, below))) (ap words_taken (object_at-put_other k k.rest.next n o (λ e. omega (arith, e, below))))

words_next : (k : Kept) (o : Obj) (n : ℕ) → n ≡ suc k.rest.next → words_below n (add_of k o) ≡ words_held k + words_of o
unfolding words_below add_of
words_next k o zero e = absurd (omega (arith, e))
words_next k o (suc n) e =
    let is : n ≡ k.rest.next = omega (arith, e) in
    ap₂ (λ (a b : ℕ). a + b) (words_below-add k o n (omega (arith, is)) ∙ ap (λ m. words_below m k) is) (ap words_taken (ap (object_at (put k k.rest.next o)) is ∙ object_at-put_same k k.rest.next o))

-- an object more has words more
pub words-add : (k : Kept) (o : Obj) → words_held (add_of k o) ≡ words_held k + words_of o
unfolding add_of
words-add k o = words_next k o (k.rest.next + 1) (omega arith)

-- what is no context adds none
pub contexts_push : (os : List Object) (y : Object) → is_heap_context y ≡ false → contexts_in (os ++ y ∷ []) ≡ contexts_in os
unfolding contexts_in
contexts_push [] y other = ap (λ b. 0 + (if b then 1 else 0)) other
contexts_push (x ∷ xs) y other = ap (λ n. n + (if is_heap_context x then 1 else 0)) (contexts_push xs y other)

-- ---- the world

module _ (w : Parts) (good : IsGood w) (class format slots : ℕ) (fits : CanAllocate (view_of w) class format slots) where
  abbrev os : List Object
  os = w.heap.objects

  abbrev new : Object
  new = new_object class format slots w.roots.next_birth

  abbrev all : List Object
  all = os ++ new ∷ []

  abbrev blank : Obj
  blank = blank_of (view_of w) class format slots

  abbrev made : Kept
  made = add_of (view_of w) (blank_of (view_of w) class format slots)

  entry : is_some (get w.classes class) ≡ true
  entry = entry_in (bare os) w.classes class fits.entry

  pub index_below : ((index : ℕ) → 16384 ≤ index → get w.classes index ≡ None) → class < 2 ^ 22
  index_below = class_below w.classes class entry

  other : (class == 36) ≡ false
  other = no_context_class (view_of w) class format slots fits

  no_method : is_code format ≡ false
  no_method = no_method_format (view_of w) class format slots fits

  no_weak : is_weak format ≡ false
  no_weak = no_weak_format (view_of w) class format slots fits

  -- the class is none of an immediate's
  kind : (xs : List Object) → IsWhole xs w.classes w.roots → is_class_index class ≡ true
  kind xs whole = let apart = no_immediate_class (view_of w) class format slots fits in kind_of-entry xs w.classes w.roots class whole entry apart.0 apart.1 apart.2

  abbrev blank_by : Bool → Kept → Obj
  blank_by b m = if b then new_pointers m class format slots else Raw (new_head class format) (replicate (4 * slots - unused_bytes format) 0)

  -- the object is made in the heap, and in the heap without its frames
  makes : (xs : List Object) → IsWhole xs w.classes w.roots → Makes xs new w.classes w.roots (λ m. blank_of m class format slots)
  makes xs whole = go (is_pointers format) refl
    where
      go : (b : Bool) → is_pointers format ≡ b → Makes xs new w.classes w.roots (λ m. blank_of m class format slots)
      go true e = subst (λ b. Makes xs new w.classes w.roots (blank_by b)) (sym e) (makes-pointers whole class format slots (kind xs whole) other no_weak e fits.shape entry)
      go false e = subst (λ b. Makes xs new w.classes w.roots (blank_by b)) (sym e) (makes-bytes whole class format slots (kind xs whole) other e no_method fits.shape entry)

  bare_all : bare all ≡ bare os ++ new ∷ []
  bare_all = bare_push os new ∙ ap (λ (y : Object). bare os ++ y ∷ []) (unlinked new (plain_unlinked new other))

  abbrev active : Option ℕ
  active = active_in (active_page w)

  abbrev below : Kept
  below = kept_of (bare os) w.classes w.roots active

  heap_view : kept_of (bare all) w.classes (after_birth w.roots) active ≡ add_of below blank
  heap_view = ap (λ (xs : List Object). kept_of xs w.classes (after_birth w.roots) active) bare_all ∙ (makes (bare os) (bare_whole os w.classes w.roots good.whole)).kept active

  over_add : over os w.frames (add_of below blank) ≡ made
  unfolding add_of put
  over_add =
      let objects = pages_insert os w.frames (objects_of (bare os)) w.roots.next_birth blank (λ p. lacks_next os w.roots.next_birth (frames_of w.frames p) (good.frames p)) in
      ap (λ (m : Objects). record made { objects = m }) objects

  pub made_view : view_of (with_made w all) ≡ made
  made_view =
      ap (over all w.frames) heap_view
      ∙ ap (λ (m : Objects). record (add_of below blank) { objects = m }) (pages_grown w good new (add_of below blank).objects)
      ∙ over_add

  pub made_good : used os + size slots ≤ w.heap.limit → IsGood (with_made w all)
  made_good room = record {
    whole = (makes os good.whole).whole;
    within = omega (arith, room, used-pushed os new, ap size (length-new_words class format slots w.roots.next_birth));
    most = good.most;
    births = omega (arith, fits.births);
    pcs = pcs_grown os new (inr other) good.pcs;
    senders = senders_grown os new (inr other) good.senders;
    links = links_grown os new (λ l. absurd (let no = plain_unlinked new other in cc)) good.links;
    agree = agree_grown os w.frames new good.agree;
    frames = frames_grown w good new refl;
    apart = good.apart;
    total = good.total;
    order = good.order;
    used_pages = good.used_pages;
    chain = good.chain;
  }

  pub made_contexts : contexts_in all ≡ contexts_in os
  made_contexts = contexts_push os new other

  pub made_names : KeepsNames (stored_of w) (stored_of (with_made w all))
  made_names = λ o h. record { sound = is_reference-push os new o.0 h; is = ref_of-push os new o.0 h }

  pub made_value : (o : Oop) → o.0 ≡ next_address os slots → Names (stored_of (with_made w all)) o (next_ref (view_of w))
  made_value o e =
      let next = next_address-new os o.0 class format slots w.roots.next_birth e in
      let there = is_object-new os new o.0 next in
      record {
        sound = is_reference-object all o.0 there;
        is = ref_of-object all o.0 there ∙ ap (λ n. ref.Obj n) (birth_of-object_at all o.0 new (object_at-new os new o.0 next));
      }

  -- ---- where the heap is full

  blank_words : words_of blank ≡ size slots
  blank_words = go (is_pointers format) refl
    where
      go : (b : Bool) → is_pointers format ≡ b → words_of (blank_by b (view_of w)) ≡ size slots
      go true e = ap size (length-replicate slots _)
      go false e = ap size (raw_slots slots (unused_bytes format) _ (few_unused format slots fits.shape e) (some_slot format slots fits.shape e) (length-replicate (4 * slots - unused_bytes format) 0))

  made_words : used os + size slots ≤ words_held made
  made_words = omega (arith, words-add (view_of w) blank, words_heap w good, blank_words)

  pub full_made : (h : Memory) → h ≡ w.heap → w.heap.limit < used os + size slots → IsFullHeap (stored_of (record w { heap = h })) (layout_of w) (size slots) made
  full_made h unchanged over = record {
    words = omega (arith, ap (λ (g : Memory). g.limit) unchanged, over, made_words);
    room = omega (arith, ap (λ (g : Memory). g.limit) unchanged, ap (λ (g : Memory). used g.objects) unchanged, over, made_words);
  }

-- ---- what a call of it does

-- a state that keeps another one makes the same object
blank_same : (k m : Kept) (class format slots : ℕ) → Keeps k m → Same (NamesHeld k) (blank_of k class format slots) (blank_of m class format slots)
blank_same k m class format slots keeps = go (is_pointers format)
  where
    blank_by : Bool → Kept → Obj
    blank_by b j = if b then new_pointers j class format slots else Raw (new_head class format) (replicate (4 * slots - unused_bytes format) 0)

    go : (b : Bool) → Same (NamesHeld k) (blank_by b k) (blank_by b m)
    go true = new_pointers_same keeps class format slots
    go false = same (blank_by false k) tt

pub rest-add : (k : Kept) (o : Obj) → (add_of k o).rest.active ≡ k.rest.active
unfolding add_of
rest-add k o = refl

pub record Allocated (w v : Parts) (class format slots : ℕ) : Type 0 where
  pub state : (m : Kept) → Keeps (view_of w) m → Keeps (view_of v) (add_of m (blank_of m class format slots))
  pub sound : IsSound (stored_of v) (view_of v)
  pub ready : IsReady (stored_of w) (view_of w) → IsReady (stored_of v) (view_of v)

-- behind a call, whose world u before it is w
pub call-allocate : (u w v : Parts) (class format slots : ℕ) → u ≡ w → IsGood v → view_of v ≡ add_of (view_of u) (blank_of (view_of u) class format slots) → Allocated w v class format slots
call-allocate u w v class format slots e good is =
    let view : view_of v ≡ add_of (view_of w) (blank_of (view_of w) class format slots) = subst (λ x. view_of v ≡ add_of (view_of x) (blank_of (view_of x) class format slots)) e is in
    record {
      state = λ m keeps. subst (λ k. Keeps k (add_of m (blank_of m class format slots))) (sym view) (add_moved keeps (blank_same (view_of w) m class format slots keeps)).keeps;
      sound = good_sound v good;
      ready = λ ready. ready_again w v good ready (ap (λ (k : Kept). k.rest.active) view ∙ rest-add (view_of w) (blank_of (view_of w) class format slots));
    }
