-- A new context is active, with the old one as its sender.
use Rattle.std.proofs.Common.{◌≡◌, ℕ, pos, zero, suc, ◌+◌, ◌*◌, ◌/◌, ◌-◌, ◌%◌, ◌<◌, ◌≤◌, ◌^◌, Bool, true, false, refl, sym, ap, ap₂, subst, ◌∙◌, Option, Some, None, is_some, unwrap_or, List, [], ◌∷◌, ◌++◌, length, map, take, drop, replicate, get_or, length-take, length-drop, arith}
use Rattle.std.specs.Prelude.{◌==◌, ◌||◌, if◌then◌else◌, IsTrue}
use Rattle.std.specs.Option.{option_map_or}
use Rattle.std.specs.List.{AllPass}
use Rattle.std.specs.FinMap.{get}
use Rattle.std.proofs.lemmas.Bool.{eqb-true, false≢true, or_right}
use Rattle.std.proofs.lemmas.Bool.Decides.{nat_tests}
use Rattle.std.proofs.lemmas.List.{drop-map, drop-take, length-append, length-replicate, map-append, take-replicate}
use Rattle.std.proofs.lemmas.List.Elements.{All-append, All-cons, All-drop, All-replicate, All-take}
use Rattle.std.proofs.Math.Seq.{take-append-add}
use Rattle.cs_word.specs.declared.Oop.{Oop}
use Rattle.cs_word.specs.Word.{small_word, natural_of_word}
use Rattle.cs_heap.specs.Object.{Object, class_at, is_object, set_word, base, header_address, new_object, next_address, size, used, slot_set}
use Rattle.cs_heap.proofs.Laws.{object_at-new, used-pushed}
use Rattle.cs_classes.specs.Meaning.{context_of, depth_in, kept_of, obj_of, ref_of}
use Rattle.cs_classes.specs.Kinds.{ContextKinds, KindsStand}
use Rattle.cs_classes.specs.Sound.{IsSoundObject, IsWhole, is_reference, is_sender, nil_word}
use Rattle.cs_classes.proofs.Fields.{nil_or_closure_named}
use Rattle.cs_classes.proofs.Heaps.{is_object-object_at, set_word-IsEdit, stands}
use Rattle.cs_classes.proofs.Makings.{Makes, makes, nil_is_object, ref_of-nil}
use Rattle.cs_classes.proofs.Objects.{get-objects_of-fresh}
use Rattle.cs_classes.proofs.Refs.{is_nil_or_closure, is_nil_or_closure-push, is_nil_or_closure-with_object, is_nil_or_method, is_nil_or_method-push, is_nil_or_method-with_object}
use Rattle.cs_classes.proofs.Refs.{is_reference-object, is_reference-push, is_sender-context, is_sender-push, is_sender-with_object, ref_of-object, ref_of-push}
use Rattle.cs_classes.proofs.Sorts.{map_alike, obj_of-context}
use Rattle.cs_classes.proofs.Wholes.{after_birth, next_is_fresh}
use Rattle.cs_classes.proofs.Writes.{does-pop}
use Rattle.cs_model.specs.Ref.{Ref}
use Rattle.cs_model.specs.Obj.{Context, Ctx, Method, Obj, Ptr, Raw, context_size, is_context_at, is_method, lies_in, popped}
use Rattle.cs_model.specs.State as state
use Rattle.cs_model.specs.State.{Kept, PcLies, is_nil, object_of, put, with_rest}
use Rattle.cs_model.specs.Read.{IsRunning, active_birth, active_context, depth_of, stack_of}
use Rattle.cs_model.specs.Operation.{activate, add_of, drop_of, enter_with, last_values}
use Rattle.cs_model.specs.Operation as operation
use Rattle.cs_model.proofs.Objects.{object_at-put_same}
use Rattle.cs_acts.specs.Names.{KeepsNames, name_of}
use Rattle.cs_acts.specs.Ready.{IsReady}
use Rattle.cs_acts.proofs.ContextKinds.{kinds-enter_with}
use Rattle.cs_acts.proofs.Named as named
use Rattle.cs_model.specs.Demand.{words_held}
use Rattle.cs_plain.specs.declared.Fields.{Fields}
use Rattle.cs_plain.specs.declared.PlainWorld.{PlainWorld}
use Rattle.cs_plain.specs.Calling.{CanCall, called_context, called_of, called_stack, copied_words}
use Rattle.cs_plain.specs.View.{oop_birth, plain_birth, plain_stored, plain_view}
use Rattle.cs_plain.proofs.Active.{Active, sound_world}
use Rattle.cs_plain.proofs.Edits.{Edited, edited}
use Rattle.cs_plain.proofs.Making.{drop-drop, context_words}
use Rattle.cs_plain.proofs.Pcs.{KeepsPcs, lies_still, no_place, pcs-put, pcs-rest, running}
use Rattle.cs_plain.proofs.Slots.{depth_is_read, stack_words, whole_active}
use Rattle.cs_plain.proofs.Words.{words_of-kept}
use Rattle.cs_plain.proofs.Written.{Written, with_objects, written}

map_replicate : (f : ℕ → Ref) (n b : ℕ) → map f (replicate n b) ≡ replicate n (f b)
map_replicate f zero b = refl
map_replicate f (suc n) b = ap (λ us. f b ∷ us) (map_replicate f n b)

five_named : (p : ℕ → Bool) (a b c d e : ℕ) (rest : List ℕ) → p a ≡ true → p b ≡ true → p c ≡ true → p d ≡ true → p e ≡ true → AllPass p rest → AllPass p (a ∷ b ∷ c ∷ d ∷ e ∷ rest)
five_named p a b c d e rest ha hb hc hd he all =
    let P : ℕ → Type 0 = λ v. p v ≡ true in
    All-cons P a (b ∷ c ∷ d ∷ e ∷ rest) ha (All-cons P b (c ∷ d ∷ e ∷ rest) hb (All-cons P c (d ∷ e ∷ rest) hc (All-cons P d (e ∷ rest) hd (All-cons P e rest he all))))

-- a pc lies in methods alone
lies_method : (o : Option Obj) (pc : ℕ) → lies_in o pc ≡ true → is_method o ≡ true
lies_method None pc h = absurd (false≢true h)
lies_method (Some (Ptr head slots)) pc h = absurd (false≢true h)
lies_method (Some (Raw head bytes)) pc h = absurd (false≢true h)
lies_method (Some (Method head header literals bytecodes)) pc h = refl
lies_method (Some (Ctx c)) pc h = absurd (false≢true h)

-- the world in which a new context is active
abbrev pub with_entered : PlainWorld → List Object → Oop → PlainWorld
with_entered w us new = record w { heap = record w.heap { objects = us }; roots = after_birth w.roots; active = Some new }

module _ {w : PlainWorld} {x : Object} (header args n : ℕ) (f : Fields) (ready : IsReady (plain_stored w) (plain_view w)) (active : Active w f.sender x)
    (fits : CanCall (plain_stored w) (plain_view w) header args n f) where
  abbrev left : ℕ
  left = depth_in x.words - (args + 1)

  abbrev at : ℕ
  at = 6 + left + 1

  abbrev old : List Object
  old = slot_set w.heap.objects f.sender.0 2 (small_word (pos left))

  abbrev part : List ℕ
  part = take args (drop at x.words)

  abbrev more : List ℕ
  more = copied_words w.heap.objects f.closure.0 n

  abbrev csize : ℕ
  csize = context_size header

  abbrev new : Object
  new = record (new_object 36 3 (6 + csize) w.roots.next_birth) { words = context_words f part more (csize - (args + n)) }

  abbrev all : List Object
  all = old ++ new ∷ []

  abbrev refer : ℕ → Ref
  refer = ref_of all

  abbrev c : Context
  c = called_context (plain_stored w) (plain_view w) header args n f

  -- ---- numbers

  deep : depth_in x.words ≡ depth_of (plain_view w)
  deep = depth_is_read ready active

  args_there : args < depth_in x.words
  args_there = omega (arith, deep, fits.there)

  pub stack_fits : at + args ≤ length x.words
  stack_fits = omega (arith, args_there, (whole_active ready active).depth, (whole_active ready active).fields)

  part_long : length part ≡ args
  part_long = omega (arith, stack_fits, length-take args (drop at x.words), length-drop at x.words)

  words_long : length new.words ≡ 6 + csize
  words_long = omega (
    arith,
    fits.holds,
    fits.fits,
    part_long,
    fits.values,
    length-append part (more ++ replicate (csize - (args + n)) base),
    length-append more (replicate (csize - (args + n)) base),
    length-replicate (csize - (args + n)) base,
  )

  -- ---- receiver and arguments leave the old stack

  edit : Edited w.heap.objects old
  edit = edited w.heap.objects f.sender.0 x _ (set_word-IsEdit 2 (small_word (pos left))) active.there

  dropped : Written w (with_objects w old) (popped (args + 1))
  dropped = written w f.sender x old (popped (args + 1)) _ ready active (does-pop (record { whole = ready.sound.holds.whole; there = active.there }) active.context (args + 1)) edit
      ready.running.live refl refl refl ready.running.method

  old_whole : IsWhole old w.classes w.roots
  old_whole = (does-pop (record { whole = ready.sound.holds.whole; there = active.there }) active.context (args + 1)).whole

  -- ---- what its words refer to

  refer_is : (v : ℕ) → is_reference w.heap.objects v ≡ true → refer v ≡ ref_of w.heap.objects v
  refer_is v h = ref_of-push old new v (ap (λ p. p v) edit.sound ∙ h) ∙ ap (λ r. r v) edit.refers

  refers : (v : ℕ) → is_reference w.heap.objects v ≡ true → is_reference all v ≡ true
  refers v h = is_reference-push old new v (ap (λ p. p v) edit.sound ∙ h)

  base_named : is_reference w.heap.objects base ≡ true
  base_named = is_reference-object w.heap.objects base (nil_is_object w.heap.objects w.classes w.roots ready.sound.holds.whole)

  sender_there : is_object w.heap.objects f.sender.0 ≡ true
  sender_there = is_object-object_at w.heap.objects f.sender.0 x active.there

  sender_named : is_reference w.heap.objects f.sender.0 ≡ true
  sender_named = is_reference-object w.heap.objects f.sender.0 sender_there

  closure_named : is_reference w.heap.objects f.closure.0 ≡ true
  closure_named = is_reference-object w.heap.objects f.closure.0 fits.closure

  part_named : AllPass (is_reference w.heap.objects) part
  part_named = All-take (λ (v : ℕ). is_reference w.heap.objects v ≡ true) args (drop at x.words)
      (subst (AllPass (is_reference w.heap.objects)) (drop-drop (left + 1) 6 x.words ∙ ap (λ n. drop n x.words) place)
      (All-drop (λ (v : ℕ). is_reference w.heap.objects v ≡ true) (left + 1) (drop 6 x.words) (whole_active ready active).stack))
    where
      place : 6 + (left + 1) ≡ at
      place = omega arith

  -- all its words behind the sender
  words_named : AllPass (is_reference w.heap.objects) (drop 1 new.words)
  words_named =
      let P : ℕ → Type 0 = λ v. is_reference w.heap.objects v ≡ true in
      five_named (is_reference w.heap.objects) _ _ _ _ _ _ fits.pc_named fits.stackp_named fits.method closure_named fits.receiver
      (All-append P part (more ++ replicate (csize - (args + n)) base) part_named
      (All-append P more (replicate (csize - (args + n)) base) fits.named (All-replicate P (csize - (args + n)) base base_named)))

  -- ---- what it is

  -- what its fields name, in the heap and in the state

  abbrev mark : Object → Object
  mark = set_word 2 (small_word (pos left))

  some_old : 0 < length old
  some_old = omega (arith, old_whole.first)

  method_there : is_method (object_of (plain_view w) (name_of (plain_stored w) f.method)) ≡ true
  method_there = lies_method (object_of (plain_view w) (name_of (plain_stored w) f.method)) fits.entry fits.lies

  sender_kind : is_sender all f.sender.0 ≡ true
  sender_kind =
      let os = w.heap.objects in
      let class : class_at os f.sender.0 ≡ x.class = ap (λ (o : Option Object). option_map_or (λ (y : Object). y.class) o 0) active.there in
      is_sender-push old new f.sender.0 some_old
      (ap (λ p. p f.sender.0) (is_sender-with_object os f.sender.0 mark (set_word-IsEdit 2 (small_word (pos left)))) ∙ is_sender-context os f.sender.0 sender_there (class ∙ eqb-true x.class 36 active.context))

  method_kind : is_nil_or_method all f.method.0 ≡ true
  method_kind =
      is_nil_or_method-push old new f.method.0 some_old
      (ap (λ p. p f.method.0) (is_nil_or_method-with_object w.heap.objects f.sender.0 mark (set_word-IsEdit 2 (small_word (pos left))))
      ∙ named.method_kind (plain_stored w) (plain_view w) f.method ready.sound.holds fits.method method_there)

  closure_kind : is_nil_or_closure all f.closure.0 ≡ true
  closure_kind =
      is_nil_or_closure-push old new f.closure.0 some_old
      (ap (λ p. p f.closure.0) (is_nil_or_closure-with_object w.heap.objects f.sender.0 mark (set_word-IsEdit 2 (small_word (pos left)))) ∙ fits.closed)

  c_kinds : ContextKinds (plain_view w) c
  c_kinds =
      let k : Kept = plain_view w in
      let sender : Ref = name_of (plain_stored w) f.sender in
      let method : Ref = name_of (plain_stored w) f.method in
      record {
        sender = or_right (is_nil k sender) (is_context_at (object_of k sender))
            (ap (λ r. is_context_at (object_of k r)) (ref_of-object w.heap.objects f.sender.0 sender_there)
            ∙ ap (λ n. is_context_at (state.object_at k n)) (sym active.birth) ∙ ap is_context_at ready.running.found);
        method = or_right (is_nil k method) (is_method (object_of k method)) method_there;
        closure = nil_or_closure_named w.heap.objects w.classes w.roots k.rest.active ready.sound.holds.whole f.closure.0 fits.closed;
      }

  new_sound : IsSoundObject all new
  new_sound = record {
    kind = refl;
    flags = omega arith;
    plain = refl;
    shape = refl;
    references = λ k d l. refers (get_or (drop 1 new.words) k d) (words_named k d l);
    context = λ c. record {
      flags = refl;
      format = refl;
      sender = sender_kind;
      method = method_kind;
      closure = closure_kind;
      slots = subst (λ (n : ℕ). IsTrue (n == 22 || n == 62)) (sym words_long) (shape csize (sizes (header / 2 ^ 17 % 2 == 1)));
      pc = or_right (f.pc.0 == nil_word all) (is_some (natural_of_word f.pc.0)) (ap is_some fits.pc);
      stackp = or_right (f.stackp.0 == nil_word all) (is_some (natural_of_word f.stackp.0)) (ap is_some fits.stackp);
      depth = omega (arith, ap (λ (o : Option ℕ). unwrap_or o 0) fits.stackp, words_long, fits.fits);
    };
    method = λ n. absurd (false≢true n);
  }
    where
      shape : (n : ℕ) → (n == 16 || n == 56) ≡ true → ((6 + n) == 22 || (6 + n) == 62) ≡ true
      shape n h = grind (arith, nat_tests, h)

      sizes : (b : Bool) → ((if b then 56 else 16) == 16 || (if b then 56 else 16) == 56) ≡ true
      sizes true = refl
      sizes false = refl

  nil_is : refer base ≡ operation.nil_of (plain_view w)
  nil_is = refer_is base base_named ∙ ref_of-nil w.heap.objects w.classes w.roots ready.sound.holds.whole

  -- the arguments, the copied values, and nil
  stack_is : map refer (take fits.depth (part ++ (more ++ replicate (csize - (args + n)) base)))
      ≡ called_stack (plain_stored w) (plain_view w) fits.depth args n f
  stack_is =
      let os = w.heap.objects in
      let d : ℕ = depth_in x.words in
      let rest : List ℕ = replicate (csize - (args + n)) base in
      let above : ℕ = fits.depth - (args + n) in
      let first : fits.depth ≡ length part + (fits.depth - args) = omega (arith, fits.holds, part_long) in
      let second : fits.depth - args ≡ length more + above = omega (arith, fits.holds, fits.values) in
      let cut : take fits.depth (part ++ (more ++ rest)) ≡ part ++ (more ++ replicate above base) =
      ap (λ n. take n (part ++ (more ++ rest))) first ∙ take-append-add part (more ++ rest) (fits.depth - args)
      ∙ ap (λ n. part ++ take n (more ++ rest)) second ∙ ap (λ us. part ++ us) (take-append-add more rest above)
      ∙ ap (λ us. part ++ (more ++ us)) (take-replicate above (csize - (args + n)) base (omega (arith, fits.fits))) in
      let place : drop at x.words ≡ drop (d - args) (drop 6 x.words) = ap (λ n. drop n x.words) (omega (arith, args_there)) ∙ sym (drop-drop (d - args) 6 x.words) in
      let values : map (ref_of os) part ≡ last_values args (stack_of (plain_view w)) =
      ap (λ us. map (ref_of os) (take args us)) place
      ∙ ap (map (ref_of os)) (sym (drop-take (d - args) args (drop 6 x.words)))
      ∙ sym (drop-map (ref_of os) (d - args) (take (d - args + args) (drop 6 x.words)))
      ∙ ap (λ n. drop (d - args) (map (ref_of os) (take n (drop 6 x.words)))) (omega (arith, args_there))
      ∙ ap (drop (d - args)) (sym (stack_words ready active))
      ∙ ap (λ n. drop (n - args) (stack_of (plain_view w))) deep in
      ap (map refer) cut
      ∙ map-append refer part (more ++ replicate above base)
      ∙ ap₂ (λ (us vs : List Ref). us ++ vs) (map_alike (is_reference os) refer (ref_of os) refer_is part part_named ∙ values)
      (map-append refer more (replicate above base)
      ∙ ap₂ (λ (us vs : List Ref). us ++ vs) (map_alike (is_reference os) refer (ref_of os) refer_is more fits.named) (map_replicate refer above base ∙ ap (replicate above) nil_is))

  new_is : obj_of refer new ≡ Ctx c
  unfolding context_of
  new_is =
      let stack = ap (λ o. map refer (take (unwrap_or o 0) (part ++ (more ++ replicate (csize - (args + n)) base)))) fits.stackp ∙ stack_is
      ∙ ap (λ o. called_stack (plain_stored w) (plain_view w) (unwrap_or o 0) args n f) (sym fits.stackp) in
      let size : length new.words - 6 ≡ csize = omega (arith, words_long) in
      let sender = refer_is f.sender.0 sender_named in
      let method = refer_is f.method.0 fits.method in
      let closure = refer_is f.closure.0 closure_named in
      let receiver = refer_is f.receiver.0 fits.receiver in
      obj_of-context refer new refl ∙ ap Ctx (λ i. record {
        hash = 0;
        sender = sender i;
        pc = natural_of_word f.pc.0;
        method = method i;
        closure = closure i;
        receiver = receiver i;
        stack = stack i;
        size = size i;
      })

  -- ---- the whole

  class_there : is_some (get w.classes 36) ≡ true
  class_there = let s = stands w.heap.objects f.sender.0 x active.there in
      subst (λ n. is_some (get w.classes n) ≡ true) (eqb-true x.class 36 active.context) (ready.sound.holds.whole.indices s.0 x s.1.element)

  made : Makes old new w.classes w.roots (λ k. Ctx c)
  made = makes old_whole new _ refl class_there new_sound (λ active. new_is)

  abbrev entered : Kept
  entered = called_of (plain_view w) args c

  kept : kept_of all w.classes (after_birth w.roots) (Some w.roots.next_birth) ≡ entered
  unfolding add_of put enter_with drop_of
  kept =
      made.kept (Some w.roots.next_birth)
      ∙ ap (λ t. add_of (with_rest (activate (Some w.roots.next_birth) t.rest) t) (Ctx c)) dropped.view

  words : used all ≡ used w.heap.objects + size (6 + csize)
  words = used-pushed old new ∙ ap₂ (λ (n l : ℕ). n + size l) edit.words words_long

  -- the words of the state behind it
  pub entered_words : words_held entered ≡ used w.heap.objects + size (6 + csize)
  entered_words = ap words_held (sym kept) ∙ words_of-kept all w (after_birth w.roots) (Some w.roots.next_birth) made.whole ∙ words

  dropped_is : plain_view (with_objects w old) ≡ drop_of (plain_view w) (args + 1)
  unfolding drop_of
  dropped_is = dropped.view

  -- the method stays where the old context is written
  lies_behind : PcLies (drop_of (plain_view w) (args + 1)) c
  unfolding drop_of
  lies_behind pc e =
      let is : fits.entry ≡ pc = some_same fits.entry pc (sym fits.pc ∙ e) in
      lies_still (plain_view w) (active_birth (plain_view w)) (Ctx (popped (args + 1) (active_context (plain_view w))))
      (no_place (state.object_at (plain_view w) (active_birth (plain_view w))) (active_context (plain_view w)) (Ctx (popped (args + 1) (active_context (plain_view w)))) ready.running.found) (name_of (plain_stored w) f.method) pc
      (subst (λ n. lies_in (object_of (plain_view w) (name_of (plain_stored w) f.method)) n ≡ true) is fits.lies)
    where
      some_same : (m n : ℕ) → ◌≡◌ {A = Option ℕ} (Some m) (Some n) → m ≡ n
      some_same m n h = cc

  entered_pcs : KeepsPcs entered
  unfolding enter_with
  entered_pcs =
      let d : Kept = drop_of (plain_view w) (args + 1) in
      let next : ℕ = w.roots.next_birth in
      let fresh : state.object_at d next ≡ None =
      ap (λ t. state.object_at t next) (sym (dropped_is)) ∙ get-objects_of-fresh old next (next_is_fresh old w.classes w.roots old_whole) in
      pcs-rest (entered).rest (put d next (Ctx c)) (pcs-put d next (Ctx c) (subst KeepsPcs dropped_is dropped.ready.sound.pcs)
      (λ pc l. absurd (let no : lies_in None pc ≡ true = ap (λ o. lies_in o pc) (sym fresh) ∙ l in cc))
      (λ e is. subst (PcLies d) (same c e is) (lies_behind)))
    where
      same : (c e : Context) → Ctx c ≡ Ctx e → c ≡ e
      same c e h = cc

  entered_kinds : KindsStand entered
  entered_kinds = kinds-enter_with (plain_view w) args (λ d. c) ready.running ready.sound.births ready.sound.kinds c_kinds

  -- ---- the world

  pub entered_view : (v : Oop) → v.0 ≡ next_address w.heap.objects (6 + csize) → plain_view (with_entered w all v) ≡ entered
  entered_view v h =
      let next : v.0 ≡ next_address old (length new.words) = h ∙ ap₂ next_at (sym edit.words) (sym words_long) in
      let birth : oop_birth all v ≡ Some w.roots.next_birth = ap plain_birth (object_at-new old new v.0 next) in
      ap (kept_of all w.classes (after_birth w.roots)) birth ∙ kept
    where
      next_at : ℕ → ℕ → ℕ
      next_at u n = header_address (base + 4 * u) n

  pub entered_names : (v : Oop) → KeepsNames (plain_stored w) (plain_stored (with_entered w all v))
  entered_names v = λ o h. record { sound = refers o.0 h; is = refer_is o.0 h }

  pub entered_ready : (v : Oop) → v.0 ≡ next_address w.heap.objects (6 + csize) → used w.heap.objects + size (6 + csize) ≤ w.heap.limit
      → IsReady (plain_stored (with_entered w all v)) (plain_view (with_entered w all v))
  unfolding enter_with
  entered_ready v h room =
      let view = entered_view v h in
      let d : Kept = drop_of (plain_view w) (args + 1) in
      record {
        sound = sound_world (with_entered w all v) made.whole (omega (arith, words, room)) ready.sound.holds.most
            (subst KindsStand (sym view) entered_kinds) (subst KeepsPcs (sym view) entered_pcs);
        running = subst IsRunning (sym view) (running entered w.roots.next_birth c fits.entry refl (object_at-put_same d w.roots.next_birth (Ctx c)) fits.pc entered_pcs);
      }
