-- Opening an image: a loaded image is a good world without frames.
use Rattle.std.proofs.Common.{◌≡◌, ◌≢◌, ◌↔◌, ℕ, zero, suc, ◌<◌, ◌≤◌, true, false, refl, sym, ap, subst, ◌∙◌, Option, Some, None, is_some, List, [], length, option_map, replicate, arith}
use Rattle.std.specs.Prelude.{Contains, slice_get, slice_index, unwrap_or, if◌then◌else◌, ◌&&◌, ◌||◌, ◌==◌, Bool}
use Rattle.std.specs.Option.{option_map_or}
use Rattle.std.specs.Ordering.{nat_cmp}
use Rattle.std.specs.FinMap.{FinMap, get}
use Rattle.std.proofs.lemmas.Bool.{eq-eqb, or_right}
use Rattle.std.proofs.lemmas.List.{length-replicate}
use Rattle.cs_word.specs.declared.Kind.{Kind}
use Rattle.cs_word.specs.declared.Kind.TheVariants as kind
use Rattle.cs_word.specs.Word.{kind_of, natural_of_word}
use Rattle.cs_heap.specs.Object.{Object, address_of, class_at, is_object, heap_object as object_of_heap, used}
use Rattle.cs_heap.proofs.Laws.{address_of-below, index_of-address, object_at-address}
use Rattle.cs_classes.specs.declared.Loaded.{Loaded}
use Rattle.cs_classes.specs.declared.Roots.{Roots}
use Rattle.cs_classes.specs.Meaning.{context_of, is_heap_context, kept_of, meaning_at, objects_of, ref_of, ref_of_kind, loaded_kept}
use Rattle.cs_classes.specs.Senders.{SendersStand}
use Rattle.cs_classes.specs.Sound.{AreSoundObjects, IsSoundContext, IsWhole, is_reference, is_reference_kind, is_sender, is_sender_kind, nil_word}
use Rattle.cs_classes.proofs.Heaps.{element_within}
use Rattle.cs_classes.proofs.Objects.{get-objects_of, get-objects_of-element}
use Rattle.cs_classes.proofs.Sorts.{obj_of-context}
use Rattle.cs_classes.proofs.Sounds.{whole_context}
use Rattle.cs_frame.specs.Frame.{Frame, nil}
use Rattle.cs_frame.specs.Page.{frames_of}
use Rattle.cs_marriage.specs.Agree.{Agree}
use Rattle.cs_marriage.specs.Place.{names_place}
use Rattle.cs_marriage.proofs.Laws.{agree_empty}
use Rattle.cs_pages.specs.Order.{Order}
use Rattle.cs_pages.specs.Order as pages
use Rattle.cs_model.specs.Ref.{Ref}
use Rattle.cs_model.specs.Obj.{Context, Ctx, context_class, is_context_at, lies_in}
use Rattle.cs_model.specs.Context.{lies_if_live}
use Rattle.cs_model.specs.State as state
use Rattle.cs_model.specs.State.{Kept, PcLies, active_process, is_nil, object_of}
use Rattle.cs_model.specs.Read.{IsRunning}
use Rattle.cs_model.specs.Due.{is_idle, is_idle_at}
use Rattle.cs_model.specs.Settle.{open_if, open_kept}
use Rattle.cs_stack.specs.declared.parts.Parts.{Parts}
use Rattle.cs_stack.specs.View.{active_in, bare, first_frames, is_linked, unframed, view_of}
use Rattle.cs_stack.specs.Good.{AreApart, FramesFit, IsChain, IsGood, LinkFits, PcFits, SenderFits, is_nil_or}
use Rattle.cs_acts.specs.Opened.{taken_of}
use Rattle.cs_stack.proofs.Bare.{bare_get, bare_loaded}
use Rattle.cs_stack.proofs.Dying.{dead_sender, unframed_linked}
use Rattle.cs_stack.proofs.Rebasing.{bare_objects}
use Rattle.cs_stack.proofs.Unwinding.{kind_address}

-- a process is active that isn't nil, so its context is taken, and that runs
pub runs_taken : (k : Kept) (p : Ref) → active_process k ≡ Some p → is_nil k p ≡ false → (is_idle k ≡ false → IsRunning (open_kept k)) → IsRunning (taken_of k p)
unfolding is_idle open_kept
runs_taken k p e n running = subst IsRunning (ap (open_if k) e ∙ ap (λ b. if b then k else taken_of k p) n) (running (ap (is_idle_at k) e ∙ n))

-- what a word refers to is what stands at it
means_there : (os : List Object) (table : FinMap nat_cmp ℕ) (roots : Roots) (m pc : ℕ) → AreSoundObjects os → is_reference os m ≡ true
    → lies_in (object_of (kept_of os table roots None) (ref_of os m)) pc ≡ true → lies_in (meaning_at os m) pc ≡ true
unfolding is_reference ref_of
means_there os table roots m pc sound named lies = go (kind_of m) refl named lies
  where
    go : (q : Kind) → kind_of m ≡ q → is_reference_kind os q ≡ true → lies_in (object_of (kept_of os table roots None) (ref_of_kind os q)) pc ≡ true → lies_in (meaning_at os m) pc ≡ true
    go (kind.Small z) e n h = absurd (cc)
    go (kind.Character code) e n h = absurd (cc)
    go (kind.Link l) e n h = absurd (cc)
    go (kind.Object a) e n h =
        let same : a ≡ m = kind_address m a e in
        subst (λ b. lies_in (meaning_at os b) pc ≡ true) same (ap (λ o. lies_in o pc) (sym (get-objects_of os a sound n)) ∙ h)

pub pcs_fit : (os : List Object) (table : FinMap nat_cmp ℕ) (roots : Roots) → IsWhole os table roots
    → ((i : ℕ) (c : Context) → state.object_at (kept_of os table roots None) i ≡ Some (Ctx c) → PcLies (kept_of os table roots None) c)
    → (j : ℕ) (x : Object) → slice_get os j ≡ Some x → is_heap_context x ≡ true → PcFits os x
unfolding context_of
pcs_fit os table roots whole pcs j x h is = go (natural_of_word (slice_index x.words 1)) refl
  where
    found : get (objects_of os) x.birth ≡ Some (Ctx (context_of (ref_of os) x.hash x.words))
    found = get-objects_of-element os j x whole.heap.apart h ∙ ap (λ o. Some o) (obj_of-context (ref_of os) x is)

    named : is_reference os (slice_index x.words 3) ≡ true
    named = let c = whole_context os x (whole.heap.each j x h) is in c.references 3 (omega arith) (omega (arith, c.fields))

    go : (p : Option ℕ) → natural_of_word (slice_index x.words 1) ≡ p → lies_if_live (meaning_at os (slice_index x.words 3)) p ≡ true
    go None e = refl
    go (Some pc) e = means_there os table roots (slice_index x.words 3) pc whole.heap named (pcs x.birth (context_of (ref_of os) x.hash x.words) found pc e)

-- ---- nil

-- nil is the first object
record First (os : List Object) : Type 0 where
  object : Object
  element : slice_get os 0 ≡ Some object
  there : object_of_heap os nil ≡ Some object
  is : is_object os nil ≡ true

first_there : (os : List Object) (table : FinMap nat_cmp ℕ) (roots : Roots) → IsWhole os table roots → First os
first_there os table roots whole =
    let x = element_within os 0 (omega (arith, whole.first)) in
    let address : address_of os 0 ≡ Some nil = go (address_of os 0) refl (address_of-below os 0 (omega (arith, whole.first))) in
    record { object = x.0; element = x.1; there = object_at-address os nil 0 address ∙ x.1; is = ap is_some (index_of-address os nil 0 address) }
  where
    go : (o : Option ℕ) → address_of os 0 ≡ o → is_some o ≡ true → address_of os 0 ≡ Some nil
    go None e h = absurd (cc)
    go (Some a) e h = e ∙ ap Some (sym (ap (λ o. unwrap_or o 0) e) ∙ whole.nil)

nil_apart : (os : List Object) (table : FinMap nat_cmp ℕ) (roots : Roots) → IsWhole os table roots
    → is_context_at (state.object_at (kept_of os table roots None) (kept_of os table roots None).rest.nil) ≡ false → class_at os nil ≢ context_class
nil_apart os table roots whole other same =
    let n = first_there os table roots whole in
    let is : is_heap_context n.object ≡ true = eq-eqb _ _ (sym (ap (λ (o : Option Object). option_map_or (λ (y : Object). y.class) o 0) n.there) ∙ same) in
    let found : get (objects_of os) (kept_of os table roots None).rest.nil ≡ Some (Ctx (context_of (ref_of os) n.object.hash n.object.words)) =
    ap (λ (o : Option Object). get (objects_of os) (option_map_or (λ (y : Object). y.birth) o 0)) n.element
    ∙ get-objects_of-element os 0 n.object whole.heap.apart n.element ∙ ap (λ o. Some o) (obj_of-context (ref_of os) n.object is) in
    let no : true ≡ false = sym (ap is_context_at found) ∙ other in absurd (cc)

-- ---- links

-- in a heap that is as it is without frames no context is linked
no_link : (os : List Object) (table : FinMap nat_cmp ℕ) (roots : Roots) → IsWhole os table roots → bare os ≡ os → (j : ℕ) (x : Object) → slice_get os j ≡ Some x → is_linked x ≡ true → LinkFits x
no_link os table roots whole same j x h linked = absurd (
    let is : is_heap_context x ≡ true = context_linked (is_heap_context x) refl linked in
    let kept : Some (unframed x) ≡ Some x = sym (ap (option_map unframed) h) ∙ sym (bare_get os j) ∙ ap (λ ys. slice_get ys j) same ∙ h in
    let dead : slice_index x.words 0 ≡ nil = sym (unframed_word x kept) ∙ ap (λ (y : Object). slice_index y.words 0) (unframed_linked x linked)
    ∙ dead_sender x.words (whole_context os x (whole.heap.each j x h) is).fields in
    let no : true ≡ false = sym (named is) ∙ ap names_place dead in
    cc)
  where
    context_linked : (b : Bool) → is_heap_context x ≡ b → is_linked x ≡ true → is_heap_context x ≡ true
    context_linked true e l = e
    context_linked false e l = absurd (let no : false ≡ true = sym (ap (λ c. c && names_place (slice_index x.words 0)) e) ∙ l in cc)

    named : is_heap_context x ≡ true → names_place (slice_index x.words 0) ≡ true
    named is = sym (ap (λ c. c && names_place (slice_index x.words 0)) is) ∙ linked

    unframed_word : (x : Object) → Some (unframed x) ≡ Some x → slice_index (unframed x).words 0 ≡ slice_index x.words 0
    unframed_word x e = ap (λ (o : Option Object). option_map_or (λ (y : Object). slice_index y.words 0) o 0) e

-- ---- senders

-- where senders are nil or contexts, their words are the addresses of such
senders_fit : (l : Loaded) → IsWhole l.heap.objects l.classes l.roots → SendersStand (loaded_kept l) → (j : ℕ) (x : Object) → slice_get l.heap.objects j ≡ Some x → is_heap_context x ≡ true → SenderFits l.heap.objects x
unfolding context_of is_sender ref_of
senders_fit l whole stand j x h is =
    or_right (names_place word) (is_nil_or context_class os word) (go (kind_of word) refl sound.sender (stand x.birth (context_of (ref_of os) x.hash x.words) found))
  where
    os : List Object
    os = l.heap.objects

    word : ℕ
    word = slice_index x.words 0

    k : Kept
    k = loaded_kept l

    sound : IsSoundContext os x
    sound = (whole.heap.each j x h).context is

    found : get (objects_of os) x.birth ≡ Some (Ctx (context_of (ref_of os) x.hash x.words))
    found = get-objects_of-element os j x whole.heap.apart h ∙ ap (λ o. Some o) (obj_of-context (ref_of os) x is)

    go : (q : Kind) → kind_of word ≡ q → is_sender_kind os (kind_of word) ≡ true → (is_nil k (ref_of_kind os (kind_of word)) || is_context_at (object_of k (ref_of_kind os (kind_of word)))) ≡ true
        → is_nil_or context_class os word ≡ true
    go (kind.Small z) e s n = absurd (let no : false ≡ true = ap (λ q. is_nil k (ref_of_kind os q) || is_context_at (object_of k (ref_of_kind os q))) (sym e) ∙ n in cc)
    go (kind.Character code) e s n = absurd (let no : false ≡ true = ap (is_sender_kind os) (sym e) ∙ s in cc)
    go (kind.Link v) e s n = absurd (let no : false ≡ true = ap (λ q. is_nil k (ref_of_kind os q) || is_context_at (object_of k (ref_of_kind os q))) (sym e) ∙ n in cc)
    go (kind.Object a) e s n =
        let same : a ≡ word = kind_address word a e in
        let there : (is_object os a && (a == nil_word os || class_at os a == context_class)) ≡ true = ap (is_sender_kind os) (sym e) ∙ s in
        subst (λ b. is_nil_or context_class os b ≡ true) same (ap (λ n. is_object os a && (a == n || class_at os a == context_class)) (sym whole.nil) ∙ there)

-- ---- the world

none_of : (n p : ℕ) → frames_of (replicate n []) p ≡ []
none_of zero p = refl
none_of (suc n) zero = refl
none_of (suc n) (suc p) = none_of n p

no_page : {p : ℕ} → Contains {X = ℕ} [] p → ⊥
no_page (k, within, same) = omega (arith, within)

-- what an image is loaded to, and the pages and frames that are made
module _ (l : Loaded) (n : ℕ) (order : Order) (frames : List (List Frame)) (whole : IsWhole l.heap.objects l.classes l.roots) (senders : SendersStand (loaded_kept l))
    (order_is : order ≡ record { total = n; recent = [] }) (frames_are : frames ≡ replicate n []) where
  abbrev made : Parts
  made = record { heap = l.heap; classes = l.classes; roots = l.roots; pages = order; frames = frames }

  empty : (p : ℕ) → frames_of frames p ≡ []
  empty p = ap (λ (ps : List (List Frame)). frames_of ps p) frames_are ∙ none_of n p

  recent : order.recent ≡ []
  recent = ap (λ (o : Order). o.recent) order_is

  used_none : (p : ℕ) → Contains order.recent p ↔ (0 < length (frames_of frames p))
  used_none p = (
    λ h. absurd (no_page (subst (λ ns. Contains ns p) recent h)),
    λ h. absurd (omega (arith, h, ap length (empty p))),
  )

  module _ (few : n ≤ 64) (within : used l.heap.objects ≤ l.heap.limit) (most : l.heap.limit ≤ 67108864) (births : l.roots.next_birth ≤ 4611686018427387904)
      (pcs : (i : ℕ) (c : Context) → state.object_at (loaded_kept l) i ≡ Some (Ctx c) → PcLies (loaded_kept l) c)
      (plain : is_context_at (state.object_at (loaded_kept l) (loaded_kept l).rest.nil) ≡ false) (sound : pages.IsSoundOrder order) where
    pub made_good : IsGood made
    made_good = record {
      whole = whole;
      within = within;
      most = most;
      births = births;
      pcs = pcs_fit l.heap.objects l.classes l.roots whole pcs;
      senders = senders_fit l whole senders;
      links = no_link l.heap.objects l.classes l.roots whole (bare_loaded l whole senders);
      agree = subst (Agree l.heap.objects) (sym frames_are) (agree_empty l.heap.objects n few (first_there l.heap.objects l.classes l.roots whole).is (nil_apart l.heap.objects l.classes l.roots whole plain));
      frames = λ p. subst (FramesFit l.heap.objects l.roots.next_birth) (sym (empty p)) tt;
      apart = λ p q ne. subst (λ fs. AreApart fs (frames_of frames q)) (sym (empty p)) tt;
      total = ap (λ (o : Order). o.total) order_is ∙ sym (ap length frames_are ∙ length-replicate n []);
      order = sound;
      used_pages = used_none;
      chain = subst (IsChain frames) (sym recent) tt;
    }

    -- the state is that of the image
    pub made_view : view_of made ≡ loaded_kept l
    made_view =
        ap (λ ns. record (view_of made) { rest = (kept_of (bare l.heap.objects) l.classes l.roots (active_in (first_frames frames ns))).rest }) recent
        ∙ ap (λ m. record (kept_of (bare l.heap.objects) l.classes l.roots None) { objects = m }) (bare_objects made_good recent)
        ∙ ap (λ os. kept_of os l.classes l.roots None) (bare_loaded l whole senders)

    pub made_runs : (is_idle (loaded_kept l) ≡ false → IsRunning (open_kept (loaded_kept l))) → is_idle (view_of made) ≡ false → IsRunning (open_kept (view_of made))
    made_runs running = subst (λ (k : Kept). is_idle k ≡ false → IsRunning (open_kept k)) (sym made_view) running
