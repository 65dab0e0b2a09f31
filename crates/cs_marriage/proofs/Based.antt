-- A single context becomes the base frame of an empty page.
use Rattle.std.proofs.Common.{◌≡◌, ◌≢◌, inl, inr, ℕ, suc, ◌+◌, ◌<◌, ◌≤◌, Bool, true, false, List, [], ◌∷◌, ◌++◌, length, get_or, set, take, drop, cond, Option, Some, None, unwrap_or, refl, ap, sym, subst, ◌∙◌, arith, length-take, length-drop, get_or-set_other, get_or-set_same}
use Rattle.std.specs.Option.{option_map_or}
use Rattle.std.specs.Prelude.{slice_index, ◌==◌, ◌/◌, ◌%◌, if◌then◌else◌, is_some, IsSome}
use Rattle.std.proofs.lemmas.Bool.{cases_eq, eq-eqb, ne_eqb}
use Rattle.std.proofs.lemmas.Bool.Decides.{nat_tests}
use Rattle.std.proofs.lemmas.List.{get_or-drop, get_or-take, take_more}
use Rattle.cs_word.specs.Word.{natural_by_kind, natural_of_word}
use Rattle.cs_model.specs.Words.{small_value}
use Rattle.cs_heap.specs.Object.{Object, birth_at, class_at, part_at, heap_object, set_word, slot_count_of, slot_of, with_object, words_at}
use Rattle.cs_heap.proofs.Laws.{KeepsCount, field_of-with_object_kept, field_of-with_object_same, is_object-with_object, object_at-with_object_other, object_placed, set_word_keeps}
use Rattle.cs_word.specs.declared.Kind.TheVariants as kind
use Rattle.cs_classes.specs.Meaning.{depth_in}
use Rattle.cs_frame.specs.declared.FrameRef.{FrameRef}
use Rattle.cs_frame.specs.Frame.{Frame, IsPc, IsValue, nil, value_pushed, with_values}
use Rattle.cs_frame.specs.Page.{IsBase, IsFrame, IsTop, frame, frames_of, index_in, frame_index, nth, on_frame, on_nth, on_page, on_top, frame_ref, top, frames_used}
use Rattle.cs_frame.proofs.PageLaws.{frames_of-on_page, frames_of-on_page_other, length-on_page, on_page-on_page}
use Rattle.cs_marriage.specs.Place.{link_word, names_place}
use Rattle.cs_marriage.specs.Agree.{Agree, FrameAgrees, HasNoFrame, IsContextAt}
use Rattle.cs_marriage.specs.Marriage.{CanBase, base_frame, cleared, linked, stack_words}
use Rattle.cs_marriage.proofs.Agreeing.{Stays, fits_stays, size_some}
use Rattle.cs_marriage.proofs.Clearing.{cleared_keeps, get_or-cleared}
use Rattle.cs_marriage.proofs.Objects.{context_long, context_there, method_apart, method_like, method_same, method_there}
use Rattle.cs_marriage.proofs.Places.{link_names}

-- ---- what is read of a context, by its words

module _ (os : List Object) (a : ℕ) where
  pub slot_is : (i : ℕ) → slot_of os a i ≡ slice_index (words_at os a) i
  slot_is i = go (heap_object os a)
    where
      go : (o : Option Object) → option_map_or (λ (x : Object). slice_index x.words i) o 0 ≡ slice_index (option_map_or (λ (x : Object). x.words) o []) i
      go None = refl
      go (Some x) = refl

  pub count_is : slot_count_of os a ≡ length (words_at os a)
  count_is = go (heap_object os a)
    where
      go : (o : Option Object) → option_map_or (λ (x : Object). length x.words) o 0 ≡ length (option_map_or (λ (x : Object). x.words) o [])
      go None = refl
      go (Some x) = refl

  pub depth_is : unwrap_or (natural_of_word (slot_of os a 2)) 0 ≡ depth_in (words_at os a)
  depth_is = ap (λ n. unwrap_or (natural_of_word n) 0) (slot_is 2)

  module _ (can : CanBase os a) where
    pub deep : 6 + depth_in (words_at os a) ≤ slot_count_of os a
    deep = omega (arith, can.stack, depth_is)

    pub few : slot_count_of os a ≤ 62
    few = elim can.context.slots [
      | inl e ↦ omega (arith, e)
      | inr e ↦ omega (arith, e)
    ]

    pub stack_long : length (stack_words os a) ≡ depth_in (words_at os a)
    stack_long = omega (arith, length-take (depth_in (words_at os a)) (drop 6 (words_at os a)), length-drop 6 (words_at os a), deep, count_is)

    stack_at : (i : ℕ) → i < depth_in (words_at os a) → get_or (stack_words os a) i 0 ≡ slot_of os a (6 + i)
    stack_at i h = get_or-take (depth_in (words_at os a)) (drop 6 (words_at os a)) i 0 h ∙ (get_or-drop 6 (words_at os a) i 0 ∙ sym (slot_is (6 + i)))

    pub stack_more : (i : ℕ) → i < depth_in (words_at os a) → take (i + 1) (stack_words os a) ≡ take i (stack_words os a) ++ slot_of os a (6 + i) ∷ []
    stack_more i h = take_more (stack_words os a) i 0 (omega (arith, h, stack_long)) ∙ ap (λ w. take i (stack_words os a) ++ w ∷ []) (stack_at i h)

-- a word that is a count is odd
pub number_pc : (w : ℕ) → IsSome (natural_of_word w) → IsPc w
unfolding natural_of_word
number_pc w some = go (w % 2 == 1) refl some
  where
    odd : (n : ℕ) → (n == 1) ≡ true → n ≡ 1
    odd n h = grind (arith, nat_tests, h)

    other : (b c : Bool) → is_some (natural_by_kind (if b then kind.Character (w / 4) else (if c then kind.Object w else kind.Link w))) ≡ true → ⊥
    other true c h = absurd (cc)
    other false true h = absurd (cc)
    other false false h = absurd (cc)

    go : (b : Bool) → (w % 2 == 1) ≡ b → is_some (natural_by_kind (if b then kind.Small (small_value w) else (if w % 4 == 2 then kind.Character (w / 4) else (if w % 8 == 0 then kind.Object w else kind.Link w)))) ≡ true → IsPc w
    go true e h = inr (odd (w % 2) e)
    go false e h = absurd (other (w % 4 == 2) (w % 8 == 0) h)

-- the address of a context is no link
pub context_value : (os : List Object) (a : ℕ) → IsContextAt os a → IsValue a
context_value os a at e = omega (arith, e, (object_placed os a (context_there os a at)).aligned)

-- ---- the only frame of a page

-- the pages, with this frame alone on one
abbrev pub alone : List (List Frame) → ℕ → Frame → List (List Frame)
alone ps p g = on_page ps p (λ _. g ∷ [])

module _ (ps : List (List Frame)) (p : ℕ) (lt : p < length ps) where
  pub alone_frames : (g : Frame) → frames_of (alone ps p g) p ≡ g ∷ []
  alone_frames g = frames_of-on_page ps p (λ _. g ∷ []) lt

  first : (g : Frame) → frame_index (g ∷ []) g.at ≡ 0
  first g = ap (λ b. cond b 0 (suc (frame_index [] g.at))) (eq-eqb g.at g.at refl)

  alone_index : (g : Frame) → index_in (alone ps p g) (frame_ref p g) ≡ 0
  alone_index g = ap (λ (fs : List Frame). frame_index fs g.at) (alone_frames g) ∙ first g

  pub alone_frame : (g : Frame) → IsFrame (alone ps p g) (frame_ref p g)
  alone_frame g = omega (arith, alone_index g, ap length (alone_frames g))

  pub alone_base : (g : Frame) → IsBase (alone ps p g) (frame_ref p g)
  alone_base g = omega (arith, alone_index g, ap length (alone_frames g))

  pub alone_top : (g : Frame) → IsTop (alone ps p g) (frame_ref p g)
  alone_top g = (omega (arith, ap length (alone_frames g)), ap (λ (fs : List Frame). (top fs).at) (sym (alone_frames g)))

  pub alone_is : (g : Frame) → frame (alone ps p g) (frame_ref p g) ≡ g
  alone_is g = ap (nth (frames_of (alone ps p g) p)) (alone_index g) ∙ ap (λ (fs : List Frame). nth fs 0) (alone_frames g)

  pub alone_on_frame : (g : Frame) (h : Frame → Frame) → on_frame (alone ps p g) (frame_ref p g) h ≡ alone ps p (h g)
  alone_on_frame g h =
      ap (λ k. on_page (alone ps p g) p (on_nth k h)) (alone_index g)
      ∙ on_page-on_page ps p (λ _. g ∷ []) (on_nth 0 h) lt

  pub alone_on_top : (g : Frame) (h : Frame → Frame) → on_page (alone ps p g) p (on_top h) ≡ alone ps p (h g)
  alone_on_top g h = on_page-on_page ps p (λ _. g ∷ []) (on_top h) lt

-- the base frame, part by part
pub base_is : (os : List Object) (a : ℕ) (s pc m c b r : ℕ) → s ≡ slot_of os a 0 → pc ≡ slot_of os a 1 → m ≡ slot_of os a 3 → c ≡ slot_of os a 4 → b ≡ birth_at os a → r ≡ slot_of os a 5
    → (record { at = 0; caller = s; saved_pc = pc; method = m; closure = c; context = a; birth = b; receiver = r; stack = stack_words os a }) ≡ base_frame os a
base_is os a s pc m c b r es ep em ec eb er =
    let f = base_frame os a in
    ap (λ (n : ℕ). record f { caller = n; saved_pc = pc; method = m; closure = c; birth = b; receiver = r }) es
    ∙ (ap (λ (n : ℕ). record f { saved_pc = n; method = m; closure = c; birth = b; receiver = r }) ep
    ∙ (ap (λ (n : ℕ). record f { method = n; closure = c; birth = b; receiver = r }) em
    ∙ (ap (λ (n : ℕ). record f { closure = n; birth = b; receiver = r }) ec
    ∙ (ap (λ (n : ℕ). record f { birth = n; receiver = r }) eb
    ∙ ap (λ (n : ℕ). record f { receiver = n }) er))))

-- ---- the stack of the last frame

pub used_stacked : (xs : List ℕ) (fs : List Frame) → (top fs).stack ≡ [] → frames_used (on_top (with_values xs) fs) ≤ frames_used fs + length xs
used_stacked xs [] e = omega arith
used_stacked xs (f ∷ fs) e = omega (arith, ap length e)

pub stacked_more : (xs : List ℕ) (v : ℕ) (fs : List Frame) → on_top (value_pushed v) (on_top (with_values xs) fs) ≡ on_top (with_values (xs ++ v ∷ [])) fs
stacked_more xs v [] = refl
stacked_more xs v (f ∷ fs) = refl

pub stacked_none : (fs : List Frame) → (top fs).stack ≡ [] → on_top (with_values []) fs ≡ fs
stacked_none [] e = refl
stacked_none (f ∷ fs) e = ap (λ (xs : List ℕ). with_values xs f ∷ fs) (sym e)

-- ---- the context that is linked

linked_keeps : (r : FrameRef) → KeepsCount (linked r)
linked_keeps r x =
    cleared_keeps 6 (set_word 2 nil (set_word 1 nil (set_word 0 (link_word r) x)))
    ∙ (set_word_keeps 2 nil (set_word 1 nil (set_word 0 (link_word r) x))
    ∙ (set_word_keeps 1 nil (set_word 0 (link_word r) x) ∙ set_word_keeps 0 (link_word r) x))

module _ (os : List Object) (a : ℕ) (g : Object → Object) (keeps : KeepsCount g) where
  pub others_stay : Stays os (with_object os a g) a
  others_stay b there ne = object_at-with_object_other os a b g keeps (λ e. ne (sym e))

  pub context_kept : ((x : Object) → (g x).class ≡ x.class) → ((x : Object) → (g x).format ≡ x.format) → IsContextAt os a → IsContextAt (with_object os a g) a
  context_kept class format at =
      let count = field_of-with_object_kept (λ x. length x.words) os a a g keeps keeps in
      record {
        class = field_of-with_object_kept (λ x. x.class) os a a g keeps class ∙ at.class;
        format = field_of-with_object_kept (λ x. x.format) os a a g keeps format ∙ at.format;
        slots = elim at.slots [
          | inl e ↦ inl (count ∙ e)
          | inr e ↦ inr (count ∙ e)
        ];
      }

  -- where no frame has the context that changes, heap and frames agree still
  pub agree_changed : (ps : List (List Frame)) → Agree os ps → IsContextAt os a → HasNoFrame ps a → Agree (with_object os a g) ps
  agree_changed ps agree at none = record {
    few = agree.few;
    nil_there = is_object-with_object os a nil g keeps ∙ agree.nil_there;
    nil_class = λ e. agree.nil_class (sym (ap (λ (o : Option Object). option_map_or (λ x. x.class) o 0) (object_at-with_object_other os a nil g keeps (λ f. agree.nil_class (ap (class_at os) (sym f) ∙ at.class)))) ∙ e);
    frames = λ r is. fits_stays os (with_object os a g) a others_stay r (frame ps r) (method_apart os (frame ps r).method a (agree.frames r is).method at.format) (none r is) (agree.frames r is);
  }

-- the words that the frame and the context share
linked_slot : (r : FrameRef) (ws : List ℕ) (i : ℕ) → 2 < i → i < 6 → get_or (cleared 6 (set (set (set ws 0 (link_word r)) 1 nil) 2 nil)) i 0 ≡ get_or ws i 0
linked_slot r ws i gt lt =
    get_or-cleared 6 (set (set (set ws 0 (link_word r)) 1 nil) 2 nil) i lt
    ∙ (get_or-set_other (set (set ws 0 (link_word r)) 1 nil) 2 i nil 0 (omega (arith, gt))
    ∙ (get_or-set_other (set ws 0 (link_word r)) 1 i nil 0 (omega (arith, gt)) ∙ get_or-set_other ws 0 i (link_word r) 0 (omega (arith, gt))))

linked_place : (r : FrameRef) (ws : List ℕ) → 0 < length ws → get_or (cleared 6 (set (set (set ws 0 (link_word r)) 1 nil) 2 nil)) 0 0 ≡ link_word r
linked_place r ws some =
    get_or-cleared 6 (set (set (set ws 0 (link_word r)) 1 nil) 2 nil) 0 (omega arith)
    ∙ (get_or-set_other (set (set ws 0 (link_word r)) 1 nil) 2 0 nil 0 (omega arith)
    ∙ (get_or-set_other (set ws 0 (link_word r)) 1 0 nil 0 (omega arith) ∙ get_or-set_same ws 0 (link_word r) 0 some))

module _ (os : List Object) (ps : List (List Frame)) (a p : ℕ) (agree : Agree os ps) (can : CanBase os a) (lt : p < length ps) (empty : frames_of ps p ≡ []) where
  abbrev the_place : FrameRef
  the_place = record { page = p; at = 0 }

  abbrev the_objects : List Object
  the_objects = with_object os a (linked the_place)

  not_nil : a ≢ nil
  not_nil e = agree.nil_class (ap (class_at os) (sym e) ∙ can.context.class)

  -- a single context has no frame
  none : HasNoFrame ps a
  none r is e =
      let m = (agree.frames r is).married (λ f. not_nil (sym e ∙ f)) in
      let named : names_place (slot_of os a 0) ≡ true = ap (λ b. names_place (slot_of os b 0)) (sym e) ∙ (ap names_place m.place ∙ link_names r) in
      let single = can.single in absurd (cc)

  field_linked : (g : Object → ℕ) → part_at g the_objects a ≡ part_at (λ x. g (linked the_place x)) os a
  field_linked g = field_of-with_object_same g os a (linked the_place) (linked_keeps the_place)

  slot_linked : (i : ℕ) → 2 < i → i < 6 → slot_of the_objects a i ≡ slot_of os a i
  slot_linked i gt less = field_linked (λ x. slice_index x.words i) ∙ go (heap_object os a)
    where
      go : (o : Option Object) → option_map_or (λ (x : Object). slice_index (linked the_place x).words i) o 0 ≡ option_map_or (λ (x : Object). slice_index x.words i) o 0
      go None = refl
      go (Some x) = linked_slot the_place x.words i gt less

  place_linked : slot_of the_objects a 0 ≡ link_word the_place
  place_linked = field_linked (λ x. slice_index x.words 0) ∙ go (heap_object os a) (let long = context_long os a can.context in omega (arith, long, count_is os a))
    where
      go : (o : Option Object) → 0 < length (option_map_or (λ (x : Object). x.words) o []) → option_map_or (λ (x : Object). slice_index (linked the_place x).words 0) o 0 ≡ link_word the_place
      go None some = absurd (omega (arith, some))
      go (Some x) some = linked_place the_place x.words some

  count_linked : slot_count_of the_objects a ≡ slot_count_of os a
  count_linked = field_of-with_object_kept (λ x. length x.words) os a a (linked the_place) (linked_keeps the_place) (linked_keeps the_place)

  fits_base : FrameAgrees the_objects the_place (base_frame os a)
  fits_base = record {
    within = omega arith;
    method = method_same os the_objects (slot_of os a 3) (method_like os the_objects (slot_of os a 3) (others_stay os a (linked the_place) (linked_keeps the_place) (slot_of os a 3)
        (method_there os (slot_of os a 3) can.method) (method_apart os (slot_of os a 3) a can.method can.context.format))) can.method;
    stack = omega (arith, stack_long os a can, deep os a can, size_some the_objects (base_frame os a) not_nil, count_linked);
    married = λ ne. record {
      context = context_kept os a (linked the_place) (linked_keeps the_place) (λ x. refl) (λ x. refl) can.context;
      birth = field_of-with_object_kept (λ x. x.birth) os a a (linked the_place) (linked_keeps the_place) (λ x. refl);
      place = place_linked;
      method = slot_linked 3 (omega arith) (omega arith);
      closure = slot_linked 4 (omega arith) (omega arith);
      receiver = slot_linked 5 (omega arith) (omega arith);
    };
  }

  fits_all : (r : FrameRef) → IsFrame (alone ps p (base_frame os a)) r → FrameAgrees the_objects r (frame (alone ps p (base_frame os a)) r)
  fits_all r is = elim (cases_eq r.page p) [
    | inl e ↦ here e
    | inr ne ↦ there ne
  ]
    where
      f : Frame
      f = base_frame os a

      here : r.page ≡ p → FrameAgrees the_objects r (frame (alone ps p (base_frame os a)) r)
      here e = elim (cases_eq 0 r.at) [
        | inl z ↦
            let same : the_place ≡ r = ap (λ (n : ℕ). record { page = n; at = 0 }) (sym e) ∙ ap (λ (n : ℕ). record { page = r.page; at = n }) z in
            subst (λ q. FrameAgrees the_objects q (frame (alone ps p (base_frame os a)) q)) same
            (subst (FrameAgrees the_objects the_place) (sym (alone_is ps p lt (base_frame os a))) fits_base)
        | inr ne ↦ absurd (
            let fs : frames_of (alone ps p (base_frame os a)) r.page ≡ base_frame os a ∷ [] = ap (frames_of (alone ps p (base_frame os a))) e ∙ alone_frames ps p lt (base_frame os a) in
            let i : frame_index (base_frame os a ∷ []) r.at ≡ 1 = ap (λ b. cond b 0 1) (ne_eqb 0 r.at ne) in
            omega (arith, is, ap (λ (gs : List Frame). frame_index gs r.at) fs, i, ap length fs))
      ]

      there : r.page ≢ p → FrameAgrees the_objects r (frame (alone ps p (base_frame os a)) r)
      there ne =
          let same = frames_of-on_page_other ps p r.page (λ _. base_frame os a ∷ []) ne in
          let old : IsFrame ps r = subst (λ (fs : List Frame). frame_index fs r.at < length fs) same is in
          subst (λ (fs : List Frame). FrameAgrees the_objects r (nth fs (frame_index fs r.at))) (sym same)
          (fits_stays os the_objects a (others_stay os a (linked the_place) (linked_keeps the_place)) r (frame ps r)
          (method_apart os (frame ps r).method a (agree.frames r old).method can.context.format) (none r old) (agree.frames r old))

  pub agree_based : Agree (with_object os a (linked (record { page = p; at = 0 }))) (alone ps p (base_frame os a))
  agree_based =
      let rest = agree_changed os a (linked the_place) (linked_keeps the_place) ps agree can.context none in
      record {
        few = omega (arith, agree.few, length-on_page ps p (λ _. base_frame os a ∷ []));
        nil_there = rest.nil_there;
        nil_class = rest.nil_class;
        frames = fits_all;
      }
