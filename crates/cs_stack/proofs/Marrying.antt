-- A frame gets a context: heap and frames say the same of everything, and stay good.
use Rattle.std.proofs.Common.{◌≡◌, ◌≢◌, ◌⊎◌, ◌↔◌, ℕ, zero, suc, ◌+◌, ◌-◌, ◌<◌, ◌≤◌, Bool, true, false, refl, sym, ap, ap₂, subst, ◌∙◌, Option, Some, None, is_some, List, [], ◌∷◌, ◌++◌, length, map, option_and_then, replicate, arith, inl, inr, length-append}
use Rattle.std.specs.Prelude.{◌==◌, ◌&&◌, ◌||◌, ◌/◌, ◌%◌, ◌^◌, if◌then◌else◌, option_map, slice_get, slice_index, unwrap_or, Contains, IsTrue}
use Rattle.std.specs.List.{AllPass}
use Rattle.std.specs.Option.{option_map_or}
use Rattle.std.specs.Ordering.{nat_cmp}
use Rattle.std.specs.FinMap.{FinMap, get, insert, nat_cmp-IsAntisymmetric, same_map}
use Rattle.std.specs.Cmp.{nat_cmp_total}
use Rattle.std.proofs.lemmas.Bool.{cases_eq, eq-eqb, ne_eqb, or_right}
use Rattle.std.proofs.lemmas.List.{length-replicate}
use Rattle.std.proofs.lemmas.List.Elements.{All-cons, All-replicate}
use Rattle.cs_word.specs.Word.{natural_of_word}
use Rattle.cs_heap.specs.Format.{format_allows, is_code}
use Rattle.cs_classes.specs.declared.Roots.{Roots}
use Rattle.cs_word.specs.declared.Oop.{Oop}
use Rattle.cs_heap.specs.Object.{Memory, Object, birth_at, class_at, format_at, hash_at, object_place as place_of, is_object, next_address, heap_object, size, used}
use Rattle.cs_heap.proofs.Laws.{field_of-new, field_of-old, is_object-new, is_object-old, is_object-pushed, no_object-next, object_at-old, used-pushed}
use Rattle.cs_classes.specs.Meaning.{nth_birth, classes_of, is_heap_context, kept_of, meaning_at, obj_of, objects_of, ref_of}
use Rattle.cs_classes.specs.Sound.{AreSoundObjects, IsSoundObject, IsWhole, is_method_address, is_reference, nil_word}
use Rattle.cs_classes.proofs.Heaps.{birth_of-push, object_at-push, slice_get-push}
use Rattle.cs_classes.proofs.Objects.{IsFresh, get-objects_of-element, objects_of-push}
use Rattle.cs_classes.proofs.Refs.{both_true, is_reference-object, is_reference-push, nil_of-push, ref_of-object, ref_of-push}
use Rattle.cs_classes.proofs.Sorts.{map_alike}
use Rattle.cs_classes.proofs.Sounds.{sound-push, sound_at}
use Rattle.cs_classes.proofs.Wholes.{get-classes_of, obj_of-push}
use Rattle.cs_frame.specs.declared.FrameRef.{FrameRef}
use Rattle.cs_frame.specs.Frame.{Frame, nil, with_context}
use Rattle.cs_frame.specs.Page as page
use Rattle.cs_frame.specs.Page.{IsFrame, frame, frames_of, index_in, on_frame, on_nth, top}
use Rattle.cs_frame.proofs.PageLaws.{frames_of-on_page, frames_of-on_page_other, length-on_page, page-IsFrame}
use Rattle.cs_marriage.specs.Agree.{Agree, frame_size, header_at}
use Rattle.cs_marriage.specs.Marriage.{married_objects, new_size, new_spouse, spouse_address}
use Rattle.cs_marriage.specs.Place.{link_word}
use Rattle.cs_marriage.proofs.Agreeing.{agree_married, context_again, size_none, size_some}
use Rattle.cs_marriage.proofs.Objects.{context_there as spouse_there, method_there as code_there}
use Rattle.cs_marriage.proofs.Places.{link_names}
use Rattle.cs_model.specs.Ref as ref
use Rattle.cs_model.specs.Obj.{Ctx, Obj, context_class, context_size, lies_in}
use Rattle.cs_model.specs.State.{Kept, Rest}
use Rattle.cs_model.specs.Context.{closure_class, lies_if_index, lies_if_live}
use Rattle.cs_acts.specs.declared.act.Act.{Act}
use Rattle.cs_acts.specs.declared.act.Act.TheVariants as act
use Rattle.cs_acts.specs.Full.{IsFullHeap}
use Rattle.cs_acts.specs.Made.{contexts_in}
use Rattle.cs_acts.specs.Names.{KeepsNames, Names}
use Rattle.cs_stack.specs.declared.parts.Parts.{Parts}
use Rattle.cs_stack.specs.View.{act_of, active_in, bare, birth_from, object_birth, births_of, first_frames, laid_pages, layout_of, frame_context, frame_hash, frame_sender, frames_onto, has_context, is_linked, is_married, pages_onto, stored_of, unframed, view_of}
use Rattle.cs_stack.specs.Good.{FrameFits, FramesFit, HasSender, IsChain, IsGood, Lacks, LinkFits, PcFits, SenderFits, base_of, is_nil_or}
use Rattle.cs_stack.proofs.Lives.{lives_at}
use Rattle.cs_stack.proofs.Maps.{Objects, get_apart}
use Rattle.cs_stack.proofs.Framed.{Bare, Framed, IsOn, Which, above, all_fit, apart_on, fits_on, here, lacks_on, one_birth, onto_bare, onto_frame, which}
use Rattle.cs_stack.proofs.Alike.{active_alike, apart_alike, length_alike, lacks_alike}
use Rattle.cs_stack.proofs.Bare.{bare_none, bare_push, bare_rest, bare_whole, unframed_birth}
use Rattle.cs_stack.proofs.Places.{agreed}
use Rattle.cs_stack.proofs.Counting.{words_frame}
use Rattle.cs_stack.proofs.Acts.{FrameAct, body_married, frame_at, nil_counts}
use Rattle.cs_stack.proofs.Addresses.{closure_sound, nil_or-push, nil_or_named, place_sender, sender_fits-place, sender_fits-push}

-- ---- the frame of a birth gets a context

abbrev pub wed : ℕ → ℕ → Frame → Frame
wed b a f = if f.birth == b then with_context a f else f

abbrev pub wed_page : ℕ → ℕ → List Frame → List Frame
wed_page b a [] = []
wed_page b a (f ∷ fs) = wed b a f ∷ wed_page b a fs

-- it keeps all but its context
wed_keeps : {A : Type 0} (g : Frame → A) (b a : ℕ) (f : Frame) → g (with_context a f) ≡ g f → g (wed b a f) ≡ g f
wed_keeps g b a f e = go (f.birth == b)
  where
    go : (c : Bool) → g (if c then with_context a f else f) ≡ g f
    go true = e
    go false = refl

births_wed : (b a : ℕ) (fs : List Frame) → births_of (wed_page b a fs) ≡ births_of fs
births_wed b a [] = refl
births_wed b a (f ∷ fs) = ap₂ (λ (n : ℕ) (ns : List ℕ). n ∷ ns) (wed_keeps (λ g. g.birth) b a f refl) (births_wed b a fs)

used_wed : (b a : ℕ) (fs : List Frame) → page.frames_used (wed_page b a fs) ≡ page.frames_used fs
used_wed b a [] = refl
used_wed b a (f ∷ fs) = ap₂ (λ m n. m + (10 + n)) (used_wed b a fs) (wed_keeps (λ g. length g.stack) b a f refl)

base_wed : (b a : ℕ) (fs : List Frame) → (base_of (wed_page b a fs)).caller ≡ (base_of fs).caller
base_wed b a [] = refl
base_wed b a (f ∷ []) = wed_keeps (λ g. g.caller) b a f refl
base_wed b a (f ∷ g ∷ gs) = base_wed b a (g ∷ gs)

birth_from_wed : (b a : ℕ) (fs : List Frame) (at : ℕ) → birth_from (wed_page b a fs) at ≡ birth_from fs at
birth_from_wed b a [] at = refl
birth_from_wed b a (f ∷ fs) at =
    ap₂ (λ m n. if m == at then Some n else birth_from (wed_page b a fs) at) (wed_keeps (λ g. g.at) b a f refl) (wed_keeps (λ g. g.birth) b a f refl)
    ∙ ap (λ o. if f.at == at then Some f.birth else o) (birth_from_wed b a fs at)

wed_lacks : (b a : ℕ) (fs : List Frame) → Lacks b fs → wed_page b a fs ≡ fs
wed_lacks b a [] l = refl
wed_lacks b a (f ∷ fs) l = ap₂ (λ (g : Frame) (gs : List Frame). g ∷ gs) (ap (λ c. if c then with_context a f else f) (ne_eqb f.birth b (λ e. l.0 (sym e)))) (wed_lacks b a fs l.1)

-- the frame that has k frames above it
wed_nth : {f : Frame} {gs fs : List Frame} (os : List Object) (next a k : ℕ) → IsOn f gs fs → FramesFit os next fs → length fs ≡ suc (k + length gs) → on_nth k (with_context a) fs ≡ wed_page f.birth a fs
wed_nth {f = f} {gs = gs} os next a zero here fit count =
    ap₂ (λ (g : Frame) (hs : List Frame). g ∷ hs) (sym (ap (λ c. if c then with_context a f else f) (eq-eqb f.birth f.birth refl))) (sym (wed_lacks f.birth a gs fit.0.apart))
wed_nth os next a (suc k) here fit count = absurd (omega (arith, count))
wed_nth os next a zero (above e es on) fit count = absurd (omega (arith, count, short on))
  where
    short : {f : Frame} {gs fs : List Frame} → IsOn f gs fs → length gs < length fs
    short here = omega arith
    short (above e es on) = omega (arith, short on)
wed_nth {f = f} os next a (suc k) (above e es on) fit count =
    ap₂ (λ (g : Frame) (hs : List Frame). g ∷ hs) (sym (ap (λ c. if c then with_context a e else e) (ne_eqb e.birth f.birth (lacks_on e.birth on fit.0.apart))))
    (wed_nth os next a k on fit.1 (omega (arith, count)))

-- ---- a new object at the end of the heap

-- a pc that lies in a method lies there still
lies_pushed : (os : List Object) (y : Object) (m : ℕ) (pc : ℕ) → AreSoundObjects os → lies_in (meaning_at os m) pc ≡ true → lies_in (meaning_at (os ++ y ∷ []) m) pc ≡ true
lies_pushed os y m pc sound h =
    let l = lives_at os m (Some pc) pc refl h in
    let old : meaning_at os m ≡ Some (obj_of (ref_of os) l.object) = ap (option_map (obj_of (ref_of os))) l.there in
    let new : meaning_at (os ++ y ∷ []) m ≡ Some (obj_of (ref_of os) l.object) =
    ap (option_map (obj_of (ref_of (os ++ y ∷ [])))) (object_at-push os y m l.object l.there) ∙ ap Some (obj_of-push os y l.object (sound_at os m l.object sound l.there)) in
    ap (λ o. lies_in o pc) (new ∙ sym old) ∙ h

live_pushed : (os : List Object) (y : Object) (m : ℕ) (at : Option ℕ) → AreSoundObjects os → lies_if_live (meaning_at os m) at ≡ true → lies_if_live (meaning_at (os ++ y ∷ []) m) at ≡ true
live_pushed os y m None sound h = refl
live_pushed os y m (Some pc) sound h = lies_pushed os y m pc sound h

index_pushed : (os : List Object) (y : Object) (m : ℕ) (at : Option ℕ) → AreSoundObjects os → lies_if_index (meaning_at os m) at ≡ true → lies_if_index (meaning_at (os ++ y ∷ []) m) at ≡ true
index_pushed os y m None sound h = absurd (cc)
index_pushed os y m (Some pc) sound h = lies_pushed os y m pc sound h

birth_at-pushed : (os : List Object) (y : Object) (k : ℕ) → k < length os → nth_birth (os ++ y ∷ []) k ≡ nth_birth os k
birth_at-pushed [] y k h = absurd (omega (arith, h))
birth_at-pushed (x ∷ os) y zero h = refl
birth_at-pushed (x ∷ os) y (suc k) h = birth_at-pushed os y k (omega (arith, h))

classes_pushed : (os : List Object) (y : Object) (table : FinMap nat_cmp ℕ) → ((index a : ℕ) → get table index ≡ Some a → is_object os a ≡ true) → classes_of (os ++ y ∷ []) table ≡ classes_of os table
classes_pushed os y table there = same_map nat_cmp_total nat_cmp-IsAntisymmetric (classes_of (os ++ y ∷ []) table) (classes_of os table)
    (λ q. get-classes_of (os ++ y ∷ []) table q ∙ go q (get table q) refl ∙ sym (get-classes_of os table q))
  where
    go : (q : ℕ) (o : Option ℕ) → get table q ≡ o → option_map (birth_at (os ++ y ∷ [])) o ≡ option_map (birth_at os) o
    go q None e = refl
    go q (Some c) e = ap Some (birth_of-push os y c (there q c e))

rest_pushed : (os : List Object) (y : Object) (table : FinMap nat_cmp ℕ) (roots : Roots) (active : Option ℕ) → IsWhole os table roots → (kept_of (os ++ y ∷ []) table roots active).rest ≡ (kept_of os table roots active).rest
rest_pushed os y table roots active w =
    let k : Kept = kept_of os table roots active in
    let classes = classes_pushed os y table w.classes in
    let nil_is = birth_at-pushed os y 0 (omega (arith, w.first)) in
    let false_is = birth_at-pushed os y 1 (omega (arith, w.first)) in
    let true_is = birth_at-pushed os y 2 (omega (arith, w.first)) in
    let special = birth_of-push os y roots.special.0 w.special in
    λ i. record {
      nil = nil_is i;
      false_ = false_is i;
      true_ = true_is i;
      special = special i;
      header = k.rest.header;
      classes = classes i;
      last_hash = roots.last_hash;
      next = roots.next_birth;
      active = active;
    }

contexts_pushed : (os : List Object) (y : Object) → contexts_in (os ++ y ∷ []) ≤ contexts_in os + 1
unfolding contexts_in
contexts_pushed [] y = one (is_heap_context y)
  where
    one : (b : Bool) → 0 + (if b then 1 else 0) ≤ 1
    one true = omega arith
    one false = omega arith
contexts_pushed (x ∷ os) y = omega (arith, contexts_pushed os y)

-- ---- the context of a frame

sizes_allowed : (header : ℕ) (xs : List ℕ) → length xs ≡ 6 + context_size header → (IsTrue (format_allows 3 (length xs))) × (IsTrue (length xs == 22 || length xs == 62))
sizes_allowed header xs e = go (header / 2 ^ 17 % 2 == 1) e
  where
    go : (b : Bool) → length xs ≡ 6 + (if b then 56 else 16) → (IsTrue (format_allows 3 (length xs))) × (IsTrue (length xs == 22 || length xs == 62))
    go true e = subst (λ n. (IsTrue (format_allows 3 n)) × (IsTrue (n == 22 || n == 62))) (sym e) (refl, refl)
    go false e = subst (λ n. (IsTrue (format_allows 3 n)) × (IsTrue (n == 22 || n == 62))) (sym e) (refl, refl)

spouse_sound : (us : List Object) (r : FrameRef) (f : Frame) (header : ℕ) → nil_word us ≡ nil → is_reference us nil ≡ true → is_method_address us f.method ≡ true → is_nil_or closure_class us f.closure ≡ true
    → is_reference us f.receiver ≡ true → IsSoundObject us (new_spouse r (context_size header) f)
spouse_sound us r f header nil_is nil_named method closure receiver =
    let named : ℕ → Type 0 = λ v. is_reference us v ≡ true in
    let rest : List ℕ = replicate (context_size header) nil in
    let y = new_spouse r (context_size header) f in
    let long : length y.words ≡ 6 + context_size header = omega (arith, length-replicate (context_size header) nil) in
    let allowed = sizes_allowed header y.words long in
    record {
      kind = refl;
      flags = omega arith;
      plain = refl;
      shape = allowed.0;
      references =
          All-cons named nil (nil ∷ f.method ∷ f.closure ∷ f.receiver ∷ rest) nil_named
          (All-cons named nil (f.method ∷ f.closure ∷ f.receiver ∷ rest) nil_named
          (All-cons named f.method (f.closure ∷ f.receiver ∷ rest) (is_reference-object us f.method (both_true (is_object us f.method) (is_code (format_at us f.method)) method).0)
          (All-cons named f.closure (f.receiver ∷ rest) (nil_or_named closure_class us f.closure closure)
          (All-cons named f.receiver rest receiver (All-replicate named (context_size header) nil nil_named)))));
      context = λ _. record {
        flags = refl;
        format = refl;
        slots = allowed.1;
        sender = place_sender us (link_word r) (link_names r);
        pc = ap (λ b. b || is_some (natural_of_word nil)) (eq-eqb nil (nil_word us) (sym nil_is));
        stackp = ap (λ b. b || is_some (natural_of_word nil)) (eq-eqb nil (nil_word us) (sym nil_is));
        depth = omega (arith, ap (λ n. unwrap_or n 0) nil_counts);
        method = or_right (f.method == nil_word us) (is_method_address us f.method) method;
        closure = closure_sound us f.closure nil_is closure;
      };
      method = λ m. absurd (cc);
    }

-- ---- the heap has the context, and the frame names it

module _ (w : Parts) (good : IsGood w) (r : FrameRef) (is : IsFrame w.frames r) (none : (frame w.frames r).context ≡ nil) (a : ℕ)
    (at : a ≡ next_address w.heap.objects (6 + new_size w.heap.objects (frame w.frames r)))
    (room : used w.heap.objects + size (6 + new_size w.heap.objects (frame w.frames r)) ≤ w.heap.limit) where
  abbrev os : List Object
  os = w.heap.objects

  abbrev fr : Frame
  fr = frame w.frames r

  abbrev y : Object
  y = new_spouse r (new_size os fr) fr

  abbrev us : List Object
  us = os ++ y ∷ []

  abbrev qs : List (List Frame)
  qs = on_frame w.frames r (with_context a)

  abbrev b : ℕ
  b = fr.birth

  abbrev next : ℕ
  next = w.roots.next_birth

  abbrev fact : FrameAct w r.page r.at
  fact = frame_at w r good is

  on_r : IsOn fr fact.begins_at.gs (frames_of w.frames r.page)
  on_r = subst (λ g. IsOn g fact.begins_at.gs (frames_of w.frames r.page)) (sym fact.is) fact.begins_at.on

  fits_r : FrameFits os next fr fact.begins_at.gs
  fits_r = fits_on os next on_r (good.frames r.page)

  page_is : (p : ℕ) → frames_of qs p ≡ wed_page b a (frames_of w.frames p)
  page_is p = elim (cases_eq p r.page) [
    | inl e ↦ ap (frames_of qs) e ∙ frames_of-on_page w.frames r.page (on_nth (index_in w.frames r) (with_context a)) (page-IsFrame w.frames r is)
        ∙ wed_nth os next a (index_in w.frames r) on_r (good.frames r.page) fact.begins_at.count ∙ ap (λ q. wed_page b a (frames_of w.frames q)) (sym e)
    | inr ne ↦ frames_of-on_page_other w.frames r.page p (on_nth (index_in w.frames r) (with_context a)) ne
        ∙ sym (wed_lacks b a (frames_of w.frames p) (apart_on (frames_of w.frames p) on_r (good.apart r.page p (λ e. ne (sym e)))))
  ]

  page_births : (p : ℕ) → births_of (frames_of qs p) ≡ births_of (frames_of w.frames p)
  page_births p = ap births_of (page_is p) ∙ births_wed b a (frames_of w.frames p)

  long : length y.words ≡ 6 + new_size os fr
  long = omega (arith, length-replicate (new_size os fr) nil)

  at_end : a ≡ next_address os (length y.words)
  at_end = at ∙ ap (next_address os) (sym long)

  not_there : is_object os a ≡ false
  not_there = ap (is_object os) at ∙ no_object-next os (6 + new_size os fr)

  apart_from : (c : ℕ) → is_object os c ≡ true → a ≢ c
  apart_from c there e = absurd (let no : false ≡ true = sym not_there ∙ ap (is_object os) e ∙ there in cc)

  some : a ≢ nil
  some = apart_from nil good.agree.nil_there

  agrees : Agree us qs
  agrees = agree_married os w.frames r a good.agree is none at

  fresh : IsFresh os b
  fresh k x h e =
      let no : ◌≡◌ {A = Option Obj} None (Some (obj_of (ref_of os) x)) = sym (fits_r.alone none) ∙ ap (get (objects_of os)) (sym e) ∙ get-objects_of-element os k x good.whole.heap.apart h in
      absurd (cc)

  refer : (v : ℕ) → is_reference os v ≡ true → ref_of us v ≡ ref_of os v
  refer = ref_of-push os y

  refers : (v : ℕ) → is_reference os v ≡ true → is_reference us v ≡ true
  refers = is_reference-push os y

  -- the frame of that birth is this one
  is_r : {f : Frame} {gs : List Frame} (p : ℕ) → IsOn f gs (frames_of w.frames p) → f.birth ≡ b → f ≡ fr
  is_r p on e = (one_birth os next w.frames p r.page (all_fit w good) on on_r e).1

  wed_is : {f : Frame} {gs : List Frame} (p : ℕ) → IsOn f gs (frames_of w.frames p) → f.birth ≡ b → wed b a f ≡ with_context a fr
  wed_is {f = f} p on e = ap (λ c. if c then with_context a f else f) (eq-eqb f.birth b e) ∙ ap (with_context a) (is_r p on e)

  wed_not : (f : Frame) → f.birth ≢ b → wed b a f ≡ f
  wed_not f ne = ap (λ c. if c then with_context a f else f) (ne_eqb f.birth b ne)

  method_named : {f : Frame} {gs : List Frame} (p : ℕ) → IsOn f gs (frames_of w.frames p) → is_object os f.method ≡ true
  method_named {f = f} p on = code_there os f.method (agreed w good p on).method

  -- ---- sizes and hashes

  header_same : {f : Frame} {gs : List Frame} (p : ℕ) → IsOn f gs (frames_of w.frames p) → header_at us f.method ≡ header_at os f.method
  header_same {f = f} p on = ap (λ n. unwrap_or (natural_of_word n) 0) (field_of-old (λ x. slice_index x.words 0) os y f.method (method_named p on))

  abbrev Same : Frame → Frame → Type 0
  Same f g = (frame_size us g ≡ frame_size os f) × (frame_hash us g ≡ frame_hash os f)

  hash_none : (xs : List Object) (f : Frame) → f.context ≡ nil → frame_hash xs f ≡ 0
  hash_none xs f e = ap (λ c. if c then 0 else hash_at xs f.context) (eq-eqb f.context nil e)

  hash_some : (xs : List Object) (f : Frame) → f.context ≢ nil → frame_hash xs f ≡ hash_at xs f.context
  hash_some xs f ne = ap (λ c. if c then 0 else hash_at xs f.context) (ne_eqb f.context nil ne)

  other_same : {f : Frame} {gs : List Frame} (p : ℕ) → IsOn f gs (frames_of w.frames p) → Same f f
  other_same {f = f} p on = elim (cases_eq f.context nil) [
    | inl e ↦ (size_none us f e ∙ ap context_size (header_same p on) ∙ sym (size_none os f e), hash_none us f e ∙ sym (hash_none os f e))
    | inr ne ↦
        let there = spouse_there os f.context ((agreed w good p on).married ne).context in (
          size_some us f ne ∙ ap (λ n. n - 6) (field_of-old (λ x. length x.words) os y f.context there) ∙ sym (size_some os f ne),
          hash_some us f ne ∙ field_of-old (λ x. x.hash) os y f.context there ∙ sym (hash_some os f ne),
        )
  ]

  this_same : Same fr (with_context a fr)
  this_same = (
    omega (arith, size_some us (with_context a fr) some, field_of-new (λ x. length x.words) os y a at_end, long, size_none os fr none),
    hash_some us (with_context a fr) some ∙ field_of-new (λ x. x.hash) os y a at_end ∙ sym (hash_none os fr none),
  )

  wed_same : {f : Frame} {gs : List Frame} (p : ℕ) → IsOn f gs (frames_of w.frames p) → Same f (wed b a f)
  wed_same {f = f} p on = elim (cases_eq f.birth b) [
    | inl e ↦ subst (λ g. Same f g) (sym (wed_is p on e)) (subst (λ g. Same g (with_context a fr)) (sym (is_r p on e)) this_same)
    | inr ne ↦ subst (λ g. Same f g) (sym (wed_not f ne)) (other_same p on)
  ]

  -- ---- frames as contexts

  sender_same : (f : Frame) (gs : List Frame) → FrameFits os next f gs → frame_sender us (wed b a f) (wed_page b a gs) ≡ frame_sender os f gs
  sender_same f [] fits = ap (ref_of us) (wed_keeps (λ g. g.caller) b a f refl) ∙ refer f.caller (nil_or_named context_class os f.caller fits.sender)
  sender_same f (g ∷ gs) fits = ap (λ n. ref.Obj n) (wed_keeps (λ h. h.birth) b a g refl)

  context_same : {f : Frame} {gs : List Frame} (p : ℕ) → IsOn f gs (frames_of w.frames p) → frame_context us (wed b a f) (wed_page b a gs) ≡ frame_context os f gs
  unfolding frame_context
  context_same {f = f} {gs = gs} p on =
      let fits : FrameFits os next f gs = fits_on os next on (good.frames p) in
      let same = wed_same p on in
      let hash = same.1 in
      let size_is = same.0 in
      let sender = sender_same f gs fits in
      let pc = ap natural_of_word (wed_keeps (λ g. g.saved_pc) b a f refl) in
      let method = ap (ref_of us) (wed_keeps (λ g. g.method) b a f refl) ∙ refer f.method (is_reference-object os f.method (method_named p on)) in
      let closure = ap (ref_of us) (wed_keeps (λ g. g.closure) b a f refl) ∙ refer f.closure (nil_or_named closure_class os f.closure fits.names.closure) in
      let receiver = ap (ref_of us) (wed_keeps (λ g. g.receiver) b a f refl) ∙ refer f.receiver fits.names.receiver in
      let stack = ap (map (ref_of us)) (wed_keeps (λ g. g.stack) b a f refl) ∙ map_alike (is_reference os) (ref_of us) (ref_of os) refer f.stack fits.names.stack in
      λ i. record {
        hash = hash i;
        sender = sender i;
        pc = pc i;
        method = method i;
        closure = closure i;
        receiver = receiver i;
        stack = stack i;
        size = size_is i;
      }

  abbrev Alikes : List Frame → Type 0
  Alikes fs = (f : Frame) (gs : List Frame) → IsOn f gs fs → frame_context us (wed b a f) (wed_page b a gs) ≡ frame_context os f gs

  page_same : (fs : List Frame) (m : Objects) → Alikes fs → frames_onto us (wed_page b a fs) m ≡ frames_onto os fs m
  unfolding frames_onto
  page_same [] m same = refl
  page_same (f ∷ fs) m same =
      ap (λ t. insert t (wed b a f).birth (Ctx (frame_context us (wed b a f) (wed_page b a fs)))) (page_same fs m (λ g gs on. same g gs (above f fs on)))
      ∙ ap (λ n. insert (frames_onto os fs m) n (Ctx (frame_context us (wed b a f) (wed_page b a fs)))) (wed_keeps (λ h. h.birth) b a f refl)
      ∙ ap (λ c. insert (frames_onto os fs m) f.birth (Ctx c)) (same f fs here)

  pages_same : (ps ts : List (List Frame)) (m : Objects) → length ts ≡ length ps → ((p : ℕ) → frames_of ts p ≡ wed_page b a (frames_of ps p)) → ((p : ℕ) → Alikes (frames_of ps p)) → pages_onto us ts m ≡ pages_onto os ps m
  unfolding pages_onto
  pages_same [] [] m len each same = refl
  pages_same [] (t ∷ ts) m len each same = absurd (omega (arith, len))
  pages_same (p ∷ ps) [] m len each same = absurd (omega (arith, len))
  pages_same (p ∷ ps) (t ∷ ts) m len each same =
      ap₂ (λ (fs : List Frame) (n : Objects). frames_onto us fs n) (each 0) (pages_same ps ts m (omega (arith, len)) (λ q. each (suc q)) (λ q. same (suc q)))
      ∙ page_same p (pages_onto os ps m) (same 0)

  -- ---- the state

  abbrev old_map : Objects
  old_map = objects_of (bare os)

  bare_good : IsWhole (bare os) w.classes w.roots
  bare_good = bare_whole os w.classes w.roots good.whole

  bare_birth_is : (unframed y).birth ≡ b
  bare_birth_is = unframed_birth y

  bare_fresh : IsFresh (bare os) (unframed y).birth
  bare_fresh k x h e =
      let no : ◌≡◌ {A = Option Obj} None (Some (obj_of (ref_of (bare os)) x)) =
      sym (bare_none os b good.whole.heap (fits_r.alone none)) ∙ ap (get old_map) (sym (e ∙ bare_birth_is)) ∙ get-objects_of-element (bare os) k x bare_good.heap.apart h in
      absurd (cc)

  map_is : objects_of (bare us) ≡ insert old_map (unframed y).birth (obj_of (ref_of (bare os ++ unframed y ∷ [])) (unframed y))
  map_is = ap objects_of (bare_push os y) ∙ objects_of-push (bare os) (unframed y) bare_fresh (λ k x h. obj_of-push (bare os) (unframed y) x (bare_good.heap.each k x h))

  map_other : (i : ℕ) → i ≢ b → get (objects_of (bare us)) i ≡ get old_map i
  map_other i ne = ap (λ m. get m i) map_is ∙ get_apart old_map (unframed y).birth i _ (λ e. ne (e ∙ bare_birth_is))

  objects_same : pages_onto us qs (objects_of (bare us)) ≡ pages_onto os w.frames old_map
  objects_same =
      pages_same w.frames qs (objects_of (bare us)) (length-on_page w.frames r.page (on_nth (index_in w.frames r) (with_context a))) page_is (λ p f gs on. context_same p on)
      ∙ same_map nat_cmp_total nat_cmp-IsAntisymmetric (pages_onto os w.frames (objects_of (bare us))) (pages_onto os w.frames old_map) (λ i. go i (which i w.frames))
    where
      go : (i : ℕ) → Which i w.frames → get (pages_onto os w.frames (objects_of (bare us))) i ≡ get (pages_onto os w.frames old_map) i
      go i (Framed p f gs on e) =
          ap (get (pages_onto os w.frames (objects_of (bare us)))) e
          ∙ onto_frame os next w.frames (objects_of (bare us)) p (all_fit w good) on
          ∙ sym (ap (get (pages_onto os w.frames old_map)) e ∙ onto_frame os next w.frames old_map p (all_fit w good) on)
      go i (Bare l) = onto_bare os w.frames (objects_of (bare us)) i l ∙ map_other i (lacks_on i on_r (l r.page)) ∙ sym (onto_bare os w.frames old_map i l)

  -- the world in which the frame has a context
  abbrev pub wedded : Parts
  wedded = record w { heap = record w.heap { objects = us }; frames = qs }

  active_same : (rs : List ℕ) → active_in (first_frames qs rs) ≡ active_in (first_frames w.frames rs)
  active_same [] = refl
  active_same (p ∷ rs) = active_alike (frames_of qs p) (frames_of w.frames p) (page_births p)

  pub view_wedded : view_of wedded ≡ view_of w
  view_wedded =
      ap₂ (λ (m : Objects) (t : Rest). record { objects = m; rest = t }) objects_same
      (bare_rest us w.classes w.roots (active_in (first_frames qs w.pages.recent)) ∙ rest_pushed os y w.classes w.roots (active_in (first_frames qs w.pages.recent)) good.whole
      ∙ ap (λ o. (kept_of os w.classes w.roots o).rest) (active_same w.pages.recent)
      ∙ sym (bare_rest os w.classes w.roots (active_in (first_frames w.frames w.pages.recent))))

  laid_same : (rs : List ℕ) → laid_pages qs rs ≡ laid_pages w.frames rs
  laid_same [] = refl
  laid_same (p ∷ rs) = ap₂ (λ (ns : List ℕ) (ms : List (List ℕ)). ns ∷ ms) (page_births p) (laid_same rs)

  pub layout_wedded : layout_of wedded ≡ layout_of w
  layout_wedded = ap (λ ls. Some (record { most = w.pages.total; pages = ls })) (laid_same w.pages.recent)

  -- ---- acts

  page_has : (c : ℕ) (p : ℕ) (fs : List Frame) → c ≢ a → c ≢ nil → ((f : Frame) (gs : List Frame) → IsOn f gs fs → IsOn f gs (frames_of w.frames p)) → has_context c (wed_page b a fs) ≡ has_context c fs
  page_has c p [] ne nn within = refl
  page_has c p (f ∷ fs) ne nn within =
      ap₂ (λ s t. s || t) (go (cases_eq f.birth b)) (page_has c p fs ne nn (λ g gs on. within g gs (above f fs on)))
    where
      go : (f.birth ≡ b) ⊎ (f.birth ≡ b → ⊥) → ((wed b a f).context == c) ≡ (f.context == c)
      go (inl e) =
          ap (λ (g : Frame). g.context == c) (wed_is p (within f fs here) e) ∙ ne_eqb a c (λ s. ne (sym s))
          ∙ sym (ap (λ n. n == c) (ap (λ (g : Frame). g.context) (is_r p (within f fs here) e) ∙ none) ∙ ne_eqb nil c (λ s. nn (sym s)))
      go (inr other) = ap (λ (g : Frame). g.context == c) (wed_not f other)

  married_same : (c : ℕ) → c ≢ a → c ≢ nil → is_married c qs ≡ is_married c w.frames
  married_same c ne nn =
      pages_have w.frames qs (length-on_page w.frames r.page (on_nth (index_in w.frames r) (with_context a)))
      (λ p. ap (has_context c) (page_is p) ∙ page_has c p (frames_of w.frames p) ne nn (λ f gs on. on))
    where
      pages_have : (ps ts : List (List Frame)) → length ts ≡ length ps → ((p : ℕ) → has_context c (frames_of ts p) ≡ has_context c (frames_of ps p)) → is_married c ts ≡ is_married c ps
      pages_have [] [] len each = refl
      pages_have [] (t ∷ ts) len each = absurd (omega (arith, len))
      pages_have (p ∷ ps) [] len each = absurd (omega (arith, len))
      pages_have (p ∷ ps) (t ∷ ts) len each = ap₂ (λ s u. s || u) (each 0) (pages_have ps ts (omega (arith, len)) (λ q. each (suc q)))

  no_birth : (c : Bool) (o : Option Object) → object_birth o ≡ None → (if c then None else object_birth o) ≡ None
  no_birth true o e = refl
  no_birth false o e = e

  nil_no_birth : (xs : List Object) → class_at xs nil ≢ context_class → object_birth (heap_object xs nil) ≡ None
  nil_no_birth xs ne = go (heap_object xs nil) refl
    where
      go : (o : Option Object) → heap_object xs nil ≡ o → object_birth o ≡ None
      go None e = refl
      go (Some x) e = ap (λ c. if c then Some x.birth else None) (ne_eqb x.class context_class (λ s. ne (ap (λ (o : Option Object). option_map_or (λ (z : Object). z.class) o 0) e ∙ s)))

  not_object : (xs : List Object) (c : ℕ) → is_object xs c ≡ false → heap_object xs c ≡ None
  not_object xs c e = go (place_of xs c) e
    where
      go : (o : Option ℕ) → is_some o ≡ false → option_and_then (slice_get xs) o ≡ None
      go None h = refl
      go (Some k) h = absurd (cc)

  object_same : (c : ℕ) → c ≢ a → heap_object us c ≡ heap_object os c
  object_same c ne = go (is_object os c) refl (is_object us c) refl
    where
      go : (s : Bool) → is_object os c ≡ s → (t : Bool) → is_object us c ≡ t → heap_object us c ≡ heap_object os c
      go true e t d = object_at-old os y c e
      go false e false d = not_object us c d ∙ sym (not_object os c e)
      go false e true d = elim (is_object-pushed os y c d) [
        | inl h ↦ absurd (let no : false ≡ true = sym e ∙ h in cc)
        | inr h ↦ absurd (ne (h ∙ sym at_end))
      ]

  context_act_same : (c : ℕ) → (if is_married c qs then None else object_birth (heap_object us c)) ≡ (if is_married c w.frames then None else object_birth (heap_object os c))
  context_act_same c = elim (cases_eq c a) [
    | inl e ↦
        subst (λ n. (if is_married n qs then None else object_birth (heap_object us n)) ≡ (if is_married n w.frames then None else object_birth (heap_object os n))) (sym e)
        (ap (λ t. if t then None else object_birth (heap_object us a)) new_body ∙ sym (no_birth (is_married a w.frames) (heap_object os a) (ap object_birth (not_object os a not_there))))
    | inr ne ↦ elim (cases_eq c nil) [
      | inl e ↦
          subst (λ n. (if is_married n qs then None else object_birth (heap_object us n)) ≡ (if is_married n w.frames then None else object_birth (heap_object os n))) (sym e)
          (no_birth (is_married nil qs) (heap_object us nil) (nil_no_birth us agrees.nil_class)
          ∙ sym (no_birth (is_married nil w.frames) (heap_object os nil) (nil_no_birth os good.agree.nil_class)))
      | inr nn ↦ ap₂ (λ (t : Bool) (o : Option Object). if t then None else object_birth o) (married_same c ne nn) (object_same c ne)
    ]
  ]
    where
      new_on : {f : Frame} {gs fs : List Frame} → IsOn f gs fs → f.birth ≡ b → IsOn (wed b a f) (wed_page b a gs) (wed_page b a fs)
      new_on here e = here
      new_on (above d ds on) e = above (wed b a d) (wed_page b a ds) (new_on on e)

      new_body : is_married a qs ≡ true
      new_body = body_married a qs (record {
        p = r.page;
        f = wed b a fr;
        gs = wed_page b a fact.begins_at.gs;
        on = subst (IsOn (wed b a fr) (wed_page b a fact.begins_at.gs)) (sym (page_is r.page)) (new_on on_r refl);
        is = ap (λ (g : Frame). g.context) (wed_is r.page on_r refl);
      })

  pub acts_wedded : (c : Act) → act_of wedded c ≡ act_of w c
  acts_wedded (act.Frame p place) = ap (λ fs. birth_from fs place) (page_is p) ∙ birth_from_wed b a (frames_of w.frames p) place
  acts_wedded (act.Context o) = context_act_same o.0
  acts_wedded act.Gone = refl

  -- ---- it is good

  pub names_wedded : KeepsNames (stored_of w) (stored_of wedded)
  names_wedded o h = record { sound = refers o.0 h; is = refer o.0 h }

  pub contexts_wedded : contexts_in us ≤ contexts_in os + 1
  contexts_wedded = contexts_pushed os y

  pub value_wedded : (o : Oop) → o.0 ≡ a → Names (stored_of wedded) o (ref.Obj b)
  value_wedded o e =
      let there : is_object us a ≡ true = is_object-new os y a at_end in
      record {
        sound = ap (is_reference us) e ∙ is_reference-object us a there;
        is = ap (ref_of us) e ∙ ref_of-object us a there ∙ ap (λ n. ref.Obj n) (field_of-new (λ x. x.birth) os y a at_end);
      }

  -- the method of the frame is one in the new heap
  method_new : is_method_address us fr.method ≡ true
  method_new = let m = (good.agree.frames r is).method in
      ap₂ (λ (c : Bool) (n : ℕ). c && is_code n) (is_object-old os y fr.method (method_named r.page on_r)) (field_of-old (λ x. x.format) os y fr.method (method_named r.page on_r)) ∙ m.format

  sound_new : IsSoundObject us y
  sound_new =
      spouse_sound us r fr (header_at os fr.method) (nil_of-push os y (omega (arith, good.whole.first)) ∙ good.whole.nil)
      (is_reference-object us nil (is_object-old os y nil good.agree.nil_there))
      method_new (nil_or-push closure_class os y fr.closure fits_r.names.closure) (refers fr.receiver fits_r.names.receiver)

  whole : IsWhole us w.classes w.roots
  whole = record {
    heap = sound-push os y good.whole.heap fresh sound_new;
    first = omega (arith, good.whole.first, length-append os (y ∷ []));
    nil = nil_of-push os y (omega (arith, good.whole.first)) ∙ good.whole.nil;
    singles = λ k x h l. singles k x l (slice_get-push os y k x h);
    births = λ k x h. births k x (slice_get-push os y k x h);
    indices = λ k x h. indices k x (slice_get-push os y k x h);
    classes = λ i c e. is_object-old os y c (good.whole.classes i c e);
    entries = record {
      within = good.whole.entries.within;
      zero = good.whole.entries.zero;
      hidden = good.whole.entries.hidden;
      integers = good.whole.entries.integers;
      characters = good.whole.entries.characters;
      contexts = good.whole.entries.contexts;
      closures = good.whole.entries.closures;
      second = good.whole.entries.second;
      class = λ index c x e three h. good.whole.entries.class index c x e three (sym (object_at-old os y c (good.whole.classes index c e)) ∙ h);
    };
    special = is_object-old os y w.roots.special.0 good.whole.special;
    array = record {
      format = field_of-old (λ x. x.format) os y w.roots.special.0 good.whole.special ∙ good.whole.array.format;
      slots = omega (arith, good.whole.array.slots, field_of-old (λ x. length x.words) os y w.roots.special.0 good.whole.special);
    };
    last_hash = good.whole.last_hash;
    header = good.whole.header;
  }
    where
      singles : (k : ℕ) (x : Object) → k < 3 → (slice_get os k ≡ Some x) ⊎ ((k ≡ length os) × (y ≡ x)) → x.format ≡ 0
      singles k x l (inl h) = good.whole.singles k x h l
      singles k x l (inr h) = absurd (omega (arith, l, h.0, good.whole.first))

      births : (k : ℕ) (x : Object) → (slice_get os k ≡ Some x) ⊎ ((k ≡ length os) × (y ≡ x)) → x.birth < w.roots.next_birth
      births k x (inl h) = good.whole.births k x h
      births k x (inr h) = omega (arith, fits_r.birth, ap (λ (z : Object). z.birth) h.1)

      indices : (k : ℕ) (x : Object) → (slice_get os k ≡ Some x) ⊎ ((k ≡ length os) × (y ≡ x)) → is_some (get w.classes x.class) ≡ true
      indices k x (inl h) = good.whole.indices k x h
      indices k x (inr h) = subst (λ (z : Object). is_some (get w.classes z.class) ≡ true) h.1 good.whole.entries.contexts

  pcs : (k : ℕ) (x : Object) → slice_get us k ≡ Some x → is_heap_context x ≡ true → PcFits us x
  pcs k x h context = go (slice_get-push os y k x h)
    where
      go : (slice_get os k ≡ Some x) ⊎ ((k ≡ length os) × (y ≡ x)) → PcFits us x
      go (inl e) = live_pushed os y (slice_index x.words 3) (natural_of_word (slice_index x.words 1)) good.whole.heap (good.pcs k x e context)
      go (inr e) = subst (PcFits us) e.1 (ap (lies_if_live (meaning_at us fr.method)) nil_counts)

  senders : (k : ℕ) (x : Object) → slice_get us k ≡ Some x → is_heap_context x ≡ true → SenderFits us x
  senders k x h context = go (slice_get-push os y k x h)
    where
      go : (slice_get os k ≡ Some x) ⊎ ((k ≡ length os) × (y ≡ x)) → SenderFits us x
      go (inl e) = sender_fits-push os y x (good.senders k x e context)
      go (inr e) = subst (SenderFits us) e.1 (sender_fits-place us y (link_names r))

  links : (k : ℕ) (x : Object) → slice_get us k ≡ Some x → is_linked x ≡ true → LinkFits x
  links k x h linked = go (slice_get-push os y k x h)
    where
      go : (slice_get os k ≡ Some x) ⊎ ((k ≡ length os) × (y ≡ x)) → LinkFits x
      go (inl e) = good.links k x e linked
      go (inr e) = subst LinkFits e.1 (refl, refl)

  -- the frames

  none_but_other : {f : Frame} {gs : List Frame} (p : ℕ) → IsOn f gs (frames_of w.frames p) → (wed b a f).context ≡ nil → (f.context ≡ nil) × (f.birth ≢ b)
  none_but_other {f = f} p on e = elim (cases_eq f.birth b) [
    | inl h ↦ absurd (some (ap (λ (g : Frame). g.context) (sym (wed_is p on h)) ∙ e))
    | inr ne ↦ (ap (λ (g : Frame). g.context) (sym (wed_not f ne)) ∙ e, ne)
  ]

  alone_still : (i : ℕ) → i ≢ b → get (objects_of os) i ≡ None → get (objects_of us) i ≡ None
  alone_still i ne h =
      ap (λ m. get m i) (objects_of-push os y fresh (λ k x e. obj_of-push os y x (good.whole.heap.each k x e)))
      ∙ get_apart (objects_of os) b i (obj_of (ref_of us) y) ne ∙ h

  wed_on : {f : Frame} {gs fs : List Frame} → IsOn f gs fs → IsOn (wed b a f) (wed_page b a gs) (wed_page b a fs)
  wed_on here = here
  wed_on (above d ds on) = above (wed b a d) (wed_page b a ds) (wed_on on)

  -- what fits the frame in the heap and above the others
  fits_wed : {f : Frame} {gs : List Frame} (p : ℕ) → IsOn f gs (frames_of w.frames p) → FrameFits us next (wed b a f) (wed_page b a gs)
  fits_wed {f = f} {gs = gs} p on =
      let fits : FrameFits os next f gs = fits_on os next on (good.frames p) in
      let method = wed_keeps (λ g. g.method) b a f refl in
      let saved = wed_keeps (λ g. g.saved_pc) b a f refl in
      let stack = wed_keeps (λ g. g.stack) b a f refl in
      let place = wed_keeps (λ g. g.at) b a f refl in
      let birth = wed_keeps (λ g. g.birth) b a f refl in
      record {
        names = record {
          closure = ap (is_nil_or closure_class us) (wed_keeps (λ g. g.closure) b a f refl) ∙ nil_or-push closure_class os y f.closure fits.names.closure;
          receiver = ap (is_reference us) (wed_keeps (λ g. g.receiver) b a f refl) ∙ refers f.receiver fits.names.receiver;
          stack = subst (AllPass (is_reference us)) (sym stack) (λ k d l. refers _ (fits.names.stack k d l));
        };
        lies = ap₂ (λ m v. lies_if_index (meaning_at us m) (natural_of_word v)) method saved ∙ index_pushed os y f.method (natural_of_word f.saved_pc) good.whole.heap fits.lies;
        fits = omega (arith, fits.fits, ap length stack, (wed_same p on).0);
        stands = place ∙ fits.stands ∙ sym (used_wed b a gs);
        room = omega (arith, fits.room, place);
        birth = omega (arith, fits.birth, birth);
        apart = subst (λ n. Lacks n (wed_page b a gs)) (sym birth) (lacks_alike f.birth gs (wed_page b a gs) (sym (births_wed b a gs)) fits.apart);
        sender = sender_still gs fits;
        alone = λ e. let o = none_but_other p on e in ap (get (objects_of us)) birth ∙ alone_still f.birth o.1 (fits.alone o.0);
      }
    where
      sender_still : (hs : List Frame) → FrameFits os next f hs → HasSender us (wed b a f) (wed_page b a hs)
      sender_still [] fits = ap (is_nil_or context_class us) (wed_keeps (λ g. g.caller) b a f refl) ∙ nil_or-push context_class os y f.caller fits.sender
      sender_still (h ∷ hs) fits = tt

  frames_fit : (p : ℕ) (fs : List Frame) → ((f : Frame) (gs : List Frame) → IsOn f gs fs → IsOn f gs (frames_of w.frames p)) → FramesFit us next (wed_page b a fs)
  frames_fit p [] within = tt
  frames_fit p (f ∷ fs) within = (fits_wed p (within f fs here), frames_fit p fs (λ g gs on. within g gs (above f fs on)))

  top_kept : (p : ℕ) → (top (frames_of w.frames p)).context ≢ nil → (top (frames_of qs p)).context ≡ (top (frames_of w.frames p)).context
  top_kept p ne = ap (λ fs. (top fs).context) (page_is p) ∙ go (frames_of w.frames p) ne (λ f gs on. on)
    where
      go : (fs : List Frame) → (top fs).context ≢ nil → ((f : Frame) (gs : List Frame) → IsOn f gs fs → IsOn f gs (frames_of w.frames p)) → (top (wed_page b a fs)).context ≡ (top fs).context
      go [] nn within = refl
      go (f ∷ fs) nn within = elim (cases_eq f.birth b) [
        | inl e ↦ absurd (nn (ap (λ (g : Frame). g.context) (is_r p (within f fs here) e) ∙ none))
        | inr other ↦ ap (λ (g : Frame). g.context) (wed_not f other)
      ]

  chain_still : (rs : List ℕ) → IsChain w.frames rs → IsChain qs rs
  chain_still [] c = tt
  chain_still (p ∷ []) c = tt
  chain_still (p ∷ q ∷ rs) c =
      let kept = top_kept q c.1 in
      (ap (λ fs. (base_of fs).caller) (page_is p) ∙ base_wed b a (frames_of w.frames p) ∙ c.0 ∙ sym kept, λ e. c.1 (sym kept ∙ e), chain_still (q ∷ rs) c.2)

  pub good_wedded : IsGood wedded
  good_wedded = record {
    whole = whole;
    within = omega (arith, used-pushed os y, ap size long, room);
    most = good.most;
    births = good.births;
    pcs = pcs;
    senders = senders;
    links = links;
    agree = agrees;
    frames = λ p. subst (FramesFit us next) (sym (page_is p)) (frames_fit p (frames_of w.frames p) (λ f gs on. on));
    apart = λ p q ne. apart_alike (frames_of w.frames p) (frames_of qs p) (frames_of w.frames q) (frames_of qs q) (sym (page_births p)) (sym (page_births q)) (good.apart p q ne);
    total = good.total ∙ sym (length-on_page w.frames r.page (on_nth (index_in w.frames r) (with_context a)));
    order = good.order;
    used_pages = λ p. subst (λ n. Contains w.pages.recent p ↔ (0 < n)) (sym (length_alike (frames_of qs p) (frames_of w.frames p) (page_births p))) (good.used_pages p);
    chain = chain_still w.pages.recent good.chain;
  }

-- ---- the call

-- a look at the frame at r: it is the context o, and the world says the same of everything
pub record Looks (w v : Parts) (r : FrameRef) (o : Oop) : Type 0 where
  pub good : IsGood v
  pub view : view_of v ≡ view_of w
  pub layout : layout_of v ≡ layout_of w
  pub acts : (c : Act) → act_of v c ≡ act_of w c
  pub contexts : contexts_in v.heap.objects ≤ contexts_in w.heap.objects + 1
  pub names : KeepsNames (stored_of w) (stored_of v)
  pub value : Names (stored_of v) o (ref.Obj (frame w.frames r).birth)

-- the frame gets one, where there is room
looks_new : (w : Parts) → IsGood w → (r : FrameRef) → IsFrame w.frames r → (o : Oop) → (frame w.frames r).context ≡ nil
    → used w.heap.objects + size (6 + new_size w.heap.objects (frame w.frames r)) ≤ w.heap.limit
    → o.0 ≡ next_address w.heap.objects (6 + new_size w.heap.objects (frame w.frames r))
    → Looks w (record w { heap = record w.heap { objects = w.heap.objects ++ new_spouse r (new_size w.heap.objects (frame w.frames r)) (frame w.frames r) ∷ [] }; frames = on_frame w.frames r (with_context o.0) }) r o
looks_new w good r is o none room at = record {
  good = good_wedded w good r is none o.0 at room;
  view = view_wedded w good r is none o.0 at room;
  layout = layout_wedded w good r is none o.0 at room;
  acts = acts_wedded w good r is none o.0 at room;
  contexts = contexts_wedded w good r is none o.0 at room;
  names = names_wedded w good r is none o.0 at room;
  value = value_wedded w good r is none o.0 at room o refl;
}

-- or has one
looks_old : (w : Parts) → IsGood w → (r : FrameRef) → IsFrame w.frames r → (o : Oop) → (frame w.frames r).context ≢ nil → o.0 ≡ (frame w.frames r).context → Looks w w r o
looks_old w good r is o some e =
    let m = (good.agree.frames r is).married some in
    let there : is_object w.heap.objects (frame w.frames r).context ≡ true = spouse_there w.heap.objects (frame w.frames r).context m.context in
    record {
      good = good;
      view = refl;
      layout = refl;
      acts = λ c. refl;
      contexts = omega arith;
      names = λ v h. record { sound = h; is = refl };
      value = record {
        sound = ap (is_reference w.heap.objects) e ∙ is_reference-object w.heap.objects (frame w.frames r).context there;
        is = ap (ref_of w.heap.objects) e ∙ ref_of-object w.heap.objects (frame w.frames r).context there ∙ ap (λ n. ref.Obj n) m.birth;
      };
    }

pub looks : (w : Parts) → IsGood w → (r : FrameRef) → IsFrame w.frames r → (o : Oop) (heap : Memory) (frames : List (List Frame))
    → ((frame w.frames r).context ≡ nil → used w.heap.objects + size (6 + new_size w.heap.objects (frame w.frames r)) ≤ w.heap.limit)
    → o.0 ≡ spouse_address w.heap.objects (frame w.frames r)
    → heap ≡ record w.heap { objects = married_objects w.heap.objects r (frame w.frames r) }
    → frames ≡ on_frame w.frames r (with_context o.0)
    → Looks w (record w { heap = heap; frames = frames }) r o
looks w good r is o heap frames room address heap_is frames_are = elim (cases_eq (frame w.frames r).context nil) [
  | inl none ↦
      let yes = eq-eqb (frame w.frames r).context nil none in
      let objects : married_objects w.heap.objects r (frame w.frames r) ≡ w.heap.objects ++ new_spouse r (new_size w.heap.objects (frame w.frames r)) (frame w.frames r) ∷ [] =
      ap (λ c. if c then w.heap.objects ++ new_spouse r (new_size w.heap.objects (frame w.frames r)) (frame w.frames r) ∷ [] else w.heap.objects) yes in
      let at = address ∙ ap (λ c. if c then next_address w.heap.objects (6 + new_size w.heap.objects (frame w.frames r)) else (frame w.frames r).context) yes in
      subst (λ (v : Parts). Looks w v r o)
      (sym (ap₂ (λ (h : Memory) (fs : List (List Frame)). record w { heap = h; frames = fs }) (heap_is ∙ ap (λ os. record w.heap { objects = os }) objects) frames_are))
      (looks_new w good r is o none (room none) at)
  | inr some ↦
      let no = ne_eqb (frame w.frames r).context nil some in
      let objects : married_objects w.heap.objects r (frame w.frames r) ≡ w.heap.objects =
      ap (λ c. if c then w.heap.objects ++ new_spouse r (new_size w.heap.objects (frame w.frames r)) (frame w.frames r) ∷ [] else w.heap.objects) no in
      let at : o.0 ≡ (frame w.frames r).context = address ∙ ap (λ c. if c then next_address w.heap.objects (6 + new_size w.heap.objects (frame w.frames r)) else (frame w.frames r).context) no in
      subst (λ (v : Parts). Looks w v r o)
      (sym (ap₂ (λ (h : Memory) (fs : List (List Frame)). record w { heap = h; frames = fs }) (heap_is ∙ ap (λ os. record w.heap { objects = os }) objects) (frames_are ∙ context_again w.frames r o.0 at)))
      (looks_old w good r is o some at)
]

-- there was no room for it
size_small : (header : ℕ) → size (6 + context_size header) ≤ 64
size_small header = go (header / 2 ^ 17 % 2 == 1)
  where
    go : (b : Bool) → size (6 + (if b then 56 else 16)) ≤ 64
    go true = omega arith
    go false = omega arith

pub no_room : (w : Parts) → IsGood w → (r : FrameRef) → IsFrame w.frames r → (frame w.frames r).context ≡ nil
    → w.heap.limit < used w.heap.objects + size (6 + new_size w.heap.objects (frame w.frames r)) → IsFullHeap (stored_of w) (layout_of w) 0 (view_of w)
no_room w good r is none full =
    let a = frame_at w r good is in
    let on : IsOn (frame w.frames r) a.begins_at.gs (frames_of w.frames r.page) = subst (λ g. IsOn g a.begins_at.gs (frames_of w.frames r.page)) (sym a.is) a.begins_at.on in
    record {
      words = omega (arith, full, words_frame w good r.page on none, ap (λ n. size (6 + n)) (size_none w.heap.objects (frame w.frames r) none));
      room = omega (arith, full, size_small (header_at w.heap.objects (frame w.frames r).method), good.total, page-IsFrame w.frames r is);
    }
