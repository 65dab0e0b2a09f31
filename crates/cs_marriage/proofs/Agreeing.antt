-- Heap and frames go on agreeing.
use Rattle.std.proofs.Common.{◌≡◌, ◌≢◌, ◌⊎◌, inl, inr, ℕ, zero, suc, ◌+◌, ◌-◌, Bool, true, false, List, [], ◌∷◌, length, refl, ap, sym, subst, ◌∙◌, arith}
use Rattle.std.specs.Prelude.{◌==◌, ◌/◌, ◌%◌, ◌^◌, if◌then◌else◌, slice_index}
use Rattle.std.proofs.lemmas.Bool.{cases_eq, eq-eqb, ne_eqb}
use Rattle.std.proofs.lemmas.List.{length-replicate}
use Rattle.cs_heap.specs.Object.{Object, is_object, next_address, heap_object, slot_count_of, slot_of}
use Rattle.cs_heap.proofs.Laws.{field_of-new, field_of-old, is_object-old, no_object-next, object_at-old, object_placed, pushed}
use Rattle.cs_model.specs.Obj.{context_size}
use Rattle.cs_frame.specs.declared.FrameRef.{FrameRef}
use Rattle.cs_frame.specs.Frame.{Frame, nil, with_context}
use Rattle.cs_frame.specs.Page.{IsFrame, frame, frames_of, index_in, nth, on_frame, on_nth}
use Rattle.cs_frame.proofs.PageLaws.{IsFrame-on_frame, KeepsPlace, frame-on_frame, frame-on_frame_other, frames_of-on_page, frames_of-on_page_other, index_in-on_frame, length-on_nth, length-on_page, on_page-same, page-IsFrame}
use Rattle.cs_marriage.specs.Agree.{Agree, AreMarried, FrameAgrees, HasContext, IsContextAt, frame_size, header_at}
use Rattle.cs_marriage.specs.Marriage.{new_size, new_spouse}
use Rattle.cs_marriage.proofs.Objects.{LikeContext, LikeMethod, context_like, context_same, context_there, header_same, method_like, method_same, method_there}
use Rattle.cs_marriage.proofs.Places.{link_once}

-- ---- what a frame says of the heap stands while other objects change

-- all objects but that at an address are read as before
abbrev pub Stays : List Object → List Object → ℕ → Type 0
Stays os ws a = (b : ℕ) → is_object os b ≡ true → b ≢ a → heap_object ws b ≡ heap_object os b

pub size_none : (os : List Object) (f : Frame) → f.context ≡ nil → frame_size os f ≡ context_size (header_at os f.method)
size_none os f e = ap (λ b. if b then context_size (header_at os f.method) else slot_count_of os f.context - 6) (eq-eqb f.context nil e)

pub size_some : (os : List Object) (f : Frame) → f.context ≢ nil → frame_size os f ≡ slot_count_of os f.context - 6
size_some os f ne = ap (λ b. if b then context_size (header_at os f.method) else slot_count_of os f.context - 6) (ne_eqb f.context nil ne)

-- what a frame says of the heap stands where its method and its context are read the same
module _ (os ws : List Object) (r : FrameRef) (f : Frame) (method : LikeMethod os ws f.method) (context : f.context ≢ nil → LikeContext os ws f.context) where
  married_like : (ne : f.context ≢ nil) → AreMarried os r f → AreMarried ws r f
  married_like ne m =
      let like = context ne in
      record {
        context = context_same os ws f.context like m.context;
        birth = like.birth ∙ m.birth;
        place = like.place ∙ m.place;
        method = like.method ∙ m.method;
        closure = like.closure ∙ m.closure;
        receiver = like.receiver ∙ m.receiver;
      }

  size_like : frame_size ws f ≡ frame_size os f
  size_like = elim (cases_eq f.context nil) [
    | inl e ↦ size_none ws f e ∙ ap context_size (header_same os ws f.method method) ∙ sym (size_none os f e)
    | inr ne ↦ size_some ws f ne ∙ ap (λ n. n - 6) (context ne).count ∙ sym (size_some os f ne)
  ]

  pub fits_like : FrameAgrees os r f → FrameAgrees ws r f
  fits_like fits = record {
    within = fits.within;
    method = method_same os ws f.method method fits.method;
    stack = omega (arith, fits.stack, size_like);
    married = λ ne. married_like ne (fits.married ne);
  }

pub fits_stays : (os ws : List Object) (a : ℕ) → Stays os ws a → (r : FrameRef) (f : Frame) → f.method ≢ a → f.context ≢ a → FrameAgrees os r f → FrameAgrees ws r f
fits_stays os ws a stays r f other apart fits =
    fits_like os ws r f (method_like os ws f.method (stays f.method (method_there os f.method fits.method) other))
    (λ ne. context_like os ws f.context (stays f.context (context_there os f.context (fits.married ne).context) apart)) fits

-- ---- frames

pub same_ref : (q r : FrameRef) → (q ≡ r) ⊎ (q ≢ r)
same_ref q r = elim (cases_eq q.page r.page) [
  | inl e ↦ elim (cases_eq q.at r.at) [
    | inl u ↦ inl (ap (λ (n : ℕ). record { page = n; at = q.at }) e ∙ ap (λ (n : ℕ). record { page = r.page; at = n }) u)
    | inr ne ↦ inr (λ h. ne (ap (λ (s : FrameRef). s.at) h))
  ]
  | inr ne ↦ inr (λ h. ne (ap (λ (s : FrameRef). s.page) h))
]

-- two frames of one context are one frame
pub one_frame : (os : List Object) (ps : List (List Frame)) (a : ℕ) (r q : FrameRef) → Agree os ps → a ≢ nil → HasContext ps a r → HasContext ps a q → r ≡ q
one_frame os ps a r q agree ne h k =
    let x = agree.frames r h.0 in let y = agree.frames q k.0 in
    let m = x.married (λ e. ne (sym h.1 ∙ e)) in let n = y.married (λ e. ne (sym k.1 ∙ e)) in
    link_once r q x.within y.within (sym m.place ∙ (ap (λ b. slot_of os b 0) (h.1 ∙ sym k.1) ∙ n.place))

-- what changes a frame in its place takes no frame away, and brings none
length-on_frame : (ps : List (List Frame)) (r q : FrameRef) (g : Frame → Frame) → IsFrame ps r → length (frames_of (on_frame ps r g) q.page) ≡ length (frames_of ps q.page)
length-on_frame ps r q g is = elim (cases_eq q.page r.page) [
  | inl e ↦ ap (λ (p : ℕ). length (frames_of (on_frame ps r g) p)) e
      ∙ (ap length (frames_of-on_page ps r.page (on_nth (index_in ps r) g) (page-IsFrame ps r is))
      ∙ (length-on_nth (index_in ps r) g (frames_of ps r.page) ∙ ap (λ (p : ℕ). length (frames_of ps p)) (sym e)))
  | inr ne ↦ ap length (frames_of-on_page_other ps r.page q.page (on_nth (index_in ps r) g) ne)
]

pub frame_back : (ps : List (List Frame)) (r q : FrameRef) (g : Frame → Frame) → KeepsPlace g → IsFrame ps r → IsFrame (on_frame ps r g) q → IsFrame ps q
frame_back ps r q g keeps is iq = omega (arith, iq, index_in-on_frame ps r q g keeps is, length-on_frame ps r q g is)

on_nth-same : (k : ℕ) (g : Frame → Frame) (fs : List Frame) → g (nth fs k) ≡ nth fs k → on_nth k g fs ≡ fs
on_nth-same k g [] e = refl
on_nth-same zero g (f ∷ fs) e = ap (λ (h : Frame). h ∷ fs) e
on_nth-same (suc k) g (f ∷ fs) e = ap (λ (gs : List Frame). f ∷ gs) (on_nth-same k g fs e)

-- a frame that is given the context that it has
pub context_again : (ps : List (List Frame)) (r : FrameRef) (a : ℕ) → a ≡ (frame ps r).context → on_frame ps r (with_context a) ≡ ps
context_again ps r a e = on_page-same ps r.page (on_nth (index_in ps r) (with_context a)) (on_nth-same (index_in ps r) (with_context a) (frames_of ps r.page) (ap (λ n. with_context n (frame ps r)) e))

-- ---- marrying

module _ (os : List Object) (ps : List (List Frame)) (r : FrameRef) (a : ℕ) (agree : Agree os ps) (is : IsFrame ps r) (none : (frame ps r).context ≡ nil)
    (at : a ≡ next_address os (6 + new_size os (frame ps r))) where
  abbrev pub the_frame : Frame
  the_frame = frame ps r

  abbrev pub the_spouse : Object
  the_spouse = new_spouse r (new_size os the_frame) the_frame

  long : length the_spouse.words ≡ 6 + new_size os the_frame
  long = omega (arith, length-replicate (new_size os the_frame) nil)

  at_spouse : a ≡ next_address os (length the_spouse.words)
  at_spouse = at ∙ ap (next_address os) (sym long)

  not_there : is_object os a ≡ false
  not_there = ap (is_object os) at ∙ no_object-next os (6 + new_size os the_frame)

  apart : (b : ℕ) → is_object os b ≡ true → b ≢ a
  apart b there e = let no : is_object os a ≡ true = ap (is_object os) (sym e) ∙ there in let never = not_there in absurd (cc)

  stays : Stays os (pushed os the_spouse) a
  stays b there ne = object_at-old os the_spouse b there

  some : a ≢ nil
  some e = apart nil agree.nil_there (sym e)

  count_new : slot_count_of (pushed os the_spouse) a ≡ 6 + new_size os the_frame
  count_new = field_of-new (λ x. length x.words) os the_spouse a at_spouse ∙ long

  two_sizes : (b : Bool) (n : ℕ) → n ≡ 6 + (if b then 56 else 16) → (n ≡ 22) ⊎ (n ≡ 62)
  two_sizes true n e = inr e
  two_sizes false n e = inl e

  pub context_new : IsContextAt (pushed os the_spouse) a
  context_new = record {
    class = field_of-new (λ x. x.class) os the_spouse a at_spouse;
    format = field_of-new (λ x. x.format) os the_spouse a at_spouse;
    slots = two_sizes (header_at os the_frame.method / 2 ^ 17 % 2 == 1) (slot_count_of (pushed os the_spouse) a) count_new;
  }

  slot_new : (i : ℕ) → slot_of (pushed os the_spouse) a i ≡ slice_index the_spouse.words i
  slot_new i = field_of-new (λ x. slice_index x.words i) os the_spouse a at_spouse

  -- it is an address
  pub new_aligned : a % 8 ≡ 0
  new_aligned = (object_placed (pushed os the_spouse) a (context_there (pushed os the_spouse) a context_new)).aligned

  fits_new : FrameAgrees (pushed os the_spouse) r (with_context a the_frame)
  fits_new =
      let old = agree.frames r is in
      record {
        within = old.within;
        method = method_same os (pushed os the_spouse) the_frame.method (method_like os (pushed os the_spouse) the_frame.method (stays the_frame.method (method_there os the_frame.method old.method) (apart the_frame.method (method_there os the_frame.method old.method)))) old.method;
        stack = omega (arith, old.stack, size_none os the_frame none, size_some (pushed os the_spouse) (with_context a the_frame) some, count_new);
        married = λ ne. record {
          context = context_new;
          birth = field_of-new (λ x. x.birth) os the_spouse a at_spouse;
          place = slot_new 0;
          method = slot_new 3;
          closure = slot_new 4;
          receiver = slot_new 5;
        };
      }

  pub has_spouse : HasContext (on_frame ps r (with_context a)) a r
  has_spouse = (IsFrame-on_frame ps r r (with_context a) (λ f. refl) is is, ap (λ (f : Frame). f.context) (frame-on_frame ps r (with_context a) (λ f. refl) is))

  context_apart : (q : FrameRef) → IsFrame ps q → (frame ps q).context ≢ a
  context_apart q iq = elim (cases_eq (frame ps q).context nil) [
    | inl e ↦ λ f. some (sym f ∙ e)
    | inr ne ↦ apart (frame ps q).context (context_there os (frame ps q).context ((agree.frames q iq).married ne).context)
  ]

  pub agree_married : Agree (pushed os the_spouse) (on_frame ps r (with_context a))
  agree_married = record {
    few = omega (arith, agree.few, length-on_page ps r.page (on_nth (index_in ps r) (with_context a)));
    nil_there = is_object-old os the_spouse nil agree.nil_there;
    nil_class = λ e. agree.nil_class (sym (field_of-old (λ x. x.class) os the_spouse nil agree.nil_there) ∙ e);
    frames = λ q iq. fits q iq (same_ref q r);
  }
    where
      keeps : KeepsPlace (with_context a)
      keeps f = refl

      fits : (q : FrameRef) → IsFrame (on_frame ps r (with_context a)) q → (q ≡ r) ⊎ (q ≢ r) → FrameAgrees (pushed os the_spouse) q (frame (on_frame ps r (with_context a)) q)
      fits q iq (inl e) =
          subst (λ s. FrameAgrees (pushed os the_spouse) s (frame (on_frame ps r (with_context a)) s)) (sym e)
          (subst (FrameAgrees (pushed os the_spouse) r) (sym (frame-on_frame ps r (with_context a) keeps is)) fits_new)
      fits q iq (inr ne) =
          let old = frame_back ps r q (with_context a) keeps is iq in
          let at_q = agree.frames q old in
          subst (FrameAgrees (pushed os the_spouse) q) (sym (frame-on_frame_other ps r q (with_context a) keeps is old ne))
          (fits_stays os (pushed os the_spouse) a stays q (frame ps q) (apart (frame ps q).method (method_there os (frame ps q).method at_q.method)) (context_apart q old) at_q)
