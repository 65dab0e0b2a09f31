-- The walk down a page in search of a context.
use Rattle.std.proofs.Common.{◌≡◌, ◌≢◌, ◌↔◌, inl, inr, ℕ, zero, suc, ◌-◌, ◌<◌, ◌≤◌, true, false, List, [], ◌∷◌, length, Option, Some, None, IfSome, IsNone, refl, ap, sym, subst, ◌∙◌, arith}
use Rattle.std.proofs.lemmas.Bool.{cases_eq}
use Rattle.cs_heap.specs.Object.{Object, class_at, slot_of}
use Rattle.cs_frame.specs.declared.FrameRef.{FrameRef}
use Rattle.cs_frame.specs.Frame.{Frame, nil}
use Rattle.cs_frame.specs.Page.{IsBase, IsFrame, AreStacked, IsTop, caller_of, frame, frames_of, index_in, nth, frame_ref, top}
use Rattle.cs_frame.proofs.PageLaws.{IsTop-is_frame, index_of-nth}
use Rattle.cs_marriage.specs.Agree.{Agree, HasContext, HasNoFrame, IsContextAt, IsSpouse}
use Rattle.cs_marriage.specs.Marriage.{PageLacks}
use Rattle.cs_marriage.specs.Place.{link_word, names_place, page_named}
use Rattle.cs_marriage.specs.declared.state.Spouse.TheVariants as spouse
use Rattle.cs_marriage.proofs.Agreeing.{one_frame}
use Rattle.cs_marriage.proofs.Places.{link_names, link_page}

-- the frames above this one have another context
pub record IsAt (ps : List (List Frame)) (p a : ℕ) (r : FrameRef) : Type 0 where
  pub page : r.page ≡ p
  pub is : IsFrame ps r
  pub above : (k : ℕ) → k < index_in ps r → (nth (frames_of ps p) k).context ≢ a

abbrev pub Walked : List (List Frame) → ℕ → ℕ → Option FrameRef → Type 0
Walked ps p a None = PageLacks ps p a
Walked ps p a (Some r) = IsAt ps p a r

-- how many frames are still to be looked at
abbrev pub left : List (List Frame) → Option FrameRef → ℕ
left ps None = 0
left ps (Some r) = length (frames_of ps r.page) - index_in ps r

pub no_page : (ps : List (List Frame)) (p a : ℕ) → length ps ≤ p → PageLacks ps p a
no_page ps p a past k lt = absurd (omega (arith, lt, ap length (none ps p past)))
  where
    none : (qs : List (List Frame)) (n : ℕ) → length qs ≤ n → frames_of qs n ≡ []
    none [] n le = refl
    none (q ∷ qs) zero le = absurd (omega (arith, le))
    none (q ∷ qs) (suc n) le = none qs n (omega (arith, le))

pub walk_begins : (ps : List (List Frame)) (p a : ℕ) (o : Option FrameRef) → (IsNone o ↔ (frames_of ps p ≡ [])) → IfSome o (λ r. r ≡ frame_ref p (top (frames_of ps p)))
    → IfSome o (IsTop ps) → Walked ps p a o
walk_begins ps p a None none is last = λ k lt. absurd (omega (arith, lt, ap length (none.0 refl)))
walk_begins ps p a (Some r) none is last =
    let t = IsTop-is_frame ps r last in
    record { page = ap (λ (q : FrameRef). q.page) is; is = t.1; above = λ k lt. absurd (omega (arith, lt, t.0)) }

module _ (ps : List (List Frame)) (p a : ℕ) (r : FrameRef) (stacked : AreStacked (frames_of ps p)) (at : IsAt ps p a r) (other : (frame ps r).context ≢ a) where
  -- this one has another, too
  with_this : (k : ℕ) → k < suc (index_in ps r) → (nth (frames_of ps p) k).context ≢ a
  with_this k lt = elim (cases_eq k (index_in ps r)) [
    | inl e ↦ λ f. other (ap (λ (q : ℕ). (nth (frames_of ps q) (index_in ps r)).context) at.page ∙ (ap (λ (n : ℕ). (nth (frames_of ps p) n).context) (sym e) ∙ f))
    | inr ne ↦ at.above k (omega (arith, lt, ne))
  ]

  next_index : (g : FrameRef) → g ≡ frame_ref r.page (caller_of ps r) → suc (index_in ps r) < length (frames_of ps r.page) → index_in ps g ≡ suc (index_in ps r)
  next_index g e lt =
      ap (index_in ps) e
      ∙ index_of-nth (frames_of ps r.page) (suc (index_in ps r)) (subst (λ (q : ℕ). AreStacked (frames_of ps q)) (sym at.page) stacked) lt

  more : (IsBase ps r → ⊥) → suc (index_in ps r) < length (frames_of ps r.page)
  more above = omega (arith, at.is, above)

  pub walk_goes : (o : Option FrameRef) → (IsNone o ↔ IsBase ps r) → IfSome o (λ g. g ≡ frame_ref r.page (caller_of ps r)) → Walked ps p a o × (left ps o < left ps (Some r))
  walk_goes None base is =
      let e : suc (index_in ps r) ≡ length (frames_of ps r.page) = base.0 refl in
      ((λ k lt. with_this k (omega (arith, lt, e, ap (λ (q : ℕ). length (frames_of ps q)) at.page))), omega (arith, e))
  walk_goes (Some g) base is =
      let lt = more (λ b. let never : IsNone (Some g) = base.1 b in cc) in
      let i = next_index g is lt in
      let page : g.page ≡ r.page = ap (λ (q : FrameRef). q.page) is in
      let long = ap (λ (q : ℕ). length (frames_of ps q)) page in (
        record {
          page = page ∙ at.page;
          is = omega (arith, i, lt, long);
          above = λ k less. with_this k (omega (arith, less, i));
        },
        omega (arith, i, lt, long),
      )

-- ---- what was found is exact

module _ (os : List Object) (ps : List (List Frame)) (a : ℕ) (agree : Agree os ps) (is : IsContextAt os a) where
  not_nil : a ≢ nil
  not_nil e = agree.nil_class (ap (class_at os) (sym e) ∙ is.class)

  -- a frame of this context stands where the context says
  placed : (r : FrameRef) → HasContext ps a r → slot_of os a 0 ≡ link_word r
  placed r h = ap (λ b. slot_of os b 0) (sym h.1) ∙ ((agree.frames r h.0).married (λ e. not_nil (sym h.1 ∙ e))).place

  named : (r : FrameRef) → HasContext ps a r → names_place (slot_of os a 0) ≡ true
  named r h = ap names_place (placed r h) ∙ link_names r

  pub found_single : names_place (slot_of os a 0) ≡ false → IsSpouse os ps a spouse.Single
  found_single unnamed = record {
    single = ((λ e. unnamed), (λ e. refl));
    married = λ r. ((λ e. absurd (cc)), (λ h. absurd (let has = named r h in cc)));
    widowed = ((λ e. absurd (cc)), (λ w. absurd (let has = w.named in cc)));
  }

  pub found_married : (r : FrameRef) → HasContext ps a r → IsSpouse os ps a (spouse.Married r)
  found_married r h = let has = named r h in record {
    single = ((λ e. absurd (cc)), (λ e. absurd (cc)));
    married = λ q. ((λ (e : spouse.Married r ≡ spouse.Married q). let same : r ≡ q = cc in subst (HasContext ps a) same h), (λ k. ap spouse.Married (one_frame os ps a r q agree not_nil h k)));
    widowed = ((λ e. absurd (cc)), (λ w. absurd (w.alone r h.0 h.1)));
  }

  pub found_widowed : names_place (slot_of os a 0) ≡ true → PageLacks ps (page_named (slot_of os a 0)) a → IsSpouse os ps a spouse.Widowed
  found_widowed has lacks = record {
    single = ((λ e. absurd (cc)), (λ e. absurd (cc)));
    married = λ r. ((λ e. absurd (cc)), (λ h. absurd (alone r h.0 h.1)));
    widowed = ((λ e. record { named = has; alone = alone }), (λ w. refl));
  }
    where
      alone : HasNoFrame ps a
      alone r i e =
          let h : HasContext ps a r = (i, e) in
          let p : page_named (slot_of os a 0) ≡ r.page = ap page_named (placed r h) ∙ link_page r (agree.frames r i).within in
          subst (λ q. PageLacks ps q a) p lacks (index_in ps r) i e
