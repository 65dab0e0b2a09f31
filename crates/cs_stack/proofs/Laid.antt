-- The layout of a good world keeps its rules.
use Rattle.std.proofs.Common.{◌≡◌, ◌≢◌, ℕ, zero, suc, ◌+◌, ◌<◌, ◌≤◌, Bool, true, false, eqb, refl, sym, ap, ap₂, subst, ◌∙◌, Option, Some, None, is_some, List, [], ◌∷◌, ◌++◌, length, option_and_then, arith, inl, inr}
use Rattle.std.specs.Prelude.{◌||◌, ◌==◌, Contains}
use Rattle.std.specs.List.{AllByRecursion, IsDistinct, concat}
use Rattle.std.specs.FinMap.{get}
use Rattle.std.proofs.lemmas.Bool.Decides.{eqb_tells}
use Rattle.std.proofs.lemmas.List.{length-map}
use Rattle.std.proofs.lemmas.Map.Keys.{IsDistinct-head, IsDistinct-tail}
use Rattle.std.proofs.lemmas.Bool.{or_from, or_left, or_right}
use Rattle.cs_classes.specs.Meaning.{objects_of, ref_of}
use Rattle.cs_frame.specs.Frame.{Frame}
use Rattle.cs_frame.specs.Page.{frames_of, frames_used}
use Rattle.cs_pages.proofs.Lists.{lacks_not, length-le_total}
use Rattle.cs_model.specs.Ref as ref
use Rattle.cs_model.specs.Obj.{Context, Ctx, Obj, context_in, is_context_at}
use Rattle.cs_model.specs.State.{object_at}
use Rattle.cs_model.specs.Return.{context_birth, sender_birth}
use Rattle.cs_acts.specs.Layout.{IsApart, IsCalled, IsFresh, IsLaidOut, IsPage, depth_if, first_page, is_frame, is_on, last_frame, page_words}
use Rattle.cs_stack.specs.declared.parts.Parts.{Parts}
use Rattle.cs_stack.specs.View.{active_in, active_page, bare, births_of, first_frames, frame_context, laid_pages, layout_of, stored_of, view_of}
use Rattle.cs_stack.specs.Good.{FramesFit, IsGood, Lacks}
use Rattle.cs_stack.proofs.Bare.{bare_none}
use Rattle.cs_stack.proofs.Framed.{Bare, Framed, IsOn, Which, above, all_fit, apart_on, here, no_frame, onto_bare, onto_frame, which}
use Rattle.cs_stack.proofs.Places.{page_few}

-- ---- lists of births

pub off_births : (i : ℕ) (es : List Frame) → Lacks i es → is_on i (births_of es) ≡ false
off_births i [] l = refl
off_births i (e ∷ es) l = elim (eqb_tells i e.birth) [
  | inl h ↦ absurd (l.0 h.1)
  | inr h ↦ or_from (i == e.birth) (is_on i (births_of es)) h.0 (off_births i es l.1)
]

same_birth : (i j : ℕ) → i ≡ j → (i == j) ≡ true
same_birth i j e = elim (eqb_tells i j) [ inl h ↦ h.0 | inr h ↦ absurd (h.1 e) ]

pub on_births : {f : Frame} {gs es : List Frame} (i : ℕ) → IsOn f gs es → i ≡ f.birth → is_on i (births_of es) ≡ true
on_births {f = f} {gs = gs} i here e = or_left (i == f.birth) (is_on i (births_of gs)) (same_birth i f.birth e)
on_births i (above d ds on) e = or_right (i == d.birth) (is_on i (births_of ds)) (on_births i on e)

off_both : (i : ℕ) (xs ys : List ℕ) → is_on i xs ≡ false → is_on i ys ≡ false → is_on i (xs ++ ys) ≡ false
off_both i [] ys h k = k
off_both i (x ∷ xs) ys h k = go (i == x) refl (λ l. off_both i xs ys l k)
  where
    go : (b : Bool) → (i == x) ≡ b → (is_on i xs ≡ false → is_on i (xs ++ ys) ≡ false) → ((i == x) || is_on i (xs ++ ys)) ≡ false
    go true e rest = absurd (let no = or_left (i == x) (is_on i xs) e in cc)
    go false e rest = or_from (i == x) (is_on i (xs ++ ys)) e (rest (sym (ap (λ b. b || is_on i xs) e) ∙ h))

-- a frame is on a page of the layout
pub on_laid : {f : Frame} {gs : List Frame} (ps : List (List Frame)) (rs : List ℕ) (i p : ℕ) → Contains rs p → IsOn f gs (frames_of ps p) → i ≡ f.birth → is_frame i (laid_pages ps rs) ≡ true
on_laid ps [] i p (k, within, is) on e = absurd (omega (arith, within))
on_laid {f = f} {gs = gs} ps (r ∷ rs) i p (zero, within, is) on e =
    or_left (is_on i (births_of (frames_of ps r))) (is_frame i (laid_pages ps rs)) (on_births i (subst (λ n. IsOn f gs (frames_of ps n)) (sym is) on) e)
on_laid ps (r ∷ rs) i p (suc k, within, is) on e =
    or_right (is_on i (births_of (frames_of ps r))) (is_frame i (laid_pages ps rs)) (on_laid ps rs i p (k, omega (arith, within), is) on e)

length_laid : (ps : List (List Frame)) (rs : List ℕ) → length (laid_pages ps rs) ≡ length rs
length_laid ps [] = refl
length_laid ps (r ∷ rs) = ap suc (length_laid ps rs)

off_laid : (ps : List (List Frame)) (rs : List ℕ) (i : ℕ) → ((p : ℕ) → Contains rs p → Lacks i (frames_of ps p)) → is_on i (concat (laid_pages ps rs)) ≡ false
off_laid ps [] i off = refl
off_laid ps (r ∷ rs) i off =
    off_both i (births_of (frames_of ps r)) (concat (laid_pages ps rs)) (off_births i (frames_of ps r) (off r (0, omega arith, refl)))
    (off_laid ps rs i (λ p (k, within, is). off p (suc k, omega (arith, within), is)))

module _ (w : Parts) (good : IsGood w) where
  found : (f : Frame) (gs : List Frame) (p : ℕ) → IsOn f gs (frames_of w.frames p) → object_at (view_of w) f.birth ≡ Some (Ctx (frame_context w.heap.objects f gs))
  found f gs p on = onto_frame w.heap.objects w.roots.next_birth w.frames (objects_of (bare w.heap.objects)) p (all_fit w good) on

  -- the frames of a part of a page that begins with its base
  abbrev Within : ℕ → List Frame → Type 0
  Within p es = (g : Frame) (gs : List Frame) → IsOn g gs es → IsOn g gs (frames_of w.frames p)

  below : (p : ℕ) (e : Frame) (es : List Frame) → Within p (e ∷ es) → Within p es
  below p e es within = λ g gs on. within g gs (above e es on)

  contexts : (p : ℕ) (es : List Frame) → Within p es → AllByRecursion (λ i. is_context_at (object_at (view_of w) i) ≡ true) (births_of es)
  contexts p [] within = tt
  contexts p (e ∷ es) within = (ap is_context_at (found e es p (within e es here)), contexts p es (below p e es within))

  words : (p : ℕ) (es : List Frame) → Within p es → page_words (view_of w) (births_of es) ≡ frames_used es
  unfolding page_words frame_context
  words p [] within = refl
  words p (e ∷ es) within =
      let depth : depth_if (context_in (object_at (view_of w) e.birth)) ≡ length e.stack =
      ap (λ o. depth_if (context_in o)) (found e es p (within e es here)) ∙ length-map e.stack (ref_of w.heap.objects) in
      ap₂ (λ m n. m + (10 + n)) (words p es (below p e es within)) depth

  -- a page has as many words in the state as it uses
  pub words_used : (p : ℕ) → page_words (view_of w) (births_of (frames_of w.frames p)) ≡ frames_used (frames_of w.frames p)
  words_used p = words p (frames_of w.frames p) (λ g gs on. on)

  called : (p : ℕ) (es : List Frame) → Within p es → IsCalled (view_of w) (births_of es)
  unfolding frame_context
  called p [] within = tt
  called p (e ∷ []) within = tt
  called p (e ∷ g ∷ gs) within =
      let sender : sender_birth (view_of w) e.birth ≡ context_birth (view_of w) (ref.Obj g.birth) =
      ap (λ o. option_and_then (λ c. context_birth (view_of w) c.sender) (context_in o)) (found e (g ∷ gs) p (within e (g ∷ gs) here)) in
      let there = found g gs p (within g gs (above e (g ∷ gs) here)) in
      (sender ∙ ap (λ o. option_and_then (λ c. Some g.birth) (context_in o)) there, called p (g ∷ gs) (below p e (g ∷ gs) within))

  few_words : (p : ℕ) (es : List Frame) → Within p es → frames_used es ≤ 4096
  few_words p [] within = omega arith
  few_words p (e ∷ es) within = page_few w good p (within e es here)

  is_page : (p : ℕ) → 0 < length (frames_of w.frames p) → IsPage (view_of w) (births_of (frames_of w.frames p))
  is_page p some = record {
    some = omega (arith, some, length-map (frames_of w.frames p) (λ f. f.birth));
    contexts = contexts p (frames_of w.frames p) (λ g gs on. on);
    words = omega (arith, words_used p, few_words p (frames_of w.frames p) (λ g gs on. on));
    called = called p (frames_of w.frames p) (λ g gs on. on);
  }

  -- these are some of the used pages
  abbrev Used : List ℕ → Type 0
  Used rs = (p : ℕ) → Contains rs p → Contains w.pages.recent p

  behind : (r : ℕ) (rs : List ℕ) → Used (r ∷ rs) → Used rs
  behind r rs used p (k, within, is) = used p (suc k, omega (arith, within), is)

  pages : (rs : List ℕ) → Used rs → AllByRecursion (IsPage (view_of w)) (laid_pages w.frames rs)
  pages [] used = tt
  pages (r ∷ rs) used = (is_page r ((good.used_pages r).0 (used r (0, omega arith, refl))), pages rs (behind r rs used))

  -- the births of a part of a page, and of other pages
  apart_page : (p : ℕ) (es : List Frame) (ys : List ℕ) → Within p es → FramesFit w.heap.objects w.roots.next_birth es → IsApart ys
      → ((f : Frame) (gs : List Frame) → IsOn f gs es → is_on f.birth ys ≡ false) → IsApart (births_of es ++ ys)
  apart_page p [] ys within fit rest off = rest
  apart_page p (e ∷ es) ys within fit rest off = (
    off_both e.birth (births_of es) ys (off_births e.birth es fit.0.apart) (off e es here),
    apart_page p es ys (below p e es within) fit.1 rest (λ f gs on. off f gs (above e es on)),
  )

  apart : (rs : List ℕ) → IsDistinct eqb rs → IsApart (concat (laid_pages w.frames rs))
  apart [] distinct = tt
  apart (r ∷ rs) distinct =
      apart_page r (frames_of w.frames r) (concat (laid_pages w.frames rs)) (λ g gs on. on) (good.frames r) (apart rs (IsDistinct-tail eqb r rs distinct))
      (λ f gs on. off_laid w.frames rs f.birth (λ p used. apart_on (frames_of w.frames p) on (good.apart r p (other p used))))
    where
      other : (p : ℕ) → Contains rs p → r ≢ p
      other p used e = lacks_not r rs (IsDistinct-head eqb r rs distinct) (subst (λ n. Contains rs n) (sym e) used)

  active : (rs : List ℕ) (i : ℕ) → active_in (first_frames w.frames rs) ≡ Some i → last_frame (first_page (laid_pages w.frames rs)) ≡ Some i
  active [] i e = e
  active (r ∷ rs) i e = go (frames_of w.frames r) e
    where
      go : (fs : List Frame) → active_in fs ≡ Some i → last_frame (births_of fs) ≡ Some i
      go [] h = h
      go (f ∷ fs) h = h

  -- a page on which a frame stands is used
  pub used_page : {f : Frame} {gs : List Frame} (p : ℕ) → IsOn f gs (frames_of w.frames p) → Contains w.pages.recent p
  used_page p on = (good.used_pages p).1 (some (frames_of w.frames p) on)
    where
      some : {f : Frame} {gs : List Frame} (fs : List Frame) → IsOn f gs fs → 0 < length fs
      some [] on = absurd (no_frame on refl)
      some (e ∷ es) here = omega arith
      some (e ∷ es) (above d ds on) = omega arith

  whole : (i : ℕ) (c : Context) → object_at (view_of w) i ≡ Some (Ctx c) → Which i w.frames → (is_some (get (objects_of w.heap.objects) i) || is_frame i (laid_pages w.frames w.pages.recent)) ≡ true
  whole i c h (Framed p f gs on is) =
      or_right (is_some (get (objects_of w.heap.objects) i)) (is_frame i (laid_pages w.frames w.pages.recent)) (on_laid w.frames w.pages.recent i p (used_page p on) on is)
  whole i c h (Bare l) = or_left (is_some (get (objects_of w.heap.objects) i)) (is_frame i (laid_pages w.frames w.pages.recent)) (there (get (objects_of w.heap.objects) i) refl)
    where
      found_bare : get (objects_of (bare w.heap.objects)) i ≡ Some (Ctx c)
      found_bare = sym (onto_bare w.heap.objects w.frames (objects_of (bare w.heap.objects)) i l) ∙ h

      there : (o : Option Obj) → get (objects_of w.heap.objects) i ≡ o → is_some o ≡ true
      there None e = absurd (let none = sym (bare_none w.heap.objects i good.whole.heap e) ∙ found_bare in cc)
      there (Some o) e = refl

pub good_laid : (w : Parts) → IsGood w → IsLaidOut (stored_of w) (view_of w) (layout_of w)
good_laid w good = record {
  few = omega (arith, length_laid w.frames w.pages.recent, length-le_total w.pages.total w.pages.recent good.order.distinct good.order.in_range);
  pages = pages w good w.pages.recent (λ p used. used);
  apart = apart w good w.pages.recent good.order.distinct;
  active = active w good w.pages.recent;
  whole = λ i c h. whole w good i c h (which i w.frames);
}

-- where one page has one frame at most, no context but the active one has a frame
pub fresh_one : (w : Parts) → length (active_page w) ≤ 1 → length w.pages.recent ≤ 1 → IsFresh (view_of w) (layout_of w)
fresh_one w few alone = go w.pages.recent few alone
  where
    one : (fs : List Frame) → length fs ≤ 1 → (birth : ℕ) → is_on birth (births_of fs) ≡ true → active_in fs ≡ Some birth
    one [] few birth h = absurd (cc)
    one (f ∷ []) few birth h = elim (eqb_tells birth f.birth) [
      | inl e ↦ ap (λ n. Some n) (sym e.1)
      | inr e ↦ absurd (let no = or_from (birth == f.birth) false e.0 refl in cc)
    ]
    one (f ∷ g ∷ gs) few birth h = absurd (omega (arith, few))

    left : (b : Bool) → (b || false) ≡ true → b ≡ true
    left true h = refl
    left false h = h

    go : (rs : List ℕ) → length (first_frames w.frames rs) ≤ 1 → length rs ≤ 1 → (birth : ℕ) → is_frame birth (laid_pages w.frames rs) ≡ true → active_in (first_frames w.frames rs) ≡ Some birth
    go [] few alone birth h = absurd (cc)
    go (r ∷ []) few alone birth h = one (frames_of w.frames r) few birth (left (is_on birth (births_of (frames_of w.frames r))) h)
    go (r ∷ s ∷ rs) few alone birth h = absurd (omega (arith, alone))
