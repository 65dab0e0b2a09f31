-- What stands at a birth where the frames of all pages hide what the heap has.
use Rattle.std.proofs.Common.{◌≡◌, ◌≢◌, ℕ, zero, suc, ◌<◌, refl, sym, ap, subst, ◌∙◌, Some, IsSome, List, [], ◌∷◌, length, inl, inr, arith}
use Rattle.std.specs.FinMap.{get, insert}
use Rattle.std.proofs.lemmas.Bool.Decides.{eqb_tells}
use Rattle.cs_heap.specs.Object.{Object}
use Rattle.cs_frame.specs.Frame.{Frame}
use Rattle.cs_frame.specs.Page.{frames_of, on_page}
use Rattle.cs_model.specs.Obj.{Ctx, Obj}
use Rattle.cs_stack.specs.declared.parts.Parts.{Parts}
use Rattle.cs_stack.specs.View.{frame_context, frames_onto, pages_onto}
use Rattle.cs_stack.specs.Good.{AreApart, FrameFits, FramesFit, IsGood, Lacks}
use Rattle.cs_stack.proofs.Maps.{Objects, get_apart, get_here, get_some, insert_swap}

-- f is one of these frames, and stands above gs
pub data IsOn (f : Frame) (gs : List Frame) : List Frame → Type 0 where
  here : IsOn f gs (f ∷ gs)
  above : (e : Frame) (es : List Frame) → IsOn f gs es → IsOn f gs (e ∷ es)

pub lacks_on : {f : Frame} {gs fs : List Frame} (i : ℕ) → IsOn f gs fs → Lacks i fs → i ≢ f.birth
lacks_on i here l = l.0
lacks_on i (above e es on) l = lacks_on i on l.1

pub fits_on : {f : Frame} {gs fs : List Frame} (os : List Object) (next : ℕ) → IsOn f gs fs → FramesFit os next fs → FrameFits os next f gs
fits_on os next here h = h.0
fits_on os next (above e es on) h = fits_on os next on h.1

-- the frame below a frame
pub below_on : {f g : Frame} {gs fs : List Frame} → IsOn f (g ∷ gs) fs → IsOn g gs fs
below_on {f = f} {gs = gs} here = above f _ here
below_on (above e es on) = above e es (below_on on)

pub no_frame : {f : Frame} {gs fs : List Frame} → IsOn f gs fs → fs ≡ [] → ⊥
no_frame here e = absurd (cc)
no_frame (above d ds on) e = absurd (cc)

-- a frame of a page that is apart from another one
pub apart_on : {f : Frame} {gs fs : List Frame} (hs : List Frame) → IsOn f gs fs → AreApart fs hs → Lacks f.birth hs
apart_on hs here h = h.0
apart_on hs (above e es on) h = apart_on hs on h.1

-- the frames of all pages fit, and no two have the same birth
pub record AllFit (os : List Object) (next : ℕ) (ps : List (List Frame)) : Type 0 where
  pub frames : (p : ℕ) → FramesFit os next (frames_of ps p)
  pub apart : (p q : ℕ) → p ≢ q → AreApart (frames_of ps p) (frames_of ps q)

abbrev pub all_fit : (w : Parts) → IsGood w → AllFit w.heap.objects w.roots.next_birth w.frames
all_fit w good = record { frames = good.frames; apart = good.apart }

-- the frame with this birth, on the page on which it stands, or none
pub data Which (i : ℕ) (ps : List (List Frame)) : Type 0 where
  Framed : (p : ℕ) (f : Frame) (gs : List Frame) → IsOn f gs (frames_of ps p) → i ≡ f.birth → Which i ps
  Bare : ((p : ℕ) → Lacks i (frames_of ps p)) → Which i ps

next_page : (m n : ℕ) → m ≢ n → suc m ≢ suc n
next_page m n other e = other (omega (arith, e))

rest_fit : (os : List Object) (next : ℕ) (fs : List Frame) (ps : List (List Frame)) → AllFit os next (fs ∷ ps) → AllFit os next ps
rest_fit os next fs ps fit = record { frames = λ p. fit.frames (suc p); apart = λ p q other. fit.apart (suc p) (suc q) (next_page p q other) }

-- ---- one page

pub data OnPage (i : ℕ) (fs : List Frame) : Type 0 where
  On : (f : Frame) (gs : List Frame) → IsOn f gs fs → i ≡ f.birth → OnPage i fs
  Off : Lacks i fs → OnPage i fs

pub which_on : (i : ℕ) (fs : List Frame) → OnPage i fs
which_on i [] = Off tt
which_on i (f ∷ fs) = elim (eqb_tells i f.birth) [
  | inl e ↦ On f fs here e.1
  | inr e ↦ up (which_on i fs) e.1
]
  where
    up : OnPage i fs → i ≢ f.birth → OnPage i (f ∷ fs)
    up (On g gs on is) apart = On g gs (above f fs on) is
    up (Off l) apart = Off (apart, l)

pub page_bare : (os : List Object) (fs : List Frame) (m : Objects) (i : ℕ) → Lacks i fs → get (frames_onto os fs m) i ≡ get m i
unfolding frames_onto
page_bare os [] m i l = refl
page_bare os (f ∷ fs) m i l = get_apart (frames_onto os fs m) f.birth i _ l.0 ∙ page_bare os fs m i l.1

pub page_frame : {f : Frame} {gs fs : List Frame} (os : List Object) (next : ℕ) (m : Objects) → IsOn f gs fs → FramesFit os next fs
    → get (frames_onto os fs m) f.birth ≡ Some (Ctx (frame_context os f gs))
unfolding frames_onto
page_frame {f = f} {gs = gs} os next m here h = get_here (frames_onto os gs m) f.birth _
page_frame {f = f} os next m (above e es on) h =
    get_apart (frames_onto os es m) e.birth f.birth _ (λ s. lacks_on e.birth on h.0.apart (sym s)) ∙ page_frame os next m on h.1

pub page_some : (os : List Object) (fs : List Frame) (m : Objects) (i : ℕ) → IsSome (get m i) → IsSome (get (frames_onto os fs m) i)
unfolding frames_onto
page_some os [] m i h = h
page_some os (f ∷ fs) m i h = get_some (frames_onto os fs m) f.birth i _ (page_some os fs m i h)

one_on_page : {f g : Frame} {gs hs fs : List Frame} (os : List Object) (next : ℕ) → FramesFit os next fs → IsOn f gs fs → IsOn g hs fs → f.birth ≡ g.birth
    → (f ≡ g) × (gs ≡ hs)
one_on_page os next fit here here same = (refl, refl)
one_on_page {f = f} os next fit here (above e es an) same = absurd (lacks_on f.birth an fit.0.apart same)
one_on_page {g = g} os next fit (above e es on) here same = absurd (lacks_on g.birth on fit.0.apart (sym same))
one_on_page os next fit (above e es on) (above d ds an) same = one_on_page os next fit.1 on an same

-- what has another birth than the frames of a page can be laid below them
pub insert_below : (os : List Object) (fs : List Frame) (m : Objects) (i : ℕ) (o : Obj) → Lacks i fs → insert (frames_onto os fs m) i o ≡ frames_onto os fs (insert m i o)
unfolding frames_onto
insert_below os [] m i o l = refl
insert_below os (f ∷ fs) m i o l =
    insert_swap (frames_onto os fs m) f.birth i (Ctx (frame_context os f fs)) o (λ e. l.0 (sym e))
    ∙ ap (λ (n : Objects). insert n f.birth (Ctx (frame_context os f fs))) (insert_below os fs m i o l.1)

-- two pages that are apart can be laid in any order
pub pages_swap : (os : List Object) (fs gs : List Frame) (m : Objects) → AreApart fs gs → frames_onto os fs (frames_onto os gs m) ≡ frames_onto os gs (frames_onto os fs m)
unfolding frames_onto
pages_swap os [] gs m apart = refl
pages_swap os (f ∷ fs) gs m apart =
    ap (λ (n : Objects). insert n f.birth (Ctx (frame_context os f fs))) (pages_swap os fs gs m apart.1)
    ∙ insert_below os gs (frames_onto os fs m) f.birth (Ctx (frame_context os f fs)) apart.0

-- ---- all pages

pub which : (i : ℕ) (ps : List (List Frame)) → Which i ps
which i [] = Bare (λ p. tt)
which i (q ∷ qs) = go (which_on i q) (which i qs)
  where
    go : OnPage i q → Which i qs → Which i (q ∷ qs)
    go (On f gs on is) rest = Framed 0 f gs on is
    go (Off l) (Framed p f gs on is) = Framed (suc p) f gs on is
    go (Off l) (Bare ls) = Bare none
      where
        none : (p : ℕ) → Lacks i (frames_of (q ∷ qs) p)
        none zero = l
        none (suc p) = ls p

-- two frames of the same birth are one
pub one_birth : {f g : Frame} {gs hs : List Frame} (os : List Object) (next : ℕ) (ps : List (List Frame)) (p q : ℕ) → AllFit os next ps
    → IsOn f gs (frames_of ps p) → IsOn g hs (frames_of ps q) → f.birth ≡ g.birth → (p ≡ q) × (f ≡ g) × (gs ≡ hs)
one_birth {f = f} {g = g} {gs = gs} {hs = hs} os next ps p q fit on an same = elim (eqb_tells p q) [
  | inl e ↦ let is = one_on_page os next (fit.frames p) on (subst (λ n. IsOn g hs (frames_of ps n)) (sym e.1) an) same in (e.1, is.0, is.1)
  | inr e ↦ absurd (lacks_on f.birth an (apart_on (frames_of ps q) on (fit.apart p q e.1)) same)
]

-- ---- the map

pub onto_bare : (os : List Object) (ps : List (List Frame)) (m : Objects) (i : ℕ) → ((p : ℕ) → Lacks i (frames_of ps p)) → get (pages_onto os ps m) i ≡ get m i
unfolding pages_onto
onto_bare os [] m i l = refl
onto_bare os (q ∷ qs) m i l = page_bare os q (pages_onto os qs m) i (l 0) ∙ onto_bare os qs m i (λ p. l (suc p))

pub onto_frame : {f : Frame} {gs : List Frame} (os : List Object) (next : ℕ) (ps : List (List Frame)) (m : Objects) (p : ℕ) → AllFit os next ps → IsOn f gs (frames_of ps p)
    → get (pages_onto os ps m) f.birth ≡ Some (Ctx (frame_context os f gs))
unfolding pages_onto
onto_frame os next [] m p fit on = absurd (no_frame on refl)
onto_frame os next (q ∷ qs) m zero fit on = page_frame os next (pages_onto os qs m) on (fit.frames 0)
onto_frame {f = f} os next (q ∷ qs) m (suc p) fit on =
    page_bare os q (pages_onto os qs m) f.birth (apart_on q on (fit.apart (suc p) 0 (λ e. omega (arith, e))))
    ∙ onto_frame os next qs m p (rest_fit os next q qs fit) on

pub onto_some : (os : List Object) (ps : List (List Frame)) (m : Objects) (i : ℕ) → IsSome (get m i) → IsSome (get (pages_onto os ps m) i)
unfolding pages_onto
onto_some os [] m i h = h
onto_some os (q ∷ qs) m i h = page_some os q (pages_onto os qs m) i (onto_some os qs m i h)

-- any page can be laid on last
pub front : (os : List Object) (next : ℕ) (ps : List (List Frame)) (m : Objects) (p : ℕ) → AllFit os next ps → p < length ps
    → pages_onto os ps m ≡ frames_onto os (frames_of ps p) (pages_onto os (on_page ps p (λ _. [])) m)
unfolding pages_onto frames_onto
front os next [] m p fit within = absurd (omega (arith, within))
front os next (q ∷ qs) m zero fit within = refl
front os next (q ∷ qs) m (suc p) fit within =
    ap (frames_onto os q) (front os next qs m p (rest_fit os next q qs fit) (omega (arith, within)))
    ∙ pages_swap os q (frames_of qs p) (pages_onto os (on_page qs p (λ _. [])) m) (fit.apart 0 (suc p) (λ e. omega (arith, e)))
