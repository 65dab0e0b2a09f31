-- Pages that are alike: their frames have the same births, the same base frames' senders and the same contexts of their last frames.
use Rattle.std.proofs.Common.{◌≡◌, ℕ, ◌<◌, refl, sym, ap, ap₂, subst, ◌∙◌, List, [], ◌∷◌, length, inl, inr, suc}
use Rattle.std.proofs.lemmas.Bool.{cases_eq}
use Rattle.cs_frame.specs.Frame.{Frame}
use Rattle.cs_frame.specs.Page.{frames_of, on_page, top}
use Rattle.cs_frame.proofs.PageLaws.{frames_of-on_page, frames_of-on_page_other}
use Rattle.cs_stack.specs.View.{active_in, births_of, first_frames, laid_pages}
use Rattle.cs_stack.specs.Good.{AreApart, IsChain, Lacks, base_of}

pub record AlikePages (fs gs : List Frame) : Type 0 where
  pub births : births_of fs ≡ births_of gs
  pub caller : (base_of fs).caller ≡ (base_of gs).caller
  pub context : (top fs).context ≡ (top gs).context

abbrev pub Alike : List (List Frame) → List (List Frame) → Type 0
Alike ps qs = (p : ℕ) → AlikePages (frames_of ps p) (frames_of qs p)

pub same_pages : (fs gs : List Frame) → fs ≡ gs → AlikePages fs gs
same_pages fs gs e = record { births = ap births_of e; caller = ap (λ (es : List Frame). (base_of es).caller) e; context = ap (λ (es : List Frame). (top es).context) e }

pub alike_back : {fs gs : List Frame} → AlikePages fs gs → AlikePages gs fs
alike_back h = record { births = sym h.births; caller = sym h.caller; context = sym h.context }

-- another last frame, with the same birth, sender and context
pub alike_top : (e f : Frame) (fs : List Frame) → e.birth ≡ f.birth → e.context ≡ f.context → e.caller ≡ f.caller → AlikePages (e ∷ fs) (f ∷ fs)
alike_top e f fs birth context caller = record { births = ap (λ (b : ℕ). b ∷ births_of fs) birth; caller = base fs; context = context }
  where
    base : (gs : List Frame) → (base_of (e ∷ gs)).caller ≡ (base_of (f ∷ gs)).caller
    base [] = caller
    base (g ∷ gs) = refl

pub alike_on_page : (ps : List (List Frame)) (p : ℕ) (fs : List Frame) → p < length ps → AlikePages fs (frames_of ps p) → Alike (on_page ps p (λ _. fs)) ps
alike_on_page ps p fs within alike q = elim (cases_eq q p) [
  | inl e ↦ subst (λ n. AlikePages (frames_of (on_page ps p (λ _. fs)) n) (frames_of ps n)) (sym e)
      (subst (λ es. AlikePages es (frames_of ps p)) (sym (frames_of-on_page ps p (λ _. fs) within)) alike)
  | inr other ↦ same_pages (frames_of (on_page ps p (λ _. fs)) q) (frames_of ps q) (frames_of-on_page_other ps p q (λ _. fs) other)
]

-- ---- what depends on births alone

pub lacks_alike : (i : ℕ) (fs gs : List Frame) → births_of fs ≡ births_of gs → Lacks i fs → Lacks i gs
lacks_alike i [] [] e l = tt
lacks_alike i [] (g ∷ gs) e l = absurd (cc)
lacks_alike i (f ∷ fs) [] e l = absurd (cc)
lacks_alike i (f ∷ fs) (g ∷ gs) e l = (λ same. l.0 (same ∙ sym (cc)), lacks_alike i fs gs (cc) l.1)

pub apart_alike : (fs gs hs ks : List Frame) → births_of fs ≡ births_of gs → births_of hs ≡ births_of ks → AreApart fs hs → AreApart gs ks
apart_alike [] [] hs ks e d a = tt
apart_alike [] (g ∷ gs) hs ks e d a = absurd (cc)
apart_alike (f ∷ fs) [] hs ks e d a = absurd (cc)
apart_alike (f ∷ fs) (g ∷ gs) hs ks e d a = (subst (λ i. Lacks i ks) (cc) (lacks_alike f.birth hs ks d a.0), apart_alike fs gs hs ks (cc) d a.1)

pub length_alike : (fs gs : List Frame) → births_of fs ≡ births_of gs → length fs ≡ length gs
length_alike [] [] e = refl
length_alike [] (g ∷ gs) e = absurd (cc)
length_alike (f ∷ fs) [] e = absurd (cc)
length_alike (f ∷ fs) (g ∷ gs) e = ap suc (length_alike fs gs (cc))

pub active_alike : (fs gs : List Frame) → births_of fs ≡ births_of gs → active_in fs ≡ active_in gs
active_alike [] [] e = refl
active_alike [] (g ∷ gs) e = absurd (cc)
active_alike (f ∷ fs) [] e = absurd (cc)
active_alike (f ∷ fs) (g ∷ gs) e = cc

pub first_alike : (ps qs : List (List Frame)) → Alike ps qs → (rs : List ℕ) → active_in (first_frames ps rs) ≡ active_in (first_frames qs rs)
first_alike ps qs h [] = refl
first_alike ps qs h (r ∷ rs) = active_alike (frames_of ps r) (frames_of qs r) (h r).births

pub laid_alike : (ps qs : List (List Frame)) → Alike ps qs → (rs : List ℕ) → laid_pages ps rs ≡ laid_pages qs rs
laid_alike ps qs h [] = refl
laid_alike ps qs h (r ∷ rs) = ap₂ (λ (b : List ℕ) (bs : List (List ℕ)). b ∷ bs) (h r).births (laid_alike ps qs h rs)

-- ---- the chain

pub chain_alike : (ps qs : List (List Frame)) → Alike ps qs → (rs : List ℕ) → IsChain ps rs → IsChain qs rs
chain_alike ps qs h [] c = tt
chain_alike ps qs h (p ∷ []) c = tt
chain_alike ps qs h (p ∷ q ∷ rs) c = (
  sym (h p).caller ∙ c.0 ∙ (h q).context,
  λ e. c.1 ((h q).context ∙ e),
  chain_alike ps qs h (q ∷ rs) c.2,
)
