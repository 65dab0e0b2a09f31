-- Values that are pushed onto the last frame of a page, or popped off it, one by one.
use Rattle.std.proofs.Common.{◌≡◌, ◌≢◌, ℕ, ◌+◌, ◌-◌, ◌<◌, ◌≤◌, refl, ap, ◌∙◌, arith, List, [], ◌∷◌, ◌++◌, length, length-append, length-take, length-drop, take, drop, get_or}
use Rattle.std.proofs.lemmas.List.{append-nil, append_assoc, get_or-drop, take-take, take_all, take_more}
use Rattle.cs_frame.specs.declared.FrameRef.{FrameRef}
use Rattle.cs_frame.specs.Frame.{Frame, top_popped, value_pushed, with_values}
use Rattle.cs_frame.specs.Page.{IsTop, frames_of, on_page, on_top, top, frames_used}
use Rattle.cs_frame.proofs.PageLaws.{IsTop-on_top, frames_of-on_page, frames_of-on_page_other, on_page-on_page, on_page-same}

-- ---- pushed

-- the page, with these values more on the stack of its last frame
abbrev pub longer_page : List ℕ → List Frame → List Frame
longer_page ys fs = on_top (with_values ((top fs).stack ++ ys)) fs

abbrev pub longer : List (List Frame) → ℕ → List ℕ → List (List Frame)
longer ps p ys = on_page ps p (on_top (with_values ((top (frames_of ps p)).stack ++ ys)))

page_none : (fs : List Frame) → longer_page [] fs ≡ fs
page_none [] = refl
page_none (f ∷ fs) = ap (λ (xs : List ℕ). with_values xs f ∷ fs) (append-nil f.stack)

page_more : (ys : List ℕ) (v : ℕ) (fs : List Frame) → on_top (value_pushed v) (longer_page ys fs) ≡ longer_page (ys ++ v ∷ []) fs
page_more ys v [] = refl
page_more ys v (f ∷ fs) = ap (λ (xs : List ℕ). with_values xs f ∷ fs) (append_assoc f.stack ys (v ∷ []))

page_room : (ys : List ℕ) (fs : List Frame) → frames_used (longer_page ys fs) ≤ frames_used fs + length ys
page_room ys [] = omega arith
page_room ys (f ∷ fs) = omega (arith, length-append f.stack ys)

pub longer_none : (ps : List (List Frame)) (p : ℕ) → longer ps p [] ≡ ps
longer_none ps p = on_page-same ps p (longer_page []) (page_none (frames_of ps p))

pub longer_more : (ps : List (List Frame)) (p : ℕ) (ys : List ℕ) (v : ℕ) → p < length ps → on_page (longer ps p ys) p (on_top (value_pushed v)) ≡ longer ps p (ys ++ v ∷ [])
longer_more ps p ys v lt = on_page-on_page ps p (longer_page ys) (on_top (value_pushed v)) lt ∙ ap (λ (fs : List Frame). on_page ps p (λ _. fs)) (page_more ys v (frames_of ps p))

pub longer_room : (ps : List (List Frame)) (p : ℕ) (ys : List ℕ) → p < length ps → frames_used (frames_of (longer ps p ys) p) ≤ frames_used (frames_of ps p) + length ys
longer_room ps p ys lt = omega (arith, ap frames_used (frames_of-on_page ps p (longer_page ys) lt), page_room ys (frames_of ps p))

pub longer_other : (ps : List (List Frame)) (p q : ℕ) (ys : List ℕ) → q ≢ p → frames_of (longer ps p ys) q ≡ frames_of ps q
longer_other ps p q ys apart = frames_of-on_page_other ps p q (longer_page ys) apart

pub longer_top : (ps : List (List Frame)) (r : FrameRef) (ys : List ℕ) → IsTop ps r → IsTop (longer ps r.page ys) r
longer_top ps r ys is = IsTop-on_top ps r (with_values ((top (frames_of ps r.page)).stack ++ ys)) (λ f. refl) is

-- the last values of a stack, one more
pub last_more : (xs : List ℕ) (n i : ℕ) → n ≤ length xs → i < n
    → take (i + 1) (drop (length xs - n) xs) ≡ take i (drop (length xs - n) xs) ++ get_or xs (length xs - n + i) 0 ∷ []
last_more xs n i le lt =
    take_more (drop (length xs - n) xs) i 0 (omega (arith, length-drop (length xs - n) xs, le, lt))
    ∙ ap (λ v. take i (drop (length xs - n) xs) ++ v ∷ []) (get_or-drop (length xs - n) xs i 0)

pub last_all : (xs : List ℕ) (n : ℕ) → n ≤ length xs → take n (drop (length xs - n) xs) ≡ drop (length xs - n) xs
last_all xs n le = take_all n (drop (length xs - n) xs) (omega (arith, length-drop (length xs - n) xs, le))

-- ---- popped

abbrev pub shorter_page : ℕ → List Frame → List Frame
shorter_page n fs = on_top (with_values (take (length (top fs).stack - n) (top fs).stack)) fs

abbrev pub shorter : List (List Frame) → ℕ → ℕ → List (List Frame)
shorter ps p n = on_page ps p (on_top (with_values (take (length (top (frames_of ps p)).stack - n) (top (frames_of ps p)).stack)))

page_whole : (fs : List Frame) → shorter_page 0 fs ≡ fs
page_whole [] = refl
page_whole (f ∷ fs) = ap (λ (xs : List ℕ). with_values xs f ∷ fs) (take_all (length f.stack - 0) f.stack (omega arith))

one_less : (xs : List ℕ) (n : ℕ) → take (length (take (length xs - n) xs) - 1) (take (length xs - n) xs) ≡ take (length xs - (n + 1)) xs
one_less xs n =
    let long : length (take (length xs - n) xs) - 1 ≡ length xs - (n + 1) = omega (arith, length-take (length xs - n) xs) in
    ap (λ m. take m (take (length xs - n) xs)) long ∙ take-take (length xs - (n + 1)) (length xs - n) xs (omega arith)

page_less : (n : ℕ) (fs : List Frame) → on_top top_popped (shorter_page n fs) ≡ shorter_page (n + 1) fs
page_less n [] = refl
page_less n (f ∷ fs) = ap (λ (xs : List ℕ). with_values xs f ∷ fs) (one_less f.stack n)

page_depth : (n : ℕ) (fs : List Frame) → 0 < length fs → length (top (shorter_page n fs)).stack ≡ length (top fs).stack - n
page_depth n [] some = absurd (omega (arith, some))
page_depth n (f ∷ fs) some = omega (arith, length-take (length f.stack - n) f.stack)

pub shorter_none : (ps : List (List Frame)) (p : ℕ) → shorter ps p 0 ≡ ps
shorter_none ps p = on_page-same ps p (shorter_page 0) (page_whole (frames_of ps p))

pub shorter_more : (ps : List (List Frame)) (p n : ℕ) → p < length ps → on_page (shorter ps p n) p (on_top top_popped) ≡ shorter ps p (n + 1)
shorter_more ps p n lt = on_page-on_page ps p (shorter_page n) (on_top top_popped) lt ∙ ap (λ (fs : List Frame). on_page ps p (λ _. fs)) (page_less n (frames_of ps p))

pub shorter_depth : (ps : List (List Frame)) (p n : ℕ) → p < length ps → 0 < length (frames_of ps p)
    → length (top (frames_of (shorter ps p n) p)).stack ≡ length (top (frames_of ps p)).stack - n
shorter_depth ps p n lt some = ap (λ (fs : List Frame). length (top fs).stack) (frames_of-on_page ps p (shorter_page n) lt) ∙ page_depth n (frames_of ps p) some

pub shorter_top : (ps : List (List Frame)) (r : FrameRef) (n : ℕ) → IsTop ps r → IsTop (shorter ps r.page n) r
shorter_top ps r n is = IsTop-on_top ps r (with_values (take (length (top (frames_of ps r.page)).stack - n) (top (frames_of ps r.page)).stack)) (λ f. refl) is
