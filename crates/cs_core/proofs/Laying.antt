-- Where the frames of a world come from, and what the frames of a page count.
use Rattle.std.proofs.Common.{◌≡◌, ◌⊎◌, inl, inr, ℕ, zero, suc, ◌+◌, ◌≤◌, Bool, true, false, refl, sym, ap, subst, ◌∙◌, arith, Option, Some, None, List, [], ◌∷◌, ◌++◌, nat_le, ◌*◌, ◌<◌, IfSome}
use Rattle.std.specs.Prelude.{◌==◌, ◌||◌, if◌then◌else◌, not}
use Rattle.std.specs.List.{filter}
use Rattle.std.proofs.lemmas.Bool.Decides.{nat_tests}
use Rattle.std.proofs.lemmas.List.Folds.{list_any-append}
use Rattle.cs_model.specs.Obj.{Obj, context_in}
use Rattle.cs_model.specs.State.{Kept, Rest, object_at}
use Rattle.cs_model.specs.Keeps.{Keeps}
use Rattle.cs_model.specs.End as ends
use Rattle.cs_model.specs.End.{End, Out}
use Rattle.cs_acts.specs.Full.{CausesFull}
use Rattle.cs_acts.specs.declared.act.Full.{Full as Why}
use Rattle.cs_acts.specs.declared.act.Full.TheVariants.{Heap, Stack}
use Rattle.cs_acts.specs.Layout.{IsApart, LaidBy, Layout, depth_if, entered, first_page, frame_words, is_frame, is_on, left, page_words, touched}
use Rattle.cs_acts.specs.Names.{Store}
use Rattle.cs_heap.specs.Object.{used}
use Rattle.cs_model.specs.Demand.{words_taken, words_below, words_held}
use Rattle.cs_send.specs.Sent.{RefusesSend}
use Rattle.cs_core.specs.Stepped.{CausesNoRoom, OverWithout, FramesFrom, IsOver, Needs, whole, Overfills, Turn}

-- ---- frames

pub either : (a b : Bool) → (a || b) ≡ true → (a ≡ true) ⊎ (b ≡ true)
either true b h = inl refl
either false b h = inr h

pub left_true : (a b : Bool) → a ≡ true → (a || b) ≡ true
left_true a b h = ap (λ c. c || b) h

pub right_true : (a b : Bool) → b ≡ true → (a || b) ≡ true
right_true true b h = refl
right_true false b h = h

-- a frame of pages with one more frame in front, or with one page more, is that frame or one of the others
abbrev pub FromPages : List (List ℕ) → List (List ℕ) → ℕ → Type 0
FromPages old new active = (i : ℕ) → is_frame i new ≡ true → (is_frame i old ≡ true) ⊎ (i ≡ active)

pub is_same : (i j : ℕ) → (i == j) ≡ true → i ≡ j
is_same i j h = grind (arith, nat_tests, h)

only : (i j : ℕ) → is_on i (j ∷ []) ≡ true → i ≡ j
only i j h = go (i == j) refl h
  where
    go : (b : Bool) → (i == j) ≡ b → (b || false) ≡ true → i ≡ j
    go true e h = is_same i j e
    go false e h = absurd (cc)

alone : (active : ℕ) (pages : List (List ℕ)) → FromPages pages ((active ∷ []) ∷ pages) active
alone active pages i h = elim (either (is_on i (active ∷ [])) (is_frame i pages) h) [ inl e ↦ inr (only i active e) | inr e ↦ inl e ]

above : (active : ℕ) (page : List ℕ) (pages : List (List ℕ)) → FromPages (page ∷ pages) ((active ∷ page) ∷ pages) active
above active page pages i h = elim (either (is_on i (active ∷ page)) (is_frame i pages) h) [
  | inl e ↦ elim (either (i == active) (is_on i page) e) [ inl s ↦ inr (is_same i active s) | inr s ↦ inl (left_true (is_on i page) (is_frame i pages) s) ]
  | inr e ↦ inl (right_true (is_on i page) (is_frame i pages) e)
]

entered_from : (k : Kept) (active : ℕ) (pages : List (List ℕ)) → FromPages pages (entered k active pages) active
entered_from k active [] = alone active []
entered_from k active (page ∷ pages) = go (nat_le (page_words k page + 66) 4096)
  where
    go : (b : Bool) → FromPages (page ∷ pages) (if b then (active ∷ page) ∷ pages else (active ∷ []) ∷ page ∷ pages) active
    go true = above active page pages
    go false = alone active (page ∷ pages)

filtered : (i : ℕ) (test : List ℕ → Bool) (pages : List (List ℕ)) → is_frame i (filter test pages) ≡ true → is_frame i pages ≡ true
filtered i test [] h = h
filtered i test (page ∷ pages) h = go (λ e. filtered i test pages e) (test page) h
  where
    go : (is_frame i (filter test pages) ≡ true → is_frame i pages ≡ true) → (b : Bool) → is_frame i (if b then page ∷ filter test pages else filter test pages) ≡ true → (is_on i page || is_frame i pages) ≡ true
    go rest true h = elim (either (is_on i page) (is_frame i (filter test pages)) h) [ inl e ↦ left_true (is_on i page) (is_frame i pages) e | inr e ↦ right_true (is_on i page) (is_frame i pages) (rest e) ]
    go rest false h = right_true (is_on i page) (is_frame i pages) (rest h)

pub touched_from : (target : ℕ) (pages : List (List ℕ)) → FromPages pages (touched target pages) target
touched_from target pages i h = go (is_frame target pages) h
  where
    go : (b : Bool) → is_frame i (if b then filter (is_on target) pages ++ filter (λ page. not (is_on target page)) pages else (target ∷ []) ∷ pages) ≡ true → (is_frame i pages ≡ true) ⊎ (i ≡ target)
    go true h =
        elim (either (is_frame i (filter (is_on target) pages)) (is_frame i (filter (λ page. not (is_on target page)) pages)) (sym (list_any-append (is_on i) (filter (is_on target) pages) (filter (λ page. not (is_on target page)) pages)) ∙ h)) [
          | inl e ↦ inl (filtered i (is_on target) pages e)
          | inr e ↦ inl (filtered i (λ page. not (is_on target page)) pages e)
        ]
    go false h = alone target pages i h

behind_page : (page : List ℕ) (pages new : List (List ℕ)) (target : ℕ) → FromPages pages new target → FromPages (page ∷ pages) new target
behind_page page pages new target f i h = elim (f i h) [ inl e ↦ inl (right_true (is_on i page) (is_frame i pages) e) | inr e ↦ inr e ]

left_from : (target : ℕ) (pages : List (List ℕ)) → FromPages pages (left target pages) target
left_from target [] = touched_from target []
left_from target ([] ∷ pages) = behind_page [] pages (touched target pages) target (touched_from target pages)
left_from target ((i ∷ []) ∷ pages) = behind_page (i ∷ []) pages (touched target pages) target (touched_from target pages)
left_from target ((i ∷ j ∷ is) ∷ pages) = λ b h. elim (either (is_on b (j ∷ is)) (is_frame b pages) h) [
  | inl e ↦ inl (left_true (is_on b (i ∷ j ∷ is)) (is_frame b pages) (right_true (b == i) (is_on b (j ∷ is)) e))
  | inr e ↦ inl (right_true (is_on b (i ∷ j ∷ is)) (is_frame b pages) e)
]

pub laid_from : (f : List (List ℕ) → List (List ℕ)) (active : ℕ) → ((pages : List (List ℕ)) → FromPages pages (f pages) active) → (old new : Option Layout) (v : Kept) → v.rest.active ≡ Some active → LaidBy f old new → FramesFrom old new v
laid_from f active h None new v is laid = laid
laid_from f active h (Some l) new v is laid =
    subst (λ n. FramesFrom (Some l) n v) (sym laid) (refl, λ i e. elim (h l.pages i e) [ inl a ↦ inl a | inr a ↦ inr (is ∙ ap Some (sym a)) ])

pub entered_frames : (k v : Kept) (active : ℕ) (old new : Option Layout) → v.rest.active ≡ Some active → LaidBy (entered k active) old new → FramesFrom old new v
entered_frames k v active old new is laid = laid_from (entered k active) active (entered_from k active) old new v is laid

pub left_frames : (v : Kept) (target : ℕ) (old new : Option Layout) → v.rest.active ≡ Some target → LaidBy (left target) old new → FramesFrom old new v
left_frames v target old new is laid = laid_from (left target) target (left_from target) old new v is laid

same_frames : (l : Option Layout) (v : Kept) → FramesFrom l l v
same_frames None v = refl
same_frames (Some l) v = (refl, λ i h. inl h)

pub frames_stay : (old new : Option Layout) (v : Kept) → new ≡ old → FramesFrom old new v
frames_stay old new v e = subst (λ n. FramesFrom old n v) (sym e) (same_frames old v)

pub frames_before : (a b c : Option Layout) (v : Kept) → b ≡ a → FramesFrom b c v → FramesFrom a c v
frames_before a b c v e f = subst (λ l. FramesFrom l c v) e f

-- ---- words

-- a state counts no more words than one that it keeps
words_kept : (v m : Kept) → Keeps v m → (n : ℕ) → words_below n v ≤ words_below n m
unfolding words_below
words_kept v m k zero = omega arith
words_kept v m k (suc n) = go (words_kept v m k n) (object_at v n) refl
  where
    go : words_below n v ≤ words_below n m → (o : Option Obj) → object_at v n ≡ o → words_below n v + words_taken o ≤ words_below n m + words_taken (object_at m n)
    go before None e = omega (arith, before)
    go before (Some o) e =
        let is : words_taken (object_at m n) ≡ words_taken (Some o) = ap words_taken (k.same n o e) in
        omega (arith, before, is)

pub state_words_kept : (v m : Kept) → Keeps v m → words_held v ≤ words_held m
state_words_kept v m k = subst (λ (r : Rest). words_held v ≤ words_below r.next m) k.rest (words_kept v m k v.rest.next)

pub page_words_kept : (v m : Kept) → Keeps v m → (page : List ℕ) → page_words v page ≤ page_words m page
unfolding page_words
page_words_kept v m k [] = omega arith
page_words_kept v m k (i ∷ is) = go (page_words_kept v m k is) (object_at v i) refl
  where
    go : page_words v is ≤ page_words m is → (o : Option Obj) → object_at v i ≡ o → page_words v is + (10 + depth_if (context_in o)) ≤ page_words m is + frame_words m i
    go before None e = omega (arith, before)
    go before (Some o) e =
        let is : frame_words m i ≡ 10 + depth_if (context_in (Some o)) = ap (λ o. 10 + depth_if (context_in o)) (k.same i o e) in
        omega (arith, before, is)

-- ---- no room

entered_without : (why : Why) (e : End) → e ≡ ends.Entered → OverWithout why e
entered_without Heap e is = subst IsOver (sym is) tt
entered_without Stack e is = is

more_room : (s : Store) (l : Option Layout) (a b : ℕ) → a ≤ b → IfSome l (λ laid. s.memory.limit < used s.memory.objects + a + 26304 * laid.most) → IfSome l (λ laid. s.memory.limit < used s.memory.objects + b + 26304 * laid.most)
more_room s None a b more h = tt
more_room s (Some l) a b more h = omega (arith, more, h)

-- a page that a state fills beyond these words is one that another state fills beyond those
abbrev pub FillsToo : Kept → ℕ → Kept → ℕ → Type 0
FillsToo u least k floor = (page : List ℕ) → IsApart page → least < page_words u page → floor < page_words k page

-- from no fewer words to as many
pub fills_by_words : (u k : Kept) (least floor : ℕ) → ((page : List ℕ) → page_words u page ≤ page_words k page) → floor ≤ least → FillsToo u least k floor
fills_by_words u k least floor words low page apart h = omega (arith, words page, low, h)

-- the cause of a refusal is that of a part of a step that comes to no fewer words and makes no fewer
pub causes_more : (s : Store) (l : Option Layout) (u k t : Kept) (o : Out) (made least : ℕ) (why : Why) → FillsToo u 4030 k least → words_held t ≤ words_held o.state → made ≤ o.count.objects → CausesFull s l u made t why
    → CausesNoRoom s l k least o why
causes_more s l u k t o made least Heap pages words more h = record { words = omega (arith, words, h.words); room = more_room s l made o.count.objects more h.room }
causes_more s None u k t o made least Stack pages words more h = h
causes_more s (Some l) u k t o made least Stack pages words more h = (h.0, λ apart. pages (first_page l.pages) apart (omega (arith, h.1)))

-- and so is the cause of another part
pub causes_too : (s : Store) (l : Option Layout) (u k : Kept) (a b : Out) (least floor : ℕ) (why : Why) → FillsToo u least k floor → words_held a.state ≤ words_held b.state → a.count.objects ≤ b.count.objects → CausesNoRoom s l u least a why
    → CausesNoRoom s l k floor b why
causes_too s l u k a b least floor Heap pages words more h = record { words = omega (arith, words, h.words); room = more_room s l a.count.objects b.count.objects more h.room }
causes_too s None u k a b least floor Stack pages words more h = h
causes_too s (Some l) u k a b least floor Stack pages words more h = (h.0, λ apart. pages (first_page l.pages) apart (h.1 apart))

-- a part of a step that is built and comes to this has no room for it
pub overfills_whole : (s : Store) (l : Option Layout) (k u t : Kept) (a : Turn) (o : Out) (made : ℕ) (why : Why) → a.built ≡ true → a.result.out ≡ o → OverWithout why o.end → FillsToo u 4030 k a.least → words_held t ≤ words_held o.state → made ≤ o.count.objects
    → CausesFull s l u made t why → Overfills s l k a why
overfills_whole s l k u t a o made why built is end pages words more h = record {
  out = o;
  needs = subst (Needs a why) is (whole built (subst (λ (p : Out). OverWithout why p.end) (sym is) end));
  cause = causes_more s l u k t o made a.least why pages words more h;
}

-- a refusal to enter a method
pub refused : (s : Store) (l : Option Layout) (k : Kept) (a : Turn) (o : Out) (why : Why) → a.built ≡ true → a.result.out ≡ o → a.least ≤ 4030 → RefusesSend s l k o why → Overfills s l k a why
refused s l k a o why built is low h =
    overfills_whole s l k k o.state a o 0 why built is (entered_without why o.end h.end) (fills_by_words k k 4030 a.least (λ page. omega arith) low) (omega arith) (omega arith) h.cause
