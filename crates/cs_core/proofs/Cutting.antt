-- The pages of a world are one stack where contexts die up to a home: those that die are the first ones of the chain of all frames, or all of them.
use Rattle.std.proofs.Common.{◌≡◌, ℕ, ◌<◌, zero, suc, Bool, true, false, refl, sym, ap, subst, ◌∙◌, arith, Option, Some, None, List, [], ◌∷◌, ◌++◌, is_some, option_and_then, unwrap_or, map, inl, inr}
use Rattle.std.specs.Prelude.{◌||◌, not, if◌then◌else◌}
use Rattle.std.specs.List.{AllByRecursion, concat, filter, list_any}
use Rattle.std.proofs.lemmas.Bool.{false≢true}
use Rattle.std.proofs.lemmas.Bool.Decides.{eqb_tells}
use Rattle.std.proofs.lemmas.List.{append_assoc}
use Rattle.cs_model.specs.Ref.{Ref}
use Rattle.cs_model.specs.Obj.{Obj, Context, Ptr, Raw, Method, Ctx, context_in}
use Rattle.cs_model.specs.State.{Kept, Rest, object_at}
use Rattle.cs_model.specs.Keeps.{Keeps}
use Rattle.cs_model.specs.Read.{IsRunning, active_birth, active_context, blank_context}
use Rattle.cs_model.specs.Operation.{cut_to_of, dead_object, edit_found, kill_all, kill_of, resume_of}
use Rattle.cs_model.specs.Return.{Search, Met, Ended, TooLong, is_among, is_live, passing, search_senders, sender_birth, senders_to, links}
use Rattle.cs_model.proofs.Objects.{object_at-put_other, object_at-put_same, rest-put}
use Rattle.cs_acts.specs.Layout.{IsApart, IsCalled, LaidBy, Layout, cut, depth_if, has_frame, is_frame, is_on, left_of, none_dies, page_words, touched}
use Rattle.cs_acts.specs.Names.{Store}
use Rattle.cs_acts.specs.Targets.{CanCut, dying_in, dying_to}
use Rattle.cs_core.specs.Stacked.{IsStack, IsStacked}
use Rattle.cs_core.specs.Stepped.{Lays}
use Rattle.cs_core.proofs.Chaining.{ContextsStay, apart_from, called_tail, off_both, on_first, on_later, on_left, on_right, sender_in}
use Rattle.cs_core.proofs.Laying.{FromPages, either, laid_from, left_true, right_true, touched_from}
use Rattle.cs_core.proofs.Settling.{Runs, Stays, push_stays}
use Rattle.cs_core.proofs.Stacking.{Topped, topped, running_has, stack_on, stay_by_senders, top, touched_first}

-- ---- the contexts that die are a chain of senders

met_of : Search → List ℕ
met_of (Met passed) = passed
met_of (Ended passed) = []
met_of TooLong = []

search_called : (n : ℕ) (k : Kept) (goal from : ℕ) (o : Option ℕ) (passed : List ℕ) → search_senders n k goal o ≡ Met passed → sender_birth k from ≡ o → IsCalled k (from ∷ passed ++ goal ∷ [])
unfolding search_senders met_of
search_called zero k goal from None passed h is = absurd (cc)
search_called zero k goal from (Some i) passed h is = absurd (cc)
search_called (suc n) k goal from None passed h is = absurd (cc)
search_called (suc n) k goal from (Some i) passed h is = elim (eqb_tells i goal) [
  | inl e ↦ at e.1 (subst (λ b. (if b then Met [] else passing i (search_senders n k goal (sender_birth k i))) ≡ Met passed) e.0 h)
  | inr e ↦ on (λ ps p. search_called n k goal i (sender_birth k i) ps p refl) (search_senders n k goal (sender_birth k i)) refl (subst (λ b. (if b then Met [] else passing i (search_senders n k goal (sender_birth k i))) ≡ Met passed) e.0 h)
]
  where
    at : i ≡ goal → Met [] ≡ Met passed → IsCalled k (from ∷ passed ++ goal ∷ [])
    at e m = subst (λ ps. IsCalled k (from ∷ ps ++ goal ∷ [])) (ap met_of m) (is ∙ ap Some e, tt)

    on : ((ps : List ℕ) → search_senders n k goal (sender_birth k i) ≡ Met ps → IsCalled k (i ∷ ps ++ goal ∷ [])) → (s : Search) → search_senders n k goal (sender_birth k i) ≡ s → passing i s ≡ Met passed
        → IsCalled k (from ∷ passed ++ goal ∷ [])
    on rest (Met ps) p q = subst (λ ps. IsCalled k (from ∷ ps ++ goal ∷ [])) (ap met_of q) (is, rest ps p)
    on rest (Ended ps) p q = absurd (cc)
    on rest TooLong p q = absurd (cc)

pub dying_called : (k : Kept) (home : ℕ) (passed : List ℕ) → senders_to k (active_birth k) home ≡ Met passed → IsCalled k (active_birth k ∷ passed ++ home ∷ [])
unfolding senders_to
dying_called k home passed h = search_called links k home (active_birth k) (sender_birth k (active_birth k)) passed h refl

-- one link more
called_on : (k : Kept) (xs : List ℕ) (i j : ℕ) → IsCalled k (xs ++ i ∷ []) → sender_birth k i ≡ Some j → IsCalled k (xs ++ i ∷ j ∷ [])
called_on k [] i j c h = (h, tt)
called_on k (x ∷ []) i j c h = (c.0, (h, tt))
called_on k (x ∷ y ∷ xs) i j c h = (c.0, called_on k (y ∷ xs) i j c.1 h)

-- ---- both chains begin at one context

-- the target is behind those that die, or all die
data Split (dying : List ℕ) (target : ℕ) (all : List ℕ) : Type 0 where
  behind : (rest : List ℕ) → all ≡ dying ++ target ∷ rest → Split dying target all
  within : (more : List ℕ) → dying ≡ all ++ more → Split dying target all

split_later : (i target : ℕ) (dying all : List ℕ) → Split dying target all → Split (i ∷ dying) target (i ∷ all)
split_later i target dying all (behind rest e) = behind rest (ap (λ xs. i ∷ xs) e)
split_later i target dying all (within more e) = within more (ap (λ xs. i ∷ xs) e)

next_same : (k : Kept) (i a b : ℕ) → sender_birth k i ≡ Some a → sender_birth k i ≡ Some b → b ≡ a
next_same k i a b p q = ap (λ o. unwrap_or o b) (sym q ∙ p)

split_chains : (k : Kept) (target i : ℕ) (ds cs : List ℕ) → IsCalled k (i ∷ ds ++ target ∷ []) → IsCalled k (i ∷ cs) → Split (i ∷ ds) target (i ∷ cs)
split_chains k target i ds [] d c = within ds refl
split_chains k target i [] (j ∷ js) d c = behind js (ap (λ n. i ∷ n ∷ js) (next_same k i target j d.0 c.0))
split_chains k target i (e ∷ ds) (j ∷ js) d c =
    let same = next_same k i e j d.0 c.0 in
    split_later i target (e ∷ ds) (j ∷ js) (subst (λ n. Split (e ∷ ds) target (n ∷ js)) (sym same) (split_chains k target e ds js d.1 (subst (λ n. IsCalled k (n ∷ js)) same c.1)))

-- ---- what is left of the pages

-- the pages behind deaths
abbrev lefts : List ℕ → List (List ℕ) → List (List ℕ)
lefts dying pages = filter has_frame (map (left_of dying) pages)

left_dies : (dying : List ℕ) (i : ℕ) (is : List ℕ) → is_on i dying ≡ true → left_of dying (i ∷ is) ≡ left_of dying is
unfolding left_of
left_dies dying i is h = ap (λ b. if b then left_of dying is else (if none_dies dying is then i ∷ is else [])) h

none_of : (dying page : List ℕ) → ((i : ℕ) → is_on i page ≡ true → is_on i dying ≡ false) → none_dies dying page ≡ true
none_of dying page h = ap not (go page h)
  where
    go : (page : List ℕ) → ((i : ℕ) → is_on i page ≡ true → is_on i dying ≡ false) → list_any (λ i. is_among i dying) page ≡ false
    go [] h = refl
    go (i ∷ is) h = ap (λ b. b || list_any (λ i. is_among i dying) is) (h i (on_first i is)) ∙ go is (λ j on. h j (on_later j i is on))

left_stays : (dying : List ℕ) (i : ℕ) (is : List ℕ) → ((j : ℕ) → is_on j (i ∷ is) ≡ true → is_on j dying ≡ false) → left_of dying (i ∷ is) ≡ i ∷ is
unfolding left_of
left_stays dying i is h =
    ap (λ b. if b then left_of dying is else (if none_dies dying is then i ∷ is else [])) (h i (on_first i is))
    ∙ ap (λ b. if b then i ∷ is else []) (none_of dying is (λ j on. h j (on_later j i is on)))

empty_first : (dying : List ℕ) (pages : List (List ℕ)) → lefts dying ([] ∷ pages) ≡ lefts dying pages
unfolding left_of
empty_first dying pages = refl

-- all die
left_none : (dying page : List ℕ) → ((i : ℕ) → is_on i page ≡ true → is_on i dying ≡ true) → left_of dying page ≡ []
unfolding left_of
left_none dying [] h = refl
left_none dying (i ∷ is) h = left_dies dying i is (h i (on_first i is)) ∙ left_none dying is (λ j on. h j (on_later j i is on))

lefts_none : (dying : List ℕ) (pages : List (List ℕ)) → ((i : ℕ) → is_on i (concat pages) ≡ true → is_on i dying ≡ true) → lefts dying pages ≡ []
lefts_none dying [] h = refl
lefts_none dying (page ∷ pages) h =
    ap (λ p. if has_frame p then p ∷ lefts dying pages else lefts dying pages) (left_none dying page (λ i on. h i (on_left i page (concat pages) on)))
    ∙ lefts_none dying pages (λ i on. h i (on_right i page (concat pages) on))

module _ (k : Kept) where
  empty_words : 3900 < page_words k [] → ⊥
  unfolding page_words
  empty_words h = omega (arith, h)

  -- none dies
  lefts_all : (dying : List ℕ) (pages : List (List ℕ)) → AllByRecursion (λ page. 3900 < page_words k page) pages → ((i : ℕ) → is_on i (concat pages) ≡ true → is_on i dying ≡ false) → lefts dying pages ≡ pages
  lefts_all dying [] f h = refl
  lefts_all dying ([] ∷ pages) f h = absurd (empty_words f.0)
  lefts_all dying ((i ∷ is) ∷ pages) f h =
      ap (λ p. if has_frame p then p ∷ lefts dying pages else lefts dying pages) (left_stays dying i is (λ j on. h j (on_left j (i ∷ is) (concat pages) on)))
      ∙ ap (λ ps. (i ∷ is) ∷ ps) (lefts_all dying pages f.1 (λ j on. h j (on_right j (i ∷ is) (concat pages) on)))

  -- the target has the first frame that is left
  record Begins (dying : List ℕ) (target : ℕ) (rest : List ℕ) (pages : List (List ℕ)) : Type 0 where
    first : List ℕ
    others : List (List ℕ)
    is : lefts dying pages ≡ (target ∷ first) ∷ others
    all : rest ≡ first ++ concat others
    filled : AllByRecursion (λ page. 3900 < page_words k page) others

  head_same : (i j : ℕ) (is js : List ℕ) → i ∷ is ≡ j ∷ js → i ≡ j
  head_same i j is js e = ap (λ (xs : List ℕ). first_or xs) e
    where
      first_or : List ℕ → ℕ
      first_or [] = i
      first_or (x ∷ xs) = x

  tail_same : (i j : ℕ) (is js : List ℕ) → i ∷ is ≡ j ∷ js → is ≡ js
  tail_same i j is js e = ap tail_of e
    where
      tail_of : List ℕ → List ℕ
      tail_of [] = []
      tail_of (x ∷ xs) = xs

  begins : (dying : List ℕ) (target : ℕ) (rest : List ℕ) (pages : List (List ℕ)) (page ds : List ℕ) → AllByRecursion (λ page. 3900 < page_words k page) pages → page ++ concat pages ≡ ds ++ target ∷ rest
      → ((i : ℕ) → is_on i ds ≡ true → is_on i dying ≡ true) → ((i : ℕ) → is_on i (target ∷ rest) ≡ true → is_on i dying ≡ false) → Begins dying target rest (page ∷ pages)
  begins dying target rest [] [] [] f e d n = absurd (cc)
  begins dying target rest [] [] (j ∷ ds) f e d n = absurd (cc)
  begins dying target rest (page ∷ pages) [] ds f e d n =
      let b = begins dying target rest pages page ds f.1 e d n in
      record { first = b.first; others = b.others; is = empty_first dying (page ∷ pages) ∙ b.is; all = b.all; filled = b.filled }
  begins dying target rest pages (i ∷ is) [] f e d n =
      let at : i ≡ target = head_same i target (is ++ concat pages) rest e in
      let all : is ++ concat pages ≡ rest = tail_same i target (is ++ concat pages) rest e in
      let off : (j : ℕ) → is_on j (i ∷ is ++ concat pages) ≡ true → is_on j dying ≡ false = λ j on. n j (sym (ap (is_on j) e) ∙ on) in
      record {
        first = is;
        others = pages;
        is = ap (λ p. if has_frame p then p ∷ lefts dying pages else lefts dying pages) (left_stays dying i is (λ j on. off j (on_left j (i ∷ is) (concat pages) on)))
            ∙ ap (λ ps. (i ∷ is) ∷ ps) (lefts_all dying pages f (λ j on. off j (on_right j (i ∷ is) (concat pages) on)))
            ∙ ap (λ m. (m ∷ is) ∷ pages) at;
        all = sym all;
        filled = f;
      }
  begins dying target rest pages (i ∷ is) (j ∷ ds) f e d n =
      let at : i ≡ j = head_same i j (is ++ concat pages) (ds ++ target ∷ rest) e in
      let b = begins dying target rest pages is ds f (tail_same i j (is ++ concat pages) (ds ++ target ∷ rest) e) (λ m on. d m (on_later m j ds on)) n in
      record {
        first = b.first;
        others = b.others;
        is = ap (λ p. if has_frame p then p ∷ lefts dying pages else lefts dying pages) (left_dies dying i is (subst (λ m. is_on m dying ≡ true) (sym at) (d j (on_first j ds)))) ∙ b.is;
        all = b.all;
        filled = b.filled;
      }

-- ---- frames

left_on : (i : ℕ) (dying page : List ℕ) → is_on i (left_of dying page) ≡ true → is_on i page ≡ true
unfolding left_of
left_on i dying [] h = h
left_on i dying (j ∷ js) h = go (λ on. left_on i dying js on) (is_among j dying) (none_dies dying js) h
  where
    go : (is_on i (left_of dying js) ≡ true → is_on i js ≡ true) → (b c : Bool) → is_on i (if b then left_of dying js else (if c then j ∷ js else [])) ≡ true → is_on i (j ∷ js) ≡ true
    go rest true c on = on_later i j js (rest on)
    go rest false true on = on
    go rest false false on = absurd (false≢true on)

lefts_on : (i : ℕ) (dying : List ℕ) (pages : List (List ℕ)) → is_frame i (lefts dying pages) ≡ true → is_frame i pages ≡ true
lefts_on i dying [] h = h
lefts_on i dying (page ∷ pages) h = go (λ on. lefts_on i dying pages on) (has_frame (left_of dying page)) h
  where
    go : (is_frame i (lefts dying pages) ≡ true → is_frame i pages ≡ true) → (b : Bool) → is_frame i (if b then left_of dying page ∷ lefts dying pages else lefts dying pages) ≡ true → (is_on i page || is_frame i pages) ≡ true
    go rest true on = elim (either (is_on i (left_of dying page)) (is_frame i (lefts dying pages)) on) [
      | inl e ↦ left_true (is_on i page) (is_frame i pages) (left_on i dying page e)
      | inr e ↦ right_true (is_on i page) (is_frame i pages) (rest e)
    ]
    go rest false on = right_true (is_on i page) (is_frame i pages) (rest on)

cut_from : (dying : List ℕ) (target : ℕ) (pages : List (List ℕ)) → FromPages pages (cut dying target pages) target
cut_from dying target pages i h = elim (touched_from target (lefts dying pages) i h) [ inl e ↦ inl (lefts_on i dying pages e) | inr e ↦ inr e ]

-- ---- contexts that die

kill_other : (k : Kept) (i j : ℕ) → (j ≡ i → ⊥) → object_at (kill_of k i) j ≡ object_at k j
unfolding kill_of
kill_other k i j apart = go (object_at k i)
  where
    go : (o : Option Obj) → object_at (edit_found (dead_object k.rest.nil) i o k) j ≡ object_at k j
    go None = refl
    go (Some o) = object_at-put_other k i j (dead_object k.rest.nil o) apart

kill_rest : (k : Kept) (i : ℕ) → (kill_of k i).rest ≡ k.rest
unfolding kill_of
kill_rest k i = go (object_at k i)
  where
    go : (o : Option Obj) → (edit_found (dead_object k.rest.nil) i o k).rest ≡ k.rest
    go None = refl
    go (Some o) = rest-put k i (dead_object k.rest.nil o)

kill_contexts : (k : Kept) (i : ℕ) → ContextsStay k (kill_of k i)
unfolding kill_of
kill_contexts k i j h = elim (eqb_tells j i) [
  | inl e ↦ ap (λ n. is_some (context_in (object_at (edit_found (dead_object k.rest.nil) i (object_at k i) k) n))) e.1 ∙ go (object_at k i) refl (ap (λ n. is_some (context_in (object_at k n))) (sym e.1) ∙ h)
  | inr e ↦ ap (λ o. is_some (context_in o)) (kill_other k i j e.1) ∙ h
]
  where
    dies : (o : Obj) → is_some (context_in (Some o)) ≡ true → is_some (context_in (Some (dead_object k.rest.nil o))) ≡ true
    dies (Ptr head slots) s = s
    dies (Raw head bytes) s = s
    dies (Method head header literals bytecodes) s = s
    dies (Ctx c) s = refl

    go : (o : Option Obj) → object_at k i ≡ o → is_some (context_in o) ≡ true → is_some (context_in (object_at (edit_found (dead_object k.rest.nil) i o k) i)) ≡ true
    go None e s = absurd (false≢true s)
    go (Some o) e s = ap (λ o. is_some (context_in o)) (object_at-put_same k i (dead_object k.rest.nil o)) ∙ dies o s

all_other : (is : List ℕ) (k : Kept) (j : ℕ) → is_on j is ≡ false → object_at (kill_all is k) j ≡ object_at k j
unfolding kill_all
all_other [] k j off = refl
all_other (i ∷ is) k j off =
    let both = off_both j (i ∷ []) is off in
    all_other is (kill_of k i) j both.1 ∙ kill_other k i j (λ e. apart_from j i (i ∷ []) both.0 (on_first i []) (sym e))

all_rest : (is : List ℕ) (k : Kept) → (kill_all is k).rest ≡ k.rest
unfolding kill_all
all_rest [] k = refl
all_rest (i ∷ is) k = all_rest is (kill_of k i) ∙ kill_rest k i

all_contexts : (is : List ℕ) (k : Kept) → ContextsStay k (kill_all is k)
unfolding kill_all
all_contexts [] k j h = h
all_contexts (i ∷ is) k j h = all_contexts is (kill_of k i) j (kill_contexts k i j h)

-- ---- the cut

called_right : (k : Kept) (xs ys : List ℕ) → IsCalled k (xs ++ ys) → IsCalled k ys
called_right k [] ys c = c
called_right k (x ∷ xs) ys c = called_right k xs ys (called_tail k x (xs ++ ys) c)

apart_right : (xs ys : List ℕ) → IsApart (xs ++ ys) → IsApart ys
apart_right [] ys a = a
apart_right (x ∷ xs) ys a = apart_right xs ys a.1

-- what is in the second part isn't in the first
apart_left : (xs ys : List ℕ) → IsApart (xs ++ ys) → (i : ℕ) → is_on i ys ≡ true → is_on i xs ≡ false
apart_left [] ys a i on = refl
apart_left (x ∷ xs) ys a i on = elim (eqb_tells i x) [
  | inl e ↦ absurd (apart_from x i (xs ++ ys) a.0 (on_right i xs ys on) e.1)
  | inr e ↦ ap (λ b. b || is_on i xs) e.0 ∙ apart_left xs ys a.1 i on
]

module _ (k v : Kept) (ds : List ℕ) (target : ℕ) (x : Ref) (keeps : Keeps v (cut_to_of k (active_birth k ∷ ds) target x)) (runs : IsRunning k) (called : IsCalled k (active_birth k ∷ ds ++ target ∷ []))
    (there : is_some (context_in (object_at k target)) ≡ true) (stays : is_on target (active_birth k ∷ ds) ≡ false) where
  abbrev dying : List ℕ
  dying = active_birth k ∷ ds

  -- the target is active before the value is pushed
  killed : Kept
  killed = resume_of (kill_all dying k) target

  others_stay : (i : ℕ) → is_on i dying ≡ false → object_at killed i ≡ object_at k i
  unfolding resume_of killed
  others_stay i off = all_other dying k i off

  contexts_stay : ContextsStay k killed
  unfolding resume_of killed
  contexts_stay i h = all_contexts dying k i h

  target_runs : Runs killed
  unfolding resume_of active_context killed
  target_runs = go (context_in (object_at killed target)) (ap (λ o. is_some (context_in o)) (others_stay target stays) ∙ there)
    where
      go : (o : Option Context) → is_some o ≡ true → o ≡ Some (unwrap_or o blank_context)
      go None h = absurd (false≢true h)
      go (Some c) h = refl

  cut_stays : Stays killed (cut_to_of k dying target x)
  unfolding cut_to_of killed
  cut_stays = push_stays killed x target_runs

  cut_active : v.rest.active ≡ Some target
  unfolding resume_of killed
  cut_active = ap (λ (r : Rest). r.active) keeps.rest ∙ ap (λ (r : Rest). r.active) cut_stays.rest

  cut_contexts : ContextsStay k (cut_to_of k dying target x)
  cut_contexts i h = stay_by_senders killed (cut_to_of k dying target x) cut_stays.sender i (contexts_stay i h)

  cut_sender : (i : ℕ) → is_on i dying ≡ false → sender_in (object_at (cut_to_of k dying target x) i) ≡ sender_in (object_at k i)
  cut_sender i off = cut_stays.sender i ∙ ap sender_in (others_stay i off)

  cut_depth : (i : ℕ) → is_on i dying ≡ false → (i ≡ target → ⊥) → depth_if (context_in (object_at (cut_to_of k dying target x) i)) ≡ depth_if (context_in (object_at k i))
  unfolding resume_of killed
  cut_depth i off apart = cut_stays.depth i apart ∙ ap (λ o. depth_if (context_in o)) (others_stay i off)

  alone_stack : IsStack v ((target ∷ []) ∷ [])
  alone_stack = record { active = sym cut_active; called = tt; apart = (refl, tt); filled = tt }

  -- the target has the first frame that is left
  rest_stack : IsRunning v → (is : List ℕ) (pages : List (List ℕ)) → IsCalled k (target ∷ is ++ concat pages) → IsApart (target ∷ is ++ concat pages) → ((i : ℕ) → is_on i (target ∷ is ++ concat pages) ≡ true → is_on i dying ≡ false)
      → AllByRecursion (λ page. 3900 < page_words k page) pages → IsStack v ((target ∷ is) ∷ pages)
  rest_stack ready is pages called apart off filled =
      stack_on k (cut_to_of k dying target x) v keeps cut_contexts target is pages cut_active (running_has v target ready cut_active) called apart (λ i on. cut_sender i (off i on))
      (λ i on. cut_depth i (off i (on_later i target (is ++ concat pages) (on_right i is (concat pages) on))) (apart_from target i (is ++ concat pages) apart.0 (on_right i is (concat pages) on))) filled

  cut_stack : IsRunning v → (pages : List (List ℕ)) → IsStack k pages → IsStack v (cut dying target pages)
  cut_stack ready pages h = go pages (top (active_birth k) pages (h.active ∙ runs.known)) h
    where
      go : (pages : List (List ℕ)) → Topped (active_birth k) pages → IsStack k pages → IsStack v (cut dying target pages)
      go _ (topped is rest) h = by (split_chains k target (active_birth k) ds (is ++ concat rest) called h.called)
        where
          by : Split dying target (active_birth k ∷ is ++ concat rest) → IsStack v (cut dying target ((active_birth k ∷ is) ∷ rest))
          by (within more e) = subst (λ ps. IsStack v (touched target ps)) (sym (lefts_none dying ((active_birth k ∷ is) ∷ rest) (λ i on. ap (is_on i) e ∙ on_left i (active_birth k ∷ is ++ concat rest) more on))) alone_stack
          by (behind rs e) =
              let apart : IsApart (dying ++ target ∷ rs) = subst IsApart e h.apart in
              let off : (i : ℕ) → is_on i (target ∷ rs) ≡ true → is_on i dying ≡ false = λ i on. apart_left dying (target ∷ rs) apart i on in
              let b = begins k dying target rs rest (active_birth k ∷ is) dying h.filled e (λ i on. on) off in
              let called : IsCalled k (target ∷ b.first ++ concat b.others) = subst (λ xs. IsCalled k (target ∷ xs)) b.all (called_right k dying (target ∷ rs) (subst (IsCalled k) e h.called)) in
              let behind : IsApart (target ∷ b.first ++ concat b.others) = subst (λ xs. IsApart (target ∷ xs)) b.all (apart_right dying (target ∷ rs) apart) in
              let first : touched target ((target ∷ b.first) ∷ b.others) ≡ (target ∷ b.first) ∷ b.others = touched_first target b.first b.others (off_both target b.first (concat b.others) behind.0).1 in
              subst (IsStack v) (sym (ap (touched target) b.is ∙ first))
              (rest_stack ready b.first b.others called behind (λ i on. off i (ap (λ xs. is_on i (target ∷ xs)) b.all ∙ on)) b.filled)

  cut_laid : IsRunning v → (old new : Option Layout) (s : Store) → LaidBy (cut dying target) old new → Lays k old s v new
  cut_laid ready old new s laid = record {
    frames = laid_from (cut dying target) target (cut_from dying target) old new v cut_active laid;
    stacked = λ h there. stacked ready old new laid h;
  }
    where
      stacked : IsRunning v → (old new : Option Layout) → LaidBy (cut dying target) old new → IsStacked k old → IsStacked v new
      stacked ready None new laid h = subst (IsStacked v) (sym laid) tt
      stacked ready (Some l) new laid h = subst (IsStacked v) (sym laid) (cut_stack ready l.pages h)

-- a live context is one
live_there : (k : Kept) (i : ℕ) → is_live k i ≡ true → is_some (context_in (object_at k i)) ≡ true
live_there k i h = go (context_in (object_at k i)) h
  where
    go : (o : Option Context) → is_some (option_and_then (λ (c : Context). c.pc) o) ≡ true → is_some o ≡ true
    go None e = absurd (false≢true e)
    go (Some c) e = refl

pub cut_lays : (k v : Kept) (home target : ℕ) (x : Ref) → Keeps v (cut_to_of k (dying_to k home) target x) → IsRunning k → sender_birth k home ≡ Some target → CanCut k home target → IsRunning v
    → (old new : Option Layout) (s : Store) → LaidBy (cut (dying_to k home) target) old new → Lays k old s v new
cut_lays k v home target x keeps runs sent can running old new s laid =
    let is : dying_to k home ≡ active_birth k ∷ can.passed ++ home ∷ [] = ap (dying_in (active_birth k) home) can.met in
    let called : IsCalled k (active_birth k ∷ (can.passed ++ home ∷ []) ++ target ∷ []) =
    subst (IsCalled k) (sym (append_assoc (active_birth k ∷ can.passed) (home ∷ []) (target ∷ []))) (called_on k (active_birth k ∷ can.passed) home target (dying_called k home can.passed can.met) sent) in
    cut_laid k v (can.passed ++ home ∷ []) target x (subst (λ d. Keeps v (cut_to_of k d target x)) is keeps) runs called (live_there k target can.live) (ap (is_on target) (sym is) ∙ can.apart) running old new s
    (subst (λ d. LaidBy (cut d target) old new) is laid)
