-- The pages of a world are one stack, whatever is done: entering and leaving, and all that leaves senders and other stacks.
use Rattle.std.proofs.Common.{◌≡◌, ℕ, ◌+◌, ◌-◌, ◌*◌, ◌<◌, ◌≤◌, Bool, true, false, refl, sym, ap, subst, ◌∙◌, arith, Option, Some, None, List, [], ◌∷◌, ◌++◌, is_some, option_map, option_and_then, unwrap_or, length, length-take, nat_le, inl, inr}
use Rattle.std.specs.Prelude.{◌||◌, not, if◌then◌else◌}
use Rattle.std.specs.List.{AllByRecursion, concat, filter}
use Rattle.std.proofs.lemmas.Bool.{false≢true}
use Rattle.std.proofs.lemmas.Bool.Decides.{eqb_tells, nat_tests}
use Rattle.std.proofs.lemmas.List.{append-nil}
use Rattle.cs_model.specs.Ref.{Ref}
use Rattle.cs_model.specs.Ref as ref
use Rattle.cs_model.specs.Obj.{Context, Ctx, context_in, dead, popped}
use Rattle.cs_model.specs.State.{Kept, Rest, object_at}
use Rattle.cs_model.specs.Keeps.{Keeps}
use Rattle.cs_model.specs.Read.{IsRunning, active_birth, active_context, blank_context, depth_of, stack_of}
use Rattle.cs_model.specs.Operation.{cut_to_of, dead_object, drop_of, edit_found, enter_of, enter_with, kill_all, kill_of, method_context, resume_of}
use Rattle.cs_model.specs.Return.{context_birth, sender_birth}
use Rattle.cs_model.proofs.Objects.{object_at-put_other, object_at-put_same}
use Rattle.cs_model.proofs.Keeping.{Keeps-itself}
use Rattle.cs_model.proofs.Reading.{Has}
use Rattle.cs_model.proofs.Same.{option_equal, same}
use Rattle.cs_model.proofs.Searching.{sender_birth_same}
use Rattle.cs_model.specs.End.{made_context}
use Rattle.cs_model.specs.Send.{enter_out}
use Rattle.cs_model.specs.Step.{arguments_of}
use Rattle.cs_acts.specs.Layout.{IsApart, IsCalled, IsFresh, IsLaid, IsLaidOut, IsPage, LaidBy, Layout, depth_if, entered, first_page, frame_words, is_frame, is_on, last_frame, left, page_words, touched}
use Rattle.cs_acts.specs.Names.{Store}
use Rattle.cs_core.specs.Stacked.{IsStack, IsStacked}
use Rattle.cs_core.specs.Stepped.{Lays}
use Rattle.cs_core.proofs.Chaining.{ContextsStay, HasChain, all_on, apart_from, called_stays, chain_kept, filled_same, frame_kept, frame_of_all, off_both, on_first, on_later, on_left, on_right, page_same, page_words_of, sender_in}
use Rattle.cs_core.proofs.Laying.{entered_frames, frames_stay, left_frames}
use Rattle.cs_core.proofs.Settling.{Runs, Stays, drop_stays, push_stays}

-- ---- the shape of a stack

-- the active context has the first frame of the first page
pub data Topped (active : ℕ) : List (List ℕ) → Type 0 where
  topped : (is : List ℕ) (pages : List (List ℕ)) → Topped active ((active ∷ is) ∷ pages)

pub top : (active : ℕ) (pages : List (List ℕ)) → last_frame (first_page pages) ≡ Some active → Topped active pages
top active [] h = absurd (cc)
top active ([] ∷ pages) h = absurd (cc)
top active ((i ∷ is) ∷ pages) h = subst (λ j. Topped j ((i ∷ is) ∷ pages)) (in_some h) (topped is pages)
  where
    in_some : Some i ≡ Some active → i ≡ active
    in_some e = ap (λ o. unwrap_or o i) e

-- a running state has its active context
pub running_has : (v : Kept) (active : ℕ) → IsRunning v → v.rest.active ≡ Some active → Has v active
running_has v active r h =
    let is : active_birth v ≡ active = ap (λ o. unwrap_or o v.rest.nil) h in
    subst (Has v) is (ap is_some r.found)

-- ---- a state with the same senders that keeps the stacks of all contexts but some

-- the stack is one of the state t, and v keeps t: so it is one of v
module _ (k t v : Kept) (keeps : Keeps v t) (stay : ContextsStay k t) where
  pub stack_on : (active : ℕ) (is : List ℕ) (pages : List (List ℕ)) → v.rest.active ≡ Some active → Has v active → IsCalled k (active ∷ is ++ concat pages) → IsApart (active ∷ is ++ concat pages)
      → ((i : ℕ) → is_on i (active ∷ is ++ concat pages) ≡ true → sender_in (object_at t i) ≡ sender_in (object_at k i))
      → ((i : ℕ) → is_on i (concat pages) ≡ true → depth_if (context_in (object_at t i)) ≡ depth_if (context_in (object_at k i)))
      → AllByRecursion (λ page. 3900 < page_words k page) pages → IsStack v ((active ∷ is) ∷ pages)
  stack_on active is pages known has called apart senders depths filled =
      let chain : HasChain v (active ∷ is ++ concat pages) = chain_kept v t keeps (active ∷ is ++ concat pages) has (called_stays k t stay (active ∷ is ++ concat pages) senders called) in
      record {
        active = sym known;
        called = chain.called;
        apart = apart;
        filled = filled_same v k pages (λ i on. frame_kept v t k i keeps (all_on (Has v) (active ∷ is ++ concat pages) chain.all i (on_later i active (is ++ concat pages) (on_right i is (concat pages) on))) (depths i on)) filled;
      }

-- ---- what leaves all of them

pub stay_by_senders : (k t : Kept) → ((i : ℕ) → sender_in (object_at t i) ≡ sender_in (object_at k i)) → ContextsStay k t
stay_by_senders k t h i is = go (context_in (object_at k i)) (context_in (object_at t i)) (h i) is
  where
    go : (a b : Option Context) → option_map (λ (c : Context). c.sender) b ≡ option_map (λ (c : Context). c.sender) a → is_some a ≡ true → is_some b ≡ true
    go None b e s = absurd (false≢true s)
    go (Some c) None e s = absurd (cc)
    go (Some c) (Some d) e s = refl

pub settled_stack : (k t v : Kept) → Stays k t → Keeps v t → IsRunning v → (pages : List (List ℕ)) → IsStack k pages → IsStack v pages
settled_stack k t v s keeps running pages h = go pages (top (active_birth v) pages (h.active ∙ sym same ∙ running.known)) h
  where
    same : v.rest.active ≡ k.rest.active
    same = ap (λ (r : Rest). r.active) keeps.rest ∙ ap (λ (r : Rest). r.active) s.rest

    at : active_birth v ≡ active_birth k
    at = ap (λ (r : Rest). unwrap_or r.active r.nil) keeps.rest ∙ ap (λ (r : Rest). unwrap_or r.active r.nil) s.rest

    go : (pages : List (List ℕ)) → Topped (active_birth v) pages → IsStack k pages → IsStack v pages
    go _ (topped is rest) h =
        stack_on k t v keeps (stay_by_senders k t s.sender) (active_birth v) is rest running.known (running_has v (active_birth v) running running.known) h.called h.apart (λ i on. s.sender i)
        (λ i on. s.depth i (λ e. apart_from (active_birth v) i (concat rest) (off_both (active_birth v) is (concat rest) h.apart.0).1 on (e ∙ sym at))) h.filled

pub settled_stacked : (k t v : Kept) (l : Option Layout) → Stays k t → Keeps v t → IsRunning v → IsStacked k l → IsStacked v l
settled_stacked k t v None s keeps running h = tt
settled_stacked k t v (Some l) s keeps running h = settled_stack k t v s keeps running l.pages h

-- the stack is one of the state behind, too
stays_stack : (k t : Kept) → Stays k t → IsRunning k → (pages : List (List ℕ)) → IsStack k pages → IsStack t pages
stays_stack k t s running pages h = go pages (top (active_birth k) pages (h.active ∙ running.known)) h
  where
    go : (pages : List (List ℕ)) → Topped (active_birth k) pages → IsStack k pages → IsStack t pages
    go _ (topped is rest) h = record {
      active = h.active ∙ sym (ap (λ (r : Rest). r.active) s.rest);
      called = called_stays k t (stay_by_senders k t s.sender) (active_birth k ∷ is ++ concat rest) (λ i on. s.sender i) h.called;
      apart = h.apart;
      filled = filled_same t k rest (λ i on. ap (λ n. 10 + n) (s.depth i (apart_from (active_birth k) i (concat rest) (off_both (active_birth k) is (concat rest) h.apart.0).1 on))) h.filled;
    }

pub stays_stacked : (k t : Kept) (l : Option Layout) → Stays k t → IsRunning k → IsStacked k l → IsStacked t l
stays_stacked k t None s running h = tt
stays_stacked k t (Some l) s running h = stays_stack k t s running l.pages h

-- ---- entering

-- a context that the active one sends is entered
module _ (k v : Kept) (args : ℕ) (new : Context → Context) (keeps : Keeps v (enter_with k args new)) (known : k.rest.active ≡ Some (active_birth k)) (found : object_at k (active_birth k) ≡ Some (Ctx (active_context k)))
    (by : (new (active_context k)).sender ≡ ref.Obj (active_birth k)) where
  -- receiver and arguments are popped, and a context is put at the next birth
  new_there : object_at (enter_with k args new) k.rest.next ≡ Some (Ctx (new (active_context k)))
  unfolding enter_with
  new_there = object_at-put_same (drop_of k (args + 1)) k.rest.next (Ctx (new (active_context k)))

  others_there : (i : ℕ) → (i ≡ k.rest.next → ⊥) → object_at (enter_with k args new) i ≡ object_at (drop_of k (args + 1)) i
  unfolding enter_with
  others_there i other = object_at-put_other (drop_of k (args + 1)) k.rest.next i (Ctx (new (active_context k))) other

  pub new_active : v.rest.active ≡ Some k.rest.next
  unfolding enter_with
  new_active = ap (λ (r : Rest). r.active) keeps.rest

  dropped : Stays k (drop_of k (args + 1))
  dropped = drop_stays k (args + 1) (ap context_in found)

  sender_there : (i : ℕ) → (i ≡ k.rest.next → ⊥) → sender_in (object_at (enter_with k args new) i) ≡ sender_in (object_at k i)
  sender_there i other = ap sender_in (others_there i other) ∙ dropped.sender i

  contexts_stay : ContextsStay k (enter_with k args new)
  contexts_stay i h = elim (eqb_tells i k.rest.next) [
    | inl e ↦ ap (λ n. is_some (context_in (object_at (enter_with k args new) n))) e.1 ∙ ap (λ o. is_some (context_in o)) new_there
    | inr e ↦ ap (λ o. is_some (context_in o)) (others_there i e.1) ∙ stay_by_senders k (drop_of k (args + 1)) dropped.sender i h
  ]

  old_there : (active_birth k ≡ k.rest.next → ⊥) → object_at (enter_with k args new) (active_birth k) ≡ Some (Ctx (popped (args + 1) (active_context k)))
  unfolding drop_of
  old_there other = others_there (active_birth k) other ∙ object_at-put_same k (active_birth k) (Ctx (popped (args + 1) (active_context k)))

  linked : (active_birth k ≡ k.rest.next → ⊥) → sender_birth (enter_with k args new) k.rest.next ≡ Some (active_birth k)
  linked other =
      ap (λ o. option_and_then (λ c. context_birth (enter_with k args new) c.sender) (context_in o)) new_there
      ∙ ap (context_birth (enter_with k args new)) by
      ∙ ap (λ o. option_and_then (λ (c : Context). Some (active_birth k)) (context_in o)) (old_there other)

  -- the caller's frame has at most 57 values fewer, and every other one as many as before
  caller_words : (active_birth k ≡ k.rest.next → ⊥) → args < 57 → frame_words k (active_birth k) ≤ frame_words (enter_with k args new) (active_birth k) + 57
  caller_words other few =
      let new : frame_words (enter_with k args new) (active_birth k) ≡ 10 + length (popped (args + 1) (active_context k)).stack = ap (λ o. 10 + depth_if (context_in o)) (old_there other) in
      let old : frame_words k (active_birth k) ≡ 10 + depth_of k = ap (λ o. 10 + depth_if (context_in o)) found in
      omega (arith, few, new, old, length-take (depth_of k - (args + 1)) (stack_of k))

  other_words : (i : ℕ) → (i ≡ k.rest.next → ⊥) → (i ≡ active_birth k → ⊥) → frame_words (enter_with k args new) i ≡ frame_words k i
  other_words i new old = ap (λ n. 10 + n) (ap (λ o. depth_if (context_in o)) (others_there i new) ∙ dropped.depth i old)

  page_there : (is : List ℕ) → (active_birth k ≡ k.rest.next → ⊥) → ((i : ℕ) → is_on i is ≡ true → frame_words (enter_with k args new) i ≡ frame_words k i) → args < 57
      → 4096 < page_words k (active_birth k ∷ is) + 66 → 3900 < page_words (enter_with k args new) (active_birth k ∷ is)
  unfolding page_words
  page_there is other words few full = omega (arith, full, caller_words other few, page_same (enter_with k args new) k is words)

  entered_stack : IsRunning v → args < 57 → (pages : List (List ℕ)) → IsStack k pages → IsApart (concat (entered k k.rest.next pages)) → IsStack v (entered k k.rest.next pages)
  entered_stack ready few pages h apart = go pages (top (active_birth k) pages (h.active ∙ known)) h apart
    where
      go : (pages : List (List ℕ)) → Topped (active_birth k) pages → IsStack k pages → IsApart (concat (entered k k.rest.next pages)) → IsStack v (entered k k.rest.next pages)
      go _ (topped is rest) h apart = fits (nat_le (page_words k (active_birth k ∷ is) + 66) 4096) refl apart
        where
          all : List ℕ
          all = active_birth k ∷ is ++ concat rest

          fresh : IsApart (k.rest.next ∷ all) → (i : ℕ) → is_on i all ≡ true → i ≡ k.rest.next → ⊥
          fresh a i on = apart_from k.rest.next i all a.0 on

          words : IsApart (k.rest.next ∷ all) → (i : ℕ) → is_on i (is ++ concat rest) ≡ true → frame_words (enter_with k args new) i ≡ frame_words k i
          words a i on = other_words i (fresh a i (on_later i (active_birth k) (is ++ concat rest) on)) (apart_from (active_birth k) i (is ++ concat rest) h.apart.0 on)

          called : IsApart (k.rest.next ∷ all) → IsCalled (enter_with k args new) (k.rest.next ∷ all)
          called a = (
            linked (fresh a (active_birth k) (on_first (active_birth k) (is ++ concat rest))),
            called_stays k (enter_with k args new) contexts_stay all (λ i on. sender_there i (fresh a i on)) h.called,
          )

          filled : IsApart (k.rest.next ∷ all) → AllByRecursion (λ page. 3900 < page_words (enter_with k args new) page) rest
          filled a = filled_same (enter_with k args new) k rest (λ i on. words a i (on_right i is (concat rest) on)) h.filled

          has : Has v k.rest.next
          has = running_has v k.rest.next ready new_active

          fits : (b : Bool) → nat_le (page_words k (active_birth k ∷ is) + 66) 4096 ≡ b
              → IsApart (concat (if b then (k.rest.next ∷ active_birth k ∷ is) ∷ rest else (k.rest.next ∷ []) ∷ (active_birth k ∷ is) ∷ rest))
              → IsStack v (if b then (k.rest.next ∷ active_birth k ∷ is) ∷ rest else (k.rest.next ∷ []) ∷ (active_birth k ∷ is) ∷ rest)
          fits true e a =
              stack_on (enter_with k args new) (enter_with k args new) v keeps (λ i h. h) k.rest.next (active_birth k ∷ is) rest new_active has (called a) a (λ i on. refl) (λ i on. refl) (filled a)
          fits false e a =
              let full : 4096 < page_words k (active_birth k ∷ is) + 66 = grind (arith, nat_tests, e) in
              let page = page_there is (fresh a (active_birth k) (on_first (active_birth k) (is ++ concat rest))) (λ i on. words a i (on_left i is (concat rest) on)) few full in
              stack_on (enter_with k args new) (enter_with k args new) v keeps (λ i h. h) k.rest.next [] ((active_birth k ∷ is) ∷ rest) new_active has (called a) a (λ i on. refl) (λ i on. refl) (page, filled a)

  pub entered_stacked : IsRunning v → args < 57 → (old new : Option Layout) (s : Store) → LaidBy (entered k k.rest.next) old new → IsStacked k old → IsLaidOut s v new → IsStacked v new
  entered_stacked ready few None new s laid h there = subst (IsStacked v) (sym laid) tt
  entered_stacked ready few (Some l) new s laid h there =
      subst (λ n. IsLaidOut s v n → IsStacked v n) (sym laid) (λ there. entered_stack ready few l.pages h there.apart) there

-- ---- leaving

-- no page has a context that none of their frames is
none_on : (i : ℕ) (pages : List (List ℕ)) → is_on i (concat pages) ≡ false → (filter (is_on i) pages ≡ []) × (filter (λ page. not (is_on i page)) pages ≡ pages)
none_on i [] h = (refl, refl)
none_on i (page ∷ pages) h =
    let off = off_both i page (concat pages) h in
    let rest = none_on i pages off.1 in (
      ap (λ b. if b then page ∷ filter (is_on i) pages else filter (is_on i) pages) off.0 ∙ rest.0,
      ap (λ b. if not b then page ∷ filter (λ page. not (is_on i page)) pages else filter (λ page. not (is_on i page)) pages) off.0 ∙ ap (λ ps. page ∷ ps) rest.1,
    )

-- the last frame of the first page is touched where it is
pub touched_first : (i : ℕ) (is : List ℕ) (pages : List (List ℕ)) → is_on i (concat pages) ≡ false → touched i ((i ∷ is) ∷ pages) ≡ (i ∷ is) ∷ pages
touched_first i is pages h =
    let rest = none_on i pages h in
    go (is_on i (i ∷ is)) (on_first i is) rest.0 rest.1
  where
    go : (b : Bool) → b ≡ true → filter (is_on i) pages ≡ [] → filter (λ page. not (is_on i page)) pages ≡ pages
        → (if b || is_frame i pages then
        (if b then (i ∷ is) ∷ filter (is_on i) pages else filter (is_on i) pages)
        ++ (if not b then (i ∷ is) ∷ filter (λ page. not (is_on i page)) pages else filter (λ page. not (is_on i page)) pages)
        else (i ∷ []) ∷ (i ∷ is) ∷ pages) ≡ (i ∷ is) ∷ pages
    go true e none all = ap (λ ps. ((i ∷ is) ∷ ps) ++ filter (λ page. not (is_on i page)) pages) none ∙ ap (λ ps. (i ∷ is) ∷ ps) all
    go false e none all = absurd (cc)

module _ (k v : Kept) (target : ℕ) (x : Ref) (keeps : Keeps v (cut_to_of k (active_birth k ∷ []) target x)) (runs : IsRunning k) (sent : sender_birth k (active_birth k) ≡ Some target)
    (other : target ≡ active_birth k → ⊥) where
  -- the active context dies, and the target is active before the value is pushed
  killed : Kept
  killed = resume_of (kill_of k (active_birth k)) target

  killed_there : object_at killed (active_birth k) ≡ Some (Ctx (dead k.rest.nil (active_context k)))
  unfolding resume_of kill_of killed
  killed_there =
      ap (λ o. object_at (edit_found (dead_object k.rest.nil) (active_birth k) o k) (active_birth k)) runs.found
      ∙ object_at-put_same k (active_birth k) (Ctx (dead k.rest.nil (active_context k)))

  others_stay : (i : ℕ) → (i ≡ active_birth k → ⊥) → object_at killed i ≡ object_at k i
  unfolding resume_of kill_of killed
  others_stay i apart =
      ap (λ o. object_at (edit_found (dead_object k.rest.nil) (active_birth k) o k) i) runs.found
      ∙ object_at-put_other k (active_birth k) i (Ctx (dead k.rest.nil (active_context k))) apart

  target_there : is_some (context_in (object_at k target)) ≡ true
  target_there = go (active_context k).sender (sym (ap (λ o. option_and_then (λ c. context_birth k c.sender) (context_in o)) runs.found) ∙ sent)
    where
      go : (y : Ref) → context_birth k y ≡ Some target → is_some (context_in (object_at k target)) ≡ true
      go (ref.Small a) e = absurd (cc)
      go (ref.Char c) e = absurd (cc)
      go (ref.Obj i) e = by (context_in (object_at k i)) refl e
        where
          by : (o : Option Context) → context_in (object_at k i) ≡ o → option_and_then (λ c. Some i) o ≡ Some target → is_some (context_in (object_at k target)) ≡ true
          by None p q = absurd (cc)
          by (Some c) p q =
              let at : i ≡ target = ap (λ o. unwrap_or o i) q in
              subst (λ n. is_some (context_in (object_at k n)) ≡ true) at (ap is_some p)

  target_runs : Runs killed
  unfolding resume_of active_context killed
  target_runs = go (context_in (object_at killed target)) (ap (λ o. is_some (context_in o)) (others_stay target other) ∙ target_there)
    where
      go : (o : Option Context) → is_some o ≡ true → o ≡ Some (unwrap_or o blank_context)
      go None h = absurd (false≢true h)
      go (Some c) h = refl

  cut_stays : Stays killed (cut_to_of k (active_birth k ∷ []) target x)
  unfolding cut_to_of kill_all resume_of killed
  cut_stays = push_stays killed x target_runs

  cut_active : v.rest.active ≡ Some target
  unfolding resume_of killed
  cut_active = ap (λ (r : Rest). r.active) keeps.rest ∙ ap (λ (r : Rest). r.active) cut_stays.rest

  cut_sender : (i : ℕ) → (i ≡ active_birth k → ⊥) → sender_in (object_at (cut_to_of k (active_birth k ∷ []) target x) i) ≡ sender_in (object_at k i)
  cut_sender i apart = cut_stays.sender i ∙ ap sender_in (others_stay i apart)

  cut_depth : (i : ℕ) → (i ≡ active_birth k → ⊥) → (i ≡ target → ⊥) → depth_if (context_in (object_at (cut_to_of k (active_birth k ∷ []) target x) i)) ≡ depth_if (context_in (object_at k i))
  unfolding resume_of killed
  cut_depth i apart from = cut_stays.depth i from ∙ ap (λ o. depth_if (context_in o)) (others_stay i apart)

  cut_contexts : ContextsStay k (cut_to_of k (active_birth k ∷ []) target x)
  cut_contexts i h = stay_by_senders killed (cut_to_of k (active_birth k ∷ []) target x) cut_stays.sender i
      (elim (eqb_tells i (active_birth k)) [
        | inl e ↦ ap (λ n. is_some (context_in (object_at killed n))) e.1 ∙ ap (λ o. is_some (context_in o)) killed_there
        | inr e ↦ ap (λ o. is_some (context_in o)) (others_stay i e.1) ∙ h
      ])

  -- what is left of the chain, with the target in front
  rest_stack : IsRunning v → (is : List ℕ) (pages : List (List ℕ)) → IsCalled k (target ∷ is ++ concat pages) → IsApart (active_birth k ∷ target ∷ is ++ concat pages)
      → AllByRecursion (λ page. 3900 < page_words k page) pages → IsStack v ((target ∷ is) ∷ pages)
  rest_stack ready is pages called apart filled =
      stack_on k (cut_to_of k (active_birth k ∷ []) target x) v keeps cut_contexts target is pages cut_active (running_has v target ready cut_active) called apart.1
      (λ i on. cut_sender i (apart_from (active_birth k) i (target ∷ is ++ concat pages) apart.0 on))
      (λ i on. cut_depth i (apart_from (active_birth k) i (target ∷ is ++ concat pages) apart.0 (on_later i target (is ++ concat pages) (on_right i is (concat pages) on)))
      (apart_from target i (is ++ concat pages) apart.1.0 (on_right i is (concat pages) on)))
      filled

  alone_stack : IsStack v ((target ∷ []) ∷ [])
  alone_stack = record { active = sym cut_active; called = tt; apart = (refl, tt); filled = tt }

  is_target : (j : ℕ) → sender_birth k (active_birth k) ≡ Some j → j ≡ target
  is_target j h = ap (λ o. unwrap_or o j) (sym h ∙ sent)

  empty_words : 3900 < page_words k [] → ⊥
  unfolding page_words
  empty_words h = omega (arith, h)

  left_stack : IsRunning v → (pages : List (List ℕ)) → IsStack k pages → IsStack v (left target pages)
  left_stack ready pages h = go pages (top (active_birth k) pages (h.active ∙ runs.known)) h
    where
      behind : (rest : List (List ℕ)) → IsStack k ((active_birth k ∷ []) ∷ rest) → IsStack v (touched target rest)
      behind [] h = alone_stack
      behind ([] ∷ rest) h = absurd (empty_words h.filled.0)
      behind ((j ∷ js) ∷ rest) h =
          let at : j ≡ target = is_target j h.called.0 in
          let stack = rest_stack ready js rest (subst (λ n. IsCalled k (n ∷ js ++ concat rest)) at h.called.1) (subst (λ n. IsApart (active_birth k ∷ n ∷ js ++ concat rest)) at h.apart) h.filled.1 in
          let off = (off_both target js (concat rest) (subst (λ n. is_on n (js ++ concat rest) ≡ false) at h.apart.1.0)).1 in
          subst (λ n. IsStack v (touched target ((n ∷ js) ∷ rest))) (sym at) (subst (IsStack v) (sym (touched_first target js rest off)) stack)

      go : (pages : List (List ℕ)) → Topped (active_birth k) pages → IsStack k pages → IsStack v (left target pages)
      go _ (topped [] rest) h = behind rest h
      go _ (topped (j ∷ js) rest) h =
          let at : j ≡ target = is_target j h.called.0 in
          subst (λ n. IsStack v ((n ∷ js) ∷ rest)) (sym at)
          (rest_stack ready js rest (subst (λ n. IsCalled k (n ∷ js ++ concat rest)) at h.called.1) (subst (λ n. IsApart (active_birth k ∷ n ∷ js ++ concat rest)) at h.apart) h.filled)

  pub left_stacked : IsRunning v → (old new : Option Layout) → LaidBy (left target) old new → IsStacked k old → IsStacked v new
  left_stacked ready None new laid h = subst (IsStacked v) (sym laid) tt
  left_stacked ready (Some l) new laid h = subst (IsStacked v) (sym laid) (left_stack ready l.pages h)

-- ---- at the beginning

first_frame : (i : ℕ) (is : List ℕ) (pages : List (List ℕ)) → is_frame i ((i ∷ is) ∷ pages) ≡ true
first_frame i is pages = ap (λ b. b || is_frame i pages) (on_first i is)

no_frame : 0 < 0 → ⊥
no_frame h = omega (arith, h)

-- the active context has a frame alone
fresh_stack : (s : Store) (k : Kept) (l : Layout) (active : ℕ) → k.rest.active ≡ Some active → IsLaid s k l → ((birth : ℕ) → is_frame birth l.pages ≡ true → k.rest.active ≡ Some birth) → IsStack k l.pages
fresh_stack s k l active known laid fresh = go l.pages (top active l.pages (laid.active active known)) laid.pages laid.apart fresh
  where
    go : (pages : List (List ℕ)) → Topped active pages → AllByRecursion (IsPage k) pages → IsApart (concat pages) → ((birth : ℕ) → is_frame birth pages ≡ true → k.rest.active ≡ Some birth) → IsStack k pages
    go _ (topped is rest) all apart fresh = record { active = sym known; called = subst (IsCalled k) (same rest all.1 refl) all.0.called; apart = apart; filled = none rest all.1 refl }
      where
        -- a second frame would be the active one again
        second : (j : ℕ) (js : List ℕ) (pages : List (List ℕ)) → rest ≡ (j ∷ js) ∷ pages → ⊥
        second j js pages e =
            let on : is_frame j rest ≡ true = ap (is_frame j) e ∙ first_frame j js pages in
            let frame : is_frame j ((active ∷ is) ∷ rest) ≡ true = frame_of_all j ((active ∷ is) ∷ rest) ∙ on_later j active (is ++ concat rest) (on_right j is (concat rest) (sym (frame_of_all j rest) ∙ on)) in
            let at : active ≡ j = ap (λ o. unwrap_or o active) (sym known ∙ fresh j frame) in
            apart_from active j (is ++ concat rest) apart.0 (on_right j is (concat rest) (sym (frame_of_all j rest) ∙ on)) (sym at)

        same : (pages : List (List ℕ)) → AllByRecursion (IsPage k) pages → rest ≡ pages → active ∷ is ≡ active ∷ is ++ concat rest
        same [] h e = sym (ap (λ ps. active ∷ is ++ concat ps) e ∙ ap (λ js. active ∷ js) (append-nil is))
        same ([] ∷ pages) h e = absurd (no_frame h.0.some)
        same ((j ∷ js) ∷ pages) h e = absurd (second j js pages e)

        none : (pages : List (List ℕ)) → AllByRecursion (IsPage k) pages → rest ≡ pages → AllByRecursion (λ page. 3900 < page_words k page) rest
        none [] h e = subst (AllByRecursion (λ page. 3900 < page_words k page)) (sym e) tt
        none ([] ∷ pages) h e = absurd (no_frame h.0.some)
        none ((j ∷ js) ∷ pages) h e = absurd (second j js pages e)

pub fresh_stacked : (s : Store) (k : Kept) (l : Option Layout) → IsRunning k → IsFresh k l → IsLaidOut s k l → IsStacked k l
fresh_stacked s k None running fresh laid = tt
fresh_stacked s k (Some l) running fresh laid = fresh_stack s k l (active_birth k) running.known laid fresh

-- ---- what a part of a step does to the pages

-- a method takes at most 15 arguments
pub few_arguments : (k : Kept) (x : Ref) (args : ℕ) → arguments_of k x ≡ args → args < 16
few_arguments k x args count = omega (arith, count)

pub stays_lays : (k t v : Kept) → Stays k t → Keeps v t → IsRunning v → (old new : Option Layout) → new ≡ old → (s : Store) → Lays k old s v new
stays_lays k t v stays keeps running old new still s = record {
  frames = frames_stay old new v still;
  stacked = λ h there. subst (IsStacked v) (sym still) (settled_stacked k t v old stays keeps running h);
}

-- a context that the active one sends, where at most 56 arguments leave with their receiver
pub entered_lays : (k v : Kept) (args : ℕ) (new : Context → Context) → Keeps v (enter_with k args new) → k.rest.active ≡ Some (active_birth k) → object_at k (active_birth k) ≡ Some (Ctx (active_context k))
    → (new (active_context k)).sender ≡ ref.Obj (active_birth k) → IsRunning v → args < 57 → (old new_layout : Option Layout) (s : Store) → LaidBy (entered k k.rest.next) old new_layout → Lays k old s v new_layout
entered_lays k v args new keeps known found by running few old next s laid = record {
  frames = entered_frames k v k.rest.next old next (new_active k v args new keeps known found by) laid;
  stacked = entered_stacked k v args new keeps known found by running few old next s laid;
}

-- the state that entering a method leaves
entering : (k : Kept) (x : Ref) (args : ℕ) (skip : Bool) → (enter_out k x args skip).state ≡ enter_with k args (method_context k x args skip)
unfolding enter_out made_context enter_of
entering k x args skip = refl

pub method_lays : (k v : Kept) (x : Ref) (args : ℕ) (skip : Bool) → Keeps v (enter_out k x args skip).state → IsRunning k → IsRunning v → args < 16 → (old new : Option Layout) (s : Store)
    → LaidBy (entered k k.rest.next) old new → Lays k old s v new
method_lays k v x args skip keeps runs running few old new s laid =
    entered_lays k v args (method_context k x args skip) (subst (Keeps v) (entering k x args skip) keeps) runs.known runs.found refl running (omega (arith, few)) old new s laid

pub left_lays : (k v : Kept) (target : ℕ) (x : Ref) → Keeps v (cut_to_of k (active_birth k ∷ []) target x) → IsRunning k → sender_birth k (active_birth k) ≡ Some target → (target ≡ active_birth k → ⊥) → IsRunning v
    → (old new : Option Layout) (s : Store) → LaidBy (left target) old new → Lays k old s v new
left_lays k v target x keeps runs sent other running old new s laid = record {
  frames = left_frames v target old new (cut_active k v target x keeps runs sent other) laid;
  stacked = λ h there. left_stacked k v target x keeps runs sent other running old new laid h;
}

-- from a state whose stack of pages is one of the state before
pub lays_before : (u k v : Kept) (l n : Option Layout) (s : Store) → (IsStacked k l → IsStacked u l) → Lays u l s v n → Lays k l s v n
lays_before u k v l n s before h = record { frames = h.frames; stacked = λ stacked there. h.stacked (before stacked) there }

-- ---- a stack of full pages is deep

-- all that has a frame is there
frames_there : (v : Kept) → Keeps v v → IsRunning v → (pages : List (List ℕ)) → IsStack v pages → AllByRecursion (Has v) (concat pages)
frames_there v closed running pages h = go pages (top (active_birth v) pages (h.active ∙ running.known)) h
  where
    go : (pages : List (List ℕ)) → Topped (active_birth v) pages → IsStack v pages → AllByRecursion (Has v) (concat pages)
    go _ (topped is rest) h = (chain_kept v v closed (active_birth v ∷ is ++ concat rest) (running_has v (active_birth v) running running.known) h.called).all

rest_words : (v : Kept) (pages : List (List ℕ)) → AllByRecursion (λ page. 3900 < page_words v page) pages → 3900 * length pages ≤ page_words v (concat pages)
unfolding page_words
rest_words v [] h = omega arith
rest_words v (page ∷ pages) h = omega (arith, h.0, rest_words v pages h.1, page_words_of v page (concat pages))

pub stack_words : (v : Kept) (pages : List (List ℕ)) (most : ℕ) → IsRunning v → IsStack v pages → length pages ≡ most → 3900 < page_words v (first_page pages) → 3900 * most < page_words v (concat pages)
stack_words v pages most running h count full = go pages (top (active_birth v) pages (h.active ∙ running.known)) h count full
  where
    go : (pages : List (List ℕ)) → Topped (active_birth v) pages → IsStack v pages → length pages ≡ most → 3900 < page_words v (first_page pages) → 3900 * most < page_words v (concat pages)
    go _ (topped is rest) h count full = omega (arith, count, full, rest_words v rest h.filled, page_words_of v (active_birth v ∷ is) (concat rest))

-- the chain of all frames, in a state that is kept
pub stack_called : (v m : Kept) → Keeps v m → IsRunning v → (pages : List (List ℕ)) → IsStack v pages → IsCalled m (concat pages)
stack_called v m keeps running pages h = called_in (concat pages) (frames_there v (Keeps-itself keeps) running pages h) h.called
  where
    called_in : (xs : List ℕ) → AllByRecursion (Has v) xs → IsCalled v xs → IsCalled m xs
    called_in [] a c = tt
    called_in (i ∷ []) a c = tt
    called_in (i ∷ j ∷ is) a c = (option_equal (sender_birth_same keeps (same i a.0)) ∙ c.0, called_in (j ∷ is) a.1 c.1)

pub stack_active : (v : Kept) (pages : List (List ℕ)) → IsRunning v → IsStack v pages → last_frame (concat pages) ≡ v.rest.active
stack_active v pages running h = go pages (top (active_birth v) pages (h.active ∙ running.known))
  where
    go : (pages : List (List ℕ)) → Topped (active_birth v) pages → last_frame (concat pages) ≡ v.rest.active
    go _ (topped is rest) = sym running.known
