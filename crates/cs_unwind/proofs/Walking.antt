-- The steps of the searches along contexts.
use Rattle.std.proofs.Common.{◌≡◌, ◌≢◌, ◌∙◌, ℕ, zero, suc, ◌+◌, ◌-◌, ◌<◌, ◌≤◌, ◌==◌, ◌||◌, Bool, true, false, refl, sym, ap, ap₂, subst, arith, Option, Some, None, IsSome, IfSome, is_some, List, [], ◌∷◌, ◌++◌}
use Rattle.std.specs.Prelude.{if◌then◌else◌}
use Rattle.std.proofs.lemmas.Bool.Decides.{nat_tests}
use Rattle.cs_model.specs.Obj.{is_context_at}
use Rattle.cs_model.specs.State.{Kept, is_nil, object_at}
use Rattle.cs_model.specs.Read.{active_birth}
use Rattle.cs_model.specs.End.{given}
use Rattle.cs_model.specs.Return.{Home, HomeAt, NoHome, HomeTooFar, Search, closure_at, first_marked, home, is_among, is_marked, links, outer_birth, passing, search_home, search_senders, sender_birth, senders_to, unwind_mark}
use Rattle.cs_model.specs.Return as model
use Rattle.cs_acts.specs.declared.act.Act.{Act}
use Rattle.cs_unwind.specs.declared.search.Passed.{Passed}
use Rattle.cs_unwind.proofs.Marked.{if_context, sender_context}
use Rattle.cs_unwind.specs.Walked.{EndsBefore, HasHome, MeetsHome, SeeksHome, Sees, ActStands, Walks, found_behind}

pub links_is : links ≡ 1048576
unfolding links
links_is = refl

all_links : links ≡ links - 0
all_links = omega arith

one_link : (n : ℕ) → n < 1048576 → links - n ≡ suc (links - (n + 1))
one_link n few = omega (arith, links_is, few)

no_link : (n : ℕ) → 1048576 ≤ n → links - n ≡ 0
no_link n many = omega (arith, links_is, many)

-- what is told of the context that an act stands for
pub told : (P : ℕ → Type 0) {o : Option ℕ} {i : ℕ} → IfSome o P → o ≡ Some i → P i
told P {o} {i} h e = let there : IfSome (Some i) P = subst (λ p. IfSome p P) e h in there

pub stands_some : {o : Option ℕ} {i : ℕ} → o ≡ Some i → IsSome o
stands_some {o} {i} e = ap is_some e

pub at_same : {o : Option ℕ} {i j : ℕ} (P : ℕ → Type 0) → o ≡ Some i → o ≡ Some j → P i → P j
at_same {o} {i} {j} P e f p = let both : Some i ≡ Some j = sym e ∙ f in let same : i ≡ j = cc in subst P same p

pub not_some : {A : Type 0} (o : Option A) → is_some o ≡ false → o ≡ None
not_some None e = refl
not_some (Some a) e = absurd (cc)

-- ---- homes

home_now : (n : ℕ) (k : Kept) (i : ℕ) → is_nil k (closure_at k i) ≡ true → search_home n k i ≡ HomeAt i
unfolding search_home
home_now zero k i h = ap (λ (b : Bool). if b then HomeAt i else if is_some (outer_birth k (closure_at k i)) then HomeTooFar else NoHome) h
home_now (suc n) k i h = ap (λ (b : Bool). if b then HomeAt i else given (outer_birth k (closure_at k i)) NoHome (λ outer. search_home n k outer)) h

home_nowhere : (n : ℕ) (k : Kept) (i : ℕ) → is_nil k (closure_at k i) ≡ false → outer_birth k (closure_at k i) ≡ None → search_home n k i ≡ NoHome
unfolding search_home
home_nowhere zero k i h e = ap₂ (λ (b : Bool) (o : Option ℕ). if b then HomeAt i else if is_some o then HomeTooFar else NoHome) h e
home_nowhere (suc n) k i h e = ap₂ (λ (b : Bool) (o : Option ℕ). if b then HomeAt i else given o NoHome (λ outer. search_home n k outer)) h e

home_outer : (n : ℕ) (k : Kept) (i j : ℕ) → is_nil k (closure_at k i) ≡ false → outer_birth k (closure_at k i) ≡ Some j → search_home (suc n) k i ≡ search_home n k j
unfolding search_home
home_outer n k i j h e = ap₂ (λ (b : Bool) (o : Option ℕ). if b then HomeAt i else given o NoHome (λ outer. search_home n k outer)) h e

home_far : (k : Kept) (i : ℕ) → is_nil k (closure_at k i) ≡ false → is_some (outer_birth k (closure_at k i)) ≡ true → search_home 0 k i ≡ HomeTooFar
unfolding search_home
home_far k i h e = ap₂ (λ (b c : Bool). if b then HomeAt i else if c then HomeTooFar else NoHome) h e

module _ (act : Act → Option ℕ) (k : Kept) where
  pub seek : (a : Act) → act a ≡ Some (active_birth k) → SeeksHome act k 0 a
  unfolding home
  seek a e = record { birth = active_birth k; stands = e; is = ap (λ n. search_home n k (active_birth k)) all_links }

  pub sought : (n : ℕ) (a : Act) (b : Bool) → SeeksHome act k n a → IfSome (act a) (λ birth. b ≡ is_nil k (closure_at k birth)) → b ≡ true → HasHome act k a
  sought n a b s h e = record { birth = s.birth; stands = s.stands; is = s.is ∙ home_now (links - n) k s.birth (sym (told _ h s.stands) ∙ e) }

  pub sought_nowhere : (n : ℕ) (a : Act) (b : Bool) (o : Option Act) → SeeksHome act k n a → IfSome (act a) (λ birth. b ≡ is_nil k (closure_at k birth)) → b ≡ false
      → IfSome (act a) (λ birth. ActStands act o (outer_birth k (closure_at k birth))) → o ≡ None → home k (active_birth k) ≡ NoHome
  sought_nowhere n a b o s h e outer none =
      let no : outer_birth k (closure_at k s.birth) ≡ None = subst (λ (p : Option Act). ActStands act p (outer_birth k (closure_at k s.birth))) none (told _ outer s.stands) in
      s.is ∙ home_nowhere (links - n) k s.birth (sym (told _ h s.stands) ∙ e) no

  pub seek_on : (n : ℕ) (a next : Act) (b : Bool) (o : Option Act) → SeeksHome act k n a → IfSome (act a) (λ birth. b ≡ is_nil k (closure_at k birth)) → b ≡ false
      → IfSome (act a) (λ birth. ActStands act o (outer_birth k (closure_at k birth))) → o ≡ Some next → n < 1048576 → SeeksHome act k (n + 1) next
  seek_on n a next b o s h e outer some few = go (outer_birth k (closure_at k s.birth)) refl at
    where
      at : ActStands act (Some next) (outer_birth k (closure_at k s.birth))
      at = subst (λ (p : Option Act). ActStands act p (outer_birth k (closure_at k s.birth))) some (told _ outer s.stands)

      go : (p : Option ℕ) → outer_birth k (closure_at k s.birth) ≡ p → (act next ≡ p) × IsSome p → SeeksHome act k (n + 1) next
      go None f there = absurd (cc)
      go (Some j) f there = record {
        birth = j;
        stands = there.0;
        is = s.is ∙ ap (λ m. search_home m k s.birth) (one_link n few) ∙ home_outer (links - (n + 1)) k s.birth j (sym (told _ h s.stands) ∙ e) f;
      }

  pub sought_far : (n : ℕ) (a : Act) (b : Bool) (o : Option Act) → SeeksHome act k n a → IfSome (act a) (λ birth. b ≡ is_nil k (closure_at k birth)) → b ≡ false
      → IfSome (act a) (λ birth. ActStands act o (outer_birth k (closure_at k birth))) → is_some o ≡ true → 1048576 ≤ n → home k (active_birth k) ≡ HomeTooFar
  sought_far n a b o s h e outer some many = go o some (told _ outer s.stands)
    where
      go : (p : Option Act) → is_some p ≡ true → ActStands act p (outer_birth k (closure_at k s.birth)) → home k (active_birth k) ≡ HomeTooFar
      go None f there = absurd (cc)
      go (Some x) f there = s.is ∙ ap (λ m. search_home m k s.birth) (no_link n many) ∙ home_far k s.birth (sym (told _ h s.stands) ∙ e) there.1

-- ---- marks, and the target

pub among_more : (i j : ℕ) (xs : List ℕ) → is_among i (xs ++ j ∷ []) ≡ (is_among i xs || (i == j))
among_more i j [] = last (i == j)
  where
    last : (b : Bool) → (b || false) ≡ (false || b)
    last true = refl
    last false = refl
among_more i j (x ∷ xs) = ap (λ (b : Bool). (i == x) || b) (among_more i j xs) ∙ turn (i == x) (is_among i xs) (i == j)
  where
    turn : (a b c : Bool) → (a || (b || c)) ≡ ((a || b) || c)
    turn true b c = refl
    turn false b c = refl

first_more : (k : Kept) (number i : ℕ) (xs : List ℕ) → first_marked k number (xs ++ i ∷ []) ≡ given (first_marked k number xs) (if is_marked k number i then Some i else None) (λ j. Some j)
unfolding first_marked
first_more k number i [] = refl
first_more k number i (x ∷ xs) = go (is_marked k number x) (first_more k number i xs)
  where
    go : (b : Bool) → first_marked k number (xs ++ i ∷ []) ≡ given (first_marked k number xs) (if is_marked k number i then Some i else None) (λ j. Some j)
        → (if b then Some x else first_marked k number (xs ++ i ∷ [])) ≡ given (if b then Some x else first_marked k number xs) (if is_marked k number i then Some i else None) (λ j. Some j)
    go true h = refl
    go false h = h

module _ (act : Act → Option ℕ) (k : Kept) (xs : List ℕ) (i : ℕ) where
  -- a mark was found before
  pub mark_stays : (mark : Option Act) → is_some mark ≡ true → ActStands act mark (first_marked k unwind_mark xs) → ActStands act mark (first_marked k unwind_mark (xs ++ i ∷ []))
  mark_stays None e h = absurd (cc)
  mark_stays (Some a) e h = subst (λ (o : Option ℕ). (act a ≡ o) × IsSome o) (sym (first_more k unwind_mark i xs ∙ same (first_marked k unwind_mark xs) h.1)) h
    where
      same : (o : Option ℕ) → IsSome o → given o (if is_marked k unwind_mark i then Some i else None) (λ j. Some j) ≡ o
      same None s = absurd (cc)
      same (Some j) s = refl

  no_mark : (mark : Option Act) → is_some mark ≡ false → ActStands act mark (first_marked k unwind_mark xs) → first_marked k unwind_mark (xs ++ i ∷ []) ≡ (if is_marked k unwind_mark i then Some i else None)
  no_mark None e h = first_more k unwind_mark i xs ∙ ap (λ (o : Option ℕ). given o (if is_marked k unwind_mark i then Some i else None) (λ j. Some j)) h
  no_mark (Some a) e h = absurd (cc)

  -- this one is the first that is marked
  pub mark_found : (mark : Option Act) (a : Act) (b : Bool) → is_some mark ≡ false → act a ≡ Some i → IfSome (act a) (λ birth. b ≡ is_marked k unwind_mark birth) → b ≡ true
      → ActStands act mark (first_marked k unwind_mark xs) → ActStands act (Some a) (first_marked k unwind_mark (xs ++ i ∷ []))
  mark_found mark a b none at marked e h =
      let now : first_marked k unwind_mark (xs ++ i ∷ []) ≡ Some i = no_mark mark none h ∙ ap (λ (c : Bool). if c then Some i else None) (sym (told _ marked at) ∙ e) in
      subst (λ (o : Option ℕ). (act a ≡ o) × IsSome o) (sym now) (at, refl)

  pub mark_missing : (mark : Option Act) (a : Act) (b : Bool) → is_some mark ≡ false → act a ≡ Some i → IfSome (act a) (λ birth. b ≡ is_marked k unwind_mark birth) → b ≡ false
      → ActStands act mark (first_marked k unwind_mark xs) → first_marked k unwind_mark (xs ++ i ∷ []) ≡ None
  mark_missing mark a b none at marked e h = no_mark mark none h ∙ ap (λ (c : Bool). if c then Some i else None) (sym (told _ marked at) ∙ e)

-- ---- senders

behind_met : (xs : List ℕ) → found_behind xs (model.Met []) ≡ model.Met xs
unfolding found_behind
behind_met [] = refl
behind_met (x ∷ xs) = ap (passing x) (behind_met xs)

behind_ended : (xs : List ℕ) → found_behind xs (model.Ended []) ≡ model.Ended xs
unfolding found_behind
behind_ended [] = refl
behind_ended (x ∷ xs) = ap (passing x) (behind_ended xs)

behind_far : (xs : List ℕ) → found_behind xs model.TooLong ≡ model.TooLong
unfolding found_behind
behind_far [] = refl
behind_far (x ∷ xs) = ap (passing x) (behind_far xs)

behind_more : (xs : List ℕ) (i : ℕ) (s : Search) → found_behind xs (passing i s) ≡ found_behind (xs ++ i ∷ []) s
unfolding found_behind
behind_more [] i s = refl
behind_more (x ∷ xs) i s = ap (passing x) (behind_more xs i s)

ended_now : (n : ℕ) (k : Kept) (goal : ℕ) → search_senders n k goal None ≡ model.Ended []
unfolding search_senders
ended_now zero k goal = refl
ended_now (suc n) k goal = refl

met_now : (n : ℕ) (k : Kept) (goal i : ℕ) → (i == goal) ≡ true → search_senders (suc n) k goal (Some i) ≡ model.Met []
unfolding search_senders
met_now n k goal i e = ap (λ (b : Bool). if b then model.Met [] else passing i (search_senders n k goal (sender_birth k i))) e

passed_now : (n : ℕ) (k : Kept) (goal i : ℕ) → (i == goal) ≡ false → search_senders (suc n) k goal (Some i) ≡ passing i (search_senders n k goal (sender_birth k i))
unfolding search_senders
passed_now n k goal i e = ap (λ (b : Bool). if b then model.Met [] else passing i (search_senders n k goal (sender_birth k i))) e

far_now : (k : Kept) (goal i : ℕ) → search_senders 0 k goal (Some i) ≡ model.TooLong
unfolding search_senders
far_now k goal i = refl

is_goal : (i j : ℕ) → i ≡ j → (i == j) ≡ true
is_goal i j e = grind (arith, nat_tests)

is_other : (i j : ℕ) → i ≢ j → (i == j) ≡ false
is_other i j e = grind (arith, nat_tests)

module _ (act : Act → Option ℕ) (k : Kept) (goal : ℕ) (target : Option Act) where
  pub walk : (next : Option Act) → ActStands act next (sender_birth k (active_birth k)) → Walks act k goal target 0 next (record { mark = None; target = false })
  unfolding senders_to found_behind first_marked
  walk next h = record {
    births = [];
    now = sender_birth k (active_birth k);
    stands = h;
    context = λ i e. sender_context k (active_birth k) i e;
    is = ap (λ n. search_senders n k goal (sender_birth k (active_birth k))) all_links;
    sees = record { mark = refl; meets = λ i s. refl };
  }

  pub walk_ends : (n : ℕ) (next : Option Act) (passed : Passed) → Walks act k goal target n next passed → next ≡ None → EndsBefore k goal
  walk_ends n next passed s none =
      let no : s.now ≡ None = subst (λ (o : Option Act). ActStands act o s.now) none s.stands in
      record { births = s.births; is = s.is ∙ ap (λ (o : Option ℕ). found_behind s.births (search_senders (links - n) k goal o)) no ∙ ap (found_behind s.births) (ended_now (links - n) k goal) ∙ behind_ended s.births }

  at_next : (n : ℕ) (next : Option Act) (a : Act) (passed : Passed) (i : ℕ) → (s : Walks act k goal target n next passed) → next ≡ Some a → act a ≡ Some i → s.now ≡ Some i
  at_next n next a passed i s some at =
      let there : ActStands act (Some a) s.now = subst (λ (o : Option Act). ActStands act o s.now) some s.stands in
      sym there.0 ∙ at

  pub walk_context : (n : ℕ) (next : Option Act) (a : Act) (passed : Passed) (i : ℕ) → Walks act k goal target n next passed → next ≡ Some a → act a ≡ Some i → IfSome (act a) (λ birth. is_context_at (object_at k birth) ≡ true)
  walk_context n next a passed i s some at = if_context k (act a) (λ j e. s.context j (at_next n next a passed j s some e))

  pub walk_meets : (n : ℕ) (next : Option Act) (a : Act) (passed : Passed) (i : ℕ) → Walks act k goal target n next passed → next ≡ Some a → act a ≡ Some i → i ≡ goal → n < 1048576
      → MeetsHome act k goal target passed
  walk_meets n next a passed i s some at e few = record {
    births = s.births;
    is = s.is ∙ ap₂ (λ (m : ℕ) (o : Option ℕ). found_behind s.births (search_senders m k goal o)) (one_link n few) (at_next n next a passed i s some at)
        ∙ ap (found_behind s.births) (met_now (links - (n + 1)) k goal i (is_goal i goal e)) ∙ behind_met s.births;
    sees = s.sees;
  }

  pub walk_on : (n : ℕ) (next : Option Act) (a : Act) (passed more : Passed) (after : Option Act) (i : ℕ) → Walks act k goal target n next passed → next ≡ Some a → act a ≡ Some i → i ≢ goal → n < 1048576
      → ActStands act after (sender_birth k i) → ((births : List ℕ) (birth : ℕ) → act a ≡ Some birth → Sees act k target births passed → Sees act k target (births ++ birth ∷ []) more)
      → Walks act k goal target (n + 1) after more
  walk_on n next a passed more after i s some at e few stands seen = record {
    births = s.births ++ i ∷ [];
    now = sender_birth k i;
    stands = stands;
    context = λ j f. sender_context k i j f;
    is = s.is ∙ ap₂ (λ (m : ℕ) (o : Option ℕ). found_behind s.births (search_senders m k goal o)) (one_link n few) (at_next n next a passed i s some at)
        ∙ ap (found_behind s.births) (passed_now (links - (n + 1)) k goal i (is_other i goal e)) ∙ behind_more s.births i (search_senders (links - (n + 1)) k goal (sender_birth k i));
    sees = seen s.births i at s.sees;
  }

  pub walk_far : (n : ℕ) (next : Option Act) (passed : Passed) → Walks act k goal target n next passed → is_some next ≡ true → 1048576 ≤ n → senders_to k (active_birth k) goal ≡ model.TooLong
  walk_far n next passed s some many = go next some s.now refl s.stands
    where
      go : (o : Option Act) → is_some o ≡ true → (p : Option ℕ) → s.now ≡ p → ActStands act o p → senders_to k (active_birth k) goal ≡ model.TooLong
      go None e p f there = absurd (cc)
      go (Some a) e None f there = absurd (cc)
      go (Some a) e (Some i) f there =
          s.is ∙ ap₂ (λ (m : ℕ) (o : Option ℕ). found_behind s.births (search_senders m k goal o)) (no_link n many) f ∙ ap (found_behind s.births) (far_now k goal i) ∙ behind_far s.births
