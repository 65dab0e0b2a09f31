-- The search for a mark, link by link.
use Rattle.std.proofs.Common.{◌≡◌, ◌∙◌, ℕ, zero, suc, ◌+◌, ◌-◌, ◌<◌, Bool, true, false, refl, sym, ap, arith, Option, Some, None, IsSome, IfSome, is_some, option_map}
use Rattle.std.specs.Prelude.{not, if◌then◌else◌}
use Rattle.cs_model.specs.State.{Kept, object_at}
use Rattle.cs_model.specs.Obj.{is_context_at}
use Rattle.cs_model.specs.PrimUnwind.{Marked, MarkAt, NoMark, MarkTooFar, is_goal, search_mark}
use Rattle.cs_model.specs.Return.{is_marked, links, sender_birth}
use Rattle.cs_unwind.proofs.Marked.{if_context, sender_context}

pub links_are : links ≡ 1048576
unfolding links
links_are = refl

-- ---- one link

ends_nowhere : (n : ℕ) (k : Kept) (number : ℕ) (goal : Option ℕ) → search_mark n k number goal None ≡ NoMark
unfolding search_mark
ends_nowhere zero k number goal = refl
ends_nowhere (suc n) k number goal = refl

at_goal : (n : ℕ) (k : Kept) (number : ℕ) (goal : Option ℕ) (i : ℕ) → is_goal goal i ≡ true → search_mark (suc n) k number goal (Some i) ≡ NoMark
unfolding search_mark
at_goal n k number goal i e = ap (λ (b : Bool). if b then NoMark else if is_marked k number i then MarkAt i else search_mark n k number goal (sender_birth k i)) e

at_mark : (n : ℕ) (k : Kept) (number : ℕ) (goal : Option ℕ) (i : ℕ) → is_goal goal i ≡ false → is_marked k number i ≡ true → search_mark (suc n) k number goal (Some i) ≡ MarkAt i
unfolding search_mark
at_mark n k number goal i e f =
    ap (λ (b : Bool). if b then NoMark else if is_marked k number i then MarkAt i else search_mark n k number goal (sender_birth k i)) e
    ∙ ap (λ (b : Bool). if b then MarkAt i else search_mark n k number goal (sender_birth k i)) f

goes_on : (n : ℕ) (k : Kept) (number : ℕ) (goal : Option ℕ) (i : ℕ) → is_goal goal i ≡ false → is_marked k number i ≡ false → search_mark (suc n) k number goal (Some i) ≡ search_mark n k number goal (sender_birth k i)
unfolding search_mark
goes_on n k number goal i e f =
    ap (λ (b : Bool). if b then NoMark else if is_marked k number i then MarkAt i else search_mark n k number goal (sender_birth k i)) e
    ∙ ap (λ (b : Bool). if b then MarkAt i else search_mark n k number goal (sender_birth k i)) f

no_links : (k : Kept) (number : ℕ) (goal : Option ℕ) (i : ℕ) → search_mark 0 k number goal (Some i) ≡ MarkTooFar
unfolding search_mark
no_links k number goal i = refl

one_less : (n : ℕ) → n < 1048576 → links - n ≡ suc (links - (n + 1))
one_less n less = omega (arith, less, links_are)

-- ---- in the loop

-- the search from o on with the links that are left is the whole search
abbrev pub IsRest : Kept → ℕ → Option ℕ → ℕ → Option ℕ → Marked → Type 0
IsRest k number goal n o whole = search_mark (links - n) k number goal o ≡ whole

pub rest_begins : (k : Kept) (number : ℕ) (goal o : Option ℕ) → IsRest k number goal 0 o (search_mark links k number goal o)
rest_begins k number goal o = ap (λ n. search_mark n k number goal o) (omega arith)

pub rest_ends : (k : Kept) (number : ℕ) (goal o : Option ℕ) (n : ℕ) (whole : Marked) → IsRest k number goal n o whole → true ≡ not (is_some o) → whole ≡ NoMark
rest_ends k number goal None n whole rest e = sym rest ∙ ends_nowhere (links - n) k number goal
rest_ends k number goal (Some i) n whole rest e = absurd (cc)

pub rest_goal : (k : Kept) (number : ℕ) (goal o : Option ℕ) (n : ℕ) (whole : Marked) → IsRest k number goal n o whole → n < 1048576 → IsSome o → IfSome o (λ i. true ≡ is_goal goal i) → whole ≡ NoMark
rest_goal k number goal None n whole rest less there met = absurd (cc)
rest_goal k number goal (Some i) n whole rest less there met =
    sym rest ∙ ap (λ m. search_mark m k number goal (Some i)) (one_less n less) ∙ at_goal (links - (n + 1)) k number goal i (sym met)

pub rest_marked : (k : Kept) (number : ℕ) (goal o : Option ℕ) (n : ℕ) (whole : Marked) → IsRest k number goal n o whole → n < 1048576 → IsSome o → IfSome o (λ i. false ≡ is_goal goal i) → IfSome o (λ i. true ≡ is_marked k number i)
    → option_map (λ i. MarkAt i) o ≡ Some whole
rest_marked k number goal None n whole rest less there met marked = absurd (cc)
rest_marked k number goal (Some i) n whole rest less there met marked =
    ap Some (sym (sym rest ∙ ap (λ m. search_mark m k number goal (Some i)) (one_less n less) ∙ at_mark (links - (n + 1)) k number goal i (sym met) (sym marked)))

pub rest_goes_on : (k : Kept) (number : ℕ) (goal o p : Option ℕ) (n : ℕ) (whole : Marked) → IsRest k number goal n o whole → n < 1048576 → IsSome o → IfSome o (λ i. false ≡ is_goal goal i)
    → IfSome o (λ i. false ≡ is_marked k number i) → IfSome o (λ i. p ≡ sender_birth k i) → IsRest k number goal (n + 1) p whole
rest_goes_on k number goal None p n whole rest less there met marked sender = absurd (cc)
rest_goes_on k number goal (Some i) p n whole rest less there met marked sender =
    ap (λ q. search_mark (links - (n + 1)) k number goal q) sender
    ∙ sym (ap (λ m. search_mark m k number goal (Some i)) (one_less n less) ∙ goes_on (links - (n + 1)) k number goal i (sym met) (sym marked)) ∙ rest

pub rest_too_far : (k : Kept) (number : ℕ) (goal o : Option ℕ) (n : ℕ) (whole : Marked) → IsRest k number goal n o whole → n ≡ 1048576 → false ≡ not (is_some o) → whole ≡ MarkTooFar
rest_too_far k number goal None n whole rest all e = absurd (cc)
rest_too_far k number goal (Some i) n whole rest all e =
    sym rest ∙ ap (λ m. search_mark m k number goal (Some i)) (omega (arith, all, links_are)) ∙ no_links k number goal i

-- a sender is a context
pub if_sender : (k : Kept) (o p : Option ℕ) → IsSome o → IfSome o (λ i. p ≡ sender_birth k i) → IfSome p (λ i. is_context_at (object_at k i) ≡ true)
if_sender k None p there sender = absurd (cc)
if_sender k (Some i) p there sender = if_context k p (λ j e. sender_context k i j (sym sender ∙ e))

pub stands_there : (o : Option ℕ) → false ≡ not (is_some o) → IsSome o
stands_there None e = absurd (cc)
stands_there (Some i) e = refl

-- what is told of the birth by a truth that is known
pub told : (o : Option ℕ) (f : ℕ → Bool) (b c : Bool) → b ≡ c → IfSome o (λ i. b ≡ f i) → IfSome o (λ i. c ≡ f i)
told None f b c e h = tt
told (Some i) f b c e h = sym e ∙ h
