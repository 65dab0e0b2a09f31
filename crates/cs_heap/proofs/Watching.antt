-- What the marks tell: which units are headers, watched or not, and which objects are watched.
use Rattle.std.proofs.Common.{◌≡◌, ℕ, zero, suc, ◌+◌, ◌*◌, ◌<◌, ◌≤◌, Bool, true, false, cond, List, [], ◌∷◌, ◌++◌, length, get_or, replicate, refl, ap, sym, ◌∙◌, arith, eqb, ◌&&◌, ◌||◌, min, map}
use Rattle.std.proofs.Math.ListN.{get_or-map, set}
use Rattle.std.proofs.lemmas.List.{length-map, map-append}
use Rattle.std.proofs.lemmas.Bool.Decides.{nat_tests}
use Rattle.std.specs.Cmp.{nat_cmp_total, unsigned_tied}
use Rattle.std.specs.Ordering.{nat_cmp}
use Rattle.std.specs.FinSet.{FinSet, contains, contains-empty, contains-insert, empty, insert, nat_cmp-IsAntisymmetric, same_set}
use Rattle.cs_heap.specs.Object.{body_units, units_before}
use Rattle.cs_heap.specs.Layout.{headers_in, marked, watched_in}

-- ---- headers

pub length-headers_in : (marks : List ℕ) → length (headers_in marks) ≡ length marks
length-headers_in marks = length-map marks (λ m. min m 1)

pub headers_in-at : (marks : List ℕ) (u : ℕ) → get_or (headers_in marks) u 0 ≡ min (get_or marks u 0) 1
headers_in-at marks u = get_or-map (λ m. min m 1) marks u 0

map-replicate : (f : ℕ → ℕ) (n x : ℕ) → map f (replicate n x) ≡ replicate n (f x)
map-replicate f zero x = refl
map-replicate f (suc n) x = ap (λ (zs : List ℕ). f x ∷ zs) (map-replicate f n x)

-- the marks of a new object are what they say
pub headers_in-marked : (n : ℕ) → headers_in (marked 0 1 n) ≡ marked 0 1 n
headers_in-marked n =
    map-append (λ m. min m 1) (replicate (units_before n) 0) (1 ∷ replicate (body_units n) 0)
    ∙ ap (λ (zs : List ℕ). zs ++ 1 ∷ map (λ m. min m 1) (replicate (body_units n) 0)) (map-replicate (λ m. min m 1) (units_before n) 0)
    ∙ ap (λ (zs : List ℕ). replicate (units_before n) 0 ++ 1 ∷ zs) (map-replicate (λ m. min m 1) (body_units n) 0)

-- ---- watched objects

-- the first unit and the others
first_of : (m : ℕ) (marks : List ℕ) (at q : ℕ) → contains (watched_in at (m ∷ marks)) q ≡ (eqb m 2 && eqb q at || contains (watched_in (at + 8) marks) q)
unfolding watched_in
first_of m marks at q = go (eqb m 2)
  where
    rest : FinSet nat_cmp
    rest = watched_in (at + 8) marks

    go : (b : Bool) → contains (cond b (insert rest at) rest) q ≡ (b && eqb q at || contains rest q)
    go true = contains-insert nat_cmp_total rest at q ∙ ap (λ t. t || contains rest q) (unsigned_tied q at)
    go false = refl

none_of : (at q : ℕ) → contains (watched_in at []) q ≡ false
unfolding watched_in
none_of at q = contains-empty nat_cmp q

and_false : (b : Bool) → (b && false) ≡ false
and_false true = refl
and_false false = refl

differs : (a b : ℕ) → a < b → eqb a b ≡ false
differs a b h = grind (arith, nat_tests)

differs_above : (a b : ℕ) → b < a → eqb a b ≡ false
differs_above a b h = grind (arith, nat_tests)

equals : (a b : ℕ) → a ≡ b → eqb a b ≡ true
equals a b h = grind (arith, nat_tests)

-- an address that isn't that of the first unit
apart : (m : ℕ) (marks : List ℕ) (at q : ℕ) → eqb q at ≡ false → contains (watched_in at (m ∷ marks)) q ≡ contains (watched_in (at + 8) marks) q
apart m marks at q e = first_of m marks at q ∙ ap (λ t. eqb m 2 && t || contains (watched_in (at + 8) marks) q) e
    ∙ ap (λ t. t || contains (watched_in (at + 8) marks) q) (and_false (eqb m 2))

before : (marks : List ℕ) (at q : ℕ) → q < at → contains (watched_in at marks) q ≡ false
before [] at q h = none_of at q
before (m ∷ marks) at q h = apart m marks at q (differs q at h) ∙ before marks (at + 8) q (omega (arith, h))

-- nothing is watched behind the last unit
pub watched_in-past : (marks : List ℕ) (at q : ℕ) → at + 8 * length marks ≤ q → contains (watched_in at marks) q ≡ false
watched_in-past [] at q h = none_of at q
watched_in-past (m ∷ marks) at q h =
    let above : at < q = omega (arith, h) in
    apart m marks at q (differs_above q at above) ∙ watched_in-past marks (at + 8) q (omega (arith, h))

-- a unit's mark says whether it is watched
pub watched_in-at : (marks : List ℕ) (at u q : ℕ) → q ≡ at + 8 * u → contains (watched_in at marks) q ≡ eqb (get_or marks u 0) 2
watched_in-at [] at u q h = none_of at q
watched_in-at (m ∷ marks) at zero q h =
    let here : q ≡ at = omega (arith, h) in
    first_of m marks at q ∙ ap (λ t. eqb m 2 && t || contains (watched_in (at + 8) marks) q) (equals q at here)
    ∙ ap (λ t. eqb m 2 && true || t) (before marks (at + 8) q (omega (arith, here))) ∙ alone (eqb m 2)
  where
    alone : (b : Bool) → (b && true || false) ≡ b
    alone true = refl
    alone false = refl
watched_in-at (m ∷ marks) at (suc u) q h =
    let above : at < q = omega (arith, h) in
    apart m marks at q (differs_above q at above) ∙ watched_in-at marks (at + 8) u q (omega (arith, h))

-- one unit is marked as watched
marked_one : (marks : List ℕ) (at u q : ℕ) → u < length marks → contains (watched_in at (set marks u 2)) q ≡ (eqb q (at + 8 * u) || contains (watched_in at marks) q)
marked_one [] at u q h = absurd (omega (arith, h))
marked_one (m ∷ marks) at zero q h =
    let same : at + 8 * 0 ≡ at = omega arith in
    first_of 2 marks at q ∙ once (eqb q at) (eqb m 2) (contains (watched_in (at + 8) marks) q)
    ∙ ap (λ t. eqb q at || t) (sym (first_of m marks at q)) ∙ ap (λ n. eqb q n || contains (watched_in at (m ∷ marks)) q) (sym same)
  where
    once : (e b c : Bool) → (e || c) ≡ (e || (b && e || c))
    once true b c = refl
    once false true c = refl
    once false false c = refl
marked_one (m ∷ marks) at (suc u) q h =
    let next : at + 8 + 8 * u ≡ at + 8 * suc u = omega arith in
    first_of m (set marks u 2) at q
    ∙ ap (λ t. eqb m 2 && eqb q at || t) (marked_one marks (at + 8) u q (omega (arith, h)) ∙ ap (λ n. eqb q n || contains (watched_in (at + 8) marks) q) next)
    ∙ swapped (eqb m 2 && eqb q at) (eqb q (at + 8 * suc u)) (contains (watched_in (at + 8) marks) q)
    ∙ ap (λ t. eqb q (at + 8 * suc u) || t) (sym (first_of m marks at q))
  where
    swapped : (a b c : Bool) → (a || (b || c)) ≡ (b || (a || c))
    swapped true true c = refl
    swapped true false c = refl
    swapped false b c = refl

pub watched_in-set : (marks : List ℕ) (at u a : ℕ) → u < length marks → a ≡ at + 8 * u → watched_in at (set marks u 2) ≡ insert (watched_in at marks) a
watched_in-set marks at u a h e = same_set nat_cmp_total nat_cmp-IsAntisymmetric _ _ (λ q.
    marked_one marks at u q h ∙ ap (λ n. eqb q n || contains (watched_in at marks) q) (sym e)
    ∙ sym (contains-insert nat_cmp_total (watched_in at marks) a q ∙ ap (λ t. t || contains (watched_in at marks) q) (unsigned_tied q a)))

-- units behind, of which none is marked so
none_marked : (n at : ℕ) → watched_in at (replicate n 0) ≡ empty
unfolding watched_in
none_marked zero at = refl
none_marked (suc n) at = none_marked n (at + 8)

new_marked : (b : Bool) (n at : ℕ) → watched_in at (replicate (cond b 1 0) 0 ++ 1 ∷ replicate n 0) ≡ empty
unfolding watched_in
new_marked true n at = none_marked n (at + 8 + 8)
new_marked false n at = none_marked n (at + 8)

pub watched_in-new : (marks : List ℕ) (at n : ℕ) → watched_in at (marks ++ marked 0 1 n) ≡ watched_in at marks
unfolding watched_in
watched_in-new [] at n = new_marked _ (body_units n) at
watched_in-new (m ∷ marks) at n = ap (λ (rest : FinSet nat_cmp). cond (eqb m 2) (insert rest at) rest) (watched_in-new marks (at + 8) n)
