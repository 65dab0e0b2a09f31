-- What the calls of `Pages` find in its fields and make of them.
use Rattle.std.proofs.Common.{◌≡◌, ◌≢◌, ap, length, ℕ, ◌+◌, ◌-◌, ◌<◌, ◌≤◌, ◌↔◌, List, ◌∷◌, get_or, set, eqb, sym, ◌∙◌, subst, arith, not, IsTrue, Contains}
use Rattle.std.proofs.lemmas.Bool.{eqb-false, ne_eqb, not-true, not_from_false}
use Rattle.std.proofs.lemmas.List.{get_or_read}
use Rattle.cs_pages.specs.Order.{Order, without, IsFree}
use Rattle.cs_pages.specs.Ring.{page_chain, order_by_ring, IsRing}
use Rattle.cs_pages.specs.declared.Pages.TheInside.{Inside}
use Rattle.cs_pages.proofs.Lists.{lacks_not, length-without, without-lacks, without-others, free_room}
use Rattle.cs_pages.proofs.Links.{last_of, length-chain, linked_last}
use Rattle.cs_pages.proofs.Rings.{pages_in, ring_order, ring_start, page_in_range, older_in_range, newer_in_range, used_link, linked_use, ring_without, ring_with}

-- the order that the fields keep
abbrev pub kept : Inside → Order
kept s = order_by_ring s.older.items s.total s.used

abbrev pub HasRing : Inside → Type 0
HasRing s = IsRing s.older.items s.newer.items (kept s)

-- the fields after a page was taken out, whose links led to `ahead` and `behind`
abbrev pub older_without : Inside → ℕ → ℕ → ℕ → List ℕ
older_without s p ahead behind = set (set s.older.items behind ahead) p p

abbrev pub newer_without : Inside → ℕ → ℕ → List ℕ
newer_without s ahead behind = set s.newer.items ahead behind

abbrev pub order_without : Inside → ℕ → ℕ → ℕ → Order
order_without s p ahead behind = order_by_ring (older_without s p ahead behind) s.total (s.used - 1)

pub record Freed (s : Inside) (old : Order) (p ahead behind : ℕ) : Type 0 where
  pub ahead_in : ahead < s.total + 1
  pub behind_in : behind < s.total + 1
  pub ring : IsRing (older_without s p ahead behind) (newer_without s ahead behind) (order_without s p ahead behind)
  pub order : order_without s p ahead behind ≡ record old { recent = without p old.recent }
  pub free : IsFree (order_without s p ahead behind) p
  pub others : (q : ℕ) → q ≢ p → Contains (order_without s p ahead behind).recent q ↔ Contains old.recent q
  pub count : length (order_without s p ahead behind).recent + 1 ≡ length old.recent

freed_kept : (s : Inside) (p ahead behind : ℕ) → HasRing s → Contains (kept s).recent p
    → ahead ≡ get_or s.older.items p ahead → behind ≡ get_or s.newer.items p behind → Freed s (kept s) p ahead behind
freed_kept s p ahead behind ring used read_older read_newer =
    let xs = page_chain s.older.items s.total s.used in
    let below : p < s.total = page_in_range s.older.items s.newer.items s.total xs ring p used in
    let is_ahead : ahead ≡ get_or s.older.items p 0 = get_or_read s.older.items p ahead (omega (arith, ring.older_len)) read_older 0 in
    let is_behind : behind ≡ get_or s.newer.items p 0 = get_or_read s.newer.items p behind (omega (arith, ring.newer_len)) read_newer 0 in
    let after : IsRing (older_without s p ahead behind) (newer_without s ahead behind) (pages_in s.total (without p xs)) =
    rw (is_ahead, is_behind) (ring_without s.older.items s.newer.items s.total xs ring p used) in
    let order : order_without s p ahead behind ≡ pages_in s.total (without p xs) =
    ring_order (older_without s p ahead behind) (newer_without s ahead behind) s.total (without p xs) after (s.used - 1)
    (omega (arith, length-without p xs ring.sound.distinct used, length-chain s.older.items s.total s.used)) in
    record {
      ahead_in = rw is_ahead (older_in_range s.older.items s.newer.items s.total xs ring p used);
      behind_in = rw is_behind (newer_in_range s.older.items s.newer.items s.total xs ring p used);
      ring = subst (λ o. IsRing (older_without s p ahead behind) (newer_without s ahead behind) o) (sym order) after;
      order = order;
      free = subst (λ o. IsFree o p) (sym order) (below, lacks_not p (without p xs) (without-lacks p xs ring.sound.distinct used));
      others = λ q differ. subst (λ (o : Order). Contains o.recent q ↔ Contains xs q) (sym order) (without-others p xs q differ);
      count = ap (λ (o : Order). length o.recent + 1) order ∙ length-without p xs ring.sound.distinct used;
    }

-- what `free` makes of its fields, which keep the order old
pub freed : (s : Inside) (old : Order) (p ahead behind : ℕ) → kept s ≡ old → HasRing s → Contains old.recent p
    → ahead ≡ get_or s.older.items p ahead → behind ≡ get_or s.newer.items p behind → Freed s old p ahead behind
freed s old p ahead behind is ring used read_older read_newer =
    subst (λ o. Freed s o p ahead behind) is
    (freed_kept s p ahead behind ring (subst (λ (o : Order). Contains o.recent p) (sym is) used) read_older read_newer)

-- the fields after a page was put in front of another
abbrev pub older_with : Inside → ℕ → ℕ → List ℕ
older_with s p second = set (set s.older.items p second) s.total p

abbrev pub newer_with : Inside → ℕ → ℕ → List ℕ
newer_with s p second = set (set s.newer.items second p) p s.total

abbrev pub order_with : Inside → ℕ → ℕ → Order
order_with s p second = order_by_ring (older_with s p second) s.total (s.used + 1)

pub record PutFirst (s : Inside) (old : Order) (p second : ℕ) : Type 0 where
  pub second_in : second < s.total + 1
  pub room : s.used + 1 ≤ s.total
  pub ring : IsRing (older_with s p second) (newer_with s p second) (order_with s p second)
  pub order : order_with s p second ≡ record old { recent = p ∷ old.recent }

put_first_kept : (s : Inside) (p second : ℕ) → HasRing s → IsFree (kept s) p
    → second ≡ get_or s.older.items s.total second → PutFirst s (kept s) p second
put_first_kept s p second ring free read =
    let xs = page_chain s.older.items s.total s.used in
    let is_second : second ≡ get_or s.older.items s.total 0 = get_or_read s.older.items s.total second (omega (arith, ring.older_len)) read 0 in
    let after : IsRing (older_with s p second) (newer_with s p second) (pages_in s.total (p ∷ xs)) =
    rw is_second (ring_with s.older.items s.newer.items s.total xs ring p free) in
    let order : order_with s p second ≡ pages_in s.total (p ∷ xs) =
    ring_order (older_with s p second) (newer_with s p second) s.total (p ∷ xs) after (s.used + 1)
    (omega (arith, length-chain s.older.items s.total s.used)) in
    record {
      second_in = rw is_second (ring_start s.older.items s.newer.items s.total xs ring);
      room = omega (arith, free_room (kept s) p ring.sound free, length-chain s.older.items s.total s.used);
      ring = subst (λ o. IsRing (older_with s p second) (newer_with s p second) o) (sym order) after;
      order = order;
    }

-- what `put_first` makes of its fields, which keep the order old
pub put_first : (s : Inside) (old : Order) (p second : ℕ) → kept s ≡ old → HasRing s → IsFree old p
    → second ≡ get_or s.older.items s.total second → PutFirst s old p second
put_first s old p second is ring free read =
    subst (λ o. PutFirst s o p second) is (put_first_kept s p second ring (subst (λ o. IsFree o p) (sym is) free) read)

-- a page's link tells whether it is used
pub link_tells : (s : Inside) (p link : ℕ) → HasRing s → p < s.total → link ≡ get_or s.older.items p link
    → IsTrue (not (eqb link p)) ↔ Contains (kept s).recent p
link_tells s p link ring below read =
    let xs = page_chain s.older.items s.total s.used in
    let is_link : link ≡ get_or s.older.items p 0 = get_or_read s.older.items p link (omega (arith, ring.older_len)) read 0 in (
      λ moved. linked_use s.older.items s.newer.items s.total xs ring p below
          (λ same. eqb-false link p (not-true (eqb link p) moved) (is_link ∙ same)),
      λ used. not_from_false (eqb link p) (ne_eqb link p
          (λ same. used_link s.older.items s.newer.items s.total xs ring p used (sym is_link ∙ same))),
    )

-- the link by which the ring is closed leads to the least recent page
pub least_link : (s : Inside) (link : ℕ) → HasRing s → link ≡ get_or s.newer.items s.total link → link ≡ last_of s.total (kept s).recent
least_link s link ring read =
    get_or_read s.newer.items s.total link (omega (arith, ring.newer_len)) read 0
    ∙ linked_last s.older.items s.newer.items s.total (kept s).recent s.total ring.linked
