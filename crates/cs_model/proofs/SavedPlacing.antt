-- Where the objects of a file that was put together lie, and what words name them.
use Rattle.std.proofs.Common.{◌≡◌, ℕ, zero, suc, ◌+◌, ◌-◌, ◌*◌, ◌<◌, ◌≤◌, Bool, true, false, cond, nat_lt, List, [], ◌∷◌, ◌++◌, length, map, take, drop, replicate, Option, Some, refl, ap, sym, ◌∙◌, arith, slice_get, length-append, subst}
use Rattle.std.specs.Option.{option_map_or}
use Rattle.std.specs.List.{AllByRecursion, range_with_len}
use Rattle.std.proofs.lemmas.List.{length-replicate}
use Rattle.std.proofs.lemmas.List.FromFn.{length-map-range_with_len}
use Rattle.std.proofs.lemmas.List.Sums.{sum_by-append}
use Rattle.std.proofs.lemmas.Bool.Decides.{nat_tests}
use Rattle.cs_model.specs.ImageFile.{FileObject, File, named, names, nil_in}
use Rattle.cs_model.specs.SavedFile.{SavedObject, SavedFile, FitsFile, saved_base, saved_size, saved_sizes, placed_at, placed_from, words_before, free_lists, table_root, table_page, page_address, all_saved}
use Rattle.cs_model.proofs.SavedObjects.{sizes-cons}
use Rattle.cs_model.proofs.SavedNames.{one_lies}
use Rattle.cs_model.specs.SoundFile.{saved_address, NamesSaved}

-- the file as it is read again
abbrev pub placed_file : SavedFile → File
placed_file f = record { base = saved_base; objects = placed_from 0 (all_saved f) }

-- ---- lists

pub get_below : {X : Type 0} (xs : List X) (k : ℕ) (x : X) → slice_get xs k ≡ Some x → k < length xs
get_below [] k x e = absurd (cc)
get_below (y ∷ xs) zero x e = omega arith
get_below (y ∷ xs) (suc k) x e = let h = get_below xs k x e in omega (arith, h)

pub get_append : {X : Type 0} (xs ys : List X) (k : ℕ) (x : X) → slice_get xs k ≡ Some x → slice_get (xs ++ ys) k ≡ Some x
get_append [] ys k x e = absurd (cc)
get_append (y ∷ xs) ys zero x e = e
get_append (y ∷ xs) ys (suc k) x e = get_append xs ys k x e

pub get_behind : {X : Type 0} (xs ys : List X) (k : ℕ) → slice_get (xs ++ ys) (length xs + k) ≡ slice_get ys k
get_behind [] ys k = ap (slice_get ys) (omega arith)
get_behind (x ∷ xs) ys k =
    let next : suc (length xs) + k ≡ suc (length xs + k) = omega arith in
    ap (slice_get (x ∷ (xs ++ ys))) next ∙ get_behind xs ys k

pub take_within : {X : Type 0} (xs ys : List X) (k : ℕ) → k ≤ length xs → take k (xs ++ ys) ≡ take k xs
take_within xs ys zero h = refl
take_within [] ys (suc k) h = absurd (omega (arith, h))
take_within (x ∷ xs) ys (suc k) h = ap (λ zs. x ∷ zs) (take_within xs ys k (omega (arith, h)))

pub take_behind : {X : Type 0} (xs ys : List X) (k : ℕ) → take (length xs + k) (xs ++ ys) ≡ xs ++ take k ys
take_behind [] ys k = ap (λ n. take n ys) (omega arith)
take_behind (x ∷ xs) ys k =
    let next : suc (length xs) + k ≡ suc (length xs + k) = omega arith in
    ap (λ n. take n (x ∷ (xs ++ ys))) next ∙ ap (λ zs. x ∷ zs) (take_behind xs ys k)

-- ---- any object

pub named_at : (f : SavedFile) (i : ℕ) (o : SavedObject) (word : ℕ) → slice_get (all_saved f) i ≡ Some o
    → word ≡ saved_base + 4 * (saved_sizes (take i (all_saved f)) + words_before (length o.words))
    → named (placed_file f) word ≡ Some (placed_at (saved_sizes (take i (all_saved f))) o)
unfolding named
named_at f i o word e at = one_lies word 0 i (all_saved f) o e (omega (arith, at))
    ∙ ap (λ n. Some (placed_at n o)) (omega arith)

-- ---- a file of at least three objects

-- the first three and the others
pub record IsSplit (f : SavedFile) : Type 0 where
  pub nil : SavedObject
  pub false_ : SavedObject
  pub true_ : SavedObject
  pub others : List SavedObject
  pub objects : f.objects ≡ nil ∷ false_ ∷ true_ ∷ others
  pub all : all_saved f ≡ nil ∷ false_ ∷ true_ ∷ free_lists ∷ table_root f ∷ (others ++ map table_page f.pages)
  pub size : saved_sizes (nil ∷ false_ ∷ true_ ∷ []) ≡ 12
  pub no_slots : length nil.words ≡ 0

pub root_slots : (f : SavedFile) → FitsFile f → length (table_root f).words ≡ 16
root_slots f fits = omega (
  arith,
  fits.count,
  length-append (map (page_address f.objects) (range_with_len 0 (length f.pages))) (replicate (16 - length f.pages) saved_base),
  length-map-range_with_len (page_address f.objects) 0 (length f.pages),
  length-replicate {A = ℕ} (16 - length f.pages) saved_base,
)

pub root_long : (f : SavedFile) → FitsFile f → saved_size (length (table_root f).words) ≡ 18
root_long f fits = ap saved_size (root_slots f fits)

pub split : (f : SavedFile) → FitsFile f → IsSplit f
unfolding all_saved
split f fits = go f.objects refl fits.three fits.first
  where
    empty_size : (n : ℕ) → n ≡ 0 → saved_size n ≡ 4
    empty_size n e = ap saved_size e

    go : (os : List SavedObject) → f.objects ≡ os → 3 ≤ length os → AllByRecursion (λ o. length o.words ≡ 0) (take 3 os) → IsSplit f
    go [] e h k = absurd (omega (arith, h))
    go (a ∷ []) e h k = absurd (omega (arith, h))
    go (a ∷ b ∷ []) e h k = absurd (omega (arith, h))
    go (a ∷ b ∷ c ∷ os) e h k = record {
      nil = a;
      false_ = b;
      true_ = c;
      others = os;
      objects = e;
      all = ap (λ (xs : List SavedObject). (take 3 xs ++ free_lists ∷ table_root f ∷ drop 3 xs) ++ map table_page f.pages) e;
      size = omega (
        arith,
        sizes-cons a (b ∷ c ∷ []),
        sizes-cons b (c ∷ []),
        sizes-cons c [],
        empty_size (length a.words) k.0,
        empty_size (length b.words) k.1.0,
        empty_size (length c.words) k.1.1.0,
      );
      no_slots = k.0;
    }

-- where the object of a number stands among all
record Seat (all objects : List SavedObject) (k : ℕ) (o : SavedObject) : Type 0 where
  index : ℕ
  get : slice_get all index ≡ Some o
  size : saved_sizes (take index all) ≡ saved_sizes (take k objects) + cond (nat_lt k 3) 0 22

seat_in : (a b c x y : SavedObject) (os ps : List SavedObject) (k : ℕ) (o : SavedObject)
    → saved_size (length x.words) + saved_size (length y.words) ≡ 22 → slice_get (a ∷ b ∷ c ∷ os) k ≡ Some o
    → Seat (a ∷ b ∷ c ∷ x ∷ y ∷ (os ++ ps)) (a ∷ b ∷ c ∷ os) k o
seat_in a b c x y os ps zero o h e = record { index = 0; get = e; size = omega arith }
seat_in a b c x y os ps (suc zero) o h e = record { index = 1; get = e; size = omega arith }
seat_in a b c x y os ps (suc (suc zero)) o h e = record { index = 2; get = e; size = omega arith }
seat_in a b c x y os ps (suc (suc (suc j))) o h e =
    let below = get_below os j o e in
    let behind : nat_lt (suc (suc (suc j))) 3 ≡ false = let h : 3 ≤ suc (suc (suc j)) = omega arith in grind (arith, nat_tests, h) in
    let gap : ◌≡◌ {A = ℕ} (cond (nat_lt (suc (suc (suc j))) 3) 0 22) 22 = ap {B = ℕ} (λ (b : Bool). cond b 0 22) behind in
    let tail = ap saved_sizes (take_within os ps j (omega (arith, below))) in
    record {
      index = suc (suc (suc (suc (suc j))));
      get = get_append os ps j o e;
      size = omega (
        arith,
        h,
        gap,
        tail,
        sizes-cons a (b ∷ c ∷ x ∷ y ∷ take j (os ++ ps)),
        sizes-cons b (c ∷ x ∷ y ∷ take j (os ++ ps)),
        sizes-cons c (x ∷ y ∷ take j (os ++ ps)),
        sizes-cons x (y ∷ take j (os ++ ps)),
        sizes-cons y (take j (os ++ ps)),
        sizes-cons a (b ∷ c ∷ take j os),
        sizes-cons b (c ∷ take j os),
        sizes-cons c (take j os),
      );
    }

seat : (f : SavedFile) → FitsFile f → (k : ℕ) (o : SavedObject) → slice_get f.objects k ≡ Some o → Seat (all_saved f) f.objects k o
seat f fits k o e =
    let s = split f fits in
    let root = root_long f fits in
    let there = seat_in s.nil s.false_ s.true_ free_lists (table_root f) s.others (map table_page f.pages) k o (omega (arith, root))
    (ap (λ (xs : List SavedObject). slice_get xs k) (sym s.objects) ∙ e) in
    subst (λ (xs : List SavedObject). Seat (all_saved f) xs k o) (sym s.objects)
    (subst (λ (xs : List SavedObject). Seat xs (s.nil ∷ s.false_ ∷ s.true_ ∷ s.others) k o) (sym s.all) there)

-- the object of a number, where it lies
pub record Lies (f : SavedFile) (k : ℕ) (o : SavedObject) : Type 0 where
  pub first : ℕ
  pub named : named (placed_file f) (saved_address f.objects k) ≡ Some (placed_at first o)

pub lies : (f : SavedFile) → FitsFile f → (k : ℕ) (o : SavedObject) → slice_get f.objects k ≡ Some o → Lies f k o
lies f fits k o e =
    let s = seat f fits k o e in
    let before : words_before (option_map_or (λ (x : SavedObject). length x.words) (slice_get f.objects k) 0) ≡ words_before (length o.words)
    = ap (λ (r : Option SavedObject). words_before (option_map_or (λ x. length x.words) r 0)) e in
    record {
      first = saved_sizes (take s.index (all_saved f));
      named = named_at f s.index o (saved_address f.objects k) s.get (omega (arith, s.size, before));
    }

pub is_named : (f : SavedFile) → FitsFile f → (passes : FileObject → Bool) (word : ℕ) → NamesSaved f passes word → names (placed_file f) passes word ≡ true
is_named f fits passes word n =
    let l = lies f fits n.number n.object n.there in
    ap (λ w. option_map_or passes (named (placed_file f) w) false) n.address
    ∙ ap (λ (r : Option FileObject). option_map_or passes r false) l.named ∙ n.is l.first

-- ---- nil

pub nil_base : (f : SavedFile) → FitsFile f → nil_in (placed_file f) ≡ saved_base
unfolding placed_from
nil_base f fits =
    let s = split f fits in
    ap (λ (xs : List SavedObject). option_map_or (λ o. saved_base + 4 * o.place) (slice_get (placed_from 0 xs) 0) 0) s.all
    ∙ ap (λ n. saved_base + 4 * (0 + words_before n)) s.no_slots

-- what all objects before the pages take
pub sizes_split : (f : SavedFile) (fits : FitsFile f) (ps : List SavedObject)
    → saved_sizes ((split f fits).nil ∷ (split f fits).false_ ∷ (split f fits).true_ ∷ free_lists ∷ table_root f ∷ ((split f fits).others ++ ps))
    ≡ saved_sizes f.objects + 22 + saved_sizes ps
sizes_split f fits ps =
    let s = split f fits in
    let rest = s.others ++ ps in
    omega (
      arith,
      root_long f fits,
      ap saved_sizes s.objects,
      sum_by-append (λ (x : SavedObject). saved_size (length x.words)) s.others ps,
      sizes-cons s.nil (s.false_ ∷ s.true_ ∷ free_lists ∷ table_root f ∷ rest),
      sizes-cons s.false_ (s.true_ ∷ free_lists ∷ table_root f ∷ rest),
      sizes-cons s.true_ (free_lists ∷ table_root f ∷ rest),
      sizes-cons free_lists (table_root f ∷ rest),
      sizes-cons (table_root f) rest,
      sizes-cons s.nil (s.false_ ∷ s.true_ ∷ s.others),
      sizes-cons s.false_ (s.true_ ∷ s.others),
      sizes-cons s.true_ s.others,
    )
