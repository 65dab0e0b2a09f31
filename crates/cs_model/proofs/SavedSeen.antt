-- What holds of each visible object of a file that was put together.
use Rattle.std.proofs.Common.{◌≡◌, ◌≢◌, ℕ, zero, suc, ◌+◌, ◌≤◌, ◌==◌, ◌&&◌, Bool, true, false, not, List, [], ◌∷◌, length, take, drop, Option, Some, None, refl, ap, ap₂, sym, ◌∙◌, arith, slice_get, subst}
use Rattle.std.specs.Prelude.{flat_map}
use Rattle.std.specs.Option.{option_map_or, option_or}
use Rattle.std.specs.List.{find, AllByRecursion, enumerate_from}
use Rattle.std.proofs.lemmas.List.Folds.{find-append}
use Rattle.std.proofs.lemmas.Bool.Decides.{nat_tests}
use Rattle.cs_model.specs.ImageFile.{FileObject, file_of, is_visible, visible, names, named}
use Rattle.cs_model.specs.SavedFile.{SavedObject, SavedFile, FitsFile, IsSeen, saved_base, saved_size, placed_at, placed_from, saved_bytes}
use Rattle.cs_model.proofs.Same.{all-append}
use Rattle.cs_model.proofs.SavedFiles.{seen_again}
use Rattle.cs_model.specs.SoundFile.{IsSoundFile, NamesSaved, saved_entry, visible_saved}
use Rattle.cs_model.proofs.SavedPlacing.{placed_file, lies}

-- ---- all elements

pub all_take : {X : Type 0} (P : X → Type 0) (n : ℕ) (xs : List X) → AllByRecursion P xs → AllByRecursion P (take n xs)
all_take P zero xs h = tt
all_take P (suc n) [] h = tt
all_take P (suc n) (x ∷ xs) h = (h.0, all_take P n xs h.1)

pub all_drop : {X : Type 0} (P : X → Type 0) (n : ℕ) (xs : List X) → AllByRecursion P xs → AllByRecursion P (drop n xs)
all_drop P zero xs h = h
all_drop P (suc n) [] h = tt
all_drop P (suc n) (x ∷ xs) h = all_drop P n xs h.1

pub all_get : {X : Type 0} (P : X → Type 0) (xs : List X) (k : ℕ) (x : X) → AllByRecursion P xs → slice_get xs k ≡ Some x → P x
all_get P [] k x h e = absurd (cc)
all_get P (y ∷ xs) zero x h e = let same : y ≡ x = cc in subst P same h.0
all_get P (y ∷ xs) (suc k) x h e = all_get P xs k x h.1 e

pub all_each : {X : Type 0} (P Q : X → Type 0) → ((x : X) → P x → Q x) → (xs : List X) → AllByRecursion P xs → AllByRecursion Q xs
all_each P Q g [] h = tt
all_each P Q g (x ∷ xs) h = (g x h.0, all_each P Q g xs h.1)

pub all_both : {X : Type 0} (P Q R : X → Type 0) → ((x : X) → P x → Q x → R x) → (xs : List X) → AllByRecursion P xs → AllByRecursion Q xs → AllByRecursion R xs
all_both P Q R g [] h k = tt
all_both P Q R g (x ∷ xs) h k = (g x h.0 k.0, all_both P Q R g xs h.1 k.1)

pub find_none : {X : Type 0} (p : X → Bool) (xs : List X) → AllByRecursion (λ x. p x ≡ false) xs → find p xs ≡ None
find_none p [] h = refl
find_none p (x ∷ xs) h = rw h.0 (find_none p xs h.1)

pub find_numbered : (p : ℕ → Bool) (n : ℕ) (ws : List ℕ) → AllByRecursion (λ w. p w ≡ false) ws → find (λ (e : ℕ × ℕ). p e.1) (enumerate_from n ws) ≡ None
find_numbered p n [] h = refl
find_numbered p n (w ∷ ws) h = rw h.0 (find_numbered p (n + 1) ws h.1)

pub find_flat : {X Y : Type 0} (p : Y → Bool) (g : X → List Y) (xs : List X) → AllByRecursion (λ x. find p (g x) ≡ None) xs → find p (flat_map g xs) ≡ None
find_flat p g [] h = refl
find_flat p g (x ∷ xs) h = find-append p (g x) (flat_map g xs) ∙ ap₂ (λ a b. option_or a b) h.0 (find_flat p g xs h.1)

-- ---- all objects

-- P holds of an object wherever it lies
abbrev pub Anywhere : (FileObject → Type 0) → SavedObject → Type 0
Anywhere P o = (first : ℕ) → P (placed_at first o)

pub all_placed : (P : FileObject → Type 0) (first : ℕ) (os : List SavedObject) → AllByRecursion (Anywhere P) os → AllByRecursion P (placed_from first os)
unfolding placed_from
all_placed P first [] h = tt
all_placed P first (o ∷ os) h = (h.0 first, all_placed P (first + saved_size (length o.words)) os h.1)

pub all_visible : (P : FileObject → Type 0) (f : SavedFile) → AllByRecursion (Anywhere P) f.objects → AllByRecursion P (visible_saved f)
all_visible P f h = all-append P (placed_from 0 (take 3 f.objects)) (placed_from 34 (drop 3 f.objects))
    (all_placed P 0 (take 3 f.objects) (all_take (Anywhere P) 3 f.objects h))
    (all_placed P 34 (drop 3 f.objects) (all_drop (Anywhere P) 3 f.objects h))

-- ---- which are seen

-- a class index that has an entry is no hidden object's
kind_seen : (f : SavedFile) → saved_entry f 16 ≡ saved_base → (class : ℕ) → 4 ≤ class → saved_entry f class ≢ saved_base
    → (not (class == 0) && not (class == 16)) ≡ true
kind_seen f hidden class least there =
    let zero : (class == 0) ≡ false = grind (arith, nat_tests, least) in
    let other : class ≢ 16 = λ same. there (ap (saved_entry f) same ∙ hidden) in
    let sixteen : (class == 16) ≡ false = grind (arith, nat_tests, other) in
    rw (zero, sixteen) refl

pub all_seen : (f : SavedFile) (limit : ℕ) → IsSoundFile f limit → AllByRecursion IsSeen f.objects
all_seen f limit s = all_each (λ (o : SavedObject). (4 ≤ o.class) × (saved_entry f o.class ≢ saved_base)) IsSeen
    (λ o h. kind_seen f s.table.hidden o.class h.0 h.1) f.objects s.kinds

pub file_by : (f : SavedFile) → FitsFile f → AllByRecursion IsSeen f.objects → file_of (saved_bytes f) ≡ placed_file f
file_by f fits seen = (seen_again f fits seen).file

pub visible_by : (f : SavedFile) → FitsFile f → AllByRecursion IsSeen f.objects → visible (placed_file f) ≡ visible_saved f
visible_by f fits seen = ap visible (sym (file_by f fits seen)) ∙ (seen_again f fits seen).visible

pub file_there : (f : SavedFile) (limit : ℕ) → IsSoundFile f limit → file_of (saved_bytes f) ≡ placed_file f
file_there f limit s = file_by f s.fits (all_seen f limit s)

pub visible_there : (f : SavedFile) (limit : ℕ) → IsSoundFile f limit → visible (placed_file f) ≡ visible_saved f
visible_there f limit s = visible_by f s.fits (all_seen f limit s)

second_of : (a b : Bool) → (a && b) ≡ true → b ≡ true
second_of true b h = h
second_of false true h = refl
second_of false false h = h

pub names_visible : (f : SavedFile) (limit : ℕ) → IsSoundFile f limit → (word : ℕ) → NamesSaved f (λ o. true) word → names (placed_file f) is_visible word ≡ true
names_visible f limit s word n =
    let l = lies f s.fits n.number n.object n.there in
    let seen = all_get IsSeen f.objects n.number n.object (all_seen f limit s) n.there in
    ap (λ w. option_map_or is_visible (named (placed_file f) w) false) n.address
    ∙ ap (λ (r : Option FileObject). option_map_or is_visible r false) l.named
    ∙ second_of (not (n.object.class == 0)) (not (n.object.class == 16)) seen
