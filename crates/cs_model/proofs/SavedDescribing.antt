-- The state that a sound file describes.
use Rattle.std.proofs.Common.{◌≡◌, ℕ, zero, suc, ◌+◌, ◌*◌, ◌==◌, Bool, true, false, cond, not, List, [], ◌∷◌, ◌++◌, length, map, take, drop, Option, Some, None, refl, ap, ap₂, sym, ◌∙◌, slice_index}
use Rattle.std.specs.Option.{option_map_or}
use Rattle.std.specs.List.{AllByRecursion, find, zip}
use Rattle.std.specs.Prelude.{Ok}
use Rattle.std.specs.Ordering.{nat_cmp}
use Rattle.std.specs.FinMap.{FinMap, insert, from_entries}
use Rattle.std.proofs.lemmas.List.{map-append, take-append-drop}
use Rattle.cs_model.specs.Ref as ref
use Rattle.cs_model.specs.Obj.{Obj}
use Rattle.cs_model.specs.State.{Kept, Rest}
use Rattle.cs_model.specs.Words.{obj_by}
use Rattle.cs_model.specs.Image.{birth_in, object_in, classes_in, described, rest_in, image_fault, image_of, state_unless}
use Rattle.cs_model.specs.ImageFile.{FileObject, File, special_address, births_in, next_birth_in, visible}
use Rattle.cs_model.specs.ImageFault.{ImageFault, table_size, has_entry, entry_in}
use Rattle.cs_model.specs.SavedFile.{SavedObject, SavedBirths, SavedFile, FitsFile, IsReadAgain, IsSeen, saved_base, saved_size, placed_at, placed_from, saved_bytes}
use Rattle.cs_model.proofs.SavedFiles.{read_again}
use Rattle.cs_model.specs.SoundFile.{IsSoundFile, births_by, next_by, births_saved, visible_saved, saved_birth, saved_head, saved_obj, saved_classes, saved_entry, saved_rest, state_of_file}
use Rattle.cs_model.proofs.SavedPlacing.{placed_file}
use Rattle.cs_model.proofs.SavedEntries.{entry_there, has_entry_there}
use Rattle.cs_model.proofs.SavedSeen.{all_seen, file_by, visible_by, file_there, visible_there}
use Rattle.cs_model.proofs.SavedWhole.{not_too_long, not_short, format_right, header_size_right, profile_right, lengths_right, objects_whole, not_over, births_right, length-visible}
use Rattle.cs_model.proofs.SavedTables.{table_right, references_right, kinds_right}
use Rattle.cs_model.proofs.SavedContexts.{contexts_right, roots_right}

-- ---- births

births_there : (f : SavedFile) → FitsFile f → births_in (saved_bytes f) (length f.objects) ≡ births_saved f
births_there f fits = go f.births refl
  where
    go : (b : Option SavedBirths) → f.births ≡ b → births_in (saved_bytes f) (length f.objects) ≡ births_by b (length f.objects)
    go None e = (read_again f fits).by_place (length f.objects) e
    go (Some b) e = (read_again f fits).births b (length f.objects) e

next_there : (f : SavedFile) → FitsFile f → next_birth_in (saved_bytes f) (length f.objects) ≡ next_by f.births (length f.objects)
next_there f fits = go f.births refl
  where
    go : (b : Option SavedBirths) → f.births ≡ b → next_birth_in (saved_bytes f) (length f.objects) ≡ next_by b (length f.objects)
    go None e = (read_again f fits).next_place (length f.objects) e
    go (Some b) e = (read_again f fits).next b (length f.objects) e

birth_there : (f : SavedFile) → FitsFile f → AllByRecursion IsSeen f.objects → (word : ℕ) → birth_in (placed_file f) (births_saved f) word ≡ saved_birth f word
unfolding saved_birth
birth_there f fits seen word =
    ap (λ (os : List FileObject). option_map_or (λ (e : ℕ × FileObject). e.0) (find (λ e. saved_base + 4 * e.1.place == word) (zip (births_saved f) os)) 0) (visible_by f fits seen)

-- ---- classes

classes_there : (f : SavedFile) → FitsFile f → AllByRecursion IsSeen f.objects → (n : ℕ) → classes_in (placed_file f) (births_saved f) n ≡ saved_classes f n
classes_there f fits seen zero = refl
classes_there f fits seen (suc n) = go (saved_entry f n == saved_base) (classes_there f fits seen n) (has_entry_there f fits n)
    (ap (birth_in (placed_file f) (births_saved f)) (entry_there f fits n) ∙ birth_there f fits seen (saved_entry f n))
  where
    go : (b : Bool) → classes_in (placed_file f) (births_saved f) n ≡ saved_classes f n → has_entry (placed_file f) n ≡ not b
        → birth_in (placed_file f) (births_saved f) (entry_in (placed_file f) n) ≡ saved_birth f (saved_entry f n)
        → cond (has_entry (placed_file f) n) (insert (classes_in (placed_file f) (births_saved f) n) n (birth_in (placed_file f) (births_saved f) (entry_in (placed_file f) n)))
        (classes_in (placed_file f) (births_saved f) n)
        ≡ cond b (saved_classes f n) (insert (saved_classes f n) n (saved_birth f (saved_entry f n)))
    go true before entry birth = rw entry before
    go false before entry birth = rw entry (ap₂ (λ (m : FinMap nat_cmp ℕ) b. insert m n b) before birth)

-- ---- objects

map_placed : {Y : Type 0} (g : FileObject → Y) (h : SavedObject → Y) → ((first : ℕ) (o : SavedObject) → g (placed_at first o) ≡ h o)
    → (first : ℕ) (os : List SavedObject) → map g (placed_from first os) ≡ map h os
unfolding placed_from
map_placed g h same first [] = refl
map_placed g h same first (o ∷ os) = ap₂ (λ y ys. y ∷ ys) (same first o) (map_placed g h same (first + saved_size (length o.words)) os)

map_visible : {Y : Type 0} (g : FileObject → Y) (h : SavedObject → Y) → ((first : ℕ) (o : SavedObject) → g (placed_at first o) ≡ h o)
    → (f : SavedFile) → map g (visible_saved f) ≡ map h f.objects
map_visible g h same f =
    map-append g (placed_from 0 (take 3 f.objects)) (placed_from 34 (drop 3 f.objects))
    ∙ ap₂ (λ xs ys. xs ++ ys) (map_placed g h same 0 (take 3 f.objects)) (map_placed g h same 34 (drop 3 f.objects))
    ∙ sym (map-append h (take 3 f.objects) (drop 3 f.objects)) ∙ ap (map h) (take-append-drop 3 f.objects)

-- ---- the whole

-- the state that is described where this is the file and these are the births
abbrev described_by : List ℕ → File → List ℕ → Kept
described_by bytes g births = record {
  objects = from_entries (zip births (map (object_in g births) (visible g)));
  rest = rest_in bytes g births;
}

births_seen : (f : SavedFile) → FitsFile f → AllByRecursion IsSeen f.objects → births_in (saved_bytes f) (length (visible (placed_file f))) ≡ births_saved f
births_seen f fits seen =
    ap (births_in (saved_bytes f)) (ap length (visible_by f fits seen) ∙ length-visible f) ∙ births_there f fits

objects_there : (f : SavedFile) → FitsFile f → AllByRecursion IsSeen f.objects
    → map (object_in (placed_file f) (births_saved f)) (visible (placed_file f)) ≡ map (saved_obj f) f.objects
objects_there f fits seen =
    ap (map (object_in (placed_file f) (births_saved f))) (visible_by f fits seen)
    ∙ map_visible (object_in (placed_file f) (births_saved f)) (saved_obj f) (λ first o. same (birth_there f fits seen) o) f
  where
    same : ((word : ℕ) → birth_in (placed_file f) (births_saved f) word ≡ saved_birth f word) → (o : SavedObject)
        → obj_by (λ word. ref.Obj (birth_in (placed_file f) (births_saved f) word)) (saved_head o) o.words ≡ saved_obj f o
    same h o = λ i. obj_by (λ word. ref.Obj (h word i)) (saved_head o) o.words

rest_there : (f : SavedFile) → FitsFile f → AllByRecursion IsSeen f.objects → rest_in (saved_bytes f) (placed_file f) (births_saved f) ≡ saved_rest f
rest_there f fits seen = λ i. record {
  nil = slice_index (births_saved f) 0;
  false_ = slice_index (births_saved f) 1;
  true_ = slice_index (births_saved f) 2;
  special = special i;
  header = r.header i;
  classes = classes_there f fits seen table_size i;
  last_hash = r.last_hash i;
  next = next i;
  active = None;
}
  where
    r : IsReadAgain f (saved_bytes f)
    r = read_again f fits

    special : birth_in (placed_file f) (births_saved f) (special_address (saved_bytes f)) ≡ saved_birth f f.special
    special = ap (birth_in (placed_file f) (births_saved f)) r.special ∙ birth_there f fits seen f.special

    next : next_birth_in (saved_bytes f) (length (visible (placed_file f))) ≡ next_by f.births (length f.objects)
    next = ap (next_birth_in (saved_bytes f)) (ap length (visible_by f fits seen) ∙ length-visible f) ∙ next_there f fits

pub state_there : (f : SavedFile) → FitsFile f → AllByRecursion IsSeen f.objects → described (saved_bytes f) ≡ state_of_file f
unfolding described state_of_file
state_there f fits seen =
    ap (λ (g : File). described_by (saved_bytes f) g (births_in (saved_bytes f) (length (visible g)))) (file_by f fits seen)
    ∙ ap (described_by (saved_bytes f) (placed_file f)) (births_seen f fits seen)
    ∙ ap₂ (λ (os : List Obj) (r : Rest). let k : Kept = record { objects = from_entries (zip (births_saved f) os); rest = r } in k)
    (objects_there f fits seen) (rest_there f fits seen)

pub no_fault : (f : SavedFile) (limit : ℕ) → IsSoundFile f limit → image_fault (saved_bytes f) limit ≡ None
unfolding image_fault
no_fault f limit s =
    let count : length (visible (placed_file f)) ≡ length f.objects = ap length (visible_there f limit s) ∙ length-visible f in
    rw (
      file_there f limit s,
      (read_again f s.fits).special,
      count,
      not_too_long f limit s,
      not_short f limit s,
      format_right f limit s,
      header_size_right f limit s,
      profile_right f limit s,
      lengths_right f limit s,
      objects_whole f limit s,
      not_over f limit s,
      table_right f limit s,
      references_right f limit s,
      kinds_right f limit s,
      contexts_right f limit s,
      roots_right f limit s,
      births_right f limit s,
    ) refl

pub image_there : (f : SavedFile) (limit : ℕ) → IsSoundFile f limit → image_of (saved_bytes f) limit ≡ Ok (state_of_file f)
unfolding image_of
image_there f limit s =
    ap (λ (fault : Option ImageFault). state_unless fault (described (saved_bytes f))) (no_fault f limit s) ∙ ap Ok (state_there f s.fits (all_seen f limit s))
