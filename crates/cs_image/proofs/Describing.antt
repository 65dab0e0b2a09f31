-- A file without faults means in memory what it describes.
use Rattle.std.proofs.Common.{◌≡◌, ℕ, zero, suc, ◌+◌, ◌*◌, ◌/◌, ◌%◌, ◌^◌, ◌<◌, ◌≤◌, ◌==◌, ◌&&◌, not, Bool, true, false, List, [], ◌∷◌, ◌++◌, length, map, take, drop, replicate, Option, Some, None, Ok, refl, ap, ap₂, sym, subst, ◌∙◌, arith, slice_get, slice_index, option_map, nat_cmp}
use Rattle.std.specs.List.{zip}
use Rattle.std.specs.FinMap.{FinMap, empty, get-empty, insert, from_entries, nat_cmp-IsAntisymmetric, same_map}
use Rattle.std.specs.Cmp.{nat_cmp_total}
use Rattle.std.proofs.lemmas.List.{drop-take, drop_more, get_or-take, take-take}
use Rattle.std.proofs.Math.ListN.{drop_of_length-le}
use Rattle.cs_model.specs.Obj.{Obj}
use Rattle.cs_model.specs.ImageFile.{FileObject, File, file_of, visible, births_in, next_birth_in, file_header, number_at, special_address, u32_at, last_hash_in, is_nil_word}
use Rattle.cs_model.specs.ImageFault.{entry_in, table_size}
use Rattle.cs_model.specs.Image.{birth_in, object_in, classes_in, described, image_fault, image_of, rest_in, state_unless}
use Rattle.cs_model.specs.ImageFault.{ImageFault}
use Rattle.cs_model.specs.Profile.{is_page_count}
use Rattle.cs_model.specs.State.{Kept}
use Rattle.cs_heap.specs.Object.{Object, birth_at}
use Rattle.cs_classes.specs.Meaning.{classes_of, kept_header, kept_of, obj_of, ref_of, objects_of}
use Rattle.cs_classes.specs.Sound.{IsImageHeader}
use Rattle.cs_classes.specs.declared.Roots.{Roots}
use Rattle.cs_classes.proofs.Wholes.{classes_of-insert, get-classes_of}
use Rattle.cs_image.specs.Loading.{address_named, classes_at, loaded_from}
use Rattle.cs_image.proofs.Naming.{Stands, length-loaded_from, birth_is_place, birth_of-named}
use Rattle.cs_image.proofs.Soundness.{IsSoundFile, table_parts, entry_stands, fine_at, special_stands, visible_three}
use Rattle.cs_image.proofs.Numbering.{AreBirths}
use Rattle.cs_image.proofs.Wording.{memory_of}
use Rattle.cs_image.proofs.Elements.{IsFine, object_same}

-- ---- objects

entries_same : (births : List ℕ) (f : File) (k : ℕ) (os : List FileObject) → ((j : ℕ) (o : FileObject) → slice_get os j ≡ Some o → IsFine f o)
    → k + length os ≤ length births
    → map (λ x. (x.birth, obj_of (ref_of (memory_of births f)) x)) (loaded_from f births k os) ≡ zip (drop k births) (map (object_in f births) os)
entries_same births f k [] fine long = sym (no_more (drop k births))
  where
    no_more : (bs : List ℕ) → zip {X = Obj} bs [] ≡ []
    no_more [] = refl
    no_more (b ∷ bs) = refl
entries_same births f k (o ∷ os) fine long =
    (λ i. (slice_index births k, object_same births f (slice_index births k) o (fine 0 o refl) i)
    ∷ entries_same births f (k + 1) os (λ j x e. fine (suc j) x e) (omega (arith, long)) i)
    ∙ ap (λ (bs : List ℕ). zip bs (map (object_in f births) (o ∷ os))) (sym (drop_more births k 0 (omega (arith, long))))

pub objects_same : (births : List ℕ) (f : File) → length births ≡ length (visible f) → ((j : ℕ) (o : FileObject) → slice_get (visible f) j ≡ Some o → IsFine f o)
    → objects_of (memory_of births f) ≡ from_entries (zip births (map (object_in f births) (visible f)))
unfolding objects_of
objects_same births f long fine = ap (λ (es : List (ℕ × Obj)). from_entries es) (entries_same births f 0 (visible f) fine (omega (arith, long)))

-- ---- classes

classes_none : (os : List Object) → classes_of os empty ≡ empty
classes_none os = same_map nat_cmp_total nat_cmp-IsAntisymmetric _ _ (λ q. get-classes_of os empty q ∙ ap (option_map (birth_at os)) (get-empty nat_cmp q) ∙ sym (get-empty nat_cmp q))

pub classes_same : (births : List ℕ) (f : File) (n : ℕ) → ((i : ℕ) → i < n → is_nil_word f (entry_in f i) ≡ false → Stands births f (entry_in f i))
    → classes_of (memory_of births f) (classes_at f n) ≡ classes_in f births n
classes_same births f zero stands = classes_none (memory_of births f)
classes_same births f (suc n) stands = go (is_nil_word f (entry_in f n)) refl (classes_same births f n (λ i h e. stands i (omega (arith, h)) e))
  where
    go : (b : Bool) → is_nil_word f (entry_in f n) ≡ b → classes_of (memory_of births f) (classes_at f n) ≡ classes_in f births n
        → classes_of (memory_of births f) (classes_at f (suc n)) ≡ classes_in f births (suc n)
    go true e before =
        let here : classes_at f (suc n) ≡ classes_at f n = rw e refl in
        let there : classes_in f births (suc n) ≡ classes_in f births n = rw e refl in
        ap (classes_of (memory_of births f)) here ∙ before ∙ sym there
    go false e before =
        let here : classes_at f (suc n) ≡ insert (classes_at f n) n (address_named f (entry_in f n)) = rw e refl in
        let there : classes_in f births (suc n) ≡ insert (classes_in f births n) n (birth_in f births (entry_in f n)) = rw e refl in
        ap (classes_of (memory_of births f)) here
        ∙ classes_of-insert (memory_of births f) (classes_at f n) n (address_named f (entry_in f n))
        ∙ ap (insert (classes_of (memory_of births f) (classes_at f n)) n) (birth_of-named births f (entry_in f n) (stands n (omega arith) e))
        ∙ ap (λ (m : FinMap nat_cmp ℕ). insert m n (birth_in f births (entry_in f n))) before ∙ sym there

-- ---- the whole

header_same : (bytes : List ℕ) → kept_header (take 64 bytes) ≡ file_header bytes
unfolding kept_header
header_same bytes = λ i. take_8 i ++ replicate 16 0 ++ drop_24 i
  where
    take_8 : take 8 (take 64 bytes) ≡ take 8 bytes
    take_8 = take-take 8 64 bytes (omega arith)

    drop_24 : drop 24 (take 64 bytes) ≡ take 40 (drop 24 bytes)
    drop_24 = drop-take 24 40 bytes

pub record HasRoots (births : List ℕ) (bytes : List ℕ) (roots : Roots) : Type 0 where
  pub special : roots.special.0 ≡ address_named (file_of bytes) (special_address bytes)
  pub hash : roots.last_hash ≡ last_hash_in bytes
  pub births_are : births ≡ births_in bytes (length (visible (file_of bytes)))
  pub next : roots.next_birth ≡ next_birth_in bytes (length (visible (file_of bytes)))
  pub known : AreBirths births (length (visible (file_of bytes))) roots.next_birth
  pub small : roots.last_hash < 4194304
  pub header : roots.header ≡ take 64 bytes
  pub checked : IsImageHeader roots.header

pub kept_same : (births : List ℕ) (bytes : List ℕ) (roots : Roots) → HasRoots births bytes roots → IsSoundFile (file_of bytes) (special_address bytes)
    → kept_of (memory_of births (file_of bytes)) (classes_at (file_of bytes) table_size) roots None ≡ described bytes
unfolding described
kept_same births bytes roots r s =
    let f : File = file_of bytes in
    let table = table_parts f s.table in
    let three = visible_three f table in
    let start : kept_of (memory_of births f) (classes_at f table_size) roots None ≡ record {
      objects = from_entries (zip births (map (object_in f births) (visible f)));
      rest = rest_in bytes f births;
    } = (λ i. record {
      objects = objects_same births f r.known.long (λ j o e. fine_at f (special_address bytes) j o s e) i;
      rest = record {
        nil = birth_is_place births f (visible f) 0 (omega (arith, three)) i;
        false_ = birth_is_place births f (visible f) 1 (omega (arith, three)) i;
        true_ = birth_is_place births f (visible f) 2 (omega (arith, three)) i;
        special = special_same f (special_address bytes) roots.special.0 r.special (special_stands births f (special_address bytes) s.roots) i;
        header = header_at bytes roots.header r.header i;
        classes = classes_same births f table_size (λ k h e. entry_stands births f k table h e) i;
        last_hash = r.hash i;
        next = r.next i;
        active = None;
      };
    }) in
    start ∙ ap (λ (bs : List ℕ). record {
      objects = from_entries (zip bs (map (object_in f bs) (visible f)));
      rest = rest_in bytes f bs;
    }) r.births_are
  where
    special_same : (f : File) (word a : ℕ) → a ≡ address_named f word → Stands births f word → birth_at (memory_of births f) a ≡ birth_in f births word
    special_same f word a e st = ap (birth_at (memory_of births f)) e ∙ birth_of-named births f word st

    header_at : (bytes header : List ℕ) → header ≡ take 64 bytes → kept_header header ≡ file_header bytes
    header_at bytes header e = ap kept_header e ∙ header_same bytes

-- what a file without faults describes
pub image_is : (bytes : List ℕ) (limit : ℕ) (k : Kept) → image_fault bytes limit ≡ None → k ≡ described bytes → image_of bytes limit ≡ Ok k
unfolding image_of
image_is bytes limit k none same = ap (λ (f : Option ImageFault). state_unless f (described bytes)) none ∙ ap Ok (sym same)

-- ---- the header

number_at-take : (n limit : ℕ) (bytes : List ℕ) (place : ℕ) → place + n ≤ limit → number_at n (take limit bytes) place ≡ number_at n bytes place
number_at-take zero limit bytes place h = refl
number_at-take (suc n) limit bytes place h =
    ap₂ (λ (b rest : ℕ). b + 256 * rest) (get_or-take limit bytes place 0 (omega (arith, h))) (number_at-take n limit bytes (place + 1) (omega (arith, h)))

u32_at-take : (bytes : List ℕ) (place : ℕ) → place + 4 ≤ 64 → u32_at (take 64 bytes) place ≡ u32_at bytes place
unfolding u32_at
u32_at-take bytes place h = number_at-take 4 64 bytes place h

-- the first 64 bytes say what the file's header says
image_header-take : (bytes : List ℕ) → IsImageHeader bytes → IsImageHeader (take 64 bytes)
image_header-take bytes h = record {
  format = ap (λ n. not (n == 6521)) (u32_at-take bytes 0 (omega arith)) ∙ h.format;
  size = ap (λ n. not (n == 64)) (u32_at-take bytes 4 (omega arith)) ∙ h.size;
  profile = ap₂ (λ flags pages. flags / 2 ^ 31 % 2 == 1 && not (is_page_count pages)) (u32_at-take bytes 28 (omega arith)) (number_at-take 2 64 bytes 36 (omega arith)) ∙ h.profile;
}

-- ---- births

births_loaded : (births : List ℕ) (f : File) (k : ℕ) (os : List FileObject) → k + length os ≡ length births
    → map (λ x. x.birth) (loaded_from f births k os) ≡ drop k births
births_loaded births f k [] long = sym (drop_of_length-le births (omega (arith, long)))
births_loaded births f k (o ∷ os) long =
    ap (λ (bs : List ℕ). slice_index births k ∷ bs) (births_loaded births f (k + 1) os (omega (arith, long)))
    ∙ sym (drop_more births k 0 (omega (arith, long)))

-- what was built for a file
pub record IsBuilt (births : List ℕ) (bytes : List ℕ) (file : File) (objects : List Object) (table : FinMap nat_cmp ℕ) (roots : Roots) : Type 0 where
  pub objects_are : objects ≡ loaded_from file births 0 (visible file)
  pub table_is : table ≡ classes_at file table_size
  pub special : roots.special.0 ≡ address_named file (special_address bytes)
  pub hash : roots.last_hash ≡ last_hash_in bytes
  pub births_are : births ≡ births_in bytes (length (visible file))
  pub next : roots.next_birth ≡ next_birth_in bytes (length (visible file))
  pub known : AreBirths births (length (visible file)) roots.next_birth
  pub header : roots.header ≡ take 64 bytes
  pub checked : IsImageHeader bytes

pub built_roots : (births : List ℕ) (bytes : List ℕ) (file : File) (objects : List Object) (table : FinMap nat_cmp ℕ) (roots : Roots) → file ≡ file_of bytes
    → IsBuilt births bytes file objects table roots → HasRoots births bytes roots
built_roots births bytes file objects table roots same b = record {
  special = b.special ∙ ap (λ (f : File). address_named f (special_address bytes)) same;
  hash = b.hash;
  births_are = b.births_are ∙ ap (λ (f : File). births_in bytes (length (visible f))) same;
  next = b.next ∙ ap (λ (f : File). next_birth_in bytes (length (visible f))) same;
  known = let P : File → Type 0 = λ f. AreBirths births (length (visible f)) roots.next_birth in subst P same b.known;
  small = let h = b.hash in omega (arith, h);
  header = b.header;
  checked = subst IsImageHeader (sym b.header) (image_header-take bytes b.checked);
}

-- the births of the objects are those of the file
pub built_births : (births : List ℕ) (bytes : List ℕ) (file : File) (objects : List Object) (table : FinMap nat_cmp ℕ) (roots : Roots)
    → IsBuilt births bytes file objects table roots → map (λ x. x.birth) objects ≡ births_in bytes (length objects)
built_births births bytes file objects table roots b =
    ap (λ (os : List Object). map (λ x. x.birth) os) b.objects_are ∙ births_loaded births file 0 (visible file) (omega (arith, b.known.long)) ∙ b.births_are
    ∙ ap (births_in bytes) (sym (ap length b.objects_are ∙ length-loaded_from births file 0 (visible file)))

pub built_is : (births : List ℕ) (bytes : List ℕ) (limit : ℕ) (file : File) (objects : List Object) (table : FinMap nat_cmp ℕ) (roots : Roots) → file ≡ file_of bytes
    → IsBuilt births bytes file objects table roots → image_fault bytes limit ≡ None → IsSoundFile (file_of bytes) (special_address bytes)
    → image_of bytes limit ≡ Ok (kept_of objects table roots None)
built_is births bytes limit file objects table roots same b whole s =
    let o : objects ≡ memory_of births (file_of bytes) = b.objects_are ∙ ap (λ (f : File). loaded_from f births 0 (visible f)) same in
    let t : table ≡ classes_at (file_of bytes) table_size = b.table_is ∙ ap (λ (f : File). classes_at f table_size) same in
    image_is bytes limit (kept_of objects table roots None) whole
    ((λ i. kept_of (o i) (t i) roots None) ∙ kept_same births bytes roots (built_roots births bytes file objects table roots same b) s)
