-- An image that loads gives a valid state once it is opened.
use Rattle.std.proofs.Common.{◌≡◌, ℕ, ◌<◌, ◌%◌, ◌==◌, not, Bool, true, false, List, [], ◌∷◌, length, Option, Some, None, is_some, refl, ap, sym, subst, ◌∙◌, arith, slice_get, slice_index, option_map}
use Rattle.std.specs.FinMap.{FinMap, get}
use Rattle.std.specs.Ordering.{nat_cmp}
use Rattle.cs_model.specs.declared.event.Event.{Event}
use Rattle.cs_model.specs.Ref.{Ref}
use Rattle.cs_model.specs.Image.{head_in}
use Rattle.cs_model.specs.Obj.{Obj, Head, context_class, class_index_in, context_in, slots_in}
use Rattle.cs_model.specs.State.{Kept, IsValid, is_class_index, object_at}
use Rattle.cs_model.specs.Settle.{opened}
use Rattle.cs_model.specs.Words.{obj_by, is_pointer_format, is_method_format}
use Rattle.cs_model.specs.ImageFile.{FileObject, File, file_of, is_visible, nil_in, old_base, special_address, visible}
use Rattle.cs_model.specs.ImageFault.{entry_in, table_size}
use Rattle.cs_model.proofs.Leading.{Plain}
use Rattle.cs_heap.specs.Object.{Object}
use Rattle.cs_heap.specs.Object as heap
use Rattle.cs_classes.specs.Meaning.{kept_of, classes_of}
use Rattle.cs_classes.specs.Sound.{IsImageHeader, IsWhole}
use Rattle.cs_classes.specs.declared.Roots.{Roots}
use Rattle.cs_classes.proofs.Wholes.{get-classes_of, kept_of-below, kept_of-keeps}
use Rattle.cs_image.specs.Loading.{address_named, classes_at, loaded_from}
use Rattle.cs_image.proofs.Naming.{birth_in-stands, birth_of-named, stands_named}
use Rattle.cs_image.proofs.Numbering.{AreBirths}
use Rattle.cs_image.proofs.Wording.{memory_of, meant}
use Rattle.cs_image.proofs.Soundness.{IsSoundFile, and_true, context_at, entry_names, known_classes, seven}
use Rattle.cs_image.proofs.Describing.{IsBuilt, built_roots}
use Rattle.cs_image.proofs.Wholeness.{index_at, Ground, from_entry, ground_of, memory_whole, nil_empty, nil_named, nil_number, nil_stands, nil_visible}
use Rattle.cs_image.proofs.Opening.{HasFile, birth, equal, file_active, file_can_open, has_file, held}
use Rattle.cs_image.proofs.Pcs.{file_pcs, from_file}
use Rattle.cs_image.proofs.Starting.{Sleeps, opened_valid}

-- ---- class indices

class_of_words : (named : ℕ → Ref) (head : Head) (words : List ℕ) → class_index_in (obj_by named head words) ≡ head.class
unfolding obj_by
class_of_words named head words = go (head.class == context_class) (is_pointer_format head.format) (is_method_format head.format) refl refl refl
  where
    go : (a p m : Bool) → (head.class == context_class) ≡ a → is_pointer_format head.format ≡ p → is_method_format head.format ≡ m → class_index_in (obj_by named head words) ≡ head.class
    go true p m ea ep em = let is : head.class ≡ context_class = equal head.class context_class ea in rw ea (sym is)
    go false true m ea ep em = rw (ea, ep) refl
    go false false true ea ep em = rw (ea, ep, em) refl
    go false false false ea ep em = rw (ea, ep, em) refl

file_indices : (births : List ℕ) (f : File) (special : ℕ) (k : Kept) → HasFile births f special k → (i : ℕ) (o : Obj) → object_at k i ≡ Some o → is_class_index (class_index_in o) ≡ true
file_indices births f special k h i o there =
    let a = from_file births f special k h i o there in
    let x = a.object in
    ap (λ (y : Obj). is_class_index (class_index_in y)) (sym a.means)
    ∙ ap is_class_index (class_of_words (meant births f) (head_in x) x.words)
    ∙ index_at f special a.place x h.ground_of.sound a.there

-- ---- the class table

no_context : (named : ℕ → Ref) (head : Head) (words : List ℕ) → (head.class == context_class) ≡ false → context_in (Some (obj_by named head words)) ≡ None
unfolding obj_by
no_context named head words ea = go (is_pointer_format head.format) (is_method_format head.format) refl refl
  where
    go : (p m : Bool) → is_pointer_format head.format ≡ p → is_method_format head.format ≡ m → context_in (Some (obj_by named head words)) ≡ None
    go true m ep em = rw (ea, ep) refl
    go false true ep em = rw (ea, ep, em) refl
    go false false ep em = rw (ea, ep, em) refl

-- an entry of the table
record Entry (os : List Object) (table : FinMap nat_cmp ℕ) (index i : ℕ) : Type 0 where
  a : ℕ
  there : get table index ≡ Some a
  is : heap.birth_at os a ≡ i

entry_of : (os : List Object) (table : FinMap nat_cmp ℕ) (index i : ℕ) → get (classes_of os table) index ≡ Some i → Entry os table index i
entry_of os table index i e = go (get table index) refl (sym (get-classes_of os table index) ∙ e)
  where
    go : (r : Option ℕ) → get table index ≡ r → option_map (heap.birth_at os) r ≡ Some i → Entry os table index i
    go None er h = absurd (cc)
    go (Some a) er h = record { a = a; there = er; is = cc }

file_table : (births : List ℕ) (f : File) (special : ℕ) (k : Kept) → HasFile births f special k → k.rest.classes ≡ classes_of (memory_of births f) (classes_at f table_size)
    → (index i : ℕ) → get k.rest.classes index ≡ Some i → Plain k i
file_table births f special k h classes index i e =
    let t = entry_of (memory_of births f) (classes_at f table_size) index i (ap (λ (m : FinMap nat_cmp ℕ). get m index) (sym classes) ∙ e) in
    let r = from_entry f table_size index t.a t.there in
    let word = entry_in f index in
    let c = entry_names f index h.ground_of.table r.below r.filled in
    let x = c.class in
    let at : birth births f word ≡ i = sym (birth_of-named births f word (stands_named births f word x c.named_is c.visible_is)) ∙ ap (heap.birth_at (memory_of births f)) (sym r.address) ∙ t.is in
    let there : object_at k i ≡ Some (obj_by (meant births f) (head_in x) x.words) = ap (object_at k) (sym at) ∙ (held births f special k h word x c.named_is c.visible_is).at in
    record { there = ap is_some there; plain = ap context_in there ∙ no_context (meant births f) (head_in x) x.words c.plain }

-- index 16 has no entry
file_hidden : (births : List ℕ) (f : File) (special : ℕ) → Ground f special → get (classes_of (memory_of births f) (classes_at f table_size)) 16 ≡ None
file_hidden births f special g = go (get (classes_at f table_size) 16) refl
  where
    go : (r : Option ℕ) → get (classes_at f table_size) 16 ≡ r → get (classes_of (memory_of births f) (classes_at f table_size)) 16 ≡ None
    go None e = get-classes_of (memory_of births f) (classes_at f table_size) 16 ∙ ap (option_map (heap.birth_at (memory_of births f))) e
    go (Some a) e =
        let wrong : true ≡ false = sym (ap not (from_entry f table_size 16 a e).filled) ∙ (known_classes f g.table).free in
        absurd (cc)

-- ---- nil

empty_pointers : (named : ℕ → Ref) (head : Head) (words : List ℕ) → (head.class == context_class) ≡ false → head.format ≡ 0 → length words ≡ 0 → slots_in (Some (obj_by named head words)) ≡ Some []
unfolding obj_by
empty_pointers named head [] other zero none =
    let p : is_pointer_format head.format ≡ true = ap is_pointer_format zero in
    rw (other, p) refl
empty_pointers named head (w ∷ words) other zero none = absurd (omega (arith, none))

file_bare : (births : List ℕ) (f : File) (special : ℕ) (k : Kept) → HasFile births f special k → slots_in (object_at k k.rest.nil) ≡ Some []
file_bare births f special k h =
    let g = h.ground_of in
    let s = g.first in
    let x = s.nil in
    let a = held births f special k h (nil_in f) x (nil_named f s) (nil_visible f s) in
    let at : birth births f (nil_in f) ≡ k.rest.nil = birth_in-stands births f (nil_in f) (nil_stands births f s) ∙ ap (slice_index births) (nil_number births f s) ∙ sym h.nil in
    let zero : x.format ≡ 0 = equal x.format 0 (and_true (is_visible x) (x.format == 0) s.oddball).1 in
    ap (λ (n : ℕ). slots_in (object_at k n)) (sym at) ∙ ap slots_in a.at
    ∙ empty_pointers (meant births f) (head_in x) x.words (plain x zero (x.class == context_class) refl a.j a.there) zero (nil_empty f special g)
  where
    plain : (x : FileObject) → x.format ≡ 0 → (b : Bool) → (x.class == context_class) ≡ b → (j : ℕ) → slice_get (visible f) j ≡ Some x → (x.class == context_class) ≡ false
    plain x zero false e j there = e
    plain x zero true e j there =
        let parts = seven _ _ _ _ _ _ _ (context_at f special j x h.ground_of.sound there e) in
        let wrong : false ≡ true = ap (λ (n : ℕ). n == 3) (sym zero) ∙ parts.format in
        absurd (cc)

-- ---- the whole

sleeps : (births : List ℕ) (f : File) (special : ℕ) (roots : Roots) → Ground f special → IsWhole (memory_of births f) (classes_at f table_size) roots → HasFile births f special (kept_of (memory_of births f) (classes_at f table_size) roots None)
    → Sleeps (kept_of (memory_of births f) (classes_at f table_size) roots None)
sleeps births f special roots g w h =
    let k : Kept = kept_of (memory_of births f) (classes_at f table_size) roots None in
    record {
      sound = record {
        below = λ i o e. kept_of-below (memory_of births f) (classes_at f table_size) roots i o w e;
        pcs = file_pcs births f special k h;
        indices = file_indices births f special k h;
        table = file_table births f special k h refl;
        hidden = file_hidden births f special g;
        bare = file_bare births f special k h;
        live = λ i e. absurd (cc);
      };
      closed = kept_of-keeps (memory_of births f) (classes_at f table_size) roots None w (λ i e. absurd (cc));
      process = file_active births f special k h;
      none = refl;
    }

file_valid : (births : List ℕ) (f : File) (special : ℕ) (roots : Roots) → Ground f special → roots.special.0 ≡ address_named f special → AreBirths births (length (visible f)) roots.next_birth → roots.last_hash < 4194304 → IsImageHeader roots.header
    → (events : List Event) (snapping : Bool) → IsValid (opened (kept_of (memory_of births f) (classes_at f table_size) roots None) events snapping)
file_valid births f special roots g at next small checked events snapping =
    let k : Kept = kept_of (memory_of births f) (classes_at f table_size) roots None in
    let h = has_file births f special (classes_at f table_size) roots g at next in
    opened_valid k events snapping (sleeps births f special roots g (memory_whole births f special roots g at next small checked) h) (file_can_open births f special k h)

-- what was built for a file without faults
pub built_valid : (births : List ℕ) (bytes : List ℕ) (file : File) (objects : List Object) (table : FinMap nat_cmp ℕ) (roots : Roots) → file ≡ file_of bytes → IsBuilt births bytes file objects table roots
    → old_base bytes % 8 ≡ 0 → IsSoundFile (file_of bytes) (special_address bytes)
    → (events : List Event) (snapping : Bool) → IsValid (opened (kept_of objects table roots None) events snapping)
built_valid births bytes file objects table roots same b base_is s =
    let f : File = file_of bytes in
    let r = built_roots births bytes file objects table roots same b in
    let valid = file_valid births f (special_address bytes) roots (ground_of bytes base_is s) r.special r.known r.small r.checked in
    let P : List Object → Type 0 = λ os. (events : List Event) (snapping : Bool) → IsValid (opened (kept_of os (classes_at f table_size) roots None) events snapping) in
    let Q : FinMap nat_cmp ℕ → Type 0 = λ t. (events : List Event) (snapping : Bool) → IsValid (opened (kept_of objects t roots None) events snapping) in
    subst Q (sym (b.table_is ∙ ap (λ (f : File). classes_at f table_size) same)) (subst P (sym (b.objects_are ∙ ap (λ (f : File). loaded_from f births 0 (visible f)) same)) valid)
