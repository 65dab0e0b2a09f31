-- What the primitives on objects lead to.
use Rattle.std.proofs.Common.{◌≡◌, ℕ, ◌+◌, ◌-◌, ◌==◌, ◌&&◌, Bool, true, refl, sym, ap, ◌∙◌, Option, Some, None, IsSome, is_some, List, length, unwrap_or, nat_lt, arith}
use Rattle.std.specs.Prelude.{slice_get}
use Rattle.std.proofs.lemmas.Bool.Decides.{nat_tests}
use Rattle.cs_model.specs.Ref.{Ref, Small, Char, named_object, small_index, same_ref}
use Rattle.cs_model.specs.Ref as ref
use Rattle.cs_model.specs.Obj.{Obj, Context, Ptr, Raw, Method, Ctx, class_index_in, is_context, at_least, is_header, words_of}
use Rattle.cs_model.specs.State.{Kept, object_at, object_of, slots_of, special_at, is_class_index}
use Rattle.cs_model.specs.Operation.{next_ref}
use Rattle.cs_model.specs.Context.{context_get, accepts}
use Rattle.cs_model.specs.Instance.{Made, New, NotInstantiable, TableFull, instantiate, Index, IndexAt, NoIndex, NoneFree, class_index_for, shape_of, Hashed, Hash, NotAClass, NoneLeft, behavior_hash}
use Rattle.cs_model.specs.Element.{range_of, element_place, front}
use Rattle.cs_model.specs.Exec.{is_active, small_operands}
use Rattle.cs_model.specs.PrimAnswer.{receiver, argument}
use Rattle.cs_model.specs.PrimObject.{at_prim, at_put_prim, has_size, small_count, size_prim, is_bytes, char_at_prim, byte_code, char_at_put_prim, method_slot, slot_index, object_at_prim, object_at_put_prim, answer_made, new_prim, new_size_prim, point_class, point_slots, point_made, point_prim, answer_field, read_slot, slot_at_prim, context_at_put, slot_put, slot_at_put_prim, hash_prim, some_instance_prim, next_instance_prim, blank_method, is_method_index, make_method, is_method_shape, new_method_prim, copy_kinds, copy_fits, range_count, copy_to, replace_prim, identical_prim, class_prim, copied, look_if, copy_object, copy_prim, answer_hashed, behavior_hash_prim, read_only_prim, can_be_fixed, boolean_in, set_read_only_prim, quick_prim}
use Rattle.cs_model.specs.End.{Out}
use Rattle.cs_model.proofs.Leading.{Sound, PcsLie}
use Rattle.cs_model.proofs.LeadCombining.{Ready, goes_trans, ready_behind, Leading, fail_leading, made_leading, looked_leading, given_leading, if_leading}
use Rattle.cs_model.proofs.LeadOperation.{context_lies, no_context_lies, store_goes, store_byte_goes, set_fixed_goes, add_goes}
use Rattle.cs_model.proofs.LeadFields.{context_put_goes}
use Rattle.cs_model.proofs.LeadExecuting.{Fills, fill_goes}
use Rattle.cs_model.proofs.LeadAnswer.{answer_leading, answer_behind, with_count_leading, unless_read_only_leading, answer_if_leading, answer_in_leading}
use Rattle.cs_model.proofs.LeadInstance.{and_true, shown_index, shape_slots, NotHidden, class_index_for-not_hidden, take_index_goes, MadeGoes, instantiate_goes, HashedGoes, behavior_hash_goes, hash_given_goes}
use Rattle.cs_model.proofs.LeadElement.{GoesIf, goes_none, if_goes_some, map_goes, and_then_goes_if, with_element_goes, copy_elements_goes}

-- ---- elements

pub at_leading : {P : Kept → Type 0} {k : Kept} (args : ℕ) → Ready k → Leading P k (at_prim k args)
unfolding at_prim
at_leading args r = with_count_leading 1 args r (answer_if_leading 1 _ r)

pub at_put_leading : {P : Kept → Type 0} {k : Kept} (args : ℕ) → Ready k → Leading P k (at_put_prim k args)
unfolding at_put_prim
at_put_leading {k = k} args r =
    with_count_leading 2 args r (unless_read_only_leading (receiver k 2) r (answer_in_leading _ 2 _ r
    (and_then_goes_if _ (element_place k (receiver k 2) (argument k 2 0)) (λ place e. with_element_goes (receiver k 2) place (argument k 2 1) r))))

pub size_leading : {P : Kept → Type 0} {k : Kept} (args : ℕ) → Ready k → Leading P k (size_prim k args)
unfolding size_prim
size_leading {k = k} args r = with_count_leading 0 args r (if_leading (has_size (object_of k (receiver k 0))) (λ e. answer_if_leading 0 _ r) (λ e. fail_leading r))

pub char_at_leading : {P : Kept → Type 0} {k : Kept} (args : ℕ) → Ready k → Leading P k (char_at_prim k args)
unfolding char_at_prim
char_at_leading args r = with_count_leading 1 args r (answer_if_leading 1 _ r)

pub char_at_put_leading : {P : Kept → Type 0} {k : Kept} (args : ℕ) → Ready k → Leading P k (char_at_put_prim k args)
unfolding char_at_put_prim
char_at_put_leading {k = k} args r =
    with_count_leading 2 args r (unless_read_only_leading (receiver k 2) r (if_leading (is_bytes k (receiver k 2))
    (λ e. answer_in_leading _ 2 _ r (and_then_goes_if _ (element_place k (receiver k 2) (argument k 2 0)) (λ place f.
    map_goes _ (byte_code (argument k 2 1)) (λ b. store_byte_goes (receiver k 2) place b r))))
    (λ e. fail_leading r)))

-- ---- literals

pub object_at_leading : {P : Kept → Type 0} {k : Kept} (args : ℕ) → Ready k → Leading P k (object_at_prim k args)
unfolding object_at_prim
object_at_leading args r = with_count_leading 1 args r (answer_if_leading 1 _ r)

pub object_at_put_leading : {P : Kept → Type 0} {k : Kept} (args : ℕ) → Ready k → Leading P k (object_at_put_prim k args)
unfolding object_at_put_prim
object_at_put_leading {k = k} args r =
    with_count_leading 2 args r (unless_read_only_leading (receiver k 2) r (answer_in_leading _ 2 _ r (and_then_goes_if _ (slot_index (argument k 2 0)) (λ i e.
    if_goes_some (nat_lt 0 i && is_some (method_slot (object_of k (receiver k 2)) i)) (λ f. store_goes (receiver k 2) i (argument k 2 1) r)))))

-- ---- new instances

answer_made_leading : {P : Kept → Type 0} {k : Kept} (args : ℕ) (m : Made) → Ready k → MadeGoes k m → Leading P k (answer_made k args m)
answer_made_leading args NotInstantiable r h = fail_leading r
answer_made_leading args TableFull r h = fail_leading r
answer_made_leading args (New t x words) r h = made_leading words (answer_behind args x h)

pub new_leading : {P : Kept → Type 0} {k : Kept} (args : ℕ) → Ready k → Leading P k (new_prim k args)
unfolding new_prim
new_leading {k = k} args r = with_count_leading 0 args r (answer_made_leading 0 (instantiate k (receiver k 0) 0) r (instantiate_goes (receiver k 0) 0 r))

pub new_size_leading : {P : Kept → Type 0} {k : Kept} (args : ℕ) → Ready k → Leading P k (new_size_prim k args)
unfolding new_size_prim
new_size_leading {k = k} args r =
    with_count_leading 1 args r (given_leading (small_index (argument k 1 0)) _ (fail_leading r) (λ size e.
    answer_made_leading 1 (instantiate k (receiver k 1) size) r (instantiate_goes (receiver k 1) size r)))

-- an object with two slots has some
wide_fills : (k : Kept) (p : Ref) (slots values : List Ref) → slots_of k 2 p ≡ Some slots → Fills (object_of k p) values
unfolding slots_of
wide_fills k p slots values e = record { none = λ h. absurd (none_some (sym (ap (at_least 2) h) ∙ e)) } where
  none_some : None ≡ Some slots → ⊥
  none_some f = cc

point_made_leading : {P : Kept → Type 0} {k : Kept} (m : Made) → Ready k → MadeGoes k m → Leading P k (point_made k m)
point_made_leading NotInstantiable r h = fail_leading r
point_made_leading TableFull r h = fail_leading r
point_made_leading {k = k} (New t p words) r h =
    given_leading (slots_of t 2 p) _ (fail_leading r) (λ slots e.
    made_leading words (answer_behind 1 p (goes_trans h (fill_goes p (point_slots (receiver k 1) (argument k 1 0) slots) (ready_behind h) (wide_fills t p slots _ e)))))

pub point_leading : {P : Kept → Type 0} {k : Kept} (args : ℕ) → Ready k → Leading P k (point_prim k args)
unfolding point_prim
point_leading {k = k} args r =
    with_count_leading 1 args r (if_leading (is_some (small_operands k))
    (λ e. given_leading (special_at k point_class) _ (fail_leading r) (λ class f. point_made_leading (instantiate k class 0) r (instantiate_goes class 0 r)))
    (λ e. fail_leading r))

-- ---- slots

answer_field_leading : {P : Kept → Type 0} {k : Kept} (args i : ℕ) (value : Option Ref) → Ready k → Leading P k (answer_field k args i value)
answer_field_leading args i value r =
    given_leading value _ (fail_leading r) (λ x e. if_leading (i == 0) (λ f. looked_leading (answer_leading args x r)) (λ f. answer_leading args x r))

pub slot_at_case : {P : Kept → Type 0} {k : Kept} (args i : ℕ) (o : Option Obj) → Ready k → Leading P k (read_slot k args i o)
slot_at_case args i None r = fail_leading r
slot_at_case args i (Some (Ptr head slots)) r = answer_if_leading args (slice_get slots i) r
slot_at_case args i (Some (Raw head bytes)) r = fail_leading r
slot_at_case args i (Some (Method head header literals bytecodes)) r = fail_leading r
slot_at_case {k = k} args i (Some (Ctx c)) r = answer_field_leading args i (context_get k c i) r

pub slot_at_leading : {P : Kept → Type 0} {k : Kept} (args : ℕ) → Ready k → Leading P k (slot_at_prim k args)
unfolding slot_at_prim
slot_at_leading {k = k} args r =
    with_count_leading 1 args r (given_leading (slot_index (argument k 1 0)) _ (fail_leading r) (λ i e. slot_at_case 1 i (object_of k (receiver k 1)) r))

itself : (n : ℕ) → (n == n) ≡ true
itself n = grind (arith, nat_tests)

-- what may be written into a field of a context
context_at_put_goes : {k : Kept} (x : Ref) (i : ℕ) (v : Ref) (c : Context) (o : Option ℕ) → named_object x ≡ o → object_of k x ≡ Some (Ctx c) → Ready k → GoesIf k (context_at_put k x i v c o)
context_at_put_goes {k} x i v c None e f r = goes_none k
context_at_put_goes {k} x i v c (Some birth) e f r =
    if_goes_some (accepts k (is_active k x) c i v) (λ h. context_put_goes birth (is_active k x) c i v r (there x birth e f) (is_it x birth e) h)
  where
    there : (y : Ref) (b : ℕ) → named_object y ≡ Some b → object_of k y ≡ Some (Ctx c) → object_at k b ≡ Some (Ctx c)
    there (Small a) b g h = absurd (cc)
    there (Char a) b g h = absurd (cc)
    there (ref.Obj j) b g h = ap (object_at k) (ap (λ o. unwrap_or o b) (sym g)) ∙ h

    is_it : (y : Ref) (b : ℕ) → named_object y ≡ Some b → k.rest.active ≡ Some b → is_active k y ≡ true
    is_it (Small a) b g h = absurd (cc)
    is_it (Char a) b g h = absurd (cc)
    is_it (ref.Obj j) b g h = ap (λ n. j == n) (ap (λ o. unwrap_or o k.rest.nil) (h ∙ sym g)) ∙ itself j

slot_put_goes : {k : Kept} (x : Ref) (i : ℕ) (v : Ref) (o : Option Obj) → object_of k x ≡ o → Ready k → GoesIf k (slot_put k x i v o)
slot_put_goes {k} x i v None e r = goes_none k
slot_put_goes x i v (Some (Ptr head slots)) e r = if_goes_some (nat_lt i (length slots)) (λ f. store_goes x i v r)
slot_put_goes {k} x i v (Some (Raw head bytes)) e r = goes_none k
slot_put_goes {k} x i v (Some (Method head header literals bytecodes)) e r = goes_none k
slot_put_goes x i v (Some (Ctx c)) e r = context_at_put_goes x i v c (named_object x) refl e r

pub slot_at_put_leading : {P : Kept → Type 0} {k : Kept} (args : ℕ) → Ready k → Leading P k (slot_at_put_prim k args)
unfolding slot_at_put_prim
slot_at_put_leading {k = k} args r =
    with_count_leading 2 args r (unless_read_only_leading (receiver k 2) r (answer_in_leading _ 2 _ r (and_then_goes_if _ (slot_index (argument k 2 0)) (λ i e.
    slot_put_goes (receiver k 2) i (argument k 2 1) (object_of k (receiver k 2)) refl r))))

-- ---- hashes, and the instances of a class

pub hash_leading : {P : Kept → Type 0} {k : Kept} (args : ℕ) → Ready k → Leading P k (hash_prim k args)
unfolding hash_prim
hash_leading {k = k} args r =
    with_count_leading 0 args r (if_leading (is_some (object_of k (receiver k 0))) (λ e. answer_behind 0 _ (hash_given_goes (receiver k 0) r)) (λ e. fail_leading r))

pub some_instance_leading : {P : Kept → Type 0} {k : Kept} (args : ℕ) → Ready k → Leading P k (some_instance_prim k args)
unfolding some_instance_prim
some_instance_leading args r = with_count_leading 0 args r (answer_if_leading 0 _ r)

pub next_instance_leading : {P : Kept → Type 0} {k : Kept} (args : ℕ) → Ready k → Leading P k (next_instance_prim k args)
unfolding next_instance_prim
next_instance_leading args r = with_count_leading 0 args r (answer_if_leading 0 _ r)

-- ---- a new method

make_method_leading : {P : Kept → Type 0} {k : Kept} (class : Ref) (count header : ℕ) (index : Index) → Ready k → IsSome (slots_of k 3 class) → NotHidden index → Leading P k (make_method k class count header index)
make_method_leading class count header NoIndex r h seen = fail_leading r
make_method_leading class count header NoneFree r h seen = fail_leading r
make_method_leading {k = k} class count header (IndexAt index) r h seen =
    if_leading (is_method_index index) (λ e.
    let a = take_index_goes 3 class index r h seen in
    let o = blank_method k index count header in
    made_leading (words_of o) (answer_behind 2 (next_ref k) (goes_trans a (add_goes o (ready_behind a) (shown_index index (and_true (nat_lt 3 index) _ e).0 seen) (no_context_lies refl)))))
    (λ e. fail_leading r)

method_slots : (k : Kept) (class : Ref) → is_method_shape (shape_of k class) ≡ true → IsSome (slots_of k 3 class)
method_slots k class e = go (shape_of k class) refl e where
  go : (o : Option ℕ) → shape_of k class ≡ o → is_method_shape o ≡ true → IsSome (slots_of k 3 class)
  go None f g = absurd (cc)
  go (Some shape) f g = shape_slots k class shape f

pub new_method_leading : {P : Kept → Type 0} {k : Kept} (args : ℕ) → Ready k → Leading P k (new_method_prim k args)
unfolding new_method_prim
new_method_leading {k = k} args r =
    with_count_leading 2 args r (given_leading (small_index (argument k 2 0)) _ (fail_leading r) (λ count e.
    given_leading (small_index (argument k 2 1)) _ (fail_leading r) (λ header f.
    if_leading (is_method_shape (shape_of k (receiver k 2)) && is_header header)
    (λ g. make_method_leading (receiver k 2) count header (class_index_for k (receiver k 2)) r (method_slots k (receiver k 2) (and_true _ (is_header header) g).0) (class_index_for-not_hidden k (receiver k 2) r.sound.hidden))
    (λ g. fail_leading r))))

-- ---- copying elements

copy_to_leading : {P : Kept → Type 0} {k : Kept} (x other : Ref) (start stop from : ℕ) → Ready k → Leading P k (copy_to k x other start stop from)
copy_to_leading {k = k} x other start stop from r =
    given_leading (range_count (range_of k x)) _ (fail_leading r) (λ mine e.
    given_leading (range_count (range_of k other)) _ (fail_leading r) (λ its f.
    if_leading (copy_fits start stop from mine its) (λ g. answer_behind 4 x (copy_elements_goes (stop + 1 - start) x (front k x + (start - 1)) other (front k other + (from - 1)) r)) (λ g. fail_leading r)))

pub replace_leading : {P : Kept → Type 0} {k : Kept} (args : ℕ) → Ready k → Leading P k (replace_prim k args)
unfolding replace_prim
replace_leading {k = k} args r =
    with_count_leading 4 args r (unless_read_only_leading (receiver k 4) r (given_leading (small_index (argument k 4 0)) _ (fail_leading r) (λ start e.
    given_leading (small_index (argument k 4 1)) _ (fail_leading r) (λ stop f.
    given_leading (small_index (argument k 4 3)) _ (fail_leading r) (λ from g.
    if_leading (copy_kinds (object_of k (receiver k 4)) (object_of k (argument k 4 2)))
    (λ h. copy_to_leading (receiver k 4) (argument k 4 2) start stop from r) (λ h. fail_leading r))))))

-- ---- identity, class, copy and hash

pub identical_leading : {P : Kept → Type 0} {k : Kept} (args : ℕ) → Ready k → Leading P k (identical_prim k args)
unfolding identical_prim
identical_leading args r = with_count_leading 1 args r (answer_leading 1 _ r)

pub class_leading : {P : Kept → Type 0} {k : Kept} (args : ℕ) → Ready k → Leading P k (class_prim k args)
unfolding class_prim
class_leading args r = with_count_leading 0 args r (answer_leading 0 _ r)

copied_index : (o : Obj) → class_index_in (copied o) ≡ class_index_in o
copied_index (Ptr head slots) = refl
copied_index (Raw head bytes) = refl
copied_index (Method head header literals bytecodes) = refl
copied_index (Ctx c) = refl

-- the pc of a copy of a context lies where that of the context does
copied_lies : {k : Kept} → Sound k → (i : ℕ) (o : Obj) → object_at k i ≡ Some o → PcsLie k (copied o)
copied_lies s i (Ptr head slots) e = no_context_lies refl
copied_lies s i (Raw head bytes) e = no_context_lies refl
copied_lies s i (Method head header literals bytecodes) e = no_context_lies refl
copied_lies s i (Ctx c) e = context_lies (record c { hash = 0 }) (s.pcs i c e)

look_if_leading : {P : Kept → Type 0} {k : Kept} {o : Out} (b : Bool) → Leading P k o → Leading P k (look_if b o)
look_if_leading b h = if_leading b (λ e. looked_leading h) (λ e. h)

copy_object_leading : {P : Kept → Type 0} {k : Kept} (i : ℕ) (o : Obj) → object_at k i ≡ Some o → Ready k → Leading P k (copy_object k o)
copy_object_leading {k = k} i o e r =
    look_if_leading (is_context o) (made_leading (words_of o) (answer_behind 0 (next_ref k)
    (add_goes (copied o) r (ap is_class_index (copied_index o) ∙ r.sound.indices i o e) (copied_lies r.sound i o e))))

copy_of_leading : {P : Kept → Type 0} {k : Kept} (x : Ref) (o : Obj) → object_of k x ≡ Some o → Ready k → Leading P k (copy_object k o)
copy_of_leading (Small a) o e r = absurd (cc)
copy_of_leading (Char c) o e r = absurd (cc)
copy_of_leading (ref.Obj i) o e r = copy_object_leading i o e r

pub copy_leading : {P : Kept → Type 0} {k : Kept} (args : ℕ) → Ready k → Leading P k (copy_prim k args)
unfolding copy_prim
copy_leading {k = k} args r = with_count_leading 0 args r (given_leading (object_of k (receiver k 0)) _ (answer_leading 0 _ r) (λ o e. copy_of_leading (receiver k 0) o e r))

answer_hashed_leading : {P : Kept → Type 0} {k : Kept} (h : Hashed) → Ready k → HashedGoes k h → Leading P k (answer_hashed k h)
answer_hashed_leading NotAClass r h = fail_leading r
answer_hashed_leading NoneLeft r h = fail_leading r
answer_hashed_leading (Hash t index) r h = answer_behind 0 (small_count index) h

pub behavior_hash_leading : {P : Kept → Type 0} {k : Kept} (args : ℕ) → Ready k → Leading P k (behavior_hash_prim k args)
unfolding behavior_hash_prim
behavior_hash_leading {k = k} args r = with_count_leading 0 args r (answer_hashed_leading (behavior_hash k (receiver k 0)) r (behavior_hash_goes (receiver k 0) r))

-- ---- objects that may not be stored into

pub read_only_leading : {P : Kept → Type 0} {k : Kept} (args : ℕ) → Ready k → Leading P k (read_only_prim k args)
unfolding read_only_prim
read_only_leading args r = with_count_leading 0 args r (answer_leading 0 _ r)

pub set_read_only_leading : {P : Kept → Type 0} {k : Kept} (args : ℕ) → Ready k → Leading P k (set_read_only_prim k args)
unfolding set_read_only_prim
set_read_only_leading {k = k} args r =
    with_count_leading 1 args r (if_leading (can_be_fixed (object_of k (receiver k 1)))
    (λ e. given_leading (boolean_in k (argument k 1 0)) _ (fail_leading r) (λ on f. answer_behind 1 _ (set_fixed_goes (receiver k 1) on r)))
    (λ e. fail_leading r))

-- ---- quick answers

pub quick_leading : {P : Kept → Type 0} {k : Kept} (number args : ℕ) → Ready k → Leading P k (quick_prim k number args)
unfolding quick_prim
quick_leading {k = k} number args r =
    if_leading (number == 256) (λ e. answer_leading args _ r) (λ e.
    if_leading (number == 257) (λ e. answer_leading args _ r) (λ e.
    if_leading (number == 258) (λ e. answer_leading args _ r) (λ e.
    if_leading (number == 259) (λ e. answer_leading args _ r) (λ e.
    if_leading (number == 260) (λ e. answer_leading args _ r) (λ e.
    if_leading (nat_lt number 264) (λ e. answer_leading args _ r) (λ e.
    slot_at_case args (number - 264) (object_of k (receiver k args)) r))))))
