-- The rows of the table.
use Rattle.std.proofs.Common.{◌≡◌, ◌≢◌, ◌∙◌, ℕ, ◌-◌, ◌<◌, ◌≤◌, Bool, true, false, refl, sym, ap, ap₂, subst, arith, Option, Some, None, is_some, pos, negsuc}
use Rattle.std.specs.Prelude.{◌==◌, ◌||◌, ◌&&◌, if◌then◌else◌, nat_le, nat_lt, not, option_and_then, option_map, slice_get, unwrap_or}
use Rattle.std.proofs.lemmas.Bool.{eqb-true}
use Rattle.std.proofs.lemmas.Bool.Decides.{nat_tests}
use Rattle.cs_model.specs.Ref.{Ref, Small, Char, same_ref}
use Rattle.cs_model.specs.Read.{class_of}
use Rattle.cs_model.specs.Element.{element_at, element_place, range_of}
use Rattle.cs_model.specs.Number.{boolean}
use Rattle.cs_model.specs.Operation.{nil_of}
use Rattle.cs_model.specs.Obj.{Obj, Ptr, Raw, Method, Ctx, context_in, is_fixed_at, slots_in}
use Rattle.cs_model.specs.State.{Kept, object_of}
use Rattle.cs_model.specs.Context.{context_get, is_context_ref}
use Rattle.cs_model.specs.End.{Out, given}
use Rattle.cs_model.specs.PrimAnswer.{answer, answer_if, argument, fail, receiver, with_count}
use Rattle.cs_model.specs.PrimObject.{char_at_put_prim, object_at_put_prim, set_read_only_prim, slot_at_put_prim, answer_field, at_prim, byte_at, char_at_prim, class_prim, identical_prim, is_unwritable, method_slot, object_at_prim, quick_prim, read_only_prim, read_slot, size_prim, slot_at_prim, slot_index, has_size, small_count}
use Rattle.cs_model.specs.PrimTable.{kept_prim}
use Rattle.cs_acts.specs.Targets.{field_of}
use Rattle.cs_prim_obj.specs.Contents.{contents_of}
use Rattle.cs_prim_obj.specs.declared.contents.Contents.TheVariants.{Immediate}
use Rattle.cs_prim_obj.specs.declared.numbers.Primitive.{Primitive}
use Rattle.cs_prim_obj.specs.declared.numbers.Primitive.TheVariants.{CharAtPut, ObjectAtPut, SetReadOnly, SlotAtPut, At, Size, CharAt, ObjectAt, SlotAt, Identical, Class, IsReadOnly, Quick}
use Rattle.cs_prim_obj.specs.Numbers.{HasObjectNumber, has_object_number, is_quick, is_about_objects, performs_on_objects, takes, arguments_wanted}
use Rattle.cs_prim_obj.specs.Quick.{quick_value}

-- ---- the numbers

pub listed : (k : Kept) (number args : ℕ) → performs_on_objects k number args ≡ true → has_object_number number ≡ true
listed k number args h = go (is_about_objects number) (number == 73) (number == 74) (not (is_context_ref k (receiver k args))) h
  where
    go : (a b c d : Bool) → (a || ((b || c) && d)) ≡ true → (a || b || c) ≡ true
    go true b c d h = refl
    go false true c d h = refl
    go false false true d h = refl
    go false false false d h = absurd (cc)

-- 74 is here for receivers alone that are no contexts
pub other_receiver : (k : Kept) (number args : ℕ) → performs_on_objects k number args ≡ true → number ≡ 74 → args ≡ 2 → is_context_ref k (receiver k 2) ≡ false
other_receiver k number args h is two = go (is_context_ref k (receiver k 2)) (subst (λ a. performs_on_objects k 74 a ≡ true) two (subst (λ n. performs_on_objects k n args ≡ true) is h))
  where
    go : (c : Bool) → not c ≡ true → c ≡ false
    go false h = refl
    go true h = absurd (cc)

-- ---- another number of arguments

counted : (k : Kept) (wanted args : ℕ) (body : Out) → (wanted == args) ≡ false → with_count k wanted args body ≡ fail k
counted k wanted args body h = ap (λ (b : Bool). if b then body else fail k) h

count-64 : (k : Kept) (args : ℕ) → (2 == args) ≡ false → kept_prim 64 args k ≡ fail k
unfolding kept_prim char_at_put_prim
count-64 k args h = counted k 2 args _ h

count-69 : (k : Kept) (args : ℕ) → (2 == args) ≡ false → kept_prim 69 args k ≡ fail k
unfolding kept_prim object_at_put_prim
count-69 k args h = counted k 2 args _ h

count-164 : (k : Kept) (args : ℕ) → (1 == args) ≡ false → kept_prim 164 args k ≡ fail k
unfolding kept_prim set_read_only_prim
count-164 k args h = counted k 1 args _ h

count-74 : (k : Kept) (args : ℕ) → (2 == args) ≡ false → kept_prim 74 args k ≡ fail k
unfolding kept_prim slot_at_put_prim
count-74 k args h = counted k 2 args _ h

count-60 : (k : Kept) (args : ℕ) → (1 == args) ≡ false → kept_prim 60 args k ≡ fail k
unfolding kept_prim at_prim
count-60 k args h = counted k 1 args _ h

count-62 : (k : Kept) (args : ℕ) → (0 == args) ≡ false → kept_prim 62 args k ≡ fail k
unfolding kept_prim size_prim
count-62 k args h = counted k 0 args _ h

count-63 : (k : Kept) (args : ℕ) → (1 == args) ≡ false → kept_prim 63 args k ≡ fail k
unfolding kept_prim char_at_prim
count-63 k args h = counted k 1 args _ h

count-68 : (k : Kept) (args : ℕ) → (1 == args) ≡ false → kept_prim 68 args k ≡ fail k
unfolding kept_prim object_at_prim
count-68 k args h = counted k 1 args _ h

count-73 : (k : Kept) (args : ℕ) → (1 == args) ≡ false → kept_prim 73 args k ≡ fail k
unfolding kept_prim slot_at_prim
count-73 k args h = counted k 1 args _ h

count-110 : (k : Kept) (args : ℕ) → (1 == args) ≡ false → kept_prim 110 args k ≡ fail k
unfolding kept_prim identical_prim
count-110 k args h = counted k 1 args _ h

count-111 : (k : Kept) (args : ℕ) → (0 == args) ≡ false → kept_prim 111 args k ≡ fail k
unfolding kept_prim class_prim
count-111 k args h = counted k 0 args _ h

count-163 : (k : Kept) (args : ℕ) → (0 == args) ≡ false → kept_prim 163 args k ≡ fail k
unfolding kept_prim read_only_prim
count-163 k args h = counted k 0 args _ h

pub uncounted : (k : Kept) (number args : ℕ) (p : Primitive) → HasObjectNumber (Some p) number → takes p args ≡ false → kept_prim number args k ≡ fail k
uncounted k number args CharAtPut is h = ap (λ n. kept_prim n args k) is ∙ count-64 k args h
uncounted k number args ObjectAtPut is h = ap (λ n. kept_prim n args k) is ∙ count-69 k args h
uncounted k number args SetReadOnly is h = ap (λ n. kept_prim n args k) is ∙ count-164 k args h
uncounted k number args SlotAtPut is h = ap (λ n. kept_prim n args k) is ∙ count-74 k args h
uncounted k number args At is h = ap (λ n. kept_prim n args k) is ∙ count-60 k args h
uncounted k number args Size is h = ap (λ n. kept_prim n args k) is ∙ count-62 k args h
uncounted k number args CharAt is h = ap (λ n. kept_prim n args k) is ∙ count-63 k args h
uncounted k number args ObjectAt is h = ap (λ n. kept_prim n args k) is ∙ count-68 k args h
uncounted k number args SlotAt is h = ap (λ n. kept_prim n args k) is ∙ count-73 k args h
uncounted k number args Identical is h = ap (λ n. kept_prim n args k) is ∙ count-110 k args h
uncounted k number args Class is h = ap (λ n. kept_prim n args k) is ∙ count-111 k args h
uncounted k number args IsReadOnly is h = ap (λ n. kept_prim n args k) is ∙ count-163 k args h
uncounted k number args Quick is h = absurd (cc)

-- ---- the rows

-- the row of a primitive with the arguments that it takes; a quick one takes any
abbrev pub row_of : Kept → ℕ → ℕ → Primitive → Out
row_of k number args CharAtPut = char_at_put_prim k 2
row_of k number args ObjectAtPut = object_at_put_prim k 2
row_of k number args SetReadOnly = set_read_only_prim k 1
row_of k number args SlotAtPut = slot_at_put_prim k 2
row_of k number args At = at_prim k 1
row_of k number args Size = size_prim k 0
row_of k number args CharAt = char_at_prim k 1
row_of k number args ObjectAt = object_at_prim k 1
row_of k number args SlotAt = slot_at_prim k 1
row_of k number args Identical = identical_prim k 1
row_of k number args Class = class_prim k 0
row_of k number args IsReadOnly = read_only_prim k 0
row_of k number args Quick = quick_prim k number args

pub taken : (p : Primitive) (args wanted : ℕ) → arguments_wanted p ≡ Some wanted → takes p args ≡ true → args ≡ wanted
taken CharAtPut args wanted e h = sym (eqb-true 2 args h) ∙ cc
taken ObjectAtPut args wanted e h = sym (eqb-true 2 args h) ∙ cc
taken SetReadOnly args wanted e h = sym (eqb-true 1 args h) ∙ cc
taken SlotAtPut args wanted e h = sym (eqb-true 2 args h) ∙ cc
taken At args wanted e h = sym (eqb-true 1 args h) ∙ cc
taken Size args wanted e h = sym (eqb-true 0 args h) ∙ cc
taken CharAt args wanted e h = sym (eqb-true 1 args h) ∙ cc
taken ObjectAt args wanted e h = sym (eqb-true 1 args h) ∙ cc
taken SlotAt args wanted e h = sym (eqb-true 1 args h) ∙ cc
taken Identical args wanted e h = sym (eqb-true 1 args h) ∙ cc
taken Class args wanted e h = sym (eqb-true 0 args h) ∙ cc
taken IsReadOnly args wanted e h = sym (eqb-true 0 args h) ∙ cc
taken Quick args wanted e h = absurd (cc)

prim-64 : (k : Kept) → char_at_put_prim k 2 ≡ kept_prim 64 2 k
unfolding kept_prim
prim-64 k = refl

prim-69 : (k : Kept) → object_at_put_prim k 2 ≡ kept_prim 69 2 k
unfolding kept_prim
prim-69 k = refl

prim-164 : (k : Kept) → set_read_only_prim k 1 ≡ kept_prim 164 1 k
unfolding kept_prim
prim-164 k = refl

prim-74 : (k : Kept) → slot_at_put_prim k 2 ≡ kept_prim 74 2 k
unfolding kept_prim
prim-74 k = refl

prim-60 : (k : Kept) → at_prim k 1 ≡ kept_prim 60 1 k
unfolding kept_prim
prim-60 k = refl

prim-62 : (k : Kept) → size_prim k 0 ≡ kept_prim 62 0 k
unfolding kept_prim
prim-62 k = refl

prim-63 : (k : Kept) → char_at_prim k 1 ≡ kept_prim 63 1 k
unfolding kept_prim
prim-63 k = refl

prim-68 : (k : Kept) → object_at_prim k 1 ≡ kept_prim 68 1 k
unfolding kept_prim
prim-68 k = refl

prim-73 : (k : Kept) → slot_at_prim k 1 ≡ kept_prim 73 1 k
unfolding kept_prim
prim-73 k = refl

prim-110 : (k : Kept) → identical_prim k 1 ≡ kept_prim 110 1 k
unfolding kept_prim
prim-110 k = refl

prim-111 : (k : Kept) → class_prim k 0 ≡ kept_prim 111 0 k
unfolding kept_prim
prim-111 k = refl

prim-163 : (k : Kept) → read_only_prim k 0 ≡ kept_prim 163 0 k
unfolding kept_prim
prim-163 k = refl

apart : (number n : ℕ) → is_quick number ≡ true → n < 256 → (number == n) ≡ false
apart number n h l = grind (arith, nat_tests)

below : (number n : ℕ) → is_quick number ≡ true → n < 256 → nat_le number n ≡ false
below number n h l = grind (arith, nat_tests)

pub quick_first : (number : ℕ) → is_quick number ≡ true → 256 ≤ number
quick_first number h = grind (arith, nat_tests)

above : (number n : ℕ) → is_quick number ≡ true → n < 256 → nat_le n number ≡ true
above number n h l = grind (arith, nat_tests)

prim-quick : (k : Kept) (number args : ℕ) → is_quick number ≡ true → quick_prim k number args ≡ kept_prim number args k
unfolding kept_prim
prim-quick k number args h =
    let at : (n : ℕ) → n < 256 → (number == n) ≡ false = λ n l. apart number n h l in
    let under : (n : ℕ) → n < 256 → nat_le number n ≡ false = λ n l. below number n h l in
    let over : (n : ℕ) → n < 256 → nat_le n number ≡ true = λ n l. above number n h l in
    rw (
      under 17 (omega arith),
      under 88 (omega arith),
      under 222 (omega arith),
      at 18 (omega arith),
      at 60 (omega arith),
      at 61 (omega arith),
      at 62 (omega arith),
      at 63 (omega arith),
      at 64 (omega arith),
      at 68 (omega arith),
      at 69 (omega arith),
      at 70 (omega arith),
      at 71 (omega arith),
      at 73 (omega arith),
      at 74 (omega arith),
      at 75 (omega arith),
      at 77 (omega arith),
      at 78 (omega arith),
      at 79 (omega arith),
      at 83 (omega arith),
      at 84 (omega arith),
      at 188 (omega arith),
      at 167 (omega arith),
      at 105 (omega arith),
      at 110 (omega arith),
      at 111 (omega arith),
      at 148 (omega arith),
      at 163 (omega arith),
      at 164 (omega arith),
      at 175 (omega arith),
      h,
      over 1 (omega arith),
      over 85 (omega arith),
      over 195 (omega arith),
    ) refl

pub row_is : (k : Kept) (number args : ℕ) (p : Primitive) → HasObjectNumber (Some p) number → takes p args ≡ true → row_of k number args p ≡ kept_prim number args k
row_is k number args CharAtPut is h = prim-64 k ∙ ap₂ (λ n a. kept_prim n a k) (sym is) (sym (taken CharAtPut args 2 refl h))
row_is k number args ObjectAtPut is h = prim-69 k ∙ ap₂ (λ n a. kept_prim n a k) (sym is) (sym (taken ObjectAtPut args 2 refl h))
row_is k number args SetReadOnly is h = prim-164 k ∙ ap₂ (λ n a. kept_prim n a k) (sym is) (sym (taken SetReadOnly args 1 refl h))
row_is k number args SlotAtPut is h = prim-74 k ∙ ap₂ (λ n a. kept_prim n a k) (sym is) (sym (taken SlotAtPut args 2 refl h))
row_is k number args At is h = prim-60 k ∙ ap₂ (λ n a. kept_prim n a k) (sym is) (sym (taken At args 1 refl h))
row_is k number args Size is h = prim-62 k ∙ ap₂ (λ n a. kept_prim n a k) (sym is) (sym (taken Size args 0 refl h))
row_is k number args CharAt is h = prim-63 k ∙ ap₂ (λ n a. kept_prim n a k) (sym is) (sym (taken CharAt args 1 refl h))
row_is k number args ObjectAt is h = prim-68 k ∙ ap₂ (λ n a. kept_prim n a k) (sym is) (sym (taken ObjectAt args 1 refl h))
row_is k number args SlotAt is h = prim-73 k ∙ ap₂ (λ n a. kept_prim n a k) (sym is) (sym (taken SlotAt args 1 refl h))
row_is k number args Identical is h = prim-110 k ∙ ap₂ (λ n a. kept_prim n a k) (sym is) (sym (taken Identical args 1 refl h))
row_is k number args Class is h = prim-111 k ∙ ap₂ (λ n a. kept_prim n a k) (sym is) (sym (taken Class args 0 refl h))
row_is k number args IsReadOnly is h = prim-163 k ∙ ap₂ (λ n a. kept_prim n a k) (sym is) (sym (taken IsReadOnly args 0 refl h))
row_is k number args Quick is h = prim-quick k number args is

-- ---- slots

pub slot-none : (k : Kept) (x : Ref) → x ≡ argument k 1 0 → None ≡ slot_index x → slot_at_prim k 1 ≡ fail k
unfolding slot_at_prim
slot-none k x is e = ap (λ o. given o (fail k) (λ i. read_slot k 1 i (object_of k (receiver k 1)))) (sym (ap slot_index is) ∙ sym e)

pub slot-some : (k : Kept) (x : Ref) (i : ℕ) → x ≡ argument k 1 0 → Some i ≡ slot_index x → read_slot k 1 i (object_of k (receiver k 1)) ≡ slot_at_prim k 1
unfolding slot_at_prim
slot-some k x i is e = ap (λ o. given o (fail k) (λ j. read_slot k 1 j (object_of k (receiver k 1)))) (e ∙ ap slot_index is)

pub context_slot : (k : Kept) (args i : ℕ) (x : Ref) → x ≡ receiver k args → is_context_ref k x ≡ true → answer_field k args i (field_of k x i) ≡ read_slot k args i (object_of k (receiver k args))
context_slot k args i x is e = go (object_of k x) e ∙ ap (λ y. read_slot k args i (object_of k y)) is
  where
    go : (o : Option Obj) → is_some (context_in o) ≡ true → answer_field k args i (option_and_then (λ c. context_get k c i) (context_in o)) ≡ read_slot k args i o
    go None e = absurd (cc)
    go (Some (Ptr head slots)) e = absurd (cc)
    go (Some (Raw head bytes)) e = absurd (cc)
    go (Some (Method head header literals bytecodes)) e = absurd (cc)
    go (Some (Ctx c)) e = refl

pub other_slot : (k : Kept) (args i : ℕ) (x : Ref) → x ≡ receiver k args → is_context_ref k x ≡ false
    → answer_if k args (option_and_then (λ slots. slice_get slots i) (slots_in (object_of k x))) ≡ read_slot k args i (object_of k (receiver k args))
other_slot k args i x is e = go (object_of k x) e ∙ ap (λ y. read_slot k args i (object_of k y)) is
  where
    go : (o : Option Obj) → is_some (context_in o) ≡ false → answer_if k args (option_and_then (λ slots. slice_get slots i) (slots_in o)) ≡ read_slot k args i o
    go None e = refl
    go (Some (Ptr head slots)) e = refl
    go (Some (Raw head bytes)) e = refl
    go (Some (Method head header literals bytecodes)) e = refl
    go (Some (Ctx c)) e = absurd (cc)

-- ---- quick answers

pub quick-field : (k : Kept) (number args : ℕ) → 264 ≤ number → read_slot k args (number - 264) (object_of k (receiver k args)) ≡ quick_prim k number args
unfolding quick_prim
quick-field k number args h =
    let at : (n : ℕ) → n < 264 → (number == n) ≡ false = λ n l. grind (arith, nat_tests) in
    let under : nat_lt number 264 ≡ false = grind (arith, nat_tests) in
    rw (at 256 (omega arith), at 257 (omega arith), at 258 (omega arith), at 259 (omega arith), at 260 (omega arith), under) refl

pub quick-value : (k : Kept) (number args : ℕ) → 256 ≤ number → number < 264 → answer k args (quick_value k number args) ≡ quick_prim k number args
unfolding quick_prim
quick-value k number args h l = go (number == 256) (number == 257) (number == 258) (number == 259) (number == 260) (nat_lt number 264) (grind (arith, nat_tests))
  where
    go : (a b c d e f : Bool) → f ≡ true
        → answer k args (if a then receiver k args else if b then boolean k true else if c then boolean k false else if d then nil_of k else if e then Small (negsuc 0) else Small (pos (number - 261)))
        ≡ (if a then answer k args (receiver k args) else if b then answer k args (boolean k true) else if c then answer k args (boolean k false) else if d then answer k args (nil_of k)
        else if e then answer k args (Small (negsuc 0)) else if f then answer k args (Small (pos (number - 261))) else read_slot k args (number - 264) (object_of k (receiver k args)))
    go true b c d e f h = refl
    go false true c d e f h = refl
    go false false true d e f h = refl
    go false false false true e f h = refl
    go false false false false true f h = refl
    go false false false false false true h = refl
    go false false false false false false h = absurd (cc)

-- ---- what an object is

pub identical-row : (k : Kept) (x y t : Ref) (b : Bool) → x ≡ receiver k 1 → y ≡ argument k 1 0 → b ≡ same_ref x y → t ≡ boolean k b → answer k 1 t ≡ identical_prim k 1
unfolding identical_prim
identical-row k x y t b is and_is same value = ap (answer k 1) (value ∙ ap (boolean k) (same ∙ ap₂ same_ref is and_is))

pub class-row : (k : Kept) (x t : Ref) → x ≡ receiver k 0 → t ≡ unwrap_or (class_of k x) (nil_of k) → answer k 0 t ≡ class_prim k 0
unfolding class_prim
class-row k x t is value = ap (answer k 0) (value ∙ ap (λ y. unwrap_or (class_of k y) (nil_of k)) is)

pub read_only-row : (k : Kept) (x t : Ref) (b : Bool) → x ≡ receiver k 0 → b ≡ is_unwritable (object_of k x) → t ≡ boolean k b → answer k 0 t ≡ read_only_prim k 0
unfolding read_only_prim
read_only-row k x t b is fixed value = ap (answer k 0) (value ∙ ap (boolean k) (fixed ∙ ap (λ y. is_unwritable (object_of k y)) is))

pub unwritable-immediate : (o : Option Obj) → contents_of o ≡ Immediate → true ≡ is_unwritable o
unwritable-immediate None e = refl
unwritable-immediate (Some (Ptr head slots)) e = absurd (cc)
unwritable-immediate (Some (Raw head bytes)) e = absurd (cc)
unwritable-immediate (Some (Method head header literals bytecodes)) e = absurd (cc)
unwritable-immediate (Some (Ctx c)) e = absurd (cc)

pub unwritable-object : (o : Option Obj) → contents_of o ≢ Immediate → is_fixed_at o ≡ is_unwritable o
unwritable-object None e = absurd (e refl)
unwritable-object (Some (Ptr head slots)) e = refl
unwritable-object (Some (Raw head bytes)) e = refl
unwritable-object (Some (Method head header literals bytecodes)) e = refl
unwritable-object (Some (Ctx c)) e = refl

-- ---- elements and literals

pub at-row : (k : Kept) (x y : Ref) → x ≡ receiver k 1 → y ≡ argument k 1 0 → answer_if k 1 (option_and_then (λ place. element_at k x place) (element_place k x y)) ≡ at_prim k 1
unfolding at_prim
at-row k x y is index = ap₂ (λ a b. answer_if k 1 (option_and_then (λ place. element_at k a place) (element_place k a b))) is index

pub size-row : (k : Kept) (x : Ref) → x ≡ receiver k 0
    → answer_if k 0 (if has_size (object_of k x) then option_map (λ r. small_count r.count) (range_of k x) else None) ≡ size_prim k 0
unfolding size_prim
size-row k x is = ap (λ a. answer_if k 0 (if has_size (object_of k a) then option_map (λ r. small_count r.count) (range_of k a) else None)) is ∙ go (has_size (object_of k (receiver k 0)))
  where
    go : (b : Bool) → answer_if k 0 (if b then option_map (λ r. small_count r.count) (range_of k (receiver k 0)) else None)
        ≡ (if b then answer_if k 0 (option_map (λ r. small_count r.count) (range_of k (receiver k 0))) else fail k)
    go true = refl
    go false = refl

pub char_at-row : (k : Kept) (x y : Ref) → x ≡ receiver k 1 → y ≡ argument k 1 0 → answer_if k 1 (option_map (λ b. Char b) (byte_at k x y)) ≡ char_at_prim k 1
unfolding char_at_prim
char_at-row k x y is index = ap₂ (λ a b. answer_if k 1 (option_map (λ c. Char c) (byte_at k a b))) is index

pub object_at-some : (k : Kept) (x y : Ref) (i : ℕ) → x ≡ receiver k 1 → y ≡ argument k 1 0 → Some i ≡ slot_index y → answer_if k 1 (method_slot (object_of k x) i) ≡ object_at_prim k 1
unfolding object_at_prim
object_at-some k x y i is index e =
    ap (λ a. answer_if k 1 (method_slot (object_of k a) i)) is ∙ ap (λ o. answer_if k 1 (option_and_then (λ j. method_slot (object_of k (receiver k 1)) j) o)) (e ∙ ap slot_index index)

pub object_at-none : (k : Kept) (y : Ref) → y ≡ argument k 1 0 → None ≡ slot_index y → object_at_prim k 1 ≡ fail k
unfolding object_at_prim
object_at-none k y index e = ap (λ o. answer_if k 1 (option_and_then (λ j. method_slot (object_of k (receiver k 1)) j) o)) (sym (ap slot_index index) ∙ sym e)
