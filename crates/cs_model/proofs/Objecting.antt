-- The primitives on objects are alike.
use Rattle.std.proofs.Common.{ℕ, ◌==◌, ◌&&◌, pos, Option, is_some, List, [], ◌∷◌, length, option_and_then, nat_lt}
use Rattle.std.specs.Prelude.{slice_get}
use Rattle.cs_model.specs.Ref.{Ref, Small, Char, small_index}
use Rattle.cs_model.specs.Obj.{Obj, Context, Ptr, Raw, Method, Ctx}
use Rattle.cs_model.specs.State.{Kept, IsHeld, ContextHeld, NamesHeld}
use Rattle.cs_model.specs.Instance.{Made}
use Rattle.cs_model.specs.PrimObject.{at_prim, at_put_prim, has_size, small_count, size_prim, byte_string, byte_at, char_at_prim, byte_code, char_at_put_prim, method_slot, slot_index, object_at_prim, put_literal, object_at_put_prim, answer_made, new_prim, new_size_prim, point_class, point_slots, point_made, point_prim, answer_field, read_slot, slot_at_prim, context_at_put, slot_put, slot_at_put_prim}
use Rattle.cs_model.specs.Keeps.{Keeps}
use Rattle.cs_model.specs.Alike.{Alike}
use Rattle.cs_model.proofs.Same.{Same, same, SameOption, none, some, Any, is, value, of_option, and_then_same, map_same, plain}
use Rattle.cs_model.proofs.Keeping.{moved}
use Rattle.cs_model.proofs.Reading.{AllHeld, listed, Has, up, object_of_same, slots_of_same, special_at_same, slice_same}
use Rattle.cs_model.proofs.Operating.{store_moved, store_byte_moved}
use Rattle.cs_model.proofs.Fields.{context_get_same, accepts_same, context_put_moved}
use Rattle.cs_model.proofs.Making.{SameMade, makes, refused, full, instantiate_same}
use Rattle.cs_model.proofs.Combining.{fail_alike, behind, made_alike, looked_alike, given_alike, if_alike}
use Rattle.cs_model.proofs.Executing.{is_active_same, small_operands_same, fill_moved}
use Rattle.cs_model.proofs.Searching.{birth_of_same}
use Rattle.cs_model.proofs.Answering.{answer_alike, prim_receiver_same, argument_same, answer_if_alike, with_count_alike, MovedOption, nothing, gives, and_then_moved, map_moved, if_moved, answer_in_alike, unless_read_only_alike}
use Rattle.cs_model.proofs.Elements.{range_of_same, place_of_same, element_at_same, with_element_moved}

-- ---- elements

pub at_alike : {v m : Kept} → Keeps v m → (args : ℕ) → Alike v (at_prim v args) (at_prim m args)
unfolding at_prim
at_alike k args =
    with_count_alike k 1 args (answer_if_alike k 1 (and_then_same (place_of_same k (prim_receiver_same k 1) (argument_same k 1 0)) (λ place a. element_at_same k (prim_receiver_same k 1) place)))

pub at_put_alike : {v m : Kept} → Keeps v m → (args : ℕ) → Alike v (at_put_prim v args) (at_put_prim m args)
unfolding at_put_prim
at_put_alike k args =
    with_count_alike k 2 args (unless_read_only_alike k (prim_receiver_same k 2) (answer_in_alike (and_then_moved _ _ (place_of_same k (prim_receiver_same k 2) (argument_same k 2 0))
    (λ place a. with_element_moved k (prim_receiver_same k 2) place (argument_same k 2 1))) k 2 (argument_same k 2 1)))

pub size_alike : {v m : Kept} → Keeps v m → (args : ℕ) → Alike v (size_prim v args) (size_prim m args)
unfolding size_prim
size_alike {v} k args =
    with_count_alike k 0 args (if_alike (of_option has_size (object_of_same k (prim_receiver_same k 0)))
    (answer_if_alike k 0 (map_same (IsHeld v) (λ r. small_count r.count) (range_of_same k (prim_receiver_same k 0)) (λ r a. tt))) (fail_alike k))

byte_at_same : {v m : Kept} {x y i j : Ref} → Keeps v m → Same (IsHeld v) x y → Same (IsHeld v) i j → SameOption Any (byte_at v x i) (byte_at m y j)
byte_at_same k s i =
    and_then_same (place_of_same k s i) (λ place a. plain (of_option (λ o. option_and_then (λ bytes. slice_get bytes place) (byte_string o)) (object_of_same k s)))

pub char_at_alike : {v m : Kept} → Keeps v m → (args : ℕ) → Alike v (char_at_prim v args) (char_at_prim m args)
unfolding char_at_prim
char_at_alike {v} k args = with_count_alike k 1 args (answer_if_alike k 1 (map_same (IsHeld v) (λ b. Char b) (byte_at_same k (prim_receiver_same k 1) (argument_same k 1 0)) (λ b a. tt)))

pub char_at_put_alike : {v m : Kept} → Keeps v m → (args : ℕ) → Alike v (char_at_put_prim v args) (char_at_put_prim m args)
unfolding char_at_put_prim
char_at_put_alike k args =
    with_count_alike k 2 args (unless_read_only_alike k (prim_receiver_same k 2) (if_alike (of_option (λ o. is_some (byte_string o)) (object_of_same k (prim_receiver_same k 2)))
    (answer_in_alike (and_then_moved _ _ (place_of_same k (prim_receiver_same k 2) (argument_same k 2 0)) (λ place a.
    map_moved _ _ (plain (value byte_code (argument_same k 2 1))) (λ b c. store_byte_moved k (prim_receiver_same k 2) place b))) k 2 (argument_same k 2 1))
    (fail_alike k)))

-- ---- literals

method_slot_same : {v : Kept} {o p : Option Obj} → SameOption (NamesHeld v) o p → (i : ℕ) → SameOption (IsHeld v) (method_slot o i) (method_slot p i)
method_slot_same none i = none
method_slot_same (some (Ptr head slots) h) i = none
method_slot_same (some (Raw head bytes) h) i = none
method_slot_same {v} (some (Method head header literals bytecodes) h) i = slice_same i (listed v (Small (pos header) ∷ literals) (tt, h))
method_slot_same (some (Ctx c) h) i = none

pub slot_index_same : {P : Ref → Type 0} {x y : Ref} → Same P x y → SameOption Any (slot_index x) (slot_index y)
slot_index_same s = plain (value slot_index s)

pub object_at_alike : {v m : Kept} → Keeps v m → (args : ℕ) → Alike v (object_at_prim v args) (object_at_prim m args)
unfolding object_at_prim
object_at_alike k args =
    with_count_alike k 1 args (answer_if_alike k 1 (and_then_same (slot_index_same (argument_same k 1 0)) (λ i a. method_slot_same (object_of_same k (prim_receiver_same k 1)) i)))

put_literal_moved : {v m : Kept} {x y z w : Ref} → Keeps v m → Same (IsHeld v) x y → (i : ℕ) → Same (IsHeld v) z w → MovedOption v (put_literal v x i z) (put_literal m y i w)
put_literal_moved k s i t = if_moved (of_option (λ o. nat_lt 0 i && is_some (method_slot o i)) (object_of_same k s)) (gives (store_moved k s i t)) nothing

pub object_at_put_alike : {v m : Kept} → Keeps v m → (args : ℕ) → Alike v (object_at_put_prim v args) (object_at_put_prim m args)
unfolding object_at_put_prim
object_at_put_alike k args =
    with_count_alike k 2 args (unless_read_only_alike k (prim_receiver_same k 2) (answer_in_alike (and_then_moved _ _ (slot_index_same (argument_same k 2 0))
    (λ i a. put_literal_moved k (prim_receiver_same k 2) i (argument_same k 2 1))) k 2 (argument_same k 2 1)))

-- ---- new instances

pub answer_made_alike : {v m : Kept} {a b : Made} → Keeps v m → (args : ℕ) → SameMade v a b → Alike v (answer_made v args a) (answer_made m args b)
answer_made_alike k args refused = fail_alike k
answer_made_alike k args full = fail_alike k
answer_made_alike k args (makes x y words s h) = made_alike (is words) (behind s (answer_alike s.keeps args h))

pub new_alike : {v m : Kept} → Keeps v m → (args : ℕ) → Alike v (new_prim v args) (new_prim m args)
unfolding new_prim
new_alike k args = with_count_alike k 0 args (answer_made_alike k 0 (instantiate_same k (prim_receiver_same k 0) 0))

pub new_size_alike : {v m : Kept} → Keeps v m → (args : ℕ) → Alike v (new_size_prim v args) (new_size_prim m args)
unfolding new_size_prim
new_size_alike k args =
    with_count_alike k 1 args (given_alike _ _ (plain (value small_index (argument_same k 1 0))) (fail_alike k) (λ size a. answer_made_alike k 1 (instantiate_same k (prim_receiver_same k 1) size)))

point_slots_same : {v : Kept} {a b c d : Ref} {xs ys : List Ref} → Same (IsHeld v) a b → Same (IsHeld v) c d → Same (AllHeld v) xs ys → Same (AllHeld v) (point_slots a c xs) (point_slots b d ys)
point_slots_same {v} (same a g) (same c h) (same [] l) = listed v [] tt
point_slots_same (same a g) (same c h) (same (x ∷ []) l) = same (x ∷ []) l
point_slots_same {v} (same a g) (same c h) (same (x ∷ y ∷ zs) l) = listed v (a ∷ c ∷ zs) (g, (h, l.all.1.1))

point_made_alike : {v m : Kept} {a b : Made} → Keeps v m → SameMade v a b → Alike v (point_made v a) (point_made m b)
point_made_alike k refused = fail_alike k
point_made_alike k full = fail_alike k
point_made_alike k (makes p q words s h) =
    given_alike _ _ (slots_of_same s.keeps 2 h) (fail_alike k) (λ slots g.
    let f = fill_moved s.keeps h (point_slots_same (up s.grows (prim_receiver_same k 1)) (up s.grows (argument_same k 1 0)) (same slots g)) in
    made_alike (is words) (behind (moved s f) (answer_alike f.keeps 1 (up f.grows h))))

pub point_alike : {v m : Kept} → Keeps v m → (args : ℕ) → Alike v (point_prim v args) (point_prim m args)
unfolding point_prim
point_alike k args =
    with_count_alike k 1 args (if_alike (of_option is_some (small_operands_same k))
    (given_alike _ _ (special_at_same k point_class) (fail_alike k) (λ class h. point_made_alike k (instantiate_same k (same class h) 0))) (fail_alike k))

-- ---- slots

answer_field_alike : {v m : Kept} {o p : Option Ref} → Keeps v m → (args i : ℕ) → SameOption (IsHeld v) o p → Alike v (answer_field v args i o) (answer_field m args i p)
answer_field_alike k args i s = given_alike _ _ s (fail_alike k) (λ x h. if_alike (is (i == 0)) (looked_alike (answer_alike k args (same x h))) (answer_alike k args (same x h)))

pub slot_at_case : {v m : Kept} {o p : Option Obj} → Keeps v m → (args i : ℕ) → SameOption (NamesHeld v) o p → Alike v (read_slot v args i o) (read_slot m args i p)
slot_at_case k args i none = fail_alike k
slot_at_case {v} k args i (some (Ptr head slots) h) = answer_if_alike k args (slice_same i (listed v slots h))
slot_at_case k args i (some (Raw head bytes) h) = fail_alike k
slot_at_case k args i (some (Method head header literals bytecodes) h) = fail_alike k
slot_at_case k args i (some (Ctx c) h) = answer_field_alike k args i (context_get_same k (same c h) i)

pub slot_at_alike : {v m : Kept} → Keeps v m → (args : ℕ) → Alike v (slot_at_prim v args) (slot_at_prim m args)
unfolding slot_at_prim
slot_at_alike k args =
    with_count_alike k 1 args (given_alike _ _ (slot_index_same (argument_same k 1 0)) (fail_alike k) (λ i a. slot_at_case k 1 i (object_of_same k (prim_receiver_same k 1))))

context_at_put_moved : {v m : Kept} {x y z w : Ref} {c d : Context} {o p : Option ℕ} → Keeps v m → Same (IsHeld v) x y → (i : ℕ) → Same (IsHeld v) z w → Same (ContextHeld v) c d → SameOption (Has v) o p → MovedOption v (context_at_put v x i z c o) (context_at_put m y i w d p)
context_at_put_moved k s i t c none = nothing
context_at_put_moved k s i t c (some birth h) = if_moved (accepts_same k (is_active_same k s) c i t) (gives (context_put_moved k (is birth) i t)) nothing

slot_put_moved : {v m : Kept} {x y z w : Ref} {o p : Option Obj} → Keeps v m → Same (IsHeld v) x y → (i : ℕ) → Same (IsHeld v) z w → SameOption (NamesHeld v) o p → MovedOption v (slot_put v x i z o) (slot_put m y i w p)
slot_put_moved k s i t none = nothing
slot_put_moved k s i t (some (Ptr head slots) h) = if_moved (is (nat_lt i (length slots))) (gives (store_moved k s i t)) nothing
slot_put_moved k s i t (some (Raw head bytes) h) = nothing
slot_put_moved k s i t (some (Method head header literals bytecodes) h) = nothing
slot_put_moved k s i t (some (Ctx c) h) = context_at_put_moved k s i t (same c h) (birth_of_same k s)

pub slot_at_put_alike : {v m : Kept} → Keeps v m → (args : ℕ) → Alike v (slot_at_put_prim v args) (slot_at_put_prim m args)
unfolding slot_at_put_prim
slot_at_put_alike k args =
    with_count_alike k 2 args (unless_read_only_alike k (prim_receiver_same k 2) (answer_in_alike (and_then_moved _ _ (slot_index_same (argument_same k 2 0))
    (λ i a. slot_put_moved k (prim_receiver_same k 2) i (argument_same k 2 1) (object_of_same k (prim_receiver_same k 2)))) k 2 (argument_same k 2 1)))
