-- Making instances, and giving indices and hashes, are alike.
use Rattle.std.proofs.Common.{◌≡◌, ℕ, ◌+◌, ◌*◌, ◌/◌, ◌%◌, ◌==◌, Bool, true, false, refl, ap, subst, ◌∙◌, Option, Some, None, is_some, replicate, nat_lt, if◌then◌else◌, inl, inr, rules, arith}
use Rattle.std.specs.FinMap.{gets}
use Rattle.std.proofs.lemmas.Bool.Decides.{eqb_tells}
use Rattle.cs_model.specs.Ref.{Ref, Small, Char, named_object, small_index}
use Rattle.cs_model.specs.Ref as ref
use Rattle.cs_model.specs.Obj.{Obj, Ptr, Ctx, new_head, hash_in, context_class, words_of}
use Rattle.cs_model.specs.State.{Kept, object_at, with_rest, IsHeld, NamesHeld, RestHeld}
use Rattle.cs_model.proofs.Objects.{rest-put}
use Rattle.cs_model.specs.Operation.{edit_found, add_of, next_ref, nil_of, edit_object, with_hash}
use Rattle.cs_model.specs.Instance.{Index, IndexAt, NoIndex, NoneFree, index_of_object, index_by_hash, class_index_for, with_class, enter_class, take_index, Made, New, NotInstantiable, TableFull, is_instance_index, is_instance_shape, new_context, new_instance, new_raw, pointer_format, unit_bytes, make_with, make_shaped, shape_of, instantiate, Hashed, Hash, NotAClass, NoneLeft, hashed, behavior_hash, next_hash, with_last_hash, hash_or_zero, hash_of, hash_given}
use Rattle.cs_model.specs.Keeps.{Keeps}
use Rattle.cs_model.proofs.Same.{any_option, Same, same, SameOption, none, some, Any, is, of, value, of_option, two, and_then_same, all-replicate}
use Rattle.cs_model.proofs.Keeping.{choose_moved, Moved, moved, unmoved, NamesHeld-grows}
use Rattle.cs_model.proofs.Reading.{Has, up, rest_same, nil_same, object_at_same, object_of_same, slots_of_same, slice_same}
use Rattle.cs_model.proofs.Operating.{edit_object_moved, with_hash_edit, change_moved, roots_with, add_moved, next_held, next_ref_same}

-- ---- indices

pub class_index_for_same : {v m : Kept} {x y : Ref} → Keeps v m → Same (IsHeld v) x y → Same Any (class_index_for v x) (class_index_for m y)
unfolding class_index_for
class_index_for_same k (same (Small a) h) = same NoIndex tt
class_index_for_same k (same (Char c) h) = same NoIndex tt
class_index_for_same {v} {m} k (same (ref.Obj i) h) = indexed (object_at_same k (same i h)) where
  indexed : {o p : Option Obj} → SameOption (NamesHeld v) o p → Same Any (index_of_object v i o) (index_of_object m i p)
  indexed none = same NoIndex tt
  indexed (some o g) = value (λ r. index_by_hash (record v { rest = r }) i (hash_in o)) (rest_same k)

-- the class table with one more entry
table_held : (t : Kept) (index birth : ℕ) → RestHeld t → Has t birth → RestHeld (with_rest (with_class index birth t.rest) t)
table_held t index birth h has = record {
  nil = h.nil;
  false_ = h.false_;
  true_ = h.true_;
  special = h.special;
  classes = λ n i e. elim (eqb_tells n index) [
    | inl q ↦ subst (Has t) (grind (gets, rules, arith, q.1, e)) has
    | inr q ↦ h.classes n i (grind (gets, rules, q.1, e))
  ];
  active = h.active;
}

enter_class_moved : {v m : Kept} {x y : Ref} → Keeps v m → (index : ℕ) → Same (IsHeld v) x y → Moved v (enter_class v index (named_object x)) (enter_class m index (named_object y))
enter_class_moved k index (same (Small a) h) = unmoved k
enter_class_moved k index (same (Char c) h) = unmoved k
enter_class_moved {v} k index (same (ref.Obj i) h) = change_moved (with_class index i) k (unmoved k) (table_held v index i k.roots h)

pub take_index_moved : {v m : Kept} {x y : Ref} → Keeps v m → Same (IsHeld v) x y → (index : ℕ) → Moved v (take_index v x index) (take_index m y index)
unfolding take_index
take_index_moved {v} k s index =
    let a = edit_object_moved k s (with_hash_edit v (is index)) in
    moved a (enter_class_moved a.keeps index (up a.grows s))

-- ---- instances

-- both make the same, or neither makes anything, for the same reason
pub data SameMade (v : Kept) : Made → Made → Type 0 where
  makes : {t u : Kept} (x y : Ref) (words : ℕ) → Moved v t u → Same (IsHeld t) x y → SameMade v (New t x words) (New u y words)
  refused : SameMade v NotInstantiable NotInstantiable
  full : SameMade v TableFull TableFull

choose_object : {v : Kept} {o p q r : Obj} → (b : Bool) → Same (NamesHeld v) o p → Same (NamesHeld v) q r → Same (NamesHeld v) (if b then o else q) (if b then p else r)
choose_object true s t = s
choose_object false s t = t

pub new_instance_same : {v m : Kept} → Keeps v m → (index format fields size : ℕ) → Same (NamesHeld v) (new_instance (nil_of v) index format fields size) (new_instance (nil_of m) index format fields size)
unfolding new_instance
new_instance_same {v} k index format fields size =
    choose_object (index == context_class)
    (of (NamesHeld v) (λ nil. Ctx (new_context nil size)) (nil_same k) (λ nil h. record { sender = h; method = h; closure = h; receiver = h; stack = tt }))
    (choose_object (nat_lt format 6)
    (of (NamesHeld v) (λ nil. Ptr (new_head index (pointer_format format)) (replicate (fields + size) nil)) (nil_same k) (λ nil h. all-replicate (IsHeld v) (fields + size) nil h))
    (same (new_raw index format (size * unit_bytes format)) tt))

-- a new object behind a move
pub add_behind : {v t u : Kept} {o p : Obj} → Moved v t u → Same (NamesHeld v) o p → Moved v (add_of t o) (add_of u p)
add_behind a (same o h) = moved a (add_moved a.keeps (same o (NamesHeld-grows a.grows o h)))

edit_object_rest : (k : Kept) (x : Ref) (f : Obj → Obj) → (edit_object k x f).rest ≡ k.rest
edit_object_rest k (Small a) f = refl
edit_object_rest k (Char c) f = refl
edit_object_rest k (ref.Obj i) f = found (object_at k i) where
  found : (o : Option Obj) → (edit_found f i o k).rest ≡ k.rest
  found None = refl
  found (Some o) = rest-put k i (f o)

enter_class_next : (k : Kept) (index : ℕ) (birth : Option ℕ) → (enter_class k index birth).rest.next ≡ k.rest.next
enter_class_next k index None = refl
enter_class_next k index (Some i) = refl

pub take_index_next : (k : Kept) (x : Ref) (index : ℕ) → (take_index k x index).rest.next ≡ k.rest.next
unfolding take_index
take_index_next k x index = enter_class_next (edit_object k x (with_hash index)) index (named_object x) ∙ ap (λ r. r.next) (edit_object_rest k x (with_hash index))

pub new_made : {v m t u : Kept} {o p : Obj} → Keeps v m → Moved v t u → t.rest.next ≡ v.rest.next → Same (NamesHeld v) o p → SameMade v (New (add_of t o) (next_ref v) (words_of o)) (New (add_of u p) (next_ref m) (words_of p))
new_made {t = t} k a e (same o h) =
    makes _ _ (words_of o) (add_behind a (same o h)) (next_ref_same (add_of t o) k (subst (λ n. Has (add_of t o) n) e (next_held t o)))

choose_made : {v : Kept} {a b c d : Made} → (x : Bool) → SameMade v a b → SameMade v c d → SameMade v (if x then a else c) (if x then b else d)
choose_made true s t = s
choose_made false s t = t

make_with_same : {v m : Kept} {x y : Ref} {i j : Index} → Keeps v m → Same (IsHeld v) x y → (shape size : ℕ) → Same Any i j → SameMade v (make_with v x shape size i) (make_with m y shape size j)
make_with_same k s shape size (same NoIndex a) = refused
make_with_same k s shape size (same NoneFree a) = full
make_with_same {v} {m} {x} k s shape size (same (IndexAt index) a) =
    choose_made (is_instance_index index size)
    (new_made k (take_index_moved k s index) (take_index_next v x index) (new_instance_same k index (shape / 65536) (shape % 65536) size))
    refused

make_shaped_same : {v m : Kept} {x y : Ref} {o p : Option ℕ} → Keeps v m → Same (IsHeld v) x y → (size : ℕ) → SameOption Any o p → SameMade v (make_shaped v x size o) (make_shaped m y size p)
make_shaped_same k s size none = refused
make_shaped_same k s size (some shape a) = choose_made (is_instance_shape (shape / 65536) (shape % 65536) size) (make_with_same k s shape size (class_index_for_same k s)) refused

pub shape_of_same : {v m : Kept} {x y : Ref} → Keeps v m → Same (IsHeld v) x y → SameOption Any (shape_of v x) (shape_of m y)
shape_of_same k s = and_then_same (slots_of_same k 3 s) (λ slots h. and_then_same (slice_same 2 (same slots h)) (λ z g. any_option (small_index z)))

pub instantiate_same : {v m : Kept} {x y : Ref} → Keeps v m → Same (IsHeld v) x y → (size : ℕ) → SameMade v (instantiate v x size) (instantiate m y size)
unfolding instantiate
instantiate_same k s size = make_shaped_same k s size (shape_of_same k s)

-- ---- the index alone

pub data SameHashed (v : Kept) : Hashed → Hashed → Type 0 where
  hashes : {t u : Kept} (index : ℕ) → Moved v t u → SameHashed v (Hash t index) (Hash u index)
  no_class : SameHashed v NotAClass NotAClass
  none_left : SameHashed v NoneLeft NoneLeft

hashed_same : {v m : Kept} {x y : Ref} {i j : Index} → Keeps v m → Same (IsHeld v) x y → Same Any i j → SameHashed v (hashed v x i) (hashed m y j)
hashed_same k s (same NoIndex a) = no_class
hashed_same k s (same NoneFree a) = none_left
hashed_same k s (same (IndexAt index) a) = hashes index (take_index_moved k s index)

choose_hashed : {v : Kept} {a b c d : Hashed} {x y : Bool} → Same Any x y → SameHashed v a b → SameHashed v c d → SameHashed v (if x then a else c) (if y then b else d)
choose_hashed (same true a) s t = s
choose_hashed (same false a) s t = t

pub behavior_hash_same : {v m : Kept} {x y : Ref} → Keeps v m → Same (IsHeld v) x y → SameHashed v (behavior_hash v x) (behavior_hash m y)
unfolding behavior_hash
behavior_hash_same k s = choose_hashed (of_option is_some (slots_of_same k 3 s)) (hashed_same k s (class_index_for_same k s)) no_class

-- ---- identity hashes

pub hash_of_same : {v m : Kept} {x y : Ref} → Keeps v m → Same (IsHeld v) x y → Same Any (hash_of v x) (hash_of m y)
unfolding hash_of
hash_of_same k s = two (λ r n. if n == 0 then next_hash r.last_hash else n) (rest_same k) (of_option hash_or_zero (object_of_same k s))

pub hash_given_moved : {v m : Kept} {x y : Ref} → Keeps v m → Same (IsHeld v) x y → Moved v (hash_given v x) (hash_given m y)
unfolding hash_given
hash_given_moved {v} k s =
    choose_moved (of_option (λ o. hash_or_zero o == 0) (object_of_same k s))
    (let a = edit_object_moved k s (with_hash_edit v (value (λ r. next_hash r.last_hash) (rest_same k))) in
    change_moved (λ r. with_last_hash (next_hash r.last_hash) r) k a (roots_with (with_last_hash (next_hash v.rest.last_hash) v.rest) a.grows k.roots refl refl refl refl refl (λ i e. a.grows.held i (k.roots.active i e))))
    (unmoved k)
