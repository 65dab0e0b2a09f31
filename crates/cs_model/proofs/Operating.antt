-- The operations leave a state and one that it keeps so that the first still keeps the second, and has all that it had.
use Rattle.std.proofs.Common.{◌≡◌, ℕ, ◌+◌, ◌-◌, Bool, true, refl, sym, ap, subst, ◌∙◌, Option, Some, None, is_some, List, [], ◌∷◌, ◌++◌, length, take, drop, replicate, unwrap_or}
use Rattle.std.specs.List.{AllByRecursion}
use Rattle.std.specs.FinMap.{get}
use Rattle.cs_model.specs.Ref.{Ref, Small, Char, named_object}
use Rattle.cs_model.specs.Ref as ref
use Rattle.cs_model.specs.Obj.{Obj, Context, Ptr, Raw, Method, Ctx, new_head, is_context, with_pc, with_stack, pushed, popped, stored, header_in, temporary_count, context_size}
use Rattle.cs_model.specs.State.{Kept, Rest, put, with_rest, IsHeld, ContextHeld, NamesHeld, RestHeld}
use Rattle.cs_model.specs.Read.{active_context}
use Rattle.cs_model.specs.Operation.{put_active, set_pc_of, push_of, drop_of, set_stack_of, edit_object, with_slot, with_byte, with_hash, with_fixed, store_of, store_byte_of, set_fixed_of, with_next, add_of, next_ref, activate, enter_with, last_values, receiver_below, entry_pc, method_context, enter_of, dead_object, kill_of, resume_of, suspend_of, leave_of, kill_all, cut_to_of, new_pointers}
use Rattle.cs_model.specs.Keeps.{Keeps, Grows}
use Rattle.cs_model.proofs.Objects.{object_at-put_same}
use Rattle.cs_model.proofs.Same.{Same, same, Any, is, of, value, of_option, or_same, all-append, all-take, all-drop, all-replicate, all-slice_set}
use Rattle.cs_model.proofs.Keeping.{Moved, unmoved, moved, put_moved, rest_moved, IsEdit, edit_found_moved, ContextHeld-grows, grows-trans}
use Rattle.cs_model.proofs.Reading.{AllHeld, Has, up, up_birth, rest_same, nil_same, next_same, object_of_same, active_birth_same, active_ref_same, active_context_same, slice_same, context_sender, context_stack}

-- ---- the active context

pub up_context : {v t : Kept} {c d : Context} → Grows v t → Same (ContextHeld v) c d → Same (ContextHeld t) c d
up_context g (same c h) = same c (ContextHeld-grows g c h)

pub ctx_same : {v : Kept} {c d : Context} → Same (ContextHeld v) c d → Same (NamesHeld v) (Ctx c) (Ctx d)
ctx_same (same c h) = same (Ctx c) h

pub put_active_moved : {v m : Kept} {c d : Context} → Keeps v m → Same (ContextHeld v) c d → Moved v (put_active v c) (put_active m d)
put_active_moved k s = put_moved k (value (λ i. i) (active_birth_same k)) (ctx_same s)

pub set_pc_moved : {v m : Kept} {pc qc : ℕ} → Keeps v m → Same Any pc qc → Moved v (set_pc_of v pc) (set_pc_of m qc)
unfolding set_pc_of
set_pc_moved {v} k (same pc a) =
    put_active_moved k (of (ContextHeld v) (with_pc (Some pc)) (active_context_same k)
    (λ c h. record { sender = h.sender; method = h.method; closure = h.closure; receiver = h.receiver; stack = h.stack }))

-- another stack
pub stack_held : {v : Kept} (c : Context) (xs : List Ref) → ContextHeld v c → AllByRecursion (IsHeld v) xs → ContextHeld v (with_stack xs c)
stack_held c xs h all = record { sender = h.sender; method = h.method; closure = h.closure; receiver = h.receiver; stack = all }

pub push_moved : {v m : Kept} {x y : Ref} → Keeps v m → Same (IsHeld v) x y → Moved v (push_of v x) (push_of m y)
unfolding push_of
push_moved {v} k (same x g) = put_active_moved k (of (ContextHeld v) (pushed x) (active_context_same k) (λ c h. stack_held c _ h (all-append (IsHeld v) c.stack (x ∷ []) h.stack (g, tt))))

pub drop_moved : {v m : Kept} → Keeps v m → (n : ℕ) → Moved v (drop_of v n) (drop_of m n)
unfolding drop_of
drop_moved {v} k n = put_active_moved k (of (ContextHeld v) (popped n) (active_context_same k) (λ c h. stack_held c _ h (all-take (IsHeld v) (length c.stack - n) c.stack h.stack)))

pub set_stack_moved : {v m : Kept} {x y : Ref} → Keeps v m → (i : ℕ) → Same (IsHeld v) x y → Moved v (set_stack_of v i x) (set_stack_of m i y)
unfolding set_stack_of
set_stack_moved {v} k i (same x g) = put_active_moved k (of (ContextHeld v) (stored i x) (active_context_same k) (λ c h. stack_held c _ h (all-slice_set (IsHeld v) c.stack i x h.stack g)))

-- ---- objects

pub edit_object_moved : {v m : Kept} {P : Ref → Type 0} {x y : Ref} {f g : Obj → Obj} → Keeps v m → Same P x y → Same (IsEdit v) f g → Moved v (edit_object v x f) (edit_object m y g)
edit_object_moved k (same (Small a) h) e = unmoved k
edit_object_moved k (same (Char c) h) e = unmoved k
edit_object_moved k (same (ref.Obj i) h) e = edit_found_moved k e (same i tt)

with_slot_held : (v : Kept) (i : ℕ) (x : Ref) → IsHeld v x → (o : Obj) → NamesHeld v o → NamesHeld v (with_slot i x o)
with_slot_held v i x g (Ptr head slots) h = all-slice_set (IsHeld v) slots i x h g
with_slot_held v i x g (Raw head bytes) h = tt
with_slot_held v i x g (Method head header literals bytecodes) h = all-slice_set (IsHeld v) literals (i - 1) x h g
with_slot_held v i x g (Ctx c) h = h

with_slot_context : (i : ℕ) (x : Ref) (o : Obj) → is_context o ≡ true → is_context (with_slot i x o) ≡ true
with_slot_context i x (Ptr head slots) h = h
with_slot_context i x (Raw head bytes) h = h
with_slot_context i x (Method head header literals bytecodes) h = h
with_slot_context i x (Ctx c) h = h

pub with_slot_edit : {v : Kept} {x y : Ref} → (i : ℕ) → Same (IsHeld v) x y → Same (IsEdit v) (with_slot i x) (with_slot i y)
with_slot_edit {v} i (same x g) = same (with_slot i x) (record { context = with_slot_context i x; held = with_slot_held v i x g })

with_byte_held : (v : Kept) (i b : ℕ) (o : Obj) → NamesHeld v o → NamesHeld v (with_byte i b o)
with_byte_held v i b (Ptr head slots) h = h
with_byte_held v i b (Raw head bytes) h = tt
with_byte_held v i b (Method head header literals bytecodes) h = h
with_byte_held v i b (Ctx c) h = h

with_byte_context : (i b : ℕ) (o : Obj) → is_context o ≡ true → is_context (with_byte i b o) ≡ true
with_byte_context i b (Ptr head slots) h = h
with_byte_context i b (Raw head bytes) h = h
with_byte_context i b (Method head header literals bytecodes) h = h
with_byte_context i b (Ctx c) h = h

pub with_byte_edit : (v : Kept) (i b : ℕ) → Same (IsEdit v) (with_byte i b) (with_byte i b)
with_byte_edit v i b = same (with_byte i b) (record { context = with_byte_context i b; held = with_byte_held v i b })

with_hash_held : (v : Kept) (n : ℕ) (o : Obj) → NamesHeld v o → NamesHeld v (with_hash n o)
with_hash_held v n (Ptr head slots) h = h
with_hash_held v n (Raw head bytes) h = tt
with_hash_held v n (Method head header literals bytecodes) h = h
with_hash_held v n (Ctx c) h = record { sender = h.sender; method = h.method; closure = h.closure; receiver = h.receiver; stack = h.stack }

with_hash_context : (n : ℕ) (o : Obj) → is_context o ≡ true → is_context (with_hash n o) ≡ true
with_hash_context n (Ptr head slots) h = h
with_hash_context n (Raw head bytes) h = h
with_hash_context n (Method head header literals bytecodes) h = h
with_hash_context n (Ctx c) h = h

pub with_hash_edit : {i j : ℕ} (v : Kept) → Same Any i j → Same (IsEdit v) (with_hash i) (with_hash j)
with_hash_edit v (same n a) = same (with_hash n) (record { context = with_hash_context n; held = with_hash_held v n })

with_fixed_held : (v : Kept) (on : Bool) (o : Obj) → NamesHeld v o → NamesHeld v (with_fixed on o)
with_fixed_held v on (Ptr head slots) h = h
with_fixed_held v on (Raw head bytes) h = tt
with_fixed_held v on (Method head header literals bytecodes) h = h
with_fixed_held v on (Ctx c) h = h

with_fixed_context : (on : Bool) (o : Obj) → is_context o ≡ true → is_context (with_fixed on o) ≡ true
with_fixed_context on (Ptr head slots) h = h
with_fixed_context on (Raw head bytes) h = h
with_fixed_context on (Method head header literals bytecodes) h = h
with_fixed_context on (Ctx c) h = h

pub with_fixed_edit : (v : Kept) (on : Bool) → Same (IsEdit v) (with_fixed on) (with_fixed on)
with_fixed_edit v on = same (with_fixed on) (record { context = with_fixed_context on; held = with_fixed_held v on })

pub store_moved : {v m : Kept} {P : Ref → Type 0} {o p x y : Ref} → Keeps v m → Same P o p → (i : ℕ) → Same (IsHeld v) x y → Moved v (store_of v o i x) (store_of m p i y)
unfolding store_of
store_moved k s i t = edit_object_moved k s (with_slot_edit i t)

pub store_byte_moved : {v m : Kept} {P : Ref → Type 0} {o p : Ref} → Keeps v m → Same P o p → (i b : ℕ) → Moved v (store_byte_of v o i b) (store_byte_of m p i b)
unfolding store_byte_of
store_byte_moved {v} k s i b = edit_object_moved k s (with_byte_edit v i b)

pub set_fixed_moved : {v m : Kept} {P : Ref → Type 0} {o p : Ref} → Keeps v m → Same P o p → (on : Bool) → Moved v (set_fixed_of v o on) (set_fixed_of m p on)
unfolding set_fixed_of
set_fixed_moved {v} k s on = edit_object_moved k s (with_fixed_edit v on)

-- what the rest names is there in a state that has more
pub roots_with : {v t : Kept} (r : Rest) → Grows v t → RestHeld v → r.nil ≡ v.rest.nil → r.false_ ≡ v.rest.false_ → r.true_ ≡ v.rest.true_ → r.special ≡ v.rest.special → r.classes ≡ v.rest.classes → ((i : ℕ) → r.active ≡ Some i → Has t i) → RestHeld (with_rest r t)
roots_with {v} {t} r g h nil false_ true_ special classes active = record {
  nil = subst (λ i. Has t i) (sym nil) (g.held _ h.nil);
  false_ = subst (λ i. Has t i) (sym false_) (g.held _ h.false_);
  true_ = subst (λ i. Has t i) (sym true_) (g.held _ h.true_);
  special = subst (λ i. Has t i) (sym special) (g.held _ h.special);
  classes = λ index i e. g.held i (h.classes index i (ap (λ c. get c index) (sym classes) ∙ e));
  active = active;
}

-- the rest of v changed in a way that keeps what it names
pub change_moved : {v m t u : Kept} (f : Rest → Rest) → Keeps v m → Moved v t u → RestHeld (with_rest (f v.rest) t) → Moved v (with_rest (f v.rest) t) (with_rest (f m.rest) u)
change_moved {v} {m} {t} f k s held =
    moved s (rest_moved s.keeps (of (λ r. RestHeld (with_rest r t)) f (rest_same k) (λ r e. subst (λ q. RestHeld (with_rest (f q) t)) e held)))

pub add_moved : {v m : Kept} {o p : Obj} → Keeps v m → Same (NamesHeld v) o p → Moved v (add_of v o) (add_of m p)
unfolding add_of
add_moved {v} {m} {o} k s =
    let p = put_moved k (next_same k) s in
    change_moved (λ r. with_next (r.next + 1) r) k p (roots_with (with_next (v.rest.next + 1) v.rest) p.grows k.roots refl refl refl refl refl (λ i e. p.grows.held i (k.roots.active i e)))

-- the new object is there
pub next_held : (v : Kept) (o : Obj) → Has (add_of v o) v.rest.next
unfolding add_of
next_held v o = ap is_some (object_at-put_same v v.rest.next o)

pub next_ref_same : {v m : Kept} (t : Kept) → Keeps v m → Has t v.rest.next → Same (IsHeld t) (next_ref v) (next_ref m)
next_ref_same {v} t k h = of (IsHeld t) (λ r. ref.Obj r.next) (rest_same k) (λ r e. subst (λ s. Has t s.next) e h)

-- ---- lists

pub append_same : {v : Kept} {xs ys zs ws : List Ref} → Same (AllHeld v) xs ys → Same (AllHeld v) zs ws → Same (AllHeld v) (xs ++ zs) (ys ++ ws)
append_same {v} (same xs h) (same zs g) = same (xs ++ zs) (record { all = all-append (IsHeld v) xs zs h.all g.all })

pub cons_same : {v : Kept} {x y : Ref} {zs ws : List Ref} → Same (IsHeld v) x y → Same (AllHeld v) zs ws → Same (AllHeld v) (x ∷ zs) (y ∷ ws)
cons_same (same x h) (same zs g) = same (x ∷ zs) (record { all = (h, g.all) })

pub empty_same : (v : Kept) → Same (AllHeld v) [] []
empty_same v = same [] (record { all = tt })

pub drop_same : {v : Kept} {xs ys : List Ref} → (n : ℕ) → Same (AllHeld v) xs ys → Same (AllHeld v) (drop n xs) (drop n ys)
drop_same {v} n (same xs h) = same (drop n xs) (record { all = all-drop (IsHeld v) n xs h.all })

pub take_same : {v : Kept} {xs ys : List Ref} → (n : ℕ) → Same (AllHeld v) xs ys → Same (AllHeld v) (take n xs) (take n ys)
take_same {v} n (same xs h) = same (take n xs) (record { all = all-take (IsHeld v) n xs h.all })

pub replicate_same : {v m : Kept} {n l : ℕ} {x y : Ref} → Keeps v m → Same Any n l → Same (IsHeld v) x y → Same (AllHeld v) (replicate n x) (replicate l y)
replicate_same {v} k (same n a) (same x h) = same (replicate n x) (record { all = all-replicate (IsHeld v) n x h })

pub last_values_same : {v : Kept} {xs ys : List Ref} → (n : ℕ) → Same (AllHeld v) xs ys → Same (AllHeld v) (last_values n xs) (last_values n ys)
last_values_same {v} n (same xs h) = same (last_values n xs) (record { all = all-drop (IsHeld v) (length xs - n) xs h.all })

pub receiver_below_same : {v m : Kept} {x y : Ref} {xs ys : List Ref} → Keeps v m → (args : ℕ) → Same (IsHeld v) x y → Same (AllHeld v) xs ys → Same (IsHeld v) (receiver_below args x xs) (receiver_below args y ys)
receiver_below_same k args s (same xs h) = or_same (slice_same (length xs - (args + 1)) (same xs h)) s

-- ---- entering

pub context_same : {v m : Kept} {hash hash' size size' : ℕ} {pc pc' : Option ℕ} {sender sender' method method' closure closure' receiver receiver' : Ref} {stack stack' : List Ref} →
    Keeps v m → Same Any hash hash' → Same (IsHeld v) sender sender' → Same Any pc pc' → Same (IsHeld v) method method' → Same (IsHeld v) closure closure' → Same (IsHeld v) receiver receiver' → Same (AllHeld v) stack stack' → Same Any size size' →
    Same (ContextHeld v) (record { hash = hash; sender = sender; pc = pc; method = method; closure = closure; receiver = receiver; stack = stack; size = size }) (record { hash = hash'; sender = sender'; pc = pc'; method = method'; closure = closure'; receiver = receiver'; stack = stack'; size = size' })
context_same k (same hash a) (same sender b) (same pc c) (same method d) (same closure e) (same receiver f) (same stack g) (same size h) =
    same _ (record { sender = b; method = d; closure = e; receiver = f; stack = g.all })

pub enter_with_moved : {v m : Kept} (f g : Context → Context) → Keeps v m → (args : ℕ) → Same (ContextHeld v) (f (active_context v)) (g (active_context m)) → Moved v (enter_with v args f) (enter_with m args g)
unfolding enter_with
enter_with_moved {v} {m} f g k args s =
    let d = drop_moved k (args + 1) in
    let p = put_moved d.keeps (next_same k) (ctx_same (up_context d.grows s)) in
    change_moved (λ r. activate (Some r.next) (with_next (r.next + 1) r)) k (moved d p)
    (roots_with (activate (Some v.rest.next) (with_next (v.rest.next + 1) v.rest)) (grows-trans d.grows p.grows) k.roots refl refl refl refl refl
    (λ i e. subst (λ j. Has (put (drop_of v (args + 1)) v.rest.next (Ctx (f (active_context v)))) j) (cc) (ap is_some (object_at-put_same (drop_of v (args + 1)) v.rest.next (Ctx (f (active_context v)))))))

pub method_context_same : {v m : Kept} {x y : Ref} {c d : Context} → Keeps v m → (args : ℕ) (skip : Bool) → Same (IsHeld v) x y → Same (ContextHeld v) c d → Same (ContextHeld v) (method_context v x args skip c) (method_context m y args skip d)
method_context_same k args skip s t =
    context_same k (is 0) (active_ref_same k) (of_option (λ o. Some (entry_pc o skip)) (object_of_same k s)) s (nil_same k)
    (receiver_below_same k args (nil_same k) (context_stack t))
    (append_same (last_values_same args (context_stack t)) (replicate_same k (of_option (λ o. temporary_count (header_in o) - args) (object_of_same k s)) (nil_same k)))
    (of_option (λ o. context_size (header_in o)) (object_of_same k s))

pub enter_moved : {v m : Kept} {x y : Ref} → Keeps v m → Same (IsHeld v) x y → (args : ℕ) (skip : Bool) → Moved v (enter_of v x args skip) (enter_of m y args skip)
unfolding enter_of
enter_moved {v} {m} {x} {y} k s args skip = enter_with_moved (method_context v x args skip) (method_context m y args skip) k args (method_context_same k args skip s (active_context_same k))

-- ---- leaving

dead_object_held : (v : Kept) (nil : ℕ) → Has v nil → (o : Obj) → NamesHeld v o → NamesHeld v (dead_object nil o)
dead_object_held v nil g (Ptr head slots) h = h
dead_object_held v nil g (Raw head bytes) h = tt
dead_object_held v nil g (Method head header literals bytecodes) h = h
dead_object_held v nil g (Ctx c) h = record { sender = g; method = h.method; closure = h.closure; receiver = h.receiver; stack = tt }

dead_object_context : (nil : ℕ) (o : Obj) → is_context o ≡ true → is_context (dead_object nil o) ≡ true
dead_object_context nil (Ptr head slots) h = h
dead_object_context nil (Raw head bytes) h = h
dead_object_context nil (Method head header literals bytecodes) h = h
dead_object_context nil (Ctx c) h = h

dead_object_edit : {v m : Kept} → Keeps v m → Same (IsEdit v) (dead_object v.rest.nil) (dead_object m.rest.nil)
dead_object_edit {v} k = of (IsEdit v) (λ r. dead_object r.nil) (rest_same k) (λ r e. record { context = dead_object_context r.nil; held = dead_object_held v r.nil (subst (λ s. Has v s.nil) e k.roots.nil) })

pub kill_moved : {v m : Kept} {i j : ℕ} → Keeps v m → Same Any i j → Moved v (kill_of v i) (kill_of m j)
unfolding kill_of
kill_moved k s = edit_found_moved k (dead_object_edit k) s

pub kill_all_moved : (dying : List ℕ) {v m : Kept} → Keeps v m → Moved v (kill_all dying v) (kill_all dying m)
unfolding kill_all
kill_all_moved [] k = unmoved k
kill_all_moved (i ∷ dying) k = let s = kill_moved k (same i tt) in moved s (kill_all_moved dying s.keeps)

pub resume_moved : {v m : Kept} {i j : ℕ} → Keeps v m → Same (Has v) i j → Moved v (resume_of v i) (resume_of m j)
unfolding resume_of
resume_moved {v} k (same i h) = change_moved (λ r. activate (Some i) r) k (unmoved k) (roots_with (activate (Some i) v.rest) ((unmoved k).grows) k.roots refl refl refl refl refl (λ j e. subst (Has v) (cc) h))

pub suspend_moved : {v m : Kept} → Keeps v m → Moved v (suspend_of v) (suspend_of m)
unfolding suspend_of
suspend_moved {v} k = change_moved (λ r. activate None r) k (unmoved k) (roots_with (activate None v.rest) ((unmoved k).grows) k.roots refl refl refl refl refl (λ j e. absurd (cc)))

pub cut_to_moved : {v m : Kept} {i j : ℕ} {x y : Ref} → Keeps v m → (dying : List ℕ) → Same (Has v) i j → Same (IsHeld v) x y → Moved v (cut_to_of v dying i x) (cut_to_of m dying j y)
unfolding cut_to_of
cut_to_moved k dying target s =
    let a = kill_all_moved dying k in
    let b = moved a (resume_moved a.keeps (up_birth a.grows target)) in
    moved b (push_moved b.keeps (up b.grows s))

-- the birth of a reference that is held
birth_or_nil : {v m : Kept} {x y : Ref} → Keeps v m → Same (IsHeld v) x y → Same (Has v) (unwrap_or (named_object x) v.rest.nil) (unwrap_or (named_object y) m.rest.nil)
birth_or_nil {v} k (same (Small a) h) = of (Has v) (λ r. r.nil) (rest_same k) (λ r e. subst (λ s. Has v s.nil) e k.roots.nil)
birth_or_nil {v} k (same (Char a) h) = of (Has v) (λ r. r.nil) (rest_same k) (λ r e. subst (λ s. Has v s.nil) e k.roots.nil)
birth_or_nil k (same (ref.Obj i) h) = same i h

pub leave_moved : {v m : Kept} {x y : Ref} → Keeps v m → Same (IsHeld v) x y → Moved v (leave_of v x) (leave_of m y)
unfolding leave_of
leave_moved k s =
    let a = kill_moved k (value (λ i. i) (active_birth_same k)) in
    let b = moved a (resume_moved a.keeps (up_birth a.grows (birth_or_nil k (context_sender (active_context_same k))))) in
    moved b (push_moved b.keeps (up b.grows s))

pub new_pointers_same : {v m : Kept} → Keeps v m → (class format slots : ℕ) → Same (NamesHeld v) (new_pointers v class format slots) (new_pointers m class format slots)
new_pointers_same {v} k class format slots = of (NamesHeld v) (λ nil. Ptr (new_head class format) (replicate slots nil)) (nil_same k) (λ nil h. all-replicate (IsHeld v) slots nil h)
