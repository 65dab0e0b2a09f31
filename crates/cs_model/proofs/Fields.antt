-- Contexts as image code sees them, and their fields, are alike.
use Rattle.std.proofs.Common.{◌≡◌, ℕ, ◌-◌, ◌==◌, ◌&&◌, ◌||◌, not, pos, Bool, true, false, subst, Option, Some, None, is_some, length, take, replicate, nat_lt, if◌then◌else◌}
use Rattle.cs_model.specs.Ref.{Ref, Small, Char, small_index}
use Rattle.cs_model.specs.Ref as ref
use Rattle.cs_model.specs.Obj.{Obj, Context, Ptr, Raw, Method, Ctx, is_context, context_fields, edit_context, is_method}
use Rattle.cs_model.specs.State.{Kept, IsHeld, ContextHeld, NamesHeld}
use Rattle.cs_model.specs.Operation.{nil_of}
use Rattle.cs_model.specs.Context.{pc_value, context_get, is_context_ref, has_class_index, closure_class, lies_if_live, lies_if_index, is_at_most, accepts, of_depth, to_depth, with_field, context_put}
use Rattle.cs_model.specs.Keeps.{Keeps}
use Rattle.cs_model.proofs.Same.{some_same, option_is, Same, same, SameOption, Any, is, of, value, of_option, two, if_same, if_option, all-append, all-take, all-replicate, all-slice_set}
use Rattle.cs_model.proofs.Keeping.{Moved, IsEdit, edit_found_moved}
use Rattle.cs_model.proofs.Reading.{rest_same, nil_same, is_nil_same, object_of_same, context_in_same, context_sender, context_method, context_closure, context_receiver, context_stack, slice_same}
use Rattle.cs_model.proofs.Operating.{stack_held}

pc_value_same : {v m : Kept} {c d : Context} → Keeps v m → Same (ContextHeld v) c d → Same (IsHeld v) (pc_value (nil_of v) c.pc) (pc_value (nil_of m) d.pc)
pc_value_same {v} {m} k (same c h) = choose c.pc where
  choose : (pc : Option ℕ) → Same (IsHeld v) (pc_value (nil_of v) pc) (pc_value (nil_of m) pc)
  choose None = nil_same k
  choose (Some pc) = same (Small (pos pc)) tt

pub context_get_same : {v m : Kept} {c d : Context} → Keeps v m → Same (ContextHeld v) c d → (i : ℕ) → SameOption (IsHeld v) (context_get v c i) (context_get m d i)
unfolding context_get
context_get_same {v} k s i =
    if_option (is (i == 0)) (some_same (context_sender s))
    (if_option (is (i == 1)) (some_same (pc_value_same k s))
    (if_option (is (i == 2)) (some_same (of (IsHeld v) (λ c. Small (pos (length c.stack))) s (λ c h. tt)))
    (if_option (is (i == 3)) (some_same (context_method s))
    (if_option (is (i == 4)) (some_same (context_closure s))
    (if_option (is (i == 5)) (some_same (context_receiver s))
    (slice_same (i - context_fields) (context_stack s)))))))

pub is_context_ref_same : {v m : Kept} {x y : Ref} → Keeps v m → Same (IsHeld v) x y → Same Any (is_context_ref v x) (is_context_ref m y)
is_context_ref_same k s = of_option is_some (context_in_same (object_of_same k s))

pub and_same : {P Q : Bool → Type 0} {a b c d : Bool} → Same P a b → Same Q c d → Same Any (a && c) (b && d)
and_same (same a p) (same c q) = same (a && c) tt

pub or_else_same : {P Q : Bool → Type 0} {a b c d : Bool} → Same P a b → Same Q c d → Same Any (a || c) (b || d)
or_else_same (same a p) (same c q) = same (a || c) tt

pub accepts_same : {v m : Kept} {b e : Bool} {c d : Context} {x y : Ref} → Keeps v m → Same Any b e → Same (ContextHeld v) c d → (i : ℕ) → Same (IsHeld v) x y → Same Any (accepts v b c i x) (accepts m e d i y)
unfolding accepts
accepts_same k (same b a) s i t =
    if_same (is (i == 0)) (or_else_same (is_nil_same k t) (is_context_ref_same k t))
    (if_same (is (i == 1)) (if_same (is_nil_same k t) (is (not b)) (two (λ o x. lies_if_index o (small_index x)) (option_is (object_of_same k (context_method s))) t))
    (if_same (is (i == 2)) (two (λ c x. not b && is_at_most c.size (small_index x)) s t)
    (if_same (is (i == 3)) (two (λ o c. not b && is_method o && lies_if_live o c.pc) (option_is (object_of_same k t)) s)
    (if_same (is (i == 4)) (and_same (is (not b)) (or_else_same (is_nil_same k t) (of_option (has_class_index closure_class) (object_of_same k t))))
    (value (λ c. i == 5 || nat_lt (i - context_fields) (length c.stack)) s)))))

-- the context with a field written names what v has
of_depth_held : (v : Kept) (nil : Ref) → IsHeld v nil → (n : Option ℕ) (c : Context) → ContextHeld v c → ContextHeld v (to_depth nil n c)
of_depth_held v nil g None c h = h
of_depth_held v nil g (Some n) c h = stack_held c (of_depth nil n c.stack) h (all-append (IsHeld v) (take n c.stack) (replicate (n - length c.stack) nil) (all-take (IsHeld v) n c.stack h.stack) (all-replicate (IsHeld v) (n - length c.stack) nil g))

choose_held : (v : Kept) (b : Bool) (c d : Context) → ContextHeld v c → ContextHeld v d → ContextHeld v (if b then c else d)
choose_held v true c d h g = h
choose_held v false c d h g = g

with_field_held : (v t : Kept) (i : ℕ) (x : Ref) → IsHeld v (nil_of t) → IsHeld v x → (c : Context) → ContextHeld v c → ContextHeld v (with_field t i x c)
unfolding with_field
with_field_held v t i x nil g c h =
    choose_held v (i == 0) _ _ (record { sender = g; method = h.method; closure = h.closure; receiver = h.receiver; stack = h.stack })
    (choose_held v (i == 1) _ _ (record { sender = h.sender; method = h.method; closure = h.closure; receiver = h.receiver; stack = h.stack })
    (choose_held v (i == 2) _ _ (of_depth_held v (nil_of t) nil (small_index x) c h)
    (choose_held v (i == 3) _ _ (record { sender = h.sender; method = g; closure = h.closure; receiver = h.receiver; stack = h.stack })
    (choose_held v (i == 4) _ _ (record { sender = h.sender; method = h.method; closure = g; receiver = h.receiver; stack = h.stack })
    (choose_held v (i == 5) _ _ (record { sender = h.sender; method = h.method; closure = h.closure; receiver = g; stack = h.stack })
    (stack_held c _ h (all-slice_set (IsHeld v) c.stack (i - context_fields) x h.stack g)))))))

edit_context_context : (f : Context → Context) (o : Obj) → is_context o ≡ true → is_context (edit_context f o) ≡ true
edit_context_context f (Ptr head slots) h = h
edit_context_context f (Raw head bytes) h = h
edit_context_context f (Method head header literals bytecodes) h = h
edit_context_context f (Ctx c) h = h

edit_context_held : (v : Kept) (f : Context → Context) → ((c : Context) → ContextHeld v c → ContextHeld v (f c)) → (o : Obj) → NamesHeld v o → NamesHeld v (edit_context f o)
edit_context_held v f g (Ptr head slots) h = h
edit_context_held v f g (Raw head bytes) h = tt
edit_context_held v f g (Method head header literals bytecodes) h = h
edit_context_held v f g (Ctx c) h = g c h

-- a change of contexts that names what v has
pub edit_context_edit : {f g : Context → Context} (v : Kept) → Same (λ f. (c : Context) → ContextHeld v c → ContextHeld v (f c)) f g → Same (IsEdit v) (edit_context f) (edit_context g)
edit_context_edit v (same f h) = same (edit_context f) (record { context = edit_context_context f; held = edit_context_held v f h })

pub context_put_moved : {v m : Kept} {b c : ℕ} {x y : Ref} → Keeps v m → Same Any b c → (i : ℕ) → Same (IsHeld v) x y → Moved v (context_put v b i x) (context_put m c i y)
unfolding context_put with_field
context_put_moved {v} {m} k s i (same x g) =
    edit_found_moved k (edit_context_edit v (of (λ f. (c : Context) → ContextHeld v c → ContextHeld v (f c)) (λ r. with_field (record v { rest = r }) i x) (rest_same k)
    (λ r e. with_field_held v (record v { rest = r }) i x (subst (λ q. IsHeld v (ref.Obj q.nil)) e k.roots.nil) g))) s
