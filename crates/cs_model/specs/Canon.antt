-- What two images are compared by: a form of a state that doesn't depend on the births of its contexts, nor on contexts
-- that nothing reaches. Objects have numbers from 1: first those that are no contexts, by birth, and then the contexts in
-- the order in which they are first reached.
use Rattle.std.specs.Prelude.{ℕ, zero, suc, ◌+◌, ◌==◌, ◌&&◌, not, Bool, true, false, if◌then◌else◌, List, [], ◌∷◌, ◌++◌, map, length, filter, filter_map, flat_map, fold, position, Option, Some, None, option_map, slice_get}
use Rattle.std.specs.Option.{option_map_or}
use Rattle.std.specs.List.{list_any}
use Rattle.std.specs.FinMap.{entries}
use Rattle.cs_model.specs.Ref.{Ref, Small, Char, same_ref, named_object}
use Rattle.cs_model.specs.Ref as ref
use Rattle.cs_model.specs.Obj.{Obj, Head, Context, Ptr, Raw, Method, Ctx, is_context, is_context_at}
use Rattle.cs_model.specs.State.{Kept, object_at}

-- ---- the order of objects

-- the births of the objects that are no contexts
abbrev pub plain_births : Kept → List ℕ
plain_births k = map (λ e. e.0) (filter (λ e. not (is_context e.1)) (entries k.objects))

-- what an object leads to, in this order; nothing leads from a context to its method, which is no context
abbrev pub leads_to : Option Obj → List Ref
leads_to None = []
leads_to (Some (Ptr head slots)) = slots
leads_to (Some (Raw head bytes)) = []
leads_to (Some (Method head header literals bytecodes)) = literals
leads_to (Some (Ctx c)) = c.sender ∷ c.closure ∷ c.receiver ∷ c.stack

-- the births of the contexts to which the object of a birth leads
abbrev pub contexts_from : Kept → ℕ → List ℕ
contexts_from k birth = filter (λ i. is_context_at (object_at k i)) (filter_map named_object (leads_to (object_at k birth)))

-- a queue takes at its end what it doesn't have yet
abbrev pub queued : List ℕ → ℕ → List ℕ
queued queue i = if list_any (λ j. j == i) queue then queue else queue ++ i ∷ []

abbrev pub all_queued : List ℕ → List ℕ → List ℕ
all_queued queue births = fold queued queue births

-- the queue once each of its contexts from a place on, n at most, has had its turn
abbrev pub turned : ℕ → Kept → ℕ → List ℕ → List ℕ
turned zero k place queue = queue
turned (suc n) k place queue =
    turned n k (place + 1) (all_queued queue (option_map_or (contexts_from k) (slice_get queue place) []))

-- The queue of contexts begins with those in the slots of other objects, and no context has more than one turn.
abbrev pub reached_births : Kept → List ℕ
reached_births k = turned (length (entries k.objects)) k 0 (all_queued [] (flat_map (contexts_from k) (plain_births k)))

-- the births of all objects that count, in the order of their numbers
abbrev pub order_of : Kept → List ℕ
order_of k = plain_births k ++ reached_births k

-- ---- objects by numbers

-- the number of a birth in an order
abbrev pub canon_number : List ℕ → ℕ → ℕ
canon_number order birth = option_map_or (λ place. place + 1) (position (λ i. i == birth) order) 0

abbrev pub ref_in : List ℕ → Ref → Ref
ref_in order (Small value) = Small value
ref_in order (Char code) = Char code
ref_in order (ref.Obj birth) = ref.Obj (canon_number order birth)

abbrev pub canon_context : List ℕ → Context → Context
canon_context order c = record c {
  sender = ref_in order c.sender;
  method = ref_in order c.method;
  closure = ref_in order c.closure;
  receiver = ref_in order c.receiver;
  stack = map (ref_in order) c.stack;
}

abbrev pub canon_object : List ℕ → Obj → Obj
canon_object order (Ptr head slots) = Ptr head (map (ref_in order) slots)
canon_object order (Raw head bytes) = Raw head bytes
canon_object order (Method head header literals bytecodes) = Method head header (map (ref_in order) literals) bytecodes
canon_object order (Ctx c) = Ctx (canon_context order c)

-- the last hash that was given, the special-object array, the class table by indices, and the objects by their numbers
pub record Canon : Type 0 where
  pub last_hash : ℕ
  pub special : ℕ
  pub classes : List (ℕ × ℕ)
  pub objects : List Obj

abbrev pub canon_by : List ℕ → Kept → Canon
canon_by order k = record {
  last_hash = k.rest.last_hash;
  special = canon_number order k.rest.special;
  classes = map (λ e. (e.0, canon_number order e.1)) (entries k.rest.classes);
  objects = filter_map (λ birth. option_map (canon_object order) (object_at k birth)) order;
}

unfoldable pub canon : Kept → Canon
canon k = canon_by (order_of k) k

-- ---- the first difference

abbrev pub same_list : {A : Type 0} → (A → A → Bool) → List A → List A → Bool
same_list same [] [] = true
same_list same [] (y ∷ ys) = false
same_list same (x ∷ xs) [] = false
same_list same (x ∷ xs) (y ∷ ys) = same x y && same_list same xs ys

abbrev pub same_refs : List Ref → List Ref → Bool
same_refs xs ys = same_list same_ref xs ys

abbrev pub same_numbers : List ℕ → List ℕ → Bool
same_numbers xs ys = same_list (λ x y. x == y) xs ys

abbrev pub same_truth : Bool → Bool → Bool
same_truth a b = if a then b else not b

abbrev pub same_head : Head → Head → Bool
same_head a b = a.class == b.class && a.format == b.format && a.hash == b.hash && same_truth a.fixed b.fixed

abbrev pub same_pc : Option ℕ → Option ℕ → Bool
same_pc None None = true
same_pc None (Some q) = false
same_pc (Some p) None = false
same_pc (Some p) (Some q) = p == q

abbrev pub same_context : Context → Context → Bool
same_context a b = a.hash == b.hash && a.size == b.size && same_ref a.sender b.sender && same_pc a.pc b.pc
    && same_ref a.method b.method && same_ref a.closure b.closure && same_ref a.receiver b.receiver
    && same_refs a.stack b.stack

abbrev pub same_object : Obj → Obj → Bool
same_object (Ptr head slots) (Ptr head' slots') = same_head head head' && same_refs slots slots'
same_object (Raw head bytes) (Raw head' bytes') = same_head head head' && same_numbers bytes bytes'
same_object (Method head header literals bytecodes) (Method head' header' literals' bytecodes') =
    same_head head head' && header == header' && same_refs literals literals' && same_numbers bytecodes bytecodes'
same_object (Ctx c) (Ctx c') = same_context c c'
same_object o o' = false

abbrev pub same_start : Canon → Canon → Bool
same_start a b = a.last_hash == b.last_hash && a.special == b.special
    && same_list (λ x y. x.0 == y.0 && x.1 == y.1) a.classes b.classes

-- the first place, counted from one, at which two lists differ, or at which one of them has ended
abbrev pub first_difference : ℕ → List Obj → List Obj → Option ℕ
first_difference place [] [] = None
first_difference place [] (y ∷ ys) = Some place
first_difference place (x ∷ xs) [] = Some place
first_difference place (x ∷ xs) (y ∷ ys) = if same_object x y then first_difference (place + 1) xs ys else Some place

-- the first place at which two forms differ: 0 is what comes before the objects, and k is object k
unfoldable pub difference : Canon → Canon → Option ℕ
difference a b = if same_start a b then first_difference 1 a.objects b.objects else Some 0
