-- The objects of a heap in the order in which two images are compared, by their addresses.
use Rattle.std.specs.Prelude.{◌≡◌, ℕ, zero, suc, ◌+◌, ◌≤◌, ◌&&◌, ◌==◌, not, Bool, if◌then◌else◌, nat_eq, List, [], ◌∷◌, take, drop, length, map, filter, fold, slice_get, slice_index}
use Rattle.std.specs.List.{AllPass}
use Rattle.std.specs.Option.{option_map_or}
use Rattle.cs_word.specs.declared.Oop.{Oop}
use Rattle.cs_heap.specs.Format.{is_code, is_pointers}
use Rattle.cs_heap.specs.Object.{Object, birth_at, class_at, is_object, heap_object}
use Rattle.cs_model.specs.Canon.{order_of}
use Rattle.cs_model.specs.Obj.{context_class, context_fields}
use Rattle.cs_model.specs.State.{Kept}
use Rattle.cs_classes.specs.Meaning.{depth_in, is_heap_context, literal_words}
use Rattle.indexmap.specs.IndexSet.{insert_key}

-- a word is the address of a context
abbrev pub is_context_address : List Object → ℕ → Bool
is_context_address objects word = is_object objects word && class_at objects word == context_class

-- the addresses once what a word names has had its chance: a context that isn't among them goes to their end
abbrev pub reached : List Object → List ℕ → ℕ → List ℕ
reached objects addresses word = if is_context_address objects word then insert_key nat_eq addresses word else addresses

-- the same for some words, in their order
abbrev pub all_reached : List Object → List ℕ → List ℕ → List ℕ
all_reached objects addresses words = fold (reached objects) addresses words

-- The words of an object through which contexts are reached, in this order: the slots of a pointer object, the literals
-- of a method, and the sender, the closure, the receiver and the stack of a context.
abbrev pub leading_words : Object → List ℕ
leading_words x =
    if is_heap_context x then slice_index x.words 0 ∷ slice_index x.words 4 ∷ slice_index x.words 5
    ∷ take (depth_in x.words) (drop context_fields x.words) else
    (if is_pointers x.format then x.words else
    (if is_code x.format then literal_words x.words else []))

abbrev pub leading_from : List Object → ℕ → List ℕ
leading_from objects address = option_map_or leading_words (heap_object objects address) []

-- the addresses once the object at a place among them has had its turn
abbrev pub turn : List Object → ℕ → List ℕ → List ℕ
turn objects place addresses =
    option_map_or (λ address. all_reached objects addresses (leading_from objects address)) (slice_get addresses place)
    addresses

-- the same for n places, from this one on
unfoldable pub turns : ℕ → List Object → ℕ → List ℕ → List ℕ
turns zero objects place addresses = addresses
turns (suc n) objects place addresses = turns n objects (place + 1) (turn objects place addresses)

-- the addresses of those among some objects that are no contexts
abbrev pub plain_among : List Object → List Oop → List ℕ
plain_among objects order = map (λ o. o.0) (filter (λ o. not (is_context_address objects o.0)) order)

-- The addresses of the objects that count in the order of their numbers, where these are what the heap means: each is
-- one of an object, there are no more than the heap has, and their births are in the model's order.
pub record IsNumbering (objects : List Object) (k : Kept) (addresses : List ℕ) : Type 0 where
  pub objects_are : AllPass (is_object objects) addresses
  pub few : length addresses ≤ length objects
  pub births : map (birth_at objects) addresses ≡ order_of k
