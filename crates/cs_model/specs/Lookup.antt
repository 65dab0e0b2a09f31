-- Method lookup (Blue Book, part four: a class and its superclasses are searched, each by its method dictionary).
use Rattle.std.specs.Prelude.{ℕ, zero, suc, pos, if◌then◌else◌, List, [], ◌∷◌, drop, Option, Some, None, is_some, option_and_then, slice_get, unwrap_or}
use Rattle.cs_model.specs.Ref.{Ref, Small, same_ref}
use Rattle.cs_model.specs.Obj.{is_method, slots_in}
use Rattle.cs_model.specs.State.{Kept, object_of, slots_of}

-- what a search finds: a method; nothing; or more classes than it goes through
pub data Sought : Type 0 where
  Method : (method : Ref) → Sought
  Missing : Sought
  Loop : Sought

-- how many classes a search goes through
unfoldable pub class_limit : ℕ
class_limit = 65536

abbrev pub if_method : Kept → Option Ref → Option Ref
if_method k None = None
if_method k (Some x) = if is_method (object_of k x) then Some x else None

abbrev pub or_else : Option Ref → Option Ref → Option Ref
or_else None other = other
or_else (Some x) other = Some x

-- the first of the selectors, from position i on, that is the one sought and at whose position the value is a method
unfoldable pub find_among : Kept → List Ref → Ref → ℕ → List Ref → Option Ref
find_among k values selector i [] = None
find_among k values selector i (x ∷ xs) =
    if same_ref x selector then or_else (if_method k (slice_get values i)) (find_among k values selector (suc i) xs)
    else find_among k values selector (suc i) xs

abbrev pub list_or_empty : Option (List Ref) → List Ref
list_or_empty None = []
list_or_empty (Some xs) = xs

-- a dictionary: the tally, the value array, and then the selectors
abbrev pub find_in : Kept → Ref → Option (List Ref) → Option Ref
find_in k selector None = None
find_in k selector (Some slots) =
    find_among k (list_or_empty (option_and_then (λ x. slots_in (object_of k x)) (slice_get slots 1))) selector 0 (drop 2 slots)

unfoldable pub find_in_dictionary : Kept → Ref → Ref → Option Ref
find_in_dictionary k selector dictionary = find_in k selector (slots_of k 2 dictionary)

abbrev pub slot_in : List Ref → ℕ → Ref
slot_in slots i = unwrap_or (slice_get slots i) (Small (pos 0))

abbrev pub or_above : Option Ref → Sought → Sought
or_above None above = above
or_above (Some x) above = Method x

-- a class: its superclass, its method dictionary, and the shape of its instances; anything else ends the search
abbrev pub in_class : Kept → Ref → Option (List Ref) → (Ref → Sought) → Sought
in_class k selector None above = Missing
in_class k selector (Some slots) above = or_above (find_in_dictionary k selector (slot_in slots 1)) (above (slot_in slots 0))

unfoldable pub lookup_within : ℕ → Kept → Ref → Ref → Sought
lookup_within zero k selector class = if is_some (slots_of k 3 class) then Loop else Missing
lookup_within (suc n) k selector class = in_class k selector (slots_of k 3 class) (λ above. lookup_within n k selector above)

-- the method that an instance of the class, or of its superclasses, understands the selector by
unfoldable pub lookup : Kept → Ref → Ref → Sought
lookup k class selector = lookup_within class_limit k selector class
