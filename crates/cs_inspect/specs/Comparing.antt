-- What is compared of two images: what their words refer to, by the places of objects among the numbered ones.
use Rattle.std.specs.Prelude.{ℕ, pos, ◌+◌, ◌==◌, ◌&&◌, Bool, true, false, if◌then◌else◌, nat_eq, List, drop, map, filter_map, take, position, Option, Some, None, option_map}
use Rattle.std.specs.Option.{option_map_or}
use Rattle.std.specs.Ordering.{nat_cmp}
use Rattle.std.specs.FinMap.{FinMap, entries}
use Rattle.cs_word.specs.declared.Kind.{Kind}
use Rattle.cs_word.specs.declared.Kind.TheVariants as kind
use Rattle.cs_word.specs.Word.{kind_of, natural_of_word}
use Rattle.cs_heap.specs.Format.{is_code, is_pointers}
use Rattle.cs_heap.specs.Object.{Object, class_at, format_at, hash_at, heap_object, slot_count_of, slot_of, words_at}
use Rattle.cs_model.specs.Canon.{first_difference, same_head, same_list, same_numbers, same_object, same_pc, same_refs}
use Rattle.cs_model.specs.Obj.{Obj, context_class, context_fields}
use Rattle.cs_model.specs.Ref.{Ref, same_ref}
use Rattle.cs_model.specs.Ref as ref
use Rattle.cs_classes.specs.Meaning.{code_in, depth_in, method_header, literal_words, obj_of, used_bytes}
use Rattle.cs_inspect.specs.declared.comparison.Reference.{Reference}
use Rattle.cs_inspect.specs.declared.comparison.Reference.TheVariants as said
use Rattle.cs_inspect.specs.declared.comparison.Sameness.{Sameness}
use Rattle.cs_inspect.specs.declared.comparison.Sameness.TheVariants.{Same, Differ}
use Rattle.cs_inspect.specs.declared.comparison.Sort.{Sort}
use Rattle.cs_inspect.specs.Reading.{head_at}
use Rattle.cs_inspect.specs.declared.comparison.Sort.TheVariants.{Context, Pointers, Raw, Method}

-- the number of a place, counted from 1, and 0 where there is none
abbrev pub place_number : Option ℕ → ℕ
place_number place = option_map_or (λ p. p + 1) place 0

-- the number of an address among the numbered ones
abbrev pub address_number : List ℕ → ℕ → ℕ
address_number addresses address = place_number (position (nat_eq address) addresses)

abbrev pub numbered_kind : List ℕ → Kind → Ref
numbered_kind addresses (kind.Small value) = ref.Small value
numbered_kind addresses (kind.Character code) = ref.Char code
numbered_kind addresses (kind.Object address) = ref.Obj (address_number addresses address)
numbered_kind addresses (kind.Link word) = ref.Small (pos 0)

-- what a word refers to, where objects are named by their numbers
unfoldable pub numbered_word : List ℕ → ℕ → Ref
numbered_word addresses word = numbered_kind addresses (kind_of word)

abbrev pub ref_said : Reference → Ref
ref_said (said.Small value) = ref.Small value
ref_said (said.Character code) = ref.Char code
ref_said (said.Object place) = ref.Obj (place_number place)

-- the kind of an object
abbrev pub sort_at : List Object → ℕ → Sort
sort_at objects a =
    if class_at objects a == context_class then Context else
    (if is_pointers (format_at objects a) then Pointers else
    (if is_code (format_at objects a) then Method else Raw))

-- the object at an address, where objects are named by their numbers
abbrev pub numbered_object : List ℕ → List Object → ℕ → Option Obj
numbered_object addresses objects a = option_map (obj_of (numbered_word addresses)) (heap_object objects a)

abbrev pub same_found : Option Obj → Option Obj → Bool
same_found None y = false
same_found (Some x) None = false
same_found (Some x) (Some y) = same_object x y

-- the numbered objects
abbrev pub numbered_objects : List ℕ → List Object → List Obj
numbered_objects addresses objects = filter_map (numbered_object addresses objects) addresses

-- the numbers of the classes by their indices
abbrev pub class_numbers : List ℕ → FinMap nat_cmp ℕ → List (ℕ × ℕ)
class_numbers addresses table = map (λ e. (e.0, address_number addresses e.1)) (entries table)

abbrev pub same_class_numbers : List (ℕ × ℕ) → List (ℕ × ℕ) → Bool
same_class_numbers xs ys = same_list (λ x y. x.0 == y.0 && x.1 == y.1) xs ys

-- two entries of class tables, as numbers
abbrev pub same_entry : Option ℕ → Option ℕ → Bool
same_entry None None = true
same_entry None (Some n) = false
same_entry (Some m) None = false
same_entry (Some m) (Some n) = m == n

-- the first place at which the numbered objects differ, where the starts are the same or aren't
abbrev pub difference_from : Bool → List Obj → List Obj → Option ℕ
difference_from same xs ys = if same then first_difference 1 xs ys else Some 0

-- the place that is told of two images
abbrev pub place_told : Sameness → Option ℕ
place_told Same = None
place_told (Differ place) = Some place

-- ---- two objects, by the kind of both

module _ (ka : List ℕ) (osa : List Object) (a : ℕ) (kb : List ℕ) (osb : List Object) (b : ℕ) where
  abbrev pub same_slot_of : ℕ → Bool
  same_slot_of i = same_ref (numbered_word ka (slot_of osa a i)) (numbered_word kb (slot_of osb b i))

  -- what these words of the two refer to
  abbrev pub same_words_of : List ℕ → List ℕ → Bool
  same_words_of us vs = same_refs (map (numbered_word ka) us) (map (numbered_word kb) vs)

  abbrev pub same_pointers_of : Bool
  same_pointers_of = same_head (head_at osa a) (head_at osb b) && same_words_of (words_at osa a) (words_at osb b)

  abbrev pub same_raw_of : Bool
  same_raw_of = same_head (head_at osa a) (head_at osb b)
      && same_numbers (used_bytes (format_at osa a) (words_at osa a)) (used_bytes (format_at osb b) (words_at osb b))

  abbrev pub same_literals_of : Bool
  same_literals_of = same_words_of (literal_words (words_at osa a)) (literal_words (words_at osb b))

  abbrev pub same_code_of : Bool
  same_code_of = same_numbers (used_bytes (format_at osa a) (code_in (words_at osa a)))
      (used_bytes (format_at osb b) (code_in (words_at osb b)))

  abbrev pub same_methods_of : Bool
  same_methods_of = same_head (head_at osa a) (head_at osb b)
      && method_header (words_at osa a) == method_header (words_at osb b)
      && same_literals_of && same_code_of

  -- where two contexts stand, what they are activations of, and their stacks
  abbrev pub same_places_of : Bool
  same_places_of = same_slot_of 0 && same_pc (natural_of_word (slot_of osa a 1)) (natural_of_word (slot_of osb b 1))

  abbrev pub same_activations_of : Bool
  same_activations_of = same_slot_of 3 && same_slot_of 4 && same_slot_of 5

  abbrev pub same_stacks_of : Bool
  same_stacks_of = same_words_of (take (depth_in (words_at osa a)) (drop context_fields (words_at osa a)))
      (take (depth_in (words_at osb b)) (drop context_fields (words_at osb b)))

  abbrev pub same_contexts_of : Bool
  same_contexts_of = hash_at osa a == hash_at osb b && slot_count_of osa a == slot_count_of osb b
      && same_places_of && same_activations_of && same_stacks_of

  abbrev pub same_objects_of : Bool
  same_objects_of = same_found (numbered_object ka osa a) (numbered_object kb osb b)
