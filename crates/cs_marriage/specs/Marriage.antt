-- What the calls make of heap and frames.
use Rattle.std.specs.Prelude.{◌≡◌, ◌≢◌, ℕ, pos, ◌+◌, ◌-◌, ◌<◌, ◌≤◌, ◌^◌, ◌==◌, false, if◌then◌else◌, List, [], ◌∷◌, ◌++◌, Option, Some, None, IsSome, length, take, drop, replicate, unwrap_or}
use Rattle.cs_word.specs.Word.{small_word, natural_of_word}
use Rattle.cs_heap.specs.Object.{Object, birth_at, next_address, no_flags, heap_object, set_word, slot_count_of, slot_of, slot_set, words_at}
use Rattle.cs_classes.specs.Meaning.{depth_in}
use Rattle.cs_model.specs.Obj.{context_class, context_fields, context_size}
use Rattle.cs_frame.specs.declared.FrameRef.{FrameRef}
use Rattle.cs_frame.specs.Frame.{Frame, IsValue, nil}
use Rattle.cs_frame.specs.Page.{frames_of, nth}
use Rattle.cs_marriage.specs.Place.{link_word, names_place}
use Rattle.cs_marriage.specs.Agree.{IsContextAt, IsMethodAt, header_at}

-- no frame of page p has this context
abbrev pub PageLacks : List (List Frame) → ℕ → ℕ → Type 0
PageLacks ps p a = (k : ℕ) → k < length (frames_of ps p) → (nth (frames_of ps p) k).context ≢ a

-- ---- marrying

-- The context of the frame f at r, with a stack of this size. Its words say where the frame is and what is kept when it returns; sender,
-- pc and stack are the frame's alone.
abbrev pub new_spouse : FrameRef → ℕ → Frame → Object
new_spouse r size f = record {
  class = context_class;
  flags = no_flags;
  format = 3;
  hash = 0;
  birth = f.birth;
  words = link_word r ∷ nil ∷ nil ∷ f.method ∷ f.closure ∷ f.receiver ∷ replicate size nil;
}

-- the size of the stack of a frame's new context
abbrev pub new_size : List Object → Frame → ℕ
new_size os f = context_size (header_at os f.method)

abbrev pub married_objects : List Object → FrameRef → Frame → List Object
married_objects os r f = if f.context == nil then os ++ new_spouse r (new_size os f) f ∷ [] else os

-- the address of a frame's context, once it is married
abbrev pub spouse_address : List Object → Frame → ℕ
spouse_address os f = if f.context == nil then next_address os (context_fields + new_size os f) else f.context

-- ---- a context as a base frame

-- the stack of the context at an address
abbrev pub stack_words : List Object → ℕ → List ℕ
stack_words os a = take (depth_in (words_at os a)) (drop context_fields (words_at os a))

-- the single context at an address as the base frame of a page
abbrev pub base_frame : List Object → ℕ → Frame
base_frame os a = record {
  at = 0;
  caller = slot_of os a 0;
  saved_pc = slot_of os a 1;
  method = slot_of os a 3;
  closure = slot_of os a 4;
  context = a;
  birth = birth_at os a;
  receiver = slot_of os a 5;
  stack = stack_words os a;
}

-- all words from the i-th on are nil
abbrev pub cleared : ℕ → List ℕ → List ℕ
cleared i ws = take i ws ++ replicate (length ws - i) nil

abbrev pub cleared_from : ℕ → Object → Object
cleared_from i x = record x { words = cleared i x.words }

-- The context of a frame at r, where it was single before. It names the place, and pc, stackp and stack are the frame's alone.
abbrev pub linked : FrameRef → Object → Object
linked r x = cleared_from context_fields (set_word 2 nil (set_word 1 nil (set_word 0 (link_word r) x)))

-- Of a live single context, on which no frame stands. Its words are no links, its stack is no longer than its size.
pub record CanBase (os : List Object) (a : ℕ) : Type 0 where
  pub context : IsContextAt os a
  pub single : names_place (slot_of os a 0) ≡ false
  pub live : IsSome (natural_of_word (slot_of os a 1))
  pub birth : birth_at os a < 2 ^ 62
  pub method : IsMethodAt os (slot_of os a 3)
  pub values : (i : ℕ) → i < slot_count_of os a → IsValue (slot_of os a i)
  pub stack : context_fields + unwrap_or (natural_of_word (slot_of os a 2)) 0 ≤ slot_count_of os a

-- ---- burying

-- the context at an address is single and dead
abbrev pub buried : List Object → ℕ → List Object
buried os a = slot_set (slot_set (slot_set os a 0 nil) a 1 nil) a 2 (small_word (pos 0))
