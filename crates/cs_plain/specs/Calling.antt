-- A context that is made of its fields, of arguments, and of copied values.
use Rattle.std.specs.Prelude.{◌≡◌, ℕ, ◌+◌, ◌-◌, ◌<◌, ◌≤◌, ◌==◌, ◌||◌, true, List, [], ◌++◌, length, drop, take, map, replicate, Option, Some, None, unwrap_or}
use Rattle.cs_heap.specs.Object.{Object, is_object, heap_object}
use Rattle.cs_classes.specs.Meaning.{ref_of}
use Rattle.cs_classes.specs.Sound.{is_closure_address, is_reference, nil_word}
use Rattle.std.specs.List.{AllPass}
use Rattle.cs_word.specs.Word.{natural_of_word}
use Rattle.cs_model.specs.Ref.{Ref}
use Rattle.cs_model.specs.Obj.{Context, context_size, lies_in}
use Rattle.cs_model.specs.State.{Kept, object_of}
use Rattle.cs_model.specs.Read.{depth_of, stack_of}
use Rattle.cs_model.specs.Operation.{enter_with, last_values}
use Rattle.cs_model.specs.Operation as operation
use Rattle.cs_acts.specs.Names.{IsNamed, Store, name_of}
use Rattle.cs_plain.specs.declared.Fields.{Fields}

abbrev pub words_there : Option Object → List ℕ
words_there None = []
words_there (Some x) = x.words

-- so many words of a closure behind its three fields
abbrev pub copied_words : List Object → ℕ → ℕ → List ℕ
copied_words objects closure n = take n (drop 3 (words_there (heap_object objects closure)))

-- The fields are those of a context that can run: its pc lies in its method, its closure is nil or a closure, its stack holds
-- arguments and copied values, and the size by the method's header holds the stack. The arguments are on the active stack above one
-- more value, the copied values in the closure.
pub record CanCall (s : Store) (k : Kept) (header args copied : ℕ) (f : Fields) : Type 0 where
  pub entry : ℕ
  pub pc : natural_of_word f.pc.0 ≡ Some entry
  pub lies : lies_in (object_of k (name_of s f.method)) entry ≡ true
  pub depth : ℕ
  pub stackp : natural_of_word f.stackp.0 ≡ Some depth
  pub holds : args + copied ≤ depth
  pub fits : depth ≤ context_size header
  pub pc_named : IsNamed s f.pc
  pub stackp_named : IsNamed s f.stackp
  pub method : IsNamed s f.method
  pub closure : is_object s.memory.objects f.closure.0 ≡ true
  pub receiver : IsNamed s f.receiver
  pub there : args < depth_of k
  pub values : length (copied_words s.memory.objects f.closure.0 copied) ≡ copied
  pub named : AllPass (is_reference s.memory.objects) (copied_words s.memory.objects f.closure.0 copied)
  pub closed : (f.closure.0 == nil_word s.memory.objects || is_closure_address s.memory.objects f.closure.0) ≡ true
  pub births : k.rest.next < 4611686018427387904

-- the arguments, the copied values, and nil
abbrev pub called_stack : Store → Kept → ℕ → ℕ → ℕ → Fields → List Ref
called_stack s k depth args copied f =
    last_values args (stack_of k) ++ (map (ref_of s.memory.objects) (copied_words s.memory.objects f.closure.0 copied) ++ replicate (depth - (args + copied)) (operation.nil_of k))

abbrev pub called_context : Store → Kept → ℕ → ℕ → ℕ → Fields → Context
called_context s k header args copied f = record {
  hash = 0;
  sender = name_of s f.sender;
  pc = natural_of_word f.pc.0;
  method = name_of s f.method;
  closure = name_of s f.closure;
  receiver = name_of s f.receiver;
  stack = called_stack s k (unwrap_or (natural_of_word f.stackp.0) 0) args copied f;
  size = context_size header;
}

-- the state in which this context is new and active
abbrev pub called_of : Kept → ℕ → Context → Kept
called_of k args new = enter_with k args (λ old. new)
