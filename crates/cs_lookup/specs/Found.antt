-- What a lookup reads of the heap, and what it answers.
use Rattle.std.specs.Prelude.{◌≡◌, ℕ, ◌==◌, ◌&&◌, not, Bool, true, nat_le, List, Option, option_map}
use Rattle.cs_word.specs.declared.Oop.{Oop}
use Rattle.cs_heap.specs.Format.{is_pointers}
use Rattle.cs_heap.specs.Object.{Object, class_at, format_at, is_object, slot_count_of}
use Rattle.cs_model.specs.Lookup.{Sought}
use Rattle.cs_model.specs.Lookup as sought
use Rattle.cs_model.specs.Obj.{context_class}
use Rattle.cs_model.specs.Ref.{Ref}
use Rattle.cs_model.specs.State.{Kept}
use Rattle.cs_classes.specs.Meaning.{objects_of, ref_of}
use Rattle.cs_classes.specs.Sound.{is_method_address}
use Rattle.cs_lookup.specs.declared.Found.{Found}
use Rattle.cs_lookup.specs.declared.Found.TheVariants.{Method, Missing, Loop}

-- a state has the objects of a heap, whatever else it keeps
abbrev pub HasObjects : List Object → Kept → Type 0
HasObjects objects k = k.objects ≡ objects_of objects

abbrev pub refs_option : List Object → Option Oop → Option Ref
refs_option objects = option_map (λ o. ref_of objects o.0)

-- what was found, as the model says it
abbrev pub sought_of : List Object → Found → Sought
sought_of objects (Method method) = sought.Method (ref_of objects method.0)
sought_of objects Missing = sought.Missing
sought_of objects Loop = sought.Loop

-- what was found is a method
abbrev pub FindsMethod : List Object → Found → Type 0
FindsMethod objects (Method method) = is_method_address objects method.0 ≡ true
FindsMethod objects Missing = Unit {0}
FindsMethod objects Loop = Unit {0}
