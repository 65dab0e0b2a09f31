-- The state that a world of heap contexts keeps: all of it stands in the heap.
use Rattle.std.specs.Prelude.{ℕ, List, if◌then◌else◌, Option, Some, None, option_and_then}
use Rattle.cs_word.specs.declared.Oop.{Oop}
use Rattle.cs_heap.specs.Object.{Object, heap_object}
use Rattle.cs_classes.specs.Meaning.{is_heap_context, kept_of}
use Rattle.cs_classes.specs.declared.Loaded.{Loaded}
use Rattle.cs_model.specs.State.{Kept}
use Rattle.cs_acts.specs.declared.act.Act.{Act}
use Rattle.cs_acts.specs.declared.act.Act.TheVariants as act
use Rattle.cs_acts.specs.Names.{Store}
use Rattle.cs_plain.specs.declared.PlainWorld.{PlainWorld}

abbrev pub plain_birth : Option Object → Option ℕ
plain_birth None = None
plain_birth (Some x) = if is_heap_context x then Some x.birth else None

-- the birth of the context at an address
abbrev pub oop_birth : List Object → Oop → Option ℕ
oop_birth objects o = plain_birth (heap_object objects o.0)

abbrev pub plain_active : List Object → Option Oop → Option ℕ
plain_active objects active = option_and_then (oop_birth objects) active

abbrev pub plain_view : PlainWorld → Kept
plain_view w = kept_of w.heap.objects w.classes w.roots (plain_active w.heap.objects w.active)

abbrev pub plain_stored : PlainWorld → Store
plain_stored w = record { memory = w.heap; table = w.classes; roots = w.roots }

-- an act is the context at an address
abbrev pub plain_act : PlainWorld → Act → Option ℕ
plain_act w (act.Frame page at) = None
plain_act w (act.Context o) = oop_birth w.heap.objects o
plain_act w act.Gone = None
