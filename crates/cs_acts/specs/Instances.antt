-- What the plan of an instance, which the heap and the class table say, makes of a state.
use Rattle.cs_heap.specs.Object.{size}
use Rattle.cs_classes.specs.Instances.{Make, Plan, Refuse, instance_of}
use Rattle.cs_classes.specs.declared.NewError.TheVariants as refused
use Rattle.cs_model.specs.Ref.{Ref}
use Rattle.cs_model.specs.State.{Kept}
use Rattle.cs_model.specs.Operation.{add_of, next_ref}
use Rattle.cs_model.specs.Instance.{Made, New, NotInstantiable, TableFull, take_index}

-- no plan refuses for want of room: whether there is room is asked behind it
abbrev pub made_of : Kept → Ref → Plan → Made
made_of k class (Make index format slots) = New (add_of (take_index k class index) (instance_of k index format slots)) (next_ref k) (size slots)
made_of k class (Refuse refused.NotInstantiable) = NotInstantiable
made_of k class (Refuse refused.TableFull) = TableFull
made_of k class (Refuse refused.HeapFull) = NotInstantiable
