-- What the words that a world hands out and takes mean.
use Rattle.std.specs.Prelude.{◌≡◌, ℕ, true, Option, IfSome, option_map}
use Rattle.std.specs.FinMap.{FinMap}
use Rattle.std.specs.Ordering.{nat_cmp}
use Rattle.cs_word.specs.declared.Oop.{Oop}
use Rattle.cs_heap.specs.Object.{Memory}
use Rattle.cs_classes.specs.declared.Roots.{Roots}
use Rattle.cs_classes.specs.Meaning.{ref_of}
use Rattle.cs_classes.specs.Sound.{is_reference}
use Rattle.cs_model.specs.Ref.{Ref}

-- what a world keeps beside its frames: the heap, the class table, and the roots
pub record Store : Type 0 where
  pub memory : Memory
  pub table : FinMap nat_cmp ℕ
  pub roots : Roots

-- what a word refers to
abbrev pub name_of : Store → Oop → Ref
name_of s o = ref_of s.memory.objects o.0

-- the word is an immediate or the address of an object
abbrev pub IsNamed : Store → Oop → Type 0
IsNamed s o = is_reference s.memory.objects o.0 ≡ true

-- and this is what it refers to
pub record Names (s : Store) (o : Oop) (x : Ref) : Type 0 where
  pub sound : IsNamed s o
  pub is : name_of s o ≡ x

-- the same where there may be none
pub record NamesOption (s : Store) (o : Option Oop) (x : Option Ref) : Type 0 where
  pub sound : IfSome o (λ w. IsNamed s w)
  pub is : option_map (λ w. name_of s w) o ≡ x

-- what has a name keeps it
abbrev pub KeepsNames : Store → Store → Type 0
KeepsNames old new = (o : Oop) → IsNamed old o → Names new o (name_of old o)
