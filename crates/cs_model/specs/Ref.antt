-- References. The words of 32-bit Spur say the same by their low bits, and name objects by addresses; the model knows no
-- address, and names an object by its birth, which is given once and never again.
use Rattle.std.specs.Prelude.{ℕ, ℤ, pos, negsuc, Bool, false, ◌==◌, Option, Some, None}
use Rattle.std.specs.Ordering.{int_eq}

-- a SmallInteger, from -2^30 to 2^30 - 1; a Character by its code; the object or context of a birth
pub data Ref : Type 0 where
  Small : (value : ℤ) → Ref
  Char : (code : ℕ) → Ref
  Obj : (birth : ℕ) → Ref

-- identity
abbrev pub same_ref : Ref → Ref → Bool
same_ref (Small a) (Small b) = int_eq a b
same_ref (Small a) (Char c) = false
same_ref (Small a) (Obj i) = false
same_ref (Char c) (Small a) = false
same_ref (Char c) (Char d) = c == d
same_ref (Char c) (Obj i) = false
same_ref (Obj i) (Small a) = false
same_ref (Obj i) (Char c) = false
same_ref (Obj i) (Obj j) = i == j

-- the birth of the object that a reference names
abbrev pub named_object : Ref → Option ℕ
named_object (Small a) = None
named_object (Char c) = None
named_object (Obj i) = Some i

abbrev pub small_of : Ref → Option ℤ
small_of (Small a) = Some a
small_of (Char c) = None
small_of (Obj i) = None

-- a number that isn't negative
abbrev pub natural_of : ℤ → Option ℕ
natural_of (pos n) = Some n
natural_of (negsuc n) = None

abbrev pub natural_in : Option ℤ → Option ℕ
natural_in None = None
natural_in (Some a) = natural_of a

-- a SmallInteger that isn't negative, as an index
abbrev pub small_index : Ref → Option ℕ
small_index x = natural_in (small_of x)
