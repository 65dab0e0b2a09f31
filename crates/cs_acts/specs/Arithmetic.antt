-- What is computed of two SmallIntegers, by the numbers of the integer primitives.
use Rattle.std.specs.Prelude.{ℕ, ◌&&◌, Bool, nat_le}
use Rattle.cs_acts.specs.declared.arithmetic.Operation.{Operation}
use Rattle.cs_acts.specs.declared.arithmetic.Operation.TheVariants.{Add, Subtract, Less, Greater, AtMost, AtLeast, Equal, NotEqual, Multiply, Divide, Modulo, DivideDown, Quotient, BitAnd, BitOr, BitXor, BitShift}

-- the primitive that computes the same
abbrev pub primitive_of : Operation → ℕ
primitive_of Add = 1
primitive_of Subtract = 2
primitive_of Less = 3
primitive_of Greater = 4
primitive_of AtMost = 5
primitive_of AtLeast = 6
primitive_of Equal = 7
primitive_of NotEqual = 8
primitive_of Multiply = 9
primitive_of Divide = 10
primitive_of Modulo = 11
primitive_of DivideDown = 12
primitive_of Quotient = 13
primitive_of BitAnd = 14
primitive_of BitOr = 15
primitive_of BitXor = 16
primitive_of BitShift = 17

-- primitives 3 to 8 answer true or false
abbrev pub is_comparison : ℕ → Bool
is_comparison number = nat_le 3 number && nat_le number 8
