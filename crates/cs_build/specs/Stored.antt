-- Objects that a builder's file may hold, among so many objects.
use Rattle.std.specs.Prelude.{◌≡◌, ℕ, ◌+◌, ◌^◌, ◌<◌, ◌≤◌, ◌==◌, false, true, List, length, Some}
use Rattle.std.specs.List.{AllByRecursion}
use Rattle.cs_model.specs.Ref.{Ref}
use Rattle.cs_model.specs.Obj.{Obj, Head, Context, Ptr, Raw, Method, Ctx, new_head, context_class, literal_count}
use Rattle.cs_model.specs.Words.{is_pointer_format, plain}
use Rattle.cs_model.specs.Builder.{spare}
use Rattle.cs_build.specs.Laid.{FitsRef}

abbrev pub IsByte : ℕ → Type 0
IsByte b = b < 256

pub record StoredPointers (count : ℕ) (head : Head) (slots : List Ref) : Type 0 where
  pub other : (head.class == context_class) ≡ false
  pub pointers : is_pointer_format head.format ≡ true
  pub same : plain head ≡ head
  pub loose : head.fixed ≡ false
  pub refs : AllByRecursion (FitsRef count) slots

pub record StoredBytes (head : Head) (bytes : List ℕ) : Type 0 where
  pub is_head : head ≡ new_head head.class (16 + spare (length bytes))
  pub other : (head.class == context_class) ≡ false
  pub units : AllByRecursion IsByte bytes

pub record StoredMethod (count : ℕ) (head : Head) (header : ℕ) (literals : List Ref) (bytecodes : List ℕ) : Type 0 where
  pub is_head : head ≡ new_head 43 (24 + spare (length bytecodes))
  pub small : header < 2 ^ 30
  pub counted : literal_count header ≡ length literals
  pub refs : AllByRecursion (FitsRef count) literals
  pub units : AllByRecursion IsByte bytecodes

pub record StoredContext (count : ℕ) (c : Context) : Type 0 where
  pub at : ℕ
  pub pc : c.pc ≡ Some at
  pub fits : at < 2 ^ 30
  pub sender : FitsRef count c.sender
  pub method : FitsRef count c.method
  pub closure : FitsRef count c.closure
  pub receiver : FitsRef count c.receiver
  pub stack : AllByRecursion (FitsRef count) c.stack
  pub depth : length c.stack ≤ c.size
  pub size : c.size < 2 ^ 30

abbrev pub IsStored : ℕ → Obj → Type 0
IsStored count (Ptr head slots) = StoredPointers count head slots
IsStored count (Raw head bytes) = StoredBytes head bytes
IsStored count (Method head header literals bytecodes) = StoredMethod count head header literals bytecodes
IsStored count (Ctx c) = StoredContext count c
