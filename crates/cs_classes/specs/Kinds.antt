-- What the fields of contexts name.
use Rattle.std.specs.Prelude.{◌≡◌, ℕ, ◌||◌, true, Some}
use Rattle.cs_model.specs.Context.{closure_class, has_class_index}
use Rattle.cs_model.specs.Obj.{Context, Ctx, is_method}
use Rattle.cs_model.specs.State.{Kept, is_nil, object_at, object_of}
use Rattle.cs_classes.specs.Senders.{SenderStands}

-- a context's sender is nil or a context, its method nil or a method, and its closure nil or a closure
pub record ContextKinds (k : Kept) (c : Context) : Type 0 where
  pub sender : SenderStands k c
  pub method : (is_nil k c.method || is_method (object_of k c.method)) ≡ true
  pub closure : (is_nil k c.closure || has_class_index closure_class (object_of k c.closure)) ≡ true

-- so it is with each context
abbrev pub KindsStand : Kept → Type 0
KindsStand k = (i : ℕ) (c : Context) → object_at k i ≡ Some (Ctx c) → ContextKinds k c
