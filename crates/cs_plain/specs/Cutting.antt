-- A return past a home, where all that dies before the home is dead.
use Rattle.std.specs.Prelude.{◌≡◌, ◌≢◌, ℕ, true, Some}
use Rattle.cs_word.specs.declared.Oop.{Oop}
use Rattle.cs_model.specs.Ref.{Ref}
use Rattle.cs_model.specs.Obj.{context_in}
use Rattle.cs_model.specs.State.{Kept, object_at}
use Rattle.cs_model.specs.Operation.{kill_all, kill_of, push_of, resume_of}
use Rattle.cs_model.specs.Return.{has_room, is_live, sender_birth}
use Rattle.cs_acts.specs.Names.{KeepsNames}
use Rattle.cs_acts.specs.Ready.{IsSound}
use Rattle.cs_acts.specs.Targets.{dying_to}
use Rattle.cs_plain.specs.declared.PlainWorld.{PlainWorld}
use Rattle.cs_plain.specs.View.{oop_birth, plain_stored, plain_view}

-- The home stands at this address. With its death all that die are dead; its sender and the target are as before.
pub record AtHome (old new : PlainWorld) (home target : ℕ) (context : Oop) : Type 0 where
  pub birth : oop_birth new.heap.objects context ≡ Some home
  pub kills : kill_of (plain_view new) home ≡ kill_all (dying_to (plain_view old) home) (plain_view old)
  pub sender : sender_birth (plain_view new) home ≡ Some target
  pub other : target ≢ home
  pub stays : object_at (plain_view new) target ≡ object_at (plain_view old) target
  pub sound : IsSound (plain_stored new) (plain_view new)
  pub names : KeepsNames (plain_stored old) (plain_stored new)
  pub limit : new.heap.limit ≡ old.heap.limit

-- A return behind the death of this home can land on the target: that is another context, live, and has room for a value.
pub record CanLand (k : Kept) (home target : ℕ) : Type 0 where
  pub live : is_live k target ≡ true
  pub other : target ≢ home
  pub room : has_room (context_in (object_at k target)) ≡ true

-- the home dies, the target is active, and the value is pushed
abbrev pub landed_of : Kept → ℕ → ℕ → Ref → Kept
landed_of k home target x = push_of (resume_of (kill_of k home) target) x
