-- A frame: an activation on a stack page, with the parts that a Blue Book context has. That activations may live on pages
-- as frames is Deutsch and Schiffman's; the parts' order and the frame's overhead are this machine's own.
use Rattle.std.specs.Prelude.{◌≡◌, ◌≢◌, ℕ, ◌+◌, ◌-◌, ◌%◌, ◌⊎◌, List, [], ◌∷◌, ◌++◌, length, take, slice_set}

-- the word of nil
abbrev pub nil : ℕ
nil = 65536

-- a word whose low bits are 100
abbrev pub IsLink : ℕ → Type 0
IsLink word = word % 8 ≡ 4

-- what a frame may be given to hold: any word but a link
abbrev pub IsValue : ℕ → Type 0
IsValue word = word % 8 ≢ 4

-- a saved pc is nil or a SmallInteger
abbrev pub IsPc : ℕ → Type 0
IsPc word = (word ≡ nil) ⊎ (word % 2 ≡ 1)

pub record Frame : Type 0 where
  -- where the frame begins, in words from the beginning of its page
  pub at : ℕ
  -- the sender of a base frame; nil in any other, whose caller is the frame below it
  pub caller : ℕ
  pub saved_pc : ℕ
  pub method : ℕ
  pub closure : ℕ
  pub context : ℕ
  pub birth : ℕ
  pub receiver : ℕ
  -- arguments, temporaries and operands
  pub stack : List ℕ

-- what a read gives where there is no frame
abbrev pub blank_frame : Frame
blank_frame = record { at = 0; caller = nil; saved_pc = nil; method = nil; closure = nil; context = nil; birth = 0; receiver = nil; stack = [] }

-- the frame with one part changed

abbrev pub with_caller : ℕ → Frame → Frame
with_caller v f = record f { caller = v }

abbrev pub with_saved_pc : ℕ → Frame → Frame
with_saved_pc v f = record f { saved_pc = v }

abbrev pub with_method : ℕ → Frame → Frame
with_method v f = record f { method = v }

abbrev pub with_closure : ℕ → Frame → Frame
with_closure v f = record f { closure = v }

abbrev pub with_context : ℕ → Frame → Frame
with_context v f = record f { context = v }

abbrev pub with_receiver : ℕ → Frame → Frame
with_receiver v f = record f { receiver = v }

abbrev pub with_values : List ℕ → Frame → Frame
with_values xs f = record f { stack = xs }

abbrev pub with_value : ℕ → ℕ → Frame → Frame
with_value i v f = with_values (slice_set f.stack i v) f

abbrev pub value_pushed : ℕ → Frame → Frame
value_pushed v f = with_values (f.stack ++ v ∷ []) f

abbrev pub top_popped : Frame → Frame
top_popped f = with_values (take (length f.stack - 1) f.stack) f

-- a caller, once receiver and arguments have left its stack
abbrev pub call_cut : ℕ → Frame → Frame
call_cut args f = with_values (take (length f.stack - (args + 1)) f.stack) f
