-- What entering and leaving make of the parts.
use Rattle.std.specs.Prelude.{pos, ◌≡◌, ◌≢◌, ◌⊎◌, ℕ, ◌+◌, ◌-◌, ◌*◌, ◌<◌, ◌≤◌, ◌||◌, Bool, true, if◌then◌else◌, List, [], ◌∷◌, ◌++◌, length, take, drop, replicate, slice_index, Option, Some, None, option_and_then}
use Rattle.std.specs.Option.{option_map_or}
use Rattle.cs_word.specs.Word.{natural_of_word, small_word}
use Rattle.cs_word.specs.declared.Oop.{Oop}
use Rattle.cs_heap.specs.Object.{Object, format_at, heap_object, with_object, words_at}
use Rattle.cs_heap.specs.Format.{is_code}
use Rattle.cs_heap.specs.Writes.{slots_stored}
use Rattle.cs_frame.specs.declared.FrameRef.{FrameRef}
use Rattle.cs_frame.specs.declared.NewFrame.{NewFrame}
use Rattle.cs_frame.specs.Frame.{Frame, call_cut, nil}
use Rattle.cs_frame.specs.Page.{frame, frames_of, on_page, on_top, top, frames_used}
use Rattle.cs_marriage.specs.Agree.{header_at}
use Rattle.cs_marriage.specs.Marriage.{base_frame, linked}
use Rattle.cs_model.specs.Ref.{Ref}
use Rattle.cs_model.specs.Ref as ref
use Rattle.cs_model.specs.Obj.{Context, Ctx, context_in, context_size, dead, header_in, is_method, literal_count}
use Rattle.cs_model.specs.State as state
use Rattle.cs_model.specs.State.{Kept, is_nil, object_of}
use Rattle.cs_model.specs.Read.{active_birth, active_context, depth_of, stack_of}
use Rattle.cs_model.specs.Operation.{activate, enter_with, last_values, nil_of}
use Rattle.cs_model.specs.Enter.{copied_values}
use Rattle.cs_model.specs.Context.{closure_class, context_get, has_class_index, lies_if_index}
use Rattle.cs_acts.specs.Layout.{LaidBy, left}
use Rattle.cs_acts.specs.Names.{IsNamed, KeepsNames, Store, name_of}
use Rattle.cs_pages.specs.Order.{IsFree, Order}
use Rattle.cs_stack.specs.declared.parts.Parts.{Parts}
use Rattle.cs_stack.specs.Good.{IsGood}
use Rattle.cs_stack.specs.View.{layout_of, stored_of, view_of}

-- the number of the most recent page
abbrev pub active_number : Parts → ℕ
active_number w = slice_index w.pages.recent 0

-- a free page is taken, and this is made of it
pub record Takes (o : Order) (v : Parts) (make : ℕ → Parts) : Type 0 where
  pub page : ℕ
  pub free : IsFree o page
  pub is : v ≡ make page

-- ---- entering

-- the pc at which a method is entered, by its header
abbrev pub entry_of : ℕ → Bool → ℕ
entry_of header skip = 4 * (literal_count header + 1) + 1 + (if skip then 3 else 0)

-- the first values that the closure at an address has copied, so many
abbrev pub copied_at : List Object → ℕ → ℕ → List ℕ
copied_at os closure copies = take copies (drop 3 (words_at os closure))

-- what follows the arguments on the stack of a new frame
abbrev pub behind_arguments : List Object → NewFrame → ℕ → List ℕ
behind_arguments os new copies = replicate new.fill nil ++ copied_at os new.closure.0 copies

-- The new frame that the frame f calls, where it stands at `at` with this word for a sender: receiver and arguments were the last values
-- of f.
abbrev pub callee : List Object → NewFrame → ℕ → ℕ → ℕ → ℕ → Frame → Frame
callee os new pc copies at caller f = record {
  at = at;
  caller = caller;
  saved_pc = pc;
  method = new.method.0;
  closure = new.closure.0;
  context = nil;
  birth = new.birth;
  receiver = new.receiver.0;
  stack = drop (length f.stack - new.args) f.stack ++ behind_arguments os new copies;
}

-- on the page of its caller
abbrev pub called_page : List Object → NewFrame → ℕ → ℕ → List Frame → List Frame
called_page os new pc copies [] = []
called_page os new pc copies (f ∷ fs) = callee os new pc copies (frames_used (call_cut new.args f ∷ fs)) nil f ∷ call_cut new.args f ∷ fs

abbrev pub given_birth : Parts → Parts
given_birth w = record w { roots = record w.roots { next_birth = w.roots.next_birth + 1 } }

abbrev pub called_parts : NewFrame → ℕ → ℕ → Parts → Parts
called_parts new pc copies w = record (given_birth w) { frames = on_page w.frames (active_number w) (called_page w.heap.objects new pc copies) }

-- on a page of its own, with the context of its caller as sender
abbrev pub begun_parts : ℕ → ℕ → NewFrame → ℕ → ℕ → Parts → Parts
begun_parts page sender new pc copies w = record (given_birth w) {
  pages = record w.pages { recent = page ∷ w.pages.recent };
  frames = on_page (on_page w.frames (active_number w) (on_top (call_cut new.args))) page
      (λ _. callee w.heap.objects new pc copies 0 sender (top (frames_of w.frames (active_number w))) ∷ []);
}

-- the values that follow the arguments
abbrev pub begun_stack : Store → Kept → NewFrame → ℕ → List Ref
begun_stack s k new copies = replicate new.fill (nil_of k) ++ take copies (copied_values k (name_of s new.closure))

-- A new frame can be made with so many copied values: what it names is there, its closure is nil or a closure, its pc lies in its method, the active stack has receiver
-- and arguments, and its own fits.
pub record CanBegin (s : Store) (k : Kept) (new : NewFrame) (pc : Oop) (copies : ℕ) : Type 0 where
  pub method : IsNamed s new.method
  pub closure : IsNamed s new.closure
  pub kind : (is_nil k (name_of s new.closure) || has_class_index closure_class (object_of k (name_of s new.closure))) ≡ true
  pub receiver : IsNamed s new.receiver
  pub code : is_method (object_of k (name_of s new.method)) ≡ true
  pub lies : lies_if_index (object_of k (name_of s new.method)) (natural_of_word pc.0) ≡ true
  pub copied : copies ≤ length (copied_values k (name_of s new.closure))
  pub there : new.args < depth_of k
  pub fits : new.args + (new.fill + copies) ≤ context_size (header_in (object_of k (name_of s new.method)))
  pub birth : new.birth ≡ k.rest.next
  pub births : k.rest.next < 4611686018427387904

-- the context that it is
abbrev pub begun_context : Store → Kept → NewFrame → Oop → ℕ → Context
begun_context s k new pc copies = record {
  hash = 0;
  sender = ref.Obj (active_birth k);
  pc = natural_of_word pc.0;
  method = name_of s new.method;
  closure = name_of s new.closure;
  receiver = name_of s new.receiver;
  stack = last_values new.args (stack_of k) ++ begun_stack s k new copies;
  size = context_size (header_in (object_of k (name_of s new.method)));
}

-- and the state in which it is active
abbrev pub begun_state : Store → Kept → NewFrame → Oop → ℕ → Kept
begun_state s k new pc copies = enter_with k new.args (λ _. begun_context s k new pc copies)

-- ---- a context of the heap as the base frame

-- the single context at an address is the base frame of a page that was free
abbrev pub based_parts : ℕ → ℕ → Parts → Parts
based_parts page a w = record w {
  heap = slots_stored w.heap a (with_object w.heap.objects a (linked (record { page = page; at = 0 })));
  pages = record w.pages { recent = page ∷ w.pages.recent };
  frames = on_page w.frames page (λ _. base_frame w.heap.objects a ∷ []);
}

-- ---- leaving

-- the context of birth t is active, and the one that was is dead or gone
pub record Unwinds (k u : Kept) (t : ℕ) : Type 0 where
  pub rest : u.rest ≡ activate (Some t) k.rest
  pub died : (state.object_at u (active_birth k) ≡ None) ⊎ (state.object_at u (active_birth k) ≡ Some (Ctx (dead k.rest.nil (active_context k))))
  pub other : (i : ℕ) → i ≢ active_birth k → state.object_at u i ≡ state.object_at k i

pub record Unwound (w v : Parts) (t : ℕ) : Type 0 where
  pub good : IsGood v
  pub state : Unwinds (view_of w) (view_of v) t
  pub layout : LaidBy (left t) (layout_of w) (layout_of v)
  pub names : KeepsNames (stored_of w) (stored_of v)

-- ---- looking

-- field i of the context of a birth, or a value of its stack
abbrev pub field_at : Kept → Option ℕ → ℕ → Option Ref
field_at k birth i = option_and_then (λ c. context_get k c i) (option_and_then (λ b. context_in (state.object_at k b)) birth)

-- the frame at r has this context
abbrev pub IsContextOf : Parts → FrameRef → ℕ → Type 0
IsContextOf w r a = ((frame w.frames r).context ≡ a) × (a ≢ nil)

-- ---- bytes

-- where the bytes of the object at an address begin: those of a method behind its header and its literals
abbrev pub first_byte : List Object → ℕ → ℕ
first_byte os a = if is_code (format_at os a) then 4 * (1 + literal_count (header_at os a)) else 0

-- ---- a new method

-- a method with this header, whose literals are nil
abbrev pub headed : ℕ → Object → Object
headed header x = record x { words = small_word (pos header) ∷ (replicate (literal_count header) nil ++ drop (1 + literal_count header) x.words) }
