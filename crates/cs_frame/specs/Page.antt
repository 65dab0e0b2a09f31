-- A page: the frames that stand on it, the last one first. Each frame but the lowest, the base frame, was called by the one
-- behind it in the list.
use Rattle.std.specs.Prelude.{◌≡◌, ℕ, zero, suc, ◌+◌, ◌-◌, ◌<◌, ◌≤◌, ◌==◌, if◌then◌else◌, List, [], ◌∷◌, ◌++◌, length, drop, replicate, slice_index_or, slice_set}
use Rattle.cs_frame.specs.declared.FrameRef.{FrameRef}
use Rattle.cs_frame.specs.declared.NewFrame.{NewFrame}
use Rattle.cs_frame.specs.Frame.{Frame, nil, blank_frame, call_cut, IsValue}

-- the words that the frames of a page take: 10 for each frame and one for each value
abbrev pub frames_used : List Frame → ℕ
frames_used [] = 0
frames_used (f ∷ fs) = frames_used fs + (10 + length f.stack)

-- each frame begins where the frames below it end
abbrev pub AreStacked : List Frame → Type 0
AreStacked [] = Unit {0}
AreStacked (f ∷ fs) = (f.at ≡ frames_used fs) × AreStacked fs

abbrev pub top : List Frame → Frame
top [] = blank_frame
top (f ∷ fs) = f

abbrev pub on_top : (Frame → Frame) → List Frame → List Frame
on_top g [] = []
on_top g (f ∷ fs) = g f ∷ fs

-- the page without its last frame
abbrev pub rest_of : List Frame → List Frame
rest_of [] = []
rest_of (f ∷ fs) = fs

-- the frame that has k frames above it
abbrev pub nth : List Frame → ℕ → Frame
nth [] k = blank_frame
nth (f ∷ fs) zero = f
nth (f ∷ fs) (suc k) = nth fs k

abbrev pub on_nth : ℕ → (Frame → Frame) → List Frame → List Frame
on_nth k g [] = []
on_nth zero g (f ∷ fs) = g f ∷ fs
on_nth (suc k) g (f ∷ fs) = f ∷ on_nth k g fs

-- how many frames stand above the one that begins at `at`
abbrev pub frame_index : List Frame → ℕ → ℕ
frame_index [] at = 0
frame_index (f ∷ fs) at = if f.at == at then 0 else suc (frame_index fs at)

-- the frames of page p
abbrev pub frames_of : List (List Frame) → ℕ → List Frame
frames_of ps p = slice_index_or ps p []

abbrev pub on_page : List (List Frame) → ℕ → (List Frame → List Frame) → List (List Frame)
on_page ps p h = slice_set ps p (h (frames_of ps p))

-- the reference to a frame of page p
abbrev pub frame_ref : ℕ → Frame → FrameRef
frame_ref p f = record { page = p; at = f.at }

abbrev pub index_in : List (List Frame) → FrameRef → ℕ
index_in ps r = frame_index (frames_of ps r.page) r.at

-- a frame begins there
abbrev pub IsFrame : List (List Frame) → FrameRef → Type 0
IsFrame ps r = index_in ps r < length (frames_of ps r.page)

-- the frame that begins there
abbrev pub frame : List (List Frame) → FrameRef → Frame
frame ps r = nth (frames_of ps r.page) (index_in ps r)

-- the frame below it
abbrev pub caller_of : List (List Frame) → FrameRef → Frame
caller_of ps r = nth (frames_of ps r.page) (suc (index_in ps r))

abbrev pub on_frame : List (List Frame) → FrameRef → (Frame → Frame) → List (List Frame)
on_frame ps r g = on_page ps r.page (on_nth (index_in ps r) g)

-- the last frame of its page begins there
abbrev pub IsTop : List (List Frame) → FrameRef → Type 0
IsTop ps r = (0 < length (frames_of ps r.page)) × (r.at ≡ (top (frames_of ps r.page)).at)

-- the base frame of its page begins there
abbrev pub IsBase : List (List Frame) → FrameRef → Type 0
IsBase ps r = suc (index_in ps r) ≡ length (frames_of ps r.page)

-- a frame as it is made: its stack is the arguments and then nils, and it has no pc and no context
abbrev pub fresh : NewFrame → ℕ → ℕ → List ℕ → Frame
fresh new at caller arguments = record {
  at = at;
  caller = caller;
  saved_pc = nil;
  method = new.method.0;
  closure = new.closure.0;
  context = nil;
  birth = new.birth;
  receiver = new.receiver.0;
  stack = arguments ++ replicate new.fill nil;
}

-- the page with a new frame: the base frame where the page was empty, with its receiver for a sender; else one above the
-- last frame, whose receiver and arguments it takes
abbrev pub called : NewFrame → List Frame → List Frame
called new [] = fresh new 0 new.receiver.0 [] ∷ []
called new (f ∷ fs) =
    let caller = call_cut new.args f in
    fresh new (frames_used (caller ∷ fs)) nil (drop (length f.stack - new.args) f.stack) ∷ caller ∷ fs

-- the last frame holds receiver and arguments; an empty page can give none
abbrev pub HasArguments : ℕ → List Frame → Type 0
HasArguments args [] = args ≡ 0
HasArguments args (f ∷ fs) = args + 1 ≤ length f.stack

-- what a new frame is given to hold is no link
pub record HoldsValues (new : NewFrame) : Type 0 where
  pub method : IsValue new.method.0
  pub closure : IsValue new.closure.0
  pub receiver : IsValue new.receiver.0
