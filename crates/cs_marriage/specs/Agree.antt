-- When heap and frames agree: what a frame has for a context, and what a context has for a frame.
use Rattle.std.specs.Prelude.{◌≡◌, ◌≢◌, ◌⊎◌, ◌↔◌, ℕ, ◌-◌, ◌<◌, ◌≤◌, ◌==◌, true, false, if◌then◌else◌, List, length, unwrap_or}
use Rattle.cs_word.specs.Word.{natural_of_word}
use Rattle.cs_heap.specs.Object.{Object, birth_at, class_at, format_at, is_object, slot_count_of, slot_of}
use Rattle.cs_heap.specs.Format.{is_code}
use Rattle.cs_model.specs.Obj.{context_class, context_fields, context_size}
use Rattle.cs_frame.specs.declared.FrameRef.{FrameRef}
use Rattle.cs_frame.specs.Frame.{Frame, nil}
use Rattle.cs_frame.specs.Page.{IsFrame, frame}
use Rattle.cs_marriage.specs.Place.{link_word, names_place}
use Rattle.cs_marriage.specs.declared.state.Spouse.{Spouse}
use Rattle.cs_marriage.specs.declared.state.Spouse.TheVariants as spouse

-- a context: six fields, and a stack of 16 or 56 values
pub record IsContextAt (os : List Object) (a : ℕ) : Type 0 where
  pub class : class_at os a ≡ context_class
  pub format : format_at os a ≡ 3
  pub slots : (slot_count_of os a ≡ 22) ⊎ (slot_count_of os a ≡ 62)

-- the header of the method at an address
abbrev pub header_at : List Object → ℕ → ℕ
header_at os a = unwrap_or (natural_of_word (slot_of os a 0)) 0

-- a method, with a header
pub record IsMethodAt (os : List Object) (a : ℕ) : Type 0 where
  pub format : is_code (format_at os a) ≡ true
  pub header : 0 < slot_count_of os a

-- how many values the stack of a frame may hold: as many as that of its context, or where it has none as its method asks for
abbrev pub frame_size : List Object → Frame → ℕ
frame_size os f = if f.context == nil then context_size (header_at os f.method) else slot_count_of os f.context - context_fields

-- The frame at r and the context that it names are one activation. The context names the frame's place, so no other frame names it.
-- Beside that it has what it keeps when the frame returns.
pub record AreMarried (os : List Object) (r : FrameRef) (f : Frame) : Type 0 where
  pub context : IsContextAt os f.context
  pub birth : birth_at os f.context ≡ f.birth
  pub place : slot_of os f.context 0 ≡ link_word r
  pub method : slot_of os f.context 3 ≡ f.method
  pub closure : slot_of os f.context 4 ≡ f.closure
  pub receiver : slot_of os f.context 5 ≡ f.receiver

pub record FrameAgrees (os : List Object) (r : FrameRef) (f : Frame) : Type 0 where
  pub within : r.at < 4096
  pub method : IsMethodAt os f.method
  pub stack : length f.stack ≤ frame_size os f
  pub married : f.context ≢ nil → AreMarried os r f

pub record Agree (os : List Object) (ps : List (List Frame)) : Type 0 where
  pub few : length ps ≤ 64
  pub nil_there : is_object os nil ≡ true
  pub nil_class : class_at os nil ≢ context_class
  pub frames : (r : FrameRef) → IsFrame ps r → FrameAgrees os r (frame ps r)

-- ---- the three states of a context

-- the frame at r is the body of the context
abbrev pub HasContext : List (List Frame) → ℕ → FrameRef → Type 0
HasContext ps a r = IsFrame ps r × ((frame ps r).context ≡ a)

abbrev pub HasNoFrame : List (List Frame) → ℕ → Type 0
HasNoFrame ps a = (r : FrameRef) → IsFrame ps r → (frame ps r).context ≢ a

-- it names a place, but no frame is its body: a later frame may stand at that place
pub record IsWidowed (os : List Object) (ps : List (List Frame)) (a : ℕ) : Type 0 where
  pub named : names_place (slot_of os a 0) ≡ true
  pub alone : HasNoFrame ps a

pub record IsSpouse (os : List Object) (ps : List (List Frame)) (a : ℕ) (s : Spouse) : Type 0 where
  pub single : (s ≡ spouse.Single) ↔ (names_place (slot_of os a 0) ≡ false)
  pub married : (r : FrameRef) → (s ≡ spouse.Married r) ↔ HasContext ps a r
  pub widowed : (s ≡ spouse.Widowed) ↔ IsWidowed os ps a
