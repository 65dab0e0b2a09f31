-- What a return past a home makes of the parts: each context on the way along the senders dies.
use Rattle.std.specs.Prelude.{◌≡◌, ◌≢◌, ◌⊎◌, ℕ, ◌≤◌, true, false, List, [], ◌∷◌, length, map, Option, Some, None}
use Rattle.std.specs.List.{filter}
use Rattle.cs_model.specs.Obj.{Context, Ctx, dead}
use Rattle.cs_model.specs.State as state
use Rattle.cs_model.specs.State.{Kept}
use Rattle.cs_model.specs.Operation.{activate}
use Rattle.cs_model.specs.Return.{is_among, sender_birth}
use Rattle.cs_acts.specs.declared.act.Act.{Act}
use Rattle.cs_acts.specs.declared.act.Act.TheVariants as act
use Rattle.cs_acts.specs.Layout.{LaidBy, cut, has_frame, left_of}
use Rattle.cs_acts.specs.Made.{contexts_in}
use Rattle.cs_acts.specs.Names.{KeepsNames}
use Rattle.cs_stack.specs.declared.parts.Parts.{Parts}
use Rattle.cs_stack.specs.Good.{IsGood}
use Rattle.cs_stack.specs.View.{act_of, laid_pages, layout_of, stored_of, view_of}

-- ---- the way along the senders

-- where these contexts lie before the one of birth t, the first of all
abbrev pub ahead : ℕ → List ℕ → ℕ
ahead t [] = t
ahead t (i ∷ is) = i

-- each is the sender of the one before it, the context of birth t that of the last, and that is none of them
abbrev pub IsWay : Kept → ℕ → List ℕ → Type 0
IsWay k t [] = Unit {0}
IsWay k t (i ∷ is) = (i ≢ t) × (sender_birth k i ≡ Some (ahead t is)) × IsWay k t is

-- what stands at the birth of a context that was c and has died: the dead one, or nothing where no name was left of it
abbrev pub IsDead : Kept → Kept → ℕ → Context → Type 0
IsDead k u i c = (state.object_at u i ≡ None) ⊎ (state.object_at u i ≡ Some (Ctx (dead k.rest.nil c)))

-- these contexts have died, and all else is as it was
pub record Dies (k u : Kept) (dying : List ℕ) : Type 0 where
  pub died : (i : ℕ) → is_among i dying ≡ true → (c : Context) × (state.object_at k i ≡ Some (Ctx c)) × IsDead k u i c
  pub other : (i : ℕ) → is_among i dying ≡ false → state.object_at u i ≡ state.object_at k i

-- and the one of birth t is active
pub record Cuts (k u : Kept) (dying : List ℕ) (t : ℕ) : Type 0 where
  pub rest : u.rest ≡ activate (Some t) k.rest
  pub dies : Dies k u dying

pub record CutPast (w v : Parts) (dying : List ℕ) (t : ℕ) : Type 0 where
  pub good : IsGood v
  pub state : Cuts (view_of w) (view_of v) dying t
  pub layout : LaidBy (cut dying t) (layout_of w) (layout_of v)
  pub names : KeepsNames (stored_of w) (stored_of v)

-- ---- on the way

-- the active frame, or where no frame is left a context of the heap
abbrev pub IsFirst : Parts → Act → Type 0
IsFirst w (act.Frame page at) = (view_of w).rest.active ≡ act_of w (act.Frame page at)
IsFirst w (act.Context o) = w.pages.recent ≡ []
IsFirst w act.Gone = Unit {0}

-- what is left of the pages where these die
abbrev pub spared : List ℕ → Parts → List (List ℕ)
spared dying w = filter has_frame (map (left_of dying) (laid_pages w.frames w.pages.recent))

-- what stays where contexts die that have no frame, or whose frame is active
pub record Stays (w v : Parts) : Type 0 where
  pub rest : (active : Option ℕ) → activate active (view_of v).rest ≡ activate active (view_of w).rest
  pub names : KeepsNames (stored_of w) (stored_of v)
  pub total : v.pages.total ≡ w.pages.total
  pub limit : v.heap.limit ≡ w.heap.limit
  pub contexts : contexts_in v.heap.objects ≡ contexts_in w.heap.objects

-- the context of birth i has died, and its sender, if that is another frame, is active
pub record Fades (w v : Parts) (i : ℕ) : Type 0 where
  pub good : IsGood v
  pub stays : Stays w v
  pub dies : Dies (view_of w) (view_of v) (i ∷ [])
  pub next : (j : ℕ) → sender_birth (view_of w) i ≡ Some j → ((view_of v).rest.active ≡ Some j) ⊎ (v.pages.recent ≡ [])
  pub acts : (a : Act) (j : ℕ) → i ≢ j → act_of w a ≡ Some j → act_of v a ≡ Some j
  pub layout : (dying : List ℕ) → is_among i dying ≡ true → spared dying v ≡ spared dying w

-- an act stands for a context with another one as its sender
pub record Steps (w : Parts) (a : Act) : Type 0 where
  pub i : ℕ
  pub j : ℕ
  pub stands : act_of w a ≡ Some i
  pub first : IsFirst w a
  pub sender : sender_birth (view_of w) i ≡ Some j
  pub other : i ≢ j

-- it has died, and this stands for its sender
pub record Stepped (w v : Parts) (i j : ℕ) (next : Act) : Type 0 where
  pub fades : Fades w v i
  pub stands : act_of v next ≡ Some j
  pub first : IsFirst v next

-- the way from the active context to the one of birth t, of 1,048,577 contexts at most
pub record LeadsDownTo (w : Parts) (t : ℕ) : Type 0 where
  pub dying : List ℕ
  pub way : IsWay (view_of w) t dying
  pub active : (view_of w).rest.active ≡ Some (ahead t dying)
  pub few : length dying ≤ 1048577

-- at its end
pub record Arrives (w v : Parts) (dying : List ℕ) (t : ℕ) (a : Act) : Type 0 where
  pub good : IsGood v
  pub stays : Stays w v
  pub dies : Dies (view_of w) (view_of v) dying
  pub layout : spared dying v ≡ spared dying w
  pub stands : act_of v a ≡ Some t
  pub first : IsFirst v a
