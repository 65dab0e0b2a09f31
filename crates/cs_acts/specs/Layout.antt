-- Where a world keeps its activations: those that are frames on stack pages, and the rules that hold of them.
use Rattle.std.specs.Prelude.{◌≡◌, ℕ, ◌+◌, ◌<◌, ◌≤◌, ◌==◌, ◌||◌, Bool, true, false, nat_le, not, if◌then◌else◌, List, [], ◌∷◌, ◌++◌, length, Option, Some, None, is_some, map}
use Rattle.std.specs.List.{AllByRecursion, concat, filter, list_any}
use Rattle.std.specs.FinMap.{get}
use Rattle.cs_heap.specs.Object.{used}
use Rattle.cs_classes.specs.Meaning.{objects_of}
use Rattle.cs_model.specs.Obj.{Obj, Context, Ctx, context_in, is_context_at}
use Rattle.cs_model.specs.State.{Kept, object_at}
use Rattle.cs_model.specs.Return.{is_among, sender_birth}
use Rattle.cs_model.specs.Demand.{words_held}
use Rattle.cs_acts.specs.Names.{Store}

-- How many pages a world may use, and the used ones, the most recent first, each with the births of its frames, the last one
-- first. A world without pages tells no layout.
pub record Layout : Type 0 where
  pub most : ℕ
  pub pages : List (List ℕ)

abbrev pub with_pages : List (List ℕ) → Layout → Layout
with_pages pages l = record l { pages = pages }

-- ---- words

abbrev pub depth_if : Option Context → ℕ
depth_if None = 0
depth_if (Some c) = length c.stack

-- a frame counts 10 words, and one for each value of its context's stack
abbrev pub frame_words : Kept → ℕ → ℕ
frame_words k i = 10 + depth_if (context_in (object_at k i))

unfoldable pub page_words : Kept → List ℕ → ℕ
page_words k [] = 0
page_words k (i ∷ is) = page_words k is + frame_words k i

-- a frame is made where so many words are free on its page: its 10, and 56 values
abbrev pub new_frame_words : ℕ
new_frame_words = 66

-- ---- frames

abbrev pub is_on : ℕ → List ℕ → Bool
is_on i page = list_any (λ j. i == j) page

abbrev pub is_frame : ℕ → List (List ℕ) → Bool
is_frame i pages = list_any (λ page. is_on i page) pages

abbrev pub first_page : List (List ℕ) → List ℕ
first_page [] = []
first_page (page ∷ pages) = page

abbrev pub last_frame : List ℕ → Option ℕ
last_frame [] = None
last_frame (i ∷ is) = Some i

-- each frame but the base frame has the one below it as its sender
abbrev pub IsCalled : Kept → List ℕ → Type 0
IsCalled k [] = Unit {0}
IsCalled k (i ∷ []) = Unit {0}
IsCalled k (i ∷ j ∷ is) = (sender_birth k i ≡ Some j) × IsCalled k (j ∷ is)

-- no context stands there twice
abbrev pub IsApart : List ℕ → Type 0
IsApart [] = Unit {0}
IsApart (i ∷ is) = (is_on i is ≡ false) × IsApart is

-- No page is without a frame, each frame is a context of the state, and the frames of a page have at most its 4,096 words.
pub record IsPage (k : Kept) (page : List ℕ) : Type 0 where
  pub some : 0 < length page
  pub contexts : AllByRecursion (λ i. is_context_at (object_at k i) ≡ true) page
  pub words : page_words k page ≤ 4096
  pub called : IsCalled k page

-- The pages are no more than there may be; no context has two frames; an active context is the last frame of the first page; and each
-- context of the state is an object of the heap or a frame.
pub record IsLaid (s : Store) (k : Kept) (l : Layout) : Type 0 where
  pub few : length l.pages ≤ l.most
  pub pages : AllByRecursion (IsPage k) l.pages
  pub apart : IsApart (concat l.pages)
  pub active : (i : ℕ) → k.rest.active ≡ Some i → last_frame (first_page l.pages) ≡ Some i
  pub whole : (i : ℕ) (c : Context) → object_at k i ≡ Some (Ctx c) → (is_some (get (objects_of s.memory.objects) i) || is_frame i l.pages) ≡ true

-- without pages all of the state stands in the heap, and takes the heap's words
pub record IsPlain (s : Store) (k : Kept) : Type 0 where
  pub objects : (i : ℕ) (o : Obj) → object_at k i ≡ Some o → get (objects_of s.memory.objects) i ≡ Some o
  pub words : words_held k ≡ used s.memory.objects

abbrev pub IsLaidOut : Store → Kept → Option Layout → Type 0
IsLaidOut s k None = IsPlain s k
IsLaidOut s k (Some l) = IsLaid s k l

-- ---- entering, leaving, and cutting the chain of senders

-- A new context stands above the active one where its frame fits there, else alone on a page that is taken.
abbrev pub entered : Kept → ℕ → List (List ℕ) → List (List ℕ)
entered k i [] = (i ∷ []) ∷ []
entered k i (page ∷ pages) = if nat_le (page_words k page + new_frame_words) 4096 then (i ∷ page) ∷ pages else (i ∷ []) ∷ page ∷ pages

-- The page of a frame is the most recent one; what is no frame stands alone on a page. A frame that becomes active is the last one of its
-- page: while nothing writes senders the frames of all pages are one chain.
abbrev pub touched : ℕ → List (List ℕ) → List (List ℕ)
touched i pages = if is_frame i pages then filter (is_on i) pages ++ filter (λ page. not (is_on i page)) pages else (i ∷ []) ∷ pages

-- the active frame is gone, and so is its page where it had no other one; then its sender is active
abbrev pub left : ℕ → List (List ℕ) → List (List ℕ)
left target [] = touched target []
left target ([] ∷ pages) = touched target pages
left target ((i ∷ []) ∷ pages) = touched target pages
left target ((i ∷ j ∷ is) ∷ pages) = (j ∷ is) ∷ pages

-- What is left of a page where these contexts die: the frames below those that do. Where one dies below a frame that stays, the page is
-- given up.
abbrev pub none_dies : List ℕ → List ℕ → Bool
none_dies dying page = not (list_any (λ i. is_among i dying) page)

unfoldable pub left_of : List ℕ → List ℕ → List ℕ
left_of dying [] = []
left_of dying (i ∷ is) = if is_among i dying then left_of dying is else (if none_dies dying is then i ∷ is else [])

abbrev pub has_frame : List ℕ → Bool
has_frame [] = false
has_frame (i ∷ is) = true

-- these contexts have died, and then the target is active
abbrev pub cut : List ℕ → ℕ → List (List ℕ) → List (List ℕ)
cut dying target pages = touched target (filter has_frame (map (left_of dying) pages))

-- the layout behind a call, where the world tells one
abbrev pub LaidBy : (List (List ℕ) → List (List ℕ)) → Option Layout → Option Layout → Type 0
LaidBy f None new = new ≡ None
LaidBy f (Some l) new = new ≡ Some (with_pages (f l.pages) l)

-- at the beginning of a run no context but the active one has a frame
abbrev pub IsFresh : Kept → Option Layout → Type 0
IsFresh k None = Unit {0}
IsFresh k (Some l) = (birth : ℕ) → is_frame birth l.pages ≡ true → k.rest.active ≡ Some birth
