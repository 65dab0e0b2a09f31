-- The lists of processes that are ready, as the code keeps them.
use Rattle.std.specs.Prelude.{◌≡◌, ℕ, ◌==◌, ◌&&◌, Bool, false, List, [], ◌∷◌, reverse, filter, Option, Some, None, option_map, option_and_then, if◌then◌else◌}
use Rattle.std.specs.Str.{bytes_eq}
use Rattle.std.specs.Borrow.{Bor}
use Rattle.indexmap.specs.IndexMap.{IndexMap}
use Rattle.indexmap.specs.IndexSet.{IndexSet, contains_by}
use Rattle.cs_model.specs.BuilderText as text
use Rattle.cs_model.specs.Builder.{ready_behind, natural, ready_in}
use Rattle.cs_model.specs.Text.{first_that}
use Rattle.cs_build.specs.declared.ready.Queue.{Queue}
use Rattle.cs_build.specs.Numbered.{name_number}

-- what stands behind a process
abbrev pub link_at : {S : Type 0} → IndexMap (Bor (List ℕ)) (Option (Bor (List ℕ))) S → List ℕ → Option (List ℕ)
link_at links q = option_and_then (λ o. option_map (λ n. n.now) o) (name_number links q)

-- what stands behind a process, once one is put behind the last
abbrev pub linked_behind : Option (List ℕ) → List ℕ → List ℕ → Option (List ℕ) → Option (List ℕ)
linked_behind None name q old = if bytes_eq name q then None else old
linked_behind (Some last) name q old = if bytes_eq last q then Some name else if bytes_eq name q then None else old

-- the list of these processes, the last one first
pub record IsQueue (q : Queue) (names : List (List ℕ)) : Type 0 where
  pub first : option_map (λ n. n.now) q.first ≡ first_that (reverse names)
  pub last : option_map (λ n. n.now) q.last ≡ first_that names
  pub links : (name : List ℕ) → link_at q.links name ≡ ready_behind name names

-- whether there is a process of a priority and a name
abbrev pub has_in : {S : Type 0} → IndexSet (ℕ × Bor (List ℕ)) S → ℕ → List ℕ → Bool
has_in set priority name = contains_by (λ k. priority == k.0 && bytes_eq name k.1.now) set

abbrev pub is_process_at : ℕ → List ℕ → text.Form → Bool
is_process_at priority name (text.Process line) = bytes_eq line.name name && natural line.priority == priority
is_process_at priority name form = false

-- the process that a line makes ready, if it passes
abbrev pub ready_at : (List ℕ → Bool) → text.Form → List (List ℕ)
ready_at passes form = filter passes (ready_in (form ∷ []))

-- the processes that pass and are made ready, the last one first
abbrev pub ready_lists : (List ℕ → Bool) → List text.Form → List (List ℕ)
ready_lists passes forms = reverse (filter passes (ready_in forms))
