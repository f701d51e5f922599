-- For the private contracts of the search: what it has found so far, by marks and cursors.
use Rattle.std.specs.Prelude.{◌≡◌, ◌≢◌, ℕ, suc, ◌+◌, ◌-◌, ◌*◌, ◌<◌, ◌≤◌, ◌⊎◌, List, length, slice_index, slice_index_or}
use Rattle.std.specs.List.{Contains, sum_by}
use Rattle.im_gap.specs.declared.graph.Graph.{Graph}
use Rattle.im_gap.specs.declared.marks.Mark.{Mark}
use Rattle.im_gap.specs.declared.marks.Mark.TheVariants.{Unseen, Open, Done}
use Rattle.im_gap.specs.Walks.{IsHeight}
use Rattle.im_gap.specs.Graph.{successors_of, weight_of, size_of}

abbrev pub mark_at : List Mark → ℕ → Mark
mark_at marks v = slice_index_or marks v Unseen

-- how many changes of a mark are left
abbrev pub changes_left_of : Mark → ℕ
changes_left_of Unseen = 2
changes_left_of Open = 1
changes_left_of (Done h) = 0

abbrev pub changes_left : List Mark → ℕ
changes_left marks = sum_by changes_left_of marks

abbrev pub IsDone : Mark → Type 0
IsDone Unseen = ⊥
IsDone Open = ⊥
IsDone (Done h) = Unit {0}

-- The marks of the nodes in the midst of a search whose path so far is the stack, the first node first.
pub record SearchState (next : ℕ → List ℕ) (weight : ℕ → ℕ) (n : ℕ) (marks : List Mark) (stack : List ℕ) : Type 0 where
  pub size : length marks ≡ n
  pub open_on : (v : ℕ) → mark_at marks v ≡ Open → (j : ℕ) × (j < length stack) × (slice_index stack j ≡ v)
  pub on_open : (j : ℕ) → j < length stack → mark_at marks (slice_index stack j) ≡ Open
  pub apart : (j k : ℕ) → j < k → k < length stack → slice_index stack j ≢ slice_index stack k
  pub chain : (j : ℕ) → suc j < length stack → Contains (next (slice_index stack j)) (slice_index stack (suc j))
  pub done : (v h : ℕ) → mark_at marks v ≡ Done h → IsHeight next weight v h
  pub small : (v h : ℕ) → mark_at marks v ≡ Done h → h + changes_left marks ≤ 2 * n
  pub few_left : changes_left marks ≤ 2 * n

-- the same in a search from a root: the path begins there, or is empty and the root is done
pub record VisitState (next : ℕ → List ℕ) (weight : ℕ → ℕ) (n root : ℕ) (marks : List Mark) (stack : List ℕ) : Type 0 where
  pub searched : SearchState next weight n marks stack
  pub from : ((0 < length stack) × (slice_index stack 0 ≡ root)) ⊎ ((length stack ≡ 0) × IsDone (mark_at marks root))

-- The cursor of a node is a place among its successors; those before it are done.
pub record CursorState (next : ℕ → List ℕ) (n : ℕ) (marks : List Mark) (cursors : List ℕ) : Type 0 where
  pub size : length cursors ≡ n
  pub within : (v : ℕ) → slice_index cursors v ≤ length (next v)
  pub before : (v k : ℕ) → k < slice_index cursors v → IsDone (mark_at marks (slice_index (next v) k))

-- the same of a graph
abbrev pub IsSearchOf : Graph → List Mark → List ℕ → Type 0
IsSearchOf graph marks path = SearchState (successors_of graph) (weight_of graph) (size_of graph) marks path

abbrev pub AreCursorsOf : Graph → List Mark → List ℕ → Type 0
AreCursorsOf graph marks cursors = CursorState (successors_of graph) (size_of graph) marks cursors

-- the first k of these nodes are done
abbrev pub AreDone : List Mark → List ℕ → ℕ → Type 0
AreDone marks nodes k = (j : ℕ) → j < k → IsDone (mark_at marks (slice_index nodes j))

-- what is done stays done
abbrev pub KeepsDone : List Mark → List Mark → Type 0
KeepsDone old new = (u : ℕ) → IsDone (mark_at old u) → IsDone (mark_at new u)

-- the path is empty, or its last node leads to v
abbrev pub LeadsTo : Graph → List ℕ → ℕ → Type 0
LeadsTo graph path v = (length path ≡ 0) ⊎ Contains (successors_of graph (slice_index path (length path - 1))) v
