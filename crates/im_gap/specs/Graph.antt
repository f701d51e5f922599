-- What a graph's table says: the nodes that a node leads to, and what it costs. A number that is no node's leads nowhere and costs nothing.
use Rattle.std.specs.Prelude.{ℕ, ◌^◌, ◌<◌, ◌≤◌, cond, List, [], Option, Some, None, length, slice_get, slice_index, slice_range}
use Rattle.std.specs.List.{Contains}
use Rattle.im_gap.specs.declared.graph.Node.{Node}
use Rattle.im_gap.specs.declared.graph.Graph.{Graph}

abbrev pub targets_of : List ℕ → Option Node → List ℕ
targets_of targets None = []
targets_of targets (Some node) = slice_range targets node.first node.end

abbrev pub node_weight : Option Node → ℕ
node_weight None = 0
node_weight (Some node) = cond node.counts 1 0

-- the nodes that node v leads to
abbrev pub successors_of : Graph → ℕ → List ℕ
successors_of graph v = targets_of graph.targets.items (slice_get graph.nodes.items v)

-- what node v costs
abbrev pub weight_of : Graph → ℕ → ℕ
weight_of graph v = node_weight (slice_get graph.nodes.items v)

-- how many nodes there are
abbrev pub size_of : Graph → ℕ
size_of graph = length graph.nodes.items

abbrev pub HasRange : List ℕ → Option Node → Type 0
HasRange targets None = Unit {0}
HasRange targets (Some node) = (node.first ≤ node.end) × (node.end ≤ length targets)

-- each node's targets are a range of the table, and nodes
pub record IsGraph (graph : Graph) : Type 0 where
  pub ranges : (v : ℕ) → HasRange graph.targets.items (slice_get graph.nodes.items v)
  pub inside : (v s : ℕ) → Contains (successors_of graph v) s → s < size_of graph
  pub few : size_of graph < 2 ^ 30

-- each of these is below the number of nodes
abbrev pub AreNodes : List ℕ → ℕ → Type 0
AreNodes nodes size = (k : ℕ) → k < length nodes → slice_index nodes k < size
