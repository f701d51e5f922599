-- For private contracts: the flow as a graph of one node for each word and, behind them, one for all returns.
use Rattle.std.specs.Prelude.{◌≡◌, ◌≢◌, ℕ, suc, zero, ◌+◌, ◌-◌, ◌/◌, ◌%◌, ◌<◌, ◌≤◌, true, cond, ◌&&◌, ◌==◌, nat_le, nat_lt, List, [], ◌∷◌, ◌++◌, Option, Some, None, length, slice_get, slice_range}
use Rattle.std.specs.List.{Contains}
use Rattle.std.specs.Option.{option_to_list}
use Rattle.im_gap.specs.declared.graph.Node.{Node}
use Rattle.im_gap.specs.declared.graph.Graph.{Graph}
use Rattle.im_gap.specs.Graph.{successors_of, weight_of, HasRange}
use Rattle.im_rv.specs.Steps.{sum_of}
use Rattle.im_rv.specs.Code.{address, instruction_at}
use Rattle.im_gap.specs.declared.flow.Turn.{Turn}
use Rattle.im_gap.specs.declared.flow.Turn.TheVariants.{Passes, Jumps, Branches, Returns, Stops}
use Rattle.im_gap.specs.Flow.{turn_of, imm_of, links, Flow, IsBehind}

-- the graph has the edges of the flow, but that a return leads to the last node, and that to the words after calls
pub record Depicts (words : List ℕ) (next : ℕ → List ℕ) (weight : ℕ → ℕ) : Type 0 where
  pub plain : (i s : ℕ) → i < length words → turn_of (instruction_at words i) ≢ Returns → Contains (next i) s → Flow words i s
  pub plain_back : (i s : ℕ) → i < length words → turn_of (instruction_at words i) ≢ Returns → Flow words i s → Contains (next i) s
  pub returns : (i s : ℕ) → i < length words → turn_of (instruction_at words i) ≡ Returns → Contains (next i) s → s ≡ length words
  pub returns_back : (i : ℕ) → i < length words → turn_of (instruction_at words i) ≡ Returns → Contains (next i) (length words)
  pub shared : (s : ℕ) → Contains (next (length words)) s → (s < length words) × IsBehind words 1 s
  pub shared_back : (s c : ℕ) → s < length words → links 1 (instruction_at words c) ≡ true → s ≡ suc c → Contains (next (length words)) s
  pub one : (i : ℕ) → i < length words → weight i ≡ 1
  pub free : weight (length words) ≡ 0

-- the word at an address, if one of n stands there
abbrev pub index_of : ℕ → ℕ → Option ℕ
index_of n a = cond (nat_le 4096 a && (a - 4096) % 4 == 0 && nat_lt ((a - 4096) / 4) n) (Some ((a - 4096) / 4)) None

abbrev pub following : ℕ → ℕ → List ℕ
following n i = cond (nat_lt (i + 1) n) ((i + 1) ∷ []) []

abbrev pub successors_by : ℕ → ℕ → ℕ → Turn → List ℕ
successors_by n i imm Passes = following n i
successors_by n i imm Jumps = option_to_list (index_of n (sum_of (address i) imm))
successors_by n i imm Branches = following n i ++ option_to_list (index_of n (sum_of (address i) imm))
successors_by n i imm Returns = n ∷ []
successors_by n i imm Stops = []

-- the nodes that the node of word i leads to
abbrev pub successors_at : List ℕ → ℕ → List ℕ
successors_at words i = successors_by (length words) i (imm_of (instruction_at words i)) (turn_of (instruction_at words i))

-- the words directly behind one of the first k that is a jal which links r
abbrev pub behind : ℕ → List ℕ → ℕ → List ℕ
behind r words zero = []
behind r words (suc k) = behind r words k ++ cond (links r (instruction_at words k)) (following (length words) k) []

pub record Drawn (words : List ℕ) (i : ℕ) (nodes : List Node) (targets : List ℕ) : Type 0 where
  pub count : length nodes ≡ i
  pub drawn : (k : ℕ) → k < i → (node : Node) × (slice_get nodes k ≡ Some node) × (node.first ≤ node.end) × (node.end ≤ length targets) × (slice_range targets node.first node.end ≡ successors_at words k) × (node.counts ≡ true)

-- the whole table: a node for each word, and behind them that of the returns
pub record Whole (words : List ℕ) (graph : Graph) : Type 0 where
  pub count : length graph.nodes.items ≡ length words + 1
  pub each : (k : ℕ) → k < length words → successors_of graph k ≡ successors_at words k
  pub last : successors_of graph (length words) ≡ behind 1 words (length words)
  pub one : (k : ℕ) → k < length words → weight_of graph k ≡ 1
  pub free : weight_of graph (length words) ≡ 0
  pub ranges : (v : ℕ) → HasRange graph.targets.items (slice_get graph.nodes.items v)

-- the resume words, the entry first
abbrev pub resume_words : List ℕ → ℕ → List ℕ
resume_words words entry = option_to_list (index_of (length words) entry) ++ behind 3 words (length words)
