-- Walks of a graph, given by the nodes that each node leads to, and the greatest cost of those that begin at a node.
use Rattle.std.specs.Prelude.{◌≡◌, ℕ, ◌+◌, ◌≤◌, ◌⊎◌, List, [], ◌∷◌, length}
use Rattle.std.specs.List.{Contains}

-- n and then these nodes: each is one that the node before it leads to
abbrev pub IsWalk : (ℕ → List ℕ) → ℕ → List ℕ → Type 0
IsWalk next n [] = Unit {0}
IsWalk next n (s ∷ ss) = Contains (next n) s × IsWalk next s ss

-- what the nodes of a walk cost together
abbrev pub cost : (ℕ → ℕ) → ℕ → List ℕ → ℕ
cost weight n [] = weight n
cost weight n (s ∷ ss) = weight n + cost weight s ss

-- h is the greatest cost of a walk from n: one costs it, and none more
pub record IsHeight (next : ℕ → List ℕ) (weight : ℕ → ℕ) (n h : ℕ) : Type 0 where
  pub walk : List ℕ
  pub along : IsWalk next n walk
  pub costs : cost weight n walk ≡ h
  pub most : (ss : List ℕ) → IsWalk next n ss → cost weight n ss ≤ h

-- each walk from n goes on by at most b nodes
abbrev pub IsShort : (ℕ → List ℕ) → ℕ → ℕ → Type 0
IsShort next n b = (ss : List ℕ) → IsWalk next n ss → length ss ≤ b

-- walks from n have no greatest length
abbrev pub IsEndless : (ℕ → List ℕ) → ℕ → Type 0
IsEndless next n = (b : ℕ) → IsShort next n b → ⊥

-- h is the greatest cost of a walk that begins at one of these nodes
pub record IsGreatest (next : ℕ → List ℕ) (weight : ℕ → ℕ) (starts : List ℕ) (h : ℕ) : Type 0 where
  pub least : (n : ℕ) → Contains starts n → (ss : List ℕ) → IsWalk next n ss → cost weight n ss ≤ h
  pub met : (h ≡ 0) ⊎ ((n : ℕ) × Contains starts n × IsHeight next weight n h)
