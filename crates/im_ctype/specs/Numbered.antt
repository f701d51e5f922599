-- The numbers of a table's nodes, by their nodes. Private contracts alone speak of this.
use Rattle.std.specs.Prelude.{◌≡◌, ℕ, List, slice_get, Some, None}
use Rattle.std.specs.HashMap as hash
use Rattle.im_ctype.specs.contracts.node.TypeNodePartialEq.TheImpl as node_eq
use Rattle.im_ctype.specs.declared.node.TypeNode.{TypeNode}

-- a node that has a number stands there, and one that has none stands nowhere
pub record AreNumbered {S : Type 0} (nodes : List TypeNode) (numbers : hash.HashMap TypeNode ℕ S) : Type 0 where
  pub found : (n : TypeNode) (i : ℕ) → hash.get node_eq.eq-value.it numbers n ≡ Some i → slice_get nodes i ≡ Some n
  pub absent : (n : TypeNode) (i : ℕ) → hash.get node_eq.eq-value.it numbers n ≡ None → slice_get nodes i ≡ Some n → ⊥
