-- What follows of these definitions.
use Rattle.std.specs.Prelude.{ℕ}
use Rattle.im_block.specs.declared.unit.Unit.{Unit as Code}
use Rattle.im_block.specs.Sections.{Has}
use Rattle.im_block_laws.specs.PointsTo.{Points, IsClosed}
use Rattle.im_alias.specs.Least.{Node, set_of, Derived}

-- what is derived is in each closed assignment
abbrev pub LeastLaw : Type 0
LeastLaw = (u : Code) (points : Points) → IsClosed points u → (node : Node) (n : ℕ) → Derived u node n → Has (set_of points node) n
