-- Which form a statement has: what a function that types one form of them is given.
use Rattle.std.specs.Prelude.{◌≡◌, Option, Box}
use Rattle.std.specs.Global.{Global}
use Rattle.im_ctree.specs.declared.expression.Expression.{Expression}
use Rattle.im_ctree.specs.declared.statement.Block.{Block}
use Rattle.im_ctree.specs.declared.statement.ForInit.{ForInit}
use Rattle.im_ctree.specs.declared.statement.Statement.{Statement}
use Rattle.im_ctree.specs.declared.statement.StatementKind as k

-- `{ .. }` (C11 6.8.2)
abbrev pub IsBlock : k.StatementKind → Type 0
IsBlock s = (b : Block) × (s ≡ k.Block b)

-- `if` (C11 6.8.4.1)
abbrev pub IsIf : k.StatementKind → Type 0
IsIf s = (e : Expression) × (first : Box Statement Global) × (second : Option (Box Statement Global)) × (s ≡ k.If e first second)

-- `switch` (C11 6.8.4.2)
abbrev pub IsSwitch : k.StatementKind → Type 0
IsSwitch s = (e : Expression) × (b : Block) × (s ≡ k.Switch e b)

-- `while` (C11 6.8.5.1)
abbrev pub IsWhile : k.StatementKind → Type 0
IsWhile s = (e : Expression) × (turn : Box Statement Global) × (s ≡ k.While e turn)

-- `do` (C11 6.8.5.2)
abbrev pub IsDoWhile : k.StatementKind → Type 0
IsDoWhile s = (turn : Box Statement Global) × (e : Expression) × (s ≡ k.DoWhile turn e)

-- `for` (C11 6.8.5.3)
abbrev pub IsFor : k.StatementKind → Type 0
IsFor s = (first : ForInit) × (test : Option Expression) × (step : Option Expression) × (turn : Box Statement Global) × (s ≡ k.For first test step turn)
