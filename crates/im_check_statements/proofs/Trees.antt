-- An `if`, by its parts.
use Rattle.std.proofs.Common.{◌≡◌, ℕ, Option, Some, None, refl, Box, Global}
use Rattle.im_ctree.specs.declared.expression.Expression.{Expression}
use Rattle.im_ctree.specs.declared.statement.Statement.{Statement}
use Rattle.im_ctree.specs.declared.statement.StatementKind as sk
use Rattle.im_ctree.specs.Tree as t
use Rattle.im_ctree.specs.Shape.{statement_of}
use Rattle.im_ctree_parts.specs.Lists.{expression_in, statement_in}

-- a second branch, as it stands behind an `if`
abbrev pub held_tree : Option (Box Statement Global) → t.MaybeStatement
held_tree None = t.no_statement
held_tree (Some s) = t.a_statement (statement_in s.value)

pub if_tree : (at : ℕ) (e : Expression) (s : Box Statement Global) (o : Option (Box Statement Global)) → statement_of at (sk.If e s o) ≡ t.if_statement at (expression_in e) (statement_in s.value) (held_tree o)
if_tree at e s None = refl
if_tree at e s (Some b) = refl
