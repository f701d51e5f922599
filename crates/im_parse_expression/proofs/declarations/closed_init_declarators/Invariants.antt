use Rattle.std.proofs.Common.{◌≤◌, ◌-◌, length, map, ℕ}
use Rattle.im_word.specs.Shown.{shown}
use Rattle.im_ctree.specs.Units.{IsInitDeclarators}
use Rattle.im_parse_expression.specs.Initializing.{init_declarator_tree}
use Rattle.im_parse_expression.proofs.DeclarationLines.{InInits}
use Rattle.im_parse_expression.proofs.declarations.closed_init_declarators.Given as goal

abbrev pub invariant-loop-behind : goal.invariant-loop-behind
invariant-loop-behind l = InInits (IsInitDeclarators (l.names)) (l.names) (map shown l.words) l.at (map init_declarator_tree l.items.items) l.next × (l.at ≤ l.next)

abbrev pub decreases-loop-behind : goal.decreases-loop-behind
decreases-loop-behind l = length (map shown l.words) - l.next
