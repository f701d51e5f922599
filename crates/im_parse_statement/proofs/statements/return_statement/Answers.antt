use Rattle.std.proofs.Common.{map}
use Rattle.std.proofs.lemmas.Result.{err_from_is_err_and}
use Rattle.im_word.specs.Shown.{shown}
use Rattle.im_ctree.specs.Tree as tree
use Rattle.im_parse_expression.proofs.Exits.{stopped}
use Rattle.im_parse_statement.proofs.Closing.{refuses_value, reads_value}
use Rattle.im_parse_statement.proofs.statements.return_statement.Goals as goal

pub returns-in_err-tree-clause-parses : goal.returns-in_err-tree-clause-parses
returns-in_err-tree-clause-parses c = let p = err_from_is_err_and c.from_residual.result c.from_residual.ensures.1 in rw (p.1, p.2) (stopped (map shown c.args.words.now) (λ n h. refuses_value (map shown c.args.words.now) c.args.names.now (tree.return_statement c.args.at) h) _ c.in_err-tree.ensures)

pub returns-clause-parses : goal.returns-clause-parses
returns-clause-parses c = reads_value (map shown c.args.words.now) c.args.names.now (tree.return_statement c.args.at) c.in_ok-tree.ensures
