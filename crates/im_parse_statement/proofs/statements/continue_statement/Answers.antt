use Rattle.std.proofs.Common.{map}
use Rattle.std.proofs.lemmas.Result.{err_from_is_err_and}
use Rattle.im_word.specs.Shown.{shown}
use Rattle.im_ctree.specs.Tree as tree
use Rattle.im_parse_statement.proofs.Closing.{misses_jump, reads_jump}
use Rattle.im_parse_statement.proofs.statements.continue_statement.Goals as goal

pub returns-in_err-end-clause-parses : goal.returns-in_err-end-clause-parses
returns-in_err-end-clause-parses c = let p = err_from_is_err_and c.from_residual.result c.from_residual.ensures.1 in rw (p.1, p.2, c.in_err-end.ensures.0) (misses_jump (map shown c.args.words.now) (tree.continue_statement c.args.at) c.in_err-end.ensures.1)

pub returns-clause-parses : goal.returns-clause-parses
returns-clause-parses c = reads_jump (map shown c.args.words.now) (tree.continue_statement c.args.at) c.in_ok-end.ensures
