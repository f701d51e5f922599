use Rattle.std.proofs.Common.{map, refl}
use Rattle.std.proofs.lemmas.Result.{err_from_is_err_and}
use Rattle.im_tok.specs.declared.punctuator.Punctuator.TheVariants.{Semicolon}
use Rattle.im_word.specs.Shown.{shown}
use Rattle.im_ctree.specs.Tree as tree
use Rattle.im_parse_expression.specs.Parsing.{Below}
use Rattle.im_parse_expression.proofs.Exits.{stopped}
use Rattle.im_parse_statement.proofs.Closing.{reads_nothing, something_next, refuses_closing, closing_next, misses_closing, reads_closing, semicolon_ends}
use Rattle.im_parse_statement.proofs.closed.before_semicolon.Goals as goal

pub returns-in-Some : goal.returns-in-Some
returns-in-Some c = reads_nothing (map shown c.args.words.now) c.args.names.now Semicolon refl c.in-Some.ensures

pub returns-in_err-tree : goal.returns-in_err-tree
returns-in_err-tree c = let p = err_from_is_err_and c.from_residual.result c.from_residual.ensures.1 in rw (p.1, p.2) (stopped (map shown c.args.words.now) (λ n h. refuses_closing Semicolon tree.an_expression (Below 1) semicolon_ends (something_next (map shown c.args.words.now) c.args.names.now Semicolon c.in_default.ensures) h) _ c.in_err-tree.ensures)

pub returns-in_err-end : goal.returns-in_err-end
returns-in_err-end c = let p = err_from_is_err_and c.from_residual-in_err-end.result c.from_residual-in_err-end.ensures.1 in rw (p.1, p.2, c.in_err-end.ensures.0) (misses_closing (closing_next Semicolon tree.an_expression (Below 1) semicolon_ends (something_next (map shown c.args.words.now) c.args.names.now Semicolon c.in_default.ensures) c.in_ok-tree.ensures) c.in_err-end.ensures.1)

pub returns : goal.returns
returns c = reads_closing (closing_next Semicolon tree.an_expression (Below 1) semicolon_ends (something_next (map shown c.args.words.now) c.args.names.now Semicolon c.in_default.ensures) c.in_ok-tree.ensures) c.in_ok-end.ensures
