use Rattle.std.proofs.Common.{map}
use Rattle.std.proofs.lemmas.Result.{err_from_is_err_and}
use Rattle.im_tok.specs.declared.punctuator.Punctuator.TheVariants.{CloseParen}
use Rattle.im_word.specs.Shown.{shown}
use Rattle.im_parse_expression.specs.Parsing.{Below}
use Rattle.im_parse_expression.proofs.Exits.{stopped}
use Rattle.im_parse_statement.proofs.Closing.{misses_open, in_parens, refuses_closing, closing_next, misses_closing, reads_closing, paren_ends}
use Rattle.im_parse_statement.proofs.closed.condition.Goals as goal

pub returns-in_err-inside : goal.returns-in_err-inside
returns-in_err-inside c = let p = err_from_is_err_and c.from_residual.result c.from_residual.ensures.1 in rw (p.1, p.2, c.in_err-inside.ensures.0) (misses_open (map shown c.args.words.now) c.args.names.now c.in_err-inside.ensures.1)

pub returns-in_err-tree : goal.returns-in_err-tree
returns-in_err-tree c = let p = err_from_is_err_and c.from_residual-in_err-tree.result c.from_residual-in_err-tree.ensures.1 in rw (p.1, p.2) (stopped (map shown c.args.words.now) (λ n h. refuses_closing CloseParen (λ e. e) (Below 1) paren_ends (in_parens (map shown c.args.words.now) c.in_ok-inside.ensures) h) _ c.in_err-tree.ensures)

pub returns-in_err-end : goal.returns-in_err-end
returns-in_err-end c = let p = err_from_is_err_and c.from_residual-in_err-end.result c.from_residual-in_err-end.ensures.1 in rw (p.1, p.2, c.in_err-end.ensures.0) (misses_closing (closing_next CloseParen (λ e. e) (Below 1) paren_ends (in_parens (map shown c.args.words.now) c.in_ok-inside.ensures) c.in_ok-tree.ensures) c.in_err-end.ensures.1)

pub returns : goal.returns
returns c = reads_closing (closing_next CloseParen (λ e. e) (Below 1) paren_ends (in_parens (map shown c.args.words.now) c.in_ok-inside.ensures) c.in_ok-tree.ensures) c.in_ok-end.ensures
