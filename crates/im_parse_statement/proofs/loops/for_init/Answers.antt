use Rattle.std.proofs.Common.{map}
use Rattle.std.proofs.lemmas.Result.{err_from_is_err_and}
use Rattle.im_word.specs.Shown.{shown}
use Rattle.im_parse_core.proofs.Steps.{last, last_refused}
use Rattle.im_parse_expression.proofs.Exits.{stopped}
use Rattle.im_parse_expression.proofs.NextWord.{isnt_so}
use Rattle.im_parse_statement.proofs.ItemLines.{init_declared, init_valued}
use Rattle.im_parse_statement.proofs.loops.for_init.Goals as goal

pub returns-in_err-tree-clause-parses : goal.returns-in_err-tree-clause-parses
returns-in_err-tree-clause-parses c = let p = err_from_is_err_and c.from_residual.result c.from_residual.ensures.1 in rw (p.1, p.2) (stopped (map shown c.args.words.now) (λ n h. last_refused h (init_declared (map shown c.args.words.now) c.args.names.now (c.begins_specifiers.ensures.0 c.if-begins_specifiers.true))) _ c.in_err-tree.ensures.parses)

pub returns-then-begins_specifiers-clause-parses : goal.returns-then-begins_specifiers-clause-parses
returns-then-begins_specifiers-clause-parses c = last c.in_ok-tree.ensures.parses (init_declared (map shown c.args.words.now) c.args.names.now (c.begins_specifiers.ensures.0 c.if-begins_specifiers.true))

pub returns-in_err-tree-2-clause-parses : goal.returns-in_err-tree-2-clause-parses
returns-in_err-tree-2-clause-parses c = let p = err_from_is_err_and c.from_residual-in_err-tree-2.result c.from_residual-in_err-tree-2.ensures.1 in rw (p.1, p.2) (stopped (map shown c.args.words.now) (λ n h. last_refused h (init_valued (map shown c.args.words.now) c.args.names.now (isnt_so c.begins_specifiers.ensures c.if-begins_specifiers.false))) _ c.in_err-tree-2.ensures)

pub returns-clause-parses : goal.returns-clause-parses
returns-clause-parses c = last c.in_ok-tree-2.ensures (init_valued (map shown c.args.words.now) c.args.names.now (isnt_so c.begins_specifiers.ensures c.if-begins_specifiers.false))
