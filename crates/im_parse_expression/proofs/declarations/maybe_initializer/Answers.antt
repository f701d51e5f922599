use Rattle.std.proofs.Common.{[], arith, map}
use Rattle.std.proofs.lemmas.Result.{err_from_is_err_and}
use Rattle.im_word.specs.Shown.{shown}
use Rattle.im_ctree.specs.Shape.{initializer_of}
use Rattle.im_parse_core.proofs.Steps.{last, last_refused}
use Rattle.im_parse_expression.proofs.Exits.{stopped}
use Rattle.im_parse_expression.proofs.DeclarationLines.{init_start, reads_uninitialized}
use Rattle.im_parse_expression.proofs.declarations.maybe_initializer.Goals as goal

pub returns-in-None : goal.returns-in-None
returns-in-None c = reads_uninitialized (map shown c.args.words.now) (c.args.names.now) c.in-None.ensures

pub returns-in_err-value-in-Some : goal.returns-in_err-value-in-Some
returns-in_err-value-in-Some c = let p = err_from_is_err_and c.from_residual.result c.from_residual.ensures.1 in rw (p.1, p.2) (stopped (map shown c.args.words.now) (λ n h. last_refused h (init_start (map shown c.args.words.now) (c.args.names.now) c.in-Some.ensures)) _ c.in_err-value-in-Some.ensures)

pub returns-in_ok-value-in-Some : goal.returns-in_ok-value-in-Some
returns-in_ok-value-in-Some c = last c.in_ok-value-in-Some.ensures (init_start (map shown c.args.words.now) (c.args.names.now) c.in-Some.ensures)
