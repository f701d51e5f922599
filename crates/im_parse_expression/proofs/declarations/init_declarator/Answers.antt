use Rattle.std.proofs.Common.{[], arith, map}
use Rattle.std.proofs.lemmas.Result.{err_from_is_err_and}
use Rattle.im_word.specs.Shown.{shown}
use Rattle.im_ctree.specs.Shape.{initializer_of}
use Rattle.im_parse_core.proofs.Steps.{last, last_refused}
use Rattle.im_parse_expression.proofs.Exits.{stopped}
use Rattle.im_parse_expression.proofs.DeclarationLines.{pair_start, its_initializer, refuses_its_declarator}
use Rattle.im_parse_expression.proofs.declarations.init_declarator.Goals as goal

pub returns-in_err-declarator : goal.returns-in_err-declarator
returns-in_err-declarator c = let p = err_from_is_err_and c.from_residual.result c.from_residual.ensures.1 in rw (p.1, p.2) (stopped (map shown c.args.words.now) (λ n h. refuses_its_declarator (map shown c.args.words.now) (pair_start (map shown c.args.words.now) (c.args.names.now) c.args.at) h) _ c.in_err-declarator.ensures)

pub returns-in_err-initializer : goal.returns-in_err-initializer
returns-in_err-initializer c = let p = err_from_is_err_and c.from_residual-in_err-initializer.result c.from_residual-in_err-initializer.ensures.1 in rw (p.1, p.2) (stopped (map shown c.args.words.now) (λ n h. last_refused h (its_initializer (map shown c.args.words.now) (pair_start (map shown c.args.words.now) (c.args.names.now) c.args.at) c.in_ok-declarator.ensures)) _ c.in_err-initializer.ensures)

pub returns : goal.returns
returns c = last c.in_ok-initializer.ensures (its_initializer (map shown c.args.words.now) (pair_start (map shown c.args.words.now) (c.args.names.now) c.args.at) c.in_ok-declarator.ensures)
