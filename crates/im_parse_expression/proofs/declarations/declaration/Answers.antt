use Rattle.std.proofs.Common.{[], arith, map}
use Rattle.std.proofs.lemmas.Result.{err_from_is_err_and}
use Rattle.im_word.specs.Shown.{shown}
use Rattle.im_ctree.specs.Shape.{initializer_of}
use Rattle.im_parse_core.proofs.Steps.{last, last_refused}
use Rattle.im_parse_expression.proofs.Exits.{stopped}
use Rattle.im_parse_expression.proofs.DeclaringRows.{inits_before}
use Rattle.im_parse_expression.proofs.DeclarationLines.{declaration_start, declared_inits, refuses_declaration, reads_nothing}
use Rattle.im_parse_expression.proofs.declarations.declaration.Goals as goal

pub returns-in_err-specifiers : goal.returns-in_err-specifiers
returns-in_err-specifiers c = let p = err_from_is_err_and c.from_residual.result c.from_residual.ensures.1 in rw (p.1, p.2) (stopped (map shown c.args.words.now) (λ n h. refuses_declaration (map shown c.args.words.now) (declaration_start (map shown c.args.words.now) (c.args.names.now) c.args.at) h) _ c.in_err-specifiers.ensures.parses)

pub returns-in-Some : goal.returns-in-Some
returns-in-Some c = rw c.new-declarators.ensures.items (reads_nothing (map shown c.args.words.now) (declaration_start (map shown c.args.words.now) (c.args.names.now) c.args.at) c.in_ok-specifiers.ensures.parses c.in-Some.ensures)

pub returns-in_err-declarators : goal.returns-in_err-declarators
returns-in_err-declarators c = let p = err_from_is_err_and c.from_residual-in_err-declarators.result c.from_residual-in_err-declarators.ensures.1 in rw (p.1, p.2) (stopped (map shown c.args.words.now) (λ n h. last_refused h (declared_inits (map shown c.args.words.now) (declaration_start (map shown c.args.words.now) (c.args.names.now) c.args.at) c.in_ok-specifiers.ensures.parses c.in_ok-specifiers.ensures.behind c.in_default.ensures)) _ c.in_err-declarators.ensures)

pub returns : goal.returns
returns c = rw inits_before (last c.in_ok-declarators.ensures (declared_inits (map shown c.args.words.now) (declaration_start (map shown c.args.words.now) (c.args.names.now) c.args.at) c.in_ok-specifiers.ensures.parses c.in_ok-specifiers.ensures.behind c.in_default.ensures))
