use Rattle.std.proofs.Common.{map}
use Rattle.std.proofs.lemmas.Result.{err_from_is_err_and}
use Rattle.im_word.specs.Shown.{shown}
use Rattle.im_ctree.specs.Shape.{specifiers_of}
use Rattle.im_parse_core.proofs.Steps.{last, last_refused}
use Rattle.im_parse_expression.proofs.Exits.{stopped}
use Rattle.im_parse_expression.proofs.DeclaringRows.{inits_before}
use Rattle.im_parse.proofs.ExternalLines.{external_start, refuses_specifiers, in_rest, reads_nothing, in_named, refuses_declarator, in_declarator, in_body, in_inits, none_behind}
use Rattle.im_parse.proofs.externals.external.Goals as goal

pub returns-in_err-specifiers-clause-parses : goal.returns-in_err-specifiers-clause-parses
returns-in_err-specifiers-clause-parses c = let p = err_from_is_err_and c.from_residual.result c.from_residual.ensures.1 in rw (p.1, p.2) (stopped (map shown c.args.words.now) (λ n h. refuses_specifiers (map shown c.args.words.now) (external_start (map shown c.args.words.now) c.args.names.now c.args.at) h) _ c.in_err-specifiers.ensures.parses)

pub returns-in-Some-clause-parses : goal.returns-in-Some-clause-parses
returns-in-Some-clause-parses c = rw c.new-declarators.ensures.items (reads_nothing (map shown c.args.words.now) (in_rest (map shown c.args.words.now) (external_start (map shown c.args.words.now) c.args.names.now c.args.at) c.in_ok-specifiers.ensures.parses) c.in-Some.ensures)

pub returns-in-Some-clause-known : goal.returns-in-Some-clause-known
returns-in-Some-clause-known c = rw c.new-declarators.ensures.items (none_behind c.args.names.now (specifiers_of c.in_ok-specifiers.specifiers))

pub returns-in_err-declarator-clause-parses : goal.returns-in_err-declarator-clause-parses
returns-in_err-declarator-clause-parses c = let p = err_from_is_err_and c.from_residual-in_err-declarator.result c.from_residual-in_err-declarator.ensures.1 in rw (p.1, p.2) (stopped (map shown c.args.words.now) (λ n h. refuses_declarator (map shown c.args.words.now) (in_named (map shown c.args.words.now) c.in_ok-specifiers.ensures.behind c.in_default.ensures (in_rest (map shown c.args.words.now) (external_start (map shown c.args.words.now) c.args.names.now c.args.at) c.in_ok-specifiers.ensures.parses)) h) _ c.in_err-declarator.ensures)

pub returns-in_err-body-clause-parses : goal.returns-in_err-body-clause-parses
returns-in_err-body-clause-parses c = let p = err_from_is_err_and c.from_residual-in_err-body.result c.from_residual-in_err-body.ensures.1 in rw (p.1, p.2) (stopped (map shown c.args.words.now) (λ n h. last_refused h (in_body (map shown c.args.words.now) c.in-Some-after_mark.ensures (in_declarator (map shown c.args.words.now) (in_named (map shown c.args.words.now) c.in_ok-specifiers.ensures.behind c.in_default.ensures (in_rest (map shown c.args.words.now) (external_start (map shown c.args.words.now) c.args.names.now c.args.at) c.in_ok-specifiers.ensures.parses)) c.in_ok-declarator.ensures))) _ c.in_err-body.ensures.parses)

pub returns-in-Some-after_mark-clause-parses : goal.returns-in-Some-after_mark-clause-parses
returns-in-Some-after_mark-clause-parses c = last c.in_ok-body.ensures.parses (in_body (map shown c.args.words.now) c.in-Some-after_mark.ensures (in_declarator (map shown c.args.words.now) (in_named (map shown c.args.words.now) c.in_ok-specifiers.ensures.behind c.in_default.ensures (in_rest (map shown c.args.words.now) (external_start (map shown c.args.words.now) c.args.names.now c.args.at) c.in_ok-specifiers.ensures.parses)) c.in_ok-declarator.ensures))

pub returns-in_err-declarators-clause-parses : goal.returns-in_err-declarators-clause-parses
returns-in_err-declarators-clause-parses c = let p = err_from_is_err_and c.from_residual-in_err-declarators.result c.from_residual-in_err-declarators.ensures.1 in rw (p.1, p.2) (stopped (map shown c.args.words.now) (λ n h. last_refused h (in_inits (map shown c.args.words.now) c.in_default-after_mark.ensures (in_declarator (map shown c.args.words.now) (in_named (map shown c.args.words.now) c.in_ok-specifiers.ensures.behind c.in_default.ensures (in_rest (map shown c.args.words.now) (external_start (map shown c.args.words.now) c.args.names.now c.args.at) c.in_ok-specifiers.ensures.parses)) c.in_ok-declarator.ensures))) _ c.in_err-declarators.ensures)

pub returns-clause-parses : goal.returns-clause-parses
returns-clause-parses c = rw inits_before (last c.in_ok-declarators.ensures (in_inits (map shown c.args.words.now) c.in_default-after_mark.ensures (in_declarator (map shown c.args.words.now) (in_named (map shown c.args.words.now) c.in_ok-specifiers.ensures.behind c.in_default.ensures (in_rest (map shown c.args.words.now) (external_start (map shown c.args.words.now) c.args.names.now c.args.at) c.in_ok-specifiers.ensures.parses)) c.in_ok-declarator.ensures)))

pub returns-in_err-remember-clause-parses : goal.returns-in_err-remember-clause-parses
returns-in_err-remember-clause-parses c = let p = err_from_is_err_and c.from_residual-in_err-remember.result c.from_residual-in_err-remember.ensures.1 in rw (p.1, p.2, c.in_err-remember.ensures) tt
