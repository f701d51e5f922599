use Rattle.std.proofs.lemmas.Result.{err_from_is_err_and}
use Rattle.im_parse_statement.proofs.names.declared.Goals as goal

pub returns-in_err-remember-clause-parses : goal.returns-in_err-remember-clause-parses
returns-in_err-remember-clause-parses c = let p = err_from_is_err_and c.from_residual-in_err-remember.result c.from_residual-in_err-remember.ensures.1 in rw (p.1, p.2, c.in_err-remember.ensures) tt
