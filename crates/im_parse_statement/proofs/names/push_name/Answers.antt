use Rattle.std.proofs.Common.{◌++◌, sym, ap}
use Rattle.im_parse_statement.proofs.names.push_name.Goals as goal

pub returns-in-None : goal.returns-in-None
returns-in-None c = sym (ap (λ z. z ++ c.args.names.now) c.in-None.ensures)

pub returns-in-Some-find_name : goal.returns-in-Some-find_name
returns-in-Some-find_name c = rw (c.in-Some.ensures, sym c.in-Some-find_name.ensures) c.push.ensures.pushed
