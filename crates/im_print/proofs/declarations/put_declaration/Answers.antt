use Rattle.im_print.proofs.declarations.put_declaration.Goals as goal

pub returns-clause-written : goal.returns-clause-written
returns-clause-written c = rw c.deref.ensures.value at c.in_ok-put_line.ensures

pub returns-clause-known : goal.returns-clause-known
returns-clause-known c = c.in_ok-remember.ensures
