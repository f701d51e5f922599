use Rattle.im_driver.proofs.Refusals.{made_refused}
use Rattle.im_driver.proofs.compiling.compile.Goals as goal

pub returns-in-Err : goal.returns-in-Err
returns-in-Err c = c.in-Err.ensures.is_fault

pub compile_owned-requires-clause-source : goal.compile_owned-requires-clause-source
compile_owned-requires-clause-source c = c.in-Ok.ensures.is_source

pub compile_owned-requires-clause-named : goal.compile_owned-requires-clause-named
compile_owned-requires-clause-named c = c.in-Ok.ensures.named

pub returns-in-Ok-compile_owned : goal.returns-in-Ok-compile_owned
returns-in-Ok-compile_owned c = (c.kept_law.ensures c.args.source.now c.in-Ok.prog c.args.options c.in-Ok-compile_owned.built c.in-Ok.ensures c.in-Ok-compile_owned.ensures).compiled

pub returns-in-Err-compile_owned : goal.returns-in-Err-compile_owned
returns-in-Err-compile_owned c = rw c.unmade.ensures (made_refused c.refused_law.ensures c.args.source.now c.in-Ok.prog c.args.options.max_gap c.in-Err-compile_owned.fault c.in-Ok.ensures c.in-Err-compile_owned.ensures)
