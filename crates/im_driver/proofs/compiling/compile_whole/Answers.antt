use Rattle.im_driver.proofs.Refusals.{made_refused}
use Rattle.im_driver.proofs.compiling.compile_whole.Goals as goal

pub returns-in-Err : goal.returns-in-Err
returns-in-Err c = c.in-Err.ensures.is_fault

pub compile-requires-clause-source : goal.compile-requires-clause-source
compile-requires-clause-source c = c.in-Ok.ensures.is_source

pub compile-requires-clause-named : goal.compile-requires-clause-named
compile-requires-clause-named c = c.in-Ok.ensures.named

pub returns-in-Ok-compile_program : goal.returns-in-Ok-compile_program
returns-in-Ok-compile_program c = c.kept_law.ensures c.args.source.now c.in-Ok.prog c.args.options c.in-Ok-compile_program.built c.in-Ok.ensures c.in-Ok-compile_program.ensures

pub returns-in-Err-compile_program : goal.returns-in-Err-compile_program
returns-in-Err-compile_program c = rw c.unmade.ensures (made_refused c.refused_law.ensures c.args.source.now c.in-Ok.prog c.args.options.max_gap c.in-Err-compile_program.fault c.in-Ok.ensures c.in-Err-compile_program.ensures)
