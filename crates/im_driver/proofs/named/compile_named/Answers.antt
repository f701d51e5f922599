use Rattle.im_driver.proofs.named.compile_named.Goals as goal

pub compile-requires-clause-source : goal.compile-requires-clause-source
compile-requires-clause-source c = c.in-Ok.ensures.is_source

pub compile-requires-clause-named : goal.compile-requires-clause-named
compile-requires-clause-named c = c.in-Ok.ensures.named

pub unmade_named-requires-clause-source : goal.unmade_named-requires-clause-source
unmade_named-requires-clause-source c = c.in-Ok.ensures.is_source

pub unmade_named-requires-clause-fault : goal.unmade_named-requires-clause-fault
unmade_named-requires-clause-fault c = (c.args.options.max_gap, c.in-Err-compile_program.ensures)

pub returns-in-Ok-compile_program : goal.returns-in-Ok-compile_program
returns-in-Ok-compile_program c = (c.kept_law.ensures c.args.source.now c.in-Ok.prog c.args.options c.in-Ok-compile_program.built c.in-Ok.ensures c.in-Ok-compile_program.ensures).compiled

pub returns : goal.returns
returns c = c.unmade_named.ensures c.args.source.now c.in-Ok.ensures
