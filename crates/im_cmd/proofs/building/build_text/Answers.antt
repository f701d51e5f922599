use Rattle.std.proofs.Common.{rules}
use Rattle.im_cmd.specs.Stages.{text_faulty, text_starved}
use Rattle.im_cmd.proofs.Builds.{is_built_of, faulty, gap_option}
use Rattle.im_cmd.proofs.building.build_text.Goals as goal

pub compile-requires-clause-gap : goal.compile-requires-clause-gap
compile-requires-clause-gap c = gap_option c.args.building.max_gap c.requires.gap

pub returns-in-Ok : goal.returns-in-Ok
returns-in-Ok c = is_built_of c.args.text.now c.args.building c.in-Ok.built (search rules) c.in-Ok.ensures

pub returns-in-Err-OutOfMemory : goal.returns-in-Err-OutOfMemory
returns-in-Err-OutOfMemory c = text_starved

pub returns-in-Err : goal.returns-in-Err
returns-in-Err c = text_faulty c.in-Err.fault (faulty c.args.text.now c.in-Err.fault (search rules) c.in-Err.ensures)
