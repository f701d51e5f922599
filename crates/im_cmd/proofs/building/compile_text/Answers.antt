use Rattle.std.proofs.Common.{rules}
use Rattle.im_cmd.specs.Stages.{text_faulty, text_starved}
use Rattle.im_cmd.proofs.Builds.{built_from, faulty, gap_option}
use Rattle.im_cmd.proofs.building.compile_text.Goals as goal

pub compile_whole-requires-clause-gap : goal.compile_whole-requires-clause-gap
compile_whole-requires-clause-gap c = gap_option c.args.building.max_gap c.requires.gap

pub returns-in-Ok : goal.returns-in-Ok
returns-in-Ok c = built_from c.args.text.now c.args.building c.in-Ok.whole.prog c.in-Ok.whole.built (search rules) c.in-Ok.ensures

pub returns-in-Err-OutOfMemory : goal.returns-in-Err-OutOfMemory
returns-in-Err-OutOfMemory c = text_starved

pub returns-in-Err : goal.returns-in-Err
returns-in-Err c = text_faulty c.in-Err.fault (faulty c.args.text.now c.in-Err.fault (search rules) c.in-Err.ensures)
