use Rattle.std.proofs.Common.{rules}
use Rattle.im_cmd.specs.Stages.{load_starved}
use Rattle.im_cmd.proofs.Stages.{long_load}
use Rattle.im_cmd.proofs.running.load.Goals as goal

pub returns-in-Err-InputTooLong : goal.returns-in-Err-InputTooLong
returns-in-Err-InputTooLong c = long_load c.args.input.now c.in-Err-InputTooLong.length c.in-Err-InputTooLong.limit (search rules)

pub returns-in-Err-OutOfMemory : goal.returns-in-Err-OutOfMemory
returns-in-Err-OutOfMemory c = load_starved
