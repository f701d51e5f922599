use Rattle.im_block_run.proofs.Passing.{put-in}
use Rattle.im_block_run.proofs.registers.put.Goals as goal

pub returns : goal.returns
returns c = put-in c.args.registers.now.items c.grow.new.registers.items c.args.register c.args.value c.in_ok-grow.ensures.room c.in_ok-grow.ensures.same
