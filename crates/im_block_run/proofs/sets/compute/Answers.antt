use Rattle.im_block.specs.Meaning as m
use Rattle.im_store.specs.Checks.{Checked}
use Rattle.im_store.specs.Objects as o
use Rattle.im_eval_store.specs.Shown.{shown}
use Rattle.im_block_run.proofs.Steps.{checks-at-both}
use Rattle.im_block_run.proofs.sets.compute.Goals as goal

pub returns : goal.returns
returns c = λ u s h.
    let of : o.Value → o.Value → Checked o.Value = λ v w. m.as_number (m.computed c.args.op c.args.kind v w) in
    let one = s.frame.registers c.args.left in
    let other = s.frame.registers c.args.right in
    let is = h.running.frame in
    c.computes.ensures u (of one other) s h
    (checks-at-both c.computed.result of one (shown c.register-a.result) other (shown c.register-b.result) (c.register-a.ensures s.frame is) (c.register-b.ensures s.frame is) c.computed.ensures)
