use Rattle.im_block.specs.Meaning as m
use Rattle.im_store.specs.Checks.{Checked}
use Rattle.im_store.specs.Objects as o
use Rattle.im_eval_store.specs.Shown.{shown}
use Rattle.im_block_run.proofs.Steps.{checks-at}
use Rattle.im_block_run.proofs.sets.unary.Goals as goal

pub returns : goal.returns
returns c = λ u s h.
    let of : o.Value → Checked o.Value = λ v. m.as_number (m.computed_one c.args.op c.args.kind v) in
    let from = s.frame.registers c.args.from in
    c.computes.ensures u (of from) s h (checks-at c.computed_one.result of from (shown c.register-value.result) (c.register-value.ensures s.frame h.running.frame) c.computed_one.ensures)
