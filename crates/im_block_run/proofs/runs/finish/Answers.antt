use Rattle.im_block.specs.Runs as runs
use Rattle.im_block_run.specs.Shown.{setting_of}
use Rattle.im_block_run.proofs.Reaching.{reaches-start}
use Rattle.im_block_run.proofs.runs.finish.Goals as goal

pub returns-in-Ok : goal.returns-in-Ok
returns-in-Ok c = λ n h.
    let u = c.args.code.unit.now in
    let g = setting_of c.args.code.setting in
    c.go_on.ensures n (runs.start u g n) (reaches-start u g n) (c.in-Ok.ensures n h)

pub returns-in-Err : goal.returns-in-Err
returns-in-Err c = λ n h.
    let u = c.args.code.unit.now in
    let g = setting_of c.args.code.setting in
    (runs.start u g n, reaches-start u g n, c.in-Err.ensures n h)
