use Rattle.im_block.specs.Meaning as m
use Rattle.im_block_run.specs.Shown.{setting_of}
use Rattle.im_block_run.proofs.Reaching.{reaches-more}
use Rattle.im_block_run.proofs.runs.go_on.Goals as goal

pub steps-init : goal.steps-init
steps-init c = λ n r reach goes. (r, reach, goes)

pub steps-preserved : goal.steps-preserved
steps-preserved c = λ n r reach goes.
    let u = c.args.code.unit.now in
    let g = setting_of c.args.code.setting in
    let i = c.steps.invariant n r reach goes in
    let at = i.2 in
    (m.step u g at.0, reaches-more u g n i.0 at.0 at.1 i.1 at.2, c.in-Ok.ensures at.0 at.3)

pub returns-in-Err : goal.returns-in-Err
returns-in-Err c = λ n r reach goes.
    let u = c.args.code.unit.now in
    let g = setting_of c.args.code.setting in
    let i = c.steps.invariant n r reach goes in
    let at = i.2 in
    (m.step u g at.0, reaches-more u g n i.0 at.0 at.1 i.1 at.2, c.in-Err.ensures at.0 at.3)

pub returns : goal.returns
returns c = λ n r reach goes.
    let i = c.steps.invariant n r reach goes in
    (i.0, i.1, tt)
