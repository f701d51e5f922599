use Rattle.std.proofs.lemmas.Result.{IfOk-weaker}
use Rattle.im_block_run.specs.Shown.{setting_of}
use Rattle.im_block_run.proofs.Reaching.{runs-over}
use Rattle.im_block_run.proofs.Telling.{if-some}
use Rattle.im_block_run.proofs.runs.run.Goals as goal

pub returns-in-Ok : goal.returns-in-Ok
returns-in-Ok c =
    let u = c.args.unit.now in
    let g = setting_of c.args.setting in
    let n = c.args.fuel in
    let last = c.finish-why.ensures n c.in-Ok.ensures in
    IfOk-weaker c.conclude.result _ _
    (λ found h. if-some found _ _ (λ outcome tells. runs-over u g n outcome last.0 last.1 (tells last.0 last.2)) h) c.conclude.ensures
