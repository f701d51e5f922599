use Rattle.std.proofs.lemmas.Result.{err_from_is_err_and}
use Rattle.im_image.proofs.Loops.{runs_go_on, runs_stop, runs_end}
use Rattle.im_image.proofs.runs.read_runs.Goals as goal

pub returns-in_err-run-clause-wrong : goal.returns-in_err-run-clause-wrong
returns-in_err-run-clause-wrong c =
    let p = err_from_is_err_and c.from_residual.result c.from_residual.ensures.1 in
    rw (p.1, p.2) (runs_stop c.args.bytes.now c.args.at c.args.size c.args.count c.args.place c.loop.counter c.loop.next c.loop.before c.loop.runs.items c.in_err-run.field-0.0 c.loop-test.true c.in_err-run.ensures.wrong c.loop.invariant)

pub loop-preserved : goal.loop-preserved
loop-preserved c =
    runs_go_on c.args.bytes.now c.args.at c.args.size c.args.count c.args.place c.loop.counter c.loop.next c.loop.before c.in_ok-run.run' c.loop.runs.items c.push.new.self.items c.loop-test.true c.in_ok-run.ensures.run c.in_ok-run.ensures.there c.in_ok-run.ensures.right c.in_ok-push.ensures.items c.loop.invariant

pub returns-clause-runs : goal.returns-clause-runs
returns-clause-runs c =
    (runs_end c.args.bytes.now c.args.at c.args.size c.args.count c.args.place c.loop.counter c.loop.next c.loop.before c.loop.runs.items c.loop-test.false c.loop.invariant).runs_are

pub returns-clause-right : goal.returns-clause-right
returns-clause-right c =
    (runs_end c.args.bytes.now c.args.at c.args.size c.args.count c.args.place c.loop.counter c.loop.next c.loop.before c.loop.runs.items c.loop-test.false c.loop.invariant).right
