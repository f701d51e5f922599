use Rattle.std.proofs.Common.{◌≡◌, ◌-◌, suc, arith}
use Rattle.im_block_run.proofs.Paying.{none-left, some-left}
use Rattle.im_block_run.proofs.calls.pay.Goals as goal

pub returns-then-state-eq0 : goal.returns-then-state-eq0
returns-then-state-eq0 c = λ u s go h. none-left u c.args.state.now s go h c.if-state-eq0.true

pub returns : goal.returns
returns c = λ u s go h.
    let some = c.if-state-eq0.false in
    let e : c.args.state.now.fuel ≡ suc (c.args.state.now.fuel - 1) = omega arith in
    some-left c.args.state.now s go (c.args.state.now.fuel - 1) h e
