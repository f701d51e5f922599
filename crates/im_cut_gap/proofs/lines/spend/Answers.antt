use Rattle.std.proofs.Common.{◌+◌, ◌<◌, ◌≤◌, ℕ, Option, Some, None, sym, subst, arith}
use Rattle.im_cut_gap.specs.Sweep.{Puts}
use Rattle.im_cut_gap.proofs.Passing.{puts_nowhere, puts_fits, puts_splits}
use Rattle.im_cut_gap.proofs.lines.spend.Goals as goal

pub returns-in-None : goal.returns-in-None
returns-in-None c = subst (λ (m : Option ℕ). Puts c.args.most c.args.step m None c.args.cut.now.items c.args.cut.now.items) (sym c.in-None.is) (puts_nowhere c.args.most c.args.step c.args.cut.now.items)

pub returns-then-so_far-most : goal.returns-then-so_far-most
returns-then-so_far-most c =
    let m = c.in-Some.so_far in
    let long : c.args.most < m + c.args.step = omega arith in
    rw c.in-Some.is (puts_splits c.args.most c.args.step m c.args.cut.now.items _ long c.in_ok-push-in-Some.ensures.items)

pub returns-else-so_far-most : goal.returns-else-so_far-most
returns-else-so_far-most c =
    let m = c.in-Some.so_far in
    let fits : m + c.args.step ≤ c.args.most = omega arith in
    subst (λ (k : Option ℕ). Puts c.args.most c.args.step k (Some (m + c.args.step)) c.args.cut.now.items c.args.cut.now.items) (sym c.in-Some.is) (puts_fits c.args.most c.args.step m c.args.cut.now.items fits)
