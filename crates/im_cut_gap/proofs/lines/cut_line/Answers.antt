use Rattle.std.proofs.Common.{◌∙◌, ℕ, sym, subst}
use Rattle.im_cut_gap.specs.Sweep.{Puts}
use Rattle.im_cut_gap.proofs.Passing.{sweeps_cut, sweeps_plain}
use Rattle.im_cut_gap.proofs.lines.cut_line.Goals as goal

pub returns-then-is_checkpoint : goal.returns-then-is_checkpoint
returns-then-is_checkpoint c = sweeps_cut c.args.most c.args.cost c.args.line.now c.args.cut.now.items _ (sym c.is_checkpoint.ensures ∙ c.if-is_checkpoint.true) c.in_ok-push.ensures.items

pub returns : goal.returns
returns c =
    sweeps_plain c.args.most c.args.cost c.in_ok-spent.spent c.args.line.now c.args.cut.now.items c.spend.new.cut.items _ (sym c.is_checkpoint.ensures ∙ c.if-is_checkpoint.false)
    (subst (λ (s : ℕ). Puts c.args.most s c.args.cost c.in_ok-spent.spent c.args.cut.now.items c.spend.new.cut.items) c.line_cost.ensures.cost c.in_ok-spent.ensures)
    c.in_ok-push-2.ensures.items
