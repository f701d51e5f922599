use Rattle.im_promote.proofs.Sweeping.{SweptTo}
use Rattle.im_promote.proofs.sweeps.sweep.Given as goal

abbrev pub invariant-loop-number : goal.invariant-loop-number
invariant-loop-number l = SweptTo l.base l.blocks l.number l.initial.starts l.starts l.is_news
