use Rattle.std.proofs.Common.{ap}
use Rattle.im_store.specs.Checks.{Fine}
use Rattle.im_block_run.proofs.sets.copy.Goals as goal

pub returns : goal.returns
returns c = λ u s h.
    c.computes.ensures u (Fine (s.frame.registers c.args.from)) s h (ap Fine (c.register-value.ensures s.frame h.running.frame))
