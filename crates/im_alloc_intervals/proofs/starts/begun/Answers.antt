use Rattle.std.proofs.Common.{None, get_or, refl}
use Rattle.im_alloc_intervals.proofs.Sorting.{begun_step}
use Rattle.im_alloc_intervals.proofs.starts.begun.Goals as goal

pub loop-register-preserved : goal.loop-register-preserved
loop-register-preserved c =
    let l = c.loop-register in
    begun_step c.args.from l.register c.args.intervals.now l.starts.items c.push_start.new.starts.items (get_or c.args.intervals.now l.register None) l.invariant l.auto.register refl c.in_ok-push_start.ensures
