use Rattle.std.proofs.Common.{refl, arith}
use Rattle.im_alloc_intervals.proofs.Firsts.{waiting_begin, waiting_next}
use Rattle.im_alloc_intervals.proofs.taken.waiting.Goals as goal

pub loop-parameter-init : goal.loop-parameter-init
loop-parameter-init c = waiting_begin c.args.intervals.now _ refl

pub loop-parameter-preserved : goal.loop-parameter-preserved
loop-parameter-preserved c =
    let l = c.loop-parameter in
    waiting_next l.parameter c.args.intervals.now l.registers _ c.last_of.result (let lt = c.loop-parameter-test.true in let few = c.requires.few in omega arith) l.invariant c.last_of.ensures refl
