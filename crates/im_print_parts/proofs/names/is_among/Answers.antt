use Rattle.im_print_parts.proofs.NameFacts.{among_found, among_missed}
use Rattle.im_print_parts.proofs.names.is_among.Goals as goal

pub returns-then-eq : goal.returns-then-eq
returns-then-eq c = among_found c.args.names.now c.loop-one.one-index _ c.args.name.now c.eq.result c.loop-one-test.true c.loop-one.invariant c.eq.ensures c.if-eq.true

pub loop-one-preserved : goal.loop-one-preserved
loop-one-preserved c = among_missed c.args.names.now c.loop-one.one-index _ c.args.name.now c.eq.result c.loop-one-test.true c.loop-one.invariant c.eq.ensures c.if-eq.false
