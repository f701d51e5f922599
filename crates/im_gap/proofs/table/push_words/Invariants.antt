use Rattle.im_gap.specs.Table.{Drawn}
use Rattle.im_gap.proofs.table.push_words.Given as goal

abbrev pub invariant-loop-i : goal.invariant-loop-i
invariant-loop-i l = Drawn l.words l.i l.nodes.items l.targets.items
