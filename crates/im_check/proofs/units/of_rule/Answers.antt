use Rattle.im_check.proofs.units.of_rule.Goals as goal

pub unreachable-requires : goal.unreachable-requires
unreachable-requires c = rw c.in-Large.is at c.requires.1
