use Rattle.std.proofs.Common.{None, false, get_or}
use Rattle.im_block.specs.declared.access.Access.{Access}
use Rattle.im_cut.proofs.Standing.{has_item}
use Rattle.im_cut.proofs.marks.has_alike.Goals as goal

abbrev blank : Access
blank = record { number = 0; write = false; size = 0; slot = None }

pub returns-then-alike : goal.returns-then-alike
returns-then-alike c = λ t. record { access = get_or c.args.reads.now c.loop-other.other-index blank; there = has_item c.args.reads.now c.loop-other.other-index blank c.loop-other-test.true; alike = c.alike.ensures c.if-alike.true }
