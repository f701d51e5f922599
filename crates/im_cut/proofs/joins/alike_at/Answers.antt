use Rattle.std.proofs.Common.{◌<◌, None, false, length, get_or, arith}
use Rattle.im_block.specs.declared.access.Access.{Access}
use Rattle.im_cut.proofs.Standing.{has_item}
use Rattle.im_cut.proofs.joins.alike_at.Goals as goal

abbrev blank : Access
blank = record { number = 0; write = false; size = 0; slot = None }

pub returns : goal.returns
returns c =
    let within : c.args.index < length c.args.reads.now = omega arith in
    λ t. record { access = get_or c.args.reads.now c.args.index blank; there = has_item c.args.reads.now c.args.index blank within; alike = c.alike.ensures t }
