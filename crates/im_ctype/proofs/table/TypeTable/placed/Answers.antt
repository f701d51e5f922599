use Rattle.std.proofs.Common.{arith}
use Rattle.im_ctype.proofs.Walked.{member-held, member-next}
use Rattle.im_ctype.proofs.table.TypeTable.placed.Goals as goal

pub round_up-offset-requires-clause-nonzero : goal.round_up-offset-requires-clause-nonzero
round_up-offset-requires-clause-nonzero c =
    (member-held c.args.self.now c.args.members.now c.loop-member.member-index c.loop-member.size c.loop-member.alignment c.loop-member.cells c.loop-member.places.items c.loop-member.invariant c.member-item.result c.loop-member-test.true c.member-item.is c.extent-part.result c.extent-part.ensures).2

pub round_up-offset-requires-clause-held : goal.round_up-offset-requires-clause-held
round_up-offset-requires-clause-held c =
    let h = member-held c.args.self.now c.args.members.now c.loop-member.member-index c.loop-member.size c.loop-member.alignment c.loop-member.cells c.loop-member.places.items c.loop-member.invariant c.member-item.result c.loop-member-test.true c.member-item.is c.extent-part.result c.extent-part.ensures in
    let k = c.requires.held in
    omega (arith, h.0, k)

pub overflow_add-size : goal.overflow_add-size
overflow_add-size c =
    let h = member-held c.args.self.now c.args.members.now c.loop-member.member-index c.loop-member.size c.loop-member.alignment c.loop-member.cells c.loop-member.places.items c.loop-member.invariant c.member-item.result c.loop-member-test.true c.member-item.is c.extent-part.result c.extent-part.ensures in
    let k = c.requires.held in
    let r = c.round_up-offset.ensures in
    omega (arith, h.0, k, r)

pub overflow_add-cells : goal.overflow_add-cells
overflow_add-cells c =
    let h = member-held c.args.self.now c.args.members.now c.loop-member.member-index c.loop-member.size c.loop-member.alignment c.loop-member.cells c.loop-member.places.items c.loop-member.invariant c.member-item.result c.loop-member-test.true c.member-item.is c.extent-part.result c.extent-part.ensures in
    let k = c.requires.held in
    omega (arith, h.1, k)

pub loop-member-preserved : goal.loop-member-preserved
loop-member-preserved c =
    member-next c.args.self.now c.args.members.now c.loop-member.member-index c.loop-member.size c.loop-member.alignment c.loop-member.cells c.loop-member.places.items c.loop-member.invariant c.member-item.result c.loop-member-test.true c.member-item.is c.extent-part.result c.extent-part.ensures c.round_up-offset.result c.max-alignment.result c.push.new.self.items c.round_up-offset.ensures c.max-alignment.ensures c.in_ok-push.ensures.items
