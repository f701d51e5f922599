use Rattle.std.proofs.Common.{◌≡◌, IfOk, subst}
use Rattle.im_ctype.specs.Types.{CType}
use Rattle.im_types.specs.Shape.{type_of}
use Rattle.im_check_texts.proofs.Places.{slot_there, slot_past}
use Rattle.im_check_texts.proofs.slots.member_type.Goals as goal

pub returns-in-Some : goal.returns-in-Some
returns-in-Some c =
    let h = c.in-Some.ensures.lookup in
    let there = slot_there c.args.table.now c.args.number c.args.index c.members-members.result.now c.in-Some.member.now c.members-members.ensures.members h.3.0 h.1 in
    subst (λ (z : CType). IfOk c.type_from.result (λ t. type_of t ≡ z)) there c.type_from.ensures

pub returns-in-None : goal.returns-in-None
returns-in-None c =
    let h = c.in-None.ensures.lookup in
    slot_past c.args.table.now c.args.number c.args.index c.members-members.result.now c.members-members.ensures.members h.3
