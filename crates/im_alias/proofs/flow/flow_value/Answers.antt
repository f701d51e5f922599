use Rattle.std.proofs.lemmas.Result.{IfOk-weaker}
use Rattle.im_block.specs.declared.unit.Constant.TheVariants.{Inside}
use Rattle.im_block_laws.specs.PointsTo.{ConstantIn}
use Rattle.im_alias.specs.declared.table.Owner.TheVariants.{Object}
use Rattle.im_alias.specs.Sets.{Flowed, Grows}
use Rattle.im_alias.proofs.Arms.{value_inside, value_other}
use Rattle.im_alias.proofs.flow.flow_value.Goals as goal

pub returns-in_ok-one-in-Inside : goal.returns-in_ok-one-in-Inside
returns-in_ok-one-in-Inside c =
    let n = c.args.number in
    let t = c.args.table.now in
    let new = c.add_all.new.self in
    let one = c.in_ok-one-in-Inside.one.members.items in
    rw c.in-Inside.is (IfOk-weaker c.add_all.result (λ b. Grows (Object n) one t new b) (λ b. Flowed (λ p. ConstantIn (p.object n) (Inside c.in-Inside.object c.in-Inside.offset)) t new b)
    (λ b h. value_inside n c.in-Inside.object c.in-Inside.offset one t new b c.in_ok-one-in-Inside.ensures h)
    c.add_all.ensures)

pub returns-in_default : goal.returns-in_default
returns-in_default c = value_other c.args.number c.args.value.now c.args.table.now c.in_default.not-Inside
