use Rattle.std.proofs.Common.{◌+◌, ◌<◌, length, get_or, take, sym, subst, arith, pos}
use Rattle.std.proofs.lemmas.Option.{slice_get-get_or}
use Rattle.im_block.specs.declared.unit.Constant.{Constant}
use Rattle.im_block.specs.declared.unit.Constant.TheVariants.{Number}
use Rattle.im_block_laws.specs.PointsTo.{ConstantsIn}
use Rattle.im_alias.specs.Sets.{Flowed}
use Rattle.im_alias.proofs.Whole.{values_next}
use Rattle.im_alias.proofs.flow.flow_values.Goals as goal

pub loop-value-preserved : goal.loop-value-preserved
loop-value-preserved c =
    let l = c.loop-value in
    let n = c.args.number in
    let xs = c.args.values.now in
    let d : Constant = Number (pos 0) in
    let v = get_or xs l.value-index d in
    let within : l.value-index < length xs = omega arith in
    subst (λ e. Flowed (λ p. ConstantsIn (p.object n) (take (l.value-index + 1) xs)) c.args.table.now c.flow_value.new.table e) (sym c.either-changed.ensures)
    (values_next n xs l.value-index v c.args.table.now l.table c.flow_value.new.table l.changed c.in_ok-more.more (slice_get-get_or xs l.value-index d within) l.invariant c.in_ok-more.ensures)
