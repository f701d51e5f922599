use Rattle.std.proofs.Common.{◌≡◌, ◌+◌, ◌<◌, length, sym, subst, arith}
use Rattle.std.specs.Prelude.{slice_get, Some}
use Rattle.im_block_laws.specs.PointsTo.{ConstantsIn}
use Rattle.im_alias.specs.Sets.{Flowed, StaticsFit}
use Rattle.im_alias.proofs.Lists.{got}
use Rattle.im_alias.proofs.Whole.{statics_next}
use Rattle.im_alias.proofs.flow.flow_statics.Goals as goal

pub loop-number-preserved : goal.loop-number-preserved
loop-number-preserved c =
    let l = c.loop-number in
    let u = c.args.unit.now in
    let s = c.each-item.result in
    let xs = c.deref-each-items.result.now in
    let within : l.number < length xs = omega arith in
    let there : slice_get u.statics.items l.number ≡ Some s = got u.statics.items xs l.number s c.deref-each-items.ensures.value within c.each-item.is in
    let new = c.flow_values.new.table in
    let more = c.in_ok-more.more in
    let flowed : Flowed (λ p. ConstantsIn (p.object l.number) s.values.items) l.table new more = subst (λ vs. Flowed (λ p. ConstantsIn (p.object l.number) vs) l.table new more) c.deref.ensures.value c.in_ok-more.ensures in
    subst (λ e. Flowed (StaticsFit (l.number + 1) u) c.args.table.now new e) (sym c.either-changed.ensures)
    (statics_next u l.number s c.args.table.now l.table new l.changed more there l.invariant flowed)
