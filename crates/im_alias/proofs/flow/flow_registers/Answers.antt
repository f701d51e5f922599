use Rattle.std.proofs.Common.{ℕ, ◌≡◌, ◌+◌, ◌<◌, ◌≤◌, length, Some, sym, ap, subst, arith}
use Rattle.std.specs.Prelude.{slice_get}
use Rattle.im_block_laws.specs.PointsTo.{Sub}
use Rattle.im_alias.specs.declared.table.Owner.TheVariants.{Register}
use Rattle.im_alias.specs.Sets.{Flowed, Grows, row_sets, set_in}
use Rattle.im_alias.proofs.Lists.{got}
use Rattle.im_alias.proofs.Arms.{rows_next, rows_all}
use Rattle.im_alias.proofs.flow.flow_registers.Goals as goal

pub loop-register-preserved : goal.loop-register-preserved
loop-register-preserved c =
    let l = c.loop-register in
    let i = c.args.number in
    let spot = c.args.spot.now in
    let set = c.set-item.result in
    let xs = c.deref-set-items.result.now in
    let within : l.register < length xs = omega arith in
    let there : slice_get spot.sets.items l.register ≡ Some set = got spot.sets.items xs l.register set c.deref-set-items.ensures.value within c.set-item.is in
    let is : row_sets spot l.register ≡ set.members.items = ap set_in there in
    let grows : Grows (Register i l.register) (row_sets spot l.register) l.table c.add_all.new.self c.in_ok-more.more = subst (λ xs. Grows (Register i l.register) xs l.table c.add_all.new.self c.in_ok-more.more) (sym is) c.in_ok-more.ensures in
    subst (λ e. Flowed (λ p. (r : ℕ) → r < l.register + 1 → Sub (row_sets spot r) (p.register i r)) c.args.table.now c.add_all.new.self e) (sym c.either-changed.ensures)
    (rows_next (row_sets spot) i l.register c.args.table.now l.table c.add_all.new.self l.changed c.in_ok-more.more l.invariant grows)

pub returns : goal.returns
returns c =
    let l = c.loop-register in
    let spot = c.args.spot.now in
    let same : length c.deref-set-items.result.now ≡ length spot.sets.items = ap length c.deref-set-items.ensures.value in
    let few : length spot.sets.items ≤ l.register = omega arith in
    rows_all spot c.args.number l.register c.args.table.now l.table l.changed few l.invariant
