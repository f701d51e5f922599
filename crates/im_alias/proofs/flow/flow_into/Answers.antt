use Rattle.std.proofs.Common.{ℕ, ◌+◌, ◌<◌, length, get_or, take, refl, sym, subst, arith}
use Rattle.im_block.specs.Sections.{Has}
use Rattle.im_block_laws.specs.PointsTo.{Sub}
use Rattle.im_alias.specs.Sets.{Flowed}
use Rattle.im_alias.proofs.Lists.{has_at}
use Rattle.im_alias.proofs.Steps.{into_next}
use Rattle.im_alias.proofs.flow.flow_into.Goals as goal

pub add_all-requires : goal.add_all-requires
add_all-requires c =
    let l = c.loop-object in
    let xs = c.deref-object-items.result.now in
    let object = get_or xs l.object-index 0 in
    let within : l.object-index < length xs = omega arith in
    let has : Has c.args.objects.now.members.items object = subst (λ ys. Has ys object) c.deref-object-items.ensures.value (has_at xs l.object-index 0 within) in
    let below = c.requires object has in
    let same = l.invariant.shape.objects in
    omega arith

pub loop-object-preserved : goal.loop-object-preserved
loop-object-preserved c =
    let l = c.loop-object in
    let from = c.args.from.now.members.items in
    let xs = c.deref-object-items.result.now in
    let within : l.object-index < length xs = omega arith in
    subst (λ e. Flowed (λ p. (n : ℕ) → Has (take (l.object-index + 1) xs) n → Sub from (p.object n)) c.args.table.now c.add_all.new.self e) (sym c.either-changed.ensures)
    (into_next from xs l.object-index (get_or xs l.object-index 0) c.args.table.now l.table c.add_all.new.self l.changed c.in_ok-more.more within refl l.invariant c.in_ok-more.ensures)
