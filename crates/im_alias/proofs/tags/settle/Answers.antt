use Rattle.std.proofs.Common.{◌≡◌, true, false, length, subst}
use Rattle.im_alias.specs.Scan.{FlowedUnit, UnitFits}
use Rattle.im_alias.proofs.Turns.{room_after}
use Rattle.im_alias.proofs.Units.{part_after, unit_full, least_after, settled_end}
use Rattle.im_alias.proofs.tags.settle.Goals as goal

pub loop-found-preserved : goal.loop-found-preserved
loop-found-preserved c =
    let u = c.args.unit.now in
    let l = c.loop-found in
    let t = l.table in
    let next = c.sweep.new.table in
    let h = c.in_ok-changed.ensures.flowed in
    record {
      part = part_after u (UnitFits u) t next c.in_ok-changed.changed c.requires.code l.invariant.part h (unit_full u c.requires.code (length t.objects.items) l.invariant.part.shape.objects);
      least = least_after u t next c.in_ok-changed.changed l.invariant.least h;
    }

pub loop-found-smaller : goal.loop-found-smaller
loop-found-smaller c =
    let is : c.in_ok-changed.changed ≡ true = cc in
    room_after c.args.unit.now c.loop-found.table c.sweep.new.table c.in_ok-changed.changed c.requires.code c.loop-found.invariant.part c.in_ok-changed.ensures.flowed is

pub returns-then-not-changed : goal.returns-then-not-changed
returns-then-not-changed c =
    let u = c.args.unit.now in
    let t = c.loop-found.table in
    let next = c.sweep.new.table in
    let first = c.in_ok-found.found in
    let last = c.sweep.new.found in
    let is : c.in_ok-changed.changed ≡ false = cc in
    settled_end u t next first last c.in_ok-found.ensures c.loop-found.invariant.least (subst (λ e. FlowedUnit u t next first last e) is c.in_ok-changed.ensures)
