use Rattle.std.proofs.Common.{◌≡◌, ◌+◌, ◌<◌, length, Some, sym, ap, subst, arith}
use Rattle.std.specs.Prelude.{slice_get}
use Rattle.im_alias.specs.Sets.{StaticsFit}
use Rattle.im_alias.specs.Scan.{BlocksFit}
use Rattle.im_alias.proofs.Lists.{got}
use Rattle.im_alias.proofs.Turns.{functions_start, functions_end}
use Rattle.im_alias.proofs.Units.{part_after, blocks_full, statics_full}
use Rattle.im_alias.proofs.Whole.{FlowedFunctions, functions_next}
use Rattle.im_alias.proofs.flow.sweep.Goals as goal

pub loop-number-init : goal.loop-number-init
loop-number-init c =
    let u = c.args.unit.now in
    let t = c.args.table.now in
    let h = c.in_ok-changed.ensures in
    record {
      part = part_after u (StaticsFit (length u.statics.items) u) t c.flow_statics.new.table c.in_ok-changed.changed c.requires.code c.requires.part h (statics_full u c.requires.code (length t.objects.items) c.requires.part.shape.objects (length u.statics.items));
      flowed = functions_start u t c.flow_statics.new.table c.args.found.now c.in_ok-changed.changed h;
    }

pub loop-number-preserved : goal.loop-number-preserved
loop-number-preserved c =
    let l = c.loop-number in
    let u = c.args.unit.now in
    let fs = u.functions.items in
    let k = l.number in
    let f = c.function-item.result in
    let xs = c.deref-function-items.result.now in
    let more = c.in_ok-more.more in
    let t = c.flow_function.new.table in
    let h = c.in_ok-more.ensures in
    let within : k < length xs = omega arith in
    let there : slice_get fs k ≡ Some f = got fs xs k f c.deref-function-items.ensures.value within c.function-item.is in
    record {
      part = part_after u (BlocksFit (length f.blocks.items) u k f.blocks.items) l.table t more c.requires.code l.invariant.part h.flowed (blocks_full u c.requires.code (length l.table.objects.items) l.invariant.part.shape.objects (length f.blocks.items) k f there);
      flowed = subst (λ e. FlowedFunctions (k + 1) u c.args.table.now t c.args.found.now c.flow_function.new.found e) (sym c.either-changed.ensures)
          (functions_next u k f c.args.table.now l.table t c.args.found.now l.found c.flow_function.new.found l.changed more there l.invariant.flowed h);
    }

pub returns : goal.returns
returns c =
    let l = c.loop-number in
    let u = c.args.unit.now in
    let same : length c.deref-function-items.result.now ≡ length u.functions.items = ap length c.deref-function-items.ensures.value in
    let whole : l.number ≡ length u.functions.items = omega arith in
    functions_end u l.number c.args.table.now l.table c.args.found.now l.found l.changed whole l.invariant.flowed
