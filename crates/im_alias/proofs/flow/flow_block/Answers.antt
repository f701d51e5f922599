use Rattle.std.proofs.Common.{ℕ, ◌≡◌, ◌+◌, ◌<◌, ◌≤◌, length, get_or, drop, List, Some, refl, sym, ap, subst, arith, pos}
use Rattle.std.specs.Prelude.{slice_get}
use Rattle.std.proofs.lemmas.Option.{slice_get_read, slice_get_within, slice_get-get_or}
use Rattle.im_block.specs.declared.code.Line.{Line}
use Rattle.im_block.specs.declared.code.Line.TheVariants.{Put}
use Rattle.im_alias.specs.Scan.{FlowedBlock}
use Rattle.im_alias.proofs.Blocks.{InBlock, block_start}
use Rattle.im_alias.proofs.Flows.{shape_same}
use Rattle.im_alias.proofs.Turns.{line_takes_at, line_passes_at, line_next, exit_within_at, exit_rows, exit_returned, block_ends}
use Rattle.im_alias.proofs.flow.flow_block.Goals as goal

abbrev none : Line
none = Put 0 (pos 0)

line_there : (all some : List Line) (k : ℕ) → some ≡ all → k < length some → slice_get all k ≡ Some (get_or some k none)
line_there all some k e within = subst (λ xs. slice_get xs k ≡ Some (get_or some k none)) e (slice_get-get_or some k none within)

pub index-requires : goal.index-requires
index-requires c =
    let function_within = slice_get_within c.args.unit.now.functions.items c.args.number c.args.function.now c.requires.there.function_there in
    let same = c.requires.part.shape.registers in
    omega arith

pub loop-line-init : goal.loop-line-init
loop-line-init c =
    let u = c.args.unit.now in
    let i = c.args.number in
    let block = c.args.block.now in
    let t = c.args.table.now in
    let row = c.index.result.now in
    let function_within = slice_get_within u.functions.items i c.args.function.now c.requires.there.function_there in
    let same = c.requires.part.shape.registers in
    let within : i < length t.registers.items = omega arith in
    block_start u i block.lines.items block.exit t c.args.found.now c.in_ok-spot.spot row
    (slice_get_read t.registers.items (length t.registers.items) i row refl within c.index.ensures) c.in_ok-spot.ensures c.requires.part.bounded

pub tag-requires : goal.tag-requires
tag-requires c =
    let l = c.loop-line in
    let xs = c.args.block.now.lines.items in
    let k = l.line-index in
    let all = c.deref-line-items.result.now in
    let line = get_or all k none in
    let within : k < length all = omega arith in
    let there = line_there xs all k c.deref-line-items.ensures.value within in
    let can = line_passes_at c.args.unit.now c.requires.code c.args.number c.args.function.now c.args.block.now c.requires.there c.args.table.now c.requires.part c.args.found.now l.table l.table l.found l.spot k line (drop k xs) l.changed there l.invariant (shape_same l.table) in
    record { within = can.within; slotless = can.slotless }

pub flow_line-requires : goal.flow_line-requires
flow_line-requires c =
    let l = c.loop-line in
    let xs = c.args.block.now.lines.items in
    let k = l.line-index in
    let all = c.deref-line-items.result.now in
    let line = get_or all k none in
    let within : k < length all = omega arith in
    let there = line_there xs all k c.deref-line-items.ensures.value within in
    record {
      can = line_passes_at c.args.unit.now c.requires.code c.args.number c.args.function.now c.args.block.now c.requires.there c.args.table.now c.requires.part c.args.found.now l.table l.table l.found l.spot k line (drop k xs) l.changed there l.invariant (shape_same l.table);
      takes = line_takes_at c.args.unit.now c.requires.code c.args.number c.args.function.now c.args.block.now c.requires.there c.args.table.now c.requires.part c.args.found.now l.table l.table l.found l.spot k line (drop k xs) l.changed there l.invariant (shape_same l.table);
    }

pub pass-requires : goal.pass-requires
pass-requires c =
    let l = c.loop-line in
    let xs = c.args.block.now.lines.items in
    let k = l.line-index in
    let all = c.deref-line-items.result.now in
    let line = get_or all k none in
    let within : k < length all = omega arith in
    let there = line_there xs all k c.deref-line-items.ensures.value within in
    line_passes_at c.args.unit.now c.requires.code c.args.number c.args.function.now c.args.block.now c.requires.there c.args.table.now c.requires.part c.args.found.now l.table c.flow_line.new.table l.found l.spot k line (drop k xs) l.changed there l.invariant c.in_ok-more.ensures.shape

pub loop-line-preserved : goal.loop-line-preserved
loop-line-preserved c =
    let l = c.loop-line in
    let u = c.args.unit.now in
    let i = c.args.number in
    let block = c.args.block.now in
    let xs = block.lines.items in
    let k = l.line-index in
    let all = c.deref-line-items.result.now in
    let line = get_or all k none in
    let within : k < length all = omega arith in
    let there = line_there xs all k c.deref-line-items.ensures.value within in
    subst (λ e. InBlock u i xs block.exit c.args.table.now c.args.found.now c.flow_line.new.table c.tag.new.self c.pass.new.spot (drop (k + 1) xs) e) (sym c.either-changed.ensures)
    (line_next u c.requires.code i c.args.function.now block c.requires.there c.args.table.now c.requires.part c.args.found.now l.table c.flow_line.new.table l.found c.tag.new.self l.spot c.pass.new.spot k line l.changed c.in_ok-more.more there l.invariant c.in_ok-tag.ensures c.in_ok-more.ensures c.in_ok-pass.ensures)

pub flow_exit-requires : goal.flow_exit-requires
flow_exit-requires c =
    let l = c.loop-line in
    let xs = c.args.block.now.lines.items in
    let k = l.line-index in
    record {
      within = exit_within_at c.args.unit.now c.requires.code c.args.number c.args.function.now c.args.block.now c.requires.there c.args.table.now c.requires.part c.args.found.now l.table l.found l.spot (drop k xs) l.changed l.invariant;
      there = exit_rows c.args.unit.now c.requires.code c.args.number c.args.function.now c.args.block.now c.requires.there c.args.table.now c.requires.part c.args.found.now l.table l.found l.spot (drop k xs) l.changed l.invariant;
      returned = exit_returned c.args.unit.now c.requires.code c.args.number c.args.function.now c.args.block.now c.requires.there c.args.table.now c.requires.part c.args.found.now l.table l.found l.spot (drop k xs) l.changed l.invariant;
    }

pub returns : goal.returns
returns c =
    let l = c.loop-line in
    let u = c.args.unit.now in
    let i = c.args.number in
    let block = c.args.block.now in
    let xs = block.lines.items in
    let k = l.line-index in
    let same : length c.deref-line-items.result.now ≡ length xs = ap length c.deref-line-items.ensures.value in
    let le : length xs ≤ k = omega arith in
    subst (λ e. FlowedBlock u i block c.args.table.now c.flow_exit.new.table c.args.found.now l.found e) (sym c.either.ensures)
    (block_ends u c.requires.code i c.args.function.now block c.requires.there c.args.table.now c.requires.part c.args.found.now l.table c.flow_exit.new.table l.found l.spot k l.changed c.in_ok-more-2.more le l.invariant c.in_ok-more-2.ensures)
