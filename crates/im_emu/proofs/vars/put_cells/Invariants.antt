use Rattle.std.proofs.Common.{◌≡◌, ◌+◌, ◌*◌, ◌++◌}
use Rattle.im_num.specs.Kinds.{kind_size}
use Rattle.im_device.specs.Variables.{cells_from}
use Rattle.im_emu.proofs.vars.put_cells.Given as goal

abbrev pub invariant-loop : goal.invariant-loop
invariant-loop g l =
    let kind = l.run.kind in
    let first = l.at + l.run.offset in
    record {
      place : l.next ≡ first + l.counter * kind_size kind;
      cells : l.cells.items ≡ l.fn.cells.items ++ cells_from l.objects (g.M.Memory.bytes l.memory) kind first l.counter;
    }
