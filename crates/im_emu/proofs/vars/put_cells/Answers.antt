use Rattle.std.proofs.Common.{◌+◌, ◌*◌, ◌∙◌, ap}
use Rattle.im_num.specs.Kinds.{kind_size}
use Rattle.im_emu.proofs.Layouts.{next_cell, cell_put}
use Rattle.im_emu.proofs.vars.put_cells.Goals as goal

pub loop-preserved : goal.loop-preserved
loop-preserved g c =
    let kind = c.args.run.now.kind in
    let first = c.args.at + c.args.run.now.offset in
    record {
      place = ap (λ next. next + c.size_of-size.result) c.loop.invariant.place
          ∙ ap (λ size. first + c.loop.counter * kind_size kind + size) c.size_of-size.ensures
          ∙ next_cell kind first c.loop.counter;
      cells = cell_put c.args.objects.now (g.M.Memory.bytes c.args.memory.now) kind first c.loop.counter c.loop.next c.cell_at.result c.args.cells.now.items c.loop.cells.items c.push.new.self.items c.loop.invariant.place c.loop.invariant.cells c.cell_at.ensures c.in_ok-push.ensures.items;
    }
