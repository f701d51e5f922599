use Rattle.std.proofs.Common.{◌≡◌, take}
use Rattle.std.specs.List.{flat_map}
use Rattle.im_device.specs.Variables.{run_cells}
use Rattle.im_emu.proofs.vars.cells_of.Given as goal

abbrev pub invariant-loop-run : goal.invariant-loop-run
invariant-loop-run g l = l.cells.items ≡ flat_map (run_cells l.objects (g.M.Memory.bytes l.memory) l.object.at) (take l.run-index l.object.runs)
