use Rattle.std.proofs.Common.{◌≡◌, take, map}
use Rattle.im_num.specs.Variables.{variable_of}
use Rattle.im_device.specs.Variables.{variable}
use Rattle.im_emu.proofs.vars.variables.Given as goal

abbrev pub invariant-loop-object : goal.invariant-loop-object
invariant-loop-object g l = map variable_of l.vars.items ≡ map (variable l.objects (g.M.Memory.bytes l.memory)) (take l.object-index l.objects)
