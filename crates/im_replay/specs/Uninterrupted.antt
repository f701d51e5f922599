-- The run of one endless period, from the end of its first recovery on.
use Rattle.std.specs.Prelude.{ℕ, ◌+◌}
use Rattle.im_mem.specs.Memory.{Mem}
use Rattle.im_device.specs.Run.{Moment}
use Rattle.im_ckpt.specs.Runs.{State}
use Rattle.im_ckpt.specs.Laws.{resuming}

abbrev pub state_of : Moment → State
state_of x = record { cpu = x.cpu; mem = x.mem }

-- power came once, with 0 in all registers, and t instructions followed those of recovery
unfoldable pub uninterrupted : Mem → ℕ → State
uninterrupted m t = state_of (resuming (33 + t) 0 m)
