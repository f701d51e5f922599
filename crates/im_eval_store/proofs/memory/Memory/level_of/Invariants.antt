use Rattle.std.proofs.Common.{◌≡◌, ◌≤◌, ◌-◌, drop, length}
use Rattle.im_eval_store.specs.Living.{activation_at}
use Rattle.im_eval_store.proofs.memory.Memory.level_of.Given as goal

abbrev pub invariant-search : goal.invariant-search
invariant-search l = (l.at ≤ length l.self.activations.items) × (activation_at (drop l.at l.self.activations.items) l.number ≡ activation_at l.self.activations.items l.number)

abbrev pub decreases-search : goal.decreases-search
decreases-search l = length l.self.activations.items - l.at
