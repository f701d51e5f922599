use Rattle.std.proofs.Common.{◌≡◌, ◌+◌, ◌≤◌, drop}
use Rattle.im_select_relation.specs.Jumps.{jumps_in}
use Rattle.im_select.proofs.leads.jumps_in.Given as goal

-- those that are counted and those that are left
abbrev pub invariant-loop-block : goal.invariant-loop-block
invariant-loop-block l = (l.count + jumps_in (drop l.block-index l.blocks) ≡ jumps_in l.blocks) × (l.count ≤ l.block-index)
