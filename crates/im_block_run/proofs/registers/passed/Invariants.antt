use Rattle.std.proofs.Common.{◌≡◌, ℕ, ◌+◌, ◌-◌, ◌&&◌, get_or}
use Rattle.std.specs.Prelude.{nat_le, nat_lt, if◌then◌else◌}
use Rattle.im_eval_store.specs.declared.value.Value.TheVariants.{Unset}
use Rattle.im_block_run.proofs.registers.passed.Given as goal

abbrev pub invariant-loop-number : goal.invariant-loop-number
invariant-loop-number l =
    (r : ℕ) → get_or l.new.items r Unset ≡ (if nat_le l.to r && nat_lt r (l.to + l.number) then get_or l.registers (l.first + (r - l.to)) Unset else Unset)
