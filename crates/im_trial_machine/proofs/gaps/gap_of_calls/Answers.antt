use Rattle.std.proofs.Common.{ℕ, List, sym, subst}
use Rattle.im_gap.specs.Gap.{HasGap}
use Rattle.im_gap.proofs.Calls.{calls_law}
use Rattle.im_trial_machine.proofs.gaps.gap_of_calls.Goals as goal

pub gap-requires-clause-defined : goal.gap-requires-clause-defined
gap-requires-clause-defined c = subst (λ (z : List ℕ). HasGap z 0x1000) (sym c.in_ok-from_slice.ensures.items) calls_law
