use Rattle.std.proofs.Common.{◌≡◌, drop}
use Rattle.im_alloc.specs.Numbers.{past_functions}
use Rattle.im_alloc.proofs.numbers.past_all.Given as goal

abbrev pub invariant-loop-function : goal.invariant-loop-function
invariant-loop-function l = past_functions l.next (drop l.function-index l.functions) ≡ past_functions 0 l.functions
