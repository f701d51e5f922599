use Rattle.std.proofs.Common.{◌≡◌, ◌≤◌}
use Rattle.im_gen.specs.Gen.{sequence}
use Rattle.im_gen.proofs.periods.last_word.Given as goal

abbrev pub invariant-loop : goal.invariant-loop
invariant-loop l = (l.word ≡ sequence l.count l.counter) × (l.counter ≤ l.count)
