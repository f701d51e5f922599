use Rattle.std.proofs.Common.{◌≡◌, ◌+◌, ◌≤◌, map}
use Rattle.std.specs.List.{range_with_len}
use Rattle.im_gen.specs.Gen.{gen_period, sequence}
use Rattle.im_gen.proofs.periods.trace.Given as goal

abbrev pub invariant-loop : goal.invariant-loop
invariant-loop l =
    (l.periods.items ≡ map (λ k. gen_period l.gap (sequence l.count (l.count + k))) (range_with_len 1 l.counter))
    × (l.word ≡ sequence l.count (l.count + l.counter))
    × (l.counter ≤ 64)
