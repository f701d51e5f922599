use Rattle.std.proofs.Common.{◌≡◌, ◌≤◌, ◌++◌}
use Rattle.std.specs.List.{flat_map, range_with_len}
use Rattle.std.specs.String.{string_bytes}
use Rattle.im_gen.specs.Gen.{function_text, sequence}
use Rattle.im_gen.proofs.text.write_functions.Given as goal

abbrev pub invariant-loop-k : goal.invariant-loop-k
invariant-loop-k l =
    (string_bytes l.text ≡ string_bytes l.fn.text ++ flat_map (λ k. function_text k (sequence l.count k)) (range_with_len 1 l.k))
    × (l.word ≡ sequence l.count l.k)
    × (l.k ≤ l.count)
