-- A type is within the limit where each size that is counted of it is.
use Rattle.std.proofs.Common.{◌≤◌, ℕ, arith}
use Rattle.im_rules.specs.im_ctype.Types.{CType, void, integer, pointer, array, unsized, struct, function, Structs}
use Rattle.im_rules.specs.Terms.{size_in}
use Rattle.im_rules_limits.specs.Limits.{size_limit, Counted, own_size, size_in_element}

pub counted-within : (known : Structs) (a : CType) → ((k : ℕ) → Counted known a k → k ≤ size_limit) → size_in known a ≤ size_limit
counted-within known void h = h (size_in known void) (own_size (omega arith))
counted-within known (integer i) h = h (size_in known (integer i)) (own_size (omega arith))
counted-within known (pointer k a) h = h (size_in known (pointer k a)) (own_size (omega arith))
counted-within known (array e n) h = h (size_in known (array e n)) (own_size (counted-within known e (λ k s. h k (size_in_element s))))
counted-within known (unsized e) h = h (size_in known (unsized e)) (own_size (omega arith))
counted-within known (struct n) h = h (size_in known (struct n)) (own_size (omega arith))
counted-within known (function r ps) h = h (size_in known (function r ps)) (own_size (omega arith))
