-- What is counted of arrays and of other types.
use Rattle.std.proofs.Common.{◌≡◌, ◌≤◌, ℕ, Bool, true, false, Box, Global, Result, Ok, Err, MatchResult, refl, subst, sym, arith}
use Rattle.im_ctype.specs.Types.{CType, void, integer, pointer, array, unsized, struct, function, Structs}
use Rattle.im_rules_limits.specs.im_rules.Terms.{size_in}
use Rattle.im_rules_limits.specs.Limits.{size_limit, Counted, own_size, size_in_element}
use Rattle.im_rules_limits.proofs.Counted.{counted-within}
use Rattle.im_types.specs.declared.tree.Type as rust
use Rattle.im_types.specs.Shape.{type_of}
use Rattle.im_check_sizes.specs.Sizes.{IsTooLarge, AllFit, IsOver}
use Rattle.im_check_stop.specs.declared.stop.Stop.{Stop}
use Rattle.im_check_stop.specs.declared.stop.Stop.TheVariants.{Rule, Large, Memory}

pub over_element : (known : Structs) (e : CType) (n : ℕ) (stop : Stop) → IsOver known e stop → IsOver known (array e n) stop
over_element known e n (Rule rule token) h = absurd h
over_element known e n (Large bytes) h = (size_in_element h.0, h.1)
over_element known e n Memory h = tt

-- of an array whose elements are all within the limit

array_fits : (known : Structs) (e : CType) (n : ℕ) → AllFit known e → size_in known (array e n) ≤ size_limit → (k : ℕ) → Counted known (array e n) k → k ≤ size_limit
array_fits known e n all fits k (own_size within) = fits
array_fits known e n all fits k (size_in_element inner) = all k inner

array_over : (known : Structs) (e : CType) (n : ℕ) (stop : Stop) → AllFit known e → IsTooLarge (size_in known (array e n)) stop → IsOver known (array e n) stop
array_over known e n (Rule rule token) all h = absurd h
array_over known e n (Large bytes) all h =
    (subst (λ k. Counted known (array e n) k) (sym h.0) (own_size (counted-within known e all)), h.1)
array_over known e n Memory all h = tt

pub array_told : (known : Structs) (e : CType) (n : ℕ) (result : Result Unit Stop)
    → AllFit known e
    → MatchResult result (λ u. size_in known (array e n) ≤ size_limit) (IsTooLarge (size_in known (array e n)))
    → MatchResult result (λ u. AllFit known (array e n)) (IsOver known (array e n))
array_told known e n (Ok u) all h = array_fits known e n all h
array_told known e n (Err stop) all h = array_over known e n stop all h

-- of a type that is no array

abbrev pub is_no_array : CType → Bool
is_no_array (array e n) = false
is_no_array a = true

other_fits : (known : Structs) (a : CType) → is_no_array a ≡ true → size_in known a ≤ size_limit → (k : ℕ) → Counted known a k → k ≤ size_limit
other_fits known a other fits k (own_size within) = fits
other_fits known a other fits k (size_in_element inner) = absurd cc

other_counted : (known : Structs) (a : CType) → is_no_array a ≡ true → Counted known a (size_in known a)
other_counted known void other = own_size (omega arith)
other_counted known (integer i) other = own_size (omega arith)
other_counted known (pointer c a) other = own_size (omega arith)
other_counted known (array e n) other = absurd cc
other_counted known (unsized e) other = own_size (omega arith)
other_counted known (struct n) other = own_size (omega arith)
other_counted known (function r ps) other = own_size (omega arith)

other_over : (known : Structs) (a : CType) (stop : Stop) → is_no_array a ≡ true → IsTooLarge (size_in known a) stop → IsOver known a stop
other_over known a (Rule rule token) other h = absurd h
other_over known a (Large bytes) other h = (subst (λ k. Counted known a k) (sym h.0) (other_counted known a other), h.1)
other_over known a Memory other h = tt

pub other_told : (known : Structs) (a : CType) (result : Result Unit Stop)
    → is_no_array a ≡ true
    → MatchResult result (λ u. size_in known a ≤ size_limit) (IsTooLarge (size_in known a))
    → MatchResult result (λ u. AllFit known a) (IsOver known a)
other_told known a (Ok u) other h = other_fits known a other h
other_told known a (Err stop) other h = other_over known a stop other h

pub plain_of : (a : rust.Type) → ((x : Box rust.Type Global) (n : ℕ) → a ≡ rust.Array x n → ⊥) → is_no_array (type_of a) ≡ true
plain_of rust.Void other = refl
plain_of (rust.Integer i) other = refl
plain_of (rust.Pointer' c b e) other = refl
plain_of (rust.Array' b e n) other = absurd (other (record { ptr = b.ptr; alloc = b.alloc; value = e }) n refl)
plain_of (rust.Unsized' b e) other = refl
plain_of (rust.Struct n) other = refl
plain_of (rust.Function' b r shape ps) other = refl
