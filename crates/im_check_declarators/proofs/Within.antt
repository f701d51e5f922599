-- Sizes in suffixes are within the limit where those of their parts are.
use Rattle.std.proofs.Common.{◌≤◌, ℕ, subst}
use Rattle.im_ctree.specs.Tree as t
use Rattle.im_rules.specs.Context.{Context, in_new_scope, behind, behind_parameters}
use Rattle.im_rules.specs.Declared.{Qualified, array_of}
use Rattle.im_rules.specs.Terms.{Term, constant_in, size_in}
use Rattle.im_rules.specs.Typed.{Typed, Suffixed}
use Rattle.im_rules.specs.Breaks.{an_expression, some_suffixes, some_parameters, behind_length, length_part, behind_no_length, behind_function, parameters_part}
use Rattle.im_rules.proofs.Once.{once, suffixed_once}
use Rattle.im_check_sizes.specs.im_rules_limits.Limits.{size_limit, of_array, size_here, size_within, IsWithin}

pub none_within : (c : Context) (base : Qualified) → IsWithin c (some_suffixes base t.no_suffixes)
none_within c base k (size_here h) = elim h [ ]
none_within c base k (size_within p s) = elim p [ ]

pub array_within : {c : Context} {base q : Qualified} {at : ℕ} {e : t.Expression} {ss : t.Suffixes} {x : Term} → Suffixed (behind e c) base ss q → Typed c e x
    → size_in c.known (array_of q (constant_in x)).type ≤ size_limit → IsWithin (behind e c) (some_suffixes base ss) → IsWithin c (an_expression e)
    → IsWithin c (some_suffixes base (t.array_suffix at (t.an_expression e) ss))
array_within {c = c} {q = q} s h fits rest length k (size_here (of_array {x = y} s' h' m f)) =
    let one : size_in c.known (array_of q (constant_in y)).type ≤ size_limit = subst (λ (z : Term). size_in c.known (array_of q (constant_in z)).type ≤ size_limit) (once h h') fits in
    subst (λ (r : Qualified). size_in c.known (array_of r (constant_in y)).type ≤ size_limit) (suffixed_once s s') one
array_within s h fits rest length k (size_within behind_length z) = rest k z
array_within s h fits rest length k (size_within length_part z) = length k z

pub open_within : {c : Context} {base : Qualified} {at : ℕ} {ss : t.Suffixes} → IsWithin c (some_suffixes base ss) → IsWithin c (some_suffixes base (t.array_suffix at t.no_expression ss))
open_within rest k (size_here h) = elim h [ ]
open_within rest k (size_within behind_no_length z) = rest k z

pub function_within : {c : Context} {base : Qualified} {at : ℕ} {ps : t.Parameters} {ss : t.Suffixes} → IsWithin (in_new_scope c) (some_parameters 0 ps) → IsWithin (behind_parameters ps c) (some_suffixes base ss)
    → IsWithin c (some_suffixes base (t.function_suffix at ps ss))
function_within parameters rest k (size_here h) = elim h [ ]
function_within parameters rest k (size_within behind_function z) = rest k z
function_within parameters rest k (size_within parameters_part z) = parameters k z
