use Rattle.std.proofs.Common.{◌≡◌, ℕ}
use Rattle.im_ctype.specs.Table.{Table}
use Rattle.im_typed.specs.ProgramOf.{expr_of}
use Rattle.im_check_items.specs.im_rules.StaticValues.{address_of}
use Rattle.im_check_static_values.specs.Spots.{stepped}
use Rattle.im_check_static_values.proofs.steps.static_of.Given as goal

abbrev pub invariant-loop-object : goal.invariant-loop-object
invariant-loop-object l =
    (types : Table) (size : ℕ → ℕ) → stepped size l.steps.items (address_of size (expr_of types l.rest)) ≡ stepped size l.initial.steps.items (address_of size (expr_of types l.fn.e))
