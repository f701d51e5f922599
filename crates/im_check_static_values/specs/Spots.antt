-- For private contracts: the places that Rust values stand for, and the steps to them.
use Rattle.std.specs.Prelude.{ℕ, ◌+◌, ℤ, pos, neg_ℤ, ◌*ℤ◌, List, [], ◌∷◌, Option, Some, None, if◌then◌else◌}
use Rattle.im_ctype.specs.Table.{Table}
use Rattle.im_typed.specs.declared.expression.Expr.{size-Expr}
use Rattle.im_typed.specs.ProgramOf.{expr_of}
use Rattle.im_check_items.specs.im_rules.StaticValues as v
use Rattle.im_check_static_values.specs.declared.address.Spot.{Spot}
use Rattle.im_check_static_values.specs.declared.steps.Step.{Step}
use Rattle.im_check_static_values.specs.declared.steps.Step.TheVariants.{Elements, Member}
use Rattle.im_check_static_values.specs.declared.steps.Root.{Root}
use Rattle.im_check_static_values.specs.declared.steps.Root.TheVariants.{Static, Nowhere, Pointer}

abbrev pub spot_in : Spot → v.Spot
spot_in s = record { object = s.object; offset = s.offset }

-- the bytes of a step
abbrev pub bytes_of : Step → ℤ
bytes_of (Elements bytes back by) = if back then neg_ℤ (by.value *ℤ pos bytes) else by.value *ℤ pos bytes
bytes_of (Member offset) = pos offset

-- a place moved by steps, the last one first
abbrev pub stepped : (ℕ → ℕ) → List Step → Option v.Spot → Option v.Spot
stepped size [] s = s
stepped size (x ∷ xs) s = v.moved_spot size (stepped size xs s) (Some (bytes_of x))

-- where a static begins
abbrev pub beginning : Option ℕ → Option v.Spot
beginning None = None
beginning (Some n) = Some (record { object = n; offset = 0 })

-- where steps begin
abbrev pub root_spot : Table → (ℕ → ℕ) → Root → Option v.Spot
root_spot types size (Static n) = beginning (Some n)
root_spot types size Nowhere = None
root_spot types size (Pointer e) = v.address_of size (expr_of types e)

-- the depth of an expression in which such a pointer is the operand
abbrev pub depth_over : Root → ℕ
depth_over (Static object) = 0
depth_over Nowhere = 0
depth_over (Pointer e) = size-Expr e + 1
