use Rattle.std.proofs.Common.{◌≡◌, ℕ, nat_eq, take}
use Rattle.std.specs.Option.{option_map}
use Rattle.std.specs.HashMap.{get}
use Rattle.im_ctype.specs.Table.{Table}
use Rattle.im_typed.specs.ProgramOf.{first_of}
use Rattle.im_check_static_values.specs.Given.{given_at}
use Rattle.im_check_static_values.proofs.firsts.by_offset.Given as goal

abbrev pub invariant-loop-one : goal.invariant-loop-one
invariant-loop-one l =
    (types : Table) (k : ℕ) → option_map (first_of types) (get nat_eq l.found k) ≡ given_at types k (take l.one-index l.given)
