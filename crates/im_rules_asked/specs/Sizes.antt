-- The sizes that count of a type that a node names or completes, in bytes (`HasSize`, `Counted` of im_rules_limits): of types in
-- one another the innermost first, and what holds one over the limit isn't counted.
use Rattle.std.specs.Prelude.{ℕ, Bool, true, ◌&&◌, List, [], ◌∷◌, ◌++◌, nat_le, if◌then◌else◌}
use Rattle.im_rules.specs.im_ctype.Types.{CType, array, struct, Member, Structs}
use Rattle.im_rules.specs.Terms.{size_in}
use Rattle.im_rules_limits.specs.Limits.{size_limit}

abbrev pub is_within : ℕ → Bool
is_within n = nat_le n size_limit

-- of what holds something of that size
abbrev pub where_within : Bool → ℕ → List ℕ
where_within h n = if h then n ∷ [] else []

-- of a type with the elements in it
abbrev pub counted : Structs → CType → List ℕ
counted known (array e n) = counted known e ++ where_within (is_within (size_in known e)) (size_in known (array e n))
counted known a = size_in known a ∷ []

-- of a struct, given its members and its number

abbrev pub members_counted : Structs → List Member → List ℕ
members_counted known [] = []
members_counted known (m ∷ ms) = counted known m.type ++ members_counted known ms

abbrev pub are_within : Structs → List Member → Bool
are_within known [] = true
are_within known (m ∷ ms) = is_within (size_in known m.type) && are_within known ms

abbrev pub struct_counted : Structs → List Member → ℕ → List ℕ
struct_counted known ms n = members_counted known ms ++ where_within (are_within known ms) (size_in known (struct n))
