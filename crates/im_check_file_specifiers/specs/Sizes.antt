-- For private contracts: sizes of a struct and of its members.
use Rattle.std.specs.Prelude.{◌≡◌, ◌⊎◌, ◌<◌, ◌≤◌, ℕ, List, Contains}
use Rattle.im_ctype.specs.Types.{struct, Member, Structs}
use Rattle.im_rules.specs.Terms.{size_in}
use Rattle.im_rules_limits.specs.Limits.{size_limit, Counted, AreMembersWithin}
use Rattle.im_check_sizes.specs.Sizes.{AllFit}
use Rattle.im_check_stop.specs.declared.stop.Stop.{Stop}
use Rattle.im_check_stop.specs.declared.stop.Stop.TheVariants.{Rule, Large, Memory}

-- each size that is counted of a member's type is within the limit
abbrev pub MembersFit : Structs → List Member → Type 0
MembersFit known ms = (m : Member) → Contains ms m → AllFit known m.type

-- a size that is counted of a member's type
abbrev pub MemberCounted : Structs → List Member → ℕ → Type 0
MemberCounted known ms bytes = (m : Member) × Contains ms m × Counted known m.type bytes

-- one is over the limit
abbrev pub IsMemberOver : Structs → List Member → Stop → Type 0
IsMemberOver known ms (Rule rule token) = ⊥
IsMemberOver known ms (Large bytes) = MemberCounted known ms bytes × (size_limit < bytes)
IsMemberOver known ms Memory = Unit {0}

-- the struct of that number is within the limit too
abbrev pub StructFits : Structs → List Member → ℕ → Type 0
StructFits known ms n = MembersFit known ms × (size_in known (struct n) ≤ size_limit)

-- a size of a member, or of the struct whose members are all within the limit
abbrev pub StructCounted : Structs → List Member → ℕ → ℕ → Type 0
StructCounted known ms n bytes = MemberCounted known ms bytes ⊎ (AreMembersWithin known ms × (bytes ≡ size_in known (struct n)))

abbrev pub IsStructOver : Structs → List Member → ℕ → Stop → Type 0
IsStructOver known ms n (Rule rule token) = ⊥
IsStructOver known ms n (Large bytes) = StructCounted known ms n bytes × (size_limit < bytes)
IsStructOver known ms n Memory = Unit {0}
