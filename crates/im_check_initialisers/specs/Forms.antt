-- For private contracts: the parts of an initialiser, and the members of a struct one by one.
use Rattle.std.specs.Prelude.{◌≡◌, ℕ, ◌+◌, ◌∷◌, drop}
use Rattle.im_ctree.specs.Tree as t
use Rattle.im_ctype.specs.declared.member.MemberPlace.{MemberPlace}
use Rattle.im_ctype.specs.Members.{places}
use Rattle.im_ctype.specs.Types.{CType, Member, Structs, members_of}

-- what stands in the braces of an initialiser
abbrev pub listed : t.Initializer → t.Initializers
listed (t.value_initializer e) = t.no_initializers
listed (t.braced_initializer at is) = is

-- behind so many members of a struct stands one of that type, so many bytes from its start
pub record IsMember (known : Structs) (number index : ℕ) (a : CType) (offset : ℕ) : Type 0 where
  pub member : Member
  pub place : MemberPlace
  pub members_from : drop index (members_of known number) ≡ member ∷ drop (index + 1) (members_of known number)
  pub places_from : drop index (places known number) ≡ place ∷ drop (index + 1) (places known number)
  pub type : a ≡ member.type
  pub offset_is : offset ≡ place.offset
