-- A member of a struct, as the table has it.
use Rattle.std.specs.Prelude.{◌≡◌, true}
use Rattle.im_check_conversions.specs.im_word.Words.{Name}
use Rattle.im_ctype.specs.Table.{Table, IsIn, type_at, structs_of}
use Rattle.im_ctype.specs.Types.{CType, members_of}
use Rattle.im_ctype.specs.Members.{places}
use Rattle.im_check_conversions.specs.im_rules.TypeTests.{has_member, members_in}
use Rattle.im_check_conversions.specs.im_rules.Conversions.{member_among, place_among, struct_number}
use Rattle.im_check_members.specs.declared.found.Found.{Found}

-- the member of that name of the struct type
pub record IsFound (types : Table) (t : CType) (x : Name) (f : Found) : Type 0 where
  pub known : IsIn types f.ty
  pub named : has_member x (members_in (structs_of types) t) ≡ true
  pub constant : f.constant ≡ (member_among x (members_of (structs_of types) (struct_number t))).constant
  pub type : type_at types f.ty ≡ (member_among x (members_of (structs_of types) (struct_number t))).type
  pub place : f.place ≡ place_among x (members_of (structs_of types) (struct_number t)) (places (structs_of types) (struct_number t))
