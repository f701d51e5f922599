-- For private contracts: members whose types stand in a table.
use Rattle.std.specs.Prelude.{◌≡◌, true, List, length}
use Rattle.im_ctype.specs.declared.member.Member as rust
use Rattle.im_ctype.specs.Kept.{AreMembersIn}
use Rattle.im_ctype.specs.Layout.{MembersAreComplete}
use Rattle.im_ctype.specs.Table.{Table, IsIn, member_in, members_in, types_of}
use Rattle.im_ctype.specs.Types.{Member, is_complete}

pub record IsEntered (t : Table) (f : Member) (m : rust.Member) : Type 0 where
  pub known : IsIn t m.ty
  pub same : member_in (types_of t) m ≡ f
  pub complete : is_complete (length t.structs) f.type ≡ true

pub record AreEntered (t : Table) (fs : List Member) (ms : List rust.Member) : Type 0 where
  pub known : AreMembersIn (length t.nodes) ms
  pub same : members_in (types_of t) ms ≡ fs
  pub complete : MembersAreComplete (length t.structs) fs
