-- What is answered of declarations in a block.
use Rattle.std.specs.Prelude.{◌≡◌, List, ◌++◌}
use Rattle.im_ctree.specs.Tree as t
use Rattle.im_typed.specs.declared.statement.Stmt as rs
use Rattle.im_rules.specs.Statements.{Added, TypedDeclaration}
use Rattle.im_rules.specs.BodyBreaks.{a_declaration}
use Rattle.im_check_initialisers.specs.im_rules_limits.Limits.{IsBodyWithin}
use Rattle.im_check_stop.specs.declared.stop.Stop.{Stop}
use Rattle.im_check_scopes.specs.declared.entity.Entry.{Entry}
use Rattle.im_check_sites.specs.declared.body.Body.{Body}
use Rattle.im_check_sites.specs.declared.position.Position.{Position}
use Rattle.im_check_sites.specs.Sites.{site_of, IsDeclared, IsBodyFault}
use Rattle.im_check_sites.specs.Stmts.{stmts_from}

-- what a declaration leaves: its names, its objects and its string literals behind those before it; what it does stands
-- behind what was done; no size in it is over the limit
pub record DeclarationDone (before after : Body) (done done' : List rs.Stmt) (d : t.Declaration) : Type 0 where
  pub entries : List Entry
  pub added : Added
  pub behind : IsDeclared entries added before after
  pub statements : List rs.Stmt
  pub done_grown : done' ≡ done ++ statements
  pub typed : (w : Position) → TypedDeclaration (site_of before w) d (stmts_from before.place.structs statements) added (site_of after w)
  pub within : (w : Position) → IsBodyWithin (site_of before w) (a_declaration d)

-- wherever it stands
abbrev pub IsDeclarationFault : Body → t.Declaration → Stop → Type 0
IsDeclarationFault before d f = (w : Position) → IsBodyFault before w (a_declaration d) f
