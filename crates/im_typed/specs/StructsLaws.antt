-- What stays the same where a table of types has more structs.
use Rattle.std.specs.Prelude.{◌≡◌, true, Bool, ◌++◌, length}
use Rattle.im_ctype.specs.Table.{Table, structs_of}
use Rattle.im_ctype.specs.Types.{CType, Structs, is_complete}
use Rattle.im_ctype.specs.Layout.{layout}
use Rattle.im_typed.specs.declared.statement.Stmt as rs
use Rattle.im_typed.specs.Program.{Func, Prog}
use Rattle.im_typed.specs.ProgramOf.{stmt_of}
use Rattle.im_typed.specs.Typing.{IsTypedStmt}

-- structs stand behind those that were there
pub record IsLonger (before after : Structs) : Type 0 where
  pub more : Structs
  pub structs : after ≡ before ++ more

-- a statement that is well typed by the shorter table is the same statement by the longer one
abbrev pub StatementsLaw : Type 0
StatementsLaw =
    (before after : Table) (g : Prog) (f : Func) (breaks continues : Bool) (s : rs.Stmt)
    → IsLonger (structs_of before) (structs_of after) → IsTypedStmt g f breaks continues (stmt_of before s)
    → stmt_of after s ≡ stmt_of before s

-- an object of a type that is complete lies in memory as before
abbrev pub ObjectsLaw : Type 0
ObjectsLaw =
    (before after : Structs) (a : CType) → IsLonger before after → is_complete (length before) a ≡ true
    → layout after a ≡ layout before a
