-- The statements of the definitions that Rust values stand for.
use Rattle.std.specs.Prelude.{List, [], ◌∷◌}
use Rattle.im_check_place.specs.im_ctype.Table.{Table}
use Rattle.im_check_place.specs.im_typed.declared.statement.Stmt as rs
use Rattle.im_check_place.specs.im_typed.ProgramOf.{stmt_of}
use Rattle.im_check_place.specs.im_typed.Program as p

-- statements in order, and those behind them
abbrev pub stmts_before : Table → List rs.Stmt → p.Stmts → p.Stmts
stmts_before types [] rest = rest
stmts_before types (u ∷ us) rest = p.more_stmts (stmt_of types u) (stmts_before types us rest)

abbrev pub stmts_from : Table → List rs.Stmt → p.Stmts
stmts_from types us = stmts_before types us p.no_stmts
