-- Statements, one behind the other.
use Rattle.std.proofs.Common.{◌≡◌, List, [], ◌∷◌, ◌++◌, refl, ap}
use Rattle.im_check_place.specs.im_ctype.Table.{Table}
use Rattle.im_check_place.specs.im_typed.declared.statement.Stmt as rs
use Rattle.im_check_place.specs.im_typed.ProgramOf.{stmt_of}
use Rattle.im_check_place.specs.im_typed.Program as p
use Rattle.im_check_sites.specs.Stmts.{stmts_before}

pub before_one_more : (types : Table) (us : List rs.Stmt) (u : rs.Stmt) (vs : p.Stmts) → stmts_before types us (p.more_stmts (stmt_of types u) vs) ≡ stmts_before types (us ++ u ∷ []) vs
before_one_more types [] u vs = refl
before_one_more types (w ∷ ws) u vs = ap (λ z. p.more_stmts (stmt_of types w) z) (before_one_more types ws u vs)
