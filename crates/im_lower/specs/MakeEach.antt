-- Expressions and statements in a row, as the code has them in lists. Private contracts alone speak of this.
use Rattle.std.specs.Prelude.{ℕ, ◌+◌, List, [], ◌∷◌, length}
use Rattle.im_ctype.specs.Table.{Table}
use Rattle.im_typed.specs.declared.expression.Expr.{Expr}
use Rattle.im_typed.specs.declared.statement.Stmt.{Stmt}
use Rattle.im_typed.specs.Program.{Prog}
use Rattle.im_typed.specs.ProgramOf.{expr_of, stmt_of}
use Rattle.im_block.specs.declared.unit.Object.{Object}
use Rattle.im_lower_plain.specs.Made.{Made, close}
use Rattle.im_lower_plain.specs.Make.{make}
use Rattle.im_lower_plain.specs.MakeStatement.{make_statement}

module _ (g : Prog) (first : ℕ) (types : Table) where
  -- arguments, side by side from a register on
  abbrev pub make_each : List Expr → ℕ → Made → Made
  make_each [] free m = m
  make_each (e ∷ es) free m = make g first (expr_of types e) free (free + 1) (make_each es (free + 1) m)

  module _ (low : ℕ) (os : List Object) (breaks continues : ℕ) where
    -- statements in order
    abbrev pub make_in_order : List Stmt → Made → Made
    make_in_order [] m = m
    make_in_order (s ∷ ss) m = make_statement g first low os (stmt_of types s) breaks continues (make_in_order ss m)

    -- each begins a block, and so does what is behind them; the first one's is open
    abbrev pub make_marked : List Stmt → Made → Made
    make_marked [] m = m
    make_marked (s ∷ ss) m = make_statement g first low os (stmt_of types s) breaks continues (close (make_marked ss m))

    -- the numbers of these blocks
    abbrev pub marks_of : List Stmt → Made → List ℕ
    marks_of [] m = length m.blocks ∷ []
    marks_of (s ∷ ss) m = length (make_marked (s ∷ ss) m).blocks ∷ marks_of ss m
