-- For private contracts: an expression within conversions.
use Rattle.std.specs.Prelude.{List, [], ◌∷◌}
use Rattle.im_num.specs.declared.kind.Kind.{Kind}
use Rattle.im_typed.specs.Program.{Expr, Convert}

-- the last one first
abbrev pub converted : List Kind → Expr → Expr
converted [] e = e
converted (k ∷ ks) e = Convert k (converted ks e)
