-- Arguments as lists.
use Rattle.std.specs.Prelude.{List, [], ◌∷◌, map}
use Rattle.im_ctype.specs.Table.{Table}
use Rattle.im_typed.specs.Program as p
use Rattle.im_typed.specs.ProgramOf.{expr_of}
use Rattle.im_typed.specs.declared.expression.Expr as re
use Rattle.im_check_conversions.specs.im_rules.Terms as r
use Rattle.im_check_operands.specs.declared.term.Term.{Term}
use Rattle.im_check_operands.specs.Shape.{term_in}

abbrev pub terms_in : Table → List Term → List r.Term
terms_in types xs = map {A = Term} (term_in types) xs

abbrev pub exprs_from : Table → List re.Expr → p.Exprs
exprs_from types [] = p.no_exprs
exprs_from types (e ∷ es) = p.more_exprs (expr_of types e) (exprs_from types es)
