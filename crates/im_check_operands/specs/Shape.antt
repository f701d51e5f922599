-- The values, terms and operands of the definitions that Rust values stand for, by the table of their types.
use Rattle.im_ctype.specs.Table.{Table}
use Rattle.im_types.specs.Shape.{type_of}
use Rattle.im_typed.specs.ProgramOf.{expr_of, place_of}
use Rattle.im_check_constancy.specs.im_rules.Rules.{Operand}
use Rattle.im_check_constancy.specs.im_rules.Terms as r
use Rattle.im_check_operands.specs.declared.operand.Operand as ro
use Rattle.im_check_operands.specs.declared.term.Value as rv
use Rattle.im_check_operands.specs.declared.term.Term.{Term}
use Rattle.im_check_operands.specs.declared.term.Term.TheVariants.{Lvalue, Value}

abbrev pub value_in : Table → rv.Value → r.Value
value_in types v = record { type = type_of v.ty; expr = expr_of types v.expr.tree }

abbrev pub term_in : Table → Term → r.Term
term_in types (Lvalue constant ty place) = r.lvalue constant (type_of ty) (place_of types place)
term_in types (Value v) = r.value (value_in types v)

-- what the rules see of a term
abbrev pub seen : ro.Operand → Operand
seen o = record { is_lvalue = o.is_lvalue; constant = o.constant; type = type_of o.ty.now; is_null = o.is_null }
