use Rattle.std.proofs.Common.{◌≡◌, IfOk, sym, subst}
use Rattle.im_ctype.specs.Table.{structs_of}
use Rattle.im_ctype.specs.Types.{CType}
use Rattle.im_typed.specs.Program.{Expr}
use Rattle.im_typed.specs.ProgramOf.{place_of}
use Rattle.im_check_operations.specs.im_rules.Conversions.{updated}
use Rattle.im_types.specs.Shape.{type_of}
use Rattle.im_check_operands.specs.Shape.{value_in}
use Rattle.im_check_operations.proofs.AssignmentsNoIntegers.{updated-else}
use Rattle.im_check_operations.proofs.assignments.updated.Goals as goal

pub returns-in-Some : goal.returns-in-Some
returns-in-Some c =
    let t = c.args.table.now in
    let p = place_of t c.args.place in
    let y = value_in t c.args.y in
    subst (λ (ty : CType). IfOk c.updated_number.result (λ v. value_in t v ≡ record { type = ty; expr = updated (structs_of t) c.args.op ty p y })) (sym c.in-Some.ensures) (c.updated_number.ensures t)

pub returns-in-None : goal.returns-in-None
returns-in-None c =
    let t = c.args.table.now in
    let p = place_of t c.args.place in
    let y = value_in t c.args.y in
    let ty = type_of c.args.ty in
    subst (λ (e : Expr). IfOk c.updated_pointer.result (λ v. value_in t v ≡ record { type = ty; expr = e })) (sym (updated-else (structs_of t) c.args.op ty p y c.in-None.ensures)) c.updated_pointer.ensures
