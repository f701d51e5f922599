use Rattle.std.proofs.Common.{◌∙◌, ap, subst, Some}
use Rattle.im_ctype.specs.Layout.{layout_at, layouts}
use Rattle.im_ctype.specs.Table.{structs_of}
use Rattle.im_typed.specs.declared.expression.Access.{Access}
use Rattle.im_typed.specs.declared.expression.Access.TheVariants.{Struct}
use Rattle.im_typed.specs.declared.expression.Expr.{Expr}
use Rattle.im_typed.specs.ProgramOf.{expr_of}
use Rattle.im_eval_machine.specs.Small.{small_expr}
use Rattle.im_eval_store.specs.Shown.{shown}
use Rattle.im_eval_tasks.specs.Stack.{Valued, continues, in_activation, then_valued}
use Rattle.im_eval_tasks.specs.Tasks.{Reads, evaluates_for, operand_in, place_in, stores}
use Rattle.im_eval_tasks.proofs.Sources.{source-comes}
use Rattle.im_eval_tasks.proofs.store.begin_store.Goals as goal

pub returns-in-Scalar : goal.returns-in-Scalar
returns-in-Scalar c = λ types g n here ts s.
    let around = in_activation types g n here in
    let at = shown c.args.target in
    let value = operand_in types c.args.value in
    rw c.in-Scalar.is (c.evaluate_for.ensures types g n here ts s
    ∙ ap (λ (e : Expr). then_valued types g n here ts (evaluates_for types around c.args.access at (small_expr (expr_of types e))) s) c.deref.ensures
    ∙ ap (λ (x : Access). then_valued types g n here ts (evaluates_for types around x at value) s) c.in-Scalar.is)

pub returns-in-Some : goal.returns-in-Some
returns-in-Some c = λ types g n here ts s.
    let w = c.in-Struct in
    let from = c.in-Some.from in
    let reads = subst (λ (e : Expr). Reads types (small_expr (expr_of types e)) (Some from)) c.deref-in-Struct.ensures (c.in-Some.ensures types) in
    rw w.is (source-comes (in_activation types g n here) w.cells (layout_at (layouts (structs_of types)) w.number).cells (shown c.args.target)
    (operand_in types c.args.value) (stores types (Struct w.number w.cells) (shown c.args.target)) (λ vs. continues types g n here ts (Valued vs)) s
    (place_in types from) reads.0 (reads.1 (in_activation types g n here)))
