use Rattle.std.proofs.Common.{◌≡◌, IfOk, Box, ap, sym, subst, ◌∙◌, rules}
use Rattle.std.specs.Global.{Global}
use Rattle.std.proofs.lemmas.Int.{to_z-of_z}
use Rattle.im_ctype.specs.Table.{Table}
use Rattle.im_typed.specs.declared.expression.Expr as rust
use Rattle.im_typed.specs.Program as p
use Rattle.im_typed.specs.ProgramOf.{expr_of}
use Rattle.im_check_static_values.proofs.constant.+annotated.Goals as goal
use mir.Syntax.{w128}
use mir.Val.{SFits}

-- an operand out of its box, beside the box that the expression has there
operand : (types : Table) (a : p.Expr) (taken read : rust.Expr) (there place : Box rust.Expr Global) → a ≡ expr_of types taken → taken ≡ read → read ≡ there.value → there ≡ place → a ≡ expr_of types place.value
operand types a taken read there place e f g h =
    e ∙ ap (expr_of types) (f ∙ g ∙ ap (λ (b : Box rust.Expr Global). b.value) h)

chosen : (a b d w x y whole : p.Expr) → a ≡ w → b ≡ x → d ≡ y → whole ≡ p.Choose w x y → p.Choose a b d ≡ whole
chosen a b d w x y whole test first second e =
    ap (λ z. p.Choose z b d) test ∙ ap (λ z. p.Choose w z d) first ∙ ap (λ z. p.Choose w x z) second ∙ sym e

pub annotated_form-returns-in-Number : goal.annotated_form-returns-in-Number
annotated_form-returns-in-Number t c = λ types.
    let f : SFits w128 c.in-Number.z = search rules in
    let e = ap (λ z. p.Constant c.in-Number.kind z) (to_z-of_z w128 c.in-Number.z f) ∙ sym (ap (expr_of types) c.in-Number.is) in
    subst (λ x. IfOk c.constant.result (λ a. expr_of types a.tree ≡ x)) e (c.constant.ensures types)

pub annotated_form-returns-in_ok-y-in-Choose : goal.annotated_form-returns-in_ok-y-in-Choose
annotated_form-returns-in_ok-y-in-Choose t c = λ types.
    let e = ap (expr_of types) c.in-Choose.is in
    let w : expr_of types c.in_ok-w-in-Choose.w.tree ≡ expr_of types c.in-Choose.test.value =
    operand types _ _ _ _ _ (c.in_ok-w-in-Choose.ensures types) c.taken-in-Choose.ensures c.deref_mut-in-Choose.ensures.value c.in-Choose.test-is in
    let x : expr_of types c.in_ok-x-in-Choose.x.tree ≡ expr_of types c.in-Choose.first.value =
    operand types _ _ _ _ _ (c.in_ok-x-in-Choose.ensures types) c.taken-in-Choose-2.ensures c.deref_mut-in-Choose-2.ensures.value c.in-Choose.first-is in
    let y : expr_of types c.in_ok-y-in-Choose.y.tree ≡ expr_of types c.in-Choose.second.value =
    operand types _ _ _ _ _ (c.in_ok-y-in-Choose.ensures types) c.taken-in-Choose-3.ensures c.deref_mut-in-Choose-3.ensures.value c.in-Choose.second-is in
    let same = chosen _ _ _ _ _ _ (expr_of types c.args.e) w x y e in
    subst (λ z. IfOk c.choice.result (λ a. expr_of types a.tree ≡ z)) same (c.choice.ensures types)
