use Rattle.std.proofs.Common.{◌≡◌, ◌⊎◌, inl, inr, Bool, true, false, ◌&&◌, Box, refl, ap, sym, ◌∙◌}
use Rattle.std.specs.Global.{Global}
use Rattle.im_ctree.specs.Shape.{expression_of}
use Rattle.im_ctree.specs.declared.expression.Expression.{Expression}
use Rattle.im_ctree.specs.declared.expression.ExpressionKind as k
use Rattle.im_ctree.specs.declared.operator.BinaryOp.{BinaryOp}
use Rattle.im_check_items.specs.im_ctree_parts.Lists.{expression_in}
use Rattle.im_check_items.specs.im_rules.StaticValues.{is_reached_directly}
use Rattle.im_check_static_values.proofs.reached.+directly.Goals as goal

first_of_both : (a b : Bool) → b ≡ true → (a && b) ≡ a
first_of_both true b h = h
first_of_both false b h = refl

-- of two operands the first one decides where the second one is reached directly
first_decides : (e : Expression) (left right : Box Expression Global) → (e.kind ≡ k.Index left right) ⊎ ((op : BinaryOp) × (e.kind ≡ k.Binary op left right))
    → is_reached_directly (expression_in right.value) ≡ true → is_reached_directly (expression_in e) ≡ is_reached_directly (expression_in left.value)
first_decides e left right (inl is) h =
    ap (λ x. is_reached_directly (expression_of e.at x)) is ∙ first_of_both (is_reached_directly (expression_in left.value)) (is_reached_directly (expression_in right.value)) h
first_decides e left right (inr is) h =
    ap (λ x. is_reached_directly (expression_of e.at x)) is.1 ∙ first_of_both (is_reached_directly (expression_in left.value)) (is_reached_directly (expression_in right.value)) h

pub decided_by-returns-then-is_reached_directly-clause-told : goal.decided_by-returns-then-is_reached_directly-clause-told
decided_by-returns-then-is_reached_directly-clause-told t c =
    let right = ap (λ x. is_reached_directly (expression_in x)) (sym c.deref-in-Index.ensures) ∙ sym c.is_reached_directly.ensures ∙ c.if-is_reached_directly.true in
    let decides = first_decides c.args.e.now c.in-Index.left c.in-Index.right c.in-Index.is right in
    decides ∙ ap (λ x. is_reached_directly (expression_in x)) (sym c.deref-then-is_reached_directly.ensures)
