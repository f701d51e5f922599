-- Which words derive an expression where one stands that binds as tightly as a number says (C11 6.5.1 to 6.5.17).
use Rattle.std.specs.Prelude.{ℕ, ◌+◌, ◌≤◌, List}
use Rattle.im_word.specs.Words.{Name, Word}
use Rattle.im_ctree.specs.Tree as t
use Rattle.im_ctree.specs.Grammar as g

-- 0 an expression, 1 an assignment, 2 `?:`, 3 to 12 the levels of binary operators, 13 a cast, 14 a unary expression, 15 a postfix
-- one, 16 a primary one
pub data BindsAt (T : List Name) : ℕ → ℕ → t.Expression → List Word → Type 0 where
  as_expression : {p : ℕ} {e : t.Expression} {u : List Word} → g.IsExpression T p e u → BindsAt T 0 p e u
  as_assignment : {p : ℕ} {e : t.Expression} {u : List Word} → g.IsAssignment T p e u → BindsAt T 1 p e u
  as_conditional : {p : ℕ} {e : t.Expression} {u : List Word} → g.IsConditional T p e u → BindsAt T 2 p e u
  as_binary : {n p : ℕ} {e : t.Expression} {u : List Word} → n ≤ 10 → g.IsBinary T n p e u → BindsAt T (3 + n) p e u
  as_unary : {p : ℕ} {e : t.Expression} {u : List Word} → g.IsUnary T p e u → BindsAt T 14 p e u
  as_postfix : {p : ℕ} {e : t.Expression} {u : List Word} → g.IsPostfix T p e u → BindsAt T 15 p e u
  as_primary : {p : ℕ} {e : t.Expression} {u : List Word} → g.IsPrimary T p e u → BindsAt T 16 p e u
