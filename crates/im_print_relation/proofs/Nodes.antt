-- The words of each node of an expression derive the node again, where those of its parts do.
use Rattle.std.proofs.Common.{◌≡◌, ℕ, suc, ◌+◌, ◌≤◌, ◌<◌, Bool, true, false, cond, nat_lt, List, [], ◌∷◌, ◌++◌, length, subst, refl, arith, append-nil}
use Rattle.std.proofs.lemmas.Bool.Decides.{nat_tests}
use Rattle.std.specs.List.{Contains}
use Rattle.im_tok.specs.declared.number.Number.{Number}
use Rattle.im_tok.specs.declared.punctuator.Punctuator.{Punctuator}
use Rattle.im_tok.specs.declared.punctuator.Punctuator.TheVariants.{OpenBracket, CloseBracket, OpenParen, CloseParen, Dot, Arrow, Question, Colon, Comma}
use Rattle.im_word.specs.Words.{Name, Word, name, number, character, text, mark}
use Rattle.im_ctree.specs.declared.operator.StepOp.{StepOp}
use Rattle.im_ctree.specs.declared.operator.StepOp.TheVariants as step
use Rattle.im_ctree.specs.declared.operator.UnaryOp.{UnaryOp}
use Rattle.im_ctree.specs.declared.operator.UnaryOp.TheVariants as unary
use Rattle.im_ctree.specs.declared.operator.BinaryOp.{BinaryOp}
use Rattle.im_ctree.specs.declared.operator.BinaryOp.TheVariants as binary
use Rattle.im_ctree.specs.declared.operator.AssignOp.{AssignOp}
use Rattle.im_ctree.specs.declared.operator.AssignOp.TheVariants as assign
use Rattle.im_ctree.specs.Operators as op
use Rattle.im_ctree.specs.Tree as t
use Rattle.im_ctree.specs.Grammar as g
use Rattle.im_print_relation.specs.Printed as w
use Rattle.im_print_relation.specs.Unnumbered as bare
use Rattle.im_print_relation.specs.Fit.{IsFit, AreFit}
use Rattle.im_print_relation.proofs.Fit.{fit_append, fit_closed, fit_parentheses, Printed}
use Rattle.im_print_relation.specs.Levels.{BindsAt, as_expression, as_assignment, as_conditional, as_binary, as_unary, as_postfix, as_primary}
use Rattle.im_print_relation.proofs.Bindings.{to_expression, to_assignment, to_conditional, to_binary, to_cast, to_unary, to_postfix, postfix_behind, binary_behind, comma_behind}

-- the number of the first token of an expression
abbrev pub number_of : t.Expression → ℕ
number_of (t.identifier p n) = p
number_of (t.integer_constant p n) = p
number_of (t.character_constant p c) = p
number_of (t.string_literal p s) = p
number_of (t.index p a b) = p
number_of (t.call p a bs) = p
number_of (t.member_of p a n) = p
number_of (t.arrow_to p a n) = p
number_of (t.post_step p o a) = p
number_of (t.pre_step p o a) = p
number_of (t.unary p o a) = p
number_of (t.size_of_expression p a) = p
number_of (t.size_of_type p n) = p
number_of (t.cast p n a) = p
number_of (t.binary p o a b) = p
number_of (t.conditional p c a b) = p
number_of (t.assign p o a b) = p
number_of (t.comma p a b) = p

-- a derivation at a level, of an expression that stands in no parentheses
pub record Own (T : List Name) (k q : ℕ) (e : t.Expression) (u : List Word) : Type 0 where
  pub number : number_of e ≡ q
  pub binds : BindsAt T k q e u

abbrev pub Prints : List Name → t.Expression → Type 0
Prints T e = Printed bare.expression (Own T (w.binding e)) e (w.expression T e)

-- the words u of an expression where it binds as tightly as n says
record PrintsAt (T : List Name) (n : ℕ) (e : t.Expression) (u : List Word) : Type 0 where
  fit : AreFit u
  derives : (q : ℕ) → (again : t.Expression) × (bare.expression again ≡ bare.expression e) × (k : ℕ) × (n ≤ k) × BindsAt T k q again u

placed_by : (T : List Name) (n : ℕ) (e : t.Expression) → n ≤ 16 → Prints T e → (b : Bool) → nat_lt (w.binding e) n ≡ b → PrintsAt T n e (cond b (w.in_parentheses (w.expression T e)) (w.expression T e))
placed_by T n e within x true is =
    record { fit = fit_parentheses (w.expression T e) x.fit; derives = λ q. let y = x.derives (suc q) in (y.0, y.1, 16, within, as_primary (g.grouped (to_expression y.2.binds))) }
placed_by T n e within x false is =
    let binds : n ≤ w.binding e = grind (arith, nat_tests) in
    record { fit = x.fit; derives = λ q. let y = x.derives q in (y.0, y.1, w.binding e, binds, y.2.binds) }

placed : (T : List Name) (n : ℕ) (e : t.Expression) → n ≤ 16 → Prints T e → PrintsAt T n e (w.at_binding n e (w.expression T e))
placed T n e within x = placed_by T n e within x (nat_lt (w.binding e) n) refl

-- what derives the words of an expression where it stands in a place
pub in_expression : (T : List Name) (e : t.Expression) → Prints T e → Printed bare.expression (g.IsExpression T) e (w.expression T e)
in_expression T e x = record { fit = x.fit; derives = λ q. let y = x.derives q in (y.0, y.1, to_expression y.2.binds) }

pub in_assignment : (T : List Name) (e : t.Expression) → Prints T e → Printed bare.expression (g.IsAssignment T) e (w.at_binding 1 e (w.expression T e))
in_assignment T e x = let a = placed T 1 e (omega arith) x in record { fit = a.fit; derives = λ q. let y = a.derives q in (y.0, y.1, to_assignment y.4 y.3) }

pub in_conditional : (T : List Name) (e : t.Expression) → Prints T e → Printed bare.expression (g.IsConditional T) e (w.at_binding 2 e (w.expression T e))
in_conditional T e x = let a = placed T 2 e (omega arith) x in record { fit = a.fit; derives = λ q. let y = a.derives q in (y.0, y.1, to_conditional y.4 y.3) }

in_binary : (T : List Name) (e : t.Expression) (n k : ℕ) → n ≤ 10 → k ≡ 3 + n → Prints T e → Printed bare.expression (g.IsBinary T n) e (w.at_binding k e (w.expression T e))
in_binary T e n k within same x =
    let a = placed T k e (omega (arith, within, same)) x in
    record { fit = a.fit; derives = λ q. let y = a.derives q in (y.0, y.1, to_binary n within y.4 (omega (arith, y.3, same))) }

in_cast : (T : List Name) (e : t.Expression) → Prints T e → Printed bare.expression (g.IsCast T) e (w.at_binding 13 e (w.expression T e))
in_cast T e x = let a = placed T 13 e (omega arith) x in record { fit = a.fit; derives = λ q. let y = a.derives q in (y.0, y.1, to_cast y.4 y.3) }

in_unary : (T : List Name) (e : t.Expression) → Prints T e → Printed bare.expression (g.IsUnary T) e (w.at_binding 14 e (w.expression T e))
in_unary T e x = let a = placed T 14 e (omega arith) x in record { fit = a.fit; derives = λ q. let y = a.derives q in (y.0, y.1, to_unary y.4 y.3) }

in_postfix : (T : List Name) (e : t.Expression) → Prints T e → Printed bare.expression (g.IsPostfix T) e (w.at_binding 15 e (w.expression T e))
in_postfix T e x = let a = placed T 15 e (omega arith) x in record { fit = a.fit; derives = λ q. let y = a.derives q in (y.0, y.1, to_postfix y.4 y.3) }

pub prints_identifier : {T : List Name} (p : ℕ) (n : Name) → (Contains T n → ⊥) → IsFit (name n) → Prints T (t.identifier p n)
prints_identifier p n free is = record { fit = (is, tt); derives = λ q. (t.identifier q n, refl, record { number = refl; binds = as_primary (g.an_identifier n free) }) }

pub prints_number : {T : List Name} (p : ℕ) (n : Number) → IsFit (number n) → Prints T (t.integer_constant p n)
prints_number p n is = record { fit = (is, tt); derives = λ q. (t.integer_constant q n, refl, record { number = refl; binds = as_primary (g.a_number n) }) }

pub prints_character : {T : List Name} (p c : ℕ) → IsFit (character c) → Prints T (t.character_constant p c)
prints_character p c is = record { fit = (is, tt); derives = λ q. (t.character_constant q c, refl, record { number = refl; binds = as_primary (g.a_character c) }) }

pub prints_text : {T : List Name} (p : ℕ) (s : Name) → IsFit (text s) → Prints T (t.string_literal p s)
prints_text p s is = record { fit = (is, tt); derives = λ q. (t.string_literal q s, refl, record { number = refl; binds = as_primary (g.a_string (g.last_text s)) }) }

pub prints_index : {T : List Name} (p : ℕ) {a b : t.Expression} → Prints T a → Prints T b → Prints T (t.index p a b)
prints_index {T = T} p {a = a} {b = b} one two =
    let x = in_postfix T a one in
    let u = w.at_binding 15 a (w.expression T a) in
    let v = w.expression T b in
    record {
      fit = fit_append u (mark OpenBracket ∷ (v ++ (mark CloseBracket ∷ []))) x.fit (tt, fit_closed v (mark CloseBracket) tt two.fit);
      derives = λ q. let y = x.derives q in let z = two.derives (suc (q + length u)) in
          (t.index q y.0 z.0, cc (y.1, z.1), record { number = refl; binds = as_postfix (postfix_behind y.2 (g.indexes (to_expression z.2.binds) g.no_postfix)) });
    }

pub prints_call : {T : List Name} (p : ℕ) {a : t.Expression} {bs : t.Expressions} → Prints T a → Printed bare.expressions (g.IsArguments T) bs (w.arguments T bs) → Prints T (t.call p a bs)
prints_call {T = T} p {a = a} {bs = bs} one two =
    let x = in_postfix T a one in
    let u = w.at_binding 15 a (w.expression T a) in
    let v = w.arguments T bs in
    record {
      fit = fit_append u (mark OpenParen ∷ (v ++ (mark CloseParen ∷ []))) x.fit (tt, fit_closed v (mark CloseParen) tt two.fit);
      derives = λ q. let y = x.derives q in let z = two.derives (suc (q + length u)) in
          (t.call q y.0 z.0, cc (y.1, z.1), record { number = refl; binds = as_postfix (postfix_behind y.2 (g.calls z.2 g.no_postfix)) });
    }

pub prints_member : {T : List Name} (p : ℕ) {a : t.Expression} (n : Name) → IsFit (name n) → Prints T a → Prints T (t.member_of p a n)
prints_member {T = T} p {a = a} n is one =
    let x = in_postfix T a one in
    let u = w.at_binding 15 a (w.expression T a) in
    record {
      fit = fit_append u (mark Dot ∷ name n ∷ []) x.fit (tt, (is, tt));
      derives = λ q. let y = x.derives q in (t.member_of q y.0 n, cc y.1, record { number = refl; binds = as_postfix (postfix_behind y.2 (g.dots n g.no_postfix)) });
    }

pub prints_arrow : {T : List Name} (p : ℕ) {a : t.Expression} (n : Name) → IsFit (name n) → Prints T a → Prints T (t.arrow_to p a n)
prints_arrow {T = T} p {a = a} n is one =
    let x = in_postfix T a one in
    let u = w.at_binding 15 a (w.expression T a) in
    record {
      fit = fit_append u (mark Arrow ∷ name n ∷ []) x.fit (tt, (is, tt));
      derives = λ q. let y = x.derives q in (t.arrow_to q y.0 n, cc y.1, record { number = refl; binds = as_postfix (postfix_behind y.2 (g.arrows n g.no_postfix)) });
    }

pub step_is : (o : StepOp) → op.IsStep o (w.step_mark o)
step_is step.Increment = op.increment
step_is step.Decrement = op.decrement

prefix_is : (o : UnaryOp) → op.IsPrefix o (w.prefix_mark o)
prefix_is unary.AddressOf = op.address_of
prefix_is unary.Dereference = op.dereference
prefix_is unary.Plus = op.plus
prefix_is unary.Minus = op.minus
prefix_is unary.BitNot = op.bit_not
prefix_is unary.Not = op.not

pub prints_post_step : {T : List Name} (p : ℕ) {a : t.Expression} (o : StepOp) → Prints T a → Prints T (t.post_step p o a)
prints_post_step {T = T} p {a = a} o one =
    let x = in_postfix T a one in
    let u = w.at_binding 15 a (w.expression T a) in
    record {
      fit = fit_closed u (mark (w.step_mark o)) tt x.fit;
      derives = λ q. let y = x.derives q in (t.post_step q o y.0, cc y.1, record { number = refl; binds = as_postfix (postfix_behind y.2 (g.steps (step_is o) g.no_postfix)) });
    }

pub prints_pre_step : {T : List Name} (p : ℕ) {a : t.Expression} (o : StepOp) → Prints T a → Prints T (t.pre_step p o a)
prints_pre_step {T = T} p {a = a} o one =
    let x = in_unary T a one in
    record { fit = (tt, x.fit); derives = λ q. let y = x.derives (suc q) in (t.pre_step q o y.0, cc y.1, record { number = refl; binds = as_unary (g.stepped (step_is o) y.2) }) }

pub prints_unary : {T : List Name} (p : ℕ) {a : t.Expression} (o : UnaryOp) → Prints T a → Prints T (t.unary p o a)
prints_unary {T = T} p {a = a} o one =
    let x = in_cast T a one in
    record { fit = (tt, x.fit); derives = λ q. let y = x.derives (suc q) in (t.unary q o y.0, cc y.1, record { number = refl; binds = as_unary (g.prefixed (prefix_is o) y.2) }) }

pub prints_sizeof : {T : List Name} (p : ℕ) {a : t.Expression} → Prints T a → Prints T (t.size_of_expression p a)
prints_sizeof {T = T} p {a = a} one =
    let x = in_unary T a one in
    record { fit = (tt, x.fit); derives = λ q. let y = x.derives (suc q) in (t.size_of_expression q y.0, cc y.1, record { number = refl; binds = as_unary (g.sized y.2) }) }

pub prints_sizeof_type : {T : List Name} (p : ℕ) {n : t.TypeName} → Printed bare.type_name (g.IsTypeName T) n (w.type_name T n) → Prints T (t.size_of_type p n)
prints_sizeof_type {T = T} p {n = n} x =
    record {
      fit = (tt, (tt, fit_closed (w.type_name T n) (mark CloseParen) tt x.fit));
      derives = λ q. let y = x.derives (suc (suc q)) in (t.size_of_type q y.0, cc y.1, record { number = refl; binds = as_unary (g.type_sized y.2) });
    }

pub prints_cast : {T : List Name} (p : ℕ) {n : t.TypeName} {a : t.Expression} → Printed bare.type_name (g.IsTypeName T) n (w.type_name T n) → Prints T a → Prints T (t.cast p n a)
prints_cast {T = T} p {n = n} {a = a} x one =
    let r = in_cast T a one in
    let u = w.type_name T n in
    let v = w.at_binding 13 a (w.expression T a) in
    record {
      fit = (tt, fit_append u (mark CloseParen ∷ v) x.fit (tt, r.fit));
      derives = λ q. let y = x.derives (suc q) in let z = r.derives (suc (suc q + length u)) in
          (t.cast q y.0 z.0, cc (y.1, z.1), record { number = refl; binds = as_binary {n = 10} (omega arith) (g.casts (g.a_cast y.2 z.2)) });
    }

operator_is : (o : BinaryOp) → op.IsBinaryOperator (w.operator_level o) o (w.operator_mark o)
operator_is binary.Or = op.or
operator_is binary.And = op.and
operator_is binary.BitOr = op.bit_or
operator_is binary.BitXor = op.bit_xor
operator_is binary.BitAnd = op.bit_and
operator_is binary.Equal = op.equal
operator_is binary.NotEqual = op.not_equal
operator_is binary.Less = op.less
operator_is binary.Greater = op.greater
operator_is binary.LessEqual = op.less_equal
operator_is binary.GreaterEqual = op.greater_equal
operator_is binary.ShiftLeft = op.shift_left
operator_is binary.ShiftRight = op.shift_right
operator_is binary.Add = op.add
operator_is binary.Subtract = op.subtract
operator_is binary.Multiply = op.multiply
operator_is binary.Divide = op.divide
operator_is binary.Remainder = op.remainder

level_under : {n : ℕ} {o : BinaryOp} {m : Punctuator} → op.IsBinaryOperator n o m → n < 10
level_under op.or = omega arith
level_under op.and = omega arith
level_under op.bit_or = omega arith
level_under op.bit_xor = omega arith
level_under op.bit_and = omega arith
level_under op.equal = omega arith
level_under op.not_equal = omega arith
level_under op.less = omega arith
level_under op.greater = omega arith
level_under op.less_equal = omega arith
level_under op.greater_equal = omega arith
level_under op.shift_left = omega arith
level_under op.shift_right = omega arith
level_under op.add = omega arith
level_under op.subtract = omega arith
level_under op.multiply = omega arith
level_under op.divide = omega arith
level_under op.remainder = omega arith

pub prints_binary : {T : List Name} (p : ℕ) {a b : t.Expression} (o : BinaryOp) → Prints T a → Prints T b → Prints T (t.binary p o a b)
prints_binary {T = T} p {a = a} {b = b} o one two =
    let n = w.operator_level o in
    let under = level_under (operator_is o) in
    let x = in_binary T a n (3 + n) (omega (arith, under)) (omega arith) one in
    let r = in_binary T b (suc n) (4 + n) (omega (arith, under)) (omega arith) two in
    let u = w.at_binding (3 + n) a (w.expression T a) in
    let v = w.at_binding (4 + n) b (w.expression T b) in
    record {
      fit = fit_append u (mark (w.operator_mark o) ∷ v) x.fit (tt, r.fit);
      derives = λ q. let y = x.derives q in let z = r.derives (suc (q + length u)) in
          (t.binary q o y.0 z.0, cc (y.1, z.1), record { number = refl; binds = as_binary (omega (arith, under)) (binary_behind under y.2 (subst (λ k. g.BinaryTail T q n (q + length u) y.0 (t.binary q o y.0 z.0) (mark (w.operator_mark o) ∷ k)) (append-nil v) (g.an_operator (operator_is o) z.2 g.no_operator))) });
    }

pub prints_conditional : {T : List Name} (p : ℕ) {c a b : t.Expression} → Prints T c → Prints T a → Prints T b → Prints T (t.conditional p c a b)
prints_conditional {T = T} p {c = c} {a = a} {b = b} one two three =
    let x = in_binary T c 0 3 (omega arith) (omega arith) one in
    let r = in_conditional T b three in
    let u = w.at_binding 3 c (w.expression T c) in
    let v = w.expression T a in
    let s = w.at_binding 2 b (w.expression T b) in
    record {
      fit = fit_append u (mark Question ∷ (v ++ (mark Colon ∷ s))) x.fit (tt, fit_append v (mark Colon ∷ s) two.fit (tt, r.fit));
      derives = λ q. let y = x.derives q in let z = two.derives (suc (q + length u)) in let k = r.derives (suc (suc (q + length u) + length v)) in
          (t.conditional q y.0 z.0 k.0, cc (y.1, z.1, k.1), record { number = refl; binds = as_conditional (g.a_choice y.2 (to_expression z.2.binds) k.2) });
    }

assign_is : (o : AssignOp) → op.IsAssignOperator o (w.assign_mark o)
assign_is assign.Plain = op.assign
assign_is assign.Multiply = op.assign_multiply
assign_is assign.Divide = op.assign_divide
assign_is assign.Remainder = op.assign_remainder
assign_is assign.Add = op.assign_add
assign_is assign.Subtract = op.assign_subtract
assign_is assign.ShiftLeft = op.assign_shift_left
assign_is assign.ShiftRight = op.assign_shift_right
assign_is assign.BitAnd = op.assign_and
assign_is assign.BitXor = op.assign_xor
assign_is assign.BitOr = op.assign_or

pub prints_assign : {T : List Name} (p : ℕ) {a b : t.Expression} (o : AssignOp) → Prints T a → Prints T b → Prints T (t.assign p o a b)
prints_assign {T = T} p {a = a} {b = b} o one two =
    let x = in_unary T a one in
    let r = in_assignment T b two in
    let u = w.at_binding 14 a (w.expression T a) in
    let v = w.at_binding 1 b (w.expression T b) in
    record {
      fit = fit_append u (mark (w.assign_mark o) ∷ v) x.fit (tt, r.fit);
      derives = λ q. let y = x.derives q in let z = r.derives (suc (q + length u)) in
          (t.assign q o y.0 z.0, cc (y.1, z.1), record { number = refl; binds = as_assignment (g.assigned y.2 (assign_is o) z.2) });
    }

pub prints_comma : {T : List Name} (p : ℕ) {a b : t.Expression} → Prints T a → Prints T b → Prints T (t.comma p a b)
prints_comma {T = T} p {a = a} {b = b} one two =
    let r = in_assignment T b two in
    let u = w.expression T a in
    let v = w.at_binding 1 b (w.expression T b) in
    record {
      fit = fit_append u (mark Comma ∷ v) one.fit (tt, r.fit);
      derives = λ q. let y = one.derives q in let z = r.derives (suc (q + length u)) in
          (t.comma q y.0 z.0, cc (y.1, z.1), record { number = refl; binds = as_expression (comma_behind (to_expression y.2.binds) (subst (λ k. g.CommaTail T q (q + length u) y.0 (t.comma q y.0 z.0) (mark Comma ∷ k)) (append-nil v) (g.a_comma z.2 g.no_comma))) });
    }
