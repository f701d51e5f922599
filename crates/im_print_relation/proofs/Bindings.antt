-- Derivations of expressions at the level at which they bind, and at those that bind more loosely.
use Rattle.std.proofs.Common.{◌≡◌, ℕ, zero, suc, ◌+◌, ◌-◌, ◌≤◌, ◌<◌, List, ◌∷◌, ◌++◌, length, sym, subst, ap, arith, append_assoc, append-nil, length-append}
use Rattle.im_tok.specs.declared.punctuator.Punctuator.TheVariants.{OpenBracket, CloseBracket, OpenParen, CloseParen, Comma}
use Rattle.im_word.specs.Words.{Name, Word, mark}
use Rattle.im_ctree.specs.Tree as t
use Rattle.im_ctree.specs.Grammar as g
use Rattle.im_print_relation.specs.Levels.{BindsAt, as_expression, as_assignment, as_conditional, as_binary, as_unary, as_postfix, as_primary}

-- a level without operators
looser : {T : List Name} (n : ℕ) {p : ℕ} {e : t.Expression} {u : List Word} → n < 10 → g.IsBinary T (suc n) p e u → g.IsBinary T n p e u
looser {T = T} n {p = p} {e = e} {u = u} under d = subst (g.IsBinary T n p e) (append-nil u) (g.level under d g.no_operator)

lower : {T : List Name} (d n m : ℕ) {p : ℕ} {e : t.Expression} {u : List Word} → m ≡ n + d → m ≤ 10 → g.IsBinary T m p e u → g.IsBinary T n p e u
lower {T = T} zero n m {p = p} {e = e} {u = u} is under x = subst (λ k. g.IsBinary T k p e u) (omega (arith, is)) x
lower (suc d) n m is under x = looser n (omega (arith, is, under)) (lower d (suc n) m (omega (arith, is)) under x)

pub postfix_of : {T : List Name} {p : ℕ} {e : t.Expression} {u : List Word} → g.IsPrimary T p e u → g.IsPostfix T p e u
postfix_of {T = T} {p = p} {e = e} {u = u} x = subst (g.IsPostfix T p e) (append-nil u) (g.primary x g.no_postfix)

pub to_postfix : {T : List Name} {k p : ℕ} {e : t.Expression} {u : List Word} → BindsAt T k p e u → 15 ≤ k → g.IsPostfix T p e u
to_postfix (as_expression x) h = absurd (omega (arith, h))
to_postfix (as_assignment x) h = absurd (omega (arith, h))
to_postfix (as_conditional x) h = absurd (omega (arith, h))
to_postfix (as_binary under x) h = absurd (omega (arith, h, under))
to_postfix (as_unary x) h = absurd (omega (arith, h))
to_postfix (as_postfix x) h = x
to_postfix (as_primary x) h = postfix_of x

pub to_unary : {T : List Name} {k p : ℕ} {e : t.Expression} {u : List Word} → BindsAt T k p e u → 14 ≤ k → g.IsUnary T p e u
to_unary (as_expression x) h = absurd (omega (arith, h))
to_unary (as_assignment x) h = absurd (omega (arith, h))
to_unary (as_conditional x) h = absurd (omega (arith, h))
to_unary (as_binary under x) h = absurd (omega (arith, h, under))
to_unary (as_unary x) h = x
to_unary (as_postfix x) h = g.postfix x
to_unary (as_primary x) h = g.postfix (postfix_of x)

cast_of : {T : List Name} {n p : ℕ} {e : t.Expression} {u : List Word} → g.IsBinary T n p e u → n ≡ 10 → g.IsCast T p e u
cast_of (g.casts x) is = x
cast_of (g.level under x rest) is = absurd (omega (arith, under, is))

pub to_cast : {T : List Name} {k p : ℕ} {e : t.Expression} {u : List Word} → BindsAt T k p e u → 13 ≤ k → g.IsCast T p e u
to_cast (as_expression x) h = absurd (omega (arith, h))
to_cast (as_assignment x) h = absurd (omega (arith, h))
to_cast (as_conditional x) h = absurd (omega (arith, h))
to_cast (as_binary under x) h = cast_of x (omega (arith, h, under))
to_cast (as_unary x) h = g.uncast x
to_cast (as_postfix x) h = g.uncast (g.postfix x)
to_cast (as_primary x) h = g.uncast (g.postfix (postfix_of x))

lowest : {T : List Name} (n : ℕ) {p : ℕ} {e : t.Expression} {u : List Word} → n ≤ 10 → g.IsCast T p e u → g.IsBinary T n p e u
lowest n under x = lower (10 - n) n 10 (omega (arith, under)) (omega arith) (g.casts x)

pub to_binary : {T : List Name} {k p : ℕ} {e : t.Expression} {u : List Word} (n : ℕ) → n ≤ 10 → BindsAt T k p e u → 3 + n ≤ k → g.IsBinary T n p e u
to_binary n within (as_expression x) h = absurd (omega (arith, h))
to_binary n within (as_assignment x) h = absurd (omega (arith, h))
to_binary n within (as_conditional x) h = absurd (omega (arith, h))
to_binary n within (as_binary {n = m} under x) h = lower (m - n) n m (omega (arith, h)) under x
to_binary n within (as_unary x) h = lowest n within (g.uncast x)
to_binary n within (as_postfix x) h = lowest n within (g.uncast (g.postfix x))
to_binary n within (as_primary x) h = lowest n within (g.uncast (g.postfix (postfix_of x)))

pub to_conditional : {T : List Name} {k p : ℕ} {e : t.Expression} {u : List Word} → BindsAt T k p e u → 2 ≤ k → g.IsConditional T p e u
to_conditional (as_expression x) h = absurd (omega (arith, h))
to_conditional (as_assignment x) h = absurd (omega (arith, h))
to_conditional (as_conditional x) h = x
to_conditional (as_binary under x) h = g.operates (to_binary 0 (omega arith) (as_binary under x) (omega arith))
to_conditional (as_unary x) h = g.operates (to_binary 0 (omega arith) (as_unary x) (omega arith))
to_conditional (as_postfix x) h = g.operates (to_binary 0 (omega arith) (as_postfix x) (omega arith))
to_conditional (as_primary x) h = g.operates (to_binary 0 (omega arith) (as_primary x) (omega arith))

pub to_assignment : {T : List Name} {k p : ℕ} {e : t.Expression} {u : List Word} → BindsAt T k p e u → 1 ≤ k → g.IsAssignment T p e u
to_assignment (as_expression x) h = absurd (omega (arith, h))
to_assignment (as_assignment x) h = x
to_assignment (as_conditional x) h = g.chooses x
to_assignment (as_binary under x) h = g.chooses (to_conditional (as_binary under x) (omega arith))
to_assignment (as_unary x) h = g.chooses (to_conditional (as_unary x) (omega arith))
to_assignment (as_postfix x) h = g.chooses (to_conditional (as_postfix x) (omega arith))
to_assignment (as_primary x) h = g.chooses (to_conditional (as_primary x) (omega arith))

expression_of : {T : List Name} {p : ℕ} {e : t.Expression} {u : List Word} → g.IsAssignment T p e u → g.IsExpression T p e u
expression_of {T = T} {p = p} {e = e} {u = u} x = subst (g.IsExpression T p e) (append-nil u) (g.assigns x g.no_comma)

pub to_expression : {T : List Name} {k p : ℕ} {e : t.Expression} {u : List Word} → BindsAt T k p e u → g.IsExpression T p e u
to_expression (as_expression x) = x
to_expression (as_assignment x) = expression_of x
to_expression (as_conditional x) = expression_of (g.chooses x)
to_expression (as_binary under x) = expression_of (to_assignment (as_binary under x) (omega arith))
to_expression (as_unary x) = expression_of (to_assignment (as_unary x) (omega arith))
to_expression (as_postfix x) = expression_of (to_assignment (as_postfix x) (omega arith))
to_expression (as_primary x) = expression_of (to_assignment (as_primary x) (omega arith))

-- what stands behind an expression, and more behind it
postfix_more : {T : List Name} {s q r : ℕ} {a b c : t.Expression} {v w : List Word} → g.PostfixTail T s q a b v → r ≡ q + length v → g.PostfixTail T s r b c w → g.PostfixTail T s q a c (v ++ w)
postfix_more {T = T} {s = s} {b = b} {c = c} {w = w} g.no_postfix here y = subst (λ k. g.PostfixTail T s k b c w) (omega (arith, here)) y
postfix_more {T = T} {s = s} {q = q} {a = a} {c = c} {w = w} (g.indexes {u = u} {v = v} i rest) here y =
    subst (g.PostfixTail T s q a c) (ap (λ z. mark OpenBracket ∷ z) (sym (append_assoc u (mark CloseBracket ∷ v) w))) (g.indexes i (postfix_more rest (omega (arith, here, length-append u (mark CloseBracket ∷ v))) y))
postfix_more {T = T} {s = s} {q = q} {a = a} {c = c} {w = w} (g.calls {u = u} {v = v} i rest) here y =
    subst (g.PostfixTail T s q a c) (ap (λ z. mark OpenParen ∷ z) (sym (append_assoc u (mark CloseParen ∷ v) w))) (g.calls i (postfix_more rest (omega (arith, here, length-append u (mark CloseParen ∷ v))) y))
postfix_more (g.dots n rest) here y = g.dots n (postfix_more rest (omega (arith, here)) y)
postfix_more (g.arrows n rest) here y = g.arrows n (postfix_more rest (omega (arith, here)) y)
postfix_more (g.steps is rest) here y = g.steps is (postfix_more rest (omega (arith, here)) y)

pub postfix_behind : {T : List Name} {p : ℕ} {a c : t.Expression} {u w : List Word} → g.IsPostfix T p a u → g.PostfixTail T p (p + length u) a c w → g.IsPostfix T p c (u ++ w)
postfix_behind {T = T} {p = p} {c = c} {w = w} (g.primary {u = u} {v = v} a rest) y =
    subst (g.IsPostfix T p c) (sym (append_assoc u v w)) (g.primary a (postfix_more rest (omega (arith, length-append u v)) y))

binary_more : {T : List Name} {s n q r : ℕ} {a b c : t.Expression} {v w : List Word} → g.BinaryTail T s n q a b v → r ≡ q + length v → g.BinaryTail T s n r b c w → g.BinaryTail T s n q a c (v ++ w)
binary_more {T = T} {s = s} {n = n} {b = b} {c = c} {w = w} g.no_operator here y = subst (λ k. g.BinaryTail T s n k b c w) (omega (arith, here)) y
binary_more {T = T} {s = s} {n = n} {q = q} {a = a} {c = c} {w = w} (g.an_operator {m = m} {u = u} {v = v} is i rest) here y =
    subst (g.BinaryTail T s n q a c) (ap (λ z. mark m ∷ z) (sym (append_assoc u v w))) (g.an_operator is i (binary_more rest (omega (arith, here, length-append u v)) y))

pub binary_behind : {T : List Name} {n p : ℕ} {a c : t.Expression} {u w : List Word} → n < 10 → g.IsBinary T n p a u → g.BinaryTail T p n (p + length u) a c w → g.IsBinary T n p c (u ++ w)
binary_behind within (g.casts x) y = absurd (omega (arith, within))
binary_behind {T = T} {n = n} {p = p} {c = c} {w = w} within (g.level {u = u} {v = v} under a rest) y =
    subst (g.IsBinary T n p c) (sym (append_assoc u v w)) (g.level under a (binary_more rest (omega (arith, length-append u v)) y))

comma_more : {T : List Name} {s q r : ℕ} {a b c : t.Expression} {v w : List Word} → g.CommaTail T s q a b v → r ≡ q + length v → g.CommaTail T s r b c w → g.CommaTail T s q a c (v ++ w)
comma_more {T = T} {s = s} {b = b} {c = c} {w = w} g.no_comma here y = subst (λ k. g.CommaTail T s k b c w) (omega (arith, here)) y
comma_more {T = T} {s = s} {q = q} {a = a} {c = c} {w = w} (g.a_comma {u = u} {v = v} i rest) here y =
    subst (g.CommaTail T s q a c) (ap (λ z. mark Comma ∷ z) (sym (append_assoc u v w))) (g.a_comma i (comma_more rest (omega (arith, here, length-append u v)) y))

pub comma_behind : {T : List Name} {p : ℕ} {a c : t.Expression} {u w : List Word} → g.IsExpression T p a u → g.CommaTail T p (p + length u) a c w → g.IsExpression T p c (u ++ w)
comma_behind {T = T} {p = p} {c = c} {w = w} (g.assigns {u = u} {v = v} a rest) y =
    subst (g.IsExpression T p c) (sym (append_assoc u v w)) (g.assigns a (comma_more rest (omega (arith, length-append u v)) y))
