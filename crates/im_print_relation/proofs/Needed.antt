-- No words without parentheses derive an expression where a tighter one has to stand.
use Rattle.std.proofs.Common.{◌≡◌, ℕ, suc, ◌+◌, ◌≤◌, ◌<◌, ◌⊎◌, inl, inr, List, [], sym, ap, refl, ◌∙◌, arith}
use Rattle.im_tok.specs.declared.punctuator.Punctuator.{Punctuator}
use Rattle.im_word.specs.Words.{Name, Word}
use Rattle.im_ctree.specs.declared.operator.BinaryOp.{BinaryOp}
use Rattle.im_ctree.specs.Operators as op
use Rattle.im_ctree.specs.Tree as t
use Rattle.im_ctree.specs.Grammar as g
use Rattle.im_ctree.proofs.Unique.{unique_expression}
use Rattle.im_print_relation.specs.Printed as w
use Rattle.im_print_relation.specs.Unnumbered as bare
use Rattle.im_print_relation.specs.Fit.{AreFit}
use Rattle.im_print_relation.specs.Levels.{BindsAt, as_expression, as_assignment, as_conditional, as_binary, as_unary, as_postfix, as_primary}
use Rattle.im_print_relation.proofs.Bindings.{to_expression}
use Rattle.im_print_relation.proofs.Nodes.{number_of, Prints}
use Rattle.im_print_relation.proofs.Expressions.{prints_expression}

-- an expression has no number below that of its first word
mutual
  from_expression : {T : List Name} {p : ℕ} {e : t.Expression} {u : List Word} → g.IsExpression T p e u → p ≤ number_of e
  from_expression {p = p} (g.assigns a rest) = from_commas rest p (omega arith) (from_assignment a)

  from_commas : {T : List Name} {s p : ℕ} {a e : t.Expression} {u : List Word} → g.CommaTail T s p a e u → (k : ℕ) → k ≤ s → k ≤ number_of a → k ≤ number_of e
  from_commas g.no_comma k under x = x
  from_commas (g.a_comma b rest) k under x = from_commas rest k under under

  from_assignment : {T : List Name} {p : ℕ} {e : t.Expression} {u : List Word} → g.IsAssignment T p e u → p ≤ number_of e
  from_assignment (g.chooses a) = from_conditional a
  from_assignment (g.assigned a is b) = omega arith

  from_conditional : {T : List Name} {p : ℕ} {e : t.Expression} {u : List Word} → g.IsConditional T p e u → p ≤ number_of e
  from_conditional (g.operates a) = from_binary a
  from_conditional (g.a_choice c a b) = omega arith

  from_binary : {T : List Name} {n p : ℕ} {e : t.Expression} {u : List Word} → g.IsBinary T n p e u → p ≤ number_of e
  from_binary (g.casts a) = from_cast a
  from_binary {p = p} (g.level under a rest) = from_operators rest p (omega arith) (from_binary a)

  from_operators : {T : List Name} {s n p : ℕ} {a e : t.Expression} {u : List Word} → g.BinaryTail T s n p a e u → (k : ℕ) → k ≤ s → k ≤ number_of a → k ≤ number_of e
  from_operators g.no_operator k under x = x
  from_operators (g.an_operator is b rest) k under x = from_operators rest k under under

  from_cast : {T : List Name} {p : ℕ} {e : t.Expression} {u : List Word} → g.IsCast T p e u → p ≤ number_of e
  from_cast (g.uncast a) = from_unary a
  from_cast (g.a_cast n a) = omega arith

  from_unary : {T : List Name} {p : ℕ} {e : t.Expression} {u : List Word} → g.IsUnary T p e u → p ≤ number_of e
  from_unary (g.postfix a) = from_postfix a
  from_unary (g.stepped is a) = omega arith
  from_unary (g.prefixed is a) = omega arith
  from_unary (g.sized a) = omega arith
  from_unary (g.type_sized n) = omega arith

  from_postfix : {T : List Name} {p : ℕ} {e : t.Expression} {u : List Word} → g.IsPostfix T p e u → p ≤ number_of e
  from_postfix {p = p} (g.primary a rest) = from_steps rest p (omega arith) (from_primary a)

  from_steps : {T : List Name} {s p : ℕ} {a e : t.Expression} {u : List Word} → g.PostfixTail T s p a e u → (k : ℕ) → k ≤ s → k ≤ number_of a → k ≤ number_of e
  from_steps g.no_postfix k under x = x
  from_steps (g.indexes b rest) k under x = from_steps rest k under under
  from_steps (g.calls bs rest) k under x = from_steps rest k under under
  from_steps (g.dots n rest) k under x = from_steps rest k under under
  from_steps (g.arrows n rest) k under x = from_steps rest k under under
  from_steps (g.steps is rest) k under x = from_steps rest k under under

  from_primary : {T : List Name} {p : ℕ} {e : t.Expression} {u : List Word} → g.IsPrimary T p e u → p ≤ number_of e
  from_primary (g.an_identifier n free) = omega arith
  from_primary (g.a_number n) = omega arith
  from_primary (g.a_character n) = omega arith
  from_primary (g.a_string x) = omega arith
  from_primary {p = p} (g.grouped x) = omega (arith, from_expression x)

-- it binds as tightly as its place asks for, or stands in parentheses, behind the number p
abbrev Held : ℕ → ℕ → t.Expression → Type 0
Held n p e = (n ≤ w.binding e) ⊎ (p < number_of e)

weaker : (n m p : ℕ) (e : t.Expression) → m ≤ n → Held n p e → Held m p e
weaker n m p e less (inl h) = inl (omega (arith, less, h))
weaker n m p e less (inr h) = inr h

held_primary : {T : List Name} {p : ℕ} {e : t.Expression} {u : List Word} → g.IsPrimary T p e u → Held 16 p e
held_primary (g.an_identifier n free) = inl (omega arith)
held_primary (g.a_number n) = inl (omega arith)
held_primary (g.a_character n) = inl (omega arith)
held_primary (g.a_string x) = inl (omega arith)
held_primary (g.grouped x) = inr (omega (arith, from_expression x))

held_steps : {T : List Name} {s p : ℕ} {a e : t.Expression} {u : List Word} → g.PostfixTail T s p a e u → (k : ℕ) → Held 15 k a → Held 15 k e
held_steps g.no_postfix k x = x
held_steps (g.indexes b rest) k x = held_steps rest k (inl (omega arith))
held_steps (g.calls bs rest) k x = held_steps rest k (inl (omega arith))
held_steps (g.dots n rest) k x = held_steps rest k (inl (omega arith))
held_steps (g.arrows n rest) k x = held_steps rest k (inl (omega arith))
held_steps (g.steps is rest) k x = held_steps rest k (inl (omega arith))

held_postfix : {T : List Name} {p : ℕ} {e : t.Expression} {u : List Word} → g.IsPostfix T p e u → Held 15 p e
held_postfix {p = p} (g.primary {a = a} x rest) = held_steps rest p (weaker 16 15 p a (omega arith) (held_primary x))

held_unary : {T : List Name} {p : ℕ} {e : t.Expression} {u : List Word} → g.IsUnary T p e u → Held 14 p e
held_unary {p = p} {e = e} (g.postfix a) = weaker 15 14 p e (omega arith) (held_postfix a)
held_unary (g.stepped is a) = inl (omega arith)
held_unary (g.prefixed is a) = inl (omega arith)
held_unary (g.sized a) = inl (omega arith)
held_unary (g.type_sized n) = inl (omega arith)

held_cast : {T : List Name} {p : ℕ} {e : t.Expression} {u : List Word} → g.IsCast T p e u → Held 13 p e
held_cast {p = p} {e = e} (g.uncast a) = weaker 14 13 p e (omega arith) (held_unary a)
held_cast (g.a_cast n a) = inl (omega arith)

level_is : {n : ℕ} {o : BinaryOp} {m : Punctuator} → op.IsBinaryOperator n o m → w.operator_level o ≡ n
level_is op.or = refl
level_is op.and = refl
level_is op.bit_or = refl
level_is op.bit_xor = refl
level_is op.bit_and = refl
level_is op.equal = refl
level_is op.not_equal = refl
level_is op.less = refl
level_is op.greater = refl
level_is op.less_equal = refl
level_is op.greater_equal = refl
level_is op.shift_left = refl
level_is op.shift_right = refl
level_is op.add = refl
level_is op.subtract = refl
level_is op.multiply = refl
level_is op.divide = refl
level_is op.remainder = refl

held_operators : {T : List Name} {s n p : ℕ} {a e : t.Expression} {u : List Word} → g.BinaryTail T s n p a e u → (k : ℕ) → Held (3 + n) k a → Held (3 + n) k e
held_operators g.no_operator k x = x
held_operators (g.an_operator is b rest) k x = held_operators rest k (inl (omega (arith, level_is is)))

held_binary : {T : List Name} {n p : ℕ} {e : t.Expression} {u : List Word} → g.IsBinary T n p e u → Held (3 + n) p e
held_binary (g.casts a) = held_cast a
held_binary {n = n} {p = p} (g.level {a = a} under x rest) = held_operators rest p (weaker (3 + suc n) (3 + n) p a (omega arith) (held_binary x))

held_conditional : {T : List Name} {p : ℕ} {e : t.Expression} {u : List Word} → g.IsConditional T p e u → Held 2 p e
held_conditional {p = p} {e = e} (g.operates a) = weaker 3 2 p e (omega arith) (held_binary a)
held_conditional (g.a_choice c a b) = inl (omega arith)

held_assignment : {T : List Name} {p : ℕ} {e : t.Expression} {u : List Word} → g.IsAssignment T p e u → Held 1 p e
held_assignment {p = p} {e = e} (g.chooses a) = weaker 2 1 p e (omega arith) (held_conditional a)
held_assignment (g.assigned a is b) = inl (omega arith)

held : {T : List Name} {n p : ℕ} {e : t.Expression} {u : List Word} → BindsAt T n p e u → Held n p e
held (as_expression x) = inl (omega arith)
held (as_assignment x) = held_assignment x
held (as_conditional x) = held_conditional x
held (as_binary under x) = held_binary x
held (as_unary x) = held_unary x
held (as_postfix x) = held_postfix x
held (as_primary x) = held_primary x

binding_bare : (e : t.Expression) → w.binding (bare.expression e) ≡ w.binding e
binding_bare (t.identifier p n) = refl
binding_bare (t.integer_constant p n) = refl
binding_bare (t.character_constant p c) = refl
binding_bare (t.string_literal p s) = refl
binding_bare (t.index p a b) = refl
binding_bare (t.call p a bs) = refl
binding_bare (t.member_of p a n) = refl
binding_bare (t.arrow_to p a n) = refl
binding_bare (t.post_step p o a) = refl
binding_bare (t.pre_step p o a) = refl
binding_bare (t.unary p o a) = refl
binding_bare (t.size_of_expression p a) = refl
binding_bare (t.size_of_type p n) = refl
binding_bare (t.cast p n a) = refl
binding_bare (t.binary p o a b) = refl
binding_bare (t.conditional p c a b) = refl
binding_bare (t.assign p o a b) = refl
binding_bare (t.comma p a b) = refl

refuted : (n p : ℕ) (again : t.Expression) → Held n p again → w.binding again < n → number_of again ≡ p → ⊥
refuted n p again (inl h) less number = omega (arith, h, less)
refuted n p again (inr h) less number = omega (arith, h, number)

pub needed : (T : List Name) (p q n : ℕ) (e again : t.Expression) (words : List Word) → g.IsExpression T q e words → AreFit words → w.binding e < n → BindsAt T n p again (w.expression T e) → bare.expression again ≡ bare.expression e → ⊥
needed T p q n e again words d fit less at same =
    let x : Prints T e = prints_expression d fit in
    let y = x.derives p in
    let one : again ≡ y.0 = (unique_expression (to_expression at) (to_expression y.2.binds) refl [] [] (omega arith) (omega arith) refl).0 in
    let number : number_of again ≡ p = ap number_of one ∙ y.2.number in
    let binds : w.binding again ≡ w.binding e = sym (binding_bare again) ∙ ap w.binding same ∙ binding_bare e in
    refuted n p again (held at) (omega (arith, binds, less)) number
