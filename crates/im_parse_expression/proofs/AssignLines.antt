-- assign = cond | unary asgop assign: which conditional expressions are unary ones, by their tree; and the line.
use Rattle.std.proofs.Common.{◌≡◌, ℕ, suc, ◌+◌, ◌<◌, ◌≤◌, Bool, true, false, List, [], ◌∷◌, ◌++◌, length, drop, sym, refl, ap, ◌∙◌, subst, arith}
use Rattle.std.specs.Prelude.{Option, Some, None, Result}
use Rattle.std.proofs.lemmas.List.{append-nil}
use Rattle.im_tok.specs.declared.punctuator.Punctuator.{Punctuator}
use Rattle.im_word.specs.Words.{Name, Word, mark}
use Rattle.im_ctree.specs.declared.operator.AssignOp.{AssignOp}
use Rattle.im_ctree.specs.Operators as op
use Rattle.im_ctree.specs.Tree as tree
use Rattle.im_ctree.specs.Grammar as g
use Rattle.im_ctree.specs.Follow.{head_rank}
use Rattle.im_ctree.proofs.Ranks.{assign_operator_rank, assign_operator_same, mark_same, blocked}
use Rattle.im_ctree.proofs.Derivations.{binary_of}
use Rattle.im_parse_core.specs.Reads.{Family, Ending, head, Reads, Refuses, Within}
use Rattle.im_parse_core.specs.Parts.{Both, both, After, after, Made, made, Done, done}
use Rattle.im_parse_core.specs.Places.{IsAt}
use Rattle.im_parse_core.proofs.Steps.{Apart, Into, start, line, line_at, word, part, refused, node, all, last, last_refused, nothing}
use Rattle.im_parse_expression.specs.Parsing.{Below, OperatorAt, NoOperator, number_of, is_looser}
use Rattle.im_parse_expression.proofs.ExpressionLines.{rank_of}

-- no node begins before its first word
mutual
  expression_number : {T : List Name} {p : ℕ} {t : tree.Expression} {u : List Word} → g.IsExpression T p t u → p ≤ number_of t
  expression_number (g.assigns a rest) = comma_number rest (assignment_number a)

  comma_number : {T : List Name} {s p : ℕ} {a t : tree.Expression} {u : List Word} → g.CommaTail T s p a t u → s ≤ number_of a → s ≤ number_of t
  comma_number g.no_comma h = h
  comma_number (g.a_comma b rest) h = comma_number rest (omega arith)

  assignment_number : {T : List Name} {p : ℕ} {t : tree.Expression} {u : List Word} → g.IsAssignment T p t u → p ≤ number_of t
  assignment_number (g.chooses c) = conditional_number c
  assignment_number (g.assigned a is b) = omega arith

  conditional_number : {T : List Name} {p : ℕ} {t : tree.Expression} {u : List Word} → g.IsConditional T p t u → p ≤ number_of t
  conditional_number (g.operates a) = binary_number a
  conditional_number (g.a_choice c a b) = omega arith

  binary_number : {T : List Name} {n p : ℕ} {t : tree.Expression} {u : List Word} → g.IsBinary T n p t u → p ≤ number_of t
  binary_number (g.casts a) = cast_number a
  binary_number (g.level h a rest) = tail_number rest (binary_number a)

  tail_number : {T : List Name} {s n p : ℕ} {a t : tree.Expression} {u : List Word} → g.BinaryTail T s n p a t u → s ≤ number_of a → s ≤ number_of t
  tail_number g.no_operator h = h
  tail_number (g.an_operator is b rest) h = tail_number rest (omega arith)

  cast_number : {T : List Name} {p : ℕ} {t : tree.Expression} {u : List Word} → g.IsCast T p t u → p ≤ number_of t
  cast_number (g.uncast a) = unary_number a
  cast_number (g.a_cast n a) = omega arith

  unary_number : {T : List Name} {p : ℕ} {t : tree.Expression} {u : List Word} → g.IsUnary T p t u → p ≤ number_of t
  unary_number (g.postfix (g.primary a rest)) = postfix_number rest (primary_number a)
  unary_number (g.stepped is a) = omega arith
  unary_number (g.prefixed is a) = omega arith
  unary_number (g.sized a) = omega arith
  unary_number (g.type_sized n) = omega arith

  postfix_number : {T : List Name} {s p : ℕ} {a t : tree.Expression} {u : List Word} → g.PostfixTail T s p a t u → s ≤ number_of a → s ≤ number_of t
  postfix_number g.no_postfix h = h
  postfix_number (g.indexes b rest) h = postfix_number rest (omega arith)
  postfix_number (g.calls b rest) h = postfix_number rest (omega arith)
  postfix_number (g.dots n rest) h = postfix_number rest (omega arith)
  postfix_number (g.arrows n rest) h = postfix_number rest (omega arith)
  postfix_number (g.steps is rest) h = postfix_number rest (omega arith)

  primary_number : {T : List Name} {p : ℕ} {t : tree.Expression} {u : List Word} → g.IsPrimary T p t u → p ≤ number_of t
  primary_number (g.an_identifier n free) = omega arith
  primary_number (g.a_number n) = omega arith
  primary_number (g.a_character n) = omega arith
  primary_number (g.a_string s) = omega arith
  primary_number (g.grouped a) = let h = expression_number a in omega (arith, h)

-- a node that begins at p is no looser one
abbrev pub IsTight : ℕ → tree.Expression → Type 0
IsTight p t = number_of t ≡ p → is_looser t ≡ false

postfix_tight : {T : List Name} {s p : ℕ} {a t : tree.Expression} {u : List Word} → g.PostfixTail T s p a t u → IsTight s a → IsTight s t
postfix_tight g.no_postfix h = h
postfix_tight (g.indexes b rest) h = postfix_tight rest (λ e. refl)
postfix_tight (g.calls b rest) h = postfix_tight rest (λ e. refl)
postfix_tight (g.dots n rest) h = postfix_tight rest (λ e. refl)
postfix_tight (g.arrows n rest) h = postfix_tight rest (λ e. refl)
postfix_tight (g.steps is rest) h = postfix_tight rest (λ e. refl)

primary_tight : {T : List Name} {p : ℕ} {t : tree.Expression} {u : List Word} → g.IsPrimary T p t u → IsTight p t
primary_tight (g.an_identifier n free) = λ e. refl
primary_tight (g.a_number n) = λ e. refl
primary_tight (g.a_character n) = λ e. refl
primary_tight (g.a_string s) = λ e. refl
primary_tight (g.grouped a) = λ e. let h = expression_number a in absurd (omega (arith, h, e))

unary_tight : {T : List Name} {p : ℕ} {t : tree.Expression} {u : List Word} → g.IsUnary T p t u → IsTight p t
unary_tight (g.postfix (g.primary a rest)) = postfix_tight rest (primary_tight a)
unary_tight (g.stepped is a) = λ e. refl
unary_tight (g.prefixed is a) = λ e. refl
unary_tight (g.sized a) = λ e. refl
unary_tight (g.type_sized n) = λ e. refl

true_false : true ≡ false → ⊥
true_false e = cc e

-- a binary node that begins at s
tail_loose : {T : List Name} {s n p : ℕ} {a t : tree.Expression} {u : List Word} → g.BinaryTail T s n p a t u → number_of a ≡ s → is_looser a ≡ true → IsTight s t → ⊥
tail_loose g.no_operator number loose tight = true_false (sym loose ∙ tight number)
tail_loose (g.an_operator is b rest) number loose tight = tail_loose rest refl refl tight

binary_unary : {T : List Name} {n p : ℕ} {t : tree.Expression} {u : List Word} → g.IsBinary T n p t u → IsTight p t → g.IsUnary T p t u
binary_unary (g.casts (g.uncast d)) tight = d
binary_unary (g.casts (g.a_cast n d)) tight = absurd (true_false (tight refl))
binary_unary {T = T} {p = p} {t = t} (g.level {u = u} h d g.no_operator) tight = subst (g.IsUnary T p t) (sym (append-nil u)) (binary_unary d tight)
binary_unary (g.level h d (g.an_operator is b rest)) tight = absurd (tail_loose rest refl refl tight)

conditional_unary : {T : List Name} {p : ℕ} {t : tree.Expression} {u : List Word} → g.IsConditional T p t u → IsTight p t → g.IsUnary T p t u
conditional_unary (g.operates d) tight = binary_unary d tight
conditional_unary (g.a_choice c a b) tight = absurd (true_false (tight refl))

-- what stands behind the conditional expression that begins at word s
pub data Assigns (T : List Name) (s : ℕ) (a : tree.Expression) : ℕ → tree.Expression → List Word → Type 0 where
  unassigned : {q : ℕ} → Assigns T s a q a []
  assigning : {q : ℕ} {o : AssignOp} {m : Punctuator} {b : tree.Expression} {v : List Word} → IsTight s a → op.IsAssignOperator o m → g.IsAssignment T (suc q) b v → Assigns T s a q (tree.assign s o a b) (mark m ∷ v)

assignment_into : (T : List Name) (p : ℕ) → Into (Both (g.IsConditional T) (λ a. Assigns T p a)) (g.IsAssignment T) p
assignment_into T p t _ (both {u = u} d unassigned) = subst (g.IsAssignment T p t) (sym (append-nil u)) (g.chooses d)
assignment_into T p t _ (both d (assigning tight is b)) = g.assigned (conditional_unary d tight) is b

assignment_back : (T : List Name) (p : ℕ) → Into (g.IsAssignment T) (Both (g.IsConditional T) (λ a. Assigns T p a)) p
assignment_back T p t u (g.chooses d) = subst (Both (g.IsConditional T) (λ a. Assigns T p a) p t) (append-nil u) (both d unassigned)
assignment_back T p t _ (g.assigned d is b) = both (g.operates (binary_of (g.uncast d))) (assigning (unary_tight d) is b)

assigns_apart : (T : List Name) (s : ℕ) → Apart (λ a. Assigns T s a) (Below 2) (Below 3)
assigns_apart T s a q t v r unassigned e = omega (arith, e)
assigns_apart T s a q t _ r (assigning tight is b) e = omega (arith, assign_operator_rank is)

assignment_start : (T : List Name) (p : ℕ) (w : List Word) → Within (g.IsAssignment T) (Below 2) p w (Both (g.IsConditional T) (λ a. Assigns T p a)) (Below 2) p w (λ t. t)
assignment_start T p w = line (Both (g.IsConditional T) (λ a. Assigns T p a)) (assignment_into T p) (λ t u r e d f. assignment_back T p t u d) (start (g.IsAssignment T) (Below 2) p w)

pub refuses_left : (words : List Word) {T : List Name} {p n : ℕ} → Refuses (g.IsConditional T) (Below 3) p (drop p words) n (drop n words) → Refuses (g.IsAssignment T) (Below 2) p (drop p words) n (drop n words)
refuses_left words {T = T} {p = p} one = refused (λ a q. (a, [], unassigned)) (assigns_apart T p) one (assignment_start T p (drop p words))

-- behind the conditional expression
abbrev pub Left : List Name → List Word → ℕ → tree.Expression → ℕ → Type 0
Left T words p a q = Within (g.IsAssignment T) (Below 2) p (drop p words) (Assigns T p a) (Below 2) q (drop q words) (λ t. t)

pub left : (words : List Word) {T : List Name} {p q : ℕ} {a : tree.Expression} → Reads (g.IsConditional T) (Below 3) p (drop p words) a q (drop q words) → Left T words p a q
left words {T = T} {p = p} one = part (assigns_apart T p) one (assignment_start T p (drop p words))

unassigned_into : (T : List Name) (s q : ℕ) (a : tree.Expression) → Into (Done a) (Assigns T s a) q
unassigned_into T s q a t _ done = unassigned

unassigned_back : (T : List Name) (s q : ℕ) (a : tree.Expression) (words : List Word) → NoOperator op.IsAssignOperator words q → (t : tree.Expression) (u r : List Word) → head (u ++ r) ≡ head (drop q words) → Assigns T s a q t u → Done a q t u
unassigned_back T s q a words other t _ r eq unassigned = done
unassigned_back T s q a words other t _ r eq (assigning {o = o} {m = m} tight is b) = absurd (other o m is (sym eq))

pub reads_left : (words : List Word) {T : List Name} {p q : ℕ} {a : tree.Expression} → NoOperator op.IsAssignOperator words q → Reads (g.IsConditional T) (Below 3) p (drop p words) a q (drop q words) → Reads (g.IsAssignment T) (Below 2) p (drop p words) a q (drop q words)
reads_left words {T = T} {p = p} {q = q} {a = a} other one =
    all (line (Done a) (unassigned_into T p q a) (λ t u r e d f. unassigned_back T p q a words other t u r e d) (left words one))

loose_none : (r : List Word) {T : List Name} {s q : ℕ} {a t : tree.Expression} {u : List Word} {o : AssignOp} {m : Punctuator} → op.IsAssignOperator o m → (IsTight s a → ⊥) → head (u ++ r) ≡ Some (mark m) → Assigns T s a q t u → head_rank r < 2 → ⊥
loose_none r is loose eq unassigned e = omega (arith, e, rank_of r eq, assign_operator_rank is)
loose_none r is loose eq (assigning tight is' b) e = loose tight

pub refuses_loose : (words : List Word) {T : List Name} {p q k : ℕ} {a : tree.Expression} {o : AssignOp} → OperatorAt op.IsAssignOperator words q o k → (IsTight p a → ⊥) → Reads (g.IsConditional T) (Below 3) p (drop p words) a q (drop q words) → Refuses (g.IsAssignment T) (Below 2) p (drop p words) q (drop q words)
refuses_loose words {a = a} at loose one = nothing (λ q. (a, [], unassigned)) (λ t u r e d f. loose_none r at.is loose (e ∙ ap head at.at.here) d f) (left words one)

abbrev AssignLine : List Name → ℕ → tree.Expression → AssignOp → Punctuator → Family tree.Expression
AssignLine T s a o m = After (mark m) (Made (tree.assign s o a) (g.IsAssignment T))

assigning_into : (T : List Name) (s q : ℕ) (a : tree.Expression) (o : AssignOp) (m : Punctuator) → IsTight s a → op.IsAssignOperator o m → Into (AssignLine T s a o m) (Assigns T s a) q
assigning_into T s q a o m tight is t _ (after (made b)) = assigning tight is b

assigning_back : (T : List Name) (s q : ℕ) (a : tree.Expression) (o : AssignOp) (m : Punctuator) → op.IsAssignOperator o m → (t : tree.Expression) (u r v : List Word) → u ++ r ≡ mark m ∷ v → Assigns T s a q t u → head_rank r < 2 → AssignLine T s a o m q t u
assigning_back T s q a o m is t _ r v eq unassigned e = absurd (blocked 2 e eq (omega (arith, assign_operator_rank is)))
assigning_back T s q a o m is t _ r v eq (assigning {o = o'} {m = m'} {b = b} {v = y} tight is' d) e =
    let sm : m' ≡ m = mark_same eq in
    let so : o' ≡ o = assign_operator_same is' is sm in
    let here : AssignLine T s a o' m' q t (mark m' ∷ y) = after (made d) in
    subst (λ z. AssignLine T s a o z q t (mark m' ∷ y)) sm (subst (λ z. AssignLine T s a z m' q t (mark m' ∷ y)) so here)

-- behind the operator
abbrev pub Right : List Name → List Word → ℕ → tree.Expression → AssignOp → ℕ → Type 0
Right T words p a o k = Within (g.IsAssignment T) (Below 2) p (drop p words) (g.IsAssignment T) (Below 2) k (drop k words) (tree.assign p o a)

pub right : (words : List Word) {T : List Name} {p q k : ℕ} {a : tree.Expression} {o : AssignOp} → OperatorAt op.IsAssignOperator words q o k → IsTight p a → Reads (g.IsConditional T) (Below 3) p (drop p words) a q (drop q words) → Right T words p a o k
right words {T = T} {p = p} {q = q} {a = a} {o = o} at tight one =
    node (word at.at (line_at (mark at.punctuator) (AssignLine T p a o at.punctuator) (ap head at.at.here) (assigning_into T p q a o at.punctuator tight at.is) (λ t u r v eq d e. assigning_back T p q a o at.punctuator at.is t u r v eq d e) (left words one)))
