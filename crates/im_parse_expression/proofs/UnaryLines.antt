-- The lines of unary expressions, part by part.
use Rattle.std.proofs.Common.{◌≡◌, ℕ, suc, ◌+◌, ◌-◌, ◌<◌, ◌≤◌, List, [], ◌∷◌, ◌++◌, length, drop, sym, refl, ap, ◌∙◌, subst, arith, append_assoc}
use Rattle.std.specs.Prelude.{Option, Some, None, Result}
use Rattle.im_tok.specs.declared.punctuator.Punctuator.{Punctuator}
use Rattle.im_tok.specs.declared.punctuator.Punctuator.TheVariants.{OpenParen, CloseParen}
use Rattle.im_tok.specs.declared.keyword.Keyword.TheVariants.{Sizeof, Int}
use Rattle.im_word.specs.Words.{Name, Word, name, keyword, mark}
use Rattle.im_ctree.specs.declared.operator.StepOp.{StepOp}
use Rattle.im_ctree.specs.declared.operator.UnaryOp.{UnaryOp}
use Rattle.im_ctree.specs.Operators as op
use Rattle.im_ctree.specs.Tree as tree
use Rattle.im_ctree.specs.Grammar as g
use Rattle.im_ctree.specs.Follow.{head_rank}
use Rattle.im_ctree.proofs.Ranks.{step_same, prefix_same, unary_code, step_unary, prefix_unary, head_unary, mark_same}
use Rattle.im_ctree.proofs.Derivations.{cast_of, expression_of}
use Rattle.im_parse_core.specs.Reads.{Family, Ending, head, Reads, Refuses, Within}
use Rattle.im_parse_core.specs.Parts.{Both, both, After, after, Made, made, Done, done}
use Rattle.im_parse_core.specs.Places.{IsAt}
use Rattle.im_parse_core.specs.declared.stop.Stop.{Stop}
use Rattle.im_parse_core.proofs.Steps.{Into, Opens, tail, cons_of, start, line, line_at, line_two, word, part, refused, node, all, last, last_refused, as_closed}
use Rattle.im_parse_expression.specs.Parsing.{Below, Anything, Closed, Parses, OperatorAt, NoOperator, IsSized, of_operand, of_type, BeginsSpecifiers}
use Rattle.im_parse_expression.proofs.Exits.{handed}
use Rattle.im_parse_expression.proofs.Some.{some_unary, zero_word, zero_number}
use Rattle.im_parse_expression.proofs.BinaryLines.{not_unary, unary_full, type_head, tail_at, some_type}

-- ("++"|"--") unary
abbrev StepLine : List Name → ℕ → StepOp → Punctuator → Family tree.Expression
StepLine T s o m = After (mark m) (Made (tree.pre_step s o) (g.IsUnary T))

step_into : (T : List Name) (q : ℕ) (o : StepOp) (m : Punctuator) → op.IsStep o m → Into (StepLine T q o m) (g.IsUnary T) q
step_into T q o m is t _ (after (made d)) = g.stepped is d

step_back : (T : List Name) (q : ℕ) (o : StepOp) (m : Punctuator) → op.IsStep o m → (t : tree.Expression) (u r v : List Word) → u ++ r ≡ mark m ∷ v → g.IsUnary T q t u → StepLine T q o m q t u
step_back T q o m is t _ r v eq (g.stepped {o = o'} {m = m'} {t = a} {u = u} is' d) =
    let sm : m' ≡ m = mark_same eq in
    let so : o' ≡ o = step_same is' is sm in
    let here : StepLine T q o' m' q (tree.pre_step q o' a) (mark m' ∷ u) = after (made d) in
    subst (λ z. StepLine T q o z q (tree.pre_step q o' a) (mark m' ∷ u)) sm (subst (λ z. StepLine T q z m' q (tree.pre_step q o' a) (mark m' ∷ u)) so here)
step_back T q o m is t u r v eq d = absurd (omega (arith, unary_code d r, ap head_unary eq, step_unary is))

abbrev pub Stepped : List Name → List Word → ℕ → StepOp → ℕ → Type 0
Stepped T words p o k = Within (g.IsUnary T) (Below 14) p (drop p words) (g.IsUnary T) (Below 14) k (drop k words) (tree.pre_step p o)

pub step_start : (words : List Word) {T : List Name} {p k : ℕ} {o : StepOp} → OperatorAt op.IsStep words p o k → Stepped T words p o k
step_start words {T = T} {p = p} {o = o} at =
    node (word at.at (line_at (mark at.punctuator) (StepLine T p o at.punctuator) (ap head at.at.here) (step_into T p o at.punctuator at.is) (λ t u r v eq d e. step_back T p o at.punctuator at.is t u r v eq d) (start (g.IsUnary T) (Below 14) p (drop p words))))

-- ("&"|"*"|"+"|"-"|"~"|"!") cast
abbrev PrefixLine : List Name → ℕ → UnaryOp → Punctuator → Family tree.Expression
PrefixLine T s o m = After (mark m) (Made (tree.unary s o) (g.IsCast T))

prefix_into : (T : List Name) (q : ℕ) (o : UnaryOp) (m : Punctuator) → op.IsPrefix o m → Into (PrefixLine T q o m) (g.IsUnary T) q
prefix_into T q o m is t _ (after (made d)) = g.prefixed is d

prefix_back : (T : List Name) (q : ℕ) (o : UnaryOp) (m : Punctuator) → op.IsPrefix o m → (t : tree.Expression) (u r v : List Word) → u ++ r ≡ mark m ∷ v → g.IsUnary T q t u → PrefixLine T q o m q t u
prefix_back T q o m is t _ r v eq (g.prefixed {o = o'} {m = m'} {t = a} {u = u} is' d) =
    let sm : m' ≡ m = mark_same eq in
    let so : o' ≡ o = prefix_same is' is sm in
    let here : PrefixLine T q o' m' q (tree.unary q o' a) (mark m' ∷ u) = after (made d) in
    subst (λ z. PrefixLine T q o z q (tree.unary q o' a) (mark m' ∷ u)) sm (subst (λ z. PrefixLine T q z m' q (tree.unary q o' a) (mark m' ∷ u)) so here)
prefix_back T q o m is t u r v eq d = absurd (omega (arith, unary_code d r, ap head_unary eq, prefix_unary is))

abbrev pub Prefixed : List Name → List Word → ℕ → UnaryOp → ℕ → Type 0
Prefixed T words p o k = Within (g.IsUnary T) (Below 14) p (drop p words) (g.IsCast T) (Below 14) k (drop k words) (tree.unary p o)

pub prefix_start : (words : List Word) {T : List Name} {p k : ℕ} {o : UnaryOp} → OperatorAt op.IsPrefix words p o k → Prefixed T words p o k
prefix_start words {T = T} {p = p} {o = o} at =
    node (word at.at (line_at (mark at.punctuator) (PrefixLine T p o at.punctuator) (ap head at.at.here) (prefix_into T p o at.punctuator at.is) (λ t u r v eq d e. prefix_back T p o at.punctuator at.is t u r v eq d) (start (g.IsUnary T) (Below 14) p (drop p words))))

-- "sizeof" unary | "sizeof" "(" typename ")"
sizeof_into : (T : List Name) (q : ℕ) → Into (After (keyword Sizeof) (IsSized T q)) (g.IsUnary T) q
sizeof_into T q t _ (after (of_operand d)) = g.sized d
sizeof_into T q t _ (after (of_type n)) = g.type_sized n

sizeof_back : (T : List Name) (q : ℕ) (t : tree.Expression) (u r v : List Word) → u ++ r ≡ keyword Sizeof ∷ v → g.IsUnary T q t u → After (keyword Sizeof) (IsSized T q) q t u
sizeof_back T q t _ r v eq (g.sized d) = after (of_operand d)
sizeof_back T q t _ r v eq (g.type_sized n) = after (of_type n)
sizeof_back T q t u r v eq d = absurd (omega (arith, unary_code d r, ap head_unary eq))

pub sizeof_start : (words : List Word) {T : List Name} {p k : ℕ} → IsAt (keyword Sizeof) words p k → Within (g.IsUnary T) (Below 14) p (drop p words) (IsSized T p) (Below 14) k (drop k words) (λ t. t)
sizeof_start words {T = T} {p = p} at =
    word at (line_at (keyword Sizeof) (After (keyword Sizeof) (IsSized T p)) (ap head at.here) (sizeof_into T p) (λ t u r v eq d e. sizeof_back T p t u r v eq d) (start (g.IsUnary T) (Below 14) p (drop p words)))

-- postfix
postfix_only : (T : List Name) (q : ℕ) (words : List Word) → NoOperator op.IsStep words q → NoOperator op.IsPrefix words q → (head (drop q words) ≡ Some (keyword Sizeof) → ⊥) → (t : tree.Expression) (u r : List Word) → head (u ++ r) ≡ head (drop q words) → g.IsUnary T q t u → g.IsPostfix T q t u
postfix_only T q words no_step no_prefix no_sizeof t u r eq (g.postfix d) = d
postfix_only T q words no_step no_prefix no_sizeof t _ r eq (g.stepped {o = o} {m = m} is d) = absurd (no_step o m is (sym eq))
postfix_only T q words no_step no_prefix no_sizeof t _ r eq (g.prefixed {o = o} {m = m} is d) = absurd (no_prefix o m is (sym eq))
postfix_only T q words no_step no_prefix no_sizeof t _ r eq (g.sized d) = absurd (no_sizeof (sym eq))
postfix_only T q words no_step no_prefix no_sizeof t _ r eq (g.type_sized n) = absurd (no_sizeof (sym eq))

pub as_postfix : {R : Type 0} (shape : R → tree.Expression) (T : List Name) (words : List Word) (p : ℕ) → NoOperator op.IsStep words p → NoOperator op.IsPrefix words p → (head (drop p words) ≡ Some (keyword Sizeof) → ⊥) → (result : Result (R × ℕ) Stop) → Parses shape (g.IsPostfix T) (Below 14) words p result → Parses shape (g.IsUnary T) (Below 14) words p result
as_postfix shape T words p no_step no_prefix no_sizeof result one =
    handed shape words (line (g.IsPostfix T) (λ t u d. g.postfix d) (λ t u r e d f. postfix_only T p words no_step no_prefix no_sizeof t u r e d) (start (g.IsUnary T) (Below 14) p (drop p words))) result one

-- what stands behind `sizeof`, which is word s
operand_into : (T : List Name) (s q : ℕ) → Into (Made (tree.size_of_expression s) (g.IsUnary T)) (IsSized T s) q
operand_into T s q t u (made d) = of_operand d

operand_only : (T : List Name) (s q : ℕ) (t : tree.Expression) (u r m : List Word) → (head m ≡ Some (mark OpenParen) → ⊥) → head (u ++ r) ≡ head m → IsSized T s q t u → Made (tree.size_of_expression s) (g.IsUnary T) q t u
operand_only T s q t u r m other eq (of_operand d) = made d
operand_only T s q t _ r m other eq (of_type n) = absurd (other (sym eq))

operand_untyped : (T : List Name) (s q : ℕ) (t : tree.Expression) (u r m : List Word) → (BeginsSpecifiers T (head (tail m)) → ⊥) → head (tail (u ++ r)) ≡ head (tail m) → IsSized T s q t u → Made (tree.size_of_expression s) (g.IsUnary T) q t u
operand_untyped T s q t u r m other eq (of_operand d) = made d
operand_untyped T s q t _ r m other eq (of_type {u = u} n) = absurd (other (subst (BeginsSpecifiers T) (ap head (sym (append_assoc u (mark CloseParen ∷ []) r)) ∙ eq) (type_head ((mark CloseParen ∷ []) ++ r) n)))

made_full : (T : List Name) (s q : ℕ) (t : tree.Expression) (u : List Word) → Made (tree.size_of_expression s) (g.IsUnary T) q t u → u ≡ [] → ⊥
made_full T s q t u (made {t = a} d) e = unary_full T q a (subst (g.IsUnary T q a) e d)

opens_operand : (T : List Name) (s q : ℕ) (m : List Word) → head m ≡ Some (mark OpenParen) → Opens (Made (tree.size_of_expression s) (g.IsUnary T)) (Below 14) q m
opens_operand T s q m at = record {
  full = λ t d. made_full T s q t [] d refl;
  tree = tree.size_of_expression s (tree.integer_constant (suc q) zero_number);
  words = mark OpenParen ∷ zero_word ∷ mark CloseParen ∷ [];
  starts = sym at;
  derived = made (g.postfix (g.primary (g.grouped (expression_of (cast_of (g.a_number zero_number)))) g.no_postfix));
  ends = omega arith;
}

pub sized_other : {R : Type 0} (shape : R → tree.Expression) (T : List Name) (words : List Word) (p s : ℕ) → (head (drop p words) ≡ Some (mark OpenParen) → ⊥) → (result : Result (R × ℕ) Stop) → Parses shape (Made (tree.size_of_expression s) (g.IsUnary T)) (Below 14) words p result → Parses shape (IsSized T s) (Below 14) words p result
sized_other shape T words p s other result one =
    handed shape words (line (Made (tree.size_of_expression s) (g.IsUnary T)) (operand_into T s p) (λ t u r e d f. operand_only T s p t u r (drop p words) other e d) (start (IsSized T s) (Below 14) p (drop p words))) result one

pub sized_untyped : {R : Type 0} (shape : R → tree.Expression) (T : List Name) (words : List Word) (p s : ℕ) {k : ℕ} → IsAt (mark OpenParen) words p k → (BeginsSpecifiers T (head (drop k words)) → ⊥) → (result : Result (R × ℕ) Stop) → Parses shape (Made (tree.size_of_expression s) (g.IsUnary T)) (Below 14) words p result → Parses shape (IsSized T s) (Below 14) words p result
sized_untyped shape T words p s at other result one =
    handed shape words (line_two (Made (tree.size_of_expression s) (g.IsUnary T)) (operand_into T s p) (λ t u r e f d h. operand_untyped T s p t u r (drop p words) (λ b. other (subst (BeginsSpecifiers T) (tail_at words at) b)) f d) (opens_operand T s p (drop p words) (ap head at.here)) (start (IsSized T s) (Below 14) p (drop p words))) result one

abbrev TypeLine : List Name → ℕ → Family tree.Expression
TypeLine T s = After (mark OpenParen) (Both (g.IsTypeName T) (λ n. After (mark CloseParen) (Done (tree.size_of_type s n))))

type_into : (T : List Name) (s q : ℕ) → Into (TypeLine T s) (IsSized T s) q
type_into T s q t _ (after (both n (after done))) = of_type n

type_back : (T : List Name) (s q : ℕ) (t : tree.Expression) (u r m : List Word) → BeginsSpecifiers T (head (tail m)) → head m ≡ Some (mark OpenParen) → head (u ++ r) ≡ head m → head (tail (u ++ r)) ≡ head (tail m) → IsSized T s q t u → TypeLine T s q t u
type_back T s q t u r m begins at one two (of_operand {a = a} d) = absurd (not_unary T q a u r d (one ∙ at) (subst (BeginsSpecifiers T) (sym two) begins))
type_back T s q t _ r m begins at one two (of_type n) = after (both n (after done))

type_full : (T : List Name) (s q : ℕ) (t : tree.Expression) (u : List Word) → TypeLine T s q t u → u ≡ [] → ⊥
type_full T s q t _ (after d) e = cc e

opens_type : (T : List Name) (s q : ℕ) (m : List Word) → head m ≡ Some (mark OpenParen) → Opens (TypeLine T s) (Below 14) q m
opens_type T s q m at = record {
  full = λ t d. type_full T s q t [] d refl;
  tree = tree.size_of_type s (some_type T (suc q)).0;
  words = mark OpenParen ∷ keyword Int ∷ mark CloseParen ∷ [];
  starts = sym at;
  derived = after (both (some_type T (suc q)).2 (after done));
  ends = omega arith;
}

abbrev pub SizedType : List Name → List Word → ℕ → ℕ → ℕ → Type 0
SizedType T words s p k = Within (IsSized T s) (Below 14) p (drop p words) (Both (Closed CloseParen (g.IsTypeName T)) (λ n. Done (tree.size_of_type s n))) (Below 14) k (drop k words) (λ t. t)

pub sized_start : (words : List Word) {T : List Name} {s p k : ℕ} → IsAt (mark OpenParen) words p k → BeginsSpecifiers T (head (drop k words)) → SizedType T words s p k
sized_start words {T = T} {s = s} {p = p} at begins =
    as_closed (word at (line_two (TypeLine T s) (type_into T s p) (λ t u r e f d h. type_back T s p t u r (drop p words) (subst (BeginsSpecifiers T) (sym (tail_at words at)) begins) (ap head at.here) e f d) (opens_type T s p (drop p words) (ap head at.here)) (start (IsSized T s) (Below 14) p (drop p words))))

pub refuses_sized : (words : List Word) {T : List Name} {s p k n : ℕ} → SizedType T words s p k → Refuses (Closed CloseParen (g.IsTypeName T)) Anything k (drop k words) n (drop n words) → Refuses (IsSized T s) (Below 14) p (drop p words) n (drop n words)
refuses_sized words {s = s} from one = refused (λ n q. (tree.size_of_type s n, [], done)) (λ a q t v r d e. tt) one from

pub reads_sized : (words : List Word) {T : List Name} {s p k n : ℕ} {name : tree.TypeName} → SizedType T words s p k → Reads (Closed CloseParen (g.IsTypeName T)) Anything k (drop k words) name n (drop n words) → Reads (IsSized T s) (Below 14) p (drop p words) (tree.size_of_type s name) n (drop n words)
reads_sized words from type = all (part (λ a q t v r d e. tt) type from)

-- a node over the operand that was read
pub refuses_made : (words : List Word) {A B : Type 0} {f : A → B} {X : Family A} {F : Ending B} {p n : ℕ} → Refuses X (λ a. F (f a)) p (drop p words) n (drop n words) → Refuses (Made f X) F p (drop p words) n (drop n words)
refuses_made words {f = f} {X = X} {F = F} {p = p} one = last_refused one (node (start (Made f X) F p (drop p words)))

pub reads_made : (words : List Word) {A B : Type 0} {f : A → B} {X : Family A} {F : Ending B} {p n : ℕ} {a : A} → Reads X (λ a. F (f a)) p (drop p words) a n (drop n words) → Reads (Made f X) F p (drop p words) (f a) n (drop n words)
reads_made words {f = f} {X = X} {F = F} {p = p} one = last one (node (start (Made f X) F p (drop p words)))
