-- The lines of binary, cast and unary expressions, part by part.
use Rattle.std.proofs.Common.{◌≡◌, ℕ, zero, suc, ◌+◌, ◌-◌, ◌<◌, ◌≤◌, List, [], ◌∷◌, ◌++◌, length, drop, sym, refl, ap, ◌∙◌, subst, arith, append_assoc, add-one}
use Rattle.std.specs.Prelude.{Option, Some, None, map, Result}
use Rattle.std.proofs.lemmas.List.{append-nil}
use Rattle.im_tok.specs.declared.punctuator.Punctuator.{Punctuator}
use Rattle.im_tok.specs.declared.punctuator.Punctuator.TheVariants.{OpenParen, CloseParen}
use Rattle.im_tok.specs.declared.keyword.Keyword.{Keyword}
use Rattle.im_tok.specs.declared.keyword.Keyword.TheVariants as key
use Rattle.im_word.specs.Words.{Name, Word, name, keyword, mark}
use Rattle.im_ctree.specs.declared.operator.StepOp.{StepOp}
use Rattle.im_ctree.specs.declared.operator.UnaryOp.{UnaryOp}
use Rattle.im_ctree.specs.declared.operator.BinaryOp.{BinaryOp}
use Rattle.im_ctree.specs.declared.specifier.SpecifierWord.TheVariants as sw
use Rattle.im_ctree.specs.Operators as op
use Rattle.im_ctree.specs.Tree as tree
use Rattle.im_ctree.specs.Grammar as g
use Rattle.im_ctree.specs.Follow.{rank, head_rank, Starting, keyword_specifier, StartsSpecifier, at_typedef, at_word, at_struct, at_enum}
use Rattle.im_ctree.proofs.Ranks.{operator_rank, operator_same, step_same, prefix_same, unary_code, step_unary, prefix_unary, head_unary, rest_same, mark_same, type_name_starts, unary_second, unary_starts, blocked, starting_append, meets}
use Rattle.im_ctree.proofs.Behind.{binary_ends, word_goes}
use Rattle.im_ctree.proofs.Derivations.{cast_of, expression_of}
use Rattle.im_parse_core.specs.Reads.{Family, Ending, head, Reads, Refuses, Within}
use Rattle.im_parse_core.specs.Parts.{Both, both, After, after, Made, made, Done, done}
use Rattle.im_parse_core.specs.Places.{IsAt}
use Rattle.im_parse_core.specs.declared.stop.Stop.{Stop}
use Rattle.im_parse_core.proofs.Steps.{Apart, Completes, Some', Into, Back, BackTwo, Opens, tail, cons_of, start, line, line_at, line_two, word, missing, part, refused, node, all, last, last_refused, nothing, as_closed}
use Rattle.im_parse_expression.specs.Parsing.{Below, Anything, Closed, Parses, OperatorAt, NoOperator, IsSized, of_operand, of_type, BeginsSpecifiers, by_keyword, by_name}
use Rattle.im_parse_expression.proofs.Exits.{handed}
use Rattle.im_parse_expression.proofs.Some.{some_cast, some_unary, some_expression, zero_word, zero_number}

-- { operator operand } of a level
abbrev pub Tails : List Name → ℕ → ℕ → tree.Expression → Family tree.Expression
Tails T s n a q t w = g.BinaryTail T s n q a t w

level_into : (T : List Name) (n p : ℕ) → n < 10 → Into (Both (g.IsBinary T (n + 1)) (Tails T p n)) (g.IsBinary T n) p
level_into T n p h t _ (both {a = a} {u = u} d rest) = g.level h (subst (λ z. g.IsBinary T z p a u) (add-one n) d) rest

level_back : (T : List Name) (n p : ℕ) (t : tree.Expression) (u : List Word) → g.IsBinary T n p t u → n < 10 → Both (g.IsBinary T (n + 1)) (Tails T p n) p t u
level_back T n p t u (g.casts d) h = absurd (omega (arith, h))
level_back T n p t _ (g.level {a = a} {u = u} h' d rest) h = both (subst (λ z. g.IsBinary T z p a u) (sym (add-one n)) d) rest

tails_apart : (T : List Name) (s n : ℕ) → Apart (Tails T s n) (Below (n + 4)) (Below ((n + 1) + 4))
tails_apart T s n a q t v r d e = let h = binary_ends d n refl r e in omega (arith, h)

pub level_start : (T : List Name) (n p : ℕ) (w : List Word) → n < 10 → Within (g.IsBinary T n) (Below (n + 4)) p w (Both (g.IsBinary T (n + 1)) (Tails T p n)) (Below (n + 4)) p w (λ t. t)
level_start T n p w h = line (Both (g.IsBinary T (n + 1)) (Tails T p n)) (level_into T n p h) (λ t u r e d f. level_back T n p t u d h) (start (g.IsBinary T n) (Below (n + 4)) p w)

pub refuses_level : (words : List Word) {T : List Name} {n p k : ℕ} → n < 10 → Refuses (g.IsBinary T (n + 1)) (Below ((n + 1) + 4)) p (drop p words) k (drop k words) → Refuses (g.IsBinary T n) (Below (n + 4)) p (drop p words) k (drop k words)
refuses_level words {T = T} {n = n} {p = p} h one = refused (λ a q. (a, [], g.no_operator)) (tails_apart T p n) one (level_start T n p (drop p words) h)

-- the loop's state
abbrev pub InTails : List Name → List Word → ℕ → ℕ → tree.Expression → ℕ → Type 0
InTails T words n p a q = Within (g.IsBinary T n) (Below (n + 4)) p (drop p words) (Tails T p n a) (Below (n + 4)) q (drop q words) (λ t. t)

pub tails_start : (words : List Word) {T : List Name} {n p q : ℕ} {a : tree.Expression} → n < 10 → Reads (g.IsBinary T (n + 1)) (Below ((n + 1) + 4)) p (drop p words) a q (drop q words) → InTails T words n p a q
tails_start words {T = T} {n = n} {p = p} h one = part (tails_apart T p n) one (level_start T n p (drop p words) h)

abbrev OperatorLine : List Name → ℕ → ℕ → tree.Expression → BinaryOp → Punctuator → Family tree.Expression
OperatorLine T s n a o m = After (mark m) (Both (g.IsBinary T (n + 1)) (λ b. Tails T s n (tree.binary s o a b)))

operator_into : (T : List Name) (s n q : ℕ) (a : tree.Expression) (o : BinaryOp) (m : Punctuator) → op.IsBinaryOperator n o m → Into (OperatorLine T s n a o m) (Tails T s n a) q
operator_into T s n q a o m is t _ (after (both {a = b} {u = u} d rest)) = g.an_operator is (subst (λ z. g.IsBinary T z (suc q) b u) (add-one n) d) rest

operator_back : (T : List Name) (s n q : ℕ) (a : tree.Expression) (o : BinaryOp) (m : Punctuator) → op.IsBinaryOperator n o m → (t : tree.Expression) (u r v : List Word) → u ++ r ≡ mark m ∷ v → Tails T s n a q t u → head_rank r < n + 4 → OperatorLine T s n a o m q t u
operator_back T s n q a o m is t _ r v eq g.no_operator e = absurd (blocked (n + 4) e eq (omega (arith, operator_rank is)))
operator_back T s n q a o m is t _ r v eq (g.an_operator {o = o'} {m = m'} {b = b} {u = u} {v = y} is' d rest) e =
    let sm : m' ≡ m = mark_same eq in
    let so : o' ≡ o = operator_same is' is sm in
    let here : OperatorLine T s n a o' m' q t (mark m' ∷ (u ++ y)) = after (both (subst (λ z. g.IsBinary T z (suc q) b u) (sym (add-one n)) d) rest) in
    subst (λ z. OperatorLine T s n a o z q t (mark m' ∷ (u ++ y))) sm (subst (λ z. OperatorLine T s n a z m' q t (mark m' ∷ (u ++ y))) so here)

tails_done_into : (T : List Name) (s n q : ℕ) (a : tree.Expression) → Into (Done a) (Tails T s n a) q
tails_done_into T s n q a t _ done = g.no_operator

tails_end : (T : List Name) (s n q : ℕ) (a : tree.Expression) (words : List Word) → NoOperator (op.IsBinaryOperator n) words q → (t : tree.Expression) (u r : List Word) → head (u ++ r) ≡ head (drop q words) → Tails T s n a q t u → Done a q t u
tails_end T s n q a words other t _ r eq g.no_operator = done
tails_end T s n q a words other t _ r eq (g.an_operator {o = o} {m = m} is d rest) = absurd (other o m is (sym eq))

-- behind an operator
abbrev pub AfterOperator : List Name → List Word → ℕ → ℕ → tree.Expression → BinaryOp → ℕ → Type 0
AfterOperator T words n p a o k = Within (g.IsBinary T n) (Below (n + 4)) p (drop p words) (Both (g.IsBinary T (n + 1)) (λ b. Tails T p n (tree.binary p o a b))) (Below (n + 4)) k (drop k words) (λ t. t)

pub after_operator : (words : List Word) {T : List Name} {n p q k : ℕ} {a : tree.Expression} {o : BinaryOp} → OperatorAt (op.IsBinaryOperator n) words q o k → InTails T words n p a q → AfterOperator T words n p a o k
after_operator words {T = T} {n = n} {p = p} {q = q} {a = a} {o = o} at from =
    word at.at (line_at (mark at.punctuator) (OperatorLine T p n a o at.punctuator) (ap head at.at.here) (operator_into T p n q a o at.punctuator at.is) (λ t u r v eq d e. operator_back T p n q a o at.punctuator at.is t u r v eq d e) from)

pub refuses_operand : (words : List Word) {T : List Name} {n p k l : ℕ} {a : tree.Expression} {o : BinaryOp} → AfterOperator T words n p a o k → Refuses (g.IsBinary T (n + 1)) (Below ((n + 1) + 4)) k (drop k words) l (drop l words) → Refuses (g.IsBinary T n) (Below (n + 4)) p (drop p words) l (drop l words)
refuses_operand words {T = T} {n = n} {p = p} {a = a} {o = o} from one = refused (λ b q. (tree.binary p o a b, [], g.no_operator)) (λ b q t v r d e. tails_apart T p n (tree.binary p o a b) q t v r d e) one from

pub tails_more : (words : List Word) {T : List Name} {n p k l : ℕ} {a b : tree.Expression} {o : BinaryOp} → AfterOperator T words n p a o k → Reads (g.IsBinary T (n + 1)) (Below ((n + 1) + 4)) k (drop k words) b l (drop l words) → InTails T words n p (tree.binary p o a b) l
tails_more words {T = T} {n = n} {p = p} {a = a} {o = o} from one = part (λ b q t v r d e. tails_apart T p n (tree.binary p o a b) q t v r d e) one from

pub tails_done : (words : List Word) {T : List Name} {n p q : ℕ} {a : tree.Expression} → NoOperator (op.IsBinaryOperator n) words q → InTails T words n p a q → Reads (g.IsBinary T n) (Below (n + 4)) p (drop p words) a q (drop q words)
tails_done words {T = T} {n = n} {p = p} {q = q} {a = a} other from =
    all (line (Done a) (tails_done_into T p n q a) (λ t u r e d f. tails_end T p n q a words other t u r e d) from)

-- the tightest level is of casts
cast_level : (T : List Name) (n p : ℕ) (t : tree.Expression) (u : List Word) → n ≡ 10 → g.IsBinary T n p t u → g.IsCast T p t u
cast_level T n p t u e (g.casts d) = d
cast_level T n p t _ e (g.level h d rest) = absurd (omega (arith, h, e))

pub as_cast : {R : Type 0} (shape : R → tree.Expression) (T : List Name) (words : List Word) (p : ℕ) (n : ℕ) → n ≡ 10 → (result : Result (R × ℕ) Stop) → Parses shape (g.IsCast T) (Below 14) words p result → Parses shape (g.IsBinary T n) (Below (n + 4)) words p result
as_cast shape T words p n e result one =
    subst (λ z. Parses shape (g.IsBinary T z) (Below (z + 4)) words p result) (sym e)
    (handed shape words (line (g.IsCast T) (λ t u d. g.casts d) (λ t u r h d f. cast_level T 10 p t u refl d) (start (g.IsBinary T 10) (Below 14) p (drop p words))) result one)

-- what a tighter level refuses, a looser one refuses
looser : (words : List Word) {T : List Name} {p k : ℕ} (d n : ℕ) → n + d ≤ 10 → Refuses (g.IsBinary T (n + d)) (Below ((n + d) + 4)) p (drop p words) k (drop k words) → Refuses (g.IsBinary T n) (Below (n + 4)) p (drop p words) k (drop k words)
looser words {T = T} {p = p} {k = k} zero n h one =
    let same : n + 0 ≡ n = omega arith in
    subst (λ z. Refuses (g.IsBinary T z) (Below (z + 4)) p (drop p words) k (drop k words)) same one
looser words {T = T} {p = p} {k = k} (suc d) n h one =
    let same : n + suc d ≡ (n + 1) + d = omega arith in
    refuses_level words (omega (arith, h)) (looser words d (n + 1) (omega (arith, h)) (subst (λ z. Refuses (g.IsBinary T z) (Below (z + 4)) p (drop p words) k (drop k words)) same one))

pub refuses_looser : (words : List Word) {T : List Name} {p k : ℕ} (n l : ℕ) → n ≤ l → l ≤ 10 → Refuses (g.IsBinary T l) (Below (l + 4)) p (drop p words) k (drop k words) → Refuses (g.IsBinary T n) (Below (n + 4)) p (drop p words) k (drop k words)
refuses_looser words {T = T} {p = p} {k = k} n l h most one =
    let same : l ≡ n + (l - n) = omega (arith, h) in
    looser words (l - n) n (omega (arith, h, most)) (subst (λ z. Refuses (g.IsBinary T z) (Below (z + 4)) p (drop p words) k (drop k words)) same one)

-- what was read of a level goes on with the operators of the next looser one
pub tails_from : (words : List Word) {T : List Name} {p q : ℕ} {a : tree.Expression} (l : ℕ) → 0 < l → l ≤ 10 → Reads (g.IsBinary T l) (Below (l + 4)) p (drop p words) a q (drop q words) → InTails T words (l - 1) p a q
tails_from words {T = T} {p = p} {q = q} {a = a} l some most one =
    let same : l ≡ (l - 1) + 1 = omega (arith, some) in
    tails_start words (omega (arith, some, most)) (subst (λ z. Reads (g.IsBinary T z) (Below (z + 4)) p (drop p words) a q (drop q words)) same one)

-- what a type name begins with
pub begins : {T : List Name} {x : Word} → StartsSpecifier T x → BeginsSpecifiers T (Some x)
begins (at_typedef is) = by_name is
begins (at_word is) = by_keyword (word_goes is)
begins at_struct = by_keyword refl
begins at_enum = by_keyword refl

-- a keyword that specifiers begin with
starts_keyword : {T : List Name} (k : Keyword) → keyword_specifier k ≡ 1 → StartsSpecifier T (keyword k)
starts_keyword key.Typedef e = at_word op.typedef
starts_keyword key.Extern e = at_word op.extern
starts_keyword key.Static e = at_word op.static
starts_keyword key.Const e = at_word op.const
starts_keyword key.Void e = at_word op.void
starts_keyword key.Char e = at_word op.char
starts_keyword key.Short e = at_word op.short
starts_keyword key.Int e = at_word op.int
starts_keyword key.Long e = at_word op.long
starts_keyword key.Signed e = at_word op.signed
starts_keyword key.Unsigned e = at_word op.unsigned
starts_keyword key.Struct e = at_struct
starts_keyword key.Enum e = at_enum
starts_keyword k e = absurd (omega (arith, e))

pub starts_of : {T : List Name} {x : Word} → BeginsSpecifiers T (Some x) → StartsSpecifier T x
starts_of (by_name is) = at_typedef is
starts_of (by_keyword {k = k} is) = starts_keyword k is

pub second_of : (T : List Name) (z : List Word) → BeginsSpecifiers T (head z) → (x : Word) × (z ≡ x ∷ tail z) × BeginsSpecifiers T (Some x)
second_of T [] b = elim b [ ]
second_of T (x ∷ v) b = (x, refl, b)

pub type_head : {T : List Name} {p : ℕ} {n : tree.TypeName} {u : List Word} (z : List Word) → g.IsTypeName T p n u → BeginsSpecifiers T (head (u ++ z))
type_head {T = T} z d = let s = type_name_starts d in subst (BeginsSpecifiers T) (sym (ap (λ y. head (y ++ z)) s.2)) (begins s.3)

-- a unary expression isn't a parenthesis before what begins specifiers
pub not_unary : (T : List Name) (q : ℕ) (t : tree.Expression) (u r : List Word) → g.IsUnary T q t u → head (u ++ r) ≡ Some (mark OpenParen) → BeginsSpecifiers T (head (tail (u ++ r))) → ⊥
not_unary T q t u r d one two =
    let z = second_of T (tail (u ++ r)) two in
    unary_second d r (cons_of (u ++ r) (mark OpenParen) one ∙ ap (λ y. mark OpenParen ∷ y) z.1) (starts_of z.2)

-- cast = unary | "(" typename ")" cast
cast_other : (T : List Name) (q : ℕ) (t : tree.Expression) (u r m : List Word) → (head m ≡ Some (mark OpenParen) → ⊥) → head (u ++ r) ≡ head m → g.IsCast T q t u → g.IsUnary T q t u
cast_other T q t u r m other eq (g.uncast d) = d
cast_other T q t _ r m other eq (g.a_cast n d) = absurd (other (sym eq))

cast_untyped : (T : List Name) (q : ℕ) (t : tree.Expression) (u r m : List Word) → (BeginsSpecifiers T (head (tail m)) → ⊥) → head (tail (u ++ r)) ≡ head (tail m) → g.IsCast T q t u → g.IsUnary T q t u
cast_untyped T q t u r m other eq (g.uncast d) = d
cast_untyped T q t _ r m other eq (g.a_cast {u = u} {v = v} n d) = absurd (other (subst (BeginsSpecifiers T) (ap head (sym (append_assoc u (mark CloseParen ∷ v) r)) ∙ eq) (type_head ((mark CloseParen ∷ v) ++ r) n)))

-- a parenthesis opens a unary expression
pub unary_full : (T : List Name) (q : ℕ) (t : tree.Expression) → g.IsUnary T q t [] → ⊥
unary_full T q t d = let s = unary_starts d in cc s.2

pub opens_unary : (T : List Name) (q : ℕ) (m : List Word) → head m ≡ Some (mark OpenParen) → Opens (g.IsUnary T) (Below 14) q m
opens_unary T q m at = record {
  full = unary_full T q;
  tree = tree.integer_constant (suc q) zero_number;
  words = mark OpenParen ∷ zero_word ∷ mark CloseParen ∷ [];
  starts = sym at;
  derived = g.postfix (g.primary (g.grouped (expression_of (cast_of (g.a_number zero_number)))) g.no_postfix);
  ends = omega arith;
}

pub unparenthesised : {A : Type 0} {D : Family A} {E : Ending A} {s : ℕ} {w : List Word} {put : tree.Expression → A} (T : List Name) (words : List Word) (p : ℕ) → (head (drop p words) ≡ Some (mark OpenParen) → ⊥)
    → Within D E s w (g.IsCast T) (Below 14) p (drop p words) put → Within D E s w (g.IsUnary T) (Below 14) p (drop p words) put
unparenthesised T words p other from =
    line (g.IsUnary T) (λ t u d. g.uncast d) (λ t u r e d f. cast_other T p t u r (drop p words) other e d) from

-- the words behind the one at this place
pub tail_at : (words : List Word) {x : Word} {p k : ℕ} → IsAt x words p k → head (tail (drop p words)) ≡ head (drop k words)
tail_at words at = ap (λ z. head (tail z)) at.here

pub untyped : {A : Type 0} {D : Family A} {E : Ending A} {s : ℕ} {w : List Word} {put : tree.Expression → A} (T : List Name) (words : List Word) (p : ℕ) {k : ℕ} → IsAt (mark OpenParen) words p k → (BeginsSpecifiers T (head (drop k words)) → ⊥)
    → Within D E s w (g.IsCast T) (Below 14) p (drop p words) put → Within D E s w (g.IsUnary T) (Below 14) p (drop p words) put
untyped T words p at other from =
    line_two (g.IsUnary T) (λ t u d. g.uncast d) (λ t u r e f d h. cast_untyped T p t u r (drop p words) (λ b. other (subst (BeginsSpecifiers T) (tail_at words at) b)) f d) (opens_unary T p (drop p words) (ap head at.here)) from

abbrev TypedLine : List Name → ℕ → Family tree.Expression
TypedLine T s = After (mark OpenParen) (Both (g.IsTypeName T) (λ n. After (mark CloseParen) (Made (tree.cast s n) (g.IsCast T))))

typed_into : (T : List Name) (q : ℕ) → Into (TypedLine T q) (g.IsCast T) q
typed_into T q t _ (after (both n (after (made d)))) = g.a_cast n d

typed_back : (T : List Name) (q : ℕ) (t : tree.Expression) (u r m : List Word) → BeginsSpecifiers T (head (tail m)) → head m ≡ Some (mark OpenParen) → head (u ++ r) ≡ head m → head (tail (u ++ r)) ≡ head (tail m) → g.IsCast T q t u → TypedLine T q q t u
typed_back T q t u r m begins at one two (g.uncast d) = absurd (not_unary T q t u r d (one ∙ at) (subst (BeginsSpecifiers T) (sym two) begins))
typed_back T q t _ r m begins at one two (g.a_cast n d) = after (both n (after (made d)))

pub int_specifiers : (T : List Name) (q : ℕ) → g.IsSpecifiers T q (tree.specifiers q (tree.more_specifiers (tree.word_specifier q sw.Int) tree.no_specifiers)) (keyword key.Int ∷ [])
int_specifiers T q = g.first_specifier (g.a_word op.int) g.last_specifier

abbrev pub some_type : (T : List Name) → Some' (g.IsTypeName T)
some_type T q = (tree.type_name (tree.specifiers q (tree.more_specifiers (tree.word_specifier q sw.Int) tree.no_specifiers)) tree.no_declarator, keyword key.Int ∷ [], g.a_type_name (int_specifiers T q) g.no_abstract)

typed_full : (T : List Name) (s q : ℕ) (t : tree.Expression) (u : List Word) → TypedLine T s q t u → u ≡ [] → ⊥
typed_full T s q t _ (after d) e = cc e

opens_typed : (T : List Name) (q : ℕ) (m : List Word) → head m ≡ Some (mark OpenParen) → Opens (TypedLine T q) (Below 14) q m
opens_typed T q m at = record {
  full = λ t d. typed_full T q q t [] d refl;
  tree = tree.cast q (some_type T (suc q)).0 (tree.integer_constant (suc (suc q + 1)) zero_number);
  words = mark OpenParen ∷ keyword key.Int ∷ mark CloseParen ∷ zero_word ∷ [];
  starts = sym at;
  derived = after (both (some_type T (suc q)).2 (after (made (cast_of (g.a_number zero_number)))));
  ends = omega arith;
}

-- behind the parenthesis of a cast
abbrev pub InCast : {A : Type 0} → Family A → Ending A → ℕ → List Word → List Name → List Word → ℕ → ℕ → (tree.Expression → A) → Type 0
InCast D E s w T words p k put = Within D E s w (Both (Closed CloseParen (g.IsTypeName T)) (λ n. Made (tree.cast p n) (g.IsCast T))) (Below 14) k (drop k words) put

pub cast_start : {A : Type 0} {D : Family A} {E : Ending A} {s : ℕ} {w : List Word} {put : tree.Expression → A} (words : List Word) {T : List Name} {p k : ℕ} → IsAt (mark OpenParen) words p k → BeginsSpecifiers T (head (drop k words))
    → Within D E s w (g.IsCast T) (Below 14) p (drop p words) put → InCast D E s w T words p k put
cast_start words {T = T} {p = p} at begins from =
    as_closed (word at (line_two (TypedLine T p) (typed_into T p) (λ t u r e f d h. typed_back T p t u r (drop p words) (subst (BeginsSpecifiers T) (sym (tail_at words at)) begins) (ap head at.here) e f d) (opens_typed T p (drop p words) (ap head at.here)) from))

pub refuses_type : {A : Type 0} {D : Family A} {E : Ending A} {s : ℕ} {w : List Word} {put : tree.Expression → A} (words : List Word) {T : List Name} {p k n : ℕ} → InCast D E s w T words p k put
    → Refuses (Closed CloseParen (g.IsTypeName T)) Anything k (drop k words) n (drop n words) → Refuses D E s w n (drop n words)
refuses_type words {T = T} {p = p} from one = refused (λ n q. let more = some_cast T q in (tree.cast p n more.0, more.1, made more.2)) (λ a q t v r d e. tt) one from

pub cast_typed : {A : Type 0} {D : Family A} {E : Ending A} {s : ℕ} {w : List Word} {put : tree.Expression → A} (words : List Word) {T : List Name} {p k l : ℕ} {name : tree.TypeName} → InCast D E s w T words p k put
    → Reads (Closed CloseParen (g.IsTypeName T)) Anything k (drop k words) name l (drop l words) → Within D E s w (g.IsCast T) (Below 14) l (drop l words) (λ a. put (tree.cast p name a))
cast_typed words from type = node (part (λ a q t v r d e. tt) type from)
