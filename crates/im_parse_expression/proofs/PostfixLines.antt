-- The lines of postfix and primary expressions, part by part.
use Rattle.std.proofs.Common.{◌≡◌, ℕ, suc, ◌+◌, ◌-◌, ◌<◌, ◌≤◌, List, [], ◌∷◌, ◌++◌, length, drop, sym, refl, ap, ◌∙◌, subst, arith, append_assoc}
use Rattle.std.specs.Prelude.{Option, Some, None, Result}
use Rattle.std.specs.List.{Contains}
use Rattle.im_tok.specs.declared.number.Number.{Number}
use Rattle.im_tok.specs.declared.punctuator.Punctuator.{Punctuator}
use Rattle.im_tok.specs.declared.punctuator.Punctuator.TheVariants.{OpenParen, CloseParen, OpenBracket, CloseBracket, Dot, Arrow, Comma}
use Rattle.im_tok.specs.declared.keyword.Keyword.{Keyword}
use Rattle.im_word.specs.Words.{Name, Word, name, keyword, number, character, text, mark, unknown}
use Rattle.im_ctree.specs.declared.operator.StepOp.{StepOp}
use Rattle.im_ctree.specs.Operators as op
use Rattle.im_ctree.specs.Tree as tree
use Rattle.im_ctree.specs.Grammar as g
use Rattle.im_ctree.specs.Follow.{rank, head_rank, Closes, close_paren}
use Rattle.im_ctree.proofs.Ranks.{step_same, step_rank, mark_same, blocked, rest_same, primary_code, head_primary, assign_starts, not_expression}
use Rattle.im_ctree.proofs.Behind.{postfix_ends, argument_ends}
use Rattle.im_parse_core.specs.Reads.{Family, Ending, head, Reads, Refuses, Within}
use Rattle.im_parse_core.specs.Parts.{Both, both, After, after, Made, made, Done, done}
use Rattle.im_parse_core.specs.Places.{IsAt}
use Rattle.im_parse_core.specs.declared.stop.Stop.{Stop}
use Rattle.im_parse_core.proofs.Steps.{Apart, Completes, Into, tail, cons_of, start, line, line_at, word, missing, part, refused, node, all, last, last_refused, nothing, as_closed, first_line, first_line_at, flat, flat_after, flat_made, flat_done}
use Rattle.im_parse_expression.specs.Parsing.{Below, Anything, Closed, Postfixes, Parses, OperatorAt, NoOperator, IsText, NoTextBehind}
use Rattle.im_parse_expression.proofs.TextLines.{begins_text}
use Rattle.im_parse_expression.proofs.Exits.{handed}
use Rattle.im_parse_expression.proofs.Some.{some_primary, some_assignment, zero_word, zero_number}

postfix_into : (T : List Name) (p : ℕ) → Into (Both (g.IsPrimary T) (Postfixes T p)) (g.IsPostfix T) p
postfix_into T p t _ (both d rest) = g.primary d rest

postfix_back : (T : List Name) (p : ℕ) → Into (g.IsPostfix T) (Both (g.IsPrimary T) (Postfixes T p)) p
postfix_back T p t _ (g.primary d rest) = both d rest

postfixes_apart : (T : List Name) (s : ℕ) → Apart (Postfixes T s) (Below 14) (Below 19)
postfixes_apart T s a q t v r d e = postfix_ends d r e

postfix_start : (T : List Name) (p : ℕ) (w : List Word) → Within (g.IsPostfix T) (Below 14) p w (Both (g.IsPrimary T) (Postfixes T p)) (Below 14) p w (λ t. t)
postfix_start T p w = line (Both (g.IsPrimary T) (Postfixes T p)) (postfix_into T p) (λ t u r e d f. postfix_back T p t u d) (start (g.IsPostfix T) (Below 14) p w)

pub refuses_primary : (words : List Word) {T : List Name} {p n : ℕ} → Refuses (g.IsPrimary T) (Below 19) p (drop p words) n (drop n words) → Refuses (g.IsPostfix T) (Below 14) p (drop p words) n (drop n words)
refuses_primary words {T = T} {p = p} one = refused (λ a q. (a, [], g.no_postfix)) (postfixes_apart T p) one (postfix_start T p (drop p words))

pub after_primary : (words : List Word) {T : List Name} {p q : ℕ} {a : tree.Expression} → Reads (g.IsPrimary T) (Below 19) p (drop p words) a q (drop q words) → Within (g.IsPostfix T) (Below 14) p (drop p words) (Postfixes T p a) (Below 14) q (drop q words) (λ t. t)
after_primary words {T = T} {p = p} one = part (postfixes_apart T p) one (postfix_start T p (drop p words))

-- "[" expr "]"
abbrev IndexLine : List Name → ℕ → tree.Expression → Family tree.Expression
IndexLine T s a = After (mark OpenBracket) (Both (g.IsExpression T) (λ b. After (mark CloseBracket) (Postfixes T s (tree.index s a b))))

index_into : (T : List Name) (s q : ℕ) (a : tree.Expression) → Into (IndexLine T s a) (Postfixes T s a) q
index_into T s q a t _ (after (both b (after rest))) = g.indexes b rest

index_back : (T : List Name) (s q : ℕ) (a t : tree.Expression) (u r v : List Word) → u ++ r ≡ mark OpenBracket ∷ v → Postfixes T s a q t u → head_rank r < 14 → IndexLine T s a q t u
index_back T s q a t _ r v eq g.no_postfix e = absurd (blocked 14 e eq (omega arith))
index_back T s q a t _ r v eq (g.indexes b rest) e = after (both b (after rest))
index_back T s q a t _ r v eq (g.calls b rest) e = absurd (omega (arith, ap head_rank eq))
index_back T s q a t _ r v eq (g.dots n rest) e = absurd (omega (arith, ap head_rank eq))
index_back T s q a t _ r v eq (g.arrows n rest) e = absurd (omega (arith, ap head_rank eq))
index_back T s q a t _ r v eq (g.steps is rest) e = absurd (omega (arith, ap head_rank eq, step_rank is))

bracket_apart : (T : List Name) (s : ℕ) (a : tree.Expression) → Apart (λ b. After (mark CloseBracket) (Postfixes T s (tree.index s a b))) (Below 14) (Below 1)
bracket_apart T s a b q t _ r (after d) e = omega arith

abbrev pub Index : List Name → List Word → ℕ → ℕ → tree.Expression → ℕ → Type 0
Index T words s q a k = Within (Postfixes T s a) (Below 14) q (drop q words) (Both (g.IsExpression T) (λ b. After (mark CloseBracket) (Postfixes T s (tree.index s a b)))) (Below 14) k (drop k words) (λ t. t)

pub index_start : (words : List Word) {T : List Name} {q k : ℕ} (s : ℕ) (a : tree.Expression) → IsAt (mark OpenBracket) words q k → Index T words s q a k
index_start words {T = T} {q = q} s a at =
    word at (line_at (mark OpenBracket) (IndexLine T s a) (ap head at.here) (index_into T s q a) (λ t u r v eq d e. index_back T s q a t u r v eq d e) (start (Postfixes T s a) (Below 14) q (drop q words)))

pub refuses_index : (words : List Word) {T : List Name} {s q k n : ℕ} {a : tree.Expression} → Index T words s q a k → Refuses (g.IsExpression T) (Below 1) k (drop k words) n (drop n words) → Refuses (Postfixes T s a) (Below 14) q (drop q words) n (drop n words)
refuses_index words {T = T} {s = s} {a = a} from one = refused (λ b q. (tree.index s a b, mark CloseBracket ∷ [], after g.no_postfix)) (bracket_apart T s a) one from

abbrev pub Bracket : List Name → List Word → ℕ → ℕ → tree.Expression → tree.Expression → ℕ → Type 0
Bracket T words s q a b k = Within (Postfixes T s a) (Below 14) q (drop q words) (After (mark CloseBracket) (Postfixes T s (tree.index s a b))) (Below 14) k (drop k words) (λ t. t)

pub bracket : (words : List Word) {T : List Name} {s q k n : ℕ} {a b : tree.Expression} → Index T words s q a k → Reads (g.IsExpression T) (Below 1) k (drop k words) b n (drop n words) → Bracket T words s q a b n
bracket words {T = T} {s = s} {a = a} from one = part (bracket_apart T s a) one from

pub misses_bracket : (words : List Word) {T : List Name} {s q n : ℕ} {a b : tree.Expression} → Bracket T words s q a b n → (head (drop n words) ≡ Some (mark CloseBracket) → ⊥) → Refuses (Postfixes T s a) (Below 14) q (drop q words) n (drop n words)
misses_bracket words {s = s} {a = a} {b = b} from other = missing (λ q. (tree.index s a b, [], g.no_postfix)) other from

-- "(" [ assign { "," assign } ] ")"
abbrev CallLine : List Name → ℕ → tree.Expression → Family tree.Expression
CallLine T s a = After (mark OpenParen) (Both (g.IsArguments T) (λ bs. After (mark CloseParen) (Postfixes T s (tree.call s a bs))))

call_into : (T : List Name) (s q : ℕ) (a : tree.Expression) → Into (CallLine T s a) (Postfixes T s a) q
call_into T s q a t _ (after (both b (after rest))) = g.calls b rest

call_back : (T : List Name) (s q : ℕ) (a t : tree.Expression) (u r v : List Word) → u ++ r ≡ mark OpenParen ∷ v → Postfixes T s a q t u → head_rank r < 14 → CallLine T s a q t u
call_back T s q a t _ r v eq g.no_postfix e = absurd (blocked 14 e eq (omega arith))
call_back T s q a t _ r v eq (g.calls b rest) e = after (both b (after rest))
call_back T s q a t _ r v eq (g.indexes b rest) e = absurd (omega (arith, ap head_rank eq))
call_back T s q a t _ r v eq (g.dots n rest) e = absurd (omega (arith, ap head_rank eq))
call_back T s q a t _ r v eq (g.arrows n rest) e = absurd (omega (arith, ap head_rank eq))
call_back T s q a t _ r v eq (g.steps is rest) e = absurd (omega (arith, ap head_rank eq, step_rank is))

abbrev pub Call : List Name → List Word → ℕ → ℕ → tree.Expression → ℕ → Type 0
Call T words s q a k = Within (Postfixes T s a) (Below 14) q (drop q words) (Both (Closed CloseParen (g.IsArguments T)) (λ bs. Postfixes T s (tree.call s a bs))) (Below 14) k (drop k words) (λ t. t)

pub call_start : (words : List Word) {T : List Name} {q k : ℕ} (s : ℕ) (a : tree.Expression) → IsAt (mark OpenParen) words q k → Call T words s q a k
call_start words {T = T} {q = q} s a at =
    as_closed (word at (line_at (mark OpenParen) (CallLine T s a) (ap head at.here) (call_into T s q a) (λ t u r v eq d e. call_back T s q a t u r v eq d e) (start (Postfixes T s a) (Below 14) q (drop q words))))

pub refuses_call : (words : List Word) {T : List Name} {s q k n : ℕ} {a : tree.Expression} → Call T words s q a k → Refuses (Closed CloseParen (g.IsArguments T)) Anything k (drop k words) n (drop n words) → Refuses (Postfixes T s a) (Below 14) q (drop q words) n (drop n words)
refuses_call words {s = s} {a = a} from one = refused (λ bs q. (tree.call s a bs, [], g.no_postfix)) (λ b q t v r d e. tt) one from

pub called : (words : List Word) {T : List Name} {s q k n : ℕ} {a : tree.Expression} {bs : tree.Expressions} → Call T words s q a k → Reads (Closed CloseParen (g.IsArguments T)) Anything k (drop k words) bs n (drop n words) → Within (Postfixes T s a) (Below 14) q (drop q words) (Postfixes T s (tree.call s a bs)) (Below 14) n (drop n words) (λ t. t)
called words from one = part (λ b q t v r d e. tt) one from

-- a name
pub data AName : ℕ → Name → List Word → Type 0 where
  a_name : {p : ℕ} (n : Name) → AName p n (name n ∷ [])

name_sole : {p : ℕ} {n t : Name} (others u r : List Word) → name n ∷ others ≡ u ++ r → AName p t u → (t ≡ n) × (u ≡ name n ∷ [])
name_sole {n = n} others _ r eq (a_name m) = let h : m ≡ n = cc in (h, ap (λ z. name z ∷ []) h)

pub reads_name : (words : List Word) {p k : ℕ} {n : Name} → IsAt (name n) words p k → Reads AName Anything p (drop p words) n k (drop k words)
reads_name words {n = n} at = record {
  front = name n ∷ [];
  cut = at.here;
  place = omega (arith, at.next);
  derived = a_name n;
  sole = λ others u r t next eq d e. name_sole others u r eq d;
}

no_name : {p : ℕ} {t : Name} (m u r : List Word) → ((s : Name) → head m ≡ Some (name s) → ⊥) → head (u ++ r) ≡ head m → AName p t u → ⊥
no_name m _ r other eq (a_name n) = other n (sym eq)

pub refuses_name : (words : List Word) {p : ℕ} → ((s : Name) → head (drop p words) ≡ Some (name s) → ⊥) → Refuses AName Anything p (drop p words) p (drop p words)
refuses_name words {p = p} other = nothing (λ q. ([], name [] ∷ [], a_name [])) (λ t u r eq d e. no_name (drop p words) u r other eq d) (start AName Anything p (drop p words))

-- "." Name and "->" Name
abbrev MemberLine : List Name → ℕ → Punctuator → (Name → tree.Expression) → Family tree.Expression
MemberLine T s m form = After (mark m) (Both AName (λ n. Postfixes T s (form n)))

dot_into : (T : List Name) (s q : ℕ) (a : tree.Expression) → Into (MemberLine T s Dot (tree.member_of s a)) (Postfixes T s a) q
dot_into T s q a t _ (after (both {v = v} (a_name n) rest)) = g.dots n (subst (λ k. Postfixes T s (tree.member_of s a n) k t v) (omega arith) rest)

dot_back : (T : List Name) (s q : ℕ) (a t : tree.Expression) (u r v : List Word) → u ++ r ≡ mark Dot ∷ v → Postfixes T s a q t u → head_rank r < 14 → MemberLine T s Dot (tree.member_of s a) q t u
dot_back T s q a t _ r v eq g.no_postfix e = absurd (blocked 14 e eq (omega arith))
dot_back T s q a t _ r v eq (g.dots n {v = y} rest) e = after (both (a_name n) (subst (λ k. Postfixes T s (tree.member_of s a n) k t y) (omega arith) rest))
dot_back T s q a t _ r v eq (g.indexes b rest) e = absurd (omega (arith, ap head_rank eq))
dot_back T s q a t _ r v eq (g.calls b rest) e = absurd (omega (arith, ap head_rank eq))
dot_back T s q a t _ r v eq (g.arrows n rest) e = absurd (omega (arith, ap head_rank eq))
dot_back T s q a t _ r v eq (g.steps is rest) e = absurd (omega (arith, ap head_rank eq, step_rank is))

arrow_into : (T : List Name) (s q : ℕ) (a : tree.Expression) → Into (MemberLine T s Arrow (tree.arrow_to s a)) (Postfixes T s a) q
arrow_into T s q a t _ (after (both {v = v} (a_name n) rest)) = g.arrows n (subst (λ k. Postfixes T s (tree.arrow_to s a n) k t v) (omega arith) rest)

arrow_back : (T : List Name) (s q : ℕ) (a t : tree.Expression) (u r v : List Word) → u ++ r ≡ mark Arrow ∷ v → Postfixes T s a q t u → head_rank r < 14 → MemberLine T s Arrow (tree.arrow_to s a) q t u
arrow_back T s q a t _ r v eq g.no_postfix e = absurd (blocked 14 e eq (omega arith))
arrow_back T s q a t _ r v eq (g.arrows n {v = y} rest) e = after (both (a_name n) (subst (λ k. Postfixes T s (tree.arrow_to s a n) k t y) (omega arith) rest))
arrow_back T s q a t _ r v eq (g.indexes b rest) e = absurd (omega (arith, ap head_rank eq))
arrow_back T s q a t _ r v eq (g.calls b rest) e = absurd (omega (arith, ap head_rank eq))
arrow_back T s q a t _ r v eq (g.dots n rest) e = absurd (omega (arith, ap head_rank eq))
arrow_back T s q a t _ r v eq (g.steps is rest) e = absurd (omega (arith, ap head_rank eq, step_rank is))

-- behind the punctuator before a member's name
abbrev pub Member : List Name → List Word → ℕ → ℕ → tree.Expression → (Name → tree.Expression) → ℕ → Type 0
Member T words s q a form k = Within (Postfixes T s a) (Below 14) q (drop q words) (Both AName (λ n. Postfixes T s (form n))) (Below 14) k (drop k words) (λ t. t)

pub dot_start : (words : List Word) (T : List Name) {q k : ℕ} (s : ℕ) (a : tree.Expression) → IsAt (mark Dot) words q k → Member T words s q a (tree.member_of s a) k
dot_start words T {q = q} s a at =
    word at (line_at (mark Dot) (MemberLine T s Dot (tree.member_of s a)) (ap head at.here) (dot_into T s q a) (λ t u r v eq d e. dot_back T s q a t u r v eq d e) (start (Postfixes T s a) (Below 14) q (drop q words)))

pub arrow_start : (words : List Word) (T : List Name) {q k : ℕ} (s : ℕ) (a : tree.Expression) → IsAt (mark Arrow) words q k → Member T words s q a (tree.arrow_to s a) k
arrow_start words T {q = q} s a at =
    word at (line_at (mark Arrow) (MemberLine T s Arrow (tree.arrow_to s a)) (ap head at.here) (arrow_into T s q a) (λ t u r v eq d e. arrow_back T s q a t u r v eq d e) (start (Postfixes T s a) (Below 14) q (drop q words)))

pub misses_name : (words : List Word) (form : Name → tree.Expression) {T : List Name} {s q k : ℕ} {a : tree.Expression} → Member T words s q a form k → ((n : Name) → head (drop k words) ≡ Some (name n) → ⊥) → Refuses (Postfixes T s a) (Below 14) q (drop q words) k (drop k words)
misses_name words form from other = refused (λ n q. (form n, [], g.no_postfix)) (λ b q t v r d e. tt) (refuses_name words other) from

pub named : (words : List Word) (form : Name → tree.Expression) {T : List Name} {s q k l : ℕ} {a : tree.Expression} {n : Name} → Member T words s q a form k → IsAt (name n) words k l → Within (Postfixes T s a) (Below 14) q (drop q words) (Postfixes T s (form n)) (Below 14) l (drop l words) (λ t. t)
named words form from at = part (λ b q t v r d e. tt) (reads_name words at) from

-- "++" and "--"
abbrev PostLine : List Name → ℕ → tree.Expression → StepOp → Punctuator → Family tree.Expression
PostLine T s a o m = After (mark m) (Postfixes T s (tree.post_step s o a))

post_into : (T : List Name) (s q : ℕ) (a : tree.Expression) (o : StepOp) (m : Punctuator) → op.IsStep o m → Into (PostLine T s a o m) (Postfixes T s a) q
post_into T s q a o m is t _ (after rest) = g.steps is rest

post_back : (T : List Name) (s q : ℕ) (a : tree.Expression) (o : StepOp) (m : Punctuator) → op.IsStep o m → (t : tree.Expression) (u r v : List Word) → u ++ r ≡ mark m ∷ v → Postfixes T s a q t u → head_rank r < 14 → PostLine T s a o m q t u
post_back T s q a o m is t _ r v eq g.no_postfix e = absurd (blocked 14 e eq (omega (arith, step_rank is)))
post_back T s q a o m is t _ r v eq (g.indexes b rest) e = absurd (omega (arith, ap head_rank eq, step_rank is))
post_back T s q a o m is t _ r v eq (g.calls b rest) e = absurd (omega (arith, ap head_rank eq, step_rank is))
post_back T s q a o m is t _ r v eq (g.dots n rest) e = absurd (omega (arith, ap head_rank eq, step_rank is))
post_back T s q a o m is t _ r v eq (g.arrows n rest) e = absurd (omega (arith, ap head_rank eq, step_rank is))
post_back T s q a o m is t _ r v eq (g.steps {o = o'} {m = m'} {v = y} is' rest) e =
    let sm : m' ≡ m = mark_same eq in
    let so : o' ≡ o = step_same is' is sm in
    let here : PostLine T s a o' m' q t (mark m' ∷ y) = after rest in
    subst (λ z. PostLine T s a o z q t (mark m' ∷ y)) sm (subst (λ z. PostLine T s a z m' q t (mark m' ∷ y)) so here)

pub post_stepped : (words : List Word) {T : List Name} {q k : ℕ} {o : StepOp} (s : ℕ) (a : tree.Expression) → OperatorAt op.IsStep words q o k → Within (Postfixes T s a) (Below 14) q (drop q words) (Postfixes T s (tree.post_step s o a)) (Below 14) k (drop k words) (λ t. t)
post_stepped words {T = T} {q = q} {o = o} s a at =
    word at.at (line_at (mark at.punctuator) (PostLine T s a o at.punctuator) (ap head at.at.here) (post_into T s q a o at.punctuator at.is) (λ t u r v eq d e. post_back T s q a o at.punctuator at.is t u r v eq d e) (start (Postfixes T s a) (Below 14) q (drop q words)))

-- nothing of these stands there
pub record Unfixed (words : List Word) (q : ℕ) : Type 0 where
  pub bracket : head (drop q words) ≡ Some (mark OpenBracket) → ⊥
  pub paren : head (drop q words) ≡ Some (mark OpenParen) → ⊥
  pub dot : head (drop q words) ≡ Some (mark Dot) → ⊥
  pub arrow : head (drop q words) ≡ Some (mark Arrow) → ⊥
  pub step : NoOperator op.IsStep words q

unfixed_into : (T : List Name) (s q : ℕ) (a : tree.Expression) → Into (Done a) (Postfixes T s a) q
unfixed_into T s q a t _ done = g.no_postfix

unfixed_back : (T : List Name) (s q : ℕ) (a : tree.Expression) (words : List Word) → Unfixed words q → (t : tree.Expression) (u r : List Word) → head (u ++ r) ≡ head (drop q words) → Postfixes T s a q t u → Done a q t u
unfixed_back T s q a words other t _ r eq g.no_postfix = done
unfixed_back T s q a words other t _ r eq (g.indexes b rest) = absurd (other.bracket (sym eq))
unfixed_back T s q a words other t _ r eq (g.calls b rest) = absurd (other.paren (sym eq))
unfixed_back T s q a words other t _ r eq (g.dots n rest) = absurd (other.dot (sym eq))
unfixed_back T s q a words other t _ r eq (g.arrows n rest) = absurd (other.arrow (sym eq))
unfixed_back T s q a words other t _ r eq (g.steps {o = o} {m = m} is rest) = absurd (other.step o m is (sym eq))

pub postfix_done : (words : List Word) {T : List Name} {q : ℕ} (s : ℕ) (a : tree.Expression) → Unfixed words q → Reads (Postfixes T s a) (Below 14) q (drop q words) a q (drop q words)
postfix_done words {T = T} {q = q} s a other =
    all (line (Done a) (unfixed_into T s q a) (λ t u r e d f. unfixed_back T s q a words other t u r e d) (start (Postfixes T s a) (Below 14) q (drop q words)))

-- primary = "(" expr ")"
group_into : (T : List Name) (q : ℕ) → Into (After (mark OpenParen) (Both (g.IsExpression T) (λ t. After (mark CloseParen) (Done t)))) (g.IsPrimary T) q
group_into T q t _ (after (both d (after done))) = g.grouped d

group_back : (T : List Name) (q : ℕ) (t : tree.Expression) (u r v : List Word) → u ++ r ≡ mark OpenParen ∷ v → g.IsPrimary T q t u → After (mark OpenParen) (Both (g.IsExpression T) (λ t. After (mark CloseParen) (Done t))) q t u
group_back T q t _ r v eq (g.grouped d) = after (both d (after done))
group_back T q t u r v eq d = absurd (omega (arith, primary_code d r, ap head_primary eq))

paren_apart : (T : List Name) → Apart {A = tree.Expression} (λ t. After (mark CloseParen) (Done t)) (Below 19) (Below 1)
paren_apart T a q t _ r (after d) e = omega arith

abbrev pub Group : List Name → List Word → ℕ → ℕ → Type 0
Group T words p k = Within (g.IsPrimary T) (Below 19) p (drop p words) (Both (g.IsExpression T) (λ t. After (mark CloseParen) (Done t))) (Below 19) k (drop k words) (λ t. t)

pub group_start : (words : List Word) {T : List Name} {p k : ℕ} → IsAt (mark OpenParen) words p k → Group T words p k
group_start words {T = T} {p = p} at =
    word at (line_at (mark OpenParen) (After (mark OpenParen) (Both (g.IsExpression T) (λ t. After (mark CloseParen) (Done t)))) (ap head at.here) (group_into T p) (λ t u r v eq d e. group_back T p t u r v eq d) (start (g.IsPrimary T) (Below 19) p (drop p words)))

pub refuses_group : (words : List Word) {T : List Name} {p k n : ℕ} → Group T words p k → Refuses (g.IsExpression T) (Below 1) k (drop k words) n (drop n words) → Refuses (g.IsPrimary T) (Below 19) p (drop p words) n (drop n words)
refuses_group words {T = T} from one = refused (λ t q. (t, mark CloseParen ∷ [], after done)) (paren_apart T) one from

pub misses_paren : (words : List Word) {T : List Name} {p k n : ℕ} {a : tree.Expression} → Group T words p k → Reads (g.IsExpression T) (Below 1) k (drop k words) a n (drop n words) → (head (drop n words) ≡ Some (mark CloseParen) → ⊥) → Refuses (g.IsPrimary T) (Below 19) p (drop p words) n (drop n words)
misses_paren words {T = T} {a = a} from one other = missing (λ q. (a, [], done)) other (part (paren_apart T) one from)

pub reads_group : (words : List Word) {T : List Name} {p k n l : ℕ} {a : tree.Expression} → Group T words p k → Reads (g.IsExpression T) (Below 1) k (drop k words) a n (drop n words) → IsAt (mark CloseParen) words n l → Reads (g.IsPrimary T) (Below 19) p (drop p words) a l (drop l words)
reads_group words {T = T} from one at = all (word at (part (paren_apart T) one from))

-- primary expressions of one word
pub data BeginsPrimary (T : List Name) : Option Word → Type 0 where
  by_identifier : {n : Name} → (Contains T n → ⊥) → BeginsPrimary T (Some (name n))
  by_number : {n : Number} → BeginsPrimary T (Some (number n))
  by_character : {n : ℕ} → BeginsPrimary T (Some (character n))
  by_text : {s : Name} → BeginsPrimary T (Some (text s))
  by_parenthesis : BeginsPrimary T (Some (mark OpenParen))

primary_begins : {T : List Name} {p : ℕ} {t : tree.Expression} {u : List Word} (r : List Word) → g.IsPrimary T p t u → BeginsPrimary T (head (u ++ r))
primary_begins r (g.an_identifier n free) = by_identifier free
primary_begins r (g.a_number n) = by_number
primary_begins r (g.a_character n) = by_character
primary_begins {T = T} r (g.a_string s) = let b = begins_text r s in subst (BeginsPrimary T) (sym b.1) by_text
primary_begins r (g.grouped d) = by_parenthesis

pub no_primary : (words : List Word) {T : List Name} {p : ℕ} → (BeginsPrimary T (head (drop p words)) → ⊥) → Refuses (g.IsPrimary T) (Below 19) p (drop p words) p (drop p words)
no_primary words {T = T} {p = p} other = nothing (some_primary T) (λ t u r eq d e. other (subst (BeginsPrimary T) eq (primary_begins r d))) (start (g.IsPrimary T) (Below 19) p (drop p words))

pub not_none : {T : List Name} {m : List Word} → m ≡ [] → BeginsPrimary T (head m) → ⊥
not_none {T = T} e b = elim (subst (BeginsPrimary T) (ap head e) b) [ ]

pub not_keyword : {T : List Name} {words : List Word} {p k : ℕ} {x : Keyword} → IsAt (keyword x) words p k → BeginsPrimary T (head (drop p words)) → ⊥
not_keyword {T = T} at b = elim (subst (BeginsPrimary T) (ap head at.here) b) [ ]

pub not_unknown : {T : List Name} {words : List Word} {p k : ℕ} → IsAt unknown words p k → BeginsPrimary T (head (drop p words)) → ⊥
not_unknown {T = T} at b = elim (subst (BeginsPrimary T) (ap head at.here) b) [ ]

typedef_begins : {T : List Name} {n : Name} → BeginsPrimary T (Some (name n)) → Contains T n → ⊥
typedef_begins (by_identifier free) = free

pub not_typedef : {T : List Name} {words : List Word} {p k : ℕ} {n : Name} → IsAt (name n) words p k → Contains T n → BeginsPrimary T (head (drop p words)) → ⊥
not_typedef {T = T} at is b = typedef_begins (subst (BeginsPrimary T) (ap head at.here) b) is

mark_begins : {T : List Name} {m : Punctuator} → BeginsPrimary T (Some (mark m)) → m ≡ OpenParen
mark_begins by_parenthesis = refl

pub not_mark : {T : List Name} {words : List Word} {p k : ℕ} {m : Punctuator} → IsAt (mark m) words p k → (head (drop p words) ≡ Some (mark OpenParen) → ⊥) → BeginsPrimary T (head (drop p words)) → ⊥
not_mark {T = T} at other b = other (ap head at.here ∙ ap (λ z. Some (mark z)) (mark_begins (subst (BeginsPrimary T) (ap head at.here) b)))

identifier_sole : {T : List Name} {p : ℕ} {n : Name} {t : tree.Expression} (others u r : List Word) → name n ∷ others ≡ u ++ r → g.IsPrimary T p t u → (t ≡ tree.identifier p n) × (u ≡ name n ∷ [])
identifier_sole {p = p} {n = n} others _ r eq (g.an_identifier m free) = let h : m ≡ n = cc in (ap (λ z. tree.identifier p z) h, ap (λ z. name z ∷ []) h)
identifier_sole others u r eq d = absurd (omega (arith, primary_code d r, ap head_primary eq))

pub reads_identifier : {T : List Name} {words : List Word} {p k : ℕ} {n : Name} → IsAt (name n) words p k → (Contains T n → ⊥) → Reads (g.IsPrimary T) (Below 19) p (drop p words) (tree.identifier p n) k (drop k words)
reads_identifier {n = n} at free = record {
  front = name n ∷ [];
  cut = at.here;
  place = omega (arith, at.next);
  derived = g.an_identifier n free;
  sole = λ others u r t next eq d e. identifier_sole others u r eq d;
}

number_sole : {T : List Name} {p : ℕ} {n : Number} {t : tree.Expression} (others u r : List Word) → number n ∷ others ≡ u ++ r → g.IsPrimary T p t u → (t ≡ tree.integer_constant p n) × (u ≡ number n ∷ [])
number_sole {p = p} {n = n} others _ r eq (g.a_number m) = let h : m ≡ n = cc in (ap (λ z. tree.integer_constant p z) h, ap (λ z. number z ∷ []) h)
number_sole others u r eq d = absurd (omega (arith, primary_code d r, ap head_primary eq))

pub reads_number : {T : List Name} {words : List Word} {p k : ℕ} {n : Number} → IsAt (number n) words p k → Reads (g.IsPrimary T) (Below 19) p (drop p words) (tree.integer_constant p n) k (drop k words)
reads_number {n = n} at = record {
  front = number n ∷ [];
  cut = at.here;
  place = omega (arith, at.next);
  derived = g.a_number n;
  sole = λ others u r t next eq d e. number_sole others u r eq d;
}

character_sole : {T : List Name} {p n : ℕ} {t : tree.Expression} (others u r : List Word) → character n ∷ others ≡ u ++ r → g.IsPrimary T p t u → (t ≡ tree.character_constant p n) × (u ≡ character n ∷ [])
character_sole {p = p} {n = n} others _ r eq (g.a_character m) = let h : m ≡ n = cc in (ap (λ z. tree.character_constant p z) h, ap (λ z. character z ∷ []) h)
character_sole others u r eq d = absurd (omega (arith, primary_code d r, ap head_primary eq))

pub reads_character : {T : List Name} {words : List Word} {p k n : ℕ} → IsAt (character n) words p k → Reads (g.IsPrimary T) (Below 19) p (drop p words) (tree.character_constant p n) k (drop k words)
reads_character {n = n} at = record {
  front = character n ∷ [];
  cut = at.here;
  place = omega (arith, at.next);
  derived = g.a_character n;
  sole = λ others u r t next eq d e. character_sole others u r eq d;
}

-- primary = String { String }
string_into : (T : List Name) (q : ℕ) → Into (Made (tree.string_literal q) IsText) (g.IsPrimary T) q
string_into T q t u (made d) = g.a_string d

string_back : (T : List Name) (q : ℕ) (s : Name) (t : tree.Expression) (u r v : List Word) → u ++ r ≡ text s ∷ v → g.IsPrimary T q t u → Made (tree.string_literal q) IsText q t u
string_back T q s t u r v eq (g.a_string d) = made d
string_back T q s t u r v eq d = absurd (omega (arith, primary_code d r, ap head_primary eq))

pub string_start : {T : List Name} {words : List Word} {p k : ℕ} {s : Name} → IsAt (text s) words p k → Within (g.IsPrimary T) (Below 19) p (drop p words) IsText NoTextBehind p (drop p words) (tree.string_literal p)
string_start {T = T} {words = words} {p = p} {s = s} at =
    node (line_at (text s) (Made (tree.string_literal p) IsText) (ap head at.here) (string_into T p) (λ t u r v eq d e. string_back T p s t u r v eq d) (start (g.IsPrimary T) (Below 19) p (drop p words)))

-- a postfix expression that goes on from a, read so far as b
abbrev pub InPostfix : List Name → List Word → ℕ → ℕ → tree.Expression → ℕ → tree.Expression → Type 0
InPostfix T words s p a q b = Within (Postfixes T s a) (Below 14) p (drop p words) (Postfixes T s b) (Below 14) q (drop q words) (λ t. t)

pub postfix_goes : (words : List Word) {T : List Name} (s p : ℕ) (a : tree.Expression) → InPostfix T words s p a p a
postfix_goes words {T = T} s p a = start (Postfixes T s a) (Below 14) p (drop p words)

-- one part more
pub postfix_more : (words : List Word) {T : List Name} {s p q k : ℕ} {a b d : tree.Expression} → InPostfix T words s p a q b → InPostfix T words s q b k d → InPostfix T words s p a k d
postfix_more words so_far part = record {
  reads = λ t n rest h. so_far.reads t n rest (part.reads t n rest h);
  refuses = λ n rest h. so_far.refuses n rest (part.refuses n rest h);
}
