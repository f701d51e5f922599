-- Loops, part by part.
use Rattle.std.proofs.Common.{◌≡◌, ℕ, suc, ◌+◌, List, [], ◌∷◌, ◌++◌, drop, sym, subst}
use Rattle.std.specs.Prelude.{Some}
use Rattle.im_tok.specs.declared.keyword.Keyword.TheVariants.{While}
use Rattle.im_tok.specs.declared.punctuator.Punctuator.TheVariants.{OpenParen, CloseParen, Semicolon}
use Rattle.im_word.specs.Words.{Name, Word, keyword, mark}
use Rattle.im_ctree.specs.Tree as tree
use Rattle.im_ctree.specs.Grammar as g
use Rattle.im_ctree.specs.Units as units
use Rattle.im_ctree.specs.Typedefs.{names_behind, names_behind_init}
use Rattle.im_parse_core.specs.Reads.{Family, head, Reads, Refuses, Within}
use Rattle.im_parse_core.specs.Parts.{Both, both, After, after, Made, made, Done, done}
use Rattle.im_parse_core.specs.Places.{IsAt}
use Rattle.im_parse_core.proofs.Steps.{Apart, Completes, Some', start, word, missing, part, refused, node, as_closed}
use Rattle.im_parse_expression.specs.Parsing.{Anything, Closed}
use Rattle.im_parse_expression.proofs.Some.{some_expression}
use Rattle.im_parse_statement.specs.declared.start.StatementStart.TheVariants as start'
use Rattle.im_parse_statement.specs.Statements.{AfterStatement, RestOf, Condition}
use Rattle.im_parse_statement.proofs.Closing.{as_condition}
use Rattle.im_parse_statement.proofs.Forms.{some_statement}
use Rattle.im_parse_statement.proofs.BranchLines.{Rest, InHead}

-- "while" "(" expr ")" stmt
pub while_start : (words : List Word) (T : List Name) (s p : ℕ) → InHead T words s start'.While p (tree.while_statement s) (units.IsStatement T)
while_start words T s p = as_condition (start (RestOf T s start'.While) AfterStatement p (drop p words))

-- "do" stmt "while" "(" expr ")" ";"
abbrev DoEnd : List Name → ℕ → tree.Statement → Family tree.Statement
DoEnd T s b = After (mark OpenParen) (Both (g.IsExpression (names_behind T b)) (λ e. After (mark CloseParen) (After (mark Semicolon) (Done (tree.do_statement s b e)))))

abbrev pub DoWhile : List Name → ℕ → tree.Statement → Family tree.Statement
DoWhile T s b = After (keyword While) (DoEnd T s b)

some_end : (T : List Name) (s : ℕ) (b : tree.Statement) → Some' (DoEnd T s b)
some_end T s b q =
    let e = some_expression (names_behind T b) (suc q) in
    (tree.do_statement s b e.0, mark OpenParen ∷ (e.1 ++ (mark CloseParen ∷ mark Semicolon ∷ [])), after (both e.2 (after (after done))))

some_while : (T : List Name) (s : ℕ) → Completes (DoWhile T s)
some_while T s b q = let e = some_end T s b (suc q) in (e.0, keyword While ∷ e.1, after e.2)

while_apart : (T : List Name) (s : ℕ) → Apart (DoWhile T s) AfterStatement AfterStatement
while_apart T s b q t _ r (after d) f = λ h k. cc k

abbrev pub InDo : List Name → List Word → ℕ → ℕ → Type 0
InDo T words s p = Rest T words s start'.Do p (Both (units.IsStatement T) (DoWhile T s)) p

pub do_start : (words : List Word) (T : List Name) (s p : ℕ) → InDo T words s p
do_start words T s p = start (RestOf T s start'.Do) AfterStatement p (drop p words)

pub refuses_do : (words : List Word) {T : List Name} {s p n : ℕ} → InDo T words s p → Refuses (units.IsStatement T) AfterStatement p (drop p words) n (drop n words) → Refuses (RestOf T s start'.Do) AfterStatement p (drop p words) n (drop n words)
refuses_do words {T = T} {s = s} from one = refused (some_while T s) (while_apart T s) one from

abbrev pub AtWhile : List Name → List Word → ℕ → ℕ → tree.Statement → ℕ → Type 0
AtWhile T words s p b q = Rest T words s start'.Do p (DoWhile T s b) q

pub do_while : (words : List Word) {T : List Name} {s p n : ℕ} {b : tree.Statement} → InDo T words s p → Reads (units.IsStatement T) AfterStatement p (drop p words) b n (drop n words) → AtWhile T words s p b n
do_while words {T = T} {s = s} from one = part (while_apart T s) one from

pub misses_while : (words : List Word) {T : List Name} {s p q : ℕ} {b : tree.Statement} → AtWhile T words s p b q → (head (drop q words) ≡ Some (keyword While) → ⊥) → Refuses (RestOf T s start'.Do) AfterStatement p (drop p words) q (drop q words)
misses_while words {T = T} {s = s} {b = b} from other = missing (some_end T s b) other from

abbrev pub AtCondition : List Name → List Word → ℕ → ℕ → tree.Statement → List Name → ℕ → Type 0
AtCondition T words s p b T' q = Rest T words s start'.Do p (Both (Condition T') (λ e. After (mark Semicolon) (Done (tree.do_statement s b e)))) q

pub do_condition : (words : List Word) {T T' : List Name} {s p q n : ℕ} {b : tree.Statement} → T' ≡ names_behind T b → AtWhile T words s p b q → IsAt (keyword While) words q n → AtCondition T words s p b T' n
do_condition words {T = T} {s = s} {p = p} {n = n} {b = b} same from at = subst (λ z. AtCondition T words s p b z n) (sym same) (as_condition (word at from))

pub refuses_last : (words : List Word) {T T' : List Name} {s p q n : ℕ} {b : tree.Statement} → AtCondition T words s p b T' q → Refuses (Condition T') Anything q (drop q words) n (drop n words) → Refuses (RestOf T s start'.Do) AfterStatement p (drop p words) n (drop n words)
refuses_last words {s = s} {b = b} from one = refused (λ e q. (tree.do_statement s b e, mark Semicolon ∷ [], after done)) (λ a q t v r d e. tt) one from

abbrev pub AtEnd : List Name → List Word → ℕ → ℕ → tree.Statement → tree.Expression → ℕ → Type 0
AtEnd T words s p b e q = Rest T words s start'.Do p (After (mark Semicolon) (Done (tree.do_statement s b e))) q

pub do_end : (words : List Word) {T T' : List Name} {s p q n : ℕ} {b : tree.Statement} {e : tree.Expression} → AtCondition T words s p b T' q → Reads (Condition T') Anything q (drop q words) e n (drop n words) → AtEnd T words s p b e n
do_end words from one = part (λ a q t v r d e. tt) one from

-- "for" "(" ( decl | [expr] ";" ) [expr] ";" [expr] ")" stmt
abbrev ForBody : List Name → ℕ → tree.ForInit → tree.MaybeExpression → tree.MaybeExpression → Family tree.Statement
ForBody T s i c n = Made (tree.for_statement s i c n) (units.IsStatement T)

abbrev ForStep : List Name → ℕ → tree.ForInit → tree.MaybeExpression → Family tree.Statement
ForStep T s i c = Both (units.IsMaybeExpression T) (λ n. After (mark CloseParen) (ForBody T s i c n))

abbrev ForCondition : List Name → ℕ → tree.ForInit → Family tree.Statement
ForCondition T s i = Both (units.IsMaybeExpression T) (λ c. After (mark Semicolon) (ForStep T s i c))

abbrev pub ForLine : List Name → ℕ → Family tree.Statement
ForLine T s = Both (units.IsForInit T) (λ i. ForCondition (names_behind_init T i) s i)

some_body : (T : List Name) (s : ℕ) (i : tree.ForInit) (c : tree.MaybeExpression) → Completes (ForBody T s i c)
some_body T s i c n q = let b = some_statement T q in (tree.for_statement s i c n b.0, b.1, made b.2)

some_step : (T : List Name) (s : ℕ) (i : tree.ForInit) → Completes (ForStep T s i)
some_step T s i c q = let b = some_body T s i c tree.no_expression (suc (q + 0)) in (b.0, mark CloseParen ∷ b.1, both units.nothing (after b.2))

some_condition : (T : List Name) (s : ℕ) (i : tree.ForInit) → Some' (ForCondition T s i)
some_condition T s i q = let b = some_step T s i tree.no_expression (suc (q + 0)) in (b.0, mark Semicolon ∷ b.1, both units.nothing (after b.2))

some_for : (T : List Name) (s : ℕ) → Some' (ForLine T s)
some_for T s q =
    let i : tree.ForInit = tree.for_expression tree.no_expression in
    let b = some_condition T s i (q + 1) in
    (b.0, mark Semicolon ∷ b.1, both (units.begins_with_expression units.nothing) b.2)

pub misses_paren : (words : List Word) (T : List Name) (s : ℕ) {p : ℕ} → (head (drop p words) ≡ Some (mark OpenParen) → ⊥) → Refuses (RestOf T s start'.For) AfterStatement p (drop p words) p (drop p words)
misses_paren words T s {p = p} other = missing (some_for T s) other (start (RestOf T s start'.For) AfterStatement p (drop p words))

abbrev pub InFor : List Name → List Word → ℕ → ℕ → ℕ → Type 0
InFor T words s p q = Rest T words s start'.For p (ForLine T s) q

pub for_start : (words : List Word) (T : List Name) (s : ℕ) {p k : ℕ} → IsAt (mark OpenParen) words p k → InFor T words s p k
for_start words T s {p = p} at = word at (start (RestOf T s start'.For) AfterStatement p (drop p words))

pub refuses_init : (words : List Word) {T : List Name} {s p q n : ℕ} → InFor T words s p q → Refuses (units.IsForInit T) Anything q (drop q words) n (drop n words) → Refuses (RestOf T s start'.For) AfterStatement p (drop p words) n (drop n words)
refuses_init words {T = T} {s = s} from one = refused (λ i q. some_condition (names_behind_init T i) s i q) (λ a q t v r d e. tt) one from

-- behind what it begins with, with the typedef names there
abbrev pub InTest : List Name → List Word → ℕ → ℕ → tree.ForInit → List Name → ℕ → Type 0
InTest T words s p i T' q = Rest T words s start'.For p (Both (Closed Semicolon (units.IsMaybeExpression T')) (λ c. ForStep T' s i c)) q

pub for_test : (words : List Word) {T T' : List Name} {s p q n : ℕ} {i : tree.ForInit} → T' ≡ names_behind_init T i → InFor T words s p q → Reads (units.IsForInit T) Anything q (drop q words) i n (drop n words) → InTest T words s p i T' n
for_test words {T = T} {s = s} {p = p} {n = n} {i = i} same from one = subst (λ z. InTest T words s p i z n) (sym same) (as_closed (part (λ a q t v r d e. tt) one from))

pub refuses_test : (words : List Word) {T T' : List Name} {s p q n : ℕ} {i : tree.ForInit} → InTest T words s p i T' q → Refuses (Closed Semicolon (units.IsMaybeExpression T')) Anything q (drop q words) n (drop n words) → Refuses (RestOf T s start'.For) AfterStatement p (drop p words) n (drop n words)
refuses_test words {T' = T'} {s = s} {i = i} from one = refused (some_step T' s i) (λ a q t v r d e. tt) one from

abbrev pub InStep : List Name → List Word → ℕ → ℕ → tree.ForInit → tree.MaybeExpression → List Name → ℕ → Type 0
InStep T words s p i c T' q = Rest T words s start'.For p (Both (Closed CloseParen (units.IsMaybeExpression T')) (λ n. ForBody T' s i c n)) q

pub for_step : (words : List Word) {T T' : List Name} {s p q n : ℕ} {i : tree.ForInit} {c : tree.MaybeExpression} → InTest T words s p i T' q → Reads (Closed Semicolon (units.IsMaybeExpression T')) Anything q (drop q words) c n (drop n words) → InStep T words s p i c T' n
for_step words from one = as_closed (part (λ a q t v r d e. tt) one from)

pub refuses_step : (words : List Word) {T T' : List Name} {s p q n : ℕ} {i : tree.ForInit} {c : tree.MaybeExpression} → InStep T words s p i c T' q → Refuses (Closed CloseParen (units.IsMaybeExpression T')) Anything q (drop q words) n (drop n words) → Refuses (RestOf T s start'.For) AfterStatement p (drop p words) n (drop n words)
refuses_step words {T' = T'} {s = s} {i = i} {c = c} from one = refused (some_body T' s i c) (λ a q t v r d e. tt) one from

pub for_body : (words : List Word) {T T' : List Name} {s p q k : ℕ} {i : tree.ForInit} {c n : tree.MaybeExpression} → InStep T words s p i c T' q → Reads (Closed CloseParen (units.IsMaybeExpression T')) Anything q (drop q words) n k (drop k words) → Within (RestOf T s start'.For) AfterStatement p (drop p words) (units.IsStatement T') AfterStatement k (drop k words) (tree.for_statement s i c n)
for_body words from one = node (part (λ a q t v r d e. tt) one from)
