-- Statements that branch and are labelled, part by part.
use Rattle.std.proofs.Common.{◌≡◌, ℕ, suc, List, [], ◌∷◌, ◌++◌, drop, sym, refl, ap, ◌∙◌, subst, arith, Bool, true, false}
use Rattle.std.specs.Prelude.{Some}
use Rattle.im_tok.specs.declared.keyword.Keyword.TheVariants.{Else}
use Rattle.im_tok.specs.declared.punctuator.Punctuator.TheVariants.{Colon}
use Rattle.im_word.specs.Words.{Name, Word, keyword, mark}
use Rattle.im_ctree.specs.Tree as tree
use Rattle.im_ctree.specs.Grammar as g
use Rattle.im_ctree.specs.Units as units
use Rattle.im_ctree.specs.Typedefs.{names_behind}
use Rattle.im_parse_core.specs.Reads.{Family, Ending, head, Reads, Refuses, Within}
use Rattle.im_parse_core.specs.Parts.{Both, both, After, after, Made, made, Done, done}
use Rattle.im_parse_core.specs.Places.{IsAt}
use Rattle.im_parse_core.proofs.Steps.{Apart, Completes, Some', Into, start, line, line_at, word, missing, part, refused, node, all}
use Rattle.im_parse_expression.specs.Parsing.{Anything, Below}
use Rattle.im_parse_statement.specs.declared.start.StatementStart.{StatementStart}
use Rattle.im_parse_statement.specs.declared.start.StatementStart.TheVariants as start'
use Rattle.im_parse_statement.specs.Statements.{AfterStatement, RestOf, Condition, ElsePart, no_else, an_else, BlockLine}
use Rattle.im_parse_statement.proofs.Closing.{as_condition}
use Rattle.im_parse_statement.proofs.Forms.{some_statement}

-- what is to be read of a statement's rest
abbrev pub Rest : List Name → List Word → ℕ → StatementStart → ℕ → Family tree.Statement → ℕ → Type 0
Rest T words s x p X q = Within (RestOf T s x) AfterStatement p (drop p words) X AfterStatement q (drop q words) (λ t. t)

-- "if" "(" expr ")" stmt [ "else" stmt ]
abbrev pub IfBody : List Name → ℕ → tree.Expression → Family tree.Statement
IfBody T s e = Both (units.IsStatement T) (λ b. ElsePart T s e b)

abbrev pub InIf : List Name → List Word → ℕ → ℕ → Type 0
InIf T words s p = Rest T words s start'.If p (Both (Condition T) (IfBody T s)) p

pub if_start : (words : List Word) (T : List Name) (s p : ℕ) → InIf T words s p
if_start words T s p = as_condition (start (RestOf T s start'.If) AfterStatement p (drop p words))

some_if : (T : List Name) (s : ℕ) → Completes (IfBody T s)
some_if T s e q = let b = some_statement T q in (tree.if_statement s e b.0 tree.no_statement, b.1 ++ [], both b.2 no_else)

pub refuses_if : (words : List Word) {T : List Name} {s p n : ℕ} → InIf T words s p → Refuses (Condition T) Anything p (drop p words) n (drop n words) → Refuses (RestOf T s start'.If) AfterStatement p (drop p words) n (drop n words)
refuses_if words {T = T} {s = s} from one = refused (some_if T s) (λ a q t v r d e. tt) one from

abbrev pub AtBody : List Name → List Word → ℕ → ℕ → tree.Expression → ℕ → Type 0
AtBody T words s p e q = Rest T words s start'.If p (IfBody T s e) q

pub if_body : (words : List Word) {T : List Name} {s p n : ℕ} {e : tree.Expression} → InIf T words s p → Reads (Condition T) Anything p (drop p words) e n (drop n words) → AtBody T words s p e n
if_body words from one = part (λ a q t v r d e. tt) one from

else_apart : (T : List Name) (s : ℕ) (e : tree.Expression) → Apart (λ b. ElsePart T s e b) AfterStatement AfterStatement
else_apart T s e b q t _ r no_else f = λ h. f refl
else_apart T s e b q t _ r (an_else none o) f = λ h k. absurd (let z : true ≡ false = sym h ∙ none in cc)

some_else : (T : List Name) (s : ℕ) (e : tree.Expression) → Completes (λ b. ElsePart T s e b)
some_else T s e b q = (tree.if_statement s e b tree.no_statement, [], no_else)

pub refuses_body : (words : List Word) {T : List Name} {s p q n : ℕ} {e : tree.Expression} → AtBody T words s p e q → Refuses (units.IsStatement T) AfterStatement q (drop q words) n (drop n words) → Refuses (RestOf T s start'.If) AfterStatement p (drop p words) n (drop n words)
refuses_body words {T = T} {s = s} {e = e} from one = refused (some_else T s e) (else_apart T s e) one from

abbrev pub AtElse : List Name → List Word → ℕ → ℕ → tree.Expression → tree.Statement → ℕ → Type 0
AtElse T words s p e b q = Rest T words s start'.If p (ElsePart T s e b) q

pub if_else : (words : List Word) {T : List Name} {s p q n : ℕ} {e : tree.Expression} {b : tree.Statement} → AtBody T words s p e q → Reads (units.IsStatement T) AfterStatement q (drop q words) b n (drop n words) → AtElse T words s p e b n
if_else words {T = T} {s = s} {e = e} from one = part (else_apart T s e) one from

alone_into : (T : List Name) (s q : ℕ) (e : tree.Expression) (b : tree.Statement) → Into (Done (tree.if_statement s e b tree.no_statement)) (ElsePart T s e b) q
alone_into T s q e b t _ done = no_else

alone_back : (T : List Name) (s q : ℕ) (e : tree.Expression) (b : tree.Statement) (m : List Word) → (head m ≡ Some (keyword Else) → ⊥) → (t : tree.Statement) (u r : List Word) → head (u ++ r) ≡ head m → ElsePart T s e b q t u → Done (tree.if_statement s e b tree.no_statement) q t u
alone_back T s q e b m other t _ r eq no_else = done
alone_back T s q e b m other t _ r eq (an_else none o) = absurd (other (sym eq))

-- no `else` stands behind
pub reads_alone : (words : List Word) {T : List Name} {s p q : ℕ} {e : tree.Expression} {b : tree.Statement} → (head (drop q words) ≡ Some (keyword Else) → ⊥) → AtElse T words s p e b q → Reads (RestOf T s start'.If) AfterStatement p (drop p words) (tree.if_statement s e b tree.no_statement) q (drop q words)
reads_alone words {T = T} {s = s} {q = q} {e = e} {b = b} other from =
    all (line (Done (tree.if_statement s e b tree.no_statement)) (alone_into T s q e b) (λ t u r eq d f. alone_back T s q e b (drop q words) other t u r eq d) from)

bool_false : (b : Bool) → (b ≡ true → ⊥) → b ≡ false
bool_false true other = absurd (other refl)
bool_false false other = refl

abbrev ElseLine : List Name → ℕ → tree.Expression → tree.Statement → Family tree.Statement
ElseLine T s e b = After (keyword Else) (Made (λ o. tree.if_statement s e b (tree.a_statement o)) (units.IsStatement (names_behind T b)))

else_into : (T : List Name) (s q : ℕ) (e : tree.Expression) (b : tree.Statement) → units.takes_else b ≡ false → Into (ElseLine T s e b) (ElsePart T s e b) q
else_into T s q e b none t _ (after (made o)) = an_else none o

else_back : (T : List Name) (s q : ℕ) (e : tree.Expression) (b t : tree.Statement) (u r v : List Word) → u ++ r ≡ keyword Else ∷ v → ElsePart T s e b q t u → AfterStatement t r → ElseLine T s e b q t u
else_back T s q e b t _ r v eq no_else f = absurd (f refl (ap head eq))
else_back T s q e b t _ r v eq (an_else none o) f = after (made o)

abbrev pub AtOther : List Name → List Word → ℕ → ℕ → tree.Expression → tree.Statement → List Name → ℕ → Type 0
AtOther T words s p e b T' q = Within (RestOf T s start'.If) AfterStatement p (drop p words) (units.IsStatement T') AfterStatement q (drop q words) (λ o. tree.if_statement s e b (tree.a_statement o))

-- an `else` does
pub if_other : (words : List Word) {T T' : List Name} {s p q n : ℕ} {e : tree.Expression} {b : tree.Statement} → T' ≡ names_behind T b → AfterStatement b (drop q words) → IsAt (keyword Else) words q n → AtElse T words s p e b q → AtOther T words s p e b T' n
if_other words {T = T} {T' = T'} {s = s} {p = p} {q = q} {n = n} {e = e} {b = b} same behind at from =
    let none : units.takes_else b ≡ false = bool_false (units.takes_else b) (λ h. behind h (ap head at.here)) in
    subst (λ z. AtOther T words s p e b z n) (sym same)
    (node (word at (line_at (keyword Else) (ElseLine T s e b) (ap head at.here) (else_into T s q e b none) (λ t u r v eq d f. else_back T s q e b t u r v eq d f) from)))

-- a condition, and a part that a node is made of
abbrev pub InHead : List Name → List Word → ℕ → StatementStart → ℕ → {A : Type 0} → (tree.Expression → A → tree.Statement) → Family A → Type 0
InHead T words s x p f X = Rest T words s x p (Both (Condition T) (λ e. Made (f e) X)) p

pub refuses_head : {A : Type 0} (words : List Word) (s : ℕ) (x : StatementStart) {T : List Name} {p n : ℕ} {f : tree.Expression → A → tree.Statement} {X : Family A} → Some' X → InHead T words s x p f X → Refuses (Condition T) Anything p (drop p words) n (drop n words) → Refuses (RestOf T s x) AfterStatement p (drop p words) n (drop n words)
refuses_head words s x {f = f} some from one = refused (λ e q. let b = some q in (f e b.0, b.1, made b.2)) (λ a q t v r d e. tt) one from

pub head_body : {A : Type 0} (words : List Word) (s : ℕ) (x : StatementStart) {T : List Name} {p n : ℕ} {e : tree.Expression} {f : tree.Expression → A → tree.Statement} {X : Family A} → InHead T words s x p f X → Reads (Condition T) Anything p (drop p words) e n (drop n words) → Within (RestOf T s x) AfterStatement p (drop p words) X (λ b. AfterStatement (f e b)) n (drop n words) (λ b. f e b)
head_body words s x from one = node (part (λ a q t v r d e. tt) one from)

-- "switch" "(" expr ")" block
pub switch_start : (words : List Word) (T : List Name) (s p : ℕ) → InHead T words s start'.Switch p (tree.switch_statement s) (units.IsBlock T)
switch_start words T s p = as_condition (start (RestOf T s start'.Switch) AfterStatement p (drop p words))

-- nothing is said of what stands behind a block
pub anything : {A : Type 0} {D : Family A} {E : Ending A} {p q : ℕ} {w m : List Word} {B : Type 0} {X : Family B} {F : Ending B} {put : B → A} → Within D E p w X F q m put → Within D E p w X Anything q m put
anything from = record {
  reads = λ t n rest h. from.reads t n rest (record {
    front = h.front;
    cut = h.cut;
    place = h.place;
    derived = h.derived;
    sole = λ others u r t' next eq d e. h.sole others u r t' next eq d tt;
  });
  refuses = λ n rest h. from.refuses n rest (record {
    front = h.front;
    cut = h.cut;
    place = h.place;
    more = h.more;
    whole = h.whole;
    begun = h.begun;
    none = λ others u r t' next eq d e. h.none others u r t' next eq d tt;
  });
}

-- "case" cond ":" stmt
abbrev pub CaseLine : List Name → ℕ → Family tree.Statement
CaseLine T s = Both (g.IsConditional T) (λ e. After (mark Colon) (Made (tree.case_statement s e) (units.IsStatement T)))

case_apart : (T : List Name) (s : ℕ) → Apart (λ e. After (mark Colon) (Made (tree.case_statement s e) (units.IsStatement T))) AfterStatement (Below 3)
case_apart T s a q t _ r (after d) e = omega arith

some_case : (T : List Name) (s : ℕ) → Completes (λ e. After (mark Colon) (Made (tree.case_statement s e) (units.IsStatement T)))
some_case T s e q = let b = some_statement T (suc q) in (tree.case_statement s e b.0, mark Colon ∷ b.1, after (made b.2))

abbrev pub InCase : List Name → List Word → ℕ → ℕ → Type 0
InCase T words s p = Rest T words s start'.Case p (CaseLine T s) p

pub case_start : (words : List Word) (T : List Name) (s p : ℕ) → InCase T words s p
case_start words T s p = start (RestOf T s start'.Case) AfterStatement p (drop p words)

pub refuses_case : (words : List Word) {T : List Name} {s p n : ℕ} → InCase T words s p → Refuses (g.IsConditional T) (Below 3) p (drop p words) n (drop n words) → Refuses (RestOf T s start'.Case) AfterStatement p (drop p words) n (drop n words)
refuses_case words {T = T} {s = s} from one = refused (some_case T s) (case_apart T s) one from

-- a colon, and the statement that is labelled
abbrev pub AtColon : List Name → List Word → ℕ → StatementStart → ℕ → (tree.Statement → tree.Statement) → ℕ → Type 0
AtColon T words s x p f q = Rest T words s x p (After (mark Colon) (Made f (units.IsStatement T))) q

pub case_colon : (words : List Word) {T : List Name} {s p n : ℕ} {e : tree.Expression} → InCase T words s p → Reads (g.IsConditional T) (Below 3) p (drop p words) e n (drop n words) → AtColon T words s start'.Case p (tree.case_statement s e) n
case_colon words {T = T} {s = s} from one = part (case_apart T s) one from

pub default_start : (words : List Word) (T : List Name) (s p : ℕ) → AtColon T words s start'.Default p (tree.default_statement s) p
default_start words T s p = start (RestOf T s start'.Default) AfterStatement p (drop p words)

pub misses_colon : (words : List Word) (s : ℕ) (x : StatementStart) {T : List Name} {p q : ℕ} {f : tree.Statement → tree.Statement} → AtColon T words s x p f q → (head (drop q words) ≡ Some (mark Colon) → ⊥) → Refuses (RestOf T s x) AfterStatement p (drop p words) q (drop q words)
misses_colon words s x {T = T} {f = f} from other = missing (λ q. let b = some_statement T q in (f b.0, b.1, made b.2)) other from

pub labelled : (words : List Word) (s : ℕ) (x : StatementStart) {T : List Name} {p q n : ℕ} {f : tree.Statement → tree.Statement} → AtColon T words s x p f q → IsAt (mark Colon) words q n → Within (RestOf T s x) AfterStatement p (drop p words) (units.IsStatement T) (λ b. AfterStatement (f b)) n (drop n words) (λ b. f b)
labelled words s x from at = node (word at from)

pub block_part : (words : List Word) (T : List Name) (s p : ℕ) → Within (BlockLine T s) AfterStatement p (drop p words) (units.IsBlock T) Anything p (drop p words) (tree.block_statement s)
block_part words T s p = anything (node (start (BlockLine T s) AfterStatement p (drop p words)))
