-- The lines of statements, by their first word, and what stands behind statements.
use Rattle.std.proofs.Common.{◌≡◌, ℕ, suc, List, [], ◌∷◌, ◌++◌, drop, sym, refl, ap, ◌∙◌, subst}
use Rattle.std.specs.Prelude.{Option, Some, None}
use Rattle.std.proofs.lemmas.List.{append-nil}
use Rattle.im_tok.specs.declared.keyword.Keyword.TheVariants as key
use Rattle.im_tok.specs.declared.punctuator.Punctuator.TheVariants.{OpenParen, CloseParen, OpenBrace, CloseBrace, Semicolon}
use Rattle.im_word.specs.Words.{Name, Word, name, keyword, number, character, text, mark, unknown}
use Rattle.im_ctree.specs.Operators as op
use Rattle.im_ctree.specs.Tree as tree
use Rattle.im_ctree.specs.Units as units
use Rattle.im_ctree.specs.Follow.{StartsExpression, at_name, at_number, at_character, at_text, at_open, at_step, at_prefix, at_sizeof}
use Rattle.im_ctree.proofs.Ranks.{expression_starts}
use Rattle.im_parse_core.specs.Reads.{head, Within}
use Rattle.im_parse_core.specs.Parts.{both, After, after, made, done}
use Rattle.im_parse_core.specs.Places.{IsAt}
use Rattle.im_parse_core.proofs.Steps.{Some', Into, start, line, line_at, word}
use Rattle.im_parse_statement.specs.declared.start.StatementStart.{StatementStart}
use Rattle.im_parse_statement.specs.declared.start.StatementStart.TheVariants as start'
use Rattle.im_parse_statement.specs.Statements.{AfterStatement, RestOf, no_else, an_else, ExpressionLine, BlockLine, start_keyword, keyword_start}

pub some_statement : (T : List Name) → Some' (units.IsStatement T)
some_statement T q = (tree.expression_statement q tree.no_expression, mark Semicolon ∷ [], units.computes units.nothing)

pub some_block : (T : List Name) → Some' (units.IsBlock T)
some_block T q = (tree.block q tree.no_items, mark OpenBrace ∷ mark CloseBrace ∷ [], units.a_block units.no_item)

-- a statement by its first word
pub data Line (T : List Name) (p : ℕ) : tree.Statement → List Word → Type 0 where
  keyword_line : (x : StatementStart) {s : tree.Statement} {u : List Word} → RestOf T p x (suc p) s u → Line T p s (keyword (start_keyword x) ∷ u)
  block_line : {s : tree.Statement} {u : List Word} → BlockLine T p p s u → Line T p s u
  expression_line : {s : tree.Statement} {u : List Word} → ExpressionLine T p p s u → Line T p s u

pub line_of : {T : List Name} {p : ℕ} {s : tree.Statement} {w : List Word} → units.IsStatement T p s w → Line T p s w
line_of (units.blocks b) = block_line (made b)
line_of (units.computes e) = expression_line (both e (after done))
line_of {T = T} {p = p} (units.ifs {e = e'} {s = s'} {u = u} {v = v} e s) =
    subst (λ z. Line T p (tree.if_statement p e' s' tree.no_statement) (keyword key.If ∷ mark OpenParen ∷ (u ++ (mark CloseParen ∷ z)))) (append-nil v) (keyword_line start'.If (after (both e (after (both s no_else)))))
line_of (units.if_elses e s none t) = keyword_line start'.If (after (both e (after (both s (an_else none t)))))
line_of (units.whiles e s) = keyword_line start'.While (after (both e (after (made s))))
line_of (units.dos s e) = keyword_line start'.Do (both s (after (after (both e (after (after done))))))
line_of (units.fors i c n s) = keyword_line start'.For (after (both i (both c (after (both n (after (made s)))))))
line_of (units.switches e b) = keyword_line start'.Switch (after (both e (after (made b))))
line_of (units.cases e s) = keyword_line start'.Case (both e (after (made s)))
line_of (units.defaults s) = keyword_line start'.Default (after (made s))
line_of units.breaks = keyword_line start'.Break (after done)
line_of units.continues = keyword_line start'.Continue (after done)
line_of (units.returns e) = keyword_line start'.Return (both e (after done))

keyword_into : (T : List Name) (q : ℕ) (x : StatementStart) → Into (After (keyword (start_keyword x)) (RestOf T q x)) (units.IsStatement T) q
keyword_into T q start'.If t _ (after (after (both {a = e'} {u = u} e (after (both {a = s'} {u = v} s no_else))))) =
    subst (λ z. units.IsStatement T q (tree.if_statement q e' s' tree.no_statement) (keyword key.If ∷ mark OpenParen ∷ (u ++ (mark CloseParen ∷ z)))) (sym (append-nil v)) (units.ifs e s)
keyword_into T q start'.If t _ (after (after (both e (after (both s (an_else none o)))))) = units.if_elses e s none o
keyword_into T q start'.While t _ (after (after (both e (after (made s))))) = units.whiles e s
keyword_into T q start'.Do t _ (after (both s (after (after (both e (after (after done))))))) = units.dos s e
keyword_into T q start'.For t _ (after (after (both i (both c (after (both n (after (made s)))))))) = units.fors i c n s
keyword_into T q start'.Switch t _ (after (after (both e (after (made b))))) = units.switches e b
keyword_into T q start'.Case t _ (after (both e (after (made s)))) = units.cases e s
keyword_into T q start'.Default t _ (after (after (made s))) = units.defaults s
keyword_into T q start'.Break t _ (after (after done)) = units.breaks
keyword_into T q start'.Continue t _ (after (after done)) = units.continues
keyword_into T q start'.Return t _ (after (both e (after done))) = units.returns e

-- the keyword that a word is, if a statement begins with it
abbrev pub word_start : Word → Option StatementStart
word_start (keyword k) = keyword_start k
word_start (name n) = None
word_start (number n) = None
word_start (character n) = None
word_start (text s) = None
word_start (mark m) = None
word_start unknown = None

abbrev pub head_start : Option Word → Option StatementStart
head_start None = None
head_start (Some x) = word_start x

pub start_same : (x : StatementStart) → keyword_start (start_keyword x) ≡ Some x
start_same start'.If = refl
start_same start'.While = refl
start_same start'.Do = refl
start_same start'.For = refl
start_same start'.Switch = refl
start_same start'.Case = refl
start_same start'.Default = refl
start_same start'.Break = refl
start_same start'.Continue = refl
start_same start'.Return = refl

expression_start : {T : List Name} {x : Word} → StartsExpression T x → word_start x ≡ None
expression_start (at_name free) = refl
expression_start at_number = refl
expression_start at_character = refl
expression_start at_text = refl
expression_start at_open = refl
expression_start (at_step is) = refl
expression_start (at_prefix is) = refl
expression_start at_sizeof = refl

maybe_start : {T : List Name} {p : ℕ} {x : tree.MaybeExpression} {u : List Word} → units.IsMaybeExpression T p x u → (r : List Word) → head_start (head ((u ++ (mark Semicolon ∷ [])) ++ r)) ≡ None
maybe_start units.nothing r = refl
maybe_start (units.something x) r =
    let s = expression_starts x in
    ap (λ z. head_start (head ((z ++ (mark Semicolon ∷ [])) ++ r))) s.2 ∙ expression_start s.3

line_start : {T : List Name} {p q : ℕ} {s : tree.Statement} (u r : List Word) → ExpressionLine T p q s u → head_start (head (u ++ r)) ≡ None
line_start _ r (both e (after done)) = maybe_start e r

pub block_start : {T : List Name} {p q : ℕ} {s : tree.Statement} (u r : List Word) → BlockLine T p q s u → head (u ++ r) ≡ Some (mark OpenBrace)
block_start _ r (made (units.a_block is)) = refl

line_keyword : {T : List Name} {q : ℕ} {s : tree.Statement} {u : List Word} (x : StatementStart) (r v : List Word) → u ++ r ≡ keyword (start_keyword x) ∷ v → Line T q s u → After (keyword (start_keyword x)) (RestOf T q x) q s u
line_keyword {T = T} {q = q} {s = s} x r v eq (keyword_line y {u = u} d) =
    let at : Some y ≡ Some x = sym (start_same y) ∙ ap (λ z. head_start (head z)) eq ∙ start_same x in
    let same : y ≡ x = cc in
    subst (λ z. After (keyword (start_keyword z)) (RestOf T q z) q s (keyword (start_keyword y) ∷ u)) same (after d)
line_keyword {u = u} x r v eq (block_line d) =
    let at : Some (mark OpenBrace) ≡ Some (keyword (start_keyword x)) = sym (block_start u r d) ∙ ap head eq in absurd cc
line_keyword {u = u} x r v eq (expression_line d) =
    let at : None ≡ Some x = sym (line_start u r d) ∙ ap (λ z. head_start (head z)) eq ∙ start_same x in absurd cc

pub by_keyword : (words : List Word) (T : List Name) {p k : ℕ} (x : StatementStart) → IsAt (keyword (start_keyword x)) words p k → Within (units.IsStatement T) AfterStatement p (drop p words) (RestOf T p x) AfterStatement k (drop k words) (λ t. t)
by_keyword words T {p = p} x at =
    word at (line_at (keyword (start_keyword x)) (After (keyword (start_keyword x)) (RestOf T p x)) (ap head at.here) (keyword_into T p x) (λ t u r v eq d e. line_keyword x r v eq (line_of d)) (start (units.IsStatement T) AfterStatement p (drop p words)))

block_into : (T : List Name) (q : ℕ) → Into (BlockLine T q) (units.IsStatement T) q
block_into T q t _ (made b) = units.blocks b

brace_expression : {T : List Name} {x : Word} → StartsExpression T x → Some x ≡ Some (mark OpenBrace) → ⊥
brace_expression (at_name free) e = cc e
brace_expression at_number e = cc e
brace_expression at_character e = cc e
brace_expression at_text e = cc e
brace_expression at_open e = cc e
brace_expression (at_step op.increment) e = cc e
brace_expression (at_step op.decrement) e = cc e
brace_expression (at_prefix op.address_of) e = cc e
brace_expression (at_prefix op.dereference) e = cc e
brace_expression (at_prefix op.plus) e = cc e
brace_expression (at_prefix op.minus) e = cc e
brace_expression (at_prefix op.bit_not) e = cc e
brace_expression (at_prefix op.not) e = cc e
brace_expression at_sizeof e = cc e

maybe_brace : {T : List Name} {p : ℕ} {x : tree.MaybeExpression} {u : List Word} → units.IsMaybeExpression T p x u → (r : List Word) → head ((u ++ (mark Semicolon ∷ [])) ++ r) ≡ Some (mark OpenBrace) → ⊥
maybe_brace units.nothing r e = cc e
maybe_brace (units.something x) r e =
    let s = expression_starts x in
    brace_expression s.3 (ap (λ z. head ((z ++ (mark Semicolon ∷ [])) ++ r)) (sym s.2) ∙ e)

line_brace : {T : List Name} {p q : ℕ} {s : tree.Statement} (u r : List Word) → ExpressionLine T p q s u → head (u ++ r) ≡ Some (mark OpenBrace) → ⊥
line_brace _ r (both e (after done)) = maybe_brace e r

line_block : {T : List Name} {q : ℕ} {s : tree.Statement} {u : List Word} (r v : List Word) → u ++ r ≡ mark OpenBrace ∷ v → Line T q s u → BlockLine T q q s u
line_block r v eq (keyword_line x d) = absurd (let e : Some (keyword (start_keyword x)) ≡ Some (mark OpenBrace) = ap head eq in cc)
line_block r v eq (block_line d) = d
line_block {u = u} r v eq (expression_line d) = absurd (line_brace u r d (ap head eq))

pub by_brace : (words : List Word) (T : List Name) {p k : ℕ} → IsAt (mark OpenBrace) words p k → Within (units.IsStatement T) AfterStatement p (drop p words) (BlockLine T p) AfterStatement p (drop p words) (λ t. t)
by_brace words T {p = p} at =
    line_at (mark OpenBrace) (BlockLine T p) (ap head at.here) (block_into T p) (λ t u r v eq d e. line_block r v eq (line_of d)) (start (units.IsStatement T) AfterStatement p (drop p words))

expression_into : (T : List Name) (q : ℕ) → Into (ExpressionLine T q) (units.IsStatement T) q
expression_into T q t _ (both e (after done)) = units.computes e

line_expression : {T : List Name} {q : ℕ} {s : tree.Statement} {u : List Word} (m r : List Word) → ((x : StatementStart) → head m ≡ Some (keyword (start_keyword x)) → ⊥) → (head m ≡ Some (mark OpenBrace) → ⊥) → head (u ++ r) ≡ head m → Line T q s u → ExpressionLine T q q s u
line_expression m r none other e (keyword_line x d) = absurd (none x (sym e))
line_expression {u = u} m r none other e (block_line d) = absurd (other (sym e ∙ block_start u r d))
line_expression m r none other e (expression_line d) = d

pub by_expression : (words : List Word) (T : List Name) {p : ℕ} → ((x : StatementStart) → head (drop p words) ≡ Some (keyword (start_keyword x)) → ⊥) → (head (drop p words) ≡ Some (mark OpenBrace) → ⊥) → Within (units.IsStatement T) AfterStatement p (drop p words) (ExpressionLine T p) AfterStatement p (drop p words) (λ t. t)
by_expression words T {p = p} none other =
    line (ExpressionLine T p) (expression_into T p) (λ t u r e d f. line_expression (drop p words) r none other e (line_of d)) (start (units.IsStatement T) AfterStatement p (drop p words))
