-- Parts that a punctuator closes, and expressions that may be left out.
use Rattle.std.proofs.Common.{◌≡◌, ℕ, List, [], ◌∷◌, ◌++◌, drop, sym, ap, ◌∙◌, subst, arith, append_assoc, length-append}
use Rattle.std.specs.Prelude.{Some}
use Rattle.im_tok.specs.declared.punctuator.Punctuator.{Punctuator}
use Rattle.im_tok.specs.declared.punctuator.Punctuator.TheVariants.{OpenParen, CloseParen, Semicolon}
use Rattle.im_word.specs.Words.{Name, Word, mark}
use Rattle.im_ctree.specs.Tree as tree
use Rattle.im_ctree.specs.Grammar as g
use Rattle.im_ctree.specs.Units as units
use Rattle.im_ctree.specs.Follow.{Starting, StartsExpression}
use Rattle.im_ctree.proofs.Ranks.{closing, expression_starts, expression_opens}
use Rattle.im_parse_core.specs.Reads.{Family, Ending, head, Reads, Refuses, Within}
use Rattle.im_parse_core.specs.Parts.{Both, both, After, after, Made, made, Done, done}
use Rattle.im_parse_core.specs.Places.{IsAt}
use Rattle.im_parse_core.proofs.Steps.{Apart, Completes, Some', Into, start, line, word, missing, part, refused, all, first_line, first_line_at, flat_made, flat_done, as_closed}
use Rattle.im_parse_core.proofs.SeparatedLists.{closed_apart}
use Rattle.im_parse_expression.specs.Parsing.{Anything, Below, Closed}
use Rattle.im_parse_expression.proofs.Some.{some_expression}
use Rattle.im_parse_statement.specs.Statements.{Condition, AfterStatement}

-- a part, the punctuator behind it, and what its tree is made to
abbrev pub Closing : {A B : Type 0} → Family A → Punctuator → (A → B) → Family B
Closing X c f = Both X (λ a. After (mark c) (Done (f a)))

closing_apart : {A B : Type 0} (c : Punctuator) (f : A → B) (F : Ending B) (G : Ending A) → ((a : A) (z : List Word) → G a (mark c ∷ z)) → Apart (λ a. After (mark c) (Done (f a))) F G
closing_apart c f F G ends a q t _ r (after {u = u} d) e = ends a (u ++ r)

closing_completes : {A B : Type 0} (c : Punctuator) (f : A → B) → Completes (λ a. After (mark c) (Done (f a)))
closing_completes c f a q = (f a, mark c ∷ [], after done)

pub refuses_closing : {A B D' : Type 0} {D : Family D'} {E : Ending D'} {p : ℕ} {w : List Word} {X : Family A} {F : Ending B} {q n : ℕ} {v m : List Word} {put : B → D'} (c : Punctuator) (f : A → B) (G : Ending A) → ((a : A) (z : List Word) → G a (mark c ∷ z)) → Within D E p w (Closing X c f) F q v put → Refuses X G q v n m → Refuses D E p w n m
refuses_closing {F = F} c f G ends from one = refused (closing_completes c f) (closing_apart c f F G ends) one from

pub closing_next : {A B D' : Type 0} {D : Family D'} {E : Ending D'} {p : ℕ} {w : List Word} {X : Family A} {F : Ending B} {q n : ℕ} {v m : List Word} {put : B → D'} {a : A} (c : Punctuator) (f : A → B) (G : Ending A) → ((a : A) (z : List Word) → G a (mark c ∷ z)) → Within D E p w (Closing X c f) F q v put → Reads X G q v a n m → Within D E p w (After (mark c) (Done (f a))) F n m put
closing_next {F = F} c f G ends from one = part (closing_apart c f F G ends) one from

pub misses_closing : {B D' : Type 0} {D : Family D'} {E : Ending D'} {p : ℕ} {w : List Word} {F : Ending B} {q : ℕ} {m : List Word} {put : B → D'} {b : B} {c : Punctuator} → Within D E p w (After (mark c) (Done b)) F q m put → (head m ≡ Some (mark c) → ⊥) → Refuses D E p w q m
misses_closing {b = b} from other = missing (λ q. (b, [], done)) other from

pub reads_closing : {B D' : Type 0} {D : Family D'} {E : Ending D'} {p : ℕ} {w words : List Word} {F : Ending B} {q n : ℕ} {put : B → D'} {b : B} {c : Punctuator} → Within D E p w (After (mark c) (Done b)) F q (drop q words) put → IsAt (mark c) words q n → Reads D E p w (put b) n (drop n words)
reads_closing from at = all (word at from)

-- a closing punctuator may stand behind an expression
pub paren_ends : {A : Type 0} (a : A) (z : List Word) → Below 1 a (mark CloseParen ∷ z)
paren_ends a z = omega arith

-- "(" expr ")"
abbrev pub InParens : List Name → List Word → ℕ → ℕ → Type 0
InParens T words p k = Within (Condition T) Anything p (drop p words) (Closing (g.IsExpression T) CloseParen (λ e. e)) Anything k (drop k words) (λ t. t)

pub in_parens : (words : List Word) {T : List Name} {p k : ℕ} → IsAt (mark OpenParen) words p k → InParens T words p k
in_parens words {T = T} {p = p} at = word at (start (Condition T) Anything p (drop p words))

some_closing : (T : List Name) → Some' (Closing (g.IsExpression T) CloseParen (λ e. e))
some_closing T q = let s = some_expression T q in (s.0, s.1 ++ (mark CloseParen ∷ []), both s.2 (after done))

pub misses_open : (words : List Word) (T : List Name) {p : ℕ} → (head (drop p words) ≡ Some (mark OpenParen) → ⊥) → Refuses (Condition T) Anything p (drop p words) p (drop p words)
misses_open words T {p = p} other = missing (some_closing T) other (start (Condition T) Anything p (drop p words))

-- an expression begins with nothing that closes
pub not_closed : {T : List Name} {u : List Word} (c : Punctuator) → closing (mark c) ≡ 1 → Starting (StartsExpression T) u → (r : List Word) → head (u ++ r) ≡ Some (mark c) → ⊥
not_closed c one s r e =
    let same : Some s.0 ≡ Some (mark c) = ap (λ y. head (y ++ r)) (sym s.2) ∙ e in
    let at : s.0 ≡ mark c = cc in
    omega (arith, one, expression_opens s.3, ap closing at)

-- [expr] and what closes it
nothing_into : (T : List Name) (q : ℕ) → Into (Done tree.no_expression) (units.IsMaybeExpression T) q
nothing_into T q t _ done = units.nothing

nothing_back : (T : List Name) (q : ℕ) (c : Punctuator) → closing (mark c) ≡ 1 → (t : tree.MaybeExpression) (u r v : List Word) → u ++ r ≡ mark c ∷ v → units.IsMaybeExpression T q t u → Done tree.no_expression q t u
nothing_back T q c one t _ r v eq units.nothing = done
nothing_back T q c one t u r v eq (units.something d) = absurd (not_closed c one (expression_starts d) r (ap head eq))

pub reads_nothing : (words : List Word) (T : List Name) {p k : ℕ} (c : Punctuator) → closing (mark c) ≡ 1 → IsAt (mark c) words p k → Reads (Closed c (units.IsMaybeExpression T)) Anything p (drop p words) tree.no_expression k (drop k words)
reads_nothing words T {p = p} c one at =
    all (word at (flat_done (first_line_at {G = λ t r. head r ≡ Some (mark c)} (mark c) (Done tree.no_expression) (closed_apart (mark c)) (ap head at.here) (nothing_into T p) (λ t u r v eq d e. nothing_back T p c one t u r v eq d) (start (Closed c (units.IsMaybeExpression T)) Anything p (drop p words)))))

something_into : (T : List Name) (q : ℕ) → Into (Made tree.an_expression (g.IsExpression T)) (units.IsMaybeExpression T) q
something_into T q t _ (made d) = units.something d

something_back : (T : List Name) (q : ℕ) (c : Punctuator) (m : List Word) → (head m ≡ Some (mark c) → ⊥) → (t : tree.MaybeExpression) (u r : List Word) → head (u ++ r) ≡ head m → units.IsMaybeExpression T q t u → head r ≡ Some (mark c) → Made tree.an_expression (g.IsExpression T) q t u
something_back T q c m other t _ r e units.nothing f = absurd (other (sym e ∙ f))
something_back T q c m other t _ r e (units.something d) f = made d

abbrev pub InSomething : List Name → List Word → ℕ → Punctuator → Type 0
InSomething T words p c = Within (Closed c (units.IsMaybeExpression T)) Anything p (drop p words) (Closing (g.IsExpression T) c tree.an_expression) Anything p (drop p words) (λ t. t)

pub something_next : (words : List Word) (T : List Name) {p : ℕ} (c : Punctuator) → (head (drop p words) ≡ Some (mark c) → ⊥) → InSomething T words p c
something_next words T {p = p} c other =
    flat_made (first_line {G = λ t r. head r ≡ Some (mark c)} (Made tree.an_expression (g.IsExpression T)) (closed_apart (mark c)) (something_into T p) (λ t u r e d f. something_back T p c (drop p words) other t u r e d f) (start (Closed c (units.IsMaybeExpression T)) Anything p (drop p words)))

-- a part in parentheses, and what stands behind it
condition_into : {B : Type 0} (T : List Name) (Y : tree.Expression → Family B) (q : ℕ) → Into (Both (Condition T) Y) (After (mark OpenParen) (Both (g.IsExpression T) (λ e. After (mark CloseParen) (Y e)))) q
condition_into T Y q t _ (both {a = a} {v = w} (after (both {u = u} d (after done))) y) =
    subst (λ z. After (mark OpenParen) (Both (g.IsExpression T) (λ e. After (mark CloseParen) (Y e))) q t (mark OpenParen ∷ z)) (sym (append_assoc u (mark CloseParen ∷ []) w))
    (after (both d (after (subst (λ k. Y a k t w) (omega (arith, length-append u (mark CloseParen ∷ []))) y))))

condition_back : {B : Type 0} (T : List Name) (Y : tree.Expression → Family B) (q : ℕ) → Into (After (mark OpenParen) (Both (g.IsExpression T) (λ e. After (mark CloseParen) (Y e)))) (Both (Condition T) Y) q
condition_back T Y q t _ (after (both {a = a} {u = u} d (after {u = w} y))) =
    subst (λ z. Both (Condition T) Y q t (mark OpenParen ∷ z)) (append_assoc u (mark CloseParen ∷ []) w)
    (both (after (both d (after done))) (subst (λ k. Y a k t w) (omega (arith, length-append u (mark CloseParen ∷ []))) y))

pub as_condition : {A B : Type 0} {D : Family A} {E : Ending A} {p : ℕ} {w : List Word} {T : List Name} {Y : tree.Expression → Family B} {F : Ending B} {q : ℕ} {m : List Word} {put : B → A} → Within D E p w (After (mark OpenParen) (Both (g.IsExpression T) (λ e. After (mark CloseParen) (Y e)))) F q m put → Within D E p w (Both (Condition T) Y) F q m put
as_condition {T = T} {Y = Y} {q = q} from = line (Both (Condition T) Y) (condition_into T Y q) (λ t u r e d f. condition_back T Y q t u d) from

-- [expr] ";" of a statement
abbrev pub ValueLine : List Name → (tree.MaybeExpression → tree.Statement) → Family tree.Statement
ValueLine T f = Both (units.IsMaybeExpression T) (λ e. After (mark Semicolon) (Done (f e)))

value_start : (words : List Word) (T : List Name) (f : tree.MaybeExpression → tree.Statement) (p : ℕ) → Within (ValueLine T f) AfterStatement p (drop p words) (Both (Closed Semicolon (units.IsMaybeExpression T)) (λ e. Done (f e))) AfterStatement p (drop p words) (λ t. t)
value_start words T f p = as_closed (start (ValueLine T f) AfterStatement p (drop p words))

pub refuses_value : (words : List Word) (T : List Name) (f : tree.MaybeExpression → tree.Statement) {p n : ℕ} → Refuses (Closed Semicolon (units.IsMaybeExpression T)) Anything p (drop p words) n (drop n words) → Refuses (ValueLine T f) AfterStatement p (drop p words) n (drop n words)
refuses_value words T f {p = p} one = refused (λ e q. (f e, [], done)) (λ a q t v r d e. tt) one (value_start words T f p)

pub reads_value : (words : List Word) (T : List Name) (f : tree.MaybeExpression → tree.Statement) {p n : ℕ} {e : tree.MaybeExpression} → Reads (Closed Semicolon (units.IsMaybeExpression T)) Anything p (drop p words) e n (drop n words) → Reads (ValueLine T f) AfterStatement p (drop p words) (f e) n (drop n words)
reads_value words T f {p = p} one = all (part (λ a q t v r d e. tt) one (value_start words T f p))

-- ";" of a statement that jumps
pub misses_jump : (words : List Word) (t : tree.Statement) {p : ℕ} → (head (drop p words) ≡ Some (mark Semicolon) → ⊥) → Refuses (After (mark Semicolon) (Done t)) AfterStatement p (drop p words) p (drop p words)
misses_jump words t {p = p} other = missing (λ q. (t, [], done)) other (start (After (mark Semicolon) (Done t)) AfterStatement p (drop p words))

pub reads_jump : (words : List Word) (t : tree.Statement) {p n : ℕ} → IsAt (mark Semicolon) words p n → Reads (After (mark Semicolon) (Done t)) AfterStatement p (drop p words) t n (drop n words)
reads_jump words t {p = p} at = all (word at (start (After (mark Semicolon) (Done t)) AfterStatement p (drop p words)))

pub semicolon_ends : {A : Type 0} (a : A) (z : List Word) → Below 1 a (mark Semicolon ∷ z)
semicolon_ends a z = omega arith
