-- The enumerators of an enum, part by part.
use Rattle.std.proofs.Common.{◌≡◌, ℕ, suc, ◌+◌, ◌<◌, List, [], ◌∷◌, ◌++◌, length, map, drop, sym, refl, ap, ◌∙◌, subst, arith, append_assoc, length-append}
use Rattle.std.specs.Prelude.{Option, Some, None}
use Rattle.std.proofs.lemmas.List.{append-nil}
use Rattle.im_tok.specs.declared.punctuator.Punctuator.TheVariants.{CloseBrace, Comma, Assign}
use Rattle.im_word.specs.Words.{Name, Word, name, mark}
use Rattle.im_ctree.specs.declared.specifier.Enumerator.{Enumerator}
use Rattle.im_ctree.specs.Tree as tree
use Rattle.im_ctree.specs.Grammar as g
use Rattle.im_ctree.specs.Follow.{head_rank}
use Rattle.im_ctree.proofs.Ranks.{blocked}
use Rattle.im_parse_core.specs.Reads.{Family, Ending, head, Reads, Refuses, Within}
use Rattle.im_parse_core.specs.Parts.{Both, both, After, after, Made, made, Done, done}
use Rattle.im_parse_core.specs.Places.{IsAt}
use Rattle.im_parse_core.specs.Lists.{before}
use Rattle.im_parse_core.proofs.Steps.{Apart, Completes, Into, start, line, line_at, word, missing, part, refused, node, all, last, last_refused}
use Rattle.im_parse_core.proofs.Conditions.{ends}
use Rattle.im_parse_core.proofs.TrailingLists.{TBehind, TBefore, TAfter, trail_opened, trail_refused, trail_listed, trail_another, trail_closed, trail_item, trail_over, Trailed, trailed_none, trailed_last, trailed_next}
use Rattle.im_parse_expression.specs.Parsing.{Anything, Closed, Below}
use Rattle.im_parse_expression.specs.Declaring.{EnumeratorTree, IsEnumerator, an_enumerator, add_enumerator, enumerator_tree}
use Rattle.im_parse_expression.proofs.PostfixLines.{AName, a_name, reads_name, refuses_name}

-- Name [ "=" cond ]
abbrev ValueOf : List Name → ℕ → Name → Family EnumeratorTree
ValueOf T p n = Made (λ e. let x : EnumeratorTree = (p, n, e) in x) (g.IsValue T)

enumerator_into : (T : List Name) (p : ℕ) → Into (Both AName (ValueOf T p)) (IsEnumerator T) p
enumerator_into T p t _ (both (a_name n) (made {t = e} {u = u} d)) = an_enumerator n (subst (λ z. g.IsValue T z e u) (omega arith) d)

enumerator_back : (T : List Name) (p : ℕ) → Into (IsEnumerator T) (Both AName (ValueOf T p)) p
enumerator_back T p t _ (an_enumerator n {e = e} {u = u} d) = both (a_name n) (made (subst (λ z. g.IsValue T z e u) (omega arith) d))

abbrev pub AnEnumerator : List Name → List Word → ℕ → Type 0
AnEnumerator T words p = Within (IsEnumerator T) (Below 2) p (drop p words) (Both AName (ValueOf T p)) (Below 2) p (drop p words) (λ t. t)

pub enumerator_start : (words : List Word) (T : List Name) (p : ℕ) → AnEnumerator T words p
enumerator_start words T p = line (Both AName (ValueOf T p)) (enumerator_into T p) (λ t u r e d f. enumerator_back T p t u d) (start (IsEnumerator T) (Below 2) p (drop p words))

value_completes : (T : List Name) (p : ℕ) → Completes (ValueOf T p)
value_completes T p n q = ((p, n, tree.no_expression), [], made g.no_value)

pub no_enumerator : (words : List Word) (T : List Name) {p : ℕ} → ((n : Name) → head (drop p words) ≡ Some (name n) → ⊥) → Refuses (IsEnumerator T) (Below 2) p (drop p words) p (drop p words)
no_enumerator words T {p = p} other = refused (value_completes T p) (λ a q t v r d e. tt) (refuses_name words other) (enumerator_start words T p)

abbrev pub Valued : List Name → List Word → ℕ → Name → ℕ → Type 0
Valued T words p n q = Within (IsEnumerator T) (Below 2) p (drop p words) (g.IsValue T) (Below 2) q (drop q words) (λ e. let x : EnumeratorTree = (p, n, e) in x)

pub enumerator_named : (words : List Word) (T : List Name) {p q : ℕ} {n : Name} → IsAt (name n) words p q → Valued T words p n q
enumerator_named words T {p = p} at = node (part (λ a q t v r d e. tt) (reads_name words at) (enumerator_start words T p))

unvalued_into : (T : List Name) (q : ℕ) → Into (Done tree.no_expression) (g.IsValue T) q
unvalued_into T q t _ done = g.no_value

unvalued_back : (T : List Name) (q : ℕ) (m : List Word) → (head m ≡ Some (mark Assign) → ⊥) → (t : tree.MaybeExpression) (u r : List Word) → head (u ++ r) ≡ head m → g.IsValue T q t u → Done tree.no_expression q t u
unvalued_back T q m other t _ r e g.no_value = done
unvalued_back T q m other t _ r e (g.a_value d) = absurd (other (sym e))

pub reads_unvalued : (words : List Word) {T : List Name} {p q : ℕ} {n : Name} → (head (drop q words) ≡ Some (mark Assign) → ⊥) → Valued T words p n q → Reads (IsEnumerator T) (Below 2) p (drop p words) (p, n, tree.no_expression) q (drop q words)
reads_unvalued words {T = T} {q = q} other from = all (line (Done tree.no_expression) (unvalued_into T q) (λ t u r e d f. unvalued_back T q (drop q words) other t u r e d) from)

value_into : (T : List Name) (q : ℕ) → Into (After (mark Assign) (Made tree.an_expression (g.IsConditional T))) (g.IsValue T) q
value_into T q t _ (after (made d)) = g.a_value d

value_back : (T : List Name) (q : ℕ) (t : tree.MaybeExpression) (u r v : List Word) → u ++ r ≡ mark Assign ∷ v → g.IsValue T q t u → head_rank r < 2 → After (mark Assign) (Made tree.an_expression (g.IsConditional T)) q t u
value_back T q t _ r v eq g.no_value e = absurd (blocked 2 e eq (omega arith))
value_back T q t _ r v eq (g.a_value d) e = after (made d)

abbrev pub ItsValue : List Name → List Word → ℕ → Name → ℕ → Type 0
ItsValue T words p n q = Within (IsEnumerator T) (Below 2) p (drop p words) (g.IsConditional T) (Below 3) q (drop q words) (λ e. let x : EnumeratorTree = (p, n, tree.an_expression e) in x)

pub value_start : (words : List Word) {T : List Name} {p q k : ℕ} {n : Name} → IsAt (mark Assign) words q k → Valued T words p n q → ItsValue T words p n k
value_start words {T = T} {q = q} at from = ends (Below 3) (λ t r e. omega (arith, e)) (node (word at (line_at (mark Assign) (After (mark Assign) (Made tree.an_expression (g.IsConditional T))) (ap head at.here) (value_into T q) (λ t u r v eq d e. value_back T q t u r v eq d e) from)))

-- enumr { "," enumr } [","] "}"
tail_row : {T : List Name} {p : ℕ} {es : tree.Enumerators} {u : List Word} → g.EnumeratorTail T p es u → Trailed (IsEnumerator T) add_enumerator tree.no_enumerators (mark Comma) p es u
tail_row g.last_enumerator = trailed_none
tail_row g.last_comma = trailed_last
tail_row {T = T} {p = p} (g.next_enumerator (g.first_enumerator n {e = e} {es = es} {u = u} {v = v} x rest)) =
    trailed_next (an_enumerator n x) (subst (λ k. Trailed (IsEnumerator T) add_enumerator tree.no_enumerators (mark Comma) k es v) (omega arith) (tail_row rest))

row_tail : {T : List Name} {p : ℕ} {es : tree.Enumerators} {u : List Word} → Trailed (IsEnumerator T) add_enumerator tree.no_enumerators (mark Comma) p es u → g.EnumeratorTail T p es u
row_tail trailed_none = g.last_enumerator
row_tail trailed_last = g.last_comma
row_tail {T = T} (trailed_next {b = b} {v = v} (an_enumerator n {u = u} x) rest) = g.next_enumerator (g.first_enumerator n x (subst (λ k. g.EnumeratorTail T k b v) (omega arith) (row_tail rest)))

enumerators_into : (T : List Name) (q : ℕ) → Into (Both (IsEnumerator T) (λ a. Made (add_enumerator a) (Trailed (IsEnumerator T) add_enumerator tree.no_enumerators (mark Comma)))) (g.IsEnumerators T) q
enumerators_into T q t _ (both (an_enumerator n {u = u} x) (made {t = b} {u = v} rest)) = g.first_enumerator n x (subst (λ k. g.EnumeratorTail T k b v) (omega arith) (row_tail rest))

enumerators_back : (T : List Name) (q : ℕ) → Into (g.IsEnumerators T) (Both (IsEnumerator T) (λ a. Made (add_enumerator a) (Trailed (IsEnumerator T) add_enumerator tree.no_enumerators (mark Comma)))) q
enumerators_back T q t _ (g.first_enumerator n {es = es} {u = u} {v = v} x rest) = both (an_enumerator n x) (made (subst (λ k. Trailed (IsEnumerator T) add_enumerator tree.no_enumerators (mark Comma) k es v) (omega arith) (tail_row rest)))

abbrev pub NextEnumerator : List Name → List Word → ℕ → List EnumeratorTree → ℕ → Type 0
NextEnumerator T words p xs q = Within (Closed CloseBrace (g.IsEnumerators T)) Anything p (drop p words) (TBefore (IsEnumerator T) add_enumerator tree.no_enumerators (mark Comma) (mark CloseBrace) xs) Anything q (drop q words) (λ t. t)

abbrev pub InEnumerators : List Name → List Word → ℕ → List EnumeratorTree → ℕ → Type 0
InEnumerators T words p xs q = Within (Closed CloseBrace (g.IsEnumerators T)) Anything p (drop p words) (TBehind (IsEnumerator T) add_enumerator tree.no_enumerators (mark Comma) (mark CloseBrace) xs) Anything q (drop q words) (λ t. t)

abbrev pub AfterComma : List Name → List Word → ℕ → List EnumeratorTree → ℕ → Type 0
AfterComma T words p xs q = Within (Closed CloseBrace (g.IsEnumerators T)) Anything p (drop p words) (TAfter (IsEnumerator T) add_enumerator tree.no_enumerators (mark Comma) (mark CloseBrace) xs) Anything q (drop q words) (λ t. t)

pub enumerators_start : (words : List Word) (T : List Name) (p : ℕ) → NextEnumerator T words p [] p
enumerators_start words T p = trail_opened (g.IsEnumerators T) (IsEnumerator T) add_enumerator tree.no_enumerators (mark Comma) (mark CloseBrace) (enumerators_into T p) (λ t u d. enumerators_back T p t u d) (start (Closed CloseBrace (g.IsEnumerators T)) Anything p (drop p words))

comma_ends : (a : EnumeratorTree) (z : List Word) → Below 2 a (mark Comma ∷ z)
comma_ends a z = omega arith

brace_ends : (a : EnumeratorTree) (z : List Word) → Below 2 a (mark CloseBrace ∷ z)
brace_ends a z = omega arith

pub refuses_enumerator : (words : List Word) (xs : List EnumeratorTree) {T : List Name} {p q n : ℕ} → NextEnumerator T words p xs q → Refuses (IsEnumerator T) (Below 2) q (drop q words) n (drop n words) → Refuses (Closed CloseBrace (g.IsEnumerators T)) Anything p (drop p words) n (drop n words)
refuses_enumerator words xs from one = trail_refused (Below 2) xs comma_ends brace_ends from one

pub enumerators_next : (words : List Word) (xs : List EnumeratorTree) {T : List Name} {p q n : ℕ} {a : EnumeratorTree} → NextEnumerator T words p xs q → Reads (IsEnumerator T) (Below 2) q (drop q words) a n (drop n words) → InEnumerators T words p (xs ++ a ∷ []) n
enumerators_next words xs from one = trail_listed (Below 2) xs comma_ends brace_ends from one

pub enumerators_comma : (words : List Word) (xs : List EnumeratorTree) {T : List Name} {p q n : ℕ} → IsAt (mark Comma) words q n → InEnumerators T words p xs q → AfterComma T words p xs n
enumerators_comma words xs at from = trail_another xs (λ e. cc e) at from

enumerator_name : {T : List Name} {q : ℕ} {a : EnumeratorTree} (u z : List Word) → IsEnumerator T q a u → head (u ++ z) ≡ Some (mark CloseBrace) → ⊥
enumerator_name _ z (an_enumerator n d) e = cc e

pub reads_trailing : (words : List Word) (xs : List EnumeratorTree) {T : List Name} {p q n : ℕ} → IsAt (mark CloseBrace) words q n → AfterComma T words p xs q → Reads (Closed CloseBrace (g.IsEnumerators T)) Anything p (drop p words) (before add_enumerator xs tree.no_enumerators) n (drop n words)
reads_trailing words xs at from = trail_closed xs (λ a u z d e. enumerator_name u z d e) at from

pub enumerators_more : (words : List Word) (xs : List EnumeratorTree) {T : List Name} {p q : ℕ} → (head (drop q words) ≡ Some (mark CloseBrace) → ⊥) → AfterComma T words p xs q → NextEnumerator T words p xs q
enumerators_more words xs other from = trail_item xs other from

pub misses_brace : (words : List Word) (xs : List EnumeratorTree) {T : List Name} {p q : ℕ} → (head (drop q words) ≡ Some (mark Comma) → ⊥) → InEnumerators T words p xs q → (head (drop q words) ≡ Some (mark CloseBrace) → ⊥) → Refuses (Closed CloseBrace (g.IsEnumerators T)) Anything p (drop p words) q (drop q words)
misses_brace words xs comma from other = missing (λ q. (before add_enumerator xs tree.no_enumerators, [], done)) other (trail_over xs comma from)

pub reads_enumerators : (words : List Word) (xs : List EnumeratorTree) {T : List Name} {p q n : ℕ} → (head (drop q words) ≡ Some (mark Comma) → ⊥) → InEnumerators T words p xs q → IsAt (mark CloseBrace) words q n → Reads (Closed CloseBrace (g.IsEnumerators T)) Anything p (drop p words) (before add_enumerator xs tree.no_enumerators) n (drop n words)
reads_enumerators words xs comma from at = all (word at (trail_over xs comma from))

pub enumerators_item : (items : List Enumerator) (x : Enumerator) → map enumerator_tree (items ++ x ∷ []) ≡ map enumerator_tree items ++ enumerator_tree x ∷ []
enumerators_item [] x = refl
enumerators_item (y ∷ items) x = ap (λ z. enumerator_tree y ∷ z) (enumerators_item items x)
