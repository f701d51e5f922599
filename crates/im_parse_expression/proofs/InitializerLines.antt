-- Initialisers, part by part.
use Rattle.std.proofs.Common.{◌≡◌, ℕ, suc, ◌+◌, ◌<◌, List, [], ◌∷◌, ◌++◌, length, map, drop, sym, refl, ap, ◌∙◌, subst, arith, append_assoc, length-append}
use Rattle.std.specs.Prelude.{Option, Some, None}
use Rattle.im_tok.specs.declared.punctuator.Punctuator.TheVariants.{OpenBrace, CloseBrace, Comma}
use Rattle.im_word.specs.Words.{Name, Word, mark}
use Rattle.im_ctree.specs.declared.declaration.Initializer.{Initializer}
use Rattle.im_ctree.specs.Tree as tree
use Rattle.im_ctree.specs.Grammar as g
use Rattle.im_ctree.specs.Units as units
use Rattle.im_ctree.specs.Shape.{initializer_of}
use Rattle.im_ctree.specs.Follow.{Starting, StartsExpression, at_step, at_prefix, close_brace}
use Rattle.im_ctree.proofs.Ranks.{assign_starts, not_expression}
use Rattle.im_parse_core.specs.Reads.{Family, Ending, head, Reads, Refuses, Within}
use Rattle.im_parse_core.specs.Parts.{Both, both, After, after, Made, made, Done, done}
use Rattle.im_parse_core.specs.Places.{IsAt}
use Rattle.im_parse_core.specs.Lists.{before}
use Rattle.im_parse_core.proofs.Steps.{Into, cons_of, start, line, line_at, word, missing, part, refused, node, all, last, last_refused, as_closed}
use Rattle.im_parse_core.proofs.TrailingLists.{TBehind, TBefore, TAfter, trail_opened, trail_refused, trail_listed, trail_another, trail_closed, trail_item, trail_over, Trailed, trailed_none, trailed_last, trailed_next}
use Rattle.im_parse_expression.specs.Parsing.{Anything, Closed, Below}
use Rattle.im_parse_expression.specs.Initializing.{IsInitializers, initializers}

-- assign
some_same : {x y : Word} → Some x ≡ Some y → x ≡ y
some_same e = cc

brace_word : {T : List Name} → StartsExpression T (mark OpenBrace) → ⊥
brace_word (at_step is) = elim is [ ]
brace_word (at_prefix is) = elim is [ ]

brace_starts : {T : List Name} {x : Word} → StartsExpression T x → Some x ≡ Some (mark OpenBrace) → ⊥
brace_starts {T = T} s e = brace_word (subst (StartsExpression T) (some_same e) s)

expression_brace : {T : List Name} {p : ℕ} {t : tree.Expression} {u : List Word} (r : List Word) → g.IsAssignment T p t u → head (u ++ r) ≡ Some (mark OpenBrace) → ⊥
expression_brace r d e = let s = assign_starts d in brace_starts s.3 (ap (λ y. head (y ++ r)) (sym s.2) ∙ e)

value_back : (T : List Name) (q : ℕ) (m : List Word) → (head m ≡ Some (mark OpenBrace) → ⊥) → (t : tree.Initializer) (u r : List Word) → head (u ++ r) ≡ head m → units.IsInitializer T q t u → Made tree.value_initializer (g.IsAssignment T) q t u
value_back T q m other t _ r e (units.a_value d) = made d
value_back T q m other t _ r e (units.braced x xs) = absurd (other (sym e))

value_into : (T : List Name) (q : ℕ) → Into (Made tree.value_initializer (g.IsAssignment T)) (units.IsInitializer T) q
value_into T q t _ (made d) = units.a_value d

abbrev pub AValue : List Name → List Word → ℕ → Type 0
AValue T words p = Within (units.IsInitializer T) (Below 2) p (drop p words) (g.IsAssignment T) (Below 2) p (drop p words) tree.value_initializer

pub value_start : (words : List Word) (T : List Name) {p : ℕ} → (head (drop p words) ≡ Some (mark OpenBrace) → ⊥) → AValue T words p
value_start words T {p = p} other = node (line (Made tree.value_initializer (g.IsAssignment T)) (value_into T p) (λ t u r e d f. value_back T p (drop p words) other t u r e d) (start (units.IsInitializer T) (Below 2) p (drop p words)))

-- "{" init { "," init } [","] "}"
abbrev BracedLine : List Name → ℕ → Family tree.Initializer
BracedLine T p = After (mark OpenBrace) (Both (IsInitializers T) (λ xs. After (mark CloseBrace) (Done (tree.braced_initializer p xs))))

braced_into : (T : List Name) (q : ℕ) → Into (BracedLine T q) (units.IsInitializer T) q
braced_into T q t _ (after (both (initializers {x = x} {xs = xs} {u = u} {v = v} d rest) (after done))) =
    subst (λ z. units.IsInitializer T q (tree.braced_initializer q (tree.more_initializers x xs)) (mark OpenBrace ∷ z)) (sym (append_assoc u v (mark CloseBrace ∷ []))) (units.braced d rest)

braced_back : (T : List Name) (q : ℕ) (t : tree.Initializer) (u r v : List Word) → u ++ r ≡ mark OpenBrace ∷ v → units.IsInitializer T q t u → BracedLine T q q t u
braced_back T q t u r v eq (units.a_value d) = absurd (expression_brace r d (ap head eq))
braced_back T q t _ r v eq (units.braced {x = x} {xs = xs} {u = u} {v = w} d rest) =
    subst (λ z. BracedLine T q q (tree.braced_initializer q (tree.more_initializers x xs)) (mark OpenBrace ∷ z)) (append_assoc u w (mark CloseBrace ∷ [])) (after (both (initializers d rest) (after done)))

abbrev pub ABraced : List Name → List Word → ℕ → ℕ → Type 0
ABraced T words p k = Within (units.IsInitializer T) (Below 2) p (drop p words) (Both (Closed CloseBrace (IsInitializers T)) (λ xs. Done (tree.braced_initializer p xs))) (Below 2) k (drop k words) (λ t. t)

pub braced_start : (words : List Word) (T : List Name) {p k : ℕ} → IsAt (mark OpenBrace) words p k → ABraced T words p k
braced_start words T {p = p} at = as_closed (word at (line_at (mark OpenBrace) (BracedLine T p) (ap head at.here) (braced_into T p) (λ t u r v eq d e. braced_back T p t u r v eq d) (start (units.IsInitializer T) (Below 2) p (drop p words))))

pub refuses_braced : (words : List Word) {T : List Name} {p k n : ℕ} → ABraced T words p k → Refuses (Closed CloseBrace (IsInitializers T)) Anything k (drop k words) n (drop n words) → Refuses (units.IsInitializer T) (Below 2) p (drop p words) n (drop n words)
refuses_braced words {p = p} from one = refused (λ xs q. (tree.braced_initializer p xs, [], done)) (λ a q t v r d e. tt) one from

pub reads_braced : (words : List Word) {T : List Name} {p k n : ℕ} {xs : tree.Initializers} → ABraced T words p k → Reads (Closed CloseBrace (IsInitializers T)) Anything k (drop k words) xs n (drop n words) → Reads (units.IsInitializer T) (Below 2) p (drop p words) (tree.braced_initializer p xs) n (drop n words)
reads_braced words from one = all (part (λ a q t v r d e. tt) one from)

-- the list in the braces
abbrev Row : List Name → Family tree.Initializers
Row T = Trailed (units.IsInitializer T) tree.more_initializers tree.no_initializers (mark Comma)

tail_row : {T : List Name} {p : ℕ} {xs : tree.Initializers} {u : List Word} → units.InitializerTail T p xs u → Row T p xs u
tail_row units.last_initializer = trailed_none
tail_row units.last_comma = trailed_last
tail_row (units.next_initializer x rest) = trailed_next x (tail_row rest)

row_tail : {T : List Name} {p : ℕ} {xs : tree.Initializers} {u : List Word} → Row T p xs u → units.InitializerTail T p xs u
row_tail trailed_none = units.last_initializer
row_tail trailed_last = units.last_comma
row_tail (trailed_next x rest) = units.next_initializer x (row_tail rest)

list_into : (T : List Name) (q : ℕ) → Into (Both (units.IsInitializer T) (λ a. Made (tree.more_initializers a) (Row T))) (IsInitializers T) q
list_into T q t _ (both x (made rest)) = initializers x (row_tail rest)

list_back : (T : List Name) (q : ℕ) → Into (IsInitializers T) (Both (units.IsInitializer T) (λ a. Made (tree.more_initializers a) (Row T))) q
list_back T q t _ (initializers x rest) = both x (made (tail_row rest))

abbrev pub NextInitializer : List Name → List Word → ℕ → List tree.Initializer → ℕ → Type 0
NextInitializer T words p xs q = Within (Closed CloseBrace (IsInitializers T)) Anything p (drop p words) (TBefore (units.IsInitializer T) tree.more_initializers tree.no_initializers (mark Comma) (mark CloseBrace) xs) Anything q (drop q words) (λ t. t)

abbrev pub InInitializers : List Name → List Word → ℕ → List tree.Initializer → ℕ → Type 0
InInitializers T words p xs q = Within (Closed CloseBrace (IsInitializers T)) Anything p (drop p words) (TBehind (units.IsInitializer T) tree.more_initializers tree.no_initializers (mark Comma) (mark CloseBrace) xs) Anything q (drop q words) (λ t. t)

abbrev pub AfterComma : List Name → List Word → ℕ → List tree.Initializer → ℕ → Type 0
AfterComma T words p xs q = Within (Closed CloseBrace (IsInitializers T)) Anything p (drop p words) (TAfter (units.IsInitializer T) tree.more_initializers tree.no_initializers (mark Comma) (mark CloseBrace) xs) Anything q (drop q words) (λ t. t)

pub list_start : (words : List Word) (T : List Name) (p : ℕ) → NextInitializer T words p [] p
list_start words T p = trail_opened (IsInitializers T) (units.IsInitializer T) tree.more_initializers tree.no_initializers (mark Comma) (mark CloseBrace) (list_into T p) (λ t u d. list_back T p t u d) (start (Closed CloseBrace (IsInitializers T)) Anything p (drop p words))

comma_ends : (a : tree.Initializer) (z : List Word) → Below 2 a (mark Comma ∷ z)
comma_ends a z = omega arith

brace_ends : (a : tree.Initializer) (z : List Word) → Below 2 a (mark CloseBrace ∷ z)
brace_ends a z = omega arith

pub refuses_item : (words : List Word) (xs : List tree.Initializer) {T : List Name} {p q n : ℕ} → NextInitializer T words p xs q → Refuses (units.IsInitializer T) (Below 2) q (drop q words) n (drop n words) → Refuses (Closed CloseBrace (IsInitializers T)) Anything p (drop p words) n (drop n words)
refuses_item words xs from one = trail_refused (Below 2) xs comma_ends brace_ends from one

pub list_next : (words : List Word) (xs : List tree.Initializer) {T : List Name} {p q n : ℕ} {a : tree.Initializer} → NextInitializer T words p xs q → Reads (units.IsInitializer T) (Below 2) q (drop q words) a n (drop n words) → InInitializers T words p (xs ++ a ∷ []) n
list_next words xs from one = trail_listed (Below 2) xs comma_ends brace_ends from one

pub list_comma : (words : List Word) (xs : List tree.Initializer) {T : List Name} {p q n : ℕ} → IsAt (mark Comma) words q n → InInitializers T words p xs q → AfterComma T words p xs n
list_comma words xs at from = trail_another xs (λ e. cc e) at from

item_brace : {T : List Name} {q : ℕ} {a : tree.Initializer} (u z : List Word) → units.IsInitializer T q a u → head (u ++ z) ≡ Some (mark CloseBrace) → ⊥
item_brace u z (units.a_value d) e = not_expression u z close_brace (assign_starts d) (sym (cons_of (u ++ z) (mark CloseBrace) e))
item_brace _ z (units.braced x xs) e = cc e

pub reads_trailing : (words : List Word) (xs : List tree.Initializer) {T : List Name} {p q n : ℕ} → IsAt (mark CloseBrace) words q n → AfterComma T words p xs q → Reads (Closed CloseBrace (IsInitializers T)) Anything p (drop p words) (before tree.more_initializers xs tree.no_initializers) n (drop n words)
reads_trailing words xs at from = trail_closed xs (λ a u z d e. item_brace u z d e) at from

pub list_more : (words : List Word) (xs : List tree.Initializer) {T : List Name} {p q : ℕ} → (head (drop q words) ≡ Some (mark CloseBrace) → ⊥) → AfterComma T words p xs q → NextInitializer T words p xs q
list_more words xs other from = trail_item xs other from

pub misses_brace : (words : List Word) (xs : List tree.Initializer) {T : List Name} {p q : ℕ} → (head (drop q words) ≡ Some (mark Comma) → ⊥) → InInitializers T words p xs q → (head (drop q words) ≡ Some (mark CloseBrace) → ⊥) → Refuses (Closed CloseBrace (IsInitializers T)) Anything p (drop p words) q (drop q words)
misses_brace words xs comma from other = missing (λ q. (before tree.more_initializers xs tree.no_initializers, [], done)) other (trail_over xs comma from)

pub reads_initializers : (words : List Word) (xs : List tree.Initializer) {T : List Name} {p q n : ℕ} → (head (drop q words) ≡ Some (mark Comma) → ⊥) → InInitializers T words p xs q → IsAt (mark CloseBrace) words q n → Reads (Closed CloseBrace (IsInitializers T)) Anything p (drop p words) (before tree.more_initializers xs tree.no_initializers) n (drop n words)
reads_initializers words xs comma from at = all (word at (trail_over xs comma from))

pub initializers_item : (items : List Initializer) (x : Initializer) → map initializer_of (items ++ x ∷ []) ≡ map initializer_of items ++ initializer_of x ∷ []
initializers_item [] x = refl
initializers_item (y ∷ items) x = ap (λ z. initializer_of y ∷ z) (initializers_item items x)
