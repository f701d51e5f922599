-- The arguments of a call, part by part.
use Rattle.std.proofs.Common.{◌≡◌, ℕ, suc, ◌+◌, ◌<◌, List, [], ◌∷◌, ◌++◌, length, map, drop, sym, refl, ap, ◌∙◌, subst, arith, append_assoc}
use Rattle.std.specs.Prelude.{Option, Some, None}
use Rattle.im_tok.specs.declared.punctuator.Punctuator.{Punctuator}
use Rattle.im_tok.specs.declared.punctuator.Punctuator.TheVariants.{CloseParen, Comma}
use Rattle.im_word.specs.Words.{Name, Word, mark}
use Rattle.im_ctree.specs.declared.expression.Expression.{Expression}
use Rattle.im_ctree.specs.Tree as tree
use Rattle.im_ctree.specs.Grammar as g
use Rattle.im_ctree.specs.Follow.{head_rank, Closes, close_paren}
use Rattle.im_ctree.proofs.Ranks.{assign_starts, not_expression}
use Rattle.im_ctree.proofs.Behind.{argument_ends}
use Rattle.im_parse_core.specs.Reads.{Family, Ending, head, Reads, Refuses, Within}
use Rattle.im_parse_core.specs.Parts.{Both, both, After, after, Made, made, Done, done}
use Rattle.im_parse_core.specs.Places.{IsAt}
use Rattle.im_parse_core.specs.Lists.{before}
use Rattle.im_parse_core.proofs.Steps.{Apart, Completes, Into, tail, cons_of, start, line, word, missing, part, refused, all, first_line, first_line_at, flat_done}
use Rattle.im_parse_core.proofs.Lists.{before_more, Item, item, after_item}
use Rattle.im_parse_expression.specs.Parsing.{Below, Anything, Closed, tree_of, trees_of}

-- what this punctuator ends
abbrev pub Ends : {A : Type 0} → Punctuator → Ending A
Ends m t r = head r ≡ Some (mark m)

closing_apart : {A B : Type 0} (m : Punctuator) (f : A → B) → Apart (λ a. After (mark m) (Done (f a))) Anything (Ends m)
closing_apart m f a q t _ r (after d) e = refl

ends_closes : {r : List Word} → head r ≡ Some (mark CloseParen) → Closes r
ends_closes {r = r} e = subst Closes (sym (cons_of r (mark CloseParen) e)) close_paren

abbrev ArgumentsD : List Name → Family tree.Expressions
ArgumentsD T = Closed CloseParen (g.IsArguments T)

-- no argument
none_into : (T : List Name) (q : ℕ) → Into (Done tree.no_expressions) (g.IsArguments T) q
none_into T q t _ done = g.no_argument

none_back : (T : List Name) (q : ℕ) (t : tree.Expressions) (u r v : List Word) → u ++ r ≡ mark CloseParen ∷ v → g.IsArguments T q t u → Done tree.no_expressions q t u
none_back T q t _ r v eq g.no_argument = done
none_back T q t _ r v eq (g.first_argument {u = u} {v = w} a rest) = absurd (not_expression u (w ++ r) close_paren (assign_starts a) (sym eq ∙ append_assoc u w r))

pub reads_none : (words : List Word) {T : List Name} {p k : ℕ} → IsAt (mark CloseParen) words p k → Reads (ArgumentsD T) Anything p (drop p words) tree.no_expressions k (drop k words)
reads_none words {T = T} {p = p} at =
    all (word at (flat_done (first_line_at {G = Ends CloseParen} (mark CloseParen) (Done tree.no_expressions) (closing_apart CloseParen (λ a. a)) (ap head at.here) (none_into T p) (λ t u r v eq d e. none_back T p t u r v eq d) (start (ArgumentsD T) Anything p (drop p words)))))

-- the first argument
first_into : (T : List Name) (q : ℕ) → Into (Both (g.IsAssignment T) (λ a. Made (tree.more_expressions a) (g.ArgumentTail T))) (g.IsArguments T) q
first_into T q t _ (both a (made rest)) = g.first_argument a rest

first_back : (T : List Name) (q : ℕ) (t : tree.Expressions) (u r m : List Word) → (head m ≡ Some (mark CloseParen) → ⊥) → head (u ++ r) ≡ head m → g.IsArguments T q t u → head r ≡ Some (mark CloseParen) → Both (g.IsAssignment T) (λ a. Made (tree.more_expressions a) (g.ArgumentTail T)) q t u
first_back T q t _ r m other eq g.no_argument e = absurd (other (sym eq ∙ e))
first_back T q t _ r m other eq (g.first_argument a rest) e = both a (made rest)

-- what is read between arguments: the items so far
abbrev ClosedBefore : List tree.Expression → tree.Expressions → Family tree.Expressions
ClosedBefore xs b = After (mark CloseParen) (Done (before tree.more_expressions xs b))

item_apart : (T : List Name) (xs : List tree.Expression) → Apart (λ a. Both (g.ArgumentTail T) (λ b. After (mark CloseParen) (Done (before tree.more_expressions (xs ++ a ∷ []) b)))) Anything (Below 2)
item_apart T xs a q t _ r (both {u = u} rest (after {u = v} d)) e = subst (λ z. head_rank z < 2) (sym (append_assoc u (mark CloseParen ∷ v) r)) (argument_ends rest (mark CloseParen ∷ (v ++ r)) close_paren)

item_complete : (T : List Name) (xs : List tree.Expression) → Completes (λ a. Both (g.ArgumentTail T) (λ b. After (mark CloseParen) (Done (before tree.more_expressions (xs ++ a ∷ []) b))))
item_complete T xs a q = (before tree.more_expressions (xs ++ a ∷ []) tree.no_expressions, mark CloseParen ∷ [], both g.last_argument (after done))

abbrev pub NextArgument : List Name → List Word → ℕ → List tree.Expression → ℕ → Type 0
NextArgument T words p xs q = Within (ArgumentsD T) Anything p (drop p words) (Item (g.IsAssignment T) (g.ArgumentTail T) tree.more_expressions xs (λ b. After (mark CloseParen) (Done b))) Anything q (drop q words) (λ t. t)

abbrev pub InArguments : List Name → List Word → ℕ → List tree.Expression → ℕ → Type 0
InArguments T words p xs q = Within (ArgumentsD T) Anything p (drop p words) (Both (g.ArgumentTail T) (λ b. After (mark CloseParen) (Done (before tree.more_expressions xs b)))) Anything q (drop q words) (λ t. t)

pub arguments_start : (words : List Word) {T : List Name} {p : ℕ} → (head (drop p words) ≡ Some (mark CloseParen) → ⊥) → NextArgument T words p [] p
arguments_start words {T = T} {p = p} other =
    item [] (λ (b : tree.Expressions). After (mark CloseParen) (Done b)) (first_line {G = Ends CloseParen} (Both (g.IsAssignment T) (λ a. Made (tree.more_expressions a) (g.ArgumentTail T))) (closing_apart CloseParen (λ a. a)) (first_into T p) (λ t u r eq d e. first_back T p t u r (drop p words) other eq d e) (start (ArgumentsD T) Anything p (drop p words)))

pub refuses_argument : (words : List Word) (xs : List tree.Expression) {T : List Name} {p q n : ℕ} → NextArgument T words p xs q → Refuses (g.IsAssignment T) (Below 2) q (drop q words) n (drop n words) → Refuses (ArgumentsD T) Anything p (drop p words) n (drop n words)
refuses_argument words xs {T = T} from one = refused (item_complete T xs) (item_apart T xs) one from

pub arguments_next : (words : List Word) (xs : List tree.Expression) {T : List Name} {p q n : ℕ} {a : tree.Expression} → NextArgument T words p xs q → Reads (g.IsAssignment T) (Below 2) q (drop q words) a n (drop n words) → InArguments T words p (xs ++ a ∷ []) n
arguments_next words xs {T = T} from one = part (item_apart T xs) one from

tail_into : (T : List Name) (q : ℕ) → Into (After (mark Comma) (Both (g.IsAssignment T) (λ a. Made (tree.more_expressions a) (g.ArgumentTail T)))) (g.ArgumentTail T) q
tail_into T q t _ (after (both a (made rest))) = g.next_argument a rest

tail_back : (T : List Name) (q : ℕ) (t : tree.Expressions) (u r v : List Word) → u ++ r ≡ mark Comma ∷ v → g.ArgumentTail T q t u → head r ≡ Some (mark CloseParen) → After (mark Comma) (Both (g.IsAssignment T) (λ a. Made (tree.more_expressions a) (g.ArgumentTail T))) q t u
tail_back T q t _ r v eq g.last_argument e = absurd (let h : Some (mark Comma) ≡ Some (mark CloseParen) = sym (ap head eq) ∙ e in cc)
tail_back T q t _ r v eq (g.next_argument a rest) e = after (both a (made rest))

pub arguments_more : (words : List Word) (xs : List tree.Expression) {T : List Name} {p q n : ℕ} → IsAt (mark Comma) words q n → InArguments T words p xs q → NextArgument T words p xs n
arguments_more words xs {T = T} {q = q} at from =
    word at (after_item xs (λ (b : tree.Expressions). After (mark CloseParen) (Done b)) (first_line_at {G = Ends CloseParen} (mark Comma) (After (mark Comma) (Both (g.IsAssignment T) (λ a. Made (tree.more_expressions a) (g.ArgumentTail T)))) (closing_apart CloseParen (λ b. before tree.more_expressions xs b)) (ap head at.here) (tail_into T q) (λ t u r v eq d e. tail_back T q t u r v eq d e) from))

last_into : (T : List Name) (q : ℕ) → Into (Done tree.no_expressions) (g.ArgumentTail T) q
last_into T q t _ done = g.last_argument

last_back : (T : List Name) (q : ℕ) (t : tree.Expressions) (u r m : List Word) → (head m ≡ Some (mark Comma) → ⊥) → head (u ++ r) ≡ head m → g.ArgumentTail T q t u → Done tree.no_expressions q t u
last_back T q t _ r m other eq g.last_argument = done
last_back T q t _ r m other eq (g.next_argument a rest) = absurd (other (sym eq))

arguments_end : (words : List Word) (xs : List tree.Expression) {T : List Name} {p q : ℕ} → (head (drop q words) ≡ Some (mark Comma) → ⊥) → InArguments T words p xs q → Within (ArgumentsD T) Anything p (drop p words) (After (mark CloseParen) (Done (before tree.more_expressions xs tree.no_expressions))) Anything q (drop q words) (λ t. t)
arguments_end words xs {T = T} {q = q} other from =
    flat_done (first_line {G = Ends CloseParen} (Done tree.no_expressions) (closing_apart CloseParen (λ b. before tree.more_expressions xs b)) (last_into T q) (λ t u r eq d e. last_back T q t u r (drop q words) other eq d) from)

pub misses_close : (words : List Word) (xs : List tree.Expression) {T : List Name} {p q : ℕ} → (head (drop q words) ≡ Some (mark Comma) → ⊥) → InArguments T words p xs q → (head (drop q words) ≡ Some (mark CloseParen) → ⊥) → Refuses (ArgumentsD T) Anything p (drop p words) q (drop q words)
misses_close words xs comma from other = missing (λ q. (before tree.more_expressions xs tree.no_expressions, [], done)) other (arguments_end words xs comma from)

pub trees_before : (items : List Expression) → trees_of items ≡ before tree.more_expressions (map tree_of items) tree.no_expressions
trees_before [] = refl
trees_before (x ∷ items) = ap (λ z. tree.more_expressions (tree_of x) z) (trees_before items)

pub reads_arguments : (words : List Word) {T : List Name} {p q k : ℕ} (items : List Expression) → (head (drop q words) ≡ Some (mark Comma) → ⊥) → InArguments T words p (map tree_of items) q → IsAt (mark CloseParen) words q k → Reads (ArgumentsD T) Anything p (drop p words) (trees_of items) k (drop k words)
reads_arguments words {T = T} {p = p} {k = k} items comma from at =
    subst (λ z. Reads (ArgumentsD T) Anything p (drop p words) z k (drop k words)) (sym (trees_before items)) (all (word at (arguments_end words (map tree_of items) comma from)))

pub with_item : (items : List Expression) (x : Expression) → map tree_of (items ++ x ∷ []) ≡ map tree_of items ++ tree_of x ∷ []
with_item [] x = refl
with_item (y ∷ items) x = ap (λ z. tree_of y ∷ z) (with_item items x)
