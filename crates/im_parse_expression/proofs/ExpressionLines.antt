-- The lines of expressions, part by part.
use Rattle.std.proofs.Common.{◌≡◌, ℕ, suc, ◌+◌, ◌-◌, ◌<◌, ◌≤◌, List, [], ◌∷◌, ◌++◌, length, drop, sym, refl, ap, ◌∙◌, subst, arith, append_assoc}
use Rattle.std.specs.Prelude.{Option, Some, None, map}
use Rattle.std.proofs.lemmas.List.{append-nil}
use Rattle.im_tok.specs.declared.punctuator.Punctuator.{Punctuator}
use Rattle.im_tok.specs.declared.punctuator.Punctuator.TheVariants.{Comma, Question, Colon, OpenParen, CloseParen, OpenBracket, CloseBracket, Dot, Arrow}
use Rattle.im_tok.specs.declared.keyword.Keyword.TheVariants.{Sizeof}
use Rattle.im_word.specs.Words.{Name, Word, name, keyword, mark}
use Rattle.im_ctree.specs.declared.operator.StepOp.{StepOp}
use Rattle.im_ctree.specs.declared.operator.UnaryOp.{UnaryOp}
use Rattle.im_ctree.specs.declared.operator.BinaryOp.{BinaryOp}
use Rattle.im_ctree.specs.declared.operator.AssignOp.{AssignOp}
use Rattle.im_ctree.specs.Operators as op
use Rattle.im_ctree.specs.Tree as tree
use Rattle.im_ctree.specs.Grammar as g
use Rattle.im_ctree.specs.Follow.{rank, head_rank, StartsSpecifier, at_typedef, at_word, at_struct, at_enum}
use Rattle.im_ctree.proofs.Ranks.{operator_rank, operator_same, step_same, prefix_same, step_rank, unary_code, step_unary, prefix_unary, head_unary, mark_unary, rest_same, mark_same, type_name_starts, blocked}
use Rattle.im_ctree.proofs.Behind.{comma_ends, binary_ends, postfix_ends, word_goes}
use Rattle.im_parse_core.specs.Reads.{Family, Ending, head, Reads, Refuses, Within}
use Rattle.im_parse_core.specs.Parts.{Both, both, After, after, Made, made, Done, done}
use Rattle.im_parse_core.specs.Places.{IsAt}
use Rattle.im_parse_core.proofs.Steps.{Apart, Completes, Some', Into, Back, BackTwo, Opens, tail, cons_of, start, line, line_at, line_two, word, missing, part, refused, node, all, last, last_refused, nothing, first_line_at, flat, flat_after, flat_made, flat_done}
use Rattle.im_parse_expression.specs.Parsing.{Below, Anything, Closed, Postfixes, NoOperator, IsSized, of_operand, of_type, BeginsSpecifiers, by_keyword, by_name}
use Rattle.im_parse_expression.proofs.Some.{some_cast, some_unary, some_conditional, some_assignment, some_expression, some_primary, zero_word}

-- the rank of the first word
pub rank_of : (r : List Word) {x : Word} → head r ≡ Some x → head_rank r ≡ rank x
rank_of r {x = x} e = ap head_rank (cons_of r x e)

-- expr = assign { "," assign }
abbrev pub Commas : List Name → ℕ → tree.Expression → Family tree.Expression
Commas T s a p t w = g.CommaTail T s p a t w

expression_into : (T : List Name) (p : ℕ) → Into (Both (g.IsAssignment T) (Commas T p)) (g.IsExpression T) p
expression_into T p t _ (both a rest) = g.assigns a rest

expression_back : (T : List Name) (p : ℕ) → Into (g.IsExpression T) (Both (g.IsAssignment T) (Commas T p)) p
expression_back T p t _ (g.assigns a rest) = both a rest

pub commas_apart : (T : List Name) (s : ℕ) → Apart (Commas T s) (Below 1) (Below 2)
commas_apart T s a q t v r d e = comma_ends d r e

pub commas_complete : (T : List Name) (s : ℕ) → Completes (Commas T s)
commas_complete T s a q = (a, [], g.no_comma)

pub expression_start : (T : List Name) (p : ℕ) (w : List Word) → Within (g.IsExpression T) (Below 1) p w (Both (g.IsAssignment T) (Commas T p)) (Below 1) p w (λ t. t)
expression_start T p w = line (Both (g.IsAssignment T) (Commas T p)) (expression_into T p) (λ t u r e d f. expression_back T p t u d) (start (g.IsExpression T) (Below 1) p w)

-- the loop's state: what the words from q on go on with
abbrev pub InCommas : List Name → List Word → ℕ → tree.Expression → ℕ → Type 0
InCommas T words p a q = Within (g.IsExpression T) (Below 1) p (drop p words) (Commas T p a) (Below 1) q (drop q words) (λ t. t)

commas_into : (T : List Name) (s q : ℕ) (a : tree.Expression) → Into (After (mark Comma) (Both (g.IsAssignment T) (λ b. Commas T s (tree.comma s a b)))) (Commas T s a) q
commas_into T s q a t _ (after (both b rest)) = g.a_comma b rest

commas_back : (T : List Name) (s q : ℕ) (a t : tree.Expression) (u r v : List Word) → u ++ r ≡ mark Comma ∷ v → Commas T s a q t u → head_rank r < 1 → After (mark Comma) (Both (g.IsAssignment T) (λ b. Commas T s (tree.comma s a b))) q t u
commas_back T s q a t _ r v eq g.no_comma e = absurd (blocked 1 e eq (omega arith))
commas_back T s q a t _ r v eq (g.a_comma b rest) e = after (both b rest)

commas_end : (T : List Name) (s q : ℕ) (a t : tree.Expression) (u r m : List Word) → (head m ≡ Some (mark Comma) → ⊥) → head (u ++ r) ≡ head m → Commas T s a q t u → Done a q t u
commas_end T s q a t _ r m other eq g.no_comma = done
commas_end T s q a t _ r m other eq (g.a_comma b rest) = absurd (other (sym eq))

commas_done_into : (T : List Name) (s q : ℕ) (a : tree.Expression) → Into (Done a) (Commas T s a) q
commas_done_into T s q a t _ done = g.no_comma

-- a comma stands there, and the assignment behind it is read next
abbrev pub AfterComma : List Name → List Word → ℕ → tree.Expression → ℕ → Type 0
AfterComma T words p a n = Within (g.IsExpression T) (Below 1) p (drop p words) (Both (g.IsAssignment T) (λ b. Commas T p (tree.comma p a b))) (Below 1) n (drop n words) (λ t. t)

pub commas_more : (words : List Word) {T : List Name} {p q n : ℕ} {a : tree.Expression} → IsAt (mark Comma) words q n → InCommas T words p a q → AfterComma T words p a n
commas_more words {T = T} {p = p} {q = q} {a = a} at from =
    word at (line_at (mark Comma) (After (mark Comma) (Both (g.IsAssignment T) (λ b. Commas T p (tree.comma p a b)))) (ap head at.here) (commas_into T p q a) (λ t u r v eq d e. commas_back T p q a t u r v eq d e) from)

pub commas_done : (words : List Word) {T : List Name} {p q : ℕ} {a : tree.Expression} → (head (drop q words) ≡ Some (mark Comma) → ⊥) → InCommas T words p a q → Reads (g.IsExpression T) (Below 1) p (drop p words) a q (drop q words)
commas_done words {T = T} {p = p} {q = q} {a = a} other from =
    all (line (Done a) (λ t u d. commas_done_into T p q a t u d) (λ t u r e d f. commas_end T p q a t u r (drop q words) other e d) from)

-- cond = binary [ "?" expr ":" cond ]
pub data Choice (T : List Name) (s : ℕ) (c : tree.Expression) : ℕ → tree.Expression → List Word → Type 0 where
  unchosen : {q : ℕ} → Choice T s c q c []
  chosen : {q : ℕ} {a b : tree.Expression} {v w : List Word} → g.IsExpression T (suc q) a v → g.IsConditional T (suc (suc q + length v)) b w → Choice T s c q (tree.conditional s c a b) (mark Question ∷ (v ++ (mark Colon ∷ w)))

conditional_into : (T : List Name) (p : ℕ) → Into (Both (g.IsBinary T 0) (λ c. Choice T p c)) (g.IsConditional T) p
conditional_into T p t _ (both {u = u} c unchosen) = subst (g.IsConditional T p t) (sym (append-nil u)) (g.operates c)
conditional_into T p t _ (both c (chosen a b)) = g.a_choice c a b

conditional_back : (T : List Name) (p : ℕ) → Into (g.IsConditional T) (Both (g.IsBinary T 0) (λ c. Choice T p c)) p
conditional_back T p t u (g.operates c) = subst (Both (g.IsBinary T 0) (λ c. Choice T p c) p t) (append-nil u) (both c unchosen)
conditional_back T p t _ (g.a_choice c a b) = both c (chosen a b)

choice_apart : (T : List Name) (s : ℕ) → Apart (λ c. Choice T s c) (Below 3) (Below 4)
choice_apart T s a q t v r unchosen e = omega (arith, e)
choice_apart T s a q t v r (chosen x y) e = omega arith

pub conditional_start : (T : List Name) (p : ℕ) (w : List Word) → Within (g.IsConditional T) (Below 3) p w (Both (g.IsBinary T 0) (λ c. Choice T p c)) (Below 3) p w (λ t. t)
conditional_start T p w = line (Both (g.IsBinary T 0) (λ c. Choice T p c)) (conditional_into T p) (λ t u r e d f. conditional_back T p t u d) (start (g.IsConditional T) (Below 3) p w)

pub refuses_condition : (words : List Word) {T : List Name} {p n : ℕ} → Refuses (g.IsBinary T 0) (Below 4) p (drop p words) n (drop n words) → Refuses (g.IsConditional T) (Below 3) p (drop p words) n (drop n words)
refuses_condition words {T = T} {p = p} one = refused (λ a q. (a, [], unchosen)) (choice_apart T p) one (conditional_start T p (drop p words))

choice_into : (T : List Name) (s q : ℕ) (c : tree.Expression) → Into (After (mark Question) (Both (g.IsExpression T) (λ a. After (mark Colon) (Made (tree.conditional s c a) (g.IsConditional T))))) (Choice T s c) q
choice_into T s q c t _ (after (both a (after (made b)))) = chosen a b

choice_back : (T : List Name) (s q : ℕ) (c t : tree.Expression) (u r v : List Word) → u ++ r ≡ mark Question ∷ v → Choice T s c q t u → head_rank r < 3 → After (mark Question) (Both (g.IsExpression T) (λ a. After (mark Colon) (Made (tree.conditional s c a) (g.IsConditional T)))) q t u
choice_back T s q c t _ r v eq unchosen e = absurd (blocked 3 e eq (omega arith))
choice_back T s q c t _ r v eq (chosen a b) e = after (both a (after (made b)))

choice_end : (T : List Name) (s q : ℕ) (c t : tree.Expression) (u r m : List Word) → (head m ≡ Some (mark Question) → ⊥) → head (u ++ r) ≡ head m → Choice T s c q t u → Done c q t u
choice_end T s q c t _ r m other eq unchosen = done
choice_end T s q c t _ r m other eq (chosen a b) = absurd (other (sym eq))

choice_done_into : (T : List Name) (s q : ℕ) (c : tree.Expression) → Into (Done c) (Choice T s c) q
choice_done_into T s q c t _ done = unchosen

colon_apart : (T : List Name) (s : ℕ) (c : tree.Expression) → Apart (λ a. After (mark Colon) (Made (tree.conditional s c a) (g.IsConditional T))) (Below 3) (Below 1)
colon_apart T s c a q t _ r (after d) e = omega arith

pub reads_condition : (words : List Word) {T : List Name} {p q : ℕ} {c : tree.Expression} → (head (drop q words) ≡ Some (mark Question) → ⊥) → Reads (g.IsBinary T 0) (Below 4) p (drop p words) c q (drop q words) → Reads (g.IsConditional T) (Below 3) p (drop p words) c q (drop q words)
reads_condition words {T = T} {p = p} {q = q} {c = c} other one =
    all (line (Done c) (λ t u d. choice_done_into T p q c t u d) (λ t u r e d f. choice_end T p q c t u r (drop q words) other e d) (part (choice_apart T p) one (conditional_start T p (drop p words))))

-- behind `?`
abbrev pub Chosen : List Name → List Word → ℕ → tree.Expression → ℕ → Type 0
Chosen T words p c n = Within (g.IsConditional T) (Below 3) p (drop p words) (Both (g.IsExpression T) (λ a. After (mark Colon) (Made (tree.conditional p c a) (g.IsConditional T)))) (Below 3) n (drop n words) (λ t. t)

pub chosen_start : (words : List Word) {T : List Name} {p q n : ℕ} {c : tree.Expression} → IsAt (mark Question) words q n → Reads (g.IsBinary T 0) (Below 4) p (drop p words) c q (drop q words) → Chosen T words p c n
chosen_start words {T = T} {p = p} {q = q} {c = c} at one =
    word at (line_at (mark Question) (After (mark Question) (Both (g.IsExpression T) (λ a. After (mark Colon) (Made (tree.conditional p c a) (g.IsConditional T))))) (ap head at.here) (choice_into T p q c) (λ t u r v eq d e. choice_back T p q c t u r v eq d e) (part (choice_apart T p) one (conditional_start T p (drop p words))))

colon_complete : (T : List Name) (s : ℕ) (c : tree.Expression) → Completes (λ a. After (mark Colon) (Made (tree.conditional s c a) (g.IsConditional T)))
colon_complete T s c a q = let more = some_conditional T (suc q) in (tree.conditional s c a more.0, mark Colon ∷ more.1, after (made more.2))

pub refuses_chosen : (words : List Word) {T : List Name} {p n k : ℕ} {c : tree.Expression} → Chosen T words p c n → Refuses (g.IsExpression T) (Below 1) n (drop n words) k (drop k words) → Refuses (g.IsConditional T) (Below 3) p (drop p words) k (drop k words)
refuses_chosen words {T = T} {p = p} {c = c} from one = refused (colon_complete T p c) (colon_apart T p c) one from

-- behind what stands between `?` and `:`
abbrev pub Alternative : List Name → List Word → ℕ → tree.Expression → tree.Expression → ℕ → Type 0
Alternative T words p c a n = Within (g.IsConditional T) (Below 3) p (drop p words) (After (mark Colon) (Made (tree.conditional p c a) (g.IsConditional T))) (Below 3) n (drop n words) (λ t. t)

pub alternative : (words : List Word) {T : List Name} {p n k : ℕ} {c a : tree.Expression} → Chosen T words p c n → Reads (g.IsExpression T) (Below 1) n (drop n words) a k (drop k words) → Alternative T words p c a k
alternative words {T = T} {p = p} {c = c} from one = part (colon_apart T p c) one from

pub misses_colon : (words : List Word) {T : List Name} {p n : ℕ} {c a : tree.Expression} → Alternative T words p c a n → (head (drop n words) ≡ Some (mark Colon) → ⊥) → Refuses (g.IsConditional T) (Below 3) p (drop p words) n (drop n words)
misses_colon words {T = T} {p = p} {c = c} {a = a} from other = missing (λ q. let more = some_conditional T q in (tree.conditional p c a more.0, more.1, made more.2)) other from

pub refuses_other : (words : List Word) {T : List Name} {p n k l : ℕ} {c a : tree.Expression} → Alternative T words p c a n → IsAt (mark Colon) words n k → Refuses (g.IsConditional T) (Below 3) k (drop k words) l (drop l words) → Refuses (g.IsConditional T) (Below 3) p (drop p words) l (drop l words)
refuses_other words from at one = last_refused one (node (word at from))

pub reads_choice : (words : List Word) {T : List Name} {p n k l : ℕ} {c a b : tree.Expression} → Alternative T words p c a n → IsAt (mark Colon) words n k → Reads (g.IsConditional T) (Below 3) k (drop k words) b l (drop l words) → Reads (g.IsConditional T) (Below 3) p (drop p words) (tree.conditional p c a b) l (drop l words)
reads_choice words from at one = last one (node (word at from))

pub refuses_expression : (words : List Word) {T : List Name} {p n : ℕ} → Refuses (g.IsAssignment T) (Below 2) p (drop p words) n (drop n words) → Refuses (g.IsExpression T) (Below 1) p (drop p words) n (drop n words)
refuses_expression words {T = T} {p = p} one = refused (commas_complete T p) (commas_apart T p) one (expression_start T p (drop p words))

pub commas_start : (words : List Word) {T : List Name} {p q : ℕ} {a : tree.Expression} → Reads (g.IsAssignment T) (Below 2) p (drop p words) a q (drop q words) → InCommas T words p a q
commas_start words {T = T} {p = p} one = part (commas_apart T p) one (expression_start T p (drop p words))

pub refuses_comma : (words : List Word) {T : List Name} {p n k : ℕ} {a : tree.Expression} → AfterComma T words p a n → Refuses (g.IsAssignment T) (Below 2) n (drop n words) k (drop k words) → Refuses (g.IsExpression T) (Below 1) p (drop p words) k (drop k words)
refuses_comma words {T = T} {p = p} {a = a} from one = refused (λ b q. commas_complete T p (tree.comma p a b) q) (λ b q t v r d e. commas_apart T p (tree.comma p a b) q t v r d e) one from

pub commas_next : (words : List Word) {T : List Name} {p n k : ℕ} {a b : tree.Expression} → AfterComma T words p a n → Reads (g.IsAssignment T) (Below 2) n (drop n words) b k (drop k words) → InCommas T words p (tree.comma p a b) k
commas_next words {T = T} {p = p} {a = a} from one = part (λ b q t v r d e. commas_apart T p (tree.comma p a b) q t v r d e) one from
