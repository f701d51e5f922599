-- The suffixes of a declarator, part by part.
use Rattle.std.proofs.Common.{◌≡◌, ℕ, suc, ◌+◌, ◌<◌, List, [], ◌∷◌, ◌++◌, length, map, drop, sym, refl, ap, ◌∙◌, subst, arith, append_assoc, length-append}
use Rattle.std.specs.Prelude.{Option, Some, None}
use Rattle.std.proofs.lemmas.List.{append-nil}
use Rattle.im_tok.specs.declared.punctuator.Punctuator.TheVariants.{OpenBracket, CloseBracket, OpenParen, CloseParen}
use Rattle.im_word.specs.Words.{Name, Word, mark}
use Rattle.im_ctree.specs.declared.declarator.Suffix.{Suffix}
use Rattle.im_ctree.specs.Tree as tree
use Rattle.im_ctree.specs.Grammar as g
use Rattle.im_ctree.specs.Follow.{head_rank, close_bracket}
use Rattle.im_ctree.proofs.Ranks.{conditional_starts, not_expression}
use Rattle.im_parse_core.specs.Reads.{Family, Ending, head, Reads, Refuses, Within}
use Rattle.im_parse_core.specs.Parts.{Both, both, After, after, Made, made, Done, done}
use Rattle.im_parse_core.specs.Places.{IsAt}
use Rattle.im_parse_core.specs.Lists.{before}
use Rattle.im_parse_core.specs.Repeats.{Repeated, no_more, one_more}
use Rattle.im_parse_core.proofs.Steps.{Apart, Completes, Into, start, line, line_at, word, missing, part, refused, all, nothing, as_closed, first_line, first_line_at, flat_done, flat_made}
use Rattle.im_parse_core.proofs.Repeats.{Rest, Next, one, over, completes_item}
use Rattle.im_parse_expression.specs.Parsing.{Anything, Closed, Below}
use Rattle.im_parse_expression.specs.Declaring.{SuffixTree, one_array, one_function, add_suffix, suffix_tree, IsSuffix, an_array, a_function, BeginsSuffix, by_bracket, by_paren}

-- { tail }
abbrev SuffixRow : List Name → Family tree.Suffixes
SuffixRow T = Repeated (λ (s : Unit {0}). IsSuffix T) (λ s a. s) add_suffix tree.no_suffixes tt

row_suffixes : {T : List Name} {p : ℕ} {ts : tree.Suffixes} {u : List Word} → SuffixRow T p ts u → g.IsSuffixes T p ts u
row_suffixes no_more = g.no_suffix
row_suffixes {T = T} {p = p} (one_more {b = b} {v = v} (an_array {e = e} {u = u} d) rest) =
    subst (λ z. g.IsSuffixes T p (tree.array_suffix p e b) (mark OpenBracket ∷ z)) (sym (append_assoc u (mark CloseBracket ∷ []) v)) (g.an_array d (subst (λ k. g.IsSuffixes T k b v) (omega (arith, length-append u (mark CloseBracket ∷ []))) (row_suffixes rest)))
row_suffixes {T = T} {p = p} (one_more {b = b} {v = v} (a_function {qs = qs} {u = u} d) rest) =
    subst (λ z. g.IsSuffixes T p (tree.function_suffix p qs b) (mark OpenParen ∷ z)) (sym (append_assoc u (mark CloseParen ∷ []) v)) (g.a_function d (subst (λ k. g.IsSuffixes T k b v) (omega (arith, length-append u (mark CloseParen ∷ []))) (row_suffixes rest)))

suffixes_row : {T : List Name} {p : ℕ} {ts : tree.Suffixes} {u : List Word} → g.IsSuffixes T p ts u → SuffixRow T p ts u
suffixes_row g.no_suffix = no_more
suffixes_row {T = T} {p = p} (g.an_array {e = e} {ts = b} {u = u} {v = v} d rest) =
    subst (λ z. SuffixRow T p (tree.array_suffix p e b) (mark OpenBracket ∷ z)) (append_assoc u (mark CloseBracket ∷ []) v) (one_more (an_array d) (subst (λ k. SuffixRow T k b v) (omega (arith, length-append u (mark CloseBracket ∷ []))) (suffixes_row rest)))
suffixes_row {T = T} {p = p} (g.a_function {qs = qs} {ts = b} {u = u} {v = v} d rest) =
    subst (λ z. SuffixRow T p (tree.function_suffix p qs b) (mark OpenParen ∷ z)) (append_assoc u (mark CloseParen ∷ []) v) (one_more (a_function d) (subst (λ k. SuffixRow T k b v) (omega (arith, length-append u (mark CloseParen ∷ []))) (suffixes_row rest)))

abbrev Whole : tree.Suffixes → Family tree.Suffixes
Whole b = Done b

abbrev pub InSuffixes : List Name → List Word → ℕ → List SuffixTree → ℕ → Type 0
InSuffixes T words p xs q = Within (g.IsSuffixes T) (Below 14) p (drop p words) (Rest (λ (s : Unit {0}). IsSuffix T) (λ s a. s) add_suffix tree.no_suffixes Whole xs tt) (Below 14) q (drop q words) (λ t. t)

abbrev pub NextSuffix : List Name → List Word → ℕ → List SuffixTree → ℕ → Type 0
NextSuffix T words p xs q = Within (g.IsSuffixes T) (Below 14) p (drop p words) (Next (λ (s : Unit {0}). IsSuffix T) (λ s a. s) add_suffix tree.no_suffixes Whole xs tt) (Below 14) q (drop q words) (λ t. t)

rest_into : (T : List Name) (q : ℕ) → Into (Both (SuffixRow T) Whole) (g.IsSuffixes T) q
rest_into T q t _ (both {u = u} row done) = subst (g.IsSuffixes T q t) (sym (append-nil u)) (row_suffixes row)

rest_back : (T : List Name) (q : ℕ) (t : tree.Suffixes) (u : List Word) → g.IsSuffixes T q t u → Both (SuffixRow T) Whole q t u
rest_back T q t u d = subst (Both (SuffixRow T) Whole q t) (append-nil u) (both (suffixes_row d) done)

pub suffixes_start : (words : List Word) (T : List Name) (p : ℕ) → InSuffixes T words p [] p
suffixes_start words T p = line (Both (SuffixRow T) Whole) (rest_into T p) (λ t u r e d f. rest_back T p t u d) (start (g.IsSuffixes T) (Below 14) p (drop p words))

suffix_rank : (r : List Word) → BeginsSuffix (head r) → 13 < head_rank r
suffix_rank [] h = elim h [ ]
suffix_rank (_ ∷ v) by_bracket = omega arith
suffix_rank (_ ∷ v) by_paren = omega arith

whole_clash : (b : tree.Suffixes) (m : List Word) → BeginsSuffix (head m) → (k : ℕ) (t : tree.Suffixes) (u r : List Word) → head (u ++ r) ≡ head m → Whole b k t u → head_rank r < 14 → ⊥
whole_clash b m h k t _ r e done f = let i = suffix_rank r (subst BeginsSuffix (sym e) h) in omega (arith, i, f)

pub suffixes_more : (words : List Word) (xs : List SuffixTree) {T : List Name} {p q : ℕ} → BeginsSuffix (head (drop q words)) → InSuffixes T words p xs q → NextSuffix T words p xs q
suffixes_more words xs {q = q} h from = one Whole xs (λ k t u r e d f. whole_clash (before add_suffix xs tree.no_suffixes) (drop q words) h k t u r e d f) from

pub refuses_suffix : (words : List Word) (xs : List SuffixTree) {T : List Name} {p q n : ℕ} → NextSuffix T words p xs q → Refuses (IsSuffix T) Anything q (drop q words) n (drop n words) → Refuses (g.IsSuffixes T) (Below 14) p (drop p words) n (drop n words)
refuses_suffix words xs from one' = refused (completes_item Whole xs tt (λ b k. (b, [], done))) (λ a q t v r d e. tt) one' from

pub suffixes_next : (words : List Word) (xs : List SuffixTree) {T : List Name} {p q n : ℕ} {a : SuffixTree} → NextSuffix T words p xs q → Reads (IsSuffix T) Anything q (drop q words) a n (drop n words) → InSuffixes T words p (xs ++ a ∷ []) n
suffixes_next words xs from one' = part (λ a q t v r d e. tt) one' from

pub suffix_begins : {T : List Name} {p : ℕ} {a : SuffixTree} {u : List Word} (z : List Word) → IsSuffix T p a u → BeginsSuffix (head (u ++ z))
suffix_begins z (an_array d) = by_bracket
suffix_begins z (a_function d) = by_paren

pub suffixes_done : (words : List Word) (xs : List SuffixTree) {T : List Name} {p q : ℕ} → (BeginsSuffix (head (drop q words)) → ⊥) → InSuffixes T words p xs q → Reads (g.IsSuffixes T) (Below 14) p (drop p words) (before add_suffix xs tree.no_suffixes) q (drop q words)
suffixes_done words xs other from = all (over Whole xs (λ a u z d e. other (subst BeginsSuffix e (suffix_begins z d))) from)

pub suffixes_item : (items : List Suffix) (x : Suffix) → map suffix_tree (items ++ x ∷ []) ≡ map suffix_tree items ++ suffix_tree x ∷ []
suffixes_item [] x = refl
suffixes_item (y ∷ items) x = ap (λ z. suffix_tree y ∷ z) (suffixes_item items x)

suffix_length : {T : List Name} {q n : ℕ} {a : SuffixTree} (u : List Word) → IsSuffix T q a u → n ≡ q + length u → q < n
suffix_length _ (an_array d) e = omega (arith, e)
suffix_length _ (a_function d) e = omega (arith, e)

pub suffix_advances : {T : List Name} {q n : ℕ} {w m : List Word} {x : SuffixTree} → Reads (IsSuffix T) Anything q w x n m → q < n
suffix_advances one' = suffix_length one'.front one'.derived one'.place

-- "[" [cond] "]"
abbrev ArrayLine : List Name → ℕ → Family SuffixTree
ArrayLine T p = After (mark OpenBracket) (Both (g.IsLength T) (λ e. After (mark CloseBracket) (Done (one_array p e))))

array_into : (T : List Name) (q : ℕ) → Into (ArrayLine T q) (IsSuffix T) q
array_into T q t _ (after (both d (after done))) = an_array d

array_back : (T : List Name) (q : ℕ) (t : SuffixTree) (u r v : List Word) → u ++ r ≡ mark OpenBracket ∷ v → IsSuffix T q t u → ArrayLine T q q t u
array_back T q t _ r v eq (an_array d) = after (both d (after done))
array_back T q t _ r v eq (a_function d) = absurd cc

abbrev pub AnArray : List Name → List Word → ℕ → ℕ → Type 0
AnArray T words p k = Within (IsSuffix T) Anything p (drop p words) (Both (g.IsLength T) (λ e. After (mark CloseBracket) (Done (one_array p e)))) Anything k (drop k words) (λ t. t)

pub array_start : (words : List Word) {T : List Name} {p k : ℕ} → IsAt (mark OpenBracket) words p k → AnArray T words p k
array_start words {T = T} {p = p} at = word at (line_at (mark OpenBracket) (ArrayLine T p) (ap head at.here) (array_into T p) (λ t u r v eq d e. array_back T p t u r v eq d) (start (IsSuffix T) Anything p (drop p words)))

bracket_apart : (p : ℕ) → Apart {A = tree.MaybeExpression} (λ e. After (mark CloseBracket) (Done (one_array p e))) Anything (λ t r. head r ≡ Some (mark CloseBracket))
bracket_apart p a q t _ r (after d) e = refl

unsized_into : (T : List Name) (q : ℕ) → Into (Done tree.no_expression) (g.IsLength T) q
unsized_into T q t _ done = g.no_length

unsized_back : (T : List Name) (q : ℕ) (t : tree.MaybeExpression) (u r v : List Word) → u ++ r ≡ mark CloseBracket ∷ v → g.IsLength T q t u → Done tree.no_expression q t u
unsized_back T q t _ r v eq g.no_length = done
unsized_back T q t u r v eq (g.a_length d) = absurd (not_expression u r close_bracket (conditional_starts d) (sym eq))

pub reads_unsized : (words : List Word) {T : List Name} {p k l : ℕ} → IsAt (mark CloseBracket) words k l → AnArray T words p k → Reads (IsSuffix T) Anything p (drop p words) (one_array p tree.no_expression) l (drop l words)
reads_unsized words {T = T} {p = p} {k = k} at from =
    all (word at (flat_done (first_line_at {G = λ t r. head r ≡ Some (mark CloseBracket)} (mark CloseBracket) (Done tree.no_expression) (bracket_apart p) (ap head at.here) (unsized_into T k) (λ t u r v eq d e. unsized_back T k t u r v eq d) from)))

sized_into : (T : List Name) (q : ℕ) → Into (Made tree.an_expression (g.IsConditional T)) (g.IsLength T) q
sized_into T q t _ (made d) = g.a_length d

sized_back : (T : List Name) (q : ℕ) (m : List Word) → (head m ≡ Some (mark CloseBracket) → ⊥) → (t : tree.MaybeExpression) (u r : List Word) → head (u ++ r) ≡ head m → g.IsLength T q t u → head r ≡ Some (mark CloseBracket) → Made tree.an_expression (g.IsConditional T) q t u
sized_back T q m other t _ r e g.no_length f = absurd (other (sym e ∙ f))
sized_back T q m other t u r e (g.a_length d) f = made d

abbrev pub SizedArray : List Name → List Word → ℕ → ℕ → Type 0
SizedArray T words p k = Within (IsSuffix T) Anything p (drop p words) (Both (g.IsConditional T) (λ e. After (mark CloseBracket) (Done (one_array p (tree.an_expression e))))) Anything k (drop k words) (λ t. t)

pub sized_start : (words : List Word) {T : List Name} {p k : ℕ} → (head (drop k words) ≡ Some (mark CloseBracket) → ⊥) → AnArray T words p k → SizedArray T words p k
sized_start words {T = T} {p = p} {k = k} other from =
    flat_made (first_line {G = λ t r. head r ≡ Some (mark CloseBracket)} (Made tree.an_expression (g.IsConditional T)) (bracket_apart p) (sized_into T k) (λ t u r e d f. sized_back T k (drop k words) other t u r e d f) from)

length_apart : (p : ℕ) → Apart {A = tree.Expression} (λ e. After (mark CloseBracket) (Done (one_array p (tree.an_expression e)))) Anything (Below 3)
length_apart p a q t _ r (after d) e = omega arith

pub refuses_length : (words : List Word) {T : List Name} {p k n : ℕ} → SizedArray T words p k → Refuses (g.IsConditional T) (Below 3) k (drop k words) n (drop n words) → Refuses (IsSuffix T) Anything p (drop p words) n (drop n words)
refuses_length words {p = p} from one' = refused (λ e q. (one_array p (tree.an_expression e), mark CloseBracket ∷ [], after done)) (length_apart p) one' from

pub misses_length_end : (words : List Word) {T : List Name} {p k n : ℕ} {a : tree.Expression} → SizedArray T words p k → Reads (g.IsConditional T) (Below 3) k (drop k words) a n (drop n words) → (head (drop n words) ≡ Some (mark CloseBracket) → ⊥) → Refuses (IsSuffix T) Anything p (drop p words) n (drop n words)
misses_length_end words {p = p} {a = a} from one' other = missing (λ q. (one_array p (tree.an_expression a), [], done)) other (part (length_apart p) one' from)

pub reads_sized_array : (words : List Word) {T : List Name} {p k n l : ℕ} {a : tree.Expression} → SizedArray T words p k → Reads (g.IsConditional T) (Below 3) k (drop k words) a n (drop n words) → IsAt (mark CloseBracket) words n l → Reads (IsSuffix T) Anything p (drop p words) (one_array p (tree.an_expression a)) l (drop l words)
reads_sized_array words {p = p} from one' at = all (word at (part (length_apart p) one' from))

-- "(" [ param { "," param } ] ")"
abbrev FunctionLine : List Name → ℕ → Family SuffixTree
FunctionLine T p = After (mark OpenParen) (Both (g.IsParameters T) (λ qs. After (mark CloseParen) (Done (one_function p qs))))

function_into : (T : List Name) (q : ℕ) → Into (FunctionLine T q) (IsSuffix T) q
function_into T q t _ (after (both d (after done))) = a_function d

function_back : (T : List Name) (q : ℕ) (t : SuffixTree) (u r v : List Word) → u ++ r ≡ mark OpenParen ∷ v → IsSuffix T q t u → FunctionLine T q q t u
function_back T q t _ r v eq (a_function d) = after (both d (after done))
function_back T q t _ r v eq (an_array d) = absurd cc

abbrev pub AFunction : List Name → List Word → ℕ → ℕ → Type 0
AFunction T words p k = Within (IsSuffix T) Anything p (drop p words) (Both (Closed CloseParen (g.IsParameters T)) (λ qs. Done (one_function p qs))) Anything k (drop k words) (λ t. t)

pub function_start : (words : List Word) {T : List Name} {p k : ℕ} → IsAt (mark OpenParen) words p k → AFunction T words p k
function_start words {T = T} {p = p} at = as_closed (word at (line_at (mark OpenParen) (FunctionLine T p) (ap head at.here) (function_into T p) (λ t u r v eq d e. function_back T p t u r v eq d) (start (IsSuffix T) Anything p (drop p words))))

pub refuses_parameters : (words : List Word) {T : List Name} {p k n : ℕ} → AFunction T words p k → Refuses (Closed CloseParen (g.IsParameters T)) Anything k (drop k words) n (drop n words) → Refuses (IsSuffix T) Anything p (drop p words) n (drop n words)
refuses_parameters words {p = p} from one' = refused (λ qs q. (one_function p qs, [], done)) (λ a q t v r d e. tt) one' from

pub reads_function : (words : List Word) {T : List Name} {p k n : ℕ} {qs : tree.Parameters} → AFunction T words p k → Reads (Closed CloseParen (g.IsParameters T)) Anything k (drop k words) qs n (drop n words) → Reads (IsSuffix T) Anything p (drop p words) (one_function p qs) n (drop n words)
reads_function words from one' = all (part (λ a q t v r d e. tt) one' from)

no_bracket : (T : List Name) (q : ℕ) (m : List Word) → (head m ≡ Some (mark OpenBracket) → ⊥) → (head m ≡ Some (mark OpenParen) → ⊥) → (t : SuffixTree) (u r : List Word) → head (u ++ r) ≡ head m → IsSuffix T q t u → ⊥
no_bracket T q m bracket paren t _ r e (an_array d) = bracket (sym e)
no_bracket T q m bracket paren t _ r e (a_function d) = paren (sym e)

pub no_suffix_here : (words : List Word) {T : List Name} {p : ℕ} → (head (drop p words) ≡ Some (mark OpenBracket) → ⊥) → (head (drop p words) ≡ Some (mark OpenParen) → ⊥) → Refuses (IsSuffix T) Anything p (drop p words) p (drop p words)
no_suffix_here words {T = T} {p = p} bracket paren = nothing (λ q. (one_array q tree.no_expression, mark OpenBracket ∷ mark CloseBracket ∷ [], an_array g.no_length)) (λ t u r e d f. no_bracket T p (drop p words) bracket paren t u r e d) (start (IsSuffix T) Anything p (drop p words))
