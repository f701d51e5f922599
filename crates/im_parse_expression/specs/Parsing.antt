-- What the parsing functions of the grammar promise.
use Rattle.std.specs.Prelude.{ℕ, suc, ◌<◌, ◌≡◌, Bool, true, false, List, [], ◌∷◌, ◌++◌, drop, Result, MatchResult, Option, Some}
use Rattle.std.specs.declared.vec.Vec.{Vec}
use Rattle.im_tok.specs.declared.punctuator.Punctuator.{Punctuator}
use Rattle.im_tok.specs.declared.keyword.Keyword.{Keyword}
use Rattle.im_word.specs.Words.{Name, Word, name, keyword, mark}
use Rattle.std.specs.List.{Contains}
use Rattle.im_tok.specs.declared.punctuator.Punctuator.TheVariants.{OpenParen, CloseParen}
use Rattle.im_ctree.specs.Grammar.{IsUnary, IsTypeName, PostfixTail, IsJoinedText}
use Rattle.im_parse_core.specs.Reads.{Family, Ending, head}
use Rattle.im_parse_core.specs.Parts.{Both, After, Done}
use Rattle.im_parse_core.specs.Places.{IsAt, ReadsAt, StopsAt}
use Rattle.im_parse_core.specs.declared.stop.Stop.{Stop}
use Rattle.im_parse_core.specs.declared.stop.Stop.TheVariants.{Syntax, Memory}
use Rattle.im_ctree.specs.declared.expression.Expression.{Expression}
use Rattle.im_ctree.specs.Tree as t
use Rattle.im_ctree.specs.Shape.{expression_of}
use Rattle.im_ctree.specs.Follow.{head_rank, keyword_specifier}

abbrev pub tree_of : Expression → t.Expression
tree_of e = expression_of e.at e.kind

abbrev pub trees_of : List Expression → t.Expressions
trees_of [] = t.no_expressions
trees_of (e ∷ es) = t.more_expressions (tree_of e) (trees_of es)

-- the tree of a vector of expressions
abbrev pub items_tree : {G : Type 0} → Vec Expression G → t.Expressions
items_tree v = trees_of v.items

-- what a function gives that reads D at place i
abbrev pub Parses : {R A : Type 0} → (R → A) → Family A → Ending A → List Word → ℕ → Result (R × ℕ) Stop → Type 0
Parses tree D E words i result = MatchResult result (λ read. ReadsAt D E words i (tree read.0) read.1) (StopsAt D E words i)

-- what a function gives that makes this node, or runs out of memory
abbrev pub Builds : Result Expression Stop → t.Expression → Type 0
Builds result node = MatchResult result (λ e. tree_of e ≡ node) (λ stop. stop ≡ Memory)

-- a word of lower rank stands behind
abbrev pub Below : {A : Type 0} → ℕ → Ending A
Below k t r = head_rank r < k

-- anything may stand behind
abbrev pub Anything : {A : Type 0} → Ending A
Anything t r = Unit {0}

-- a part that this punctuator closes
abbrev pub Closed : {A : Type 0} → Punctuator → Family A → Family A
Closed m D = Both D (λ t. After (mark m) (Done t))

-- the number of an expression's first word
abbrev pub number_of : t.Expression → ℕ
number_of (t.identifier p n) = p
number_of (t.integer_constant p n) = p
number_of (t.character_constant p n) = p
number_of (t.string_literal p s) = p
number_of (t.index p a b) = p
number_of (t.call p a bs) = p
number_of (t.member_of p a n) = p
number_of (t.arrow_to p a n) = p
number_of (t.post_step p o a) = p
number_of (t.pre_step p o a) = p
number_of (t.unary p o a) = p
number_of (t.size_of_expression p a) = p
number_of (t.size_of_type p n) = p
number_of (t.cast p n a) = p
number_of (t.binary p o a b) = p
number_of (t.conditional p a b c) = p
number_of (t.assign p o a b) = p
number_of (t.comma p a b) = p

-- whether a node is of a kind that is a unary expression only in parentheses
abbrev pub is_looser : t.Expression → Bool
is_looser (t.cast p n a) = true
is_looser (t.binary p o a b) = true
is_looser (t.conditional p a b c) = true
is_looser _ = false

-- an operator of a table stands at place i, and the next word at place n
pub record OperatorAt {A : Type 0} (Is : A → Punctuator → Type 0) (words : List Word) (i : ℕ) (o : A) (n : ℕ) : Type 0 where
  pub punctuator : Punctuator
  pub is : Is o punctuator
  pub at : IsAt (mark punctuator) words i n

abbrev pub NoOperator : {A : Type 0} → (A → Punctuator → Type 0) → List Word → ℕ → Type 0
NoOperator {A} Is words i = (o : A) (m : Punctuator) → Is o m → head (drop i words) ≡ Some (mark m) → ⊥

-- what a function gives that wants this punctuator at place i
abbrev pub IsMarkAt : Punctuator → List Word → ℕ → Result ℕ Stop → Type 0
IsMarkAt m words i result = MatchResult result (λ n. IsAt (mark m) words i n) (λ stop. (stop ≡ Syntax i) × (head (drop i words) ≡ Some (mark m) → ⊥))

-- specifiers begin with this word
pub data BeginsSpecifiers (T : List Name) : Option Word → Type 0 where
  by_keyword : {k : Keyword} → keyword_specifier k ≡ 1 → BeginsSpecifiers T (Some (keyword k))
  by_name : {n : Name} → Contains T n → BeginsSpecifiers T (Some (name n))

-- what may stand behind `sizeof`, which is word s
pub data IsSized (T : List Name) (s : ℕ) : ℕ → t.Expression → List Word → Type 0 where
  of_operand : {p : ℕ} {a : t.Expression} {u : List Word} → IsUnary T p a u → IsSized T s p (t.size_of_expression s a) u
  of_type : {p : ℕ} {n : t.TypeName} {u : List Word} → IsTypeName T (suc p) n u → IsSized T s p (t.size_of_type s n) (mark OpenParen ∷ (u ++ (mark CloseParen ∷ [])))

-- what stands behind a postfix expression that begins at word s and has this tree so far
abbrev pub Postfixes : List Name → ℕ → t.Expression → Family t.Expression
Postfixes T s a p t w = PostfixTail T s p a t w

-- string literals side by side, and what stands behind them
abbrev pub IsText : Family Name
IsText p s u = IsJoinedText s u

abbrev pub NoTextBehind : Ending Name
NoTextBehind s r = head_rank r < 19

abbrev pub bytes_of : {G : Type 0} → Vec ℕ G → Name
bytes_of bytes = bytes.items
