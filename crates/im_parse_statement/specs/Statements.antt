-- What the parsing functions of statements promise, for their private contracts.
use Rattle.std.specs.Prelude.{ℕ, suc, ◌≡◌, true, false, List, [], ◌∷◌, map, Option, Some, None}
use Rattle.std.specs.declared.vec.Vec.{Vec}
use Rattle.im_tok.specs.declared.keyword.Keyword.{Keyword}
use Rattle.im_tok.specs.declared.keyword.Keyword.TheVariants as key
use Rattle.im_tok.specs.declared.punctuator.Punctuator.TheVariants.{OpenParen, CloseParen, Colon, Semicolon}
use Rattle.im_word.specs.Words.{Name, Word, keyword, mark}
use Rattle.im_ctree.specs.Tree as t
use Rattle.im_ctree.specs.Grammar as g
use Rattle.im_ctree.specs.Units as u'
use Rattle.im_ctree.specs.Typedefs.{typedef_names, names_behind, names_behind_init}
use Rattle.im_ctree.specs.Shape.{declaration_of, statement_of, block_items_of}
use Rattle.im_ctree.specs.declared.statement.Statement.{Statement}
use Rattle.im_ctree.specs.declared.statement.Block.{Block}
use Rattle.im_ctree.specs.declared.statement.BlockItem as bi
use Rattle.im_parse_core.specs.Reads.{Family, Ending, head}
use Rattle.im_parse_core.specs.Parts.{Both, After, Made, Done}
use Rattle.im_parse_core.specs.Lists.{before}
use Rattle.im_parse_statement.specs.declared.start.StatementStart.{StatementStart}
use Rattle.im_parse_statement.specs.declared.start.StatementStart.TheVariants as start

abbrev pub statement_tree : Statement → t.Statement
statement_tree s = statement_of s.at s.kind

abbrev pub block_tree : Block → t.Block
block_tree b = t.block b.at (block_items_of b.items.items)

-- an `else` behind a statement belongs to it, where it takes one
abbrev pub AfterStatement : Ending t.Statement
AfterStatement s r = u'.takes_else s ≡ true → head r ≡ Some (keyword key.Else) → ⊥

-- what stands in a block
pub data ItemTree : Type 0 where
  declared : t.Declaration → ItemTree
  stated : t.Statement → ItemTree

abbrev pub add_item : ItemTree → t.BlockItems → t.BlockItems
add_item (declared d) is = t.declaration_item d is
add_item (stated s) is = t.statement_item s is

abbrev pub item_tree : bi.BlockItem → ItemTree
item_tree (bi.Declaration d) = declared (declaration_of d)
item_tree (bi.Statement' at s) = stated (statement_of at s)

abbrev pub items_tree : {G : Type 0} → Vec bi.BlockItem G → t.BlockItems
items_tree items = before add_item (map item_tree items.items) t.no_items

-- the typedef names behind it
abbrev pub names_behind_item : List Name → ItemTree → List Name
names_behind_item T (declared d) = typedef_names T d
names_behind_item T (stated s) = names_behind T s

pub data IsItem (T : List Name) : ℕ → ItemTree → List Word → Type 0 where
  a_declaration : {p : ℕ} {d : t.Declaration} {u : List Word} → u'.IsDeclaration T p d u → IsItem T p (declared d) u
  a_statement : {p : ℕ} {s : t.Statement} {u : List Word} → u'.IsStatement T p s u → IsItem T p (stated s) u

abbrev pub AfterItem : Ending ItemTree
AfterItem (declared d) r = Unit {0}
AfterItem (stated s) r = AfterStatement s r

-- the keyword that a statement begins with
abbrev pub start_keyword : StatementStart → Keyword
start_keyword start.If = key.If
start_keyword start.While = key.While
start_keyword start.Do = key.Do
start_keyword start.For = key.For
start_keyword start.Switch = key.Switch
start_keyword start.Case = key.Case
start_keyword start.Default = key.Default
start_keyword start.Break = key.Break
start_keyword start.Continue = key.Continue
start_keyword start.Return = key.Return

abbrev pub keyword_start : Keyword → Option StatementStart
keyword_start key.If = Some start.If
keyword_start key.While = Some start.While
keyword_start key.Do = Some start.Do
keyword_start key.For = Some start.For
keyword_start key.Switch = Some start.Switch
keyword_start key.Case = Some start.Case
keyword_start key.Default = Some start.Default
keyword_start key.Break = Some start.Break
keyword_start key.Continue = Some start.Continue
keyword_start key.Return = Some start.Return
keyword_start _ = None

-- "(" expr ")"
abbrev pub Condition : List Name → Family t.Expression
Condition T = After (mark OpenParen) (Both (g.IsExpression T) (λ e. After (mark CloseParen) (Done e)))

-- [ "else" stmt ] behind an `if` at word s, where the first statement takes no `else`
pub data ElsePart (T : List Name) (s : ℕ) (e : t.Expression) (b : t.Statement) : ℕ → t.Statement → List Word → Type 0 where
  no_else : {p : ℕ} → ElsePart T s e b p (t.if_statement s e b t.no_statement) []
  an_else : {p : ℕ} {o : t.Statement} {u : List Word} → u'.takes_else b ≡ false → u'.IsStatement (names_behind T b) (suc p) o u → ElsePart T s e b p (t.if_statement s e b (t.a_statement o)) (keyword key.Else ∷ u)

-- what stands behind the keyword of a statement that begins at word s
abbrev pub RestOf : List Name → ℕ → StatementStart → Family t.Statement
RestOf T s start.If = After (mark OpenParen) (Both (g.IsExpression T) (λ e. After (mark CloseParen) (Both (u'.IsStatement T) (λ b. ElsePart T s e b))))
RestOf T s start.While = After (mark OpenParen) (Both (g.IsExpression T) (λ e. After (mark CloseParen) (Made (t.while_statement s e) (u'.IsStatement T))))
RestOf T s start.Do = Both (u'.IsStatement T) (λ b. After (keyword key.While) (After (mark OpenParen) (Both (g.IsExpression (names_behind T b)) (λ e. After (mark CloseParen) (After (mark Semicolon) (Done (t.do_statement s b e)))))))
RestOf T s start.For = After (mark OpenParen) (Both (u'.IsForInit T) (λ i. Both (u'.IsMaybeExpression (names_behind_init T i)) (λ c. After (mark Semicolon) (Both (u'.IsMaybeExpression (names_behind_init T i)) (λ n. After (mark CloseParen) (Made (t.for_statement s i c n) (u'.IsStatement (names_behind_init T i))))))))
RestOf T s start.Switch = After (mark OpenParen) (Both (g.IsExpression T) (λ e. After (mark CloseParen) (Made (t.switch_statement s e) (u'.IsBlock T))))
RestOf T s start.Case = Both (g.IsConditional T) (λ e. After (mark Colon) (Made (t.case_statement s e) (u'.IsStatement T)))
RestOf T s start.Default = After (mark Colon) (Made (t.default_statement s) (u'.IsStatement T))
RestOf T s start.Break = After (mark Semicolon) (Done (t.break_statement s))
RestOf T s start.Continue = After (mark Semicolon) (Done (t.continue_statement s))
RestOf T s start.Return = Both (u'.IsMaybeExpression T) (λ e. After (mark Semicolon) (Done (t.return_statement s e)))

-- [expr] ";"
abbrev pub ExpressionLine : List Name → ℕ → Family t.Statement
ExpressionLine T s = Both (u'.IsMaybeExpression T) (λ e. After (mark Semicolon) (Done (t.expression_statement s e)))

abbrev pub BlockLine : List Name → ℕ → Family t.Statement
BlockLine T s = Made (t.block_statement s) (u'.IsBlock T)
