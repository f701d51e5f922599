-- The words that a tree is printed as: parentheses stand only where the grammar needs them. T holds the typedef names.
use Rattle.std.specs.Prelude.{ℕ, zero, suc, ◌+◌, nat_lt, Bool, false, not, ◌&&◌, ◌||◌, cond, List, [], ◌∷◌, ◌++◌, Some, None, bytes_eq}
use Rattle.im_tok.specs.declared.keyword.Keyword.{Keyword}
use Rattle.im_tok.specs.declared.keyword.Keyword.TheVariants as key
use Rattle.im_tok.specs.declared.punctuator.Punctuator.{Punctuator}
use Rattle.im_tok.specs.declared.punctuator.Punctuator.TheVariants as punctuator
use Rattle.im_word.specs.Words.{Name, Word, name, keyword, number, character, text, mark}
use Rattle.im_ctree.specs.declared.operator.StepOp.{StepOp}
use Rattle.im_ctree.specs.declared.operator.StepOp.TheVariants as step
use Rattle.im_ctree.specs.declared.operator.UnaryOp.{UnaryOp}
use Rattle.im_ctree.specs.declared.operator.UnaryOp.TheVariants as op
use Rattle.im_ctree.specs.declared.operator.BinaryOp.{BinaryOp}
use Rattle.im_ctree.specs.declared.operator.BinaryOp.TheVariants.{Or, And, BitOr, BitXor, BitAnd, Equal, NotEqual, Less, Greater, LessEqual, GreaterEqual, ShiftLeft, ShiftRight, Add, Subtract, Multiply, Divide, Remainder}
use Rattle.im_ctree.specs.declared.operator.AssignOp.{AssignOp}
use Rattle.im_ctree.specs.declared.operator.AssignOp.TheVariants as op_assign
use Rattle.im_ctree.specs.declared.specifier.SpecifierWord.{SpecifierWord}
use Rattle.im_ctree.specs.declared.specifier.SpecifierWord.TheVariants as word
use Rattle.im_ctree.specs.Tree as t
use Rattle.im_ctree.specs.Typedefs.{has_type, typedef_names, names_behind, names_behind_init, names_behind_external}
use Rattle.im_ctree.specs.Units.{predeclared_names}

-- the level of a binary operator, of which 0 binds loosest (C11 6.5.5 to 6.5.14)
abbrev pub operator_level : BinaryOp → ℕ
operator_level Or = 0
operator_level And = 1
operator_level BitOr = 2
operator_level BitXor = 3
operator_level BitAnd = 4
operator_level Equal = 5
operator_level NotEqual = 5
operator_level Less = 6
operator_level Greater = 6
operator_level LessEqual = 6
operator_level GreaterEqual = 6
operator_level ShiftLeft = 7
operator_level ShiftRight = 7
operator_level Add = 8
operator_level Subtract = 8
operator_level Multiply = 9
operator_level Divide = 9
operator_level Remainder = 9

abbrev pub operator_mark : BinaryOp → Punctuator
operator_mark Or = punctuator.OrOr
operator_mark And = punctuator.AndAnd
operator_mark BitOr = punctuator.Bar
operator_mark BitXor = punctuator.Caret
operator_mark BitAnd = punctuator.Ampersand
operator_mark Equal = punctuator.EqualEqual
operator_mark NotEqual = punctuator.NotEqual
operator_mark Less = punctuator.Less
operator_mark Greater = punctuator.Greater
operator_mark LessEqual = punctuator.LessEqual
operator_mark GreaterEqual = punctuator.GreaterEqual
operator_mark ShiftLeft = punctuator.ShiftLeft
operator_mark ShiftRight = punctuator.ShiftRight
operator_mark Add = punctuator.Plus
operator_mark Subtract = punctuator.Minus
operator_mark Multiply = punctuator.Star
operator_mark Divide = punctuator.Slash
operator_mark Remainder = punctuator.Percent

abbrev pub assign_mark : AssignOp → Punctuator
assign_mark op_assign.Plain = punctuator.Assign
assign_mark op_assign.Multiply = punctuator.StarAssign
assign_mark op_assign.Divide = punctuator.SlashAssign
assign_mark op_assign.Remainder = punctuator.PercentAssign
assign_mark op_assign.Add = punctuator.PlusAssign
assign_mark op_assign.Subtract = punctuator.MinusAssign
assign_mark op_assign.ShiftLeft = punctuator.ShiftLeftAssign
assign_mark op_assign.ShiftRight = punctuator.ShiftRightAssign
assign_mark op_assign.BitAnd = punctuator.AndAssign
assign_mark op_assign.BitXor = punctuator.XorAssign
assign_mark op_assign.BitOr = punctuator.OrAssign

abbrev pub step_mark : StepOp → Punctuator
step_mark step.Increment = punctuator.Increment
step_mark step.Decrement = punctuator.Decrement

abbrev pub prefix_mark : UnaryOp → Punctuator
prefix_mark op.AddressOf = punctuator.Ampersand
prefix_mark op.Dereference = punctuator.Star
prefix_mark op.Plus = punctuator.Plus
prefix_mark op.Minus = punctuator.Minus
prefix_mark op.BitNot = punctuator.Tilde
prefix_mark op.Not = punctuator.Exclamation

abbrev pub specifier_keyword : SpecifierWord → Keyword
specifier_keyword word.Typedef = key.Typedef
specifier_keyword word.Extern = key.Extern
specifier_keyword word.Static = key.Static
specifier_keyword word.Const = key.Const
specifier_keyword word.Void = key.Void
specifier_keyword word.Char = key.Char
specifier_keyword word.Short = key.Short
specifier_keyword word.Int = key.Int
specifier_keyword word.Long = key.Long
specifier_keyword word.Signed = key.Signed
specifier_keyword word.Unsigned = key.Unsigned

-- how tightly an expression binds: 0 a comma, 1 an assignment, 2 `?:`, 3 to 12 the binary operators, 13 a cast, 14 a unary
-- one, 15 a postfix one, 16 a primary one (C11 6.5.1 to 6.5.17)
abbrev pub binding : t.Expression → ℕ
binding (t.identifier p n) = 16
binding (t.integer_constant p n) = 16
binding (t.character_constant p c) = 16
binding (t.string_literal p s) = 16
binding (t.index p a b) = 15
binding (t.call p a bs) = 15
binding (t.member_of p a n) = 15
binding (t.arrow_to p a n) = 15
binding (t.post_step p o a) = 15
binding (t.pre_step p o a) = 14
binding (t.unary p o a) = 14
binding (t.size_of_expression p a) = 14
binding (t.size_of_type p n) = 14
binding (t.cast p n a) = 13
binding (t.binary p o a b) = 3 + operator_level o
binding (t.conditional p c a b) = 2
binding (t.assign p o a b) = 1
binding (t.comma p a b) = 0

abbrev pub in_parentheses : List Word → List Word
in_parentheses u = mark punctuator.OpenParen ∷ (u ++ (mark punctuator.CloseParen ∷ []))

-- the words u of an expression where one stands that binds as tightly as n says: in parentheses if it binds more loosely
abbrev pub at_binding : ℕ → t.Expression → List Word → List Word
at_binding n a u = cond (nat_lt (binding a) n) (in_parentheses u) u

abbrev pub consts : ℕ → List Word
consts zero = []
consts (suc n) = keyword key.Const ∷ consts n

abbrev pub stars : List ℕ → List Word
stars [] = []
stars (n ∷ ns) = mark punctuator.Star ∷ (consts n ++ stars ns)

-- whether a name is one of these
abbrev pub is_among : List Name → Name → Bool
is_among [] n = false
is_among (m ∷ ms) n = bytes_eq m n || is_among ms n

-- whether a declarator begins with a typedef name
abbrev pub begins_with_typedef : List Name → t.Declarator → Bool
begins_with_typedef T (t.declarator p [] (t.name_core n) ts) = is_among T n
begins_with_typedef T (t.declarator p [] t.absent_core ts) = false
begins_with_typedef T (t.declarator p [] (t.inner_core d) ts) = false
begins_with_typedef T (t.declarator p (n ∷ ns) c ts) = false

-- The words u of the declarator behind specifiers, of which the Bool says whether a type stands in them: if none does, a typedef
-- name that stood next would be one of them.
abbrev pub behind_specifiers : List Name → Bool → t.Declarator → List Word → List Word
behind_specifiers T typed d u = cond (not typed && begins_with_typedef T d) (in_parentheses u) u

abbrev mutual
  pub expression : List Name → t.Expression → List Word
  expression T (t.identifier p n) = name n ∷ []
  expression T (t.integer_constant p n) = number n ∷ []
  expression T (t.character_constant p c) = character c ∷ []
  expression T (t.string_literal p s) = text s ∷ []
  expression T (t.index p a b) = at_binding 15 a (expression T a) ++ (mark punctuator.OpenBracket ∷ (expression T b ++ (mark punctuator.CloseBracket ∷ [])))
  expression T (t.call p a bs) = at_binding 15 a (expression T a) ++ (mark punctuator.OpenParen ∷ (arguments T bs ++ (mark punctuator.CloseParen ∷ [])))
  expression T (t.member_of p a n) = at_binding 15 a (expression T a) ++ (mark punctuator.Dot ∷ name n ∷ [])
  expression T (t.arrow_to p a n) = at_binding 15 a (expression T a) ++ (mark punctuator.Arrow ∷ name n ∷ [])
  expression T (t.post_step p o a) = at_binding 15 a (expression T a) ++ (mark (step_mark o) ∷ [])
  expression T (t.pre_step p o a) = mark (step_mark o) ∷ at_binding 14 a (expression T a)
  expression T (t.unary p o a) = mark (prefix_mark o) ∷ at_binding 13 a (expression T a)
  expression T (t.size_of_expression p a) = keyword key.Sizeof ∷ at_binding 14 a (expression T a)
  expression T (t.size_of_type p n) = keyword key.Sizeof ∷ mark punctuator.OpenParen ∷ (type_name T n ++ (mark punctuator.CloseParen ∷ []))
  expression T (t.cast p n a) = mark punctuator.OpenParen ∷ (type_name T n ++ (mark punctuator.CloseParen ∷ at_binding 13 a (expression T a)))
  expression T (t.binary p o a b) = at_binding (3 + operator_level o) a (expression T a) ++ (mark (operator_mark o) ∷ at_binding (4 + operator_level o) b (expression T b))
  expression T (t.conditional p c a b) = at_binding 3 c (expression T c) ++ (mark punctuator.Question ∷ (expression T a ++ (mark punctuator.Colon ∷ at_binding 2 b (expression T b))))
  expression T (t.assign p o a b) = at_binding 14 a (expression T a) ++ (mark (assign_mark o) ∷ at_binding 1 b (expression T b))
  expression T (t.comma p a b) = expression T a ++ (mark punctuator.Comma ∷ at_binding 1 b (expression T b))

  pub arguments : List Name → t.Expressions → List Word
  arguments T t.no_expressions = []
  arguments T (t.more_expressions a bs) = at_binding 1 a (expression T a) ++ argument_tail T bs

  pub argument_tail : List Name → t.Expressions → List Word
  argument_tail T t.no_expressions = []
  argument_tail T (t.more_expressions a bs) = mark punctuator.Comma ∷ (at_binding 1 a (expression T a) ++ argument_tail T bs)

  pub specifiers : List Name → t.Specifiers → List Word
  specifiers T (t.specifiers p xs) = specifier_list T xs

  pub specifier_list : List Name → t.SpecifierList → List Word
  specifier_list T t.no_specifiers = []
  specifier_list T (t.more_specifiers x xs) = specifier T x ++ specifier_list T xs

  pub specifier : List Name → t.Specifier → List Word
  specifier T (t.word_specifier p x) = keyword (specifier_keyword x) ∷ []
  specifier T (t.typedef_specifier p n) = name n ∷ []
  specifier T (t.struct_tag p n) = keyword key.Struct ∷ name n ∷ []
  specifier T (t.enum_tag p n) = keyword key.Enum ∷ name n ∷ []
  specifier T (t.struct_specifier p None ms) = keyword key.Struct ∷ mark punctuator.OpenBrace ∷ (members T ms ++ (mark punctuator.CloseBrace ∷ []))
  specifier T (t.struct_specifier p (Some n) ms) = keyword key.Struct ∷ name n ∷ mark punctuator.OpenBrace ∷ (members T ms ++ (mark punctuator.CloseBrace ∷ []))
  specifier T (t.enum_specifier p None es) = keyword key.Enum ∷ mark punctuator.OpenBrace ∷ (enumerators T es ++ (mark punctuator.CloseBrace ∷ []))
  specifier T (t.enum_specifier p (Some n) es) = keyword key.Enum ∷ name n ∷ mark punctuator.OpenBrace ∷ (enumerators T es ++ (mark punctuator.CloseBrace ∷ []))

  pub members : List Name → t.Members → List Word
  members T t.no_members = []
  members T (t.more_members s ds ms) = specifiers T s ++ (declarators T (has_type s) ds ++ (mark punctuator.Semicolon ∷ members T ms))

  -- behind specifiers, of which the Bool says whether a type stands in them
  pub declarators : List Name → Bool → t.Declarators → List Word
  declarators T typed t.no_declarators = []
  declarators T typed (t.more_declarators d ds) = behind_specifiers T typed d (declarator T d) ++ declarator_tail T ds

  pub declarator_tail : List Name → t.Declarators → List Word
  declarator_tail T t.no_declarators = []
  declarator_tail T (t.more_declarators d ds) = mark punctuator.Comma ∷ (declarator T d ++ declarator_tail T ds)

  pub enumerators : List Name → t.Enumerators → List Word
  enumerators T t.no_enumerators = []
  enumerators T (t.more_enumerators p n e es) = name n ∷ (enumerator_value T e ++ enumerator_tail T es)

  pub enumerator_tail : List Name → t.Enumerators → List Word
  enumerator_tail T t.no_enumerators = []
  enumerator_tail T (t.more_enumerators p n e es) = mark punctuator.Comma ∷ (name n ∷ (enumerator_value T e ++ enumerator_tail T es))

  pub enumerator_value : List Name → t.MaybeExpression → List Word
  enumerator_value T t.no_expression = []
  enumerator_value T (t.an_expression e) = mark punctuator.Assign ∷ at_binding 2 e (expression T e)

  pub declarator : List Name → t.Declarator → List Word
  declarator T (t.declarator p ns c ts) = stars ns ++ (core T c ++ suffixes T ts)

  pub core : List Name → t.Core → List Word
  core T t.absent_core = []
  core T (t.name_core n) = name n ∷ []
  core T (t.inner_core d) = mark punctuator.OpenParen ∷ (declarator T d ++ (mark punctuator.CloseParen ∷ []))

  pub suffixes : List Name → t.Suffixes → List Word
  suffixes T t.no_suffixes = []
  suffixes T (t.array_suffix p e ts) = mark punctuator.OpenBracket ∷ (array_length T e ++ (mark punctuator.CloseBracket ∷ suffixes T ts))
  suffixes T (t.function_suffix p qs ts) = mark punctuator.OpenParen ∷ (parameters T qs ++ (mark punctuator.CloseParen ∷ suffixes T ts))

  pub array_length : List Name → t.MaybeExpression → List Word
  array_length T t.no_expression = []
  array_length T (t.an_expression e) = at_binding 2 e (expression T e)

  pub parameters : List Name → t.Parameters → List Word
  parameters T t.no_parameters = []
  parameters T (t.more_parameters s d qs) = specifiers T s ++ (maybe_declarator T d ++ parameter_tail T qs)

  pub parameter_tail : List Name → t.Parameters → List Word
  parameter_tail T t.no_parameters = []
  parameter_tail T (t.more_parameters s d qs) = mark punctuator.Comma ∷ (specifiers T s ++ (maybe_declarator T d ++ parameter_tail T qs))

  pub maybe_declarator : List Name → t.MaybeDeclarator → List Word
  maybe_declarator T t.no_declarator = []
  maybe_declarator T (t.a_declarator d) = declarator T d

  pub type_name : List Name → t.TypeName → List Word
  type_name T (t.type_name s d) = specifiers T s ++ maybe_declarator T d

abbrev mutual
  pub initializer : List Name → t.Initializer → List Word
  initializer T (t.value_initializer e) = at_binding 1 e (expression T e)
  initializer T (t.braced_initializer p xs) = mark punctuator.OpenBrace ∷ (initializers T xs ++ (mark punctuator.CloseBrace ∷ []))

  pub initializers : List Name → t.Initializers → List Word
  initializers T t.no_initializers = []
  initializers T (t.more_initializers x xs) = initializer T x ++ initializer_tail T xs

  pub initializer_tail : List Name → t.Initializers → List Word
  initializer_tail T t.no_initializers = []
  initializer_tail T (t.more_initializers x xs) = mark punctuator.Comma ∷ (initializer T x ++ initializer_tail T xs)

abbrev pub maybe_initializer : List Name → t.MaybeInitializer → List Word
maybe_initializer T t.no_initializer = []
maybe_initializer T (t.an_initializer i) = mark punctuator.Assign ∷ initializer T i

abbrev pub init_declarator_tail : List Name → t.InitDeclarators → List Word
init_declarator_tail T t.no_init_declarators = []
init_declarator_tail T (t.more_init_declarators d i ds) = mark punctuator.Comma ∷ (declarator T d ++ (maybe_initializer T i ++ init_declarator_tail T ds))

-- behind specifiers, of which the Bool says whether a type stands in them
abbrev pub init_declarators : List Name → Bool → t.InitDeclarators → List Word
init_declarators T typed t.no_init_declarators = []
init_declarators T typed (t.more_init_declarators d i ds) = behind_specifiers T typed d (declarator T d) ++ (maybe_initializer T i ++ init_declarator_tail T ds)

abbrev pub declaration : List Name → t.Declaration → List Word
declaration T (t.declaration s ds) = specifiers T s ++ (init_declarators T (has_type s) ds ++ (mark punctuator.Semicolon ∷ []))

abbrev pub maybe_expression : List Name → t.MaybeExpression → List Word
maybe_expression T t.no_expression = []
maybe_expression T (t.an_expression e) = expression T e

abbrev pub for_init : List Name → t.ForInit → List Word
for_init T (t.for_declaration d) = declaration T d
for_init T (t.for_expression e) = maybe_expression T e ++ (mark punctuator.Semicolon ∷ [])

abbrev mutual
  pub statement : List Name → t.Statement → List Word
  statement T (t.block_statement p b) = block T b
  statement T (t.expression_statement p e) = maybe_expression T e ++ (mark punctuator.Semicolon ∷ [])
  statement T (t.if_statement p e s o) = keyword key.If ∷ mark punctuator.OpenParen ∷ (expression T e ++ (mark punctuator.CloseParen ∷ (statement T s ++ else_part (names_behind T s) o)))
  statement T (t.while_statement p e s) = keyword key.While ∷ mark punctuator.OpenParen ∷ (expression T e ++ (mark punctuator.CloseParen ∷ statement T s))
  statement T (t.do_statement p s e) = keyword key.Do ∷ (statement T s ++ (keyword key.While ∷ mark punctuator.OpenParen ∷ (expression (names_behind T s) e ++ (mark punctuator.CloseParen ∷ mark punctuator.Semicolon ∷ []))))
  statement T (t.for_statement p i c n s) = keyword key.For ∷ mark punctuator.OpenParen ∷ (for_init T i ++ (maybe_expression (names_behind_init T i) c ++ (mark punctuator.Semicolon ∷ (maybe_expression (names_behind_init T i) n ++ (mark punctuator.CloseParen ∷ statement (names_behind_init T i) s)))))
  statement T (t.switch_statement p e b) = keyword key.Switch ∷ mark punctuator.OpenParen ∷ (expression T e ++ (mark punctuator.CloseParen ∷ block T b))
  statement T (t.case_statement p e s) = keyword key.Case ∷ (at_binding 2 e (expression T e) ++ (mark punctuator.Colon ∷ statement T s))
  statement T (t.default_statement p s) = keyword key.Default ∷ mark punctuator.Colon ∷ statement T s
  statement T (t.break_statement p) = keyword key.Break ∷ mark punctuator.Semicolon ∷ []
  statement T (t.continue_statement p) = keyword key.Continue ∷ mark punctuator.Semicolon ∷ []
  statement T (t.return_statement p e) = keyword key.Return ∷ (maybe_expression T e ++ (mark punctuator.Semicolon ∷ []))

  pub else_part : List Name → t.MaybeStatement → List Word
  else_part T t.no_statement = []
  else_part T (t.a_statement s) = keyword key.Else ∷ statement T s

  pub block : List Name → t.Block → List Word
  block T (t.block p is) = mark punctuator.OpenBrace ∷ (items T is ++ (mark punctuator.CloseBrace ∷ []))

  pub items : List Name → t.BlockItems → List Word
  items T t.no_items = []
  items T (t.declaration_item d is) = declaration T d ++ items (typedef_names T d) is
  items T (t.statement_item s is) = statement T s ++ items (names_behind T s) is

abbrev pub external : List Name → t.External → List Word
external T (t.external_declaration d) = declaration T d
external T (t.function_definition s d b) = specifiers T s ++ (behind_specifiers T (has_type s) d (declarator T d) ++ block T b)

abbrev pub externals : List Name → t.Tree → List Word
externals T t.no_externals = []
externals T (t.more_externals e rest) = external T e ++ externals (names_behind_external T e) rest

-- the words of a whole tree
abbrev pub words_of : t.Tree → List Word
words_of tree = externals predeclared_names tree
