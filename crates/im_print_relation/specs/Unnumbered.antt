-- A tree with 0 for the number of each token: two trees are the same but for these numbers where they are equal without them.
use Rattle.im_ctree.specs.Tree as t

abbrev mutual
  pub expression : t.Expression → t.Expression
  expression (t.identifier p n) = t.identifier 0 n
  expression (t.integer_constant p n) = t.integer_constant 0 n
  expression (t.character_constant p c) = t.character_constant 0 c
  expression (t.string_literal p s) = t.string_literal 0 s
  expression (t.index p a b) = t.index 0 (expression a) (expression b)
  expression (t.call p a bs) = t.call 0 (expression a) (expressions bs)
  expression (t.member_of p a n) = t.member_of 0 (expression a) n
  expression (t.arrow_to p a n) = t.arrow_to 0 (expression a) n
  expression (t.post_step p o a) = t.post_step 0 o (expression a)
  expression (t.pre_step p o a) = t.pre_step 0 o (expression a)
  expression (t.unary p o a) = t.unary 0 o (expression a)
  expression (t.size_of_expression p a) = t.size_of_expression 0 (expression a)
  expression (t.size_of_type p n) = t.size_of_type 0 (type_name n)
  expression (t.cast p n a) = t.cast 0 (type_name n) (expression a)
  expression (t.binary p o a b) = t.binary 0 o (expression a) (expression b)
  expression (t.conditional p c a b) = t.conditional 0 (expression c) (expression a) (expression b)
  expression (t.assign p o a b) = t.assign 0 o (expression a) (expression b)
  expression (t.comma p a b) = t.comma 0 (expression a) (expression b)

  pub expressions : t.Expressions → t.Expressions
  expressions t.no_expressions = t.no_expressions
  expressions (t.more_expressions a bs) = t.more_expressions (expression a) (expressions bs)

  pub maybe_expression : t.MaybeExpression → t.MaybeExpression
  maybe_expression t.no_expression = t.no_expression
  maybe_expression (t.an_expression e) = t.an_expression (expression e)

  pub specifiers : t.Specifiers → t.Specifiers
  specifiers (t.specifiers p xs) = t.specifiers 0 (specifier_list xs)

  pub specifier_list : t.SpecifierList → t.SpecifierList
  specifier_list t.no_specifiers = t.no_specifiers
  specifier_list (t.more_specifiers x xs) = t.more_specifiers (specifier x) (specifier_list xs)

  pub specifier : t.Specifier → t.Specifier
  specifier (t.word_specifier p x) = t.word_specifier 0 x
  specifier (t.typedef_specifier p n) = t.typedef_specifier 0 n
  specifier (t.struct_tag p n) = t.struct_tag 0 n
  specifier (t.enum_tag p n) = t.enum_tag 0 n
  specifier (t.struct_specifier p n ms) = t.struct_specifier 0 n (members ms)
  specifier (t.enum_specifier p n es) = t.enum_specifier 0 n (enumerators es)

  pub members : t.Members → t.Members
  members t.no_members = t.no_members
  members (t.more_members s ds ms) = t.more_members (specifiers s) (declarators ds) (members ms)

  pub enumerators : t.Enumerators → t.Enumerators
  enumerators t.no_enumerators = t.no_enumerators
  enumerators (t.more_enumerators p n e es) = t.more_enumerators 0 n (maybe_expression e) (enumerators es)

  pub declarators : t.Declarators → t.Declarators
  declarators t.no_declarators = t.no_declarators
  declarators (t.more_declarators d ds) = t.more_declarators (declarator d) (declarators ds)

  pub declarator : t.Declarator → t.Declarator
  declarator (t.declarator p ns c ts) = t.declarator 0 ns (core c) (suffixes ts)

  pub core : t.Core → t.Core
  core t.absent_core = t.absent_core
  core (t.name_core n) = t.name_core n
  core (t.inner_core d) = t.inner_core (declarator d)

  pub suffixes : t.Suffixes → t.Suffixes
  suffixes t.no_suffixes = t.no_suffixes
  suffixes (t.array_suffix p e ts) = t.array_suffix 0 (maybe_expression e) (suffixes ts)
  suffixes (t.function_suffix p qs ts) = t.function_suffix 0 (parameters qs) (suffixes ts)

  pub maybe_declarator : t.MaybeDeclarator → t.MaybeDeclarator
  maybe_declarator t.no_declarator = t.no_declarator
  maybe_declarator (t.a_declarator d) = t.a_declarator (declarator d)

  pub parameters : t.Parameters → t.Parameters
  parameters t.no_parameters = t.no_parameters
  parameters (t.more_parameters s d qs) = t.more_parameters (specifiers s) (maybe_declarator d) (parameters qs)

  pub type_name : t.TypeName → t.TypeName
  type_name (t.type_name s d) = t.type_name (specifiers s) (maybe_declarator d)

abbrev mutual
  pub initializer : t.Initializer → t.Initializer
  initializer (t.value_initializer e) = t.value_initializer (expression e)
  initializer (t.braced_initializer p xs) = t.braced_initializer 0 (initializers xs)

  pub initializers : t.Initializers → t.Initializers
  initializers t.no_initializers = t.no_initializers
  initializers (t.more_initializers x xs) = t.more_initializers (initializer x) (initializers xs)

abbrev pub maybe_initializer : t.MaybeInitializer → t.MaybeInitializer
maybe_initializer t.no_initializer = t.no_initializer
maybe_initializer (t.an_initializer i) = t.an_initializer (initializer i)

abbrev pub init_declarators : t.InitDeclarators → t.InitDeclarators
init_declarators t.no_init_declarators = t.no_init_declarators
init_declarators (t.more_init_declarators d i ds) = t.more_init_declarators (declarator d) (maybe_initializer i) (init_declarators ds)

abbrev pub declaration : t.Declaration → t.Declaration
declaration (t.declaration s ds) = t.declaration (specifiers s) (init_declarators ds)

abbrev pub for_init : t.ForInit → t.ForInit
for_init (t.for_declaration d) = t.for_declaration (declaration d)
for_init (t.for_expression e) = t.for_expression (maybe_expression e)

abbrev mutual
  pub statement : t.Statement → t.Statement
  statement (t.block_statement p b) = t.block_statement 0 (block b)
  statement (t.expression_statement p e) = t.expression_statement 0 (maybe_expression e)
  statement (t.if_statement p e s o) = t.if_statement 0 (expression e) (statement s) (maybe_statement o)
  statement (t.while_statement p e s) = t.while_statement 0 (expression e) (statement s)
  statement (t.do_statement p s e) = t.do_statement 0 (statement s) (expression e)
  statement (t.for_statement p i c n s) = t.for_statement 0 (for_init i) (maybe_expression c) (maybe_expression n) (statement s)
  statement (t.switch_statement p e b) = t.switch_statement 0 (expression e) (block b)
  statement (t.case_statement p e s) = t.case_statement 0 (expression e) (statement s)
  statement (t.default_statement p s) = t.default_statement 0 (statement s)
  statement (t.break_statement p) = t.break_statement 0
  statement (t.continue_statement p) = t.continue_statement 0
  statement (t.return_statement p e) = t.return_statement 0 (maybe_expression e)

  pub maybe_statement : t.MaybeStatement → t.MaybeStatement
  maybe_statement t.no_statement = t.no_statement
  maybe_statement (t.a_statement s) = t.a_statement (statement s)

  pub block : t.Block → t.Block
  block (t.block p is) = t.block 0 (items is)

  pub items : t.BlockItems → t.BlockItems
  items t.no_items = t.no_items
  items (t.declaration_item d is) = t.declaration_item (declaration d) (items is)
  items (t.statement_item s is) = t.statement_item (statement s) (items is)

abbrev pub external : t.External → t.External
external (t.external_declaration d) = t.external_declaration (declaration d)
external (t.function_definition s d b) = t.function_definition (specifiers s) (declarator d) (block b)

-- a whole tree
abbrev pub unnumbered : t.Tree → t.Tree
unnumbered t.no_externals = t.no_externals
unnumbered (t.more_externals e rest) = t.more_externals (external e) (unnumbered rest)
