-- The tree that a Rust tree stands for.
use Rattle.std.specs.Prelude.{ℕ, List, [], ◌∷◌, map, Option, Some, None}
use Rattle.std.specs.Option.{option_map}
use Rattle.im_ctree.specs.declared.expression.ExpressionKind as r
use Rattle.im_ctree.specs.declared.specifier.SpecifierKind as sk
use Rattle.im_ctree.specs.declared.specifier.Specifiers as ss
use Rattle.im_ctree.specs.declared.specifier.Member as mb
use Rattle.im_ctree.specs.declared.specifier.Enumerator as en
use Rattle.im_ctree.specs.declared.declarator.Declarator as dc
use Rattle.im_ctree.specs.declared.declarator.Core as co
use Rattle.im_ctree.specs.declared.declarator.SuffixKind as xk
use Rattle.im_ctree.specs.declared.declarator.Parameter as pm
use Rattle.im_ctree.specs.declared.declarator.TypeName as tn
use Rattle.im_ctree.specs.declared.declaration.Initializer as ini
use Rattle.im_ctree.specs.declared.declaration.InitDeclarator.{InitDeclarator}
use Rattle.im_ctree.specs.declared.declaration.Declaration.{Declaration}
use Rattle.im_ctree.specs.declared.expression.Expression.{Expression}
use Rattle.im_ctree.specs.declared.statement.StatementKind as sk'
use Rattle.im_ctree.specs.declared.statement.BlockItem as bi
use Rattle.im_ctree.specs.declared.statement.ForInit.{ForInit}
use Rattle.im_ctree.specs.declared.statement.ForInit.TheVariants as fi
use Rattle.im_ctree.specs.declared.unit.External.{External}
use Rattle.im_ctree.specs.declared.unit.External.TheVariants as ext
use Rattle.im_ctree.specs.declared.unit.Tree.{Tree}
use Rattle.im_ctree.specs.Tree as t

abbrev mutual
  pub expression_of : ℕ → r.ExpressionKind → t.Expression
  expression_of at (r.Identifier n) = t.identifier at n.items
  expression_of at (r.Number n) = t.integer_constant at n
  expression_of at (r.Character c) = t.character_constant at c
  expression_of at (r.Text s) = t.string_literal at s.items
  expression_of at (r.Index' p i a q j b) = t.index at (expression_of i a) (expression_of j b)
  expression_of at (r.Call' p i f m xs) = t.call at (expression_of i f) (expressions_of xs)
  expression_of at (r.Member' p i a n) = t.member_of at (expression_of i a) n.items
  expression_of at (r.Arrow' p i a n) = t.arrow_to at (expression_of i a) n.items
  expression_of at (r.PostStep' o p i a) = t.post_step at o (expression_of i a)
  expression_of at (r.PreStep' o p i a) = t.pre_step at o (expression_of i a)
  expression_of at (r.Unary' o p i a) = t.unary at o (expression_of i a)
  expression_of at (r.SizeOfExpression' p i a) = t.size_of_expression at (expression_of i a)
  expression_of at (r.SizeOfType' p n) = t.size_of_type at (type_name_of n)
  expression_of at (r.Cast' p n q i a) = t.cast at (type_name_of n) (expression_of i a)
  expression_of at (r.Binary' o p i a q j b) = t.binary at o (expression_of i a) (expression_of j b)
  expression_of at (r.Conditional' p i a q j b s k c) = t.conditional at (expression_of i a) (expression_of j b) (expression_of k c)
  expression_of at (r.Assign' o p i a q j b) = t.assign at o (expression_of i a) (expression_of j b)
  expression_of at (r.Comma' p i a q j b) = t.comma at (expression_of i a) (expression_of j b)

  pub expressions_of : {m : _} → r.Row_of-Expression m → t.Expressions
  expressions_of r.end_of-Expression = t.no_expressions
  expressions_of (r.more_of-Expression i a xs) = t.more_expressions (expression_of i a) (expressions_of xs)

  pub maybe_expression_of : xk.Held-SuffixKind-Array-0 → t.MaybeExpression
  maybe_expression_of xk.SuffixKind-Array-0-None' = t.no_expression
  maybe_expression_of (xk.SuffixKind-Array-0-Some' p i a) = t.an_expression (expression_of i a)

  pub specifiers_of : ss.Specifiers → t.Specifiers
  specifiers_of (ss.Specifiers' at m xs) = t.specifiers at (specifier_list_of xs)

  pub specifier_list_of : {m : _} → ss.Row_of-Specifier m → t.SpecifierList
  specifier_list_of ss.end_of-Specifier = t.no_specifiers
  specifier_list_of (ss.more_of-Specifier at x xs) = t.more_specifiers (specifier_of at x) (specifier_list_of xs)

  pub specifier_of : ℕ → sk.SpecifierKind → t.Specifier
  specifier_of at (sk.Word w) = t.word_specifier at w
  specifier_of at (sk.TypedefName n) = t.typedef_specifier at n.items
  specifier_of at (sk.Struct' n m xs) = t.struct_specifier at (option_map (λ name. name.items) n) (members_of xs)
  specifier_of at (sk.StructTag n) = t.struct_tag at n.items
  specifier_of at (sk.Enum' n m xs) = t.enum_specifier at (option_map (λ name. name.items) n) (enumerators_of xs)
  specifier_of at (sk.EnumTag n) = t.enum_tag at n.items

  pub members_of : {m : _} → sk.Row_of-Member m → t.Members
  members_of sk.end_of-Member = t.no_members
  members_of (sk.more_of-Member (mb.Member' s m ds) xs) = t.more_members (specifiers_of s) (declarators_of ds) (members_of xs)

  pub enumerators_of : {m : _} → sk.Row_of-Enumerator m → t.Enumerators
  enumerators_of sk.end_of-Enumerator = t.no_enumerators
  enumerators_of (sk.more_of-Enumerator (en.Enumerator' at n e) xs) = t.more_enumerators at n.items (maybe_expression_of e) (enumerators_of xs)

  pub declarators_of : {m : _} → mb.Row_of-Declarator m → t.Declarators
  declarators_of mb.end_of-Declarator = t.no_declarators
  declarators_of (mb.more_of-Declarator d xs) = t.more_declarators (declarator_of d) (declarators_of xs)

  pub declarator_of : dc.Declarator → t.Declarator
  declarator_of (dc.Declarator' at stars c m xs) = t.declarator at (map (λ star. star.consts) stars.items) (core_of c) (suffixes_of xs)

  pub core_of : co.Core → t.Core
  core_of co.Absent = t.absent_core
  core_of (co.Name n) = t.name_core n.items
  core_of (co.Inner' p d) = t.inner_core (declarator_of d)

  pub suffixes_of : {m : _} → dc.Row_of-Suffix m → t.Suffixes
  suffixes_of dc.end_of-Suffix = t.no_suffixes
  suffixes_of (dc.more_of-Suffix at (xk.Array' e) xs) = t.array_suffix at (maybe_expression_of e) (suffixes_of xs)
  suffixes_of (dc.more_of-Suffix at (xk.Function' m ps) xs) = t.function_suffix at (parameters_of ps) (suffixes_of xs)

  pub parameters_of : {m : _} → xk.Row_of-Parameter m → t.Parameters
  parameters_of xk.end_of-Parameter = t.no_parameters
  parameters_of (xk.more_of-Parameter (pm.Parameter' s d) xs) = t.more_parameters (specifiers_of s) (maybe_declarator_of d) (parameters_of xs)

  pub maybe_declarator_of : pm.Held-Parameter-declarator → t.MaybeDeclarator
  maybe_declarator_of pm.Parameter-declarator-None' = t.no_declarator
  maybe_declarator_of (pm.Parameter-declarator-Some' p d) = t.a_declarator (declarator_of d)

  pub type_name_of : tn.TypeName → t.TypeName
  type_name_of (tn.TypeName' s d) = t.type_name (specifiers_of s) (maybe_declarator_of d)

abbrev mutual
  pub initializer_of : ini.Initializer → t.Initializer
  initializer_of (ini.Value e) = t.value_initializer (expression_of e.at e.kind)
  initializer_of (ini.List' at m xs) = t.braced_initializer at (initializers_of xs)

  pub initializers_of : {m : _} → ini.Row_of-Initializer m → t.Initializers
  initializers_of ini.end_of-Initializer = t.no_initializers
  initializers_of (ini.more_of-Initializer x xs) = t.more_initializers (initializer_of x) (initializers_of xs)

abbrev pub maybe_initializer_of : Option ini.Initializer → t.MaybeInitializer
maybe_initializer_of None = t.no_initializer
maybe_initializer_of (Some i) = t.an_initializer (initializer_of i)

abbrev pub init_declarators_of : List InitDeclarator → t.InitDeclarators
init_declarators_of [] = t.no_init_declarators
init_declarators_of (x ∷ xs) = t.more_init_declarators (declarator_of x.declarator) (maybe_initializer_of x.initializer) (init_declarators_of xs)

abbrev pub declaration_of : Declaration → t.Declaration
declaration_of d = t.declaration (specifiers_of d.specifiers) (init_declarators_of d.declarators.items)

abbrev pub optional_expression_of : Option Expression → t.MaybeExpression
optional_expression_of None = t.no_expression
optional_expression_of (Some e) = t.an_expression (expression_of e.at e.kind)

abbrev pub for_init_of : ForInit → t.ForInit
for_init_of (fi.Declaration d) = t.for_declaration (declaration_of d)
for_init_of (fi.Expression e) = t.for_expression (optional_expression_of e)

abbrev mutual
  pub statement_of : ℕ → sk'.StatementKind → t.Statement
  statement_of at (sk'.Block' b m xs) = t.block_statement at (t.block b (items_of xs))
  statement_of at (sk'.Expression e) = t.expression_statement at (optional_expression_of e)
  statement_of at (sk'.If' e p i s o) = t.if_statement at (expression_of e.at e.kind) (statement_of i s) (maybe_statement_of o)
  statement_of at (sk'.While' e p i s) = t.while_statement at (expression_of e.at e.kind) (statement_of i s)
  statement_of at (sk'.DoWhile' p i s e) = t.do_statement at (statement_of i s) (expression_of e.at e.kind)
  statement_of at (sk'.For' f c n p i s) = t.for_statement at (for_init_of f) (optional_expression_of c) (optional_expression_of n) (statement_of i s)
  statement_of at (sk'.Switch' e b m xs) = t.switch_statement at (expression_of e.at e.kind) (t.block b (items_of xs))
  statement_of at (sk'.Case' e p i s) = t.case_statement at (expression_of e.at e.kind) (statement_of i s)
  statement_of at (sk'.Default' p i s) = t.default_statement at (statement_of i s)
  statement_of at sk'.Break = t.break_statement at
  statement_of at sk'.Continue = t.continue_statement at
  statement_of at (sk'.Return e) = t.return_statement at (optional_expression_of e)

  pub maybe_statement_of : sk'.Held-StatementKind-If-2 → t.MaybeStatement
  maybe_statement_of sk'.None' = t.no_statement
  maybe_statement_of (sk'.Some' p i s) = t.a_statement (statement_of i s)

  pub items_of : {m : _} → sk'.Row_of-BlockItem m → t.BlockItems
  items_of sk'.end_of-BlockItem = t.no_items
  items_of (sk'.more_of-BlockItem (bi.Declaration d) xs) = t.declaration_item (declaration_of d) (items_of xs)
  items_of (sk'.more_of-BlockItem (bi.Statement' i s) xs) = t.statement_item (statement_of i s) (items_of xs)

abbrev pub block_items_of : List bi.BlockItem → t.BlockItems
block_items_of [] = t.no_items
block_items_of (bi.Declaration d ∷ xs) = t.declaration_item (declaration_of d) (block_items_of xs)
block_items_of (bi.Statement' i s ∷ xs) = t.statement_item (statement_of i s) (block_items_of xs)

abbrev pub external_of : External → t.External
external_of (ext.Declaration d) = t.external_declaration (declaration_of d)
external_of (ext.Function f) = t.function_definition (specifiers_of f.specifiers) (declarator_of f.declarator) (t.block f.body.at (block_items_of f.body.items.items))

abbrev pub externals_of : List External → t.Tree
externals_of [] = t.no_externals
externals_of (x ∷ xs) = t.more_externals (external_of x) (externals_of xs)

abbrev pub tree_of : Tree → t.Tree
tree_of unit = externals_of unit.externals.items
