-- What the constants of a source are, whatever its types: a number is of its type, a character and the byte of a string is at
-- most 255 (C11 6.4.4, 6.4.5). Of type names and declarators the strings alone matter.
use Rattle.std.specs.Prelude.{ℕ, ◌≤◌, List}
use Rattle.im_tok.specs.declared.number.Number.{Number}
use Rattle.im_tok.specs.Numbers.{greatest}
use Rattle.im_word.specs.Words.{Name}
use Rattle.im_ctree.specs.Tree as t
use Rattle.im_typed.specs.Typing.{Each}
use Rattle.im_rules.specs.Strings.{strings_named, strings_of_declarator}

abbrev pub IsOfItsType : Number → Type 0
IsOfItsType n = n.value ≤ greatest n.number_type

abbrev pub AreBytes : Name → Type 0
AreBytes bytes = Each {A = ℕ} (λ b. b ≤ 255) bytes

abbrev pub AllBytes : List Name → Type 0
AllBytes ss = Each {A = Name} AreBytes ss

abbrev mutual
  pub IsWritten : t.Expression → Type 0
  IsWritten (t.identifier at x) = Unit {0}
  IsWritten (t.integer_constant at n) = IsOfItsType n
  IsWritten (t.character_constant at n) = n ≤ 255
  IsWritten (t.string_literal at s) = AreBytes s
  IsWritten (t.index at a b) = IsWritten a × IsWritten b
  IsWritten (t.call at f es) = IsWritten f × AreWritten es
  IsWritten (t.member_of at e x) = IsWritten e
  IsWritten (t.arrow_to at e x) = IsWritten e
  IsWritten (t.post_step at op e) = IsWritten e
  IsWritten (t.pre_step at op e) = IsWritten e
  IsWritten (t.unary at op e) = IsWritten e
  IsWritten (t.size_of_expression at e) = IsWritten e
  IsWritten (t.size_of_type at n) = AllBytes (strings_named n)
  IsWritten (t.cast at n e) = AllBytes (strings_named n) × IsWritten e
  IsWritten (t.binary at op a b) = IsWritten a × IsWritten b
  IsWritten (t.conditional at c a b) = IsWritten c × IsWritten a × IsWritten b
  IsWritten (t.assign at op a b) = IsWritten a × IsWritten b
  IsWritten (t.comma at a b) = IsWritten a × IsWritten b

  pub AreWritten : t.Expressions → Type 0
  AreWritten t.no_expressions = Unit {0}
  AreWritten (t.more_expressions e es) = IsWritten e × AreWritten es

abbrev pub MayBeWritten : t.MaybeExpression → Type 0
MayBeWritten t.no_expression = Unit {0}
MayBeWritten (t.an_expression e) = IsWritten e

abbrev mutual
  pub IsWrittenInitialiser : t.Initializer → Type 0
  IsWrittenInitialiser (t.value_initializer e) = IsWritten e
  IsWrittenInitialiser (t.braced_initializer at is) = AreWrittenInitialisers is

  pub AreWrittenInitialisers : t.Initializers → Type 0
  AreWrittenInitialisers t.no_initializers = Unit {0}
  AreWrittenInitialisers (t.more_initializers i is) = IsWrittenInitialiser i × AreWrittenInitialisers is

abbrev pub MayBeInitialised : t.MaybeInitializer → Type 0
MayBeInitialised t.no_initializer = Unit {0}
MayBeInitialised (t.an_initializer i) = IsWrittenInitialiser i

abbrev pub AreWrittenDeclarators : t.InitDeclarators → Type 0
AreWrittenDeclarators t.no_init_declarators = Unit {0}
AreWrittenDeclarators (t.more_init_declarators d i ds) =
    AllBytes (strings_of_declarator d) × MayBeInitialised i × AreWrittenDeclarators ds

abbrev pub IsWrittenDeclaration : t.Declaration → Type 0
IsWrittenDeclaration (t.declaration s ds) = AreWrittenDeclarators ds

abbrev pub IsWrittenBeginning : t.ForInit → Type 0
IsWrittenBeginning (t.for_declaration d) = IsWrittenDeclaration d
IsWrittenBeginning (t.for_expression e) = MayBeWritten e

abbrev mutual
  pub IsWrittenStatement : t.Statement → Type 0
  IsWrittenStatement (t.block_statement at b) = IsWrittenBlock b
  IsWrittenStatement (t.expression_statement at e) = MayBeWritten e
  IsWrittenStatement (t.if_statement at e a b) = IsWritten e × IsWrittenStatement a × MayBeWrittenStatement b
  IsWrittenStatement (t.while_statement at e a) = IsWritten e × IsWrittenStatement a
  IsWrittenStatement (t.do_statement at a e) = IsWrittenStatement a × IsWritten e
  IsWrittenStatement (t.for_statement at i c n a) = IsWrittenBeginning i × MayBeWritten c × MayBeWritten n × IsWrittenStatement a
  IsWrittenStatement (t.switch_statement at e b) = IsWritten e × IsWrittenBlock b
  IsWrittenStatement (t.case_statement at e a) = IsWritten e × IsWrittenStatement a
  IsWrittenStatement (t.default_statement at a) = IsWrittenStatement a
  IsWrittenStatement (t.break_statement at) = Unit {0}
  IsWrittenStatement (t.continue_statement at) = Unit {0}
  IsWrittenStatement (t.return_statement at e) = MayBeWritten e

  pub MayBeWrittenStatement : t.MaybeStatement → Type 0
  MayBeWrittenStatement t.no_statement = Unit {0}
  MayBeWrittenStatement (t.a_statement a) = IsWrittenStatement a

  pub IsWrittenBlock : t.Block → Type 0
  IsWrittenBlock (t.block at is) = AreWrittenItems is

  pub AreWrittenItems : t.BlockItems → Type 0
  AreWrittenItems t.no_items = Unit {0}
  AreWrittenItems (t.declaration_item d is) = IsWrittenDeclaration d × AreWrittenItems is
  AreWrittenItems (t.statement_item a is) = IsWrittenStatement a × AreWrittenItems is
