-- The tree that a unit spells, apart from where its parts lie in memory.
-- The first field of an expression, a specifier, specifiers as a whole, an enumerator, a declarator, a suffix, an
-- initialiser in braces, a statement and a block is the number of its first token; other nodes have no such field.
use Rattle.std.specs.Prelude.{ℕ, Bool, true, false, ◌||◌, cond, List, [], ◌∷◌, ◌++◌, Option}
use Rattle.im_tok.specs.declared.number.Number.{Number}
use Rattle.im_word.specs.Words.{Name}
use Rattle.im_ctree.specs.declared.operator.StepOp.{StepOp}
use Rattle.im_ctree.specs.declared.operator.UnaryOp.{UnaryOp}
use Rattle.im_ctree.specs.declared.operator.BinaryOp.{BinaryOp}
use Rattle.im_ctree.specs.declared.operator.AssignOp.{AssignOp}
use Rattle.im_ctree.specs.declared.specifier.SpecifierWord.{SpecifierWord}

mutual
  -- C11 6.5
  pub data Expression : Type 0 where
    identifier : ℕ → Name → Expression
    integer_constant : ℕ → Number → Expression
    character_constant : ℕ → ℕ → Expression
    string_literal : ℕ → Name → Expression
    index : ℕ → Expression → Expression → Expression
    call : ℕ → Expression → Expressions → Expression
    member_of arrow_to : ℕ → Expression → Name → Expression
    post_step pre_step : ℕ → StepOp → Expression → Expression
    unary : ℕ → UnaryOp → Expression → Expression
    size_of_expression : ℕ → Expression → Expression
    size_of_type : ℕ → TypeName → Expression
    cast : ℕ → TypeName → Expression → Expression
    binary : ℕ → BinaryOp → Expression → Expression → Expression
    conditional : ℕ → Expression → Expression → Expression → Expression
    assign : ℕ → AssignOp → Expression → Expression → Expression
    comma : ℕ → Expression → Expression → Expression

  pub data Expressions : Type 0 where
    no_expressions : Expressions
    more_expressions : Expression → Expressions → Expressions

  pub data MaybeExpression : Type 0 where
    no_expression : MaybeExpression
    an_expression : Expression → MaybeExpression

  -- C11 6.7
  pub data Specifiers : Type 0 where
    specifiers : ℕ → SpecifierList → Specifiers

  pub data SpecifierList : Type 0 where
    no_specifiers : SpecifierList
    more_specifiers : Specifier → SpecifierList → SpecifierList

  pub data Specifier : Type 0 where
    word_specifier : ℕ → SpecifierWord → Specifier
    typedef_specifier struct_tag enum_tag : ℕ → Name → Specifier
    struct_specifier : ℕ → Option Name → Members → Specifier
    enum_specifier : ℕ → Option Name → Enumerators → Specifier

  pub data Members : Type 0 where
    no_members : Members
    more_members : Specifiers → Declarators → Members → Members

  pub data Enumerators : Type 0 where
    no_enumerators : Enumerators
    more_enumerators : ℕ → Name → MaybeExpression → Enumerators → Enumerators

  pub data Declarators : Type 0 where
    no_declarators : Declarators
    more_declarators : Declarator → Declarators → Declarators

  -- its stars, each as the number of `const` behind it (C11 6.7.6, 6.7.7)
  pub data Declarator : Type 0 where
    declarator : ℕ → List ℕ → Core → Suffixes → Declarator

  pub data Core : Type 0 where
    absent_core : Core
    name_core : Name → Core
    inner_core : Declarator → Core

  pub data Suffixes : Type 0 where
    no_suffixes : Suffixes
    array_suffix : ℕ → MaybeExpression → Suffixes → Suffixes
    function_suffix : ℕ → Parameters → Suffixes → Suffixes

  pub data MaybeDeclarator : Type 0 where
    no_declarator : MaybeDeclarator
    a_declarator : Declarator → MaybeDeclarator

  pub data Parameters : Type 0 where
    no_parameters : Parameters
    more_parameters : Specifiers → MaybeDeclarator → Parameters → Parameters

  pub data TypeName : Type 0 where
    type_name : Specifiers → MaybeDeclarator → TypeName

abbrev pub append_suffixes : Suffixes → Suffixes → Suffixes
append_suffixes no_suffixes us = us
append_suffixes (array_suffix p e ts) us = array_suffix p e (append_suffixes ts us)
append_suffixes (function_suffix p qs ts) us = function_suffix p qs (append_suffixes ts us)

abbrev pub unsuffixed : Suffixes → Bool
unsuffixed no_suffixes = true
unsuffixed (array_suffix p e ts) = false
unsuffixed (function_suffix p qs ts) = false

abbrev pub unstarred : List ℕ → Bool
unstarred [] = true
unstarred (n ∷ ns) = false

-- A declarator in parentheses, with these stars before them and these suffixes behind. The parentheses are kept only
-- where they change what is declared: where suffixes stand behind them, and stars within.
abbrev pub around : ℕ → List ℕ → Declarator → Suffixes → Declarator
around p ns (declarator q ms c ts) us = cond (unsuffixed us || unstarred ms) (declarator p (ns ++ ms) c (append_suffixes ts us)) (declarator p ns (inner_core (declarator q ms c ts)) us)

mutual
  -- C11 6.7.9
  pub data Initializer : Type 0 where
    value_initializer : Expression → Initializer
    braced_initializer : ℕ → Initializers → Initializer

  pub data Initializers : Type 0 where
    no_initializers : Initializers
    more_initializers : Initializer → Initializers → Initializers

pub data MaybeInitializer : Type 0 where
  no_initializer : MaybeInitializer
  an_initializer : Initializer → MaybeInitializer

pub data InitDeclarators : Type 0 where
  no_init_declarators : InitDeclarators
  more_init_declarators : Declarator → MaybeInitializer → InitDeclarators → InitDeclarators

pub data Declaration : Type 0 where
  declaration : Specifiers → InitDeclarators → Declaration

pub data ForInit : Type 0 where
  for_declaration : Declaration → ForInit
  for_expression : MaybeExpression → ForInit

mutual
  -- C11 6.8
  pub data Statement : Type 0 where
    block_statement : ℕ → Block → Statement
    expression_statement : ℕ → MaybeExpression → Statement
    if_statement : ℕ → Expression → Statement → MaybeStatement → Statement
    while_statement : ℕ → Expression → Statement → Statement
    do_statement : ℕ → Statement → Expression → Statement
    for_statement : ℕ → ForInit → MaybeExpression → MaybeExpression → Statement → Statement
    switch_statement : ℕ → Expression → Block → Statement
    case_statement : ℕ → Expression → Statement → Statement
    default_statement : ℕ → Statement → Statement
    break_statement continue_statement : ℕ → Statement
    return_statement : ℕ → MaybeExpression → Statement

  pub data MaybeStatement : Type 0 where
    no_statement : MaybeStatement
    a_statement : Statement → MaybeStatement

  pub data Block : Type 0 where
    block : ℕ → BlockItems → Block

  pub data BlockItems : Type 0 where
    no_items : BlockItems
    declaration_item : Declaration → BlockItems → BlockItems
    statement_item : Statement → BlockItems → BlockItems

-- C11 6.9
pub data External : Type 0 where
  external_declaration : Declaration → External
  function_definition : Specifiers → Declarator → Block → External

pub data Tree : Type 0 where
  no_externals : Tree
  more_externals : External → Tree → Tree
