-- Parts of trees as lists.
use Rattle.std.specs.Prelude.{ℕ, List, [], ◌∷◌, map, Option, Some, None, Box}
use Rattle.std.specs.Global.{Global}
use Rattle.std.specs.Option.{option_map}
use Rattle.im_ctree.specs.declared.expression.Expression.{Expression}
use Rattle.im_ctree.specs.declared.specifier.Specifier.{Specifier}
use Rattle.im_ctree.specs.declared.specifier.Specifiers as ss
use Rattle.im_ctree.specs.declared.specifier.Member as mb
use Rattle.im_ctree.specs.declared.specifier.Enumerator as en
use Rattle.im_ctree.specs.declared.declarator.Declarator as dc
use Rattle.im_ctree.specs.declared.declarator.Star.{Star}
use Rattle.im_ctree.specs.declared.declarator.Suffix.{Suffix}
use Rattle.im_ctree.specs.declared.declarator.SuffixKind as xk
use Rattle.im_ctree.specs.declared.declarator.Parameter as pm
use Rattle.im_ctree.specs.declared.declaration.Initializer.{Initializer}
use Rattle.im_ctree.specs.declared.statement.Statement.{Statement}
use Rattle.im_ctree.specs.declared.statement.BlockItem as bi
use Rattle.im_ctree.specs.Tree as t
use Rattle.im_ctree.specs.Shape.{expression_of, maybe_expression_of, specifier_of, specifiers_of, declarators_of, declarator_of, parameters_of, maybe_declarator_of, initializer_of, statement_of, declaration_of}

abbrev pub expression_in : Expression → t.Expression
expression_in e = expression_of e.at e.kind

abbrev pub expressions_from : List Expression → t.Expressions
expressions_from [] = t.no_expressions
expressions_from (e ∷ es) = t.more_expressions (expression_in e) (expressions_from es)

abbrev pub maybe_from : Option (Box Expression Global) → t.MaybeExpression
maybe_from None = t.no_expression
maybe_from (Some b) = t.an_expression (expression_in b.value)

-- specifiers

abbrev pub specifier_in : Specifier → t.Specifier
specifier_in s = specifier_of s.at s.kind

abbrev pub list_from : List Specifier → t.SpecifierList
list_from [] = t.no_specifiers
list_from (s ∷ ss) = t.more_specifiers (specifier_in s) (list_from ss)

-- those of a specifiers' record
abbrev pub specifiers_in : ss.Specifiers → t.Specifiers
specifiers_in s = t.specifiers (ss.out-Specifiers s).at (list_from (ss.out-Specifiers s).items.items)

abbrev pub with_member : mb.Member → t.Members → t.Members
with_member (mb.Member' s m ds) rest = t.more_members (specifiers_of s) (declarators_of ds) rest

abbrev pub members_from : List mb.Member → t.Members
members_from [] = t.no_members
members_from (m ∷ ms) = with_member m (members_from ms)

abbrev pub with_enumerator : en.Enumerator → t.Enumerators → t.Enumerators
with_enumerator (en.Enumerator' at n e) rest = t.more_enumerators at n.items (maybe_expression_of e) rest

abbrev pub enumerators_from : List en.Enumerator → t.Enumerators
enumerators_from [] = t.no_enumerators
enumerators_from (e ∷ es) = with_enumerator e (enumerators_from es)

-- declarators

abbrev pub declarators_from : List dc.Declarator → t.Declarators
declarators_from [] = t.no_declarators
declarators_from (d ∷ ds) = t.more_declarators (declarator_of d) (declarators_from ds)

abbrev pub declarator_from : Option (Box dc.Declarator Global) → t.MaybeDeclarator
declarator_from None = t.no_declarator
declarator_from (Some b) = t.a_declarator (declarator_of b.value)

abbrev pub stars_in : List Star → List ℕ
stars_in xs = map (λ star. star.consts) xs

abbrev pub with_parameter : pm.Parameter → t.Parameters → t.Parameters
with_parameter (pm.Parameter' s d) rest = t.more_parameters (specifiers_of s) (maybe_declarator_of d) rest

abbrev pub parameters_from : List pm.Parameter → t.Parameters
parameters_from [] = t.no_parameters
parameters_from (p ∷ ps) = with_parameter p (parameters_from ps)

abbrev pub with_suffix : ℕ → xk.SuffixKind → t.Suffixes → t.Suffixes
with_suffix at (xk.Array' e) rest = t.array_suffix at (maybe_expression_of e) rest
with_suffix at (xk.Function' m ps) rest = t.function_suffix at (parameters_of ps) rest

abbrev pub suffixes_from : List Suffix → t.Suffixes
suffixes_from [] = t.no_suffixes
suffixes_from (s ∷ ss) = with_suffix s.at s.kind (suffixes_from ss)

-- initialisers and statements

abbrev pub initializers_from : List Initializer → t.Initializers
initializers_from [] = t.no_initializers
initializers_from (i ∷ is) = t.more_initializers (initializer_of i) (initializers_from is)

abbrev pub statement_in : Statement → t.Statement
statement_in s = statement_of s.at s.kind

abbrev pub with_item : bi.BlockItem → t.BlockItems → t.BlockItems
with_item (bi.Declaration d) rest = t.declaration_item (declaration_of d) rest
with_item (bi.Statement' i s) rest = t.statement_item (statement_of i s) rest
