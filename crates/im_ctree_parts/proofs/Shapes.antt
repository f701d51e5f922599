-- The rows of a tree are the vectors that they were made of, and its parts are what their fields say.
use Rattle.std.proofs.Common.{◌≡◌, ℕ, List, [], ◌∷◌, Option, Some, None, refl, ap, ◌∙◌, map, Global, Vec, Box}
use Rattle.std.specs.Option.{option_map}
use Rattle.im_ctree.specs.declared.expression.Expression.{Expression}
use Rattle.im_ctree.specs.declared.expression.ExpressionKind as ek
use Rattle.im_ctree.specs.declared.specifier.Specifier.{Specifier}
use Rattle.im_ctree.specs.declared.specifier.Specifiers as ss
use Rattle.im_ctree.specs.declared.specifier.SpecifierKind as sk
use Rattle.im_ctree.specs.declared.specifier.Member as mb
use Rattle.im_ctree.specs.declared.specifier.Enumerator as en
use Rattle.im_ctree.specs.declared.declarator.Declarator as dc
use Rattle.im_ctree.specs.declared.declarator.Suffix.{Suffix}
use Rattle.im_ctree.specs.declared.declarator.SuffixKind as xk
use Rattle.im_ctree.specs.declared.declarator.Parameter as pm
use Rattle.im_ctree.specs.declared.declarator.TypeName as tn
use Rattle.im_ctree.specs.declared.declarator.Core.TheBlock.{hidden-the_row-Expression-1, hidden-the_row-Specifier-6, hidden-the_row-Member-2, hidden-the_row-Enumerator-3, hidden-the_row-Declarator-5, hidden-the_row-Suffix-4, hidden-the_row-Parameter-0}
use Rattle.im_ctree.specs.declared.declaration.Initializer as ini
use Rattle.im_ctree.specs.declared.declaration.Initializer.TheBlock.{hidden-the_row-Initializer-0}
use Rattle.im_ctree.specs.declared.statement.BlockItem.TheBlock.{hidden-the_row-BlockItem-0}
use Rattle.im_ctree.specs.declared.statement.BlockItem as bi
use Rattle.im_ctree.specs.declared.statement.Block as bk
use Rattle.im_ctree.specs.declared.statement.StatementKind as sm
use Rattle.im_ctree.specs.Tree as t
use Rattle.im_ctree.specs.Shape.{expression_of, expressions_of, specifiers_of, specifier_of, specifier_list_of, members_of, enumerators_of, declarators_of, maybe_expression_of, declarator_of, core_of, suffixes_of, parameters_of, maybe_declarator_of, type_name_of, initializer_of, initializers_of, items_of, block_items_of, statement_of, declaration_of}
use Rattle.im_ctree_parts.specs.Lists.{expression_in, expressions_from, maybe_from, list_from, specifiers_in, with_member, members_from, with_enumerator, enumerators_from, declarators_from, declarator_from, stars_in, with_parameter, parameters_from, with_suffix, suffixes_from, initializers_from}

-- expressions

expressions_row : (n : _) (row : ek.Row_of-Expression n) → expressions_of row ≡ expressions_from (ek.items-the_row-Expression n row)
expressions_row _ ek.end_of-Expression = refl
expressions_row _ (ek.more_of-Expression i a xs) = ap (λ z. t.more_expressions (expression_of i a) z) (expressions_row _ xs)

pub expressions_made : (items : Vec Expression Global) → expressions_of (hidden-the_row-Expression-1 items) ≡ expressions_from items.items
expressions_made items = expressions_row _ (hidden-the_row-Expression-1 items) ∙ ap expressions_from (ek.items_hidden-the_row-Expression-1 items)

-- a call, by its callee and its arguments
pub call_tree : (at : ℕ) (f : Box Expression Global) (args : Vec Expression Global) → expression_of at (ek.Call f args) ≡ t.call at (expression_in f.value) (expressions_from args.items)
call_tree at f args = ap (λ z. t.call at (expression_in f.value) z) (expressions_made args)

-- specifiers

specifiers_row : (n : _) (row : ss.Row_of-Specifier n) → specifier_list_of row ≡ list_from (ss.items-the_row-Specifier n row)
specifiers_row _ ss.end_of-Specifier = refl
specifiers_row _ (ss.more_of-Specifier at x xs) = ap (λ z. t.more_specifiers (specifier_of at x) z) (specifiers_row _ xs)

specifiers_made : (items : Vec Specifier Global) → specifier_list_of (hidden-the_row-Specifier-6 items) ≡ list_from items.items
specifiers_made items = specifiers_row _ (hidden-the_row-Specifier-6 items) ∙ ap list_from (ss.items_hidden-the_row-Specifier-6 items)

pub specifiers_shape : (s : ss.Specifiers) → specifiers_of s ≡ specifiers_in s
specifiers_shape s = ap specifiers_of (ss.is-Specifiers' s) ∙ ap (λ z. t.specifiers (ss.out-Specifiers s).at z) (specifiers_made (ss.out-Specifiers s).items)

members_row : (n : _) (row : sk.Row_of-Member n) → members_of row ≡ members_from (sk.items-the_row-Member n row)
members_row _ sk.end_of-Member = refl
members_row _ (sk.more_of-Member (mb.Member' s m ds) xs) = ap (λ z. t.more_members (specifiers_of s) (declarators_of ds) z) (members_row _ xs)

pub members_made : (items : Vec mb.Member Global) → members_of (hidden-the_row-Member-2 items) ≡ members_from items.items
members_made items = members_row _ (hidden-the_row-Member-2 items) ∙ ap members_from (sk.items_hidden-the_row-Member-2 items)

-- a struct, by its tag and its members
pub struct_tree : (at : ℕ) (tag : Option (Vec ℕ Global)) (ms : Vec mb.Member Global) → specifier_of at (sk.Struct tag ms) ≡ t.struct_specifier at (option_map (λ name. name.items) tag) (members_from ms.items)
struct_tree at tag ms = ap (λ z. t.struct_specifier at (option_map (λ name. name.items) tag) z) (members_made ms)

enumerators_row : (n : _) (row : sk.Row_of-Enumerator n) → enumerators_of row ≡ enumerators_from (sk.items-the_row-Enumerator n row)
enumerators_row _ sk.end_of-Enumerator = refl
enumerators_row _ (sk.more_of-Enumerator (en.Enumerator' at n e) xs) = ap (λ z. t.more_enumerators at n.items (maybe_expression_of e) z) (enumerators_row _ xs)

pub enumerators_made : (items : Vec en.Enumerator Global) → enumerators_of (hidden-the_row-Enumerator-3 items) ≡ enumerators_from items.items
enumerators_made items = enumerators_row _ (hidden-the_row-Enumerator-3 items) ∙ ap enumerators_from (sk.items_hidden-the_row-Enumerator-3 items)

-- an enum, by its tag and its enumerators
pub enum_tree : (at : ℕ) (tag : Option (Vec ℕ Global)) (es : Vec en.Enumerator Global) → specifier_of at (sk.Enum tag es) ≡ t.enum_specifier at (option_map (λ name. name.items) tag) (enumerators_from es.items)
enum_tree at tag es = ap (λ z. t.enum_specifier at (option_map (λ name. name.items) tag) z) (enumerators_made es)

pub enumerator_shape : (x : en.Enumerator) (rest : t.Enumerators) → with_enumerator x rest ≡ t.more_enumerators (en.out-Enumerator x).at (en.out-Enumerator x).name.items (maybe_from (en.out-Enumerator x).value) rest
unfolding en.out-Enumerator denote.Hole.Carrier.out
enumerator_shape (en.Enumerator' at n xk.SuffixKind-Array-0-None') rest = refl
enumerator_shape (en.Enumerator' at n (xk.SuffixKind-Array-0-Some' p i a)) rest = refl

-- declarators

declarators_row : (n : _) (row : mb.Row_of-Declarator n) → declarators_of row ≡ declarators_from (mb.items-the_row-Declarator n row)
declarators_row _ mb.end_of-Declarator = refl
declarators_row _ (mb.more_of-Declarator d xs) = ap (λ z. t.more_declarators (declarator_of d) z) (declarators_row _ xs)

pub declarators_made : (items : Vec dc.Declarator Global) → declarators_of (hidden-the_row-Declarator-5 items) ≡ declarators_from items.items
declarators_made items = declarators_row _ (hidden-the_row-Declarator-5 items) ∙ ap declarators_from (mb.items_hidden-the_row-Declarator-5 items)

member_parts : (m : mb.Member) (rest : t.Members) → with_member m rest ≡ t.more_members (specifiers_of (mb.out-Member m).specifiers) (declarators_of (hidden-the_row-Declarator-5 (mb.out-Member m).declarators)) rest
member_parts m rest = ap (λ z. with_member z rest) (mb.is-Member' m)

pub member_shape : (m : mb.Member) (rest : t.Members) → with_member m rest ≡ t.more_members (specifiers_in (mb.out-Member m).specifiers) (declarators_from (mb.out-Member m).declarators.items) rest
member_shape m rest =
    let r = mb.out-Member m in
    member_parts m rest
    ∙ ap (λ z. t.more_members z (declarators_of (hidden-the_row-Declarator-5 r.declarators)) rest) (specifiers_shape r.specifiers)
    ∙ ap (λ z. t.more_members (specifiers_in r.specifiers) z rest) (declarators_made r.declarators)

suffixes_row : (n : _) (row : dc.Row_of-Suffix n) → suffixes_of row ≡ suffixes_from (dc.items-the_row-Suffix n row)
suffixes_row _ dc.end_of-Suffix = refl
suffixes_row _ (dc.more_of-Suffix at (xk.Array' e) xs) = ap (λ z. t.array_suffix at (maybe_expression_of e) z) (suffixes_row _ xs)
suffixes_row _ (dc.more_of-Suffix at (xk.Function' m ps) xs) = ap (λ z. t.function_suffix at (parameters_of ps) z) (suffixes_row _ xs)

suffixes_made : (items : Vec Suffix Global) → suffixes_of (hidden-the_row-Suffix-4 items) ≡ suffixes_from items.items
suffixes_made items = suffixes_row _ (hidden-the_row-Suffix-4 items) ∙ ap suffixes_from (dc.items_hidden-the_row-Suffix-4 items)

pub declarator_shape : (d : dc.Declarator) → declarator_of d ≡ t.declarator (dc.out-Declarator d).at (stars_in (dc.out-Declarator d).stars.items) (core_of (dc.out-Declarator d).core) (suffixes_from (dc.out-Declarator d).suffixes.items)
declarator_shape d =
    ap declarator_of (dc.is-Declarator' d) ∙ ap (λ z. t.declarator (dc.out-Declarator d).at (stars_in (dc.out-Declarator d).stars.items) (core_of (dc.out-Declarator d).core) z) (suffixes_made (dc.out-Declarator d).suffixes)

parameters_row : (n : _) (row : xk.Row_of-Parameter n) → parameters_of row ≡ parameters_from (xk.items-the_row-Parameter n row)
parameters_row _ xk.end_of-Parameter = refl
parameters_row _ (xk.more_of-Parameter (pm.Parameter' s d) xs) = ap (λ z. t.more_parameters (specifiers_of s) (maybe_declarator_of d) z) (parameters_row _ xs)

pub parameters_made : (items : Vec pm.Parameter Global) → parameters_of (hidden-the_row-Parameter-0 items) ≡ parameters_from items.items
parameters_made items = parameters_row _ (hidden-the_row-Parameter-0 items) ∙ ap parameters_from (xk.items_hidden-the_row-Parameter-0 items)

-- a function's suffix, by its parameters
pub function_suffix : (at : ℕ) (ps : Vec pm.Parameter Global) (rest : t.Suffixes) → with_suffix at (xk.Function ps) rest ≡ t.function_suffix at (parameters_from ps.items) rest
function_suffix at ps rest = ap (λ z. t.function_suffix at z rest) (parameters_made ps)

pub parameter_shape : (p : pm.Parameter) (rest : t.Parameters) → with_parameter p rest ≡ t.more_parameters (specifiers_in (pm.out-Parameter p).specifiers) (declarator_from (pm.out-Parameter p).declarator) rest
unfolding pm.out-Parameter denote.Hole.Carrier.out
parameter_shape (pm.Parameter' s pm.Parameter-declarator-None') rest = ap (λ z. t.more_parameters z t.no_declarator rest) (specifiers_shape s)
parameter_shape (pm.Parameter' s (pm.Parameter-declarator-Some' p d)) rest = ap (λ z. t.more_parameters z (t.a_declarator (declarator_of d)) rest) (specifiers_shape s)

pub type_name_shape : (n : tn.TypeName) → type_name_of n ≡ t.type_name (specifiers_in (tn.out-TypeName n).specifiers) (declarator_from (tn.out-TypeName n).declarator)
unfolding tn.out-TypeName denote.Hole.Carrier.out
type_name_shape (tn.TypeName' s pm.Parameter-declarator-None') = ap (λ z. t.type_name z t.no_declarator) (specifiers_shape s)
type_name_shape (tn.TypeName' s (pm.Parameter-declarator-Some' p d)) = ap (λ z. t.type_name z (t.a_declarator (declarator_of d))) (specifiers_shape s)

-- initialisers

initializers_row : (n : _) (row : ini.Row_of-Initializer n) → initializers_of row ≡ initializers_from (ini.items-the_row-Initializer n row)
initializers_row _ ini.end_of-Initializer = refl
initializers_row _ (ini.more_of-Initializer x xs) = ap (λ z. t.more_initializers (initializer_of x) z) (initializers_row _ xs)

pub initializers_made : (items : Vec ini.Initializer Global) → initializers_of (hidden-the_row-Initializer-0 items) ≡ initializers_from items.items
initializers_made items = initializers_row _ (hidden-the_row-Initializer-0 items) ∙ ap initializers_from (ini.items_hidden-the_row-Initializer-0 items)

pub list_tree : (at : ℕ) (is : Vec ini.Initializer Global) → initializer_of (ini.List at is) ≡ t.braced_initializer at (initializers_from is.items)
list_tree at is = ap (λ z. t.braced_initializer at z) (initializers_made is)

-- blocks are records; their items are a row

items_row : (n : _) (row : sm.Row_of-BlockItem n) → items_of row ≡ block_items_of (sm.items-the_row-BlockItem n row)
items_row _ sm.end_of-BlockItem = refl
items_row _ (sm.more_of-BlockItem (bi.Declaration d) xs) = ap (λ z. t.declaration_item (declaration_of d) z) (items_row _ xs)
items_row _ (sm.more_of-BlockItem (bi.Statement' i s) xs) = ap (λ z. t.statement_item (statement_of i s) z) (items_row _ xs)

pub items_made : (items : Vec bi.BlockItem Global) → items_of (hidden-the_row-BlockItem-0 items) ≡ block_items_of items.items
items_made items = items_row _ (hidden-the_row-BlockItem-0 items) ∙ ap block_items_of (sm.items_hidden-the_row-BlockItem-0 items)

pub block_tree : (at : ℕ) (b : bk.Block) → statement_of at (sm.Block b) ≡ t.block_statement at (t.block b.at (block_items_of b.items.items))
block_tree at b = ap (λ z. t.block_statement at (t.block b.at z)) (items_made b.items)

pub switch_tree : (at : ℕ) (e : Expression) (b : bk.Block) → statement_of at (sm.Switch e b) ≡ t.switch_statement at (expression_of e.at e.kind) (t.block b.at (block_items_of b.items.items))
switch_tree at e b = ap (λ z. t.switch_statement at (expression_of e.at e.kind) (t.block b.at z)) (items_made b.items)
