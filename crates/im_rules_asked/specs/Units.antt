-- What a unit is typed to, and what the rules ask of it (C11 6.9): external declarations one behind the other, each in what
-- stands before it.
use Rattle.std.specs.Prelude.{◌≡◌, ℕ, ℤ, pos, ◌+ℤ◌, false, true, List, [], ◌∷◌, ◌++◌, length, Option, Some}
use Rattle.im_rules.specs.im_word.Words.{Name}
use Rattle.im_rules.specs.im_ctree.declared.specifier.SpecifierWord.{SpecifierWord}
use Rattle.im_rules.specs.im_ctree.Tree as t
use Rattle.im_rules.specs.im_ctype.declared.integer.Integer.TheVariants.{Int}
use Rattle.im_rules.specs.im_ctype.Types.{CType, integer, struct, Member}
use Rattle.im_rules.specs.im_typed.Program.{Func, Prog}
use Rattle.im_rules.specs.TypeTests.{result_of}
use Rattle.im_rules.specs.Rules.{named_in, keywords_in}
use Rattle.im_rules.specs.Strings.{strings_of_declarator, strings_maybe}
use Rattle.im_rules.specs.Outline.{nearest, is_initialised}
use Rattle.im_rules.specs.Context.{Context, in_new_scope}
use Rattle.im_rules.specs.Terms.{constant_in}
use Rattle.im_rules.specs.Declared.{Qualified, Declared, has_const, with_const, specified, specified_asks, tags_in, parameters_of}
use Rattle.im_rules.specs.Initialisers.{Item, completed, strings_given}
use Rattle.im_rules.specs.Statements.{Site, name_of as name_in}
use Rattle.im_rules.specs.BodyBreaks.{declarator_token}
use Rattle.im_rules.specs.StaticValues.{constant_asks, item_token}
use Rattle.im_rules.specs.FileScope.{FilePlace, in_place, past_strings, file_start, file_asks, own_parameters, body_asks, Level, of_the_file, of_members, level_asks, with_list_begun, struct_asks, with_struct, member_asks, member_of, enum_asks, number_in, enumerator_asks, with_enumerator, with_enum_tag, main_asks, static_size}
use Rattle.im_rules.specs.TypedUnit.{FirstValues, given_strings, values_given, past_declarator, body_site, function_made, past_head, program}
use Rattle.im_rules_asked.specs.Asked.{Asked, IsRight, HasFault, Fault, first_fault, node, sized, beside, behind, one, both, first_then, only, leaf, nothing_asked, without_sizes}
use Rattle.im_rules_asked.specs.Expressions.{term, asked, declared, declarator_asked, parameters, parameters_asked}
use Rattle.im_rules_asked.specs.Initialisers.{items, items_asked}
use Rattle.im_rules_asked.specs.Statements.{Row, row, row_asked}
use Rattle.im_rules_asked.specs.Sizes.{counted, struct_counted}

-- enumeration constants

-- the number of one: that before it and 1 where none is written (C11 6.7.2.2p3)
abbrev pub number_of : Context → ℤ → t.MaybeExpression → Option ℤ
number_of c next t.no_expression = Some next
number_of c next (t.an_expression e) = constant_in (term c e)

abbrev pub number_asked : Context → t.MaybeExpression → Asked
number_asked c t.no_expression = nothing_asked
number_asked c (t.an_expression e) = asked c e

-- each is in scope behind itself (C11 6.2.1p7)
abbrev pub past_enumerator : FilePlace → ℤ → Name → t.MaybeExpression → FilePlace
past_enumerator f next x e = with_enumerator x (number_of f.context next e) e (past_strings (strings_maybe e) f)

-- the place behind enumeration constants
abbrev pub enumerators : FilePlace → ℤ → t.Enumerators → FilePlace
enumerators f next t.no_enumerators = f
enumerators f next (t.more_enumerators at x e es) = enumerators (past_enumerator f next x e) (number_in (number_of f.context next e) +ℤ pos 1) es

abbrev pub enumerators_asked : FilePlace → ℤ → t.Enumerators → Asked
enumerators_asked f next t.no_enumerators = nothing_asked
enumerators_asked f next (t.more_enumerators at x e es) =
    only (first_then (number_asked f.context e)
    (only (both (leaf at (enumerator_asks f.context.scopes x (number_of f.context next e)))
    (enumerators_asked (past_enumerator f next x e) (number_in (number_of f.context next e) +ℤ pos 1) es))))

-- members

-- the type that specifiers name, and the place behind them
pub record Specified : Type 0 where
  pub type : Qualified
  pub place : FilePlace

-- members, and the place behind them
pub record Fields : Type 0 where
  pub members : List Member
  pub place : FilePlace

abbrev pub before_field : Member → Fields → Fields
before_field m k = record { members = m ∷ k.members; place = k.place }

abbrev pub before_fields : List Member → Fields → Fields
before_fields ms k = record { members = ms ++ k.members; place = k.place }

-- the declarators of one declaration of members
abbrev pub fields : Qualified → FilePlace → t.Declarators → Fields
fields q f t.no_declarators = record { members = []; place = f }
fields q f (t.more_declarators d ds) = before_field (member_of (declared f.context q d)) (fields q (past_strings (strings_of_declarator d) f) ds)

abbrev pub fields_asked : Qualified → FilePlace → t.Declarators → Asked
fields_asked q f t.no_declarators = nothing_asked
fields_asked q f (t.more_declarators d ds) =
    only (both (node (declarator_token d) (member_asks f.context.known (declared f.context q d)) (one (declarator_asked f.context q d)))
    (fields_asked q (past_strings (strings_of_declarator d) f) ds))

-- specifiers of a declaration at file scope or of a member

abbrev pub constant_if_said : t.SpecifierList → Specified → Specified
constant_if_said xs s = record s { type = with_const (has_const xs) s.type }

-- type words, a typedef name or a tag
abbrev pub without_list : FilePlace → List t.Specifier → List SpecifierWord → Specified
without_list f ss ks = record { type = specified f.context ss ks; place = in_place (record f.context { scopes = tags_in f.context ss }) f }

abbrev pub with_members : Fields → Specified
with_members k =
    record { type = record { constant = false; type = struct (length k.place.context.known) }; place = with_struct k.members k.place }

-- the sizes of a struct that its members complete
abbrev pub fields_counted : Fields → List ℕ
fields_counted k = struct_counted (with_struct k.members k.place).context.known k.members (length k.place.context.known)

abbrev pub with_enumerators : Option Name → FilePlace → Specified
with_enumerators x g = record { type = record { constant = false; type = integer Int }; place = with_enum_tag x g }

abbrev pub fields_behind : Fields → (FilePlace → Fields) → Fields
fields_behind k rest = before_fields k.members (rest k.place)

abbrev pub fields_of : Specified → t.Declarators → Fields
fields_of s ds = fields s.type s.place ds

abbrev mutual
  -- the type that the specifiers name; `ks` are their type words
  pub named_type : FilePlace → List SpecifierWord → t.SpecifierList → Specified
  named_type f ks t.no_specifiers = without_list f [] ks
  named_type f ks (t.more_specifiers (t.word_specifier at x) xs) = named_type f ks xs
  named_type f ks (t.more_specifiers (t.typedef_specifier at x) xs) = without_list f (t.typedef_specifier at x ∷ named_in xs) ks
  named_type f ks (t.more_specifiers (t.struct_tag at x) xs) = without_list f (t.struct_tag at x ∷ named_in xs) ks
  named_type f ks (t.more_specifiers (t.enum_tag at x) xs) = without_list f (t.enum_tag at x ∷ named_in xs) ks
  named_type f ks (t.more_specifiers (t.struct_specifier at x ms) xs) = with_members (members (with_list_begun at x f) ms)
  named_type f ks (t.more_specifiers (t.enum_specifier at x es) xs) = with_enumerators x (enumerators f (pos 0) es)

  -- members, in order
  pub members : FilePlace → t.Members → Fields
  members f t.no_members = record { members = []; place = f }
  members f (t.more_members (t.specifiers at xs) ds ms) =
      fields_behind (fields_of (constant_if_said xs (named_type f (keywords_in xs) xs)) ds) (λ g. members g ms)

abbrev pub specify : FilePlace → t.SpecifierList → Specified
specify f xs = constant_if_said xs (named_type f (keywords_in xs) xs)

abbrev pub fields_asked_of : Specified → t.Declarators → Asked
fields_asked_of s ds = fields_asked s.type s.place ds

-- what words ask at that level, and what the type that they name asks
abbrev pub words_asked : Level → ℕ → t.SpecifierList → Asked → Asked
words_asked l at xs named = only (first_then (leaf at (level_asks l xs)) named)

abbrev mutual
  -- of specifiers whose first token is that one
  pub named_asked : FilePlace → ℕ → t.SpecifierList → Asked
  named_asked f first t.no_specifiers = nothing_asked
  named_asked f first (t.more_specifiers (t.word_specifier at x) xs) = named_asked f first xs
  named_asked f first (t.more_specifiers (t.typedef_specifier at x) xs) = leaf first (specified_asks f.context (t.typedef_specifier at x ∷ []))
  named_asked f first (t.more_specifiers (t.struct_tag at x) xs) = leaf first (specified_asks f.context (t.struct_tag at x ∷ []))
  named_asked f first (t.more_specifiers (t.enum_tag at x) xs) = leaf first (specified_asks f.context (t.enum_tag at x ∷ []))
  named_asked f first (t.more_specifiers (t.struct_specifier at x ms) xs) =
      node at (struct_asks f x (members (with_list_begun at x f) ms).members)
      (first_then (members_asked (with_list_begun at x f) ms) (sized (fields_counted (members (with_list_begun at x f) ms))))
  named_asked f first (t.more_specifiers (t.enum_specifier at x es) xs) =
      only (both (leaf at (enum_asks f.context.scopes x)) (enumerators_asked f (pos 0) es))

  pub members_asked : FilePlace → t.Members → Asked
  members_asked f t.no_members = nothing_asked
  members_asked f (t.more_members (t.specifiers at xs) ds ms) =
      only (behind (first_then (words_asked of_members at xs (named_asked f at xs)) (fields_asked_of (specify f xs) ds))
      (members_asked (fields_of (specify f xs) ds).place ms))

abbrev pub specifiers_asked : Level → FilePlace → ℕ → t.SpecifierList → Asked
specifiers_asked l f at xs = words_asked l at xs (named_asked f at xs)

-- declarators at file scope

-- first values of statics, and the place behind them
pub record Statics : Type 0 where
  pub values : List FirstValues
  pub place : FilePlace

abbrev pub before_statics : List FirstValues → Statics → Statics
before_statics gs k = record { values = gs ++ k.values; place = k.place }

abbrev pub first_values : FilePlace → Name → CType → t.MaybeInitializer → List FirstValues
first_values f x a t.no_initializer = []
first_values f x a (t.an_initializer i) = values_given (past_strings (strings_given f.context.known a i) f) x a (items f.context a 0 i) ∷ []

abbrev pub static_type : Qualified → FilePlace → t.Declarator → t.MaybeInitializer → CType
static_type q f d i = completed (declared f.context q d).type i

abbrev pub past_static : t.SpecifierList → Qualified → FilePlace → t.Declarator → t.MaybeInitializer → FilePlace
past_static xs q f d i = past_declarator xs d (declared f.context q d) i f

-- behind a declarator and its initialiser
abbrev pub past_given : t.SpecifierList → Qualified → FilePlace → t.Declarator → t.MaybeInitializer → FilePlace
past_given xs q f d i = past_strings (given_strings f (static_type q f d i) i) (past_static xs q f d i)

abbrev pub declarations : t.SpecifierList → Qualified → FilePlace → t.InitDeclarators → Statics
declarations xs q f t.no_init_declarators = record { values = []; place = f }
declarations xs q f (t.more_init_declarators d i ds) =
    before_statics (first_values (past_static xs q f d i) (name_in (declared f.context q d).name) (static_type q f d i) i)
    (declarations xs q (past_given xs q f d i) ds)

-- each item of a static's initialiser is a constant
abbrev pub constants_asked : FilePlace → List Item → Asked
constants_asked f [] = nothing_asked
constants_asked f (p ∷ ps) = only (both (leaf (item_token p) (constant_asks (static_size f) f.context.known p)) (constants_asked f ps))

abbrev pub first_values_asked : FilePlace → CType → t.MaybeInitializer → Asked
first_values_asked f a t.no_initializer = nothing_asked
first_values_asked f a (t.an_initializer i) =
    only (first_then (items_asked f.context a i) (constants_asked (past_strings (strings_given f.context.known a i) f) (items f.context a 0 i)))

-- all else is asked once the declarator is right
abbrev pub declarations_asked : t.SpecifierList → Qualified → FilePlace → t.InitDeclarators → Asked
declarations_asked xs q f t.no_init_declarators = nothing_asked
declarations_asked xs q f (t.more_init_declarators d i ds) =
    only (first_then (declarator_asked f.context q d)
    (only (both (sized (counted f.context.known (static_type q f d i)))
    (only (beside (both (leaf (declarator_token d) (file_asks f xs (declared f.context q d) (static_type q f d i) (is_initialised i)))
    (first_values_asked (past_static xs q f d i) (static_type q f d i) i))
    (declarations_asked xs q (past_given xs q f d i) ds))))))

-- functions (C11 6.9.1)

-- first values of statics, functions, and the place behind them
pub record Externals : Type 0 where
  pub values : List FirstValues
  pub functions : List Func
  pub place : FilePlace

abbrev pub before_externals : List FirstValues → List Func → Externals → Externals
before_externals gs ks e = record { values = gs ++ e.values; functions = ks ++ e.functions; place = e.place }

abbrev pub own : t.Declarator → t.Parameters
own d = own_parameters (nearest d)

-- the parameters of a definition; none where one unnamed void stands
abbrev pub defined_parameters : FilePlace → t.Declarator → List Declared
defined_parameters g d = parameters_of (own d) (parameters (in_new_scope g.context) 0 (own d))

abbrev pub start_of_body : t.SpecifierList → FilePlace → t.Declarator → Declared → Site
start_of_body xs g d y = body_site (past_head xs d y g) (result_of y.type) (own d) (defined_parameters g d)

abbrev pub function_of_row : t.SpecifierList → FilePlace → t.Declarator → Declared → Row → Externals
function_of_row xs g d y r =
    record {
      values = [];
      functions = function_made g y (defined_parameters g d) r.statements r.added ∷ [];
      place = past_strings r.added.strings (past_head xs d y g);
    }

abbrev pub definition : t.SpecifierList → Specified → t.Declarator → t.BlockItems → Externals
definition xs s d is =
    function_of_row xs s.place d (declared s.place.context s.type d) (row (start_of_body xs s.place d (declared s.place.context s.type d)) is)

-- all else is asked once the declarator is right; sizes in parameters are told with it
abbrev pub definition_asked : t.SpecifierList → Specified → t.Declarator → t.BlockItems → Asked
definition_asked xs s d is =
    only (first_then (declarator_asked s.place.context s.type d)
    (only (beside (both (leaf (declarator_token d) (body_asks d (declared s.place.context s.type d)))
    (leaf (declarator_token d) (file_asks s.place xs (declared s.place.context s.type d) (declared s.place.context s.type d).type true)))
    (only (first_then (without_sizes (parameters_asked (in_new_scope s.place.context) 0 (own d)))
    (row_asked (start_of_body xs s.place d (declared s.place.context s.type d)) is))))))

-- external declarations

abbrev pub without_functions : Statics → Externals
without_functions k = record { values = k.values; functions = []; place = k.place }

abbrev pub declarations_of : t.SpecifierList → Specified → t.InitDeclarators → Externals
declarations_of xs s ds = without_functions (declarations xs s.type s.place ds)

abbrev pub declarations_asked_of : t.SpecifierList → Specified → t.InitDeclarators → Asked
declarations_asked_of xs s ds = declarations_asked xs s.type s.place ds

abbrev pub external : FilePlace → t.External → Externals
external f (t.external_declaration (t.declaration (t.specifiers at xs) ds)) = declarations_of xs (specify f xs) ds
external f (t.function_definition (t.specifiers at xs) d (t.block at' is)) = definition xs (specify f xs) d is

abbrev pub external_asked : FilePlace → t.External → Asked
external_asked f (t.external_declaration (t.declaration (t.specifiers at xs) ds)) =
    only (first_then (specifiers_asked of_the_file f at xs) (declarations_asked_of xs (specify f xs) ds))
external_asked f (t.function_definition (t.specifiers at xs) d (t.block at' is)) =
    only (first_then (specifiers_asked of_the_file f at xs) (definition_asked xs (specify f xs) d is))

abbrev pub externals_behind : Externals → (FilePlace → Externals) → Externals
externals_behind e rest = before_externals e.values e.functions (rest e.place)

abbrev pub externals : FilePlace → t.Tree → Externals
externals f t.no_externals = record { values = []; functions = []; place = f }
externals f (t.more_externals x xs) = externals_behind (external f x) (λ g. externals g xs)

abbrev pub externals_asked : FilePlace → t.Tree → Asked
externals_asked f t.no_externals = nothing_asked
externals_asked f (t.more_externals x xs) = only (first_then (external_asked f x) (externals_asked (external f x).place xs))

-- the unit

abbrev pub program_of : Externals → Prog
program_of e = program e.place e.values e.functions

abbrev pub unit : t.Tree → Prog
unit u = program_of (externals (file_start u) u)

-- of the rule on `main` the node is the unit
abbrev pub unit_asked : t.Tree → Asked
unit_asked u = node 0 (main_asks (externals (file_start u) u).place.context.scopes) (one (externals_asked (file_start u) u))

-- a unit is typed to a program where all that is asked of it is so
abbrev pub Typed : t.Tree → Prog → Type 0
Typed u g = IsRight (unit_asked u) × (unit u ≡ g)

-- a node whose first token is that one breaks the rule
abbrev pub Breaks : ℕ → ℕ → t.Tree → Type 0
Breaks rule token u = HasFault rule token (unit_asked u)

abbrev pub first_fault_of : t.Tree → Option Fault
first_fault_of u = first_fault (unit_asked u)
