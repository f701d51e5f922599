-- What a unit is typed to (C11 6.9): external declarations one behind the other, each in what stands before it.
use Rattle.std.specs.Prelude.{ℕ, ◌+◌, ℤ, pos, ◌+ℤ◌, true, false, List, [], ◌∷◌, ◌++◌, map, length, decimal, codes, Option, Some, None, if◌then◌else◌}
use Rattle.im_ctree.specs.im_word.Words.{Name}
use Rattle.im_ctree.specs.im_num.declared.kind.Kind.{Kind}
use Rattle.im_ctree.specs.declared.specifier.SpecifierWord.{SpecifierWord}
use Rattle.im_ctree.specs.Tree as t
use Rattle.im_typed.specs.im_ctype.declared.cell.Cell.{Cell}
use Rattle.im_typed.specs.im_ctype.declared.integer.Integer.TheVariants.{Char, Int}
use Rattle.im_typed.specs.im_ctype.Types.{CType, integer, array, struct, Member, Structs, is_void}
use Rattle.im_typed.specs.im_ctype.Layout.{Layout, layout, empty_layout}
use Rattle.im_typed.specs.im_store.Objects.{Value, Number}
use Rattle.im_typed.specs.im_store.Statics.{StaticObject}
use Rattle.im_typed.specs.Program.{Stmts, Block, LocalObject, Func, Prog}
use Rattle.im_rules.specs.TypeTests.{same_name, result_of}
use Rattle.im_rules.specs.Scopes.{meaning}
use Rattle.im_rules.specs.Rules.{Position, named_in, keywords_in}
use Rattle.im_rules.specs.Strings.{strings_of_declarator, strings_maybe}
use Rattle.im_rules.specs.Outline.{place_in, nearest, is_initialised}
use Rattle.im_rules.specs.Context.{Context, in_new_scope}
use Rattle.im_rules.specs.Terms.{Term, kind_in, constant_in}
use Rattle.im_rules.specs.Demands.{Meets}
use Rattle.im_rules.specs.Declared.{Qualified, Declared, has_const, with_const, specified, specified_asks, tags_in, with_parameters, parameters_of}
use Rattle.im_rules.specs.Typed.{Typed, Declares, AreParameters}
use Rattle.im_rules.specs.Initialisers.{Item, Initialised, completed, strings_given, pieces_of}
use Rattle.im_rules.specs.Statements.{Site, Added, TypedItems, name_of as name_in, object_of}
use Rattle.im_rules.specs.StaticValues.{constant_asks, zero_of, cell_values}
use Rattle.im_rules.specs.FileScope.{FilePlace, in_place, past_strings, file_start, file_asks, with_declared, own_parameters, body_asks, Level, of_the_file, of_members, level_asks, with_list_begun, struct_asks, with_struct, member_asks, member_of, enum_asks, number_in, enumerator_asks, with_enumerator, with_enum_tag, main_name, main_asks, object_type, static_size}

-- specifiers

-- the number of an enumeration constant: the one before it and 1 where none is written (C11 6.7.2.2p3)
pub data IsNumber (c : Context) (next : ℤ) : t.MaybeExpression → Option ℤ → Type 0 where
  counted_on : IsNumber c next t.no_expression (Some next)
  written : {e : t.Expression} {x : Term} → Typed c e x → IsNumber c next (t.an_expression e) (constant_in x)

-- enumeration constants, in order; each is in scope behind itself (C11 6.2.1p7)
pub data AreEnumerators : FilePlace → ℤ → t.Enumerators → FilePlace → Type 0 where
  no_enumerator : {f : FilePlace} {next : ℤ} → AreEnumerators f next t.no_enumerators f
  an_enumerator : {f g : FilePlace} {next : ℤ} {at : ℕ} {x : Name} {e : t.MaybeExpression} {es : t.Enumerators} {z : Option ℤ}
      → IsNumber f.context next e z
      → Meets (enumerator_asks f.context.scopes x z)
      → AreEnumerators (with_enumerator x z e (past_strings (strings_maybe e) f)) (number_in z +ℤ pos 1) es g
      → AreEnumerators f next (t.more_enumerators at x e es) g

mutual
  -- specifiers of a declaration at file scope or of a member
  pub data Specify : Level → FilePlace → t.SpecifierList → Qualified → FilePlace → Type 0 where
    of_specifiers : {l : Level} {f g : FilePlace} {xs : t.SpecifierList} {q : Qualified}
        → Meets (level_asks l xs)
        → NamesType f (named_in xs) (keywords_in xs) q g
        → Specify l f xs (with_const (has_const xs) q) g

  -- the type that the type words name
  pub data NamesType : FilePlace → List t.Specifier → List SpecifierWord → Qualified → FilePlace → Type 0 where
    no_list : {f : FilePlace} {ss : List t.Specifier} {ks : List SpecifierWord}
        → Meets (specified_asks f.context ss)
        → NamesType f ss ks (specified f.context ss ks) (in_place (record f.context { scopes = tags_in f.context ss }) f)
    a_struct : {f g : FilePlace} {at : ℕ} {x : Option Name} {ms : t.Members} {ss : List t.Specifier} {ks : List SpecifierWord} {fields : List Member}
        → AreMembers (with_list_begun at x f) ms fields g
        → Meets (struct_asks f x fields)
        → NamesType f (t.struct_specifier at x ms ∷ ss) ks (record { constant = false; type = struct (length g.context.known) }) (with_struct fields g)
    an_enum : {f g : FilePlace} {at : ℕ} {x : Option Name} {es : t.Enumerators} {ss : List t.Specifier} {ks : List SpecifierWord}
        → Meets (enum_asks f.context.scopes x)
        → AreEnumerators f (pos 0) es g
        → NamesType f (t.enum_specifier at x es ∷ ss) ks (record { constant = false; type = integer Int }) (with_enum_tag x g)

  -- members, in order
  pub data AreMembers : FilePlace → t.Members → List Member → FilePlace → Type 0 where
    no_member : {f : FilePlace} → AreMembers f t.no_members [] f
    some_members : {f g h e : FilePlace} {at : ℕ} {xs : t.SpecifierList} {q : Qualified} {ds : t.Declarators} {ms : t.Members} {fields more : List Member}
        → Specify of_members f xs q g
        → AreFields q g ds fields h
        → AreMembers h ms more e
        → AreMembers f (t.more_members (t.specifiers at xs) ds ms) (fields ++ more) e

  -- the declarators of one declaration of members
  pub data AreFields : Qualified → FilePlace → t.Declarators → List Member → FilePlace → Type 0 where
    no_field : {q : Qualified} {f : FilePlace} → AreFields q f t.no_declarators [] f
    a_field : {q : Qualified} {f g : FilePlace} {d : t.Declarator} {ds : t.Declarators} {y : Declared} {fields : List Member}
        → Declares f.context q d y
        → Meets (member_asks f.context.known y)
        → AreFields q (past_strings (strings_of_declarator d) f) ds fields g
        → AreFields q f (t.more_declarators d ds) (member_of y ∷ fields) g

-- declarators at file scope

-- the first values that an initialiser gives the cells of a static
pub record FirstValues : Type 0 where
  pub name : Name
  pub values : List Value

abbrev pub cells_in : Structs → CType → List Cell
cells_in known a = (layout known a).cells

-- every item of a static's initialiser is a constant
abbrev pub AreConstants : FilePlace → List Item → Type 0
AreConstants f [] = Unit {0}
AreConstants f (p ∷ ps) = Meets (constant_asks (static_size f) f.context.known p) × AreConstants f ps

abbrev pub given_strings : FilePlace → CType → t.MaybeInitializer → List Name
given_strings f a t.no_initializer = []
given_strings f a (t.an_initializer i) = strings_given f.context.known a i

abbrev pub values_given : FilePlace → Name → CType → List Item → FirstValues
values_given f x a ps =
    record { name = x; values = cell_values (static_size f) (cells_in f.context.known a) (pieces_of f.context.known ps) }

-- a static's initialiser, where there is one
pub data MayGive (f : FilePlace) (x : Name) (a : CType) : t.MaybeInitializer → List FirstValues → Type 0 where
  gives_nothing : MayGive f x a t.no_initializer []
  gives_values : {i : t.Initializer} {ps : List Item}
      → Initialised f.context a 0 i ps
      → AreConstants (past_strings (strings_given f.context.known a i) f) ps
      → MayGive f x a (t.an_initializer i) (values_given (past_strings (strings_given f.context.known a i) f) x a ps ∷ [])

-- behind the declarator, where its initialiser stands
abbrev pub past_declarator : t.SpecifierList → t.Declarator → Declared → t.MaybeInitializer → FilePlace → FilePlace
past_declarator xs d y i f = with_declared xs y (completed y.type i) (is_initialised i) (past_strings (strings_of_declarator d) f)

-- the declarators of a declaration, in order
pub data AreDeclared (xs : t.SpecifierList) (q : Qualified) : FilePlace → t.InitDeclarators → List FirstValues → FilePlace → Type 0 where
  none_declared : {f : FilePlace} → AreDeclared xs q f t.no_init_declarators [] f
  one_declared : {f e : FilePlace} {d : t.Declarator} {i : t.MaybeInitializer} {ds : t.InitDeclarators} {y : Declared} {gs hs : List FirstValues}
      → Declares f.context q d y
      → Meets (file_asks f xs y (completed y.type i) (is_initialised i))
      → MayGive (past_declarator xs d y i f) (name_in y.name) (completed y.type i) i gs
      → AreDeclared xs q (past_strings (given_strings f (completed y.type i) i) (past_declarator xs d y i f)) ds hs e
      → AreDeclared xs q f (t.more_init_declarators d i ds) (gs ++ hs) e

-- functions (C11 6.9.1)

abbrev pub result_kind : CType → Option Kind
result_kind r = if is_void r then None else Some (kind_in r)

-- the parameters are the first objects of a function
abbrev pub parameter_objects : Structs → List Declared → List LocalObject
parameter_objects known [] = []
parameter_objects known (d ∷ ds) = object_of known (name_in d.name) d.type ∷ parameter_objects known ds

abbrev pub no_position : Position
no_position = record { in_loop = false; in_switch = false; is_direct = false }

-- the start of a body: its parameters are in the scope of its block, and it sees the function itself
abbrev pub body_site : FilePlace → CType → t.Parameters → List Declared → Site
body_site f r ps ds =
    record { context = with_parameters 0 ps ds (in_new_scope f.context); result = r; position = no_position; locals = length ds }

abbrev pub function_made : FilePlace → Declared → List Declared → Stmts → Added → Func
function_made f y ds us m =
    record {
      name = name_in y.name;
      params = length ds;
      result = result_kind (result_of y.type);
      objects = parameter_objects f.context.known ds ++ m.objects;
      body = Block us;
    }

abbrev pub past_head : t.SpecifierList → t.Declarator → Declared → FilePlace → FilePlace
past_head xs d y f = with_declared xs y y.type true (past_strings (strings_of_declarator d) f)

pub data TypedExternal : FilePlace → t.External → List FirstValues → List Func → FilePlace → Type 0 where
  of_declaration : {f g e : FilePlace} {at : ℕ} {xs : t.SpecifierList} {q : Qualified} {ds : t.InitDeclarators} {gs : List FirstValues}
      → Specify of_the_file f xs q g
      → AreDeclared xs q g ds gs e
      → TypedExternal f (t.external_declaration (t.declaration (t.specifiers at xs) ds)) gs [] e
  of_function : {f g : FilePlace} {at at' : ℕ} {xs : t.SpecifierList} {q : Qualified} {d : t.Declarator} {y : Declared} {ps : List Declared} {is : t.BlockItems} {us : Stmts} {m : Added}
      → Specify of_the_file f xs q g
      → Declares g.context q d y
      → Meets (body_asks d y)
      → Meets (file_asks g xs y y.type true)
      → AreParameters (in_new_scope g.context) 0 (own_parameters (nearest d)) ps
      → TypedItems (body_site (past_head xs d y g) (result_of y.type) (own_parameters (nearest d)) (parameters_of (own_parameters (nearest d)) ps)) is us m
      → TypedExternal f (t.function_definition (t.specifiers at xs) d (t.block at' is)) [] (function_made g y (parameters_of (own_parameters (nearest d)) ps) us m ∷ []) (past_strings m.strings (past_head xs d y g))

-- external declarations, in order
pub data AreExternals : FilePlace → t.Tree → List FirstValues → List Func → FilePlace → Type 0 where
  no_external : {f : FilePlace} → AreExternals f t.no_externals [] [] f
  an_external : {f g e : FilePlace} {x : t.External} {xs : t.Tree} {gs hs : List FirstValues} {ks ls : List Func}
      → TypedExternal f x gs ks g
      → AreExternals g xs hs ls e
      → AreExternals f (t.more_externals x xs) (gs ++ hs) (ks ++ ls) e

-- the program

abbrev pub given_to : Name → List FirstValues → Option (List Value)
given_to x [] = None
given_to x (g ∷ gs) = if same_name g.name x then Some g.values else given_to x gs

-- without an initialiser each cell is zero or null (C11 6.7.9p10)
abbrev pub values_or_zero : List Cell → Option (List Value) → List Value
values_or_zero cs None = map {A = Cell} (λ c. zero_of c.kind) cs
values_or_zero cs (Some vs) = vs

abbrev pub layout_of_type : Structs → Option CType → Layout
layout_of_type known None = empty_layout
layout_of_type known (Some a) = layout known a

abbrev pub static_named : FilePlace → List FirstValues → Name → StaticObject
static_named e gs x =
    let l = layout_of_type e.context.known (object_type (meaning e.context.scopes x)) in
    record { name = x; size = l.size; cells = l.cells; first = values_or_zero l.cells (given_to x gs) }

abbrev pub byte_value : ℕ → Value
byte_value b = Number (pos b)

-- the k-th string literal: its bytes and a zero
abbrev pub string_static : Structs → ℕ → Name → StaticObject
string_static known k s =
    let l = layout known (array (integer Char) (length s + 1)) in
    record { name = codes "$" ++ decimal k; size = l.size; cells = l.cells; first = map byte_value s ++ byte_value 0 ∷ [] }

abbrev pub string_statics : Structs → ℕ → List Name → List StaticObject
string_statics known k [] = []
string_statics known k (s ∷ ss) = string_static known k s ∷ string_statics known (k + 1) ss

-- the defined statics in the order of their first declaration, then the string literals; the functions in order
abbrev pub program : FilePlace → List FirstValues → List Func → Prog
program e gs ks =
    record {
      statics = map (static_named e gs) e.context.unit.statics ++ string_statics e.context.known 1 e.strings;
      funcs = ks;
      main = place_in main_name e.context.unit.bodies;
    }

pub data TypedUnit : t.Tree → Prog → Type 0 where
  of_unit : {u : t.Tree} {e : FilePlace} {gs : List FirstValues} {ks : List Func}
      → AreExternals (file_start u) u gs ks e
      → Meets (main_asks e.context.scopes)
      → TypedUnit u (program e gs ks)
