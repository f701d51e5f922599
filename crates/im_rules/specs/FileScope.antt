-- What stands before a place at file scope, and what is asked there (C11 6.7, 6.9).
use Rattle.std.specs.Prelude.{ℕ, ◌+◌, ◌-◌, ℤ, pos, Bool, true, false, ◌&&◌, ◌||◌, List, [], ◌∷◌, ◌++◌, length, codes, slice_get, Option, Some, None, if◌then◌else◌, map}
use Rattle.im_ctree.specs.im_word.Words.{Name}
use Rattle.im_ctree.specs.Tree as t
use Rattle.im_typed.specs.im_serve.declared.service.Service.{Service}
use Rattle.im_typed.specs.im_serve.declared.service.Service.TheVariants.{Getchar, Putchar}
use Rattle.im_typed.specs.im_serve.Services.{row, services}
use Rattle.im_ctree.specs.im_num.declared.kind.Kind.{Kind}
use Rattle.im_ctree.specs.im_num.declared.kind.Kind.TheVariants.{I8, U8, I16, U16, I32, U32, Ptr}
use Rattle.im_typed.specs.im_ctype.declared.integer.Integer.{Integer}
use Rattle.im_typed.specs.im_ctype.declared.integer.Integer.TheVariants.{SignedChar, UnsignedChar, Short, UnsignedShort, Int, UnsignedInt}
use Rattle.im_typed.specs.im_ctype.Types.{CType, CTypes, integer, function, no_types, more_types, Member, Structs, is_function}
use Rattle.im_rules.specs.TypeTests.{same_name}
use Rattle.im_rules.specs.Scopes.{Tag, struct_tag, Scopes, nothing, named, tagged, meaning, tag_meaning, at_file_scope, Entity, an_object, a_function, an_enumerator, a_typedef, static_object, Callee, a_body, no_body, enum_tag, a_service}
use Rattle.im_rules.specs.Rules.{is_typedef, rule_1, rule_2, rule_2_elsewhere, rule_7, rule_8_list, rule_8_constant, rule_11, rule_12_builtin, rule_13, rule_15}
use Rattle.im_rules.specs.Outline.{Outline, outline, is_in, place_in, nearest, Nearest, parameters}
use Rattle.im_rules.specs.Context.{Context, with_entity, behind_strings}
use Rattle.im_rules.specs.Terms.{size_in}
use Rattle.im_rules.specs.Demands.{Demand, asks}
use Rattle.im_rules.specs.Declared.{Declared, naming_asks, typing_asks, declared_tag, is_no_enum}
use Rattle.im_rules.specs.Statements.{name_of as name_in}

-- what stands before: what is known; the tags of which a member list has begun; the names that have a body or an
-- initialiser; the string literals that initialise no array
pub record FilePlace : Type 0 where
  pub context : Context
  pub begun : List Name
  pub whole : List Name
  pub strings : List Name

abbrev pub in_place : Context → FilePlace → FilePlace
in_place c f = record f { context = c }

-- behind string literals
abbrev pub past_strings : List Name → FilePlace → FilePlace
past_strings ss f = record f { context = behind_strings ss f.context; strings = f.strings ++ ss }

-- what is predeclared

-- a typedef name that stands in for a header (C11 7.20.1.1, 7.19p2)
pub record TypeName : Type 0 where
  pub name : Name
  pub type : Integer

abbrev pub predeclared_types : List TypeName
predeclared_types =
    record { name = codes "int8_t"; type = SignedChar }
    ∷ record { name = codes "uint8_t"; type = UnsignedChar }
    ∷ record { name = codes "int16_t"; type = Short }
    ∷ record { name = codes "uint16_t"; type = UnsignedShort }
    ∷ record { name = codes "int32_t"; type = Int }
    ∷ record { name = codes "uint32_t"; type = UnsignedInt }
    ∷ record { name = codes "size_t"; type = UnsignedInt }
    ∷ []

abbrev pub predeclared_type : Name → Integer → Scopes → Scopes
predeclared_type x i g = named x (a_typedef false (integer i)) g

abbrev pub with_types : List TypeName → Scopes → Scopes
with_types [] g = g
with_types (p ∷ ps) g = predeclared_type p.name p.type (with_types ps g)

-- the type of integers of a kind
abbrev pub integer_of : Kind → Integer
integer_of I8 = SignedChar
integer_of U8 = UnsignedChar
integer_of I16 = Short
integer_of U16 = UnsignedShort
integer_of I32 = Int
integer_of U32 = UnsignedInt
integer_of Ptr = UnsignedInt

abbrev pub service_parameters : Option Kind → CTypes
service_parameters None = no_types
service_parameters (Some kind) = more_types (integer (integer_of kind)) no_types

-- the type of a service, by its row of the table
abbrev pub service_type : Service → CType
service_type s = function (integer (integer_of (row s).result)) (service_parameters (row s).parameter)

abbrev pub getchar_name : Name
getchar_name = (row Getchar).name

abbrev pub putchar_name : Name
putchar_name = (row Putchar).name

abbrev pub getchar_type : CType
getchar_type = service_type Getchar

abbrev pub putchar_type : CType
putchar_type = service_type Putchar

-- a function that is there without a definition: its name, its type, and what calls it
pub record Builtin : Type 0 where
  pub name : Name
  pub type : CType
  pub callee : Callee

abbrev pub builtin_of : Service → Builtin
builtin_of s = record { name = (row s).name; type = service_type s; callee = a_service s }

abbrev pub builtins : List Builtin
builtins = map builtin_of services

abbrev pub with_builtins : List Builtin → Scopes → Scopes
with_builtins [] g = g
with_builtins (b ∷ bs) g = named b.name (a_function b.callee false b.type) (with_builtins bs g)

abbrev pub predeclared : Scopes
predeclared = with_types predeclared_types (with_builtins builtins nothing)

-- before the first declaration of a unit
abbrev pub file_start : t.Tree → FilePlace
file_start u =
    record {
      context = record { scopes = predeclared; known = []; next_string = length (outline u).statics; unit = outline u };
      begun = [];
      whole = [];
      strings = [];
    }

-- what a declarator declares

abbrev pub body_named : Outline → Name → Callee
body_named o x = if is_in x o.bodies then a_body (place_in x o.bodies) else no_body

abbrev pub callee_among : List Builtin → Outline → Name → Callee
callee_among [] o x = body_named o x
callee_among (b ∷ bs) o x = if same_name b.name x then b.callee else callee_among bs o x

abbrev pub callee_named : Outline → Name → Callee
callee_named o x = callee_among builtins o x

abbrev pub file_entity : Outline → t.SpecifierList → Name → Bool → CType → Entity
file_entity o xs x c a =
    if is_typedef xs then a_typedef c a
    else if is_function a then a_function (callee_named o x) c a
    else an_object c a (static_object (place_in x o.statics))

abbrev pub is_object_entity : Entity → Bool
is_object_entity (an_object c a s) = true
is_object_entity e = false

-- services keep their types and have no body
abbrev pub keeps_among : List Builtin → Name → Bool → CType → Bool → Bool
keeps_among [] x c a whole = true
keeps_among (b ∷ bs) x c a whole =
    if same_name b.name x then rule_12_builtin b.type c a whole else keeps_among bs x c a whole

abbrev pub keeps_builtin : Name → Bool → CType → Bool → Bool
keeps_builtin x c a whole = keeps_among builtins x c a whole

-- of a declarator, with the type that is declared (a length that isn't written is `a`'s, from the initialiser); `whole`:
-- an initialiser or a body stands behind it
abbrev pub file_asks : FilePlace → t.SpecifierList → Declared → CType → Bool → List Demand
file_asks f xs y a whole =
    let x = name_in y.name in
    let e = file_entity f.context.unit xs x y.constant a in
    let g = f.context.scopes in
    (asks 2 (rule_2 xs whole) ∷ [])
    ++ (naming_asks g x e true (is_in x f.whole) whole
    ++ (typing_asks f.context.known (is_object_entity e) y.type a whole
    ++ (asks 12 (is_typedef xs || keeps_builtin x y.constant a whole) ∷ [])))

-- behind a declarator: its name is in scope, also in its own initialiser (C11 6.2.1p7)
abbrev pub with_declared : t.SpecifierList → Declared → CType → Bool → FilePlace → FilePlace
with_declared xs y a whole f =
    let x = name_in y.name in
    record f {
      context = with_entity x (file_entity f.context.unit xs x y.constant a) f.context;
      whole = if whole then x ∷ f.whole else f.whole;
    }

-- the parameters next to the name of a function that has a body
abbrev pub own_parameters : Nearest → t.Parameters
own_parameters (parameters ps) = ps
own_parameters n = t.no_parameters

-- a body stands behind a function's own declarator, not behind one whose type a typedef name gives (C11 6.9.1p2)
abbrev pub has_own_parameters : Nearest → Bool
has_own_parameters (parameters ps) = true
has_own_parameters n = false

abbrev pub body_asks : t.Declarator → Declared → List Demand
body_asks d y = asks 11 (has_own_parameters (nearest d) && rule_11 y.type (own_parameters (nearest d))) ∷ []

-- specifiers at file scope and of members

-- of a declaration at file scope storage words are asked with its declarators; a member has none
pub data Level : Type 0 where
  of_the_file of_members : Level

abbrev pub level_asks : Level → t.SpecifierList → List Demand
level_asks of_the_file xs = asks 1 (rule_1 xs) ∷ []
level_asks of_members xs = asks 1 (rule_1 xs) ∷ asks 2 (rule_2_elsewhere xs) ∷ []

-- structs (C11 6.7.2.1)

-- its tag is in scope in its own list (C11 6.2.1p7)
abbrev pub tag_here : Context → ℕ → Option Name → Scopes
tag_here c at None = c.scopes
tag_here c at (Some x) = declared_tag c at x (tag_meaning c.scopes x)

abbrev pub begun_with : Option Name → List Name → List Name
begun_with None xs = xs
begun_with (Some x) xs = x ∷ xs

abbrev pub with_list_begun : ℕ → Option Name → FilePlace → FilePlace
with_list_begun at x f = record f { context = record f.context { scopes = tag_here f.context at x }; begun = begun_with x f.begun }

abbrev pub has_begun : Option Name → List Name → Bool
has_begun None xs = false
has_begun (Some x) xs = is_in x xs

abbrev pub tag_asked : Scopes → Option Name → Bool
tag_asked g None = true
tag_asked g (Some x) = is_no_enum (tag_meaning g x)

-- its tag is no enum's (rule 3); its list is the first of its tag, and its members differ (rule 7)
abbrev pub struct_asks : FilePlace → Option Name → List Member → List Demand
struct_asks f x ms = asks 3 (tag_asked f.context.scopes x) ∷ asks 7 (rule_7 f.context.scopes (has_begun x f.begun) ms) ∷ []

abbrev pub with_struct : List Member → FilePlace → FilePlace
with_struct ms f = record f { context = record f.context { known = f.context.known ++ ms ∷ [] } }

-- a member has a name, a complete object type, and lengths
abbrev pub member_asks : Structs → Declared → List Demand
member_asks known y = typing_asks known true y.type y.type false

abbrev pub member_of : Declared → Member
member_of y = record { name = name_in y.name; constant = y.constant; type = y.type }

-- enums (C11 6.7.2.2)

abbrev pub is_no_struct : Option Tag → Bool
is_no_struct (Some (struct_tag n)) = false
is_no_struct _ = true

abbrev pub enum_tag_asked : Scopes → Option Name → Bool
enum_tag_asked g None = true
enum_tag_asked g (Some x) = is_no_struct (tag_meaning g x)

-- its tag is no struct's (rule 3); its list is the first of its tag
abbrev pub enum_asks : Scopes → Option Name → List Demand
enum_asks g x = asks 3 (enum_tag_asked g x) ∷ asks 8 (rule_8_list g x) ∷ []

abbrev pub constant_fits : Option ℤ → Bool
constant_fits None = true
constant_fits (Some z) = rule_8_constant z

abbrev pub number_in : Option ℤ → ℤ
number_in None = pos 0
number_in (Some z) = z

-- an enumeration constant: its value is a constant expression and fits int; its name is new
abbrev pub enumerator_asks : Scopes → Name → Option ℤ → List Demand
enumerator_asks g x z =
    asks 15 (rule_15 z)
    ∷ asks 8 (constant_fits z)
    ∷ naming_asks g x (an_enumerator (number_in z)) (at_file_scope g) false false

abbrev pub with_enumerator : Name → Option ℤ → t.MaybeExpression → FilePlace → FilePlace
with_enumerator x z e f = in_place (with_entity x (an_enumerator (number_in z)) f.context) f

-- its tag is in scope behind its list, so that its list stands before its use
abbrev pub with_enum_tag : Option Name → FilePlace → FilePlace
with_enum_tag None f = f
with_enum_tag (Some x) f = in_place (record f.context { scopes = tagged x enum_tag f.context.scopes }) f

-- `main`

abbrev pub main_name : Name
main_name = codes "main"

abbrev pub body_type : Option Entity → Option CType
body_type (Some (a_function (a_body n) false a)) = Some a
body_type e = None

abbrev pub main_asks : Scopes → List Demand
main_asks g = asks 13 (rule_13 (body_type (meaning g main_name))) ∷ []

-- the bytes of each static, as far as it is declared: an object by its name, or a string literal with its zero

abbrev pub object_type : Option Entity → Option CType
object_type (Some (an_object c a s)) = Some a
object_type e = None

abbrev pub size_of_type : Structs → Option CType → ℕ
size_of_type known None = 0
size_of_type known (Some a) = size_in known a

abbrev pub size_of_string : Option Name → ℕ
size_of_string None = 0
size_of_string (Some s) = length s + 1

abbrev pub static_size : FilePlace → ℕ → ℕ
static_size f n = size (slice_get f.context.unit.statics n)
  where
    size : Option Name → ℕ
    size None = size_of_string (slice_get f.strings (n - length f.context.unit.statics))
    size (Some x) = size_of_type f.context.known (object_type (meaning f.context.scopes x))
