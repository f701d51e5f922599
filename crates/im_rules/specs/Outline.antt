-- What can be told of a unit from its tree alone, before any type is known. All that a rule or a number asks of what stands
-- further on is here: which objects and functions are defined, in which order, and where member lists end.
use Rattle.std.specs.Prelude.{ℕ, suc, Bool, true, false, not, ◌&&◌, ◌||◌, List, [], ◌∷◌, ◌++◌, Option, Some, None, if◌then◌else◌}
use Rattle.im_ctree.specs.im_word.Words.{Name}
use Rattle.im_ctree.specs.declared.specifier.SpecifierWord.{SpecifierWord}
use Rattle.im_ctree.specs.declared.specifier.SpecifierWord.TheVariants as w
use Rattle.im_ctree.specs.Tree as t
use Rattle.im_rules.specs.TypeTests.{same_name}
use Rattle.im_rules.specs.Rules.{is_typedef, storage_in, defines_object}

-- the objects that the unit defines, in the order of their first declaration; the functions that have a body, in order;
-- the tags of its member lists, in the order in which these end
pub record Outline : Type 0 where
  pub statics : List Name
  pub bodies : List Name
  pub lists : List (Option Name)

-- lists of names

abbrev pub is_in : Name → List Name → Bool
is_in x [] = false
is_in x (y ∷ ys) = same_name y x || is_in x ys

-- its place in the list; the list's length where it isn't there
abbrev pub place_in : Name → List Name → ℕ
place_in x [] = 0
place_in x (y ∷ ys) = if same_name y x then 0 else suc (place_in x ys)

-- behind the names before it, once
abbrev pub added : Name → List Name → List Name
added x xs = if is_in x xs then xs else xs ++ x ∷ []

abbrev pub is_tag : Name → Option Name → Bool
is_tag x None = false
is_tag x (Some y) = same_name y x

-- the number of the member list of that tag, if the unit has one
abbrev pub list_number : Name → List (Option Name) → Option ℕ
list_number x [] = None
list_number x (y ∷ ys) = if is_tag x y then Some 0 else behind (list_number x ys)
  where
    behind : Option ℕ → Option ℕ
    behind None = None
    behind (Some n) = Some (suc n)

-- declarators

-- the name that a declarator declares; empty where it has none
abbrev mutual
  pub name_of : t.Declarator → Name
  name_of (t.declarator at stars core ss) = core_name core

  pub core_name : t.Core → Name
  core_name t.absent_core = []
  core_name (t.name_core x) = x
  core_name (t.inner_core d) = name_of d

-- what stands directly round the name (C11 6.7.6): this decides whether a function is declared
pub data Nearest : Type 0 where
  -- nothing but parentheses: the specifiers' own type
  bare : Nearest
  a_star : Nearest
  a_length : Nearest
  parameters : t.Parameters → Nearest

abbrev pub star_or_bare : List ℕ → Nearest
star_or_bare [] = bare
star_or_bare (k ∷ ks) = a_star

abbrev pub suffix_or : t.Suffixes → Nearest → Nearest
suffix_or t.no_suffixes n = n
suffix_or (t.array_suffix at e ss) n = a_length
suffix_or (t.function_suffix at ps ss) n = parameters ps

abbrev pub inner_or : Nearest → Nearest → Nearest
inner_or bare outer = outer
inner_or inner outer = inner

abbrev mutual
  pub nearest : t.Declarator → Nearest
  nearest (t.declarator at stars core ss) = inner_or (nearest_in core) (suffix_or ss (star_or_bare stars))

  pub nearest_in : t.Core → Nearest
  nearest_in t.absent_core = bare
  nearest_in (t.name_core x) = bare
  nearest_in (t.inner_core d) = nearest d

abbrev pub is_extern : t.SpecifierList → Bool
is_extern xs = has (storage_in xs)
  where
    has : List SpecifierWord → Bool
    has [] = false
    has (w.Extern ∷ ys) = true
    has (y ∷ ys) = has ys

-- the typedef name that is the specifiers' type
abbrev pub typedef_in : t.SpecifierList → Name
typedef_in t.no_specifiers = []
typedef_in (t.more_specifiers (t.typedef_specifier at x) xs) = x
typedef_in (t.more_specifiers s xs) = typedef_in xs

-- what a declarator at file scope declares, by what the tree tells
pub data Sort : Type 0 where
  a_type an_object a_function : Sort

-- a function is declared by parameters next to its name, or by a typedef name of a function type
abbrev pub gives_function : Nearest → Bool → Bool
gives_function (parameters ps) of_function = true
gives_function bare of_function = of_function
gives_function n of_function = false

abbrev pub sort_of : Bool → Bool → Sort
sort_of true function = a_type
sort_of false true = a_function
sort_of false false = an_object

-- a declarator of the file scope; `is_whole`: an initialiser or a body stands behind it
pub record Outlined : Type 0 where
  pub name : Name
  pub sort : Sort
  pub is_extern : Bool
  pub is_whole : Bool

-- an object that isn't extern or has an initialiser (C11 6.9.2), a function with a body
abbrev pub defines_as : Sort → Bool → Bool → Bool
defines_as a_type external whole = false
defines_as an_object external whole = defines_object external whole
defines_as a_function external whole = whole

abbrev pub is_object_sort : Sort → Bool
is_object_sort an_object = true
is_object_sort s = false

abbrev pub defines : Outlined → Bool
defines i = defines_as i.sort i.is_extern i.is_whole

abbrev pub defines_an_object : Outlined → Bool
defines_an_object i = is_object_sort i.sort && defines i

abbrev pub defines_a_function : Outlined → Bool
defines_a_function i = not (is_object_sort i.sort) && defines i

abbrev pub is_initialised : t.MaybeInitializer → Bool
is_initialised t.no_initializer = false
is_initialised (t.an_initializer i) = true

-- member lists, in the order in which they end
abbrev mutual
  pub lists_in : t.SpecifierList → List (Option Name)
  lists_in t.no_specifiers = []
  lists_in (t.more_specifiers s xs) = lists_of s ++ lists_in xs

  pub lists_of : t.Specifier → List (Option Name)
  lists_of (t.struct_specifier at x ms) = lists_of_members ms ++ x ∷ []
  lists_of (t.word_specifier at x) = []
  lists_of (t.typedef_specifier at x) = []
  lists_of (t.struct_tag at x) = []
  lists_of (t.enum_tag at x) = []
  lists_of (t.enum_specifier at x es) = []

  pub lists_of_members : t.Members → List (Option Name)
  lists_of_members t.no_members = []
  lists_of_members (t.more_members s ds ms) = lists_specified s ++ lists_of_members ms

  pub lists_specified : t.Specifiers → List (Option Name)
  lists_specified (t.specifiers at xs) = lists_in xs

-- going over the unit: the typedef names of function types so far, the declarators so far, the member lists so far
pub record Walk : Type 0 where
  pub functions : List Name
  pub items : List Outlined
  pub lists : List (Option Name)

abbrev pub with_declarator : t.SpecifierList → t.Declarator → Bool → Walk → Walk
with_declarator xs d initialised o =
    let f = gives_function (nearest d) (is_in (typedef_in xs) o.functions) in
    record o {
      functions = if is_typedef xs && f then name_of d ∷ o.functions else o.functions;
      items = o.items ++ record { name = name_of d; sort = sort_of (is_typedef xs) f; is_extern = is_extern xs; is_whole = initialised } ∷ [];
    }

abbrev pub with_declarators : t.SpecifierList → t.InitDeclarators → Walk → Walk
with_declarators xs t.no_init_declarators o = o
with_declarators xs (t.more_init_declarators d i ds) o = with_declarators xs ds (with_declarator xs d (is_initialised i) o)

abbrev pub with_lists : t.SpecifierList → Walk → Walk
with_lists xs o = record o { lists = o.lists ++ lists_in xs }

abbrev pub body_item : t.Declarator → Outlined
body_item d = record { name = name_of d; sort = a_function; is_extern = false; is_whole = true }

abbrev pub with_external : t.External → Walk → Walk
with_external (t.external_declaration (t.declaration (t.specifiers at xs) ds)) o = with_declarators xs ds (with_lists xs o)
with_external (t.function_definition (t.specifiers at xs) d b) o =
    let o' = with_lists xs o in
    record o' { items = o'.items ++ body_item d ∷ [] }

abbrev pub walked : t.Tree → Walk → Walk
walked t.no_externals o = o
walked (t.more_externals e es) o = walked es (with_external e o)

abbrev pub whole_walk : t.Tree → Walk
whole_walk u = walked u (record { functions = []; items = []; lists = [] })

-- an object of that name is defined somewhere in the unit (C11 6.9p5)
abbrev pub is_object_among : Name → List Outlined → Bool
is_object_among x [] = false
is_object_among x (i ∷ is) = (defines_an_object i && same_name i.name x) || is_object_among x is

-- the objects that `all` defines, in the order of their first declaration, behind those that stand already
abbrev pub objects_among : List Outlined → List Name → List Outlined → List Name
objects_among all before [] = before
objects_among all before (i ∷ is) =
    objects_among all (if is_object_sort i.sort && is_object_among i.name all then added i.name before else before) is

abbrev pub bodies_among : List Outlined → List Name
bodies_among [] = []
bodies_among (i ∷ is) = if defines_a_function i then i.name ∷ bodies_among is else bodies_among is

abbrev pub outline_of : Walk → Outline
outline_of o = record { statics = objects_among o.items [] o.items; bodies = bodies_among o.items; lists = o.lists }

-- the outline of a unit
abbrev pub outline : t.Tree → Outline
outline u = outline_of (whole_walk u)
