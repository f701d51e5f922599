-- Specifiers, stars, suffixes and parameters (C11 6.7.2, 6.7.6): what they make of a type, and what the rules ask of them.
-- The specifiers' type is handed inward to the name: first the stars, then the suffixes, the last one first.
use Rattle.std.specs.Prelude.{ℕ, ◌+◌, ℤ, pos, Bool, true, false, not, ◌&&◌, ◌||◌, List, [], ◌∷◌, Option, Some, None, nat_lt, if◌then◌else◌}
use Rattle.im_ctree.specs.im_word.Words.{Name}
use Rattle.im_ctree.specs.declared.specifier.SpecifierWord.{SpecifierWord}
use Rattle.im_ctree.specs.declared.specifier.SpecifierWord.TheVariants as w
use Rattle.im_ctree.specs.Tree as t
use Rattle.im_typed.specs.im_ctype.declared.integer.Integer.TheVariants.{Int}
use Rattle.im_typed.specs.im_ctype.Types.{CType, void, integer, pointer, array, unsized, struct, function, CTypes, no_types, more_types, Structs, is_void}
use Rattle.im_rules.specs.Scopes.{Entity, an_object, a_typedef, local_object, Scopes, named, tagged, meaning, meaning_here, tag_meaning, tag_meaning_here, Tag, struct_tag, at_file_scope}
use Rattle.im_rules.specs.Context.{Context, tag_number}
use Rattle.im_rules.specs.Demands.{Demand, asks}
use Rattle.im_rules.specs.Rules.{line_type, lines, keywords_in, named_in, rule_1, rule_2_elsewhere, rule_3, rule_4, rule_5, rule_6_length, rule_6_absent, rule_8_use, rule_9_result, rule_9_parameter, rule_9_void, rule_10, rule_15}

-- a type with the const of what has it (C11 6.7.3); of an array it is its elements', of a function its result's
pub record Qualified : Type 0 where
  pub constant : Bool
  pub type : CType

-- what a declarator declares
pub record Declared : Type 0 where
  pub name : Option Name
  pub constant : Bool
  pub type : CType

-- specifiers (C11 6.7.2)

-- `const` is one of the words
abbrev pub has_const : t.SpecifierList → Bool
has_const t.no_specifiers = false
has_const (t.more_specifiers (t.word_specifier at w.Const) xs) = true
has_const (t.more_specifiers s xs) = has_const xs

abbrev pub typedef_meant : Option Entity → Qualified
typedef_meant (Some (a_typedef c a)) = record { constant = c; type = a }
typedef_meant _ = record { constant = false; type = void }

abbrev pub is_typedef_name : Option Entity → Bool
is_typedef_name (Some (a_typedef c a)) = true
is_typedef_name _ = false

abbrev pub line_meant : Option CType → Qualified
line_meant None = record { constant = false; type = void }
line_meant (Some a) = record { constant = false; type = a }

abbrev pub tag_meant : ℕ → Option Tag → Qualified
tag_meant n (Some (struct_tag m)) = record { constant = false; type = struct m }
tag_meant n _ = record { constant = false; type = struct n }

abbrev pub with_const : Bool → Qualified → Qualified
with_const c q = record q { constant = c || q.constant }

abbrev pub is_no_enum : Option Tag → Bool
is_no_enum (Some (struct_tag n)) = true
is_no_enum None = true
is_no_enum _ = false

-- the type of the type words. A list of members or enumerators stands in none of the places that this page is about
abbrev pub specified : Context → List t.Specifier → List SpecifierWord → Qualified
specified c (t.typedef_specifier at x ∷ ss) ks = typedef_meant (meaning c.scopes x)
specified c (t.struct_tag at x ∷ ss) ks = tag_meant (tag_number c at x) (tag_meaning c.scopes x)
specified c (t.enum_tag at x ∷ ss) ks = record { constant = false; type = integer Int }
specified c _ ks = line_meant (line_type lines ks)

-- of the structs, enums and typedef names among specifiers: a typedef name is in scope (rule 18), a struct's tag is no
-- enum's (rule 3), an enum's list stands before its use (rule 8), and lists stand at file scope (rules 7 and 8)
abbrev pub specified_asks : Context → List t.Specifier → List Demand
specified_asks c (t.typedef_specifier at x ∷ ss) = asks 18 (is_typedef_name (meaning c.scopes x)) ∷ []
specified_asks c (t.struct_tag at x ∷ ss) = asks 3 (is_no_enum (tag_meaning c.scopes x)) ∷ []
specified_asks c (t.enum_tag at x ∷ ss) = asks 8 (rule_8_use (tag_meaning c.scopes x)) ∷ []
specified_asks c (t.struct_specifier at x ms ∷ ss) = asks 7 false ∷ []
specified_asks c (t.enum_specifier at x es ∷ ss) = asks 8 false ∷ []
specified_asks c _ = []

-- the type of specifiers in a type name, a parameter or a block, and what they ask there
abbrev pub type_of_specifiers : Context → t.SpecifierList → Qualified
type_of_specifiers c xs = with_const (has_const xs) (specified c (named_in xs) (keywords_in xs))

abbrev pub specifiers_ask : Context → t.SpecifierList → List Demand
specifiers_ask c xs = asks 1 (rule_1 xs) ∷ asks 2 (rule_2_elsewhere xs) ∷ specified_asks c (named_in xs)

-- a struct's tag that is mentioned in a declaration or a parameter and isn't in scope is declared there (C11 6.7.2.3p8)
abbrev pub declared_tag : Context → ℕ → Name → Option Tag → Scopes
declared_tag c at x None = tagged x (struct_tag (tag_number c at x)) c.scopes
declared_tag c at x (Some g) = c.scopes

abbrev pub tags_in : Context → List t.Specifier → Scopes
tags_in c (t.struct_tag at x ∷ ss) = declared_tag c at x (tag_meaning c.scopes x)
tags_in c _ = c.scopes

abbrev pub behind_specifiers : Context → t.SpecifierList → Context
behind_specifiers c xs = record c { scopes = tags_in c (named_in xs) }

-- of a declaration in a block. One that is `struct s;` alone declares the tag in the innermost scope, whatever it means
-- further out (C11 6.7.2.3p7); there it is no enum's (rule 3)
abbrev pub declaration_asks : Context → t.SpecifierList → t.InitDeclarators → List Demand
declaration_asks c (t.more_specifiers (t.struct_tag at x) t.no_specifiers) t.no_init_declarators =
    asks 3 (is_no_enum (tag_meaning_here c.scopes x)) ∷ []
declaration_asks c xs ds = specifiers_ask c xs

abbrev pub tags_declared : Context → t.SpecifierList → t.InitDeclarators → Scopes
tags_declared c (t.more_specifiers (t.struct_tag at x) t.no_specifiers) t.no_init_declarators = declared_tag c at x (tag_meaning_here c.scopes x)
tags_declared c xs ds = tags_in c (named_in xs)

abbrev pub behind_tags : Context → t.SpecifierList → t.InitDeclarators → Context
behind_tags c xs ds = record c { scopes = tags_declared c xs ds }

-- stars (C11 6.7.6.1): the first one is nearest the specifiers; each with the number of `const` behind it
abbrev pub starred : Qualified → ℕ → Qualified
starred q k = record { constant = nat_lt 0 k; type = pointer q.constant q.type }

abbrev pub with_stars : Qualified → List ℕ → Qualified
with_stars q [] = q
with_stars q (k ∷ ks) = with_stars (starred q k) ks

abbrev pub stars_ask : Qualified → List ℕ → List Demand
stars_ask q [] = []
stars_ask q (k ∷ ks) = asks 10 (rule_10 q.type) ∷ stars_ask (starred q k) ks

-- lengths (C11 6.7.6.2)
abbrev pub count_of : Option ℤ → ℕ
count_of (Some (pos n)) = n
count_of _ = 0

abbrev pub array_of : Qualified → Option ℤ → Qualified
array_of q z = record { constant = q.constant; type = array q.type (count_of z) }

abbrev pub open_array_of : Qualified → Qualified
open_array_of q = record { constant = q.constant; type = unsized q.type }

-- an element is no void and no function, and complete
abbrev pub element_asks : Context → Qualified → List Demand
element_asks c q = asks 10 (rule_10 q.type) ∷ asks 5 (rule_5 c.known q.type) ∷ []

abbrev pub length_asks : Context → Qualified → Option ℤ → List Demand
length_asks c q z = asks 15 (rule_15 z) ∷ asks 6 (rule_6_length z) ∷ element_asks c q

-- parameters (C11 6.7.6.3)

-- an array becomes a pointer, which isn't const itself
abbrev pub parameter : Declared → Declared
parameter d = adjust d.type
  where
    adjust : CType → Declared
    adjust (array e n) = record { name = d.name; constant = false; type = pointer d.constant e }
    adjust (unsized e) = record { name = d.name; constant = false; type = pointer d.constant e }
    adjust void = d
    adjust (integer i) = d
    adjust (pointer k t) = d
    adjust (struct n) = d
    adjust (function r ps) = d

-- the name of the n-th parameter is in scope behind its declarator (C11 6.2.1p7)
abbrev pub with_name : Option Name → Entity → Scopes → Scopes
with_name None e g = g
with_name (Some x) e g = named x e g

abbrev pub with_parameter : ℕ → Declared → Context → Context
with_parameter n d c = record c { scopes = with_name d.name (an_object d.constant d.type (local_object n)) c.scopes }

-- the context of a function's body: the scope that holds its parameters, and the tags that these mention first
abbrev pub with_parameters : ℕ → t.Parameters → List Declared → Context → Context
with_parameters n (t.more_parameters (t.specifiers at xs) m ps) (d ∷ ds) c =
    with_parameters (n + 1) ps ds (with_parameter n d (behind_specifiers c xs))
with_parameters n ps ds c = c

-- what is asked of a name that is declared, at file scope, in a block, as a parameter or as an enumeration constant (rules 3
-- and 4); whether that is file scope, whether the name was defined before, and whether it is defined here
abbrev pub naming_asks : Scopes → Name → Entity → Bool → Bool → Bool → List Demand
naming_asks g x e at_file before here = asks 3 (rule_3 (meaning_here g x) e at_file before here) ∷ asks 4 (rule_4 (meaning g x) e) ∷ []

-- what is asked of its type at file scope, in a block and of a member (rules 6 and 5): of the one that is written, and of the
-- one that an object gets with the length that an initialiser gives; whether an initialiser or a body stands behind it
abbrev pub typing_asks : Structs → Bool → CType → CType → Bool → List Demand
typing_asks known is_object written a whole = asks 6 (rule_6_absent written whole) ∷ asks 5 (not is_object || rule_5 known a) ∷ []

abbrev pub declared_asks : Option Name → Entity → Scopes → List Demand
declared_asks None e g = []
declared_asks (Some x) e g = naming_asks g x e (at_file_scope g) false false

-- inner dimensions have lengths (rule 6); only the outermost one of a parameter may be absent
abbrev pub is_sized : CType → Bool
is_sized (unsized e) = false
is_sized (array e n) = is_sized e
is_sized (pointer k e) = is_sized e
is_sized void = true
is_sized (integer i) = true
is_sized (struct n) = true
is_sized (function r ps) = true

abbrev pub parameter_asks : Context → ℕ → Declared → List Demand
parameter_asks c n d =
    asks 6 (is_sized d.type)
    ∷ declared_asks d.name (an_object d.constant d.type (local_object n)) c.scopes

abbrev pub types_of : List Declared → CTypes
types_of [] = no_types
types_of (d ∷ ds) = more_types d.type (types_of ds)

abbrev pub is_only_void : List Declared → Bool
is_only_void (d ∷ []) = is_void d.type
is_only_void ds = false

-- one unnamed void stands for no parameter
abbrev pub parameters_of : t.Parameters → List Declared → List Declared
parameters_of ps ds = if rule_9_void ps && is_only_void ds then [] else ds

abbrev pub are_scalars : List Declared → Bool
are_scalars [] = true
are_scalars (d ∷ ds) = rule_9_parameter d.type && are_scalars ds

abbrev pub function_of : Qualified → List Declared → Qualified
function_of q ds = record { constant = q.constant; type = function q.type (types_of ds) }

abbrev pub function_asks : Qualified → List Declared → List Demand
function_asks q ds = asks 9 (rule_9_result q.type && are_scalars ds) ∷ []

abbrev pub unnamed : Qualified → Declared
unnamed q = record { name = None; constant = q.constant; type = q.type }

abbrev pub called : Name → Qualified → Declared
called x q = record { name = Some x; constant = q.constant; type = q.type }
