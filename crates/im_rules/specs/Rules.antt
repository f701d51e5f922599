-- The 34 typing rules, each as what it asks of a node: of the types of its parts, and of the names in scope. `true` says
-- that the rule has nothing against the node.
use Rattle.std.specs.Prelude.{ℕ, suc, ◌+◌, ℤ, pos, Bool, true, false, not, ◌&&◌, ◌||◌, List, [], ◌∷◌, ◌++◌, length, Option, Some, None, nat_eq, nat_le, int_lt, int_le, is_some, if◌then◌else◌, ◌^◌, neg_ℤ, slice_index_or}
use Rattle.std.specs.Ordering.{int_eq}
use Rattle.im_ctree.specs.im_word.Words.{Name}
use Rattle.im_ctree.specs.declared.operator.BinaryOp.{BinaryOp}
use Rattle.im_ctree.specs.declared.operator.BinaryOp.TheVariants as b
use Rattle.im_ctree.specs.declared.specifier.SpecifierWord.{SpecifierWord}
use Rattle.im_ctree.specs.declared.specifier.SpecifierWord.TheVariants as w
use Rattle.im_ctree.specs.Tree as t
pub use Rattle.im_ctree.specs.Typedefs.{is_type_word}
use Rattle.im_typed.specs.im_store.declared.operators.BinaryOp as store_op
use Rattle.im_typed.specs.im_store.declared.operators.BinaryOp.TheVariants as s
use Rattle.im_typed.specs.im_store.declared.operators.Comparison.{Comparison}
use Rattle.im_typed.specs.im_store.declared.operators.Comparison.TheVariants as c
use Rattle.im_typed.specs.im_ctype.declared.integer.Integer.TheVariants.{Char, SignedChar, UnsignedChar, Short, UnsignedShort, Int, UnsignedInt, Long, UnsignedLong}
use Rattle.im_typed.specs.im_ctype.Types.{CType, void, integer, pointer, array, unsized, struct, function, no_types, Member, Structs, members_of, same_bool, same_type, is_void, is_integer, is_character, is_pointer, is_array, is_function, is_struct, is_scalar, are_like_pointers}
use Rattle.im_rules.specs.TypeTests.{is_complete_in, points_to_complete, members_in, find_member, has_member, decayed, count_types}
use Rattle.im_rules.specs.Scopes.{Entity, an_object, a_function, an_enumerator, a_typedef, Tag, enum_tag, Scopes, tag_meaning, at_file_scope}

-- An expression as the rules see it: whether it is an lvalue (C11 6.3.2.1p1) and const, its type with arrays as they
-- are, and whether it is null, an integer constant expression of value 0 (C11 6.3.2.3p3).
pub record Operand : Type 0 where
  pub is_lvalue : Bool
  pub constant : Bool
  pub type : CType
  pub is_null : Bool

-- its type as a value: an array is a pointer to its first element (C11 6.3.2.1p3)
abbrev pub value_type : Operand → CType
value_type x = decayed x.constant x.type

abbrev pub is_integer_null : Operand → Bool
is_integer_null x = is_integer (value_type x) && x.is_null

-- 1 (C11 6.7.2p2, 6.7.1p2). The type words are one line of the list, in any order; at most one storage word.

-- a line of the list: how often each word stands in it, and its type
pub record Line : Type 0 where
  pub words : List SpecifierWord
  pub type : CType

abbrev pub lines : List Line
lines =
    record { words = w.Void ∷ []; type = void }
    ∷ record { words = w.Char ∷ []; type = integer Char }
    ∷ record { words = w.Signed ∷ w.Char ∷ []; type = integer SignedChar }
    ∷ record { words = w.Unsigned ∷ w.Char ∷ []; type = integer UnsignedChar }
    ∷ record { words = w.Short ∷ []; type = integer Short }
    ∷ record { words = w.Signed ∷ w.Short ∷ []; type = integer Short }
    ∷ record { words = w.Short ∷ w.Int ∷ []; type = integer Short }
    ∷ record { words = w.Signed ∷ w.Short ∷ w.Int ∷ []; type = integer Short }
    ∷ record { words = w.Unsigned ∷ w.Short ∷ []; type = integer UnsignedShort }
    ∷ record { words = w.Unsigned ∷ w.Short ∷ w.Int ∷ []; type = integer UnsignedShort }
    ∷ record { words = w.Int ∷ []; type = integer Int }
    ∷ record { words = w.Signed ∷ []; type = integer Int }
    ∷ record { words = w.Signed ∷ w.Int ∷ []; type = integer Int }
    ∷ record { words = w.Unsigned ∷ []; type = integer UnsignedInt }
    ∷ record { words = w.Unsigned ∷ w.Int ∷ []; type = integer UnsignedInt }
    ∷ record { words = w.Long ∷ []; type = integer Long }
    ∷ record { words = w.Signed ∷ w.Long ∷ []; type = integer Long }
    ∷ record { words = w.Long ∷ w.Int ∷ []; type = integer Long }
    ∷ record { words = w.Signed ∷ w.Long ∷ w.Int ∷ []; type = integer Long }
    ∷ record { words = w.Unsigned ∷ w.Long ∷ []; type = integer UnsignedLong }
    ∷ record { words = w.Unsigned ∷ w.Long ∷ w.Int ∷ []; type = integer UnsignedLong }
    ∷ []

-- the word's place among the type words; 0 for storage words and `const`
abbrev pub word_code : SpecifierWord → ℕ
word_code w.Void = 1
word_code w.Char = 2
word_code w.Short = 3
word_code w.Int = 4
word_code w.Long = 5
word_code w.Signed = 6
word_code w.Unsigned = 7
word_code _ = 0

abbrev pub is_storage : SpecifierWord → Bool
is_storage w.Typedef = true
is_storage w.Extern = true
is_storage w.Static = true
is_storage _ = false

abbrev pub count_word : ℕ → List SpecifierWord → ℕ
count_word k [] = 0
count_word k (x ∷ xs) = (if nat_eq (word_code x) k then 1 else 0) + count_word k xs

-- the same words, each as often
abbrev pub same_words : List SpecifierWord → List SpecifierWord → Bool
same_words xs ys = agree 1 && (agree 2 && (agree 3 && (agree 4 && (agree 5 && (agree 6 && agree 7)))))
  where
    agree : ℕ → Bool
    agree k = nat_eq (count_word k xs) (count_word k ys)

abbrev pub line_type : List Line → List SpecifierWord → Option CType
line_type [] xs = None
line_type (l ∷ ls) xs = if same_words l.words xs then Some l.type else line_type ls xs

-- the type words of one keyword, in order
abbrev pub keywords_in : t.SpecifierList → List SpecifierWord
keywords_in t.no_specifiers = []
keywords_in (t.more_specifiers (t.word_specifier at x) xs) = if is_type_word x then x ∷ keywords_in xs else keywords_in xs
keywords_in (t.more_specifiers _ xs) = keywords_in xs

-- the structs, enums and typedef names, in order
abbrev pub named_in : t.SpecifierList → List t.Specifier
named_in t.no_specifiers = []
named_in (t.more_specifiers (t.word_specifier at x) xs) = named_in xs
named_in (t.more_specifiers s xs) = s ∷ named_in xs

abbrev pub storage_in : t.SpecifierList → List SpecifierWord
storage_in t.no_specifiers = []
storage_in (t.more_specifiers (t.word_specifier at x) xs) = if is_storage x then x ∷ storage_in xs else storage_in xs
storage_in (t.more_specifiers _ xs) = storage_in xs

abbrev pub rule_1 : t.SpecifierList → Bool
rule_1 xs = one_line (named_in xs) (keywords_in xs) && nat_le (length (storage_in xs)) 1
  where
    one_line : List t.Specifier → List SpecifierWord → Bool
    one_line [] ks = is_some (line_type lines ks)
    one_line (s ∷ []) [] = true
    one_line _ _ = false

-- 2 (C11 6.7.1, 6.7.8; the profile). Storage words stand only in declarations at file scope; a typedef has no
-- initialiser and no body.
abbrev pub is_typedef : t.SpecifierList → Bool
is_typedef xs = has (storage_in xs)
  where
    has : List SpecifierWord → Bool
    has [] = false
    has (w.Typedef ∷ ys) = true
    has (y ∷ ys) = has ys

-- of specifiers in a block, a member, a parameter or a type name
abbrev pub rule_2_elsewhere : t.SpecifierList → Bool
rule_2_elsewhere xs = nat_eq (length (storage_in xs)) 0

-- of a declarator at file scope; whether an initialiser or a body stands behind it
abbrev pub rule_2 : t.SpecifierList → Bool → Bool
rule_2 xs defines = not (is_typedef xs && defines)

-- 3 (C11 6.7p3, 6.9p3). In one scope and name space a name is declared once; at file scope an object, function or
-- typedef may be declared again with the same type, with at most one body or initialiser.
abbrev pub agrees : Entity → Entity → Bool
agrees (an_object c a s) (an_object d b u) = same_type a b && same_bool c d
agrees (a_function f c a) (a_function g d b) = same_type a b && same_bool c d
agrees (a_typedef c a) (a_typedef d b) = same_type a b && same_bool c d
agrees _ _ = false

-- what the name means in the innermost scope, what it is declared as, whether that scope is the file's, and whether it
-- was defined before and is defined here
abbrev pub rule_3 : Option Entity → Entity → Bool → Bool → Bool → Bool
rule_3 None new at_file before here = true
rule_3 (Some old) new at_file before here = at_file && (agrees old new && not (before && here))

-- 4 (the profile; C11 6.7.8p3 lets it be hidden). A typedef name isn't declared as an object, function, parameter or
-- enum constant.
abbrev pub rule_4 : Option Entity → Entity → Bool
rule_4 (Some (a_typedef c a)) (a_typedef d b) = true
rule_4 (Some (a_typedef c a)) new = false
rule_4 _ new = true

-- 5 (C11 6.7p7, 6.7.2.1p3, 6.7.6.2p1). An object, an array element and a member have a complete object type.
abbrev pub rule_5 : Structs → CType → Bool
rule_5 known a = is_complete_in known a

-- 6 (C11 6.7.6.2). An array length is a constant expression of at least 1; it may be absent only in the outermost
-- dimension of a parameter or of an object with an initialiser.
abbrev pub rule_6_length : Option ℤ → Bool
rule_6_length None = false
rule_6_length (Some z) = int_lt (pos 0) z

abbrev pub has_unsized : CType → Bool
has_unsized (unsized e) = true
has_unsized (array e n) = has_unsized e
has_unsized (pointer c e) = has_unsized e
has_unsized (function r ps) = has_unsized r
has_unsized void = false
has_unsized (integer i) = false
has_unsized (struct n) = false

-- of a declared type; whether it is a parameter's or stands before an initialiser
abbrev pub rule_6_absent : CType → Bool → Bool
rule_6_absent (unsized a) may_be = may_be && not (has_unsized a)
rule_6_absent a may_be = not (has_unsized a)

-- 7 (C11 6.7.2.1, 6.7.2.3p1). A struct's member list stands once for its tag and at file scope; its member names differ.
abbrev pub differ : List Member → Bool
differ [] = true
differ (m ∷ ms) = not (has_member m.name ms) && differ ms

-- the scopes, whether a list of that tag has begun before, and the members
abbrev pub rule_7 : Scopes → Bool → List Member → Bool
rule_7 g has_list ms = at_file_scope g && (not has_list && differ ms)

-- 8 (C11 6.7.2.2p2, 6.7.2.3p3). An enum's list stands once for its tag, at file scope, and before its use; each
-- constant fits int.
abbrev pub rule_8_use : Option Tag → Bool
rule_8_use (Some enum_tag) = true
rule_8_use _ = false

abbrev pub rule_8_list : Scopes → Option Name → Bool
rule_8_list g None = at_file_scope g
rule_8_list g (Some x) = at_file_scope g && not (rule_8_use (tag_meaning g x))

abbrev pub rule_8_constant : ℤ → Bool
rule_8_constant z = int_le (neg_ℤ (pos (2 ^ 31))) z && int_lt z (pos (2 ^ 31))

-- 9 (C11 6.7.6.3p1, p4; the profile). A function's result is void, an integer type or a pointer; its parameters
-- (an array becomes a pointer) are integers or pointers, or one unnamed void.
abbrev pub rule_9_result : CType → Bool
rule_9_result r = is_void r || is_scalar r

abbrev pub rule_9_parameter : CType → Bool
rule_9_parameter p = is_scalar p

-- one unnamed void, whose declaration has no other word (C11 6.7.6.3p10)
abbrev pub rule_9_void : t.Parameters → Bool
rule_9_void (t.more_parameters (t.specifiers at (t.more_specifiers s t.no_specifiers)) t.no_declarator t.no_parameters) = true
rule_9_void _ = false

-- 10 (the profile; C11 6.7.6.2p1 for arrays). No pointer's target and no array's element is void or a function.
abbrev pub rule_10 : CType → Bool
rule_10 a = not (is_void a) && not (is_function a)

-- 11 (C11 6.9.1p2, p5). A body follows a declarator of a function whose parameters are named.
abbrev pub parameter_is_named : t.MaybeDeclarator → Bool
parameter_is_named t.no_declarator = false
parameter_is_named (t.a_declarator d) = has_name d
  where
    has_name : t.Declarator → Bool
    has_name (t.declarator at stars t.absent_core ss) = false
    has_name (t.declarator at stars (t.name_core x) ss) = true
    has_name (t.declarator at stars (t.inner_core e) ss) = has_name e

abbrev pub all_named : t.Parameters → Bool
all_named t.no_parameters = true
all_named (t.more_parameters s d ps) = parameter_is_named d && all_named ps

-- a function without parameters: none is written, or one unnamed void (C11 6.7.6.3p10)
abbrev pub takes_nothing : CType → Bool
takes_nothing (function r no_types) = true
takes_nothing a = false

-- the type of what is declared, and its parameters as they are written
abbrev pub rule_11 : CType → t.Parameters → Bool
rule_11 a ps = is_function a && (takes_nothing a || all_named ps)

-- 12 (C11 6.9p5). A function that is called and an object that is used are defined in the unit; `getchar` and `putchar`
-- have their types and no body.
abbrev pub rule_12_use : Bool → Bool
rule_12_use is_defined = is_defined

-- a declaration of an object defines it: without extern, or with an initialiser (C11 6.9.2)
abbrev pub defines_object : Bool → Bool → Bool
defines_object is_extern has_initializer = not is_extern || has_initializer

-- neither has a result that is const
abbrev pub rule_12_builtin : CType → Bool → CType → Bool → Bool
rule_12_builtin own c a has_body = same_type own a && not c && not has_body

-- 13 (C11 5.1.2.2.1). There is a body of `int main(void)`; the node is the unit.
abbrev pub rule_13 : Option CType → Bool
rule_13 None = false
rule_13 (Some a) = same_type a (function (integer Int) no_types)

-- 14 (C11 6.6p9, 6.7.9p4). A static's initialiser is made of constant expressions and address constants, each step
-- within 0 to the object's size.
abbrev pub is_within : ℕ → ℤ → Bool
is_within size z = int_le (pos 0) z && int_le z (pos size)

-- whether the initialiser's expression is seen to be a constant
abbrev pub rule_14 : Bool → Bool
rule_14 is_constant = is_constant

-- 15 (C11 6.6p3, p6). A constant expression has no object, call, assignment, `++`, `--`, `,`, `[]`, unary `*` or `&`, or
-- string, except under `sizeof`, and its evaluation is defined. Its value; none where that isn't so.
abbrev pub rule_15 : Option ℤ → Bool
rule_15 value = is_some value

-- 16 (C11 6.7.9). An initialiser has the shape of its object.
abbrev pub initializer_count : t.Initializers → ℕ
initializer_count t.no_initializers = 0
initializer_count (t.more_initializers i is) = suc (initializer_count is)

-- one expression, also in one pair of braces (C11 6.7.9p11)
abbrev pub is_one_expression : t.Initializer → Bool
is_one_expression (t.value_initializer e) = true
is_one_expression (t.braced_initializer at (t.more_initializers (t.value_initializer e) t.no_initializers)) = true
is_one_expression _ = false

-- a string of at most so many bytes, its zero byte not counted, for an array of a char type (C11 6.7.9p14)
abbrev pub is_string_for : CType → t.Initializer → Bool
is_string_for (array e n) (t.value_initializer (t.string_literal at bytes)) = is_character e && nat_le (length bytes) n
is_string_for (array e n) (t.braced_initializer at (t.more_initializers (t.value_initializer (t.string_literal at' bytes)) t.no_initializers)) = is_character e && nat_le (length bytes) n
is_string_for (unsized e) (t.value_initializer (t.string_literal at bytes)) = is_character e
is_string_for (unsized e) (t.braced_initializer at (t.more_initializers (t.value_initializer (t.string_literal at' bytes)) t.no_initializers)) = is_character e
is_string_for _ _ = false

-- a braced list of at most so many
abbrev pub is_list_for : Option ℕ → t.Initializer → Bool
is_list_for most (t.value_initializer e) = false
is_list_for None (t.braced_initializer at is) = true
is_list_for (Some n) (t.braced_initializer at is) = nat_le (initializer_count is) n

abbrev pub rule_16 : Structs → CType → t.Initializer → Bool
rule_16 known (integer k) i = is_one_expression i
rule_16 known (pointer c a) i = is_one_expression i
rule_16 known (array e n) i = if is_string_for (unsized e) i then is_string_for (array e n) i else is_list_for (Some n) i
rule_16 known (unsized e) i = is_string_for (unsized e) i || is_list_for None i
rule_16 known (struct n) (t.value_initializer e) = true
rule_16 known (struct n) i = is_list_for (Some (length (members_of known n))) i
rule_16 known void i = false
rule_16 known (function r ps) i = false

-- 17 (C11 6.5.16.1, 6.5.2.2p2, 6.7.9p11, 6.8.6.4p3). An initialising expression, the right side of `=`, an argument and
-- a returned value fit their target.
-- pointers to the same type, where the target's target may have const in addition
abbrev pub pointer_fits : CType → CType → Bool
pointer_fits (pointer c a) (pointer d b) = same_type a b && (c || not d)
pointer_fits _ _ = false

abbrev pub fits : CType → Operand → Bool
fits a x =
    (is_integer a && is_integer (value_type x))
    || (pointer_fits a (value_type x)
    || ((is_pointer a && is_integer_null x)
    || (is_struct a && same_type a (value_type x))))

abbrev pub rule_17 : CType → Operand → Bool
rule_17 a x = fits a x

-- 18 (C11 6.5.1p2). A name in an expression is declared before; a function's name stands only where it is called.
abbrev pub rule_18 : Option Entity → Bool
rule_18 (Some (an_object c a s)) = true
rule_18 (Some (an_enumerator z)) = true
rule_18 _ = false

-- 19 (C11 6.5.2.2p2). What is called is a function's name, with as many arguments as parameters.
abbrev pub rule_19 : Option Entity → ℕ → Bool
rule_19 (Some (a_function f c (function r ps))) arguments = nat_eq arguments (count_types ps)
rule_19 _ arguments = false

-- 20 (C11 6.5.2.1p1). `a[b]` has a pointer to a complete type and an integer, in either order.
abbrev pub rule_20 : Structs → Operand → Operand → Bool
rule_20 known x y =
    (points_to_complete known (value_type x) && is_integer (value_type y))
    || (is_integer (value_type x) && points_to_complete known (value_type y))

-- 21 (C11 6.5.2.3). `.` has a struct, `->` a pointer to a complete struct, with that member; by `.` an array member is
-- taken of an lvalue alone.
abbrev pub rule_21_dot : Structs → Operand → Name → Bool
rule_21_dot known x m = is_struct x.type && taken (find_member m (members_in known x.type))
  where
    taken : Option Member → Bool
    taken None = false
    taken (Some a) = x.is_lvalue || not (is_array a.type)

abbrev pub rule_21_arrow : Structs → Operand → Name → Bool
rule_21_arrow known x m = through (value_type x)
  where
    through : CType → Bool
    through (pointer c a) = is_struct a && (is_complete_in known a && has_member m (members_in known a))
    through _ = false

-- 22 (C11 6.5.3.2p1, 6.5.2.4p1, 6.5.3.1p1, 6.5.16p2). The operand of `&`, `++`, `--` and the left side of an assignment
-- are lvalues.
abbrev pub rule_22 : Operand → Bool
rule_22 x = x.is_lvalue

-- 23 (C11 6.3.2.1p1, 6.5.16p2). What `++`, `--` or an assignment changes has no const in its type or its members and
-- isn't an array.
-- of which of the structs before it a struct's members may be, each by whether it is free of const
abbrev pub free_in : List Bool → CType → Bool
free_in done (array e n) = free_in done e
free_in done (unsized e) = free_in done e
free_in done (struct n) = slice_index_or done n true
free_in done void = true
free_in done (integer i) = true
free_in done (pointer k t) = true
free_in done (function r ps) = true

abbrev pub members_free : List Bool → List Member → Bool
members_free done [] = true
members_free done (m ∷ ms) = (not m.constant && free_in done m.type) && members_free done ms

abbrev pub free_from : List Bool → Structs → List Bool
free_from done [] = done
free_from done (ms ∷ rest) = free_from (done ++ members_free done ms ∷ []) rest

abbrev pub rule_23 : Structs → Operand → Bool
rule_23 known x = not x.constant && (not (is_array x.type) && free_in (free_from [] known) x.type)

-- 24 (C11 6.5.3.2p2). Unary `*` has a pointer to a complete type.
abbrev pub rule_24 : Structs → Operand → Bool
rule_24 known x = points_to_complete known (value_type x)

-- 25 (C11 6.5.3.3p1, 6.5.13, 6.5.14, 6.5.15p2, 6.8.4.1p1, 6.8.5p2). Unary `+ - ~` has an integer; `!`, `&&`, `||` and a
-- condition have integers or pointers.
abbrev pub rule_25_arithmetic : Operand → Bool
rule_25_arithmetic x = is_integer (value_type x)

abbrev pub rule_25_condition : Operand → Bool
rule_25_condition x = is_scalar (value_type x)

-- 26 (C11 6.5.5, 6.5.7, 6.5.10 to 6.5.12). `* / % & ^ | << >>` have integers.
abbrev pub rule_26 : Operand → Operand → Bool
rule_26 x y = is_integer (value_type x) && is_integer (value_type y)

-- 27 (C11 6.5.6p2, p3). `+` has two integers or a pointer to a complete type and an integer; `-` has two integers, such
-- a pointer less an integer, or two such pointers to the same type, const aside.
abbrev pub rule_27_add : Structs → Operand → Operand → Bool
rule_27_add known x y = rule_26 x y || rule_20 known x y

abbrev pub rule_27_subtract : Structs → Operand → Operand → Bool
rule_27_subtract known x y =
    rule_26 x y
    || (points_to_complete known (value_type x) && (is_integer (value_type y) || are_like_pointers (value_type x) (value_type y)))

-- 28 (C11 6.5.8p2). `< > <= >=` have two integers, or two pointers to the same type, const aside.
abbrev pub rule_28 : Operand → Operand → Bool
rule_28 x y = rule_26 x y || are_like_pointers (value_type x) (value_type y)

-- 29 (C11 6.5.9p2). `== !=` have these, or a pointer and null.
abbrev pub rule_29 : Operand → Operand → Bool
rule_29 x y = rule_28 x y || ((is_pointer (value_type x) && is_integer_null y) || (is_integer_null x && is_pointer (value_type y)))

-- The binary operators (C11 6.5.5 to 6.5.14): the rule of each, what it says, and what the operator computes.

pub data Work : Type 0 where
  either_holds both_hold : Work
  -- of two integers in their common type
  of_numbers : store_op.BinaryOp → Work
  -- of two integers, each promoted by itself
  by_count : store_op.BinaryOp → Work
  -- of integers, or of pointers
  sum_of difference_of : Work
  comparison_of : Comparison → Work

pub record Operator : Type 0 where
  pub rule : ℕ
  pub says : Structs → Operand → Operand → Bool
  pub work : Work

abbrev pub both_conditions : Operand → Operand → Bool
both_conditions x y = rule_25_condition x && rule_25_condition y

abbrev pub operator : BinaryOp → Operator
operator b.Or = record { rule = 25; says = λ known. both_conditions; work = either_holds }
operator b.And = record { rule = 25; says = λ known. both_conditions; work = both_hold }
operator b.BitOr = record { rule = 26; says = λ known. rule_26; work = of_numbers s.BitOr }
operator b.BitXor = record { rule = 26; says = λ known. rule_26; work = of_numbers s.BitXor }
operator b.BitAnd = record { rule = 26; says = λ known. rule_26; work = of_numbers s.BitAnd }
operator b.Equal = record { rule = 29; says = λ known. rule_29; work = comparison_of c.Equal }
operator b.NotEqual = record { rule = 29; says = λ known. rule_29; work = comparison_of c.NotEqual }
operator b.Less = record { rule = 28; says = λ known. rule_28; work = comparison_of c.Less }
operator b.Greater = record { rule = 28; says = λ known. rule_28; work = comparison_of c.Greater }
operator b.LessEqual = record { rule = 28; says = λ known. rule_28; work = comparison_of c.LessOrEqual }
operator b.GreaterEqual = record { rule = 28; says = λ known. rule_28; work = comparison_of c.GreaterOrEqual }
operator b.ShiftLeft = record { rule = 26; says = λ known. rule_26; work = by_count s.ShiftLeft }
operator b.ShiftRight = record { rule = 26; says = λ known. rule_26; work = by_count s.ShiftRight }
operator b.Add = record { rule = 27; says = rule_27_add; work = sum_of }
operator b.Subtract = record { rule = 27; says = rule_27_subtract; work = difference_of }
operator b.Multiply = record { rule = 26; says = λ known. rule_26; work = of_numbers s.Multiply }
operator b.Divide = record { rule = 26; says = λ known. rule_26; work = of_numbers s.Divide }
operator b.Remainder = record { rule = 26; says = λ known. rule_26; work = of_numbers s.Remainder }

abbrev pub rule_of : BinaryOp → ℕ
rule_of op = (operator op).rule

abbrev pub allows : Structs → BinaryOp → Operand → Operand → Bool
allows known op x y = (operator op).says known x y

-- 30 (C11 6.5.16.2, 6.5.2.4p1, 6.5.3.1p1). `a op= b` is right as `a op b` and its value fits a; `++` and `--` have an
-- integer or a pointer to a complete type. A pointer stands only on the left.
abbrev pub rule_30_assign : Structs → BinaryOp → Operand → Operand → Bool
rule_30_assign known op x y = allows known op x y && ((is_integer (value_type x) && is_integer (value_type y)) || (is_pointer (value_type x) && is_integer (value_type y)))

abbrev pub rule_30_step : Structs → Operand → Bool
rule_30_step known x = is_integer (value_type x) || points_to_complete known (value_type x)

-- 31 (C11 6.5.15p3). The two results of `?:` are integers, both void, the same struct, pointers to the same type, or a
-- pointer and null.
abbrev pub rule_31 : Operand → Operand → Bool
rule_31 x y =
    rule_26 x y
    || ((is_void x.type && is_void y.type)
    || ((is_struct x.type && same_type x.type y.type)
    || ((is_pointer (value_type x) && same_type (value_type x) (value_type y))
    || ((is_pointer (value_type x) && is_integer_null y)
    || (is_integer_null x && is_pointer (value_type y))))))

-- 32 (C11 6.5.4; the profile). A cast is from an integer to an integer type, or to void.
abbrev pub rule_32 : CType → Operand → Bool
rule_32 a x = is_void a || (is_integer a && is_integer (value_type x))

-- 33 (C11 6.5.3.4p1). The operand of `sizeof` has a complete object type.
abbrev pub rule_33 : Structs → CType → Bool
rule_33 known a = is_complete_in known a

-- 34 (C11 6.8.1, 6.8.4.2, 6.8.6). `break` stands in a loop or switch, `continue` in a loop; `case` and `default` stand
-- directly in the block of a switch or directly after another such label there, their constants differing and one
-- default at most; a switch has an integer; `return` has a value exactly where the function's result isn't void.
-- where a statement stands: in a loop, in a switch, and directly in a switch's block (behind its labels too)
pub record Position : Type 0 where
  pub in_loop : Bool
  pub in_switch : Bool
  pub is_direct : Bool

abbrev pub rule_34_break : Position → Bool
rule_34_break p = p.in_loop || p.in_switch

abbrev pub rule_34_continue : Position → Bool
rule_34_continue p = p.in_loop

abbrev pub rule_34_label : Position → Bool
rule_34_label p = p.is_direct

abbrev pub is_among : ℤ → List ℤ → Bool
is_among z [] = false
is_among z (y ∷ ys) = int_eq z y || is_among z ys

-- a constant, converted to the switch's promoted type, and those of the labels before it (C11 6.8.4.2p3, p5)
abbrev pub rule_34_constant : ℤ → List ℤ → Bool
rule_34_constant z before = not (is_among z before)

-- how many `default` stand before
abbrev pub rule_34_default : ℕ → Bool
rule_34_default before = nat_eq before 0

abbrev pub rule_34_switch : Operand → Bool
rule_34_switch x = is_integer (value_type x)

abbrev pub rule_34_return : CType → Bool → Bool
rule_34_return result has_value = if is_void result then not has_value else has_value
