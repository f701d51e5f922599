-- The types of the language (C11 6.2.5), as the definitions see them; and what is asked of one or two of them.
use Rattle.std.specs.Prelude.{ℕ, Bool, true, false, not, ◌&&◌, ◌||◌, List, [], nat_eq, nat_lt, slice_get, Option, Some, None}
use Rattle.im_num.specs.declared.kind.Kind.{Kind}
use Rattle.im_num.specs.declared.kind.Kind.TheVariants.{I8, U8, I16, U16, I32, U32}
use Rattle.im_ctype.specs.declared.integer.Integer.{Integer}
use Rattle.im_ctype.specs.declared.integer.Traits.{Traits}
use Rattle.im_ctype.specs.declared.integer.Integer.TheVariants.{Char, SignedChar, UnsignedChar, Short, UnsignedShort, Int, UnsignedInt, Long, UnsignedLong}

mutual
  pub data CType : Type 0 where
    void : CType
    integer : Integer → CType
    -- `constant` says that what it points to is const; of an array, that its elements are
    pointer : (constant : Bool) (target : CType) → CType
    array : (element : CType) (count : ℕ) → CType
    -- an array whose length is not written
    unsized : (element : CType) → CType
    -- named by its number, in the order in which the member lists of the unit end; a struct without a list has a number
    -- past those
    struct : (number : ℕ) → CType
    function : (result : CType) (parameters : CTypes) → CType

  pub data CTypes : Type 0 where
    no_types : CTypes
    more_types : CType → CTypes → CTypes

-- a member of a struct; `constant` says that it is const itself
pub record Member : Type 0 where
  pub name : List ℕ
  pub constant : Bool
  pub type : CType

-- the structs whose member lists have ended, in that order, each by its members
abbrev pub Structs : Type 0
Structs = List (List Member)

-- the members of the struct of that number
abbrev pub members_at : Option (List Member) → List Member
members_at None = []
members_at (Some ms) = ms

abbrev pub members_of : Structs → ℕ → List Member
members_of structs n = members_at (slice_get structs n)

-- the kind of a cell of an integer type; plain char is unsigned
abbrev pub kind_of : Integer → Kind
kind_of Char = U8
kind_of SignedChar = I8
kind_of UnsignedChar = U8
kind_of Short = I16
kind_of UnsignedShort = U16
kind_of Int = I32
kind_of UnsignedInt = U32
kind_of Long = I32
kind_of UnsignedLong = U32

abbrev pub signed_of : (rank bits : ℕ) → Traits
signed_of rank bits = record { rank = rank; bits = bits; is_signed = true }

abbrev pub unsigned_of : (rank bits : ℕ) → Traits
unsigned_of rank bits = record { rank = rank; bits = bits; is_signed = false }

-- the rank, the bits and the sign of an integer type (C11 6.3.1.1p1, 6.2.6.2p6); plain char is unsigned (C11 6.2.5p15)
abbrev pub traits : Integer → Traits
traits Char = unsigned_of 1 8
traits SignedChar = signed_of 1 8
traits UnsignedChar = unsigned_of 1 8
traits Short = signed_of 2 16
traits UnsignedShort = unsigned_of 2 16
traits Int = signed_of 3 32
traits UnsignedInt = unsigned_of 3 32
traits Long = signed_of 4 32
traits UnsignedLong = unsigned_of 4 32

abbrev pub is_void : CType → Bool
is_void void = true
is_void _ = false

abbrev pub is_integer : CType → Bool
is_integer (integer i) = true
is_integer _ = false

-- C11 6.2.5p15: the three character types
abbrev pub is_character : CType → Bool
is_character (integer Char) = true
is_character (integer SignedChar) = true
is_character (integer UnsignedChar) = true
is_character _ = false

abbrev pub is_pointer : CType → Bool
is_pointer (pointer c t) = true
is_pointer _ = false

abbrev pub is_array : CType → Bool
is_array (array t n) = true
is_array (unsized t) = true
is_array _ = false

abbrev pub is_struct : CType → Bool
is_struct (struct n) = true
is_struct _ = false

abbrev pub is_function : CType → Bool
is_function (function r ps) = true
is_function _ = false

-- an integer or a pointer (C11 6.2.5p21, of the profile)
abbrev pub is_scalar : CType → Bool
is_scalar t = is_integer t || is_pointer t

-- a complete object type, where so many structs have their member lists (C11 6.2.5p1, p22)
abbrev pub is_complete : ℕ → CType → Bool
is_complete known void = false
is_complete known (integer i) = true
is_complete known (pointer c t) = true
is_complete known (array t n) = nat_lt 0 n && is_complete known t
is_complete known (unsized t) = false
is_complete known (struct n) = nat_lt n known
is_complete known (function r ps) = false

-- the integer types by number: by it they are told apart
abbrev pub integer_number : Integer → ℕ
integer_number Char = 0
integer_number SignedChar = 1
integer_number UnsignedChar = 2
integer_number Short = 3
integer_number UnsignedShort = 4
integer_number Int = 5
integer_number UnsignedInt = 6
integer_number Long = 7
integer_number UnsignedLong = 8

abbrev pub same_integer : Integer → Integer → Bool
same_integer i j = nat_eq (integer_number i) (integer_number j)

abbrev pub same_bool : Bool → Bool → Bool
same_bool true b = b
same_bool false b = not b

abbrev mutual
  -- two types are the same where they are equal in structure (C11 6.2.7). That a type is the same as itself and as no
  -- other is said by the law `same_type_law`
  pub same_type : CType → CType → Bool
  same_type void void = true
  same_type (integer i) (integer j) = same_integer i j
  same_type (pointer c a) (pointer d b) = same_bool c d && same_type a b
  same_type (array a m) (array b n) = nat_eq m n && same_type a b
  same_type (unsized a) (unsized b) = same_type a b
  same_type (struct m) (struct n) = nat_eq m n
  same_type (function r ps) (function s qs) = same_type r s && same_types ps qs
  same_type _ _ = false

  pub same_types : CTypes → CTypes → Bool
  same_types no_types no_types = true
  same_types (more_types p ps) (more_types q qs) = same_type p q && same_types ps qs
  same_types _ _ = false

-- two pointers to the same type, const aside
abbrev pub are_like_pointers : CType → CType → Bool
are_like_pointers (pointer c a) (pointer d b) = same_type a b
are_like_pointers _ _ = false
