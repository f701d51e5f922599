-- What the rules ask about types, beside what the types themselves tell.
use Rattle.std.specs.Prelude.{ℕ, ◌+◌, Bool, true, false, ◌&&◌, ◌||◌, List, [], ◌∷◌, length, nat_eq, Option, Some, None, if◌then◌else◌}
use Rattle.im_ctree.specs.im_word.Words.{Name}
use Rattle.im_typed.specs.im_ctype.Types.{CType, void, integer, pointer, array, unsized, struct, function, CTypes, no_types, more_types, Member, Structs, members_of, is_complete}

-- a complete object type, by the structs whose member lists have ended (C11 6.2.5p1, p22)
abbrev pub is_complete_in : Structs → CType → Bool
is_complete_in known t = is_complete (length known) t

-- a pointer to a complete type
abbrev pub points_to_complete : Structs → CType → Bool
points_to_complete known (pointer c t) = is_complete_in known t
points_to_complete known _ = false

abbrev pub same_name : Name → Name → Bool
same_name [] [] = true
same_name (a ∷ as') (b ∷ bs) = nat_eq a b && same_name as' bs
same_name _ _ = false

-- the members of a struct that is complete
abbrev pub members_in : Structs → CType → List Member
members_in known (struct n) = members_of known n
members_in known _ = []

-- the member of that name, and its place in the list
abbrev pub find_member : Name → List Member → Option Member
find_member x [] = None
find_member x (m ∷ ms) = if same_name m.name x then Some m else find_member x ms

abbrev pub has_member : Name → List Member → Bool
has_member x [] = false
has_member x (m ∷ ms) = same_name m.name x || has_member x ms

-- as a value an array is a pointer to its first element (C11 6.3.2.1p3); whether its elements are const
abbrev pub decayed : Bool → CType → CType
decayed constant (array t n) = pointer constant t
decayed constant (unsized t) = pointer constant t
decayed constant void = void
decayed constant (integer i) = integer i
decayed constant (pointer k t) = pointer k t
decayed constant (struct n) = struct n
decayed constant (function r ps) = function r ps

-- what a pointer points to
abbrev pub target_of : CType → CType
target_of (pointer c t) = t
target_of t = t

abbrev pub target_constant : CType → Bool
target_constant (pointer c t) = c
target_constant t = false

abbrev pub count_types : CTypes → ℕ
count_types no_types = 0
count_types (more_types p ps) = 1 + count_types ps

abbrev pub result_of : CType → CType
result_of (function r ps) = r
result_of t = void

abbrev pub parameters_of : CType → CTypes
parameters_of (function r ps) = ps
parameters_of t = no_types
