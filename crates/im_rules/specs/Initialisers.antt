-- Initialisers (C11 6.7.9): from an object's type and the initialiser's shape to what goes where. What has no item is
-- cleared.
use Rattle.std.specs.Prelude.{ℕ, ◌+◌, pos, List, [], ◌∷◌, ◌++◌, map, length, if◌then◌else◌}
use Rattle.im_ctree.specs.im_word.Words.{Name}
use Rattle.im_ctree.specs.im_num.Kinds.{wrap}
use Rattle.im_ctree.specs.Tree as t
use Rattle.im_typed.specs.im_ctype.declared.member.MemberPlace.{MemberPlace}
use Rattle.im_typed.specs.im_ctype.Types.{CType, void, integer, pointer, array, unsized, struct, function, Member, Structs, members_of}
use Rattle.im_typed.specs.im_ctype.Members.{places}
use Rattle.im_typed.specs.Program.{Constant, Piece}
use Rattle.im_rules.specs.Rules.{is_string_for, initializer_count, rule_16, rule_17}
use Rattle.im_rules.specs.Strings.{strings_in}
use Rattle.im_rules.specs.Context.{Context, behind_strings}
use Rattle.im_rules.specs.Terms.{Term, operand_of, value_of, access_of, size_in, kind_in}
use Rattle.im_rules.specs.Conversions.{as_type}
use Rattle.im_rules.specs.Demands.{Demand, asks, Meets}
use Rattle.im_rules.specs.Typed.{Typed}

-- which form of initialiser stands for which type
pub data Shape : Type 0 where
  -- one expression, in braces or not
  one : t.Expression → Shape
  -- the bytes of a string, for elements of this type
  bytes : CType → Name → Shape
  -- elements of this type, side by side
  elements : CType → t.Initializers → Shape
  -- members of the struct of that number, in order
  members : ℕ → t.Initializers → Shape
  -- the rule on shapes refuses it
  misshapen : Shape

abbrev pub string_shape : CType → t.Initializer → Shape
string_shape e (t.value_initializer (t.string_literal at s)) = bytes e s
string_shape e (t.braced_initializer at (t.more_initializers (t.value_initializer (t.string_literal at' s)) t.no_initializers)) = bytes e s
string_shape e i = misshapen

abbrev pub one_shape : t.Initializer → Shape
one_shape (t.value_initializer e) = one e
one_shape (t.braced_initializer at (t.more_initializers (t.value_initializer e) t.no_initializers)) = one e
one_shape i = misshapen

abbrev pub element_shape : CType → t.Initializer → Shape
element_shape e (t.braced_initializer at is) = elements e is
element_shape e i = misshapen

abbrev pub struct_shape : ℕ → t.Initializer → Shape
struct_shape n (t.value_initializer e) = one e
struct_shape n (t.braced_initializer at is) = members n is

abbrev pub shape : CType → t.Initializer → Shape
shape (integer k) i = one_shape i
shape (pointer c a) i = one_shape i
shape (array e n) i = if is_string_for (array e n) i then string_shape e i else element_shape e i
shape (struct n) i = struct_shape n i
shape void i = misshapen
shape (unsized e) i = misshapen
shape (function r ps) i = misshapen

-- a length that isn't written is counted in the initialiser (C11 6.7.9p22); of a string with its zero
abbrev pub counted : CType → t.Initializer → ℕ
counted e (t.value_initializer (t.string_literal at s)) = length s + 1
counted e (t.braced_initializer at (t.more_initializers (t.value_initializer (t.string_literal at' s)) t.no_initializers)) =
    if is_string_for (unsized e) (t.value_initializer (t.string_literal at' s)) then length s + 1 else 1
counted e (t.braced_initializer at is) = initializer_count is
counted e i = 0

abbrev pub completed : CType → t.MaybeInitializer → CType
completed (unsized e) (t.an_initializer i) = array e (counted e i)
completed a i = a

-- the places of a braced list: elements of one type, or members in order
pub data Slots : Type 0 where
  side_by_side : CType → Slots
  in_order : List Member → Slots

abbrev pub slots_of : Structs → CType → Slots
slots_of known (array e n) = side_by_side e
slots_of known (unsized e) = side_by_side e
slots_of known (struct n) = in_order (members_of known n)
slots_of known void = side_by_side void
slots_of known (integer i) = side_by_side (integer i)
slots_of known (pointer k t) = side_by_side (pointer k t)
slots_of known (function r ps) = side_by_side (function r ps)

abbrev pub first_slot : Slots → CType
first_slot (side_by_side e) = e
first_slot (in_order []) = void
first_slot (in_order (m ∷ ms)) = m.type

abbrev pub other_slots : Slots → Slots
other_slots (side_by_side e) = side_by_side e
other_slots (in_order []) = in_order []
other_slots (in_order (m ∷ ms)) = in_order ms

abbrev mutual
  -- the string literals of an initialiser that initialise no array, in source order
  pub strings_given : Structs → CType → t.Initializer → List Name
  strings_given known a (t.value_initializer e) = if is_string_for a (t.value_initializer e) then [] else strings_in e
  strings_given known a (t.braced_initializer at is) =
      if is_string_for a (t.braced_initializer at is) then [] else strings_among known (slots_of known a) is

  pub strings_among : Structs → Slots → t.Initializers → List Name
  strings_among known k t.no_initializers = []
  strings_among known k (t.more_initializers i is) = strings_given known (first_slot k) i ++ strings_among known (other_slots k) is

-- what goes to a place: an expression that is typed, or a byte of a string
pub data Source : Type 0 where
  from_term : t.Expression → Term → Source
  from_byte : ℕ → Source

-- bytes from the object's start, the type there, and what goes there
pub record Item : Type 0 where
  pub offset : ℕ
  pub type : CType
  pub source : Source

abbrev pub item : ℕ → CType → Source → Item
item at a s = record { offset = at; type = a; source = s }

abbrev pub byte_items : ℕ → CType → Name → List Item
byte_items at e [] = []
byte_items at e (b ∷ bs) = item at e (from_byte b) ∷ byte_items (at + 1) e bs

abbrev pub shape_asks : Structs → CType → t.Initializer → List Demand
shape_asks known a i = asks 16 (rule_16 known a i) ∷ []

abbrev pub value_asks : CType → Term → List Demand
value_asks a x = asks 17 (rule_17 a (operand_of x)) ∷ []

mutual
  -- an object of that type, so many bytes from the start of the whole
  pub data Initialised : Context → CType → ℕ → t.Initializer → List Item → Type 0 where
    initialised : {c : Context} {a : CType} {at : ℕ} {i : t.Initializer} {ps : List Item}
        → Meets (shape_asks c.known a i)
        → Shaped c a at (shape a i) ps
        → Initialised c a at i ps

  pub data Shaped : Context → CType → ℕ → Shape → List Item → Type 0 where
    of_one : {c : Context} {a : CType} {at : ℕ} {e : t.Expression} {x : Term}
        → Typed c e x
        → Meets (value_asks a x)
        → Shaped c a at (one e) (item at a (from_term e x) ∷ [])
    of_bytes : {c : Context} {a e : CType} {at : ℕ} {s : Name} → Shaped c a at (bytes e s) (byte_items at e s)
    of_elements : {c : Context} {a e : CType} {at : ℕ} {is : t.Initializers} {ps : List Item}
        → Elements c e at is ps
        → Shaped c a at (elements e is) ps
    of_members : {c : Context} {a : CType} {n at : ℕ} {is : t.Initializers} {ps : List Item}
        → InMembers c (members_of c.known n) (places c.known n) at is ps
        → Shaped c a at (members n is) ps

  -- elements side by side
  pub data Elements : Context → CType → ℕ → t.Initializers → List Item → Type 0 where
    no_element : {c : Context} {e : CType} {at : ℕ} → Elements c e at t.no_initializers []
    an_element : {c : Context} {e : CType} {at : ℕ} {i : t.Initializer} {is : t.Initializers} {ps qs : List Item}
        → Initialised c e at i ps
        → Elements (behind_strings (strings_given c.known e i) c) e (at + size_in c.known e) is qs
        → Elements c e at (t.more_initializers i is) (ps ++ qs)

  -- members in order, each at its place
  pub data InMembers : Context → List Member → List MemberPlace → ℕ → t.Initializers → List Item → Type 0 where
    no_member : {c : Context} {ms : List Member} {os : List MemberPlace} {at : ℕ} → InMembers c ms os at t.no_initializers []
    a_member : {c : Context} {m : Member} {ms : List Member} {o : MemberPlace} {os : List MemberPlace} {at : ℕ} {i : t.Initializer} {is : t.Initializers} {ps qs : List Item}
        → Initialised c m.type (at + o.offset) i ps
        → InMembers (behind_strings (strings_given c.known m.type i) c) ms os at is qs
        → InMembers c (m ∷ ms) (o ∷ os) at (t.more_initializers i is) (ps ++ qs)

-- an item as a piece of a declaration in a block: converted to the type there, as a byte over 127 is to signed char
abbrev pub piece_by : Structs → ℕ → CType → Source → Piece
piece_by known at a (from_term e x) = record { offset = at; access = access_of known a; value = as_type a (value_of known x) }
piece_by known at a (from_byte b) = record { offset = at; access = access_of known a; value = Constant (kind_in a) (wrap (kind_in a) (pos b)) }

abbrev pub piece_of : Structs → Item → Piece
piece_of known p = piece_by known p.offset p.type p.source

abbrev pub pieces_of : Structs → List Item → List Piece
pieces_of known ps = map (piece_of known) ps
