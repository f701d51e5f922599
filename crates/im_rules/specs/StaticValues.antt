-- The first value of a static (C11 6.6p7 to p9, 6.7.9p4, p10): what its initialiser's expressions are as constants, and
-- what each of its cells has.
use Rattle.std.specs.Prelude.{ℕ, ℤ, pos, negsuc, ◌+ℤ◌, ◌*ℤ◌, neg_ℤ, Bool, true, false, ◌&&◌, List, [], ◌∷◌, map, Option, Some, None, is_some, nat_eq, if◌then◌else◌}
use Rattle.im_ctree.specs.declared.operator.UnaryOp.TheVariants as o
use Rattle.im_ctree.specs.Tree as t
use Rattle.im_typed.specs.im_ctype.declared.cell.Cell.{Cell}
use Rattle.im_typed.specs.im_ctype.Types.{Structs}
use Rattle.im_typed.specs.im_store.Objects.{Value, Number, Null, Pointer, static}
pub use Rattle.im_typed.specs.im_store.Objects.{zero_of}
use Rattle.im_typed.specs.Program.{Place, Static, Local, Target, Member, Expr, NullPointer, Address, Move, MoveBy, Piece}
use Rattle.im_rules.specs.Constants.{constant_value}
use Rattle.im_rules.specs.Rules.{is_within, rule_14}
use Rattle.im_rules.specs.Demands.{Demand, asks}
use Rattle.im_rules.specs.Breaks.{first_token}
use Rattle.im_rules.specs.Initialisers.{Source, from_term, from_byte, Item, piece_of}

-- a place in a static, or at its end: the static's number, and bytes from its start
pub record Spot : Type 0 where
  pub object : ℕ
  pub offset : ℕ

abbrev pub natural : ℤ → ℕ
natural (pos n) = n
natural (negsuc n) = 0

-- each step is kept within 0 to the object's size
abbrev pub kept : (ℕ → ℕ) → ℕ → ℤ → Option Spot
kept size n z = if is_within (size n) z then Some (record { object = n; offset = natural z }) else None

abbrev pub moved_spot : (ℕ → ℕ) → Option Spot → Option ℤ → Option Spot
moved_spot size None z = None
moved_spot size (Some s) None = None
moved_spot size (Some s) (Some z) = kept size s.object (pos s.offset +ℤ z)

-- so many elements of so many bytes, to lower offsets if `back`
abbrev pub bytes_moved : ℕ → Bool → Option ℤ → Option ℤ
bytes_moved size back None = None
bytes_moved size back (Some z) = Some (if back then neg_ℤ (z *ℤ pos size) else z *ℤ pos size)

-- a static, or a part of one that is reached by `.` and constant `[]`; and the address of such a place, with a constant
-- added or taken away
abbrev mutual
  pub spot_of : (ℕ → ℕ) → Place → Option Spot
  spot_of size (Static n) = Some (record { object = n; offset = 0 })
  spot_of size (Local n) = None
  spot_of size (Target e) = address_of size e
  spot_of size (Member p d) = moved_spot size (spot_of size p) (Some (pos d))

  pub address_of : (ℕ → ℕ) → Expr → Option Spot
  address_of size (Address p) = spot_of size p
  address_of size (Move bytes back e by) = moved_spot size (address_of size e) (bytes_moved bytes back (constant_value by))
  address_of size (MoveBy bytes by e) = moved_spot size (address_of size e) (bytes_moved bytes false (constant_value by))
  address_of size e = None

-- no unary `*` and no `->` reaches what it designates: these aren't among the ways of an address constant
abbrev pub is_reached_directly : t.Expression → Bool
is_reached_directly (t.unary at o.Dereference e) = false
is_reached_directly (t.unary at op e) = is_reached_directly e
is_reached_directly (t.arrow_to at e m) = false
is_reached_directly (t.member_of at e m) = is_reached_directly e
is_reached_directly (t.index at a b) = is_reached_directly a && is_reached_directly b
is_reached_directly (t.binary at op a b) = is_reached_directly a && is_reached_directly b
is_reached_directly e = true

abbrev pub pointer_to : Option Spot → Option Value
pointer_to None = None
pointer_to (Some s) = Some (Pointer (static s.object) s.offset)

abbrev pub number_or : Option ℤ → Option Value → Option Value
number_or None v = v
number_or (Some z) v = Some (Number z)

-- the value of an expression as a constant; none where it is neither a constant expression nor an address constant.
-- `size` has the bytes of each static
abbrev pub static_value : (ℕ → ℕ) → Expr → Option Value
static_value size (NullPointer kind) = Some Null
static_value size e = number_or (constant_value e) (pointer_to (address_of size e))

abbrev pub is_source_reached : Source → Bool
is_source_reached (from_term e x) = is_reached_directly e
is_source_reached (from_byte b) = true

-- the rule on static initialisers, of an item: its node is the initialiser
abbrev pub constant_asks : (ℕ → ℕ) → Structs → Item → List Demand
constant_asks size known p =
    asks 14 (rule_14 (is_source_reached p.source && is_some (static_value size (piece_of known p).value))) ∷ []

abbrev pub source_token : Source → ℕ
source_token (from_term e x) = first_token e
source_token (from_byte b) = 0

abbrev pub item_token : Item → ℕ
item_token p = source_token p.source

-- cells

abbrev pub value_or : Value → Option Value → Value
value_or v None = v
value_or v (Some w) = w

-- what the pieces give the cell at an offset; zero or null where none stands
abbrev pub cell_value : (ℕ → ℕ) → Cell → List Piece → Value
cell_value size c [] = zero_of c.kind
cell_value size c (p ∷ ps) =
    if nat_eq p.offset c.offset then value_or (zero_of c.kind) (static_value size p.value) else cell_value size c ps

abbrev pub cell_values : (ℕ → ℕ) → List Cell → List Piece → List Value
cell_values size cs ps = map {A = Cell} (λ c. cell_value size c ps) cs
