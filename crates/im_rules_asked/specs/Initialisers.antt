-- What goes where in an object that an initialiser gives, and what the rules ask of it (C11 6.7.9).
use Rattle.std.specs.Prelude.{ℕ, ◌+◌, false, List, [], ◌∷◌, ◌++◌}
use Rattle.im_rules.specs.im_ctree.Tree as t
use Rattle.im_rules.specs.im_ctype.declared.member.MemberPlace.{MemberPlace}
use Rattle.im_rules.specs.im_ctype.Types.{CType, Member, Structs, members_of}
use Rattle.im_rules.specs.im_ctype.Members.{places}
use Rattle.im_rules.specs.Context.{Context, behind_strings}
use Rattle.im_rules.specs.Terms.{size_in}
use Rattle.im_rules.specs.Demands.{asks}
use Rattle.im_rules.specs.Initialisers.{Shape, one, bytes, elements, members, misshapen, shape, strings_given, from_term, Item, item, byte_items, shape_asks, value_asks}
use Rattle.im_rules.specs.BodyBreaks.{initialiser_token}
use Rattle.im_rules.specs.Breaks.{first_token}
use Rattle.im_rules_asked.specs.Asked.{Asked, node, both, one as one_part, only, leaf, nothing_asked}
use Rattle.im_rules_asked.specs.Expressions.{term, asked}

-- the places of a braced list: elements of one type side by side, or members in order
pub data Places : Type 0 where
  side_by_side : CType → Places
  in_order : List Member → List MemberPlace → Places

abbrev pub places_in : Structs → Shape → Places
places_in known (elements e is) = side_by_side e
places_in known (members n is) = in_order (members_of known n) (places known n)
places_in known s = in_order [] []

-- by an initialiser's shape: one expression, a string's bytes, or what its braces give
abbrev pub shaped : Context → CType → ℕ → Shape → List Item → List Item
shaped c a at (one e) inner = item at a (from_term e (term c e)) ∷ []
shaped c a at (bytes e s) inner = byte_items at e s
shaped c a at (elements e is) inner = inner
shaped c a at (members n is) inner = inner
shaped c a at misshapen inner = []

abbrev mutual
  -- an object of that type, so many bytes from the start of the whole
  pub items : Context → CType → ℕ → t.Initializer → List Item
  items c a at (t.value_initializer e) = shaped c a at (shape a (t.value_initializer e)) []
  items c a at (t.braced_initializer k is) =
      shaped c a at (shape a (t.braced_initializer k is)) (items_among c (places_in c.known (shape a (t.braced_initializer k is))) at is)

  pub items_among : Context → Places → ℕ → t.Initializers → List Item
  items_among c k at t.no_initializers = []
  items_among c (side_by_side e) at (t.more_initializers i is) =
      items c e at i ++ items_among (behind_strings (strings_given c.known e i) c) (side_by_side e) (at + size_in c.known e) is
  items_among c (in_order (m ∷ ms) (o ∷ os)) at (t.more_initializers i is) =
      items c m.type (at + o.offset) i ++ items_among (behind_strings (strings_given c.known m.type i) c) (in_order ms os) at is
  items_among c k at is = []

-- an initialiser that has no place, or no shape of its object's type
abbrev pub misplaced : ℕ → Asked
misplaced token = leaf token (asks 16 false ∷ [])

-- the node of an initialising expression is the initialiser
abbrev pub shaped_asked : Context → CType → ℕ → Shape → Asked → Asked
shaped_asked c a token (one e) inner = node token (value_asks a (term c e)) (one_part (asked c e))
shaped_asked c a token (bytes e s) inner = nothing_asked
shaped_asked c a token (elements e is) inner = inner
shaped_asked c a token (members n is) inner = inner
shaped_asked c a token misshapen inner = misplaced token

abbrev pub initialiser_asked : Context → CType → t.Initializer → Asked → Asked
initialiser_asked c a i inner =
    only (both (leaf (initialiser_token i) (shape_asks c.known a i)) (shaped_asked c a (initialiser_token i) (shape a i) inner))

abbrev mutual
  pub items_asked : Context → CType → t.Initializer → Asked
  items_asked c a (t.value_initializer e) = initialiser_asked c a (t.value_initializer e) (misplaced (first_token e))
  items_asked c a (t.braced_initializer k is) =
      initialiser_asked c a (t.braced_initializer k is) (among_asked c (places_in c.known (shape a (t.braced_initializer k is))) is)

  pub among_asked : Context → Places → t.Initializers → Asked
  among_asked c k t.no_initializers = nothing_asked
  among_asked c (side_by_side e) (t.more_initializers i is) =
      only (both (items_asked c e i) (among_asked (behind_strings (strings_given c.known e i) c) (side_by_side e) is))
  among_asked c (in_order (m ∷ ms) (o ∷ os)) (t.more_initializers i is) =
      only (both (items_asked c m.type i) (among_asked (behind_strings (strings_given c.known m.type i) c) (in_order ms os) is))
  among_asked c k (t.more_initializers i is) = misplaced (initialiser_token i)
