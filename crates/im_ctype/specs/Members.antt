-- Where the members of a struct lie (C11 6.7.2.1p15): each at its offset, its cells side by side from its first cell on.
use Rattle.std.specs.Prelude.{ℕ, List, [], ◌∷◌, ◌++◌, length}
use Rattle.im_ctype.specs.declared.cell.Cell.{Cell}
use Rattle.im_ctype.specs.declared.member.MemberPlace.{MemberPlace}
use Rattle.im_ctype.specs.Types.{Member, Structs, members_of}
use Rattle.im_ctype.specs.Layout.{Layout, empty_layout, moved, round_up, layout_in, layouts, with_member}

-- the place of a member that follows those so far
abbrev pub place_behind : Layout → Layout → MemberPlace
place_behind so_far member = record { offset = round_up so_far.size member.align; first_cell = length so_far.cells }

abbrev pub places_from : List Layout → List Member → Layout → List MemberPlace
places_from done [] so_far = []
places_from done (m ∷ ms) so_far =
    place_behind so_far (layout_in done m.type) ∷ places_from done ms (with_member so_far (layout_in done m.type))

-- the places of these members, in their order
abbrev pub places_in : List Layout → List Member → List MemberPlace
places_in done ms = places_from done ms empty_layout

-- the places of the members of the struct of that number
abbrev pub places : Structs → ℕ → List MemberPlace
places structs n = places_in (layouts structs) (members_of structs n)

-- the cells of these members, each moved to its place
abbrev pub member_cells : List Layout → List Member → List MemberPlace → List Cell
member_cells done [] ps = []
member_cells done (m ∷ ms) [] = []
member_cells done (m ∷ ms) (p ∷ ps) = moved p.offset (layout_in done m.type).cells ++ member_cells done ms ps
