-- The cells of a struct, from its members as the table has them.
use Rattle.std.proofs.Common.{◌≡◌, ℕ, ◌≤◌, List, [], ◌∷◌, ◌++◌, drop, length, refl, sym, ap, ◌∙◌}
use Rattle.std.proofs.Math.ListN.{drop_of_length-le}
use Rattle.std.proofs.lemmas.List.{append-nil}
use Rattle.im_ctype.specs.declared.cell.Cell.{Cell}
use Rattle.im_ctype.specs.declared.member.Member.{Member}
use Rattle.im_ctype.specs.declared.member.MemberPlace.{MemberPlace}
use Rattle.im_ctype.specs.Types.{members_of, struct}
use Rattle.im_ctype.specs.Layout.{moved, layouts, layout, layout_at}
use Rattle.im_ctype.specs.Members.{places, member_cells}
use Rattle.im_ctype.specs.Table.{Table, layout_of, members_in, members_at, types_of, structs_of}
use Rattle.im_ctype.proofs.Steps.{plain-members}

-- the cells of these members at these places
abbrev pub row_cells : Table → List Member → List MemberPlace → List Cell
row_cells types [] ps = []
row_cells types (m ∷ ms) [] = []
row_cells types (m ∷ ms) (p ∷ ps) = moved p.offset (layout_of types m.ty).cells ++ row_cells types ms ps

module _ (types : Table) where
  rows : (ms : List Member) (ps : List MemberPlace) → row_cells types ms ps ≡ member_cells (layouts (structs_of types)) (members_in (types_of types) ms) ps
  rows [] ps = refl
  rows (m ∷ ms) [] = refl
  rows (m ∷ ms) (p ∷ ps) = ap (λ cs. moved p.offset (layout_of types m.ty).cells ++ cs) (rows ms ps)

  no-places : (ms : List Member) → row_cells types ms [] ≡ []
  no-places [] = refl
  no-places (m ∷ ms) = refl

  -- behind the last place, and behind the last member, there are no cells
  pub none_left : (ms : List Member) (ps : List MemberPlace) (i : ℕ) → length ps ≤ i → row_cells types (drop i ms) (drop i ps) ≡ []
  none_left ms ps i h = ap (λ x. row_cells types (drop i ms) x) (drop_of_length-le ps h) ∙ no-places (drop i ms)

  pub no_more : (ms : List Member) (ps : List MemberPlace) (i : ℕ) → length ms ≤ i → row_cells types (drop i ms) (drop i ps) ≡ []
  no_more ms ps i h = ap (λ x. row_cells types x (drop i ps)) (drop_of_length-le ms h)

  -- all of them are the struct's
  pub all_cells : (n : ℕ) → (layout (structs_of types) (struct n)).cells ≡ member_cells (layouts (structs_of types)) (members_of (structs_of types) n) (places (structs_of types) n) → row_cells types (members_at types n) (places (structs_of types) n) ≡ (layout_at (layouts (structs_of types)) n).cells
  all_cells n law =
      rows (members_at types n) (places (structs_of types) n)
      ∙ ap (λ ms. member_cells (layouts (structs_of types)) ms (places (structs_of types) n)) (sym (plain-members types n))
      ∙ sym law

  -- all of them are found
  pub finished : (n : ℕ) (found : List Cell) (ms : List Member) (ps : List MemberPlace) (i : ℕ) → found ++ row_cells types (drop i ms) (drop i ps) ≡ row_cells types ms ps → row_cells types (drop i ms) (drop i ps) ≡ [] → ms ≡ members_at types n → ps ≡ places (structs_of types) n → (layout (structs_of types) (struct n)).cells ≡ member_cells (layouts (structs_of types)) (members_of (structs_of types) n) (places (structs_of types) n) → found ≡ (layout_at (layouts (structs_of types)) n).cells
  finished n found ms ps i so_far none em ep law =
      sym (append-nil found) ∙ ap (λ cs. found ++ cs) (sym none) ∙ so_far
      ∙ ap (λ x. row_cells types x ps) em ∙ ap (λ x. row_cells types (members_at types n) x) ep ∙ all_cells n law
