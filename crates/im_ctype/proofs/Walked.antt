-- The members of a struct, one after another.
use Rattle.std.proofs.Common.{◌≡◌, ℕ, suc, ◌+◌, ◌<◌, ◌≤◌, max, List, [], ◌∷◌, ◌++◌, length, drop, get_or, refl, sym, ap, ◌∙◌, subst, arith, length-append, append_assoc, append-nil, nat_cmp, drop-cons}
use Rattle.std.specs.Ordering.{ord_max}
use Rattle.std.proofs.lemmas.List.{get_or-map, length-map}
use Rattle.std.proofs.lemmas.Grind.{common_steps}
use Rattle.im_ctype.specs.declared.cell.Cell.{Cell}
use Rattle.im_ctype.specs.declared.extent.Extent.{Extent}
use Rattle.im_ctype.specs.declared.member.Member as rust
use Rattle.im_ctype.specs.declared.member.MemberPlace.{MemberPlace}
use Rattle.im_ctype.specs.Types.{CType, Member}
use Rattle.im_ctype.specs.Layout.{Layout, empty_layout, moved_cell, moved, round_up, layout_in, layouts, with_member, members_in, with_trailing_bytes, struct_in}
use Rattle.im_ctype.specs.Members.{place_behind, places_from, places_in}
use Rattle.im_ctype.specs.Table as table
use Rattle.im_ctype.specs.Kept.{extent_of}
use Rattle.im_ctype.proofs.Places.{few-cells-in, positive-alignment}

pub ord_max-is : (a b : ℕ) → ord_max nat_cmp a b ≡ max a b
ord_max-is a b = grind (arith, common_steps)

-- what a walk over the members has when it has seen i of them
pub record SoFar (done : List Layout) (ms : List Member) (i size alignment cells : ℕ) (found : List MemberPlace) : Type 0 where
  pub whole : Layout
  pub size_is : whole.size ≡ size
  pub alignment_is : whole.align ≡ alignment
  pub cells_are : length whole.cells ≡ cells
  pub positive : 0 < alignment
  pub all : members_in done (drop i ms) whole ≡ members_in done ms empty_layout
  pub places : found ++ places_from done (drop i ms) whole ≡ places_in done ms

pub so_far-none : (done : List Layout) (ms : List Member) (found : List MemberPlace) → found ≡ [] → SoFar done ms 0 0 1 0 found
so_far-none done ms found e =
    record {
      whole = empty_layout;
      size_is = refl;
      alignment_is = refl;
      cells_are = refl;
      positive = omega arith;
      all = refl;
      places = ap (λ xs. xs ++ places_in done ms) e;
    }

grows : (done : List Layout) (ms : List Member) (s : Layout) → (s.size ≤ (members_in done ms s).size) × (length s.cells ≤ length (members_in done ms s).cells)
grows done [] s = (omega arith, omega arith)
grows done (m ∷ ms) s =
    let l = layout_in done m.type in
    let g = grows done ms (with_member s l) in
    let a = length-append s.cells (moved (round_up s.size l.align) l.cells) in
    (omega (arith, g.0), omega (arith, g.1, a))

module _ (done : List Layout) (ms : List Member) (i size alignment cells : ℕ) (found : List MemberPlace) (s : SoFar done ms i size alignment cells found) (m : Member) (lt : i < length ms) (is : get_or ms i m ≡ m) where
  abbrev l : Layout
  l = layout_in done m.type

  next-all : members_in done (drop (suc i) ms) (with_member s.whole l) ≡ members_in done ms empty_layout
  next-all =
      let d : drop i ms ≡ m ∷ drop (suc i) ms = drop-cons ms i m lt ∙ ap (λ x. x ∷ drop (suc i) ms) is in
      ap (λ xs. members_in done xs s.whole) (sym d) ∙ s.all

  -- the next member lies within the struct
  pub held : (round_up size l.align + l.size ≤ (struct_in done ms).size) × (cells + length l.cells ≤ length (struct_in done ms).cells)
  held =
      let g = grows done (drop (suc i) ms) (with_member s.whole l) in
      let e : (members_in done (drop (suc i) ms) (with_member s.whole l)).size ≡ (members_in done ms empty_layout).size = ap (λ (x : Layout). x.size) next-all in
      let f : length (members_in done (drop (suc i) ms) (with_member s.whole l)).cells ≡ length (members_in done ms empty_layout).cells = ap (λ (x : Layout). length x.cells) next-all in
      let b : round_up s.whole.size l.align ≡ round_up size l.align = ap (λ n. round_up n l.align) s.size_is in
      let a = length-append s.whole.cells (moved (round_up s.whole.size l.align) l.cells) in
      let k = length-map {A = Cell} l.cells (moved_cell (round_up s.whole.size l.align)) in
      let c = s.cells_are in
      (omega (arith, g.0, e, b), omega (arith, g.1, f, a, k, c))

  pub next : (there : List MemberPlace) → there ≡ found ++ record { offset = round_up size l.align; first_cell = cells } ∷ [] → SoFar done ms (i + 1) (round_up size l.align + l.size) (max alignment l.align) (cells + length l.cells) there
  next there e =
      let d : drop i ms ≡ m ∷ drop (suc i) ms = drop-cons ms i m lt ∙ ap (λ x. x ∷ drop (suc i) ms) is in
      let j : suc i ≡ i + 1 = omega arith in
      let p = place_behind s.whole l in
      let q : p ≡ record { offset = round_up size l.align; first_cell = cells } =
      ap (λ n. let x : MemberPlace = record { offset = round_up n l.align; first_cell = length s.whole.cells } in x) s.size_is
      ∙ ap (λ n. let x : MemberPlace = record { offset = round_up size l.align; first_cell = n } in x) s.cells_are in
      let a = length-append s.whole.cells (moved (round_up s.whole.size l.align) l.cells) in
      let k = length-map {A = Cell} l.cells (moved_cell (round_up s.whole.size l.align)) in
      let rest = places_from done (drop (suc i) ms) (with_member s.whole l) in
      let o = s.positive in
      subst (λ n. SoFar done ms n (round_up size l.align + l.size) (max alignment l.align) (cells + length l.cells) there) j
      record {
        whole = with_member s.whole l;
        size_is = ap (λ n. round_up n l.align + l.size) s.size_is;
        alignment_is = ap (λ n. max n l.align) s.alignment_is;
        cells_are = a ∙ ap (λ n. n + length (moved (round_up s.whole.size l.align) l.cells)) s.cells_are ∙ ap (λ n. cells + n) k;
        positive = omega (arith, o);
        all = next-all;
        places = ap (λ xs. xs ++ rest) e ∙ append_assoc found (record { offset = round_up size l.align; first_cell = cells } ∷ []) rest
            ∙ ap (λ x. found ++ (x ∷ rest)) (sym q) ∙ ap (λ xs. found ++ places_from done xs s.whole) (sym d) ∙ s.places;
      }

module _ (done : List Layout) (ms : List Member) (i size alignment cells : ℕ) (found : List MemberPlace) (s : SoFar done ms i size alignment cells found) (past : length ms ≤ i) where
  none-left : drop i ms ≡ []
  none-left = grind (arith, common_steps)

  whole-is : s.whole ≡ members_in done ms empty_layout
  whole-is = ap (λ xs. members_in done xs s.whole) (sym none-left) ∙ s.all

  pub all-places : found ≡ places_in done ms
  all-places = sym (append-nil found) ∙ ap (λ xs. found ++ places_from done xs s.whole) (sym none-left) ∙ s.places

  pub all-extent : extent_of (struct_in done ms) ≡ record { size = round_up size alignment; alignment = alignment; cells = cells }
  all-extent =
      ap (λ w. extent_of (with_trailing_bytes w)) (sym whole-is)
      ∙ ap (λ n. let x : Extent = record { size = round_up n s.whole.align; alignment = s.whole.align; cells = length s.whole.cells } in x) s.size_is
      ∙ ap (λ n. let x : Extent = record { size = round_up size n; alignment = n; cells = length s.whole.cells } in x) s.alignment_is
      ∙ ap (λ n. let x : Extent = record { size = round_up size alignment; alignment = alignment; cells = n } in x) s.cells_are

-- a member of a table's struct, as the definitions see it
pub plain-at : (types : List CType) (ms : List rust.Member) (i : ℕ) (m : rust.Member) → i < length ms → m ≡ get_or ms i m → (i < length (table.members_in types ms)) × (get_or (table.members_in types ms) i (table.member_in types m) ≡ table.member_in types m)
plain-at types ms i m lt is =
    let l = length-map {A = rust.Member} ms (table.member_in types) in
    (omega (arith, l, lt), get_or-map {X = rust.Member} (table.member_in types) ms i m (table.member_in types m) lt ∙ ap (table.member_in types) (sym is))

module _ (t : table.Table) (ms : List rust.Member) (i size alignment cells : ℕ) (found : List MemberPlace) (s : SoFar (layouts (table.structs_of t)) (table.members_in (table.types_of t) ms) i size alignment cells found) (m : rust.Member) (lt : i < length ms) (is : m ≡ get_or ms i m) (x : Extent) (e : x ≡ extent_of (table.layout_of t m.ty)) where
  abbrev whole_struct : Layout
  whole_struct = struct_in (layouts (table.structs_of t)) (table.members_in (table.types_of t) ms)

  pub member-held : (round_up size x.alignment + x.size ≤ whole_struct.size) × (cells + x.cells ≤ whole_struct.size) × (0 < x.alignment)
  member-held =
      let p = plain-at (table.types_of t) ms i m lt is in
      let h = held (layouts (table.structs_of t)) (table.members_in (table.types_of t) ms) i size alignment cells found s (table.member_in (table.types_of t) m) p.0 p.1 in
      let few = few-cells-in (table.structs_of t) (table.members_in (table.types_of t) ms) in
      let o = positive-alignment (table.structs_of t) (table.type_at t m.ty) in
      subst (λ (y : Extent). (round_up size y.alignment + y.size ≤ whole_struct.size) × (cells + y.cells ≤ whole_struct.size) × (0 < y.alignment)) (sym e)
      (h.0, omega (arith, h.1, few), o)

  pub member-next : (offset largest : ℕ) (there : List MemberPlace) → offset ≡ round_up size x.alignment → largest ≡ ord_max nat_cmp alignment x.alignment → there ≡ found ++ record { offset = offset; first_cell = cells } ∷ [] → SoFar (layouts (table.structs_of t)) (table.members_in (table.types_of t) ms) (i + 1) (offset + x.size) largest (cells + x.cells) there
  member-next offset largest there o g f =
      let p = plain-at (table.types_of t) ms i m lt is in
      let l = table.layout_of t m.ty in
      let o' : offset ≡ round_up size l.align = o ∙ ap (λ (y : Extent). round_up size y.alignment) e in
      let g' : largest ≡ max alignment l.align = g ∙ ord_max-is alignment x.alignment ∙ ap (λ (y : Extent). max alignment y.alignment) e in
      let size' : offset + x.size ≡ round_up size l.align + l.size = ap (λ n. n + x.size) o' ∙ ap (λ (y : Extent). round_up size l.align + y.size) e in
      let cells' : cells + x.cells ≡ cells + length l.cells = ap (λ (y : Extent). cells + y.cells) e in
      let f' : there ≡ found ++ record { offset = round_up size l.align; first_cell = cells } ∷ [] = f ∙ ap (λ n. found ++ record { offset = n; first_cell = cells } ∷ []) o' in
      let n = next (layouts (table.structs_of t)) (table.members_in (table.types_of t) ms) i size alignment cells found s (table.member_in (table.types_of t) m) p.0 p.1 there f' in
      rw (size', g', cells') n
