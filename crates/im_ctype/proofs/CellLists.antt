-- Cells moved, cells of arrays, and layouts as more structs get their member lists.
use Rattle.std.proofs.Common.{◌≡◌, ℕ, zero, suc, ◌+◌, ◌*◌, Bool, true, false, ◌&&◌, nat_lt, List, [], ◌∷◌, ◌++◌, length, subst, refl, sym, ap, ◌∙◌, arith, add_assoc}
use Rattle.std.specs.Prelude.{slice_get, Some}
use Rattle.std.proofs.lemmas.List.{map-append, get_or_append_left}
use Rattle.std.proofs.lemmas.Option.{slice_get_within, get_or_from_slice_get}
use borrow.Author.Tests.{ltb-true}
use Rattle.im_ctype.specs.declared.cell.Cell.{Cell}
use Rattle.im_ctype.specs.Types.{CType, void, integer, pointer, array, unsized, struct, function, Member, Structs, is_complete}
use Rattle.im_ctype.specs.Layout.{Layout, empty_layout, moved_cell, moved, repeated, layout_in, with_member, members_in, with_trailing_bytes, struct_in, layouts, layout, IsComplete, MembersAreComplete}
use Rattle.im_ctype.proofs.Building.{length-built, built-at, built-prefix}

-- cells moved

pub moved_cell-moved : (d e : ℕ) (c : Cell) → moved_cell d (moved_cell e c) ≡ moved_cell (d + e) c
moved_cell-moved d e c =
    ap (λ n. let x : Cell = record { offset = n; kind = c.kind } in x) (sym (add_assoc d e c.offset))

pub moved-moved : (d e : ℕ) (cs : List Cell) → moved d (moved e cs) ≡ moved (d + e) cs
moved-moved d e [] = refl
moved-moved d e (c ∷ cs) =
    ap (λ x. x ∷ moved d (moved e cs)) (moved_cell-moved d e c) ∙ ap (λ xs. moved_cell (d + e) c ∷ xs) (moved-moved d e cs)

pub moved-append : (d : ℕ) (xs ys : List Cell) → moved d (xs ++ ys) ≡ moved d xs ++ moved d ys
moved-append d xs ys = map-append (moved_cell d) xs ys

pub moved-zero : (cs : List Cell) → moved 0 cs ≡ cs
moved-zero [] = refl
moved-zero (c ∷ cs) =
    let z : 0 + c.offset ≡ c.offset = omega arith in
    ap (λ n. let x : Cell = record { offset = n; kind = c.kind } in x ∷ moved 0 cs) z ∙ ap (λ xs. c ∷ xs) (moved-zero cs)

pub moved-repeated : (d at n : ℕ) (e : Layout) → moved d (repeated at n e) ≡ repeated (d + at) n e
moved-repeated d at zero e = refl
moved-repeated d at (suc n) e =
    let a : d + (at + e.size) ≡ d + at + e.size = omega arith in
    moved-append d (moved at e.cells) (repeated (at + e.size) n e)
    ∙ ap (λ xs. xs ++ moved d (repeated (at + e.size) n e)) (moved-moved d at e.cells)
    ∙ ap (λ xs. moved (d + at) e.cells ++ xs) (moved-repeated d (at + e.size) n e ∙ ap (λ m. repeated m n e) a)

pub moved-array : (at n : ℕ) (e : Layout) → repeated at n e ≡ moved at (repeated 0 n e)
moved-array at n e =
    let z : at + 0 ≡ at = omega arith in
    sym (moved-repeated at 0 n e ∙ ap (λ m. repeated m n e) z)

-- more structs change nothing in what is complete already

and-left : (a b : Bool) → (a && b) ≡ true → a ≡ true
and-left true b h = refl
and-left false b h = cc

and-right : (a b : Bool) → (a && b) ≡ true → b ≡ true
and-right true b h = h
and-right false b h = cc

pub complete-element : (known : ℕ) (t : CType) (n : ℕ) → is_complete known (array t n) ≡ true → is_complete known t ≡ true
complete-element known t n h = and-right (nat_lt 0 n) (is_complete known t) h

pub layout_in-more : (done more : List Layout) (ty : CType) → is_complete (length done) ty ≡ true → layout_in (done ++ more) ty ≡ layout_in done ty
layout_in-more done more void h = cc
layout_in-more done more (integer i) h = refl
layout_in-more done more (pointer c t) h = refl
layout_in-more done more (array t n) h =
    ap (λ (e : Layout). let l : Layout = record { size = n * e.size; align = e.align; cells = repeated 0 n e } in l)
    (layout_in-more done more t (complete-element (length done) t n h))
layout_in-more done more (unsized t) h = cc
layout_in-more done more (struct n) h = get_or_append_left done more empty_layout n (ltb-true n (length done) h)
layout_in-more done more (function r ps) h = cc

pub members_in-more : (done more : List Layout) (ms : List Member) (s : Layout) → MembersAreComplete (length done) ms → members_in (done ++ more) ms s ≡ members_in done ms s
members_in-more done more [] s h = refl
members_in-more done more (m ∷ ms) s h =
    ap (λ (l : Layout). members_in (done ++ more) ms (with_member s l)) (layout_in-more done more m.type (h 0 m (omega arith)))
    ∙ members_in-more done more ms (with_member s (layout_in done m.type)) (λ k d lt. h (suc k) d (omega arith))

pub struct_in-more : (ms : List Member) (n : ℕ) → MembersAreComplete n ms → (done more : List Layout) → length done ≡ n → struct_in (done ++ more) ms ≡ struct_in done ms
struct_in-more ms n h done more e =
    ap with_trailing_bytes (members_in-more done more ms empty_layout (subst (λ k. MembersAreComplete k ms) (sym e) h))

pub struct-as-listed : (ss : Structs) (n : ℕ) (ms : List Member) → slice_get ss n ≡ Some ms → MembersAreComplete n ms → layout ss (struct n) ≡ struct_in (layouts ss) ms
struct-as-listed ss n ms is h =
    built-at struct_in ss n ms empty_layout (slice_get_within ss n ms is) (get_or_from_slice_get ss n ms ms is) (struct_in-more ms n h)

pub layout-more : (ss more : Structs) (ty : CType) → IsComplete ss ty → layout (ss ++ more) ty ≡ layout ss ty
layout-more ss more ty h =
    let p = built-prefix struct_in ss more in
    ap (λ ls. layout_in ls ty) p.1
    ∙ layout_in-more (layouts ss) p.0 ty (subst (λ n. is_complete n ty ≡ true) (sym (length-built struct_in ss)) h)
