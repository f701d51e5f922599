-- What is still to be listed, one step after another.
use Rattle.std.proofs.Common.{◌≡◌, ℕ, zero, suc, ◌+◌, ◌-◌, ◌*◌, ◌<◌, ◌≤◌, ◌^◌, nat_lt, true, false, List, [], ◌∷◌, ◌++◌, map, take, drop, length, get_or, Some, refl, sym, ap, ◌∙◌, subst, arith, append_assoc, append-nil, drop-cons}
use Rattle.std.specs.Prelude.{slice_get, OnOk, Result, Ok, Err}
use Rattle.std.proofs.lemmas.Bool.{ltb-true, ltb-false}
use Rattle.std.proofs.lemmas.Grind.{common_steps}
use Rattle.std.proofs.lemmas.List.{length-map, get_or_append_left}
use Rattle.std.proofs.lemmas.List.Elements.{All-append, All-cons, All-nil}
use Rattle.std.proofs.lemmas.Option.{slice_get-get_or, get_or_from_slice_get}
use Rattle.im_ctype.specs.declared.cell.Cell.{Cell}
use Rattle.im_ctype.specs.declared.member.Member as rust
use Rattle.im_ctype.specs.declared.member.MemberPlace.{MemberPlace}
use Rattle.im_ctype.specs.declared.node.TypeId.{TypeId}
use Rattle.im_ctype.specs.declared.listing.Pending.{Pending}
use Rattle.im_ctype.specs.declared.listing.Pending.TheVariants.{Objects, Members}
use Rattle.im_ctype.specs.Types.{CType, void, integer, pointer, array, unsized, struct, function, Member, Structs, members_of, is_complete}
use Rattle.im_ctype.specs.Layout.{Layout, empty_layout, moved, moved_cell, repeated, round_up, layout_in, layout, layouts, with_member, members_in, struct_in, MembersAreComplete, AreComplete}
use Rattle.im_ctype.specs.Members.{places_from, places_in, places, member_cells}
use Rattle.im_ctype.specs.Table as table
use Rattle.im_ctype.specs.Table.{Table, IsIn, layout_of, structs_of, types_of, type_at, members_at}
use Rattle.im_ctype.specs.Laws.{cells_from}
use Rattle.im_ctype.specs.Pending.{cells_of, cells_waiting, IsFitting, AreFitting, weight_in, members_weight, weights, weight_of, cost_of, cost_waiting, IsStep}
use Rattle.im_ctype.proofs.Building.{length-built, built-at}
use Rattle.im_ctype.proofs.CellLists.{moved-append, moved-moved, moved-array, struct-as-listed, complete-element}
use Rattle.im_ctype.proofs.MoreStructs.{complete-at}
use Rattle.im_ctype.proofs.Walked.{plain-at}

-- a struct's cells are its members', each moved to its place

pub members-cells : (done : List Layout) (ms : List Member) (s : Layout) → (members_in done ms s).cells ≡ s.cells ++ member_cells done ms (places_from done ms s)
members-cells done [] s = sym (append-nil s.cells)
members-cells done (m ∷ ms) s =
    let l = layout_in done m.type in
    members-cells done ms (with_member s l)
    ∙ append_assoc s.cells (moved (round_up s.size l.align) l.cells) (member_cells done ms (places_from done ms (with_member s l)))

none-there : (ss : Structs) (n : ℕ) → length ss ≤ n → members_of ss n ≡ []
none-there [] n le = refl
none-there (x ∷ ss) zero le = absurd (omega arith)
none-there (x ∷ ss) (suc n) le = none-there ss n (omega arith)

there : (ss : Structs) (n : ℕ) → n < length ss → slice_get ss n ≡ Some (members_of ss n)
there [] n lt = absurd (omega arith)
there (x ∷ ss) zero lt = refl
there (x ∷ ss) (suc n) lt = there ss n (omega arith)

complete-there : (ss : Structs) (n : ℕ) → AreComplete ss → MembersAreComplete n (members_of ss n)
complete-there ss n h =
    let e : 0 + n ≡ n = omega arith in
    subst (λ k. MembersAreComplete k (members_of ss n)) e (complete-at 0 ss n h)

past-layout : (ss : Structs) (n : ℕ) → length ss ≤ n → layout ss (struct n) ≡ empty_layout
past-layout ss n le = past-by (layouts ss) n (omega (arith, le, length-built struct_in ss))
  where
    past-by : (ls : List Layout) (k : ℕ) → length ls ≤ k → get_or ls k empty_layout ≡ empty_layout
    past-by ls k h = grind (arith, common_steps)

pub struct-cells : (ss : Structs) (n : ℕ) → AreComplete ss → (layout ss (struct n)).cells ≡ member_cells (layouts ss) (members_of ss n) (places ss n)
struct-cells ss n h = elim (nat_lt n (length ss)) as (λ b. nat_lt n (length ss) ≡ b → (layout ss (struct n)).cells ≡ member_cells (layouts ss) (members_of ss n) (places ss n)) [
  | true ↦ λ e. ap (λ (l : Layout). l.cells) (struct-as-listed ss n (members_of ss n) (there ss n (ltb-true n (length ss) e)) (complete-there ss n h)) ∙ members-cells (layouts ss) (members_of ss n) empty_layout
  | false ↦ λ e. ap (λ (l : Layout). l.cells) (past-layout ss n (ltb-false n (length ss) e))
      ∙ ap (λ ms. member_cells (layouts ss) ms (places_in (layouts ss) ms)) (sym (none-there ss n (ltb-false n (length ss) e)))
] refl

-- places and weights of members

pub length-places : (done : List Layout) (ms : List Member) (s : Layout) → length (places_from done ms s) ≡ length ms
length-places done [] s = refl
length-places done (m ∷ ms) s = ap suc (length-places done ms (with_member s (layout_in done m.type)))

grows : (done : List Layout) (ms : List Member) (s : Layout) → s.size ≤ (members_in done ms s).size
grows done [] s = omega arith
grows done (m ∷ ms) s =
    let h = grows done ms (with_member s (layout_in done m.type)) in
    omega (arith, h)

place-inside : (done : List Layout) (ms : List Member) (s : Layout) (i : ℕ) (m : Member) (p : MemberPlace) → i < length ms → get_or ms i m ≡ m → get_or (places_from done ms s) i p ≡ p → p.offset + (layout_in done m.type).size ≤ (members_in done ms s).size
place-inside done [] s i m p lt e f = absurd (omega arith)
place-inside done (x ∷ ms) s zero m p lt e f =
    let g = grows done ms (with_member s (layout_in done x.type)) in
    let o : round_up s.size (layout_in done x.type).align ≡ p.offset = ap (λ (y : MemberPlace). y.offset) f in
    let k : (layout_in done x.type).size ≡ (layout_in done m.type).size = ap (λ (y : Member). (layout_in done y.type).size) e in
    omega (arith, g, o, k)
place-inside done (x ∷ ms) s (suc i) m p lt e f = place-inside done ms (with_member s (layout_in done x.type)) i m p (omega arith) e f

pub member-inside : (ss : Structs) (n i : ℕ) (m : Member) (p : MemberPlace) → AreComplete ss → i < length (members_of ss n) → get_or (members_of ss n) i m ≡ m → get_or (places ss n) i p ≡ p → p.offset + (layout ss m.type).size ≤ (layout ss (struct n)).size
member-inside ss n i m p h lt e f = elim (nat_lt n (length ss)) as (λ b. nat_lt n (length ss) ≡ b → p.offset + (layout ss m.type).size ≤ (layout ss (struct n)).size) [
  | true ↦ λ b.
      let g = place-inside (layouts ss) (members_of ss n) empty_layout i m p lt e f in
      let l = struct-as-listed ss n (members_of ss n) (there ss n (ltb-true n (length ss) b)) (complete-there ss n h) in
      let k : (layout ss (struct n)).size ≡ (struct_in (layouts ss) (members_of ss n)).size = ap (λ (x : Layout). x.size) l in
      omega (arith, g, k)
  | false ↦ λ b.
      let none = ap length (none-there ss n (ltb-false n (length ss) b)) in
      absurd (omega (arith, none, lt))
] refl

weight_in-more : (done more : List ℕ) (ty : CType) → is_complete (length done) ty ≡ true → weight_in (done ++ more) ty ≡ weight_in done ty
weight_in-more done more void h = refl
weight_in-more done more (integer i) h = refl
weight_in-more done more (pointer c t) h = refl
weight_in-more done more (array t n) h = ap (λ w. 1 + n * (1 + w)) (weight_in-more done more t (complete-element (length done) t n h))
weight_in-more done more (unsized t) h = refl
weight_in-more done more (struct n) h = get_or_append_left done more 1 n (ltb-true n (length done) h)
weight_in-more done more (function r ps) h = refl

members_weight-more : (ms : List Member) (done more : List ℕ) → MembersAreComplete (length done) ms → members_weight (done ++ more) ms ≡ members_weight done ms
members_weight-more [] done more h = refl
members_weight-more (m ∷ ms) done more h =
    ap (λ w. 3 + w + members_weight (done ++ more) ms) (weight_in-more done more m.type (h 0 m (omega arith)))
    ∙ ap (λ w. 3 + weight_in done m.type + w) (members_weight-more ms done more (λ k d lt. h (suc k) d (omega arith)))

past-weight : (ws : List ℕ) (k : ℕ) → length ws ≤ k → get_or ws k 1 ≡ 1
past-weight ws k h = grind (arith, common_steps)

pub struct-weight : (ss : Structs) (n : ℕ) → AreComplete ss → weight_in (weights ss) (struct n) ≡ members_weight (weights ss) (members_of ss n)
struct-weight ss n h = elim (nat_lt n (length ss)) as (λ b. nat_lt n (length ss) ≡ b → weight_in (weights ss) (struct n) ≡ members_weight (weights ss) (members_of ss n)) [
  | true ↦ λ b.
      let lt = ltb-true n (length ss) b in
      built-at members_weight ss n (members_of ss n) 1 lt (get_or_from_slice_get ss n (members_of ss n) (members_of ss n) (there ss n lt))
      (λ done more e. members_weight-more (members_of ss n) done more (subst (λ k. MembersAreComplete k (members_of ss n)) (sym e) (complete-there ss n h)))
  | false ↦ λ b.
      let le = ltb-false n (length ss) b in
      past-weight (weights ss) n (omega (arith, le, length-built members_weight ss)) ∙ ap (members_weight (weights ss)) (sym (none-there ss n le))
] refl

-- the last that waits

pub waiting-push : (t : Table) (ps : List Pending) (p : Pending) → cells_waiting t (ps ++ p ∷ []) ≡ cells_of t p ++ cells_waiting t ps
waiting-push t [] p = sym (append-nil (cells_of t p))
waiting-push t (q ∷ ps) p =
    ap (λ xs. xs ++ cells_of t q) (waiting-push t ps p) ∙ append_assoc (cells_of t p) (cells_waiting t ps) (cells_of t q)

pub cost-push : (t : Table) (ps : List Pending) (p : Pending) → cost_waiting t (ps ++ p ∷ []) ≡ cost_of t p + cost_waiting t ps
cost-push t [] p = refl
cost-push t (q ∷ ps) p = let h = cost-push t ps p in omega (arith, h)

pub fit-push : (t : Table) (ps : List Pending) (p : Pending) → AreFitting t ps → IsFitting t p → AreFitting t (ps ++ p ∷ [])
fit-push t ps p h f = All-append (IsFitting t) ps (p ∷ []) h (All-cons (IsFitting t) p [] f (All-nil (IsFitting t)))

pub fit-last : (t : Table) (ps : List Pending) (p : Pending) → AreFitting t (ps ++ p ∷ []) → IsFitting t p
fit-last t [] p h = h 0 p (omega arith)
fit-last t (q ∷ ps) p h = fit-last t ps p (λ k d lt. h (suc k) d (omega arith))

pub fit-front : (t : Table) (ps : List Pending) (p : Pending) → AreFitting t (ps ++ p ∷ []) → AreFitting t ps
fit-front t [] p h = All-nil (IsFitting t)
fit-front t (q ∷ ps) p h = All-cons (IsFitting t) q ps (h 0 q (omega arith)) (fit-front t ps p (λ k d lt. h (suc k) d (omega arith)))

-- one more that waits, in the place of these cells
pub pushed : (t : Table) (cells : List Cell) (cost : ℕ) (ps after : List Pending) (p : Pending) (found : List Cell) → after ≡ ps ++ p ∷ [] → cells_of t p ≡ cells → cost_of t p < cost → IsFitting t p → AreFitting t ps → IsStep t cells cost ps after found found
pushed t cells cost ps after p found e c lt f fs =
    let k = cost-push t ps p in
    subst (λ (xs : List Pending). IsStep t cells cost ps xs found found) (sym e)
    record {
      listed = ap (λ xs. found ++ xs) (waiting-push t ps p ∙ ap (λ xs. xs ++ cells_waiting t ps) c);
      lighter = omega (arith, k, lt);
      fit = fit-push t ps p fs f;
    }

-- one that waits and what takes the place of its first part
pub pushed-first : (t : Table) (cells all : List Cell) (cost whole : ℕ) (ps before after : List Pending) (p : Pending) (found now : List Cell) → before ≡ ps ++ p ∷ [] → cells ++ cells_of t p ≡ all → cost + cost_of t p ≤ whole → IsStep t cells cost before after found now → IsStep t all whole ps after found now
pushed-first t cells all cost whole ps before after p found now e c le s =
    let w = waiting-push t ps p in
    let k : cost_waiting t before ≡ cost_of t p + cost_waiting t ps = ap (cost_waiting t) e ∙ cost-push t ps p in
    record {
      listed = s.listed ∙ ap (λ (xs : List Pending). found ++ (cells ++ cells_waiting t xs)) e ∙ ap (λ xs. found ++ (cells ++ xs)) w
          ∙ ap (λ xs. found ++ xs) (sym (append_assoc cells (cells_of t p) (cells_waiting t ps)) ∙ ap (λ xs. xs ++ cells_waiting t ps) c);
      lighter = (let l = s.lighter in omega (arith, l, k, le));
      fit = s.fit;
    }

-- members of a table's struct

pub plain-members : (t : Table) (n : ℕ) → members_of (structs_of t) n ≡ table.members_in (types_of t) (members_at t n)
plain-members t n = plain-by t.structs n
  where
    plain-by : (ss : List (List rust.Member)) (n : ℕ) → members_of (map {A = List rust.Member} (table.members_in (types_of t)) ss) n ≡ table.members_in (types_of t) (table.rows_at (slice_get ss n))
    plain-by [] n = refl
    plain-by (x ∷ ss) zero = refl
    plain-by (x ∷ ss) (suc n) = plain-by ss n

-- the steps

module _ (t : Table) (ps after : List Pending) (found : List Cell) (fs : AreFitting t ps) where
  pub step-array : (ty element : TypeId) (at count : ℕ) → type_at t ty ≡ array (type_at t element) count → IsIn t element → at + (layout_of t ty).size < 2 ^ 64 → after ≡ ps ++ Objects element at count ∷ [] → IsStep t (moved at (layout_of t ty).cells) (1 + weight_of t ty) ps after found found
  step-array ty element at count is known held e =
      let l = layout_of t element in
      let c : repeated at count l ≡ moved at (layout_of t ty).cells = moved-array at count l ∙ ap (λ x. moved at (layout (structs_of t) x).cells) (sym is) in
      let w : weight_of t ty ≡ 1 + count * (1 + weight_of t element) = ap (weight_in (weights (structs_of t))) is in
      let s : (layout_of t ty).size ≡ count * l.size = ap (λ x. (layout (structs_of t) x).size) is in
      pushed t (moved at (layout_of t ty).cells) (1 + weight_of t ty) ps after (Objects element at count) found e c (omega (arith, w)) (known, omega (arith, held, s)) fs

  pub step-struct : (ty : TypeId) (n at : ℕ) → AreComplete (structs_of t) → type_at t ty ≡ struct n → at + (layout_of t ty).size < 2 ^ 64 → after ≡ ps ++ Members n 0 at ∷ [] → IsStep t (moved at (layout_of t ty).cells) (1 + weight_of t ty) ps after found found
  step-struct ty n at h is held e =
      let c : cells_of t (Members n 0 at) ≡ moved at (layout_of t ty).cells =
      ap (moved at) (sym (struct-cells (structs_of t) n h)) ∙ ap (λ x. moved at (layout (structs_of t) x).cells) (sym is) in
      let w : weight_of t ty ≡ cost_of t (Members n 0 at) = ap (weight_in (weights (structs_of t))) is ∙ struct-weight (structs_of t) n h in
      let s : (layout_of t ty).size ≡ (layout (structs_of t) (struct n)).size = ap (λ x. (layout (structs_of t) x).size) is in
      pushed t (moved at (layout_of t ty).cells) (1 + weight_of t ty) ps after (Members n 0 at) found e c (omega (arith, w)) (omega (arith, held, s)) fs

  pub step-none : (n from at : ℕ) → length (members_at t n) ≤ from → after ≡ ps → IsStep t (cells_of t (Members n from at)) (cost_of t (Members n from at)) ps after found found
  step-none n from at le e =
      let l = ap length (plain-members t n) ∙ length-map {A = rust.Member} (members_at t n) (table.member_in (types_of t)) in
      let d : drop from (members_of (structs_of t) n) ≡ [] = all-dropped (members_of (structs_of t) n) (omega (arith, l, le)) in
      let c : cells_of t (Members n from at) ≡ [] = ap (λ ms. moved at (member_cells (layouts (structs_of t)) ms (drop from (places (structs_of t) n)))) d in
      let w : cost_of t (Members n from at) ≡ 1 = ap (members_weight (weights (structs_of t))) d in
      subst (λ (xs : List Pending). IsStep t (cells_of t (Members n from at)) (cost_of t (Members n from at)) ps xs found found) (sym e)
      record {
        listed = ap (λ xs. found ++ (xs ++ cells_waiting t ps)) (sym c);
        lighter = omega (arith, w);
        fit = fs;
      }
    where
      all-dropped : (ms : List Member) → length ms ≤ from → drop from ms ≡ []
      all-dropped ms le = grind (arith, common_steps)

-- a member and those behind it
pub first-member : (ss : Structs) (n i at : ℕ) (m : Member) (p : MemberPlace) → i < length (members_of ss n) → get_or (members_of ss n) i m ≡ m → get_or (places ss n) i p ≡ p → repeated (at + p.offset) 1 (layout ss m.type) ++ moved at (member_cells (layouts ss) (drop (suc i) (members_of ss n)) (drop (suc i) (places ss n))) ≡ moved at (member_cells (layouts ss) (drop i (members_of ss n)) (drop i (places ss n)))
first-member ss n i at m p lt e f =
    let ms = members_of ss n in
    let qs = places ss n in
    let lq = length-places (layouts ss) ms empty_layout in
    let dm : drop i ms ≡ m ∷ drop (suc i) ms = drop-cons ms i m lt ∙ ap (λ x. x ∷ drop (suc i) ms) e in
    let dq : drop i qs ≡ p ∷ drop (suc i) qs = drop-cons qs i p (omega (arith, lt, lq)) ∙ ap (λ x. x ∷ drop (suc i) qs) f in
    let rest = member_cells (layouts ss) (drop (suc i) ms) (drop (suc i) qs) in
    let cells = (layout ss m.type).cells in
    ap (λ xs. xs ++ moved at rest) (append-nil (moved (at + p.offset) cells) ∙ sym (moved-moved at p.offset cells))
    ∙ sym (moved-append at (moved p.offset cells) rest)
    ∙ ap (λ (xs : List Member). moved at (member_cells (layouts ss) xs (p ∷ drop (suc i) qs))) (sym dm)
    ∙ ap (λ (xs : List MemberPlace). moved at (member_cells (layouts ss) (drop i ms) xs)) (sym dq)

pub first-weight : (ss : Structs) (n i : ℕ) (m : Member) → i < length (members_of ss n) → get_or (members_of ss n) i m ≡ m → members_weight (weights ss) (drop i (members_of ss n)) ≡ 3 + weight_in (weights ss) m.type + members_weight (weights ss) (drop (suc i) (members_of ss n))
first-weight ss n i m lt e =
    let ms = members_of ss n in
    let dm : drop i ms ≡ m ∷ drop (suc i) ms = drop-cons ms i m lt ∙ ap (λ x. x ∷ drop (suc i) ms) e in
    ap (members_weight (weights ss)) dm

-- the member of that number, as the definitions see it
pub member-there : (t : Table) (n i : ℕ) (ms : List rust.Member) (m : rust.Member) → ms ≡ members_at t n → i < length ms → m ≡ get_or ms i m → (i < length (members_of (structs_of t) n)) × (get_or (members_of (structs_of t) n) i (table.member_in (types_of t) m) ≡ table.member_in (types_of t) m)
member-there t n i ms m e lt is =
    let lt' = subst (λ (x : List rust.Member). i < length x) e lt in
    let is' = subst (λ (x : List rust.Member). m ≡ get_or x i m) e is in
    let p = plain-at (types_of t) (members_at t n) i m lt' is' in
    let q = sym (plain-members t n) in
    subst (λ (xs : List Member). (i < length xs) × (get_or xs i (table.member_in (types_of t) m) ≡ table.member_in (types_of t) m)) q p

pub step-member : (t : Table) (ps middle after : List Pending) (found : List Cell) (n i at : ℕ) (m : rust.Member) (p : MemberPlace) → AreFitting t ps → AreComplete (structs_of t) → i < length (members_of (structs_of t) n) → get_or (members_of (structs_of t) n) i (table.member_in (types_of t) m) ≡ table.member_in (types_of t) m → get_or (places (structs_of t) n) i p ≡ p → IsIn t m.ty → at + (layout (structs_of t) (struct n)).size < 2 ^ 64 → middle ≡ ps ++ Members n (i + 1) at ∷ [] → after ≡ middle ++ Objects m.ty (at + p.offset) 1 ∷ [] → IsStep t (cells_of t (Members n i at)) (cost_of t (Members n i at)) ps after found found
step-member t ps middle after found n i at m p fs h lt e f known held e₁ e₂ =
    let ss = structs_of t in
    let x = table.member_in (types_of t) m in
    let inside = member-inside ss n i x p h lt e f in
    let j : i + 1 ≡ suc i = omega arith in
    let w : cost_of t (Members n i at) ≡ 3 + weight_of t m.ty + cost_of t (Members n (i + 1) at) =
    first-weight ss n i x lt e ∙ ap (λ k. 3 + weight_of t m.ty + members_weight (weights ss) (drop k (members_of ss n))) (sym j) in
    let fits₁ : AreFitting t (ps ++ Members n (i + 1) at ∷ []) = fit-push t ps (Members n (i + 1) at) fs held in
    let fits₂ : AreFitting t middle = subst (λ (xs : List Pending). AreFitting t xs) (sym e₁) fits₁ in
    let s = pushed t (repeated (at + p.offset) 1 (layout_of t m.ty)) (3 + weight_of t m.ty) middle after (Objects m.ty (at + p.offset) 1) found e₂ refl (omega arith) (known, omega (arith, inside, held)) fits₂ in
    let c : repeated (at + p.offset) 1 (layout_of t m.ty) ++ cells_of t (Members n (i + 1) at) ≡ cells_of t (Members n i at) =
    ap (λ k. repeated (at + p.offset) 1 (layout_of t m.ty) ++ moved at (member_cells (layouts ss) (drop k (members_of ss n)) (drop k (places ss n)))) j
    ∙ first-member ss n i at x p lt e f in
    pushed-first t (repeated (at + p.offset) 1 (layout_of t m.ty)) (cells_of t (Members n i at)) (3 + weight_of t m.ty) (cost_of t (Members n i at)) ps middle after (Members n (i + 1) at) found found e₁ c (omega (arith, w)) s

pub step-objects : (t : Table) (ps before after : List Pending) (found now : List Cell) (ty : TypeId) (at count : ℕ) → 0 < count → before ≡ ps ++ Objects ty (at + (layout_of t ty).size) (count - 1) ∷ [] → IsStep t (moved at (layout_of t ty).cells) (1 + weight_of t ty) before after found now → IsStep t (cells_of t (Objects ty at count)) (cost_of t (Objects ty at count)) ps after found now
step-objects t ps before after found now ty at zero pos e s = absurd (omega arith)
step-objects t ps before after found now ty at (suc k) pos e s =
    let l = layout_of t ty in
    let j : suc k - 1 ≡ k = omega arith in
    let c : moved at l.cells ++ repeated (at + l.size) (suc k - 1) l ≡ repeated at (suc k) l = ap (λ i. moved at l.cells ++ repeated (at + l.size) i l) j in
    let w : suc k * (1 + weight_of t ty) ≡ (1 + weight_of t ty) + k * (1 + weight_of t ty) = grind arith in
    let v : (suc k - 1) * (1 + weight_of t ty) ≡ k * (1 + weight_of t ty) = ap (λ i. i * (1 + weight_of t ty)) j in
    pushed-first t (moved at l.cells) (repeated at (suc k) l) (1 + weight_of t ty) (1 + suc k * (1 + weight_of t ty)) ps before after (Objects ty (at + l.size) (suc k - 1)) found now e c (omega (arith, w, v)) s

pub fits-rest : (t : Table) (ps before : List Pending) (ty : TypeId) (at count : ℕ) → 0 < count → IsFitting t (Objects ty at count) → AreFitting t ps → before ≡ ps ++ Objects ty (at + (layout_of t ty).size) (count - 1) ∷ [] → AreFitting t before × (at + (layout_of t ty).size < 2 ^ 64)
fits-rest t ps before ty at zero pos f fs e = absurd (omega arith)
fits-rest t ps before ty at (suc k) pos f fs e =
    let l = layout_of t ty in
    let j : suc k - 1 ≡ k = omega arith in
    let w : suc k * l.size ≡ l.size + k * l.size = grind arith in
    let v : (suc k - 1) * l.size ≡ k * l.size = ap (λ i. i * l.size) j in
    let h = f.1 in
    (subst (λ (xs : List Pending). AreFitting t xs) (sym e) (fit-push t ps (Objects ty (at + l.size) (suc k - 1)) fs (f.0, omega (arith, h, w, v))), omega (arith, h, w))

pub on-ok : {T E P Q : Type 0} (r : Result T E) → (P → Q) → OnOk r P → OnOk r Q
on-ok (Ok x) f h = f h
on-ok (Err e) f h = tt

pub place-there : (t : Table) (n i : ℕ) (qs : List MemberPlace) (d : MemberPlace) → qs ≡ places (structs_of t) n → i < length (members_of (structs_of t) n) → get_or (places (structs_of t) n) i (get_or qs i d) ≡ get_or qs i d
place-there t n i qs d e lt =
    let l = length-places (layouts (structs_of t)) (members_of (structs_of t) n) empty_layout in
    let k : i < length qs = omega (arith, lt, l, ap length e) in
    ap (λ (xs : List MemberPlace). get_or xs i (get_or qs i d)) (sym e)
    ∙ get_or_from_slice_get qs i (get_or qs i d) (get_or qs i d) (slice_get-get_or qs i d k)

member-at : (done : List Layout) (ms : List Member) (s : Layout) (i : ℕ) (m : Member) (p : MemberPlace) → i < length ms → get_or ms i m ≡ m → get_or (places_from done ms s) i p ≡ p → (front rest : List Cell) × ((members_in done ms s).cells ≡ front ++ (moved p.offset (layout_in done m.type).cells ++ rest)) × (length front ≡ p.first_cell)
member-at done [] s i m p lt e f = absurd (omega arith)
member-at done (x ∷ ms) s zero m p lt e f =
    let l = layout_in done x.type in
    let rest = member_cells done ms (places_from done ms (with_member s l)) in (
      s.cells,
      rest,
      members-cells done (x ∷ ms) s ∙ ap (λ (q : MemberPlace). s.cells ++ (moved q.offset l.cells ++ rest)) f ∙ ap (λ (y : Member). s.cells ++ (moved p.offset (layout_in done y.type).cells ++ rest)) e,
      ap (λ (q : MemberPlace). q.first_cell) f,
    )
member-at done (x ∷ ms) s (suc i) m p lt e f = member-at done ms (with_member s (layout_in done x.type)) i m p (omega arith) e f

between : (front middle rest : List Cell) (n k : ℕ) → length front ≡ n → length middle ≡ k → take k (drop n (front ++ (middle ++ rest))) ≡ middle
between [] [] rest zero zero e f = refl
between [] [] rest zero (suc k) e f = absurd (omega arith)
between [] (c ∷ cs) rest zero zero e f = absurd (omega arith)
between [] (c ∷ cs) rest zero (suc k) e f = ap (λ xs. c ∷ xs) (between [] cs rest zero k refl (omega arith))
between [] middle rest (suc n) k e f = absurd (omega arith)
between (c ∷ cs) middle rest zero k e f = absurd (omega arith)
between (c ∷ cs) middle rest (suc n) k e f = between cs middle rest n k (omega arith) f

pub member-from-first : (ss : Structs) (n i : ℕ) (m : Member) (p : MemberPlace) → AreComplete ss → i < length (members_of ss n) → get_or (members_of ss n) i m ≡ m → get_or (places ss n) i p ≡ p → cells_from p.first_cell (length (layout ss m.type).cells) (layout ss (struct n)) ≡ moved p.offset (layout ss m.type).cells
member-from-first ss n i m p h lt e f = elim (nat_lt n (length ss)) as (λ b. nat_lt n (length ss) ≡ b → cells_from p.first_cell (length (layout ss m.type).cells) (layout ss (struct n)) ≡ moved p.offset (layout ss m.type).cells) [
  | true ↦ λ b.
      let q = member-at (layouts ss) (members_of ss n) empty_layout i m p lt e f in
      let l = struct-as-listed ss n (members_of ss n) (there ss n (ltb-true n (length ss) b)) (complete-there ss n h) in
      let k = length-map {A = Cell} (layout ss m.type).cells (moved_cell p.offset) in
      ap (λ (x : Layout). cells_from p.first_cell (length (layout ss m.type).cells) x) l
      ∙ ap (λ xs. take (length (layout ss m.type).cells) (drop p.first_cell xs)) q.2
      ∙ between q.0 (moved p.offset (layout ss m.type).cells) q.1 p.first_cell (length (layout ss m.type).cells) q.3 k
  | false ↦ λ b.
      let none = ap length (none-there ss n (ltb-false n (length ss) b)) in
      absurd (omega (arith, none, lt))
] refl
