-- Where the cells of a layout lie: one behind another, within its size, at multiples of their own sizes.
use Rattle.std.proofs.lemmas.List.{length-map}
use Rattle.std.proofs.Common.{length, length-append, ◌≡◌, ℕ, zero, suc, ◌+◌, ◌*◌, ◌/◌, ◌%◌, ◌<◌, ◌≤◌, inl, inr, max, List, [], ◌∷◌, ◌++◌, refl, sym, ap, ◌∙◌, subst, arith}
use Rattle.std.specs.Prelude.{slice_get, Some}
use Rattle.std.specs.List.{All, flat_map, range_with_len}
use Rattle.std.proofs.lemmas.List.Elements.{All-nil, All-cons}
use Rattle.std.proofs.lemmas.Option.{none-some, same_Some}
use Rattle.std.proofs.Math.Nat.{mul-mod_left, mod-add-div'}
use Rattle.im_num.specs.declared.kind.Kind.{Kind}
use Rattle.im_num.specs.declared.kind.Kind.TheVariants.{I8, U8, I16, U16, I32, U32, Ptr}
use Rattle.im_num.specs.Kinds.{kind_size}
use Rattle.im_ctype.specs.declared.cell.Cell.{Cell}
use Rattle.im_ctype.specs.Built.{built_from}
use Rattle.im_ctype.specs.Types.{CType, void, integer, pointer, array, unsized, struct, function, Member, Structs, kind_of}
use Rattle.im_ctype.specs.Layout.{Layout, scalar_layout, empty_layout, moved_cell, moved, repeated, round_up, layout_at, layout_in, with_member, members_in, with_trailing_bytes, struct_in, layouts, layout}
use Rattle.im_ctype.specs.Laws.{end_of, CellsInside, CellsAlignedAt, CellsDisjoint, cells_side_by_side, IsAlignment}

-- multiples

-- m is so many times a
abbrev pub Multiple : ℕ → ℕ → Type 0
Multiple a m = (k : ℕ) × (m ≡ k * a)

multiple-add : (a m n : ℕ) → Multiple a m → Multiple a n → Multiple a (m + n)
multiple-add a m n h g =
    let e : h.0 * a + g.0 * a ≡ (h.0 + g.0) * a = grind arith in
    (h.0 + g.0, ap (λ x. x + n) h.1 ∙ ap (λ x. h.0 * a + x) g.1 ∙ e)

multiple-times : (a m n : ℕ) → Multiple a m → Multiple a (n * m)
multiple-times a m n h =
    let e : n * (h.0 * a) ≡ n * h.0 * a = grind arith in
    (n * h.0, ap (λ x. n * x) h.1 ∙ e)

multiple-trans : (a b m : ℕ) → Multiple a b → Multiple b m → Multiple a m
multiple-trans a b m h g =
    let e : g.0 * (h.0 * a) ≡ g.0 * h.0 * a = grind arith in
    (g.0 * h.0, g.1 ∙ ap (λ x. g.0 * x) h.1 ∙ e)

pub multiple-mod : (a m : ℕ) → Multiple a m → m % a ≡ 0
multiple-mod a m h = ap (λ x. x % a) h.1 ∙ mul-mod_left h.0 a

pub mod-multiple : (a m : ℕ) → m % a ≡ 0 → Multiple a m
mod-multiple a m h =
    let e = mod-add-div' m a in
    (m / a, omega (arith, e))

-- alignments

by-alignment : (P : ℕ → Type 0) (a : ℕ) → IsAlignment a → P 1 → P 2 → P 4 → P a
by-alignment P a h one two four = elim h [
  | inl e ↦ subst P (sym e) one
  | inr k ↦ elim k [
    | inl e ↦ subst P (sym e) two
    | inr e ↦ subst P (sym e) four
  ]
]

kind-alignment : (k : Kind) → IsAlignment (kind_size k)
kind-alignment I8 = inl refl
kind-alignment U8 = inl refl
kind-alignment I16 = inr (inl refl)
kind-alignment U16 = inr (inl refl)
kind-alignment I32 = inr (inr refl)
kind-alignment U32 = inr (inr refl)
kind-alignment Ptr = inr (inr refl)

abbrev Both : ℕ → ℕ → Type 0
Both a b = IsAlignment (max a b) × (max a b % a ≡ 0) × (max a b % b ≡ 0)

both : (a b : ℕ) → IsAlignment a → IsAlignment b → Both a b
both a b h g =
    by-alignment (λ x. Both x b) a h
    (by-alignment (λ y. Both 1 y) b g (inl refl, refl, refl) (inr (inl refl), refl, refl) (inr (inr refl), refl, refl))
    (by-alignment (λ y. Both 2 y) b g (inr (inl refl), refl, refl) (inr (inl refl), refl, refl) (inr (inr refl), refl, refl))
    (by-alignment (λ y. Both 4 y) b g (inr (inr refl), refl, refl) (inr (inr refl), refl, refl) (inr (inr refl), refl, refl))

round_up-multiple : (n a : ℕ) → IsAlignment a → Multiple a (round_up n a)
round_up-multiple n a h =
    mod-multiple a (round_up n a) (by-alignment (λ x. round_up n x % x ≡ 0) a h (omega arith) (omega arith) (omega arith))

-- cells one behind another

-- the first of them no lower than a place, the last of them ending at another place at most
abbrev pub Chained : ℕ → ℕ → List Cell → Type 0
Chained low high [] = low ≤ high
Chained low high (c ∷ cs) = (low ≤ c.offset) × Chained (end_of c) high cs

chained-lower : (low mid high : ℕ) (cs : List Cell) → low ≤ mid → Chained mid high cs → Chained low high cs
chained-lower low mid high [] le h = omega arith
chained-lower low mid high (c ∷ cs) le h = (omega (arith, h.0), h.1)

chained-higher : (low mid high : ℕ) (cs : List Cell) → mid ≤ high → Chained low mid cs → Chained low high cs
chained-higher low mid high [] le h = omega arith
chained-higher low mid high (c ∷ cs) le h = (h.0, chained-higher (end_of c) mid high cs le h.1)

chained-append : (low mid high : ℕ) (cs ds : List Cell) → Chained low mid cs → Chained mid high ds → Chained low high (cs ++ ds)
chained-append low mid high [] ds h g = chained-lower low mid high ds h g
chained-append low mid high (c ∷ cs) ds h g = (h.0, chained-append (end_of c) mid high cs ds h.1 g)

chained-moved : (d low high : ℕ) (cs : List Cell) → Chained low high cs → Chained (d + low) (d + high) (moved d cs)
chained-moved d low high [] h = omega arith
chained-moved d low high (c ∷ cs) h =
    let e : d + end_of c ≡ end_of (moved_cell d c) = omega arith in
    (omega (arith, h.0), subst (λ n. Chained n (d + high) (moved d cs)) e (chained-moved d (end_of c) high cs h.1))

chained-bound : (low high : ℕ) (cs : List Cell) → Chained low high cs → low ≤ high
chained-bound low high [] h = h
chained-bound low high (c ∷ cs) h =
    let k = chained-bound (end_of c) high cs h.1 in
    omega (arith, h.0, k)

chained-repeated : (at n : ℕ) (e : Layout) → Chained 0 e.size e.cells → Chained at (at + n * e.size) (repeated at n e)
chained-repeated at zero e h = omega arith
chained-repeated at (suc n) e h =
    let z : at + 0 ≡ at = omega arith in
    let s : at + e.size + n * e.size ≡ at + suc n * e.size = grind arith in
    chained-append at (at + e.size) (at + suc n * e.size) (moved at e.cells) (repeated (at + e.size) n e)
    (subst (λ x. Chained x (at + e.size) (moved at e.cells)) z (chained-moved at 0 e.size e.cells h))
    (subst (λ x. Chained (at + e.size) x (repeated (at + e.size) n e)) s (chained-repeated (at + e.size) n e h))

chained-first : (low high j : ℕ) (cs : List Cell) (d : Cell) → Chained low high cs → slice_get cs j ≡ Some d → low ≤ d.offset
chained-first low high j [] d h is = absurd (none-some d is)
chained-first low high zero (c ∷ cs) d h is = subst (λ (x : Cell). low ≤ x.offset) (same_Some c d is) h.0
chained-first low high (suc j) (c ∷ cs) d h is =
    let k = chained-first (end_of c) high j cs d h.1 is in
    omega (arith, h.0, k)

chained-inside : (low high : ℕ) (cs : List Cell) → Chained low high cs → All (λ (c : Cell). end_of c ≤ high) cs
chained-inside low high [] h = All-nil (λ (c : Cell). end_of c ≤ high)
chained-inside low high (c ∷ cs) h =
    All-cons (λ (x : Cell). end_of x ≤ high) c cs (chained-bound (end_of c) high cs h.1) (chained-inside (end_of c) high cs h.1)

chained-disjoint : (low high i j : ℕ) (cs : List Cell) (c d : Cell) → Chained low high cs → i < j → slice_get cs i ≡ Some c → slice_get cs j ≡ Some d → end_of c ≤ d.offset
chained-disjoint low high i j [] c d h lt is js = absurd (none-some c is)
chained-disjoint low high i zero (b ∷ cs) c d h lt is js = absurd (omega arith)
chained-disjoint low high zero (suc j) (b ∷ cs) c d h lt is js =
    subst (λ (x : Cell). end_of x ≤ d.offset) (same_Some b c is) (chained-first (end_of b) high j cs d h.1 js)
chained-disjoint low high (suc i) (suc j) (b ∷ cs) c d h lt is js =
    chained-disjoint (end_of b) high i j cs c d h.1 (omega arith) is js

-- cells at multiples of their sizes, each of which divides an alignment
abbrev pub Aligned : ℕ → List Cell → Type 0
Aligned a [] = Unit {0}
Aligned a (c ∷ cs) = Multiple (kind_size c.kind) a × Multiple (kind_size c.kind) c.offset × Aligned a cs

aligned-more : (a b : ℕ) (cs : List Cell) → Multiple a b → Aligned a cs → Aligned b cs
aligned-more a b [] m h = tt
aligned-more a b (c ∷ cs) m h = (multiple-trans (kind_size c.kind) a b h.0 m, h.1, aligned-more a b cs m h.2)

aligned-append : (a : ℕ) (cs ds : List Cell) → Aligned a cs → Aligned a ds → Aligned a (cs ++ ds)
aligned-append a [] ds h g = g
aligned-append a (c ∷ cs) ds h g = (h.0, h.1, aligned-append a cs ds h.2 g)

aligned-moved : (a d : ℕ) (cs : List Cell) → Multiple a d → Aligned a cs → Aligned a (moved d cs)
aligned-moved a d [] m h = tt
aligned-moved a d (c ∷ cs) m h = (
  h.0,
  multiple-add (kind_size c.kind) d c.offset (multiple-trans (kind_size c.kind) a d h.0 m) h.1,
  aligned-moved a d cs m h.2,
)

aligned-repeated : (at n : ℕ) (e : Layout) → Multiple e.align at → Multiple e.align e.size → Aligned e.align e.cells → Aligned e.align (repeated at n e)
aligned-repeated at zero e m s h = tt
aligned-repeated at (suc n) e m s h =
    aligned-append e.align (moved at e.cells) (repeated (at + e.size) n e)
    (aligned-moved e.align at e.cells m h)
    (aligned-repeated (at + e.size) n e (multiple-add e.align at e.size m s) s h)

aligned-at : (a at : ℕ) (cs : List Cell) → Multiple a at → Aligned a cs → All (λ (c : Cell). (at + c.offset) % kind_size c.kind ≡ 0) cs
aligned-at a at [] m h = All-nil (λ (c : Cell). (at + c.offset) % kind_size c.kind ≡ 0)
aligned-at a at (c ∷ cs) m h =
    let k = kind_size c.kind in
    All-cons (λ (x : Cell). (at + x.offset) % kind_size x.kind ≡ 0) c cs
    (multiple-mod k (at + c.offset) (multiple-add k at c.offset (multiple-trans k a at h.0 m) h.1))
    (aligned-at a at cs m h.2)

-- layouts

-- of members so far, whose size need be no multiple of their alignment yet
pub record Placed (l : Layout) : Type 0 where
  pub alignment : IsAlignment l.align
  pub chained : Chained 0 l.size l.cells
  pub aligned : Aligned l.align l.cells

pub record Sound (l : Layout) : Type 0 where
  pub placed : Placed l
  pub multiple : Multiple l.align l.size

placed-empty : Placed empty_layout
placed-empty = record { alignment = inl refl; chained = omega arith; aligned = tt }

sound-empty : Sound empty_layout
sound-empty = record { placed = placed-empty; multiple = (0, refl) }

sound-scalar : (k : Kind) → Sound (scalar_layout k)
sound-scalar k =
    let one : kind_size k ≡ 1 * kind_size k = omega arith in
    let none : 0 ≡ 0 * kind_size k = omega arith in
    record {
      placed = record { alignment = kind-alignment k; chained = (omega arith, omega arith); aligned = ((1, one), (0, none), tt) };
      multiple = (1, one);
    }

sound-array : (n : ℕ) (e : Layout) → Sound e → Sound (record { size = n * e.size; align = e.align; cells = repeated 0 n e })
sound-array n e h =
    let z : 0 + n * e.size ≡ n * e.size = omega arith in
    let none : 0 ≡ 0 * e.align = omega arith in
    record {
      placed = record {
        alignment = h.placed.alignment;
        chained = subst (λ x. Chained 0 x (repeated 0 n e)) z (chained-repeated 0 n e h.placed.chained);
        aligned = aligned-repeated 0 n e (0, none) h.multiple h.placed.aligned;
      };
      multiple = multiple-times e.align e.size n h.multiple;
    }

placed-member : (s m : Layout) → Placed s → Sound m → Placed (with_member s m)
placed-member s m h g =
    let at = round_up s.size m.align in
    let b = both s.align m.align h.alignment g.placed.alignment in
    let low : s.size ≤ at + 0 = omega arith in
    record {
      alignment = b.0;
      chained = chained-append 0 s.size (at + m.size) s.cells (moved at m.cells) h.chained
          (chained-lower s.size (at + 0) (at + m.size) (moved at m.cells) low (chained-moved at 0 m.size m.cells g.placed.chained));
      aligned = aligned-append (max s.align m.align) s.cells (moved at m.cells)
          (aligned-more s.align (max s.align m.align) s.cells (mod-multiple s.align (max s.align m.align) b.1) h.aligned)
          (aligned-more m.align (max s.align m.align) (moved at m.cells) (mod-multiple m.align (max s.align m.align) b.2)
          (aligned-moved m.align at m.cells (round_up-multiple s.size m.align g.placed.alignment) g.placed.aligned));
    }

sound-trailing : (l : Layout) → Placed l → Sound (with_trailing_bytes l)
sound-trailing l h =
    let more : l.size ≤ round_up l.size l.align = omega arith in
    record {
      placed = record {
        alignment = h.alignment;
        chained = chained-higher 0 l.size (round_up l.size l.align) l.cells more h.chained;
        aligned = h.aligned;
      };
      multiple = round_up-multiple l.size l.align h.alignment;
    }

pub AreSound : List Layout → Type 0
AreSound done = (n : ℕ) → Sound (layout_at done n)

pub sound-in : (done : List Layout) (ty : CType) → AreSound done → Sound (layout_in done ty)
unfolding AreSound
sound-in done void g = sound-empty
sound-in done (integer i) g = sound-scalar (kind_of i)
sound-in done (pointer c t) g = sound-scalar Ptr
sound-in done (array t n) g = sound-array n (layout_in done t) (sound-in done t g)
sound-in done (unsized t) g = sound-empty
sound-in done (struct n) g = g n
sound-in done (function r ps) g = sound-empty

placed-members : (done : List Layout) (ms : List Member) (s : Layout) → AreSound done → Placed s → Placed (members_in done ms s)
placed-members done [] s g h = h
placed-members done (m ∷ ms) s g h =
    placed-members done ms (with_member s (layout_in done m.type)) g (placed-member s (layout_in done m.type) h (sound-in done m.type g))

sound-struct : (done : List Layout) (ms : List Member) → AreSound done → Sound (struct_in done ms)
sound-struct done ms g =
    sound-trailing (members_in done ms empty_layout) (placed-members done ms empty_layout g placed-empty)

sound-push : (done : List Layout) (l : Layout) → Sound l → AreSound done → AreSound (done ++ l ∷ [])
unfolding AreSound
sound-push [] l h g zero = h
sound-push [] l h g (suc n) = sound-empty
sound-push (k ∷ done) l h g zero = g zero
sound-push (k ∷ done) l h g (suc n) = sound-push done l h (λ m. g (suc m)) n

sound-from : (done : List Layout) (ss : Structs) → AreSound done → AreSound (built_from struct_in done ss)
sound-from done [] g = g
sound-from done (ms ∷ ss) g =
    sound-from (done ++ struct_in done ms ∷ []) ss (sound-push done (struct_in done ms) (sound-struct done ms g) g)

sound-none : AreSound []
unfolding AreSound
sound-none n = sound-empty

pub sound : (ss : Structs) (ty : CType) → Sound (layout ss ty)
sound ss ty = sound-in (layouts ss) ty (sound-from [] ss sound-none)

-- what the laws say

pub cells-inside : (ss : Structs) (ty : CType) → CellsInside (layout ss ty)
cells-inside ss ty = chained-inside 0 (layout ss ty).size (layout ss ty).cells (sound ss ty).placed.chained

pub cells-disjoint : (ss : Structs) (ty : CType) → CellsDisjoint (layout ss ty)
cells-disjoint ss ty i j c d lt is js =
    chained-disjoint 0 (layout ss ty).size i j (layout ss ty).cells c d (sound ss ty).placed.chained lt is js

pub cells-aligned : (ss : Structs) (ty : CType) (at : ℕ) → at % (layout ss ty).align ≡ 0 → CellsAlignedAt at (layout ss ty)
cells-aligned ss ty at h =
    aligned-at (layout ss ty).align at (layout ss ty).cells (mod-multiple (layout ss ty).align at h) (sound ss ty).placed.aligned

pub cells-aligned-first : (ss : Structs) (ty : CType) → CellsAlignedAt 0 (layout ss ty)
cells-aligned-first ss ty =
    let none : 0 ≡ 0 * (layout ss ty).align = omega arith in
    aligned-at (layout ss ty).align 0 (layout ss ty).cells (0, none) (sound ss ty).placed.aligned

pub size-multiple : (ss : Structs) (ty : CType) → (layout ss ty).size % (layout ss ty).align ≡ 0
size-multiple ss ty = multiple-mod (layout ss ty).align (layout ss ty).size (sound ss ty).multiple

pub alignment-is : (ss : Structs) (ty : CType) → IsAlignment (layout ss ty).align
alignment-is ss ty = (sound ss ty).placed.alignment

repeated-from : (k n : ℕ) (e : Layout) → repeated (k * e.size) n e ≡ flat_map (λ j. moved (j * e.size) e.cells) (range_with_len k n)
repeated-from k zero e = refl
repeated-from k (suc n) e =
    let s : k * e.size + e.size ≡ (k + 1) * e.size = grind arith in
    ap (λ x. moved (k * e.size) e.cells ++ repeated x n e) s
    ∙ ap (λ xs. moved (k * e.size) e.cells ++ xs) (repeated-from (k + 1) n e)

pub side-by-side : (n : ℕ) (e : Layout) → repeated 0 n e ≡ cells_side_by_side n e
side-by-side n e =
    let z : 0 ≡ 0 * e.size = omega arith in
    ap (λ x. repeated x n e) z ∙ repeated-from 0 n e

-- how many cells there are

chained-count : (low high : ℕ) (cs : List Cell) → Chained low high cs → low + length cs ≤ high
chained-count low high [] h = omega arith
chained-count low high (c ∷ cs) h =
    let k = chained-count (end_of c) high cs h.1 in
    let p = kind-positive c.kind in
    omega (arith, h.0, k, p)
  where
    kind-positive : (k : Kind) → 0 < kind_size k
    kind-positive I8 = omega arith
    kind-positive U8 = omega arith
    kind-positive I16 = omega arith
    kind-positive U16 = omega arith
    kind-positive I32 = omega arith
    kind-positive U32 = omega arith
    kind-positive Ptr = omega arith

-- each cell takes a byte at least
pub few-cells : (ss : Structs) (ty : CType) → length (layout ss ty).cells ≤ (layout ss ty).size
few-cells ss ty =
    let h = chained-count 0 (layout ss ty).size (layout ss ty).cells (sound ss ty).placed.chained in
    omega arith

pub length-repeated : (at n : ℕ) (e : Layout) → length (repeated at n e) ≡ n * length e.cells
length-repeated at zero e = omega arith
length-repeated at (suc n) e =
    let a = length-append (moved at e.cells) (repeated (at + e.size) n e) in
    let m = length-map {A = Cell} e.cells (moved_cell at) in
    let r = length-repeated (at + e.size) n e in
    let s : suc n * length e.cells ≡ length e.cells + n * length e.cells = grind arith in
    omega arith

pub few-cells-in : (ss : Structs) (ms : List Member) → length (struct_in (layouts ss) ms).cells ≤ (struct_in (layouts ss) ms).size
few-cells-in ss ms =
    let s = sound-struct (layouts ss) ms (sound-from [] ss sound-none) in
    let h = chained-count 0 (struct_in (layouts ss) ms).size (struct_in (layouts ss) ms).cells s.placed.chained in
    omega arith

pub positive-alignment : (ss : Structs) (ty : CType) → 0 < (layout ss ty).align
positive-alignment ss ty = elim (alignment-is ss ty) [
  | inl e ↦ omega (arith, e)
  | inr k ↦ elim k [
    | inl e ↦ omega (arith, e)
    | inr e ↦ omega (arith, e)
  ]
]
