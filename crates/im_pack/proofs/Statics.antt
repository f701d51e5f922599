-- The bytes of all statics.
use Rattle.std.proofs.Common.{◌≡◌, ◌<◌, ◌≤◌, ◌⊎◌, inl, inr, ℕ, zero, suc, ◌+◌, ◌-◌, ◌*◌, ◌/◌, ◌%◌, ◌^◌, List, [], ◌∷◌, ◌++◌, Some, None, length, refl, sym, ap, ◌∙◌, subst, arith, length-append}
use Rattle.std.specs.Prelude.{slice_get, slice_index, replicate}
use Rattle.std.proofs.lemmas.Bool.{cases_lt}
use Rattle.im_num.specs.Bytes.{bytes_of}
use Rattle.im_num.specs.Kinds.{kind_size}
use Rattle.im_mem.specs.Memory.{little, view}
use Rattle.im_ctype.specs.declared.cell.Cell.{Cell}
use Rattle.im_block.specs.declared.unit.Constant.{Constant}
use Rattle.im_block.specs.declared.unit.Static.{Static as StaticOf}
use Rattle.im_block.specs.Wellformed.{HasCells}
use Rattle.im_frame.specs.Layout.{room, rooms, places_from}
use Rattle.im_frame.proofs.Places.{lies}
use Rattle.im_select_addresses.specs.Statics.{objects_of}
use Rattle.im_pack.specs.Packed.{word_of, IsCell, AreFirstBytes}
use Rattle.im_pack.specs.Bytes.{cells_bytes, static_bytes, statics_bytes}
use Rattle.im_pack.proofs.Views.{index_left, index_behind, little-behind, little-first}
use Rattle.im_pack.proofs.Cells.{cells_from, count, hold, others}

pub object_is : (ss : List StaticOf) (n : ℕ) (s : StaticOf) → slice_get ss n ≡ Some s → slice_get (objects_of ss) n ≡ Some s.object
object_is [] n s e = absurd cc
object_is (x ∷ ss) zero s e = let q : x ≡ s = cc in ap (λ (z : StaticOf). Some z.object) q
object_is (x ∷ ss) (suc n) s e = object_is ss n s e

pub record HasValues (s : StaticOf) : Type 0 where
  pub cells : HasCells s.object
  pub count : length s.values.items ≡ length s.object.cells.items

abbrev pub AllHave : List StaticOf → Type 0
AllHave statics = (n : ℕ) (s : StaticOf) → slice_get statics n ≡ Some s → HasValues s

module _ (addresses : List ℕ) where
  pub one : (s : StaticOf) → HasCells s.object → length (static_bytes addresses s) ≡ room s.object.size
  one s h =
      let c = count addresses s.object.size (room s.object.size) (omega arith) 0 s.object.cells.items s.values.items (cells_from s.object h) in
      omega arith

  pub whole : (statics : List StaticOf) → AllHave statics → length (statics_bytes addresses statics) ≡ rooms (objects_of statics)
  whole [] h = refl
  whole (s ∷ statics) h =
      let a = length-append (static_bytes addresses s) (statics_bytes addresses statics) in
      let b = one s (h 0 s refl).cells in
      let r = whole statics (λ n t e. h (suc n) t e) in
      omega arith

  -- the place of a cell, from where the first static begins
  abbrev place : ℕ → List StaticOf → ℕ → Cell → ℕ
  place base statics n c = slice_index (places_from base (objects_of statics)) n + c.offset - base

  later : (s : StaticOf) (statics : List StaticOf) (n : ℕ) (c : Cell) (v : Constant) → IsCell (s ∷ statics) (suc n) c v → IsCell statics n c v
  later s statics n c v h = record { s = h.s; i = h.i; is_static = h.is_static; is_cell = h.is_cell; is_value = h.is_value }

  sooner : (s : StaticOf) (statics : List StaticOf) (n : ℕ) (c : Cell) (v : Constant) → IsCell statics n c v → IsCell (s ∷ statics) (suc n) c v
  sooner s statics n c v h = record { s = h.s; i = h.i; is_static = h.is_static; is_cell = h.is_cell; is_value = h.is_value }

  low : (base : ℕ) (statics : List StaticOf) (n : ℕ) (c : Cell) (v : Constant) → IsCell statics n c v → base ≤ slice_index (places_from base (objects_of statics)) n
  low base statics n c v h = (lies base (objects_of statics) n h.s.object (object_is statics n h.s h.is_static)).low

  holds : (base : ℕ) (statics : List StaticOf) → AllHave statics → (n : ℕ) (c : Cell) (v : Constant) → IsCell statics n c v
      → little (view (statics_bytes addresses statics)) (place base statics n c) (kind_size c.kind) ≡ word_of addresses v % 2 ^ (8 * kind_size c.kind)
  holds base [] h n c v is = (let bad : None ≡ Some is.s = is.is_static in absurd cc)
  holds base (s ∷ statics) h zero c v is =
      let same : s ≡ is.s = (let e = is.is_static in cc) in
      let cell : slice_get s.object.cells.items is.i ≡ Some c = subst (λ (z : StaticOf). slice_get z.object.cells.items is.i ≡ Some c) (sym same) is.is_cell in
      let value : slice_get s.values.items is.i ≡ Some v = subst (λ (z : StaticOf). slice_get z.values.items is.i ≡ Some v) (sym same) is.is_value in
      let cells = (h 0 s refl).cells in
      let inside = cells.inside is.i c cell in
      let l = one s cells in
      let start : base + c.offset - base ≡ c.offset = omega arith in
      let from : c.offset - 0 ≡ c.offset = omega arith in
      ap (λ a. little (view (static_bytes addresses s ++ statics_bytes addresses statics)) a (kind_size c.kind)) start
      ∙ little-first (static_bytes addresses s) (statics_bytes addresses statics) c.offset (kind_size c.kind) (omega arith)
      ∙ ap (λ a. little (view (static_bytes addresses s)) a (kind_size c.kind)) (sym from)
      ∙ hold addresses s.object.size (room s.object.size) (omega arith) 0 s.object.cells.items s.values.items (cells_from s.object cells) is.i c v cell value
  holds base (s ∷ statics) h (suc n) c v is =
      let next = later s statics n c v is in
      let b = low (base + room s.object.size) statics n c v next in
      let l = one s (h 0 s refl).cells in
      let far : place base (s ∷ statics) (suc n) c ≡ length (static_bytes addresses s) + place (base + room s.object.size) statics n c = omega arith in
      ap (λ a. little (view (static_bytes addresses s ++ statics_bytes addresses statics)) a (kind_size c.kind)) far
      ∙ little-behind (static_bytes addresses s) (statics_bytes addresses statics) (place (base + room s.object.size) statics n c) (kind_size c.kind)
      ∙ holds (base + room s.object.size) statics (λ m t e. h (suc m) t e) n c v next

  first_cells : (base : ℕ) (s : StaticOf) (statics : List StaticOf) (k : ℕ) → ((n : ℕ) (c : Cell) (v : Constant) → IsCell (s ∷ statics) n c v → (k < place base (s ∷ statics) n c) ⊎ (place base (s ∷ statics) n c + kind_size c.kind ≤ k))
      → (i : ℕ) (c : Cell) (v : Constant) → slice_get s.object.cells.items i ≡ Some c → slice_get s.values.items i ≡ Some v → (0 + k < c.offset) ⊎ (c.offset + kind_size c.kind ≤ 0 + k)
  first_cells base s statics k out i c v e g = elim (out 0 c v (record { s = s; i = i; is_static = refl; is_cell = e; is_value = g })) [
    | inl b ↦ inl (omega arith)
    | inr b ↦ inr (omega arith)
  ]

  further_cells : (base : ℕ) (s : StaticOf) (statics : List StaticOf) (k : ℕ) → room s.object.size ≤ k → ((n : ℕ) (c : Cell) (v : Constant) → IsCell (s ∷ statics) n c v → (k < place base (s ∷ statics) n c) ⊎ (place base (s ∷ statics) n c + kind_size c.kind ≤ k))
      → (n : ℕ) (c : Cell) (v : Constant) → IsCell statics n c v
      → (k - room s.object.size < place (base + room s.object.size) statics n c) ⊎ (place (base + room s.object.size) statics n c + kind_size c.kind ≤ k - room s.object.size)
  further_cells base s statics k beyond out n c v is =
      let b = low (base + room s.object.size) statics n c v is in
      elim (out (suc n) c v (sooner s statics n c v is)) [
        | inl q ↦ inl (omega arith)
        | inr q ↦ inr (omega arith)
      ]

  here : (s : StaticOf) (statics : List StaticOf) (k : ℕ) → HasValues s → k < room s.object.size
      → ((i : ℕ) (c : Cell) (v : Constant) → slice_get s.object.cells.items i ≡ Some c → slice_get s.values.items i ≡ Some v → (0 + k < c.offset) ⊎ (c.offset + kind_size c.kind ≤ 0 + k))
      → slice_index (static_bytes addresses s ++ statics_bytes addresses statics) k ≡ 0
  here s statics k h within out =
      let l = one s h.cells in
      index_left (static_bytes addresses s) (statics_bytes addresses statics) k (omega arith)
      ∙ others addresses s.object.size (room s.object.size) (omega arith) 0 s.object.cells.items s.values.items (cells_from s.object h.cells) h.count k out

  there : (s : StaticOf) (statics : List StaticOf) (k : ℕ) → HasValues s → room s.object.size ≤ k
      → slice_index (static_bytes addresses s ++ statics_bytes addresses statics) k ≡ slice_index (statics_bytes addresses statics) (k - room s.object.size)
  there s statics k h beyond =
      let l = one s h.cells in
      let far : k ≡ length (static_bytes addresses s) + (k - room s.object.size) = omega arith in
      ap (slice_index (static_bytes addresses s ++ statics_bytes addresses statics)) far
      ∙ index_behind (static_bytes addresses s) (statics_bytes addresses statics) (k - room s.object.size)

  empty : (base : ℕ) (statics : List StaticOf) → AllHave statics → (k : ℕ) → ((n : ℕ) (c : Cell) (v : Constant) → IsCell statics n c v → (k < place base statics n c) ⊎ (place base statics n c + kind_size c.kind ≤ k))
      → slice_index (statics_bytes addresses statics) k ≡ 0
  empty base [] h k out = refl
  empty base (s ∷ statics) h k out = elim (cases_lt k (room s.object.size)) [
    | inl within ↦ here s statics k (h 0 s refl) within (first_cells base s statics k out)
    | inr beyond ↦
        there s statics k (h 0 s refl) beyond
        ∙ empty (base + room s.object.size) statics (λ m t e. h (suc m) t e) (k - room s.object.size) (further_cells base s statics k beyond out)
  ]

  pub first_bytes : (statics : List StaticOf) → AllHave statics → addresses ≡ places_from 1048576 (objects_of statics) → AreFirstBytes statics addresses (statics_bytes addresses statics)
  first_bytes statics h at = record {
    size = whole statics h;
    cells = λ n c v is. ap (λ a. little (view (statics_bytes addresses statics)) (slice_index a n + c.offset - 1048576) (kind_size c.kind)) at ∙ holds 1048576 statics h n c v is;
    rest = λ k out. empty 1048576 statics h k (λ n c v is. subst (λ (a : List ℕ). (k < slice_index a n + c.offset - 1048576) ⊎ (slice_index a n + c.offset - 1048576 + kind_size c.kind ≤ k)) at (out n c v is));
  }

-- ---- bytes are small

abbrev AreBytes : List ℕ → Type 0
AreBytes [] = Unit {0}
AreBytes (b ∷ bs) = (b < 256) × AreBytes bs

both_bytes : (xs ys : List ℕ) → AreBytes xs → AreBytes ys → AreBytes (xs ++ ys)
both_bytes [] ys a b = b
both_bytes (x ∷ xs) ys a b = (a.0, both_bytes xs ys a.1 b)

zero_bytes : (n : ℕ) → AreBytes (replicate n 0)
zero_bytes zero = tt
zero_bytes (suc n) = (omega arith, zero_bytes n)

word_bytes_small : (n w : ℕ) → AreBytes (bytes_of n w)
word_bytes_small zero w = tt
word_bytes_small (suc n) w = (omega arith, word_bytes_small n (w / 256))

cell_bytes_small : (addresses : List ℕ) (from end : ℕ) (cs : List Cell) (vs : List Constant) → AreBytes (cells_bytes addresses from end cs vs)
cell_bytes_small addresses from end [] vs = zero_bytes (end - from)
cell_bytes_small addresses from end (c ∷ cs) [] = zero_bytes (end - from)
cell_bytes_small addresses from end (c ∷ cs) (v ∷ vs) =
    both_bytes (replicate (c.offset - from) 0) (bytes_of (kind_size c.kind) (word_of addresses v) ++ cells_bytes addresses (c.offset + kind_size c.kind) end cs vs) (zero_bytes (c.offset - from))
    (both_bytes (bytes_of (kind_size c.kind) (word_of addresses v)) (cells_bytes addresses (c.offset + kind_size c.kind) end cs vs) (word_bytes_small (kind_size c.kind) (word_of addresses v)) (cell_bytes_small addresses (c.offset + kind_size c.kind) end cs vs))

all_bytes : (addresses : List ℕ) (statics : List StaticOf) → AreBytes (statics_bytes addresses statics)
all_bytes addresses [] = tt
all_bytes addresses (s ∷ statics) =
    both_bytes (static_bytes addresses s) (statics_bytes addresses statics) (cell_bytes_small addresses 0 (room s.object.size) s.object.cells.items s.values.items) (all_bytes addresses statics)

small_at : (bs : List ℕ) → AreBytes bs → (k : ℕ) → slice_index bs k < 256
small_at [] h k = omega arith
small_at (b ∷ bs) h zero = h.0
small_at (b ∷ bs) h (suc k) = small_at bs h.1 k

pub small_bytes : (addresses : List ℕ) (statics : List StaticOf) (k : ℕ) → slice_index (statics_bytes addresses statics) k < 256
small_bytes addresses statics k = small_at (statics_bytes addresses statics) (all_bytes addresses statics) k
