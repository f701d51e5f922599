-- The bytes of one static.
use Rattle.std.proofs.Common.{◌≡◌, ◌<◌, ◌≤◌, ◌⊎◌, inl, inr, ℕ, zero, suc, ◌+◌, ◌-◌, ◌*◌, ◌%◌, ◌^◌, List, [], ◌∷◌, ◌++◌, Some, length, refl, ap, ◌∙◌, subst, arith, length-append}
use Rattle.std.specs.Prelude.{slice_get, slice_index, replicate}
use Rattle.im_num.specs.declared.kind.Kind.{Kind}
use Rattle.im_num.specs.declared.kind.Kind.TheVariants.{I8, U8, I16, U16, I32, U32, Ptr}
use Rattle.im_num.specs.Bytes.{bytes_of}
use Rattle.im_num.specs.Kinds.{kind_size}
use Rattle.im_mem.specs.Memory.{little, view}
use Rattle.im_mem.proofs.Words.{length-bytes_of}
use Rattle.im_ctype.specs.declared.cell.Cell.{Cell}
use Rattle.im_block.specs.declared.unit.Constant.{Constant}
use Rattle.im_block.specs.declared.unit.Object.{Object}
use Rattle.im_block.specs.Wellformed.{HasCells}
use Rattle.im_pack.specs.Packed.{word_of}
use Rattle.im_pack.specs.Bytes.{cells_bytes}
use Rattle.im_pack.proofs.Views.{index_left, index_behind, little-behind, cell_bytes, zeros, length_zeros}

pub some_bytes : (k : Kind) → 0 < kind_size k
some_bytes I8 = omega arith
some_bytes U8 = omega arith
some_bytes I16 = omega arith
some_bytes U16 = omega arith
some_bytes I32 = omega arith
some_bytes U32 = omega arith
some_bytes Ptr = omega arith

-- one behind the other, from one place of an object up to its size
abbrev pub AreFrom : ℕ → ℕ → List Cell → Type 0
AreFrom from size [] = from ≤ size
AreFrom from size (c ∷ cs) = (from ≤ c.offset) × AreFrom (c.offset + kind_size c.kind) size cs

pub reaches : (from size : ℕ) (cs : List Cell) → AreFrom from size cs → from ≤ size
reaches from size [] h = h
reaches from size (c ∷ cs) h = let r = reaches (c.offset + kind_size c.kind) size cs h.1 in let f = h.0 in omega arith

pub behind : (from size : ℕ) (cs : List Cell) (i : ℕ) (c : Cell) → AreFrom from size cs → slice_get cs i ≡ Some c → from ≤ c.offset
behind from size [] i c h e = absurd cc
behind from size (d ∷ cs) zero c h e = let q : d ≡ c = cc in let s = ap (λ (z : Cell). z.offset) q in let f = h.0 in omega arith
behind from size (d ∷ cs) (suc i) c h e = let r = behind (d.offset + kind_size d.kind) size cs i c h.1 e in let f = h.0 in omega arith

pub ordered : (size from : ℕ) (cs : List Cell) → from ≤ size → ((i : ℕ) (c : Cell) → slice_get cs i ≡ Some c → from ≤ c.offset) → ((i : ℕ) (c : Cell) → slice_get cs i ≡ Some c → c.offset + kind_size c.kind ≤ size)
    → ((i j : ℕ) (c d : Cell) → slice_get cs i ≡ Some c → slice_get cs j ≡ Some d → i < j → c.offset + kind_size c.kind ≤ d.offset) → AreFrom from size cs
ordered size from [] fits low inside apart = fits
ordered size from (c ∷ cs) fits low inside apart = (
  low 0 c refl,
  ordered size (c.offset + kind_size c.kind) cs (inside 0 c refl) (λ i d e. apart 0 (suc i) c d refl e (omega arith)) (λ i d e. inside (suc i) d e) (λ i j d f e g l. apart (suc i) (suc j) d f e g (omega arith)),
)

pub cells_from : (o : Object) → HasCells o → AreFrom 0 o.size o.cells.items
cells_from o h = ordered o.size 0 o.cells.items (omega arith) (λ i c e. omega arith) h.inside h.apart

module _ (addresses : List ℕ) (size end : ℕ) (fits : size ≤ end) where
  pub count : (from : ℕ) (cs : List Cell) (vs : List Constant) → AreFrom from size cs → length (cells_bytes addresses from end cs vs) ≡ end - from
  count from [] vs h = length_zeros (end - from)
  count from (c ∷ cs) [] h = length_zeros (end - from)
  count from (c ∷ cs) (v ∷ vs) h =
      let k : ℕ = kind_size c.kind in
      let w : ℕ = word_of addresses v in
      let rest : List ℕ = cells_bytes addresses (c.offset + k) end cs vs in
      let r : length rest ≡ end - (c.offset + k) = count (c.offset + k) cs vs h.1 in
      let s = reaches (c.offset + k) size cs h.1 in
      let f = h.0 in
      let a = length-append (replicate (c.offset - from) 0) (bytes_of k w ++ rest) in
      let b = length-append (bytes_of k w) rest in
      let l = length-bytes_of k w in
      let z = length_zeros (c.offset - from) in
      omega arith

  -- each cell has its value
  pub hold : (from : ℕ) (cs : List Cell) (vs : List Constant) → AreFrom from size cs → (i : ℕ) (c : Cell) (v : Constant) → slice_get cs i ≡ Some c → slice_get vs i ≡ Some v
      → little (view (cells_bytes addresses from end cs vs)) (c.offset - from) (kind_size c.kind) ≡ word_of addresses v % 2 ^ (8 * kind_size c.kind)
  hold from [] vs h i c v e g = absurd cc
  hold from (d ∷ cs) [] h i c v e g = absurd cc
  hold from (d ∷ cs) (w ∷ vs) h zero c v e g =
      let same : d ≡ c = cc in
      let one : w ≡ v = cc in
      subst (λ (z : Cell). little (view (cells_bytes addresses from end (d ∷ cs) (w ∷ vs))) (z.offset - from) (kind_size z.kind) ≡ word_of addresses v % 2 ^ (8 * kind_size z.kind)) same (subst (λ z. little (view (cells_bytes addresses from end (d ∷ cs) (w ∷ vs))) (d.offset - from) (kind_size d.kind) ≡ word_of addresses z % 2 ^ (8 * kind_size d.kind)) one here)
    where
      here : little (view (cells_bytes addresses from end (d ∷ cs) (w ∷ vs))) (d.offset - from) (kind_size d.kind) ≡ word_of addresses w % 2 ^ (8 * kind_size d.kind)
      here =
          let k : ℕ = kind_size d.kind in
          let pad : List ℕ = replicate (d.offset - from) 0 in
          let own : List ℕ = bytes_of k (word_of addresses w) in
          let rest : List ℕ = cells_bytes addresses (d.offset + k) end cs vs in
          let l : d.offset - from ≡ length pad + 0 = (let z = length_zeros (d.offset - from) in omega arith) in
          ap (λ a. little (view (pad ++ (own ++ rest))) a k) l
          ∙ little-behind pad (own ++ rest) 0 k
          ∙ cell_bytes d.kind (word_of addresses w) rest
  hold from (d ∷ cs) (w ∷ vs) h (suc i) c v e g =
      let k : ℕ = kind_size d.kind in
      let pad : List ℕ = replicate (d.offset - from) 0 in
      let own : List ℕ = bytes_of k (word_of addresses w) in
      let rest : List ℕ = cells_bytes addresses (d.offset + k) end cs vs in
      let low = behind (d.offset + k) size cs i c h.1 e in
      let f = h.0 in
      let far : c.offset - from ≡ length pad + (length own + (c.offset - (d.offset + k))) =
      (let z = length_zeros (d.offset - from) in let y = length-bytes_of k (word_of addresses w) in omega arith) in
      ap (λ a. little (view (pad ++ (own ++ rest))) a (kind_size c.kind)) far
      ∙ little-behind pad (own ++ rest) (length own + (c.offset - (d.offset + k))) (kind_size c.kind)
      ∙ little-behind own rest (c.offset - (d.offset + k)) (kind_size c.kind)
      ∙ hold (d.offset + k) cs vs h.1 i c v e g

  early : (from : ℕ) (c : Cell) (k : ℕ) (rest : List ℕ) → from + k < c.offset → slice_index (replicate (c.offset - from) 0 ++ rest) k ≡ 0
  early from c k rest b =
      let z = length_zeros (c.offset - from) in
      index_left (replicate (c.offset - from) 0) rest k (omega arith) ∙ zeros (c.offset - from) k

  late : (from : ℕ) (c : Cell) (v : Constant) (k : ℕ) (rest : List ℕ) → from ≤ c.offset → c.offset + kind_size c.kind ≤ from + k
      → slice_index (replicate (c.offset - from) 0 ++ (bytes_of (kind_size c.kind) (word_of addresses v) ++ rest)) k ≡ slice_index rest (from + k - (c.offset + kind_size c.kind))
  late from c v k rest low a =
      let pad : List ℕ = replicate (c.offset - from) 0 in
      let own : List ℕ = bytes_of (kind_size c.kind) (word_of addresses v) in
      let j : ℕ = from + k - (c.offset + kind_size c.kind) in
      let z = length_zeros (c.offset - from) in
      let y = length-bytes_of (kind_size c.kind) (word_of addresses v) in
      let far : k ≡ length pad + (length own + j) = omega arith in
      ap (slice_index (pad ++ (own ++ rest))) far ∙ index_behind pad (own ++ rest) (length own + j) ∙ index_behind own rest j

  moved : (from k next : ℕ) (d : Cell) → next ≤ from + k → (from + k < d.offset) ⊎ (d.offset + kind_size d.kind ≤ from + k) → (next + (from + k - next) < d.offset) ⊎ (d.offset + kind_size d.kind ≤ next + (from + k - next))
  moved from k next d l (inl b) = inl (omega arith)
  moved from k next d l (inr b) = inr (omega arith)

  -- each byte of no cell is 0
  pub others : (from : ℕ) (cs : List Cell) (vs : List Constant) → AreFrom from size cs → length vs ≡ length cs → (k : ℕ)
      → ((i : ℕ) (c : Cell) (v : Constant) → slice_get cs i ≡ Some c → slice_get vs i ≡ Some v → (from + k < c.offset) ⊎ (c.offset + kind_size c.kind ≤ from + k))
      → slice_index (cells_bytes addresses from end cs vs) k ≡ 0
  others from [] vs h n k out = zeros (end - from) k
  others from (c ∷ cs) [] h n k out = zeros (end - from) k
  others from (c ∷ cs) (v ∷ vs) h n k out = elim (out 0 c v refl refl) [
    | inl before ↦ early from c k (bytes_of (kind_size c.kind) (word_of addresses v) ++ cells_bytes addresses (c.offset + kind_size c.kind) end cs vs) before
    | inr after ↦
        (let low : from ≤ c.offset = h.0 in
        late from c v k (cells_bytes addresses (c.offset + kind_size c.kind) end cs vs) low after
        ∙ others (c.offset + kind_size c.kind) cs vs h.1 (omega arith) (from + k - (c.offset + kind_size c.kind)) (λ i d w e g. moved from k (c.offset + kind_size c.kind) d after (out (suc i) d w e g)))
  ]
