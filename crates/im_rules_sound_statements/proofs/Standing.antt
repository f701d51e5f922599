-- Cells of parts that stand among an object's, and offsets that ascend.
use Rattle.std.proofs.Common.{◌≡◌, ℕ, suc, ◌+◌, ◌<◌, ◌≤◌, List, [], ◌∷◌, ◌++◌, map, true, false, refl, ap, ◌∙◌, subst, arith}
use Rattle.std.specs.Prelude.{Some, if◌then◌else◌, nat_eq}
use Rattle.std.proofs.lemmas.Bool.{ne_eqb, eq-eqb}
use Rattle.im_ctype.specs.declared.cell.Cell.{Cell}
use Rattle.im_ctype.specs.Types.{CType, Structs}
use Rattle.im_ctype.specs.Layout.{Layout, moved, repeated, layout}
use Rattle.im_ctype.specs.Laws.{end_of}
use Rattle.im_ctype.proofs.Places.{Chained, sound}
use Rattle.im_ctype.proofs.CellLists.{moved-array}
use Rattle.im_store.specs.Objects.{kind_at}
use Rattle.im_typed.specs.Meaning.{is_among}
use Rattle.im_typed.specs.Typing.{StandAmong, AreDistinct}
use Rattle.im_rules_sound_expressions.proofs.Types.{kind-small}

-- offsets, each above the one before, from a number on and below another
abbrev pub Ascending : ℕ → ℕ → List ℕ → Type 0
Ascending low high [] = low ≤ high
Ascending low high (x ∷ xs) = (low ≤ x) × Ascending (suc x) high xs

pub ascending-lower : (low mid high : ℕ) (xs : List ℕ) → low ≤ mid → Ascending mid high xs → Ascending low high xs
ascending-lower low mid high [] le h = omega (arith, le, h)
ascending-lower low mid high (x ∷ xs) le h = (omega (arith, le, h.0), h.1)

pub ascending-higher : (low mid high : ℕ) (xs : List ℕ) → mid ≤ high → Ascending low mid xs → Ascending low high xs
ascending-higher low mid high [] le h = omega (arith, le, h)
ascending-higher low mid high (x ∷ xs) le h = (h.0, ascending-higher (suc x) mid high xs le h.1)

pub ascending-append : (low mid high : ℕ) (xs ys : List ℕ) → Ascending low mid xs → Ascending mid high ys → Ascending low high (xs ++ ys)
ascending-append low mid high [] ys h k = ascending-lower low mid high ys h k
ascending-append low mid high (x ∷ xs) ys h k = (h.0, ascending-append (suc x) mid high xs ys h.1 k)

not-among : (n low high : ℕ) (xs : List ℕ) → n < low → Ascending low high xs → is_among n xs ≡ false
not-among n low high [] lt h = refl
not-among n low high (x ∷ xs) lt h =
    let other : nat_eq n x ≡ false = ne_eqb n x (λ e. absurd (omega (arith, lt, h.0, e))) in
    ap (λ b. if b then true else is_among n xs) other ∙ not-among n (suc x) high xs (omega (arith, lt, h.0)) h.1

pub ascending-distinct : (low high : ℕ) (xs : List ℕ) → Ascending low high xs → AreDistinct xs
ascending-distinct low high [] h = tt
ascending-distinct low high (x ∷ xs) h = (not-among x (suc x) high xs (omega arith) h.1, ascending-distinct (suc x) high xs h.1)

-- cells one behind another have offsets that ascend
pub chained-ascending : (at low high : ℕ) (cs : List Cell) → Chained low high cs → Ascending (at + low) (at + high) (map {A = Cell} (λ c. at + c.offset) cs)
chained-ascending at low high [] h = omega (arith, h)
chained-ascending at low high (c ∷ cs) h =
    let small = (kind-small c.kind).0 in (
      omega (arith, h.0),
      ascending-lower (suc (at + c.offset)) (at + end_of c) (at + high) (map {A = Cell} (λ c. at + c.offset) cs) (omega (arith, small)) (chained-ascending at (end_of c) high cs h.1),
    )

pub type-ascending : (known : Structs) (a : CType) (at : ℕ) → Ascending at (at + (layout known a).size) (map {A = Cell} (λ c. at + c.offset) (layout known a).cells)
type-ascending known a at =
    let none : at + 0 ≡ at = omega arith in
    subst (λ n. Ascending n (at + (layout known a).size) (map {A = Cell} (λ c. at + c.offset) (layout known a).cells)) none (chained-ascending at 0 (layout known a).size (layout known a).cells (sound known a).placed.chained)

-- cells that stand among others

pub stand-first : (whole : List Cell) (at : ℕ) (cs ds : List Cell) → StandAmong whole at (cs ++ ds) → StandAmong whole at cs
stand-first whole at [] ds h = tt
stand-first whole at (c ∷ cs) ds h = (h.0, stand-first whole at cs ds h.1)

pub stand-last : (whole : List Cell) (at : ℕ) (cs ds : List Cell) → StandAmong whole at (cs ++ ds) → StandAmong whole at ds
stand-last whole at [] ds h = h
stand-last whole at (c ∷ cs) ds h = stand-last whole at cs ds h.1

pub stand-moved : (whole : List Cell) (at d : ℕ) (cs : List Cell) → StandAmong whole at (moved d cs) → StandAmong whole (at + d) cs
stand-moved whole at d [] h = tt
stand-moved whole at d (c ∷ cs) h =
    let same : at + (d + c.offset) ≡ at + d + c.offset = omega arith in
    (subst (λ n. kind_at whole n ≡ Some c.kind) same h.0, stand-moved whole at d cs h.1)

stand-at : (whole : List Cell) (at to : ℕ) (cs : List Cell) → at ≡ to → StandAmong whole at cs → StandAmong whole to cs
stand-at whole at to cs e h = subst (λ n. StandAmong whole n cs) e h

-- the first of some elements, and the others
pub element-stands : (whole : List Cell) (at n : ℕ) (e : Layout) → StandAmong whole at (repeated 0 (suc n) e) → StandAmong whole at e.cells
element-stands whole at n e h = stand-at whole (at + 0) at e.cells (omega arith) (stand-moved whole at 0 e.cells (stand-first whole at (moved 0 e.cells) (repeated (0 + e.size) n e) h))

pub elements-stand : (whole : List Cell) (at n : ℕ) (e : Layout) → StandAmong whole at (repeated 0 (suc n) e) → StandAmong whole (at + e.size) (repeated 0 n e)
elements-stand whole at n e h =
    let zero : 0 + e.size ≡ e.size = omega arith in
    let rest = stand-last whole at (moved 0 e.cells) (repeated (0 + e.size) n e) h in
    stand-moved whole at e.size (repeated 0 n e) (subst (StandAmong whole at) (ap (λ z. repeated z n e) zero ∙ moved-array e.size n e) rest)

-- an object's own cells stand among them

stand-behind : (c : Cell) (cs ds : List Cell) (low high : ℕ) → end_of c ≤ low → Chained low high ds → StandAmong cs 0 ds → StandAmong (c ∷ cs) 0 ds
stand-behind c cs [] low high le h k = tt
stand-behind c cs (d ∷ ds) low high le h k =
    let small = (kind-small c.kind).0 in
    let other : nat_eq c.offset (0 + d.offset) ≡ false = ne_eqb c.offset (0 + d.offset) (λ e. absurd (omega (arith, le, h.0, small, e))) in
    (ap (λ b. if b then Some c.kind else kind_at cs (0 + d.offset)) other ∙ k.0, stand-behind c cs ds (end_of d) high (omega (arith, le, h.0)) h.1 k.1)

chained-stand : (low high : ℕ) (cs : List Cell) → Chained low high cs → StandAmong cs 0 cs
chained-stand low high [] h = tt
chained-stand low high (c ∷ cs) h =
    let own : nat_eq c.offset (0 + c.offset) ≡ true = eq-eqb c.offset (0 + c.offset) (omega arith) in
    (ap (λ b. if b then Some c.kind else kind_at cs (0 + c.offset)) own, stand-behind c cs cs (end_of c) high (omega arith) h.1 (chained-stand (end_of c) high cs h.1))

pub own-cells-stand : (known : Structs) (a : CType) → StandAmong (layout known a).cells 0 (layout known a).cells
own-cells-stand known a = chained-stand 0 (layout known a).size (layout known a).cells (sound known a).placed.chained
