-- Cells that are laid out in an object.
use Rattle.std.proofs.Common.{◌≡◌, ℕ, zero, suc, ◌+◌, ◌<◌, ◌≤◌, ◌==◌, List, [], ◌∷◌, false, refl, sym, ap, ◌∙◌, arith, le-leb}
use Rattle.std.specs.Prelude.{Some, None, pos, nat_le}
use Rattle.std.proofs.lemmas.Bool.{eqb-true, eq-eqb}
use Rattle.im_num.specs.declared.kind.Kind.{Kind}
use Rattle.im_num.specs.declared.kind.Kind.TheVariants.{I8, U8, I16, U16, I32, U32, Ptr}
use Rattle.im_num.specs.Kinds.{kind_size}
use Rattle.im_ctype.specs.declared.cell.Cell.{Cell}
use Rattle.im_store.specs.declared.undefined.Undefined.TheVariants.{OutsideObject}
use Rattle.im_store.specs.Checks.{Fine, Bad, unless}
use Rattle.im_store.specs.Objects.{Object, Pointer, Shape, Store, kind_at}
use Rattle.im_store.specs.Pointers.{reaches, within}
use Rattle.im_typed.specs.Typing.{Each, AreLaidOut}
use Rattle.im_typed.proofs.SoundCalls.{by-test, if-true, if-false, differs}
use Rattle.im_block.specs.Meaning as m

-- cells that lie behind a place have larger offsets
pub none-before : (from size : ℕ) (cells : List Cell) (i : ℕ) → AreLaidOut from size cells → i < from → kind_at cells i ≡ None
none-before from size [] i h lt = refl
none-before from size (c ∷ cs) i h lt =
    let first = h.0 in
    let apart : i < c.offset = omega arith in
    let later : i < c.offset + kind_size c.kind = omega arith in
    if-false (c.offset == i) (Some c.kind) (kind_at cs i) (not-same c.offset i (λ e. omega arith)) ∙ none-before (c.offset + kind_size c.kind) size cs i h.2 later
  where
    not-same : (a b : ℕ) → (a ≡ b → ⊥) → (a == b) ≡ false
    not-same a b ne = by-test {P = (a == b) ≡ false} (a == b) (λ e. absurd (ne (eqb-true a b e))) (λ e. e)

pub some-size : (kind : Kind) → 0 < kind_size kind
some-size I8 = omega arith
some-size U8 = omega arith
some-size I16 = omega arith
some-size U16 = omega arith
some-size I32 = omega arith
some-size U32 = omega arith
some-size Ptr = omega arith

pub laid-end : (from size : ℕ) (cells : List Cell) → AreLaidOut from size cells → from ≤ size
laid-end from size [] h = h
laid-end from size (x ∷ xs) h = let le = laid-end (x.offset + kind_size x.kind) size xs h.2 in let first = h.0 in omega arith

-- a cell of an object lies in it
pub cell-inside : (from size : ℕ) (cells : List Cell) (i : ℕ) (kind : Kind) → AreLaidOut from size cells → kind_at cells i ≡ Some kind → i ≤ size
cell-inside from size [] i kind h e = absurd (cc)
cell-inside from size (c ∷ cs) i kind h e =
    let rest = laid-end (c.offset + kind_size c.kind) size cs h.2 in
    by-test {P = i ≤ size} (c.offset == i)
    (λ t. let same = eqb-true c.offset i t in omega arith)
    (λ t. cell-inside (c.offset + kind_size c.kind) size cs i kind h.2 (sym (if-false (c.offset == i) (Some c.kind) (kind_at cs i) t) ∙ e))

-- cells that are laid out are found at their offsets

pub cells-from : (from size : ℕ) (cells : List Cell) → AreLaidOut from size cells → Each {A = Cell} (λ c. from ≤ c.offset) cells
cells-from from size [] h = tt
cells-from from size (c ∷ cs) h = let first = h.0 in (omega arith, weaker (c.offset + kind_size c.kind) from cs (omega arith) (cells-from (c.offset + kind_size c.kind) size cs h.2))
  where
    weaker : (a b : ℕ) (xs : List Cell) → b ≤ a → Each {A = Cell} (λ x. a ≤ x.offset) xs → Each {A = Cell} (λ x. b ≤ x.offset) xs
    weaker a b [] le h = tt
    weaker a b (x ∷ xs) le h = let first = h.0 in (omega arith, weaker a b xs le h.1)

pub cells-inside : (from size : ℕ) (cells : List Cell) → AreLaidOut from size cells → Each {A = Cell} (λ c. c.offset ≤ size) cells
cells-inside from size [] h = tt
cells-inside from size (c ∷ cs) h = let end = laid-end (c.offset + kind_size c.kind) size cs h.2 in (omega arith, cells-inside (c.offset + kind_size c.kind) size cs h.2)

abbrev pub AreFound : List Cell → List Cell → Type 0
AreFound whole part = Each {A = Cell} (λ c. kind_at whole c.offset ≡ Some c.kind) part

found-behind : (c : Cell) (whole part : List Cell) → Each {A = Cell} (λ x. c.offset + kind_size c.kind ≤ x.offset) part → AreFound whole part → AreFound (c ∷ whole) part
found-behind c whole [] far h = tt
found-behind c whole (x ∷ xs) far h =
    let some = some-size c.kind in
    let first = far.0 in
    let lt : c.offset < x.offset = omega arith in
    (if-false (c.offset == x.offset) (Some c.kind) (kind_at whole x.offset) (differs c.offset x.offset lt) ∙ h.0, found-behind c whole xs far.1 h.1)

pub cells-found : (from size : ℕ) (cells : List Cell) → AreLaidOut from size cells → AreFound cells cells
cells-found from size [] h = tt
cells-found from size (c ∷ cs) h = (
  if-true (c.offset == c.offset) (Some c.kind) (kind_at cs c.offset) (eq-eqb c.offset c.offset refl),
  found-behind c cs cs (cells-from (c.offset + kind_size c.kind) size cs h.2) (cells-found (c.offset + kind_size c.kind) size cs h.2),
)

-- a place in an object that lives
pub local-place : (store : Store) (o : Object) (shape : Shape) (offset : ℕ) → store.shape o ≡ Some shape → offset ≤ shape.size → m.further store offset (Pointer o 0) ≡ Fine (Pointer o offset)
local-place store o shape zero e le = refl
local-place store o shape (suc d) e le =
    let plus : 0 + suc d ≡ suc d = omega arith in
    ap (λ i. within store o (pos i)) plus
    ∙ ap (λ r. unless (reaches r (suc d)) (Pointer o (suc d)) OutsideObject) e
    ∙ if-true (nat_le (suc d) shape.size) (Fine (Pointer o (suc d))) (Bad OutsideObject) (le-leb (suc d) shape.size le)
