-- The values that expressions give, and what it is to use one (C11 6.5, 6.9.1); reading and storing at a place.
use Rattle.std.specs.Prelude.{ℕ, ◌+◌, max, Bool, not, List, [], ◌∷◌, ℤ, pos, if◌then◌else◌}
use Rattle.im_num.specs.declared.kind.Kind.{Kind}
use Rattle.im_num.specs.declared.kind.Kind.TheVariants.{Ptr}
use Rattle.im_num.specs.Kinds.{wrap, kind_size}
use Rattle.im_store.specs.im_ctype.declared.cell.Cell.{Cell}
use Rattle.im_store.specs.declared.operators.BinaryOp.{BinaryOp}
use Rattle.im_store.specs.declared.undefined.Undefined.TheVariants.{NoSuchCell, MissingResult, PartialOverlap}
use Rattle.im_store.specs.Checks.{Checked, Fine, Bad, unless}
use Rattle.im_store.specs.Numbers.{apply}
use Rattle.im_store.specs.Objects.{Value, Number, Null, Pointer, Unset}
use Rattle.im_store.specs.Access.{taken, read_cells, write_cells, at_place}
use Rattle.im_store.specs.Pointers.{moved_by, bytes_moved, overlap_in_part}
use Rattle.im_typed.specs.declared.expression.Change.{Change}
use Rattle.im_typed.specs.declared.expression.Change.TheVariants.{Number as NumberBy, Move as PointerBy}
use Rattle.im_typed.specs.Program.{Access, Scalar, Struct}
use Rattle.im_typed.specs.Runs.{Run, ◌>>=◌, give, undefined, checked, in_store, leave_store}

-- one value of a scalar, each cell's of a struct, none of void and of a missing result
abbrev pub Values : Type 0
Values = List Value

abbrev pub scalar : Value → Run Values
scalar v = give (v ∷ [])

abbrev pub number : ℤ → Run Values
number z = scalar (Number z)

abbrev pub truth : Bool → Run Values
truth holds = number (if holds then pos 1 else pos 0)

-- a value is used: there is one, and it is no pointer to a dead object
abbrev pub used : Values → Run Value
used [] = undefined MissingResult
used (v ∷ vs) = in_store (λ store. taken store v)

abbrev pub value_in : Run Values → Run Value
value_in m = do
  vs ← m
  used vs

-- the number that a value is; a well-typed program asks it of numbers alone
abbrev pub number_of : Value → Checked ℤ
number_of (Number z) = Fine z
number_of Null = Bad NoSuchCell
number_of (Pointer o offset) = Bad NoSuchCell
number_of Unset = Bad NoSuchCell

abbrev pub number_in : Run Values → Run ℤ
number_in m = do
  v ← value_in m
  checked (number_of v)

-- the cells of an access, by their offsets from the place
abbrev pub cells_of : Access → List Cell
cells_of (Scalar kind) = record { offset = 0; kind = kind } ∷ []
cells_of (Struct count cells) = cells

-- the bytes from a struct's start to the end of its cells
abbrev pub extent : List Cell → ℕ
extent [] = 0
extent (c ∷ cs) = max (c.offset + kind_size c.kind) (extent cs)

-- where a struct is read that is stored at a place, unless both overlap in part
abbrev pub source_for : List Cell → Value → Value → Checked Value
source_for cells at from = unless (not (overlap_in_part (extent cells) at from)) from PartialOverlap

abbrev pub read_at : Access → Value → Run Values
read_at x at = in_store (λ store. at_place at (λ o offset. read_cells store o offset (cells_of x)))

-- stores the values at a place, and gives them
abbrev pub write_at : Access → Value → Values → Run Values
write_at x at vs = do
  after ← in_store (λ store. at_place at (λ o offset. write_cells store o offset (cells_of x) vs))
  _ ← leave_store after
  give vs

-- what a binary operator of a kind does with two numbers
abbrev pub Operates : Type 0
Operates = BinaryOp → Kind → ℤ → ℤ → Run ℤ

-- each gives its result at once, or ends the run with what is against it (C11 6.5.5 to 6.5.12)
abbrev pub computes : BinaryOp → Kind → ℤ → ℤ → Run ℤ
computes op kind a b = checked (apply op kind a b)

-- the kind of the cell that a change changes
abbrev pub changed_kind : Change → Kind
changed_kind (NumberBy kind op at) = kind
changed_kind (PointerBy size back) = Ptr

-- what a change makes of the old value: a number is converted to the operator's kind, and the result is converted back
abbrev pub changed : Operates → Change → Value → ℤ → Run Value
changed operates (NumberBy kind op at) old by = do
  a ← checked (number_of old)
  z ← operates op at (wrap at a) by
  give (Number (wrap kind z))
changed operates (PointerBy size back) old by = in_store (λ store. moved_by store (bytes_moved size back by) old)

-- changes what stands at a place by the number that a run gives; the old value is read first. Gives the old value or the new one
abbrev pub update : Operates → Change → Bool → Run ℤ → Value → Run Values
update operates change old amount at = do
  before ← value_in (read_at (Scalar (changed_kind change)) at)
  by ← amount
  after ← changed operates change before by
  _ ← write_at (Scalar (changed_kind change)) at (after ∷ [])
  scalar (if old then before else after)
