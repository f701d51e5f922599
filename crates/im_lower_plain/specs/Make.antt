-- What the parts of an expression put before the open block, as a function from the code so far. Private contracts alone
-- speak of this; that it is what the relation asks is proved.
use Rattle.std.specs.Prelude.{ℕ, zero, suc, ◌+◌, ◌/◌, true, false, Bool, List, [], ◌∷◌, length, take, drop, pos, slice_get, Some, None}
use Rattle.im_num.specs.declared.kind.Kind.TheVariants.{Ptr}
use Rattle.im_ctype.specs.declared.cell.Cell.{Cell}
use Rattle.im_typed.specs.declared.expression.Change.{Change}
use Rattle.im_typed.specs.declared.expression.Change.TheVariants.{Number as NumberBy, Move as PointerBy}
use Rattle.im_typed.specs.Program as p
use Rattle.im_typed.specs.Typing.{shape_of}
use Rattle.im_typed.specs.Values.{changed_kind}
use Rattle.im_block.specs.declared.code.Place.{Place}
use Rattle.im_block.specs.declared.code.Place.TheVariants.{Static, Local, Through}
use Rattle.im_block.specs.declared.code.Line.TheVariants.{Put, PutNull, Convert, Unary, Not, Compute, Compare, Move, Distance, Address, Call, Serve}
use Rattle.im_block.specs.declared.code.Exit.TheVariants.{Jump, Branch}
use Rattle.im_lower_relation.specs.Codes.{further_in, cells_of_shape, offset_in, count_of, in_groups}
use Rattle.im_lower_plain.specs.Made.{Made, put, put_read, put_write, close, start}

-- where a place is: in a named object, or behind the pointer in the register free
abbrev pub place_at : ℕ → p.Place → ℕ → Place
place_at first (p.Static n) free = Static n 0
place_at first (p.Local n) free = Local (first + n) 0
place_at first (p.Target e) free = Through free 0
place_at first (p.Member a d) free = further_in (place_at first a free) d

-- the first register that a place leaves free
abbrev pub behind : p.Place → ℕ → ℕ
behind (p.Static n) free = free
behind (p.Local n) free = free
behind (p.Target e) free = free + 1
behind (p.Member a d) free = behind a free

-- a cell's value, or a struct's address
abbrev pub put_load : p.Access → ℕ → Place → Made → Made
put_load (p.Scalar kind) to place m = put_read to place kind m
put_load (p.Struct count cells) to place m = put (Address to place) m

-- the cells behind a pointer into registers from one on, and from these into a place
abbrev pub put_reads : ℕ → ℕ → List Cell → Made → Made
put_reads pointer to [] m = m
put_reads pointer to (c ∷ cs) m = put_read to (Through pointer c.offset) c.kind (put_reads pointer (to + 1) cs m)

abbrev pub put_writes : Place → ℕ → List Cell → Made → Made
put_writes place from [] m = m
put_writes place from (c ∷ cs) m = put_write (further_in place c.offset) c.kind from (put_writes place (from + 1) cs m)

-- the old value in one register, and another beside it, make the new value in a third, which is stored
abbrev pub put_change : Change → ℕ → ℕ → ℕ → Place → Made → Made
put_change (NumberBy kind op at) to old by place m =
    put (Compute to op at old by) (put (Convert to kind to) (put_write place kind to m))
put_change (PointerBy size back) to old by place m = put (Move to size back old by) (put_write place Ptr to m)

-- where the value of an increment goes: where it is to be, or beside the old one
abbrev pub changed_in : Bool → ℕ → ℕ → ℕ
changed_in false to beside = to
changed_in true to beside = beside

abbrev pub put_increment : Change → Bool → ℕ → ℕ → Place → Made → Made
put_increment change old to beside place m =
    put_read to place (changed_kind change) (put (Put beside (pos 1)) (put_change change (changed_in old to beside) to beside place m))

-- all cells of a group are read before the first is written
abbrev pub put_group : ℕ → Place → List Cell → Made → Made
put_group pointer place cells m = put_reads pointer (pointer + 1) cells (put_writes place (pointer + 1) cells m)

-- so many groups of 8 cells, and one of those that are left
abbrev pub put_groups : ℕ → Place → ℕ → List Cell → Made → Made
put_groups pointer place zero cells m = put_group pointer place cells m
put_groups pointer place (suc n) cells m = put_group pointer place (take 8 cells) (put_groups pointer place n (drop 8 cells) m)

-- groups of 8 cells, where a struct is copied in groups; otherwise it is copied at once
abbrev pub groups_in : Bool → List Cell → ℕ
groups_in false cells = 0
groups_in true cells = length cells / 8

-- the groups; then the address of the place
abbrev pub put_copy : ℕ → ℕ → Place → ℕ → List Cell → Made → Made
put_copy to pointer place n cells m = put_groups pointer place n cells (put (Address to place) m)

-- where a part begins in a whole that an expression gives
abbrev pub part_offset : p.Prog → ℕ → p.Expr → ℕ
part_offset g from e = offset_in (slice_get (cells_of_shape (shape_of g e)) from)

-- the line of an expression that has one behind those of its operands, which are in the register free and the next one
abbrev pub put_operator : p.Expr → ℕ → ℕ → Made → Made
put_operator (p.Convert kind e) to free m = put (Convert to kind to) m
put_operator (p.Unary op kind e) to free m = put (Unary to op kind free) m
put_operator (p.Binary op kind a b) to free m = put (Compute to op kind free (free + 1)) m
put_operator (p.Move size back a b) to free m = put (Move to size back free (free + 1)) m
put_operator (p.MoveBy size a b) to free m = put (Move to size false (free + 1) free) m
put_operator (p.Distance size a b) to free m = put (Distance to size free (free + 1)) m
put_operator (p.Compare op kind a b) to free m = put (Compare to op kind free (free + 1)) m
put_operator (p.Not a) to free m = put (Not to free) m
put_operator (p.Serve service (p.an_argument e)) to free m = put (Serve to service (Some free)) m
put_operator e to free m = m

-- the value of `&&` and `||`: a block that gives 0, and one that gives 1; both go on at what follows
abbrev pub fails_made : ℕ → Made → Made
fails_made to m = put (Put to (pos 0)) (close m)

abbrev pub holds_made : ℕ → Made → Made
holds_made to m = put (Put to (pos 1)) (start (Jump (length m.blocks)) (close (fails_made to m)))

module _ (g : p.Prog) (first : ℕ) where
  abbrev mutual
    pub make_place : p.Place → ℕ → Made → Made
    make_place (p.Static n) free m = m
    make_place (p.Local n) free m = m
    make_place (p.Target e) free m = make e free (free + 1) m
    make_place (p.Member a d) free m = make_place a free m

    pub make : p.Expr → ℕ → ℕ → Made → Made
    make (p.Constant kind z) to free m = put (Put to z) m
    make (p.NullPointer kind) to free m = put (PutNull to) m
    make (p.Read x a) to free m = make_place a free (put_load x to (place_at first a free) m)
    make (p.Address a) to free m = make_place a free (put (Address to (place_at first a free)) m)
    make (p.Convert kind e) to free m = make e to free (put (Convert to kind to) m)
    make (p.Unary op kind e) to free m = make e free (free + 1) (put (Unary to op kind free) m)
    make (p.Binary op kind a b) to free m =
        make a free (free + 1) (make b (free + 1) (free + 1 + 1) (put (Compute to op kind free (free + 1)) m))
    make (p.Move size back a b) to free m =
        make a free (free + 1) (make b (free + 1) (free + 1 + 1) (put (Move to size back free (free + 1)) m))
    make (p.MoveBy size a b) to free m =
        make a free (free + 1) (make b (free + 1) (free + 1 + 1) (put (Move to size false (free + 1) free) m))
    make (p.Distance size a b) to free m =
        make a free (free + 1) (make b (free + 1) (free + 1 + 1) (put (Distance to size free (free + 1)) m))
    make (p.Compare op kind a b) to free m =
        make a free (free + 1) (make b (free + 1) (free + 1 + 1) (put (Compare to op kind free (free + 1)) m))
    make (p.Not a) to free m = make a free (free + 1) (put (Not to free) m)
    make (p.And a b) to free m =
        let rest = make_test_by b (make b) free (length (holds_made to m).blocks) (length (fails_made to m).blocks) (close (holds_made to m)) in
        make_test_by a (make a) free (length rest.blocks) (length (fails_made to m).blocks) (close rest)
    make (p.Or a b) to free m =
        let rest = make_test_by b (make b) free (length (holds_made to m).blocks) (length (fails_made to m).blocks) (close (holds_made to m)) in
        make_test_by a (make a) free (length (holds_made to m).blocks) (length rest.blocks) (close rest)
    make (p.Choose q a b) to free m =
        let joined = close m in
        let other = make b to free joined in
        let one = make a to free (start (Jump (length m.blocks)) (close other)) in
        make_test_by q (make q) free (length one.blocks) (length other.blocks) (close one)
    make (p.Comma a b) to free m = make a to free (make b to free m)
    make (p.Discard a) to free m = make a to free m
    make (p.Assign (p.Scalar kind) a e) to free m =
        make_place a free (make e to (behind a free) (put_write (place_at first a free) kind to m))
    make (p.Assign (p.Struct count cells) a e) to free m =
        make_place a free (make e (behind a free) (behind a free + 1)
        (put_copy to (behind a free) (place_at first a free) (groups_in (in_groups g first a cells e) cells) cells m))
    make (p.Update a change e) to free m =
        make_place a free (put_read to (place_at first a free) (changed_kind change)
        (make e (behind a free) (behind a free + 1) (put_change change to to (behind a free) (place_at first a free) m)))
    make (p.Increment a change old) to free m =
        make_place a free (put_increment change old to (behind a free) (place_at first a free) m)
    make (p.Part from x e) to free m = make e free (free + 1) (put_load x to (Through free (part_offset g from e)) m)
    make (p.Call n es) to free m = make_arguments es free (put (Call to n free (count_of es)) m)
    make (p.Serve service p.no_argument) to free m = put (Serve to service None) m
    make (p.Serve service (p.an_argument e)) to free m = make e free (free + 1) (put (Serve to service (Some free)) m)

    -- arguments stand side by side
    pub make_arguments : p.Exprs → ℕ → Made → Made
    make_arguments p.no_exprs free m = m
    make_arguments (p.more_exprs e rest) free m = make e free (free + 1) (make_arguments rest (free + 1) m)

    -- a test, by what makes the value of its expression: where it goes on if it holds and if it doesn't
    pub make_test_by : p.Expr → (ℕ → ℕ → Made → Made) → ℕ → (holds fails : ℕ) → Made → Made
    make_test_by (p.Not a) value free holds fails m = make_test_by a (make a) free fails holds m
    make_test_by (p.And a b) value free holds fails m =
        let rest = make_test_by b (make b) free holds fails m in
        make_test_by a (make a) free (length rest.blocks) fails (close rest)
    make_test_by (p.Or a b) value free holds fails m =
        let rest = make_test_by b (make b) free holds fails m in
        make_test_by a (make a) free holds (length rest.blocks) (close rest)
    make_test_by e value free holds fails m = value free (free + 1) (start (Branch free holds fails) m)

  abbrev pub make_test : p.Expr → ℕ → (holds fails : ℕ) → Made → Made
  make_test e free holds fails m = make_test_by e (make e) free holds fails m
