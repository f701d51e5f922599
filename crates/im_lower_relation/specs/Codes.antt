-- What places and expressions become. Each relation is between two points of a function's code: at which lines a part
-- begins, and with which it goes on. A struct's value is the address of its place.
use Rattle.std.specs.Prelude.{◌≡◌, ◌⊎◌, ℕ, zero, suc, ◌+◌, ◌-◌, ◌==◌, ◌||◌, Bool, true, false, List, [], ◌∷◌, ◌++◌, length, take, drop, pos, Option, Some, None, slice_get}
use Rattle.im_num.specs.declared.kind.Kind.TheVariants.{Ptr}
use Rattle.im_ctype.specs.declared.cell.Cell.{Cell}
use Rattle.im_store.specs.Statics.{StaticObject}
use Rattle.im_typed.specs.declared.expression.Change.TheVariants.{Number as NumberBy, Move as PointerBy}
use Rattle.im_typed.specs.Program as p
use Rattle.im_typed.specs.Values.{extent}
use Rattle.im_typed.specs.Meaning.{is_read}
use Rattle.im_typed.specs.Typing.{shape_of}
use Rattle.im_block.specs.declared.code.Place.{Place}
use Rattle.im_block.specs.declared.code.Place.TheVariants.{Static, Local, Through}
use Rattle.im_block.specs.declared.code.Line.{Line}
use Rattle.im_block.specs.declared.code.Line.TheVariants.{Put, PutNull, Convert, Unary, Not, Compute, Compare, Move, Distance, Address, Read, Write, Call, Serve}
use Rattle.im_block.specs.declared.code.Exit.{Exit}
use Rattle.im_block.specs.declared.code.Exit.TheVariants.{Jump, Branch}
use Rattle.im_block.specs.declared.code.Block.{Block}

-- a point of the code: the lines that are left of a block, and its exit
pub record Point : Type 0 where
  pub rest : List Line
  pub exit : Exit

abbrev pub before : Line → Point → Point
before line s = record s { rest = line ∷ s.rest }

abbrev pub ends : Exit → Point
ends exit = record { rest = []; exit = exit }

-- the block of a number begins at a point
pub record Begins (blocks : List Block) (b : ℕ) (s : Point) : Type 0 where
  pub block : Block
  pub there : slice_get blocks b ≡ Some block
  pub lines : block.lines.items ≡ s.rest
  pub exit : block.exit ≡ s.exit

abbrev pub further_in : Place → ℕ → Place
further_in (Local object offset) d = Local object (offset + d)
further_in (Static object offset) d = Static object (offset + d)
further_in (Through pointer offset) d = Through pointer (offset + d)

-- the first register that a place leaves free: a pointer is kept in one
abbrev pub above : p.Place → ℕ → ℕ
above (p.Static n) free = free
above (p.Local n) free = free
above (p.Target e) free = free + 1
above (p.Member a d) free = above a free

-- the cells that a struct's value has, and the offset of one of them
abbrev pub cells_of_shape : Option p.Access → List Cell
cells_of_shape None = []
cells_of_shape (Some (p.Scalar kind)) = []
cells_of_shape (Some (p.Struct count cells)) = cells

abbrev pub offset_in : Option Cell → ℕ
offset_in None = 0
offset_in (Some c) = c.offset

-- cells are read into registers side by side, and written from these; the numbers of the accesses come from a list
abbrev pub reads_of : ℕ → ℕ → List Cell → List ℕ → Point → Point
reads_of pointer to [] ns t = t
reads_of pointer to (c ∷ cs) [] t = t
reads_of pointer to (c ∷ cs) (n ∷ ns) t = before (Read to (Through pointer c.offset) c.kind n) (reads_of pointer (suc to) cs ns t)

abbrev pub writes_of : Place → ℕ → List Cell → List ℕ → Point → Point
writes_of place from [] ns t = t
writes_of place from (c ∷ cs) [] t = t
writes_of place from (c ∷ cs) (n ∷ ns) t = before (Write (further_in place c.offset) c.kind from n) (writes_of place (suc from) cs ns t)

-- a group of cells is copied: all are read before the first is written
abbrev pub CodesGroup : ℕ → Place → List Cell → Point → Point → Type 0
CodesGroup pointer place cells s t =
    (ns ks : List ℕ) × (length ns ≡ length cells) × (length ks ≡ length cells)
    × (s ≡ reads_of pointer (pointer + 1) cells ns (writes_of place (pointer + 1) cells ks t))

-- so many groups of 8 cells one after the other, and one of those that are left
abbrev pub CodesGroups : ℕ → Place → ℕ → List Cell → Point → Point → Type 0
CodesGroups pointer place zero cells s t = CodesGroup pointer place cells s t
CodesGroups pointer place (suc n) cells s t =
    (m : Point) × CodesGroup pointer place (take 8 cells) s m × CodesGroups pointer place n (drop 8 cells) m t

-- the bytes of a static, and of a function's object
abbrev pub static_size : Option StaticObject → Option ℕ
static_size None = None
static_size (Some s) = Some s.size

abbrev pub object_size : Option p.LocalObject → Option ℕ
object_size None = None
object_size (Some o) = Some o.size

-- the objects of functions, in order
abbrev pub all_objects : List p.Func → List p.LocalObject
all_objects [] = []
all_objects (f ∷ fs) = f.objects ++ all_objects fs

-- an object ends where the cells of a struct end that begins with it
abbrev pub fills : Option ℕ → List Cell → Bool
fills None cells = false
fills (Some size) cells = size == extent cells

-- an object of a function, by its number in the unit
abbrev pub fills_object : p.Prog → ℕ → List Cell → Bool
fills_object g object cells = fills (object_size (slice_get (all_objects g.funcs) (object - length g.statics))) cells

-- the struct is a whole object: one that overlaps it is the same
abbrev pub is_whole : p.Prog → ℕ → p.Place → List Cell → Bool
is_whole g first (p.Static n) cells = fills (static_size (slice_get g.statics n)) cells
is_whole g first (p.Local n) cells = fills_object g (first + n) cells
is_whole g first (p.Target e) cells = false
is_whole g first (p.Member a d) cells = false

-- a struct is copied in groups where what is read is the target or shares no byte with it (C11 6.5.16.1p3): the target is a
-- whole object, or the value is directly read
abbrev pub in_groups : p.Prog → ℕ → p.Place → List Cell → p.Expr → Bool
in_groups g first a cells e = is_whole g first a cells || is_read e

abbrev pub count_of : p.Exprs → ℕ
count_of p.no_exprs = 0
count_of (p.more_exprs e rest) = suc (count_of rest)

module _ (g : p.Prog) (first : ℕ) (blocks : List Block) where
  -- where a place is: in a named object, or behind the pointer in the register free
  abbrev pub where_of : p.Place → ℕ → Place
  where_of (p.Static n) free = Static n 0
  where_of (p.Local n) free = Local (first + n) 0
  where_of (p.Target e) free = Through free 0
  where_of (p.Member a d) free = further_in (where_of a free) d

  abbrev mutual
    -- the register from which on they are free, the point of entry, and the one that follows
    pub CodesPlace : p.Place → ℕ → Point → Point → Type 0
    CodesPlace (p.Static n) free s t = s ≡ t
    CodesPlace (p.Local n) free s t = s ≡ t
    CodesPlace (p.Target e) free s t = Codes e free (free + 1) s t
    CodesPlace (p.Member a d) free s t = CodesPlace a free s t

    -- the register that takes the value, the one from which on they are free, the point of entry, and the one that follows
    pub Codes : p.Expr → ℕ → ℕ → Point → Point → Type 0
    Codes (p.Constant kind z) to free s t = s ≡ before (Put to z) t
    Codes (p.NullPointer kind) to free s t = s ≡ before (PutNull to) t
    Codes (p.Read (p.Scalar kind) a) to free s t = (n : ℕ) × CodesPlace a free s (before (Read to (where_of a free) kind n) t)
    Codes (p.Read (p.Struct count cells) a) to free s t = CodesPlace a free s (before (Address to (where_of a free)) t)
    Codes (p.Address a) to free s t = CodesPlace a free s (before (Address to (where_of a free)) t)
    Codes (p.Convert kind e) to free s t = Codes e to free s (before (Convert to kind to) t)
    Codes (p.Unary op kind e) to free s t = Codes e free (free + 1) s (before (Unary to op kind free) t)
    Codes (p.Binary op kind a b) to free s t =
        (m : Point) × Codes a free (free + 1) s m × Codes b (free + 1) (free + 2) m (before (Compute to op kind free (free + 1)) t)
    Codes (p.Move size back a b) to free s t =
        (m : Point) × Codes a free (free + 1) s m × Codes b (free + 1) (free + 2) m (before (Move to size back free (free + 1)) t)
    Codes (p.MoveBy size a b) to free s t =
        (m : Point) × Codes a free (free + 1) s m × Codes b (free + 1) (free + 2) m (before (Move to size false (free + 1) free) t)
    Codes (p.Distance size a b) to free s t =
        (m : Point) × Codes a free (free + 1) s m × Codes b (free + 1) (free + 2) m (before (Distance to size free (free + 1)) t)
    Codes (p.Compare op kind a b) to free s t =
        (m : Point) × Codes a free (free + 1) s m × Codes b (free + 1) (free + 2) m (before (Compare to op kind free (free + 1)) t)
    Codes (p.Not a) to free s t = Codes a free (free + 1) s (before (Not to free) t)
    Codes (p.And a b) to free s t =
        (j x y k : ℕ) × (more : Point) × Begins blocks j t × Begins blocks x (before (Put to (pos 1)) (ends (Jump j)))
        × Begins blocks y (before (Put to (pos 0)) (ends (Jump j))) × Begins blocks k more
        × CodesTestBy a (Codes a) free k y s × CodesTestBy b (Codes b) free x y more
    Codes (p.Or a b) to free s t =
        (j x y k : ℕ) × (more : Point) × Begins blocks j t × Begins blocks x (before (Put to (pos 1)) (ends (Jump j)))
        × Begins blocks y (before (Put to (pos 0)) (ends (Jump j))) × Begins blocks k more
        × CodesTestBy a (Codes a) free x k s × CodesTestBy b (Codes b) free x y more
    Codes (p.Choose q a b) to free s t =
        (j x y : ℕ) × (one other : Point) × Begins blocks j t × Begins blocks x one × Begins blocks y other
        × CodesTestBy q (Codes q) free x y s × Codes a to free one (ends (Jump j)) × Codes b to free other (ends (Jump j))
    Codes (p.Comma a b) to free s t = (m : Point) × Codes a to free s m × Codes b to free m t
    Codes (p.Discard a) to free s t = Codes a to free s t
    Codes (p.Assign (p.Scalar kind) a e) to free s t =
        (m : Point) × (n : ℕ) × CodesPlace a free s m × Codes e to (above a free) m (before (Write (where_of a free) kind to n) t)
    Codes (p.Assign (p.Struct count cells) a e) to free s t =
        (m k : Point) × (n : ℕ) × ((n ≡ 0) ⊎ (in_groups g first a cells e ≡ true))
        × CodesPlace a free s m × Codes e (above a free) (above a free + 1) m k
        × CodesGroups (above a free) (where_of a free) n cells k (before (Address to (where_of a free)) t)
    Codes (p.Update a (NumberBy kind op at) e) to free s t =
        (m : Point) × (n k : ℕ) × CodesPlace a free s (before (Read to (where_of a free) kind n) m)
        × Codes e (above a free) (above a free + 1) m
        (before (Compute to op at to (above a free)) (before (Convert to kind to) (before (Write (where_of a free) kind to k) t)))
    Codes (p.Update a (PointerBy size back) e) to free s t =
        (m : Point) × (n k : ℕ) × CodesPlace a free s (before (Read to (where_of a free) Ptr n) m)
        × Codes e (above a free) (above a free + 1) m
        (before (Move to size back to (above a free)) (before (Write (where_of a free) Ptr to k) t))
    Codes (p.Increment a (NumberBy kind op at) false) to free s t =
        (n k : ℕ) × CodesPlace a free s
        (before (Read to (where_of a free) kind n) (before (Put (above a free) (pos 1))
        (before (Compute to op at to (above a free)) (before (Convert to kind to) (before (Write (where_of a free) kind to k) t)))))
    Codes (p.Increment a (NumberBy kind op at) true) to free s t =
        (n k : ℕ) × CodesPlace a free s
        (before (Read to (where_of a free) kind n) (before (Put (above a free) (pos 1))
        (before (Compute (above a free) op at to (above a free)) (before (Convert (above a free) kind (above a free)) (before (Write (where_of a free) kind (above a free) k) t)))))
    Codes (p.Increment a (PointerBy size back) false) to free s t =
        (n k : ℕ) × CodesPlace a free s
        (before (Read to (where_of a free) Ptr n) (before (Put (above a free) (pos 1))
        (before (Move to size back to (above a free)) (before (Write (where_of a free) Ptr to k) t))))
    Codes (p.Increment a (PointerBy size back) true) to free s t =
        (n k : ℕ) × CodesPlace a free s
        (before (Read to (where_of a free) Ptr n) (before (Put (above a free) (pos 1))
        (before (Move (above a free) size back to (above a free)) (before (Write (where_of a free) Ptr (above a free) k) t))))
    Codes (p.Part from (p.Scalar kind) e) to free s t =
        (n : ℕ) × Codes e free (free + 1) s (before (Read to (Through free (offset_in (slice_get (cells_of_shape (shape_of g e)) from))) kind n) t)
    Codes (p.Part from (p.Struct count cells) e) to free s t =
        Codes e free (free + 1) s (before (Address to (Through free (offset_in (slice_get (cells_of_shape (shape_of g e)) from)))) t)
    Codes (p.Call n es) to free s t = CodesArguments es free s (before (Call to n free (count_of es)) t)
    Codes (p.Serve service p.no_argument) to free s t = s ≡ before (Serve to service None) t
    Codes (p.Serve service (p.an_argument e)) to free s t = Codes e free (free + 1) s (before (Serve to service (Some free)) t)

    -- arguments stand side by side
    pub CodesArguments : p.Exprs → ℕ → Point → Point → Type 0
    CodesArguments p.no_exprs free s t = s ≡ t
    CodesArguments (p.more_exprs e rest) free s t = (m : Point) × Codes e free (free + 1) s m × CodesArguments rest (free + 1) m t

    -- a test, by what its expression becomes as a value: the register from which on they are free, the blocks where it goes on
    -- if it holds and if it doesn't, and the point of entry. `!`, `&&` and `||` are control flow (C11 6.5.3.3, 6.5.13, 6.5.14)
    pub CodesTestBy : p.Expr → (ℕ → ℕ → Point → Point → Type 0) → ℕ → (holds fails : ℕ) → Point → Type 0
    CodesTestBy (p.Not a) value free holds fails s = CodesTestBy a (Codes a) free fails holds s
    CodesTestBy (p.And a b) value free holds fails s =
        (k : ℕ) × (more : Point) × Begins blocks k more × CodesTestBy a (Codes a) free k fails s × CodesTestBy b (Codes b) free holds fails more
    CodesTestBy (p.Or a b) value free holds fails s =
        (k : ℕ) × (more : Point) × Begins blocks k more × CodesTestBy a (Codes a) free holds k s × CodesTestBy b (Codes b) free holds fails more
    CodesTestBy e value free holds fails s = value free (free + 1) s (ends (Branch free holds fails))

  abbrev pub CodesTest : p.Expr → ℕ → (holds fails : ℕ) → Point → Type 0
  CodesTest e free holds fails s = CodesTestBy e (Codes e) free holds fails s
