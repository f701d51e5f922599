-- What statements become. Nothing lives in a register from one statement to the next: each begins with the same register,
-- here low, and those below it are the parameters'. What follows a `return`, a `break` or a `continue` is a point that
-- nothing leads to.
use Rattle.std.specs.Prelude.{◌≡◌, ◌⊎◌, ℕ, zero, suc, ◌+◌, if◌then◌else◌, true, List, [], ◌∷◌, pos, Option, Some, None, slice_get}
use Rattle.im_num.specs.declared.kind.Kind.{Kind}
use Rattle.im_num.specs.declared.kind.Kind.TheVariants.{I32, Ptr}
use Rattle.im_ctype.specs.declared.cell.Cell.{Cell}
use Rattle.im_store.specs.declared.operators.Comparison.TheVariants.{Equal}
use Rattle.im_typed.specs.declared.statement.Case.{Case}
use Rattle.im_typed.specs.Program as p
use Rattle.im_typed.specs.Meaning.{is_among, given_offsets}
use Rattle.im_typed.specs.Typing.{shape_of, cells_at}
use Rattle.im_block.specs.declared.code.Place.TheVariants.{Local}
use Rattle.im_block.specs.declared.code.Line.{Line}
use Rattle.im_block.specs.declared.code.Line.TheVariants.{Put, PutNull, Compare, Write}
use Rattle.im_block.specs.declared.code.Exit.TheVariants.{Jump, Turn, Branch, Return}
use Rattle.im_block.specs.declared.code.Block.{Block}
use Rattle.im_lower_relation.specs.Codes.{Point, before, ends, Begins, fills_object, Codes, CodesGroups, CodesTest}

-- zero or null, into a register
abbrev pub zero_line : ℕ → Kind → Line
zero_line to Ptr = PutNull to
zero_line to kind = Put to (pos 0)

-- the kind of a switch's value
abbrev pub kind_in : Option p.Access → Kind
kind_in None = I32
kind_in (Some (p.Scalar kind)) = kind
kind_in (Some (p.Struct count cells)) = I32

-- where the k-th statement of a block begins: the block's own point, and those behind each of its statements
abbrev pub start_at : Point → List Point → ℕ → Point
start_at s [] k = s
start_at s (q ∷ qs) zero = s
start_at s (q ∷ qs) (suc k) = start_at q qs k

-- cells that no expression of an initialiser gives become zero or null, in an object of this number
abbrev pub CodesRest : (low object : ℕ) → List ℕ → List Cell → Point → Point → Type 0
CodesRest low object given [] s t = s ≡ t
CodesRest low object given (c ∷ cs) s t =
    (m : Point) × (n : ℕ) × CodesRest low object given cs m t
    × (s ≡ (if is_among c.offset given then m else before (zero_line low c.kind) (before (Write (Local object c.offset) c.kind low n) m)))

module _ (low : ℕ) (blocks : List Block) where
  -- one point goes on at another, which is the same, or begins a block
  abbrev pub Passes : Point → Point → Type 0
  Passes q t = (q ≡ t) ⊎ ((x : ℕ) × Begins blocks x t × (q ≡ ends (Jump x)))

  -- the value in the first register is compared with each label in order, and where it is one of them, the statement there is next
  abbrev pub CodesCases : Kind → List Case → ℕ → Point → List Point → Point → Type 0
  CodesCases kind [] otherwise start qs s = (x : ℕ) × Begins blocks x (start_at start qs otherwise) × (s ≡ ends (Jump x))
  CodesCases kind (k ∷ ks) otherwise start qs s =
      (x y : ℕ) × (m : Point) × Begins blocks x (start_at start qs k.at) × Begins blocks y m × CodesCases kind ks otherwise start qs m
      × (s ≡ before (Put (low + 1) k.value) (before (Compare (low + 1) Equal kind low (low + 1)) (ends (Branch (low + 1) x y))))

-- the number of the function's first object in the unit, its first register that is no parameter's, its objects, its blocks
module _ (g : p.Prog) (first low : ℕ) (objects : List p.LocalObject) (blocks : List Block) where
  -- an expression of an initialiser, into an object of this number at this offset; a struct that fills it is copied in groups
  abbrev pub CodesPiece : ℕ → ℕ → p.Access → p.Expr → Point → Point → Type 0
  CodesPiece object offset (p.Scalar kind) e s t = (n : ℕ) × Codes g first blocks e low (low + 1) s (before (Write (Local object offset) kind low n) t)
  CodesPiece object offset (p.Struct count cells) e s t =
      (m : Point) × (n : ℕ) × ((n ≡ 0) ⊎ (fills_object g object cells ≡ true))
      × Codes g first blocks e low (low + 1) s m × CodesGroups low (Local object offset) n cells m t

  abbrev pub CodesPieces : ℕ → List p.Piece → Point → Point → Type 0
  CodesPieces object [] s t = s ≡ t
  CodesPieces object (q ∷ qs) s t = (m : Point) × CodesPiece object q.offset q.access q.value s m × CodesPieces object qs m t

  abbrev pub CodesReturn : Option p.Expr → Point → Type 0
  CodesReturn None s = s ≡ ends (Return None)
  CodesReturn (Some e) s = Codes g first blocks e low (low + 1) s (ends (Return (Some low)))

  abbrev mutual
    -- the blocks where a `break` and a `continue` go on, the point of entry, and the one that follows. A loop has a block
    -- for its test, one for its body, and one that is the loop edge alone
    pub CodesStatement : p.Stmt → (breaks continues : ℕ) → Point → Point → Type 0
    CodesStatement (p.Do e) breaks continues s t = Codes g first blocks e low (low + 1) s t
    CodesStatement (p.Forget x) breaks continues s t = s ≡ t
    CodesStatement (p.Initialise x count ps) breaks continues s t =
        (m : Point) × CodesPieces (first + x) ps s m × CodesRest low (first + x) (given_offsets ps) (cells_at (slice_get objects x)) m t
    CodesStatement (p.Block ss) breaks continues s t = (qs : List Point) × CodesStatements ss breaks continues s qs t
    CodesStatement (p.If q a b) breaks continues s t =
        (j x y : ℕ) × (one other : Point) × Begins blocks j t × Begins blocks x one × Begins blocks y other
        × CodesTest g first blocks q low x y s
        × CodesStatement a breaks continues one (ends (Jump j)) × CodesStatement b breaks continues other (ends (Jump j))
    CodesStatement (p.While q a) breaks continues s t =
        (j k h b : ℕ) × (test body : Point) × Begins blocks j t × Begins blocks k (ends (Turn b)) × Begins blocks h test × Begins blocks b body
        × (s ≡ ends (Jump h)) × CodesTest g first blocks q low k j test × CodesStatement a j h body (ends (Jump h))
    CodesStatement (p.DoWhile a q) breaks continues s t =
        (j k h b : ℕ) × (test body : Point) × Begins blocks j t × Begins blocks k (ends (Turn b)) × Begins blocks h test × Begins blocks b body
        × (s ≡ ends (Jump k)) × CodesTest g first blocks q low k j test × CodesStatement a j h body (ends (Jump h))
    CodesStatement (p.For a q step c) breaks continues s t =
        (j k h l b : ℕ) × (test next body : Point)
        × Begins blocks j t × Begins blocks k (ends (Turn b)) × Begins blocks h test × Begins blocks l next × Begins blocks b body
        × CodesStatement a breaks continues s (ends (Jump h)) × CodesTest g first blocks q low k j test
        × Codes g first blocks step low (low + 1) next (ends (Jump h)) × CodesStatement c j l body (ends (Jump l))
    CodesStatement (p.Switch e ks otherwise ss) breaks continues s t =
        (j : ℕ) × (m start : Point) × (qs : List Point) × Begins blocks j t × Codes g first blocks e low (low + 1) s m
        × CodesCases low blocks (kind_in (shape_of g e)) ks otherwise start qs m × CodesStatements ss j continues start qs (ends (Jump j))
    CodesStatement p.Break breaks continues s t = s ≡ ends (Jump breaks)
    CodesStatement p.Continue breaks continues s t = s ≡ ends (Jump continues)
    CodesStatement (p.Return e) breaks continues s t = CodesReturn e s

    -- statements in order, with the point behind each of them
    pub CodesStatements : p.Stmts → (breaks continues : ℕ) → Point → List Point → Point → Type 0
    CodesStatements p.no_stmts breaks continues s [] t = s ≡ t
    CodesStatements p.no_stmts breaks continues s (q ∷ qs) t = ⊥
    CodesStatements (p.more_stmts a rest) breaks continues s [] t = ⊥
    CodesStatements (p.more_stmts a rest) breaks continues s (q ∷ qs) t =
        (m : Point) × Passes low blocks m q × CodesStatement a breaks continues s m × CodesStatements rest breaks continues q qs t
