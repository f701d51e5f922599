-- What statements, the parameters and a whole function put before the open block. Private contracts alone speak of this.
use Rattle.std.specs.Prelude.{ℕ, ◌+◌, ◌-◌, min, Bool, true, false, if◌then◌else◌, List, [], ◌∷◌, length, map, take, pos, Option, Some, None, slice_get, slice_index_or}
use Rattle.im_num.specs.declared.kind.Kind.{Kind}
use Rattle.im_ctype.specs.declared.cell.Cell.{Cell}
use Rattle.im_store.specs.declared.operators.Comparison.TheVariants.{Equal}
use Rattle.im_typed.specs.declared.statement.Case.{Case}
use Rattle.im_typed.specs.Program as p
use Rattle.im_typed.specs.Meaning.{is_among, given_offsets}
use Rattle.im_typed.specs.Typing.{shape_of}
use Rattle.im_typed.specs.Values.{cells_of}
use Rattle.im_block.specs.declared.unit.Object.{Object}
use Rattle.im_block.specs.declared.code.Place.TheVariants.{Local}
use Rattle.im_block.specs.declared.code.Line.TheVariants.{Put, Compare}
use Rattle.im_block.specs.declared.code.Exit.TheVariants.{Jump, Turn, Branch, Return}
use Rattle.im_lower_relation.specs.Codes.{fills_object}
use Rattle.im_lower_relation.specs.Statements.{zero_line, kind_in}
use Rattle.im_lower_relation.specs.Lowered.{kind_of_one}
use Rattle.im_lower_plain.specs.Made.{Made, put, put_write, close, start, turn}
use Rattle.im_lower_plain.specs.Make.{groups_in, put_groups, make, make_test}

-- each of these has the register in which statements put values; the next ones are free

-- zero or null into a cell
abbrev pub put_zero : ℕ → ℕ → Cell → Made → Made
put_zero low object c m = put (zero_line low c.kind) (put_write (Local object c.offset) c.kind low m)

-- the cells of an object that no expression of its initialiser gives
abbrev pub put_rest : ℕ → ℕ → List ℕ → List Cell → Made → Made
put_rest low object given [] m = m
put_rest low object given (c ∷ cs) m =
    if is_among c.offset given then put_rest low object given cs m else put_zero low object c (put_rest low object given cs m)

-- the value of an expression of an initialiser, or the cells behind its address, go into the object
abbrev pub put_piece : p.Prog → ℕ → ℕ → ℕ → p.Access → Made → Made
put_piece g low object offset (p.Scalar kind) m = put_write (Local object offset) kind low m
put_piece g low object offset (p.Struct count cells) m =
    put_groups low (Local object offset) (groups_in (fills_object g object cells) cells) cells m

-- each parameter goes from its register to its object
abbrev pub put_parameters : ℕ → ℕ → List Object → Made → Made
put_parameters object from [] m = m
put_parameters object from (o ∷ os) m =
    put_write (Local object 0) (kind_of_one o.cells.items) from (put_parameters (object + 1) (from + 1) os m)

-- the number of the block for a label: the last one stands for what is behind the statements
abbrev pub label_at : List ℕ → ℕ → ℕ
label_at labels k = slice_index_or labels (min k (length labels - 1)) 0

-- the value is compared with one label, and goes on at its block or at what follows
abbrev pub put_case : ℕ → Kind → Case → List ℕ → Made → Made
put_case low kind k labels m =
    put (Put (low + 1) k.value) (put (Compare (low + 1) Equal kind low (low + 1))
    (start (Branch (low + 1) (label_at labels k.at) (length m.blocks)) (close m)))

-- with the labels in order
abbrev pub put_cases : ℕ → Kind → List Case → ℕ → List ℕ → Made → Made
put_cases low kind [] otherwise labels m = start (Jump (label_at labels otherwise)) m
put_cases low kind (k ∷ ks) otherwise labels m = put_case low kind k labels (put_cases low kind ks otherwise labels m)

-- the offsets of the cells that an expression of an initialiser gives
abbrev pub cell_offsets : ℕ → List Cell → List ℕ
cell_offsets offset cells = map {A = Cell} (λ c. offset + c.offset) cells

abbrev pub offsets_of : ℕ → p.Access → List ℕ
offsets_of offset x = cell_offsets offset (cells_of x)

-- a function's brace: 0 from main, and no value from another one
abbrev pub make_brace : ℕ → Bool → Made → Made
make_brace low true m = put (Put low (pos 0)) (start (Return (Some low)) m)
make_brace low false m = start (Return None) m

-- the number of the function's first object in the unit
module _ (g : p.Prog) (first low : ℕ) where
  abbrev pub make_piece : ℕ → p.Piece → Made → Made
  make_piece object q m = make g first q.value low (low + 1) (put_piece g low object q.offset q.access m)

  abbrev pub make_pieces : ℕ → List p.Piece → Made → Made
  make_pieces object [] m = m
  make_pieces object (q ∷ qs) m = make_piece object q (make_pieces object qs m)

  abbrev pub make_return : Option p.Expr → Made → Made
  make_return None m = start (Return None) m
  make_return (Some e) m = make g first e low (low + 1) (start (Return (Some low)) m)

  -- a loop's test: a block that goes to the loop edge, which is made here, or behind the loop
  abbrev pub test_made : p.Expr → ℕ → Made → Made
  test_made q join m = make_test g first q low (length m.blocks) join (close (start (Turn 0) m))

-- the cells of an object of the function
abbrev pub cells_there : Option Object → List Cell
cells_there None = []
cells_there (Some o) = o.cells.items

-- its objects
module _ (g : p.Prog) (first low : ℕ) (os : List Object) where
  -- what a statement puts, by the blocks where a `break` and a `continue` go on
  abbrev mutual
    pub make_statement : p.Stmt → ℕ → ℕ → Made → Made
    make_statement (p.Do e) breaks continues m = make g first e low (low + 1) m
    make_statement (p.Forget x) breaks continues m = m
    make_statement (p.Initialise x count ps) breaks continues m =
        make_pieces g first low (first + x) ps (put_rest low (first + x) (given_offsets ps) (cells_there (slice_get os x)) m)
    make_statement (p.Block ss) breaks continues m = make_block ss breaks continues m
    make_statement (p.If q a b) breaks continues m =
        let other = make_statement b breaks continues (close m) in
        let one = make_statement a breaks continues (start (Jump (length m.blocks)) (close other)) in
        make_test g first q low (length one.blocks) (length other.blocks) (close one)
    make_statement (p.While q a) breaks continues m =
        let test = test_made g first low q (length m.blocks) (close m) in
        let turns = make_statement a (length m.blocks) (length test.blocks) (close test) in
        start (Jump (length test.blocks)) (turn (length (close m).blocks) (length turns.blocks) (close turns))
    make_statement (p.DoWhile a q) breaks continues m =
        let test = test_made g first low q (length m.blocks) (close m) in
        let turns = make_statement a (length m.blocks) (length test.blocks) (close test) in
        start (Jump (length (close m).blocks)) (turn (length (close m).blocks) (length turns.blocks) (close turns))
    make_statement (p.For a q step c) breaks continues m =
        let test = test_made g first low q (length m.blocks) (close m) in
        let next = make g first step low (low + 1) (close test) in
        let turns = make_statement c (length m.blocks) (length next.blocks) (close next) in
        make_statement a breaks continues
        (start (Jump (length test.blocks)) (turn (length (close m).blocks) (length turns.blocks) (close turns)))
    make_statement (p.Switch e ks otherwise ss) breaks continues m =
        let labelled = make_labelled ss (length m.blocks) continues (close m) in
        make g first e low (low + 1)
        (put_cases low (kind_in (shape_of g e)) ks otherwise (labels_of ss (length m.blocks) continues (close m)) (close labelled))
    make_statement p.Break breaks continues m = start (Jump breaks) m
    make_statement p.Continue breaks continues m = start (Jump continues) m
    make_statement (p.Return e) breaks continues m = make_return g first low e m

    -- statements in order
    pub make_block : p.Stmts → ℕ → ℕ → Made → Made
    make_block p.no_stmts breaks continues m = m
    make_block (p.more_stmts a rest) breaks continues m = make_statement a breaks continues (make_block rest breaks continues m)

    -- statements in order, each of which begins a block, and so does what is behind them; the first one's is open
    pub make_labelled : p.Stmts → ℕ → ℕ → Made → Made
    make_labelled p.no_stmts breaks continues m = m
    make_labelled (p.more_stmts a rest) breaks continues m =
        make_statement a breaks continues (close (make_labelled rest breaks continues m))

    -- the numbers of these blocks
    pub labels_of : p.Stmts → ℕ → ℕ → Made → List ℕ
    labels_of p.no_stmts breaks continues m = length m.blocks ∷ []
    labels_of (p.more_stmts a rest) breaks continues m =
        length (make_statement a breaks continues (close (make_labelled rest breaks continues m))).blocks ∷ labels_of rest breaks continues m

  -- a function's body, and before it its parameters
  abbrev pub make_function : Bool → ℕ → p.Stmt → Made → Made
  make_function is_main params body m =
      put_parameters first 0 (take params os) (make_statement body 0 0 (make_brace low is_main m))
