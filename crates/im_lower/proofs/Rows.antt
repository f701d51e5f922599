-- What rows of expressions and statements put, as lists.
use Rattle.std.proofs.Common.{◌≡◌, ℕ, suc, ◌+◌, List, ◌∷◌, length, refl, ap, sym, ◌∙◌, Vec, Global}
use mathlib.Core.Former.{Count}
use Rattle.im_num.specs.declared.kind.Kind.{Kind}
use Rattle.im_ctype.specs.Table.{Table}
use Rattle.im_typed.specs.declared.expression.Expr.{Expr, Call, Call', Row_of-Expr, end_of-Expr, more_of-Expr, items-the_row-Expr, items_hidden-the_row-Expr-0}
use Rattle.im_typed.specs.declared.statement.Stmt.{Stmt, Block, Block', Row_of-Stmt, end_of-Stmt, more_of-Stmt, items-the_row-Stmt, items_hidden-the_row-Stmt-0}
use Rattle.im_typed.specs.declared.statement.Stmt as rs
use Rattle.im_typed.specs.declared.statement.Case.{Case}
use Rattle.im_typed.specs.Program.{Prog}
use Rattle.im_typed.specs.Typing.{shape_of}
use Rattle.im_typed.specs.ProgramOf.{expr_of, exprs_of, stmt_of, stmts_of}
use Rattle.im_block.specs.declared.unit.Object.{Object}
use Rattle.im_block.specs.declared.code.Line.TheVariants as line
use Rattle.im_lower_relation.specs.Codes.{count_of}
use Rattle.im_lower_relation.specs.Statements.{kind_in}
use Rattle.im_lower_plain.specs.Made.{Made, put, close}
use Rattle.im_lower_plain.specs.Make.{make, make_arguments}
use Rattle.im_lower_plain.specs.MakeStatement.{make_statement, make_block, make_labelled, labels_of, put_cases}
use Rattle.im_lower.specs.MakeEach.{make_each, make_in_order, make_marked, marks_of}

abbrev row_of : Expr → (n : Count) × Row_of-Expr n
row_of (Call' f _ row) = (_, row)
row_of _ = (_, end_of-Expr)

abbrev block_of : Stmt → (n : Count) × Row_of-Stmt n
block_of (Block' _ row) = (_, row)
block_of _ = (_, end_of-Stmt)

module _ (g : Prog) (first : ℕ) (types : Table) where
  row_made : (n : _) (row : Row_of-Expr n) (free : ℕ) (m : Made) → make_arguments g first (exprs_of types row) free m ≡ make_each g first types (items-the_row-Expr n row) free m
  row_made n end_of-Expr free m = refl
  row_made n (more_of-Expr e rest) free m = ap (λ x. make g first (expr_of types e) free (free + 1) x) (row_made _ rest (free + 1) m)

  row_count : (n : _) (row : Row_of-Expr n) → count_of (exprs_of types row) ≡ length (items-the_row-Expr n row)
  row_count n end_of-Expr = refl
  row_count n (more_of-Expr e rest) = ap suc (row_count _ rest)

  pub call_made : (f : ℕ) (args : Vec Expr Global) (to free : ℕ) (m : Made) → make g first (expr_of types (Call f args)) to free m ≡ make_each g first types args.items free (put (line.Call to f free (length args.items)) m)
  call_made f args to free m =
      let row = row_of (Call f args) in
      let same = items_hidden-the_row-Expr-0 args in
      let start = λ (n : ℕ). put (line.Call to f free n) m in
      row_made row.0 row.1 free (start (count_of (exprs_of types row.1)))
      ∙ ap (λ es. make_each g first types es free (start (count_of (exprs_of types row.1)))) same
      ∙ ap (λ n. make_each g first types args.items free (start n)) (row_count row.0 row.1 ∙ ap length same)

  module _ (low : ℕ) (os : List Object) (breaks continues : ℕ) where
    block_row : (n : _) (row : Row_of-Stmt n) (m : Made) → make_block g first low os (stmts_of types row) breaks continues m ≡ make_in_order g first types low os breaks continues (items-the_row-Stmt n row) m
    block_row n end_of-Stmt m = refl
    block_row n (more_of-Stmt s rest) m = ap (λ x. make_statement g first low os (stmt_of types s) breaks continues x) (block_row _ rest m)

    labelled_row : (n : _) (row : Row_of-Stmt n) (m : Made) → make_labelled g first low os (stmts_of types row) breaks continues m ≡ make_marked g first types low os breaks continues (items-the_row-Stmt n row) m
    labelled_row n end_of-Stmt m = refl
    labelled_row n (more_of-Stmt s rest) m = ap (λ x. make_statement g first low os (stmt_of types s) breaks continues (close x)) (labelled_row _ rest m)

    labels_row : (n : _) (row : Row_of-Stmt n) (m : Made) → labels_of g first low os (stmts_of types row) breaks continues m ≡ marks_of g first types low os breaks continues (items-the_row-Stmt n row) m
    labels_row n end_of-Stmt m = refl
    labels_row n (more_of-Stmt s rest) m =
        let one = λ (x : Made). length (make_statement g first low os (stmt_of types s) breaks continues (close x)).blocks in
        ap (λ x. one x ∷ labels_of g first low os (stmts_of types rest) breaks continues m) (labelled_row _ rest m)
        ∙ ap (λ x. one (make_marked g first types low os breaks continues (items-the_row-Stmt _ rest) m) ∷ x) (labels_row _ rest m)

    pub block_made : (ss : Vec Stmt Global) (m : Made) → make_statement g first low os (stmt_of types (Block ss)) breaks continues m ≡ make_in_order g first types low os breaks continues ss.items m
    block_made ss m =
        let row = block_of (Block ss) in
        let same = items_hidden-the_row-Stmt-0 ss in
        block_row row.0 row.1 m ∙ ap (λ x. make_in_order g first types low os breaks continues x m) same

  module _ (low : ℕ) (os : List Object) where
    -- a switch, from what its statements put and where they begin
    abbrev pub switch_from : Expr → Vec Case Global → ℕ → List ℕ → Made → Made
    switch_from e ks otherwise labels m =
        make g first (expr_of types e) low (low + 1) (put_cases low (kind_in (shape_of g (expr_of types e))) ks.items otherwise labels m)

    pub switch_made : (e : Expr) (ks : Vec Case Global) (otherwise : ℕ) (ss : Vec Stmt Global) (breaks continues : ℕ) (m : Made) → make_statement g first low os (stmt_of types (rs.Switch e ks otherwise ss)) breaks continues m ≡ switch_from e ks otherwise (marks_of g first types low os (length m.blocks) continues ss.items (close m)) (close (make_marked g first types low os (length m.blocks) continues ss.items (close m)))
    switch_made e ks otherwise ss breaks continues m =
        let row = block_of (Block ss) in
        let same = items_hidden-the_row-Stmt-0 ss in
        let labels = labels_row low os (length m.blocks) continues row.0 row.1 (close m) ∙ ap (λ x. marks_of g first types low os (length m.blocks) continues x (close m)) same in
        let code = labelled_row low os (length m.blocks) continues row.0 row.1 (close m) ∙ ap (λ x. make_marked g first types low os (length m.blocks) continues x (close m)) same in
        ap (λ x. switch_from e ks otherwise x (close (make_labelled g first low os (stmts_of types row.1) (length m.blocks) continues (close m)))) labels
        ∙ ap (λ x. switch_from e ks otherwise (marks_of g first types low os (length m.blocks) continues ss.items (close m)) (close x)) code

    -- a switch, from what each call gave
    pub switch_done : (e : Expr) (ks : Vec Case Global) (otherwise : ℕ) (ss : Vec Stmt Global) (breaks continues : ℕ) (m : Made) (join : ℕ) (closed marked done : Made) (block : List Stmt) (cases : List Case) (labels given : List ℕ) (kind : Kind) → join ≡ length m.blocks → closed ≡ close m → block ≡ ss.items → marked ≡ close (make_marked g first types low os join continues block closed) → labels ≡ marks_of g first types low os join continues block closed → given ≡ labels → cases ≡ ks.items → kind ≡ kind_in (shape_of g (expr_of types e)) → done ≡ put_cases low kind cases otherwise given marked → make g first (expr_of types e) low (low + 1) done ≡ make_statement g first low os (stmt_of types (rs.Switch e ks otherwise ss)) breaks continues m
    switch_done e ks otherwise ss breaks continues m join closed marked done block cases labels given kind ej ec eb em el eg ek ekind ed =
        let V = λ (x : Made). make g first (expr_of types e) low (low + 1) x in
        let K = kind_in (shape_of g (expr_of types e)) in
        let code = λ (j : ℕ) (b : List Stmt) (x : Made). close (make_marked g first types low os j continues b x) in
        let marks = λ (j : ℕ) (b : List Stmt) (x : Made). marks_of g first types low os j continues b x in
        ap V ed
        ∙ ap (λ (k : Kind). V (put_cases low k cases otherwise given marked)) ekind
        ∙ ap (λ (cs : List Case). V (put_cases low K cs otherwise given marked)) ek
        ∙ ap (λ (ls : List ℕ). V (put_cases low K ks.items otherwise ls marked)) (eg ∙ el)
        ∙ ap (λ (x : Made). V (put_cases low K ks.items otherwise (marks join block closed) x)) em
        ∙ ap (λ (b : List Stmt). V (put_cases low K ks.items otherwise (marks join b closed) (code join b closed))) eb
        ∙ ap (λ (x : Made). V (put_cases low K ks.items otherwise (marks join ss.items x) (code join ss.items x))) ec
        ∙ ap (λ (j : ℕ). V (put_cases low K ks.items otherwise (marks j ss.items (close m)) (code j ss.items (close m)))) ej
        ∙ sym (switch_made e ks otherwise ss breaks continues m)
