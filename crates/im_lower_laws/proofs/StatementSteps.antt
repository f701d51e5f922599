-- What the code of statements adds: less than 64 words for each node, and one loop edge for each loop.
use Rattle.std.proofs.Common.{◌≡◌, ℕ, zero, suc, ◌+◌, ◌-◌, ◌*◌, ◌<◌, ◌≤◌, min, Bool, true, false, List, [], ◌∷◌, length, sum_by, refl, ap, sym, subst, arith}
use Rattle.std.specs.Prelude.{if◌then◌else◌, IsTrue, Option, Some, None, slice_get, slice_index_or, pos}
use Rattle.std.proofs.lemmas.List.{length-set}
use Rattle.std.proofs.lemmas.List.Sums.{sum_by-cons}
use Rattle.im_num.specs.declared.kind.Kind.{Kind}
use Rattle.im_num.specs.declared.kind.Kind.TheVariants.{I8, U8, I16, U16, I32, U32, Ptr}
use Rattle.im_ctype.specs.declared.cell.Cell.{Cell}
use Rattle.im_store.specs.declared.operators.Comparison.TheVariants.{Equal}
use Rattle.im_typed.specs.declared.statement.Case.{Case}
use Rattle.im_typed.specs.Program as p
use Rattle.im_typed.specs.Meaning.{is_among, given_offsets}
use Rattle.im_typed.specs.Typing.{Each, IsObject, StandAmong, IsAccess, IsPromotedShape, IsTyped, IsTypedStmt, AreTyped, IsPieceOf, cells_at, shape_of}
use Rattle.im_typed.specs.Values.{cells_of}
use Rattle.im_typed.specs.Counts.{expr_nodes, stmt_nodes, stmts_nodes, piece_nodes, optional_nodes}
use Rattle.im_block.specs.declared.unit.Object.{Object}
use Rattle.im_block.specs.declared.unit.Function.{Function}
use Rattle.im_alloc_placed.specs.Operands.{IsPromoted, HasObject}
use Rattle.im_store.specs.Objects.{kind_at}
use Rattle.std.proofs.lemmas.Bool.{eqb-true}
use Rattle.std.proofs.Common.{◌==◌, inl}
use Rattle.im_block.specs.declared.code.Place.TheVariants.{Local}
use Rattle.im_block.specs.declared.code.Exit.TheVariants.{Jump, Turn, Branch, Return}
use Rattle.im_lower_relation.specs.Codes.{ends, fills_object}
use Rattle.im_lower_relation.specs.Statements.{zero_line, kind_in}
use Rattle.im_lower_relation.specs.Lowered.{loops_in, loops_among, AreObjects}
use Rattle.im_lower_plain.specs.Made.{Made, put, put_write, close, start, turn}
use Rattle.im_lower_plain.specs.Make.{groups_in, make, make_test}
use Rattle.im_lower_plain.specs.MakeStatement.{put_zero, put_rest, put_piece, label_at, put_cases, make_pieces, make_return, test_made, cells_there, make_statement, make_block, make_labelled, labels_of}
use Rattle.im_lower_plain.proofs.Growth.{Grows, stays, grows_on, grows_close, grows_start, grows_turn, close_length, start_blocks, got_last}
use Rattle.im_lower_plain.proofs.Grown.{grows, decision_grows}
use Rattle.im_lower_plain.proofs.GrownStatements.{test_grows, statement_grows, block_grows, labelled_grows, cases_grow}
use Rattle.im_lower_plain.proofs.CodedStatements.{cells_same}
use Rattle.im_lower_laws.proofs.Steps.{Step, at_most, step_close, step_start, step_turn}
use Rattle.im_lower_laws.proofs.LineSteps.{Good_register, GoodPlace, adds_put, adds_null, adds_compare, adds_write, adds_groups}
use Rattle.im_lower_laws.proofs.ExpressionSteps.{Premises, HasObjects, AreNear, promoted, laid_near, nearer, nodes_positive, local_there, adds, adds_test}
use Rattle.im_lower_laws.proofs.Given.{Stands, few_given, given_count}

pub statement_positive : (a : p.Stmt) → 1 ≤ stmt_nodes a
statement_positive (p.Do e) = omega arith
statement_positive (p.Forget x) = omega arith
statement_positive (p.Initialise x count ps) = omega arith
statement_positive (p.Block ss) = omega arith
statement_positive (p.If q a b) = omega arith
statement_positive (p.While q a) = omega arith
statement_positive (p.DoWhile a q) = omega arith
statement_positive (p.For a q step b) = omega arith
statement_positive (p.Switch e ks otherwise ss) = omega arith
statement_positive p.Break = omega arith
statement_positive p.Continue = omega arith
statement_positive (p.Return e) = omega arith

-- labels name blocks that are there

index_below : (xs : List ℕ) (i n : ℕ) → Each (λ x. x < n) xs → 0 < n → slice_index_or xs i 0 < n
index_below [] i n h lt = lt
index_below (x ∷ xs) zero n h lt = h.0
index_below (x ∷ xs) (suc i) n h lt = index_below xs i n h.1 lt

each_more : (xs : List ℕ) (n k : ℕ) → n ≤ k → Each (λ x. x < n) xs → Each (λ x. x < k) xs
each_more [] n k le h = tt
each_more (x ∷ xs) n k le h = let one = h.0 in (omega arith, each_more xs n k le h.1)

turned_length : (k body : ℕ) (last : Made) → length (turn k body last).blocks ≡ length last.blocks
unfolding turn
turned_length k body last = length-set last.blocks k (ends (Turn body))

-- the words of a statement, two of which are left for a jump
abbrev pub words_of : p.Stmt → ℕ
words_of a = 64 * stmt_nodes a - 2

-- cells of an object of the function, and those that an expression of an initialiser gives

cells_near : (objects : List p.LocalObject) (x : ℕ) → Each {A = p.LocalObject} (λ o. IsObject o.size o.cells) objects → AreNear (cells_at (slice_get objects x))
cells_near [] x h = tt
cells_near (o ∷ os) zero h = laid_near 0 o.size o.cells h.0.0 h.0.1
cells_near (o ∷ os) (suc x) h = cells_near os x h.1

kind_near : (cells : List Cell) (at : ℕ) (kind : Kind) → AreNear cells → kind_at cells at ≡ Some kind → at ≤ 1048576
kind_near [] at kind near e = absurd (cc)
kind_near (c ∷ cs) at kind near e = either (c.offset == at) refl e (λ h. kind_near cs at kind near.1 h)
  where
    either : (b : Bool) → c.offset == at ≡ b → (if b then Some c.kind else kind_at cs at) ≡ Some kind → (kind_at cs at ≡ Some kind → at ≤ 1048576) → at ≤ 1048576
    either true same h rest =
        let is : c.offset ≡ at = eqb-true c.offset at same in
        let one = near.0 in
        omega arith
    either false same h rest = rest h

stands_near : (cells parts : List Cell) (offset : ℕ) → AreNear cells → StandAmong cells offset parts → Each {A = Cell} (λ c. offset + c.offset ≤ 2097152) parts
stands_near cells [] offset near h = tt
stands_near cells (c ∷ cs) offset near h =
    let one = kind_near cells (offset + c.offset) c.kind near h.0 in
    (omega arith, stands_near cells cs offset near h.1)

first_near : (cells parts : List Cell) (offset : ℕ) → 0 < length parts → AreNear cells → StandAmong cells offset parts → offset ≤ 1048576
first_near cells [] offset some near h = absurd (omega arith)
first_near cells (c ∷ cs) offset some near h =
    let one = kind_near cells (offset + c.offset) c.kind near h.0 in
    omega arith

cells_positive : (x : p.Access) → IsAccess x → 0 < length (cells_of x)
cells_positive (p.Scalar kind) h = omega arith
cells_positive (p.Struct count cells) h = let same = h.0 in let some = h.1 in omega arith

promoted_shape : (shape : Option p.Access) → IsPromotedShape shape → IsPromoted (kind_in shape)
promoted_shape None h = absurd h
promoted_shape (Some (p.Scalar kind)) h = promoted kind h
promoted_shape (Some (p.Struct count cells)) h = absurd h

module _ (g : p.Prog) (f : p.Func) (code : Function) (first low limit : ℕ) (premises : Premises g) (objects : HasObjects f code first) (laid : Each {A = p.LocalObject} (λ o. IsObject o.size o.cells) f.objects) where
  abbrev S : ℕ → ℕ → Made → Made → Type 0
  S c t m n = Step g code low limit c t m n

  local_good : (object offset : ℕ) → HasObject code object → offset ≤ 2097152 → GoodPlace (length g.statics) code low limit (Local object offset)
  local_good object offset there near = record { from = tt; below = omega arith; one = omega arith; exists = (there, near) }

  adds_value : (e : p.Expr) → IsTyped g f e → (c t : ℕ) (m n : Made) → low + 1 + expr_nodes e ≤ limit → S c t m n → S (c + 64 * expr_nodes e) t m (make g first e low (low + 1) n)
  adds_value e ty c t m n le h =
      let one = nodes_positive e in
      adds g f code first low limit premises objects e ty c t m n low (low + 1) (omega arith) (omega arith) (omega arith) le h

  adds_decision : (q : p.Expr) → IsTyped g f q → (c t : ℕ) (m n : Made) (holds fails : ℕ) → low + 1 + expr_nodes q ≤ limit → holds < length n.blocks → fails < length n.blocks → S c t m n → S (c + 6 + 64 * expr_nodes q) t m (make_test g first q low holds fails n)
  adds_decision q ty c t m n holds fails le here there h =
      adds_test g f code first low limit premises objects q ty c t m n low holds fails (omega arith) le here there h

  zero_adds : (kind : Kind) (c t : ℕ) (m n : Made) → low + 1 ≤ limit → S c t m n → S (c + 7) t m (put (zero_line low kind) n)
  zero_adds kind c t m n le h = by_kind kind
    where
      r : Good_register low limit low
      r = record { from = omega arith; below = le }

      by_kind : (kind : Kind) → S (c + 7) t m (put (zero_line low kind) n)
      by_kind Ptr = adds_null g code low limit low r h
      by_kind I8 = adds_put g code low limit low (pos 0) r h
      by_kind U8 = adds_put g code low limit low (pos 0) r h
      by_kind I16 = adds_put g code low limit low (pos 0) r h
      by_kind U16 = adds_put g code low limit low (pos 0) r h
      by_kind I32 = adds_put g code low limit low (pos 0) r h
      by_kind U32 = adds_put g code low limit low (pos 0) r h

  rest_adds : (object : ℕ) (given : List ℕ) (cells : List Cell) (c t : ℕ) (m n : Made) → HasObject code object → AreNear cells → low + 1 ≤ limit → S c t m n → S (c + 19 * length cells) t m (put_rest low object given cells n)
  rest_adds object given [] c t m n there near le h = at_most g code low limit (c + 19 * 0) t (omega arith) (omega arith) h
  rest_adds object given (cell ∷ cells) c t m n there near le h =
      let one = near.0 in
      let rest = rest_adds object given cells c t m n there near.1 le h in
      let r : Good_register low limit low = record { from = omega arith; below = le } in
      let here = zero_adds cell.kind (c + 19 * length cells + 12) t m (put_write (Local object cell.offset) cell.kind low (put_rest low object given cells n)) le (adds_write g code low limit (Local object cell.offset) cell.kind low r (local_good object cell.offset there (omega arith)) rest) in
      either (is_among cell.offset given) (at_most g code low limit (c + 19 * length (cell ∷ cells)) t (omega arith) (omega arith) rest) (at_most g code low limit (c + 19 * length (cell ∷ cells)) t (omega arith) (omega arith) here)
    where
      either : (b : Bool) → S (c + 19 * length (cell ∷ cells)) t m (put_rest low object given cells n) → S (c + 19 * length (cell ∷ cells)) t m (put_zero low object cell (put_rest low object given cells n)) → S (c + 19 * length (cell ∷ cells)) t m (if b then put_rest low object given cells n else put_zero low object cell (put_rest low object given cells n))
      either true x y = x
      either false x y = y

  piece_adds : (object offset : ℕ) (x : p.Access) (c t : ℕ) (m n : Made) → HasObject code object → offset ≤ 1048576 → Each {A = Cell} (λ c. offset + c.offset ≤ 2097152) (cells_of x) → IsAccess x → low + 1 + length (cells_of x) ≤ limit → S c t m n → S (c + 24 * length (cells_of x)) t m (put_piece g low object offset x n)
  piece_adds object offset (p.Scalar kind) c t m n there near each access le h =
      let r : Good_register low limit low = record { from = omega arith; below = omega arith } in
      at_most g code low limit (c + 24 * length (cells_of (p.Scalar kind))) t (omega arith) (omega arith)
      (adds_write g code low limit (Local object offset) kind low r (local_good object offset there (omega arith)) h)
  piece_adds object offset (p.Struct count cells) c t m n there near each access le h =
      let r : Good_register low limit low = record { from = omega arith; below = omega arith } in
      at_most g code low limit (c + 24 * length cells) t (omega arith) (omega arith)
      (adds_groups g code low limit low (Local object offset) (groups_in (fills_object g object cells) cells) cells r (local_good object offset there (omega arith))
      (nearer 0 cells (omega arith) (laid_near 0 1048576 cells (omega arith) access.2)) each (omega arith) h)

  stands_of : (cells : List Cell) (ps : List p.Piece) → Each (IsPieceOf g f cells) ps → Each (Stands cells) ps
  stands_of cells [] h = tt
  stands_of cells (q ∷ qs) h = (h.0.3, stands_of cells qs h.1)

  pieces_add : (cells : List Cell) (object : ℕ) (ps : List p.Piece) (c t : ℕ) (m n : Made) → HasObject code object → AreNear cells → Each (IsPieceOf g f cells) ps → low + 1 + length (given_offsets ps) + sum_by piece_nodes ps ≤ limit → S c t m n → S (c + 24 * length (given_offsets ps) + 64 * sum_by piece_nodes ps) t m (make_pieces g first low object ps n)
  pieces_add cells object [] c t m n there near ty le h = at_most g code low limit (c + 24 * length (given_offsets []) + 64 * sum_by piece_nodes []) t (omega arith) (omega arith) h
  pieces_add cells object (q ∷ qs) c t m n there near ty le h =
      let one = ty.0 in
      let count = given_count q qs in
      let nodes = sum_by-cons piece_nodes q qs in
      let rest = pieces_add cells object qs c t m n there near ty.1 (omega arith) h in
      let words = c + 24 * length (given_offsets qs) + 64 * sum_by piece_nodes qs in
      at_most g code low limit (c + 24 * length (given_offsets (q ∷ qs)) + 64 * sum_by piece_nodes (q ∷ qs)) t (omega arith) (omega arith)
      (adds_value q.value one.1 (words + 24 * length (cells_of q.access)) t m (put_piece g low object q.offset q.access (make_pieces g first low object qs n)) (omega arith)
      (piece_adds object q.offset q.access words t m (make_pieces g first low object qs n) there (first_near cells (cells_of q.access) q.offset (cells_positive q.access one.0) near one.3) (stands_near cells (cells_of q.access) q.offset near one.3) one.0 (omega arith) rest))

  abbrev IsResult : Option p.Expr → Type 0
  IsResult None = Unit {0}
  IsResult (Some e) = IsTyped g f e

  return_adds : (e : Option p.Expr) (c t : ℕ) (m n : Made) → IsResult e → low + 1 + optional_nodes e ≤ limit → S c t m n → S (c + 10 + 64 * optional_nodes e) (t + 0) m (make_return g first low e n)
  return_adds None c t m n ty le h =
      at_most g code low limit (c + 10 + 64 * 0) (t + 0) (omega arith) (omega arith)
      (step_start g code low limit (Return None) 10 0 tt tt tt (omega arith) (omega arith) (omega arith) h)
  return_adds (Some e) c t m n ty le h =
      adds_value e ty (c + 10) (t + 0) m (start (Return (Some low)) n) le
      (step_start g code low limit (Return (Some low)) 10 0 tt tt (omega arith) (omega arith) (omega arith) (omega arith) h)

  cases_add : (kind : Kind) (ks : List Case) (otherwise : ℕ) (labels : List ℕ) (c t : ℕ) (m n : Made) → IsPromoted kind → Each (λ x. x < length n.blocks) labels → 0 < length n.blocks → low + 2 ≤ limit → S c t m n → S (c + 30 * length ks) t m (put_cases low kind ks otherwise labels n)
  cases_add kind [] otherwise labels c t m n ok below some le h =
      let there : label_at labels otherwise < length n.blocks = index_below labels (min otherwise (length labels - 1)) (length n.blocks) below some in
      at_most g code low limit (c + 30 * 0) t (omega arith) (omega arith)
      (step_start g code low limit (Jump (label_at labels otherwise)) 0 0 there there tt (omega arith) (omega arith) (omega arith) h)
  cases_add kind (k ∷ ks) otherwise labels c t m n ok below some le h =
      let rest = put_cases low kind ks otherwise labels n in
      let longer = (cases_grow low kind ks otherwise labels (stays n)).longer in
      let closed_is = close_length rest in
      let label : label_at labels k.at < length n.blocks = index_below labels (min k.at (length labels - 1)) (length n.blocks) below some in
      let here : label_at labels k.at < length (close rest).blocks = omega arith in
      let there : length rest.blocks < length (close rest).blocks = omega arith in
      let r : Good_register low limit low = record { from = omega arith; below = omega arith } in
      let s : Good_register low limit (low + 1) = record { from = omega arith; below = omega arith } in
      at_most g code low limit (c + 30 * length (k ∷ ks)) t (omega arith) (omega arith)
      (adds_put g code low limit (low + 1) k.value s (adds_compare g code low limit (low + 1) Equal kind low (low + 1) s r s (inl ok)
      (step_start g code low limit (Branch (low + 1) (label_at labels k.at) (length rest.blocks)) 6 0 (here, there) (here, there) (omega arith) (omega arith) (omega arith) (omega arith)
      (step_close g code low limit (cases_add kind ks otherwise labels c t m n ok below some le h)))))

  -- a loop's test, with the block of the loop edge
  test_adds : (q : p.Expr) (c t : ℕ) (m n : Made) → IsTyped g f q → low + 1 + expr_nodes q ≤ limit → S c t m n → S (c + 2 + 0 + 2 + 6 + 64 * expr_nodes q) (t + 1) m (test_made g first low q (length n.blocks) (close n))
  test_adds q c t m n ty le h =
      let joined = close n in
      let edge = start (Turn 0) joined in
      let joined_is = close_length n in
      let edge_is : length edge.blocks ≡ length joined.blocks = ap {B = ℕ} (λ (bs : List _). length bs) (start_blocks (Turn 0) joined) in
      let closed_is = close_length edge in
      let some : 0 < length joined.blocks = omega arith in
      let here : length joined.blocks < length (close edge).blocks = omega arith in
      let there : length n.blocks < length (close edge).blocks = omega arith in
      adds_decision q ty (c + 2 + 0 + 2) (t + 1) m (close edge) (length joined.blocks) (length n.blocks) le here there
      (step_close g code low limit (step_start g code low limit (Turn 0) 0 1 tt some tt (omega arith) (omega arith) (omega arith) (step_close g code low limit h)))

  -- the block of the loop edge, which is set when the body is made
  abbrev T : p.Expr → Made → Made
  T q n = test_made g first low q (length n.blocks) (close n)

  edge_made : (q : p.Expr) (n last : Made) → Grows (close (T q n)) last → slice_get last.blocks (length (close n).blocks) ≡ Some (ends (Turn 0))
  unfolding start close
  edge_made q n last on =
      let edge = start (Turn 0) (close n) in
      let first_on : Grows (close edge) (close (T q n)) = grows_close (decision_grows g first q low (length (close n).blocks) (length n.blocks) (stays (close edge))) in
      (grows_on first_on on).same (length (close n).blocks) (ends (Turn 0)) (got_last (close n).blocks (ends (Turn 0)))

  loop_ends : (q : p.Expr) (c t h : ℕ) (m n last : Made) (entry : ℕ) → Grows m n → Grows (close (T q n)) last → entry < length last.blocks → h < length last.blocks → S c t m last → S (c + 0) (t + 0) m (start (Jump h) (turn (length (close n).blocks) entry last))
  loop_ends q c t h m n last entry begun on there at s =
      let longer = begun.longer in
      let joined_is = close_length n in
      let late : length m.blocks ≤ length (close n).blocks = omega arith in
      let set = step_turn g code low limit (length (close n).blocks) entry 0 late (edge_made q n last on) there s in
      let same : length (turn (length (close n).blocks) entry last).blocks ≡ length last.blocks = turned_length (length (close n).blocks) entry last in
      let there_too : h < length (turn (length (close n).blocks) entry last).blocks = omega arith in
      step_start g code low limit (Jump h) 0 0 there_too there_too tt (omega arith) (omega arith) (omega arith) set

  module _ (os : List Object) (are : AreObjects f.objects os) where
    abbrev Statement : p.Stmt → ℕ → ℕ → Made → Made
    Statement a breaks continues n = make_statement g first low os a breaks continues n

    labels_below : (ss : p.Stmts) (breaks continues : ℕ) (n : Made) → Each (λ x. x < length (close (make_labelled g first low os ss breaks continues n)).blocks) (labels_of g first low os ss breaks continues n)
    labels_below p.no_stmts breaks continues n = let l = close_length n in (omega arith, tt)
    labels_below (p.more_stmts a rest) breaks continues n =
        let before = make_labelled g first low os rest breaks continues n in
        let here = Statement a breaks continues (close before) in
        let l = close_length here in
        let longer = (statement_grows g first low os a breaks continues (stays (close before))).longer in
        (omega arith, each_more (labels_of g first low os rest breaks continues n) (length (close before).blocks) (length (close here).blocks) (omega arith) (labels_below rest breaks continues n))

    abbrev Target : Bool → ℕ → Made → Type 0
    Target b target n = IsTrue b → target < length n.blocks

    farther : (b : Bool) (target : ℕ) {n k : Made} → Grows n k → Target b target n → Target b target k
    farther b target on h = λ true. let longer = on.longer in let there = h true in omega arith

    abbrev Adds : p.Stmt → Type 0
    Adds a =
        (bs cs : Bool) (breaks continues c t : ℕ) (m n : Made) → IsTypedStmt g f bs cs a → Target bs breaks n → Target cs continues n
        → low + stmt_nodes a ≤ limit → S c t m n → S (c + words_of a) (t + loops_in a) m (Statement a breaks continues n)

    mutual
      pub statement_adds : (a : p.Stmt) → Adds a
      statement_adds (p.Do e) bs cs breaks continues c t m n ty tb tc le h =
          at_most g code low limit (c + (64 * (1 + expr_nodes e) - 2)) (t + 0) (omega arith) (omega arith) (adds_value e ty c t m n (omega arith) h)
      statement_adds (p.Forget x) bs cs breaks continues c t m n ty tb tc le h =
          at_most g code low limit (c + (64 * 1 - 2)) (t + 0) (omega arith) (omega arith) h
      statement_adds (p.Initialise x count ps) bs cs breaks continues c t m n ty tb tc le h =
          let cells = cells_at (slice_get f.objects x) in
          let counted = ty.1 in
          let few = few_given cells ps (stands_of cells ps ty.2) ty.3 in
          let same : cells_there (slice_get os x) ≡ cells = cells_same f.objects os x are in
          let there = local_there g f code first low limit premises objects x ty.0 in
          let near = cells_near f.objects x laid in
          let rest = rest_adds (first + x) (given_offsets ps) cells c t m n there near (omega arith) h in
          let rest_there = subst (λ (cs : List Cell). S (c + 19 * length cells) t m (put_rest low (first + x) (given_offsets ps) cs n)) (sym same) rest in
          at_most g code low limit (c + (64 * (1 + count + sum_by piece_nodes ps) - 2)) (t + 0) (omega arith) (omega arith)
          (pieces_add cells (first + x) ps (c + 19 * length cells) t m _ there near ty.2 (omega arith) rest_there)
      statement_adds (p.Block ss) bs cs breaks continues c t m n ty tb tc le h =
          at_most g code low limit (c + (64 * (1 + stmts_nodes ss) - 2)) (t + loops_among ss) (omega arith) (omega arith) (block_adds ss bs cs breaks continues c t m n ty tb tc (omega arith) h)
      statement_adds (p.If q a b) bs cs breaks continues c t m n ty tb tc le h =
          let joined = close n in
          let other = Statement b breaks continues joined in
          let begun = start (Jump (length n.blocks)) (close other) in
          let one = Statement a breaks continues begun in
          let joined_is = close_length n in
          let from_join : Grows joined other = statement_grows g first low os b breaks continues (stays joined) in
          let other_is = close_length other in
          let from_begun : Grows (close other) one = statement_grows g first low os a breaks continues (grows_start (Jump (length n.blocks)) (stays (close other))) in
          let one_is = close_length one in
          let to_other = from_join.longer in
          let to_one = from_begun.longer in
          let pa = statement_positive a in
          let pb = statement_positive b in
          let at_join : Grows n joined = grows_close (stays n) in
          let at_begun : Grows n begun = grows_start (Jump (length n.blocks)) (grows_close (grows_on at_join from_join)) in
          let j1 : length n.blocks < length (close other).blocks = omega arith in
          let b1 : length one.blocks < length (close one).blocks = omega arith in
          let b2 : length other.blocks < length (close one).blocks = omega arith in
          let made_other = statement_adds b bs cs breaks continues (c + 2) t m joined ty.2 (farther bs breaks at_join tb) (farther cs continues at_join tc) (omega arith) (step_close g code low limit h) in
          let jumped = step_start g code low limit (Jump (length n.blocks)) 0 0 j1 j1 tt (omega arith) (omega arith) (omega arith) (step_close g code low limit made_other) in
          let made_one = statement_adds a bs cs breaks continues (c + 2 + words_of b + 2 + 0) (t + loops_in b + 0) m begun ty.1 (farther bs breaks at_begun tb) (farther cs continues at_begun tc) (omega arith) jumped in
          at_most g code low limit (c + (64 * (1 + expr_nodes q + stmt_nodes a + stmt_nodes b) - 2)) (t + (loops_in a + loops_in b)) (omega arith) (omega arith)
          (adds_decision q ty.0.0 (c + 2 + words_of b + 2 + 0 + words_of a + 2) (t + loops_in b + 0 + loops_in a) m (close one) (length one.blocks) (length other.blocks) (omega arith) b1 b2 (step_close g code low limit made_one))
      statement_adds (p.While q a) bs cs breaks continues c t m n ty tb tc le h =
          let test = T q n in
          let body = Statement a (length n.blocks) (length test.blocks) (close test) in
          let pa = statement_positive a in
          let pq = nodes_positive q in
          let to_test : Grows (close n) test = test_grows g first low q (length n.blocks) (stays (close n)) in
          let joined_is = close_length n in
          let longer = to_test.longer in
          let test_is = close_length test in
          let to_body : Grows (close test) body = statement_grows g first low os a (length n.blocks) (length test.blocks) (stays (close test)) in
          let body_longer = to_body.longer in
          let body_is = close_length body in
          let tested = step_close g code low limit (test_adds q c t m n ty.0.0 (omega arith) h) in
          let made = statement_adds a true true (length n.blocks) (length test.blocks) (c + 2 + 0 + 2 + 6 + 64 * expr_nodes q + 2) (t + 1) m (close test) ty.1 (λ x. omega arith) (λ x. omega arith) (omega arith) tested in
          at_most g code low limit (c + (64 * (1 + expr_nodes q + stmt_nodes a) - 2)) (t + (1 + loops_in a)) (omega arith) (omega arith)
          (loop_ends q (c + 2 + 0 + 2 + 6 + 64 * expr_nodes q + 2 + words_of a + 2) (t + 1 + loops_in a) (length test.blocks) m n (close body) (length body.blocks) h.grows (grows_close to_body) (omega arith) (omega arith) (step_close g code low limit made))
      statement_adds (p.DoWhile a q) bs cs breaks continues c t m n ty tb tc le h =
          let test = T q n in
          let body = Statement a (length n.blocks) (length test.blocks) (close test) in
          let pa = statement_positive a in
          let pq = nodes_positive q in
          let to_test : Grows (close n) test = test_grows g first low q (length n.blocks) (stays (close n)) in
          let joined_is = close_length n in
          let longer = to_test.longer in
          let test_is = close_length test in
          let to_body : Grows (close test) body = statement_grows g first low os a (length n.blocks) (length test.blocks) (stays (close test)) in
          let body_longer = to_body.longer in
          let body_is = close_length body in
          let tested = step_close g code low limit (test_adds q c t m n ty.1.0 (omega arith) h) in
          let made = statement_adds a true true (length n.blocks) (length test.blocks) (c + 2 + 0 + 2 + 6 + 64 * expr_nodes q + 2) (t + 1) m (close test) ty.0 (λ x. omega arith) (λ x. omega arith) (omega arith) tested in
          at_most g code low limit (c + (64 * (1 + stmt_nodes a + expr_nodes q) - 2)) (t + (1 + loops_in a)) (omega arith) (omega arith)
          (loop_ends q (c + 2 + 0 + 2 + 6 + 64 * expr_nodes q + 2 + words_of a + 2) (t + 1 + loops_in a) (length (close n).blocks) m n (close body) (length body.blocks) h.grows (grows_close to_body) (omega arith) (omega arith) (step_close g code low limit made))
      statement_adds (p.For a q step b) bs cs breaks continues c t m n ty tb tc le h =
          let test = T q n in
          let next = make g first step low (low + 1) (close test) in
          let body = Statement b (length n.blocks) (length next.blocks) (close next) in
          let pa = statement_positive a in
          let pb = statement_positive b in
          let pq = nodes_positive q in
          let ps = nodes_positive step in
          let to_test : Grows (close n) test = test_grows g first low q (length n.blocks) (stays (close n)) in
          let joined_is = close_length n in
          let longer = to_test.longer in
          let test_is = close_length test in
          let to_next : Grows (close test) next = grows g first step low (low + 1) (stays (close test)) in
          let next_longer = to_next.longer in
          let next_is = close_length next in
          let to_body : Grows (close next) body = statement_grows g first low os b (length n.blocks) (length next.blocks) (stays (close next)) in
          let body_longer = to_body.longer in
          let body_is = close_length body in
          let on : Grows (close test) (close body) = grows_on (grows_close to_next) (grows_close to_body) in
          let stepped = adds_value step ty.2 (c + 2 + 0 + 2 + 6 + 64 * expr_nodes q + 2) (t + 1) m (close test) (omega arith) (step_close g code low limit (test_adds q c t m n ty.1.0 (omega arith) h)) in
          let made = statement_adds b true true (length n.blocks) (length next.blocks) (c + 2 + 0 + 2 + 6 + 64 * expr_nodes q + 2 + 64 * expr_nodes step + 2) (t + 1) m (close next) ty.3 (λ x. omega arith) (λ x. omega arith) (omega arith) (step_close g code low limit stepped) in
          let ended = loop_ends q (c + 2 + 0 + 2 + 6 + 64 * expr_nodes q + 2 + 64 * expr_nodes step + 2 + words_of b + 2) (t + 1 + loops_in b) (length test.blocks) m n (close body) (length body.blocks) h.grows on (omega arith) (omega arith) (step_close g code low limit made) in
          let to_end : Grows n (start (Jump (length test.blocks)) (turn (length (close n).blocks) (length body.blocks) (close body))) = grows_start (Jump (length test.blocks)) (grows_turn (length (close n).blocks) (length body.blocks) (omega arith) (grows_on (grows_close (grows_on (grows_close (stays n)) to_test)) on)) in
          at_most g code low limit (c + (64 * (1 + stmt_nodes a + expr_nodes q + expr_nodes step + stmt_nodes b) - 2)) (t + (1 + loops_in a + loops_in b)) (omega arith) (omega arith)
          (statement_adds a bs cs breaks continues (c + 2 + 0 + 2 + 6 + 64 * expr_nodes q + 2 + 64 * expr_nodes step + 2 + words_of b + 2 + 0) (t + 1 + loops_in b + 0) m _ ty.0 (farther bs breaks to_end tb) (farther cs continues to_end tc) (omega arith) ended)
      statement_adds (p.Switch e ks otherwise ss) bs cs breaks continues c t m n ty tb tc le h =
          let j = length n.blocks in
          let joined = close n in
          let labelled = make_labelled g first low os ss j continues joined in
          let labels = labels_of g first low os ss j continues joined in
          let joined_is = close_length n in
          let at_join : Grows n joined = grows_close (stays n) in
          let labelled_is = close_length labelled in
          let pe = nodes_positive e in
          let made = labelled_adds ss true cs j continues (c + 2) t m joined ty.4 (λ x. omega arith) (farther cs continues at_join tc) (omega arith) (step_close g code low limit h) in
          let cases = cases_add (kind_in (shape_of g e)) ks otherwise labels (c + 2 + 64 * stmts_nodes ss + 2) (t + loops_among ss) m (close labelled) (promoted_shape (shape_of g e) ty.1) (labels_below ss j continues joined) (omega arith) (omega arith) (step_close g code low limit made) in
          at_most g code low limit (c + (64 * (1 + expr_nodes e + 2 * length ks + stmts_nodes ss) - 2)) (t + loops_among ss) (omega arith) (omega arith)
          (adds_value e ty.0 (c + 2 + 64 * stmts_nodes ss + 2 + 30 * length ks) (t + loops_among ss) m _ (omega arith) cases)
      statement_adds p.Break bs cs breaks continues c t m n ty tb tc le h =
          let there = tb ty in
          at_most g code low limit (c + (64 * 1 - 2)) (t + 0) (omega arith) (omega arith)
          (step_start g code low limit (Jump breaks) 0 0 there there tt (omega arith) (omega arith) (omega arith) h)
      statement_adds p.Continue bs cs breaks continues c t m n ty tb tc le h =
          let there = tc ty in
          at_most g code low limit (c + (64 * 1 - 2)) (t + 0) (omega arith) (omega arith)
          (step_start g code low limit (Jump continues) 0 0 there there tt (omega arith) (omega arith) (omega arith) h)
      statement_adds (p.Return None) bs cs breaks continues c t m n ty tb tc le h =
          at_most g code low limit (c + (64 * (1 + 0) - 2)) (t + 0) (omega arith) (omega arith) (return_adds None c t m n tt (omega arith) h)
      statement_adds (p.Return (Some e)) bs cs breaks continues c t m n ty tb tc le h =
          at_most g code low limit (c + (64 * (1 + expr_nodes e) - 2)) (t + 0) (omega arith) (omega arith) (return_adds (Some e) c t m n ty.0 (omega arith) h)

      pub block_adds : (ss : p.Stmts) (bs cs : Bool) (breaks continues c t : ℕ) (m n : Made) → AreTyped g f bs cs ss → Target bs breaks n → Target cs continues n → low + stmts_nodes ss ≤ limit → S c t m n → S (c + 64 * stmts_nodes ss) (t + loops_among ss) m (make_block g first low os ss breaks continues n)
      block_adds p.no_stmts bs cs breaks continues c t m n ty tb tc le h = at_most g code low limit (c + 64 * 0) (t + 0) (omega arith) (omega arith) h
      block_adds (p.more_stmts a rest) bs cs breaks continues c t m n ty tb tc le h =
          let on = block_grows g first low os rest breaks continues (stays n) in
          at_most g code low limit (c + 64 * (stmt_nodes a + stmts_nodes rest)) (t + (loops_in a + loops_among rest)) (omega arith) (omega arith)
          (statement_adds a bs cs breaks continues (c + 64 * stmts_nodes rest) (t + loops_among rest) m _ ty.0 (farther bs breaks on tb) (farther cs continues on tc) (omega arith)
          (block_adds rest bs cs breaks continues c t m n ty.1 tb tc (omega arith) h))

      pub labelled_adds : (ss : p.Stmts) (bs cs : Bool) (breaks continues c t : ℕ) (m n : Made) → AreTyped g f bs cs ss → Target bs breaks n → Target cs continues n → low + stmts_nodes ss ≤ limit → S c t m n → S (c + 64 * stmts_nodes ss) (t + loops_among ss) m (make_labelled g first low os ss breaks continues n)
      labelled_adds p.no_stmts bs cs breaks continues c t m n ty tb tc le h = at_most g code low limit (c + 64 * 0) (t + 0) (omega arith) (omega arith) h
      labelled_adds (p.more_stmts a rest) bs cs breaks continues c t m n ty tb tc le h =
          let on = grows_close (labelled_grows g first low os rest breaks continues (stays n)) in
          let pa = statement_positive a in
          at_most g code low limit (c + 64 * (stmt_nodes a + stmts_nodes rest)) (t + (loops_in a + loops_among rest)) (omega arith) (omega arith)
          (statement_adds a bs cs breaks continues (c + 64 * stmts_nodes rest + 2) (t + loops_among rest) m _ ty.0 (farther bs breaks on tb) (farther cs continues on tc) (omega arith)
          (step_close g code low limit (labelled_adds rest bs cs breaks continues c t m n ty.1 tb tc (omega arith) h)))
