-- Statements add blocks, and change none but the loop edges among these.
use Rattle.std.proofs.Common.{ℕ, ◌+◌, ◌≤◌, Bool, true, false, List, [], ◌∷◌, length, arith}
use Rattle.std.specs.Prelude.{if◌then◌else◌, Option, Some, None, slice_get}
use Rattle.im_num.specs.declared.kind.Kind.{Kind}
use Rattle.im_ctype.specs.declared.cell.Cell.{Cell}
use Rattle.im_store.specs.declared.operators.Comparison.TheVariants.{Equal}
use Rattle.im_typed.specs.declared.statement.Case.{Case}
use Rattle.im_typed.specs.Program as p
use Rattle.im_typed.specs.Meaning.{is_among, given_offsets}
use Rattle.im_typed.specs.Typing.{shape_of}
use Rattle.im_block.specs.declared.unit.Object.{Object}
use Rattle.im_block.specs.declared.code.Place.TheVariants.{Local}
use Rattle.im_block.specs.declared.code.Line.TheVariants.{Put, Compare}
use Rattle.im_block.specs.declared.code.Exit.TheVariants.{Jump, Turn, Return}
use Rattle.im_lower_relation.specs.Codes.{fills_object}
use Rattle.im_lower_relation.specs.Statements.{zero_line, kind_in}
use Rattle.im_lower_plain.specs.Made.{Made, close}
use Rattle.im_lower_plain.specs.Make.{groups_in}
use Rattle.im_lower_plain.specs.MakeStatement.{put_rest, put_piece, label_at, put_cases, make_pieces, make_return, test_made, cells_there, make_statement, make_block, make_labelled}
use Rattle.im_lower_plain.proofs.Growth.{Grows, grows_put, grows_write, grows_close, grows_start, grows_turn, close_length}
use Rattle.im_lower_plain.proofs.Grown.{grows, decision_grows, groups_grow}

if_grows : {m a b : Made} (c : Bool) → Grows m a → Grows m b → Grows m (if c then a else b)
if_grows true h k = h
if_grows false h k = k

pub rest_grows : {m n : Made} (low object : ℕ) (given : List ℕ) (cells : List Cell) → Grows m n → Grows m (put_rest low object given cells n)
rest_grows low object given [] h = h
rest_grows low object given (c ∷ cs) h =
    let rest = rest_grows low object given cs h in
    if_grows (is_among c.offset given) rest (grows_put (zero_line low c.kind) (grows_write (Local object c.offset) c.kind low rest))

pub piece_grows : {m n : Made} (g : p.Prog) (low object offset : ℕ) (x : p.Access) → Grows m n → Grows m (put_piece g low object offset x n)
piece_grows g low object offset (p.Scalar kind) h = grows_write (Local object offset) kind low h
piece_grows g low object offset (p.Struct count cells) h =
    groups_grow low (Local object offset) (groups_in (fills_object g object cells) cells) cells h

pub cases_grow : {m n : Made} (low : ℕ) (kind : Kind) (ks : List Case) (otherwise : ℕ) (labels : List ℕ) → Grows m n → Grows m (put_cases low kind ks otherwise labels n)
cases_grow low kind [] otherwise labels h = grows_start (Jump (label_at labels otherwise)) h
cases_grow low kind (k ∷ ks) otherwise labels h =
    grows_put (Put (low + 1) k.value) (grows_put (Compare (low + 1) Equal kind low (low + 1))
    (grows_start _ (grows_close (cases_grow low kind ks otherwise labels h))))

module _ (g : p.Prog) (first low : ℕ) where
  pub pieces_grow : {m n : Made} (object : ℕ) (ps : List p.Piece) → Grows m n → Grows m (make_pieces g first low object ps n)
  pieces_grow object [] h = h
  pieces_grow object (q ∷ qs) h =
      grows g first q.value low (low + 1) (piece_grows g low object q.offset q.access (pieces_grow object qs h))

  pub return_grows : {m n : Made} (e : Option p.Expr) → Grows m n → Grows m (make_return g first low e n)
  return_grows None h = grows_start (Return None) h
  return_grows (Some e) h = grows g first e low (low + 1) (grows_start (Return (Some low)) h)

  pub test_grows : {m n : Made} (q : p.Expr) (join : ℕ) → Grows m n → Grows m (test_made g first low q join n)
  test_grows {m} {n} q join h =
      decision_grows g first q low (length n.blocks) join (grows_close (grows_start (Turn 0) h))

  late : {m n : Made} → Grows m n → length m.blocks ≤ length (close n).blocks
  late {m} {n} h =
      let longer = h.longer in
      let l = close_length n in
      omega arith

  module _ (os : List Object) where
    mutual
      pub statement_grows : {m n : Made} (a : p.Stmt) (breaks continues : ℕ) → Grows m n → Grows m (make_statement g first low os a breaks continues n)
      statement_grows (p.Do e) breaks continues h = grows g first e low (low + 1) h
      statement_grows (p.Forget x) breaks continues h = h
      statement_grows (p.Initialise x count ps) breaks continues h =
          pieces_grow (first + x) ps (rest_grows low (first + x) (given_offsets ps) (cells_there (slice_get os x)) h)
      statement_grows (p.Block ss) breaks continues h = block_grows ss breaks continues h
      statement_grows (p.If q a b) breaks continues h =
          decision_grows g first q low _ _
          (grows_close (statement_grows a breaks continues (grows_start _ (grows_close (statement_grows b breaks continues (grows_close h))))))
      statement_grows {m} {n} (p.While q a) breaks continues h =
          grows_start _ (grows_turn (length (close n).blocks) _ (late h) (grows_close (statement_grows a (length n.blocks) _ (grows_close (test_grows q (length n.blocks) (grows_close h))))))
      statement_grows {m} {n} (p.DoWhile a q) breaks continues h =
          grows_start _ (grows_turn (length (close n).blocks) _ (late h) (grows_close (statement_grows a (length n.blocks) _ (grows_close (test_grows q (length n.blocks) (grows_close h))))))
      statement_grows {m} {n} (p.For a q step c) breaks continues h =
          statement_grows a breaks continues
          (grows_start _ (grows_turn (length (close n).blocks) _ (late h) (grows_close (statement_grows c (length n.blocks) _ (grows_close (grows g first step low (low + 1) (grows_close (test_grows q (length n.blocks) (grows_close h)))))))))
      statement_grows {m} {n} (p.Switch e ks otherwise ss) breaks continues h =
          grows g first e low (low + 1) (cases_grow low (kind_in (shape_of g e)) ks otherwise _ (grows_close (labelled_grows ss (length n.blocks) continues (grows_close h))))
      statement_grows p.Break breaks continues h = grows_start (Jump breaks) h
      statement_grows p.Continue breaks continues h = grows_start (Jump continues) h
      statement_grows (p.Return e) breaks continues h = return_grows e h

      pub block_grows : {m n : Made} (ss : p.Stmts) (breaks continues : ℕ) → Grows m n → Grows m (make_block g first low os ss breaks continues n)
      block_grows p.no_stmts breaks continues h = h
      block_grows (p.more_stmts a rest) breaks continues h = statement_grows a breaks continues (block_grows rest breaks continues h)

      pub labelled_grows : {m n : Made} (ss : p.Stmts) (breaks continues : ℕ) → Grows m n → Grows m (make_labelled g first low os ss breaks continues n)
      labelled_grows p.no_stmts breaks continues h = h
      labelled_grows (p.more_stmts a rest) breaks continues h = statement_grows a breaks continues (grows_close (labelled_grows rest breaks continues h))
