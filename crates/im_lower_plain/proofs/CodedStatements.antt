-- What the body puts for statements is what the relation asks.
use Rattle.std.proofs.Common.{◌≡◌, inl, inr, ℕ, zero, suc, ◌+◌, ◌-◌, ◌<◌, ◌≤◌, min, Bool, true, false, List, [], ◌∷◌, length, refl, ap, sym, ◌∙◌, subst, arith}
use Rattle.std.specs.Prelude.{if◌then◌else◌, Option, Some, None, slice_get, slice_index_or}
use Rattle.im_num.specs.declared.kind.Kind.{Kind}
use Rattle.im_ctype.specs.declared.cell.Cell.{Cell}
use Rattle.im_store.specs.declared.operators.Comparison.TheVariants.{Equal}
use Rattle.im_typed.specs.declared.statement.Case.{Case}
use Rattle.im_typed.specs.Program as p
use Rattle.im_typed.specs.Meaning.{is_among, given_offsets}
use Rattle.im_typed.specs.Typing.{shape_of, cells_at}
use Rattle.im_block.specs.declared.unit.Object.{Object}
use Rattle.im_block.specs.declared.code.Place.TheVariants.{Local}
use Rattle.im_block.specs.declared.code.Line.TheVariants.{Put, Compare, Write}
use Rattle.im_block.specs.declared.code.Exit.TheVariants.{Jump, Turn, Branch, Return}
use Rattle.im_block.specs.declared.code.Block.{Block}
use Rattle.im_lower_relation.specs.Codes.{Point, before, ends, Begins, fills_object, CodesTest}
use Rattle.im_lower_relation.specs.Statements.{zero_line, kind_in, start_at, CodesRest, CodesCases, CodesPiece, CodesPieces, CodesReturn, CodesStatement, CodesStatements}
use Rattle.im_lower_relation.specs.Lowered.{AreObjects, CodesParameters, kind_of_one, brace}
use Rattle.im_lower_plain.specs.Made.{Made, put, put_read, put_write, close, start, turn}
use Rattle.im_lower_plain.specs.Make.{groups_in, put_groups, make, make_test}
use Rattle.im_lower_plain.specs.MakeStatement.{put_zero, put_rest, put_piece, put_parameters, label_at, put_case, put_cases, make_brace, make_piece, make_pieces, make_return, test_made, cells_there, make_statement, make_block, make_labelled, labels_of}
use Rattle.im_lower_plain.proofs.Growth.{Grows, stays, grows_on, grows_put, grows_close, grows_start, grows_turn, close_length, turn_blocks, got_last, got_other, got_same, Later, later_before, closed_begins}
use Rattle.im_lower_plain.proofs.Grown.{grows, decision_grows, groups_grow}
use Rattle.im_lower_plain.proofs.Coded.{groups_coded, groups_allowed, further_on, coded, test_coded}
use Rattle.im_lower_plain.proofs.GrownStatements.{rest_grows, piece_grows, cases_grow, pieces_grow, test_grows, statement_grows, block_grows, labelled_grows}

-- the block that was closed last
closed_at : (m : Made) → slice_get (close m).blocks (length m.blocks) ≡ Some m.point
unfolding close
closed_at m = got_last m.blocks m.point

-- but for a loop edge that is set, blocks are as they were
unturned : {bottom : ℕ} {later : List Block} (n : Made) (k body : ℕ) → Later bottom (turn k body n) later → (x : ℕ) (p : Point) → bottom ≤ x → (x ≡ k → ⊥) → slice_get n.blocks x ≡ Some p → Begins later x p
unturned {bottom} n k body l x p le ne e =
    l.each x p le (subst (λ bs. slice_get bs x ≡ Some p) (sym (turn_blocks k body n)) (got_other n.blocks k x (ends (Turn body)) ne ∙ e))

turned_edge : {bottom : ℕ} {later : List Block} (n : Made) (k body : ℕ) → Later bottom (turn k body n) later → bottom ≤ k → k < length n.blocks → Begins later k (ends (Turn body))
turned_edge {bottom} n k body l le lt =
    l.each k (ends (Turn body)) le (subst (λ bs. slice_get bs k ≡ Some (ends (Turn body))) (sym (turn_blocks k body n)) (got_same n.blocks k (ends (Turn body)) lt))

later_started : {bottom : ℕ} {later : List Block} (exit : _) (n : Made) → Later bottom (start exit n) later → Later bottom n later
later_started exit n l = later_before (grows_start exit (stays n)) l

-- cells without an expression

if_rest : (c : Bool) (a b : Made) (s t : Point) → a.point ≡ s → b.point ≡ t → (if c then a else b).point ≡ (if c then s else t)
if_rest true a b s t e f = e
if_rest false a b s t e f = f

pub rest_coded : (low object : ℕ) (given : List ℕ) (cells : List Cell) (m : Made) → CodesRest low object given cells (put_rest low object given cells m).point m.point
unfolding put put_write
rest_coded low object given [] m = refl
rest_coded low object given (c ∷ cs) m =
    let rest = put_rest low object given cs m in (
      rest.point,
      rest.accesses,
      rest_coded low object given cs m,
      if_rest (is_among c.offset given) rest (put_zero low object c rest) rest.point (before (zero_line low c.kind) (before (Write (Local object c.offset) c.kind low rest.accesses) rest.point)) refl refl,
    )

-- parameters

add_suc : (n : ℕ) → n + 1 ≡ suc n
add_suc n = omega arith

pub parameters_coded : (object from : ℕ) (xs : List p.LocalObject) (os : List Object) (m : Made) → AreObjects xs os → CodesParameters object from xs (put_parameters object from os m).point m.point
unfolding put put_write
parameters_coded object from [] [] m are = refl
parameters_coded object from [] (o ∷ os) m are = absurd are
parameters_coded object from (x ∷ xs) [] m are = absurd are
parameters_coded object from (x ∷ xs) (o ∷ os) m are =
    let rest = put_parameters (object + 1) (from + 1) os m in (
      rest.point,
      rest.accesses,
      subst (λ k. CodesParameters k (suc from) xs rest.point m.point) (add_suc object)
          (subst (λ k. CodesParameters (object + 1) k xs rest.point m.point) (add_suc from) (parameters_coded (object + 1) (from + 1) xs os m are.2)),
      ap (λ cells. before (Write (Local object 0) (kind_of_one cells) from rest.accesses) rest.point) are.1,
    )

pub brace_coded : (low : ℕ) (is_main : Bool) (m : Made) → (make_brace low is_main m).point ≡ brace low is_main
unfolding put start
brace_coded low true m = refl
brace_coded low false m = refl

pub cells_same : (xs : List p.LocalObject) (os : List Object) (x : ℕ) → AreObjects xs os → cells_there (slice_get os x) ≡ cells_at (slice_get xs x)
cells_same [] [] x are = refl
cells_same [] (o ∷ os) x are = absurd are
cells_same (y ∷ ys) [] x are = absurd are
cells_same (y ∷ ys) (o ∷ os) zero are = are.1
cells_same (y ∷ ys) (o ∷ os) (suc x) are = cells_same ys os x are.2

-- labels

label_next : (x y : ℕ) (ys : List ℕ) (k : ℕ) → label_at (x ∷ y ∷ ys) (suc k) ≡ label_at (y ∷ ys) k
label_next x y ys k =
    let e : min (suc k) (length (x ∷ y ∷ ys) - 1) ≡ suc (min k (length (y ∷ ys) - 1)) = omega arith in
    ap (λ n. slice_index_or (x ∷ y ∷ ys) n 0) e

label_first : (x : ℕ) (ys : List ℕ) → label_at (x ∷ ys) 0 ≡ x
label_first x ys =
    let e : min 0 (length (x ∷ ys) - 1) ≡ 0 = omega arith in
    ap (λ n. slice_index_or (x ∷ ys) n 0) e

label_only : (x : ℕ) (k : ℕ) → label_at (x ∷ []) k ≡ x
label_only x k =
    let e : min k (length (x ∷ []) - 1) ≡ 0 = omega arith in
    ap (λ n. slice_index_or (x ∷ []) n 0) e

module _ (g : p.Prog) (first low : ℕ) (os : List Object) (objects : List p.LocalObject) (are : AreObjects objects os) (later : List Block) where
  piece_coded : (object offset : ℕ) (x : p.Access) (e : p.Expr) (m : Made) (bottom : ℕ) → bottom ≤ length m.blocks → Later bottom (make g first e low (low + 1) (put_piece g low object offset x m)) later → CodesPiece g first low objects later object offset x e (make g first e low (low + 1) (put_piece g low object offset x m)).point m.point
  unfolding put put_read put_write
  piece_coded object offset (p.Scalar kind) e m bottom le l =
      (m.accesses, coded g first later e low (low + 1) (put_write (Local object offset) kind low m) bottom le l)
  piece_coded object offset (p.Struct count cells) e m bottom le l =
      let allowed = fills_object g object cells in
      let many = groups_in allowed cells in
      let copied = put_groups low (Local object offset) many cells m in
      let grown : Grows m copied = groups_grow low (Local object offset) many cells (stays m) in (
        copied.point,
        many,
        groups_allowed allowed cells,
        coded g first later e low (low + 1) copied bottom (further_on bottom le grown) l,
        groups_coded low (Local object offset) many cells m,
      )

  pieces_coded : (object : ℕ) (ps : List p.Piece) (m : Made) (bottom : ℕ) → bottom ≤ length m.blocks → Later bottom (make_pieces g first low object ps m) later → CodesPieces g first low objects later object ps (make_pieces g first low object ps m).point m.point
  pieces_coded object [] m bottom le l = refl
  pieces_coded object (q ∷ qs) m bottom le l =
      let rest = make_pieces g first low object qs m in
      let on : Grows rest (make_piece g first low object q rest) = grows g first q.value low (low + 1) (piece_grows g low object q.offset q.access (stays rest)) in (
        rest.point,
        piece_coded object q.offset q.access q.value rest bottom (further_on bottom le (pieces_grow g first low object qs (stays m))) l,
        pieces_coded object qs m bottom le (later_before on l),
      )

  return_coded : (e : Option p.Expr) (m : Made) (bottom : ℕ) → bottom ≤ length m.blocks → Later bottom (make_return g first low e m) later → CodesReturn g first low objects later e (make_return g first low e m).point
  unfolding start
  return_coded None m bottom le l = refl
  return_coded (Some e) m bottom le l = coded g first later e low (low + 1) (start (Return (Some low)) m) bottom le l

  abbrev Lookup : List ℕ → Point → List Point → Type 0
  Lookup labels begin qs = (k : ℕ) → Begins later (label_at labels k) (start_at begin qs k)

  cases_coded : (kind : Kind) (ks : List Case) (otherwise : ℕ) (labels : List ℕ) (begin : Point) (qs : List Point) (m : Made) (bottom : ℕ) → Lookup labels begin qs → bottom ≤ length m.blocks → Later bottom (put_cases low kind ks otherwise labels m) later → CodesCases low later kind ks otherwise begin qs (put_cases low kind ks otherwise labels m).point
  unfolding put start close
  cases_coded kind [] otherwise labels begin qs m bottom look le l = (label_at labels otherwise, look otherwise, refl)
  cases_coded kind (k ∷ ks) otherwise labels begin qs m bottom look le l =
      let rest = put_cases low kind ks otherwise labels m in
      let on : Grows (close rest) (put_case low kind k labels rest) = grows_put (Put (low + 1) k.value) (grows_put (Compare (low + 1) Equal kind low (low + 1)) (grows_start (Branch (low + 1) (label_at labels k.at) (length rest.blocks)) (stays (close rest)))) in (
        label_at labels k.at,
        length rest.blocks,
        rest.point,
        look k.at,
        closed_begins rest (further_on bottom le (cases_grow low kind ks otherwise labels (stays m))) (later_before on l),
        cases_coded kind ks otherwise labels begin qs m bottom look le (later_before (grows_on (grows_close (stays rest)) on) l),
        refl,
      )

  -- the parts of a loop
  abbrev Test : p.Expr → Made → Made
  Test q m = test_made g first low q (length m.blocks) (close m)

  record Loop (q : p.Expr) (m last : Made) (entry : ℕ) : Type 0 where
    join : Begins later (length m.blocks) m.point
    edge : Begins later (length (close m).blocks) (ends (Turn entry))
    test : Begins later (length (Test q m).blocks) (Test q m).point
    check : CodesTest g first later q low (length (close m).blocks) (length m.blocks) (Test q m).point
    above : Later (suc (length (close m).blocks)) last later
    high : suc (length (close m).blocks) ≤ length (close (Test q m)).blocks

  loop_coded : (q : p.Expr) (m last : Made) (entry bottom : ℕ) → bottom ≤ length m.blocks → Grows (close (Test q m)) last → Later bottom (turn (length (close m).blocks) entry last) later → Loop q m last entry
  unfolding start
  loop_coded q m last entry bottom le on l =
      let k = length (close m).blocks in
      let t = Test q m in
      let edge = start (Turn 0) (close m) in
      let longer : k ≡ length m.blocks + 1 = close_length m in
      let edge_length : length (close edge).blocks ≡ k + 1 = close_length edge in
      let from_edge : Grows (close edge) t = decision_grows g first q low k (length m.blocks) (stays (close edge)) in
      let t_high = from_edge.longer in
      let t_length = close_length t in
      let last_high = on.longer in
      let from_join : Grows (close m) last = grows_on (grows_close (test_grows g first low q (length m.blocks) (stays (close m)))) on in
      let above : Later (suc k) last later = record { each = λ b p more e. unturned last k entry l b p (let a : bottom ≤ b = omega arith in a) (λ same. absurd (omega arith)) e } in
      let t_there : suc k ≤ length t.blocks = omega arith in
      let edge_there : suc k ≤ length (close edge).blocks = omega arith in
      record {
        join = unturned last k entry l (length m.blocks) m.point le (λ same. absurd (omega arith)) (from_join.same (length m.blocks) m.point (closed_at m));
        edge = turned_edge last k entry l (let a : bottom ≤ k = omega arith in a) (let a : k < length last.blocks = omega arith in a);
        test = above.each (length t.blocks) t.point t_there (on.same (length t.blocks) t.point (closed_at t));
        check = test_coded g first later q low k (length m.blocks) (close edge) (suc k) edge_there (later_before (grows_on (grows_close (stays t)) on) above);
        above = above;
        high = omega arith;
      }

  abbrev block_points : p.Stmts → ℕ → ℕ → Made → List Point
  block_points p.no_stmts breaks continues m = []
  block_points (p.more_stmts a rest) breaks continues m = (make_block g first low os rest breaks continues m).point ∷ block_points rest breaks continues m

  abbrev labelled_points : p.Stmts → ℕ → ℕ → Made → List Point
  labelled_points p.no_stmts breaks continues m = []
  labelled_points (p.more_stmts a rest) breaks continues m = (make_labelled g first low os rest breaks continues m).point ∷ labelled_points rest breaks continues m

  abbrev Made_of : p.Stmts → ℕ → ℕ → Made → Made
  Made_of ss breaks continues m = make_labelled g first low os ss breaks continues m

  next_grows : (a : p.Stmt) (rest : p.Stmts) (breaks continues : ℕ) (m : Made) → Grows (close (Made_of rest breaks continues m)) (close (Made_of (p.more_stmts a rest) breaks continues m))
  next_grows a rest breaks continues m =
      grows_close (statement_grows g first low os a breaks continues (stays (close (Made_of rest breaks continues m))))

  lookup : (ss : p.Stmts) (breaks continues : ℕ) (m : Made) (bottom : ℕ) → bottom ≤ length m.blocks → Later bottom (close (Made_of ss breaks continues m)) later → Lookup (labels_of g first low os ss breaks continues m) (Made_of ss breaks continues m).point (labelled_points ss breaks continues m)
  lookup p.no_stmts breaks continues m bottom le l k =
      subst (λ n. Begins later n m.point) (sym (label_only (length m.blocks) k)) (closed_begins m le l)
  lookup (p.more_stmts a rest) breaks continues m bottom le l zero =
      let n = Made_of (p.more_stmts a rest) breaks continues m in
      let far = further_on bottom le (labelled_grows g first low os (p.more_stmts a rest) breaks continues (stays m)) in
      subst (λ i. Begins later i n.point) (sym (label_first (length n.blocks) (labels_of g first low os rest breaks continues m))) (closed_begins n far l)
  lookup (p.more_stmts a p.no_stmts) breaks continues m bottom le l (suc k) =
      let n = Made_of (p.more_stmts a p.no_stmts) breaks continues m in
      subst (λ i. Begins later i m.point) (sym (label_next (length n.blocks) (length m.blocks) [] k))
      (lookup p.no_stmts breaks continues m bottom le (later_before (next_grows a p.no_stmts breaks continues m) l) k)
  lookup (p.more_stmts a (p.more_stmts b rest)) breaks continues m bottom le l (suc k) =
      let n = Made_of (p.more_stmts a (p.more_stmts b rest)) breaks continues m in
      let o = Made_of (p.more_stmts b rest) breaks continues m in
      subst (λ i. Begins later i (start_at o.point (labelled_points (p.more_stmts b rest) breaks continues m) k)) (sym (label_next (length n.blocks) (length o.blocks) (labels_of g first low os rest breaks continues m) k))
      (lookup (p.more_stmts b rest) breaks continues m bottom le (later_before (next_grows a (p.more_stmts b rest) breaks continues m) l) k)

  mutual
    unfolding close start

    pub statement_coded : (a : p.Stmt) (breaks continues : ℕ) (m : Made) (bottom : ℕ) → bottom ≤ length m.blocks → Later bottom (make_statement g first low os a breaks continues m) later → CodesStatement g first low objects later a breaks continues (make_statement g first low os a breaks continues m).point m.point
    statement_coded (p.Do e) breaks continues m bottom le l = coded g first later e low (low + 1) m bottom le l
    statement_coded (p.Forget x) breaks continues m bottom le l = refl
    statement_coded (p.Initialise x count ps) breaks continues m bottom le l =
        let rest = put_rest low (first + x) (given_offsets ps) (cells_there (slice_get os x)) m in (
          rest.point,
          pieces_coded (first + x) ps rest bottom (further_on bottom le (rest_grows low (first + x) (given_offsets ps) (cells_there (slice_get os x)) (stays m))) l,
          subst (λ cells. CodesRest low (first + x) (given_offsets ps) cells rest.point m.point) (cells_same objects os x are) (rest_coded low (first + x) (given_offsets ps) (cells_there (slice_get os x)) m),
        )
    statement_coded (p.Block ss) breaks continues m bottom le l = (block_points ss breaks continues m, block_coded ss breaks continues m bottom le l)
    statement_coded (p.If q a b) breaks continues m bottom le l =
        let other = make_statement g first low os b breaks continues (close m) in
        let begun = start (Jump (length m.blocks)) (close other) in
        let one = make_statement g first low os a breaks continues begun in
        let last : Grows (close one) (make_test g first q low (length one.blocks) (length other.blocks) (close one)) = decision_grows g first q low (length one.blocks) (length other.blocks) (stays (close one)) in
        let middle : Grows (close other) (close one) = grows_close (statement_grows g first low os a breaks continues (grows_start (Jump (length m.blocks)) (stays (close other)))) in
        let begin : Grows (close m) (close other) = grows_close (statement_grows g first low os b breaks continues (stays (close m))) in
        let to_other : Grows m other = statement_grows g first low os b breaks continues (grows_close (stays m)) in
        let to_begun : Grows m begun = grows_start (Jump (length m.blocks)) (grows_close to_other) in
        let to_one : Grows m one = statement_grows g first low os a breaks continues to_begun in
        let joined : Grows m (close m) = grows_close (stays m) in (
          length m.blocks,
          length one.blocks,
          length other.blocks,
          one.point,
          other.point,
          closed_begins m le (later_before (grows_on begin (grows_on middle last)) l),
          closed_begins one (further_on bottom le to_one) (later_before last l),
          closed_begins other (further_on bottom le to_other) (later_before (grows_on middle last) l),
          test_coded g first later q low (length one.blocks) (length other.blocks) (close one) bottom (further_on bottom le (grows_close to_one)) l,
          statement_coded a breaks continues begun bottom (further_on bottom le to_begun) (later_before (grows_on (grows_close (stays one)) last) l),
          statement_coded b breaks continues (close m) bottom (further_on bottom le joined) (later_before (grows_on (grows_close (stays other)) (grows_on middle last)) l),
        )
    statement_coded (p.While q a) breaks continues m bottom le l =
        let j = length m.blocks in
        let k = length (close m).blocks in
        let test = Test q m in
        let h = length test.blocks in
        let body = make_statement g first low os a j h (close test) in
        let last = close body in
        let to_body : Grows (close test) body = statement_grows g first low os a j h (stays (close test)) in
        let loop = loop_coded q m last (length body.blocks) bottom le (grows_close to_body) (later_started (Jump h) (turn k (length body.blocks) last) l) in (
          j,
          k,
          h,
          length body.blocks,
          test.point,
          body.point,
          loop.join,
          loop.edge,
          loop.test,
          loop.above.each (length body.blocks) body.point (further_on (suc k) loop.high to_body) (closed_at body),
          refl,
          loop.check,
          statement_coded a j h (close test) (suc k) loop.high (later_before (grows_close (stays body)) loop.above),
        )
    statement_coded (p.DoWhile a q) breaks continues m bottom le l =
        let j = length m.blocks in
        let k = length (close m).blocks in
        let test = Test q m in
        let h = length test.blocks in
        let body = make_statement g first low os a j h (close test) in
        let last = close body in
        let to_body : Grows (close test) body = statement_grows g first low os a j h (stays (close test)) in
        let loop = loop_coded q m last (length body.blocks) bottom le (grows_close to_body) (later_started (Jump k) (turn k (length body.blocks) last) l) in (
          j,
          k,
          h,
          length body.blocks,
          test.point,
          body.point,
          loop.join,
          loop.edge,
          loop.test,
          loop.above.each (length body.blocks) body.point (further_on (suc k) loop.high to_body) (closed_at body),
          refl,
          loop.check,
          statement_coded a j h (close test) (suc k) loop.high (later_before (grows_close (stays body)) loop.above),
        )
    statement_coded (p.For a q step c) breaks continues m bottom le l =
        let j = length m.blocks in
        let k = length (close m).blocks in
        let test = Test q m in
        let h = length test.blocks in
        let next = make g first step low (low + 1) (close test) in
        let i = length next.blocks in
        let body = make_statement g first low os c j i (close next) in
        let last = close body in
        let begun = start (Jump h) (turn k (length body.blocks) last) in
        let to_next : Grows (close test) next = grows g first step low (low + 1) (stays (close test)) in
        let to_body : Grows (close next) body = statement_grows g first low os c j i (stays (close next)) in
        let from_next : Grows next last = grows_on (grows_close (stays next)) (grows_close to_body) in
        let to_last : Grows (close test) last = grows_on to_next from_next in
        let loop = loop_coded q m last (length body.blocks) bottom le to_last (later_started (Jump h) (turn k (length body.blocks) last) (later_before (statement_grows g first low os a breaks continues (stays begun)) l)) in
        let length_k : k ≡ j + 1 = close_length m in
        let behind : length m.blocks ≤ k = omega arith in
        let to_test : Grows m (close test) = grows_close (test_grows g first low q j (grows_close (stays m))) in
        let to_begun : Grows m begun = grows_start (Jump h) (grows_turn k (length body.blocks) behind (grows_on to_test to_last)) in
        let next_high : suc k ≤ length (close next).blocks = further_on (suc k) loop.high (grows_close to_next) in
        let next_there : suc k ≤ length next.blocks = further_on (suc k) loop.high to_next in (
          j,
          k,
          h,
          i,
          length body.blocks,
          test.point,
          next.point,
          body.point,
          loop.join,
          loop.edge,
          loop.test,
          loop.above.each i next.point next_there ((grows_close to_body).same i next.point (closed_at next)),
          loop.above.each (length body.blocks) body.point (further_on (suc k) next_high to_body) (closed_at body),
          statement_coded a breaks continues begun bottom (further_on bottom le to_begun) l,
          loop.check,
          coded g first later step low (low + 1) (close test) (suc k) loop.high (later_before from_next loop.above),
          statement_coded c j i (close next) (suc k) next_high (later_before (grows_close (stays body)) loop.above),
        )
    statement_coded (p.Switch e ks otherwise ss) breaks continues m bottom le l =
        let j = length m.blocks in
        let kind = kind_in (shape_of g e) in
        let labels = labels_of g first low os ss j continues (close m) in
        let labelled = make_labelled g first low os ss j continues (close m) in
        let cases = put_cases low kind ks otherwise labels (close labelled) in
        let joined : Grows m (close m) = grows_close (stays m) in
        let to_labelled : Grows (close m) labelled = labelled_grows g first low os ss j continues (stays (close m)) in
        let to_cases : Grows (close labelled) cases = cases_grow low kind ks otherwise labels (stays (close labelled)) in
        let last : Grows cases (make g first e low (low + 1) cases) = grows g first e low (low + 1) (stays cases) in
        let from_labelled : Grows (close labelled) (make g first e low (low + 1) cases) = grows_on to_cases last in
        let at_labelled = further_on bottom (further_on bottom le joined) (grows_close to_labelled) in (
          j,
          cases.point,
          labelled.point,
          labelled_points ss j continues (close m),
          closed_begins m le (later_before (grows_on (grows_close to_labelled) from_labelled) l),
          coded g first later e low (low + 1) cases bottom (further_on bottom at_labelled to_cases) l,
          cases_coded kind ks otherwise labels labelled.point (labelled_points ss j continues (close m)) (close labelled) bottom (lookup ss j continues (close m) bottom (further_on bottom le joined) (later_before from_labelled l)) at_labelled (later_before last l),
          labelled_coded ss j continues (close m) bottom (further_on bottom le joined) (later_before (grows_on (grows_close (stays labelled)) from_labelled) l),
        )
    statement_coded p.Break breaks continues m bottom le l = refl
    statement_coded p.Continue breaks continues m bottom le l = refl
    statement_coded (p.Return e) breaks continues m bottom le l = return_coded e m bottom le l

    pub block_coded : (ss : p.Stmts) (breaks continues : ℕ) (m : Made) (bottom : ℕ) → bottom ≤ length m.blocks → Later bottom (make_block g first low os ss breaks continues m) later → CodesStatements g first low objects later ss breaks continues (make_block g first low os ss breaks continues m).point (block_points ss breaks continues m) m.point
    block_coded p.no_stmts breaks continues m bottom le l = refl
    block_coded (p.more_stmts a rest) breaks continues m bottom le l =
        let n = make_block g first low os rest breaks continues m in (
          n.point,
          inl refl,
          statement_coded a breaks continues n bottom (further_on bottom le (block_grows g first low os rest breaks continues (stays m))) l,
          block_coded rest breaks continues m bottom le (later_before (statement_grows g first low os a breaks continues (stays n)) l),
        )

    pub labelled_coded : (ss : p.Stmts) (breaks continues : ℕ) (m : Made) (bottom : ℕ) → bottom ≤ length m.blocks → Later bottom (make_labelled g first low os ss breaks continues m) later → CodesStatements g first low objects later ss breaks continues (make_labelled g first low os ss breaks continues m).point (labelled_points ss breaks continues m) m.point
    labelled_coded p.no_stmts breaks continues m bottom le l = refl
    labelled_coded (p.more_stmts a rest) breaks continues m bottom le l =
        let n = make_labelled g first low os rest breaks continues m in
        let far : bottom ≤ length n.blocks = further_on bottom le (labelled_grows g first low os rest breaks continues (stays m)) in
        let on : Grows (close n) (make_statement g first low os a breaks continues (close n)) = statement_grows g first low os a breaks continues (stays (close n)) in (
          (close n).point,
          inr (length n.blocks, closed_begins n far (later_before on l), refl),
          statement_coded a breaks continues (close n) bottom (further_on bottom far (grows_close (stays n))) l,
          labelled_coded rest breaks continues m bottom le (later_before (grows_on (grows_close (stays n)) on) l),
        )
