-- The code of a statement reads none but the parameters' registers first.
use Rattle.std.proofs.Common.{◌≡◌, ℕ, zero, suc, ◌+◌, ◌<◌, ◌≤◌, inl, inr, Bool, true, false, List, [], ◌∷◌, refl, sym, subst, arith}
use Rattle.std.specs.Prelude.{◌==◌, IsTrue, if◌then◌else◌, Option, Some, None, slice_get}
use Rattle.std.proofs.lemmas.Bool.{both_ways}
use Rattle.im_num.specs.declared.kind.Kind.{Kind}
use Rattle.im_num.specs.declared.kind.Kind.TheVariants.{I8, U8, I16, U16, I32, U32, Ptr}
use Rattle.im_ctype.specs.declared.cell.Cell.{Cell}
use Rattle.im_store.specs.declared.operators.Comparison.TheVariants.{Equal}
use Rattle.im_typed.specs.declared.statement.Case.{Case}
use Rattle.im_typed.specs.Program as p
use Rattle.im_typed.specs.Meaning.{is_among, given_offsets}
use Rattle.im_typed.specs.Typing.{shape_of, cells_at, IsTypedStmt, AreTyped}
use Rattle.im_block.specs.declared.code.Place.TheVariants.{Local}
use Rattle.im_block.specs.declared.code.Line.TheVariants.{Put, Compare, Write}
use Rattle.im_block.specs.declared.code.Exit.TheVariants.{Jump, Turn, Branch, Return}
use Rattle.im_block.specs.declared.code.Block.{Block}
use Rattle.im_alloc_relation.specs.Live.{uses, sets}
use Rattle.im_lower_relation.specs.Codes.{Point, before, ends, Begins, Codes, CodesTest}
use Rattle.im_lower_relation.specs.Statements.{zero_line, kind_in, start_at, CodesRest, Passes, CodesCases, CodesPiece, CodesPieces, CodesReturn, CodesStatement, CodesStatements}
use Rattle.im_lower_laws.proofs.Ways.{Or, OrPlace, unplaced, Allows, weaker, lower, sets_none, sets_two, writes, groups_row, at_block, as_turn, jump, branch}
use Rattle.im_lower_laws.proofs.Values.{allows, test_allows}

pub strong : (P : ℕ → Type 0) → ((i : ℕ) → ((m : ℕ) → m < i → P m) → P i) → (i : ℕ) → P i
strong P h i = h i (λ m less. up_to i m less)
  where
    up_to : (i m : ℕ) → m < i → P m
    up_to zero m less = absurd (omega (arith, less))
    up_to (suc i) m less = h m (λ k small. up_to i k (omega (arith, less, small)))

-- the registers below one
abbrev pub Below : ℕ → ℕ → Type 0
Below low v = v < low

zero_uses : (to : ℕ) (kind : Kind) (v : ℕ) → uses (zero_line to kind) v ≡ false
zero_uses to I8 v = refl
zero_uses to U8 v = refl
zero_uses to I16 v = refl
zero_uses to U16 v = refl
zero_uses to I32 v = refl
zero_uses to U32 v = refl
zero_uses to Ptr v = refl

zero_sets : (to : ℕ) (kind : Kind) (v : ℕ) → sets (zero_line to kind) v ≡ (v == to)
zero_sets to I8 v = refl
zero_sets to U8 v = refl
zero_sets to I16 v = refl
zero_sets to U16 v = refl
zero_sets to I32 v = refl
zero_sets to U32 v = refl
zero_sets to Ptr v = refl

-- a place in a local object needs no register
unlocal : (r object offset : ℕ) (P : ℕ → Type 0) (v : ℕ) → Or r (OrPlace (Local object offset) P) v → Or r P v
unlocal r object offset P v (inl y) = inl y
unlocal r object offset P v (inr q) = inr (unplaced P v q)

twice : (r : ℕ) (P : ℕ → Type 0) (v : ℕ) → Or r (Or r P) v → Or r P v
twice r P v (inl y) = inl y
twice r P v (inr q) = q

module _ (low : ℕ) (blocks : List Block) where
  abbrev pub Calm : ℕ → Point → Type 0
  Calm n s = Allows blocks n s (Below low)

  abbrev pub AllCalm : ℕ → List Point → Type 0
  AllCalm n [] = Unit {0}
  AllCalm n (q ∷ qs) = Calm n q × AllCalm n qs

  pub or_low : (n : ℕ) (s : Point) → Calm n s → Allows blocks n s (Or low (Below low))
  or_low n s h = weaker blocks n s (Below low) (Or low (Below low)) h (λ v q. inr q)

  start_calm : (n : ℕ) (start : Point) (qs : List Point) (k : ℕ) → Calm n start → AllCalm n qs → Calm n (start_at start qs k)
  start_calm n start [] k h all = h
  start_calm n start (q ∷ qs) zero h all = h
  start_calm n start (q ∷ qs) (suc k) h all = start_calm n q qs k all.0 all.1

  passes_calm : (n : ℕ) (m q : Point) → Passes low blocks m q → Calm n q → Calm n m
  passes_calm n m q (inl e) h = subst (λ z. Calm n z) (sym e) h
  passes_calm n m q (inr c) h = subst (λ z. Calm n z) (sym c.2) (jump blocks n c.0 q (Below low) c.1 h)

  pub cases_calm : (kind : Kind) (ks : List Case) (otherwise : ℕ) (start : Point) (qs : List Point) (s : Point) (n : ℕ) → CodesCases low blocks kind ks otherwise start qs s → Calm n start → AllCalm n qs → Allows blocks n s (Or low (Below low))
  cases_calm kind [] otherwise start qs s n c h all =
      subst (λ z. Allows blocks n z (Or low (Below low))) (sym c.2)
      (or_low n (ends (Jump c.0)) (jump blocks n c.0 (start_at start qs otherwise) (Below low) c.1 (start_calm n start qs otherwise h all)))
  cases_calm kind (k ∷ ks) otherwise start qs s n c h all =
      let Q : ℕ → Type 0 = Or low (Below low) in
      let found : Allows blocks n (ends (Jump c.0)) Q = or_low n (ends (Jump c.0)) (jump blocks n c.0 (start_at start qs k.at) (Below low) c.3 (start_calm n start qs k.at h all)) in
      let next : Allows blocks n (ends (Jump c.1)) Q = jump blocks n c.1 c.2 Q c.4 (cases_calm kind ks otherwise start qs c.2 n c.5 h all) in
      let test : Allows blocks n (ends (Branch (low + 1) c.0 c.1)) (Or (low + 1) Q) = branch blocks n (low + 1) c.0 c.1 Q found next in
      let compared = sets_two blocks n (Compare (low + 1) Equal kind low (low + 1)) low (low + 1) (low + 1) _ Q (λ v. refl) (λ v. refl) test in
      let label = sets_none blocks n (Put (low + 1) k.value) (low + 1) _ (Or low Q) (λ v. refl) (λ v. refl) compared in
      subst (λ z. Allows blocks n z Q) (sym c.6) (weaker blocks n _ (Or low Q) Q label (λ v q. twice low (Below low) v q))

  pub rest_calm : (object : ℕ) (given : List ℕ) (cells : List Cell) (s t : Point) (n : ℕ) → CodesRest low object given cells s t → Calm n t → Calm n s
  rest_calm object given [] s t n c h = subst (λ z. Calm n z) (sym c) h
  rest_calm object given (x ∷ xs) s t n c h =
      let m = c.0 in
      let after : Calm n m = rest_calm object given xs m t n c.2 h in
      let write = weaker blocks n _ _ (Or low (Below low)) (writes blocks n (Local object x.offset) x.kind low c.1 m (Below low) after) (λ v q. unlocal low object x.offset (Below low) v q) in
      let zeroed : Calm n (before (zero_line low x.kind) (before (Write (Local object x.offset) x.kind low c.1) m)) =
      sets_none blocks n (zero_line low x.kind) low _ (Below low) (λ v. zero_uses low x.kind v) (λ v. zero_sets low x.kind v) write in
      subst (λ z. Calm n z) (sym c.3) (either (is_among x.offset given) m _ after zeroed)
    where
      either : (b : Bool) (one other : Point) → Calm n one → Calm n other → Calm n (if b then one else other)
      either true one other h k = h
      either false one other h k = k

  -- a loop: its test, its edge's block, its body
  module _ (n j k h b : ℕ) (t test body : Point) (at_edge : Begins blocks k (ends (Turn b))) (at_test : Begins blocks h test) (at_body : Begins blocks b body) (at_end : Begins blocks j t) where
    abbrev pub TestCalm : Type 0
    TestCalm = (m : ℕ) → m ≤ n → Calm m (ends (Jump k)) → Calm m (ends (Jump j)) → Calm m test

    abbrev pub BodyCalm : Type 0
    BodyCalm = (m : ℕ) → m ≤ n → Calm m (ends (Jump h)) → Calm m (ends (Jump j)) → Calm m body

    leaves : Calm n t → (m : ℕ) → m ≤ n → Calm m (ends (Jump j))
    leaves out m less = jump blocks m j t (Below low) at_end (lower blocks m n t (Below low) less out)

    edge : BodyCalm → Calm n t → (i : ℕ) → i ≤ n → ((m : ℕ) → m < i → Calm m test) → Calm i (ends (Jump k))
    edge turned out i less rec =
        at_block blocks i k (ends (Turn b)) (Below low) at_edge
        (λ m lm. as_turn blocks m b (Below low) (at_block blocks m b body (Below low) at_body
        (λ q lq. turned q (omega (arith, less, lm, lq)) (at_block blocks q h test (Below low) at_test (λ r lr. rec r (omega (arith, lm, lq, lr)))) (leaves out q (omega (arith, less, lm, lq))))))

    pub loop_calm : TestCalm → BodyCalm → Calm n t → (i : ℕ) → i ≤ n → Calm i test
    loop_calm tested turned out i = strong (λ m. m ≤ n → Calm m test) (λ m rec less. tested m less
        (edge turned out m less (λ q lq. rec q lq (omega (arith, lq, less)))) (leaves out m less)) i

    pub edge_calm : TestCalm → BodyCalm → Calm n t → Calm n (ends (Jump k))
    edge_calm tested turned out = edge turned out n (omega arith) (λ m less. loop_calm tested turned out m (omega (arith, less)))

module _ (g : p.Prog) (f : p.Func) (first low : ℕ) (objects : List p.LocalObject) (blocks : List Block) where
  expression_calm : (e : p.Expr) (s t : Point) (n : ℕ) → Codes g first blocks e low (low + 1) s t → Allows blocks n t (Or low (Below low)) → Calm low blocks n s
  expression_calm e s t n c h = allows g first blocks e low (low + 1) s t n (Below low) c h

  test_calm : (e : p.Expr) (x y : ℕ) (s : Point) (n : ℕ) → CodesTest g first blocks e low x y s → Calm low blocks n (ends (Jump x)) → Calm low blocks n (ends (Jump y)) → Calm low blocks n s
  test_calm e x y s n c h k = test_allows g first blocks e low x y s n (Below low) c h k

  pieces_calm : (object : ℕ) (ps : List p.Piece) (s t : Point) (n : ℕ) → CodesPieces g first low objects blocks object ps s t → Calm low blocks n t → Calm low blocks n s
  pieces_calm object [] s t n c h = subst (λ z. Calm low blocks n z) (sym c) h
  pieces_calm object (q ∷ qs) s t n c h =
      let after : Calm low blocks n c.0 = pieces_calm object qs c.0 t n c.2 h in
      piece q.access c.1 after
    where
      piece : (x : p.Access) → CodesPiece g first low objects blocks object q.offset x q.value s c.0 → Calm low blocks n c.0 → Calm low blocks n s
      piece (p.Scalar kind) d after =
          let write = weaker blocks n _ _ (Or low (Below low)) (writes blocks n (Local object q.offset) kind low d.0 c.0 (Below low) after) (λ v y. unlocal low object q.offset (Below low) v y) in
          expression_calm q.value s _ n d.1 write
      piece (p.Struct count cells) d after =
          let place = weaker blocks n c.0 (Below low) (OrPlace (Local object q.offset) (Below low)) after (λ v y. inr y) in
          let copied = groups_row blocks n low (Local object q.offset) d.1 cells d.0 c.0 (Below low) d.4 place in
          expression_calm q.value s _ n d.3 (weaker blocks n _ _ (Or low (Below low)) copied (λ v y. unlocal low object q.offset (Below low) v y))

  return_calm : (e : Option p.Expr) (s : Point) (n : ℕ) → CodesReturn g first low objects blocks e s → Calm low blocks n s
  return_calm None s n c = subst (λ z. Calm low blocks n z) (sym c) (record { is = λ k v le y. absurd (both_ways false refl y) })
  return_calm (Some e) s n c = expression_calm e s (ends (Return (Some low))) n c (record { is = λ k v le y. inl y })

  mutual
    pub statement_calm : (a : p.Stmt) (bs cs : Bool) (breaks continues : ℕ) (s t : Point) (n : ℕ) → IsTypedStmt g f bs cs a → CodesStatement g first low objects blocks a breaks continues s t → Calm low blocks n t →
        (IsTrue bs → Calm low blocks n (ends (Jump breaks))) → (IsTrue cs → Calm low blocks n (ends (Jump continues))) → Calm low blocks n s
    statement_calm (p.Do e) bs cs breaks continues s t n ty c h hb hc = expression_calm e s t n c (or_low low blocks n t h)
    statement_calm (p.Forget x) bs cs breaks continues s t n ty c h hb hc = subst (λ z. Calm low blocks n z) (sym c) h
    statement_calm (p.Initialise x count ps) bs cs breaks continues s t n ty c h hb hc =
        pieces_calm (first + x) ps s c.0 n c.1 (rest_calm low blocks (first + x) (given_offsets ps) (cells_at (slice_get objects x)) c.0 t n c.2 h)
    statement_calm (p.Block ss) bs cs breaks continues s t n ty c h hb hc = (statements_calm ss bs cs breaks continues s c.0 t n ty c.1 h hb hc).0
    statement_calm (p.If q a b) bs cs breaks continues s t n ty c h hb hc =
        let joined : Calm low blocks n (ends (Jump c.0)) = jump blocks n c.0 t (Below low) c.5 h in
        let one = statement_calm a bs cs breaks continues c.3 (ends (Jump c.0)) n ty.1 c.9 joined hb hc in
        let other = statement_calm b bs cs breaks continues c.4 (ends (Jump c.0)) n ty.2 c.10 joined hb hc in
        test_calm q c.1 c.2 s n c.8 (jump blocks n c.1 c.3 (Below low) c.6 one) (jump blocks n c.2 c.4 (Below low) c.7 other)
    statement_calm (p.While q a) bs cs breaks continues s t n ty c h hb hc =
        let tested : TestCalm low blocks n c.0 c.1 c.2 c.3 t c.4 c.5 c.7 c.8 c.9 c.6 = (λ m less y z. test_calm q c.1 c.0 c.4 m c.11 y z) in
        let turned : BodyCalm low blocks n c.0 c.1 c.2 c.3 t c.4 c.5 c.7 c.8 c.9 c.6 = (λ m less again out. statement_calm a true true c.0 c.2 c.5 (ends (Jump c.2)) m ty.1 c.12 again (λ y. out) (λ y. again)) in
        let calm = loop_calm low blocks n c.0 c.1 c.2 c.3 t c.4 c.5 c.7 c.8 c.9 c.6 tested turned h n (omega arith) in
        subst (λ z. Calm low blocks n z) (sym c.10) (jump blocks n c.2 c.4 (Below low) c.8 calm)
    statement_calm (p.DoWhile a q) bs cs breaks continues s t n ty c h hb hc =
        let tested : TestCalm low blocks n c.0 c.1 c.2 c.3 t c.4 c.5 c.7 c.8 c.9 c.6 = (λ m less y z. test_calm q c.1 c.0 c.4 m c.11 y z) in
        let turned : BodyCalm low blocks n c.0 c.1 c.2 c.3 t c.4 c.5 c.7 c.8 c.9 c.6 = (λ m less again out. statement_calm a true true c.0 c.2 c.5 (ends (Jump c.2)) m ty.0 c.12 again (λ y. out) (λ y. again)) in
        subst (λ z. Calm low blocks n z) (sym c.10) (edge_calm low blocks n c.0 c.1 c.2 c.3 t c.4 c.5 c.7 c.8 c.9 c.6 tested turned h)
    statement_calm (p.For a q after d) bs cs breaks continues s t n ty c h hb hc =
        let tested : TestCalm low blocks n c.0 c.1 c.2 c.4 t c.5 c.7 c.9 c.10 c.12 c.8 = (λ m less y z. test_calm q c.1 c.0 c.5 m c.14 y z) in
        let stepped : (m : ℕ) → Calm low blocks m (ends (Jump c.2)) → Calm low blocks m (ends (Jump c.3)) = (λ m again. jump blocks m c.3 c.6 (Below low) c.11 (expression_calm after c.6 (ends (Jump c.2)) m c.15 (or_low low blocks m (ends (Jump c.2)) again))) in
        let turned : BodyCalm low blocks n c.0 c.1 c.2 c.4 t c.5 c.7 c.9 c.10 c.12 c.8 = (λ m less again out. statement_calm d true true c.0 c.3 c.7 (ends (Jump c.3)) m ty.3 c.16 (stepped m again) (λ y. out) (λ y. stepped m again)) in
        let calm = loop_calm low blocks n c.0 c.1 c.2 c.4 t c.5 c.7 c.9 c.10 c.12 c.8 tested turned h n (omega arith) in
        statement_calm a bs cs breaks continues s (ends (Jump c.2)) n ty.0 c.13 (jump blocks n c.2 c.5 (Below low) c.10 calm) hb hc
    statement_calm (p.Switch e ks otherwise ss) bs cs breaks continues s t n ty c h hb hc =
        let joined : Calm low blocks n (ends (Jump c.0)) = jump blocks n c.0 t (Below low) c.4 h in
        let inner = statements_calm ss true cs c.0 continues c.2 c.3 (ends (Jump c.0)) n ty.4 c.7 joined (λ y. joined) hc in
        expression_calm e s c.1 n c.5 (cases_calm low blocks (kind_in (shape_of g e)) ks otherwise c.2 c.3 c.1 n c.6 inner.0 inner.1)
    statement_calm p.Break bs cs breaks continues s t n ty c h hb hc = subst (λ z. Calm low blocks n z) (sym c) (hb ty)
    statement_calm p.Continue bs cs breaks continues s t n ty c h hb hc = subst (λ z. Calm low blocks n z) (sym c) (hc ty)
    statement_calm (p.Return e) bs cs breaks continues s t n ty c h hb hc = return_calm e s n c

    pub statements_calm : (ss : p.Stmts) (bs cs : Bool) (breaks continues : ℕ) (s : Point) (qs : List Point) (t : Point) (n : ℕ) → AreTyped g f bs cs ss → CodesStatements g first low objects blocks ss breaks continues s qs t → Calm low blocks n t →
        (IsTrue bs → Calm low blocks n (ends (Jump breaks))) → (IsTrue cs → Calm low blocks n (ends (Jump continues))) → Calm low blocks n s × AllCalm low blocks n qs
    statements_calm p.no_stmts bs cs breaks continues s [] t n ty c h hb hc = (subst (λ z. Calm low blocks n z) (sym c) h, tt)
    statements_calm p.no_stmts bs cs breaks continues s (q ∷ qs) t n ty c h hb hc = absurd c
    statements_calm (p.more_stmts a rest) bs cs breaks continues s [] t n ty c h hb hc = absurd c
    statements_calm (p.more_stmts a rest) bs cs breaks continues s (q ∷ qs) t n ty c h hb hc =
        let behind = statements_calm rest bs cs breaks continues q qs t n ty.1 c.3 h hb hc in
        let between = passes_calm low blocks n c.0 q c.1 behind.0 in
        (statement_calm a bs cs breaks continues s c.0 n ty.0 c.2 between hb hc, (behind.0, behind.1))
