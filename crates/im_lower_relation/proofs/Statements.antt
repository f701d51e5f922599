-- Block code of a statement does what the statement does.
use Rattle.std.proofs.Common.{◌≡◌, ℕ, zero, suc, ◌+◌, ◌<◌, ◌≤◌, List, [], ◌∷◌, length, Bool, true, refl, sym, ap, ◌∙◌, subst, arith, ⊎_elim}
use Rattle.std.specs.Prelude.{Option, Some, None, IsTrue, slice_get}
use Rattle.im_num.specs.declared.kind.Kind.{Kind}
use Rattle.im_ctype.specs.declared.cell.Cell.{Cell}
use Rattle.im_store.specs.Checks.{Fine}
use Rattle.im_store.specs.Objects.{Value, Pointer, shape_of as object_shape, Store}
use Rattle.im_store.specs.Access.{taken}
use Rattle.im_store.specs.Pointers.{holds}
use Rattle.im_typed.proofs.SoundExprs.{promoted-integer}
use Rattle.im_typed.specs.Program as q
use Rattle.im_typed.specs.Runs.{World, Answer, Gives, Run, ◌>>=◌, give, starve, with_fuel}
use Rattle.im_typed.specs.Runs as typed
use Rattle.im_typed.specs.Values.{Values, used, cells_of, write_at}
use Rattle.im_typed.specs.Meaning.{Around, local, Flow, Next, Broke, Continued, Returned, after_turn, turns, entered, given_offsets, forgotten, cleared, initialise, value_of, does, does_from}
use Rattle.im_typed.specs.Typing.{Each, IsAccess, IsScalarShape, AreLabels, shape_of, statements_in, AreLaidOut, IsObject, StandAmong, IsTyped, IsPieceOf, IsTypedStmt, AreTyped, cells_at}
use Rattle.im_typed.specs.Sound.{IsSoundWorld, AreValues, Fits, FlowFits}
use Rattle.im_typed.proofs.Sounds.{right-give}
use Rattle.im_typed.proofs.SoundExprs.{there}
use Rattle.im_typed.proofs.SoundCalls.{each-at}
use Rattle.im_typed.proofs.SoundCells.{right-write}
use Rattle.im_typed.proofs.SoundStmts.{right-does}
use Rattle.im_typed.proofs.Related.{rel-give}
use Rattle.im_typed.proofs.Parts.{rel-write_at}
use Rattle.im_typed.proofs.Induction.{rel-does}
use Rattle.im_block.specs.declared.code.Place.TheVariants.{Local}
use Rattle.im_block.specs.declared.code.Line.TheVariants.{Write}
use Rattle.im_block.specs.declared.code.Exit.TheVariants.{Jump, Turn, Return}
use Rattle.im_block.specs.declared.code.Block.{Block}
use Rattle.im_block.specs.declared.unit.Registers.TheVariants.{Virtual}
use Rattle.im_block.specs.declared.unit.Function.{Function}
use Rattle.im_block.specs.declared.unit.Unit.{Unit as Code}
use Rattle.im_block.specs.Meaning as m
use Rattle.im_block.specs.Meaning.{Setting, Frame, State}
use Rattle.im_lower_relation.specs.Codes.{Point, before, ends, Begins, object_size, fills, Codes, CodesTest}
use Rattle.im_lower_relation.specs.Statements.{start_at, kind_in, Passes, CodesCases, CodesPiece, CodesPieces, CodesRest, CodesStatement, CodesStatements}
use Rattle.im_lower_relation.specs.Agrees.{Agrees, Home, Mark, moved, at, Follows, Does, HasOne, CameAs}
use Rattle.im_lower_relation.proofs.Steps.{Right, does-later, does-bind, does-checked, joined, does-weaker}
use Rattle.im_lower_relation.proofs.Uses.{does-jump, does-arm, does-turn, stands, does-number}
use Rattle.im_lower_relation.proofs.Operands.{integer-shape, scalar-shape}
use Rattle.im_lower_relation.proofs.Cells.{write-line}
use Rattle.im_lower_relation.proofs.Ready.{Ready, Works, ready-known, ready-took, right-of, right-at}
use Rattle.im_lower_relation.proofs.Structs.{if-used}
use Rattle.im_lower_relation.proofs.Groups.{filled-clear, in-right, copy-groups}
use Rattle.im_lower_relation.proofs.Values.{home, used-as, as-shape, lowered, tested, decided as choose}
use Rattle.im_lower_relation.proofs.Flows.{end_of, Left, flow-arm, followed, turned, switched}
use Rattle.im_lower_relation.proofs.Cases.{cases-lead, forgotten-agrees}
use Rattle.im_lower_relation.proofs.Layouts.{cell-inside, cells-found, cells-inside, local-place}
use Rattle.im_lower_relation.proofs.Cleared.{empties, zeroed-agrees}

-- an object has room where some of its cells stand
among-inside : (whole : List Cell) (offset size : ℕ) (cells : List Cell) → 0 < length cells → StandAmong whole offset cells → AreLaidOut 0 size whole → offset ≤ size
among-inside whole offset size [] some among laid = absurd (omega arith)
among-inside whole offset size (c ∷ cs) some among laid = let le = cell-inside 0 size whole (offset + c.offset) c.kind laid among.0 in omega arith

start-same : (s : Point) (qs : List Point) → start_at s qs 0 ≡ s
start-same s [] = refl
start-same s (q ∷ qs) = refl

module _ (u : Code) (g : Setting) (p : q.Prog) (f : q.Func) (c : Around) (bound : ℕ) (works : Works u g p c bound) (k : ℕ) (callers : List Frame) (fn : Function) (is : slice_get u.functions.items k ≡ Some fn) (virtual : fn.registers ≡ Virtual) (low : ℕ) (objects : Each {A = q.LocalObject} (λ o. IsObject o.size o.cells) f.objects) where
  abbrev h : Home
  h = home u g p f c bound works k callers fn is virtual

  abbrev blocks : List Block
  blocks = fn.blocks.items

  abbrev IsReady : typed.State → Store → Type 0
  IsReady s store = Ready p f c bound s store

  -- an expression, into the first register
  value : (e : q.Expr) (entry next : Point) → IsTyped p f e → Codes p c.first blocks e low (low + 1) entry next
      → (n : Mark) (registers : ℕ → Value) (store : Store) (s : typed.State) → IsReady s store → Does u g p h next (at h n entry registers store s) (CameAs (shape_of p e) registers low (low + 1)) (value_of c e s)
  value e entry next t codes n registers store s ready =
      lowered u g p f c bound works k callers fn is virtual e low (low + 1) entry next (omega arith) t codes n registers store s ready

  right : {store : Store} (e : q.Expr) (s : typed.State) → IsTyped p f e → IsReady s store → Right p.statics s (Fits (shape_of p e)) (value_of c e s)
  right e s t r = right-of p f c bound works.right works.tame e s t r

  right-as : {store : Store} {shape : Option q.Access} (e : q.Expr) (s : typed.State) → shape_of p e ≡ shape → IsTyped p f e → IsReady s store → Right p.statics s (Fits shape) (value_of c e s)
  right-as e s same t r = right-at p f c bound works.right works.tame e s same t r

  right-statement : {store : Store} (st : q.Stmt) (breaks continues : Bool) (s : typed.State) → IsTypedStmt p f breaks continues st → IsReady s store → Right p.statics s (FlowFits f.result) (does c bound st s)
  right-statement st breaks continues s t r = record {
    right = right-does p f c works.right bound st breaks continues s t r.sane r.here;
    spends = (rel-does 0 0 c.activation c.depth c.first c.capacity c.calls c.calls c.operates c.operates works.tame.calls works.tame.operates bound bound (omega arith) (omega arith) st).tame.by s;
  }

  -- a test decides which of two blocks is next
  decided : {P : Flow → typed.State → (ℕ → Value) → Store → Type 0} {next : Flow → Point} (e : q.Expr) (x y : ℕ) (entry one other : Point) (n : Mark) (registers : ℕ → Value) (store : Store) (s : typed.State) (a b : Run Flow)
      → IsTyped p f e → IsScalarShape (shape_of p e) → CodesTest p c.first blocks e low x y entry → Begins blocks x one → Begins blocks y other → IsReady s store
      → ((i : Mark) (rs : ℕ → Value) (left : Store) (t : typed.State) → IsReady t left → t.fuel ≤ s.fuel → Follows u g p h next (at h i one rs left t) P (a t))
      → ((i : Mark) (rs : ℕ → Value) (left : Store) (t : typed.State) → IsReady t left → t.fuel ≤ s.fuel → Follows u g p h next (at h i other rs left t) P (b t))
      → Follows u g p h next (at h n entry registers store s) P (typed.goes_on (typed.goes_on (value_of c e s) used) (λ v. typed.either (holds v) a b))
  decided e x y entry one other n registers store s a b t scalar codes begins_one begins_other ready held failed =
      choose u g p f c bound works k callers fn is virtual e low entry one other n registers store s a b
      (tested u g p f c bound works k callers fn is virtual e low x y entry one other t scalar codes begins_one begins_other) ready
      (λ i rs left v behind. held i rs left v behind.ready behind.spent)
      (λ i rs left v behind. failed i rs left v behind.ready behind.spent)

  -- a loop from its test on. inner is where a `continue` goes on, t what follows
  module _ (e : q.Expr) (turn l b : ℕ) (j : ℕ) (test inner body t out again : Point) (step : Run Values) (run : Run Flow) (P : World → Values → Type 0)
      (typed_test : IsTyped p f e) (scalar : IsScalarShape (shape_of p e)) (codes : CodesTest p c.first blocks e low turn j test)
      (begins_next : Begins blocks j t) (begins_turn : Begins blocks turn (ends (Turn b))) (begins_body : Begins blocks b body) (begins_inner : Begins blocks l inner)
      (right_body : (store : Store) (s : typed.State) → IsReady s store → Right p.statics s (FlowFits f.result) (run s))
      (does_body : (n : Mark) (registers : ℕ → Value) (store : Store) (s : typed.State) → IsReady s store → Follows u g p h (end_of low (ends (Jump l)) t inner) (at h n body registers store s) (Left low) (run s))
      (right_step : (store : Store) (s : typed.State) → IsReady s store → Right p.statics s P (step s))
      (does_step : (n : Mark) (registers : ℕ → Value) (store : Store) (s : typed.State) → IsReady s store → Does u g p h test (at h n inner registers store s) (λ (vs : Values) v rs left. Agrees v.world.store left) (step s)) where
    -- the body, with a unit of fuel taken
    pub entered-body : (next : Run Flow) (n : Mark) (registers : ℕ → Value) (store : Store) (s : typed.State) → IsReady s store
        → ((i : Mark) (rs : ℕ → Value) (left : Store) (v : typed.State) → IsReady v left → v.fuel < s.fuel → Follows u g p h (end_of low t out again) (at h i inner rs left v) (Left low) (next v))
        → Follows u g p h (end_of low t out again) (at h n (ends (Turn b)) registers store s) (Left low) (with_fuel (run >>= (λ flow. after_turn flow next)) s)
    entered-body next n registers store s ready go =
        does-turn u g p h fn is b body n registers store s.world s.fuel _ begins_body (λ left e.
        let few = ready.fuel in
        let began : typed.State = record { world = s.world; fuel = left } in
        let one : IsReady began store = record { sane = ready.sane; here = ready.here; depth = ready.depth; fuel = omega arith; agrees = ready.agrees; statics = ready.statics; laid = ready.laid; numbered = ready.numbered } in
        does-bind u g p h (joined u g p h (right_body store began one) (does_body (moved n b) registers store began one))
        (λ flow v n₁ after₁ left₁ k.
        let spent = k.0.spent in
        turned u g p h fn is low flow l inner t out again n₁ after₁ left₁ v next begins_inner k.1
        (λ i. go i after₁ left₁ v (ready-known p f c bound one k.0 k.1.agrees) (omega arith))))

    pub loop : (m : ℕ) (n : Mark) (registers : ℕ → Value) (store : Store) (s : typed.State) → s.fuel ≤ m → IsReady s store
        → Follows u g p h (end_of low t out again) (at h n test registers store s) (Left low) (turns m (value_of c e) run step s)
    loop zero n registers store s few ready =
        decided e turn j test (ends (Turn b)) t n registers store s _ _ typed_test scalar codes begins_turn begins_next ready
        (λ i rs left v r spent. does-turn u g p h fn is b body i rs left v.world v.fuel starve begins_body (λ rest e. absurd (omega arith)))
        (λ i rs left v r spent. stands u g p h (end_of low t out again) i rs left v Next (record { agrees = r.agrees; has = tt }))
    loop (suc m) n registers store s few ready =
        decided e turn j test (ends (Turn b)) t n registers store s _ _ typed_test scalar codes begins_turn begins_next ready
        (λ i rs left v r spent.
        entered-body (step >>= (λ _. turns m (value_of c e) run step)) i rs left v r (λ i₁ rs₁ left₁ w r₁ less.
        does-bind u g p h (joined u g p h (right_step left₁ w r₁) (does_step i₁ rs₁ left₁ w r₁))
        (λ vs x i₂ rs₂ left₂ k. let more = k.0.spent in loop m i₂ rs₂ left₂ x (omega arith) (ready-known p f c bound r₁ k.0 k.1))))
        (λ i rs left v r spent. stands u g p h (end_of low t out again) i rs left v Next (record { agrees = r.agrees; has = tt }))

  -- one point goes on at another
  passes : {next : Flow → Point} {r : Answer Flow} (x t : Point) → Passes low blocks x t → (n : Mark) (registers : ℕ → Value) (store : Store) (s : typed.State)
      → ((j : Mark) → Follows u g p h next (at h j t registers store s) (Left low) r) → Follows u g p h next (at h n x registers store s) (Left low) r
  passes {next = next} {r = r} x t through n registers store s go =
      ⊎_elim
      (λ e. subst (λ y. Follows u g p h next (at h n y registers store s) (Left low) r) (sym e) (go n))
      (λ i. subst (λ y. Follows u g p h next (at h n y registers store s) (Left low) r) (sym i.2) (does-jump u g p h fn is i.0 t n registers store s i.1 (go (moved n i.0)))) through

  nothing : (s : typed.State) → IsSoundWorld p.statics s.world → Right {A = Values} p.statics s (λ w vs. Unit {0}) (Gives [] s)
  nothing s sane = record { right = right-give p.statics s [] sane tt; spends = (rel-give {A = Values} {k = 0} {b = 0} []).tame.by s }

  -- a value that is used is written to a local, and what comes then
  stored : {A : Type 0} {P : A → typed.State → (ℕ → Value) → Store → Type 0} (next : A → Point) (x offset access : ℕ) (kind : Kind) (t : Point) (vs : Values) (then : Values → Run A) (n : Mark) (registers : ℕ → Value) (store : Store) (s : typed.State)
      → (o : q.LocalObject) → slice_get f.objects x ≡ Some o → offset ≤ o.size → Fits (Some (q.Scalar kind)) s.world vs → HasOne vs (registers low) → IsReady s store
      → ((ws : Values) (v : typed.State) (i : Mark) (rs : ℕ → Value) (left : Store) → IsReady v left → Follows u g p h next (at h i t rs left v) P (then ws v))
      → Follows u g p h next (at h n (before (Write (Local (c.first + x) offset) kind low access) t) registers store s) P
      (typed.goes_on (used vs s) (λ _. write_at (q.Scalar kind) (Pointer (local c x) offset) vs >>= then))
  stored next x offset access kind t [] then n registers store s o found inside fits has ready go = record { by = tt }
  stored next x offset access kind t (w ∷ ws) then n registers store s o found inside fits has ready go =
      does-checked u g p h (taken s.world.store w) s _ (λ a e.
      let is : m.place_of (Local (c.first + x) offset) h.active registers store ≡ Fine (Pointer (local c x) offset) =
      local-place store (local c x) (object_shape o.size o.cells) offset (ready.agrees.shapes (local c x) (object_shape o.size o.cells) (ready.here.live x o found)) inside in
      does-bind u g p h
      (joined u g p h (right-writing (Pointer (local c x) offset) kind w ws s fits ready.sane)
      (write-line u g p h (Pointer (local c x) offset) (Local (c.first + x) offset) kind access low n t registers store w ws s is ready.agrees fits.0 has))
      (λ vs v n₁ after left k. go vs v n₁ after left (ready-known p f c bound ready k.0 k.1.agrees)))
    where
      right-writing : (at : Value) (kind : Kind) (w : Value) (ws : Values) (s : typed.State) → Fits (Some (q.Scalar kind)) s.world (w ∷ ws) → IsSoundWorld p.statics s.world → Right p.statics s (Fits (Some (q.Scalar kind))) (write_at (q.Scalar kind) at (w ∷ ws) s)
      right-writing at kind w ws s fits sane = record {
        right = right-write p.statics (q.Scalar kind) at (w ∷ ws) s sane (fits.0, subst (λ l. AreValues s.world.activations s.world.store [] l) (sym fits.1) tt);
        spends = (rel-write_at {k = 0} {b = 0} (q.Scalar kind) at (w ∷ ws)).tame.by s;
      }

  -- one expression of an initialiser, and what comes then
  piece : {A : Type 0} {P : A → typed.State → (ℕ → Value) → Store → Type 0} (next : A → Point) (x offset : ℕ) (access : q.Access) (e : q.Expr) (entry t : Point) (then : Values → Run A) (n : Mark) (registers : ℕ → Value) (store : Store) (s : typed.State)
      → (o : q.LocalObject) → slice_get f.objects x ≡ Some o → AreLaidOut 0 o.size o.cells → IsAccess access → StandAmong o.cells offset (cells_of access) → IsTyped p f e → shape_of p e ≡ Some access → CodesPiece p c.first low f.objects blocks (c.first + x) offset access e entry t → IsReady s store
      → ((ws : Values) (v : typed.State) (i : Mark) (rs : ℕ → Value) (left : Store) → IsReady v left → Follows u g p h next (at h i t rs left v) P (then ws v))
      → Follows u g p h next (at h n entry registers store s) P (typed.goes_on (value_of c e s) (λ vs. used vs >>= (λ _. write_at access (Pointer (local c x) offset) vs >>= then)))
  piece next x offset (q.Scalar kind) e entry t then n registers store s o found laid cell among typed_one shape codes ready go =
      does-bind u g p h
      (joined u g p h (right-as e s shape typed_one ready)
      (as-shape u g p f c bound works k callers fn is virtual shape (value e entry (before (Write (Local (c.first + x) offset) kind low codes.0) t) typed_one codes.1 n registers store s ready)))
      (λ vs v n₁ after left k.
      stored next x offset codes.0 kind t vs then n₁ after left v o found (let inside = cell-inside 0 o.size o.cells (offset + 0) kind laid among.0 in omega arith) k.0.fits k.1.has (ready-known p f c bound ready k.0 k.1.agrees) go)
  piece {P = P} next x offset (q.Struct count cells) e entry t then n registers store s o found laid access among typed_one shape codes ready go =
      let place = Local (c.first + x) offset in
      let many = access.0 in
      let some = access.1 in
      let inside = among-inside o.cells offset o.size cells (omega arith) among laid in
      does-bind u g p h
      (joined u g p h (right-as e s shape typed_one ready)
      (as-shape u g p f c bound works k callers fn is virtual shape (value e entry codes.0 typed_one codes.3 n registers store s ready)))
      (λ vs v n₁ after left k.
      let one = ready-known p f c bound ready k.0 k.1.agrees in
      if-used vs v (write_at (q.Struct count cells) (Pointer (local c x) offset) vs >>= then)
      (λ r. Follows u g p h next (at h n₁ codes.0 after left v) P r) (λ why. record { by = tt })
      (does-bind u g p h
      (joined u g p h
      (record {
        right = right-write p.statics (q.Struct count cells) (Pointer (local c x) offset) vs v one.sane k.0.fits;
        spends = (rel-write_at {k = 0} {b = 0} (q.Struct count cells) (Pointer (local c x) offset) vs).tame.by v;
      })
      (copy-groups u g p h n₁ v (Pointer (local c x) offset) place count 1048576 codes.1 cells vs low codes.0 t after left
      (λ mid lf rs same kept ag. local-place lf (local c x) (object_shape o.size o.cells) offset (ag.shapes (local c x) (object_shape o.size o.cells) (same (local c x) ∙ one.here.live x o found)) inside)
      one.agrees access.2 codes.4 k.1.has k.0.fits
      (in-right codes.2 (λ fill y i target. filled-clear v.world.store (local c x) o.size offset o.cells cells vs k.1.has.0 k.1.has.1 y i (one.here.live x o found) laid inside among
      (ap (λ r. fills (object_size r) cells) (sym (one.numbered x o found)) ∙ fill) k.1.has.3 (omega arith) target))))
      (λ ws y i rs left₂ z. go ws y i rs left₂ (ready-known p f c bound one z.0 z.1.agrees))))

  -- an initialiser's expressions
  pieces : (x : ℕ) (o : q.LocalObject) (ps : List q.Piece) (entry next : Point) → slice_get f.objects x ≡ Some o → AreLaidOut 0 o.size o.cells → Each (IsPieceOf p f o.cells) ps → CodesPieces p c.first low f.objects blocks (c.first + x) ps entry next
      → (n : Mark) (registers : ℕ → Value) (store : Store) (s : typed.State) → IsReady s store → Does u g p h next (at h n entry registers store s) (λ (a : Unit {0}) v rs left. IsReady v left) (initialise c (local c x) ps s)
  pieces x o [] entry next found laid t codes n registers store s ready =
      subst (λ y. Does u g p h next (at h n y registers store s) (λ (a : Unit {0}) v rs left. IsReady v left) (initialise c (local c x) [] s)) (sym codes)
      (stands u g p h (λ _. next) n registers store s tt ready)
  pieces x o (r ∷ rs) entry next found laid t codes n registers store s ready =
      piece (λ _. next) x r.offset r.access r.value entry codes.0 (λ _. initialise c (local c x) rs) n registers store s o found laid t.0.0 t.0.3 t.0.1 t.0.2 codes.1 ready
      (λ ws v i after left one. pieces x o rs codes.0 next found laid t.1 codes.2 i after left v one)

  mutual
    pub statement : (st : q.Stmt) (breaks continues : Bool) (b d : ℕ) (out again entry next : Point) → (IsTrue breaks → Begins blocks b out) → (IsTrue continues → Begins blocks d again)
        → IsTypedStmt p f breaks continues st → CodesStatement p c.first low f.objects blocks st b d entry next
        → (n : Mark) (registers : ℕ → Value) (store : Store) (s : typed.State) → IsReady s store
        → Follows u g p h (end_of low next out again) (at h n entry registers store s) (Left low) (does c bound st s)
    statement (q.Do e) breaks continues b d out again entry next bb bd t codes n registers store s ready =
        does-bind u g p h (value e entry next t codes n registers store s ready)
        (λ vs v n₁ after left came. stands u g p h (end_of low next out again) n₁ after left v Next (record { agrees = came.agrees; has = tt }))
    statement (q.Forget x) breaks continues b d out again entry next bb bd t codes n registers store s ready =
        let v : typed.State = record { world = record s.world { store = forgotten (local c x) s.world.store }; fuel = s.fuel } in
        subst (λ y. Follows u g p h (end_of low next out again) (at h n y registers store s) (Left low) (does c bound (q.Forget x) s)) (sym codes)
        (stands u g p h (end_of low next out again) n registers store v Next (record { agrees = forgotten-agrees s.world.store store (local c x) ready.agrees; has = tt }))
    statement (q.Initialise x count ps) breaks continues b d out again entry next bb bd t codes n registers store s ready =
        let found = there f.objects x t.0 in
        let o : q.LocalObject = found.0 in
        let same : cells_at (slice_get f.objects x) ≡ o.cells = ap cells_at found.1 in
        let laid : AreLaidOut 0 o.size o.cells = (each-at (λ (i : q.LocalObject). IsObject i.size i.cells) f.objects x o objects found.1).1 in
        let given : List ℕ = given_offsets ps in
        let rest : CodesRest low (c.first + x) given o.cells codes.0 next = subst (λ l. CodesRest low (c.first + x) given l codes.0 next) same codes.2 in
        does-bind u g p h (pieces x o ps entry codes.0 found.1 laid (subst (λ l. Each (IsPieceOf p f l) ps) same t.2) codes.1 n registers store s ready)
        (λ _ v n₁ after left one.
        let w : typed.State = record { world = record v.world { store = cleared given (local c x) v.world.store }; fuel = v.fuel } in
        let shape = one.here.live x o found.1 in
        let done = empties u g p h n₁ v low (c.first + x) o.size given o.cells o.cells codes.0 next after v.world.store left (cells-found 0 o.size o.cells laid) (cells-inside 0 o.size o.cells laid) shape rest one.agrees in
        does-later u g p h done.leads
        (stands u g p h (end_of low next out again) n₁ done.registers done.left w Next
        (record { agrees = zeroed-agrees v.world.store done.left given (local c x) o.size o.cells laid shape done.agrees; has = tt })))
    statement (q.Block ss) breaks continues b d out again entry next bb bd t codes n registers store s ready =
        subst (λ y. Follows u g p h (end_of low next out again) (at h n y registers store s) (Left low) (does_from c bound 0 ss s)) (start-same entry codes.0)
        (statements 0 ss breaks continues b d out again entry codes.0 next bb bd t codes.1 n registers store s ready)
    statement (q.If e x y) breaks continues b d out again entry next bb bd t codes n registers store s ready =
        decided e codes.1 codes.2 entry codes.3 codes.4 n registers store s (does c bound x) (does c bound y) t.0.0 t.0.1 codes.8 codes.6 codes.7 ready
        (λ i rs left v r spent. flow-arm u g p h fn is low codes.0 next out again codes.5
        (statement x breaks continues b d out again codes.3 (ends (Jump codes.0)) bb bd t.1 codes.9 i rs left v r))
        (λ i rs left v r spent. flow-arm u g p h fn is low codes.0 next out again codes.5
        (statement y breaks continues b d out again codes.4 (ends (Jump codes.0)) bb bd t.2 codes.10 i rs left v r))
    statement (q.While e x) breaks continues b d out again entry next bb bd t codes n registers store s ready =
        subst (λ y. Follows u g p h (end_of low next out again) (at h n y registers store s) (Left low) (does c bound (q.While e x) s)) (sym codes.10)
        (does-jump u g p h fn is codes.2 codes.4 n registers store s codes.8
        (loop e codes.1 codes.2 codes.3 codes.0 codes.4 codes.4 codes.5 next out again (give []) (does c bound x) (λ w vs. Unit {0})
        t.0.0 t.0.1 codes.11 codes.6 codes.7 codes.9 codes.8
        (λ left v r. right-statement x true true v t.1 r)
        (λ i rs left v r. statement x true true codes.0 codes.2 next codes.4 codes.5 (ends (Jump codes.2)) (λ _. codes.6) (λ _. codes.8) t.1 codes.12 i rs left v r)
        (λ left v r. nothing v r.sane)
        (λ i rs left v r. stands u g p h (λ _. codes.4) i rs left v [] r.agrees)
        bound (moved n codes.2) registers store s ready.fuel ready))
    statement (q.DoWhile x e) breaks continues b d out again entry next bb bd t codes n registers store s ready =
        subst (λ y. Follows u g p h (end_of low next out again) (at h n y registers store s) (Left low) (does c bound (q.DoWhile x e) s)) (sym codes.10)
        (does-jump u g p h fn is codes.1 (ends (Turn codes.3)) n registers store s codes.7
        (entered-body e codes.1 codes.2 codes.3 codes.0 codes.4 codes.4 codes.5 next out again (give []) (does c bound x) (λ w vs. Unit {0})
        t.1.0 t.1.1 codes.11 codes.6 codes.7 codes.9 codes.8
        (λ left v r. right-statement x true true v t.0 r)
        (λ i rs left v r. statement x true true codes.0 codes.2 next codes.4 codes.5 (ends (Jump codes.2)) (λ _. codes.6) (λ _. codes.8) t.0 codes.12 i rs left v r)
        (λ left v r. nothing v r.sane)
        (λ i rs left v r. stands u g p h (λ _. codes.4) i rs left v [] r.agrees)
        (turns bound (value_of c e) (does c bound x) (give [])) (moved n codes.1) registers store s ready
        (λ i rs left v r less.
        loop e codes.1 codes.2 codes.3 codes.0 codes.4 codes.4 codes.5 next out again (give []) (does c bound x) (λ w vs. Unit {0})
        t.1.0 t.1.1 codes.11 codes.6 codes.7 codes.9 codes.8
        (λ left v r. right-statement x true true v t.0 r)
        (λ i rs left v r. statement x true true codes.0 codes.2 next codes.4 codes.5 (ends (Jump codes.2)) (λ _. codes.6) (λ _. codes.8) t.0 codes.12 i rs left v r)
        (λ left v r. nothing v r.sane)
        (λ i rs left v r. stands u g p h (λ _. codes.4) i rs left v [] r.agrees)
        bound i rs left v r.fuel r)))
    statement (q.For x e step y) breaks continues b d out again entry next bb bd t codes n registers store s ready =
        does-bind u g p h
        (joined u g p h (right-statement x breaks continues s t.0 ready)
        (statement x breaks continues b d out again entry (ends (Jump codes.2)) bb bd t.0 codes.13 n registers store s ready))
        (λ flow v n₁ after left k.
        followed u g p h fn is low flow (ends (Jump codes.2)) next out again n₁ after left v _ k.1
        (does-jump u g p h fn is codes.2 codes.5 n₁ after left v codes.10
        (loop e codes.1 codes.3 codes.4 codes.0 codes.5 codes.6 codes.7 next out again (value_of c step) (does c bound y) (Fits (shape_of p step))
        t.1.0 t.1.1 codes.14 codes.8 codes.9 codes.12 codes.11
        (λ left v r. right-statement y true true v t.3 r)
        (λ i rs left v r. statement y true true codes.0 codes.3 next codes.6 codes.7 (ends (Jump codes.3)) (λ _. codes.8) (λ _. codes.11) t.3 codes.16 i rs left v r)
        (λ left v r. right step v t.2 r)
        (λ i rs left v r. does-arm u g p h fn is codes.2 codes.5 codes.10 (does-weaker u g p h (λ vs w after₂ left₂ came. came.agrees) (value step codes.6 (ends (Jump codes.2)) t.2 codes.15 i rs left v r)))
        bound (moved n₁ codes.2) after left v (ready-known p f c bound ready k.0 k.1.agrees).fuel (ready-known p f c bound ready k.0 k.1.agrees))))
    statement (q.Switch e ks otherwise ss) breaks continues b d out again entry next bb bd t codes n registers store s ready =
        let i = integer-shape (shape_of p e) (promoted-integer (shape_of p e) t.1) in
        does-number u g p h i.2
        (used-as u g p f c bound works k callers fn is virtual e s i.1 t.0 ready (value e entry codes.1 t.0 codes.5 n registers store s ready))
        (λ z v n₁ after left hz took.
        let cases : CodesCases low blocks i.0 ks otherwise codes.2 codes.3 codes.1 = subst (λ x. CodesCases low blocks x ks otherwise codes.2 codes.3 codes.1) (ap kind_in i.1) codes.6 in
        let comes = cases-lead u g p h fn is low i.0 ks otherwise (statements_in ss) codes.2 codes.3 codes.1 z n₁ after left v i.2 hz took.has (subst (λ x. AreLabels x (statements_in ss) ks) i.1 t.2) cases in
        does-later u g p h comes.leads
        (does-bind u g p h
        (statements (entered z ks otherwise) ss true continues codes.0 d next again codes.2 codes.3 (ends (Jump codes.0)) (λ _. codes.4) bd t.4 codes.7 comes.mark comes.registers left v (ready-took p f c bound ready took))
        (λ flow w n₂ after₂ left₂ k. switched u g p h fn is low flow codes.0 next out again n₂ after₂ left₂ w codes.4 k)))
    statement q.Break breaks continues b d out again entry next bb bd t codes n registers store s ready =
        subst (λ y. Follows u g p h (end_of low next out again) (at h n y registers store s) (Left low) (does c bound q.Break s)) (sym codes)
        (does-jump u g p h fn is b out n registers store s (bb t)
        (stands u g p h (end_of low next out again) (moved n b) registers store s Broke (record { agrees = ready.agrees; has = tt })))
    statement q.Continue breaks continues b d out again entry next bb bd t codes n registers store s ready =
        subst (λ y. Follows u g p h (end_of low next out again) (at h n y registers store s) (Left low) (does c bound q.Continue s)) (sym codes)
        (does-jump u g p h fn is d again n registers store s (bd t)
        (stands u g p h (end_of low next out again) (moved n d) registers store s Continued (record { agrees = ready.agrees; has = tt })))
    statement (q.Return None) breaks continues b d out again entry next bb bd t codes n registers store s ready =
        subst (λ y. Follows u g p h (end_of low next out again) (at h n y registers store s) (Left low) (does c bound (q.Return None) s)) (sym codes)
        (stands u g p h (end_of low next out again) n registers store s (Returned []) (record { agrees = ready.agrees; has = tt }))
    statement (q.Return (Some e)) breaks continues b d out again entry next bb bd t codes n registers store s ready =
        let kind = scalar-shape (shape_of p e) t.1 in
        does-bind u g p h
        (used-as u g p f c bound works k callers fn is virtual e s kind.1 t.0 ready (value e entry (ends (Return (Some low))) t.0 codes n registers store s ready))
        (λ v w n₁ after left took. stands u g p h (end_of low next out again) n₁ after left w (Returned (v ∷ [])) (record { agrees = took.agrees; has = took.has }))

    -- the statements of a block, from the i-th on
    statements : (i : ℕ) (ss : q.Stmts) (breaks continues : Bool) (b d : ℕ) (out again entry : Point) (qs : List Point) (next : Point) → (IsTrue breaks → Begins blocks b out) → (IsTrue continues → Begins blocks d again)
        → AreTyped p f breaks continues ss → CodesStatements p c.first low f.objects blocks ss b d entry qs next
        → (n : Mark) (registers : ℕ → Value) (store : Store) (s : typed.State) → IsReady s store
        → Follows u g p h (end_of low next out again) (at h n (start_at entry qs i) registers store s) (Left low) (does_from c bound i ss s)
    statements i q.no_stmts breaks continues b d out again entry [] next bb bd t codes n registers store s ready =
        subst (λ y. Follows u g p h (end_of low next out again) (at h n y registers store s) (Left low) (give Next s)) (sym codes)
        (stands u g p h (end_of low next out again) n registers store s Next (record { agrees = ready.agrees; has = tt }))
    statements i q.no_stmts breaks continues b d out again entry (x ∷ xs) next bb bd t codes n registers store s ready = absurd codes
    statements i (q.more_stmts st rest) breaks continues b d out again entry [] next bb bd t codes n registers store s ready = absurd codes
    statements (suc i) (q.more_stmts st rest) breaks continues b d out again entry (x ∷ xs) next bb bd t codes n registers store s ready =
        statements i rest breaks continues b d out again x xs next bb bd t.1 codes.3 n registers store s ready
    statements zero (q.more_stmts st rest) breaks continues b d out again entry (x ∷ xs) next bb bd t codes n registers store s ready =
        does-bind u g p h
        (joined u g p h (right-statement st breaks continues s t.0 ready)
        (statement st breaks continues b d out again entry codes.0 bb bd t.0 codes.2 n registers store s ready))
        (λ flow v n₁ after left k.
        followed u g p h fn is low flow codes.0 next out again n₁ after left v _ k.1
        (passes codes.0 x codes.1 n₁ after left v
        (λ j. subst (λ y. Follows u g p h (end_of low next out again) (at h j y after left v) (Left low) (does_from c bound 0 rest v)) (start-same x xs)
        (statements 0 rest breaks continues b d out again x xs next bb bd t.1 codes.3 j after left v (ready-known p f c bound ready k.0 k.1.agrees)))))
