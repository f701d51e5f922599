-- Lines and exits of block code, and values that are used.
use Rattle.std.proofs.Common.{◌≡◌, ℕ, zero, suc, ◌<◌, ◌≤◌, ◌==◌, List, [], ◌∷◌, Bool, true, false, refl, sym, ap, ◌∙◌, subst}
use Rattle.std.specs.Prelude.{Some, ℤ, if◌then◌else◌, slice_get}
use Rattle.std.proofs.lemmas.Bool.{eqb-true, eq-eqb}
use Rattle.im_num.specs.declared.kind.Kind.{Kind}
use Rattle.im_num.specs.declared.kind.Kind.TheVariants.{Ptr}
use Rattle.im_num.specs.Kinds.{IsOfKind}
use Rattle.im_store.specs.declared.undefined.Undefined.TheVariants.{DeadPointerRead}
use Rattle.im_store.specs.Checks.{Checked, Fine, Bad, unless}
use Rattle.im_store.specs.Objects.{Value, Number, Null, Pointer, Unset, Store, lives}
use Rattle.im_store.specs.Statics.{StaticObject}
use Rattle.im_store.specs.Access.{taken}
use Rattle.im_store.specs.Pointers.{holds}
use Rattle.im_typed.specs.Program.{Prog, Scalar}
use Rattle.im_typed.specs.Runs.{World, Answer, Gives, Stops, Run, pay, checked}
use Rattle.im_typed.specs.Runs as typed
use Rattle.im_typed.specs.Values.{Values, used, number_of}
use Rattle.im_typed.specs.Typing.{IsInteger}
use Rattle.im_typed.specs.Sound.{IsValue, IsSoundWorld, KeepsWorld, Fits}
use Rattle.im_block.specs.declared.code.Line.{Line}
use Rattle.im_block.specs.declared.code.Exit.TheVariants.{Jump, Turn, Branch}
use Rattle.im_block.specs.declared.unit.Function.{Function}
use Rattle.im_block.specs.declared.unit.Unit.{Unit as Code}
use Rattle.im_block.specs.Meaning as m
use Rattle.im_block.specs.Meaning.{Setting, Event, State, Goes, step, with_register, condition, computes}
use Rattle.im_lower_relation.specs.Codes.{Point, before, ends, Begins}
use Rattle.im_lower_relation.specs.Agrees.{Agrees, Home, Mark, moved, at, Reaches, Follows, Does, Came}
use Rattle.im_lower_relation.proofs.Steps.{Right, Known, here, stepped, finished, does-later, does-bind, joined, does-moved}
use Rattle.im_lower_relation.proofs.Stores.{agree-lives, test-same}

-- registers

pub register-same : (registers : ℕ → Value) (to : ℕ) (v : Value) → with_register registers to v to ≡ v
register-same registers to v = chosen (to == to) (eq-eqb to to refl)
  where
    chosen : (c : Bool) → c ≡ true → (if c then v else registers to) ≡ v
    chosen true e = refl
    chosen false e = absurd (cc)

pub register-other : (registers : ℕ → Value) (to q : ℕ) (v : Value) → (q ≡ to → ⊥) → with_register registers to v q ≡ registers q
register-other registers to q v ne = chosen (q == to) refl
  where
    chosen : (c : Bool) → (q == to) ≡ c → (if c then v else registers q) ≡ registers q
    chosen true e = absurd (ne (eqb-true q to e))
    chosen false e = refl

integer-apart : (kind : Kind) → IsInteger kind → kind ≡ Ptr → ⊥
integer-apart kind h e = subst IsInteger e h

-- an integer is a number
pub number-value : (begun : ℕ) (store : Store) (kind : Kind) (v : Value) → IsInteger kind → IsValue begun store kind v → (z : ℤ) × (v ≡ Number z) × IsOfKind kind z
number-value begun store kind (Number z) i h = (z, refl, h.1)
number-value begun store kind Null i h = absurd (integer-apart kind i h)
number-value begun store kind (Pointer o offset) i h = absurd (integer-apart kind i h.0)
number-value begun store kind Unset i h = absurd h

if-true : {A : Type 0} (c : Bool) (r other : A) → c ≡ true → (if c then r else other) ≡ r
if-true true r other e = refl
if-true false r other e = absurd (cc)

if-fine : {A : Type 0} (c : Bool) (r : A) (a : A) (why : _) → unless c r why ≡ Fine a → c ≡ true
if-fine true r a why e = refl
if-fine false r a why e = absurd (cc)

-- a value as a condition
pub condition-of : (begun : ℕ) (store blocks : Store) (kind : Kind) (v : Value) → Agrees store blocks → IsValue begun store kind v → taken store v ≡ Fine v → condition blocks v ≡ Fine (holds v)
condition-of begun store blocks kind (Number z) agrees h e = ap Fine (test-same kind z h.1)
condition-of begun store blocks kind Null agrees h e = refl
condition-of begun store blocks kind (Pointer o offset) agrees h e =
    if-true (lives blocks o) (Fine true) _ (agree-lives store blocks agrees o (if-fine (lives store o) (Pointer o offset) (Pointer o offset) _ e))
condition-of begun store blocks kind Unset agrees h e = absurd h

pub taken-same : (store : Store) (v a : Value) → taken store v ≡ Fine a → (v ≡ a) × (taken store a ≡ Fine a)
taken-same store (Number z) a e = let same : Number z ≡ a = cc in (same, ap (taken store) (sym same) ∙ e)
taken-same store Null a e = let same : Null ≡ a = cc in (same, ap (taken store) (sym same) ∙ e)
taken-same store (Pointer o offset) a e = by_test (lives store o) e
  where
    by_test : (c : Bool) → (if c then Fine (Pointer o offset) else Bad DeadPointerRead) ≡ Fine a → (Pointer o offset ≡ a) × (taken store a ≡ Fine a)
    by_test true h = let same : Pointer o offset ≡ a = cc in (same, ap (taken store) (sym same) ∙ e)
    by_test false h = absurd (cc)
taken-same store Unset a e = absurd (cc)

-- behind the use of a value: it stands in its register, is of its kind and lives
pub record Took (statics : List StaticObject) (s : typed.State) (kind : Kind) (registers : ℕ → Value) (to free : ℕ) (v : Value) (t : typed.State) (after : ℕ → Value) (store : Store) : Type 0 where
  pub sane : IsSoundWorld statics t.world
  pub keeps : KeepsWorld s.world t.world
  pub spent : t.fuel ≤ s.fuel
  pub value : IsValue t.world.activations t.world.store kind v
  pub taken : taken t.world.store v ≡ Fine v
  pub agrees : Agrees t.world.store store
  pub kept : (q : ℕ) → q < free → (q ≡ to → ⊥) → after q ≡ registers q
  pub has : after to ≡ v

module _ (u : Code) (g : Setting) (p : Prog) (home : Home) where
  pub line-goes : (line : Line) (t : Point) (n : Mark) (registers : ℕ → Value) (store : Store) (s : typed.State) (to : ℕ) (c : Checked Value) (v : Value)
      → step u g (at home n (before line t) registers store s) ≡ computes to c t.rest (at home n (before line t) registers store s) → c ≡ Fine v
      → Reaches u g (at home n (before line t) registers store s) (at home n t (with_register registers to v) store s)
  line-goes line t n registers store s to c v is_line fine =
      stepped u g [] (is_line ∙ ap (λ x. computes to x t.rest (at home n (before line t) registers store s)) fine)

  -- a line that sets a register
  pub does-line : {A : Type 0} {next : A → Point} {P : A → typed.State → (ℕ → Value) → Store → Type 0} {r : Answer A} (line : Line) (t : Point) (n : Mark) (registers : ℕ → Value) (store : Store) (s : typed.State) (to : ℕ) (c : Checked Value) (v : Value)
      → step u g (at home n (before line t) registers store s) ≡ computes to c t.rest (at home n (before line t) registers store s) → c ≡ Fine v
      → Follows u g p home next (at home n t (with_register registers to v) store s) P r → Follows u g p home next (at home n (before line t) registers store s) P r
  does-line line t n registers store s to c v is_line fine h =
      does-later u g p home (line-goes line t n registers store s to c v is_line fine) h

  -- what has come stands there
  pub stands : {A : Type 0} {P : A → typed.State → (ℕ → Value) → Store → Type 0} (next : A → Point) (n : Mark) (registers : ℕ → Value) (store : Store) (s : typed.State) (a : A) → P a s registers store → Follows u g p home next (at home n (next a) registers store s) P (Gives a s)
  stands next n registers store s a h = record {
    by = record { mark = n; registers = registers; store = store; leads = here u g (at home n (next a) registers store s); is = h };
  }

  -- what is checked last
  pub checks : {A : Type 0} {P : A → typed.State → (ℕ → Value) → Store → Type 0} (next : Point) (n : Mark) (registers : ℕ → Value) (store : Store) (s : typed.State) (r : Checked A) → ((a : A) → r ≡ Fine a → P a s registers store)
      → Does u g p home next (at home n next registers store s) P (checked r s)
  checks next n registers store s (Fine a) h = stands (λ _. next) n registers store s a (h a refl)
  checks next n registers store s (Bad why) h = record { by = tt }

  -- a value of the expression has come into its register
  pub arrived : (t : Point) (n : Mark) (base registers : ℕ → Value) (to free : ℕ) (v : Value) (store : Store) (s : typed.State) → Agrees s.world.store store
      → ((q : ℕ) → q < free → (q ≡ to → ⊥) → registers q ≡ base q) → Does u g p home t (at home n t (with_register registers to v) store s) (Came base to free) (Gives (v ∷ []) s)
  arrived t n base registers to free v store s agrees kept =
      stands (λ _. t) n (with_register registers to v) store s (v ∷ [])
      (record { agrees = agrees; kept = λ q lt ne. register-other registers to q v ne ∙ kept q lt ne; has = register-same registers to v })

  module _ (s : typed.State) (kind : Kind) (base : ℕ → Value) (to free : ℕ) (next : Point) where
    taken-at : (v : Value) (t : typed.State) (n : Mark) (registers : ℕ → Value) (store : Store) → IsSoundWorld p.statics t.world → KeepsWorld s.world t.world → t.fuel ≤ s.fuel → IsValue t.world.activations t.world.store kind v → Agrees t.world.store store
        → ((q : ℕ) → q < free → (q ≡ to → ⊥) → registers q ≡ base q) → registers to ≡ v → (r : Checked Value) → taken t.world.store v ≡ r
        → Does u g p home next (at home n next registers store t) (Took p.statics s kind base to free) (checked r t)
    taken-at v t n registers store sane keeps spent value agrees kept has (Fine a) e =
        let same = taken-same t.world.store v a e in
        stands (λ _. next) n registers store t a (record {
          sane = sane;
          keeps = keeps;
          spent = spent;
          value = subst (IsValue t.world.activations t.world.store kind) same.0 value;
          taken = same.1;
          agrees = agrees;
          kept = kept;
          has = has ∙ same.0;
        })
    taken-at v t n registers store sane keeps spent value agrees kept has (Bad why) e = record { by = tt }

    used-at : (vs : Values) (t : typed.State) (n : Mark) (registers : ℕ → Value) (store : Store) → Known p.statics s (Fits (Some (Scalar kind))) vs t → Came base to free vs t registers store
        → Does u g p home next (at home n next registers store t) (Took p.statics s kind base to free) (used vs t)
    used-at [] t n registers store known came = record { by = tt }
    used-at (v ∷ vs) t n registers store known came =
        taken-at v t n registers store known.sane known.keeps known.spent known.fits.0 came.agrees came.kept came.has (taken t.world.store v) refl

  pub does-used : {b : State} {s : typed.State} {kind : Kind} {base : ℕ → Value} {to free : ℕ} {next : Point} {r : Answer Values} → Right p.statics s (Fits (Some (Scalar kind))) r → Does u g p home next b (Came base to free) r
      → Does u g p home next b (Took p.statics s kind base to free) (typed.goes_on r used)
  does-used {s = s} {kind = kind} {base = base} {to = to} {free = free} {next = next} right h =
      does-bind u g p home (joined u g p home right h) (λ vs t n registers store k. used-at s kind base to free next vs t n registers store k.0 k.1)

  -- a number that is used
  pub does-number : {A : Type 0} {b : State} {s : typed.State} {kind : Kind} {base : ℕ → Value} {to free : ℕ} {middle : Point} {next : A → Point} {P : A → typed.State → (ℕ → Value) → Store → Type 0} {r : Answer Value} {next_run : ℤ → Run A}
      → IsInteger kind → Does u g p home middle b (Took p.statics s kind base to free) r
      → ((z : ℤ) (t : typed.State) (n : Mark) (registers : ℕ → Value) (store : Store) → IsOfKind kind z → Took p.statics s kind base to free (Number z) t registers store → Follows u g p home next (at home n middle registers store t) P (next_run z t))
      → Follows u g p home next b P (typed.goes_on (typed.goes_on r (λ v. checked (number_of v))) next_run)
  does-number {A = A} {b = b} {s = s} {kind = kind} {base = base} {to = to} {free = free} {middle = middle} {next = next} {P = P} {r = r} {next_run = next_run} i h k =
      does-bind u g p home
      (does-bind u g p home {behind = home} {next = λ _. middle} {Q = λ z t registers store. IsOfKind kind z × Took p.statics s kind base to free (Number z) t registers store} h
      (λ v t n registers store took. by_value v t n registers store took))
      (λ z t n registers store x. k z t n registers store x.0 x.1)
    where
      by_value : (v : Value) (t : typed.State) (n : Mark) (registers : ℕ → Value) (store : Store) → Took p.statics s kind base to free v t registers store
          → Does u g p home middle (at home n middle registers store t) (λ z t registers store. IsOfKind kind z × Took p.statics s kind base to free (Number z) t registers store) (checked (number_of v) t)
      by_value (Number z) t n registers store took = stands (λ _. middle) n registers store t z (took.value.1, took)
      by_value Null t n registers store took = record { by = tt }
      by_value (Pointer o offset) t n registers store took = record { by = tt }
      by_value Unset t n registers store took = record { by = tt }

  module _ (f : Function) (is : slice_get u.functions.items home.function ≡ Some f) where
    pub goes-with : (b : ℕ) (t q : Point) (n : Mark) (registers : ℕ → Value) (store : Store) (s : typed.State) (fuel : ℕ) → Begins f.blocks.items b t
        → m.goes_to u g b fuel (at home n q registers store s) ≡ Goes (at home (moved n b) t registers store (record { world = s.world; fuel = fuel })) []
    goes-with b t q n registers store s fuel begins =
        let w : typed.State = record { world = s.world; fuel = fuel } in
        ap (λ r. m.on_checked (m.found r) (λ (x : Function). m.on_checked (m.found (slice_get x.blocks.items b)) (λ block. Goes (record (at home n q registers store s) { frame = record (at home n q registers store s).frame { spot = m.at_block b block }; fuel = fuel }) []))) is
        ∙ ap (λ r. m.on_checked (m.found r) (λ block. Goes (record (at home n q registers store s) { frame = record (at home n q registers store s).frame { spot = m.at_block b block }; fuel = fuel }) [])) begins.there
        ∙ ap (λ l. Goes (at home (moved n b) (record { rest = l; exit = begins.block.exit }) registers store w) []) begins.lines
        ∙ ap (λ x. Goes (at home (moved n b) (record { rest = t.rest; exit = x }) registers store w) []) begins.exit

    pub goes : (b : ℕ) (t q : Point) (n : Mark) (registers : ℕ → Value) (store : Store) (s : typed.State) → Begins f.blocks.items b t → m.goes_to u g b s.fuel (at home n q registers store s) ≡ Goes (at home (moved n b) t registers store s) []
    goes b t q n registers store s begins = goes-with b t q n registers store s s.fuel begins

    pub jumps : (j : ℕ) (t : Point) (n : Mark) (registers : ℕ → Value) (store : Store) (s : typed.State) → Begins f.blocks.items j t → Reaches u g (at home n (ends (Jump j)) registers store s) (at home (moved n j) t registers store s)
    jumps j t n registers store s begins = stepped u g [] (goes j t (ends (Jump j)) n registers store s begins)

    pub does-jump : {A : Type 0} {next : A → Point} {P : A → typed.State → (ℕ → Value) → Store → Type 0} {r : Answer A} (j : ℕ) (t : Point) (n : Mark) (registers : ℕ → Value) (store : Store) (s : typed.State) → Begins f.blocks.items j t
        → Follows u g p home next (at home (moved n j) t registers store s) P r → Follows u g p home next (at home n (ends (Jump j)) registers store s) P r
    does-jump j t n registers store s begins h = does-later u g p home (jumps j t n registers store s begins) h

    -- an arm that ends with a jump
    pub does-arm : {A : Type 0} {b : State} {P : A → typed.State → (ℕ → Value) → Store → Type 0} {r : Answer A} (j : ℕ) (t : Point) → Begins f.blocks.items j t → Does u g p home (ends (Jump j)) b P r → Does u g p home t b P r
    does-arm j t begins h = does-moved u g p home (λ a n registers store s. (moved n j, jumps j t n registers store s begins)) h

    pub branches : (on x y : ℕ) (one other : Point) (n : Mark) (registers : ℕ → Value) (store : Store) (s : typed.State) (c : Bool) → Begins f.blocks.items x one → Begins f.blocks.items y other → condition store (registers on) ≡ Fine c
        → Reaches u g (at home n (ends (Branch on x y)) registers store s) (at home (moved n (if c then x else y)) (if c then one else other) registers store s)
    branches on x y one other n registers store s true bx by_ e =
        stepped u g [] (ap (λ r. m.on_checked r (λ (holds : Bool). m.goes_to u g (if holds then x else y) s.fuel (at home n (ends (Branch on x y)) registers store s))) e ∙ goes x one (ends (Branch on x y)) n registers store s bx)
    branches on x y one other n registers store s false bx by_ e =
        stepped u g [] (ap (λ r. m.on_checked r (λ (holds : Bool). m.goes_to u g (if holds then x else y) s.fuel (at home n (ends (Branch on x y)) registers store s))) e ∙ goes y other (ends (Branch on x y)) n registers store s by_)

    -- a loop edge takes a unit of fuel
    pub does-turn : {A : Type 0} {next : A → Point} {P : A → typed.State → (ℕ → Value) → Store → Type 0} (b : ℕ) (t : Point) (n : Mark) (registers : ℕ → Value) (store : Store) (w : World) (fuel : ℕ) (run : Run A) → Begins f.blocks.items b t
        → ((left : ℕ) → fuel ≡ suc left → Follows u g p home next (at home (moved n b) t registers store (record { world = w; fuel = left })) P (run (record { world = w; fuel = left })))
        → Follows u g p home next (at home n (ends (Turn b)) registers store (record { world = w; fuel = fuel })) P (pay fuel w run)
    does-turn b t n registers store w zero run begins k = record { by = finished u g [] refl }
    does-turn b t n registers store w (suc fuel) run begins k =
        does-later u g p home (stepped u g [] (goes-with b t (ends (Turn b)) n registers store (record { world = w; fuel = suc fuel }) fuel begins)) (k fuel refl)
