-- Calls: a function's body in block code does what the function does.
use Rattle.std.proofs.Common.{◌≡◌, ℕ, zero, suc, ◌+◌, ◌<◌, ◌≤◌, ◌==◌, List, [], ◌∷◌, length, take, Bool, true, false, refl, sym, ap, ◌∙◌, subst, arith}
use Rattle.std.specs.Prelude.{Option, Some, None, pos, nat_le, if◌then◌else◌, slice_get, slice_index_or}
use Rattle.im_store.specs.Checks.{Fine}
use Rattle.im_store.specs.Objects.{Value, Number, Store, begins, ends}
use Rattle.im_store.specs.Outcomes.{End, variables}
use Rattle.im_typed.specs.Program as q
use Rattle.im_typed.specs.Runs.{World, Answer, Gives, pay, either, exhaust}
use Rattle.im_typed.specs.Runs as typed
use Rattle.im_typed.specs.Values.{Values}
use Rattle.im_typed.specs.Meaning.{Around, Flow, Next, Broke, Continued, Returned, does}
use Rattle.im_typed.specs.Programs.{Setting, first_object, shapes_of, entering, leaving, call_result, frame_of, around, body_of, enters, called, calls_of}
use Rattle.im_typed.specs.Typing.{IsObject, IsTypedFunc, IsTypedStatic, IsWellTyped, parameters}
use Rattle.im_typed.specs.Sound.{IsSoundWorld, FlowFits, ArgumentsFit}
use Rattle.im_typed.proofs.SoundCalls.{if-true, if-false, each-at, new-shape, begun-sound}
use Rattle.im_typed.proofs.SoundExprs.{there}
use Rattle.im_typed.proofs.SoundStmts.{right-does}
use Rattle.im_typed.proofs.SoundRuns.{right-around}
use Rattle.im_typed.proofs.Parts.{rel-computes}
use Rattle.im_typed.proofs.Induction.{rel-does}
use Rattle.im_typed.proofs.Whole.{rel-calls}
use Rattle.im_block.specs.declared.code.Line.TheVariants.{Put, Call}
use Rattle.im_block.specs.declared.code.Exit.TheVariants.{Return}
use Rattle.im_block.specs.declared.unit.Registers.TheVariants.{Virtual}
use Rattle.im_block.specs.declared.unit.Function.{Function}
use Rattle.im_block.specs.declared.unit.Unit.{Unit as Code}
use Rattle.im_block.specs.Meaning as m
use Rattle.im_block.specs.Meaning.{Active, Frame, State, Goes, Tests, Saves, Restores, with_register}
use Rattle.im_lower_relation.specs.Codes.{Point, before, ends as ends_with, Begins}
use Rattle.im_lower_relation.specs.Statements.{CodesStatement}
use Rattle.im_lower_relation.specs.Lowered.{CodesParameters, brace, CodesFunction, IsLowered}
use Rattle.im_lower_relation.specs.Agrees.{Agrees, Home, Mark, at, Reaches, Follows, Does, HasOne, Came}
use Rattle.im_lower_relation.specs.Laws.{setting_of}
use Rattle.im_lower_relation.proofs.Steps.{Known, here, stepped, further, finished, does-later, does-bind, joined}
use Rattle.im_lower_relation.proofs.Uses.{register-same, register-other, line-goes, stands}
use Rattle.im_lower_relation.proofs.Ready.{HasArguments, Ready, CallsDo, Works}
use Rattle.im_lower_relation.proofs.Groups.{numbered-of}
use Rattle.im_lower_relation.proofs.Bytes.{kept-same}
use Rattle.im_lower_relation.proofs.Flows.{end_of, Left}
use Rattle.im_lower_relation.proofs.Statements.{statement}
use Rattle.im_lower_relation.proofs.Entering.{begun-agrees, ended-agrees, receives, arguments-passed, variables-same}

taken-at : {A : Type 0} (n : ℕ) (xs : List A) (i : ℕ) (x : A) → slice_get (take n xs) i ≡ Some x → slice_get xs i ≡ Some x
taken-at zero xs i x e = absurd (cc)
taken-at (suc n) [] i x e = absurd (cc)
taken-at (suc n) (y ∷ ys) zero x e = e
taken-at (suc n) (y ∷ ys) (suc i) x e = taken-at n ys i x e

below : {A : Type 0} (xs : List A) (i : ℕ) (x : A) → slice_get xs i ≡ Some x → i < length xs
below [] i x e = absurd (cc)
below (y ∷ ys) zero x e = omega arith
below (y ∷ ys) (suc i) x e = let lt = below ys i x e in omega arith

-- the state at which a function is to return
pub record Returning (u : Code) (g : m.Setting) (home : Home) (b : State) (t : typed.State) (store : Store) (values : Values) : Type 0 where
  pub mark : Mark
  pub registers : ℕ → Value
  pub from : Option ℕ
  pub leads : Reaches u g b (at home mark (ends_with (Return from)) registers store t)
  pub has : HasOne values (m.returned u g from registers)

module _ (u : Code) (g : m.Setting) (p : q.Prog) (home : Home) (low : ℕ) (n : Mark) (registers : ℕ → Value) (store : Store) (t : typed.State) where
  main-brace : Returning u g home (at home n (brace low true) registers store t) t store (Number (pos 0) ∷ [])
  main-brace = record {
    mark = n;
    registers = with_register registers low (Number (pos 0));
    from = Some low;
    leads = line-goes u g p home (Put low (pos 0)) (ends_with (Return (Some low))) n registers store t low (Fine (Number (pos 0))) (Number (pos 0)) refl refl;
    has = register-same registers low (Number (pos 0));
  }

  other-brace : Returning u g home (at home n (brace low false) registers store t) t store []
  other-brace = record { mark = n; registers = registers; from = None; leads = here u g _; has = tt }

  -- from where a body ends, on to the return
  pub comes-back : (is_main : Bool) (flow : Flow) → Left low flow t registers store
      → Returning u g home (at home n (end_of low (brace low is_main) (brace low is_main) (brace low is_main) flow) registers store t) t store (call_result is_main flow)
  comes-back true Next left = main-brace
  comes-back true Broke left = main-brace
  comes-back true Continued left = main-brace
  comes-back false Next left = other-brace
  comes-back false Broke left = other-brace
  comes-back false Continued left = other-brace
  comes-back is_main (Returned []) left = record { mark = n; registers = registers; from = None; leads = here u g _; has = tt }
  comes-back is_main (Returned (v ∷ vs)) left = record { mark = n; registers = registers; from = Some low; leads = here u g _; has = left.has }

module _ (ts : Setting) (u : Code) (input : List ℕ) (typed_program : IsWellTyped ts.prog) (is : IsLowered ts.prog u) where
  abbrev g : m.Setting
  g = setting_of ts input

  abbrev p : q.Prog
  p = ts.prog

  -- the activation of the i-th function that begins in a world
  abbrev pub own : World → ℕ → Active
  own w i = record { number = suc w.activations; depth = w.depth + frame_of ts i }

  abbrev pub inside : ℕ → World → ℕ → Around
  inside n w i = around ts (calls_of ts n) (suc w.activations) (w.depth + frame_of ts i) (first_object p i)

  abbrev pub within : ℕ → World → List Frame → Home
  within i w callers = record { function = i; active = own w i; callers = callers }

  abbrev pub at_entry : World → ℕ → q.Func → List Value → ℕ → typed.State
  at_entry w i f args fuel = record { world = entering (suc w.activations) (w.depth + frame_of ts i) (first_object p i) f args w; fuel = fuel }

  abbrev pub entry_mark : Function → Mark
  entry_mark code = record { block = code.entry; waits = 0 }

  abbrev pub stop : q.Func → ℕ → Point
  stop f i = brace f.params (i == p.main)

  pub body-follows : (n : ℕ) → CallsDo u g p (calls_of ts n) n → (i : ℕ) (f : q.Func) (code : Function) (func : CodesFunction p i f code) (w : World) (fuel : ℕ) (args : List Value) (callers : List Frame) (registers : ℕ → Value) (blocks : Store)
      → slice_get p.funcs i ≡ Some f → slice_get u.functions.items i ≡ Some code → IsSoundWorld p.statics w → ArgumentsFit (take f.params f.objects) w args → HasArguments registers 0 args → Agrees w.store blocks → fuel ≤ n
      → Follows u g p (within i w callers) (end_of f.params (stop f i) (stop f i) (stop f i))
      (at (within i w callers) (entry_mark code) func.start registers (begins blocks (suc w.activations) (w.depth + frame_of ts i) (m.shapes_of code)) (at_entry w i f args fuel))
      (λ flow t rs store. Known p.statics (at_entry w i f args fuel) (FlowFits f.result) flow t × Left f.params flow t rs store)
      (does (inside n w i) n f.body (at_entry w i f args fuel))
  body-follows n calls i f code func w fuel args callers registers blocks ef ec sane fit has agrees few =
      let a : ℕ = suc w.activations in
      let d : ℕ = w.depth + frame_of ts i in
      let first : ℕ = first_object p i in
      let c : Around = inside n w i in
      let s : typed.State = at_entry w i f args fuel in
      let t = each-at (IsTypedFunc p) p.funcs i f typed_program.funcs ef in
      let works : Works u g p c n = record {
        right = right-around ts typed_program n a d first;
        tame = record { calls = rel-calls ts 0 0 n n (omega arith) (omega arith); operates = rel-computes 0 0 };
        capacity = refl;
        calls = calls;
        operates = record { by = λ op kind x y s. refl };
      } in
      let got = receives u g (within i w callers) (entry_mark code) registers s w (take f.params f.objects) args first 0 func.start func.body
      (begins w.store a d (shapes_of first f.objects)) (begins blocks a d (m.shapes_of code)) fit has
      (subst (λ x. CodesParameters x 0 (take f.params f.objects) func.start func.body) func.first_object func.passed)
      (λ j o e. new-shape p.statics f args w d first sane j o (taken-at f.params f.objects j o e))
      (begun-agrees w.store blocks a d first f.objects code func.first_object func.objects t.1 agrees) in
      let ready : Ready p f c n s got.left = record {
        sane = record { store = begun-sound p.statics f args w d first sane t.1 fit; input = sane.input };
        here = record { later = omega arith; began = omega arith; live = λ j o e. new-shape p.statics f args w d first sane j o e };
        depth = refl;
        fuel = few;
        agrees = got.agrees;
        statics = λ j o e. (each-at (IsTypedStatic p.statics) p.statics j o typed_program.statics e).0.1;
        laid = λ j o e. (each-at (λ (x : q.LocalObject). IsObject x.size x.cells) f.objects j o t.1 e).1;
        numbered = λ j o e. numbered-of p i j f o ef e;
      } in
      joined u g p (within i w callers)
      (record {
        right = right-does p f c works.right n f.body false false s t.3 ready.sane ready.here;
        spends = (rel-does 0 0 c.activation c.depth c.first c.capacity c.calls c.calls c.operates c.operates works.tame.calls works.tame.operates n n (omega arith) (omega arith) f.body).tame.by s;
      })
      (does-later u g p (within i w callers) got.leads
      (statement u g p f c n works i callers code ec func.registers f.params t.1 f.body false false 0 0 (stop f i) (stop f i) func.body (stop f i) (λ x. let e : false ≡ true = x in absurd (cc)) (λ x. let e : false ≡ true = x in absurd (cc))
      t.3
      (subst (λ x. CodesStatement p x f.params f.objects code.blocks.items f.body 0 0 func.body (stop f i)) func.first_object func.does)
      (entry_mark code) registers got.left s ready))

  -- the state at an entry, and what an entry comes to

  abbrev pub begun : Function → Point → ℕ → (ℕ → Value) → List Frame → ℕ → State → Active → m.Next
  begun code start i registers callers fuel s active =
      Goes (record {
        frame = record { function = i; spot = record { block = code.entry; rest = start.rest; exit = start.exit }; active = active; registers = registers; to = 0 };
        callers = callers;
        store = m.begun_by code active s.store;
        begun = active.number;
        input = s.input;
        output = s.output;
        fuel = fuel;
      }) (Tests ∷ Saves active ∷ [])

  module _ (i first count : ℕ) (registers : ℕ → Value) (callers : List Frame) (fuel : ℕ) (s : State) (code : Function) (found : slice_get u.functions.items i ≡ Some code) where
    abbrev active : Active
    active = m.next_active u g i s

    abbrev on_room : Function → m.Next → m.Next
    on_room f full =
        if nat_le active.depth g.stack
        then m.on_checked (m.found (slice_get f.blocks.items f.entry)) (λ block. m.activates i f active (m.passed f.first_parameter first count registers) callers fuel block s)
        else full

    abbrev full : m.Next
    full = m.Stops (m.ended u 1 (pos 0) s) (Tests ∷ [])

    pub enters-room : (start : Point) → code.first_parameter ≡ 0 → Begins code.blocks.items code.entry start → nat_le active.depth g.stack ≡ true
        → m.enters u g i first count registers callers fuel s ≡ begun code start i (m.passed 0 first count registers) callers fuel s active
    enters-room start zero_first begins room =
        ap (λ r. m.on_checked (m.found r) (λ (f : Function). on_room f full)) found
        ∙ if-true (nat_le active.depth g.stack) (m.on_checked (m.found (slice_get code.blocks.items code.entry)) (λ block. m.activates i code active (m.passed code.first_parameter first count registers) callers fuel block s)) full room
        ∙ ap (λ r. m.on_checked (m.found r) (λ block. m.activates i code active (m.passed code.first_parameter first count registers) callers fuel block s)) begins.there
        ∙ ap (λ k. m.activates i code active (m.passed k first count registers) callers fuel begins.block s) zero_first
        ∙ ap (λ l. begun code (record { rest = l; exit = begins.block.exit }) i (m.passed 0 first count registers) callers fuel s active) begins.lines
        ∙ ap (λ x. begun code (record { rest = start.rest; exit = x }) i (m.passed 0 first count registers) callers fuel s active) begins.exit

    pub enters-full : nat_le active.depth g.stack ≡ false → m.enters u g i first count registers callers fuel s ≡ full
    enters-full none =
        ap (λ r. m.on_checked (m.found r) (λ (f : Function). on_room f full)) found
        ∙ if-false (nat_le active.depth g.stack) (m.on_checked (m.found (slice_get code.blocks.items code.entry)) (λ block. m.activates i code active (m.passed code.first_parameter first count registers) callers fuel block s)) full none

  pub active-same : (i : ℕ) (s : State) (w : World) → s.begun ≡ w.activations → s.frame.active.depth ≡ w.depth → m.next_active u g i s ≡ own w i
  active-same i s w same depth =
      let next : w.activations + 1 ≡ suc w.activations = omega arith in
      ap (λ x. (let a : Active = record { number = x + 1; depth = s.frame.active.depth + slice_index_or ts.frames i 0 } in a)) same
      ∙ ap (λ x. (let a : Active = record { number = x; depth = s.frame.active.depth + slice_index_or ts.frames i 0 } in a)) next
      ∙ ap (λ x. (let a : Active = record { number = suc w.activations; depth = x + slice_index_or ts.frames i 0 } in a)) depth

  -- the code of a function that is there
  pub code-of : (i : ℕ) (f : q.Func) → slice_get p.funcs i ≡ Some f → (code : Function) × (slice_get u.functions.items i ≡ Some code) × CodesFunction p i f code
  code-of i f e =
      let lt : i < length u.functions.items = subst (λ n. i < n) (sym is.count) (below p.funcs i f e) in
      let code = there u.functions.items i lt in
      (code.0, code.1, is.functions i f code.0 e code.1)

  -- a call line, where calls in what it calls are known
  module _ (n : ℕ) (calls : CallsDo u g p (calls_of ts n) n) (i count : ℕ) (vs : List Value) (home : Home) (fn : Function) (mark : Mark) (next : Point) (registers : ℕ → Value) (store : Store) (to first : ℕ)
      (lt : to < first) (ec : slice_get u.functions.items home.function ≡ Some fn) (virtual : fn.registers ≡ Virtual) (many : length vs ≡ count) (has : HasArguments registers first vs)
      (w : World) (left : ℕ) (few : left ≤ n) (sane : IsSoundWorld p.statics w) (agrees : Agrees w.store store) (deep : w.depth ≡ home.active.depth) where
    -- the state at the line, with a unit of fuel more
    abbrev line : State
    line = at home mark (before (Call to i first count) next) registers store (record { world = w; fuel = suc left })

    abbrev paid : typed.State
    paid = record { world = w; fuel = left }

    -- the caller as it waits, and as it goes on with a value
    abbrev callers : List Frame
    callers = m.waiting u g line.frame to next.rest ∷ home.callers

    abbrev behind : Mark
    behind = record { block = mark.block; waits = to }

    goes-back : (h : Home) (k : Mark) (from : Option ℕ) (rs : ℕ → Value) (blocks : Store) (t v : typed.State) → h.callers ≡ callers → v ≡ record { world = leaving h.active.number w.depth t.world; fuel = t.fuel }
        → Reaches u g (at h k (ends_with (Return from)) rs blocks t) (at home behind next (with_register registers to (m.returned u g from rs)) (ends blocks h.active.number) v)
    goes-back h k from rs blocks t v same is_left =
        let value : Value = m.returned u g from rs in
        let x : typed.State = record { world = leaving h.active.number w.depth t.world; fuel = t.fuel } in
        stepped u g (Restores h.active ∷ [])
        (ap (λ l. m.back u g l value (at h k (ends_with (Return from)) rs blocks t)) same
        ∙ ap (λ r. Goes (at home behind next (with_register r to value) (ends blocks h.active.number) x) (Restores h.active ∷ [])) (kept-same u g p home fn ec virtual registers)
        ∙ ap (λ y. Goes (at home behind next (with_register registers to value) (ends blocks h.active.number) y) (Restores h.active ∷ [])) (sym is_left))

    called-body : (f : q.Func) → slice_get p.funcs i ≡ Some f → ArgumentsFit (take f.params f.objects) w vs → nat_le (w.depth + frame_of ts i) g.stack ≡ true
        → Does u g p home next line (Came registers to first) (body_of ts (calls_of ts n) n i f vs w paid)
    called-body f ef fit room =
        let code = code-of i f ef in
        let func = code.2 in
        let d : ℕ = w.depth + frame_of ts i in
        let act = active-same i line w refl (sym deep) in
        let inner : Home = within i w callers in
        let passed : ℕ → Value = m.passed 0 first count registers in
        let enough : 0 + length vs ≤ count = omega arith in
        let plus : first ≡ first + 0 = omega arith in
        let room_now : nat_le (m.next_active u g i line).depth g.stack ≡ true = ap (λ (x : Active). nat_le x.depth g.stack) act ∙ room in
        does-later u g p home
        (stepped u g _ (enters-room i first count registers callers left line code.0 code.1 func.start func.first_parameter func.entry room_now ∙ ap (begun code.0 func.start i passed callers left line) act))
        (does-bind u g p inner
        (body-follows n calls i f code.0 func w left vs callers passed store ef code.1 sane fit
        (arguments-passed vs 0 first count registers enough (subst (λ j. HasArguments registers j vs) plus has)) agrees few)
        (λ flow t k rs blocks x.
        let back = comes-back u g p inner f.params k rs blocks t (i == p.main) flow x.1 in
        let v : typed.State = record { world = leaving (suc w.activations) w.depth t.world; fuel = t.fuel } in
        let value : Value = m.returned u g back.from back.registers in
        does-later u g p home (further u g back.leads (goes-back inner back.mark back.from back.registers blocks t v refl refl))
        (stands u g p home (λ _. next) behind (with_register registers to value) (ends blocks (suc w.activations)) v (call_result (i == p.main) flow)
        (record {
          agrees = ended-agrees t.world.store blocks (suc w.activations) x.1.agrees;
          kept = λ q l ne. register-other registers to q value ne;
          has = subst (HasOne (call_result (i == p.main) flow)) (sym (register-same registers to value)) back.has;
        }))))

    called-full : (f : q.Func) → slice_get p.funcs i ≡ Some f → nat_le (w.depth + frame_of ts i) g.stack ≡ false → Does u g p home next line (Came registers to first) (exhaust paid)
    called-full f ef none =
        let code = code-of i f ef in
        let act = active-same i line w refl (sym deep) in
        let none_now : nat_le (m.next_active u g i line).depth g.stack ≡ false = ap (λ (x : Active). nat_le x.depth g.stack) act ∙ none in
        record {
          by = finished u g (Tests ∷ []) (enters-full i first count registers callers left line code.0 code.1 none_now
              ∙ ap (λ x. m.Stops (End 1 (pos 0) w.output x) (Tests ∷ [])) (ap (λ l. variables l store) is.statics ∙ variables-same p.statics w.activations w.store store sane.store agrees));
        }

    called-room : (f : q.Func) (c : Bool) → nat_le (w.depth + frame_of ts i) g.stack ≡ c → slice_get p.funcs i ≡ Some f → ArgumentsFit (take f.params f.objects) w vs
        → Does u g p home next line (Came registers to first) (either c (body_of ts (calls_of ts n) n i f vs w) exhaust paid)
    called-room f true e ef fit = called-body f ef fit e
    called-room f false e ef fit = called-full f ef e

    pub called-line : (found : Option q.Func) → slice_get p.funcs i ≡ found → ArgumentsFit (parameters found) w vs → Does u g p home next line (Came registers to first) (enters ts (calls_of ts n) n i found vs paid)
    called-line None e fit = record { by = tt }
    called-line (Some f) e fit = called-room f (nat_le (w.depth + frame_of ts i) g.stack) refl e fit

  called-paid : (n : ℕ) → CallsDo u g p (calls_of ts n) n → (i count : ℕ) (vs : List Value) (w : World) (fuel : ℕ) (home : Home) (fn : Function) (mark : Mark) (next : Point) (registers : ℕ → Value) (store : Store) (to first : ℕ)
      → to < first → slice_get u.functions.items home.function ≡ Some fn → fn.registers ≡ Virtual → length vs ≡ count → HasArguments registers first vs
      → ArgumentsFit (parameters (slice_get p.funcs i)) w vs → IsSoundWorld p.statics w → Agrees w.store store → w.depth ≡ home.active.depth → fuel ≤ suc n
      → Does u g p home next (at home mark (before (Call to i first count) next) registers store (record { world = w; fuel = fuel })) (Came registers to first) (pay fuel w (called ts (calls_of ts n) n i vs))
  called-paid n calls i count vs w zero home fn mark next registers store to first lt ec virtual many has fit sane agrees deep few = record { by = finished u g [] refl }
  called-paid n calls i count vs w (suc left) home fn mark next registers store to first lt ec virtual many has fit sane agrees deep few =
      called-line n calls i count vs home fn mark next registers store to first lt ec virtual many has w left (omega arith) sane agrees deep (slice_get p.funcs i) refl fit

  starved : (i count : ℕ) (w : World) (fuel : ℕ) (home : Home) (mark : Mark) (next : Point) (registers : ℕ → Value) (store : Store) (to first : ℕ) → fuel ≤ 0
      → Does u g p home next (at home mark (before (Call to i first count) next) registers store (record { world = w; fuel = fuel })) (Came registers to first) (pay fuel w typed.starve)
  starved i count w zero home mark next registers store to first few = record { by = finished u g [] refl }
  starved i count w (suc left) home mark next registers store to first few = absurd (omega arith)

  -- calls do, however deep
  pub calls-do : (n : ℕ) → CallsDo u g p (calls_of ts n) n
  calls-do zero = record {
    by = λ i count vs s home fn mark next registers store to first lt ec virtual many has fit sane agrees deep few.
        starved i count s.world s.fuel home mark next registers store to first few;
  }
  calls-do (suc n) = record {
    by = λ i count vs s home fn mark next registers store to first lt ec virtual many has fit sane agrees deep few.
        called-paid n (calls-do n) i count vs s.world s.fuel home fn mark next registers store to first lt ec virtual many has fit sane agrees deep few;
  }
