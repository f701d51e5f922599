-- A program runs in block code as it does.
use Rattle.std.proofs.Common.{◌≡◌, ℕ, suc, ◌+◌, ◌<◌, ◌≤◌, ◌==◌, List, [], ◌∷◌, ◌++◌, take, Bool, true, false, refl, sym, ap, ◌∙◌, subst, arith}
use Rattle.std.specs.Prelude.{Option, Some, None, ℤ, pos, nat_le, slice_get}
use Rattle.std.proofs.lemmas.Bool.{eq-eqb}
use Rattle.im_num.specs.declared.kind.Kind.{Kind}
use Rattle.im_num.specs.declared.kind.Kind.TheVariants.{I32}
use Rattle.im_num.specs.Kinds.{IsOfKind}
use Rattle.im_num.proofs.Wrapping.{wrap-same}
use Rattle.im_num.specs.Variables.{Variable}
use Rattle.im_store.specs.Objects.{static, Object, Shape, shape_of as object_shape, Value, Number, Null, Pointer, Unset, Store, begins, ends}
use Rattle.im_store.specs.Outcomes.{Outcome, End, IsDefined, cells_shown, variables_from, variables}
use Rattle.im_store.specs.Statics.{StaticObject, with_statics}
use Rattle.im_typed.specs.Program as q
use Rattle.im_typed.specs.Runs.{World, Fails, Starves, Exhausts, Answer, Gives, Stops, either, exhaust}
use Rattle.im_typed.specs.Runs as typed
use Rattle.im_typed.specs.Values.{Values}
use Rattle.im_typed.specs.Meaning.{Flow, Next, Broke, Continued, Returned, does}
use Rattle.im_typed.specs.Programs.{Setting, leaving, call_result, status_of, frame_of, body_of, enters, calls_of, start, outcome_of, meaning}
use Rattle.im_typed.specs.Typing.{Each, IsTypedStatic, IsWellTyped, IsMain}
use Rattle.im_typed.specs.Sound.{IsValue, IsSoundWorld, FlowFits, ArgumentsFit}
use Rattle.im_typed.proofs.SoundRuns.{start-sound}
use Rattle.im_typed.proofs.SoundCalls.{zero-of_kind, each-at, same-some}
use Rattle.im_lower_relation.proofs.Layouts.{cell-inside}
use Rattle.im_block.specs.declared.code.Exit.TheVariants.{Return}
use Rattle.im_block.specs.declared.unit.Unit.{Unit as Code}
use Rattle.im_block.specs.Meaning as m
use Rattle.im_block.specs.Meaning.{Active, State, Event, Tests, Saves, Restores}
use Rattle.im_block.specs.Runs as r
use Rattle.im_block.specs.Runs.{Runs, Over, exec}
use Rattle.im_lower_relation.specs.Codes.{ends as ends_with}
use Rattle.im_lower_relation.specs.Lowered.{IsLowered}
use Rattle.im_lower_relation.specs.Agrees.{Same, Agrees, Home, at, Finishes, Arrives, FollowsAt, HasOne}
use Rattle.im_lower_relation.specs.Laws.{setting_of}
use Rattle.im_lower_relation.proofs.Steps.{Known, finished, ends-later}
use Rattle.im_lower_relation.proofs.Flows.{end_of, Left}
use Rattle.im_lower_relation.proofs.Entering.{variables-same}
use Rattle.im_lower_relation.proofs.Calls.{comes-back, own, inside, within, at_entry, entry_mark, stop, body-follows, begun, enters-room, enters-full, active-same, code-of, calls-do}

same-self : (v : Value) → Same v v
same-self (Number z) = refl
same-self Null = refl
same-self (Pointer o offset) = refl
same-self Unset = tt

-- what main gives is a number
record Status (flow : Flow) : Type 0 where
  pub number : ℤ
  pub rest : Values
  pub is : call_result true flow ≡ Number number ∷ rest
  pub fits : IsOfKind I32 number

zero-status : IsOfKind I32 (pos 0) → (flow : Flow) → call_result true flow ≡ Number (pos 0) ∷ [] → Status flow
zero-status h flow e = record { number = pos 0; rest = []; is = e; fits = h }

status-value : (begun : ℕ) (store : Store) (v : Value) (vs : Values) → IsValue begun store I32 v → Status (Returned (v ∷ vs))
status-value begun store (Number z) vs h = record { number = z; rest = vs; is = refl; fits = h.1 }
status-value begun store Null vs h = absurd (cc)
status-value begun store (Pointer o offset) vs h = absurd (let e = h.0 in cc)
status-value begun store Unset vs h = absurd h

status : (w : World) (flow : Flow) → FlowFits (Some I32) w flow → Status flow
status w Next h = zero-status zero-of_kind Next refl
status w Broke h = zero-status zero-of_kind Broke refl
status w Continued h = zero-status zero-of_kind Continued refl
status w (Returned []) h = absurd h
status w (Returned (v ∷ vs)) h = status-value w.activations w.store v vs h.0

status-is : (vs : Values) (z : ℤ) (rest : Values) → vs ≡ Number z ∷ rest → status_of vs ≡ z
status-is vs z rest e = ap status_of e

-- what the statics show doesn't hang on who lives
ended-shown : (n : ℕ) (ss : List StaticObject) (store : Store) (a : ℕ) → variables_from n ss store ≡ variables_from n ss (ends store a)
ended-shown n [] store a = refl
ended-shown n (s ∷ ss) store a =
    ap (λ xs. (let v : Variable = record { name = s.name; cells = cells_shown (store.values (static n)) s.cells } in v) ∷ xs) (ended-shown (suc n) ss store a)

module _ (ts : Setting) (u : Code) (input : List ℕ) (typed_program : IsWellTyped ts.prog) (is : IsLowered ts.prog u) where
  abbrev g : m.Setting
  g = setting_of ts input

  abbrev p : q.Prog
  p = ts.prog

  abbrev main : ℕ
  main = p.main

  -- what is given behind the body of main
  abbrev given : World → Flow → typed.State → Answer Values
  given w flow t = Gives (call_result (main == main) flow) (record { world = leaving (suc w.activations) w.depth t.world; fuel = t.fuel })

  -- the return of main ends the run
  main-returns : (f : q.Func) (w : World) (s t : typed.State) (b : State) (flow : Flow) → f.result ≡ Some I32
      → Arrives u g (within ts u input typed_program is main w []) (end_of f.params (stop ts u input typed_program is f main) (stop ts u input typed_program is f main) (stop ts u input typed_program is f main)) b
      (λ flow t rs store. Known p.statics s (FlowFits f.result) flow t × Left f.params flow t rs store) flow t
      → Finishes u g b (outcome_of ts (given w flow t))
  main-returns f w s t b flow result come =
      let home : Home = within ts u input typed_program is main w [] in
      let back = comes-back u g p home f.params come.mark come.registers come.store t (main == main) flow come.is.1 in
      let one : (main == main) ≡ true = eq-eqb main main refl in
      let st = status t.world flow (subst (λ x. FlowFits x t.world flow) result come.is.0.fits) in
      let gives : call_result (main == main) flow ≡ Number st.number ∷ st.rest = ap (λ c. call_result c flow) one ∙ st.is in
      let value : m.returned u g back.from back.registers ≡ Number st.number = subst (λ vs. HasOne vs (m.returned u g back.from back.registers)) gives back.has in
      let state : State = at home back.mark (ends_with (Return back.from)) back.registers come.store t in
      let shown : variables (m.statics_of u) come.store ≡ variables p.statics (ends t.world.store (suc w.activations)) =
      ap (λ l. variables l come.store) is.statics ∙ variables-same p.statics t.world.activations t.world.store come.store come.is.0.sane.store come.is.1.agrees
      ∙ ended-shown 0 p.statics t.world.store (suc w.activations) in
      ends-later u g come.leads (ends-later u g back.leads
      (finished u g (Restores home.active ∷ [])
      (ap (λ v. m.back u g [] v state) value
      ∙ ap (λ z. m.Stops (End 0 z t.world.output (variables (m.statics_of u) come.store)) (Restores home.active ∷ [])) (wrap-same I32 st.number st.fits ∙ sym (status-is (call_result (main == main) flow) st.number st.rest gives))
      ∙ ap (λ x. m.Stops (End 0 (status_of (call_result (main == main) flow)) t.world.output x) (Restores home.active ∷ [])) shown)))

  main-ends : (f : q.Func) (w : World) (s : typed.State) (b : State) (answer : Answer Flow) → f.result ≡ Some I32
      → FollowsAt u g p (within ts u input typed_program is main w []) (end_of f.params (stop ts u input typed_program is f main) (stop ts u input typed_program is f main) (stop ts u input typed_program is f main)) b
      (λ flow t rs store. Known p.statics s (FlowFits f.result) flow t × Left f.params flow t rs store) answer
      → IsDefined (outcome_of ts (typed.goes_on answer (given w))) → Finishes u g b (outcome_of ts (typed.goes_on answer (given w)))
  main-ends f w s b (Gives flow t) result h defined = main-returns f w s t b flow result h
  main-ends f w s b (Stops (Fails why)) result h defined = absurd defined
  main-ends f w s b (Stops (Starves output)) result h defined = h
  main-ends f w s b (Stops (Exhausts output store)) result h defined = h

  abbrev world : World
  world = (start ts input 0).world

  abbrev first : ℕ → State
  first fuel = r.before u g fuel

  begins-with : (fuel : ℕ) (s : State) (o : Outcome) (events : List Event) → r.start u g fuel ≡ m.Goes s events → Finishes u g s o → (run : List Event) × Runs u g fuel o run
  begins-with fuel s o events e h = (events ++ h.events, record { steps = h.steps; over = ap (λ x. r.goes_on x (exec u g h.steps) []) e ∙ h.is events })

  stops-with : (fuel : ℕ) (o : Outcome) (events : List Event) → r.start u g fuel ≡ m.Stops o events → (run : List Event) × Runs u g fuel o run
  stops-with fuel o events e = (events, record { steps = 0; over = ap (λ x. r.goes_on x (exec u g 0) []) e })

  abbrev sane : Each (λ byte. byte < 256) input → IsSoundWorld p.statics world
  sane bytes = record { store = start-sound p.statics typed_program.statics; input = bytes }

  -- cells lie within the statics
  start-inside : (o : Object) (s : Shape) (i : ℕ) (kind : Kind) → world.store.shape o ≡ Some s → s.cells i ≡ Some kind → i ≤ s.size
  start-inside o s i kind e k =
      let sound = start-sound p.statics typed_program.statics in
      let le = sound.began o s e in
      let l = sound.only o s e (omega arith) in
      let x : StaticObject = l.1 in
      let same : object_shape x.size x.cells ≡ s = same-some (object_shape x.size x.cells) s (sym (sound.live l.0 x l.3) ∙ sym (ap world.store.shape l.2) ∙ e) in
      let t = each-at (IsTypedStatic p.statics) p.statics l.0 x typed_program.statics l.3 in
      subst (λ (y : Shape). i ≤ y.size) same (cell-inside 0 x.size x.cells i kind t.0.1 (ap (λ (y : Shape). y.cells i) same ∙ k))

  -- the statics are the program's
  start-agrees : Agrees world.store (with_statics (m.statics_of u))
  start-agrees = subst (λ l. Agrees world.store (with_statics l)) (sym is.statics) (record { inside = start-inside; shapes = λ o s e. e; values = λ o i. same-self (world.store.values o i) })

  main-room : (fuel : ℕ) (f : q.Func) → Each (λ byte. byte < 256) input → slice_get p.funcs main ≡ Some f → f.params ≡ 0 → f.result ≡ Some I32 → nat_le (world.depth + frame_of ts main) g.stack ≡ true
      → IsDefined (outcome_of ts (body_of ts (calls_of ts fuel) fuel main f [] world (start ts input fuel)))
      → (run : List Event) × Runs u g fuel (outcome_of ts (body_of ts (calls_of ts fuel) fuel main f [] world (start ts input fuel))) run
  main-room fuel f bytes ef none result room defined =
      let code = code-of ts u input typed_program is main f ef in
      let func = code.2 in
      let act = active-same ts u input typed_program is main (first fuel) world refl refl in
      let home : Home = within ts u input typed_program is main world [] in
      let registers : ℕ → Value = m.passed 0 0 0 (λ r. Unset) in
      let d : ℕ = world.depth + frame_of ts main in
      let s : typed.State = at_entry ts u input typed_program is world main f [] fuel in
      let room_now : nat_le (m.next_active u g main (first fuel)).depth g.stack ≡ true = ap (λ (x : Active). nat_le x.depth g.stack) act ∙ room in
      let b : State = at home (entry_mark ts u input typed_program is code.0) func.start registers (begins (with_statics (m.statics_of u)) 1 d (m.shapes_of code.0)) s in
      let fit : ArgumentsFit (take f.params f.objects) world [] = subst (λ n. ArgumentsFit (take n f.objects) world []) (sym none) tt in
      let follows = body-follows ts u input typed_program is fuel (calls-do ts u input typed_program is fuel) main f code.0 func world fuel [] [] registers (with_statics (m.statics_of u)) ef code.1 (sane bytes) fit tt start-agrees (omega arith) in
      begins-with fuel b _ (Tests ∷ Saves (own ts u input typed_program is world main) ∷ [])
      (ap (λ i. m.enters u g i 0 0 (λ r. Unset) [] fuel (first fuel)) is.main
      ∙ enters-room ts u input typed_program is main 0 0 (λ r. Unset) [] fuel (first fuel) code.0 code.1 func.start func.first_parameter func.entry room_now
      ∙ ap (begun ts u input typed_program is code.0 func.start main registers [] fuel (first fuel)) act)
      (main-ends f world s b (does (inside ts u input typed_program is fuel world main) fuel f.body s) result follows.by defined)

  main-full : (fuel : ℕ) (f : q.Func) → Each (λ byte. byte < 256) input → slice_get p.funcs main ≡ Some f → nat_le (world.depth + frame_of ts main) g.stack ≡ false
      → (run : List Event) × Runs u g fuel (outcome_of ts (exhaust {A = Values} (start ts input fuel))) run
  main-full fuel f bytes ef full =
      let code = code-of ts u input typed_program is main f ef in
      let act = active-same ts u input typed_program is main (first fuel) world refl refl in
      let full_now : nat_le (m.next_active u g main (first fuel)).depth g.stack ≡ false = ap (λ (x : Active). nat_le x.depth g.stack) act ∙ full in
      stops-with fuel _ (Tests ∷ [])
      (ap (λ i. m.enters u g i 0 0 (λ r. Unset) [] fuel (first fuel)) is.main
      ∙ enters-full ts u input typed_program is main 0 0 (λ r. Unset) [] fuel (first fuel) code.0 code.1 full_now
      ∙ ap (λ x. m.Stops (End 1 (pos 0) [] x) (Tests ∷ [])) (ap (λ l. variables l (with_statics (m.statics_of u))) is.statics
      ∙ variables-same p.statics 0 world.store (with_statics (m.statics_of u)) (sane bytes).store start-agrees))

  main-enters : (fuel : ℕ) (f : q.Func) (c : Bool) → nat_le (world.depth + frame_of ts main) g.stack ≡ c → Each (λ byte. byte < 256) input → slice_get p.funcs main ≡ Some f → f.params ≡ 0 → f.result ≡ Some I32
      → IsDefined (outcome_of ts (either c (body_of ts (calls_of ts fuel) fuel main f [] world) exhaust (start ts input fuel)))
      → (run : List Event) × Runs u g fuel (outcome_of ts (either c (body_of ts (calls_of ts fuel) fuel main f [] world) exhaust (start ts input fuel))) run
  main-enters fuel f true e bytes ef none result defined = main-room fuel f bytes ef none result e defined
  main-enters fuel f false e bytes ef none result defined = main-full fuel f bytes ef e

  main-found : (fuel : ℕ) (found : Option q.Func) → slice_get p.funcs main ≡ found → IsMain found → Each (λ byte. byte < 256) input
      → IsDefined (outcome_of ts (enters ts (calls_of ts fuel) fuel main found [] (start ts input fuel)))
      → (run : List Event) × Runs u g fuel (outcome_of ts (enters ts (calls_of ts fuel) fuel main found [] (start ts input fuel))) run
  main-found fuel None e is_main bytes defined = absurd is_main
  main-found fuel (Some f) e is_main bytes defined = main-enters fuel f (nat_le (world.depth + frame_of ts main) g.stack) refl bytes e is_main.0 is_main.1 defined

  pub program-runs : (fuel : ℕ) → Each (λ byte. byte < 256) input → IsDefined (meaning ts input fuel) → (run : List Event) × Runs u g fuel (meaning ts input fuel) run
  unfolding meaning
  program-runs fuel bytes defined = main-found fuel (slice_get p.funcs main) refl typed_program.main bytes defined
