-- Code with further cuts does the same.
use Rattle.std.proofs.Common.{◌≡◌, ℕ, zero, suc, List, [], ◌∷◌, ◌++◌, Bool, true, false, Option, Some, None, refl, sym, ap, ◌∙◌, subst}
use Rattle.std.specs.Prelude.{slice_get, pos, nat_le, if◌then◌else◌}
use Rattle.std.proofs.lemmas.List.{append-nil}
use Rattle.im_store.specs.Checks.{Checked, Fine, Bad}
use Rattle.im_store.specs.Objects.{Value, Number, Null, Unset, Store}
use Rattle.im_store.specs.Outcomes.{Outcome}
use Rattle.im_block.specs.declared.code.Line.{Line}
use Rattle.im_block.specs.declared.code.Line.TheVariants.{Put, PutNull, Copy, Convert, Unary, Not, Compute, Compare, Move, Distance, Address, Read, Write, Reload, Spill, Cut, Call, Serve}
use Rattle.im_block.specs.declared.code.Exit.{Exit}
use Rattle.im_block.specs.declared.code.Exit.TheVariants.{Jump, Turn, Branch, Return}
use Rattle.im_block.specs.declared.code.Block.{Block}
use Rattle.im_block.specs.declared.unit.Function.{Function}
use Rattle.im_block.specs.declared.unit.Unit.{Unit as Code}
use Rattle.im_block.specs.Meaning.{Setting, Site, Event, Reads, Writes, Tests, Saves, Restores, Serves, Cuts, Found, Left, Active, Frame, State, Next, Goes, Stops, on_checked, takes, found, kept_by, with_rest, with_register, sets, computes, reads, writes, activates, waiting, passed, begun_by, enters, served, argument, does, goes_to, back, leaves, step_at, number_of, condition, next_active, ended}
use Rattle.im_block.specs.Runs.{start, before, Over, goes_on, exec, uncut}
use Rattle.im_block.specs.Shape.{IsOrdered, AllOrdered, Descends}
use Rattle.im_block.specs.Uncut.{WithCuts, Empty, Same, Added, SameBlock, SameBlocks, SameFunction, SameFunctions, SameButCuts, KeptButCuts}
use Rattle.im_block.proofs.Unitwise.{Both, zip_at, zip_old}

-- a waiting activation whose lines have further cuts
record TwinFrame (x y : Frame) : Type 0 where
  rest : List Line
  is : y ≡ with_rest x rest
  lines : WithCuts x.spot.rest rest

abbrev SameCallers : List Frame → List Frame → Type 0
SameCallers [] [] = Unit {0}
SameCallers (x ∷ xs) (y ∷ ys) = TwinFrame x y × SameCallers xs ys
SameCallers [] (y ∷ ys) = ⊥
SameCallers (x ∷ xs) [] = ⊥

abbrev twin : State → List Line → List Frame → State
twin s rest callers = record s { frame = with_rest s.frame rest; callers = callers }

-- a state whose lines have further cuts
record Twin (s t : State) : Type 0 where
  rest : List Line
  callers : List Frame
  is : t ≡ twin s rest callers
  lines : WithCuts s.frame.spot.rest rest
  waiting : SameCallers s.callers callers

-- what a step comes to
abbrev NextTwin : Next → Next → Type 0
NextTwin (Stops o m) (Stops p n) = (o ≡ p) × (m ≡ n)
NextTwin (Goes s m) (Goes t n) = (m ≡ n) × Twin s t
NextTwin (Stops o m) (Goes t n) = ⊥
NextTwin (Goes s m) (Stops p n) = ⊥

checked_twin : {A : Type 0} (c : Checked A) (f h : A → Next) → ((a : A) → NextTwin (f a) (h a)) → NextTwin (on_checked c f) (on_checked c h)
checked_twin (Fine a) f h p = p a
checked_twin (Bad why) f h p = (refl, refl)

takes_twin : (fuel : ℕ) (output : List ℕ) (f h : ℕ → Next) → ((less : ℕ) → NextTwin (f less) (h less)) → NextTwin (takes fuel output f) (takes fuel output h)
takes_twin zero output f h p = (refl, refl)
takes_twin (suc less) output f h p = p less

either_twin : (b : Bool) (x y x' y' : Next) → NextTwin x x' → NextTwin y y' → NextTwin (if b then x else y) (if b then x' else y')
either_twin true x y x' y' p q = p
either_twin false x y x' y' p q = q

-- what stands at one place
both_twin : {X : Type 0} (R : X → X → Type 0) (x y : Option X) (f h : X → Next) → Both R x y → ((old new : X) → R old new → NextTwin (f old) (h new)) → NextTwin (on_checked (found x) f) (on_checked (found y) h)
both_twin R None None f h b p = (refl, refl)
both_twin R None (Some y) f h b p = absurd b
both_twin R (Some x) None f h b p = absurd b
both_twin R (Some x) (Some y) f h b p = p x y b

kept_twin : (x y : Option Function) (registers : ℕ → Value) → Both SameFunction x y → kept_by y registers ≡ kept_by x registers
kept_twin None None registers b = refl
kept_twin None (Some y) registers b = absurd b
kept_twin (Some x) None registers b = absurd b
kept_twin (Some x) (Some y) registers b = ap (λ (f : Function). kept_by (Some f) registers) b.rest

-- to the next line
moved_twin : (s : State) (rest rest' before : List Line) (callers : List Frame) (registers : ℕ → Value) (store : Store) (input output : List ℕ) (fuel : ℕ) → SameCallers s.callers callers → WithCuts rest rest' → Twin (record s { frame = record (with_rest s.frame rest) { registers = registers }; store = store; input = input; output = output; fuel = fuel }) (record (twin s before callers) { frame = record (with_rest (twin s before callers).frame rest') { registers = registers }; store = store; input = input; output = output; fuel = fuel })
moved_twin s rest rest' before callers registers store input output fuel waiting e = record { rest = rest'; callers = callers; is = refl; lines = e; waiting = waiting }

computes_twin : (s : State) (to : ℕ) (c : Checked Value) (rest rest' before : List Line) (callers : List Frame) → SameCallers s.callers callers → WithCuts rest rest' → NextTwin (computes to c rest s) (computes to c rest' (twin s before callers))
computes_twin s to c rest rest' before callers waiting e =
    checked_twin c (λ v. sets to v rest s []) (λ v. sets to v rest' (twin s before callers) []) (λ v. (refl, moved_twin s rest rest' before callers (with_register s.frame.registers to v) s.store s.input s.output s.fuel waiting e))

reads_twin : (s : State) (to : ℕ) (site : Site) (c : Checked Found) (rest rest' before : List Line) (callers : List Frame) → SameCallers s.callers callers → WithCuts rest rest' → NextTwin (reads to site c rest s) (reads to site c rest' (twin s before callers))
reads_twin s to site c rest rest' before callers waiting e =
    checked_twin c _ _ (λ f. (refl, moved_twin s rest rest' before callers (with_register s.frame.registers to f.value) s.store s.input s.output s.fuel waiting e))

writes_twin : (s : State) (site : Site) (c : Checked Left) (rest rest' before : List Line) (callers : List Frame) → SameCallers s.callers callers → WithCuts rest rest' → NextTwin (writes site c rest s) (writes site c rest' (twin s before callers))
writes_twin s site c rest rest' before callers waiting e =
    checked_twin c _ _ (λ l. (refl, moved_twin s rest rest' before callers s.frame.registers l.store s.input s.output s.fuel waiting e))

module _ (u w : Code) (g : Setting) (all : SameFunctions u.functions.items w.functions.items) where
  abbrev v : Code
  v = record u { functions = w.functions }

  both_at : (i : ℕ) → Both SameFunction (slice_get u.functions.items i) (slice_get w.functions.items i)
  both_at i = zip_at SameFunction u.functions.items w.functions.items i all

  -- to a block
  to_twin : (s : State) (b fuel : ℕ) (before : List Line) (callers : List Frame) → SameCallers s.callers callers → NextTwin (goes_to u g b fuel s) (goes_to v g b fuel (twin s before callers))
  to_twin s b fuel before callers waiting =
      both_twin SameFunction (slice_get u.functions.items s.frame.function) (slice_get w.functions.items s.frame.function) _ _ (both_at s.frame.function) (λ old new same.
      both_twin SameBlock (slice_get old.blocks.items b) (slice_get new.blocks.items b) _ _ (zip_at SameBlock old.blocks.items new.blocks.items b same.blocks) (λ block other e. (
        refl,
        record {
          rest = other.lines.items;
          callers = callers;
          is = ap (λ x. record s { frame = record s.frame { spot = record { block = b; rest = other.lines.items; exit = x } }; callers = callers; fuel = fuel }) e.exit;
          lines = e.lines;
          waiting = waiting;
        },
      )))

  -- a new activation
  new_twin : (s : State) (i : ℕ) (old : Function) (active : Active) (registers : ℕ → Value) (callers callers' : List Frame) (fuel : ℕ) (block other : Block) (before : List Line) (waiting : List Frame) → SameCallers callers callers' → SameBlock block other → NextTwin (activates i old active registers callers fuel block s) (activates i old active registers callers' fuel other (twin s before waiting))
  new_twin s i old active registers callers callers' fuel block other before waiting same e = (
    refl,
    record {
      rest = other.lines.items;
      callers = callers';
      is = ap (λ x. record s {
        frame = record { function = i; spot = record { block = old.entry; rest = other.lines.items; exit = x }; active = active; registers = registers; to = 0 };
        callers = callers';
        store = begun_by old active s.store;
        begun = active.number;
        fuel = fuel;
      }) e.exit;
      lines = e.lines;
      waiting = same;
    },
  )

  enters_twin : (s : State) (i first count fuel : ℕ) (registers registers' : ℕ → Value) (callers callers' : List Frame) (before : List Line) (waiting : List Frame) → registers' ≡ registers → SameCallers callers callers' → NextTwin (enters u g i first count registers callers fuel s) (enters v g i first count registers' callers' fuel (twin s before waiting))
  enters_twin s i first count fuel registers registers' callers callers' before waiting e same =
      subst (λ r. NextTwin (enters u g i first count registers callers fuel s) (enters v g i first count r callers' fuel (twin s before waiting))) (sym e)
      (both_twin SameFunction (slice_get u.functions.items i) (slice_get w.functions.items i) _ _ (both_at i) (λ old new like.
      subst
      (λ (f : Function).
      NextTwin
      (if nat_le (next_active u g i s).depth g.stack then on_checked (found (slice_get old.blocks.items old.entry)) (λ block. activates i old (next_active u g i s) (passed old.first_parameter first count registers) callers fuel block s) else Stops (ended u 1 (pos 0) s) (Tests ∷ []))
      (if nat_le (next_active u g i s).depth g.stack then on_checked (found (slice_get f.blocks.items f.entry)) (λ block. activates i f (next_active u g i s) (passed f.first_parameter first count registers) callers' fuel block (twin s before waiting)) else Stops (ended u 1 (pos 0) s) (Tests ∷ [])))
      (sym like.rest)
      (either_twin (nat_le (next_active u g i s).depth g.stack) _ _ _ _
      (both_twin SameBlock (slice_get old.blocks.items old.entry) (slice_get new.blocks.items old.entry) _ _ (zip_at SameBlock old.blocks.items new.blocks.items old.entry like.blocks) (λ block other b.
      new_twin s i old (next_active u g i s) (passed old.first_parameter first count registers) callers callers' fuel block other before waiting same b))
      (refl, refl))))

  left_twin : (s : State) → kept_by (slice_get w.functions.items s.frame.function) s.frame.registers ≡ kept_by (slice_get u.functions.items s.frame.function) s.frame.registers
  left_twin s = kept_twin (slice_get u.functions.items s.frame.function) (slice_get w.functions.items s.frame.function) s.frame.registers (both_at s.frame.function)

  waiting_twin : (s : State) (to : ℕ) (rest rest' before : List Line) (callers : List Frame) → WithCuts rest rest' → TwinFrame (waiting u g s.frame to rest) (waiting v g (twin s before callers).frame to rest')
  waiting_twin s to rest rest' before callers e = record {
    rest = rest';
    is = ap (λ r. record (with_rest s.frame rest') { registers = r; to = to }) (left_twin s);
    lines = e;
  }

  served_twin : (s : State) (to : ℕ) (value : Value) (rest rest' before : List Line) (input output : List ℕ) (fuel : ℕ) (callers : List Frame) → SameCallers s.callers callers → WithCuts rest rest' → NextTwin (served u g to value rest input output fuel s) (served v g to value rest' input output fuel (twin s before callers))
  served_twin s to value rest rest' before input output fuel callers waiting e = (
    refl,
    record {
      rest = rest';
      callers = callers;
      is = ap (λ r. record s { frame = record (with_rest s.frame rest') { registers = with_register r to value }; callers = callers; input = input; output = output; fuel = fuel }) (left_twin s);
      lines = e;
      waiting = waiting;
    },
  )

  does_twin : (s : State) (line : Line) (rest rest' before : List Line) (callers : List Frame) → SameCallers s.callers callers → WithCuts rest rest' → NextTwin (does u g line rest s) (does v g line rest' (twin s before callers))
  does_twin s (Put to z) rest rest' before callers waiting e = computes_twin s to (Fine (Number z)) rest rest' before callers waiting e
  does_twin s (PutNull to) rest rest' before callers waiting e = computes_twin s to (Fine Null) rest rest' before callers waiting e
  does_twin s (Copy to from) rest rest' before callers waiting e = computes_twin s to (Fine (s.frame.registers from)) rest rest' before callers waiting e
  does_twin s (Convert to kind from) rest rest' before callers waiting e = computes_twin s to _ rest rest' before callers waiting e
  does_twin s (Unary to op kind from) rest rest' before callers waiting e = computes_twin s to _ rest rest' before callers waiting e
  does_twin s (Not to from) rest rest' before callers waiting e = computes_twin s to _ rest rest' before callers waiting e
  does_twin s (Compute to op kind left right) rest rest' before callers waiting e = computes_twin s to _ rest rest' before callers waiting e
  does_twin s (Compare to op kind left right) rest rest' before callers waiting e = computes_twin s to _ rest rest' before callers waiting e
  does_twin s (Move to size back pointer by) rest rest' before callers waiting e = computes_twin s to _ rest rest' before callers waiting e
  does_twin s (Distance to size left right) rest rest' before callers waiting e = computes_twin s to _ rest rest' before callers waiting e
  does_twin s (Address to place) rest rest' before callers waiting e = computes_twin s to _ rest rest' before callers waiting e
  does_twin s (Read to place kind access) rest rest' before callers waiting e = reads_twin s to _ _ rest rest' before callers waiting e
  does_twin s (Write place kind from access) rest rest' before callers waiting e = writes_twin s _ _ rest rest' before callers waiting e
  does_twin s (Reload to slot access) rest rest' before callers waiting e = reads_twin s to _ _ rest rest' before callers waiting e
  does_twin s (Spill slot from access) rest rest' before callers waiting e = writes_twin s _ _ rest rest' before callers waiting e
  does_twin s (Cut cause) rest rest' before callers waiting e = (refl, moved_twin s rest rest' before callers s.frame.registers s.store s.input s.output s.fuel waiting e)
  does_twin s (Call to i first count) rest rest' before callers same e =
      takes_twin s.fuel s.output _ _ (λ fuel.
      enters_twin s i first count fuel s.frame.registers s.frame.registers (waiting u g s.frame to rest ∷ s.callers) (waiting v g (twin s before callers).frame to rest' ∷ callers) before callers refl (waiting_twin s to rest rest' before callers e, same))
  does_twin s (Serve to service from) rest rest' before callers waiting e =
      takes_twin s.fuel s.output _ _ (λ fuel.
      checked_twin (argument from s.frame.registers) _ _ (λ z. served_twin s to _ rest rest' before _ _ fuel callers waiting e))

  back_twin : (s : State) (before : List Line) (callers callers' : List Frame) (value : Value) → SameCallers callers callers' → NextTwin (back u g callers value s) (back v g callers' value (twin s before callers'))
  back_twin s before [] [] value h = checked_twin (number_of value) _ _ (λ n. (refl, refl))
  back_twin s before [] (x ∷ xs) value h = absurd h
  back_twin s before (x ∷ xs) [] value h = absurd h
  back_twin s before (x ∷ xs) (y ∷ ys) value h =
      subst (λ z. NextTwin (back u g (x ∷ xs) value s) (back v g (z ∷ ys) value (twin s before (y ∷ ys)))) (sym h.0.is)
      (refl, record { rest = h.0.rest; callers = ys; is = refl; lines = h.0.lines; waiting = h.1 })

  leaves_twin : (s : State) (before : List Line) (callers : List Frame) (exit : Exit) → SameCallers s.callers callers → NextTwin (leaves u g exit s) (leaves v g exit (twin s before callers))
  leaves_twin s before callers (Jump b) waiting = to_twin s b s.fuel before callers waiting
  leaves_twin s before callers (Turn b) waiting = takes_twin s.fuel s.output _ _ (λ fuel. to_twin s b fuel before callers waiting)
  leaves_twin s before callers (Branch on a b) waiting =
      checked_twin (condition s.store (s.frame.registers on)) _ _ (λ holds. to_twin s (if holds then a else b) s.fuel before callers waiting)
  leaves_twin s before callers (Return from) waiting = back_twin s before s.callers callers _ waiting

uncut-append : (a b : List Event) → uncut (a ++ b) ≡ uncut a ++ uncut b
uncut-append [] b = refl
uncut-append (Cuts ∷ a) b = uncut-append a b
uncut-append (Reads site by o i ∷ a) b = ap (λ l. Reads site by o i ∷ l) (uncut-append a b)
uncut-append (Writes site by o i ∷ a) b = ap (λ l. Writes site by o i ∷ l) (uncut-append a b)
uncut-append (Tests ∷ a) b = ap (λ l. Tests ∷ l) (uncut-append a b)
uncut-append (Saves by ∷ a) b = ap (λ l. Saves by ∷ l) (uncut-append a b)
uncut-append (Restores by ∷ a) b = ap (λ l. Restores by ∷ l) (uncut-append a b)
uncut-append (Serves ∷ a) b = ap (λ l. Serves ∷ l) (uncut-append a b)

with_cut : (a : List Event) → uncut (a ++ Cuts ∷ []) ≡ uncut a
with_cut a = uncut-append a (Cuts ∷ []) ∙ append-nil (uncut a)

over_outcome : (o p : Outcome) (a b : List Event) → Over o a ≡ Over p b → o ≡ p
over_outcome o p a b e = cc

over_run : (o p : Outcome) (a b : List Event) → Over o a ≡ Over p b → a ≡ b
over_run o p a b e = cc

-- the new code comes to the same end
record Ends (v : Code) (g : Setting) (t : State) (events' : List Event) (o : Outcome) (run : List Event) : Type 0 where
  j : ℕ
  run' : List Event
  over : exec v g j t events' ≡ Over o run'
  same : uncut run' ≡ uncut run

record EndsNext (v : Code) (g : Setting) (b : Next) (events' : List Event) (o : Outcome) (run : List Event) : Type 0 where
  j : ℕ
  run' : List Event
  over : goes_on b (exec v g j) events' ≡ Over o run'
  same : uncut run' ≡ uncut run

-- from a step on
next_sim : (u v : Code) (g : Setting) (k : ℕ) (a b : Next) (events events' : List Event) (o : Outcome) (run : List Event) → ((s t : State) (events events' : List Event) → Twin s t → uncut events' ≡ uncut events → exec u g k s events ≡ Over o run → Ends v g t events' o run) → NextTwin a b → uncut events' ≡ uncut events → goes_on a (exec u g k) events ≡ Over o run → EndsNext v g b events' o run
next_sim u v g k (Stops x m) (Stops y n) events events' o run go h e r = record {
  j = 0;
  run' = events' ++ n;
  over = ap (λ p. Over p (events' ++ n)) (sym h.0 ∙ over_outcome x o (events ++ m) run r);
  same = uncut-append events' n ∙ ap (λ l. l ++ uncut n) e ∙ ap (λ l. uncut events ++ uncut l) (sym h.1) ∙ sym (uncut-append events m) ∙ ap uncut (over_run x o (events ++ m) run r);
}
next_sim u v g k (Stops x m) (Goes t n) events events' o run go h e r = absurd h
next_sim u v g k (Goes s m) (Stops y n) events events' o run go h e r = absurd h
next_sim u v g k (Goes s m) (Goes t n) events events' o run go h e r =
    let more : uncut (events' ++ n) ≡ uncut (events ++ m) = uncut-append events' n ∙ ap (λ l. l ++ uncut n) e ∙ ap (λ l. uncut events ++ uncut l) (sym h.0) ∙ sym (uncut-append events m) in
    let a = go s t (events ++ m) (events' ++ n) h.1 more r in
    record { j = a.j; run' = a.run'; over = a.over; same = a.same }

module _ (u w : Code) (g : Setting) (all : SameFunctions u.functions.items w.functions.items) (o : Outcome) (run : List Event) where
  abbrev new : Code
  new = record u { functions = w.functions }

  abbrev Sims : ℕ → Type 0
  Sims k = (s t : State) (events events' : List Event) → Twin s t → uncut events' ≡ uncut events → exec u g k s events ≡ Over o run → Ends new g t events' o run

  -- past further cuts, and then a step
  lines_sim : (k : ℕ) → Sims k → (s : State) (rest rest' : List Line) (callers : List Frame) (events events' : List Event) → WithCuts rest rest' → SameCallers s.callers callers → s.frame.spot.rest ≡ rest → uncut events' ≡ uncut events → goes_on (step_at u g rest s) (exec u g k) events ≡ Over o run → Ends new g (twin s rest' callers) events' o run
  lines_sim k go s rest rest' callers events events' Empty waiting here e r =
      let n = next_sim u new g k (leaves u g s.frame.spot.exit s) (leaves new g s.frame.spot.exit (twin s [] callers)) events events' o run go (leaves_twin u w g all s [] callers s.frame.spot.exit waiting) e r in
      record { j = suc n.j; run' = n.run'; over = n.over; same = n.same }
  lines_sim k go s rest rest' callers events events' (Same line old more d) waiting here e r =
      let n = next_sim u new g k (does u g line old s) (does new g line more (twin s (line ∷ more) callers)) events events' o run go (does_twin u w g all s line old more (line ∷ more) callers waiting d) e r in
      record { j = suc n.j; run' = n.run'; over = n.over; same = n.same }
  lines_sim k go s rest rest' callers events events' (Added cause old more d) waiting here e r =
      let n = lines_sim k go s rest more callers events (events' ++ Cuts ∷ []) d waiting here (with_cut events' ∙ e) r in
      record { j = suc n.j; run' = n.run'; over = n.over; same = n.same }

  sim : (k : ℕ) → Sims k
  sim zero s t events events' tw e r = cc
  sim (suc k) s t events events' tw e r =
      let n = lines_sim k (sim k) s s.frame.spot.rest tw.rest tw.callers events events' tw.lines tw.waiting refl e r in
      record { j = n.j; run' = n.run'; over = ap (λ x. exec new g n.j x events') tw.is ∙ n.over; same = n.same }

kept_with : (u w : Code) → SameFunctions u.functions.items w.functions.items → KeptButCuts u (record u { functions = w.functions })
kept_with u w all = record {
  runs = λ g n o run r.
      let new = record u { functions = w.functions } in
      let begin = enters_twin u w g all (before u g n) u.main 0 0 n (λ q. Unset) (λ q. Unset) [] [] [] [] refl tt in
      let a = next_sim u new g r.steps (start u g n) (start new g n) [] [] o run (sim u w g all o run r.steps) begin refl r.over in
      (a.run', record { steps = a.j; over = a.over }, a.same);
}

pub kept : (old new : Code) → SameButCuts old new → KeptButCuts old new
kept old new same = subst (λ v. KeptButCuts old v) (sym same.rest) (kept_with old new same.functions)

blocks_ordered : (xs ys : List Block) → SameBlocks xs ys → IsOrdered xs → IsOrdered ys
blocks_ordered xs ys h ordered = record {
  each = λ b block at.
      let o = zip_old SameBlock xs ys b block h at in
      subst (λ e. Descends e b) (sym o.is.exit) (ordered.each b o.old o.at);
}

pub ordered_kept : (old new : Code) → SameButCuts old new → AllOrdered old → AllOrdered new
ordered_kept old new all ordered = record {
  each = λ i g at.
      let o = zip_old SameFunction old.functions.items new.functions.items i g all.functions at in
      blocks_ordered o.old.blocks.items g.blocks.items o.is.blocks (ordered.each i o.old o.at);
}
