-- The cuts that a run passes, and the built-in functions that it calls, are among those that its lines weigh.
use Rattle.std.proofs.Common.{◌≡◌, ℕ, zero, suc, ◌+◌, ◌≤◌, Bool, true, false, List, [], ◌∷◌, ◌++◌, Some, None, refl, ap, subst, arith}
use Rattle.std.specs.Prelude.{if◌then◌else◌, nat_le, slice_get}
use Rattle.im_store.specs.Checks.{Checked, Fine, Bad}
use Rattle.im_store.specs.Outcomes.{Outcome}
use Rattle.im_block.specs.declared.code.Line.{Line}
use Rattle.im_block.specs.declared.code.Line.TheVariants.{Put, PutNull, Copy, Convert, Unary, Not, Compute, Compare, Move, Distance, Address, Read, Write, Reload, Spill, Cut, Call, Serve}
use Rattle.im_block.specs.declared.code.Exit.{Exit}
use Rattle.im_block.specs.declared.code.Exit.TheVariants.{Jump, Turn, Branch, Return}
use Rattle.im_block.specs.declared.unit.Unit.{Unit as Code}
use Rattle.im_block.specs.Meaning.{Setting, Event, Reads, Writes, Tests, Saves, Restores, Serves, Cuts, Frame, State, Next, Goes, Stops, on_checked, takes, found, number_of, condition, Found, Left, Site, enters, waiting, next_active, argument, goes_to, back, leaves, does, step_at, step, computes, reads, writes}
use Rattle.im_store.specs.Objects.{Value, Unset}
use Rattle.im_block.specs.Runs.{Over, At, goes_on, exec, Runs, start, before}
use Rattle.im_block.specs.Shape.{line_weight, next_weight, spot_weight, after, spent}
use Rattle.im_select_relation.specs.Linking.{Linking}
use Rattle.im_select_executes.specs.Executing.{cuts}

-- a cut, and so many within a built-in function
abbrev pub passed_cuts : ℕ → List Event → ℕ
passed_cuts flips [] = 0
passed_cuts flips (Reads site by o i ∷ run) = passed_cuts flips run
passed_cuts flips (Writes site by o i ∷ run) = passed_cuts flips run
passed_cuts flips (Tests ∷ run) = passed_cuts flips run
passed_cuts flips (Saves by ∷ run) = passed_cuts flips run
passed_cuts flips (Restores by ∷ run) = passed_cuts flips run
passed_cuts flips (Serves ∷ run) = flips + passed_cuts flips run
passed_cuts flips (Cuts ∷ run) = 1 + passed_cuts flips run

passed_append : (flips : ℕ) (xs ys : List Event) → passed_cuts flips (xs ++ ys) ≡ passed_cuts flips xs + passed_cuts flips ys
passed_append flips [] ys = omega arith
passed_append flips (Reads site by o i ∷ xs) ys = passed_append flips xs ys
passed_append flips (Writes site by o i ∷ xs) ys = passed_append flips xs ys
passed_append flips (Tests ∷ xs) ys = passed_append flips xs ys
passed_append flips (Saves by ∷ xs) ys = passed_append flips xs ys
passed_append flips (Restores by ∷ xs) ys = passed_append flips xs ys
passed_append flips (Serves ∷ xs) ys = let h = passed_append flips xs ys in omega arith
passed_append flips (Cuts ∷ xs) ys = let h = passed_append flips xs ys in omega arith

module _ (flips : ℕ) where
  abbrev passes : Next → ℕ
  passes (Goes s events) = passed_cuts flips events
  passes (Stops o events) = passed_cuts flips events

  on_few : {A : Type 0} (c : Checked A) (go : A → Next) (n : ℕ) → ((a : A) → passes (go a) ≤ n) → passes (on_checked c go) ≤ n
  on_few (Fine a) go n h = h a
  on_few (Bad why) go n h = omega arith

  takes_few : (fuel : ℕ) (output : List ℕ) (go : ℕ → Next) (n : ℕ) → ((f : ℕ) → passes (go f) ≤ n) → passes (takes fuel output go) ≤ n
  takes_few zero output go n h = omega arith
  takes_few (suc fuel) output go n h = h fuel

  if_few : (b : Bool) (x y : Next) (n : ℕ) → passes x ≤ n → passes y ≤ n → passes (if b then x else y) ≤ n
  if_few true x y n h k = h
  if_few false x y n h k = k

  module _ (u : Code) (g : Setting) where
    enters_few : (i first count : ℕ) (registers : ℕ → Value) (callers : List Frame) (fuel : ℕ) (s : State) → passes (enters u g i first count registers callers fuel s) ≤ 0
    enters_few i first count registers callers fuel s =
        on_few (found (slice_get u.functions.items i)) _ 0 (λ f.
        if_few (nat_le (next_active u g i s).depth g.stack) _ _ 0
        (on_few (found (slice_get f.blocks.items f.entry)) _ 0 (λ block. omega arith))
        (omega arith))

    goes_few : (b fuel : ℕ) (s : State) → passes (goes_to u g b fuel s) ≤ 0
    goes_few b fuel s = on_few (found (slice_get u.functions.items s.frame.function)) _ 0 (λ f. on_few (found (slice_get f.blocks.items b)) _ 0 (λ block. omega arith))

    back_few : (callers : List Frame) (v : Value) (s : State) → passes (back u g callers v s) ≤ 0
    back_few [] v s = on_few (number_of v) _ 0 (λ z. omega arith)
    back_few (frame ∷ callers) v s = omega arith

    leaves_few : (exit : Exit) (s : State) → passes (leaves u g exit s) ≤ 0
    leaves_few (Jump b) s = goes_few b s.fuel s
    leaves_few (Turn b) s = takes_few s.fuel s.output _ 0 (λ fuel. goes_few b fuel s)
    leaves_few (Branch on a b) s = on_few (condition s.store (s.frame.registers on)) _ 0 (λ holds. goes_few (if holds then a else b) s.fuel s)
    leaves_few (Return None) s = back_few s.callers _ s
    leaves_few (Return (Some r)) s = back_few s.callers _ s

    computes_few : (to : ℕ) (c : Checked Value) (rest : List Line) (s : State) → passes (computes to c rest s) ≤ 0
    computes_few to c rest s = on_few c _ 0 (λ v. omega arith)

    reads_few : (to : ℕ) (site : Site) (c : Checked Found) (rest : List Line) (s : State) → passes (reads to site c rest s) ≤ 0
    reads_few to site c rest s = on_few c _ 0 (λ f. omega arith)

    writes_few : (site : Site) (c : Checked Left) (rest : List Line) (s : State) → passes (writes site c rest s) ≤ 0
    writes_few site c rest s = on_few c _ 0 (λ l. omega arith)

    does_few : (p : Linking) → p.flips ≡ flips → (line : Line) (rest : List Line) (s : State) → passes (does u g line rest s) ≤ line_weight (cuts p) line
    does_few p e (Put to z) rest s = omega arith
    does_few p e (PutNull to) rest s = omega arith
    does_few p e (Copy to from) rest s = omega arith
    does_few p e (Convert to kind from) rest s = computes_few to _ rest s
    does_few p e (Unary to op kind from) rest s = computes_few to _ rest s
    does_few p e (Not to from) rest s = computes_few to _ rest s
    does_few p e (Compute to op kind left right) rest s = computes_few to _ rest s
    does_few p e (Compare to op kind left right) rest s = computes_few to _ rest s
    does_few p e (Move to size back pointer by) rest s = computes_few to _ rest s
    does_few p e (Distance to size left right) rest s = computes_few to _ rest s
    does_few p e (Address to place) rest s = computes_few to _ rest s
    does_few p e (Read to place kind access) rest s = reads_few to _ _ rest s
    does_few p e (Write place kind from access) rest s = writes_few _ _ rest s
    does_few p e (Reload to slot access) rest s = reads_few to _ _ rest s
    does_few p e (Spill slot from access) rest s = writes_few _ _ rest s
    does_few p e (Cut cause) rest s = omega arith
    does_few p e (Call to i first count) rest s = takes_few s.fuel s.output _ 0 (λ fuel. enters_few i first count s.frame.registers (waiting u g s.frame to rest ∷ s.callers) fuel s)
    does_few p e (Serve to service from) rest s =
        let h : passes (does u g (Serve to service from) rest s) ≤ flips = takes_few s.fuel s.output _ flips (λ fuel. on_few (argument from s.frame.registers) _ flips (λ z. omega arith)) in
        subst (λ n. passes (does u g (Serve to service from) rest s) ≤ n) (let q : flips ≡ 0 + p.flips = omega arith in q) h

    step_few : (p : Linking) → p.flips ≡ flips → (rest : List Line) (s : State) → passes (step_at u g rest s) ≤ next_weight (cuts p) rest s.frame.spot.exit
    step_few p e [] s = leaves_few s.frame.spot.exit s
    step_few p e (line ∷ rest) s = does_few p e line rest s

    abbrev Few : Linking → ℕ → Outcome → List Event → Type 0
    Few p k o run = (s : State) (events : List Event) → exec u g k s events ≡ Over o run → passed_cuts flips run ≤ passed_cuts flips events + spent u g (cuts p) k s

    next_few : (p : Linking) (k w : ℕ) (x : Next) (events : List Event) (o : Outcome) (run : List Event) → Few p k o run → passes x ≤ w → goes_on x (exec u g k) events ≡ Over o run → passed_cuts flips run ≤ passed_cuts flips events + (w + after x (spent u g (cuts p) k))
    next_few p k w (Stops o' more) events o run rest few q =
        let same : events ++ more ≡ run = cc in
        let h = passed_append flips events more in
        let t = ap (passed_cuts flips) same in
        omega arith
    next_few p k w (Goes s more) events o run rest few q =
        let h = rest s (events ++ more) q in
        let a = passed_append flips events more in
        omega arith

    exec_few : (p : Linking) → p.flips ≡ flips → (k : ℕ) (o : Outcome) (run : List Event) → Few p k o run
    exec_few p e zero o run s events q = let bad : At s events ≡ Over o run = q in cc
    exec_few p e (suc k) o run s events q =
        next_few p k (spot_weight (cuts p) s.frame.spot) (step u g s) events o run (exec_few p e k o run) (step_few p e s.frame.spot.rest s) q

pub run_few : (p : Linking) (u : Code) (g : Setting) (n : ℕ) (o : Outcome) (run : List Event) (r : Runs u g n o run) → passed_cuts p.flips run ≤ after (start u g n) (spent u g (cuts p) r.steps)
run_few p u g n o run r =
    let few = enters_few p.flips u g u.main 0 0 (λ q. Unset) [] n (before u g n) in
    let h = next_few p.flips u g p r.steps 0 (start u g n) [] o run (exec_few p.flips u g p refl r.steps o run) few r.over in
    omega arith
