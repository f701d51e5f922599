-- More fuel is wanted only where none is left.
use Rattle.std.proofs.Common.{◌≡◌, ℕ, zero, suc, Bool, true, false, cond, List, [], ◌∷◌, refl}
use Rattle.std.specs.Prelude.{slice_get, nat_le, Some, None}
use Rattle.im_store.specs.Checks.{Checked, Fine, Bad}
use Rattle.im_store.specs.Objects.{Value, Unset}
use Rattle.im_store.specs.Outcomes.{Undef, More, End}
use Rattle.im_block.specs.declared.code.Line.{Line}
use Rattle.im_block.specs.declared.code.Line.TheVariants.{Put, PutNull, Copy, Convert, Unary, Not, Compute, Compare, Move, Distance, Address, Read, Write, Reload, Spill, Cut, Call, Serve}
use Rattle.im_block.specs.declared.code.Exit.{Exit}
use Rattle.im_block.specs.declared.code.Exit.TheVariants.{Jump, Turn, Branch, Return}
use Rattle.im_block.specs.declared.code.Block.{Block}
use Rattle.im_block.specs.declared.unit.Function.{Function}
use Rattle.im_block.specs.declared.unit.Unit.{Unit as Code}
use Rattle.im_block.specs.Meaning.{Setting, Site, Found, Left, Frame, State, Next, Goes, Stops, on_checked, takes, computes, reads, writes, enters, number_of, condition, found, next_active, does, goes_to, back, leaves, step_at, step}
use Rattle.im_block.specs.Runs.{before, start}

abbrev pub Paid : ℕ → Next → Type 0
Paid fuel (Goes s events) = Unit {0}
Paid fuel (Stops (End reason status output shows) events) = Unit {0}
Paid fuel (Stops (More output) events) = fuel ≡ 0
Paid fuel (Stops (Undef why) events) = Unit {0}

checked_paid : {A : Type 0} (n : ℕ) (o : Checked A) (go : A → Next) → ((a : A) → Paid n (go a)) → Paid n (on_checked o go)
checked_paid n (Fine a) go h = h a
checked_paid n (Bad why) go h = tt

takes_paid : (n : ℕ) (output : List ℕ) (go : ℕ → Next) → ((less : ℕ) → Paid n (go less)) → Paid n (takes n output go)
takes_paid zero output go h = refl
takes_paid (suc less) output go h = h less

cond_paid : (n : ℕ) (b : Bool) (x y : Next) → Paid n x → Paid n y → Paid n (cond b x y)
cond_paid n true x y h k = h
cond_paid n false x y h k = k

computes_paid : (to : ℕ) (o : Checked Value) (rest : List Line) (s : State) → Paid s.fuel (computes to o rest s)
computes_paid to o rest s = checked_paid s.fuel o _ (λ v. tt)

reads_paid : (to : ℕ) (site : Site) (o : Checked Found) (rest : List Line) (s : State) → Paid s.fuel (reads to site o rest s)
reads_paid to site o rest s = checked_paid s.fuel o _ (λ v. tt)

writes_paid : (site : Site) (o : Checked Left) (rest : List Line) (s : State) → Paid s.fuel (writes site o rest s)
writes_paid site o rest s = checked_paid s.fuel o _ (λ v. tt)

enters_paid : (u : Code) (g : Setting) (i first count fuel n : ℕ) (registers : ℕ → Value) (callers : List Frame) (s : State) → Paid n (enters u g i first count registers callers fuel s)
enters_paid u g i first count fuel n registers callers s =
    checked_paid {A = Function} n (found (slice_get u.functions.items i)) _ (λ f.
    cond_paid n (nat_le (next_active u g i s).depth g.stack) _ _ (checked_paid {A = Block} n (found (slice_get f.blocks.items f.entry)) _ (λ b. tt)) tt)

to_paid : (u : Code) (g : Setting) (b fuel n : ℕ) (s : State) → Paid n (goes_to u g b fuel s)
to_paid u g b fuel n s = checked_paid {A = Function} n (found (slice_get u.functions.items s.frame.function)) _ (λ f. checked_paid {A = Block} n (found (slice_get f.blocks.items b)) _ (λ block. tt))

does_paid : (u : Code) (g : Setting) (line : Line) (rest : List Line) (s : State) → Paid s.fuel (does u g line rest s)
does_paid u g (Put to z) rest s = tt
does_paid u g (PutNull to) rest s = tt
does_paid u g (Copy to from) rest s = tt
does_paid u g (Convert to kind from) rest s = computes_paid to _ rest s
does_paid u g (Unary to op kind from) rest s = computes_paid to _ rest s
does_paid u g (Not to from) rest s = computes_paid to _ rest s
does_paid u g (Compute to op kind left right) rest s = computes_paid to _ rest s
does_paid u g (Compare to op kind left right) rest s = computes_paid to _ rest s
does_paid u g (Move to size back pointer by) rest s = computes_paid to _ rest s
does_paid u g (Distance to size left right) rest s = computes_paid to _ rest s
does_paid u g (Address to place) rest s = computes_paid to _ rest s
does_paid u g (Read to place kind access) rest s = reads_paid to _ _ rest s
does_paid u g (Write place kind from access) rest s = writes_paid _ _ rest s
does_paid u g (Reload to slot access) rest s = reads_paid to _ _ rest s
does_paid u g (Spill slot from access) rest s = writes_paid _ _ rest s
does_paid u g (Cut cause) rest s = tt
does_paid u g (Call to i first count) rest s = takes_paid s.fuel s.output _ (λ less. enters_paid u g i first count less s.fuel s.frame.registers _ s)
does_paid u g (Serve to service None) rest s = takes_paid s.fuel s.output _ (λ less. tt)
does_paid u g (Serve to service (Some from)) rest s = takes_paid s.fuel s.output _ (λ less. checked_paid s.fuel (number_of (s.frame.registers from)) _ (λ z. tt))

back_paid : (u : Code) (g : Setting) (callers : List Frame) (v : Value) (s : State) → Paid s.fuel (back u g callers v s)
back_paid u g [] v s = checked_paid s.fuel (number_of v) _ (λ n. tt)
back_paid u g (w ∷ ws) v s = tt

leaves_paid : (u : Code) (g : Setting) (exit : Exit) (s : State) → Paid s.fuel (leaves u g exit s)
leaves_paid u g (Jump b) s = to_paid u g b s.fuel s.fuel s
leaves_paid u g (Turn b) s = takes_paid s.fuel s.output _ (λ less. to_paid u g b less s.fuel s)
leaves_paid u g (Branch on a b) s = checked_paid s.fuel (condition s.store (s.frame.registers on)) _ (λ t. to_paid u g (cond t a b) s.fuel s.fuel s)
leaves_paid u g (Return from) s = back_paid u g s.callers _ s

at_paid : (u : Code) (g : Setting) (lines : List Line) (s : State) → Paid s.fuel (step_at u g lines s)
at_paid u g [] s = leaves_paid u g s.frame.spot.exit s
at_paid u g (line ∷ rest) s = does_paid u g line rest s

pub step_paid : (u : Code) (g : Setting) (s : State) → Paid s.fuel (step u g s)
step_paid u g s = at_paid u g s.frame.spot.rest s

pub start_paid : (u : Code) (g : Setting) (n : ℕ) → Paid n (start u g n)
start_paid u g n = enters_paid u g u.main 0 0 n n (λ r. Unset) [] (before u g n)
