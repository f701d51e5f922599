-- What the forms of a line come to.
use Rattle.std.proofs.Common.{◌≡◌, ◌∙◌, ℕ, zero, suc, ap, sym, subst, refl, List, [], ◌∷◌}
use Rattle.std.specs.Prelude.{Option, Some, None, slice_get}
use Rattle.std.specs.Prelude.{Result as Either}
use Rattle.im_store.specs.declared.undefined.Undefined.{Undefined}
use Rattle.im_store.specs.declared.undefined.Undefined.TheVariants.{MissingResult}
use Rattle.im_store.specs.Checks.{Checked, Fine, Bad}
use Rattle.im_store.specs.Objects as o
use Rattle.im_block.specs.declared.code.Line.{Line}
use Rattle.im_block.specs.declared.code.Line.TheVariants.{Put, PutNull, Copy, Convert, Unary, Not, Compute, Compare, Move, Distance, Address, Read, Write, Reload, Spill, Cut, Call, Serve}
use Rattle.im_block.specs.declared.code.Block.{Block}
use Rattle.im_block.specs.declared.unit.Function.{Function}
use Rattle.im_block.specs.declared.unit.Unit.{Unit as Blocks}
use Rattle.im_block.specs.Meaning as m
use Rattle.im_block.specs.Meaning.{Setting, Event, Next, Goes, Stops, on_checked, found}
use Rattle.im_eval_store.specs.declared.memory.Memory.{Memory}
use Rattle.im_eval_store.specs.declared.value.Value.{Value}
use Rattle.im_eval_store.specs.Living.{Holds}
use Rattle.im_eval_store.specs.Shown.{Checks}
use Rattle.im_block_run.specs.Shown.{plain, IsFrame, IsState, Halts, GoesTo}
use Rattle.im_block_run.specs.declared.state.Frame.{Frame}
use Rattle.im_block_run.specs.declared.state.State.{State}
use Rattle.im_block_run.specs.declared.stop.Stop.TheVariants as stop
use Rattle.im_block_run.proofs.States.{with-frame}

-- a frame of the meaning in which a register was set
abbrev pub set_frame : m.Frame → ℕ → o.Value → m.Frame
set_frame t to v = record t { registers = m.with_register t.registers to v }

module _ (a : State) (s : m.State) (h : IsState a s) where
  -- a register has what was computed, or what was found
  pub computes-fine : (f : Frame) (to : ℕ) (v : o.Value) (c : Checked o.Value) → c ≡ Fine v → IsFrame f (set_frame s.frame to v) → GoesTo (record a { frame = f }) (m.computes to c s.frame.spot.rest s)
  computes-fine f to v c e is =
      (record s { frame = set_frame s.frame to v }, [], ap (λ x. m.computes to x s.frame.spot.rest s) e, with-frame a s f (set_frame s.frame to v) h is)

  pub reads-fine : (f : Frame) (to : ℕ) (site : m.Site) (at : m.Location) (v : o.Value) (c : Checked m.Found) → c ≡ Fine (record { at = at; value = v }) → IsFrame f (set_frame s.frame to v) → GoesTo (record a { frame = f }) (m.reads to site c s.frame.spot.rest s)
  reads-fine f to site at v c e is = (
    record s { frame = set_frame s.frame to v },
    m.Reads site s.frame.active at.object at.offset ∷ [],
    ap (λ x. m.reads to site x s.frame.spot.rest s) e,
    with-frame a s f (set_frame s.frame to v) h is,
  )

  pub writes-fine : (memory : Memory) (site : m.Site) (left : m.Left) (c : Checked m.Left) → c ≡ Fine left → Holds memory a.begun (plain left.store) → GoesTo (record a { memory = memory }) (m.writes site c s.frame.spot.rest s)
  writes-fine memory site left c e held = (
    record s { store = left.store },
    m.Writes site s.frame.active left.at.object left.at.offset ∷ [],
    ap (λ x. m.writes site x s.frame.spot.rest s) e,
    record {
      running = record { frame = h.running.frame; callers = h.running.callers; input = h.running.input; output = h.running.output; fuel = h.running.fuel };
      begun = h.begun;
      held = held;
    },
  )

-- what has no meaning
pub computes-bad : (u : Blocks) (a : State) (s : m.State) (to : ℕ) (why : Undefined) (c : Checked o.Value) → c ≡ Bad why → Halts u (stop.Undefined why) a (m.computes to c s.frame.spot.rest s)
computes-bad u a s to why c e = ([], ap (λ x. m.computes to x s.frame.spot.rest s) e)

pub reads-bad : (u : Blocks) (a : State) (s : m.State) (to : ℕ) (site : m.Site) (why : Undefined) (c : Checked m.Found) → c ≡ Bad why → Halts u (stop.Undefined why) a (m.reads to site c s.frame.spot.rest s)
reads-bad u a s to site why c e = ([], ap (λ x. m.reads to site x s.frame.spot.rest s) e)

pub writes-bad : (u : Blocks) (a : State) (s : m.State) (site : m.Site) (why : Undefined) (c : Checked m.Left) → c ≡ Bad why → Halts u (stop.Undefined why) a (m.writes site c s.frame.spot.rest s)
writes-bad u a s site why c e = ([], ap (λ x. m.writes site x s.frame.spot.rest s) e)

-- what a check gives of equal values
pub checks-at : (r : Either Value Undefined) (of : o.Value → Checked o.Value) (x y : o.Value) → x ≡ y → Checks r (of y) → Checks r (of x)
checks-at r of x y e h = subst (λ v. Checks r (of v)) (sym e) h

pub checks-at-both : (r : Either Value Undefined) (of : o.Value → o.Value → Checked o.Value) (x y z w : o.Value) → x ≡ y → z ≡ w → Checks r (of y w) → Checks r (of x z)
checks-at-both r of x y z w e f h = subst (λ v. Checks r (of v z)) (sym e) (subst (λ v. Checks r (of y v)) (sym f) h)

takes-same : (n : ℕ) (output : List ℕ) (f h : ℕ → Next) → ((k : ℕ) → f k ≡ h k) → m.takes n output f ≡ m.takes n output h
takes-same zero output f h e = refl
takes-same (suc n) output f h e = e n

-- a line is done the same once it was taken
module _ (u : Blocks) (g : Setting) where
  pub does-same : (line : Line) (rest : List Line) (s : m.State) → m.does u g line rest (record s { frame = m.with_rest s.frame rest }) ≡ m.does u g line rest s
  does-same (Put to z) rest s = refl
  does-same (PutNull to) rest s = refl
  does-same (Copy to from) rest s = refl
  does-same (Convert to kind from) rest s = refl
  does-same (Unary to op kind from) rest s = refl
  does-same (Not to from) rest s = refl
  does-same (Compute to op kind left right) rest s = refl
  does-same (Compare to op kind left right) rest s = refl
  does-same (Move to size back pointer by) rest s = refl
  does-same (Distance to size left right) rest s = refl
  does-same (Address to place) rest s = refl
  does-same (Read to place kind access) rest s = refl
  does-same (Write place kind from access) rest s = refl
  does-same (Reload to slot access) rest s = refl
  does-same (Spill slot from access) rest s = refl
  does-same (Cut cause) rest s = refl
  does-same (Call to i first count) rest s = refl
  does-same (Serve to service from) rest s = refl

-- to the start of a block
abbrev pub into_block : m.State → ℕ → ℕ → Option Block → Next
into_block s b fuel r = on_checked (found r) (λ block. Goes (record s { frame = record s.frame { spot = m.at_block b block }; fuel = fuel }) [])

abbrev pub into_function : m.State → ℕ → ℕ → Option Function → Next
into_function s b fuel r = on_checked (found r) (λ f. into_block s b fuel (slice_get f.blocks.items b))

module _ (u : Blocks) (g : Setting) (a : State) (s : m.State) (b : ℕ) where
  pub no-function : slice_get u.functions.items s.frame.function ≡ None → Halts u (stop.Undefined MissingResult) a (m.goes_to u g b s.fuel s)
  no-function e = ([], ap (into_function s b s.fuel) e)

  pub no-block : (f : Function) → slice_get u.functions.items s.frame.function ≡ Some f → slice_get f.blocks.items b ≡ None → Halts u (stop.Undefined MissingResult) a (m.goes_to u g b s.fuel s)
  no-block f e n = ([], ap (into_function s b s.fuel) e ∙ ap (into_block s b s.fuel) n)

  pub a-block : (f : Function) (block : Block) (new : Frame) → IsState a s → slice_get u.functions.items s.frame.function ≡ Some f → slice_get f.blocks.items b ≡ Some block → IsFrame new (record s.frame { spot = m.at_block b block })
      → GoesTo (record a { frame = new }) (m.goes_to u g b s.fuel s)
  a-block f block new h e n is = (
    record s { frame = record s.frame { spot = m.at_block b block } },
    [],
    ap (into_function s b s.fuel) e ∙ ap (into_block s b s.fuel) n,
    with-frame a s new (record s.frame { spot = m.at_block b block }) h is,
  )
