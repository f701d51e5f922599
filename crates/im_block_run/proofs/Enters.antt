-- Calls: a function is entered, and its caller waits.
use Rattle.std.proofs.Common.{◌≡◌, ◌∙◌, ℕ, ap, sym, subst, refl, List, [], ◌∷◌}
use Rattle.std.specs.Prelude.{Err, Option, Some, None, slice_get, pos, Bool, true, false, nat_le, if◌then◌else◌}
use Rattle.im_store.specs.declared.undefined.Undefined.TheVariants.{MissingResult}
use Rattle.im_store.specs.Objects as o
use Rattle.im_store.specs.Outcomes.{Undef}
use Rattle.im_block.specs.declared.code.Block.{Block}
use Rattle.im_block.specs.declared.unit.Function.{Function}
use Rattle.im_block.specs.declared.unit.Unit.{Unit as Blocks}
use Rattle.im_block.specs.Meaning as m
use Rattle.im_block.specs.Meaning.{Setting, Event, Next, Goes, Stops, on_checked, found}
use Rattle.im_eval_store.specs.declared.memory.Memory.{Memory}
use Rattle.im_eval_store.specs.Living.{Holds}
use Rattle.im_block_run.specs.Entered.{HasEntered, HasNoRoom, Enters}
use Rattle.im_block_run.specs.Shown.{plain, IsFrame, IsRunning, IsState, GoesTo, Halts}
use Rattle.im_block_run.specs.declared.state.Frame.{Frame}
use Rattle.im_block_run.specs.declared.state.State.{State}
use Rattle.im_block_run.specs.declared.stop.Stop.{Stop}
use Rattle.im_block_run.specs.declared.stop.Stop.TheVariants as stop

module _ (u : Blocks) (g : Setting) (i first count : ℕ) (registers : ℕ → o.Value) (callers : List m.Frame) (fuel : ℕ) (s : m.State) where
  abbrev at_entry : Function → Option Block → Next
  at_entry f r =
      on_checked (found r)
      (λ block. m.activates i f (m.next_active u g i s) (m.passed f.first_parameter first count registers) callers fuel block s)

  abbrev in_room : Function → Bool → Next
  in_room f room = if room then at_entry f (slice_get f.blocks.items f.entry) else Stops (m.ended u 1 (pos 0) s) (m.Tests ∷ [])

  abbrev of_function : Option Function → Next
  of_function r = on_checked (found r) (λ f. in_room f (nat_le (m.next_active u g i s).depth g.stack))

  abbrev entering : Next
  entering = m.enters u g i first count registers callers fuel s

  pub no-function : slice_get u.functions.items i ≡ None → (events : List Event) × (entering ≡ Stops (Undef MissingResult) events)
  no-function e = ([], ap of_function e)

  module _ (f : Function) (e : slice_get u.functions.items i ≡ Some f) where
    pub no-room : (memory : Memory) → nat_le (m.next_active u g i s).depth g.stack ≡ false → Holds memory s.begun (plain s.store) → HasNoRoom u memory s entering
    no-room memory full h = record { events = m.Tests ∷ []; stops = ap of_function e ∙ ap (in_room f) full; held = h }

    module _ (room : nat_le (m.next_active u g i s).depth g.stack ≡ true) where
      pub no-entry : slice_get f.blocks.items f.entry ≡ None → (events : List Event) × (entering ≡ Stops (Undef MissingResult) events)
      no-entry n = ([], ap of_function e ∙ ap (in_room f) room ∙ ap (at_entry f) n)

      pub has-entered : (block : Block) (frame : Frame) (memory : Memory) (number depth : ℕ) → slice_get f.blocks.items f.entry ≡ Some block → m.next_active u g i s ≡ record { number = number; depth = depth }
          → IsFrame frame (record { function = i; spot = m.at_block f.entry block; active = record { number = number; depth = depth }; registers = m.passed f.first_parameter first count registers; to = 0 })
          → Holds memory number (plain (m.begun_by f (record { number = number; depth = depth }) s.store)) → HasEntered frame memory callers fuel s entering
      has-entered block frame memory number depth b act is held =
          let active : m.Active = record { number = number; depth = depth } in
          let new : m.Frame = record { function = i; spot = m.at_block f.entry block; active = active; registers = m.passed f.first_parameter first count registers; to = 0 } in
          let store : o.Store = m.begun_by f active s.store in
          let same : number ≡ frame.number = ap (λ (x : m.Active). x.number) is.active in
          let goes : ℕ → Next = λ n. Goes (record { frame = new; callers = callers; store = store; begun = n; input = s.input; output = s.output; fuel = fuel }) (m.Tests ∷ m.Saves active ∷ []) in
          record {
            frame = new;
            store = store;
            events = m.Tests ∷ m.Saves active ∷ [];
            goes =
                ap of_function e ∙ ap (in_room f) room ∙ ap (at_entry f) b
                ∙ ap (λ (x : m.Active). m.activates i f x (m.passed f.first_parameter first count registers) callers fuel block s) act
                ∙ ap goes same;
            is = is;
            held = subst (λ n. Holds memory n (plain store)) same held;
          }

-- a frame that has begun runs, and its caller waits
pub called : (a : State) (s : m.State) (frame : Frame) (memory : Memory) (callers : List m.Frame) (fuel : ℕ) (r : Next) → HasEntered frame memory callers fuel s r → a.memory ≡ memory → a.begun ≡ frame.number
    → ((t : m.State) → IsFrame frame t.frame → t.callers ≡ callers → t.input ≡ s.input → t.output ≡ s.output → t.fuel ≡ fuel → IsRunning a t) → GoesTo a r
called a s frame memory callers fuel r e same begun running =
    let t : m.State = record { frame = e.frame; callers = callers; store = e.store; begun = frame.number; input = s.input; output = s.output; fuel = fuel } in (
      t,
      e.events,
      e.goes,
      record {
        running = running t e.is refl refl refl refl;
        begun = sym begun;
        held = subst (λ (n : ℕ). Holds a.memory n (plain e.store)) (sym begun) (subst (λ (x : Memory). Holds x frame.number (plain e.store)) (sym same) e.held);
      },
    )

-- nothing was entered
pub not-entered : (u : Blocks) (why : Stop) (a : State) (memory : Memory) (callers : List m.Frame) (fuel : ℕ) (s : m.State) (r : Next) → IsState a s → Enters u (Err why) memory callers fuel s r → Halts u why (record a { memory = memory }) r
not-entered u (stop.Undefined why) a memory callers fuel s r h e = e
not-entered u stop.MoreFuel a memory callers fuel s r h e = absurd e
not-entered u stop.StackExhausted a memory callers fuel s r h e = (
  s,
  e.events,
  e.stops,
  record {
    running = record { frame = h.running.frame; callers = h.running.callers; input = h.running.input; output = h.running.output; fuel = h.running.fuel };
    begun = h.begun;
    held = subst (λ (n : ℕ). Holds memory n (plain s.store)) h.begun e.held;
  },
)
not-entered u (stop.Returned n) a memory callers fuel s r h e = absurd e
not-entered u stop.Beyond a memory callers fuel s r h e = tt
not-entered u stop.OutOfMemory a memory callers fuel s r h e = tt
