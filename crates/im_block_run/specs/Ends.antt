-- Whole runs of a unit, and what is told of their ends. Private contracts alone speak of this.
use Rattle.std.specs.Prelude.{◌≡◌, ℕ, List, []}
use Rattle.im_block.specs.declared.unit.Unit.{Unit as Blocks}
use Rattle.im_block.specs.Meaning.{Setting, Event, Next, Stops}
use Rattle.im_block.specs.Runs.{At, exec, goes_on, start}
use Rattle.im_eval_machine.specs.declared.outcome.Outcome.{Outcome}
use Rattle.im_eval_machine.specs.Endings.{told}

-- a run stops with this outcome
abbrev pub Tells : Outcome → Next → Type 0
Tells outcome r = (events : List Event) × (r ≡ Stops (told outcome) events)

-- the last of some steps of the unit's run comes to this
pub record Reaches (u : Blocks) (g : Setting) (n : ℕ) (r : Next) : Type 0 where
  pub steps : ℕ
  pub events : List Event
  pub so : goes_on (start u g n) (exec u g steps) [] ≡ goes_on r (λ s e. At s e) events
