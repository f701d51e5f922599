-- What is owed up to each time is what the theorems ask.
use Rattle.std.specs.Prelude.{◌≡◌, ℕ, ◌<◌, true, false, List}
use Rattle.im_rv.specs.Code.{instruction_at}
use Rattle.im_ckpt.specs.Runs.{State, IsRun, ends}
use Rattle.im_ckpt.specs.Laws.{is_runtime, IsCut}
use Rattle.im_replay.specs.Compiled.{RunsSafely}
use Rattle.im_replay.specs.Output.{ShowsSafely}
use Rattle.im_gap.specs.declared.flow.Turn.TheVariants.{Returns}
use Rattle.im_gap.specs.Flow.{turn_of, links}
use Rattle.im_gap.specs.Flows.{IsAt, GoesBehindCall}
use Rattle.im_keeps_until.specs.Until.{OwesUntil}

-- of more steps than so many
pub record Owes (words : List ℕ) (code : ℕ) (run : ℕ → State) (t : ℕ) : Type 0 where
  pub j : ℕ
  pub later : t < j
  pub owes : OwesUntil words code run j

-- for ever
pub record OwesAlways (words : List ℕ) (code : ℕ) (run : ℕ → State) : Type 0 where
  pub safely : RunsSafely run code
  pub shows : ShowsSafely run
  pub returns : (t i : ℕ) → is_runtime (run t).cpu.pc ≡ false → IsAt run t i → turn_of (instruction_at words i) ≡ Returns → GoesBehindCall words run t
  pub cuts : (t m i : ℕ) → IsCut run t m → IsAt run t i → links 3 (instruction_at words i) ≡ true

pub record UntilLaw : Type 0 where
  -- what holds of as many steps as one likes holds for ever
  pub always : (words : List ℕ) (code : ℕ) (run : ℕ → State) → ((t : ℕ) → Owes words code run t) → OwesAlways words code run
  -- a run that has ended owes nothing more
  pub ended : (words : List ℕ) (code : ℕ) (run : ℕ → State) (e j : ℕ) → IsRun run → e < j → ends run e ≡ true → OwesUntil words code run j → (t : ℕ) → OwesUntil words code run t
