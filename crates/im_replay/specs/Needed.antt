-- The registers that a run still needs.
use Rattle.std.specs.Prelude.{◌≡◌, ℕ, ◌<◌, ◌≤◌, ◌⊎◌, Bool, true, false, not, ◌&&◌, ◌||◌, ◌==◌}
use Rattle.im_rv.specs.Effects.{rs1_of, rs2_of}
use Rattle.im_ckpt.specs.Runs.{State, line_at, effect_at, sets}
use Rattle.im_ckpt.specs.Buffers.{saves_by}

-- the next step uses the register; a store into a register buffer is no use of what it stores
abbrev pub uses : State → ℕ → Bool
uses s i = i == rs1_of (line_at s) || (i == rs2_of (line_at s) && not (saves_by (effect_at s)))

-- from time t on the run uses the register before it sets it
pub record Used (run : ℕ → State) (t i : ℕ) : Type 0 where
  pub time : ℕ
  pub later : t ≤ time
  pub used : uses (run time) i ≡ true
  pub unset : (u : ℕ) → t ≤ u → u < time → sets (run u) i ≡ false

-- a register that the run needs from time t on: one that it uses so, or the stack pointer x2, above which the frames lie
-- whether it is used again or not
abbrev pub Needed : (ℕ → State) → ℕ → ℕ → Type 0
Needed run t i = Used run t i ⊎ (i ≡ 2)
