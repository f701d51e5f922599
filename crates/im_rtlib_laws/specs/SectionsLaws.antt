-- What orderly touches give: the premises of the theorems of replay and of output about the runtime's words.
use Rattle.std.specs.Prelude.{◌≡◌, ◌≢◌, ℕ, ◌+◌, ◌<◌, ◌≤◌, ◌⊎◌, true, false, Some, None, List, ◌++◌}
use Rattle.im_mem.specs.Map.{out_len0_at, out_len1_at, out_sel_at, statics_start, stack_end}
use Rattle.im_replay_path.specs.Sections.{start}
use Rattle.im_ckpt.specs.Runs.{State, IsRun, flip, writes, reads}
use Rattle.im_ckpt.specs.Buffers.{is_buffer}
use Rattle.im_rv_reach.specs.Touches.{Touch}
use Rattle.im_rv_reach.specs.Orderly.{Refused, IsOrderly}
use Rattle.im_rtlib_laws.specs.Orderly.{touched_from, since, IsOrderlyRun}

-- pieces join
abbrev pub JoinsLaw : Type 0
JoinsLaw = (ts us : List Touch) → IsOrderly ts → IsOrderly us → IsOrderly (ts ++ us)

-- a length is stored only where OUT_SEL selects the other
pub record SelectsOther (run : ℕ → State) (j : ℕ) : Type 0 where
  pub first : (t a v : ℕ) → t < j → flip run t ≡ false → out_len0_at ≤ a → a < out_len0_at + 4 → writes run t a ≡ Some v → (run t).mem out_sel_at ≢ 0
  pub second : (t a v : ℕ) → t < j → flip run t ≡ false → out_len1_at ≤ a → a < out_len1_at + 4 → writes run t a ≡ Some v → (run t).mem out_sel_at ≡ 0

pub record SectionsLaw : Type 0 where
  -- a section that stores OUT_SEL makes that one store
  pub one_store : (run : ℕ → State) (j : ℕ) → IsOrderlyRun run j → (t u a v w : ℕ) → t < j → u < j → start (flip run) t ≡ start (flip run) u → flip run t ≡ false → flip run u ≡ false
      → writes run t out_sel_at ≡ Some v → is_buffer a ≡ false → writes run u a ≡ Some w → (u ≡ t) × (a ≡ out_sel_at)
  -- no byte of the low page, the input or the output that a section read is written later in it
  pub no_war : (run : ℕ → State) (j : ℕ) → IsOrderlyRun run j → (t u a : ℕ) → t ≤ u → u < j → start (flip run) t ≡ start (flip run) u → flip run u ≡ false
      → (a < statics_start) ⊎ (stack_end ≤ a) → is_buffer a ≡ false → reads run t a ≡ true → 4 ≤ a → writes run u a ≡ None
  -- a length is stored only where OUT_SEL, as the section began, selects the other
  pub first_length : (run : ℕ → State) (j : ℕ) → IsRun run → IsOrderlyRun run j → SelectsOther run j → (t a v : ℕ) → t < j → flip run t ≡ false → out_len0_at ≤ a → a < out_len0_at + 4 → writes run t a ≡ Some v → (run (start (flip run) t)).mem out_sel_at ≢ 0
  pub second_length : (run : ℕ → State) (j : ℕ) → IsRun run → IsOrderlyRun run j → SelectsOther run j → (t a v : ℕ) → t < j → flip run t ≡ false → out_len1_at ≤ a → a < out_len1_at + 4 → writes run t a ≡ Some v → (run (start (flip run) t)).mem out_sel_at ≡ 0

-- where what n steps touch is in order, no section of them is refused
abbrev pub TouchedLaw : Type 0
TouchedLaw = (run : ℕ → State) (n : ℕ) → IsOrderly (touched_from run 0 n) → (t : ℕ) → t ≤ n → since run t ≢ Refused
