-- Output never shrinks, whichever periods of power there are.
use Rattle.std.specs.Prelude.{◌≡◌, ◌≢◌, ℕ, suc, ◌+◌, ◌<◌, ◌≤◌, min, false, Some, List, ◌++◌}
use Rattle.im_mem.specs.Memory.{Mem}
use Rattle.im_mem.specs.Map.{out_len0_at, out_len1_at, out_sel_at, output_start, output_capacity}
use Rattle.im_image.specs.declared.form.Form.TheVariants.{TwoLengths}
use Rattle.im_rv.specs.declared.step.Went.TheVariants.{On}
use Rattle.im_power.specs.declared.period.Period.{Period}
use Rattle.im_device.specs.Shows.{output_length}
use Rattle.im_replay_path.specs.Sections.{start, flips}
use Rattle.im_ckpt.specs.Runs.{State, flip, writes}
use Rattle.im_ckpt.specs.Buffers.{is_buffer}
use Rattle.im_replay.specs.Replays.{after, within, and_then}

-- how many bytes are output, under form 1
abbrev pub output_size : Mem → ℕ
output_size m = min (output_length TwoLengths m) output_capacity

-- the output of the first memory is a prefix of that of the second
pub record Extends (m n : Mem) : Type 0 where
  pub size : output_size m ≤ output_size n
  pub bytes : (i : ℕ) → i < output_size m → n (output_start + i) ≡ m (output_start + i)

-- the same output
pub record SameOutput (m n : Mem) : Type 0 where
  pub size : output_size m ≡ output_size n
  pub bytes : (i : ℕ) → i < output_size m → m (output_start + i) ≡ n (output_start + i)

-- what the uninterrupted run has to do for that
pub record ShowsSafely (run : ℕ → State) : Type 0 where
  pub grows : (t : ℕ) → Extends (run t).mem (run (suc t)).mem
  -- a section that stores to OUT_SEL makes that one store, of one byte, before its cut
  pub one_store : (t u a v w : ℕ) → start (flip run) t ≡ start (flip run) u → flip run t ≡ false → flip run u ≡ false → writes run t out_sel_at ≡ Some v → is_buffer a ≡ false → writes run u a ≡ Some w → (u ≡ t) × (a ≡ out_sel_at)
  -- a length is stored only where OUT_SEL, as the section begins, selects the other
  pub first_length : (t a v : ℕ) → flip run t ≡ false → out_len0_at ≤ a → a < out_len0_at + 4 → writes run t a ≡ Some v → (run (start (flip run) t)).mem out_sel_at ≢ 0
  pub second_length : (t a v : ℕ) → flip run t ≡ false → out_len1_at ≤ a → a < out_len1_at + 4 → writes run t a ≡ Some v → (run (start (flip run) t)).mem out_sel_at ≡ 0

-- the moments of all lists of periods, one after another: power comes, instructions follow, power fails, perhaps within a store
pub record NeverShrinks (run : ℕ → State) (m : Mem) : Type 0 where
  pub comes : (ps : List Period) (n junk : ℕ) → (after ps m).went ≡ On → Extends (after ps m).mem (within ps n junk m).mem
  pub follow : (ps : List Period) (n k junk : ℕ) → (after ps m).went ≡ On → Extends (within ps n junk m).mem (within ps (n + k) junk m).mem
  pub fails : (ps : List Period) (n k junk mask : ℕ) → (after ps m).went ≡ On → Extends (within ps n junk m).mem (after (and_then ps (n + k) junk mask) m).mem
  -- more periods show no less
  pub more : (ps qs : List Period) → Extends (after ps m).mem (after (ps ++ qs) m).mem
  -- and each shows what the uninterrupted run shows at some time, after as many commits
  pub shows : (ps : List Period) → (t : ℕ) × (flips (flip run) t ≡ (after ps m).commits) × SameOutput (after ps m).mem (run t).mem
  pub shows_within : (ps : List Period) (n junk : ℕ) → (after ps m).went ≡ On → (t : ℕ) × (flips (flip run) t ≡ (within ps n junk m).commits) × SameOutput (within ps n junk m).mem (run t).mem
