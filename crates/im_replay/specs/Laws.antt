-- The theorem of crash consistency, over the device's definitions.
use Rattle.std.specs.Prelude.{◌≡◌, ℕ, ◌<◌, ◌≤◌, true, false, List}
use Rattle.im_rv.specs.declared.step.Went.TheVariants.{Halted, Faulted}
use Rattle.im_power.specs.declared.period.Period.{Period}
use Rattle.im_replay_path.specs.Sections.{flips}
use Rattle.im_ckpt.specs.Runs.{State, flip, ends}
use Rattle.im_ckpt.specs.Buffers.{is_buffer}
use Rattle.im_mem.specs.Memory.{Mem}
use Rattle.im_replay.specs.Uninterrupted.{uninterrupted}
use Rattle.im_replay.specs.Compiled.{IsReplayable}
use Rattle.im_replay.specs.Replays.{after, Replays, GapAtMost, long_periods, Progresses}
use Rattle.im_replay.specs.Output.{Extends, ShowsSafely, NeverShrinks}

-- at every moment of every list of periods
abbrev pub ReplayLaw : Type 0
ReplayLaw = (m : Mem) (code : ℕ) → IsReplayable m code → Replays (uninterrupted m) m

abbrev pub OutputLaw : Type 0
OutputLaw = (m : Mem) (code : ℕ) → IsReplayable m code → ShowsSafely (uninterrupted m) → NeverShrinks (uninterrupted m) m

abbrev pub ProgressLaw : Type 0
ProgressLaw = (m : Mem) (code k : ℕ) → IsReplayable m code → GapAtMost (uninterrupted m) k → Progresses (uninterrupted m) m k

-- the uninterrupted run ends at this time, after at most c commits: so do all runs, and show no other output before
pub record ReplaysEnd (run : ℕ → State) (m : Mem) (k c time : ℕ) : Type 0 where
  -- the output is always a prefix of that at the end
  pub always : (ps : List Period) → Extends (after ps m).mem (run time).mem
  -- at a halt each byte outside the buffers is that of the uninterrupted run at its end
  pub exact : (ps : List Period) → (after ps m).went ≡ Halted → (a : ℕ) → is_buffer a ≡ false → (after ps m).mem a ≡ (run time).mem a
  -- more than c periods of at least k instructions, with any others among them, reach the halt
  pub halts : (ps : List Period) → c < long_periods k ps → (after ps m).went ≡ Halted
  pub safe : (ps : List Period) (at : ℕ) → (after ps m).went ≡ Faulted at → ⊥

abbrev pub KeepsLaw : Type 0
KeepsLaw = (m : Mem) (code k c time : ℕ) → IsReplayable m code → ShowsSafely (uninterrupted m) → GapAtMost (uninterrupted m) k → ends (uninterrupted m) time ≡ true
    → ((t : ℕ) → flips (flip (uninterrupted m)) t ≤ c) → ReplaysEnd (uninterrupted m) m k c time

-- what the uninterrupted run shows at a time before which it has at most c commits is shown, under power that fails,
-- after more than c periods of at least k instructions, with any others among them
abbrev pub ReachLaw : Type 0
ReachLaw = (m : Mem) (code k c time : ℕ) → IsReplayable m code → ShowsSafely (uninterrupted m) → GapAtMost (uninterrupted m) k
    → flips (flip (uninterrupted m)) time ≤ c → (ps : List Period) → c < long_periods k ps → Extends (uninterrupted m time).mem (after ps m).mem
