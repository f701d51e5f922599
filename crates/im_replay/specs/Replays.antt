-- What is promised of a device whose power fails: at each moment it stands where the run that never loses power stood.
use Rattle.std.specs.Prelude.{◌≡◌, ◌≢◌, ℕ, ◌+◌, ◌%◌, ◌<◌, ◌≤◌, ◌⊎◌, cond, nat_le, true, false, List, [], ◌∷◌, ◌++◌}
use Rattle.im_mem.specs.Memory.{Mem}
use Rattle.im_rv.specs.declared.step.Went.TheVariants.{On, Faulted}
use Rattle.im_power.specs.declared.period.Period.{Period}
use Rattle.im_device.specs.Run.{Moment, index_of, run as steps}
use Rattle.im_device.specs.Periods.{Device, fresh, power_up, power}
use Rattle.im_replay_path.specs.Sections.{start, flips, Mixed}
use Rattle.im_ckpt.specs.Runs.{State, flip, ends, memory, writes}
use Rattle.im_ckpt.specs.Buffers.{is_buffer}
use Rattle.im_ckpt.specs.Laws.{resuming}
use Rattle.im_replay.specs.Needed.{Needed}
use Rattle.im_replay.specs.Sections.{resume, IsLive}

-- a device behind these periods
abbrev pub after : List Period → Mem → Device
after ps m = power ps (fresh m)

-- n instructions into the period that follows them
abbrev pub within : List Period → ℕ → ℕ → Mem → Moment
within ps n junk m = steps n (power_up junk (after ps m))

-- A memory after so many commits stands in the section of the uninterrupted run that began at s, after as many commits:
-- each byte outside the buffers is as it was then, or one that the section writes there; the live buffer holds what the section resumes with.
pub record StandsAt (run : ℕ → State) (m : Mem) (commits : ℕ) : Type 0 where
  pub s : ℕ
  pub begins : start (flip run) s ≡ s
  pub count : flips (flip run) s ≡ commits
  pub bytes : Mixed (flip run) (writes run) (memory run) is_buffer s m
  pub live : IsLive run s m
  -- INDEX is the number of commits modulo 2, and as it was when the section began
  pub index : index_of m ≡ commits % 2
  pub same_index : index_of m ≡ index_of (run s).mem

-- How it is with the power on, n instructions after it came in the section that began at s: recovery runs,
-- or the run is n - 33 instructions behind the place where that section resumes, with the registers that are needed there,
-- the stack pointer x2 always; or it is over.
pub data Goes (run : ℕ → State) (s n : ℕ) (x : Moment) : Type 0 where
  Recovers : (junk : ℕ) → n ≤ 33 → x.cpu ≡ (resuming n junk x.mem).cpu → x.went ≡ On → Goes run s n x
  Executes : (t : ℕ) → t + 33 ≡ resume s + n → x.cpu.pc ≡ (run t).cpu.pc → ((i : ℕ) → Needed run t i → x.cpu.x i ≡ (run t).cpu.x i) → flips (flip run) t ≡ x.commits → x.went ≡ On → Goes run s n x
  IsOver : x.went ≢ On → Goes run s n x

-- the run is over: each byte outside the buffers is that of the uninterrupted run at its end
pub record EndsAs (run : ℕ → State) (m : Mem) (commits : ℕ) : Type 0 where
  pub time : ℕ
  pub ended : ends run time ≡ true
  pub count : flips (flip run) time ≡ commits
  pub bytes : (a : ℕ) → is_buffer a ≡ false → m a ≡ (run time).mem a

pub record Replays (run : ℕ → State) (m : Mem) : Type 0 where
  -- after every list of periods, the torn store at its end included, and at every moment of a further one
  pub after_periods : (ps : List Period) → StandsAt run (after ps m).mem (after ps m).commits
  pub in_period : (ps : List Period) (n junk : ℕ) → (after ps m).went ≡ On → StandsAt run (within ps n junk m).mem (within ps n junk m).commits × Goes run (after_periods ps).s n (within ps n junk m)
  -- no step faults
  pub no_fault : (ps : List Period) (at : ℕ) → (after ps m).went ≢ Faulted at
  -- where it is over
  pub at_end : (ps : List Period) → (after ps m).went ≢ On → EndsAs run (after ps m).mem (after ps m).commits

-- ---- progress

-- each section comes to a flip or to the end within k instructions from power-up on, the 33 of recovery among them
abbrev pub GapAtMost : (ℕ → State) → ℕ → Type 0
GapAtMost run k = (s : ℕ) → start (flip run) s ≡ s → (e : ℕ) × (start (flip run) e ≡ s) × (resume s ≤ e) × ((flip run e ≡ true) ⊎ (ends run e ≡ true)) × (e + 33 < resume s + k)

-- one period more
abbrev pub and_then : List Period → ℕ → ℕ → ℕ → List Period
and_then ps n junk mask = ps ++ record { n = n; junk = junk; count = 1; mask = mask } ∷ []

-- how many periods of at least k instructions there are
abbrev pub long_periods : ℕ → List Period → ℕ
long_periods k [] = 0
long_periods k (p ∷ ps) = cond (nat_le k p.n) (p.count + long_periods k ps) (long_periods k ps)

pub record Progresses (run : ℕ → State) (m : Mem) (k : ℕ) : Type 0 where
  -- a period of at least k instructions commits or ends the run
  pub each : (ps : List Period) (n junk mask : ℕ) → k ≤ n → (after ps m).went ≡ On
      → ((after ps m).commits < (after (and_then ps n junk mask) m).commits) ⊎ ((after (and_then ps n junk mask) m).went ≢ On)
  -- a device that is still going has made a commit in each such period
  pub counts : (ps : List Period) → (after ps m).went ≡ On → long_periods k ps ≤ (after ps m).commits
  -- where the uninterrupted run has at most c commits, more than c such periods end the run
  pub all : (c : ℕ) → ((t : ℕ) → flips (flip run) t ≤ c) → (ps : List Period) → c < long_periods k ps → (after ps m).went ≢ On
