-- The machine as the abstract theorem sees it, and what that theorem gives.
use Rattle.std.specs.Prelude.{◌≡◌, ◌≢◌, ℕ, ◌+◌, ◌%◌, ◌<◌, ◌≤◌, ◌⊎◌, true, false, List}
use Rattle.im_mem.specs.Memory.{Mem}
use Rattle.im_rv.specs.declared.step.Went.{Went}
use Rattle.im_rv.specs.declared.step.Went.TheVariants.{On, Halted, Faulted}
use Rattle.im_rv.specs.Steps.{Cpu, Stepped}
use Rattle.im_rv.specs.Runs.{step_of}
use Rattle.im_rv.specs.Torn.{torn_of}
use Rattle.im_device.specs.Run.{boot, index_of}
use Rattle.im_replay_path.specs.Path.{Next, Moment, Spell, steps, period, power, long_periods}
use Rattle.im_replay_path.specs.Path.Next.{Goes as Goes_to, Ends}
use Rattle.im_replay_path.specs.Sections.{start, flips, Mixed}
use Rattle.im_ckpt.specs.Runs.{State, flip, ends, memory, writes}
use Rattle.im_ckpt.specs.Buffers.{is_buffer}
use Rattle.im_ckpt.specs.Laws.{CanResume}
use Rattle.im_ckpt.proofs.Resume.{cpu_after}
use Rattle.im_replay.specs.Needed.{Needed}
use Rattle.im_replay.specs.Sections.{resume, IsLive}
use Rattle.im_replay.specs.Replays.{GapAtMost}
use Rattle.im_replay.specs.Output.{Extends, SameOutput}

-- the registers i steps into recovery
abbrev pub waking : ℕ → ℕ → Mem → Cpu
waking i junk m = cpu_after i (boot junk) m

abbrev pub next_by : Stepped → Went → Next Cpu
next_by s On = Goes_to s.cpu s.mem
next_by s Halted = Ends
next_by s (Faulted at) = Ends

-- one step; a halt and a fault end the run
abbrev pub next_of : Cpu → Mem → Next Cpu
next_of c m = next_by (step_of c m) (step_of c m).went

-- a machine whose power comes for the first time
abbrev pub switched_on : Mem → Moment Cpu
switched_on m = record { regs = boot 0; mem = m; commits = 0; over = false }

-- the moment after these periods
abbrev pub powered : List Spell → Mem → Moment Cpu
powered ps m = power next_of torn_of boot index_of ps (switched_on m)

-- A moment, by the section that it is in: that section of the uninterrupted run began at s, after as many commits;
-- each byte outside the buffers is as it was then, or one that the section writes there; the live buffer holds what the section resumes with.
pub record Stands_at (run : ℕ → State) (x : Moment Cpu) : Type 0 where
  pub s : ℕ
  pub begins : start (flip run) s ≡ s
  pub commits : flips (flip run) s ≡ x.commits
  pub bytes : Mixed (flip run) (writes run) (memory run) is_buffer s x.mem
  pub live : IsLive run s x.mem
  -- INDEX is the number of commits modulo 2, and as it was when the section began
  pub index : index_of x.mem ≡ (index_of (run 0).mem + x.commits) % 2
  pub same_index : index_of x.mem ≡ index_of (run s).mem

-- How it is with the power on, n instructions after it came in the section that began at s: recovery runs,
-- or the run is n - 33 instructions behind the place where that section resumes, with the registers that are needed there,
-- the stack pointer x2 always; or it is over.
pub data Runs (run : ℕ → State) (s n : ℕ) (x : Moment Cpu) : Type 0 where
  Recovers : (junk : ℕ) → n ≤ 33 → CanResume x.mem → x.regs ≡ waking n junk x.mem → x.over ≡ false → Runs run s n x
  Executes : (t : ℕ) → t + 33 ≡ resume s + n → x.regs.pc ≡ (run t).cpu.pc → ((i : ℕ) → Needed run t i → x.regs.x i ≡ (run t).cpu.x i) → flips (flip run) t ≡ x.commits → x.over ≡ false → Runs run s n x
  Is_over : x.over ≡ true → Runs run s n x

-- n instructions into the period that follows the others
abbrev pub within : List Spell → ℕ → ℕ → Mem → Moment Cpu
within ps n junk m = steps next_of index_of n (record (powered ps m) { regs = boot junk })

-- one period more
abbrev pub and_then : Spell → Moment Cpu → Moment Cpu
and_then p x = period next_of torn_of boot index_of p x

-- the run is over: each byte outside the buffers is that of the uninterrupted run at its end
pub record Ended_as (run : ℕ → State) (x : Moment Cpu) : Type 0 where
  pub time : ℕ
  pub ended : ends run time ≡ true
  pub commits : flips (flip run) time ≡ x.commits
  pub bytes : (a : ℕ) → is_buffer a ≡ false → x.mem a ≡ (run time).mem a

pub record Replays_path (run : ℕ → State) (m : Mem) : Type 0 where
  -- after every list of periods, the torn store at its end included, and at every moment of a further one
  pub after_periods : (ps : List Spell) → Stands_at run (powered ps m)
  pub in_period : (ps : List Spell) (n junk : ℕ) → (powered ps m).over ≡ false → Stands_at run (within ps n junk m) × Runs run (after_periods ps).s n (within ps n junk m)
  -- where it is over
  pub at_end : (ps : List Spell) → (powered ps m).over ≡ true → Ended_as run (powered ps m)
  -- no step faults
  pub safe : (ps : List Spell) (n junk : ℕ) → (powered ps m).over ≡ false → (within ps n junk m).over ≡ false → (at : ℕ) → (step_of (within ps n junk m).regs (within ps n junk m).mem).went ≢ Faulted at
  -- a period of at least k instructions commits or ends the run
  pub progress : (k : ℕ) → GapAtMost run k → (ps : List Spell) (p : Spell) → k ≤ p.n → (powered ps m).over ≡ false → ((powered ps m).commits < (and_then p (powered ps m)).commits) ⊎ ((and_then p (powered ps m)).over ≡ true)
  -- each such period has a commit, unless the run is over
  pub counts : (k : ℕ) → GapAtMost run k → (ps : List Spell) → (long_periods k ps ≤ (powered ps m).commits) ⊎ ((powered ps m).over ≡ true)
  -- where the uninterrupted run has at most c commits, more than c such periods end the run
  pub halts : (c k : ℕ) → GapAtMost run k → ((t : ℕ) → flips (flip run) t ≤ c) → (ps : List Spell) → c < long_periods k ps → (powered ps m).over ≡ true

-- the moments of all lists of periods, one after another: power comes, instructions follow, power fails, perhaps within a store
pub record Never_shrinks_path (run : ℕ → State) (m : Mem) : Type 0 where
  pub comes : (ps : List Spell) (n junk : ℕ) → (powered ps m).over ≡ false → Extends (powered ps m).mem (within ps n junk m).mem
  pub follow : (ps : List Spell) (n k junk : ℕ) → (powered ps m).over ≡ false → Extends (within ps n junk m).mem (within ps (n + k) junk m).mem
  pub fails : (ps : List Spell) (n k junk mask : ℕ) → (powered ps m).over ≡ false → Extends (within ps n junk m).mem (and_then (record { n = n + k; junk = junk; mask = mask }) (powered ps m)).mem
  -- and each shows what the uninterrupted run shows at some time, after as many commits
  pub shows : (ps : List Spell) → (t : ℕ) × (flips (flip run) t ≡ (powered ps m).commits) × SameOutput (powered ps m).mem (run t).mem
  pub shows_within : (ps : List Spell) (n junk : ℕ) → (powered ps m).over ≡ false → (t : ℕ) × (flips (flip run) t ≡ (within ps n junk m).commits) × SameOutput (within ps n junk m).mem (run t).mem
