-- Where a section resumes, and what the live buffer holds for it.
use Rattle.std.specs.Prelude.{◌≡◌, ℕ, zero, suc, ◌+◌, ◌*◌, ◌<◌}
use Rattle.im_mem.specs.Memory.{Mem, little}
use Rattle.im_device.specs.Run.{index_of}
use Rattle.im_ckpt.specs.Runs.{State}
use Rattle.im_ckpt.specs.Buffers.{buffer}
use Rattle.im_replay.specs.Needed.{Needed}

-- where recovery leads, by the time at which a section begins: behind the return that follows the flip, or to the beginning of all
abbrev pub resume : ℕ → ℕ
resume zero = zero
resume (suc t) = suc (suc t)

-- the live buffer holds the place where the section that began at s resumes, and the registers that are needed there,
-- the stack pointer x2 always
pub record IsLive (run : ℕ → State) (s : ℕ) (m : Mem) : Type 0 where
  pub place : little m (buffer (index_of (run s).mem)) 4 ≡ (run (resume s)).cpu.pc
  pub regs : (i : ℕ) → Needed run (resume s) i → 0 < i → little m (buffer (index_of (run s).mem) + 4 * i) 4 ≡ (run (resume s)).cpu.x i
  pub small : (a : ℕ) → m a < 256
