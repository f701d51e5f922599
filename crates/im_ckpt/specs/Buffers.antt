-- The two register buffers. Of a buffer word 0 is the place where its section resumes, and word i is register xi.
use Rattle.std.specs.Prelude.{ℕ, zero, suc, ◌+◌, ◌*◌, Bool, false, cond, not, ◌&&◌, ◌||◌, ◌==◌, nat_le, nat_lt}
use Rattle.im_mem.specs.Memory.{is_place}
use Rattle.im_mem.specs.Map.{buffer0_start, buffer1_start, code_start}
use Rattle.im_rv.specs.declared.effect.Effect.{Effect}
use Rattle.im_rv.specs.declared.effect.Effect.TheVariants.{Puts, Goes, Loads, Stores, Stops}
use Rattle.im_rv.specs.Effects.{rs2_of, stores_word}
use Rattle.im_device.specs.Run.{index_of}
use Rattle.im_ckpt.specs.Runs.{State, line_at, effect_at, sets, is_flip}

-- the live buffer's address, by INDEX, and the idle buffer's
abbrev pub buffer : ℕ → ℕ
buffer index = cond (index == 0) buffer0_start buffer1_start

abbrev pub idle : ℕ → ℕ
idle index = cond (index == 0) buffer1_start buffer0_start

-- a byte of either buffer, which are 128 bytes each, side by side
abbrev pub is_buffer : ℕ → Bool
is_buffer a = nat_le buffer0_start a && nat_lt a (buffer1_start + 128)

-- a byte of INDEX or of the code, which ends before this address
abbrev pub is_fixed : ℕ → ℕ → Bool
is_fixed code a = nat_lt a 4 || (nat_le code_start a && nat_lt a code)

-- where a buffer has a register: x3, which holds the place at a cut, is its word 0
abbrev pub slot : ℕ → ℕ
slot i = cond (i == 3) 0 (4 * i)

-- a store into a buffer
abbrev pub saves_by : Effect → Bool
saves_by (Puts v target) = false
saves_by (Goes target) = false
saves_by (Loads a n extension) = false
saves_by (Stores a n v) = is_place a n && is_buffer a
saves_by Stops = false

-- the next step stores register i at its place in the idle buffer
abbrev pub saves_reg : State → ℕ → Bool
saves_reg s i = nat_lt 0 i && nat_lt i 32 && i == rs2_of (line_at s) && stores_word (effect_at s) (idle (index_of s.mem) + slot i)

-- by time t its section has stored the register in the idle buffer, and has not set it since
abbrev pub saved : (ℕ → State) → ℕ → ℕ → Bool
saved run zero i = false
saved run (suc t) i = cond (is_flip (run t)) false (saves_reg (run t) i || (not (sets (run t) i) && saved run t i))
