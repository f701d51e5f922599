-- A memory as it is loaded, whose code is these lines, of which the first behind the runtime is where it starts.
use Rattle.std.specs.Prelude.{ℕ, ◌-◌, ◌/◌, ◌%◌, ◌^◌, cond, ◌==◌, nat_le, slice_index, List, ◌++◌, map}
use Rattle.im_mem.specs.Memory.{Mem}
use Rattle.im_rv.specs.Decode.{Line}
use Rattle.im_rv.specs.Encode.{encoded}
use Rattle.im_ckpt.specs.Recovery.{recovery}
use Rattle.im_ckpt.specs.Checkpoint.{checkpoint}

-- the runtime, and these lines behind it
abbrev pub with_runtime : List Line → List Line
with_runtime own = recovery ++ (checkpoint ++ own)

-- word w of the memory: word 0 of buffer 0 is the start, 0x13B4; the code stands from 0x1000 on; all else is 0
abbrev pub image_word : List Line → ℕ → ℕ
image_word lines w = cond (w == 32) 0x13B4 (cond (nat_le 1024 w) (slice_index (map encoded lines) (w - 1024)) 0)

abbrev pub image_memory : List Line → Mem
image_memory own = λ a. image_word (with_runtime own) (a / 4) / 256 ^ (a % 4) % 256
