-- A counter in memory: a: lw x5, 0x400(x0); addi x5, x5, 1; jal x3, E5; sw x5, 0x400(x0); jal x0, a.
use Rattle.std.specs.Prelude.{[], ◌∷◌}
use Rattle.im_mem.specs.Memory.{Mem}
use Rattle.im_rv.specs.declared.instr.Op.TheVariants.{Lw, Sw, Addi, Jal}
use Rattle.im_rv.specs.Decode.{Line}
use Rattle.im_rv.specs.Lines.{instruction}
use Rattle.im_replay.specs.Uninterrupted.{uninterrupted}
use Rattle.im_replay.specs.Compiled.{IsReplayable}
use Rattle.im_replay.specs.Replays.{Replays}
use Rattle.im_replay.specs.Output.{NeverShrinks}
use Rattle.im_replay_witness.specs.Images.{image_memory}

-- 0x13B4
abbrev pub read_line : Line
read_line = instruction Lw 5 0 0 1024

abbrev pub add_line : Line
add_line = instruction Addi 5 5 0 1

-- jal x3, E5 at 0x13BC: to 0x1114
abbrev pub call_line : Line
call_line = instruction Jal 3 0 0 4294966616

abbrev pub write_line : Line
write_line = instruction Sw 0 0 5 1024

-- jal x0, a at 0x13C4
abbrev pub back_line : Line
back_line = instruction Jal 0 0 0 4294967280

abbrev pub counter_memory : Mem
counter_memory = image_memory (read_line ∷ add_line ∷ call_line ∷ write_line ∷ back_line ∷ [])

-- its code ends before 0x13C8
abbrev pub CounterLaw : Type 0
CounterLaw = IsReplayable counter_memory 0x13C8

abbrev pub CounterReplaysLaw : Type 0
CounterReplaysLaw = Replays (uninterrupted counter_memory) counter_memory

-- it shows no output, and so never less
abbrev pub CounterShowsLaw : Type 0
CounterShowsLaw = NeverShrinks (uninterrupted counter_memory) counter_memory
