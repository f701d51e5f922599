-- A loop of one cut: a: jal x3, E4; jal x0, a.
use Rattle.std.specs.Prelude.{[], ◌∷◌}
use Rattle.im_mem.specs.Memory.{Mem}
use Rattle.im_rv.specs.declared.instr.Op.TheVariants.{Jal}
use Rattle.im_rv.specs.Decode.{Line}
use Rattle.im_rv.specs.Lines.{instruction}
use Rattle.im_replay.specs.Compiled.{IsReplayable}
use Rattle.im_replay_witness.specs.Images.{image_memory}

-- jal x3, E4 at 0x13B4: to 0x1100
abbrev pub call_line : Line
call_line = instruction Jal 3 0 0 4294966604

-- jal x0, a at 0x13B8
abbrev pub back_line : Line
back_line = instruction Jal 0 0 0 4294967292

abbrev pub loop_memory : Mem
loop_memory = image_memory (call_line ∷ back_line ∷ [])

-- its code ends before 0x13BC
abbrev pub LoopLaw : Type 0
LoopLaw = IsReplayable loop_memory 0x13BC
