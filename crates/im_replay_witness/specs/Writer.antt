-- A byte of output: addi x5, x0, 1; lui x6, 0x400; sb x5, 0(x6); sw x5, 32(x0); jal x3, E5; sb x5, 36(x0); jal x3, E5; ebreak.
-- The byte and OUT_LEN1 are stored in one section, OUT_SEL in the next.
use Rattle.std.specs.Prelude.{◌≡◌, ℕ, zero, suc, [], ◌∷◌}
use Rattle.im_mem.specs.Map.{out_len1_at, out_sel_at}
use Rattle.im_mem.specs.Memory.{Mem}
use Rattle.im_image.specs.declared.form.Form.TheVariants.{TwoLengths}
use Rattle.im_device.specs.Shows.{output_of}
use Rattle.im_rv.specs.declared.instr.Op.TheVariants.{Lui, Sb, Sw, Addi, Jal, Ebreak}
use Rattle.im_rv.specs.Decode.{Line}
use Rattle.im_rv.specs.Lines.{instruction}
use Rattle.im_replay.specs.Uninterrupted.{uninterrupted}
use Rattle.im_replay.specs.Compiled.{IsReplayable}
use Rattle.im_replay.specs.Output.{ShowsSafely, NeverShrinks}
use Rattle.im_replay_witness.specs.Images.{image_memory}

-- line k, at 0x13B4 + 4 k; the cuts go to 0x1114
abbrev pub own : ℕ → Line
own zero = instruction Addi 5 0 0 1
own (suc zero) = instruction Lui 6 0 0 0x400
own (suc (suc zero)) = instruction Sb 0 6 5 0
own (suc (suc (suc zero))) = instruction Sw 0 0 5 out_len1_at
own (suc (suc (suc (suc zero)))) = instruction Jal 3 0 0 4294966608
own (suc (suc (suc (suc (suc zero))))) = instruction Sb 0 0 5 out_sel_at
own (suc (suc (suc (suc (suc (suc zero)))))) = instruction Jal 3 0 0 4294966600
own (suc (suc (suc (suc (suc (suc (suc k))))))) = instruction Ebreak 0 0 0 0

abbrev pub writer_memory : Mem
writer_memory = image_memory (own 0 ∷ own 1 ∷ own 2 ∷ own 3 ∷ own 4 ∷ own 5 ∷ own 6 ∷ own 7 ∷ [])

-- its code ends before 0x13D4
abbrev pub WriterLaw : Type 0
WriterLaw = IsReplayable writer_memory 0x13D4

abbrev pub WriterShowsLaw : Type 0
WriterShowsLaw = ShowsSafely (uninterrupted writer_memory)

abbrev pub WriterOutputLaw : Type 0
WriterOutputLaw = NeverShrinks (uninterrupted writer_memory) writer_memory

-- and it does write: behind its 18 instructions up to the store of OUT_SEL, the checkpoint's among them, the output is the byte 1
abbrev pub WriterByteLaw : Type 0
WriterByteLaw = output_of TwoLengths (uninterrupted writer_memory 18).mem ≡ 1 ∷ []
