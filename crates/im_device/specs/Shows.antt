-- What a memory shows.
use Rattle.std.specs.Prelude.{ℕ, ℤ, cond, ◌==◌, min, List}
use Rattle.std.specs.Int.{cast_signed, w32}
use Rattle.im_mem.specs.Map.{status_at, reason_at, out_len0_at, out_len1_at, out_sel_at, output_start, output_capacity}
use Rattle.im_mem.specs.Memory.{Mem, little, bytes_from}
use Rattle.im_image.specs.declared.form.Form.{Form}
use Rattle.im_image.specs.declared.form.Form.TheVariants.{OneLength, TwoLengths}

-- the length that memory names: under form 0 OUT_LEN0; under form 1 OUT_LEN0 where the byte OUT_SEL is 0, else OUT_LEN1
abbrev pub output_length : Form → Mem → ℕ
output_length OneLength m = little m out_len0_at 4
output_length TwoLengths m = cond (m out_sel_at == 0) (little m out_len0_at 4) (little m out_len1_at 4)

-- the output: as many bytes of the output area, and no more than it has
abbrev pub output_of : Form → Mem → List ℕ
output_of form m = bytes_from m output_start (min (output_length form m) output_capacity)

-- the status: the word STATUS, read as a signed number
abbrev pub status_of : Mem → ℤ
status_of m = cast_signed w32 (little m status_at 4)

-- the reason: the word REASON, 1 where the stack was exhausted
abbrev pub reason_of : Mem → ℕ
reason_of m = little m reason_at 4
