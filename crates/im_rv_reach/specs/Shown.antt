-- What memory shows of a run at work: the output so far, and the input that is left.
use Rattle.std.specs.Prelude.{ℕ, ◌+◌, ◌-◌, ◌≡◌, List, ◌++◌}
use Rattle.im_mem.specs.Map.{in_len_at, in_pos_at, input_start}
use Rattle.im_mem.specs.Memory.{Mem, little, bytes_from}
use Rattle.im_image.specs.declared.form.Form.TheVariants.{TwoLengths}
use Rattle.im_device.specs.Shows.{output_of}

-- compiled images have two lengths of the output
abbrev pub shown : Mem → List ℕ
shown m = output_of TwoLengths m

abbrev pub left : Mem → List ℕ
left m = bytes_from m (input_start + little m in_pos_at 4) (little m in_len_at 4 - little m in_pos_at 4)

-- one list begins another
abbrev pub Begins : List ℕ → List ℕ → Type 0
Begins short long = (rest : List ℕ) × (long ≡ short ++ rest)
