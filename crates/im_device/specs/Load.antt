-- The memory that an image and an input load.
use Rattle.std.specs.Prelude.{ℕ, ◌+◌, ◌-◌, List, [], ◌∷◌, length}
use Rattle.std.specs.List.{flat_map}
use Rattle.im_num.specs.Bytes.{word_bytes}
use Rattle.im_mem.specs.Map.{out_cap_at, in_len_at, stack_lim_at, buffer0_start, code_start, statics_start, stack_end, input_start}
use Rattle.im_mem.specs.Memory.{Mem, written, zeroed}
use Rattle.im_image.specs.Contents.{ImageValue}

-- OUT_CAP, IN_LEN, STACK_LIM (the stack's end less its size), words 0 and 2 of register buffer 0 (the place in the code and the
-- stack pointer), the code, the statics, the input: each an address and the bytes from there on
abbrev pub pieces : ImageValue → List ℕ → List (ℕ × List ℕ)
pieces image input =
    (out_cap_at, word_bytes image.out_cap)
    ∷ ((in_len_at, word_bytes (length input))
    ∷ ((stack_lim_at, word_bytes (stack_end - image.stack))
    ∷ ((buffer0_start, word_bytes image.entry)
    ∷ ((buffer0_start + 8, word_bytes stack_end)
    ∷ ((code_start, flat_map word_bytes image.words)
    ∷ ((statics_start, image.statics)
    ∷ ((input_start, input) ∷ [])))))))

-- memory with each piece laid into it
abbrev pub laid : Mem → List (ℕ × List ℕ) → Mem
laid m [] = m
laid m (piece ∷ others) = laid (written m piece.0 piece.1) others

-- all else is 0
abbrev pub memory_of : ImageValue → List ℕ → Mem
memory_of image input = laid zeroed (pieces image input)
