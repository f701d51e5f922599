-- The map of memory: each address, size and capacity by its name. Sizes and capacities are in bytes.
use Rattle.std.specs.Prelude.{ℕ}

abbrev pub memory_size : ℕ
memory_size = 0x500000

-- ---- the low page: words of the runtime, and one byte

-- INDEX: which register buffer is live
abbrev pub index_at : ℕ
index_at = 0x000

-- STATUS: what the program returned
abbrev pub status_at : ℕ
status_at = 0x004

-- REASON: 1 where the stack was exhausted
abbrev pub reason_at : ℕ
reason_at = 0x008

-- OUT_LEN0: the output's length
abbrev pub out_len0_at : ℕ
out_len0_at = 0x00C

-- OUT_CAP: the output's capacity
abbrev pub out_cap_at : ℕ
out_cap_at = 0x010

-- IN_LEN: the input's length
abbrev pub in_len_at : ℕ
in_len_at = 0x014

-- IN_POS: how much of the input was read
abbrev pub in_pos_at : ℕ
in_pos_at = 0x018

-- STACK_LIM: the lowest address of the stack
abbrev pub stack_lim_at : ℕ
stack_lim_at = 0x01C

-- OUT_LEN1: the output's length as well
abbrev pub out_len1_at : ℕ
out_len1_at = 0x020

-- OUT_SEL: the byte that says which of the two lengths holds
abbrev pub out_sel_at : ℕ
out_sel_at = 0x024

-- ---- the two register buffers, of 32 words each: word 0 is a place in the code, word i is register xi

abbrev pub buffer0_start : ℕ
buffer0_start = 0x080

abbrev pub buffer1_start : ℕ
buffer1_start = 0x100

-- ---- the regions behind them

abbrev pub code_start : ℕ
code_start = 0x001000

abbrev pub code_capacity : ℕ
code_capacity = 0x0FF000

abbrev pub statics_start : ℕ
statics_start = 0x100000

abbrev pub statics_capacity : ℕ
statics_capacity = 0x100000

-- the stack grows down from its end
abbrev pub stack_end : ℕ
stack_end = 0x300000

abbrev pub stack_capacity : ℕ
stack_capacity = 0x100000

abbrev pub input_start : ℕ
input_start = 0x300000

abbrev pub input_capacity : ℕ
input_capacity = 0x100000

abbrev pub output_start : ℕ
output_start = 0x400000

abbrev pub output_capacity : ℕ
output_capacity = 0x100000
