-- The checkpoint routine: an entry for each number of registers to save, E4 to E31, and one ladder of stores.
use Rattle.std.specs.Prelude.{ℕ, zero, suc, ◌+◌, ◌-◌, ◌*◌, Some, List, [], ◌∷◌, ◌++◌, map}
use Rattle.im_mem.specs.Map.{index_at}
use Rattle.im_rv.specs.declared.instr.Op.TheVariants.{Sw, Xori, Slli, Srli, Addi, Jal}
use Rattle.im_rv.specs.Decode.{Line}
use Rattle.im_rv.specs.Encode.{encoded}
use Rattle.im_rv.specs.Lines.{instruction, CodeLine, plain_line}
use Rattle.im_ckpt.specs.Buffers.{slot}
use Rattle.im_ckpt.specs.Recovery.{load_line, return_line}

-- it stands directly behind recovery
abbrev pub checkpoint_start : ℕ
checkpoint_start = 0x1100

-- the address of entry Em
abbrev pub entry_at : ℕ → ℕ
entry_at m = checkpoint_start + 20 * (m - 4)

-- the address of a place of the ladder: place 0 stores x31
abbrev pub ladder_at : ℕ → ℕ
ladder_at place = 0x1330 + 4 * place

-- the address behind it
abbrev pub checkpoint_end : ℕ
checkpoint_end = 0x13B4

-- a line that has a label
abbrev pub labelled : ℕ → Line → CodeLine
labelled label l = record (plain_line l) { label = Some label }

-- entry Em, whose label is m: x4 becomes the idle buffer's address, 256 where INDEX is 0 and 128 where it is 1; on to the place of the
-- ladder that stores xm
abbrev pub entry_code : ℕ → List CodeLine
entry_code m = labelled m (load_line 4 index_at) ∷ map plain_line (instruction Xori 4 4 0 1 ∷ instruction Slli 4 4 0 7 ∷ instruction Addi 4 4 0 128 ∷ instruction Jal 0 0 0 (748 - 24 * m) ∷ [])

-- n entries, from E4 on
abbrev pub entries : ℕ → List CodeLine
entries zero = []
entries (suc n) = entries n ++ entry_code (n + 4)

abbrev pub ladder_registers : List ℕ
ladder_registers = 31 ∷ 30 ∷ 29 ∷ 28 ∷ 27 ∷ 26 ∷ 25 ∷ 24 ∷ 23 ∷ 22 ∷ 21 ∷ 20 ∷ 19 ∷ 18 ∷ 17 ∷ 16 ∷ 15 ∷ 14 ∷ 13 ∷ 12 ∷ 11 ∷ 10 ∷ 9 ∷ 8 ∷ 7 ∷ 6 ∷ 5 ∷ 1 ∷ 2 ∷ 3 ∷ []

-- sw xi, at its slot, (x4)
abbrev pub store_line : ℕ → Line
store_line i = instruction Sw 0 4 i (slot i)

-- srli x4, x4, 8: from the buffer's address to its number
abbrev pub shift_line : Line
shift_line = instruction Srli 4 4 0 8

-- sw x4, 0(x0): INDEX flips
abbrev pub flip_line : Line
flip_line = instruction Sw 0 0 4 index_at

abbrev pub ladder : List Line
ladder = map store_line ladder_registers ++ shift_line ∷ flip_line ∷ return_line ∷ []

abbrev pub checkpoint_code : List CodeLine
checkpoint_code = entries 28 ++ map plain_line ladder

abbrev pub checkpoint : List Line
checkpoint = map (λ (l : CodeLine). l.line) checkpoint_code

abbrev pub checkpoint_words : List ℕ
checkpoint_words = map encoded checkpoint
