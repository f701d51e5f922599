-- Code as words from 0x1000 on. Word i stands at 4096 + 4 i.
use Rattle.std.specs.Prelude.{ℕ, ◌+◌, ◌*◌, List, Option, slice_get}
use Rattle.im_rv.specs.Decode.{Line}
use Rattle.im_rv.specs.Effects.{decoded_word}

-- the address of word i
abbrev pub address : ℕ → ℕ
address i = 4096 + 4 * i

-- the instruction that word i is, if there is such a word and it is one
abbrev pub instruction_at : List ℕ → ℕ → Option Line
instruction_at words i = decoded_word (slice_get words i)
