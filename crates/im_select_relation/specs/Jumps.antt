-- Blocks without lines that only jump, for which no word is wanted.
use Rattle.std.specs.Prelude.{ℕ, ◌+◌, ◌-◌, ◌/◌, nat_le, Bool, List, [], ◌∷◌, Option, Some, None, length}
use Rattle.im_block.specs.declared.code.Line.{Line}
use Rattle.im_block.specs.declared.code.Exit.{Exit}
use Rattle.im_block.specs.declared.code.Exit.TheVariants.{Jump}
use Rattle.im_block.specs.declared.code.Block.{Block}

-- where a block jumps that has no line
abbrev pub jump_of : List Line → Exit → Option ℕ
jump_of [] (Jump c) = Some c
jump_of lines exit = None

abbrev pub one_if : Option ℕ → ℕ
one_if None = 0
one_if (Some c) = 1

-- how many of the blocks have no line but their jump
abbrev pub jumps_in : List Block → ℕ
jumps_in [] = 0
jumps_in (block ∷ blocks) = one_if (jump_of block.lines.items block.exit) + jumps_in blocks

-- those are few beside the others: then the steps of a run are few for the words of its code, whether words stand for them or not
abbrev pub are_few : List Block → Bool
are_few blocks = nat_le (jumps_in blocks / 16) (length blocks - jumps_in blocks)
