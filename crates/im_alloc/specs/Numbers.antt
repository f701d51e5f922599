-- A number beyond those of all accesses, for private contracts.
use Rattle.std.specs.Prelude.{ℕ, ◌+◌, nat_lt, if◌then◌else◌, List, [], ◌∷◌}
use Rattle.im_block.specs.declared.code.Line.{Line}
use Rattle.im_block.specs.declared.code.Line.TheVariants.{Read, Write, Reload, Spill}
use Rattle.im_block.specs.declared.code.Block.{Block}
use Rattle.im_block.specs.declared.unit.Function.{Function}

abbrev pub past_access : ℕ → ℕ → ℕ
past_access n access = if nat_lt access n then n else access + 1

abbrev pub past_line : ℕ → Line → ℕ
past_line n (Read to place kind access) = past_access n access
past_line n (Write place kind from access) = past_access n access
past_line n (Reload to slot access) = past_access n access
past_line n (Spill slot from access) = past_access n access
past_line n line = n

abbrev pub past_lines : ℕ → List Line → ℕ
past_lines n [] = n
past_lines n (line ∷ lines) = past_lines (past_line n line) lines

abbrev pub past_blocks : ℕ → List Block → ℕ
past_blocks n [] = n
past_blocks n (block ∷ blocks) = past_blocks (past_lines n block.lines.items) blocks

abbrev pub past_functions : ℕ → List Function → ℕ
past_functions n [] = n
past_functions n (f ∷ fs) = past_functions (past_blocks n f.blocks.items) fs
