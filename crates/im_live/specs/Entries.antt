-- The least entry of the checkpoint that saves what lives: E4 to E31, by the greatest register that it saves.
use Rattle.std.specs.Prelude.{ℕ, zero, suc, ◌+◌, Bool, List, Option, Some, None, drop, slice_get, if◌then◌else◌}
use Rattle.im_block.specs.declared.code.Block.{Block}
use Rattle.im_live.specs.Reads.{lives_before}

-- the greatest of x5 to xn+4 that lives, or 4
abbrev pub greatest : (ℕ → Bool) → ℕ → ℕ
greatest lives zero = 4
greatest lives (suc n) = if lives (n + 5) then n + 5 else greatest lives n

-- the greater of 4 and the greatest register that lives, x1 to x4 aside
abbrev pub entry_of : (ℕ → Bool) → ℕ
entry_of lives = greatest lives 27

abbrev pub entry_in : (ℕ → ℕ → Bool) → Option Block → ℕ → ℕ
entry_in live None j = 4
entry_in live (Some block) j = entry_of (lives_before live (drop (suc j) block.lines.items) block.exit)

-- the entry for line j of block b: what lives behind it
abbrev pub entries : (ℕ → ℕ → Bool) → List Block → ℕ → ℕ → ℕ
entries live blocks b j = entry_in live (slice_get blocks b) j
