-- A number beyond those of all accesses.
use Rattle.std.proofs.Common.{◌≡◌, ℕ, ◌+◌, ◌<◌, ◌≤◌, ⊎_elim, List, [], ◌∷◌, true, false, ap, arith}
use Rattle.std.specs.Prelude.{nat_lt, if◌then◌else◌}
use Rattle.std.proofs.lemmas.Bool.Decides.{nat_tests}
use Rattle.std.proofs.lemmas.Bool.{cases_lt}
use Rattle.im_block.specs.declared.code.Line.{Line}
use Rattle.im_block.specs.declared.code.Line.TheVariants.{Read, Write, Reload, Spill}
use Rattle.im_block.specs.declared.code.Block.{Block}
use Rattle.im_block.specs.declared.unit.Function.{Function}
use Rattle.im_block.specs.Sections.{Has}
use Rattle.im_block.specs.Wellformed.{accesses_of_line, accesses_of_lines, accesses_of_blocks, accesses_of_functions}
use Rattle.im_alloc_laws.proofs.Numbers.{has_split}
use Rattle.im_alloc.specs.Numbers.{past_access, past_line, past_lines, past_blocks, past_functions}

record Past (n a m : ℕ) : Type 0 where
  more : n ≤ m
  past : a < m

past : (n a : ℕ) → Past n a (past_access n a)
past n a =
    ⊎_elim
    (λ (lt : a < n).
    let t : nat_lt a n ≡ true = grind (arith, nat_tests) in
    let e : past_access n a ≡ n = ap (λ b. if b then n else a + 1) t in
    record { more = omega arith; past = omega arith })
    (λ (le : n ≤ a).
    let t : nat_lt a n ≡ false = grind (arith, nat_tests) in
    let e : past_access n a ≡ a + 1 = ap (λ b. if b then n else a + 1) t in
    record { more = omega arith; past = omega arith })
    (cases_lt a n)

line_more : (n : ℕ) (line : Line) → n ≤ past_line n line
line_more n (Read to place kind access) = (past n access).more
line_more n (Write place kind from access) = (past n access).more
line_more n (Reload to slot access) = (past n access).more
line_more n (Spill slot from access) = (past n access).more
line_more n line = omega arith

one_past : (n access a : ℕ) → Has (access ∷ []) a → a < past_access n access
one_past n access a h = ⊎_elim (λ (e : access ≡ a). let p = (past n access).past in omega arith) (λ (k : ⊥). absurd k) h

line_past : (n : ℕ) (line : Line) (a : ℕ) → Has (accesses_of_line line) a → a < past_line n line
line_past n (Read to place kind access) a h = one_past n access a h
line_past n (Write place kind from access) a h = one_past n access a h
line_past n (Reload to slot access) a h = one_past n access a h
line_past n (Spill slot from access) a h = one_past n access a h
line_past n line a h = absurd h

lines_more : (n : ℕ) (lines : List Line) → n ≤ past_lines n lines
lines_more n [] = omega arith
lines_more n (line ∷ lines) =
    let a = line_more n line in
    let b = lines_more (past_line n line) lines in
    omega arith

lines_past : (n : ℕ) (lines : List Line) (a : ℕ) → Has (accesses_of_lines lines) a → a < past_lines n lines
lines_past n [] a h = absurd h
lines_past n (line ∷ lines) a h =
    ⊎_elim
    (λ (k : Has (accesses_of_line line) a). let p = line_past n line a k in let m = lines_more (past_line n line) lines in omega arith)
    (λ (k : Has (accesses_of_lines lines) a). lines_past (past_line n line) lines a k)
    (has_split (accesses_of_line line) (accesses_of_lines lines) a h)

blocks_more : (n : ℕ) (blocks : List Block) → n ≤ past_blocks n blocks
blocks_more n [] = omega arith
blocks_more n (block ∷ blocks) =
    let a = lines_more n block.lines.items in
    let b = blocks_more (past_lines n block.lines.items) blocks in
    omega arith

blocks_past : (n : ℕ) (blocks : List Block) (a : ℕ) → Has (accesses_of_blocks blocks) a → a < past_blocks n blocks
blocks_past n [] a h = absurd h
blocks_past n (block ∷ blocks) a h =
    ⊎_elim
    (λ (k : Has (accesses_of_lines block.lines.items) a). let p = lines_past n block.lines.items a k in let m = blocks_more (past_lines n block.lines.items) blocks in omega arith)
    (λ (k : Has (accesses_of_blocks blocks) a). blocks_past (past_lines n block.lines.items) blocks a k)
    (has_split (accesses_of_lines block.lines.items) (accesses_of_blocks blocks) a h)

functions_more : (n : ℕ) (fs : List Function) → n ≤ past_functions n fs
functions_more n [] = omega arith
functions_more n (f ∷ fs) =
    let a = blocks_more n f.blocks.items in
    let b = functions_more (past_blocks n f.blocks.items) fs in
    omega arith

pub functions_past : (n : ℕ) (fs : List Function) (a : ℕ) → Has (accesses_of_functions fs) a → a < past_functions n fs
functions_past n [] a h = absurd h
functions_past n (f ∷ fs) a h =
    ⊎_elim
    (λ (k : Has (accesses_of_blocks f.blocks.items) a). let p = blocks_past n f.blocks.items a k in let m = functions_more (past_blocks n f.blocks.items) fs in omega arith)
    (λ (k : Has (accesses_of_functions fs) a). functions_past (past_blocks n f.blocks.items) fs a k)
    (has_split (accesses_of_blocks f.blocks.items) (accesses_of_functions fs) a h)
