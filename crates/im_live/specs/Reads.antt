-- Which machine registers placed code reads and writes, and which live: read, on some path, before they are written.
use Rattle.std.specs.Prelude.{◌≡◌, ◌<◌, ℕ, zero, suc, ◌==◌, ◌&&◌, ◌||◌, nat_le, Bool, true, false, not, List, [], ◌∷◌, Option, Some, None, slice_get}
use Rattle.im_block.specs.declared.code.Place.{Place}
use Rattle.im_block.specs.declared.code.Place.TheVariants.{Static, Local, Through}
use Rattle.im_block.specs.declared.code.Line.{Line}
use Rattle.im_block.specs.declared.code.Line.TheVariants.{Address, Read, Write, Reload, Spill, Call, Serve}
use Rattle.im_block.specs.declared.code.Exit.{Exit}
use Rattle.im_block.specs.declared.code.Exit.TheVariants.{Jump, Turn, Branch, Return}
use Rattle.im_block.specs.declared.code.Block.{Block}
use Rattle.im_alloc_relation.specs.Live.{uses, sets, result_uses}

-- an object of the frame is found by the stack pointer
abbrev pub in_frame : Place → Bool
in_frame (Static object offset) = false
in_frame (Local object offset) = true
in_frame (Through pointer offset) = false

-- what a line reads beside its operands: x2, where it calls or accesses the frame
abbrev pub reads_stack : Line → Bool
reads_stack (Address to place) = in_frame place
reads_stack (Read to place kind access) = in_frame place
reads_stack (Write place kind from access) = in_frame place
reads_stack (Reload to slot access) = true
reads_stack (Spill slot from access) = true
reads_stack (Call to i first count) = true
reads_stack (Serve to service from) = true
reads_stack line = false

abbrev pub reads : Line → ℕ → Bool
reads line r = uses line r || (reads_stack line && r == 2)

-- a call leaves nothing in x1 and in x5 and above but its result
abbrev pub called : ℕ → Bool
called r = r == 1 || nat_le 5 r

abbrev pub writes : Line → ℕ → Bool
writes (Call to i first count) r = called r
writes (Serve to service from) r = called r
writes line r = sets line r

-- live b: what lives at the start of block b. A return reads the return address, the stack pointer and the result
abbrev pub exit_live : (ℕ → ℕ → Bool) → Exit → ℕ → Bool
exit_live live (Jump b) r = live b r
exit_live live (Turn b) r = live b r
exit_live live (Branch on a b) r = r == on || (live a r || live b r)
exit_live live (Return from) r = result_uses from r || (r == 1 || r == 2)

-- what lives before the lines that are left of a block
abbrev pub lives_before : (ℕ → ℕ → Bool) → List Line → Exit → ℕ → Bool
lives_before live [] exit r = exit_live live exit r
lives_before live (line ∷ rest) exit r = reads line r || (not (writes line r) && lives_before live rest exit r)

abbrev pub lives_in : (ℕ → ℕ → Bool) → Option Block → ℕ → Bool
lives_in live None r = false
lives_in live (Some block) r = lives_before live block.lines.items block.exit r

-- a path of at most n blocks, begun with block b, reads register r before it writes it
abbrev pub reads_first : List Block → ℕ → ℕ → ℕ → Bool
reads_first blocks zero b r = false
reads_first blocks (suc n) b r = lives_in (reads_first blocks n) (slice_get blocks b) r

-- a register lives at the start of a block exactly where some path from there reads it before it writes it
pub record IsLive (blocks : List Block) (live : ℕ → ℕ → Bool) : Type 0 where
  pub some : (b r : ℕ) → r < 32 → live b r ≡ true → (n : ℕ) × (reads_first blocks n b r ≡ true)
  pub all : (b r n : ℕ) → r < 32 → reads_first blocks n b r ≡ true → live b r ≡ true
