-- Block code with its forced cuts: at the entry of each function, behind each call, on each loop edge; nowhere else.
use Rattle.std.specs.Prelude.{◌≡◌, ℕ, ◌==◌, if◌then◌else◌, List, [], ◌∷◌, ◌++◌, Option, Some, None}
use Rattle.std.specs.List.{AllZip}
use Rattle.im_num.specs.declared.values.Cause.{Cause}
use Rattle.im_num.specs.declared.values.Cause.TheVariants.{Entry, Return as Back, Loop}
use Rattle.im_block.specs.declared.code.Line.{Line}
use Rattle.im_block.specs.declared.code.Line.TheVariants.{Cut, Call, Serve}
use Rattle.im_block.specs.declared.code.Exit.{Exit}
use Rattle.im_block.specs.declared.code.Exit.TheVariants.{Jump, Turn, Branch, Return}
use Rattle.im_block.specs.declared.code.Block.{Block}
use Rattle.im_block.specs.declared.unit.Function.{Function}
use Rattle.im_block.specs.declared.unit.Unit.{Unit as Code}
use Rattle.im_block.specs.Unitwise.{EachFunction, AllZipFrom, place_behind}

-- why a cut stands behind a line, and before a block's exit
abbrev pub due_behind : Line → Option Cause
due_behind (Call to function first count) = Some Back
due_behind (Serve to service from) = Some Back
due_behind line = None

abbrev pub due_at : Option Cause → Exit → Option Cause
due_at (Some cause) exit = Some cause
due_at None (Jump b) = None
due_at None (Turn b) = Some Loop
due_at None (Branch on x y) = None
due_at None (Return from) = None

abbrev pub cut_of : Option Cause → List Line
cut_of None = []
cut_of (Some cause) = Cut cause ∷ []

-- the lines of a block with that exit; due: why a cut stands before the first of them
abbrev pub forced_lines : Exit → Option Cause → List Line → List Line
forced_lines exit due [] = cut_of (due_at due exit)
forced_lines exit due (line ∷ lines) = cut_of due ++ line ∷ forced_lines exit (due_behind line) lines

pub record ForcesBlock (due : Option Cause) (old new : Block) : Type 0 where
  pub lines : new.lines.items ≡ forced_lines old.exit due old.lines.items
  pub exit : new.exit ≡ old.exit

abbrev pub due_first : ℕ → ℕ → Option Cause
due_first entry b = if b == entry then Some Entry else None

-- the n-th block
abbrev pub ForcesAt : ℕ → ℕ → Block → Block → Type 0
ForcesAt entry n old new = ForcesBlock (due_first entry n) old new

abbrev pub ForcesBlocks : ℕ → ℕ → List Block → List Block → Type 0
ForcesBlocks entry n old new = AllZipFrom place_behind (ForcesAt entry) n old new

pub record ForcesFunction (old new : Function) : Type 0 where
  pub blocks : ForcesBlocks old.entry 0 old.blocks.items new.blocks.items
  pub rest : new ≡ record old { blocks = new.blocks }

abbrev pub ForcesFunctions : List Function → List Function → Type 0
ForcesFunctions old new = AllZip ForcesFunction old new

abbrev pub Forces : Code → Code → Type 0
Forces old new = EachFunction ForcesFunction old new
