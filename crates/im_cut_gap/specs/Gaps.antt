-- Functions with gap cuts: each stands where a path without a cut would cost more than a limit. Such a path takes account of the
-- cuts of the old code and of the gap cuts that were placed before: those of later blocks, and those above it in its own.
use Rattle.std.specs.Prelude.{◌≡◌, ◌⊎◌, ℕ, suc, ◌+◌, ◌<◌, List, [], ◌∷◌, ◌++◌, length, Some, slice_get}
use Rattle.im_num.specs.declared.values.Cause.{Cause}
use Rattle.im_num.specs.declared.values.Cause.TheVariants.{Gap}
use Rattle.im_block.specs.declared.code.Line.{Line}
use Rattle.im_block.specs.declared.code.Line.TheVariants.{Cut}
use Rattle.im_block.specs.declared.code.Exit.{Exit}
use Rattle.im_block.specs.declared.code.Block.{Block}
use Rattle.im_block.specs.declared.unit.Function.{Function}
use Rattle.im_block.specs.Meaning.{Spot}
use Rattle.im_block.specs.Sections.{Has}
use Rattle.im_block.specs.Paths.{spot, IsEntry}
use Rattle.im_cut_gap.specs.Costs.{next_cost, CostPath, NoneLonger}

-- a cut of this cause stands in the blocks
pub record HasCause (blocks : List Block) (cause : Cause) : Type 0 where
  pub number : ℕ
  pub block : Block
  pub at : slice_get blocks number ≡ Some block
  pub there : Has block.lines.items (Cut cause)

-- a place of block c with m lines before it is decided before one of block b with n
abbrev pub IsEarlier : ℕ → ℕ → ℕ → ℕ → Type 0
IsEarlier b n c m = (b < c) ⊎ ((c ≡ b) × (m < n))

-- directly behind a cut of the old code, or behind one that is decided before the place
pub record BehindCut (old new : List Block) (b n : ℕ) (s : Spot) : Type 0 where
  pub block : Block
  pub before : List Line
  pub cause : Cause
  pub at : slice_get new s.block ≡ Some block
  pub lines : block.lines.items ≡ before ++ Cut cause ∷ s.rest
  pub exit : s.exit ≡ block.exit
  pub known : HasCause old cause ⊎ IsEarlier b n s.block (length before)

-- where a section may begin, by the cuts that are known at the place
abbrev pub Starts : List Block → Function → ℕ → ℕ → Spot → Type 0
Starts old f b n s = IsEntry f s ⊎ BehindCut old f.blocks.items b n s

-- a path, without any cut, comes to the gap cut at the place, and costs more than the limit with what stands behind it
pub record IsLong (limit : ℕ) (old : List Block) (f : Function) (b n : ℕ) (rest : List Line) (exit : Exit) : Type 0 where
  pub start : Spot
  pub starts : Starts old f b n start
  pub cost : ℕ
  pub path : CostPath f.blocks.items start cost (spot b (Cut Gap ∷ rest) exit)
  pub long : limit < cost + next_cost rest exit

-- what is left of block b behind n lines of the new code
pub data GapLines (limit : ℕ) (blocks : List Block) (f : Function) (b : ℕ) (exit : Exit) : ℕ → List Line → List Line → Type 0 where
  Empty : (n : ℕ) → GapLines limit blocks f b exit n [] []
  Same : (n : ℕ) (line : Line) (old new : List Line) → GapLines limit blocks f b exit (suc n) old new → GapLines limit blocks f b exit n (line ∷ old) (line ∷ new)
  Added : (n : ℕ) (old new : List Line) → IsLong limit blocks f b n new exit → GapLines limit blocks f b exit (suc n) old new → GapLines limit blocks f b exit n old (Cut Gap ∷ new)

-- blocks from number b on
abbrev pub GapBlocks : ℕ → List Block → Function → ℕ → List Block → List Block → Type 0
GapBlocks limit blocks f b [] [] = Unit {0}
GapBlocks limit blocks f b (x ∷ xs) (y ∷ ys) = GapLines limit blocks f b y.exit 0 x.lines.items y.lines.items × (y.exit ≡ x.exit) × GapBlocks limit blocks f (suc b) xs ys
GapBlocks limit blocks f b [] (y ∷ ys) = ⊥
GapBlocks limit blocks f b (x ∷ xs) [] = ⊥

-- gap cuts are added where they are due and nowhere else, and no path costs more than the limit afterwards
pub record GapCutsTo (limit : ℕ) (old new : Function) : Type 0 where
  pub blocks : GapBlocks limit old.blocks.items new 0 old.blocks.items new.blocks.items
  pub rest : new ≡ record old { blocks = new.blocks }
  pub bounded : NoneLonger limit new
