-- One sweep over the blocks of a function, from the last to the first, with the greatest cost of a path to each place, if a path
-- comes there.
use Rattle.std.specs.Prelude.{◌≡◌, ℕ, ◌+◌, ◌<◌, ◌≤◌, Bool, true, false, List, [], ◌∷◌, ◌++◌, Option, Some, None, get_or}
use Rattle.im_num.specs.declared.values.Cause.{Cause}
use Rattle.im_num.specs.declared.values.Cause.TheVariants.{Gap}
use Rattle.im_block.specs.declared.code.Line.{Line}
use Rattle.im_block.specs.declared.code.Line.TheVariants.{Cut}
use Rattle.im_block.specs.declared.code.Exit.{Exit}
use Rattle.im_block.specs.declared.code.Block.{Block}
use Rattle.im_block.specs.Paths.{IsCut}
use Rattle.im_block.specs.Shape.{with_cut}
use Rattle.im_cut_gap.specs.Costs.{leave_cost}
use Rattle.im_cut_gap.specs.Starts.{leads_to, RaisedWhere}

abbrev pub is_cut : Line → Bool
is_cut (Cut cause) = true
is_cut line = false

-- the cost of what comes next is added; where a path would be too long with it, a cut is put before it
pub data Spends (limit cost : ℕ) : Option ℕ → List Line → Option ℕ → Type 0 where
  Nowhere : Spends limit cost None [] None
  Fits : (m : ℕ) → m + cost ≤ limit → Spends limit cost (Some m) [] (Some (m + cost))
  Splits : (m : ℕ) → limit < m + cost → Spends limit cost (Some m) (Cut Gap ∷ []) (Some cost)

pub record Puts (limit cost : ℕ) (from to : Option ℕ) (cut longer : List Line) : Type 0 where
  pub put : List Line
  pub longer_by : longer ≡ cut ++ put
  pub spends : Spends limit cost from put to

-- the lines that are left of a block and its exit, from one cost to the other
pub data SweepLines (limit : ℕ) (exit : Exit) : Option ℕ → List Line → List Line → Option ℕ → Type 0 where
  Leaves : (m : Option ℕ) (put : List Line) (n : Option ℕ) → Spends limit (leave_cost exit) m put n → SweepLines limit exit m [] put n
  AtCut : (m : Option ℕ) (cause : Cause) (old new : List Line) (n : Option ℕ) → SweepLines limit exit (Some 0) old new n → SweepLines limit exit m (Cut cause ∷ old) (Cut cause ∷ new) n
  Skips : (line : Line) (old new : List Line) (n : Option ℕ) → (IsCut line → ⊥) → SweepLines limit exit None old new n → SweepLines limit exit None (line ∷ old) (line ∷ new) n
  Keeps : (m : ℕ) (line : Line) (old new : List Line) (n : Option ℕ) → (IsCut line → ⊥) → m + with_cut line ≤ limit → SweepLines limit exit (Some (m + with_cut line)) old new n → SweepLines limit exit (Some m) (line ∷ old) (line ∷ new) n
  Cuts : (m : ℕ) (line : Line) (old new : List Line) (n : Option ℕ) → (IsCut line → ⊥) → limit < m + with_cut line → SweepLines limit exit (Some (with_cut line)) old new n → SweepLines limit exit (Some m) (line ∷ old) (Cut Gap ∷ line ∷ new) n

-- one line is swept: this is put of it, whatever follows
pub record SweepsLine (limit : ℕ) (from to : Option ℕ) (line : Line) (cut longer : List Line) : Type 0 where
  pub put : List Line
  pub longer_by : longer ≡ cut ++ put
  pub sweeps : (exit : Exit) (old new : List Line) (n : Option ℕ) → SweepLines limit exit to old new n → SweepLines limit exit from (line ∷ old) (put ++ new) n

-- a block is swept, and its cost is handed on to where it leads
pub record SweepsBlock (limit number : ℕ) (old new : Block) (costs later : List (Option ℕ)) : Type 0 where
  pub end : Option ℕ
  pub lines : SweepLines limit new.exit (get_or costs number None) old.lines.items new.lines.items end
  pub exit : new.exit ≡ old.exit
  pub raised : RaisedWhere (leads_to new.exit) end costs later
