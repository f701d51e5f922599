-- Placed code with its gap cuts, where a longest gap was asked for, and then with greedy cuts over all its accesses, those to slots too.
use Rattle.std.specs.Prelude.{◌≡◌, ◌≤◌, ◌-◌, ℕ, List, Option, Some, None}
use Rattle.std.specs.List.{AllZip}
use Rattle.im_block.specs.declared.access.Tags.{Tags}
use Rattle.im_block.specs.declared.access.Dep.{Dep}
use Rattle.im_block.specs.declared.unit.Function.{Function}
use Rattle.im_block.specs.declared.unit.Unit.{Unit as Code}
use Rattle.im_cut.specs.Greedy.{CutsTo}
use Rattle.im_cut_gap.specs.Gaps.{GapCutsTo}

-- what may be asked for as the longest gap, in instructions, if anything is
abbrev pub IsGapLimit : Option ℕ → Type 0
IsGapLimit None = Unit {0}
IsGapLimit (Some gap) = 160 ≤ gap

-- so much of it is left for a path within a function: the rest is for recovery, a checkpoint, a routine and the start of another function
abbrev pub cost_limit : ℕ → ℕ
cost_limit gap = gap - 110

-- gap cuts, if a longest gap was asked for
abbrev pub GapsTo : Option ℕ → Function → Function → Type 0
GapsTo None old new = new ≡ old
GapsTo (Some gap) old new = GapCutsTo (cost_limit gap) old new

pub record RecutsFunction (tags : Tags) (max_gap : Option ℕ) (old new : Function) : Type 0 where
  pub gapped : Function
  pub gaps : GapsTo max_gap old gapped
  pub added : List Dep
  pub cuts : CutsTo tags gapped new added

abbrev pub RecutsFunctions : Tags → Option ℕ → List Function → List Function → Type 0
RecutsFunctions tags max_gap old new = AllZip (RecutsFunction tags max_gap) old new

pub record RecutsTo (tags : Tags) (max_gap : Option ℕ) (old new : Code) : Type 0 where
  pub limit : IsGapLimit max_gap
  pub functions : RecutsFunctions tags max_gap old.functions.items new.functions.items
  pub rest : new ≡ record old { functions = new.functions }
