-- How the levels stand in the code, and that its sum of weights is right.
use Rattle.std.specs.Prelude.{◌≡◌, ◌≤◌, List, [], ◌∷◌, reverse, sum_by}
use Rattle.im_word.specs.declared.nesting.Level.{Level}
use Rattle.im_word.specs.declared.nesting.Levels.{Levels}

-- the levels, the innermost first
abbrev pub levels_of : Levels → List Level
levels_of levels = levels.innermost ∷ reverse levels.outer.items

-- no level has more choices than weight
abbrev pub AreWeighed : List Level → Type 0
AreWeighed [] = Unit {0}
AreWeighed (level ∷ levels) = (level.choices ≤ level.weight) × AreWeighed levels

pub record IsTallied (levels : Levels) : Type 0 where
  pub total : levels.weight ≡ sum_by (λ level. level.weight) (levels_of levels)
  pub weighed : AreWeighed (levels_of levels)
