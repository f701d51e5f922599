-- The longest gap of a code: the most instructions that a period may need before it commits or ends the run.
use Rattle.std.specs.Prelude.{◌≡◌, ℕ, suc, ◌+◌, ◌≤◌, List, length}
use Rattle.im_gap.specs.Flow.{IsStaticWalk, IsResumeWord}

-- the instructions that recovery executes
abbrev pub recovery_steps : ℕ
recovery_steps = 33

-- k is recovery's instructions and those of a longest walk from a resume word: one walk has so many, and none more.
-- A flip and a halt have no edges, so a walk that holds one ends there
pub record IsGap (words : List ℕ) (entry k : ℕ) : Type 0 where
  pub most : (i : ℕ) (js : List ℕ) → IsResumeWord words entry i → IsStaticWalk words i js → recovery_steps + suc (length js) ≤ k
  pub from : ℕ
  pub walk : List ℕ
  pub resumes : IsResumeWord words entry from
  pub goes : IsStaticWalk words from walk
  pub reached : recovery_steps + suc (length walk) ≡ k

-- each walk from a resume word goes on by at most b words
abbrev pub IsBounded : List ℕ → ℕ → ℕ → Type 0
IsBounded words entry b = (i : ℕ) (js : List ℕ) → IsResumeWord words entry i → IsStaticWalk words i js → length js ≤ b

-- there are walks from resume words, and they have a greatest length
pub record HasGap (words : List ℕ) (entry : ℕ) : Type 0 where
  pub first : ℕ
  pub resumes : IsResumeWord words entry first
  pub bound : ℕ
  pub bounded : IsBounded words entry bound
