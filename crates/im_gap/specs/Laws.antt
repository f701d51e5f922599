-- When a code has a longest gap.
use Rattle.std.specs.Prelude.{ℕ, ◌<◌, ◌≤◌, List, [], ◌∷◌}
use Rattle.im_gap.specs.Flow.{Flow, IsResumeWord}
use Rattle.im_gap.specs.Gap.{IsBounded, HasGap}

-- a number for each word that falls along each edge bounds the walks
abbrev pub RankLaw : Type 0
RankLaw = (words : List ℕ) (entry top : ℕ) (rank : ℕ → ℕ) → ((i j : ℕ) → Flow words i j → rank j < rank i) → ((i : ℕ) → IsResumeWord words entry i → rank i ≤ top) → IsBounded words entry top

-- main: jal x1, f; jal x3, routine; ebreak
-- f: jal x1, g; jal x3, routine; jalr x0, 0(x1)
-- g: addi x0, x0, 0; jalr x0, 0(x1)
-- routine: sw x4, 0(x0); jalr x0, 0(x3)
abbrev pub nested_calls : List ℕ
nested_calls = 0x00C000EF ∷ 0x01C001EF ∷ 0x00100073 ∷ 0x00C000EF ∷ 0x010001EF ∷ 0x00008067 ∷ 0x00000013 ∷ 0x00008067 ∷ 0x00402023 ∷ 0x00018067 ∷ []

-- a call within a call, with their returns and a cut behind each, has a longest gap
abbrev pub CallsLaw : Type 0
CallsLaw = HasGap nested_calls 0x1000
