-- The nesting at a word: how deep brackets, operators and statements stand in one another, by a stack of levels that
-- the words are read with from the left.
use Rattle.std.specs.Prelude.{ℕ, zero, suc, ◌+◌, ◌-◌, ◌≤◌, ◌<◌, Bool, true, false, List, [], ◌∷◌, Option, Some, None, length, slice_get, sum_by}
use Rattle.im_word.specs.Words.{Word}
use Rattle.im_word.specs.Roles.{role_of}
use Rattle.im_word.specs.declared.nesting.Level.{Level}
use Rattle.im_word.specs.declared.role.Role.{Role}
use Rattle.im_word.specs.declared.role.Role.TheVariants as role

-- a level as it is opened
abbrev pub fresh : Level
fresh = record { weight = 0; choices = 0; has_do = false }

-- whether a level keeps its weight behind `;` or `}`, by the word that follows
abbrev pub keeps_weight : Level → Role → Bool
keeps_weight level role.Else = true
keeps_weight level role.While = level.has_do
keeps_weight level _ = false

-- a level behind `;` or `}`
abbrev pub settled : Bool → Level → Level
settled true level = level
settled false level = fresh

-- the innermost level behind a word that neither opens nor closes one
abbrev pub level_behind : Role → Role → Level → Level
level_behind role.Semicolon next level = settled (keeps_weight level next) level
level_behind role.Comma next level = record level { weight = level.choices }
level_behind role.While next level = record level { weight = level.weight + 1; choices = level.choices + 1 }
level_behind role.Do next level = record { weight = level.weight + 1; choices = level.choices + 1; has_do = true }
level_behind role.Chooses next level = record level { weight = level.weight + 1; choices = level.choices + 1 }
level_behind role.Weighs next level = record level { weight = level.weight + 1 }
level_behind _ next level = level

-- the levels behind a word, the innermost first, by that word, the next one, and the levels before it
abbrev pub levels_behind : Role → Role → List Level → List Level
levels_behind word next [] = []
levels_behind role.Opens next (level ∷ outer) = fresh ∷ level ∷ outer
levels_behind role.Closes next (level ∷ []) = level ∷ []
levels_behind role.Closes next (level ∷ around ∷ outer) = around ∷ outer
levels_behind role.ClosesBrace next (level ∷ []) = settled (keeps_weight level next) level ∷ []
levels_behind role.ClosesBrace next (level ∷ around ∷ outer) = settled (keeps_weight around next) around ∷ outer
levels_behind word next (level ∷ outer) = level_behind word next level ∷ outer

abbrev pub optional_role : Option Word → Role
optional_role None = role.Neutral
optional_role (Some word) = role_of word

-- the role of word i, and Neutral where there is none
abbrev pub role_at : List Word → ℕ → Role
role_at words i = optional_role (slice_get words i)

-- the levels before word i
abbrev pub levels_before : List Word → ℕ → List Level
levels_before words zero = fresh ∷ []
levels_before words (suc i) = levels_behind (role_at words i) (role_at words (suc i)) (levels_before words i)

-- how deep these levels are
abbrev pub depth : List Level → ℕ
depth levels = (length levels - 1) + sum_by (λ level. level.weight) levels

-- the nesting at word i
abbrev pub nesting_at : List Word → ℕ → ℕ
nesting_at words i = depth (levels_before words (suc i))

-- the first word whose nesting is over the limit
pub record IsFirstOver (limit : ℕ) (words : List Word) (place : ℕ) : Type 0 where
  pub within : place < length words
  pub over : limit < nesting_at words place
  pub first : (i : ℕ) → i < place → nesting_at words i ≤ limit

abbrev pub NoneOver : ℕ → List Word → Type 0
NoneOver limit words = (i : ℕ) → i < length words → nesting_at words i ≤ limit
