-- What follows from the definitions for commands.
use Rattle.std.specs.Prelude.{◌≡◌, ℕ, ◌++◌, List, Option, Some}
use Rattle.im_io.specs.Shelf.{ShelfState, Told}
use Rattle.im_rv.specs.declared.step.Went.{Went}
use Rattle.im_rv.specs.declared.step.Went.TheVariants.{On}
use Rattle.im_image.specs.Contents.{ImageValue}
use Rattle.im_device.specs.Periods.{Device, fresh, power}
use Rattle.im_cmd_words.specs.Named.{Options}
use Rattle.im_cmd.specs.Runs.{RunsImage, RunsAndSaves}

-- the two have gone alike, and left the same memory
pub record SameEnd (one other : Device) : Type 0 where
  pub went : one.went ≡ other.went
  pub mem : one.mem ≡ other.mem

-- A run was saved when power ran out, and another command went on from its file, whichever image was named to it: the second
-- ends as the one run does that has the periods of both.
abbrev pub JoinedLaw : Type 0
JoinedLaw = (image again : ImageValue) (options later : Options) (resume : Option (List ℕ)) (name : List ℕ) (left ended : Device)
    → (old between new : ShelfState) (told : Told) → between.told ≡ Some told
    → (first : RunsAndSaves resume options image left old between) → options.save ≡ Some name → left.went ≡ On
    → (second : RunsImage (Some name) later again ended between new)
    → SameEnd ended (power (first.runs.periods ++ second.periods) (fresh first.runs.first))
