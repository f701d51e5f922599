-- The site of an access, and a test that decides which writes cover which reads.
use Rattle.std.specs.Prelude.{◌≡◌, Bool, true, false, List, map}
use Rattle.im_block.specs.declared.access.Access.{Access}
use Rattle.im_block.specs.declared.access.Tags.{Tags}
use Rattle.im_block.specs.Meaning.{Site}
use Rattle.im_block.specs.Paths.{Step, step_of, CoversAt}

abbrev pub site_of_access : Access → Site
site_of_access a = record { number = a.number; size = a.size; slot = a.slot }

abbrev pub steps_of_accesses : List Access → List Step
steps_of_accesses accesses = map step_of accesses

-- covers w r: the write at w covers the read at r
pub record Decides (tags : Tags) (covers : Site → Site → Bool) : Type 0 where
  pub yes : (w r : Site) → covers w r ≡ true → CoversAt tags w r
  pub no : (w r : Site) → covers w r ≡ false → CoversAt tags w r → ⊥
