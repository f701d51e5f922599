-- Five accesses in a block: 1 writes v, 2 reads s, 3 writes s, 4 reads v, 5 writes v. A cut is due before 3, and with it one
-- before 5.
use Rattle.std.specs.Prelude.{ℕ, List, [], ◌∷◌, None}
use Rattle.std.specs.declared.alloc.Global.{Global}
use lib.Dec.{lit<}
use Rattle.im_block.specs.declared.access.Tag.TheVariants.{Direct}
use Rattle.im_block.specs.declared.access.Tags.{Tags}
use Rattle.im_block.specs.Meaning.{Site}
use Rattle.im_block.specs.Paths.{Step, ReadStep, WriteStep, Open, MeetAt}
use Rattle.im_block_laws.specs.Sample.{vec}

abbrev pub site : ℕ → Site
site n = record { number = n; size = 4; slot = None }

-- v is object 0, s object 1; no access has the number 0
abbrev pub row_tags : Global → Tags
row_tags memory =
    record {
      of = vec memory (0 ∷ 1 ∷ 2 ∷ 2 ∷ 1 ∷ 1 ∷ []) (lit< tt);
      tags = vec memory (Direct 9 0 ∷ Direct 0 0 ∷ Direct 1 0 ∷ []) (lit< tt);
    }

abbrev pub IsExposedAfter : Global → List Step → ℕ → Type 0
IsExposedAfter memory path read = Open (row_tags memory) path (site read)

pub record Row (memory : Global) : Type 0 where
  pub two : IsExposedAfter memory (WriteStep (site 1) ∷ ReadStep (site 2) ∷ []) 2
  pub met_by_three : MeetAt (row_tags memory) (site 3) (site 2)
  pub four_protected : IsExposedAfter memory (WriteStep (site 1) ∷ ReadStep (site 2) ∷ WriteStep (site 3) ∷ ReadStep (site 4) ∷ []) 4 → ⊥
  -- a cut before 3 takes away what protected 4
  pub four : IsExposedAfter memory (WriteStep (site 3) ∷ ReadStep (site 4) ∷ []) 4
  pub met_by_five : MeetAt (row_tags memory) (site 5) (site 4)
  pub two_not_met_by_five : MeetAt (row_tags memory) (site 5) (site 2) → ⊥

abbrev pub RowLaw : Type 0
RowLaw = (memory : Global) → Row memory
