-- The exposed reads of a list of accesses, and the pairs of an exposed read and a later write that may meet its bytes, by the
-- tests of sectioned code.
use Rattle.std.specs.Prelude.{◌≡◌, ◌⊎◌, ℕ, true, false, List, ◌∷◌, ◌++◌}
use Rattle.im_block.specs.declared.access.Access.{Access}
use Rattle.im_block.specs.declared.access.Tags.{Tags}
use Rattle.im_block.specs.declared.access.Dep.{Dep}
use Rattle.im_block.specs.Meaning.{Site}
use Rattle.im_block.specs.Sections.{Has}
use Rattle.im_block.specs.Paths.{Open, MeetAt}
use Rattle.im_dep.specs.Sites.{site_of_access, steps_of_accesses}

pub record IsExposed (tags : Tags) (accesses : List Access) (n : ℕ) : Type 0 where
  pub access : Access
  pub there : Has accesses access
  pub number : access.number ≡ n
  pub reads : access.write ≡ false
  pub opens : Open tags (steps_of_accesses accesses) (site_of_access access)

pub record Clobbers (tags : Tags) (accesses : List Access) (d : Dep) : Type 0 where
  pub before : List Access
  pub write : Access
  pub behind : List Access
  pub parts : accesses ≡ before ++ write ∷ behind
  pub writes : write.write ≡ true
  pub write_number : write.number ≡ d.write
  pub read : Access
  pub read_there : Has before read
  pub reads : read.write ≡ false
  pub read_number : read.number ≡ d.read
  pub opens : Open tags (steps_of_accesses before) (site_of_access read)
  pub meets : MeetAt tags (site_of_access write) (site_of_access read)

-- what `exposed` and `clobbers` give: these and no others, each once
pub record AreExactly {A : Type 0} (P : A → Type 0) (found : List A) : Type 0 where
  pub only : (a : A) → Has found a → P a
  pub all : (a : A) → P a → Has found a

abbrev pub AreExposed : Tags → List Access → List ℕ → Type 0
AreExposed tags accesses found = AreExactly (IsExposed tags accesses) found

abbrev pub AreClobbers : Tags → List Access → List Dep → Type 0
AreClobbers tags accesses found = AreExactly (Clobbers tags accesses) found

abbrev pub dep_of : Site → Site → Dep
dep_of r w = record { read = r.number; write = w.number }

-- the pairs of a write and the reads among these that it may meet are added
pub record AddsMet (tags : Tags) (reads : List Access) (write : Access) (old new : List Dep) : Type 0 where
  pub only : (d : Dep) → Has new d → Has old d ⊎ ((r : Access) × Has reads r × MeetAt tags (site_of_access write) (site_of_access r) × (d ≡ dep_of (site_of_access r) (site_of_access write)))
  pub kept : (d : Dep) → Has old d → Has new d
  pub all : (r : Access) → Has reads r → MeetAt tags (site_of_access write) (site_of_access r) → Has new (dep_of (site_of_access r) (site_of_access write))
