-- What a sweep does along the lines of a block.
use Rattle.std.specs.Prelude.{◌≡◌, Bool, true, false, List, [], ◌∷◌, ◌++◌, Option, Some, None}
use Rattle.im_num.specs.Kinds.{kind_size}
use Rattle.im_block.specs.declared.access.Access.{Access}
use Rattle.im_block.specs.declared.access.Tags.{Tags}
use Rattle.im_block.specs.declared.access.Dep.{Dep}
use Rattle.im_block.specs.declared.code.Line.{Line}
use Rattle.im_block.specs.declared.code.Line.TheVariants.{Read, Write, Reload, Spill, Cut}
use Rattle.im_block.specs.Meaning.{Site}
use Rattle.im_block.specs.Sections.{Has}
use Rattle.im_block.specs.Paths.{WriteStep, steps_of, MeetAt}
use Rattle.im_dep.specs.Sites.{site_of_access}
use Rattle.im_dep.specs.Spans.{covers_by}
use Rattle.im_dep.specs.Exposed.{dep_of}
use Rattle.im_cut.specs.declared.marks.Marks.{Marks as Known}
use Rattle.im_cut.specs.Sweep.{Marks, passed, SweepLines}
use Rattle.im_cut.specs.Stands.{Stands}

abbrev pub access_of : Line → Option Access
access_of (Read to place kind access) = Some (record { number = access; write = false; size = kind_size kind; slot = None })
access_of (Write place kind from access) = Some (record { number = access; write = true; size = kind_size kind; slot = None })
access_of (Reload to slot access) = Some (record { number = access; write = false; size = 4; slot = Some slot })
access_of (Spill slot from access) = Some (record { number = access; write = true; size = 4; slot = Some slot })
access_of line = None

abbrev pub is_cut : Line → Bool
is_cut (Cut cause) = true
is_cut line = false

abbrev pub PassesLine : Tags → Line → Known → Known → Type 0
PassesLine tags line old new = (m : Marks) → Stands tags old m → Stands tags new (passed (covers_by tags) line m)

-- a dependence of one of these reads and the write that the line is
pub record IsDep (tags : Tags) (exposed : List Access) (line : Line) (d : Dep) : Type 0 where
  pub write : Site
  pub is : steps_of line ≡ WriteStep write ∷ []
  pub read : Access
  pub there : Has exposed read
  pub meets : MeetAt tags write (site_of_access read)
  pub dep : d ≡ dep_of (site_of_access read) write

-- the same of an access
pub record IsDepOf (tags : Tags) (exposed : List Access) (access : Access) (d : Dep) : Type 0 where
  pub writes : access.write ≡ true
  pub read : Access
  pub there : Has exposed read
  pub meets : MeetAt tags (site_of_access access) (site_of_access read)
  pub dep : d ≡ dep_of (site_of_access read) (site_of_access access)

abbrev pub IsDueFor : Tags → List Access → Access → Option Dep → Type 0
IsDueFor tags exposed access None = access.write ≡ true → (r : Access) → Has exposed r → MeetAt tags (site_of_access access) (site_of_access r) → ⊥
IsDueFor tags exposed access (Some d) = IsDepOf tags exposed access d

-- the dependence for which a cut is due before a line, if there is one
abbrev pub IsDueAt : Tags → List Access → Line → Option Dep → Type 0
IsDueAt tags exposed line None = (w : Site) (r : Access) → steps_of line ≡ WriteStep w ∷ [] → Has exposed r → MeetAt tags w (site_of_access r) → ⊥
IsDueAt tags exposed line (Some d) = IsDep tags exposed line d

pub record LinesSwept (tags : Tags) (m : Marks) (new : Known) (lines cut : List Line) (deps more : List Dep) : Type 0 where
  pub own : List Dep
  pub ends : Marks
  pub swept : SweepLines tags (covers_by tags) m lines cut own ends
  pub stands : Stands tags new ends
  pub added : more ≡ deps ++ own

abbrev pub SweepsLines : Tags → Known → Known → List Line → List Line → List Dep → List Dep → Type 0
SweepsLines tags old new lines cut deps more = (m : Marks) → Stands tags old m → LinesSwept tags m new lines cut deps more

-- one line is swept: this is put of it
pub record SweepsLine (tags : Tags) (old new : Known) (line : Line) (cut longer : List Line) (deps more : List Dep) : Type 0 where
  pub piece : List Line
  pub put : longer ≡ cut ++ piece
  pub sweeps : SweepsLines tags old new (line ∷ []) piece deps more
