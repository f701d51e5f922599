-- What the vectors of a sweep say of each read: the marks that they stand for.
use Rattle.std.specs.Prelude.{◌≡◌, true, false, ◌&&◌, not, if◌then◌else◌, List}
use Rattle.im_block.specs.declared.access.Access.{Access}
use Rattle.im_block.specs.declared.access.Tags.{Tags}
use Rattle.im_block.specs.Meaning.{Site}
use Rattle.im_block.specs.Sections.{Has}
use Rattle.im_block.specs.Paths.{MeetAt}
use Rattle.im_block.specs.Tagged.{reach_of}
use Rattle.im_block.specs.Flow.{same_site}
use Rattle.im_dep.specs.Sites.{site_of_access}
use Rattle.im_dep.specs.Spans.{span_of, covers_by, is_covered}
use Rattle.im_cut.specs.declared.marks.Marks.{Marks as Known}
use Rattle.im_cut.specs.Sweep.{Marks}

-- two sites of one place and size
pub record IsAlike (tags : Tags) (a b : Site) : Type 0 where
  pub reach : reach_of tags a ≡ reach_of tags b
  pub size : a.size ≡ b.size

pub record HasAlike (tags : Tags) (reads : List Access) (r : Site) : Type 0 where
  pub access : Access
  pub there : Has reads access
  pub alike : IsAlike tags (site_of_access access) r

pub record Stands (tags : Tags) (known : Known) (m : Marks) : Type 0 where
  pub clean : (r : Site) → m.clean r ≡ (known.reached && not (is_covered known.written.items (span_of tags r)))
  pub some : (a : Access) → Has known.exposed.items a → m.opened (site_of_access a) ≡ true
  pub all : (r : Site) → m.opened r ≡ true → HasAlike tags known.exposed.items r

-- the marks behind a write, and behind a read
abbrev pub writes_at : Tags → Site → Marks → Marks
writes_at tags w m = record { clean = λ r. if covers_by tags w r then false else m.clean r; opened = m.opened }

abbrev pub reads_at : Site → Marks → Marks
reads_at a m = record { clean = m.clean; opened = λ r. if same_site a r && m.clean r then true else m.opened r }

abbrev pub Writes : Tags → Access → Known → Known → Type 0
Writes tags a old new = (m : Marks) → Stands tags old m → Stands tags new (writes_at tags (site_of_access a) m)

abbrev pub Reads : Tags → Access → Known → Known → Type 0
Reads tags a old new = (m : Marks) → Stands tags old m → Stands tags new (reads_at (site_of_access a) m)

abbrev pub touched : Tags → Access → Marks → Marks
touched tags a m = if a.write then writes_at tags (site_of_access a) m else reads_at (site_of_access a) m

abbrev pub Touches : Tags → Access → Known → Known → Type 0
Touches tags a old new = (m : Marks) → Stands tags old m → Stands tags new (touched tags a m)

-- one of these reads, which a write may meet; none of them is one
abbrev pub IsMet : Tags → List Access → (write read : Access) → Type 0
IsMet tags reads write read = Has reads read × MeetAt tags (site_of_access write) (site_of_access read)

abbrev pub NoneIsMet : Tags → List Access → (write : Access) → Type 0
NoneIsMet tags reads write = (read : Access) → Has reads read → MeetAt tags (site_of_access write) (site_of_access read) → ⊥
