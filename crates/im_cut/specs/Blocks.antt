-- The sweep over the blocks of a function, from the last to the first, with the marks that wait at the starts of the blocks.
use Rattle.std.specs.Prelude.{◌≡◌, ◌⊎◌, ℕ, suc, not, ◌<◌, ◌≤◌, ◌==◌, ◌&&◌, ◌||◌, Bool, false, List, [], ◌∷◌, ◌++◌, Option, Some, None, slice_get}
use Rattle.im_block.specs.declared.access.Access.{Access}
use Rattle.im_block.specs.declared.access.Tags.{Tags}
use Rattle.im_block.specs.declared.access.Dep.{Dep}
use Rattle.im_block.specs.declared.code.Exit.{Exit}
use Rattle.im_block.specs.declared.code.Exit.TheVariants.{Jump, Turn, Branch, Return}
use Rattle.im_block.specs.declared.code.Block.{Block}
use Rattle.im_block.specs.Forced.{CutAtTurn}
use Rattle.im_block.specs.Sections.{Has}
use Rattle.im_dep.specs.declared.spans.Span.{Span}
use Rattle.im_dep.specs.Sites.{site_of_access}
use Rattle.im_dep.specs.Spans.{covers_by, is_covered, holds_span}
use Rattle.im_cut.specs.declared.marks.Marks.{Marks as Known}
use Rattle.im_cut.specs.Sweep.{Marks, SweepLines}
use Rattle.im_cut.specs.Stands.{HasAlike, Stands}

-- no loop edge but behind a cut
abbrev pub AreCutAtTurns : List Block → Type 0
AreCutAtTurns blocks = (b : ℕ) (block : Block) → slice_get blocks b ≡ Some block → CutAtTurn block.exit block.lines.items

-- marks from two places, and marks from a place that leads here or doesn't
abbrev pub joined : Marks → Marks → Marks
joined m n = record { clean = λ r. m.clean r || n.clean r; opened = λ r. m.opened r || n.opened r }

abbrev pub only_if : Bool → Marks → Marks
only_if leads m = record { clean = λ r. leads && m.clean r; opened = λ r. leads && m.opened r }

-- where a section begins: at the entry, and behind a loop edge
abbrev pub turns_to : Exit → ℕ → Bool
turns_to (Jump c) b = false
turns_to (Turn c) b = c == b
turns_to (Branch on x y) b = false
turns_to (Return from) b = false

abbrev pub is_turned : List Block → ℕ → Bool
is_turned [] b = false
is_turned (x ∷ xs) b = turns_to x.exit b || is_turned xs b

abbrev pub begins : ℕ → List Block → ℕ → Bool
begins entry blocks b = (entry == b) || is_turned blocks b

abbrev pub start_marks : ℕ → List Block → ℕ → Marks
start_marks entry blocks b = record { clean = λ r. begins entry blocks b; opened = λ r. false }

-- edges but loop edges
abbrev pub leads_to : Exit → ℕ → Bool
leads_to (Jump c) b = c == b
leads_to (Turn c) b = false
leads_to (Branch on x y) b = (x == b) || (y == b)
leads_to (Return from) b = false

-- a block's end hands its marks on to where it leads
abbrev pub handed : Exit → Marks → (ℕ → Marks) → ℕ → Marks
handed exit ends pending b = joined (pending b) (only_if (leads_to exit b) ends)

-- the blocks from number b on are swept; pending: the marks at the starts of blocks, as far as they are known by then
pub data SweepDown (tags : Tags) (entry : ℕ) (all : List Block) : ℕ → List Block → List Block → List Dep → (ℕ → Marks) → Type 0 where
  Last : (b : ℕ) → SweepDown tags entry all b [] [] [] (start_marks entry all)
  Down : (b : ℕ) (x y : Block) (xs ys : List Block) (later own : List Dep) (pending : ℕ → Marks) (ends : Marks) → SweepDown tags entry all (suc b) xs ys later pending →
      SweepLines tags (covers_by tags) (pending b) x.lines.items y.lines.items own ends → y.exit ≡ x.exit →
      SweepDown tags entry all b (x ∷ xs) (y ∷ ys) (later ++ own) (handed y.exit ends pending)

-- the marks of the blocks below number b stand in a table
abbrev pub StandBelow : Tags → ℕ → List Known → (ℕ → Marks) → Type 0
StandBelow tags b table pending = (c : ℕ) (known : Known) → c < b → slice_get table c ≡ Some known → Stands tags known (pending c)

-- no path comes to any of these
abbrev pub AreBlank : List Known → Type 0
AreBlank table = (c : ℕ) (known : Known) → slice_get table c ≡ Some known → (known.reached ≡ false) × (known.written.items ≡ []) × (known.exposed.items ≡ [])

-- what is in the table where nothing is swept yet
pub record IsStart (entry : ℕ) (blocks : List Block) (c : ℕ) (known : Known) : Type 0 where
  pub reached : known.reached ≡ begins entry blocks c
  pub written : known.written.items ≡ []
  pub exposed : known.exposed.items ≡ []

abbrev pub AreStarts : ℕ → List Block → List Known → Type 0
AreStarts entry blocks table = (c : ℕ) (known : Known) → slice_get table c ≡ Some known → IsStart entry blocks c known

-- marks are joined with others
abbrev pub Joins : Tags → Known → Known → Known → Type 0
Joins tags old from new = (m n : Marks) → Stands tags old m → Stands tags from n → Stands tags new (joined m n)

-- they are joined at one place of a table, if it is there
abbrev pub JoinsAt : Tags → ℕ → List Known → Known → List Known → Type 0
JoinsAt tags to old from new = (c : ℕ) (k : Known) → slice_get new c ≡ Some k → (o : Known) × (slice_get old c ≡ Some o) × ((c ≡ to) × Joins tags o from k ⊎ ((c ≡ to → ⊥) × (o ≡ k)))

abbrev pub HandsOn : Tags → Exit → Known → List Known → List Known → Type 0
HandsOn tags exit from old new = (c : ℕ) (k : Known) → slice_get new c ≡ Some k → (o : Known) × (slice_get old c ≡ Some o) × ((m n : Marks) → Stands tags o m → Stands tags from n → Stands tags k (joined m (only_if (leads_to exit c) n)))

-- the bytes of a span are in order
abbrev pub IsRange : Option Span → Type 0
IsRange None = Unit {0}
IsRange (Some s) = s.from ≤ s.to

-- what both hold
abbrev pub AreCommon : List Span → List Span → List Span → Type 0
AreCommon ours theirs common = (p : Option Span) → IsRange p → is_covered common p ≡ (is_covered ours p && is_covered theirs p)

-- what two spans share
abbrev pub SharesWith : Span → Span → Option Span → Type 0
SharesWith a b both = (p : Option Span) → IsRange p → holds_span both p ≡ (holds_span (Some a) p && holds_span (Some b) p)

-- what the spans share with one is added
abbrev pub AddsShared : List Span → Span → List Span → List Span → Type 0
AddsShared ours span old new = (p : Option Span) → IsRange p → is_covered new p ≡ (is_covered old p || (is_covered ours p && holds_span (Some span) p))

-- reads are added, but for those that are alike to one that is there
pub record AddsExposed (tags : Tags) (from old new : List Access) : Type 0 where
  pub only : (a : Access) → Has new a → Has old a ⊎ Has from a
  pub kept : (a : Access) → Has old a → Has new a
  pub all : (a : Access) → Has from a → HasAlike tags new (site_of_access a)

-- a section begins where this says so; nothing else changes
pub record BegunIf (test : Bool) (old new : Known) : Type 0 where
  pub reached : new.reached ≡ (old.reached || test)
  pub written : new.written ≡ old.written
  pub exposed : new.exposed ≡ old.exposed

abbrev pub BeginsWhere : (ℕ → Bool) → List Known → List Known → Type 0
BeginsWhere test old new = (c : ℕ) (k : Known) → slice_get new c ≡ Some k → (o : Known) × (slice_get old c ≡ Some o) × BegunIf (test c) o k

-- a block's lines are swept, and its marks are handed on
pub record BlockSwept (tags : Tags) (number : ℕ) (pending : ℕ → Marks) (old new : Block) (table : List Known) (deps more : List Dep) : Type 0 where
  pub own : List Dep
  pub ends : Marks
  pub swept : SweepLines tags (covers_by tags) (pending number) old.lines.items new.lines.items own ends
  pub exit : new.exit ≡ old.exit
  pub added : more ≡ deps ++ own
  pub stands : StandBelow tags number table (handed new.exit ends pending)

abbrev pub SweepsBlock : Tags → ℕ → Block → Block → List Known → List Known → List Dep → List Dep → Type 0
SweepsBlock tags number old new table later deps more = (pending : ℕ → Marks) → StandBelow tags (suc number) table pending → BlockSwept tags number pending old new later deps more

-- what is written on the paths to one of two places
pub record JoinsWritten (old from new : Known) : Type 0 where
  pub clean : (p : Option Span) → IsRange p → (new.reached && not (is_covered new.written.items p)) ≡ ((old.reached && not (is_covered old.written.items p)) || (from.reached && not (is_covered from.written.items p)))
  pub exposed : new.exposed.items ≡ old.exposed.items
