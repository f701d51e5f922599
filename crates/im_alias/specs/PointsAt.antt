-- Points-to by definition: within a block each line that sets a register gives it a set of its own; from block to block, and at
-- entries, there is one set for a register. So a register number that is used again carries nothing of what it had.
use Rattle.std.specs.Prelude.{◌≡◌, ℕ, ◌+◌, ◌<◌, ◌==◌, if◌then◌else◌, List, [], ◌∷◌, ◌++◌, Option, Some, None, length, slice_get}
use Rattle.im_block.specs.declared.access.Tags.{Tags}
use Rattle.im_block.specs.declared.code.Place.{Place}
use Rattle.im_block.specs.declared.code.Place.TheVariants.{Static, Local, Through}
use Rattle.im_block.specs.declared.code.Line.{Line}
use Rattle.im_block.specs.declared.code.Line.TheVariants.{Put, PutNull, Copy, Convert, Unary, Not, Compute, Compare, Move, Distance, Address, Read, Write, Reload, Spill, Cut, Call, Serve}
use Rattle.im_block.specs.declared.code.Exit.{Exit}
use Rattle.im_block.specs.declared.code.Exit.TheVariants.{Jump, Turn, Branch, Return}
use Rattle.im_block.specs.declared.code.Block.{Block}
use Rattle.im_block.specs.declared.unit.Static.{Static as StaticOf}
use Rattle.im_block.specs.declared.unit.Function.{Function}
use Rattle.im_block.specs.declared.unit.Unit.{Unit as Code}
use Rattle.im_block.specs.Tagged.{tag_of, IsSound}
use Rattle.im_block_laws.specs.PointsTo.{Points, Sub, PlaceHas, TagFits, ConstantsIn, IsClosed}

-- what registers of a function may have at the start of its blocks, what objects may have, what functions may return
pub record PointsAt : Type 0 where
  pub register : (function r : ℕ) → List ℕ
  pub object : (n : ℕ) → List ℕ
  pub result : (function : ℕ) → List ℕ

-- the sets at one spot
abbrev pub sets_at : PointsAt → (ℕ → List ℕ) → Points
sets_at p sets = record { register = λ i r. sets r; object = p.object }

abbrev pub with_set : (ℕ → List ℕ) → ℕ → List ℕ → ℕ → List ℕ
with_set sets to set r = if r == to then set else sets r

abbrev pub union : (ℕ → List ℕ) → List ℕ → List ℕ
union sets [] = []
union sets (n ∷ ns) = sets n ++ union sets ns

-- what an address of a place has, and a value read there
abbrev pub addressed : (ℕ → List ℕ) → Place → List ℕ
addressed sets (Static object offset) = object ∷ []
addressed sets (Local object offset) = object ∷ []
addressed sets (Through pointer offset) = sets pointer

abbrev pub loaded : PointsAt → (ℕ → List ℕ) → Place → List ℕ
loaded p sets (Static object offset) = p.object object
loaded p sets (Local object offset) = p.object object
loaded p sets (Through pointer offset) = union p.object (sets pointer)

-- the sets behind a line
abbrev pub behind : PointsAt → (ℕ → List ℕ) → Line → ℕ → List ℕ
behind p sets (Put to z) = with_set sets to []
behind p sets (PutNull to) = with_set sets to []
behind p sets (Copy to from) = with_set sets to (sets from)
behind p sets (Convert to kind from) = with_set sets to []
behind p sets (Unary to op kind from) = with_set sets to []
behind p sets (Not to from) = with_set sets to []
behind p sets (Compute to op kind left right) = with_set sets to []
behind p sets (Compare to op kind left right) = with_set sets to []
behind p sets (Move to size back pointer by) = with_set sets to (sets pointer)
behind p sets (Distance to size left right) = with_set sets to []
behind p sets (Address to place) = with_set sets to (addressed sets place)
behind p sets (Read to place kind access) = with_set sets to (loaded p sets place)
behind p sets (Write place kind from access) = sets
behind p sets (Reload to slot access) = sets
behind p sets (Spill slot from access) = sets
behind p sets (Cut cause) = sets
behind p sets (Call to callee first count) = with_set sets to (p.result callee)
behind p sets (Serve to service from) = with_set sets to []

abbrev pub CallFits : PointsAt → (ℕ → List ℕ) → ℕ → ℕ → ℕ → Option Function → Type 0
CallFits p sets first count callee None = Unit {0}
CallFits p sets first count callee (Some f) = (k : ℕ) → k < count → Sub (sets (first + k)) (p.register callee (f.first_parameter + k))

-- what a line passes on; block code has no slots
abbrev pub LineFits : PointsAt → List Function → (ℕ → List ℕ) → ℕ → Line → Type 0
LineFits p functions sets i (Write place kind from access) = (n : ℕ) → PlaceHas (sets_at p sets) i place n → Sub (sets from) (p.object n)
LineFits p functions sets i (Reload to slot access) = ⊥
LineFits p functions sets i (Spill slot from access) = ⊥
LineFits p functions sets i (Call to callee first count) = CallFits p sets first count callee (slice_get functions callee)
LineFits p functions sets i line = Unit {0}

-- the tag of an access holds what its place may be
abbrev pub LineHasTag : PointsAt → ℕ → Tags → (ℕ → List ℕ) → ℕ → Line → Type 0
LineHasTag p statics tags sets i (Read to place kind access) = TagFits (sets_at p sets) statics i place (tag_of tags access)
LineHasTag p statics tags sets i (Write place kind from access) = TagFits (sets_at p sets) statics i place (tag_of tags access)
LineHasTag p statics tags sets i line = Unit {0}

abbrev pub ExitFits : PointsAt → (ℕ → List ℕ) → ℕ → Exit → Type 0
ExitFits p sets i (Jump b) = (r : ℕ) → Sub (sets r) (p.register i r)
ExitFits p sets i (Turn b) = (r : ℕ) → Sub (sets r) (p.register i r)
ExitFits p sets i (Branch on x y) = (r : ℕ) → Sub (sets r) (p.register i r)
ExitFits p sets i (Return None) = Unit {0}
ExitFits p sets i (Return (Some r)) = Sub (sets r) (p.result i)

-- along what is left of a block
abbrev pub Fit : PointsAt → List Function → (ℕ → List ℕ) → ℕ → List Line → Exit → Type 0
Fit p functions sets i [] exit = ExitFits p sets i exit
Fit p functions sets i (line ∷ rest) exit = LineFits p functions sets i line × Fit p functions (behind p sets line) i rest exit

abbrev pub HaveTags : PointsAt → ℕ → Tags → (ℕ → List ℕ) → ℕ → List Line → Type 0
HaveTags p statics tags sets i [] = Unit {0}
HaveTags p statics tags sets i (line ∷ rest) = LineHasTag p statics tags sets i line × HaveTags p statics tags (behind p sets line) i rest

pub record IsClosedAt (p : PointsAt) (u : Code) : Type 0 where
  pub lines : (i : ℕ) (f : Function) (b : ℕ) (block : Block) → slice_get u.functions.items i ≡ Some f → slice_get f.blocks.items b ≡ Some block →
      Fit p u.functions.items (p.register i) i block.lines.items block.exit
  pub statics : (n : ℕ) (s : StaticOf) → slice_get u.statics.items n ≡ Some s → ConstantsIn (p.object n) s.values.items

pub record AreTagsAt (p : PointsAt) (u : Code) (tags : Tags) : Type 0 where
  pub lines : (i : ℕ) (f : Function) (b : ℕ) (block : Block) → slice_get u.functions.items i ≡ Some f → slice_get f.blocks.items b ≡ Some block →
      HaveTags p (length u.statics.items) tags (p.register i) i block.lines.items

-- the tags of such an assignment are sound
abbrev pub PointsAtLaw : Type 0
PointsAtLaw = (u : Code) (p : PointsAt) (tags : Tags) → IsClosedAt p u → AreTagsAt p u tags → IsSound u tags

-- each closed assignment by registers is one of these: its sets, and what its functions return
abbrev pub exit_set : Points → ℕ → Exit → List ℕ
exit_set points i (Jump b) = []
exit_set points i (Turn b) = []
exit_set points i (Branch on x y) = []
exit_set points i (Return None) = []
exit_set points i (Return (Some r)) = points.register i r

abbrev pub returned_by : Points → ℕ → List Block → List ℕ
returned_by points i [] = []
returned_by points i (b ∷ blocks) = exit_set points i b.exit ++ returned_by points i blocks

abbrev pub result_of : Points → ℕ → Option Function → List ℕ
result_of points i None = []
result_of points i (Some f) = returned_by points i f.blocks.items

abbrev pub finer : Points → Code → PointsAt
finer points u = record { register = points.register; object = points.object; result = λ i. result_of points i (slice_get u.functions.items i) }

-- so what is least among these is in every closed assignment by registers
abbrev pub FinerLaw : Type 0
FinerLaw = (u : Code) (points : Points) → IsClosed points u → IsClosedAt (finer points u) u
