-- What a scan over the lines of a block makes of sets and tags.
use Rattle.std.specs.Prelude.{◌≡◌, ℕ, ◌+◌, ◌<◌, ◌≤◌, Bool, false, List, [], ◌∷◌, ◌++◌, Option, Some, None, length, slice_get}
use Rattle.im_block.specs.declared.access.Tag.{Tag}
use Rattle.im_block.specs.declared.access.Tag.TheVariants.{Direct, Through as Among}
use Rattle.im_block.specs.declared.access.Tags.{Tags}
use Rattle.im_block.specs.declared.code.Place.{Place}
use Rattle.im_block.specs.declared.code.Place.TheVariants.{Static, Local, Through}
use Rattle.im_block.specs.declared.code.Line.{Line}
use Rattle.im_block.specs.declared.code.Line.TheVariants.{Put, PutNull, Copy, Convert, Unary, Not, Compute, Compare, Move, Distance, Address, Read, Write, Reload, Spill, Cut, Call, Serve}
use Rattle.im_block.specs.declared.code.Block.{Block}
use Rattle.im_block.specs.declared.unit.Function.{Function}
use Rattle.im_block.specs.declared.unit.Unit.{Unit as Code}
use Rattle.im_block.specs.Tagged.{tag_of}
use Rattle.im_block.specs.Wellformed.{LineWithin, accesses_of_line, accesses_of_lines, accesses_of_functions}
use Rattle.im_block_laws.specs.PointsTo.{Sub}
use Rattle.im_alias.specs.PointsAt.{PointsAt, addressed, loaded, behind, Fit}
use Rattle.im_alias.specs.Least.{IsLeastAt}
use Rattle.im_alias.specs.declared.table.RegisterSets.{RegisterSets}
use Rattle.im_alias.specs.declared.table.Table.{Table}
use Rattle.im_alias.specs.declared.found.Tagged.{Tagged}
use Rattle.im_alias.specs.declared.found.Found.{Found}
use Rattle.im_alias.specs.Ascending.{IsWithin}
use Rattle.im_alias.specs.Sets.{row_sets, width, points, Flowed, StaticsFit}

-- the same objects
pub record Alike (xs ys : List ℕ) : Type 0 where
  pub there : Sub xs ys
  pub back : Sub ys xs

abbrev pub AlikeSets : (ℕ → List ℕ) → (ℕ → List ℕ) → Type 0
AlikeSets a b = (r : ℕ) → Alike (a r) (b r)

-- the register that a line sets, and its set
abbrev pub target_of : Line → Option ℕ
target_of (Put to z) = Some to
target_of (PutNull to) = Some to
target_of (Copy to from) = Some to
target_of (Convert to kind from) = Some to
target_of (Unary to op kind from) = Some to
target_of (Not to from) = Some to
target_of (Compute to op kind left right) = Some to
target_of (Compare to op kind left right) = Some to
target_of (Move to size back pointer by) = Some to
target_of (Distance to size left right) = Some to
target_of (Address to place) = Some to
target_of (Read to place kind access) = Some to
target_of (Write place kind from access) = None
target_of (Reload to slot access) = None
target_of (Spill slot from access) = None
target_of (Cut cause) = None
target_of (Call to callee first count) = Some to
target_of (Serve to service from) = Some to

abbrev pub given_of : PointsAt → (ℕ → List ℕ) → Line → List ℕ
given_of p sets (Copy to from) = sets from
given_of p sets (Move to size back pointer by) = sets pointer
given_of p sets (Address to place) = addressed sets place
given_of p sets (Read to place kind access) = loaded p sets place
given_of p sets (Call to callee first count) = p.result callee
given_of p sets line = []

-- a place is in objects below a bound
abbrev pub IsReached : ℕ → (ℕ → List ℕ) → Place → Type 0
IsReached bound sets (Static object offset) = object < bound
IsReached bound sets (Local object offset) = object < bound
IsReached bound sets (Through pointer offset) = IsWithin bound (sets pointer)

abbrev pub Reaches : ℕ → (ℕ → List ℕ) → Line → Type 0
Reaches bound sets (Read to place kind access) = IsReached bound sets place
Reaches bound sets (Write place kind from access) = IsReached bound sets place
Reaches bound sets (Address to place) = IsReached bound sets place
Reaches bound sets line = Unit {0}

abbrev pub CallsOf : ℕ → Line → Type 0
CallsOf functions (Call to callee first count) = callee < functions
CallsOf functions line = Unit {0}

-- a line with no slot, as block code has before its registers are placed
abbrev pub IsSlotless : Line → Type 0
IsSlotless (Reload to slot access) = ⊥
IsSlotless (Spill slot from access) = ⊥
IsSlotless line = Unit {0}

-- what a line needs of the table and of the sets before it
pub record CanPass (t : Table) (spot : RegisterSets) (line : Line) : Type 0 where
  pub within : LineWithin (length spot.sets.items) line
  pub reaches : Reaches (length t.objects.items) (row_sets spot) line
  pub calls : CallsOf (length t.returned.items) line
  pub slotless : IsSlotless line

-- the sets have become those behind a line
pub record Passes (p : PointsAt) (line : Line) (old new : RegisterSets) : Type 0 where
  pub count : length new.sets.items ≡ length old.sets.items
  pub sets : AlikeSets (row_sets new) (behind p (row_sets old) line)

-- the tag of an access: direct at a constant offset, else just the objects of the register
abbrev pub TagAlike : (ℕ → List ℕ) → Place → Option Tag → Type 0
TagAlike sets place None = ⊥
TagAlike sets (Static object offset) (Some (Direct o d)) = (o ≡ object) × (d ≡ offset)
TagAlike sets (Local object offset) (Some (Direct o d)) = (o ≡ object) × (d ≡ offset)
TagAlike sets (Through pointer offset) (Some (Direct o d)) = ⊥
TagAlike sets (Static object offset) (Some (Among objects)) = ⊥
TagAlike sets (Local object offset) (Some (Among objects)) = ⊥
TagAlike sets (Through pointer offset) (Some (Among objects)) = Alike objects.items (sets pointer)

abbrev pub LineTagAlike : Tags → (ℕ → List ℕ) → Line → Type 0
LineTagAlike tags sets (Read to place kind access) = TagAlike sets place (tag_of tags access)
LineTagAlike tags sets (Write place kind from access) = TagAlike sets place (tag_of tags access)
LineTagAlike tags sets line = Unit {0}

abbrev pub TagsAlike : PointsAt → Tags → (ℕ → List ℕ) → List Line → Type 0
TagsAlike p tags sets [] = Unit {0}
TagsAlike p tags sets (line ∷ rest) = LineTagAlike tags sets line × TagsAlike p tags (behind p sets line) rest

-- tags that have what was found
pub record Agrees (final : Tags) (found : Found) : Type 0 where
  pub of : (k : ℕ) (a : Tagged) → slice_get found.accesses.items k ≡ Some a → slice_get final.of.items a.access ≡ Some a.tag
  pub tags : (k : ℕ) (tag : Tag) → slice_get found.tags.items k ≡ Some tag → slice_get final.tags.items k ≡ Some tag

abbrev pub numbers : List Tagged → List ℕ
numbers [] = []
numbers (a ∷ as_) = a.access ∷ numbers as_

-- a tag of just these objects
abbrev pub IsAmong : List ℕ → Option Tag → Type 0
IsAmong objects None = ⊥
IsAmong objects (Some (Direct o d)) = ⊥
IsAmong objects (Some (Among members)) = members.items ≡ objects

-- the k-th tag is such; the others stand where they stood
pub record FindsTag (k : ℕ) (P : Option Tag → Type 0) (old new : Found) : Type 0 where
  pub is : P (slice_get new.tags.items k)
  pub more : (j : ℕ) (tag : Tag) → slice_get old.tags.items j ≡ Some tag → slice_get new.tags.items j ≡ Some tag
  pub accesses : new.accesses.items ≡ old.accesses.items

-- more was found: the accesses of these numbers
pub record Finds (old new : Found) (accesses : List ℕ) : Type 0 where
  pub numbers : numbers new.accesses.items ≡ numbers old.accesses.items ++ accesses
  pub more : (final : Tags) → Agrees final new → Agrees final old

-- what a call needs of its callee
abbrev pub TakesAll : ℕ → ℕ → Option Function → Type 0
TakesAll width count None = ⊥
TakesAll width count (Some f) = f.first_parameter + count ≤ width

abbrev pub CanTake : List Function → Table → Line → Type 0
CanTake functions t (Call to callee first count) = TakesAll (width (slice_get t.registers.items callee)) count (slice_get functions callee)
CanTake functions t line = Unit {0}

-- a line's access was found, with its tag
pub record FindsAt (sets : ℕ → List ℕ) (line : Line) (old new : Found) : Type 0 where
  pub finds : Finds old new (accesses_of_line line)
  pub tag : (final : Tags) → Agrees final new → LineTagAlike final sets line

-- one block was swept
pub record FlowedBlock (u : Code) (i : ℕ) (block : Block) (old new : Table) (before after : Found) (changed : Bool) : Type 0 where
  pub flowed : Flowed (λ p. Fit p u.functions.items (p.register i) i block.lines.items block.exit) old new changed
  pub finds : Finds before after (accesses_of_lines block.lines.items)
  pub tags : changed ≡ false → (final : Tags) → Agrees final after → TagsAlike (points old) final ((points old).register i) block.lines.items

-- the first blocks of a function were
abbrev pub BlocksFit : ℕ → Code → ℕ → List Block → PointsAt → Type 0
BlocksFit n u i blocks p = (b : ℕ) (block : Block) → b < n → slice_get blocks b ≡ Some block → Fit p u.functions.items (p.register i) i block.lines.items block.exit

abbrev pub BlocksTagged : ℕ → ℕ → List Block → PointsAt → Tags → Type 0
BlocksTagged n i blocks p final = (b : ℕ) (block : Block) → b < n → slice_get blocks b ≡ Some block → TagsAlike p final (p.register i) block.lines.items

pub record FlowedBlocks (n : ℕ) (u : Code) (i : ℕ) (blocks : List Block) (accesses : List ℕ) (old new : Table) (before after : Found) (changed : Bool) : Type 0 where
  pub flowed : Flowed (BlocksFit n u i blocks) old new changed
  pub finds : Finds before after accesses
  pub tags : changed ≡ false → (final : Tags) → Agrees final after → BlocksTagged n i blocks (points old) final

-- the first functions of a unit were
abbrev pub FunctionsFit : ℕ → Code → PointsAt → Type 0
FunctionsFit n u p = (i : ℕ) (f : Function) → i < n → slice_get u.functions.items i ≡ Some f → BlocksFit (length f.blocks.items) u i f.blocks.items p

abbrev pub FunctionsTagged : ℕ → Code → PointsAt → Tags → Type 0
FunctionsTagged n u p final = (i : ℕ) (f : Function) → i < n → slice_get u.functions.items i ≡ Some f → BlocksTagged (length f.blocks.items) i f.blocks.items p final

pub record UnitFits (u : Code) (p : PointsAt) : Type 0 where
  pub statics : StaticsFit (length u.statics.items) u p
  pub functions : FunctionsFit (length u.functions.items) u p

pub record FlowedUnit (u : Code) (old new : Table) (before after : Found) (changed : Bool) : Type 0 where
  pub flowed : Flowed (UnitFits u) old new changed
  pub finds : Finds before after (accesses_of_functions u.functions.items)
  pub tags : changed ≡ false → (final : Tags) → Agrees final after → FunctionsTagged (length u.functions.items) u (points old) final

-- a sweep that changed nothing, and what it found
pub record Settled (u : Code) (t : Table) (found : Found) : Type 0 where
  pub least : IsLeastAt (points t) u
  pub closed : UnitFits u (points t)
  pub numbers : numbers found.accesses.items ≡ accesses_of_functions u.functions.items
  pub tags : (final : Tags) → Agrees final found → FunctionsTagged (length u.functions.items) u (points t) final

-- the first accesses have their tags
abbrev pub IsScattered : ℕ → List Tagged → List ℕ → Type 0
IsScattered n accesses of = (k : ℕ) (a : Tagged) → k < n → slice_get accesses k ≡ Some a → slice_get of a.access ≡ Some a.tag
