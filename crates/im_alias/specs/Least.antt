-- The least closed points-to assignment: what each closed one has. And the tags that `alias` gives.
use Rattle.std.specs.Prelude.{◌≡◌, Bool, ℕ, ◌+◌, ◌<◌, List, [], ◌∷◌, Option, Some, None, slice_get}
use Rattle.im_num.specs.declared.kind.Kind.{Kind}
use Rattle.im_block.specs.declared.access.Tag.{Tag}
use Rattle.im_block.specs.declared.access.Tag.TheVariants.{Direct, Through as Among}
use Rattle.im_block.specs.declared.access.Tags.{Tags}
use Rattle.im_block.specs.declared.code.Place.{Place}
use Rattle.im_block.specs.declared.code.Place.TheVariants.{Static, Local, Through}
use Rattle.im_block.specs.declared.code.Line.{Line}
use Rattle.im_block.specs.declared.code.Line.TheVariants.{Copy, Move, Address, Read, Write, Call}
use Rattle.im_block.specs.declared.code.Exit.TheVariants.{Return}
use Rattle.im_block.specs.declared.code.Block.{Block}
use Rattle.im_block.specs.declared.unit.Constant.TheVariants.{Inside}
use Rattle.im_block.specs.declared.unit.Static.{Static as StaticOf}
use Rattle.im_block.specs.declared.unit.Function.{Function}
use Rattle.im_block.specs.declared.unit.Unit.{Unit as Code}
use Rattle.im_block.specs.Sections.{Has}
use Rattle.im_block.specs.Tagged.{tag_of}
use Rattle.im_block_laws.specs.PointsTo.{Points, Sub, IsClosed}
use Rattle.im_alias.specs.PointsAt.{PointsAt, behind, IsClosedAt}

-- whose set: a register's of a function, or an object's
pub data Node : Type 0 where
  OfRegister : (function r : ℕ) → Node
  OfObject : (n : ℕ) → Node

abbrev pub set_of : Points → Node → List ℕ
set_of points (OfRegister i r) = points.register i r
set_of points (OfObject n) = points.object n

-- a line of a function of the unit; its block's exit; a static's first value
pub record IsLineOf (u : Code) (i : ℕ) (line : Line) : Type 0 where
  pub function : Function
  pub b : ℕ
  pub block : Block
  pub function_there : slice_get u.functions.items i ≡ Some function
  pub block_there : slice_get function.blocks.items b ≡ Some block
  pub there : Has block.lines.items line

pub record Returns (u : Code) (i r : ℕ) : Type 0 where
  pub function : Function
  pub block : Block
  pub function_there : slice_get u.functions.items i ≡ Some function
  pub block_there : Has function.blocks.items block
  pub exit : block.exit ≡ Return (Some r)

-- an object that a node has by the rules, and so in every closed assignment: each step of the worklist adds such a fact
pub data Derived (u : Code) : Node → ℕ → Type 0 where
  First : (n object offset : ℕ) (s : StaticOf) → slice_get u.statics.items n ≡ Some s → Has s.values.items (Inside object offset) → Derived u (OfObject n) object
  OfStatic : (i to object offset : ℕ) → IsLineOf u i (Address to (Static object offset)) → Derived u (OfRegister i to) object
  OfLocal : (i to object offset : ℕ) → IsLineOf u i (Address to (Local object offset)) → Derived u (OfRegister i to) object
  Behind : (i to pointer offset n : ℕ) → IsLineOf u i (Address to (Through pointer offset)) → Derived u (OfRegister i pointer) n → Derived u (OfRegister i to) n
  Copied : (i to from n : ℕ) → IsLineOf u i (Copy to from) → Derived u (OfRegister i from) n → Derived u (OfRegister i to) n
  Moved : (i to size : ℕ) (back : Bool) (pointer by n : ℕ) → IsLineOf u i (Move to size back pointer by) → Derived u (OfRegister i pointer) n → Derived u (OfRegister i to) n
  LoadedStatic : (i to object offset : ℕ) (kind : Kind) (access n : ℕ) → IsLineOf u i (Read to (Static object offset) kind access) → Derived u (OfObject object) n → Derived u (OfRegister i to) n
  LoadedLocal : (i to object offset : ℕ) (kind : Kind) (access n : ℕ) → IsLineOf u i (Read to (Local object offset) kind access) → Derived u (OfObject object) n → Derived u (OfRegister i to) n
  LoadedBehind : (i to pointer offset : ℕ) (kind : Kind) (access o n : ℕ) → IsLineOf u i (Read to (Through pointer offset) kind access) → Derived u (OfRegister i pointer) o → Derived u (OfObject o) n → Derived u (OfRegister i to) n
  StoredStatic : (i object offset : ℕ) (kind : Kind) (from access n : ℕ) → IsLineOf u i (Write (Static object offset) kind from access) → Derived u (OfRegister i from) n → Derived u (OfObject object) n
  StoredLocal : (i object offset : ℕ) (kind : Kind) (from access n : ℕ) → IsLineOf u i (Write (Local object offset) kind from access) → Derived u (OfRegister i from) n → Derived u (OfObject object) n
  StoredBehind : (i pointer offset : ℕ) (kind : Kind) (from access o n : ℕ) → IsLineOf u i (Write (Through pointer offset) kind from access) → Derived u (OfRegister i pointer) o → Derived u (OfRegister i from) n → Derived u (OfObject o) n
  Passed : (i to callee first count k n : ℕ) (f : Function) → IsLineOf u i (Call to callee first count) → slice_get u.functions.items callee ≡ Some f → k < count → Derived u (OfRegister i (first + k)) n → Derived u (OfRegister callee (f.first_parameter + k)) n
  Given : (i to callee first count r n : ℕ) → IsLineOf u i (Call to callee first count) → Returns u callee r → Derived u (OfRegister callee r) n → Derived u (OfRegister i to) n

-- the k-th function's access at a place: direct at a constant offset of a named object; through a register only objects that
-- every closed assignment gives it
abbrev pub TagIsLeast : Code → ℕ → Place → Option Tag → Type 0
TagIsLeast u i place None = ⊥
TagIsLeast u i (Static object offset) (Some (Direct o d)) = (o ≡ object) × (d ≡ offset)
TagIsLeast u i (Local object offset) (Some (Direct o d)) = (o ≡ object) × (d ≡ offset)
TagIsLeast u i (Through pointer offset) (Some (Direct o d)) = ⊥
TagIsLeast u i (Static object offset) (Some (Among objects)) = ⊥
TagIsLeast u i (Local object offset) (Some (Among objects)) = ⊥
TagIsLeast u i (Through pointer offset) (Some (Among objects)) = (points : Points) → IsClosed points u → (n : ℕ) → Has objects.items n → Has (points.register i pointer) n

abbrev pub LineIsLeast : Code → Tags → ℕ → Line → Type 0
LineIsLeast u tags i (Read to place kind access) = TagIsLeast u i place (tag_of tags access)
LineIsLeast u tags i (Write place kind from access) = TagIsLeast u i place (tag_of tags access)
LineIsLeast u tags i line = Unit {0}

-- beside `IsSound`: what `alias` promises of its tags
pub record AreLeastTags (u : Code) (tags : Tags) : Type 0 where
  pub lines : (i : ℕ) (line : Line) → IsLineOf u i line → LineIsLeast u tags i line

-- an assignment by definitions that is below each closed one: a worklist keeps just this
pub record Below (p q : PointsAt) : Type 0 where
  pub register : (i r : ℕ) → Sub (p.register i r) (q.register i r)
  pub object : (n : ℕ) → Sub (p.object n) (q.object n)
  pub result : (i : ℕ) → Sub (p.result i) (q.result i)

abbrev pub IsLeastAt : PointsAt → Code → Type 0
IsLeastAt p u = (q : PointsAt) → IsClosedAt q u → Below p q

-- tags that name no more than the sets at their spot
abbrev pub TagWithin : (ℕ → List ℕ) → Place → Option Tag → Type 0
TagWithin sets place None = ⊥
TagWithin sets (Static object offset) (Some (Direct o d)) = (o ≡ object) × (d ≡ offset)
TagWithin sets (Local object offset) (Some (Direct o d)) = (o ≡ object) × (d ≡ offset)
TagWithin sets (Through pointer offset) (Some (Direct o d)) = ⊥
TagWithin sets (Static object offset) (Some (Among objects)) = ⊥
TagWithin sets (Local object offset) (Some (Among objects)) = ⊥
TagWithin sets (Through pointer offset) (Some (Among objects)) = Sub objects.items (sets pointer)

abbrev pub LineTagWithin : Tags → (ℕ → List ℕ) → Line → Type 0
LineTagWithin tags sets (Read to place kind access) = TagWithin sets place (tag_of tags access)
LineTagWithin tags sets (Write place kind from access) = TagWithin sets place (tag_of tags access)
LineTagWithin tags sets line = Unit {0}

abbrev pub TagsWithin : PointsAt → Tags → (ℕ → List ℕ) → List Line → Type 0
TagsWithin p tags sets [] = Unit {0}
TagsWithin p tags sets (line ∷ rest) = LineTagWithin tags sets line × TagsWithin p tags (behind p sets line) rest

pub record AreTagsWithin (p : PointsAt) (u : Code) (tags : Tags) : Type 0 where
  pub lines : (i : ℕ) (f : Function) (b : ℕ) (block : Block) → slice_get u.functions.items i ≡ Some f → slice_get f.blocks.items b ≡ Some block →
      TagsWithin p tags (p.register i) block.lines.items

-- then a through tag names only objects that every closed assignment by registers gives the register of its address
abbrev pub LeastTagsLaw : Type 0
LeastTagsLaw = (u : Code) (p : PointsAt) (tags : Tags) → IsLeastAt p u → AreTagsWithin p u tags → AreLeastTags u tags
