-- What linked parts are in memory.
use Rattle.std.specs.Prelude.{◌≡◌, ◌≤◌, ◌<◌, ℕ, ◌+◌, ◌^◌, List, [], length, Some, slice_get, slice_index}
use Rattle.im_num.specs.declared.kind.Kind.{Kind}
use Rattle.im_num.specs.declared.values.Cause.{Cause}
use Rattle.im_num.specs.declared.values.Cause.TheVariants.{Dep}
use Rattle.im_mem.specs.Map.{code_start, statics_start, statics_capacity, stack_capacity}
use Rattle.im_mem.specs.Memory.{Mem, Stands}
use Rattle.im_rv.specs.declared.code.Part.{Part}
use Rattle.im_rv.specs.declared.code.Code.{Code as Linked}
use Rattle.im_rv.specs.Lines.{code_lines}
use Rattle.im_rv.specs.Code.{address}
use Rattle.im_rv_reach.specs.Shown.{shown, left}
use Rattle.im_rv_reach.specs.Routines.{Words}
use Rattle.im_link.specs.Parts.{IsPart, first_of, word_count}
use Rattle.im_link.specs.Code.{IsLinkable, IsLinked as IsLinkedCode}
use Rattle.im_rtlib_laws.specs.Standing.{StandFrom}
use Rattle.im_store.specs.Objects.{Name, Named, Link, Shape}
use Rattle.im_store.specs.Statics.{static_shapes, static_values}
use Rattle.im_select_relation.specs.OperatorTables.{cell_word}
use Rattle.im_block.specs.declared.unit.Function.{Function}
use Rattle.im_block.specs.declared.unit.Unit.{Unit as Code}
use Rattle.im_block.specs.Meaning.{Setting, statics_of}
use Rattle.im_block.specs.Shape.{sum_of, placed_cost}
use Rattle.im_block.specs.Wellformed.{accesses_of_blocks}
use Rattle.im_select.specs.Selects.{causes_of_blocks}
use Rattle.im_frame.specs.declared.layout.Layout.{Layout}
use Rattle.im_alloc_placed.specs.Apart.{AllApart}
use Rattle.im_select_relation.specs.Linking.{Linking, LaidOut, Means, frame_of, limit_of}
use Rattle.im_select_relation.specs.Linked.{IsLinked}
use Rattle.im_select_relation.specs.Symbolic.{Agrees as HasFrame}
use Rattle.im_link_laws.specs.Program.{IsProgram}
use Rattle.im_link_laws.specs.Linking.{ArePlaces, linking_of}

-- the lines of each part stand at its address, where labels have these places
abbrev pub StandLaw : Type 0
StandLaw =
    (image : Mem) (parts : List Part) (code : Linked) (place : ℕ → ℕ) → IsLinkable parts → IsLinkedCode parts code → ArePlaces parts place → Stands image code_start code.words.items →
    (p : ℕ) (part : Part) → IsPart parts p part → StandFrom image place (address (first_of parts p)) (code_lines part.lines.items)

-- the objects of a unit: those of each function in its frame, the statics in memory with their first values
pub record HasObjects (u : Code) (statics : List ℕ) (layouts : List Layout) (p : Linking) (g : Setting) : Type 0 where
  pub frames : (i : ℕ) (f : Function) (l : Layout) → slice_get u.functions.items i ≡ Some f → slice_get layouts i ≡ Some l → HasFrame p f l
  pub sizes : (i : ℕ) (l : Layout) → slice_get layouts i ≡ Some l → frame_of g i ≡ l.frame
  pub first : p.at Link ≡ 0
  pub addresses : (n : ℕ) → n < length statics → p.at (Named n) ≡ slice_index statics n
  pub near : (n : ℕ) → p.at (Named n) + p.size (Named n) < 2 ^ 31
  pub statics_there : LaidOut p (static_shapes (statics_of u)) statics_start (statics_start + statics_capacity)
  pub initial : (a : Name) (sh : Shape) (i : ℕ) (k : Kind) → static_shapes (statics_of u) a ≡ Some sh → sh.cells i ≡ Some k → Means p (static_values (statics_of u) a i) (cell_word p.image k (p.at a + i))

-- memory before the first line
pub record IsLoaded (image : Mem) (g : Setting) (code : Linked) : Type 0 where
  pub code_there : Stands image code_start code.words.items
  pub stack : g.stack ≤ stack_capacity
  pub words : Words (limit_of g) g.capacity image
  pub silent : shown image ≡ []
  pub input : left image ≡ g.input

abbrev pub LinkedLaw : Type 0
LinkedLaw =
    (u : Code) (statics : List ℕ) (layouts : List Layout) (parts : List Part) → IsProgram u statics layouts parts → (code : Linked) (place : ℕ → ℕ) (image : Mem) (g : Setting) (at size : Name → ℕ) →
    IsLinkable parts → IsLinkedCode parts code → ArePlaces parts place → IsLoaded image g code → HasObjects u statics layouts (linking_of u.functions.items place code image at size) g →
    IsLinked (linking_of u.functions.items place code image at size) u g

-- a number in a list
abbrev pub Within : List ℕ → ℕ → Type 0
Within xs n = (k : ℕ) × (slice_get xs k ≡ Some n)

-- the accesses that a dependence names are those of lines of its function
abbrev pub NamesOwn : List Cause → List ℕ → Type 0
NamesOwn causes accesses = (k read write : ℕ) → slice_get causes k ≡ Some (Dep read write) → Within accesses read × Within accesses write

pub record NamesAccesses (u : Code) : Type 0 where
  pub each : (i : ℕ) (f : Function) → slice_get u.functions.items i ≡ Some f → NamesOwn (causes_of_blocks f.blocks.items) (accesses_of_blocks f.blocks.items)

-- so linking may be asked for its parts
abbrev pub LinkableLaw : Type 0
LinkableLaw = (u : Code) (statics : List ℕ) (layouts : List Layout) (parts : List Part) → IsProgram u statics layouts parts → NamesAccesses u → IsLinkable parts

-- the words of a program are paid for: 300 for the runtime, and what its functions cost
abbrev pub WordsLaw : Type 0
WordsLaw = (u : Code) (statics : List ℕ) (layouts : List Layout) (parts : List Part) → IsProgram u statics layouts parts → AllApart u → word_count parts ≤ 300 + sum_of placed_cost u.functions.items
