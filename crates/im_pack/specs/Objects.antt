-- For private contracts: how cells become runs, and statics objects.
use Rattle.std.specs.Prelude.{◌≡◌, ℕ, ◌+◌, Bool, if◌then◌else◌, List, [], ◌∷◌, Some, slice_get}
use Rattle.im_image.specs.declared.object.CellRun.{CellRun}
use Rattle.im_image.specs.Contents.{ObjectValue, continues}
use Rattle.im_ctype.specs.declared.cell.Cell.{Cell}
use Rattle.im_block.specs.declared.unit.Static.{Static as StaticOf}
use Rattle.im_block.specs.Meaning.{static_of}
use Rattle.im_pack.specs.Packed.{IsNamable}

abbrev pub one_cell : Cell → CellRun
one_cell c = record { offset = c.offset; kind = c.kind; count = 1 }

-- a cell goes on where a run ends, in its kind
abbrev pub goes_on : CellRun → Cell → Bool
goes_on run c = continues (Some run) (one_cell c)

abbrev pub longer : CellRun → CellRun
longer run = record run { count = run.count + 1 }

-- the last run with a cell more, or that cell as one more run
abbrev pub added : List CellRun → Cell → List CellRun
added [] c = one_cell c ∷ []
added (run ∷ []) c = if goes_on run c then longer run ∷ [] else run ∷ one_cell c ∷ []
added (run ∷ next ∷ runs) c = run ∷ added (next ∷ runs) c

-- the cells as runs, behind those that are there
abbrev pub runs_with : List CellRun → List Cell → List CellRun
runs_with runs [] = runs
runs_with runs (c ∷ cs) = runs_with (added runs c) cs

abbrev pub runs_of : List Cell → List CellRun
runs_of cells = runs_with [] cells

abbrev pub object_of : ℕ → StaticOf → ObjectValue
object_of at s = record { at = at; size = s.object.size; name = s.name.items; runs = runs_of s.object.cells.items }

-- the objects of statics at these addresses
abbrev pub objects_at : List StaticOf → List ℕ → List ObjectValue
objects_at [] addresses = []
objects_at (s ∷ statics) [] = []
objects_at (s ∷ statics) (a ∷ addresses) = object_of a s ∷ objects_at statics addresses

pub record AreNamed (statics : List StaticOf) : Type 0 where
  pub each : (n : ℕ) (s : StaticOf) → slice_get statics n ≡ Some s → IsNamable (static_of s)
