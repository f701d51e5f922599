-- Which cells a plan has.
use Rattle.std.specs.Prelude.{ℕ, ◌==◌, Option, Some, if◌then◌else◌}
use Rattle.im_num.specs.declared.kind.Kind.{Kind}
use Rattle.im_ctype.specs.declared.cell.Cell.{Cell}

-- the kind at an offset, where one cell more stands before those that have this one there
abbrev pub kind_from : Cell → Option Kind → ℕ → Option Kind
kind_from cell other i = if cell.offset == i then Some cell.kind else other
