-- The code of a function while it is made, from its end to its start. Private contracts alone speak of this.
use Rattle.std.specs.Prelude.{ℕ, ◌+◌, max, List, [], ◌∷◌, ◌++◌, length, Some, None, slice_set}
use Rattle.im_num.specs.declared.kind.Kind.{Kind}
use Rattle.im_block.specs.declared.code.Place.{Place}
use Rattle.im_block.specs.declared.code.Place.TheVariants.{Static, Local, Through}
use Rattle.im_block.specs.declared.code.Line.{Line}
use Rattle.im_block.specs.declared.code.Line.TheVariants.{Put, PutNull, Copy, Convert, Unary, Not, Compute, Compare, Move, Distance, Address, Read, Write, Reload, Spill, Cut, Call, Serve}
use Rattle.im_block.specs.declared.code.Exit.{Exit}
use Rattle.im_block.specs.declared.code.Exit.TheVariants.{Jump, Turn, Branch, Return}
use Rattle.im_block.specs.declared.code.Block.{Block}
use Rattle.im_lower_relation.specs.Codes.{Point, before, ends}

-- the blocks so far, in the order of their numbers, and the open one; the number of the next access, and how many
-- registers are used
pub record Made : Type 0 where
  pub blocks : List Point
  pub point : Point
  pub accesses : ℕ
  pub registers : ℕ

abbrev pub point_of : Block → Point
point_of b = record { rest = b.lines.items; exit = b.exit }

-- the first register above those of a place, a line, an exit

abbrev pub above_place : Place → ℕ
above_place (Static object offset) = 0
above_place (Local object offset) = 0
above_place (Through pointer offset) = pointer + 1

abbrev pub above_line : Line → ℕ
above_line (Put to number) = to + 1
above_line (PutNull to) = to + 1
above_line (Copy to from) = max (to + 1) (from + 1)
above_line (Convert to kind from) = max (to + 1) (from + 1)
above_line (Unary to op kind from) = max (to + 1) (from + 1)
above_line (Not to from) = max (to + 1) (from + 1)
above_line (Compute to op kind left right) = max (to + 1) (max (left + 1) (right + 1))
above_line (Compare to op kind left right) = max (to + 1) (max (left + 1) (right + 1))
above_line (Move to size back pointer by) = max (to + 1) (max (pointer + 1) (by + 1))
above_line (Distance to size left right) = max (to + 1) (max (left + 1) (right + 1))
above_line (Address to place) = max (to + 1) (above_place place)
above_line (Read to place kind access) = max (to + 1) (above_place place)
above_line (Write place kind from access) = max (from + 1) (above_place place)
above_line (Reload to slot access) = to + 1
above_line (Spill slot from access) = from + 1
above_line (Cut cause) = 0
above_line (Call to function first count) = max (to + 1) (first + count)
above_line (Serve to service None) = to + 1
above_line (Serve to service (Some from)) = max (to + 1) (from + 1)

abbrev pub above_exit : Exit → ℕ
above_exit (Jump b) = 0
above_exit (Turn b) = 0
above_exit (Branch on holds fails) = on + 1
above_exit (Return None) = 0
above_exit (Return (Some register)) = register + 1

-- a line before the open block
unfoldable pub put : Line → Made → Made
put line m = record m { point = before line m.point; registers = max m.registers (above_line line) }

unfoldable pub put_read : ℕ → Place → Kind → Made → Made
put_read to place kind m = put (Read to place kind m.accesses) (record m { accesses = m.accesses + 1 })

unfoldable pub put_write : Place → Kind → ℕ → Made → Made
put_write place kind from m = put (Write place kind from m.accesses) (record m { accesses = m.accesses + 1 })

-- the open block becomes one of the function's; open is then a jump to it
unfoldable pub close : Made → Made
close m = record m { blocks = m.blocks ++ m.point ∷ []; point = ends (Jump (length m.blocks)) }

-- another block is open, without lines
unfoldable pub start : Exit → Made → Made
start exit m = record m { point = ends exit; registers = max m.registers (above_exit exit) }

-- a block is the loop edge to the loop's body
unfoldable pub turn : ℕ → ℕ → Made → Made
turn block body m = record m { blocks = slice_set m.blocks block (ends (Turn body)) }
