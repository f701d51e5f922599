-- A bound of the instructions of one function.
use Rattle.std.specs.Prelude.{◌≡◌, ◌≤◌, ℕ, ◌+◌, ◌*◌, List, Option, Some, length, slice_get}
use Rattle.im_rv.specs.Lines.{CodeLine}
use Rattle.im_typed.specs.Program.{Prog, Func}
use Rattle.im_typed.specs.Counts.{func_nodes}
use Rattle.im_block.specs.declared.access.Tags.{Tags}
use Rattle.im_block.specs.declared.unit.Function.{Function}
use Rattle.im_block.specs.declared.unit.Unit.{Unit as Code}
use Rattle.im_alloc_placed.specs.Apart.{AllUncut}
use Rattle.im_lower_relation.specs.Lowered.{AreSized}
use Rattle.im_forward.specs.Registers.{InRegisters}
use Rattle.im_force.specs.Force.{Forces}
use Rattle.im_alloc_relation.specs.Placing.{IsPlaced}
use Rattle.im_recut.specs.Recut.{RecutsTo}
use Rattle.im_select.specs.Given.{Given}
use Rattle.im_select.specs.Selects.{IsSelection}

-- placed code with all its cuts, made of a typed program: lower, promote and forward, force, place, recut by some
-- tags
pub record IsMadeOf (g : Prog) (code : Code) : Type 0 where
  pub lowered : Code
  pub sized : AreSized g lowered
  pub uncut : AllUncut lowered
  pub forwarded : Code
  pub registers : InRegisters lowered forwarded
  pub forced : Code
  pub force : Forces forwarded forced
  pub placed : Code
  pub place : IsPlaced forced placed
  pub tags : Tags
  pub max_gap : Option ℕ
  pub recut : RecutsTo tags max_gap placed code

-- each line is an instruction, of four bytes
abbrev pub bytes_of : List CodeLine → ℕ
bytes_of lines = 4 * length lines

-- the lines that are selected for the k-th function have few bytes by the nodes of the k-th typed function
abbrev pub FunctionBoundLaw : Type 0
FunctionBoundLaw =
    (g : Prog) (code : Code) → IsMadeOf g code →
    (k : ℕ) (f : Func) (c : Function) → slice_get g.funcs k ≡ Some f → slice_get code.functions.items k ≡ Some c →
    (given : Given) (lines : List CodeLine) → given.function ≡ c → IsSelection given k lines →
    bytes_of lines ≤ 256 * (func_nodes f + 1)
