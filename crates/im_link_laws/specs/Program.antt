-- The parts of a program's code, in order: recovery, the checkpoint, the routines, the functions, and the lines that begin.
use Rattle.std.specs.Prelude.{◌≡◌, ◌<◌, ℕ, ◌+◌, List, ◌∷◌, map, length, take, Some, slice_get}
use Rattle.im_rv.specs.declared.code.Part.{Part}
use Rattle.im_rv.specs.Lines.{CodeLine, code_lines, plain_line}
use Rattle.im_link.specs.Parts.{IsPart}
use Rattle.im_ckpt.specs.Recovery.{recovery}
use Rattle.im_ckpt.specs.Checkpoint.{checkpoint_code}
use Rattle.im_rtlib.specs.Routines.{aimed, getchar, putchar, stack, exit}
use Rattle.im_serve.specs.declared.service.Service.{Service}
use Rattle.im_serve.specs.declared.service.Service.TheVariants.{Getchar, Putchar}
use Rattle.im_rv_reach.specs.Instructions.{jumping}
use Rattle.im_block.specs.declared.unit.Function.{Function}
use Rattle.im_block.specs.declared.unit.Unit.{Unit as Code}
use Rattle.im_block.specs.Shape.{sum_of}
use Rattle.im_frame.specs.declared.layout.Layout.{Layout}
use Rattle.im_select.specs.Emitted.{entry_label}
use Rattle.im_select.specs.Given.{Given}
use Rattle.im_select.specs.Selects.{IsSelectable, IsSelection}

-- part p has these lines
pub record HasCode (parts : List Part) (p : ℕ) (code : List CodeLine) : Type 0 where
  pub part : Part
  pub is_part : IsPart parts p part
  pub lines : code_lines part.lines.items ≡ code

-- the number of the part that the routine of a service is
abbrev pub routine_part : Service → ℕ
routine_part Getchar = 2
routine_part Putchar = 3

-- the number of the part that a function is
abbrev pub part_of : ℕ → ℕ
part_of i = 5 + i

-- the labels of blocks come behind those of functions
abbrev pub first_label : List Function → ℕ → ℕ
first_label functions i = entry_label (length functions) + sum_of (λ (f : Function). length f.blocks.items) (take i functions)

abbrev pub given_at : List Function → List ℕ → ℕ → Function → Layout → Given
given_at functions statics i f layout =
    record { statics = statics; functions = length functions; function = f; layout = layout; first_block = first_label functions i }

-- the call of main, and behind it the lines that end a run
abbrev pub start_code : ℕ → List CodeLine
start_code main = aimed (entry_label main) (jumping 1 0) ∷ exit

-- function i is selected, with its frame
pub record IsFunctionPart (functions : List Function) (statics : List ℕ) (layouts : List Layout) (parts : List Part) (i : ℕ) (f : Function) : Type 0 where
  pub layout : Layout
  pub is_layout : slice_get layouts i ≡ Some layout
  pub code : List CodeLine
  pub selectable : IsSelectable (given_at functions statics i f layout) i
  pub selection : IsSelection (given_at functions statics i f layout) i code
  pub there : HasCode parts (part_of i) code

pub record IsProgram (u : Code) (statics : List ℕ) (layouts : List Layout) (parts : List Part) : Type 0 where
  pub count : length parts ≡ 6 + length u.functions.items
  pub recovers : HasCode parts 0 (map plain_line recovery)
  pub saves : HasCode parts 1 checkpoint_code
  pub gets : HasCode parts 2 getchar
  pub puts : HasCode parts 3 putchar
  pub stops : HasCode parts 4 stack
  pub functions : (i : ℕ) (f : Function) → slice_get u.functions.items i ≡ Some f → IsFunctionPart u.functions.items statics layouts parts i f
  pub begins : HasCode parts (part_of (length u.functions.items)) (start_code u.main)
  pub main : u.main < length u.functions.items
