-- What is asked of a unit whose parts are assembled, and what the linker has then; and, for private contracts, how parts grow.
use Rattle.std.specs.Prelude.{◌≡◌, ◌<◌, ℕ, ◌+◌, ◌^◌, List, [], ◌∷◌, ◌++◌, map, take, length, Some, slice_get, slice_index, string_bytes}
use Rattle.im_mem.specs.Map.{statics_start, statics_capacity}
use Rattle.im_rv.specs.declared.code.Part.{Part}
use Rattle.im_rv.specs.Lines.{CodeLine, code_lines, plain_line}
use Rattle.im_ckpt.specs.Recovery.{recovery}
use Rattle.im_ckpt.specs.Checkpoint.{checkpoint_code}
use Rattle.im_rtlib.specs.Routines.{getchar, putchar, stack}
use Rattle.im_link.specs.declared.linker.Linker.{Linker}
use Rattle.im_link.specs.Linking.{Holds}
use Rattle.im_block.specs.declared.unit.Function.{Function}
use Rattle.im_block.specs.declared.unit.Unit.{Unit as Code}
use Rattle.im_block.specs.Wellformed.{IsWellFormed}
use Rattle.im_frame.specs.declared.layout.Layout.{Layout}
use Rattle.im_frame.specs.Layout.{IsLayout}
use Rattle.im_alloc_placed.specs.Placed.{IsPlacedCode}
use Rattle.im_select.specs.Given.{Given}
use Rattle.im_select.specs.Selects.{IsSelection}
use Rattle.im_link_laws.specs.Program.{HasCode, IsFunctionPart, IsProgram, first_label}
use Rattle.im_select_assemble.specs.declared.program.Program.{Program}
use Rattle.im_select_assemble.specs.Names.{part_names, runtime_names, program_names}

-- well-formed placed code, with a layout and a name for each function, and a place for each static
pub record IsAssemblable (u : Code) (program : Program) : Type 0 where
  pub well_formed : IsWellFormed u
  pub placed : IsPlacedCode u
  pub count : length program.layouts.now ≡ length u.functions.items
  pub layouts : (i : ℕ) (f : Function) (l : Layout) → slice_get u.functions.items i ≡ Some f → slice_get program.layouts.now i ≡ Some l → IsLayout f l
  pub names : length program.names.now ≡ length u.functions.items
  pub statics : length program.statics.now ≡ length u.statics.items
  pub low : (n : ℕ) → n < length program.statics.now → slice_index program.statics.now n < statics_start + statics_capacity

-- the linker has the parts of the program, by name
pub record IsAssembled (u : Code) (program : Program) (linker : Linker) : Type 0 where
  pub parts : List Part
  pub holds : Holds linker parts
  pub is_program : IsProgram u program.statics.now program.layouts.now parts
  pub names : part_names parts ≡ program_names (map string_bytes program.names.now)

-- a part more, with these lines
pub record Adds (old new : List Part) (code : List CodeLine) : Type 0 where
  pub part : Part
  pub added : new ≡ old ++ part ∷ []
  pub lines : code_lines part.lines.items ≡ code

-- a part more, with these lines and this name
pub record AddsNamed (code : List CodeLine) (name : List ℕ) (old new : List Part) : Type 0 where
  pub adds : Adds old new code
  pub named : part_names new ≡ part_names old ++ (name ∷ [])

pub record IsRuntime (parts : List Part) : Type 0 where
  pub count : length parts ≡ 5
  pub recovers : HasCode parts 0 (map plain_line recovery)
  pub saves : HasCode parts 1 checkpoint_code
  pub gets : HasCode parts 2 getchar
  pub puts : HasCode parts 3 putchar
  pub stops : HasCode parts 4 stack

-- the linker has recovery, the checkpoint and the routines, by name
pub record HasRuntime (linker : Linker) : Type 0 where
  pub parts : List Part
  pub holds : Holds linker parts
  pub runtime : IsRuntime parts
  pub names : part_names parts ≡ runtime_names

-- the labels of a function's blocks have 32 bits
abbrev pub IsNextLabel : List Function → ℕ → Type 0
IsNextLabel functions i = first_label functions (i + 1) < 2 ^ 32

-- the part of function i, by name
pub record AddsSelection (given : Given) (i : ℕ) (name : List ℕ) (old new : List Part) : Type 0 where
  pub code : List CodeLine
  pub selection : IsSelection given i code
  pub adds : AddsNamed code name old new

pub record AddsFunction (functions : List Function) (program : Program) (i : ℕ) (old new : List Part) : Type 0 where
  pub part : Part
  pub added : new ≡ old ++ part ∷ []
  pub function : (f : Function) → slice_get functions i ≡ Some f → length old ≡ 5 + i → IsFunctionPart functions program.statics.now program.layouts.now new i f

-- the parts of the first n functions are added
pub record AddsFunctions (functions : List Function) (program : Program) (n : ℕ) (old new : List Part) : Type 0 where
  pub count : length new ≡ length old + n
  pub kept : (q : ℕ) (part : Part) → slice_get old q ≡ Some part → slice_get new q ≡ Some part
  pub each : length old ≡ 5 → (i : ℕ) (f : Function) → i < n → slice_get functions i ≡ Some f → IsFunctionPart functions program.statics.now program.layouts.now new i f

-- the parts of the first n functions are added, by name
pub record AddsNamedFunctions (functions : List Function) (program : Program) (n : ℕ) (old new : List Part) : Type 0 where
  pub adds : AddsFunctions functions program n old new
  pub named : part_names new ≡ part_names old ++ map string_bytes (take n program.names.now)
