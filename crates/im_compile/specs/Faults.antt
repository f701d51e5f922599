-- Why a program has no image.
use Rattle.std.specs.Prelude.{◌≡◌, ◌<◌, ◌≤◌, ℕ, List, Option, Some, slice_get}
use Rattle.im_mem.specs.Map.{statics_start}
use Rattle.im_rv.specs.declared.code.Part.{Part}
use Rattle.im_link.specs.Parts.{byte_count}
use Rattle.im_link.specs.Code.{byte_limit, told_count}
use Rattle.im_typed.specs.declared.program.Prog.{Prog}
use Rattle.im_block.specs.declared.unit.Function.{Function}
use Rattle.im_block.specs.declared.unit.Unit.{Unit as Code}
use Rattle.im_frame.specs.declared.layout.Layout.{Layout}
use Rattle.im_frame.specs.Layout.{bytes_of, places_from}
use Rattle.im_select_addresses.specs.Addresses.{AreLayouts}
use Rattle.im_select_addresses.specs.Statics.{objects_of}
use Rattle.im_link_laws.specs.Program.{IsProgram}
use Rattle.im_compile.specs.declared.fault.CompileFault.{CompileFault}
use Rattle.im_compile.specs.declared.fault.CompileFault.TheVariants.{Frame, Code as TooMuchCode, OutOfMemory}
use Rattle.im_compile.specs.Passed.{IsPassed}

-- the first function whose frame is larger than 65536 bytes, and so many it has
pub record IsFrameTooLarge (functions : List Function) (i bytes : ℕ) : Type 0 where
  pub f : Function
  pub is_function : slice_get functions i ≡ Some f
  pub bytes_are : bytes ≡ bytes_of f
  pub large : 65536 < bytes
  pub first : (k : ℕ) (g : Function) → k < i → slice_get functions k ≡ Some g → bytes_of g ≤ 65536

-- why code isn't set out: its first function whose frame is too large, or want of memory
abbrev pub IsFrameFault : List Function → CompileFault → Type 0
IsFrameFault functions (Frame i bytes) = IsFrameTooLarge functions i bytes
IsFrameFault functions (TooMuchCode bytes) = ⊥
IsFrameFault functions OutOfMemory = Unit {0}

-- why parts aren't finished: they don't fit between 0x1000 and 0x100000, and so many bytes they have, or want of memory
abbrev pub IsCodeFault : List Part → CompileFault → Type 0
IsCodeFault parts (Frame i bytes) = ⊥
IsCodeFault parts (TooMuchCode bytes) = (byte_limit < byte_count parts) × (bytes ≡ told_count parts)
IsCodeFault parts OutOfMemory = Unit {0}

-- a frame of code that the passes may make of the program is too large
pub record HasLargeFrame (prog : Prog) (max_gap : Option ℕ) (i bytes : ℕ) : Type 0 where
  pub code : Code
  pub passed : IsPassed prog max_gap code
  pub frame : IsFrameTooLarge code.functions.items i bytes

-- the parts of the program
pub record IsAssembled (prog : Prog) (max_gap : Option ℕ) (parts : List Part) : Type 0 where
  pub code : Code
  pub passed : IsPassed prog max_gap code
  pub layouts : List Layout
  pub lay_out : AreLayouts code.functions.items layouts
  pub addresses : List ℕ
  pub place_statics : addresses ≡ places_from statics_start (objects_of code.statics.items)
  pub assemble : IsProgram code addresses layouts parts

-- code that the passes may make of the program doesn't fit between 0x1000 and 0x100000
pub record HasLargeCode (prog : Prog) (max_gap : Option ℕ) (bytes : ℕ) : Type 0 where
  pub parts : List Part
  pub assembled : IsAssembled prog max_gap parts
  pub large : byte_limit < byte_count parts
  pub told : bytes ≡ told_count parts

abbrev pub IsFaultOf : Prog → Option ℕ → CompileFault → Type 0
IsFaultOf prog max_gap (Frame function bytes) = HasLargeFrame prog max_gap function bytes
IsFaultOf prog max_gap (TooMuchCode bytes) = HasLargeCode prog max_gap bytes
IsFaultOf prog max_gap OutOfMemory = Unit {0}
