-- Placed code with all its cuts, as the passes make it of a typed program.
use Rattle.std.specs.Prelude.{◌≡◌, ◌<◌, ◌≤◌, ◌-◌, ◌^◌, ℕ, Option, Some, None, length, All}
use Rattle.im_mem.specs.Map.{stack_capacity, output_capacity, statics_capacity}
use Rattle.im_typed.specs.declared.program.Prog.{Prog}
use Rattle.im_typed.specs.ProgramOf.{program_of}
use Rattle.im_typed.specs.Limits.{IsWithinLimits}
use Rattle.im_typed.specs.Typing.{IsWellTyped}
use Rattle.im_block.specs.declared.access.Tags.{Tags}
use Rattle.im_block.specs.declared.unit.Function.{Function}
use Rattle.im_block.specs.declared.unit.Unit.{Unit as Code}
use Rattle.im_block.specs.Shape.{AllOrdered}
use Rattle.im_block.specs.Forced.{AllForced}
use Rattle.im_block.specs.Tagged.{IsSound}
use Rattle.im_block.specs.Wellformed.{IsWellFormed}
use Rattle.im_alloc_placed.specs.Placeable.{IsPlaceable}
use Rattle.im_alloc_placed.specs.Placed.{IsPlacedCode}
use Rattle.im_alloc_placed.specs.Apart.{AllUncut}
use Rattle.im_forward.specs.Registers.{InRegisters}
use Rattle.im_force.specs.Force.{Forces}
use Rattle.im_recut.specs.Recut.{RecutsTo}
use Rattle.im_recut.specs.Laws.{AllWithinGap}
use Rattle.im_lower_relation.specs.Lowered.{IsLowered, AreSized}
use Rattle.im_lower_plain.specs.MakeUnit.{KnowsTypes}
use Rattle.im_alloc_laws.specs.Numbered.{IsWellPlaced}
use Rattle.im_frame.specs.Layout.{bytes_of, rooms}
use Rattle.im_select_addresses.specs.Statics.{objects_of}
use Rattle.im_link_laws.specs.Laws.{NamesAccesses}
use Rattle.im_compile.specs.declared.options.Options.{Options}

-- what is asked of a program
pub record IsSource (prog : Prog) : Type 0 where
  pub known : KnowsTypes prog
  pub typed : IsWellTyped (program_of prog)
  pub within : IsWithinLimits (program_of prog)

-- the longest gap that may be asked for, in instructions
abbrev pub IsGapOption : Option ℕ → Type 0
IsGapOption None = Unit {0}
IsGapOption (Some gap) = (160 ≤ gap) × (gap ≤ 1000000)

-- what is asked of the options, in bytes
pub record AreOptions (options : Options) : Type 0 where
  pub some_stack : 256 ≤ options.stack
  pub most_stack : options.stack ≤ stack_capacity
  pub output : options.out_cap ≤ output_capacity
  pub gap : IsGapOption options.max_gap

-- lower, promote and forward, force, alias, place, recut
pub record IsPassed (prog : Prog) (max_gap : Option ℕ) (code : Code) : Type 0 where
  pub lowered : Code
  pub lower : IsLowered (program_of prog) lowered
  pub sized : AreSized (program_of prog) lowered
  pub placeable : IsPlaceable lowered
  pub uncut : AllUncut lowered
  -- what a frame may need is a number of 64 bits
  pub told : All (λ (f : Function). f.need < 2 ^ 64 - 1) lowered.functions.items
  pub forwarded : Code
  pub registers : InRegisters lowered forwarded
  pub forced : Code
  pub force : Forces forwarded forced
  pub tags : Tags
  pub alias : IsSound forced tags
  pub placed : Code
  pub place : IsWellPlaced forced placed
  pub recut : RecutsTo tags max_gap placed code

-- what the passes behind ask of placed code, and its functions are those of the program
pub record IsReady (prog : Prog) (max_gap : Option ℕ) (code : Code) : Type 0 where
  pub well_formed : IsWellFormed code
  pub placed : IsPlacedCode code
  pub ordered : AllOrdered code
  pub forced : AllForced code
  pub short : AllWithinGap max_gap code
  pub named : NamesAccesses code
  pub fits : All (λ (f : Function). bytes_of f ≤ f.need) code.functions.items
  pub room : rooms (objects_of code.statics.items) ≤ statics_capacity
  pub count : length code.functions.items ≡ length prog.funcs.items

abbrev pub ReadyLaw : Type 0
ReadyLaw = (prog : Prog) (max_gap : Option ℕ) (code : Code) → IsSource prog → IsPassed prog max_gap code → IsReady prog max_gap code
