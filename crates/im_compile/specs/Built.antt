-- What is built of a program, pass by pass.
use Rattle.std.specs.Prelude.{◌≡◌, ◌≤◌, ℕ, List, Option, Some, None, map, encode_utf8_all}
use Rattle.im_mem.specs.Map.{statics_start}
use Rattle.im_rv.specs.declared.code.Part.{Part}
use Rattle.im_rv.specs.declared.code.Code.{Code as Linked}
use Rattle.im_image.specs.Contents.{IsImage}
use Rattle.im_link.specs.Code.{IsLinked}
use Rattle.im_gap.specs.Gap.{IsGap}
use Rattle.im_typed.specs.declared.program.Func.{Func}
use Rattle.im_typed.specs.declared.program.Prog.{Prog}
use Rattle.im_typed.specs.declared.frames.Frame.{Frame}
use Rattle.im_block.specs.declared.unit.Unit.{Unit as Code}
use Rattle.im_frame.specs.declared.layout.Layout.{Layout}
use Rattle.im_frame.specs.Layout.{places_from}
use Rattle.im_select_addresses.specs.Addresses.{AreLayouts}
use Rattle.im_select_addresses.specs.Statics.{objects_of}
use Rattle.im_link_laws.specs.Program.{IsProgram}
use Rattle.im_select_assemble.specs.Names.{part_names, program_names}
use Rattle.im_pack.specs.Packed.{IsPacked}
use Rattle.im_compile.specs.declared.options.Options.{Options}
use Rattle.im_compile.specs.declared.built.Built.{Built}
use Rattle.im_compile.specs.Passed.{IsPassed}

-- the bytes of each function's frame
abbrev pub bytes_of : List Layout → List ℕ
bytes_of layouts = map (λ (l : Layout). l.frame) layouts

-- a frame for each function, by its name
pub record AreFrames (funcs : List Func) (layouts : List Layout) (frames : List Frame) : Type 0 where
  pub names : map (λ (f : Frame). f.name.items) frames ≡ map (λ (f : Func). f.name.items) funcs
  pub sizes : map (λ (f : Frame). f.size) frames ≡ bytes_of layouts

-- the functions' names as text, each byte a character
abbrev pub function_names : List Func → List (List ℕ)
function_names funcs = map (λ (f : Func). encode_utf8_all f.name.items) funcs

-- the gap is no longer than was asked for
abbrev pub IsGapWithin : Option ℕ → ℕ → Type 0
IsGapWithin None gap = Unit {0}
IsGapWithin (Some most) gap = gap ≤ most

-- lower, promote and forward, force, alias, place, recut; frames; statics; assemble, link, gap, pack
pub record IsBuilt (prog : Prog) (options : Options) (built : Built) : Type 0 where
  pub code : Code
  pub passed : IsPassed prog options.max_gap code
  pub layouts : List Layout
  pub lay_out : AreLayouts code.functions.items layouts
  pub addresses : List ℕ
  pub place_statics : addresses ≡ places_from statics_start (objects_of code.statics.items)
  pub parts : List Part
  pub assemble : IsProgram code addresses layouts parts
  pub named : part_names parts ≡ program_names (function_names prog.funcs.items)
  pub linked : Linked
  pub link : IsLinked parts linked
  pub measure : IsGap linked.words.items linked.entry built.gap
  pub short : IsGapWithin options.max_gap built.gap
  pub pack : IsPacked code addresses linked options.stack options.out_cap built.image
  pub is_image : IsImage built.image
  -- what is told of it: each function's frame, and the cuts by address with their causes
  pub frames : AreFrames prog.funcs.items layouts built.frames.frames.items
  pub cuts : built.cuts ≡ linked.cuts
