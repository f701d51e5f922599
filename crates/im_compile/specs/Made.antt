-- Code that was made of a program, and its parts in a linker.
use Rattle.std.specs.Prelude.{◌≡◌, ℕ, List, Vec, Option, map, encode_utf8_all}
use Rattle.std.specs.Global.{Global}
use Rattle.im_mem.specs.Map.{statics_start}
use Rattle.im_rv.specs.declared.code.Part.{Part}
use Rattle.im_link.specs.Linking.{Holds}
use Rattle.im_typed.specs.declared.program.Func.{Func}
use Rattle.im_typed.specs.declared.program.Prog.{Prog}
use Rattle.im_typed.specs.declared.frames.Frame.{Frame}
use Rattle.im_frame.specs.declared.layout.Layout.{Layout}
use Rattle.im_frame.specs.Layout.{places_from}
use Rattle.im_select_addresses.specs.Addresses.{AreLayouts}
use Rattle.im_select_addresses.specs.Statics.{objects_of}
use Rattle.im_link_laws.specs.Program.{IsProgram}
use Rattle.im_select_assemble.specs.Names.{part_names, program_names}
use Rattle.im_compile.specs.declared.making.Made.{Made}
use Rattle.im_compile.specs.declared.setting_out.Unlinked.{Unlinked}
use Rattle.im_compile.specs.Built.{bytes_of}
use Rattle.im_compile.specs.Passed.{IsPassed}

-- these are the functions' names, in their order
abbrev pub AreNamesOf : List Func → List (Vec ℕ Global) → Type 0
AreNamesOf funcs names = map (λ (name : Vec ℕ Global). name.items) names ≡ map (λ (f : Func). f.name.items) funcs

-- the passes make this code of the program, whose functions have these names
pub record IsMade (prog : Prog) (max_gap : Option ℕ) (made : Made) : Type 0 where
  pub passed : IsPassed prog max_gap made.unit
  pub names : AreNamesOf prog.funcs.items made.names.items

-- a frame for each function, by these names
pub record AreNamedFrames (names : List (Vec ℕ Global)) (layouts : List Layout) (frames : List Frame) : Type 0 where
  pub named : map (λ (f : Frame). f.name.items) frames ≡ map (λ (name : Vec ℕ Global). name.items) names
  pub sizes : map (λ (f : Frame). f.size) frames ≡ bytes_of layouts

-- names as text, each byte a character
abbrev pub texts_of_names : List (Vec ℕ Global) → List (List ℕ)
texts_of_names names = map (λ (name : Vec ℕ Global). encode_utf8_all name.items) names

-- frames and places of this very code, and its parts, by name, in the linker
pub record IsSetOut (made : Made) (unlinked : Unlinked) : Type 0 where
  pub layouts : List Layout
  pub lay_out : AreLayouts made.unit.functions.items layouts
  pub frames : AreNamedFrames made.names.items layouts unlinked.frames.frames.items
  pub statics : unlinked.statics ≡ made.unit.statics
  pub place_statics : unlinked.addresses.items ≡ places_from statics_start (objects_of made.unit.statics.items)
  pub parts : List Part
  pub holds : Holds unlinked.linker parts
  pub assemble : IsProgram made.unit unlinked.addresses.items layouts parts
  pub named : part_names parts ≡ program_names (texts_of_names made.names.items)

-- they were set out of code that was made of the program
pub record IsUnlinkedFrom (prog : Prog) (max_gap : Option ℕ) (unlinked : Unlinked) : Type 0 where
  pub made : Made
  pub is_made : IsMade prog max_gap made
  pub set_out : IsSetOut made unlinked
