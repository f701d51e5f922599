-- The program of a unit whose external declarations are typed.
use Rattle.std.specs.Prelude.{◌≡◌, ◌++◌, List, map}
use Rattle.im_ctype.specs.Table.{structs_of}
use Rattle.im_check_defined.specs.im_store.Statics.{StaticObject}
use Rattle.im_typed.specs.declared.program.Prog.{Prog}
use Rattle.im_check_defined.specs.im_rules.FileScope.{FilePlace, main_name}
use Rattle.im_check_defined.specs.im_rules.Outline.{place_in}
use Rattle.im_check_defined.specs.im_rules.TypedUnit.{FirstValues, static_named, string_statics}
use Rattle.im_check_file_place.specs.Files.{file_place_of}
use Rattle.im_check_defined.specs.Values.{first_values_in}
use Rattle.im_check_program.specs.declared.programs.Parts.{Parts}
use Rattle.im_check_program.specs.Known.{AreStaticsOf, AreFunctionsOf}

-- the statics of a unit by what is known at its end, objects and string literals
abbrev pub all_statics : FilePlace → List FirstValues → List StaticObject
all_statics e gs = map (static_named e gs) e.context.unit.statics ++ string_statics e.context.known 1 e.strings

-- its statics, its functions as they are defined, and the number of `main`, by a table that has the unit's structs
pub record IsProgram (u : Parts) (g : Prog) : Type 0 where
  pub statics : AreStaticsOf g.types (all_statics (file_place_of u.file) (first_values_in u.given.items)) g.statics.items
  pub functions : AreFunctionsOf u.file.place.structs g.types u.functions.items g.funcs.items
  pub main : g.main ≡ place_in main_name u.file.place.outline.bodies
  pub structs : structs_of g.types ≡ structs_of u.file.place.structs
