-- A unit whose external declarations are typed.
use Rattle.std.specs.Prelude.{List}
use Rattle.im_ctree.specs.Tree as t
use Rattle.im_typed.specs.Program.{Func}
use Rattle.im_rules.specs.Demands.{Meets}
use Rattle.im_rules.specs.FileScope.{file_start, main_asks}
use Rattle.im_rules.specs.TypedUnit.{AreExternals}
use Rattle.im_rules.specs.UnitBreaks.{some_externals}
use Rattle.im_rules_limits.specs.Limits.{IsFileWithin}
use Rattle.im_check_file_place.specs.Files.{file_place_of}
use Rattle.im_check_defined.specs.Functions.{AreDefined}
use Rattle.im_check_defined.specs.Values.{first_values_in}
use Rattle.im_check_program.specs.declared.programs.Parts.{Parts}

-- to these functions, each by the table that stood before it; no type is over the limit
pub record UnitTyped (u : t.Tree) (p : Parts) : Type 0 where
  pub functions : List Func
  pub typed : AreExternals (file_start u) u (first_values_in p.given.items) functions (file_place_of p.file)
  pub has_main : Meets (main_asks (file_place_of p.file).context.scopes)
  pub defined : AreDefined p.file.place.structs functions p.functions.items
  pub within : IsFileWithin (file_start u) (some_externals u)
