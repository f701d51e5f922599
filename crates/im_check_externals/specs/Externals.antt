-- What is answered of external declarations.
use Rattle.std.specs.Prelude.{◌≡◌, List, ◌++◌}
use Rattle.im_ctree.specs.Tree as t
use Rattle.im_check_file_functions.specs.im_typed.Program.{Func}
use Rattle.im_rules.specs.TypedUnit as u
use Rattle.im_rules.specs.TypedUnit.{TypedExternal, AreExternals}
use Rattle.im_rules.specs.UnitBreaks.{an_external, some_externals}
use Rattle.im_check_file_functions.specs.im_rules_limits.Limits.{IsFileWithin}
use Rattle.im_check_file_place.specs.declared.file.File.{File}
use Rattle.im_check_file_place.specs.Files.{file_place_of}
use Rattle.im_check_defined.specs.declared.function.Defined.{Defined}
use Rattle.im_check_defined.specs.Functions.{AreDefined}
use Rattle.im_check_defined.specs.Values.{first_values_in}
use Rattle.im_check_externals.specs.declared.unit.UnitDefined.{UnitDefined}

-- one is typed: its first values and its functions are behind those before it, and its sizes within the limit
pub record ExternalDone (before : File) (old : UnitDefined) (x : t.External) (after : File) (new : UnitDefined) : Type 0 where
  pub given : List u.FirstValues
  pub made : List Func
  pub defined : List Defined
  pub typed : TypedExternal (file_place_of before) x given made (file_place_of after)
  pub within : IsFileWithin (file_place_of before) (an_external x)
  pub firsts : first_values_in new.firsts.items ≡ first_values_in old.firsts.items ++ given
  pub functions : new.functions.items ≡ old.functions.items ++ defined
  pub same : AreDefined after.place.structs made defined

-- all are typed, and their sizes are within the limit
pub record ExternalsDone (before : File) (tree : t.Tree) (after : File) (done : UnitDefined) : Type 0 where
  pub made : List Func
  pub typed : AreExternals (file_place_of before) tree (first_values_in done.firsts.items) made (file_place_of after)
  pub within : IsFileWithin (file_place_of before) (some_externals tree)
  pub same : AreDefined after.place.structs made done.functions.items
