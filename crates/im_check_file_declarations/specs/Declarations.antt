-- What declarations at file scope leave.
use Rattle.std.specs.Prelude.{◌≡◌, List, [], ◌++◌}
use Rattle.im_ctree.specs.Tree as t
use Rattle.im_rules.specs.Declared.{Qualified}
use Rattle.im_rules.specs.FileScope.{FilePlace}
use Rattle.im_rules.specs.TypedUnit.{FirstValues, AreDeclared, TypedExternal}
use Rattle.im_rules.specs.UnitBreaks.{an_external, some_declared}
use Rattle.im_check_file_specifiers.specs.im_rules_limits.Limits.{IsFileWithin}
use Rattle.im_check_defined.specs.declared.first_values.FirstValues as rf
use Rattle.im_check_defined.specs.Values.{first_values_in}

-- declarators are declared; the first values that they are given stand behind the others, and their sizes are within the limit
pub record DeclaratorsDone (xs : t.SpecifierList) (q : Qualified) (before : FilePlace) (ds : t.InitDeclarators) (old new : List rf.FirstValues) (after : FilePlace) : Type 0 where
  pub given : List FirstValues
  pub added : first_values_in new ≡ first_values_in old ++ given
  pub typed : AreDeclared xs q before ds given after
  pub within : IsFileWithin before (some_declared xs q ds)

-- a declaration is typed, likewise
pub record DeclarationDone (before : FilePlace) (x : t.External) (old new : List rf.FirstValues) (after : FilePlace) : Type 0 where
  pub given : List FirstValues
  pub added : first_values_in new ≡ first_values_in old ++ given
  pub typed : TypedExternal before x given [] after
  pub within : IsFileWithin before (an_external x)
