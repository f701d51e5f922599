-- What is answered of a function definition.
use Rattle.std.specs.Prelude.{◌≡◌, true, [], ◌∷◌, length}
use Rattle.im_ctree.specs.Tree as t
use Rattle.im_check_statements.specs.im_ctype.Table.{structs_of}
use Rattle.im_rules.specs.TypedUnit.{TypedExternal}
use Rattle.im_rules.specs.UnitBreaks.{an_external}
use Rattle.im_check_statements.specs.im_rules_limits.Limits.{IsFileWithin}
use Rattle.im_check_file_place.specs.declared.file.File.{File}
use Rattle.im_check_file_place.specs.Files.{file_place_of}
use Rattle.im_check_defined.specs.declared.function.Defined.{Defined}
use Rattle.im_check_defined.specs.Functions.{function_in, all_complete}

-- it is typed to the function that is defined, by the table of types behind it, and its sizes are within the limit; its
-- objects have complete types by that table
pub record DefinitionDone (before : File) (x : t.External) (after : File) (f : Defined) : Type 0 where
  pub typed : TypedExternal (file_place_of before) x [] (function_in after.place.structs f ∷ []) (file_place_of after)
  pub within : IsFileWithin (file_place_of before) (an_external x)
  pub complete : all_complete (length (structs_of after.place.structs)) f.objects.items ≡ true
