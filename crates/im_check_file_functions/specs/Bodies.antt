-- For private contracts: what is answered of a function's parameters in scope, and of its body.
use Rattle.std.specs.Prelude.{◌≡◌, ◌<◌, ℕ, true, List, ◌++◌, length}
use Rattle.im_ctree.specs.Tree as t
use Rattle.im_ctree.specs.declared.declarator.Parameter as pm
use Rattle.im_check_statements.specs.im_ctype.Table.{structs_of}
use Rattle.im_typed.specs.Program.{Stmts, Block}
use Rattle.im_rules.specs.BodyBreaks.{BodyBroken, some_items}
use Rattle.im_rules.specs.Declared as d
use Rattle.im_rules.specs.FileScope.{past_strings, FilePlace}
use Rattle.im_rules.specs.Statements.{Site, Added, TypedItems, name_of}
use Rattle.im_rules.specs.TypedUnit.{result_kind, parameter_objects, body_site}
use Rattle.im_rules.specs.TypeTests.{result_of}
use Rattle.im_check_statements.specs.im_rules_limits.Limits.{size_limit, BodySized, IsBodyWithin}
use Rattle.im_types.specs.declared.tree.Type as rust
use Rattle.im_types.specs.Shape.{type_of}
use Rattle.im_check_type_specifiers.specs.Tags.{IsGrown}
use Rattle.im_check_stop.specs.declared.stop.Stop.{Stop}
use Rattle.im_check_stop.specs.declared.stop.Stop.TheVariants.{Rule, Large, Memory}
use Rattle.im_check_place.specs.declared.place.Place.{Place}
use Rattle.im_check_place.specs.Contexts.{context_of}
use Rattle.im_check_file_place.specs.declared.file.File.{File}
use Rattle.im_check_file_place.specs.Files.{file_place_of}
use Rattle.im_check_file_specifiers.specs.Answers.{list_of}
use Rattle.im_check_sites.specs.declared.body.Body.{Body}
use Rattle.im_check_sites.specs.Sites.{site_of, objects_of}
use Rattle.im_check_statements.specs.Checked.{alone}
use Rattle.im_check_defined.specs.declared.function.Defined.{Defined}
use Rattle.im_check_defined.specs.Functions.{function_in, all_complete}

-- names and tags are more, all else is as it was
pub record IsMore (before after : Place) : Type 0 where
  pub grown : IsGrown before.scope after.scope
  pub all_else : after ≡ record before { scope = after.scope }

-- the n-th parameter is in scope
pub record IsEntered (n : ℕ) (p : pm.Parameter) (y : d.Declared) (before after : Place) : Type 0 where
  pub more : IsMore before after
  pub context : context_of after ≡ d.with_parameter n y (d.behind_specifiers (context_of before) (list_of (pm.out-Parameter p).specifiers))

-- parameters are in scope
pub record AreEntered (before : Place) (ps : t.Parameters) (ds : List d.Declared) (after : Place) : Type 0 where
  pub more : IsMore before after
  pub context : context_of after ≡ d.with_parameters 0 ps ds (context_of before)

-- a body begins, with a function's parameters in scope; what was known before it is in it
pub record IsBegun (before : File) (r : rust.Type) (ps : t.Parameters) (ds : List d.Declared) (after : File) (b : Body) : Type 0 where
  pub site : site_of b alone ≡ body_site (file_place_of before) (type_of r) ps ds
  pub more : IsMore before.place b.place
  pub objects : objects_of b ≡ parameter_objects (structs_of before.place.structs) ds
  pub texts : b.texts ≡ before.texts
  pub all_else : after ≡ record before { place = after.place; texts = after.texts }

abbrev pub site_in : FilePlace → d.Declared → t.Parameters → List d.Declared → Site
site_in f y ps ds = body_site f (result_of y.type) ps ds

-- a function's body is typed, its sizes are within the limit, and its string literals are behind those before them
pub record FunctionDone (before : File) (y : d.Declared) (ps : t.Parameters) (ds : List d.Declared) (is : t.BlockItems) (after : File) (f : Defined) : Type 0 where
  pub added : Added
  pub statements : Stmts
  pub typed : TypedItems (site_in (file_place_of before) y ps ds) is statements added
  pub within : IsBodyWithin (site_in (file_place_of before) y ps ds) (some_items is)
  pub behind : file_place_of after ≡ past_strings added.strings (file_place_of before)
  pub same : function_in after.place.structs f ≡ record {
    name = name_of y.name;
    params = length ds;
    result = result_kind (result_of y.type);
    objects = parameter_objects (structs_of before.place.structs) ds ++ added.objects;
    body = Block statements;
  }
  pub complete : all_complete (length (structs_of after.place.structs)) f.objects.items ≡ true

-- a node of a body breaks the rule at the token, or has a type of so many bytes, over the limit; or memory ran out
abbrev pub IsInsideFault : FilePlace → d.Declared → t.Parameters → List d.Declared → t.BlockItems → Stop → Type 0
IsInsideFault f y ps ds is (Rule rule token) = BodyBroken (site_in f y ps ds) (some_items is) rule token
IsInsideFault f y ps ds is (Large bytes) = BodySized (site_in f y ps ds) (some_items is) bytes × (size_limit < bytes)
IsInsideFault f y ps ds is Memory = Unit {0}
