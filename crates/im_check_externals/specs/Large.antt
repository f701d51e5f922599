-- Where the first size over the limit is met.
use Rattle.std.specs.Prelude.{ℕ, List, []}
use Rattle.im_check_file_functions.specs.im_word.Words.{Name}
use Rattle.im_ctree.specs.Tree as t
use Rattle.im_check_file_functions.specs.im_typed.Program.{Func}
use Rattle.im_rules.specs.BodyBreaks.{declarator_token}
use Rattle.im_rules.specs.Declared.{Qualified}
use Rattle.im_rules.specs.FileScope.{FilePlace, of_the_file}
use Rattle.im_rules.specs.Outline.{name_of}
use Rattle.im_rules.specs.TypedUnit.{FirstValues, Specify, AreDeclared, TypedExternal}
use Rattle.im_rules.specs.UnitBreaks.{an_external, some_declared, file_specifiers}
use Rattle.im_check_file_functions.specs.im_rules_limits.Limits.{FileSized, IsFileWithin}

abbrev pub alone : t.Declarator → t.MaybeInitializer → t.InitDeclarators
alone d i = t.more_init_declarators d i t.no_init_declarators

-- in which declarator of a declaration, with its initialiser, a size of so many bytes is: its first token, and its name. Those
-- before it are declared, and their sizes are within the limit
pub data LargeDeclared (xs : t.SpecifierList) (q : Qualified) : FilePlace → t.InitDeclarators → ℕ → ℕ → Name → Type 0 where
  this_declarator : {f : FilePlace} {d : t.Declarator} {i : t.MaybeInitializer} {ds : t.InitDeclarators} {bytes : ℕ}
      → FileSized f (some_declared xs q (alone d i)) bytes
      → LargeDeclared xs q f (t.more_init_declarators d i ds) bytes (declarator_token d) (name_of d)
  other_declarator : {f g : FilePlace} {d : t.Declarator} {i : t.MaybeInitializer} {ds : t.InitDeclarators} {gs : List FirstValues} {bytes token : ℕ} {x : Name}
      → AreDeclared xs q f (alone d i) gs g
      → IsFileWithin f (some_declared xs q (alone d i))
      → LargeDeclared xs q g ds bytes token x
      → LargeDeclared xs q f (t.more_init_declarators d i ds) bytes token x

-- where in an external declaration: in its specifiers, by their first token and no name; else in a declarator. A function is
-- told by its declarator
pub data LargeExternal (f : FilePlace) : t.External → ℕ → ℕ → Name → Type 0 where
  in_specifiers : {at bytes : ℕ} {xs : t.SpecifierList} {ds : t.InitDeclarators}
      → FileSized f (file_specifiers of_the_file (t.specifiers at xs)) bytes
      → LargeExternal f (t.external_declaration (t.declaration (t.specifiers at xs) ds)) bytes at []
  in_declarators : {g : FilePlace} {at bytes token : ℕ} {x : Name} {xs : t.SpecifierList} {q : Qualified} {ds : t.InitDeclarators}
      → Specify of_the_file f xs q g
      → IsFileWithin f (file_specifiers of_the_file (t.specifiers at xs))
      → LargeDeclared xs q g ds bytes token x
      → LargeExternal f (t.external_declaration (t.declaration (t.specifiers at xs) ds)) bytes token x
  in_function : {bytes : ℕ} {s : t.Specifiers} {d : t.Declarator} {b : t.Block}
      → FileSized f (an_external (t.function_definition s d b)) bytes
      → LargeExternal f (t.function_definition s d b) bytes (declarator_token d) (name_of d)

-- and in a unit: the external declarations before it are typed, and their sizes are within the limit
pub data LargeAmong : FilePlace → t.Tree → ℕ → ℕ → Name → Type 0 where
  this_external : {f : FilePlace} {x : t.External} {xs : t.Tree} {bytes token : ℕ} {name : Name}
      → LargeExternal f x bytes token name
      → LargeAmong f (t.more_externals x xs) bytes token name
  other_external : {f g : FilePlace} {x : t.External} {xs : t.Tree} {gs : List FirstValues} {ks : List Func} {bytes token : ℕ} {name : Name}
      → TypedExternal f x gs ks g
      → IsFileWithin f (an_external x)
      → LargeAmong g xs bytes token name
      → LargeAmong f (t.more_externals x xs) bytes token name
