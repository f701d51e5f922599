-- What is answered of nodes at file scope.
use Rattle.std.specs.Prelude.{ℕ, ◌<◌, List}
use Rattle.im_ctree.specs.Tree as t
use Rattle.im_ctree.specs.declared.specifier.Specifiers as ss
use Rattle.im_rules.specs.FileScope as f
use Rattle.im_rules.specs.FileScope.{FilePlace}
use Rattle.im_rules.specs.UnitBreaks.{FileNode, FileBroken}
use Rattle.im_rules_limits.specs.Limits.{size_limit, FileSized, IsFileWithin}
use Rattle.im_check_stop.specs.declared.stop.Stop.{Stop}
use Rattle.im_check_stop.specs.declared.stop.Stop.TheVariants.{Rule, Large, Memory}
use Rattle.im_ctree_parts.specs.Lists.{list_from}
use Rattle.im_check_file_specifiers.specs.declared.level.Level.{Level}
use Rattle.im_check_file_specifiers.specs.declared.level.Level.TheVariants as l

-- a node of this one breaks the rule at the token, or names a type of so many bytes, over the limit; or memory ran out
abbrev pub IsFileFault : FilePlace → FileNode → Stop → Type 0
IsFileFault p n (Rule rule token) = FileBroken p n rule token
IsFileFault p n (Large bytes) = FileSized p n bytes × (size_limit < bytes)
IsFileFault p n Memory = Unit {0}

-- a node is the rest of another one: what breaks a rule in it and each size in it is in the other one, whose sizes are within
-- the limit where its own are
pub record IsRest (before : FilePlace) (all : FileNode) (after : FilePlace) (rest : FileNode) : Type 0 where
  pub breaks : (rule token : ℕ) → FileBroken after rest rule token → FileBroken before all rule token
  pub sizes : (bytes : ℕ) → FileSized after rest bytes → FileSized before all bytes
  pub within : IsFileWithin after rest → IsFileWithin before all

abbrev pub level_of : Level → f.Level
level_of l.File = f.of_the_file
level_of l.Members = f.of_members

-- the specifiers of a record of them
abbrev pub list_of : ss.Specifiers → t.SpecifierList
list_of s = list_from (ss.out-Specifiers s).items.items
