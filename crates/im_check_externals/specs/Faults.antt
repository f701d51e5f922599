-- Why external declarations aren't typed.
use Rattle.std.specs.Prelude.{◌≡◌, ℕ, ◌<◌}
use Rattle.im_check_file_functions.specs.im_word.Words.{Name}
use Rattle.im_ctree.specs.Tree as t
use Rattle.im_rules.specs.Declared.{Qualified}
use Rattle.im_rules.specs.FileScope.{FilePlace}
use Rattle.im_rules.specs.UnitBreaks.{FileBroken, an_external, some_declared, some_externals}
use Rattle.im_check_file_functions.specs.im_rules_limits.Limits.{size_limit}
use Rattle.im_check_stop.specs.declared.stop.Stop.{Stop}
use Rattle.im_check_stop.specs.declared.stop.Stop.TheVariants as s
use Rattle.im_check_externals.specs.declared.fault.UnitFault.{UnitFault}
use Rattle.im_check_externals.specs.declared.fault.UnitFault.TheVariants.{Rule, Large, Memory}
use Rattle.im_check_externals.specs.Large.{LargeDeclared, LargeExternal, LargeAmong}

-- a node breaks the rule at the token; a size of so many bytes, over the limit, is where the token and the name tell; or
-- memory ran out
abbrev pub IsFaultBy : (ℕ → ℕ → Type 0) → (ℕ → ℕ → Name → Type 0) → UnitFault → Type 0
IsFaultBy broken large (Rule rule token) = broken rule token
IsFaultBy broken large (Large bytes token name) = large bytes token name.items × (size_limit < bytes)
IsFaultBy broken large Memory = Unit {0}

abbrev pub IsDeclaredFault : t.SpecifierList → Qualified → FilePlace → t.InitDeclarators → UnitFault → Type 0
IsDeclaredFault xs q f ds = IsFaultBy (FileBroken f (some_declared xs q ds)) (LargeDeclared xs q f ds)

abbrev pub IsExternalFault : FilePlace → t.External → UnitFault → Type 0
IsExternalFault f x = IsFaultBy (FileBroken f (an_external x)) (LargeExternal f x)

abbrev pub IsExternalsFault : FilePlace → t.Tree → UnitFault → Type 0
IsExternalsFault f u = IsFaultBy (FileBroken f (some_externals u)) (LargeAmong f u)

-- this is the fault of a stop that was met where the token and the name tell, if memory doesn't run out
abbrev pub IsMetIn : ℕ → Name → Stop → UnitFault → Type 0
IsMetIn token name stop (Rule rule at) = stop ≡ s.Rule rule at
IsMetIn token name stop (Large bytes at called) = (stop ≡ s.Large bytes) × (at ≡ token) × (called.items ≡ name)
IsMetIn token name stop Memory = Unit {0}
