-- What the checker answers.
use Rattle.std.specs.Prelude.{ℕ, List}
use Rattle.im_ctree.specs.Tree as t
use Rattle.im_typed.specs.declared.program.Prog.{Prog}
use Rattle.im_typed.specs.Program.{Func}
use Rattle.im_typed.specs.ProgramOf.{program_of}
use Rattle.im_rules.specs.FileScope.{FilePlace, file_start}
use Rattle.im_rules.specs.TypedUnit.{FirstValues, AreExternals, TypedUnit}
use Rattle.im_rules.specs.UnitBreaks.{UnitBroken, some_externals}
use Rattle.im_rules_limits.specs.Limits as l
use Rattle.im_lower_plain.specs.MakeUnit.{KnowsTypes}
use Rattle.im_check_counts.specs.Crowded.{CrowdedAmong}
use Rattle.im_check_externals.specs.Large.{LargeAmong}
use Rattle.im_check_externals.specs.im_word.Words.{Name}
use Rattle.im_check.specs.declared.fault.CheckFault.{CheckFault}
use Rattle.im_check.specs.declared.fault.CheckFault.TheVariants.{Rule, Crowded, Large, Statics, OutOfMemory}

-- the tree is typed to the program and within the limits, and the types of the program's objects are in its table
pub record IsChecked (u : t.Tree) (g : Prog) : Type 0 where
  pub typed : TypedUnit u (program_of g)
  pub within : l.IsWithinLimits u
  pub known : KnowsTypes g

-- no type is over the limit of sizes
abbrev pub HasNoLargeType : t.Tree → Type 0
HasNoLargeType u = l.IsFileWithin (file_start u) (some_externals u)

-- of this unit the first function whose parameters take more words than they may take is told by its declarator's first token
-- and its name; what they are is known behind the external declarations
pub record IsFirstCrowded (u : t.Tree) (words token : ℕ) (name : Name) : Type 0 where
  pub place : FilePlace
  pub values : List FirstValues
  pub functions : List Func
  pub typed : AreExternals (file_start u) u values functions place
  pub first : CrowdedAmong place.context.scopes (l.function_heads u) words token name

-- so many words are over the limit
pub record IsCrowded (u : t.Tree) (words token : ℕ) (name : Name) : Type 0 where
  pub exceeds : l.Exceeds u l.of_parameters words
  pub first : IsFirstCrowded u words token name

-- of this unit a size is met first where the token and the name tell
abbrev pub IsFirstLarge : t.Tree → ℕ → ℕ → Name → Type 0
IsFirstLarge u bytes token name = LargeAmong (file_start u) u bytes token name

-- it is over the limit
pub record IsLarge (u : t.Tree) (bytes token : ℕ) (name : Name) : Type 0 where
  pub exceeds : l.Exceeds u l.of_size bytes
  pub first : IsFirstLarge u bytes token name

-- a node breaks the rule; the parameters of a function, a size or the statics are over their limit, the statics only where no size
-- is; or memory ran out
abbrev pub IsCheckFault : t.Tree → CheckFault → Type 0
IsCheckFault u (Rule number token) = UnitBroken u number token
IsCheckFault u (Crowded words token name) = IsCrowded u words token name.items
IsCheckFault u (Large bytes token name) = IsLarge u bytes token name.items
IsCheckFault u (Statics bytes) = l.Exceeds u l.of_statics bytes × HasNoLargeType u
IsCheckFault u OutOfMemory = Unit {0}
