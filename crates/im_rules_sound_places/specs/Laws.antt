-- What stands behind external declarations.
use Rattle.std.specs.Prelude.{List}
use Rattle.im_ctree.specs.Tree as t
use Rattle.im_typed.specs.Program.{Func}
use Rattle.im_rules.specs.FileScope.{FilePlace, file_start}
use Rattle.im_rules.specs.TypedUnit.{FirstValues, AreExternals}
use Rattle.im_rules.specs.UnitBreaks.{some_externals}
use Rattle.im_rules_limits.specs.Limits.{IsFileWithin}
use Rattle.im_rules_sound_places.specs.Units.{IsWrittenUnit}
use Rattle.im_rules_sound_places.specs.Places.{IsFine, IsStep}

abbrev pub StartLaw : Type 0
StartLaw = (u : t.Tree) → IsFine (file_start u)

abbrev pub ExternalsLaw : Type 0
ExternalsLaw =
    (f e : FilePlace) (u : t.Tree) (gs : List FirstValues) (ks : List Func) → AreExternals f u gs ks e → IsFine f
    → IsWrittenUnit u → IsFileWithin f (some_externals u) → IsStep f e
