-- The law of selection as the record of passes wants it.
use Rattle.std.specs.Prelude.{ℕ, List}
use Rattle.im_image.specs.Contents.{ImageValue}
use Rattle.im_block.specs.declared.unit.Unit.{Unit as Code}
use Rattle.im_block.specs.Meaning.{Setting, statics_of}
use Rattle.im_select_relation.specs.Linking.{Linking}
use Rattle.im_select_addresses.specs.Named.{AreNamed}
use Rattle.im_keeps.specs.Keeps.{IsInput}
use Rattle.im_keeps_passes.specs.Machine.{Executes}
use Rattle.im_keeps_passes.specs.Passes.{IsSelectable}
use Rattle.im_select_executes.specs.Executing.{IsInImage, ShowsObjects, HasLiveness}

abbrev pub ExecutesLaw : Type 0
ExecutesLaw =
    (image : ImageValue) (input : List ℕ) (u : Code) (g : Setting) (p : Linking) →
    IsInput input → IsSelectable u → IsInImage image input u g p → ShowsObjects image input u p → HasLiveness image → Executes u g image input

-- where objects are named as they are
abbrev pub ObjectsLaw : Type 0
ObjectsLaw =
    (image : ImageValue) (input : List ℕ) (u : Code) (g : Setting) (p : Linking) →
    IsInput input → IsSelectable u → IsInImage image input u g p → AreNamed p 0 (statics_of u) image.objects → ShowsObjects image input u p
