-- What a packed program has in its image.
use Rattle.std.specs.Prelude.{ℕ, List, map}
use Rattle.im_rv.specs.declared.code.Part.{Part}
use Rattle.im_rv.specs.declared.code.Code.{Code as Linked}
use Rattle.im_image.specs.Contents.{ImageValue, IsImage}
use Rattle.im_block.specs.declared.unit.Unit.{Unit as Code}
use Rattle.im_block.specs.Wellformed.{IsWellFormed}
use Rattle.im_frame.specs.declared.layout.Layout.{Layout}
use Rattle.im_select_addresses.specs.Addresses.{AreLayouts}
use Rattle.im_link.specs.Code.{IsLinkable, IsLinked as IsLinkedCode}
use Rattle.im_link_laws.specs.Program.{IsProgram}
use Rattle.im_keeps.specs.Keeps.{IsInput}
use Rattle.im_keeps_passes.specs.Machine.{Executes}
use Rattle.im_keeps_passes.specs.Passes.{setting, IsSelectable, Selects}
use Rattle.im_select_executes.specs.Executing.{IsInImage, ShowsObjects}
use Rattle.im_pack.specs.Packed.{IsPacked}
use Rattle.im_pack_laws.specs.Places.{linking_in}
use Rattle.im_pack_laws.specs.Laws.{AreStaticsAt}

-- from placed code to its image: the parts, linked and packed
pub record IsImageOf (u : Code) (statics : List ℕ) (layouts : List Layout) (parts : List Part) (code : Linked) (stack out_cap : ℕ) (image : ImageValue) : Type 0 where
  pub well_formed : IsWellFormed u
  pub statics_are : AreStaticsAt u statics
  pub layouts_are : AreLayouts u.functions.items layouts
  pub program : IsProgram u statics layouts parts
  pub linkable : IsLinkable parts
  pub linked : IsLinkedCode parts code
  pub packed : IsPacked u statics code stack out_cap image
  pub is_image : IsImage image

abbrev pub frames_of : List Layout → List ℕ
frames_of layouts = map (λ (l : Layout). l.frame) layouts

abbrev pub InImageLaw : Type 0
InImageLaw =
    (u : Code) (statics : List ℕ) (layouts : List Layout) (parts : List Part) (code : Linked) (stack out_cap : ℕ) (image : ImageValue) (input : List ℕ) →
    IsImageOf u statics layouts parts code stack out_cap image → IsInput input →
    IsInImage image input u (setting (frames_of layouts) image input) (linking_in u statics layouts parts code image input)

-- the machine follows the code wherever it is in the image so
abbrev pub AllExecute : Code → List ℕ → List Layout → List Part → Linked → ImageValue → Type 0
AllExecute u statics layouts parts code image =
    (input : List ℕ) → IsInput input → IsSelectable u →
    IsInImage image input u (setting (frames_of layouts) image input) (linking_in u statics layouts parts code image input) →
    ShowsObjects image input u (linking_in u statics layouts parts code image input) →
    Executes u (setting (frames_of layouts) image input) image input

abbrev pub SelectsLaw : Type 0
SelectsLaw =
    (u : Code) (statics : List ℕ) (layouts : List Layout) (parts : List Part) (code : Linked) (stack out_cap : ℕ) (image : ImageValue) →
    IsImageOf u statics layouts parts code stack out_cap image → AllExecute u statics layouts parts code image → Selects u (frames_of layouts) image
