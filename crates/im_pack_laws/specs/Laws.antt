-- What a packed image holds, and what memory holds as it is loaded.
use Rattle.std.specs.Prelude.{◌≡◌, ◌≤◌, ℕ, List}
use Rattle.im_mem.specs.Map.{statics_start, statics_capacity}
use Rattle.im_rv.specs.declared.code.Part.{Part}
use Rattle.im_rv.specs.declared.code.Code.{Code as Linked}
use Rattle.im_image.specs.Contents.{ImageValue, IsImage}
use Rattle.im_device.specs.Load.{memory_of}
use Rattle.im_block.specs.declared.unit.Unit.{Unit as Code}
use Rattle.im_block.specs.Meaning.{statics_of}
use Rattle.im_block.specs.Wellformed.{IsWellFormed}
use Rattle.im_frame.specs.declared.layout.Layout.{Layout}
use Rattle.im_frame.specs.Layout.{rooms, places_from}
use Rattle.im_select_addresses.specs.Addresses.{AreLayouts}
use Rattle.im_select_addresses.specs.Statics.{objects_of}
use Rattle.im_select_addresses.specs.Named.{AreNamed}
use Rattle.im_link.specs.Code.{IsLinkable, IsLinked as IsLinkedCode}
use Rattle.im_link_laws.specs.Program.{IsProgram}
use Rattle.im_link_laws.specs.Linking.{ArePlaces}
use Rattle.im_link_laws.specs.Laws.{IsLoaded, HasObjects}
use Rattle.im_keeps.specs.Keeps.{IsInput}
use Rattle.im_keeps_run.specs.Written.{IsWritten}
use Rattle.im_pack.specs.Packed.{IsPacked, IsLoadable}
use Rattle.im_pack_laws.specs.Places.{label_place, setting_of, linking_in}

-- the statics of a unit fit, one behind the other, at these addresses
pub record AreStaticsAt (u : Code) (statics : List ℕ) : Type 0 where
  pub room : rooms (objects_of u.statics.items) ≤ statics_capacity
  pub places : statics ≡ places_from statics_start (objects_of u.statics.items)

-- linked code may be packed
abbrev pub LoadableLaw : Type 0
LoadableLaw = (parts : List Part) (code : Linked) → IsLinkedCode parts code → IsLoadable code

-- recovery and the checkpoint routine stand before all else
abbrev pub PackedLaw : Type 0
PackedLaw =
    (u : Code) (statics : List ℕ) (layouts : List Layout) (parts : List Part) (code : Linked) (stack out_cap : ℕ) (image : ImageValue) →
    IsProgram u statics layouts parts → IsLinkable parts → IsLinkedCode parts code → IsPacked u statics code stack out_cap image → IsImage image → IsWritten image

-- each label has the address of its line
abbrev pub PlacesLaw : Type 0
PlacesLaw = (parts : List Part) (code : Linked) → IsLinkable parts → IsLinkedCode parts code → ArePlaces parts (label_place parts)

-- the low page, the code and the input are in memory
abbrev pub LoadsLaw : Type 0
LoadsLaw =
    (u : Code) (statics : List ℕ) (layouts : List Layout) (code : Linked) (stack out_cap : ℕ) (image : ImageValue) (input : List ℕ) →
    IsPacked u statics code stack out_cap image → IsImage image → IsInput input → IsLoaded (memory_of image input) (setting_of layouts image input) code

-- so are the first values of the statics
abbrev pub HoldsObjectsLaw : Type 0
HoldsObjectsLaw =
    (u : Code) (statics : List ℕ) (layouts : List Layout) (parts : List Part) (code : Linked) (stack out_cap : ℕ) (image : ImageValue) (input : List ℕ) →
    IsWellFormed u → AreStaticsAt u statics → AreLayouts u.functions.items layouts → IsPacked u statics code stack out_cap image → IsImage image →
    HasObjects u statics layouts (linking_in u statics layouts parts code image input) (setting_of layouts image input)

-- the image names them as they are
abbrev pub NamedLaw : Type 0
NamedLaw =
    (u : Code) (statics : List ℕ) (code : Linked) (stack out_cap : ℕ) (image : ImageValue) (layouts : List Layout) (parts : List Part) (input : List ℕ) →
    AreStaticsAt u statics → IsPacked u statics code stack out_cap image → AreNamed (linking_in u statics layouts parts code image input) 0 (statics_of u) image.objects
