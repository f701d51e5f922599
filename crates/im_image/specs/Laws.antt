-- What follows from the definitions.
use Rattle.std.specs.Prelude.{◌≡◌, ℕ, ◌<◌, List, None, slice_index}
use Rattle.im_image.specs.Contents.{ImageValue, IsImage}
use Rattle.im_image.specs.Text.{image_text}
use Rattle.im_image.specs.Faults.{fault_of}
use Rattle.im_image.specs.Upgrade.{upgraded}

-- two images of one text are one
abbrev pub OneImage : Type 0
OneImage = (one other : ImageValue) → IsImage one → IsImage other → image_text one ≡ image_text other → one ≡ other

-- an image's text has no fault
abbrev pub NoFault : Type 0
NoFault = (image : ImageValue) → IsImage image → fault_of (image_text image) ≡ None

-- bytes without a fault are the text of an image
pub record IsTextOf (text : List ℕ) (image : ImageValue) : Type 0 where
  pub is_image : IsImage image
  pub text_is : text ≡ image_text image

abbrev pub EachText : Type 0
EachText = (text : List ℕ) → ((k : ℕ) → slice_index text k < 256) → fault_of text ≡ None → (image : ImageValue) × IsTextOf text image

-- an image whose text is of version 2 is one too, and stays as it is
pub record Upgrades (image : ImageValue) : Type 0 where
  pub is_image : IsImage (upgraded image)
  pub again : upgraded (upgraded image) ≡ upgraded image

abbrev pub UpgradeLaw : Type 0
UpgradeLaw = (image : ImageValue) → IsImage image → Upgrades image
