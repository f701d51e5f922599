-- The same image in version 2.
use Rattle.std.specs.Prelude.{◌≡◌, ℕ, List}
use Rattle.im_image.specs.declared.version.Version.TheVariants.{Two}
use Rattle.im_image.specs.Contents.{ImageValue, IsImage}
use Rattle.im_image.specs.Text.{image_text}

-- the same content and form
abbrev pub upgraded : ImageValue → ImageValue
upgraded image = record image { version = Two }

-- the old text is an image's, and the new one is that of the same image in version 2
pub record IsUpgrade (old new : List ℕ) : Type 0 where
  pub image : ImageValue
  pub is_image : IsImage image
  pub old_is : old ≡ image_text image
  pub new_is : new ≡ image_text (upgraded image)
