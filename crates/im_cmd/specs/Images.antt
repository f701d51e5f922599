-- An image is read from its file.
use Rattle.std.specs.Prelude.{◌≡◌, ℕ, List, Some}
use Rattle.im_io.specs.Shelf.{ShelfState}
use Rattle.im_image.specs.Contents.{ImageValue, IsImage}
use Rattle.im_image.specs.Text.{image_text}
use Rattle.im_image.specs.Faults.{fault_of}
use Rattle.im_image.specs.declared.fault.ImageFault.{ImageFault}
use Rattle.im_cmd_lines.specs.Refusals.{Refused, NotAnImage}
use Rattle.im_cmd.specs.Files.{ReadsFile, RefusesFile}

-- bytes of an image's file
abbrev pub image_limit : ℕ
image_limit = 67108864

-- the file holds the image's text
pub record ReadsImage (name : List ℕ) (image : ImageValue) (old new : ShelfState) : Type 0 where
  pub is_image : IsImage image
  pub reads : ReadsFile name (image_text image) image_limit old new

-- why an image isn't read: its file isn't, or holds a text that is no image's, by its first fault
pub data RefusesImage (name : List ℕ) (old new : ShelfState) : Refused → Type 0 where
  image_unread : (r : Refused) → RefusesFile name image_limit old new r → RefusesImage name old new r
  no_image : (text : List ℕ) (fault : ImageFault) → ReadsFile name text image_limit old new → fault_of text ≡ Some fault
      → RefusesImage name old new (NotAnImage name fault)
