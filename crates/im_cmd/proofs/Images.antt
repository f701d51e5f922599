-- Images read from files.
use Rattle.std.proofs.Common.{◌≡◌, ℕ, Some, List, subst}
use Rattle.im_io.specs.Shelf.{ShelfState}
use Rattle.im_image.specs.Contents.{ImageValue, IsImage}
use Rattle.im_image.specs.Text.{image_text}
use Rattle.im_image.specs.Faults.{fault_of}
use Rattle.im_image.specs.declared.fault.ImageFault.{ImageFault}
use Rattle.im_cmd_lines.specs.Refusals.{Refused, NotAnImage, NoMemory}
use Rattle.im_cmd.specs.Files.{ReadsFile, RefusesFile, file_starved}
use Rattle.im_cmd.specs.Images.{ReadsImage, RefusesImage, image_unread, no_image, image_limit}
use Rattle.im_cmd.proofs.Refusing.{unchanged_read}

pub reads_image : (name bytes : List ℕ) (image : ImageValue) (a b : ShelfState) → ReadsFile name bytes image_limit a b → IsImage image → bytes ≡ image_text image → ReadsImage name image a b
reads_image name bytes image a b h is e = record { is_image = is; reads = subst (λ text. ReadsFile name text image_limit a b) e h }

pub image_file_refused : (name : List ℕ) (a b : ShelfState) (r : Refused) → RefusesFile name image_limit a b r → RefusesImage name a b r
image_file_refused name a b r h = image_unread r h

pub faulty_image : (name bytes : List ℕ) (fault : ImageFault) (a b : ShelfState) → ReadsFile name bytes image_limit a b → fault_of bytes ≡ Some fault
    → RefusesImage name a b (NotAnImage name fault)
faulty_image name bytes fault a b h e = no_image bytes fault h e

pub image_starved : (name bytes : List ℕ) (a b : ShelfState) → ReadsFile name bytes image_limit a b → RefusesImage name a b NoMemory
image_starved name bytes a b h = image_unread NoMemory (file_starved (unchanged_read name bytes image_limit a b h))
