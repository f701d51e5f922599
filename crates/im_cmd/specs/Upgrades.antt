-- An image or a memory is read from its file, and stored in version 2 under another name.
use Rattle.std.specs.Prelude.{◌≡◌, ℕ, Bool, true, false, List, Some, codes, nat_eq}
use Rattle.std.specs.List.{starts_with}
use Rattle.im_io.specs.Shelf.{ShelfState}
use Rattle.im_image.specs.Contents.{ImageValue, IsImage}
use Rattle.im_image.specs.Text.{image_text}
use Rattle.im_image.specs.Faults as image_faults
use Rattle.im_image.specs.Upgrade.{upgraded}
use Rattle.im_image.specs.declared.fault.ImageFault.{ImageFault}
use Rattle.im_image.specs.declared.version.Version.{Version}
use Rattle.im_image.specs.declared.version.Version.TheVariants.{Two}
use Rattle.im_image.specs.declared.form.Form.{Form}
use Rattle.im_mem.specs.Memory.{Mem}
use Rattle.im_mem_file.specs.Text.{MemoryText}
use Rattle.im_mem_file.specs.Faults as memory_faults
use Rattle.im_mem_file.specs.declared.fault.MemoryFault.{MemoryFault}
use Rattle.im_cmd_lines.specs.Refusals.{Refused, NotAnImage, NotAMemory, CannotWrite}
use Rattle.im_cmd.specs.Files.{ReadsFile, RefusesFile, StoresText, StoresPart}
use Rattle.im_cmd.specs.Images.{image_limit}

-- a text that begins so is read as a memory's, another as an image's
abbrev pub is_memory : List ℕ → Bool
is_memory text = starts_with nat_eq text (codes "IMMM")

-- The text holds an image or a memory in this version; the new text holds the same image, or the same memory in the same form,
-- in version 2.
pub data IsUpgraded (text : List ℕ) : Version → List ℕ → Type 0 where
  of_image : (image : ImageValue) → IsImage image → text ≡ image_text image → IsUpgraded text image.version (image_text (upgraded image))
  of_memory : (new_text : List ℕ) (version : Version) (form : Form) (m : Mem) → MemoryText text version form m → MemoryText new_text Two form m
      → IsUpgraded text version new_text

-- the text of a file holds neither, by its first fault
pub data HoldsNeither (name text : List ℕ) : Refused → Type 0 where
  holds_no_image : (fault : ImageFault) → is_memory text ≡ false → image_faults.fault_of text ≡ Some fault → HoldsNeither name text (NotAnImage name fault)
  holds_no_memory : (fault : MemoryFault) → is_memory text ≡ true → memory_faults.fault_of text ≡ Some fault → HoldsNeither name text (NotAMemory name fault)

-- a text was read, and then the new text stored
pub record Upgrades (source target : List ℕ) (version : Version) (old new : ShelfState) : Type 0 where
  pub text : List ℕ
  pub read : ShelfState
  pub reads : ReadsFile source text image_limit old read
  pub new_text : List ℕ
  pub is_upgraded : IsUpgraded text version new_text
  pub stores : StoresText target new_text read new

-- why none is: the file isn't read, holds neither, or the new text can't be stored
pub data RefusesUpgrade (source target : List ℕ) (old new : ShelfState) : Refused → Type 0 where
  upgrade_unread : (r : Refused) → RefusesFile source image_limit old new r → RefusesUpgrade source target old new r
  upgrade_faulty : (text : List ℕ) (r : Refused) → ReadsFile source text image_limit old new → HoldsNeither source text r
      → RefusesUpgrade source target old new r
  upgrade_unwritten : (text new_text : List ℕ) (version : Version) (read : ShelfState) → ReadsFile source text image_limit old read
      → IsUpgraded text version new_text → StoresPart target new_text read new → RefusesUpgrade source target old new (CannotWrite target)
