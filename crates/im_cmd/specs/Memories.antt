-- A run begins with a saved memory, and its last memory is stored.
use Rattle.std.specs.Prelude.{◌≡◌, ◌≢◌, ℕ, List, Option, Some, None}
use Rattle.im_io.specs.Shelf.{ShelfState}
use Rattle.im_mem.specs.Memory.{Mem}
use Rattle.im_image.specs.declared.form.Form.{Form}
use Rattle.im_image.specs.declared.version.Version.TheVariants.{Two}
use Rattle.im_image.specs.Contents.{ImageValue}
use Rattle.im_mem_file.specs.Text.{MemoryText}
use Rattle.im_mem_file.specs.Faults.{fault_of, form_at, memory_at}
use Rattle.im_mem_file.specs.declared.fault.MemoryFault.{MemoryFault}
use Rattle.im_cmd_lines.specs.Refusals.{Refused, NotAMemory, FormsDiffer, CannotWrite, NoMemory}
use Rattle.im_cmd.specs.Files.{Unchanged, ReadsFile, RefusesFile, StoresText, StoresPart}

-- bytes of a memory's file: a text of version 2 with 1280 pages
abbrev pub memory_limit : ℕ
memory_limit = 5248016

-- the file holds a memory's text, in the image's form, and this is that memory
pub record Resumes (image : ImageValue) (name : List ℕ) (m : Mem) (old new : ShelfState) : Type 0 where
  pub text : List ℕ
  pub reads : ReadsFile name text memory_limit old new
  pub right : fault_of text ≡ None
  pub form : form_at text ≡ image.form
  pub memory : m ≡ memory_at text

-- why no run begins with a file: it isn't read, holds a text that is no memory's, by its first fault, or has another form
pub data RefusesResume (image_name : List ℕ) (image : ImageValue) (name : List ℕ) (old new : ShelfState) : Refused → Type 0 where
  memory_unread : (r : Refused) → RefusesFile name memory_limit old new r → RefusesResume image_name image name old new r
  no_memory : (text : List ℕ) (fault : MemoryFault) → ReadsFile name text memory_limit old new → fault_of text ≡ Some fault
      → RefusesResume image_name image name old new (NotAMemory name fault)
  other_form : (text : List ℕ) → ReadsFile name text memory_limit old new → fault_of text ≡ None → form_at text ≢ image.form
      → RefusesResume image_name image name old new (FormsDiffer image_name image.form name (form_at text))

-- the file holds the version 2 text of this memory in this form, and no other file changed
pub record StoresMemory (name : List ℕ) (form : Form) (m : Mem) (old new : ShelfState) : Type 0 where
  pub text : List ℕ
  pub is_text : MemoryText text Two form m
  pub stores : StoresText name text old new

-- a write failed: the file holds first bytes of that text or is as it was
pub record StoresMemoryPart (name : List ℕ) (form : Form) (m : Mem) (old new : ShelfState) : Type 0 where
  pub text : List ℕ
  pub is_text : MemoryText text Two form m
  pub stores : StoresPart name text old new

-- the memory is stored in the named file; without a name nothing is
abbrev pub Saves : Option (List ℕ) → Form → Mem → ShelfState → ShelfState → Type 0
Saves None form m old new = new ≡ old
Saves (Some name) form m old new = StoresMemory name form m old new
