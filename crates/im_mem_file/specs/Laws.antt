-- What follows from the definitions.
use Rattle.std.specs.Prelude.{◌≡◌, ℕ, ◌<◌, List, None, slice_index}
use Rattle.im_mem.specs.Memory.{Mem}
use Rattle.im_image.specs.declared.version.Version.{Version}
use Rattle.im_image.specs.declared.form.Form.{Form}
use Rattle.im_image.specs.Faults.{version_at}
use Rattle.im_mem_file.specs.Text.{MemoryText}
use Rattle.im_mem_file.specs.Faults.{fault_of, memory_at, form_at}

-- a text without a fault, and what it says
pub record Says (text : List ℕ) (version : Version) (form : Form) (m : Mem) : Type 0 where
  pub no_fault : fault_of text ≡ None
  pub version_is : version_at text ≡ version
  pub form_is : form_at text ≡ form
  pub memory_is : memory_at text ≡ m

-- a memory's text has no fault, and says that memory and that form
abbrev pub OneMemory : Type 0
OneMemory = (text : List ℕ) (version : Version) (form : Form) (m : Mem) → MemoryText text version form m → Says text version form m

-- bytes without a fault are the text of what they say
abbrev pub EachText : Type 0
EachText = (text : List ℕ) → ((k : ℕ) → slice_index text k < 256) → fault_of text ≡ None → MemoryText text (version_at text) (form_at text) (memory_at text)
