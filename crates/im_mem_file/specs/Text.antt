-- The text of a memory, as a function of its bytes.
use Rattle.std.specs.Prelude.{◌≡◌, ℕ, List, [], ◌∷◌, ◌++◌, length}
use Rattle.std.specs.List.{flat_map}
use Rattle.im_num.specs.Bytes.{word_bytes}
use Rattle.im_mem.specs.Memory.{Mem}
use Rattle.im_mem_paged.specs.Pages.{IsMemory, page_of, pages_of}
use Rattle.im_image.specs.declared.version.Version.{Version}
use Rattle.im_image.specs.declared.version.Version.TheVariants.{One, Two}
use Rattle.im_image.specs.declared.form.Form.{Form}
use Rattle.im_image.specs.declared.form.Form.TheVariants.{OneLength}
use Rattle.im_image.specs.Text.{words_text, version_number, form_words}

-- the bytes "IMMM" as a word
abbrev pub magic : ℕ
magic = 0x4D4D4D49

-- the page's number, and its bytes
abbrev pub page_text : Mem → ℕ → List ℕ
page_text m page = word_bytes page ++ page_of m page

-- the magic, the version, in version 2 the form, how many pages aren't zero, and those pages
unfoldable pub memory_text : Version → Form → Mem → List ℕ
memory_text version form m =
    let pages = pages_of 1280 0 m in
    words_text (magic ∷ version_number version ∷ (form_words version form ++ length pages ∷ [])) ++ flat_map (page_text m) pages

-- version 1 has form 0
abbrev pub HasForm : Version → Form → Type 0
HasForm One form = form ≡ OneLength
HasForm Two form = Unit {0}

-- the bytes are the text of this memory in this form
pub record MemoryText (text : List ℕ) (version : Version) (form : Form) (m : Mem) : Type 0 where
  pub has_form : HasForm version form
  pub is_memory : IsMemory m
  pub text_is : text ≡ memory_text version form m

-- the old text is a memory's, and the new one is that of the same memory in the same form, in version 2
pub record IsUpgrade (old new : List ℕ) : Type 0 where
  pub version : Version
  pub form : Form
  pub memory : Mem
  pub old_is : MemoryText old version form memory
  pub new_is : MemoryText new Two form memory
