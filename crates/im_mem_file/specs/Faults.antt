-- What a text says, each at its place, and the first thing in it that isn't as it must be.
use Rattle.std.specs.Prelude.{◌≡◌, ℕ, zero, suc, ◌+◌, ◌*◌, ◌==◌, ◌&&◌, nat_le, nat_lt, not, Bool, Option, Some, None, List, [], ◌∷◌, ◌++◌, length, take, drop, if◌then◌else◌}
use Rattle.im_mem.specs.Memory.{Mem, written, zeroed}
use Rattle.im_mem_paged.specs.Pages.{are_zero}
use Rattle.im_image.specs.declared.version.Version.{Version}
use Rattle.im_image.specs.declared.version.Version.TheVariants.{One, Two}
use Rattle.im_image.specs.declared.form.Form.{Form}
use Rattle.im_image.specs.declared.form.Form.TheVariants.{OneLength}
use Rattle.im_image.specs.Faults.{word_at, is_version, version_at, form_of}
use Rattle.im_mem_file.specs.declared.fault.MemoryFault.{MemoryFault}
use Rattle.im_mem_file.specs.declared.fault.MemoryFault.TheVariants.{ShortMemory, BadMagic, BadVersion, BadForm, BadPages, BadPage, Trailing, OutOfMemory}
use Rattle.im_mem_file.specs.Text.{magic}

-- ---- what it says; the version is the second word, as it is an image's

-- the form of a text of this version
abbrev pub form_in : Version → List ℕ → Form
form_in One text = OneLength
form_in Two text = form_of (word_at text 8)

abbrev pub form_at : List ℕ → Form
form_at text = form_in (version_at text) text

-- the place of the number of pages
abbrev pub count_place : Version → ℕ
count_place One = 8
count_place Two = 12

abbrev pub count_at : List ℕ → ℕ
count_at text = word_at text (count_place (version_at text))

-- the place of the first page
abbrev pub pages_place : List ℕ → ℕ
pages_place text = count_place (version_at text) + 4

-- the bytes of the page whose number stands at a place
unfoldable pub page_bytes : List ℕ → ℕ → List ℕ
page_bytes text place = take 4096 (drop (place + 4) text)

-- memory with that page
abbrev pub page_laid : Mem → List ℕ → ℕ → Mem
page_laid m text place = written m (4096 * word_at text place) (page_bytes text place)

-- memory with n pages from a place on
unfoldable pub pages_laid : Mem → List ℕ → ℕ → ℕ → Mem
pages_laid m text zero place = m
pages_laid m text (suc n) place = pages_laid (page_laid m text place) text n (place + 4100)

-- the memory: all is 0 but those pages
unfoldable pub memory_at : List ℕ → Mem
memory_at text = pages_laid zeroed text (count_at text) (pages_place text)

-- ---- what it must meet

-- a rule, and the fault of a text that breaks it
abbrev pub Requirement : Type 0
Requirement = Bool × MemoryFault

-- the fault of the first rule that is broken
abbrev pub first_unmet : List Requirement → Option MemoryFault
first_unmet [] = None
first_unmet (r ∷ others) = if r.0 then first_unmet others else Some r.1

-- it has so many bytes
abbrev pub has_bytes : List ℕ → ℕ → Requirement
has_bytes text n = (nat_le n (length text), ShortMemory (length text))

unfoldable pub version_requirements : List ℕ → List Requirement
version_requirements text =
    has_bytes text 4 ∷ ((word_at text 0 == magic, BadMagic)
    ∷ (has_bytes text 8 ∷ ((is_version (word_at text 4), BadVersion (word_at text 4)) ∷ [])))

-- the form, in version 2
unfoldable pub form_requirements : Version → List ℕ → List Requirement
form_requirements One text = []
form_requirements Two text = has_bytes text 12 ∷ ((nat_le (word_at text 8) 1, BadForm (word_at text 8)) ∷ [])

-- the number of pages, at a place
unfoldable pub count_requirements : List ℕ → ℕ → List Requirement
count_requirements text place = has_bytes text (place + 4) ∷ ((nat_le (word_at text place) 1280, BadPages (word_at text place)) ∷ [])

-- what stands before the pages
unfoldable pub header_requirements : List ℕ → List Requirement
header_requirements text =
    version_requirements text ++ (form_requirements (version_at text) text ++ count_requirements text (count_place (version_at text)))

-- one page at a place, numbered least or higher: its number, then its bytes, which aren't all 0
unfoldable pub page_requirements : List ℕ → (least place : ℕ) → List Requirement
page_requirements text least place =
    has_bytes text (place + 4) ∷ ((nat_le least (word_at text place) && nat_lt (word_at text place) 1280, BadPage (word_at text place))
    ∷ (has_bytes text (place + 4100) ∷ ((not (are_zero (page_bytes text place)), BadPage (word_at text place)) ∷ [])))

-- n pages from a place on, whose numbers rise, and nothing behind them
unfoldable pub pages_requirements : List ℕ → ℕ → (least place : ℕ) → List Requirement
pages_requirements text zero least place = (place == length text, Trailing place) ∷ []
pages_requirements text (suc n) least place = page_requirements text least place ++ pages_requirements text n (word_at text place + 1) (place + 4100)

-- all that a text must meet to be a memory's, from the front
unfoldable pub requirements : List ℕ → List Requirement
requirements text = header_requirements text ++ pages_requirements text (count_at text) 0 (pages_place text)

-- the fault of a text, where it isn't a memory's
unfoldable pub fault_of : List ℕ → Option MemoryFault
fault_of text = first_unmet (requirements text)

-- the answer's fault, want of memory aside
abbrev pub IsFaultOf : MemoryFault → Option MemoryFault → Type 0
IsFaultOf (ShortMemory at) fault = fault ≡ Some (ShortMemory at)
IsFaultOf BadMagic fault = fault ≡ Some BadMagic
IsFaultOf (BadVersion version) fault = fault ≡ Some (BadVersion version)
IsFaultOf (BadForm form) fault = fault ≡ Some (BadForm form)
IsFaultOf (BadPages count) fault = fault ≡ Some (BadPages count)
IsFaultOf (BadPage number) fault = fault ≡ Some (BadPage number)
IsFaultOf (Trailing at) fault = fault ≡ Some (Trailing at)
IsFaultOf OutOfMemory fault = Unit {0}
