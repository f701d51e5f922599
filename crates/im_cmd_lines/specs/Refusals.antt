-- What is printed of a command that isn't carried out.
use Rattle.std.specs.Prelude.{ℕ, List, ◌++◌, codes, decimal}
use Rattle.im_image.specs.declared.form.Form.{Form}
use Rattle.im_image.specs.Text.{form_number}
use Rattle.im_image.specs.declared.fault.ImageFault.{ImageFault}
use Rattle.im_image.specs.declared.fault.ImageFault.TheVariants as image_fault
use Rattle.im_fault.specs.declared.fault.SourceFault.{SourceFault}
use Rattle.im_fault.specs.Texts.{source_fault_text}
use Rattle.im_power.specs.declared.fault.TraceFault.{TraceFault}
use Rattle.im_power.specs.declared.fault.TraceFault.TheVariants as trace_fault
use Rattle.im_mem_file.specs.declared.fault.MemoryFault.{MemoryFault}
use Rattle.im_mem_file.specs.declared.fault.MemoryFault.TheVariants as memory_fault
use Rattle.im_cmd_lines.specs.declared.refusal.Refusal.{Refusal}
use Rattle.im_cmd_lines.specs.declared.refusal.Refusal.TheVariants as refusal

-- why a command isn't carried out, with the name of the file that is the cause
pub data Refused : Type 0 where
  CannotRead : List ℕ → Refused
  BadSource : List ℕ → SourceFault → Refused
  NotAnImage : List ℕ → ImageFault → Refused
  CannotWrite : List ℕ → Refused
  -- how many bytes there are, and the most that there may be
  InputTooLong : ℕ → ℕ → Refused
  FileTooLong : List ℕ → ℕ → Refused
  NotATrace : List ℕ → TraceFault → Refused
  -- a period ends within a store, and the image's form is 0
  TornStores : Refused
  NotAMemory : List ℕ → MemoryFault → Refused
  -- the image and its form, and the memory's file and its form
  FormsDiffer : List ℕ → Form → List ℕ → Form → Refused
  NoMemory : Refused

abbrev pub image_fault_text : ImageFault → List ℕ
image_fault_text (image_fault.ShortImage count) = codes "short image at " ++ decimal count
image_fault_text image_fault.BadMagic = codes "bad magic"
image_fault_text (image_fault.BadVersion version) = codes "bad version " ++ decimal version
image_fault_text (image_fault.BadField field) = codes "bad field " ++ decimal field
image_fault_text (image_fault.Trailing place) = codes "trailing bytes at " ++ decimal place
image_fault_text image_fault.OutOfMemory = codes "no memory"

abbrev pub trace_fault_text : TraceFault → List ℕ
trace_fault_text (trace_fault.BadLine line) = codes "bad line " ++ decimal line
trace_fault_text (trace_fault.ZeroRepeat line) = codes "zero repeat at line " ++ decimal line
trace_fault_text (trace_fault.TooMany sum) = codes "too many periods " ++ decimal sum
trace_fault_text trace_fault.OutOfMemory = codes "no memory"

abbrev pub memory_fault_text : MemoryFault → List ℕ
memory_fault_text (memory_fault.ShortMemory count) = codes "short memory at " ++ decimal count
memory_fault_text memory_fault.BadMagic = codes "bad magic"
memory_fault_text (memory_fault.BadVersion version) = codes "bad version " ++ decimal version
memory_fault_text (memory_fault.BadForm form) = codes "bad form " ++ decimal form
memory_fault_text (memory_fault.BadPages count) = codes "bad pages " ++ decimal count
memory_fault_text (memory_fault.BadPage page) = codes "bad page " ++ decimal page
memory_fault_text (memory_fault.Trailing place) = codes "trailing bytes at " ++ decimal place
memory_fault_text memory_fault.OutOfMemory = codes "no memory"

-- a file's name and a form
abbrev pub form_text : List ℕ → Form → List ℕ
form_text name form = name ++ codes " is form " ++ decimal (form_number form)

abbrev pub refusal_text : Refused → List ℕ
refusal_text (CannotRead name) = codes "cannot read " ++ name
refusal_text (BadSource name fault) = name ++ source_fault_text fault
refusal_text (NotAnImage name fault) = name ++ codes ": " ++ image_fault_text fault
refusal_text (CannotWrite name) = codes "cannot write " ++ name
refusal_text (InputTooLong count limit) = codes "input of " ++ decimal count ++ codes " bytes over " ++ decimal limit
refusal_text (FileTooLong name limit) = name ++ codes " over " ++ decimal limit ++ codes " bytes"
refusal_text (NotATrace name fault) = name ++ codes ": " ++ trace_fault_text fault
refusal_text TornStores = codes "torn stores need form 1"
refusal_text (NotAMemory name fault) = name ++ codes ": " ++ memory_fault_text fault
refusal_text (FormsDiffer image form memory other) = form_text image form ++ codes ", " ++ form_text memory other
refusal_text NoMemory = codes "no memory"

-- behind the program's name
abbrev pub refusal_line : Refused → List ℕ
refusal_line refused = codes "intermit: " ++ refusal_text refused ++ codes "\n"

-- the code's refusal
abbrev pub refused_of : Refusal → Refused
refused_of (refusal.CannotRead name) = CannotRead name.now
refused_of (refusal.BadSource name fault) = BadSource name.now fault
refused_of (refusal.NotAnImage name fault) = NotAnImage name.now fault
refused_of (refusal.CannotWrite name) = CannotWrite name.now
refused_of (refusal.InputTooLong count limit) = InputTooLong count limit
refused_of (refusal.FileTooLong name limit) = FileTooLong name.now limit
refused_of (refusal.NotATrace name fault) = NotATrace name.now fault
refused_of refusal.TornStores = TornStores
refused_of (refusal.NotAMemory name fault) = NotAMemory name.now fault
refused_of (refusal.FormsDiffer image form memory other) = FormsDiffer image.now form memory.now other
refused_of refusal.OutOfMemory = NoMemory
