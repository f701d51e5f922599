-- An image is run, with the input or the memory and under the periods that the options name, and its last memory is stored.
use Rattle.std.specs.List.{list_any}
use Rattle.std.specs.Prelude.{◌≡◌, ℕ, ◌==◌, not, Bool, true, false, ◌≤◌, ◌<◌, List, [], ◌∷◌, length, All, Option, Some, None, Ok, Err}
use Rattle.im_io.specs.Shelf.{ShelfState}
use Rattle.im_image.specs.declared.form.Form.{Form}
use Rattle.im_image.specs.declared.form.Form.TheVariants.{OneLength, TwoLengths}
use Rattle.im_image.specs.Contents.{ImageValue}
use Rattle.im_power.specs.declared.period.Period.{Period}
use Rattle.im_power.specs.declared.fault.TraceFault.{TraceFault}
use Rattle.im_power.specs.Text.{trace_of}
use Rattle.im_mem.specs.Map.{input_capacity}
use Rattle.im_mem.specs.Memory.{Mem}
use Rattle.im_device.specs.Periods.{Device, fresh, power}
use Rattle.im_device.specs.Load.{memory_of}
use Rattle.im_cmd_words.specs.Named.{Options}
use Rattle.im_cmd_lines.specs.Refusals.{Refused, CannotWrite, InputTooLong, NotATrace, TornStores, NoMemory}
use Rattle.im_cmd.specs.Files.{Unchanged, ReadsFile, RefusesFile}
use Rattle.im_cmd.specs.Memories.{Resumes, RefusesResume, Saves, StoresMemoryPart}

-- bytes of an input's or a trace's file
abbrev pub run_file_limit : ℕ
run_file_limit = 16777216

-- the input is what the named file holds; without a name there is none, and nothing is read
abbrev pub ReadsInput : Option (List ℕ) → List ℕ → ShelfState → ShelfState → Type 0
ReadsInput None input old new = (input ≡ []) × (new ≡ old)
ReadsInput (Some name) input old new = ReadsFile name input run_file_limit old new

-- an input was read, which the machine has room for
pub record TakesInput (named : Option (List ℕ)) (input : List ℕ) (old new : ShelfState) : Type 0 where
  pub reads : ReadsInput named input old new
  pub fits : length input ≤ input_capacity
  pub bytes : All (λ byte. byte < 256) input

-- why none is taken: its file isn't read, or holds more than the machine has room for
pub data RefusesInput (named : Option (List ℕ)) (old new : ShelfState) : Refused → Type 0 where
  input_unread : (name : List ℕ) (r : Refused) → named ≡ Some name → RefusesFile name run_file_limit old new r → RefusesInput named old new r
  input_too_long : (input : List ℕ) → ReadsInput named input old new → input_capacity < length input
      → RefusesInput named old new (InputTooLong (length input) input_capacity)

-- the image's own first memory, with an input
pub record BeginsAnew (image : ImageValue) (named : Option (List ℕ)) (m : Mem) (old new : ShelfState) : Type 0 where
  pub input : List ℕ
  pub takes : TakesInput named input old new
  pub memory : m ≡ memory_of image input

-- The memory that a run begins with: that of the file that is named to be resumed, and then no input is looked at; without a
-- name the image's own.
abbrev pub Begins : ImageValue → Option (List ℕ) → Option (List ℕ) → Mem → ShelfState → ShelfState → Type 0
Begins image input None m old new = BeginsAnew image input m old new
Begins image input (Some name) m old new = Resumes image name m old new

-- why there is none
abbrev pub RefusesBegin : List ℕ → ImageValue → Option (List ℕ) → Option (List ℕ) → ShelfState → ShelfState → Refused → Type 0
RefusesBegin image_name image input None old new r = RefusesInput input old new r
RefusesBegin image_name image input (Some name) old new r = RefusesResume image_name image name old new r

-- the named file's text is a trace's, of these periods
pub record ReadsTrace (name : List ℕ) (periods : List Period) (old new : ShelfState) : Type 0 where
  pub text : List ℕ
  pub reads : ReadsFile name text run_file_limit old new
  pub lists : trace_of text ≡ Ok periods

-- the periods are those of the named file; without a name there is one of so many instructions, with zeros in the registers
abbrev pub ReadsPeriods : Option (List ℕ) → ℕ → List Period → ShelfState → ShelfState → Type 0
ReadsPeriods None steps periods old new = (periods ≡ (record { n = steps; junk = 0; count = 1; mask = 0 }) ∷ []) × (new ≡ old)
ReadsPeriods (Some name) steps periods old new = ReadsTrace name periods old new

-- some period ends within a store
abbrev pub has_torn : List Period → Bool
has_torn periods = list_any (λ period. not (period.mask == 0)) periods

-- only form 1 shows an output that no torn store spoils
abbrev pub needs_form : Form → List Period → Bool
needs_form OneLength periods = has_torn periods
needs_form TwoLengths periods = false

-- the run of an image: the input or the memory was read, then the periods, and nothing failed outside
pub record RunsImage (resume : Option (List ℕ)) (options : Options) (image : ImageValue) (ended : Device) (old new : ShelfState) : Type 0 where
  pub first : Mem
  pub begun : ShelfState
  pub begins : Begins image options.input resume first old begun
  pub periods : List Period
  pub reads : ReadsPeriods options.trace options.steps periods begun new
  pub allowed : needs_form image.form periods ≡ false
  pub run : ended ≡ power periods (fresh first)

-- and then its last memory was stored, where the options name a file for it
pub record RunsAndSaves (resume : Option (List ℕ)) (options : Options) (image : ImageValue) (ended : Device) (old new : ShelfState) : Type 0 where
  pub ran : ShelfState
  pub runs : RunsImage resume options image ended old ran
  pub saves : Saves options.save image.form ended.mem ran new

-- why a trace isn't read: its file isn't, or holds a text that is no trace's, by its first fault
pub data RefusesTrace (name : List ℕ) (old new : ShelfState) : Refused → Type 0 where
  trace_unread : (r : Refused) → RefusesFile name run_file_limit old new r → RefusesTrace name old new r
  no_trace : (text : List ℕ) (fault : TraceFault) → ReadsFile name text run_file_limit old new → trace_of text ≡ Err fault
      → RefusesTrace name old new (NotATrace name fault)

-- why an image isn't run, or its last memory not stored
pub data RefusesRun (image_name : List ℕ) (image : ImageValue) (resume : Option (List ℕ)) (options : Options) (old new : ShelfState) : Refused → Type 0 where
  unbegun : (r : Refused) → RefusesBegin image_name image options.input resume old new r → RefusesRun image_name image resume options old new r
  periods_unread : (first : Mem) (begun : ShelfState) (name : List ℕ) (r : Refused) → Begins image options.input resume first old begun
      → options.trace ≡ Some name → RefusesTrace name begun new r → RefusesRun image_name image resume options old new r
  torn_stores : (first : Mem) (begun : ShelfState) (periods : List Period) → Begins image options.input resume first old begun
      → ReadsPeriods options.trace options.steps periods begun new → needs_form image.form periods ≡ true
      → RefusesRun image_name image resume options old new TornStores
  unsaved : (ended : Device) (ran : ShelfState) (name : List ℕ) → RunsImage resume options image ended old ran → options.save ≡ Some name
      → StoresMemoryPart name image.form ended.mem ran new → RefusesRun image_name image resume options old new (CannotWrite name)
  run_starved : Unchanged old new → RefusesRun image_name image resume options old new NoMemory
