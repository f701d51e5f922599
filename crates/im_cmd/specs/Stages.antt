-- What the stages of a command answer, in the words of the functions' own contracts.
use Rattle.std.specs.Prelude.{◌≡◌, ◌==◌, ◌<◌, ◌≤◌, ◌^◌, ⊤, ℕ, Bool, not, List, [], ◌∷◌, length, slice_index, Option, Some, None, option_map, map, Result, Ok, Err}
use Rattle.std.specs.String.{string_bytes}
use Rattle.im_num.specs.declared.values.Var.{Var}
use Rattle.im_mem.specs.Memory.{view}
use Rattle.im_io.specs.Shelf.{ShelfState}
use Rattle.im_io.specs.Sink.{SinkState}
use Rattle.im_io.specs.Whole.{SentAll, SentFirst}
use Rattle.im_image.specs.Contents.{ImageValue}
use Rattle.im_power.specs.declared.period.Period.{Period}
use Rattle.im_mem.specs.Map.{input_capacity}
use Rattle.im_image.specs.declared.form.Form.{Form}
use Rattle.im_image.specs.Text.{form_number}
use Rattle.im_device.specs.Periods.{Device, fresh, power}
use Rattle.im_device.specs.Load.{memory_of}
use Rattle.im_power.specs.Text.{repeats}
use Rattle.im_gen.specs.Gen.{gen_trace}
use Rattle.im_emu.specs.State.{Held, IsImageOf, device_of}
use Rattle.im_emu.specs.Resume.{IsResumed}
use Rattle.im_num.specs.Variables.{Variable, variable_of}
use Rattle.im_fault.specs.declared.fault.SourceFault.{SourceFault}
use Rattle.im_cmd_words.specs.declared.fault.WordsFault.{WordsFault}
use Rattle.im_cmd_words.specs.declared.fault.WordsFault.TheVariants as fault
use Rattle.im_cmd_words.specs.Named.{Options}
use Rattle.im_cmd_lines.specs.Refusals.{Refused, CannotRead, FileTooLong, BadSource, CannotWrite, InputTooLong, NotAMemory, NotAnImage, NoMemory, refusal_line}
use Rattle.im_cmd.specs.Files.{Unchanged, ReadsFile, StoresPart}
use Rattle.im_mem_file.specs.Faults.{fault_of, form_at, memory_at}
use Rattle.im_mem_file.specs.declared.fault.MemoryFault.{MemoryFault}
use Rattle.im_mem.specs.Memory.{Mem}
use Rattle.im_image.specs.Faults as image_faults
use Rattle.im_image.specs.declared.fault.ImageFault.{ImageFault}
use Rattle.im_cmd.specs.Memories.{StoresMemoryPart, memory_limit}
use Rattle.im_cmd.specs.Upgrades.{HoldsNeither}
use Rattle.im_typed.specs.declared.program.Prog.{Prog}
use Rattle.im_typed.specs.ProgramOf.{program_of}
use Rattle.im_compile.specs.declared.built.Built.{Built}
use Rattle.im_compile.specs.Passed.{IsSource}
use Rattle.im_cmd_words.specs.declared.command.BuildOptions.{BuildOptions}
use Rattle.im_cmd.specs.Builds.{IsBuilt, IsFaulty, Compiles}
use Rattle.im_cmd.specs.Runs.{Begins, RefusesBegin, ReadsPeriods, RunsImage, RunsAndSaves, RefusesTrace}
use Rattle.im_cmd.specs.Generations.{Generates}
use Rattle.im_cmd.specs.Outcome.{Got, shown, no_output_line, refusal_status}

-- the machine as the end of a run
abbrev pub ended_of : Held (List ℕ) → Device
ended_of machine = device_of view machine

-- the variables of the code
abbrev pub variables_of : {V : Type 0} → (V → List Var) → Option V → Option (List Variable)
variables_of items = option_map (λ vars. map variable_of (items vars))

-- what was built of a text is of this program, which can be evaluated
pub record IsBuiltFrom (text : List ℕ) (building : BuildOptions) (prog : Prog) (built : Built) : Type 0 where
  pub is_built : IsBuilt text building built
  pub is_made : is_built.compiled.prog ≡ program_of prog
  pub is_source : IsSource prog

-- and of a source
pub record CompilesFrom (source : List ℕ) (building : BuildOptions) (prog : Prog) (built : Built) (old new : ShelfState) : Type 0 where
  pub compiles : Compiles source building built old new
  pub is_made : compiles.is_built.compiled.prog ≡ program_of prog
  pub is_source : IsSource prog

-- why the text of that file isn't compiled
pub data RefusesText (source text : List ℕ) : Refused → Type 0 where
  text_faulty : (fault : SourceFault) → IsFaulty text fault → RefusesText source text (BadSource source fault)
  text_starved : RefusesText source text NoMemory

-- why an image's text isn't written to its file
pub data RefusesStore (name text : List ℕ) (old new : ShelfState) : Refused → Type 0 where
  store_failed : StoresPart name text old new → RefusesStore name text old new (CannotWrite name)
  store_starved : Unchanged old new → RefusesStore name text old new NoMemory

-- a machine on which nothing was run
pub record Loads (image : ImageValue) (input : List ℕ) (machine : Held (List ℕ)) : Type 0 where
  pub made : device_of view machine ≡ fresh (memory_of image input)
  pub of_image : IsImageOf image machine
  pub fits : length input ≤ input_capacity
  pub bytes : (k : ℕ) → slice_index input k < 256

pub data RefusesLoad (input : List ℕ) : Refused → Type 0 where
  long_input : input_capacity < length input → RefusesLoad input (InputTooLong (length input) input_capacity)
  load_starved : RefusesLoad input NoMemory

-- a machine with the memory that a text says, and nothing was run on it
pub record ResumesText (image : ImageValue) (text : List ℕ) (machine : Held (List ℕ)) : Type 0 where
  pub right : fault_of text ≡ None
  pub made : device_of view machine ≡ fresh (memory_at text)
  pub of_image : IsResumed image text machine

-- why the text of that file isn't taken as a memory's
pub data RefusesMemory (name text : List ℕ) : Refused → Type 0 where
  faulty_memory : (fault : MemoryFault) → fault_of text ≡ Some fault → RefusesMemory name text (NotAMemory name fault)
  memory_starved : RefusesMemory name text NoMemory

-- why it isn't taken as an image's
pub data RefusesImageText (name text : List ℕ) : Refused → Type 0 where
  faulty_image : (fault : ImageFault) → image_faults.fault_of text ≡ Some fault → RefusesImageText name text (NotAnImage name fault)
  image_starved : RefusesImageText name text NoMemory

-- the same from a file, in the image's form
pub record ResumesOn (image : ImageValue) (name : List ℕ) (machine : Held (List ℕ)) (old new : ShelfState) : Type 0 where
  pub text : List ℕ
  pub reads : ReadsFile name text memory_limit old new
  pub resumed : ResumesText image text machine
  pub form : form_at text ≡ image.form

-- two forms by their numbers
abbrev pub differs : Form → Form → Bool
differs one other = not (form_number one == form_number other)

-- a machine on which nothing was run, with the memory that a run begins with
pub record IsBegun (image : ImageValue) (input resume : Option (List ℕ)) (machine : Held (List ℕ)) (old new : ShelfState) : Type 0 where
  pub first : Mem
  pub begins : Begins image input resume first old new
  pub made : device_of view machine ≡ fresh first
  pub of_image : IsImageOf image machine

-- why there is none
pub data RefusesMachine (image_name : List ℕ) (image : ImageValue) (input resume : Option (List ℕ)) (old new : ShelfState) : Refused → Type 0 where
  not_begun : (r : Refused) → RefusesBegin image_name image input resume old new r → RefusesMachine image_name image input resume old new r
  machine_starved : Unchanged old new → RefusesMachine image_name image input resume old new NoMemory

-- why a memory isn't stored in that file
pub data RefusesStoring (name : List ℕ) (form : Form) (m : Mem) (old new : ShelfState) : Refused → Type 0 where
  storing_failed : StoresMemoryPart name form m old new → RefusesStoring name form m old new (CannotWrite name)
  storing_starved : Unchanged old new → RefusesStoring name form m old new NoMemory

-- why a last memory isn't stored
pub data RefusesSave (named : Option (List ℕ)) (form : Form) (m : Mem) (old new : ShelfState) : Refused → Type 0 where
  save_failed : (name : List ℕ) → named ≡ Some name → StoresMemoryPart name form m old new → RefusesSave named form m old new (CannotWrite name)
  save_starved : Unchanged old new → RefusesSave named form m old new NoMemory

-- why it gives nothing to be stored in version 2
pub data RefusesContent (name text : List ℕ) : Refused → Type 0 where
  neither_held : (r : Refused) → HoldsNeither name text r → RefusesContent name text r
  content_starved : RefusesContent name text NoMemory

-- bytes that a machine has room for
pub record IsTakable (input : List ℕ) : Type 0 where
  pub fits : length input ≤ input_capacity
  pub bytes : (k : ℕ) → slice_index input k < 256

-- more bytes than that
pub data IsTooLong (input : List ℕ) : Refused → Type 0 where
  too_long : input_capacity < length input → IsTooLong input (InputTooLong (length input) input_capacity)

-- each period has fewer instructions than a word can count
abbrev pub AreShort : List Period → Type 0
AreShort [] = Unit {0}
AreShort (p ∷ ps) = (p.n < 2 ^ 32) × AreShort ps

-- periods whose instructions a machine's counts hold
pub record IsTrace (periods : List Period) : Type 0 where
  pub short : AreShort periods
  pub few : repeats periods ≤ 1000000

-- periods were read, which a machine's counts hold
pub record TakesPeriods (options : Options) (periods : List Period) (old new : ShelfState) : Type 0 where
  pub reads : ReadsPeriods options.trace options.steps periods old new
  pub is_trace : IsTrace periods

pub data RefusesPeriods (named : Option (List ℕ)) (old new : ShelfState) : Refused → Type 0 where
  trace_refused : (name : List ℕ) (r : Refused) → named ≡ Some name → RefusesTrace name old new r → RefusesPeriods named old new r
  periods_starved : Unchanged old new → RefusesPeriods named old new NoMemory

-- an image was run on this machine
pub record RanOn (resume : Option (List ℕ)) (options : Options) (image : ImageValue) (machine : Held (List ℕ)) (old new : ShelfState) : Type 0 where
  pub run : RunsImage resume options image (ended_of machine) old new
  pub of_image : IsImageOf image machine

-- an image was run and its last memory stored, and its variables are at hand where they are to be shown
pub record Ran (resume : Option (List ℕ)) (options : Options) (image : ImageValue) (form : Form) (ended : Device) (variables : Option (List Variable)) (old new : ShelfState) : Type 0 where
  pub run : RunsAndSaves resume options image ended old new
  pub form_is : form ≡ image.form
  pub are_shown : variables ≡ shown options.vars image.objects ended.mem

-- what was built of a made source was run on this machine
pub record RunsMade (count : ℕ) (built : Built) (machine : Held (List ℕ)) : Type 0 where
  pub run : ended_of machine ≡ power (gen_trace count built.gap) (fresh (memory_of built.image []))
  pub form_is : machine.form ≡ built.image.form

-- a made source was built, and its image run on this machine
pub record Generated (count : ℕ) (machine : Held (List ℕ)) : Type 0 where
  pub built : Built
  pub generates : Generates count built (ended_of machine)
  pub form_is : machine.form ≡ built.image.form

-- ---- telling

-- a text was sent, or wasn't and the second sink got the line that says so
abbrev pub Finishes : {A F : Type 0} → Result A F → SinkState → SinkState → ℕ → Type 0
Finishes (Ok done) err err' status = (err' ≡ err) × (status ≡ 0)
Finishes (Err fault) err err' status = Got no_output_line err err' × (status ≡ 8)

-- a text was sent to the second sink, for this status; where it wasn't taken whole the status is 8
pub data TellsSecond (text : List ℕ) (status : ℕ) (err err' : SinkState) : ℕ → Type 0 where
  second_told : SentAll text err err' → TellsSecond text status err err' status
  second_not_told : SentFirst text err err' → TellsSecond text status err err' 8

-- what is told of words that name no command, that text, or for which memory ran out
abbrev pub TellsFault : WordsFault → SinkState → SinkState → ℕ → Type 0
TellsFault (fault.Usage text) err err' status = (status ≡ 2) × Got (string_bytes text) err err'
TellsFault fault.OutOfMemory err err' status = (status ≡ refusal_status NoMemory) × Got (refusal_line NoMemory) err err'
