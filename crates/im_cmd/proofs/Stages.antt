-- An image is run: the stages put together.
use Rattle.std.proofs.Common.{Bool, ◌≡◌, ◌≢◌, ◌<◌, true≢false, ℕ, suc, length, arith, true, false, Option, Some, None, List, ◌∷◌, [], Ok, Err, refl, sym, ap, ◌∙◌, subst}
use Rattle.im_io.specs.Shelf.{ShelfState}
use Rattle.std.specs.Prelude.{All, slice_index}
use Rattle.std.proofs.lemmas.List.Elements.{All-cons, All-nil}
use Rattle.im_mem.specs.Memory.{Mem, view}
use Rattle.im_image.specs.declared.form.Form.{Form}
use Rattle.im_image.specs.declared.form.Form.TheVariants.{OneLength, TwoLengths}
use Rattle.im_mem_file.specs.Faults.{memory_at}
use Rattle.im_image.specs.Contents.{ImageValue}
use Rattle.im_power.specs.declared.period.Period.{Period}
use Rattle.im_power.specs.Text.{trace_of}
use Rattle.im_power.specs.declared.fault.TraceFault.{TraceFault}
use Rattle.im_device.specs.Load.{memory_of}
use Rattle.im_device.specs.Periods.{Device, fresh, power}
use Rattle.im_emu.specs.State.{Held, SameImage, counted, device_of}
use Rattle.im_num.specs.Variables.{Variable}
use Rattle.im_cmd_words.specs.Named.{Options}
use Rattle.im_mem.specs.Map.{input_capacity}
use Rattle.im_cmd_lines.specs.Refusals.{Refused, FormsDiffer, InputTooLong, NotATrace, TornStores, NoMemory}
use Rattle.im_cmd.specs.Files.{Unchanged, ReadsFile, RefusesFile, file_starved}
use Rattle.im_cmd.specs.Memories.{RefusesResume, memory_unread, no_memory, other_form, Saves, StoresMemory, StoresMemoryPart, memory_limit}
use Rattle.im_cmd.specs.Runs.{Begins, ReadsInput, ReadsPeriods, ReadsTrace, TakesInput, RefusesInput, input_unread, input_too_long, RefusesTrace, trace_unread, no_trace, RunsImage, RefusesRun, unbegun, periods_unread, torn_stores, unsaved, run_starved, needs_form, run_file_limit}
use Rattle.im_cmd.specs.Outcome.{shown}
use Rattle.im_cmd.specs.Stages.{differs, IsBegun, IsTakable, IsTooLong, too_long, Loads, RefusesLoad, long_input, load_starved, RefusesMachine, not_begun, machine_starved}
use Rattle.im_cmd.specs.Stages.{RefusesMemory, faulty_memory, memory_starved, ResumesOn, ResumesText, RefusesSave, save_failed, save_starved, RefusesStoring, storing_failed, storing_starved}
use Rattle.im_cmd.specs.Stages.{TakesPeriods, RefusesPeriods, trace_refused, periods_starved, Ran, RanOn, ended_of}
use Rattle.im_cmd.proofs.Bounds.{trace_is}
use Rattle.im_cmd.proofs.Counts.{trace_run}
use Rattle.im_cmd.proofs.Refusing.{unchanged_none, unchanged_then, unchanged_read}

bytes_all : (xs : List ℕ) → ((k : ℕ) → slice_index xs k < 256) → All (λ byte. byte < 256) xs
bytes_all [] h = All-nil (λ byte. byte < 256)
bytes_all (x ∷ xs) h = All-cons (λ byte. byte < 256) x xs (h 0) (bytes_all xs (λ k. h (suc k)))

takes : (named : Option (List ℕ)) (image : ImageValue) (input : List ℕ) (loaded : Held (List ℕ)) (a b : ShelfState) → ReadsInput named input a b → Loads image input loaded → TakesInput named input a b
takes named image input loaded a b read l = record { reads = read; fits = l.fits; bytes = bytes_all input l.bytes }

pub long_load : (input : List ℕ) (count limit : ℕ) → (count ≡ length input) × (limit ≡ input_capacity) × (limit < count) → RefusesLoad input (InputTooLong count limit)
long_load input count limit h =
    subst (λ (n : ℕ). RefusesLoad input (InputTooLong n limit)) (sym h.0)
    (subst (λ (n : ℕ). RefusesLoad input (InputTooLong (length input) n)) (sym h.1) (long_input (omega (arith, h.0, h.1, h.2))))

-- ---- the input

pub input_read : (named : Option (List ℕ)) (name input : List ℕ) (a b : ShelfState) → named ≡ Some name → ReadsFile name input run_file_limit a b → ReadsInput named input a b
input_read named name input a b e h = subst (λ (n : Option (List ℕ)). ReadsInput n input a b) (sym e) h

pub input_refused : (named : Option (List ℕ)) (name : List ℕ) (a b : ShelfState) → named ≡ Some name → (r : Refused) → RefusesFile name run_file_limit a b r → RefusesInput named a b r
input_refused named name a b e r h = input_unread name r e h

pub input_taken : (named : Option (List ℕ)) (input : List ℕ) (a b : ShelfState) → ReadsInput named input a b → IsTakable input → TakesInput named input a b
input_taken named input a b read h = record { reads = read; fits = h.fits; bytes = bytes_all input h.bytes }

pub input_over : (named : Option (List ℕ)) (input : List ℕ) (a b : ShelfState) → ReadsInput named input a b → (r : Refused) → IsTooLong input r → RefusesInput named a b r
input_over named input a b read r (too_long over) = input_too_long input read over

pub input_unchanged : (named : Option (List ℕ)) (input : List ℕ) (a b : ShelfState) → ReadsInput named input a b → Unchanged a b
input_unchanged None input a b h = subst (λ c. Unchanged a c) (sym h.1) (unchanged_none a)
input_unchanged (Some name) input a b h = unchanged_read name input run_file_limit a b h

-- ---- the periods

pub trace_lists : (name text : List ℕ) (periods : List Period) (a b : ShelfState) → ReadsFile name text run_file_limit a b → trace_of text ≡ Ok periods → ReadsTrace name periods a b
trace_lists name text periods a b h e = record { text = text; reads = h; lists = e }

pub trace_file_refused : (name : List ℕ) (a b : ShelfState) (r : Refused) → RefusesFile name run_file_limit a b r → RefusesTrace name a b r
trace_file_refused name a b r h = trace_unread r h

pub trace_lists_none : (name text : List ℕ) (fault : TraceFault) (a b : ShelfState) → ReadsFile name text run_file_limit a b → trace_of text ≡ Err fault
    → RefusesTrace name a b (NotATrace name fault)
trace_lists_none name text fault a b h e = no_trace text fault h e

pub no_periods : (named : Option (List ℕ)) (a : ShelfState) → RefusesPeriods named a a NoMemory
no_periods named a = periods_starved (unchanged_none a)

pub trace_starved : (name text : List ℕ) (a b : ShelfState) → ReadsFile name text run_file_limit a b → RefusesTrace name a b NoMemory
trace_starved name text a b h = trace_unread NoMemory (file_starved (unchanged_read name text run_file_limit a b h))

pub periods_named : (options : Options) (name : List ℕ) (periods : List Period) (a b : ShelfState) → options.trace ≡ Some name → ReadsTrace name periods a b → TakesPeriods options periods a b
periods_named options name periods a b e h = record {
  reads = subst (λ (n : Option (List ℕ)). ReadsPeriods n options.steps periods a b) (sym e) h;
  is_trace = trace_is h.text periods h.lists;
}

periods_unchanged : (named : Option (List ℕ)) (steps : ℕ) (periods : List Period) (a b : ShelfState) → ReadsPeriods named steps periods a b → Unchanged a b
periods_unchanged None steps periods a b h = subst (λ c. Unchanged a c) (sym h.1) (unchanged_none a)
periods_unchanged (Some name) steps periods a b h = unchanged_read name h.text run_file_limit a b h.reads

-- ---- the memory that a run begins with

pub begins_anew : (image : ImageValue) (named : Option (List ℕ)) (input : List ℕ) (loaded : Held (List ℕ)) (a b : ShelfState) → ReadsInput named input a b → Loads image input loaded → IsBegun image named None loaded a b
begins_anew image named input loaded a b read l = record {
  first = memory_of image input;
  begins = record { input = input; takes = takes named image input loaded a b read l; memory = refl };
  made = l.made;
  of_image = l.of_image;
}

pub anew_unread : (image_name : List ℕ) (image : ImageValue) (named : Option (List ℕ)) (a b : ShelfState) (r : Refused) → RefusesInput named a b r → RefusesMachine image_name image named None a b r
anew_unread image_name image named a b r h = not_begun r h

pub anew_unloaded : (image_name : List ℕ) (image : ImageValue) (named : Option (List ℕ)) (input : List ℕ) (a b : ShelfState) → ReadsInput named input a b → (r : Refused) → RefusesLoad input r → RefusesMachine image_name image named None a b r
anew_unloaded image_name image named input a b read r (long_input over) = not_begun r (input_too_long input read over)
anew_unloaded image_name image named input a b read r load_starved = machine_starved (input_unchanged named input a b read)

pub begins_resumed : (image : ImageValue) (input resume : Option (List ℕ)) (name : List ℕ) (machine : Held (List ℕ)) (a b : ShelfState) → resume ≡ Some name → ResumesOn image name machine a b → IsBegun image input resume machine a b
begins_resumed image input resume name machine a b e h = subst (λ (r : Option (List ℕ)). IsBegun image input r machine a b) (sym e) (record {
  first = memory_at h.text;
  begins = record { text = h.text; reads = h.reads; right = h.resumed.right; form = h.form; memory = refl };
  made = h.resumed.made;
  of_image = record {
    version = h.resumed.of_image.version;
    form = h.resumed.of_image.form ∙ h.form;
    objects = h.resumed.of_image.objects;
  };
})

pub resume_refused : (image_name : List ℕ) (image : ImageValue) (input resume : Option (List ℕ)) (name : List ℕ) (a b : ShelfState) → resume ≡ Some name → (r : Refused) → RefusesResume image_name image name a b r
    → RefusesMachine image_name image input resume a b r
resume_refused image_name image input resume name a b e r h = subst (λ (s : Option (List ℕ)). RefusesMachine image_name image input s a b r) (sym e) (not_begun r h)

begun_unchanged : (image : ImageValue) (input resume : Option (List ℕ)) (m : Mem) (a b : ShelfState) → Begins image input resume m a b → Unchanged a b
begun_unchanged image input None m a b h = input_unchanged input h.input a b h.takes.reads
begun_unchanged image input (Some name) m a b h = unchanged_read name h.text memory_limit a b h.reads

-- ---- a memory's file

pub memory_unheld : (image_name : List ℕ) (image : ImageValue) (name text : List ℕ) (a b : ShelfState) → ReadsFile name text memory_limit a b → (r : Refused) → RefusesMemory name text r → RefusesResume image_name image name a b r
memory_unheld image_name image name text a b read r (faulty_memory fault e) = no_memory text fault read e
memory_unheld image_name image name text a b read r memory_starved = memory_unread NoMemory (file_starved (unchanged_read name text memory_limit a b read))

differ_apart : (f g : Form) → differs f g ≡ true → f ≢ g
differ_apart OneLength OneLength e same = absurd (true≢false (sym e))
differ_apart TwoLengths TwoLengths e same = absurd (true≢false (sym e))
differ_apart OneLength TwoLengths e same = let bad : OneLength ≡ TwoLengths = same in cc
differ_apart TwoLengths OneLength e same = let bad : TwoLengths ≡ OneLength = same in cc

differ_same : (f g : Form) → differs f g ≡ false → f ≡ g
differ_same OneLength OneLength e = refl
differ_same TwoLengths TwoLengths e = refl
differ_same OneLength TwoLengths e = absurd (true≢false e)
differ_same TwoLengths OneLength e = absurd (true≢false e)

pub resumes_on : (image : ImageValue) (name text : List ℕ) (machine : Held (List ℕ)) (a b : ShelfState) → ReadsFile name text memory_limit a b → ResumesText image text machine → differs machine.form image.form ≡ false → ResumesOn image name machine a b
resumes_on image name text machine a b read h e = record { text = text; reads = read; resumed = h; form = sym h.of_image.form ∙ differ_same machine.form image.form e }

pub form_refused : (image_name : List ℕ) (image : ImageValue) (name text : List ℕ) (machine : Held (List ℕ)) (a b : ShelfState) → ReadsFile name text memory_limit a b → ResumesText image text machine
    → differs machine.form image.form ≡ true → RefusesResume image_name image name a b (FormsDiffer image_name image.form name machine.form)
form_refused image_name image name text machine a b read h e =
    subst (λ (f : Form). RefusesResume image_name image name a b (FormsDiffer image_name image.form name f)) (sym h.of_image.form)
    (other_form text read h.right (λ same. differ_apart machine.form image.form e (h.of_image.form ∙ same)))

-- the same of forms that are known to be the image's and the machine's

differs_as : (own form image machine : Form) (b : Bool) → own ≡ image → form ≡ machine → differs form own ≡ b → differs machine image ≡ b
differs_as own form image machine b mine its e =
    subst (λ (f : Form). differs machine f ≡ b) mine (subst (λ (f : Form). differs f own ≡ b) its e)

pub resumes_on_as : (image : ImageValue) (name text : List ℕ) (machine : Held (List ℕ)) (a b : ShelfState) (own form : Form) → ReadsFile name text memory_limit a b → ResumesText image text machine
    → own ≡ image.form → form ≡ machine.form → differs form own ≡ false → ResumesOn image name machine a b
resumes_on_as image name text machine a b own form read h mine its e =
    resumes_on image name text machine a b read h (differs_as own form image.form machine.form false mine its e)

pub form_refused_as : (image_name : List ℕ) (image : ImageValue) (name text : List ℕ) (machine : Held (List ℕ)) (a b : ShelfState) (own form : Form) → ReadsFile name text memory_limit a b → ResumesText image text machine
    → own ≡ image.form → form ≡ machine.form → differs form own ≡ true → RefusesResume image_name image name a b (FormsDiffer image_name own name form)
form_refused_as image_name image name text machine a b own form read h mine its e =
    subst (λ (f : Form). RefusesResume image_name image name a b (FormsDiffer image_name f name form)) (sym mine)
    (subst (λ (f : Form). RefusesResume image_name image name a b (FormsDiffer image_name image.form name f)) (sym its)
    (form_refused image_name image name text machine a b read h (differs_as own form image.form machine.form true mine its e)))

-- ---- the run

pub run_unbegun : (image_name : List ℕ) (image : ImageValue) (resume : Option (List ℕ)) (options : Options) (a b : ShelfState) (r : Refused) → RefusesMachine image_name image options.input resume a b r → RefusesRun image_name image resume options a b r
run_unbegun image_name image resume options a b r (not_begun s h) = unbegun s h
run_unbegun image_name image resume options a b r (machine_starved same) = run_starved same

pub run_periods_refused : (image_name : List ℕ) (image : ImageValue) (resume : Option (List ℕ)) (options : Options) (begun : Held (List ℕ)) (a b c : ShelfState) → IsBegun image options.input resume begun a b
    → (r : Refused) → RefusesPeriods options.trace b c r → RefusesRun image_name image resume options a c r
run_periods_refused image_name image resume options begun a b c l r (trace_refused name s e h) = periods_unread l.first b name s l.begins e h
run_periods_refused image_name image resume options begun a b c l r (periods_starved same) =
    run_starved (unchanged_then a b c (begun_unchanged image options.input resume l.first a b l.begins) same)

-- the periods are refused for the image's form
pub run_torn : (image_name : List ℕ) (image : ImageValue) (resume : Option (List ℕ)) (options : Options) (periods : List Period) (begun : Held (List ℕ)) (a b c : ShelfState) → IsBegun image options.input resume begun a b
    → TakesPeriods options periods b c → needs_form begun.form periods ≡ true → RefusesRun image_name image resume options a c TornStores
run_torn image_name image resume options periods begun a b c l h needs =
    torn_stores l.first b periods l.begins h.reads (ap (λ form. needs_form form periods) (sym l.of_image.form) ∙ needs)

pub ran_on : (image : ImageValue) (resume : Option (List ℕ)) (options : Options) (periods : List Period) (begun run : Held (List ℕ)) (a b c : ShelfState) → IsBegun image options.input resume begun a b
    → TakesPeriods options periods b c → needs_form begun.form periods ≡ false → device_of view run ≡ counted (power periods (device_of view begun)) → SameImage begun run
    → RanOn resume options image run a c
ran_on image resume options periods begun run a b c l h allowed e same =
    let whole : device_of view run ≡ counted (power periods (fresh l.first)) = e ∙ ap (λ d. counted (power periods d)) l.made in
    record {
      run = record {
        first = l.first;
        begun = b;
        begins = l.begins;
        periods = periods;
        reads = h.reads;
        allowed = ap (λ form. needs_form form periods) (sym l.of_image.form) ∙ allowed;
        run = trace_run periods l.first (device_of view run) h.is_trace whole;
      };
      of_image = record {
        version = same.version ∙ l.of_image.version;
        form = same.form ∙ l.of_image.form;
        objects = same.objects ∙ l.of_image.objects;
      };
    }

ran_unchanged : (image : ImageValue) (resume : Option (List ℕ)) (options : Options) (ended : Device) (a b : ShelfState) → RunsImage resume options image ended a b → Unchanged a b
ran_unchanged image resume options ended a b h =
    unchanged_then a h.begun b (begun_unchanged image options.input resume h.first a h.begun h.begins) (periods_unchanged options.trace options.steps h.periods h.begun b h.reads)

pub variables_starved : (image_name : List ℕ) (image : ImageValue) (resume : Option (List ℕ)) (options : Options) (machine : Held (List ℕ)) (a b : ShelfState) → RanOn resume options image machine a b
    → RefusesRun image_name image resume options a b NoMemory
variables_starved image_name image resume options machine a b h = run_starved (ran_unchanged image resume options (ended_of machine) a b h.run)

pub ran : (image : ImageValue) (resume : Option (List ℕ)) (options : Options) (machine : Held (List ℕ)) (variables : Option (List Variable)) (a b c : ShelfState) → RanOn resume options image machine a b
    → variables ≡ shown options.vars machine.objects (view machine.memory) → Saves options.save machine.form (view machine.memory) b c
    → Ran resume options image machine.form (ended_of machine) variables a c
ran image resume options machine variables a b c h vars saved = record {
  run = record {
    ran = b;
    runs = h.run;
    saves = subst (λ (form : Form). Saves options.save form (view machine.memory) b c) h.of_image.form saved;
  };
  form_is = h.of_image.form;
  are_shown = vars ∙ ap (λ objects. shown options.vars objects (view machine.memory)) h.of_image.objects;
}

pub save_refused : (image_name : List ℕ) (image : ImageValue) (resume : Option (List ℕ)) (options : Options) (machine : Held (List ℕ)) (a b c : ShelfState) → RanOn resume options image machine a b
    → (r : Refused) → RefusesSave options.save machine.form (view machine.memory) b c r → RefusesRun image_name image resume options a c r
save_refused image_name image resume options machine a b c h r (save_failed name e part) =
    unsaved (ended_of machine) b name h.run e (subst (λ (form : Form). StoresMemoryPart name form (view machine.memory) b c) h.of_image.form part)
save_refused image_name image resume options machine a b c h r (save_starved same) =
    run_starved (unchanged_then a b c (ran_unchanged image resume options (ended_of machine) a b h.run) same)

-- ---- the last memory

pub saved_named : (named : Option (List ℕ)) (name : List ℕ) (form : Form) (m : Mem) (a b : ShelfState) → named ≡ Some name → StoresMemory name form m a b → Saves named form m a b
saved_named named name form m a b e h = subst (λ (n : Option (List ℕ)). Saves n form m a b) (sym e) h

pub storing_refused : (named : Option (List ℕ)) (name : List ℕ) (form : Form) (m : Mem) (a b : ShelfState) → named ≡ Some name → (r : Refused) → RefusesStoring name form m a b r → RefusesSave named form m a b r
storing_refused named name form m a b e r (storing_failed part) = save_failed name e part
storing_refused named name form m a b e r (storing_starved same) = save_starved same
