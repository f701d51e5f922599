-- What the top call answers, why, and what it leaves.
use Rattle.std.specs.Prelude.{◌≡◌, ℕ, List, [], Option, Some, None}
use Rattle.im_io.specs.Shelf.{ShelfState}
use Rattle.im_io.specs.Sink.{SinkState}
use Rattle.im_image.specs.Contents.{ImageValue}
use Rattle.im_fault.specs.declared.fault.SourceFault.{SourceFault}
use Rattle.im_fault.specs.declared.fault.Subject.{Subject}
use Rattle.im_device.specs.Periods.{Device}
use Rattle.im_cmd_words.specs.declared.command.BuildOptions.{BuildOptions}
use Rattle.im_cmd_words.specs.Named.{Asked, Evaluation, Options, builds, runs, executes, dumps, upgrades, reports, evaluates, generates, checks, default_building, named}
use Rattle.im_compile.specs.declared.built.Built.{Built}
use Rattle.im_cmd_lines.specs.Dumps.{dump_lines}
use Rattle.im_cmd_lines.specs.Upgrades.{upgrade_line}
use Rattle.im_cmd_lines.specs.Refusals.{Refused, NoMemory}
use Rattle.im_driver.specs.Refused.{IsSubject}
use Rattle.im_cmd_check.specs.Message.{source_message}
use Rattle.im_cmd.specs.Files.{Unchanged, ReadsFile}
use Rattle.im_cmd.specs.Builds.{Builds, RefusesBuild, Compiles, RefusesSource, RefusesReading, IsFaulty, source_limit}
use Rattle.im_image.specs.declared.version.Version.{Version}
use Rattle.im_cmd.specs.Images.{ReadsImage, RefusesImage}
use Rattle.im_cmd.specs.Upgrades.{Upgrades, RefusesUpgrade}
use Rattle.im_cmd.specs.Runs.{RunsAndSaves, RefusesRun}
use Rattle.im_store.specs.Outcomes.{Outcome as EndOfRun}
use Rattle.im_cmd.specs.Evaluations.{Evaluates, RefusesEvaluation, evaluation_outcome}
use Rattle.im_cmd.specs.Generations.{Generates, RefusesGeneration, generation_outcome}
use Rattle.im_cmd.specs.Outcome.{Outcome, refused, done, Got, Tells, built_lines, reported_lines, run_outcome}

-- what comes of what a command asks for, by the files of the shelf before and after it
pub data Comes (old new : ShelfState) : Asked → Outcome → Type 0 where
  -- a source is built and its image stored
  build_refused : (source image : List ℕ) (building : BuildOptions) (r : Refused) → RefusesBuild source image building old new r
      → Comes old new (builds source image building) (refused r)
  built : (source image : List ℕ) (building : BuildOptions) (b : Built) → Builds source image building b old new
      → Comes old new (builds source image building) (done (built_lines b) [] 0)
  -- and the image is run, with the files that are there once it is stored
  run_unbuilt : (source image : List ℕ) (building : BuildOptions) (options : Options) (r : Refused) → RefusesBuild source image building old new r
      → Comes old new (runs source image building options) (refused r)
  run_refused : (source image : List ℕ) (building : BuildOptions) (options : Options) (b : Built) (stored : ShelfState) (r : Refused)
      → Builds source image building b old stored → RefusesRun image b.image None options stored new r
      → Comes old new (runs source image building options) (refused r)
  ran : (source image : List ℕ) (building : BuildOptions) (options : Options) (b : Built) (stored : ShelfState) (ended : Device)
      → Builds source image building b old stored → RunsAndSaves None options b.image ended stored new
      → Comes old new (runs source image building options) (run_outcome (Some b) options.vars b.image ended)
  -- an image is read and run, from the memory of the file that is named to be resumed where one is
  exec_unread : (name : List ℕ) (options : Options) (resume : Option (List ℕ)) (r : Refused) → RefusesImage name old new r
      → Comes old new (executes name options resume) (refused r)
  exec_refused : (name : List ℕ) (options : Options) (resume : Option (List ℕ)) (image : ImageValue) (read : ShelfState) (r : Refused)
      → ReadsImage name image old read → RefusesRun name image resume options read new r → Comes old new (executes name options resume) (refused r)
  executed : (name : List ℕ) (options : Options) (resume : Option (List ℕ)) (image : ImageValue) (read : ShelfState) (ended : Device)
      → ReadsImage name image old read → RunsAndSaves resume options image ended read new
      → Comes old new (executes name options resume) (run_outcome None options.vars image ended)
  -- an image is read and shown
  dump_refused : (name : List ℕ) (r : Refused) → RefusesImage name old new r → Comes old new (dumps name) (refused r)
  dumped : (name : List ℕ) (image : ImageValue) → ReadsImage name image old new → Comes old new (dumps name) (done (dump_lines image) [] 0)
  -- an image or a memory is read, and stored in version 2
  upgrade_refused : (source target : List ℕ) (r : Refused) → RefusesUpgrade source target old new r → Comes old new (upgrades source target) (refused r)
  upgraded : (source target : List ℕ) (version : Version) → Upgrades source target version old new
      → Comes old new (upgrades source target) (done (upgrade_line version) [] 0)
  -- a source is built and told of, and nothing is stored
  report_refused : (source : List ℕ) (building : BuildOptions) (r : Refused) → RefusesSource source old new r
      → Comes old new (reports source building) (refused r)
  reported : (source : List ℕ) (building : BuildOptions) (b : Built) → Compiles source building b old new
      → Comes old new (reports source building) (done (reported_lines b) [] 0)
  -- a source is built and its meaning evaluated, and nothing is stored
  eval_refused : (source : List ℕ) (building : BuildOptions) (evaluation : Evaluation) (r : Refused) → RefusesEvaluation source building evaluation old new r
      → Comes old new (evaluates source building evaluation) (refused r)
  evaluated : (source : List ℕ) (building : BuildOptions) (evaluation : Evaluation) (b : Built) (end : EndOfRun) → Evaluates source building evaluation b end old new
      → Comes old new (evaluates source building evaluation) (evaluation_outcome b evaluation.vars end)
  -- a made source is built and its image run, and no file is touched
  gen_refused : (count : ℕ) (r : Refused) → RefusesGeneration count r → new ≡ old → Comes old new (generates count) (refused r)
  generated : (count : ℕ) (b : Built) (ended : Device) → Generates count b ended → new ≡ old
      → Comes old new (generates count) (generation_outcome count b.image.form ended)
  -- a source is read and compiled, nothing is stored, and nothing is told but why it is refused
  check_unread : (source : List ℕ) (r : Refused) → RefusesReading source old new r → Comes old new (checks source) (refused r)
  check_starved : (source : List ℕ) → Unchanged old new → Comes old new (checks source) (refused NoMemory)
  -- and where a quantity is over its limit, of which function it is counted
  check_refused : (source text : List ℕ) (fault : SourceFault) (subject : Subject) → ReadsFile source text source_limit old new → IsFaulty text fault
      → IsSubject text fault subject → Comes old new (checks source) (done [] (source_message source text fault subject) 3)
  checked : (source : List ℕ) (b : Built) → Compiles source default_building b old new → Comes old new (checks source) (done [] [] 0)

-- what comes of it is told
pub record CarriesOut (asked : Asked) (old new : ShelfState) (out out' err err' : SinkState) (status : ℕ) : Type 0 where
  pub outcome : Outcome
  pub comes : Comes old new asked outcome
  pub tells : Tells out out' err err' outcome status

pub data Answers (words : List (List ℕ)) (old new : ShelfState) (out out' err err' : SinkState) (status : ℕ) : Type 0 where
  -- the words name no command: status 2, and a text of usage on the second sink
  usage : (text : List ℕ) → named words ≡ None → status ≡ 2 → new ≡ old → out' ≡ out → Got text err err' → Answers words old new out out' err err' status
  -- memory ran out while the words were read
  starved : new ≡ old → Tells out out' err err' (refused NoMemory) status → Answers words old new out out' err err' status
  -- the command that the words name
  carried_out : (asked : Asked) → named words ≡ Some asked → CarriesOut asked old new out out' err err' status → Answers words old new out out' err err' status
