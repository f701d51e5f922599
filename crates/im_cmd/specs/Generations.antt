-- A made source is built with the options that stand where no word gives any, and its image run under periods that all commit.
use Rattle.std.specs.Prelude.{◌≡◌, ℕ, ℤ, List, [], codes}
use Rattle.im_gen.specs.Gen.{gen_source, gen_trace}
use Rattle.im_image.specs.declared.form.Form.{Form}
use Rattle.im_device.specs.Periods.{Device, fresh, power}
use Rattle.im_device.specs.Load.{memory_of}
use Rattle.im_device.specs.Shows.{output_of, status_of}
use Rattle.im_fault.specs.declared.fault.SourceFault.{SourceFault}
use Rattle.im_compile.specs.declared.built.Built.{Built}
use Rattle.im_cmd_words.specs.Named.{default_building}
use Rattle.im_cmd_lines.specs.declared.ending.Ending.{Ending}
use Rattle.im_cmd_lines.specs.declared.ending.Ending.TheVariants.{Returned, StackExhausted, OutOfPower, MachineFault}
use Rattle.im_cmd_lines.specs.Generations.{generation_line}
use Rattle.im_cmd_lines.specs.Runs.{ending_line}
use Rattle.im_cmd_lines.specs.Refusals.{Refused, BadSource, NoMemory}
use Rattle.im_cmd.specs.Builds.{IsBuilt, IsFaulty}
use Rattle.im_cmd.specs.Outcome.{Outcome, done, ending, ending_status}

-- the made source of so many functions was built, and its image run with no input under the periods that are made for its longest gap
pub record Generates (count : ℕ) (built : Built) (ended : Device) : Type 0 where
  pub is_built : IsBuilt (gen_source count) default_building built
  pub run : ended ≡ power (gen_trace count built.gap) (fresh (memory_of built.image []))

-- why it isn't
pub data RefusesGeneration (count : ℕ) : Refused → Type 0 where
  gen_faulty : (fault : SourceFault) → IsFaulty (gen_source count) fault → RefusesGeneration count (BadSource (codes "gen") fault)
  gen_starved : RefusesGeneration count NoMemory

-- the line of a run that halted, and not for want of stack; else how it ended, and nothing of the output
abbrev pub generation_told : Ending → ℕ → List ℕ → ℤ → Outcome
generation_told Returned count output status = done (generation_line count output status) [] (ending_status Returned)
generation_told StackExhausted count output status = done [] (ending_line StackExhausted status) (ending_status StackExhausted)
generation_told OutOfPower count output status = done [] (ending_line OutOfPower status) (ending_status OutOfPower)
generation_told (MachineFault at) count output status = done [] (ending_line (MachineFault at) status) (ending_status (MachineFault at))

abbrev pub generation_outcome : ℕ → Form → Device → Outcome
generation_outcome count form ended = generation_told (ending ended) count (output_of form ended.mem) (status_of ended.mem)
