-- The top call's answers, by the words.
use Rattle.std.proofs.Common.{◌≡◌, ℕ, List, None, refl}
use Rattle.std.specs.String.{string_bytes}
use Rattle.im_cmd_lines.specs.Refusals.{NoMemory}
use Rattle.im_io.specs.Shelf.{ShelfState}
use Rattle.im_io.specs.Sink.{SinkState}
use Rattle.im_cmd_words.specs.Named.{named, IsUsage}
use Rattle.im_cmd_words.specs.declared.fault.WordsFault.{WordsFault}
use Rattle.im_cmd_words.specs.declared.fault.WordsFault.TheVariants as fault
use Rattle.im_cmd.specs.Answers.{Answers, usage, starved}
use Rattle.im_cmd.specs.Stages.{TellsFault}
use Rattle.im_cmd.proofs.Reports.{tells_refusal}

pub fault_answers : (words : List (List ℕ)) (f : WordsFault) (shelf : ShelfState) (out err err' : SinkState) (status : ℕ) → (IsUsage f → named words ≡ None) → TellsFault f err err' status → Answers words shelf shelf out out err err' status
fault_answers words (fault.Usage text) shelf out err err' status unnamed told = usage (string_bytes text) (unnamed tt) told.0 refl refl told.1
fault_answers words fault.OutOfMemory shelf out err err' status unnamed told = starved refl (tells_refusal NoMemory out err err' status told.0 told.1)
