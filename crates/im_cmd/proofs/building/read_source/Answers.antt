use Rattle.std.proofs.Common.{rules}
use Rattle.im_cmd.specs.Files.{file_absent, file_failed, file_too_long}
use Rattle.im_cmd.specs.Builds.{reading_failed, reading_starved, reading_too_long}
use Rattle.im_cmd.proofs.building.read_source.Goals as goal

pub returns-in-Err-Absent-clause-read : goal.returns-in-Err-Absent-clause-read
returns-in-Err-Absent-clause-read g c = reading_failed (file_absent (search rules) (search rules))

pub returns-in-Err-Fault-clause-read : goal.returns-in-Err-Fault-clause-read
returns-in-Err-Fault-clause-read g c = reading_failed (file_failed (search rules) (search rules))

pub returns-in-Err-TooLong-clause-read : goal.returns-in-Err-TooLong-clause-read
returns-in-Err-TooLong-clause-read g c = reading_too_long (file_too_long (search rules) (search rules))

pub returns-in-Err-OutOfMemory-clause-read : goal.returns-in-Err-OutOfMemory-clause-read
returns-in-Err-OutOfMemory-clause-read g c = reading_starved (record { counts = search rules; files = search rules })
