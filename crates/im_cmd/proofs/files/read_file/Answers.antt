use Rattle.std.proofs.Common.{rules, ◌≡◌, ℕ, sym, subst}
use Rattle.im_cmd_lines.specs.Refusals.{FileTooLong}
use Rattle.im_cmd.specs.Files.{RefusesFile, file_absent, file_failed, file_starved, file_too_long}
use Rattle.im_cmd.proofs.files.read_file.Goals as goal

pub returns-in-Err-Absent : goal.returns-in-Err-Absent
returns-in-Err-Absent g c = file_absent (search rules) (search rules)

pub returns-in-Err-Fault : goal.returns-in-Err-Fault
returns-in-Err-Fault g c = file_failed (search rules) (search rules)

pub returns-in-Err-TooLong : goal.returns-in-Err-TooLong
returns-in-Err-TooLong g c =
    let e : c.in-Err-TooLong.most ≡ c.args.limit = search rules in
    subst (λ (most : ℕ). RefusesFile c.args.name.now c.args.limit (g.H.Shelf.state c.args.shelf.now) (g.H.Shelf.state c.read_whole.new.shelf) (FileTooLong c.args.name.now most))
    (sym e) (file_too_long (search rules) (search rules))

pub returns-in-Err-OutOfMemory : goal.returns-in-Err-OutOfMemory
returns-in-Err-OutOfMemory g c = file_starved (record { counts = search rules; files = search rules })
