use Rattle.std.proofs.Common.{◌<◌, length, arith}
use Rattle.std.proofs.lemmas.Option.{slice_get-get_or}
use Rattle.im_lower.proofs.initialise.is_given.Goals as goal

pub returns-then-index-marks : goal.returns-then-index-marks
returns-then-index-marks c =
    let within : c.args.offset < length c.args.marks.now = omega arith in
    c.requires.each c.args.offset _ (slice_get-get_or c.args.marks.now c.args.offset _ within)
