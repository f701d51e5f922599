use Rattle.std.proofs.Common.{◌≡◌, subst, drop}
use Rattle.im_io.specs.Whole.{Sends}
use Rattle.im_cmd_check.specs.Message.{line_message}
use Rattle.im_cmd_check.specs.Reading.{Reading, presumed, reading_of}
use Rattle.im_cmd_check.specs.Runs.{part}
use Rattle.im_cmd_check.proofs.message.send_at_place.Goals as goal

pub returns : goal.returns
returns g c subject =
    let source = c.args.source.now in
    let place = c.args.place in
    let is : reading_of c.presumed.result ≡ presumed c.args.file.now (part source 0 place.start) = rw (c.as_bytes.ensures.value, c.part_of-head.ensures) at c.presumed.ensures in
    subst (λ (r : Reading). Sends (line_message r c.args.why (part source place.start place.end) (drop place.start source)) c.send_line_message.result (g.S.Sink.state c.args.sink.now) (g.S.Sink.state c.send_line_message.new.sink)) is
    (rw (c.part_of-token.ensures, c.rest_of-rest.ensures) at c.send_line_message.ensures)
