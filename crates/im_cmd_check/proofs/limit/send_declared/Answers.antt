use Rattle.std.proofs.Common.{◌≡◌, subst, drop}
use Rattle.im_io.specs.Whole.{Sends}
use Rattle.im_cmd_check.specs.Message.{declared_message}
use Rattle.im_cmd_check.specs.Reading.{Reading, presumed, reading_of}
use Rattle.im_cmd_check.specs.Runs.{part}
use Rattle.im_cmd_check.proofs.limit.send_declared.Goals as goal

pub returns : goal.returns
returns g c =
    let source = c.args.source.now in
    let place = c.args.place in
    let is : reading_of c.presumed-reading.result ≡ presumed c.args.file.now (part source 0 place.start) = rw (c.as_bytes.ensures.value, c.part_of-head.ensures) at c.presumed-reading.ensures in
    subst (λ (r : Reading). Sends (declared_message r c.args.quantity c.args.count c.args.name.now (drop place.start source)) c.send_declared_message.result (g.S.Sink.state c.args.sink.now) (g.S.Sink.state c.send_declared_message.new.sink)) is
    (rw c.rest_of-rest.ensures at c.send_declared_message.ensures)
