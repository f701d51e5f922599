use Rattle.im_cmd_check.proofs.refused.send_source_message.Goals as goal

pub returns-in-Line : goal.returns-in-Line
returns-in-Line g c = rw c.in-Line.is (c.send_at_place.ensures c.args.subject.now)
