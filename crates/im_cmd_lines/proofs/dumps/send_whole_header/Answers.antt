use Rattle.im_cmd_lines.specs.Dumps.{header_lines, form_line}
use Rattle.im_cmd_lines.proofs.Joined.{first_sent, sends_then}
use Rattle.im_cmd_lines.proofs.dumps.send_whole_header.Goals as goal

pub returns-in-Ok : goal.returns-in-Ok
returns-in-Ok g c = sends_then _ _ (header_lines c.args.image.now) (form_line c.args.image.now.version c.args.image.now.form) _ _ _ _ c.in-Ok.ensures c.send_form.ensures

pub returns-in-Err : goal.returns-in-Err
returns-in-Err g c = first_sent (header_lines c.args.image.now) (form_line c.args.image.now.version c.args.image.now.form) _ _ c.in-Err.ensures
