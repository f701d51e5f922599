use Rattle.std.proofs.Common.{◌++◌}
use Rattle.std.specs.List.{flat_map}
use Rattle.im_cmd_lines.specs.Dumps.{header_lines, form_line, object_line}
use Rattle.im_cmd_lines.proofs.Joined.{first_sent, sends_then}
use Rattle.im_cmd_lines.proofs.dumps.send_front.Goals as goal

pub returns-in-Ok : goal.returns-in-Ok
returns-in-Ok g c =
    let image = c.args.image.now in
    sends_then _ _ (header_lines image ++ form_line image.version image.form) (flat_map object_line image.objects) _ _ _ _ c.in-Ok.ensures c.send_objects.ensures

pub returns-in-Err : goal.returns-in-Err
returns-in-Err g c =
    let image = c.args.image.now in
    first_sent (header_lines image ++ form_line image.version image.form) (flat_map object_line image.objects) _ _ c.in-Err.ensures
