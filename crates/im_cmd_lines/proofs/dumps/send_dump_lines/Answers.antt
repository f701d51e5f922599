use Rattle.std.proofs.Common.{◌++◌}
use Rattle.std.specs.List.{flat_map}
use Rattle.im_cmd_lines.specs.Dumps.{header_lines, form_line, object_line, word_lines}
use Rattle.im_cmd_lines.proofs.Joined.{first_sent, sends_then}
use Rattle.im_cmd_lines.proofs.dumps.send_dump_lines.Goals as goal

pub returns-in-Ok : goal.returns-in-Ok
returns-in-Ok g c =
    let image = c.args.image.now in
    sends_then _ _ ((header_lines image ++ form_line image.version image.form) ++ flat_map object_line image.objects) (word_lines 4096 image.words) _ _ _ _ c.in-Ok.ensures c.send_code.ensures

pub returns-in-Err : goal.returns-in-Err
returns-in-Err g c =
    let image = c.args.image.now in
    first_sent ((header_lines image ++ form_line image.version image.form) ++ flat_map object_line image.objects) (word_lines 4096 image.words) _ _ c.in-Err.ensures
