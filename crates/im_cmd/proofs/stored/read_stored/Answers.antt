use Rattle.std.proofs.Common.{rules}
use Rattle.im_cmd_lines.specs.Refusals.{refused_of}
use Rattle.im_cmd.specs.Images.{image_unread, no_image}
use Rattle.im_cmd.proofs.Images.{image_starved}
use Rattle.im_cmd.proofs.stored.read_stored.Goals as goal

pub returns-in-Err : goal.returns-in-Err
returns-in-Err g c = image_unread (refused_of c.in-Err.refusal) c.in-Err.ensures

pub returns-in-Err-OutOfMemory : goal.returns-in-Err-OutOfMemory
returns-in-Err-OutOfMemory g c = image_starved _ c.in-Ok.text.items _ _ c.in-Ok.ensures

pub returns : goal.returns
returns g c = no_image c.in-Ok.text.items c.in-Err-read_image.fault c.in-Ok.ensures (search rules)
