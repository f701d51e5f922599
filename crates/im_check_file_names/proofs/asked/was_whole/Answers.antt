use Rattle.std.proofs.Common.{◌∙◌}
use Rattle.im_check_outline.proofs.Walks.{in-reversed}
use Rattle.im_check_file_names.proofs.asked.was_whole.Goals as goal

pub returns : goal.returns
returns c = c.contains.ensures ∙ in-reversed c.args.name.now c.args.file.now.whole
