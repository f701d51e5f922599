use Rattle.im_alias.proofs.LeastTags.{least_tags}
use Rattle.im_alias.proofs.laws.least_tags_law.Goals as goal

pub returns : goal.returns
returns c = least_tags
