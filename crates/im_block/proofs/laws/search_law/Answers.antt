use Rattle.im_block.proofs.Flows.{sectioned_by_search}
use Rattle.im_block.proofs.laws.search_law.Goals as goal

pub returns : goal.returns
returns c = sectioned_by_search
