use Rattle.im_parse_expression.proofs.AroundFacts.{unstarred_length}
use Rattle.im_parse_expression.proofs.around.unstarred.Goals as goal

pub returns : goal.returns
returns c = unstarred_length c.args.stars.now
