use Rattle.im_parse_expression.proofs.AroundFacts.{unsuffixed_length}
use Rattle.im_parse_expression.proofs.around.unsuffixed.Goals as goal

pub returns : goal.returns
returns c = unsuffixed_length c.args.suffixes.now
