use Rattle.im_parse_expression.proofs.AroundFacts.{merged_law}
use Rattle.im_parse_expression.proofs.around.merged.Goals as goal

pub returns : goal.returns
returns c = merged_law c.args.at c.args.stars c.args.inner c.args.suffixes c.append.new.self c.append-2.new.self c.in_ok-append.ensures.items c.in_ok-append-2.ensures.items
