use Rattle.im_cmd_words.proofs.EvaluationLemmas.{eval_options}
use Rattle.im_cmd_words.proofs.laws.evaluation_law.Goals as goal

pub returns : goal.returns
returns c = eval_options
