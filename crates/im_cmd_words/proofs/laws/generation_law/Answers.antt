use Rattle.im_cmd_words.proofs.GenerationLemmas.{gen_number}
use Rattle.im_cmd_words.proofs.laws.generation_law.Goals as goal

pub returns : goal.returns
returns c = gen_number
