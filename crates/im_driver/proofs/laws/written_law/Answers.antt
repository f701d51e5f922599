use Rattle.im_driver.proofs.Typed.{is_written}
use Rattle.im_driver.proofs.laws.written_law.Goals as goal

pub returns : goal.returns
returns c = λ source tokens tree small all is_tree. is_written source small c.words_law.ensures tokens tree c.spelt_law.ensures.spelt all is_tree.parsed
