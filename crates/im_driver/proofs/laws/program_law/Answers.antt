use Rattle.im_driver.proofs.Programs.{ready}
use Rattle.im_driver.proofs.laws.program_law.Goals as goal

pub returns : goal.returns
returns c = ready c.words_law.ensures c.spelt_law.ensures.sources c.word_names_law.ensures c.statics_law.ensures.namable
