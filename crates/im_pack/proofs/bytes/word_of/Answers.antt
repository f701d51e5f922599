use Rattle.std.proofs.Common.{rules}
use Rattle.im_num.specs.Kinds.{word}
use Rattle.im_pack.proofs.bytes.word_of.Goals as goal

pub returns-in-Number : goal.returns-in-Number
unfolding word
returns-in-Number c = search rules
