use Rattle.im_image.proofs.Loops.{WordsRead}
use Rattle.im_image.proofs.words.read_words.Given as goal

abbrev pub invariant-loop : goal.invariant-loop
invariant-loop l = WordsRead l.bytes l.count l.place l.counter l.at l.words.items
