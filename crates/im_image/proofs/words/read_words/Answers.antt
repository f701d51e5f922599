use Rattle.im_image.proofs.Loops.{words_go_on, words_end}
use Rattle.im_image.proofs.words.read_words.Goals as goal

pub loop-preserved : goal.loop-preserved
loop-preserved c =
    words_go_on c.args.bytes.now c.args.count c.args.place c.loop.counter c.loop.at c.in_ok-word_at.field-0 c.loop.words.items c.push.new.self.items c.loop-test.true c.in_ok-word_at.ensures.word c.in_ok-push.ensures.items c.loop.invariant

pub returns-clause-words : goal.returns-clause-words
returns-clause-words c = words_end c.args.bytes.now c.args.count c.args.place c.loop.counter c.loop.at c.loop.words.items c.loop-test.false c.loop.invariant
