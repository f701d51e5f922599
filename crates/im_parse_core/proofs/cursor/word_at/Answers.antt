use Rattle.im_parse_core.proofs.PlacesAt.{word_is_at}
use Rattle.im_parse_core.proofs.cursor.word_at.Goals as goal

pub returns-in-Some : goal.returns-in-Some
returns-in-Some c = let h = c.in-Some.ensures.lookup in word_is_at c.args.words.now c.args.at c.in-Some.word.now h.3.0 h.1
