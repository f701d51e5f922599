use Rattle.std.proofs.Common.{arith, map}
use Rattle.im_word.specs.Shown.{shown}
use Rattle.im_parse_expression.proofs.TextLines.{no_text, text_first, text_more, text_done}
use Rattle.im_parse_expression.proofs.text.joined_text.Goals as goal

pub returns-in_default : goal.returns-in_default
returns-in_default c = no_text (map shown c.args.words.now) c.in_default.ensures

pub loop-more-init : goal.loop-more-init
loop-more-init c = rw c.in_ok-bytes.ensures.items (text_first (map shown c.args.words.now) c.in-Some.ensures)

pub loop-more-preserved : goal.loop-more-preserved
loop-more-preserved c = rw c.in_ok-extend_from_slice.ensures.items (text_more (map shown c.args.words.now) c.loop-more.bytes.items c.in-Some-text_at.ensures c.loop-more.invariant)

pub loop-more-smaller : goal.loop-more-smaller
loop-more-smaller c = omega (arith, c.in-Some-text_at.ensures)

pub returns : goal.returns
returns c = text_done (map shown c.args.words.now) c.in_default-text_at.ensures c.loop-more.invariant
