use Rattle.im_lex.proofs.Fronts.{next_line_comment, next_block_comment, no_comment, star_second}
use Rattle.im_lex.proofs.pieces.comment_piece.Goals as goal

pub returns-then-text-eq47 : goal.returns-then-text-eq47
returns-then-text-eq47 c = next_line_comment c.args.text.now c.line_end.result c.requires.0 c.if-text-eq47.true c.line_end.ensures

pub returns-in-Some : goal.returns-in-Some
returns-in-Some c = next_block_comment c.args.text.now c.in-Some.length c.requires.0 (star_second c.args.text.now c.requires.1 c.if-text-eq47.false) c.in-Some.ensures

pub returns-in-None : goal.returns-in-None
returns-in-None c =
    let star = star_second c.args.text.now c.requires.1 c.if-text-eq47.false in
    (no_comment c.args.text.now c.requires.0 star c.in-None.ensures, (c.requires.0, star))
